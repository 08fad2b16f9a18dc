-- The numbers of copies in a run over a channel are those that lines may have.
use Rattle.std.proofs.Common.{◌≡◌, ◌⊎◌, inl, inr, ℕ, zero, suc, ◌+◌, ◌*◌, ◌^◌, ◌<◌, ◌≤◌, Bool, true, false, cond, List, [], ◌∷◌, ◌++◌, length, Option, Some, None, Result, Ok, Err, is_some, refl, sym, ap, ap₂, subst, ◌∙◌, arith, take}
use Rattle.std.specs.Prelude.{nat_le}
use Rattle.std.specs.List.{AllByRecursion}
use Rattle.std.proofs.lemmas.List.Splits.{length-slice_split}
use Rattle.std.proofs.lemmas.List.Sums.{count_by-le-length}
use Rattle.mesh_base.specs.Parts.{parts}
use Rattle.mesh_grammar.proofs.Readings.{if_case}
use Rattle.mesh_grammar.specs.declared.fault.LineFault.{LineFault}
use Rattle.mesh_model.specs.Choices.{first_turn, first_send, first_ask}
use Rattle.mesh_model.specs.Worlds as worlds
use Rattle.mesh_model.specs.Worlds.{World, Copy, Event, Give, Turn, Send, Ask, Link, Cut, Deliver, Lose, Double, Outcome, Idle, Next, WorldEffect, Changed, Taken, Sent, CopyHeard, CopyLost, CopyDoubled, find_copy, step, is_parcel, at_copy, without_copy, with_double}
use Rattle.mesh_text.specs.Schedule as schedule
use Rattle.mesh_text.specs.Schedule.{world_of, with_world, outcome_at, next_state, with_line_read}
use Rattle.mesh_text.specs.Runs.{run_state_after}
use Rattle.mesh_text.proofs.RunStates.{IsKept, UsualList, started_kept, stepped_kept}
use Rattle.mesh_fates.specs.declared.rates.Rates.{Rates}
use Rattle.mesh_fates.specs.Fates.{draw}
use Rattle.mesh_fates.specs.declared.fate.Lot.{Lot}
use Rattle.mesh_fates.specs.declared.fate.Fate.{Fate}
use Rattle.mesh_fates.specs.Plans.{Plan}
use Rattle.mesh_fates.specs.declared.due.Due.{Due}
use Rattle.mesh_fates.specs.Channels.{Channel, losses, doublings, number_behind, with_fate, decided, after_world_effect, after_chosen, after_given, is_unicast}
use Rattle.mesh_fates.proofs.Deciding.{behind_few, few_left}
use Rattle.mesh_channel.specs.Choices.{Choice, Chosen, Nothing, in_flight, looked_at, by_nodes, ask_or, send_or, due_or, turn_or, left_or, in_tick, next_due, or_next_tick, next_choice, is_enough, last_tick, at_end}
use Rattle.mesh_channel.specs.declared.until.Until.{Until}
use Rattle.mesh_channel.specs.declared.until.Until.TheVariants.{Events, Tick}
use Rattle.mesh_channel.specs.Chosen.{Drawn, given, event_then, choice_then, chosen_from, chosen_in, chosen}
use Rattle.mesh_channel.proofs.HasLine.{HasLine}
use Rattle.mesh_channel.proofs.InMesh.{IsOfLeft, LeftUsual, UsualDrawn, usual_choice, UsualChoice, chosen_left}
use Rattle.mesh_channel.proofs.Steps.{cast_in, MakesFew, step_few, step_grows, numbered_found, step_rises}

-- ---- what is left to do

-- a number that a line may have
abbrev pub IsNumber : ℕ → Type 0
IsNumber id = (1 ≤ id) × (id ≤ 18446744073709551615)

-- a doubling or a loss of a copy with such a number
unfoldable pub IsLeft : Event → Type 0
IsLeft (Double id) = IsNumber id
IsLeft (Lose id) = IsNumber id
IsLeft others = ⊥

unfoldable pub AllLeft : List Event → Type 0
AllLeft left = AllByRecursion IsLeft left

-- so few of them
pub record IsFew (left : List Event) : Type 0 where
  pub all : AllLeft left
  pub few : length left ≤ 600

all_append : (es fs : List Event) → AllLeft es → AllLeft fs → AllLeft (es ++ fs)
unfolding AllLeft
all_append [] fs one other = other
all_append (e ∷ es) fs one other = (one.0, all_append es fs one.1 other)

pub left_line : (e : Event) → IsLeft e → HasLine e
unfolding IsLeft
left_line (Double id) is = is
left_line (Lose id) is = is
left_line (Give x d b) is = absurd is
left_line (Turn x) is = absurd is
left_line (Send x d) is = absurd is
left_line (Ask x d) is = absurd is
left_line (Link a b) is = absurd is
left_line (Cut a b) is = absurd is
left_line (Deliver id) is = absurd is

losses_all : (id : ℕ) (lost : Bool) → IsNumber id → AllLeft (cond lost (Lose id ∷ []) [])
unfolding AllLeft IsLeft
losses_all id true is = (is, tt)
losses_all id false is = tt

doublings_all : (id new : ℕ) (lot : Option Lot) → IsNumber id → IsNumber new → AllLeft (doublings id new lot)
unfolding AllLeft IsLeft
doublings_all id new None is other = tt
doublings_all id new (Some lot) is other = (is, losses_all new lot.lost other)

decided_all : (rates : Rates) (unicast : Bool) (count id new : ℕ) (c : Channel) → 1 ≤ id → 1 ≤ new → id + count ≤ 2 ^ 63 → new + count ≤ 2 ^ 63 → AllLeft c.left → AllLeft (decided rates unicast count id new c).left
unfolding decided
decided_all rates unicast zero id new c one other low high is = is
decided_all rates unicast (suc count) id new c one other low high is =
    let drawn = draw rates unicast c.rng in
    let behind = behind_few new drawn.fate.double in
    let number : IsNumber id = (one, omega arith) in
    let double : IsNumber new = (other, omega arith) in
    decided_all rates unicast count (id + 1) (number_behind new drawn.fate.double) (with_fate (record c { rng = drawn.rng }) id new drawn.fate)
    (omega arith) (omega (arith, behind.0)) (omega arith) (omega (arith, behind.1))
    (all_append (c.left ++ doublings id new drawn.fate.double) (losses id drawn.fate.lot)
    (all_append c.left (doublings id new drawn.fate.double) is (doublings_all id new drawn.fate.double number double)) (losses_all id drawn.fate.lot.lost number))

-- ---- after an event

-- the world has few nodes, and a number for the next copy that isn't near the greatest
pub record IsSmall (w : World) : Type 0 where
  pub some : 1 ≤ w.next_copy
  pub low : w.next_copy ≤ 2 ^ 62
  pub nodes : length w.nodes ≤ 200

pub world_effect_all : (rates : Rates) (w : World) (h : WorldEffect) (c : Channel) → IsSmall w → cast_in h ≤ length w.nodes → AllLeft c.left → AllLeft (after_world_effect rates w h c).left
world_effect_all rates w Changed c small few is = is
world_effect_all rates w (Taken took effect copies) c small few is =
    let some = small.some in let low = small.low in let nodes = small.nodes in
    decided_all rates (is_unicast effect.cast) (length copies) w.next_copy (w.next_copy + length copies) c some (omega arith) (omega arith) (omega arith) is
world_effect_all rates w (Sent effect copies) c small few is =
    let some = small.some in let low = small.low in let nodes = small.nodes in
    decided_all rates (is_unicast effect.cast) (length copies) w.next_copy (w.next_copy + length copies) c some (omega arith) (omega arith) (omega arith) is
world_effect_all rates w (CopyHeard from to) c small few is = is
world_effect_all rates w (CopyLost copy) c small few is = is
world_effect_all rates w (CopyDoubled id to parcel) c small few is = is

pub world_effect_few : (rates : Rates) (w : World) (h : WorldEffect) (c : Channel) → length (after_world_effect rates w h c).left ≤ length c.left + 3 * cast_in h
world_effect_few rates w Changed c = omega arith
world_effect_few rates w (Taken took effect copies) c = few_left rates (is_unicast effect.cast) (length copies) w.next_copy (w.next_copy + length copies) c
world_effect_few rates w (Sent effect copies) c = few_left rates (is_unicast effect.cast) (length copies) w.next_copy (w.next_copy + length copies) c
world_effect_few rates w (CopyHeard from to) c = omega arith
world_effect_few rates w (CopyLost copy) c = omega arith
world_effect_few rates w (CopyDoubled id to parcel) c = omega arith

-- after an event that was chosen where nothing was left to do
pub cast_few : (rates : Rates) (w : World) (o : Outcome) (c : Channel) → IsSmall w → MakesFew w o → c.left ≡ [] → IsFew (after_chosen rates w o c).left
unfolding MakesFew AllLeft
cast_few rates w Idle c small few none = record { all = subst AllLeft (sym none) tt; few = let count : length c.left ≡ 0 = ap length none in omega arith }
cast_few rates w (worlds.Full x field) c small few none = record { all = subst AllLeft (sym none) tt; few = let count : length c.left ≡ 0 = ap length none in omega arith }
cast_few rates w (Next v h) c small few none = record {
  all = world_effect_all rates w h c small few.1 (subst AllLeft (sym none) tt);
  few = let count : length c.left ≡ 0 = ap length none in let nodes = small.nodes in omega (arith, world_effect_few rates w h c, few.1);
}

-- a doubling or a loss makes nothing more to do
lost_quiet : (rates : Rates) (w : World) (id : ℕ) (c : Channel) (o : Option Copy) → after_chosen rates w (at_copy o (λ k. Next (without_copy w id) (CopyLost k))) c ≡ c
lost_quiet rates w id c None = refl
lost_quiet rates w id c (Some k) = refl

doubled_quiet : (rates : Rates) (w : World) (c : Channel) (o : Option Copy) → after_chosen rates w (at_copy o (λ k. Next (with_double w k) (CopyDoubled w.next_copy k.to (is_parcel k.message)))) c ≡ c
doubled_quiet rates w c None = refl
doubled_quiet rates w c (Some k) = refl

pub quiet_of_left : (rates : Rates) (w : World) (e : Event) (c : Channel) → IsOfLeft e → after_chosen rates w (step w e) c ≡ c
unfolding IsOfLeft step
quiet_of_left rates w (Double id) c is = doubled_quiet rates w c (find_copy w.flying id)
quiet_of_left rates w (Lose id) c is = lost_quiet rates w id c (find_copy w.flying id)
quiet_of_left rates w (Give x d b) c is = absurd is
quiet_of_left rates w (Turn x) c is = absurd is
quiet_of_left rates w (Send x d) c is = absurd is
quiet_of_left rates w (Ask x d) c is = absurd is
quiet_of_left rates w (Link a b) c is = absurd is
quiet_of_left rates w (Cut a b) c is = absurd is
quiet_of_left rates w (Deliver id) c is = absurd is

of_left : (e : Event) → IsLeft e → IsOfLeft e
unfolding IsLeft IsOfLeft
of_left (Double id) is = tt
of_left (Lose id) is = tt
of_left (Give x d b) is = absurd is
of_left (Turn x) is = absurd is
of_left (Send x d) is = absurd is
of_left (Ask x d) is = absurd is
of_left (Link a b) is = absurd is
of_left (Cut a b) is = absurd is
of_left (Deliver id) is = absurd is

pub left_quiet : (rates : Rates) (w : World) (e : Event) (c : Channel) → IsLeft e → after_chosen rates w (step w e) c ≡ c
left_quiet rates w e c is = quiet_of_left rates w e c (of_left e is)

-- ---- what is chosen next

-- the head of a plan has a number that a line may have
unfoldable pub HeadNumbered : Plan → Type 0
HeadNumbered [] = Unit {0}
HeadNumbered (d ∷ plan) = IsNumber d.id

head_flying : (flying : List Copy) (plan : Plan) → ((id : ℕ) → is_some (find_copy flying id) ≡ true → IsNumber id) → HeadNumbered (in_flight flying plan)
unfolding in_flight HeadNumbered
head_flying flying [] all = tt
head_flying flying (d ∷ plan) all = if_case HeadNumbered (is_some (find_copy flying d.id)) (d ∷ plan) (in_flight flying plan) (λ there. all d.id there) (λ _. head_flying flying plan all)

-- an event that a line may be, which is of what is left or leaves nothing left behind it; or nothing is left, and the head of the plan is numbered
unfoldable pub Fits : Choice → Type 0
Fits (Chosen e c) = HasLine e × IsFew c.left × ((c.left ≡ []) ⊎ IsLeft e)
Fits (Nothing c) = (c.left ≡ []) × HeadNumbered c.plan

pub none_few : (left : List Event) → left ≡ [] → IsFew left
unfolding AllLeft
none_few [] none = record { all = tt; few = omega arith }
none_few (e ∷ es) none = absurd (let P : ⊥ = cc in P)

fits_ask : (c : Channel) (o : Option (ℕ × ℕ)) → c.left ≡ [] → HeadNumbered c.plan → Fits (ask_or c o)
unfolding Fits
fits_ask c None none head = (none, head)
fits_ask c (Some p) none head = (tt, none_few c.left none, inl none)

fits_send : (c : Channel) (o : Option (ℕ × ℕ)) (others : Choice) → c.left ≡ [] → Fits others → Fits (send_or c o others)
unfolding Fits
fits_send c None others none rest = rest
fits_send c (Some p) others none rest = (tt, none_few c.left none, inl none)

fits_nodes : (w : World) (c : Channel) → c.left ≡ [] → HeadNumbered c.plan → Fits (by_nodes w c)
fits_nodes w c none head = fits_send c (first_send w) (ask_or c (first_ask w)) none (fits_ask c (first_ask w) none head)

fits_due : (w : World) (c : Channel) (plan : Plan) → c.left ≡ [] → HeadNumbered c.plan → HeadNumbered plan → Fits (due_or w c plan)
unfolding Fits HeadNumbered
fits_due w c [] none head first = fits_nodes w c none head
fits_due w c (d ∷ plan) none head first =
    if_case Fits (nat_le d.tick c.tick) (Chosen (Deliver d.id) (record c { plan = plan })) (by_nodes w c) (λ _. (first, none_few c.left none, inl none)) (λ _. fits_nodes w c none head)

fits_turn : (c : Channel) (o : Option ℕ) (others : Choice) → c.left ≡ [] → Fits others → Fits (turn_or c o others)
unfolding Fits
fits_turn c None others none rest = rest
fits_turn c (Some x) others none rest = (tt, none_few c.left none, inl none)

fits_left : (c : Channel) (left : List Event) (others : Choice) → c.left ≡ left → IsFew left → (c.left ≡ [] → Fits others) → Fits (left_or c left others)
unfolding Fits AllLeft
fits_left c [] others same few rest = rest same
fits_left c (e ∷ es) others same few rest =
    (left_line e few.all.0, record { all = few.all.1; few = let count = few.few in omega arith }, inr few.all.0)

fits_tick : (w : World) (c : Channel) → ((id : ℕ) → is_some (find_copy w.flying id) ≡ true → IsNumber id) → IsFew c.left → Fits (in_tick w c)
unfolding in_tick
fits_tick w c all few =
    let looked : Channel = looked_at w c in
    let head : HeadNumbered looked.plan = head_flying w.flying c.plan all in
    fits_left c c.left (turn_or c (first_turn w) (due_or w looked looked.plan)) refl few (λ none. fits_turn c (first_turn w) (due_or w looked looked.plan) none (fits_due w looked looked.plan none head head))

fits_end : (until : Until) (c : Channel) → c.left ≡ [] → HeadNumbered c.plan → Fits (Nothing (at_end until c))
unfolding Fits
fits_end (Events count) c none head = (none, head)
fits_end (Tick last) c none head = (none, head)

fits_next : (until : Until) (c : Channel) (plan : Plan) → c.left ≡ [] → HeadNumbered c.plan → HeadNumbered plan → Fits (next_due until c plan)
unfolding Fits HeadNumbered
fits_next until c [] none head first = fits_end until c none head
fits_next until c (d ∷ plan) none head first =
    if_case Fits (nat_le d.tick (last_tick until)) (Chosen (Deliver d.id) (record c { tick = d.tick; plan = plan })) (Nothing (at_end until c)) (λ _. (first, none_few c.left none, inl none)) (λ _. fits_end until c none head)

fits_behind : (until : Until) (did : ℕ) (choice : Choice) → Fits choice → Fits (or_next_tick until did choice)
unfolding Fits
fits_behind until did (Chosen e c) is = is
fits_behind until did (Nothing c) is = if_case Fits (is_enough until did) (Nothing c) (next_due until c c.plan) (λ _. is) (λ _. fits_next until c c.plan is.0 is.1 is.1)

pub fits_choice : (until : Until) (did : ℕ) (w : World) (c : Channel) → ((id : ℕ) → is_some (find_copy w.flying id) ≡ true → IsNumber id) → IsFew c.left → Fits (next_choice until did w c)
unfolding next_choice
fits_choice until did w c all few = fits_behind until did (in_tick w c) (fits_tick w c all few)

-- ---- states

-- the next copy's number grows by no more than 201 a step
unfoldable pub Low : schedule.RunState → Type 0
Low m = (1 ≤ (world_of m).next_copy) × ((world_of m).next_copy ≤ 1 + 201 * m.steps)

few_nodes : (m : schedule.RunState) → IsKept m → length (world_of m).nodes ≤ 200
few_nodes m kept = let size = kept.size in let few = kept.mesh.few in omega arith

pub low_started : (m : schedule.RunState) → Low m → Low (with_world m)
unfolding Low
low_started m low = low

pub low_stepped : (m : schedule.RunState) (e : Event) → IsKept m → Low m → Low (next_state m e)
unfolding Low next_state
low_stepped m e kept low =
    let few = few_nodes m kept in
    let grown = step_grows (world_of m) e in
    let least = step_rises (world_of m) e in
    (omega (arith, low.0), omega (arith, low.1))

pub small : (m : schedule.RunState) → IsKept m → Low m → m.steps ≤ 2 ^ 50 → IsSmall (world_of m)
unfolding Low
small m kept low few = record { some = low.0; low = omega (arith, low.1); nodes = few_nodes m kept }

pub flying_numbered : (m : schedule.RunState) → IsKept m → Low m → m.steps ≤ 2 ^ 50 → (id : ℕ) → is_some (find_copy (world_of m).flying id) ≡ true → IsNumber id
unfolding Low
flying_numbered m kept low few id there =
    let found = numbered_found 1 (world_of m).next_copy (world_of m).flying id kept.invariant.in_mesh.numbered there in
    (found.0, omega (arith, found.1, low.1))
