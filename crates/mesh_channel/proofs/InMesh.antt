-- The events of a run over a channel are events of its mesh.
use Rattle.std.proofs.Common.{◌≡◌, ℕ, zero, suc, ◌+◌, ◌<◌, Bool, true, false, cond, List, [], ◌∷◌, ◌++◌, Option, Some, None, length, refl, sym, ap, subst, ◌∙◌, arith}
use Rattle.std.specs.Prelude.{slice_get, nat_le}
use Rattle.std.specs.List.{AllByRecursion}
use Rattle.mesh_model.specs.Choices.{least_from, least_pair_from, may_turn_in, first_turn, first_send_in, first_ask_in, first_send, first_ask}
use Rattle.mesh_model.specs.InMesh.{IsEvent}
use Rattle.mesh_model.specs.Worlds as worlds
use Rattle.mesh_model.specs.Worlds.{World, Event, Give, Turn, Send, Ask, Link, Cut, Deliver, Lose, Double, Outcome, Idle, Next, WorldEffect, Changed, Taken, Sent, CopyHeard, CopyLost, CopyDoubled}
use Rattle.mesh_model.proofs.Chosen.{OnSome, Both, least_within, pair_within, send_within as send_below, ask_within as ask_below}
use Rattle.mesh_model.proofs.Lists.{each_append}
use Rattle.mesh_grammar.proofs.Readings.{if_case}
use Rattle.mesh_text.specs.Schedule as schedule
use Rattle.mesh_text.specs.Schedule.{world_of, with_world, outcome_at, next_state}
use Rattle.mesh_text.proofs.RunStates.{IsKept, UsualList, started_kept, stepped_kept}
use Rattle.mesh_fates.specs.declared.rates.Rates.{Rates}
use Rattle.mesh_fates.specs.Fates.{draw}
use Rattle.mesh_fates.specs.declared.fate.Lot.{Lot}
use Rattle.mesh_fates.specs.declared.fate.Fate.{Fate}
use Rattle.mesh_fates.specs.Plans.{Plan}
use Rattle.mesh_fates.specs.declared.due.Due.{Due}
use Rattle.mesh_fates.specs.Channels.{Channel, losses, doublings, number_behind, with_fate, decided, after_world_effect, after_chosen, after_given, is_unicast}
use Rattle.mesh_channel.specs.Choices.{Choice, Chosen, Nothing, looked_at, by_nodes, ask_or, send_or, due_or, turn_or, left_or, in_tick, next_due, next_tick, or_next_tick, next_choice, is_enough, last_tick, at_end}
use Rattle.mesh_channel.specs.declared.until.Until.{Until}
use Rattle.mesh_channel.specs.declared.until.Until.TheVariants.{Events, Tick}
use Rattle.mesh_channel.specs.Chosen.{Drawn, none, given, event_then, choice_then, chosen_from, chosen_in, chosen}

-- ---- what is left to do

-- a doubling or a loss
unfoldable pub IsOfLeft : Event → Type 0
IsOfLeft (Double id) = Unit {0}
IsOfLeft (Lose id) = Unit {0}
IsOfLeft others = ⊥

-- doublings and losses alone, which are events of every mesh
unfoldable pub LeftUsual : List Event → Type 0
LeftUsual left = AllByRecursion IsOfLeft left

event_of_left : (size : ℕ) (e : Event) → IsOfLeft e → IsEvent size e
unfolding IsOfLeft
event_of_left size (Double id) is = tt
event_of_left size (Lose id) is = tt
event_of_left size (Give x d b) is = absurd is
event_of_left size (Turn x) is = absurd is
event_of_left size (Send x d) is = absurd is
event_of_left size (Ask x d) is = absurd is
event_of_left size (Link a b) is = absurd is
event_of_left size (Cut a b) is = absurd is
event_of_left size (Deliver id) is = absurd is

usual_of_left : (size : ℕ) (left : List Event) → LeftUsual left → UsualList size left
unfolding LeftUsual UsualList
usual_of_left size [] is = tt
usual_of_left size (e ∷ es) is = (event_of_left size e is.0, usual_of_left size es is.1)

pub none_left : LeftUsual []
unfolding LeftUsual
none_left = tt

both_left : (es fs : List Event) → LeftUsual es → LeftUsual fs → LeftUsual (es ++ fs)
unfolding LeftUsual
both_left es fs one other = each_append IsOfLeft es fs one other

losses_left : (id : ℕ) (lost : Bool) → LeftUsual (cond lost (Lose id ∷ []) [])
unfolding LeftUsual IsOfLeft
losses_left id true = (tt, tt)
losses_left id false = tt

doublings_left : (id new : ℕ) (lot : Option Lot) → LeftUsual (doublings id new lot)
unfolding LeftUsual IsOfLeft
doublings_left id new None = tt
doublings_left id new (Some lot) = (tt, losses_left new lot.lost)

decided_left : (rates : Rates) (unicast : Bool) (count id new : ℕ) (c : Channel) → LeftUsual c.left → LeftUsual (decided rates unicast count id new c).left
unfolding decided
decided_left rates unicast zero id new c is = is
decided_left rates unicast (suc count) id new c is =
    let drawn = draw rates unicast c.rng in
    decided_left rates unicast count (id + 1) (number_behind new drawn.fate.double) (with_fate (record c { rng = drawn.rng }) id new drawn.fate)
    (both_left (c.left ++ doublings id new drawn.fate.double) (losses id drawn.fate.lot) (both_left c.left (doublings id new drawn.fate.double) is (doublings_left id new drawn.fate.double)) (losses_left id drawn.fate.lot.lost))

world_effect_left : (rates : Rates) (w : World) (h : WorldEffect) (c : Channel) → LeftUsual c.left → LeftUsual (after_world_effect rates w h c).left
world_effect_left rates w Changed c is = is
world_effect_left rates w (Taken took effect copies) c is = decided_left rates (is_unicast effect.cast) (length copies) w.next_copy (w.next_copy + length copies) c is
world_effect_left rates w (Sent effect copies) c is = decided_left rates (is_unicast effect.cast) (length copies) w.next_copy (w.next_copy + length copies) c is
world_effect_left rates w (CopyHeard from to) c is = is
world_effect_left rates w (CopyLost copy) c is = is
world_effect_left rates w (CopyDoubled id to parcel) c is = is

pub chosen_left : (rates : Rates) (w : World) (o : Outcome) (c : Channel) → LeftUsual c.left → LeftUsual (after_chosen rates w o c).left
chosen_left rates w Idle c is = is
chosen_left rates w (worlds.Full x field) c is = is
chosen_left rates w (Next v h) c is = world_effect_left rates w h c is

pub given_left : (rates : Rates) (w : World) (o : Outcome) (c : Channel) → LeftUsual c.left → LeftUsual (after_given rates w o c).left
given_left rates w Idle c is = is
given_left rates w (worlds.Full x field) c is = is
given_left rates w (Next v Changed) c is = is
given_left rates w (Next v (Taken took effect copies)) c is = world_effect_left rates w (Taken took effect copies) c is
given_left rates w (Next v (Sent effect copies)) c is = world_effect_left rates w (Sent effect copies) c is
given_left rates w (Next v (CopyHeard from to)) c is = is
given_left rates w (Next v (CopyLost copy)) c is = is
given_left rates w (Next v (CopyDoubled id to parcel)) c is = is

-- ---- what is found first is in the mesh

at_zero : (n : ℕ) (o : Option ℕ) → OnSome (λ x. x < 0 + n) o → OnSome (λ x. x < n) o
unfolding OnSome
at_zero n None h = tt
at_zero n (Some x) h = omega arith

pub turn_within : (w : World) (x : ℕ) → first_turn w ≡ Some x → x < length w.nodes
unfolding OnSome first_turn
turn_within w x is =
    let o : Option ℕ = least_from (length w.nodes) 0 (λ y. may_turn_in (slice_get w.nodes y)) in
    subst (OnSome (λ y. y < length w.nodes)) is (at_zero (length w.nodes) o (least_within (length w.nodes) 0 (λ y. may_turn_in (slice_get w.nodes y))))

pair_zero : (n : ℕ) (o : Option (ℕ × ℕ)) → OnSome (Both (0 + n) n) o → OnSome (Both n n) o
unfolding OnSome
pair_zero n None h = tt
pair_zero n (Some p) h = (omega (arith, h.0), h.1)

send_within : (w : World) (p : ℕ × ℕ) → first_send w ≡ Some p → Both (length w.nodes) (length w.nodes) p
unfolding OnSome first_send
send_within w p is =
    subst (OnSome (Both (length w.nodes) (length w.nodes))) is
    (pair_zero (length w.nodes) (least_pair_from (length w.nodes) 0 (λ x. first_send_in (length w.nodes) (slice_get w.nodes x)))
    (pair_within (length w.nodes) 0 (length w.nodes) (λ x. first_send_in (length w.nodes) (slice_get w.nodes x)) (λ x. send_below (length w.nodes) (slice_get w.nodes x))))

ask_within : (w : World) (p : ℕ × ℕ) → first_ask w ≡ Some p → Both (length w.nodes) (length w.nodes) p
unfolding OnSome first_ask
ask_within w p is =
    subst (OnSome (Both (length w.nodes) (length w.nodes))) is
    (pair_zero (length w.nodes) (least_pair_from (length w.nodes) 0 (λ x. first_ask_in (length w.nodes) (slice_get w.nodes x)))
    (pair_within (length w.nodes) 0 (length w.nodes) (λ x. first_ask_in (length w.nodes) (slice_get w.nodes x)) (λ x. ask_below (length w.nodes) (slice_get w.nodes x))))

-- ---- what is chosen next

-- the event is one of a mesh of this size, and so is what is left to do then
unfoldable pub UsualChoice : ℕ → Choice → Type 0
UsualChoice size (Chosen e c) = IsEvent size e × LeftUsual c.left
UsualChoice size (Nothing c) = LeftUsual c.left

usual_ask : (w : World) (c : Channel) (o : Option (ℕ × ℕ)) → LeftUsual c.left → first_ask w ≡ o → UsualChoice (length w.nodes) (ask_or c o)
unfolding UsualChoice
usual_ask w c None is found = is
usual_ask w c (Some p) is found = (ask_within w p found, is)

usual_send : (w : World) (c : Channel) (o : Option (ℕ × ℕ)) (others : Choice) → LeftUsual c.left → first_send w ≡ o → UsualChoice (length w.nodes) others → UsualChoice (length w.nodes) (send_or c o others)
unfolding UsualChoice
usual_send w c None others is found rest = rest
usual_send w c (Some p) others is found rest = (send_within w p found, is)

usual_nodes : (w : World) (c : Channel) → LeftUsual c.left → UsualChoice (length w.nodes) (by_nodes w c)
usual_nodes w c is = usual_send w c (first_send w) (ask_or c (first_ask w)) is refl (usual_ask w c (first_ask w) is refl)

usual_due : (w : World) (c : Channel) (plan : Plan) → LeftUsual c.left → UsualChoice (length w.nodes) (due_or w c plan)
unfolding UsualChoice
usual_due w c [] is = usual_nodes w c is
usual_due w c (d ∷ plan) is =
    if_case (UsualChoice (length w.nodes)) (nat_le d.tick c.tick) (Chosen (Deliver d.id) (record c { plan = plan })) (by_nodes w c) (λ _. (tt, is)) (λ _. usual_nodes w c is)

usual_turn : (w : World) (c : Channel) (o : Option ℕ) (others : Choice) → LeftUsual c.left → first_turn w ≡ o → UsualChoice (length w.nodes) others → UsualChoice (length w.nodes) (turn_or c o others)
unfolding UsualChoice
usual_turn w c None others is found rest = rest
usual_turn w c (Some x) others is found rest = (turn_within w x found, is)

usual_left : (size : ℕ) (c : Channel) (left : List Event) (others : Choice) → LeftUsual left → UsualChoice size others → UsualChoice size (left_or c left others)
unfolding UsualChoice LeftUsual UsualList
usual_left size c [] others is rest = rest
usual_left size c (e ∷ es) others is rest = (event_of_left size e is.0, is.1)

usual_tick : (w : World) (c : Channel) → LeftUsual c.left → UsualChoice (length w.nodes) (in_tick w c)
unfolding in_tick
usual_tick w c is =
    usual_left (length w.nodes) c c.left (turn_or c (first_turn w) (due_or w (looked_at w c) (looked_at w c).plan)) is
    (usual_turn w c (first_turn w) (due_or w (looked_at w c) (looked_at w c).plan) is refl (usual_due w (looked_at w c) (looked_at w c).plan is))

usual_end : (until : Until) (c : Channel) → LeftUsual c.left → LeftUsual (at_end until c).left
usual_end (Events count) c is = is
usual_end (Tick last) c is = is

usual_next : (size : ℕ) (until : Until) (c : Channel) (plan : Plan) → LeftUsual c.left → UsualChoice size (next_due until c plan)
unfolding UsualChoice
usual_next size until c [] is = usual_end until c is
usual_next size until c (d ∷ plan) is =
    if_case (UsualChoice size) (nat_le d.tick (last_tick until)) (Chosen (Deliver d.id) (record c { tick = d.tick; plan = plan })) (Nothing (at_end until c)) (λ _. (tt, is)) (λ _. usual_end until c is)

usual_behind : (size : ℕ) (until : Until) (did : ℕ) (choice : Choice) → UsualChoice size choice → UsualChoice size (or_next_tick until did choice)
unfolding UsualChoice
usual_behind size until did (Chosen e c) is = is
usual_behind size until did (Nothing c) is =
    if_case (UsualChoice size) (is_enough until did) (Nothing c) (next_due until c c.plan) (λ _. is) (λ _. usual_next size until c c.plan is)

pub usual_choice : (until : Until) (did : ℕ) (w : World) (c : Channel) → LeftUsual c.left → UsualChoice (length w.nodes) (next_choice until did w c)
unfolding next_choice
usual_choice until did w c is = usual_behind (length w.nodes) until did (in_tick w c) (usual_tick w c is)

-- ---- the events of a line

-- events of a mesh of this size, and a channel that has such left
pub record UsualDrawn (size : ℕ) (d : Drawn) : Type 0 where
  pub events : UsualList size d.events
  pub left : LeftUsual d.channel.left

usual_before : (size : ℕ) (e : Event) (others : Drawn) → IsEvent size e → UsualDrawn size others → UsualDrawn size (record others { events = e ∷ others.events })
unfolding UsualList
usual_before size e others one rest = record { events = (one, rest.events); left = rest.left }

usual_then : (size : ℕ) (e : Event) (o : Outcome) (c : Channel) (others : Drawn) → IsEvent size e → LeftUsual c.left → UsualDrawn size others → UsualDrawn size (event_then e o c others)
unfolding UsualList
usual_then size e Idle c others one is rest = usual_before size e others one rest
usual_then size e (worlds.Full x field) c others one is rest = record { events = (one, tt); left = is }
usual_then size e (Next w h) c others one is rest = usual_before size e others one rest

stepped_mesh : (m : schedule.RunState) (e : Event) → length (next_state m e).mesh ≡ length m.mesh
unfolding next_state
stepped_mesh m e = refl

usual_from : (most : ℕ) (rates : Rates) (until : Until) (did : ℕ) (m : schedule.RunState) (c : Channel) (size : ℕ) → size ≡ length m.mesh → IsKept m → LeftUsual c.left → UsualDrawn size (chosen_from most rates until did m c)
unfolding chosen_from UsualList UsualChoice
usual_from zero rates until did m c size same kept is = record { events = tt; left = is }
usual_from (suc most) rates until did m c size same kept is =
    by (next_choice until did (world_of m) c) (subst (λ k. UsualChoice k (next_choice until did (world_of m) c)) (kept.size ∙ sym same) (usual_choice until did (world_of m) c is))
    (λ n after alike well left. usual_from most rates until (did + 1) n after size alike well left)
  where
    by : (choice : Choice) → UsualChoice size choice
        → ((n : schedule.RunState) (after : Channel) → size ≡ length n.mesh → IsKept n → LeftUsual after.left → UsualDrawn size (chosen_from most rates until (did + 1) n after))
        → UsualDrawn size (choice_then rates m choice (λ n after. chosen_from most rates until (did + 1) n after))
    by (Nothing after) usual rest = record { events = tt; left = usual }
    by (Chosen e after) usual rest =
        let o : Outcome = outcome_at m e in
        usual_then size e o after (chosen_from most rates until (did + 1) (next_state m e) (after_chosen rates (world_of m) o after)) usual.0 usual.1
        (rest (next_state m e) (after_chosen rates (world_of m) o after) (same ∙ sym (stepped_mesh m e))
        (stepped_kept m e (subst (λ k. IsEvent k e) same usual.0) kept) (chosen_left rates (world_of m) o after usual.1))

pub usual_chosen : (rates : Rates) (until : Until) (m : schedule.RunState) (c : Channel) → IsKept m → LeftUsual c.left → UsualDrawn (length m.mesh) (chosen rates until m c)
unfolding UsualList
usual_chosen rates until m c kept is = by m.world
  where
    by : (o : Option World) → UsualDrawn (length m.mesh) (chosen_in rates until m o c)
    by None = record { events = tt; left = is }
    by (Some w) = usual_from _ rates until 0 m c (length m.mesh) refl kept is

pub usual_given : (rates : Rates) (m : schedule.RunState) (e : Event) (c : Channel) (size : ℕ) → IsEvent size e → LeftUsual c.left → UsualDrawn size (given rates m e c)
unfolding UsualList LeftUsual
usual_given rates m e c size one is = record { events = (one, usual_of_left size (after_given rates (world_of m) (outcome_at m e) c).left (given_left rates (world_of m) (outcome_at m e) c is)); left = none_left }
