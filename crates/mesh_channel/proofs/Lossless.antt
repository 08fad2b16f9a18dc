-- A channel that loses and doubles nothing chooses no loss and no doubling.
use Rattle.std.proofs.Common.{◌≡◌, ◌⊎◌, inl, inr, ℕ, zero, suc, ◌+◌, ◌<◌, ◌≤◌, Bool, true, false, cond, List, [], ◌∷◌, ◌++◌, Option, Some, None, length, refl, sym, ap, ap₂, subst, ◌∙◌}
use Rattle.std.specs.Prelude.{nat_le, nat_lt}
use Rattle.std.specs.List.{AllByRecursion}
use Rattle.mesh_model.specs.Choices.{first_turn, first_send, first_ask, IsChoice}
use Rattle.mesh_model.specs.Worlds as worlds
use Rattle.mesh_model.specs.Worlds.{World, Event, Turn, Send, Ask, Deliver, Lose, Double, Outcome, Idle, Next, WorldEffect, Changed, Taken, Sent, CopyHeard, CopyLost, CopyDoubled}
use Rattle.mesh_grammar.proofs.Readings.{if_case}
use Rattle.mesh_text.specs.Schedule as schedule
use Rattle.mesh_text.specs.Schedule.{world_of, outcome_at, next_state}
use Rattle.rand_pcg.specs.Lcg.{Lcg}
use Rattle.mesh_fates.specs.declared.rates.Rates.{Rates}
use Rattle.mesh_fates.specs.Rates.{loss_of}
use Rattle.mesh_fates.specs.Fates.{Draw, happens_at, next_lot, draw_by, draw}
use Rattle.mesh_fates.specs.declared.fate.Lot.{Lot}
use Rattle.mesh_fates.specs.declared.fate.Fate.{Fate}
use Rattle.mesh_fates.specs.Plans.{Plan}
use Rattle.mesh_fates.specs.declared.due.Due.{Due}
use Rattle.mesh_make.specs.Words.{word, after}
use Rattle.mesh_fates.specs.Channels.{Channel, losses, doublings, number_behind, with_fate, decided, after_world_effect, after_chosen, after_given, is_unicast}
use Rattle.mesh_fates.proofs.Lawful.{never}
use Rattle.mesh_channel.specs.Choices.{Choice, Chosen, Nothing, looked_at, by_nodes, ask_or, send_or, due_or, turn_or, left_or, in_tick, next_due, or_next_tick, next_choice, is_enough, last_tick, at_end}
use Rattle.mesh_channel.specs.declared.until.Until.{Until}
use Rattle.mesh_channel.specs.declared.until.Until.TheVariants.{Events, Tick}
use Rattle.mesh_channel.specs.Chosen.{Drawn, given, event_then, choice_then, chosen_from, chosen_in, chosen}
use Rattle.mesh_channel.specs.Laws.{IsLossless, LosslessChannelLosesNothing, LosslessChannelAddsNothing}

-- ---- a copy is not lost, and not doubled

loss_is : (rates : Rates) (unicast : Bool) → IsLossless rates → loss_of rates unicast ≡ 0
loss_is rates true is = is.loss_unicast
loss_is rates false is = is.loss

-- nothing is left to do of such a fate
record Lives (f : Fate) : Type 0 where
  kept : f.lot.lost ≡ false
  alone : f.double ≡ None

by_lives : (rates : Rates) (unicast : Bool) (lot : Lot) (doubled : Bool) (rng : Lcg) → lot.lost ≡ false → doubled ≡ false → Lives (draw_by rates unicast lot doubled rng).fate
by_lives rates unicast lot true rng kept once = absurd (let P : ⊥ = cc in P)
by_lives rates unicast lot false rng kept once = record { kept = kept; alone = refl }

draw_lives : (rates : Rates) (unicast : Bool) (rng : Lcg) → IsLossless rates → Lives (draw rates unicast rng).fate
unfolding draw
draw_lives rates unicast rng is =
    by_lives rates unicast (next_lot rates unicast rng) (happens_at rates.double (word (after (after rng)))) (after (after (after rng)))
    (never (loss_of rates unicast) (word rng) (loss_is rates unicast is)) (never rates.double (word (after (after rng))) is.double)

nothing_left : (c : Channel) (id new : ℕ) (f : Fate) → c.left ≡ [] → Lives f → (with_fate c id new f).left ≡ []
nothing_left c id new f none lives = ap₂ (λ l o. l ++ doublings id new o ++ losses id f.lot) none lives.alone ∙ ap (λ b. cond b (Lose id ∷ []) []) lives.kept

decided_none : (rates : Rates) (unicast : Bool) (count id new : ℕ) (c : Channel) → IsLossless rates → c.left ≡ [] → (decided rates unicast count id new c).left ≡ []
unfolding decided
decided_none rates unicast zero id new c is none = none
decided_none rates unicast (suc count) id new c is none =
    let drawn = draw rates unicast c.rng in
    let before : Channel = record c { rng = drawn.rng } in
    decided_none rates unicast count (id + 1) (number_behind new drawn.fate.double) (with_fate before id new drawn.fate) is
    (nothing_left before id new drawn.fate none (draw_lives rates unicast c.rng is))

world_effect_none : (rates : Rates) (w : World) (h : WorldEffect) (c : Channel) → IsLossless rates → c.left ≡ [] → (after_world_effect rates w h c).left ≡ []
world_effect_none rates w Changed c is none = none
world_effect_none rates w (Taken took effect copies) c is none = decided_none rates (is_unicast effect.cast) (length copies) w.next_copy (w.next_copy + length copies) c is none
world_effect_none rates w (Sent effect copies) c is none = decided_none rates (is_unicast effect.cast) (length copies) w.next_copy (w.next_copy + length copies) c is none
world_effect_none rates w (CopyHeard from to) c is none = none
world_effect_none rates w (CopyLost copy) c is none = none
world_effect_none rates w (CopyDoubled id to parcel) c is none = none

chosen_none : (rates : Rates) (w : World) (o : Outcome) (c : Channel) → IsLossless rates → c.left ≡ [] → (after_chosen rates w o c).left ≡ []
chosen_none rates w Idle c is none = none
chosen_none rates w (worlds.Full x field) c is none = none
chosen_none rates w (Next v h) c is none = world_effect_none rates w h c is none

given_none : (rates : Rates) (w : World) (o : Outcome) (c : Channel) → IsLossless rates → c.left ≡ [] → (after_given rates w o c).left ≡ []
given_none rates w Idle c is none = none
given_none rates w (worlds.Full x field) c is none = none
given_none rates w (Next v Changed) c is none = none
given_none rates w (Next v (Taken took effect copies)) c is none = world_effect_none rates w (Taken took effect copies) c is none
given_none rates w (Next v (Sent effect copies)) c is none = world_effect_none rates w (Sent effect copies) c is none
given_none rates w (Next v (CopyHeard from to)) c is none = none
given_none rates w (Next v (CopyLost copy)) c is none = none
given_none rates w (Next v (CopyDoubled id to parcel)) c is none = none

-- ---- what is chosen next

-- a turn, a delivery, a send or a request; and nothing is left to do then
unfoldable Plain : Choice → Type 0
Plain (Chosen e c) = IsChoice e × (c.left ≡ [])
Plain (Nothing c) = c.left ≡ []

plain_ask : (c : Channel) (o : Option (ℕ × ℕ)) → c.left ≡ [] → Plain (ask_or c o)
unfolding Plain
plain_ask c None none = none
plain_ask c (Some p) none = (tt, none)

plain_send : (c : Channel) (o : Option (ℕ × ℕ)) (others : Choice) → c.left ≡ [] → Plain others → Plain (send_or c o others)
unfolding Plain
plain_send c None others none rest = rest
plain_send c (Some p) others none rest = (tt, none)

plain_nodes : (w : World) (c : Channel) → c.left ≡ [] → Plain (by_nodes w c)
plain_nodes w c none = plain_send c (first_send w) (ask_or c (first_ask w)) none (plain_ask c (first_ask w) none)

plain_due : (w : World) (c : Channel) (plan : Plan) → c.left ≡ [] → Plain (due_or w c plan)
unfolding Plain
plain_due w c [] none = plain_nodes w c none
plain_due w c (d ∷ plan) none = if_case Plain (nat_le d.tick c.tick) (Chosen (Deliver d.id) (record c { plan = plan })) (by_nodes w c) (λ _. (tt, none)) (λ _. plain_nodes w c none)

plain_turn : (c : Channel) (o : Option ℕ) (others : Choice) → c.left ≡ [] → Plain others → Plain (turn_or c o others)
unfolding Plain
plain_turn c None others none rest = rest
plain_turn c (Some x) others none rest = (tt, none)

plain_left : (c : Channel) (left : List Event) (others : Choice) → left ≡ [] → Plain others → Plain (left_or c left others)
plain_left c [] others none rest = rest
plain_left c (e ∷ es) others none rest = absurd (let P : ⊥ = cc in P)

plain_tick : (w : World) (c : Channel) → c.left ≡ [] → Plain (in_tick w c)
unfolding in_tick
plain_tick w c none =
    plain_left c c.left (turn_or c (first_turn w) (due_or w (looked_at w c) (looked_at w c).plan)) none
    (plain_turn c (first_turn w) (due_or w (looked_at w c) (looked_at w c).plan) none (plain_due w (looked_at w c) (looked_at w c).plan none))

plain_end : (until : Until) (c : Channel) → c.left ≡ [] → (at_end until c).left ≡ []
plain_end (Events count) c none = none
plain_end (Tick last) c none = none

plain_next : (until : Until) (c : Channel) (plan : Plan) → c.left ≡ [] → Plain (next_due until c plan)
unfolding Plain
plain_next until c [] none = plain_end until c none
plain_next until c (d ∷ plan) none =
    if_case Plain (nat_le d.tick (last_tick until)) (Chosen (Deliver d.id) (record c { tick = d.tick; plan = plan })) (Nothing (at_end until c)) (λ _. (tt, none)) (λ _. plain_end until c none)

plain_behind : (until : Until) (did : ℕ) (choice : Choice) → Plain choice → Plain (or_next_tick until did choice)
unfolding Plain
plain_behind until did (Chosen e c) is = is
plain_behind until did (Nothing c) is = if_case Plain (is_enough until did) (Nothing c) (next_due until c c.plan) (λ _. is) (λ _. plain_next until c c.plan is)

plain_choice : (until : Until) (did : ℕ) (w : World) (c : Channel) → c.left ≡ [] → Plain (next_choice until did w c)
unfolding next_choice
plain_choice until did w c none = plain_behind until did (in_tick w c) (plain_tick w c none)

-- ---- the events of a line

abbrev PlainDrawn : Drawn → Type 0
PlainDrawn d = AllByRecursion IsChoice d.events × (d.channel.left ≡ [])

plain_then : (e : Event) (o : Outcome) (c : Channel) (others : Drawn) → IsChoice e → c.left ≡ [] → PlainDrawn others → PlainDrawn (event_then e o c others)
plain_then e Idle c others one none rest = ((one, rest.0), rest.1)
plain_then e (worlds.Full x field) c others one none rest = ((one, tt), none)
plain_then e (Next w h) c others one none rest = ((one, rest.0), rest.1)

plain_from : (most : ℕ) (rates : Rates) (until : Until) (did : ℕ) (m : schedule.RunState) (c : Channel) → IsLossless rates → c.left ≡ [] → PlainDrawn (chosen_from most rates until did m c)
unfolding chosen_from Plain
plain_from zero rates until did m c is none = (tt, none)
plain_from (suc most) rates until did m c is none =
    by (next_choice until did (world_of m) c) (plain_choice until did (world_of m) c none) (λ n after left. plain_from most rates until (did + 1) n after is left)
  where
    by : (choice : Choice) → Plain choice → ((n : schedule.RunState) (after : Channel) → after.left ≡ [] → PlainDrawn (chosen_from most rates until (did + 1) n after))
        → PlainDrawn (choice_then rates m choice (λ n after. chosen_from most rates until (did + 1) n after))
    by (Nothing after) plain rest = (tt, plain)
    by (Chosen e after) plain rest =
        let o : Outcome = outcome_at m e in
        plain_then e o after (chosen_from most rates until (did + 1) (next_state m e) (after_chosen rates (world_of m) o after)) plain.0 plain.1
        (rest (next_state m e) (after_chosen rates (world_of m) o after) (chosen_none rates (world_of m) o after is plain.1))

-- ---- the laws

pub lossless_channel_loses_nothing : LosslessChannelLosesNothing
lossless_channel_loses_nothing rates until m c is none = by m.world
  where
    by : (o : Option World) → PlainDrawn (chosen_in rates until m o c)
    by None = (tt, none)
    by (Some w) = plain_from _ rates until 0 m c is none

pub lossless_channel_adds_nothing : LosslessChannelAddsNothing
lossless_channel_adds_nothing rates m e c is none = ap (λ l. e ∷ l) (given_none rates (world_of m) (outcome_at m e) c is none)
