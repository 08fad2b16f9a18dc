-- No event that the channel chooses is idle.
use Rattle.std.proofs.Common.{◌≡◌, ◌≢◌, ◌⊎◌, inl, inr, ℕ, zero, suc, ◌+◌, Bool, true, false, List, [], ◌∷◌, length, Option, Some, None, is_some, refl, sym, ap, subst, ◌∙◌, arith}
use Rattle.std.specs.Prelude.{nat_le}
use Rattle.mesh_grammar.proofs.Readings.{if_case}
use Rattle.mesh_model.specs.Choices.{first_turn, first_send, first_ask}
use Rattle.mesh_model.proofs.Picks.{enabled_turn, enabled_send, enabled_ask}
use Rattle.mesh_model.specs.Worlds as worlds
use Rattle.mesh_model.specs.Worlds.{World, Copy, Event, Deliver, Outcome, Idle, Next, at_copy, find_copy, step, after}
use Rattle.mesh_text.specs.Schedule as schedule
use Rattle.mesh_text.specs.Schedule.{world_of, outcome_at, next_state}
use Rattle.mesh_fates.specs.declared.rates.Rates.{Rates}
use Rattle.mesh_fates.specs.Plans.{Plan}
use Rattle.mesh_fates.specs.declared.due.Due.{Due}
use Rattle.mesh_fates.specs.Channels.{Channel, after_chosen, after_given}
use Rattle.mesh_channel.specs.Choices.{Choice, Chosen, Nothing, in_flight, looked_at, by_nodes, ask_or, send_or, due_or, turn_or, left_or, in_tick, next_due, or_next_tick, next_choice, is_enough, last_tick, at_end}
use Rattle.mesh_channel.specs.declared.until.Until.{Until}
use Rattle.mesh_channel.specs.declared.until.Until.TheVariants.{Events, Tick}
use Rattle.mesh_channel.specs.Chosen.{Drawn, event_then, choice_then, chosen_from, chosen_in, chosen}
use Rattle.mesh_channel.specs.Laws.{NoneIsIdle, ChosenEventsAreNotIdle, AddedEventsAreNotIdle}
use Rattle.mesh_channel.proofs.InMesh.{IsOfLeft, LeftUsual, none_left, UsualChoice, usual_choice, chosen_left}
use Rattle.mesh_channel.proofs.Numbers.{quiet_of_left}
use Rattle.mesh_channel.proofs.Ready.{Flies, Ready, step_casts, after_ready, given_ready}

-- ---- what is found first is enabled

found_goes : (o : Option Copy) (f : Copy → Outcome) → is_some o ≡ true → ((c : Copy) → f c ≢ Idle) → at_copy o f ≢ Idle
found_goes None f there goes = absurd (let P : ⊥ = cc in P)
found_goes (Some c) f there goes = goes c

deliver_goes : (w : World) (id : ℕ) → Flies w.flying id → step w (Deliver id) ≢ Idle
unfolding step Flies
deliver_goes w id there = found_goes (find_copy w.flying id) _ there (λ c e. cc)

-- ---- what is chosen next

-- the head of a plan flies
unfoldable HeadFlies : List Copy → Plan → Type 0
HeadFlies cs [] = Unit {0}
HeadFlies cs (d ∷ plan) = Flies cs d.id

head_flies : (cs : List Copy) (plan : Plan) → HeadFlies cs (in_flight cs plan)
unfolding in_flight HeadFlies Flies
head_flies cs [] = tt
head_flies cs (d ∷ plan) = if_case (HeadFlies cs) (is_some (find_copy cs d.id)) (d ∷ plan) (in_flight cs plan) (λ there. there) (λ _. head_flies cs plan)

-- the event isn't idle; it leaves nothing left behind it, or is of what is left, the rest of which is ready then
unfoldable Enabled : World → Choice → Type 0
Enabled w (Chosen e c) = (step w e ≢ Idle) × ((c.left ≡ []) ⊎ (IsOfLeft e × Ready (after w (step w e)) c.left))
Enabled w (Nothing c) = (c.left ≡ []) × HeadFlies w.flying c.plan

enabled_asks : (w : World) (c : Channel) (o : Option (ℕ × ℕ)) → c.left ≡ [] → HeadFlies w.flying c.plan → first_ask w ≡ o → Enabled w (ask_or c o)
unfolding Enabled
enabled_asks w c None none head is = (none, head)
enabled_asks w c (Some p) none head is = (enabled_ask w p is, inl none)

enabled_sends : (w : World) (c : Channel) (o : Option (ℕ × ℕ)) (others : Choice) → c.left ≡ [] → first_send w ≡ o → Enabled w others → Enabled w (send_or c o others)
unfolding Enabled
enabled_sends w c None others none is rest = rest
enabled_sends w c (Some p) others none is rest = (enabled_send w p is, inl none)

enabled_nodes : (w : World) (c : Channel) → c.left ≡ [] → HeadFlies w.flying c.plan → Enabled w (by_nodes w c)
enabled_nodes w c none head = enabled_sends w c (first_send w) (ask_or c (first_ask w)) none refl (enabled_asks w c (first_ask w) none head refl)

enabled_due : (w : World) (c : Channel) (plan : Plan) → c.left ≡ [] → HeadFlies w.flying c.plan → HeadFlies w.flying plan → Enabled w (due_or w c plan)
unfolding Enabled HeadFlies
enabled_due w c [] none head first = enabled_nodes w c none head
enabled_due w c (d ∷ plan) none head first =
    if_case (Enabled w) (nat_le d.tick c.tick) (Chosen (Deliver d.id) (record c { plan = plan })) (by_nodes w c) (λ _. (deliver_goes w d.id first, inl none)) (λ _. enabled_nodes w c none head)

enabled_turns : (w : World) (c : Channel) (o : Option ℕ) (others : Choice) → c.left ≡ [] → first_turn w ≡ o → Enabled w others → Enabled w (turn_or c o others)
unfolding Enabled
enabled_turns w c None others none is rest = rest
enabled_turns w c (Some x) others none is rest = (enabled_turn w x is, inl none)

enabled_left : (w : World) (c : Channel) (left : List Event) (others : Choice) → c.left ≡ left → LeftUsual left → Ready w left → (c.left ≡ [] → Enabled w others) → Enabled w (left_or c left others)
unfolding Enabled Ready LeftUsual
enabled_left w c [] others same all ready rest = rest same
enabled_left w c (e ∷ es) others same all ready rest = (ready.0, inr (all.0, ready.1))

enabled_tick : (w : World) (c : Channel) → LeftUsual c.left → Ready w c.left → Enabled w (in_tick w c)
unfolding in_tick
enabled_tick w c all ready =
    let looked : Channel = looked_at w c in
    let head : HeadFlies w.flying looked.plan = head_flies w.flying c.plan in
    enabled_left w c c.left (turn_or c (first_turn w) (due_or w looked looked.plan)) refl all ready
    (λ none. enabled_turns w c (first_turn w) (due_or w looked looked.plan) none refl (enabled_due w looked looked.plan none head head))

enabled_end : (w : World) (until : Until) (c : Channel) → c.left ≡ [] → HeadFlies w.flying c.plan → Enabled w (Nothing (at_end until c))
unfolding Enabled
enabled_end w (Events count) c none head = (none, head)
enabled_end w (Tick last) c none head = (none, head)

enabled_next : (w : World) (until : Until) (c : Channel) (plan : Plan) → c.left ≡ [] → HeadFlies w.flying c.plan → HeadFlies w.flying plan → Enabled w (next_due until c plan)
unfolding Enabled HeadFlies
enabled_next w until c [] none head first = enabled_end w until c none head
enabled_next w until c (d ∷ plan) none head first =
    if_case (Enabled w) (nat_le d.tick (last_tick until)) (Chosen (Deliver d.id) (record c { tick = d.tick; plan = plan })) (Nothing (at_end until c)) (λ _. (deliver_goes w d.id first, inl none)) (λ _. enabled_end w until c none head)

enabled_behind : (w : World) (until : Until) (did : ℕ) (choice : Choice) → Enabled w choice → Enabled w (or_next_tick until did choice)
unfolding Enabled
enabled_behind w until did (Chosen e c) is = is
enabled_behind w until did (Nothing c) is = if_case (Enabled w) (is_enough until did) (Nothing c) (next_due until c c.plan) (λ _. is) (λ _. enabled_next w until c c.plan is.0 is.1 is.1)

enabled_choice : (until : Until) (did : ℕ) (w : World) (c : Channel) → LeftUsual c.left → Ready w c.left → Enabled w (next_choice until did w c)
unfolding next_choice
enabled_choice until did w c all ready = enabled_behind w until did (in_tick w c) (enabled_tick w c all ready)

-- ---- the events of a line

then_goes : (m : schedule.RunState) (e : Event) (o : Outcome) (c : Channel) (others : Drawn) → outcome_at m e ≡ o → step (world_of m) e ≢ Idle → NoneIsIdle (next_state m e) others.events → NoneIsIdle m (event_then e o c others).events
then_goes m e Idle c others is goes rest = (goes, rest)
then_goes m e (worlds.Full x field) c others is goes rest = (goes, tt)
then_goes m e (Next w h) c others is goes rest = (goes, rest)

-- what is left behind an event that was chosen
left_behind : (rates : Rates) (w : World) (e : Event) (c : Channel) → (c.left ≡ []) ⊎ (IsOfLeft e × Ready (after w (step w e)) c.left) → Ready (after w (step w e)) (after_chosen rates w (step w e) c).left
left_behind rates w e c (inl none) = after_ready rates w (step w e) c none (step_casts w e)
left_behind rates w e c (inr left) = subst (λ k. Ready (after w (step w e)) k.left) (sym (quiet_of_left rates w e c left.0)) left.1

world_next : (m : schedule.RunState) (e : Event) → world_of (next_state m e) ≡ after (world_of m) (step (world_of m) e)
unfolding next_state
world_next m e = refl

enabled_from : (most : ℕ) (rates : Rates) (until : Until) (did : ℕ) (m : schedule.RunState) (c : Channel) → LeftUsual c.left → Ready (world_of m) c.left → NoneIsIdle m (chosen_from most rates until did m c).events
unfolding chosen_from Enabled UsualChoice
enabled_from zero rates until did m c all ready = tt
enabled_from (suc most) rates until did m c all ready =
    by (next_choice until did (world_of m) c) (enabled_choice until did (world_of m) c all ready) (usual_choice until did (world_of m) c all)
    (λ e k more ready_then. enabled_from most rates until (did + 1) (next_state m e) k more (subst (λ w. Ready w k.left) (sym (world_next m e)) ready_then))
  where
    by : (choice : Choice) → Enabled (world_of m) choice → UsualChoice (length (world_of m).nodes) choice
        → ((e : Event) (after' : Channel) → LeftUsual after'.left → Ready (after (world_of m) (step (world_of m) e)) after'.left → NoneIsIdle (next_state m e) (chosen_from most rates until (did + 1) (next_state m e) after').events)
        → NoneIsIdle m (choice_then rates m choice (λ n k. chosen_from most rates until (did + 1) n k)).events
    by (Nothing k) enabled leaves rest = tt
    by (Chosen e k) enabled leaves rest =
        let o : Outcome = outcome_at m e in
        let behind : Channel = after_chosen rates (world_of m) o k in
        then_goes m e o k (chosen_from most rates until (did + 1) (next_state m e) behind) refl enabled.0
        (rest e behind (chosen_left rates (world_of m) o k leaves.1) (left_behind rates (world_of m) e k enabled.1))

empty_left : (left : List Event) → left ≡ [] → LeftUsual left
empty_left left none = subst LeftUsual (sym none) none_left

empty_ready : (w : World) (left : List Event) → left ≡ [] → Ready w left
unfolding Ready
empty_ready w left none = subst (Ready w) (sym none) tt

-- ---- the laws

pub chosen_events_are_not_idle : ChosenEventsAreNotIdle
chosen_events_are_not_idle rates until m c none = by m.world
  where
    by : (o : Option World) → NoneIsIdle m (chosen_in rates until m o c).events
    by None = tt
    by (Some w) = enabled_from _ rates until 0 m c (empty_left c.left none) (empty_ready (world_of m) c.left none)

-- what is ready in a world is not idle in its states
ready_goes : (m : schedule.RunState) (es : List Event) → Ready (world_of m) es → NoneIsIdle m es
unfolding Ready
ready_goes m [] ready = tt
ready_goes m (e ∷ es) ready = (ready.0, ready_goes (next_state m e) es (subst (λ w. Ready w es) (sym (world_next m e)) ready.1))

pub added_events_are_not_idle : AddedEventsAreNotIdle
added_events_are_not_idle rates m e c none =
    ready_goes (next_state m e) (after_given rates (world_of m) (outcome_at m e) c).left
    (subst (λ w. Ready w (after_given rates (world_of m) (outcome_at m e) c).left) (sym (world_next m e)) (given_ready rates (world_of m) (outcome_at m e) c none (step_casts (world_of m) e)))
