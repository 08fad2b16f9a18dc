-- What a line with events comes to, and how far it leads.
use Rattle.std.proofs.Common.{◌≡◌, ◌≢◌, ◌∙◌, ℕ, ◌+◌, ◌-◌, ◌*◌, ◌<◌, ◌≤◌, Bool, true, false, List, [], ◌∷◌, Option, Some, None, Result, Ok, Err, length, is_some, refl, sym, ap, subst, arith}
use Rattle.std.specs.Prelude.{IfOk}
use Rattle.std.specs.Option.{unwrap_or}
use Rattle.mesh_base.specs.declared.events.Done.{Done}
use Rattle.mesh_world.specs.declared.steps.StepError.{StepError}
use Rattle.mesh_run.specs.RunStates.{IsAnswer}
use Rattle.mesh_base.specs.Meshes.{with_node}
use Rattle.std.specs.Io.KnownBytes.{Appends}
use Rattle.mesh_base.specs.declared.limits.TheConstants.{MOST_NODES}
use Rattle.mesh_io.specs.Puts.{AppendsPrefix}
use Rattle.mesh_meaning.specs.Events.{event_of}
use Rattle.mesh_model.specs.InMesh.{IsEvent}
use Rattle.mesh_model.specs.Worlds.{World, Event, start, first_numbers, step, after}
use Rattle.mesh_text.specs.Schedule as schedule
use Rattle.mesh_text.specs.Schedule.{AcceptedLine, NewNode, Does, Chooses, ShowsNode, ShowsRoute, ShowsFlight, with_world, with_line_read, world_of, next_state, outcome_at}
use Rattle.mesh_text.specs.Auto.{EventsOutcome, outcome_of_events}
use Rattle.mesh_text.specs.Text as text
use Rattle.mesh_text.specs.Text.{LineOutcome, On, Refused, Full, outcome_by_events}
use Rattle.mesh_run.specs.declared.stop.Stop.{Stop}
use Rattle.mesh_run.specs.declared.stop.Stop.TheVariants as stop
use Rattle.mesh_run.specs.Runs.{output_if, IsLineDone, IsLineStopped, outcome_by, IsEventsDone, IsEventsRun}
use Rattle.mesh_run.proofs.Chosen.{text_by}
use Rattle.mesh_fates.specs.declared.rates.Rates.{Rates}
use Rattle.mesh_fates.specs.Channels.{Channel, after_given}
use Rattle.mesh_channel.specs.declared.until.Until.{Until}
use Rattle.mesh_channel.specs.declared.until.TheConstants.{MOST_CHOSEN}
use Rattle.mesh_channel.specs.Chosen.{Drawn, none, given, chosen, chosen_in, chosen_from}
use Rattle.mesh_channel.specs.Text.{outcome_of_drawn}
use Rattle.mesh_channel.specs.Room.{HasFewCopies}
use Rattle.mesh_channel.proofs.Steps.{step_grows, step_rises}
use Rattle.mesh_channel.proofs.Doing.{list_goes, list_stops, list_breaks}

-- ---- the line, by its events

pub line_goes : (say : Bool) (ran : EventsOutcome) (n k : schedule.RunState) (a b : Option (List ℕ)) → IsEventsDone say ran n a b → k ≡ with_line_read n → IsLineDone say (outcome_by_events ran) k a b
line_goes say ran n k a b g next = record { text = g.text; is = ap outcome_by_events g.is ∙ ap (On g.text) (sym next); grown = g.grown }

-- where the run had come to state s, of the same mesh and with as many lines
pub line_stops : (say : Bool) (m s n : schedule.RunState) (ran : EventsOutcome) (a b : Option (List ℕ)) (t : Stop) → s.mesh ≡ m.mesh → s.lines ≡ m.lines → IsEventsRun say s ran n a b (Err t) → IsLineStopped say m (outcome_by_events ran) n a b t
line_stops say m s n ran a b (stop.BadLine f) mesh lines g = absurd g
line_stops say m s n ran a b (stop.Full event node field) mesh lines g = record {
  text = g.text;
  is = ap outcome_by_events g.is;
  refused = g.refused;
  grown = g.grown;
  still = record { event = subst (λ l. IsEvent (length l) (event_of event)) mesh g.still.event; mesh = g.still.mesh ∙ mesh; lines = g.still.lines ∙ lines };
}
line_stops say m s n ran a b stop.WriteFault mesh lines g = let P : List ℕ → Type 0 = λ l. AppendsPrefix a b (output_if say l) in subst P (sym (text_by ran)) g
line_stops say m s n ran a b stop.NoMemory mesh lines g = let P : List ℕ → Type 0 = λ l. AppendsPrefix a b (output_if say l) in subst P (sym (text_by ran)) g

-- ---- a line that the channel fills

with_made : (m : schedule.RunState) (o : Option World) → m.world ≡ o → is_some o ≡ true → with_world m ≡ m
with_made m None is made = absurd (let P : ⊥ = cc in P)
with_made m (Some w) is made = subst (λ (x : Option World). record m { world = Some (unwrap_or x (start m.variant (first_numbers m.mesh))) } ≡ record m { world = x }) (sym is) refl

drawn_started : (m : schedule.RunState) (es : List Event) → is_some m.world ≡ true → outcome_of_drawn m es ≡ outcome_by_events (outcome_of_events m es)
unfolding outcome_of_events
drawn_started m [] made = refl
drawn_started m (e ∷ es) made = ap (λ x. outcome_by_events (outcome_of_events x (e ∷ es))) (with_made m m.world refl made)

in_some : (rates : Rates) (until : Until) (m : schedule.RunState) (c : Channel) (o : Option World) → is_some o ≡ true → chosen_in rates until m o c ≡ chosen_from (MOST_CHOSEN - m.steps) rates until 0 m c
in_some rates until m c None made = absurd (let P : ⊥ = cc in P)
in_some rates until m c (Some w) made = refl

in_none : (rates : Rates) (until : Until) (m : schedule.RunState) (c : Channel) (o : Option World) → is_some o ≡ false → chosen_in rates until m o c ≡ none c
in_none rates until m c None made = refl
in_none rates until m c (Some w) made = absurd (let P : ⊥ = cc in P)

pub chosen_is : (rates : Rates) (until : Until) (m : schedule.RunState) (c : Channel) (most : ℕ) → is_some m.world ≡ true → most ≡ MOST_CHOSEN - m.steps → chosen rates until m c ≡ chosen_from most rates until 0 m c
chosen_is rates until m c most made is = in_some rates until m c m.world made ∙ ap (λ k. chosen_from k rates until 0 m c) (sym is)

pub chosen_not : (rates : Rates) (until : Until) (m : schedule.RunState) (c : Channel) → is_some m.world ≡ false → chosen rates until m c ≡ none c
chosen_not rates until m c made = in_none rates until m c m.world made

abbrev pub chosen_outcome : Rates → Until → schedule.RunState → Channel → LineOutcome
chosen_outcome rates until m c = outcome_of_drawn m (chosen rates until m c).events

outcome_is : (rates : Rates) (until : Until) (m : schedule.RunState) (c : Channel) (most : ℕ) → is_some m.world ≡ true → most ≡ MOST_CHOSEN - m.steps
    → chosen_outcome rates until m c ≡ outcome_by_events (outcome_of_events m (chosen_from most rates until 0 m c).events)
outcome_is rates until m c most made is =
    ap (λ (d : Drawn). outcome_of_drawn m d.events) (chosen_is rates until m c most made is) ∙ drawn_started m (chosen_from most rates until 0 m c).events made

pub filled_goes : (say : Bool) (rates : Rates) (until : Until) (m n k : schedule.RunState) (c : Channel) (most : ℕ) (a b : Option (List ℕ)) → is_some m.world ≡ true → most ≡ MOST_CHOSEN - m.steps
    → IsEventsDone say (outcome_of_events m (chosen_from most rates until 0 m c).events) n a b → k ≡ with_line_read n → IsLineDone say (chosen_outcome rates until m c) k a b
filled_goes say rates until m n k c most a b made is g next =
    subst (λ (x : LineOutcome). IsLineDone say x k a b) (sym (outcome_is rates until m c most made is)) (line_goes say (outcome_of_events m (chosen_from most rates until 0 m c).events) n k a b g next)

pub filled_stops : (say : Bool) (rates : Rates) (until : Until) (m n : schedule.RunState) (c : Channel) (most : ℕ) (a b : Option (List ℕ)) (t : Stop) → is_some m.world ≡ true → most ≡ MOST_CHOSEN - m.steps
    → IsEventsRun say m (outcome_of_events m (chosen_from most rates until 0 m c).events) n a b (Err t) → IsLineStopped say m (chosen_outcome rates until m c) n a b t
filled_stops say rates until m n c most a b t made is g =
    subst (λ (x : LineOutcome). IsLineStopped say m x n a b t) (sym (outcome_is rates until m c most made is)) (line_stops say m m n (outcome_of_events m (chosen_from most rates until 0 m c).events) a b t refl refl g)

-- before anything has happened
pub unfilled_is : (rates : Rates) (until : Until) (m k : schedule.RunState) (c : Channel) → is_some m.world ≡ false → k ≡ with_line_read m → chosen_outcome rates until m c ≡ On [] k
unfilled_is rates until m k c made next = ap (λ (d : Drawn). outcome_of_drawn m d.events) (chosen_not rates until m c made) ∙ ap (On []) (sym next)

-- ---- a line with an event of the input

-- what it comes to, by what is left to do after it
pub given_is : (rates : Rates) (m s : schedule.RunState) (e : Event) (c after : Channel) → s ≡ with_world m → after ≡ after_given rates (world_of s) (outcome_at s e) c
    → outcome_of_drawn m (given rates (with_world m) e c).events ≡ outcome_by_events (outcome_of_events s (e ∷ after.left))
given_is rates m s e c after same is =
    sym (ap (λ (x : schedule.RunState). outcome_by_events (outcome_of_events x (e ∷ after.left))) same
    ∙ ap (λ (x : Channel). outcome_by_events (outcome_of_events (with_world m) (e ∷ x.left))) (is ∙ ap (λ (x : schedule.RunState). after_given rates (world_of x) (outcome_at x e) c) same))

pub given_channel : (rates : Rates) (m s : schedule.RunState) (e : Event) (c after : Channel) → s ≡ with_world m → after ≡ after_given rates (world_of s) (outcome_at s e) c
    → record after { left = [] } ≡ (given rates (with_world m) e c).channel
given_channel rates m s e c after same is = ap (λ (x : Channel). record x { left = [] }) (is ∙ ap (λ (x : schedule.RunState). after_given rates (world_of x) (outcome_at x e) c) same)

-- its first event stops it, whatever would be left to do
pub given_first : (rates : Rates) (m s : schedule.RunState) (e : Event) (c : Channel) → s ≡ with_world m → (es : List Event) × (outcome_of_drawn m (given rates (with_world m) e c).events ≡ outcome_by_events (outcome_of_events s (e ∷ es)))
given_first rates m s e c same =
    let after : Channel = after_given rates (world_of s) (outcome_at s e) c in
    (after.left, given_is rates m s e c after same refl)

-- ---- how far it leads

pub few_stepped : (m n : schedule.RunState) (e : Event) → n ≡ next_state m e → length (world_of m).nodes ≤ MOST_NODES → HasFewCopies m → HasFewCopies n
unfolding next_state
few_stepped m n e next nodes few = subst HasFewCopies (sym next) (record {
  some = omega (arith, few.some, step_rises (world_of m) e);
  few = omega (arith, few.few, nodes, step_grows (world_of m) e);
})

pub few_started : (m s : schedule.RunState) → s ≡ with_world m → HasFewCopies m → HasFewCopies s
few_started m s same few = subst HasFewCopies (sym same) (record { some = few.some; few = few.few })

pub few_read : (m k : schedule.RunState) → k ≡ with_line_read m → HasFewCopies m → HasFewCopies k
few_read m k same few = subst HasFewCopies (sym same) (record { some = few.some; few = few.few })

-- ---- other lines

pub record Leads (m n : schedule.RunState) : Type 0 where
  pub lines : n.lines ≡ m.lines + 1
  pub steps : n.steps ≡ m.steps
  pub copies : HasFewCopies m → HasFewCopies n

on_is : (t u : List ℕ) (m n : schedule.RunState) → On t m ≡ On u n → m ≡ n
on_is t u m n same = cc

led_by : (m n k : schedule.RunState) → Leads m n → n ≡ k → Leads m k
led_by m n k led same = subst (Leads m) same led

few_at_start : (m : schedule.RunState) (a first : ℕ) (o : Option World) → m.world ≡ o → HasFewCopies m → HasFewCopies (with_line_read (record m { mesh = with_node m.mesh a first }))
unfolding start
few_at_start m a first None is few = subst (λ (x : Option World). HasFewCopies (with_line_read (record m { mesh = with_node m.mesh a first; world = x }))) (sym is) (record { some = omega arith; few = omega arith })
few_at_start m a first (Some w) is few =
    let here : HasFewCopies (record m { world = Some w }) = subst (λ (x : Option World). HasFewCopies (record m { world = x })) is few in
    subst (λ (x : Option World). HasFewCopies (with_line_read (record m { mesh = with_node m.mesh a first; world = x }))) (sym is) (record { some = here.some; few = here.few })

pub other_leads : (m n : schedule.RunState) (l : AcceptedLine) (t : List ℕ) → ((e : Event) → l ≢ Does e) → ((count : ℕ) → l ≢ Chooses count) → text.outcome_of_line m l ≡ On t n → Leads m n
unfolding text.outcome_of_line
other_leads m n schedule.Nothing t does chooses is = led_by m (with_line_read m) n (record { lines = refl; steps = refl; copies = λ few. record { some = few.some; few = few.few } }) (on_is _ t _ n is)
other_leads m n (NewNode a first) t does chooses is = led_by m (with_line_read (record m { mesh = with_node m.mesh a first })) n (record { lines = refl; steps = refl; copies = few_at_start m a first m.world refl }) (on_is _ t _ n is)
other_leads m n (Does e) t does chooses is = absurd (does e refl)
other_leads m n (Chooses count) t does chooses is = absurd (chooses count refl)
other_leads m n (ShowsNode x) t does chooses is = led_by m (with_line_read (with_world m)) n (record { lines = refl; steps = refl; copies = λ few. record { some = few.some; few = few.few } }) (on_is _ t _ n is)
other_leads m n (ShowsRoute x d) t does chooses is = led_by m (with_line_read (with_world m)) n (record { lines = refl; steps = refl; copies = λ few. record { some = few.some; few = few.few } }) (on_is _ t _ n is)
other_leads m n ShowsFlight t does chooses is = led_by m (with_line_read (with_world m)) n (record { lines = refl; steps = refl; copies = λ few. record { some = few.some; few = few.few } }) (on_is _ t _ n is)

-- ---- a line with an event, as it goes

abbrev pub given_outcome : Rates → schedule.RunState → Event → Channel → LineOutcome
given_outcome rates m e c = outcome_of_drawn m (given rates (with_world m) e c).events

pub given_stops : (say : Bool) (rates : Rates) (m s n : schedule.RunState) (e : Event) (c : Channel) (a b : Option (List ℕ)) (t : Stop) → s ≡ with_world m → IsLineStopped say s (outcome_by s e (outcome_at s e)) n a b t
    → IsLineStopped say m (given_outcome rates m e c) n a b t
given_stops say rates m s n e c a b t same g =
    let first = given_first rates m s e c same in
    subst (λ (k : LineOutcome). IsLineStopped say m k n a b t) (sym first.1)
    (line_stops say m s n (outcome_of_events s (e ∷ first.0)) a b t (ap (λ (x : schedule.RunState). x.mesh) same) (ap (λ (x : schedule.RunState). x.lines) same) (list_stops say s n e first.0 a b t g))

pub given_breaks : (say : Bool) (rates : Rates) (m s n q : schedule.RunState) (e : Event) (c : Channel) (a b : Option (List ℕ)) → s ≡ with_world m → IsLineDone say (outcome_by s e (outcome_at s e)) n a b
    → IsLineStopped say m (given_outcome rates m e c) q a b stop.NoMemory
given_breaks say rates m s n q e c a b same g =
    let first = given_first rates m s e c same in
    subst (λ (k : LineOutcome). IsLineStopped say m k q a b stop.NoMemory) (sym first.1)
    (line_stops say m s q (outcome_of_events s (e ∷ first.0)) a b stop.NoMemory (ap (λ (x : schedule.RunState). x.mesh) same) (ap (λ (x : schedule.RunState). x.lines) same) (list_breaks say s n q e first.0 a b g))

pub given_left_stops : (say : Bool) (rates : Rates) (m s n q : schedule.RunState) (e : Event) (c after : Channel) (a b d : Option (List ℕ)) (t : Stop) → s ≡ with_world m → after ≡ after_given rates (world_of s) (outcome_at s e) c
    → IsLineDone say (outcome_by s e (outcome_at s e)) n a b → IsEventsRun say n (outcome_of_events n after.left) q b d (Err t) → IsLineStopped say m (given_outcome rates m e c) q a d t
given_left_stops say rates m s n q e c after a b d t same is g rest =
    subst (λ (k : LineOutcome). IsLineStopped say m k q a d t) (sym (given_is rates m s e c after same is))
    (line_stops say m s q (outcome_of_events s (e ∷ after.left)) a d t (ap (λ (x : schedule.RunState). x.mesh) same) (ap (λ (x : schedule.RunState). x.lines) same) (list_goes say s n q e after.left a b d (Err t) g rest))

pub given_goes : (say : Bool) (rates : Rates) (m s n q k : schedule.RunState) (e : Event) (c after : Channel) (a b d : Option (List ℕ)) → s ≡ with_world m → after ≡ after_given rates (world_of s) (outcome_at s e) c
    → IsLineDone say (outcome_by s e (outcome_at s e)) n a b → IsEventsDone say (outcome_of_events n after.left) q b d → k ≡ with_line_read q → IsLineDone say (given_outcome rates m e c) k a d
given_goes say rates m s n q k e c after a b d same is g rest next =
    subst (λ (x : LineOutcome). IsLineDone say x k a d) (sym (given_is rates m s e c after same is))
    (line_goes say (outcome_of_events s (e ∷ after.left)) q k a d (list_goes say s n q e after.left a b d (Ok 0) g rest) next)
