-- What holds of each state of a run whose text has had so many bytes, and which events are read from there on.
use Rattle.std.proofs.Common.{◌≡◌, ◌≢◌, ◌⊎◌, inl, inr, ℕ, zero, suc, ◌+◌, ◌<◌, ◌≤◌, Bool, true, false, eqb, cond, not, List, [], ◌∷◌, Option, Some, None, length, refl, sym, ap, subst, arith}
use Rattle.std.proofs.lemmas.Option.{none-some}
use Rattle.std.proofs.lemmas.Bool.{eqb-true}
use Rattle.aodv_model.specs.Cores.{Heard}
use Rattle.mesh_base.specs.Meshes.{Nodes}
use Rattle.mesh_grammar.specs.Words.{is_text}
use Rattle.mesh_grammar.proofs.CommandLines.{text_is}
use Rattle.mesh_io.specs.declared.limits.TheConstants.{LONGEST_TEXT}
use Rattle.mesh_model.specs.Accounts.{counts, if_goes, in_found, waiting, queued_data, in_flight, given_data, doubled_data}
use Rattle.mesh_model.specs.Choices.{pick, IsChoice}
use Rattle.mesh_model.specs.InMesh.{IsInMesh, IsEvent, AreNumbered}
use Rattle.mesh_model.specs.Worlds as worlds
use Rattle.mesh_model.specs.Worlds.{World, Copy, Event, Give, Turn, Send, Ask, Link, Cut, Deliver, Lose, Double, Outcome, Idle, Next, after, at_copy, step, find_copy, push, without_copy, CopyHeard}
use Rattle.mesh_model.proofs.AccountSteps.{step_balanced}
use Rattle.mesh_model.proofs.Chosen.{pick_is_enabled}
use Rattle.mesh_model.proofs.NumberSteps.{IsWithin, step_within}
use Rattle.mesh_model.proofs.TrailSteps.{step_trails}
use Rattle.mesh_model.specs.Trails.{HasWalks}
use Rattle.mesh_text.specs.Auto.{event_then, choice_then, events_chosen}
use Rattle.mesh_text.specs.Effects.{outcome_lines}
use Rattle.mesh_text.specs.Ranges.{IsEventLine}
use Rattle.mesh_text.specs.Schedule.{RunState, world_of, outcome_at, next_state}
use Rattle.mesh_text.proofs.RunStates.{IsKept, stepped_kept}
use Rattle.mesh_text.proofs.NamedRuns.{Stops, alone_stops}
use Rattle.mesh_capture.proofs.Data.{copy_has_none}
use Rattle.mesh_capture.proofs.Events.{IsPlain}
use Rattle.mesh_capture.proofs.FieldRuns.{AreFitting, step_fit}
use Rattle.mesh_capture.proofs.Flights.{numbers_end}
use Rattle.mesh_capture.proofs.Growth.{event_pays, some_lines}
use Rattle.mesh_capture.proofs.PacketTexts.{strange}

-- after a text of k bytes: no datum is strange, and there are no more copies and events than bytes;
-- each number is within its field, and no queue has more items than there were events
pub record IsSteady (k : ℕ) (m : RunState) : Type 0 where
  pub kept : IsKept m
  pub texts : waiting strange (world_of m) + queued_data strange (world_of m) + in_flight strange (world_of m) ≡ 0
  pub copies : (world_of m).next_copy ≤ k + 1
  pub events : m.sums.events ≤ k
  pub walks : HasWalks m.variant (world_of m)
  pub within : IsWithin (world_of m)
  pub fits : AreFitting m.sums.events (world_of m)

-- the same after a longer text
pub later_steady : (k j : ℕ) (m : RunState) → k ≤ j → IsSteady k m → IsSteady j m
later_steady k j m le is =
    let copies = is.copies in
    let events = is.events in
    record { kept = is.kept; texts = is.texts; copies = omega arith; events = omega arith; walks = is.walks; within = is.within; fits = is.fits }

pub steady_plain : (k : ℕ) (m : RunState) → IsSteady k m → IsPlain m.mesh (world_of m)
steady_plain k m is = record { mesh_is = is.kept.mesh; size = is.kept.size; in_mesh = is.kept.invariant.in_mesh; texts = is.texts }

-- ---- an event

text_counts : (o d : ℕ) (body : List ℕ) → is_text body ≡ true → counts strange o d body ≡ 0
text_counts o d body text = ap (λ b. cond (not b) 1 0) text

none_goes : (o : Outcome) (n : ℕ) → n ≡ 0 → if_goes o n ≡ 0
none_goes Idle n none = refl
none_goes (worlds.Full x f) n none = refl
none_goes (Next w h) n none = none

given_none : (mesh : Nodes) (e : Event) (o : Outcome) → IsEventLine mesh e → given_data strange e o ≡ 0
given_none mesh (Give x d body) o range = none_goes o (counts strange x d body) (text_counts x d body (text_is body range.2))
given_none mesh others o range = refl

doubled_none : (w : World) (e : Event) → waiting strange w + queued_data strange w + in_flight strange w ≡ 0 → doubled_data strange w e ≡ 0
doubled_none w (Double id) none = by_copy (find_copy w.flying id) refl
  where
    by_copy : (o : Option Copy) → find_copy w.flying id ≡ o → in_found strange o ≡ 0
    by_copy None is = refl
    by_copy (Some c) is = copy_has_none strange w none id c is
doubled_none w others none = refl

-- the same after an event, where the text has grown and has paid for the event's copies
pub next_steady : (k j : ℕ) (m : RunState) (e : Event) → IsEventLine m.mesh e → IsSteady k m → k + 1 ≤ j → (after (world_of m) (outcome_at m e)).next_copy ≤ j + 1 → IsSteady j (next_state m e)
unfolding next_state
next_steady k j m e range is longer paid =
    let w : World = world_of m in
    let event : IsEvent (length w.nodes) e = subst (λ size. IsEvent size e) (sym is.kept.size) range.1 in
    let account = step_balanced strange w e event is.kept.invariant.in_mesh in
    let given = given_none m.mesh e (step w e) range in
    let doubled = doubled_none w e is.texts in
    let texts = is.texts in
    let events = is.events in
    record {
      kept = stepped_kept m e range.1 is.kept;
      texts = omega arith;
      copies = paid;
      events = omega arith;
      walks = step_trails m.variant w e is.kept.invariant.loop_safe is.walks;
      within = step_within m.variant w e is.kept.invariant.loop_safe is.walks is.within;
      fits = step_fit m.sums.events w e is.within is.fits;
    }

pub stepped_steady : (k : ℕ) (m : RunState) (e : Event) → IsEventLine m.mesh e → IsSteady k m → IsSteady (k + length (outcome_lines m.mesh e (outcome_at m e))) (next_state m e)
stepped_steady k m e range is =
    let copies = is.copies in
    let paid = event_pays m.mesh (world_of m) e in
    let more = some_lines m.mesh e (outcome_at m e) in
    next_steady k (k + length (outcome_lines m.mesh e (outcome_at m e))) m e range is (omega arith) (omega arith)

-- ---- which events are read

-- an event that a schedule may name, or one that is chosen
abbrev pub Speaks : RunState → Event → Type 0
Speaks m e = IsEventLine m.mesh e ⊎ ((1 ≤ length m.mesh) × IsChoice e × IsEvent (length m.mesh) e × (outcome_at m e ≢ Idle))

numbers_between : (low next id : ℕ) (cs : List Copy) (c : Copy) → AreNumbered low cs next → find_copy cs id ≡ Some c → (low ≤ id) × (id < next)
numbers_between low next id [] c are is = absurd (none-some c is)
numbers_between low next id (d ∷ ds) c are is = by_test (eqb d.id id) refl is (λ there. numbers_between (d.id + 1) next id ds c are.1 there)
  where
    by_test : (b : Bool) → eqb d.id id ≡ b → cond b (Some d) (find_copy ds id) ≡ Some c → (find_copy ds id ≡ Some c → (d.id + 1 ≤ id) × (id < next)) → (low ≤ id) × (id < next)
    by_test true same is others =
        let e : d.id ≡ id = eqb-true d.id id same in
        let end = numbers_end (d.id + 1) next ds are.1 in
        let low = are.0 in
        (omega arith, omega arith)
    by_test false other is others = let there = others is in let low = are.0 in (omega (arith, there.0), there.1)

-- a copy that is delivered is in flight
delivered_between : (w : World) (id : ℕ) → IsInMesh w → step w (Deliver id) ≢ Idle → (1 ≤ id) × (id < w.next_copy)
unfolding step
delivered_between w id in_mesh goes = by_copy (find_copy w.flying id) refl goes
  where
    by_copy : (o : Option Copy) → find_copy w.flying id ≡ o → at_copy o (λ c. Next (push (without_copy w id) c.to (Heard c.from c.message)) (CopyHeard c.from c.to)) ≢ Idle → (1 ≤ id) × (id < w.next_copy)
    by_copy None is goes = absurd (goes refl)
    by_copy (Some c) is goes = numbers_between 1 w.next_copy id w.flying c in_mesh.numbered is

pub spoken : (k : ℕ) (m : RunState) (e : Event) → k ≤ LONGEST_TEXT → IsSteady k m → Speaks m e → IsEventLine m.mesh e
spoken k m e short is (inl range) = range
spoken k m (Turn x) short is (inr chosen) = (chosen.0, chosen.2, tt)
spoken k m (Send x d) short is (inr chosen) = (chosen.0, chosen.2, tt)
spoken k m (Ask x d) short is (inr chosen) = (chosen.0, chosen.2, tt)
spoken k m (Deliver id) short is (inr chosen) =
    let copies = is.copies in
    let there = delivered_between (world_of m) id is.kept.invariant.in_mesh chosen.3 in
    (chosen.0, chosen.2, (there.0, omega (arith, there.1)))
spoken k m others short is (inr chosen) = absurd chosen.1

unfoldable pub AllSpeak : RunState → List Event → Type 0
AllSpeak m [] = Unit {0}
AllSpeak m (e ∷ es) = Speaks m e × Stops (outcome_at m e) es × AllSpeak (next_state m e) es

pub one_speaks : (m : RunState) (e : Event) → IsEventLine m.mesh e → AllSpeak m (e ∷ [])
unfolding AllSpeak
one_speaks m e range = (inl range, alone_stops (outcome_at m e), tt)

then_speak : (m : RunState) (e : Event) (o : Outcome) (others : RunState → List Event) → outcome_at m e ≡ o → Speaks m e → (IsEvent (length m.mesh) e → AllSpeak (next_state m e) (others (next_state m e))) → IsEvent (length m.mesh) e
    → AllSpeak m (event_then m e o others)
unfolding AllSpeak Stops
then_speak m e Idle others is speaks rest within = (speaks, subst (λ o. Stops o (others (next_state m e))) (sym is) tt, rest within)
then_speak m e (worlds.Full x f) others is speaks rest within = (speaks, subst (λ o. Stops o []) (sym is) refl, tt)
then_speak m e (Next w h) others is speaks rest within = (speaks, subst (λ o. Stops o (others (next_state m e))) (sym is) tt, rest within)

choice_speaks : (m : RunState) (o : Option Event) (others : RunState → List Event) → pick (world_of m) ≡ o → 1 ≤ length m.mesh → IsKept m
    → ((e : Event) → IsEvent (length m.mesh) e → AllSpeak (next_state m e) (others (next_state m e))) → AllSpeak m (choice_then m o others)
unfolding AllSpeak
choice_speaks m None others is some kept rest = tt
choice_speaks m (Some e) others is some kept rest =
    let chosen = pick_is_enabled (world_of m) e is in
    let within : IsEvent (length m.mesh) e = subst (λ size. IsEvent size e) kept.size chosen.1 in
    then_speak m e (outcome_at m e) others refl (inr (some, chosen.0, within, chosen.2)) (rest e) within

stepped_some : (m : RunState) (e : Event) → 1 ≤ length m.mesh → 1 ≤ length (next_state m e).mesh
unfolding next_state
stepped_some m e some = some

pub chosen_speak : (most : ℕ) (m : RunState) → 1 ≤ length m.mesh → IsKept m → AllSpeak m (events_chosen most m)
unfolding events_chosen AllSpeak
chosen_speak zero m some kept = tt
chosen_speak (suc most) m some kept =
    choice_speaks m (pick (world_of m)) (λ n. events_chosen most n) refl some kept (λ e within. chosen_speak most (next_state m e) (stepped_some m e some) (stepped_kept m e within kept))
