-- The worlds of a run with places are those of the run of its events.
use Rattle.std.proofs.Common.{◌≡◌, ◌≢◌, ℕ, zero, suc, ◌-◌, ◌<◌, ◌≤◌, Bool, true, false, cond, ◌||◌, List, [], ◌∷◌, ◌++◌, Option, Some, None, Result, Ok, Err, length, take, refl, sym, ap, subst, ◌∙◌, arith, is_some, codes, eqb}
use Rattle.std.specs.List.{flat_map}
use Rattle.std.specs.FinSet as sets
use Rattle.std.proofs.lemmas.Bool.{eqb-false}
use Rattle.mesh_base.specs.Members.{NodeIds}
use Rattle.mesh_base.specs.Meshes.{Nodes}
use Rattle.mesh_model.specs.Worlds.{Event, range, first_numbers}
use Rattle.mesh_model.specs.InMesh.{IsEvent}
use Rattle.mesh_model.proofs.Lists.{each_append}
use Rattle.mesh_model.proofs.Acyclic.{loop_free}
use Rattle.mesh_grammar.specs.declared.fault.LineFault.{LineFault}
use Rattle.mesh_shell.specs.Pieces.{Piece, Whole, Long, Beyond}
use Rattle.mesh_shell.specs.Fold as shell
use Rattle.mesh_grammar.specs.Written.{line}
use Rattle.mesh_grammar.proofs.Readings.{if_case}
use Rattle.mesh_text.specs.Schedule as schedule
use Rattle.mesh_text.specs.Schedule.{AcceptedLine, Nothing, NewNode, Does, Chooses, ShowsNode, ShowsRoute, ShowsFlight, line_of, world_of, with_line_read}
use Rattle.mesh_text.specs.Ranges.{IsInTime}
use Rattle.mesh_text.specs.Runs as runs
use Rattle.mesh_text.specs.Runs.{run_state_after, events_after, events_read}
use Rattle.mesh_text.specs.Text.{pieces_of_input, LineOutcome, On, Refused, Full, outcome_of_read}
use Rattle.mesh_text.specs.Text as text
use Rattle.mesh_text.proofs.InRange.{Allowed, line_allowed}
use Rattle.mesh_text.proofs.RunStates.{IsKept, UsualList, all_positive, opening_kept, counted_kept, IsKeptCame, piece_kept as schedule_kept}
use Rattle.mesh_text.proofs.RunLaws.{NotFull, Follows, follows, GoesBy, result_goes, read_usual, goes_follows}
use Rattle.mesh_text.proofs.RunStateLaws.{kept_after_events, events_go}
use Rattle.mesh_grid.specs.declared.place.Place.{Place}
use Rattle.mesh_grid.specs.declared.place.Places.{Places}
use Rattle.mesh_grid.specs.declared.line.Placing.{Placing}
use Rattle.mesh_grid.specs.Places.{is_within, place_of}
use Rattle.mesh_grid.specs.Lines.{placing_of}
use Rattle.mesh_grid.specs.Links.{change, change_with, change_at, changes_below, may_come}
use Rattle.mesh_grid.specs.Text.{RunState, opening, has_begun, changes, change_line, outcome_of_placing, other_line, outcome_by, outcome_of_piece, next, RunText, goes_on, text_from, text_of_input}
use Rattle.mesh_grid.specs.Runs.{events_of_placing, events_by, events_of_piece, events_from, events_of_input, mesh_of_input, world_after}
use Rattle.mesh_grid.specs.Laws.{WorldsAreOfEvents, RunsWithPlacesAreLoopFree, DataAreAccountedFor, EventsAreOfMesh}
use Rattle.mesh_grid.proofs.PlaceLines.{ComesIn, comes_in}
use Rattle.mesh_grid.proofs.PlaceSteps.{came-other, other_line_is_as_in_schedule}

-- ---- the changes of links are events of the mesh

change_usual : (size : ℕ) (in_reach stands : Bool) (x y : ℕ) → x < size → y < size → x ≢ y → UsualList size (change in_reach stands x y)
unfolding UsualList
change_usual size true true x y first second apart = tt
change_usual size false false x y first second apart = tt
change_usual size true false x y first second apart = ((omega arith, omega arith, λ same. apart (omega arith)), tt)
change_usual size false true x y first second apart = ((omega arith, omega arith, λ same. apart (omega arith)), tt)

with_usual : (size reach x : ℕ) (p : Place) (y : ℕ) (o : Option Place) (stands : Bool) → x < size → y < size → x ≢ y → UsualList size (change_with reach x p y o stands)
unfolding UsualList
with_usual size reach x p y None stands first second apart = tt
with_usual size reach x p y (Some q) stands first second apart = change_usual size (is_within reach p q) stands x y first second apart

at_usual : (size reach : ℕ) (places : Places) (near : NodeIds) (new : Placing) (y : ℕ) → new.node < size → y < size → UsualList size (change_at reach places near new y)
unfolding UsualList
at_usual size reach places near new y first second =
    if_case (UsualList size) (eqb y new.node) [] (change_with reach new.node new.place y (place_of places y) (sets.contains near y)) (λ _. tt)
    (λ apart. with_usual size reach new.node new.place y (place_of places y) (sets.contains near y) first second (λ same. eqb-false y new.node apart (sym same)))

below_usual : (size reach : ℕ) (places : Places) (near : NodeIds) (new : Placing) (n : ℕ) → new.node < size → n ≤ size → UsualList size (changes_below reach places near new n)
unfolding UsualList
below_usual size reach places near new zero first le = tt
below_usual size reach places near new (suc n) first le =
    each_append (IsEvent size) (changes_below reach places near new n) (change_at reach places near new n)
    (below_usual size reach places near new n first (omega arith)) (at_usual size reach places near new n first (omega arith))

-- ---- one line

-- what holds of a line: its events are of the mesh, and it leads to the state after them
pub record Leads (m : schedule.RunState) (es : List Event) (c : LineOutcome) : Type 0 where
  pub goes : GoesBy m es c
  pub kept : IsKeptCame c
  pub usual : UsualList (length m.mesh) es

placing_leads : (reach : ℕ) (m : RunState) (bytes : List ℕ) (new : Placing) → new.node < length m.run.mesh → IsKept m.run
    → Leads m.run (events_of_placing reach m new) (outcome_of_placing reach m bytes new)
unfolding GoesBy IsKeptCame UsualList run_state_after
placing_leads reach m bytes new within is = by (may_come m.places new)
  where
    usual : UsualList (length m.run.mesh) (changes reach m new)
    usual = below_usual (length m.run.mesh) reach m.places (range (world_of m.run) new.node) new (length m.run.mesh) within (omega arith)

    by : (b : Bool) → Leads m.run (cond b (changes reach m new) [])
        (cond b (On (line bytes ++ flat_map (change_line m.run.mesh) (changes reach m new)) (with_line_read (run_state_after m.run (changes reach m new))))
        (On (line bytes ++ line (codes "  idle")) (with_line_read m.run)))
    by true = record {
      goes = events_go m.run (changes reach m new) (line bytes ++ flat_map (change_line m.run.mesh) (changes reach m new));
      kept = counted_kept (run_state_after m.run (changes reach m new)) (kept_after_events m.run (changes reach m new) usual is);
      usual = usual;
    }
    by false = record {
      goes = events_go m.run [] (line bytes ++ line (codes "  idle"));
      kept = counted_kept m.run is;
      usual = tt;
    }

-- a line as in a schedule comes in time there too
in_time : (b s : Bool) (a : AcceptedLine) → IsInTime (b || s) a → IsInTime s a
in_time true s (NewNode address first) early = absurd (let P : ⊥ = cc in P)
in_time false s (NewNode address first) early = early
in_time b s others early = tt

also_allowed : (mesh : Nodes) (b s : Bool) (r : Result AcceptedLine LineFault) → Allowed mesh (b || s) r → Allowed mesh s r
unfolding Allowed
also_allowed mesh b s (Ok a) allowed = (allowed.0, in_time b s a allowed.1)
also_allowed mesh b s (Err f) allowed = tt

pub other_allowed : (m : RunState) (bytes : List ℕ) → IsKept m.run → Allowed m.run.mesh (is_some m.run.world) (other_line m bytes)
other_allowed m bytes is = also_allowed m.run.mesh m.places.begun (is_some m.run.world) (other_line m bytes) (line_allowed m.run.mesh (has_begun m) bytes is.mesh.few)

other_kept : (reach : ℕ) (m : RunState) (bytes : List ℕ) (r : Result AcceptedLine LineFault) → placing_of m.run.mesh bytes ≡ Ok None → other_line m bytes ≡ r → IsKept m.run
    → IsKeptCame (outcome_of_read m.run r)
unfolding IsKeptCame
other_kept reach m bytes (Ok a) other reads is =
    let same : text.outcome_of_piece m.run (Whole bytes) ≡ outcome_of_read m.run (Ok a) = sym (other_line_is_as_in_schedule reach m bytes a other reads) ∙ came-other reach m bytes other ∙ ap (outcome_of_read m.run) reads in
    subst IsKeptCame same (schedule_kept m.run (Whole bytes) is)
other_kept reach m bytes (Err f) other reads is = tt

line_leads : (reach : ℕ) (m : RunState) (bytes : List ℕ) (r : Result (Option Placing) LineFault) → placing_of m.run.mesh bytes ≡ r → ComesIn (length m.run.mesh) r → IsKept m.run
    → Leads m.run (events_by reach m bytes r) (outcome_by reach m bytes r)
unfolding ComesIn GoesBy IsKeptCame UsualList
line_leads reach m bytes (Ok (Some new)) reads within is = placing_leads reach m bytes new within is
line_leads reach m bytes (Ok None) reads within is =
    let allowed = other_allowed m bytes is in
    record {
      goes = result_goes m.run (other_line m bytes) allowed;
      kept = other_kept reach m bytes (other_line m bytes) reads refl is;
      usual = read_usual m.run (other_line m bytes) allowed is;
    }
line_leads reach m bytes (Err f) reads within is = record { goes = refl; kept = tt; usual = tt }

pub piece_leads : (reach : ℕ) (m : RunState) (piece : Piece) → IsKept m.run → Leads m.run (events_of_piece reach m piece) (outcome_of_piece reach m piece)
unfolding outcome_of_piece text.outcome_of_piece events_of_piece GoesBy IsKeptCame UsualList
piece_leads reach m (Whole bytes) is = line_leads reach m bytes (placing_of m.run.mesh bytes) refl (comes_in m.run.mesh bytes) is
piece_leads reach m Long is = record { goes = refl; kept = tt; usual = tt }
piece_leads reach m Beyond is = record { goes = refl; kept = tt; usual = tt }

pub piece_kept : (reach : ℕ) (m : RunState) (piece : Piece) → IsKept m.run → IsKeptCame (outcome_of_piece reach m piece)
piece_kept reach m piece is = (piece_leads reach m piece is).kept

-- ---- whole runs

-- the run without its places
abbrev pub run_in : RunText → text.RunText
run_in w = record { lines = w.lines; last = w.last; verdict = w.verdict; after = w.after.run; complete = w.complete }

pub goes_in : (m : RunState) (piece : Piece) (c : LineOutcome) (others : RunState → RunText) → text.goes_on m.run c (λ n. run_in (others (next m piece n))) ≡ run_in (goes_on m piece c others)
goes_in m piece (On text n) others = refl
goes_in m piece (Refused why) others = refl
goes_in m piece (Full text n e field) others = refl

pub run_follows : (reach : ℕ) (m : RunState) (pieces : List Piece) → IsKept m.run → Follows m.run (events_from reach m pieces) (run_in (text_from reach m pieces))
unfolding events_from shell.text_from runs.events_from
run_follows reach m [] is = let none = follows m.run [] is in record { mesh = λ _. refl; low = omega arith; world = none.world; all = λ _. omega arith; usual = tt }
run_follows reach m (piece ∷ pieces) is =
    let leads = piece_leads reach m piece is in
    subst (Follows m.run (events_from reach m (piece ∷ pieces))) (goes_in m piece (outcome_of_piece reach m piece) (λ n. text_from reach n pieces))
    (goes_follows m.run (events_of_piece reach m piece) (outcome_of_piece reach m piece) (λ n. run_in (text_from reach (next m piece n) pieces)) (λ n. events_from reach (next m piece n) pieces)
    leads.goes leads.kept leads.usual (λ n kept. run_follows reach (next m piece n) pieces kept))

goes_kept : (m : RunState) (piece : Piece) (c : LineOutcome) (others : RunState → RunText) → IsKeptCame c → IsKept m.run
    → ((n : RunState) → IsKept n.run → IsKept (others n).after.run) → IsKept (goes_on m piece c others).after.run
unfolding IsKeptCame
goes_kept m piece (On text n) others kept is rest = rest (next m piece n) kept
goes_kept m piece (Refused why) others kept is rest = is
goes_kept m piece (Full text n e field) others kept is rest = is

pub run_kept : (reach : ℕ) (m : RunState) (pieces : List Piece) → IsKept m.run → IsKept (text_from reach m pieces).after.run
unfolding shell.text_from
run_kept reach m [] is = is
run_kept reach m (piece ∷ pieces) is =
    goes_kept m piece (outcome_of_piece reach m piece) (λ n. text_from reach n pieces) (piece_kept reach m piece is) is (λ n kept. run_kept reach n pieces kept)

-- ---- the laws

pub worlds_are_of_events : WorldsAreOfEvents
unfolding text_of_input shell.text_on events_of_input NotFull
worlds_are_of_events reach v input =
    let is = run_follows reach (opening v) (pieces_of_input input) (opening_kept v) in
    let events : ℕ = (text_of_input reach v input).after.run.sums.events in
    let count : events - 0 ≡ events = omega arith in
    (is.world ∙ ap (λ k. world_after reach v input k) count, λ not_full. let all = is.all not_full in omega arith)

pub runs_with_places_are_loop_free : RunsWithPlacesAreLoopFree
unfolding text_of_input shell.text_on
runs_with_places_are_loop_free reach v input k d =
    loop_free v (first_numbers (mesh_of_input reach v input)) (take k (events_of_input reach v input)) d
    (all_positive (mesh_of_input reach v input) (run_kept reach (opening v) (pieces_of_input input) (opening_kept v)).mesh)

pub data_are_accounted_for : DataAreAccountedFor
unfolding text_of_input shell.text_on
data_are_accounted_for reach v input = (run_kept reach (opening v) (pieces_of_input input) (opening_kept v)).balanced

pub events_are_of_mesh : EventsAreOfMesh
unfolding text_of_input shell.text_on events_of_input
events_are_of_mesh reach v input = (run_follows reach (opening v) (pieces_of_input input) (opening_kept v)).usual
