-- The text of a run with places is read to its last line.
use Rattle.std.proofs.Common.{◌≡◌, ℕ, ◌+◌, ◌≤◌, Bool, true, false, cond, List, [], ◌∷◌, ◌++◌, codes, Option, Some, None, Result, Ok, Err, length, length-append, refl, sym, ap, subst, ◌∙◌, arith}
use Rattle.std.specs.List.{AllByRecursion, flat_map}
use Rattle.aodv_model.proofs.Entries.{if_case}
use Rattle.mesh_base.specs.declared.limits.TheConstants.{LONGEST_LINE}
use Rattle.mesh_base.specs.Meshes.{Nodes, IsMesh}
use Rattle.mesh_grammar.specs.Commands.{greatest_id}
use Rattle.mesh_grammar.specs.Written.{line}
use Rattle.mesh_grammar.specs.declared.fault.LineFault.{LineFault}
use Rattle.mesh_io.specs.declared.limits.TheConstants.{LONGEST_TEXT}
use Rattle.mesh_io.specs.NextLines.{text_limits}
use Rattle.mesh_model.specs.Worlds.{World, Event, Give, Turn, Send, Ask, Link, Cut, Deliver, Lose, Double, Changed, Idle, Next, after, step, range, with_link, without_link, are_linked, start}
use Rattle.mesh_shell.specs.Pieces.{Piece, Whole, Long, Beyond}
use Rattle.mesh_shell.specs.Fold as shell
use Rattle.mesh_shell.specs.Fold.{whole}
use Rattle.mesh_text.specs.Lines.{event_words}
use Rattle.mesh_text.specs.Runs.{events_after, run_state_after}
use Rattle.mesh_text.specs.Schedule as schedule
use Rattle.mesh_text.specs.Schedule.{AcceptedLine, line_of, world_of, next_state, with_line_read}
use Rattle.mesh_text.specs.Text as text
use Rattle.mesh_text.specs.Text.{LineOutcome, On, outcome_of_read, pieces_of_input}
use Rattle.mesh_text.proofs.RunStates.{IsKept, IsKeptCame, opening_kept}
use Rattle.mesh_grid.specs.declared.line.Placing.{Placing}
use Rattle.mesh_grid.specs.Links.{may_come}
use Rattle.mesh_grid.specs.Lines.{placing_of}
use Rattle.mesh_grid.specs.Runs.{events_by, events_of_piece, events_of_placing, events_from, events_of_input, mesh_of_input}
use Rattle.mesh_grid.specs.Text.{RunState, opening, has_begun, changes, change_line, other_line, outcome_by, outcome_of_placing, outcome_of_piece, next, goes_on, text_from, text_of_input}
use Rattle.mesh_grid.proofs.PlaceRuns.{other_allowed, piece_kept, run_in, run_follows, piece_leads, goes_in}
use Rattle.mesh_lines.specs.declared.below.Below.{Below}
use Rattle.mesh_lines.specs.declared.below.Below.TheVariants as below
use Rattle.mesh_capture.specs.Laws.{RunWithPlacesIsCaptured}
use Rattle.mesh_capture.specs.Runs.{frames_from, frames_of_event, frames_of_placed_input}
use Rattle.mesh_capture.proofs.Captured.{captured, text_short}
use Rattle.mesh_capture.proofs.Effects.{stand, idle_reads}
use Rattle.mesh_capture.proofs.EventLists.{reading_at, ReadsTo, to_none, to_append, frames_of}
use Rattle.mesh_capture.proofs.PlaceLines.{IsPlaceLine, PlacingTold, placing_told, place_reads, IsChange, AreChanges, change_reads, change_range, changes_are}
use Rattle.mesh_capture.proofs.RunLines.{LineTold, counted_steady, fresh_steady}
use Rattle.mesh_capture.proofs.Steady.{IsSteady, later_steady, next_steady}
use Rattle.mesh_capture.proofs.Told.{IsTold, flight_told, reading_of}
use Rattle.mesh_capture.proofs.WholeRuns.{IsShort, TextTold, then_told, input_short}
use Rattle.mesh_capture.proofs.WholeRuns as runs

-- ---- a change

-- it leaves the flight alone, and makes no copy
record LeavesFlight (w : World) (e : Event) : Type 0 where
  flying : (after w (step w e)).flying ≡ w.flying
  next_copy : (after w (step w e)).next_copy ≡ w.next_copy

change_leaves : (mesh : Nodes) (w : World) (e : Event) → IsChange mesh e → LeavesFlight w e
unfolding step
change_leaves mesh w (Link a b) change = record {
  flying = if_case (λ o. (after w o).flying ≡ w.flying) (are_linked w.links a b) Idle (Next (with_link w a b) Changed) (λ _. refl) (λ _. refl);
  next_copy = if_case (λ o. (after w o).next_copy ≡ w.next_copy) (are_linked w.links a b) Idle (Next (with_link w a b) Changed) (λ _. refl) (λ _. refl);
}
change_leaves mesh w (Cut a b) change = record {
  flying = if_case (λ o. (after w o).flying ≡ w.flying) (are_linked w.links a b) (Next (without_link w a b) Changed) Idle (λ _. refl) (λ _. refl);
  next_copy = if_case (λ o. (after w o).next_copy ≡ w.next_copy) (are_linked w.links a b) (Next (without_link w a b) Changed) Idle (λ _. refl) (λ _. refl);
}
change_leaves mesh w (Give x d b) change = absurd change
change_leaves mesh w (Turn x) change = absurd change
change_leaves mesh w (Send x d) change = absurd change
change_leaves mesh w (Ask x d) change = absurd change
change_leaves mesh w (Deliver id) change = absurd change
change_leaves mesh w (Lose id) change = absurd change
change_leaves mesh w (Double id) change = absurd change

change_ends_none : (mesh : Nodes) (n : ℕ) (w : World) (e : Event) → IsChange mesh e → frames_of_event mesh n w e ≡ []
change_ends_none mesh n w (Link a b) change = refl
change_ends_none mesh n w (Cut a b) change = refl
change_ends_none mesh n w (Give x d b) change = absurd change
change_ends_none mesh n w (Turn x) change = absurd change
change_ends_none mesh n w (Send x d) change = absurd change
change_ends_none mesh n w (Ask x d) change = absurd change
change_ends_none mesh n w (Deliver id) change = absurd change
change_ends_none mesh n w (Lose id) change = absurd change
change_ends_none mesh n w (Double id) change = absurd change

one_long : (mesh : Nodes) (e : Event) → 1 ≤ length (change_line mesh e)
one_long mesh e = line_long (codes "  " ++ event_words mesh e)
  where
    line_long : (t : List ℕ) → 1 ≤ length (line t)
    line_long t = let all = length-append t (10 ∷ []) in omega arith

change_told : (k : ℕ) (m : schedule.RunState) (e : Event) → IsChange m.mesh e → IsSteady k m → ReadsTo m below.Place (change_line m.mesh e) [] (next_state m e) below.Place
unfolding next_state
change_told k m e change is =
    subst (λ cs. (j : ℕ) → (i : ℕ) × IsTold (reading_at m below.Place j) (change_line m.mesh e) [] (reading_of m.mesh (stand cs (m.sums.events + 1) below.Place) i))
    (sym (change_leaves m.mesh (world_of m) e change).flying)
    (change_reads m.mesh is.kept.mesh (world_of m).flying m.sums.events e change)

change_steady : (k : ℕ) (m : schedule.RunState) (e : Event) → 1 ≤ length m.mesh → IsChange m.mesh e → IsSteady k m → IsSteady (k + length (change_line m.mesh e)) (next_state m e)
change_steady k m e some change is =
    let long = one_long m.mesh e in
    let copies = is.copies in
    let same = (change_leaves m.mesh (world_of m) e change).next_copy in
    next_steady k (k + length (change_line m.mesh e)) m e (change_range m.mesh e some change) is (omega arith) (omega arith)

-- ---- the changes that follow one another

record ChangesTold (k : ℕ) (m : schedule.RunState) (es : List Event) : Type 0 where
  reads : ReadsTo m below.Place (flat_map (change_line m.mesh) es) (frames_of m es) (run_state_after m es) below.Place
  steady : IsSteady (k + length (flat_map (change_line m.mesh) es)) (run_state_after m es)
  lines : (run_state_after m es).lines ≡ m.lines

changes_told : (k : ℕ) (m : schedule.RunState) (es : List Event) → 1 ≤ length m.mesh → AreChanges m.mesh es → IsSteady k m → ChangesTold k m es
unfolding run_state_after frames_from next_state
changes_told k m [] some are is = record { reads = to_none m below.Place; steady = later_steady k (k + 0) m (omega arith) is; lines = refl }
changes_told k m (e ∷ es) some are is =
    let n : schedule.RunState = next_state m e in
    let own : List ℕ = change_line m.mesh e in
    let others : List ℕ = flat_map (change_line m.mesh) es in
    let rest = changes_told (k + length own) n es some are.1 (change_steady k m e some are.0 is) in
    let none : frames_of_event m.mesh (m.sums.events + 1) (world_of m) e ≡ [] = change_ends_none m.mesh (m.sums.events + 1) (world_of m) e are.0 in
    let all = length-append own others in
    let sum : k + length own + length others ≡ k + length (own ++ others) = omega arith in
    record {
      reads = subst (λ fs. ReadsTo m below.Place (own ++ others) fs (run_state_after n es) below.Place) (sym (ap (λ fs. fs ++ frames_of n es) none))
          (to_append m n (run_state_after n es) below.Place below.Place below.Place own others [] (frames_of n es) (change_told k m e are.0 is) rest.reads);
      steady = subst (λ j. IsSteady j (run_state_after n es)) sum rest.steady;
      lines = rest.lines;
    }

-- ---- a line about a place

-- the line itself, as it stands
placing_reads : (m : RunState) (bytes : List ℕ) (new : Placing) (b : Below) → IsPlaceLine m.run.mesh bytes new → IsMesh m.run.mesh → ReadsTo m.run b (line bytes) [] m.run below.Place
placing_reads m bytes new b told is =
    subst (λ t. ReadsTo m.run b (line t) [] m.run below.Place) (sym told.written)
    (place_reads m.run.mesh is (stand (world_of m.run).flying m.run.sums.events b) new told.east told.north)

placed_line_told : (reach k : ℕ) (m : RunState) (bytes : List ℕ) (new : Placing) → IsPlaceLine m.run.mesh bytes new → IsSteady k m.run → LineTold k m.run (events_of_placing reach m new) (outcome_of_placing reach m bytes new)
unfolding LineTold frames_from
placed_line_told reach k m bytes new told is = by (may_come m.places new)
  where
    by : (may : Bool) → LineTold k m.run (cond may (changes reach m new) [])
        (cond may (On (line bytes ++ flat_map (change_line m.run.mesh) (changes reach m new)) (with_line_read (run_state_after m.run (changes reach m new))))
        (On (line bytes ++ line (codes "  idle")) (with_line_read m.run)))
    by true = λ b fits.
        let es : List Event = changes reach m new in
        let own : List ℕ = line bytes in
        let others : List ℕ = flat_map (change_line m.run.mesh) es in
        let n : schedule.RunState = run_state_after m.run es in
        let are : AreChanges m.run.mesh es = changes_are m.run.mesh reach m.places (range (world_of m.run) new.node) new (length m.run.mesh) told.within (omega arith) in
        let within = told.within in
        let all = length-append own others in
        let rest = changes_told (k + length own) m.run es (omega arith) are (later_steady k (k + length own) m.run (omega arith) is) in (
          below.Place,
          to_append m.run m.run n b below.Place below.Place own others [] (frames_of m.run es) (placing_reads m bytes new b told is.kept.mesh) rest.reads,
          counted_steady (k + length (own ++ others)) n (later_steady (k + length own + length others) (k + length (own ++ others)) n (omega arith) rest.steady),
          ap (λ l. l + 1) rest.lines,
        )
    by false = λ b fits.
        let own : List ℕ = line bytes in
        let idle : List ℕ = line (codes "  idle") in (
          below.Place,
          to_append m.run m.run m.run b below.Place below.Place own idle [] [] (placing_reads m bytes new b told is.kept.mesh) (idle_reads m.run.mesh (stand (world_of m.run).flying m.run.sums.events below.Place) tt),
          counted_steady (k + length (own ++ idle)) m.run (later_steady k (k + length (own ++ idle)) m.run (omega arith) is),
          refl,
        )

-- ---- one line

placed_told : (reach k : ℕ) (m : RunState) (bytes : List ℕ) (r : Result (Option Placing) LineFault) → PlacingTold greatest_id m.run.mesh bytes r → length bytes ≤ LONGEST_LINE → IsKeptCame (outcome_by reach m bytes r) → IsSteady k m.run
    → LineTold k m.run (events_by reach m bytes r) (outcome_by reach m bytes r)
unfolding LineTold
placed_told reach k m bytes (Ok (Some new)) told short kept is = placed_line_told reach k m bytes new told is
placed_told reach k m bytes (Ok None) told short kept is = runs.read_told k m.run (has_begun m) bytes (other_line m bytes) refl (other_allowed m bytes is.kept) short kept is
placed_told reach k m bytes (Err f) told short kept is = told

whole_kept : (reach : ℕ) (m : RunState) (bytes : List ℕ) → IsKept m.run → IsKeptCame (outcome_by reach m bytes (placing_of m.run.mesh bytes))
unfolding outcome_of_piece
whole_kept reach m bytes is = piece_kept reach m (Whole bytes) is

placed_piece_told : (reach k : ℕ) (m : RunState) (piece : Piece) → IsShort piece → IsSteady k m.run → LineTold k m.run (events_of_piece reach m piece) (outcome_of_piece reach m piece)
unfolding LineTold outcome_of_piece text.outcome_of_piece events_of_piece
placed_piece_told reach k m (Whole bytes) short is =
    placed_told reach k m bytes (placing_of m.run.mesh bytes) (placing_told greatest_id m.run.mesh bytes (omega arith)) short (whole_kept reach m bytes is.kept) is
placed_piece_told reach k m Long short is = tt
placed_piece_told reach k m Beyond short is = tt

-- ---- all lines

placed_run_told : (reach : ℕ) (mesh : Nodes) (k : ℕ) (m : RunState) (b : Below) (pieces : List Piece) → AllByRecursion IsShort pieces → m.run.lines + length pieces ≤ greatest_id → IsSteady k m.run
    → (text_from reach m pieces).after.run.mesh ≡ mesh → k + length (whole (text_from reach m pieces)) ≤ LONGEST_TEXT → TextTold mesh m.run b (whole (text_from reach m pieces)) (events_from reach m pieces)
unfolding events_from shell.text_from frames_from
placed_run_told reach mesh k m b [] short few is here fits = λ j. let last = runs.done_told k m.run b (omega arith) is j in (reading_at m.run below.Nothing last.0, last.1)
placed_run_told reach mesh k m b (piece ∷ pieces) short few is here fits =
    let o : LineOutcome = outcome_of_piece reach m piece in
    let es : List Event = events_of_piece reach m piece in
    let others : schedule.RunState → text.RunText = λ n. run_in (text_from reach (next m piece n) pieces) in
    let more : schedule.RunState → List Event = λ n. events_from reach (next m piece n) pieces in
    let same : text.goes_on m.run o others ≡ run_in (goes_on m piece o (λ n. text_from reach n pieces)) = goes_in m piece o (λ n. text_from reach n pieces) in
    subst (λ (w : text.RunText). TextTold mesh m.run b (whole w) (es ++ events_after o more)) same
    (then_told mesh k m.run b es o others more (omega arith) (piece_leads reach m piece is.kept).goes (piece_kept reach m piece is.kept) (placed_piece_told reach k m piece short.0 is)
    (λ n kept made. (run_follows reach (next m piece n) pieces kept).mesh made)
    (λ j n c lines steady there room. placed_run_told reach mesh j (next m piece n) c pieces short.1 (omega arith) steady there room)
    (ap (λ (w : text.RunText). w.after.mesh) same ∙ here)
    (subst (λ (w : text.RunText). k + length (whole w) ≤ LONGEST_TEXT) (sym same) fits))

-- ---- the law

pub run_with_places_is_captured : RunWithPlacesIsCaptured
unfolding events_of_input text_of_input shell.text_on flight_told start
run_with_places_is_captured reach variant input within =
    let m : RunState = opening variant in
    let mesh : Nodes = mesh_of_input reach variant input in
    let steady = fresh_steady 0 m.run refl (opening_kept variant) (omega arith) in
    let short = input_short input in
    let told = placed_run_told reach mesh 0 m below.Nothing (pieces_of_input input) short.0 (omega (arith, short.1)) steady refl (omega (arith, text_short text_limits (whole (text_of_input reach variant input)) within)) 0 in
    captured (whole (text_of_input reach variant input)) (frames_of_placed_input reach variant input) told.0 told.1 within
