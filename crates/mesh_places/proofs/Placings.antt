-- What a line about a place comes to.
use Rattle.std.proofs.Common.{◌≡◌, ℕ, ◌+◌, ◌*◌, ◌≤◌, ◌||◌, Bool, true, false, if◌then◌else◌, List, [], ◌∷◌, ◌++◌, Option, Some, None, Result, Ok, Err, OnOk, length, codes, is_some, refl, sym, ap, ◌∙◌, arith}
use Rattle.std.proofs.Math.Bool.{or-true}
use Rattle.std.specs.Io.KnownBytes.{Appends}
use Rattle.mesh_base.specs.declared.limits.TheConstants.{MOST_NODES, MOST_EVENTS}
use Rattle.mesh_base.specs.Meshes.{Nodes}
use Rattle.mesh_io.specs.Puts.{AppendsPrefix}
use Rattle.mesh_io.proofs.Writing.{Appends-join, AppendsPrefix-join, AppendsPrefix-more}
use Rattle.mesh_model.specs.Worlds.{range}
use Rattle.mesh_grammar.specs.declared.fault.LineFault.{LineFault}
use Rattle.mesh_grammar.specs.declared.fault.BadWhy.TheVariants.{Fault}
use Rattle.mesh_shell.specs.Pieces.{Whole}
use Rattle.mesh_grammar.specs.Written.{line}
use Rattle.mesh_text.specs.Schedule as schedule
use Rattle.mesh_text.specs.Schedule.{AcceptedLine, with_line_read, line_of, world_of}
use Rattle.mesh_text.specs.Runs.{run_state_after}
use Rattle.mesh_text.specs.Text as text
use Rattle.mesh_text.specs.Text.{LineOutcome, On, Refused, text_in, outcome_of_read}
use Rattle.mesh_text.proofs.RunStateLaws.{steps_after_events}
use Rattle.mesh_run.specs.declared.stop.Stop.{Stop}
use Rattle.mesh_run.specs.declared.stop.Stop.TheVariants as stop
use Rattle.mesh_run.specs.Runs.{IsLineDone, IsLineStopped}
use Rattle.mesh_grid.specs.declared.line.Placing.{Placing}
use Rattle.mesh_grid.specs.Lines.{placing_of}
use Rattle.mesh_grid.specs.Links.{may_come}
use Rattle.mesh_grid.specs.Runs.{events_of_placing}
use Rattle.mesh_grid.specs.Text.{RunState, has_begun, changes, outcome_of_placing, outcome_of_piece, other_line}
use Rattle.mesh_grid.proofs.PlaceSteps.{came-placing, came-other, other_line_is_as_in_schedule, other-same, few_changes, after-none, lines_after}
use Rattle.mesh_places.specs.RunStates.{change_lines, below, IsWant}

-- ---- a line about a place

abbrev pub after_coming : ℕ → RunState → Placing → schedule.RunState
after_coming reach m new = run_state_after m.run (events_of_placing reach m new)

coming_is : (reach : ℕ) (m : RunState) (bytes : List ℕ) (new : Placing) → outcome_of_placing reach m bytes new ≡ On (line bytes ++ below reach m new) (with_line_read (after_coming reach m new))
coming_is reach m bytes new = by (may_come m.places new)
  where
    by : (b : Bool)
        → (if b then On (line bytes ++ change_lines m.run.mesh (changes reach m new)) (with_line_read (run_state_after m.run (changes reach m new)))
        else On (line bytes ++ line (codes "  idle")) (with_line_read m.run))
        ≡ On (line bytes ++ (if b then change_lines m.run.mesh (changes reach m new) else line (codes "  idle")))
        (with_line_read (run_state_after m.run (if b then changes reach m new else [])))
    by true = refl
    by false = ap (λ n. On (line bytes ++ line (codes "  idle")) (with_line_read n)) (sym (after-none m.run))

placed_is : (reach : ℕ) (m : RunState) (bytes : List ℕ) (new : Placing) → placing_of m.run.mesh bytes ≡ Ok (Some new)
    → outcome_of_piece reach m (Whole bytes) ≡ On (line bytes ++ below reach m new) (with_line_read (after_coming reach m new))
placed_is reach m bytes new said = came-placing reach m bytes new said ∙ coming_is reach m bytes new

-- where the node may not come there
pub idle_state : (reach : ℕ) (m : RunState) (new : Placing) → false ≡ may_come m.places new → m.run ≡ after_coming reach m new
idle_state reach m new idle = sym (ap (λ b. run_state_after m.run (if b then changes reach m new else [])) (sym idle) ∙ after-none m.run)

-- it was done
pub line_done : (reach : ℕ) (m : RunState) (bytes : List ℕ) (new : Placing) (n : schedule.RunState) (a b c : Option (List ℕ)) → placing_of m.run.mesh bytes ≡ Ok (Some new) → n ≡ with_line_read (after_coming reach m new)
    → Appends a b (line bytes) → Appends b c (below reach m new) → IsLineDone true (outcome_of_piece reach m (Whole bytes)) n a c
line_done reach m bytes new n a b c said is p q = record {
  text = line bytes ++ below reach m new;
  is = placed_is reach m bytes new said ∙ ap (λ k. On (line bytes ++ below reach m new) k) (sym is);
  grown = Appends-join a b c (line bytes) (below reach m new) (line bytes ++ below reach m new) refl p q;
}

-- or not written whole
stopped : (m n : schedule.RunState) (k : LineOutcome) (a b : Option (List ℕ)) (s : Stop) → IsWant s → AppendsPrefix a b (text_in k) → IsLineStopped true m k n a b s
stopped m n k a b stop.WriteFault want p = p
stopped m n k a b stop.NoMemory want p = p
stopped m n k a b others want p = absurd want

pub unwritten : (reach : ℕ) (m : RunState) (bytes : List ℕ) (new : Placing) (n : schedule.RunState) (a b : Option (List ℕ)) (s : Stop) → placing_of m.run.mesh bytes ≡ Ok (Some new) → IsWant s
    → AppendsPrefix a b (line bytes) → IsLineStopped true m.run (outcome_of_piece reach m (Whole bytes)) n a b s
unwritten reach m bytes new n a b s said want p =
    stopped m.run n (outcome_of_piece reach m (Whole bytes)) a b s want
    (AppendsPrefix-more a b (line bytes) (below reach m new) _ (ap text_in (placed_is reach m bytes new said)) p)

pub half_written : (reach : ℕ) (m : RunState) (bytes : List ℕ) (new : Placing) (n : schedule.RunState) (a b c : Option (List ℕ)) (s : Stop) → placing_of m.run.mesh bytes ≡ Ok (Some new) → IsWant s
    → Appends a b (line bytes) → AppendsPrefix b c (below reach m new) → IsLineStopped true m.run (outcome_of_piece reach m (Whole bytes)) n a c s
half_written reach m bytes new n a b c s said want p q =
    stopped m.run n (outcome_of_piece reach m (Whole bytes)) a c s want
    (AppendsPrefix-join a b c (line bytes) (below reach m new) _ (ap text_in (placed_is reach m bytes new said)) p q)

-- ---- by how much the steps and the lines grow

few_events : (reach : ℕ) (m : RunState) (new : Placing) → length (events_of_placing reach m new) ≤ length m.run.mesh
few_events reach m new = by (may_come m.places new)
  where
    by : (b : Bool) → length (if b then changes reach m new else []) ≤ length m.run.mesh
    by true = few_changes reach m.places (range (world_of m.run) new.node) new (length m.run.mesh)
    by false = omega arith

nothing_said : (mesh : Nodes) (new : Placing) → placing_of mesh [] ≡ Ok (Some new) → ⊥
unfolding placing_of
nothing_said mesh new said = let P : ⊥ = cc in P

some_bytes : (mesh : Nodes) (bytes : List ℕ) (new : Placing) → placing_of mesh bytes ≡ Ok (Some new) → 1 ≤ length bytes
some_bytes mesh [] new said = absurd (nothing_said mesh new said)
some_bytes mesh (b ∷ bs) new said = omega arith

pub steps_grow : (reach : ℕ) (m : RunState) (bytes : List ℕ) (new : Placing) (n : schedule.RunState) → length m.run.mesh ≤ MOST_NODES → placing_of m.run.mesh bytes ≡ Ok (Some new) → n ≡ with_line_read (after_coming reach m new)
    → 4 * n.steps ≤ 4 * m.run.steps + MOST_EVENTS * length bytes
steps_grow reach m bytes new n few said is =
    let steps : n.steps ≡ m.run.steps + length (events_of_placing reach m new) = ap (λ k. k.steps) is ∙ steps_after_events m.run (events_of_placing reach m new) in
    let events = few_events reach m new in
    let some = some_bytes m.run.mesh bytes new said in
    omega arith

pub lines_same : (reach : ℕ) (m : RunState) (new : Placing) (n : schedule.RunState) → n ≡ after_coming reach m new → n.lines ≡ m.run.lines
lines_same reach m new n is = ap (λ k. k.lines) is ∙ lines_after m.run (events_of_placing reach m new)

pub lines_grow : (reach : ℕ) (m : RunState) (new : Placing) (n : schedule.RunState) → n ≡ with_line_read (after_coming reach m new) → n.lines ≡ m.run.lines + 1
lines_grow reach m new n is = ap (λ k. k.lines) is ∙ ap (λ k. k + 1) (lines_same reach m new (after_coming reach m new) refl)

-- ---- another line

-- a run has begun by a line about a place, and not by a world
begun_late : (m : RunState) → m.places.begun ≡ true → has_begun m ≡ true
begun_late m begun = ap (λ b. b || is_some m.run.world) begun

-- the line is allowed, however late
pub allowed_late : (reach : ℕ) (m : RunState) (bytes : List ℕ) (a : AcceptedLine) → placing_of m.run.mesh bytes ≡ Ok None → m.places.begun ≡ true → line_of m.run.mesh true bytes ≡ Ok a
    → outcome_of_piece reach m (Whole bytes) ≡ text.outcome_of_piece m.run (Whole bytes)
allowed_late reach m bytes a said begun is =
    other_line_is_as_in_schedule reach m bytes a said (ap (λ b. line_of m.run.mesh b bytes) (begun_late m begun) ∙ is)

pub refused_late : (m : RunState) (bytes : List ℕ) (f : LineFault) → m.places.begun ≡ true → line_of m.run.mesh true bytes ≡ Err f → other_line m bytes ≡ Err f
refused_late m bytes f begun is = ap (λ b. line_of m.run.mesh b bytes) (begun_late m begun) ∙ is

-- no line about a place has begun the run, or there is a world
pub as_begun : (reach : ℕ) (m : RunState) (bytes : List ℕ) → placing_of m.run.mesh bytes ≡ Ok None → m.places.begun ≡ false → outcome_of_piece reach m (Whole bytes) ≡ text.outcome_of_piece m.run (Whole bytes)
as_begun reach m bytes said begun = other-same reach m bytes said (ap (λ b. b || is_some m.run.world) begun)

pub as_made : (reach : ℕ) (m : RunState) (bytes : List ℕ) → placing_of m.run.mesh bytes ≡ Ok None → is_some m.run.world ≡ true → outcome_of_piece reach m (Whole bytes) ≡ text.outcome_of_piece m.run (Whole bytes)
as_made reach m bytes said made = other-same reach m bytes said (ap (λ b. m.places.begun || b) made ∙ or-true m.places.begun ∙ sym made)

pub refused_so : (reach : ℕ) (m : RunState) (bytes : List ℕ) (f : LineFault) → placing_of m.run.mesh bytes ≡ Ok None → other_line m bytes ≡ Err f → outcome_of_piece reach m (Whole bytes) ≡ Refused (Fault f)
refused_so reach m bytes f said is = came-other reach m bytes said ∙ ap (outcome_of_read m.run) is

-- ---- clauses

pub on_ok : {T E P : Type 0} (r : Result T E) → P → OnOk r P
on_ok (Ok x) p = p
on_ok (Err e) p = tt
