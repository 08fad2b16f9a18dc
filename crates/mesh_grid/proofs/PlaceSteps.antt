-- A line of a run with places by what is read of it, and how far it leads.
use Rattle.std.proofs.Common.{◌≡◌, ◌⊎◌, inl, inr, ℕ, zero, suc, ◌+◌, ◌<◌, ◌≤◌, Bool, true, false, ◌||◌, eqb, List, [], ◌∷◌, ◌++◌, Option, Some, None, Result, Ok, Err, length, length-append, append-nil, append_assoc, refl, sym, ap, ◌∙◌, arith, is_some}
use Rattle.std.specs.FinSet as sets
use Rattle.std.proofs.lemmas.Bool.{cases_lt}
use Rattle.mesh_base.specs.Members.{NodeIds}
use Rattle.mesh_base.specs.Meshes.{Nodes}
use Rattle.mesh_model.specs.Worlds.{Event}
use Rattle.mesh_grammar.specs.declared.command.Command.{Command}
use Rattle.mesh_grammar.specs.declared.fault.LineFault.{LineFault}
use Rattle.mesh_grammar.specs.declared.fault.LineFault.TheVariants.{Late}
use Rattle.mesh_grammar.specs.declared.fault.BadWhy.TheVariants.{Fault, TooLong, TooMuch}
use Rattle.mesh_grammar.specs.Words.{SpannedAddr}
use Rattle.mesh_grammar.specs.Forms.{Arguments, NumberedAddress}
use Rattle.mesh_grammar.specs.Scripts.{Shape}
use Rattle.mesh_grammar.specs.Commands.{shape_of}
use Rattle.mesh_shell.specs.Pieces.{Whole, Long, Beyond}
use Rattle.mesh_grammar.proofs.Readings.{if_case}
use Rattle.mesh_text.specs.Schedule as schedule
use Rattle.mesh_text.specs.Schedule.{AcceptedLine, line_of, accepted_line, accepted_shape, result_and_then, next_state}
use Rattle.mesh_text.specs.Runs.{run_state_after}
use Rattle.mesh_text.specs.Text.{LineOutcome, On, Refused, Full, outcome_of_read, outcome_of_line}
use Rattle.mesh_text.specs.Text as text
use Rattle.mesh_grid.specs.declared.place.Place.{Place}
use Rattle.mesh_grid.specs.declared.place.Places.{Places}
use Rattle.mesh_grid.specs.declared.line.Placing.{Placing}
use Rattle.mesh_grid.specs.Places.{is_within, place_of}
use Rattle.mesh_grid.specs.Lines.{placing_of}
use Rattle.mesh_grid.specs.Links.{change, change_with, change_at, changes_below, with_placing}
use Rattle.mesh_grid.specs.Text.{RunState, has_begun, outcome_of_placing, other_line, outcome_by, outcome_of_piece, places_by, places_after}
use Rattle.mesh_grid.specs.Laws.{OtherLineIsAsInSchedule}

-- ---- what a line comes to, by what is read of it

came_read : (reach : ℕ) (m : RunState) (bytes : List ℕ) → outcome_of_piece reach m (Whole bytes) ≡ outcome_by reach m bytes (placing_of m.run.mesh bytes)
unfolding outcome_of_piece
came_read reach m bytes = refl

pub came-placing : (reach : ℕ) (m : RunState) (bytes : List ℕ) (new : Placing) → placing_of m.run.mesh bytes ≡ Ok (Some new) → outcome_of_piece reach m (Whole bytes) ≡ outcome_of_placing reach m bytes new
came-placing reach m bytes new is = came_read reach m bytes ∙ ap (outcome_by reach m bytes) is

pub came-other : (reach : ℕ) (m : RunState) (bytes : List ℕ) → placing_of m.run.mesh bytes ≡ Ok None → outcome_of_piece reach m (Whole bytes) ≡ outcome_of_read m.run (other_line m bytes)
came-other reach m bytes is = came_read reach m bytes ∙ ap (outcome_by reach m bytes) is

pub came-fault : (reach : ℕ) (m : RunState) (bytes : List ℕ) (f : LineFault) → placing_of m.run.mesh bytes ≡ Err f → outcome_of_piece reach m (Whole bytes) ≡ Refused (Fault f)
came-fault reach m bytes f is = came_read reach m bytes ∙ ap (outcome_by reach m bytes) is

pub came-long : (reach : ℕ) (m : RunState) → outcome_of_piece reach m Long ≡ Refused TooLong
unfolding outcome_of_piece text.outcome_of_piece
came-long reach m = refl

pub came-beyond : (reach : ℕ) (m : RunState) → outcome_of_piece reach m Beyond ≡ Refused TooMuch
unfolding outcome_of_piece text.outcome_of_piece
came-beyond reach m = refl

places_read : (m : RunState) (bytes : List ℕ) → places_after m (Whole bytes) ≡ places_by m.places (placing_of m.run.mesh bytes)
unfolding places_after
places_read m bytes = refl

pub places-placing : (m : RunState) (bytes : List ℕ) (new : Placing) → placing_of m.run.mesh bytes ≡ Ok (Some new) → places_after m (Whole bytes) ≡ with_placing m.places new
places-placing m bytes new is = places_read m bytes ∙ ap (places_by m.places) is

pub places-other : (m : RunState) (bytes : List ℕ) → placing_of m.run.mesh bytes ≡ Ok None → places_after m (Whole bytes) ≡ m.places
places-other m bytes is = places_read m bytes ∙ ap (places_by m.places) is

-- ---- an allowed line is allowed as in a schedule

-- where it is allowed late, it is allowed early
shape_early : (mesh : Nodes) (c : Command) (arguments : Arguments SpannedAddr) (a : AcceptedLine) → accepted_line mesh true c arguments ≡ Ok a → accepted_line mesh false c arguments ≡ Ok a
shape_early mesh c (NumberedAddress m first) a is = absurd (let clash : Err Late ≡ Ok a = is in let P : ⊥ = cc in P)
shape_early mesh c others a is = is

read_early : (mesh : Nodes) (r : Result (Option (Shape Command SpannedAddr)) LineFault) (a : AcceptedLine) → result_and_then (accepted_shape mesh true) r ≡ Ok a → result_and_then (accepted_shape mesh false) r ≡ Ok a
read_early mesh (Ok None) a is = is
read_early mesh (Ok (Some s)) a is = shape_early mesh s.command s.arguments a is
read_early mesh (Err f) a is = is

line_early : (mesh : Nodes) (line : List ℕ) (a : AcceptedLine) → line_of mesh true line ≡ Ok a → line_of mesh false line ≡ Ok a
unfolding line_of
line_early mesh line a is = read_early mesh (shape_of line) a is

either_early : (mesh : Nodes) (line : List ℕ) (a : AcceptedLine) (b s : Bool) → line_of mesh (b || s) line ≡ Ok a → line_of mesh s line ≡ Ok a
either_early mesh line a true true is = is
either_early mesh line a true false is = line_early mesh line a is
either_early mesh line a false s is = is

schedule_came : (m : schedule.RunState) (line : List ℕ) → text.outcome_of_piece m (Whole line) ≡ outcome_of_read m (line_of m.mesh (is_some m.world) line)
unfolding text.outcome_of_piece
schedule_came m line = refl

pub other_line_is_as_in_schedule : OtherLineIsAsInSchedule
other_line_is_as_in_schedule reach m bytes a other is =
    came-other reach m bytes other ∙ ap (outcome_of_read m.run) is
    ∙ sym (schedule_came m.run bytes ∙ ap (outcome_of_read m.run) (either_early m.run.mesh bytes a m.places.begun (is_some m.run.world) is))

-- where nothing has begun beside the run, any other line is
pub other-same : (reach : ℕ) (m : RunState) (bytes : List ℕ) → placing_of m.run.mesh bytes ≡ Ok None → has_begun m ≡ is_some m.run.world → outcome_of_piece reach m (Whole bytes) ≡ text.outcome_of_piece m.run (Whole bytes)
other-same reach m bytes other same =
    came-other reach m bytes other ∙ ap (λ b. outcome_of_read m.run (line_of m.run.mesh b bytes)) same ∙ sym (schedule_came m.run bytes)

-- ---- how many changes there are

one_change : (in_reach stands : Bool) (x y : ℕ) → length (change in_reach stands x y) ≤ 1
one_change true true x y = omega arith
one_change false false x y = omega arith
one_change true false x y = omega arith
one_change false true x y = omega arith

one_with : (reach x : ℕ) (p : Place) (y : ℕ) (o : Option Place) (stands : Bool) → length (change_with reach x p y o stands) ≤ 1
one_with reach x p y None stands = omega arith
one_with reach x p y (Some q) stands = one_change (is_within reach p q) stands x y

one_at : (reach : ℕ) (places : Places) (near : NodeIds) (new : Placing) (y : ℕ) → length (change_at reach places near new y) ≤ 1
one_at reach places near new y =
    if_case (λ es. length es ≤ 1) (eqb y new.node) [] (change_with reach new.node new.place y (place_of places y) (sets.contains near y))
    (λ _. omega arith) (λ _. one_with reach new.node new.place y (place_of places y) (sets.contains near y))

pub few_changes : (reach : ℕ) (places : Places) (near : NodeIds) (new : Placing) (n : ℕ) → length (changes_below reach places near new n) ≤ n
few_changes reach places near new zero = omega arith
few_changes reach places near new (suc n) =
    let before = few_changes reach places near new n in
    let one = one_at reach places near new n in
    omega (arith, length-append (changes_below reach places near new n) (change_at reach places near new n))

-- the changes with the nodes up to one are the first of all
pub first_changes : (reach : ℕ) (places : Places) (near : NodeIds) (new : Placing) (n k : ℕ) → k ≤ n
    → (more : List Event) × (changes_below reach places near new n ≡ changes_below reach places near new k ++ more)
first_changes reach places near new zero k le =
    let none : k ≡ 0 = omega arith in
    ([], sym (ap (λ j. changes_below reach places near new j ++ []) none))
first_changes reach places near new (suc n) k le = by (cases_lt n k) (λ before. first_changes reach places near new n k before)
  where
    by : (n < k) ⊎ (k ≤ n) → (k ≤ n → (more : List Event) × (changes_below reach places near new n ≡ changes_below reach places near new k ++ more))
        → (more : List Event) × (changes_below reach places near new (suc n) ≡ changes_below reach places near new k ++ more)
    by (inl last) rest =
        let same : suc n ≡ k = omega arith in
        ([], ap (changes_below reach places near new) same ∙ sym (append-nil (changes_below reach places near new k)))
    by (inr before) rest =
        let there = rest before in (
          there.0 ++ change_at reach places near new n,
          ap (λ es. es ++ change_at reach places near new n) there.1 ∙ append_assoc (changes_below reach places near new k) there.0 (change_at reach places near new n),
        )

-- ---- states after events

pub after-more : (m : schedule.RunState) (es more : List Event) → run_state_after m (es ++ more) ≡ run_state_after (run_state_after m es) more
unfolding run_state_after
after-more m [] more = refl
after-more m (e ∷ es) more = after-more (next_state m e) es more

pub after-none : (m : schedule.RunState) → run_state_after m [] ≡ m
unfolding run_state_after
after-none m = refl

pub after-one : (m : schedule.RunState) (e : Event) → run_state_after m (e ∷ []) ≡ next_state m e
unfolding run_state_after
after-one m e = refl

pub lines_after : (m : schedule.RunState) (es : List Event) → (run_state_after m es).lines ≡ m.lines
unfolding run_state_after next_state
lines_after m [] = refl
lines_after m (e ∷ es) = lines_after (next_state m e) es
