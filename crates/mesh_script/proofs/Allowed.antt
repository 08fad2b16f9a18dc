-- What is known of a line that is read: it is in its range, and so is its count. And a line that is written back is read as it.
use Rattle.std.proofs.Common.{◌≡◌, ℕ, ◌^◌, ◌<◌, ◌≤◌, Bool, List, [], ◌++◌, Option, Result, Ok, Err, length, IfOk, ap, subst, refl, sym, ◌∙◌, arith}
use Rattle.std.proofs.lemmas.Bool.Decides.{nat_tests}
use Rattle.std.proofs.lemmas.List.{append-nil}
use Rattle.mesh_base.specs.declared.limits.TheConstants.{MOST_NODES}
use Rattle.mesh_base.specs.Meshes.{Nodes, IsMesh}
use Rattle.mesh_grammar.specs.declared.command.Command.{Command}
use Rattle.mesh_grammar.specs.declared.fault.LineFault.{LineFault}
use Rattle.mesh_text.specs.Schedule.{AcceptedLine, Nothing, NewNode, Does, Chooses, ShowsNode, ShowsRoute, ShowsFlight, line_of, accepted_shape}
use Rattle.mesh_text.specs.Ranges.{IsInRange, IsInTime, IsEcho}
use Rattle.mesh_text.specs.Lines.{words_of}
use Rattle.mesh_grammar.specs.Commands.{shape_of}
use Rattle.mesh_text.proofs.Echoes.{read_line_is_written_as_it_was}
use Rattle.mesh_text.proofs.InRange.{in_range}
use Rattle.mesh_text.proofs.Printed.{printed_line_parses}
use Rattle.mesh_script.specs.declared.line.Line.{Line}
use Rattle.mesh_script.specs.declared.shape.Shape.{Shape}
use Rattle.mesh_script.specs.Shapes.{said_of, seen_shape}
use Rattle.mesh_script.specs.Seen.{accepted_of, seen_line, short_count, IsAllowed}

of_count : (count : ℕ) → count < 2 ^ 32 → short_count (Ok (Chooses count)) ≡ Ok (Chooses count)
of_count count h = grind (arith, nat_tests)

-- a line in its range has a count of 32 bits
pub counted_in_range : (mesh : Nodes) (a : AcceptedLine) → IsInRange mesh a → short_count (Ok a) ≡ Ok a
counted_in_range mesh Nothing h = refl
counted_in_range mesh (NewNode address first) h = refl
counted_in_range mesh (Does e) h = refl
counted_in_range mesh (Chooses count) h = of_count count (omega arith)
counted_in_range mesh (ShowsNode x) h = refl
counted_in_range mesh (ShowsRoute x d) h = refl
counted_in_range mesh ShowsFlight h = refl

pub counted_line : (mesh : Nodes) (started : Bool) (line : List ℕ) → length mesh ≤ MOST_NODES → short_count (line_of mesh started line) ≡ line_of mesh started line
counted_line mesh started line few = by_line (line_of mesh started line) refl
  where
    by_line : (r : Result AcceptedLine LineFault) → line_of mesh started line ≡ r → short_count r ≡ r
    by_line (Ok a) e = counted_in_range mesh a (in_range mesh started line a few e).0
    by_line (Err f) e = refl

-- ---- the line of what is said

pub line_of_said : (mesh : Nodes) (started : Bool) (line : List ℕ) (said : Option (Shape Command)) (r : Result AcceptedLine LineFault) → length mesh ≤ MOST_NODES
    → seen_shape (Ok said) ≡ shape_of line → r ≡ short_count (accepted_shape mesh started (said_of said))
    → r ≡ line_of mesh started line
unfolding line_of
line_of_said mesh started line said r few shape is =
    let e : line_of mesh started line ≡ accepted_shape mesh started (said_of said) = rw (sym shape) refl in
    is ∙ ap short_count (sym e) ∙ counted_line mesh started line few

-- ---- what is known of a line that was read

pub allowed : (mesh : Nodes) (started : Bool) (line : List ℕ) (r : Result Line LineFault) → length mesh ≤ MOST_NODES
    → seen_line r ≡ line_of mesh started line → IfOk r (IsAllowed mesh started)
allowed mesh started line (Ok l) few is = in_range mesh started line (accepted_of l) few (sym is)
allowed mesh started line (Err f) few is = tt

pub echo : (mesh : Nodes) (started : Bool) (line : List ℕ) (r : Result Line LineFault)
    → seen_line r ≡ line_of mesh started line → IfOk r (λ l. IsEcho mesh line (accepted_of l))
echo mesh started line (Ok l) is = read_line_is_written_as_it_was mesh started line (accepted_of l) (sym is)
echo mesh started line (Err f) is = tt

-- ---- what is written is read

pub reread : (mesh : Nodes) (a : AcceptedLine) (text : List ℕ) → IsMesh mesh → IsInRange mesh a → text ≡ words_of mesh a
    → (started : Bool) → IsInTime started a → line_of mesh started text ≡ Ok a
reread mesh a text is range e started time =
    let P : List ℕ → Type 0 = λ t. line_of mesh started t ≡ Ok a in
    subst P (sym e) (printed_line_parses mesh started a is range time)

-- append-nil, by a name that an attribute of a function can give
pub append_none : (text : List ℕ) → text ++ [] ≡ text
append_none text = append-nil text
