-- What a line is read as is in its range.
use Rattle.std.proofs.Common.{◌≡◌, ◌≢◌, ℕ, ◌^◌, ◌<◌, ◌≤◌, Bool, false, eqb, List, Option, Some, None, Result, Ok, Err, length, refl, subst, arith, is_some}
use Rattle.std.proofs.lemmas.Bool.{eqb-false}
use Rattle.mesh_base.specs.declared.limits.TheConstants.{MOST_NODES}
use Rattle.mesh_base.specs.Meshes.{Nodes, index_of}
use Rattle.aodv_model.proofs.Entries.{if_case}
use Rattle.mesh_model.specs.Worlds.{Event, Link, Cut}
use Rattle.mesh_grammar.specs.declared.command.Command.{Command}
use Rattle.mesh_grammar.specs.declared.command.Command.TheVariants as command
use Rattle.mesh_grammar.specs.declared.fault.LineFault.{LineFault}
use Rattle.mesh_grammar.specs.declared.fault.LineFault.TheVariants.{Same}
use Rattle.mesh_grammar.specs.Words.{SpannedAddr}
use Rattle.mesh_grammar.specs.Forms.{Arguments, NoArgument, OneAddress, TwoAddresses, OneNumber, NumberedAddress, AddressesAndText, greatest_first, AreOfForm}
use Rattle.mesh_grammar.specs.Scripts.{Shape}
use Rattle.mesh_grammar.specs.Commands.{shape_of}
use Rattle.mesh_grammar.specs.Laws.{HaveAddresses, addresses_of}
use Rattle.mesh_text.specs.Schedule.{AcceptedLine, Does, made_line, new_node, accepted_line, accepted_shape, of_pair, result_and_then, line_of}
use Rattle.mesh_text.specs.Ranges.{IsEventLine, IsInRange, IsInTime}
use Rattle.mesh_text.specs.Laws.{ReadLineIsInRange}
use Rattle.mesh_text.proofs.Shapes.{form_of, Said, said, none_indexed, number_indexed, one_indexed, two_indexed, text_indexed}

unfoldable pub Allowed : Nodes → Bool → Result AcceptedLine LineFault → Type 0
Allowed mesh started (Err f) = Unit {0}
Allowed mesh started (Ok a) = IsInRange mesh a × IsInTime started a

module _ (mesh : Nodes) (started : Bool) where
  faulty : (f : LineFault) → Allowed mesh started (Err f)
  unfolding Allowed
  faulty f = tt

  -- an event of two nodes that are not the same
  pair_allowed : (x y : ℕ) (e : Event) → (x ≢ y → IsEventLine mesh e) → Allowed mesh started (of_pair x y e)
  unfolding Allowed
  pair_allowed x y e holds =
      if_case (Allowed mesh started) (eqb x y) (Err Same) (Ok (Does e)) (λ _. tt) (λ apart. (holds (eqb-false x y apart), tt))

  none_there : (o : Option ℕ) → is_some o ≡ false → o ≡ None
  none_there None h = refl
  none_there (Some x) h = absurd (let P : ⊥ = cc in P)

  node_allowed : (m : SpannedAddr) (first : ℕ) → length mesh ≤ MOST_NODES → m.address < 2 ^ 32 → 1 ≤ first → first ≤ greatest_first
      → Allowed mesh started (new_node mesh started m first)
  unfolding Allowed
  node_allowed m first few fits one most =
      if_case (Allowed mesh started) started _ _ (λ _. tt) (λ early.
      if_case (Allowed mesh started) (is_some (index_of mesh m.address)) _ _ (λ _. tt) (λ absent.
      if_case (Allowed mesh started) (eqb (length mesh) MOST_NODES) _ _ (λ _. tt) (λ room.
      let apart : length mesh ≢ MOST_NODES = eqb-false (length mesh) MOST_NODES room in
      (record { fits = fits; absent = none_there (index_of mesh m.address) absent; few = omega arith; positive = one; most = most }, early))))

  said_allowed : (c : Command) (arguments : Arguments SpannedAddr) → length mesh ≤ MOST_NODES → AreOfForm (form_of c) arguments
      → HaveAddresses (addresses_of arguments) → Allowed mesh started (accepted_line mesh started c arguments)
  unfolding Allowed
  said_allowed command.Node (NumberedAddress m first) few form fit = node_allowed m first few fit form.0 form.1
  said_allowed command.Link (TwoAddresses m n) few form fit =
      two_indexed mesh (Allowed mesh started) faulty (made_line command.Link) m n (λ x y x_at y_at.
      pair_allowed x y (Link x y) (λ apart. (omega (arith, x_at.0), (x_at.0, y_at.0, apart), tt)))
  said_allowed command.Cut (TwoAddresses m n) few form fit =
      two_indexed mesh (Allowed mesh started) faulty (made_line command.Cut) m n (λ x y x_at y_at.
      pair_allowed x y (Cut x y) (λ apart. (omega (arith, x_at.0), (x_at.0, y_at.0, apart), tt)))
  said_allowed command.Data (AddressesAndText m n text) few form fit =
      text_indexed mesh (Allowed mesh started) faulty (made_line command.Data) m n text (λ x y x_at y_at.
      ((omega (arith, x_at.0), (x_at.0, y_at.0, (form.0, form.1)), form), tt))
  said_allowed command.Turn (OneAddress m) few form fit =
      one_indexed mesh (Allowed mesh started) faulty (made_line command.Turn) m (λ x x_at. ((omega (arith, x_at.0), x_at.0, tt), tt))
  said_allowed command.Send (TwoAddresses m n) few form fit =
      two_indexed mesh (Allowed mesh started) faulty (made_line command.Send) m n (λ x y x_at y_at.
      ((omega (arith, x_at.0), (x_at.0, y_at.0), tt), tt))
  said_allowed command.Ask (TwoAddresses m n) few form fit =
      two_indexed mesh (Allowed mesh started) faulty (made_line command.Ask) m n (λ x y x_at y_at.
      ((omega (arith, x_at.0), (x_at.0, y_at.0), tt), tt))
  said_allowed command.Deliver (OneNumber id) few form fit =
      number_indexed mesh (Allowed mesh started) faulty (made_line command.Deliver) id (λ some. ((some, tt, form), tt))
  said_allowed command.Lose (OneNumber id) few form fit =
      number_indexed mesh (Allowed mesh started) faulty (made_line command.Lose) id (λ some. ((some, tt, form), tt))
  said_allowed command.Copy (OneNumber id) few form fit =
      number_indexed mesh (Allowed mesh started) faulty (made_line command.Copy) id (λ some. ((some, tt, form), tt))
  said_allowed command.Auto (OneNumber count) few form fit =
      number_indexed mesh (Allowed mesh started) faulty (made_line command.Auto) count (λ some. ((some, form.0, form.1), tt))
  said_allowed command.Show (OneAddress m) few form fit =
      one_indexed mesh (Allowed mesh started) faulty (made_line command.Show) m (λ x x_at. (x_at.0, tt))
  said_allowed command.Route (TwoAddresses m n) few form fit =
      two_indexed mesh (Allowed mesh started) faulty (made_line command.Route) m n (λ x y x_at y_at. ((x_at.0, y_at.0), tt))
  said_allowed command.Flight NoArgument few form fit =
      none_indexed mesh (Allowed mesh started) faulty (made_line command.Flight) (λ some. (some, tt))
  said_allowed other arguments few form fit = absurd form

  shape_allowed : (line : List ℕ) (r : Result (Option (Shape Command SpannedAddr)) LineFault) → length mesh ≤ MOST_NODES → Said line r
      → Allowed mesh started (result_and_then (accepted_shape mesh started) r)
  unfolding Allowed Said
  shape_allowed line (Ok None) few said = (tt, tt)
  shape_allowed line (Ok (Some s)) few said = said_allowed s.command s.arguments few said.form said.addresses
  shape_allowed line (Err f) few said = tt

pub line_allowed : (mesh : Nodes) (started : Bool) (line : List ℕ) → length mesh ≤ MOST_NODES → Allowed mesh started (line_of mesh started line)
unfolding line_of
line_allowed mesh started line few = shape_allowed mesh started line (shape_of line) few (said line)

pub in_range : ReadLineIsInRange
unfolding Allowed
in_range mesh started line a few is = subst (Allowed mesh started) is (line_allowed mesh started line few)
