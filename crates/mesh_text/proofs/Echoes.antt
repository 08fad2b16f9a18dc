-- A line that is read is written back as it stands.
use Rattle.std.proofs.Common.{◌≡◌, ℕ, Bool, eqb, List, Option, Some, None, Result, Ok, Err, length, sym, ap, ap₂, subst, ◌∙◌, is_some}
use Rattle.mesh_base.specs.declared.limits.TheConstants.{MOST_NODES}
use Rattle.mesh_base.specs.Meshes.{Nodes, addr_at, index_of}
use Rattle.aodv_model.proofs.Entries.{if_case}
use Rattle.mesh_model.specs.Worlds.{Event, Link, Cut}
use Rattle.mesh_grammar.specs.declared.command.Command.{Command}
use Rattle.mesh_grammar.specs.declared.command.Command.TheVariants as command
use Rattle.mesh_grammar.specs.declared.fault.LineFault.{LineFault}
use Rattle.mesh_grammar.specs.declared.fault.LineFault.TheVariants.{Same}
use Rattle.mesh_grammar.specs.Words.{SpannedAddr}
use Rattle.mesh_grammar.specs.Forms.{Arguments, NoArgument, OneAddress, TwoAddresses, OneNumber, NumberedAddress, AddressesAndText, AreOfForm}
use Rattle.mesh_grammar.specs.Scripts.{Shape}
use Rattle.mesh_grammar.specs.Commands.{shape_of}
use Rattle.mesh_grammar.specs.Written.{command_text}
use Rattle.mesh_grammar.specs.Laws.{addresses_of, IsTextOf}
use Rattle.mesh_text.specs.Schedule.{AcceptedLine, Does, NewNode, of_pair, made_line, new_node, accepted_line, accepted_shape, result_and_then, line_of}
use Rattle.mesh_text.specs.Lines.{words_of, event_words}
use Rattle.mesh_text.specs.Ranges.{IsEcho}
use Rattle.mesh_text.specs.Laws.{ReadLineIsWrittenAsItWas}
use Rattle.mesh_text.proofs.Shapes.{form_of, word_of, Said, said, IsAt, none_indexed, number_indexed, one_indexed, two_indexed, text_indexed}

unfoldable pub Echoed : Nodes → List ℕ → Result AcceptedLine LineFault → Type 0
Echoed mesh line (Err f) = Unit {0}
Echoed mesh line (Ok a) = IsEcho mesh line a

module _ (mesh : Nodes) (started : Bool) (line : List ℕ) where
  faulty : (f : LineFault) → Echoed mesh line (Err f)
  unfolding Echoed
  faulty f = tt

  pair_echoed : (x y : ℕ) (e : Event) → IsEcho mesh line (Does e) → Echoed mesh line (of_pair x y e)
  unfolding Echoed
  pair_echoed x y e is = if_case (Echoed mesh line) (eqb x y) (Err Same) (Ok (Does e)) (λ _. tt) (λ _. is)

  node_echoed : (m : SpannedAddr) (first : ℕ) → IsEcho mesh line (NewNode m.address first) → Echoed mesh line (new_node mesh started m first)
  unfolding Echoed
  node_echoed m first is =
      if_case (Echoed mesh line) started _ _ (λ _. tt) (λ _.
      if_case (Echoed mesh line) (is_some (index_of mesh m.address)) _ _ (λ _. tt) (λ _.
      if_case (Echoed mesh line) (eqb (length mesh) MOST_NODES) _ _ (λ _. tt) (λ _. is)))

  -- the text of one node, or of two, by their indices in the mesh
  one_text : (word : List ℕ) (m : SpannedAddr) (x : ℕ) → line ≡ command_text word (OneAddress m.address) → IsAt mesh m x
      → line ≡ command_text word (OneAddress (addr_at mesh x))
  one_text word m x text at = text ∙ ap (λ a. command_text word (OneAddress a)) (sym at.1)

  two_text : (word : List ℕ) (m n : SpannedAddr) (x y : ℕ) → line ≡ command_text word (TwoAddresses m.address n.address) → IsAt mesh m x → IsAt mesh n y
      → line ≡ command_text word (TwoAddresses (addr_at mesh x) (addr_at mesh y))
  two_text word m n x y text x_at y_at = text ∙ ap₂ (λ a b. command_text word (TwoAddresses a b)) (sym x_at.1) (sym y_at.1)

  text_text : (word : List ℕ) (m n : SpannedAddr) (body : List ℕ) (x y : ℕ) → line ≡ command_text word (AddressesAndText m.address n.address body)
      → IsAt mesh m x → IsAt mesh n y → line ≡ command_text word (AddressesAndText (addr_at mesh x) (addr_at mesh y) body)
  text_text word m n body x y text x_at y_at = text ∙ ap₂ (λ a b. command_text word (AddressesAndText a b body)) (sym x_at.1) (sym y_at.1)

  said_echoed : (c : Command) (arguments : Arguments SpannedAddr) → AreOfForm (form_of c) arguments
      → IsTextOf line (word_of c) (addresses_of arguments) → Echoed mesh line (accepted_line mesh started c arguments)
  unfolding Echoed words_of event_words
  said_echoed command.Node (NumberedAddress m first) form text = node_echoed m first text
  said_echoed command.Link (TwoAddresses m n) form text =
      two_indexed mesh (Echoed mesh line) faulty (made_line command.Link) m n (λ x y x_at y_at.
      pair_echoed x y (Link x y) (two_text (word_of command.Link) m n x y text x_at y_at))
  said_echoed command.Cut (TwoAddresses m n) form text =
      two_indexed mesh (Echoed mesh line) faulty (made_line command.Cut) m n (λ x y x_at y_at.
      pair_echoed x y (Cut x y) (two_text (word_of command.Cut) m n x y text x_at y_at))
  said_echoed command.Data (AddressesAndText m n body) form text =
      text_indexed mesh (Echoed mesh line) faulty (made_line command.Data) m n body (λ x y x_at y_at.
      text_text (word_of command.Data) m n body x y text x_at y_at)
  said_echoed command.Turn (OneAddress m) form text =
      one_indexed mesh (Echoed mesh line) faulty (made_line command.Turn) m (λ x at. one_text (word_of command.Turn) m x text at)
  said_echoed command.Send (TwoAddresses m n) form text =
      two_indexed mesh (Echoed mesh line) faulty (made_line command.Send) m n (λ x y x_at y_at. two_text (word_of command.Send) m n x y text x_at y_at)
  said_echoed command.Ask (TwoAddresses m n) form text =
      two_indexed mesh (Echoed mesh line) faulty (made_line command.Ask) m n (λ x y x_at y_at. two_text (word_of command.Ask) m n x y text x_at y_at)
  said_echoed command.Deliver (OneNumber id) form text = number_indexed mesh (Echoed mesh line) faulty (made_line command.Deliver) id (λ _. text)
  said_echoed command.Lose (OneNumber id) form text = number_indexed mesh (Echoed mesh line) faulty (made_line command.Lose) id (λ _. text)
  said_echoed command.Copy (OneNumber id) form text = number_indexed mesh (Echoed mesh line) faulty (made_line command.Copy) id (λ _. text)
  said_echoed command.Auto (OneNumber count) form text = number_indexed mesh (Echoed mesh line) faulty (made_line command.Auto) count (λ _. text)
  said_echoed command.Show (OneAddress m) form text =
      one_indexed mesh (Echoed mesh line) faulty (made_line command.Show) m (λ x at. one_text (word_of command.Show) m x text at)
  said_echoed command.Route (TwoAddresses m n) form text =
      two_indexed mesh (Echoed mesh line) faulty (made_line command.Route) m n (λ x y x_at y_at. two_text (word_of command.Route) m n x y text x_at y_at)
  said_echoed command.Flight NoArgument form text = none_indexed mesh (Echoed mesh line) faulty (made_line command.Flight) (λ _. text)
  said_echoed other arguments form text = absurd form

  shape_echoed : (r : Result (Option (Shape Command SpannedAddr)) LineFault) → Said line r → Echoed mesh line (result_and_then (accepted_shape mesh started) r)
  unfolding Echoed Said
  shape_echoed (Ok None) said = said
  shape_echoed (Ok (Some s)) said = said_echoed s.command s.arguments said.form said.text
  shape_echoed (Err f) said = tt

  pub echoed : Echoed mesh line (line_of mesh started line)
  unfolding line_of
  echoed = shape_echoed (shape_of line) (said line)

pub read_line_is_written_as_it_was : ReadLineIsWrittenAsItWas
unfolding Echoed
read_line_is_written_as_it_was mesh started line a is = subst (Echoed mesh line) is (echoed mesh started line)
