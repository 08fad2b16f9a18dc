-- What the table of a schedule says of a line that is read, and its nodes in a mesh.
use Rattle.std.proofs.Common.{◌≡◌, ℕ, ◌<◌, ◌≤◌, true, List, [], ◌∷◌, Option, Some, None, Result, Ok, Err, length, refl, ap, subst, ◌∙◌, arith, codes}
use Rattle.std.specs.List.{AllByRecursion}
use Rattle.mesh_base.specs.declared.limits.TheConstants.{MOST_EVENTS}
use Rattle.mesh_base.specs.Meshes.{Nodes, addr_at, index_of}
use Rattle.aodv_meaning.proofs.Means.{index_there}
use Rattle.mesh_grammar.specs.declared.command.Command.{Command}
use Rattle.mesh_grammar.specs.declared.command.Command.TheVariants as command
use Rattle.mesh_grammar.specs.declared.fault.LineFault.{LineFault}
use Rattle.mesh_grammar.specs.declared.fault.LineFault.TheVariants.{Early, Unknown}
use Rattle.mesh_grammar.specs.declared.form.Form.{Form}
use Rattle.mesh_grammar.specs.declared.form.Form.TheVariants as form
use Rattle.mesh_grammar.specs.Words.{SpannedAddr, is_blank}
use Rattle.mesh_grammar.specs.Forms.{Arguments, NoArgument, OneAddress, TwoAddresses, OneNumber, AddressesAndText, AreOfForm}
use Rattle.mesh_grammar.specs.Scripts.{Row, Shape}
use Rattle.mesh_grammar.specs.Commands.{schedule, greatest_id, shape_of}
use Rattle.mesh_grammar.specs.Laws.{HaveAddresses, AreReadable, addresses_of, IsTextOf, IsRead}
use Rattle.mesh_grammar.proofs.Readings.{with_argument_case, row_found, LineRead, line_read}
use Rattle.mesh_text.specs.Schedule.{AcceptedLine, after_nodes, as_node, with_nodes, result_and_then}

-- ---- the table

abbrev pub form_of : Command → Form
form_of command.Node = form.Numbered
form_of command.Link = form.Addresses
form_of command.Cut = form.Addresses
form_of command.Data = form.Text
form_of command.Turn = form.Address
form_of command.Send = form.Addresses
form_of command.Ask = form.Addresses
form_of command.Deliver = form.Number greatest_id
form_of command.Lose = form.Number greatest_id
form_of command.Copy = form.Number greatest_id
form_of command.Auto = form.Number MOST_EVENTS
form_of command.Show = form.Address
form_of command.Route = form.Addresses
form_of command.Flight = form.Bare

abbrev pub word_of : Command → List ℕ
word_of command.Node = codes "node"
word_of command.Link = codes "link"
word_of command.Cut = codes "cut"
word_of command.Data = codes "data"
word_of command.Turn = codes "turn"
word_of command.Send = codes "send"
word_of command.Ask = codes "ask"
word_of command.Deliver = codes "deliver"
word_of command.Lose = codes "lose"
word_of command.Copy = codes "copy"
word_of command.Auto = codes "auto"
word_of command.Show = codes "show"
word_of command.Route = codes "route"
word_of command.Flight = codes "flight"

-- the row of a command
abbrev pub row_of : Command → Row Command
row_of c = record { command = c; word = word_of c; form = form_of c }

IsRowOfCommand : Row Command → Type 0
IsRowOfCommand row = (row.form ≡ form_of row.command) × (row.word ≡ word_of row.command)

rows_of_commands : AllByRecursion IsRowOfCommand schedule
unfolding IsRowOfCommand
rows_of_commands = (
  (refl, refl),
  (
    (refl, refl),
    (
      (refl, refl),
      (
        (refl, refl),
        (
          (refl, refl),
          (
            (refl, refl),
            (
              (refl, refl),
              ((refl, refl), ((refl, refl), ((refl, refl), ((refl, refl), ((refl, refl), ((refl, refl), ((refl, refl), tt))))))),
            ),
          ),
        ),
      ),
    ),
  ),
)

pub schedule_is_readable : AreReadable schedule
schedule_is_readable = (tt, (tt, (tt, (tt, (tt, (tt, (tt, (omega arith, (omega arith, (omega arith, (omega arith, (tt, (tt, (tt, tt))))))))))))))

-- a line that is read as this command and these arguments
pub record IsSaid (line : List ℕ) (c : Command) (arguments : Arguments SpannedAddr) : Type 0 where
  pub form : AreOfForm (form_of c) arguments
  pub addresses : HaveAddresses (addresses_of arguments)
  pub text : IsTextOf line (word_of c) (addresses_of arguments)

unfoldable pub Said : List ℕ → Result (Option (Shape Command SpannedAddr)) LineFault → Type 0
Said line (Err fault) = Unit {0}
Said line (Ok None) = is_blank line ≡ true
Said line (Ok (Some s)) = IsSaid line s.command s.arguments

row_said : (line : List ℕ) (s : Shape Command SpannedAddr) (row : Row Command) → IsRead schedule line s row → IsSaid line s.command s.arguments
unfolding IsRowOfCommand
row_said line s row is =
    let of = row_found IsRowOfCommand schedule row.word row rows_of_commands is.found in
    let form_is : row.form ≡ form_of s.command = of.0 ∙ ap form_of is.command in
    let word_is : row.word ≡ word_of s.command = of.1 ∙ ap word_of is.command in
    record {
      form = subst (λ f. AreOfForm f s.arguments) form_is is.form;
      addresses = is.addresses;
      text = subst (λ w. IsTextOf line w (addresses_of s.arguments)) word_is is.text;
    }

said_if : (line : List ℕ) (r : Result (Option (Shape Command SpannedAddr)) LineFault) → LineRead schedule line r → Said line r
unfolding LineRead Said
said_if line (Err fault) read = tt
said_if line (Ok None) read = read
said_if line (Ok (Some s)) read = row_said line s read.0 read.1

pub said : (line : List ℕ) → Said line (shape_of line)
said line = said_if line (shape_of line) (line_read schedule line schedule_is_readable)

-- ---- nodes

-- node x is the one that is mentioned
abbrev pub IsAt : Nodes → SpannedAddr → ℕ → Type 0
IsAt mesh m x = (x < length mesh) × (addr_at mesh x ≡ m.address)

-- what holds of a line that is made of arguments, where a fault doesn't break it
module _ (mesh : Nodes) (P : Result AcceptedLine LineFault → Type 0) (faulty : (f : LineFault) → P (Err f)) (make : Arguments ℕ → Result AcceptedLine LineFault) where
  abbrev IndexedSo : Arguments SpannedAddr → Type 0
  IndexedSo arguments = P (after_nodes mesh (result_and_then make (with_nodes mesh arguments)))

  some_node : (nodes : Nodes) (r : Result AcceptedLine LineFault) → (1 ≤ length nodes → P r) → P (after_nodes nodes r)
  some_node [] r holds = faulty Early
  some_node (p ∷ ps) r holds = holds (omega arith)

  at_node : (m : SpannedAddr) (next : ℕ → Result (Arguments ℕ) LineFault) → ((x : ℕ) → IsAt mesh m x → P (result_and_then make (next x)))
      → P (result_and_then make (as_node mesh m next))
  at_node m next holds =
      with_argument_case (λ r. P (result_and_then make r)) (index_of mesh m.address) (Unknown m.span) next (faulty (Unknown m.span))
      (λ x is. let there = index_there mesh m.address x is in holds x (there.0, there.2))

  pub none_indexed : (1 ≤ length mesh → P (make NoArgument)) → IndexedSo NoArgument
  none_indexed holds = some_node mesh _ holds

  pub number_indexed : (n : ℕ) → (1 ≤ length mesh → P (make (OneNumber n))) → IndexedSo (OneNumber n)
  number_indexed n holds = some_node mesh _ holds

  pub one_indexed : (m : SpannedAddr) → ((x : ℕ) → IsAt mesh m x → P (make (OneAddress x))) → IndexedSo (OneAddress m)
  one_indexed m holds = some_node mesh _ (λ some. at_node m (λ x. Ok (OneAddress x)) holds)

  pub two_indexed : (m n : SpannedAddr) → ((x y : ℕ) → IsAt mesh m x → IsAt mesh n y → P (make (TwoAddresses x y))) → IndexedSo (TwoAddresses m n)
  two_indexed m n holds =
      some_node mesh _ (λ some. at_node m (λ x. as_node mesh n (λ y. Ok (TwoAddresses x y))) (λ x x_at. at_node n (λ y. Ok (TwoAddresses x y)) (λ y y_at. holds x y x_at y_at)))

  pub text_indexed : (m n : SpannedAddr) (text : List ℕ) → ((x y : ℕ) → IsAt mesh m x → IsAt mesh n y → P (make (AddressesAndText x y text)))
      → IndexedSo (AddressesAndText m n text)
  text_indexed m n text holds =
      some_node mesh _ (λ some. at_node m (λ x. as_node mesh n (λ y. Ok (AddressesAndText x y text))) (λ x x_at. at_node n (λ y. Ok (AddressesAndText x y text)) (λ y y_at. holds x y x_at y_at)))
