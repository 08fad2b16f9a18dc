-- What the table of a router's script says of a line that is read.
use Rattle.std.proofs.Common.{◌≡◌, ℕ, ◌≤◌, true, List, ◌∷◌, ◌++◌, Option, Some, None, Result, Ok, Err, IfOk, length, refl, sym, ap, subst, ◌∙◌, arith, codes}
use Rattle.std.specs.Fmt.{decimal}
use Rattle.std.specs.List.{AllByRecursion}
use Rattle.std.proofs.lemmas.List.{length-append}
use Rattle.mesh_base.specs.Addresses.{dotted_decimal}
use Rattle.mesh_grammar.specs.declared.fault.LineFault.{LineFault}
use Rattle.mesh_grammar.specs.Words.{SpannedAddr, is_blank}
use Rattle.mesh_grammar.specs.Forms.{Arguments, NoArgument, OneAddress, TwoAddresses, OneNumber, NumberedAddress, AddressesAndText, AddressAndNumber, AddressAndText, AreOfForm}
use Rattle.mesh_grammar.specs.Scripts.{Row, Shape}
use Rattle.mesh_grammar.specs.Written.{command_text}
use Rattle.mesh_grammar.specs.Laws.{HaveAddresses, AreReadable, addresses_of, IsTextOf, IsRead}
use Rattle.mesh_grammar.proofs.Readings.{row_found, LineRead, line_read}
use Rattle.mesh_script.specs.Arguments.{all_spanned_of}
use Rattle.mesh_script.specs.declared.node_command.NodeCommand.{NodeCommand}
use Rattle.mesh_script.specs.declared.node_command.NodeCommand.TheVariants as command
use Rattle.mesh_script.specs.declared.shape.Shape as code
use Rattle.mesh_script.specs.NodeCommands.{router_script, shape_of}
use Rattle.mesh_script.specs.NodeSeen.{form_of, EndsIn, IsSaidIn}
use Rattle.mesh_script.specs.Shapes.{seen_shape}

abbrev pub word_of : NodeCommand → List ℕ
word_of command.Own = codes "self"
word_of command.Peer = codes "peer"
word_of command.Up = codes "up"
word_of command.Down = codes "down"
word_of command.Data = codes "data"
word_of command.Poll = codes "poll"
word_of command.Turn = codes "turn"
word_of command.Send = codes "send"
word_of command.Ask = codes "ask"
word_of command.Show = codes "show"

-- the row of a command
abbrev pub row_of : NodeCommand → Row NodeCommand
row_of c = record { command = c; word = word_of c; form = form_of c }

IsRowOfCommand : Row NodeCommand → Type 0
IsRowOfCommand row = (row.form ≡ form_of row.command) × (row.word ≡ word_of row.command)

rows_of_commands : AllByRecursion IsRowOfCommand router_script
unfolding IsRowOfCommand
rows_of_commands = (
  (refl, refl),
  (
    (refl, refl),
    (
      (refl, refl),
      (
        (refl, refl),
        (
          (refl, refl),
          ((refl, refl), ((refl, refl), ((refl, refl), ((refl, refl), ((refl, refl), tt))))),
        ),
      ),
    ),
  ),
)

pub script_is_readable : AreReadable router_script
script_is_readable = (tt, (omega arith, (tt, (tt, (tt, (omega arith, (omega arith, (tt, (tt, (tt, tt))))))))))

-- a line that is read as this command and these arguments
pub record IsSaid (line : List ℕ) (c : NodeCommand) (arguments : Arguments SpannedAddr) : Type 0 where
  pub form : AreOfForm (form_of c) arguments
  pub addresses : HaveAddresses (addresses_of arguments)
  pub text : IsTextOf line (word_of c) (addresses_of arguments)

unfoldable pub Said : List ℕ → Result (Option (Shape NodeCommand SpannedAddr)) LineFault → Type 0
Said line (Err fault) = Unit {0}
Said line (Ok None) = is_blank line ≡ true
Said line (Ok (Some s)) = IsSaid line s.command s.arguments

row_said : (line : List ℕ) (s : Shape NodeCommand SpannedAddr) (row : Row NodeCommand) → IsRead router_script line s row → IsSaid line s.command s.arguments
unfolding IsRowOfCommand
row_said line s row is =
    let of = row_found IsRowOfCommand router_script row.word row rows_of_commands is.found in
    let form_is : row.form ≡ form_of s.command = of.0 ∙ ap form_of is.command in
    let word_is : row.word ≡ word_of s.command = of.1 ∙ ap word_of is.command in
    record {
      form = subst (λ f. AreOfForm f s.arguments) form_is is.form;
      addresses = is.addresses;
      text = subst (λ w. IsTextOf line w (addresses_of s.arguments)) word_is is.text;
    }

said_if : (line : List ℕ) (r : Result (Option (Shape NodeCommand SpannedAddr)) LineFault) → LineRead router_script line r → Said line r
unfolding LineRead Said
said_if line (Err fault) read = tt
said_if line (Ok None) read = read
said_if line (Ok (Some s)) read = row_said line s read.0 read.1

pub said : (line : List ℕ) → Said line (shape_of line)
said line = said_if line (shape_of line) (line_read router_script line script_is_readable)

-- ---- a number that ends its line

last_fits : (front : List ℕ) (n : ℕ) → length (decimal n) ≤ length (front ++ 32 ∷ decimal n)
last_fits front n = omega (arith, length-append front (32 ∷ decimal n))

ends : (line word : List ℕ) (arguments : Arguments SpannedAddr) → IsTextOf line word (addresses_of arguments) → EndsIn (length line) arguments
unfolding command_text
ends line word NoArgument text = tt
ends line word (OneAddress a) text = tt
ends line word (TwoAddresses a b) text = tt
ends line word (OneNumber n) text = tt
ends line word (NumberedAddress a first) text = tt
ends line word (AddressesAndText a b t) text = tt
ends line word (AddressAndNumber a n) text =
    subst (λ l. length (decimal n) ≤ length l) (sym text) (last_fits (word ++ 32 ∷ dotted_decimal a.address) n)
ends line word (AddressAndText a t) text = tt

said_shape : (line : List ℕ) (r : Result (Option (code.Shape NodeCommand)) LineFault) → Said line (seen_shape r) → IfOk r (IsSaidIn (length line))
unfolding Said
said_shape line (Err f) h = tt
said_shape line (Ok None) h = tt
said_shape line (Ok (Some s)) h = (h.form, ends line (word_of s.command) (all_spanned_of s.arguments) h.text)

pub said_in : (line : List ℕ) (r : Result (Option (code.Shape NodeCommand)) LineFault) → seen_shape r ≡ shape_of line → IfOk r (IsSaidIn (length line))
said_in line r is = said_shape line r (subst (Said line) (sym is) (said line))
