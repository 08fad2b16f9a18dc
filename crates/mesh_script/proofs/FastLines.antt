-- What the usual lines come to.
use Rattle.std.specs.Prelude.{codes}
use Rattle.std.proofs.Common.{◌≡◌, ℕ, Bool, List, [], ◌∷◌, ◌++◌, Some, Result, Ok, take, drop, refl, sym, ap, ◌∙◌}
use Rattle.std.proofs.lemmas.List.{take-append-drop}
use Rattle.std.proofs.lemmas.Option.{none-some}
use Rattle.mesh_base.specs.Addresses.{address_of}
use Rattle.mesh_base.specs.Meshes.{Nodes, index_of}
use Rattle.mesh_base.specs.Numbers.{number_up_to, positive}
use Rattle.mesh_model.specs.Worlds.{Turn, Deliver}
use Rattle.mesh_grammar.specs.declared.fault.LineFault.{LineFault}
use Rattle.mesh_grammar.specs.Words.{SpannedAddr, span_at}
use Rattle.mesh_grammar.specs.Commands.{greatest_id}
use Rattle.mesh_grammar.specs.Forms as forms
use Rattle.mesh_grammar.specs.Scripts.{shape_by, shape_with}
use Rattle.mesh_grammar.specs.declared.command.Command.TheVariants as command
use Rattle.mesh_text.specs.Schedule.{AcceptedLine, Does, line_of, after_nodes, accepted_shape, result_and_then}
use Rattle.mesh_script.proofs.Cuts.{only_address, only_number}

-- bytes that begin with two fours
pub two_fours : (bytes rest word front back : List ℕ) → take 4 bytes ≡ front → rest ≡ drop 4 bytes → take 4 rest ≡ back → word ≡ drop 4 rest
    → bytes ≡ front ++ (back ++ word)
two_fours bytes rest word front back one more two last =
    sym (take-append-drop 4 bytes)
    ∙ ap (λ l. l ++ drop 4 bytes) one
    ∙ ap (λ l. front ++ l) (sym more ∙ sym (take-append-drop 4 rest) ∙ ap (λ l. l ++ drop 4 rest) two ∙ ap (λ l. back ++ l) (sym last))

-- a mesh that has a node of this address has a node
some_nodes : (mesh : Nodes) (a x : ℕ) (r : Result AcceptedLine LineFault) → index_of mesh a ≡ Some x → after_nodes mesh r ≡ r
unfolding index_of
some_nodes [] a x r is = absurd (none-some x is)
some_nodes (p ∷ ps) a x r is = refl

pub turn_line : (mesh : Nodes) (started : Bool) (word : List ℕ) (a x : ℕ) → address_of word ≡ Some a → index_of mesh a ≡ Some x
    → line_of mesh started (codes "turn " ++ word) ≡ Ok (Does (Turn x))
unfolding line_of shape_by
turn_line mesh started word a x reads is =
    let m : SpannedAddr = record { address = a; span = span_at 5 word } in
    ap (λ r. result_and_then (accepted_shape mesh started) (shape_with command.Turn r)) (only_address 5 word m reads refl)
    ∙ (some_nodes mesh a x _ is ∙ rw is refl)

pub delivery_line : (mesh : Nodes) (started : Bool) (word : List ℕ) (id : ℕ) → ((line : Result AcceptedLine LineFault) → after_nodes mesh line ≡ line) → positive (number_up_to greatest_id word) ≡ Some id
    → line_of mesh started (codes "deliver " ++ word) ≡ Ok (Does (Deliver id))
unfolding line_of shape_by
delivery_line mesh started word id nodes reads =
    ap (λ r. result_and_then (accepted_shape mesh started) (shape_with command.Deliver r)) (only_number greatest_id 8 word id reads forms.OneNumber)
    ∙ nodes (Ok (Does (Deliver id)))
