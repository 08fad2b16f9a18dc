-- The bytes that a fault of a line is about stand in the line.
use Rattle.std.proofs.Common.{◌≡◌, ℕ, ◌+◌, ◌≤◌, Bool, true, false, eqb, cond, List, [], ◌∷◌, codes, Option, Some, None, Result, Ok, Err, length, length-append, is_some, ap, subst, arith}
use Rattle.std.specs.List.{join_with_byte}
use Rattle.std.specs.Str.{bytes_eq}
use Rattle.std.proofs.lemmas.List.Splits.{join_with_byte-slice_split}
use Rattle.mesh_base.specs.Addresses.{address_of}
use Rattle.mesh_base.specs.Meshes.{Nodes, index_of}
use Rattle.mesh_base.specs.Numbers.{number_up_to, positive}
use Rattle.mesh_base.specs.Parts.{parts}
use Rattle.mesh_grammar.specs.declared.command.Command.{Command}
use Rattle.mesh_base.specs.declared.limits.TheConstants.{MOST_NODES}
use Rattle.mesh_grammar.specs.declared.command.Command.TheVariants as command
use Rattle.mesh_grammar.specs.declared.fault.LineFault.{LineFault}
use Rattle.mesh_grammar.specs.declared.fault.LineFault.TheVariants.{Word, Count, BadAddress, BadNumber, BadText, TwiceNode, TooManyNodes, Unknown, Same}
use Rattle.mesh_grammar.specs.declared.fault.Span.{Span}
use Rattle.mesh_grammar.specs.declared.form.Form.{Form}
use Rattle.mesh_grammar.specs.declared.form.Form.TheVariants as form
use Rattle.mesh_grammar.specs.Commands.{schedule, shape_of}
use Rattle.mesh_grammar.specs.Forms.{Arguments, NoArgument, OneAddress, TwoAddresses, OneNumber, NumberedAddress, AddressesAndText, AddressAndNumber, AddressAndText, greatest_first, address_sn, numbered_address, addresses_and_text, address_and_text, arguments_of}
use Rattle.mesh_grammar.specs.Scripts.{Row, Shape, row_in, shape_with, by_row, by_words, shape_by}
use Rattle.mesh_grammar.specs.Words.{SpannedAddr, span_at, next_at, address_at, number_at, text_of, text_at, is_blank}
use Rattle.mesh_grammar.proofs.Readings.{with_argument_case, if_case}
use Rattle.mesh_model.specs.Worlds.{Link, Cut}
use Rattle.mesh_text.specs.Schedule.{AcceptedLine, NewNode, Does, after_nodes, as_node, with_nodes, made_line, new_node, result_and_then, accepted_line, accepted_shape, line_of}

module _ (most : ℕ) where
  abbrev pub IsNear : Span → Type 0
  IsNear s = (s.from ≤ most) × (s.to ≤ most)

  abbrev pub HasNear : LineFault → Type 0
  HasNear (Word s) = IsNear s
  HasNear (BadAddress s) = IsNear s
  HasNear (BadNumber s) = IsNear s
  HasNear (BadText s) = IsNear s
  HasNear (TwiceNode s) = IsNear s
  HasNear (Unknown s) = IsNear s
  HasNear others = Unit {0}

  abbrev AreNear : Arguments SpannedAddr → Type 0
  AreNear (OneAddress a) = IsNear a.span
  AreNear (TwoAddresses a b) = IsNear a.span × IsNear b.span
  AreNear (NumberedAddress a first) = IsNear a.span
  AreNear (AddressesAndText a b text) = IsNear a.span × IsNear b.span
  AreNear (AddressAndNumber a n) = IsNear a.span
  AreNear (AddressAndText a text) = IsNear a.span
  AreNear others = Unit {0}

  abbrev Near : Result (Arguments SpannedAddr) LineFault → Type 0
  Near (Ok arguments) = AreNear arguments
  Near (Err fault) = HasNear fault

  -- ---- one argument

  address_near : (at : ℕ) (word : List ℕ) (next : SpannedAddr → Result (Arguments SpannedAddr) LineFault) → at + length word ≤ most → ((m : SpannedAddr) → IsNear m.span → Near (next m)) → Near (address_at at word next)
  address_near at word next short near =
      with_argument_case Near (address_of word) (BadAddress (span_at at word)) (λ x. next (record { address = x; span = span_at at word })) (omega arith, short)
      (λ x is. near (record { address = x; span = span_at at word }) (omega arith, short))

  number_near : (greatest at : ℕ) (word : List ℕ) (next : ℕ → Result (Arguments SpannedAddr) LineFault) → at + length word ≤ most → ((n : ℕ) → Near (next n)) → Near (number_at greatest at word next)
  number_near greatest at word next short near =
      with_argument_case Near (positive (number_up_to greatest word)) (BadNumber (span_at at word)) next (omega arith, short) (λ n is. near n)

  text_near : (at : ℕ) (bytes : List ℕ) (next : List ℕ → Result (Arguments SpannedAddr) LineFault) → at + length bytes ≤ most → ((text : List ℕ) → Near (next text)) → Near (text_at at bytes next)
  text_near at bytes next short near =
      with_argument_case Near (text_of bytes) (BadText (span_at at bytes)) next (omega arith, short) (λ text is. near text)

  -- ---- the arguments of each form

  longer : (w v : List ℕ) (ws : List (List ℕ)) → length (join_with_byte 32 (w ∷ v ∷ ws)) ≡ length w + (length (join_with_byte 32 (v ∷ ws)) + 1)
  longer w v ws = let all = length-append w (32 ∷ join_with_byte 32 (v ∷ ws)) in omega arith

  sn_near : (at : ℕ) (a sn n : List ℕ) → at + length (join_with_byte 32 (a ∷ sn ∷ n ∷ [])) ≤ most → Near (address_sn at a sn n NumberedAddress)
  sn_near at a sn n short =
      let first = longer a sn (n ∷ []) in
      let second = longer sn n [] in
      if_case Near (bytes_eq sn (codes "sn")) (address_at at a (λ x. number_at greatest_first (next_at (next_at at a) sn) n (λ k. Ok (NumberedAddress x k)))) (Err Count)
      (λ _. address_near at a (λ x. number_at greatest_first (next_at (next_at at a) sn) n (λ k. Ok (NumberedAddress x k))) (omega arith)
      (λ x x_near. number_near greatest_first (next_at (next_at at a) sn) n (λ k. Ok (NumberedAddress x k)) (omega arith) (λ k. x_near)))
      (λ _. tt)

  arguments_near : (f : Form) (at : ℕ) (ws : List (List ℕ)) → at + length (join_with_byte 32 ws) ≤ most → Near (arguments_of f at ws)
  unfolding numbered_address addresses_and_text address_and_text
  arguments_near form.Bare at [] short = tt
  arguments_near form.Bare at (w ∷ ws) short = tt
  arguments_near form.Address at [] short = tt
  arguments_near form.Address at (a ∷ []) short = address_near at a (λ x. Ok (OneAddress x)) short (λ x near. near)
  arguments_near form.Address at (a ∷ b ∷ ws) short = tt
  arguments_near form.Addresses at [] short = tt
  arguments_near form.Addresses at (a ∷ []) short = tt
  arguments_near form.Addresses at (a ∷ b ∷ []) short =
      let all = longer a b [] in
      address_near at a (λ x. address_at (next_at at a) b (λ y. Ok (TwoAddresses x y))) (omega arith)
      (λ x x_near. address_near (next_at at a) b (λ y. Ok (TwoAddresses x y)) (omega arith) (λ y y_near. (x_near, y_near)))
  arguments_near form.Addresses at (a ∷ b ∷ c ∷ ws) short = tt
  arguments_near (form.Number greatest) at [] short = tt
  arguments_near (form.Number greatest) at (n ∷ []) short = number_near greatest at n (λ k. Ok (OneNumber k)) short (λ k. tt)
  arguments_near (form.Number greatest) at (n ∷ m ∷ ws) short = tt
  arguments_near form.Numbered at [] short = tt
  arguments_near form.Numbered at (a ∷ []) short = address_near at a (λ x. Ok (NumberedAddress x 1)) short (λ x near. near)
  arguments_near form.Numbered at (a ∷ b ∷ []) short = tt
  arguments_near form.Numbered at (a ∷ sn ∷ n ∷ []) short = sn_near at a sn n short
  arguments_near form.Numbered at (a ∷ b ∷ c ∷ d ∷ ws) short = tt
  arguments_near form.Text at [] short = tt
  arguments_near form.Text at (a ∷ []) short = tt
  arguments_near form.Text at (a ∷ b ∷ []) short = tt
  arguments_near form.Text at (a ∷ b ∷ t ∷ ts) short =
      let first = longer a b (t ∷ ts) in
      let second = longer b t ts in
      let third : ℕ = next_at (next_at at a) b in
      let body : List ℕ = join_with_byte 32 (t ∷ ts) in
      address_near at a (λ x. address_at (next_at at a) b (λ y. text_at third body (λ text. Ok (AddressesAndText x y text)))) (omega arith)
      (λ x x_near. address_near (next_at at a) b (λ y. text_at third body (λ text. Ok (AddressesAndText x y text))) (omega arith)
      (λ y y_near. text_near third body (λ text. Ok (AddressesAndText x y text)) (omega arith) (λ text. (x_near, y_near))))
  arguments_near (form.AddressNumber greatest) at [] short = tt
  arguments_near (form.AddressNumber greatest) at (a ∷ []) short = tt
  arguments_near (form.AddressNumber greatest) at (a ∷ n ∷ []) short =
      let all = longer a n [] in
      address_near at a (λ x. number_at greatest (next_at at a) n (λ k. Ok (AddressAndNumber x k))) (omega arith)
      (λ x x_near. number_near greatest (next_at at a) n (λ k. Ok (AddressAndNumber x k)) (omega arith) (λ k. x_near))
  arguments_near (form.AddressNumber greatest) at (a ∷ b ∷ c ∷ ws) short = tt
  arguments_near form.AddressText at [] short = tt
  arguments_near form.AddressText at (a ∷ []) short = tt
  arguments_near form.AddressText at (a ∷ t ∷ ts) short =
      let all = longer a t ts in
      address_near at a (λ x. text_at (next_at at a) (join_with_byte 32 (t ∷ ts)) (λ text. Ok (AddressAndText x text))) (omega arith)
      (λ x x_near. text_near (next_at at a) (join_with_byte 32 (t ∷ ts)) (λ text. Ok (AddressAndText x text)) (omega arith) (λ text. x_near))

  -- ---- a whole line

  abbrev ShapeNear : Result (Option (Shape Command SpannedAddr)) LineFault → Type 0
  ShapeNear (Ok None) = Unit {0}
  ShapeNear (Ok (Some s)) = AreNear s.arguments
  ShapeNear (Err fault) = HasNear fault

  with_near : (c : Command) (r : Result (Arguments SpannedAddr) LineFault) → Near r → ShapeNear (shape_with c r)
  with_near c (Ok arguments) near = near
  with_near c (Err fault) near = near

  row_near : (o : Option (Row Command)) (word : List ℕ) (ws : List (List ℕ)) → length word ≤ most → next_at 0 word + length (join_with_byte 32 ws) ≤ most → ShapeNear (by_row o word ws)
  row_near None word ws first short = (omega arith, omega arith)
  row_near (Some row) word ws first short = with_near row.command (arguments_of row.form (next_at 0 word) ws) (arguments_near row.form (next_at 0 word) ws short)

  words_near : (rows : List (Row Command)) (ws : List (List ℕ)) → length (join_with_byte 32 ws) + 1 ≤ most → ShapeNear (by_words rows ws)
  words_near rows [] short = (omega arith, omega arith)
  words_near rows (w ∷ []) short = row_near (row_in rows w) w [] (omega arith) (omega arith)
  words_near rows (w ∷ v ∷ ws) short = let all = longer w v ws in row_near (row_in rows w) w (v ∷ ws) (omega arith) (omega arith)

  shape_near : (line : List ℕ) → length line + 1 ≤ most → ShapeNear (shape_of line)
  unfolding shape_by
  shape_near line short =
      let long : length (join_with_byte 32 (parts 32 line)) ≡ length line = ap length (join_with_byte-slice_split 32 line) in
      if_case ShapeNear (is_blank line) (Ok None) (by_words schedule (parts 32 line)) (λ _. tt) (λ _. words_near schedule (parts 32 line) (omega arith))

  -- ---- where a line stands

  abbrev LineNear : {A : Type 0} → Result A LineFault → Type 0
  LineNear (Ok a) = Unit {0}
  LineNear (Err fault) = HasNear fault

  as_near : (mesh : Nodes) (a : SpannedAddr) (next : ℕ → Result (Arguments ℕ) LineFault) → IsNear a.span → ((x : ℕ) → LineNear (next x)) → LineNear (as_node mesh a next)
  as_near mesh a next span near = with_argument_case LineNear (index_of mesh a.address) (Unknown a.span) next span (λ x is. near x)

  nodes_near : (mesh : Nodes) (arguments : Arguments SpannedAddr) → AreNear arguments → LineNear (with_nodes mesh arguments)
  nodes_near mesh NoArgument near = tt
  nodes_near mesh (OneAddress a) near = as_near mesh a (λ x. Ok (OneAddress x)) near (λ x. tt)
  nodes_near mesh (TwoAddresses a b) near = as_near mesh a (λ x. as_node mesh b (λ y. Ok (TwoAddresses x y))) near.0 (λ x. as_near mesh b (λ y. Ok (TwoAddresses x y)) near.1 (λ y. tt))
  nodes_near mesh (OneNumber n) near = tt
  nodes_near mesh (NumberedAddress a first) near = as_near mesh a (λ x. Ok (NumberedAddress x first)) near (λ x. tt)
  nodes_near mesh (AddressesAndText a b text) near = as_near mesh a (λ x. as_node mesh b (λ y. Ok (AddressesAndText x y text))) near.0 (λ x. as_near mesh b (λ y. Ok (AddressesAndText x y text)) near.1 (λ y. tt))
  nodes_near mesh (AddressAndNumber a n) near = as_near mesh a (λ x. Ok (AddressAndNumber x n)) near (λ x. tt)
  nodes_near mesh (AddressAndText a text) near = as_near mesh a (λ x. Ok (AddressAndText x text)) near (λ x. tt)

  made_near : (c : Command) (arguments : Arguments ℕ) → LineNear (made_line c arguments)
  made_near command.Link (TwoAddresses a b) = if_case LineNear (eqb a b) (Err Same) (Ok (Does (Link a b))) (λ _. tt) (λ _. tt)
  made_near command.Cut (TwoAddresses a b) = if_case LineNear (eqb a b) (Err Same) (Ok (Does (Cut a b))) (λ _. tt) (λ _. tt)
  made_near command.Data (AddressesAndText x d body) = tt
  made_near command.Turn (OneAddress x) = tt
  made_near command.Send (TwoAddresses x d) = tt
  made_near command.Ask (TwoAddresses x d) = tt
  made_near command.Deliver (OneNumber id) = tt
  made_near command.Lose (OneNumber id) = tt
  made_near command.Copy (OneNumber id) = tt
  made_near command.Auto (OneNumber count) = tt
  made_near command.Show (OneAddress x) = tt
  made_near command.Route (TwoAddresses x d) = tt
  made_near command.Flight NoArgument = tt
  made_near others arguments = tt

  then_near : (c : Command) (r : Result (Arguments ℕ) LineFault) → LineNear r → LineNear (result_and_then (made_line c) r)
  then_near c (Ok arguments) near = made_near c arguments
  then_near c (Err fault) near = near

  after_near : (mesh : Nodes) (r : Result AcceptedLine LineFault) → LineNear r → LineNear (after_nodes mesh r)
  after_near [] r near = tt
  after_near (p ∷ ps) r near = near

  new_near : (mesh : Nodes) (started : Bool) (a : SpannedAddr) (first : ℕ) → IsNear a.span → LineNear (new_node mesh started a first)
  new_near mesh true a first near = tt
  new_near mesh false a first near =
      if_case LineNear (is_some (index_of mesh a.address)) (Err (TwiceNode a.span)) (cond (eqb (length mesh) MOST_NODES) (Err TooManyNodes) (Ok (NewNode a.address first))) (λ _. near)
      (λ _. if_case LineNear (eqb (length mesh) MOST_NODES) (Err TooManyNodes) (Ok (NewNode a.address first)) (λ _. tt) (λ _. tt))

  accepted_near : (mesh : Nodes) (started : Bool) (c : Command) (arguments : Arguments SpannedAddr) → AreNear arguments → LineNear (accepted_line mesh started c arguments)
  accepted_near mesh started c (NumberedAddress a first) near = new_near mesh started a first near
  accepted_near mesh started c NoArgument near = after_near mesh _ (then_near c (with_nodes mesh NoArgument) (nodes_near mesh NoArgument near))
  accepted_near mesh started c (OneAddress a) near = after_near mesh _ (then_near c (with_nodes mesh (OneAddress a)) (nodes_near mesh (OneAddress a) near))
  accepted_near mesh started c (TwoAddresses a b) near = after_near mesh _ (then_near c (with_nodes mesh (TwoAddresses a b)) (nodes_near mesh (TwoAddresses a b) near))
  accepted_near mesh started c (OneNumber n) near = after_near mesh _ (then_near c (with_nodes mesh (OneNumber n)) (nodes_near mesh (OneNumber n) near))
  accepted_near mesh started c (AddressesAndText a b text) near = after_near mesh _ (then_near c (with_nodes mesh (AddressesAndText a b text)) (nodes_near mesh (AddressesAndText a b text) near))
  accepted_near mesh started c (AddressAndNumber a n) near = after_near mesh _ (then_near c (with_nodes mesh (AddressAndNumber a n)) (nodes_near mesh (AddressAndNumber a n) near))
  accepted_near mesh started c (AddressAndText a text) near = after_near mesh _ (then_near c (with_nodes mesh (AddressAndText a text)) (nodes_near mesh (AddressAndText a text) near))

  by_shape : (mesh : Nodes) (started : Bool) (r : Result (Option (Shape Command SpannedAddr)) LineFault) → ShapeNear r → LineNear (result_and_then (accepted_shape mesh started) r)
  by_shape mesh started (Ok None) near = tt
  by_shape mesh started (Ok (Some s)) near = accepted_near mesh started s.command s.arguments near
  by_shape mesh started (Err fault) near = near

  -- a fault of a line is about bytes of it
  pub fault_near : (mesh : Nodes) (started : Bool) (line : List ℕ) (fault : LineFault) → length line + 1 ≤ most → line_of mesh started line ≡ Err fault → HasNear fault
  unfolding line_of
  fault_near mesh started line fault short is = subst (LineNear {A = AcceptedLine}) is (by_shape mesh started (shape_of line) (shape_near line short))
