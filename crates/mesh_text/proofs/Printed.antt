-- A line that is written back is read as the same line.
use Rattle.std.proofs.Common.{◌≡◌, ◌≢◌, ℕ, ◌<◌, ◌≤◌, Bool, true, false, eqb, cond, not, List, [], ◌∷◌, Some, Result, Ok, Err, length, refl, sym, ap, ◌∙◌, arith, is_some, eq-eqb}
use Rattle.std.specs.List.{AllByRecursion, list_all}
use Rattle.std.proofs.lemmas.Bool.{ne_eqb, and_parts}
use Rattle.mesh_base.specs.declared.limits.TheConstants.{MOST_NODES}
use Rattle.mesh_base.specs.Meshes.{Nodes, IsMesh, addr_at, index_of}
use Rattle.mesh_base.proofs.WrittenForms.{index_of-at}
use Rattle.mesh_model.specs.Worlds.{Event, Give, Turn, Send, Ask, Link, Cut, Deliver, Lose, Double}
use Rattle.mesh_grammar.specs.declared.command.Command.{Command}
use Rattle.mesh_grammar.specs.declared.command.Command.TheVariants as command
use Rattle.mesh_grammar.specs.declared.fault.LineFault.{LineFault}
use Rattle.mesh_grammar.specs.declared.fault.LineFault.TheVariants.{Unknown, Same}
use Rattle.mesh_grammar.specs.Words.{next_at, with_argument, is_blank}
use Rattle.mesh_grammar.specs.Forms.{Arguments, NoArgument, OneAddress, TwoAddresses, OneNumber, NumberedAddress, AddressesAndText, AreOfForm}
use Rattle.mesh_grammar.specs.Scripts.{row_in, shape_by}
use Rattle.mesh_grammar.specs.Commands.{schedule}
use Rattle.mesh_grammar.specs.Written.{command_text}
use Rattle.mesh_grammar.specs.Laws.{spanned, as_spanned, HaveAddresses, IsReadable, IsWord}
use Rattle.mesh_grammar.proofs.CommandLines.{written_line_is_read}
use Rattle.mesh_text.specs.Schedule.{AcceptedLine, Nothing, NewNode, Does, Chooses, ShowsNode, ShowsRoute, ShowsFlight, after_nodes, as_node, with_nodes, made_line, new_node, accepted_line, accepted_shape, of_pair, result_and_then, line_of}
use Rattle.mesh_text.specs.Lines.{words_of, event_words}
use Rattle.mesh_text.specs.Ranges.{IsEventLine, IsNewNode, IsInRange, IsInTime}
use Rattle.mesh_text.specs.Laws.{PrintedLineParses}
use Rattle.mesh_text.proofs.Shapes.{form_of, word_of, row_of}

-- ---- the table

row_there : (c : Command) → row_in schedule (word_of c) ≡ Some (row_of c)
row_there command.Node = refl
row_there others = refl

pub is_word : (word : List ℕ) → list_all (λ b. not (eqb b 32)) word ≡ true → is_blank word ≡ false → IsWord word
is_word word all shown = record { whole = whole word all; shown = λ e. let clash : true ≡ false = sym e ∙ shown in cc }
  where
    other : (b : ℕ) → not (eqb b 32) ≡ true → b ≢ 32
    other b h e = let same : eqb b 32 ≡ true = eq-eqb b 32 e in let clash : not true ≡ true = ap not (sym same) ∙ h in cc

    whole : (word : List ℕ) → list_all (λ b. not (eqb b 32)) word ≡ true → AllByRecursion (λ b. b ≢ 32) word
    whole [] all = tt
    whole (b ∷ bs) all =
        let both = and_parts (not (eqb b 32)) (list_all (λ c. not (eqb c 32)) bs) all in
        (other b both.0, whole bs both.1)

word_there : (c : Command) → IsWord (word_of c)
word_there command.Node = is_word (word_of command.Node) refl refl
word_there others = is_word (word_of others) refl refl

readable : (c : Command) → IsReadable (form_of c)
readable command.Deliver = omega arith
readable command.Lose = omega arith
readable command.Copy = omega arith
readable command.Auto = omega arith
readable others = tt

-- ---- nodes by their indices

after_some : (mesh : Nodes) (r : Result AcceptedLine LineFault) → 1 ≤ length mesh → after_nodes mesh r ≡ r
after_some [] r some = absurd (omega arith)
after_some (p ∷ ps) r some = refl

-- a line of this command is read by its arguments
line_said : (mesh : Nodes) (started : Bool) (c : Command) (arguments : Arguments ℕ) → AreOfForm (form_of c) arguments → HaveAddresses arguments
    → line_of mesh started (command_text (word_of c) arguments) ≡ accepted_line mesh started c (as_spanned (next_at 0 (word_of c)) arguments)
unfolding line_of
line_said mesh started c arguments form fit =
    ap (result_and_then (accepted_shape mesh started))
    (written_line_is_read Command schedule (row_of c) arguments
    (record { found = row_there c; word = word_there c; readable = readable c; form = form; addresses = fit }))

module _ (mesh : Nodes) (started : Bool) (is : IsMesh mesh) where
  known_there : {B : Type 0} (at x : ℕ) (next : ℕ → Result B LineFault) → x < length mesh → as_node mesh (spanned at (addr_at mesh x)) next ≡ next x
  known_there at x next lt = ap (λ o. with_argument o (Unknown ((spanned at (addr_at mesh x)).span)) next) (index_of-at mesh x is lt)

  one_there : (c : Command) (at x : ℕ) → x < length mesh
      → after_nodes mesh (result_and_then (made_line c) (with_nodes mesh (OneAddress (spanned at (addr_at mesh x))))) ≡ made_line c (OneAddress x)
  one_there c at x lt =
      after_some mesh _ (omega arith) ∙ ap (result_and_then (made_line c)) (known_there at x (λ i. Ok (OneAddress i)) lt)

  two_there : (c : Command) (at next x y : ℕ) → x < length mesh → y < length mesh
      → after_nodes mesh (result_and_then (made_line c) (with_nodes mesh (TwoAddresses (spanned at (addr_at mesh x)) (spanned next (addr_at mesh y)))))
      ≡ made_line c (TwoAddresses x y)
  two_there c at next x y x_lt y_lt =
      after_some mesh _ (omega arith)
      ∙ ap (result_and_then (made_line c)) (known_there at x (λ i. as_node mesh (spanned next (addr_at mesh y)) (λ j. Ok (TwoAddresses i j))) x_lt)
      ∙ ap (result_and_then (made_line c)) (known_there next y (λ j. Ok (TwoAddresses x j)) y_lt)

  text_there : (c : Command) (at next x y : ℕ) (text : List ℕ) → x < length mesh → y < length mesh
      → after_nodes mesh (result_and_then (made_line c) (with_nodes mesh (AddressesAndText (spanned at (addr_at mesh x)) (spanned next (addr_at mesh y)) text)))
      ≡ made_line c (AddressesAndText x y text)
  text_there c at next x y text x_lt y_lt =
      after_some mesh _ (omega arith)
      ∙ ap (result_and_then (made_line c)) (known_there at x (λ i. as_node mesh (spanned next (addr_at mesh y)) (λ j. Ok (AddressesAndText i j text))) x_lt)
      ∙ ap (result_and_then (made_line c)) (known_there next y (λ j. Ok (AddressesAndText x j text)) y_lt)

  new_there : (at address first : ℕ) → IsNewNode mesh address first → new_node mesh false (spanned at address) first ≡ Ok (NewNode address first)
  new_there at address first new =
      let absent : is_some (index_of mesh address) ≡ false = ap is_some new.absent in
      let few : eqb (length mesh) MOST_NODES ≡ false = ne_eqb (length mesh) MOST_NODES (λ e. let lt = new.few in omega arith) in
      rw (absent, few) refl

  -- an event of two nodes that are not the same
  of_others : (x y : ℕ) (e : Event) → x ≢ y → of_pair x y e ≡ Ok (Does e)
  of_others x y e apart = ap (λ b. cond b (Err Same) (Ok (Does e))) (ne_eqb x y apart)

  -- ---- lines

  line_of_one : (c : Command) (x : ℕ) → AreOfForm (form_of c) (OneAddress (addr_at mesh x)) → x < length mesh
      → line_of mesh started (command_text (word_of c) (OneAddress (addr_at mesh x))) ≡ made_line c (OneAddress x)
  line_of_one c x form lt =
      line_said mesh started c (OneAddress (addr_at mesh x)) form (is.addresses x lt)
      ∙ one_there c (next_at 0 (word_of c)) x lt

  line_of_two : (c : Command) (x y : ℕ) → AreOfForm (form_of c) (TwoAddresses (addr_at mesh x) (addr_at mesh y)) → x < length mesh → y < length mesh
      → line_of mesh started (command_text (word_of c) (TwoAddresses (addr_at mesh x) (addr_at mesh y))) ≡ made_line c (TwoAddresses x y)
  line_of_two c x y form x_lt y_lt =
      line_said mesh started c (TwoAddresses (addr_at mesh x) (addr_at mesh y)) form (is.addresses x x_lt, is.addresses y y_lt)
      ∙ two_there c _ _ x y x_lt y_lt

  line_of_number : (c : Command) (n : ℕ) → AreOfForm {A = ℕ} (form_of c) (OneNumber n) → 1 ≤ length mesh
      → line_of mesh started (command_text (word_of c) (OneNumber n)) ≡ made_line c (OneNumber n)
  line_of_number c n form some = line_said mesh started c (OneNumber n) form tt ∙ after_some mesh _ some

  event_line : (e : Event) → IsEventLine mesh e → line_of mesh started (event_words mesh e) ≡ Ok (Does e)
  unfolding event_words
  event_line (Give x d body) range =
      line_said mesh started command.Data (AddressesAndText (addr_at mesh x) (addr_at mesh d) body) range.2
      (is.addresses x range.1.0, is.addresses d range.1.1)
      ∙ text_there command.Data _ _ x d body range.1.0 range.1.1
  event_line (Turn x) range = line_of_one command.Turn x tt range.1
  event_line (Send x d) range = line_of_two command.Send x d tt range.1.0 range.1.1
  event_line (Ask x d) range = line_of_two command.Ask x d tt range.1.0 range.1.1
  event_line (Link a b) range = line_of_two command.Link a b tt range.1.0 range.1.1 ∙ of_others a b (Link a b) range.1.2
  event_line (Cut a b) range = line_of_two command.Cut a b tt range.1.0 range.1.1 ∙ of_others a b (Cut a b) range.1.2
  event_line (Deliver id) range = line_of_number command.Deliver id range.2 range.0
  event_line (Lose id) range = line_of_number command.Lose id range.2 range.0
  event_line (Double id) range = line_of_number command.Copy id range.2 range.0

  blank_line : line_of mesh started [] ≡ Ok Nothing
  unfolding line_of shape_by
  blank_line = refl

  parses : (a : AcceptedLine) → IsInRange mesh a → IsInTime started a → line_of mesh started (words_of mesh a) ≡ Ok a
  unfolding words_of event_words
  parses Nothing range early = blank_line
  parses (NewNode address first) range early =
      line_said mesh started command.Node (NumberedAddress address first) (range.positive, range.most) range.fits
      ∙ ap (λ b. new_node mesh b (spanned (next_at 0 (word_of command.Node)) address) first) early
      ∙ new_there (next_at 0 (word_of command.Node)) address first range
  parses (Does e) range early = event_line e range
  parses (Chooses count) range early = line_of_number command.Auto count (range.1, range.2) range.0
  parses (ShowsNode x) range early = line_of_one command.Show x tt range
  parses (ShowsRoute x d) range early = line_of_two command.Route x d tt range.0 range.1
  parses ShowsFlight range early = line_said mesh started command.Flight NoArgument tt tt ∙ after_some mesh _ range

pub printed_line_parses : PrintedLineParses
printed_line_parses mesh started a is range early = parses mesh started is a range early
