-- What a line is read as is in its range, and a line that is written back is read as it.
use Rattle.std.proofs.Common.{◌≡◌, ◌≢◌, ℕ, ◌^◌, ◌<◌, ◌≤◌, Bool, true, false, eqb, cond, List, [], Option, Some, None, Result, Ok, Err, IfOk, length, refl, sym, ap, subst, ◌∙◌, arith, is_some}
use Rattle.std.proofs.lemmas.Bool.{eqb-false, ne_eqb}
use Rattle.mesh_base.specs.declared.limits.TheConstants.{MOST_NODES}
use Rattle.mesh_base.specs.Meshes.{Nodes, IsMesh, addr_at, index_of}
use Rattle.mesh_base.proofs.WrittenForms.{index_of-at}
use Rattle.aodv_meaning.proofs.Means.{index_there}
use Rattle.aodv_model.proofs.Entries.{if_case}
use Rattle.mesh_grammar.specs.declared.fault.LineFault.{LineFault}
use Rattle.mesh_grammar.specs.declared.fault.LineFault.TheVariants.{Early, TooManyNodes, Unknown, Same}
use Rattle.mesh_grammar.specs.Words.{SpannedAddr, next_at, with_argument}
use Rattle.mesh_grammar.specs.Forms.{Arguments, NoArgument, OneAddress, OneNumber, NumberedAddress, AddressAndNumber, AddressAndText, greatest_first, AreOfForm}
use Rattle.mesh_grammar.specs.Scripts.{Shape, row_in, shape_by}
use Rattle.mesh_grammar.specs.Written.{command_text}
use Rattle.mesh_grammar.specs.Laws.{spanned, as_spanned, HaveAddresses, IsReadable, IsWord, addresses_of}
use Rattle.mesh_grammar.proofs.Readings.{with_argument_case}
use Rattle.mesh_grammar.proofs.CommandLines.{written_line_is_read}
use Rattle.mesh_text.specs.Schedule.{as_node, result_and_then}
use Rattle.mesh_script.specs.declared.node_command.NodeCommand.{NodeCommand}
use Rattle.mesh_script.specs.declared.node_command.NodeCommand.TheVariants as command
use Rattle.mesh_script.specs.declared.limits.TheConstants.{GREATEST_PORT}
use Rattle.mesh_script.specs.declared.node_line.NodeLine.{NodeLine}
use Rattle.mesh_script.specs.declared.shape.Shape as code
use Rattle.mesh_script.specs.NodeCommands.{router_script, shape_of}
use Rattle.mesh_script.specs.Peers.{PeersSeen, at_port}
use Rattle.mesh_script.specs.NodeLines.{AcceptedLine, Nothing, Own, Peer, Up, Down, Give, Polls, Turns, Sends, Asks, Shows, after_self, of_other, made_line, in_room, new_self, new_peer, accepted_line, accepted_shape, line_of, words_of, IsNew, IsNamed, IsInRange, IsInTime}
use Rattle.mesh_script.specs.NodeSeen.{form_of, seen_line, IsAllowed}
use Rattle.mesh_script.specs.Shapes.{said_of, seen_shape}
use Rattle.mesh_script.proofs.Said.{word_of, row_of, Said, said}
use Rattle.mesh_text.proofs.Printed.{is_word}

-- ---- what is read is in its range

unfoldable pub Allowed : PeersSeen → Bool → Result AcceptedLine LineFault → Type 0
Allowed p started (Err f) = Unit {0}
Allowed p started (Ok a) = IsInRange p a × IsInTime started a

none_there : {A : Type 0} (o : Option A) → is_some o ≡ false → o ≡ None
none_there None h = refl
none_there (Some x) h = absurd (let P : ⊥ = cc in P)

-- node x is the one that is mentioned
abbrev IsAt : Nodes → SpannedAddr → ℕ → Type 0
IsAt mesh m x = (x < length mesh) × (addr_at mesh x ≡ m.address)

module _ (p : PeersSeen) (started : Bool) where
  faulty : (f : LineFault) → Allowed p started (Err f)
  unfolding Allowed
  faulty f = tt

  new_in_room : (a : ℕ) (line : AcceptedLine) → length p.mesh ≤ MOST_NODES → index_of p.mesh a ≡ None → a < 2 ^ 32
      → (IsNew p.mesh a → Allowed p started (Ok line)) → Allowed p started (in_room p.mesh line)
  new_in_room a line few absent fits holds =
      if_case (Allowed p started) (eqb (length p.mesh) MOST_NODES) (Err TooManyNodes) (Ok line) (λ _. faulty TooManyNodes) (λ room.
      let apart : length p.mesh ≢ MOST_NODES = eqb-false (length p.mesh) MOST_NODES room in
      holds (record { fits = fits; absent = absent; few = omega arith }))

  self_allowed : (m : SpannedAddr) (first : ℕ) → length p.mesh ≤ MOST_NODES → m.address < 2 ^ 32 → 1 ≤ first → first ≤ greatest_first
      → Allowed p started (new_self p started m first)
  unfolding Allowed
  self_allowed m first few fits one most =
      if_case (Allowed p started) started _ _ (λ _. tt) (λ early.
      if_case (Allowed p started) (is_some p.me) _ _ (λ _. tt) (λ none.
      if_case (Allowed p started) (is_some (index_of p.mesh m.address)) _ _ (λ _. tt) (λ absent.
      new_in_room m.address (Own m.address first) few (none_there (index_of p.mesh m.address) absent) fits (λ new.
      ((new, none_there p.me none, one, most), early)))))

  peer_allowed : (size : ℕ) (m : SpannedAddr) (port : ℕ) → length p.mesh ≤ MOST_NODES → m.address < 2 ^ 32 → 1 ≤ port → port ≤ GREATEST_PORT
      → Allowed p started (new_peer p started size m port)
  unfolding Allowed
  peer_allowed size m port few fits one most =
      if_case (Allowed p started) started _ _ (λ _. tt) (λ early.
      if_case (Allowed p started) (is_some (index_of p.mesh m.address)) _ _ (λ _. tt) (λ absent.
      if_case (Allowed p started) (is_some (at_port p port)) _ _ (λ _. tt) (λ free.
      new_in_room m.address (Peer m.address port) few (none_there (index_of p.mesh m.address) absent) fits (λ new.
      ((new, none_there (at_port p port) free, one, most), early)))))

  -- a line about nodes that are there, where the node itself was named
  after_named : (me : Option ℕ) (r : Result AcceptedLine LineFault) → (is_some me ≡ true → Allowed p started r) → Allowed p started (after_self me r)
  after_named None r holds = faulty Early
  after_named (Some x) r holds = holds refl

  at_node : (make : Arguments ℕ → Result AcceptedLine LineFault) (m : SpannedAddr) (next : ℕ → Result (Arguments ℕ) LineFault)
      → ((x : ℕ) → x < length p.mesh → Allowed p started (result_and_then make (next x))) → Allowed p started (result_and_then make (as_node p.mesh m next))
  at_node make m next holds =
      with_argument_case (λ r. Allowed p started (result_and_then make r)) (index_of p.mesh m.address) (Unknown m.span) next (faulty (Unknown m.span))
      (λ x is. let there = index_there p.mesh m.address x is in holds x there.0)

  other_allowed : (me : Option ℕ) (x : ℕ) (line : AcceptedLine) → (me ≢ Some x → Allowed p started (Ok line)) → Allowed p started (of_other me x line)
  other_allowed None x line holds = holds (λ e. absurd (let P : ⊥ = cc in P))
  other_allowed (Some y) x line holds =
      if_case (Allowed p started) (eqb x y) (Err Same) (Ok line) (λ _. faulty Same) (λ apart.
      let other : x ≢ y = eqb-false x y apart in holds (λ e. other (let same : y ≡ x = cc in sym same)))

  said_allowed : (size : ℕ) (c : NodeCommand) (arguments : Arguments SpannedAddr) → length p.mesh ≤ MOST_NODES → AreOfForm (form_of c) arguments
      → HaveAddresses (addresses_of arguments) → Allowed p started (accepted_line p started size c arguments)
  unfolding Allowed
  said_allowed size command.Own (NumberedAddress m first) few form fit = self_allowed m first few fit form.0 form.1
  said_allowed size command.Peer (AddressAndNumber m port) few form fit = peer_allowed size m port few fit form.0 form.1
  said_allowed size command.Up (OneAddress m) few form fit =
      after_named p.me _ (λ named. at_node (made_line p.me command.Up) m (λ x. Ok (OneAddress x)) (λ x lt.
      other_allowed p.me x (Up x) (λ other. (((named, lt), other), tt))))
  said_allowed size command.Down (OneAddress m) few form fit =
      after_named p.me _ (λ named. at_node (made_line p.me command.Down) m (λ x. Ok (OneAddress x)) (λ x lt.
      other_allowed p.me x (Down x) (λ other. (((named, lt), other), tt))))
  said_allowed size command.Data (AddressAndText m text) few form fit =
      after_named p.me _ (λ named. at_node (made_line p.me command.Data) m (λ x. Ok (AddressAndText x text)) (λ x lt. (((named, lt), form), tt)))
  said_allowed size command.Poll (OneNumber n) few form fit = after_named p.me _ (λ named. ((named, form.0, form.1), tt))
  said_allowed size command.Turn (OneNumber n) few form fit = after_named p.me _ (λ named. ((named, form.0, form.1), tt))
  said_allowed size command.Send (OneAddress m) few form fit =
      after_named p.me _ (λ named. at_node (made_line p.me command.Send) m (λ x. Ok (OneAddress x)) (λ x lt. ((named, lt), tt)))
  said_allowed size command.Ask (OneAddress m) few form fit =
      after_named p.me _ (λ named. at_node (made_line p.me command.Ask) m (λ x. Ok (OneAddress x)) (λ x lt. ((named, lt), tt)))
  said_allowed size command.Show NoArgument few form fit = after_named p.me _ (λ named. (named, tt))
  said_allowed size other arguments few form fit = absurd form

  shape_allowed : (line : List ℕ) (r : Result (Option (Shape NodeCommand SpannedAddr)) LineFault) → length p.mesh ≤ MOST_NODES → Said line r
      → Allowed p started (result_and_then (accepted_shape p started (length line)) r)
  unfolding Allowed Said
  shape_allowed line (Ok None) few said = (tt, tt)
  shape_allowed line (Ok (Some s)) few said = said_allowed (length line) s.command s.arguments few said.form said.addresses
  shape_allowed line (Err f) few said = tt

pub line_allowed : (p : PeersSeen) (started : Bool) (line : List ℕ) → length p.mesh ≤ MOST_NODES → Allowed p started (line_of p started line)
unfolding line_of
line_allowed p started line few = shape_allowed p started line (shape_of line) few (said line)

pub allowed : (p : PeersSeen) (started : Bool) (line : List ℕ) (r : Result NodeLine LineFault) → length p.mesh ≤ MOST_NODES
    → seen_line r ≡ line_of p started line → IfOk r (IsAllowed p started)
unfolding Allowed
allowed p started line (Ok l) few is = subst (Allowed p started) (sym is) (line_allowed p started line few)
allowed p started line (Err f) few is = tt

pub line_of_said : (p : PeersSeen) (started : Bool) (line : List ℕ) (said : Option (code.Shape NodeCommand)) (r : Result AcceptedLine LineFault)
    → seen_shape (Ok said) ≡ shape_of line → r ≡ accepted_shape p started (length line) (said_of said) → r ≡ line_of p started line
unfolding line_of
line_of_said p started line said r shape is =
    let e : line_of p started line ≡ accepted_shape p started (length line) (said_of said) = rw (sym shape) refl in
    is ∙ sym e

-- ---- what is written is read

row_there : (c : NodeCommand) → row_in router_script (word_of c) ≡ Some (row_of c)
row_there command.Own = refl
row_there others = refl

word_there : (c : NodeCommand) → IsWord (word_of c)
word_there command.Own = is_word (word_of command.Own) refl refl
word_there others = is_word (word_of others) refl refl

readable : (c : NodeCommand) → IsReadable (form_of c)
readable command.Peer = omega arith
readable command.Poll = omega arith
readable command.Turn = omega arith
readable others = tt

-- a line of this command is read by its arguments
line_said : (p : PeersSeen) (started : Bool) (c : NodeCommand) (arguments : Arguments ℕ) → AreOfForm (form_of c) arguments → HaveAddresses arguments
    → line_of p started (command_text (word_of c) arguments)
    ≡ accepted_line p started (length (command_text (word_of c) arguments)) c (as_spanned (next_at 0 (word_of c)) arguments)
unfolding line_of
line_said p started c arguments form fit =
    ap (result_and_then (accepted_shape p started (length (command_text (word_of c) arguments))))
    (written_line_is_read NodeCommand router_script (row_of c) arguments
    (record { found = row_there c; word = word_there c; readable = readable c; form = form; addresses = fit }))

module _ (p : PeersSeen) (started : Bool) (is : IsMesh p.mesh) where
  named : (me : Option ℕ) (r : Result AcceptedLine LineFault) → is_some me ≡ true → after_self me r ≡ r
  named None r h = absurd (let P : ⊥ = cc in P)
  named (Some x) r h = refl

  known_there : {B : Type 0} (at x : ℕ) (next : ℕ → Result B LineFault) → x < length p.mesh → as_node p.mesh (spanned at (addr_at p.mesh x)) next ≡ next x
  known_there at x next lt = ap (λ o. with_argument o (Unknown ((spanned at (addr_at p.mesh x)).span)) next) (index_of-at p.mesh x is lt)

  of_others : (me : Option ℕ) (x : ℕ) (line : AcceptedLine) → me ≢ Some x → of_other me x line ≡ Ok line
  of_others None x line apart = refl
  of_others (Some y) x line apart = ap (λ b. cond b (Err Same) (Ok line)) (ne_eqb x y (λ e. apart (ap Some (sym e))))

  line_of_one : (c : NodeCommand) (x : ℕ) → AreOfForm (form_of c) (OneAddress (addr_at p.mesh x)) → IsNamed p x
      → line_of p started (command_text (word_of c) (OneAddress (addr_at p.mesh x))) ≡ made_line p.me c (OneAddress x)
  line_of_one c x form there =
      line_said p started c (OneAddress (addr_at p.mesh x)) form (is.addresses x there.1)
      ∙ named p.me _ there.0 ∙ ap (result_and_then (made_line p.me c)) (known_there (next_at 0 (word_of c)) x (λ i. Ok (OneAddress i)) there.1)

  new_room : (line : AcceptedLine) → length p.mesh < MOST_NODES → in_room p.mesh line ≡ Ok line
  new_room line few = ap (λ b. cond b (Err TooManyNodes) (Ok line)) (ne_eqb (length p.mesh) MOST_NODES (λ e. omega arith))

  parses : (a : AcceptedLine) → IsInRange p a → IsInTime started a → line_of p started (words_of p.mesh a) ≡ Ok a
  unfolding words_of line_of shape_by
  parses Nothing range time = refl
  parses (Own address first) range time =
      line_said p started command.Own (NumberedAddress address first) (range.2, range.3) (range.0).fits
      ∙ ap (λ b. new_self p b (spanned (next_at 0 (word_of command.Own)) address) first) time
      ∙ rw (ap is_some range.1, ap is_some (range.0).absent) (new_room (Own address first) (range.0).few)
  parses (Peer address port) range time =
      line_said p started command.Peer (AddressAndNumber address port) (range.2, range.3) (range.0).fits
      ∙ ap (λ b. new_peer p b (length (command_text (word_of command.Peer) (AddressAndNumber address port))) (spanned (next_at 0 (word_of command.Peer)) address) port) time
      ∙ rw (ap is_some (range.0).absent, ap is_some range.1) (new_room (Peer address port) (range.0).few)
  parses (Up x) range time = line_of_one command.Up x tt range.0 ∙ of_others p.me x (Up x) range.1
  parses (Down x) range time = line_of_one command.Down x tt range.0 ∙ of_others p.me x (Down x) range.1
  parses (Give x body) range time =
      line_said p started command.Data (AddressAndText (addr_at p.mesh x) body) range.1 (is.addresses x (range.0).1)
      ∙ named p.me _ (range.0).0
      ∙ ap (result_and_then (made_line p.me command.Data)) (known_there (next_at 0 (word_of command.Data)) x (λ i. Ok (AddressAndText i body)) (range.0).1)
  parses (Polls count) range time = line_said p started command.Poll (OneNumber count) (range.1, range.2) tt ∙ named p.me _ range.0
  parses (Turns count) range time = line_said p started command.Turn (OneNumber count) (range.1, range.2) tt ∙ named p.me _ range.0
  parses (Sends x) range time = line_of_one command.Send x tt range
  parses (Asks x) range time = line_of_one command.Ask x tt range
  parses Shows range time = line_said p started command.Show NoArgument tt tt ∙ named p.me _ range

pub reread : (p : PeersSeen) (a : AcceptedLine) (text : List ℕ) → IsMesh p.mesh → IsInRange p a → text ≡ words_of p.mesh a
    → (started : Bool) → IsInTime started a → line_of p started text ≡ Ok a
reread p a text is range e started time =
    let P : List ℕ → Type 0 = λ t. line_of p started t ≡ Ok a in
    subst P (sym e) (parses p started is a range time)
