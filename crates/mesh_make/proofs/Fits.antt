-- The lines of a schedule, in the mesh of all its nodes.
use Rattle.std.proofs.Common.{◌≡◌, ◌≢◌, ℕ, ◌+◌, ◌*◌, ◌%◌, ◌^◌, ◌<◌, ◌≤◌, Bool, length, true, Option, None, Some, refl, sym, ap, subst, ◌∙◌, inl, inr, eq-eqb, arith, codes}
use Rattle.std.specs.List.{AllByRecursion, list_all}
use Rattle.std.specs.Fmt.{decimal}
use Rattle.std.specs.Result.{result_unwrap_or}
use Rattle.std.specs.Str.Parse.{digits_value}
use Rattle.std.proofs.Math.Nat.{mod-lt, mod-eq_of_lt, mod_self}
use Rattle.std.proofs.lemmas.Bool.{cases_lt, cases_eq, ne_eqb}
use Rattle.std.proofs.lemmas.Fmt.{digits_decimal}
use Rattle.std.proofs.lemmas.List.{get_or_default}
use Rattle.std.proofs.lemmas.List.Elements.{recursion_from_All, All-from_recursion}
use Rattle.std.proofs.lemmas.Str.Parse.{numerals_by_value, tells_by_index}
use Rattle.rand_pcg.specs.Lcg.{Lcg}
use Rattle.mesh_base.specs.Meshes.{Nodes, addr_at}
use Rattle.mesh_base.specs.Addresses.{dotted_decimal}
use Rattle.mesh_model.specs.Worlds.{Event, Give, Turn, Ask, Link, Cut, Deliver, Lose}
use Rattle.mesh_text.specs.Schedule.{AcceptedLine, Nothing, NewNode, Does, Chooses, ShowsNode, ShowsRoute, ShowsFlight, of_pair}
use Rattle.mesh_grammar.specs.Forms.{OneNumber, TwoAddresses, IsText}
use Rattle.mesh_text.specs.Lines.{CommandLine, command_line, event_command, event_words, text_of, words_of}
use Rattle.mesh_text.specs.Ranges.{IsInRange, IsInTime}
use Rattle.mesh_make.specs.Words.{word, after}
use Rattle.mesh_make.specs.Drawn.{node_by, other_by, copy_by, datum_text, Action, actions, action_of, action_line, step_line}
use Rattle.mesh_make.specs.Made.{link_line, last_line}
use Rattle.mesh_make.proofs.Texts.{other, IsShort, AreShort, joined, number_short, name_short, written_short}
use Rattle.mesh_make.proofs.Grown.{IsMeshOf}

-- ---- what a word chooses

pub node_drawn : (nodes w : ℕ) → 2 ≤ nodes → node_by nodes w < nodes
node_drawn nodes w two = mod-lt w (omega arith)

-- the next one after a
next_one : (nodes a : ℕ) → 2 ≤ nodes → a < nodes → ((a + 1) % nodes < nodes) × (a ≢ (a + 1) % nodes)
next_one nodes a two lt =
    elim (cases_lt (a + 1) nodes) [
      | inl more ↦ let same : (a + 1) % nodes ≡ a + 1 = mod-eq_of_lt more in (omega arith, λ e. omega arith)
      | inr le ↦
          let last : a + 1 ≡ nodes = omega arith in
          let none : (a + 1) % nodes ≡ 0 = ap (λ b. b % nodes) last ∙ mod_self nodes in
          (omega arith, λ e. omega arith)
    ]

pub other_drawn : (nodes a w : ℕ) → 2 ≤ nodes → a < nodes → (other_by nodes a w < nodes) × (a ≢ other_by nodes a w)
unfolding other_by
other_drawn nodes a w two lt =
    elim (cases_eq (node_by nodes w) a) [
      | inl same ↦ rw (eq-eqb (node_by nodes w) a same) (next_one nodes a two lt)
      | inr apart ↦ rw (ne_eqb (node_by nodes w) a apart) (node_drawn nodes w two, λ e. apart (sym e))
    ]

copy_drawn : (s w : ℕ) → 1 ≤ s → s ≤ 100000 → (1 ≤ copy_by s w) × (copy_by s w ≤ 400000)
unfolding copy_by
copy_drawn s w one most = let lt : w % (4 * s) < 4 * s = mod-lt w (omega arith) in (omega arith, omega arith)

digits_shown : (n : ℕ) → n < 2 ^ 64 → AllByRecursion (λ b. (32 ≤ b) × (b ≤ 126)) (decimal n)
digits_shown n fits =
    recursion_from_All (λ b. (32 ≤ b) × (b ≤ 126)) (decimal n)
    (λ i d lt. let range = digits_decimal {v = digits_value 10} (numerals_by_value _ tells_by_index) n fits i lt in
    let same = get_or_default (decimal n) i d 0 lt in
    (omega (arith, same, range.0), omega (arith, same, range.1)))

-- ---- the lines

-- a line that is allowed in this mesh at any time, and is short
pub record IsFit (mesh : Nodes) (a : AcceptedLine) : Type 0 where
  pub range : IsInRange mesh a
  pub later : (started : Bool) → IsInTime started a
  pub short : IsShort 38 (words_of mesh a)

-- how a line that is drawn is written
abbrev line_command : Nodes → AcceptedLine → Option CommandLine
line_command mesh (Does e) = Some (event_command mesh e)
line_command mesh (Chooses count) = Some (command_line (codes "auto") (OneNumber count))
line_command mesh (ShowsRoute x d) = Some (command_line (codes "route") (TwoAddresses (addr_at mesh x) (addr_at mesh d)))
line_command mesh others = None

text_along : (s t : CommandLine) → Some s ≡ Some t → text_of s ≡ text_of t
text_along s t e = let same : s ≡ t = cc in ap text_of same

no_command : (P : Type 0) (s : CommandLine) → None ≡ Some s → P
no_command P s e = absurd (let Q : ⊥ = cc in Q)

words_spelled : (mesh : Nodes) (a : AcceptedLine) (s : CommandLine) → line_command mesh a ≡ Some s → words_of mesh a ≡ text_of s
unfolding words_of event_words
words_spelled mesh Nothing s e = no_command _ s e
words_spelled mesh (NewNode address first) s e = no_command _ s e
words_spelled mesh (Does event) s e = text_along (event_command mesh event) s e
words_spelled mesh (Chooses count) s e = text_along (command_line (codes "auto") (OneNumber count)) s e
words_spelled mesh (ShowsNode x) s e = no_command _ s e
words_spelled mesh (ShowsRoute x d) s e =
    text_along (command_line (codes "route") (TwoAddresses (addr_at mesh x) (addr_at mesh d))) s e
words_spelled mesh ShowsFlight s e = no_command _ s e

-- a line by the word and the arguments that denote it
fitting : (mesh : Nodes) (a : AcceptedLine) (s : CommandLine) → line_command mesh a ≡ Some s → IsInRange mesh a → ((started : Bool) → IsInTime started a) → list_all other s.word ≡ true → length s.word ≤ 7
    → AreShort s.arguments → IsFit mesh a
fitting mesh a s is range later others within arguments =
    record { range = range; later = later; short = subst (IsShort 38) (sym (words_spelled mesh a s is)) (written_short s.word s.arguments (record { others = others; within = within }) arguments) }

module _ (nodes : ℕ) (mesh : Nodes) (two : 2 ≤ nodes) (few : nodes ≤ 200) (is : IsMeshOf nodes mesh) where
  within : (a : ℕ) → a < nodes → a < length mesh
  within a lt = omega (arith, is.size)

  some : 1 ≤ length mesh
  some = omega (arith, is.size)

  name : (a : ℕ) → a < nodes → IsShort 10 (dotted_decimal (addr_at mesh a))
  name a lt = subst (λ n. IsShort 10 (dotted_decimal n)) (sym (is.named a lt)) (name_short a (omega arith))

  number : (n : ℕ) → n ≤ 400000 → IsShort 6 (decimal n)
  number n le = number_short 6 n (omega arith) (omega arith) (omega arith)

  -- two nodes that are drawn differ, so that there is a line
  fit_pair : (a b : ℕ) (e : Event) → a ≢ b → IsFit mesh (Does e) → IsFit mesh (result_unwrap_or (of_pair a b e) Nothing)
  fit_pair a b e apart fit = rw (ne_eqb a b apart) fit

  fit_link : (a b : ℕ) → a < nodes → b < nodes → a ≢ b → IsFit mesh (Does (Link a b))
  fit_link a b la lb apart = fitting mesh (Does (Link a b)) _ refl (some, (within a la, within b lb, apart), tt) (λ _. tt) refl (omega arith) (name a la, name b lb)

  fit_auto : (n : ℕ) → 1 ≤ n → n ≤ 400000 → IsFit mesh (Chooses n)
  fit_auto n one le = fitting mesh (Chooses n) _ refl (some, one, omega arith) (λ _. tt) refl (omega arith) (number n le)

  pub fit_chain : (i : ℕ) → i + 1 < nodes → IsFit mesh (link_line i)
  fit_chain i lt = fit_link i (i + 1) (omega arith) lt (λ e. omega arith)

  pub fit_last : IsFit mesh last_line
  fit_last = fit_auto 100000 (omega arith) (omega arith)

  module _ (s : ℕ) (one : 1 ≤ s) (most : s ≤ 100000) (rng : Lcg) where
    -- the first node that is drawn, the other one, and a copy
    abbrev a : ℕ
    a = node_by nodes (word rng)

    abbrev b : ℕ
    b = other_by nodes a (word (after rng))

    abbrev id : ℕ
    id = copy_by s (word rng)

    a_in : a < nodes
    a_in = node_drawn nodes (word rng) two

    b_in : (b < nodes) × (a ≢ b)
    b_in = other_drawn nodes a (word (after rng)) two a_in

    id_in : (1 ≤ id) × (id ≤ 400000)
    id_in = copy_drawn s (word rng) one most

    -- an action makes a line of what is drawn
    abbrev IsFitting : Action → Type 0
    IsFitting action = IsFit mesh (action_line action nodes s rng).value

    all_fit : AllByRecursion IsFitting actions
    all_fit =
        let digits : IsShort 6 (decimal s) = number s (omega arith) in
        let shown : AllByRecursion (λ b. (32 ≤ b) × (b ≤ 126)) (decimal s) = digits_shown s (omega arith) in
        let text : IsText (datum_text s) = (omega arith, omega (arith, digits.within), ((omega arith, omega arith), shown)) in
        let names : IsShort 10 (dotted_decimal (addr_at mesh a)) × IsShort 10 (dotted_decimal (addr_at mesh b)) = (name a a_in, name b b_in.0) in
        let pair : (a < length mesh) × (b < length mesh) = (within a a_in, within b b_in.0) in
        let apart : (a < length mesh) × (b < length mesh) × (a ≢ b) = (pair.0, pair.1, b_in.1) in
        let link = fit_pair a b (Link a b) b_in.1 (fit_link a b a_in b_in.0 b_in.1) in
        let cut = fit_pair a b (Cut a b) b_in.1 (fitting mesh (Does (Cut a b)) _ refl (some, apart, tt) (λ _. tt) refl (omega arith) names) in
        let give = fitting mesh (Does (Give a b (datum_text s))) _ refl (some, (pair.0, pair.1, (text.0, text.1)), text) (λ _. tt) refl (omega arith)
        (names.0, names.1, joined 1 6 7 (codes "m") (decimal s) (omega arith) (record { others = refl; within = omega arith }) digits) in
        let lose = fitting mesh (Does (Lose id)) _ refl (some, tt, (id_in.0, omega (arith, id_in.1))) (λ _. tt) refl (omega arith) (number id id_in.1) in
        let deliver = fitting mesh (Does (Deliver id)) _ refl (some, tt, (id_in.0, omega (arith, id_in.1))) (λ _. tt) refl (omega arith) (number id id_in.1) in
        let turn = fitting mesh (Does (Turn a)) _ refl (some, within a a_in, tt) (λ _. tt) refl (omega arith) (name a a_in) in
        let route = fitting mesh (ShowsRoute a b) _ refl pair (λ _. tt) refl (omega arith) names in
        let ask = fitting mesh (Does (Ask a b)) _ refl (some, pair, tt) (λ _. tt) refl (omega arith) names in
        let auto = fit_auto 16 (omega arith) (omega arith) in
        (link, (link, (cut, (give, (give, (give, (lose, (deliver, (turn, (turn, (route, (ask, (auto, (auto, (auto, (auto, tt))))))))))))))))

  pub fit_step : (s : ℕ) → 1 ≤ s → s ≤ 100000 → (rng : Lcg) → IsFit mesh (step_line nodes s rng).value
  unfolding step_line action_of
  fit_step s one most rng =
      let lt : word rng % 16 < 16 = mod-lt (word rng) (omega arith) in
      All-from_recursion (IsFitting s one most (after rng)) actions (all_fit s one most (after rng)) (word rng % 16) _ (omega arith)
