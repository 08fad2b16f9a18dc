-- A line of the steps, by the remainder of its first word.
use Rattle.std.proofs.Common.{◌≡◌, ℕ, ◌%◌, ◌<◌, ◌≤◌, inl, inr, List, get_or, refl, sym, ap, ◌∙◌, arith}
use Rattle.std.specs.Result.{result_unwrap_or}
use Rattle.std.proofs.Math.Nat.{mod-lt}
use Rattle.std.proofs.lemmas.Bool.{cases_lt, ne_eqb}
use Rattle.rand_pcg.specs.Lcg.{Lcg}
use Rattle.mesh_grammar.specs.declared.command.Command.TheVariants as command
use Rattle.mesh_model.specs.Worlds.{Event, Give, Turn, Ask, Link, Cut, Deliver, Lose}
use Rattle.mesh_text.specs.Schedule.{AcceptedLine, Nothing, Does, Chooses, ShowsRoute, of_pair}
use Rattle.mesh_make.specs.declared.sizes.TheConstants.{EVENTS_BETWEEN}
use Rattle.mesh_make.specs.Words.{word, after}
use Rattle.mesh_make.specs.Drawn.{node_by, other_by, copy_by, datum_text, Draw, Action, Events, actions, action_of, action_line, step_line}
use Rattle.mesh_make.proofs.Fits.{node_drawn, other_drawn}

-- what a line does by a remainder
abbrev action_at : ℕ → Action
action_at r = get_or actions r (command.Auto, Events)

-- a line and the generator after it
abbrev drawn : AcceptedLine → Lcg → Draw AcceptedLine
drawn line rng = record { value = line; rng = rng }

-- line s, whose first word is w. The generator is `next` after it, and `last` after the line
module _ (nodes s : ℕ) (rng next last : Lcg) (w : ℕ) (first : w ≡ word rng) (moved : next ≡ after rng) where
  abbrev line : Draw AcceptedLine
  line = step_line nodes s rng

  -- the two nodes, and a copy
  abbrev a : ℕ
  a = node_by nodes (word next)

  abbrev b : ℕ
  b = other_by nodes a (word (after next))

  abbrev id : ℕ
  id = copy_by s (word next)

  by_action : line ≡ action_line (action_at (w % 16)) nodes s next
  unfolding step_line action_of
  by_action = ap (λ n. action_line (action_at (n % 16)) nodes s (after rng)) (sym first) ∙ ap (λ r. action_line (action_at (w % 16)) nodes s r) (sym moved)

  at : (r : ℕ) → w % 16 ≡ r → line ≡ action_line (action_at r) nodes s next
  at r e = by_action ∙ ap (λ i. action_line (action_at i) nodes s next) e

  -- a node, or a copy, and no more
  module _ (x : ℕ) (is : last ≡ after next) where
    pub lose : x ≡ id → w % 16 ≡ 6 → drawn (Does (Lose x)) last ≡ line
    lose same e = ap (λ n. drawn (Does (Lose n)) last) same ∙ ap (drawn (Does (Lose id))) is ∙ sym (at 6 e)

    pub deliver : x ≡ id → w % 16 ≡ 7 → drawn (Does (Deliver x)) last ≡ line
    deliver same e = ap (λ n. drawn (Does (Deliver n)) last) same ∙ ap (drawn (Does (Deliver id))) is ∙ sym (at 7 e)

    pub turn : x ≡ a → 8 ≤ w % 16 → w % 16 < 10 → drawn (Does (Turn x)) last ≡ line
    turn same le lt =
        let does : line ≡ drawn (Does (Turn a)) (after next) =
        elim (cases_lt (w % 16) 9) [ inl eight ↦ at 8 (omega arith) | inr nine ↦ at 9 (omega arith) ] in
        ap (λ n. drawn (Does (Turn n)) last) same ∙ ap (drawn (Does (Turn a))) is ∙ sym does

  -- two nodes
  module _ (x y : ℕ) (x_is : x ≡ a) (y_is : y ≡ b) (is : last ≡ after (after next)) where
    by_two : (f : ℕ → ℕ → AcceptedLine) → drawn (f x y) last ≡ drawn (f a b) (after (after next))
    by_two f = ap (λ n. drawn (f n y) last) x_is ∙ ap (λ n. drawn (f a n) last) y_is ∙ ap (drawn (f a b)) is

    -- those that are drawn differ, so that there is a line
    of_two : (e : Event) → 2 ≤ nodes → result_unwrap_or (of_pair a b e) Nothing ≡ Does e
    of_two e two = rw (ne_eqb a b (other_drawn nodes a (word (after next)) two (node_drawn nodes (word next) two)).1) refl

    pub link : 2 ≤ nodes → w % 16 < 2 → drawn (Does (Link x y)) last ≡ line
    link two lt =
        let does : line ≡ drawn (result_unwrap_or (of_pair a b (Link a b)) Nothing) (after (after next)) =
        elim (cases_lt (w % 16) 1) [ inl zero ↦ at 0 (omega arith) | inr one ↦ at 1 (omega arith) ] in
        by_two (λ m n. Does (Link m n)) ∙ ap (λ l. drawn l (after (after next))) (sym (of_two (Link a b) two)) ∙ sym does

    pub cut : 2 ≤ nodes → w % 16 ≡ 2 → drawn (Does (Cut x y)) last ≡ line
    cut two e = by_two (λ m n. Does (Cut m n)) ∙ ap (λ l. drawn l (after (after next))) (sym (of_two (Cut a b) two)) ∙ sym (at 2 e)

    pub give : (body : List ℕ) → body ≡ datum_text s → 3 ≤ w % 16 → w % 16 < 6 → drawn (Does (Give x y body)) last ≡ line
    give body same le lt =
        let does : line ≡ drawn (Does (Give a b (datum_text s))) (after (after next)) =
        elim (cases_lt (w % 16) 4) [
          | inl three ↦ at 3 (omega arith)
          | inr more ↦ elim (cases_lt (w % 16) 5) [ inl four ↦ at 4 (omega arith) | inr five ↦ at 5 (omega arith) ]
        ] in
        ap (λ text. drawn (Does (Give x y text)) last) same ∙ by_two (λ m n. Does (Give m n (datum_text s))) ∙ sym does

    pub route : w % 16 ≡ 10 → drawn (ShowsRoute x y) last ≡ line
    route e = by_two ShowsRoute ∙ sym (at 10 e)

    pub ask : w % 16 ≡ 11 → drawn (Does (Ask x y)) last ≡ line
    ask e = by_two (λ m n. Does (Ask m n)) ∙ sym (at 11 e)

-- nothing more
pub auto : (nodes s : ℕ) (rng next : Lcg) (w : ℕ) → w ≡ word rng → next ≡ after rng → 12 ≤ w % 16 → drawn (Chooses EVENTS_BETWEEN) next ≡ step_line nodes s rng
auto nodes s rng next w first moved le =
    let lt : w % 16 < 16 = mod-lt w (omega arith) in
    let by : (r : ℕ) → w % 16 ≡ r → step_line nodes s rng ≡ action_line (action_at r) nodes s next = at nodes s rng next next w first moved in
    sym (elim (cases_lt (w % 16) 14) [
      | inl low ↦ elim (cases_lt (w % 16) 13) [ inl twelve ↦ by 12 (omega arith) | inr thirteen ↦ by 13 (omega arith) ]
      | inr high ↦ elim (cases_lt (w % 16) 15) [ inl fourteen ↦ by 14 (omega arith) | inr fifteen ↦ by 15 (omega arith) ]
    ])
