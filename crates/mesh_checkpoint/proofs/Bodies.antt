-- A body: its head, its mesh, and maybe a world.
use Rattle.std.proofs.Common.{◌≡◌, ℕ, zero, suc, ◌+◌, ◌<◌, ◌≤◌, eq-eqb, List, [], ◌∷◌, length, Option, Some, None, refl, sym, ap, ◌∙◌, arith}
use Rattle.std.specs.Prelude.{nat_le, not, ◌==◌}
use Rattle.std.specs.Int.{w16}
use Rattle.std.specs.List.{sum_by}
use Rattle.std.proofs.lemmas.Bool.{ne_eqb}
use Rattle.std.proofs.lemmas.Option.{same_Some}
use Rattle.mesh_base.specs.declared.limits.TheConstants.{MOST_NODES}
use Rattle.mesh_checkpoint.specs.declared.body.Head.{Head}
use Rattle.mesh_checkpoint.specs.Formats.{◌>>=◌, only_if, number_at, get_rising, get_maybe, rising, maybe}
use Rattle.mesh_checkpoint.specs.Checkpoint as model
use Rattle.mesh_checkpoint.specs.Checkpoint.{World, Body, has_nodes}
use Rattle.mesh_checkpoint.specs.Counts.{data_in}
use Rattle.mesh_checkpoint.specs.Reading.{IsPassed, IsBodyPassed}
use Rattle.mesh_checkpoint.proofs.Formats.{bind_some, joined}

consed : {A : Type 0} (x : A) (n : ℕ) (o : Option (List A × List ℕ)) (xs : List A) (rest : List ℕ) → ((ys : List A) (left : List ℕ) → o ≡ Some (ys, left) → length ys ≡ n) → joined x o ≡ Some (xs, rest) → length xs ≡ suc n
consed {A} x n None xs rest len e = absurd cc
consed {A} x n (Some y) xs rest len e =
    let made : List A × List ℕ = (x ∷ y.0, y.1) in
    ap (λ (q : List A × List ℕ). length q.0) (sym (same_Some made (xs, rest) e)) ∙ ap suc (len y.0 y.1 refl)

-- as many values are read as are asked for
rising_length : {A : Type 0} (key : A → ℕ) (get : List ℕ → Option (A × List ℕ)) (n low : ℕ) (bytes : List ℕ) (xs : List A) (rest : List ℕ) → get_rising key get n low bytes ≡ Some (xs, rest) → length xs ≡ n
rising_length {A} key get zero low bytes xs rest e = ap (λ (q : List A × List ℕ). length q.0) (sym (same_Some ([], bytes) (xs, rest) e))
rising_length {A} key get (suc n) low bytes xs rest e =
    let x = bind_some (get bytes) (λ x. only_if (nat_le low (key x.0)) x >>= λ x. get_rising key get n (key x.0 + 1) x.1 >>= λ y. Some (x.0 ∷ y.0, y.1)) (xs, rest) e in
    let z = bind_some (only_if (nat_le low (key x.0.0)) x.0) (λ x. get_rising key get n (key x.0 + 1) x.1 >>= λ y. Some (x.0 ∷ y.0, y.1)) (xs, rest) x.2 in
    consed z.0.0 n (get_rising key get n (key z.0.0 + 1) z.0.1) xs rest (λ ys left same. rising_length key get n (key z.0.0 + 1) z.0.1 ys left same) z.2

has_nodes_is : (nodes : List (ℕ × ℕ)) (count : ℕ) → length nodes ≡ count → has_nodes nodes ≡ not (count == 0)
has_nodes_is [] count len = rw (eq-eqb count 0 (sym len)) refl
has_nodes_is (p ∷ ps) count len = rw (ne_eqb count 0 (λ none. absurd (omega (arith, len, none)))) refl

abbrev to_mesh : List (ℕ × ℕ) → Option World × List ℕ → Option ((List (ℕ × ℕ) × Option World) × List ℕ)
to_mesh nodes y = Some ((nodes, y.0), y.1)

abbrev to_all : Head → (List (ℕ × ℕ) × Option World) × List ℕ → Option ((Head × (List (ℕ × ℕ) × Option World)) × List ℕ)
to_all head y = Some ((head, y.0), y.1)

abbrev to_body : (Head × (List (ℕ × ℕ) × Option World)) × List ℕ → Option (Body × List ℕ)
to_body x = Some (record { head = x.0.0; mesh = x.0.1.0; world = x.0.1.1 }, x.1)

abbrev whole : Head → List (ℕ × ℕ) → Option World × List ℕ → Option (Body × List ℕ)
whole head nodes y = Some (record { head = head; mesh = nodes; world = y.0 }, y.1)

collapse : (head : Head) (nodes : List (ℕ × ℕ)) (o : Option (Option World × List ℕ)) → (((o >>= to_mesh nodes) >>= to_all head) >>= to_body) ≡ (o >>= whole head nodes)
collapse head nodes None = refl
collapse head nodes (Some y) = refl

body_at : (bytes : List ℕ) (head : Head) (behind : List ℕ) (count : ℕ) (left : List ℕ) (nodes : List (ℕ × ℕ)) (last : List ℕ) → model.head.get bytes ≡ Some (head, behind) → number_at w16 0 (MOST_NODES + 1) behind ≡ Some (count, left) → get_rising (λ p. p.0) model.station.get count 0 left ≡ Some (nodes, last)
    → model.body.get bytes ≡ (get_maybe (not (count == 0)) (model.world count).get last >>= whole head nodes)
body_at bytes head behind count left nodes last one two three =
    let len : length nodes ≡ count = rising_length (λ p. p.0) model.station.get count 0 left nodes last three in
    let may : has_nodes nodes ≡ not (count == 0) = has_nodes_is nodes count len in
    let world : get_maybe (has_nodes nodes) (model.world (length nodes)).get last ≡ get_maybe (not (count == 0)) (model.world count).get last = rw (may, len) refl in
    rw (one, two, three) (collapse head nodes (get_maybe (has_nodes nodes) (model.world (length nodes)).get last) ∙ ap (λ (o : Option (Option World × List ℕ)). o >>= whole head nodes) world)

-- a head, a number of nodes and the nodes were read, and `last` is left
pub record HasMesh (bytes : List ℕ) (head : Head) (count : ℕ) (last : List ℕ) : Type 0 where
  pub behind : List ℕ
  pub left : List ℕ
  pub nodes : List (ℕ × ℕ)
  pub head_read : model.head.get bytes ≡ Some (head, behind)
  pub count_read : number_at w16 0 (MOST_NODES + 1) behind ≡ Some (count, left)
  pub nodes_read : get_rising (λ p. p.0) model.station.get count 0 left ≡ Some (nodes, last)
  pub shorter : length last ≤ length bytes

pub has_mesh : (amount : ℕ × ℕ → ℕ) (bytes : List ℕ) (head : Head) (behind : List ℕ) (count size : ℕ) (left : List ℕ) (m : ℕ) (last : List ℕ) → model.head.get bytes ≡ Some (head, behind) → length behind < length bytes → number_at w16 0 (MOST_NODES + 1) behind ≡ Some (count, left) → length left < length behind → size ≡ count → IsPassed (rising (λ p. p.0) model.station size) (sum_by amount) left m last
    → HasMesh bytes head size last
has_mesh amount bytes head behind count size left m last one shorter two fewer same p = record {
  behind = behind;
  left = left;
  nodes = p.value;
  head_read = one;
  count_read = two ∙ ap (λ n. Some (n, left)) (sym same);
  nodes_read = p.read;
  shorter = omega (arith, shorter, fewer, p.few);
}

pub body_passed : (bytes : List ℕ) (head : Head) (count : ℕ) (last : List ℕ) (n : ℕ) (rest : List ℕ) → HasMesh bytes head count last → IsPassed (maybe (not (count == 0)) (model.world count)) data_in last n rest → IsBodyPassed bytes head n rest
body_passed bytes head count last n rest m p = record {
  value = record { head = head; mesh = m.nodes; world = p.value };
  read = body_at bytes head m.behind count m.left m.nodes last m.head_read m.count_read m.nodes_read ∙ rw p.read refl;
  head_is = refl;
  count = p.count;
  few = omega (arith, m.shorter, p.few);
}

pub no_body : (bytes : List ℕ) (head : Head) (count : ℕ) (last : List ℕ) → HasMesh bytes head count last → get_maybe (not (count == 0)) (model.world count).get last ≡ None → model.body.get bytes ≡ None
no_body bytes head count last m none =
    body_at bytes head m.behind count m.left m.nodes last m.head_read m.count_read m.nodes_read ∙ rw none refl
