-- The bytes to come: those that are pending, and those that the source has left.
use Rattle.std.proofs.Common.{◌≡◌, ℕ, ◌+◌, ◌≤◌, Bool, true, false, List, [], ◌++◌, take, drop, Option, Some, None, refl, sym, ap, subst, ◌∙◌, arith}
use Rattle.std.proofs.lemmas.List.{take-append-drop, take-take, drop-take, append-nil}
use Rattle.std.specs.Option.{IfSome}
use Rattle.std.specs.Io.KnownBytes.{prepend_known, Appends, Keeps, IsAtEnd}
use Rattle.mesh_io.specs.NextLines.{first_line, TooLong, TooMuch, next_of, known_after}
use Rattle.mesh_io.specs.Decisions.{decision_of}
use Rattle.mesh_io.specs.Cutting.{FindsLine}
use Rattle.mesh_io.specs.declared.limits.Limits.{Limits}
use Rattle.mesh_io.specs.declared.decision.Decision.{Decision}
use Rattle.mesh_io.specs.declared.decision.Decision.TheVariants as decision
use Rattle.mesh_io.proofs.FirstLines.{with_rest, first_is}
use Rattle.mesh_io.proofs.Following.{next_with, next_same, decides_line, decides_end, decides_long, decides_much}

pub take_both : {X : Type 0} (xs : List X) (m n : ℕ) → take (m + n) xs ≡ take m xs ++ take n (drop m xs)
take_both xs m n =
    sym (take-append-drop m (take (m + n) xs)) ∙ ap (λ l. l ++ drop m (take (m + n) xs)) (take-take m (m + n) xs (omega arith)) ∙ ap (λ l. take m xs ++ l) (drop-take m n xs)

-- a source that has ended has none left
pub left_after : (ended : Bool) (rest : List ℕ) → known_after ended (Some rest) ≡ [] → ended ≡ true → rest ≡ []
left_after true rest none e = none
left_after false rest none e = absurd cc

pub at_end : (ended : Bool) (left : Option (List ℕ)) → known_after ended left ≡ [] → ended ≡ true → IsAtEnd left
at_end true None none e = tt
at_end true (Some rest) none e = none
at_end false left none e = absurd cc

-- what holds of the pending bytes and those that are left holds of the bytes to come
pub told_by : (P : List ℕ → Type 0) (known left : Option (List ℕ)) (pending : List ℕ) → Keeps known (prepend_known pending left)
    → ((rest : List ℕ) → left ≡ Some rest → P (pending ++ rest)) → IfSome known P
told_by P None left pending kept h = tt
told_by P (Some bytes) None pending kept h = absurd kept
told_by P (Some bytes) (Some rest) pending kept h = subst P kept (h rest refl)

pub Keeps-join : (a b c : Option (List ℕ)) → Keeps a b → Keeps b c → Keeps a c
Keeps-join None b c p q = tt
Keeps-join (Some x) None c p q = absurd p
Keeps-join (Some x) (Some y) None p q = absurd q
Keeps-join (Some x) (Some y) (Some z) p q = q ∙ p

pub Keeps-if : (a b : Option (List ℕ)) → Appends a b [] → Keeps a b
Keeps-if None b h = tt
Keeps-if (Some x) None h = h
Keeps-if (Some x) (Some y) h = h ∙ append-nil x

-- ---- what is told

-- a decision by limits and a count that stayed
pub decided_then : (most before : Limits) (given then : ℕ) (ended : Bool) (pending : List ℕ) (d : Decision) → most ≡ before → given ≡ then
    → d ≡ decision_of most given ended pending → d ≡ decision_of before then ended pending
decided_then most before given then ended pending d m n e =
    e ∙ ap (λ limits. decision_of limits given ended pending) m ∙ ap (λ count. decision_of before count ended pending) n

pub told_end : (most : Limits) (given after : ℕ) (ended : Bool) (pending : List ℕ) (known left : Option (List ℕ)) (d : Decision)
    → given ≤ most.input → d ≡ decision_of most given ended pending → known_after ended left ≡ [] → Keeps known (prepend_known pending left)
    → d ≡ decision.End → after ≡ given → IfSome known (λ bytes. (bytes ≡ []) × (after ≡ given) × (prepend_known pending left ≡ Some bytes))
told_end most given after ended pending known left d few e none kept is same =
    told_by (λ bytes. (bytes ≡ []) × (after ≡ given) × (prepend_known pending left ≡ Some bytes)) known left pending kept (λ rest l.
    let both = decides_end most given ended pending d few e is in
    let gone : rest ≡ [] = left_after ended rest (ap (known_after ended) (sym l) ∙ none) both.1 in
    (ap (λ p. p ++ rest) both.0 ∙ gone, same, ap (prepend_known pending) l))

pub told_long : (most : Limits) (given after : ℕ) (ended : Bool) (pending : List ℕ) (known left : Option (List ℕ)) (d : Decision)
    → given ≤ most.input → d ≡ decision_of most given ended pending → known_after ended left ≡ [] → Keeps known (prepend_known pending left)
    → d ≡ decision.TooLong → after ≡ given → IfSome known (λ bytes. (next_of most given bytes ≡ TooLong) × (after ≡ given) × (prepend_known pending left ≡ Some bytes))
told_long most given after ended pending known left d few e none kept is same =
    told_by (λ bytes. (next_of most given bytes ≡ TooLong) × (after ≡ given) × (prepend_known pending left ≡ Some bytes)) known left pending kept (λ rest l.
    let both = decides_long most given ended pending d e is in
    let next = next_same most given ended pending rest few both.0 (left_after ended rest (ap (known_after ended) (sym l) ∙ none)) in
    (next ∙ ap (next_with rest) both.1, same, ap (prepend_known pending) l))

pub told_much : (most : Limits) (given after : ℕ) (ended : Bool) (pending : List ℕ) (known left : Option (List ℕ)) (d : Decision)
    → given ≤ most.input → d ≡ decision_of most given ended pending → known_after ended left ≡ [] → Keeps known (prepend_known pending left)
    → d ≡ decision.TooMuch → after ≡ given → IfSome known (λ bytes. (next_of most given bytes ≡ TooMuch) × (after ≡ given) × (prepend_known pending left ≡ Some bytes))
told_much most given after ended pending known left d few e none kept is same =
    told_by (λ bytes. (next_of most given bytes ≡ TooMuch) × (after ≡ given) × (prepend_known pending left ≡ Some bytes)) known left pending kept (λ rest l.
    let both = decides_much most given ended pending d e is in
    let next = next_same most given ended pending rest few both.0 (left_after ended rest (ap (known_after ended) (sym l) ∙ none)) in
    (next ∙ ap (next_with rest) both.1, same, ap (prepend_known pending) l))

pub told_line : (most : Limits) (given after : ℕ) (ended : Bool) (pending line now : List ℕ) (known left : Option (List ℕ)) (d : Decision) (len size : ℕ)
    → given ≤ most.input → d ≡ decision_of most given ended pending → known_after ended left ≡ [] → Keeps known (prepend_known pending left)
    → d ≡ decision.Line len size → after ≡ given + size → line ≡ take len pending → now ≡ drop size pending
    → IfSome known (λ bytes. FindsLine most given bytes line after (prepend_known now left))
told_line most given after ended pending line now known left d len size few e none kept is more shown later =
    told_by (λ bytes. FindsLine most given bytes line after (prepend_known now left)) known left pending kept (λ rest l.
    let decided = decides_line most given ended pending d len size e is in
    let next = next_same most given ended pending rest few decided.closed (left_after ended rest (ap (known_after ended) (sym l) ∙ none)) in
    let first = first_is pending in record {
      first = with_rest rest (first_line pending);
      next = next ∙ ap (next_with rest) decided.next;
      line_is = shown ∙ ap (λ n. take n pending) decided.len_is ∙ sym first.prefix;
      after_is = more ∙ ap (λ n. given + n) decided.size_is;
      left_is = ap (prepend_known now) l ∙ ap (λ p. Some (p ++ rest)) (later ∙ ap (λ n. drop n pending) decided.size_is ∙ sym first.back);
    })
