-- What was read of the checkpoint part of an input, from the pieces that were taken.
use Rattle.std.proofs.Common.{◌≡◌, ◌∙◌, ℕ, Bool, true, false, refl, ◌+◌, ◌-◌, ◌<◌, ◌≤◌, ◌⊎◌, inl, inr, List, ◌++◌, length, take, drop, Option, Some, None, IfSome, sym, ap, ap₂, subst, arith, take-append-drop, length-take, length-drop, append_assoc}
use Rattle.std.specs.Int.{w32, from_be_bytes}
use Rattle.std.proofs.Math.Dec.{leb}
use Rattle.std.proofs.lemmas.Bool.{leb-true, leb-false}
use Rattle.std.proofs.Math.ListN.{drop_of_length-le}
use Rattle.std.proofs.Math.Seq.{take-add, take_all}
use Rattle.std.proofs.lemmas.List.{take-take, drop-drop, drop-take}
use Rattle.std.proofs.lemmas.Bool.Decides.{nat_tests}
use Rattle.mesh_checkpoint.specs.declared.limits.TheConstants.{LONGEST_BODY}
use Rattle.mesh_checkpoint.specs.State.{magic, stated_size}
use Rattle.mesh_state.specs.declared.checkpoint_part.TheConstants.{HEAD_SIZE}
use Rattle.std.specs.Io.KnownBytes.{Consumes}
use Rattle.mesh_state.specs.CheckpointParts.{checkpoint_part_size, checkpoint_part_of, rest_of, IsOtherHead, IsCheckpointPartTaken, IsTaken, IsCheckpointPartCut, TakesFewer, TakesUpTo}

-- ---- the size of a checkpoint part

pub size_with : (bytes : List ℕ) → 8 ≤ length bytes → stated_size bytes ≤ 268435456 → 8 + stated_size bytes ≤ length bytes → checkpoint_part_size bytes ≡ 8 + stated_size bytes
size_with bytes head within there = grind (arith, nat_tests)

pub size_short : (bytes : List ℕ) → length bytes < 8 + stated_size bytes → checkpoint_part_size bytes ≡ length bytes
size_short bytes short = grind (arith, nat_tests)

pub size_whole : (bytes : List ℕ) → 8 ≤ length bytes → 8 ≤ checkpoint_part_size bytes
size_whole bytes whole = grind (arith, nat_tests)

-- the first 8 bytes say the length
pub stated_in : (n : ℕ) (bytes : List ℕ) → 8 ≤ n → stated_size (take n bytes) ≡ stated_size bytes
stated_in n bytes whole =
    let split : n ≡ 4 + (n - 4) = omega arith in
    let few : 4 ≤ n - 4 = omega arith in
    ap (λ k. stated_size (take k bytes)) split ∙ ap (λ l. from_be_bytes w32 (take 4 l)) (drop-take 4 (n - 4) bytes) ∙ ap (λ l. from_be_bytes w32 l) (take-take 4 (n - 4) (drop 4 bytes) few)

-- ---- no body follows

short_checkpoint_part : (bytes : List ℕ) → length bytes < 8 + stated_size bytes → (taken : List ℕ) (left : Option (List ℕ)) (n : ℕ) → length bytes ≤ n → taken ≡ take n bytes → left ≡ Some (drop n bytes)
    → ¬ (IsOtherHead (take 8 bytes)) → IsCheckpointPartTaken bytes taken left
unfolding checkpoint_part_of rest_of
short_checkpoint_part bytes short taken left n few is rest known =
    let size : checkpoint_part_size bytes ≡ length bytes = size_short bytes short in
    let same : length bytes ≤ length bytes = omega arith in
    record {
      same_head = known;
      checkpoint_part = is ∙ take_all n bytes few ∙ sym (ap (λ k. take k bytes) size ∙ take_all (length bytes) bytes same);
      rest = rest ∙ ap (λ l. Some l) (drop_of_length-le bytes few ∙ sym (ap (λ k. drop k bytes) size ∙ drop_of_length-le bytes same));
    }

head_alone : (bytes taken : List ℕ) (left : Option (List ℕ)) → taken ≡ take 8 bytes → left ≡ Some (drop 8 bytes) → (length taken < 8) ⊎ IsOtherHead taken
    → IsTaken bytes taken left
head_alone bytes taken left is rest (inl short) =
    let size : length (take 8 bytes) ≡ _ = length-take 8 bytes in
    let few : length taken ≡ length (take 8 bytes) = ap length is in
    inl (short_checkpoint_part bytes (omega arith) taken left 8 (omega arith) is rest (λ o. let whole = o.whole in omega arith))
head_alone bytes taken left is rest (inr other) = inr (record { head = is; other = other; rest = rest })

-- ---- a body follows

no_other : (head : List ℕ) → take 4 head ≡ magic → stated_size head ≤ LONGEST_BODY → ¬ (IsOtherHead head)
no_other head first within o =
    elim o.other [
      | inl bad ↦ bad first
      | inr long ↦ omega arith
    ]

at_most : (a b : ℕ) → (a ≤ b) ⊎ (b < a)
at_most a b = tested (leb a b) refl
  where
    tested : (t : Bool) → leb a b ≡ t → (a ≤ b) ⊎ (b < a)
    tested true is = inl (leb-true a b is)
    tested false is = inr (leb-false a b is)

joined : (bytes head taken : List ℕ) (size : ℕ) → head ≡ take 8 bytes → take 8 taken ≡ head → drop 8 taken ≡ take size (drop 8 bytes) → taken ≡ take (8 + size) bytes
joined bytes head taken size is checkpoint_part behind = sym (take-append-drop 8 taken) ∙ ap₂ (λ a b. a ++ b) (checkpoint_part ∙ is) behind ∙ sym (take-add 8 size bytes)

whole_checkpoint_part : (bytes taken : List ℕ) (left : Option (List ℕ)) → 8 ≤ length bytes → stated_size bytes ≤ 268435456 → 8 + stated_size bytes ≤ length bytes → taken ≡ take (8 + stated_size bytes) bytes → left ≡ Some (drop (8 + stated_size bytes) bytes)
    → ¬ (IsOtherHead (take 8 bytes)) → IsCheckpointPartTaken bytes taken left
unfolding checkpoint_part_of rest_of
whole_checkpoint_part bytes taken left head within there is rest known =
    let size : checkpoint_part_size bytes ≡ 8 + stated_size bytes = size_with bytes head within there in
    record {
      same_head = known;
      checkpoint_part = is ∙ sym (ap (λ k. take k bytes) size);
      rest = rest ∙ ap (λ l. Some l) (sym (ap (λ k. drop k bytes) size));
    }

with_body : (bytes head taken : List ℕ) (size : ℕ) (left : Option (List ℕ)) → head ≡ take 8 bytes → length head ≡ 8 → size ≡ stated_size head → size ≤ 268435456 → take 4 head ≡ magic → take 8 taken ≡ head
    → drop 8 taken ≡ take size (drop 8 bytes) → left ≡ Some (drop size (drop 8 bytes)) → IsCheckpointPartTaken bytes taken left
with_body bytes head taken size left is eight says within first checkpoint_part behind rest =
    let within_head : stated_size head ≤ LONGEST_BODY = subst (λ n. n ≤ LONGEST_BODY) says within in
    let known : ¬ (IsOtherHead (take 8 bytes)) = subst (λ h. ¬ (IsOtherHead h)) is (no_other head first within_head) in
    let same : size ≡ stated_size bytes = says ∙ ap stated_size is ∙ stated_in 8 bytes (omega arith) in
    let whole : taken ≡ take (8 + stated_size bytes) bytes = joined bytes head taken size is checkpoint_part behind ∙ ap (λ k. take (8 + k) bytes) same in
    let after : left ≡ Some (drop (8 + stated_size bytes) bytes) = rest ∙ ap (λ l. Some l) (drop-drop size 8 bytes ∙ ap (λ k. drop (8 + k) bytes) same) in
    let few : length head ≡ length (take 8 bytes) = ap length is in
    let long : length (take 8 bytes) ≡ _ = length-take 8 bytes in
    elim (at_most (8 + stated_size bytes) (length bytes)) [
      | inl there ↦ whole_checkpoint_part bytes taken left (omega arith) (omega arith) there whole after known
      | inr short ↦ short_checkpoint_part bytes short taken left (8 + stated_size bytes) (omega arith) whole after known
    ]

-- ---- where the source tells its bytes

-- the same under other names
moved : (l0 l k : Option (List ℕ)) (taken other : List ℕ) → other ≡ taken → k ≡ l → IfSome l0 (λ bytes. IsTaken bytes taken l)
    → IfSome l0 (λ bytes. IsTaken bytes other k)
moved l0 l k taken other e f t =
    let P : List ℕ → Type 0 = λ x. IfSome l0 (λ bytes. IsTaken bytes x l) in
    let Q : Option (List ℕ) → Type 0 = λ x. IfSome l0 (λ bytes. IsTaken bytes other x) in
    subst Q (sym f) (subst P (sym e) t)

alone : (l0 l1 : Option (List ℕ)) (v : ℕ) (taken : List ℕ) → v ≡ 0 → TakesUpTo HEAD_SIZE l0 l1 (drop v taken) → (length taken < HEAD_SIZE) ⊎ IsOtherHead taken
    → IfSome l0 (λ bytes. IsTaken bytes taken l1)
alone None l1 v taken none t other = tt
alone (Some bytes) l1 v taken none t other =
    let all : drop v taken ≡ taken = ap (λ k. drop k taken) none in
    head_alone bytes taken l1 (sym all ∙ t.0) t.1 other

pub taken_alone : (l0 l1 k : Option (List ℕ)) (v : ℕ) (taken checkpoint_part : List ℕ) → checkpoint_part ≡ taken → k ≡ l1 → v ≡ 0 → TakesUpTo HEAD_SIZE l0 l1 (drop v taken) → (length taken < HEAD_SIZE) ⊎ IsOtherHead taken
    → IfSome l0 (λ bytes. IsTaken bytes checkpoint_part k)
taken_alone l0 l1 k v taken checkpoint_part e f none t other = moved l0 l1 k taken checkpoint_part e f (alone l0 l1 v taken none t other)

behind : (l0 l1 l2 : Option (List ℕ)) (v w size : ℕ) (head taken : List ℕ) → v ≡ 0 → TakesUpTo HEAD_SIZE l0 l1 (drop v head) → w ≡ 8 → length head ≡ HEAD_SIZE → size ≡ stated_size head → size ≤ LONGEST_BODY
    → take 4 head ≡ magic → take w taken ≡ head → TakesUpTo size l1 l2 (drop w taken) → IfSome l0 (λ bytes. IsTaken bytes taken l2)
behind None l1 l2 v w size head taken none t eight whole says within first checkpoint_part u = tt
behind (Some bytes) l1 l2 v w size head taken none t eight whole says within first checkpoint_part u =
    let all : drop v head ≡ head = ap (λ k. drop k head) none in
    let q : TakesUpTo size (Some (drop 8 bytes)) l2 (drop w taken) = subst (λ l. TakesUpTo size l l2 (drop w taken)) t.1 u in
    inl (with_body bytes head taken size l2 (sym all ∙ t.0) whole says within first (ap (λ k. take k taken) (sym eight) ∙ checkpoint_part) (ap (λ k. drop k taken) (sym eight) ∙ q.0) q.1)

pub taken_body : (l0 l1 l2 k : Option (List ℕ)) (v w size : ℕ) (head taken checkpoint_part : List ℕ) → checkpoint_part ≡ taken → k ≡ l2 → v ≡ 0 → TakesUpTo HEAD_SIZE l0 l1 (drop v head) → w ≡ 8 → length head ≡ HEAD_SIZE → size ≡ stated_size head
    → size ≤ LONGEST_BODY → take 4 head ≡ magic → take w taken ≡ head → TakesUpTo size l1 l2 (drop w taken) → IfSome l0 (λ bytes. IsTaken bytes checkpoint_part k)
taken_body l0 l1 l2 k v w size head taken checkpoint_part e f none t eight whole says within first kept u =
    moved l0 l2 k taken checkpoint_part e f (behind l0 l1 l2 v w size head taken none t eight whole says within first kept u)

-- ---- where a read failed

cut_alone : (l0 l1 : Option (List ℕ)) (taken : List ℕ) → TakesFewer HEAD_SIZE l0 l1 taken → IfSome l0 (λ bytes. IsCheckpointPartCut bytes l1)
cut_alone None l1 taken t = tt
cut_alone (Some bytes) l1 taken t = record {
  taken = taken;
  consumed = t.0;
  fewer = omega (arith, t.1);
  same_head = λ o. let whole = o.whole in let size = length-take 8 taken in omega (arith, t.1);
}

pub cut_head : (l0 l1 : Option (List ℕ)) (v : ℕ) (taken : List ℕ) → v ≡ 0 → TakesFewer HEAD_SIZE l0 l1 (drop v taken) → IfSome l0 (λ bytes. IsCheckpointPartCut bytes l1)
cut_head l0 l1 v taken none t = cut_alone l0 l1 (drop v taken) t

joined_bytes : (bytes taken : List ℕ) (l : Option (List ℕ)) → take 8 taken ≡ take 8 bytes → Consumes (Some (drop 8 bytes)) l (drop 8 taken) → Consumes (Some bytes) l taken
joined_bytes bytes taken None same c = c
joined_bytes bytes taken (Some rest) same c =
    sym (take-append-drop 8 bytes) ∙ ap₂ (λ a b. a ++ b) (sym same) c ∙ sym (append_assoc (take 8 taken) (drop 8 taken) rest) ∙ ap (λ l. l ++ rest) (take-append-drop 8 taken)

cut_with : (bytes head taken : List ℕ) (size : ℕ) (left : Option (List ℕ)) → head ≡ take 8 bytes → length head ≡ 8 → size ≡ stated_size head → size ≤ 268435456 → take 4 head ≡ magic → take 8 taken ≡ head
    → TakesFewer size (Some (drop 8 bytes)) left (drop 8 taken) → IsCheckpointPartCut bytes left
cut_with bytes head taken size left is eight says within first checkpoint_part t =
    let within_head : stated_size head ≤ LONGEST_BODY = subst (λ n. n ≤ LONGEST_BODY) says within in
    let long : length (take 8 taken) ≡ length head = ap length checkpoint_part in
    let whole : length (take 8 taken) ≡ _ = length-take 8 taken in
    let behind : length (drop 8 taken) ≡ _ = length-drop 8 taken in
    let states : stated_size taken ≡ size = sym (stated_in 8 taken (omega arith)) ∙ ap stated_size checkpoint_part ∙ sym says in
    record {
      taken = taken;
      consumed = joined_bytes bytes taken left (checkpoint_part ∙ is) t.0;
      fewer = omega (arith, t.1);
      same_head = subst (λ h. ¬ (IsOtherHead h)) (sym checkpoint_part) (no_other head first within_head);
    }

pub cut_body : (l0 l1 l2 : Option (List ℕ)) (v w size : ℕ) (head taken : List ℕ) → v ≡ 0 → TakesUpTo HEAD_SIZE l0 l1 (drop v head) → w ≡ 8 → length head ≡ HEAD_SIZE → size ≡ stated_size head → size ≤ LONGEST_BODY
    → take 4 head ≡ magic → take w taken ≡ head → TakesFewer size l1 l2 (drop w taken) → IfSome l0 (λ bytes. IsCheckpointPartCut bytes l2)
cut_body None l1 l2 v w size head taken none t eight whole says within first kept u = tt
cut_body (Some bytes) l1 l2 v w size head taken none t eight whole says within first kept u =
    let all : drop v head ≡ head = ap (λ k. drop k head) none in
    let q : TakesFewer size (Some (drop 8 bytes)) l2 (drop w taken) = subst (λ l. TakesFewer size l l2 (drop w taken)) t.1 u in
    cut_with bytes head taken size l2 (sym all ∙ t.0) whole says within first (ap (λ k. take k taken) (sym eight) ∙ kept) (subst (λ k. TakesFewer size (Some (drop 8 bytes)) l2 (drop k taken)) eight q)
