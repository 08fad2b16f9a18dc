-- A checkpoint is that of one body, which is read from it; and why bytes are none.
use Rattle.std.proofs.Common.{◌≡◌, ◌≢◌, ℕ, ◌+◌, ◌-◌, ◌^◌, ◌<◌, ◌≤◌, true, false, List, [], ◌++◌, length, take, drop, Some, None, refl, sym, ap, ◌∙◌, arith, ltb, subst, Option, inl, inr}
use Rattle.std.specs.Prelude.{nat_le, nat_lt}
use Rattle.std.specs.Int.{w32, to_be_bytes}
use Rattle.std.proofs.lemmas.List.{take-append-drop, length-drop}
use Rattle.std.proofs.lemmas.Bool.{cases_lt, ltb-false, lt-ltb, le-leb, le-ltb, and_from}
use Rattle.std.proofs.lemmas.Option.{none-some, same_Some}
use Rattle.mesh_base.proofs.Lemmas.Bools.{not_barred}
use Rattle.mesh_checkpoint.specs.declared.limits.TheConstants.{LONGEST_BODY}
use Rattle.mesh_checkpoint.specs.declared.body.Head.{Head}
use Rattle.mesh_checkpoint.specs.declared.validating.ValidateError.TheVariants as errors
use Rattle.mesh_checkpoint.specs.Formats.{only_if, is_from, number_at, number}
use Rattle.mesh_checkpoint.specs.Checkpoint.{Body, body}
use Rattle.mesh_checkpoint.specs.Counts.{data_in, IsBalanced}
use Rattle.mesh_checkpoint.specs.State.{magic, body_length, IsCheckpoint, stated_size, HasLength}
use Rattle.mesh_checkpoint.specs.Points.{body_of}
use Rattle.mesh_checkpoint.specs.Laws.{AreBytes, FittingIsWritten, OneCheckpoint, OneBody, BalancedIsTaken, OneRefusal, OneState, FittingIsState}
use Rattle.mesh_checkpoint.proofs.Formats.{IsFormat, wide32, number_is, test_some, bytes-drop}
use Rattle.mesh_checkpoint.proofs.Checkpoint.{below, read_is_written, written_is_read}

length_is : IsFormat (number w32 0 (LONGEST_BODY + 1))
length_is = number_is w32 (2 ^ 32) wide32 0 _ (omega arith)

within : (n : ℕ) → n ≤ LONGEST_BODY → is_from 0 (LONGEST_BODY + 1) n ≡ true
within n le = and_from (nat_le 0 n) (nat_lt n (LONGEST_BODY + 1)) (le-leb _ _ (omega arith)) (lt-ltb _ _ (omega (arith, le)))

-- the length as it is read
abbrev pub read_length : List ℕ → Option (ℕ × List ℕ)
read_length b = number_at w32 0 (LONGEST_BODY + 1) (drop 4 b)

-- what was read of the length is what is stated, and what stands behind it
length_parts : (b : List ℕ) (count : ℕ) (rest : List ℕ) → read_length b ≡ Some (count, rest) → (4 ≤ length (drop 4 b)) × (stated_size b ≡ count) × (stated_size b ≤ LONGEST_BODY) × (drop 4 (drop 4 b) ≡ rest)
length_parts b count rest e =
    let n = stated_size b in
    let found : ℕ × List ℕ = (n, drop 4 (drop 4 b)) in
    let g = not_barred (ltb (length (drop 4 b)) 4) (only_if (is_from 0 (LONGEST_BODY + 1) n) found) (count, rest) e in
    let t = test_some (is_from 0 (LONGEST_BODY + 1) n) found (count, rest) g.1 in
    let lt = below 0 (LONGEST_BODY + 1) n t.0 in
    (ltb-false _ _ g.0, ap (λ (p : ℕ × List ℕ). p.0) t.1, (omega (arith, lt)), ap (λ (p : ℕ × List ℕ). p.1) t.1)

pub has_length : (b : List ℕ) (count : ℕ) (rest : List ℕ) → read_length b ≡ Some (count, rest) → length rest ≡ count → HasLength b
has_length b count rest e whole =
    let p = length_parts b count rest e in
    let behind : length (drop 4 (drop 4 b)) ≡ length rest = ap length p.3 in
    (p.2, (omega (arith, p.0, p.1, behind, whole, length-drop 4 b, length-drop 4 (drop 4 b))))

length_read : (b : List ℕ) → HasLength b → read_length b ≡ Some (stated_size b, drop 4 (drop 4 b))
length_read b has =
    let long : ltb (length (drop 4 b)) 4 ≡ false = le-ltb _ _ (omega (arith, has.1, length-drop 4 b)) in
    let fits = within (stated_size b) has.0 in
    rw (long, fits) refl

pub other_length : (b : List ℕ) (count : ℕ) (rest : List ℕ) → read_length b ≡ Some (count, rest) → length rest ≢ count → ¬ (HasLength b)
other_length b count rest e other has =
    let p = length_parts b count rest e in
    let behind : length (drop 4 (drop 4 b)) ≡ length rest = ap length p.3 in
    other (omega (arith, has.1, p.0, p.1, behind, length-drop 4 b, length-drop 4 (drop 4 b)))

pub no_length : (b : List ℕ) → read_length b ≡ None → ¬ (HasLength b)
no_length b none has = none-some (stated_size b, drop 4 (drop 4 b)) (sym none ∙ length_read b has)

-- ---- of a checkpoint

stated_of : (b : List ℕ) (x : Body) → IsCheckpoint b x → read_length b ≡ Some (body_length x, body.put x)
stated_of b x is =
    ap read_length is.spelled
    ∙ length_is.again (body_length x) (body.put x) (within (body_length x) is.short)

pub magic_of : (b : List ℕ) (x : Body) → IsCheckpoint b x → take 4 b ≡ magic
magic_of b x is = ap (λ (k : List ℕ). take 4 k) is.spelled

pub length_of : (b : List ℕ) (x : Body) → IsCheckpoint b x → HasLength b
length_of b x is = has_length b (body_length x) (body.put x) (stated_of b x is) refl

-- what is read behind the length is the body
body_read : (b : List ℕ) (x : Body) (count : ℕ) (rest : List ℕ) → IsCheckpoint b x → read_length b ≡ Some (count, rest) → body.get rest ≡ Some (x, [])
body_read b x count rest is e =
    let same = same_Some (body_length x, body.put x) (count, rest) (sym (stated_of b x is) ∙ e) in
    ap body.get (sym (ap (λ (p : ℕ × List ℕ). p.1) same)) ∙ written_is_read x is.fits

pub one_body : OneBody
one_body b x y is it =
    let e : Some (x, []) ≡ Some (y, []) = sym (body_read b x (body_length y) (body.put y) is (stated_of b y it)) ∙ written_is_read y it.fits in
    ap (λ (p : Body × List ℕ). p.0) (same_Some (x, []) (y, []) e)

pub one_checkpoint : OneCheckpoint
one_checkpoint b c x is it = is.spelled ∙ sym it.spelled

pub fitting_is_written : FittingIsWritten
fitting_is_written x fits short = record { fits = fits; short = short; spelled = refl }

pub balanced_is_taken : BalancedIsTaken
balanced_is_taken b x errors.NotState is balanced told = told (magic_of b x is)
balanced_is_taken b x errors.Length is balanced told = told.1 (length_of b x is)
balanced_is_taken b x errors.Spelling is balanced told = told.2 x is
balanced_is_taken b x errors.Sums is balanced told = told.2 (subst IsBalanced (one_body b x told.0 is told.1) balanced)

-- ---- of bytes that were read

-- bytes with a body to their end are a checkpoint
pub is_checkpoint : (b : List ℕ) (x : Body) (count : ℕ) (rest : List ℕ) → AreBytes b → take 4 b ≡ magic → read_length b ≡ Some (count, rest) → length rest ≡ count → body.get rest ≡ Some (x, []) → IsCheckpoint b x
is_checkpoint b x count rest are front e whole got =
    let l = length_is.takes (drop 4 b) count rest (bytes-drop 4 b are) e in
    let r = read_is_written rest x l.rest_fits got in
    let lt : count < LONGEST_BODY + 1 = below 0 _ count l.fits in
    let len : body_length x ≡ count = ap length (sym r.1) ∙ whole in
    record {
      fits = r.0;
      short = omega (arith, lt, len);
      spelled =
          sym (take-append-drop 4 b)
          ∙ ap (λ (k : List ℕ). k ++ drop 4 b) front
          ∙ ap (λ (k : List ℕ). magic ++ k) (l.parts ∙ ap (λ (k : List ℕ). to_be_bytes w32 count ++ k) r.1 ∙ ap (λ (k : ℕ). to_be_bytes w32 k ++ body.put x) (sym len));
    }

pub no_checkpoint : (b : List ℕ) (count : ℕ) (rest : List ℕ) → read_length b ≡ Some (count, rest) → body.get rest ≡ None → (x : Body) → ¬ (IsCheckpoint b x)
no_checkpoint b count rest e none x is = none-some (x, []) (sym none ∙ body_read b x count rest is e)

pub left_over : (b : List ℕ) (count : ℕ) (rest : List ℕ) (y : Body) (left : List ℕ) → read_length b ≡ Some (count, rest) → body.get rest ≡ Some (y, left) → left ≢ [] → (x : Body) → ¬ (IsCheckpoint b x)
left_over b count rest y left e got some x is =
    some (ap (λ (p : Body × List ℕ). p.1) (same_Some (y, left) (x, []) (sym got ∙ body_read b x count rest is e)))

-- ---- sums

pub sums_of : (x : Body) (h : Head) (n : ℕ) → x.head ≡ h → data_in x.world ≡ n → IsBalanced x → h.given + h.copied ≡ h.delivered + h.lost + n
sums_of x h n head count balanced = rw (sym head, sym count) balanced

pub balanced_by : (x : Body) (h : Head) (n : ℕ) → x.head ≡ h → data_in x.world ≡ n → h.given + h.copied ≡ h.delivered + h.lost + n → IsBalanced x
balanced_by x h n head count sums = rw (head, count) sums

-- ---- one refusal

pub one_refusal : OneRefusal
one_refusal b errors.NotState errors.NotState p q = refl
one_refusal b errors.NotState errors.Length p q = absurd (p q.0)
one_refusal b errors.NotState errors.Spelling p q = absurd (p q.0)
one_refusal b errors.NotState errors.Sums p q = absurd (p (magic_of b q.0 q.1))
one_refusal b errors.Length errors.NotState p q = absurd (q p.0)
one_refusal b errors.Length errors.Length p q = refl
one_refusal b errors.Length errors.Spelling p q = absurd (p.1 q.1)
one_refusal b errors.Length errors.Sums p q = absurd (p.1 (length_of b q.0 q.1))
one_refusal b errors.Spelling errors.NotState p q = absurd (q p.0)
one_refusal b errors.Spelling errors.Length p q = absurd (q.1 p.1)
one_refusal b errors.Spelling errors.Spelling p q = refl
one_refusal b errors.Spelling errors.Sums p q = absurd (p.2 q.0 q.1)
one_refusal b errors.Sums errors.NotState p q = absurd (q (magic_of b p.0 p.1))
one_refusal b errors.Sums errors.Length p q = absurd (q.1 (length_of b p.0 p.1))
one_refusal b errors.Sums errors.Spelling p q = absurd (q.2 p.0 p.1)
one_refusal b errors.Sums errors.Sums p q = refl

-- ---- of a state

pub one_state : OneState
one_state b c m is it = one_checkpoint b c (body_of m) is it

pub fitting_is_state : FittingIsState
fitting_is_state m fits =
    elim (cases_lt LONGEST_BODY (body_length (body_of m))) [
      | inl long ↦ inl long
      | inr short ↦ inr (fitting_is_written (body_of m) fits short)
    ]

-- what is no more than the bytes behind a front is no more than all of them
pub few_behind : (b front rest : List ℕ) (n : ℕ) → front ≡ drop 4 b → length rest < length front → n ≤ length rest → n ≤ length b
few_behind b front rest n is shorter few =
    let long : length front ≡ length b - 4 = ap length is ∙ length-drop 4 b in
    omega (arith, shorter, few)
