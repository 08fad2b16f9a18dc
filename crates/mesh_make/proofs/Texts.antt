-- Written lines have no LF, and are short.
use Rattle.std.proofs.Common.{◌≡◌, ℕ, ◌+◌, ◌/◌, ◌%◌, ◌^◌, ◌<◌, ◌≤◌, Bool, true, eqb, not, List, ◌∷◌, ◌++◌, length, refl, ap, arith, codes}
use Rattle.std.specs.List.{list_all}
use Rattle.std.specs.Fmt.{decimal}
use Rattle.std.proofs.lemmas.Fmt.{length-decimal-le}
use Rattle.std.proofs.lemmas.List.{length-append}
use Rattle.std.proofs.lemmas.List.Folds.{list_all-append}
use Rattle.std.proofs.lemmas.List.Sums.{AllPass-from_list_all, list_all-from_AllPass}
use Rattle.std.proofs.lemmas.Bool.{not-true}
use Rattle.mesh_base.specs.Addresses.{dotted_decimal}
use Rattle.mesh_base.proofs.WrittenForms.{Lacks, decimal_lacks}
use Rattle.mesh_grammar.specs.Forms.{Arguments, NoArgument, OneAddress, TwoAddresses, OneNumber, NumberedAddress, AddressesAndText, AddressAndNumber, AddressAndText}
use Rattle.mesh_grammar.specs.Written.{command_text}
use Rattle.mesh_make.specs.Made.{node_address}

-- the byte is no LF
abbrev pub other : ℕ → Bool
other b = not (eqb b 10)

-- a text of at most so many bytes, none of them an LF
pub record IsShort (most : ℕ) (text : List ℕ) : Type 0 where
  pub others : list_all other text ≡ true
  pub within : length text ≤ most

pub short_lacks : (most : ℕ) (text : List ℕ) → IsShort most text → Lacks 10 text
short_lacks most text short i d lt = not-true _ (AllPass-from_list_all other text short.others i d lt)

-- two texts, where there is room for both
pub joined : (m n most : ℕ) (a b : List ℕ) → m + n ≤ most → IsShort m a → IsShort n b → IsShort most (a ++ b)
joined m n most a b le s t = record {
  others = rw (list_all-append other a b, s.others) t.others;
  within = omega (arith, length-append a b, s.within, t.within);
}

-- with one byte between them
parted : (m n most c : ℕ) (a b : List ℕ) → other c ≡ true → m + n + 1 ≤ most → IsShort m a → IsShort n b → IsShort most (a ++ c ∷ b)
parted m n most c a b is le s t = joined m (n + 1) most a (c ∷ b) (omega arith) s (record { others = rw is t.others; within = omega (arith, t.within) })

-- a number of at most so many digits
pub number_short : (k n : ℕ) → 0 < k → n < 10 ^ k → n < 2 ^ 64 → IsShort k (decimal n)
number_short k n some lt fits = record {
  others = list_all-from_AllPass other (decimal n) (λ i d lt. ap not (decimal_lacks 10 n (omega arith) fits i d lt));
  within = length-decimal-le k n some lt fits;
}

-- the address of a node
pub name_short : (i : ℕ) → i < 200 → IsShort 10 (dotted_decimal (node_address i))
name_short i lt =
    let a : ℕ = node_address i in
    let w : a / 16777216 ≡ 10 = omega arith in
    let x : a / 65536 % 256 ≡ 0 = omega arith in
    let y : a / 256 % 256 ≡ 0 = omega arith in
    let z : a % 256 < 256 = omega arith in
    let first = number_short 2 (a / 16777216) (omega arith) (omega arith) (omega arith) in
    let second = parted 2 1 4 46 _ _ refl (omega arith) first (number_short 1 (a / 65536 % 256) (omega arith) (omega arith) (omega arith)) in
    let third = parted 4 1 6 46 _ _ refl (omega arith) second (number_short 1 (a / 256 % 256) (omega arith) (omega arith) (omega arith)) in
    parted 6 3 10 46 _ _ refl (omega arith) third (number_short 3 (a % 256) (omega arith) (omega arith) (omega arith))

-- arguments with short addresses, numbers of at most six digits and a text of at most seven bytes
abbrev pub AreShort : Arguments ℕ → Type 0
AreShort NoArgument = Unit {0}
AreShort (OneAddress a) = IsShort 10 (dotted_decimal a)
AreShort (TwoAddresses a b) = IsShort 10 (dotted_decimal a) × IsShort 10 (dotted_decimal b)
AreShort (OneNumber n) = IsShort 6 (decimal n)
AreShort (NumberedAddress a first) = IsShort 10 (dotted_decimal a) × IsShort 6 (decimal first)
AreShort (AddressesAndText a b text) = IsShort 10 (dotted_decimal a) × IsShort 10 (dotted_decimal b) × IsShort 7 text
AreShort (AddressAndNumber a n) = IsShort 10 (dotted_decimal a) × IsShort 6 (decimal n)
AreShort (AddressAndText a text) = IsShort 10 (dotted_decimal a) × IsShort 7 text

-- a command of at most seven letters, and its arguments
pub written_short : (command : List ℕ) (arguments : Arguments ℕ) → IsShort 7 command → AreShort arguments → IsShort 38 (command_text command arguments)
unfolding command_text
written_short command NoArgument short are = record { others = short.others; within = omega (arith, short.within) }
written_short command (OneAddress a) short are = parted 7 10 38 32 command (dotted_decimal a) refl (omega arith) short are
written_short command (TwoAddresses a b) short are = parted 18 10 38 32 _ (dotted_decimal b) refl (omega arith) (parted 7 10 18 32 command (dotted_decimal a) refl (omega arith) short are.0) are.1
written_short command (OneNumber n) short are = parted 7 6 38 32 command (decimal n) refl (omega arith) short are
written_short command (NumberedAddress a first) short are =
    joined 22 6 38 _ (decimal first) (omega arith)
    (joined 18 4 22 _ (codes " sn ") (omega arith) (parted 7 10 18 32 command (dotted_decimal a) refl (omega arith) short are.0) (record { others = refl; within = omega arith })) are.1
written_short command (AddressesAndText a b text) short are =
    parted 29 7 38 32 _ text refl (omega arith)
    (parted 18 10 29 32 _ (dotted_decimal b) refl (omega arith) (parted 7 10 18 32 command (dotted_decimal a) refl (omega arith) short are.0) are.1) are.2
written_short command (AddressAndNumber a n) short are =
    parted 18 6 38 32 _ (decimal n) refl (omega arith) (parted 7 10 18 32 command (dotted_decimal a) refl (omega arith) short are.0) are.1
written_short command (AddressAndText a text) short are =
    parted 18 7 38 32 _ text refl (omega arith) (parted 7 10 18 32 command (dotted_decimal a) refl (omega arith) short are.0) are.1
