-- How values are written as bytes, one after another, and read back. A format is built from smaller
-- ones, so that a table of fields is written down once, for both directions.
use Rattle.std.specs.Prelude.{ℕ, zero, suc, ◌+◌, ◌==◌, Bool, true, ◌&&◌, if◌then◌else◌, List, [], ◌∷◌, ◌++◌, length, take, drop, Option, Some, None, option_and_then, nat_lt, nat_le, ◌⊎◌}
use Rattle.std.proofs.Common.{inl, inr}
use Rattle.std.specs.List.{flat_map}
use Rattle.std.specs.Int.{Width, byte_len, from_be_bytes, to_be_bytes}

infixl 10 ◌>>=◌
abbrev pub ◌>>=◌ : {A B : Type 0} → Option A → (A → Option B) → Option B
o >>= f = option_and_then f o

abbrev pub only_if : {A : Type 0} → Bool → A → Option A
only_if b x = if b then Some x else None

-- a format of values: the bytes of a value; the value at the start of the bytes, with the bytes
-- after it; and which values may be written
pub record Format (A : Type 0) : Type 0 where
  pub put : A → List ℕ
  pub get : List ℕ → Option (A × List ℕ)
  pub fits : A → Bool

-- the number is from `low` on and below `end`
abbrev pub is_from : ℕ → ℕ → ℕ → Bool
is_from low end n = nat_le low n && nat_lt n end

-- ---- numbers

-- a number from `low` on and below `end`, in one byte
abbrev pub byte_at : ℕ → ℕ → List ℕ → Option (ℕ × List ℕ)
byte_at low end [] = None
byte_at low end (b ∷ bytes) = only_if (is_from low end b) (b, bytes)

abbrev pub byte : ℕ → ℕ → Format ℕ
byte low end = record { put = λ n. n ∷ []; get = byte_at low end; fits = is_from low end }

-- a number in as many bytes as the width says, the highest first
abbrev pub number_of : Width → List ℕ → ℕ
number_of w bytes = from_be_bytes w (take (byte_len w) bytes)

abbrev pub number_at : Width → ℕ → ℕ → List ℕ → Option (ℕ × List ℕ)
number_at w low end bytes =
    if nat_lt (length bytes) (byte_len w) then None else
    only_if (is_from low end (number_of w bytes)) (number_of w bytes, drop (byte_len w) bytes)

abbrev pub number : Width → ℕ → ℕ → Format ℕ
number w low end =
    record { put = to_be_bytes w; get = number_at w low end; fits = is_from low end }

-- ---- one value after another

-- one value and then another, whose format may depend on the first
abbrev pub seq : {A B : Type 0} → Format A → (A → Format B) → Format (A × B)
seq a b = record {
  put = λ p. a.put p.0 ++ (b p.0).put p.1;
  get = λ bytes. a.get bytes >>= λ x. (b x.0).get x.1 >>= λ y. Some ((x.0, y.0), y.1);
  fits = λ p. a.fits p.0 && (b p.0).fits p.1;
}

-- this many values, one after another
abbrev pub get_times : {A : Type 0} → (List ℕ → Option (A × List ℕ)) → ℕ → List ℕ
    → Option (List A × List ℕ)
get_times get zero bytes = Some ([], bytes)
get_times get (suc n) bytes =
    get bytes >>= λ x. get_times get n x.1 >>= λ y. Some (x.0 ∷ y.0, y.1)

abbrev pub all_fit : {A : Type 0} → (A → Bool) → List A → Bool
all_fit fits [] = true
all_fit fits (x ∷ xs) = fits x && all_fit fits xs

abbrev pub times : {A : Type 0} → Format A → ℕ → Format (List A)
times a n = record {
  put = flat_map a.put;
  get = get_times a.get n;
  fits = λ xs. (length xs == n) && all_fit a.fits xs;
}

-- this many values whose keys rise, the first key being at least `low`
abbrev pub get_rising : {A : Type 0} → (A → ℕ) → (List ℕ → Option (A × List ℕ)) → ℕ → ℕ → List ℕ
    → Option (List A × List ℕ)
get_rising key get zero low bytes = Some ([], bytes)
get_rising key get (suc n) low bytes =
    get bytes >>= λ x. only_if (nat_le low (key x.0)) x
    >>= λ x. get_rising key get n (key x.0 + 1) x.1 >>= λ y. Some (x.0 ∷ y.0, y.1)

abbrev pub rise : {A : Type 0} → (A → ℕ) → ℕ → List A → Bool
rise key low [] = true
rise key low (x ∷ xs) = nat_le low (key x) && rise key (key x + 1) xs

abbrev pub rising : {A : Type 0} → (A → ℕ) → Format A → ℕ → Format (List A)
rising key a n = record {
  put = flat_map a.put;
  get = get_rising key a.get n 0;
  fits = λ xs. (length xs == n) && (all_fit a.fits xs && rise key 0 xs);
}

-- ---- values in another form

abbrev pub as_form : {A B : Type 0} → (A → B) → (B → A) → Format A → Format B
as_form to back a = record {
  put = λ y. a.put (back y);
  get = λ bytes. a.get bytes >>= λ x. Some (to x.0, x.1);
  fits = λ y. a.fits (back y);
}

-- a truth value as a byte: 1 if it is true, and else 0
abbrev pub one_if : Bool → ℕ
one_if b = if b then 1 else 0

abbrev pub truth : Format Bool
truth = as_form (λ n. n == 1) one_if (byte 0 2)

-- a list, after its length
abbrev pub counted_list : {A : Type 0} → Format ℕ → Format A → Format (List A)
counted_list count a = as_form (λ p. p.1) (λ xs. (length xs, xs)) (seq count (times a))

-- a list whose keys rise, after its length
abbrev pub counted_rising : {A : Type 0} → (A → ℕ) → Format ℕ → Format A → Format (List A)
counted_rising key count a = as_form (λ p. p.1) (λ xs. (length xs, xs)) (seq count (rising key a))

-- this many bytes, as they are
abbrev pub get_run : ℕ → List ℕ → Option (List ℕ × List ℕ)
get_run n bytes = if nat_lt (length bytes) n then None else Some (take n bytes, drop n bytes)

abbrev pub run : ℕ → Format (List ℕ)
run n = record { put = λ text. text; get = get_run n; fits = λ text. length text == n }

-- bytes, after their length, which is from `low` on and below `end`
abbrev pub text : Width → ℕ → ℕ → Format (List ℕ)
text w low end = as_form (λ p. p.1) (λ b. (length b, b)) (seq (number w low end) run)

-- ---- after a byte

-- no value after a byte 0, or, if there may be one, a value after a byte 1
abbrev pub put_maybe : {A : Type 0} → (A → List ℕ) → Option A → List ℕ
put_maybe put None = 0 ∷ []
put_maybe put (Some x) = 1 ∷ put x

abbrev pub get_maybe : {A : Type 0} → Bool → (List ℕ → Option (A × List ℕ)) → List ℕ
    → Option (Option A × List ℕ)
get_maybe may get [] = None
get_maybe may get (zero ∷ bytes) = Some (None, bytes)
get_maybe may get (suc zero ∷ bytes) =
    if may then (get bytes >>= λ x. Some (Some x.0, x.1)) else None
get_maybe may get (suc (suc b) ∷ bytes) = None

abbrev pub fits_maybe : {A : Type 0} → Bool → (A → Bool) → Option A → Bool
fits_maybe may fits None = true
fits_maybe may fits (Some x) = may && fits x

abbrev pub maybe : {A : Type 0} → Bool → Format A → Format (Option A)
maybe may a =
    record { put = put_maybe a.put; get = get_maybe may a.get; fits = fits_maybe may a.fits }

-- a value of one kind after a byte 0, or of another after a byte 1
abbrev pub put_either : {A B : Type 0} → (A → List ℕ) → (B → List ℕ) → A ⊎ B → List ℕ
put_either put other (inl x) = 0 ∷ put x
put_either put other (inr y) = 1 ∷ other y

abbrev pub get_either : {A B : Type 0} → (List ℕ → Option (A × List ℕ))
    → (List ℕ → Option (B × List ℕ)) → List ℕ → Option ((A ⊎ B) × List ℕ)
get_either get other [] = None
get_either get other (zero ∷ bytes) = get bytes >>= λ x. Some (inl x.0, x.1)
get_either get other (suc zero ∷ bytes) = other bytes >>= λ y. Some (inr y.0, y.1)
get_either get other (suc (suc b) ∷ bytes) = None

abbrev pub fits_either : {A B : Type 0} → (A → Bool) → (B → Bool) → A ⊎ B → Bool
fits_either fits other (inl x) = fits x
fits_either fits other (inr y) = other y

abbrev pub either : {A B : Type 0} → Format A → Format B → Format (A ⊎ B)
either a b = record {
  put = put_either a.put b.put;
  get = get_either a.get b.get;
  fits = fits_either a.fits b.fits;
}
