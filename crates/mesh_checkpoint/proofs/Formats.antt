-- What is written is read again, and what is read was written so: of each way in which formats are built.
use Rattle.std.proofs.Common.{◌≡◌, ℕ, zero, suc, ◌+◌, ◌^◌, ◌<◌, ◌≤◌, Bool, true, false, ltb, eqb, ◌&&◌, List, [], ◌∷◌, ◌++◌, length, take, drop, Option, Some, None, refl, sym, ap, subst, eq-eqb, ◌∙◌, append_assoc, arith, ◌⊎◌, inl, inr}
use Rattle.std.specs.Prelude.{nat_lt, nat_le}
use Rattle.std.specs.List.{flat_map}
use Rattle.std.specs.Int.{Width, w16, w32, w64, byte_len, from_be_bytes, to_be_bytes}
use Rattle.std.proofs.lemmas.Bool.{cases_lt, ltb-false, le-ltb, ltb-true, eqb-true, and_parts, and_from}
use Rattle.std.proofs.lemmas.List.{take_at, drop_at, take-append-drop, length-append, length-take, get_or-drop, get_or-take, get_or_past}
use Rattle.std.proofs.lemmas.Nat.{be_bytes_2, be_bytes_4, be_bytes_8, from_be_bytes-to_be_bytes_2, from_be_bytes-to_be_bytes_4, from_be_bytes-to_be_bytes_8}
use Rattle.std.proofs.lemmas.Option.{same_Some}
use Rattle.mesh_base.proofs.Lemmas.Bools.{not_barred}
use Rattle.mesh_checkpoint.specs.Formats.{◌>>=◌, only_if, Format, byte_at, byte, number_at, number, seq, get_times, all_fit, times, get_rising, rise, rising, as_form, is_from, counted_list, counted_rising, get_run, run, text, put_maybe, get_maybe, fits_maybe, maybe, put_either, get_either, fits_either, either}
use Rattle.mesh_checkpoint.specs.Laws.{AreBytes}

pub bytes-drop : (n : ℕ) (bytes : List ℕ) → AreBytes bytes → AreBytes (drop n bytes)
bytes-drop n bytes h i = rw get_or-drop (h (n + i))

bytes-take : (n : ℕ) (bytes : List ℕ) → AreBytes bytes → AreBytes (take n bytes)
bytes-take n bytes h i =
    elim (cases_lt i n) [
      | inl lt ↦ rw (get_or-take n bytes i 0 lt) (h i)
      | inr le ↦ rw (get_or_past (take n bytes) i 0 (omega (arith, length-take n bytes))) (omega arith)
    ]

-- the value of a step that did not fail
pub bind_some : {A B : Type 0} (r : Option A) (f : A → Option B) (y : B) → (r >>= f) ≡ Some y → (x : A) × (r ≡ Some x) × (f x ≡ Some y)
bind_some (Some x) f y e = (x, refl, e)
bind_some None f y e = absurd cc

pub test_some : {A : Type 0} (b : Bool) (x y : A) → only_if b x ≡ Some y → (b ≡ true) × (x ≡ y)
test_some true x y e = (refl, same_Some x y e)
test_some false x y e = absurd cc

-- what was taken from the front: the bytes of a value that fits, and then the rest
pub record Takes {A : Type 0} (f : Format A) (bytes : List ℕ) (x : A) (rest : List ℕ) : Type 0 where
  pub parts : bytes ≡ f.put x ++ rest
  pub rest_fits : AreBytes rest
  pub fits : f.fits x ≡ true

-- both directions agree
pub record IsFormat {A : Type 0} (f : Format A) : Type 0 where
  pub again : (x : A) (rest : List ℕ) → f.fits x ≡ true → f.get (f.put x ++ rest) ≡ Some (x, rest)
  pub takes : (bytes : List ℕ) (x : A) (rest : List ℕ) → AreBytes bytes → f.get bytes ≡ Some (x, rest) → Takes f bytes x rest

-- ---- numbers

pub byte_is : (low end : ℕ) → IsFormat (byte low end)
byte_is low end = record {
  again = λ x rest fits. byte_again low end x rest fits;
  takes = λ bytes x rest are e. byte_takes low end bytes x rest are e;
} where
  byte_again : (low end x : ℕ) (rest : List ℕ) → (is_from low end x) ≡ true → byte_at low end (x ∷ rest) ≡ Some (x, rest)
  byte_again low end x rest fits = rw fits refl

  byte_takes : (low end : ℕ) (bytes : List ℕ) (x : ℕ) (rest : List ℕ) → AreBytes bytes → byte_at low end bytes ≡ Some (x, rest) → Takes (byte low end) bytes x rest
  byte_takes low end [] x rest are e = absurd cc
  byte_takes low end (b ∷ bytes) x rest are e =
      let t = test_some (is_from low end b) (b, bytes) (x, rest) e in
      subst (λ (p : ℕ × List ℕ). Takes (byte low end) (b ∷ bytes) p.0 p.1) t.1 (record { parts = refl; rest_fits = λ i. are (suc i); fits = t.0 })

pub record IsWide (w : Width) (limit : ℕ) : Type 0 where
  pub len : (n : ℕ) → length (to_be_bytes w n) ≡ byte_len w
  pub back : (bytes : List ℕ) → length bytes ≡ byte_len w → AreBytes bytes → to_be_bytes w (from_be_bytes w bytes) ≡ bytes
  pub again : (n : ℕ) → n < limit → from_be_bytes w (to_be_bytes w n) ≡ n

pub wide16 : IsWide w16 (2 ^ 16)
wide16 = record { len = λ n. refl; back = λ bytes len fits. be_bytes_2 bytes _ len fits refl; again = λ n lt. from_be_bytes-to_be_bytes_2 n lt }

pub wide32 : IsWide w32 (2 ^ 32)
wide32 = record { len = λ n. refl; back = λ bytes len fits. be_bytes_4 bytes _ len fits refl; again = λ n lt. from_be_bytes-to_be_bytes_4 n lt }

pub wide64 : IsWide w64 (2 ^ 64)
wide64 = record { len = λ n. refl; back = λ bytes len fits. be_bytes_8 bytes _ len fits refl; again = λ n lt. from_be_bytes-to_be_bytes_8 n lt }

number_takes : (w : Width) (limit : ℕ) (wide : IsWide w limit) (low end : ℕ) (bytes : List ℕ) (x : ℕ) (rest : List ℕ) → AreBytes bytes → number_at w low end bytes ≡ Some (x, rest) → Takes (number w low end) bytes x rest
number_takes w limit wide low end bytes x rest are e =
    let n = from_be_bytes w (take (byte_len w) bytes) in
    let g = not_barred (ltb (length bytes) (byte_len w)) (only_if (is_from low end n) (n, drop (byte_len w) bytes)) (x, rest) e in
    let t = test_some (is_from low end n) (n, drop (byte_len w) bytes) (x, rest) g.1 in
    let long : byte_len w ≤ length bytes = ltb-false _ _ g.0 in
    let front : to_be_bytes w n ≡ take (byte_len w) bytes = wide.back (take (byte_len w) bytes) (omega (arith, length-take (byte_len w) bytes)) (bytes-take (byte_len w) bytes are) in
    subst (λ (p : ℕ × List ℕ). Takes (number w low end) bytes p.0 p.1) t.1
    (record { parts = rw front (sym (take-append-drop (byte_len w) bytes)); rest_fits = bytes-drop (byte_len w) bytes are; fits = t.0 })

number_again : (w : Width) (limit : ℕ) (wide : IsWide w limit) (low end x : ℕ) (rest : List ℕ) → end ≤ limit → (is_from low end x) ≡ true → number_at w low end (to_be_bytes w x ++ rest) ≡ Some (x, rest)
number_again w limit wide low end x rest most fits =
    let len = wide.len x in
    let below : x < end = ltb-true x end ((and_parts (nat_le low x) (nat_lt x end) fits).1) in
    let long : ltb (length (to_be_bytes w x ++ rest)) (byte_len w) ≡ false = le-ltb _ _ (omega (arith, length-append (to_be_bytes w x) rest)) in
    rw (long, take_at (to_be_bytes w x) rest (byte_len w) len, drop_at (to_be_bytes w x) rest (byte_len w) len, wide.again x (omega arith), fits) refl

pub number_is : (w : Width) (limit : ℕ) (wide : IsWide w limit) (low end : ℕ) → end ≤ limit → IsFormat (number w low end)
number_is w limit wide low end most = record {
  again = λ x rest fits. number_again w limit wide low end x rest most fits;
  takes = λ bytes x rest are e. number_takes w limit wide low end bytes x rest are e;
}

-- ---- one after another

two_parts : (bytes first behind second rest : List ℕ) → bytes ≡ first ++ behind → behind ≡ second ++ rest → bytes ≡ (first ++ second) ++ rest
two_parts bytes first behind second rest one two = one ∙ ap (λ (w : List ℕ). first ++ w) two ∙ sym (append_assoc first second rest)

seq_takes : {A B : Type 0} (a : Format A) (b : A → Format B) → IsFormat a → ((x : A) → a.fits x ≡ true → IsFormat (b x)) → (bytes : List ℕ) (p : A × B) (rest : List ℕ) → AreBytes bytes → (seq a b).get bytes ≡ Some (p, rest) → Takes (seq a b) bytes p rest
seq_takes {A} {B} a b ia ib bytes p rest are e =
    let x = bind_some (a.get bytes) (λ x. (b x.0).get x.1 >>= λ y. Some ((x.0, y.0), y.1)) (p, rest) e in
    let y = bind_some ((b x.0.0).get x.0.1) (λ y. Some ((x.0.0, y.0), y.1)) (p, rest) x.2 in
    let s = ia.takes bytes x.0.0 x.0.1 are x.1 in
    let t = (ib x.0.0 s.fits).takes x.0.1 y.0.0 y.0.1 s.rest_fits y.1 in
    let made : (A × B) × List ℕ = ((x.0.0, y.0.0), y.0.1) in
    subst (λ (q : (A × B) × List ℕ). Takes (seq a b) bytes q.0 q.1) (same_Some made (p, rest) y.2)
    (record {
      parts = two_parts bytes (a.put x.0.0) x.0.1 ((b x.0.0).put y.0.0) y.0.1 s.parts t.parts;
      rest_fits = t.rest_fits;
      fits = and_from _ _ s.fits t.fits;
    })

seq_again : {A B : Type 0} (a : Format A) (b : A → Format B) → IsFormat a → ((x : A) → a.fits x ≡ true → IsFormat (b x)) → (p : A × B) (rest : List ℕ) → (seq a b).fits p ≡ true → (seq a b).get ((seq a b).put p ++ rest) ≡ Some (p, rest)
seq_again a b ia ib p rest fits =
    let f = and_parts (a.fits p.0) ((b p.0).fits p.1) fits in
    let regrouped : (a.put p.0 ++ (b p.0).put p.1) ++ rest ≡ a.put p.0 ++ ((b p.0).put p.1 ++ rest) = append_assoc (a.put p.0) ((b p.0).put p.1) rest in
    ap (seq a b).get regrouped ∙ rw (ia.again p.0 ((b p.0).put p.1 ++ rest) f.0) (rw ((ib p.0 f.0).again p.1 rest f.1) refl)

pub seq_is : {A B : Type 0} (a : Format A) (b : A → Format B) → IsFormat a → ((x : A) → a.fits x ≡ true → IsFormat (b x)) → IsFormat (seq a b)
seq_is a b ia ib = record { again = seq_again a b ia ib; takes = seq_takes a b ia ib }

-- ---- so many

times_takes : {A : Type 0} (a : Format A) → IsFormat a → (n : ℕ) (bytes : List ℕ) (xs : List A) (rest : List ℕ) → AreBytes bytes → get_times a.get n bytes ≡ Some (xs, rest) → Takes (times a n) bytes xs rest
times_takes {A} a ia zero bytes xs rest are e =
    subst (λ (q : List A × List ℕ). Takes (times a 0) bytes q.0 q.1) (same_Some ([], bytes) (xs, rest) e) (record { parts = refl; rest_fits = are; fits = refl })
times_takes {A} a ia (suc n) bytes xs rest are e =
    let x = bind_some (a.get bytes) (λ x. get_times a.get n x.1 >>= λ y. Some (x.0 ∷ y.0, y.1)) (xs, rest) e in
    let y = bind_some (get_times a.get n x.0.1) (λ y. Some (x.0.0 ∷ y.0, y.1)) (xs, rest) x.2 in
    let s = ia.takes bytes x.0.0 x.0.1 are x.1 in
    let t = times_takes a ia n x.0.1 y.0.0 y.0.1 s.rest_fits y.1 in
    let made : List A × List ℕ = (x.0.0 ∷ y.0.0, y.0.1) in
    let f = and_parts (eqb (length y.0.0) n) (all_fit a.fits y.0.0) t.fits in
    subst (λ (q : List A × List ℕ). Takes (times a (suc n)) bytes q.0 q.1) (same_Some made (xs, rest) y.2)
    (record {
      parts = two_parts bytes (a.put x.0.0) x.0.1 (flat_map a.put y.0.0) y.0.1 s.parts t.parts;
      rest_fits = t.rest_fits;
      fits = and_from _ _ (eq-eqb (length made.0) (suc n) (ap suc (eqb-true (length y.0.0) n f.0))) (and_from _ _ s.fits f.1);
    })

times_again : {A : Type 0} (a : Format A) → IsFormat a → (n : ℕ) (xs : List A) (rest : List ℕ) → length xs ≡ n → all_fit a.fits xs ≡ true → get_times a.get n (flat_map a.put xs ++ rest) ≡ Some (xs, rest)
times_again a ia zero [] rest len fits = refl
times_again a ia (suc n) [] rest len fits = absurd (omega (arith, len))
times_again a ia zero (x ∷ xs) rest len fits = absurd (omega (arith, len))
times_again a ia (suc n) (x ∷ xs) rest len fits =
    let f = and_parts (a.fits x) (all_fit a.fits xs) fits in
    let regrouped : (a.put x ++ flat_map a.put xs) ++ rest ≡ a.put x ++ (flat_map a.put xs ++ rest) = append_assoc (a.put x) (flat_map a.put xs) rest in
    ap (get_times a.get (suc n)) regrouped ∙ rw (ia.again x (flat_map a.put xs ++ rest) f.0) (rw (times_again a ia n xs rest (omega (arith, len)) f.1) refl)

pub times_is : {A : Type 0} (a : Format A) → IsFormat a → (n : ℕ) → IsFormat (times a n)
times_is a ia n = record {
  again = λ xs rest fits. let f = and_parts (eqb (length xs) n) (all_fit a.fits xs) fits in times_again a ia n xs rest (eqb-true _ _ f.0) f.1;
  takes = λ bytes xs rest are e. times_takes a ia n bytes xs rest are e;
}

-- ---- so many that rise

abbrev pub joined : {A : Type 0} → A → Option (List A × List ℕ) → Option (List A × List ℕ)
joined x o = o >>= λ y. Some (x ∷ y.0, y.1)

rising_takes : {A : Type 0} (key : A → ℕ) (a : Format A) → IsFormat a → (n low : ℕ) (bytes : List ℕ) (xs : List A) (rest : List ℕ) → AreBytes bytes → get_rising key a.get n low bytes ≡ Some (xs, rest)
    → (bytes ≡ flat_map a.put xs ++ rest) × AreBytes rest × (length xs ≡ n) × (all_fit a.fits xs ≡ true) × (rise key low xs ≡ true)
rising_takes {A} key a ia zero low bytes xs rest are e =
    subst (λ (q : List A × List ℕ). (bytes ≡ flat_map a.put q.0 ++ q.1) × AreBytes q.1 × (length q.0 ≡ 0) × (all_fit a.fits q.0 ≡ true) × (rise key low q.0 ≡ true)) (same_Some ([], bytes) (xs, rest) e) (refl, are, refl, refl, refl)
rising_takes {A} key a ia (suc n) low bytes xs rest are e =
    let x = bind_some (a.get bytes) (λ x. only_if (nat_le low (key x.0)) x >>= λ x. get_rising key a.get n (key x.0 + 1) x.1 >>= λ y. Some (x.0 ∷ y.0, y.1)) (xs, rest) e in
    let z = bind_some (only_if (nat_le low (key x.0.0)) x.0) (λ x. get_rising key a.get n (key x.0 + 1) x.1 >>= λ y. Some (x.0 ∷ y.0, y.1)) (xs, rest) x.2 in
    let g = test_some (nat_le low (key x.0.0)) x.0 z.0 z.1 in
    let rest-of : joined x.0.0 (get_rising key a.get n (key x.0.0 + 1) x.0.1) ≡ Some (xs, rest) = subst (λ (q : A × List ℕ). joined q.0 (get_rising key a.get n (key q.0 + 1) q.1) ≡ Some (xs, rest)) (sym g.1) z.2 in
    let y = bind_some (get_rising key a.get n (key x.0.0 + 1) x.0.1) (λ y. Some (x.0.0 ∷ y.0, y.1)) (xs, rest) rest-of in
    let s = ia.takes bytes x.0.0 x.0.1 are x.1 in
    let t = rising_takes key a ia n (key x.0.0 + 1) x.0.1 y.0.0 y.0.1 s.rest_fits y.1 in
    let made : List A × List ℕ = (x.0.0 ∷ y.0.0, y.0.1) in
    subst (λ (q : List A × List ℕ). (bytes ≡ flat_map a.put q.0 ++ q.1) × AreBytes q.1 × (length q.0 ≡ suc n) × (all_fit a.fits q.0 ≡ true) × (rise key low q.0 ≡ true)) (same_Some made (xs, rest) y.2) (
      two_parts bytes (a.put x.0.0) x.0.1 (flat_map a.put y.0.0) y.0.1 s.parts t.0,
      t.1,
      ap suc t.2,
      and_from _ _ s.fits t.3,
      and_from _ _ g.0 t.4,
    )

rising_again : {A : Type 0} (key : A → ℕ) (a : Format A) → IsFormat a → (n low : ℕ) (xs : List A) (rest : List ℕ) → length xs ≡ n → all_fit a.fits xs ≡ true → rise key low xs ≡ true → get_rising key a.get n low (flat_map a.put xs ++ rest) ≡ Some (xs, rest)
rising_again key a ia zero low [] rest len fits up = refl
rising_again key a ia (suc n) low [] rest len fits up = absurd (omega (arith, len))
rising_again key a ia zero low (x ∷ xs) rest len fits up = absurd (omega (arith, len))
rising_again key a ia (suc n) low (x ∷ xs) rest len fits up =
    let f = and_parts (a.fits x) (all_fit a.fits xs) fits in
    let u = and_parts (nat_le low (key x)) (rise key (key x + 1) xs) up in
    let regrouped : (a.put x ++ flat_map a.put xs) ++ rest ≡ a.put x ++ (flat_map a.put xs ++ rest) = append_assoc (a.put x) (flat_map a.put xs) rest in
    ap (get_rising key a.get (suc n) low) regrouped ∙ rw (ia.again x (flat_map a.put xs ++ rest) f.0) (rw u.0 (rw (rising_again key a ia n (key x + 1) xs rest (omega (arith, len)) f.1 u.1) refl))

pub rising_is : {A : Type 0} (key : A → ℕ) (a : Format A) → IsFormat a → (n : ℕ) → IsFormat (rising key a n)
rising_is key a ia n = record {
  again = λ xs rest fits.
      let f = and_parts (eqb (length xs) n) (all_fit a.fits xs && rise key 0 xs) fits in
      let g = and_parts (all_fit a.fits xs) (rise key 0 xs) f.1 in
      rising_again key a ia n 0 xs rest (eqb-true _ _ f.0) g.0 g.1;
  takes = λ bytes xs rest are e.
      let t = rising_takes key a ia n 0 bytes xs rest are e in
      record { parts = t.0; rest_fits = t.1; fits = and_from _ _ (same_length (length xs) n t.2) (and_from _ _ t.3 t.4) };
}
  where
    same_length : (m n : ℕ) → m ≡ n → eqb m n ≡ true
    same_length m n e = eq-eqb m n e

-- ---- in another form

as_takes : {A B : Type 0} (to : A → B) (back : B → A) (a : Format A) → IsFormat a → ((x : A) → a.fits x ≡ true → back (to x) ≡ x) → (bytes : List ℕ) (y : B) (rest : List ℕ) → AreBytes bytes → (as_form to back a).get bytes ≡ Some (y, rest) → Takes (as_form to back a) bytes y rest
as_takes {A} {B} to back a ia there bytes y rest are e =
    let x = bind_some (a.get bytes) (λ x. Some (to x.0, x.1)) (y, rest) e in
    let s = ia.takes bytes x.0.0 x.0.1 are x.1 in
    let same = there x.0.0 s.fits in
    let made : B × List ℕ = (to x.0.0, x.0.1) in
    subst (λ (q : B × List ℕ). Takes (as_form to back a) bytes q.0 q.1) (same_Some made (y, rest) x.2)
    (record { parts = s.parts ∙ ap (λ (z : A). a.put z ++ x.0.1) (sym same); rest_fits = s.rest_fits; fits = ap a.fits same ∙ s.fits })

pub as_is : {A B : Type 0} (to : A → B) (back : B → A) (a : Format A) → IsFormat a → ((y : B) → to (back y) ≡ y) → ((x : A) → a.fits x ≡ true → back (to x) ≡ x) → IsFormat (as_form to back a)
as_is to back a ia here there = record {
  again = λ y rest fits. rw (ia.again (back y) rest fits) (ap (λ z. Some (z, rest)) (here y));
  takes = λ bytes y rest are e. as_takes to back a ia there bytes y rest are e;
}

counted_back : {A : Type 0} (count : Format ℕ) (a : Format A) (p : ℕ × List A) → (seq count (times a)).fits p ≡ true → (length p.1, p.1) ≡ p
counted_back count a p fits =
    let f = and_parts (count.fits p.0) (eqb (length p.1) p.0 && all_fit a.fits p.1) fits in
    let g = and_parts (eqb (length p.1) p.0) (all_fit a.fits p.1) f.1 in
    ap (λ n. (n, p.1)) (eqb-true _ _ g.0)

pub counted_is : {A : Type 0} (count : Format ℕ) (a : Format A) → IsFormat count → IsFormat a → IsFormat (counted_list count a)
counted_is {A} count a ic ia = as_is (λ p. p.1) (λ xs. (length xs, xs)) (seq count (times a)) (seq_is count (times a) ic (λ n fits. times_is a ia n)) (λ xs. refl) (counted_back count a)

rising_back : {A : Type 0} (key : A → ℕ) (count : Format ℕ) (a : Format A) (p : ℕ × List A) → (seq count (rising key a)).fits p ≡ true → (length p.1, p.1) ≡ p
rising_back key count a p fits =
    let f = and_parts (count.fits p.0) (eqb (length p.1) p.0 && (all_fit a.fits p.1 && rise key 0 p.1)) fits in
    let g = and_parts (eqb (length p.1) p.0) (all_fit a.fits p.1 && rise key 0 p.1) f.1 in
    ap (λ n. (n, p.1)) (eqb-true _ _ g.0)

pub counted_rising_is : {A : Type 0} (key : A → ℕ) (count : Format ℕ) (a : Format A) → IsFormat count → IsFormat a → IsFormat (counted_rising key count a)
counted_rising_is {A} key count a ic ia = as_is (λ p. p.1) (λ xs. (length xs, xs)) (seq count (rising key a)) (seq_is count (rising key a) ic (λ n fits. rising_is key a ia n)) (λ xs. refl) (rising_back key count a)

-- ---- bytes as they are

run_takes : (n : ℕ) (bytes x rest : List ℕ) → AreBytes bytes → get_run n bytes ≡ Some (x, rest) → Takes (run n) bytes x rest
run_takes n bytes x rest are e =
    let made : List ℕ × List ℕ = (take n bytes, drop n bytes) in
    let g = not_barred (ltb (length bytes) n) (Some made) (x, rest) e in
    let much : n ≤ length bytes = ltb-false _ _ g.0 in
    subst (λ (q : List ℕ × List ℕ). Takes (run n) bytes q.0 q.1) (same_Some made (x, rest) g.1)
    (record { parts = sym (take-append-drop n bytes); rest_fits = bytes-drop n bytes are; fits = eq-eqb (length (take n bytes)) n (omega (arith, length-take n bytes)) })

pub run_is : (n : ℕ) → IsFormat (run n)
run_is n = record {
  again = λ x rest fits.
      let len : length x ≡ n = eqb-true _ _ fits in
      let long : ltb (length (x ++ rest)) n ≡ false = le-ltb _ _ (omega (arith, length-append x rest, len)) in
      rw (long, take_at x rest n len, drop_at x rest n len) refl;
  takes = λ bytes x rest are e. run_takes n bytes x rest are e;
}

text_back : (count : Format ℕ) (p : ℕ × List ℕ) → (seq count run).fits p ≡ true → (length p.1, p.1) ≡ p
text_back count p fits =
    let f = and_parts (count.fits p.0) (eqb (length p.1) p.0) fits in
    ap (λ n. (n, p.1)) (eqb-true _ _ f.1)

pub text_is : (w : Width) (limit : ℕ) (wide : IsWide w limit) (low end : ℕ) → end ≤ limit → IsFormat (text w low end)
text_is w limit wide low end most = as_is (λ p. p.1) (λ b. (length b, b)) (seq (number w low end) run) (seq_is (number w low end) run (number_is w limit wide low end most) (λ n fits. run_is n)) (λ b. refl) (text_back (number w low end))

-- ---- behind a byte

maybe_takes : {A : Type 0} (may : Bool) (a : Format A) → IsFormat a → (bytes : List ℕ) (x : Option A) (rest : List ℕ) → AreBytes bytes → get_maybe may a.get bytes ≡ Some (x, rest) → Takes (maybe may a) bytes x rest
maybe_takes {A} may a ia [] x rest are e = absurd cc
maybe_takes {A} may a ia (zero ∷ bytes) x rest are e =
    let none : Option A × List ℕ = (None, bytes) in
    subst (λ (q : Option A × List ℕ). Takes (maybe may a) (0 ∷ bytes) q.0 q.1) (same_Some none (x, rest) e) (record { parts = refl; rest_fits = λ i. are (suc i); fits = refl })
maybe_takes {A} true a ia (suc zero ∷ bytes) x rest are e =
    let y = bind_some (a.get bytes) (λ y. Some (Some y.0, y.1)) (x, rest) e in
    let s = ia.takes bytes y.0.0 y.0.1 (λ i. are (suc i)) y.1 in
    let made : Option A × List ℕ = (Some y.0.0, y.0.1) in
    subst (λ (q : Option A × List ℕ). Takes (maybe true a) (1 ∷ bytes) q.0 q.1) (same_Some made (x, rest) y.2) (record { parts = ap (λ (w : List ℕ). 1 ∷ w) s.parts; rest_fits = s.rest_fits; fits = s.fits })
maybe_takes {A} false a ia (suc zero ∷ bytes) x rest are e = absurd cc
maybe_takes {A} may a ia (suc (suc b) ∷ bytes) x rest are e = absurd cc

maybe_again : {A : Type 0} (may : Bool) (a : Format A) → IsFormat a → (x : Option A) (rest : List ℕ) → fits_maybe may a.fits x ≡ true → get_maybe may a.get (put_maybe a.put x ++ rest) ≡ Some (x, rest)
maybe_again may a ia None rest fits = refl
maybe_again true a ia (Some x) rest fits = rw (ia.again x rest fits) refl
maybe_again false a ia (Some x) rest fits = absurd cc

pub maybe_is : {A : Type 0} (may : Bool) (a : Format A) → IsFormat a → IsFormat (maybe may a)
maybe_is may a ia = record { again = maybe_again may a ia; takes = maybe_takes may a ia }

either_takes : {A B : Type 0} (a : Format A) (b : Format B) → IsFormat a → IsFormat b → (bytes : List ℕ) (x : A ⊎ B) (rest : List ℕ) → AreBytes bytes → get_either a.get b.get bytes ≡ Some (x, rest) → Takes (either a b) bytes x rest
either_takes {A} {B} a b ia ib [] x rest are e = absurd cc
either_takes {A} {B} a b ia ib (zero ∷ bytes) x rest are e =
    let y = bind_some (a.get bytes) (λ y. Some (inl y.0, y.1)) (x, rest) e in
    let s = ia.takes bytes y.0.0 y.0.1 (λ i. are (suc i)) y.1 in
    let made : (A ⊎ B) × List ℕ = (inl y.0.0, y.0.1) in
    subst (λ (q : (A ⊎ B) × List ℕ). Takes (either a b) (0 ∷ bytes) q.0 q.1) (same_Some made (x, rest) y.2) (record { parts = ap (λ (w : List ℕ). 0 ∷ w) s.parts; rest_fits = s.rest_fits; fits = s.fits })
either_takes {A} {B} a b ia ib (suc zero ∷ bytes) x rest are e =
    let y = bind_some (b.get bytes) (λ y. Some (inr y.0, y.1)) (x, rest) e in
    let s = ib.takes bytes y.0.0 y.0.1 (λ i. are (suc i)) y.1 in
    let made : (A ⊎ B) × List ℕ = (inr y.0.0, y.0.1) in
    subst (λ (q : (A ⊎ B) × List ℕ). Takes (either a b) (1 ∷ bytes) q.0 q.1) (same_Some made (x, rest) y.2) (record { parts = ap (λ (w : List ℕ). 1 ∷ w) s.parts; rest_fits = s.rest_fits; fits = s.fits })
either_takes {A} {B} a b ia ib (suc (suc c) ∷ bytes) x rest are e = absurd cc

either_again : {A B : Type 0} (a : Format A) (b : Format B) → IsFormat a → IsFormat b → (x : A ⊎ B) (rest : List ℕ) → fits_either a.fits b.fits x ≡ true → get_either a.get b.get (put_either a.put b.put x ++ rest) ≡ Some (x, rest)
either_again a b ia ib (inl x) rest fits = rw (ia.again x rest fits) refl
either_again a b ia ib (inr y) rest fits = rw (ib.again y rest fits) refl

pub either_is : {A B : Type 0} (a : Format A) (b : Format B) → IsFormat a → IsFormat b → IsFormat (either a b)
either_is a b ia ib = record { again = either_again a b ia ib; takes = either_takes a b ia ib }
