-- The flags of a first line, as the reader masks them.
use Rattle.std.proofs.Common.{◌≡◌, ℕ, zero, suc, ◌+◌, ◌*◌, ◌/◌, ◌%◌, ◌^◌, ◌<◌, ◌≤◌, eqb, List, [], ◌∷◌, length, slice_index, bit_and, drop, Option, Some, None, refl, sym, ap, ◌∙◌, eq-eqb, arith}
use Rattle.std.specs.Prelude.{not, option_map}
use Rattle.std.proofs.lemmas.Bool.{ne_eqb, le-ltb}
use Rattle.std.proofs.lemmas.List.{length-drop}
use Rattle.std.proofs.lemmas.Nat.{and_mask, and_block}
use Rattle.std.proofs.lemmas.Nat.Bits.{and_high_mask}
use Rattle.aodv_wire.specs.declared.error.WireError.{WireError}
use Rattle.aodv_wire.specs.declared.error.WireError.TheVariants.{OutsideProfile, ZeroNumber, NoDestinations, Repeated}
use Rattle.aodv_wire.specs.Layout.{number_at, field_at}
use Rattle.aodv_wire.specs.Refused.{refuse_if, first_of}
use Rattle.aodv_wire.specs.RouteRequest as rreq
use Rattle.aodv_wire.specs.RouteReply as rrep
use Rattle.aodv_wire.specs.RouteError as rerr
use Rattle.aodv_wire.proofs.Lines.{AreBytes, octets}

-- ---- masks

mask_f0 : (x : ℕ) → x < 256 → bit_and x 240 ≡ x / 16 * 16
mask_f0 x h = and_high_mask 8 4 (omega arith) x h

mask_c0 : (x : ℕ) → x < 256 → bit_and x 192 ≡ x / 64 * 64
mask_c0 x h = and_high_mask 8 6 (omega arith) x h

pub mask_80 : (x : ℕ) → x < 256 → bit_and x 128 ≡ x / 128 * 128
mask_80 x h = and_high_mask 8 7 (omega arith) x h

pub mask_1f : (x : ℕ) → bit_and x 31 ≡ x % 32
mask_1f x = and_mask x 5

pub mask_08 : (x : ℕ) → bit_and x 8 ≡ x / 8 % 2 * 8
mask_08 x =
    let split : x / 8 * 2 ^ 3 + x % 8 ≡ x = omega arith in
    let one : bit_and (x / 8) 1 ≡ x / 8 % 2 = and_mask (x / 8) 1 in
    let none : bit_and (x % 8) 0 ≡ 0 = and_mask (x % 8) 0 ∙ omega arith in
    let block = and_block 3 (x / 8) 1 (x % 8) 0 (omega arith) (omega arith) in
    ap (λ (y : ℕ). bit_and y 8) (sym split) ∙ block ∙ omega arith

-- ---- flags

-- one of four flags is set
one_of_four : (j r g d : ℕ) (e : WireError) (rest : List (Option WireError)) → j < 2 → r < 2 → g < 2 → d < 2 → 0 < j + r + g + d
    → first_of (refuse_if (eqb j 1) e ∷ refuse_if (eqb r 1) e ∷ refuse_if (eqb g 1) e ∷ refuse_if (eqb d 1) e ∷ rest) ≡ Some e
one_of_four (suc zero) r g d e rest hj hr hg hd some = refl
one_of_four (suc (suc j)) r g d e rest hj hr hg hd some = absurd (omega arith)
one_of_four zero (suc zero) g d e rest hj hr hg hd some = refl
one_of_four zero (suc (suc r)) g d e rest hj hr hg hd some = absurd (omega arith)
one_of_four zero zero (suc zero) d e rest hj hr hg hd some = refl
one_of_four zero zero (suc (suc g)) d e rest hj hr hg hd some = absurd (omega arith)
one_of_four zero zero zero (suc zero) e rest hj hr hg hd some = refl
one_of_four zero zero zero (suc (suc d)) e rest hj hr hg hd some = absurd (omega arith)
one_of_four zero zero zero zero e rest hj hr hg hd some = absurd (omega arith)

-- a request with a flag outside the profile
pub rreq_outside : (b : List ℕ) → AreBytes b → length b ≡ 24 → (bit_and (slice_index b 1) 240 ≡ 0 → ⊥) → rreq.refusal b ≡ Some OutsideProfile
rreq_outside b are len set =
    let x = slice_index b 1 in
    let h0 = are 0 in let h1 = are 1 in let h2 = are 2 in let h3 = are 3 in
    let line = octets b in
    let high : 0 < x / 16 = omega (arith, mask_f0 x h1, set) in
    rw (eq-eqb (length b) 24 len) (one_of_four (number_at b (field_at 0 8 1)) (number_at b (field_at 0 9 1)) (number_at b (field_at 0 10 1)) (number_at b (field_at 0 11 1)) OutsideProfile _ (omega arith) (omega arith) (omega arith) (omega arith) (omega arith))

-- a request without such a flag
pub rreq_inside : (b : List ℕ) → AreBytes b → length b ≡ 24 → bit_and (slice_index b 1) 240 ≡ 0 → rreq.refusal b ≡ first_of (refuse_if (eqb (number_at b (field_at 5 0 32)) 0) ZeroNumber ∷ [])
rreq_inside b are len clear =
    let x = slice_index b 1 in
    let h0 = are 0 in let h1 = are 1 in let h2 = are 2 in let h3 = are 3 in
    let line = octets b in
    let low : x < 16 = omega (arith, mask_f0 x h1) in
    let j : number_at b (field_at 0 8 1) ≡ 0 = omega arith in
    let r : number_at b (field_at 0 9 1) ≡ 0 = omega arith in
    let g : number_at b (field_at 0 10 1) ≡ 0 = omega arith in
    let d : number_at b (field_at 0 11 1) ≡ 0 = omega arith in
    rw (eq-eqb (length b) 24 len, j, r, g, d) refl

-- U of a request
pub rreq_unknown : (b : List ℕ) → AreBytes b → eqb (bit_and (slice_index b 1) 8) 0 ≡ eqb (number_at b (field_at 0 12 1)) 0
rreq_unknown b are =
    let x = slice_index b 1 in
    let h0 = are 0 in let h1 = are 1 in let h2 = are 2 in let h3 = are 3 in
    let line = octets b in
    let u : number_at b (field_at 0 12 1) ≡ x / 8 % 2 = omega arith in
    let bit = mask_08 x in
    rw (u, bit) (times_eight (x / 8 % 2))
  where
    times_eight : (n : ℕ) → eqb (n * 8) 0 ≡ eqb n 0
    times_eight zero = refl
    times_eight (suc n) = ne_eqb (suc n * 8) 0 (λ e. omega arith) ∙ sym (ne_eqb (suc n) 0 (λ e. omega arith))

-- a reply with a flag or a prefix outside the profile
one_of_three : (r a p : ℕ) (e : WireError) (rest : List (Option WireError)) → r < 2 → a < 2 → 0 < r + a + p
    → first_of (refuse_if (eqb r 1) e ∷ refuse_if (eqb a 1) e ∷ refuse_if (not (eqb p 0)) e ∷ rest) ≡ Some e
one_of_three (suc zero) a p e rest hr ha some = refl
one_of_three (suc (suc r)) a p e rest hr ha some = absurd (omega arith)
one_of_three zero (suc zero) p e rest hr ha some = refl
one_of_three zero (suc (suc a)) p e rest hr ha some = absurd (omega arith)
one_of_three zero zero (suc p) e rest hr ha some = rw (ne_eqb (suc p) 0 (λ e. omega arith)) refl
one_of_three zero zero zero e rest hr ha some = absurd (omega arith)

pub rrep_outside : (b : List ℕ) → AreBytes b → length b ≡ 20 → 0 < bit_and (slice_index b 1) 192 + bit_and (slice_index b 2) 31 → rrep.refusal b ≡ Some OutsideProfile
rrep_outside b are len set =
    let x = slice_index b 1 in
    let y = slice_index b 2 in
    let h0 = are 0 in let h1 = are 1 in let h2 = are 2 in let h3 = are 3 in
    let line = octets b in
    let some : 0 < x / 64 + y % 32 = omega (arith, mask_c0 x h1, mask_1f y, set) in
    rw (eq-eqb (length b) 20 len) (one_of_three (number_at b (field_at 0 8 1)) (number_at b (field_at 0 9 1)) (number_at b (field_at 0 19 5)) OutsideProfile _ (omega arith) (omega arith) (omega arith))

pub rrep_inside : (b : List ℕ) → AreBytes b → length b ≡ 20 → bit_and (slice_index b 1) 192 ≡ 0 → bit_and (slice_index b 2) 31 ≡ 0 → rrep.refusal b ≡ first_of (refuse_if (eqb (number_at b (field_at 2 0 32)) 0) ZeroNumber ∷ [])
rrep_inside b are len clear zero_prefix =
    let x = slice_index b 1 in
    let y = slice_index b 2 in
    let h0 = are 0 in let h1 = are 1 in let h2 = are 2 in let h3 = are 3 in
    let line = octets b in
    let low : x < 64 = omega (arith, mask_c0 x h1) in
    let part : y % 32 ≡ 0 = omega (arith, mask_1f y) in
    let r : number_at b (field_at 0 8 1) ≡ 0 = omega arith in
    let a : number_at b (field_at 0 9 1) ≡ 0 = omega arith in
    let p : number_at b (field_at 0 19 5) ≡ 0 = omega arith in
    rw (eq-eqb (length b) 20 len, r, a, p) refl

-- ---- a route error

rerr_length : (b : List ℕ) → 4 ≤ length b → length b ≡ 4 + 8 * number_at b (field_at 0 24 8) → rerr.refusal b ≡ first_of (refuse_if (eqb (number_at b (field_at 0 8 1)) 1) OutsideProfile ∷ refuse_if (eqb (number_at b (field_at 0 24 8)) 0) NoDestinations ∷ option_map Repeated (rerr.repeated_address (rerr.destinations b)) ∷ [])
rerr_length b long len = rw (le-ltb (length b) 4 long, eq-eqb (length b) (4 + 8 * number_at b (field_at 0 24 8)) len) refl

rerr_flag : (b : List ℕ) → AreBytes b → number_at b (field_at 0 8 1) ≡ slice_index b 1 / 128
rerr_flag b are =
    let h0 = are 0 in let h1 = are 1 in let h2 = are 2 in let h3 = are 3 in
    let line = octets b in
    omega arith

pub rerr_outside : (b : List ℕ) → AreBytes b → 4 ≤ length b → length b ≡ 4 + 8 * number_at b (field_at 0 24 8) → (bit_and (slice_index b 1) 128 ≡ 0 → ⊥) → rerr.refusal b ≡ Some OutsideProfile
rerr_outside b are long len set =
    let h1 = are 1 in
    let n : number_at b (field_at 0 8 1) ≡ 1 = rerr_flag b are ∙ omega (arith, mask_80 (slice_index b 1) h1) in
    rerr_length b long len ∙ rw n refl

rerr_inside : (b : List ℕ) → AreBytes b → 4 ≤ length b → length b ≡ 4 + 8 * number_at b (field_at 0 24 8) → bit_and (slice_index b 1) 128 ≡ 0 → rerr.refusal b ≡ first_of (refuse_if (eqb (number_at b (field_at 0 24 8)) 0) NoDestinations ∷ option_map Repeated (rerr.repeated_address (rerr.destinations b)) ∷ [])
rerr_inside b are long len clear =
    let h1 = are 1 in
    let n : number_at b (field_at 0 8 1) ≡ 0 = rerr_flag b are ∙ omega (arith, mask_80 (slice_index b 1) h1) in
    rerr_length b long len ∙ rw n refl

pub rerr_nobody : (b : List ℕ) → AreBytes b → 4 ≤ length b → length b ≡ 4 + 8 * number_at b (field_at 0 24 8) → bit_and (slice_index b 1) 128 ≡ 0 → number_at b (field_at 0 24 8) ≡ 0 → rerr.refusal b ≡ Some NoDestinations
rerr_nobody b are long len clear none = rerr_inside b are long len clear ∙ rw none refl

only_one : (o : Option WireError) → first_of (o ∷ []) ≡ o
only_one (Some e) = refl
only_one None = refl

-- the pairs behind the first line
pub destinations_behind : (b lines : List ℕ) → length b ≡ 4 + 8 * number_at b (field_at 0 24 8) → lines ≡ drop 4 b → rerr.pairs (length lines / 8) lines ≡ rerr.destinations b
destinations_behind b lines len is =
    let count : length (drop 4 b) / 8 ≡ number_at b (field_at 0 24 8) = omega (arith, length-drop 4 b) in
    rw (is, count) refl

pub rerr_repeated : (b : List ℕ) → AreBytes b → 4 ≤ length b → length b ≡ 4 + 8 * number_at b (field_at 0 24 8) → bit_and (slice_index b 1) 128 ≡ 0 → (number_at b (field_at 0 24 8) ≡ 0 → ⊥) → rerr.refusal b ≡ option_map Repeated (rerr.repeated_address (rerr.destinations b))
rerr_repeated b are long len clear some =
    rerr_inside b are long len clear ∙ rw (ne_eqb (number_at b (field_at 0 24 8)) 0 some) (only_one (option_map Repeated (rerr.repeated_address (rerr.destinations b))))
