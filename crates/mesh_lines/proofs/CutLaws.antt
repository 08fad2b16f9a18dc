-- The first separator of a text, looked for byte by byte.
use Rattle.std.proofs.Common.{◌≡◌, ℕ, zero, suc, ◌+◌, ◌-◌, ◌<◌, ◌≤◌, not, cond, eqb, List, [], ◌∷◌, Some, None, length, take, drop, slice_index, refl, sym, ap, eq-eqb, arith}
use Rattle.std.specs.List.{position_or_len}
use Rattle.std.proofs.lemmas.Bool.{lt-ltb, le-ltb}
use Rattle.mesh_base.specs.Parts.{parts}
use Rattle.mesh_base.proofs.PartLaws.{split_at_position, split_nowhere}

-- it is the separator
pub reached : (sep at : ℕ) (bs : List ℕ) → at < length bs → slice_index bs at ≡ sep → position_or_len (λ b. eqb b sep) (drop at bs) ≡ 0
reached sep at [] lt same = absurd (omega arith)
reached sep zero (b ∷ bs) lt same = ap (λ t. cond (not t) (1 + position_or_len (λ b. eqb b sep) bs) 0) (eq-eqb b sep same)
reached sep (suc k) (b ∷ bs) lt same = reached sep k bs (omega arith) same

-- there is none
pub ended : (sep at : ℕ) (bs : List ℕ) → length bs ≤ at → position_or_len (λ b. eqb b sep) (drop at bs) ≡ 0
ended sep zero [] le = refl
ended sep zero (b ∷ bs) le = absurd (omega arith)
ended sep (suc k) [] le = refl
ended sep (suc k) (b ∷ bs) le = ended sep k bs (omega arith)

pub cut_there : (sep at : ℕ) (bs : List ℕ) → at ≡ position_or_len (λ b. eqb b sep) bs → at < length bs
    → parts sep bs ≡ take at bs ∷ parts sep (take (length bs - (at + 1)) (drop (at + 1) bs))
cut_there sep at bs is lt =
    split_at_position (λ b. eqb b sep) bs at (rw (sym is) (ap (λ t. cond t (Some at) None) (lt-ltb at (length bs) lt)))

pub not_cut : (sep at : ℕ) (bs : List ℕ) → at ≡ position_or_len (λ b. eqb b sep) bs → length bs ≤ at → parts sep bs ≡ bs ∷ []
not_cut sep at bs is le =
    split_nowhere (λ b. eqb b sep) bs (rw (sym is) (ap (λ t. cond t (Some at) None) (le-ltb at (length bs) le)))
