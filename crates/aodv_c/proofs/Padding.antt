-- Elements copied to the front of an array of zeros.
use Rattle.std.proofs.Common.{◌≡◌, ℕ, ◌-◌, ◌++◌, List, length, drop, ap, ◌∙◌}
use Rattle.std.specs.Prelude.{replicate}
use Rattle.std.proofs.lemmas.List.{drop-replicate}
use Rattle.aodv_c.specs.Laid.{padded}

pub zeros_follow : (size : ℕ) (front from xs : List ℕ) → front ≡ from → from ≡ xs
    → front ++ drop (length from) (replicate size 0) ≡ padded size xs
zeros_follow size front from xs copied same =
    ap (λ l. l ++ drop (length from) (replicate size 0)) (copied ∙ same)
    ∙ ap (λ l. xs ++ l) (drop-replicate (length from) size 0 ∙ ap (λ l. replicate (size - length l) 0) same)
