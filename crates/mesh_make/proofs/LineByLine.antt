-- A text that is written line by line.
use Rattle.std.proofs.Common.{◌≡◌, ℕ, List, ◌++◌, Option, refl, sym, ap, ◌∙◌, append_assoc}
use Rattle.std.specs.Io.KnownBytes.{Appends}
use Rattle.mesh_io.specs.Puts.{AppendsPrefix}
use Rattle.mesh_io.specs.Buffering.{HandsOn}
use Rattle.mesh_io.proofs.Writing.{Appends-join}

-- one line more
pub goes_on : (a b c : Option (List ℕ)) (all rest line more : List ℕ) → HandsOn a b all rest → rest ≡ line ++ more → Appends b c line → HandsOn a c all more
goes_on a b c all rest line more h e appended = record {
  handed = h.handed ++ line;
  whole = h.whole ∙ ap (λ (r : List ℕ). h.handed ++ r) e ∙ sym (append_assoc h.handed line more);
  grown = Appends-join a b c h.handed line (h.handed ++ line) refl h.grown appended;
}

-- a prefix of one line more
pub stops : (a b c : Option (List ℕ)) (all rest line more : List ℕ) → HandsOn a b all rest → rest ≡ line ++ more → AppendsPrefix b c line → AppendsPrefix a c all
stops a b c all rest line more h e q = record {
  prefix = h.handed ++ q.prefix;
  rest = q.rest ++ more;
  whole =
      h.whole ∙ ap (λ (r : List ℕ). h.handed ++ r) (e ∙ ap (λ (r : List ℕ). r ++ more) q.whole ∙ append_assoc q.prefix q.rest more)
      ∙ sym (append_assoc h.handed q.prefix (q.rest ++ more));
  grown = Appends-join a b c h.handed q.prefix (h.handed ++ q.prefix) refl h.grown q.grown;
}

-- a line that joins what stands before it
pub joined_on : (old words last rest whole : List ℕ) → whole ≡ (words ++ last) ++ rest → old ++ whole ≡ ((old ++ words) ++ last) ++ rest
joined_on old words last rest whole e =
    ap (λ (w : List ℕ). old ++ w) e ∙ sym (append_assoc old (words ++ last) rest) ∙ ap (λ (w : List ℕ). w ++ rest) (sym (append_assoc old words last))
