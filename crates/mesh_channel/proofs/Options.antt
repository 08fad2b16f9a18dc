-- The options that words give, one after another.
use Rattle.std.proofs.Common.{◌≡◌, ◌∙◌, ℕ, ◌+◌, ◌<◌, ◌≤◌, Bool, true, false, List, [], ◌∷◌, Option, Some, None, length, map, drop, get_or, refl, ap, codes, if◌then◌else◌}
use Rattle.std.specs.Prelude.{option_and_then}
use Rattle.std.specs.Borrow.{Bor}
use Rattle.std.specs.Str.{bytes_eq}
use Rattle.mesh_base.proofs.Lemmas.Words.{text_of, word_at, none_past}
use Rattle.mesh_channel.specs.Words.{given_by, with_quiet, with_value}
use Rattle.mesh_channel.specs.declared.words.Given.{Given}

and_some : (o : Option Given) → o ≡ option_and_then (λ h. Some h) o
and_some None = refl
and_some (Some g) = refl

pub quiet_first : (g : Given) (w : List ℕ) (rest : List (List ℕ)) → bytes_eq w (codes "--quiet") ≡ true → given_by g (w ∷ rest) ≡ option_and_then (λ h. given_by h rest) (with_quiet g)
unfolding given_by
quiet_first g w [] e = ap (λ b. if b then with_quiet g else None) e ∙ and_some (with_quiet g)
quiet_first g w (v ∷ rest) e = ap (λ b. if b then option_and_then (λ h. given_by h (v ∷ rest)) (with_quiet g) else option_and_then (λ h. given_by h rest) (with_value g w v)) e

pub value_first : (g : Given) (w v : List ℕ) (rest : List (List ℕ)) → bytes_eq w (codes "--quiet") ≡ false → given_by g (w ∷ v ∷ rest) ≡ option_and_then (λ h. given_by h rest) (with_value g w v)
unfolding given_by
value_first g w v rest e = ap (λ b. if b then option_and_then (λ h. given_by h (v ∷ rest)) (with_quiet g) else option_and_then (λ h. given_by h rest) (with_value g w v)) e

pub none_last : (g : Given) (w : List ℕ) → bytes_eq w (codes "--quiet") ≡ false → given_by g (w ∷ []) ≡ None
unfolding given_by
none_last g w e = ap (λ b. if b then with_quiet g else None) e

pub nothing_left : (g : Given) (ws : List (List ℕ)) → ws ≡ [] → given_by g ws ≡ Some g
unfolding given_by
nothing_left g ws e = ap (given_by g) e

-- the last word
pub last_word : (words : List (Bor (List ℕ))) (i : ℕ) (d : Bor (List ℕ)) → i < length words → length words ≤ i + 1 → drop i (map text_of words) ≡ (get_or words i d).now ∷ []
last_word words i d h few = word_at words i d h ∙ ap (λ l. (get_or words i d).now ∷ l) (none_past words (i + 1) few)
