-- Part of what the headline says.
-- What a call has written of its text.
use Rattle.std.specs.Prelude.{ℕ, ◌≡◌, List, ◌++◌, Option, Result, MatchResult}
use Rattle.std.specs.Io.KnownBytes.{Appends}

-- known bytes grow by a prefix of the text
pub record AppendsPrefix (before now : Option (List ℕ)) (text : List ℕ) : Type 0 where
  pub prefix : List ℕ
  pub rest : List ℕ
  pub whole : text ≡ prefix ++ rest
  pub grown : Appends before now prefix

-- known bytes grow by the whole text at Ok, and by a prefix of it at Err
abbrev pub Puts : {T E : Type 0} → Option (List ℕ) → Option (List ℕ) → List ℕ → Result T E → Type 0
Puts before now text result =
    MatchResult result (λ _. Appends before now text) (λ _. AppendsPrefix before now text)
