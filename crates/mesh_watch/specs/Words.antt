-- The words of a command line.
use Rattle.std.specs.Prelude.{ℕ, List, [], ◌∷◌, Option, Some, None, codes, if◌then◌else◌, option_map}
use Rattle.std.specs.Str.{bytes_eq}
use Rattle.mesh_base.specs.declared.events.Variant.{Variant}
use Rattle.mesh_base.specs.declared.events.Variant.TheVariants.{Base}
use Rattle.mesh_run.specs.Variants.{variant_named}
use Rattle.mesh_blocks.specs.declared.below.Below.{Below}
use Rattle.mesh_blocks.specs.declared.below.Below.TheVariants.{Blocks, Changes}
use Rattle.mesh_watch.specs.declared.words.Asked.{Asked}

-- the variant that two words name: `--variant NAME`
abbrev pub variant_by : List ℕ → List ℕ → Option Variant
variant_by option name = if bytes_eq option (codes "--variant") then variant_named name else None

-- what is asked for with a variant, if there is one, and with what is to be written below an event
abbrev pub asked_with : Below → Option Variant → Option Asked
asked_with below variant = option_map (λ v. record { variant = v; below = below }) variant

-- what is asked for with a variant if the last word is `--changes`
abbrev pub with_changes : List ℕ → Option Variant → Option Asked
with_changes word variant =
    if bytes_eq word (codes "--changes") then asked_with Changes variant else None

-- `--changes`; `--variant NAME`; and `--variant NAME --changes`. If no variant is named, it is the
-- protocol as AWN has it
abbrev pub of_one : List ℕ → Option Asked
of_one word = with_changes word (Some Base)

abbrev pub of_two : List ℕ → List ℕ → Option Asked
of_two option name = asked_with Blocks (variant_by option name)

abbrev pub of_three : List ℕ → List ℕ → List ℕ → Option Asked
of_three option name word = with_changes word (variant_by option name)

-- what the words ask for, if they are in one of the program's forms
unfoldable pub asked_of : List (List ℕ) → Option Asked
asked_of [] = asked_with Blocks (Some Base)
asked_of (word ∷ []) = of_one word
asked_of (option ∷ name ∷ []) = of_two option name
asked_of (option ∷ name ∷ word ∷ []) = of_three option name word
asked_of others = None
