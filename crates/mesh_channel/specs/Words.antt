-- The words of a command line, and what they ask for.
use Rattle.std.specs.Prelude.{ℕ, Bool, true, false, if◌then◌else◌, is_some, List, [], ◌∷◌, Option, Some, None, option_and_then, option_map, codes}
use Rattle.std.specs.Option.{unwrap_or}
use Rattle.std.specs.Str.{bytes_eq}
use Rattle.mesh_base.specs.Numbers.{number_up_to}
use Rattle.mesh_base.specs.declared.events.Variant.{Variant}
use Rattle.mesh_base.specs.declared.events.Variant.TheVariants.{Base}
use Rattle.mesh_run.specs.Variants.{variant_named}
use Rattle.mesh_run.specs.Outputs.{say_by}
use Rattle.mesh_fates.specs.declared.rates.Rates.{Rates}
use Rattle.mesh_fates.specs.declared.rates.TheConstants.{GREATEST_RATE, GREATEST_DELAY}
use Rattle.mesh_channel.specs.declared.words.Options.{Options}
use Rattle.mesh_channel.specs.declared.words.Given.{Given}

abbrev pub greatest_seed : ℕ
greatest_seed = 18446744073709551615

-- no option is given yet
abbrev pub nothing_given : Given
nothing_given = record {
  variant = None;
  seed = None;
  loss = None;
  loss_unicast = None;
  late = None;
  double = None;
  quiet = false;
}

-- the value that an option takes, if it has none yet
abbrev pub first_given : {A : Type 0} → Option A → Option A → Option A
first_given None value = value
first_given (Some before) value = None

-- an option takes its value, once
abbrev pub once : {A : Type 0} → Option A → Option A → (A → Given) → Option Given
once before value with_value = option_map with_value (first_given before value)

-- `--loss N`, `--loss-unicast N`, `--late N` or `--double N`
abbrev pub with_number : Given → (option value : List ℕ) → Option Given
with_number g option value =
    if bytes_eq option (codes "--loss")
    then once g.loss (number_up_to GREATEST_RATE value) (λ n. record g { loss = Some n }) else
    if bytes_eq option (codes "--loss-unicast")
    then once g.loss_unicast (number_up_to GREATEST_RATE value)
    (λ n. record g { loss_unicast = Some n }) else
    if bytes_eq option (codes "--late")
    then once g.late (number_up_to GREATEST_DELAY value) (λ n. record g { late = Some n }) else
    if bytes_eq option (codes "--double")
    then once g.double (number_up_to GREATEST_RATE value) (λ n. record g { double = Some n })
    else None

-- `--variant NAME`, `--seed NUM` or one of those above
abbrev pub with_value : Given → (option value : List ℕ) → Option Given
with_value g option value =
    if bytes_eq option (codes "--variant")
    then once g.variant (variant_named value) (λ v. record g { variant = Some v }) else
    if bytes_eq option (codes "--seed")
    then once g.seed (number_up_to greatest_seed value) (λ n. record g { seed = Some n }) else
    with_number g option value

-- `--quiet`
abbrev pub with_quiet : Given → Option Given
with_quiet g = if g.quiet then None else Some (record g { quiet = true })

-- the options that the words give, in any order and each at most once
unfoldable pub given_by : Given → List (List ℕ) → Option Given
given_by g [] = Some g
given_by g (option ∷ []) = if bytes_eq option (codes "--quiet") then with_quiet g else None
given_by g (option ∷ value ∷ words) =
    if bytes_eq option (codes "--quiet")
    then option_and_then (λ h. given_by h (value ∷ words)) (with_quiet g)
    else option_and_then (λ h. given_by h words) (with_value g option value)

-- what the options ask for; without any, it is the protocol as AWN has it, seed 1, and a channel
-- that loses, delays and doubles nothing
abbrev pub options : Given → Options
options g = record {
  variant = unwrap_or g.variant Base;
  seed = unwrap_or g.seed 1;
  rates = record {
    loss = unwrap_or g.loss 0;
    loss_unicast = unwrap_or g.loss_unicast 0;
    late = unwrap_or g.late 0;
    double = unwrap_or g.double 0;
  };
  say = say_by g.quiet;
}

abbrev pub options_in : Option Given → Option Options
options_in None = None
options_in (Some g) = Some (options g)

unfoldable pub options_of : List (List ℕ) → Option Options
options_of words = options_in (given_by nothing_given words)
