-- What is proved of made schedules, for each size that is allowed.
use Rattle.std.specs.Prelude.{ℕ, ◌≤◌, ◌<◌, ◌≢◌, length}
use Rattle.mesh_base.specs.declared.events.Variant.{Variant}
use Rattle.mesh_base.specs.declared.limits.TheConstants.{MOST_NODES}
use Rattle.mesh_text.specs.declared.verdict.Verdict.TheVariants.{RefusedAt}
use Rattle.mesh_text.specs.Text.{text_of_input}
use Rattle.mesh_make.specs.declared.sizes.TheConstants.{MOST_STEPS}
use Rattle.mesh_make.specs.Made.{made_schedule}

-- each line of a made schedule is allowed: in no variant does its run end at a line that is refused
abbrev pub MadeSchedulesAreAllowed : Type 0
MadeSchedulesAreAllowed =
    (variant : Variant) (seed nodes steps n : ℕ) → 2 ≤ nodes → nodes ≤ MOST_NODES → 1 ≤ steps
    → steps ≤ MOST_STEPS
    → (text_of_input variant (made_schedule seed nodes steps)).verdict ≢ RefusedAt n

-- a made schedule has fewer than 4000000 bytes, and so fewer than an input may have
abbrev pub MadeSchedulesAreShort : Type 0
MadeSchedulesAreShort =
    (seed nodes steps : ℕ) → 2 ≤ nodes → nodes ≤ MOST_NODES → 1 ≤ steps → steps ≤ MOST_STEPS
    → length (made_schedule seed nodes steps) < 4000000
