-- What a call has reported: what it has written, and the number that it answered.
use Rattle.std.specs.Prelude.{◌≡◌, ◌≢◌, ℕ, Bool, true, false, Some, List, []}
use Rattle.mesh_base.specs.declared.events.Variant.{Variant}
use Rattle.mesh_text.specs.Schedule.{opening}
use Rattle.mesh_text.specs.Text.{RunText, text_on}
use Rattle.mesh_run.specs.Codes.{code_of}
use Rattle.mesh_run.specs.Outputs.{IsOutput}
use Rattle.mesh_run.specs.declared.status.Status.{Status}
use Rattle.mesh_run.specs.declared.status.Status.TheVariants.{ReadFault}
use Rattle.mesh_blocks.specs.declared.below.Below.TheVariants.{Blocks}
use Rattle.mesh_blocks.specs.Text.{watched_on}

-- the text of a schedule's run, with a block below each event that has changed a node, or without
abbrev pub text_by : (blocks : Bool) → Variant → List ℕ → RunText
text_by true variant input = watched_on Blocks (opening variant) input
text_by false variant input = text_on (opening variant) input

-- a run that was to write this text has written these bytes, and answered the number of its status:
-- the whole text, and its verdict; or a prefix of it, and that the caller's memory is full or that
-- memory ran out
pub record IsTold (text : RunText) (written : List ℕ) (code : ℕ) : Type 0 where
  pub status : Status
  pub coded : code ≡ code_of status
  pub told : IsOutput (Some []) (Some written) text status
  pub read : status ≢ ReadFault
