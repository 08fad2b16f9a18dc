-- What was written, sent and answered for a script.
use Rattle.std.specs.Prelude.{◌≡◌, ℕ, List, Option, IfSome}
use Rattle.mesh_link.specs.Datagrams.{Datagram}
use Rattle.mesh_text.specs.declared.verdict.Verdict.TheVariants.{Finished, RefusedAt, FullAt}
use Rattle.mesh_router.specs.declared.status.NodeStatus.{NodeStatus}
use Rattle.mesh_router.specs.declared.status.NodeStatus.TheVariants.{Done, Usage, BadLine, Full, ReadFault, WriteFault, NoMemory, LinkFault}
use Rattle.mesh_router.specs.Finds.{Find, AreNext, AreFound, arrivals}
use Rattle.mesh_router.specs.Text.{Run, run_of_script}
use Rattle.mesh_router.specs.Outputs.{Outputs, Adds, AddsPrefix}

-- the outputs and the answer of a run that was to come to this: its whole log and its verdict; or a
-- prefix of its log, and a fault or lack of memory
abbrev pub IsOutput : Outputs → Outputs → Run → NodeStatus → Type 0
IsOutput before now run Done = (run.verdict ≡ Finished) × Adds before now run.log
IsOutput before now run Usage = ⊥
IsOutput before now run (BadLine n) = (run.verdict ≡ RefusedAt n) × Adds before now run.log
IsOutput before now run (Full n) = (run.verdict ≡ FullAt n) × Adds before now run.log
IsOutput before now run ReadFault = AddsPrefix before now run.log
IsOutput before now run WriteFault = AddsPrefix before now run.log
IsOutput before now run NoMemory = AddsPrefix before now run.log
IsOutput before now run LinkFault = AddsPrefix before now run.log

-- the outputs and the answer of a run by what was found so far, whatever is found later
pub record IsTold (run : List Find → Run) (arrived left : Option (List Datagram))
    (before now : Outputs) (status : NodeStatus) : Type 0 where
  pub found : List Find
  pub taken : AreFound arrived left found
  pub told : (finds : List Find) → AreNext finds found → IsOutput before now (run finds) status

-- the run of a script by what its receive calls find: if it is known which datagrams arrive, these
-- are found
pub record IsScriptRun (script : List ℕ) (arrived : Option (List Datagram)) (before now : Outputs)
    (status : NodeStatus) : Type 0 where
  pub finds : List Find
  pub arrivals_are : IfSome arrived (λ ds. finds ≡ arrivals ds)
  pub output : IsOutput before now (run_of_script script finds) status
