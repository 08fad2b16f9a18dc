-- The status with which the process ends, and the reason that it gives.
use Rattle.std.specs.Prelude.{ℕ, List, [], codes}
use Rattle.mesh_run.specs.Codes as runs
use Rattle.mesh_world.specs.declared.restored.Part.{Part}
use Rattle.mesh_world.specs.declared.restored.Part.TheVariants as parts
use Rattle.mesh_load.specs.declared.error.StateError.{StateError}
use Rattle.mesh_load.specs.declared.error.StateError.TheVariants as errors
use Rattle.mesh_state.specs.declared.status.StateStatus.{StateStatus}
use Rattle.mesh_state.specs.declared.status.StateStatus.TheVariants.{Run, BadState, TooBig}

abbrev pub code_of : StateStatus → ℕ
code_of (Run status) = runs.code_of status
code_of (BadState why) = 9
code_of TooBig = 10

abbrev pub part_reason : Part → List ℕ
part_reason (parts.Node x) = codes "a node's state is out of order\n"
part_reason parts.Item = codes "a packet is not as a node writes it\n"
part_reason parts.Request = codes "a request tells more than its sender knows\n"
part_reason parts.Reply = codes "a reply tells more than its sender knows\n"
part_reason (parts.Edge x d) = codes "a route is not backed by its next hop\n"

abbrev pub error_reason : StateError → List ℕ
error_reason errors.NotState = codes "no checkpoint\n"
error_reason errors.Length = codes "a checkpoint of another length than it states\n"
error_reason errors.Spelling = codes "a checkpoint that doesn't follow its table\n"
error_reason errors.Sums = codes "a checkpoint whose data aren't accounted for\n"
error_reason (errors.Unsound part) = part_reason part
error_reason errors.NoMemory = []

-- a line for standard error, if no text says the reason
abbrev pub reason_of : StateStatus → List ℕ
reason_of (Run status) = []
reason_of (BadState why) = error_reason why
reason_of TooBig = codes "the checkpoint would be too long\n"
