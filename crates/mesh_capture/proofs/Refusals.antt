-- A refusal is said, or a write failed.
use Rattle.std.proofs.Common.{◌≢◌, ℕ, List, Option, refl}
use Rattle.mesh_capture.specs.Outputs.{IsRefused}
use Rattle.mesh_capture.specs.declared.status.CaptureStatus.{CaptureStatus}
use Rattle.mesh_capture.specs.declared.status.CaptureStatus.TheVariants.{Done, Usage, BadLine, ReadFault, WriteFault, NoMemory}

pub not_silent : (before now : Option (List ℕ)) (n : ℕ) (s : CaptureStatus) → IsRefused before now n s → ((m : ℕ) → s ≢ BadLine m) → s ≢ WriteFault → ⊥
not_silent before now n Done said bad fault = said
not_silent before now n Usage said bad fault = said
not_silent before now n (BadLine m) said bad fault = bad m refl
not_silent before now n ReadFault said bad fault = said
not_silent before now n WriteFault said bad fault = fault refl
not_silent before now n NoMemory said bad fault = said
