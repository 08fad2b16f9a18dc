-- What holds of the run of every input, so of that of an input that a source tells.
use Rattle.std.proofs.Common.{ℕ, List, Option, Some, None}
use Rattle.std.specs.Prelude.{IfSome}
use Rattle.mesh_base.specs.declared.events.Variant.{Variant}
use Rattle.mesh_text.specs.EveryWorld.{IsLoopFreeRun, IsAccountedRun}
use Rattle.mesh_text.specs.NamedData.{IsNamedRun}
use Rattle.mesh_text.proofs.NamedRuns.{each_datum_is_named}
use Rattle.mesh_text.proofs.RunLaws.{runs_are_loop_free, each_datum_is_accounted_for}

pub loop_free_told : (variant : Variant) (left : Option (List ℕ)) → IfSome left (IsLoopFreeRun variant)
loop_free_told variant None = tt
loop_free_told variant (Some bytes) = λ k d. runs_are_loop_free variant bytes k d

pub accounted_told : (variant : Variant) (left : Option (List ℕ)) → IfSome left (IsAccountedRun variant)
accounted_told variant None = tt
accounted_told variant (Some bytes) = each_datum_is_accounted_for variant bytes

pub named_told : (variant : Variant) (left : Option (List ℕ)) → IfSome left (IsNamedRun variant)
named_told variant None = tt
named_told variant (Some bytes) = each_datum_is_named variant bytes
