-- What holds of the run of every input in every variant, so in the one that a number names.
use Rattle.std.proofs.Common.{ℕ, List, Option, Some, None}
use Rattle.std.specs.Prelude.{IfSome}
use Rattle.mesh_base.specs.declared.events.Variant.{Variant}
use Rattle.mesh_text.specs.EveryWorld.{IsLoopFreeRun, IsAccountedRun}
use Rattle.mesh_text.specs.NamedData.{IsNamedRun}
use Rattle.mesh_text.proofs.NamedRuns.{each_datum_is_named}
use Rattle.mesh_text.proofs.RunLaws.{runs_are_loop_free, each_datum_is_accounted_for}
use Rattle.mesh_blocks.specs.declared.below.Below.TheVariants.{Blocks}
use Rattle.mesh_blocks.specs.Outputs.{IsWatchedRun}
use Rattle.mesh_blocks.proofs.Runs.{is_watched}

pub loop_free : (o : Option Variant) (bytes : List ℕ) → IfSome o (λ v. IsLoopFreeRun v bytes)
loop_free None bytes = tt
loop_free (Some v) bytes = λ k d. runs_are_loop_free v bytes k d

pub accounted : (o : Option Variant) (bytes : List ℕ) → IfSome o (λ v. IsAccountedRun v bytes)
accounted None bytes = tt
accounted (Some v) bytes = each_datum_is_accounted_for v bytes

pub named : (o : Option Variant) (bytes : List ℕ) → IfSome o (λ v. IsNamedRun v bytes)
named None bytes = tt
named (Some v) bytes = each_datum_is_named v bytes

pub watched : (o : Option Variant) (bytes : List ℕ) → IfSome o (λ v. IsWatchedRun Blocks v bytes)
watched None bytes = tt
watched (Some v) bytes = is_watched Blocks v bytes
