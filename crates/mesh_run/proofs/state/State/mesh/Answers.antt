use Rattle.std.proofs.Common.{subst}
use Rattle.mesh_base.specs.Meshes.{IsMesh}
use Rattle.mesh_text.specs.Schedule.{RunState}
use Rattle.mesh_run.proofs.state.State.mesh.Goals as goal

pub returns-clause-is_mesh : goal.returns-clause-is_mesh
returns-clause-is_mesh g c = subst (λ (m : RunState). IsMesh m.mesh) c.self.view_is c.self.invariant.mesh
