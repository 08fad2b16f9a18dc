use Rattle.std.proofs.Common.{refl, arith}
use Rattle.mesh_checkpoint.proofs.parts.DatumPart.pass.Goals as goal

pub returns : goal.returns
returns c = record { value = c.in_ok-_body._body.now; read = c.in_ok-_body.ensures.value; count = refl; few = omega (arith, c.in_ok-_body.ensures.shorter) }
