use Rattle.std.proofs.Common.{◌≤◌, ◌*◌, arith}
use Rattle.std.proofs.Math.Nat.{mul-le-mul}
use Rattle.mesh_grid.proofs.place.square.Goals as goal

pub returns-clause-few : goal.returns-clause-few
returns-clause-few c =
    let few : c.from-apart.result ≤ 4294967295 = omega arith in
    let product : c.from-apart.result * c.from-apart.result ≤ 4294967295 * 4294967295 = mul-le-mul few few in
    omega arith
