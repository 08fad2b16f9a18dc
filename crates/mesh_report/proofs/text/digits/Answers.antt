use Rattle.std.proofs.Common.{◌<◌, arith}
use Rattle.mesh_report.proofs.HexBytes.{hex_is}
use Rattle.mesh_report.proofs.text.digits.Goals as goal

pub returns : goal.returns
returns c = let byte : c.args.b < 256 = omega arith in hex_is c.args.b byte
