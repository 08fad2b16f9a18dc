use Rattle.std.proofs.Common.{sym, arith}
use Rattle.mesh_checkpoint.specs.Views.{item_of}
use Rattle.mesh_checkpoint.proofs.parts.ItemPart.pass.Goals as goal

pub returns : goal.returns
returns c = record { value = item_of c.in_ok-item.item; read = c.in_ok-item.ensures.value; count = sym c.data_in.ensures.value; few = omega (arith, c.in_ok-item.ensures.shorter, c.data_in.ensures.few) }
