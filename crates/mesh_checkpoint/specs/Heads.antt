-- The head of a body.
use Rattle.std.specs.Prelude.{◌<◌}
use Rattle.mesh_checkpoint.specs.declared.limits.TheConstants.{SUMS_END}
use Rattle.mesh_checkpoint.specs.declared.body.Head.{Head}

-- each sum is below its end
pub record AreSums (h : Head) : Type 0 where
  pub lines : h.lines < SUMS_END
  pub events : h.events < SUMS_END
  pub idle : h.idle < SUMS_END
  pub given : h.given < SUMS_END
  pub delivered : h.delivered < SUMS_END
  pub lost : h.lost < SUMS_END
  pub copied : h.copied < SUMS_END
