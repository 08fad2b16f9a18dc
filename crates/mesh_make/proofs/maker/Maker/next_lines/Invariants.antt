use Rattle.std.proofs.Common.{◌≡◌, ◌<◌, ◌++◌, ◌-◌, length}
use Rattle.mesh_base.specs.declared.limits.TheConstants.{LINE_CAPACITY}
use Rattle.mesh_make.specs.Making.{still_to_come, IsMaking}
use Rattle.mesh_make.proofs.maker.Maker.next_lines.Given as goal

abbrev pub invariant-lines : goal.invariant-lines
invariant-lines l = record {
  making : IsMaking l.self;
  text : still_to_come l.fn.self ≡ (l.out).items ++ still_to_come l.self;
  some : 0 < length (l.out).items;
}

abbrev pub decreases-lines : goal.decreases-lines
decreases-lines l = LINE_CAPACITY - length (l.out).items
