use Rattle.std.proofs.Common.{◌-◌, length}
use Rattle.mesh_radio.specs.Casts.{IsFrom, NoneUpTo}
use Rattle.mesh_radio.proofs.casts.walk.Given as goal

-- no copy from the id on is of a cast before the index, which is not before the id
abbrev pub invariant-casts : goal.invariant-casts
invariant-casts l = record {
  none : NoneUpTo l.casts.entries l.id l.index;
  from : IsFrom l.casts.entries l.index l.id;
}

abbrev pub decreases-casts : goal.decreases-casts
decreases-casts l = length l.casts.entries - l.index
