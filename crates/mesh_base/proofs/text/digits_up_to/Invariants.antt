-- The digits that are left, read on from the number so far, give the whole number.
use Rattle.std.proofs.Common.{◌≡◌, drop}
use Rattle.std.specs.Str.{all_ascii_digits}
use Rattle.mesh_base.specs.Numbers.{read_on}
use Rattle.mesh_base.proofs.text.digits_up_to.Given as goal

abbrev pub invariant-loop-b : goal.invariant-loop-b
invariant-loop-b l = record {
  value : read_on l.n (drop l.b-index l.ds) ≡ read_on 0 l.ds;
  digits : all_ascii_digits (drop l.b-index l.ds) ≡ all_ascii_digits l.ds;
}
