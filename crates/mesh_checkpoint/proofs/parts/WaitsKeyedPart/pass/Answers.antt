use Rattle.std.proofs.Common.{refl, ◌∙◌, arith}
use Rattle.mesh_checkpoint.proofs.Counts.{ones}
use Rattle.mesh_checkpoint.proofs.parts.WaitsKeyedPart.pass.Goals as goal

pub returns : goal.returns
returns c =
    let head = c.in_ok-head.head in
    record {
      passed = record {
        value = record {
          dest = head.dest;
          needs_request = head.needs_request;
          bodies = (c.in_ok-amount.ensures).value;
        };
        read = c.in_ok-head.ensures.value ∙ rw (c.in_ok-amount.ensures).read refl;
        count = ones (c.in_ok-amount.ensures).value ∙ (c.in_ok-amount.ensures).count;
        few = omega (arith, (c.in_ok-amount.ensures).few, c.in_ok-head.ensures.shorter);
      };
      same = refl;
      small = omega (arith, c.in_ok-head.ensures.small);
    }
