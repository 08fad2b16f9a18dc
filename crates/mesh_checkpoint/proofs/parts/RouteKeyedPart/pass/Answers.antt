use Rattle.std.proofs.Common.{refl, sym, ◌∙◌, arith}
use Rattle.mesh_checkpoint.proofs.parts.RouteKeyedPart.pass.Goals as goal

pub returns : goal.returns
returns c =
    let head = c.in_ok-head.head in
    record {
      passed = record {
        value = record {
          dest = head.dest;
          number = head.number;
          known = head.known;
          valid = head.valid;
          hops = head.hops;
          next = head.next;
          precursors = (c.in_ok-rest.ensures).value;
        };
        read = c.in_ok-head.ensures.value ∙ rw (sym c.from.ensures, (c.in_ok-rest.ensures).read) refl;
        count = refl;
        few = omega (arith, (c.in_ok-rest.ensures).few, c.in_ok-head.ensures.shorter);
      };
      same = refl;
      small = omega (arith, c.in_ok-head.ensures.small);
    }
