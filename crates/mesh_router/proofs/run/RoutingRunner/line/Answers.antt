use Rattle.std.proofs.Common.{refl, arith}
use Rattle.mesh_shell.specs.Pieces.{Whole}
use Rattle.mesh_router.proofs.Script.{line_goes}
use Rattle.mesh_router.proofs.run.RoutingRunner.line.Goals as goal

pub returns-in-Ok-clause-goes : goal.returns-in-Ok-clause-goes
returns-in-Ok-clause-goes g c =
    let old = c.args.self.now in
    let did = c.in-Ok.ensures.goes in
    let grown = c.in-Ok.ensures.grown in record {
      kept = record {
        same_out = refl {a = old.out.ghost_name};
        same_link = refl {a = old.link.ghost_name};
        port = c.one.ensures.port;
        writes = c.one.ensures.sink;
        sends = c.one.ensures.links;
      };
      found = did.found;
      taken = did.taken;
      log = did.log;
      adds = did.adds;
      goes = line_goes old.at.now c.one.new.at (Whole c.args.line.now) (g.L.Link.arrived old.link.now) (g.L.Link.arrived c.one.new.link) (g.O.Sink.held old.out.now, g.L.Link.sent old.link.now) (g.O.Sink.held c.one.new.out, g.L.Link.sent c.one.new.link) did;
      count = c.in-Ok.ensures.lines;
      grown = record { heard = omega (arith, grown.heard); sent = omega (arith, grown.sent); dropped = omega (arith, grown.dropped) };
      no_write = c.one.ensures.no_write (λ is. cc);
      no_send = c.one.ensures.no_send (λ is. cc);
    }
