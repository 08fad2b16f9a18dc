use Rattle.std.proofs.Common.{refl, arith}
use Rattle.mesh_router.proofs.Script.{told_end}
use Rattle.mesh_router.proofs.run.RoutingRunner.end.Goals as goal

pub returns : goal.returns
returns g c =
    let old = c.args.self.now in
    let x = g.L.Link.arrived old.link.now in
    let sent = g.L.Link.sent old.link.now in record {
      answered = record {
        kept = record {
          same_out = refl {a = old.out.ghost_name};
          same_link = refl {a = old.link.ghost_name};
          port = refl {a = g.L.Link.port old.link.now};
          writes = c.finish.ensures.later;
          sends = omega arith;
        };
        write = c.finish.ensures.write;
        send = λ e. absurd (c.finish.ensures.link e);
        no_write = c.finish.ensures.none;
        no_send = λ is. refl;
        words = c.finish.ensures.words;
        read = c.finish.ensures.read;
      };
      told = told_end old.at.now x (g.O.Sink.held old.out.now, sent) (g.O.Sink.held c.finish.new.out, sent) c.finish.result (c.finish.ensures.written sent);
    }
