use Rattle.std.proofs.Common.{refl, subst, arith}
use Rattle.mesh_grammar.specs.declared.fault.BadWhy.{BadWhy}
use Rattle.mesh_router.specs.Text.{refused_run}
use Rattle.mesh_router.specs.Outputs.{Outputs}
use Rattle.mesh_router.specs.Output.{IsOutput}
use Rattle.mesh_router.proofs.Script.{told_past}
use Rattle.mesh_router.proofs.run.RoutingRunner.past.Goals as goal

pub returns : goal.returns
returns g c =
    let old = c.args.self.now in
    let x = g.L.Link.arrived old.link.now in
    let sent = g.L.Link.sent old.link.now in
    let a : Outputs = (g.O.Sink.held old.out.now, sent) in
    let b : Outputs = (g.O.Sink.held c.refuse.new.out, sent) in
    let told = subst (λ (why : BadWhy). IsOutput a b (refused_run old.at.now why) c.refuse.result) c.why_past.ensures (c.refuse.ensures.written sent) in record {
      answered = record {
        kept = record {
          same_out = refl {a = old.out.ghost_name};
          same_link = refl {a = old.link.ghost_name};
          port = refl {a = g.L.Link.port old.link.now};
          writes = c.refuse.ensures.later;
          sends = omega arith;
        };
        write = c.refuse.ensures.write;
        send = λ e. absurd (c.refuse.ensures.link e);
        no_write = c.refuse.ensures.none;
        no_send = λ is. refl;
        words = c.refuse.ensures.words;
        read = c.refuse.ensures.read;
      };
      told = told_past old.at.now c.args.limit x a b c.refuse.result told;
      early = c.refuse.ensures.done;
    }
