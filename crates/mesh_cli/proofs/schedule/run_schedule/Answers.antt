use Rattle.std.proofs.Common.{IfSome, subst}
use Rattle.mesh_text.specs.Schedule.{RunState, opening}
use Rattle.mesh_run.specs.declared.say.Say.{Say}
use Rattle.mesh_run.specs.Outputs.{IsOutputFrom}
use Rattle.mesh_cli.proofs.schedule.run_schedule.Goals as goal

pub returns-clause-known : goal.returns-clause-known
returns-clause-known g c =
    let told : Say → RunState → Type 0 =
    λ s m. IfSome (g.I.Source.left c.args.input.now) (λ bytes. IsOutputFrom s m bytes (g.I.Source.left c.do_input-status.new.input) (g.O.Sink.held c.args.out.now) (g.O.Sink.held c.do_input-status.new.out) c.do_input-status.result) in
    subst (λ s. told s (opening c.args.variant)) c.by.ensures (subst (λ m. told c.by.result m) c.with.ensures c.do_input-status.ensures.known)
