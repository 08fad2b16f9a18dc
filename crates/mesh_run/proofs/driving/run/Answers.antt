use Rattle.std.proofs.Common.{IfSome, subst}
use Rattle.mesh_text.specs.Schedule.{RunState, opening}
use Rattle.mesh_run.specs.declared.say.Say.{Say}
use Rattle.mesh_run.specs.Outputs.{IsOutputFrom}
use Rattle.mesh_run.proofs.EveryInput.{loop_free_told, accounted_told, named_told}
use Rattle.mesh_run.proofs.driving.run.Goals as goal

pub returns-clause-known : goal.returns-clause-known
returns-clause-known g c =
    let told : Say → RunState → Type 0 =
    λ s m. IfSome (g.I.Source.left c.args.input.now) (λ bytes. IsOutputFrom s m bytes (g.I.Source.left c.do_input.new.input) (g.O.Sink.held c.args.out.now) (g.O.Sink.held c.do_input.new.out) c.do_input.result) in
    subst (λ s. told s (opening c.args.variant)) c.by.ensures (subst (λ m. told c.by.result m) c.with.ensures c.do_input.ensures.known)

pub returns-clause-loop_free : goal.returns-clause-loop_free
returns-clause-loop_free g c = loop_free_told c.args.variant (g.I.Source.left c.args.input.now)

pub returns-clause-accounted : goal.returns-clause-accounted
returns-clause-accounted g c = accounted_told c.args.variant (g.I.Source.left c.args.input.now)

pub returns-clause-named : goal.returns-clause-named
returns-clause-named g c = named_told c.args.variant (g.I.Source.left c.args.input.now)
