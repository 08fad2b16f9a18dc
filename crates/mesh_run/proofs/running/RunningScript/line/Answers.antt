use Rattle.std.proofs.Common.{◌≡◌, ◌<◌, ◌≤◌, ◌+◌, ◌*◌, ◌^◌, Result, max, length, refl, sym, subst, arith}
use Rattle.mesh_shell.specs.Outputs.{IsLineRun}
use Rattle.mesh_shell.specs.Pieces.{Whole}
use Rattle.mesh_text.specs.Schedule.{RunState}
use Rattle.mesh_text.specs.Text.{outcome_of_piece, outcome_in_run}
use Rattle.mesh_run.specs.Outputs.{says_lines}
use Rattle.mesh_run.specs.Running.{said, outcome_as, moved}
use Rattle.mesh_run.proofs.Settled.{can_be_told, line_told, line_cause}
use Rattle.mesh_run.proofs.running.RunningScript.line.Goals as goal

pub one-did-requires : goal.one-did-requires
one-did-requires g c = record {
  few = omega (arith, c.requires.room.lines);
  steps = omega (arith, c.requires.room.steps);
  short = c.requires.short;
}

pub returns-clause-comes : goal.returns-clause-comes
returns-clause-comes g c =
    let r = c.args.self.now in
    let k = outcome_of_piece r.at (Whole c.args.line.now) in
    subst (λ (n : RunState). IsLineRun (outcome_as (moved r) (said (says_lines r.say) (outcome_in_run r.at k))) (moved r n) (g.O.Sink.held c.args.out.now) (g.O.Sink.held c.settle.new.out) c.settle.result) (sym c.settle.ensures.same)
    (line_told (says_lines r.say) (moved r) r.at c.one-did.new.at k _ _ _ c.one-did.result c.settle.result (rw c.says_lines.ensures at c.one-did.ensures.comes) c.settle.ensures.written)
