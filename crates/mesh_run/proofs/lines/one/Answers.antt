use Rattle.std.proofs.Common.{◌≡◌, ◌≤◌, length, inl, Ok, Err, is_some, refl, subst, rules}
use Rattle.std.proofs.lemmas.Result.{MatchResult-weaker}
use Rattle.mesh_base.specs.declared.limits.TheConstants.{MOST_NODES}
use Rattle.mesh_io.proofs.Writing.{Keeps-same}
use Rattle.mesh_text.specs.Schedule.{RunState, line_of}
use Rattle.mesh_script.specs.Seen.{accepted_of}
use Rattle.mesh_run.proofs.Growth.{IsSized, done_grows}
use Rattle.mesh_run.proofs.Telling.{goes_accepted, stops_accepted, came-refused}
use Rattle.mesh_run.proofs.Ways.{way_where_read}
use Rattle.mesh_run.proofs.lines.one.Goals as goal

pub returns-in-Err-clause-comes : goal.returns-in-Err-clause-comes
returns-in-Err-clause-comes g c =
    let e : line_of c.args.at.now.mesh (is_some c.args.at.now.world) c.args.bytes.now ≡ Err c.in-Err.fault = search rules in
    (came-refused c.args.at.now c.args.bytes.now c.in-Err.fault e, refl, Keeps-same _)

pub returns-in-Ok-clause-comes : goal.returns-in-Ok-clause-comes
returns-in-Ok-clause-comes g c =
    let e : line_of c.args.at.now.mesh (is_some c.args.at.now.world) c.args.bytes.now ≡ Ok (accepted_of c.in-Ok.line) = search rules in
    MatchResult-weaker c.do_line.result c.do_line.ensures.comes
    (λ _ p. goes_accepted c.args.say c.args.at.now c.do_line.new.at c.args.bytes.now (accepted_of c.in-Ok.line) _ _ e p)
    (λ stop p. stops_accepted c.args.say c.args.at.now c.do_line.new.at c.args.bytes.now (accepted_of c.in-Ok.line) _ _ stop e p)

pub returns-in-Ok-clause-lines : goal.returns-in-Ok-clause-lines
returns-in-Ok-clause-lines g c =
    let e : line_of c.args.at.now.mesh (is_some c.args.at.now.world) c.args.bytes.now ≡ Ok (accepted_of c.in-Ok.line) = search rules in
    done_grows c.args.say c.args.at.now c.do_line.new.at c.args.bytes.now (accepted_of c.in-Ok.line) _ _ c.do_line.result (λ g. g.lines) (subst (λ (m : RunState). length m.mesh ≤ MOST_NODES) c.at.view_is c.mesh.ensures.is_mesh.few) e c.do_line.ensures.comes

pub returns-in-Ok-clause-grown : goal.returns-in-Ok-clause-grown
returns-in-Ok-clause-grown g c =
    let e : line_of c.args.at.now.mesh (is_some c.args.at.now.world) c.args.bytes.now ≡ Ok (accepted_of c.in-Ok.line) = search rules in
    done_grows c.args.say c.args.at.now c.do_line.new.at c.args.bytes.now (accepted_of c.in-Ok.line) _ _ c.do_line.result (λ g. g.grown (subst IsSized c.at.view_is c.started.ensures.sized)) (subst (λ (m : RunState). length m.mesh ≤ MOST_NODES) c.at.view_is c.mesh.ensures.is_mesh.few) e c.do_line.ensures.comes

pub returns-in-Ok-clause-steps : goal.returns-in-Ok-clause-steps
returns-in-Ok-clause-steps g c =
    let e : line_of c.args.at.now.mesh (is_some c.args.at.now.world) c.args.bytes.now ≡ Ok (accepted_of c.in-Ok.line) = search rules in
    done_grows c.args.say c.args.at.now c.do_line.new.at c.args.bytes.now (accepted_of c.in-Ok.line) _ _ c.do_line.result (λ g. g.steps) (subst (λ (m : RunState). length m.mesh ≤ MOST_NODES) c.at.view_is c.mesh.ensures.is_mesh.few) e c.do_line.ensures.comes

pub returns-in-Err-clause-way : goal.returns-in-Err-clause-way
returns-in-Err-clause-way g c = inl refl

pub returns-in-Ok-clause-way : goal.returns-in-Ok-clause-way
returns-in-Ok-clause-way g c =
    let e : line_of c.args.at.now.mesh (is_some c.args.at.now.world) c.args.bytes.now ≡ Ok (accepted_of c.in-Ok.line) = search rules in
    way_where_read c.args.at.now c.do_line.new.at c.args.bytes.now (accepted_of c.in-Ok.line) c.do_line.result e c.do_line.ensures.way
