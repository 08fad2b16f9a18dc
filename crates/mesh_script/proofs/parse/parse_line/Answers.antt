use Rattle.std.proofs.Common.{◌≤◌, length, rules, sym, Ok}
use Rattle.mesh_base.specs.declared.limits.TheConstants.{MOST_NODES}
use Rattle.mesh_text.specs.Schedule.{line_of}
use Rattle.mesh_script.proofs.Allowed.{line_of_said, allowed, echo}
use Rattle.mesh_script.proofs.parse.parse_line.Goals as goal

pub returns-in-Err-clause-value : goal.returns-in-Err-clause-value
unfolding line_of
returns-in-Err-clause-value c = let e = rw c.in-Err.is at c.shape_of.ensures in search rules

read : goal.returns-in-Ok-clause-value
read c =
    let few : length c.args.mesh.now ≤ MOST_NODES = c.len-size.ensures.is_mesh.few in
    let shape = rw c.in-Ok.is at c.shape_of.ensures in
    line_of_said c.args.mesh.now c.args.started c.args.bytes.now c.in-Ok.said _ few shape c.line_at.ensures

pub returns-in-Ok-clause-value : goal.returns-in-Ok-clause-value
returns-in-Ok-clause-value c = read c

pub returns-in-Ok-clause-allowed : goal.returns-in-Ok-clause-allowed
returns-in-Ok-clause-allowed c =
    let few : length c.args.mesh.now ≤ MOST_NODES = c.len-size.ensures.is_mesh.few in
    allowed c.args.mesh.now c.args.started c.args.bytes.now c.line_at.result few (read c)

pub returns-in-Ok-clause-echo : goal.returns-in-Ok-clause-echo
returns-in-Ok-clause-echo c = echo c.args.mesh.now c.args.started c.args.bytes.now c.line_at.result (read c)

pub returns-in-Some-clause-value : goal.returns-in-Some-clause-value
returns-in-Some-clause-value c = sym (c.in-Some.ensures c.args.started)

pub returns-in-Some-clause-allowed : goal.returns-in-Some-clause-allowed
returns-in-Some-clause-allowed c =
    let few : length c.args.mesh.now ≤ MOST_NODES = c.len-size.ensures.is_mesh.few in
    allowed c.args.mesh.now c.args.started c.args.bytes.now (Ok c.in-Some.line) few (sym (c.in-Some.ensures c.args.started))

pub returns-in-Some-clause-echo : goal.returns-in-Some-clause-echo
returns-in-Some-clause-echo c = echo c.args.mesh.now c.args.started c.args.bytes.now (Ok c.in-Some.line) (sym (c.in-Some.ensures c.args.started))
