use Rattle.std.proofs.Common.{sym, ◌∙◌}
use Rattle.aodv_wire.specs.declared.message.Message.TheVariants as messages
use Rattle.mesh_trail.specs.declared.said.Said.TheVariants as says
use Rattle.mesh_trail.proofs.Fronts.{says_as}
use Rattle.mesh_trail.proofs.said.read_said.Goals as goal

pub returns-in-Ok-Rreq-clause-value : goal.returns-in-Ok-Rreq-clause-value
returns-in-Ok-Rreq-clause-value c = λ _.
    (λ i. says.Request (c.node_of.ensures.value i) c.in-Ok-Rreq.m.osn c.in-Ok-Rreq.m.hops (c.node_of-in-Ok-Rreq.ensures.value i))
    ∙ sym (says_as c.args.mesh.now c.args.bytes.now c.in-Ok-Rreq.field-0 (messages.Rreq c.in-Ok-Rreq.m) c.in-Ok-Rreq.ensures.exact c.in-Ok-Rreq.field-0-is)

pub returns-in-Ok-Rrep-clause-value : goal.returns-in-Ok-Rrep-clause-value
returns-in-Ok-Rrep-clause-value c = λ _.
    (λ i. says.Reply (c.node_of-in-Ok-Rrep.ensures.value i) c.in-Ok-Rrep.m.dsn c.in-Ok-Rrep.m.hops)
    ∙ sym (says_as c.args.mesh.now c.args.bytes.now c.in-Ok-Rrep.field-0 (messages.Rrep c.in-Ok-Rrep.m) c.in-Ok-Rrep.ensures.exact c.in-Ok-Rrep.field-0-is)

pub returns-in-Ok-Rerr-clause-value : goal.returns-in-Ok-Rerr-clause-value
returns-in-Ok-Rerr-clause-value c = λ _.
    sym (says_as c.args.mesh.now c.args.bytes.now c.in-Ok-Rerr.field-0 (messages.Rerr c.in-Ok-Rerr.field-0-0) c.in-Ok-Rerr.ensures.exact c.in-Ok-Rerr.field-0-is)

pub returns-in-Ok-Parcel-clause-value : goal.returns-in-Ok-Parcel-clause-value
returns-in-Ok-Parcel-clause-value c = λ _.
    sym (says_as c.args.mesh.now c.args.bytes.now c.in-Ok-Parcel.field-0 (messages.Parcel c.in-Ok-Parcel.field-0-0) c.in-Ok-Parcel.ensures.exact c.in-Ok-Parcel.field-0-is)
