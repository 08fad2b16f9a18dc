use Rattle.std.proofs.Common.{ap, ◌∙◌}
use Rattle.std.specs.FinMap as maps
use Rattle.mesh_base.specs.Members.{NodeIds}
use Rattle.aodv_table.proofs.Changes.{pre_joined, none_joined}
use Rattle.aodv_table.proofs.table.Table.add_pre.Goals as goal

pub returns-in-Some-clause-entries : goal.returns-in-Some-clause-entries
returns-in-Some-clause-entries g c =
    c.put.ensures.entries
    ∙ ap (λ (s : NodeIds). maps.insert (g.Self.Table.entries c.args.self.now) c.args.d (record (c.in-Some.entry) { pre = s })) c.join.ensures
    ∙ pre_joined (g.Self.Table.entries c.args.self.now) c.args.d c.args.p.now c.in-Some.entry c.in-Some.ensures.value

pub returns-in_default-clause-entries : goal.returns-in_default-clause-entries
returns-in_default-clause-entries g c = none_joined (g.Self.Table.entries c.args.self.now) c.args.d c.args.p.now c.in_default.ensures.value
