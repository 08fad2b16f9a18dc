use Rattle.std.proofs.Common.{subst, sym, ap, ◌∙◌, arith, ◌+◌, ◌<◌, ◌≡◌}
use Rattle.std.specs.Prelude.{is_some}
use Rattle.aodv_table.proofs.Searches.{Found, by_read, valid_below, found_none, found_to, found_one, found_other, found_all}
use Rattle.aodv_table.proofs.table.Table.through.Goals as goal
use Rattle.aodv_table.proofs.table.Table.through.Goals.{then-is_some, else-is_some}

pub loop-d-init : goal.loop-d-init
loop-d-init g c = found_none (g.Self.Table.entries c.args.self.now) c.args.next c.new-found.result c.new-found.ensures

pub prove-unreachable-requires : goal.prove-unreachable-requires
prove-unreachable-requires g c =
    let below : c.in-Some.d < g.Self.Table.nodes c.args.self.now =
    valid_below (g.Self.Table.entries c.args.self.now) c.valid-valid.result (g.Self.Table.nodes c.args.self.now) c.in-Some.d c.nodes-nodes.ensures.below c.valid-valid.ensures c.in-Some.ensures.least.1 in
    let same : c.nodes-nodes.result ≡ g.Self.Table.nodes c.args.self.now = c.nodes-nodes.ensures.value in
    omega (arith, c.if-prove.true)

pub loop-d-preserved : goal.loop-d-preserved
loop-d-preserved g c =
    let rt = g.Self.Table.entries c.args.self.now in
    let least = c.in-Some.ensures.least in
    let here = found_to rt c.args.next c.loop-d.start c.in-Some.d c.loop-d.found c.valid-valid.result c.valid-valid.ensures least.0 least.2 c.loop-d.invariant in
    elim c.if-is_some.branch [
      | then-is_some w ↦ found_one rt c.args.next c.in-Some.d c.loop-d.found c.if-is_some.found (w.found-is ∙ w.add.ensures) (ap is_some (sym (by_read rt c.in-Some.d c.args.next c.get.result c.entry_by.result c.get.ensures.value c.entry_by.ensures)) ∙ sym c.is_some.ensures ∙ w.if-is_some.true) here
      | else-is_some w ↦
          subst (Found rt c.args.next (c.in-Some.d + 1)) (sym w.found-is)
          (found_other rt c.args.next c.in-Some.d c.loop-d.found (ap is_some (sym (by_read rt c.in-Some.d c.args.next c.get.result c.entry_by.result c.get.ensures.value c.entry_by.ensures)) ∙ sym c.is_some.ensures ∙ w.if-is_some.false) here)
    ]

pub returns : goal.returns
returns g c = found_all (g.Self.Table.entries c.args.self.now) c.args.next c.loop-d.start c.loop-d.found c.valid-valid.result c.valid-valid.ensures c.in_default.ensures.least c.loop-d.invariant
