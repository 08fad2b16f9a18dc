use Rattle.std.proofs.Common.{subst, sym, ◌∙◌, arith, ◌+◌, ◌<◌, ◌≡◌, refl}
use Rattle.std.proofs.lemmas.Bool.{true≢false}
use Rattle.aodv_table.proofs.Searches.{Raised, by_read, valid_below, raised_none, raised_to, raised_one, raised_other, raised_all, raised_room, raised_above, least_past}
use Rattle.aodv_table.proofs.table.Table.dests_via.Goals as goal
use Rattle.aodv_table.proofs.table.Table.dests_via.Goals.{in-Some-entry_by+in-Some-inc, in_default-entry_by}

pub loop-d-init : goal.loop-d-init
loop-d-init g c = raised_none (g.Self.Table.entries c.args.self.now) c.args.next c.clear.new.self c.clear.ensures.map

pub prove-unreachable-requires : goal.prove-unreachable-requires
prove-unreachable-requires g c =
    let below : c.in-Some.d < g.Self.Table.nodes c.args.self.now =
    valid_below (g.Self.Table.entries c.args.self.now) c.valid-valid.result (g.Self.Table.nodes c.args.self.now) c.in-Some.d c.nodes-nodes.ensures.below c.valid-valid.ensures c.in-Some.ensures.least.1 in
    let same : c.nodes-nodes.result ≡ g.Self.Table.nodes c.args.self.now = c.nodes-nodes.ensures.value in
    omega (arith, c.if-prove.true)

pub push-requires-clause-room : goal.push-requires-clause-room
push-requires-clause-room g c =
    let rt = g.Self.Table.entries c.args.self.now in
    let least = c.in-Some.ensures.least in
    let few : c.in-Some.d < 200 = omega (arith, c.nodes-nodes.ensures.most, c.if-prove.false) in
    raised_room rt c.args.next c.in-Some.d c.loop-d.out few
    (raised_to rt c.args.next c.loop-d.start c.in-Some.d c.loop-d.out c.valid-valid.result c.valid-valid.ensures least.0 least.2 c.loop-d.invariant)

pub push-requires-clause-above : goal.push-requires-clause-above
push-requires-clause-above g c =
    let rt = g.Self.Table.entries c.args.self.now in
    let least = c.in-Some.ensures.least in
    raised_above rt c.args.next c.in-Some.d c.loop-d.out
    (raised_to rt c.args.next c.loop-d.start c.in-Some.d c.loop-d.out c.valid-valid.result c.valid-valid.ensures least.0 least.2 c.loop-d.invariant)

pub returns-in-None : goal.returns-in-None
returns-in-None g c =
    let rt = g.Self.Table.entries c.args.self.now in
    let least = c.in-Some.ensures.least in
    least_past rt c.args.next c.in-Some.d c.in-Some-entry_by.entry c.loop-d.out
    (sym c.in-Some-entry_by.is ∙ by_read rt c.in-Some.d c.args.next c.get.result c.entry_by.result c.get.ensures.value c.entry_by.ensures) (c.in-None.ensures.greatest.0 refl)
    (raised_to rt c.args.next c.loop-d.start c.in-Some.d c.loop-d.out c.valid-valid.result c.valid-valid.ensures least.0 least.2 c.loop-d.invariant)

pub loop-d-preserved : goal.loop-d-preserved
loop-d-preserved g c =
    let rt = g.Self.Table.entries c.args.self.now in
    let least = c.in-Some.ensures.least in
    let here = raised_to rt c.args.next c.loop-d.start c.in-Some.d c.loop-d.out c.valid-valid.result c.valid-valid.ensures least.0 least.2 c.loop-d.invariant in
    elim c.match-entry_by.branch [
      | in-Some-entry_by+in-Some-inc w ↦
          raised_one rt c.args.next c.in-Some.d w.in-Some-inc.n w.in-Some-entry_by.entry c.loop-d.out c.match-entry_by.out
          (sym w.in-Some-entry_by.is ∙ by_read rt c.in-Some.d c.args.next c.get.result c.entry_by.result c.get.ensures.value c.entry_by.ensures)
          w.in-Some-inc.ensures.value (λ full. true≢false (w.in-Some-inc.ensures.greatest.1 full)) (w.out-is ∙ w.push.ensures.map) here
      | in_default-entry_by w ↦
          subst (Raised rt c.args.next (c.in-Some.d + 1)) (sym w.out-is)
          (raised_other rt c.args.next c.in-Some.d c.loop-d.out (sym w.in_default-entry_by.is ∙ by_read rt c.in-Some.d c.args.next c.get.result c.entry_by.result c.get.ensures.value c.entry_by.ensures) here)
    ]

pub returns : goal.returns
returns g c = raised_all (g.Self.Table.entries c.args.self.now) c.args.next c.loop-d.start c.loop-d.out c.valid-valid.result c.valid-valid.ensures c.in_default.ensures.least c.loop-d.invariant
