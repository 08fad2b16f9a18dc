use Rattle.std.proofs.Common.{◌≡◌, ◌<◌, ◌≤◌, ◌+◌, length, refl, sym, subst, arith, rules}
use Rattle.std.proofs.lemmas.Option.{slice_get_read}
use Rattle.aodv_model.specs.declared.entry.Flag.TheVariants.{Val}
use Rattle.mesh_world.specs.Seen.{WorldSeen}
use Rattle.mesh_trail.specs.Walks.{IsRouteWalk}
use Rattle.mesh_trail.proofs.Nodes.{node_at, rows_at}
use Rattle.mesh_trail.proofs.Starts.{route_short, route_walk, table_at}
use Rattle.mesh_trail.proofs.trail.Trail.walk.Goals as goal

pub returns-clause-walk : goal.returns-clause-walk
returns-clause-walk c =
    let p = c.self.inside.parts in
    let below = subst (λ (w : WorldSeen). c.args.node < length w.mesh) (sym c.self.view_is) c.requires.node in
    let n = c.index-lists.result.now in
    let at = node_at p.nodes.items p.world p.casts.items c.args.node n c.self.invariant below c.index-lists.ensures in
    let size = rows_at p.nodes.items p.world p.casts.items c.args.node n c.self.invariant at in
    let dest = subst (λ (w : WorldSeen). c.args.dest < length w.mesh) (sym c.self.view_is) c.requires.dest in
    let here = slice_get_read n.entries.items (length n.entries.items) c.args.dest c.index.result.now refl (omega arith) c.index.ensures in
    let e = c.in_ok-entry.entry in
    let there = table_at p.world.world c.args.node p.world.mesh c.node.result.now c.args.dest e c.node.ensures.node c.in_ok-entry.ensures in
    let valid : e.flag ≡ Val = search rules in
    subst (λ (w : WorldSeen). IsRouteWalk w.world c.args.node c.args.dest c.as_slice.result.now) c.self.view_is
    (route_walk p.world p.nodes.items p.casts.items c.args.node c.args.dest n c.index.result.now c.as_slice.result.now e c.self.invariant at here c.as_slice.ensures there valid)

pub returns-clause-short : goal.returns-clause-short
returns-clause-short c =
    let p = c.self.inside.parts in
    let below = subst (λ (w : WorldSeen). c.args.node < length w.mesh) (sym c.self.view_is) c.requires.node in
    let n = c.index-lists.result.now in
    let at = node_at p.nodes.items p.world p.casts.items c.args.node n c.self.invariant below c.index-lists.ensures in
    let size = rows_at p.nodes.items p.world p.casts.items c.args.node n c.self.invariant at in
    let dest = subst (λ (w : WorldSeen). c.args.dest < length w.mesh) (sym c.self.view_is) c.requires.dest in
    let here = slice_get_read n.entries.items (length n.entries.items) c.args.dest c.index.result.now refl (omega arith) c.index.ensures in
    let e = c.in_ok-entry.entry in
    let there = table_at p.world.world c.args.node p.world.mesh c.node.result.now c.args.dest e c.node.ensures.node c.in_ok-entry.ensures in
    let valid : e.flag ≡ Val = search rules in
    subst (λ (w : WorldSeen). length c.as_slice.result.now ≤ length w.mesh + 1) c.self.view_is
    (route_short p.world c.args.node c.args.dest c.as_slice.result.now c.self.invariant.sound
    (route_walk p.world p.nodes.items p.casts.items c.args.node c.args.dest n c.index.result.now c.as_slice.result.now e c.self.invariant at here c.as_slice.ensures there valid))
