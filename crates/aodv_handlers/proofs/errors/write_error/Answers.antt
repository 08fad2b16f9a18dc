use Rattle.std.proofs.Common.{◌≡◌, ◌<◌, ◌≤◌, ◌+◌, ℕ, length, List, ◌∙◌, sym, ap, subst, arith, lit<}
use Rattle.std.specs.FinMap as maps
use Rattle.arrayvec.specs.ArrayVec.{array_vec_len}
use Rattle.mesh_base.specs.declared.addr.Addr.{Addr}
use Rattle.mesh_base.specs.declared.events.Variant.{Variant}
use Rattle.mesh_base.specs.Meshes.{Nodes}
use Rattle.aodv_wire.specs.declared.message.Message.TheVariants as messages
use Rattle.aodv_wire.specs.Encodes.{Encodes, encoding}
use Rattle.aodv_model.specs.Tables.{Table, Dests}
use Rattle.aodv_handlers.specs.Parts.{named_dests}
use Rattle.aodv_meaning.specs.Sent.{pairs_of}
use Rattle.aodv_handlers.proofs.RouteErrors.{HasTold, dest_below, told_none, told_more, told_same, told_all, writable}
use Rattle.aodv_handlers.proofs.errors.write_error.Goals.{then-is_named, else-is_named}
use Rattle.aodv_handlers.proofs.errors.write_error.Goals as goal

pub loop-k-init : goal.loop-k-init
loop-k-init g c = told_none c.args.mesh.now c.args.variant (g.T.Table.entries c.args.table.now) c.args.dests.now c.new-pairs.result.items c.new-pairs.ensures

pub is_named-requires : goal.is_named-requires
is_named-requires g c =
    let below = dest_below (length c.args.mesh.now) c.args.dests.now c.loop-k.k c.pair-d.result c.requires.below c.pair-d.ensures in
    omega (arith, below, c.requires.nodes)

pub at-requires : goal.at-requires
at-requires g c = dest_below (length c.args.mesh.now) c.args.dests.now c.loop-k.k c.pair-d.result c.requires.below c.pair-d.ensures

pub push-requires : goal.push-requires
push-requires g c =
    let room : array_vec_len c.loop-k.pairs < 200 = omega (arith, c.loop-k.invariant.few, c.loop-k-test.true, c.len-k-end.ensures.most) in
    (lit< tt, room)

pub loop-k-preserved : goal.loop-k-preserved
loop-k-preserved g c =
    let mesh = c.args.mesh.now in
    let rt = g.T.Table.entries c.args.table.now in
    elim c.if-is_named.branch [
      | then-is_named w ↦
          told_more mesh c.args.variant rt c.args.dests.now c.loop-k.k c.loop-k.pairs.items c.if-is_named.pairs.items c.pair-d.result (w.at.result, c.pair-d.result.1) c.loop-k.invariant c.pair-d.ensures
          (sym c.is_named.ensures ∙ w.if-is_named.true)
          (λ i. (record { 0 = w.at.ensures i }, c.pair-d.result.1))
          (ap (λ ps. ps.items) w.pairs-is ∙ w.push.ensures.items)
      | else-is_named w ↦
          subst (λ ps. HasTold mesh c.args.variant rt c.args.dests.now (c.loop-k.k + 1) ps.items) (sym w.pairs-is)
          (told_same mesh c.args.variant rt c.args.dests.now c.loop-k.k c.loop-k.pairs.items c.pair-d.result c.loop-k.invariant c.pair-d.ensures
          (sym c.is_named.ensures ∙ w.if-is_named.false))
    ]

ended : (mesh : Nodes) (v : Variant) (rt : Table) (dests : Dests) (k n : ℕ) (pairs slice : List (Addr × ℕ)) → HasTold mesh v rt dests k pairs → n ≡ length (maps.entries dests) → n ≤ k → slice ≡ pairs → slice ≡ pairs_of mesh (named_dests v rt dests)
ended mesh v rt dests k n pairs slice has n_is end is = is ∙ told_all mesh v rt dests k pairs has (omega arith)

pub write_rerr-requires : goal.write_rerr-requires
write_rerr-requires g c =
    let mesh = c.args.mesh.now in
    let rt = g.T.Table.entries c.args.table.now in
    writable mesh c.args.variant rt c.args.dests.now c.as_slice.result.now c.len-rising.ensures.is_mesh c.requires.below c.requires.some
    (ended mesh c.args.variant rt c.args.dests.now c.loop-k.k c.len-k-end.result c.loop-k.pairs.items c.as_slice.result.now c.loop-k.invariant c.len-k-end.ensures.value c.loop-k-test.false c.as_slice.ensures.value)

pub returns : goal.returns
returns g c =
    let mesh = c.args.mesh.now in
    let rt = g.T.Table.entries c.args.table.now in
    let pairs = ended mesh c.args.variant rt c.args.dests.now c.loop-k.k c.len-k-end.result c.loop-k.pairs.items c.as_slice.result.now c.loop-k.invariant c.len-k-end.ensures.value c.loop-k-test.false c.as_slice.ensures.value in
    record {
      written = c.write_rerr.ensures.written ∙ ap (λ ps. encoding (messages.Rerr ps)) pairs;
      encodes = subst (λ ps. Encodes c.write_rerr.new.out.items (messages.Rerr ps)) pairs c.write_rerr.ensures.encodes;
    }
