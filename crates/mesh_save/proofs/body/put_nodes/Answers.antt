use Rattle.std.proofs.Common.{◌≡◌, ◌∙◌, ap, sym, subst, length, arith}
use Rattle.std.proofs.lemmas.Option.{slice_get_within}
use Rattle.mesh_world.specs.Seen.{node_in}
use Rattle.mesh_checkpoint.specs.Checkpoint.{Node}
use Rattle.mesh_checkpoint.specs.Points.{node_of}
use Rattle.mesh_checkpoint.proofs.Written.{node_again}
use Rattle.mesh_save.specs.Bytes.{node_bytes}
use Rattle.mesh_save.specs.Narrow.{IsNarrow}
use Rattle.mesh_save.proofs.Puts.{next, all}
use Rattle.mesh_save.proofs.Worlds.{narrow_next}
use Rattle.mesh_save.proofs.body.put_nodes.Goals as goal

pub loop-i-init : goal.loop-i-init
loop-i-init g c = (g.met.P.Encoder.nothing _, λ k n lt there. absurd (omega (arith, lt)))

pub loop-i-preserved : goal.loop-i-preserved
loop-i-preserved g c =
    let mesh = c.args.world.now.mesh in
    let nodes = (c.args.world.now.world).nodes in
    let seen = c.node.result.now in
    let count : c.len-nodes.result ≡ length mesh = c.len-nodes.ensures.value ∙ ap length c.mesh.ensures.value in
    let one = subst (λ (m : Node). g.P.Encoder.wrote c.loop-i.encoder (node_bytes m) c.put_node.new.encoder) (sym (node_again mesh seen c.node.ensures.written)) c.put_node.ensures.bytes in (
      next g.P.Encoder.wrote g.met.P.Encoder.joins (λ n. node_bytes (node_of mesh n)) nodes c.loop-i.i (node_in mesh seen) _ _ _ c.node.ensures.node c.loop-i.invariant.0 one,
      narrow_next (length mesh) c.loop-i.i nodes (node_in mesh seen) c.node.ensures.node (subst (λ k. IsNarrow k (seen.core)) count c.put_node.ensures.narrow) c.loop-i.invariant.1,
    )

pub returns-clause-bytes : goal.returns-clause-bytes
returns-clause-bytes g c =
    let nodes = (c.args.world.now.world).nodes in
    let count : c.len-nodes.result ≡ length c.args.world.now.mesh = c.len-nodes.ensures.value ∙ ap length c.mesh.ensures.value in
    let same : c.loop-i.i ≡ length nodes = omega (arith, count, c.mesh.ensures.sound.count) in
    all g.P.Encoder.wrote (λ n. node_bytes (node_of c.args.world.now.mesh n)) nodes c.loop-i.i _ _ same c.loop-i.invariant.0

pub returns-clause-narrow : goal.returns-clause-narrow
returns-clause-narrow g c = λ k n there.
    let nodes = (c.args.world.now.world).nodes in
    let count : c.len-nodes.result ≡ length c.args.world.now.mesh = c.len-nodes.ensures.value ∙ ap length c.mesh.ensures.value in
    c.loop-i.invariant.1 k n (omega (arith, count, c.mesh.ensures.sound.count, slice_get_within nodes k n there, c.loop-i-test.false)) there
