use Rattle.std.proofs.Common.{◌≡◌, ap, sym, ◌∙◌, map}
use Rattle.std.proofs.lemmas.List.Folds.{flat_map-map}
use Rattle.aodv_model.specs.Pairs.{Pairs}
use Rattle.mesh_checkpoint.specs.Points.{node_of, copy_of, links_of}
use Rattle.mesh_checkpoint.proofs.Written.{copies_again}
use Rattle.mesh_save.specs.Bytes.{node_bytes}
use Rattle.mesh_save.proofs.body.put_world.Goals as goal

pub returns-clause-bytes : goal.returns-clause-bytes
returns-clause-bytes g c =
    let j = g.met.P.Encoder.joins in
    let mesh = c.args.world.now.mesh in
    let w = c.args.world.now.world in
    let radio = c.radio-radio in
    let copies : map (copy_of mesh) w.flying ≡ radio.result.now.flying = ap (map (copy_of mesh)) (sym radio.ensures.flying) ∙ copies_again mesh radio.result.now.flying radio.ensures.written in
    let standing = radio.result.now.links in
    let links : links_of w.ever w.links ≡ links_of radio.result.now.ever standing = ap (λ (e : Pairs). links_of e w.links) (sym radio.ensures.links.1) ∙ ap (links_of radio.result.now.ever) (sym radio.ensures.links.0) in
    rw (← c.steps.ensures, flat_map-map node_bytes (node_of mesh) w.nodes, links, ← radio.ensures.next, ← c.next_id.ensures, copies)
    (j _ _ _ _ _ c.put64.ensures (j _ _ _ _ _ c.put_nodes.ensures.bytes (j _ _ _ _ _ c.put_links.ensures (j _ _ _ _ _ c.put64-2.ensures c.put_copies.ensures))))

pub returns-clause-narrow : goal.returns-clause-narrow
returns-clause-narrow g c =
    let is = c.mesh.ensures.sound in
    record { some = is.some; count = is.count; in_mesh = (is.invariant).in_mesh; narrow = c.put_nodes.ensures.narrow }
