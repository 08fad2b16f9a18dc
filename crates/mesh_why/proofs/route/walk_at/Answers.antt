use Rattle.std.proofs.Common.{◌≡◌, ◌<◌, ◌∙◌, length, ap, subst}
use Rattle.mesh_base.specs.Meshes.{Nodes}
use Rattle.mesh_model.specs.InMesh.{AreLinks}
use Rattle.mesh_world.specs.Seen.{WorldSeen}
use Rattle.mesh_why.proofs.InMesh.{route_in_known}
use Rattle.mesh_why.proofs.route.walk_at.Goals as goal

pub returns-clause-within : goal.returns-clause-within
returns-clause-within c =
    let sound = c.mesh-mesh.ensures.sound in
    let same : c.world-2.result.now ≡ c.in_ok-trail.trail.now = c.world-2.ensures in
    let mesh : c.in_ok-trail.trail.now.mesh ≡ c.args.at.now.mesh = c.in_ok-trail.ensures.mesh in
    let size : length (c.world-2.result.now.world).nodes ≡ length c.args.at.now.mesh = sound.count ∙ ap (λ (w : WorldSeen). length w.mesh) same ∙ ap length mesh in
    let links = subst (λ n. AreLinks n (c.world-2.result.now.world).ever) size (sound.invariant.in_mesh).ever in
    let here = subst (λ (w : WorldSeen). AreLinks (length c.args.at.now.mesh) (w.world).ever) same links in
    let shown : c.mesh-mesh.result.now ≡ c.args.at.now.mesh = c.mesh-mesh.ensures.value ∙ ap (λ (w : WorldSeen). w.mesh) same ∙ mesh in
    let dest = subst (λ (m : Nodes). c.in_ok-dest.dest < length m) shown c.in_ok-dest.ensures.within in
    route_in_known (length c.args.at.now.mesh) c.in_ok-trail.trail.now.world c.in_ok-node.node c.in_ok-dest.dest c.walk.result here dest c.walk.ensures.walk
