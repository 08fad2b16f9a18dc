use Rattle.std.proofs.Common.{◌≡◌, Some, length, ap, ◌∙◌, sym, subst}
use Rattle.std.specs.FinSet as sets
use Rattle.mesh_base.specs.Members.{NodeIds}
use Rattle.mesh_base.specs.Meshes.{Nodes}
use Rattle.aodv_model.specs.Cores.{Core}
use Rattle.mesh_router.specs.Routers.{all_below}
use Rattle.mesh_router.specs.Peers.{ArePeers}
use Rattle.mesh_router.proofs.Peers.{all_peers}
use Rattle.mesh_router.proofs.router.Router.with.Goals as goal

pub invariant_of-result : goal.invariant_of-result
invariant_of-result c =
    let p = c.args.peers in
    let me = c.args.me in
    let all : c.remove.new.self ≡ sets.remove (all_below (length p.mesh)) me =
    c.remove.ensures ∙ ap (λ (s : NodeIds). sets.remove s me) (c.all_of-range.ensures ∙ ap (λ (m : Nodes). all_below (length m)) c.mesh.ensures.mesh) in
    record {
      me = c.requires.me ∙ ap (λ (k : Core). Some k.ip) (sym c.requires.core);
      size = c.requires.size;
      range = subst (λ (s : NodeIds). ArePeers p s) (sym all) (all_peers p me c.requires.me);
    }
