use Rattle.std.proofs.Common.{ℕ, List, ap, ◌∙◌, sym, subst}
use Rattle.mesh_base.specs.Meshes.{Nodes}
use Rattle.mesh_io.specs.Puts.{Puts}
use Rattle.mesh_router.proofs.Peers.{port_line}
use Rattle.mesh_router.proofs.casts.put_to.Goals as goal

pub returns-clause-text : goal.returns-clause-text
returns-clause-text g c =
    let p = c.args.peers.now in
    subst (λ (l : List ℕ). Puts (g.O.Sink.held c.args.out.now) (g.O.Sink.held c.put_all.new.out) l c.put_all.result)
    (c.as_slice.ensures.value ∙ c.push_to.ensures.text ∙ ap (λ (m : Nodes). port_line m c.args.x c.args.port) c.mesh.ensures.mesh ∙ ap (port_line p.mesh c.args.x) (sym c.requires.port))
    c.put_all.ensures.text
