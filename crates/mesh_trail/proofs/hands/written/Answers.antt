use Rattle.std.proofs.Common.{◌≤◌, length, subst, inl, inr}
use Rattle.mesh_trail.specs.declared.heard.Front.{Front}
use Rattle.mesh_trail.specs.Steps.{sent_after}
use Rattle.mesh_trail.proofs.hands.written.Goals as goal

pub written_of-requires : goal.written_of-requires
written_of-requires c =
    subst (λ (f : Front). length (sent_after c.args.x f c.args.rows.now c.args.list.now c.args.cast) ≤ c.args.room) c.in-Heard.is (c.requires c.args.cast)

pub written_of-requires-in-Empty : goal.written_of-requires-in-Empty
written_of-requires-in-Empty c =
    let room = c.requires c.args.cast in
    let fits = λ (f : Front). length (sent_after c.args.x f c.args.rows.now c.args.list.now c.args.cast) ≤ c.args.room in
    elim c.in-Empty.is [ inl is ↦ subst fits is room | inr is ↦ subst fits is room ]
