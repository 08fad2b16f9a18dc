-- Copies in flight that are only looked at.
use Rattle.mesh_base.specs.declared.events.Flying.{Flying}
use Rattle.mesh_base.specs.declared.events.FlyingView.{FlyingView}

-- the copy in flight that is looked at
abbrev pub flying_seen : FlyingView → Flying
flying_seen view = record { id = view.id; from = view.from; to = view.to; bytes = view.bytes.now }
