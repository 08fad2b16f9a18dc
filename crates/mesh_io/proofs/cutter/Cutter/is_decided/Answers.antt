use Rattle.std.proofs.Common.{sym, ap, not, ◌∙◌}
use Rattle.mesh_io.specs.Cutting.{pending_in}
use Rattle.mesh_io.proofs.Deciding.{open_is, closed_is}
use Rattle.mesh_io.proofs.cutter.Cutter.is_decided.Goals as goal
use Rattle.mesh_io.proofs.cutter.Cutter.is_decided.Goals.{in-Open, in_default}

pub returns : goal.returns
returns g c =
    let now = c.args.self.now in
    elim c.match-matches.branch [
      | in-Open w ↦ ap not w.matches-is ∙ sym (open_is now.most now.given now.ended (pending_in now) now.decision now.decided w.in-Open.is)
      | in_default w ↦ ap not w.matches-is ∙ sym (closed_is now.most now.given now.ended (pending_in now) now.decision now.decided w.in_default.not-Open)
    ]
