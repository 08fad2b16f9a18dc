use Rattle.aodv_c.proofs.Padding.{zeros_follow}
use Rattle.aodv_c.proofs.outcome.packet_of.Goals as goal

pub returns : goal.returns
returns c =
    zeros_follow _ _ _ _ c.copy_from_slice.ensures.after c.as_slice-from.ensures.value
