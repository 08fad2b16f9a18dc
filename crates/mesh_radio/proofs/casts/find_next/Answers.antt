use Rattle.std.proofs.Common.{◌∙◌, sym, subst}
use Rattle.mesh_radio.specs.Casts.{AreSorted}
use Rattle.mesh_radio.proofs.Entries.{keys-sorted}
use Rattle.mesh_radio.proofs.casts.find_next.Goals as goal

pub position_near-index-requires : goal.position_near-index-requires
position_near-index-requires c =
    subst AreSorted (sym (c.as_slice.ensures ∙ c.keys.ensures.rest)) (keys-sorted 1 c.requires.0 c.args.casts.now.entries (c.requires.1).rising)
