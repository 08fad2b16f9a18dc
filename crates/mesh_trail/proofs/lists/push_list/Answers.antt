use Rattle.std.proofs.Common.{length, refl}
use Rattle.std.proofs.lemmas.Option.{slice_get_read}
use Rattle.mesh_trail.proofs.lists.push_list.Goals as goal

pub returns : goal.returns
returns c =
    let nodes = c.args.nodes.now.items in
    let n = c.index_mut-lists.result.now in
    record { node = n; now = record n { queue = c.push_back_reserved.new.self }; there = slice_get_read nodes (length nodes) c.args.x n refl c.requires.node c.index_mut-lists.ensures.value; entries = refl; queue = c.push_back_reserved.ensures.items; is = refl }
