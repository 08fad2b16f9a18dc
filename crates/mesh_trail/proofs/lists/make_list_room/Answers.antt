use Rattle.std.proofs.Common.{◌≡◌, ◌<◌, length, refl, sym, subst, ◌∙◌, arith}
use Rattle.std.specs.VecDeque.{deque_len, deque_capacity}
use Rattle.std.proofs.lemmas.Option.{same_Some, slice_get_read}
use Rattle.mesh_trail.specs.declared.lists.NodeLists.{NodeLists}
use Rattle.mesh_world.proofs.Frames.{set_got}
use Rattle.mesh_trail.proofs.lists.make_list_room.Goals as goal

pub returns-in_err-reserve-clause-same : goal.returns-in_err-reserve-clause-same
returns-in_err-reserve-clause-same c =
    let nodes = c.args.nodes.now.items in
    let n = c.index_mut-lists.result.now in
    record { node = n; now = record n { queue = c.reserve.new.self }; there = slice_get_read nodes (length nodes) c.args.x n refl c.requires c.index_mut-lists.ensures.value; entries = refl; queue = c.reserve.ensures.items; is = refl }

pub returns-clause-same : goal.returns-clause-same
returns-clause-same c =
    let nodes = c.args.nodes.now.items in
    let n = c.index_mut-lists.result.now in
    record { node = n; now = record n { queue = c.reserve.new.self }; there = slice_get_read nodes (length nodes) c.args.x n refl c.requires c.index_mut-lists.ensures.value; entries = refl; queue = c.reserve.ensures.items; is = refl }

pub returns-clause-room : goal.returns-clause-room
returns-clause-room c = λ m at.
    let nodes = c.args.nodes.now.items in
    let n : NodeLists = record c.index_mut-lists.result.now { queue = c.reserve.new.self } in
    let same : n ≡ m = same_Some n m (sym (set_got nodes c.args.x n c.requires) ∙ at) in
    subst (λ (k : NodeLists). deque_len k.queue < deque_capacity k.queue) same (let ok = c.in_ok-reserve.ensures.ok in omega arith)
