use Rattle.std.proofs.Common.{◌<◌, IsTrue, length, rules, refl, sym, ◌∙◌, arith}
use Rattle.aodv_node.proofs.SoundParts.{items_for, store_for}
use Rattle.aodv_node.proofs.node.Node.from_parts.Goals as goal

pub returns-then-not-are_items_at : goal.returns-then-not-are_items_at
returns-then-not-are_items_at c = (
  record { own = c.requires.sn; table = c.is_sound_table.ensures.0 (search rules) },
  λ all.
      let bad : IsTrue c.are_items_at.result = c.are_items_at.ensures.1 (items_for c.args.table.nodes c.len.result c.args.me c.args.inbox.items (c.requires.table ∙ sym c.len.ensures.value) all) in
      search rules,
)

pub invariant_of-result : goal.invariant_of-result
invariant_of-result c =
    let table = c.is_sound_table.ensures.0 (search rules) in
    let items = c.are_items_at.ensures.0 (search rules) in
    let mine : c.args.me < c.args.table.nodes = omega arith in (
      record {
        table = refl;
        asked = c.requires.asked ∙ sym c.requires.table;
        waiting = c.requires.waiting ∙ sym c.requires.table;
        mine = mine;
        sound = record { own = c.requires.sn; table = table };
      },
      record {
        mine = mine;
        sound = record { own = c.requires.sn; table = table };
        store = store_for (length c.args.waiting.rooms) c.args.table.nodes c.args.waiting.store (c.requires.waiting ∙ sym c.requires.table) c.dests-dests.ensures.in_mesh;
        each = items_for c.len.result c.args.table.nodes c.args.me c.args.inbox.items (c.len.ensures.value ∙ sym c.requires.table) items;
      },
    )

pub returns : goal.returns
returns c =
    let items = c.are_items_at.ensures.0 (search rules) in (
      refl,
      record { own = c.requires.sn; table = c.is_sound_table.ensures.0 (search rules) },
      items_for c.len.result c.args.table.nodes c.args.me c.args.inbox.items (c.len.ensures.value ∙ sym c.requires.table) items,
    )
