use Rattle.std.proofs.Common.{ℕ, refl, sym, ap, subst, ◌∙◌, drop, Some}
use Rattle.std.specs.Prelude.{length, option_copied}
use Rattle.mesh_base.specs.declared.events.Item.TheVariants as item
use Rattle.aodv_handlers.specs.Shown.{core_of, IsInOrder}
use Rattle.aodv_node.specs.Seen.{IsItemAt}
use Rattle.aodv_node.proofs.Fronts.{front_of, none_of, first_has}
use Rattle.aodv_node.proofs.Taken.{datum_taken, stopped, stopped_short, no_memory, short_of, seen_same}
use Rattle.aodv_node.proofs.turns.take_turn.Goals as goal

pub returns-in_default-clause-turn : goal.returns-in_default-clause-turn
returns-in_default-clause-turn g c = (none_of c.args.inbox.now.items (option_copied c.front.result) c.front.ensures.front (ap option_copied c.in_default.is), refl)

pub make_store-requires-clause-below : goal.make_store-requires-clause-below
make_store-requires-clause-below g c =
    rw c.requires.order.table
    (first_has (IsItemAt (length c.args.mesh.now) c.args.core.now.me) c.args.inbox.now.items (item.New c.in-New.dest c.in-New.body) (option_copied c.front.result) c.requires.each c.front.ensures.front (ap option_copied c.in-Some.is ∙ ap Some c.in-New.is)).0

pub handle-requires-clause-from : goal.handle-requires-clause-from
handle-requires-clause-from g c =
    (first_has (IsItemAt (length c.args.mesh.now) c.args.core.now.me) c.args.inbox.now.items (item.Heard c.in-Heard.from c.in-Heard.bytes) (option_copied c.front.result) c.requires.each c.front.ensures.front (ap option_copied c.in-Some.is ∙ ap Some c.in-Heard.is)).0

pub handle-requires-clause-other : goal.handle-requires-clause-other
handle-requires-clause-other g c =
    (first_has (IsItemAt (length c.args.mesh.now) c.args.core.now.me) c.args.inbox.now.items (item.Heard c.in-Heard.from c.in-Heard.bytes) (option_copied c.front.result) c.requires.each c.front.ensures.front (ap option_copied c.in-Some.is ∙ ap Some c.in-Heard.is)).1

pub returns-in-Some-New-clause-turn : goal.returns-in-Some-New-clause-turn
returns-in-Some-New-clause-turn g c =
    let did = datum_taken c.args.mesh.now c.args.range.now (core_of g.T.Table.entries c.make_store.new.core) (core_of g.T.Table.entries c.args.core.now) c.in-Some-New.dest c.in-Some-New.body c.new_packet-own.result c.done_with.result (core_of g.T.Table.entries c.new_packet-own.new.core) c.clear.new.self.items
    c.make_store.ensures.shown c.new_packet-own.ensures.result c.done_with.ensures c.new_packet-own.ensures.core (c.new_packet-own.ensures.free c.args.range.now) c.clear.ensures in
    record {
      front = item.New c.in-Some-New.dest c.in-Some-New.body;
      was = front_of c.args.inbox.now.items (item.New c.in-Some-New.dest c.in-Some-New.body) c.pop.new.self.items c.pop.result c.pop.ensures.front (c.in-Some-New.is ∙ ap Some c.in-Some-New.field-0-is) c.pop.ensures.rest;
      readable = tt;
      took = did.took;
      made = did.made;
      room = c.pop.ensures.keeps;
      size = (c.new_packet-own.ensures.order (g.T.Table.nodes c.args.core.now.table) c.make_store.ensures.order).table;
    }

pub returns-in-Err-Full-clause-turn : goal.returns-in-Err-Full-clause-turn
returns-in-Err-Full-clause-turn g c =
    let full = stopped c.args.mesh.now (core_of g.T.Table.entries c.args.core.now) c.args.range.now c.in-Heard.from c.as_slice.result.now c.in-Err-Full.field-0 c.in-Err-Full.field (core_of g.T.Table.entries c.handle.new.core) c.handle.new.out.items c.in-Err-Full.field-0-is c.in-Err-Full.ensures.does in (
      record {
        front = item.Heard c.in-Heard.from c.as_slice.result.now;
        rest = drop 1 c.args.inbox.now.items;
        was = front_of c.args.inbox.now.items (item.Heard c.in-Heard.from c.as_slice.result.now) (drop 1 c.args.inbox.now.items) (option_copied c.front.result) c.front.ensures.front
            (ap option_copied c.in-Some.is ∙ ap Some (c.in-Heard.is ∙ ap (item.Heard c.in-Heard.from) (sym c.as_slice.ensures))) refl;
        readable = full.0;
        full = full.1.overfull;
      },
      seen_same g.T.Table.nodes g.T.Table.entries c.handle.new.core c.args.core.now c.args.inbox.now full.1.same (c.handle.ensures.order.table ∙ sym c.requires.order.table),
    )

pub returns-in-Some-New-clause-order : goal.returns-in-Some-New-clause-order
returns-in-Some-New-clause-order g c =
    c.new_packet-own.ensures.order (length c.args.mesh.now) (subst (λ (n : ℕ). IsInOrder g.T.Table.nodes g.T.Table.entries n c.make_store.new.core) c.requires.order.table c.make_store.ensures.order)

pub returns-in_err-make_store-in-New-clause-turn : goal.returns-in_err-make_store-in-New-clause-turn
returns-in_err-make_store-in-New-clause-turn g c =
    short_of c.args.mesh.now c.args.range.now _ _ c.in-New.dest c.in-New.body (drop 1 c.args.inbox.now.items) c.from_residual.result c.args.out.now.items
    (no_memory c.from_residual.result c.from_residual.ensures)
    (front_of c.args.inbox.now.items (item.New c.in-New.dest c.in-New.body) (drop 1 c.args.inbox.now.items) (option_copied c.front.result) c.front.ensures.front (ap option_copied c.in-Some.is ∙ ap Some c.in-New.is) refl)
    c.in_err-make_store-in-New.ensures.short
    (seen_same g.T.Table.nodes g.T.Table.entries c.make_store.new.core c.args.core.now c.args.inbox.now c.make_store.ensures.shown c.make_store.ensures.nodes)

pub returns-in-Err-NoMemory-clause-turn : goal.returns-in-Err-NoMemory-clause-turn
returns-in-Err-NoMemory-clause-turn g c =
    let short = stopped_short c.args.mesh.now (core_of g.T.Table.entries c.args.core.now) c.args.range.now c.in-Heard.from c.as_slice.result.now c.in-Err-NoMemory.field-0 (core_of g.T.Table.entries c.handle.new.core) c.handle.new.out.items c.in-Err-NoMemory.field-0-is c.in-Err-NoMemory.ensures.does in (
      record {
        front = item.Heard c.in-Heard.from c.as_slice.result.now;
        rest = drop 1 c.args.inbox.now.items;
        was = front_of c.args.inbox.now.items (item.Heard c.in-Heard.from c.as_slice.result.now) (drop 1 c.args.inbox.now.items) (option_copied c.front.result) c.front.ensures.front
            (ap option_copied c.in-Some.is ∙ ap Some (c.in-Heard.is ∙ ap (item.Heard c.in-Heard.from) (sym c.as_slice.ensures))) refl;
        readable = short.0;
        needs = short.1;
      },
      seen_same g.T.Table.nodes g.T.Table.entries c.handle.new.core c.args.core.now c.args.inbox.now short.2 (c.handle.ensures.order.table ∙ sym c.requires.order.table),
    )
