use Rattle.std.proofs.Common.{◌∙◌, ℕ, cond, length, ap, sym, subst, arith}
use Rattle.indexmap.specs.IndexMap.{IndexMap, spare}
use Rattle.aodv_wire.specs.Encodes.{is_data}
use Rattle.std.specs.Prelude.{option_map}
use Rattle.mesh_base.specs.declared.events.Flying.{Flying}
use Rattle.mesh_radio.specs.Copies.{find_copy, without, data_in}
use Rattle.mesh_radio.specs.Kept.{Flights}
use Rattle.mesh_radio.specs.Casts.{Entry, copies_of, AreGone}
use Rattle.mesh_radio.specs.declared.casts.Cast.{Cast}
use Rattle.mesh_radio.proofs.Entries.{find-all, found-taken}
use Rattle.mesh_radio.proofs.Changes.{casts-taken, casts-tidied, none-less}
use Rattle.mesh_radio.proofs.Sweeps.{gone-taken}
use Rattle.mesh_radio.proofs.Leasts.{front-gone}
use Rattle.mesh_radio.proofs.copies.Copies.remove_found.Goals as goal

pub find_again-requires-clause-to : goal.find_again-requires-clause-to
find_again-requires-clause-to c =
    let inside = c.self.inside in
    ap (option_map (λ (f : Flying). f.to)) (sym (find-all 1 inside.next c.args.id inside.casts.entries (c.self.invariant.0).casts.rising))
    ∙ ap (λ (v : Flights). option_map (λ (f : Flying). f.to) (find_copy v.flying c.args.id)) c.self.view_is
    ∙ c.requires

pub overflow_sub-self : goal.overflow_sub-self
overflow_sub-self c =
    let inside = c.self.inside in
    let kept = c.self.invariant.0 in
    let e : Entry = (c.in-Some-get_index.field-0-0.now, c.in-Some-get_index.cast.now) in
    let less = found-taken 1 inside.next c.args.id c.in-Some.spot.index c.in-Some.spot.to inside.casts.entries e kept.casts.rising c.in-Some.ensures.some (sym c.in-Some-get_index.ensures.entry) in
    omega (arith, kept.counted, less.fewer)

pub overflow_sub-self-2 : goal.overflow_sub-self-2
overflow_sub-self-2 c =
    let inside = c.self.inside in
    let kept = c.self.invariant.0 in
    let e : Entry = (c.in-Some-get_index.field-0-0.now, c.in-Some-get_index.cast.now) in
    let less = found-taken 1 inside.next c.args.id c.in-Some.spot.index c.in-Some.spot.to inside.casts.entries e kept.casts.rising c.in-Some.ensures.some (sym c.in-Some-get_index.ensures.entry) in
    omega (arith, kept.with_data, less.of_data, c.if_data-less.ensures, ap {B = ℕ} (λ bs. cond (is_data bs) 1 0) c.as_slice.ensures)

pub clear-gone-requires-clause-rising : goal.clear-gone-requires-clause-rising
clear-gone-requires-clause-rising c =
    let inside = c.self.inside in
    let e : Entry = (c.in-Some-get_index.field-0-0.now, c.in-Some-get_index.cast.now) in
    let at = sym c.in-Some-get_index.ensures.entry in
    let now = ap (λ (m : IndexMap ℕ Cast _). m.entries) (c.remove_at.ensures e at) in
    (inside.next, (casts-taken inside.casts.entries c.remove_at.new.casts.entries inside.next c.in-Some.spot.index c.in-Some.spot.to e (c.self.invariant.0).casts at now).rising)

pub clear-gone-requires-clause-gone : goal.clear-gone-requires-clause-gone
clear-gone-requires-clause-gone c =
    let inside = c.self.inside in
    let kept = c.self.invariant.0 in
    let es = inside.casts.entries in
    let index = c.in-Some.spot.index in
    let to = c.in-Some.spot.to in
    let front = c.front_of-front.result in
    let e : Entry = (c.in-Some-get_index.field-0-0.now, c.in-Some-get_index.cast.now) in
    let at = sym c.in-Some-get_index.ensures.entry in
    let now = ap (λ (m : IndexMap ℕ Cast _). m.entries) (c.remove_at.ensures e at) in
    let less = found-taken 1 inside.next c.args.id index to es e kept.casts.rising c.in-Some.ensures.some at in
    let gone = front-gone es front inside.least c.self.invariant.2 c.front_of-front.ensures.some c.front_of-front.ensures.none in
    subst (λ xs. AreGone xs front) (sym now) (gone-taken es inside.next c.args.id index front to e (e.1).bytes kept.casts.rising at less gone)

pub least_from-self-inside-requires-clause-casts : goal.least_from-self-inside-requires-clause-casts
least_from-self-inside-requires-clause-casts c =
    let inside = c.self.inside in
    let e : Entry = (c.in-Some-get_index.field-0-0.now, c.in-Some-get_index.cast.now) in
    let at = sym c.in-Some-get_index.ensures.entry in
    let now = ap (λ (m : IndexMap ℕ Cast _). m.entries) (c.remove_at.ensures e at) in
    let taken = casts-taken inside.casts.entries c.remove_at.new.casts.entries inside.next c.in-Some.spot.index c.in-Some.spot.to e (c.self.invariant.0).casts at now in
    (inside.next, casts-tidied c.remove_at.new.casts.entries c.clear-gone.new.casts.entries inside.next c.clear-gone.ensures.tidied taken)

pub invariant_of-self : goal.invariant_of-self
invariant_of-self c =
    let inside = c.self.inside in
    let kept = c.self.invariant.0 in
    let es = inside.casts.entries in
    let index = c.in-Some.spot.index in
    let to = c.in-Some.spot.to in
    let e : Entry = (c.in-Some-get_index.field-0-0.now, c.in-Some-get_index.cast.now) in
    let at = sym c.in-Some-get_index.ensures.entry in
    let map = c.remove_at.ensures e at in
    let now = ap (λ (m : IndexMap ℕ Cast _). m.entries) map in
    let less = found-taken 1 inside.next c.args.id index to es e kept.casts.rising c.in-Some.ensures.some at in
    let tidied = c.clear-gone.ensures.tidied in
    let copies = tidied.same ∙ ap copies_of now in
    let more = ap spare map in
    let taken = casts-taken es c.remove_at.new.casts.entries inside.next index to e kept.casts at now in (
      record {
        casts = casts-tidied c.remove_at.new.casts.entries c.clear-gone.new.casts.entries inside.next tidied taken;
        counted = omega (arith, kept.counted, less.fewer, ap length copies);
        with_data = omega (arith, kept.with_data, less.of_data, ap data_in copies, c.if_data-less.ensures, ap {B = ℕ} (λ bs. cond (is_data bs) 1 0) c.as_slice.ensures);
      },
      omega (arith, c.self.invariant.1, more, c.clear-gone.ensures.spare),
      c.least_from-self-inside.ensures,
    )

pub returns-in_default : goal.returns-in_default
returns-in_default c =
    let inside = c.self.inside in
    none-less inside.casts.entries inside.next c.args.id c.args.self.now (c.self.invariant.0).casts.rising (ap (λ (v : Flights). v.flying) c.self.view_is) c.in_default.ensures.none

pub returns : goal.returns
returns c =
    let inside = c.self.inside in
    let kept = c.self.invariant.0 in
    let es = inside.casts.entries in
    let index = c.in-Some.spot.index in
    let to = c.in-Some.spot.to in
    let e : Entry = (c.in-Some-get_index.field-0-0.now, c.in-Some-get_index.cast.now) in
    let at = sym c.in-Some-get_index.ensures.entry in
    let map = c.remove_at.ensures e at in
    let now = ap (λ (m : IndexMap ℕ Cast _). m.entries) map in
    let less = found-taken 1 inside.next c.args.id index to es e kept.casts.rising c.in-Some.ensures.some at in
    let flying = c.clear-gone.ensures.tidied.same ∙ ap copies_of now ∙ less.others in
    (λ i. record { flying = flying i; next_copy = inside.next; room = inside.reserve.room; most = inside.reserve.most })
    ∙ ap (λ (v : Flights). record v { flying = without v.flying c.args.id }) c.self.view_is
