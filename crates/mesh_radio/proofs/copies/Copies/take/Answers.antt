use Rattle.std.proofs.Common.{◌∙◌, ℕ, List, Option, Some, cond, length, ap, sym, arith}
use Rattle.indexmap.specs.IndexMap.{IndexMap, spare}
use Rattle.mesh_base.specs.declared.events.Flying.{Flying}
use Rattle.aodv_wire.specs.Encodes.{is_data}
use Rattle.mesh_radio.specs.Copies.{find_copy, without, data_in}
use Rattle.mesh_radio.specs.Kept.{Flights}
use Rattle.mesh_radio.specs.Casts.{Entry}
use Rattle.mesh_radio.specs.declared.casts.Cast.{Cast}
use Rattle.mesh_radio.proofs.Entries.{find-all, found-copy}
use Rattle.mesh_radio.proofs.Changes.{casts-tidied, none-less}
use Rattle.mesh_radio.proofs.Leasts.{front-gone}
use Rattle.mesh_radio.proofs.Takes.{packet-taken, cast-then}
use Rattle.mesh_radio.proofs.copies.Copies.take.Goals as goal

pub returns-in_err-found-clause-taken : goal.returns-in_err-found-clause-taken
returns-in_err-found-clause-taken c =
    let inside = c.self.inside in
    c.from_residual.ensures
    ∙ sym (find-all 1 inside.next c.args.id inside.casts.entries (c.self.invariant.0).casts.rising ∙ c.in_err-found.ensures.none)
    ∙ ap (λ (v : Flights). find_copy v.flying c.args.id) c.self.view_is

pub returns-in_err-found-clause-gone : goal.returns-in_err-found-clause-gone
returns-in_err-found-clause-gone c =
    let inside = c.self.inside in
    none-less inside.casts.entries inside.next c.args.id c.args.self.now (c.self.invariant.0).casts.rising (ap (λ (v : Flights). v.flying) c.self.view_is) c.in_err-found.ensures.none

pub overflow_sub-self : goal.overflow_sub-self
overflow_sub-self c =
    let inside = c.self.inside in
    let es = inside.casts.entries in
    let kept = c.self.invariant.0 in
    let found = c.in_ok-found in
    let e : Entry = (c.in_ok-cast.field-0-0.now, c.in_ok-cast.cast.now) in
    let at = sym c.in_ok-cast.ensures.entry in
    let map = c.remove_at.ensures e at in
    let packet = c.take_packet-bytes in
    let now = ap (λ (m : IndexMap ℕ Cast _). m.entries) map in
    let gone = front-gone es c.front_of-front.result inside.least c.self.invariant.2 c.front_of-front.ensures.some c.front_of-front.ensures.none in
    let taken = packet-taken es c.remove_at.new.casts.entries packet.new.casts.entries inside.next c.args.id found.found.index found.found.to c.front_of-front.result e kept.casts found.ensures.some found.ensures.below at now gone packet.ensures.short packet.ensures.long in
    omega (arith, kept.counted, taken.less.fewer)

pub overflow_sub-self-2 : goal.overflow_sub-self-2
overflow_sub-self-2 c =
    let inside = c.self.inside in
    let es = inside.casts.entries in
    let kept = c.self.invariant.0 in
    let found = c.in_ok-found in
    let e : Entry = (c.in_ok-cast.field-0-0.now, c.in_ok-cast.cast.now) in
    let at = sym c.in_ok-cast.ensures.entry in
    let map = c.remove_at.ensures e at in
    let packet = c.take_packet-bytes in
    let now = ap (λ (m : IndexMap ℕ Cast _). m.entries) map in
    let gone = front-gone es c.front_of-front.result inside.least c.self.invariant.2 c.front_of-front.ensures.some c.front_of-front.ensures.none in
    let taken = packet-taken es c.remove_at.new.casts.entries packet.new.casts.entries inside.next c.args.id found.found.index found.found.to c.front_of-front.result e kept.casts found.ensures.some found.ensures.below at now gone packet.ensures.short packet.ensures.long in
    omega (arith, kept.with_data, taken.less.of_data, c.if_data-data.ensures, ap {B = ℕ} (λ bs. cond (is_data bs) 1 0) c.as_slice.ensures)

pub clear-gone-requires-clause-rising : goal.clear-gone-requires-clause-rising
clear-gone-requires-clause-rising c =
    let inside = c.self.inside in
    let es = inside.casts.entries in
    let kept = c.self.invariant.0 in
    let found = c.in_ok-found in
    let e : Entry = (c.in_ok-cast.field-0-0.now, c.in_ok-cast.cast.now) in
    let at = sym c.in_ok-cast.ensures.entry in
    let map = c.remove_at.ensures e at in
    let packet = c.take_packet-bytes in
    let now = ap (λ (m : IndexMap ℕ Cast _). m.entries) map in
    let gone = front-gone es c.front_of-front.result inside.least c.self.invariant.2 c.front_of-front.ensures.some c.front_of-front.ensures.none in
    let taken = packet-taken es c.remove_at.new.casts.entries packet.new.casts.entries inside.next c.args.id found.found.index found.found.to c.front_of-front.result e kept.casts found.ensures.some found.ensures.below at now gone packet.ensures.short packet.ensures.long in
    (inside.next, taken.casts.rising)

pub clear-gone-requires-clause-gone : goal.clear-gone-requires-clause-gone
clear-gone-requires-clause-gone c =
    let inside = c.self.inside in
    let es = inside.casts.entries in
    let kept = c.self.invariant.0 in
    let found = c.in_ok-found in
    let e : Entry = (c.in_ok-cast.field-0-0.now, c.in_ok-cast.cast.now) in
    let at = sym c.in_ok-cast.ensures.entry in
    let map = c.remove_at.ensures e at in
    let packet = c.take_packet-bytes in
    let now = ap (λ (m : IndexMap ℕ Cast _). m.entries) map in
    let gone = front-gone es c.front_of-front.result inside.least c.self.invariant.2 c.front_of-front.ensures.some c.front_of-front.ensures.none in
    let taken = packet-taken es c.remove_at.new.casts.entries packet.new.casts.entries inside.next c.args.id found.found.index found.found.to c.front_of-front.result e kept.casts found.ensures.some found.ensures.below at now gone packet.ensures.short packet.ensures.long in
    taken.gone

pub least_from-self-inside-requires-clause-casts : goal.least_from-self-inside-requires-clause-casts
least_from-self-inside-requires-clause-casts c =
    let inside = c.self.inside in
    let es = inside.casts.entries in
    let kept = c.self.invariant.0 in
    let found = c.in_ok-found in
    let e : Entry = (c.in_ok-cast.field-0-0.now, c.in_ok-cast.cast.now) in
    let at = sym c.in_ok-cast.ensures.entry in
    let map = c.remove_at.ensures e at in
    let packet = c.take_packet-bytes in
    let now = ap (λ (m : IndexMap ℕ Cast _). m.entries) map in
    let gone = front-gone es c.front_of-front.result inside.least c.self.invariant.2 c.front_of-front.ensures.some c.front_of-front.ensures.none in
    let taken = packet-taken es c.remove_at.new.casts.entries packet.new.casts.entries inside.next c.args.id found.found.index found.found.to c.front_of-front.result e kept.casts found.ensures.some found.ensures.below at now gone packet.ensures.short packet.ensures.long in
    (inside.next, casts-tidied packet.new.casts.entries c.clear-gone.new.casts.entries inside.next c.clear-gone.ensures.tidied taken.casts)

pub invariant_of-self : goal.invariant_of-self
invariant_of-self c =
    let inside = c.self.inside in
    let es = inside.casts.entries in
    let kept = c.self.invariant.0 in
    let found = c.in_ok-found in
    let e : Entry = (c.in_ok-cast.field-0-0.now, c.in_ok-cast.cast.now) in
    let at = sym c.in_ok-cast.ensures.entry in
    let map = c.remove_at.ensures e at in
    let packet = c.take_packet-bytes in
    let now = ap (λ (m : IndexMap ℕ Cast _). m.entries) map in
    let gone = front-gone es c.front_of-front.result inside.least c.self.invariant.2 c.front_of-front.ensures.some c.front_of-front.ensures.none in
    let taken = packet-taken es c.remove_at.new.casts.entries packet.new.casts.entries inside.next c.args.id found.found.index found.found.to c.front_of-front.result e kept.casts found.ensures.some found.ensures.below at now gone packet.ensures.short packet.ensures.long in
    let tidied = c.clear-gone.ensures.tidied in
    let less = taken.less in (
      record {
        casts = casts-tidied packet.new.casts.entries c.clear-gone.new.casts.entries inside.next tidied taken.casts;
        counted = omega (arith, kept.counted, less.fewer, ap length tidied.same);
        with_data = omega (arith, kept.with_data, less.of_data, ap data_in tidied.same, c.if_data-data.ensures, ap {B = ℕ} (λ bs. cond (is_data bs) 1 0) c.as_slice.ensures);
      },
      omega (arith, c.self.invariant.1, ap spare map, packet.ensures.spare, c.clear-gone.ensures.spare),
      c.least_from-self-inside.ensures,
    )

pub returns-clause-gone : goal.returns-clause-gone
returns-clause-gone c =
    let inside = c.self.inside in
    let es = inside.casts.entries in
    let kept = c.self.invariant.0 in
    let found = c.in_ok-found in
    let e : Entry = (c.in_ok-cast.field-0-0.now, c.in_ok-cast.cast.now) in
    let at = sym c.in_ok-cast.ensures.entry in
    let map = c.remove_at.ensures e at in
    let packet = c.take_packet-bytes in
    let now = ap (λ (m : IndexMap ℕ Cast _). m.entries) map in
    let gone = front-gone es c.front_of-front.result inside.least c.self.invariant.2 c.front_of-front.ensures.some c.front_of-front.ensures.none in
    let taken = packet-taken es c.remove_at.new.casts.entries packet.new.casts.entries inside.next c.args.id found.found.index found.found.to c.front_of-front.result e kept.casts found.ensures.some found.ensures.below at now gone packet.ensures.short packet.ensures.long in
    let flying = c.clear-gone.ensures.tidied.same ∙ taken.less.others in
    (λ i. record { flying = flying i; next_copy = inside.next; room = inside.reserve.room; most = inside.reserve.most })
    ∙ ap (λ (v : Flights). record v { flying = without v.flying c.args.id }) c.self.view_is

pub returns-clause-taken : goal.returns-clause-taken
returns-clause-taken c =
    let inside = c.self.inside in
    let es = inside.casts.entries in
    let found = c.in_ok-found in
    let e : Entry = (c.in_ok-cast.field-0-0.now, c.in_ok-cast.cast.now) in
    let at = sym c.in_ok-cast.ensures.entry in
    let now = ap (λ (m : IndexMap ℕ Cast _). m.entries) (c.remove_at.ensures e at) in
    let seen : List ℕ → Option Flying = λ bs. Some (record { id = c.args.id; from = (e.1).from; to = found.found.to; bytes = bs }) in
    ap seen (c.take_packet-bytes.ensures.packet _ (cast-then es c.remove_at.new.casts.entries found.found.index found.found.to e at now))
    ∙ sym (found-copy es 1 inside.next c.args.id found.found.index found.found.to e (c.self.invariant.0).casts.rising found.ensures.some at)
    ∙ ap (λ (v : Flights). find_copy v.flying c.args.id) c.self.view_is
