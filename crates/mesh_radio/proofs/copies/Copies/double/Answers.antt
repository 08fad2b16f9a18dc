use Rattle.std.proofs.Common.{◌≡◌, ℕ, ◌≤◌, ◌+◌, ◌++◌, ◌∷◌, [], ◌∙◌, length, cond, refl, ap, sym, subst, arith}
use Rattle.std.specs.Prelude.{option_map}
use Rattle.std.specs.FinSet.{insert}
use Rattle.std.proofs.lemmas.List.{length-append}
use Rattle.mesh_base.specs.declared.events.Flying.{Flying}
use Rattle.aodv_wire.specs.Encodes.{is_data}
use Rattle.mesh_radio.specs.Copies.{find_copy, data_in}
use Rattle.mesh_radio.specs.Kept.{Memory, Flights, with_second}
use Rattle.mesh_radio.specs.Casts.{Entry, AreCasts, copies_of, size}
use Rattle.mesh_radio.specs.declared.casts.Cast.{Cast}
use Rattle.mesh_radio.proofs.Numbered.{at_most_all, data_few, data_append}
use Rattle.mesh_radio.proofs.Entries.{find-all, found-copy, copies-few, value-at, found-value}
use Rattle.mesh_radio.proofs.Changes.{size-one, copies-one}
use Rattle.mesh_radio.proofs.copies.Copies.double.Goals as goal

pub returns-in_err-spot-clause-given : goal.returns-in_err-spot-clause-given
returns-in_err-spot-clause-given c =
    let inside = c.self.inside in
    c.from_residual.ensures
    ∙ ap (option_map (λ (f : Flying). (inside.next, f.to))) (sym (find-all 1 inside.next c.args.id inside.casts.entries (c.self.invariant.0).casts.rising ∙ c.in_err-spot.ensures.none))
    ∙ ap (λ (v : Flights). option_map (λ (f : Flying). (v.next_copy, f.to)) (find_copy v.flying c.args.id)) c.self.view_is

pub returns-in_err-spot-clause-doubled : goal.returns-in_err-spot-clause-doubled
returns-in_err-spot-clause-doubled c =
    let inside = c.self.inside in
    let none = find-all 1 inside.next c.args.id inside.casts.entries (c.self.invariant.0).casts.rising ∙ c.in_err-spot.ensures.none in
    ap (with_second c.args.self.now) (sym none ∙ ap (λ (v : Flights). find_copy v.flying c.args.id) c.self.view_is)

pub double_packet-requires-clause-fits : goal.double_packet-requires-clause-fits
double_packet-requires-clause-fits c cast at =
    let inside = c.self.inside in
    let e : Entry = (c.in_ok-cast.field-0-0.now, c.in_ok-cast.cast.now) in
    let spot = c.in_ok-spot.spot in
    let copy = found-copy inside.casts.entries 1 inside.next c.args.id spot.index spot.to e (c.self.invariant.0).casts.rising c.in_ok-spot.ensures.some (sym c.in_ok-cast.ensures.entry) in
    let same = value-at inside.casts.entries spot.index e cast (sym c.in_ok-cast.ensures.entry) at in
    let most = ap (λ (v : Flights). v.most) c.self.view_is in
    subst (λ n. length cast.bytes ≤ n) (sym most)
    (subst (λ (x : Cast). length x.bytes ≤ c.args.self.now.most) same
    (c.requires.fits _ (sym (ap (λ (v : Flights). find_copy v.flying c.args.id) c.self.view_is) ∙ copy)))

pub launch-self-inside-requires-clause-some : goal.launch-self-inside-requires-clause-some
launch-self-inside-requires-clause-some c =
    let second : Cast = record { to = c.add.new.self; left = c.add.new.self; from = c.in_ok-cast.cast.now.from; bytes = c.double_packet.result } in
    let one = size-one second c.in_ok-spot.spot.to c.in_ok-spot.ensures.below (c.add.ensures ∙ ap (λ s. insert s c.in_ok-spot.spot.to) c.new-to.ensures) in
    omega arith

pub launch-self-inside-requires-clause-alone : goal.launch-self-inside-requires-clause-alone
launch-self-inside-requires-clause-alone c = λ _.
    let second : Cast = record { to = c.add.new.self; left = c.add.new.self; from = c.in_ok-cast.cast.now.from; bytes = c.double_packet.result } in
    let one = size-one second c.in_ok-spot.spot.to c.in_ok-spot.ensures.below (c.add.ensures ∙ ap (λ s. insert s c.in_ok-spot.spot.to) c.new-to.ensures) in
    omega arith

pub launch-self-inside-requires-clause-few : goal.launch-self-inside-requires-clause-few
launch-self-inside-requires-clause-few c =
    let second : Cast = record { to = c.add.new.self; left = c.add.new.self; from = c.in_ok-cast.cast.now.from; bytes = c.double_packet.result } in
    let one = size-one second c.in_ok-spot.spot.to c.in_ok-spot.ensures.below (c.add.ensures ∙ ap (λ s. insert s c.in_ok-spot.spot.to) c.new-to.ensures) in
    let next = ap (λ (v : Flights). v.next_copy) c.self.view_is in
    omega (arith, c.requires.next)

pub overflow_add-self-2 : goal.overflow_add-self-2
overflow_add-self-2 c =
    let inside = c.self.inside in
    let kept = c.self.invariant.0 in
    let next = ap (λ (v : Flights). v.next_copy) c.self.view_is in
    let few = copies-few 1 inside.next inside.casts.entries kept.casts.rising in
    omega (arith, kept.counted, c.requires.next)

pub overflow_add-self-3 : goal.overflow_add-self-3
overflow_add-self-3 c =
    let inside = c.self.inside in
    let kept = c.self.invariant.0 in
    let next = ap (λ (v : Flights). v.next_copy) c.self.view_is in
    let few = copies-few 1 inside.next inside.casts.entries kept.casts.rising in
    let fewer = data_few (copies_of inside.casts.entries) in
    let more = at_most_all (is_data c.as_slice.result.now) 1 in
    omega (arith, kept.with_data, c.if_data-more.ensures, c.requires.next)

pub invariant_of-self : goal.invariant_of-self
invariant_of-self c =
    let inside = c.self.inside in
    let kept = c.self.invariant.0 in
    let es = inside.casts.entries in
    let spot = c.in_ok-spot.spot in
    let second : Cast = record { to = c.add.new.self; left = c.add.new.self; from = c.in_ok-cast.cast.now.from; bytes = c.double_packet.result } in
    let copy : Flying = record { id = inside.next; from = second.from; to = spot.to; bytes = second.bytes } in
    let launched = c.launch-self-inside in
    let only = c.add.ensures ∙ ap (λ s. insert s spot.to) c.new-to.ensures in
    let one = size-one second spot.to c.in_ok-spot.ensures.below only in
    let entries = launched.ensures.entries ∙ ap (λ xs. xs ++ (inside.next, second) ∷ []) c.double_packet.ensures.entries in
    let copies = copies-one es launched.new.casts.entries inside.next spot.to second entries c.in_ok-spot.ensures.below only refl in
    let doubled = c.double_packet.ensures.bytes c.in_ok-cast.cast.now (found-value es spot.index (c.in_ok-cast.field-0-0.now, c.in_ok-cast.cast.now) (sym c.in_ok-cast.ensures.entry)) in
    let room = ap (λ (m : Memory). m.room) doubled.1 in
    let later : inside.next + size second ≡ inside.next + 1 = omega arith in (
      record {
        casts = subst (AreCasts launched.new.casts.entries) later launched.ensures.casts;
        counted = omega (arith, kept.counted, ap length copies, length-append (copies_of es) (copy ∷ []));
        with_data = omega (
          arith,
          kept.with_data,
          ap data_in copies,
          data_append (copies_of es) (copy ∷ []),
          c.if_data-more.ensures,
          ap {B = ℕ} (λ bs. cond (is_data bs) 1 0) c.as_slice.ensures,
        );
      },
      omega (arith, room, c.self.invariant.1, launched.ensures.spare, c.double_packet.ensures.spare),
      launched.ensures.least,
    )

pub returns-clause-given : goal.returns-clause-given
returns-clause-given c =
    let inside = c.self.inside in
    let spot = c.in_ok-spot.spot in
    let e : Entry = (c.in_ok-cast.field-0-0.now, c.in_ok-cast.cast.now) in
    let copy = found-copy inside.casts.entries 1 inside.next c.args.id spot.index spot.to e (c.self.invariant.0).casts.rising c.in_ok-spot.ensures.some (sym c.in_ok-cast.ensures.entry) in
    ap (option_map (λ (f : Flying). (inside.next, f.to))) (sym copy)
    ∙ ap (λ (v : Flights). option_map (λ (f : Flying). (v.next_copy, f.to)) (find_copy v.flying c.args.id)) c.self.view_is

pub returns-clause-doubled : goal.returns-clause-doubled
returns-clause-doubled c =
    let inside = c.self.inside in
    let es = inside.casts.entries in
    let spot = c.in_ok-spot.spot in
    let e : Entry = (c.in_ok-cast.field-0-0.now, c.in_ok-cast.cast.now) in
    let second : Cast = record { to = c.add.new.self; left = c.add.new.self; from = (e.1).from; bytes = c.double_packet.result } in
    let before : Flights = record { flying = copies_of es; next_copy = inside.next; room = inside.reserve.room; most = inside.reserve.most } in
    let only = c.add.ensures ∙ ap (λ s. insert s spot.to) c.new-to.ensures in
    let copy = found-copy es 1 inside.next c.args.id spot.index spot.to e (c.self.invariant.0).casts.rising c.in_ok-spot.ensures.some (sym c.in_ok-cast.ensures.entry) in
    let entries = c.launch-self-inside.ensures.entries ∙ ap (λ xs. xs ++ (inside.next, second) ∷ []) c.double_packet.ensures.entries in
    let doubled = c.double_packet.ensures.bytes c.in_ok-cast.cast.now (found-value es spot.index (c.in_ok-cast.field-0-0.now, c.in_ok-cast.cast.now) (sym c.in_ok-cast.ensures.entry)) in
    let flying = copies-one es c.launch-self-inside.new.casts.entries inside.next spot.to second entries c.in_ok-spot.ensures.below only refl
    ∙ ap (λ bs. copies_of es ++ record { id = inside.next; from = (e.1).from; to = spot.to; bytes = bs } ∷ []) doubled.0 in
    let room = ap (λ (m : Memory). m.room) doubled.1 in
    let most = ap (λ (m : Memory). m.most) doubled.1 in
    (λ i. record { flying = flying i; next_copy = inside.next + 1; room = room i; most = most i })
    ∙ ap (with_second before) (sym copy)
    ∙ ap (λ (v : Flights). with_second v (find_copy v.flying c.args.id)) c.self.view_is
