use Rattle.std.proofs.Common.{◌≡◌, ◌+◌, ◌-◌, ◌++◌, length, refl, ap, subst, sym, arith, ◌∙◌, cond}
use Rattle.std.proofs.lemmas.List.{length-append}
use Rattle.mesh_base.specs.Members.{member_list}
use Rattle.aodv_wire.specs.Encodes.{is_data}
use Rattle.mesh_radio.specs.Copies.{copies_to, data_in}
use Rattle.mesh_radio.specs.Kept.{Memory, Flights, with_flights}
use Rattle.mesh_radio.proofs.CastCopies.{copies_to-length}
use Rattle.mesh_radio.proofs.Numbered.{at_most_all, data_few, data_append, data_cast}
use Rattle.mesh_radio.specs.Casts.{copies_of, size, AreCasts}
use Rattle.mesh_radio.specs.declared.casts.Cast.{Cast}
use Rattle.mesh_radio.proofs.Entries.{copies-few, cast-copies}
use Rattle.mesh_radio.proofs.copies.Copies.launch_all.Goals as goal

pub overflow_add-self-2 : goal.overflow_add-self-2
overflow_add-self-2 c =
    let inside = c.self.inside in
    let kept = c.self.invariant.0 in
    let next = ap (λ (v : Flights). v.next_copy) c.self.view_is in
    let few = copies-few 1 inside.next inside.casts.entries kept.casts.rising in
    omega (arith, kept.counted, c.requires.all, c.requires.next)

pub overflow_add-self-3 : goal.overflow_add-self-3
overflow_add-self-3 c =
    let inside = c.self.inside in
    let kept = c.self.invariant.0 in
    let next = ap (λ (v : Flights). v.next_copy) c.self.view_is in
    let few = copies-few 1 inside.next inside.casts.entries kept.casts.rising in
    let fewer = data_few (copies_of inside.casts.entries) in
    let more = at_most_all (is_data c.args.bytes.now) c.args.copies in
    omega (arith, kept.with_data, c.if_data.ensures, c.requires.all, c.requires.next)

pub launch-self-inside-requires-clause-room : goal.launch-self-inside-requires-clause-room
launch-self-inside-requires-clause-room c =
    let room = ap (λ (v : Flights). v.room) c.self.view_is in
    omega (arith, c.self.invariant.1, c.requires.room, c.requires.all, c.requires.some)

pub launch-self-inside-requires-clause-few : goal.launch-self-inside-requires-clause-few
launch-self-inside-requires-clause-few c =
    let next = ap (λ (v : Flights). v.next_copy) c.self.view_is in
    omega (arith, c.requires.next)

pub invariant_of-self : goal.invariant_of-self
invariant_of-self c =
    let inside = c.self.inside in
    let kept = c.self.invariant.0 in
    let es = inside.casts.entries in
    let ms = member_list c.args.to.now in
    let cast : Cast = record { to = c.args.to.now; left = c.args.to.now; from = c.args.from; bytes = c.fill.result } in
    let launched = c.launch-self-inside in
    let made : size cast ≡ c.args.copies = sym c.requires.all in
    let copies = ap copies_of launched.ensures.entries ∙ cast-copies es inside.next cast refl in
    let room = ap (λ (m : Memory). m.room) c.fill.ensures.room in
    let later : inside.next + size cast ≡ inside.next + c.args.copies = omega arith in (
      record {
        casts = subst (AreCasts launched.new.casts.entries) later launched.ensures.casts;
        counted = omega (arith, kept.counted, ap length copies, length-append (copies_of es) (copies_to ms inside.next cast.from cast.bytes), copies_to-length ms inside.next cast.from cast.bytes);
        with_data = omega (
          arith,
          kept.with_data,
          ap data_in copies,
          data_append (copies_of es) (copies_to ms inside.next cast.from cast.bytes),
          data_cast ms inside.next cast.from cast.bytes,
          c.if_data.ensures,
          ap (λ bs. cond (is_data bs) (length ms) 0) c.fill.ensures.bytes,
          ap (λ n. cond (is_data c.args.bytes.now) n 0) made,
        );
      },
      omega (arith, room, c.self.invariant.1, launched.ensures.spare, c.requires.some),
      launched.ensures.least,
    )

pub returns : goal.returns
returns c =
    let inside = c.self.inside in
    let es = inside.casts.entries in
    let ms = member_list c.args.to.now in
    let cast : Cast = record { to = c.args.to.now; left = c.args.to.now; from = c.args.from; bytes = c.fill.result } in
    let made : c.args.copies ≡ length ms = c.requires.all in
    let flying = ap copies_of c.launch-self-inside.ensures.entries ∙ cast-copies es inside.next cast refl
    ∙ ap (λ bs. copies_of es ++ copies_to ms inside.next c.args.from bs) c.fill.ensures.bytes in
    let next = ap (λ n. inside.next + n) made in
    let room = ap (λ (m : Memory). m.room) c.fill.ensures.room ∙ ap (λ n. inside.reserve.room - n) made in
    let most = ap (λ (m : Memory). m.most) c.fill.ensures.room in
    (λ i. record { flying = flying i; next_copy = next i; room = room i; most = most i })
    ∙ ap (λ (v : Flights). with_flights v c.args.from c.args.bytes.now ms) c.self.view_is
