use Rattle.std.proofs.Common.{◌≡◌, ℕ, ◌+◌, ◌++◌, ◌∷◌, [], ◌∙◌, length, cond, refl, ap, subst, arith}
use Rattle.std.specs.FinSet.{insert}
use Rattle.std.proofs.lemmas.List.{length-append}
use Rattle.mesh_base.specs.declared.events.Flying.{Flying}
use Rattle.aodv_wire.specs.Encodes.{is_data}
use Rattle.mesh_radio.specs.Copies.{data_in}
use Rattle.mesh_radio.specs.Kept.{Memory, Flights, with_flights}
use Rattle.mesh_radio.specs.Casts.{AreCasts, copies_of, size}
use Rattle.mesh_radio.specs.declared.casts.Cast.{Cast}
use Rattle.mesh_radio.proofs.Numbered.{at_most_all, data_few, data_append}
use Rattle.mesh_radio.proofs.Entries.{copies-few}
use Rattle.mesh_radio.proofs.Changes.{size-one, copies-one}
use Rattle.mesh_radio.proofs.copies.Copies.launch_one.Goals as goal

pub launch-self-inside-requires-clause-some : goal.launch-self-inside-requires-clause-some
launch-self-inside-requires-clause-some c =
    let cast : Cast = record { to = c.add.new.self; left = c.add.new.self; from = c.args.from; bytes = c.fill_one.result } in
    let one = size-one cast c.args.receiver c.requires.below (c.add.ensures ∙ ap (λ s. insert s c.args.receiver) c.new-to.ensures) in
    omega arith

pub launch-self-inside-requires-clause-alone : goal.launch-self-inside-requires-clause-alone
launch-self-inside-requires-clause-alone c = λ _.
    let cast : Cast = record { to = c.add.new.self; left = c.add.new.self; from = c.args.from; bytes = c.fill_one.result } in
    let one = size-one cast c.args.receiver c.requires.below (c.add.ensures ∙ ap (λ s. insert s c.args.receiver) c.new-to.ensures) in
    omega arith

pub launch-self-inside-requires-clause-few : goal.launch-self-inside-requires-clause-few
launch-self-inside-requires-clause-few c =
    let cast : Cast = record { to = c.add.new.self; left = c.add.new.self; from = c.args.from; bytes = c.fill_one.result } in
    let one = size-one cast c.args.receiver c.requires.below (c.add.ensures ∙ ap (λ s. insert s c.args.receiver) c.new-to.ensures) in
    let next = ap (λ (v : Flights). v.next_copy) c.self.view_is in
    omega (arith, c.requires.next)

pub overflow_add-self-2 : goal.overflow_add-self-2
overflow_add-self-2 c =
    let inside = c.self.inside in
    let kept = c.self.invariant.0 in
    let next = ap (λ (v : Flights). v.next_copy) c.self.view_is in
    let few = copies-few 1 inside.next inside.casts.entries kept.casts.rising in
    omega (arith, kept.counted, c.requires.next)

pub overflow_add-self-3 : goal.overflow_add-self-3
overflow_add-self-3 c =
    let inside = c.self.inside in
    let kept = c.self.invariant.0 in
    let next = ap (λ (v : Flights). v.next_copy) c.self.view_is in
    let few = copies-few 1 inside.next inside.casts.entries kept.casts.rising in
    let fewer = data_few (copies_of inside.casts.entries) in
    let more = at_most_all (is_data c.args.bytes.now) 1 in
    omega (arith, kept.with_data, c.if_data.ensures, c.requires.next)

pub invariant_of-self : goal.invariant_of-self
invariant_of-self c =
    let inside = c.self.inside in
    let kept = c.self.invariant.0 in
    let es = inside.casts.entries in
    let to = c.args.receiver in
    let cast : Cast = record { to = c.add.new.self; left = c.add.new.self; from = c.args.from; bytes = c.fill_one.result } in
    let copy : Flying = record { id = inside.next; from = cast.from; to = to; bytes = cast.bytes } in
    let launched = c.launch-self-inside in
    let only = c.add.ensures ∙ ap (λ s. insert s to) c.new-to.ensures in
    let one = size-one cast to c.requires.below only in
    let entries = launched.ensures.entries ∙ ap (λ xs. xs ++ (inside.next, cast) ∷ []) c.share_last-shared.ensures.entries in
    let copies = copies-one es launched.new.casts.entries inside.next to cast entries c.requires.below only refl in
    let room = ap (λ (m : Memory). m.room) c.fill_one.ensures.room in
    let later : inside.next + size cast ≡ inside.next + 1 = omega arith in (
      record {
        casts = subst (AreCasts launched.new.casts.entries) later launched.ensures.casts;
        counted = omega (arith, kept.counted, ap length copies, length-append (copies_of es) (copy ∷ []));
        with_data = omega (
          arith,
          kept.with_data,
          ap data_in copies,
          data_append (copies_of es) (copy ∷ []),
          c.if_data.ensures,
          ap {B = ℕ} (λ bs. cond (is_data bs) 1 0) c.fill_one.ensures.bytes,
        );
      },
      omega (arith, room, c.self.invariant.1, launched.ensures.spare, c.share_last-shared.ensures.spare),
      launched.ensures.least,
    )

pub returns : goal.returns
returns c =
    let inside = c.self.inside in
    let es = inside.casts.entries in
    let to = c.args.receiver in
    let cast : Cast = record { to = c.add.new.self; left = c.add.new.self; from = c.args.from; bytes = c.fill_one.result } in
    let only = c.add.ensures ∙ ap (λ s. insert s to) c.new-to.ensures in
    let entries = c.launch-self-inside.ensures.entries ∙ ap (λ xs. xs ++ (inside.next, cast) ∷ []) c.share_last-shared.ensures.entries in
    let flying = copies-one es c.launch-self-inside.new.casts.entries inside.next to cast entries c.requires.below only refl
    ∙ ap (λ bs. copies_of es ++ record { id = inside.next; from = c.args.from; to = to; bytes = bs } ∷ []) c.fill_one.ensures.bytes in
    let room = ap (λ (m : Memory). m.room) c.fill_one.ensures.room in
    let most = ap (λ (m : Memory). m.most) c.fill_one.ensures.room in
    (λ i. record { flying = flying i; next_copy = inside.next + 1; room = room i; most = most i })
    ∙ ap (λ (v : Flights). with_flights v c.args.from c.args.bytes.now (to ∷ [])) c.self.view_is
