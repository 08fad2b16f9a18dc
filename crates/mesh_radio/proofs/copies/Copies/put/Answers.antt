use Rattle.std.proofs.Common.{ℕ, ◌+◌, ◌∷◌, [], cond, length, ap, arith}
use Rattle.std.proofs.lemmas.List.{length-append}
use Rattle.aodv_wire.specs.Encodes.{is_data}
use Rattle.mesh_radio.specs.Copies.{data_in}
use Rattle.mesh_radio.specs.Kept.{Flights}
use Rattle.mesh_radio.specs.Casts.{copies_of}
use Rattle.mesh_radio.proofs.Numbered.{at_most_all, data_few, data_append}
use Rattle.mesh_radio.proofs.Entries.{copies-few}
use Rattle.mesh_radio.proofs.Joins.{casts-later}
use Rattle.mesh_radio.proofs.copies.Copies.put.Goals as goal

pub overflow_add-self : goal.overflow_add-self
overflow_add-self c =
    let inside = c.self.inside in
    let kept = c.self.invariant.0 in
    let few = copies-few 1 inside.next inside.casts.entries kept.casts.rising in
    omega (arith, kept.counted, kept.casts.few)

pub overflow_add-self-2 : goal.overflow_add-self-2
overflow_add-self-2 c =
    let inside = c.self.inside in
    let kept = c.self.invariant.0 in
    let few = copies-few 1 inside.next inside.casts.entries kept.casts.rising in
    let fewer = data_few (copies_of inside.casts.entries) in
    let more = at_most_all (is_data c.as_slice.result.now) 1 in
    omega (arith, kept.with_data, kept.casts.few, c.if_data-more.ensures)

pub invariant_of-self-2 : goal.invariant_of-self-2
invariant_of-self-2 c =
    let inside = c.self.inside in
    let kept = c.self.invariant.0 in
    let f = c.args.f in
    let es = inside.casts.entries in
    let gathered = c.in_ok-self-inside.ensures in
    let next = ap (λ (v : Flights). v.next_copy) c.self.view_is in
    let room = ap (λ (v : Flights). v.room) c.self.view_is in (
      record {
        casts = casts-later c.gather.new.casts.entries (f.id + 1) inside.next gathered.casts (omega (arith, c.requires.id.1)) kept.casts.few;
        counted = omega (arith, kept.counted, ap length gathered.copies, length-append (copies_of es) (f ∷ []));
        with_data = omega (
          arith,
          kept.with_data,
          ap data_in gathered.copies,
          data_append (copies_of es) (f ∷ []),
          c.if_data-more.ensures,
          ap {B = ℕ} (λ bs. cond (is_data bs) 1 0) c.as_slice.ensures,
        );
      },
      omega (arith, c.requires.room),
      gathered.least,
    )
