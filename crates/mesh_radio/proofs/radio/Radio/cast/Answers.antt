use Rattle.std.proofs.Common.{◌≡◌, length, sym, ap, subst, ◌∙◌, arith}
use Rattle.std.specs.List.{AllByRecursion}
use Rattle.mesh_radio.specs.Copies.{IsBetween, IsPacketLong}
use Rattle.mesh_radio.specs.Radios.{RadioState, with_copies}
use Rattle.mesh_radio.specs.Kept.{Flights, with_flights, radio_of}
use Rattle.mesh_base.specs.Members.{member_list}
use Rattle.mesh_base.proofs.Ranks.{members-size, members_few}
use Rattle.mesh_radio.proofs.CastCopies.{cast-between, cast-long}
use Rattle.mesh_radio.proofs.radio.Radio.cast.Goals as goal

pub cast-requires-clause-room : goal.cast-requires-clause-room
cast-requires-clause-room c =
    let size = ap (λ (r : RadioState). r.size) c.self.view_is in
    let few = c.self.invariant.few in
    let same = ap length (members-size 256 c.args.self.now.size c.args.to.now (omega arith) c.requires.below) in
    omega (arith, c.requires.room, ap (λ (r : RadioState). r.room) c.self.view_is)

pub cast-requires-clause-next : goal.cast-requires-clause-next
cast-requires-clause-next c =
    let size = ap (λ (r : RadioState). r.size) c.self.view_is in
    let few = c.self.invariant.few in
    let same = ap length (members-size 256 c.args.self.now.size c.args.to.now (omega arith) c.requires.below) in
    let most = members_few c.args.self.now.size c.args.to.now in
    omega (arith, c.requires.next, ap (λ (r : RadioState). r.next_copy) c.self.view_is)

pub invariant_of-self : goal.invariant_of-self
invariant_of-self c =
    let size = ap (λ (r : RadioState). r.size) c.self.view_is in
    let n = c.self.inside.links.size in
    record {
      few = c.self.invariant.few;
      same = c.self.invariant.same;
      linked = c.self.invariant.linked;
      between = subst (λ (v : Flights). AllByRecursion (IsBetween n) v.flying) (sym c.cast.ensures)
          (cast-between n c.self.inside.copies c.args.from c.as_slice.result.now 256 c.args.to.now c.self.invariant.between (omega (arith, c.requires.from)) (λ q is. let lt = c.requires.below q is in omega arith) c.requires.apart);
      long = subst (λ (v : Flights). AllByRecursion IsPacketLong v.flying) (sym c.cast.ensures)
          (cast-long c.self.inside.copies c.args.from c.as_slice.result.now (member_list c.args.to.now) c.self.invariant.long c.as_slice.ensures.fits);
    }

pub returns-clause-copies : goal.returns-clause-copies
returns-clause-copies c =
    let size = ap (λ (r : RadioState). r.size) c.self.view_is in
    let few = c.self.invariant.few in
    let n = c.self.inside.links.size in
    let same = members-size 256 n c.args.to.now (omega arith) (λ q is. let lt = c.requires.below q is in omega arith) in
    let bytes : c.as_slice.result.now ≡ c.args.packet.now.items = c.as_slice.ensures.value in
    ap (radio_of c.self.inside.links c.self.inside.ever) (c.cast.ensures
    ∙ (λ i. with_flights c.self.inside.copies c.args.from (bytes i) (same i)))
    ∙ ap (λ (r : RadioState). with_copies r c.args.from c.args.packet.now.items c.args.to.now) c.self.view_is

pub returns-clause-few : goal.returns-clause-few
returns-clause-few c =
    let size = ap (λ (r : RadioState). r.size) c.self.view_is in
    let few = c.self.invariant.few in
    let next = ap (λ (v : Flights). v.next_copy) c.cast.ensures in
    let same = ap length (members-size 256 c.args.self.now.size c.args.to.now (omega arith) c.requires.below) in
    let most = members_few c.args.self.now.size c.args.to.now in
    omega (arith, ap (λ (r : RadioState). r.next_copy) c.self.view_is)
