use Rattle.std.proofs.Common.{◌+◌, ◌∷◌, [], ap, sym, ◌∙◌, arith}
use Rattle.mesh_base.specs.Members.{members_below}
use Rattle.mesh_base.proofs.Ranks.{members-zero, members-next, members-none, members-one, members-rise}
use Rattle.mesh_radio.specs.Kept.{Flights, with_flights}
use Rattle.mesh_radio.proofs.CastCopies.{with_flights-none, with_flights-push}
use Rattle.mesh_radio.proofs.copies.Copies.launch_each.Goals as goal

pub receivers-init : goal.receivers-init
receivers-init c =
    let a = c.args.self.now in
    record {
      launched = with_flights-none a c.args.from c.args.bytes.now ∙ ap (with_flights a c.args.from c.args.bytes.now) (sym (members-zero c.args.to.now));
      within = omega arith;
    }

pub launch_one-requires-clause-room : goal.launch_one-requires-clause-room
launch_one-requires-clause-room c =
    let to = c.args.to.now in
    let least = c.in-Some.ensures.least in
    let room = ap (λ (v : Flights). v.room) c.receivers.invariant.launched in
    let one = members-one c.in-Some.receiver c.receivers.start to least.0 least.1 least.2 in
    let all = members-rise 256 (c.in-Some.receiver + 1) to (omega (arith, c.in-Some.ensures.below)) in
    omega (arith, c.requires.room)

pub launch_one-requires-clause-next : goal.launch_one-requires-clause-next
launch_one-requires-clause-next c =
    let to = c.args.to.now in
    let least = c.in-Some.ensures.least in
    let next = ap (λ (v : Flights). v.next_copy) c.receivers.invariant.launched in
    let one = members-one c.in-Some.receiver c.receivers.start to least.0 least.1 least.2 in
    let all = members-rise 256 (c.in-Some.receiver + 1) to (omega (arith, c.in-Some.ensures.below)) in
    omega (arith, c.requires.next)

pub receivers-preserved : goal.receivers-preserved
receivers-preserved c =
    let a = c.args.self.now in
    let to = c.args.to.now in
    let from = c.args.from in
    let bytes = c.args.bytes.now in
    let receiver = c.in-Some.receiver in
    let least = c.in-Some.ensures.least in
    record {
      launched = c.launch_one.ensures
          ∙ ap (λ (v : Flights). with_flights v from bytes (receiver ∷ [])) c.receivers.invariant.launched
          ∙ with_flights-push a from receiver bytes (members_below c.receivers.start to)
          ∙ ap (with_flights a from bytes) (sym (members-next receiver c.receivers.start to least.0 least.1 least.2));
      within = omega (arith, c.in-Some.ensures.below);
    }

pub returns : goal.returns
returns c =
    let to = c.args.to.now in
    let all = members-none 256 c.receivers.start to c.receivers.invariant.within (λ q late below. c.in_default.ensures.least q late) in
    c.receivers.invariant.launched ∙ ap (with_flights c.args.self.now c.args.from c.args.bytes.now) (sym all)
