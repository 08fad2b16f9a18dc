use Rattle.std.proofs.Common.{ap, sym, subst, ◌∙◌, arith}
use Rattle.std.specs.List.{AllByRecursion}
use Rattle.mesh_radio.specs.Copies.{find_copy, IsBetween, IsPacketLong}
use Rattle.mesh_radio.specs.Radios.{RadioState, with_double}
use Rattle.mesh_radio.specs.Kept.{Flights, radio_of}
use Rattle.mesh_radio.proofs.Finds.{all-found}
use Rattle.mesh_radio.proofs.CastCopies.{second-all, second-seen}
use Rattle.mesh_radio.proofs.radio.Radio.double.Goals as goal

pub double-requires-clause-fits : goal.double-requires-clause-fits
double-requires-clause-fits c f found =
    let copies = c.self.inside.copies in
    let long = all-found IsPacketLong copies.flying c.args.id f c.self.invariant.long found in
    let most = ap (λ (r : RadioState). r.most) c.self.view_is in
    omega (arith, c.requires.room.1)

pub invariant_of-self : goal.invariant_of-self
invariant_of-self c =
    let kept = c.self.invariant in
    let copies = c.self.inside.copies in
    let size = c.self.inside.links.size in
    let second = find_copy copies.flying c.args.id in
    record {
      few = kept.few;
      same = kept.same;
      linked = kept.linked;
      between = subst (λ (v : Flights). AllByRecursion (IsBetween size) v.flying) (sym c.double.ensures.doubled)
          (second-all (IsBetween size) copies second (λ f is. all-found (IsBetween size) copies.flying c.args.id f kept.between is) kept.between);
      long = subst (λ (v : Flights). AllByRecursion IsPacketLong v.flying) (sym c.double.ensures.doubled)
          (second-all IsPacketLong copies second (λ f is. all-found IsPacketLong copies.flying c.args.id f kept.long is) kept.long);
    }

pub returns-clause-doubled : goal.returns-clause-doubled
returns-clause-doubled c =
    let inside = c.self.inside in
    ap (radio_of inside.links inside.ever) c.double.ensures.doubled
    ∙ second-seen inside.links inside.ever inside.copies (find_copy inside.copies.flying c.args.id)
    ∙ ap (λ (r : RadioState). with_double r (find_copy r.flying c.args.id)) c.self.view_is
