use Rattle.std.proofs.Common.{◌≡◌, ◌+◌, suc, drop, Some, sym, ap, subst, ◌∙◌, arith}
use Rattle.std.specs.Prelude.{slice_get}
use Rattle.mesh_base.specs.Views.{flying_seen}
use Rattle.mesh_radio.proofs.Finds.{from_zero}
use Rattle.mesh_radio.proofs.Ranks.{some-left, first-left, left-after}
use Rattle.mesh_radio.proofs.radio.Radio.at.Goals as goal

pub ranks-init : goal.ranks-init
ranks-init c = record { here = omega arith; ahead = from_zero c.args.self.now.flying }

pub unreachable-requires : goal.unreachable-requires
unreachable-requires c =
    let here = c.ranks.invariant.here in
    let within = c.requires in
    some-left c.args.self.now.flying c.ranks.rank (omega arith) (sym c.ranks.invariant.ahead ∙ c.in_default.ensures.none)

pub returns-then-rank-k : goal.returns-then-rank-k
returns-then-rank-k c =
    let flying = c.args.self.now.flying in
    subst (λ n. slice_get flying n ≡ Some (flying_seen c.in-Some.copy)) c.if-rank-k.true
    (first-left flying _ c.ranks.rank _ (sym c.ranks.invariant.ahead ∙ c.in-Some.ensures.some))

pub ranks-preserved : goal.ranks-preserved
ranks-preserved c =
    let flying = c.args.self.now.flying in
    let here = c.ranks.invariant.here in
    let other = c.if-rank-k.false in
    let next : c.ranks.rank + 1 ≡ suc c.ranks.rank = omega arith in
    record {
      here = omega arith;
      ahead = sym (ap (λ n. drop n flying) next ∙ left-after flying _ c.ranks.rank _ (sym c.ranks.invariant.ahead ∙ c.in-Some.ensures.some));
    }
