use Rattle.std.proofs.Common.{refl, subst, arith}
use Rattle.mesh_text.specs.Schedule.{RunState}
use Rattle.mesh_report.specs.Sums.{sums_of}
use Rattle.mesh_run.specs.RunStates.{run_state_seen, IsSound}
use Rattle.mesh_run.proofs.Sound.{balanced_by, account_by, sound_parts, as_seen}
use Rattle.mesh_run.proofs.parts.Point+World.from_parts.Goals as goal

pub returns-then-sums-held-clause-exact : goal.returns-then-sums-held-clause-exact
returns-then-sums-held-clause-exact c =
    let m : RunState = run_state_seen c.args.variant c.args.mesh c.args.world (sums_of c.args.sums) c.args.lines in
    let totals = c.totals_of-totals in (
      λ no. absurd (let P : ⊥ = cc in P),
      λ balanced. absurd (let sum = account_by m totals.result (totals.ensures.are m refl) balanced in omega (arith, c.if-sums-held.true)),
    )

pub of_parts-requires : goal.of_parts-requires
of_parts-requires c =
    let a = c.args in
    let sums = sums_of a.sums in
    let m : RunState = run_state_seen a.variant a.mesh a.world sums a.lines in
    let totals = c.totals_of-totals in
    let balanced = balanced_by m totals.result (totals.ensures.are m refl) (omega (arith, c.if-sums-held.false)) in
    subst (λ seen. IsSound (run_state_seen a.variant a.mesh seen sums a.lines) seen) (as_seen a.world)
    (sound_parts a.variant a.mesh a.world sums a.lines c.len-size.ensures.is_mesh c.requires.few c.requires.world totals.ensures.sound balanced)
