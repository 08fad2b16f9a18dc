use Rattle.std.proofs.Common.{◌≡◌, ◌<◌, ◌≤◌, ◌^◌, ap, sym, ◌∙◌, ℕ, true, length, arith, inl, inr, subst}
use Rattle.std.specs.FinSet as sets
use Rattle.std.proofs.lemmas.Bool.{cases_lt}
use Rattle.aodv_model.specs.Cores.{next_request_id}
use Rattle.aodv_model.proofs.PairKeys.{none_before, all_before}
use Rattle.aodv_asked.proofs.Listed.{seen_below}
use Rattle.mesh_save.proofs.Rows.{rows_count, ids_few}
use Rattle.mesh_save.proofs.requests.count_asked.Goals as goal

pub loop-origin-init : goal.loop-origin-init
loop-origin-init c = (sym (ap length (none_before c.args.asked.now.pairs)), omega arith, λ o lt. absurd (omega (arith, lt)))

pub overflow_add-count : goal.overflow_add-count
overflow_add-count c =
    let pairs = c.args.asked.now.pairs in
    omega (arith, ids_few pairs c.loop-origin.origin (next_request_id pairs c.loop-origin.origin), c.count_of-count.ensures.count, c.count_of-count.ensures.few, c.loop-origin.invariant.1)

pub loop-origin-preserved : goal.loop-origin-preserved
loop-origin-preserved c =
    let pairs = c.args.asked.now.pairs in
    let o = c.loop-origin.origin in (
      rows_count pairs o (next_request_id pairs o) c.loop-origin.count c.count_of-count.result (λ q here. seen_below pairs o q here) c.loop-origin.invariant.0 c.count_of-count.ensures.count,
      omega (arith, ids_few pairs o (next_request_id pairs o), c.count_of-count.ensures.count, c.count_of-count.ensures.few, c.loop-origin.invariant.1),
      λ p lt. elim (cases_lt p o) [
        | inl less ↦ c.loop-origin.invariant.2 p less
        | inr ge ↦ let same : o ≡ p = omega (arith, lt, ge) in subst (λ (k : ℕ). next_request_id pairs k ≤ 2 ^ 32) same c.count_of-count.ensures.few
      ],
    )

pub returns-clause-count : goal.returns-clause-count
returns-clause-count c =
    let pairs = c.args.asked.now.pairs in
    let each : (o id : ℕ) → sets.contains pairs (o, id) ≡ true → o < c.loop-origin.origin = λ o id here. let lt = c.nodes-nodes.ensures.within o id here in omega (arith, lt, c.loop-origin-test.false) in
    c.loop-origin.invariant.0 ∙ ap length (all_before pairs c.loop-origin.origin each)

pub returns-clause-ids : goal.returns-clause-ids
returns-clause-ids c = λ p here.
    let pairs = c.args.asked.now.pairs in
    let lt = c.nodes-nodes.ensures.within p.0 p.1 here in
    let few = c.loop-origin.invariant.2 p.0 (omega (arith, lt, c.loop-origin-test.false)) in
    (omega (arith, lt, c.nodes-nodes.ensures.value, c.requires.size), omega (arith, few, seen_below pairs p.0 p.1 here))
