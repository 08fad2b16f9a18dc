use Rattle.std.proofs.Common.{◌≡◌, ◌<◌, ◌≤◌, ◌*◌, ◌^◌, ℕ, length}
use Rattle.aodv_model.specs.Cores.{next_request_id}
use Rattle.mesh_save.proofs.Rows.{rows_before}
use Rattle.mesh_save.proofs.requests.count_asked.Given as goal

abbrev pub invariant-loop-origin : goal.invariant-loop-origin
invariant-loop-origin l = (l.count ≡ length (rows_before l.asked.pairs l.origin)) × (l.count ≤ l.origin * 2 ^ 32) × ((o : ℕ) → o < l.origin → next_request_id l.asked.pairs o ≤ 2 ^ 32)
