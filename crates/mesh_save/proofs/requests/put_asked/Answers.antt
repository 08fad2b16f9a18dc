use Rattle.std.proofs.Common.{◌≡◌, ◌<◌, ℕ, true, arith}
use Rattle.std.specs.FinSet as sets
use Rattle.aodv_model.specs.Cores.{next_request_id}
use Rattle.aodv_asked.proofs.Listed.{seen_below}
use Rattle.mesh_save.specs.Bytes.{request_bytes}
use Rattle.mesh_save.proofs.Puts.{row, no_rows, all_rows}
use Rattle.mesh_save.proofs.requests.put_asked.Goals as goal

pub loop-origin-init : goal.loop-origin-init
loop-origin-init g c = no_rows g.P.Encoder.wrote request_bytes c.args.asked.now.pairs _ (g.met.P.Encoder.nothing _)

pub loop-origin-preserved : goal.loop-origin-preserved
loop-origin-preserved g c =
    let pairs = c.args.asked.now.pairs in
    let o = c.loop-origin.origin in
    row g.P.Encoder.wrote g.met.P.Encoder.joins request_bytes pairs o (next_request_id pairs o) _ _ _ (λ q here. seen_below pairs o q here) c.loop-origin.invariant c.put_requests_of.ensures

pub returns-clause-bytes : goal.returns-clause-bytes
returns-clause-bytes g c =
    let pairs = c.args.asked.now.pairs in
    let each : (o id : ℕ) → sets.contains pairs (o, id) ≡ true → o < c.loop-origin.origin = λ o id here. let lt = (c.count_asked.ensures.ids (o, id) here).0 in omega (arith, lt, c.loop-origin-test.false) in
    rw (← c.count_asked.ensures.count) (g.met.P.Encoder.joins _ _ _ _ _ c.put32.ensures (all_rows g.P.Encoder.wrote request_bytes pairs c.loop-origin.origin _ _ each c.loop-origin.invariant))
