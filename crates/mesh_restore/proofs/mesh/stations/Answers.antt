use Rattle.std.proofs.Common.{arith, ◌∙◌, ap, ◌+◌, ℕ}
use Rattle.std.proofs.lemmas.List.{length_push}
use Rattle.mesh_checkpoint.specs.Checkpoint as model
use Rattle.mesh_restore.proofs.MeshLists.{addresses_rise, addresses_before}
use Rattle.mesh_checkpoint.proofs.Loop.{goes_on, falls}
use Rattle.mesh_restore.proofs.mesh.stations.Goals as goal

pub loop-preserved : goal.loop-preserved
loop-preserved c = rw c.append.ensures record {
  so_far = goes_on (λ p. p.0) model.station.get c.args.count c.loop.counter c.loop.low c.args.bytes.now c.loop.mesh c.loop.rest.now (c.in_ok-station.station.address, c.in_ok-station.station.first) c.in_ok-station.behind.now _ (omega arith) c.in_ok-station.ensures.value (omega (arith, c.in_ok-low.ensures.order)) (omega (arith, c.in_ok-low.ensures.next)) c.loop.invariant.so_far;
  below = addresses_rise c.loop.mesh c.loop.low c.in_ok-station.station.address c.in_ok-station.station.first _ c.loop.invariant.below (omega arith) (omega arith);
  many = length_push c.loop.mesh (c.in_ok-station.station.address, c.in_ok-station.station.first) ∙ ap (λ (n : ℕ). n + 1) c.loop.invariant.many;
}

pub returns-in_err-low : goal.returns-in_err-low
returns-in_err-low c =
    rw c.from_residual-in_err-low.ensures (falls (λ p. p.0) model.station.get c.args.count c.loop.counter c.loop.low c.args.bytes.now c.loop.mesh c.loop.rest.now (c.in_ok-station.station.address, c.in_ok-station.station.first) c.in_ok-station.behind.now
    (omega arith) c.in_ok-station.ensures.value (omega (arith, c.in_err-low.ensures.order)) c.loop.invariant.so_far)

pub append-requires-clause-last : goal.append-requires-clause-last
append-requires-clause-last c = addresses_before c.loop.mesh c.loop.low c.in_ok-station.station.address c.loop.invariant.below (omega arith)
