use Rattle.std.proofs.Common.{arith, ◌≡◌, ◌+◌, ap, sym}
use Rattle.mesh_checkpoint.specs.Checkpoint as model
use Rattle.std.proofs.lemmas.Result.{err_from_is_err_and}
use Rattle.mesh_checkpoint.specs.Points.{waits_in}
use Rattle.mesh_restore.proofs.StoreLists.{no_waits}
use Rattle.mesh_restore.proofs.Listings.{none_listed}
use Rattle.aodv_model.specs.Cores.{Waiting}
use Rattle.mesh_checkpoint.proofs.Loop.{starts}
use Rattle.mesh_restore.proofs.Loop.{goes_on_from, stops_from}
use Rattle.mesh_restore.proofs.store.rows.Goals as goal

pub loop-init : goal.loop-init
loop-init c = rw c.in_ok-waiting.ensures.store record {
  so_far = rw no_waits (starts (λ w. w.dest) (model.waits c.args.nodes).get c.args.count c.args.bytes.now);
  below = none_listed Waiting;
  nodes = c.in_ok-waiting.ensures.nodes;
}

pub returns-in_err-dest-clause-value : goal.returns-in_err-dest-clause-value
returns-in_err-dest-clause-value c =
    let p = err_from_is_err_and c.from_residual-in_err-dest.result c.from_residual-in_err-dest.ensures.1 in
    rw (p.1, p.2) (stops_from (λ w. w.dest) (model.waits c.args.nodes).get c.args.count c.loop.counter c.loop.low c.args.bytes.now (waits_in (c.loop.waiting).store) c.loop.rest.now c.in_err-dest.field-0.0 (omega arith) c.in_err-dest.ensures.read c.loop.invariant.so_far)

pub loop-preserved : goal.loop-preserved
loop-preserved c =
    let k = c.in_ok-dest.ensures.read in
    let next : c.in_ok-dest.dest + 1 ≡ (k.found).dest + 1 = ap (λ n. n + 1) (sym k.dest) in
    rw c.in_ok-dest.ensures.nodes record {
      so_far = rw k.last (goes_on_from (λ w. w.dest) (model.waits c.args.nodes).get c.args.count c.loop.counter c.loop.low c.args.bytes.now (waits_in (c.loop.waiting).store) c.loop.rest.now k.found c.in_ok-dest.behind.now _ (omega arith) k.read_is next c.loop.invariant.so_far);
      below = k.below;
      nodes = c.loop.invariant.nodes;
    }
