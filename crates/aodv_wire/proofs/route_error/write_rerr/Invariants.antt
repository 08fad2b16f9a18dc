use Rattle.std.proofs.Common.{◌≡◌, ◌+◌, ◌*◌, ◌<◌, ℕ, ◌∷◌, [], ◌++◌, length, take, get_or}
use Rattle.std.specs.List.{flat_map}
use Rattle.mesh_base.specs.declared.addr.Addr.{Addr}
use Rattle.aodv_wire.proofs.Writes.{pair_cells, PairFits}
use Rattle.aodv_wire.proofs.route_error.write_rerr.Given as goal

abbrev pub invariant-loop-a : goal.invariant-loop-a
invariant-loop-a l = record {
  bytes : l.out.items ≡ (3 ∷ 0 ∷ 0 ∷ length l.pairs ∷ []) ++ flat_map pair_cells (take l.a-index l.pairs);
  len : length l.out.items ≡ 4 + 8 * l.a-index;
  fits : (k : ℕ) (d : Addr × ℕ) → k < l.a-index → PairFits (get_or l.pairs k d);
}
