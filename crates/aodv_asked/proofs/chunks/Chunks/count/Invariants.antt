use Rattle.std.proofs.Common.{◌≡◌, take}
use Rattle.std.specs.List.{flat_map}
use Rattle.aodv_asked.specs.Spots.{total}
use Rattle.aodv_asked.proofs.ChunkLaws.{listed}
use Rattle.aodv_asked.proofs.chunks.Chunks.count.Given as goal

abbrev pub invariant-loop-chunk : goal.invariant-loop-chunk
invariant-loop-chunk l = l.count ≡ total (flat_map listed (take l.chunk-index l.chunk-items))
