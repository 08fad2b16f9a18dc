use Rattle.std.proofs.Common.{◌≡◌, take}
use Rattle.aodv_router.proofs.tells.copy_of.Given as goal

-- the bytes so far
abbrev pub invariant-loop-b : goal.invariant-loop-b
invariant-loop-b l = l.body.items ≡ take l.b-index l.bytes
