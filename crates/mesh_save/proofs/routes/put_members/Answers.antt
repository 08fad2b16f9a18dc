use Rattle.std.proofs.Common.{◌≡◌, length, sym, arith}
use Rattle.std.specs.Int.{w16, to_be_bytes}
use Rattle.mesh_base.specs.Members.{member_list}
use Rattle.mesh_save.proofs.Puts.{next, all}
use Rattle.mesh_save.proofs.routes.put_members.Goals as goal

pub loop-k-preserved : goal.loop-k-preserved
loop-k-preserved g c = next g.P.Encoder.wrote g.met.P.Encoder.joins (to_be_bytes w16) (member_list c.args.set.now) c.loop-k.k c.in-Some.i _ _ _ (sym c.in-Some.ensures.value) c.loop-k.invariant c.put16-in-loop-k.ensures

pub returns : goal.returns
returns g c =
    let same : c.loop-k.k ≡ length (member_list c.args.set.now) = omega arith in
    rw (← c.count-count.ensures.value) (g.met.P.Encoder.joins _ _ _ _ _ c.put16.ensures (all g.P.Encoder.wrote (to_be_bytes w16) (member_list c.args.set.now) c.loop-k.k _ _ same c.loop-k.invariant))
