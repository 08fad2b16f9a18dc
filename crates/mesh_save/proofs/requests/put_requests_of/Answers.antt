use Rattle.std.proofs.Common.{ℕ, Option, subst}
use Rattle.mesh_save.specs.Bytes.{request_bytes}
use Rattle.mesh_save.proofs.Ids.{AreIdsPut, fewer_left, none_put, one_put, all_put}
use Rattle.mesh_save.proofs.requests.put_requests_of.Goals as goal

pub ids-init : goal.ids-init
ids-init g c = none_put g.P.Encoder.wrote request_bytes c.args.asked.now.pairs c.args.origin c.first-next.result _ c.first-next.ensures (g.met.P.Encoder.nothing _)

pub ids-smaller : goal.ids-smaller
ids-smaller g c =
    let inv = subst (λ (n : Option ℕ). AreIdsPut g.P.Encoder.wrote request_bytes c.args.asked.now.pairs c.args.origin n c.args.encoder.now c.ids.encoder) c.in-Some.is c.ids.invariant in
    rw c.in-Some.is (fewer_left c.args.asked.now.pairs c.args.origin c.in-Some.id c.after-next.result inv.least.1 c.after-next.ensures)

pub ids-preserved : goal.ids-preserved
ids-preserved g c =
    let inv = subst (λ (n : Option ℕ). AreIdsPut g.P.Encoder.wrote request_bytes c.args.asked.now.pairs c.args.origin n c.args.encoder.now c.ids.encoder) c.in-Some.is c.ids.invariant in
    one_put g.P.Encoder.wrote g.met.P.Encoder.joins request_bytes c.args.asked.now.pairs c.args.origin c.in-Some.id c.after-next.result c.args.encoder.now c.ids.encoder c.put32.new.encoder inv (rw (← c.from.ensures) (g.met.P.Encoder.joins _ _ _ _ _ c.put16.ensures c.put32.ensures)) c.after-next.ensures

pub returns : goal.returns
returns g c =
    let inv = subst (λ (n : Option ℕ). AreIdsPut g.P.Encoder.wrote request_bytes c.args.asked.now.pairs c.args.origin n c.args.encoder.now c.ids.encoder) c.in_default.is c.ids.invariant in
    all_put g.P.Encoder.wrote request_bytes c.args.asked.now.pairs c.args.origin c.args.encoder.now c.ids.encoder inv
