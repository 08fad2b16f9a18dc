use Rattle.std.proofs.Common.{◌≡◌, ℕ, sym, ◌∙◌}
use Rattle.aodv_model.specs.Pairs.{Pairs}
use Rattle.mesh_base.specs.declared.events.Variant.{Variant}
use Rattle.aodv_model.specs.Cores.{RouteRequest, has_seen}
use Rattle.aodv_model.specs.Handlers.{key_of}
use Rattle.aodv_meaning.specs.Meaning.{request_in}
use Rattle.aodv_handlers.proofs.rreq.on_rreq.Goals as goal

-- the same request, with its nodes named in two ways
seen_alike : (seen : Pairs) (v : Variant) (m : RouteRequest) (dip oip dip' oip' : ℕ) → dip ≡ dip' → oip ≡ oip'
    → has_seen seen (key_of v (record m { dip = dip'; oip = oip' })) ≡ has_seen seen (key_of v (record m { dip = dip; oip = oip }))
seen_alike seen v m dip oip dip' oip' dips oips = λ i. has_seen seen (key_of v (record m { dip = sym dips i; oip = sym oips i }))

pub returns-then-has_seen-clause-does : goal.returns-then-has_seen-clause-does
returns-then-has_seen-clause-does g c =
    let mesh = c.args.mesh.now in
    let core = c.args.core.now in
    let m = request_in mesh c.args.m.now in
    c.take_seen_request.ensures.does mesh c.args.range.now m
    (seen_alike core.asked.pairs core.variant m c.index_in.result c.index_in-2.result m.dip m.oip c.index_in.ensures.value c.index_in-2.ensures.value
    ∙ sym c.has_seen.ensures ∙ c.if-has_seen.true)
