use Rattle.std.proofs.Common.{◌≡◌, ◌≤◌, ◌+◌, ℕ, Option, None, get_or, length, sym, ◌∙◌, subst, inl, inr, arith}
use Rattle.std.proofs.Math.ListN.{replicate, get_or-eq_default}
use Rattle.std.proofs.lemmas.List.{get_or-replicate, length-replicate}
use Rattle.std.proofs.lemmas.Bool.{cases_lt}
use Rattle.aodv_model.specs.Tables.{Dests, accepted_unreachable}
use Rattle.aodv_meaning.specs.Meaning.{dests_in}
use Rattle.aodv_handlers.proofs.Stated.{HasTaken, taken_none, taken_more, taken_same, taken_all, accepted_is}
use Rattle.aodv_handlers.proofs.rerr.accept_dests.Goals.{in-Some, in_default}
use Rattle.aodv_handlers.proofs.rerr.accept_dests.Goals as goal

all_none : (n d : ℕ) → get_or {A = Option ℕ} (replicate n None) d None ≡ None
all_none n d =
    let nothing : Option ℕ = None in
    elim (cases_lt d n) [
      | inl lt ↦ get_or-replicate n d nothing nothing lt
      | inr le ↦ let size = length-replicate n nothing in get_or-eq_default (replicate n nothing) nothing (omega arith)
    ]

pub state_numbers-requires-clause-none : goal.state_numbers-requires-clause-none
state_numbers-requires-clause-none g c = λ d. all_none 200 d

pub loop-d-init : goal.loop-d-init
loop-d-init g c =
    taken_none (accepted_unreachable (g.T.Table.entries c.args.table.now) c.args.from (dests_in c.args.mesh.now c.args.m.now)) c.clear.new.self c.clear.ensures.map c.clear.ensures.entries

pub loop-d-preserved : goal.loop-d-preserved
loop-d-preserved g c =
    let rt = g.T.Table.entries c.args.table.now in
    let accepted = accepted_unreachable rt c.args.from (dests_in c.args.mesh.now c.args.m.now) in
    let is = accepted_is c.args.mesh.now rt c.args.from c.loop-d.d c.args.m.now _ c.accepted_number.result (c.state_numbers.ensures.numbers c.loop-d.d) c.accepted_number.ensures in
    elim c.match-accepted_number.branch [
      | in-Some w ↦
          subst (λ (dests : Dests). HasTaken accepted (c.loop-d.d + 1) dests) (sym w.dests-is)
          (taken_more accepted c.loop-d.dests w.push.new.self c.loop-d.d w.in-Some.number c.loop-d.invariant (sym is ∙ w.in-Some.is) w.push.ensures.map w.push.ensures.entries)
      | in_default w ↦
          subst (λ (dests : Dests). HasTaken accepted (c.loop-d.d + 1) dests) (sym w.dests-is)
          (taken_same accepted c.loop-d.dests c.loop-d.d c.loop-d.invariant (sym is ∙ w.in_default.is))
    ]

pub returns : goal.returns
returns g c =
    let end : length c.args.mesh.now ≤ c.loop-d.d = omega (arith, c.len-d-end.ensures.value, c.loop-d-test.false) in
    taken_all c.args.mesh.now (g.T.Table.entries c.args.table.now) c.args.from c.args.m.now c.loop-d.d c.loop-d.dests c.requires.known c.loop-d.invariant end
