use Rattle.std.proofs.Common.{◌≡◌, ◌≢◌, ℕ, ◌||◌, Bool, true, false, not, refl, sym, ap, ◌∙◌}
use Rattle.std.specs.Prelude.{◌==◌}
use Rattle.std.proofs.lemmas.Bool.{ne_eqb}
use Rattle.aodv_model.specs.Tables.{in_vD}
use Rattle.aodv_model.specs.Handlers.{reply_on}
use Rattle.aodv_handlers.specs.Shown.{core_of, reply_of}
use Rattle.aodv_handlers.proofs.Replies.{new_goes_on}
use Rattle.aodv_handlers.proofs.rrep.reply_to_pass_on.Goals as goal

-- the reply isn't for this node, and it has a route back to who asked
goes : (oip ip : ℕ) (r r' : Bool) → oip ≢ ip → r ≡ r' → r ≡ true → ((oip == ip) || not r') ≡ false
goes oip ip r r' other same there = rw (ne_eqb oip ip other, sym same ∙ there) refl

pub returns-in-Reply-clause-does : goal.returns-in-Reply-clause-does
returns-in-Reply-clause-does g c =
    let core = core_of g.T.Table.entries c.args.core.now in
    let m = reply_of c.args.m in
    let on = goes m.oip core.ip c.has_route.result (in_vD core.rt m.oip) c.if-m-core.false c.has_route.ensures c.if-not-has_route.false in
    λ range. rw on (ap (λ v. reply_on v core (not c.args.changed) range m) c.in-Reply.is ∙ c.own_reply.ensures.does (not c.args.changed) range)

pub returns-in_default : goal.returns-in_default
returns-in_default g c =
    let core = core_of g.T.Table.entries c.args.core.now in
    let m = reply_of c.args.m in
    let on = goes m.oip core.ip c.has_route.result (in_vD core.rt m.oip) c.if-m-core.false c.has_route.ensures c.if-not-has_route.false in
    record {
      does = λ range. rw on (ap (λ (b : Bool). reply_on core.variant core (not b) range m) c.if-changed.true ∙ new_goes_on core.variant core range m c.in_default.not-Reply);
      same = record { dip = refl; oip = refl; dsn = c.requires.dsn };
    }
