use Rattle.std.proofs.Common.{◌≡◌, true, refl, sym, ap, ◌∙◌}
use Rattle.aodv_model.specs.contracts.entry.Flag.{the_type}
use Rattle.aodv_model.specs.declared.entry.Flag.{Flag}
use Rattle.aodv_model.specs.declared.entry.Flag.TheVariants.{Val, Inv}
use Rattle.aodv_model.specs.Quality.{is_val}
use Rattle.aodv_model.specs.Tables.{in_vD, is_valid_in}
use Rattle.aodv_handlers.specs.Shown.{core_of, reply_of}
use Rattle.aodv_handlers.proofs.Replies.{own_is}
use Rattle.aodv_handlers.proofs.rrep.own_reply.Goals as goal
use denote.Enum.Bare.{sameb}

is_route : (f : Flag) → sameb the_type f Val ≡ true → is_val f ≡ true
is_route Val same = refl
is_route Inv same = cc

pub returns-in-Some-clause-does : goal.returns-in-Some-clause-does
returns-in-Some-clause-does g c = λ stale range.
    let core = core_of g.T.Table.entries c.args.core.now in
    let valid : in_vD core.rt c.args.m.dip ≡ true = ap is_valid_in (sym c.get.ensures.value ∙ c.in-Some.is) ∙ is_route c.in-Some.e.flag (sym c.eq.ensures ∙ c.if-eq.true) in
    rw valid (own_is core range (reply_of c.args.m) c.in-Some.e (sym c.get.ensures.value ∙ c.in-Some.is))
