-- What each turn, send and request keeps.
use Rattle.std.proofs.Common.{◌≡◌, ℕ, ◌+◌, ◌≤◌, true, Some, None, Option, refl, sym, ◌∙◌, subst, arith, inr}
use Rattle.std.specs.Prelude.{⊤, max}
use Rattle.std.proofs.lemmas.Bool.{eqb-true}
use Rattle.std.proofs.lemmas.Bool.Decides.{nat_tests}
use Rattle.std.specs.FinMap as maps
use Rattle.aodv_model.specs.Quality.{inc, is_kno}
use Rattle.aodv_model.specs.declared.entry.Entry.{Entry}
use Rattle.aodv_model.proofs.Changes.{Raises, accepted_raises, unreachable_by_raises}
use Rattle.aodv_model.proofs.Readings.{join_answer_alike, join_reply_alike, known_number, valid_flag}
use Rattle.aodv_model.specs.Cores.{Core, Item, Message, Pkt, RouteReply, RouteRequest, Rrep, Rreq}
use Rattle.aodv_model.specs.Handlers.{All, Cast, Many, Nothing, One, Reaction, after_hearing, after_reply, after_request, ask, broken_by, can_answer, error_cast, forward_own_entry, forward_reply, forward_request, join_answer_precursors, join_reply_precursors, link_broken, on_rerr, one, plain, reply_for_self, reply_from_table, retract, send, turn, unicast, Effect}
use Rattle.aodv_model.specs.Tables.{Dests, Table, add_pre, dhops, hops_in, in_vD, is_valid_in, nhop, number_in, sqn, sqnf, status_in, unreachable_by}
use Rattle.mesh_base.specs.Members.{NodeIds}
use Rattle.mesh_base.specs.declared.events.Variant.{Variant}
use Rattle.mesh_model.proofs.Leads.{IsFine, Leads, add_pre_leads, invalidate_leads, leads_none, leads_then, neighbour_leads, route_leads, route_reaches}
use Rattle.mesh_model.specs.Invariants.{AtLeast, IsHonest, IsHonestItem}
use Rattle.aodv_model.proofs.Reactions.{unicast_case, error_case, data_error_case, ReactionCases, turn_cases, send_cases}

abbrev pub IsHonestCast : Table → ℕ → Cast → Type 0
IsHonestCast rt from Nothing = ⊤
IsHonestCast rt from (One y m) = IsHonest rt from m
IsHonestCast rt from (Many s m) = IsHonest rt from m
IsHonestCast rt from (All m) = IsHonest rt from m

-- a core in order
pub record IsFit (tables : ℕ → Table) (core : Core) : Type 0 where
  pub number : 1 ≤ core.sn
  pub fine : IsFine tables core.rt

-- the core comes to what is done
pub record IsOk (tables : ℕ → Table) (core : Core) (did : Reaction) : Type 0 where
  pub leads : Leads tables core.rt (did.core).rt
  pub number : 1 ≤ (did.core).sn
  pub named : (did.core).ip ≡ core.ip
  pub cast : IsHonestCast (did.core).rt core.ip (did.effect).cast

-- what is done from a core that this one came to
pub ok_from : {tables : ℕ → Table} {a b : Core} {did : Reaction} → Leads tables a.rt b.rt → b.ip ≡ a.ip → IsOk tables b did → IsOk tables a did
ok_from {did = did} leads named ok = record {
  leads = leads_then leads ok.leads;
  number = ok.number;
  named = ok.named ∙ named;
  cast = subst (λ ip. IsHonestCast (did.core).rt ip (did.effect).cast) named ok.cast;
}

-- what is done with a core in order as it is
plain_ok : (tables : ℕ → Table) (core : Core) (effect : Effect) → IsFit tables core → IsHonestCast core.rt core.ip effect.cast → IsOk tables core (plain core effect)
plain_ok tables core effect fit honest = record { leads = leads_none fit.fine; number = fit.number; named = refl; cast = honest }

-- ---- breaks

error_honest : (variant : Variant) (rt rt' : Table) (ip : ℕ) (dests : Dests) → IsHonestCast rt' ip (error_cast variant rt dests)
error_honest variant rt rt' ip dests = error_case (IsHonestCast rt' ip) variant rt dests tt (λ _. tt) (λ _. tt)

retract_ok : (tables : ℕ → Table) (core : Core) (dests : Dests) → IsFit tables core → Raises core.rt dests → IsOk tables core (retract core dests)
unfolding retract
retract_ok tables core dests fit raises = record {
  leads = invalidate_leads tables core.rt dests fit.fine raises;
  number = fit.number;
  named = refl;
  cast = error_honest core.variant core.rt _ core.ip dests;
}

broken_ok : (tables : ℕ → Table) (core : Core) (y : ℕ) → IsFit tables core → IsOk tables core (broken_by y (link_broken core y))
unfolding link_broken
broken_ok tables core y fit =
    let ok = retract_ok tables core (unreachable_by core.rt y) fit (unreachable_by_raises core.rt y) in
    record { leads = ok.leads; number = ok.number; named = ok.named; cast = ok.cast }

unicast_ok : (tables : ℕ → Table) (core : Core) (m : Message) (y : ℕ) (range : NodeIds) → IsFit tables core → IsHonest core.rt core.ip m → IsOk tables core (unicast core m y range)
unicast_ok tables core m y range fit honest = unicast_case (IsOk tables core) core m y range (λ _. plain_ok tables core _ fit honest) (broken_ok tables core y fit)

-- the same where the table was changed first
joined_ok : (tables : ℕ → Table) (core : Core) (rt : Table) (m : Message) (y : ℕ) (range : NodeIds) → IsFit tables core → Leads tables core.rt rt → IsHonest rt core.ip m → IsOk tables core (unicast (record core { rt = rt }) m y range)
joined_ok tables core rt m y range fit leads honest =
    ok_from {a = core} {b = record core { rt = rt }} leads refl (unicast_ok tables (record core { rt = rt }) m y range (record { number = fit.number; fine = leads.fine }) honest)

own_in : (rt : Table) (d : ℕ) (o : Option Entry) → maps.get rt d ≡ o → is_valid_in o ≡ true → AtLeast rt d (number_in o) (hops_in o)
own_in rt d None is valid = cc
own_in rt d (Some e) is valid = record { entry = e; there = is; enough = inr (refl, valid_flag e.flag valid, omega arith) }

-- a node's own valid entry
pub own_at_least : (rt : Table) (d : ℕ) → in_vD rt d ≡ true → AtLeast rt d (sqn rt d) (dhops rt d)
own_at_least rt d valid = own_in rt d (maps.get rt d) refl valid

pub at_least_number : (rt : Table) (d n h : ℕ) → AtLeast rt d n h → n ≤ sqn rt d
at_least_number rt d n h at = rw at.there (let enough = at.enough in omega arith)

-- ---- requests

after_hearing_leads : (tables : ℕ → Table) (core : Core) (from : ℕ) → IsFine tables core.rt → Leads tables core.rt (after_hearing core from).rt
unfolding after_hearing
after_hearing_leads tables core from fine = neighbour_leads tables core.rt from fine

pub after_request_leads : (tables : ℕ → Table) (core : Core) (from : ℕ) (m : RouteRequest) → IsFine tables core.rt → IsHonest (tables from) from (Rreq m) → Leads tables core.rt (after_request core from m).rt
unfolding after_request
after_request_leads tables core from m fine honest =
    let first = after_hearing_leads tables core from fine in
    leads_then first (route_leads tables (after_hearing core from).rt m.oip m.osn m.hops from first.fine honest.0 honest.1)

pub after_request_reaches : (core : Core) (from : ℕ) (m : RouteRequest) → AtLeast (after_request core from m).rt m.oip m.osn (m.hops + 1)
unfolding after_request
after_request_reaches core from m = route_reaches (after_hearing core from).rt m.oip m.osn m.hops from

-- what is done from the core after a new request
request_ok : (tables : ℕ → Table) (core : Core) (from : ℕ) (m : RouteRequest) (did : Reaction) → IsFit tables core → IsHonest (tables from) from (Rreq m) → (IsFit tables (after_request core from m) → IsOk tables (after_request core from m) did) → IsOk tables core did
unfolding after_request after_hearing
request_ok tables core from m did fit honest next =
    let leads = after_request_leads tables core from m fit.fine honest in
    ok_from {a = core} {b = after_request core from m} leads refl (next (record { number = fit.number; fine = leads.fine }))

reply_for_self_ok : (tables : ℕ → Table) (core : Core) (range : NodeIds) (m : RouteRequest) → IsFit tables core → m.dip ≡ core.ip → IsOk tables core (reply_for_self core range m)
unfolding reply_for_self
reply_for_self_ok tables core range m fit own =
    let number = fit.number in
    let ok = unicast_ok tables (record core { sn = max core.sn m.dsn }) _ (nhop core.rt m.oip) range (record { number = omega arith; fine = fit.fine }) (omega arith, λ apart. absurd (apart (sym own))) in
    record { leads = ok.leads; number = ok.number; named = ok.named; cast = ok.cast }

pub join_answer_leads : (tables : ℕ → Table) (rt : Table) (d o from : ℕ) → IsFine tables rt → Leads tables rt (join_answer_precursors rt d o from)
unfolding join_answer_precursors
join_answer_leads tables rt d o from fine =
    let first = add_pre_leads tables rt d (one from) fine in
    leads_then first (add_pre_leads tables (add_pre rt d (one from)) o (one (nhop (add_pre rt d (one from)) d)) first.fine)

reply_from_table_ok : (tables : ℕ → Table) (core : Core) (range : NodeIds) (from : ℕ) (m : RouteRequest) → IsFit tables core → can_answer core m ≡ true → IsOk tables core (reply_from_table core range from m)
unfolding reply_from_table
reply_from_table_ok tables core range from m fit can =
    let rt = join_answer_precursors core.rt m.dip m.oip from in
    let leads : Leads tables core.rt rt = join_answer_leads tables core.rt m.dip m.oip from fit.fine in
    let valid : in_vD rt m.dip ≡ true = join_answer_alike is_valid_in core.rt m.dip m.oip from m.dip (λ e pre. refl) ∙ grind (arith, can) in
    let known : is_kno (sqnf rt m.dip) ≡ true = join_answer_alike (λ o. is_kno (status_in o)) core.rt m.dip m.oip from m.dip (λ e pre. refl) ∙ grind (arith, can) in
    joined_ok tables core rt _ _ range fit leads (known_number rt m.dip (maps.get rt m.dip) leads.fine.sound refl known, λ apart. own_at_least rt m.dip valid)

-- ---- replies

pub after_reply_leads : (tables : ℕ → Table) (core : Core) (from : ℕ) (m : RouteReply) → IsFine tables core.rt → IsHonest (tables from) from (Rrep m) → Leads tables core.rt (after_reply core from m).rt
unfolding after_reply
after_reply_leads tables core from m fine honest =
    let first = after_hearing_leads tables core from fine in
    leads_then first (route_leads tables (after_hearing core from).rt m.dip m.dsn m.hops from first.fine honest.0 honest.1)

pub after_reply_reaches : (core : Core) (from : ℕ) (m : RouteReply) → AtLeast (after_reply core from m).rt m.dip m.dsn (m.hops + 1)
unfolding after_reply
after_reply_reaches core from m = route_reaches (after_hearing core from).rt m.dip m.dsn m.hops from

-- what is done from the core after a reply
reply_ok : (tables : ℕ → Table) (core : Core) (from : ℕ) (m : RouteReply) (did : Reaction) → IsFit tables core → IsHonest (tables from) from (Rrep m) → (IsFit tables (after_reply core from m) → IsOk tables (after_reply core from m) did) → IsOk tables core did
unfolding after_reply after_hearing
reply_ok tables core from m did fit honest next =
    let leads = after_reply_leads tables core from m fit.fine honest in
    ok_from {a = core} {b = after_reply core from m} leads refl (next (record { number = fit.number; fine = leads.fine }))

pub join_reply_leads : (tables : ℕ → Table) (rt : Table) (d o : ℕ) → IsFine tables rt → Leads tables rt (join_reply_precursors rt d o)
unfolding join_reply_precursors
join_reply_leads tables rt d o fine =
    let first = add_pre_leads tables rt d (one (nhop rt o)) fine in
    let rt1 = add_pre rt d (one (nhop rt o)) in
    leads_then first (add_pre_leads tables rt1 (nhop rt1 d) (one (nhop rt1 o)) first.fine)

forward_reply_ok : (tables : ℕ → Table) (core : Core) (range : NodeIds) (m : RouteReply) → IsFit tables core → 1 ≤ m.dsn → AtLeast core.rt m.dip m.dsn (m.hops + 1) → IsOk tables core (forward_reply core range m)
unfolding forward_reply
forward_reply_ok tables core range m fit number at =
    let leads = join_reply_leads tables core.rt m.dip m.oip fit.fine in
    joined_ok tables core _ _ _ range fit leads (number, λ apart. leads.grows.keeps m.dip m.dsn (m.hops + 1) number at)

forward_own_entry_ok : (tables : ℕ → Table) (core : Core) (range : NodeIds) (m : RouteReply) → IsFit tables core → 1 ≤ m.dsn → AtLeast core.rt m.dip m.dsn (m.hops + 1) → in_vD core.rt m.dip ≡ true → IsOk tables core (forward_own_entry core range m)
unfolding forward_own_entry
forward_own_entry_ok tables core range m fit number at valid =
    let rt = join_reply_precursors core.rt m.dip m.oip in
    let leads : Leads tables core.rt rt = join_reply_leads tables core.rt m.dip m.oip fit.fine in
    let at' = leads.grows.keeps m.dip m.dsn (m.hops + 1) number at in
    let above : m.dsn ≤ sqn rt m.dip = at_least_number rt m.dip m.dsn (m.hops + 1) at' in
    let valid' : in_vD rt m.dip ≡ true = join_reply_alike is_valid_in core.rt m.dip m.oip m.dip (λ e pre. refl) ∙ valid in
    joined_ok tables core rt _ _ range fit leads (omega arith, λ apart. own_at_least rt m.dip valid')

-- ---- all

oks : (tables : ℕ → Table) (core : Core) (range : NodeIds) → IsFit tables core → ReactionCases core range (λ item did. IsHonestItem tables item → IsOk tables core did)
unfolding after_hearing after_request forward_request on_rerr
oks tables core range fit = record {
  own = λ b d _ honest. plain_ok tables core _ fit tt;
  stored = λ b d _ honest. record { leads = leads_none fit.fine; number = fit.number; named = refl; cast = tt };
  arrived = λ from b d o _ honest. plain_ok tables core _ fit tt;
  forwarded = λ from b d o _ honest. let ok = unicast_ok tables core (Pkt b d o) (nhop core.rt d) range fit tt in record { leads = ok.leads; number = ok.number; named = ok.named; cast = ok.cast };
  dropped = λ from b d o honest. plain_ok tables core _ fit (data_error_case (IsHonestCast core.rt core.ip) core d tt tt (λ _. tt));
  known = λ from m honest. record { leads = after_hearing_leads tables core from fit.fine; number = fit.number; named = refl; cast = tt };
  answered = λ from m _ mine honest. request_ok tables core from m _ fit honest (λ fit'. reply_for_self_ok tables _ range m fit' (eqb-true m.dip core.ip mine));
  vouched = λ from m _ _ can honest. request_ok tables core from m _ fit honest (λ fit'. reply_from_table_ok tables _ range from m fit' can);
  flooded = λ from m _ honest. request_ok tables core from m _ fit honest (λ fit'. plain_ok tables _ _ fit' (honest.0, λ apart. after_request_reaches core from m));
  ended = λ from m honest. reply_ok tables core from m _ fit honest (λ fit'. plain_ok tables _ _ fit' tt);
  passed = λ from m _ honest. reply_ok tables core from m _ fit honest (λ fit'. forward_reply_ok tables _ range m fit' honest.0 (after_reply_reaches core from m));
  restated = λ from m valid honest. reply_ok tables core from m _ fit honest (λ fit'. forward_own_entry_ok tables _ range m fit' honest.0 (after_reply_reaches core from m) valid);
  withdrawn = λ from dests honest.
      let leads = after_hearing_leads tables core from fit.fine in
      ok_from {a = core} {b = after_hearing core from} leads refl
      (retract_ok tables (after_hearing core from) _ (record { number = fit.number; fine = leads.fine }) (accepted_raises (after_hearing core from).rt from dests));
}

pub turn_ok : (tables : ℕ → Table) (core : Core) (range : NodeIds) (item : Item) → IsFit tables core → IsHonestItem tables item → IsOk tables core (turn core range item)
turn_ok tables core range item fit = turn_cases core range (λ item did. IsHonestItem tables item → IsOk tables core did) (oks tables core range fit) item

pub send_ok : (tables : ℕ → Table) (core : Core) (range : NodeIds) (d : ℕ) → IsFit tables core → IsOk tables core (send core range d)
send_ok tables core range d fit =
    send_cases (IsOk tables core) core range d (λ _. record { leads = leads_none fit.fine; number = fit.number; named = refl; cast = tt }) (broken_ok tables core (nhop core.rt d) fit)

pub ask_ok : (tables : ℕ → Table) (core : Core) (d : ℕ) → IsFit tables core → IsOk tables core (ask core d)
unfolding ask
ask_ok tables core d fit = record {
  leads = leads_none fit.fine;
  number = raised core.sn fit.number;
  named = refl;
  cast = (raised core.sn fit.number, λ apart. absurd (apart refl));
}
  where
    raised : (n : ℕ) → 1 ≤ n → 1 ≤ inc n
    raised n one = grind (arith, nat_tests)
