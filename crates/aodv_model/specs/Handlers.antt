-- Part of what the headline says.
-- What a node does in one turn, at the send of a stored datum, and at a route request.
-- The variant `Base` is AWN's; what the other three do instead is said where they differ.
use Rattle.std.specs.Prelude.{ℕ, ◌+◌, Bool, true, false, not, ◌&&◌, ◌||◌, ◌==◌, nat_le, if◌then◌else◌, Option, Some, None, List, [], ◌∷◌, max, is_some}
use Rattle.std.specs.FinMap as maps
use Rattle.std.specs.FinSet as sets
use Rattle.mesh_base.specs.Members.{NodeIds}
use Rattle.mesh_base.specs.declared.events.Variant.{Variant}
use Rattle.mesh_base.specs.declared.events.Variant.TheVariants as variant
use Rattle.aodv_model.specs.declared.entry.Entry.{Entry}
use Rattle.aodv_model.specs.declared.entry.Known.TheVariants.{Kno, Unk}
use Rattle.aodv_model.specs.declared.entry.Flag.TheVariants.{Val}
use Rattle.aodv_model.specs.Quality.{is_kno, inc}
use Rattle.aodv_model.specs.Tables.{Table, Dests, dests_of, sqn, sqnf, in_vD, in_iD, nhop, dhops, precs, is_newer, is_shorter, update, invalidate, add_pre, unreachable_by, accepted_unreachable}
use Rattle.aodv_model.specs.Cores.{Body, RouteRequest, RouteReply, Message, Pkt, Rreq, Rrep, Rerr, Item, New, Heard, bodies_in, needs_in, in_qD, add, drop, unset, set, Core, has_seen, next_request_id}

-- ---- effects

-- to whom a message goes: to nobody, to one neighbour (unicast), to those of a set (groupcast), or
-- to all (broadcast)
pub data Cast : Type 0 where
  Nothing : Cast
  One : ℕ → Message → Cast
  Many : NodeIds → Message → Cast
  All : Message → Cast

-- what a step does besides making the new state: whether a datum is delivered here, and whether one
-- is lost; the next hop that a unicast failed to reach; and the message that is cast
pub record Effect : Type 0 where
  pub deliver : Bool
  pub lost : Bool
  pub broken : Option ℕ
  pub cast : Cast

-- a new core, and an effect
pub record Reaction : Type 0 where
  pub core : Core
  pub effect : Effect

-- what is taken from the queue: a datum for the node itself, a datum that now waits for a route, or
-- a neighbour's message
pub data Took : Type 0 where
  Own : (body : Body) → Took
  Stored : (dip : ℕ) → Took
  FromNeighbour : (from : ℕ) → Message → Took

-- ---- building effects

-- no effect
abbrev pub quiet : Effect
quiet = record { deliver = false; lost = false; broken = None; cast = Nothing }

-- this cast, and no other effect
abbrev pub casting : Cast → Effect
casting c = record quiet { cast = c }

-- a datum is delivered
abbrev pub delivering : Effect
delivering = record quiet { deliver = true }

-- this core and effect
abbrev pub plain : Core → Effect → Reaction
plain core effect = record { core = core; effect = effect }

-- this core, with no effect
abbrev pub only : Core → Reaction
only core = plain core quiet

-- the reaction, in which a datum is lost too
abbrev pub losing : Reaction → Reaction
losing reaction = record reaction { effect = record (reaction.effect) { lost = true } }

-- the reaction, in which a datum is lost if a link broke
abbrev pub losing_if_broken : Reaction → Reaction
losing_if_broken reaction = record reaction {
  effect = record (reaction.effect) { lost = is_some (reaction.effect).broken };
}

-- the reaction, in which the unicast to y failed
abbrev pub broken_by : ℕ → Reaction → Reaction
broken_by y reaction = record reaction { effect = record (reaction.effect) { broken = Some y } }

-- ---- route errors and broken links (RFC 3561, section 6.11)

-- the set of y alone
abbrev pub one : ℕ → NodeIds
one y = sets.insert sets.empty y

-- no node is in the set
abbrev pub is_empty : NodeIds → Bool
is_empty s = sets.len s == 0

-- the variant is `Error`
abbrev pub is_error : Variant → Bool
is_error variant.Base = false
is_error variant.Number = false
is_error variant.Reply = false
is_error variant.Error = true

-- the union of the precursors of the destinations in the list
abbrev pub all_precs : Table → List ℕ → NodeIds
all_precs rt [] = sets.empty
all_precs rt (d ∷ ds) = sets.union (precs rt d) (all_precs rt ds)

-- the union of the precursors of the destinations in the map
unfoldable pub precs_of : Table → Dests → NodeIds
precs_of rt dests = all_precs rt (maps.keys dests)

-- the destinations in the map that have precursors
unfoldable pub with_precs : Table → Dests → Dests
with_precs rt dests = maps.retain_keys dests (λ d. not (is_empty (precs rt d)))

-- the route error of dests: groupcast to their precursors, with those destinations that have any.
-- In the variant `Error` it is broadcast, with all of them
unfoldable pub error_cast : Variant → Table → Dests → Cast
error_cast v rt dests =
    if is_error v then (if maps.len dests == 0 then Nothing else All (Rerr dests))
    else (if is_empty (precs_of rt dests) then Nothing
    else Many (precs_of rt dests) (Rerr (with_precs rt dests)))

-- The routes to dests become invalid (steps 2 to 5 of the break of a link):
--   1. dests is found: `link_broken` below, or the accepted pairs of a route error
--   2. the entries of dests become invalid, and waiting data for dests need a request
--   3. the precursors of all of dests are those to be told
--   4. only destinations with precursors are named
--   5. the route error is cast to those precursors
unfoldable pub retract : Core → Dests → Reaction
retract core dests =
    plain (record core { rt = invalidate core.rt dests; store = set core.store (dests_of dests) })
    (casting (error_cast core.variant core.rt dests))

-- the link to y is broken: all valid routes by y become invalid, each with the next number
unfoldable pub link_broken : Core → ℕ → Reaction
link_broken core y = retract core (unreachable_by core.rt y)

-- a unicast to y: it is cast if y is in range; otherwise the link to y is broken (AWN's conditional
-- unicast)
unfoldable pub unicast : Core → Message → ℕ → NodeIds → Reaction
unicast core m y range =
    if sets.contains range y then plain core (casting (One y m))
    else broken_by y (link_broken core y)

-- ---- what is learnt from each message (RFC 3561, sections 6.2, 6.5 and 6.7)

-- the entry of a neighbour that was heard: its number is unknown
abbrev pub neighbour_entry : ℕ → Entry
neighbour_entry from = record {
  dsn = 0;
  dsk = Unk;
  flag = Val;
  hops = 1;
  next = from;
  pre = sets.empty;
}

-- the entry by way of its sender that a request or reply with this number and hop count leads to
abbrev pub route_entry : ℕ → ℕ → ℕ → Entry
route_entry n hops from = record {
  dsn = n;
  dsk = Kno;
  flag = Val;
  hops = hops + 1;
  next = from;
  pre = sets.empty;
}

-- the core once a message has come from a neighbour
unfoldable pub after_hearing : Core → ℕ → Core
after_hearing core from = record core { rt = update core.rt from (neighbour_entry from) }

-- ---- data

-- a datum given to this node (AWN's NEWPKT): delivered if it is for the node itself; otherwise it
-- waits
unfoldable pub on_new : Core → Body → ℕ → Reaction
on_new core b d =
    if d == core.ip then plain core delivering
    else only (record core { store = add core.store d b })

-- the error for data to d that can't go on: sent if d has an invalid entry, to its precursors if
-- there are any. In the variant `Error` it is broadcast
unfoldable pub data_error : Core → ℕ → Cast
data_error core d =
    if not (in_iD core.rt d) then Nothing
    else if is_error core.variant then All (Rerr (maps.insert maps.empty d (sqn core.rt d)))
    else if is_empty (precs core.rt d) then Nothing
    else Many (precs core.rt d) (Rerr (maps.insert maps.empty d (sqn core.rt d)))

-- a data packet from o to d (AWN's PKT; RFC 3561, section 6.11): delivered, forwarded, or lost
unfoldable pub on_pkt : Core → NodeIds → Body → ℕ → ℕ → Reaction
on_pkt core range b d o =
    if d == core.ip then plain core delivering
    else if in_vD core.rt d then losing_if_broken (unicast core (Pkt b d o) (nhop core.rt d) range)
    else losing (plain core (casting (data_error core d)))

-- ---- route requests (AWN's RREQ; RFC 3561, sections 6.5 and 6.6)

-- what a node recognizes a request by: its originator and id, or in the variant `Number` its
-- originator and the originator's number
abbrev pub key_of : Variant → RouteRequest → ℕ × ℕ
key_of variant.Base m = (m.oip, m.id)
key_of variant.Number m = (m.oip, m.osn)
key_of variant.Reply m = (m.oip, m.id)
key_of variant.Error m = (m.oip, m.id)

-- the core once a new request has come: its table is updated with the route back to the originator,
-- and it will recognize the request
unfoldable pub after_request : Core → ℕ → RouteRequest → Core
after_request core from m =
    record (after_hearing core from) {
      rt = update (after_hearing core from).rt m.oip (route_entry m.osn m.hops from);
      seen = sets.insert core.seen (key_of core.variant m);
    }

-- the node is the destination asked for (RFC 3561, section 6.6.1)
unfoldable pub reply_for_self : Core → NodeIds → RouteRequest → Reaction
reply_for_self core range m =
    unicast (record core { sn = max core.sn m.dsn })
    (Rrep (record { hops = 0; dip = m.dip; dsn = max core.sn m.dsn; oip = m.oip }))
    (nhop core.rt m.oip) range

-- the node has a valid route whose number is known and at least the one asked for
abbrev pub can_answer : Core → RouteRequest → Bool
can_answer core m =
    in_vD core.rt m.dip && (nat_le m.dsn (sqn core.rt m.dip) && is_kno (sqnf core.rt m.dip))

-- the table once the sender has joined the precursors of d, and then d's next hop those of o
unfoldable pub join_answer_precursors : Table → ℕ → ℕ → ℕ → Table
join_answer_precursors rt d o from =
    let rt1 = add_pre rt d (one from) in add_pre rt1 o (one (nhop rt1 d))

-- the node answers from its table (RFC 3561, section 6.6.2)
unfoldable pub reply_from_table : Core → NodeIds → ℕ → RouteRequest → Reaction
reply_from_table core range from m =
    let rt = join_answer_precursors core.rt m.dip m.oip from in
    unicast (record core { rt = rt })
    (Rrep (record { hops = dhops rt m.dip; dip = m.dip; dsn = sqn rt m.dip; oip = m.oip }))
    (nhop rt m.oip) range

-- the node passes the request on, with one hop more and the greater of its and m's numbers of dip
unfoldable pub forward_request : Core → RouteRequest → Reaction
forward_request core m =
    plain core
    (casting (All (Rreq (record m { hops = m.hops + 1; dsn = max (sqn core.rt m.dip) m.dsn }))))

-- a new request, in the core after its updates
unfoldable pub on_new_rreq : Core → NodeIds → ℕ → RouteRequest → Reaction
on_new_rreq core range from m =
    if m.dip == core.ip then reply_for_self core range m
    else if can_answer core m then reply_from_table core range from m
    else forward_request core m

-- a route request from a neighbour: from one that it has seen before, the node learns only that the
-- neighbour is there
unfoldable pub on_rreq : Core → NodeIds → ℕ → RouteRequest → Reaction
on_rreq core range from m =
    if has_seen core.seen (key_of core.variant m) then only (after_hearing core from)
    else on_new_rreq (after_request core from m) range from m

-- ---- route replies (AWN's RREP; RFC 3561, section 6.7)

-- the core once a reply has come: it may have a new route to the destination
unfoldable pub after_reply : Core → ℕ → RouteReply → Core
after_reply core from m = record (after_hearing core from) {
  rt = update (after_hearing core from).rt m.dip (route_entry m.dsn m.hops from);
}

-- there is an entry s, and r is neither newer nor shorter
abbrev pub is_stale_beside : Option Entry → Entry → Bool
is_stale_beside None r = false
is_stale_beside (Some s) r = not (is_newer r s) && not (is_shorter r s)

-- a reply that leads to the entry r for d is stale: d has an entry, and r is no newer or shorter
unfoldable pub is_stale : Table → ℕ → Entry → Bool
is_stale rt d r = is_stale_beside (maps.get rt d) r

-- the table once o's next hop has joined the precursors of d, and then those of d's next hop
unfoldable pub join_reply_precursors : Table → ℕ → ℕ → Table
join_reply_precursors rt d o =
    let rt1 = add_pre rt d (one (nhop rt o)) in add_pre rt1 (nhop rt1 d) (one (nhop rt1 o))

-- the node passes the reply on towards its originator, with one hop more
unfoldable pub forward_reply : Core → NodeIds → RouteReply → Reaction
forward_reply core range m =
    let rt = join_reply_precursors core.rt m.dip m.oip in
    unicast (record core { rt = rt }) (Rrep (record m { hops = m.hops + 1 })) (nhop rt m.oip) range

-- the node passes the reply on with what its own entry says, in place of what the reply said
unfoldable pub forward_own_entry : Core → NodeIds → RouteReply → Reaction
forward_own_entry core range m =
    let rt = join_reply_precursors core.rt m.dip m.oip in
    unicast (record core { rt = rt })
    (Rrep (record m { hops = dhops rt m.dip; dsn = sqn rt m.dip })) (nhop rt m.oip) range

-- The reply goes on, in the core after its updates, only if it taught something new (isn't stale).
-- In the variant `Reply` it goes on if the node has a valid route to dip, as that route says
abbrev pub reply_on : Variant → Core → Bool → NodeIds → RouteReply → Reaction
reply_on variant.Base core stale range m = if stale then only core else forward_reply core range m
reply_on variant.Number core stale range m = if stale then only core else forward_reply core range m
reply_on variant.Reply core stale range m =
    if in_vD core.rt m.dip then forward_own_entry core range m else only core
reply_on variant.Error core stale range m = if stale then only core else forward_reply core range m

-- a route reply from a neighbour: it ends here if this node asked for it, or has no valid route
-- back to the node that did
unfoldable pub on_rrep : Core → NodeIds → ℕ → RouteReply → Reaction
on_rrep core range from m =
    if (m.oip == core.ip) || not (in_vD (after_reply core from m).rt m.oip)
    then only (after_reply core from m)
    else reply_on core.variant (after_reply core from m)
    (is_stale (after_hearing core from).rt m.dip (route_entry m.dsn m.hops from)) range m

-- ---- route errors (AWN's RERR; RFC 3561, section 6.11)

-- a route error from a neighbour: only routes by that neighbour become invalid, and only for a
-- greater number
unfoldable pub on_rerr : Core → ℕ → Dests → Reaction
on_rerr core from dests =
    retract (after_hearing core from) (accepted_unreachable (after_hearing core from).rt from dests)

-- ---- turns (the choice of a message's handler in AWN's main process AODV)

-- a message from a neighbour
abbrev pub on_message : Core → NodeIds → ℕ → Message → Reaction
on_message core range from (Pkt b d o) = on_pkt core range b d o
on_message core range from (Rreq m) = on_rreq core range from m
on_message core range from (Rrep m) = on_rrep core range from m
on_message core range from (Rerr dests) = on_rerr core from dests

-- one turn with the item from the front of the queue. `range` has the nodes that are in range
abbrev pub turn : Core → NodeIds → Item → Reaction
turn core range (New b d) = on_new core b d
turn core range (Heard from m) = on_message core range from m

-- what the turn takes
abbrev pub took : Core → Item → Took
took core (New b d) = if d == core.ip then Own b else Stored d
took core (Heard from m) = FromNeighbour from m

-- ---- the send of a stored datum (AWN's AODV, where it sends a queued packet)

-- there are data for d, and there is a valid route
abbrev pub may_send : Core → ℕ → Bool
may_send core d = in_qD core.store d && in_vD core.rt d

-- the first of the data, or no bytes
abbrev pub first_body : List Body → Body
first_body [] = []
first_body (b ∷ bs) = b

-- the datum is removed only if the unicast succeeded
abbrev pub drop_if_sent : Reaction → ℕ → Reaction
drop_if_sent reaction d =
    if is_some (reaction.effect).broken then reaction
    else record reaction { core = record (reaction.core) { store = drop (reaction.core).store d } }

-- the first datum that waits for d goes to the next hop
unfoldable pub send : Core → NodeIds → ℕ → Reaction
send core range d =
    drop_if_sent
    (unicast core (Pkt (first_body (bodies_in (maps.get core.store d))) d core.ip)
    (nhop core.rt d) range) d

-- ---- a request of the node's own
-- (AWN's AODV, where it initiates a route discovery; RFC 3561, section 6.3)

-- there are data for d and no valid route, and a request is still to be made
abbrev pub may_ask : Core → ℕ → Bool
may_ask core d = in_qD core.store d && (needs_in (maps.get core.store d) && not (in_vD core.rt d))

-- the id of the node's next request: a new one, or in the variant `Number` its own new number
abbrev pub fresh_id : Variant → Core → ℕ
fresh_id variant.Base core = next_request_id core.seen core.ip
fresh_id variant.Number core = inc core.sn
fresh_id variant.Reply core = next_request_id core.seen core.ip
fresh_id variant.Error core = next_request_id core.seen core.ip

-- the node raises its own number, remembers the request as seen, and broadcasts it
unfoldable pub ask : Core → ℕ → Reaction
ask core d =
    plain
    (record core {
      store = unset core.store d;
      sn = inc core.sn;
      seen = sets.insert core.seen (core.ip, fresh_id core.variant core);
    })
    (casting (All (Rreq (record {
      hops = 0;
      id = fresh_id core.variant core;
      dip = d;
      dsn = sqn core.rt d;
      dsk = sqnf core.rt d;
      oip = core.ip;
      osn = inc core.sn;
    }))))
