-- Part of what the headline says.
-- When a step would raise a counter past the greatest value of its field. Such a step isn't made.
use Rattle.std.specs.Prelude.{ℕ, Bool, false, not, ◌&&◌, ◌==◌, if◌then◌else◌, Option, Some, None}
use Rattle.std.specs.List.{list_any}
use Rattle.std.specs.FinMap as maps
use Rattle.mesh_base.specs.Members.{NodeIds}
use Rattle.mesh_base.specs.declared.events.Full.{Full as Counter}
use Rattle.mesh_base.specs.declared.events.Full.TheVariants as full
use Rattle.mesh_base.specs.declared.events.Variant.{Variant}
use Rattle.mesh_base.specs.declared.events.Variant.TheVariants as variant
use Rattle.aodv_model.specs.Tables.{Table, goes_by}
use Rattle.aodv_model.specs.Cores.{Core, Item, New, Heard, Pkt, Rreq, Rrep, Rerr, has_seen, last_request_id}
use Rattle.aodv_model.specs.Handlers.{key_of, after_hearing, after_request, after_reply, turn, send}

-- the greatest sequence number and the greatest request id: their fields have 32 bits
abbrev pub greatest : ℕ
greatest = 4294967295

-- the greatest hop count: its field has 8 bits
abbrev pub greatest_hops : ℕ
greatest_hops = 255

-- the item is a new request or a reply, and its hop count is the greatest
abbrev pub is_hop_full : Core → Item → Bool
is_hop_full core (New b d) = false
is_hop_full core (Heard from (Pkt b d o)) = false
is_hop_full core (Heard from (Rreq m)) =
    (m.hops == greatest_hops) && not (has_seen core.seen (key_of core.variant m))
is_hop_full core (Heard from (Rrep m)) = m.hops == greatest_hops
is_hop_full core (Heard from (Rerr dests)) = false

-- some valid entry with next hop y has the greatest number, so the break of the link to y can't
-- raise it
abbrev pub has_greatest_by : Table → ℕ → Bool
has_greatest_by rt y = list_any (λ e. goes_by (Some e) y && (e.dsn == greatest)) (maps.values rt)

-- a link broke, and such an entry goes by it
abbrev pub is_number_full : Table → Option ℕ → Bool
is_number_full rt None = false
is_number_full rt (Some y) = has_greatest_by rt y

-- the core when the node has learnt from an item and hasn't yet acted on it: then a unicast may
-- fail. (Precursors that join before the unicast change no number; and a request that was seen
-- before teaches less than this, but makes no unicast.)
abbrev pub after_learning : Core → Item → Core
after_learning core (New b d) = core
after_learning core (Heard from (Pkt b d o)) = core
after_learning core (Heard from (Rreq m)) = after_request core from m
after_learning core (Heard from (Rrep m)) = after_reply core from m
after_learning core (Heard from (Rerr dests)) = after_hearing core from

-- the field that a turn would overfill: the hop count is checked before the number
abbrev pub turn_full : Core → NodeIds → Item → Option Counter
turn_full core range item =
    if is_hop_full core item then Some full.Hops
    else if is_number_full (after_learning core item).rt ((turn core range item).effect).broken
    then Some full.Number
    else None

-- the field that the send of a stored datum would overfill
abbrev pub send_full : Core → NodeIds → ℕ → Option Counter
send_full core range d =
    if is_number_full core.rt ((send core range d).effect).broken then Some full.Number else None

-- the node's own requests have reached the greatest id. In the variant `Number` they need no id
abbrev pub is_id_full : Variant → Core → Bool
is_id_full variant.Base core = last_request_id core.seen core.ip == greatest
is_id_full variant.Number core = false
is_id_full variant.Reply core = last_request_id core.seen core.ip == greatest
is_id_full variant.Error core = last_request_id core.seen core.ip == greatest

-- the field that a request of the node's own would overfill: its number is checked before the id
abbrev pub ask_full : Core → Option Counter
ask_full core =
    if core.sn == greatest then Some full.Number
    else if is_id_full core.variant core then Some full.Id
    else None
