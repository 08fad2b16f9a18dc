-- Links that break, and unicasts.
use Rattle.std.proofs.Common.{◌≡◌, ℕ, Bool, true, false, Some, None, List, [], refl, sym, ap, subst, ◌∙◌}
use Rattle.std.proofs.lemmas.List.{nil_from_length}
use Rattle.std.specs.Prelude.{if◌then◌else◌, ◌==◌}
use Rattle.std.specs.FinMap as maps
use Rattle.std.specs.FinSet as sets
use Rattle.std.specs.Ordering.{nat_cmp}
use Rattle.mesh_base.specs.declared.addr.Addr.{Addr}
use Rattle.mesh_base.specs.declared.events.Effect as code
use Rattle.mesh_base.specs.declared.events.Cast as cast
use Rattle.mesh_base.specs.declared.events.Cast.TheVariants.{One as to_one}
use Rattle.mesh_base.specs.declared.events.Full.TheVariants.{Number}
use Rattle.mesh_base.specs.Members.{NodeIds}
use Rattle.mesh_base.specs.Meshes.{Nodes, addr_at}
use Rattle.aodv_model.specs.Quality.{is_kno}
use Rattle.aodv_model.specs.Tables.{Table, Dests, unreachable_by}
use Rattle.aodv_model.specs.Cores.{Core, Body, Message, Rreq, Rrep, Pkt, RouteReply, New}
use Rattle.aodv_model.specs.Handlers.{plain, unicast, link_broken, retract, on_new, delivering, quiet}
use Rattle.aodv_model.specs.Fullness.{turn_full}
use Rattle.aodv_model.proofs.FullNumbers.{raised_past}
use Rattle.aodv_wire.specs.declared.message.Message.TheVariants as messages
use Rattle.aodv_wire.specs.Encodes.{Encodes, encoding}
use Rattle.aodv_meaning.specs.Meaning.{status_of}
use Rattle.aodv_meaning.specs.Sent.{IsSent, IsPacket, out_of}
use Rattle.aodv_table.specs.Calls.{is_past}
use Rattle.aodv_meaning.specs.Effects.{cast_of}
use Rattle.aodv_handlers.specs.Made.{only_cast, IsMade, number_full}

pub no_entries : maps.entries (maps.empty {X = ℕ} {R = nat_cmp}) ≡ []
no_entries = nil_from_length _ (sym (maps.len-entries (maps.empty {X = ℕ} {R = nat_cmp})) ∙ maps.len-empty nat_cmp ℕ)

-- the link to y can break
past_free : (rt : Table) (y : ℕ) → is_past (unreachable_by rt y) ≡ false → number_full rt (Some y) ≡ None
past_free rt y past = rw (raised_past rt y ∙ past) refl

-- the link to y can't break
pub past_full : (rt : Table) (y : ℕ) → is_past (unreachable_by rt y) ≡ true → number_full rt (Some y) ≡ Some Number
past_full rt y past = rw (raised_past rt y ∙ past) refl

pub break_made : (mesh : Nodes) (core new : Core) (y : ℕ) (dests : Dests) (c : cast.Cast) (out : List ℕ) → is_past (unreachable_by core.rt y) ≡ false → dests ≡ unreachable_by core.rt y
    → new ≡ (retract core dests).core → c ≡ cast_of (retract core dests).effect.cast → IsPacket mesh out (retract core dests).effect.cast
    → IsMade mesh (number_full core.rt (Some y)) (link_broken core y) (only_cast c) new out
unfolding link_broken retract
break_made mesh core new y dests c out past is core_is cast_is packet =
    let all : (d : Dests) → d ≡ dests → IsMade mesh None (retract core d) (only_cast c) new out = λ d same. record {
      free = refl;
      did = ap only_cast (cast_is ∙ ap (λ (d : Dests). cast_of (retract core d).effect.cast) (sym same));
      core = core_is ∙ ap (λ (d : Dests). (retract core d).core) (sym same);
      packet = subst (λ (d : Dests). IsPacket mesh out (retract core d).effect.cast) (sym same) packet;
    } in
    let here = all (unreachable_by core.rt y) (sym is) in
    record { free = past_free core.rt y past; did = here.did; core = here.core; packet = here.packet }

pub near_made : (mesh : Nodes) (core : Core) (m : Message) (y : ℕ) (range : NodeIds) (effect : code.Effect) (out : List ℕ) → sets.contains range y ≡ true → effect ≡ only_cast (to_one y) → IsSent mesh out m
    → IsMade mesh (number_full core.rt ((unicast core m y range).effect).broken) (unicast core m y range) effect core out
unfolding unicast
near_made mesh core m y range effect out near is sent = rw near (record { free = refl; did = is; core = refl; packet = sent })

pub same_address : (a : Addr) (n : ℕ) → a.0 ≡ n → a ≡ record { 0 = n }
same_address a n e = λ i. record { 0 = e i }

pub sent_same : (mesh : Nodes) (out : List ℕ) (m : Message) (m' : _) → m' ≡ out_of mesh m → out ≡ encoding m' → Encodes out m' → IsSent mesh out m
sent_same mesh out m m' is w s = record { written = w ∙ ap encoding is; encodes = subst (Encodes out) is s }

pub sent_reply : (mesh : Nodes) (out : List ℕ) (m : RouteReply) (dip oip : Addr) → dip.0 ≡ addr_at mesh m.dip → oip.0 ≡ addr_at mesh m.oip
    → out ≡ encoding (messages.Rrep (record { hops = m.hops; dip = dip; dsn = m.dsn; oip = oip })) → Encodes out (messages.Rrep (record { hops = m.hops; dip = dip; dsn = m.dsn; oip = oip })) → IsSent mesh out (Rrep m)
sent_reply mesh out m dip oip d o w s =
    sent_same mesh out (Rrep m) (messages.Rrep (record { hops = m.hops; dip = dip; dsn = m.dsn; oip = oip }))
    (λ i. messages.Rrep (record { hops = m.hops; dip = record { 0 = d i }; dsn = m.dsn; oip = record { 0 = o i } })) w s

pub sent_datum : (mesh : Nodes) (out : List ℕ) (body : Body) (d o : ℕ) (dip oip : Addr) → dip.0 ≡ addr_at mesh d → oip.0 ≡ addr_at mesh o
    → out ≡ encoding (messages.Parcel (record { dip = dip; oip = oip; body = body })) → Encodes out (messages.Parcel (record { dip = dip; oip = oip; body = body })) → IsSent mesh out (Pkt body d o)
sent_datum mesh out body d o dip oip d_is o_is w s =
    sent_same mesh out (Pkt body d o) (messages.Parcel (record { dip = dip; oip = oip; body = body }))
    (λ i. messages.Parcel (record { dip = record { 0 = d_is i }; oip = record { 0 = o_is i }; body = body })) w s

status_back : (known : Bool) → known ≡ is_kno (status_of known)
status_back true = refl
status_back false = refl

pub sent_request : (mesh : Nodes) (out : List ℕ) (hops id dip dsn dsn' oip osn : ℕ) (known : Bool) (to from : Addr) → to.0 ≡ addr_at mesh dip → from.0 ≡ addr_at mesh oip → dsn' ≡ dsn
    → out ≡ encoding (messages.Rreq (record { hops = hops; id = id; dip = to; dsn = dsn'; known = known; oip = from; osn = osn }))
    → Encodes out (messages.Rreq (record { hops = hops; id = id; dip = to; dsn = dsn'; known = known; oip = from; osn = osn }))
    → IsSent mesh out (Rreq (record { hops = hops; id = id; dip = dip; dsn = dsn; dsk = status_of known; oip = oip; osn = osn }))
sent_request mesh out hops id dip dsn dsn' oip osn known to from d o n w s =
    sent_same mesh out (Rreq (record { hops = hops; id = id; dip = dip; dsn = dsn; dsk = status_of known; oip = oip; osn = osn }))
    (messages.Rreq (record { hops = hops; id = id; dip = to; dsn = dsn'; known = known; oip = from; osn = osn }))
    (λ i. messages.Rreq (record { hops = hops; id = id; dip = record { 0 = d i }; dsn = n i; known = status_back known i; oip = record { 0 = o i }; osn = osn })) w s

unbroken : (b : Bool) (rt : Table) (c c' : Core) → number_full rt ((if b then plain c delivering else plain c' quiet).effect).broken ≡ None
unbroken true rt c c' = refl
unbroken false rt c c' = refl

-- a datum given to a node breaks no link
pub new_free : (core : Core) (range : NodeIds) (body : Body) (d : ℕ) → turn_full core range (New body d) ≡ None
unfolding on_new
new_free core range body d = unbroken (d == core.ip) core.rt core _
