-- Data that arrive, that go on, and that are lost; route errors from neighbours.
use Rattle.std.proofs.Common.{◌≡◌, ◌≢◌, ◌<◌, ℕ, length, Bool, true, false, not, cond, ◌&&◌, ◌||◌, Some, None, List, [], ◌∷◌, map, refl, sym, ap, subst, ◌∙◌, eq-eqb}
use Rattle.std.specs.FinMap as maps
use Rattle.std.specs.FinMap.Entries.{put}
use Rattle.std.specs.FinSet as sets
use Rattle.std.specs.Ordering.{nat_cmp}
use Rattle.std.proofs.lemmas.Cmp.{nat_cmp_total}
use Rattle.std.proofs.lemmas.Bool.{ne_eqb, and_parts}
use Rattle.mesh_base.specs.declared.addr.Addr.{Addr}
use Rattle.mesh_base.specs.declared.events.Effect as code
use Rattle.mesh_base.specs.declared.events.Cast as cast
use Rattle.mesh_base.specs.declared.events.Cast.TheVariants as casts
use Rattle.mesh_base.specs.Members.{NodeIds}
use Rattle.mesh_base.specs.Meshes.{Nodes, addr_at}
use Rattle.aodv_model.specs.declared.entry.Entry.{Entry}
use Rattle.aodv_model.specs.Quality.{is_val}
use Rattle.aodv_model.specs.Tables.{Table, Dests, in_vD, nhop, update, accepted_unreachable}
use Rattle.aodv_model.specs.Cores.{Core, Body, Store, Pkt, Rerr, bodies_in, drop}
use Rattle.aodv_model.specs.Handlers.{Nothing, Many, All, is_error, unicast, data_error, on_pkt, is_empty, send, first_body, retract, on_rerr, after_hearing, neighbour_entry}
use Rattle.aodv_model.specs.Fullness.{send_full}
use Rattle.aodv_model.specs.Soundness.{IsSoundCore, IsSoundTable, AreDestsBelow}
use Rattle.aodv_model.proofs.Changes.{Raises, accepted_raises}
use Rattle.aodv_model.proofs.TablesInMesh.{accepted_below}
use Rattle.aodv_model.proofs.SoundTables.{neighbour_table}
use Rattle.aodv_wire.specs.declared.message.Message.TheVariants as messages
use Rattle.aodv_wire.specs.Encodes.{Encodes, encoding}
use Rattle.aodv_meaning.specs.Meaning.{dests_in, strange_pair}
use Rattle.aodv_meaning.specs.Sent.{IsSent, IsPacket, pairs_of, addr}
use Rattle.aodv_meaning.specs.Effects.{cast_of}
use Rattle.aodv_handlers.specs.Made.{IsMade, number_full, only_cast}
use Rattle.aodv_handlers.proofs.Unicasts.{no_entries, sent_same}
use Rattle.aodv_handlers.proofs.Order.{retract_sound}
use Rattle.aodv_handlers.proofs.Requests.{made_at}
use Rattle.aodv_handlers.proofs.Stated.{stated_below}

-- ---- the error for one destination

one_pair : (mesh : Nodes) (d n : ℕ) (a : Addr) → a.0 ≡ addr_at mesh d → (a, n) ∷ [] ≡ pairs_of mesh (maps.insert maps.empty d n)
one_pair mesh d n a is =
    let alone : maps.entries (maps.insert (maps.empty {X = ℕ} {R = nat_cmp}) d n) ≡ (d, n) ∷ [] = maps.entries-insert nat_cmp_total maps.empty d n ∙ ap (λ es. put nat_cmp d n es) no_entries in
    (λ i. (record { 0 = is i }, n) ∷ []) ∙ ap (map (λ e. (addr mesh e.0, e.1))) (sym alone)

pub error_packet : (mesh : Nodes) (core : Core) (d : ℕ) (e : Entry) (a : Addr) (out : List ℕ) → maps.get core.rt d ≡ Some e → (not (is_val e.flag) && (is_error core.variant || not (is_empty e.pre))) ≡ true → a.0 ≡ addr_at mesh d
    → out ≡ encoding (messages.Rerr ((a, e.dsn) ∷ [])) → Encodes out (messages.Rerr ((a, e.dsn) ∷ [])) → IsPacket mesh out (data_error core d)
unfolding data_error
error_packet mesh core d e a out is both at w s =
    let parts = and_parts (not (is_val e.flag)) (is_error core.variant || not (is_empty e.pre)) both in
    let sent = sent_same mesh out (Rerr (maps.insert maps.empty d e.dsn)) (messages.Rerr ((a, e.dsn) ∷ [])) (ap messages.Rerr (one_pair mesh d e.dsn a at)) w s in
    rw (is, parts.0) (by (is_error core.variant) (is_empty e.pre) sent parts.1)
  where
    by : (b none : Bool) → IsSent mesh out (Rerr (maps.insert maps.empty d e.dsn)) → (b || not none) ≡ true
        → IsPacket mesh out (cond b (All (Rerr (maps.insert maps.empty d e.dsn))) (cond none Nothing (Many e.pre (Rerr (maps.insert maps.empty d e.dsn)))))
    by true none sent h = sent
    by false true sent h = cc
    by false false sent h = sent

-- ---- a data packet

pub data_here : (mesh : Nodes) (core : Core) (range : NodeIds) (b : Body) (d o : ℕ) (out : List ℕ) → d ≡ core.ip → out ≡ [] → IsMade mesh (number_full core.rt ((on_pkt core range b d o).effect).broken) (on_pkt core range b d o) (record { deliver = true; lost = false; broken = None; cast = casts.Nothing }) core out
unfolding on_pkt
data_here mesh core range b d o out here is = rw (eq-eqb d core.ip here) (record { free = refl; did = refl; core = refl; packet = is })

pub data_lost : (mesh : Nodes) (core : Core) (range : NodeIds) (b : Body) (d o : ℕ) (c : cast.Cast) (out : List ℕ) → d ≢ core.ip → in_vD core.rt d ≡ false → c ≡ cast_of (data_error core d) → IsPacket mesh out (data_error core d)
    → IsMade mesh (number_full core.rt ((on_pkt core range b d o).effect).broken) (on_pkt core range b d o) (record { deliver = false; lost = true; broken = None; cast = c }) core out
unfolding on_pkt
data_lost mesh core range b d o c out other none is packet =
    rw (ne_eqb d core.ip other, none) (record {
      free = refl;
      did = λ i. record { deliver = false; lost = true; broken = None; cast = is i };
      core = refl;
      packet = packet;
    })

-- ---- a datum that waited

pub stored_made : (mesh : Nodes) (core : Core) (range : NodeIds) (d y : ℕ) (body : Body) (store : Store) (effect : code.Effect) (out : List ℕ) → sets.contains range y ≡ true → y ≡ nhop core.rt d → body ≡ first_body (bodies_in (maps.get core.store d)) → store ≡ drop core.store d
    → effect ≡ only_cast (casts.One y) → IsSent mesh out (Pkt body d core.ip) → IsMade mesh (send_full core range d) (send core range d) effect (record core { store = store }) out
unfolding send unicast
stored_made mesh core range d y body store effect out near y_is body_is store_is effect_is sent =
    let m = Pkt (first_body (bodies_in (maps.get core.store d))) d core.ip in
    let here : sets.contains range (nhop core.rt d) ≡ true = ap (sets.contains range) (sym y_is) ∙ near in
    rw here (record {
      free = refl;
      did = effect_is ∙ ap (λ (x : ℕ). only_cast (casts.One x)) y_is;
      core = λ i. record core { store = store_is i };
      packet = subst (λ (b : Body). IsSent mesh out (Pkt b d core.ip)) body_is sent;
    })

-- ---- a route error

pub error_made : (mesh : Nodes) (core new : Core) (from : ℕ) (dests accepted : Dests) (rt1 : Table) (c : cast.Cast) (effect : code.Effect) (out : List ℕ) → rt1 ≡ update core.rt from (neighbour_entry from) → accepted ≡ accepted_unreachable rt1 from dests
    → new ≡ (retract (record core { rt = rt1 }) accepted).core → c ≡ cast_of (retract (record core { rt = rt1 }) accepted).effect.cast → IsPacket mesh out (retract (record core { rt = rt1 }) accepted).effect.cast → effect ≡ only_cast c
    → IsMade mesh (number_full core.rt ((on_rerr core from dests).effect).broken) (on_rerr core from dests) effect new out
unfolding on_rerr after_hearing retract
error_made mesh core new from dests accepted rt1 c effect out rt_is accepted_is core_is cast_is packet effect_is =
    let same : retract (record core { rt = rt1 }) accepted ≡ on_rerr core from dests = ap (retract (record core { rt = rt1 })) accepted_is ∙ (λ i. retract (record core { rt = rt_is i }) (accepted_unreachable (rt_is i) from dests)) in
    made_at mesh core.rt core.rt (retract (record core { rt = rt1 }) accepted) (on_rerr core from dests) effect new out (λ broken. refl) same (record {
      free = refl;
      did = effect_is ∙ ap only_cast cast_is;
      core = core_is;
      packet = packet;
    })

pub error_below : (mesh : Nodes) (rt : Table) (from : ℕ) (pairs : List (Addr × ℕ)) (accepted : Dests) → strange_pair mesh pairs ≡ None → accepted ≡ accepted_unreachable rt from (dests_in mesh pairs) → AreDestsBelow (length mesh) accepted
error_below mesh rt from pairs accepted known is = subst (AreDestsBelow (length mesh)) (sym is) (accepted_below (length mesh) rt from (dests_in mesh pairs) (stated_below mesh pairs known))

pub error_sound : (size from : ℕ) (core : Core) (dests accepted : Dests) (rt1 : Table) → from < size → from ≢ core.ip → IsSoundCore size core → rt1 ≡ update core.rt from (neighbour_entry from) → accepted ≡ accepted_unreachable rt1 from dests → IsSoundCore size (retract (record core { rt = rt1 }) accepted).core
error_sound size from core dests accepted rt1 lf apart sound rt_is is =
    let table : IsSoundTable size core.ip rt1 = subst (IsSoundTable size core.ip) (sym rt_is) (neighbour_table size core.ip core.rt from lf apart sound.table) in
    retract_sound size (record core { rt = rt1 }) accepted (subst (Raises rt1) (sym is) (accepted_raises rt1 from dests)) (record { own = sound.own; table = table })

pub retract_ip : (core : Core) (dests : Dests) → (retract core dests).core.ip ≡ core.ip
unfolding retract
retract_ip core dests = refl
