-- A turn on a route request.
use Rattle.std.proofs.Common.{◌≡◌, ◌≢◌, ℕ, ◌<◌, ◌≤◌, Bool, true, false, not, cond, ◌&&◌, Option, Some, None, List, [], refl, sym, ap, subst, ◌∙◌}
use Rattle.std.specs.Prelude.{◌==◌, if◌then◌else◌}
use Rattle.std.specs.FinMap as maps
use Rattle.std.specs.FinSet as sets
use Rattle.mesh_base.specs.declared.events.Effect as code
use Rattle.mesh_base.specs.declared.events.Full.{Full as Counter}
use Rattle.mesh_base.specs.declared.events.Full.TheVariants.{Number}
use Rattle.mesh_base.specs.Members.{NodeIds}
use Rattle.mesh_base.specs.Meshes.{Nodes}
use Rattle.aodv_model.specs.declared.entry.Entry.{Entry}
use Rattle.aodv_model.specs.Pairs.{Pairs}
use Rattle.aodv_model.specs.Tables.{Table, update, add_pre, nhop, sqn, dhops, next_in, hops_in, number_in}
use Rattle.aodv_model.specs.Cores.{Core, RouteRequest, Message, Rreq, Rrep, Item, Heard, has_seen}
use Rattle.aodv_model.specs.Handlers.{Reaction, quiet, only, one, unicast, link_broken, retract, neighbour_entry, route_entry, after_hearing, after_request, reply_for_self, join_answer_precursors, reply_from_table, forward_request, can_answer, on_new_rreq, on_rreq, turn, key_of}
use Rattle.aodv_model.specs.Fullness.{is_number_full, turn_full}
use Rattle.aodv_model.specs.Soundness.{IsSoundTable}
use Rattle.aodv_model.proofs.TablesInMesh.{update_has}
use Rattle.aodv_model.proofs.Readings.{pre_alike, join_answer_alike}
use Rattle.aodv_model.proofs.SoundTables.{neighbour_table, route_table}
use Rattle.aodv_meaning.specs.Sent.{IsPacket}
use Rattle.aodv_meaning.specs.Effects.{effect_of}
use Rattle.aodv_handlers.specs.Made.{IsMade, IsFull, number_full}

-- two tables are full by the same links
abbrev pub AreFullAlike : Table → Table → Type 0
AreFullAlike rt rt' = (broken : Option ℕ) → is_number_full rt broken ≡ is_number_full rt' broken

full_alike : (rt rt' : Table) (did did' : Reaction) → AreFullAlike rt rt' → did ≡ did' → number_full rt' (did'.effect).broken ≡ number_full rt (did.effect).broken
full_alike rt rt' did did' alike same =
    ap (λ (d : Reaction). number_full rt' (d.effect).broken) (sym same) ∙ ap (λ (b : Bool). if b then Some Number else None) (sym (alike (did.effect).broken))

-- the same of an equal reaction, by a table that is full by the same links
pub made_at : (mesh : Nodes) (rt rt' : Table) (did did' : Reaction) (effect : code.Effect) (new : Core) (out : List ℕ) → AreFullAlike rt rt' → did ≡ did' → IsMade mesh (number_full rt (did.effect).broken) did effect new out → IsMade mesh (number_full rt' (did'.effect).broken) did' effect new out
made_at mesh rt rt' did did' effect new out alike same made = record {
  free = full_alike rt rt' did did' alike same ∙ made.free;
  did = made.did ∙ ap (λ (d : Reaction). effect_of d.effect) same;
  core = made.core ∙ ap (λ (d : Reaction). d.core) same;
  packet = subst (λ (d : Reaction). IsPacket mesh out (d.effect).cast) same made.packet;
}

pub refused_at : (rt rt' : Table) (did did' : Reaction) (old old' : Core) (field : Counter) (new new' : Core) → AreFullAlike rt rt' → did ≡ did' → new' ≡ old' → IsFull (number_full rt (did.effect).broken) old field new → IsFull (number_full rt' (did'.effect).broken) old' field new'
refused_at rt rt' did did' old old' field new new' alike same is refused = record { overfull = full_alike rt rt' did did' alike same ∙ refused.overfull; same = is }

-- ---- a node that answers from its table

pub joined_answer : (rt rt1 rt2 : Table) (d o from : ℕ) (route : Entry) → maps.get rt d ≡ Some route → rt1 ≡ add_pre rt d (one from) → rt2 ≡ add_pre rt1 o (one route.next) → rt2 ≡ join_answer_precursors rt d o from
unfolding join_answer_precursors
joined_answer rt rt1 rt2 d o from route is one_is two_is =
    let next : nhop (add_pre rt d (one from)) d ≡ route.next = pre_alike next_in rt d (one from) d (λ e pre. refl) ∙ ap next_in is in
    two_is ∙ (λ i. add_pre (one_is i) o (one (sym next i)))

pub answer_is : (core : Core) (range : NodeIds) (from : ℕ) (m : RouteRequest) (route : Entry) (rt2 : Table) (towards : ℕ) → maps.get core.rt m.dip ≡ Some route → rt2 ≡ join_answer_precursors core.rt m.dip m.oip from → towards ≡ nhop core.rt m.oip
    → unicast (record core { rt = rt2 }) (Rrep (record { hops = route.hops; dip = m.dip; dsn = route.dsn; oip = m.oip })) towards range ≡ reply_from_table core range from m
unfolding reply_from_table
answer_is core range from m route rt2 towards is rt_is towards_is =
    let rt = join_answer_precursors core.rt m.dip m.oip from in
    let hops : dhops rt m.dip ≡ route.hops = join_answer_alike hops_in core.rt m.dip m.oip from m.dip (λ e pre. refl) ∙ ap hops_in is in
    let dsn : sqn rt m.dip ≡ route.dsn = join_answer_alike number_in core.rt m.dip m.oip from m.dip (λ e pre. refl) ∙ ap number_in is in
    let next : nhop rt m.oip ≡ nhop core.rt m.oip = join_answer_alike next_in core.rt m.dip m.oip from m.oip (λ e pre. refl) in
    λ i. unicast (record core { rt = rt_is i }) (Rrep (record { hops = sym hops i; dip = m.dip; dsn = sym dsn i; oip = m.oip })) ((towards_is ∙ sym next) i) range

-- ---- a node that passes the request on

pub forward_made : (mesh : Nodes) (core : Core) (m : RouteRequest) (effect : code.Effect) (out : List ℕ) → effect ≡ effect_of (forward_request core m).effect → IsPacket mesh out (forward_request core m).effect.cast → IsMade mesh (number_full core.rt ((forward_request core m).effect).broken) (forward_request core m) effect core out
unfolding forward_request
forward_made mesh core m effect out is packet = record {
  free = refl;
  did = is;
  core = refl;
  packet = packet;
}

-- ---- what is done doesn't depend on the requests seen

abbrev pub with_seen : Pairs → Reaction → Reaction
with_seen s did = record did { core = record (did.core) { seen = s } }

seen_if : (s : Pairs) (b : Bool) (x x' y y' : Reaction) → x' ≡ with_seen s x → y' ≡ with_seen s y → cond b x' y' ≡ with_seen s (cond b x y)
seen_if s true x x' y y' hx hy = hx
seen_if s false x x' y y' hx hy = hy

unicast_seen : (core : Core) (m : Message) (y : ℕ) (range : NodeIds) (s : Pairs) → unicast (record core { seen = s }) m y range ≡ with_seen s (unicast core m y range)
unfolding unicast link_broken retract
unicast_seen core m y range s = seen_if s (sets.contains range y) _ _ _ _ refl refl

own_seen : (core : Core) (range : NodeIds) (m : RouteRequest) (s : Pairs) → reply_for_self (record core { seen = s }) range m ≡ with_seen s (reply_for_self core range m)
unfolding reply_for_self
own_seen core range m s = unicast_seen _ _ _ range s

route_seen : (core : Core) (range : NodeIds) (from : ℕ) (m : RouteRequest) (s : Pairs) → reply_from_table (record core { seen = s }) range from m ≡ with_seen s (reply_from_table core range from m)
unfolding reply_from_table
route_seen core range from m s = unicast_seen _ _ _ range s

new_seen : (core : Core) (range : NodeIds) (from : ℕ) (m : RouteRequest) (s : Pairs) → on_new_rreq (record core { seen = s }) range from m ≡ with_seen s (on_new_rreq core range from m)
unfolding on_new_rreq forward_request
new_seen core range from m s =
    seen_if s (m.dip == core.ip) _ _ _ _ (own_seen core range m s) (seen_if s (can_answer core m) _ _ _ _ (route_seen core range from m s) refl)

-- ---- the turn

abbrev item : ℕ → RouteRequest → Item
item from m = Heard from (Rreq m)

and_not : (b : Bool) → (b && not true) ≡ false
and_not true = refl
and_not false = refl

pub seen_made : (mesh : Nodes) (c : Core) (range : NodeIds) (from : ℕ) (m : RouteRequest) (key : ℕ × ℕ) (rt1 : Table) (effect : code.Effect) (out : List ℕ) → key_of c.variant m ≡ key → has_seen c.seen key ≡ true → rt1 ≡ update c.rt from (neighbour_entry from) → effect ≡ effect_of quiet → out ≡ []
    → IsMade mesh (turn_full c range (item from m)) (turn c range (item from m)) effect (record c { rt = rt1 }) out
unfolding on_rreq after_hearing
seen_made mesh c range from m key rt1 effect out key_is seen rt_is effect_is out_is =
    let known : has_seen c.seen (key_of c.variant m) ≡ true = ap (has_seen c.seen) key_is ∙ seen in
    let did : turn c range (item from m) ≡ only (after_hearing c from) = rw known refl in
    let none : turn_full c range (item from m) ≡ None = rw (known, and_not (m.hops == 255)) refl in
    record {
      free = none;
      did = rw did effect_is;
      core = rw did (λ i. record c { rt = rt_is i });
      packet = rw did out_is;
    }

-- the table after the updates
pub asked_table : (size ip : ℕ) (rt rt2 : Table) (from o n h : ℕ) → from < size → from ≢ ip → o < size → 1 ≤ n → IsSoundTable size ip rt → rt2 ≡ update (update rt from (neighbour_entry from)) o (route_entry n h from) → IsSoundTable size ip rt2
asked_table size ip rt rt2 from o n h lf apart lo one sound is =
    let first = neighbour_table size ip rt from lf apart sound in
    subst (IsSoundTable size ip) (sym is) (route_table size ip (update rt from (neighbour_entry from)) o n h from lo lf apart (update_has rt from (neighbour_entry from)) one first)

-- what is done is what is done after the updates, with the request among those seen
pub record Ends (c : Core) (range : NodeIds) (from : ℕ) (m : RouteRequest) (rt2 : Table) (did' : Reaction) : Type 0 where
  pub turned : turn c range (item from m) ≡ with_seen (sets.insert c.seen (key_of c.variant m)) did'
  pub full : turn_full c range (item from m) ≡ number_full rt2 (did'.effect).broken

pub ends : (c : Core) (range : NodeIds) (from : ℕ) (m : RouteRequest) (key : ℕ × ℕ) (rt2 : Table) → key_of c.variant m ≡ key → has_seen c.seen key ≡ false → (m.hops == 255) ≡ false → rt2 ≡ update (update c.rt from (neighbour_entry from)) m.oip (route_entry m.osn m.hops from)
    → Ends c range from m rt2 (on_new_rreq (record c { rt = rt2 }) range from m)
unfolding on_rreq after_request after_hearing
ends c range from m key rt2 key_is unseen hops is =
    let unknown : has_seen c.seen (key_of c.variant m) ≡ false = ap (has_seen c.seen) key_is ∙ unseen in
    let s = sets.insert c.seen (key_of c.variant m) in
    let core : after_request c from m ≡ record c { rt = rt2; seen = s } = λ i. record c { rt = sym is i; seen = s } in
    let did : turn c range (item from m) ≡ with_seen s (on_new_rreq (record c { rt = rt2 }) range from m) =
    rw unknown (ap (λ (a : Core). on_new_rreq a range from m) core ∙ new_seen (record c { rt = rt2 }) range from m s) in
    record { turned = did; full = rw hops (λ i. number_full (sym is i) ((did i).effect).broken) }

pub new_made : (mesh : Nodes) (c new : Core) (range : NodeIds) (from : ℕ) (m : RouteRequest) (key : ℕ × ℕ) (rt2 : Table) (did' : Reaction) (effect : code.Effect) (s : Pairs) (out : List ℕ)
    → Ends c range from m rt2 did' → key_of c.variant m ≡ key → IsMade mesh (number_full rt2 (did'.effect).broken) did' effect new out → new.seen ≡ c.seen → s ≡ sets.insert new.seen key
    → IsMade mesh (turn_full c range (item from m)) (turn c range (item from m)) effect (record new { seen = s }) out
new_made mesh c new range from m key rt2 did' effect s out end key_is made seen s_is =
    let s_now : s ≡ sets.insert c.seen (key_of c.variant m) = s_is ∙ (λ i. sets.insert (seen i) (sym key_is i)) in
    record {
      free = end.full ∙ made.free;
      did = made.did ∙ (λ i. effect_of (sym end.turned i).effect);
      core = (λ i. record (made.core i) { seen = s_now i }) ∙ (λ i. (sym end.turned i).core);
      packet = subst (λ (d : Reaction). IsPacket mesh out d.effect.cast) (sym end.turned) made.packet;
    }

pub stop_made : (c new : Core) (range : NodeIds) (from : ℕ) (m : RouteRequest) (rt2 rt4 : Table) (did' : Reaction) (field : Counter)
    → Ends c range from m rt2 did' → IsFull (number_full rt2 (did'.effect).broken) (record c { rt = rt2 }) field new → rt4 ≡ c.rt
    → IsFull (turn_full c range (item from m)) c field (record new { rt = rt4 })
stop_made c new range from m rt2 rt4 did' field end refused back = record {
  overfull = end.full ∙ refused.overfull;
  same = λ i. record (refused.same i) { rt = back i };
}
