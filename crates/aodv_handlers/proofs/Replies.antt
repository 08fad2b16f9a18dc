-- A turn on a route reply.
use Rattle.std.proofs.Common.{◌≡◌, ℕ, ◌+◌, Bool, true, false, not, Option, Some, None, List, [], refl, sym, ap, subst, ◌∙◌}
use Rattle.std.specs.FinMap as maps
use Rattle.std.specs.Prelude.{◌==◌, ◌↔◌}
use Rattle.mesh_base.specs.declared.events.Effect as code
use Rattle.mesh_base.specs.declared.events.Full.{Full as Counter}
use Rattle.mesh_base.specs.declared.events.Variant.{Variant}
use Rattle.mesh_base.specs.declared.events.Variant.TheVariants as variant
use Rattle.mesh_base.specs.Members.{NodeIds}
use Rattle.mesh_base.specs.Meshes.{Nodes}
use Rattle.aodv_model.specs.declared.entry.Entry.{Entry}
use Rattle.aodv_model.specs.Tables.{Table, update, add_pre, nhop, sqn, dhops, next_in, hops_in, number_in}
use Rattle.aodv_model.specs.Cores.{Core, RouteReply, Rrep, Item, Heard}
use Rattle.aodv_model.specs.Handlers.{Reaction, quiet, only, one, unicast, neighbour_entry, route_entry, after_hearing, after_reply, join_reply_precursors, forward_reply, forward_own_entry, reply_on, is_stale, on_rrep, turn}
use Rattle.aodv_model.specs.Fullness.{turn_full}
use Rattle.aodv_model.proofs.Readings.{pre_alike, join_reply_alike}
use Rattle.aodv_model.proofs.Stale.{stale_is_unchanged}
use Rattle.aodv_meaning.specs.Sent.{IsPacket}
use Rattle.aodv_meaning.specs.Effects.{effect_of}
use Rattle.aodv_handlers.specs.Made.{IsMade, IsFull, number_full}
use Rattle.aodv_handlers.specs.declared.messages.Reply.{Reply}
use Rattle.aodv_handlers.specs.Shown.{reply_of}
use Rattle.aodv_handlers.specs.Parts.{end_of_rrep, pass_on, passing}

-- ---- a node that passes the reply on

pub joined_reply : (rt rt1 rt2 : Table) (d o towards onward : ℕ) → towards ≡ nhop rt o → onward ≡ nhop rt d → rt1 ≡ add_pre rt d (one towards) → rt2 ≡ add_pre rt1 onward (one towards) → rt2 ≡ join_reply_precursors rt d o
unfolding join_reply_precursors
joined_reply rt rt1 rt2 d o towards onward to on one_is two_is =
    let first = add_pre rt d (one (nhop rt o)) in
    let to_o : nhop first o ≡ nhop rt o = pre_alike next_in rt d (one (nhop rt o)) o (λ e pre. refl) in
    let to_d : nhop first d ≡ nhop rt d = pre_alike next_in rt d (one (nhop rt o)) d (λ e pre. refl) in
    let rt1_is : rt1 ≡ first = one_is ∙ ap (λ (y : ℕ). add_pre rt d (one y)) to in
    two_is ∙ (λ i. add_pre (rt1_is i) ((on ∙ sym to_d) i) (one ((to ∙ sym to_o) i)))

pub passed_is : (core : Core) (range : NodeIds) (m : RouteReply) (rt2 : Table) (towards : ℕ) → rt2 ≡ join_reply_precursors core.rt m.dip m.oip → towards ≡ nhop core.rt m.oip
    → unicast (record core { rt = rt2 }) (Rrep m) towards range ≡ pass_on core range m
unfolding pass_on
passed_is core range m rt2 towards rt_is to =
    let next : nhop (join_reply_precursors core.rt m.dip m.oip) m.oip ≡ nhop core.rt m.oip = join_reply_alike next_in core.rt m.dip m.oip m.oip (λ e pre. refl) in
    λ i. unicast (record core { rt = rt_is i }) (Rrep m) ((to ∙ sym next) i) range

-- ---- which reply goes on

-- what the node's own entry says: the joins change neither its hops nor its number
pub own_is : (core : Core) (range : NodeIds) (m : RouteReply) (e : Entry) → maps.get core.rt m.dip ≡ Some e
    → forward_own_entry core range m ≡ pass_on core range (record { hops = e.hops; dip = m.dip; dsn = e.dsn; oip = m.oip })
unfolding forward_own_entry pass_on
own_is core range m e is =
    let rt = join_reply_precursors core.rt m.dip m.oip in
    let hops : dhops rt m.dip ≡ e.hops = join_reply_alike hops_in core.rt m.dip m.oip m.dip (λ e pre. refl) ∙ ap hops_in is in
    let dsn : sqn rt m.dip ≡ e.dsn = join_reply_alike number_in core.rt m.dip m.oip m.dip (λ e pre. refl) ∙ ap number_in is in
    λ i. unicast (record core { rt = rt }) (Rrep (record { hops = hops i; dip = m.dip; dsn = dsn i; oip = m.oip })) (nhop rt m.oip) range

further : (core : Core) (range : NodeIds) (m : RouteReply) → forward_reply core range m ≡ pass_on core range (record { hops = m.hops + 1; dip = m.dip; dsn = m.dsn; oip = m.oip })
unfolding forward_reply pass_on
further core range m = refl

-- in the other variants a reply goes on where it was new
module _ (v : Variant) (core : Core) (range : NodeIds) (m : RouteReply) (not_own : v ≡ variant.Reply → ⊥) where
  pub new_goes_on : reply_on v core false range m ≡ pass_on core range (record { hops = m.hops + 1; dip = m.dip; dsn = m.dsn; oip = m.oip })
  new_goes_on = by v not_own
    where
      by : (v : Variant) → (v ≡ variant.Reply → ⊥) → reply_on v core false range m ≡ pass_on core range (record { hops = m.hops + 1; dip = m.dip; dsn = m.dsn; oip = m.oip })
      by variant.Base h = further core range m
      by variant.Number h = further core range m
      by variant.Reply h = absurd (h refl)
      by variant.Error h = further core range m

  pub stale_ends : reply_on v core true range m ≡ only core
  stale_ends = by v not_own
    where
      by : (v : Variant) → (v ≡ variant.Reply → ⊥) → reply_on v core true range m ≡ only core
      by variant.Base h = refl
      by variant.Number h = refl
      by variant.Reply h = absurd (h refl)
      by variant.Error h = refl

-- ---- the turn

abbrev item : ℕ → RouteReply → Item
item from m = Heard from (Rrep m)

-- what is done in the core after the updates
abbrev after : Core → NodeIds → ℕ → RouteReply → Table → Table → Reaction
after c range from m rt1 rt2 = end_of_rrep (record c { rt = rt2 }) (is_stale rt1 m.dip (route_entry m.dsn m.hops from)) range m

after_is : (c : Core) (range : NodeIds) (from : ℕ) (m : RouteReply)
    → on_rrep c range from m ≡ after c range from m (update c.rt from (neighbour_entry from)) (update (update c.rt from (neighbour_entry from)) m.dip (route_entry m.dsn m.hops from))
unfolding on_rrep after_reply after_hearing
after_is c range from m = refl

pub record Ends (c : Core) (range : NodeIds) (from : ℕ) (m : RouteReply) (rt2 : Table) (did : Reaction) : Type 0 where
  pub turned : turn c range (item from m) ≡ did
  pub full : turn_full c range (item from m) ≡ number_full rt2 (did.effect).broken

-- what was changed by an update was not stale
fresh_where_changed : (rt new : Table) (changed stale : Bool) → (changed ≡ false) ↔ (new ≡ rt) → (stale ≡ true) ↔ (new ≡ rt) → not changed ≡ stale
fresh_where_changed rt new true true as_told as_is = absurd (wrong (as_told.1 (as_is.0 refl)))
  where
    wrong : true ≡ false → ⊥
    wrong e = cc
fresh_where_changed rt new true false as_told as_is = refl
fresh_where_changed rt new false true as_told as_is = refl
fresh_where_changed rt new false false as_told as_is = sym (as_is.1 (as_told.0 refl))

-- what is done, by the choice of the code
pub ends : (c : Core) (range : NodeIds) (from : ℕ) (m : RouteReply) (rt1 rt2 : Table) (changed : Bool) (did : Reaction) → (m.hops == 255) ≡ false → rt1 ≡ update c.rt from (neighbour_entry from) → rt2 ≡ update rt1 m.dip (route_entry m.dsn m.hops from)
    → (changed ≡ false) ↔ (rt2 ≡ rt1)
    → end_of_rrep (record c { rt = rt2 }) (not changed) range m ≡ did
    → Ends c range from m rt2 did
unfolding after_reply after_hearing
ends c range from m rt1 rt2 changed did hops one_is two_is as_told chosen =
    let r = route_entry m.dsn m.hops from in
    let whole : rt2 ≡ update (update c.rt from (neighbour_entry from)) m.dip r = two_is ∙ ap (λ (t : Table). update t m.dip r) one_is in
    let as_is : (is_stale rt1 m.dip r ≡ true) ↔ (rt2 ≡ rt1) = subst (λ (t : Table). (is_stale rt1 m.dip r ≡ true) ↔ (t ≡ rt1)) (sym two_is) (stale_is_unchanged m.dsn m.hops from rt1 m.dip) in
    let stale : not changed ≡ is_stale rt1 m.dip r = fresh_where_changed rt1 rt2 changed (is_stale rt1 m.dip r) as_told as_is in
    let same : turn c range (item from m) ≡ did =
    after_is c range from m ∙ (λ i. after c range from m (sym one_is i) (sym whole i))
    ∙ ap (λ (b : Bool). end_of_rrep (record c { rt = rt2 }) b range m) (sym stale)
    ∙ chosen in
    record { turned = same; full = rw hops (λ i. number_full (sym whole i) ((same i).effect).broken) }

pub ended_made : (mesh : Nodes) (c : Core) (range : NodeIds) (from : ℕ) (m : RouteReply) (rt2 : Table) (effect : code.Effect) (out : List ℕ) → Ends c range from m rt2 (only (record c { rt = rt2 })) → effect ≡ effect_of quiet → out ≡ []
    → IsMade mesh (turn_full c range (item from m)) (turn c range (item from m)) effect (record c { rt = rt2 }) out
ended_made mesh c range from m rt2 effect out end effect_is out_is = record {
  free = end.full;
  did = effect_is ∙ (λ i. effect_of (sym end.turned i).effect);
  core = λ i. (sym end.turned i).core;
  packet = subst (λ (d : Reaction). IsPacket mesh out d.effect.cast) (sym end.turned) out_is;
}

pub passed_made : (mesh : Nodes) (c new : Core) (range : NodeIds) (from : ℕ) (m : RouteReply) (rt2 : Table) (did : Reaction) (effect : code.Effect) (out : List ℕ) → Ends c range from m rt2 did
    → IsMade mesh (number_full rt2 (did.effect).broken) did effect new out → IsMade mesh (turn_full c range (item from m)) (turn c range (item from m)) effect new out
passed_made mesh c new range from m rt2 did effect out end made = record {
  free = end.full ∙ made.free;
  did = made.did ∙ (λ i. effect_of (sym end.turned i).effect);
  core = made.core ∙ (λ i. (sym end.turned i).core);
  packet = subst (λ (d : Reaction). IsPacket mesh out d.effect.cast) (sym end.turned) made.packet;
}

pub passed_refused : (c new : Core) (range : NodeIds) (from : ℕ) (m : RouteReply) (rt2 rt4 : Table) (did : Reaction) (field : Counter) → Ends c range from m rt2 did
    → IsFull (number_full rt2 (did.effect).broken) (record c { rt = rt2 }) field new → rt4 ≡ c.rt
    → IsFull (turn_full c range (item from m)) c field (record new { rt = rt4 })
passed_refused c new range from m rt2 rt4 did field end refused back = record {
  overfull = end.full ∙ refused.overfull;
  same = λ i. record (refused.same i) { rt = back i };
}

-- the choice, over the Option that the code makes it by
pub chosen_none : (c : Core) (range : NodeIds) (did : Reaction) (o : Option Reply) → did ≡ passing c range o → o ≡ None → did ≡ only c
chosen_none c range did o is none = is ∙ ap (passing c range) none

pub chosen_some : (c : Core) (range : NodeIds) (did : Reaction) (o : Option Reply) (r : Reply) → did ≡ passing c range o → o ≡ Some r → did ≡ pass_on c range (reply_of r)
chosen_some c range did o r is some = is ∙ ap (passing c range) some
