-- Each turn, send and request keeps the core in order, and casts only messages that a packet of the mesh can encode.
use Rattle.std.proofs.Common.{◌≡◌, ◌≢◌, ℕ, ◌<◌, ◌≤◌, Bool, true, false, cond, ◌&&◌, not, ◌==◌, Some, None, refl, ap, sym, ◌∙◌, subst, arith}
use Rattle.std.specs.Prelude.{max}
use Rattle.std.specs.Ordering.{nat_cmp}
use Rattle.std.specs.Cmp.{nat_cmp_total, unsigned_tied}
use Rattle.std.proofs.lemmas.Bool.{eqb-true}
use Rattle.std.proofs.lemmas.Bool.Decides.{nat_tests}
use Rattle.std.proofs.lemmas.Option.{none-some}
use Rattle.std.specs.FinMap as maps
use Rattle.mesh_base.specs.Members.{NodeIds}
use Rattle.mesh_base.specs.declared.events.Variant.{Variant}
use Rattle.aodv_model.specs.Quality.{is_kno, inc}
use Rattle.aodv_model.specs.Tables.{Table, Dests, dests_of, unreachable_by, sqn, sqnf, nhop, precs, status_in, number_in, update}
use Rattle.aodv_model.specs.Cores.{RouteRequest, RouteReply, Message, Pkt, Rreq, Rrep, Item, Core, opening}
use Rattle.aodv_model.specs.Handlers.{Reaction, is_empty, with_precs, error_cast, retract, link_broken, broken_by, unicast, neighbour_entry, route_entry, after_hearing, after_request, reply_for_self, can_answer, one, join_answer_precursors, reply_from_table, forward_request, join_reply_precursors, forward_reply, forward_own_entry, after_reply, on_rerr, turn, may_send, send, may_ask, ask}
use Rattle.aodv_model.specs.Soundness.{IsSoundTable, IsSoundCore, IsStoreInMesh, AreDestsBelow, IsMessageInMesh, IsItemInMesh, IsCastInMesh, IsSoundReaction}
use Rattle.aodv_model.proofs.Lookups.{get-kept}
use Rattle.aodv_model.proofs.Changes.{Raises, unreachable_by_raises, accepted_raises}
use Rattle.aodv_model.proofs.TablesInMesh.{update_has, unreachable_by_below, accepted_below, kept_of}
use Rattle.aodv_model.proofs.Readings.{known_number, route_above, join_answer_alike, join_reply_alike}
use Rattle.aodv_model.proofs.SoundTables.{neighbour_table, route_table, invalidate_table, join_answer_table, join_reply_table}
use Rattle.aodv_model.proofs.Stores.{add_kept, drop_kept, unset_kept, set_kept, first_datum}
use Rattle.aodv_model.proofs.Reactions.{unicast_case, error_case, data_error_case, ReactionCases, turn_cases, send_cases}

-- the core of node ip is in order
pub record Stands (size ip : ℕ) (core : Core) : Type 0 where
  pub named : core.ip ≡ ip
  pub own : 1 ≤ core.sn
  pub table : IsSoundTable size ip core.rt
  pub store : IsStoreInMesh size core.store

-- and so is what comes of it
pub record Settles (size ip : ℕ) (reaction : Reaction) : Type 0 where
  pub core : Stands size ip reaction.core
  pub cast : IsCastInMesh size (reaction.effect).cast

pub stands_of : (size : ℕ) (core : Core) → IsSoundCore size core → IsStoreInMesh size core.store → Stands size core.ip core
stands_of size core sound store = record { named = refl; own = sound.own; table = sound.table; store = store }

pub sound_of : (size ip : ℕ) (core : Core) → Stands size ip core → IsSoundCore size core
sound_of size ip core s = record { own = s.own; table = subst (λ k. IsSoundTable size k core.rt) (sym s.named) s.table }

left : (a b : Bool) → (a && b) ≡ true → a ≡ true
left true b e = refl
left false b e = cc

module _ (size ip : ℕ) where
  with_table : (core : Core) (rt : Table) → Stands size ip core → IsSoundTable size ip rt → Stands size ip (record core { rt = rt })
  with_table core rt s table = record { named = s.named; own = s.own; table = table; store = s.store }

  -- ---- breaks

  error_in_mesh : (variant : Variant) (rt : Table) (dests : Dests) → AreDestsBelow size dests → IsCastInMesh size (error_cast variant rt dests)
  unfolding with_precs
  error_in_mesh variant rt dests below =
      error_case (IsCastInMesh size) variant rt dests tt (λ _. below)
      (λ _ d n is. below d n (kept_of (maps.get dests d) (not (is_empty (precs rt d))) n (sym (get-kept dests (λ d. not (is_empty (precs rt d))) d) ∙ is)))

  retract_settles : (core : Core) (dests : Dests) → Stands size ip core → Raises core.rt dests → AreDestsBelow size dests → Settles size ip (retract core dests)
  unfolding retract
  retract_settles core dests s raises below = record {
    core = record { named = s.named; own = s.own; table = invalidate_table size ip core.rt dests raises s.table; store = set_kept size core.store (dests_of dests) s.store };
    cast = error_in_mesh core.variant core.rt dests below;
  }

  broken_settles : (core : Core) (y : ℕ) → Stands size ip core → Settles size ip (broken_by y (link_broken core y))
  unfolding link_broken
  broken_settles core y s =
      let p = retract_settles core (unreachable_by core.rt y) s (unreachable_by_raises core.rt y) (unreachable_by_below size ip core.rt y (s.table).in_mesh) in
      record { core = p.core; cast = p.cast }

  unicast_settles : (core : Core) (m : Message) (y : ℕ) (range : NodeIds) → Stands size ip core → IsMessageInMesh size m → Settles size ip (unicast core m y range)
  unicast_settles core m y range s inside = unicast_case (Settles size ip) core m y range (λ _. record { core = s; cast = inside }) (broken_settles core y s)

  dest_below : (d n : ℕ) → d < size → AreDestsBelow size (maps.insert maps.empty d n)
  dest_below d n l q k is = either (q == d) refl (sym (maps.get-insert nat_cmp_total maps.empty d n q ∙ ap (λ b. cond b (Some n) (maps.get {R = nat_cmp} maps.empty q)) (unsigned_tied q d) ∙ ap (λ o. cond (q == d) (Some n) o) (maps.get-empty nat_cmp q)) ∙ is)
    where
      either : (b : Bool) → (q == d) ≡ b → cond b (Some n) None ≡ Some k → q < size
      either true e is = subst (λ j. j < size) (sym (eqb-true q d e)) l
      either false e is = absurd (none-some k is)

  -- ---- turns

  hearing_stands : (core : Core) (from : ℕ) → Stands size ip core → from < size → from ≢ ip → Stands size ip (after_hearing core from)
  unfolding after_hearing
  hearing_stands core from s l apart = with_table core _ s (neighbour_table size ip core.rt from l apart s.table)

  -- the table once a route was learnt from a neighbour
  learnt_table : (core : Core) (from d n hops : ℕ) → Stands size ip core → from < size → from ≢ ip → d < size → 1 ≤ n → IsSoundTable size ip (update (after_hearing core from).rt d (route_entry n hops from))
  unfolding after_hearing
  learnt_table core from d n hops s l apart below number =
      route_table size ip (after_hearing core from).rt d n hops from below l apart (update_has core.rt from (neighbour_entry from)) number (hearing_stands core from s l apart).table

  request_stands : (core : Core) (from : ℕ) (m : RouteRequest) → Stands size ip core → from < size → from ≢ ip → IsMessageInMesh size (Rreq m) → Stands size ip (after_request core from m)
  unfolding after_request after_hearing
  request_stands core from m s l apart inside = record { named = s.named; own = s.own; store = s.store; table = learnt_table core from m.oip m.osn m.hops s l apart inside.1 inside.2 }

  reply_stands : (core : Core) (from : ℕ) (m : RouteReply) → Stands size ip core → from < size → from ≢ ip → IsMessageInMesh size (Rrep m) → Stands size ip (after_reply core from m)
  unfolding after_reply after_hearing
  reply_stands core from m s l apart inside = with_table core _ s (learnt_table core from m.dip m.dsn m.hops s l apart inside.0 inside.2)

  reply_above : (core : Core) (from : ℕ) (m : RouteReply) → 1 ≤ m.dsn → 1 ≤ sqn (after_reply core from m).rt m.dip
  unfolding after_reply
  reply_above core from m one = route_above (after_hearing core from).rt m.dip m.dsn m.hops from one

  -- the core in which a reply is passed on
  passing_stands : (core : Core) (m : RouteReply) → Stands size ip core → m.dip < size → Stands size ip (record core { rt = join_reply_precursors core.rt m.dip m.oip })
  passing_stands core m s l = with_table core _ s (join_reply_table size ip core.rt m.dip m.oip (omega arith) s.table)

  reply_from_table_settles : (core : Core) (range : NodeIds) (from : ℕ) (m : RouteRequest) → Stands size ip core → from < size → (m.dip < size) × (m.oip < size) → can_answer core m ≡ true → Settles size ip (reply_from_table core range from m)
  unfolding reply_from_table
  reply_from_table_settles core range from m s l inside can =
      let rt = join_answer_precursors core.rt m.dip m.oip from in
      let table : IsSoundTable size ip rt = join_answer_table size ip core.rt m.dip m.oip from l s.table in
      let known : is_kno (sqnf rt m.dip) ≡ true = join_answer_alike (λ o. is_kno (status_in o)) core.rt m.dip m.oip from m.dip (λ e pre. refl) ∙ grind (arith, can) in
      unicast_settles _ _ _ range (with_table core rt s table) (inside.0, inside.1, known_number rt m.dip (maps.get rt m.dip) table.numbers refl known)

  settles : (core : Core) (range : NodeIds) → Stands size ip core → ReactionCases core range (λ item did. IsItemInMesh size ip item → Settles size ip did)
  unfolding reply_for_self forward_request forward_reply forward_own_entry on_rerr
  settles core range s = record {
    own = λ b d _ inside. record { core = s; cast = tt };
    stored = λ b d _ inside. record { core = record { named = s.named; own = s.own; table = s.table; store = add_kept size core.store d b inside.0 inside.1 s.store }; cast = tt };
    arrived = λ from b d o _ inside. record { core = s; cast = tt };
    forwarded = λ from b d o _ inside. let p = unicast_settles core (Pkt b d o) (nhop core.rt d) range s inside.2 in record { core = p.core; cast = p.cast };
    dropped = λ from b d o inside. let single = dest_below d (sqn core.rt d) inside.2.0 in record { core = s; cast = data_error_case (IsCastInMesh size) core d tt single (λ _. single) };
    known = λ from m inside. record { core = hearing_stands core from s inside.0 inside.1; cast = tt };
    answered = λ from m _ _ inside.
        let after = request_stands core from m s inside.0 inside.1 inside.2 in
        let own : 1 ≤ max (after_request core from m).sn m.dsn = let o = after.own in omega arith in
        unicast_settles _ _ _ range (record { named = after.named; own = own; table = after.table; store = after.store }) (inside.2.0, inside.2.1, own);
    vouched = λ from m _ _ can inside.
        reply_from_table_settles (after_request core from m) range from m (request_stands core from m s inside.0 inside.1 inside.2) inside.0 (inside.2.0, inside.2.1) can;
    flooded = λ from m _ inside. record { core = request_stands core from m s inside.0 inside.1 inside.2; cast = inside.2 };
    ended = λ from m inside. record { core = reply_stands core from m s inside.0 inside.1 inside.2; cast = tt };
    passed = λ from m _ inside. unicast_settles _ _ _ range (passing_stands _ m (reply_stands core from m s inside.0 inside.1 inside.2) inside.2.0) inside.2;
    -- the number of the node's own entry isn't 0, since the reply's isn't
    restated = λ from m _ inside.
        let same = join_reply_alike number_in (after_reply core from m).rt m.dip m.oip m.dip (λ e pre. refl) in
        let above = reply_above core from m inside.2.2 in
        unicast_settles _ _ _ range (passing_stands _ m (reply_stands core from m s inside.0 inside.1 inside.2) inside.2.0) (inside.2.0, inside.2.1, omega arith);
    withdrawn = λ from dests inside.
        let rt = (after_hearing core from).rt in
        retract_settles _ _ (hearing_stands core from s inside.0 inside.1) (accepted_raises rt from dests) (accepted_below size rt from dests inside.2);
  }

  pub turn_settles : (core : Core) (range : NodeIds) (item : Item) → Stands size ip core → IsItemInMesh size ip item → Settles size ip (turn core range item)
  turn_settles core range item s = turn_cases core range (λ item did. IsItemInMesh size ip item → Settles size ip did) (settles core range s) item

  pub send_settles : (core : Core) (range : NodeIds) (d : ℕ) → Stands size ip core → ip < size → may_send core d ≡ true → Settles size ip (send core range d)
  send_settles core range d s li may =
      let first = first_datum size core.store d s.store (left _ _ may) in
      send_cases (Settles size ip) core range d
      (λ _. record {
        core = record { named = s.named; own = s.own; table = s.table; store = drop_kept size core.store d s.store };
        cast = (first.0, subst (λ k. k < size) (sym s.named) li, first.1);
      })
      (broken_settles core (nhop core.rt d) s)

  pub ask_settles : (core : Core) (d : ℕ) → Stands size ip core → ip < size → d < size → Settles size ip (ask core d)
  unfolding ask
  ask_settles core d s li ld = record {
    core = record { named = s.named; own = raised core.sn s.own; table = s.table; store = unset_kept size core.store d s.store };
    cast = (ld, subst (λ k. k < size) (sym s.named) li, raised core.sn s.own);
  }
    where
      raised : (n : ℕ) → 1 ≤ n → 1 ≤ inc n
      raised n one = grind (arith, nat_tests)

-- ---- as laws

reaction_of : (size ip : ℕ) (reaction : Reaction) → Settles size ip reaction → IsSoundReaction size ip reaction
reaction_of size ip reaction p = let s : Stands size ip reaction.core = p.core in record { named = s.named; core = sound_of size ip reaction.core s; store = s.store; cast = p.cast }

pub opening_is_sound : (size : ℕ) (variant : Variant) (ip first : ℕ) → 1 ≤ first → IsSoundCore size (opening variant ip first) × IsStoreInMesh size (opening variant ip first).store
opening_is_sound size variant ip first one = (
  record { own = one; table = record { numbers = λ d e there. absurd (none-some e (sym (maps.get-empty nat_cmp d) ∙ there)); in_mesh = λ d e there. absurd (none-some e (sym (maps.get-empty nat_cmp d) ∙ there)) } },
  λ d s there. absurd (none-some s (sym (maps.get-empty nat_cmp d) ∙ there)),
)

pub turn_keeps_core : (size : ℕ) (core : Core) (range : NodeIds) (item : Item) → IsSoundCore size core → IsStoreInMesh size core.store → IsItemInMesh size core.ip item → IsSoundReaction size core.ip (turn core range item)
turn_keeps_core size core range item sound store inside = reaction_of size core.ip (turn core range item) (turn_settles size core.ip core range item (stands_of size core sound store) inside)

pub send_keeps_core : (size : ℕ) (core : Core) (range : NodeIds) (d : ℕ) → IsSoundCore size core → IsStoreInMesh size core.store → core.ip < size → may_send core d ≡ true → IsSoundReaction size core.ip (send core range d)
send_keeps_core size core range d sound store l may = reaction_of size core.ip (send core range d) (send_settles size core.ip core range d (stands_of size core sound store) l may)

pub ask_keeps_core : (size : ℕ) (core : Core) (d : ℕ) → IsSoundCore size core → IsStoreInMesh size core.store → core.ip < size → may_ask core d ≡ true → IsSoundReaction size core.ip (ask core d)
ask_keeps_core size core d sound store l may = reaction_of size core.ip (ask core d) (ask_settles size core.ip core d (stands_of size core sound store) l (first_datum size core.store d store (left _ _ may)).0)
