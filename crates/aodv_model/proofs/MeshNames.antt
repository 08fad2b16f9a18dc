-- The effect of each turn, send and request names nodes of the mesh only.
use Rattle.std.proofs.Common.{◌≡◌, ◌≢◌, ℕ, ◌<◌, true, List, [], ◌∷◌, Some, None, Option, refl, arith, ◌≤◌}
use Rattle.std.specs.FinMap as maps
use Rattle.mesh_base.specs.Members.{NodeIds}
use Rattle.mesh_base.specs.declared.events.Variant.{Variant}
use Rattle.aodv_model.specs.declared.entry.Entry.{Entry}
use Rattle.aodv_model.specs.Tables.{Table, Dests, unreachable_by, nhop, precs, pre_in, update}
use Rattle.aodv_model.specs.Cores.{Message, Pkt, Item, Core}
use Rattle.aodv_model.specs.Handlers.{Reaction, all_precs, precs_of, error_cast, retract, link_broken, broken_by, unicast, neighbour_entry, route_entry, after_hearing, after_request, reply_for_self, reply_from_table, forward_request, forward_reply, forward_own_entry, after_reply, on_rerr, turn, may_send, send, ask}
use Rattle.aodv_model.specs.Soundness.{AreEntriesInMesh, AreBelow, IsSoundTable, IsSoundCore, IsItemInMesh, IsAimed, IsEffectInMesh}
use Rattle.aodv_model.proofs.TablesInMesh.{update_has, below_union, below_empty}
use Rattle.aodv_model.proofs.SoundTables.{neighbour_table, route_table, nhop_below, join_answer_table, join_reply_table}
use Rattle.aodv_model.proofs.Reactions.{unicast_case, error_case, data_error_case, ReactionCases, turn_cases, send_cases}

abbrev Names : ℕ → Reaction → Type 0
Names size reaction = IsEffectInMesh size reaction.effect

module _ (size ip : ℕ) (some : 0 < size) where
  -- ---- precursors

  pre_below : (rt : Table) (d : ℕ) (o : Option Entry) → AreEntriesInMesh size ip rt → maps.get rt d ≡ o → AreBelow size (pre_in o)
  pre_below rt d None in_mesh is = below_empty size
  pre_below rt d (Some e) in_mesh is = (in_mesh d e is).pre

  all_precs_below : (rt : Table) (ds : List ℕ) → AreEntriesInMesh size ip rt → AreBelow size (all_precs rt ds)
  all_precs_below rt [] in_mesh = below_empty size
  all_precs_below rt (d ∷ ds) in_mesh = below_union size (precs rt d) (all_precs rt ds) (pre_below rt d (maps.get rt d) in_mesh refl) (all_precs_below rt ds in_mesh)

  precs_of_below : (rt : Table) (dests : Dests) → AreEntriesInMesh size ip rt → AreBelow size (precs_of rt dests)
  unfolding precs_of
  precs_of_below rt dests in_mesh = all_precs_below rt (maps.keys dests) in_mesh

  -- ---- breaks

  error_aimed : (variant : Variant) (rt : Table) (dests : Dests) → AreEntriesInMesh size ip rt → IsAimed size (error_cast variant rt dests)
  error_aimed variant rt dests in_mesh = error_case (IsAimed size) variant rt dests tt (λ _. tt) (λ _. precs_of_below rt dests in_mesh)

  retract_names : (core : Core) (dests : Dests) → AreEntriesInMesh size ip core.rt → Names size (retract core dests)
  unfolding retract
  retract_names core dests in_mesh = record { broken = tt; cast = error_aimed core.variant core.rt dests in_mesh }

  broken_names : (core : Core) (y : ℕ) → y < size → AreEntriesInMesh size ip core.rt → Names size (broken_by y (link_broken core y))
  unfolding link_broken
  broken_names core y l in_mesh = record { broken = l; cast = (retract_names core (unreachable_by core.rt y) in_mesh).cast }

  -- a unicast to the next hop of a destination
  next_names : (core : Core) (m : Message) (d : ℕ) (range : NodeIds) → IsSoundTable size ip core.rt → Names size (unicast core m (nhop core.rt d) range)
  next_names core m d range table =
      let l : nhop core.rt d < size = nhop_below size ip core.rt d some table in
      unicast_case (Names size) core m (nhop core.rt d) range (λ _. record { broken = tt; cast = l }) (broken_names core (nhop core.rt d) l table.in_mesh)

  -- ---- turns

  hearing_table : (core : Core) (from : ℕ) → IsSoundTable size ip core.rt → from < size → from ≢ ip → IsSoundTable size ip (after_hearing core from).rt
  unfolding after_hearing
  hearing_table core from table l apart = neighbour_table size ip core.rt from l apart table

  -- the table once a route was learnt from a neighbour
  learnt_table : (core : Core) (from d n hops : ℕ) → IsSoundTable size ip core.rt → from < size → from ≢ ip → d < size → 1 ≤ n → IsSoundTable size ip (update (after_hearing core from).rt d (route_entry n hops from))
  unfolding after_hearing
  learnt_table core from d n hops table l apart below number =
      route_table size ip (after_hearing core from).rt d n hops from below l apart (update_has core.rt from (neighbour_entry from)) number (hearing_table core from table l apart)

  turn_names : (core : Core) (range : NodeIds) → IsSoundTable size ip core.rt → ReactionCases core range (λ item did. IsItemInMesh size ip item → Names size did)
  unfolding reply_for_self reply_from_table forward_request forward_reply forward_own_entry on_rerr after_request after_reply
  turn_names core range table = record {
    own = λ b d _ inside. record { broken = tt; cast = tt };
    stored = λ b d _ inside. record { broken = tt; cast = tt };
    arrived = λ from b d o _ inside. record { broken = tt; cast = tt };
    forwarded = λ from b d o _ inside. let p = next_names core (Pkt b d o) d range table in record { broken = p.broken; cast = p.cast };
    dropped = λ from b d o inside. record {
      broken = tt;
      cast = data_error_case (IsAimed size) core d tt tt (λ _. pre_below core.rt d (maps.get core.rt d) table.in_mesh refl);
    };
    known = λ from m inside. record { broken = tt; cast = tt };
    answered = λ from m _ _ inside. next_names _ _ m.oip range (learnt_table core from m.oip m.osn m.hops table inside.0 inside.1 inside.2.1 inside.2.2);
    vouched = λ from m _ _ _ inside.
        next_names _ _ m.oip range (join_answer_table size ip _ m.dip m.oip from inside.0 (learnt_table core from m.oip m.osn m.hops table inside.0 inside.1 inside.2.1 inside.2.2));
    flooded = λ from m _ inside. record { broken = tt; cast = tt };
    ended = λ from m inside. record { broken = tt; cast = tt };
    passed = λ from m _ inside.
        next_names _ _ m.oip range (join_reply_table size ip _ m.dip m.oip some (learnt_table core from m.dip m.dsn m.hops table inside.0 inside.1 inside.2.0 inside.2.2));
    restated = λ from m _ inside.
        next_names _ _ m.oip range (join_reply_table size ip _ m.dip m.oip some (learnt_table core from m.dip m.dsn m.hops table inside.0 inside.1 inside.2.0 inside.2.2));
    withdrawn = λ from dests inside. retract_names _ _ (hearing_table core from table inside.0 inside.1).in_mesh;
  }

-- ---- as laws

above_zero : (n size : ℕ) → n < size → 0 < size
above_zero n size l = omega arith

pub turn_names_the_mesh : (size : ℕ) (core : Core) (range : NodeIds) (item : Item) → core.ip < size → IsSoundCore size core → IsItemInMesh size core.ip item → IsEffectInMesh size (turn core range item).effect
turn_names_the_mesh size core range item l sound inside =
    turn_cases core range (λ item did. IsItemInMesh size core.ip item → Names size did) (turn_names size core.ip (above_zero core.ip size l) core range sound.table) item inside

pub send_names_the_mesh : (size : ℕ) (core : Core) (range : NodeIds) (d : ℕ) → core.ip < size → IsSoundCore size core → may_send core d ≡ true → IsEffectInMesh size (send core range d).effect
send_names_the_mesh size core range d l sound may =
    let below : nhop core.rt d < size = nhop_below size core.ip core.rt d (above_zero core.ip size l) sound.table in
    send_cases (Names size) core range d (λ _. record { broken = tt; cast = below }) (broken_names size core.ip (above_zero core.ip size l) core (nhop core.rt d) below sound.table.in_mesh)

pub ask_names_the_mesh : (size : ℕ) (core : Core) (d : ℕ) → IsEffectInMesh size (ask core d).effect
unfolding ask
ask_names_the_mesh size core d = record { broken = tt; cast = tt }
