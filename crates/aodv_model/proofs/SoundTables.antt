-- What the changes of a table keep: sound numbers, and entries that name nodes of the mesh.
use Rattle.std.proofs.Common.{◌≡◌, ◌≢◌, ℕ, ◌<◌, ◌≤◌, true, Some, None, Option, refl, sym, ◌∙◌, arith}
use Rattle.std.specs.FinMap as maps
use Rattle.mesh_base.specs.Members.{NodeIds}
use Rattle.aodv_model.specs.declared.entry.Entry.{Entry}
use Rattle.aodv_model.specs.declared.entry.Known.TheVariants.{Kno, Unk}
use Rattle.aodv_model.specs.Tables.{Table, Dests, in_kD, nhop, next_in, update, invalidate, invalidated, add_pre, add_pre_at}
use Rattle.aodv_model.specs.Handlers.{neighbour_entry, route_entry, one, join_answer_precursors, join_reply_precursors}
use Rattle.aodv_model.specs.Soundness.{HasSoundNumber, AllSoundNumbers, AreEntriesInMesh, IsSoundTable, AreBelow}
use Rattle.aodv_model.proofs.Lookups.{get-invalidate, get-add_pre}
use Rattle.aodv_model.proofs.Entries.{merged_sound, invalidated_sound, joined_sound}
use Rattle.aodv_model.proofs.Changes.{after_by, update_each, mapped_each, Raises}
use Rattle.aodv_model.proofs.TablesInMesh.{Moves, update_moves, update_has, update_wider, invalidate_moves, add_pre_moves, below_one, below_empty}

unknown : Unk ≡ Kno → ⊥
unknown e = cc

known : Kno ≡ Unk → ⊥
known e = cc

-- ---- numbers

neighbour_sound : (rt : Table) (from : ℕ) → AllSoundNumbers rt → AllSoundNumbers (update rt from (neighbour_entry from))
neighbour_sound rt from sound =
    let new : HasSoundNumber from (neighbour_entry from) = record { hops = omega arith; known = λ e. absurd (unknown e); direct = λ _. (refl, refl) } in
    update_each HasSoundNumber rt from (neighbour_entry from) sound (after_by (HasSoundNumber from) (maps.get rt from) (neighbour_entry from) new (λ s is. merged_sound from s (neighbour_entry from) (sound from s is) new (λ _. (refl, refl))))

route_sound : (rt : Table) (d n h from : ℕ) → 1 ≤ n → AllSoundNumbers rt → AllSoundNumbers (update rt d (route_entry n h from))
route_sound rt d n h from one sound =
    let new : HasSoundNumber d (route_entry n h from) = record { hops = omega arith; known = λ _. one; direct = λ zero. absurd (omega arith) } in
    update_each HasSoundNumber rt d (route_entry n h from) sound (after_by (HasSoundNumber d) (maps.get rt d) (route_entry n h from) new (λ s is. merged_sound d s (route_entry n h from) (sound d s is) new (λ e. absurd (known e))))

add_pre_sound : (rt : Table) (d : ℕ) (nodes : NodeIds) → AllSoundNumbers rt → AllSoundNumbers (add_pre rt d nodes)
add_pre_sound rt d nodes sound q e is =
    mapped_each HasSoundNumber (add_pre_at d nodes) q e (maps.get rt q) (sym (get-add_pre rt d nodes q) ∙ is) (λ x here. joined_sound q d nodes x (sound q x here))

invalidate_sound : (rt : Table) (dests : Dests) → Raises rt dests → AllSoundNumbers rt → AllSoundNumbers (invalidate rt dests)
invalidate_sound rt dests raises sound q e is =
    mapped_each HasSoundNumber (λ d e. invalidated e (maps.get dests d)) q e (maps.get rt q) (sym (get-invalidate rt dests q) ∙ is)
    (λ x here. invalidated_sound q x (maps.get dests q) (λ m there. raises.up q x m here there) (sound q x here))

-- ---- the numbers, and the mesh

module _ (size ip : ℕ) where
  pub neighbour_table : (rt : Table) (from : ℕ) → from < size → from ≢ ip → IsSoundTable size ip rt → IsSoundTable size ip (update rt from (neighbour_entry from))
  neighbour_table rt from l apart table =
      let moves : Moves size ip rt (update rt from (neighbour_entry from)) = update_moves size ip rt from (neighbour_entry from) table.in_mesh (record { dest = l; near = l; other = apart; has = update_has rt from (neighbour_entry from); pre = below_empty size }) in
      record { numbers = neighbour_sound rt from table.numbers; in_mesh = moves.in_mesh }

  -- a route through a node that has an entry
  pub route_table : (rt : Table) (d n h from : ℕ) → d < size → from < size → from ≢ ip → in_kD rt from ≡ true → 1 ≤ n → IsSoundTable size ip rt → IsSoundTable size ip (update rt d (route_entry n h from))
  route_table rt d n h from ld lf apart has one table =
      let wide = update_wider rt d (route_entry n h from) in
      let moves : Moves size ip rt (update rt d (route_entry n h from)) = update_moves size ip rt d (route_entry n h from) table.in_mesh (record { dest = ld; near = lf; other = apart; has = wide.has from has; pre = below_empty size }) in
      record { numbers = route_sound rt d n h from one table.numbers; in_mesh = moves.in_mesh }

  pub invalidate_table : (rt : Table) (dests : Dests) → Raises rt dests → IsSoundTable size ip rt → IsSoundTable size ip (invalidate rt dests)
  invalidate_table rt dests raises table =
      let moves : Moves size ip rt (invalidate rt dests) = invalidate_moves size ip rt dests table.in_mesh in
      record { numbers = invalidate_sound rt dests raises table.numbers; in_mesh = moves.in_mesh }

  pub add_pre_table : (rt : Table) (d : ℕ) (nodes : NodeIds) → AreBelow size nodes → IsSoundTable size ip rt → IsSoundTable size ip (add_pre rt d nodes)
  add_pre_table rt d nodes below table =
      let moves : Moves size ip rt (add_pre rt d nodes) = add_pre_moves size ip rt d nodes table.in_mesh below in
      record { numbers = add_pre_sound rt d nodes table.numbers; in_mesh = moves.in_mesh }

  next_below : (rt : Table) (d : ℕ) (o : Option Entry) → AreEntriesInMesh size ip rt → 0 < size → maps.get rt d ≡ o → next_in o < size
  next_below rt d None in_mesh some is = some
  next_below rt d (Some e) in_mesh some is = (in_mesh d e is).near

  pub nhop_below : (rt : Table) (d : ℕ) → 0 < size → IsSoundTable size ip rt → nhop rt d < size
  nhop_below rt d some table = next_below rt d (maps.get rt d) table.in_mesh some refl

  pub join_answer_table : (rt : Table) (d o from : ℕ) → from < size → IsSoundTable size ip rt → IsSoundTable size ip (join_answer_precursors rt d o from)
  unfolding join_answer_precursors
  join_answer_table rt d o from lf table =
      let rt1 = add_pre rt d (one from) in
      let first : IsSoundTable size ip rt1 = add_pre_table rt d (one from) (below_one size from lf) table in
      add_pre_table rt1 o (one (nhop rt1 d)) (below_one size (nhop rt1 d) (nhop_below rt1 d (omega arith) first)) first

  pub join_reply_table : (rt : Table) (d o : ℕ) → 0 < size → IsSoundTable size ip rt → IsSoundTable size ip (join_reply_precursors rt d o)
  unfolding join_reply_precursors
  join_reply_table rt d o some table =
      let rt1 = add_pre rt d (one (nhop rt o)) in
      let first : IsSoundTable size ip rt1 = add_pre_table rt d (one (nhop rt o)) (below_one size (nhop rt o) (nhop_below rt o some table)) table in
      add_pre_table rt1 (nhop rt1 d) (one (nhop rt1 o)) (below_one size (nhop rt1 o) (nhop_below rt1 o some first)) first
