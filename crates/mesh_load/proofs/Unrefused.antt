-- No refusal applies to the checkpoint of a state of a run: its world is one of nodes and a radio that a reader makes.
use Rattle.std.proofs.Common.{◌≡◌, ◌≢◌, ℕ, suc, ◌+◌, Bool, true, List, [], ◌∷◌, map, length, Option, Some, None, refl, sym, ap, subst, ◌∙◌, arith}
use Rattle.std.specs.Prelude.{slice_get, option_map, IfSome, ◌&&◌, ⊤}
use Rattle.std.specs.Option.{unwrap_or}
use Rattle.std.specs.List.{AllByRecursion}
use Rattle.std.specs.Ordering.{nat_cmp}
use Rattle.std.specs.FinMap as maps
use Rattle.std.proofs.lemmas.Bool.{and_parts}
use Rattle.std.proofs.lemmas.List.{length-map}
use Rattle.std.proofs.lemmas.Option.{slice_get-map}
use Rattle.mesh_base.specs.Meshes.{Nodes, IsMesh}
use Rattle.mesh_base.specs.declared.events.Item as items
use Rattle.mesh_base.specs.declared.events.Flying.{Flying}
use Rattle.mesh_base.specs.declared.events.Variant.{Variant}
use Rattle.mesh_base.proofs.Lemmas.Lists.{each_at}
use Rattle.aodv_model.specs.declared.entry.Entry.{Entry}
use Rattle.aodv_model.specs.Tables.{Table}
use Rattle.aodv_model.specs.Cores.{Message, Pkt, Rreq, Rrep, Rerr, Item, New, Heard}
use Rattle.aodv_model.specs.Soundness.{IsSoundCore, IsItemInMesh}
use Rattle.aodv_meaning.specs.Meaning.{meaning}
use Rattle.aodv_meaning.specs.Sent.{IsSent}
use Rattle.aodv_meaning.specs.Effects.{item_in}
use Rattle.aodv_node.specs.Seen.{NodeSeen, IsItemAt}
use Rattle.aodv_node.specs.Restored.{HasSoundCore, HasItemsAt}
use Rattle.mesh_model.specs.Worlds as model
use Rattle.mesh_model.specs.Worlds.{start, first_numbers}
use Rattle.mesh_model.specs.Walks as walks
use Rattle.mesh_model.specs.InMesh.{IsInMesh, IsCopyInMesh}
use Rattle.mesh_model.specs.Invariants.{IsHonest, IsHonestItem, IsHonestCopy, IsBacked, IsLoopSafe}
use Rattle.mesh_model.specs.Accounts.{any, waiting, queued_data, in_flight}
use Rattle.mesh_model.proofs.AccountSteps.{start_empty}
use Rattle.mesh_radio.specs.Radios.{RadioState}
use Rattle.mesh_meaning.specs.Packets.{packet_of, IsWritten}
use Rattle.mesh_sound.specs.Packets.{InItem, InEachPacket}
use Rattle.mesh_sound.specs.Claims.{table_in, table, Holds, IsHonestIfRequest, IsHonestIfReply}
use Rattle.mesh_sound.specs.declared.packets.Claim.TheVariants as claims
use Rattle.mesh_world.specs.Seen.{WorldSeen, node_in, data_of}
use Rattle.mesh_world.specs.Kept.{world_in, seen_of}
use Rattle.mesh_world.specs.Restored.{AreWritten, AreSoundParts}
use Rattle.mesh_world.specs.declared.restored.Part.{Part}
use Rattle.mesh_text.specs.Schedule.{RunState, Sums, world_of}
use Rattle.mesh_text.specs.Text.{text_of_input}
use Rattle.mesh_text.specs.Accounts as accounts
use Rattle.mesh_text.proofs.RunStates.{input_kept}
use Rattle.mesh_checkpoint.specs.declared.validating.ValidateError.TheVariants as validates
use Rattle.mesh_checkpoint.specs.Formats.{fits_maybe}
use Rattle.mesh_checkpoint.specs.Checkpoint as format
use Rattle.mesh_checkpoint.specs.Checkpoint.{Node, Body, has_nodes}
use Rattle.mesh_checkpoint.specs.Counts.{data_in, data_in_world, IsBalanced}
use Rattle.mesh_checkpoint.specs.Points.{item_of, node_of, copy_of, world_after, head_of, body_of, IsState}
use Rattle.mesh_checkpoint.specs.Seen.{listed_node}
use Rattle.mesh_checkpoint.specs.Laws.{OneBody, BalancedIsTaken}
use Rattle.mesh_load.specs.declared.error.StateError.{StateError}
use Rattle.mesh_load.specs.declared.error.StateError.TheVariants as errors
use Rattle.mesh_load.specs.Nodes.{AllFrom, IsSoundNodeAt, AreListed}
use Rattle.mesh_load.specs.Loading.{AreInPlace, IsUnsoundWorld, IsRefused, RunIsUnrefused}
use Rattle.mesh_load.specs.RunStates.{IsPlainItem}
use Rattle.mesh_load.specs.Parts.{IsWorldFrom, IsUnsoundIfWorld, IsUnsoundBody}
use Rattle.mesh_load.proofs.Amounts.{data_agree}
use Rattle.mesh_load.proofs.ClearPackets.{IsClear}
use Rattle.mesh_load.proofs.Making.{body_ranges}
use Rattle.mesh_load.proofs.RunStates.{queue_again, copies_again}
use Rattle.mesh_load.proofs.PlainRuns.{IsClearItem, IsRunWorld, HasRunWorld, plain_world, run_has}
use Rattle.mesh_load.proofs.Sound.{none_unsound}
use Rattle.mesh_load.proofs.WorldParts.{world_ranges}
use Rattle.mesh_load.proofs.Loaded.{unsound_if}

-- ---- the nodes and the radio of a world

abbrev seen_node : Nodes → model.Node → NodeSeen
seen_node mesh n = record { core = n.core; items = map (item_of mesh) n.queue; room = 0; size = length mesh }

abbrev nodes_seen : Nodes → model.World → List NodeSeen
nodes_seen mesh w = map (seen_node mesh) w.nodes

abbrev radio_seen : Nodes → model.World → RadioState
radio_seen mesh w = record {
  size = length mesh;
  links = w.links;
  ever = w.ever;
  flying = map (copy_of mesh) w.flying;
  next_copy = w.next_copy;
  room = 0;
  most = 0;
}

-- ---- lists

mapped_of : {A B : Type 0} (f : A → B) (P : B → Type 0) (xs : List A) → ((x : ℕ) (a : A) → slice_get xs x ≡ Some a → P (f a)) → AllByRecursion P (map f xs)
mapped_of {A} {B} f P [] each = tt
mapped_of {A} {B} f P (a ∷ xs) each = (each 0 a refl, mapped_of f P xs (λ x b at. each (suc x) b at))

mapped_from : (mesh : Nodes) (P : ℕ → NodeSeen → Type 0) (k : ℕ) (ns : List model.Node) → ((x : ℕ) (n : model.Node) → slice_get ns x ≡ Some n → P (k + x) (seen_node mesh n)) → AllFrom P k (map (seen_node mesh) ns)
mapped_from mesh P k [] each = tt
mapped_from mesh P k (n ∷ ns) each =
    let here : k + 0 ≡ k = omega arith in (
      subst (λ j. P j (seen_node mesh n)) here (each 0 n refl),
      mapped_from mesh P (k + 1) ns (λ x m at. let there : k + suc x ≡ k + 1 + x = omega arith in subst (λ j. P j (seen_node mesh m)) there (each (suc x) m at)),
    )

-- ---- listings

listed_are : (mesh : Nodes) (ns : List model.Node) → map (node_of mesh) ns ≡ map listed_node (map (seen_node mesh) ns)
listed_are mesh [] = refl
listed_are mesh (n ∷ ns) = ap (λ l. node_of mesh n ∷ l) (listed_are mesh ns)

module _ (v : Variant) (mesh : Nodes) (w : model.World) (is : IsRunWorld v mesh w) where
  safe : IsLoopSafe w
  safe = is.invariant.loop_safe

  inside : IsInMesh w
  inside = is.invariant.in_mesh

  node_sound : (x : ℕ) (n : model.Node) → slice_get w.nodes x ≡ Some n → IsSoundNodeAt v (length mesh) x (seen_node mesh n)
  node_sound x n at =
      let in_mesh = inside.nodes x n at in (
        record {
          named = in_mesh.named;
          variant_is = each_at (λ (m : model.Node). (m.core).variant ≡ v) w.nodes x n is.variant_is at;
          size_is = refl;
        },
        subst (λ k. IsSoundCore k n.core) is.size in_mesh.core,
      )

  listed : AreListed v (length mesh) (map (node_of mesh) w.nodes) (nodes_seen mesh w)
  listed = record {
    lists_are = listed_are mesh w.nodes;
    each = mapped_from mesh (IsSoundNodeAt v (length mesh)) 0 w.nodes (λ x n at.
        let same : x ≡ 0 + x = omega arith in
        subst (λ (k : ℕ). IsSoundNodeAt v (length mesh) k (seen_node mesh n)) same (node_sound x n at));
  }

  count : length (nodes_seen mesh w) ≡ length mesh
  count = length-map w.nodes (seen_node mesh) ∙ is.size

  -- ---- tables

  table_at : (x : ℕ) → table (nodes_seen mesh w) x ≡ walks.table w x
  table_at x = ap table_in (slice_get-map (seen_node mesh) w.nodes x) ∙ by (slice_get w.nodes x)
    where
      by : (o : Option model.Node) → table_in (option_map (seen_node mesh) o) ≡ walks.rt_in o
      by None = refl
      by (Some n) = refl

  tables_are : table (nodes_seen mesh w) ≡ walks.table w
  tables_are = λ i. λ x. table_at x i

  backed_here : (x d : ℕ) (n : model.Node) → slice_get w.nodes x ≡ Some n → IfSome (maps.get (n.core).rt d) (IsBacked (walks.table w) d)
  backed_here x d n at = by (maps.get (n.core).rt d) refl
    where
      by : (e : Option Entry) → maps.get (n.core).rt d ≡ e → IfSome e (IsBacked (walks.table w) d)
      by None is = tt
      by (Some e) is = (safe.nodes x n at).entries d e is

  backed_in : (x d : ℕ) → IfSome (maps.get (walks.table w x) d) (IsBacked (walks.table w) d)
  backed_in x d = by (slice_get w.nodes x) refl
    where
      by : (o : Option model.Node) → slice_get w.nodes x ≡ o → IfSome (maps.get (walks.rt_in o) d) (IsBacked (walks.table w) d)
      by None at = subst (λ (e : Option Entry). IfSome e (IsBacked (walks.table w) d)) (sym (maps.get-empty nat_cmp d)) tt
      by (Some n) at = backed_here x d n at

  -- ---- packets

  module _ (P : ℕ → List ℕ → Type 0) (give : (from : ℕ) (m : Message) → IsClear mesh m → IsHonest (walks.table w from) from m → P from (packet_of mesh m)) where
    queue_each : (qs : List Item) → AllByRecursion (IsClearItem mesh) qs → AllByRecursion (IsHonestItem (walks.table w)) qs → AllByRecursion (InItem P) (map (item_of mesh) qs)
    queue_each [] clear honest = tt
    queue_each (New b d ∷ qs) clear honest = (tt, queue_each qs clear.1 honest.1)
    queue_each (Heard from m ∷ qs) clear honest = (give from m clear.0 honest.0, queue_each qs clear.1 honest.1)

    flight_each : (cs : List model.Copy) → AllByRecursion (λ c. IsClear mesh c.message) cs → AllByRecursion (IsHonestCopy (walks.table w)) cs → AllByRecursion (λ f. P f.from f.bytes) (map (copy_of mesh) cs)
    flight_each [] clear honest = tt
    flight_each (c ∷ cs) clear honest = (give c.from c.message clear.0 honest.0, flight_each cs clear.1 honest.1)

    in_each : InEachPacket P (nodes_seen mesh w) (radio_seen mesh w).flying
    in_each = record {
      waits = mapped_of (seen_node mesh) (λ n. AllByRecursion (InItem P) n.items) w.nodes (λ x n at.
          queue_each n.queue (each_at (λ (m : model.Node). AllByRecursion (IsClearItem mesh) m.queue) w.nodes x n is.waits at) (safe.nodes x n at).queue);
      flies = flight_each w.flying is.flies safe.flying;
    }

  written : AreWritten mesh (nodes_seen mesh w) (radio_seen mesh w).flying
  written = in_each (Holds claims.Written mesh (nodes_seen mesh w)) (λ from m clear honest. subst (IsSent mesh (packet_of mesh m)) (sym clear.plain) clear.sent)

  request_of : (rt : Table) (from : ℕ) (m : Message) → IsHonest rt from m → IsHonestIfRequest rt from m
  request_of rt from (Pkt b d o) honest = tt
  request_of rt from (Rreq m) honest = honest
  request_of rt from (Rrep m) honest = tt
  request_of rt from (Rerr dests) honest = tt

  reply_of : (rt : Table) (from : ℕ) (m : Message) → IsHonest rt from m → IsHonestIfReply rt from m
  reply_of rt from (Pkt b d o) honest = tt
  reply_of rt from (Rreq m) honest = tt
  reply_of rt from (Rrep m) honest = honest
  reply_of rt from (Rerr dests) honest = tt

  sound : AreSoundParts mesh (nodes_seen mesh w) (radio_seen mesh w).flying
  sound = record {
    written = written;
    requests = in_each (Holds claims.Request mesh (nodes_seen mesh w)) (λ from m clear honest.
        subst (λ (k : Message). IsHonestIfRequest (table (nodes_seen mesh w) from) from k) (sym clear.plain)
        (subst (λ (t : Table). IsHonestIfRequest t from m) (sym (table_at from)) (request_of (walks.table w from) from m honest)));
    replies = in_each (Holds claims.Reply mesh (nodes_seen mesh w)) (λ from m clear honest.
        subst (λ (k : Message). IsHonestIfReply (table (nodes_seen mesh w) from) from k) (sym clear.plain)
        (subst (λ (t : Table). IsHonestIfReply t from m) (sym (table_at from)) (reply_of (walks.table w from) from m honest)));
    backed = λ x d. subst (λ (t : ℕ → Table). IfSome (maps.get (t x) d) (IsBacked t d)) (sym tables_are) (backed_in x d);
  }

  -- ---- items and copies in the mesh

  items_at : (size x : ℕ) (qs : List Item) → AllByRecursion (IsItemInMesh size x) qs → AllByRecursion (IsItemAt size x) (map (item_of mesh) qs)
  items_at size x [] all = tt
  items_at size x (New b d ∷ qs) all = (all.0, items_at size x qs all.1)
  items_at size x (Heard from m ∷ qs) all = ((all.0.0, all.0.1), items_at size x qs all.1)

  between : (size : ℕ) (cs : List model.Copy) → AllByRecursion (IsCopyInMesh size) cs → AllByRecursion (λ c. c.from ≢ c.to) (map (copy_of mesh) cs)
  between size [] all = tt
  between size (c ∷ cs) all = (all.0.2, between size cs all.1)

  in_place : AreInPlace mesh (nodes_seen mesh w) (radio_seen mesh w).flying
  in_place = record {
    items = mapped_of (seen_node mesh) HasItemsAt w.nodes (λ x n at.
        let in_mesh = inside.nodes x n at in
        subst (λ k. AllByRecursion (IsItemAt k (n.core).ip) (map (item_of mesh) n.queue)) is.size
        (subst (λ j. AllByRecursion (IsItemAt (length w.nodes) j) (map (item_of mesh) n.queue)) (sym in_mesh.named) (items_at (length w.nodes) x n.queue in_mesh.queue)));
    between = between (length w.nodes) w.flying inside.flying;
    written = written;
  }

  -- ---- the world

  world_again : world_in mesh (nodes_seen mesh w) (radio_seen mesh w) ≡ w
  unfolding world_in
  world_again =
      let plain = (plain_world v mesh w is).plain in
      let nodes : map (node_in mesh) (map (seen_node mesh) w.nodes) ≡ w.nodes = again w.nodes plain.waits in
      let flying = copies_again mesh w.flying plain.flies in
      λ i. record { nodes = nodes i; links = w.links; ever = w.ever; flying = flying i; next_copy = w.next_copy }
    where
      again : (ns : List model.Node) → AllByRecursion (λ n. AllByRecursion (IsPlainItem mesh) n.queue) ns → map (node_in mesh) (map (seen_node mesh) ns) ≡ ns
      again [] plain = refl
      again (n ∷ ns) plain =
          let first : map (item_in mesh) (map (item_of mesh) n.queue) ≡ n.queue = queue_again mesh n.queue plain.0 in
          let others = again ns plain.1 in
          λ i. record { core = n.core; queue = first i } ∷ others i

  data_are : (steps : ℕ) → (format.world (length mesh)).fits (world_after steps mesh w) ≡ true → data_of (world_in mesh (nodes_seen mesh w) (radio_seen mesh w)) ≡ data_in_world (world_after steps mesh w)
  data_are steps fits =
      data_agree mesh (nodes_seen mesh w) (radio_seen mesh w) (world_after steps mesh w) (listed_are mesh w.nodes) refl count (world_ranges (length mesh) (world_after steps mesh w) fits).1 written

  from_run : (steps : ℕ) → (format.world (length mesh)).fits (world_after steps mesh w) ≡ true
      → IsWorldFrom mesh v (world_after steps mesh w) (seen_of mesh (nodes_seen mesh w) (radio_seen mesh w) steps)
  from_run steps fits = record {
    nodes = nodes_seen mesh w;
    radio = radio_seen mesh w;
    seen_is = refl;
    listed_are = listed;
    count = count;
    links_are = refl;
    next_is = refl;
    copies_are = refl;
    data_are = data_are steps fits;
    in_place = in_place;
    sound = sound;
  }

  no_part : (steps : ℕ) (part : Part) → (format.world (length mesh)).fits (world_after steps mesh w) ≡ true → ¬ (IsUnsoundWorld mesh v (world_after steps mesh w) part)
  no_part steps part fits =
      none_unsound mesh v (world_after steps mesh w) (seen_of mesh (nodes_seen mesh w) (radio_seen mesh w) steps) part (omega (arith, is.size, is.few)) (from_run steps fits)

  same_data : (steps : ℕ) → (format.world (length mesh)).fits (world_after steps mesh w) ≡ true → data_in_world (world_after steps mesh w) ≡ data_of w
  same_data steps fits = sym (data_are steps fits) ∙ ap data_of world_again

-- ---- states

-- the numbers of a world, if there is one, are in the table's ranges
abbrev Fits : Nodes → ℕ → Option model.World → Type 0
Fits mesh steps o = IfSome o (λ w. (format.world (length mesh)).fits (world_after steps mesh w) ≡ true)

world_fits : (m : RunState) → format.body.fits (body_of m) ≡ true → Fits m.mesh m.steps m.world
world_fits m fits = by m.world (body_ranges (head_of m) m.mesh (option_map (world_after m.steps m.mesh) m.world) fits).1
  where
    by : (o : Option model.World) → fits_maybe (has_nodes m.mesh) (format.world (length m.mesh)).fits (option_map (world_after m.steps m.mesh) o) ≡ true → IfSome o (λ w. (format.world (length m.mesh)).fits (world_after m.steps m.mesh w) ≡ true)
    by None is = tt
    by (Some w) is = (and_parts (has_nodes m.mesh) ((format.world (length m.mesh)).fits (world_after m.steps m.mesh w)) is).1

no_part_if : (v : Variant) (mesh : Nodes) (steps : ℕ) (o : Option model.World) (part : Part) → HasRunWorld v mesh steps o → Fits mesh steps o → ¬ (IsUnsoundIfWorld mesh v (option_map (world_after steps mesh) o) part)
no_part_if v mesh steps None part is fits unsound = unsound
no_part_if v mesh steps (Some w) part is fits unsound = no_part v mesh w is steps part fits unsound

data_if : (v : Variant) (mesh : Nodes) (steps : ℕ) (o : Option model.World) (w : model.World) → HasRunWorld v mesh steps o → Fits mesh steps o → (o ≡ None → w ≡ start v (first_numbers mesh)) → ((u : model.World) → o ≡ Some u → w ≡ u)
    → data_in (option_map (world_after steps mesh) o) ≡ waiting any w + queued_data any w + in_flight any w
data_if v mesh steps None w is fits none some = sym (ap data_of (none refl) ∙ start_empty any v (first_numbers mesh))
data_if v mesh steps (Some u) w is fits none some = same_data v mesh u is steps fits ∙ ap data_of (sym (some u refl))

balanced : (m : RunState) → HasRunWorld m.variant m.mesh m.steps m.world → Fits m.mesh m.steps m.world → accounts.IsBalanced m → IsBalanced (body_of m)
balanced m is fits account =
    let same = data_if m.variant m.mesh m.steps m.world (world_of m) is fits (made_none m) (made_some m) in
    omega arith
  where
    made_none : (m : RunState) → m.world ≡ None → world_of m ≡ start m.variant (first_numbers m.mesh)
    made_none m none = ap (λ o. unwrap_or o (start m.variant (first_numbers m.mesh))) none

    made_some : (m : RunState) (u : model.World) → m.world ≡ Some u → world_of m ≡ u
    made_some m u some = ap (λ o. unwrap_or o (start m.variant (first_numbers m.mesh))) some

state_unrefused : OneBody → BalancedIsTaken → (m : RunState) (b : List ℕ) (why : StateError) → HasRunWorld m.variant m.mesh m.steps m.world → accounts.IsBalanced m → IsState b m → IsRefused b why → why ≡ errors.NoMemory
state_unrefused one taken m b errors.NotState is account state told = absurd (taken b (body_of m) validates.NotState state (balanced m is (world_fits m state.fits) account) told)
state_unrefused one taken m b errors.Length is account state told = absurd (taken b (body_of m) validates.Length state (balanced m is (world_fits m state.fits) account) told)
state_unrefused one taken m b errors.Spelling is account state told = absurd (taken b (body_of m) validates.Spelling state (balanced m is (world_fits m state.fits) account) told)
state_unrefused one taken m b errors.Sums is account state told = absurd (taken b (body_of m) validates.Sums state (balanced m is (world_fits m state.fits) account) told)
state_unrefused one taken m b (errors.Unsound part) is account state told =
    let unsound : IsUnsoundBody told.body part = unsound_if (told.body).mesh ((told.body).head).variant (told.body).world told.world part told.world_is told.unsound in
    let same : told.body ≡ body_of m = one b told.body (body_of m) told.checkpoint state in
    absurd (no_part_if m.variant m.mesh m.steps m.world part is (world_fits m state.fits) (subst (λ (y : Body). IsUnsoundBody y part) same unsound))
state_unrefused one taken m b errors.NoMemory is account state told = refl

pub run_is_unrefused : OneBody → BalancedIsTaken → RunIsUnrefused
run_is_unrefused one taken v input b why state told = state_unrefused one taken (text_of_input v input).after b why (run_has v input) (input_kept v input).balanced state told
