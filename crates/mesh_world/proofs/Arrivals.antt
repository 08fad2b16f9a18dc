-- What joins a queue: a datum that is given, and a copy that is delivered; and a copy that is lost.
use Rattle.std.proofs.Common.{◌≡◌, ◌≢◌, ◌==◌, ℕ, ◌<◌, ◌+◌, ◌-◌, Bool, true, false, not, List, [], ◌∷◌, ◌++◌, map, length, Some, None, Option, Ok, Err, refl, ap, sym, ◌∙◌, subst, arith, ◌^◌}
use Rattle.std.specs.Prelude.{slice_get, slice_set, slice_index_or, is_some, option_map, filter, if◌then◌else◌}
use Rattle.std.proofs.Math.Seq.{set-get_or}
use Rattle.std.specs.List.{AllByRecursion}
use Rattle.std.proofs.lemmas.Option.{same_Some, none-some}
use Rattle.std.proofs.lemmas.List.{map_push}
use Rattle.mesh_base.specs.Meshes.{Nodes}
use Rattle.mesh_base.specs.declared.events.Flying.{Flying}
use Rattle.mesh_base.specs.declared.events.Item as items
use Rattle.mesh_base.specs.declared.events.Item.TheVariants as item
use Rattle.mesh_base.specs.declared.events.Done.TheVariants as done
use Rattle.mesh_base.proofs.Lemmas.Lists.{set_again}
use Rattle.aodv_model.specs.Cores.{Body, New, Heard}
use Rattle.aodv_model.specs.Soundness.{IsDatum, IsMessageInMesh}
use Rattle.aodv_meaning.specs.Meaning.{meaning}
use Rattle.aodv_meaning.specs.Effects.{item_in}
use Rattle.aodv_node.specs.Seen.{NodeSeen, IsSoundNode}
use Rattle.mesh_model.specs.Worlds as worlds
use Rattle.mesh_model.specs.Worlds.{World, Copy, Give, Deliver, Lose, Outcome, Idle, Next, Changed, CopyHeard, CopyLost, step, at_node, at_copy, push, with_item}
use Rattle.mesh_model.specs.InMesh.{IsCopyInMesh}
use Rattle.mesh_model.specs.Choices.{may_turn_in, first_send_in, first_ask_in}
use Rattle.mesh_model.proofs.Steps.{found_honest}
use Rattle.mesh_model.proofs.Lists.{each_append}
use Rattle.mesh_radio.specs.Copies as radios
use Rattle.mesh_radio.specs.Copies.{held_seen}
use Rattle.mesh_radio.specs.Radios.{RadioState, without_copy}
use Rattle.mesh_radio.specs.declared.copies.Held.{Held}
use Rattle.mesh_meaning.specs.Packets.{IsWritten, IsWrittenItem, IsWrittenCopy, copy_in}
use Rattle.mesh_world.specs.Seen.{node_in}
use Rattle.mesh_world.specs.Kept.{Ready, IsKept, IsKeptNode, IsReadyFor, world_in}
use Rattle.mesh_world.specs.declared.steps.StepError.TheVariants as errors
use Rattle.mesh_world.specs.Noted.{ready_with, with_turn, has_items}
use Rattle.mesh_world.proofs.Frames.{Ends, Beside, ends_done, ends_idle, ends_no_memory, beside, later, shown_at, noted_beside, map-set, each_set, count_of}
use Rattle.mesh_world.proofs.ReadySets.{noted_ready, noted_by_turn, some_item}
use Rattle.mesh_world.proofs.Acts.{stands, kept_node}

-- ---- one more item

-- a node with one item more
pub record Joined (n new : NodeSeen) (i : items.Item) : Type 0 where
  pub core : new.core ≡ n.core
  pub items : new.items ≡ n.items ++ i ∷ []
  pub size : new.size ≡ n.size
  pub sound : IsSoundNode new

pub joined : (n roomy new : NodeSeen) (i : items.Item) → roomy.core ≡ n.core → roomy.items ≡ n.items → roomy.size ≡ n.size → new ≡ record roomy { items = roomy.items ++ i ∷ []; room = roomy.room - 1 } → IsSoundNode new → Joined n new i
joined n roomy new i core same size is sound = record {
  core = ap (λ (m : NodeSeen). m.core) is ∙ core;
  items = ap (λ (m : NodeSeen). m.items) is ∙ ap (λ (xs : List items.Item). xs ++ i ∷ []) same;
  size = ap (λ (m : NodeSeen). m.size) is ∙ size;
  sound = sound;
}

-- it is noted by its turn alone
pub noted_joined : (mesh : Nodes) (nodes : List NodeSeen) (radio : RadioState) (ready ready' : Ready) (steps x : ℕ) (n new : NodeSeen) (i : items.Item) → IsKept mesh nodes radio ready steps → slice_get nodes x ≡ Some n → Joined n new i → ready' ≡ with_turn ready x → ready' ≡ ready_with ready x new (length mesh)
noted_joined mesh nodes radio ready ready' steps x n new i k at j is = is ∙ noted_by_turn mesh nodes ready x n new k.sets at j.core (ap has_items j.items ∙ some_item n.items i)

pushed : (mesh : Nodes) (nodes : List NodeSeen) (radio : RadioState) (x : ℕ) (n new : NodeSeen) (i : items.Item) → slice_get nodes x ≡ Some n → Joined n new i → push (world_in mesh nodes radio) x (item_in mesh i) ≡ world_in mesh (slice_set nodes x new) radio
unfolding push world_in
pushed mesh nodes radio x n new i at j =
    let w = world_in mesh nodes radio in
    let queue : map (item_in mesh) new.items ≡ map (item_in mesh) n.items ++ item_in mesh i ∷ [] = ap (map (item_in mesh)) j.items ∙ map_push (item_in mesh) n.items i in
    let node : record { core = n.core; queue = map (item_in mesh) n.items ++ item_in mesh i ∷ [] } ≡ node_in mesh new = λ k. record { core = sym j.core k; queue = sym queue k } in
    ap (λ o. with_item w x o (item_in mesh i)) (shown_at mesh nodes radio x n at)
    ∙ (λ k. record w { nodes = (ap (slice_set (map (node_in mesh) nodes) x) node ∙ sym (map-set (node_in mesh) nodes x new)) k })

beside_joined : (mesh : Nodes) (nodes : List NodeSeen) (radio radio' : RadioState) (ready ready' : Ready) (steps x : ℕ) (n new : NodeSeen) (i : items.Item) → IsKept mesh nodes radio ready steps → x < length mesh → slice_get nodes x ≡ Some n → IsWrittenItem mesh i → Joined n new i
    → AllByRecursion (IsWrittenCopy mesh) radio'.flying → radio'.size ≡ radio.size → radio'.next_copy ≡ radio.next_copy → ready' ≡ ready_with ready x new (length mesh) → Beside mesh (slice_set nodes x new) radio' ready' (steps + 1)
beside_joined mesh nodes radio radio' ready ready' steps x n new i k l at written j flying size next noted_is =
    let had = kept_node mesh nodes radio ready steps x n k at in
    noted_beside mesh (slice_set nodes x new) radio' ready' (ready_with ready x new (length mesh)) (steps + 1) noted_is
    (record {
      each = each_set (IsKeptNode mesh) nodes x new k.each
          (record { items = subst (AllByRecursion (IsWrittenItem mesh)) (sym j.items) (each_append (IsWrittenItem mesh) n.items (i ∷ []) had.items (written, tt)); size = j.size ∙ had.size; sound = j.sound });
      flying = flying;
      size = size ∙ k.size;
      numbers = (let numbers = k.numbers in omega arith);
      sets = noted_ready mesh nodes ready x new k.sets (let c = count_of mesh nodes radio ready steps k in omega arith);
    })

-- ---- a datum is given

pub give_at : (w : World) (x d : ℕ) (b : Body) (n : worlds.Node) → slice_get w.nodes x ≡ Some n → step w (Give x d b) ≡ Next (push w x (New b d)) Changed
unfolding step
give_at w x d b n e = ap (λ o. at_node o (λ core queue. Next (push w x (New b d)) Changed)) e

pub give_done : (mesh : Nodes) (nodes : List NodeSeen) (radio : RadioState) (ready ready' : Ready) (steps x dest : ℕ) (body copy : Body) (n new : NodeSeen) (packet : List ℕ)
    → IsKept mesh nodes radio ready steps → steps < 2 ^ 48 → x < length mesh → dest < length mesh → IsDatum body → copy ≡ body → slice_get nodes x ≡ Some n → Joined n new (item.New dest copy) → ready' ≡ ready_with ready x new (length mesh)
    → Ends (Give x dest body) mesh nodes radio steps (Ok done.Changed) (slice_set nodes x new) radio ready' (steps + 1) packet
give_done mesh nodes radio ready ready' steps x dest body copy n new packet k few l below datum copied at j' noted_is =
    let w = world_in mesh nodes radio in
    let j : Joined n new (item.New dest body) = subst (λ (b : Body). Joined n new (item.New dest b)) copied j' in
    let world : push w x (New body dest) ≡ world_in mesh (slice_set nodes x new) radio = pushed mesh nodes radio x n new (item.New dest body) at j in
    ends_done (Give x dest body) mesh nodes radio ready steps done.Changed (slice_set nodes x new) radio ready' packet (Next (push w x (New body dest)) Changed)
    k few (l, below, datum) (give_at w x dest body (node_in mesh n) (shown_at mesh nodes radio x n at)) (omega arith) world (λ i. Next (world i) Changed) tt
    (beside_joined mesh nodes radio radio ready ready' steps x n new (item.New dest body) k l at tt j k.flying refl refl noted_is)

-- ---- copies

found_if : (mesh : Nodes) (b : Bool) (f : Flying) (o : Option Copy) (p : Option Flying) → o ≡ option_map (copy_in mesh) p → (if b then Some (copy_in mesh f) else o) ≡ option_map (copy_in mesh) (if b then Some f else p)
found_if mesh true f o p e = refl
found_if mesh false f o p e = e

pub find_shown : (mesh : Nodes) (cs : List Flying) (id : ℕ) → worlds.find_copy (map (copy_in mesh) cs) id ≡ option_map (copy_in mesh) (radios.find_copy cs id)
find_shown mesh [] id = refl
find_shown mesh (f ∷ cs) id = found_if mesh (f.id == id) f (worlds.find_copy (map (copy_in mesh) cs) id) (radios.find_copy cs id) (find_shown mesh cs id)

kept_if : (mesh : Nodes) (b : Bool) (f : Flying) (cs : List Copy) (fs : List Flying) → cs ≡ map (copy_in mesh) fs → (if b then copy_in mesh f ∷ cs else cs) ≡ map (copy_in mesh) (if b then f ∷ fs else fs)
kept_if mesh true f cs fs e = ap (λ zs. copy_in mesh f ∷ zs) e
kept_if mesh false f cs fs e = e

without_shown : (mesh : Nodes) (fs : List Flying) (id : ℕ) → worlds.without (map (copy_in mesh) fs) id ≡ map (copy_in mesh) (radios.without fs id)
unfolding worlds.without radios.without
without_shown mesh [] id = refl
without_shown mesh (f ∷ fs) id = kept_if mesh (not (f.id == id)) f (filter (λ c. not (c.id == id)) (map (copy_in mesh) fs)) (filter (λ c. not (c.id == id)) fs) (without_shown mesh fs id)

all_if : (P : Flying → Type 0) (b : Bool) (f : Flying) (fs : List Flying) → P f → AllByRecursion P fs → AllByRecursion P (if b then f ∷ fs else fs)
all_if P true f fs p all = (p, all)
all_if P false f fs p all = all

without_all : (P : Flying → Type 0) (fs : List Flying) (id : ℕ) → AllByRecursion P fs → AllByRecursion P (radios.without fs id)
unfolding radios.without
without_all P [] id all = all
without_all P (f ∷ fs) id all = all_if P (not (f.id == id)) f (filter (λ c. not (c.id == id)) fs) all.0 (without_all P fs id all.1)

found_if_all : (P : Flying → Type 0) (b : Bool) (f g : Flying) (o : Option Flying) → P f → (o ≡ Some g → P g) → (if b then Some f else o) ≡ Some g → P g
found_if_all P true f g o p h e = subst P (same_Some f g e) p
found_if_all P false f g o p h e = h e

found_all : (P : Flying → Type 0) (fs : List Flying) (id : ℕ) (g : Flying) → AllByRecursion P fs → radios.find_copy fs id ≡ Some g → P g
found_all P [] id g all e = absurd (none-some g e)
found_all P (f ∷ fs) id g all e = found_if_all P (f.id == id) f g (radios.find_copy fs id) all.0 (found_all P fs id g all.1) e

-- the copy that is looked at is the one in flight
abbrev pub IsFound : Option Held → RadioState → ℕ → Type 0
IsFound o radio id = option_map held_seen o ≡ radios.find_copy radio.flying id

pub found_seen : (radio : RadioState) (id : ℕ) (o : Option Held) (seen : Held) → IsFound o radio id → o ≡ Some seen → radios.find_copy radio.flying id ≡ Some (held_seen seen)
found_seen radio id o seen is some = sym is ∙ ap (option_map held_seen) some

pub none_seen : (radio : RadioState) (id : ℕ) (o : Option Held) → IsFound o radio id → o ≡ None → radios.find_copy radio.flying id ≡ None
none_seen radio id o is none = sym is ∙ ap (option_map held_seen) none

-- what the world keeps of a copy in flight
pub record InFlight (mesh : Nodes) (f : Flying) : Type 0 where
  pub from : f.from < length mesh
  pub to : f.to < length mesh
  pub differ : f.from ≢ f.to
  pub written : IsWritten mesh f.bytes
  pub in_mesh : IsMessageInMesh (length mesh) (meaning mesh f.bytes)

pub shown_found : (mesh : Nodes) (nodes : List NodeSeen) (radio : RadioState) (id : ℕ) (f : Flying) → radios.find_copy radio.flying id ≡ Some f → worlds.find_copy (world_in mesh nodes radio).flying id ≡ Some (copy_in mesh f)
unfolding world_in
shown_found mesh nodes radio id f e = find_shown mesh radio.flying id ∙ ap (option_map (copy_in mesh)) e

pub shown_none : (mesh : Nodes) (nodes : List NodeSeen) (radio : RadioState) (id : ℕ) → radios.find_copy radio.flying id ≡ None → worlds.find_copy (world_in mesh nodes radio).flying id ≡ None
unfolding world_in
shown_none mesh nodes radio id e = find_shown mesh radio.flying id ∙ ap (option_map (copy_in mesh)) e

pub in_flight : (mesh : Nodes) (nodes : List NodeSeen) (radio : RadioState) (ready : Ready) (steps id : ℕ) (f : Flying) → IsKept mesh nodes radio ready steps → radios.find_copy radio.flying id ≡ Some f → InFlight mesh f
in_flight mesh nodes radio ready steps id f k e =
    let w = world_in mesh nodes radio in
    let all : AllByRecursion (IsCopyInMesh (length mesh)) w.flying = subst (λ (n : ℕ). AllByRecursion (IsCopyInMesh n) w.flying) (k.sound).count ((k.sound).invariant).in_mesh.flying in
    let c : IsCopyInMesh (length mesh) (copy_in mesh f) = found_honest (IsCopyInMesh (length mesh)) w.flying id (copy_in mesh f) all (shown_found mesh nodes radio id f e) in
    record { from = c.0; to = c.1; differ = c.2; written = found_all (IsWrittenCopy mesh) radio.flying id f k.flying e; in_mesh = c.3 }

-- the copy that is seen goes to that receiver
pub record Seen (mesh : Nodes) (radio : RadioState) (id to : ℕ) (f : Flying) : Type 0 where
  pub found : radios.find_copy radio.flying id ≡ Some f
  pub receiver : f.to ≡ to
  pub flies : InFlight mesh f

pub seen_flying : (mesh : Nodes) (nodes : List NodeSeen) (radio : RadioState) (ready : Ready) (steps id : ℕ) (o : Option Held) (seen : Held) → IsKept mesh nodes radio ready steps → IsFound o radio id → o ≡ Some seen → Seen mesh radio id seen.to (held_seen seen)
seen_flying mesh nodes radio ready steps id o seen k is some =
    let here : radios.find_copy radio.flying id ≡ Some (held_seen seen) = found_seen radio id o seen is some in
    record { found = here; receiver = refl; flies = in_flight mesh nodes radio ready steps id (held_seen seen) k here }

-- its receiver is a node
pub receiver_in : (mesh : Nodes) (nodes : List NodeSeen) (radio : RadioState) (ready : Ready) (steps id : ℕ) (o : Option Held) (seen : Held) → IsKept mesh nodes radio ready steps → IsFound o radio id → o ≡ Some seen → seen.to < length mesh
receiver_in mesh nodes radio ready steps id o seen k is some = (seen_flying mesh nodes radio ready steps id o seen k is some).flies.to

shown_without : (mesh : Nodes) (nodes : List NodeSeen) (old new : RadioState) (id : ℕ) → new ≡ without_copy old id → worlds.without_copy (world_in mesh nodes old) id ≡ world_in mesh nodes new
unfolding world_in
shown_without mesh nodes old new id is =
    (λ i. record { nodes = map (node_in mesh) nodes; links = old.links; ever = old.ever; flying = without_shown mesh old.flying id i; next_copy = old.next_copy }) ∙ ap (world_in mesh nodes) (sym is)

pub deliver_at : (w : World) (id : ℕ) (o : Option Copy) → worlds.find_copy w.flying id ≡ o → step w (Deliver id) ≡ at_copy o (λ c. Next (push (worlds.without_copy w id) c.to (Heard c.from c.message)) (CopyHeard c.from c.to))
unfolding step
deliver_at w id o e = ap (λ o. at_copy o (λ c. Next (push (worlds.without_copy w id) c.to (Heard c.from c.message)) (CopyHeard c.from c.to))) e

pub lose_at : (w : World) (id : ℕ) (o : Option Copy) → worlds.find_copy w.flying id ≡ o → step w (Lose id) ≡ at_copy o (λ c. Next (worlds.without_copy w id) (CopyLost c))
unfolding step
lose_at w id o e = ap (λ o. at_copy o (λ c. Next (worlds.without_copy w id) (CopyLost c))) e

without_flying : (mesh : Nodes) (old new : RadioState) (id : ℕ) → new ≡ without_copy old id → AllByRecursion (IsWrittenCopy mesh) old.flying → AllByRecursion (IsWrittenCopy mesh) new.flying
without_flying mesh old new id is all = subst (λ (r : RadioState). AllByRecursion (IsWrittenCopy mesh) r.flying) (sym is) (without_all (IsWrittenCopy mesh) old.flying id all)

deliver_here : (mesh : Nodes) (nodes : List NodeSeen) (radio radio' : RadioState) (ready ready' : Ready) (steps id : ℕ) (f : Flying) (n new : NodeSeen) (packet : List ℕ)
    → IsKept mesh nodes radio ready steps → steps < 2 ^ 48 → radios.find_copy radio.flying id ≡ Some f → InFlight mesh f → radio' ≡ without_copy radio id → slice_get nodes f.to ≡ Some n → Joined n new (item.Heard f.from f.bytes) → ready' ≡ ready_with ready f.to new (length mesh)
    → Ends (Deliver id) mesh nodes radio steps (Ok (done.Heard f.from f.to)) (slice_set nodes f.to new) radio' ready' (steps + 1) packet
deliver_here mesh nodes radio radio' ready ready' steps id f n new packet k few found flies gone at j noted_is =
    let w = world_in mesh nodes radio in
    let i = item.Heard f.from f.bytes in
    let pushing = push (worlds.without_copy w id) f.to (Heard f.from (meaning mesh f.bytes)) in
    let world : pushing ≡ world_in mesh (slice_set nodes f.to new) radio' =
    ap (λ (v : World). push v f.to (Heard f.from (meaning mesh f.bytes))) (shown_without mesh nodes radio radio' id gone) ∙ pushed mesh nodes radio' f.to n new i at j in
    ends_done (Deliver id) mesh nodes radio ready steps (done.Heard f.from f.to) (slice_set nodes f.to new) radio' ready' packet (Next pushing (CopyHeard f.from f.to))
    k few tt (deliver_at w id (Some (copy_in mesh f)) (shown_found mesh nodes radio id f found)) (omega arith) world (λ m. Next (world m) (CopyHeard f.from f.to)) (flies.from, flies.to)
    (beside_joined mesh nodes radio radio' ready ready' steps f.to n new i k flies.to at flies.written j (without_flying mesh radio radio' id gone k.flying) (ap (λ (r : RadioState). r.size) gone) (ap (λ (r : RadioState). r.next_copy) gone) noted_is)

pub deliver_done : (mesh : Nodes) (nodes : List NodeSeen) (radio radio' : RadioState) (ready ready' : Ready) (steps id to : ℕ) (f : Flying) (n roomy new : NodeSeen) (packet : List ℕ)
    → IsKept mesh nodes radio ready steps → steps < 2 ^ 48 → Seen mesh radio id to f → radio' ≡ without_copy radio id → slice_get nodes to ≡ Some n → Joined n new (item.Heard f.from f.bytes) → ready' ≡ ready_with ready to new (length mesh)
    → Ends (Deliver id) mesh nodes radio steps (Ok (done.Heard f.from to)) (slice_set (slice_set nodes to roomy) to new) radio' ready' (steps + 1) packet
deliver_done mesh nodes radio radio' ready ready' steps id to f n roomy new packet k few t gone at j noted_is =
    subst (λ (ns : List NodeSeen). Ends (Deliver id) mesh nodes radio steps (Ok (done.Heard f.from to)) ns radio' ready' (steps + 1) packet) (sym (set_again nodes to roomy new))
    (subst (λ (y : ℕ). slice_get nodes y ≡ Some n → ready' ≡ ready_with ready y new (length mesh) → Ends (Deliver id) mesh nodes radio steps (Ok (done.Heard f.from y)) (slice_set nodes y new) radio' ready' (steps + 1) packet) t.receiver
    (λ here are. deliver_here mesh nodes radio radio' ready ready' steps id f n new packet k few t.found t.flies gone here j are) at noted_is)

pub deliver_idle : (mesh : Nodes) (nodes : List NodeSeen) (radio : RadioState) (ready : Ready) (steps id : ℕ) (o : Option Held) (packet : List ℕ) → IsKept mesh nodes radio ready steps → steps < 2 ^ 48 → IsFound o radio id → o ≡ None
    → Ends (Deliver id) mesh nodes radio steps (Ok done.Idle) nodes radio ready (steps + 1) packet
deliver_idle mesh nodes radio ready steps id o packet k few is none =
    let e = none_seen radio id o is none in
    ends_idle (Deliver id) mesh nodes radio ready steps nodes radio packet k few (deliver_at (world_in mesh nodes radio) id None (shown_none mesh nodes radio id e)) refl (later mesh nodes radio ready steps (beside mesh nodes radio ready steps k))

-- the copy that is seen, with bytes of its own
owned : (radio : RadioState) (id : ℕ) (o : Option Held) (seen : Held) (f : Flying) → IsFound o radio id → o ≡ Some seen → f ≡ record (held_seen seen) { bytes = f.bytes } → f.bytes ≡ seen.bytes.now → radios.find_copy radio.flying id ≡ Some f
owned radio id o seen f is some same copy = found_seen radio id o seen is some ∙ ap Some (sym (same ∙ (λ i. record (held_seen seen) { bytes = copy i })))

pub lose_done : (mesh : Nodes) (nodes : List NodeSeen) (radio radio' : RadioState) (ready : Ready) (steps id : ℕ) (o : Option Held) (seen : Held) (f : Flying) (packet : List ℕ) → IsKept mesh nodes radio ready steps → steps < 2 ^ 48 → IsFound o radio id → o ≡ Some seen
    → f ≡ record (held_seen seen) { bytes = f.bytes } → f.bytes ≡ seen.bytes.now → radio' ≡ without_copy radio id → Ends (Lose id) mesh nodes radio steps (Ok (done.Lost f)) nodes radio' ready (steps + 1) packet
lose_done mesh nodes radio radio' ready steps id o seen f packet k few is some same copy gone =
    let w = world_in mesh nodes radio in
    let found = owned radio id o seen f is some same copy in
    let flies = in_flight mesh nodes radio ready steps id f k found in
    let world : worlds.without_copy w id ≡ world_in mesh nodes radio' = shown_without mesh nodes radio radio' id gone in
    ends_done (Lose id) mesh nodes radio ready steps (done.Lost f) nodes radio' ready packet (Next (worlds.without_copy w id) (CopyLost (copy_in mesh f)))
    k few tt (lose_at w id (Some (copy_in mesh f)) (shown_found mesh nodes radio id f found)) (omega arith) world (λ i. Next (world i) (CopyLost (copy_in mesh f)))
    (flies.from, flies.to, record { written = flies.written; in_mesh = flies.in_mesh })
    (record {
      each = k.each;
      flying = without_flying mesh radio radio' id gone k.flying;
      size = ap (λ (r : RadioState). r.size) gone ∙ k.size;
      numbers = (let numbers = k.numbers in let next = ap (λ (r : RadioState). r.next_copy) gone in omega arith);
      sets = k.sets;
    })

pub lose_idle : (mesh : Nodes) (nodes : List NodeSeen) (radio : RadioState) (ready : Ready) (steps id : ℕ) (o : Option Held) (packet : List ℕ) → IsKept mesh nodes radio ready steps → steps < 2 ^ 48 → IsFound o radio id → o ≡ None
    → Ends (Lose id) mesh nodes radio steps (Ok done.Idle) nodes radio ready (steps + 1) packet
lose_idle mesh nodes radio ready steps id o packet k few is none =
    let e = none_seen radio id o is none in
    ends_idle (Lose id) mesh nodes radio ready steps nodes radio packet k few (lose_at (world_in mesh nodes radio) id None (shown_none mesh nodes radio id e)) refl (later mesh nodes radio ready steps (beside mesh nodes radio ready steps k))

-- no memory for the bytes of a copy: its receiver has more room than before, which isn't seen
pub deliver_short : (mesh : Nodes) (nodes : List NodeSeen) (radio : RadioState) (ready : Ready) (steps id x : ℕ) (n roomy : NodeSeen) (packet : List ℕ) → IsKept mesh nodes radio ready steps
    → slice_get nodes x ≡ Some n → n ≡ slice_index_or nodes x n → roomy ≡ record n { room = roomy.room } → Ends (Deliver id) mesh nodes radio steps (Err errors.NoMemory) (slice_set nodes x roomy) radio ready steps packet
unfolding world_in
deliver_short mesh nodes radio ready steps id x n roomy packet k at read is =
    let had = kept_node mesh nodes radio ready steps x n k at in
    let kept : IsKeptNode mesh roomy = subst (IsKeptNode mesh) (sym is) (record { items = had.items; size = had.size; sound = record { mine = (had.sound).mine; sound = (had.sound).sound; store = (had.sound).store; each = (had.sound).each } }) in
    let shown : map (node_in mesh) (slice_set nodes x roomy) ≡ map (node_in mesh) nodes =
    map-set (node_in mesh) nodes x roomy ∙ ap (slice_set (map (node_in mesh) nodes) x) (ap (node_in mesh) is) ∙ sym (map-set (node_in mesh) nodes x n) ∙ ap (map (node_in mesh)) (ap (slice_set nodes x) read ∙ set-get_or nodes x n) in
    let sets : IsReadyFor mesh (slice_set nodes x roomy) ready = record {
      turns = λ y. (k.sets).turns y ∙ sym (ap (λ ns. may_turn_in (slice_get ns y)) shown);
      sends = λ y. (k.sets).sends y ∙ sym (ap (λ ns. is_some (first_send_in (length mesh) (slice_get ns y))) shown);
      asks = λ y. (k.sets).asks y ∙ sym (ap (λ ns. is_some (first_ask_in (length mesh) (slice_get ns y))) shown);
    } in
    ends_no_memory (Deliver id) mesh nodes radio ready steps (slice_set nodes x roomy) radio packet k
    (λ i. record { nodes = shown i; links = radio.links; ever = radio.ever; flying = map (copy_in mesh) radio.flying; next_copy = radio.next_copy })
    (record { each = each_set (IsKeptNode mesh) nodes x roomy k.each kept; flying = k.flying; size = k.size; numbers = k.numbers; sets = sets })

-- the receiver may hear the copy
pub may_hear : (mesh : Nodes) (nodes : List NodeSeen) (radio : RadioState) (ready : Ready) (steps id to : ℕ) (f : Flying) (n roomy heard : NodeSeen) → IsKept mesh nodes radio ready steps → slice_get nodes to ≡ Some n → Seen mesh radio id to f
    → roomy.core ≡ n.core → roomy.size ≡ n.size → heard ≡ roomy → (f.from < heard.size) × (f.from ≢ (heard.core).ip)
may_hear mesh nodes radio ready steps id to f n roomy heard k at t core size is =
    let s = stands mesh nodes radio ready steps to n k at in
    let from : f.from < length mesh = (t.flies).from in
    let sized : heard.size ≡ length mesh = ap (λ (m : NodeSeen). m.size) is ∙ size ∙ (kept_node mesh nodes radio ready steps to n k at).size in
    let me : (heard.core).ip ≡ f.to = ap (λ (m : NodeSeen). (m.core).ip) is ∙ ap (λ c. c.ip) core ∙ s.named ∙ sym t.receiver in
    (omega arith, λ same. (t.flies).differ (same ∙ me))
