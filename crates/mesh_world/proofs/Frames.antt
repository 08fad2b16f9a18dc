-- What every event keeps.
use Rattle.std.proofs.Common.{◌≡◌, ℕ, ◌<◌, ◌≤◌, ◌+◌, ◌*◌, ◌^◌, List, [], ◌∷◌, map, length, Some, Result, Ok, Err, refl, ap, sym, ◌∙◌, subst, zero, suc, arith}
use Rattle.std.specs.Prelude.{slice_get, slice_set, slice_index_or, option_map}
use Rattle.std.specs.List.{AllByRecursion}
use Rattle.std.proofs.lemmas.Option.{slice_get-map, slice_get_read, same_Some}
use Rattle.std.proofs.lemmas.List.{length-map, length-set}
use Rattle.mesh_base.specs.Meshes.{Nodes}
use Rattle.mesh_base.specs.declared.events.Full.{Full as Counter}
use Rattle.mesh_base.specs.declared.events.Done.{Done}
use Rattle.mesh_base.specs.declared.events.Done.TheVariants as done
use Rattle.mesh_base.proofs.Lemmas.Lists.{each_at, set_again}
use Rattle.aodv_node.specs.Seen.{NodeSeen}
use Rattle.mesh_model.specs.Worlds as worlds
use Rattle.mesh_model.specs.Worlds.{World, Event, Outcome, Idle, step, after}
use Rattle.mesh_model.specs.InMesh.{IsEvent}
use Rattle.mesh_model.specs.Invariants.{IsInvariant}
use Rattle.mesh_model.specs.Accounts.{waiting, queued_data, in_flight, given_data, doubled_data, delivered_data, dropped_data}
use Rattle.mesh_model.proofs.Sizes.{same_size}
use Rattle.mesh_model.proofs.MeshSteps.{step_keeps}
use Rattle.mesh_model.proofs.AccountSteps.{step_balanced}
use Rattle.mesh_model.proofs.Acyclic.{no_cycle, better_along}
use Rattle.mesh_radio.specs.Radios.{RadioState}
use Rattle.mesh_meaning.specs.Events.{node_of}
use Rattle.mesh_meaning.specs.Packets.{IsWrittenCopy}
use Rattle.mesh_meaning.specs.Answers.{outcome_in, IsDoneInMesh}
use Rattle.mesh_world.specs.Seen.{WorldSeen, IsSoundWorld, node_in}
use Rattle.mesh_model.specs.Accounts.{any}
use Rattle.mesh_world.specs.Steps.{IsStep}
use Rattle.mesh_world.specs.Kept.{Ready, IsKept, IsKeptNode, IsReadyFor, world_in, seen_of}
use Rattle.mesh_world.specs.declared.steps.StepError.{StepError}
use Rattle.mesh_world.specs.declared.steps.StepError.TheVariants as errors

-- ---- the invariant follows from the one equation of a step

pub sound_after : (w : WorldSeen) (e : Event) (o : Outcome) → IsSoundWorld w → w.steps < 2 ^ 48 → IsEvent (length w.mesh) e → step w.world e ≡ o → given_data any e o + doubled_data any w.world e ≤ 1
    → IsSoundWorld (record w { world = after w.world o; steps = w.steps + 1 })
sound_after w e o s most ok is one =
    let here : IsEvent (length (w.world).nodes) e = subst (λ (n : ℕ). IsEvent n e) (sym s.count) ok in
    let world : after w.world (step w.world e) ≡ after w.world o = ap (after w.world) is in
    let kept : IsInvariant (after w.world o) = subst IsInvariant world (step_keeps w.world e here s.invariant) in
    let size : length (after w.world o).nodes ≡ length (w.world).nodes = sym (ap (λ (v : World). length v.nodes) world) ∙ same_size w.world e in
    let sum : waiting any (after w.world o) + queued_data any (after w.world o) + in_flight any (after w.world o) + delivered_data any e o + dropped_data any e o
    ≡ waiting any w.world + queued_data any w.world + in_flight any w.world + given_data any e o + doubled_data any w.world e =
    subst (λ (p : Outcome). waiting any (after w.world p) + queued_data any (after w.world p) + in_flight any (after w.world p) + delivered_data any e p + dropped_data any e p
    ≡ waiting any w.world + queued_data any w.world + in_flight any w.world + given_data any e p + doubled_data any w.world e) is (step_balanced any w.world e here (s.invariant).in_mesh) in
    let few = s.few in
    record {
      mesh = s.mesh;
      some = s.some;
      count = size ∙ s.count;
      invariant = kept;
      acyclic = λ d. no_cycle (after w.world o) d kept.loop_safe;
      better = λ d x y edge e apart there valid. better_along (after w.world o) d x y edge e kept.loop_safe apart there valid;
      few = omega arith;
      steps = omega arith;
    }

-- ---- an event that is done, or refused, between two states of the parts

pub record Ends (e : Event) (mesh : Nodes) (nodes : List NodeSeen) (radio : RadioState) (steps : ℕ) (answer : Result Done StepError)
    (nodes' : List NodeSeen) (radio' : RadioState) (ready' : Ready) (steps' : ℕ) (packet : List ℕ) : Type 0 where
  pub step : IsStep e (seen_of mesh nodes radio steps) answer (seen_of mesh nodes' radio' steps') packet
  pub kept : IsKept mesh nodes' radio' ready' steps'

-- what the parts keep beside what is seen of them
pub record Beside (mesh : Nodes) (nodes : List NodeSeen) (radio : RadioState) (ready : Ready) (steps : ℕ) : Type 0 where
  pub each : AllByRecursion (IsKeptNode mesh) nodes
  pub flying : AllByRecursion (IsWrittenCopy mesh) radio.flying
  pub size : radio.size ≡ length mesh
  pub numbers : radio.next_copy ≤ 2 ^ 60 + 200 * steps
  pub sets : IsReadyFor mesh nodes ready

pub beside : (mesh : Nodes) (nodes : List NodeSeen) (radio : RadioState) (ready : Ready) (steps : ℕ) → IsKept mesh nodes radio ready steps → Beside mesh nodes radio ready steps
beside mesh nodes radio ready steps k = record { each = k.each; flying = k.flying; size = k.size; numbers = k.numbers; sets = k.sets }

pub noted_beside : (mesh : Nodes) (nodes : List NodeSeen) (radio : RadioState) (ready noted : Ready) (steps : ℕ) → ready ≡ noted → Beside mesh nodes radio noted steps → Beside mesh nodes radio ready steps
noted_beside mesh nodes radio ready noted steps is b = subst (λ (r : Ready). Beside mesh nodes radio r steps) (sym is) b

-- an event later
pub later : (mesh : Nodes) (nodes : List NodeSeen) (radio : RadioState) (ready : Ready) (steps : ℕ) → Beside mesh nodes radio ready steps → Beside mesh nodes radio ready (steps + 1)
later mesh nodes radio ready steps b = record { each = b.each; flying = b.flying; size = b.size; numbers = (let n = b.numbers in omega arith); sets = b.sets }

-- the nodes, with one of them put back
pub with_same : (mesh : Nodes) (nodes nodes' : List NodeSeen) (radio : RadioState) (ready : Ready) (steps : ℕ) → nodes' ≡ nodes → Beside mesh nodes radio ready steps → Beside mesh nodes' radio ready steps
with_same mesh nodes nodes' radio ready steps same b = subst (λ (ns : List NodeSeen). Beside mesh ns radio ready steps) (sym same) b

keeps : (mesh : Nodes) (nodes : List NodeSeen) (radio : RadioState) (ready : Ready) (steps : ℕ) → IsSoundWorld (seen_of mesh nodes radio steps) → Beside mesh nodes radio ready steps → IsKept mesh nodes radio ready steps
keeps mesh nodes radio ready steps s b = record { sound = s; each = b.each; flying = b.flying; size = b.size; numbers = b.numbers; sets = b.sets }

pub ends_done : (e : Event) (mesh : Nodes) (nodes : List NodeSeen) (radio : RadioState) (ready : Ready) (steps : ℕ) (d : Done) (nodes' : List NodeSeen) (radio' : RadioState) (ready' : Ready) (packet : List ℕ) (o : Outcome)
    → IsKept mesh nodes radio ready steps → steps < 2 ^ 48 → IsEvent (length mesh) e → step (world_in mesh nodes radio) e ≡ o → given_data any e o + doubled_data any (world_in mesh nodes radio) e ≤ 1
    → after (world_in mesh nodes radio) o ≡ world_in mesh nodes' radio' → o ≡ outcome_in mesh (node_of e) (world_in mesh nodes' radio') d packet → IsDoneInMesh mesh d packet
    → Beside mesh nodes' radio' ready' (steps + 1) → Ends e mesh nodes radio steps (Ok d) nodes' radio' ready' (steps + 1) packet
ends_done e mesh nodes radio ready steps d nodes' radio' ready' packet o kept most ok is one world outcome in_mesh b =
    let now : after (world_in mesh nodes radio) (step (world_in mesh nodes radio) e) ≡ world_in mesh nodes' radio' = ap (after (world_in mesh nodes radio)) is ∙ world in
    let sound : IsSoundWorld (seen_of mesh nodes' radio' (steps + 1)) =
    subst (λ (v : World). IsSoundWorld (record { mesh = mesh; world = v; steps = steps + 1 })) world (sound_after (seen_of mesh nodes radio steps) e o kept.sound most ok is one) in
    record {
      step = record { outcome = is ∙ outcome; world = λ i. record { mesh = mesh; world = sym now i; steps = steps + 1 }; in_mesh = in_mesh };
      kept = keeps mesh nodes' radio' ready' (steps + 1) sound b;
    }

-- the same world, perhaps after a step in which nothing was enabled
still : (mesh : Nodes) (nodes : List NodeSeen) (radio : RadioState) (ready : Ready) (steps steps' : ℕ) (nodes' : List NodeSeen) (radio' : RadioState)
    → IsKept mesh nodes radio ready steps → steps ≤ steps' → steps' ≤ 2 ^ 48 → world_in mesh nodes' radio' ≡ world_in mesh nodes radio → Beside mesh nodes' radio' ready steps' → IsKept mesh nodes' radio' ready steps'
still mesh nodes radio ready steps steps' nodes' radio' kept le most same b =
    let s = kept.sound in
    let few = s.few in
    let sound : IsSoundWorld (record { mesh = mesh; world = world_in mesh nodes radio; steps = steps' }) = record { mesh = s.mesh; some = s.some; count = s.count; invariant = s.invariant; acyclic = s.acyclic; better = s.better; few = omega arith; steps = most } in
    keeps mesh nodes' radio' ready steps' (subst (λ (v : World). IsSoundWorld (record { mesh = mesh; world = v; steps = steps' })) (sym same) sound) b

pub ends_idle : (e : Event) (mesh : Nodes) (nodes : List NodeSeen) (radio : RadioState) (ready : Ready) (steps : ℕ) (nodes' : List NodeSeen) (radio' : RadioState) (packet : List ℕ)
    → IsKept mesh nodes radio ready steps → steps < 2 ^ 48 → step (world_in mesh nodes radio) e ≡ Idle → world_in mesh nodes' radio' ≡ world_in mesh nodes radio → Beside mesh nodes' radio' ready (steps + 1)
    → Ends e mesh nodes radio steps (Ok done.Idle) nodes' radio' ready (steps + 1) packet
ends_idle e mesh nodes radio ready steps nodes' radio' packet kept most is same b = record {
  step = record {
    outcome = is;
    world = λ i. record { mesh = mesh; world = (same ∙ sym (ap (after (world_in mesh nodes radio)) is)) i; steps = steps + 1 };
    in_mesh = tt;
  };
  kept = still mesh nodes radio ready steps (steps + 1) nodes' radio' kept (omega arith) (let s = (kept.sound).steps in omega arith) same b;
}

pub ends_full : (e : Event) (mesh : Nodes) (nodes : List NodeSeen) (radio : RadioState) (ready : Ready) (steps x : ℕ) (field : Counter) (nodes' : List NodeSeen) (radio' : RadioState) (packet : List ℕ)
    → IsKept mesh nodes radio ready steps → step (world_in mesh nodes radio) e ≡ worlds.Full x field → world_in mesh nodes' radio' ≡ world_in mesh nodes radio → Beside mesh nodes' radio' ready steps
    → Ends e mesh nodes radio steps (Err (errors.Full x field)) nodes' radio' ready steps packet
ends_full e mesh nodes radio ready steps x field nodes' radio' packet kept is same b = record {
  step = (is, λ i. record { mesh = mesh; world = same i; steps = steps });
  kept = still mesh nodes radio ready steps steps nodes' radio' kept (omega arith) (let s = (kept.sound).steps in omega arith) same b;
}

pub ends_no_memory : (e : Event) (mesh : Nodes) (nodes : List NodeSeen) (radio : RadioState) (ready : Ready) (steps : ℕ) (nodes' : List NodeSeen) (radio' : RadioState) (packet : List ℕ)
    → IsKept mesh nodes radio ready steps → world_in mesh nodes' radio' ≡ world_in mesh nodes radio → Beside mesh nodes' radio' ready steps
    → Ends e mesh nodes radio steps (Err errors.NoMemory) nodes' radio' ready steps packet
ends_no_memory e mesh nodes radio ready steps nodes' radio' packet kept same b = record {
  step = λ i. record { mesh = mesh; world = same i; steps = steps };
  kept = still mesh nodes radio ready steps steps nodes' radio' kept (omega arith) (let s = (kept.sound).steps in omega arith) same b;
}

-- ---- rooms of the radio are not seen

pub roomed_shown : (mesh : Nodes) (nodes : List NodeSeen) (old new : RadioState) → new ≡ record old { room = new.room; most = new.most } → world_in mesh nodes new ≡ world_in mesh nodes old
unfolding world_in
roomed_shown mesh nodes old new same = ap (world_in mesh nodes) same

pub roomed : (mesh : Nodes) (nodes : List NodeSeen) (old new : RadioState) (ready : Ready) (steps : ℕ) → new ≡ record old { room = new.room; most = new.most }
    → IsKept mesh nodes old ready steps → IsKept mesh nodes new ready steps
unfolding world_in
roomed mesh nodes old new ready steps same k =
    subst (λ (r : RadioState). IsKept mesh nodes r ready steps) (sym same)
    (record { sound = k.sound; each = k.each; flying = k.flying; size = k.size; numbers = k.numbers; sets = k.sets })

-- what began with rooms began with the world as it was
pub began : (e : Event) (mesh : Nodes) (nodes : List NodeSeen) (old radio : RadioState) (steps : ℕ) (answer : Result Done StepError) (nodes' : List NodeSeen) (radio' : RadioState) (ready' : Ready) (steps' : ℕ) (packet : List ℕ)
    → radio ≡ record old { room = radio.room; most = radio.most } → Ends e mesh nodes radio steps answer nodes' radio' ready' steps' packet → Ends e mesh nodes old steps answer nodes' radio' ready' steps' packet
began e mesh nodes old radio steps answer nodes' radio' ready' steps' packet same d = record {
  step = subst (λ (w : World). IsStep e (record { mesh = mesh; world = w; steps = steps }) answer (seen_of mesh nodes' radio' steps') packet) (roomed_shown mesh nodes old radio same) d.step;
  kept = d.kept;
}

-- ---- a node of many

pub map-set : {A B : Type 0} (f : A → B) (xs : List A) (i : ℕ) (v : A) → map f (slice_set xs i v) ≡ slice_set (map f xs) i (f v)
map-set f [] i v = refl
map-set f (x ∷ xs) zero v = refl
map-set f (x ∷ xs) (suc i) v = ap (λ ys. f x ∷ ys) (map-set f xs i v)

pub each_set : {A : Type 0} (P : A → Type 0) (xs : List A) (i : ℕ) (v : A) → AllByRecursion P xs → P v → AllByRecursion P (slice_set xs i v)
each_set P [] i v all h = all
each_set P (x ∷ xs) zero v all h = (h, all.1)
each_set P (x ∷ xs) (suc i) v all h = (all.0, each_set P xs i v all.1 h)

pub set_there : {A : Type 0} (xs : List A) (i : ℕ) (v : A) → slice_get xs i ≡ Some v → slice_set xs i v ≡ xs
set_there [] i v is = refl
set_there (x ∷ xs) zero v is = ap (λ y. y ∷ xs) (sym (same_Some x v is))
set_there (x ∷ xs) (suc i) v is = ap (λ ys. x ∷ ys) (set_there xs i v is)

pub set_back : {A : Type 0} (xs : List A) (i : ℕ) (old new : A) → slice_get xs i ≡ Some old → new ≡ old → slice_set xs i new ≡ xs
set_back xs i old new at same = ap (slice_set xs i) same ∙ set_there xs i old at

pub set_got : {A : Type 0} (xs : List A) (i : ℕ) (v : A) → i < length xs → slice_get (slice_set xs i v) i ≡ Some v
set_got [] i v l = absurd (let m = l in omega arith)
set_got (x ∷ xs) zero v l = refl
set_got (x ∷ xs) (suc i) v l = set_got xs i v (let m = l in omega arith)

-- as many nodes as the mesh has
pub count_of : (mesh : Nodes) (nodes : List NodeSeen) (radio : RadioState) (ready : Ready) (steps : ℕ) → IsKept mesh nodes radio ready steps → length nodes ≡ length mesh
unfolding world_in
count_of mesh nodes radio ready steps k = sym (length-map nodes (node_in mesh)) ∙ (k.sound).count

pub node_at : (mesh : Nodes) (nodes : List NodeSeen) (radio : RadioState) (ready : Ready) (steps x : ℕ) (n : NodeSeen) → IsKept mesh nodes radio ready steps → x < length mesh → n ≡ slice_index_or nodes x n → slice_get nodes x ≡ Some n
node_at mesh nodes radio ready steps x n k l is = slice_get_read nodes (length nodes) x n refl (let c = count_of mesh nodes radio ready steps k in omega arith) is

pub shown_at : (mesh : Nodes) (nodes : List NodeSeen) (radio : RadioState) (x : ℕ) (n : NodeSeen) → slice_get nodes x ≡ Some n → slice_get (world_in mesh nodes radio).nodes x ≡ Some (node_in mesh n)
unfolding world_in
shown_at mesh nodes radio x n at = slice_get-map (node_in mesh) nodes x ∙ ap (λ o. option_map (node_in mesh) o) at

-- a node's size
pub size_at : (mesh : Nodes) (nodes : List NodeSeen) (radio : RadioState) (ready : Ready) (steps x : ℕ) (n : NodeSeen) → IsKept mesh nodes radio ready steps → x < length mesh → n ≡ slice_index_or nodes x n → length mesh ≡ n.size
size_at mesh nodes radio ready steps x n k l is = sym (each_at (IsKeptNode mesh) nodes x n k.each (node_at mesh nodes radio ready steps x n k l is)).size

-- as many nodes as before
pub count_set : (mesh : Nodes) (nodes : List NodeSeen) (radio : RadioState) (ready : Ready) (steps x : ℕ) (new : NodeSeen) → IsKept mesh nodes radio ready steps → length (slice_set nodes x new) ≡ length mesh
count_set mesh nodes radio ready steps x new k = length-set nodes x new ∙ count_of mesh nodes radio ready steps k

-- what is read is what was written
pub read_back : (nodes : List NodeSeen) (x : ℕ) (v read : NodeSeen) → x < length nodes → read ≡ slice_index_or (slice_set nodes x v) x read → read ≡ v
read_back nodes x v read l is =
    same_Some read v (sym (slice_get_read (slice_set nodes x v) (length (slice_set nodes x v)) x read refl (let c = length-set nodes x v in omega arith) is) ∙ set_got nodes x v l)

pub set_got_again : (nodes : List NodeSeen) (x : ℕ) (v u : NodeSeen) → x < length nodes → slice_get (slice_set (slice_set nodes x v) x u) x ≡ Some u
set_got_again nodes x v u l = ap (λ ns. slice_get ns x) (set_again nodes x v u) ∙ set_got nodes x u l

pub count_again : (mesh : Nodes) (nodes : List NodeSeen) (radio : RadioState) (ready : Ready) (steps x : ℕ) (v u : NodeSeen) → IsKept mesh nodes radio ready steps → length (slice_set (slice_set nodes x v) x u) ≡ length mesh
count_again mesh nodes radio ready steps x v u k = ap length (set_again nodes x v u) ∙ count_set mesh nodes radio ready steps x u k

pub is_there : (mesh : Nodes) (nodes : List NodeSeen) (radio : RadioState) (ready : Ready) (steps x : ℕ) → IsKept mesh nodes radio ready steps → x < length mesh → x < length nodes
is_there mesh nodes radio ready steps x k l = let c = count_of mesh nodes radio ready steps k in omega arith
