-- A packet that is taken as it is heard: what a turn on it does is what follows if it joins the
-- inbox.
use Rattle.std.proofs.Common.{◌≡◌, ◌≢◌, ◌<◌, ℕ, List, [], ◌∷◌, length, Result, Ok, Err, refl, sym, ap, arith, subst}
use Rattle.mesh_base.specs.Meshes.{Nodes}
use Rattle.mesh_base.specs.Members.{NodeIds}
use Rattle.mesh_base.specs.declared.events.Effect.{Effect}
use Rattle.mesh_base.specs.declared.events.Item as items
use Rattle.mesh_base.specs.declared.events.Item.TheVariants as item
use Rattle.mesh_base.specs.declared.events.Kind.{Kind}
use Rattle.mesh_base.specs.declared.events.Took.TheVariants as takes
use Rattle.aodv_model.specs.Cores.{Core}
use Rattle.aodv_node.specs.declared.answers.TurnError.{TurnError}
use Rattle.aodv_node.specs.declared.answers.TurnError.TheVariants as errors
use Rattle.aodv_node.specs.Seen.{NodeSeen, IsSoundNode}
use Rattle.aodv_node.specs.Turned.{hearing, heard_done, IsTurnOn}
use Rattle.aodv_node.specs.Heard.{IsHeard}
use Rattle.aodv_node.proofs.Keeps.{Follows, turn_keeps, still}

-- with the core alone new
with_core : (mesh : Nodes) (range : NodeIds) (old : NodeSeen) (c : Core) (from : ℕ) (bytes : List ℕ) (r : Result (Kind × Effect) TurnError) (out : List ℕ)
    → old.items ≡ [] → IsHeard mesh old.core range from bytes r c out → IsTurnOn mesh range old from bytes r (record old { core = c }) out
with_core mesh range old c from bytes (Ok p) out none h = record {
  front = item.Heard from bytes;
  was = ap (λ (is : List items.Item). item.Heard from bytes ∷ is) (sym none);
  readable = h.0;
  took = ap (λ (k : Kind). takes.Heard from k bytes) h.1;
  made = h.2;
  room = omega arith;
  size = refl;
}
with_core mesh range old c from bytes (Err errors.Idle) out none h = absurd h
with_core mesh range old c from bytes (Err (errors.Refused f why)) out none h = (
  record old { items = [] },
  (
    bytes,
    h.1,
    record {
      was = ap (λ (x : ℕ). item.Heard x bytes ∷ []) (sym h.0);
      core = refl;
      room = omega arith;
      size = refl;
    },
  ),
  ap (λ (k : Core). record old { core = k }) h.2,
)
with_core mesh range old c from bytes (Err (errors.Stranger f who)) out none h = (
  record old { items = [] },
  (
    bytes,
    h.1,
    h.2,
    record {
      was = ap (λ (x : ℕ). item.Heard x bytes ∷ []) (sym h.0);
      core = refl;
      room = omega arith;
      size = refl;
    },
  ),
  ap (λ (k : Core). record old { core = k }) h.3,
)
with_core mesh range old c from bytes (Err (errors.Full field)) out none h = (
  hearing old from bytes,
  (
    record {
      front = item.Heard from bytes;
      rest = [];
      was = refl;
      readable = h.0;
      full = (h.1).overfull;
    },
    refl,
  ),
  ap (λ (k : Core). record old { core = k }) (h.1).same,
)
with_core mesh range old c from bytes (Err errors.NoMemory) out none h = (
  hearing old from bytes,
  (
    record {
      front = item.Heard from bytes;
      rest = [];
      was = refl;
      readable = h.0;
      needs = h.1;
    },
    refl,
  ),
  ap (λ (k : Core). record old { core = k }) h.2,
)

pub turned_on : (mesh : Nodes) (range : NodeIds) (old new : NodeSeen) (from : ℕ) (bytes : List ℕ) (r : Result (Kind × Effect) TurnError) (out : List ℕ)
    → old.items ≡ [] → new ≡ record old { core = new.core } → IsHeard mesh old.core range from bytes r new.core out → IsTurnOn mesh range old from bytes r new out
turned_on mesh range old new from bytes r out none others h =
    subst (λ (n : NodeSeen). IsTurnOn mesh range old from bytes r n out) (sym others) (with_core mesh range old new.core from bytes r out none h)

pub hearing_is_sound : (node : NodeSeen) (from : ℕ) (bytes : List ℕ) → from < node.size → from ≢ (node.core).ip → IsSoundNode node → IsSoundNode (hearing node from bytes)
hearing_is_sound node from bytes l other s = record { mine = s.mine; sound = s.sound; store = s.store; each = ((l, other), tt) }

pub turn_on_keeps : (mesh : Nodes) (range : NodeIds) (old new : NodeSeen) (from : ℕ) (bytes : List ℕ) (r : Result (Kind × Effect) TurnError) (out : List ℕ)
    → length mesh ≡ old.size → from < old.size → from ≢ (old.core).ip → IsSoundNode old → IsTurnOn mesh range old from bytes r new out → Follows old new
turn_on_keeps mesh range old new from bytes (Ok p) out size l other s t =
    let f = turn_keeps mesh range (hearing old from bytes) (Ok (heard_done from bytes p)) new out size (hearing_is_sound old from bytes l other s) t in
    record { sound = f.sound; me = f.me }
turn_on_keeps mesh range old new from bytes (Err why) out size l other s t = still old new s t.2
