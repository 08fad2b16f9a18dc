-- What was taken.
use Rattle.std.proofs.Common.{◌≡◌, ◌≢◌, ◌==◌, ℕ, Bool, true, false, List, [], ◌∷◌, Option, Some, None, Result, Ok, Err, refl, sym, ap, subst}
use Rattle.std.proofs.lemmas.Bool.{ne_eqb}
use Rattle.std.specs.Prelude.{if◌then◌else◌}
use Rattle.std.specs.Result.{IsErr, IsErrAnd}
use Rattle.mesh_base.specs.Meshes.{Nodes}
use Rattle.mesh_base.specs.Members.{NodeIds}
use Rattle.mesh_base.specs.declared.events.Full.{Full as Counter}
use Rattle.mesh_base.specs.declared.events.Item as items
use Rattle.mesh_base.specs.declared.events.Item.TheVariants as item
use Rattle.aodv_model.specs.Tables.{Table}
use Rattle.aodv_model.specs.Cores.{Body, Core, New, Heard, add}
use Rattle.aodv_model.specs.Handlers.{Own, Stored, plain, only, delivering, on_new, turn, took}
use Rattle.aodv_model.specs.Fullness.{turn_full}
use Rattle.aodv_meaning.specs.Meaning.{meaning}
use Rattle.aodv_meaning.specs.Sent.{IsPacket}
use Rattle.aodv_handlers.specs.declared.cores.Core as core
use Rattle.aodv_handlers.specs.Shown.{core_of}
use Rattle.aodv_meaning.specs.Effects.{effect_of}
use Rattle.aodv_handlers.specs.Made.{IsMade, IsFull}
use Rattle.aodv_inbox.specs.Queues.{Queue}
use Rattle.aodv_node.specs.declared.answers.TurnError.{TurnError}
use Rattle.aodv_node.specs.declared.answers.TurnError.TheVariants as errors
use Rattle.aodv_node.specs.declared.answers.TurnDone as done
use Rattle.aodv_node.specs.Seen.{NodeSeen, node_seen}
use Rattle.aodv_node.specs.Turned.{IsReadable, IsTurn, needs_memory, taken_of}
use Rattle.aodv_node.specs.Heard.{IsHeard, done_with}

took_by : (b : Bool) (dest : ℕ) (body : Body) (own : Option Body) → own ≡ (if b then Some body else None) → (done_with own dest).took ≡ taken_of (item.New dest body) (if b then Own body else Stored dest)
took_by true dest body own e = ap (λ o. (done_with o dest).took) e
took_by false dest body own e = ap (λ o. (done_with o dest).took) e

effect_by : (b : Bool) (k k' : Core) (dest : ℕ) (body : Body) (own : Option Body) → own ≡ (if b then Some body else None) → (done_with own dest).effect ≡ effect_of (if b then plain k delivering else only k').effect
effect_by true k k' dest body own e = ap (λ o. (done_with o dest).effect) e
effect_by false k k' dest body own e = ap (λ o. (done_with o dest).effect) e

packet_by : (mesh : Nodes) (b : Bool) (k k' : Core) (out : List ℕ) → out ≡ [] → IsPacket mesh out (if b then plain k delivering else only k').effect.cast
packet_by mesh true k k' out e = e
packet_by mesh false k k' out e = e

-- a datum was taken, and what was done with it
pub record IsDatumTaken (mesh : Nodes) (range : NodeIds) (k : Core) (dest : ℕ) (body : Body) (d : done.TurnDone) (new : Core) (out : List ℕ) : Type 0 where
  pub took : d.took ≡ taken_of (item.New dest body) (took k (New body dest))
  pub made : IsMade mesh (turn_full k range (New body dest)) (turn k range (New body dest)) d.effect new out

datum_taken' : (mesh : Nodes) (range : NodeIds) (k : Core) (dest : ℕ) (body : Body) (own : Option Body) (new : Core) (out : List ℕ)
    → own ≡ (if dest == k.ip then Some body else None) → new ≡ (on_new k body dest).core → turn_full k range (New body dest) ≡ None → out ≡ [] → IsDatumTaken mesh range k dest body (done_with own dest) new out
unfolding on_new
datum_taken' mesh range k dest body own new out e core free empty = record {
  took = took_by (dest == k.ip) dest body own e;
  made = record {
    free = free;
    did = effect_by (dest == k.ip) k (record k { store = add k.store dest body }) dest body own e;
    core = core;
    packet = packet_by mesh (dest == k.ip) k (record k { store = add k.store dest body }) out empty;
  };
}

pub datum_taken : (mesh : Nodes) (range : NodeIds) (k old : Core) (dest : ℕ) (body : Body) (own : Option Body) (d : done.TurnDone) (new : Core) (out : List ℕ)
    → k ≡ old → own ≡ (if dest == k.ip then Some body else None) → d ≡ done_with own dest → new ≡ (on_new k body dest).core → turn_full k range (New body dest) ≡ None → out ≡ [] → IsDatumTaken mesh range old dest body d new out
datum_taken mesh range k old dest body own d new out same e is core free empty =
    subst (λ (c : Core). IsDatumTaken mesh range c dest body d new out) same
    (subst (λ (x : done.TurnDone). IsDatumTaken mesh range k dest body x new out) (sym is) (datum_taken' mesh range k dest body own new out e core free empty))

pub stopped : (mesh : Nodes) (c : Core) (range : NodeIds) (from : ℕ) (bytes : List ℕ) (w : TurnError) (field : Counter) (new : Core) (out : List ℕ)
    → w ≡ errors.Full field → IsHeard mesh c range from bytes (Err w) new out → IsReadable mesh bytes × IsFull (turn_full c range (Heard from (meaning mesh bytes))) c field new
stopped mesh c range from bytes w field new out is heard = subst (λ (x : TurnError). IsHeard mesh c range from bytes (Err x) new out) is heard

pub stopped_short : (mesh : Nodes) (c : Core) (range : NodeIds) (from : ℕ) (bytes : List ℕ) (w : TurnError) (new : Core) (out : List ℕ)
    → w ≡ errors.NoMemory → IsHeard mesh c range from bytes (Err w) new out → IsReadable mesh bytes × (needs_memory c (Heard from (meaning mesh bytes)) ≡ true) × (new ≡ c)
stopped_short mesh c range from bytes w new out is heard = subst (λ (x : TurnError). IsHeard mesh c range from bytes (Err x) new out) is heard

pub no_memory : (r : Result done.TurnDone TurnError) → IsErr r × IsErrAnd r (λ e. e ≡ errors.NoMemory) → r ≡ Err errors.NoMemory
no_memory (Ok d) h = absurd (not_error h.0)
  where
    not_error : false ≡ true → ⊥
    not_error e = cc
no_memory (Err e) h = ap Err h.1

-- no memory for a datum that is for another node
pub short_of : (mesh : Nodes) (range : NodeIds) (old new : NodeSeen) (dest : ℕ) (body : Body) (rest : List items.Item) (r : Result done.TurnDone TurnError) (out : List ℕ)
    → r ≡ Err errors.NoMemory → old.items ≡ item.New dest body ∷ rest → dest ≢ (old.core).ip → new ≡ old → IsTurn mesh range old r new out
short_of mesh range old new dest body rest r out is was other same =
    subst (λ (x : Result done.TurnDone TurnError). IsTurn mesh range old x new out) (sym is)
    (record { front = item.New dest body; rest = rest; was = was; readable = tt; needs = rw (ne_eqb dest (old.core).ip other) refl }, same)

pub seen_same : {T : Type 0} (nodes : T → ℕ) (entries : T → Table) (new old : core.Core T) (inbox : Queue) → core_of entries new ≡ core_of entries old → nodes new.table ≡ nodes old.table → node_seen nodes entries new inbox ≡ node_seen nodes entries old inbox
seen_same nodes entries new old inbox same size = λ i. record { core = same i; items = inbox.items; room = inbox.room; size = size i }
