-- What a turn on the bytes of a packet answers, and what one on a message does.
use Rattle.std.specs.Prelude.{◌≡◌, ℕ, true, false, Option, Some, None, Result, Ok, Err, List}
use Rattle.mesh_base.specs.Meshes.{Nodes}
use Rattle.mesh_base.specs.Members.{NodeIds}
use Rattle.mesh_base.specs.declared.events.Effect as code
use Rattle.mesh_base.specs.declared.events.Cast.TheVariants as casts
use Rattle.mesh_base.specs.declared.events.Kind.{Kind}
use Rattle.mesh_base.specs.declared.events.Took.TheVariants as takes
use Rattle.aodv_model.specs.Tables.{Table}
use Rattle.aodv_model.specs.Cores.{Body, Core, Item, Heard}
use Rattle.aodv_model.specs.Handlers.{turn}
use Rattle.aodv_model.specs.Fullness.{turn_full}
use Rattle.aodv_wire.specs.Encodes.{refusal, message_in_fields}
use Rattle.aodv_meaning.specs.Meaning.{meaning, stranger}
use Rattle.aodv_handlers.specs.declared.cores.Core as cores
use Rattle.aodv_handlers.specs.Shown.{core_of}
use Rattle.aodv_handlers.specs.Made.{IsMade, IsFull}
use Rattle.aodv_node.specs.declared.answers.TurnError.{TurnError}
use Rattle.aodv_node.specs.declared.answers.TurnError.TheVariants as errors
use Rattle.aodv_node.specs.declared.answers.TurnDone as done
use Rattle.aodv_meaning.specs.Effects.{kind_of}
use Rattle.aodv_node.specs.Turned.{IsReadable, needs_memory}

-- a turn on a message, which may run out of memory
abbrev pub Tries : Nodes → Core → NodeIds → Item → Result code.Effect TurnError → Core → List ℕ
    → Type 0
Tries mesh c range i (Ok e) new out = IsMade mesh (turn_full c range i) (turn c range i) e new out
Tries mesh c range i (Err errors.Idle) new out = ⊥
Tries mesh c range i (Err (errors.Refused f why)) new out = ⊥
Tries mesh c range i (Err (errors.Stranger f who)) new out = ⊥
Tries mesh c range i (Err (errors.Full field)) new out = IsFull (turn_full c range i) c field new
Tries mesh c range i (Err errors.NoMemory) new out = (needs_memory c i ≡ true) × (new ≡ c)

-- such a turn on cores of the code: `entries` gives the entries of their tables
abbrev pub TakesIfRoom : {T : Type 0} → (T → Table) → Nodes → NodeIds → Item
    → cores.Core T → Result code.Effect TurnError → cores.Core T → List ℕ → Type 0
TakesIfRoom entries mesh range item old answer new out =
    Tries mesh (core_of entries old) range item answer (core_of entries new) out

-- a turn on bytes heard from a node
abbrev pub IsHeard : Nodes → Core → NodeIds → ℕ → List ℕ → Result (Kind × code.Effect) TurnError
    → Core → List ℕ → Type 0
IsHeard mesh c range from bytes (Ok p) new out =
    let i = Heard from (meaning mesh bytes) in
    IsReadable mesh bytes × (p.0 ≡ kind_of (meaning mesh bytes))
    × IsMade mesh (turn_full c range i) (turn c range i) p.1 new out
IsHeard mesh c range from bytes (Err errors.Idle) new out = ⊥
IsHeard mesh c range from bytes (Err (errors.Refused f why)) new out =
    (f ≡ from) × (refusal bytes ≡ Some why) × (new ≡ c)
IsHeard mesh c range from bytes (Err (errors.Stranger f who)) new out =
    (f ≡ from) × (refusal bytes ≡ None) × (stranger mesh (message_in_fields bytes) ≡ Some who)
    × (new ≡ c)
IsHeard mesh c range from bytes (Err (errors.Full field)) new out =
    IsReadable mesh bytes
    × IsFull (turn_full c range (Heard from (meaning mesh bytes))) c field new
IsHeard mesh c range from bytes (Err errors.NoMemory) new out =
    IsReadable mesh bytes × (needs_memory c (Heard from (meaning mesh bytes)) ≡ true) × (new ≡ c)

-- the answer, with the kind of the packet if the turn was done
abbrev pub with_kind : Kind → Result code.Effect TurnError → Result (Kind × code.Effect) TurnError
with_kind k (Ok e) = Ok (k, e)
with_kind k (Err why) = Err why

-- a datum given to the node was taken; the option has the datum if it is for the node itself
abbrev pub done_with : Option Body → ℕ → done.TurnDone
done_with (Some body) dest = record {
  took = takes.Own body;
  effect = record { deliver = true; lost = false; broken = None; cast = casts.Nothing };
}
done_with None dest = record {
  took = takes.Stored dest;
  effect = record { deliver = false; lost = false; broken = None; cast = casts.Nothing };
}
