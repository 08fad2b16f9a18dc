-- A turn on bytes is one on what they mean.
use Rattle.std.proofs.Common.{◌≡◌, ℕ, List, length, Some, None, Result, Ok, Err, sym, ap, subst, ◌∙◌}
use Rattle.mesh_base.specs.Meshes.{Nodes}
use Rattle.mesh_base.specs.Members.{NodeIds}
use Rattle.mesh_base.specs.declared.addr.Addr.{Addr}
use Rattle.mesh_base.specs.declared.events.Effect as code
use Rattle.mesh_base.specs.declared.events.Kind.{Kind}
use Rattle.aodv_model.specs.Tables.{Dests}
use Rattle.aodv_model.specs.Cores.{Core, Message, Rerr, Heard}
use Rattle.aodv_model.specs.Handlers.{on_rerr, retract, turn}
use Rattle.aodv_model.specs.Fullness.{turn_full}
use Rattle.aodv_model.specs.Soundness.{IsMessageInMesh}
use Rattle.aodv_wire.specs.declared.message.Message as wire
use Rattle.aodv_wire.specs.Encodes.{Encodes, message_in_fields}
use Rattle.aodv_meaning.specs.Meaning.{in_mesh, meaning, stranger}
use Rattle.aodv_meaning.proofs.Means.{spelled_in}
use Rattle.aodv_handlers.specs.Made.{IsMade, IsFull, number_full}
use Rattle.aodv_node.specs.declared.answers.TurnError.{TurnError}
use Rattle.aodv_node.specs.declared.answers.TurnError.TheVariants as errors
use Rattle.aodv_meaning.specs.Effects.{kind_of}
use Rattle.aodv_node.specs.declared.meaning.Meaning.{Meaning}
use Rattle.aodv_node.specs.Meanings.{Means}
use Rattle.aodv_node.specs.Turned.{IsReadable, needs_memory}
use Rattle.aodv_node.specs.Heard.{IsHeard, Tries, with_kind}

pub means : (mesh : Nodes) (bytes : List ℕ) (m : wire.Message) → Encodes bytes m → meaning mesh bytes ≡ in_mesh mesh m
unfolding meaning
means mesh bytes m s = ap (in_mesh mesh) s.stands

pub readable : (mesh : Nodes) (bytes : List ℕ) (m : wire.Message) → Encodes bytes m → stranger mesh m ≡ None → IsReadable mesh bytes
readable mesh bytes m s known = record { allowed = s.allowed; known = ap (stranger mesh) s.stands ∙ known }

-- over the meaning of the arm
pub means_as : (mesh : Nodes) (msg : wire.Message) (x m : Meaning) → x ≡ m → Means mesh msg x → Means mesh msg m
means_as mesh msg x m is = subst (Means mesh msg) is

-- what the message of the bytes means is in the mesh
pub says : (mesh : Nodes) (bytes : List ℕ) (msg : wire.Message) (m : Message) → Encodes bytes msg → stranger mesh msg ≡ None → in_mesh mesh msg ≡ m → IsMessageInMesh (length mesh) m
says mesh bytes msg m s known is =
    subst (λ (x : Message). IsMessageInMesh (length mesh) x) (means mesh bytes msg s ∙ is)
    (spelled_in mesh bytes s.allowed (ap (stranger mesh) s.stands ∙ known))

at_message : (mesh : Nodes) (c : Core) (range : NodeIds) (from : ℕ) (bytes : List ℕ) (m : Message) (k : Kind) (r : Result code.Effect TurnError) (new : Core) (out : List ℕ)
    → IsReadable mesh bytes → m ≡ meaning mesh bytes → k ≡ kind_of m → Tries mesh c range (Heard from m) r new out → IsHeard mesh c range from bytes (with_kind k r) new out
at_message mesh c range from bytes m k (Ok e) new out ok is kind did =
    (ok, kind ∙ ap kind_of is, subst (λ (m : Message). IsMade mesh (turn_full c range (Heard from m)) (turn c range (Heard from m)) e new out) is did)
at_message mesh c range from bytes m k (Err errors.Idle) new out ok is kind did = did
at_message mesh c range from bytes m k (Err (errors.Refused f why)) new out ok is kind did = absurd did
at_message mesh c range from bytes m k (Err (errors.Stranger f who)) new out ok is kind did = absurd did
at_message mesh c range from bytes m k (Err (errors.Full f)) new out ok is kind did =
    (ok, subst (λ (m : Message). IsFull (turn_full c range (Heard from m)) c f new) is did)
at_message mesh c range from bytes m k (Err errors.NoMemory) new out ok is kind did = (ok, ap (λ (m : Message). needs_memory c (Heard from m)) (sym is) ∙ did.0, did.1)

pub strange : (mesh : Nodes) (bytes : List ℕ) (m : wire.Message) (who : Addr) → Encodes bytes m → stranger mesh m ≡ Some who → stranger mesh (message_in_fields bytes) ≡ Some who
strange mesh bytes m who s is = ap (stranger mesh) s.stands ∙ is

pub heard_as : (mesh : Nodes) (c : Core) (range : NodeIds) (from : ℕ) (bytes : List ℕ) (msg : wire.Message) (m : Message) (k : Kind) (r : Result code.Effect TurnError) (r' : Result (Kind × code.Effect) TurnError) (new : Core) (out : List ℕ)
    → Encodes bytes msg → stranger mesh msg ≡ None → in_mesh mesh msg ≡ m → k ≡ kind_of m → Tries mesh c range (Heard from m) r new out → r' ≡ with_kind k r → IsHeard mesh c range from bytes r' new out
heard_as mesh c range from bytes msg m k r r' new out s known is kind did r_is =
    subst (λ (x : Result (Kind × code.Effect) TurnError). IsHeard mesh c range from bytes x new out) (sym r_is)
    (at_message mesh c range from bytes m k r new out (readable mesh bytes msg s known) (sym (means mesh bytes msg s ∙ is)) kind did)

-- a turn on a route error breaks no link, so no number is full, whatever the table
pub error_heard : (mesh : Nodes) (c c' : Core) (range : NodeIds) (from : ℕ) (dests : Dests) (e : code.Effect) (new : Core) (out : List ℕ)
    → c' ≡ c → IsMade mesh (number_full c'.rt ((on_rerr c' from dests).effect).broken) (on_rerr c' from dests) e new out → IsMade mesh (turn_full c range (Heard from (Rerr dests))) (turn c range (Heard from (Rerr dests))) e new out
unfolding on_rerr retract
error_heard mesh c c' range from dests e new out same did = subst (λ (k : Core). IsMade mesh None (on_rerr k from dests) e new out) same did
