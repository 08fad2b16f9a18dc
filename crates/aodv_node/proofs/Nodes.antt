-- Over the table of a node: every call keeps what a node keeps.
use Rattle.std.proofs.Common.{◌≡◌, ◌≢◌, ◌<◌, ◌≤◌, ℕ, List, [], length, Result, refl, sym, ap, subst, ◌∙◌}
use Rattle.std.specs.FinMap as maps
use Rattle.std.specs.FinSet as sets
use Rattle.mesh_base.specs.Meshes.{Nodes}
use Rattle.mesh_base.specs.Members.{NodeIds}
use Rattle.mesh_base.specs.declared.events.Effect as code
use Rattle.mesh_base.specs.declared.events.Kind.{Kind}
use Rattle.aodv_model.specs.Cores.{opening}
use Rattle.aodv_table.specs.Calls.{nodes_below}
use Rattle.aodv_table.specs.declared.rows.RowTable.{RowTable}
use Rattle.aodv_handlers.specs.declared.cores.Core as core
use Rattle.aodv_handlers.specs.Shown.{IsInOrder}
use Rattle.aodv_inbox.specs.Queues.{Queue}
use Rattle.aodv_node.specs.declared.answers.TurnError.{TurnError}
use Rattle.aodv_node.specs.declared.answers.SendError.{SendError}
use Rattle.aodv_node.specs.declared.answers.AskError.{AskError}
use Rattle.aodv_node.specs.declared.answers.TurnDone as done
use Rattle.aodv_node.specs.Seen.{NodeSeen, node_seen, IsSoundNode}
use Rattle.aodv_node.specs.Turned.{IsTurn, IsTurnOn}
use Rattle.aodv_node.specs.Heard.{IsHeard}
use Rattle.aodv_node.specs.Discovered.{IsSend, IsAsk}
use Rattle.aodv_node.proofs.Keeps.{Follows, turn_keeps, send_keeps, ask_keeps, opened}
use Rattle.aodv_node.proofs.Hearing.{turned_on, turn_on_keeps}

abbrev pub seen_node : core.Core RowTable → Queue → NodeSeen
seen_node c inbox = node_seen (λ t. t.nodes) (λ t. t.entries) c inbox

abbrev pub Order : ℕ → core.Core RowTable → Type 0
Order size c = IsInOrder (λ t. t.nodes) (λ t. t.entries) size c

abbrev pub Kept : core.Core RowTable → Queue → Type 0
Kept c inbox = Order (c.table).nodes c × IsSoundNode (seen_node c inbox)

order_here : (size : ℕ) (c : core.Core RowTable) → Order size c → Order (c.table).nodes c
order_here size c r = subst (λ (n : ℕ). Order n c) (sym r.table) r

pub order_for : (size : ℕ) (c : core.Core RowTable) (inbox : Queue) (value : NodeSeen) → size ≡ value.size → seen_node c inbox ≡ value → Kept c inbox → Order size c
order_for size c inbox value is view kept = subst (λ (n : ℕ). Order n c) (sym (is ∙ ap (λ (n : NodeSeen). n.size) (sym view))) kept.0

-- the number of nodes is the same
same_size : (size : ℕ) (old new : core.Core RowTable) (q : Queue) (value : NodeSeen) → size ≡ value.size → seen_node old q ≡ value → Order size new → (new.table).nodes ≡ (old.table).nodes
same_size size old new q value is view order = order.table ∙ is ∙ ap (λ (n : NodeSeen). n.size) (sym view)

-- what a call leaves: what a node keeps, and the node is the same one
pub record Leaves (old new : core.Core RowTable) (q : Queue) : Type 0 where
  pub kept : Kept new q
  pub me : new.me ≡ old.me
  pub nodes : (new.table).nodes ≡ (old.table).nodes

leaves : (size : ℕ) (old new : core.Core RowTable) (q q' : Queue) (value : NodeSeen) → size ≡ value.size → seen_node old q ≡ value → Order size new → Follows (seen_node old q) (seen_node new q') → Leaves old new q'
leaves size old new q q' value is view order f = record { kept = (order_here size new order, f.sound); me = f.me; nodes = same_size size old new q value is view order }

pub turned : (mesh : Nodes) (range : NodeIds) (old new : core.Core RowTable) (q q' : Queue) (r : Result done.TurnDone TurnError) (out : List ℕ) (value : NodeSeen)
    → length mesh ≡ value.size → seen_node old q ≡ value → Kept old q → Order (length mesh) new → IsTurn mesh range (seen_node old q) r (seen_node new q') out → Leaves old new q'
turned mesh range old new q q' r out value size view kept order did =
    leaves (length mesh) old new q q' value size view order (turn_keeps mesh range (seen_node old q) r (seen_node new q') out (size ∙ ap (λ (n : NodeSeen). n.size) (sym view)) kept.1 did)

pub sent : (mesh : Nodes) (range : NodeIds) (d : ℕ) (old new : core.Core RowTable) (q : Queue) (r : Result code.Effect SendError) (out : List ℕ) (value : NodeSeen)
    → length mesh ≡ value.size → seen_node old q ≡ value → Kept old q → Order (length mesh) new → IsSend mesh range (seen_node old q).core d r (seen_node new q).core out → Leaves old new q
sent mesh range d old new q r out value size view kept order did =
    leaves (length mesh) old new q q value size view order (send_keeps mesh range (seen_node old q) d r (seen_node new q) out kept.1 (same_size (length mesh) old new q value size view order) refl did)

pub asked_for : (mesh : Nodes) (d : ℕ) (old new : core.Core RowTable) (q : Queue) (r : Result code.Effect AskError) (out : List ℕ) (value : NodeSeen)
    → length mesh ≡ value.size → seen_node old q ≡ value → Kept old q → Order (length mesh) new → IsAsk mesh (seen_node old q).core d r (seen_node new q).core out → Leaves old new q
asked_for mesh d old new q r out value size view kept order did =
    leaves (length mesh) old new q q value size view order (ask_keeps mesh (seen_node old q) d r (seen_node new q) out kept.1 (same_size (length mesh) old new q value size view order) refl did)

-- what is seen of a node whose core alone is new
seen_with_core : (size : ℕ) (old new : core.Core RowTable) (q : Queue) (value : NodeSeen) → size ≡ value.size → seen_node old q ≡ value → Order size new → seen_node new q ≡ record value { core = (seen_node new q).core }
seen_with_core size old new q value is view order =
    subst (λ (v : NodeSeen). seen_node new q ≡ record v { core = (seen_node new q).core }) view
    (λ i. record { core = (seen_node new q).core; items = q.items; room = q.room; size = same_size size old new q value is view order i })

-- a packet that was taken as it was heard
pub record TakesHeard (mesh : Nodes) (range : NodeIds) (from : ℕ) (bytes : List ℕ) (r : Result (Kind × code.Effect) TurnError) (out : List ℕ) (old new : core.Core RowTable) (q : Queue) (value : NodeSeen) : Type 0 where
  pub did : IsTurnOn mesh range value from bytes r (seen_node new q) out
  pub left : Leaves old new q

pub takes_heard : (mesh : Nodes) (range : NodeIds) (from : ℕ) (bytes : List ℕ) (old new : core.Core RowTable) (q : Queue) (r : Result (Kind × code.Effect) TurnError) (out : List ℕ) (value : NodeSeen)
    → length mesh ≡ value.size → from < value.size → from ≢ (value.core).ip → value.items ≡ [] → seen_node old q ≡ value → Kept old q → Order (length mesh) new → IsHeard mesh (seen_node old q).core range from bytes r (seen_node new q).core out
    → TakesHeard mesh range from bytes r out old new q value
takes_heard mesh range from bytes old new q r out value size l other none view kept order did =
    let heard : IsHeard mesh value.core range from bytes r (seen_node new q).core out = subst (λ (v : NodeSeen). IsHeard mesh v.core range from bytes r (seen_node new q).core out) view did in
    let t = turned_on mesh range value (seen_node new q) from bytes r out none (seen_with_core (length mesh) old new q value size view order) heard in
    let f = turn_on_keeps mesh range value (seen_node new q) from bytes r out size l other (subst (λ (v : NodeSeen). IsSoundNode v) view kept.1) t in
    record { did = t; left = leaves (length mesh) old new q q value size view order (record { sound = f.sound; me = f.me ∙ ap (λ (v : NodeSeen). (v.core).ip) (sym view) }) }

pub opens : (c : core.Core RowTable) (inbox : Queue) (size : ℕ) → c.me < size → 1 ≤ c.sn → c.table ≡ record { entries = maps.empty; rooms = nodes_below size; nodes = size }
    → (c.asked).pairs ≡ sets.empty → length (c.asked).rooms ≡ size → (c.waiting).store ≡ maps.empty → length (c.waiting).rooms ≡ size → inbox.items ≡ [] → Kept c inbox
opens c inbox size below positive table pairs asked store waiting none =
    let nodes : (c.table).nodes ≡ size = ap (λ t. t.nodes) table in
    let mine : c.me < (c.table).nodes = subst (λ (n : ℕ). c.me < n) (sym nodes) below in
    let open_core : (seen_node c inbox).core ≡ opening c.variant c.me c.sn = λ i. record { ip = c.me; variant = c.variant; sn = c.sn; rt = (table i).entries; seen = pairs i; store = store i } in
    let sound = opened (seen_node c inbox) c.variant c.me c.sn mine positive open_core none in
    (record { table = refl; asked = asked ∙ sym nodes; waiting = waiting ∙ sym nodes; mine = mine; sound = sound.sound }, sound)
