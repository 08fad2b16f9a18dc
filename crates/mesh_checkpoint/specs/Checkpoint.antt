-- The body of a checkpoint: its table, part by part. What the values mean doesn't matter here. All
-- numbers are written with their highest byte first.
use Rattle.std.specs.Prelude.{ℕ, zero, suc, ◌+◌, ◌*◌, ◌^◌, Bool, true, false, List, [], ◌∷◌, length, Option, ◌⊎◌}
use Rattle.std.specs.Int.{w16, w32, w64}
use Rattle.std.proofs.Common.{inl, inr}
use Rattle.mesh_base.specs.declared.limits.TheConstants.{MOST_NODES, LONGEST_DATUM, LONGEST_PACKET}
use Rattle.mesh_base.specs.declared.events.Variant.{Variant}
use Rattle.mesh_base.specs.declared.events.Variant.TheVariants.{Base, Number, Reply, Error}
use Rattle.mesh_base.specs.declared.events.Item.{Item}
use Rattle.mesh_base.specs.declared.events.Item.TheVariants.{New, Heard}
use Rattle.mesh_base.specs.declared.events.Flying.{Flying}
use Rattle.mesh_checkpoint.specs.declared.body.Head.{Head}
use Rattle.mesh_checkpoint.specs.declared.limits.TheConstants.{SUMS_END, MOST_STEPS, GREATEST_NEXT_ID, LONGEST_HEARD}
use Rattle.mesh_checkpoint.specs.Formats.{Format, byte, number, seq, times, as_form, truth, counted_list, counted_rising, text, maybe, either}

-- ---- what a body holds

-- a route and its destination; `known` says whether the number is known
pub record Route : Type 0 where
  pub dest : ℕ
  pub number : ℕ
  pub known : Bool
  pub valid : Bool
  pub hops : ℕ
  pub next : ℕ
  pub precursors : List ℕ

-- the data that wait for a destination, and whether a request for it is still to be made
pub record Waits : Type 0 where
  pub dest : ℕ
  pub needs_request : Bool
  pub bodies : List (List ℕ)

-- a node: its own number, its routes, the requests that it has seen, its store, and its inbox
pub record Node : Type 0 where
  pub sn : ℕ
  pub routes : List Route
  pub asked : List (ℕ × ℕ)
  pub store : List Waits
  pub inbox : List Item

-- two nodes whose link stands, or has stood
pub record Link : Type 0 where
  pub a : ℕ
  pub b : ℕ
  pub stands : Bool

-- how many steps were taken, the nodes, the links, the id of the next copy, and the copies in
-- flight
pub record World : Type 0 where
  pub steps : ℕ
  pub nodes : List Node
  pub links : List Link
  pub next : ℕ
  pub copies : List Flying

-- the head, each node of the mesh by its address, with its first number, and the world, if any
pub record Body : Type 0 where
  pub head : Head
  pub mesh : List (ℕ × ℕ)
  pub world : Option World

-- ---- numbers and texts

-- a node, by its index in a mesh of this many
abbrev pub index : ℕ → Format ℕ
index nodes = number w16 0 nodes

abbrev pub any16 : Format ℕ
any16 = number w16 0 (2 ^ 16)

abbrev pub any32 : Format ℕ
any32 = number w32 0 (2 ^ 32)

abbrev pub positive32 : Format ℕ
positive32 = number w32 1 (2 ^ 32)

abbrev pub datum : Format (List ℕ)
datum = text w16 1 (LONGEST_DATUM + 1)

-- ---- the head and the mesh

abbrev pub variant_number : Variant → ℕ
variant_number Base = 0
variant_number Number = 1
variant_number Reply = 2
variant_number Error = 3

abbrev pub variant_of : ℕ → Variant
variant_of zero = Base
variant_of (suc zero) = Number
variant_of (suc (suc zero)) = Reply
variant_of (suc (suc (suc n))) = Error

abbrev pub variant : Format Variant
variant = as_form variant_of variant_number (byte 0 4)

abbrev pub sum : Format ℕ
sum = number w64 0 SUMS_END

abbrev pub head : Format Head
head = as_form
    (λ p. record {
      variant = p.0;
      lines = p.1.0;
      events = p.1.1.0;
      idle = p.1.1.1.0;
      given = p.1.1.1.1.0;
      delivered = p.1.1.1.1.1.0;
      lost = p.1.1.1.1.1.1.0;
      copied = p.1.1.1.1.1.1.1;
    })
    (λ h. (
      h.variant,
      (h.lines, (h.events, (h.idle, (h.given, (h.delivered, (h.lost, h.copied)))))),
    ))
    (seq variant λ _. seq sum λ _. seq sum λ _. seq sum λ _. seq sum λ _. seq sum λ _.
    seq sum λ _. sum)

-- an address and its node's first number
abbrev pub station : Format (ℕ × ℕ)
station = seq any32 λ _. positive32

-- the nodes of a mesh, by rising address
abbrev pub mesh : Format (List (ℕ × ℕ))
mesh = counted_rising (λ p. p.0) (number w16 0 (MOST_NODES + 1)) station

-- ---- a node

abbrev pub indices : ℕ → Format (List ℕ)
indices nodes = counted_rising (λ i. i) any16 (index nodes)

abbrev pub route : ℕ → Format Route
route nodes = as_form
    (λ p. record {
      dest = p.0;
      number = p.1.0;
      known = p.1.1.0;
      valid = p.1.1.1.0;
      hops = p.1.1.1.1.0;
      next = p.1.1.1.1.1.0;
      precursors = p.1.1.1.1.1.1;
    })
    (λ r. (r.dest, (r.number, (r.known, (r.valid, (r.hops, (r.next, r.precursors)))))))
    (seq (index nodes) λ _. seq any32 λ _. seq truth λ _. seq truth λ _. seq (byte 1 256) λ _.
    seq (index nodes) λ _. indices nodes)

abbrev pub routes : ℕ → Format (List Route)
routes nodes = counted_rising (λ r. r.dest) any16 (route nodes)

-- an originator and an id
abbrev pub request : ℕ → Format (ℕ × ℕ)
request nodes = seq (index nodes) λ _. any32

-- the key of a request: it rises by the originator, and then by the id
abbrev pub request_key : ℕ × ℕ → ℕ
request_key p = p.0 * 2 ^ 32 + p.1

abbrev pub asked_format : ℕ → Format (List (ℕ × ℕ))
asked_format nodes = counted_rising request_key any32 (request nodes)

abbrev pub waits : ℕ → Format Waits
waits nodes = as_form
    (λ p. record { dest = p.0; needs_request = p.1.0; bodies = p.1.1 })
    (λ w. (w.dest, (w.needs_request, w.bodies)))
    (seq (index nodes) λ _. seq truth λ _. counted_list positive32 datum)

abbrev pub store : ℕ → Format (List Waits)
store nodes = counted_rising (λ w. w.dest) any16 (waits nodes)

-- a datum for a destination
abbrev pub datum_format : ℕ → Format (ℕ × List ℕ)
datum_format nodes = seq (index nodes) λ _. datum

-- a packet from a sender
abbrev pub heard_format : ℕ → Format (ℕ × List ℕ)
heard_format nodes = seq (index nodes) λ _. text w16 0 (LONGEST_HEARD + 1)

abbrev pub item_of : (ℕ × List ℕ) ⊎ (ℕ × List ℕ) → Item
item_of (inl p) = New p.0 p.1
item_of (inr p) = Heard p.0 p.1

abbrev pub parts_of : Item → (ℕ × List ℕ) ⊎ (ℕ × List ℕ)
parts_of (New dest body) = inl (dest, body)
parts_of (Heard from bytes) = inr (from, bytes)

abbrev pub item : ℕ → Format Item
item nodes = as_form item_of parts_of (either (datum_format nodes) (heard_format nodes))

abbrev pub inbox : ℕ → Format (List Item)
inbox nodes = counted_list any32 (item nodes)

abbrev pub node : ℕ → Format Node
node nodes = as_form
    (λ p. record {
      sn = p.0;
      routes = p.1.0;
      asked = p.1.1.0;
      store = p.1.1.1.0;
      inbox = p.1.1.1.1;
    })
    (λ n. (n.sn, (n.routes, (n.asked, (n.store, n.inbox)))))
    (seq positive32 λ _. seq (routes nodes) λ _. seq (asked_format nodes) λ _.
    seq (store nodes) λ _. inbox nodes)

-- ---- the radio

-- the second node of a pair is above the first
abbrev pub link : ℕ → Format Link
link nodes = as_form
    (λ p. record { a = p.0; b = p.1.0; stands = p.1.1 })
    (λ l. (l.a, (l.b, l.stands)))
    (seq (index nodes) λ a. seq (number w16 (a + 1) nodes) λ _. truth)

-- the key of a link: it rises by the first node, and then by the second
abbrev pub link_key : Link → ℕ
link_key l = l.a * 2 ^ 16 + l.b

abbrev pub links : ℕ → Format (List Link)
links nodes = counted_rising link_key any16 (link nodes)

-- a copy whose id is below that of the next copy
abbrev pub copy : ℕ → ℕ → Format Flying
copy nodes next = as_form
    (λ p. record { id = p.0; from = p.1.0; to = p.1.1.0; bytes = p.1.1.1 })
    (λ c. (c.id, (c.from, (c.to, c.bytes))))
    (seq (number w64 1 next) λ _. seq (index nodes) λ _. seq (index nodes) λ _.
    text w16 0 (LONGEST_PACKET + 1))

abbrev pub copies : ℕ → ℕ → Format (List Flying)
copies nodes next = counted_rising (λ c. c.id) any32 (copy nodes next)

abbrev pub world : ℕ → Format World
world nodes = as_form
    (λ p. record {
      steps = p.0;
      nodes = p.1.0;
      links = p.1.1.0;
      next = p.1.1.1.0;
      copies = p.1.1.1.1;
    })
    (λ w. (w.steps, (w.nodes, (w.links, (w.next, w.copies)))))
    (seq (number w64 0 (MOST_STEPS + 1)) λ _. seq (times (node nodes) nodes) λ _.
    seq (links nodes) λ _. seq (number w64 1 (GREATEST_NEXT_ID + 1)) λ next. copies nodes next)

-- ---- the body

abbrev pub has_nodes : List (ℕ × ℕ) → Bool
has_nodes [] = false
has_nodes (p ∷ ps) = true

-- a mesh of no nodes has no world
abbrev pub body : Format Body
body = as_form
    (λ p. record { head = p.0; mesh = p.1.0; world = p.1.1 })
    (λ b. (b.head, (b.mesh, b.world)))
    (seq head λ _. seq mesh λ nodes. maybe (has_nodes nodes) (world (length nodes)))
