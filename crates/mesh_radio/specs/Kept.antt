-- How the code keeps a graph, the copies in flight and memory for more. No public contract cites
-- this file.
use Rattle.std.specs.Prelude.{◌≡◌, ℕ, zero, suc, ◌+◌, ◌-◌, ◌≤◌, false, if◌then◌else◌, Option, Some, None, List, [], ◌∷◌, ◌++◌, length, max, unwrap_or, slice_get, ⊤, refl}
use Rattle.std.specs.List.{AllByRecursion}
use Rattle.std.specs.Coded.{Coded, code_by, coded×, coded_ℕ, coded_list}
use Rattle.std.specs.FinSet as sets
use Rattle.mesh_base.specs.declared.limits.TheConstants.{MOST_NODES}
use Rattle.mesh_base.specs.Members.{NodeIds}
use Rattle.mesh_base.specs.declared.events.Flying.{Flying}
use Rattle.aodv_model.specs.Pairs.{Pairs}
use Rattle.aodv_model.specs.Codes.{pairs_code}
use Rattle.mesh_radio.specs.Copies.{copies_to, IsBetween, IsPacketLong}
use Rattle.mesh_radio.specs.Radios.{RadioState, AreLinksOf}

-- ---- a graph, kept as the set of neighbours of each node

-- the number of nodes, and the pairs that are joined, each with the smaller node first
pub record Graph : Type 0 where
  pub size : ℕ
  pub pairs : Pairs

-- the neighbours of a; none if there is no such node
abbrev pub row : List NodeIds → ℕ → NodeIds
row rows a = unwrap_or (slice_get rows a) sets.empty

-- the pairs (b, a) for members b of s below n, besides other pairs
unfoldable pub with_row : ℕ → NodeIds → ℕ → Pairs → Pairs
with_row a s zero pairs = pairs
with_row a s (suc n) pairs =
    if sets.contains s n then sets.insert (with_row a s n pairs) (n, a) else with_row a s n pairs

-- the pairs whose greater node is below n
unfoldable pub pairs_below : ℕ → List NodeIds → Pairs
pairs_below zero rows = sets.empty
pairs_below (suc a) rows = with_row a (row rows a) a (pairs_below a rows)

abbrev pub graph_of : List NodeIds → Graph
graph_of rows = record { size = length rows; pairs = pairs_below (length rows) rows }

-- nodes are neighbours both ways, no node is its own neighbour, and there are at most 200
pub record AreMutual (rows : List NodeIds) : Type 0 where
  pub few : length rows ≤ MOST_NODES
  pub both_ways : (a b : ℕ) → sets.contains (row rows a) b ≡ sets.contains (row rows b) a
  pub apart : (a : ℕ) → sets.contains (row rows a) a ≡ false

-- ---- copies

-- the copies, the id of the next, and memory: for how many more copies, of how many bytes each
pub record Flights : Type 0 where
  pub flying : List Flying
  pub next_copy : ℕ
  pub room : ℕ
  pub most : ℕ

-- the copies in these slots
abbrev pub copies_in : List (Option Flying) → List Flying
copies_in [] = []
copies_in (None ∷ slots) = copies_in slots
copies_in (Some c ∷ slots) = c ∷ copies_in slots

-- a slot for each id from `id` on, with the copy of that id, if it is in flight
abbrev pub AreSlots : ℕ → List (Option Flying) → Type 0
AreSlots id [] = ⊤
AreSlots id (None ∷ slots) = AreSlots (id + 1) slots
AreSlots id (Some c ∷ slots) = (c.id ≡ id) × AreSlots (id + 1) slots

-- a copy to each receiver joins
abbrev pub with_flights : Flights → ℕ → List ℕ → List ℕ → Flights
with_flights a from bytes tos = record a {
  flying = a.flying ++ copies_to tos a.next_copy from bytes;
  next_copy = a.next_copy + length tos;
  room = a.room - length tos;
}

-- this copy joins
abbrev pub with_flight : Flights → Flying → Flights
with_flight a c = record a { flying = a.flying ++ c ∷ [] }

-- a second copy like this one joins, with the next id, if there is such a copy
abbrev pub with_second : Flights → Option Flying → Flights
with_second a None = a
with_second a (Some c) = record a {
  flying = a.flying ++ record c { id = a.next_copy } ∷ [];
  next_copy = a.next_copy + 1;
  room = a.room - 1;
}

-- room for this many more copies, of this many bytes each; room that is there is kept
abbrev pub with_room : Flights → ℕ → ℕ → Flights
with_room a copies bytes = record a { room = max a.room copies; most = max a.most bytes }

-- ---- memory for copies to come

-- for how many copies, of how many bytes each
pub record Memory : Type 0 where
  pub room : ℕ
  pub most : ℕ

-- memory for this many copies, of this many bytes each; memory that is there is kept
abbrev pub more_memory : Memory → ℕ → ℕ → Memory
more_memory m copies bytes = record { room = max m.room copies; most = max m.most bytes }

-- each room is large enough for this many bytes
abbrev pub AreLarge : ℕ → List ℕ → Type 0
AreLarge bytes reserve = AllByRecursion (λ room. bytes ≤ room) reserve

-- ---- a radio of these parts

abbrev pub radio_of : Graph → Graph → Flights → RadioState
radio_of links ever a = record {
  size = links.size;
  links = links.pairs;
  ever = ever.pairs;
  flying = a.flying;
  next_copy = a.next_copy;
  room = a.room;
  most = a.most;
}

-- both graphs are of the same nodes, at most 200, and a link that stands is among those that ever
-- stood; copies are between these nodes, and none has more bytes than a packet can
pub record IsRadio (links ever : Graph) (a : Flights) : Type 0 where
  pub few : links.size ≤ MOST_NODES
  pub same : ever.size ≡ links.size
  pub linked : AreLinksOf links.size links.pairs ever.pairs
  pub between : AllByRecursion (IsBetween links.size) a.flying
  pub long : AllByRecursion IsPacketLong a.flying

-- ---- codes, so that types of the code can be viewed as these

abbrev pub graph_code : Coded Graph
graph_code =
    code_by (ℕ × Pairs) (coded× coded_ℕ pairs_code)
    (λ g. (g.size, g.pairs)) (λ p. record { size = p.0; pairs = p.1 }) (λ _. refl)

abbrev pub flying_code : Coded Flying
flying_code =
    code_by (ℕ × (ℕ × (ℕ × List ℕ)))
    (coded× coded_ℕ (coded× coded_ℕ (coded× coded_ℕ (coded_list coded_ℕ))))
    (λ f. (f.id, (f.from, (f.to, f.bytes))))
    (λ p. record { id = p.0; from = p.1.0; to = p.1.1.0; bytes = p.1.1.1 })
    (λ _. refl)

abbrev pub radio_code : Coded RadioState
radio_code =
    code_by (ℕ × (Pairs × (Pairs × (List Flying × (ℕ × (ℕ × ℕ))))))
    (coded× coded_ℕ (coded× pairs_code (coded× pairs_code
    (coded× (coded_list flying_code) (coded× coded_ℕ (coded× coded_ℕ coded_ℕ))))))
    (λ r. (r.size, (r.links, (r.ever, (r.flying, (r.next_copy, (r.room, r.most)))))))
    (λ p. record {
      size = p.0;
      links = p.1.0;
      ever = p.1.1.0;
      flying = p.1.1.1.0;
      next_copy = p.1.1.1.1.0;
      room = p.1.1.1.1.1.0;
      most = p.1.1.1.1.1.1;
    })
    (λ _. refl)
