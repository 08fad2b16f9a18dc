-- The route requests that a node has seen: for each its originator and its id.
use Rattle.std.specs.Prelude.{◌≡◌, ◌<◌, ◌≤◌, ℕ, zero, suc, ◌+◌, ◌-◌, Bool, true, false, if◌then◌else◌, ◌||◌, ◌&&◌, nat_lt, List, [], ◌∷◌, ◌++◌, Option, Some, None, refl}
use Rattle.std.specs.Coded.{Coded, code_by, coded×, coded_list, coded_ℕ}
use Rattle.std.specs.FinSet as sets
use Rattle.aodv_model.specs.Cores.{SeenRequests, next_request_id}
use Rattle.aodv_model.specs.Codes.{pairs_code}

-- what is seen of them: the requests, and how many more ids of each node of the mesh there is room
-- for, whatever they are
pub record RoomySeen : Type 0 where
  pub pairs : SeenRequests
  pub rooms : List ℕ

-- a code, by which proofs tell such values apart
abbrev pub seen_code : Coded RoomySeen
seen_code =
    code_by (SeenRequests × List ℕ) (coded× pairs_code (coded_list coded_ℕ))
    (λ s. (s.pairs, s.rooms)) (λ p. record { pairs = p.0; rooms = p.1 }) (λ _. refl)

-- o's request with this id, with the one after it or with the one before it was seen
abbrev pub is_near : SeenRequests → ℕ → ℕ → Bool
is_near seen o id =
    sets.contains seen (o, id)
    || (sets.contains seen (o, id + 1) || (nat_lt 0 id && sets.contains seen (o, id - 1)))

-- the least id of o that was seen and isn't below `from`, if there is one
abbrev pub IsLeastIdFrom : SeenRequests → ℕ → ℕ → Option ℕ → Type 0
IsLeastIdFrom seen o from None = (id : ℕ) → from ≤ id → sets.contains seen (o, id) ≡ false
IsLeastIdFrom seen o from (Some least) =
    (from ≤ least)
    × (sets.contains seen (o, least) ≡ true)
    × ((id : ℕ) → from ≤ id → id < least → sets.contains seen (o, id) ≡ false)

-- o's ids below n that were seen, by rising id
unfoldable pub ids_below : ℕ → SeenRequests → ℕ → List ℕ
ids_below zero seen o = []
ids_below (suc n) seen o =
    if sets.contains seen (o, n) then ids_below n seen o ++ n ∷ [] else ids_below n seen o

-- all of o's ids that were seen, by rising id
abbrev pub ids_beside : SeenRequests → ℕ → List ℕ
ids_beside seen o = ids_below (next_request_id seen o) seen o
