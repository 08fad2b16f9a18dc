-- The requests that a node has seen, by their originators.
use Rattle.std.specs.Prelude.{◌≡◌, ◌<◌, ◌^◌, ℕ, true, List, map}
use Rattle.std.specs.FinSet as sets
use Rattle.aodv_model.specs.Cores.{SeenRequests}
use Rattle.aodv_asked.specs.Requests.{ids_beside}

-- the requests of an originator, by rising id
abbrev pub requests_of : SeenRequests → ℕ → List (ℕ × ℕ)
requests_of seen o = map (λ id. (o, id)) (ids_beside seen o)

-- each request is of a node of a mesh of this size, and its id is a number of 32 bits
abbrev pub AreRequestsOf : ℕ → SeenRequests → Type 0
AreRequestsOf size seen =
    (p : ℕ × ℕ) → sets.contains seen p ≡ true → (p.0 < size) × (p.1 < 2 ^ 32)
