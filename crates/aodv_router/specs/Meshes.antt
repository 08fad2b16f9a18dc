-- The mesh of some addresses, or why there is none.
use Rattle.std.specs.Prelude.{◌≡◌, ◌<◌, ◌==◌, ℕ, if◌then◌else◌, is_some, Result, Ok, Err, List, [], ◌∷◌, length}
use Rattle.mesh_base.specs.declared.limits.TheConstants.{MOST_NODES}
use Rattle.mesh_base.specs.Meshes.{Nodes, addr_at, first_at, index_of, with_node}
use Rattle.aodv_router.specs.declared.answers.NewError.{NewError}
use Rattle.aodv_router.specs.declared.answers.NewError.TheVariants as errors

-- one more address with its first number, or why it doesn't join the mesh
abbrev pub joined : Nodes → ℕ → ℕ → Result Nodes NewError
joined nodes a first =
    if is_some (index_of nodes a) then Err errors.Twice
    else if length nodes == MOST_NODES then Err errors.TooMany
    else Ok (with_node nodes a first)

-- what `next` makes of the mesh so far, or why there is none
abbrev pub joins_then : Result Nodes NewError → (Nodes → Result Nodes NewError)
    → Result Nodes NewError
joins_then (Ok nodes) next = next nodes
joins_then (Err why) next = Err why

-- the first number of an address: the router's own begins with the given one, and the others with 1
abbrev pub number_for : ℕ → ℕ → ℕ → ℕ
number_for me first a = if a == me then first else 1

-- each node has the first number of its address
abbrev pub AreNumbered : ℕ → ℕ → Nodes → Type 0
AreNumbered me first nodes =
    (i : ℕ) → i < length nodes → first_at nodes i ≡ number_for me first (addr_at nodes i)

-- the addresses join one after another, up to the first that can't
unfoldable pub all_joined : ℕ → ℕ → Nodes → List ℕ → Result Nodes NewError
all_joined me first nodes [] = Ok nodes
all_joined me first nodes (a ∷ rest) =
    joins_then (joined nodes a (number_for me first a)) (λ more. all_joined me first more rest)

-- the mesh, if the router's own address is in it
abbrev pub with_own : ℕ → Nodes → Result Nodes NewError
with_own me nodes = if is_some (index_of nodes me) then Ok nodes else Err errors.NotThere

-- the mesh of exactly these addresses, or the first reason why there is no router in it
unfoldable pub mesh_of : List ℕ → ℕ → ℕ → Result Nodes NewError
mesh_of addrs me first =
    if first == 0 then Err errors.ZeroNumber
    else joins_then (all_joined me first [] addrs) (with_own me)
