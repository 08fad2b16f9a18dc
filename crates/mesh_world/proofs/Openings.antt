-- The opening world.
use Rattle.std.proofs.Common.{◌≡◌, ℕ, ◌<◌, ◌≤◌, ◌+◌, List, [], ◌∷◌, ◌++◌, map, length, refl, ap, sym, subst, ◌∙◌, suc, arith}
use Rattle.std.specs.List.{AllByRecursion}
use Rattle.std.proofs.lemmas.List.{length-map, length_push}
use Rattle.mesh_base.specs.Meshes.{Nodes, IsMesh, first_at}
use Rattle.mesh_base.specs.declared.events.Variant.{Variant}
use Rattle.aodv_model.specs.Cores.{Core}
use Rattle.aodv_model.specs.Cores as cores
use Rattle.aodv_meaning.specs.Effects.{item_in}
use Rattle.aodv_node.specs.Seen.{NodeSeen}
use Rattle.aodv_node.proofs.Keeps.{opened}
use Rattle.mesh_model.specs.Worlds.{World, start, openings, first_numbers}
use Rattle.mesh_model.proofs.MeshSteps.{start_keeps}
use Rattle.mesh_model.proofs.AccountSteps.{start_empty}
use Rattle.mesh_model.proofs.Acyclic.{no_cycle, better_along}
use Rattle.mesh_radio.specs.Radios.{RadioState}
use Rattle.mesh_radio.specs.Radios as radios
use Rattle.mesh_meaning.specs.Packets.{IsWrittenItem}
use Rattle.mesh_world.specs.Seen.{WorldSeen, IsSoundWorld, node_in}
use Rattle.mesh_model.specs.Accounts.{any}
use Rattle.mesh_world.specs.Seen as worlds
use Rattle.mesh_world.specs.Kept.{Ready, IsKept, IsKeptNode, world_in, seen_of}
use Rattle.mesh_world.specs.Noted.{none_ready}
use Rattle.mesh_world.specs.Parts.{IsOpened, AreOpened}
use Rattle.mesh_world.proofs.ReadySets.{HasNothing, opening_ready}

-- ---- one node after the other

pub opened_push : (v : Variant) (mesh : Nodes) (me : ℕ) (ns : List NodeSeen) (n : NodeSeen) → AreOpened v mesh me ns → IsOpened v mesh (me + length ns) n → AreOpened v mesh me (ns ++ n ∷ [])
opened_push v mesh me [] n all is = let e : me + 0 ≡ me = omega arith in (subst (λ (x : ℕ). IsOpened v mesh x n) e is, tt)
opened_push v mesh me (m ∷ ns) n all is =
    let e : me + suc (length ns) ≡ (me + 1) + length ns = omega arith in
    (all.0, opened_push v mesh (me + 1) ns n all.1 (subst (λ (x : ℕ). IsOpened v mesh x n) e is))

-- ---- what the nodes are

opened_node : (v : Variant) (mesh : Nodes) (me first : ℕ) (n : NodeSeen) → IsOpened v mesh me n → first_at mesh me ≡ first → node_in mesh n ≡ record { core = cores.opening v me first; queue = [] }
opened_node v mesh me first n is e = λ i. record { core = (is.core ∙ ap (cores.opening v me) e) i; queue = ap (map (item_in mesh)) is.items i }

-- the rest of the mesh has the first numbers of the nodes from `me` on
abbrev IsRest : Nodes → ℕ → Nodes → Type 0
IsRest mesh me rest = (j : ℕ) → j < length rest → first_at mesh (me + j) ≡ first_at rest j

first_of : (mesh : Nodes) (me : ℕ) (p : ℕ × ℕ) (rest : Nodes) → IsRest mesh me (p ∷ rest) → first_at mesh me ≡ p.1
first_of mesh me p rest is = let e : me ≡ me + 0 = omega arith in ap (first_at mesh) e ∙ is 0 (omega arith)

rest_of : (mesh : Nodes) (me : ℕ) (p : ℕ × ℕ) (rest : Nodes) → IsRest mesh me (p ∷ rest) → IsRest mesh (me + 1) rest
rest_of mesh me p rest is j l = let e : me + 1 + j ≡ me + suc j = omega arith in ap (first_at mesh) e ∙ is (suc j) (omega arith)

nodes_open : (v : Variant) (mesh : Nodes) (me : ℕ) (rest : Nodes) (ns : List NodeSeen) → length ns ≡ length rest → IsRest mesh me rest → AreOpened v mesh me ns → map (node_in mesh) ns ≡ openings v me (map (λ p. p.1) rest)
nodes_open v mesh me [] [] size is all = refl
nodes_open v mesh me [] (n ∷ ns) size is all = absurd (let s = size in omega arith)
nodes_open v mesh me (p ∷ rest) [] size is all = absurd (let s = size in omega arith)
nodes_open v mesh me (p ∷ rest) (n ∷ ns) size is all =
    let head = opened_node v mesh me p.1 n all.0 (first_of mesh me p rest is) in
    let tail = nodes_open v mesh (me + 1) rest ns (omega (arith, size)) (rest_of mesh me p rest is) all.1 in
    λ i. head i ∷ tail i

positive : (rest : Nodes) → ((j : ℕ) → j < length rest → 1 ≤ first_at rest j) → AllByRecursion (λ n. 1 ≤ n) (map (λ p. p.1) rest)
positive [] all = tt
positive (p ∷ rest) all = (all 0 (omega arith), positive rest (λ j l. all (suc j) (omega arith)))

each_kept : (v : Variant) (mesh : Nodes) (me : ℕ) (ns : List NodeSeen) → IsMesh mesh → me + length ns ≤ length mesh → AreOpened v mesh me ns → AllByRecursion (IsKeptNode mesh) ns
each_kept v mesh me [] is le all = tt
each_kept v mesh me (n ∷ ns) is le all =
    let o : IsOpened v mesh me n = all.0 in
    let l : me < length mesh = omega (arith, le) in (
      record {
        items = subst (AllByRecursion (IsWrittenItem mesh)) (sym o.items) tt;
        size = o.size;
        sound = opened n v me (first_at mesh me) (subst (λ (k : ℕ). me < k) (sym o.size) l) (is.positive me l) o.core o.items;
      },
      each_kept v mesh (me + 1) ns is (omega (arith, le)) all.1,
    )

nothing : (v : Variant) (mesh : Nodes) (me : ℕ) (ns : List NodeSeen) → AreOpened v mesh me ns → AllByRecursion HasNothing ns
nothing v mesh me [] all = tt
nothing v mesh me (n ∷ ns) all = (record { items = (all.0).items; store = ap (λ (c : Core). c.store) (all.0).core }, nothing v mesh (me + 1) ns all.1)

-- ---- the world

world_opens : (v : Variant) (mesh : Nodes) (nodes : List NodeSeen) (size : ℕ) → length nodes ≡ length mesh → AreOpened v mesh 0 nodes → world_in mesh nodes (radios.opening size) ≡ start v (first_numbers mesh)
unfolding world_in start
world_opens v mesh nodes size count all =
    let ns : map (node_in mesh) nodes ≡ openings v 0 (map (λ p. p.1) mesh) = nodes_open v mesh 0 mesh nodes count (λ j l. let e : 0 + j ≡ j = omega arith in ap (first_at mesh) e) all in
    λ i. record { nodes = ns i; links = (radios.opening size).links; ever = (radios.opening size).ever; flying = []; next_copy = 1 }

pub sound_opening : (v : Variant) (mesh : Nodes) → IsMesh mesh → 1 ≤ length mesh → length (start v (first_numbers mesh)).nodes ≡ length mesh → IsSoundWorld (worlds.opening v mesh)
sound_opening v mesh is some count =
    let kept = start_keeps v (first_numbers mesh) (positive mesh is.positive) in
    let none = start_empty any v (first_numbers mesh) in
    record {
      mesh = is;
      some = some;
      count = count;
      invariant = kept;
      acyclic = λ d. no_cycle (start v (first_numbers mesh)) d kept.loop_safe;
      better = λ d x y edge e apart there valid. better_along (start v (first_numbers mesh)) d x y edge e kept.loop_safe apart there valid;
      few = omega arith;
      steps = omega arith;
    }

count_opens : (mesh : Nodes) (nodes : List NodeSeen) (size : ℕ) → length nodes ≡ length mesh → length (world_in mesh nodes (radios.opening size)).nodes ≡ length mesh
unfolding world_in
count_opens mesh nodes size count = length-map nodes (node_in mesh) ∙ count

pub seen_opening : (v : Variant) (mesh : Nodes) (nodes : List NodeSeen) (radio : RadioState) → radio ≡ radios.opening (length mesh) → length nodes ≡ length mesh → AreOpened v mesh 0 nodes → seen_of mesh nodes radio 0 ≡ worlds.opening v mesh
seen_opening v mesh nodes radio is count all = λ i. record { mesh = mesh; world = (ap (world_in mesh nodes) is ∙ world_opens v mesh nodes (length mesh) count all) i; steps = 0 }

pub kept_opening : (v : Variant) (mesh : Nodes) (nodes : List NodeSeen) (radio : RadioState) (ready : Ready) → IsMesh mesh → 1 ≤ length mesh → radio ≡ radios.opening (length mesh) → ready ≡ none_ready → length nodes ≡ length mesh → AreOpened v mesh 0 nodes
    → IsKept mesh nodes radio ready 0
kept_opening v mesh nodes radio ready is some radio_is ready_is count all =
    let seen : seen_of mesh nodes (radios.opening (length mesh)) 0 ≡ worlds.opening v mesh = seen_opening v mesh nodes (radios.opening (length mesh)) refl count all in
    let counted : length (start v (first_numbers mesh)).nodes ≡ length mesh =
    subst (λ (w : World). length w.nodes ≡ length mesh) (world_opens v mesh nodes (length mesh) count all) (count_opens mesh nodes (length mesh) count) in
    let here : IsKept mesh nodes (radios.opening (length mesh)) none_ready 0 = record {
      sound = subst IsSoundWorld (sym seen) (sound_opening v mesh is some counted);
      each = each_kept v mesh 0 nodes is (omega arith) all;
      flying = tt;
      size = refl;
      numbers = omega arith;
      sets = opening_ready mesh nodes (nothing v mesh 0 nodes all);
    } in
    subst (λ (r : RadioState). IsKept mesh nodes r ready 0) (sym radio_is) (subst (λ (r : Ready). IsKept mesh nodes (radios.opening (length mesh)) r 0) (sym ready_is) here)

-- the nodes with one more at the back
pub record Opens (v : Variant) (mesh : Nodes) (next : ℕ) (nodes : List NodeSeen) : Type 0 where
  pub count : length nodes ≡ next
  pub opened : AreOpened v mesh 0 nodes

pub opens_more : (v : Variant) (mesh : Nodes) (i : ℕ) (nodes nodes' : List NodeSeen) (n : NodeSeen) → nodes' ≡ nodes ++ n ∷ [] → length nodes ≡ i → AreOpened v mesh 0 nodes → n.core ≡ cores.opening v i (first_at mesh i) → n.items ≡ [] → n.size ≡ length mesh
    → Opens v mesh (i + 1) nodes'
opens_more v mesh i nodes nodes' n is count all core items size =
    let here : i ≡ 0 + length nodes = omega arith in
    let one : IsOpened v mesh i n = record { core = core; items = items; size = size } in
    record {
      count = ap length is ∙ length_push nodes n ∙ ap (λ k. k + 1) count;
      opened = subst (AreOpened v mesh 0) (sym is) (opened_push v mesh 0 nodes n all (subst (λ (x : ℕ). IsOpened v mesh x n) here one));
    }

-- a world that is made with a copy of the mesh
pub record Made (v : Variant) (mesh copy : Nodes) (nodes : List NodeSeen) (radio : RadioState) (ready : Ready) : Type 0 where
  pub kept : IsKept copy nodes radio ready 0
  pub seen : seen_of copy nodes radio 0 ≡ worlds.opening v mesh

pub made : (v : Variant) (mesh copy : Nodes) (nodes : List NodeSeen) (radio : RadioState) (ready : Ready) (size : ℕ) → IsMesh mesh → 1 ≤ length mesh → copy ≡ mesh → size ≡ length mesh → radio ≡ radios.opening size → ready ≡ none_ready → length nodes ≡ length mesh → AreOpened v mesh 0 nodes
    → Made v mesh copy nodes radio ready
made v mesh copy nodes radio ready size is some same size_is radio_is ready_is count all =
    let opens : radio ≡ radios.opening (length mesh) = radio_is ∙ ap radios.opening size_is in
    subst (λ (m : Nodes). Made v mesh m nodes radio ready) (sym same)
    (record { kept = kept_opening v mesh nodes radio ready is some opens ready_is count all; seen = seen_opening v mesh nodes radio opens count all })
