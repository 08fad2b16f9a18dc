-- The lists at the start, and what is read of them.
use Rattle.std.proofs.Common.{◌≡◌, ℕ, zero, suc, ◌+◌, ◌^◌, ◌<◌, ◌≤◌, List, [], ◌∷◌, map, length, Some, refl, sym, ap, subst, ◌∙◌, arith}
use Rattle.std.specs.Prelude.{slice_get, reverse}
use Rattle.std.specs.List.{AllByRecursion}
use Rattle.std.proofs.lemmas.List.{length-map, reverse-reverse}
use Rattle.std.specs.FinMap as maps
use Rattle.mesh_base.specs.Meshes.{Nodes, IsMesh, first_at}
use Rattle.mesh_base.specs.declared.events.Variant.{Variant}
use Rattle.aodv_model.specs.declared.entry.Entry.{Entry}
use Rattle.aodv_model.specs.declared.entry.Flag.TheVariants.{Val}
use Rattle.aodv_model.specs.Fullness.{greatest}
use Rattle.aodv_model.specs.Pairs.{Pairs}
use Rattle.aodv_node.specs.Seen.{NodeSeen}
use Rattle.mesh_model.specs.Trails.{IsHonestWalk}
use Rattle.mesh_model.specs.Walks.{rt_in, table}
use Rattle.mesh_model.specs.Worlds.{AreFirstNumbers, World, first_numbers, run, start}
use Rattle.mesh_world.specs.Seen.{WorldSeen, IsSoundWorld, node_in, opening}
use Rattle.mesh_model.specs.Kept.{nothing_kept}
use Rattle.mesh_model.specs.Held.{Holds}
use Rattle.mesh_model.proofs.Honest.{held_is_honest, start_holds}
use Rattle.mesh_trail.specs.Walks.{IsRouteWalk}
use Rattle.mesh_trail.specs.Lists.{IsBlank, list_in, row}
use Rattle.mesh_trail.specs.Trails.{AreWalks, kept_lists, queue_of, rows_of}
use Rattle.mesh_trail.specs.declared.lists.NodeLists.{NodeLists}
use Rattle.mesh_trail.specs.declared.casts.Cast.{Cast}
use Rattle.mesh_trail.proofs.Moves.{holds_so}

-- ---- the start

empty_row : (rows : List (List ℕ)) (d : ℕ) → AllByRecursion (λ l. l ≡ []) rows → row rows d ≡ []
empty_row [] d all = refl
empty_row (r ∷ rows) zero all = all.0
empty_row (r ∷ rows) (suc d) all = empty_row rows d all.1

blank_row : (size : ℕ) (nodes : List NodeLists) (x d : ℕ) → AllByRecursion (IsBlank size) nodes → row (rows_of (slice_get nodes x)) d ≡ []
blank_row size [] x d all = refl
blank_row size (n ∷ nodes) zero d all = empty_row (n.entries).items d (all.0).entries
blank_row size (n ∷ nodes) (suc x) d all = blank_row size nodes x d all.1

blank_queue : (size : ℕ) (nodes : List NodeLists) (x : ℕ) → AllByRecursion (IsBlank size) nodes → queue_of (slice_get nodes x) ≡ []
blank_queue size [] x all = refl
blank_queue size (n ∷ nodes) zero all = (all.0).queue
blank_queue size (n ∷ nodes) (suc x) all = blank_queue size nodes x all.1

counts : (size : ℕ) (nodes : List NodeLists) → AllByRecursion (IsBlank size) nodes → AllByRecursion (λ n. length (n.entries).items ≡ size) nodes
counts size [] all = tt
counts size (n ∷ nodes) all = ((all.0).count, counts size nodes all.1)

each_number : (rest : Nodes) → ((j : ℕ) → j < length rest → (1 ≤ first_at rest j) × (first_at rest j < 2 ^ 32)) → AllByRecursion (λ n. (1 ≤ n) × (n ≤ greatest)) (map (λ p. p.1) rest)
each_number [] all = tt
each_number (p ∷ rest) all = (let here = all 0 (omega arith) in let one = here.0 in let most = here.1 in (one, omega arith), each_number rest (λ j l. all (suc j) (omega arith)))

first_numbers_are : (mesh : Nodes) → IsMesh mesh → 1 ≤ length mesh → AreFirstNumbers (first_numbers mesh)
first_numbers_are mesh is some =
    let size = length-map mesh (λ (p : ℕ × ℕ). p.1) in
    let few = is.few in
    record { some = omega arith; few = omega arith; numbers = each_number mesh (λ j l. (is.positive j l, is.firsts j l)) }

none_flies : (v : Variant) (firsts : List ℕ) → (start v firsts).flying ≡ []
unfolding start
none_flies v firsts = refl

none_ran : (v : Variant) (firsts : List ℕ) → run (start v firsts) [] ≡ start v firsts
unfolding run
none_ran v firsts = refl

pub starts : (v : Variant) (mesh : Nodes) (w : WorldSeen) (nodes : List NodeLists) (casts : List Cast) (size : ℕ) → w ≡ opening v mesh → IsSoundWorld w → size ≡ length w.mesh → length nodes ≡ size → AllByRecursion (IsBlank size) nodes → casts ≡ [] → AreWalks w nodes casts
starts v mesh w nodes casts size is sound size_is count blank none =
    let firsts = first_numbers mesh in
    let world : w.world ≡ start v firsts = ap (λ (s : WorldSeen). s.world) is in
    let at : w.mesh ≡ mesh = ap (λ (s : WorldSeen). s.mesh) is in
    let still : (w.world).flying ≡ [] = ap (λ (u : World). u.flying) world ∙ none_flies v firsts in
    subst (AreWalks w nodes) (sym none) (record {
      sound = sound;
      variant = v;
      ran = record { firsts = firsts; events = []; numbers = first_numbers_are mesh (subst IsMesh at sound.mesh) (subst (λ (m : Nodes). 1 ≤ length m) at sound.some); is = world ∙ sym (none_ran v firsts) };
      holds = holds_so v w.world nothing_kept (kept_lists nodes []) (record {
        entries = λ x d. ap reverse (sym (blank_row size nodes x d blank));
        queues = λ x. ap (map reverse) (sym (blank_queue size nodes x blank));
        flying = subst (AllByRecursion _) (sym still) tt;
      }) (subst (λ (u : World). Holds v u nothing_kept) (sym world) (start_holds v firsts));
      count = count ∙ size_is;
      rows = subst (λ k. AllByRecursion (λ n. length (n.entries).items ≡ k) nodes) size_is (counts size nodes blank);
      covered = subst (AllByRecursion _) (sym still) tt;
      ends = omega arith;
    })

-- ---- what is read

honest_long : (ever : Pairs) (x d h : ℕ) (walk : List ℕ) → IsHonestWalk ever x d h walk → length walk ≡ h + 1
honest_long ever x d h [] is = absurd is
honest_long ever x d h (first ∷ others) is = let long = is.2 in omega arith

pub table_at : (w : World) (x : ℕ) (mesh : Nodes) (n : NodeSeen) (d : ℕ) (e : Entry) → slice_get w.nodes x ≡ Some (node_in mesh n) → Some e ≡ maps.get (n.core).rt d → maps.get (table w x) d ≡ Some e
table_at w x mesh n d e at is = ap (λ o. maps.get (rt_in o) d) at ∙ sym is

pub route_walk : (w : WorldSeen) (nodes : List NodeLists) (casts : List Cast) (x d : ℕ) (n : NodeLists) (l walk : List ℕ) (e : Entry) → AreWalks w nodes casts → slice_get nodes x ≡ Some n → slice_get (n.entries).items d ≡ Some l → walk ≡ l
    → maps.get (table w.world x) d ≡ Some e → e.flag ≡ Val → IsRouteWalk w.world x d walk
route_walk w nodes casts x d n l walk e t at here same there valid =
    let is : reverse (reverse (row (rows_of (slice_get nodes x)) d)) ≡ walk = reverse-reverse (row (rows_of (slice_get nodes x)) d) ∙ ap (λ o. row (rows_of o) d) at ∙ ap list_in here ∙ sym same in
    let h = held_is_honest t.variant w.world (kept_lists nodes casts) x d e t.holds there valid in
    record { entry = e; there = there; valid = valid; honest = subst (IsHonestWalk (w.world).ever x d e.hops) is h.0; few = h.1 }

pub route_short : (w : WorldSeen) (x d : ℕ) (walk : List ℕ) → IsSoundWorld w → IsRouteWalk w.world x d walk → length walk ≤ length w.mesh + 1
route_short w x d walk s r = let long = honest_long (w.world).ever x d (r.entry).hops walk r.honest in let few = r.few in let count = s.count in omega arith
