-- The state that is made of the parts of a body has that body.
use Rattle.std.proofs.Common.{◌≡◌, ℕ, ◌+◌, ◌<◌, ◌≤◌, Bool, true, List, [], ◌∷◌, length, map, Option, Some, None, refl, sym, ap, subst, ◌∙◌, arith}
use Rattle.std.specs.Prelude.{IfSome, nat_le, nat_lt, ◌&&◌, option_map}
use Rattle.std.specs.Option.{ForSome, unwrap_or}
use Rattle.std.specs.List.{AllByRecursion}
use Rattle.std.proofs.lemmas.Bool.{and_parts, ltb-true}
use Rattle.std.proofs.lemmas.List.{length-map}
use Rattle.std.proofs.lemmas.Option.{same_Some}
use Rattle.mesh_base.specs.declared.limits.TheConstants.{MOST_NODES}
use Rattle.mesh_base.specs.Meshes.{Nodes}
use Rattle.mesh_base.specs.declared.events.Variant.{Variant}
use Rattle.aodv_node.specs.Seen.{NodeSeen}
use Rattle.mesh_model.specs.Worlds as worlds
use Rattle.mesh_radio.specs.Radios.{RadioState}
use Rattle.mesh_world.specs.Kept.{world_in}
use Rattle.mesh_world.specs.Seen.{WorldSeen, node_in, most_data_at_first}
use Rattle.mesh_text.specs.Schedule.{RunState, Sums}
use Rattle.mesh_text.specs.Accounts as accounts
use Rattle.mesh_run.specs.RunStates as run_states
use Rattle.mesh_model.specs.InMesh.{IsInMesh}
use Rattle.mesh_run.specs.RunStates.{AreOfVariant, IsSafe, IsSafeWorld, run_state_seen}
use Rattle.mesh_checkpoint.specs.declared.body.Head.{Head}
use Rattle.mesh_checkpoint.specs.declared.limits.TheConstants.{SUMS_END, MOST_STEPS}
use Rattle.mesh_checkpoint.specs.Formats.{◌>>=◌, is_from, rising, fits_maybe}
use Rattle.mesh_checkpoint.specs.Checkpoint as model
use Rattle.mesh_checkpoint.specs.Checkpoint.{World, Body, has_nodes}
use Rattle.mesh_checkpoint.specs.Counts.{data_in, IsBalanced}
use Rattle.mesh_checkpoint.specs.Points.{body_of}
use Rattle.mesh_checkpoint.proofs.Formats.{bind_some}
use Rattle.mesh_load.specs.declared.error.StateError.{StateError}
use Rattle.mesh_load.specs.declared.error.StateError.TheVariants as errors
use Rattle.mesh_load.specs.RunStates.{IsPlainWorld, HasPlainWorld, IsPlainRunState}
use Rattle.mesh_load.specs.Nodes.{AllFrom, IsSoundNodeAt}
use Rattle.mesh_load.specs.Parts.{IsMade, IsRefusalOf, IsFitting, IsMaybeWorldFrom, IsUnsoundIfWorld, IsBody, sums_in, IsUnsoundBody, IsRunStateOf}
use Rattle.mesh_load.proofs.Amounts.{AreSumsOf, balanced_made, balanced_unmade}
use Rattle.mesh_load.proofs.Bodies.{IsWorldOf, body_again, body_without_world}
use Rattle.mesh_load.proofs.Sound.{none_unsound_if}
use Rattle.mesh_load.proofs.RunStates.{plain_in}
use Rattle.mesh_load.proofs.WorldParts.{world_ranges}
use Rattle.mesh_load.proofs.BodyParts.{read_maybe, as_body, body_at}

abbrev body_with : Head → Nodes → Option World → Body
body_with head nodes world = record { head = head; mesh = nodes; world = world }

-- the body of these bytes has this head and these nodes, and s is behind them
pub record HasParts (bytes s : List ℕ) (head : Head) (nodes : Nodes) : Type 0 where
  pub world : Option World
  pub body_is : model.body.get bytes ≡ Some (record { head = head; mesh = nodes; world = world }, [])
  pub world_read : read_maybe nodes s ≡ Some (world, [])
  pub behind : model.body.get bytes ≡ (read_maybe nodes s >>= as_body head nodes)
  pub fits : model.body.fits (record { head = head; mesh = nodes; world = world }) ≡ true
  pub balanced : IsBalanced (record { head = head; mesh = nodes; world = world })
  pub few : data_in world < most_data_at_first

pub has_parts : (bytes r s : List ℕ) (head : Head) (nodes : Nodes) → IsBody bytes → model.head.get bytes ≡ Some (head, r) → model.mesh.get r ≡ Some (nodes, s) → HasParts bytes s head nodes
has_parts bytes r s head nodes b one two =
    let x = bind_some (read_maybe nodes s) (as_body head nodes) (b.found, []) (sym (body_at bytes r s head nodes one two) ∙ b.read_is) in
    let both = same_Some (body_with head nodes x.0.0, x.0.1) (b.found, []) x.2 in
    let found : b.found ≡ body_with head nodes x.0.0 = sym (ap (λ (p : Body × List ℕ). p.0) both) in
    let none : x.0.1 ≡ [] = ap (λ (p : Body × List ℕ). p.1) both in
    record {
      world = x.0.0;
      body_is = b.read_is ∙ ap (λ (y : Body). Some (y, [])) found;
      world_read = x.1 ∙ ap (λ (l : List ℕ). Some (x.0.0, l)) none;
      behind = body_at bytes r s head nodes one two;
      fits = subst (λ (y : Body). model.body.fits y ≡ true) found b.fits;
      balanced = subst IsBalanced found b.balanced;
      few = subst (λ (y : Body). data_in y.world < most_data_at_first) found b.few;
    }

-- ---- numbers

below : (end n : ℕ) → is_from 0 end n ≡ true → n < end
below end n is = ltb-true n end (and_parts (nat_le 0 n) (nat_lt n end) is).1

-- the numbers of a body are in the table's ranges
pub body_ranges : (head : Head) (nodes : Nodes) (world : Option World) → model.body.fits (body_with head nodes world) ≡ true → (is_from 0 (MOST_NODES + 1) (length nodes) ≡ true) × (fits_maybe (has_nodes nodes) (model.world (length nodes)).fits world ≡ true)
body_ranges head nodes world fits =
    let of_world : Bool = fits_maybe (has_nodes nodes) (model.world (length nodes)).fits world in
    let all = and_parts (model.head.fits head) (model.mesh.fits nodes && of_world) fits in
    let behind = and_parts (model.mesh.fits nodes) of_world all.1 in
    let count = and_parts (is_from 0 (MOST_NODES + 1) (length nodes)) ((rising (λ p. p.0) model.station (length nodes)).fits nodes) behind.0 in
    (count.0, behind.1)

few_mesh : (bytes s : List ℕ) (head : Head) (nodes : Nodes) → HasParts bytes s head nodes → length nodes ≤ MOST_NODES
few_mesh bytes s head nodes p =
    let lt = below (MOST_NODES + 1) (length nodes) (body_ranges head nodes p.world p.fits).0 in
    omega (arith, lt)

few_nodes : (bytes s : List ℕ) (head : Head) (nodes : Nodes) → HasParts bytes s head nodes → length nodes ≤ 256
few_nodes bytes s head nodes p = omega (arith, few_mesh bytes s head nodes p)

fitting_world : (nodes : Nodes) (world : Option World) → fits_maybe (has_nodes nodes) (model.world (length nodes)).fits world ≡ true → data_in world < most_data_at_first → IfSome world (IsFitting (length nodes))
fitting_world nodes None fits few = tt
fitting_world nodes (Some w) fits few = record { fits = (and_parts (has_nodes nodes) ((model.world (length nodes)).fits w) fits).1; few = few }

fits_world : (bytes s : List ℕ) (head : Head) (nodes : Nodes) (p : HasParts bytes s head nodes) → IfSome p.world (IsFitting (length nodes))
fits_world bytes s head nodes p = fitting_world nodes p.world (body_ranges head nodes p.world p.fits).1 p.few

-- what is read behind the nodes is as it should be
pub fitting_read : (bytes s : List ℕ) (head : Head) (nodes : Nodes) → HasParts bytes s head nodes → IfSome (read_maybe nodes s) (λ x. IfSome x.0 (IsFitting (length nodes)))
fitting_read bytes s head nodes p =
    subst (λ (o : Option (Option World × List ℕ)). IfSome o (λ x. IfSome x.0 (IsFitting (length nodes)))) (sym p.world_read) (fits_world bytes s head nodes p)

-- ---- where the world is refused

pub refused : (bytes s : List ℕ) (head : Head) (nodes : Nodes) (e : StateError) → HasParts bytes s head nodes → IsRefusalOf (IsUnsoundIfWorld nodes head.variant) (read_maybe nodes s) e → IsRefusalOf IsUnsoundBody (model.body.get bytes) e
refused bytes s head nodes errors.NotState p told = told
refused bytes s head nodes errors.Length p told = told
refused bytes s head nodes errors.Spelling p told = p.behind ∙ rw told refl
refused bytes s head nodes errors.Sums p told = told
refused bytes s head nodes (errors.Unsound part) p told = λ x end whole.
    let same : body_with head nodes p.world ≡ x = ap (λ (q : Body × List ℕ). q.0) (same_Some (body_with head nodes p.world, []) (x, end) (sym p.body_is ∙ whole)) in
    subst (λ (y : Body). IsUnsoundBody y part) same (told p.world [] p.world_read)
refused bytes s head nodes errors.NoMemory p told = tt

-- ---- where the world was made

pub made_of : (nodes : Nodes) (variant : Variant) (s : List ℕ) (world : Option World) (seen : Option WorldSeen) → read_maybe nodes s ≡ Some (world, []) → IsMade (IsMaybeWorldFrom nodes variant) (read_maybe nodes s) seen → IsMaybeWorldFrom nodes variant world seen
made_of nodes variant s world seen is m =
    let same : m.found ≡ world = ap (λ (q : Option World × List ℕ). q.0) (same_Some (m.found, m.rest) (world, []) (sym m.read_is ∙ is)) in
    subst (λ (o : Option World). IsMaybeWorldFrom nodes variant o seen) same m.made

of_variant : (mesh : Nodes) (variant : Variant) (size x : ℕ) (ns : List NodeSeen) → AllFrom (IsSoundNodeAt variant size) x ns → AllByRecursion (λ (n : worlds.Node). (n.core).variant ≡ variant) (map (node_in mesh) ns)
of_variant mesh variant size x [] all = tt
of_variant mesh variant size x (n ∷ ns) all = (((all.0).0).variant_is, of_variant mesh variant size (x + 1) ns all.1)

world_of_variant : (mesh : Nodes) (variant : Variant) (nodes : List NodeSeen) (radio : RadioState) → AllFrom (IsSoundNodeAt variant (length mesh)) 0 nodes → AreOfVariant variant (world_in mesh nodes radio)
unfolding world_in
world_of_variant mesh variant nodes radio all = of_variant mesh variant (length mesh) 0 nodes all

fits_seen : (mesh : Nodes) (variant : Variant) (world : Option World) (seen : Option WorldSeen) → IsMaybeWorldFrom mesh variant world seen → IfSome seen (run_states.IsWorldOf variant mesh)
fits_seen mesh variant None None is = tt
fits_seen mesh variant (Some w) None is = tt
fits_seen mesh variant None (Some seen) is = absurd is
fits_seen mesh variant (Some w) (Some seen) is =
    subst (λ (s : WorldSeen). run_states.IsWorldOf variant mesh s) (sym is.seen_is) (record { mesh = refl; variant = world_of_variant mesh variant is.nodes is.radio (is.listed_are).each })

-- the world is of the mesh and the variant
pub fits_point : (bytes s : List ℕ) (head : Head) (nodes : Nodes) (seen : Option WorldSeen) → HasParts bytes s head nodes → IsMade (IsMaybeWorldFrom nodes head.variant) (read_maybe nodes s) seen → ForSome seen (run_states.IsWorldOf head.variant nodes)
fits_point bytes s head nodes seen p m = λ w there.
    subst (λ (o : Option WorldSeen). IfSome o (run_states.IsWorldOf head.variant nodes)) there (fits_seen nodes head.variant p.world seen (made_of nodes head.variant s p.world seen p.world_read m))

sums_are : (head : Head) → AreSumsOf head (sums_in head)
sums_are head = record { given = refl; delivered = refl; lost = refl; copied = refl }

balanced_with : (head : Head) (mesh : Nodes) (world : Option World) (seen : Option WorldSeen) → IsBalanced (body_with head mesh world) → IsMaybeWorldFrom mesh head.variant world seen → accounts.IsBalanced (run_state_seen head.variant mesh seen (sums_in head) head.lines)
balanced_with head mesh None None balanced is = balanced_unmade (body_with head mesh None) head.variant mesh (sums_in head) head.lines balanced (sums_are head) refl
balanced_with head mesh (Some w) None balanced is = absurd is
balanced_with head mesh None (Some seen) balanced is = absurd is
balanced_with head mesh (Some w) (Some seen) balanced is =
    subst (λ (s : WorldSeen). accounts.IsBalanced (run_state_seen head.variant mesh (Some s) (sums_in head) head.lines)) (sym is.seen_is)
    (balanced_made (body_with head mesh (Some w)) head.variant mesh is.nodes is.radio w.steps (sums_in head) head.lines w balanced (sums_are head) refl is.data_are)

-- the account of the state is balanced
pub balanced_point : (bytes s : List ℕ) (head : Head) (nodes : Nodes) (seen : Option WorldSeen) (sums : Sums) → HasParts bytes s head nodes → IsMade (IsMaybeWorldFrom nodes head.variant) (read_maybe nodes s) seen → sums ≡ sums_in head
    → accounts.IsBalanced (run_state_seen head.variant nodes seen sums head.lines)
balanced_point bytes s head nodes seen sums p m are =
    subst (λ (t : Sums). accounts.IsBalanced (run_state_seen head.variant nodes seen t head.lines)) (sym are)
    (balanced_with head nodes p.world seen p.balanced (made_of nodes head.variant s p.world seen p.world_read m))

body_with_seen : (head : Head) (mesh : Nodes) (world : Option World) (seen : Option WorldSeen) → IsMaybeWorldFrom mesh head.variant world seen → body_of (run_state_seen head.variant mesh seen (sums_in head) head.lines) ≡ body_with head mesh world
body_with_seen head mesh None None is = body_without_world mesh (sums_in head) head.lines head.variant (body_with head mesh None) refl refl refl
body_with_seen head mesh (Some w) None is = absurd is
body_with_seen head mesh None (Some seen) is = absurd is
body_with_seen head mesh (Some w) (Some seen) is =
    let world_is : IsWorldOf is.nodes is.radio w.steps w = record { steps_are = refl; nodes_are = (is.listed_are).lists_are; links_are = is.links_are; next_is = is.next_is; copies_are = is.copies_are } in
    subst (λ (s : WorldSeen). body_of (run_state_seen head.variant mesh (Some s) (sums_in head) head.lines) ≡ body_with head mesh (Some w)) (sym is.seen_is)
    (body_again mesh is.nodes is.radio w.steps (sums_in head) head.lines head.variant (body_with head mesh (Some w)) w refl refl refl world_is (is.in_place).written)

few_steps : (mesh : Nodes) (variant : Variant) (world : Option World) (seen : Option WorldSeen) → IfSome world (IsFitting (length mesh)) → IsMaybeWorldFrom mesh variant world seen → unwrap_or (option_map (λ (w : WorldSeen). w.steps) seen) 0 ≤ MOST_STEPS
few_steps mesh variant None None fit is = omega arith
few_steps mesh variant (Some w) None fit is = absurd is
few_steps mesh variant None (Some seen) fit is = absurd is
few_steps mesh variant (Some w) (Some seen) fit is =
    let lt = below (MOST_STEPS + 1) w.steps (world_ranges (length mesh) w fit.fits).0 in
    let same : seen.steps ≡ w.steps = ap (λ (s : WorldSeen). s.steps) is.seen_is in
    omega (arith, lt, same)

-- the world's messages are what their packets mean, and all that it names is in its mesh
plain_seen : (mesh : Nodes) (variant : Variant) (world : Option World) (seen : Option WorldSeen) → length mesh ≤ MOST_NODES → IsMaybeWorldFrom mesh variant world seen → IfSome (option_map (λ (w : WorldSeen). w.world) seen) IsSafeWorld
    → HasPlainWorld variant mesh (unwrap_or (option_map (λ (w : WorldSeen). w.steps) seen) 0) (option_map (λ (w : WorldSeen). w.world) seen)
unfolding world_in
plain_seen mesh variant None None few is safe = refl
plain_seen mesh variant (Some w) None few is safe = absurd is
plain_seen mesh variant None (Some seen) few is safe = absurd is
plain_seen mesh variant (Some w) (Some seen) few is safe =
    let made : worlds.World = world_in mesh is.nodes is.radio in
    let same : seen.world ≡ made = ap (λ (s : WorldSeen). s.world) is.seen_is in
    let count : length (map (node_in mesh) is.nodes) ≡ length is.nodes = length-map is.nodes (node_in mesh) in
    subst (IsPlainWorld variant mesh) (sym same) (record {
      in_mesh = subst IsInMesh same ((safe.invariant).in_mesh);
      few = omega (arith, count, is.count, few);
      variant_is = world_of_variant mesh variant is.nodes is.radio (is.listed_are).each;
      plain = plain_in mesh is.nodes is.radio (is.in_place).written;
    })

-- the state has the body that was read
pub point_made : (bytes s : List ℕ) (head : Head) (nodes : Nodes) (seen : Option WorldSeen) (sums : Sums) (m : RunState) → HasParts bytes s head nodes → IsMade (IsMaybeWorldFrom nodes head.variant) (read_maybe nodes s) seen → sums ≡ sums_in head → head.lines < SUMS_END
    → m ≡ run_state_seen head.variant nodes seen sums head.lines → IsSafe m → IsMade IsRunStateOf (model.body.get bytes) m
point_made bytes s head nodes seen sums m p made are few is safe =
    let world_is : IsMaybeWorldFrom nodes head.variant p.world seen = made_of nodes head.variant s p.world seen p.world_read made in
    let run_state : m ≡ run_state_seen head.variant nodes seen (sums_in head) head.lines = is ∙ ap (λ (t : Sums). run_state_seen head.variant nodes seen t head.lines) are in
    record {
      found = body_with head nodes p.world;
      rest = [];
      read_is = p.body_is;
      made = record {
        body_is = ap body_of run_state ∙ body_with_seen head nodes p.world seen world_is;
        plain =
            let there = subst (λ (k : RunState). IfSome k.world IsSafeWorld) is safe.world in
            subst IsPlainRunState (sym is) (plain_seen nodes head.variant p.world seen (few_mesh bytes s head nodes p) world_is there);
        sound = λ part. none_unsound_if nodes head.variant p.world seen part (few_nodes bytes s head nodes p) world_is;
        lines = rw is few;
        steps = rw is (few_steps nodes head.variant p.world seen (fits_world bytes s head nodes p) world_is);
      };
    }
