-- The parts of a world, one after another.
use Rattle.std.proofs.Common.{◌≡◌, ◌≢◌, ℕ, zero, suc, ◌+◌, ◌<◌, Bool, true, false, List, [], ◌∷◌, length, Option, Some, None, refl, sym, ap, subst, ◌∙◌, arith, inl, inr, ◌⊎◌}
use Rattle.std.specs.Prelude.{IfSome, ◌&&◌, ◌==◌}
use Rattle.std.specs.Int.{w64}
use Rattle.std.specs.List.{AllByRecursion}
use Rattle.std.proofs.lemmas.Bool.{and_parts}
use Rattle.std.proofs.lemmas.List.{length-map}
use Rattle.std.proofs.lemmas.Option.{none-some, same_Some, slice_get_within}
use Rattle.mesh_base.specs.Meshes.{Nodes}
use Rattle.mesh_base.specs.declared.events.Flying.{Flying}
use Rattle.mesh_base.specs.declared.events.Variant.{Variant}
use Rattle.aodv_node.specs.Seen.{NodeSeen}
use Rattle.aodv_node.specs.Restored.{HasItemsAt}
use Rattle.mesh_radio.specs.Copies.{IsBetween}
use Rattle.mesh_radio.specs.Radios.{RadioState}
use Rattle.mesh_world.specs.Kept.{seen_of, world_in}
use Rattle.mesh_world.specs.Seen.{WorldSeen, data_of, most_data_at_first}
use Rattle.mesh_world.specs.Restored.{AreNodesOf, AreWritten, AreSoundParts, IsFirstPart}
use Rattle.mesh_world.specs.declared.restored.Part.{Part}
use Rattle.mesh_world.specs.declared.restored.Part.TheVariants as parts
use Rattle.mesh_checkpoint.specs.declared.limits.TheConstants.{MOST_STEPS, GREATEST_NEXT_ID}
use Rattle.mesh_checkpoint.specs.Formats.{◌>>=◌, get_times, number_at, number, times, is_from, all_fit}
use Rattle.mesh_checkpoint.specs.Checkpoint as model
use Rattle.mesh_checkpoint.specs.Checkpoint.{Node, World}
use Rattle.mesh_checkpoint.specs.Counts.{data_in_world}
use Rattle.mesh_checkpoint.specs.Points.{links_of}
use Rattle.mesh_checkpoint.specs.Seen.{listed_node}
use Rattle.mesh_checkpoint.proofs.Formats.{bind_some}
use Rattle.mesh_restore.specs.RadioParts.{RadioPart, radio_part, IsRadioPartRead}
use Rattle.mesh_restore.specs.Reading.{Refuses}
use Rattle.mesh_restore.specs.declared.error.ReadError.{ReadError}
use Rattle.mesh_restore.specs.declared.error.ReadError.TheVariants.{Spelling, NoMemory}
use Rattle.mesh_restore.proofs.Listings.{all_weaker}
use Rattle.mesh_load.specs.declared.error.StateError.{StateError}
use Rattle.mesh_load.specs.declared.error.StateError.TheVariants as errors
use Rattle.mesh_load.specs.Errors.{after_reading}
use Rattle.mesh_load.specs.Nodes.{IsSoundNodeAt, AreNodesRead, AreListed}
use Rattle.mesh_load.specs.Loading.{AreInPlace, IsUnsoundWorld}
use Rattle.mesh_load.specs.Parts.{IsMade, IsRefusalOf, IsUnsoundNode, IsFitting, IsWorldFrom}
use Rattle.mesh_load.proofs.NodeLists.{at_index}
use Rattle.mesh_load.proofs.Amounts.{data_agree}

-- ---- what is read of a world

abbrev of_parts : ℕ → List Node → RadioPart → World
of_parts steps nodes radio = record { steps = steps; nodes = nodes; links = radio.0; next = radio.1.0; copies = radio.1.1 }

abbrev with_nodes : List Node → RadioPart × List ℕ → Option ((List Node × RadioPart) × List ℕ)
with_nodes nodes z = Some ((nodes, z.0), z.1)

abbrev with_steps : ℕ → (List Node × RadioPart) × List ℕ → Option ((ℕ × (List Node × RadioPart)) × List ℕ)
with_steps steps y = Some ((steps, y.0), y.1)

abbrev to_world : (ℕ × (List Node × RadioPart)) × List ℕ → Option (World × List ℕ)
to_world x = Some (of_parts x.0.0 x.0.1.0 x.0.1.1, x.1)

abbrev as_world : ℕ → List Node → RadioPart × List ℕ → Option (World × List ℕ)
as_world steps nodes z = Some (of_parts steps nodes z.0, z.1)

abbrev behind_nodes : ℕ → ℕ → List Node × List ℕ → Option (World × List ℕ)
behind_nodes size steps y = (radio_part size).get y.1 >>= as_world steps y.0

collapse_radio : (steps : ℕ) (nodes : List Node) (o : Option (RadioPart × List ℕ)) → (((o >>= with_nodes nodes) >>= with_steps steps) >>= to_world) ≡ (o >>= as_world steps nodes)
collapse_radio steps nodes None = refl
collapse_radio steps nodes (Some z) = refl

abbrev then_radio : ℕ → List Node × List ℕ → Option ((List Node × RadioPart) × List ℕ)
then_radio size y = (radio_part size).get y.1 >>= with_nodes y.0

collapse : (size steps : ℕ) (o : Option (List Node × List ℕ)) → (((o >>= then_radio size) >>= with_steps steps) >>= to_world) ≡ (o >>= behind_nodes size steps)
collapse size steps None = refl
collapse size steps (Some y) = collapse_radio steps y.0 ((radio_part size).get y.1)

abbrev read_steps : List ℕ → Option (ℕ × List ℕ)
read_steps bytes = number_at w64 0 (MOST_STEPS + 1) bytes

world_at : (size steps : ℕ) (bytes r : List ℕ) → read_steps bytes ≡ Some (steps, r) → (model.world size).get bytes ≡ (get_times (model.node size).get size r >>= behind_nodes size steps)
world_at size steps bytes r one = rw one (collapse size steps (get_times (model.node size).get size r))

pub no_steps : (size : ℕ) (bytes : List ℕ) → read_steps bytes ≡ None → (model.world size).get bytes ≡ None
no_steps size bytes none = rw none refl

world_whole : (size steps : ℕ) (bytes r s t : List ℕ) (nodes : List Node) (radio : RadioPart) → read_steps bytes ≡ Some (steps, r) → get_times (model.node size).get size r ≡ Some (nodes, s) → (radio_part size).get s ≡ Some (radio, t)
    → (model.world size).get bytes ≡ Some (of_parts steps nodes radio, t)
world_whole size steps bytes r s t nodes radio one two three = world_at size steps bytes r one ∙ rw (two, three) refl

-- the nodes of a world that is read
nodes_in : (size steps : ℕ) (bytes r : List ℕ) (w : World) (end : List ℕ) → read_steps bytes ≡ Some (steps, r) → (model.world size).get bytes ≡ Some (w, end) → (s : List ℕ) × (get_times (model.node size).get size r ≡ Some (w.nodes, s))
nodes_in size steps bytes r w end one whole =
    let x = bind_some (get_times (model.node size).get size r) (behind_nodes size steps) (w, end) (sym (world_at size steps bytes r one) ∙ whole) in
    let y = bind_some ((radio_part size).get x.0.1) (as_world steps x.0.0) (w, end) x.2 in
    let same : x.0.0 ≡ w.nodes = ap (λ (p : World × List ℕ). (p.0).nodes) (same_Some (of_parts steps x.0.0 y.0.0, y.0.1) (w, end) y.2) in
    (x.0.1, x.1 ∙ ap (λ (ns : List Node). Some (ns, x.0.1)) same)

-- ---- where a reader refuses

least_node : (mesh : Nodes) (variant : Variant) (read : Option (List Node × List ℕ)) (w : World) (s : List ℕ) (part : Part) → read ≡ Some (w.nodes, s) → IsRefusalOf (IsUnsoundNode variant (length mesh)) read (errors.Unsound part) → IsUnsoundWorld mesh variant w part
least_node mesh variant read w s (parts.Node x) is refused = refused w.nodes s is
least_node mesh variant read w s parts.Item is refused = absurd (refused w.nodes s is)
least_node mesh variant read w s parts.Request is refused = absurd (refused w.nodes s is)
least_node mesh variant read w s parts.Reply is refused = absurd (refused w.nodes s is)
least_node mesh variant read w s (parts.Edge x d) is refused = absurd (refused w.nodes s is)

pub nodes_refused : (mesh : Nodes) (variant : Variant) (steps : ℕ) (bytes r : List ℕ) (e : StateError) → read_steps bytes ≡ Some (steps, r) → IsRefusalOf (IsUnsoundNode variant (length mesh)) (get_times (model.node (length mesh)).get (length mesh) r) e
    → IsRefusalOf (IsUnsoundWorld mesh variant) ((model.world (length mesh)).get bytes) e
nodes_refused mesh variant steps bytes r errors.NotState one refused = refused
nodes_refused mesh variant steps bytes r errors.Length one refused = refused
nodes_refused mesh variant steps bytes r errors.Spelling one refused = world_at (length mesh) steps bytes r one ∙ rw refused refl
nodes_refused mesh variant steps bytes r errors.Sums one refused = refused
nodes_refused mesh variant steps bytes r (errors.Unsound part) one refused = λ w end whole.
    let nodes = nodes_in (length mesh) steps bytes r w end one whole in
    least_node mesh variant (get_times (model.node (length mesh)).get (length mesh) r) w nodes.0 part nodes.1 refused
nodes_refused mesh variant steps bytes r errors.NoMemory one refused = tt

pub radio_part_refused : (mesh : Nodes) (variant : Variant) (steps : ℕ) (bytes r s : List ℕ) (nodes : List Node) (e : ReadError) → read_steps bytes ≡ Some (steps, r) → get_times (model.node (length mesh)).get (length mesh) r ≡ Some (nodes, s) → Refuses e ((radio_part (length mesh)).get s)
    → IsRefusalOf (IsUnsoundWorld mesh variant) ((model.world (length mesh)).get bytes) (after_reading e)
radio_part_refused mesh variant steps bytes r s nodes Spelling one two refused = world_at (length mesh) steps bytes r one ∙ rw (two, refused) refl
radio_part_refused mesh variant steps bytes r s nodes NoMemory one two refused = tt

-- ---- where all was read

-- the steps, the nodes and the radio were read
pub record ArePartsRead (mesh : Nodes) (variant : Variant) (bytes : List ℕ) (steps : ℕ) (nodes : List NodeSeen) (in_place : Bool) (radio : RadioState) (apart : Bool) : Type 0 where
  pub behind : List ℕ
  pub rest : List ℕ
  pub end : List ℕ
  pub steps_read : read_steps bytes ≡ Some (steps, behind)
  pub nodes_read : AreNodesRead variant (length mesh) (get_times (model.node (length mesh)).get (length mesh) behind) nodes in_place rest
  pub radio_part_read : IsRadioPartRead (length mesh) ((radio_part (length mesh)).get rest) radio apart end

pub parts_read : (mesh : Nodes) (variant : Variant) (bytes : List ℕ) (steps : ℕ) (nodes : List NodeSeen) (in_place : Bool) (radio : RadioState) (apart : Bool) (behind rest end : List ℕ) (n : ℕ) → n ≡ length mesh → read_steps bytes ≡ Some (steps, behind)
    → AreNodesRead variant (length mesh) (get_times (model.node (length mesh)).get (length mesh) behind) nodes in_place rest → IsRadioPartRead n ((radio_part n).get rest) radio apart end → ArePartsRead mesh variant bytes steps nodes in_place radio apart
parts_read mesh variant bytes steps nodes in_place radio apart behind rest end n count one two three = record {
  behind = behind;
  rest = rest;
  end = end;
  steps_read = one;
  nodes_read = two;
  radio_part_read = subst (λ (k : ℕ). IsRadioPartRead k ((radio_part k).get rest) radio apart end) count three;
}

-- the world that was read
abbrev world_in_parts : (mesh : Nodes) (variant : Variant) (bytes : List ℕ) (steps : ℕ) (nodes : List NodeSeen) (in_place : Bool) (radio : RadioState) (apart : Bool) → ArePartsRead mesh variant bytes steps nodes in_place radio apart → World
world_in_parts mesh variant bytes steps nodes in_place radio apart p = of_parts steps (p.nodes_read).lists (links_of radio.ever radio.links, (radio.next_copy, (p.radio_part_read).found))

world_read : (mesh : Nodes) (variant : Variant) (bytes : List ℕ) (steps : ℕ) (nodes : List NodeSeen) (in_place : Bool) (radio : RadioState) (apart : Bool) (p : ArePartsRead mesh variant bytes steps nodes in_place radio apart)
    → (model.world (length mesh)).get bytes ≡ Some (world_in_parts mesh variant bytes steps nodes in_place radio apart p, p.end)
world_read mesh variant bytes steps nodes in_place radio apart p =
    world_whole (length mesh) steps bytes p.behind p.rest p.end (p.nodes_read).lists (links_of radio.ever radio.links, (radio.next_copy, (p.radio_part_read).found)) p.steps_read (p.nodes_read).read_is (p.radio_part_read).read_is

-- what holds of the world that was read holds of each that is
of_each : (mesh : Nodes) (variant : Variant) (bytes : List ℕ) (steps : ℕ) (nodes : List NodeSeen) (in_place : Bool) (radio : RadioState) (apart : Bool) (p : ArePartsRead mesh variant bytes steps nodes in_place radio apart) (part : Part)
    → IsUnsoundWorld mesh variant (world_in_parts mesh variant bytes steps nodes in_place radio apart p) part → IsRefusalOf (IsUnsoundWorld mesh variant) ((model.world (length mesh)).get bytes) (errors.Unsound part)
of_each mesh variant bytes steps nodes in_place radio apart p part unsound = λ w end whole.
    let found : World = world_in_parts mesh variant bytes steps nodes in_place radio apart p in
    let same : found ≡ w = ap (λ (q : World × List ℕ). q.0) (same_Some (found, p.end) (w, end) (sym (world_read mesh variant bytes steps nodes in_place radio apart p) ∙ whole)) in
    subst (λ (v : World). IsUnsoundWorld mesh variant v part) same unsound

misplaced : (mesh : Nodes) (ns : List NodeSeen) (copies : List Flying) → (¬ (AllByRecursion HasItemsAt ns)) ⊎ (¬ (AllByRecursion (λ c. c.from ≢ c.to) copies)) → ¬ (AreInPlace mesh ns copies)
misplaced mesh ns copies (inl some) all = some all.items
misplaced mesh ns copies (inr some) all = some all.between

-- an item or a copy is out of place
pub item_unsound : (mesh : Nodes) (variant : Variant) (bytes : List ℕ) (steps : ℕ) (nodes : List NodeSeen) (in_place : Bool) (radio : RadioState) (apart : Bool) → ArePartsRead mesh variant bytes steps nodes in_place radio apart → (in_place ≡ false) ⊎ (apart ≡ false)
    → IsRefusalOf (IsUnsoundWorld mesh variant) ((model.world (length mesh)).get bytes) (errors.Unsound parts.Item)
item_unsound mesh variant bytes steps nodes in_place radio apart p (inl out) =
    of_each mesh variant bytes steps nodes in_place radio apart p parts.Item ((p.nodes_read).parts, (p.nodes_read).listed_are, misplaced mesh (p.nodes_read).parts (p.radio_part_read).found (inl ((p.nodes_read).misplaced out)))
item_unsound mesh variant bytes steps nodes in_place radio apart p (inr out) =
    of_each mesh variant bytes steps nodes in_place radio apart p parts.Item ((p.nodes_read).parts, (p.nodes_read).listed_are, misplaced mesh (p.nodes_read).parts (p.radio_part_read).found (inr ((p.radio_part_read).some_to_itself out)))

-- ---- where all is in place

-- with x before the others
abbrev joined : {A : Type 0} → A → List A × List ℕ → Option (List A × List ℕ)
joined x y = Some (x ∷ y.0, y.1)

taken_length : {A : Type 0} (x : A) (n : ℕ) (o : Option (List A × List ℕ)) (xs : List A) (rest : List ℕ) → ((ys : List A) (left : List ℕ) → o ≡ Some (ys, left) → length ys ≡ n) → (o >>= joined x) ≡ Some (xs, rest) → length xs ≡ suc n
taken_length {A} x n None xs rest len e = absurd (none-some (xs, rest) e)
taken_length {A} x n (Some y) xs rest len e =
    let made : List A × List ℕ = (x ∷ y.0, y.1) in
    ap (λ (q : List A × List ℕ). length q.0) (sym (same_Some made (xs, rest) e)) ∙ ap suc (len y.0 y.1 refl)

-- as many values are read as are asked for
times_length : {A : Type 0} (get : List ℕ → Option (A × List ℕ)) (n : ℕ) (bytes : List ℕ) (xs : List A) (rest : List ℕ) → get_times get n bytes ≡ Some (xs, rest) → length xs ≡ n
times_length {A} get zero bytes xs rest e = ap (λ (q : List A × List ℕ). length q.0) (sym (same_Some ([], bytes) (xs, rest) e))
times_length {A} get (suc n) bytes xs rest e =
    let x = bind_some (get bytes) (λ x. get_times get n x.1 >>= joined x.0) (xs, rest) e in
    taken_length x.0.0 n (get_times get n x.0.1) xs rest (λ ys left same. times_length get n x.0.1 ys left same) x.2

-- the nodes are those that were read, and so are the copies
pub record AreKept (mesh : Nodes) (variant : Variant) (bytes : List ℕ) (steps : ℕ) (nodes : List NodeSeen) (radio : RadioState) : Type 0 where
  pub found : World
  pub end : List ℕ
  pub read_is : (model.world (length mesh)).get bytes ≡ Some (found, end)
  pub steps_are : found.steps ≡ steps
  pub listed_are : AreListed variant (length mesh) found.nodes nodes
  pub links_are : found.links ≡ links_of radio.ever radio.links
  pub next_is : found.next ≡ radio.next_copy
  pub copies_are : found.copies ≡ radio.flying
  pub items : AllByRecursion HasItemsAt nodes
  pub count : length nodes ≡ length mesh

pub are_kept : (mesh : Nodes) (variant : Variant) (bytes : List ℕ) (steps : ℕ) (nodes : List NodeSeen) (in_place : Bool) (radio : RadioState) (apart : Bool) → ArePartsRead mesh variant bytes steps nodes in_place radio apart → in_place ≡ true → apart ≡ true → AreKept mesh variant bytes steps nodes radio
are_kept mesh variant bytes steps nodes in_place radio apart p one two =
    let kept = (p.nodes_read).kept one in
    let listed_are = (p.nodes_read).listed_are in
    record {
      found = world_in_parts mesh variant bytes steps nodes in_place radio apart p;
      end = p.end;
      read_is = world_read mesh variant bytes steps nodes in_place radio apart p;
      steps_are = refl;
      listed_are = subst (λ (ns : List NodeSeen). AreListed variant (length mesh) (p.nodes_read).lists ns) (sym kept.0) listed_are;
      links_are = refl;
      next_is = refl;
      copies_are = sym ((p.radio_part_read).whole two);
      items = subst (λ (ns : List NodeSeen). AllByRecursion HasItemsAt ns) (sym kept.0) kept.1;
      count =
          ap (λ (ns : List NodeSeen). length ns) kept.0 ∙ sym (length-map (p.nodes_read).parts listed_node) ∙ sym (ap (λ (ls : List Node). length ls) listed_are.lists_are)
          ∙ times_length (model.node (length mesh)).get (length mesh) p.behind (p.nodes_read).lists p.rest (p.nodes_read).read_is;
    }

pub kept_of : (mesh : Nodes) (variant : Variant) (bytes : List ℕ) (steps : ℕ) (nodes : List NodeSeen) (in_place : Bool) (radio : RadioState) (apart : Bool) (behind rest end : List ℕ) (n : ℕ) → n ≡ length mesh → read_steps bytes ≡ Some (steps, behind)
    → AreNodesRead variant (length mesh) (get_times (model.node (length mesh)).get (length mesh) behind) nodes in_place rest → IsRadioPartRead n ((radio_part n).get rest) radio apart end → in_place ≡ true → apart ≡ true → AreKept mesh variant bytes steps nodes radio
kept_of mesh variant bytes steps nodes in_place radio apart behind rest end n count one two three placed between =
    are_kept mesh variant bytes steps nodes in_place radio apart (parts_read mesh variant bytes steps nodes in_place radio apart behind rest end n count one two three) placed between

pub are_nodes : (mesh : Nodes) (variant : Variant) (lists : List Node) (nodes : List NodeSeen) → AreListed variant (length mesh) lists nodes → length nodes ≡ length mesh → AreNodesOf mesh variant nodes
are_nodes mesh variant lists nodes l count = record {
  count = count;
  each = λ x n is.
      let at = at_index (IsSoundNodeAt variant (length mesh)) 0 nodes x l.each (slice_get_within nodes x n is) in
      let same : at.0 ≡ n = same_Some at.0 n (sym at.1 ∙ is) in
      let first : 0 + x ≡ x = omega arith in
      let sound : IsSoundNodeAt variant (length mesh) x n = subst (λ (k : ℕ). IsSoundNodeAt variant (length mesh) k n) first (subst (λ (m : NodeSeen). IsSoundNodeAt variant (length mesh) (0 + x) m) same at.2) in
      record { named = (sound.0).named; variant = (sound.0).variant_is; size = (sound.0).size_is };
}

-- the numbers of a world are in the table's ranges
pub world_ranges : (size : ℕ) (w : World) → (model.world size).fits w ≡ true → (is_from 0 (MOST_STEPS + 1) w.steps ≡ true) × (all_fit (model.node size).fits w.nodes ≡ true)
world_ranges size w fits =
    let radio_fits : Bool = (model.links size).fits w.links && ((number w64 1 (GREATEST_NEXT_ID + 1)).fits w.next && (model.copies size w.next).fits w.copies) in
    let all = and_parts (is_from 0 (MOST_STEPS + 1) w.steps) ((times (model.node size) size).fits w.nodes && radio_fits) fits in
    let behind = and_parts ((times (model.node size) size).fits w.nodes) radio_fits all.1 in
    let nodes = and_parts (length w.nodes == size) (all_fit (model.node size).fits w.nodes) behind.0 in
    (all.0, nodes.1)

fitting_found : (size : ℕ) (read : Option (World × List ℕ)) (w : World) (end : List ℕ) → read ≡ Some (w, end) → IfSome read (λ x. IsFitting size x.0) → IsFitting size w
fitting_found size read w end is fit = subst (λ (o : Option (World × List ℕ)). IfSome o (λ x. IsFitting size x.0)) is fit

fitting_kept : (mesh : Nodes) (variant : Variant) (bytes : List ℕ) (steps : ℕ) (nodes : List NodeSeen) (radio : RadioState) (k : AreKept mesh variant bytes steps nodes radio) → IfSome ((model.world (length mesh)).get bytes) (λ x. IsFitting (length mesh) x.0) → IsFitting (length mesh) k.found
fitting_kept mesh variant bytes steps nodes radio k fit = fitting_found (length mesh) ((model.world (length mesh)).get bytes) k.found k.end k.read_is fit

same_data : (mesh : Nodes) (variant : Variant) (bytes : List ℕ) (steps : ℕ) (nodes : List NodeSeen) (radio : RadioState) (k : AreKept mesh variant bytes steps nodes radio) → IsFitting (length mesh) k.found → AreWritten mesh nodes radio.flying
    → data_of (world_in mesh nodes radio) ≡ data_in_world k.found
same_data mesh variant bytes steps nodes radio k fitting written =
    data_agree mesh nodes radio k.found (k.listed_are).lists_are k.copies_are k.count (world_ranges (length mesh) k.found fitting.fits).1 written

-- there are few enough data for a world
pub few_data : (mesh : Nodes) (variant : Variant) (bytes : List ℕ) (steps : ℕ) (nodes : List NodeSeen) (radio : RadioState) → AreKept mesh variant bytes steps nodes radio → IfSome ((model.world (length mesh)).get bytes) (λ x. IsFitting (length mesh) x.0) → AreWritten mesh nodes radio.flying
    → data_of (world_in mesh nodes radio) < most_data_at_first
few_data mesh variant bytes steps nodes radio k fit written =
    let fitting = fitting_kept mesh variant bytes steps nodes radio k fit in
    rw (same_data mesh variant bytes steps nodes radio k fitting written) fitting.few

in_place : (mesh : Nodes) (variant : Variant) (bytes : List ℕ) (steps : ℕ) (nodes : List NodeSeen) (radio : RadioState) → AreKept mesh variant bytes steps nodes radio → AllByRecursion (IsBetween radio.size) radio.flying → AreWritten mesh nodes radio.flying → AreInPlace mesh nodes radio.flying
in_place mesh variant bytes steps nodes radio k between written = record {
  items = k.items;
  between = all_weaker (IsBetween radio.size) (λ c. c.from ≢ c.to) (λ c is. is.2) radio.flying between;
  written = written;
}

-- the world was made
pub made : (mesh : Nodes) (variant : Variant) (bytes : List ℕ) (steps : ℕ) (nodes : List NodeSeen) (radio : RadioState) (seen : WorldSeen) → AreKept mesh variant bytes steps nodes radio → AllByRecursion (IsBetween radio.size) radio.flying → AreSoundParts mesh nodes radio.flying
    → IfSome ((model.world (length mesh)).get bytes) (λ x. IsFitting (length mesh) x.0) → seen ≡ seen_of mesh nodes radio steps → IsMade (IsWorldFrom mesh variant) ((model.world (length mesh)).get bytes) seen
made mesh variant bytes steps nodes radio seen k between sound fit is = record {
  found = k.found;
  rest = k.end;
  read_is = k.read_is;
  made = record {
    nodes = nodes;
    radio = radio;
    seen_is = is ∙ ap (λ (n : ℕ). seen_of mesh nodes radio n) (sym k.steps_are);
    listed_are = k.listed_are;
    count = k.count;
    links_are = k.links_are;
    next_is = k.next_is;
    copies_are = k.copies_are;
    data_are = same_data mesh variant bytes steps nodes radio k (fitting_kept mesh variant bytes steps nodes radio k fit) sound.written;
    in_place = in_place mesh variant bytes steps nodes radio k between sound.written;
    sound = sound;
  };
}

-- the first part that isn't in order is the world's
first_unsound : (mesh : Nodes) (variant : Variant) (bytes : List ℕ) (steps : ℕ) (nodes : List NodeSeen) (radio : RadioState) (part : Part) (k : AreKept mesh variant bytes steps nodes radio) → AllByRecursion (IsBetween radio.size) radio.flying → IsFirstPart mesh nodes radio.flying part
    → (w : World) → w.nodes ≡ (k.found).nodes → w.copies ≡ radio.flying → IsUnsoundWorld mesh variant w part
first_unsound mesh variant bytes steps nodes radio (parts.Node x) k between first w same copies = absurd first
first_unsound mesh variant bytes steps nodes radio parts.Item k between first w same copies =
    (nodes, rw same k.listed_are, rw copies (λ all. first all.written))
first_unsound mesh variant bytes steps nodes radio parts.Request k between first w same copies =
    (nodes, rw same k.listed_are, rw copies (in_place mesh variant bytes steps nodes radio k between first.0), rw copies first)
first_unsound mesh variant bytes steps nodes radio parts.Reply k between first w same copies =
    (nodes, rw same k.listed_are, rw copies (in_place mesh variant bytes steps nodes radio k between first.0), rw copies first)
first_unsound mesh variant bytes steps nodes radio (parts.Edge x d) k between first w same copies =
    (nodes, rw same k.listed_are, rw copies (in_place mesh variant bytes steps nodes radio k between first.0), rw copies first)

pub part_unsound : (mesh : Nodes) (variant : Variant) (bytes : List ℕ) (steps : ℕ) (nodes : List NodeSeen) (radio : RadioState) (part : Part) → AreKept mesh variant bytes steps nodes radio → AllByRecursion (IsBetween radio.size) radio.flying → IsFirstPart mesh nodes radio.flying part
    → IsRefusalOf (IsUnsoundWorld mesh variant) ((model.world (length mesh)).get bytes) (errors.Unsound part)
part_unsound mesh variant bytes steps nodes radio part k between first = λ w end whole.
    let same : k.found ≡ w = ap (λ (q : World × List ℕ). q.0) (same_Some (k.found, k.end) (w, end) (sym k.read_is ∙ whole)) in
    subst (λ (v : World). IsUnsoundWorld mesh variant v part) same (first_unsound mesh variant bytes steps nodes radio part k between first k.found refl k.copies_are)
