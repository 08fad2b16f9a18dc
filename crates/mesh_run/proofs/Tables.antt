-- Texts of all nodes one after another, and of the copies in flight.
use Rattle.std.proofs.Common.{◌≡◌, ℕ, ◌+◌, Bool, true, List, [], ◌∷◌, ◌++◌, Option, Some, Result, length, map, refl, sym, ap, subst, ◌∙◌}
use Rattle.std.specs.List.{AllByRecursion}
use Rattle.std.proofs.lemmas.List.{length-map}
use Rattle.std.specs.Io.KnownBytes.{Appends}
use Rattle.mesh_base.specs.Meshes.{Nodes}
use Rattle.mesh_base.specs.declared.events.Flying.{Flying}
use Rattle.mesh_radio.specs.Copies.{from_id}
use Rattle.mesh_radio.proofs.Finds.{from_zero, all-from}
use Rattle.mesh_io.specs.Puts.{AppendsPrefix, Puts}
use Rattle.mesh_io.proofs.Writing.{Appends-none, AppendsPrefix-more, Puts-join}
use Rattle.aodv_meaning.specs.Effects.{item_in}
use Rattle.aodv_node.specs.Seen.{NodeSeen}
use Rattle.mesh_model.specs.Worlds.{Node}
use Rattle.mesh_meaning.specs.Packets.{copy_in}
use Rattle.mesh_text.specs.Tables.{node_text, node_text_in, flying_text, flight_text}
use Rattle.mesh_world.specs.Seen.{node_in}
use Rattle.mesh_run.specs.Runs.{output_if}
use Rattle.mesh_run.proofs.Shown.{front_more}

-- ---- a node, a route and the radio, after the line that shows them

pub node_shown : (mesh : Nodes) (o : Option Node) (n : NodeSeen) → o ≡ Some (node_in mesh n) → node_text mesh n.core (length n.items) ≡ node_text_in mesh o
node_shown mesh o n e =
    ap (node_text mesh n.core) (sym (length-map n.items (item_in mesh))) ∙ ap (node_text_in mesh) (sym e)

-- a line and what it shows
pub shows_whole : {T E : Type 0} (say : Bool) (xs ys xs' ys' : List ℕ) (a b c : Option (List ℕ)) (r : Result T E) → say ≡ true → xs ≡ xs' → ys ≡ ys'
    → Appends a b xs → Puts b c ys r → Puts a c (output_if say (xs' ++ ys')) r
shows_whole say xs ys xs' ys' a b c r loud ex ey p q =
    let P : Bool → Type 0 = λ k. Puts a c (output_if k (xs' ++ ys')) r in
    let Q : List ℕ → Type 0 = λ l. Appends a b l in
    let R : List ℕ → Type 0 = λ l. Puts b c l r in
    subst P (sym loud) (Puts-join a b c xs' ys' (xs' ++ ys') r refl (subst Q ex p) (subst R ey q))

pub shows_front : (say : Bool) (xs xs' ys : List ℕ) (a b : Option (List ℕ)) → say ≡ true → xs ≡ xs' → AppendsPrefix a b xs → AppendsPrefix a b (output_if say (xs' ++ ys))
shows_front say xs xs' ys a b loud ex p =
    let P : Bool → Type 0 = λ k. AppendsPrefix a b (output_if k (xs' ++ ys)) in
    let Q : List ℕ → Type 0 = λ l. AppendsPrefix a b l in
    subst P (sym loud) (front_more true a b xs' ys (subst Q ex p))

-- ---- the copies in flight

copies-step : (mesh : Nodes) (fs : List Flying) (start : ℕ) (f : Flying) → from_id fs start ≡ f ∷ from_id fs (f.id + 1)
    → flight_text mesh (map (copy_in mesh) (from_id fs start)) ≡ flying_text mesh (copy_in mesh f) ++ flight_text mesh (map (copy_in mesh) (from_id fs (f.id + 1)))
copies-step mesh fs start f is = ap (λ l. flight_text mesh (map (copy_in mesh) l)) is

-- the copies from one id on are all of them, from 0 on
pub copies-start : {T E : Type 0} (mesh : Nodes) (fs : List Flying) (a b : Option (List ℕ)) (r : Result T E) → Puts a b (flight_text mesh (map (copy_in mesh) (from_id fs 0))) r → Puts a b (flight_text mesh (map (copy_in mesh) fs)) r
copies-start mesh fs a b r p = subst (λ l. Puts a b (flight_text mesh (map (copy_in mesh) l)) r) (from_zero fs) p

pub copies-goes : {T E : Type 0} (mesh : Nodes) (fs : List Flying) (start : ℕ) (f : Flying) (a b c : Option (List ℕ)) (r : Result T E) → from_id fs start ≡ f ∷ from_id fs (f.id + 1)
    → Appends a b (flying_text mesh (copy_in mesh f)) → Puts b c (flight_text mesh (map (copy_in mesh) (from_id fs (f.id + 1)))) r → Puts a c (flight_text mesh (map (copy_in mesh) (from_id fs start))) r
copies-goes mesh fs start f a b c r is p q = Puts-join a b c (flying_text mesh (copy_in mesh f)) _ _ r (copies-step mesh fs start f is) p q

pub copies-stops : (mesh : Nodes) (fs : List Flying) (start : ℕ) (f : Flying) (a b : Option (List ℕ)) → from_id fs start ≡ f ∷ from_id fs (f.id + 1)
    → AppendsPrefix a b (flying_text mesh (copy_in mesh f)) → AppendsPrefix a b (flight_text mesh (map (copy_in mesh) (from_id fs start)))
copies-stops mesh fs start f a b is p = AppendsPrefix-more a b (flying_text mesh (copy_in mesh f)) _ _ (copies-step mesh fs start f is) p

pub copies-ends : (mesh : Nodes) (fs : List Flying) (start : ℕ) (a : Option (List ℕ)) → from_id fs start ≡ [] → Appends a a (flight_text mesh (map (copy_in mesh) (from_id fs start)))
copies-ends mesh fs start a none = let P : List Flying → Type 0 = λ l. Appends a a (flight_text mesh (map (copy_in mesh) l)) in subst P (sym none) (Appends-none a)

-- each copy is written
pub copy_next : (P : Flying → Type 0) (fs : List Flying) (start : ℕ) (f : Flying) → AllByRecursion P fs → from_id fs start ≡ f ∷ from_id fs (f.id + 1) → P f
copy_next P fs start f all is = (subst (AllByRecursion P) is (all-from P fs start all)).0
