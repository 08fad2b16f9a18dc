-- The nodes of a run keep their variant of the protocol.
use Rattle.std.proofs.Common.{◌≡◌, ℕ, ◌+◌, List, [], ◌∷◌, Some, refl, ◌∙◌}
use Rattle.std.specs.Prelude.{slice_get, ⊤}
use Rattle.std.specs.List.{AllByRecursion}
use Rattle.mesh_base.specs.declared.events.Variant.{Variant}
use Rattle.mesh_base.proofs.Lemmas.Lists.{each_at}
use Rattle.aodv_model.specs.Cores.{Message}
use Rattle.aodv_model.specs.Handlers.{Cast}
use Rattle.mesh_model.proofs.Everywhere.{Everywhere, step_everywhere}
use Rattle.mesh_model.proofs.Lists.{each_of}
use Rattle.mesh_model.proofs.Stems.{ask_seen, send_seen, turn_seen}
use Rattle.mesh_model.specs.Worlds.{Copy, Event, Node, World, after, openings, range, start, step}
use Rattle.mesh_run.specs.RunStates.{AreOfVariant}

-- ---- an event

-- of messages and casts nothing is said
abbrev IsAny : Message → Type 0
IsAny m = ⊤

abbrev IsAnyCast : Cast → Type 0
IsAnyCast c = ⊤

all_any : (copies : List Copy) → AllByRecursion (λ (c : Copy). IsAny c.message) copies
all_any [] = tt
all_any (c ∷ copies) = (tt, all_any copies)

pub step_of : (v : Variant) (w : World) (e : Event) → AreOfVariant v w → AreOfVariant v (after w (step w e))
step_of v w e all =
    let IsOf : ℕ → Node → Type 0 = λ x n. (n.core).variant ≡ v in
    let of_node : (x : ℕ) (n : Node) → slice_get w.nodes x ≡ Some n → (n.core).variant ≡ v = λ x n is. each_at (λ (n : Node). (n.core).variant ≡ v) w.nodes x n all is in
    let before : Everywhere IsOf IsAny w = record { nodes = of_node; flying = all_any w.flying } in
    let now : Everywhere IsOf IsAny (after w (step w e)) = step_everywhere {N = IsOf} {N' = IsOf} {M = IsAny} {C = IsAnyCast} w e before (record {
      carries = record { one = λ y m is. is; many = λ s m is. is; all = λ m is. is };
      same = λ x n is. is;
      given = λ x d b n is. is;
      heard = λ x from m n any is. is;
      taken = λ x core item items is free. ((turn_seen core (range w x) item).0 ∙ of_node x _ is, tt);
      sent = λ x d n is may free. ((send_seen n.core (range w x) d).0 ∙ of_node x n is, tt);
      asked = λ x d n is may free. ((ask_seen n.core d).0 ∙ of_node x n is, tt);
    }) in
    each_of (λ (n : Node). (n.core).variant ≡ v) (after w (step w e)).nodes now.nodes

-- ---- the opening world

openings_of : (v : Variant) (ip : ℕ) (firsts : List ℕ) → AllByRecursion (λ (n : Node). (n.core).variant ≡ v) (openings v ip firsts)
openings_of v ip [] = tt
openings_of v ip (first ∷ firsts) = (refl, openings_of v (ip + 1) firsts)

-- it is of its variant
pub start_of : (v : Variant) (firsts : List ℕ) → AreOfVariant v (start v firsts)
unfolding start
start_of v firsts = openings_of v 0 firsts
