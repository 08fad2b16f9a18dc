-- What is chosen is an event of the mesh that is enabled.
use Rattle.std.proofs.Common.{ℕ, zero, suc, ◌+◌, ◌<◌, Bool, List, [], ◌∷◌, length, Option, Some, None, option_map, subst, arith}
use Rattle.std.specs.Prelude.{slice_get}
use Rattle.std.specs.List.{AllByRecursion}
use Rattle.aodv_model.proofs.Entries.{if_case}
use Rattle.mesh_model.specs.Choices.{least_from, beside, least_pair_from, may_turn_in, may_send_in, may_ask_in, first_turn, first_send_in, first_ask_in, first_send, first_ask, first_copy, first_of, pick, IsChoice}
use Rattle.mesh_model.specs.InMesh.{IsEvent}
use Rattle.mesh_model.specs.Worlds.{World, Node, Event, Turn, Send, Ask, Deliver}
use Rattle.mesh_model.specs.Laws.{PickIsEnabled}
use Rattle.mesh_model.proofs.Picks.{pick_goes}

-- ---- what is found

unfoldable pub OnSome : {A : Type 0} → (A → Type 0) → Option A → Type 0
OnSome P None = Unit {0}
OnSome P (Some x) = P x

on_more : {A : Type 0} (P Q : A → Type 0) (o : Option A) → ((x : A) → P x → Q x) → OnSome P o → OnSome Q o
unfolding OnSome
on_more P Q None f h = tt
on_more P Q (Some x) f h = f x h

on_map : {A B : Type 0} (P : B → Type 0) (f : A → B) (o : Option A) → OnSome (λ x. P (f x)) o → OnSome P (option_map f o)
unfolding OnSome
on_map P f None h = tt
on_map P f (Some x) h = h

pub least_within : (k i : ℕ) (passes : ℕ → Bool) → OnSome (λ x. x < i + k) (least_from k i passes)
unfolding OnSome
least_within zero i passes = tt
least_within (suc k) i passes =
    if_case (OnSome (λ x. x < i + suc k)) (passes i) (Some i) (least_from k (i + 1) passes)
    (λ _. omega arith)
    (λ _. on_more (λ x. x < i + 1 + k) (λ x. x < i + suc k) (least_from k (i + 1) passes) (λ x lt. omega arith) (least_within k (i + 1) passes))

abbrev pub Both : ℕ → ℕ → ℕ × ℕ → Type 0
Both m n p = (p.0 < m) × (p.1 < n)

beside_on : (P : ℕ × ℕ → Type 0) (i : ℕ) (o : Option ℕ) (rest : Option (ℕ × ℕ)) → OnSome (λ d. P (i, d)) o → OnSome P rest → OnSome P (beside i o rest)
unfolding OnSome
beside_on P i None rest h more = more
beside_on P i (Some d) rest h more = h

pub pair_within : (k i size : ℕ) (found : ℕ → Option ℕ) → ((x : ℕ) → OnSome (λ d. d < size) (found x)) → OnSome (Both (i + k) size) (least_pair_from k i found)
unfolding OnSome
pair_within zero i size found each = tt
pair_within (suc k) i size found each =
    beside_on (Both (i + suc k) size) i (found i) (least_pair_from k (i + 1) found)
    (on_more (λ d. d < size) (λ d. Both (i + suc k) size (i, d)) (found i) (λ d lt. (omega arith, lt)) (each i))
    (on_more (Both (i + 1 + k) size) (Both (i + suc k) size) (least_pair_from k (i + 1) found) (λ p lt. (omega (arith, lt.0), lt.1)) (pair_within k (i + 1) size found each))

first_on : (P : Event → Type 0) (os : List (Option Event)) → AllByRecursion (OnSome P) os → OnSome P (first_of os)
unfolding OnSome
first_on P [] all = tt
first_on P (None ∷ os) all = first_on P os all.1
first_on P (Some e ∷ os) all = all.0

-- an event of a kind that is chosen, and of a mesh of this size
abbrev pub IsChoiceOf : ℕ → Event → Type 0
IsChoiceOf size e = IsChoice e × IsEvent size e

pub send_within : (size : ℕ) (n : Option Node) → OnSome (λ d. d < size) (first_send_in size n)
unfolding first_send_in
send_within size n = on_more (λ d. d < 0 + size) (λ d. d < size) (least_from size 0 (may_send_in n)) (λ d lt. omega arith) (least_within size 0 (may_send_in n))

pub ask_within : (size : ℕ) (n : Option Node) → OnSome (λ d. d < size) (first_ask_in size n)
unfolding first_ask_in
ask_within size n = on_more (λ d. d < 0 + size) (λ d. d < size) (least_from size 0 (may_ask_in n)) (λ d lt. omega arith) (least_within size 0 (may_ask_in n))

turn_picked : (w : World) → OnSome (IsChoiceOf (length w.nodes)) (option_map Turn (first_turn w))
unfolding first_turn
turn_picked w =
    let size : ℕ = length w.nodes in
    let o : Option ℕ = least_from size 0 (λ x. may_turn_in (slice_get w.nodes x)) in
    on_map (IsChoiceOf size) Turn o (on_more (λ x. x < 0 + size) (λ x. IsChoiceOf size (Turn x)) o (λ x lt. (tt, omega arith)) (least_within size 0 (λ x. may_turn_in (slice_get w.nodes x))))

copy_picked : (w : World) → OnSome (IsChoiceOf (length w.nodes)) (option_map Deliver (first_copy w))
unfolding OnSome
copy_picked w = by (first_copy w)
  where
    by : (o : Option ℕ) → OnSome (IsChoiceOf (length w.nodes)) (option_map Deliver o)
    by None = tt
    by (Some id) = (tt, tt)

send_picked : (w : World) → OnSome (IsChoiceOf (length w.nodes)) (option_map (λ p. Send p.0 p.1) (first_send w))
unfolding first_send
send_picked w =
    let size : ℕ = length w.nodes in
    let found : ℕ → Option ℕ = λ x. first_send_in size (slice_get w.nodes x) in
    let o : Option (ℕ × ℕ) = least_pair_from size 0 found in
    on_map (IsChoiceOf size) (λ p. Send p.0 p.1) o
    (on_more (Both (0 + size) size) (λ p. IsChoiceOf size (Send p.0 p.1)) o (λ p lt. (tt, (omega (arith, lt.0), lt.1))) (pair_within size 0 size found (λ x. send_within size (slice_get w.nodes x))))

ask_picked : (w : World) → OnSome (IsChoiceOf (length w.nodes)) (option_map (λ p. Ask p.0 p.1) (first_ask w))
unfolding first_ask
ask_picked w =
    let size : ℕ = length w.nodes in
    let found : ℕ → Option ℕ = λ x. first_ask_in size (slice_get w.nodes x) in
    let o : Option (ℕ × ℕ) = least_pair_from size 0 found in
    on_map (IsChoiceOf size) (λ p. Ask p.0 p.1) o
    (on_more (Both (0 + size) size) (λ p. IsChoiceOf size (Ask p.0 p.1)) o (λ p lt. (tt, (omega (arith, lt.0), lt.1))) (pair_within size 0 size found (λ x. ask_within size (slice_get w.nodes x))))

pub picked : (w : World) → OnSome (IsChoiceOf (length w.nodes)) (pick w)
unfolding pick
picked w = first_on (IsChoiceOf (length w.nodes))
    (option_map Turn (first_turn w) ∷ option_map Deliver (first_copy w) ∷ option_map (λ p. Send p.0 p.1) (first_send w) ∷ option_map (λ p. Ask p.0 p.1) (first_ask w) ∷ [])
    (turn_picked w, (copy_picked w, (send_picked w, (ask_picked w, tt))))

-- ---- the choice

pub pick_is_enabled : PickIsEnabled
unfolding OnSome
pick_is_enabled w e is =
    let of : IsChoiceOf (length w.nodes) e = subst (OnSome (IsChoiceOf (length w.nodes))) is (picked w) in
    (of.0, of.1, pick_goes w e is)
