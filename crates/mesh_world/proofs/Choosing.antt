-- What is read off the kept sets is the least of its kind.
use Rattle.std.proofs.Common.{◌≡◌, ℕ, zero, suc, ◌+◌, ◌<◌, Bool, true, false, List, length, map, Some, None, Option, refl, ap, sym, ◌∙◌, subst, arith, inl, inr}
use Rattle.std.specs.Prelude.{if◌then◌else◌, is_some, option_map, slice_get, IfSome}
use Rattle.std.specs.FinSet as sets
use Rattle.std.proofs.lemmas.Bool.{cases_lt}
use Rattle.std.proofs.lemmas.List.{length-map}
use Rattle.std.proofs.lemmas.Option.{none-some, same_Some, slice_get-map, slice_get_within}
use Rattle.mesh_base.specs.Members.{NodeIds, IsLeastFrom}
use Rattle.mesh_base.specs.Meshes.{Nodes}
use Rattle.aodv_model.specs.Handlers.{may_send, may_ask}
use Rattle.aodv_node.specs.Seen.{NodeSeen}
use Rattle.mesh_radio.specs.Radios.{RadioState}
use Rattle.mesh_model.specs.Worlds.{Node}
use Rattle.mesh_model.specs.Choices.{least_from, may_turn_in, may_send_in, may_ask_in, first_turn, first_send_in, first_ask_in, first_send, first_ask}
use Rattle.mesh_model.proofs.Picks.{least_of, with_found, least_pair_of}
use Rattle.mesh_world.specs.Seen.{node_in}
use Rattle.mesh_world.specs.Kept.{world_in, Ready}
use Rattle.mesh_world.specs.Noted.{AreReadyIn}
use Rattle.mesh_world.proofs.ReadySets.{none_passes, least_found, least_same}

-- ---- a test that some number below n passes

least_if_some : (n : ℕ) (s : NodeIds) (p : ℕ → Bool) (o : Option ℕ) → ((q : ℕ) → sets.contains s q ≡ p q) → is_some (least_from n 0 p) ≡ true → IsLeastFrom s 0 o → least_from n 0 p ≡ o
least_if_some n s p None same some least = none_passes n 0 n p (omega arith) (λ q above under. sym (same q) ∙ least q above)
least_if_some n s p (Some m) same some least = elim (cases_lt m n) [
  | inl lt ↦ least_found n 0 n m p (omega arith) (omega arith) lt (sym (same m) ∙ least.1) (λ q above under. sym (same q) ∙ least.2 q above under)
  | inr le ↦ absurd (differ (sym (ap is_some (none_passes n 0 n p (omega arith) (λ q above under. sym (same q) ∙ least.2 q above (omega arith)))) ∙ some))
]
  where
    differ : false ≡ true → ⊥
    differ e = cc

least_within_case : (k i m : ℕ) (p : ℕ → Bool) (b : Bool) → (if b then Some i else least_from k (i + 1) p) ≡ Some m → (least_from k (i + 1) p ≡ Some m → m < (i + 1) + k) → m < i + suc k
least_within_case k i m p true is rest = let same : i ≡ m = same_Some i m is in omega arith
least_within_case k i m p false is rest = let l : m < (i + 1) + k = rest is in omega arith

least_within : (k i m : ℕ) (p : ℕ → Bool) → least_from k i p ≡ Some m → m < i + k
least_within zero i m p is = absurd (none-some m is)
least_within (suc k) i m p is = least_within_case k i m p (p i) is (λ e. least_within k (i + 1) m p e)

-- ---- nodes of a world

count_in : (mesh : Nodes) (nodes : List NodeSeen) → length (map (node_in mesh) nodes) ≡ length nodes
count_in mesh nodes = length-map nodes (node_in mesh)

within_of : (mesh : Nodes) (nodes : List NodeSeen) (f : Option Node → Bool) (x : ℕ) → f None ≡ false → f (slice_get (map (node_in mesh) nodes) x) ≡ true → x < length nodes
within_of mesh nodes f x none is = by (slice_get (map (node_in mesh) nodes) x) refl
  where
    differ : true ≡ false → ⊥
    differ e = cc

    by : (o : Option Node) → slice_get (map (node_in mesh) nodes) x ≡ o → x < length nodes
    by None e = absurd (differ (sym is ∙ (ap f e ∙ none)))
    by (Some n) e = subst (λ k. x < k) (count_in mesh nodes) (slice_get_within (map (node_in mesh) nodes) x n e)

node_at : (mesh : Nodes) (nodes : List NodeSeen) (x : ℕ) (n : NodeSeen) → slice_get nodes x ≡ Some n → slice_get (map (node_in mesh) nodes) x ≡ Some (node_in mesh n)
node_at mesh nodes x n is = slice_get-map (node_in mesh) nodes x ∙ ap (option_map (node_in mesh)) is

none_send : (size : ℕ) → is_some (first_send_in size None) ≡ false
unfolding first_send_in
none_send size = ap is_some (none_passes size 0 size (may_send_in None) (omega arith) (λ q above under. refl))

none_ask : (size : ℕ) → is_some (first_ask_in size None) ≡ false
unfolding first_ask_in
none_ask size = ap is_some (none_passes size 0 size (may_ask_in None) (omega arith) (λ q above under. refl))

module _ (mesh : Nodes) (nodes : List NodeSeen) (ready : Ready) (are : AreReadyIn mesh nodes ready) where
  turn_within : (x : ℕ) → sets.contains ready.turns x ≡ true → x < length nodes
  turn_within x is = within_of mesh nodes may_turn_in x refl (sym (are.sets.turns x) ∙ is)

  pub send_within : (x : ℕ) → sets.contains ready.sends x ≡ true → x < length nodes
  send_within x is = within_of mesh nodes (λ o. is_some (first_send_in (length mesh) o)) x (none_send (length mesh)) (sym (are.sets.sends x) ∙ is)

  pub ask_within : (x : ℕ) → sets.contains ready.asks x ≡ true → x < length nodes
  ask_within x is = within_of mesh nodes (λ o. is_some (first_ask_in (length mesh) o)) x (none_ask (length mesh)) (sym (are.sets.asks x) ∙ is)

  -- ---- turns

  pub turn_first : (radio : RadioState) (r : Option ℕ) → IsLeastFrom ready.turns 0 r → r ≡ first_turn (world_in mesh nodes radio)
  unfolding first_turn world_in
  turn_first radio r least =
      least_of (length (map (node_in mesh) nodes)) ready.turns (λ x. may_turn_in (slice_get (map (node_in mesh) nodes) x)) (λ q l. are.sets.turns q)
      (λ q is. subst (λ k. q < k) (sym (count_in mesh nodes)) (turn_within q is)) r least

  pub turn_in : (r : Option ℕ) → IsLeastFrom ready.turns 0 r → IfSome r (λ x. x < length nodes)
  turn_in None least = tt
  turn_in (Some x) least = turn_within x least.1

  -- ---- sends

  size_is : length (map (node_in mesh) nodes) ≡ length mesh
  size_is = count_in mesh nodes ∙ are.count

  sends_found : ℕ → Option ℕ
  sends_found x = first_send_in (length (map (node_in mesh) nodes)) (slice_get (map (node_in mesh) nodes) x)

  sends_same : (q : ℕ) → sets.contains ready.sends q ≡ is_some (first_send_in (length (map (node_in mesh) nodes)) (slice_get (map (node_in mesh) nodes) q))
  sends_same q = are.sets.sends q ∙ ap (λ k. is_some (first_send_in k (slice_get (map (node_in mesh) nodes) q))) (sym size_is)

  pub send_first : (radio : RadioState) (r : Option ℕ) → IsLeastFrom ready.sends 0 r → with_found (λ x. first_send_in (length (map (node_in mesh) nodes)) (slice_get (map (node_in mesh) nodes) x)) r ≡ first_send (world_in mesh nodes radio)
  unfolding first_send world_in
  send_first radio r least =
      least_pair_of (length (map (node_in mesh) nodes)) ready.sends (λ x. first_send_in (length (map (node_in mesh) nodes)) (slice_get (map (node_in mesh) nodes) x)) (λ q l. sends_same q)
      (λ q is. subst (λ k. q < k) (sym (count_in mesh nodes)) (send_within q is)) r least

  -- the destination that is found at the node
  pub send_dest : (x : ℕ) (n : NodeSeen) (s : NodeIds) (o : Option ℕ) → slice_get nodes x ≡ Some n → sets.contains ready.sends x ≡ true → ((q : ℕ) → sets.contains s q ≡ may_send n.core q) → IsLeastFrom s 0 o
      → first_send_in (length (map (node_in mesh) nodes)) (slice_get (map (node_in mesh) nodes) x) ≡ o
  unfolding first_send_in
  send_dest x n s o there ready' may least =
      let size : ℕ = length (map (node_in mesh) nodes) in
      let at : slice_get (map (node_in mesh) nodes) x ≡ Some (node_in mesh n) = node_at mesh nodes x n there in
      let same : least_from size 0 (may_send_in (slice_get (map (node_in mesh) nodes) x)) ≡ least_from size 0 (may_send n.core) = least_same size 0 _ _ (λ q. ap (λ o. may_send_in o q) at) in
      same ∙ least_if_some size s (may_send n.core) o may (sym (ap is_some same) ∙ (sym (sends_same x) ∙ ready')) least

  -- ---- requests

  asks_same : (q : ℕ) → sets.contains ready.asks q ≡ is_some (first_ask_in (length (map (node_in mesh) nodes)) (slice_get (map (node_in mesh) nodes) q))
  asks_same q = are.sets.asks q ∙ ap (λ k. is_some (first_ask_in k (slice_get (map (node_in mesh) nodes) q))) (sym size_is)

  pub ask_first : (radio : RadioState) (r : Option ℕ) → IsLeastFrom ready.asks 0 r → with_found (λ x. first_ask_in (length (map (node_in mesh) nodes)) (slice_get (map (node_in mesh) nodes) x)) r ≡ first_ask (world_in mesh nodes radio)
  unfolding first_ask world_in
  ask_first radio r least =
      least_pair_of (length (map (node_in mesh) nodes)) ready.asks (λ x. first_ask_in (length (map (node_in mesh) nodes)) (slice_get (map (node_in mesh) nodes) x)) (λ q l. asks_same q)
      (λ q is. subst (λ k. q < k) (sym (count_in mesh nodes)) (ask_within q is)) r least

  pub ask_dest : (x : ℕ) (n : NodeSeen) (s : NodeIds) (o : Option ℕ) → slice_get nodes x ≡ Some n → sets.contains ready.asks x ≡ true → ((q : ℕ) → sets.contains s q ≡ may_ask n.core q) → IsLeastFrom s 0 o
      → first_ask_in (length (map (node_in mesh) nodes)) (slice_get (map (node_in mesh) nodes) x) ≡ o
  unfolding first_ask_in
  ask_dest x n s o there ready' may least =
      let size : ℕ = length (map (node_in mesh) nodes) in
      let at : slice_get (map (node_in mesh) nodes) x ≡ Some (node_in mesh n) = node_at mesh nodes x n there in
      let same : least_from size 0 (may_ask_in (slice_get (map (node_in mesh) nodes) x)) ≡ least_from size 0 (may_ask n.core) = least_same size 0 _ _ (λ q. ap (λ o. may_ask_in o q) at) in
      same ∙ least_if_some size s (may_ask n.core) o may (sym (ap is_some same) ∙ (sym (asks_same x) ∙ ready')) least

  -- ---- the destination is in the mesh

  pub send_dest_in : (x d : ℕ) → first_send_in (length (map (node_in mesh) nodes)) (slice_get (map (node_in mesh) nodes) x) ≡ Some d → d < length nodes
  unfolding first_send_in
  send_dest_in x d is =
      let l : d < 0 + length (map (node_in mesh) nodes) = least_within (length (map (node_in mesh) nodes)) 0 d _ is in
      let same : length (map (node_in mesh) nodes) ≡ length nodes = count_in mesh nodes in
      omega arith

  pub ask_dest_in : (x d : ℕ) → first_ask_in (length (map (node_in mesh) nodes)) (slice_get (map (node_in mesh) nodes) x) ≡ Some d → d < length nodes
  unfolding first_ask_in
  ask_dest_in x d is =
      let l : d < 0 + length (map (node_in mesh) nodes) = least_within (length (map (node_in mesh) nodes)) 0 d _ is in
      let same : length (map (node_in mesh) nodes) ≡ length nodes = count_in mesh nodes in
      omega arith
