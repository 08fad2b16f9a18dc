-- The kept sets of nodes follow the nodes.
use Rattle.std.proofs.Common.{◌≡◌, ◌≢◌, ◌↔◌, ℕ, zero, suc, ◌+◌, ◌<◌, ◌≤◌, Bool, true, false, not, ◌&&◌, ◌||◌, nat_lt, List, [], ◌∷◌, ◌++◌, length, take, map, get_or, Some, None, refl, ap, sym, subst, ◌∙◌, arith, inl, inr, eq-eqb}
use Rattle.std.specs.Prelude.{if◌then◌else◌, is_some, option_map, slice_get, slice_set, IsTrue}
use Rattle.std.specs.List.{AllByRecursion}
use Rattle.std.specs.Ordering.{nat_cmp}
use Rattle.std.specs.FinMap as maps
use Rattle.std.specs.FinSet as sets
use Rattle.std.specs.Cmp.{nat_cmp_total, unsigned_tied}
use Rattle.std.proofs.lemmas.Bool.{cases_lt, cases_eq, le-ltb, lt-ltb, ne_eqb}
use Rattle.std.proofs.lemmas.Option.{slice_get-map, slice_get-get_or}
use Rattle.std.proofs.lemmas.List.{take_more, take_all, length-take-le}
use Rattle.mesh_base.specs.Members.{NodeIds}
use Rattle.mesh_base.specs.Meshes.{Nodes}
use Rattle.mesh_base.specs.declared.events.Item.{Item}
use Rattle.mesh_base.proofs.Lemmas.Lists.{last_at}
use Rattle.aodv_model.specs.Tables.{in_vD}
use Rattle.aodv_model.specs.Cores.{Core, Store, bodies_in, needs_in, has_data, in_qD}
use Rattle.aodv_model.specs.Handlers.{may_send, may_ask}
use Rattle.aodv_meaning.specs.Effects.{item_in}
use Rattle.aodv_node.specs.Seen.{NodeSeen}
use Rattle.mesh_model.specs.Worlds.{Node}
use Rattle.mesh_model.specs.Choices.{least_from, waits, may_turn_in, may_send_in, may_ask_in, first_send_in, first_ask_in}
use Rattle.mesh_model.proofs.Lists.{set_same, set_other, each_append}
use Rattle.mesh_world.specs.Seen.{node_in}
use Rattle.mesh_world.specs.Kept.{Ready, IsReadyFor}
use Rattle.mesh_world.specs.Noted.{none_ready, with_or_without, with_turn, has_items, has_below, ready_with}

-- ---- whether a member is below n

-- none is found where none below n passes
pub none_passes : (k i n : ℕ) (p : ℕ → Bool) → i + k ≡ n → ((q : ℕ) → i ≤ q → q < n → p q ≡ false) → least_from k i p ≡ None
none_passes zero i n p all none = refl
none_passes (suc k) i n p all none = first (p i) (none i (omega arith) (omega arith)) (none_passes k (i + 1) n p (omega arith) (λ q above under. none q (omega arith) under))
  where
    first : (b : Bool) → b ≡ false → least_from k (i + 1) p ≡ None → (if b then Some i else least_from k (i + 1) p) ≡ None
    first true e rest = cc
    first false e rest = rest

-- the least number that passes is found
pub least_found : (k i n m : ℕ) (p : ℕ → Bool) → i + k ≡ n → i ≤ m → m < n → p m ≡ true → ((q : ℕ) → i ≤ q → q < m → p q ≡ false) → least_from k i p ≡ Some m
least_found zero i n m p all above under is none = absurd (omega arith)
least_found (suc k) i n m p all above under is none = elim (cases_eq i m) [
  | inl same ↦ ap (λ b. if b then Some i else least_from k (i + 1) p) (ap p same ∙ is) ∙ ap Some same
  | inr other ↦ ap (λ b. if b then Some i else least_from k (i + 1) p) (none i (omega arith) (omega arith)) ∙ least_found k (i + 1) n m p (omega arith) (omega arith) under is (λ q above under. none q (omega arith) under)
]

abbrev IsLeast : NodeIds → ℕ → Type 0
IsLeast s m = (sets.contains s m ≡ true) × ((q : ℕ) → 0 ≤ q → q < m → sets.contains s q ≡ false)

pub below_of : (n : ℕ) (s : NodeIds) (m : ℕ) → IsLeast s m → nat_lt m n ≡ has_below n (sets.contains s)
below_of n s m least = elim (cases_lt m n) [
  | inl lt ↦ lt-ltb m n lt ∙ sym (ap is_some (least_found n 0 n m (sets.contains s) (omega arith) (omega arith) lt least.0 least.1))
  | inr le ↦ le-ltb m n le ∙ sym (ap is_some (none_passes n 0 n (sets.contains s) (omega arith) (λ q above under. least.1 q above (omega arith))))
]

pub below_none : (n : ℕ) (s : NodeIds) → ((q : ℕ) → 0 ≤ q → sets.contains s q ≡ false) → false ≡ has_below n (sets.contains s)
below_none n s none = sym (ap is_some (none_passes n 0 n (sets.contains s) (omega arith) (λ q above under. none q above)))

-- the same test finds the same
pub least_same : (k i : ℕ) (p p' : ℕ → Bool) → ((q : ℕ) → p q ≡ p' q) → least_from k i p ≡ least_from k i p'
least_same zero i p p' same = refl
least_same (suc k) i p p' same =
    ap (λ b. if b then Some i else least_from k (i + 1) p) (same i) ∙ ap (λ o. if p' i then Some i else o) (least_same k (i + 1) p p' same)

pub below_same : (n : ℕ) (p p' : ℕ → Bool) → ((q : ℕ) → p q ≡ p' q) → has_below n p ≡ has_below n p'
below_same n p p' same = ap is_some (least_same n 0 p p' same)

-- ---- the code of `note`

pub filled : (items : List Item) (empty : Bool) → (IsTrue empty ↔ (items ≡ [])) → not empty ≡ has_items items
filled [] empty e = ap not (e.1 refl)
filled (item ∷ items) true e = absurd (cons_nil (e.0 refl))
  where
    cons_nil : (item ∷ items) ≡ [] → ⊥
    cons_nil same = cc
filled (item ∷ items) false e = refl

pub note_is : (r : Ready) (n : NodeSeen) (x nodes : ℕ) (turns sends asks turns' sends' asks' : NodeIds) (t s a : Bool) → record { turns = turns; sends = sends; asks = asks } ≡ r
    → turns' ≡ with_or_without t turns x → sends' ≡ with_or_without s sends x → asks' ≡ with_or_without a asks x
    → t ≡ has_items n.items → s ≡ has_below nodes (may_send n.core) → a ≡ has_below nodes (may_ask n.core)
    → record { turns = turns'; sends = sends'; asks = asks' } ≡ ready_with r x n nodes
unfolding ready_with
note_is r n x nodes turns sends asks turns' sends' asks' t s a was et es ea bt bs ba =
    let to_turns : turns' ≡ with_or_without (has_items n.items) r.turns x = et ∙ (ap (λ b. with_or_without b turns x) bt ∙ ap (λ (r : Ready). with_or_without (has_items n.items) r.turns x) was) in
    let to_sends : sends' ≡ with_or_without (has_below nodes (may_send n.core)) r.sends x = es ∙ (ap (λ b. with_or_without b sends x) bs ∙ ap (λ (r : Ready). with_or_without (has_below nodes (may_send n.core)) r.sends x) was) in
    let to_asks : asks' ≡ with_or_without (has_below nodes (may_ask n.core)) r.asks x = ea ∙ (ap (λ b. with_or_without b asks x) ba ∙ ap (λ (r : Ready). with_or_without (has_below nodes (may_ask n.core)) r.asks x) was) in
    λ i. record { turns = to_turns i; sends = to_sends i; asks = to_asks i }

-- ---- the kept sets follow a node that changed

pub at_it : (b : Bool) (s : NodeIds) (x : ℕ) → sets.contains (with_or_without b s x) x ≡ b
at_it true s x = sets.contains-insert nat_cmp_total s x x ∙ ap (λ c. c || sets.contains s x) (unsigned_tied x x ∙ eq-eqb x x refl)
at_it false s x = sets.contains-remove nat_cmp_total s x x ∙ ap (λ c. not c && sets.contains s x) (unsigned_tied x x ∙ eq-eqb x x refl)

pub at_other : (b : Bool) (s : NodeIds) (x q : ℕ) → q ≢ x → sets.contains (with_or_without b s x) q ≡ sets.contains s q
at_other true s x q apart = sets.contains-insert nat_cmp_total s x q ∙ ap (λ c. c || sets.contains s q) (unsigned_tied q x ∙ ne_eqb q x apart)
at_other false s x q apart = sets.contains-remove nat_cmp_total s x q ∙ ap (λ c. not c && sets.contains s q) (unsigned_tied q x ∙ ne_eqb q x apart)

pub follows : (s : NodeIds) (x : ℕ) (b : Bool) (f f' : ℕ → Bool) → ((q : ℕ) → sets.contains s q ≡ f q) → f' x ≡ b → ((q : ℕ) → q ≢ x → f' q ≡ f q) → (q : ℕ) → sets.contains (with_or_without b s x) q ≡ f' q
follows s x b f f' is here there q = elim (cases_eq q x) [
  | inl same ↦ ap (sets.contains (with_or_without b s x)) same ∙ (at_it b s x ∙ (sym here ∙ ap f' (sym same)))
  | inr other ↦ at_other b s x q other ∙ (is q ∙ sym (there q other))
]

pub node_here : (mesh : Nodes) (nodes : List NodeSeen) (x : ℕ) (n : NodeSeen) → x < length nodes → slice_get (map (node_in mesh) (slice_set nodes x n)) x ≡ Some (node_in mesh n)
node_here mesh nodes x n l = slice_get-map (node_in mesh) (slice_set nodes x n) x ∙ ap (option_map (node_in mesh)) (set_same nodes x n (get_or nodes x n) (slice_get-get_or nodes x n l))

pub node_there : (mesh : Nodes) (nodes : List NodeSeen) (x q : ℕ) (n : NodeSeen) → q ≢ x → slice_get (map (node_in mesh) (slice_set nodes x n)) q ≡ slice_get (map (node_in mesh) nodes) q
node_there mesh nodes x q n apart =
    slice_get-map (node_in mesh) (slice_set nodes x n) q ∙ (ap (option_map (node_in mesh)) (set_other nodes x q n apart) ∙ sym (slice_get-map (node_in mesh) nodes q))

pub waits_in : (mesh : Nodes) (items : List Item) → waits (map (item_in mesh) items) ≡ has_items items
waits_in mesh [] = refl
waits_in mesh (item ∷ items) = refl

sends_in : (size : ℕ) (n : Node) → is_some (first_send_in size (Some n)) ≡ has_below size (may_send n.core)
unfolding first_send_in
sends_in size n = below_same size (may_send_in (Some n)) (may_send n.core) (λ q. refl)

asks_in : (size : ℕ) (n : Node) → is_some (first_ask_in size (Some n)) ≡ has_below size (may_ask n.core)
unfolding first_ask_in
asks_in size n = below_same size (may_ask_in (Some n)) (may_ask n.core) (λ q. refl)

-- where a node changes and is noted, the sets are again those of the nodes
pub noted_ready : (mesh : Nodes) (nodes : List NodeSeen) (r : Ready) (x : ℕ) (n : NodeSeen) → IsReadyFor mesh nodes r → x < length nodes → IsReadyFor mesh (slice_set nodes x n) (ready_with r x n (length mesh))
unfolding ready_with
noted_ready mesh nodes r x n ready l =
    let here : slice_get (map (node_in mesh) (slice_set nodes x n)) x ≡ Some (node_in mesh n) = node_here mesh nodes x n l in
    record {
      turns = follows r.turns x (has_items n.items) (λ q. may_turn_in (slice_get (map (node_in mesh) nodes) q)) (λ q. may_turn_in (slice_get (map (node_in mesh) (slice_set nodes x n)) q))
          ready.turns (ap may_turn_in here ∙ waits_in mesh n.items) (λ q apart. ap may_turn_in (node_there mesh nodes x q n apart));
      sends = follows r.sends x (has_below (length mesh) (may_send n.core)) (λ q. is_some (first_send_in (length mesh) (slice_get (map (node_in mesh) nodes) q))) (λ q. is_some (first_send_in (length mesh) (slice_get (map (node_in mesh) (slice_set nodes x n)) q)))
          ready.sends (ap (λ o. is_some (first_send_in (length mesh) o)) here ∙ sends_in (length mesh) (node_in mesh n)) (λ q apart. ap (λ o. is_some (first_send_in (length mesh) o)) (node_there mesh nodes x q n apart));
      asks = follows r.asks x (has_below (length mesh) (may_ask n.core)) (λ q. is_some (first_ask_in (length mesh) (slice_get (map (node_in mesh) nodes) q))) (λ q. is_some (first_ask_in (length mesh) (slice_get (map (node_in mesh) (slice_set nodes x n)) q)))
          ready.asks (ap (λ o. is_some (first_ask_in (length mesh) o)) here ∙ asks_in (length mesh) (node_in mesh n)) (λ q apart. ap (λ o. is_some (first_ask_in (length mesh) o)) (node_there mesh nodes x q n apart));
    }

-- ---- an item more in an inbox

-- a set that has the node if it should is as it was
as_it_was : (s : NodeIds) (x : ℕ) (b : Bool) → sets.contains s x ≡ b → s ≡ with_or_without b s x
as_it_was s x b is = sets.same_set nat_cmp_total maps.nat_cmp-IsAntisymmetric s (with_or_without b s x)
    (λ q. sym (follows s x b (sets.contains s) (sets.contains s) (λ q. refl) is (λ q apart. refl) q))

pub some_item : (items : List Item) (i : Item) → has_items (items ++ i ∷ []) ≡ true
some_item [] i = refl
some_item (item ∷ items) i = refl

-- where an item joins an inbox, and the core is the same, the node is noted by its turn alone
pub noted_by_turn : (mesh : Nodes) (nodes : List NodeSeen) (r : Ready) (x : ℕ) (n new : NodeSeen) → IsReadyFor mesh nodes r → slice_get nodes x ≡ Some n → new.core ≡ n.core → has_items new.items ≡ true → with_turn r x ≡ ready_with r x new (length mesh)
unfolding ready_with
noted_by_turn mesh nodes r x n new ready at core some =
    let shown : slice_get (map (node_in mesh) nodes) x ≡ Some (node_in mesh n) = slice_get-map (node_in mesh) nodes x ∙ ap (option_map (node_in mesh)) at in
    let turns : sets.insert r.turns x ≡ with_or_without (has_items new.items) r.turns x = ap (λ b. with_or_without b r.turns x) (sym some) in
    let sends : r.sends ≡ with_or_without (has_below (length mesh) (may_send new.core)) r.sends x = as_it_was r.sends x (has_below (length mesh) (may_send new.core))
    (ready.sends x ∙ (ap (λ o. is_some (first_send_in (length mesh) o)) shown ∙ (sends_in (length mesh) (node_in mesh n) ∙ ap (λ c. has_below (length mesh) (may_send c)) (sym core)))) in
    let asks : r.asks ≡ with_or_without (has_below (length mesh) (may_ask new.core)) r.asks x = as_it_was r.asks x (has_below (length mesh) (may_ask new.core))
    (ready.asks x ∙ (ap (λ o. is_some (first_ask_in (length mesh) o)) shown ∙ (asks_in (length mesh) (node_in mesh n) ∙ ap (λ c. has_below (length mesh) (may_ask c)) (sym core)))) in
    λ i. record { turns = turns i; sends = sends i; asks = asks i }

-- ---- nodes that have done nothing yet

-- nothing waits, in the inbox or in the store
pub record HasNothing (n : NodeSeen) : Type 0 where
  pub items : n.items ≡ []
  pub store : (n.core).store ≡ maps.empty

no_data : (core : Core) (d : ℕ) → core.store ≡ maps.empty → in_qD core.store d ≡ false
no_data core d empty = ap (λ (s : Store). in_qD s d) empty ∙ ap (λ o. has_data (bodies_in o)) (maps.get-empty nat_cmp d)

may_not_send : (core : Core) (d : ℕ) → core.store ≡ maps.empty → may_send core d ≡ false
may_not_send core d empty = ap (λ b. b && in_vD core.rt d) (no_data core d empty)

may_not_ask : (core : Core) (d : ℕ) → core.store ≡ maps.empty → may_ask core d ≡ false
may_not_ask core d empty = ap (λ b. b && (needs_in (maps.get core.store d) && not (in_vD core.rt d))) (no_data core d empty)

-- no set has a member
pub opening_ready : (mesh : Nodes) (nodes : List NodeSeen) → AllByRecursion HasNothing nodes → IsReadyFor mesh nodes none_ready
unfolding first_send_in first_ask_in
opening_ready mesh nodes all = record {
  turns = λ x. sets.contains-empty nat_cmp x ∙ sym (no_turn nodes all x);
  sends = λ x. sets.contains-empty nat_cmp x ∙ sym (no_send nodes all x);
  asks = λ x. sets.contains-empty nat_cmp x ∙ sym (no_ask nodes all x);
}
  where
    no_turn : (nodes : List NodeSeen) → AllByRecursion HasNothing nodes → (x : ℕ) → may_turn_in (slice_get (map (node_in mesh) nodes) x) ≡ false
    no_turn [] all x = refl
    no_turn (n ∷ nodes) all zero = waits_in mesh n.items ∙ ap has_items all.0.items
    no_turn (n ∷ nodes) all (suc x) = no_turn nodes all.1 x

    no_send : (nodes : List NodeSeen) → AllByRecursion HasNothing nodes → (x : ℕ) → is_some (first_send_in (length mesh) (slice_get (map (node_in mesh) nodes) x)) ≡ false
    no_send [] all x = ap is_some (none_passes (length mesh) 0 (length mesh) (may_send_in None) (omega arith) (λ q above under. refl))
    no_send (n ∷ nodes) all zero = ap is_some (none_passes (length mesh) 0 (length mesh) (may_send_in (Some (node_in mesh n))) (omega arith) (λ q above under. may_not_send n.core q all.0.store))
    no_send (n ∷ nodes) all (suc x) = no_send nodes all.1 x

    no_ask : (nodes : List NodeSeen) → AllByRecursion HasNothing nodes → (x : ℕ) → is_some (first_ask_in (length mesh) (slice_get (map (node_in mesh) nodes) x)) ≡ false
    no_ask [] all x = ap is_some (none_passes (length mesh) 0 (length mesh) (may_ask_in None) (omega arith) (λ q above under. refl))
    no_ask (n ∷ nodes) all zero = ap is_some (none_passes (length mesh) 0 (length mesh) (may_ask_in (Some (node_in mesh n))) (omega arith) (λ q above under. may_not_ask n.core q all.0.store))
    no_ask (n ∷ nodes) all (suc x) = no_ask nodes all.1 x

-- ---- a node more at the end

pushed_there : {A : Type 0} (xs : List A) (x : A) (q : ℕ) → q ≢ length xs → slice_get (xs ++ x ∷ []) q ≡ slice_get xs q
pushed_there [] x zero apart = absurd (apart refl)
pushed_there [] x (suc q) apart = refl
pushed_there (y ∷ xs) x zero apart = refl
pushed_there (y ∷ xs) x (suc q) apart = pushed_there xs x q (λ e. apart (ap (λ (n : ℕ). suc n) e))

last_here : (mesh : Nodes) (nodes : List NodeSeen) (n : NodeSeen) → slice_get (map (node_in mesh) (nodes ++ n ∷ [])) (length nodes) ≡ Some (node_in mesh n)
last_here mesh nodes n = slice_get-map (node_in mesh) (nodes ++ n ∷ []) (length nodes) ∙ ap (option_map (node_in mesh)) (last_at nodes n)

last_there : (mesh : Nodes) (nodes : List NodeSeen) (n : NodeSeen) (q : ℕ) → q ≢ length nodes → slice_get (map (node_in mesh) (nodes ++ n ∷ [])) q ≡ slice_get (map (node_in mesh) nodes) q
last_there mesh nodes n q apart =
    slice_get-map (node_in mesh) (nodes ++ n ∷ []) q ∙ (ap (option_map (node_in mesh)) (pushed_there nodes n q apart) ∙ sym (slice_get-map (node_in mesh) nodes q))

-- where a node joins at the end and is noted, the sets are again those of the nodes
pub pushed_ready : (mesh : Nodes) (nodes : List NodeSeen) (r : Ready) (n : NodeSeen) → IsReadyFor mesh nodes r → IsReadyFor mesh (nodes ++ n ∷ []) (ready_with r (length nodes) n (length mesh))
unfolding ready_with
pushed_ready mesh nodes r n ready =
    let x = length nodes in
    let more = nodes ++ n ∷ [] in
    let here : slice_get (map (node_in mesh) more) x ≡ Some (node_in mesh n) = last_here mesh nodes n in
    record {
      turns = follows r.turns x (has_items n.items) (λ q. may_turn_in (slice_get (map (node_in mesh) nodes) q)) (λ q. may_turn_in (slice_get (map (node_in mesh) more) q))
          ready.turns (ap may_turn_in here ∙ waits_in mesh n.items) (λ q apart. ap may_turn_in (last_there mesh nodes n q apart));
      sends = follows r.sends x (has_below (length mesh) (may_send n.core)) (λ q. is_some (first_send_in (length mesh) (slice_get (map (node_in mesh) nodes) q))) (λ q. is_some (first_send_in (length mesh) (slice_get (map (node_in mesh) more) q)))
          ready.sends (ap (λ o. is_some (first_send_in (length mesh) o)) here ∙ sends_in (length mesh) (node_in mesh n)) (λ q apart. ap (λ o. is_some (first_send_in (length mesh) o)) (last_there mesh nodes n q apart));
      asks = follows r.asks x (has_below (length mesh) (may_ask n.core)) (λ q. is_some (first_ask_in (length mesh) (slice_get (map (node_in mesh) nodes) q))) (λ q. is_some (first_ask_in (length mesh) (slice_get (map (node_in mesh) more) q)))
          ready.asks (ap (λ o. is_some (first_ask_in (length mesh) o)) here ∙ asks_in (length mesh) (node_in mesh n)) (λ q apart. ap (λ o. is_some (first_ask_in (length mesh) o)) (last_there mesh nodes n q apart));
    }

-- the sets of the nodes before index k
pub record IsReadyUpTo (mesh : Nodes) (nodes : List NodeSeen) (k : ℕ) (r : Ready) : Type 0 where
  pub sets : IsReadyFor mesh (take k nodes) r

pub ready_up_to_none : (mesh : Nodes) (nodes : List NodeSeen) (r : Ready) → r ≡ none_ready → IsReadyUpTo mesh nodes 0 r
ready_up_to_none mesh nodes r is = record { sets = subst (IsReadyFor mesh []) (sym is) (opening_ready mesh [] tt) }

pub ready_up_to_more : (mesh : Nodes) (nodes : List NodeSeen) (k : ℕ) (n : NodeSeen) (r r' : Ready) (count : ℕ) → n ≡ get_or nodes k n → k < length nodes → count ≡ length mesh → r' ≡ ready_with r k n count → IsReadyUpTo mesh nodes k r → IsReadyUpTo mesh nodes (k + 1) r'
ready_up_to_more mesh nodes k n r r' count is l count_is noted_is before =
    let front : length (take k nodes) ≡ k = length-take-le k nodes (omega arith) in
    let grown : take k nodes ++ n ∷ [] ≡ take (k + 1) nodes = ap (λ (m : NodeSeen). take k nodes ++ m ∷ []) is ∙ sym (take_more nodes k n l) in
    let same : ready_with r (length (take k nodes)) n (length mesh) ≡ r' = (λ i. ready_with r (front i) n (sym count_is i)) ∙ sym noted_is in
    record { sets = subst (IsReadyFor mesh (take (k + 1) nodes)) same (subst (λ (ns : List NodeSeen). IsReadyFor mesh ns (ready_with r (length (take k nodes)) n (length mesh))) grown (pushed_ready mesh (take k nodes) r n before.sets)) }

pub ready_up_to_all : (mesh : Nodes) (nodes : List NodeSeen) (k : ℕ) (r : Ready) → length nodes ≤ k → IsReadyUpTo mesh nodes k r → IsReadyFor mesh nodes r
ready_up_to_all mesh nodes k r le up = subst (λ (ns : List NodeSeen). IsReadyFor mesh ns r) (take_all k nodes le) up.sets

-- a fact of each node before index k, and of the next
pub each_more : (P : NodeSeen → Type 0) (nodes : List NodeSeen) (k : ℕ) (n : NodeSeen) → n ≡ get_or nodes k n → k < length nodes → P n → AllByRecursion P (take k nodes) → AllByRecursion P (take (k + 1) nodes)
each_more P nodes k n is l here before =
    let grown : take k nodes ++ n ∷ [] ≡ take (k + 1) nodes = ap (λ (m : NodeSeen). take k nodes ++ m ∷ []) is ∙ sym (take_more nodes k n l) in
    subst (AllByRecursion P) grown (each_append P (take k nodes) (n ∷ []) before (here, tt))

pub each_of_all : (P : NodeSeen → Type 0) (nodes : List NodeSeen) (k : ℕ) → length nodes ≤ k → AllByRecursion P (take k nodes) → AllByRecursion P nodes
each_of_all P nodes k le all = subst (AllByRecursion P) (take_all k nodes le) all
