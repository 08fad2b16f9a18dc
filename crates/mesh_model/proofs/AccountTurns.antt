-- What each turn, send and request does with the data.
use Rattle.std.proofs.Common.{◌≡◌, ℕ, ◌+◌, ◌<◌, Bool, true, false, ◌&&◌, ◌||◌, ◌==◌, List, [], ◌∷◌, refl, sym, ◌∙◌, arith, zero, suc, ◌≤◌, ◌≢◌, ◌++◌, cond, length, ap, ◌⊎◌, inl, inr}
use Rattle.std.specs.Prelude.{⊤, if◌then◌else◌}
use Rattle.std.specs.Ordering.{nat_cmp}
use Rattle.std.specs.Cmp.{nat_cmp_total, unsigned_tied}
use Rattle.std.proofs.lemmas.Bool.{eqb-true, eqb-false, ne_eqb}
use Rattle.std.specs.FinMap as maps
use Rattle.std.specs.FinSet as sets
use Rattle.aodv_model.specs.Cores.{Body, Core, Item, Message, Pkt, bodies_in, has_data, rest, Store}
use Rattle.aodv_model.specs.Handlers.{All, Cast, Many, Nothing, One, Own, Reaction, Stored, after_hearing, after_reply, after_request, ask, broken_by, data_error, error_cast, first_body, forward_own_entry, forward_reply, forward_request, link_broken, losing_if_broken, may_send, on_rerr, one, reply_for_self, reply_from_table, retract, send, took, turn, unicast}
use Rattle.aodv_model.specs.Soundness.{IsItemInMesh}
use Rattle.aodv_model.specs.Tables.{Dests, Table, dests_of, nhop, unreachable_by}
use Rattle.mesh_base.specs.Members.{NodeIds}
use Rattle.mesh_base.specs.declared.events.Variant.{Variant}
use Rattle.mesh_model.proofs.MeshSteps.{range_has}
use Rattle.mesh_model.proofs.Totals.{store-add, store-drop, store-set, store-unset}
use Rattle.mesh_model.specs.Accounts.{Test, counts, in_copy, in_dropped, in_item, in_message, in_store, in_taken, total}
use Rattle.mesh_model.specs.Worlds.{World, copies, copies_of, copies_to, members_below, range, receivers}
use Rattle.aodv_model.proofs.Reactions.{unicast_case, error_case, data_error_case, ReactionCases, turn_cases, send_cases}

abbrev pub HasNoData : Test → Cast → Type 0
HasNoData t Nothing = ⊤
HasNoData t (One y m) = in_message t m ≡ 0
HasNoData t (Many s m) = in_message t m ≡ 0
HasNoData t (All m) = in_message t m ≡ 0

-- no data move, where node ip had the store old
pub record IsStill (t : Test) (size ip : ℕ) (old : Store) (did : Reaction) : Type 0 where
  pub store : in_store t size ip (did.core).store ≡ in_store t size ip old
  pub cast : HasNoData t (did.effect).cast

error_has_none : (t : Test) (variant : Variant) (rt : Table) (dests : Dests) → HasNoData t (error_cast variant rt dests)
error_has_none t variant rt dests = error_case (HasNoData t) variant rt dests tt (λ _. refl) (λ _. refl)

retract_still : (t : Test) (size : ℕ) (core : Core) (dests : Dests) → IsStill t size core.ip core.store (retract core dests)
unfolding retract
retract_still t size core dests = record { store = store-set t size core.ip core.store (dests_of dests); cast = error_has_none t core.variant core.rt dests }

broken_still : (t : Test) (size : ℕ) (core : Core) (y : ℕ) → IsStill t size core.ip core.store (broken_by y (link_broken core y))
unfolding link_broken
broken_still t size core y = let s = retract_still t size core (unreachable_by core.rt y) in record { store = s.store; cast = s.cast }

unicast_still : (t : Test) (size : ℕ) (core : Core) (m : Message) (y : ℕ) (range : NodeIds) → in_message t m ≡ 0 → IsStill t size core.ip core.store (unicast core m y range)
unicast_still t size core m y range none = unicast_case (IsStill t size core.ip core.store) core m y range (λ _. record { store = refl; cast = none }) (broken_still t size core y)

-- ---- copies

none_in : (t : Test) (tos : List ℕ) (id x : ℕ) (m : Message) → in_message t m ≡ 0 → total (in_copy t) (copies_to tos id x m) ≡ 0
none_in t [] id x m none = refl
none_in t (to ∷ tos) id x m none = omega (arith, none, none_in t tos (id + 1) x m none)

none_of : (t : Test) (c : Cast) (tos : List ℕ) (id x : ℕ) → HasNoData t c → total (in_copy t) (copies_of c tos id x) ≡ 0
none_of t Nothing tos id x none = refl
none_of t (One y m) tos id x none = none_in t tos id x m none
none_of t (Many s m) tos id x none = none_in t tos id x m none
none_of t (All m) tos id x none = none_in t tos id x m none

no_copies : (t : Test) (w : World) (x : ℕ) (c : Cast) → HasNoData t c → total (in_copy t) (copies w x c) ≡ 0
unfolding copies
no_copies t w x c none = none_of t c (members_below (length w.nodes) (receivers (range w x) c)) w.next_copy x none

-- the members of a set that has y alone
module _ (s : NodeIds) (y : ℕ) (only_y : (q : ℕ) → sets.contains s q ≡ (q == y)) where
  none_below : (n : ℕ) → n ≤ y → members_below n s ≡ []
  unfolding members_below
  none_below zero le = refl
  none_below (suc n) le = ap (λ b. cond b (members_below n s ++ n ∷ []) (members_below n s)) (only_y n ∙ ne_eqb n y (λ e. omega arith)) ∙ none_below n (omega arith)

  one_case : (n : ℕ) → y < suc n → (n == y) ≡ true ⊎ (n == y) ≡ false → (y < n → members_below n s ≡ y ∷ []) → cond (n == y) (members_below n s ++ n ∷ []) (members_below n s) ≡ y ∷ []
  one_case n l (inl e) rest =
      let here : n ≡ y = eqb-true n y e in
      ap (λ b. cond b (members_below n s ++ n ∷ []) (members_below n s)) e ∙ ap (λ xs. xs ++ n ∷ []) (none_below n (omega arith)) ∙ ap (λ k. k ∷ []) here
  one_case n l (inr e) rest =
      let other : n ≢ y = eqb-false n y e in
      ap (λ b. cond b (members_below n s ++ n ∷ []) (members_below n s)) e ∙ rest (omega arith)

  one_below : (n : ℕ) → y < n → members_below n s ≡ y ∷ []
  unfolding members_below
  one_below zero l = absurd (omega arith)
  one_below (suc n) l =
      ap (λ b. cond b (members_below n s ++ n ∷ []) (members_below n s)) (only_y n) ∙ one_case n l (decided (n == y)) (one_below n)
    where
      decided : (b : Bool) → b ≡ true ⊎ b ≡ false
      decided true = inl refl
      decided false = inr refl

one_has : (y q : ℕ) → sets.contains (one y) q ≡ (q == y)
one_has y q = sets.contains-insert nat_cmp_total sets.empty y q ∙ ap (λ b. b || sets.contains {R = nat_cmp} sets.empty q) (unsigned_tied q y) ∙ ap (λ c. (q == y) || c) (sets.contains-empty nat_cmp q) ∙ or_false (q == y)
  where
    or_false : (b : Bool) → (b || false) ≡ b
    or_false true = refl
    or_false false = refl

near_one : (near : NodeIds) (y : ℕ) → sets.contains near y ≡ true → (q : ℕ) → sets.contains (sets.intersection (one y) near) q ≡ (q == y)
near_one near y is q = sets.contains-intersection nat_cmp_total (one y) near q ∙ ap (λ b. b && sets.contains near q) (one_has y q) ∙ at (q == y) refl
  where
    at : (b : Bool) → (q == y) ≡ b → (b && sets.contains near q) ≡ b
    at true e = ap (sets.contains near) (eqb-true q y e) ∙ is
    at false e = refl

-- a unicast in range makes one copy
one_copy : (t : Test) (w : World) (x : ℕ) (y : ℕ) (m : Message) → sets.contains (range w x) y ≡ true → total (in_copy t) (copies w x (One y m)) ≡ in_message t m
unfolding copies receivers
one_copy t w x y m is =
    ap (λ tos. total (in_copy t) (copies_to tos w.next_copy x m)) (one_below (sets.intersection (one y) (range w x)) y (near_one (range w x) y is) (length w.nodes) (range_has w x y is).0) ∙ nothing_more (in_message t m)
  where
    nothing_more : (n : ℕ) → n + 0 ≡ n
    nothing_more n = omega arith

-- ---- the account of one turn

-- what it has and sends, delivers (of what it took: `out`) and drops (`gone`), is what it had, and `had` more that it took
pub record IsAccounted (t : Test) (w : World) (x : ℕ) (core : Core) (had out gone : ℕ) (did : Reaction) : Type 0 where
  pub sum : in_store t (length w.nodes) core.ip (did.core).store + total (in_copy t) (copies w x (did.effect).cast) + (if (did.effect).deliver then out else 0) + (if (did.effect).lost then gone else 0) ≡ in_store t (length w.nodes) core.ip core.store + had

nothing : (b : Bool) (z : ℕ) → (if b then z else z) ≡ z
nothing true z = refl
nothing false z = refl

still_accounted : (t : Test) (w : World) (x : ℕ) (core : Core) (did : Reaction) → IsStill t (length w.nodes) core.ip core.store did → IsAccounted t w x core 0 0 0 did
still_accounted t w x core did s = record { sum = let c = no_copies t w x (did.effect).cast s.cast in let d = nothing (did.effect).deliver 0 in let l = nothing (did.effect).lost 0 in let e = s.store in omega arith }

own_taken : (t : Test) (ip d : ℕ) (b : Body) → (d == ip) ≡ true → in_taken t ip (if d == ip then Own b else Stored d) ≡ counts t ip d b
own_taken t ip d b e = ap (λ c. in_taken t ip (if c then Own b else Stored d)) e ∙ ap (λ k. counts t ip k b) (sym (eqb-true d ip e))

-- what is owed of a turn with the item
abbrev Accounts : Test → World → ℕ → ℕ → Core → Item → Reaction → Type 0
Accounts t w x ip core item did = IsItemInMesh (length w.nodes) ip item → IsAccounted t w x core (in_item t core.ip item) (in_taken t core.ip (took core item)) (in_dropped t (took core item)) did

accounts : (t : Test) (w : World) (x ip : ℕ) (core : Core) → ReactionCases core (range w x) (Accounts t w x ip core)
unfolding after_hearing after_request after_reply reply_for_self reply_from_table forward_request forward_reply forward_own_entry on_rerr link_broken retract
accounts t w x ip core = record {
  own = λ b d e _. record { sum = let c = no_copies t w x Nothing tt in let o = own_taken t core.ip d b e in omega arith };
  stored = λ b d _ inside. record { sum = let c = no_copies t w x Nothing tt in let e = store-add t (length w.nodes) core.ip core.store d b inside.0 in omega arith };
  arrived = λ from b d o _ _. record { sum = let c = no_copies t w x Nothing tt in omega arith };
  forwarded = λ from b d o _ _.
      unicast_case (λ did. IsAccounted t w x core (counts t o d b) (counts t o d b) (counts t o d b) (losing_if_broken did)) core (Pkt b d o) (nhop core.rt d) (range w x)
      (λ is. record { sum = let c = one_copy t w x (nhop core.rt d) (Pkt b d o) is in omega arith })
      (record { sum = let s = broken_still t (length w.nodes) core (nhop core.rt d) in let e = s.store in let c = no_copies t w x _ s.cast in omega arith });
  dropped = λ from b d o _. record { sum = let c = no_copies t w x (data_error core d) (data_error_case (HasNoData t) core d tt refl (λ _. refl)) in omega arith };
  known = λ from m _. still_accounted t w x core _ (record { store = refl; cast = tt });
  answered = λ from m _ _ _. still_accounted t w x core _ (sends (record (after_request core from m) { sn = _ }) _ _ refl);
  vouched = λ from m _ _ _ _. still_accounted t w x core _ (sends (record (after_request core from m) { rt = _ }) _ _ refl);
  flooded = λ from m _ _. still_accounted t w x core _ (record { store = refl; cast = refl });
  ended = λ from m _. still_accounted t w x core _ (record { store = refl; cast = tt });
  passed = λ from m _ _. still_accounted t w x core _ (sends (record (after_reply core from m) { rt = _ }) _ _ refl);
  restated = λ from m _ _. still_accounted t w x core _ (sends (record (after_reply core from m) { rt = _ }) _ _ refl);
  withdrawn = λ from dests _. still_accounted t w x core _ (retract_still t (length w.nodes) (after_hearing core from) _);
}
  where
    sends : (now : Core) (m : Message) (y : ℕ) → in_message t m ≡ 0 → IsStill t (length w.nodes) now.ip now.store (unicast now m y (range w x))
    sends now m y none = unicast_still t (length w.nodes) now m y (range w x) none

pub turn_accounted : (t : Test) (w : World) (x ip : ℕ) (core : Core) (item : Item) → IsItemInMesh (length w.nodes) ip item → IsAccounted t w x core (in_item t core.ip item) (in_taken t core.ip (took core item)) (in_dropped t (took core item)) (turn core (range w x) item)
turn_accounted t w x ip core = turn_cases core (range w x) (Accounts t w x ip core) (accounts t w x ip core)

-- ---- sends and requests

first_is : (bs : List Body) → has_data bs ≡ true → bs ≡ first_body bs ∷ rest bs
first_is [] e = cc
first_is (b ∷ bs) e = refl

both : (a b : Bool) → (a && b) ≡ true → a ≡ true
both true b e = refl
both false b e = cc

pub send_accounted : (t : Test) (w : World) (x : ℕ) (core : Core) (d : ℕ) → d < length w.nodes → may_send core d ≡ true → IsAccounted t w x core 0 0 0 (send core (range w x) d)
send_accounted t w x core d l may =
    let b = first_body (bodies_in (maps.get core.store d)) in
    let is : bodies_in (maps.get core.store d) ≡ b ∷ rest (bodies_in (maps.get core.store d)) = first_is (bodies_in (maps.get core.store d)) (both _ _ may) in
    send_cases (IsAccounted t w x core 0 0 0) core (range w x) d
    (λ near. record { sum = let c = one_copy t w x (nhop core.rt d) (Pkt b d core.ip) near in let e = store-drop t (length w.nodes) core.ip core.store d b (rest (bodies_in (maps.get core.store d))) l is in omega arith })
    (still_accounted t w x core _ (broken_still t (length w.nodes) core (nhop core.rt d)))

pub ask_accounted : (t : Test) (w : World) (x : ℕ) (core : Core) (d : ℕ) → IsAccounted t w x core 0 0 0 (ask core d)
unfolding ask
ask_accounted t w x core d = still_accounted t w x core _ (record { store = store-unset t (length w.nodes) core.ip core.store d; cast = refl })
