-- The ids of an originator, one after another.
use Rattle.std.proofs.Common.{◌≡◌, ℕ, suc, ◌+◌, ◌-◌, ◌<◌, ◌≤◌, true, List, [], ◌∷◌, ◌++◌, map, Option, Some, None, sym, ap, subst, ◌∙◌, arith}
use Rattle.std.specs.List.{flat_map}
use Rattle.std.specs.FinSet as sets
use Rattle.std.proofs.lemmas.List.{map-append}
use Rattle.aodv_model.specs.Cores.{SeenRequests, last_request_id, next_request_id}
use Rattle.aodv_asked.specs.Requests.{IsLeastIdFrom, ids_below, ids_beside}
use Rattle.aodv_asked.proofs.Listed.{seen_below, ids_next, ids_last}
use Rattle.mesh_save.specs.Links.{pairs_from}
use Rattle.mesh_save.proofs.Puts.{push}

-- the ids below a number were put, and the next is the least from it on
pub record AreIdsPut {S : Type 0} (wrote : S → List ℕ → S → Type 0) (put : ℕ × ℕ → List ℕ) (seen : SeenRequests) (o : ℕ) (next : Option ℕ) (p q : S) : Type 0 where
  pub from : ℕ
  pub within : from ≤ next_request_id seen o
  pub least : IsLeastIdFrom seen o from next
  pub written : wrote p (flat_map put (pairs_from seen o from)) q

-- the id after the last of 32 bits
pub after_last : (seen : SeenRequests) (o : ℕ) → last_request_id seen o ≡ 4294967295 → next_request_id seen o ≡ 4294967296
unfolding next_request_id
after_last seen o last = omega (arith, last)

-- how many may still come
pub ids_left : SeenRequests → ℕ → Option ℕ → ℕ
ids_left seen o None = 0
ids_left seen o (Some id) = suc (next_request_id seen o - id)

pub fewer_left : (seen : SeenRequests) (o id : ℕ) (next : Option ℕ) → sets.contains seen (o, id) ≡ true → IsLeastIdFrom seen o (id + 1) next → ids_left seen o next < ids_left seen o (Some id)
unfolding ids_left
fewer_left seen o id None here least = omega arith
fewer_left seen o id (Some n) here least = omega (arith, least.0, seen_below seen o n least.1, seen_below seen o id here)

pub none_put : {S : Type 0} (wrote : S → List ℕ → S → Type 0) (put : ℕ × ℕ → List ℕ) (seen : SeenRequests) (o : ℕ) (next : Option ℕ) (p : S) → IsLeastIdFrom seen o 0 next → wrote p [] p → AreIdsPut wrote put seen o next p p
unfolding ids_below
none_put wrote put seen o next p least none = record { from = 0; within = omega arith; least = least; written = none }

pub one_put : {S : Type 0} (wrote : S → List ℕ → S → Type 0) → ((p q r : S) (a b : List ℕ) → wrote p a q → wrote q b r → wrote p (a ++ b) r) → (put : ℕ × ℕ → List ℕ) (seen : SeenRequests) (o id : ℕ) (next : Option ℕ) (p q r : S) → AreIdsPut wrote put seen o (Some id) p q → wrote q (put (o, id)) r → IsLeastIdFrom seen o (id + 1) next
    → AreIdsPut wrote put seen o next p r
one_put wrote joins put seen o id next p q r before one least =
    let up : id + 1 ≡ suc id = omega arith in
    let grown : pairs_from seen o (id + 1) ≡ pairs_from seen o before.from ++ (o, id) ∷ [] =
    ap (pairs_from seen o) up ∙ ap (map (λ i. (o, i))) (ids_next seen o before.from id before.least) ∙ map-append (λ i. (o, i)) (ids_below before.from seen o) (id ∷ []) in
    record {
      from = id + 1;
      within = omega (arith, seen_below seen o id before.least.1);
      least = least;
      written = subst (λ (l : List (ℕ × ℕ)). wrote p (flat_map put l) r) (sym grown) (push wrote joins put (pairs_from seen o before.from) (o, id) p q r before.written one);
    }

pub all_put : {S : Type 0} (wrote : S → List ℕ → S → Type 0) (put : ℕ × ℕ → List ℕ) (seen : SeenRequests) (o : ℕ) (p q : S) → AreIdsPut wrote put seen o None p q → wrote p (flat_map put (map (λ id. (o, id)) (ids_beside seen o))) q
all_put wrote put seen o p q are =
    subst (λ (l : List ℕ). wrote p (flat_map put (map (λ id. (o, id)) l)) q) (sym (ids_last seen o are.from are.within are.least)) are.written
