-- The ids beside an originator, one by one.
use Rattle.std.proofs.Common.{◌≡◌, ◌<◌, ◌≤◌, ℕ, zero, suc, true, false, [], ◌∷◌, ◌++◌, Some, None, sym, ap, ◌∙◌, arith, inl, inr}
use Rattle.std.specs.FinSet as sets
use Rattle.std.proofs.lemmas.Bool.{cases_lt}
use Rattle.aodv_model.specs.Cores.{SeenRequests, last_request_id, next_request_id}
use Rattle.aodv_asked.specs.Requests.{ids_below, ids_beside, IsLeastIdFrom}
use Rattle.aodv_asked.proofs.RowLaws.{up_to_greatest}

pub seen_below : (seen : SeenRequests) (o id : ℕ) → sets.contains seen (o, id) ≡ true → id < next_request_id seen o
unfolding next_request_id last_request_id
seen_below seen o id here =
    let up = up_to_greatest (sets.items seen) o id (sym (sets.contains-items seen (o, id)) ∙ here) in
    omega arith

-- none was seen from a number on, up to another
pub ids_none : (seen : SeenRequests) (o n from : ℕ) → from ≤ n → ((id : ℕ) → from ≤ id → id < n → sets.contains seen (o, id) ≡ false) → ids_below n seen o ≡ ids_below from seen o
unfolding ids_below
ids_none seen o zero from le none = let is : 0 ≡ from = omega arith in ap (λ k. ids_below k seen o) is
ids_none seen o (suc n) from le none = elim (cases_lt n from) [
  | inl less ↦ let is : suc n ≡ from = omega arith in ap (λ k. ids_below k seen o) is
  | inr ge ↦ rw (none n ge (omega arith)) (ids_none seen o n from ge (λ id a b. none id a (omega arith)))
]

-- the next one
pub ids_next : (seen : SeenRequests) (o from id : ℕ) → IsLeastIdFrom seen o from (Some id) → ids_below (suc id) seen o ≡ ids_below from seen o ++ id ∷ []
unfolding ids_below
ids_next seen o from id least = rw least.1 (ap (λ xs. xs ++ id ∷ []) (ids_none seen o id from least.0 least.2))

-- there is no next one
pub ids_last : (seen : SeenRequests) (o from : ℕ) → from ≤ next_request_id seen o → IsLeastIdFrom seen o from None → ids_beside seen o ≡ ids_below from seen o
ids_last seen o from le none = ids_none seen o (next_request_id seen o) from le (λ id a b. none id a)
