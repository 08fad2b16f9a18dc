-- The requests that were seen, listed originator by originator.
use Rattle.std.proofs.Common.{◌≡◌, ℕ, zero, suc, ◌+◌, ◌<◌, Bool, true, false, cond, List, [], ◌∷◌, ◌++◌, map, sym, ap, ◌∙◌, arith}
use Rattle.std.specs.FinSet as sets
use Rattle.std.proofs.lemmas.List.{append-nil, append_assoc, map_push}
use Rattle.aodv_model.specs.Cores.{SeenRequests, next_request_id}
use Rattle.aodv_model.proofs.PairKeys.{pairs_before, pairs_more, row_done}
use Rattle.aodv_asked.specs.Requests.{ids_below, ids_beside}
use Rattle.aodv_asked.proofs.Listed.{seen_below}

-- the ids, each beside its originator
abbrev pub beside : ℕ → List ℕ → List (ℕ × ℕ)
beside o ids = map (λ id. (o, id)) ids

-- one id more, if it was seen
row_more : (o n : ℕ) (front : List (ℕ × ℕ)) (ids : List ℕ) (b : Bool) → (front ++ beside o ids) ++ cond b ((o, n) ∷ []) [] ≡ front ++ beside o (cond b (ids ++ n ∷ []) ids)
row_more o n front ids true = append_assoc front (beside o ids) ((o, n) ∷ []) ∙ ap (λ xs. front ++ xs) (sym (map_push (λ id. (o, id)) ids n))
row_more o n front ids false = append-nil (front ++ beside o ids)

row_upto : (seen : SeenRequests) (o n : ℕ) → pairs_before seen (o, n) ≡ pairs_before seen (o, 0) ++ beside o (ids_below n seen o)
unfolding ids_below
row_upto seen o zero = sym (append-nil (pairs_before seen (o, 0)))
row_upto seen o (suc n) =
    let next : suc n ≡ n + 1 = omega arith in
    ap (λ k. pairs_before seen (o, k)) next
    ∙ pairs_more seen o n
    ∙ ap (λ xs. xs ++ cond (sets.contains seen (o, n)) ((o, n) ∷ []) []) (row_upto seen o n)
    ∙ row_more o n (pairs_before seen (o, 0)) (ids_below n seen o) (sets.contains seen (o, n))

-- the pairs before the next row are those before this one, and this one's, whose seconds are below n
pub rows_next : (seen : SeenRequests) (o n : ℕ) → ((id : ℕ) → sets.contains seen (o, id) ≡ true → id < n) → pairs_before seen (o + 1, 0) ≡ pairs_before seen (o, 0) ++ beside o (ids_below n seen o)
rows_next seen o n within = sym (row_done seen o n within) ∙ row_upto seen o n

-- the requests before the next originator's are those before o's, and o's
pub rows_more : (seen : SeenRequests) (o : ℕ) → pairs_before seen (o + 1, 0) ≡ pairs_before seen (o, 0) ++ beside o (ids_beside seen o)
rows_more seen o = rows_next seen o (next_request_id seen o) (seen_below seen o)
