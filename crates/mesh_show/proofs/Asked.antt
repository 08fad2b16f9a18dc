-- The requests of one originator, by rising id.
use Rattle.std.proofs.Common.{◌≡◌, ℕ, zero, suc, ◌+◌, ◌-◌, ◌<◌, ◌≤◌, Bool, true, false, cond, List, [], ◌∷◌, ◌++◌, Option, Some, None, Result, refl, sym, ap, ◌∙◌, arith}
use Rattle.std.specs.Prelude.{if◌then◌else◌}
use Rattle.std.specs.List.{flat_map}
use Rattle.std.specs.Io.KnownBytes.{Appends}
use Rattle.std.proofs.lemmas.List.{append-nil}
use Rattle.std.proofs.lemmas.List.Concat.{flat_map-append}
use Rattle.mesh_base.specs.Meshes.{Nodes}
use Rattle.mesh_io.specs.Puts.{AppendsPrefix, Puts}
use Rattle.mesh_io.proofs.Writing.{AppendsPrefix-more, Puts-join}
use Rattle.aodv_asked.specs.Requests.{IsLeastIdFrom, ids_below, ids_beside}
use Rattle.aodv_asked.proofs.Listed.{seen_below}
use Rattle.aodv_model.specs.Cores.{SeenRequests, has_seen, next_request_id}
use Rattle.mesh_text.specs.Tables.{asked_line}
use Rattle.mesh_show.proofs.Tables.{each_from, each_whole}

-- the line of a request, where it was seen
abbrev pub line_if_seen : Nodes → SeenRequests → ℕ → ℕ → List ℕ
line_if_seen mesh seen o id = if has_seen seen (o, id) then asked_line mesh o id else []

-- the ids that are left, from the next on
abbrev pub left_text : Nodes → SeenRequests → ℕ → Option ℕ → List ℕ
left_text mesh seen o None = []
left_text mesh seen o (Some id) = each_from (next_request_id seen o - id) id (line_if_seen mesh seen o)

abbrev pub left_count : SeenRequests → ℕ → Option ℕ → ℕ
left_count seen o None = 0
left_count seen o (Some id) = next_request_id seen o - id

-- the next id was seen
abbrev pub IsThere : SeenRequests → ℕ → Option ℕ → Type 0
IsThere seen o None = Unit {0}
IsThere seen o (Some id) = (has_seen seen (o, id) ≡ true) × (id < next_request_id seen o)

-- ---- ids that were not seen have no text

unseen : (mesh : Nodes) (seen : SeenRequests) (o id : ℕ) → has_seen seen (o, id) ≡ false → line_if_seen mesh seen o id ≡ []
unseen mesh seen o id h = ap (λ b. cond b (asked_line mesh o id) []) h

seen_text : (mesh : Nodes) (seen : SeenRequests) (o id : ℕ) → has_seen seen (o, id) ≡ true → line_if_seen mesh seen o id ≡ asked_line mesh o id
seen_text mesh seen o id h = ap (λ b. cond b (asked_line mesh o id) []) h

none_of : (mesh : Nodes) (seen : SeenRequests) (o n from : ℕ) → ((id : ℕ) → from ≤ id → has_seen seen (o, id) ≡ false) → each_from n from (line_if_seen mesh seen o) ≡ []
none_of mesh seen o zero from h = refl
none_of mesh seen o (suc n) from h =
    ap (λ l. l ++ each_from n (from + 1) (line_if_seen mesh seen o)) (unseen mesh seen o from (h from (omega arith))) ∙ none_of mesh seen o n (from + 1) (λ id le. h id (omega arith))

skip_to : (mesh : Nodes) (seen : SeenRequests) (o k n from : ℕ) → ((id : ℕ) → from ≤ id → id < from + k → has_seen seen (o, id) ≡ false)
    → each_from (k + n) from (line_if_seen mesh seen o) ≡ each_from n (from + k) (line_if_seen mesh seen o)
skip_to mesh seen o zero n from h =
    let f : ℕ → List ℕ = line_if_seen mesh seen o in
    let a : 0 + n ≡ n = omega arith in
    let b : from ≡ from + 0 = omega arith in
    ap (λ x. each_from x from f) a ∙ ap (λ x. each_from n x f) b
skip_to mesh seen o (suc k) n from h =
    let f : ℕ → List ℕ = line_if_seen mesh seen o in
    let a : suc k + n ≡ suc (k + n) = omega arith in
    let b : from + 1 + k ≡ from + suc k = omega arith in
    ap (λ x. each_from x from f) a ∙ ap (λ l. l ++ each_from (k + n) (from + 1) f) (unseen mesh seen o from (h from (omega arith) (omega arith)))
    ∙ skip_to mesh seen o k n (from + 1) (λ id le lt. h id (omega arith) (omega arith)) ∙ ap (λ x. each_from n x f) b

-- what is left from a number on is what is left from the least id that is there
left_is : (mesh : Nodes) (seen : SeenRequests) (o from : ℕ) (r : Option ℕ) → IsLeastIdFrom seen o from r
    → each_from (next_request_id seen o - from) from (line_if_seen mesh seen o) ≡ left_text mesh seen o r
left_is mesh seen o from None h = none_of mesh seen o (next_request_id seen o - from) from h
left_is mesh seen o from (Some least) h =
    let f : ℕ → List ℕ = line_if_seen mesh seen o in
    let lt = seen_below seen o least h.1 in
    let a : next_request_id seen o - from ≡ (least - from) + (next_request_id seen o - least) = omega (arith, h.0, lt) in
    let b : from + (least - from) ≡ least = omega (arith, h.0) in
    ap (λ x. each_from x from f) a ∙ skip_to mesh seen o (least - from) (next_request_id seen o - least) from (λ id le l. h.2 id le (omega (arith, h.0)))
    ∙ ap (λ x. each_from (next_request_id seen o - least) x f) b

-- ---- the loop

pub there_is : (seen : SeenRequests) (o from : ℕ) (r : Option ℕ) → IsLeastIdFrom seen o from r → IsThere seen o r
there_is seen o from None h = tt
there_is seen o from (Some least) h = (h.1, seen_below seen o least h.1)

pub fewer_left : (seen : SeenRequests) (o id : ℕ) (r : Option ℕ) → IsThere seen o (Some id) → IsLeastIdFrom seen o (id + 1) r → left_count seen o r < left_count seen o (Some id)
fewer_left seen o id None h l = omega (arith, h.1)
fewer_left seen o id (Some least) h l = omega (arith, h.1, l.0, seen_below seen o least l.1)

id_step : (mesh : Nodes) (seen : SeenRequests) (o id : ℕ) (r : Option ℕ) → IsThere seen o (Some id) → IsLeastIdFrom seen o (id + 1) r
    → left_text mesh seen o (Some id) ≡ asked_line mesh o id ++ left_text mesh seen o r
id_step mesh seen o id r h l =
    let f : ℕ → List ℕ = line_if_seen mesh seen o in
    let a : next_request_id seen o - id ≡ suc (next_request_id seen o - (id + 1)) = omega (arith, h.1) in
    ap (λ x. each_from x id f) a ∙ ap (λ x. x ++ each_from (next_request_id seen o - (id + 1)) (id + 1) f) (seen_text mesh seen o id h.0)
    ∙ ap (λ x. asked_line mesh o id ++ x) (left_is mesh seen o (id + 1) r l)

pub id_goes : {T E : Type 0} (mesh : Nodes) (seen : SeenRequests) (o id : ℕ) (next : Option ℕ) (a b c : Option (List ℕ)) (r : Result T E) → IsThere seen o (Some id) → IsLeastIdFrom seen o (id + 1) next
    → Appends a b (asked_line mesh o id) → Puts b c (left_text mesh seen o next) r → Puts a c (left_text mesh seen o (Some id)) r
id_goes mesh seen o id next a b c r h l p q =
    Puts-join a b c (asked_line mesh o id) (left_text mesh seen o next) (left_text mesh seen o (Some id)) r (id_step mesh seen o id next h l) p q

pub id_stops : (mesh : Nodes) (seen : SeenRequests) (o id : ℕ) (a b : Option (List ℕ)) → IsThere seen o (Some id) → AppendsPrefix a b (asked_line mesh o id) → AppendsPrefix a b (left_text mesh seen o (Some id))
id_stops mesh seen o id a b h p =
    let f : ℕ → List ℕ = line_if_seen mesh seen o in
    let n : next_request_id seen o - id ≡ suc (next_request_id seen o - (id + 1)) = omega (arith, h.1) in
    AppendsPrefix-more a b (asked_line mesh o id) (each_from (next_request_id seen o - (id + 1)) (id + 1) f) (left_text mesh seen o (Some id))
    (ap (λ x. each_from x id f) n ∙ ap (λ x. x ++ each_from (next_request_id seen o - (id + 1)) (id + 1) f) (seen_text mesh seen o id h.0)) p

-- ---- the whole

ids_more : (f : ℕ → List ℕ) (ids : List ℕ) (n : ℕ) (b : Bool) → flat_map f (cond b (ids ++ n ∷ []) ids) ≡ flat_map f ids ++ cond b (f n) []
ids_more f ids n true = flat_map-append f ids (n ∷ []) ∙ ap (λ l. flat_map f ids ++ l) (append-nil (f n))
ids_more f ids n false = sym (append-nil (flat_map f ids))

ids_text : (mesh : Nodes) (seen : SeenRequests) (o n : ℕ) → each_from n 0 (line_if_seen mesh seen o) ≡ flat_map (asked_line mesh o) (ids_below n seen o)
unfolding ids_below
ids_text mesh seen o n =
    let f : ℕ → List ℕ = asked_line mesh o in
    let so_far : ℕ → List ℕ = λ k. flat_map f (ids_below k seen o) in
    let more : (k : ℕ) → so_far (k + 1) ≡ so_far k ++ line_if_seen mesh seen o k = λ k.
    let next : k + 1 ≡ suc k = omega arith in ap so_far next ∙ ids_more f (ids_below k seen o) k (has_seen seen (o, k)) in
    each_whole so_far (line_if_seen mesh seen o) more refl n

-- what is left at first is the whole
pub first_left : (mesh : Nodes) (seen : SeenRequests) (o : ℕ) (next : Option ℕ) → IsLeastIdFrom seen o 0 next → left_text mesh seen o next ≡ flat_map (asked_line mesh o) (ids_beside seen o)
first_left mesh seen o next l =
    let n : next_request_id seen o - 0 ≡ next_request_id seen o = omega arith in
    sym (left_is mesh seen o 0 next l) ∙ ap (λ x. each_from x 0 (line_if_seen mesh seen o)) n ∙ ids_text mesh seen o (next_request_id seen o)
