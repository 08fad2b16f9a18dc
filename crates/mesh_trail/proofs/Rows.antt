-- The lists of a node, turned round, are the lists that are kept of the world.
use Rattle.std.proofs.Common.{◌≡◌, ℕ, zero, suc, ◌<◌, ◌≤◌, Bool, true, false, not, ◌==◌, ◌&&◌, List, [], ◌∷◌, ◌++◌, map, drop, length, Option, Some, None, refl, sym, ap, subst, ◌∙◌, arith}
use Rattle.std.specs.Prelude.{slice_get, slice_set, reverse, if◌then◌else◌}
use Rattle.std.proofs.lemmas.Bool.{eqb-true, eqb-false}
use Rattle.std.proofs.lemmas.Bool.Decides.{nat_tests}
use Rattle.std.proofs.lemmas.List.{reverse-append}
use Rattle.std.proofs.Math.Bool.{and-false}
use Rattle.std.specs.FinMap as maps
use Rattle.aodv_model.specs.declared.entry.Entry.{Entry}
use Rattle.aodv_model.specs.Tables.{Table}
use Rattle.aodv_model.specs.Cores.{Message, Pkt, Rreq, Rrep, Rerr}
use Rattle.mesh_model.proofs.Lists.{set_other}
use Rattle.mesh_world.proofs.Frames.{set_got}
use Rattle.mesh_model.specs.Kept as walks
use Rattle.mesh_model.specs.Kept.{entries_after, entry_list, is_near, is_announced, is_route, first_list, own_list}
use Rattle.mesh_trail.specs.declared.said.Said.{Said}
use Rattle.mesh_trail.specs.declared.heard.Front.TheVariants as fronts
use Rattle.mesh_trail.specs.Said.{said_of, IsSaidIn}
use Rattle.mesh_trail.specs.Heard.{leads_to, announces, lesson_of}
use Rattle.mesh_trail.specs.Lists.{list_in, row, put_if, after_lesson, reply_list}
use Rattle.mesh_trail.specs.Steps.{front_list, rows_after, sent_after}

-- ---- lists turned round

pub turned_push : (l : List ℕ) (x : ℕ) → reverse (l ++ x ∷ []) ≡ x ∷ reverse l
turned_push l x = reverse-append l (x ∷ [])

pub turned_drop : (queue : List (List ℕ)) → map reverse (drop 1 queue) ≡ drop 1 (map reverse queue)
turned_drop [] = refl
turned_drop (l ∷ ls) = refl

pub turned_first : (queue : List (List ℕ)) → first_list (map reverse queue) ≡ reverse (front_list queue)
turned_first [] = refl
turned_first (l ∷ ls) = refl

-- ---- a list that is put

row_set : (rows : List (List ℕ)) (d : ℕ) (l : List ℕ) (q : ℕ) → d < length rows → row (slice_set rows d l) q ≡ (if q == d then l else row rows q)
row_set rows d l q le = by (q == d) refl
  where
    by : (b : Bool) → (q == d) ≡ b → row (slice_set rows d l) q ≡ (if q == d then l else row rows q)
    by true is = rw is (ap list_in (ap (slice_get (slice_set rows d l)) (eqb-true q d is) ∙ set_got rows d l le))
    by false is = rw is (ap list_in (set_other rows d q l (eqb-false q d is)))

row_put : (b : Bool) (rows : List (List ℕ)) (d : ℕ) (l : List ℕ) (q : ℕ) → d < length rows → row (put_if b d l rows) q ≡ (if b && (q == d) then l else row rows q)
row_put true rows d l q le = row_set rows d l q le
row_put false rows d l q le = refl

put_length : (b : Bool) (rows : List (List ℕ)) (d : ℕ) (l : List ℕ) → length (put_if b d l rows) ≡ length rows
put_length true rows d l = set_length rows d l
  where
    set_length : (rows : List (List ℕ)) (d : ℕ) (l : List ℕ) → length (slice_set rows d l) ≡ length rows
    set_length [] d l = refl
    set_length (r ∷ rows) zero l = refl
    set_length (r ∷ rows) (suc d) l = ap suc (set_length rows d l)
put_length false rows d l = refl

set_within : (rows : List (List ℕ)) (d : ℕ) (l : List ℕ) (q k : ℕ) → length l ≤ k → length (row rows q) ≤ k → length (row (slice_set rows d l) q) ≤ k
set_within [] d l q k new old = old
set_within (r ∷ rows) zero l zero k new old = new
set_within (r ∷ rows) zero l (suc q) k new old = old
set_within (r ∷ rows) (suc d) l zero k new old = old
set_within (r ∷ rows) (suc d) l (suc q) k new old = set_within rows d l q k new old

pub put_within : (b : Bool) (rows : List (List ℕ)) (d : ℕ) (l : List ℕ) (q k : ℕ) → length l ≤ k → length (row rows q) ≤ k → length (row (put_if b d l rows) q) ≤ k
put_within true rows d l q k new old = set_within rows d l q k new old
put_within false rows d l q k new old = old

-- ---- what is learnt

abbrev pick : Bool → Bool → List ℕ → List ℕ → List ℕ → List ℕ
pick a b near announced old = if a then near else if b then announced else old

turned_pick : (a b : Bool) (near announced old : List ℕ) → reverse (pick a b near announced old) ≡ pick a b (reverse near) (reverse announced) (reverse old)
turned_pick true b near announced old = refl
turned_pick false true near announced old = refl
turned_pick false false near announced old = refl

same_dest : (t n a : Bool) (near announced old : List ℕ) → (if (t && not (n && a)) && true then announced else (if n && a then near else old)) ≡ pick (a && n) (true && t) near announced old
same_dest true true true near announced old = refl
same_dest true true false near announced old = refl
same_dest true false true near announced old = refl
same_dest true false false near announced old = refl
same_dest false true true near announced old = refl
same_dest false true false near announced old = refl
same_dest false false true near announced old = refl
same_dest false false false near announced old = refl

other_dest : (t n a b : Bool) (near announced old : List ℕ) → (if (t && not (n && b)) && false then announced else (if n && a then near else old)) ≡ pick (a && n) (false && t) near announced old
other_dest true true true true near announced old = refl
other_dest true true true false near announced old = refl
other_dest true true false true near announced old = refl
other_dest true true false false near announced old = refl
other_dest true false true b near announced old = refl
other_dest true false false b near announced old = refl
other_dest false true true true near announced old = refl
other_dest false true true false near announced old = refl
other_dest false true false true near announced old = refl
other_dest false true false false near announced old = refl
other_dest false false true b near announced old = refl
other_dest false false false b near announced old = refl

turned_eq : (y d q : ℕ) → q ≡ d → (y == d) ≡ (q == y)
turned_eq y d q e = subst (λ (k : ℕ). (y == d) ≡ (k == y)) (sym e) (swap y d)
  where
    swap : (a b : ℕ) → (a == b) ≡ (b == a)
    swap a b = grind (arith, nat_tests)

row_learnt : (t n : Bool) (rows : List (List ℕ)) (y d : ℕ) (near announced : List ℕ) (q : ℕ) → y < length rows → d < length rows
    → row (put_if (t && not (n && (y == d))) d announced (put_if n y near rows)) q ≡ pick ((q == y) && n) ((q == d) && t) near announced (row rows q)
row_learnt t n rows y d near announced q ly ld =
    let size = put_length n rows y near in
    row_put (t && not (n && (y == d))) (put_if n y near rows) d announced q (omega arith)
    ∙ ap (λ (l : List ℕ). if (t && not (n && (y == d))) && (q == d) then announced else l) (row_put n rows y near q ly)
    ∙ by (q == d) refl
  where
    by : (b : Bool) → (q == d) ≡ b → (if (t && not (n && (y == d))) && (q == d) then announced else (if n && (q == y) then near else row rows q)) ≡ pick ((q == y) && n) ((q == d) && t) near announced (row rows q)
    by true is = rw (is, turned_eq y d q (eqb-true q d is)) (same_dest t n (q == y) near announced (row rows q))
    by false is = rw is (other_dest t n (q == y) (y == d) near announced (row rows q))

-- a test at q where q is y
same_at : (f : ℕ → Bool) (q y : ℕ) → ((q == y) && f q) ≡ ((q == y) && f y)
same_at f q y = by (q == y) refl
  where
    by : (b : Bool) → (q == y) ≡ b → (b && f q) ≡ (b && f y)
    by true is = ap f (eqb-true q y is)
    by false is = refl

-- what is said in an entry of the route from y to d
entry_is : (x y d n h : ℕ) (m : Message) (l : List ℕ) (q : ℕ) (old : List ℕ) (o : Option Entry) → ((e : Entry) → is_announced y m q e ≡ is_route y d n h q e)
    → entry_list x y m l q old o ≡ pick ((q == y) && leads_to y o) ((q == d) && announces y n h o) (x ∷ y ∷ []) (x ∷ l) old
entry_is x y d n h m l q old None announced = rw (and-false (q == y), and-false (q == d)) refl
entry_is x y d n h m l q old (Some e) announced = ap (λ (b : Bool). pick (is_near y q e) b (x ∷ y ∷ []) (x ∷ l) old) (announced e)

entry_unannounced : (x y : ℕ) (m : Message) (l : List ℕ) (q : ℕ) (old : List ℕ) (o : Option Entry) → ((e : Entry) → is_announced y m q e ≡ false)
    → entry_list x y m l q old o ≡ pick ((q == y) && leads_to y o) false (x ∷ y ∷ []) (x ∷ l) old
entry_unannounced x y m l q old None announced = rw (and-false (q == y)) refl
entry_unannounced x y m l q old (Some e) announced = ap (λ (b : Bool). pick (is_near y q e) b (x ∷ y ∷ []) (x ∷ l) old) (announced e)

route_row : (rt : Table) (x y d n h : ℕ) (m : Message) (rows : List (List ℕ)) (l near announced : List ℕ) (q : ℕ) → ((e : Entry) → is_announced y m q e ≡ is_route y d n h q e)
    → y < length rows → d < length rows → near ≡ y ∷ x ∷ [] → announced ≡ l ++ x ∷ []
    → reverse (row (put_if (announces y n h (maps.get rt d) && not (leads_to y (maps.get rt y) && (y == d))) d announced (put_if (leads_to y (maps.get rt y)) y near rows)) q)
    ≡ entry_list x y m (reverse l) q (reverse (row rows q)) (maps.get rt q)
route_row rt x y d n h m rows l near announced q says ly ld near_is announced_is =
    ap reverse (row_learnt (announces y n h (maps.get rt d)) (leads_to y (maps.get rt y)) rows y d near announced q ly ld)
    ∙ turned_pick ((q == y) && leads_to y (maps.get rt y)) ((q == d) && announces y n h (maps.get rt d)) near announced (row rows q)
    ∙ (λ i. pick (sym (same_at (λ k. leads_to y (maps.get rt k)) q y) i) (sym (same_at (λ k. announces y n h (maps.get rt k)) q d) i) (ap reverse near_is i) ((ap reverse announced_is ∙ turned_push l x) i) (reverse (row rows q)))
    ∙ sym (entry_is x y d n h m (reverse l) q (reverse (row rows q)) (maps.get rt q) says)

pub turned_rows : (rt : Table) (x y : ℕ) (m : Message) (rows : List (List ℕ)) (l near announced : List ℕ) (q : ℕ) → y < length rows → IsSaidIn (length rows) (said_of m) → near ≡ y ∷ x ∷ [] → announced ≡ l ++ x ∷ []
    → reverse (row (rows_after rt (fronts.Heard y (said_of m)) near announced rows) q) ≡ entries_after x y m (reverse l) rt (λ d. reverse (row rows d)) q
turned_rows rt x y (Pkt b d o) rows l near announced q ly inside near_is announced_is = refl
turned_rows rt x y (Rreq m) rows l near announced q ly inside near_is announced_is = route_row rt x y m.oip m.osn m.hops (Rreq m) rows l near announced q (λ e. refl) ly inside.0 near_is announced_is
turned_rows rt x y (Rrep m) rows l near announced q ly inside near_is announced_is = route_row rt x y m.dip m.dsn m.hops (Rrep m) rows l near announced q (λ e. refl) ly inside near_is announced_is
turned_rows rt x y (Rerr dests) rows l near announced q ly inside near_is announced_is =
    let n = leads_to y (maps.get rt y) in
    ap reverse (row_put n rows y near q ly ∙ swapped n (q == y) near (row rows q))
    ∙ turned_pick ((q == y) && n) false near announced (row rows q)
    ∙ (λ i. pick (sym (same_at (λ k. leads_to y (maps.get rt k)) q y) i) false (ap reverse near_is i) ((ap reverse announced_is ∙ turned_push l x) i) (reverse (row rows q)))
    ∙ sym (entry_unannounced x y (Rerr dests) (reverse l) q (reverse (row rows q)) (maps.get rt q) (λ e. refl))
  where
    swapped : (n a : Bool) (near old : List ℕ) → (if n && a then near else old) ≡ pick (a && n) false near announced old
    swapped true true near old = refl
    swapped true false near old = refl
    swapped false true near old = refl
    swapped false false near old = refl

pub rows_count : (rt : Table) (y : ℕ) (s : Said) (near announced : List ℕ) (rows : List (List ℕ)) → length (after_lesson (lesson_of rt y s) near announced rows) ≡ length rows
rows_count rt y s near announced rows =
    let l = lesson_of rt y s in
    put_length (l.announced && not (l.near && (l.from == l.dest))) (put_if l.near l.from near rows) l.dest announced ∙ put_length l.near rows l.from near

-- ---- what is cast

turned_choice : (b : Bool) (x : ℕ) (l : List ℕ) → reverse (if b then x ∷ [] else l) ≡ (if b then x ∷ [] else reverse l)
turned_choice true x l = refl
turned_choice false x l = refl

turned_reply : (x : ℕ) (rows : List (List ℕ)) (m : Message) → reverse (reply_list x rows (said_of m)) ≡ walks.reply_list x (λ d. reverse (row rows d)) m
turned_reply x rows (Pkt b d o) = refl
turned_reply x rows (Rreq m) = turned_choice (m.dip == x) x (row rows m.dip)
turned_reply x rows (Rrep m) = refl
turned_reply x rows (Rerr dests) = refl

pub turned_sent : (x y : ℕ) (rows : List (List ℕ)) (m : Message) (l : List ℕ) (cast : Message) → reverse (sent_after x (fronts.Heard y (said_of m)) rows l (said_of cast)) ≡ walks.sent_list x (λ d. reverse (row rows d)) m (reverse l) cast
turned_sent x y rows m l (Pkt b d o) = refl
turned_sent x y rows m l (Rreq r) = turned_push l x
turned_sent x y rows m l (Rrep r) = turned_reply x rows m
turned_sent x y rows m l (Rerr dests) = refl

pub turned_own : (x : ℕ) (rows : List (List ℕ)) (l : List ℕ) (cast : Message) → reverse (sent_after x fronts.New rows l (said_of cast)) ≡ own_list x cast
turned_own x rows l (Pkt b d o) = refl
turned_own x rows l (Rreq r) = refl
turned_own x rows l (Rrep r) = refl
turned_own x rows l (Rerr dests) = refl
