-- What is known of a neighbour's list before a turn.
use Rattle.std.proofs.Common.{◌≡◌, ℕ, zero, suc, ◌+◌, ◌<◌, ◌≤◌, ◌==◌, Bool, true, false, ◌&&◌, List, [], ◌∷◌, length, Option, Some, None, refl, sym, ap, subst, ◌∙◌, arith}
use Rattle.std.specs.Prelude.{slice_get, slice_set, reverse}
use Rattle.std.specs.FinMap as maps
use Rattle.std.specs.Ordering.{nat_cmp}
use Rattle.std.proofs.lemmas.Bool.{eqb-true, and_parts}
use Rattle.std.proofs.lemmas.List.{reverse-reverse}
use Rattle.std.proofs.lemmas.Option.{none-some}
use Rattle.aodv_model.specs.Quality.{is_val}
use Rattle.aodv_model.specs.declared.entry.Entry.{Entry}
use Rattle.aodv_model.proofs.Readings.{valid_flag}
use Rattle.mesh_model.specs.Trails.{around}
use Rattle.mesh_model.specs.Walks.{rt_in, table}
use Rattle.mesh_model.specs.Worlds.{Node}
use Rattle.mesh_model.specs.Held.{IsEntryWalk, NodeHolds}
use Rattle.mesh_world.specs.Seen.{WorldSeen}
use Rattle.mesh_trail.specs.declared.heard.Front.{Front}
use Rattle.mesh_trail.specs.declared.heard.Front.TheVariants as fronts
use Rattle.mesh_trail.specs.declared.lists.Hand.{Hand}
use Rattle.mesh_trail.specs.declared.lists.NodeLists.{NodeLists}
use Rattle.mesh_trail.specs.declared.casts.Cast.{Cast}
use Rattle.mesh_trail.specs.Heard.{is_known, knows}
use Rattle.mesh_trail.specs.Lists.{put_if, row}
use Rattle.mesh_trail.specs.Steps.{FitsReply, IsPrepared, KnowsNear, front_list}
use Rattle.mesh_trail.specs.Trails.{AreWalks, kept_lists, rows_of}

-- ---- a list that is there already

pub put_there : (near : Bool) (y : ℕ) (l : List ℕ) (rows : List (List ℕ)) → y < length rows → row rows y ≡ l → put_if near y l rows ≡ rows
put_there false y l rows below is = refl
put_there true y l rows below is = there rows y below is
  where
    there : (rows : List (List ℕ)) (y : ℕ) → y < length rows → row rows y ≡ l → slice_set rows y l ≡ rows
    there [] y below is = absurd (omega arith)
    there (r ∷ rs) zero below is = ap (λ (k : List ℕ). k ∷ rs) (sym is)
    there (r ∷ rs) (suc y) below is = ap (λ (ks : List (List ℕ)). r ∷ ks) (there rs y (omega arith) is)

pub put_off : (near : Bool) (y : ℕ) (l : List ℕ) (rows : List (List ℕ)) → near ≡ false → put_if near y l rows ≡ rows
put_off false y l rows is = refl
put_off true y l rows is = cc

-- ---- a valid entry of one hop

none_more : (others : List ℕ) (y : ℕ) → length (y ∷ others) ≡ 1 → others ≡ []
none_more [] y is = refl
none_more (z ∷ zs) y is = absurd (omega arith)

row_is : (w : WorldSeen) (nodes : List NodeLists) (casts : List Cast) (x y : ℕ) (n : NodeLists) (m : Option Node) (o : Option Entry) → AreWalks w nodes casts → slice_get nodes x ≡ Some n
    → slice_get (w.world).nodes x ≡ m → maps.get (table w.world x) y ≡ o → is_known y o ≡ true → row (n.entries).items y ≡ y ∷ x ∷ []
row_is w nodes casts x y n m None t at is there known = cc
row_is w nodes casts x y n None (Some e) t at is there known = absurd (none-some e (sym (maps.get-empty nat_cmp y) ∙ sym (ap (λ o. maps.get (rt_in o) y) is) ∙ there))
row_is w nodes casts x y n (Some m) (Some e) t at is there known =
    let h : NodeHolds (around t.variant w.world) x m ((kept_lists nodes casts).entries x) ((kept_lists nodes casts).queues x) = (t.holds).nodes x m is in
    let parts = and_parts (is_val e.flag) ((e.hops == 1) && (e.next == y)) known in
    let others = and_parts (e.hops == 1) (e.next == y) parts.1 in
    let walk : IsEntryWalk (around t.variant w.world) x y e.dsn e.hops e.next (reverse (row (rows_of (slice_get nodes x)) y)) = h.entries y e (sym (ap (λ o. maps.get (rt_in o) y) is) ∙ there) (valid_flag e.flag parts.0) in
    let one : walk.others ≡ [] = none_more walk.others e.next (walk.long ∙ eqb-true e.hops 1 others.0) in
    let two : reverse (row (n.entries).items y) ≡ x ∷ y ∷ [] = ap (λ o. reverse (row (rows_of o) y)) (sym at) ∙ walk.is ∙ (λ i. x ∷ eqb-true e.next y others.1 i ∷ one i) in
    sym (reverse-reverse (row (n.entries).items y)) ∙ ap reverse two

pub near_known : (w : WorldSeen) (nodes : List NodeLists) (casts : List Cast) (x : ℕ) (front : Front) (n : NodeLists) (hand now : Hand) → AreWalks w nodes casts → slice_get nodes x ≡ Some n
    → now.known ≡ knows (table w.world x) front → now.near ≡ hand.near → IsPrepared x front (n.entries).items (front_list (n.queue).items) hand → KnowsNear front now (n.entries).items
near_known w nodes casts x fronts.Empty n hand now t at known near r = tt
near_known w nodes casts x fronts.New n hand now t at known near r = tt
near_known w nodes casts x (fronts.Heard y s) n hand now t at known near r = λ yes.
    row_is w nodes casts x y n (slice_get (w.world).nodes x) (maps.get (table w.world x) y) t at refl refl (sym known ∙ yes) ∙ sym (near ∙ r.near)

-- ---- whether a node is prepared depends on the lists in hand alone

pub prepared_so : (x : ℕ) (front : Front) (rows : List (List ℕ)) (l : List ℕ) (hand now : Hand) → now.near ≡ hand.near → now.announced ≡ hand.announced → now.room ≡ hand.room → IsPrepared x front rows l hand → IsPrepared x front rows l now
prepared_so x fronts.Empty rows l hand now near announced room r = subst (λ k. 1 ≤ k) (sym room) r
prepared_so x fronts.New rows l hand now near announced room r = subst (λ k. 1 ≤ k) (sym room) r
prepared_so x (fronts.Heard y s) rows l hand now near announced room r = record {
  near = near ∙ r.near;
  announced = announced ∙ r.announced;
  two = subst (λ k. 2 ≤ k) (sym room) r.two;
  more = subst (λ k. length l + 1 ≤ k) (sym room) r.more;
  reply = subst (λ k. FitsReply rows k s) (sym room) r.reply;
}
