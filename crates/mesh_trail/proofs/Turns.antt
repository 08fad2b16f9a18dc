-- The lists after a turn.
use Rattle.std.proofs.Common.{◌≡◌, ℕ, ◌+◌, ◌<◌, ◌≤◌, Bool, true, false, ◌==◌, not, ◌&&◌, List, [], ◌∷◌, map, drop, length, Option, Some, None, refl, sym, ap, subst, ◌∙◌, arith}
use Rattle.std.specs.Prelude.{slice_get, slice_set, reverse, if◌then◌else◌}
use Rattle.std.specs.List.{AllByRecursion}
use Rattle.std.proofs.lemmas.List.{length-set, length_push}
use Rattle.mesh_base.specs.declared.events.Done.{Done}
use Rattle.mesh_base.specs.declared.events.Done.TheVariants as done
use Rattle.aodv_model.specs.Tables.{Table}
use Rattle.aodv_model.specs.Cores.{Core, Heard, Item, Message, New}
use Rattle.mesh_model.specs.Walks.{table}
use Rattle.mesh_model.specs.Worlds as worlds
use Rattle.mesh_model.specs.Worlds.{World, WorldEffect, Idle, Next, Node, Outcome, Turn, at_node, step, turn_of}
use Rattle.mesh_meaning.specs.Answers.{world_effect_in, outcome_in}
use Rattle.mesh_world.proofs.Frames.{each_set}
use Rattle.mesh_world.specs.Seen.{WorldSeen}
use Rattle.mesh_world.specs.Steps.{IsDone}
use Rattle.mesh_model.specs.Kept as walks
use Rattle.mesh_model.specs.Kept.{KeptLists, after_front, after_turn, changed_at, copies_in, entries_after, first_list, own_list, lists_after, walked_by, with_copies}
use Rattle.mesh_trail.specs.declared.said.Said.{Said}
use Rattle.mesh_trail.specs.declared.said.Said.TheVariants as says
use Rattle.mesh_trail.specs.declared.heard.Front.{Front}
use Rattle.mesh_trail.specs.declared.heard.Front.TheVariants as fronts
use Rattle.mesh_trail.specs.declared.lists.Hand.{Hand}
use Rattle.mesh_trail.specs.declared.lists.NodeLists.{NodeLists}
use Rattle.mesh_trail.specs.declared.casts.Cast as lists
use Rattle.mesh_trail.specs.Said.{said_of, IsSaidIn}
use Rattle.mesh_trail.specs.Heard.{IsFrontIn, front_in, front_of, lesson_of}
use Rattle.mesh_trail.specs.Lists.{after_lesson, put_if, reply_list, row, sent_list}
use Rattle.mesh_trail.specs.Steps.{FitsReply, HasRoomFor, IsInHand, IsPrepared, front_list, idles, rows_after, sent_after}
use Rattle.mesh_trail.specs.Trails.{AreWalks, kept_lists}
use Rattle.mesh_trail.proofs.Nodes.{changed_so, is_there, rows_at, still_at, turned_queue, turned_row, walked_is}
use Rattle.mesh_trail.proofs.Rows.{put_within, rows_count, turned_drop, turned_first, turned_own, turned_rows, turned_sent}
use Rattle.mesh_trail.proofs.Sends.{Casts, NodesGo, made_by}

-- ---- room

own_fits : (x : ℕ) (rows : List (List ℕ)) (room : ℕ) → 1 ≤ room → (cast : Said) → length (sent_list x rows says.Parcel [] cast) ≤ room
own_fits x rows room one says.Parcel = omega arith
own_fits x rows room one says.Error = omega arith
own_fits x rows room one (says.Request o n h d) = one
own_fits x rows room one (says.Reply d n h) = omega arith

choice_fits : (b : Bool) (x room : ℕ) (l : List ℕ) → 2 ≤ room → length l ≤ room → length (if b then x ∷ [] else l) ≤ room
choice_fits true x room l two le = omega arith
choice_fits false x room l two le = le

learnt_fits : (rt : Table) (y : ℕ) (s : Said) (near announced : List ℕ) (rows : List (List ℕ)) (q room : ℕ) → length near ≤ room → length announced ≤ room → length (row rows q) ≤ room → length (row (after_lesson (lesson_of rt y s) near announced rows) q) ≤ room
learnt_fits rt y s near announced rows q room a b c =
    let l = lesson_of rt y s in
    put_within (l.announced && not (l.near && (l.from == l.dest))) (put_if l.near l.from near rows) l.dest announced q room b (put_within l.near rows l.from near q room a c)

reply_fits : (rt : Table) (x y : ℕ) (s : Said) (near announced : List ℕ) (rows : List (List ℕ)) (room : ℕ) → 2 ≤ room → length near ≤ room → length announced ≤ room → FitsReply rows room s → length (reply_list x (after_lesson (lesson_of rt y s) near announced rows) s) ≤ room
reply_fits rt x y says.Parcel near announced rows room two a b fits = omega arith
reply_fits rt x y says.Error near announced rows room two a b fits = omega arith
reply_fits rt x y (says.Request o n h d) near announced rows room two a b fits = choice_fits (d == x) x room _ two (learnt_fits rt y (says.Request o n h d) near announced rows d room a b fits)
reply_fits rt x y (says.Reply d n h) near announced rows room two a b fits = learnt_fits rt y (says.Reply d n h) near announced rows d room a b fits

heard_fits : (rt : Table) (x y : ℕ) (s : Said) (rows : List (List ℕ)) (l : List ℕ) (hand : Hand) → IsInHand x y s rows l hand → (cast : Said) → length (sent_list x (after_lesson (lesson_of rt y s) hand.near hand.announced rows) s l cast) ≤ hand.room
heard_fits rt x y s rows l hand r says.Parcel = let two = r.two in omega arith
heard_fits rt x y s rows l hand r says.Error = let two = r.two in omega arith
heard_fits rt x y s rows l hand r (says.Request o n h d) = let e = length_push l x in let more = r.more in omega arith
heard_fits rt x y s rows l hand r (says.Reply d n h) =
    let two = r.two in let more = r.more in
    let near : length hand.near ≡ 2 = ap length r.near in
    let announced : length hand.announced ≡ length l + 1 = ap length r.announced ∙ length_push l x in
    reply_fits rt x y s hand.near hand.announced rows hand.room r.two (omega arith) (omega arith) r.reply

pub room_for : (rt : Table) (x : ℕ) (front : Front) (rows : List (List ℕ)) (l : List ℕ) (hand : Hand) → IsPrepared x front rows l hand → HasRoomFor x front (rows_after rt front hand.near hand.announced rows) l hand.room
room_for rt x fronts.Empty rows l hand prepared = own_fits x rows hand.room prepared
room_for rt x fronts.New rows l hand prepared = own_fits x rows hand.room prepared
room_for rt x (fronts.Heard y s) rows l hand prepared = heard_fits rt x y s rows l hand prepared

pub room_so : (rt : Table) (x : ℕ) (front : Front) (rows now : List (List ℕ)) (l list : List ℕ) (hand : Hand) (room : ℕ) → IsPrepared x front rows l hand → now ≡ rows_after rt front hand.near hand.announced rows → list ≡ l → room ≡ hand.room → HasRoomFor x front now list room
room_so rt x front rows now l list hand room prepared is same fits cast =
    subst (λ r. length (sent_after x front r list cast) ≤ room) (sym is)
    (subst (λ k. length (sent_after x front (rows_after rt front hand.near hand.announced rows) k cast) ≤ room) (sym same)
    (subst (λ m. length (sent_after x front (rows_after rt front hand.near hand.announced rows) l cast) ≤ m) (sym fits) (room_for rt x front rows l hand prepared cast)))

pub rows_long : (rt : Table) (front : Front) (near announced : List ℕ) (rows : List (List ℕ)) → length (rows_after rt front near announced rows) ≡ length rows
rows_long rt fronts.Empty near announced rows = refl
rows_long rt fronts.New near announced rows = refl
rows_long rt (fronts.Heard y s) near announced rows = rows_count rt y s near announced rows

-- ---- a turn that was done

busy_next : (old : WorldSeen) (w : World) (x : ℕ) (d : Done) (packet : List ℕ) → idles d ≡ false → outcome_in old.mesh x w d packet ≡ Next w (world_effect_in old.mesh x d packet)
busy_next old w x done.Idle packet busy = cc
busy_next old w x done.Changed packet busy = refl
busy_next old w x (done.Taken took effect air) packet busy = refl
busy_next old w x (done.Sent effect air) packet busy = refl
busy_next old w x (done.Heard from to) packet busy = refl
busy_next old w x (done.Lost flying) packet busy = refl
busy_next old w x (done.Doubled id to parcel) packet busy = refl

step_at : (w : World) (x : ℕ) (o : Option Node) → slice_get w.nodes x ≡ o → step w (Turn x) ≡ at_node o (turn_of w x)
unfolding step
step_at w x o is = ap (λ (p : Option Node). at_node p (turn_of w x)) is

-- what the code did to the lists of node x, which heard this
pub record Took (x : ℕ) (rt : Table) (front : Front) (hand : Hand) (n now : NodeLists) : Type 0 where
  pub prepared : IsPrepared x front (n.entries).items (front_list (n.queue).items) hand
  pub queue : (now.queue).items ≡ drop 1 (n.queue).items
  pub rows : (now.entries).items ≡ rows_after rt front hand.near hand.announced (n.entries).items

-- and so the lists are those of the model
pub record Turned (x : ℕ) (old new : WorldSeen) (d : Done) (packet : List ℕ) (nodes : List NodeLists) (casts : List lists.Cast) (front : Front) (n now : NodeLists) : Type 0 where
  pub list : Message → List ℕ
  pub makes : Casts (Turn x) old new x d packet nodes casts list
  pub go : NodesGo (Turn x) old nodes (slice_set nodes x now) casts
  pub said : (cast : Message) → reverse (sent_after x front (now.entries).items (front_list (n.queue).items) (said_of cast)) ≡ list cast

module _ (x : ℕ) (old new : WorldSeen) (d : Done) (packet : List ℕ) (nodes : List NodeLists) (casts : List lists.Cast) (n now : NodeLists) (hand : Hand)
    (t : AreWalks old nodes casts) (below : x < length old.mesh) (at : slice_get nodes x ≡ Some n) where
  abbrev K : KeptLists
  K = kept_lists nodes casts

  abbrev W : KeptLists
  W = lists_after old.world (Turn x) K

  abbrev copies : List worlds.Copy
  copies = copies_in (world_effect_in old.mesh x d packet)

  row_counts : (now.entries).items ≡ (now.entries).items → length (now.entries).items ≡ length (n.entries).items → AllByRecursion (λ m. length (m.entries).items ≡ length old.mesh) (slice_set nodes x now)
  row_counts _ size = each_set (λ (m : NodeLists). length (m.entries).items ≡ length old.mesh) nodes x now t.rows (size ∙ rows_at nodes old casts x n t at)

  queue_goes : (now.queue).items ≡ drop 1 (n.queue).items → (z : ℕ) → changed_at K.queues x (drop 1 (K.queues x)) z ≡ turned_queue (slice_get (slice_set nodes x now) z)
  queue_goes queue z = changed_so turned_queue nodes x now (drop 1 (K.queues x)) z (is_there old nodes casts x t below)
      (ap (λ o. drop 1 (turned_queue o)) at ∙ sym (turned_drop (n.queue).items) ∙ ap (map reverse) (sym queue))

  turned_new : IsDone (Turn x) old d new packet → step old.world (Turn x) ≡ Next new.world (world_effect_in old.mesh x d packet) → W ≡ record K { queues = changed_at K.queues x (drop 1 (K.queues x)); flying = with_copies K.flying (own_list x) copies }
      → Took x (table new.world x) fronts.New hand n now → Turned x old new d packet nodes casts fronts.New n now
  turned_new is out all took =
      let made = made_by (Turn x) old new d packet (world_effect_in old.mesh x d packet) tt out in
      let there = is_there old nodes casts x t below in
      record {
        list = own_list x;
        makes = record { next = made.0; starts = made.1; flying = λ i. ap (λ (k : KeptLists). k.flying i) all };
        go = record {
          count = length-set nodes x now;
          rows = row_counts refl (ap length took.rows);
          entries = λ z q. ap (λ (k : KeptLists). k.entries z q) all ∙ still_at (turned_row q) nodes x now z there (ap (λ rs. reverse (row rs q)) took.rows ∙ ap (turned_row q) (sym at));
          queues = λ z. ap (λ (k : KeptLists). k.queues z) all ∙ queue_goes took.queue z;
        };
        said = λ cast. turned_own x (now.entries).items (front_list (n.queue).items) cast;
      }

  abbrev heard_list : List ℕ
  heard_list = first_list (K.queues x)

  abbrev heard_entries : ℕ → Message → ℕ → List ℕ
  heard_entries y m = entries_after x y m heard_list (table new.world x) (K.entries x)

  heard_is : heard_list ≡ reverse (front_list (n.queue).items)
  heard_is = ap (λ o. first_list (turned_queue o)) at ∙ turned_first (n.queue).items

  entries_are : (y : ℕ) (m : Message) → y < length old.mesh → IsSaidIn (length old.mesh) (said_of m) → Took x (table new.world x) (fronts.Heard y (said_of m)) hand n now → heard_entries y m ≡ (λ q. reverse (row (now.entries).items q))
  entries_are y m near inside took =
      let size = rows_at nodes old casts x n t at in
      let r : IsInHand x y (said_of m) (n.entries).items (front_list (n.queue).items) hand = took.prepared in
      (λ i. entries_after x y m (heard_is i) (table new.world x) (λ q. turned_row q (at i)))
      ∙ (λ i q. (sym (turned_rows (table new.world x) x y m (n.entries).items (front_list (n.queue).items) hand.near hand.announced q (omega arith) (subst (λ k. IsSaidIn k (said_of m)) (sym size) inside) r.near r.announced)
      ∙ ap (λ rs. reverse (row rs q)) (sym took.rows)) i)

  turned_heard : (y : ℕ) (m : Message) → IsDone (Turn x) old d new packet → step old.world (Turn x) ≡ Next new.world (world_effect_in old.mesh x d packet)
      → W ≡ record {
        entries = changed_at K.entries x (heard_entries y m);
        queues = changed_at K.queues x (drop 1 (K.queues x));
        flying = with_copies K.flying (walks.sent_list x (heard_entries y m) m heard_list) copies;
      }
      → y < length old.mesh → IsSaidIn (length old.mesh) (said_of m) → Took x (table new.world x) (fronts.Heard y (said_of m)) hand n now → Turned x old new d packet nodes casts (fronts.Heard y (said_of m)) n now
  turned_heard y m is out all near inside took =
      let made = made_by (Turn x) old new d packet (world_effect_in old.mesh x d packet) tt out in
      let there = is_there old nodes casts x t below in
      let same = entries_are y m near inside took in
      record {
        list = walks.sent_list x (heard_entries y m) m heard_list;
        makes = record { next = made.0; starts = made.1; flying = λ i. ap (λ (k : KeptLists). k.flying i) all };
        go = record {
          count = length-set nodes x now;
          rows = row_counts refl (ap length took.rows ∙ rows_count (table new.world x) y (said_of m) hand.near hand.announced (n.entries).items);
          entries = λ z q. ap (λ (k : KeptLists). k.entries z q) all ∙ ap (λ (f : ℕ → List ℕ). f q) (changed_so (λ o q. turned_row q o) nodes x now (heard_entries y m) z there same);
          queues = λ z. ap (λ (k : KeptLists). k.queues z) all ∙ queue_goes took.queue z;
        };
        said = λ cast. turned_sent x y (now.entries).items m (front_list (n.queue).items) cast ∙ (λ i. walks.sent_list x (sym same i) m (sym heard_is i) cast);
      }

  turned_item : (item : Item) (items : List Item) (core : Core) → IsDone (Turn x) old d new packet → idles d ≡ false → slice_get (old.world).nodes x ≡ Some (record { core = core; queue = item ∷ items })
      → IsFrontIn (length old.mesh) (front_in (item ∷ items)) → Took x (table new.world x) (front_in (item ∷ items)) hand n now → Turned x old new d packet nodes casts (front_in (item ∷ items)) n now
  turned_item (New b dest) items core is busy node inside took =
      let out = is.outcome ∙ busy_next old new.world x d packet busy in
      turned_new is out (walked_is old.world (Turn x) K _ out ∙ ap (λ o. after_turn x (table new.world x) o copies K) node) took
  turned_item (Heard y m) items core is busy node inside took =
      let out = is.outcome ∙ busy_next old new.world x d packet busy in
      turned_heard y m is out (walked_is old.world (Turn x) K _ out ∙ ap (λ o. after_turn x (table new.world x) o copies K) node) inside.0 inside.1 took

  turned_node : (o : Option Node) → IsDone (Turn x) old d new packet → idles d ≡ false → slice_get (old.world).nodes x ≡ o → IsFrontIn (length old.mesh) (front_of o) → Took x (table new.world x) (front_of o) hand n now → Turned x old new d packet nodes casts (front_of o) n now
  turned_node None is busy node inside took = let none : Idle ≡ Next new.world (world_effect_in old.mesh x d packet) = sym (step_at old.world x None node) ∙ is.outcome ∙ busy_next old new.world x d packet busy in cc
  turned_node (Some m) is busy node inside took = by m.queue m.core node inside took
    where
      by : (queue : List Item) (core : Core) → slice_get (old.world).nodes x ≡ Some (record { core = core; queue = queue }) → IsFrontIn (length old.mesh) (front_in queue) → Took x (table new.world x) (front_in queue) hand n now → Turned x old new d packet nodes casts (front_in queue) n now
      by [] core node inside took = let none : Idle ≡ Next new.world (world_effect_in old.mesh x d packet) = sym (step_at old.world x (Some (record { core = core; queue = [] })) node) ∙ is.outcome ∙ busy_next old new.world x d packet busy in cc
      by (item ∷ items) core node inside took = turned_item item items core is busy node inside took

pub turned : (x : ℕ) (old new : WorldSeen) (d : Done) (packet : List ℕ) (nodes : List NodeLists) (casts : List lists.Cast) (n now : NodeLists) (hand : Hand) (front : Front) → AreWalks old nodes casts → x < length old.mesh → slice_get nodes x ≡ Some n
    → IsDone (Turn x) old d new packet → idles d ≡ false → front ≡ front_of (slice_get (old.world).nodes x) → IsFrontIn (length old.mesh) front → Took x (table new.world x) front hand n now → Turned x old new d packet nodes casts front n now
turned x old new d packet nodes casts n now hand front t below at is busy same inside took =
    subst (λ (f : Front). Turned x old new d packet nodes casts f n now) (sym same)
    (turned_node x old new d packet nodes casts n now hand t below at (slice_get (old.world).nodes x) is busy refl (subst (IsFrontIn (length old.mesh)) same inside) (subst (λ (f : Front). Took x (table new.world x) f hand n now) same took))
