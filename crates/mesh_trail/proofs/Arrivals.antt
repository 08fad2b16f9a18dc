-- A list joins those beside a queue: of a datum that is given, and of a copy that is heard.
use Rattle.std.proofs.Common.{◌≡◌, ℕ, ◌<◌, Bool, true, false, ◌==◌, cond, List, [], ◌∷◌, ◌++◌, map, length, Option, Some, None, refl, sym, ap, subst, ◌∙◌, arith}
use Rattle.std.specs.Prelude.{slice_get, slice_set, reverse}
use Rattle.std.specs.Global.{Vec}
use Rattle.std.proofs.lemmas.List.{length-set, map_push}
use Rattle.std.proofs.lemmas.Option.{none-some, same_Some}
use Rattle.mesh_base.specs.Meshes.{Nodes}
use Rattle.mesh_base.specs.declared.events.Done.{Done}
use Rattle.mesh_base.specs.declared.events.Done.TheVariants as done
use Rattle.mesh_base.specs.declared.events.Flying.{Flying}
use Rattle.aodv_model.specs.Cores.{Heard, Item}
use Rattle.mesh_model.specs.InMesh.{IsCopyInMesh}
use Rattle.mesh_model.specs.Worlds as worlds
use Rattle.mesh_model.specs.Worlds.{World, Copy, CopyHeard, Deliver, Event, Give, WorldEffect, Idle, Next, Outcome, find_copy, push, step, without_copy}
use Rattle.mesh_meaning.specs.Answers.{outcome_in}
use Rattle.mesh_meaning.specs.Events.{node_of}
use Rattle.mesh_meaning.specs.Packets.{copy_in}
use Rattle.mesh_radio.specs.Copies as radios
use Rattle.mesh_world.proofs.Frames.{each_set}
use Rattle.mesh_world.specs.Seen.{WorldSeen, IsSoundWorld}
use Rattle.mesh_world.specs.Steps.{IsDone}
use Rattle.mesh_model.specs.Kept.{KeptLists, lists_after, walked_by, with_item}
use Rattle.mesh_model.proofs.Steps.{found_honest}
use Rattle.mesh_trail.specs.Lists.{IsPushed, IsRoomed, row}
use Rattle.mesh_trail.specs.Casts.{list_of}
use Rattle.mesh_trail.specs.Steps.{hears, idles}
use Rattle.mesh_trail.specs.Trails.{AreWalks, kept_lists, queue_of}
use Rattle.mesh_trail.specs.declared.lists.NodeLists.{NodeLists}
use Rattle.mesh_trail.specs.declared.casts.Cast.{Cast}
use Rattle.mesh_trail.proofs.Moves.{AreFlying, IsAfter, after_done, goes_on, no_cast}
use Rattle.mesh_trail.proofs.Nodes.{changed_so, is_there, quiet_after, roomed, rows_at, still_at, turned_queue, turned_row, unmoved, walked_is}

pub roomed_so : (w : WorldSeen) (nodes now : List NodeLists) (casts : List Cast) (x : ℕ) → AreWalks w nodes casts → x < length w.mesh → IsRoomed x nodes now → AreWalks w now casts
roomed_so w nodes now casts x t l r = subst (λ ns. AreWalks w ns casts) (sym r.is) (roomed w nodes casts x r.node r.now t r.there (is_there w nodes casts x t l) r.entries r.queue)

-- the lists once one has joined x's queue
pub joined : (e : Event) (old new : WorldSeen) (nodes now : List NodeLists) (casts : List Cast) (x : ℕ) (l : List ℕ) → IsAfter e old new → IsSoundWorld new → (new.world).next_copy ≡ (old.world).next_copy
    → lists_after old.world e (kept_lists nodes casts) ≡ with_item (kept_lists nodes casts) x (reverse l) → x < length old.mesh → IsPushed x l nodes now → AreWalks old nodes casts → AreWalks new now casts
joined e old new nodes now casts x l later sound next is below p t =
    let there = is_there old nodes casts x t below in
    let flying = (lists_after old.world e (kept_lists nodes casts)).flying in
    let f : AreFlying old new (λ id. reverse (list_of casts id)) flying casts casts = no_cast e old new nodes casts flying later t next (λ id. ap (λ (k : KeptLists). k.flying id) is) in
    subst (λ ns. AreWalks new ns casts) (sym p.is)
    (goes_on e old new nodes (slice_set nodes x p.now) casts casts later sound (record {
      agrees = record {
        entries = λ z d. ap (λ (k : KeptLists). k.entries z d) is ∙ still_at (turned_row d) nodes x p.now z there (ap (λ (v : Vec (List ℕ)). reverse (row v.items d)) p.entries ∙ ap (turned_row d) (sym p.there));
        queues = λ z. ap (λ (k : KeptLists). k.queues z) is
            ∙ changed_so turned_queue nodes x p.now (map reverse (queue_at nodes x) ++ reverse l ∷ []) z there (ap (λ o. turned_queue o ++ reverse l ∷ []) p.there ∙ sym (map_push reverse ((p.node).queue).items l) ∙ ap (map reverse) (sym p.queue));
        flying = f.lists;
      };
      count = length-set nodes x p.now;
      rows = each_set (λ (m : NodeLists). length (m.entries).items ≡ length old.mesh) nodes x p.now t.rows (ap (λ (v : Vec (List ℕ)). length v.items) p.entries ∙ rows_at nodes old casts x p.node t p.there);
      covered = f.covered;
      ends = f.ends;
    }) t)
  where
    queue_at : List NodeLists → ℕ → List (List ℕ)
    queue_at nodes x = queue_of (slice_get nodes x)

-- ---- a datum

pub given : (x dest : ℕ) (b : List ℕ) (old new : WorldSeen) (d : Done) (packet : List ℕ) (nodes now : List NodeLists) (casts : List Cast) → IsSoundWorld new → IsDone (Give x dest b) old d new packet → idles d ≡ false
    → x < length old.mesh → IsPushed x [] nodes now → AreWalks old nodes casts → AreWalks new now casts
given x dest b old new d packet nodes now casts sound is busy below p t =
    let later = after_done (Give x dest b) old new d packet is in
    joined (Give x dest b) old new nodes now casts x [] later sound (quiet_after (Give x dest b) old new later tt)
    (walked_is old.world (Give x dest b) (kept_lists nodes casts) (outcome_in old.mesh x new.world d packet) is.outcome ∙ by d busy) below p t
  where
    by : (d : Done) → idles d ≡ false → walked_by old.world (Give x dest b) (outcome_in old.mesh x new.world d packet) (kept_lists nodes casts) ≡ with_item (kept_lists nodes casts) x []
    by done.Idle busy = cc
    by done.Changed busy = refl
    by (done.Taken took effect air) busy = refl
    by (done.Sent effect air) busy = refl
    by (done.Heard from to) busy = refl
    by (done.Lost flying) busy = refl
    by (done.Doubled id to parcel) busy = refl

pub idle_walks : (e : Event) (old new : WorldSeen) (d : Done) (packet : List ℕ) (nodes : List NodeLists) (casts : List Cast) → IsSoundWorld new → IsDone e old d new packet → idles d ≡ true → AreWalks old nodes casts → AreWalks new nodes casts
idle_walks e old new d packet nodes casts sound is idle t =
    let later = after_done e old new d packet is in
    let none : step old.world e ≡ Idle = is.outcome ∙ by d idle in
    let next : (new.world).next_copy ≡ (old.world).next_copy = ap (λ (w : World). w.next_copy) (later.world ∙ ap (worlds.after old.world) none) in
    unmoved e old new nodes casts later sound (walked_is old.world e (kept_lists nodes casts) Idle none) next t
  where
    by : (d : Done) → idles d ≡ true → outcome_in old.mesh (node_of e) new.world d packet ≡ Idle
    by done.Idle idle = refl
    by done.Changed idle = cc
    by (done.Taken took effect air) idle = cc
    by (done.Sent effect air) idle = cc
    by (done.Heard from to) idle = cc
    by (done.Lost flying) idle = cc
    by (done.Doubled id to parcel) idle = cc

-- ---- a copy

pub find_shown : (mesh : Nodes) (fs : List Flying) (id : ℕ) (f : Flying) → radios.find_copy fs id ≡ Some f → find_copy (map (copy_in mesh) fs) id ≡ Some (copy_in mesh f)
find_shown mesh [] id f is = absurd (none-some f is)
find_shown mesh (g ∷ gs) id f is = by (g.id == id) is (find_shown mesh gs id f)
  where
    by : (b : Bool) → cond b (Some g) (radios.find_copy gs id) ≡ Some f → (radios.find_copy gs id ≡ Some f → find_copy (map (copy_in mesh) gs) id ≡ Some (copy_in mesh f)) → cond b (Some (copy_in mesh g)) (find_copy (map (copy_in mesh) gs) id) ≡ Some (copy_in mesh f)
    by true is rest = ap (λ (h : Flying). Some (copy_in mesh h)) (same_Some g f is)
    by false is rest = rest is

pub none_shown : (mesh : Nodes) (fs : List Flying) (id : ℕ) → radios.find_copy fs id ≡ None → find_copy (map (copy_in mesh) fs) id ≡ None
none_shown mesh [] id is = refl
none_shown mesh (g ∷ gs) id is = by (g.id == id) is (none_shown mesh gs id)
  where
    by : (b : Bool) → cond b (Some g) (radios.find_copy gs id) ≡ None → (radios.find_copy gs id ≡ None → find_copy (map (copy_in mesh) gs) id ≡ None) → cond b (Some (copy_in mesh g)) (find_copy (map (copy_in mesh) gs) id) ≡ None
    by true is rest = absurd (none-some g (sym is))
    by false is rest = rest is

pub receiver_below : (w : WorldSeen) (id : ℕ) (c : Copy) → IsSoundWorld w → find_copy (w.world).flying id ≡ Some c → c.to < length w.mesh
receiver_below w id c s is =
    let t : IsCopyInMesh (length (w.world).nodes) c = found_honest (IsCopyInMesh (length (w.world).nodes)) (w.world).flying id c (s.invariant).in_mesh.flying is in
    let count = s.count in let l = t.1 in omega arith

pub none_idle : (w : World) (id : ℕ) → find_copy w.flying id ≡ None → step w (Deliver id) ≡ Idle
unfolding step
none_idle w id none = ap (λ (o : Option Copy). worlds.at_copy o (λ c. Next (push (without_copy w id) c.to (worlds_heard c)) (CopyHeard c.from c.to))) none
  where
    worlds_heard : Copy → Item
    worlds_heard c = Heard c.from c.message

receiver_is : (w w' : World) (id from to : ℕ) (c : Copy) → find_copy w.flying id ≡ Some c → step w (Deliver id) ≡ Next w' (CopyHeard from to) → to ≡ c.to
unfolding step
receiver_is w w' id from to c found is = by (find_copy w.flying id) found is
  where
    by : (o : Option Copy) → o ≡ Some c → worlds.at_copy o (λ c. Next (push (without_copy w id) c.to (Heard c.from c.message)) (CopyHeard c.from c.to)) ≡ Next w' (CopyHeard from to) → to ≡ c.to
    by None found is = absurd (none-some c found)
    by (Some b) found is = let same : b ≡ c = same_Some b c found in let here : b.to ≡ to = cc in sym here ∙ ap (λ (d : Copy). d.to) same

pub heard : (id : ℕ) (c : Copy) (old new : WorldSeen) (d : Done) (packet : List ℕ) (nodes now : List NodeLists) (casts : List Cast) (l : List ℕ) → IsSoundWorld new → IsDone (Deliver id) old d new packet → hears d ≡ true
    → find_copy (old.world).flying id ≡ Some c → l ≡ list_of casts id → IsPushed c.to l nodes now → AreWalks old nodes casts → AreWalks new now casts
heard id c old new d packet nodes now casts l sound is busy found list p t =
    let later = after_done (Deliver id) old new d packet is in
    joined (Deliver id) old new nodes now casts c.to l later sound (quiet_after (Deliver id) old new later tt)
    (walked_is old.world (Deliver id) (kept_lists nodes casts) (outcome_in old.mesh 0 new.world d packet) is.outcome ∙ by d busy is.outcome) (receiver_below old id c t.sound found) p t
  where
    by : (d : Done) → hears d ≡ true → step old.world (Deliver id) ≡ outcome_in old.mesh 0 new.world d packet → walked_by old.world (Deliver id) (outcome_in old.mesh 0 new.world d packet) (kept_lists nodes casts) ≡ with_item (kept_lists nodes casts) c.to (reverse l)
    by done.Idle busy is = cc
    by done.Changed busy is = cc
    by (done.Taken took effect air) busy is = cc
    by (done.Sent effect air) busy is = cc
    by (done.Heard from to) busy is = (λ i. with_item (kept_lists nodes casts) (receiver_is old.world new.world id from to c found is i) (reverse (sym list i)))
    by (done.Lost flying) busy is = cc
    by (done.Doubled i to parcel) busy is = cc

pub unheard : (id : ℕ) (old new : WorldSeen) (d : Done) (packet : List ℕ) (nodes : List NodeLists) (casts : List Cast) → IsSoundWorld new → IsDone (Deliver id) old d new packet → hears d ≡ false → AreWalks old nodes casts → AreWalks new nodes casts
unheard id old new d packet nodes casts sound is idle t =
    let later = after_done (Deliver id) old new d packet is in
    unmoved (Deliver id) old new nodes casts later sound (walked_is old.world (Deliver id) (kept_lists nodes casts) (outcome_in old.mesh 0 new.world d packet) is.outcome ∙ by d idle) (quiet_after (Deliver id) old new later tt) t
  where
    by : (d : Done) → hears d ≡ false → walked_by old.world (Deliver id) (outcome_in old.mesh 0 new.world d packet) (kept_lists nodes casts) ≡ kept_lists nodes casts
    by done.Idle idle = refl
    by done.Changed idle = refl
    by (done.Taken took effect air) idle = refl
    by (done.Sent effect air) idle = refl
    by (done.Heard from to) idle = cc
    by (done.Lost flying) idle = refl
    by (done.Doubled i to parcel) idle = refl

pub found_at : (w : WorldSeen) (fs : List Flying) (id : ℕ) (f : Flying) → map (copy_in w.mesh) fs ≡ (w.world).flying → Some f ≡ radios.find_copy fs id → find_copy (w.world).flying id ≡ Some (copy_in w.mesh f)
found_at w fs id f shown is = subst (λ cs. find_copy cs id ≡ Some (copy_in w.mesh f)) shown (find_shown w.mesh fs id f (sym is))

pub none_at : (w : WorldSeen) (fs : List Flying) (id : ℕ) → map (copy_in w.mesh) fs ≡ (w.world).flying → None ≡ radios.find_copy fs id → find_copy (w.world).flying id ≡ None
none_at w fs id shown is = subst (λ cs. find_copy cs id ≡ None) shown (none_shown w.mesh fs id (sym is))

-- a copy that was heard flew
pub heard_flew : (id : ℕ) (old new : WorldSeen) (d : Done) (packet : List ℕ) → IsDone (Deliver id) old d new packet → hears d ≡ true → (c : Copy) × (find_copy (old.world).flying id ≡ Some c)
heard_flew id old new d packet is busy = by (find_copy (old.world).flying id) refl
  where
    idle : (d : Done) → hears d ≡ true → Idle ≡ outcome_in old.mesh 0 new.world d packet → ⊥
    idle done.Idle busy is = cc
    idle done.Changed busy is = cc
    idle (done.Taken took effect air) busy is = cc
    idle (done.Sent effect air) busy is = cc
    idle (done.Heard from to) busy is = cc
    idle (done.Lost flying) busy is = cc
    idle (done.Doubled i to parcel) busy is = cc

    by : (o : Option Copy) → find_copy (old.world).flying id ≡ o → (c : Copy) × (find_copy (old.world).flying id ≡ Some c)
    by None none = absurd (idle d busy (sym (none_idle old.world id none) ∙ is.outcome))
    by (Some c) found = (c, found)
