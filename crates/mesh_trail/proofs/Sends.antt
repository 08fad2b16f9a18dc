-- The list of a cast: of a copy that is doubled, and of what a node sends.
use Rattle.std.proofs.Common.{◌≡◌, ℕ, ◌+◌, ◌<◌, ◌≤◌, ◌⊎◌, inl, inr, List, [], ◌∷◌, ◌++◌, length, None, refl, sym, ap, subst, ◌∙◌, arith}
use Rattle.std.specs.Prelude.{slice_get, reverse}
use Rattle.std.specs.List.{AllByRecursion}
use Rattle.mesh_base.specs.Meshes.{Nodes}
use Rattle.mesh_base.specs.declared.events.Cast as cast
use Rattle.mesh_base.specs.declared.events.Cast.TheVariants as casts
use Rattle.mesh_base.specs.declared.events.Done.{Done}
use Rattle.mesh_base.specs.declared.events.Done.TheVariants as done
use Rattle.aodv_model.specs.Cores.{Message}
use Rattle.aodv_wire.specs.Encodes.{refusal}
use Rattle.aodv_meaning.specs.Meaning.{meaning}
use Rattle.mesh_model.specs.Worlds as worlds
use Rattle.mesh_model.specs.Worlds.{World, Copy, Double, Event, WorldEffect, Idle, Next, Outcome, after, copies_of, copies_to, step}
use Rattle.mesh_meaning.specs.Answers as answers
use Rattle.mesh_meaning.specs.Answers.{IsCastWritten, IsDoneInMesh, cast_in, world_effect_in, outcome_in}
use Rattle.mesh_meaning.specs.Events.{node_of}
use Rattle.mesh_world.specs.Seen.{WorldSeen, IsSoundWorld}
use Rattle.mesh_world.specs.Steps.{IsDone}
use Rattle.mesh_model.specs.Kept.{KeptLists, copies_in, from_id_on, own_list, lists_after, walked_by, with_copies}
use Rattle.mesh_trail.specs.Said.{said_of}
use Rattle.mesh_trail.specs.Casts.{list_of}
use Rattle.mesh_trail.specs.Steps.{IsOwnOf, sent_after}
use Rattle.mesh_trail.specs.Trails.{AreWalks, kept_lists}
use Rattle.mesh_trail.specs.declared.heard.Front.TheVariants as fronts
use Rattle.mesh_trail.specs.declared.lists.NodeLists.{NodeLists}
use Rattle.mesh_trail.specs.declared.casts.Cast as lists
use Rattle.mesh_trail.proofs.Moves.{AreFlying, IsAfter, after_done, goes_on, no_cast, one_cast}
use Rattle.mesh_trail.proofs.Nodes.{turned_queue, turned_row, walked_is}
use Rattle.mesh_trail.proofs.Rows.{turned_own}
use Rattle.mesh_trail.proofs.Ways.{DoublesIn, IsNoDouble, MakesIn, StartsAt, doubles, makes}

-- the lists of the nodes are now these
pub record NodesGo (e : Event) (old : WorldSeen) (nodes nodes' : List NodeLists) (casts : List lists.Cast) : Type 0 where
  pub count : length nodes' ≡ length nodes
  pub rows : AllByRecursion (λ n. length (n.entries).items ≡ length old.mesh) nodes'
  pub entries : (x d : ℕ) → (lists_after old.world e (kept_lists nodes casts)).entries x d ≡ turned_row d (slice_get nodes' x)
  pub queues : (x : ℕ) → (lists_after old.world e (kept_lists nodes casts)).queues x ≡ turned_queue (slice_get nodes' x)

pub stayed : (e : Event) (old new : WorldSeen) (nodes nodes' : List NodeLists) (casts : List lists.Cast) → IsAfter e old new → IsSoundWorld new → NodesGo e old nodes nodes' casts → (new.world).next_copy ≡ (old.world).next_copy
    → ((id : ℕ) → (lists_after old.world e (kept_lists nodes casts)).flying id ≡ reverse (list_of casts id)) → AreWalks old nodes casts → AreWalks new nodes' casts
stayed e old new nodes nodes' casts later sound go next same t =
    let now = (lists_after old.world e (kept_lists nodes casts)).flying in
    let f : AreFlying old new (λ id. reverse (list_of casts id)) now casts casts = no_cast e old new nodes casts now later t next same in
    goes_on e old new nodes nodes' casts casts later sound (record { agrees = record { entries = go.entries; queues = go.queues; flying = f.lists }; count = go.count; rows = go.rows; covered = f.covered; ends = f.ends }) t

pub launched : (e : Event) (old new : WorldSeen) (nodes nodes' : List NodeLists) (casts casts' : List lists.Cast) (c : lists.Cast) → IsAfter e old new → IsSoundWorld new → NodesGo e old nodes nodes' casts → (old.world).next_copy ≤ (new.world).next_copy
    → casts' ≡ casts ++ c ∷ [] → c.first ≡ (old.world).next_copy → c.end ≡ (new.world).next_copy
    → ((id : ℕ) → (lists_after old.world e (kept_lists nodes casts)).flying id ≡ from_id_on (λ i. reverse (list_of casts i)) (old.world).next_copy (reverse c.list) id) → AreWalks old nodes casts → AreWalks new nodes' casts'
launched e old new nodes nodes' casts casts' c later sound go more is first end same t =
    let now = (lists_after old.world e (kept_lists nodes casts)).flying in
    let f : AreFlying old new (λ id. reverse (list_of casts id)) now casts casts' = one_cast e old new nodes casts casts' c now later t more is first end same in
    goes_on e old new nodes nodes' casts casts' later sound (record { agrees = record { entries = go.entries; queues = go.queues; flying = f.lists }; count = go.count; rows = go.rows; covered = f.covered; ends = f.ends }) t

-- the lists of the nodes are as they were
nodes_stay : (e : Event) (old : WorldSeen) (new : WorldSeen) (nodes : List NodeLists) (casts : List lists.Cast) (flying : ℕ → List ℕ) → AreWalks old nodes casts → lists_after old.world e (kept_lists nodes casts) ≡ record (kept_lists nodes casts) { flying = flying } → NodesGo e old nodes nodes casts
nodes_stay e old new nodes casts flying t is = record { count = refl; rows = t.rows; entries = λ x d. ap (λ (k : KeptLists). k.entries x d) is; queues = λ x. ap (λ (k : KeptLists). k.queues x) is }

-- ---- a copy is doubled

abbrev DoubledTo : World → ℕ → KeptLists → Outcome → Type 0
DoubledTo w id k o =
    (((after w o).next_copy ≡ w.next_copy) × (walked_by w (Double id) o k ≡ record k { flying = k.flying }))
    ⊎ (((after w o).next_copy ≡ w.next_copy + 1) × (walked_by w (Double id) o k ≡ record k { flying = from_id_on k.flying w.next_copy (k.flying id) }))

doubled_to : (w : World) (id : ℕ) (k : KeptLists) (o : Outcome) → DoublesIn w id k o → DoubledTo w id k o
doubled_to w id k Idle d = inl (refl, refl)
doubled_to w id k (worlds.Full x f) d = inl (refl, refl)
doubled_to w id k (Next w' h) d = inr (d.0, d.1)

pub doubled : (id : ℕ) (old new : WorldSeen) (d : Done) (packet : List ℕ) (nodes : List NodeLists) (casts casts' : List lists.Cast) (c : lists.Cast) → IsSoundWorld new → IsDone (Double id) old d new packet → (old.world).next_copy < (new.world).next_copy
    → casts' ≡ casts ++ c ∷ [] → c.first ≡ (old.world).next_copy → c.end ≡ (new.world).next_copy → c.list ≡ list_of casts id → AreWalks old nodes casts → AreWalks new nodes casts'
doubled id old new d packet nodes casts casts' c sound is less more first end list t =
    let later = after_done (Double id) old new d packet is in
    let k = kept_lists nodes casts in
    by later (doubled_to old.world id k (step old.world (Double id)) (doubles old.world id k)) (walked_is old.world (Double id) k (step old.world (Double id)) refl)
  where
    by : IsAfter (Double id) old new → DoubledTo old.world id (kept_lists nodes casts) (step old.world (Double id)) → lists_after old.world (Double id) (kept_lists nodes casts) ≡ walked_by old.world (Double id) (step old.world (Double id)) (kept_lists nodes casts) → AreWalks new nodes casts'
    by later (inl s) now = absurd (let e : (new.world).next_copy ≡ (old.world).next_copy = ap (λ (w : World). w.next_copy) later.world ∙ s.0 in omega arith)
    by later (inr s) now =
        let all = now ∙ s.1 in
        launched (Double id) old new nodes nodes casts casts' c later sound (nodes_stay (Double id) old new nodes casts _ t all) (omega arith) more first end
        (λ i. ap (λ (k : KeptLists). k.flying i) all ∙ ap (λ l. from_id_on (λ i. reverse (list_of casts i)) (old.world).next_copy (reverse l) i) (sym list)) t

pub undoubled : (id : ℕ) (old new : WorldSeen) (d : Done) (packet : List ℕ) (nodes : List NodeLists) (casts : List lists.Cast) → IsSoundWorld new → IsDone (Double id) old d new packet → (new.world).next_copy ≤ (old.world).next_copy → AreWalks old nodes casts → AreWalks new nodes casts
undoubled id old new d packet nodes casts sound is less t =
    let later = after_done (Double id) old new d packet is in
    let k = kept_lists nodes casts in
    by later (doubled_to old.world id k (step old.world (Double id)) (doubles old.world id k)) (walked_is old.world (Double id) k (step old.world (Double id)) refl)
  where
    by : IsAfter (Double id) old new → DoubledTo old.world id (kept_lists nodes casts) (step old.world (Double id)) → lists_after old.world (Double id) (kept_lists nodes casts) ≡ walked_by old.world (Double id) (step old.world (Double id)) (kept_lists nodes casts) → AreWalks new nodes casts
    by later (inl s) now =
        let all = now ∙ s.1 in
        stayed (Double id) old new nodes nodes casts later sound (nodes_stay (Double id) old new nodes casts _ t all) (ap (λ (w : World). w.next_copy) later.world ∙ s.0) (λ i. ap (λ (k : KeptLists). k.flying i) all) t
    by later (inr s) now = absurd (let e : (new.world).next_copy ≡ (old.world).next_copy + 1 = ap (λ (w : World). w.next_copy) later.world ∙ s.0 in omega arith)

-- ---- what is cast

to_says : (tos : List ℕ) (id x : ℕ) (m : Message) → AllByRecursion (λ (c : Copy). c.message ≡ m) (copies_to tos id x m)
to_says [] id x m = tt
to_says (to ∷ tos) id x m = (refl, to_says tos (id + 1) x m)

cast_says : (mesh : Nodes) (x : ℕ) (c : cast.Cast) (tos : List ℕ) (first : ℕ) (packet : List ℕ) → AllByRecursion (λ (d : Copy). d.message ≡ meaning mesh packet) (copies_of (cast_in mesh c packet) tos first x)
cast_says mesh x casts.Nothing tos first packet = tt
cast_says mesh x (casts.One y) tos first packet = to_says tos first x (meaning mesh packet)
cast_says mesh x (casts.Many s) tos first packet = to_says tos first x (meaning mesh packet)
cast_says mesh x casts.All tos first packet = to_says tos first x (meaning mesh packet)

pub copies_say : (mesh : Nodes) (x : ℕ) (d : Done) (packet : List ℕ) → AllByRecursion (λ (c : Copy). c.message ≡ meaning mesh packet) (copies_in (world_effect_in mesh x d packet))
unfolding answers.copies_in
copies_say mesh x done.Idle packet = tt
copies_say mesh x done.Changed packet = tt
copies_say mesh x (done.Taken took effect air) packet = cast_says mesh x effect.cast _ air.first packet
copies_say mesh x (done.Sent effect air) packet = cast_says mesh x effect.cast _ air.first packet
copies_say mesh x (done.Heard from to) packet = tt
copies_say mesh x (done.Lost flying) packet = tt
copies_say mesh x (done.Doubled id to parcel) packet = tt

cast_free : (mesh : Nodes) (x : ℕ) (c : cast.Cast) (tos : List ℕ) (first : ℕ) (packet : List ℕ) → IsCastWritten mesh c packet → 0 < length (copies_of (cast_in mesh c packet) tos first x) → refusal packet ≡ None
cast_free mesh x casts.Nothing tos first packet w some = absurd (omega arith)
cast_free mesh x (casts.One y) tos first packet w some = (w.1).written.encodes.allowed
cast_free mesh x (casts.Many s) tos first packet w some = (w.1).written.encodes.allowed
cast_free mesh x casts.All tos first packet w some = w.written.encodes.allowed

-- what is cast can be read
pub copies_free : (mesh : Nodes) (x : ℕ) (d : Done) (packet : List ℕ) → IsDoneInMesh mesh d packet → 0 < length (copies_in (world_effect_in mesh x d packet)) → refusal packet ≡ None
unfolding answers.copies_in
copies_free mesh x done.Idle packet w some = absurd (omega arith)
copies_free mesh x done.Changed packet w some = absurd (omega arith)
copies_free mesh x (done.Taken took effect air) packet w some = cast_free mesh x effect.cast _ air.first packet (w.1).cast some
copies_free mesh x (done.Sent effect air) packet w some = cast_free mesh x effect.cast _ air.first packet w.cast some
copies_free mesh x (done.Heard from to) packet w some = absurd (omega arith)
copies_free mesh x (done.Lost flying) packet w some = absurd (omega arith)
copies_free mesh x (done.Doubled id to parcel) packet w some = absurd (omega arith)

none_cast : (cs : List Copy) (flying : ℕ → List ℕ) (list : Message → List ℕ) (id : ℕ) → length cs ≤ 0 → with_copies flying list cs id ≡ flying id
none_cast [] flying list id le = refl
none_cast (c ∷ cs) flying list id le = absurd (omega arith)

some_cast : (cs : List Copy) (flying : ℕ → List ℕ) (list : Message → List ℕ) (next id : ℕ) (m : Message) → 0 < length cs → StartsAt next cs → AllByRecursion (λ (c : Copy). c.message ≡ m) cs → with_copies flying list cs id ≡ from_id_on flying next (list m) id
some_cast [] flying list next id m some starts says = absurd (omega arith)
some_cast (c ∷ cs) flying list next id m some starts says = λ i. from_id_on flying (starts i) (list (says.0 i)) id

-- the event was done, and its copies have these lists
pub record Casts (e : Event) (old new : WorldSeen) (x : ℕ) (d : Done) (packet : List ℕ) (nodes : List NodeLists) (casts : List lists.Cast) (list : Message → List ℕ) : Type 0 where
  pub next : (new.world).next_copy ≡ (old.world).next_copy + length (copies_in (world_effect_in old.mesh x d packet))
  pub starts : StartsAt (old.world).next_copy (copies_in (world_effect_in old.mesh x d packet))
  pub flying : (id : ℕ) → (lists_after old.world e (kept_lists nodes casts)).flying id ≡ with_copies (λ i. reverse (list_of casts i)) list (copies_in (world_effect_in old.mesh x d packet)) id

pub cast_done : (e : Event) (old new : WorldSeen) (x : ℕ) (d : Done) (packet : List ℕ) (nodes nodes' : List NodeLists) (casts casts' : List lists.Cast) (c : lists.Cast) (list : Message → List ℕ) → IsSoundWorld new → IsDone e old d new packet → Casts e old new x d packet nodes casts list
    → NodesGo e old nodes nodes' casts → (old.world).next_copy < (new.world).next_copy → casts' ≡ casts ++ c ∷ [] → c.first ≡ (old.world).next_copy → c.end ≡ (new.world).next_copy
    → (refusal packet ≡ None → reverse c.list ≡ list (meaning old.mesh packet)) → AreWalks old nodes casts → AreWalks new nodes' casts'
cast_done e old new x d packet nodes nodes' casts casts' c list sound is k go less more first end said t =
    let cs = copies_in (world_effect_in old.mesh x d packet) in
    let next = k.next in
    let some : 0 < length cs = omega arith in
    let flying = λ (i : ℕ). reverse (list_of casts i) in
    launched e old new nodes nodes' casts casts' c (after_done e old new d packet is) sound go (omega arith) more first end
    (λ i. k.flying i ∙ some_cast cs flying list (old.world).next_copy i (meaning old.mesh packet) some k.starts (copies_say old.mesh x d packet)
    ∙ ap (λ l. from_id_on flying (old.world).next_copy l i) (sym (said (copies_free old.mesh x d packet is.in_mesh some)))) t

pub none_done : (e : Event) (old new : WorldSeen) (x : ℕ) (d : Done) (packet : List ℕ) (nodes nodes' : List NodeLists) (casts : List lists.Cast) (list : Message → List ℕ) → IsSoundWorld new → IsDone e old d new packet → Casts e old new x d packet nodes casts list
    → NodesGo e old nodes nodes' casts → (new.world).next_copy ≤ (old.world).next_copy → AreWalks old nodes casts → AreWalks new nodes' casts
none_done e old new x d packet nodes nodes' casts list sound is k go less t =
    let cs = copies_in (world_effect_in old.mesh x d packet) in
    let next = k.next in
    let none : length cs ≤ 0 = omega arith in
    let flying = λ (i : ℕ). reverse (list_of casts i) in
    stayed e old new nodes nodes' casts (after_done e old new d packet is) sound go (omega arith) (λ i. k.flying i ∙ none_cast cs flying list i none) t

-- ---- of a node's own accord

idle_next : (e : Event) (old new : WorldSeen) (x : ℕ) (packet : List ℕ) → IsDone e old done.Idle new packet → (new.world).next_copy ≡ (old.world).next_copy
idle_next e old new x packet is = ap (λ (w : World). w.next_copy) ((after_done e old new done.Idle packet is).world ∙ ap (after old.world) is.outcome)

pub made_by : (e : Event) (old new : WorldSeen) (d : Done) (packet : List ℕ) (h : WorldEffect) → IsNoDouble e → step old.world e ≡ Next new.world h → MakesIn old.world (Next new.world h)
made_by e old new d packet h one is = subst (MakesIn old.world) is (makes old.world e one)

own_by : (e : Event) (y : ℕ) (old new : WorldSeen) (d : Done) (packet : List ℕ) (nodes : List NodeLists) (casts : List lists.Cast) → IsNoDouble e → node_of e ≡ y
    → ((w' : World) (h : WorldEffect) → walked_by old.world e (Next w' h) (kept_lists nodes casts) ≡ record (kept_lists nodes casts) { flying = with_copies (λ i. reverse (list_of casts i)) (own_list y) (copies_in h) })
    → walked_by old.world e Idle (kept_lists nodes casts) ≡ kept_lists nodes casts → IsDone e old d new packet → AreWalks old nodes casts
    → Casts e old new y d packet nodes casts (own_list y) × NodesGo e old nodes nodes casts
own_by e y old new d packet nodes casts one at moves none is t = by d is (is.outcome ∙ ap (λ (x : ℕ). outcome_in old.mesh x new.world d packet) at)
  where
    some : (d : Done) (h : WorldEffect) → h ≡ world_effect_in old.mesh y d packet → step old.world e ≡ Next new.world h → Casts e old new y d packet nodes casts (own_list y) × NodesGo e old nodes nodes casts
    some d h same out =
        let made = made_by e old new d packet h one out in
        let all = walked_is old.world e (kept_lists nodes casts) (Next new.world h) out ∙ moves new.world h in (
          record {
            next = made.0 ∙ ap (λ (g : WorldEffect). (old.world).next_copy + length (copies_in g)) same;
            starts = subst (λ (g : WorldEffect). StartsAt (old.world).next_copy (copies_in g)) same made.1;
            flying = λ i. ap (λ (k : KeptLists). k.flying i) all ∙ ap (λ (g : WorldEffect). with_copies (λ i. reverse (list_of casts i)) (own_list y) (copies_in g) i) same;
          },
          nodes_stay e old new nodes casts _ t all,
        )

    by : (d : Done) → IsDone e old d new packet → step old.world e ≡ outcome_in old.mesh y new.world d packet → Casts e old new y d packet nodes casts (own_list y) × NodesGo e old nodes nodes casts
    by done.Idle is out =
        let all = walked_is old.world e (kept_lists nodes casts) Idle out ∙ none in
        let next = idle_next e old new y packet is in
        (record { next = omega arith; starts = tt; flying = λ i. ap (λ (k : KeptLists). k.flying i) all }, nodes_stay e old new nodes casts _ t all)
    by done.Changed is out = some done.Changed _ refl out
    by (done.Taken took effect air) is out = some (done.Taken took effect air) _ refl out
    by (done.Sent effect air) is out = some (done.Sent effect air) _ refl out
    by (done.Heard from to) is out = some (done.Heard from to) _ refl out
    by (done.Lost flying) is out = some (done.Lost flying) _ refl out
    by (done.Doubled id to parcel) is out = some (done.Doubled id to parcel) _ refl out

own_casts : (x : ℕ) (e : Event) (old new : WorldSeen) (d : Done) (packet : List ℕ) (nodes : List NodeLists) (casts : List lists.Cast) → IsOwnOf x e → IsDone e old d new packet → AreWalks old nodes casts
    → Casts e old new x d packet nodes casts (own_list x) × NodesGo e old nodes nodes casts
own_casts x (worlds.Give y d b) old new done packet nodes casts own is t = absurd own
own_casts x (worlds.Turn y) old new done packet nodes casts own is t = absurd own
own_casts x (worlds.Link a b) old new done packet nodes casts own is t = absurd own
own_casts x (worlds.Cut a b) old new done packet nodes casts own is t = absurd own
own_casts x (worlds.Deliver id) old new done packet nodes casts own is t = absurd own
own_casts x (worlds.Lose id) old new done packet nodes casts own is t = absurd own
own_casts x (worlds.Double id) old new done packet nodes casts own is t = absurd own
own_casts x (worlds.Send y dest) old new d packet nodes casts own is t = own_by (worlds.Send y dest) x old new d packet nodes casts tt own (λ w' h. ap (λ (z : ℕ). record (kept_lists nodes casts) { flying = with_copies (λ i. reverse (list_of casts i)) (own_list z) (copies_in h) }) own) refl is t
own_casts x (worlds.Ask y dest) old new d packet nodes casts own is t = own_by (worlds.Ask y dest) x old new d packet nodes casts tt own (λ w' h. ap (λ (z : ℕ). record (kept_lists nodes casts) { flying = with_copies (λ i. reverse (list_of casts i)) (own_list z) (copies_in h) }) own) refl is t

pub own_sent : (x : ℕ) (e : Event) (old new : WorldSeen) (d : Done) (packet : List ℕ) (nodes : List NodeLists) (casts casts' : List lists.Cast) (c : lists.Cast) (rows : List (List ℕ)) (l : List ℕ) → IsOwnOf x e → IsSoundWorld new → IsDone e old d new packet
    → (old.world).next_copy < (new.world).next_copy → casts' ≡ casts ++ c ∷ [] → c.first ≡ (old.world).next_copy → c.end ≡ (new.world).next_copy
    → (refusal packet ≡ None → c.list ≡ sent_after x fronts.New rows l (said_of (meaning old.mesh packet))) → AreWalks old nodes casts → AreWalks new nodes casts'
own_sent x e old new d packet nodes casts casts' c rows l own sound is less more first end list t =
    let k = own_casts x e old new d packet nodes casts own is t in
    cast_done e old new x d packet nodes nodes casts casts' c (own_list x) sound is k.0 k.1 less more first end (λ free. ap reverse (list free) ∙ turned_own x rows l (meaning old.mesh packet)) t

pub own_none : (x : ℕ) (e : Event) (old new : WorldSeen) (d : Done) (packet : List ℕ) (nodes : List NodeLists) (casts : List lists.Cast) → IsOwnOf x e → IsSoundWorld new → IsDone e old d new packet
    → (new.world).next_copy ≤ (old.world).next_copy → AreWalks old nodes casts → AreWalks new nodes casts
own_none x e old new d packet nodes casts own sound is less t =
    let k = own_casts x e old new d packet nodes casts own is t in
    none_done e old new x d packet nodes nodes casts (own_list x) sound is k.0 k.1 less t
