-- The lists of a node, among those of all nodes.
use Rattle.std.proofs.Common.{◌≡◌, ℕ, ◌<◌, Bool, true, false, ◌==◌, List, [], ◌∷◌, map, length, Option, Some, Ok, refl, sym, ap, ◌∙◌, arith}
use Rattle.std.specs.Prelude.{slice_get, slice_set, slice_index_or, reverse, if◌then◌else◌}
use Rattle.std.specs.List.{AllByRecursion}
use Rattle.std.specs.Global.{Vec}
use Rattle.std.specs.Vec.{vec_len}
use Rattle.std.proofs.lemmas.Bool.{eqb-true, eqb-false}
use Rattle.std.proofs.lemmas.List.{length-set}
use Rattle.std.proofs.lemmas.Option.{slice_get_read}
use Rattle.mesh_model.proofs.Lists.{set_other}
use Rattle.mesh_model.specs.Worlds as worlds
use Rattle.mesh_model.specs.Worlds.{World, Copy, Event, Outcome, Idle, Link, Cut, Lose, Next, step}
use Rattle.mesh_base.specs.declared.events.Done.{Done}
use Rattle.mesh_base.proofs.Lemmas.Lists.{each_at}
use Rattle.mesh_world.proofs.Frames.{each_set, set_got}
use Rattle.mesh_world.specs.Seen.{WorldSeen, IsSoundWorld}
use Rattle.mesh_world.specs.Steps.{IsStep}
use Rattle.mesh_model.specs.Kept.{KeptLists, lists_after, walked_by, changed_at}
use Rattle.mesh_trail.specs.Lists.{row}
use Rattle.mesh_trail.specs.Casts.{list_of}
use Rattle.mesh_trail.specs.Steps.{MovesNothing}
use Rattle.mesh_trail.specs.Trails.{AreWalks, kept_lists, rows_of, queue_of}
use Rattle.mesh_trail.specs.declared.lists.NodeLists.{NodeLists}
use Rattle.mesh_trail.specs.declared.casts.Cast.{Cast}
use Rattle.mesh_trail.proofs.Moves.{AreFlying, IsAfter, after_done, goes_on, holds_so, no_cast}
use Rattle.mesh_trail.proofs.Ways.{IsQuiet, quiet_next}

-- ---- reading

pub is_there : (w : WorldSeen) (nodes : List NodeLists) (casts : List Cast) (x : ℕ) → AreWalks w nodes casts → x < length w.mesh → x < length nodes
is_there w nodes casts x t l = let c = t.count in omega arith

pub within : (v : Vec NodeLists) (w : WorldSeen) (casts : List Cast) (x : ℕ) → AreWalks w v.items casts → x < length w.mesh → x < vec_len v
within v w casts x t l = let c = t.count in let e = v.ok.0 in omega arith

pub node_at : (nodes : List NodeLists) (w : WorldSeen) (casts : List Cast) (x : ℕ) (n : NodeLists) → AreWalks w nodes casts → x < length w.mesh → n ≡ slice_index_or nodes x n → slice_get nodes x ≡ Some n
node_at nodes w casts x n t l is = slice_get_read nodes (length nodes) x n refl (is_there w nodes casts x t l) is

pub rows_at : (nodes : List NodeLists) (w : WorldSeen) (casts : List Cast) (x : ℕ) (n : NodeLists) → AreWalks w nodes casts → slice_get nodes x ≡ Some n → length (n.entries).items ≡ length w.mesh
rows_at nodes w casts x n t is = each_at (λ (m : NodeLists). length (m.entries).items ≡ length w.mesh) nodes x n t.rows is

-- ---- one node changed

pub at_set : {B : Type 0} (f : Option NodeLists → B) (nodes : List NodeLists) (x : ℕ) (n : NodeLists) (z : ℕ) → x < length nodes → f (slice_get (slice_set nodes x n) z) ≡ (if z == x then f (Some n) else f (slice_get nodes z))
at_set f nodes x n z l = by (z == x) refl
  where
    by : (b : Bool) → (z == x) ≡ b → f (slice_get (slice_set nodes x n) z) ≡ (if z == x then f (Some n) else f (slice_get nodes z))
    by true is = rw is (ap f (ap (slice_get (slice_set nodes x n)) (eqb-true z x is) ∙ set_got nodes x n l))
    by false is = rw is (ap f (set_other nodes x z n (eqb-false z x is)))

pub still_at : {B : Type 0} (f : Option NodeLists → B) (nodes : List NodeLists) (x : ℕ) (n : NodeLists) (z : ℕ) → x < length nodes → f (Some n) ≡ f (slice_get nodes x) → f (slice_get nodes z) ≡ f (slice_get (slice_set nodes x n) z)
still_at f nodes x n z l same = sym (at_set f nodes x n z l ∙ by (z == x) refl)
  where
    by : (b : Bool) → (z == x) ≡ b → (if z == x then f (Some n) else f (slice_get nodes z)) ≡ f (slice_get nodes z)
    by true is = rw is (same ∙ ap (λ (k : ℕ). f (slice_get nodes k)) (sym (eqb-true z x is)))
    by false is = rw is refl

-- lists that the model changes at x, and the code too
pub changed_so : {B : Type 0} (f : Option NodeLists → B) (nodes : List NodeLists) (x : ℕ) (n : NodeLists) (v : B) (z : ℕ) → x < length nodes → v ≡ f (Some n) → changed_at (λ k. f (slice_get nodes k)) x v z ≡ f (slice_get (slice_set nodes x n) z)
changed_so f nodes x n v z l is = ap (λ u. if z == x then u else f (slice_get nodes z)) is ∙ sym (at_set f nodes x n z l)

abbrev pub turned_row : ℕ → Option NodeLists → List ℕ
turned_row d o = reverse (row (rows_of o) d)

abbrev pub turned_queue : Option NodeLists → List (List ℕ)
turned_queue o = map reverse (queue_of o)

-- room was made in the lists of a node
pub roomed : (w : WorldSeen) (nodes : List NodeLists) (casts : List Cast) (x : ℕ) (n now : NodeLists) → AreWalks w nodes casts → slice_get nodes x ≡ Some n → x < length nodes → now.entries ≡ n.entries → (now.queue).items ≡ (n.queue).items → AreWalks w (slice_set nodes x now) casts
roomed w nodes casts x n now t at l entries queue = record {
  sound = t.sound;
  variant = t.variant;
  ran = t.ran;
  holds = holds_so t.variant w.world (kept_lists nodes casts) (kept_lists (slice_set nodes x now) casts) (record {
    entries = λ z d. still_at (turned_row d) nodes x now z l (ap (λ (v : Vec (List ℕ)). reverse (row v.items d)) entries ∙ ap (turned_row d) (sym at));
    queues = λ z. still_at turned_queue nodes x now z l (ap (map reverse) queue ∙ ap turned_queue (sym at));
    flying = each (w.world).flying;
  }) t.holds;
  count = length-set nodes x now ∙ t.count;
  rows = each_set (λ (m : NodeLists). length (m.entries).items ≡ length w.mesh) nodes x now t.rows (ap (λ (v : Vec (List ℕ)). length v.items) entries ∙ rows_at nodes w casts x n t at);
  covered = t.covered;
  ends = t.ends;
}
  where
    each : (cs : List Copy) → AllByRecursion (λ (c : Copy). reverse (list_of casts c.id) ≡ reverse (list_of casts c.id)) cs
    each [] = tt
    each (c ∷ cs) = (refl, each cs)

-- ---- events that move no list

pub unmoved : (e : Event) (old new : WorldSeen) (nodes : List NodeLists) (casts : List Cast) → IsAfter e old new → IsSoundWorld new → lists_after old.world e (kept_lists nodes casts) ≡ kept_lists nodes casts → (new.world).next_copy ≡ (old.world).next_copy
    → AreWalks old nodes casts → AreWalks new nodes casts
unmoved e old new nodes casts later sound same next t =
    let now = (lists_after old.world e (kept_lists nodes casts)).flying in
    let f : AreFlying old new (λ id. reverse (list_of casts id)) now casts casts = no_cast e old new nodes casts now later t next (λ id. ap (λ (k : KeptLists). k.flying id) same) in
    goes_on e old new nodes nodes casts casts later sound (record {
      agrees = record { entries = λ x d. ap (λ (k : KeptLists). k.entries x d) same; queues = λ x. ap (λ (k : KeptLists). k.queues x) same; flying = f.lists };
      count = refl;
      rows = t.rows;
      covered = f.covered;
      ends = f.ends;
    }) t

pub walked_is : (w : World) (e : Event) (k : KeptLists) (o : Outcome) → step w e ≡ o → lists_after w e k ≡ walked_by w e o k
unfolding lists_after
walked_is w e k o is = ap (λ (p : Outcome). walked_by w e p k) is

walked_still : (w : World) (e : Event) (k : KeptLists) → MovesNothing e → lists_after w e k ≡ k
walked_still w e k still = walked_is w e k (step w e) refl ∙ by e still (step w e)
  where
    by : (e : Event) → MovesNothing e → (o : Outcome) → walked_by w e o k ≡ k
    by (Link a b) still Idle = refl
    by (Link a b) still (worlds.Full x f) = refl
    by (Link a b) still (Next w' h) = refl
    by (Cut a b) still Idle = refl
    by (Cut a b) still (worlds.Full x f) = refl
    by (Cut a b) still (Next w' h) = refl
    by (Lose id) still Idle = refl
    by (Lose id) still (worlds.Full x f) = refl
    by (Lose id) still (Next w' h) = refl
    by (worlds.Give x d b) still o = absurd still
    by (worlds.Turn x) still o = absurd still
    by (worlds.Send x d) still o = absurd still
    by (worlds.Ask x d) still o = absurd still
    by (worlds.Deliver id) still o = absurd still
    by (worlds.Double id) still o = absurd still

quiet : (e : Event) → MovesNothing e → IsQuiet e
quiet (Link a b) still = tt
quiet (Cut a b) still = tt
quiet (Lose id) still = tt
quiet (worlds.Give x d b) still = absurd still
quiet (worlds.Turn x) still = absurd still
quiet (worlds.Send x d) still = absurd still
quiet (worlds.Ask x d) still = absurd still
quiet (worlds.Deliver id) still = absurd still
quiet (worlds.Double id) still = absurd still

pub quiet_after : (e : Event) (old new : WorldSeen) → IsAfter e old new → IsQuiet e → (new.world).next_copy ≡ (old.world).next_copy
quiet_after e old new later quiet = ap (λ (w : World). w.next_copy) later.world ∙ quiet_next old.world e quiet

pub passed : (e : Event) (old new : WorldSeen) (d : Done) (packet : List ℕ) (nodes : List NodeLists) (casts : List Cast) → MovesNothing e → IsSoundWorld new → IsStep e old (Ok d) new packet → AreWalks old nodes casts → AreWalks new nodes casts
passed e old new d packet nodes casts still sound is t =
    let later = after_done e old new d packet is in
    unmoved e old new nodes casts later sound (walked_still old.world e (kept_lists nodes casts) still) (quiet_after e old new later (quiet e still)) t
