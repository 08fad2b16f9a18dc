-- The lists go with the world.
use Rattle.std.proofs.Common.{◌≡◌, ℕ, ◌<◌, ◌≤◌, List, [], ◌∷◌, ◌++◌, filter, map, length, Result, Ok, Err, refl, sym, ap, subst, ◌∙◌, arith}
use Rattle.std.specs.Prelude.{reverse}
use Rattle.std.specs.List.{AllByRecursion}
use Rattle.mesh_base.specs.declared.events.Done.{Done}
use Rattle.mesh_base.specs.declared.events.Flying.{Flying}
use Rattle.mesh_base.specs.declared.events.Variant.{Variant}
use Rattle.mesh_model.specs.Worlds.{World, Copy, Event, after, start, step}
use Rattle.mesh_model.specs.Trails.{around}
use Rattle.mesh_model.proofs.Lists.{each_map}
use Rattle.mesh_model.proofs.OnlyNumbers.{only_numbers_fill}
use Rattle.mesh_meaning.specs.Packets.{copy_in}
use Rattle.mesh_model.specs.Kept.{KeptLists, from_id_on, lists_after}
use Rattle.mesh_model.specs.Held.{CopyHolds, Holds, IsEntryWalk, ItemsHold, MessageHolds, NodeHolds}
use Rattle.mesh_trail.proofs.Steps.{both, id_after, id_before, step_holds}
use Rattle.mesh_world.specs.Seen.{WorldSeen, IsSoundWorld}
use Rattle.mesh_world.specs.Steps.{IsDone, IsStep}
use Rattle.mesh_world.specs.declared.steps.StepError.{StepError}
use Rattle.mesh_world.specs.declared.steps.StepError.TheVariants as errors
use Rattle.mesh_trail.specs.Walks.{FillsNumber}
use Rattle.mesh_trail.specs.Casts.{IsCovered, AreEnding, list_of, flies_in}
use Rattle.mesh_trail.specs.Trails.{AreWalks, IsOfRun, kept_lists}
use Rattle.mesh_trail.specs.declared.lists.NodeLists.{NodeLists}
use Rattle.mesh_trail.specs.declared.casts.Cast.{Cast}
use Rattle.mesh_trail.proofs.Positions.{Stays, covered_below, covered_kept, covered_more, covered_new, ends_kept, ends_more, flying_stays, list_kept, list_new, list_old}
use Rattle.mesh_trail.proofs.Ways.{flies, run_more}

-- ---- lists that are the same where it matters

pub record Agrees (w : World) (k now : KeptLists) : Type 0 where
  pub entries : (x d : ℕ) → k.entries x d ≡ now.entries x d
  pub queues : (x : ℕ) → k.queues x ≡ now.queues x
  pub flying : AllByRecursion (λ (c : Copy). k.flying c.id ≡ now.flying c.id) w.flying

pub holds_so : (v : Variant) (w : World) (k now : KeptLists) → Agrees w k now → Holds v w k → Holds v w now
holds_so v w k now same h = record {
  nodes = λ x n is. let t : NodeHolds (around v w) x n (k.entries x) (k.queues x) = h.nodes x n is in record {
    variant = t.variant;
    entries = λ d e there valid. subst (IsEntryWalk (around v w) x d e.dsn e.hops e.next) (same.entries x d) (t.entries d e there valid);
    queue = subst (ItemsHold (around v w) x n.queue) (same.queues x) t.queue;
  };
  flying = both (λ (c : Copy). k.flying c.id ≡ now.flying c.id) (CopyHolds (around v w) k.flying) (CopyHolds (around v w) now.flying)
      (λ c e t. (t.0, subst (MessageHolds (around v w) c.from c.message) e t.1)) w.flying same.flying h.flying;
  stood = h.stood;
}

-- ---- casts of which no copy flies go

pub swept : (w : WorldSeen) (nodes : List NodeLists) (casts now : List Cast) (fs : List Flying) → map (copy_in w.mesh) fs ≡ (w.world).flying → now ≡ filter (flies_in fs) casts → AreWalks w nodes casts → AreWalks w nodes now
swept w nodes casts now fs shown is t =
    let stays = flying_stays w.mesh fs (w.world).flying (w.world).next_copy shown (t.sound).invariant.in_mesh.numbered in
    subst (AreWalks w nodes) (sym is) (record {
      sound = t.sound;
      variant = t.variant;
      ran = t.ran;
      holds = holds_so t.variant w.world (kept_lists nodes casts) (kept_lists nodes (filter (flies_in fs) casts)) (record {
        entries = λ x d. refl;
        queues = λ x. refl;
        flying = both (λ (c : Copy). Stays (flies_in fs) c.id) (λ (c : Copy). IsCovered casts c.id) (λ (c : Copy). reverse (list_of casts c.id) ≡ reverse (list_of (filter (flies_in fs) casts) c.id))
            (λ c s covered. ap reverse (sym (list_kept (flies_in fs) casts c.id s covered))) (w.world).flying stays t.covered;
      }) t.holds;
      count = t.count;
      rows = t.rows;
      covered = both (λ (c : Copy). Stays (flies_in fs) c.id) (λ (c : Copy). IsCovered casts c.id) (λ (c : Copy). IsCovered (filter (flies_in fs) casts) c.id) (λ c s covered. covered_kept (flies_in fs) casts c.id s covered) (w.world).flying stays t.covered;
      ends = ends_kept (flies_in fs) 0 casts (w.world).next_copy t.ends;
    })

-- ---- an event

-- what is seen of the world after it
pub record IsAfter (e : Event) (old new : WorldSeen) : Type 0 where
  pub mesh : new.mesh ≡ old.mesh
  pub world : new.world ≡ after old.world (step old.world e)

pub after_done : (e : Event) (old new : WorldSeen) (d : Done) (packet : List ℕ) → IsDone e old d new packet → IsAfter e old new
after_done e old new d packet t = record { mesh = ap (λ (w : WorldSeen). w.mesh) t.world; world = ap (λ (w : WorldSeen). w.world) t.world }

ran_on : (v : Variant) (e : Event) (old new : World) → new ≡ after old (step old e) → IsOfRun v old → IsOfRun v new
ran_on v e old new is r = record {
  firsts = r.firsts;
  events = r.events ++ e ∷ [];
  numbers = r.numbers;
  is = is ∙ ap (λ (w : World). after w (step w e)) r.is ∙ sym (run_more (start v r.firsts) r.events e);
}

-- the lists now: those that the event leaves
pub record Follows (e : Event) (old new : WorldSeen) (nodes nodes' : List NodeLists) (casts casts' : List Cast) : Type 0 where
  pub agrees : Agrees new.world (lists_after old.world e (kept_lists nodes casts)) (kept_lists nodes' casts')
  pub count : length nodes' ≡ length nodes
  pub rows : AllByRecursion (λ n. length (n.entries).items ≡ length old.mesh) nodes'
  pub covered : AllByRecursion (λ (c : Copy). IsCovered casts' c.id) (new.world).flying
  pub ends : AreEnding 0 casts' (new.world).next_copy

pub goes_on : (e : Event) (old new : WorldSeen) (nodes nodes' : List NodeLists) (casts casts' : List Cast) → IsAfter e old new → IsSoundWorld new → Follows e old new nodes nodes' casts casts' → AreWalks old nodes casts → AreWalks new nodes' casts'
goes_on e old new nodes nodes' casts casts' then sound f t =
    let size : length new.mesh ≡ length old.mesh = ap length then.mesh in
    record {
      sound = sound;
      variant = t.variant;
      ran = ran_on t.variant e old.world new.world then.world t.ran;
      holds = holds_so t.variant new.world (lists_after old.world e (kept_lists nodes casts)) (kept_lists nodes' casts') f.agrees
          (subst (λ (w : World). Holds t.variant w (lists_after old.world e (kept_lists nodes casts))) (sym then.world) (step_holds t.variant old.world e (kept_lists nodes casts) (t.sound).invariant t.holds));
      count = f.count ∙ t.count ∙ sym size;
      rows = subst (λ n. AllByRecursion (λ m. length (m.entries).items ≡ n) nodes') (sym size) f.rows;
      covered = f.covered;
      ends = f.ends;
    }

-- ---- the casts after an event

-- the lists of the copies in flight: as before where there is no copy more, else with a list for the new copies
pub record AreFlying (old new : WorldSeen) (before now : ℕ → List ℕ) (casts casts' : List Cast) : Type 0 where
  pub lists : AllByRecursion (λ (c : Copy). now c.id ≡ reverse (list_of casts' c.id)) (new.world).flying
  pub covered : AllByRecursion (λ (c : Copy). IsCovered casts' c.id) (new.world).flying
  pub ends : AreEnding 0 casts' (new.world).next_copy

flies_after : (P : Copy → Type 0) (e : Event) (old new : World) → new ≡ after old (step old e) → AllByRecursion P old.flying → ((c : Copy) → old.next_copy ≤ c.id → c.id < new.next_copy → P c) → AllByRecursion P new.flying
flies_after P e old new is all more =
    subst (λ (w : World). AllByRecursion P w.flying) (sym is)
    (flies P old e all (subst (λ (w : World). (c : Copy) → old.next_copy ≤ c.id → c.id < w.next_copy → P c) is more))

pub no_cast : (e : Event) (old new : WorldSeen) (nodes : List NodeLists) (casts : List Cast) (now : ℕ → List ℕ) → IsAfter e old new → AreWalks old nodes casts → (new.world).next_copy ≡ (old.world).next_copy
    → ((id : ℕ) → now id ≡ reverse (list_of casts id)) → AreFlying old new (λ id. reverse (list_of casts id)) now casts casts
no_cast e old new nodes casts now then t next same =
    let none = λ (c : Copy) (le : (old.world).next_copy ≤ c.id) (lt : c.id < (new.world).next_copy). wrong c.id (old.world).next_copy (new.world).next_copy next le lt in
    record {
      lists = flies_after (λ (c : Copy). now c.id ≡ reverse (list_of casts c.id)) e old.world new.world then.world (each_map (λ (c : Copy). IsCovered casts c.id) (λ (c : Copy). now c.id ≡ reverse (list_of casts c.id)) (λ c _. same c.id) (old.world).flying t.covered) (λ c le lt. same c.id);
      covered = flies_after (λ (c : Copy). IsCovered casts c.id) e old.world new.world then.world t.covered (λ c le lt. absurd (none c le lt));
      ends = subst (AreEnding 0 casts) (sym next) t.ends;
    }
  where
    wrong : (id a b : ℕ) → b ≡ a → a ≤ id → id < b → ⊥
    wrong id a b e le lt = omega arith

pub one_cast : (e : Event) (old new : WorldSeen) (nodes : List NodeLists) (casts casts' : List Cast) (c : Cast) (now : ℕ → List ℕ) → IsAfter e old new → AreWalks old nodes casts → (old.world).next_copy ≤ (new.world).next_copy
    → casts' ≡ casts ++ c ∷ [] → c.first ≡ (old.world).next_copy → c.end ≡ (new.world).next_copy
    → ((id : ℕ) → now id ≡ from_id_on (λ id. reverse (list_of casts id)) (old.world).next_copy (reverse c.list) id) → AreFlying old new (λ id. reverse (list_of casts id)) now casts casts'
one_cast e old new nodes casts casts' c now then t more is first end same =
    let next = (old.world).next_copy in
    subst (λ cs. AreFlying old new (λ id. reverse (list_of casts id)) now casts cs) (sym is) (record {
      lists = flies_after (λ (d : Copy). now d.id ≡ reverse (list_of (casts ++ c ∷ []) d.id)) e old.world new.world then.world
          (each_map (λ (d : Copy). IsCovered casts d.id) (λ (d : Copy). now d.id ≡ reverse (list_of (casts ++ c ∷ []) d.id))
          (λ d covered. same d.id ∙ id_before (λ id. reverse (list_of casts id)) next (reverse c.list) d.id (covered_below 0 casts next d.id t.ends covered) ∙ ap reverse (sym (list_old casts c d.id covered))) (old.world).flying t.covered)
          (λ d le lt. same d.id ∙ id_after (λ id. reverse (list_of casts id)) next (reverse c.list) d.id le ∙ ap reverse (sym (list_new 0 casts next c d.id t.ends le (omega arith))));
      covered = flies_after (λ (d : Copy). IsCovered (casts ++ c ∷ []) d.id) e old.world new.world then.world
          (each_map (λ (d : Copy). IsCovered casts d.id) (λ (d : Copy). IsCovered (casts ++ c ∷ []) d.id) (λ d covered. covered_more casts c d.id covered) (old.world).flying t.covered)
          (λ d le lt. covered_new 0 casts next c d.id t.ends le (omega arith) (omega arith));
      ends = subst (AreEnding 0 (casts ++ c ∷ [])) end (ends_more 0 casts next c t.ends (omega arith));
    })

-- ---- answers

pub fills : (v : Variant) (e : Event) (old new : WorldSeen) (answer : Result Done StepError) (packet : List ℕ) → IsOfRun v old.world → IsStep e old answer new packet → FillsNumber answer
fills v e old new (Ok d) packet r is = tt
fills v e old new (Err (errors.Full node field)) packet r is =
    only_numbers_fill v r.firsts r.events e node field r.numbers (ap (λ (w : World). step w e) (sym r.is) ∙ is.0)
fills v e old new (Err errors.NoMemory) packet r is = tt

same_after : (e : Event) (old new : WorldSeen) (why : StepError) (packet : List ℕ) → IsStep e old (Err why) new packet → new ≡ old
same_after e old new (errors.Full node field) packet is = is.1
same_after e old new errors.NoMemory packet is = is

-- the world refused
pub refused : (e : Event) (old new : WorldSeen) (why : StepError) (packet : List ℕ) (nodes : List NodeLists) (casts : List Cast) → IsStep e old (Err why) new packet → AreWalks old nodes casts → AreWalks new nodes casts
refused e old new why packet nodes casts is t = subst (λ (w : WorldSeen). AreWalks w nodes casts) (sym (same_after e old new why packet is)) t
