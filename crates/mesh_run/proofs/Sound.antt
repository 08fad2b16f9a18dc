-- What every state of a run has.
use Rattle.std.proofs.Common.{◌≡◌, ◌≤◌, ◌+◌, ℕ, false, Option, Some, None, Result, Ok, List, [], length, is_some, refl, sym, ap, subst, ◌∙◌, arith}
use Rattle.std.specs.Prelude.{IfSome}
use Rattle.std.specs.Option.{ForSome, unwrap_or, option_map}
use Rattle.std.proofs.lemmas.List.{length-map}
use Rattle.mesh_base.specs.Bounds.{most_steps}
use Rattle.mesh_base.specs.declared.limits.TheConstants.{MOST_NODES}
use Rattle.mesh_base.specs.Meshes.{Nodes, IsMesh, with_node}
use Rattle.mesh_base.proofs.Grown.{grown_is_mesh}
use Rattle.mesh_base.specs.declared.events.Variant.{Variant}
use Rattle.mesh_base.specs.declared.events.Done.{Done}
use Rattle.mesh_model.specs.Worlds.{World, Event, Outcome, step, after, start, first_numbers}
use Rattle.mesh_model.specs.Accounts.{any, waiting, queued_data, in_flight}
use Rattle.mesh_model.specs.InMesh.{IsEvent}
use Rattle.mesh_model.proofs.AccountSteps.{start_empty}
use Rattle.mesh_model.proofs.Sizes.{start_size}
use Rattle.mesh_meaning.specs.Events.{node_of}
use Rattle.mesh_meaning.specs.Answers.{outcome_in, IsDoneInMesh}
use Rattle.mesh_text.specs.Schedule.{Sums, RunState, no_sums, world_of, next_state, sums_after}
use Rattle.mesh_text.specs.Accounts.{IsBalanced}
use Rattle.mesh_text.specs.Ranges.{IsNewNode}
use Rattle.mesh_text.proofs.RunStates.{event_keeps_account}
use Rattle.mesh_world.proofs.Openings.{sound_opening}
use Rattle.mesh_world.specs.Seen.{WorldSeen, opening, IsSoundWorld, most_data_at_first}
use Rattle.mesh_world.specs.declared.totals.Totals.{Totals}
use Rattle.mesh_world.specs.Steps.{IsDone, IsStep}
use Rattle.mesh_world.specs.CountsOfEvents.{AreEventCounts, AreEventCountsOf}
use Rattle.mesh_world.specs.declared.event_counts.EventCounts.{EventCounts}
use Rattle.mesh_world.specs.declared.steps.StepError.{StepError}
use Rattle.mesh_run.specs.Sums.{AreCounts}
use Rattle.mesh_run.specs.RunStates.{AreOfVariant, AreTotals, IsWorldOf, IsWorldAt, IsSound, IsSafe, IsAnswer, run_state_seen}
use Rattle.mesh_run.proofs.OfVariant.{start_of, step_of}

-- there are no data before the run has started
pub record Nothing (w : World) : Type 0 where
  pub waiting : 0 ≡ waiting any w
  pub queued : 0 ≡ queued_data any w
  pub flying : 0 ≡ in_flight any w

nothing_at : (v : Variant) (firsts : Nodes) → Nothing (start v (first_numbers firsts))
nothing_at v firsts =
    let e = start_empty any v (first_numbers firsts) in
    record { waiting = omega (arith, e); queued = omega (arith, e); flying = omega (arith, e) }

pub nothing_held : (m : RunState) → false ≡ is_some m.world → Nothing (world_of m)
nothing_held m h = by_world m.world h
  where
    by_world : (o : Option World) → false ≡ is_some o → Nothing (unwrap_or o (start m.variant (first_numbers m.mesh)))
    by_world None h = nothing_at m.variant m.mesh
    by_world (Some w) h = absurd (let P : ⊥ = cc in P)

-- ---- the data of a state's world

pub totals_made : (m : RunState) (w : World) (t : Totals) → m.world ≡ Some w → AreTotals w t → AreTotals (world_of m) t
totals_made m w t is are = subst (λ (o : Option World). AreTotals (unwrap_or o (start m.variant (first_numbers m.mesh))) t) (sym is) are

pub totals_none : (m : RunState) (t : Totals) → m.world ≡ None → t.waiting ≡ 0 → t.queued ≡ 0 → t.flying ≡ 0 → AreTotals (world_of m) t
totals_none m t none a b c =
    let nothing = nothing_held m (ap is_some (sym none)) in
    record { waiting = a ∙ nothing.waiting; queued = b ∙ nothing.queued; flying = c ∙ nothing.flying }

pub totals_few : (w : WorldSeen) (t : Totals) → IsSoundWorld w → AreTotals w.world t → t.waiting + t.queued + t.flying ≤ most_data_at_first + most_steps
totals_few w t sound are =
    let few = sound.few in
    let steps = sound.steps in
    let a = are.waiting in
    let b = are.queued in
    let c = are.flying in
    omega arith

-- the account, by the totals
pub balanced_by : (m : RunState) (t : Totals) → AreTotals (world_of m) t → (m.sums).given + (m.sums).copied ≡ (m.sums).delivered + (t.waiting + t.queued + t.flying) + (m.sums).lost → IsBalanced m
balanced_by m t are sum = let a = are.waiting in let b = are.queued in let c = are.flying in omega arith

pub account_by : (m : RunState) (t : Totals) → AreTotals (world_of m) t → IsBalanced m → (m.sums).given + (m.sums).copied ≡ (m.sums).delivered + (t.waiting + t.queued + t.flying) + (m.sums).lost
account_by m t are balanced = let a = are.waiting in let b = are.queued in let c = are.flying in omega arith

-- ---- safety

-- each sound state is safe
pub safe_sound : (variant : Variant) (nodes : Nodes) (seen : Option WorldSeen) (s : Sums) (lines : ℕ) → IsSound (run_state_seen variant nodes seen s lines) seen
    → IsSafe (run_state_seen variant nodes seen s lines)
safe_sound variant nodes None s lines is = record { world = tt; balanced = is.balanced }
safe_sound variant nodes (Some w) s lines is =
    let sound = (is.world w refl).sound in
    record { world = record { invariant = sound.invariant; loop_free = sound.acyclic }; balanced = is.balanced }

-- and is the state that is seen
pub safe_at : (m : RunState) (variant : Variant) (nodes : Nodes) (seen : Option WorldSeen) (s : Sums) (lines : ℕ) → run_state_seen variant nodes seen s lines ≡ m → IsSound (run_state_seen variant nodes seen s lines) seen
    → IsSafe m
safe_at m variant nodes seen s lines is sound = subst IsSafe is (safe_sound variant nodes seen s lines sound)

-- the nodes of the world run the state's variant
variant_sound : (variant : Variant) (nodes : Nodes) (seen : Option WorldSeen) (s : Sums) (lines : ℕ) → IsSound (run_state_seen variant nodes seen s lines) seen
    → IfSome (run_state_seen variant nodes seen s lines).world (AreOfVariant variant)
variant_sound variant nodes None s lines is = tt
variant_sound variant nodes (Some w) s lines is = (is.world w refl).fits.variant

pub variant_at : (m : RunState) (variant : Variant) (nodes : Nodes) (seen : Option WorldSeen) (s : Sums) (lines : ℕ) → run_state_seen variant nodes seen s lines ≡ m → IsSound (run_state_seen variant nodes seen s lines) seen
    → IfSome m.world (AreOfVariant m.variant)
variant_at m variant nodes seen s lines is sound = subst (λ (k : RunState). IfSome k.world (AreOfVariant k.variant)) is (variant_sound variant nodes seen s lines sound)

-- a mesh has room for the nodes of its world
sized_sound : (variant : Variant) (nodes : Nodes) (seen : Option WorldSeen) (s : Sums) (lines : ℕ) → IsSound (run_state_seen variant nodes seen s lines) seen
    → length (world_of (run_state_seen variant nodes seen s lines)).nodes ≤ MOST_NODES
sized_sound variant nodes None s lines is =
    let size = start_size variant (first_numbers nodes) in
    let count = length-map nodes (λ p. p.1) in
    let few = (is.mesh).few in
    omega arith
sized_sound variant nodes (Some w) s lines is =
    let at = is.world w refl in
    let count = (at.sound).count in
    let same : length w.mesh ≡ length nodes = ap length at.fits.mesh in
    let few = (is.mesh).few in
    omega arith

pub sized_at : (m : RunState) (variant : Variant) (nodes : Nodes) (seen : Option WorldSeen) (s : Sums) (lines : ℕ) → run_state_seen variant nodes seen s lines ≡ m → IsSound (run_state_seen variant nodes seen s lines) seen
    → length (world_of m).nodes ≤ MOST_NODES
sized_at m variant nodes seen s lines is sound = subst (λ k. length (world_of k).nodes ≤ MOST_NODES) is (sized_sound variant nodes seen s lines sound)

some_inj : {x y : WorldSeen} → Some x ≡ Some y → x ≡ y
some_inj h = cc

-- ---- openings

no_nodes : IsMesh []
no_nodes = record {
  rising = λ i j lt late. absurd (omega arith);
  few = omega arith;
  positive = λ i late. absurd (omega arith);
  addresses = λ i late. absurd (omega arith);
  firsts = λ i late. absurd (omega arith);
}

empty_at : (variant : Variant) → IsSound (run_state_seen variant [] None no_sums 0) None
empty_at variant =
    let none = start_empty any variant (first_numbers []) in
    record {
      mesh = no_nodes;
      counts = record { events = omega arith; idle = omega arith; given = omega arith; delivered = omega arith; lost = omega arith; copied = omega arith };
      world = λ w is. absurd (let P : ⊥ = cc in P);
      balanced = omega arith;
    }

-- before the first line
pub sound_empty : (variant : Variant) (nodes : Nodes) (s : Sums) → nodes ≡ [] → s ≡ no_sums → IsSound (run_state_seen variant nodes None s 0) None
sound_empty variant nodes s none zeros =
    subst (λ n. IsSound (run_state_seen variant n None s 0) None) (sym none) (subst (λ t. IsSound (run_state_seen variant [] None t 0) None) (sym zeros) (empty_at variant))

-- one more node, before a world is made
pub sound_grown : (variant : Variant) (nodes others : Nodes) (seen : Option WorldSeen) (s : Sums) (lines address first : ℕ) → option_map (λ w. w.world) seen ≡ None → others ≡ with_node nodes address first
    → IsNewNode nodes address first → IsSound (run_state_seen variant nodes seen s lines) seen → IsSound (run_state_seen variant others seen s lines) seen
sound_grown variant nodes others (Some w) s lines address first none grown new is = absurd (let P : ⊥ = cc in P)
sound_grown variant nodes others None s lines address first none grown new is =
    let a = start_empty any variant (first_numbers nodes) in
    let b = start_empty any variant (first_numbers others) in
    let balanced = is.balanced in
    record {
      mesh = subst IsMesh (sym grown) (grown_is_mesh nodes address first is.mesh new.absent new.few new.positive new.fits (let most = new.most in omega arith));
      counts = is.counts;
      world = λ w some. absurd (let P : ⊥ = cc in P);
      balanced = omega arith;
    }

-- one more line
pub sound_counted : (variant : Variant) (nodes : Nodes) (seen : Option WorldSeen) (s : Sums) (lines count : ℕ) → IsSound (run_state_seen variant nodes seen s lines) seen → IsSound (run_state_seen variant nodes seen s count) seen
sound_counted variant nodes seen s lines count is = record { mesh = is.mesh; counts = is.counts; world = is.world; balanced = is.balanced }

-- the opening world is made
pub sound_started : (variant : Variant) (nodes : Nodes) (seen : Option WorldSeen) (s : Sums) (lines : ℕ) (w : WorldSeen) → 1 ≤ length nodes → option_map (λ x. x.world) seen ≡ None → w ≡ opening variant nodes
    → IsSound (run_state_seen variant nodes seen s lines) seen → IsSound (run_state_seen variant nodes (Some w) s lines) (Some w)
sound_started variant nodes (Some x) s lines w some none is before = absurd (let P : ⊥ = cc in P)
sound_started variant nodes None s lines w some none is before =
    let steps : w.steps ≡ 0 = ap (λ x. x.steps) is in
    let world : w.world ≡ start variant (first_numbers nodes) = ap (λ x. x.world) is in
    let P : World → Type 0 = λ x. s.given + s.copied ≡ s.delivered + waiting any x + queued_data any x + in_flight any x + s.lost in
    let count : length (start variant (first_numbers nodes)).nodes ≡ length nodes = start_size variant (first_numbers nodes) ∙ length-map nodes (λ p. p.1) in
    record {
      mesh = before.mesh;
      counts = subst (AreCounts s) (sym steps) before.counts;
      world = λ x here. subst (IsWorldAt variant nodes) (some_inj here) (record {
        fits = record {
          mesh = ap (λ y. y.mesh) is;
          variant = subst (AreOfVariant variant) (sym world) (start_of variant (first_numbers nodes));
        };
        sound = subst IsSoundWorld (sym is) (sound_opening variant nodes before.mesh some count);
      });
      balanced = subst P (sym world) before.balanced;
    }

-- ---- parts

-- sums that were counted before a step
later_counts : (s : Sums) (steps : ℕ) → AreCounts s 0 → AreCounts s steps
later_counts s steps few =
    let a = few.events in
    let b = few.idle in
    let c = few.given in
    let d = few.delivered in
    let e = few.lost in
    let f = few.copied in
    record { events = omega arith; idle = omega arith; given = omega arith; delivered = omega arith; lost = omega arith; copied = omega arith }

pub sound_parts : (variant : Variant) (nodes : Nodes) (seen : Option WorldSeen) (s : Sums) (lines : ℕ) → IsMesh nodes → AreCounts s 0 → ForSome seen (IsWorldOf variant nodes) → ForSome seen IsSoundWorld
    → IsBalanced (run_state_seen variant nodes seen s lines) → IsSound (run_state_seen variant nodes seen s lines) seen
sound_parts variant nodes seen s lines mesh few fits sound balanced = record {
  mesh = mesh;
  counts = later_counts s (run_state_seen variant nodes seen s lines).steps few;
  world = λ w is. record { fits = fits w is; sound = sound w is };
  balanced = balanced;
}

pub as_seen : (seen : Option WorldSeen) → seen ≡ option_map (λ w. w) seen
as_seen None = refl
as_seen (Some w) = refl

-- ---- an event

-- the same answer, where the world was made for the event
pub first_answer : (variant : Variant) (nodes : Nodes) (s t : Sums) (lines : ℕ) (old new : WorldSeen) (e : Event) (d : Done) (packet : List ℕ) → old ≡ opening variant nodes
    → IsAnswer (run_state_seen variant nodes (Some old) s lines) e d (run_state_seen variant nodes (Some new) t lines) packet
    → IsAnswer (run_state_seen variant nodes None s lines) e d (run_state_seen variant nodes (Some new) t lines) packet
unfolding next_state
first_answer variant nodes s t lines old new e d packet is a =
    let b : IsAnswer (run_state_seen variant nodes (Some (opening variant nodes)) s lines) e d (run_state_seen variant nodes (Some new) t lines) packet =
    subst (λ w. IsAnswer (run_state_seen variant nodes (Some w) s lines) e d (run_state_seen variant nodes (Some new) t lines) packet) is a in
    record { run_state = b.run_state; outcome = b.outcome; in_mesh = b.in_mesh }

-- where nothing is seen of a world
pub unseen : (seen : Option WorldSeen) → option_map (λ w. w.world) seen ≡ None → seen ≡ None
unseen None none = refl
unseen (Some w) none = absurd (let P : ⊥ = cc in P)

-- what is answered in a state
pub answer_at : (variant : Variant) (nodes : Nodes) (old new : WorldSeen) (s t : Sums) (lines : ℕ) (e : Event) (d : Done) (packet : List ℕ)
    → old.mesh ≡ nodes → IsDone e old d new packet → t ≡ sums_after s e (step old.world e)
    → IsAnswer (run_state_seen variant nodes (Some old) s lines) e d (run_state_seen variant nodes (Some new) t lines) packet
unfolding next_state
answer_at variant nodes old new s t lines e d packet same done sum =
    let world : new.world ≡ after old.world (step old.world e) = ap (λ x. x.world) done.world in
    let steps : new.steps ≡ old.steps + 1 = ap (λ x. x.steps) done.world in
    record {
      run_state = ap (λ w. let x : RunState = record { variant = variant; mesh = nodes; world = Some w; sums = t; lines = lines; steps = new.steps } in x) world
          ∙ ap (λ u. let x : RunState = record { variant = variant; mesh = nodes; world = Some (after old.world (step old.world e)); sums = u; lines = lines; steps = new.steps } in x) sum
          ∙ ap (λ j. let x : RunState = record { variant = variant; mesh = nodes; world = Some (after old.world (step old.world e)); sums = sums_after s e (step old.world e); lines = lines; steps = j } in x) steps;
      outcome = done.outcome ∙ ap (λ x. outcome_in x (node_of e) new.world d packet) same;
      in_mesh = subst (λ x. IsDoneInMesh x d packet) same done.in_mesh;
    }

-- an event was done: the state after it is sound and safe, and is answered
pub record Answered (m : RunState) (variant : Variant) (nodes : Nodes) (new : WorldSeen) (t : Sums) (lines : ℕ) (e : Event) (d : Done) (packet : List ℕ) : Type 0 where
  pub sound : IsSound (run_state_seen variant nodes (Some new) t lines) (Some new)
  pub safe : IsSafe (run_state_seen variant nodes (Some new) t lines)
  pub answer : IsAnswer m e d (run_state_seen variant nodes (Some new) t lines) packet

-- the sums count an event, by the counts of its answer
pub sum_by : (e : Event) (old new : WorldSeen) (d : Done) (packet : List ℕ) (event_counts : EventCounts) (s t : Sums) → IsDone e old d new packet → AreEventCountsOf d event_counts → ((o : Outcome) → AreEventCounts e o event_counts → t ≡ sums_after s e o)
    → t ≡ sums_after s e (step old.world e)
sum_by e old new d packet event_counts s t done of counted = counted (step old.world e) (of old.mesh (node_of e) old.world new.world packet e done.in_mesh done.outcome)

answered : (variant : Variant) (nodes : Nodes) (old new : WorldSeen) (s t : Sums) (lines : ℕ) (e : Event) (r : Result Done StepError) (d : Done) (packet : List ℕ)
    → IsSound (run_state_seen variant nodes (Some old) s lines) (Some old) → IsEvent (length nodes) e
    → IsStep e old r new packet → r ≡ Ok d → IsSoundWorld new → ((steps : ℕ) → AreCounts s steps → AreCounts t (steps + 1)) → t ≡ sums_after s e (step old.world e)
    → Answered (run_state_seen variant nodes (Some old) s lines) variant nodes new t lines e d packet
answered variant nodes old new s t lines e r d packet before event took ok sound counts sum =
    let done : IsDone e old d new packet = subst (λ x. IsStep e old x new packet) ok took in
    let kept : IsWorldAt variant nodes old = before.world old refl in
    let m : RunState = run_state_seen variant nodes (Some old) s lines in
    let answer = answer_at variant nodes old new s t lines e d packet kept.fits.mesh done sum in
    let size : length (old.world).nodes ≡ length nodes = kept.sound.count ∙ ap length kept.fits.mesh in
    let within : IsEvent (length (old.world).nodes) e = subst (λ n. IsEvent n e) (sym size) event in
    let steps : new.steps ≡ old.steps + 1 = ap (λ x. x.steps) done.world in
    let after : IsSound (run_state_seen variant nodes (Some new) t lines) (Some new) = record {
      mesh = before.mesh;
      counts = subst (AreCounts t) (sym steps) (counts old.steps before.counts);
      world = λ w eq. subst (IsWorldAt variant nodes) (some_inj eq) (record {
        fits = record {
          mesh = ap (λ x. x.mesh) done.world ∙ kept.fits.mesh;
          variant = subst (AreOfVariant variant) (sym (ap (λ x. x.world) done.world)) (step_of variant old.world e kept.fits.variant);
        };
        sound = sound;
      });
      balanced = subst IsBalanced (sym answer.run_state) (event_keeps_account m e kept.sound.invariant.in_mesh within before.balanced);
    } in
    record { sound = after; safe = safe_sound variant nodes (Some new) t lines after; answer = answer }

-- in the world that is seen
pub answered_at : (m : RunState) (variant : Variant) (nodes : Nodes) (seen : Option WorldSeen) (old new : WorldSeen) (s t : Sums) (lines : ℕ) (e : Event) (r : Result Done StepError) (d : Done) (packet : List ℕ)
    → run_state_seen variant nodes seen s lines ≡ m → seen ≡ Some old → IsSound (run_state_seen variant nodes seen s lines) seen → IsEvent (length m.mesh) e
    → IsStep e old r new packet → r ≡ Ok d → IsSoundWorld new → ((steps : ℕ) → AreCounts s steps → AreCounts t (steps + 1)) → t ≡ sums_after s e (step old.world e)
    → Answered m variant nodes new t lines e d packet
answered_at m variant nodes seen old new s t lines e r d packet is some before event took ok sound counts sum =
    let here : IsSound (run_state_seen variant nodes (Some old) s lines) (Some old) = subst (λ o. IsSound (run_state_seen variant nodes o s lines) o) some before in
    let view : run_state_seen variant nodes (Some old) s lines ≡ m = sym (ap (λ o. run_state_seen variant nodes o s lines) some) ∙ is in
    let within : IsEvent (length nodes) e = subst (λ (k : RunState). IsEvent (length k.mesh) e) (sym is) event in
    let a = answered variant nodes old new s t lines e r d packet here within took ok sound counts sum in
    record { sound = a.sound; safe = a.safe; answer = subst (λ k. IsAnswer k e d (run_state_seen variant nodes (Some new) t lines) packet) view a.answer }

-- in the opening world, which was made for it
pub answered_first : (m : RunState) (variant : Variant) (nodes : Nodes) (seen : Option WorldSeen) (old new : WorldSeen) (s t : Sums) (lines : ℕ) (e : Event) (r : Result Done StepError) (d : Done) (packet : List ℕ)
    → run_state_seen variant nodes seen s lines ≡ m → m.world ≡ None → old ≡ opening variant nodes → 1 ≤ length m.mesh → IsSound (run_state_seen variant nodes seen s lines) seen → IsEvent (length m.mesh) e
    → IsStep e old r new packet → r ≡ Ok d → IsSoundWorld new → ((steps : ℕ) → AreCounts s steps → AreCounts t (steps + 1)) → t ≡ sums_after s e (step old.world e)
    → Answered m variant nodes new t lines e d packet
answered_first m variant nodes seen old new s t lines e r d packet is none opened some before event took ok sound counts sum =
    let unmade : option_map (λ w. w.world) seen ≡ None = ap (λ (k : RunState). k.world) is ∙ none in
    let size : 1 ≤ length nodes = subst (λ (k : RunState). 1 ≤ length k.mesh) (sym is) some in
    let within : IsEvent (length nodes) e = subst (λ (k : RunState). IsEvent (length k.mesh) e) (sym is) event in
    let a = answered variant nodes old new s t lines e r d packet (sound_started variant nodes seen s lines old size unmade opened before) within took ok sound counts sum in
    let view : run_state_seen variant nodes None s lines ≡ m = sym (ap (λ o. run_state_seen variant nodes o s lines) (unseen seen unmade)) ∙ is in
    record { sound = a.sound; safe = a.safe; answer = subst (λ k. IsAnswer k e d (run_state_seen variant nodes (Some new) t lines) packet) view (first_answer variant nodes s t lines old new e d packet opened a.answer) }
