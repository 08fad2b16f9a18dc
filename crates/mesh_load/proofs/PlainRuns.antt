-- After the lines of any input the state is plain: its messages are what their packets mean.
use Rattle.std.proofs.Common.{◌≡◌, ℕ, ◌≤◌, inl, inr, true, List, [], ◌∷◌, length, take, Option, Some, None, is_some, refl, sym, subst, ◌∙◌, arith}
use Rattle.std.specs.Prelude.{⊤}
use Rattle.std.specs.Option.{unwrap_or}
use Rattle.std.specs.List.{AllByRecursion}
use Rattle.std.proofs.lemmas.List.{length-map}
use Rattle.mesh_base.specs.declared.limits.TheConstants.{MOST_NODES}
use Rattle.mesh_base.specs.Meshes.{Nodes, IsMesh}
use Rattle.mesh_base.specs.declared.events.Variant.{Variant}
use Rattle.mesh_base.proofs.Lemmas.Lists.{each_take}
use Rattle.aodv_model.specs.Cores.{Message, Pkt, Rreq, Rrep, Rerr, Item, New, Heard}
use Rattle.aodv_model.specs.Soundness.{IsMessageInMesh, IsItemInMesh}
use Rattle.aodv_model.specs.Handlers.{key_of}
use Rattle.aodv_model.specs.Fullness.{greatest}
use Rattle.aodv_model.proofs.Numbers.{IsMessageWithin, IsItemWithin}
use Rattle.mesh_model.specs.Worlds.{World, Copy, Event, after, step, run, start, first_numbers}
use Rattle.mesh_model.specs.InMesh.{IsEvent, IsCopyInMesh}
use Rattle.mesh_model.specs.Invariants.{IsInvariant}
use Rattle.mesh_model.proofs.Lists.{each_map, each_of}
use Rattle.mesh_model.specs.Trails.{HasWalks, HasRequestWalk, HasReplyWalk, MessageHasWalk, ItemHasWalk, CopyHasWalk, around}
use Rattle.mesh_model.proofs.Honest.{run_trails, start_trails}
use Rattle.mesh_model.proofs.MeshSteps.{run_keeps}
use Rattle.mesh_model.proofs.NumberSteps.{IsCopyWithin, run_within, start_within, firsts_within}
use Rattle.mesh_model.proofs.Steps.{start_kept}
use Rattle.mesh_model.proofs.OnlyNumbers.{walk_within}
use Rattle.mesh_shell.specs.Fold as shell
use Rattle.mesh_shell.specs.Pieces.{Piece}
use Rattle.mesh_text.specs.Schedule.{RunState, opening}
use Rattle.mesh_text.specs.Text.{LineOutcome, On, Refused, Full, outcome_of_piece, RunText, goes_on, text_from, text_of_input}
use Rattle.mesh_text.specs.Runs.{events_of_piece, events_of_input}
use Rattle.mesh_text.proofs.RunStates.{IsKept, IsKeptCame, all_positive, piece_kept, opening_kept, input_kept}
use Rattle.mesh_text.proofs.RunLaws.{GoesBy, run_of_events, events_are_of_mesh, piece_goes}
use Rattle.mesh_text.proofs.StepLaws.{steps_are_events}
use Rattle.mesh_run.specs.RunStates.{AreOfVariant}
use Rattle.mesh_run.proofs.OfVariant.{step_of, start_of}
use Rattle.mesh_load.specs.RunStates.{IsPlain, IsPlainItem, IsPlainWorld, HasPlainWorld, RunIsPlain}
use Rattle.mesh_load.proofs.ClearPackets.{AreWithinFields, IsClear, clear}
use Rattle.mesh_load.proofs.Sendable.{IsSendable, IsSendableItem}
use Rattle.mesh_load.proofs.SendableRuns.{IsSendableCopy, AreSendable, run_have, start_have}

-- the packet of an item's message is sent of it, and means it
abbrev pub IsClearItem : Nodes → Item → Type 0
IsClearItem mesh (New b d) = ⊤
IsClearItem mesh (Heard from m) = IsClear mesh m

-- a world of a run: all nodes run the variant, it has the invariant, and so is each message that waits or flies
pub record IsRunWorld (v : Variant) (mesh : Nodes) (w : World) : Type 0 where
  pub variant_is : AreOfVariant v w
  pub invariant : IsInvariant w
  pub size : length w.nodes ≡ length mesh
  pub few : length w.nodes ≤ MOST_NODES
  pub waits : AllByRecursion (λ n. AllByRecursion (IsClearItem mesh) n.queue) w.nodes
  pub flies : AllByRecursion (λ c. IsClear mesh c.message) w.flying

-- ---- messages

fields : (v : Variant) (w : World) (from : ℕ) (m : Message) → length w.nodes ≤ 200 → MessageHasWalk (around v w) from m → IsMessageWithin greatest m → IsSendable m → AreWithinFields m
fields v w from (Pkt b d o) few walk within id = tt
fields v w from (Rreq m) few walk within id =
    let r : HasRequestWalk (around v w) from m.oip m.osn m.hops (key_of v m) = walk in
    (omega (arith, few, walk_within v w m.oip m.osn m.hops from r.others r.walk r.long), id, within.0, within.1)
fields v w from (Rrep m) few walk within id =
    let r : HasReplyWalk (around v w) from m.dip m.dsn m.hops = walk in
    (omega (arith, few, walk_within v w m.dip m.dsn m.hops from r.others r.walk r.long), within)
fields v w from (Rerr dests) few walk within some = (within, some)

module _ (v : Variant) (mesh : Nodes) (w : World) (is : IsMesh mesh) (size : length w.nodes ≡ length mesh) where
  few : length w.nodes ≤ 200
  few = omega (arith, size, is.few)

  message_clear : (from : ℕ) (m : Message) → IsMessageInMesh (length w.nodes) m → MessageHasWalk (around v w) from m → IsMessageWithin greatest m → IsSendable m → IsClear mesh m
  message_clear from m inside walk within sendable =
      clear mesh m is (subst (λ k. IsMessageInMesh k m) size inside) (fields v w from m few walk within sendable)

  queue_clear : (x : ℕ) (items : List Item) → AllByRecursion (IsItemInMesh (length w.nodes) x) items → AllByRecursion (ItemHasWalk (around v w) x) items → AllByRecursion (IsItemWithin greatest) items → AllByRecursion IsSendableItem items → AllByRecursion (IsClearItem mesh) items
  queue_clear x [] inside walks within sendable = tt
  queue_clear x (New b d ∷ items) inside walks within sendable = (tt, queue_clear x items inside.1 walks.1 within.1 sendable.1)
  queue_clear x (Heard from m ∷ items) inside walks within sendable =
      (message_clear from m inside.0.2 walks.0.1 within.0 sendable.0, queue_clear x items inside.1 walks.1 within.1 sendable.1)

  flight_clear : (copies : List Copy) → AllByRecursion (IsCopyInMesh (length w.nodes)) copies → AllByRecursion (CopyHasWalk (around v w)) copies → AllByRecursion IsCopyWithin copies → AllByRecursion IsSendableCopy copies → AllByRecursion (λ c. IsClear mesh c.message) copies
  flight_clear [] inside walks within sendable = tt
  flight_clear (c ∷ copies) inside walks within sendable =
      (message_clear c.from c.message inside.0.3 walks.0.1 within.0 sendable.0, flight_clear copies inside.1 walks.1 within.1 sendable.1)

-- ---- worlds

run_of : (v : Variant) (w : World) (es : List Event) → AreOfVariant v w → AreOfVariant v (run w es)
unfolding run
run_of v w [] all = all
run_of v w (e ∷ es) all = run_of v (after w (step w e)) es (step_of v w e all)

run_world : (v : Variant) (mesh : Nodes) (es : List Event) → IsMesh mesh → AllByRecursion (IsEvent (length mesh)) es → IsRunWorld v mesh (run (start v (first_numbers mesh)) es)
run_world v mesh es is events =
    let firsts : List ℕ = first_numbers mesh in
    let before : World = start v firsts in
    let w : World = run before es in
    let count : length firsts ≡ length mesh = length-map mesh (λ p. p.1) in
    let positive = all_positive mesh is in
    let kept = run_keeps v firsts es positive (subst (λ k. AllByRecursion (IsEvent k) es) (sym count) events) in
    let size : length w.nodes ≡ length mesh = kept.1 ∙ count in
    let in_mesh = (kept.0).in_mesh in
    let safe = start_kept v firsts positive in
    let numbers = start_within v firsts (firsts_within mesh is) in
    let walks : HasWalks v w = (run_trails v before es safe (start_trails v firsts)).1 in
    let within = run_within v before es safe (start_trails v firsts) numbers in
    let sendable : AreSendable w = run_have v before es safe (start_trails v firsts) numbers (start_have v firsts) in
    record {
      variant_is = run_of v before es (start_of v firsts);
      invariant = kept.0;
      size = size;
      few = omega (arith, size, is.few);
      waits = each_of (λ n. AllByRecursion (IsClearItem mesh) n.queue) w.nodes (λ x n at.
          queue_clear v mesh w is size x n.queue (in_mesh.nodes x n at).queue (walks.nodes x n at).queue (within.nodes x n at).queue (sendable.nodes x n at));
      flies = flight_clear v mesh w is size w.flying in_mesh.flying walks.flying within.flying sendable.flying;
    }

plain_item : (mesh : Nodes) (i : Item) → IsClearItem mesh i → IsPlainItem mesh i
plain_item mesh (New b d) is = tt
plain_item mesh (Heard from m) is = is.plain

-- such a world is plain
pub plain_world : (v : Variant) (mesh : Nodes) (w : World) → IsRunWorld v mesh w → IsPlainWorld v mesh w
plain_world v mesh w is = record {
  in_mesh = is.invariant.in_mesh;
  few = is.few;
  variant_is = is.variant_is;
  plain = record {
    waits = each_map (λ n. AllByRecursion (IsClearItem mesh) n.queue) (λ n. AllByRecursion (IsPlainItem mesh) n.queue)
        (λ n all. each_map (IsClearItem mesh) (IsPlainItem mesh) (plain_item mesh) n.queue all) w.nodes is.waits;
    flies = each_map (λ c. IsClear mesh c.message) (λ c. IsPlain mesh c.message) (λ c clear. clear.plain) w.flying is.flies;
  };
}

-- ---- states

-- a state of this variant, and where it has no world no event was counted
record IsOf (v : Variant) (m : RunState) : Type 0 where
  variant : m.variant ≡ v
  none : m.world ≡ None → m.sums.events ≡ 0

unmade : (o : Option World) → is_some o ≡ true → o ≡ None → ⊥
unmade None made is = cc
unmade (Some w) made is = cc

of_goes : (v : Variant) (m : RunState) (es : List Event) (c : LineOutcome) (others : RunState → RunText) → GoesBy m es c → IsKeptCame c → IsOf v m → ((n : RunState) → IsKept n → IsOf v n → IsOf v (others n).after) → IsOf v (goes_on m c others).after
unfolding GoesBy IsKeptCame
of_goes v m es (On text n) others (inl quiet) kept is rest = rest n kept (record { variant = quiet.variant ∙ is.variant; none = λ without. quiet.count ∙ is.none (sym quiet.world ∙ without) })
of_goes v m es (On text n) others (inr ran) kept is rest = rest n kept (record { variant = ran.variant ∙ is.variant; none = λ without. absurd (unmade n.world ran.made without) })
of_goes v m es (Refused why) others goes kept is rest = is
of_goes v m es (Full text n e field) others goes kept is rest = is

of_from : (v : Variant) (m : RunState) (pieces : List Piece) → IsKept m → IsOf v m → IsOf v (text_from m pieces).after
unfolding shell.text_from
of_from v m [] kept is = is
of_from v m (piece ∷ pieces) kept is =
    of_goes v m (events_of_piece m piece) (outcome_of_piece m piece) (λ n. text_from n pieces) (piece_goes m piece kept) (piece_kept m piece kept) is (λ n more is. of_from v n pieces more is)

input_of : (v : Variant) (input : List ℕ) → IsOf v (text_of_input v input).after
unfolding text_of_input shell.text_on
input_of v input = of_from v (opening v) _ (opening_kept v) (record { variant = refl; none = λ _. refl })

-- a world of a run where there is one; without one no step was taken
abbrev pub HasRunWorld : Variant → Nodes → ℕ → Option World → Type 0
HasRunWorld v mesh steps None = steps ≡ 0
HasRunWorld v mesh steps (Some w) = IsRunWorld v mesh w

state_has : (v u : Variant) (mesh : Nodes) (steps : ℕ) (o : Option World) (w : World) → u ≡ v → (o ≡ None → steps ≡ 0) → unwrap_or o (start u (first_numbers mesh)) ≡ w → IsRunWorld v mesh w → HasRunWorld u mesh steps o
state_has v u mesh steps None w same none is made = none refl
state_has v u mesh steps (Some x) w same none is made = subst (λ k. IsRunWorld k mesh x) (sym same) (subst (IsRunWorld v mesh) (sym is) made)

steps_of : (v : Variant) (input : List ℕ) → (text_of_input v input).after.steps ≡ (text_of_input v input).after.sums.events
unfolding text_of_input
steps_of v input = omega (arith, steps_are_events (opening v) input)

pub run_has : (v : Variant) (input : List ℕ) → let m = (text_of_input v input).after in HasRunWorld m.variant m.mesh m.steps m.world
run_has v input =
    let m : RunState = (text_of_input v input).after in
    let is = input_of v input in
    let es : List Event = take m.sums.events (events_of_input v input) in
    state_has v m.variant m.mesh m.steps m.world (run (start v (first_numbers m.mesh)) es) is.variant (λ without. steps_of v input ∙ is.none without) (run_of_events v input)
    (run_world v m.mesh es (input_kept v input).mesh (each_take (IsEvent (length m.mesh)) m.sums.events (events_of_input v input) (events_are_of_mesh v input)))

plain_of : (v : Variant) (mesh : Nodes) (steps : ℕ) (o : Option World) → HasRunWorld v mesh steps o → HasPlainWorld v mesh steps o
plain_of v mesh steps None is = is
plain_of v mesh steps (Some w) is = plain_world v mesh w is

pub run_is_plain : RunIsPlain
run_is_plain v input = let m : RunState = (text_of_input v input).after in plain_of m.variant m.mesh m.steps m.world (run_has v input)
