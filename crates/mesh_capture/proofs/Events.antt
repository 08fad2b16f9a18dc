-- An event of a run, as it is written, is read from the world before it to the world after it, and ends the copy that it delivers or loses.
use Rattle.std.proofs.Common.{◌≡◌, ◌≢◌, ℕ, zero, suc, ◌+◌, ◌<◌, ◌≤◌, true, false, List, [], ◌∷◌, ◌++◌, codes, Option, Some, None, length, refl, sym, subst, arith}
use Rattle.std.specs.Prelude.{slice_get, ◌==◌}
use Rattle.std.proofs.lemmas.Option.{none-some, slice_get_within}
use Rattle.aodv_model.proofs.Entries.{if_case}
use Rattle.aodv_model.proofs.MeshNames.{turn_names_the_mesh, send_names_the_mesh, ask_names_the_mesh}
use Rattle.aodv_model.proofs.SoundTurns.{turn_settles, send_settles, ask_settles}
use Rattle.aodv_model.specs.Cores.{Core, Item, New, Heard, Message, Pkt, Rreq, Rrep, Rerr}
use Rattle.aodv_model.specs.Fullness.{turn_full, send_full, ask_full}
use Rattle.aodv_model.specs.Handlers.{Reaction, Effect, Own, Stored, turn, send, ask, took, may_send, may_ask}
use Rattle.aodv_model.specs.Soundness.{IsItemInMesh, IsCastInMesh, IsAimed}
use Rattle.mesh_base.specs.declared.events.Full.{Full as Counter}
use Rattle.mesh_base.specs.Meshes.{Nodes, IsMesh, addr_at}
use Rattle.mesh_grammar.specs.Commands.{greatest_id}
use Rattle.mesh_grammar.specs.Written.{line}
use Rattle.mesh_meaning.specs.Events.{node_of}
use Rattle.mesh_model.specs.Accounts.{in_item, in_message, in_taken, in_dropped, waiting, queued_data, in_flight}
use Rattle.mesh_model.specs.InMesh.{IsInMesh, IsNodeInMesh, IsEvent}
use Rattle.mesh_model.specs.Worlds as worlds
use Rattle.mesh_model.specs.Worlds.{World, Node, Copy, Event, Give, Turn, Send, Ask, Link, Cut, Deliver, Lose, Double, Outcome, Idle, Next, WorldEffect, Changed, Taken, Sent, CopyHeard, CopyLost, CopyDoubled, after, step, at_node, at_copy, unless_full, turn_of, send_of, ask_of, done_by, push, with_item, without_copy, with_double, is_parcel, with_link, without_link, are_linked, range, copies, copies_of, receivers, members_below, find_copy}
use Rattle.mesh_model.proofs.MeshSteps.{own}
use Rattle.mesh_text.specs.Effects.{datum_in, world_effect_text, outcome_text, outcome_lines}
use Rattle.mesh_text.specs.Lines.{name_of, event_words}
use Rattle.mesh_text.specs.Ranges.{IsEventLine}
use Rattle.mesh_lines.specs.declared.below.Below.{Below}
use Rattle.mesh_lines.specs.declared.below.Below.TheVariants as below
use Rattle.mesh_capture.specs.declared.frame.Frame.{Frame}
use Rattle.mesh_capture.specs.Runs.{copy_frame, frame_if, frames_of_event}
use Rattle.mesh_capture.proofs.Casts.{IsFair, turn_fair, send_fair, ask_fair}
use Rattle.mesh_capture.proofs.Data.{queue_has_none, first_is_none, copy_has_none}
use Rattle.mesh_capture.proofs.Effects.{stand, MayBeIdle, idle_reads, lost_datum, heard_reads, lost_reads, double_reads}
use Rattle.mesh_capture.proofs.EventLines.{below_of, event_read}
use Rattle.mesh_capture.proofs.Flights.{numbers_end}
use Rattle.mesh_capture.proofs.WorldEffects.{IsReadable, packet_in, turn_reads, sent_reads}
use Rattle.mesh_capture.proofs.PacketTexts.{strange, not_strange}
use Rattle.mesh_capture.proofs.Told.{Reads, reads_none, reads_append}

-- a world of this mesh, in which each datum is one that a schedule may give
pub record IsPlain (mesh : Nodes) (w : World) : Type 0 where
  pub mesh_is : IsMesh mesh
  pub size : length w.nodes ≡ length mesh
  pub in_mesh : IsInMesh w
  pub texts : waiting strange w + queued_data strange w + in_flight strange w ≡ 0

-- the numbers of copies have 64 bits
abbrev pub HasNumbers : World → Type 0
HasNumbers w = w.next_copy ≤ greatest_id + 1

-- ---- what stands below an event

-- below the n-th event, which came to this, the text of it is read and ends these copies
unfoldable pub IsReadBelow : Nodes → World → ℕ → Event → List Frame → Outcome → Type 0
IsReadBelow mesh w n e fs Idle = (b : Below) × Reads mesh (stand w.flying n (below_of mesh e)) (outcome_text mesh (node_of e) Idle) fs (stand w.flying n b)
IsReadBelow mesh w n e fs (worlds.Full x f) = Unit {0}
IsReadBelow mesh w n e fs (Next v h) =
    HasNumbers v → (b : Below) × Reads mesh (stand w.flying n (below_of mesh e)) (outcome_text mesh (node_of e) (Next v h)) fs (stand v.flying n b)

-- no node is past the mesh
node_there : (w : World) (x : ℕ) → x < length w.nodes → slice_get w.nodes x ≢ None
node_there w x lt none = absent w.nodes x lt none
  where
    absent : {A : Type 0} (xs : List A) (i : ℕ) → i < length xs → slice_get xs i ≢ None
    absent [] i lt none = omega arith
    absent (y ∷ ys) zero lt none = none-some y (sym none)
    absent (y ∷ ys) (suc i) lt none = absent ys i (omega arith) none

push_flies : (w : World) (x : ℕ) (item : Item) → (push w x item).flying ≡ w.flying
unfolding push
push_flies w x item = by_node (slice_get w.nodes x)
  where
    by_node : (o : Option Node) → (with_item w x o item).flying ≡ w.flying
    by_node None = refl
    by_node (Some n) = refl

took_none : (core : Core) (x : ℕ) (item : Item) → in_item strange core.ip item ≡ 0 → (in_taken strange x (took core item) ≡ 0) × (in_dropped strange (took core item) ≡ 0)
took_none core x (New b d) none = (
  if_case (λ t. in_taken strange x t ≡ 0) (d == core.ip) (Own b) (Stored d) (λ _. none) (λ _. refl),
  if_case (λ t. in_dropped strange t ≡ 0) (d == core.ip) (Own b) (Stored d) (λ _. refl) (λ _. refl),
)
took_none core x (Heard from m) none = (none, none)

module _ (mesh : Nodes) (w : World) (n : ℕ) (plain : IsPlain mesh w) where
  idle_read : (e : Event) → MayBeIdle (below_of mesh e) → IsReadBelow mesh w n e [] Idle
  unfolding IsReadBelow
  idle_read e may = (below_of mesh e, idle_reads mesh (stand w.flying n (below_of mesh e)) may)

  -- the flight stays
  stays : (e : Event) → Reads mesh (stand w.flying n (below_of mesh e)) [] [] (stand w.flying n (below_of mesh e))
  stays e = reads_none mesh (stand w.flying n (below_of mesh e))

  some_number : 1 ≤ w.next_copy
  some_number = numbers_end 1 w.next_copy w.flying plain.in_mesh.numbered

  -- ---- data and links

  give_read : (x d : ℕ) (body : List ℕ) → x < length w.nodes → IsReadBelow mesh w n (Give x d body) [] (step w (Give x d body))
  unfolding IsReadBelow step world_effect_text
  give_read x d body lt = by_node (slice_get w.nodes x) refl
    where
      by_node : (o : Option Node) → slice_get w.nodes x ≡ o → IsReadBelow mesh w n (Give x d body) [] (at_node o (λ core queue. Next (push w x (New body d)) Changed))
      by_node None is = absurd (node_there w x lt is)
      by_node (Some node) is =
          λ fits. (below.Nothing, subst (λ cs. Reads mesh (stand w.flying n below.Nothing) [] [] (stand cs n below.Nothing)) (sym (push_flies w x (New body d))) (stays (Give x d body)))

  link_read : (a b : ℕ) → IsReadBelow mesh w n (Link a b) [] (step w (Link a b))
  unfolding IsReadBelow step world_effect_text
  link_read a b =
      if_case (IsReadBelow mesh w n (Link a b) []) (are_linked w.links a b) Idle (Next (with_link w a b) Changed) (λ _. idle_read (Link a b) tt) (λ _ fits. (below.Link, stays (Link a b)))

  cut_read : (a b : ℕ) → IsReadBelow mesh w n (Cut a b) [] (step w (Cut a b))
  unfolding IsReadBelow step world_effect_text
  cut_read a b =
      if_case (IsReadBelow mesh w n (Cut a b) []) (are_linked w.links a b) (Next (without_link w a b) Changed) Idle (λ _ fits. (below.Link, stays (Cut a b))) (λ _. idle_read (Cut a b) tt)

  -- ---- what nodes do

  -- a cast that names the mesh is read
  readable : (e : Effect) → IsCastInMesh (length w.nodes) e.cast → IsAimed (length w.nodes) e.cast → IsFair strange e.cast → IsReadable mesh e
  readable e in_mesh aimed fair = record {
    in_mesh = subst (λ size. IsCastInMesh size e.cast) plain.size in_mesh;
    aimed = subst (λ size. IsAimed size e.cast) plain.size aimed;
    fair = fair;
  }

  node_is : (x : ℕ) (node : Node) → slice_get w.nodes x ≡ Some node → IsNodeInMesh (length w.nodes) x node
  node_is x node is = plain.in_mesh.nodes x node is

  ip_lt : (x : ℕ) (node : Node) → slice_get w.nodes x ≡ Some node → (node.core).ip < length w.nodes
  ip_lt x node is = subst (λ y. y < length w.nodes) (sym (node_is x node is).named) (slice_get_within w.nodes x node is)

  turn_read : (x : ℕ) (core : Core) (queue : List Item) → slice_get w.nodes x ≡ Some (record { core = core; queue = queue }) → IsReadBelow mesh w n (Turn x) [] (turn_of w x core queue)
  unfolding IsReadBelow done_by copies world_effect_text
  turn_read x core [] is = idle_read (Turn x) tt
  turn_read x core (item ∷ items) is = unless (turn_full core (range w x) item)
    where
      node : Node
      node = record { core = core; queue = item ∷ items }

      did : Reaction
      did = turn core (range w x) item

      item_none : in_item strange core.ip item ≡ 0
      item_none = let all = queue_has_none strange w plain.texts x (record { core = core; queue = item ∷ items }) is in omega (arith, all)

      can : IsReadable mesh (turn core (range w x) item).effect
      can =
          let p = node_is x (record { core = core; queue = item ∷ items }) is in
          let own_item = subst (λ y. IsItemInMesh (length w.nodes) y item) (sym p.named) p.queue.0 in
          readable (turn core (range w x) item).effect
          (turn_settles (length w.nodes) x core (range w x) item (own w x (record { core = core; queue = item ∷ items }) plain.in_mesh is) p.queue.0).cast
          (turn_names_the_mesh (length w.nodes) core (range w x) item (ip_lt x (record { core = core; queue = item ∷ items }) is) p.core own_item).cast
          (turn_fair strange core (range w x) core.ip item item_none)

      unless : (o : Option Counter) → IsReadBelow mesh w n (Turn x) [] (unless_full x o (Next (done_by w x (turn core (range w x) item) items) (Taken (took core item) (turn core (range w x) item).effect (copies w x ((turn core (range w x) item).effect).cast))))
      unless (Some f) = tt
      unless None =
          let e : Effect = (turn core (range w x) item).effect in
          let tos : List ℕ = members_below (length w.nodes) (receivers (range w x) e.cast) in
          let none = took_none core x item item_none in
          λ fits. (
            below.Casts (addr_at mesh x) (packet_in mesh e.cast),
            turn_reads mesh plain.mesh_is w.flying n 1 x (took core item) e tos w.next_copy can (λ _. none.0) (λ _. none.1) some_number plain.in_mesh.numbered fits,
          )

  send_read : (x d : ℕ) (core : Core) (queue : List Item) → d < length w.nodes → slice_get w.nodes x ≡ Some (record { core = core; queue = queue }) → IsReadBelow mesh w n (Send x d) [] (send_of w x d core queue)
  unfolding IsReadBelow done_by copies world_effect_text
  send_read x d core queue lt is =
      if_case (IsReadBelow mesh w n (Send x d) []) (may_send core d) (unless_full x (send_full core (range w x) d) (Next (done_by w x (send core (range w x) d) queue) (Sent (send core (range w x) d).effect (copies w x ((send core (range w x) d).effect).cast)))) Idle
      (λ may. unless may (send_full core (range w x) d)) (λ _. idle_read (Send x d) tt)
    where
      can : may_send core d ≡ true → IsReadable mesh (send core (range w x) d).effect
      can may =
          let node : Node = record { core = core; queue = queue } in
          readable (send core (range w x) d).effect
          (send_settles (length w.nodes) x core (range w x) d (own w x node plain.in_mesh is) (slice_get_within w.nodes x node is) may).cast
          (send_names_the_mesh (length w.nodes) core (range w x) d (ip_lt x node is) (node_is x node is).core may).cast
          (send_fair strange core (range w x) d (first_is_none strange w plain.texts x d node is lt may))

      unless : may_send core d ≡ true → (o : Option Counter) → IsReadBelow mesh w n (Send x d) [] (unless_full x o (Next (done_by w x (send core (range w x) d) queue) (Sent (send core (range w x) d).effect (copies w x ((send core (range w x) d).effect).cast))))
      unless may (Some f) = tt
      unless may None =
          let e : Effect = (send core (range w x) d).effect in
          let tos : List ℕ = members_below (length w.nodes) (receivers (range w x) e.cast) in
          λ fits. (below.Casts (addr_at mesh x) (packet_in mesh e.cast), sent_reads mesh plain.mesh_is w.flying n 1 x e tos w.next_copy (can may) some_number plain.in_mesh.numbered fits)

  ask_read : (x d : ℕ) (core : Core) (queue : List Item) → d < length w.nodes → slice_get w.nodes x ≡ Some (record { core = core; queue = queue }) → IsReadBelow mesh w n (Ask x d) [] (ask_of w x d core queue)
  unfolding IsReadBelow done_by copies world_effect_text
  ask_read x d core queue lt is =
      if_case (IsReadBelow mesh w n (Ask x d) []) (may_ask core d) (unless_full x (ask_full core) (Next (done_by w x (ask core d) queue) (Sent (ask core d).effect (copies w x ((ask core d).effect).cast)))) Idle
      (λ _. unless (ask_full core)) (λ _. idle_read (Ask x d) tt)
    where
      can : IsReadable mesh (ask core d).effect
      can =
          let node : Node = record { core = core; queue = queue } in
          readable (ask core d).effect
          (ask_settles (length w.nodes) x core d (own w x node plain.in_mesh is) (slice_get_within w.nodes x node is) lt).cast
          (ask_names_the_mesh (length w.nodes) core d).cast (ask_fair strange core d)

      unless : (o : Option Counter) → IsReadBelow mesh w n (Ask x d) [] (unless_full x o (Next (done_by w x (ask core d) queue) (Sent (ask core d).effect (copies w x ((ask core d).effect).cast))))
      unless (Some f) = tt
      unless None =
          let e : Effect = (ask core d).effect in
          let tos : List ℕ = members_below (length w.nodes) (receivers (range w x) e.cast) in
          λ fits. (below.Casts (addr_at mesh x) (packet_in mesh e.cast), sent_reads mesh plain.mesh_is w.flying n 1 x e tos w.next_copy can some_number plain.in_mesh.numbered fits)

  -- what is done where there is such a node
  at_node_read : (e : Event) (x : ℕ) (f : Core → List Item → Outcome) → MayBeIdle (below_of mesh e) → ((core : Core) (queue : List Item) → slice_get w.nodes x ≡ Some (record { core = core; queue = queue }) → IsReadBelow mesh w n e [] (f core queue))
      → IsReadBelow mesh w n e [] (at_node (slice_get w.nodes x) f)
  at_node_read e x f may done = by_node (slice_get w.nodes x) refl
    where
      by_node : (o : Option Node) → slice_get w.nodes x ≡ o → IsReadBelow mesh w n e [] (at_node o f)
      by_node None is = idle_read e may
      by_node (Some node) is = done node.core node.queue is

  -- ---- copies

  deliver_read : (id : ℕ) (o : Option Copy) → find_copy w.flying id ≡ o
      → IsReadBelow mesh w n (Deliver id) (frame_if mesh n false o) (at_copy o (λ c. Next (push (without_copy w id) c.to (Heard c.from c.message)) (CopyHeard c.from c.to)))
  unfolding IsReadBelow world_effect_text
  deliver_read id None is = idle_read (Deliver id) tt
  deliver_read id (Some c) is =
      λ fits. (
        below.Delivers id,
        subst (λ cs. Reads mesh (stand w.flying n (below.Delivers id)) (line (codes "  heard " ++ name_of mesh c.from ++ 32 ∷ name_of mesh c.to)) (copy_frame mesh n false c ∷ []) (stand cs n (below.Delivers id)))
            (sym (push_flies (without_copy w id) c.to (Heard c.from c.message))) (heard_reads mesh plain.mesh_is w.flying n 1 w.next_copy id c is plain.in_mesh.numbered),
      )

  datum_lost : (cs : List Copy) (id : ℕ) (m : Message) → in_message strange m ≡ 0 → Reads mesh (stand cs n (below.Loses id)) (datum_in (codes "  dropped ") mesh m) [] (stand cs n (below.Loses id))
  datum_lost cs id (Pkt body d o) none = lost_datum mesh plain.mesh_is cs n id o d body (not_strange o d body none)
  datum_lost cs id (Rreq m) none = reads_none mesh (stand cs n (below.Loses id))
  datum_lost cs id (Rrep m) none = reads_none mesh (stand cs n (below.Loses id))
  datum_lost cs id (Rerr dests) none = reads_none mesh (stand cs n (below.Loses id))

  lose_read : (id : ℕ) (o : Option Copy) → find_copy w.flying id ≡ o → IsReadBelow mesh w n (Lose id) (frame_if mesh n true o) (at_copy o (λ c. Next (without_copy w id) (CopyLost c)))
  unfolding IsReadBelow world_effect_text
  lose_read id None is = idle_read (Lose id) tt
  lose_read id (Some c) is =
      λ fits. (
        below.Loses id,
        reads_append mesh (stand w.flying n (below.Loses id)) (stand (without_copy w id).flying n (below.Loses id)) (stand (without_copy w id).flying n (below.Loses id)) _ (datum_in (codes "  dropped ") mesh c.message) (copy_frame mesh n true c ∷ []) []
            (lost_reads mesh plain.mesh_is w.flying n 1 w.next_copy id c is plain.in_mesh.numbered)
            (datum_lost (without_copy w id).flying id c.message (copy_has_none strange w plain.texts id c is)),
      )

  double_read : (id : ℕ) (o : Option Copy) → find_copy w.flying id ≡ o
      → IsReadBelow mesh w n (Double id) [] (at_copy o (λ c. Next (with_double w c) (CopyDoubled w.next_copy c.to (is_parcel c.message))))
  unfolding IsReadBelow world_effect_text
  double_read id None is = idle_read (Double id) tt
  double_read id (Some c) is =
      λ fits. (below.Doubles id, double_reads mesh plain.mesh_is w.flying n 1 id w.next_copy c is some_number (omega (arith, fits)) plain.in_mesh.numbered)

  -- ---- any event

  below_read : (e : Event) → IsEvent (length w.nodes) e → IsReadBelow mesh w n e (frames_of_event mesh n w e) (step w e)
  unfolding step
  below_read (Give x d body) within = give_read x d body within.0
  below_read (Turn x) within = at_node_read (Turn x) x (turn_of w x) tt (λ core queue is. turn_read x core queue is)
  below_read (Send x d) within = at_node_read (Send x d) x (send_of w x d) tt (λ core queue is. send_read x d core queue within.1 is)
  below_read (Ask x d) within = at_node_read (Ask x d) x (ask_of w x d) tt (λ core queue is. ask_read x d core queue within.1 is)
  below_read (Link a b) within = link_read a b
  below_read (Cut a b) within = cut_read a b
  below_read (Deliver id) within = deliver_read id (find_copy w.flying id) refl
  below_read (Lose id) within = lose_read id (find_copy w.flying id) refl
  below_read (Double id) within = double_read id (find_copy w.flying id) refl

-- an event that isn't refused
abbrev pub IsDone : Outcome → Type 0
IsDone Idle = Unit {0}
IsDone (worlds.Full x f) = ⊥
IsDone (Next v h) = Unit {0}

lines_by_outcome : (mesh : Nodes) (w : World) (n : ℕ) (b : Below) (e : Event) (o : Outcome) → IsPlain mesh w → IsEventLine mesh e → IsDone o → HasNumbers (after w o) → IsReadBelow mesh w (n + 1) e (frames_of_event mesh (n + 1) w e) o
    → (c : Below) × Reads mesh (stand w.flying n b) (line (event_words mesh e) ++ outcome_text mesh (node_of e) o) (frames_of_event mesh (n + 1) w e) (stand (after w o).flying (n + 1) c)
unfolding IsReadBelow
lines_by_outcome mesh w n b e Idle plain range done fits is = (
  is.0,
  reads_append mesh (stand w.flying n b) (stand w.flying (n + 1) (below_of mesh e)) (stand w.flying (n + 1) is.0) (line (event_words mesh e)) (outcome_text mesh (node_of e) Idle) [] (frames_of_event mesh (n + 1) w e)
      (event_read mesh plain.mesh_is (stand w.flying n b) e range) is.1,
)
lines_by_outcome mesh w n b e (worlds.Full x f) plain range done fits is = absurd done
lines_by_outcome mesh w n b e (Next v h) plain range done fits is =
    let read = is fits in (
      read.0,
      reads_append mesh (stand w.flying n b) (stand w.flying (n + 1) (below_of mesh e)) (stand v.flying (n + 1) read.0) (line (event_words mesh e)) (outcome_text mesh (node_of e) (Next v h)) [] (frames_of_event mesh (n + 1) w e)
          (event_read mesh plain.mesh_is (stand w.flying n b) e range) read.1,
    )

-- the line of the event after n others, and what stands below it
pub event_lines_read : (mesh : Nodes) (w : World) (n : ℕ) (b : Below) (e : Event) → IsPlain mesh w → IsEventLine mesh e → IsDone (step w e) → HasNumbers (after w (step w e))
    → (c : Below) × Reads mesh (stand w.flying n b) (outcome_lines mesh e (step w e)) (frames_of_event mesh (n + 1) w e) (stand (after w (step w e)).flying (n + 1) c)
unfolding outcome_lines
event_lines_read mesh w n b e plain range done fits =
    lines_by_outcome mesh w n b e (step w e) plain range done fits (below_read mesh w (n + 1) plain e (subst (λ size. IsEvent size e) (sym plain.size) range.1))
