-- What is delivered and dropped is of the mesh: so tests that agree there count the same.
use Rattle.std.proofs.Common.{◌≡◌, ℕ, ◌+◌, ◌<◌, Bool, List, [], ◌∷◌, length, refl, sym, ap, ap₂, subst, ◌∙◌}
use Rattle.std.specs.Prelude.{if◌then◌else◌, ◌==◌}
use Rattle.std.specs.List.{AllByRecursion}
use Rattle.std.proofs.lemmas.Option.{slice_get_within}
use Rattle.aodv_model.specs.Cores.{Body, Message, Pkt, Rreq, Rrep, Rerr, Item, New, Heard, Core}
use Rattle.aodv_model.specs.Handlers.{Took, Own, Stored, FromNeighbour, took}
use Rattle.aodv_model.specs.Soundness.{IsMessageInMesh, IsItemInMesh}
use Rattle.aodv_model.proofs.Entries.{if_case}
use Rattle.mesh_model.proofs.Cases.{by_cases}
use Rattle.mesh_model.specs.Worlds as worlds
use Rattle.mesh_model.specs.Worlds.{World, Node, Copy, Event, Give, Turn, Send, Ask, Link, Cut, Deliver, Lose, Double, WorldEffect, Changed, Taken, Sent, CopyHeard, CopyLost, CopyDoubled, Outcome, Idle, Next, range, copies, done_by, are_linked, find_copy, turn_of, send_of, ask_of, unless_full, at_node, at_copy, step, after}
use Rattle.mesh_model.specs.Accounts.{Test, counts, in_message, in_taken, in_dropped, delivered_at, delivered_data, dropped_data, over_run}
use Rattle.mesh_model.specs.InMesh.{IsCopyInMesh, IsInMesh, IsEvent}
use Rattle.mesh_model.proofs.Steps.{found_honest}
use Rattle.mesh_model.proofs.MeshSteps.{step_placed}
use Rattle.mesh_model.proofs.Sizes.{same_size}

-- ---- what is taken or lost is of the mesh

IsTookOf : ℕ → ℕ → Took → Type 0
IsTookOf size x (Own b) = x < size
IsTookOf size x (Stored d) = Unit {0}
IsTookOf size x (FromNeighbour from m) = IsMessageInMesh size m

IsWorldEffectOf : ℕ → ℕ → WorldEffect → Type 0
IsWorldEffectOf size x Changed = Unit {0}
IsWorldEffectOf size x (Taken t e cs) = IsTookOf size x t
IsWorldEffectOf size x (Sent e cs) = Unit {0}
IsWorldEffectOf size x (CopyHeard from to) = Unit {0}
IsWorldEffectOf size x (CopyLost c) = IsMessageInMesh size c.message
IsWorldEffectOf size x (CopyDoubled id to parcel) = Unit {0}

IsOutcomeOf : ℕ → ℕ → Outcome → Type 0
IsOutcomeOf size x Idle = Unit {0}
IsOutcomeOf size x (worlds.Full y f) = Unit {0}
IsOutcomeOf size x (Next w h) = IsWorldEffectOf size x h

-- the node at which an event takes something
abbrev taker : Event → ℕ
taker (Turn x) = x
taker others = 0

took_of_mesh : (size x : ℕ) (core : Core) (item : Item) → x < size → IsItemInMesh size x item → IsTookOf size x (took core item)
unfolding IsTookOf
took_of_mesh size x core (New b d) within is = if_case (IsTookOf size x) (d == core.ip) (Own b) (Stored d) (λ _. within) (λ _. tt)
took_of_mesh size x core (Heard from m) within is = is.2

step_of_mesh : (w : World) (e : Event) → IsInMesh w → IsEvent (length w.nodes) e → IsOutcomeOf (length w.nodes) (taker e) (step w e)
unfolding IsOutcomeOf IsWorldEffectOf
step_of_mesh w e places ok = by_cases w (λ e o. IsOutcomeOf (length w.nodes) (taker e) o) (record {
  idle = λ e none. tt;
  full = λ e x n f is full. tt;
  given = λ x d b n is. tt;
  taken = λ x core item items is free.
      let n : Node = record { core = core; queue = item ∷ items } in
      took_of_mesh (length w.nodes) x core item (slice_get_within w.nodes x n is) (places.nodes x n is).queue.0;
  sent = λ x d n is may free. tt;
  asked = λ x d n is may free. tt;
  linked = λ a b apart. tt;
  cut = λ a b stands. tt;
  heard = λ id c is. tt;
  lost = λ id c is. (found_honest (IsCopyInMesh (length w.nodes)) w.flying id c places.flying is).3;
  doubled = λ id c is. tt;
}) e

-- ---- tests that agree there

-- the tests agree on the data of a mesh of this size
pub record Agree (size : ℕ) (t u : Test) : Type 0 where
  pub same : (o d : ℕ) (b : Body) → o < size → d < size → t o d b ≡ u o d b

count_agrees : (size : ℕ) (t u : Test) (o d : ℕ) (b : Body) → Agree size t u → o < size → d < size → counts t o d b ≡ counts u o d b
count_agrees size t u o d b agree lo ld = ap (λ (p : Bool). if p then 1 else 0) (agree.same o d b lo ld)

message_agrees : (size : ℕ) (t u : Test) (m : Message) → Agree size t u → IsMessageInMesh size m → in_message t m ≡ in_message u m
message_agrees size t u (Pkt b d o) agree is = count_agrees size t u o d b agree is.1 is.0
message_agrees size t u (Rreq m) agree is = refl
message_agrees size t u (Rrep m) agree is = refl
message_agrees size t u (Rerr dests) agree is = refl

taken_agrees : (size : ℕ) (t u : Test) (x : ℕ) (k : Took) → Agree size t u → IsTookOf size x k → in_taken t x k ≡ in_taken u x k
unfolding IsTookOf
taken_agrees size t u x (Own b) agree is = count_agrees size t u x x b agree is is
taken_agrees size t u x (Stored d) agree is = refl
taken_agrees size t u x (FromNeighbour from m) agree is = message_agrees size t u m agree is

dropped_agrees : (size : ℕ) (t u : Test) (x : ℕ) (k : Took) → Agree size t u → IsTookOf size x k → in_dropped t k ≡ in_dropped u k
unfolding IsTookOf
dropped_agrees size t u x (Own b) agree is = refl
dropped_agrees size t u x (Stored d) agree is = refl
dropped_agrees size t u x (FromNeighbour from m) agree is = message_agrees size t u m agree is

delivery_agrees : (size : ℕ) (t u : Test) (x : ℕ) (o : Outcome) → Agree size t u → IsOutcomeOf size x o → delivered_at t x o ≡ delivered_at u x o
unfolding IsOutcomeOf IsWorldEffectOf
delivery_agrees size t u x Idle agree is = refl
delivery_agrees size t u x (worlds.Full y f) agree is = refl
delivery_agrees size t u x (Next w Changed) agree is = refl
delivery_agrees size t u x (Next w (Taken k e cs)) agree is = ap (λ (n : ℕ). if e.deliver then n else 0) (taken_agrees size t u x k agree is)
delivery_agrees size t u x (Next w (Sent e cs)) agree is = refl
delivery_agrees size t u x (Next w (CopyHeard from to)) agree is = refl
delivery_agrees size t u x (Next w (CopyLost c)) agree is = refl
delivery_agrees size t u x (Next w (CopyDoubled id to parcel)) agree is = refl

drop_agrees : (size : ℕ) (t u : Test) (x : ℕ) (e : Event) (o : Outcome) → Agree size t u → IsOutcomeOf size x o → dropped_data t e o ≡ dropped_data u e o
unfolding IsOutcomeOf IsWorldEffectOf
drop_agrees size t u x e Idle agree is = refl
drop_agrees size t u x e (worlds.Full y f) agree is = refl
drop_agrees size t u x e (Next w Changed) agree is = refl
drop_agrees size t u x e (Next w (Taken k f cs)) agree is = ap (λ (n : ℕ). if f.lost then n else 0) (dropped_agrees size t u x k agree is)
drop_agrees size t u x e (Next w (Sent f cs)) agree is = refl
drop_agrees size t u x e (Next w (CopyHeard from to)) agree is = refl
drop_agrees size t u x e (Next w (CopyLost c)) agree is = message_agrees size t u c.message agree is
drop_agrees size t u x e (Next w (CopyDoubled id to parcel)) agree is = refl

event_agrees : (size : ℕ) (t u : Test) (e : Event) (o : Outcome) → Agree size t u → IsOutcomeOf size (taker e) o → delivered_data t e o ≡ delivered_data u e o
event_agrees size t u (Turn x) o agree is = delivery_agrees size t u x o agree is
event_agrees size t u others o agree is = refl

-- ---- runs

pub runs_agree : (size : ℕ) (t u : Test) (w : World) (es : List Event) → Agree size t u → length w.nodes ≡ size → IsInMesh w → AllByRecursion (IsEvent size) es
    → (over_run (delivered_data t) w es ≡ over_run (delivered_data u) w es) × (over_run (dropped_data t) w es ≡ over_run (dropped_data u) w es)
unfolding over_run
runs_agree size t u w [] agree count in_mesh all = (refl, refl)
runs_agree size t u w (e ∷ es) agree count in_mesh all =
    let ok : IsEvent (length w.nodes) e = subst (λ n. IsEvent n e) (sym count) all.0 in
    let of : IsOutcomeOf size (taker e) (step w e) = subst (λ n. IsOutcomeOf n (taker e) (step w e)) count (step_of_mesh w e in_mesh ok) in
    let rest = runs_agree size t u (after w (step w e)) es agree (same_size w e ∙ count) (step_placed w e ok in_mesh) all.1 in
    (ap₂ (λ m n. m + n) (event_agrees size t u e (step w e) agree of) rest.0, ap₂ (λ m n. m + n) (drop_agrees size t u (taker e) e (step w e) agree of) rest.1)
