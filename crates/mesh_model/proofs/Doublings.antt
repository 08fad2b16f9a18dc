-- What happened tells how many data an event doubles.
use Rattle.std.proofs.Common.{◌≡◌, ◌≤◌, ℕ, ◌+◌, Some, None, Option, refl, ap, ◌∙◌, arith}
use Rattle.mesh_base.specs.Members.{NodeIds}
use Rattle.mesh_model.proofs.Cases.{NamesNoCopy, by_cases, Refuses}
use Rattle.mesh_base.specs.declared.events.Full.{Full as Counter}
use Rattle.aodv_model.specs.Cores.{Message, Pkt, Rreq, Rrep, Rerr}
use Rattle.mesh_model.specs.Worlds.{World, Node, Copy, Event, Double, Next, CopyDoubled, range, find_copy, is_parcel, with_double, step}
use Rattle.mesh_model.specs.Accounts.{any, in_message, in_found, doubled_data, doubled_at}

parcel_told : (w : World) (id to : ℕ) (m : Message) → in_message any m ≡ doubled_at (Next w (CopyDoubled id to (is_parcel m)))
parcel_told w id to (Pkt b d o) = refl
parcel_told w id to (Rreq m) = refl
parcel_told w id to (Rrep m) = refl
parcel_told w id to (Rerr dests) = refl

idle_told : (w : World) (e : Event) → NamesNoCopy w e → doubled_data any w e ≡ 0
idle_told w (Double id) none = ap (in_found any) none
idle_told w others none = refl

full_told : (w : World) (e : Event) (near : NodeIds) (x : ℕ) (n : Node) (f : Counter) → Refuses near e x n f → doubled_data any w e ≡ 0
full_told w (Double id) near x n f full = absurd full
full_told w others near x n f full = refl

pub doubling_counted : (w : World) (e : Event) → doubled_data any w e ≡ doubled_at (step w e)
doubling_counted w e = by_cases w (λ e o. doubled_data any w e ≡ doubled_at o) (record {
  idle = λ e none. idle_told w e none;
  full = λ e x n f is full. full_told w e (range w x) x n f full;
  given = λ x d b n is. refl;
  taken = λ x core item items is free. refl;
  sent = λ x d n is may free. refl;
  asked = λ x d n is may free. refl;
  linked = λ a b apart. refl;
  cut = λ a b stands. refl;
  heard = λ id c is. refl;
  lost = λ id c is. refl;
  doubled = λ id c is. ap (in_found any) is ∙ parcel_told (with_double w c) w.next_copy c.to c.message;
}) e

-- a doubling doubles one datum at most, and gives none
pub one_at_most : (m : Message) → in_message any m ≤ 1
one_at_most (Pkt b d o) = omega arith
one_at_most (Rreq m) = omega arith
one_at_most (Rrep m) = omega arith
one_at_most (Rerr dests) = omega arith

found_few : (o : Option Copy) → in_found any o ≤ 1
found_few None = omega arith
found_few (Some c) = one_at_most c.message

pub doubling_few : (w : World) (id : ℕ) → 0 + doubled_data any w (Double id) ≤ 1
doubling_few w id = let few = found_few (find_copy w.flying id) in omega arith
