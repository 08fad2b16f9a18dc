-- Between the parts of a world and the values that they show.
use Rattle.std.proofs.Common.{◌≡◌, ℕ, ◌<◌, ◌≤◌, ◌+◌, List, length, Some, Result, ap, sym, subst, ◌∙◌, arith}
use Rattle.std.specs.Prelude.{slice_get}
use Rattle.std.specs.Global.{Vec}
use Rattle.std.specs.Vec.{vec_len, with_item}
use Rattle.mesh_base.specs.declared.events.Done.{Done}
use Rattle.aodv_node.specs.Seen.{NodeSeen}
use Rattle.mesh_model.specs.Worlds.{Event}
use Rattle.mesh_radio.specs.Radios.{RadioState}
use Rattle.mesh_world.specs.Kept.{Ready}
use Rattle.mesh_world.specs.Noted.{ready_with}
use Rattle.mesh_world.specs.Parts.{IsDoneTo}
use Rattle.mesh_world.specs.declared.parts.Parts.{Parts}
use Rattle.mesh_world.specs.declared.steps.StepError.{StepError}
use Rattle.mesh_world.proofs.Frames.{Ends}

pub of_ends : (e : Event) (old : Parts) (nodes : Vec NodeSeen) (radio : RadioState) (ready : Ready) (steps : ℕ) (answer : Result Done StepError) (out : List ℕ)
    → Ends e old.mesh (old.nodes).items old.radio old.steps answer nodes.items radio ready steps out
    → IsDoneTo e old answer (record { mesh = old.mesh; nodes = nodes; radio = radio; ready = ready; steps = steps }) out
of_ends e old nodes radio ready steps answer out d = record { step = d.step; kept = d.kept }

-- after the end of an event at a node
pub at_end : (e : Event) (old mid new : Parts) (answer : Result Done StepError) (out : List ℕ) → new ≡ record mid { steps = mid.steps + 1; ready = new.ready }
    → IsDoneTo e old answer (record mid { steps = mid.steps + 1; ready = new.ready }) out → IsDoneTo e old answer new out
at_end e old mid new answer out is d = subst (λ (p : Parts). IsDoneTo e old answer p out) (sym is) d

-- after a cast, and the end of an event
pub after_cast : (e : Event) (old pre mid new : Parts) (answer : Result Done StepError) (out : List ℕ) → mid ≡ record pre { radio = mid.radio } → new ≡ record mid { steps = mid.steps + 1; ready = new.ready }
    → IsDoneTo e old answer (record pre { radio = mid.radio; ready = new.ready; steps = pre.steps + 1 }) out → IsDoneTo e old answer new out
after_cast e old pre mid new answer out cast is d =
    at_end e old mid new answer out is
    (subst (λ (p : Parts). IsDoneTo e old answer p out) (λ i. record (sym cast i) { steps = (sym cast i).steps + 1; ready = new.ready }) d)

-- the node is noted as it is before the cast
pub noted_before : (pre mid : Parts) (ready : Ready) (x count : ℕ) (n : NodeSeen) → mid ≡ record pre { radio = mid.radio } → slice_get (pre.nodes).items x ≡ Some n → length (pre.nodes).items ≡ count
    → ((m : NodeSeen) → slice_get (mid.nodes).items x ≡ Some m → ready ≡ ready_with mid.ready x m (length (mid.nodes).items)) → ready ≡ ready_with pre.ready x n count
noted_before pre mid ready x count n cast at size is =
    is n (ap (λ (p : Parts). slice_get (p.nodes).items x) cast ∙ at) ∙ (λ i. ready_with (cast i).ready x n (length ((cast i).nodes).items)) ∙ ap (ready_with pre.ready x n) size

pub sound_before : (P : NodeSeen → Type 0) (pre mid : Parts) (x : ℕ) (n : NodeSeen) → mid ≡ record pre { radio = mid.radio } → slice_get (pre.nodes).items x ≡ Some n
    → ((m : NodeSeen) → slice_get (mid.nodes).items x ≡ Some m → P m) → P n
sound_before P pre mid x n cast at is = is n (ap (λ (p : Parts). slice_get (p.nodes).items x) cast ∙ at)

-- a node is there to be read
pub within : (v : Vec NodeSeen) (x size : ℕ) → length v.items ≡ size → x < size → x < vec_len v
within v x size count l = let e = v.ok.0 in omega arith

pub still_within : (pre mid : Parts) (x size : ℕ) → mid ≡ record pre { radio = mid.radio } → length (pre.nodes).items ≡ size → x < size → x < length (mid.nodes).items
still_within pre mid x size cast count l = subst (λ (p : Parts). x < length (p.nodes).items) (sym cast) (omega arith)

pub still_few : (pre mid : Parts) (size : ℕ) → mid ≡ record pre { radio = mid.radio } → length (pre.nodes).items ≡ size → size ≤ 200 → length (mid.nodes).items ≤ 200
still_few pre mid size cast count l = subst (λ (p : Parts). length (p.nodes).items ≤ 200) (sym cast) (omega arith)

-- the parts once node x is n, with this radio
abbrev pub changed : Parts → ℕ → NodeSeen → RadioState → Parts
changed old x n radio = record old { nodes = with_item old.nodes x n; radio = radio }

-- the node is noted as it is
pub noted_at : (nodes : List NodeSeen) (ready new : Ready) (x count : ℕ) (n : NodeSeen) → slice_get nodes x ≡ Some n → length nodes ≡ count
    → ((m : NodeSeen) → slice_get nodes x ≡ Some m → new ≡ ready_with ready x m (length nodes)) → new ≡ ready_with ready x n count
noted_at nodes ready new x count n at size is = is n at ∙ ap (ready_with ready x n) size
