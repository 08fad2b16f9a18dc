-- Each request that waits or flies in a run has an id within its field, and each route error names a destination.
use Rattle.std.proofs.Common.{◌≡◌, ℕ, zero, suc, ◌+◌, ◌==◌, List, [], ◌∷◌, ◌++◌, Some, subst}
use Rattle.std.specs.Prelude.{slice_get}
use Rattle.std.specs.List.{AllByRecursion}
use Rattle.std.proofs.lemmas.Option.{none-some, same_Some}
use Rattle.mesh_base.specs.declared.events.Variant.{Variant}
use Rattle.aodv_model.specs.Cores.{Heard, New}
use Rattle.mesh_model.proofs.Everywhere.{Everywhere, step_everywhere}
use Rattle.mesh_model.proofs.Lists.{each_append}
use Rattle.mesh_model.proofs.NumberSteps.{IsWithin, step_within}
use Rattle.mesh_model.proofs.Steps.{step_kept}
use Rattle.mesh_model.proofs.TrailSteps.{step_trails}
use Rattle.mesh_model.specs.Invariants.{IsLoopSafe}
use Rattle.mesh_model.specs.Trails.{HasWalks}
use Rattle.mesh_model.specs.Worlds.{Copy, Event, Node, World, after, openings, range, run, start, step}
use Rattle.mesh_load.proofs.Sendable.{IsSendable, IsSendableItem, IsSendableCast, turn_casts, send_casts, ask_casts}

abbrev pub IsSendableCopy : Copy → Type 0
IsSendableCopy c = IsSendable c.message

abbrev pub IsSendableQueue : ℕ → Node → Type 0
IsSendableQueue x n = AllByRecursion IsSendableItem n.queue

abbrev pub AreSendable : World → Type 0
AreSendable w = Everywhere IsSendableQueue IsSendable w

step_have : (w : World) (e : Event) → IsWithin w → AreSendable w → AreSendable (after w (step w e))
step_have w e within all = step_everywhere {N = IsSendableQueue} {N' = IsSendableQueue} {C = IsSendableCast} w e all (record {
  carries = record { one = λ y m is. is; many = λ s m is. is; all = λ m is. is };
  same = λ x n has. has;
  given = λ x d b n has. each_append IsSendableItem n.queue (New b d ∷ []) has (tt, tt);
  heard = λ x from m n one has. each_append IsSendableItem n.queue (Heard from m ∷ []) has (one, tt);
  taken = λ x core item items is free. let has : IsSendableQueue x (record { core = core; queue = item ∷ items }) = all.nodes x _ is in (has.1, turn_casts core (range w x) item has.0);
  sent = λ x d n is may free. (all.nodes x n is, send_casts n.core (range w x) d);
  asked = λ x d n is may free. (all.nodes x n is, ask_casts n.core x d (within.nodes x n is).core free);
})

-- ---- runs

pub run_have : (v : Variant) (w : World) (es : List Event) → IsLoopSafe w → HasWalks v w → IsWithin w → AreSendable w → AreSendable (run w es)
unfolding run
run_have v w [] safe walks within all = all
run_have v w (e ∷ es) safe walks within all = run_have v (after w (step w e)) es (step_kept w e safe) (step_trails v w e safe walks) (step_within v w e safe walks within) (step_have w e within all)

opening_has : (v : Variant) (ip : ℕ) (firsts : List ℕ) (x : ℕ) (n : Node) → slice_get (openings v ip firsts) x ≡ Some n → AllByRecursion IsSendableItem n.queue
opening_has v ip [] x n is = absurd (none-some n is)
opening_has v ip (first ∷ firsts) zero n is = subst (λ (m : Node). AllByRecursion IsSendableItem m.queue) (same_Some _ n is) tt
opening_has v ip (first ∷ firsts) (suc x) n is = opening_has v (ip + 1) firsts x n is

pub start_have : (v : Variant) (firsts : List ℕ) → AreSendable (start v firsts)
unfolding start
start_have v firsts = record { nodes = λ x n is. opening_has v 0 firsts x n is; flying = tt }
