-- What handlers keep of a core.
use Rattle.std.proofs.Common.{◌≡◌, ◌≤◌, ℕ, length, sym, ap, subst, ◌∙◌, arith}
use Rattle.aodv_model.specs.Tables.{Table, Dests, unreachable_by}
use Rattle.aodv_model.specs.Cores.{Core}
use Rattle.aodv_model.specs.Handlers.{retract, link_broken}
use Rattle.aodv_model.specs.Soundness.{IsSoundCore, IsSoundTable}
use Rattle.aodv_model.proofs.Changes.{Raises, unreachable_by_raises}
use Rattle.aodv_model.proofs.SoundTables.{invalidate_table}
use Rattle.aodv_handlers.specs.declared.cores.Core as code
use Rattle.aodv_handlers.specs.Shown.{core_of, IsInOrder}

pub order_after : {T : Type 0} (nodes : T → ℕ) (entries : T → Table) (size : ℕ) (old new : code.Core T) (after : Core) → IsInOrder nodes entries size old → nodes new.table ≡ nodes old.table → length (new.asked).rooms ≡ length (old.asked).rooms → length (new.waiting).rooms ≡ length (old.waiting).rooms
    → core_of entries new ≡ after → after.ip ≡ old.me → IsSoundCore size after → IsInOrder nodes entries size new
order_after nodes entries size old new after order same asked waiting is me sound = record {
  table = same ∙ order.table;
  asked = asked ∙ order.asked;
  waiting = waiting ∙ order.waiting;
  mine = let here : new.me ≡ old.me = ap (λ (c : Core). c.ip) is ∙ me in let m = order.mine in omega arith;
  sound = subst (IsSoundCore size) (sym is) sound;
}

pub retract_sound : (size : ℕ) (core : Core) (dests : Dests) → Raises core.rt dests → IsSoundCore size core → IsSoundCore size (retract core dests).core
unfolding retract
retract_sound size core dests raises sound = record { own = sound.own; table = invalidate_table size core.ip core.rt dests raises sound.table }

pub broken_sound : (size : ℕ) (core : Core) (y : ℕ) → IsSoundCore size core → IsSoundCore size (link_broken core y).core
unfolding link_broken
broken_sound size core y sound = retract_sound size core (unreachable_by core.rt y) (unreachable_by_raises core.rt y) sound

-- a core with another table, which is sound
pub order_table : {T : Type 0} (nodes : T → ℕ) (entries : T → Table) (size : ℕ) (old new : code.Core T) → IsInOrder nodes entries size old → nodes new.table ≡ nodes old.table → (new.asked).rooms ≡ (old.asked).rooms → (new.waiting).rooms ≡ (old.waiting).rooms
    → new.me ≡ old.me → 1 ≤ new.sn → IsSoundTable size old.me (entries new.table) → IsInOrder nodes entries size new
order_table nodes entries size old new order same asked waiting me own table = record {
  table = same ∙ order.table;
  asked = ap length asked ∙ order.asked;
  waiting = ap length waiting ∙ order.waiting;
  mine = let m = order.mine in omega arith;
  sound = record { own = own; table = subst (λ (ip : ℕ). IsSoundTable size ip (entries new.table)) (sym me) table };
}

-- a core that shows what an earlier one showed, made from one in order with other rows
pub order_back : {T : Type 0} (nodes : T → ℕ) (entries : T → Table) (size : ℕ) (old mid new : code.Core T) → IsInOrder nodes entries size old → IsInOrder nodes entries size mid → nodes new.table ≡ nodes mid.table → (new.asked).rooms ≡ (mid.asked).rooms → (new.waiting).rooms ≡ (mid.waiting).rooms
    → core_of entries new ≡ core_of entries old → IsInOrder nodes entries size new
order_back nodes entries size old mid new order later same asked waiting is = record {
  table = same ∙ later.table;
  asked = ap length asked ∙ later.asked;
  waiting = ap length waiting ∙ later.waiting;
  mine = let here : new.me ≡ old.me = ap (λ (c : Core). c.ip) is in let m = order.mine in omega arith;
  sound = subst (IsSoundCore size) (sym is) order.sound;
}
