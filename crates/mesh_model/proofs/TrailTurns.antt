-- What each turn, send and request keeps of the walks. That a walk is there follows from what is
-- proved of lists: any walks can be listed, and the lists after the turn are walks.
use Rattle.std.proofs.Common.{◌≡◌, ℕ, true, List, []}
use Rattle.aodv_model.specs.Cores.{Core, Heard, Item, Message, New}
use Rattle.aodv_model.specs.Handlers.{Reaction, ask, on_message, on_new, send, turn}
use Rattle.aodv_model.specs.Tables.{Table}
use Rattle.mesh_base.specs.Members.{NodeIds}
use Rattle.mesh_model.proofs.CastWalks.{CastHolds, IsHere, ask_holds, message_tells, new_holds, send_holds}
use Rattle.mesh_model.proofs.Listed.{entries_have, entries_hold, entries_listed, message_listed, stays_hold}
use Rattle.mesh_model.proofs.Stems.{Stays, ask_stays, message_stems, new_stays, parcel_stays, send_stays}
use Rattle.mesh_model.proofs.Turns.{IsFit, turn_ok}
use Rattle.mesh_model.specs.Held.{EntriesHold, MessageHolds}
use Rattle.mesh_model.specs.Invariants.{IsHonest, IsHonestItem}
use Rattle.mesh_model.specs.Kept.{entries_after, own_list, sent_list}
use Rattle.mesh_model.specs.Trails.{Around, EntriesHaveWalks, ItemHasWalk}
use Rattle.mesh_model.specs.Worlds.{are_linked}

-- ---- of given lists

-- the core has heard m with list l from y: the lists of its entries, and of what it casts, are walks
pub record HeardHolds (a : Around) (core : Core) (y : ℕ) (m : Message) (l : List ℕ) (walks : ℕ → List ℕ) (did : Reaction) : Type 0 where
  pub entries : EntriesHold a core.ip (did.core).rt (entries_after core.ip y m l (did.core).rt walks)
  pub cast : CastHolds a did.core (sent_list core.ip (entries_after core.ip y m l (did.core).rt walks) m l) (did.effect).cast

pub heard_holds : (tables : ℕ → Table) (a : Around) (core : Core) (range : NodeIds) (y : ℕ) (m : Message) (l : List ℕ) (walks : ℕ → List ℕ) → IsFit tables core → IsHere a core → IsHonest (tables y) y m → are_linked a.ever y core.ip ≡ true → MessageHolds a y m l
    → EntriesHold a core.ip core.rt walks → HeardHolds a core y m l walks (on_message core range y m)
heard_holds tables a core range y m l walks fit here honest linked t all =
    let did : Reaction = on_message core range y m in
    let ok = turn_ok tables core range (Heard y m) fit honest in
    let now : EntriesHold a core.ip (did.core).rt (entries_after core.ip y m l (did.core).rt walks) =
    entries_hold a core.ip y (tables y) m l core.rt (did.core).rt walks (parcel_stays core range y m) (message_stems core range y m).0 all (λ d k g one at. ok.leads.grows.keeps d k g one (here.tables d k g one at)) honest linked t in
    record { entries = now; cast = message_tells tables a y m l walks core range fit here honest linked t now }

-- ---- of walks

-- the entries have walks, and what is cast has these lists, which are walks
pub record Traces (a : Around) (core : Core) (did : Reaction) : Type 0 where
  pub traced : EntriesHaveWalks a core.ip (did.core).rt
  pub list : Message → List ℕ
  pub cast : CastHolds a did.core list (did.effect).cast

stays_traced : (a : Around) (x : ℕ) (old now : Table) → Stays old now → EntriesHaveWalks a x old → EntriesHaveWalks a x now
stays_traced a x old now stays all = let t = entries_listed a x old all in entries_have a x now t.0 (stays_hold a x old now t.0 stays t.1)

pub turn_traces : (tables : ℕ → Table) (a : Around) (core : Core) (range : NodeIds) (item : Item) → IsFit tables core → IsHere a core → EntriesHaveWalks a core.ip core.rt → IsHonestItem tables item → ItemHasWalk a core.ip item → Traces a core (turn core range item)
turn_traces tables a core range (New b d) fit here all honest t =
    record { traced = stays_traced a core.ip core.rt (on_new core b d).core.rt (new_stays core b d).0 all; list = λ m. []; cast = new_holds a (λ m. []) core b d }
turn_traces tables a core range (Heard y m) fit here all honest t =
    let did : Reaction = on_message core range y m in
    let l = message_listed a y m t.1 in
    let walks = entries_listed a core.ip core.rt all in
    let h : HeardHolds a core y m l.0 walks.0 did = heard_holds tables a core range y m l.0 walks.0 fit here honest t.0 l.1 walks.1 in
    let now : ℕ → List ℕ = entries_after core.ip y m l.0 (did.core).rt walks.0 in
    record { traced = entries_have a core.ip (did.core).rt now h.entries; list = sent_list core.ip now m l.0; cast = h.cast }

pub send_traces : (a : Around) (core : Core) (range : NodeIds) (d : ℕ) → EntriesHaveWalks a core.ip core.rt → Traces a core (send core range d)
send_traces a core range d all =
    record { traced = stays_traced a core.ip core.rt (send core range d).core.rt (send_stays core range d).0 all; list = λ m. []; cast = send_holds a (λ m. []) core range d }

pub ask_traces : (a : Around) (core : Core) (d : ℕ) → IsHere a core → EntriesHaveWalks a core.ip core.rt → Traces a core (ask core d)
ask_traces a core d here all =
    record { traced = stays_traced a core.ip core.rt (ask core d).core.rt (ask_stays core d) all; list = own_list core.ip; cast = ask_holds a core d here }
