-- What an outcome names is in the mesh.
use Rattle.std.proofs.Common.{◌≡◌, ℕ, zero, suc, ◌<◌, ◌≤◌, ◌==◌, Bool, true, false, List, [], ◌∷◌, ◌++◌, length, Option, Some, None, Result, Ok, Err, IfSome, IfOk, if◌then◌else◌, sym, ap, subst, ◌∙◌, arith}
use Rattle.std.specs.List.{AllByRecursion}
use Rattle.std.specs.Option.{option_map}
use Rattle.std.specs.FinSet as sets
use Rattle.mesh_base.specs.Members.{NodeIds}
use Rattle.mesh_base.specs.Meshes.{Nodes, IsMesh, addr_at}
use Rattle.mesh_base.specs.declared.events.Effect as effects
use Rattle.mesh_base.specs.declared.events.Item as items
use Rattle.mesh_base.specs.declared.events.Item.TheVariants as item
use Rattle.mesh_base.proofs.Ranks.{all-push}
use Rattle.aodv_model.specs.Cores.{Body, Core}
use Rattle.aodv_model.specs.Handlers.{Cast, Nothing, One, Many, All, Effect, Own, Stored, turn, took, send, ask}
use Rattle.aodv_model.specs.Soundness.{IsDatum, IsItemInMesh, IsEffectInMesh, IsAimed}
use Rattle.aodv_model.proofs.MeshNames.{turn_names_the_mesh, send_names_the_mesh, ask_names_the_mesh}
use Rattle.aodv_meaning.specs.Effects.{item_in, cast_of, effect_of}
use Rattle.aodv_meaning.proofs.Means.{is_there}
use Rattle.aodv_node.specs.Seen.{NodeSeen, IsItemAt, IsSoundNode}
use Rattle.aodv_node.specs.Turned.{IsTaken, IsTurn, taken_of}
use Rattle.aodv_node.specs.Discovered.{IsSend, IsAsk}
use Rattle.aodv_node.specs.declared.answers.TurnDone as done
use Rattle.aodv_node.specs.declared.answers.TurnError as turns
use Rattle.aodv_node.specs.declared.answers.SendError as sends
use Rattle.aodv_node.specs.declared.answers.AskError as asks
use Rattle.aodv_node.proofs.Keeps.{item_is_in_mesh}
use Rattle.aodv_router.specs.declared.outcome.Outcome.{Outcome}
use Rattle.aodv_router.specs.declared.outcome.Taken.{Taken}
use Rattle.aodv_router.specs.declared.answers.TurnError.{TurnError}
use Rattle.aodv_router.specs.declared.answers.SendError.{SendError}
use Rattle.aodv_router.specs.declared.answers.AskError.{AskError}
use Rattle.aodv_router.specs.Stations.{addrs_below}
use Rattle.aodv_router.specs.Outcomes.{IsIn, IsTakenIn, IsTakenDatum, NamesTheMesh, TellsEffect, TellsAct, taken_in, named_by}
use Rattle.aodv_router.specs.Steps.{TellsTurnAnswer, TellsSendAnswer, TellsAskAnswer}

-- a node of the mesh has its address there
is_in : (nodes : Nodes) (i : ℕ) → IsMesh nodes → i < length nodes → IsIn nodes (addr_at nodes i)
is_in nodes i is lt = is_there nodes i is lt

-- ---- what a cast names

broken_in : (nodes : Nodes) (o : Option ℕ) → IsMesh nodes → IfSome o (λ y. y < length nodes) → IfSome (option_map (λ y. addr_at nodes y) o) (λ a. IsIn nodes a)
broken_in nodes None is h = tt
broken_in nodes (Some y) is h = is_in nodes y is h

if_more : (P : ℕ → Type 0) (b : Bool) (xs : List ℕ) (x : ℕ) → AllByRecursion P xs → P x → AllByRecursion P (if b then xs ++ x ∷ [] else xs)
if_more P true xs x all at = all-push P xs x all at
if_more P false xs x all at = all

below_in : (nodes : Nodes) (passes : ℕ → Bool) (n : ℕ) → IsMesh nodes → n ≤ length nodes → AllByRecursion (λ a. IsIn nodes a) (addrs_below nodes passes n)
unfolding addrs_below
below_in nodes passes zero is le = tt
below_in nodes passes (suc n) is le = if_more (λ a. IsIn nodes a) (passes n) (addrs_below nodes passes n) (addr_at nodes n) (below_in nodes passes n is (omega arith)) (is_in nodes n is (omega arith))

named_in : (nodes : Nodes) (c : Cast) → IsMesh nodes → IsAimed (length nodes) c → AllByRecursion (λ a. IsIn nodes a) (named_by nodes (cast_of c))
named_in nodes Nothing is h = tt
named_in nodes (One y m) is h = (is_in nodes y is h, tt)
named_in nodes (Many s m) is h = below_in nodes (λ i. sets.contains s i) (length nodes) is (omega arith)
named_in nodes (All m) is h = tt

-- an effect of the model names nodes of the mesh only, and so does its outcome
pub record NamesEffect (nodes : Nodes) (o : Outcome) : Type 0 where
  pub broken : IfSome o.broken (λ a. IsIn nodes a)
  pub to : AllByRecursion (λ a. IsIn nodes a) (o.to).items

effect_in : (nodes : Nodes) (e : effects.Effect) (r : Effect) (bytes : List ℕ) (o : Outcome) → IsMesh nodes → IsEffectInMesh (length nodes) r → e ≡ effect_of r → TellsEffect nodes e bytes o → NamesEffect nodes o
effect_in nodes e r bytes o is h did t = record {
  broken = subst (λ (b : Option ℕ). IfSome b (λ a. IsIn nodes a)) (sym (t.broken ∙ ap (λ (x : effects.Effect). option_map (λ y. addr_at nodes y) x.broken) did)) (broken_in nodes r.broken is h.broken);
  to = subst (λ (xs : List ℕ). AllByRecursion (λ a. IsIn nodes a) xs) (sym (t.to ∙ ap (λ (x : effects.Effect). named_by nodes x.cast) did)) (named_in nodes r.cast is h.cast);
}

-- ---- turns

datum_in : (mesh : Nodes) (b : Bool) (body : Body) (dest : ℕ) → IsMesh mesh → dest < length mesh → IsTakenIn mesh (taken_in mesh (taken_of (item.New dest body) (if b then Own body else Stored dest)))
datum_in mesh true body dest is lt = tt
datum_in mesh false body dest is lt = is_in mesh dest is lt

taken_names : (mesh : Nodes) (me : ℕ) (core : Core) (front : items.Item) → IsMesh mesh → IsItemAt (length mesh) me front → IsTakenIn mesh (taken_in mesh (taken_of front (took core (item_in mesh front))))
taken_names mesh me core (item.New dest body) is at = datum_in mesh (dest == core.ip) body dest is at.0
taken_names mesh me core (item.Heard from bytes) is at = is_in mesh from is at.0

short_datum : (b : Bool) (body : Body) (dest : ℕ) → IsDatum body → IsTakenDatum (taken_of (item.New dest body) (if b then Own body else Stored dest))
short_datum true body dest is = is
short_datum false body dest is = tt

taken_short : (mesh : Nodes) (me size : ℕ) (core : Core) (front : items.Item) → IsItemAt size me front → IsTakenDatum (taken_of front (took core (item_in mesh front)))
taken_short mesh me size core (item.New dest body) at = short_datum (dest == core.ip) body dest at.1
taken_short mesh me size core (item.Heard from bytes) at = tt

front_at : (mesh : Nodes) (range : NodeIds) (old : NodeSeen) (d : done.TurnDone) (new : NodeSeen) (out : List ℕ) → IsSoundNode old → (t : IsTaken mesh range old d new out) → IsItemAt old.size (old.core).ip t.front
front_at mesh range old d new out s t =
    let all : AllByRecursion (IsItemAt old.size (old.core).ip) (t.front ∷ new.items) = subst (λ (xs : List items.Item). AllByRecursion (IsItemAt old.size (old.core).ip) xs) t.was s.each in
    all.0

-- a datum for the router itself is one
pub turn_short : (mesh : Nodes) (range : NodeIds) (old : NodeSeen) (answer : Result done.TurnDone turns.TurnError) (new : NodeSeen) (out : List ℕ)
    → IsSoundNode old → IsTurn mesh range old answer new out → IfOk answer (λ d. IsTakenDatum d.took)
turn_short mesh range old (Ok d) new out s t =
    subst IsTakenDatum (sym t.took) (taken_short mesh (old.core).ip old.size old.core t.front (front_at mesh range old d new out s t))
turn_short mesh range old (Err why) new out s t = tt

-- the outcome of a turn
pub turn_names : (mesh : Nodes) (range : NodeIds) (old : NodeSeen) (answer : Result done.TurnDone turns.TurnError) (new : NodeSeen) (out : List ℕ) (result : Result Outcome TurnError)
    → IsMesh mesh → old.size ≡ length mesh → IsSoundNode old → IsTurn mesh range old answer new out → TellsTurnAnswer mesh answer out result → IfOk result (λ o. NamesTheMesh mesh o)
turn_names mesh range old (Ok d) new out (Ok o) is size s t tells =
    let at : IsItemAt (length mesh) (old.core).ip t.front = subst (λ (n : ℕ). IsItemAt n (old.core).ip t.front) size (front_at mesh range old d new out s t) in
    let i = item_in mesh t.front in
    let here : IsItemInMesh old.size (old.core).ip i = subst (λ (n : ℕ). IsItemInMesh n (old.core).ip i) (sym size) (item_is_in_mesh mesh (old.core).ip t.front t.readable at) in
    let names : IsEffectInMesh (length mesh) (turn old.core range i).effect = subst (λ (n : ℕ). IsEffectInMesh n (turn old.core range i).effect) size (turn_names_the_mesh old.size old.core range i s.mine s.sound here) in
    let e = effect_in mesh d.effect (turn old.core range i).effect out o is names (t.made).did tells.effect in
    record {
      took = subst (λ (x : Taken). IsTakenIn mesh x) (sym (tells.took ∙ ap (taken_in mesh) t.took)) (taken_names mesh (old.core).ip old.core t.front is at);
      broken = e.broken;
      to = e.to;
    }
turn_names mesh range old (Ok d) new out (Err e) is size s t tells = tt
turn_names mesh range old (Err why) new out (Ok o) is size s t tells = absurd tells
turn_names mesh range old (Err why) new out (Err e) is size s t tells = tt

-- ---- what a node does of its own accord

act_names : (mesh : Nodes) (e : effects.Effect) (r : Effect) (out : List ℕ) (o : Outcome) → IsMesh mesh → IsEffectInMesh (length mesh) r → e ≡ effect_of r → TellsAct mesh e out o → NamesTheMesh mesh o
act_names mesh e r out o is h did tells =
    let n = effect_in mesh e r out o is h did tells.effect in
    record { took = subst (λ (x : Taken). IsTakenIn mesh x) (sym tells.took) tt; broken = n.broken; to = n.to }

pub send_names : (mesh : Nodes) (range : NodeIds) (old : NodeSeen) (d : ℕ) (answer : Result effects.Effect sends.SendError) (new : Core) (out : List ℕ) (result : Result Outcome SendError)
    → IsMesh mesh → old.size ≡ length mesh → IsSoundNode old → IsSend mesh range old.core d answer new out → TellsSendAnswer mesh answer out result → IfOk result (λ o. NamesTheMesh mesh o)
send_names mesh range old d (Ok e) new out (Ok o) is size s t tells =
    let names : IsEffectInMesh (length mesh) (send old.core range d).effect = subst (λ (n : ℕ). IsEffectInMesh n (send old.core range d).effect) size (send_names_the_mesh old.size old.core range d s.mine s.sound t.0) in
    act_names mesh e (send old.core range d).effect out o is names (t.1).did tells
send_names mesh range old d (Ok e) new out (Err why) is size s t tells = tt
send_names mesh range old d (Err why) new out (Ok o) is size s t tells = absurd tells
send_names mesh range old d (Err why) new out (Err e) is size s t tells = tt

pub ask_names : (mesh : Nodes) (old : NodeSeen) (d : ℕ) (answer : Result effects.Effect asks.AskError) (new : Core) (out : List ℕ) (result : Result Outcome AskError)
    → IsMesh mesh → IsAsk mesh old.core d answer new out → TellsAskAnswer mesh answer out result → IfOk result (λ o. NamesTheMesh mesh o)
ask_names mesh old d (Ok e) new out (Ok o) is t tells =
    act_names mesh e (ask old.core d).effect out o is (ask_names_the_mesh (length mesh) old.core d) (t.1).did tells
ask_names mesh old d (Ok e) new out (Err why) is t tells = tt
ask_names mesh old d (Err why) new out (Ok o) is t tells = absurd tells
ask_names mesh old d (Err why) new out (Err e) is t tells = tt
