-- Every call keeps a node in order.
use Rattle.std.proofs.Common.{◌≡◌, ◌<◌, ◌≤◌, ℕ, List, [], ◌∷◌, ◌++◌, length, Result, Ok, Err, sym, ap, subst, ◌∙◌}
use Rattle.std.specs.List.{AllByRecursion}
use Rattle.mesh_base.specs.Meshes.{Nodes}
use Rattle.mesh_base.specs.Members.{NodeIds}
use Rattle.mesh_base.specs.declared.events.Item as items
use Rattle.mesh_base.specs.declared.events.Item.TheVariants as item
use Rattle.mesh_base.specs.declared.events.Effect as code
use Rattle.mesh_base.specs.declared.events.Variant.{Variant}
use Rattle.aodv_model.specs.Cores.{Core, opening}
use Rattle.aodv_model.specs.Handlers.{Reaction, turn, send, ask}
use Rattle.aodv_model.specs.Soundness.{IsSoundCore, IsStoreInMesh, IsItemInMesh, IsSoundReaction}
use Rattle.aodv_model.proofs.SoundTurns.{turn_keeps_core, send_keeps_core, ask_keeps_core, opening_is_sound}
use Rattle.aodv_meaning.proofs.Means.{spelled_in}
use Rattle.aodv_node.specs.declared.answers.TurnError.{TurnError}
use Rattle.aodv_node.specs.declared.answers.TurnError.TheVariants as errors
use Rattle.aodv_node.specs.declared.answers.SendError.{SendError}
use Rattle.aodv_node.specs.declared.answers.SendError.TheVariants as sends
use Rattle.aodv_node.specs.declared.answers.AskError.{AskError}
use Rattle.aodv_node.specs.declared.answers.AskError.TheVariants as asks
use Rattle.aodv_node.specs.declared.answers.TurnDone as done
use Rattle.aodv_node.specs.Seen.{NodeSeen, IsItemAt, IsSoundNode}
use Rattle.aodv_meaning.specs.Effects.{item_in}
use Rattle.aodv_node.specs.Turned.{IsReadableItem, IsTurn}
use Rattle.aodv_node.specs.Discovered.{IsSend, IsAsk}

-- the item of the model is in the mesh
pub item_is_in_mesh : (mesh : Nodes) (me : ℕ) (i : items.Item) → IsReadableItem mesh i → IsItemAt (length mesh) me i → IsItemInMesh (length mesh) me (item_in mesh i)
item_is_in_mesh mesh me (item.New dest body) ok at = at
item_is_in_mesh mesh me (item.Heard from bytes) ok at = (at.0, at.1, spelled_in mesh bytes ok.allowed ok.known)

-- what a call leaves: a node in order, which is the same one
pub record Follows (old new : NodeSeen) : Type 0 where
  pub sound : IsSoundNode new
  pub me : (new.core).ip ≡ (old.core).ip

-- a core that comes of a sound reaction, with items that were there before
after : (old : NodeSeen) (r : Reaction) (new : NodeSeen) → IsSoundNode old → IsSoundReaction old.size (old.core).ip r → new.core ≡ r.core → new.size ≡ old.size
    → AllByRecursion (IsItemAt old.size (old.core).ip) new.items → Follows old new
after old r new s sound core size each =
    let named : (new.core).ip ≡ (old.core).ip = ap (λ (k : Core). k.ip) core ∙ sound.named in
    record {
      me = named;
      sound = record {
        mine = subst (λ (n : ℕ). (new.core).ip < n) (sym size) (subst (λ (i : ℕ). i < old.size) (sym named) s.mine);
        sound = subst (λ (n : ℕ). IsSoundCore n new.core) (sym size) (subst (λ (k : Core). IsSoundCore old.size k) (sym core) sound.core);
        store = subst (λ (n : ℕ). IsStoreInMesh n (new.core).store) (sym size) (subst (λ (k : Core). IsStoreInMesh old.size k.store) (sym core) sound.store);
        each = subst (λ (n : ℕ). AllByRecursion (IsItemAt n (new.core).ip) new.items) (sym size) (subst (λ (i : ℕ). AllByRecursion (IsItemAt old.size i) new.items) (sym named) each);
      };
    }

-- the same core, with items that were there before
pub same_core : (old new : NodeSeen) → IsSoundNode old → new.core ≡ old.core → new.size ≡ old.size → AllByRecursion (IsItemAt old.size (old.core).ip) new.items → Follows old new
same_core old new s core size each = record {
  me = ap (λ (k : Core). k.ip) core;
  sound = record {
    mine = subst (λ (n : ℕ). (new.core).ip < n) (sym size) (subst (λ (k : Core). k.ip < old.size) (sym core) s.mine);
    sound = subst (λ (n : ℕ). IsSoundCore n new.core) (sym size) (subst (λ (k : Core). IsSoundCore old.size k) (sym core) s.sound);
    store = subst (λ (n : ℕ). IsStoreInMesh n (new.core).store) (sym size) (subst (λ (k : Core). IsStoreInMesh old.size k.store) (sym core) s.store);
    each = subst (λ (n : ℕ). AllByRecursion (IsItemAt n (new.core).ip) new.items) (sym size) (subst (λ (k : Core). AllByRecursion (IsItemAt old.size k.ip) new.items) (sym core) each);
  };
}

pub still : (old new : NodeSeen) → IsSoundNode old → new ≡ old → Follows old new
still old new s same = record { sound = subst (λ (n : NodeSeen). IsSoundNode n) (sym same) s; me = ap (λ (n : NodeSeen). (n.core).ip) same }

abbrev Each : NodeSeen → List items.Item → Type 0
Each old xs = AllByRecursion (IsItemAt old.size (old.core).ip) xs

pub turn_keeps : (mesh : Nodes) (range : NodeIds) (old : NodeSeen) (r : Result done.TurnDone TurnError) (new : NodeSeen) (out : List ℕ)
    → length mesh ≡ old.size → IsSoundNode old → IsTurn mesh range old r new out → Follows old new
turn_keeps mesh range old (Ok d) new out size s t =
    let both : Each old (t.front ∷ new.items) = subst (λ (xs : List items.Item). Each old xs) t.was s.each in
    let at : IsItemAt (length mesh) (old.core).ip t.front = subst (λ (n : ℕ). IsItemAt n (old.core).ip t.front) (sym size) both.0 in
    let it : IsItemInMesh old.size (old.core).ip (item_in mesh t.front) = subst (λ (n : ℕ). IsItemInMesh n (old.core).ip (item_in mesh t.front)) size (item_is_in_mesh mesh (old.core).ip t.front t.readable at) in
    after old (turn old.core range (item_in mesh t.front)) new s (turn_keeps_core old.size old.core range (item_in mesh t.front) s.sound s.store it) (t.made).core t.size both.1
turn_keeps mesh range old (Err errors.Idle) new out size s t = still old new s t.1
turn_keeps mesh range old (Err (errors.Refused from why)) new out size s t =
    let d = t.2 in
    let both : Each old (item.Heard from t.0 ∷ new.items) = subst (λ (xs : List items.Item). Each old xs) d.was s.each in
    same_core old new s d.core d.size both.1
turn_keeps mesh range old (Err (errors.Stranger from who)) new out size s t =
    let d = t.3 in
    let both : Each old (item.Heard from t.0 ∷ new.items) = subst (λ (xs : List items.Item). Each old xs) d.was s.each in
    same_core old new s d.core d.size both.1
turn_keeps mesh range old (Err (errors.Full field)) new out size s t = still old new s t.1
turn_keeps mesh range old (Err errors.NoMemory) new out size s t = still old new s t.1

pub send_keeps : (mesh : Nodes) (range : NodeIds) (old : NodeSeen) (d : ℕ) (r : Result code.Effect SendError) (new : NodeSeen) (out : List ℕ)
    → IsSoundNode old → new.size ≡ old.size → new.items ≡ old.items → IsSend mesh range old.core d r new.core out → Follows old new
send_keeps mesh range old d (Ok e) new out s size same t =
    after old (send old.core range d) new s (send_keeps_core old.size old.core range d s.sound s.store s.mine t.0) (t.1).core size (subst (λ (xs : List items.Item). Each old xs) (sym same) s.each)
send_keeps mesh range old d (Err sends.Idle) new out s size same t = same_core old new s t.1 size (subst (λ (xs : List items.Item). Each old xs) (sym same) s.each)
send_keeps mesh range old d (Err (sends.Full field)) new out s size same t = same_core old new s (t.1).same size (subst (λ (xs : List items.Item). Each old xs) (sym same) s.each)

pub ask_keeps : (mesh : Nodes) (old : NodeSeen) (d : ℕ) (r : Result code.Effect AskError) (new : NodeSeen) (out : List ℕ)
    → IsSoundNode old → new.size ≡ old.size → new.items ≡ old.items → IsAsk mesh old.core d r new.core out → Follows old new
ask_keeps mesh old d (Ok e) new out s size same t =
    after old (ask old.core d) new s (ask_keeps_core old.size old.core d s.sound s.store s.mine t.0) (t.1).core size (subst (λ (xs : List items.Item). Each old xs) (sym same) s.each)
ask_keeps mesh old d (Err asks.Idle) new out s size same t = same_core old new s t.1 size (subst (λ (xs : List items.Item). Each old xs) (sym same) s.each)
ask_keeps mesh old d (Err (asks.Full field)) new out s size same t = same_core old new s (t.1).same size (subst (λ (xs : List items.Item). Each old xs) (sym same) s.each)
ask_keeps mesh old d (Err asks.NoMemory) new out s size same t = same_core old new s t.1 size (subst (λ (xs : List items.Item). Each old xs) (sym same) s.each)

-- one more item at the back
one_more : (P : items.Item → Type 0) (xs : List items.Item) (x : items.Item) → AllByRecursion P xs → P x → AllByRecursion P (xs ++ x ∷ [])
one_more P [] x all at = (at, tt)
one_more P (y ∷ ys) x all at = (all.0, one_more P ys x all.1 at)

pub given : (old new : NodeSeen) (x : items.Item) → IsSoundNode old → new.core ≡ old.core → new.size ≡ old.size → new.items ≡ old.items ++ x ∷ [] → IsItemAt old.size (old.core).ip x → IsSoundNode new
given old new x s core size joined at =
    (same_core old new s core size (subst (λ (xs : List items.Item). Each old xs) (sym joined) (one_more (IsItemAt old.size (old.core).ip) old.items x s.each at))).sound

pub opened : (node : NodeSeen) (v : Variant) (me first : ℕ) → me < node.size → 1 ≤ first → node.core ≡ opening v me first → node.items ≡ [] → IsSoundNode node
opened node v me first below positive core none =
    let sound = opening_is_sound node.size v me first positive in
    record {
      mine = subst (λ (k : Core). k.ip < node.size) (sym core) below;
      sound = subst (λ (k : Core). IsSoundCore node.size k) (sym core) sound.0;
      store = subst (λ (k : Core). IsStoreInMesh node.size k.store) (sym core) sound.1;
      each = subst (λ (xs : List items.Item). AllByRecursion (IsItemAt node.size (node.core).ip) xs) (sym none) tt;
    }
