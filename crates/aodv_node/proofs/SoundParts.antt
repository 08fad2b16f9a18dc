-- Parts that are looked at one by one.
use Rattle.std.proofs.Common.{◌≡◌, ◌<◌, ℕ, ◌+◌, List, Some, None, sym, ◌∙◌, subst, arith, inl, inr}
use Rattle.std.specs.Prelude.{slice_get}
use Rattle.std.specs.List.{AllByRecursion}
use Rattle.std.proofs.lemmas.Option.{none-some, same_Some}
use Rattle.std.proofs.lemmas.Bool.{cases_lt}
use Rattle.std.specs.FinMap as maps
use Rattle.aodv_model.specs.declared.entry.Entry.{Entry}
use Rattle.aodv_model.specs.Tables.{Table}
use Rattle.aodv_model.specs.Soundness.{HasSoundNumber, IsEntryInMesh, IsSoundTable}
use Rattle.aodv_model.specs.Cores.{Store}
use Rattle.aodv_model.specs.Soundness.{IsStoreInMesh}
use Rattle.aodv_table.specs.Calls.{IsBelow}
use Rattle.mesh_base.specs.declared.events.Item.{Item}
use Rattle.aodv_node.specs.Seen.{IsItemAt}

-- ---- entries of a table

-- an entry for d of the table of node ip is in order
abbrev pub IsSoundEntry : ℕ → ℕ → Table → ℕ → Entry → Type 0
IsSoundEntry size ip rt d e = HasSoundNumber d e × IsEntryInMesh size ip rt d e

-- those of the destinations below n are
abbrev pub AreSoundBelow : ℕ → ℕ → ℕ → Table → Type 0
AreSoundBelow n size ip rt = (d : ℕ) (e : Entry) → d < n → maps.get rt d ≡ Some e → IsSoundEntry size ip rt d e

pub all_sound : (n size ip : ℕ) (rt : Table) → IsBelow n rt → AreSoundBelow n size ip rt → IsSoundTable size ip rt
all_sound n size ip rt below sound =
    let each : (d : ℕ) (e : Entry) → maps.get rt d ≡ Some e → IsSoundEntry size ip rt d e = λ d e there. elim (cases_lt d n) [
      | inl less ↦ sound d e less there
      | inr le ↦ absurd (none-some e (sym (below d le) ∙ there))
    ] in
    record { numbers = λ d e there. (each d e there).0; in_mesh = λ d e there. (each d e there).1 }

at_new : (n size ip : ℕ) (rt : Table) → ((e : Entry) → maps.get rt n ≡ Some e → IsSoundEntry size ip rt n e) → (k : ℕ) → k ≡ n → (e : Entry) → maps.get rt k ≡ Some e → IsSoundEntry size ip rt k e
at_new n size ip rt new k same = subst (λ (q : ℕ). (e : Entry) → maps.get rt q ≡ Some e → IsSoundEntry size ip rt q e) (sym same) new

pub one_more : (n size ip : ℕ) (rt : Table) → AreSoundBelow n size ip rt → ((e : Entry) → maps.get rt n ≡ Some e → IsSoundEntry size ip rt n e) → AreSoundBelow (n + 1) size ip rt
one_more n size ip rt sound new d e lt there = elim (cases_lt d n) [
  | inl less ↦ sound d e less there
  | inr le ↦ at_new n size ip rt new d (omega arith) e there
]

pub none_more : (n size ip : ℕ) (rt : Table) → AreSoundBelow n size ip rt → maps.get rt n ≡ None → AreSoundBelow (n + 1) size ip rt
none_more n size ip rt sound gone = one_more n size ip rt sound (λ e there. absurd (none-some e (sym gone ∙ there)))

-- the entry that was looked at is the one that is there
pub this_one : (d size ip : ℕ) (rt : Table) (f : Entry) → maps.get rt d ≡ Some f → HasSoundNumber d f → IsEntryInMesh size ip rt d f → (e : Entry) → maps.get rt d ≡ Some e → IsSoundEntry size ip rt d e
this_one d size ip rt f at number in_mesh e there = subst (λ (g : Entry). IsSoundEntry size ip rt d g) (same_Some f e (sym at ∙ there)) (number, in_mesh)

-- ---- elements of a list

-- those before index n have P
abbrev pub AreBefore : {X : Type 0} → (X → Type 0) → ℕ → List X → Type 0
AreBefore {X} P n xs = (k : ℕ) (x : X) → k < n → slice_get xs k ≡ Some x → P x

-- ---- the same, where the size of the mesh is named otherwise

pub items_for : (n size me : ℕ) (xs : List Item) → n ≡ size → AllByRecursion (IsItemAt n me) xs → AllByRecursion (IsItemAt size me) xs
items_for n size me xs is all = subst (λ (k : ℕ). AllByRecursion (IsItemAt k me) xs) is all

pub store_for : (n size : ℕ) (store : Store) → n ≡ size → IsStoreInMesh n store → IsStoreInMesh size store
store_for n size store is all = subst (λ (k : ℕ). IsStoreInMesh k store) is all
