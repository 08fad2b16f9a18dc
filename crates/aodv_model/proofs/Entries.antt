-- What one entry over another keeps.
use Rattle.std.proofs.Common.{◌≡◌, ℕ, ◌<◌, ◌≤◌, ◌⊎◌, Bool, true, false, cond, ◌==◌, Some, None, Option, refl, arith}
use Rattle.std.proofs.lemmas.Bool.Decides.{nat_tests}
use Rattle.aodv_model.specs.declared.entry.Entry.{Entry}
use Rattle.aodv_model.specs.declared.entry.Known.TheVariants.{Unk}
use Rattle.aodv_model.specs.Soundness.{HasSoundNumber}
use Rattle.aodv_model.specs.Tables.{invalidated, add_pre_at, merge}
use Rattle.mesh_base.specs.Members.{NodeIds}

pub merged_sound : (d : ℕ) (s r : Entry) → HasSoundNumber d s → HasSoundNumber d r → (r.dsk ≡ Unk → (r.hops ≡ 1) × (r.next ≡ d)) → HasSoundNumber d (merge s r)
unfolding merge
merged_sound d s r a b near = record { hops = grind (arith, nat_tests); known = grind (arith, nat_tests); direct = grind (arith, nat_tests) }

-- a fact of each branch
pub if_case : {A : Type 0} (P : A → Type 0) (b : Bool) (x y : A) → (b ≡ true → P x) → (b ≡ false → P y) → P (cond b x y)
if_case P true x y then' else' = then' refl
if_case P false x y then' else' = else' refl

-- two entries with the same number, flag, hops and next hop
pub record Same (a b : Entry) : Type 0 where
  pub dsn : a.dsn ≡ b.dsn
  pub flag : a.flag ≡ b.flag
  pub hops : a.hops ≡ b.hops
  pub next : a.next ≡ b.next

-- an entry over another is one of the two, or has the other's next hop
pub merged_shape : (s r : Entry) → (Same (merge s r) s ⊎ Same (merge s r) r) ⊎ ((r.dsk ≡ Unk) × ((merge s r).next ≡ r.next))
unfolding merge
merged_shape s r = grind (arith, nat_tests)

pub invalidated_sound : (d : ℕ) (e : Entry) (o : Option ℕ) → ((m : ℕ) → o ≡ Some m → (e.dsn ≤ m) × (1 ≤ e.dsn → e.dsn < m)) → HasSoundNumber d e → HasSoundNumber d (invalidated e o)
invalidated_sound d e None up sound = sound
invalidated_sound d e (Some m) up sound =
    let above = (up m refl).0 in
    record { hops = sound.hops; known = λ k. let one = sound.known k in omega arith; direct = λ zero. sound.direct (omega arith) }

pub joined_sound : (q d : ℕ) (nodes : NodeIds) (e : Entry) → HasSoundNumber q e → HasSoundNumber q (add_pre_at d nodes q e)
joined_sound q d nodes e sound =
    if_case (λ e. HasSoundNumber q e) (q == d) _ _ (λ _. record { hops = sound.hops; known = sound.known; direct = sound.direct }) (λ _. sound)
