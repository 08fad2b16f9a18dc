-- What is refused of the bytes that were read is refused of the checkpoint part.
use Rattle.std.proofs.Common.{◌≡◌, ◌≢◌, ◌∙◌, ◌⊎◌, ℕ, ◌≤◌, ◌<◌, refl, inl, inr, List, length, take, Option, Some, ap, sym, subst, arith, length-take}
use Rattle.std.proofs.lemmas.List.{take-take}
use Rattle.mesh_checkpoint.specs.declared.limits.TheConstants.{LONGEST_BODY}
use Rattle.mesh_checkpoint.specs.Points.{body_of, IsState}
use Rattle.mesh_checkpoint.specs.State.{magic, stated_size, HasLength}
use Rattle.mesh_load.specs.declared.error.StateError.{StateError}
use Rattle.mesh_load.specs.declared.error.StateError.TheVariants as errors
use Rattle.mesh_load.specs.Loading.{IsRefused}
use Rattle.mesh_text.specs.Schedule.{RunState}
use Rattle.mesh_state.specs.CheckpointParts.{checkpoint_part_size, checkpoint_part_of, rest_of, IsOtherHead, IsTaken}
use Rattle.mesh_state.proofs.CheckpointParts.{size_whole, stated_in}
use Rattle.mesh_state.proofs.Checkpoints.{other_head}

whole_input : (bytes taken : List ℕ) → taken ≡ take 8 bytes → length taken ≡ 8 → 8 ≤ length bytes
whole_input bytes taken is whole =
    let long : length taken ≡ length (take 8 bytes) = ap length is in
    omega (arith, length-take 8 bytes)

same_first : (bytes taken : List ℕ) → taken ≡ take 8 bytes → length taken ≡ 8 → take 4 (checkpoint_part_of bytes) ≡ take 4 taken
unfolding checkpoint_part_of
same_first bytes taken is whole =
    let size = size_whole bytes (whole_input bytes taken is whole) in
    take-take 4 (checkpoint_part_size bytes) bytes (omega arith) ∙ sym (ap (take 4) is ∙ take-take 4 8 bytes (omega arith))

same_stated : (bytes taken : List ℕ) → taken ≡ take 8 bytes → length taken ≡ 8 → stated_size (checkpoint_part_of bytes) ≡ stated_size taken
unfolding checkpoint_part_of
same_stated bytes taken is whole =
    stated_in (checkpoint_part_size bytes) bytes (size_whole bytes (whole_input bytes taken is whole)) ∙ sym (ap stated_size is ∙ stated_in 8 bytes (omega arith))

too_long : (b c : List ℕ) → (take 4 b ≢ magic) ⊎ (LONGEST_BODY < stated_size b) → take 4 b ≡ magic → stated_size c ≡ stated_size b → ¬ (HasLength c)
too_long b c (inl first) is same has = first is
too_long b c (inr long) is same has = let most = has.0 in absurd (omega arith)

head_refused : (b c : List ℕ) → IsOtherHead b → take 4 c ≡ take 4 b → stated_size c ≡ stated_size b → (why : StateError) → IsRefused b why → IsRefused c why
head_refused b c other first same errors.NotState bad = λ is. bad (sym first ∙ is)
head_refused b c other first same errors.Length bad = (first ∙ bad.0, too_long b c other.other bad.0 same)
head_refused b c other first same errors.Spelling bad = absurd (too_long b b other.other bad.0 refl bad.1)
head_refused b c other first same errors.Sums bad = absurd (other_head b bad.0 other bad.1)
head_refused b c other first same (errors.Unsound part) bad = absurd (other_head b bad.body other bad.checkpoint)
head_refused b c other first same errors.NoMemory bad = tt

pub refused : (bytes taken : List ℕ) (left : Option (List ℕ)) (why : StateError) → IsTaken bytes taken left → IsRefused taken why → IsRefused (checkpoint_part_of bytes) why
refused bytes taken left why (inl checkpoint_part) bad = subst (λ b. IsRefused b why) checkpoint_part.checkpoint_part bad
refused bytes taken left why (inr head) bad =
    let whole = (head.other).whole in
    head_refused taken (checkpoint_part_of bytes) head.other (same_first bytes taken head.head whole) (same_stated bytes taken head.head whole) why bad

-- a checkpoint that was read is the checkpoint part, and the rest is left
pub restored : (bytes taken : List ℕ) (left : Option (List ℕ)) (m : RunState) → IsTaken bytes taken left → IsState taken m
    → (IsState (checkpoint_part_of bytes) m) × (left ≡ Some (rest_of bytes)) × (taken ≡ checkpoint_part_of bytes)
restored bytes taken left m (inl checkpoint_part) is = (subst (λ b. IsState b m) checkpoint_part.checkpoint_part is, checkpoint_part.rest, checkpoint_part.checkpoint_part)
restored bytes taken left m (inr head) is = absurd (other_head taken (body_of m) head.other is)
