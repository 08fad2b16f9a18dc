-- Where nothing has failed and each line is allowed, the route is told, unless memory runs out.
use Rattle.std.proofs.Common.{◌≡◌, ◌∙◌, ◌⊎◌, ℕ, List, Option, Some, None, IfSome, refl, sym, subst, inl, inr}
use Rattle.mesh_base.specs.declared.events.Variant.TheVariants.{Base}
use Rattle.mesh_io.specs.Cause.{Rose}
use Rattle.mesh_text.specs.Text.{text_of_input}
use Rattle.mesh_text.specs.declared.verdict.Verdict.TheVariants.{Finished}
use Rattle.mesh_run.specs.declared.status.Status.{Status}
use Rattle.mesh_run.specs.declared.status.Status.TheVariants as status
use Rattle.mesh_why.specs.Answers.{IsAnswered}

completes : (asked : ℕ × ℕ) (bytes : List ℕ) (after a b : Option (List ℕ)) (s : Status) → (s ≡ status.ReadFault → ⊥) → (s ≡ status.WriteFault → ⊥) → IsAnswered asked bytes after a b s → (text_of_input Base bytes).verdict ≡ Finished
    → (s ≡ status.Done) ⊎ (s ≡ status.NoMemory)
unfolding text_of_input
completes asked bytes after a b status.Done read write t finished = inl refl
completes asked bytes after a b (status.BadLine n) read write t finished = absurd (let clash = sym finished ∙ t.0 in let P : ⊥ = cc in P)
completes asked bytes after a b (status.Full n) read write t finished = absurd (let clash = sym finished ∙ t.0 in let P : ⊥ = cc in P)
completes asked bytes after a b status.ReadFault read write t finished = absurd (read refl)
completes asked bytes after a b status.WriteFault read write t finished = absurd (write refl)
completes asked bytes after a b status.NoMemory read write t finished = inr refl
completes asked bytes after a b status.Usage read write t finished = absurd t

by_left : (asked : ℕ × ℕ) (left after a b : Option (List ℕ)) (s : Status) (rb ra wb wa : ℕ) → IfSome left (λ bytes. IsAnswered asked bytes after a b s) → (s ≡ status.ReadFault → Rose rb ra) → (s ≡ status.WriteFault → Rose wb wa)
    → IfSome left (λ bytes. (text_of_input Base bytes).verdict ≡ Finished → (Rose rb ra → ⊥) → (Rose wb wa → ⊥) → (s ≡ status.Done) ⊎ (s ≡ status.NoMemory))
by_left asked None after a b s rb ra wb wa t read write = tt
by_left asked (Some bytes) after a b s rb ra wb wa t read write = λ finished none nothing. completes asked bytes after a b s (λ x. none (read x)) (λ x. nothing (write x)) t finished

pub answer_completes : (o : Option (ℕ × ℕ)) (asked : ℕ × ℕ) (left after a b : Option (List ℕ)) (s : Status) (rb ra wb wa : ℕ) → Some asked ≡ o → IfSome left (λ bytes. IsAnswered asked bytes after a b s)
    → (s ≡ status.ReadFault → Rose rb ra) → (s ≡ status.WriteFault → Rose wb wa)
    → IfSome o (λ x. IfSome left (λ bytes. (text_of_input Base bytes).verdict ≡ Finished → (Rose rb ra → ⊥) → (Rose wb wa → ⊥) → (s ≡ status.Done) ⊎ (s ≡ status.NoMemory)))
answer_completes o asked left after a b s rb ra wb wa e t read write =
    let P : Option (ℕ × ℕ) → Type 0 = λ q. IfSome q (λ x. IfSome left (λ bytes. (text_of_input Base bytes).verdict ≡ Finished → (Rose rb ra → ⊥) → (Rose wb wa → ⊥) → (s ≡ status.Done) ⊎ (s ≡ status.NoMemory))) in
    subst P e (by_left asked left after a b s rb ra wb wa t read write)
