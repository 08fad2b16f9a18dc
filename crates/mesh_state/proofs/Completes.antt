-- Where nothing has failed and nothing is refused, the call is done, unless memory runs out.
use Rattle.std.proofs.Common.{◌≡◌, ◌∙◌, ℕ, List, Option, Some, None, refl, sym, subst, inl, inr}
use Rattle.mesh_io.specs.Cause.{Rose}
use Rattle.mesh_run.specs.declared.status.Status.TheVariants as status
use Rattle.mesh_state.specs.declared.words.Asked.{Asked}
use Rattle.mesh_state.specs.declared.words.Asked.TheVariants.{Save, Go}
use Rattle.mesh_state.specs.declared.status.StateStatus.{StateStatus}
use Rattle.mesh_state.specs.declared.status.StateStatus.TheVariants.{Run, BadState, TooBig}
use Rattle.mesh_state.specs.Answers.{IsAnswered, IsAllowed, HasRefusal, IsDoneOrShort, IsRefusalOrShort, HasAnswered, HasCompleted, HasRefused}

completes : (asked : Asked) (bytes : List ℕ) (after a b : Option (List ℕ)) (s : StateStatus) → (s ≡ Run status.ReadFault → ⊥) → (s ≡ Run status.WriteFault → ⊥) → IsAnswered asked bytes after a b s → IsAllowed asked bytes → IsDoneOrShort s
completes Save bytes after a b (Run status.Done) read write t fine = inl refl
completes Save bytes after a b (Run (status.BadLine n)) read write t fine = absurd (let clash = sym fine.0 ∙ t.0 in let P : ⊥ = cc in P)
completes Save bytes after a b (Run (status.Full n)) read write t fine = absurd (let clash = sym fine.0 ∙ t.0 in let P : ⊥ = cc in P)
completes Save bytes after a b (Run status.ReadFault) read write t fine = absurd (read refl)
completes Save bytes after a b (Run status.WriteFault) read write t fine = absurd (write refl)
completes Save bytes after a b (Run status.NoMemory) read write t fine = inr refl
completes Save bytes after a b (Run status.Usage) read write t fine = absurd t
completes Save bytes after a b (BadState why) read write t fine = absurd t
completes Save bytes after a b TooBig read write t fine = absurd (fine.1 t.long)
completes Go bytes after a b (Run status.Done) read write t fine = inl refl
completes Go bytes after a b (Run (status.BadLine n)) read write t fine = absurd (let clash = sym (fine.1 t.start t.plain t.state) ∙ (t.output).0 in let P : ⊥ = cc in P)
completes Go bytes after a b (Run (status.Full n)) read write t fine = absurd (let clash = sym (fine.1 t.start t.plain t.state) ∙ (t.output).0 in let P : ⊥ = cc in P)
completes Go bytes after a b (Run status.ReadFault) read write t fine = absurd (read refl)
completes Go bytes after a b (Run status.WriteFault) read write t fine = absurd (write refl)
completes Go bytes after a b (Run status.NoMemory) read write t fine = inr refl
completes Go bytes after a b (Run status.Usage) read write t fine = absurd t
completes Go bytes after a b (BadState why) read write t fine = absurd (fine.0 why t.refusal t.refused)
completes Go bytes after a b TooBig read write t fine = absurd t

by_left : (asked : Asked) (left after a b : Option (List ℕ)) (s : StateStatus) (rb ra wb wa : ℕ) → HasAnswered (Some asked) left after a b s → (s ≡ Run status.ReadFault → Rose rb ra) → (s ≡ Run status.WriteFault → Rose wb wa)
    → HasCompleted (Some asked) left rb ra wb wa s
by_left asked None after a b s rb ra wb wa t read write = tt
by_left asked (Some bytes) after a b s rb ra wb wa t read write = λ fine none nothing. completes asked bytes after a b s (λ x. none (read x)) (λ x. nothing (write x)) t fine

pub answer_completes : (o : Option Asked) (asked : Asked) (left after a b : Option (List ℕ)) (s : StateStatus) (rb ra wb wa : ℕ) → Some asked ≡ o → HasAnswered (Some asked) left after a b s
    → (s ≡ Run status.ReadFault → Rose rb ra) → (s ≡ Run status.WriteFault → Rose wb wa)
    → HasCompleted o left rb ra wb wa s
answer_completes o asked left after a b s rb ra wb wa e t read write =
    let P : Option Asked → Type 0 = λ q. HasCompleted q left rb ra wb wa s in
    subst P e (by_left asked left after a b s rb ra wb wa t read write)

-- ---- where the checkpoint part is refused

refuses : (asked : Asked) (bytes : List ℕ) (after a b : Option (List ℕ)) (s : StateStatus) → (s ≡ Run status.ReadFault → ⊥) → IsAnswered asked bytes after a b s → HasRefusal asked bytes → IsRefusalOrShort s
refuses Save bytes after a b s read t bad = absurd bad
refuses Go bytes after a b (Run status.Done) read t bad = absurd (t.unrefused bad.0 bad.1 bad.2)
refuses Go bytes after a b (Run (status.BadLine n)) read t bad = absurd (t.unrefused bad.0 bad.1 bad.2)
refuses Go bytes after a b (Run (status.Full n)) read t bad = absurd (t.unrefused bad.0 bad.1 bad.2)
refuses Go bytes after a b (Run status.ReadFault) read t bad = absurd (read refl)
refuses Go bytes after a b (Run status.WriteFault) read t bad = absurd (t.unrefused bad.0 bad.1 bad.2)
refuses Go bytes after a b (Run status.NoMemory) read t bad = inr refl
refuses Go bytes after a b (Run status.Usage) read t bad = absurd t
refuses Go bytes after a b (BadState why) read t bad = inl (why, refl)
refuses Go bytes after a b TooBig read t bad = absurd t

refuses_left : (asked : Asked) (left after a b : Option (List ℕ)) (s : StateStatus) (rb ra : ℕ) → HasAnswered (Some asked) left after a b s → (s ≡ Run status.ReadFault → Rose rb ra)
    → HasRefused (Some asked) left rb ra s
refuses_left asked None after a b s rb ra t read = tt
refuses_left asked (Some bytes) after a b s rb ra t read = λ bad none. refuses asked bytes after a b s (λ x. none (read x)) t bad

pub answer_refuses : (o : Option Asked) (asked : Asked) (left after a b : Option (List ℕ)) (s : StateStatus) (rb ra : ℕ) → Some asked ≡ o → HasAnswered (Some asked) left after a b s → (s ≡ Run status.ReadFault → Rose rb ra)
    → HasRefused o left rb ra s
answer_refuses o asked left after a b s rb ra e t read =
    let P : Option Asked → Type 0 = λ q. HasRefused q left rb ra s in
    subst P e (refuses_left asked left after a b s rb ra t read)
