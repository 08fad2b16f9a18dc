-- A refusal stays, and where the pending bytes decide nothing is read.
use Rattle.std.proofs.Common.{◌≡◌, ◌≢◌, ℕ, Bool, true, false, List, Option, Some, None, Result, Err, refl, sym, ap, ◌∙◌, ltb, ◌+◌, length, ◌||◌}
use Rattle.std.specs.Option.{IfSome}
use Rattle.std.proofs.lemmas.Option.{same_Some}
use Rattle.mesh_io.specs.NextLines.{first_line}
use Rattle.mesh_io.specs.Decisions.{decides}
use Rattle.mesh_io.specs.Cutting.{refusal_by, refusal_in, decides_in, pending_in}
use Rattle.mesh_io.specs.declared.limits.Limits.{Limits}
use Rattle.mesh_io.specs.declared.source.Source.{Ghosts}
use Rattle.mesh_io.specs.declared.cutter.Cutter.{Cutter}
use Rattle.mesh_io.specs.declared.decision.Decision.TheVariants as decision
use Rattle.mesh_io.specs.declared.line_error.LineError.{LineError}
use Rattle.mesh_io.proofs.Deciding.{open_is, closed_is}

-- bytes that don't decide have no LF
pub undecided_end : (most : Limits) (given : ℕ) (ended : Bool) (bytes : List ℕ) → decides most given ended bytes ≡ false → (first_line bytes).ends ≡ false
undecided_end most given ended bytes e = ors ended (first_line bytes).ends (ltb most.line (length bytes)) (ltb most.input (given + length bytes)) e
  where
    ors : (a b c d : Bool) → (a || b || c || d) ≡ false → b ≡ false
    ors true b c d e = absurd cc
    ors false true c d e = absurd cc
    ors false false c d e = refl

-- where the bytes decided, none was read: so a decision that isn't made was not made before
pub was_open : {S : Type 0} {room : ℕ} {G : Ghosts S} (old now : Cutter S room G) → (decides_in old ≡ true → now ≡ old) → now.decision ≡ decision.Open → ¬ (decides_in old ≡ true)
was_open old now unread is d =
    let here = ap decides_in (unread d) in
    let none = open_is now.most now.given now.ended (pending_in now) now.decision now.decided is in
    absurd (differ (sym d ∙ sym here ∙ none))
  where
    differ : true ≢ false
    differ e = absurd cc

-- what was refused is what is refused
pub was_refused : {S : Type 0} {room : ℕ} {G : Ghosts S} (old now : Cutter S room G) → (decides_in old ≡ true → now ≡ old) → (refusal : LineError) → refusal_in old ≡ Some refusal → now ≡ old
was_refused old now unread refusal is =
    unread (closed_is old.most old.given old.ended (pending_in old) old.decision old.decided (λ e. absurd (differ (sym (ap refusal_by e) ∙ is))))
  where
    differ : None ≢ Some refusal
    differ e = absurd cc

pub stays : {S : Type 0} {room : ℕ} {G : Ghosts S} (old now : Cutter S room G) (P : LineError → Type 0) → (decides_in old ≡ true → now ≡ old)
    → ((refusal : LineError) → refusal_in now ≡ Some refusal → now ≡ old → P refusal) → IfSome (refusal_in old) P
stays old now P unread h = by_cases (refusal_in old) refl
  where
    by_cases : (o : Option LineError) → refusal_in old ≡ o → IfSome o P
    by_cases None e = tt
    by_cases (Some refusal) e = let same = was_refused old now unread refusal e in h refusal (ap refusal_in same ∙ e) same

pub stays_none : {S : Type 0} {room : ℕ} {G : Ghosts S} (old now : Cutter S room G) (P : LineError → Type 0) → (decides_in old ≡ true → now ≡ old)
    → refusal_in now ≡ None → IfSome (refusal_in old) P
stays_none old now P unread none = stays old now P unread (λ refusal e same. absurd (differ refusal (sym e ∙ none)))
  where
    differ : (refusal : LineError) → Some refusal ≢ None
    differ refusal e = absurd cc

pub stays_same : {S : Type 0} {room : ℕ} {G : Ghosts S} (old now : Cutter S room G) (refusal : LineError) → (decides_in old ≡ true → now ≡ old)
    → refusal_in now ≡ Some refusal → IfSome (refusal_in old) (λ r. ◌≡◌ {A = Result Bool LineError} (Err refusal) (Err r) × (now ≡ old))
stays_same old now refusal unread is =
    stays old now (λ r. ◌≡◌ {A = Result Bool LineError} (Err refusal) (Err r) × (now ≡ old)) unread (λ r e same. (ap (λ x. Err x) (sym (same_Some r refusal (sym e ∙ is))), same))
