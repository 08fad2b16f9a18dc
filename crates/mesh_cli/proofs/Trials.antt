-- The run of a made schedule whose lines are values. Nothing but the last line is said of it.
use Rattle.std.proofs.Common.{◌≡◌, ℕ, ◌+◌, false, List, [], ◌++◌, Option, Result, Ok, Err, refl, sym, ap, ap₂, subst, ◌∙◌}
use Rattle.std.specs.Prelude.{IsErr}
use Rattle.std.specs.Io.KnownBytes.{Appends}
use Rattle.mesh_base.specs.declared.events.Variant.{Variant}
use Rattle.mesh_grammar.specs.Faults.{bad_line}
use Rattle.mesh_io.specs.Puts.{AppendsPrefix}
use Rattle.mesh_io.proofs.Writing.{Appends-join, AppendsPrefix-join, AppendsPrefix-more}
use Rattle.mesh_shell.specs.Outputs.{IsLineDone, IsLineLast, text_in}
use Rattle.mesh_shell.specs.Pieces.{pieces_of}
use Rattle.mesh_shell.specs.Fold as shell
use Rattle.mesh_shell.specs.Fold.{Ended}
use Rattle.mesh_shell.specs.declared.fault.Fault.{Fault}
use Rattle.mesh_shell.specs.declared.fault.Fault.TheVariants as fault
use Rattle.mesh_text.specs.Lines.{done_line, full_line}
use Rattle.mesh_text.specs.Schedule.{RunState, opening}
use Rattle.mesh_text.specs.Text.{RunText, LineOutcome, On, Refused, Full, whole, outcome_in_run, goes_on, finished_run, refused_run, overfull_run, text_on, text_of_input}
use Rattle.mesh_text.specs.declared.verdict.Verdict.{Verdict}
use Rattle.mesh_text.specs.declared.verdict.Verdict.TheVariants.{Finished, RefusedAt, FullAt}
use Rattle.mesh_run.specs.Codes.{status_of}
use Rattle.mesh_run.specs.Outputs.{part, IsOutput}
use Rattle.mesh_run.specs.Running.{said}
use Rattle.mesh_run.specs.declared.say.Say.TheVariants.{Last}
use Rattle.mesh_run.specs.declared.status.Status.{Status}
use Rattle.mesh_run.specs.declared.status.Status.TheVariants as status

-- all that a line has written that ends a run
ended_whole : (text last text' last' : List ℕ) (v v' : Verdict) → ◌≡◌ {A = shell.Outcome RunState Verdict} (Ended text last v) (Ended text' last' v') → text ++ last ≡ text' ++ last'
ended_whole text last text' last' v v' is = let first : text ≡ text' = cc in let second : last ≡ last' = cc in ap₂ (λ x y. x ++ y) first second

-- where a text runs on by a line, the rest of a run says the same last line
pub said_on : (v : RunText) (m n : RunState) (k : LineOutcome) (text : List ℕ) (others : RunState → RunText) → v ≡ goes_on m k others → k ≡ On text n → part Last (others n) ≡ part Last v
said_on v m n k text others goes on = sym (ap (part Last) (goes ∙ ap (λ c. goes_on m c others) on))

-- what is told after nothing was written
pub told_here : (v w : RunText) (a b c : Option (List ℕ)) (s : Status) → part Last v ≡ part Last w → Appends a b [] → IsOutput b c (part Last v) s → IsOutput a c (part Last w) s
told_here v w a b c s same none t = by_status s (subst (λ x. IsOutput b c x s) same t)
  where
    by_status : (s : Status) → IsOutput b c (part Last w) s → IsOutput a c (part Last w) s
    by_status status.Done t = (t.0, Appends-join a b c [] _ _ refl none t.1)
    by_status (status.BadLine n) t = (t.0, Appends-join a b c [] _ _ refl none t.1)
    by_status (status.Full n) t = (t.0, Appends-join a b c [] _ _ refl none t.1)
    by_status status.ReadFault t = AppendsPrefix-join a b c [] _ _ refl none t
    by_status status.WriteFault t = AppendsPrefix-join a b c [] _ _ refl none t
    by_status status.NoMemory t = AppendsPrefix-join a b c [] _ _ refl none t
    by_status status.Usage t = t

-- the same where a line ends the run
pub told_on : (v x w : RunText) (a b c : Option (List ℕ)) (s : Status) → v ≡ x → part Last v ≡ part Last w → Appends a b [] → IsOutput b c (part Last x) s → IsOutput a c (part Last w) s
told_on v x w a b c s goes same none t = told_here v w a b c s same none (subst (λ y. IsOutput b c (part Last y) s) (sym goes) t)

-- ---- a line of which only a last line is written

-- it was done, and nothing was written
pub value_on : (m n : RunState) (k : LineOutcome) (b c : Option (List ℕ)) → IsLineDone (said false (outcome_in_run m k)) n b c → ((text : List ℕ) × (k ≡ On text n)) × Appends b c []
value_on m n (On text x) b c done =
    let next : x ≡ n = let is = done.is in cc in
    let none : [] ≡ done.text = let is = done.is in cc in
    ((text, ap (On text) next), subst (λ l. Appends b c l) (sym none) done.grown)
value_on m n (Refused why) b c done = absurd (let is = done.is in let P : ⊥ = cc in P)
value_on m n (Full text x e field) b c done = absurd (let is = done.is in let P : ⊥ = cc in P)

-- it has ended the run
pub value_last : (m : RunState) (k : LineOutcome) (others : RunState → RunText) (v : Verdict) (b c : Option (List ℕ)) → IsLineLast (said false (outcome_in_run m k)) v b c → IsOutput b c (part Last (goes_on m k others)) (status_of (Ok v))
value_last m (On text x) others v b c last = absurd (let is = last.is in let P : ⊥ = cc in P)
value_last m (Refused why) others v b c last =
    let verdict : RefusedAt (m.lines + 1) ≡ v = let is = last.is in cc in
    let text : bad_line (m.lines + 1) why ≡ last.text ++ last.last = ended_whole _ _ _ _ _ _ last.is in
    subst (λ x. IsOutput b c (part Last (refused_run m why)) (status_of (Ok x))) verdict (refl, subst (λ l. Appends b c l) (sym text) last.grown)
value_last m (Full words x e field) others v b c last =
    let verdict : FullAt (m.lines + 1) ≡ v = let is = last.is in cc in
    let text : full_line m.mesh (m.lines + 1) e field ≡ last.text ++ last.last = ended_whole _ _ _ _ _ _ last.is in
    subst (λ x. IsOutput b c (part Last (overfull_run m words e field)) (status_of (Ok x))) verdict (refl, subst (λ l. Appends b c l) (sym text) last.grown)

-- or was not done or not written whole
pub value_broken : (m : RunState) (k : LineOutcome) (others : RunState → RunText) (e : Fault) (b c : Option (List ℕ)) → AppendsPrefix b c (text_in (said false (outcome_in_run m k))) → IsOutput b c (part Last (goes_on m k others)) (status_of (Err e))
value_broken m k others e b c front = by_fault e (by_outcome k front)
  where
    by_outcome : (k : LineOutcome) → AppendsPrefix b c (text_in (said false (outcome_in_run m k))) → AppendsPrefix b c (whole (part Last (goes_on m k others)))
    by_outcome (On text n) front = AppendsPrefix-more b c [] _ _ refl front
    by_outcome (Refused why) front = front
    by_outcome (Full text n e field) front = front

    by_fault : (e : Fault) → AppendsPrefix b c (whole (part Last (goes_on m k others))) → IsOutput b c (part Last (goes_on m k others)) (status_of (Err e))
    by_fault fault.ReadFault front = front
    by_fault fault.WriteFault front = front
    by_fault fault.NoMemory front = front

-- the last line of a whole schedule
pub finish_done : (m : RunState) (v : Verdict) (b c : Option (List ℕ)) → v ≡ Finished → Appends b c (done_line m) → IsOutput b c (part Last (finished_run m)) (status_of (Ok v))
finish_done m v b c verdict put = subst (λ x. IsOutput b c (part Last (finished_run m)) (status_of (Ok x))) (sym verdict) (refl, put)

pub finish_broken : (m : RunState) (answer : Result Verdict Fault) (b c : Option (List ℕ)) → IsErr answer → AppendsPrefix b c (done_line m) → IsOutput b c (part Last (finished_run m)) (status_of answer)
finish_broken m (Ok v) b c failed put = absurd (let P : ⊥ = cc in P)
finish_broken m (Err fault.ReadFault) b c failed put = put
finish_broken m (Err fault.WriteFault) b c failed put = put
finish_broken m (Err fault.NoMemory) b c failed put = put

-- one line more of which nothing is written
pub still_none : (a b c : Option (List ℕ)) → Appends a b [] → Appends b c [] → Appends a c []
still_none a b c none more = Appends-join a b c [] [] [] refl none more

-- the end
pub ended : (m : RunState) (text : List ℕ) → text ≡ [] → text_on m text ≡ finished_run m
unfolding shell.text_on shell.text_from pieces_of
ended m text none = ap (text_on m) none

-- by the status that is made of an answer
pub told_as : (w : RunText) (a b : Option (List ℕ)) (answer : Result Verdict Fault) (s : Status) → s ≡ status_of answer → IsOutput a b (part Last w) (status_of answer) → IsOutput a b (part Last w) s
told_as w a b answer s is t = subst (λ (x : Status). IsOutput a b (part Last w) x) (sym is) t

-- the whole schedule
pub told_whole : (m : RunState) (variant : Variant) (text whole : List ℕ) (a b : Option (List ℕ)) (s : Status) → m ≡ opening variant → text ≡ whole
    → IsOutput a b (part Last (text_on m text)) s → IsOutput a b (part Last (text_of_input variant whole)) s
unfolding text_of_input
told_whole m variant text whole a b s same all t =
    subst (λ (x : List ℕ). IsOutput a b (part Last (text_on (opening variant) x)) s) all (subst (λ (k : RunState). IsOutput a b (part Last (text_on k text)) s) same t)
