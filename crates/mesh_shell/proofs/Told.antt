-- What was told of the run of a script, by what was told of the run of its lines.
use Rattle.std.proofs.Common.{◌≡◌, ℕ, Option, Some, None, List, [], ◌++◌, Result, Ok, Err, refl, sym, ap, subst, ◌∙◌, append_assoc, append-nil, arith}
use Rattle.std.specs.Prelude.{IfSome, IfOk, OnOk, IsErrOf}
use Rattle.std.specs.Io.KnownBytes.{Appends}
use Rattle.mesh_io.specs.Puts.{AppendsPrefix}
use Rattle.mesh_io.specs.Buffering.{gathered_in}
use Rattle.mesh_io.specs.declared.limits.Limits.{Limits}
use Rattle.mesh_io.specs.declared.sink.Sink as sinks
use Rattle.mesh_io.proofs.Writing.{Appends-join, Appends-keeps, AppendsPrefix-more}
use Rattle.mesh_shell.specs.Pieces.{Piece, pieces_within}
use Rattle.mesh_shell.specs.Fold.{RunText, whole, lines_before, finished_run, text_from, text_on}
use Rattle.mesh_shell.specs.Scripts.{size_of_pieces}
use Rattle.mesh_shell.specs.Outputs.{IsEndRun, IsCutShort, IsOutputOf}
use Rattle.mesh_shell.specs.Runs.{End, AtEnd, AtLine, AtWait, AtFault, HasEnded, IsCutAt, LeavesOf, IsRan}
use Rattle.mesh_shell.specs.Scripted.{written_by, HasLed, HasStopped, HasFinished, HasBroken, IsCut}
use Rattle.mesh_shell.specs.ScriptedLaws.{Stays, Joins, before_both}
use Rattle.mesh_shell.specs.declared.fault.Fault.{Fault}
use Rattle.mesh_shell.specs.declared.fault.Fault.TheVariants.{ReadFault, WriteFault, NoMemory}
use Rattle.mesh_shell.specs.declared.reader.LineReader as readers
use Rattle.mesh_shell.specs.declared.runner.Runner as runners
use Rattle.mesh_shell.specs.declared.script.Script as scripts
use Rattle.mesh_shell.specs.declared.scripted.Scripted.{Scripted}
use Rattle.mesh_shell.proofs.Steps.{text_on-pieces, text_from-end, IsWritten, written_before, last_told, end_told, leads_within}

-- a script as a runner
abbrev pub runner_of : {S V O : Type 0} → scripts.Ghosts S V → sinks.Ghosts O → runners.Ghosts (Scripted S O) (Result V Fault)
runner_of script sink = record {
  leads = HasLed script sink;
  stops = HasStopped script sink;
  ends = HasFinished script sink;
  breaks = HasBroken sink;
  cuts = IsCut;
  has_handed_on = λ s. gathered_in s.out.now ≡ [];
  has_room = λ s. script.has_room s.script.now;
  longest = script.longest;
}

output_from : {M V : Type 0} (start : List ℕ → RunText M V) (bytes : List ℕ) (left before now : Option (List ℕ)) (s : Result V Fault) → ¬ IsErrOf s ReadFault → IsWritten (start bytes) before now s → IsOutputOf start bytes left before now s
output_from start bytes left before now (Ok v) read t = t
output_from start bytes left before now (Err ReadFault) read t = absurd (read refl)
output_from start bytes left before now (Err WriteFault) read t = t
output_from start bytes left before now (Err NoMemory) read t = t

-- its head was not written whole
pub head_broken : {M V : Type 0} (start : List ℕ → RunText M V) (others : List ℕ → RunText M V) (head : List ℕ) (bytes left before now : Option (List ℕ)) (fault : Fault)
    → ((b : List ℕ) → start b ≡ lines_before head (others b)) → ¬ IsErrOf {T = V} (Err fault) ReadFault → AppendsPrefix before now head → IfSome bytes (λ b. IsOutputOf {M = M} {V = V} start b left before now (Err fault))
head_broken start others head None left before now fault from read front = tt
head_broken {M} {V} start others head (Some b) left before now fault from read front =
    output_from start b left before now (Err fault) read
    (subst (λ (w : RunText M V). AppendsPrefix before now (whole w)) (sym (from b))
    (AppendsPrefix-more before now head _ _ (append_assoc head (others b).lines (others b).last) front))

-- lines were done, from a state on before which its head was written, and then the run has ended
module _ {S V O : Type 0} (script : scripts.Ghosts S V) (sink : sinks.Ghosts O) (most : Limits) (m : S) (before : Option (List ℕ)) (old mid new : Scripted S O) (answer : Result V Fault) (done : List Piece) (led : HasLed script sink old done mid) (same : old.script.now ≡ m) (grown : Appends before (written_by sink old) (script.fold.head m)) where
  so_far : List ℕ
  so_far = script.fold.head m ++ led.text

  start : List ℕ → RunText S V
  start = text_on script.fold most m

  -- the text of all
  text_all : (bytes : List ℕ) (later : List Piece) → pieces_within most bytes ≡ done ++ later → start bytes ≡ lines_before so_far (text_from script.fold mid.script.now later)
  unfolding so_far start
  text_all bytes later all =
      text_on-pieces script.fold most m bytes
      ∙ ap (λ (ps : List Piece). lines_before (script.fold.head m) (text_from script.fold m ps)) all
      ∙ ap (λ (k : S). lines_before (script.fold.head m) (text_from script.fold k (done ++ later))) (sym same)
      ∙ ap (lines_before (script.fold.head m)) (led.goes later)
      ∙ before_both (script.fold.head m) led.text (text_from script.fold mid.script.now later)

  grown_so_far : Appends before (written_by sink mid) so_far
  unfolding so_far
  grown_so_far = Appends-join before (written_by sink old) (written_by sink mid) (script.fold.head m) led.text (script.fold.head m ++ led.text) refl grown led.grown

  -- it was told so far
  front_of : (bytes : List ℕ) (later : List Piece) (now : Option (List ℕ)) → pieces_within most bytes ≡ done ++ later → Appends before now so_far → AppendsPrefix before now (whole (start bytes))
  front_of bytes later now all told =
      let w : RunText S V = text_from script.fold mid.script.now later in
      subst (λ (v : RunText S V). AppendsPrefix before now (whole v)) (sym (text_all bytes later all))
      (record { prefix = so_far; rest = w.lines ++ w.last; whole = append_assoc so_far w.lines w.last; grown = told })

  -- and the rest then
  tells : (bytes : List ℕ) (later : List Piece) (left : Option (List ℕ)) → pieces_within most bytes ≡ done ++ later → ¬ IsErrOf answer ReadFault → IsWritten (text_from script.fold mid.script.now later) (written_by sink mid) (written_by sink new) answer
      → IsOutputOf start bytes left before (written_by sink new) answer
  tells bytes later left all read t =
      output_from start bytes left before (written_by sink new) answer read
      (written_before (start bytes) (text_from script.fold mid.script.now later) so_far before (written_by sink mid) (written_by sink new) answer (text_all bytes later all) grown_so_far t)

  -- a read failed
  cut_short : (bytes : List ℕ) (later : List Piece) (left : Option (List ℕ)) → pieces_within most bytes ≡ done ++ later → IsCutAt most bytes left done → IsCutShort start bytes left before (written_by sink mid)
  cut_short bytes later left all cut =
      let w : start cut.lines ≡ lines_before so_far (finished_run (script.fold.ending mid.script.now)) =
      text_all cut.lines [] (cut.pieces ∙ sym (append-nil done)) ∙ ap (lines_before so_far) (text_from-end script.fold mid.script.now) in
      record {
        lines = cut.lines;
        others = cut.others;
        whole_lines = cut.whole_lines;
        unended = cut.unended;
        consumed = cut.consumed;
        done = ap (λ (x : RunText S V). x.complete) w;
        grown = subst (λ l. Appends before (written_by sink mid) l) (sym (ap (λ (x : RunText S V). x.lines) w ∙ append-nil so_far)) grown_so_far;
        prefix = front_of bytes later (written_by sink mid) all grown_so_far;
      }

  told_at : (bytes : List ℕ) (later : List Piece) (left : Option (List ℕ)) (faults now : ℕ) (at : End) → pieces_within most bytes ≡ done ++ later → HasEnded (runner_of script sink) at mid new answer → LeavesOf most (Some bytes) left faults now done later at
      → IsOutputOf start bytes left before (written_by sink new) answer
  told_at bytes later left faults now AtEnd all ended leaves =
      tells bytes later left all ended.read
      (subst (λ (w : RunText S V). IsWritten w (written_by sink mid) (written_by sink new) answer) (sym (ap (text_from script.fold mid.script.now) leaves.0 ∙ text_from-end script.fold mid.script.now))
      (end_told (script.fold.ending mid.script.now) new.script.now (written_by sink mid) (written_by sink new) answer ended.told))
  told_at bytes later left faults now (AtLine piece) all ended leaves =
      tells bytes later left all ended.read
      (subst (λ (ps : List Piece). IsWritten (text_from script.fold mid.script.now ps) (written_by sink mid) (written_by sink new) answer) (sym (leaves.0).1)
      (last_told script.fold mid.script.now piece answer (written_by sink mid) (written_by sink new) ended.told (leaves.0).0))
  told_at bytes later left faults now AtWait all ended leaves =
      subst (λ (a : Result V Fault). IsOutputOf start bytes left before (written_by sink new) a) (sym ended.is)
      (front_of bytes later (written_by sink new) all (Appends-keeps before (written_by sink mid) (written_by sink new) so_far grown_so_far ended.kept))
  told_at bytes later left faults now AtFault all ended leaves =
      subst (λ (a : Result V Fault). IsOutputOf start bytes left before (written_by sink new) a) (sym ended.is)
      (subst (λ (s : Scripted S O). IsCutShort start bytes left before (written_by sink s)) (sym ended.same) (cut_short bytes later left all leaves.cut))

  pub told_of : (bytes left : Option (List ℕ)) (later : List Piece) (faults now : ℕ) (at : End) → IfSome bytes (λ b. pieces_within most b ≡ done ++ later) → HasEnded (runner_of script sink) at mid new answer → LeavesOf most bytes left faults now done later at
      → IfSome bytes (λ b. IsOutputOf (text_on script.fold most m) b left before (written_by sink new) answer)
  unfolding start
  told_of None left later faults now at all ended leaves = tt
  told_of (Some b) left later faults now at all ended leaves = told_at b later left faults now at all ended leaves

  -- the state to which the input leads
  pub after_of : (bytes : Option (List ℕ)) (later : List Piece) → IfSome bytes (λ b. pieces_within most b ≡ done ++ later) → later ≡ [] → IsEndRun (script.fold.ending mid.script.now) new.script.now (written_by sink mid) (written_by sink new) answer
      → IfOk answer (λ v. script.is_final v → IfSome bytes (λ b. new.script.now ≡ (text_on script.fold most m b).after))
  unfolding start
  after_of bytes later all none told = by_answer answer bytes all told
    where
      by_answer : (a : Result V Fault) (bytes : Option (List ℕ)) → IfSome bytes (λ b. pieces_within most b ≡ done ++ later) → IsEndRun (script.fold.ending mid.script.now) new.script.now (written_by sink mid) (written_by sink new) a
          → IfOk a (λ v. script.is_final v → IfSome bytes (λ b. new.script.now ≡ (text_on script.fold most m b).after))
      by_answer (Err fault) bytes all told = tt
      by_answer (Ok v) None all told = λ f. tt
      by_answer (Ok v) (Some b) all told = λ f.
          told.1
          ∙ sym (ap (λ (w : RunText S V). w.after) (text_all b later all ∙ ap (λ (ps : List Piece). lines_before so_far (text_from script.fold mid.script.now ps)) none ∙ ap (lines_before so_far) (text_from-end script.fold mid.script.now)))

-- ---- of a run

-- only the end of the input brings a verdict of the end
on_final : {V : Type 0} (answer : Result V Fault) (is_final : V → Type 0) (A P : Type 0) → OnOk answer A → (A → P) → IfOk answer (λ v. is_final v → P)
on_final (Err fault) is_final A P h to = tt
on_final (Ok v) is_final A P h to = λ f. to h

never_final : {V : Type 0} (answer : Result V Fault) (is_final : V → Type 0) (P : Type 0) → IfOk answer (λ v. ¬ (is_final v)) → IfOk answer (λ v. is_final v → P)
never_final (Err fault) is_final P h = tt
never_final (Ok v) is_final P h = λ f. absurd (h f)

failed_final : {V : Type 0} (answer : Result V Fault) (fault : Fault) (is_final : V → Type 0) (P : Type 0) → answer ≡ Err fault → IfOk answer (λ v. is_final v → P)
failed_final {V} answer fault is_final P is = subst (λ (a : Result V Fault). IfOk a (λ v. is_final v → P)) (sym is) tt

if_final : {S V O : Type 0} (script : scripts.Ghosts S V) (sink : sinks.Ghosts O) (most : Limits) (bytes left : Option (List ℕ)) (faults now : ℕ) (mid new : Scripted S O) (answer : Result V Fault) (done later : List Piece) (at : End) (P : Type 0)
    → HasEnded (runner_of script sink) at mid new answer → LeavesOf most bytes left faults now done later at
    → (HasFinished script sink mid new answer → LeavesOf most bytes left faults now done later AtEnd → IfOk answer (λ v. script.is_final v → P)) → IfOk answer (λ v. script.is_final v → P)
if_final script sink most bytes left faults now mid new answer done later AtEnd P ended leaves then = then ended leaves
if_final script sink most bytes left faults now mid new answer done later (AtLine piece) P ended leaves then = never_final answer script.is_final P ended.early
if_final script sink most bytes left faults now mid new answer done later AtWait P ended leaves then = failed_final answer WriteFault script.is_final P ended.is
if_final script sink most bytes left faults now mid new answer done later AtFault P ended leaves then = failed_final answer ReadFault script.is_final P ended.is

module _ {S V O L : Type 0} (script : scripts.Ghosts S V) (sink : sinks.Ghosts O) (l : readers.Ghosts L) (lines after : L) (old new : Scripted S O) (answer : Result V Fault) (ran : IsRan (runner_of script sink) l lines after old new answer) where
  pub run_told : (m : S) (before : Option (List ℕ)) → old.script.now ≡ m → Appends before (written_by sink old) (script.fold.head m)
      → IfSome (l.left lines) (λ bytes. IsOutputOf (text_on script.fold (l.limits lines) m) bytes (l.left after) before (written_by sink new) answer)
  run_told m before same grown =
      told_of script sink (l.limits lines) m before old ran.mid new answer ran.done ran.led same grown (l.left lines) (l.left after) ran.later (l.faults lines) (l.faults after) ran.at ran.all ran.ended ran.leaves

  if_ended : (P : Type 0) → (HasFinished script sink ran.mid new answer → LeavesOf (l.limits lines) (l.left lines) (l.left after) (l.faults lines) (l.faults after) ran.done ran.later AtEnd → IfOk answer (λ v. script.is_final v → P))
      → IfOk answer (λ v. script.is_final v → P)
  if_ended P then =
      if_final script sink (l.limits lines) (l.left lines) (l.left after) (l.faults lines) (l.faults after) ran.mid new answer ran.done ran.later ran.at P ran.ended ran.leaves then

  pub run_after : (m : S) (before : Option (List ℕ)) → old.script.now ≡ m → Appends before (written_by sink old) (script.fold.head m)
      → IfOk answer (λ v. script.is_final v → IfSome (l.left lines) (λ bytes. new.script.now ≡ (text_on script.fold (l.limits lines) m bytes).after))
  run_after m before same grown =
      if_ended _ (λ ended leaves. after_of script sink (l.limits lines) m before old ran.mid new answer ran.done ran.led same grown (l.left lines) ran.later ran.all leaves.0 ended.told)

  pub run_leads : (m : S) → old.script.now ≡ m → Stays script → Joins script → IfOk answer (λ v. script.is_final v → script.leads m (l.limits lines).input new.script.now)
  run_leads m same stays joins =
      subst (λ (k : S). IfOk answer (λ v. script.is_final v → script.leads k (l.limits lines).input new.script.now)) same
      (if_ended _
      (λ ended leaves. on_final answer script.is_final _ _ ended.leads
      (λ led. leads_within script.leads stays joins old.script.now (ran.mid).script.now new.script.now (size_of_pieces ran.done) 0 (l.limits lines).input (ran.led).leads led (omega (arith, ran.few)))))
