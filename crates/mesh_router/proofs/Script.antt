-- What is told of a script, one line after another.
use Rattle.std.proofs.Common.{◌≡◌, ℕ, ◌+◌, Bool, List, [], ◌∷◌, ◌++◌, Option, Some, None, Result, refl, sym, ap, subst, ◌∙◌}
use Rattle.std.specs.Prelude.{IfSome, ⊤}
use Rattle.mesh_base.specs.declared.limits.TheConstants.{LONGEST_LINE}
use Rattle.mesh_base.specs.declared.events.Full.{Full as Counter}
use Rattle.mesh_io.specs.NextLines.{schedule_limits}
use Rattle.mesh_io.specs.declared.limits.Limits.{Limits}
use Rattle.mesh_io.specs.declared.sink.Sink as sinks
use Rattle.mesh_link.specs.declared.link.Link as links
use Rattle.mesh_link.specs.Datagrams.{Datagram}
use Rattle.mesh_grammar.specs.declared.fault.LineFault.{LineFault}
use Rattle.mesh_grammar.specs.declared.fault.BadWhy.{BadWhy}
use Rattle.mesh_grammar.specs.declared.fault.BadWhy.TheVariants.{TooLong, TooMuch}
use Rattle.mesh_shell.specs.Pieces.{Piece, Whole, Long, Beyond, pieces_within}
use Rattle.mesh_shell.specs.Scripts.{piece_past}
use Rattle.mesh_shell.specs.Runs.{End, AtEnd, AtLine, AtWait, AtFault, HasEnded, LeavesOf, IsRan}
use Rattle.mesh_shell.specs.declared.limit.Limit.{Limit}
use Rattle.mesh_shell.specs.declared.limit.Limit.TheVariants as limit
use Rattle.mesh_shell.specs.declared.reader.LineReader as readers
use Rattle.mesh_shell.specs.declared.runner.Runner as runners
use Rattle.mesh_grammar.specs.Faults.{bad_line}
use Rattle.mesh_script.specs.Peers.{PeersSeen}
use Rattle.mesh_script.specs.NodeLines.{AcceptedLine, line_of}
use Rattle.mesh_router.specs.declared.status.NodeStatus.{NodeStatus}
use Rattle.mesh_router.specs.declared.status.NodeStatus.TheVariants as status
use Rattle.mesh_router.specs.Logs.{Log, nothing, text_log}
use Rattle.mesh_router.specs.Routers.{RunState, peers_in, is_running, opening_run_state}
use Rattle.mesh_router.specs.Finds.{Find, AreNext, left_after, arrivals, AreFound}
use Rattle.mesh_router.specs.Lines.{LineOutcome, On, Refused, Full, why_past, outcome_of_piece, outcome_of_read, outcome_of_line}
use Rattle.mesh_router.specs.Text.{Run, finished_run, refused_run, overfull_run, run_after, goes_on, run_from, run_of_script, full_line}
use Rattle.mesh_router.specs.Outputs.{Outputs, Adds, AddsPrefix}
use Rattle.mesh_router.specs.Runs.{log_of, IsLineDone, IsLineFull, IsLineInPart}
use Rattle.mesh_router.specs.Output.{IsOutput, IsTold, IsScriptRun}
use Rattle.mesh_router.specs.Routing.{outputs_by, arrived_by, HasLed, HasStopped, HasFinished, IsCut, HasRoomFor}
use Rattle.mesh_router.specs.declared.run.Routing.{Routing}
use Rattle.mesh_router.specs.Joins.{adds-join, found-join, found-none, next-front, next-rest}
use Rattle.mesh_router.proofs.Logging.{prefix-none, prefix-join, prefix-more}
use Rattle.mesh_router.proofs.Finds.{next-self, told-next}

-- ---- one line

run-cons : (m : RunState) (piece : Piece) (pieces : List Piece) (finds : List Find) → run_from m (piece ∷ pieces) finds ≡ goes_on m (outcome_of_piece m piece finds) (λ n left. run_from n pieces left)
unfolding run_from
run-cons m piece pieces finds = refl

run-nil : (m : RunState) (finds : List Find) → run_from m [] finds ≡ finished_run m
unfolding run_from
run-nil m finds = refl

piece-whole : (m : RunState) (bytes : List ℕ) (finds : List Find) → outcome_of_piece m (Whole bytes) finds ≡ outcome_of_read m (line_of (peers_in m.stage) (is_running m.stage) bytes) finds
unfolding outcome_of_piece
piece-whole m bytes finds = refl

piece-long : (m : RunState) (finds : List Find) → outcome_of_piece m Long finds ≡ Refused TooLong
unfolding outcome_of_piece
piece-long m finds = refl

piece-beyond : (m : RunState) (finds : List Find) → outcome_of_piece m Beyond finds ≡ Refused TooMuch
unfolding outcome_of_piece
piece-beyond m finds = refl

-- a line that was read
pub read_line : (m : RunState) (p : PeersSeen) (started : Bool) (bytes : List ℕ) (r : Result AcceptedLine LineFault) → p ≡ peers_in m.stage → started ≡ is_running m.stage → r ≡ line_of p started bytes
    → (finds : List Find) → outcome_of_piece m (Whole bytes) finds ≡ outcome_of_read m r finds
read_line m p started bytes r e f is = λ finds.
    piece-whole m bytes finds ∙ ap (λ (o : Result AcceptedLine LineFault). outcome_of_read m o finds) ((λ i. line_of (sym e i) (sym f i) bytes) ∙ sym is)

pub line_done : (m n : RunState) (piece : Piece) (l : AcceptedLine) (x y : Option (List Datagram)) (a b : Outputs) → ((finds : List Find) → outcome_of_piece m piece finds ≡ outcome_of_line m l finds) → IsLineDone (outcome_of_line m l) n x y a b → IsLineDone (outcome_of_piece m piece) n x y a b
line_done m n piece l x y a b e p = record { found = p.found; taken = p.taken; log = p.log; adds = p.adds; is = λ finds are. e finds ∙ p.is finds are }

-- ---- where the run ends at a line

pub told_refused : (m : RunState) (piece : Piece) (why : BadWhy) (pieces : List Piece) (x : Option (List Datagram)) (a b : Outputs) (s : NodeStatus) → ((finds : List Find) → outcome_of_piece m piece finds ≡ Refused why)
    → IsOutput a b (refused_run m why) s → IsTold (run_from m (piece ∷ pieces)) x x a b s
told_refused m piece why pieces x a b s e p = record {
  found = [];
  taken = found-none x;
  told = λ finds are.
      subst (λ (r : Run). IsOutput a b r s) (sym (run-cons m piece pieces finds ∙ ap (λ (k : LineOutcome). goes_on m k (λ n left. run_from n pieces left)) (e finds))) p;
}

run-full : (m : RunState) (piece : Piece) (l : AcceptedLine) (pieces : List Piece) (finds : List Find) (log : Log) (words : List ℕ) (field : Counter) → ((fs : List Find) → outcome_of_piece m piece fs ≡ outcome_of_line m l fs) → outcome_of_line m l finds ≡ Full log words field
    → run_from m (piece ∷ pieces) finds ≡ overfull_run m log words field
run-full m piece l pieces finds log words field e is =
    run-cons m piece pieces finds ∙ ap (λ (k : LineOutcome). goes_on m k (λ n left. run_from n pieces left)) (e finds ∙ is)

pub told_full : (m : RunState) (piece : Piece) (l : AcceptedLine) (words : List ℕ) (field : Counter) (pieces : List Piece) (x y : Option (List Datagram)) (a b c : Outputs) → ((finds : List Find) → outcome_of_piece m piece finds ≡ outcome_of_line m l finds)
    → IsLineFull (outcome_of_line m l) words field x y a b → Adds b c (text_log (full_line (m.lines + 1) words field)) → IsTold (run_from m (piece ∷ pieces)) x y a c (status.Full (m.lines + 1))
told_full m piece l words field pieces x y a b c e p q = record {
  found = [];
  taken = subst (λ (o : Option (List Datagram)). AreFound x o []) (sym p.same) (found-none x);
  told = λ finds are.
      subst (λ (r : Run). IsOutput a c r (status.Full (m.lines + 1))) (sym (run-full m piece l pieces finds p.log words field e (p.is finds)))
      (refl, adds-join a b c p.log (text_log (full_line (m.lines + 1) words field)) p.adds q);
}

pub told_full_cut : (m : RunState) (piece : Piece) (l : AcceptedLine) (words : List ℕ) (field : Counter) (pieces : List Piece) (x y : Option (List Datagram)) (a b c : Outputs) → ((finds : List Find) → outcome_of_piece m piece finds ≡ outcome_of_line m l finds)
    → IsLineFull (outcome_of_line m l) words field x y a b → AddsPrefix b c (text_log (full_line (m.lines + 1) words field)) → IsTold (run_from m (piece ∷ pieces)) x y a c status.WriteFault
told_full_cut m piece l words field pieces x y a b c e p q = record {
  found = [];
  taken = subst (λ (o : Option (List Datagram)). AreFound x o []) (sym p.same) (found-none x);
  told = λ finds are.
      subst (λ (r : Run). AddsPrefix a c r.log) (sym (run-full m piece l pieces finds p.log words field e (p.is finds)))
      (prefix-join a b c p.log (text_log (full_line (m.lines + 1) words field)) p.adds q);
}

-- a prefix of what a line says is one of what the run says
first_of_run : (m : RunState) (k : LineOutcome) (others : RunState → List Find → Run) (a b : Outputs) → AddsPrefix a b (log_of k) → AddsPrefix a b (goes_on m k others).log
first_of_run m (On log n left) others a b p = prefix-more a b log (others n left).log p
first_of_run m (Refused why) others a b p = prefix-more a b nothing (text_log (bad_line (m.lines + 1) why)) p
first_of_run m (Full log words field) others a b p = prefix-more a b log (text_log (full_line (m.lines + 1) words field)) p

pub told_in_part : (m : RunState) (piece : Piece) (l : AcceptedLine) (pieces : List Piece) (x y : Option (List Datagram)) (a b : Outputs) (s : NodeStatus) → ((finds : List Find) → outcome_of_piece m piece finds ≡ outcome_of_line m l finds)
    → ((r : Run) → AddsPrefix a b r.log → IsOutput a b r s) → IsLineInPart (outcome_of_line m l) x y a b → IsTold (run_from m (piece ∷ pieces)) x y a b s
told_in_part m piece l pieces x y a b s e cut p = record {
  found = p.found;
  taken = p.taken;
  told = λ finds are.
      let k = outcome_of_piece m piece finds in
      subst (λ (r : Run). IsOutput a b r s) (sym (run-cons m piece pieces finds))
      (cut (goes_on m k (λ n left. run_from n pieces left)) (first_of_run m k (λ n left. run_from n pieces left) a b
      (subst (λ (o : LineOutcome). AddsPrefix a b (log_of o)) (sym (e finds)) (p.told finds are))));
}

-- ---- one line after another

output_after : (a b c : Outputs) (log : Log) (r : Run) (s : NodeStatus) → Adds a b log → IsOutput b c r s → IsOutput a c (run_after log r) s
output_after a b c log r status.Done p q = (q.0, adds-join a b c log r.log p q.1)
output_after a b c log r status.Usage p q = q
output_after a b c log r (status.BadLine n) p q = (q.0, adds-join a b c log r.log p q.1)
output_after a b c log r (status.Full n) p q = (q.0, adds-join a b c log r.log p q.1)
output_after a b c log r status.ReadFault p q = prefix-join a b c log r.log p q
output_after a b c log r status.WriteFault p q = prefix-join a b c log r.log p q
output_after a b c log r status.NoMemory p q = prefix-join a b c log r.log p q
output_after a b c log r status.LinkFault p q = prefix-join a b c log r.log p q

-- what a line that was done does, whatever lines come after it
pub line_goes : (m n : RunState) (piece : Piece) (x y : Option (List Datagram)) (a b : Outputs) (p : IsLineDone (outcome_of_piece m piece) n x y a b) (others : List Piece) (finds : List Find) → AreNext finds p.found
    → run_from m (piece ∷ others) finds ≡ run_after p.log (run_from n others (left_after finds p.found))
line_goes m n piece x y a b p others finds are = run-cons m piece others finds ∙ ap (λ (k : LineOutcome). goes_on m k (λ t fs. run_from t others fs)) (p.is finds are)

-- ---- where the run ends

pub told_end : (m : RunState) (x : Option (List Datagram)) (a b : Outputs) (s : NodeStatus) → IsOutput a b (finished_run m) s → IsTold (run_from m []) x x a b s
told_end m x a b s p = record { found = []; taken = found-none x; told = λ finds are. subst (λ (r : Run). IsOutput a b r s) (sym (run-nil m finds)) p }

pub told_past : (m : RunState) (limit : Limit) (x : Option (List Datagram)) (a b : Outputs) (s : NodeStatus) → IsOutput a b (refused_run m (why_past limit)) s → (others : List Piece) → IsTold (run_from m (piece_past limit ∷ others)) x x a b s
told_past m limit.Line x a b s p = λ others. told_refused m Long TooLong others x a b s (piece-long m) p
told_past m limit.Input x a b s p = λ others. told_refused m Beyond TooMuch others x a b s (piece-beyond m) p

-- nothing more was told
told_cut : (m : RunState) (later : List Piece) (x : Option (List Datagram)) (a : Outputs) → IsTold (run_from m later) x x a a status.ReadFault
told_cut m later x a = record { found = []; taken = found-none x; told = λ finds are. prefix-none a (run_from m later finds).log }

-- ---- a run

-- the lines of a script, as they are run
abbrev pub runner_of : {O L : Type 0} → sinks.Ghosts O → links.Ghosts L → runners.Ghosts (Routing O L) NodeStatus
runner_of sink link = record {
  leads = HasLed sink link;
  stops = HasStopped sink link;
  ends = HasFinished sink link;
  breaks = λ old new answer. ⊥;
  cuts = IsCut;
  has_handed_on = λ r. ⊤;
  has_room = HasRoomFor link;
  longest = LONGEST_LINE;
}

-- what is told of lines, after others that were done
told_after : {O L : Type 0} (sink : sinks.Ghosts O) (link : links.Ghosts L) (a b : Routing O L) (lines later : List Piece) (z : Option (List Datagram)) (c : Outputs) (s : NodeStatus) → HasLed sink link a lines b
    → IsTold (run_from b.at.now later) (arrived_by link b) z (outputs_by sink link b) c s → IsTold (run_from a.at.now (lines ++ later)) (arrived_by link a) z (outputs_by sink link a) c s
told_after sink link a b lines later z c s p q = record {
  found = p.found ++ q.found;
  taken = found-join (arrived_by link a) (arrived_by link b) z p.found q.found p.taken q.taken;
  told = λ finds are.
      let left = left_after finds p.found in
      subst (λ (r : Run). IsOutput (outputs_by sink link a) c r s) (sym (p.goes later finds (next-front finds p.found q.found are)))
      (output_after (outputs_by sink link a) (outputs_by sink link b) c p.log (run_from b.at.now later left) s p.adds (q.told left (next-rest finds p.found q.found are)));
}

told_at : {O L : Type 0} (sink : sinks.Ghosts O) (link : links.Ghosts L) (mid new : Routing O L) (answer : NodeStatus) (most : Limits) (bytes left : Option (List ℕ)) (faults now : ℕ) (done later : List Piece) (at : End)
    → HasEnded (runner_of sink link) at mid new answer → LeavesOf most bytes left faults now done later at → IsTold (run_from mid.at.now later) (arrived_by link mid) (arrived_by link new) (outputs_by sink link mid) (outputs_by sink link new) answer
told_at sink link mid new answer most bytes left faults now done later AtEnd ended leaves =
    subst (λ (ps : List Piece). IsTold (run_from mid.at.now ps) (arrived_by link mid) (arrived_by link new) (outputs_by sink link mid) (outputs_by sink link new) answer) (sym leaves.0) ended.told
told_at sink link mid new answer most bytes left faults now done later (AtLine piece) ended leaves =
    subst (λ (ps : List Piece). IsTold (run_from mid.at.now ps) (arrived_by link mid) (arrived_by link new) (outputs_by sink link mid) (outputs_by sink link new) answer) (sym (leaves.0).1) (ended.told (leaves.0).0)
told_at sink link mid new answer most bytes left faults now done later AtWait ended leaves = absurd ended
told_at {O} {L} sink link mid new answer most bytes left faults now done later AtFault ended leaves =
    subst (λ (s : NodeStatus). IsTold (run_from mid.at.now later) (arrived_by link mid) (arrived_by link new) (outputs_by sink link mid) (outputs_by sink link new) s) (sym ended.is)
    (subst (λ (r : Routing O L). IsTold (run_from mid.at.now later) (arrived_by link mid) (arrived_by link r) (outputs_by sink link mid) (outputs_by sink link r) status.ReadFault) (sym ended.same)
    (told_cut mid.at.now later (arrived_by link mid) (outputs_by sink link mid)))

-- the finds of a whole run
script_run : (script : List ℕ) (x z : Option (List Datagram)) (a c : Outputs) (s : NodeStatus) → IsTold (run_of_script script) x z a c s → IsScriptRun script x a c s
script_run script None z a c s p = record { finds = p.found; arrivals_are = tt; output = p.told p.found (next-self p.found) }
script_run script (Some ds) z a c s p = record { finds = arrivals ds; arrivals_are = refl; output = p.told (arrivals ds) (told-next ds z p.found p.taken) }

pub route_told : {O L R : Type 0} (sink : sinks.Ghosts O) (link : links.Ghosts L) (reader : readers.Ghosts R) (lines after : R) (old new : Routing O L) (answer : NodeStatus) → IsRan (runner_of sink link) reader lines after old new answer
    → reader.limits lines ≡ schedule_limits → old.at.now ≡ opening_run_state → IfSome (reader.left lines) (λ script. IsScriptRun script (arrived_by link old) (outputs_by sink link old) (outputs_by sink link new) answer)
unfolding run_of_script
route_told {O} {L} sink link reader lines after old new answer ran most opening = by_bytes (reader.left lines) ran.all
  where
    told : IsTold (run_from old.at.now (ran.done ++ ran.later)) (arrived_by link old) (arrived_by link new) (outputs_by sink link old) (outputs_by sink link new) answer
    told =
        told_after sink link old ran.mid ran.done ran.later (arrived_by link new) (outputs_by sink link new) answer ran.led
        (told_at sink link ran.mid new answer (reader.limits lines) (reader.left lines) (reader.left after) (reader.faults lines) (reader.faults after) ran.done ran.later ran.at ran.ended ran.leaves)

    by_bytes : (bytes : Option (List ℕ)) → IfSome bytes (λ b. pieces_within (reader.limits lines) b ≡ ran.done ++ ran.later) → IfSome bytes (λ script. IsScriptRun script (arrived_by link old) (outputs_by sink link old) (outputs_by sink link new) answer)
    by_bytes None all = tt
    by_bytes (Some script) all =
        script_run script (arrived_by link old) (arrived_by link new) (outputs_by sink link old) (outputs_by sink link new) answer
        (subst (λ (m : RunState). IsTold (run_from m (pieces_within schedule_limits script)) (arrived_by link old) (arrived_by link new) (outputs_by sink link old) (outputs_by sink link new) answer) opening
        (subst (λ (ps : List Piece). IsTold (run_from old.at.now ps) (arrived_by link old) (arrived_by link new) (outputs_by sink link old) (outputs_by sink link new) answer) (sym all ∙ ap (λ (l : Limits). pieces_within l script) most) told))
