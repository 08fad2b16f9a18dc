-- The text of a watched run is read to its last line.
use Rattle.std.proofs.Common.{◌≡◌, ℕ, ◌+◌, ◌≤◌, List, [], ◌∷◌, ◌++◌, Option, Some, None, Result, Ok, Err, length, length-append, is_some, refl, sym, ap, subst, ◌∙◌, arith}
use Rattle.std.specs.List.{AllByRecursion}
use Rattle.mesh_base.specs.declared.limits.TheConstants.{LONGEST_LINE}
use Rattle.mesh_base.specs.Meshes.{Nodes}
use Rattle.mesh_grammar.specs.Commands.{greatest_id}
use Rattle.mesh_grammar.specs.Written.{line}
use Rattle.mesh_grammar.specs.declared.fault.LineFault.{LineFault}
use Rattle.mesh_io.specs.declared.limits.TheConstants.{LONGEST_TEXT}
use Rattle.mesh_io.specs.NextLines.{text_limits}
use Rattle.mesh_model.specs.Worlds.{Event, start}
use Rattle.mesh_shell.specs.Pieces.{Piece, Whole, Long, Beyond}
use Rattle.mesh_shell.specs.Fold as shell
use Rattle.mesh_shell.specs.Fold.{whole}
use Rattle.mesh_text.specs.Auto.{EventsOutcome, Ended, Full as EventsFull, before, events_chosen}
use Rattle.mesh_text.specs.Effects.{outcome_lines}
use Rattle.mesh_text.specs.Ranges.{IsInRange, IsInTime}
use Rattle.mesh_text.specs.Runs.{events_of_line, events_read, events_of_piece, events_after, events_from, events_of_input, mesh_of_input}
use Rattle.mesh_text.specs.Schedule.{RunState, AcceptedLine, Nothing, NewNode, Does, Chooses, ShowsNode, ShowsRoute, ShowsFlight, line_of, opening, outcome_at, next_state, with_world}
use Rattle.mesh_text.specs.Text.{LineOutcome, On, Refused, Full, outcome_of_line, outcome_of_piece, pieces_of_input, RunText, goes_on, text_from}
use Rattle.mesh_text.proofs.InRange.{Allowed, line_allowed}
use Rattle.mesh_text.proofs.RunStates.{IsKept, IsKeptCame, opening_kept, piece_kept}
use Rattle.mesh_text.proofs.RunLaws.{GoesBy, piece_goes, follows}
use Rattle.mesh_text.proofs.LineLaws.{chosen_few}
use Rattle.mesh_blocks.specs.declared.below.Below.TheVariants.{Blocks}
use Rattle.mesh_blocks.specs.Blocks.{changed_by, shown_if, block_below}
use Rattle.mesh_blocks.specs.Text.{watched_events, watched_line, watched_read, watched_piece, watched_from, watched_of_input}
use Rattle.mesh_blocks.proofs.SameRun.{bare, bare_piece, watched_run_is_the_run}
use Rattle.mesh_lines.specs.declared.below.Below.{Below}
use Rattle.mesh_lines.specs.declared.below.Below.TheVariants as below
use Rattle.mesh_capture.specs.Laws.{WatchedRunIsCaptured}
use Rattle.mesh_capture.specs.Runs.{frames_from, frames_of_input}
use Rattle.mesh_capture.proofs.Captured.{captured, text_short}
use Rattle.mesh_capture.proofs.EventLists.{reading_at, ReadsTo, to_none, to_append, frames_of, RanTold, done_told, same_steady}
use Rattle.mesh_capture.proofs.RunLines.{LineTold, block_told, by_events, by_choice, fresh_steady, line_told, started_steady}
use Rattle.mesh_capture.proofs.Spans.{fault_near}
use Rattle.mesh_capture.proofs.Steady.{IsSteady, later_steady, AllSpeak, one_speaks, chosen_speak, stepped_steady}
use Rattle.mesh_capture.proofs.Told.{flight_told}
use Rattle.mesh_capture.proofs.WholeRuns.{IsShort, TextTold, then_told, input_short}
use Rattle.mesh_capture.proofs.WholeRuns as runs

-- ---- events with their blocks

-- what stands below an event: a node, if the event has changed one
block_read : (k : ℕ) (n : RunState) (changed : Option ℕ) (b : Below) → k ≤ LONGEST_TEXT → IsSteady k n → (c : Below) × ReadsTo n b (shown_if n changed) [] n c
unfolding outcome_of_line
block_read k n None b short is = (b, to_none n b)
block_read k n (Some x) b short is = (below.Node, block_told k n x b short is)

below_read : (k : ℕ) (m : RunState) (e : Event) (b : Below) → k ≤ LONGEST_TEXT → IsSteady k (next_state m e) → (c : Below) × ReadsTo (next_state m e) b (block_below m e) [] (next_state m e) c
unfolding block_below
below_read k m e b short is = block_read k (next_state m e) (changed_by e (outcome_at m e)) b short is

-- a block before other events
block_before : (k : ℕ) (n : RunState) (block : List ℕ) (es : List Event) (r : EventsOutcome) → ((b : Below) → k ≤ LONGEST_TEXT → (c : Below) × ReadsTo n b block [] n c) → RanTold (k + length block) n es r → RanTold k n es (before block r)
unfolding RanTold
block_before k n block es (Ended others o) told more = λ b fits.
    let all = length-append block others in
    let first = told b (omega arith) in
    let rest = more first.0 (omega arith) in
    let sum : k + length block + length others ≡ k + length (block ++ others) = omega arith in
    (rest.0, to_append n n o b first.0 rest.0 block others [] (frames_of n es) first.1 rest.1, subst (λ j. IsSteady j o) sum rest.2, rest.3)
block_before k n block es (EventsFull others o f field) told more = λ b fits.
    let all = length-append block others in
    let first = told b (omega arith) in
    let rest = more first.0 (omega arith) in
    let sum : k + length block + length others ≡ k + length (block ++ others) = omega arith in
    (rest.0, to_append n n o b first.0 rest.0 block others [] (frames_of n es) first.1 rest.1, subst (λ j. IsSteady j o) sum rest.2, rest.3, rest.4)

watched_told : (k : ℕ) (m : RunState) (es : List Event) → AllSpeak m es → IsSteady k m → RanTold k m es (watched_events Blocks m es)
unfolding RanTold AllSpeak watched_events frames_from
watched_told k m [] speak is = λ b fits. (b, to_none m b, same_steady k m is, record { mesh = refl; lines = refl })
watched_told k m (e ∷ es) speak is =
    let n : RunState = next_state m e in
    let j : ℕ = k + length (outcome_lines m.mesh e (outcome_at m e)) in
    done_told k m e es (outcome_at m e) (λ n. before (block_below m e) (watched_events Blocks n es)) refl speak.0 speak.1 is
    (λ range.
    let steady : IsSteady j n = stepped_steady k m e range is in
    block_before j n (block_below m e) es (watched_events Blocks n es) (λ b short. below_read j m e b short steady)
    (watched_told (j + length (block_below m e)) n es speak.2 (later_steady j (j + length (block_below m e)) n (omega arith) steady)))

-- ---- one line

watched_line_told : (k : ℕ) (m : RunState) (a : AcceptedLine) → IsInRange m.mesh a → IsInTime (is_some m.world) a → IsKeptCame (watched_line Blocks m a) → IsSteady k m → LineTold k m (events_of_line m a) (watched_line Blocks m a)
unfolding watched_line
watched_line_told k m Nothing range early kept is = line_told k m Nothing range early kept is
watched_line_told k m (NewNode address first) range early kept is = line_told k m (NewNode address first) range early kept is
watched_line_told k m (Does e) range early kept is =
    by_events k m (e ∷ []) (watched_events Blocks (with_world m) (e ∷ [])) (watched_told k (with_world m) (e ∷ []) (one_speaks (with_world m) e range) (started_steady k m is))
watched_line_told k m (Chooses count) range early kept is =
    let chosen : List Event = events_chosen count (with_world m) in
    by_choice k m count chosen (watched_events Blocks (with_world m) chosen) range.1 range.2 (chosen_few count (with_world m)) is
    (λ j le. watched_told j (with_world m) chosen (chosen_speak count (with_world m) range.0 (started_steady k m is).kept) (later_steady k j (with_world m) le (started_steady k m is)))
watched_line_told k m (ShowsNode x) range early kept is = line_told k m (ShowsNode x) range early kept is
watched_line_told k m (ShowsRoute x d) range early kept is = line_told k m (ShowsRoute x d) range early kept is
watched_line_told k m ShowsFlight range early kept is = line_told k m ShowsFlight range early kept is

watched_read_told : (k : ℕ) (m : RunState) (bytes : List ℕ) (r : Result AcceptedLine LineFault) → line_of m.mesh (is_some m.world) bytes ≡ r → Allowed m.mesh (is_some m.world) r
    → length bytes ≤ LONGEST_LINE → IsKeptCame (watched_read Blocks m r) → IsSteady k m → LineTold k m (events_read m r) (watched_read Blocks m r)
unfolding Allowed LineTold
watched_read_told k m bytes (Ok a) same allowed short kept is = watched_line_told k m a allowed.0 allowed.1 kept is
watched_read_told k m bytes (Err f) same allowed short kept is = fault_near greatest_id m.mesh (is_some m.world) bytes f (omega arith) same

watched_piece_told : (k : ℕ) (m : RunState) (piece : Piece) → IsShort piece → IsKeptCame (watched_piece Blocks m piece) → IsSteady k m → LineTold k m (events_of_piece m piece) (watched_piece Blocks m piece)
unfolding LineTold watched_piece outcome_of_piece
watched_piece_told k m (Whole line) short kept is =
    watched_read_told k m line (line_of m.mesh (is_some m.world) line) refl (line_allowed m.mesh (is_some m.world) line is.kept.mesh.few) short kept is
watched_piece_told k m Long short kept is = tt
watched_piece_told k m Beyond short kept is = tt

-- ---- but for its text a line comes to what it comes to in the run

bare_kept : (o : LineOutcome) → IsKeptCame o → IsKeptCame (bare o)
unfolding IsKeptCame
bare_kept (On text n) is = is
bare_kept (Refused why) is = tt
bare_kept (Full text n e field) is = tt

kept_of_bare : (o : LineOutcome) → IsKeptCame (bare o) → IsKeptCame o
unfolding IsKeptCame
kept_of_bare (On text n) is = is
kept_of_bare (Refused why) is = tt
kept_of_bare (Full text n e field) is = tt

bare_goes : (m : RunState) (es : List Event) (o : LineOutcome) → GoesBy m es o → GoesBy m es (bare o)
unfolding GoesBy
bare_goes m es (On text n) goes = goes
bare_goes m es (Refused why) goes = goes
bare_goes m es (Full text n e field) goes = tt

goes_of_bare : (m : RunState) (es : List Event) (o : LineOutcome) → GoesBy m es (bare o) → GoesBy m es o
unfolding GoesBy
goes_of_bare m es (On text n) goes = goes
goes_of_bare m es (Refused why) goes = goes
goes_of_bare m es (Full text n e field) goes = tt

watched_kept : (m : RunState) (piece : Piece) → IsKept m → IsKeptCame (watched_piece Blocks m piece)
watched_kept m piece is = kept_of_bare (watched_piece Blocks m piece) (subst IsKeptCame (sym (bare_piece Blocks m piece)) (bare_kept (outcome_of_piece m piece) (piece_kept m piece is)))

watched_goes : (m : RunState) (piece : Piece) → IsKept m → GoesBy m (events_of_piece m piece) (watched_piece Blocks m piece)
watched_goes m piece is =
    let es : List Event = events_of_piece m piece in
    goes_of_bare m es (watched_piece Blocks m piece) (subst (GoesBy m es) (sym (bare_piece Blocks m piece)) (bare_goes m es (outcome_of_piece m piece) (piece_goes m piece is)))

-- ---- all lines

bare_after : (m : RunState) (o : LineOutcome) (f : RunState → RunText) → (goes_on m o f).after ≡ (goes_on m (bare o) f).after
bare_after m (On text n) f = refl
bare_after m (Refused why) f = refl
bare_after m (Full text n e field) f = refl

both_after : (m : RunState) (o : LineOutcome) (f g : RunState → RunText) → ((n : RunState) → (f n).after ≡ (g n).after) → (goes_on m o f).after ≡ (goes_on m o g).after
both_after m (On text n) f g same = same n
both_after m (Refused why) f g same = refl
both_after m (Full text n e field) f g same = refl

same_after : (m : RunState) (pieces : List Piece) → (watched_from Blocks m pieces).after ≡ (text_from m pieces).after
unfolding shell.text_from
same_after m [] = refl
same_after m (piece ∷ pieces) =
    bare_after m (watched_piece Blocks m piece) (λ n. watched_from Blocks n pieces) ∙ ap (λ o. (goes_on m o (λ n. watched_from Blocks n pieces)).after) (bare_piece Blocks m piece)
    ∙ sym (bare_after m (outcome_of_piece m piece) (λ n. watched_from Blocks n pieces))
    ∙ both_after m (outcome_of_piece m piece) (λ n. watched_from Blocks n pieces) (λ n. text_from n pieces) (λ n. same_after n pieces)

bare_events_after : (o : LineOutcome) (more : RunState → List Event) → events_after o more ≡ events_after (bare o) more
bare_events_after (On text n) more = refl
bare_events_after (Refused why) more = refl
bare_events_after (Full text n e field) more = refl

-- the events of the other lines
same_more : (m : RunState) (piece : Piece) (more : RunState → List Event) → events_after (watched_piece Blocks m piece) more ≡ events_after (outcome_of_piece m piece) more
same_more m piece more = bare_events_after (watched_piece Blocks m piece) more ∙ ap (λ o. events_after o more) (bare_piece Blocks m piece) ∙ sym (bare_events_after (outcome_of_piece m piece) more)

watched_run_told : (mesh : Nodes) (k : ℕ) (m : RunState) (b : Below) (pieces : List Piece) → AllByRecursion IsShort pieces → m.lines + length pieces ≤ greatest_id → IsSteady k m → (watched_from Blocks m pieces).after.mesh ≡ mesh
    → k + length (whole (watched_from Blocks m pieces)) ≤ LONGEST_TEXT → TextTold mesh m b (whole (watched_from Blocks m pieces)) (events_from m pieces)
unfolding events_from shell.text_from frames_from
watched_run_told mesh k m b [] short few is here fits = λ j. let last = runs.done_told k m b (omega arith) is j in (reading_at m below.Nothing last.0, last.1)
watched_run_told mesh k m b (piece ∷ pieces) short few is here fits =
    subst (λ more. TextTold mesh m b (whole (watched_from Blocks m (piece ∷ pieces))) (events_of_piece m piece ++ more)) (same_more m piece (λ n. events_from n pieces))
    (then_told mesh k m b (events_of_piece m piece) (watched_piece Blocks m piece) (λ n. watched_from Blocks n pieces) (λ n. events_from n pieces) (omega arith) (watched_goes m piece is.kept) (watched_kept m piece is.kept)
    (watched_piece_told k m piece short.0 (watched_kept m piece is.kept) is) (λ n kept made. ap (λ (m : RunState). m.mesh) (same_after n pieces) ∙ (follows n pieces kept).mesh made)
    (λ j n c lines steady same room. watched_run_told mesh j n c pieces short.1 (omega arith) steady same room) here fits)

-- ---- the law

pub watched_run_is_captured : WatchedRunIsCaptured
unfolding events_of_input watched_of_input shell.text_on flight_told start
watched_run_is_captured variant input within =
    let m : RunState = opening variant in
    let mesh : Nodes = mesh_of_input variant input in
    let steady = fresh_steady 0 m refl (opening_kept variant) (omega arith) in
    let short = input_short input in
    let here : (watched_of_input Blocks variant input).after.mesh ≡ mesh = ap (λ (w : RunText). w.after.mesh) (watched_run_is_the_run Blocks variant input) in
    let told = watched_run_told mesh 0 m below.Nothing (pieces_of_input input) short.0 (omega (arith, short.1)) steady here (omega (arith, text_short text_limits (whole (watched_of_input Blocks variant input)) within)) 0 in
    captured (whole (watched_of_input Blocks variant input)) (frames_of_input variant input) told.0 told.1 within
