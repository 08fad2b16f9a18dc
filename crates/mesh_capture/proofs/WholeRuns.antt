-- The text of a run is read to its last line.
use Rattle.std.proofs.Common.{◌≡◌, ◌⊎◌, inl, inr, ℕ, ◌+◌, ◌≤◌, Bool, true, eqb, leb, ◌&&◌, take, List, [], ◌∷◌, ◌++◌, Result, Ok, Err, length, length-append, is_some, refl, sym, ap, ap₂, ◌∙◌, subst, arith, append_assoc, append-nil}
use Rattle.std.specs.Prelude.{nat_lt}
use Rattle.std.specs.List.{AllByRecursion}
use Rattle.std.specs.Option.{unwrap_or}
use Rattle.std.proofs.lemmas.Bool.{leb-true}
use Rattle.std.proofs.lemmas.List.{length-take}
use Rattle.std.proofs.lemmas.List.Sums.{count_by-le-length}
use Rattle.std.proofs.lemmas.List.Splits.{length-slice_split}
use Rattle.aodv_model.proofs.Entries.{if_case}
use Rattle.mesh_base.specs.declared.events.Full.{Full as Counter}
use Rattle.mesh_base.specs.declared.limits.TheConstants.{LONGEST_LINE, LONGEST_INPUT}
use Rattle.mesh_base.specs.Parts.{parts}
use Rattle.mesh_base.specs.Meshes.{Nodes, IsMesh}
use Rattle.mesh_grammar.specs.Commands.{greatest_id}
use Rattle.mesh_grammar.specs.declared.fault.BadWhy.{BadWhy}
use Rattle.mesh_grammar.specs.declared.fault.LineFault.{LineFault}
use Rattle.mesh_grammar.specs.Faults.{bad_line}
use Rattle.mesh_io.specs.declared.limits.TheConstants.{LONGEST_TEXT}
use Rattle.mesh_io.specs.declared.limits.Limits.{Limits}
use Rattle.mesh_io.specs.NextLines.{text_limits, schedule_limits}
use Rattle.mesh_model.proofs.Lists.{each_map}
use Rattle.mesh_model.specs.Worlds.{World, Event, start, first_numbers, run, after, step}
use Rattle.mesh_model.specs.Accounts.{any, waiting, queued_data, in_flight}
use Rattle.mesh_shell.specs.Pieces.{Piece, Whole, Long, Beyond, piece_of, last_piece, pieces_of}
use Rattle.mesh_shell.specs.Fold as shell
use Rattle.mesh_shell.specs.Fold.{whole}
use Rattle.mesh_shell.proofs.Pieces.{last_few}
use Rattle.mesh_text.specs.Lines.{done_line, full_line}
use Rattle.mesh_text.specs.Runs.{events_read, events_of_piece, events_after, events_from, events_of_input, mesh_of_input}
use Rattle.mesh_text.specs.Schedule.{RunState, opening, AcceptedLine, line_of, world_of}
use Rattle.mesh_text.specs.Text.{LineOutcome, On, Refused, Full, outcome_of_read, outcome_of_piece, pieces_of_input, RunText, goes_on, text_from, text_of_input}
use Rattle.mesh_text.proofs.InRange.{Allowed, line_allowed}
use Rattle.mesh_text.proofs.RunStates.{IsKept, IsKeptCame, opening_kept, piece_kept}
use Rattle.mesh_text.proofs.RunLaws.{base, made_base, Quiet, IsRan, GoesBy, piece_goes, follows}
use Rattle.mesh_lines.specs.declared.below.Below.{Below}
use Rattle.mesh_lines.specs.declared.below.Below.TheVariants as below
use Rattle.mesh_capture.specs.declared.frame.Frame.{Frame}
use Rattle.mesh_capture.specs.Copies.{Reading}
use Rattle.mesh_capture.specs.Laws.{RunIsCaptured}
use Rattle.mesh_capture.specs.Runs.{frames_of_event, frames_from, frames_of_input}
use Rattle.mesh_capture.proofs.Captured.{captured, text_short}
use Rattle.mesh_capture.proofs.EventLists.{reading_at, ReadsTo, frames_of, IsAlong, IsRefused, refused_casts}
use Rattle.mesh_capture.proofs.LastLines.{IsNearWhy, full_reads, bad_reads}
use Rattle.mesh_capture.proofs.Effects.{stand}
use Rattle.mesh_capture.proofs.RunLines.{LineTold, line_told, fresh_steady}
use Rattle.mesh_capture.proofs.Steady.{IsSteady}
use Rattle.mesh_capture.proofs.Spans.{fault_near}
use Rattle.mesh_capture.proofs.Summaries.{summary_reads}
use Rattle.mesh_capture.proofs.Told.{IsTold, told_append, flight_told}

-- ---- one line

-- a line that is read
pub read_told : (k : ℕ) (m : RunState) (started : Bool) (bytes : List ℕ) (r : Result AcceptedLine LineFault) → line_of m.mesh started bytes ≡ r → Allowed m.mesh (is_some m.world) r
    → length bytes ≤ LONGEST_LINE → IsKeptCame (outcome_of_read m r) → IsSteady k m → LineTold k m (events_read m r) (outcome_of_read m r)
unfolding Allowed LineTold IsKeptCame
read_told k m started bytes (Ok a) same allowed short kept is = line_told k m a allowed.0 allowed.1 kept is
read_told k m started bytes (Err f) same allowed short kept is = fault_near greatest_id m.mesh started bytes f (omega arith) same

-- a line is no longer than a line of a schedule
abbrev pub IsShort : Piece → Type 0
IsShort (Whole line) = length line ≤ LONGEST_LINE
IsShort others = Unit {0}

piece_told : (k : ℕ) (m : RunState) (piece : Piece) → IsShort piece → IsKeptCame (outcome_of_piece m piece) → IsSteady k m → LineTold k m (events_of_piece m piece) (outcome_of_piece m piece)
unfolding LineTold outcome_of_piece
piece_told k m (Whole line) short kept is =
    read_told k m (is_some m.world) line (line_of m.mesh (is_some m.world) line) refl (line_allowed m.mesh (is_some m.world) line is.kept.mesh.few) short kept is
piece_told k m Long short kept is = tt
piece_told k m Beyond short kept is = tt

-- ---- the packets of a run

frames_append : (mesh : Nodes) (n : ℕ) (w : World) (xs ys : List Event) → frames_from mesh n w (xs ++ ys) ≡ frames_from mesh n w xs ++ frames_from mesh (n + length xs) (run w xs) ys
unfolding frames_from run
frames_append mesh n w [] ys = let same : n ≡ n + 0 = omega arith in ap (λ k. frames_from mesh k w ys) same
frames_append mesh n w (e ∷ es) ys =
    let next : World = after w (step w e) in
    let sum : n + 1 + length es ≡ n + length (e ∷ es) = omega arith in
    ap (λ fs. frames_of_event mesh n w e ++ fs) (frames_append mesh (n + 1) next es ys ∙ ap (λ k. frames_from mesh (n + 1) next es ++ frames_from mesh k (run next es) ys) sum)
    ∙ sym (append_assoc (frames_of_event mesh n w e) (frames_from mesh (n + 1) next es) (frames_from mesh (n + length (e ∷ es)) (run next es) ys))

-- from a state on, with this mesh at the end
abbrev pub frames_to : Nodes → RunState → List Event → List Frame
frames_to mesh m es = frames_from mesh (m.sums.events + 1) (base m mesh) es

quiet_frames : (mesh : Nodes) (m n : RunState) (es more : List Event) → Quiet m n es → frames_of m es ++ frames_to mesh n more ≡ frames_to mesh m (es ++ more)
unfolding frames_from
quiet_frames mesh m n es more quiet =
    ap (λ l. frames_of m l ++ frames_to mesh n more) quiet.none
    ∙ ap (λ k. frames_from mesh (k + 1) (base n mesh) more) quiet.count
    ∙ ap₂ (λ o v. frames_from mesh (m.sums.events + 1) (unwrap_or o (start v (first_numbers mesh))) more) quiet.world quiet.variant
    ∙ ap (λ l. frames_to mesh m (l ++ more)) (sym quiet.none)

ran_frames : (mesh : Nodes) (m n : RunState) (es more : List Event) → m.mesh ≡ mesh → IsRan m n es → frames_of m es ++ frames_to mesh n more ≡ frames_to mesh m (es ++ more)
ran_frames mesh m n es more here ran =
    let there : base n mesh ≡ run (world_of m) es = made_base n.world (start n.variant (first_numbers mesh)) (start n.variant (first_numbers n.mesh)) ran.made ∙ ran.world in
    let count = ran.count in
    let sum : n.sums.events + 1 ≡ m.sums.events + 1 + length es = omega arith in
    ap₂ (λ w k. frames_of m es ++ frames_from mesh k w more) there sum
    ∙ ap (λ nodes. frames_from nodes (m.sums.events + 1) (world_of m) es ++ frames_from mesh (m.sums.events + 1 + length es) (run (world_of m) es) more) here
    ∙ sym (frames_append mesh (m.sums.events + 1) (world_of m) es more)
    ∙ ap (λ w. frames_from mesh (m.sums.events + 1) w (es ++ more)) (ap (base m) here)

-- ---- the last line

pub done_told : (k : ℕ) (m : RunState) (b : Below) → k ≤ LONGEST_TEXT → IsSteady k m → ReadsTo m b (done_line m) [] m below.Nothing
done_told k m b short is =
    let events = is.events in
    let balanced = is.kept.balanced in
    let ordered = is.kept.ordered in
    summary_reads m.mesh (record { flying = (world_of m).flying; events = m.sums.events; below = b }) m.sums (waiting any (world_of m)) (queued_data any (world_of m)) (in_flight any (world_of m))
    (record {
      events = omega arith;
      idle = omega arith;
      given = omega arith;
      delivered = omega arith;
      waiting = omega arith;
      queued = omega arith;
      flying = omega arith;
      lost = omega arith;
      copied = omega arith;
    })

-- ---- all lines

-- a text from a state on is told, with this mesh at the end
abbrev pub TextTold : Nodes → RunState → Below → List ℕ → List Event → Type 0
TextTold mesh m b text es = (j : ℕ) → (s : Reading) × IsTold (reading_at m b j) text (frames_to mesh m es) s

-- the whole text of a run
abbrev WholeTold : Nodes → RunState → Below → RunText → List Event → Type 0
WholeTold mesh m b w es = TextTold mesh m b (whole w) es

-- the packets of a line's events, and then those of the others. Once there is a world, the mesh
-- stays
pub frames_then : (mesh : Nodes) (m n : RunState) (es more : List Event) → Quiet m n es ⊎ IsRan m n es → (is_some n.world ≡ true → mesh ≡ n.mesh) → frames_of m es ++ frames_to mesh n more ≡ frames_to mesh m (es ++ more)
frames_then mesh m n es more (inl quiet) stays = quiet_frames mesh m n es more quiet
frames_then mesh m n es more (inr ran) stays = ran_frames mesh m n es more (sym (stays ran.made ∙ ran.mesh)) ran

-- the text of a line, and then the rest
pub on_told : (mesh : Nodes) (k : ℕ) (m n : RunState) (b : Below) (es more : List Event) (text rest : List ℕ) → LineTold k m es (On text n) → k + length text ≤ LONGEST_TEXT → frames_of m es ++ frames_to mesh n more ≡ frames_to mesh m (es ++ more)
    → ((c : Below) → IsSteady (k + length text) n → n.lines ≡ m.lines + 1 → TextTold mesh n c rest more) → TextTold mesh m b (text ++ rest) (es ++ more)
unfolding LineTold
on_told mesh k m n b es more text rest told fits frames next =
    let own = told b fits in
    let later = next own.0 own.2 own.3 in
    λ j.
    let one = own.1 j in
    let two = later one.0 in (
      two.0,
      subst (λ fs. IsTold (reading_at m b j) (text ++ rest) fs two.0) frames
          (told_append (reading_at m b j) (reading_at n own.0 one.0) two.0 text rest (frames_of m es) (frames_to mesh n more) one.1 two.1),
    )

-- where a full counter or a line has ended the run
last_frames : (mesh : Nodes) (m : RunState) (es : List Event) → m.mesh ≡ mesh → frames_of m es ++ [] ≡ frames_to mesh m (es ++ [])
last_frames mesh m es here =
    append-nil (frames_of m es) ∙ ap (λ nodes. frames_from nodes (m.sums.events + 1) (base m nodes) es) here ∙ ap (frames_to mesh m) (sym (append-nil es))

no_frames : (mesh : Nodes) (m : RunState) (es : List Event) → es ≡ [] → [] ≡ frames_to mesh m (es ++ [])
unfolding frames_from
no_frames mesh m es none = ap (λ l. frames_to mesh m (l ++ [])) (sym none)

pub refused_near : (k : ℕ) (m : RunState) (es : List Event) (why : BadWhy) → LineTold k m es (Refused why) → IsNearWhy why
unfolding LineTold
refused_near k m es why told = told

pub refused_told : (mesh : Nodes) (m : RunState) (b : Below) (es : List Event) (why : BadWhy) → IsNearWhy why → m.lines + 1 ≤ greatest_id → es ≡ [] → TextTold mesh m b (bad_line (m.lines + 1) why) (es ++ [])
refused_told mesh m b es why near few none j =
    let read = bad_reads m.mesh (stand (world_of m).flying m.sums.events b) (m.lines + 1) why near (omega arith) few j in
    (reading_at m below.Nothing read.0, subst (λ fs. IsTold (reading_at m b j) (bad_line (m.lines + 1) why) fs (reading_at m below.Nothing read.0)) (no_frames mesh m es none) read.1)

full_told : (mesh : Nodes) (m n : RunState) (b c : Below) (es : List Event) (text : List ℕ) (e : Event) (f : Counter) → ReadsTo m b text (frames_of m es) n c → IsAlong m n → IsRefused n e f → IsMesh n.mesh → m.lines + 1 ≤ greatest_id → m.mesh ≡ mesh
    → TextTold mesh m b (text ++ full_line m.mesh (m.lines + 1) e f) (es ++ [])
full_told mesh m n b c es text e f reads along refused is few here j =
    let first = reads j in
    let line : List ℕ = full_line m.mesh (m.lines + 1) e f in
    let read : ReadsTo n c (full_line n.mesh (m.lines + 1) e f) [] n below.Nothing =
    full_reads n.mesh is (stand (world_of n).flying n.sums.events c) (m.lines + 1) e f (refused_casts n e f refused) (omega arith) few in
    let here_read : ReadsTo n c line [] n below.Nothing = subst (λ nodes. ReadsTo n c (full_line nodes (m.lines + 1) e f) [] n below.Nothing) along.mesh read in
    let last = here_read first.0 in (
      reading_at n below.Nothing last.0,
      subst (λ fs. IsTold (reading_at m b j) (text ++ line) fs (reading_at n below.Nothing last.0)) (last_frames mesh m es here)
          (told_append (reading_at m b j) (reading_at n c first.0) (reading_at n below.Nothing last.0) text line (frames_of m es) [] first.1 last.1),
    )

-- the same where a full counter ends the run within a line
pub stopped_told : (mesh : Nodes) (k : ℕ) (m n : RunState) (b : Below) (es : List Event) (text : List ℕ) (e : Event) (f : Counter) → LineTold k m es (Full text n e f) → m.lines + 1 ≤ greatest_id → m.mesh ≡ mesh
    → k + length (text ++ full_line m.mesh (m.lines + 1) e f) ≤ LONGEST_TEXT → TextTold mesh m b (text ++ full_line m.mesh (m.lines + 1) e f) (es ++ [])
unfolding LineTold
stopped_told mesh k m n b es text e f told few here fits =
    let all = length-append text (full_line m.mesh (m.lines + 1) e f) in
    let own = told b (omega arith) in
    full_told mesh m n b own.0 es text e f own.1 own.3 own.4 own.2.kept.mesh few here

pub then_told : (mesh : Nodes) (k : ℕ) (m : RunState) (b : Below) (es : List Event) (o : LineOutcome) (others : RunState → RunText) (more : RunState → List Event) → m.lines + 1 ≤ greatest_id → GoesBy m es o → IsKeptCame o → LineTold k m es o
    → ((n : RunState) → IsKept n → is_some n.world ≡ true → (others n).after.mesh ≡ n.mesh)
    → ((j : ℕ) (n : RunState) (c : Below) → n.lines ≡ m.lines + 1 → IsSteady j n → (others n).after.mesh ≡ mesh → j + length (whole (others n)) ≤ LONGEST_TEXT → WholeTold mesh n c (others n) (more n))
    → (goes_on m o others).after.mesh ≡ mesh → k + length (whole (goes_on m o others)) ≤ LONGEST_TEXT → WholeTold mesh m b (goes_on m o others) (es ++ events_after o more)
unfolding GoesBy IsKeptCame
then_told mesh k m b es (Refused why) others more few goes kept told led rest here fits = refused_told mesh m b es why (refused_near k m es why told) few goes
then_told mesh k m b es (Full text n e field) others more few goes kept told led rest here fits = stopped_told mesh k m n b es text e field told few here fits
then_told mesh k m b es (On text n) others more few goes kept told led rest here fits =
    let w : RunText = others n in
    let whole_is : (text ++ w.lines) ++ w.last ≡ text ++ whole w = append_assoc text w.lines w.last in
    let long : length ((text ++ w.lines) ++ w.last) ≡ length (text ++ whole w) = ap length whole_is in
    let all = length-append text (whole w) in
    subst (λ t. TextTold mesh m b t (es ++ more n)) (sym whole_is)
    (on_told mesh k m n b es (more n) text (whole w) told (omega arith) (frames_then mesh m n es (more n) goes (λ made. sym here ∙ led n kept made))
    (λ c steady lines. rest (k + length text) n c lines steady here (omega arith)))

run_told : (mesh : Nodes) (k : ℕ) (m : RunState) (b : Below) (pieces : List Piece) → AllByRecursion IsShort pieces → m.lines + length pieces ≤ greatest_id → IsSteady k m → (text_from m pieces).after.mesh ≡ mesh
    → k + length (whole (text_from m pieces)) ≤ LONGEST_TEXT → WholeTold mesh m b (text_from m pieces) (events_from m pieces)
unfolding events_from shell.text_from frames_from
run_told mesh k m b [] short few is here fits = λ j. let last = done_told k m b (omega arith) is j in (reading_at m below.Nothing last.0, last.1)
run_told mesh k m b (piece ∷ pieces) short few is here fits =
    then_told mesh k m b (events_of_piece m piece) (outcome_of_piece m piece) (λ n. text_from n pieces) (λ n. events_from n pieces) (omega arith) (piece_goes m piece is.kept) (piece_kept m piece is.kept)
    (piece_told k m piece short.0 (piece_kept m piece is.kept) is) (λ n kept made. (follows n pieces kept).mesh made)
    (λ j n c lines steady same room. run_told mesh j n c pieces short.1 (omega arith) steady same room) here fits

-- ---- the lines of an input

abbrev IsShortOf : Limits → Piece → Type 0
IsShortOf most (Whole line) = length line ≤ most.line
IsShortOf most others = Unit {0}

short_is : (piece : Piece) → IsShortOf schedule_limits piece → IsShort piece
short_is (Whole line) short = short
short_is others short = tt

one_short : (most : Limits) (l : List ℕ) → IsShortOf most (piece_of most l)
one_short most l = if_case (IsShortOf most) (leb (length l) most.line) (Whole l) Long (λ le. leb-true (length l) most.line le) (λ _. tt)

last_short : (most : Limits) (more : Bool) (l : List ℕ) → AllByRecursion (IsShortOf most) (last_piece most more l)
last_short most more [] = if_case (AllByRecursion (IsShortOf most)) more (Beyond ∷ []) [] (λ _. (tt, tt)) (λ _. tt)
last_short most more (b ∷ bs) = (
  if_case (IsShortOf most) (more && leb (length (b ∷ bs)) most.line) Beyond (piece_of most (b ∷ bs)) (λ _. tt) (λ _. one_short most (b ∷ bs)),
  tt,
)

pieces_short : (most : Limits) (more : Bool) (ls : List (List ℕ)) → AllByRecursion (IsShortOf most) (pieces_of most more ls) × (length (pieces_of most more ls) ≤ length ls)
unfolding pieces_of
pieces_short most more [] = (tt, omega arith)
pieces_short most more (l ∷ []) = (last_short most more l, last_few most more l)
pieces_short most more (l ∷ m ∷ ls) = let rest = pieces_short most more (m ∷ ls) in ((one_short most l, rest.0), omega (arith, rest.1))

pub input_short : (input : List ℕ) → AllByRecursion IsShort (pieces_of_input input) × (length (pieces_of_input input) ≤ LONGEST_INPUT + 1)
input_short input =
    let taken : List ℕ = take LONGEST_INPUT input in
    let all = pieces_short schedule_limits (nat_lt LONGEST_INPUT (length input)) (parts 10 taken) in
    let long = length-slice_split (λ (b : ℕ). eqb b 10) taken in
    let count = count_by-le-length (λ (b : ℕ). eqb b 10) taken in
    let size = length-take LONGEST_INPUT input in
    (each_map (IsShortOf schedule_limits) IsShort short_is (pieces_of_input input) all.0, omega (arith, all.1, long, count, size))

-- ---- the law

pub run_is_captured : RunIsCaptured
unfolding events_of_input text_of_input shell.text_on flight_told start
run_is_captured variant input within =
    let m : RunState = opening variant in
    let mesh : Nodes = mesh_of_input variant input in
    let steady = fresh_steady 0 m refl (opening_kept variant) (omega arith) in
    let short = input_short input in
    let told = run_told mesh 0 m below.Nothing (pieces_of_input input) short.0 (omega (arith, short.1)) steady refl (omega (arith, text_short text_limits (whole (text_of_input variant input)) within)) 0 in
    captured (whole (text_of_input variant input)) (frames_of_input variant input) told.0 told.1 within
