-- Runs that end at no line that is refused.
use Rattle.std.proofs.Common.{◌≡◌, ◌≢◌, ℕ, ◌≤◌, Bool, true, false, eqb, List, [], ◌∷◌, ◌++◌, Ok, length, refl, sym, ap, subst, ◌∙◌, arith, append_assoc, is_some}
use Rattle.std.proofs.lemmas.List.Splits.{length-slice_split}
use Rattle.mesh_base.specs.Parts.{parts}
use Rattle.mesh_base.specs.Meshes.{Nodes}
use Rattle.mesh_base.proofs.WrittenForms.{parts_at}
use Rattle.mesh_io.specs.NextLines.{schedule_limits}
use Rattle.mesh_shell.specs.Pieces.{Piece, Whole, piece_of, pieces_of}
use Rattle.mesh_shell.specs.Fold as shell
use Rattle.mesh_shell.proofs.Pieces.{piece_short}
use Rattle.mesh_grammar.specs.Written.{line}
use Rattle.mesh_model.specs.Worlds as worlds
use Rattle.mesh_model.specs.Worlds.{Event, Outcome, Idle, Next}
use Rattle.mesh_text.specs.declared.verdict.Verdict.TheVariants.{RefusedAt}
use Rattle.mesh_text.specs.Schedule.{RunState, AcceptedLine, Nothing, NewNode, Does, Chooses, ShowsNode, ShowsRoute, ShowsFlight, line_of, with_world, outcome_at, next_state}
use Rattle.mesh_text.specs.Ranges.{IsInTime}
use Rattle.mesh_text.specs.Auto as auto
use Rattle.mesh_text.specs.Text.{LineOutcome, On, Refused, Full, outcome_by_events, outcome_of_auto, outcome_of_line, outcome_of_read, outcome_of_piece, RunText, goes_on, text_from}
use Rattle.mesh_text.proofs.Seams.{first_piece as more_pieces}
use Rattle.mesh_make.proofs.Texts.{IsShort, short_lacks}

-- the run of a text from a state on
abbrev pub run_of : RunState → List ℕ → RunText
run_of m text = text_from m (pieces_of schedule_limits false (parts 10 text))

-- no line was refused
pub record IsSafe (w : RunText) : Type 0 where
  pub never : (n : ℕ) → w.verdict ≢ RefusedAt n

-- a line wasn't refused, and P holds of the next state
unfoldable pub Fine : (RunState → Type 0) → LineOutcome → Type 0
Fine P (On text n) = P n
Fine P (Refused why) = ⊥
Fine P (Full text at e field) = Unit {0}

-- ---- lines that leave the mesh as it is

module _ (mesh : Nodes) where
  -- the state has this mesh
  abbrev pub Has : RunState → Type 0
  Has m = m.mesh ≡ mesh

  HasRan : auto.EventsOutcome → Type 0
  HasRan (auto.Ended text n) = Has n
  HasRan (auto.Full text at e field) = Unit {0}

  before_has : (text : List ℕ) (r : auto.EventsOutcome) → HasRan r → HasRan (auto.before text r)
  unfolding HasRan
  before_has text (auto.Ended others n) is = is
  before_has text (auto.Full others at e field) is = tt

  done_has : (m : RunState) (e : Event) (o : Outcome) (others : RunState → auto.EventsOutcome) → HasRan (others (next_state m e)) → HasRan (auto.done_then m e o others)
  unfolding HasRan
  done_has m e Idle others is = before_has _ (others (next_state m e)) is
  done_has m e (worlds.Full x field) others is = tt
  done_has m e (Next w world_effect) others is = before_has _ (others (next_state m e)) is

  stepped_has : (m : RunState) (e : Event) → Has m → Has (next_state m e)
  unfolding next_state
  stepped_has m e is = is

  events_have : (m : RunState) (es : List Event) → Has m → HasRan (auto.outcome_of_events m es)
  unfolding HasRan auto.outcome_of_events
  events_have m [] is = is
  events_have m (e ∷ es) is = done_has m e (outcome_at m e) (λ n. auto.outcome_of_events n es) (events_have (next_state m e) es (stepped_has m e is))

  events_fine : (r : auto.EventsOutcome) → HasRan r → Fine Has (outcome_by_events r)
  unfolding Fine HasRan
  events_fine (auto.Ended text n) is = is
  events_fine (auto.Full text at e field) is = tt

  auto_fine : (text : List ℕ) (did : ℕ) (r : auto.EventsOutcome) → HasRan r → Fine Has (outcome_of_auto text did r)
  unfolding Fine HasRan
  auto_fine text did (auto.Ended others n) is = is
  auto_fine text did (auto.Full others at e field) is = tt

  -- a line that may come at any time is no `node` line
  pub line_fine : (m : RunState) (a : AcceptedLine) → ((early : Bool) → IsInTime early a) → Has m → Fine Has (outcome_of_line m a)
  unfolding Fine outcome_of_line
  line_fine m Nothing later is = is
  line_fine m (NewNode address first) later is = absurd (let clash : true ≡ false = later true in let Q : ⊥ = cc in Q)
  line_fine m (Does e) later is = events_fine (auto.outcome_of_events (with_world m) (e ∷ [])) (events_have (with_world m) (e ∷ []) is)
  line_fine m (Chooses count) later is =
      let chosen : List Event = auto.events_chosen count (with_world m) in
      auto_fine _ (length chosen) (auto.outcome_of_events (with_world m) chosen) (events_have (with_world m) chosen is)
  line_fine m (ShowsNode x) later is = is
  line_fine m (ShowsRoute x d) later is = is
  line_fine m ShowsFlight later is = is

-- ---- one line and the rest of a text

first_piece : (m : RunState) (piece : Piece) (pieces : List Piece) → text_from m (piece ∷ pieces) ≡ goes_on m (outcome_of_piece m piece) (λ n. text_from n pieces)
unfolding shell.text_from
first_piece m piece pieces = refl

pub after_line : (m : RunState) (words rest : List ℕ) → IsShort 38 words → run_of m (line words ++ rest) ≡ goes_on m (outcome_of_piece m (Whole words)) (λ n. run_of n rest)
after_line m words rest short =
    let cut : parts 10 (line words ++ rest) ≡ words ∷ parts 10 rest = ap (parts 10) (append_assoc words (10 ∷ []) rest) ∙ parts_at 10 words rest (short_lacks 38 words short) in
    let few : length words ≤ 600 = omega (arith, short.within) in
    let whole : piece_of schedule_limits words ≡ Whole words = piece_short schedule_limits words few in
    ap (λ ps. text_from m (pieces_of schedule_limits false ps)) cut
    ∙ ap (text_from m) (more_pieces words (parts 10 rest) (omega (arith, length-slice_split (λ b. eqb b 10) rest)))
    ∙ ap (λ piece. text_from m (piece ∷ pieces_of schedule_limits false (parts 10 rest))) whole
    ∙ first_piece m (Whole words) (pieces_of schedule_limits false (parts 10 rest))

goes_safe : (P : RunState → Type 0) (m : RunState) (c : LineOutcome) (others : RunState → RunText) → Fine P c → ((n : RunState) → P n → IsSafe (others n)) → IsSafe (goes_on m c others)
unfolding Fine
goes_safe P m (On text n) others fine rest = record { never = (rest n fine).never }
goes_safe P m (Refused why) others fine rest = absurd fine
goes_safe P m (Full text at e field) others fine rest = record { never = λ n e. let Q : ⊥ = cc in Q }

came_fine : (P : RunState → Type 0) (m : RunState) (words : List ℕ) (a : AcceptedLine) → line_of m.mesh (is_some m.world) words ≡ Ok a → Fine P (outcome_of_line m a) → Fine P (outcome_of_piece m (Whole words))
unfolding outcome_of_piece
came_fine P m words a parses fine = subst (λ r. Fine P (outcome_of_read m r)) (sym parses) fine

pub line_safe : (P : RunState → Type 0) (m : RunState) (words rest : List ℕ) (a : AcceptedLine) → IsShort 38 words → line_of m.mesh (is_some m.world) words ≡ Ok a
    → Fine P (outcome_of_line m a) → ((n : RunState) → P n → IsSafe (run_of n rest)) → IsSafe (run_of m (line words ++ rest))
line_safe P m words rest a short parses fine others =
    subst IsSafe (sym (after_line m words rest short)) (goes_safe P m (outcome_of_piece m (Whole words)) (λ n. run_of n rest) (came_fine P m words a parses fine) others)
