-- A watched run differs from the run in its lines alone.
use Rattle.std.proofs.Common.{◌≡◌, ℕ, List, [], ◌∷◌, Result, Ok, Err, length, take, is_some, refl, sym, ap, subst, ◌∙◌}
use Rattle.std.specs.Prelude.{slice_get}
use Rattle.mesh_base.specs.declared.events.Variant.{Variant}
use Rattle.mesh_model.specs.Walks.{Cycle}
use Rattle.mesh_model.specs.Worlds as worlds
use Rattle.mesh_model.specs.Worlds.{Event, Outcome, Idle, Next}
use Rattle.mesh_grammar.specs.declared.fault.LineFault.{LineFault}
use Rattle.mesh_shell.specs.Pieces.{Piece, Whole, Long, Beyond}
use Rattle.mesh_shell.specs.Fold as shell
use Rattle.mesh_grammar.specs.Written.{line}
use Rattle.mesh_text.specs.Schedule.{RunState, AcceptedLine, Nothing, NewNode, Does, Chooses, ShowsNode, ShowsRoute, ShowsFlight, line_of, world_of, with_world, next_state, outcome_at, opening}
use Rattle.mesh_text.specs.Lines.{words_of}
use Rattle.mesh_text.specs.Accounts.{IsBalanced}
use Rattle.mesh_text.specs.Auto.{EventsOutcome, Ended, Full as EventsFull, before, done_then, outcome_of_events, events_chosen}
use Rattle.mesh_text.specs.Text.{pieces_of_input, LineOutcome, On, Refused, Full, outcome_by_events, outcome_of_auto, outcome_of_line, outcome_of_read, outcome_of_piece, RunText, goes_on, text_from, text_on, text_of_input}
use Rattle.mesh_text.specs.Runs.{state_in_next, prefix_of_input}
use Rattle.mesh_text.proofs.RunStates.{data_are_accounted_for as run_is_accounted_for}
use Rattle.mesh_text.proofs.RunStateLaws.{state_is_of_run, state_is_loop_free}
use Rattle.mesh_blocks.specs.declared.below.Below.{Below}
use Rattle.mesh_blocks.specs.Forms.{below_text}
use Rattle.mesh_blocks.specs.Text.{watched_events, watched_line, watched_read, watched_piece, watched_from, watched_on, watched_of_input}
use Rattle.mesh_blocks.specs.RunStates.{watched_prefix, AreDone, state_within, IsOfEvents}
use Rattle.mesh_blocks.specs.Laws.{WatchedRunIsTheRun, StateIsTheRuns, DataAreAccountedFor}

-- ---- what a line comes to, but for its text

abbrev pub bare : LineOutcome → LineOutcome
bare (On text n) = On [] n
bare (Refused why) = Refused why
bare (Full text n e field) = Full [] n e field

abbrev pub bare_events : EventsOutcome → EventsOutcome
bare_events (Ended text n) = Ended [] n
bare_events (EventsFull text n e field) = EventsFull [] n e field

bare_before : (text : List ℕ) (r : EventsOutcome) → bare_events (before text r) ≡ bare_events r
bare_before text (Ended others n) = refl
bare_before text (EventsFull others n e field) = refl

bare_done : (m : RunState) (e : Event) (o : Outcome) (f g : RunState → EventsOutcome) → bare_events (f (next_state m e)) ≡ bare_events (g (next_state m e)) → bare_events (done_then m e o f) ≡ bare_events (done_then m e o g)
bare_done m e Idle f g same = bare_before _ (f (next_state m e)) ∙ same ∙ sym (bare_before _ (g (next_state m e)))
bare_done m e (worlds.Full x field) f g same = refl
bare_done m e (Next w world_effect) f g same = bare_before _ (f (next_state m e)) ∙ same ∙ sym (bare_before _ (g (next_state m e)))

pub bare_watched : (form : Below) (m : RunState) (es : List Event) → bare_events (watched_events form m es) ≡ bare_events (outcome_of_events m es)
unfolding watched_events outcome_of_events
bare_watched form m [] = refl
bare_watched form m (e ∷ es) =
    bare_done m e (outcome_at m e) (λ n. before (below_text form m e) (watched_events form n es)) (λ n. outcome_of_events n es)
    (bare_before (below_text form m e) (watched_events form (next_state m e) es) ∙ bare_watched form (next_state m e) es)

bare_of_events : (r : EventsOutcome) → bare (outcome_by_events r) ≡ bare (outcome_by_events (bare_events r))
bare_of_events (Ended text n) = refl
bare_of_events (EventsFull text n e field) = refl

bare_of_auto : (text : List ℕ) (did : ℕ) (r : EventsOutcome) → bare (outcome_of_auto text did r) ≡ bare (outcome_of_auto [] did (bare_events r))
bare_of_auto text did (Ended others n) = refl
bare_of_auto text did (EventsFull others n e field) = refl

pub bare_line : (form : Below) (m : RunState) (a : AcceptedLine) → bare (watched_line form m a) ≡ bare (outcome_of_line m a)
unfolding watched_line outcome_of_line
bare_line form m Nothing = refl
bare_line form m (NewNode address first) = refl
bare_line form m (Does e) =
    bare_of_events (watched_events form (with_world m) (e ∷ [])) ∙ ap (λ r. bare (outcome_by_events r)) (bare_watched form (with_world m) (e ∷ []))
    ∙ sym (bare_of_events (outcome_of_events (with_world m) (e ∷ [])))
bare_line form m (Chooses count) =
    let text : List ℕ = line (words_of m.mesh (Chooses count)) in
    let chosen : List Event = events_chosen count (with_world m) in
    bare_of_auto text (length chosen) (watched_events form (with_world m) chosen) ∙ ap (λ r. bare (outcome_of_auto [] (length chosen) r)) (bare_watched form (with_world m) chosen)
    ∙ sym (bare_of_auto text (length chosen) (outcome_of_events (with_world m) chosen))
bare_line form m (ShowsNode x) = refl
bare_line form m (ShowsRoute x d) = refl
bare_line form m ShowsFlight = refl

bare_read : (form : Below) (m : RunState) (r : Result AcceptedLine LineFault) → bare (watched_read form m r) ≡ bare (outcome_of_read m r)
bare_read form m (Ok a) = bare_line form m a
bare_read form m (Err fault) = refl

pub bare_piece : (form : Below) (m : RunState) (piece : Piece) → bare (watched_piece form m piece) ≡ bare (outcome_of_piece m piece)
unfolding watched_piece outcome_of_piece
bare_piece form m (Whole bytes) = bare_read form m (line_of m.mesh (is_some m.world) bytes)
bare_piece form m Long = refl
bare_piece form m Beyond = refl

-- ---- a run, but for its lines

abbrev bare_run : RunText → RunText
bare_run w = record w { lines = [] }

bare_goes : (m : RunState) (k : LineOutcome) (f : RunState → RunText) → bare_run (goes_on m k f) ≡ bare_run (goes_on m (bare k) f)
bare_goes m (On text n) f = refl
bare_goes m (Refused why) f = refl
bare_goes m (Full text n e field) f = refl

bare_both : (m : RunState) (k : LineOutcome) (f g : RunState → RunText) → ((n : RunState) → bare_run (f n) ≡ bare_run (g n)) → bare_run (goes_on m k f) ≡ bare_run (goes_on m k g)
bare_both m (On text n) f g same = same n
bare_both m (Refused why) f g same = refl
bare_both m (Full text n e field) f g same = refl

bare_from : (form : Below) (m : RunState) (pieces : List Piece) → bare_run (watched_from form m pieces) ≡ bare_run (text_from m pieces)
unfolding shell.text_from
bare_from form m [] = refl
bare_from form m (piece ∷ pieces) =
    bare_goes m (watched_piece form m piece) (λ n. watched_from form n pieces) ∙ ap (λ k. bare_run (goes_on m k (λ n. watched_from form n pieces))) (bare_piece form m piece)
    ∙ sym (bare_goes m (outcome_of_piece m piece) (λ n. watched_from form n pieces))
    ∙ bare_both m (outcome_of_piece m piece) (λ n. watched_from form n pieces) (λ n. text_from n pieces) (λ n. bare_from form n pieces)

pub same_run : (form : Below) (m : RunState) (input : List ℕ) → watched_on form m input ≡ record (text_on m input) { lines = (watched_on form m input).lines }
unfolding shell.text_on
same_run form m input = ap (λ (w : RunText). record w { lines = (watched_from form m (pieces_of_input input)).lines }) (bare_from form m (pieces_of_input input))

pub watched_run_is_the_run : WatchedRunIsTheRun
unfolding watched_of_input text_of_input
watched_run_is_the_run form variant input = same_run form (opening variant) input

pub data_are_accounted_for : DataAreAccountedFor
data_are_accounted_for form variant input = subst IsBalanced (sym (ap (λ (w : RunText). w.after) (watched_run_is_the_run form variant input))) (run_is_accounted_for variant input)

-- ---- each state

pub state_is_the_runs : StateIsTheRuns
state_is_the_runs form variant input i k =
    ap (λ (w : RunText). state_in_next w.after (slice_get (pieces_of_input input) i) k) (bare_from form (opening variant) (take i (pieces_of_input input)))

pub state_is_of_events : (form : Below) (variant : Variant) (input : List ℕ) (i k : ℕ) → AreDone form variant input i → IsOfEvents variant input (state_within form variant input i k)
state_is_of_events form variant input i k done =
    let same : (watched_prefix form variant input i).verdict ≡ (prefix_of_input variant input i).verdict = ap (λ (w : RunText). w.verdict) (bare_from form (opening variant) (take i (pieces_of_input input))) in
    subst (IsOfEvents variant input) (sym (state_is_the_runs form variant input i k)) (state_is_of_run variant input i k (sym same ∙ done))

pub states_are_loop_free : (form : Below) (variant : Variant) (input : List ℕ) (i k d : ℕ) → ¬ (Cycle (world_of (state_within form variant input i k)) d)
states_are_loop_free form variant input i k d =
    subst (λ (m : RunState). ¬ (Cycle (world_of m) d)) (sym (state_is_the_runs form variant input i k)) (state_is_loop_free variant input i k d)
