-- The states that a line goes through before it is counted.
use Rattle.std.proofs.Common.{◌≡◌, inr, ℕ, zero, suc, ◌+◌, ◌-◌, ◌<◌, ◌≤◌, Bool, is_some, List, [], ◌∷◌, take, Option, None, Some, Result, Ok, Err, refl, sym, ap, subst, ◌∙◌}
use Rattle.std.specs.Prelude.{OnErr}
use Rattle.mesh_grammar.specs.declared.fault.LineFault.{LineFault}
use Rattle.mesh_shell.specs.Pieces.{Whole}
use Rattle.mesh_model.specs.Worlds as worlds
use Rattle.mesh_model.specs.Worlds.{Event, Outcome, Idle, Next}
use Rattle.mesh_model.specs.Choices.{pick}
use Rattle.mesh_text.specs.Schedule.{RunState, AcceptedLine, Chooses, line_of, with_world, next_state, outcome_at, world_of}
use Rattle.mesh_text.specs.Text.{On, Full}
use Rattle.mesh_text.specs.Auto.{event_then, events_chosen}
use Rattle.mesh_text.specs.Runs.{events_of_line, events_read, events_of_piece, run_state_after}
use Rattle.mesh_run.specs.declared.stop.Stop.{Stop}
use Rattle.mesh_run.specs.Runs.{IsLineDone, IsReached, IsOnTheWay, outcome_by, line_outcome_at}
use Rattle.mesh_run.proofs.Chosen.{chosen_next}

-- ---- none of the events, one, and one more

pub reached_none : (m n : RunState) (events : List Event) → n ≡ m → IsReached m events n
unfolding run_state_after
reached_none m n events same = (0, same)

pub reached_one : (m n : RunState) (e : Event) (others : List Event) → n ≡ next_state m e → IsReached m (e ∷ others) n
unfolding run_state_after
reached_one m n e others next = (1, next)

reached_more : (m s n : RunState) (e : Event) (others : List Event) → s ≡ next_state m e → IsReached s others n → IsReached m (e ∷ others) n
unfolding run_state_after
reached_more m s n e others next way = (suc way.0, way.1 ∙ ap (λ k. run_state_after k (take way.0 others)) next)

none_taken : (k : ℕ) → take {A = Event} k [] ≡ []
none_taken zero = refl
none_taken (suc k) = refl

-- the first of more events
reached_longer : (m n : RunState) (e : Event) (others : List Event) → IsReached m (e ∷ []) n → IsReached m (e ∷ others) n
unfolding run_state_after
reached_longer m n e others way = by_count way.0 way.1
  where
    by_count : (k : ℕ) → n ≡ run_state_after m (take k (e ∷ [])) → IsReached m (e ∷ others) n
    by_count zero is = (0, is)
    by_count (suc k) is = (1, is ∙ ap (λ l. run_state_after (next_state m e) l) (none_taken k))

-- ---- events one after another

then_on : (say : Bool) (m n k : RunState) (e : Event) (o : Outcome) (others : RunState → List Event) (a b : Option (List ℕ)) → IsLineDone say (outcome_by m e o) n a b → n ≡ next_state m e
    → IsReached n (others n) k → IsReached m (event_then m e o others) k
then_on say m n k e Idle others a b done next way =
    reached_more m n k e (others (next_state m e)) next (subst (λ s. IsReached n (others s) k) next way)
then_on say m n k e (worlds.Full x field) others a b done next way = absurd (let h : Full [] m e field ≡ On done.text n = done.is in let P : ⊥ = cc in P)
then_on say m n k e (Next w i) others a b done next way =
    reached_more m n k e (others (next_state m e)) next (subst (λ s. IsReached n (others s) k) next way)

then_first : (m k : RunState) (e : Event) (o : Outcome) (others : RunState → List Event) → IsReached m (e ∷ []) k → IsReached m (event_then m e o others) k
then_first m k e Idle others way = reached_longer m k e (others (next_state m e)) way
then_first m k e (worlds.Full x field) others way = way
then_first m k e (Next w i) others way = reached_longer m k e (others (next_state m e)) way

-- one was done, and then others
pub way_goes : (say : Bool) (most did : ℕ) (m n k : RunState) (e : Event) (a b : Option (List ℕ)) → did < most → Some e ≡ pick (world_of m)
    → IsLineDone say (line_outcome_at m e) n a b → n ≡ next_state m e → IsReached n (events_chosen (most - (did + 1)) n) k → IsReached m (events_chosen (most - did) m) k
way_goes say most did m n k e a b h next done after way =
    subst (λ l. IsReached m l k) (sym (chosen_next most did m e h next)) (then_on say m n k e (outcome_at m e) (λ s. events_chosen (most - (did + 1)) s) a b done after way)

-- the next one was not done, or not written
pub way_stops : (most did : ℕ) (m k : RunState) (e : Event) → did < most → Some e ≡ pick (world_of m) → IsReached m (e ∷ []) k → IsReached m (events_chosen (most - did) m) k
way_stops most did m k e h next way =
    subst (λ l. IsReached m l k) (sym (chosen_next most did m e h next)) (then_first m k e (outcome_at m e) (λ s. events_chosen (most - (did + 1)) s) way)

-- ---- a line

pub way_of_event : (m s n : RunState) (e : Event) → s ≡ with_world m → IsReached s (e ∷ []) n → IsOnTheWay m (e ∷ []) n
way_of_event m s n e same way = inr (subst (λ x. IsReached x (e ∷ []) n) same way)

pub way_of_choices : (m s n : RunState) (count : ℕ) → s ≡ with_world m → IsReached s (events_chosen count s) n → IsOnTheWay m (events_of_line m (Chooses count)) n
way_of_choices m s n count same way = inr (subst (λ k. IsReached k (events_chosen count k) n) same way)

pub way_of_start : (m n : RunState) (events : List Event) → n ≡ with_world m → IsOnTheWay m events n
way_of_start m n events same = inr (reached_none (with_world m) n events same)

-- the line of these bytes
way_of_read : (m n : RunState) (bytes : List ℕ) (a : AcceptedLine) → line_of m.mesh (is_some m.world) bytes ≡ Ok a → IsOnTheWay m (events_of_line m a) n → IsOnTheWay m (events_of_piece m (Whole bytes)) n
way_of_read m n bytes a is way = subst (λ (r : Result AcceptedLine LineFault). IsOnTheWay m (events_read m r) n) (sym is) way

pub way_where_read : (m n : RunState) (bytes : List ℕ) (a : AcceptedLine) (r : Result (Unit {0}) Stop) → line_of m.mesh (is_some m.world) bytes ≡ Ok a → OnErr r (IsOnTheWay m (events_of_line m a) n)
    → OnErr r (IsOnTheWay m (events_of_piece m (Whole bytes)) n)
way_where_read m n bytes a (Ok u) is way = tt
way_where_read m n bytes a (Err t) is way = way_of_read m n bytes a is way

pub err_of : {T E P : Type 0} (r : Result T E) → P → OnErr r P
err_of (Ok x) p = tt
err_of (Err x) p = p
