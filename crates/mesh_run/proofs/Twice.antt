-- Two events that are done as one, without a text: what is told of those that are left is told of them all.
use Rattle.std.proofs.Common.{◌≡◌, ℕ, suc, ◌+◌, ◌-◌, ◌<◌, ◌≤◌, Bool, true, false, List, Option, Some, None, is_some, Result, length, sym, ap, subst, ◌∙◌, arith}
use Rattle.mesh_model.specs.Worlds.{Event}
use Rattle.mesh_text.specs.Schedule.{RunState, next_state}
use Rattle.mesh_text.specs.Auto.{outcome_of_events, events_chosen}
use Rattle.mesh_run.specs.RunStates.{IsAnswered}
use Rattle.mesh_run.specs.declared.stop.Stop.{Stop}
use Rattle.mesh_run.specs.Runs.{IsLineDone, IsEventsRun, IsReached, AreTwoDone, line_outcome_at}
use Rattle.mesh_run.proofs.Shown.{shown_none}
use Rattle.mesh_run.proofs.Events.{answer_goes, stepped_mesh, stepped_lines, stepped_steps, stepped_started}
use Rattle.mesh_run.proofs.Chosen.{chosen_counts, ran_goes}
use Rattle.mesh_run.proofs.Ways.{way_goes}

-- an event whose text isn't said
quiet_done : (say : Bool) (m n : RunState) (e : Event) (a : Option (List ℕ)) → say ≡ false → IsAnswered m e n → IsLineDone say (line_outcome_at m e) n a a
quiet_done say m n e a quiet is =
    subst (λ (s : Bool). IsLineDone s (line_outcome_at m e) n a a) (sym quiet) (answer_goes false m n e is.done is.packet a a is.answer (shown_none false a))

module _ (say : Bool) (most did : ℕ) (m n : RunState) (quiet : say ≡ false) (two : did + 2 ≤ most) (are : AreTwoDone m n) where
  first_under : did < most
  first_under = omega (arith, two)

  second_under : did + 1 < most
  second_under = omega (arith, two)

  as_two : did + 2 ≡ did + 1 + 1
  as_two = omega arith

  to_between : are.between ≡ next_state m are.first
  to_between = (are.done).answer.run_state

  to_end : n ≡ next_state are.between are.second
  to_end = (are.ends).answer.run_state

  pub two_ran : (k : RunState) (a c : Option (List ℕ)) (r : Result ℕ Stop) → IsEventsRun say n (outcome_of_events n (events_chosen (most - (did + 2)) n)) k a c r
      → IsEventsRun say m (outcome_of_events m (events_chosen (most - did) m)) k a c r
  two_ran k a c r p =
      ran_goes say most did m are.between k are.first a a c r first_under (sym are.chosen) (quiet_done say m are.between are.first a quiet are.done)
      (ran_goes say most (did + 1) are.between n k are.second a a c r second_under (sym are.next) (quiet_done say are.between n are.second a quiet are.ends)
      (subst (λ d. IsEventsRun say n (outcome_of_events n (events_chosen (most - d) n)) k a c r) as_two p))

  pub two_way : (k : RunState) → IsReached n (events_chosen (most - (did + 2)) n) k → IsReached m (events_chosen (most - did) m) k
  two_way k p =
      way_goes say most did m are.between k are.first None None first_under (sym are.chosen) (quiet_done say m are.between are.first None quiet are.done) to_between
      (way_goes say most (did + 1) are.between n k are.second None None second_under (sym are.next) (quiet_done say are.between n are.second None quiet are.ends) to_end
      (subst (λ d. IsReached n (events_chosen (most - d) n) k) as_two p))

  pub two_counts : length (events_chosen (most - did) m) ≡ suc (suc (length (events_chosen (most - (did + 2)) n)))
  two_counts =
      chosen_counts say most did m are.between are.first None None first_under (sym are.chosen) (quiet_done say m are.between are.first None quiet are.done) to_between
      ∙ ap (λ k. suc k) (chosen_counts say most (did + 1) are.between n are.second None None second_under (sym are.next) (quiet_done say are.between n are.second None quiet are.ends) to_end)
      ∙ ap (λ d. suc (suc (length (events_chosen (most - d) n)))) (sym as_two)

-- ---- what two events leave as it was

pub two_mesh : (m n : RunState) → AreTwoDone m n → n.mesh ≡ m.mesh
two_mesh m n are = stepped_mesh are.between n are.second (are.ends).answer.run_state ∙ stepped_mesh m are.between are.first (are.done).answer.run_state

pub two_lines : (m n : RunState) → AreTwoDone m n → n.lines ≡ m.lines
two_lines m n are = stepped_lines are.between n are.second (are.ends).answer.run_state ∙ stepped_lines m are.between are.first (are.done).answer.run_state

pub two_steps : (m n : RunState) → AreTwoDone m n → n.steps ≡ m.steps + 2
two_steps m n are =
    let a = stepped_steps are.between n are.second (are.ends).answer.run_state in
    let b = stepped_steps m are.between are.first (are.done).answer.run_state in
    omega (arith, a, b)

pub two_started : (m n : RunState) → AreTwoDone m n → is_some n.world ≡ true
two_started m n are = stepped_started are.between n are.second (are.ends).answer.run_state
