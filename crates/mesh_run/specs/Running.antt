-- The run of a schedule as a script: what each line and the end write, and the states they lead to.
use Rattle.std.specs.Prelude.{ℕ, Bool, List, []}
use Rattle.mesh_shell.specs.Fold.{Outcome, On, Ended, Fold}
use Rattle.mesh_run.specs.Sums.{IsGrown}
use Rattle.mesh_text.specs.Lines.{done_line}
use Rattle.mesh_text.specs.Schedule.{RunState}
use Rattle.mesh_text.specs.Text.{outcome_of_piece, outcome_in_run}
use Rattle.mesh_text.specs.declared.verdict.Verdict.{Verdict}
use Rattle.mesh_text.specs.declared.verdict.Verdict.TheVariants.{Finished}
use Rattle.mesh_run.specs.declared.running.Running.{Running}
use Rattle.mesh_run.specs.declared.say.Say.{Say}
use Rattle.mesh_run.specs.declared.say.Say.TheVariants.{All, Last, Faults}
use Rattle.mesh_run.specs.Outputs.{says_lines}
use Rattle.mesh_run.specs.Room.{CanLead}
use Rattle.mesh_run.specs.Runs.{output_if}

-- what is written of a line: its text if `say`, and a last line always
abbrev pub said : {M V : Type 0} → Bool → Outcome M V → Outcome M V
said say (On text n) = On (output_if say text) n
said say (Ended text last v) = Ended (output_if say text) last v

-- what is written at the end of an input
abbrev pub last_said : Say → List ℕ → List ℕ
last_said All last = last
last_said Last last = last
last_said Faults last = []

-- an outcome with its next state mapped by `to`
abbrev pub outcome_as : {M N V : Type 0} → (M → N) → Outcome M V → Outcome N V
outcome_as to (On text n) = On text (to n)
outcome_as to (Ended text last v) = Ended text last v

-- this run, moved to another state
abbrev pub moved : {S : Type 0} → Running S → RunState → Running S
moved r n = record r { at = n }

-- the run of a schedule; its `say` decides how much of the text is written
abbrev pub running : {S : Type 0} → Fold (Running S) Verdict
running = record {
  head = λ r. [];
  outcome = λ r piece.
      outcome_as (moved r)
      (said (says_lines r.say) (outcome_in_run r.at (outcome_of_piece r.at piece)));
  ending = λ r. record {
    text = last_said r.say (done_line r.at);
    verdict = Finished;
    after = r;
  };
}

-- lines of this many bytes can lead from run r to run q, and the sums have grown by no more than
-- the steps
pub record CanRun {S : Type 0} (r : Running S) (size : ℕ) (q : Running S) : Type 0 where
  pub grown : IsGrown r.at q.at
  pub led : CanLead r.at size q.at
