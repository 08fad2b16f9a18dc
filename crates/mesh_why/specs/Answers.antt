-- What a call has written and answered.
use Rattle.std.specs.Prelude.{◌≡◌, ◌⊎◌, ℕ, List, ◌++◌, Option}
use Rattle.std.specs.Io.KnownBytes.{Appends}
use Rattle.mesh_base.specs.declared.events.Variant.TheVariants.{Base}
use Rattle.mesh_io.specs.Puts.{AppendsPrefix}
use Rattle.mesh_text.specs.Schedule.{opening}
use Rattle.mesh_text.specs.Text.{RunText, text_on}
use Rattle.mesh_text.specs.declared.verdict.Verdict.TheVariants.{Finished}
use Rattle.mesh_run.specs.declared.say.Say.TheVariants.{Last}
use Rattle.mesh_run.specs.declared.status.Status.{Status}
use Rattle.mesh_run.specs.declared.status.Status.TheVariants.{Done, Usage, BadLine, Full, ReadFault, WriteFault, NoMemory}
use Rattle.mesh_run.specs.Outputs.{IsOutputFrom}
use Rattle.mesh_why.specs.Routes.{IsRoute, route_line}

-- the run was done, and its last line and that of the route were written
pub record IsDone (asked : ℕ × ℕ) (w : RunText) (before now : Option (List ℕ)) : Type 0 where
  pub finished : w.verdict ≡ Finished
  pub route : Option (List ℕ)
  pub is : IsRoute w.after asked route
  pub grown : Appends before now (w.last ++ route_line (w.after).mesh route)

-- the run was done, and a prefix of the two lines was written
pub record IsCut (asked : ℕ × ℕ) (w : RunText) (before now : Option (List ℕ)) : Type 0 where
  pub finished : w.verdict ≡ Finished
  pub route : Option (List ℕ)
  pub is : IsRoute w.after asked route
  pub grown : AppendsPrefix before now (w.last ++ route_line (w.after).mesh route)

-- the call has answered for the route between these addresses, after the run of these bytes, with
-- this left in the source. If the run isn't done, what was written and answered is that of a run
-- which writes its last line alone
abbrev pub IsAnswered : ℕ × ℕ → List ℕ → Option (List ℕ) → Option (List ℕ) → Option (List ℕ)
    → Status → Type 0
IsAnswered asked bytes left before now Done = IsDone asked (text_on (opening Base) bytes) before now
IsAnswered asked bytes left before now (BadLine n) =
    IsOutputFrom Last (opening Base) bytes left before now (BadLine n)
IsAnswered asked bytes left before now (Full n) =
    IsOutputFrom Last (opening Base) bytes left before now (Full n)
IsAnswered asked bytes left before now ReadFault =
    IsOutputFrom Last (opening Base) bytes left before now ReadFault
IsAnswered asked bytes left before now WriteFault =
    IsOutputFrom Last (opening Base) bytes left before now WriteFault
    ⊎ IsCut asked (text_on (opening Base) bytes) before now
IsAnswered asked bytes left before now NoMemory =
    IsOutputFrom Last (opening Base) bytes left before now NoMemory
IsAnswered asked bytes left before now Usage = ⊥
