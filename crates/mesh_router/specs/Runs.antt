-- What was reported of a turn, of a command, and of datagrams that were received.
use Rattle.std.specs.Prelude.{◌≡◌, ℕ, suc, List, [], ◌∷◌, Bool, true, false, Option, Some, None, Result, Ok, Err, MatchResult, ⊤}
use Rattle.std.specs.Io.KnownBytes.{Appends}
use Rattle.mesh_base.specs.declared.events.Full.{Full as Counter}
use Rattle.mesh_io.specs.Puts.{AppendsPrefix}
use Rattle.mesh_link.specs.Datagrams.{Datagram}
use Rattle.mesh_script.specs.Peers.{at_port}
use Rattle.mesh_script.specs.NodeLines.{AcceptedLine, Nothing, Own, Peer, Polls}
use Rattle.mesh_router.specs.declared.stop.Stop.{Stop}
use Rattle.mesh_router.specs.declared.stop.Stop.TheVariants as stop
use Rattle.mesh_grammar.specs.Written.{line}
use Rattle.mesh_router.specs.Logs.{Log, nothing, text_log, followed_by}
use Rattle.mesh_router.specs.Routers.{Router, RunState}
use Rattle.mesh_router.specs.Lines.{LineOutcome, On, Refused, Full}
use Rattle.mesh_router.specs.Turns as turns
use Rattle.mesh_router.specs.Turns.{TurnOutcome, StepOutcome, StepDone, StepFull, idle_line}
use Rattle.mesh_router.specs.Finds.{Find, AreNext, left_after, AreFound}
use Rattle.mesh_router.specs.Polls.{poll_outcome, polls_of, found_next, found_text, datagram_next, datagram_log, none_line}
use Rattle.mesh_router.specs.Outputs.{Outputs, Adds, AddsPrefix}

-- ---- a turn

-- the whole log of a turn
abbrev pub log_by : TurnOutcome → Log
log_by turns.Idle = text_log idle_line
log_by (turns.Done log next) = log
log_by (turns.Full field) = nothing

-- a turn was done and reported
pub record IsTurnDone (t : TurnOutcome) (new : Router) (before now : Outputs) : Type 0 where
  pub log : Log
  pub is : t ≡ turns.Done log new
  pub adds : Adds before now log

-- there was no turn to do
pub record IsTurnIdle (t : TurnOutcome) (old new : Router) (before now : Outputs) : Type 0 where
  pub is : t ≡ turns.Idle
  pub same : new ≡ old
  pub adds : Adds before now (text_log idle_line)

-- a counter is full
pub record IsTurnFull (t : TurnOutcome) (field : Counter) (before now : Outputs) : Type 0 where
  pub is : t ≡ turns.Full field
  pub same : now ≡ before

abbrev pub IsTurnRun : TurnOutcome → Router → Outputs → Outputs → Router → Result Bool Stop → Type 0
IsTurnRun t old before now new (Ok true) = IsTurnDone t new before now
IsTurnRun t old before now new (Ok false) = IsTurnIdle t old new before now
IsTurnRun t old before now new (Err (stop.Full field)) = IsTurnFull t field before now
IsTurnRun t old before now new (Err stop.WriteFault) = AddsPrefix before now (log_by t)
IsTurnRun t old before now new (Err stop.LinkFault) = AddsPrefix before now (log_by t)
IsTurnRun t old before now new (Err stop.NoMemory) = AddsPrefix before now (log_by t)

-- ---- a command

-- the whole log of a command
abbrev pub log_in : StepOutcome → Log
log_in (StepDone log next) = log
log_in (StepFull log field) = log

pub record IsStepDone (s : StepOutcome) (new : Router) (before now : Outputs) : Type 0 where
  pub log : Log
  pub is : s ≡ StepDone log new
  pub adds : Adds before now log

pub record IsStepFull (s : StepOutcome) (field : Counter) (before now : Outputs) : Type 0 where
  pub log : Log
  pub is : s ≡ StepFull log field
  pub adds : Adds before now log

abbrev pub IsStepStopped : StepOutcome → Outputs → Outputs → Stop → Type 0
IsStepStopped s before now (stop.Full field) = IsStepFull s field before now
IsStepStopped s before now stop.WriteFault = AddsPrefix before now (log_in s)
IsStepStopped s before now stop.LinkFault = AddsPrefix before now (log_in s)
IsStepStopped s before now stop.NoMemory = AddsPrefix before now (log_in s)

abbrev pub IsStepRun : StepOutcome → Outputs → Outputs → Router → Result (Unit {0}) Stop → Type 0
IsStepRun s before now new result =
    MatchResult result (λ _. IsStepDone s new before now) (IsStepStopped s before now)

-- ---- datagrams that are received

-- a datagram with these bytes from this port was taken and reported, or reported in part
abbrev pub IsTaken : Router → ℕ → List ℕ → Option (List ℕ) → Option (List ℕ) → Router
    → Result (Unit {0}) Stop → Type 0
IsTaken old port bytes before now new result =
    MatchResult result
    (λ _. (new ≡ found_next old bytes (at_port old.peers port))
    × Appends before now (found_text old port bytes (at_port old.peers port)))
    (λ _. AppendsPrefix before now (found_text old port bytes (at_port old.peers port)))

-- a datagram was found, and what was done with it was reported
pub record IsFoundOne (old new : Router) (arrived left : Option (List Datagram))
    (before now : Outputs) : Type 0 where
  pub datagram : Datagram
  pub taken : AreFound arrived left (Some datagram ∷ [])
  pub next : new ≡ datagram_next old datagram
  pub adds : Adds before now (datagram_log old datagram)

-- nothing was there
pub record IsFoundNone (old new : Router) (arrived left : Option (List Datagram))
    (before now : Outputs) : Type 0 where
  pub taken : AreFound arrived left (None ∷ [])
  pub same : new ≡ old
  pub adds : Adds before now (text_log none_line)

-- these were found, and what was done with them was reported
pub record IsPolled (count : ℕ) (old new : Router) (arrived left : Option (List Datagram))
    (before now : Outputs) : Type 0 where
  pub found : List Find
  pub taken : AreFound arrived left found
  pub log : Log
  pub adds : Adds before now log
  pub is : (finds : List Find) → AreNext finds found
      → polls_of count old finds ≡ poll_outcome log new (left_after finds found)

-- these were found, and what was done with them was reported in part
pub record IsPolledInPart (count : ℕ) (old : Router) (arrived left : Option (List Datagram))
    (before now : Outputs) : Type 0 where
  pub found : List Find
  pub taken : AreFound arrived left found
  pub told : (finds : List Find) → AreNext finds found
      → AddsPrefix before now (polls_of count old finds).log

abbrev pub IsPollRun : ℕ → Router → Option (List Datagram) → Option (List Datagram) → Outputs
    → Outputs → Router → Result (Unit {0}) Stop → Type 0
IsPollRun count old arrived left before now new result =
    MatchResult result (λ _. IsPolled count old new arrived left before now)
    (λ _. IsPolledInPart count old arrived left before now)

-- one receive call, the first of one or more
abbrev pub IsPollStep : Router → Option (List Datagram) → Option (List Datagram) → Outputs → Outputs
    → Router → Result Bool Stop → Type 0
IsPollStep old arrived left before now new (Ok true) =
    IsFoundOne old new arrived left before now
IsPollStep old arrived left before now new (Ok false) =
    IsFoundNone old new arrived left before now
IsPollStep old arrived left before now new (Err stop) =
    (others : ℕ) → IsPolledInPart (suc others) old arrived left before now

-- datagrams that are received, below their line
pub record IsPollLineDone (count : ℕ) (words : List ℕ) (old new : Router)
    (arrived left : Option (List Datagram)) (before now : Outputs) : Type 0 where
  pub found : List Find
  pub taken : AreFound arrived left found
  pub log : Log
  pub adds : Adds before now (followed_by (text_log (line words)) log)
  pub is : (finds : List Find) → AreNext finds found
      → polls_of count old finds ≡ poll_outcome log new (left_after finds found)

pub record IsPollLineInPart (count : ℕ) (words : List ℕ) (old : Router)
    (arrived left : Option (List Datagram)) (before now : Outputs) : Type 0 where
  pub found : List Find
  pub taken : AreFound arrived left found
  pub told : (finds : List Find) → AreNext finds found
      → AddsPrefix before now (followed_by (text_log (line words)) (polls_of count old finds).log)

-- the stop isn't a full counter
abbrev pub IsNotFull : Stop → Type 0
IsNotFull (stop.Full field) = ⊥
IsNotFull others = ⊤

abbrev pub IsPollLine : ℕ → List ℕ → Router → Option (List Datagram) → Option (List Datagram)
    → Outputs → Outputs → Router → Result (Unit {0}) Stop → Type 0
IsPollLine count words old arrived left before now new result =
    MatchResult result (λ _. IsPollLineDone count words old new arrived left before now)
    (λ e. IsNotFull e × IsPollLineInPart count words old arrived left before now)

-- ---- a line

-- the whole log of a line
abbrev pub log_of : LineOutcome → Log
log_of (On log next left) = log
log_of (Refused why) = nothing
log_of (Full log words field) = log

-- a line was done and reported, by what was found, and the run goes on from the next state
pub record IsLineDone (k : List Find → LineOutcome) (next : RunState)
    (arrived left : Option (List Datagram)) (before now : Outputs) : Type 0 where
  pub found : List Find
  pub taken : AreFound arrived left found
  pub log : Log
  pub adds : Adds before now log
  pub is : (finds : List Find) → AreNext finds found
      → k finds ≡ On log next (left_after finds found)

-- a counter is full
pub record IsLineFull (k : List Find → LineOutcome) (words : List ℕ) (field : Counter)
    (arrived left : Option (List Datagram)) (before now : Outputs) : Type 0 where
  pub log : Log
  pub adds : Adds before now log
  pub is : (finds : List Find) → k finds ≡ Full log words field
  pub same : left ≡ arrived

-- a line was reported in part
pub record IsLineInPart (k : List Find → LineOutcome) (arrived left : Option (List Datagram))
    (before now : Outputs) : Type 0 where
  pub found : List Find
  pub taken : AreFound arrived left found
  pub told : (finds : List Find) → AreNext finds found → AddsPrefix before now (log_of (k finds))

abbrev pub IsLineStopped : (List Find → LineOutcome) → List ℕ → Option (List Datagram)
    → Option (List Datagram) → Outputs → Outputs → Stop → Type 0
IsLineStopped k words arrived left before now (stop.Full field) =
    IsLineFull k words field arrived left before now
IsLineStopped k words arrived left before now stop.WriteFault =
    IsLineInPart k arrived left before now
IsLineStopped k words arrived left before now stop.LinkFault =
    IsLineInPart k arrived left before now
IsLineStopped k words arrived left before now stop.NoMemory =
    IsLineInPart k arrived left before now

abbrev pub IsLineRun : (List Find → LineOutcome) → List ℕ → RunState → Option (List Datagram)
    → Option (List Datagram) → Outputs → Outputs → Result (Unit {0}) Stop → Type 0
IsLineRun k words next arrived left before now result =
    MatchResult result (λ _. IsLineDone k next arrived left before now)
    (IsLineStopped k words arrived left before now)

-- a line that makes the router act, or shows it
abbrev pub IsCommand : AcceptedLine → Type 0
IsCommand Nothing = ⊥
IsCommand (Own a first) = ⊥
IsCommand (Peer a port) = ⊥
IsCommand (Polls count) = ⊥
IsCommand others = ⊤
