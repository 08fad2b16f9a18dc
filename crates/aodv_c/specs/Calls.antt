-- What a call answers if the handle holds a router, and what the handle then holds. Each answer is
-- the router's, as a number, with its outcome in the caller's memory.
use Rattle.std.specs.Prelude.{◌≡◌, ℕ, Bool, Option, IfOk, Result, List, length}
use Rattle.std.specs.FinMap as maps
use Rattle.std.specs.FinSet as sets
use Rattle.mesh_base.specs.Meshes.{index_of}
use Rattle.aodv_model.specs.Cores.{bodies_in}
use Rattle.aodv_router.specs.declared.answers.Stranger.{Stranger}
use Rattle.aodv_router.specs.declared.answers.HearError.{HearError}
use Rattle.aodv_router.specs.declared.answers.GiveError.{GiveError}
use Rattle.aodv_router.specs.declared.answers.TurnError.{TurnError}
use Rattle.aodv_router.specs.declared.answers.SendError.{SendError}
use Rattle.aodv_router.specs.declared.answers.AskError.{AskError}
use Rattle.aodv_router.specs.declared.outcome.Outcome as told
use Rattle.aodv_router.specs.declared.outcome.Row as rows
use Rattle.aodv_router.specs.Stations.{Station}
use Rattle.aodv_router.specs.Joined.{IsHeardFrom, IsGivenFor}
use Rattle.aodv_router.specs.Outcomes.{NamesTheMesh}
use Rattle.aodv_router.specs.Steps.{IsTurnOf, IsSendOf, IsAskOf}
use Rattle.aodv_router.specs.Rows.{IsAnswerAt, TellsRow}
use Rattle.aodv_c.specs.declared.outcome.Outcome.{Outcome}
use Rattle.aodv_c.specs.declared.outcome.Row.{Row}
use Rattle.aodv_c.specs.Codes.{code_of, hear_code, give_code, turn_code, send_code, ask_code, stranger_code, entry_code}
use Rattle.aodv_c.specs.Laid.{IsLaid, IsRowLaid, IsWritten}

pub record IsHearCall (old : Station) (from : ℕ) (bytes : List ℕ) (code : ℕ) (new : Station)
    : Type 0 where
  pub answer : Result (Unit {0}) HearError
  pub heard : IsHeardFrom old from bytes answer new
  pub coded : code ≡ code_of hear_code answer

pub record IsGiveCall (old : Station) (dest : ℕ) (body : List ℕ) (code : ℕ) (new : Station)
    : Type 0 where
  pub answer : Result (Unit {0}) GiveError
  pub given : IsGivenFor old dest body answer new
  pub coded : code ≡ code_of give_code answer

-- `before` and `after` are the caller's outcome before and after the call
pub record IsTurnCall (old : Station) (near : List ℕ) (before : Outcome) (code : ℕ) (new : Station)
    (after : Outcome) : Type 0 where
  pub answer : Result told.Outcome TurnError
  pub turn : IsTurnOf old near answer new
  pub names : IfOk answer (λ o. NamesTheMesh old.nodes o)
  pub coded : code ≡ code_of turn_code answer
  pub laid : IsLaid answer before after

pub record IsSendCall (old : Station) (near : List ℕ) (dest : ℕ) (before : Outcome) (code : ℕ)
    (new : Station) (after : Outcome) : Type 0 where
  pub answer : Result told.Outcome SendError
  pub send : IsSendOf old near dest answer new
  pub names : IfOk answer (λ o. NamesTheMesh old.nodes o)
  pub coded : code ≡ code_of send_code answer
  pub laid : IsLaid answer before after

pub record IsAskCall (old : Station) (dest : ℕ) (before : Outcome) (code : ℕ) (new : Station)
    (after : Outcome) : Type 0 where
  pub answer : Result told.Outcome AskError
  pub ask : IsAskOf old dest answer new
  pub names : IfOk answer (λ o. NamesTheMesh old.nodes o)
  pub coded : code ≡ code_of ask_code answer
  pub laid : IsLaid answer before after

-- a look at the table's entry for an address
pub record IsEntryCall (s : Station) (dest : ℕ) (before : Row) (code : ℕ) (after : Row)
    : Type 0 where
  pub answer : Result (Option rows.Row) Stranger
  pub entry : IsAnswerAt (index_of s.nodes dest) answer (λ d row.
      TellsRow s.nodes (maps.get ((s.node).core).rt d) row)
  pub coded : code ≡ entry_code answer
  pub laid : IsRowLaid answer before after

-- a look at how many data wait for an address
pub record IsWaitingCall (s : Station) (dest before code after : ℕ) : Type 0 where
  pub answer : Result ℕ Stranger
  pub waiting : IsAnswerAt (index_of s.nodes dest) answer (λ d n.
      n ≡ length (bodies_in (maps.get ((s.node).core).store d)))
  pub coded : code ≡ code_of stranger_code answer
  pub written : IsWritten answer before after

-- a look at whether an originator's request with this id was seen
pub record IsSeenCall (s : Station) (originator id : ℕ) (before : Bool) (code : ℕ) (after : Bool)
    : Type 0 where
  pub answer : Result Bool Stranger
  pub seen : IsAnswerAt (index_of s.nodes originator) answer (λ o seen.
      seen ≡ sets.contains ((s.node).core).seen (o, id))
  pub coded : code ≡ code_of stranger_code answer
  pub written : IsWritten answer before after
