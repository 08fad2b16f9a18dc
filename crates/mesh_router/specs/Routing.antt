-- The lines of a script as they are run: what was written, sent and found.
use Rattle.std.specs.Prelude.{ℕ, ◌≡◌, ◌≢◌, ◌≤◌, ◌+◌, ◌*◌, true, is_some, List, [], ◌∷◌, ◌++◌, length, Option}
use Rattle.mesh_base.specs.declared.limits.TheConstants.{LONGEST_INPUT}
use Rattle.mesh_io.specs.Cause.{Rose}
use Rattle.mesh_io.specs.declared.sink.Sink as sinks
use Rattle.mesh_link.specs.Datagrams.{Datagram}
use Rattle.mesh_link.specs.declared.link.Link as links
use Rattle.mesh_shell.specs.Pieces.{Piece}
use Rattle.mesh_router.specs.declared.run.Routing.{Routing}
use Rattle.mesh_router.specs.declared.status.NodeStatus.{NodeStatus}
use Rattle.mesh_router.specs.declared.status.NodeStatus.TheVariants.{Done, Usage, ReadFault, WriteFault, LinkFault}
use Rattle.mesh_router.specs.Logs.{Log}
use Rattle.mesh_router.specs.Routers.{router_in}
use Rattle.mesh_router.specs.Finds.{Find, AreNext, left_after, AreFound}
use Rattle.mesh_router.specs.Outputs.{Outputs, Adds}
use Rattle.mesh_router.specs.Seen.{HasCounts, IsGrown, most_grown}
use Rattle.mesh_router.specs.Text.{run_after, run_from}
use Rattle.mesh_router.specs.Output.{IsTold}

-- what the sink holds and the link has sent, and what has arrived at the link
abbrev pub outputs_by : {O L : Type 0} → sinks.Ghosts O → links.Ghosts L → Routing O L → Outputs
outputs_by sink link r = (sink.held r.out.now, link.sent r.link.now)

abbrev pub arrived_by : {O L : Type 0} → links.Ghosts L → Routing O L → Option (List Datagram)
arrived_by link r = link.arrived r.link.now

-- the sink and the link are the same ones, the link's port hasn't changed, and no count of faults
-- fell
pub record IsKept {O L : Type 0} (sink : sinks.Ghosts O) (link : links.Ghosts L)
    (old new : Routing O L) : Type 0 where
  pub same_out : new.out.ghost_name ≡ old.out.ghost_name
  pub same_link : new.link.ghost_name ≡ old.link.ghost_name
  pub port : link.port new.link.now ≡ link.port old.link.now
  pub writes : sink.faults old.out.now ≤ sink.faults new.out.now
  pub sends : link.faults old.link.now ≤ link.faults new.link.now

-- these lines were done by what was found, whatever lines come after them
pub record HasLed {O L : Type 0} (sink : sinks.Ghosts O) (link : links.Ghosts L)
    (old : Routing O L) (lines : List Piece) (new : Routing O L) : Type 0 where
  pub kept : IsKept sink link old new
  pub found : List Find
  pub taken : AreFound (arrived_by link old) (arrived_by link new) found
  pub log : Log
  pub adds : Adds (outputs_by sink link old) (outputs_by sink link new) log
  pub goes : (others : List Piece) (finds : List Find) → AreNext finds found
      → run_from old.at.now (lines ++ others) finds
      ≡ run_after log (run_from new.at.now others (left_after finds found))
  pub count : new.at.now.lines ≡ old.at.now.lines + length lines
  pub grown : IsGrown (most_grown * length lines) (router_in old.at.now.stage)
      (router_in new.at.now.stage)
  pub no_write : sink.faults new.out.now ≡ sink.faults old.out.now
  pub no_send : link.faults new.link.now ≡ link.faults old.link.now

-- the run has ended, and a fault that is answered is the sink's or the link's and has its cause; no
-- other answer comes if one of them has failed
pub record HasAnswered {O L : Type 0} (sink : sinks.Ghosts O) (link : links.Ghosts L)
    (old new : Routing O L) (answer : NodeStatus) : Type 0 where
  pub kept : IsKept sink link old new
  pub write : answer ≡ WriteFault → Rose (sink.faults old.out.now) (sink.faults new.out.now)
  pub send : answer ≡ LinkFault → Rose (link.faults old.link.now) (link.faults new.link.now)
  pub no_write : answer ≢ WriteFault → sink.faults new.out.now ≡ sink.faults old.out.now
  pub no_send : answer ≢ LinkFault → link.faults new.link.now ≡ link.faults old.link.now
  pub words : answer ≢ Usage
  pub read : answer ≢ ReadFault

-- the run has ended at this line, whatever lines come after it
pub record HasStopped {O L : Type 0} (sink : sinks.Ghosts O) (link : links.Ghosts L)
    (old : Routing O L) (piece : Piece) (new : Routing O L) (answer : NodeStatus) : Type 0 where
  pub answered : HasAnswered sink link old new answer
  pub told : (others : List Piece) → IsTold (run_from old.at.now (piece ∷ others))
      (arrived_by link old) (arrived_by link new) (outputs_by sink link old)
      (outputs_by sink link new) answer
  pub early : answer ≢ Done

-- the run has ended where the script does
pub record HasFinished {O L : Type 0} (sink : sinks.Ghosts O) (link : links.Ghosts L)
    (old new : Routing O L) (answer : NodeStatus) : Type 0 where
  pub answered : HasAnswered sink link old new answer
  pub told : IsTold (run_from old.at.now []) (arrived_by link old) (arrived_by link new)
      (outputs_by sink link old) (outputs_by sink link new) answer

-- a read has failed, and nothing else has changed
pub record IsCut {O L : Type 0} (old new : Routing O L) (answer : NodeStatus) : Type 0 where
  pub same : new ≡ old
  pub is : answer ≡ ReadFault

-- lines of this many bytes, with their LFs, can be done: the link is open, and no count of lines or
-- datagrams gets too large
pub record HasRoomFor {O L : Type 0} (link : links.Ghosts L) (r : Routing O L) (size : ℕ)
    : Type 0 where
  pub open_at : is_some (link.port r.link.now) ≡ true
  pub count : r.at.now.lines + size ≤ LONGEST_INPUT + 1
  pub counts : HasCounts (most_grown * r.at.now.lines) (router_in r.at.now.stage)
