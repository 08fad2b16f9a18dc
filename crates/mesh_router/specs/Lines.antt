-- What a line of a router's script comes to.
use Rattle.std.specs.Prelude.{ℕ, not, Bool, List, [], ◌∷◌, ◌++◌, length, codes, Result, Ok, Err, if◌then◌else◌}
use Rattle.std.specs.FinSet as sets
use Rattle.mesh_base.specs.Meshes.{Nodes}
use Rattle.mesh_base.specs.Members.{NodeIds}
use Rattle.mesh_base.specs.declared.events.Full.{Full as Counter}
use Rattle.mesh_base.specs.declared.events.Item.TheVariants.{New}
use Rattle.aodv_model.specs.Handlers.{may_send, send, may_ask, ask}
use Rattle.aodv_model.specs.Fullness.{send_full, ask_full}
use Rattle.mesh_grammar.specs.declared.fault.LineFault.{LineFault}
use Rattle.mesh_grammar.specs.declared.fault.BadWhy.{BadWhy}
use Rattle.mesh_grammar.specs.declared.fault.BadWhy.TheVariants.{Fault, TooLong, TooMuch}
use Rattle.mesh_shell.specs.Pieces.{Piece, Whole, Long, Beyond}
use Rattle.mesh_shell.specs.declared.limit.Limit.{Limit}
use Rattle.mesh_shell.specs.declared.limit.Limit.TheVariants.{Line, Input}
use Rattle.mesh_grammar.specs.Written.{line}
use Rattle.mesh_text.specs.Tables.{node_text}
use Rattle.mesh_script.specs.Peers.{with_self, with_peer}
use Rattle.mesh_script.specs.NodeLines.{AcceptedLine, Nothing, Own, Peer, Up, Down, Give, Polls, Turns, Sends, Asks, Shows, line_of, words_of}
use Rattle.mesh_router.specs.Logs.{Log, nothing, text_log, followed_by}
use Rattle.mesh_router.specs.Routers.{Router, Stage, Joining, Running, peers_in, router_in, is_running, RunState, counted_at}
use Rattle.mesh_router.specs.Turns.{StepOutcome, StepDone, StepFull, log_before, turns_of, act_of, idle_line}
use Rattle.mesh_router.specs.Finds.{Find}
use Rattle.mesh_router.specs.Polls.{PollOutcome, polls_of}

-- what a line comes to: its log, the next state, and what is left to be found; why the line is
-- refused; or its log before a counter is full, and the words of what the full counter stopped
pub data LineOutcome : Type 0 where
  On : Log → RunState → List Find → LineOutcome
  Refused : BadWhy → LineOutcome
  Full : Log → (words : List ℕ) → Counter → LineOutcome

-- the words of a line with the mesh of a state
abbrev pub words_at : Stage → AcceptedLine → List ℕ
words_at stage l = words_of (peers_in stage).mesh l

-- the words of what a full counter stops: `turn` without its count, since some of the turns may
-- have been done, or all words of any other line
abbrev pub refused_in : Nodes → AcceptedLine → List ℕ
refused_in mesh (Turns count) = codes "turn"
refused_in mesh others = words_of mesh others

abbrev pub refused_words : Stage → AcceptedLine → List ℕ
refused_words stage l = refused_in (peers_in stage).mesh l

-- one more node in the mesh
abbrev pub join_outcome : RunState → AcceptedLine → Stage → List Find → LineOutcome
join_outcome m l next finds = On (text_log (line (words_at m.stage l))) (counted_at m next) finds

-- a command, by what it makes the router do
abbrev pub act_outcome : RunState → AcceptedLine → List Find → StepOutcome → LineOutcome
act_outcome m l finds (StepDone log next) = On log (counted_at m (Running next)) finds
act_outcome m l finds (StepFull log field) = Full log (refused_words m.stage l) field

-- datagrams that are received
abbrev pub polled_line : RunState → AcceptedLine → PollOutcome → LineOutcome
polled_line m l p =
    On (followed_by (text_log (line (words_at m.stage l))) p.log)
    (counted_at m (Running p.next)) p.left

-- ---- steps that cast nothing

-- a peer comes into range or leaves it, below its line; the line is idle if the peer is in range
-- already, or isn't in range
abbrev pub range_outcome : Router → List ℕ → Bool → NodeIds → StepOutcome
range_outcome r words changes range =
    if changes then StepDone (text_log (line words)) (record r { range = range })
    else StepDone (text_log (line words ++ idle_line)) r

abbrev pub give_outcome : Router → List ℕ → ℕ → List ℕ → StepOutcome
give_outcome r words dest body =
    StepDone (text_log (line words)) (record r { queue = r.queue ++ New dest body ∷ [] })

abbrev pub show_outcome : Router → List ℕ → StepOutcome
show_outcome r words =
    StepDone (text_log (line words ++ node_text (r.peers).mesh r.core (length r.queue))) r

-- ---- all lines

-- what a command whose line has these words makes the router do. Other lines leave it as it is
unfoldable pub step_of : Router → List ℕ → AcceptedLine → StepOutcome
step_of r words (Up x) =
    range_outcome r words (not (sets.contains r.range x)) (sets.insert r.range x)
step_of r words (Down x) = range_outcome r words (sets.contains r.range x) (sets.remove r.range x)
step_of r words (Give dest body) = give_outcome r words dest body
step_of r words (Turns count) = log_before (text_log (line words)) (turns_of count r)
step_of r words (Sends d) =
    act_of r words (may_send r.core d) (send_full r.core r.range d) (send r.core r.range d)
step_of r words (Asks d) = act_of r words (may_ask r.core d) (ask_full r.core) (ask r.core d)
step_of r words Shows = show_outcome r words
step_of r words others = StepDone nothing r

-- an allowed line in a state
unfoldable pub outcome_of_line : RunState → AcceptedLine → List Find → LineOutcome
outcome_of_line m Nothing finds = On nothing (counted_at m m.stage) finds
outcome_of_line m (Own a first) finds =
    join_outcome m (Own a first) (Joining (with_self (peers_in m.stage) a first)) finds
outcome_of_line m (Peer a port) finds =
    join_outcome m (Peer a port) (Joining (with_peer (peers_in m.stage) a port)) finds
outcome_of_line m (Polls count) finds =
    polled_line m (Polls count) (polls_of count (router_in m.stage) finds)
outcome_of_line m others finds =
    act_outcome m others finds (step_of (router_in m.stage) (words_at m.stage others) others)

abbrev pub outcome_of_read : RunState → Result AcceptedLine LineFault → List Find → LineOutcome
outcome_of_read m (Ok l) finds = outcome_of_line m l finds
outcome_of_read m (Err fault) finds = Refused (Fault fault)

-- the reason for which a line that goes past a limit is refused
abbrev pub why_past : Limit → BadWhy
why_past Line = TooLong
why_past Input = TooMuch

-- what a line of the script comes to in a state
unfoldable pub outcome_of_piece : RunState → Piece → List Find → LineOutcome
outcome_of_piece m (Whole bytes) finds =
    outcome_of_read m (line_of (peers_in m.stage) (is_running m.stage) bytes) finds
outcome_of_piece m Long finds = Refused TooLong
outcome_of_piece m Beyond finds = Refused TooMuch
