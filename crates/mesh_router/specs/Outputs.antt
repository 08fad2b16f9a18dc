-- What a call has put on a sink and sent over a link, as far as that is known, and when a fault may
-- be answered.
use Rattle.std.specs.Prelude.{ℕ, ◌≡◌, ◌≤◌, List, ◌++◌, Option, option_map, Result, MatchResult, IsErrOf, ⊤}
use Rattle.std.specs.Io.KnownBytes.{Appends}
use Rattle.mesh_io.specs.Cause.{Rose}
use Rattle.mesh_link.specs.Datagrams.{Datagram}
use Rattle.mesh_router.specs.declared.stop.Stop.{Stop}
use Rattle.mesh_router.specs.declared.stop.Stop.TheVariants as stop
use Rattle.mesh_router.specs.Logs.{Log, followed_by, text_of, sent_of}

-- what a sink holds and the datagrams that a link has sent, each if known
abbrev pub Outputs : Type 0
Outputs = Option (List ℕ) × Option (List Datagram)

-- these datagrams were sent too, if it is known what was sent
abbrev pub SendsAll : Option (List Datagram) → Option (List Datagram) → List Datagram → Type 0
SendsAll before now ds = now ≡ option_map (λ xs. xs ++ ds) before

-- this log was written and sent
pub record Adds (before now : Outputs) (log : Log) : Type 0 where
  pub text : Appends before.0 now.0 (text_of log)
  pub sent : SendsAll before.1 now.1 (sent_of log)

-- a prefix of this log was written and sent: all text before a datagram that was sent is written,
-- and each datagram before text that is written was sent
pub record AddsPrefix (before now : Outputs) (log : Log) : Type 0 where
  pub prefix : Log
  pub rest : Log
  pub whole : log ≡ followed_by prefix rest
  pub adds : Adds before now prefix

-- the whole log for Ok, and a prefix of it for Err
abbrev pub Says : {T : Type 0} → Outputs → Outputs → Log → Result T Stop → Type 0
Says before now log result =
    MatchResult result (λ _. Adds before now log) (λ _. AddsPrefix before now log)

-- a fault is answered only if the sink or the link has failed in this call, and no other answer
-- comes if one of them has
pub record HasCauses {T : Type 0} (sink sink_now link link_now : ℕ) (result : Result T Stop)
    : Type 0 where
  pub sink_later : sink ≤ sink_now
  pub link_later : link ≤ link_now
  pub write : IsErrOf result stop.WriteFault → Rose sink sink_now
  pub send : IsErrOf result stop.LinkFault → Rose link link_now
  pub no_write : ¬ IsErrOf result stop.WriteFault → sink_now ≡ sink
  pub no_send : ¬ IsErrOf result stop.LinkFault → link_now ≡ link

-- the stop is a fault of the sink or of the link
abbrev pub IsFault : Stop → Type 0
IsFault stop.WriteFault = ⊤
IsFault stop.LinkFault = ⊤
IsFault others = ⊥

-- a call that has nothing to do with a link answers a fault only if the sink has failed, and no
-- other answer comes if it has
pub record HasSinkCause {T : Type 0} (before now : ℕ) (result : Result T Stop) : Type 0 where
  pub later : before ≤ now
  pub write : IsErrOf result stop.WriteFault → Rose before now
  pub none : ¬ IsErrOf result stop.WriteFault → now ≡ before
  pub link : ¬ IsErrOf result stop.LinkFault
