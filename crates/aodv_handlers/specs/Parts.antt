-- Parts of the model's handlers that its variants share.
use Rattle.std.specs.Prelude.{◌≡◌, ◌≤◌, ℕ, Bool, not, ◌||◌, ◌==◌, if◌then◌else◌, Option, Some, None}
use Rattle.mesh_base.specs.declared.events.Variant.{Variant}
use Rattle.mesh_base.specs.Members.{NodeIds}
use Rattle.aodv_model.specs.Tables.{Table, Dests, in_vD, nhop, precs, accepted_unreachable}
use Rattle.aodv_model.specs.Cores.{Core, RouteReply, Rrep}
use Rattle.aodv_model.specs.Handlers.{Reaction, is_empty, is_error, with_precs, only, join_reply_precursors, reply_on, retract, unicast}
use Rattle.aodv_handlers.specs.declared.messages.Reply.{Reply}
use Rattle.aodv_handlers.specs.Shown.{reply_of}

-- a route error names d: always in the variant `Error`, and otherwise if d has precursors
abbrev pub is_named : Variant → Table → ℕ → Bool
is_named v rt d = is_error v || not (is_empty (precs rt d))

-- those of these destinations that a route error names
abbrev pub named_dests : Variant → Table → Dests → Dests
named_dests v rt dests = if is_error v then dests else with_precs rt dests

-- the routes for which a route error from `from` is accepted become invalid, with these numbers
abbrev pub gone_by : Core → ℕ → Dests → Reaction
gone_by core from dests = retract core (accepted_unreachable core.rt from dests)

-- what is done with a reply in the core after its updates
abbrev pub end_of_rrep : Core → Bool → NodeIds → RouteReply → Reaction
end_of_rrep core stale range m =
    if (m.oip == core.ip) || not (in_vD core.rt m.oip) then only core
    else reply_on core.variant core stale range m

-- this reply goes on towards its originator: the next hop to the originator joins the precursors
unfoldable pub pass_on : Core → NodeIds → RouteReply → Reaction
pass_on core range m =
    let rt = join_reply_precursors core.rt m.dip m.oip in
    unicast (record core { rt = rt }) (Rrep m) (nhop rt m.oip) range

-- this reply goes on, if there is one
abbrev pub passing : Core → NodeIds → Option Reply → Reaction
passing core range None = only core
passing core range (Some m) = pass_on core range (reply_of m)

-- the reply r names the nodes that m names, and its number isn't 0
pub record IsNumberedAs (m r : Reply) : Type 0 where
  pub dip : r.dip ≡ m.dip
  pub oip : r.oip ≡ m.oip
  pub dsn : 1 ≤ r.dsn
