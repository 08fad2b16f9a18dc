-- Links in memory.
use Rattle.std.specs.Prelude.{ℕ, ◌≡◌, ◌<◌, ◌-◌, ◌==◌, Bool, List, [], ◌∷◌, ◌++◌, length, Option, Some, None, Result, Ok, Err, nat_lt, ◌||◌, ◌≤◌, get_or, if◌then◌else◌}
use Rattle.std.specs.List.{AllByRecursion}
use Rattle.std.specs.Coded.{Coded, code_by, coded×, coded_ℕ, coded_list, coded_option}
use Rattle.std.proofs.Common.{refl}
use Rattle.mesh_base.specs.declared.limits.TheConstants.{LONGEST_PACKET}
use Rattle.mesh_io.specs.Calls.{CallsSeen, no_calls, fails_next, with_call, with_fault}
use Rattle.mesh_io.specs.declared.source.Failed.{Failed}
use Rattle.mesh_link.specs.declared.sure.SureLink.{SureLink}
use Rattle.mesh_link.specs.Datagrams.{Datagram, datagram}

-- the port at which the link is open; the datagrams that have arrived and those that were sent; how
-- many more there is room for; and the calls so far
pub record LinkSeen : Type 0 where
  pub port : Option ℕ
  pub arrived : List Datagram
  pub sent : List Datagram
  pub room : ℕ
  pub calls : CallsSeen

-- a link that isn't open, with room for this many datagrams, which fails at these calls
abbrev pub new_link : ℕ → List ℕ → LinkSeen
new_link room fails =
    record { port = None; arrived = []; sent = []; room = room; calls = no_calls fails }

-- one more datagram has arrived
abbrev pub with_arrival : LinkSeen → ℕ → List ℕ → LinkSeen
with_arrival link port bytes =
    record link { arrived = link.arrived ++ datagram port bytes ∷ [] }

-- the i-th datagram that was sent
abbrev pub sent_at : LinkSeen → ℕ → Datagram
sent_at link i = get_or link.sent i (datagram 0 [])

-- each room is large enough for the longest packet
abbrev pub AreRooms : List ℕ → Type 0
AreRooms rooms = AllByRecursion (λ most. LONGEST_PACKET ≤ most) rooms

-- the link after a call that fails, and after one that doesn't
abbrev pub after_failure : LinkSeen → LinkSeen
after_failure link = record link { calls = with_fault (with_call link.calls) }

abbrev pub after_call : LinkSeen → LinkSeen
after_call link = record link { calls = with_call link.calls }

-- a send of this many bytes fails: by plan, for lack of room, or because they are too many
abbrev pub refuses : LinkSeen → ℕ → Bool
refuses link size = fails_next link.calls || link.room == 0 || nat_lt LONGEST_PACKET size

-- the link after a call of each kind
abbrev pub after_open : LinkSeen → ℕ → LinkSeen
after_open link port =
    if fails_next link.calls then after_failure link
    else record (after_call link) { port = Some port }

abbrev pub after_send : LinkSeen → ℕ → List ℕ → LinkSeen
after_send link port bytes =
    if refuses link (length bytes) then after_failure link
    else record (after_call link) {
      sent = link.sent ++ datagram port bytes ∷ [];
      room = link.room - 1;
    }

-- all but the first datagram
abbrev pub without_first : List Datagram → List Datagram
without_first [] = []
without_first (d ∷ ds) = ds

abbrev pub after_receive : LinkSeen → LinkSeen
after_receive link =
    if fails_next link.calls then after_failure link
    else record (after_call link) { arrived = without_first link.arrived }

-- ---- a link that never fails

-- the port at which the link is open, and the datagram that has arrived
abbrev pub sure_port : SureLink → Option ℕ
sure_port link = link.port

abbrev pub left_of : ℕ → Option (List ℕ) → List Datagram
left_of from None = []
left_of from (Some bytes) = datagram from bytes ∷ []

abbrev pub sure_arrived : SureLink → List Datagram
sure_arrived link = left_of link.from link.datagram

-- ---- codes, by which proofs tell such values apart

abbrev pub datagram_code : Coded Datagram
datagram_code =
    code_by (ℕ × List ℕ) (coded× coded_ℕ (coded_list coded_ℕ)) (λ d. (d.port, d.bytes))
    (λ p. record { port = p.0; bytes = p.1 }) (λ _. refl)
