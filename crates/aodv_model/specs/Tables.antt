-- Part of what the headline says.
-- Routing tables: what they say of a destination, and how they change (RFC 3561, sections 2 and
-- 6.2; AWN's functions sqn, sqnf, nhop, dhops, precs, update, invalidate and addpreRT).
-- A node is its index in the mesh. Numbers have no greatest value here: Fullness says which steps
-- aren't made because a field is full.
use Rattle.std.specs.Prelude.{ℕ, Bool, true, false, not, ◌&&◌, ◌||◌, ◌==◌, nat_lt, if◌then◌else◌, Option, Some, None, map, unwrap_or}
use Rattle.std.specs.Ordering.{nat_cmp}
use Rattle.std.specs.FinMap as maps
use Rattle.std.specs.FinMap.{FinMap}
use Rattle.std.specs.FinSet as sets
use Rattle.mesh_base.specs.Members.{NodeIds}
use Rattle.aodv_model.specs.declared.entry.Entry.{Entry}
use Rattle.aodv_model.specs.declared.entry.Known.{Known}
use Rattle.aodv_model.specs.declared.entry.Known.TheVariants.{Unk}
use Rattle.aodv_model.specs.declared.entry.Flag.TheVariants.{Inv}
use Rattle.aodv_model.specs.Quality.{is_kno, is_val, inc}

-- at most one entry for each destination
abbrev pub Table : Type 0
Table = FinMap nat_cmp Entry

-- destinations with a sequence number each, as a route error names them
abbrev pub Dests : Type 0
Dests = FinMap nat_cmp ℕ

-- the destinations that a table or a map of numbers has
abbrev pub dests_of : {V : Type 0} → FinMap nat_cmp V → NodeIds
dests_of m = sets.from_list (maps.keys m)

-- ---- what a table says of a destination

-- the sequence number of an entry, or 0
abbrev pub number_in : Option Entry → ℕ
number_in None = 0
number_in (Some e) = e.dsn

-- whether the number of an entry is known; `Unk` if there is no entry
abbrev pub status_in : Option Entry → Known
status_in None = Unk
status_in (Some e) = e.dsk

-- there is an entry, and it is valid
abbrev pub is_valid_in : Option Entry → Bool
is_valid_in None = false
is_valid_in (Some e) = is_val e.flag

-- there is an entry, and it is invalid
abbrev pub is_invalid_in : Option Entry → Bool
is_invalid_in None = false
is_invalid_in (Some e) = not (is_val e.flag)

-- there is an entry
abbrev pub is_some_in : Option Entry → Bool
is_some_in None = false
is_some_in (Some e) = true

-- the next hop of an entry, or 0
abbrev pub next_in : Option Entry → ℕ
next_in None = 0
next_in (Some e) = e.next

-- the hops of an entry, or 0
abbrev pub hops_in : Option Entry → ℕ
hops_in None = 0
hops_in (Some e) = e.hops

-- the precursors of an entry, or none
abbrev pub pre_in : Option Entry → NodeIds
pre_in None = sets.empty
pre_in (Some e) = e.pre

-- d's sequence number, or 0 (unknown) if it has no entry
abbrev pub sqn : Table → ℕ → ℕ
sqn rt d = number_in (maps.get rt d)

-- whether d's number is known: `Unk` if it has no entry
abbrev pub sqnf : Table → ℕ → Known
sqnf rt d = status_in (maps.get rt d)

-- d has a valid entry
abbrev pub in_vD : Table → ℕ → Bool
in_vD rt d = is_valid_in (maps.get rt d)

-- d has an invalid entry
abbrev pub in_iD : Table → ℕ → Bool
in_iD rt d = is_invalid_in (maps.get rt d)

-- d has an entry
abbrev pub in_kD : Table → ℕ → Bool
in_kD rt d = is_some_in (maps.get rt d)

-- d's next hop; this and the next two are read only if d has an entry
abbrev pub nhop : Table → ℕ → ℕ
nhop rt d = next_in (maps.get rt d)

-- the number of hops to d
abbrev pub dhops : Table → ℕ → ℕ
dhops rt d = hops_in (maps.get rt d)

-- d's precursors
abbrev pub precs : Table → ℕ → NodeIds
precs rt d = pre_in (maps.get rt d)

-- ---- update

-- r has the greater number
abbrev pub is_newer : Entry → Entry → Bool
is_newer r s = nat_lt s.dsn r.dsn

-- r has the same number and is the shorter route: it has fewer hops, or s is invalid
abbrev pub is_shorter : Entry → Entry → Bool
is_shorter r s = (s.dsn == r.dsn) && (nat_lt r.hops s.hops || not (is_val s.flag))

-- What becomes of the entry s when a valid entry r comes for the same destination, by the first of
-- these cases that applies:
--   1. there is no s: r is added (entry_after, below)
--   2. r is newer than s: r, with the precursors of both
--   3. r is shorter than s: r, with the precursors of both
--   4. r's number is unknown: r, with the precursors of both and the number of s
--   5. otherwise: s, with the precursors of both
unfoldable pub merge : Entry → Entry → Entry
merge s r =
    if is_newer r s then record r { pre = sets.union s.pre r.pre }
    else if is_shorter r s then record r { pre = sets.union s.pre r.pre }
    else if not (is_kno r.dsk) then record r { dsn = s.dsn; pre = sets.union s.pre r.pre }
    else record s { pre = sets.union s.pre r.pre }

-- the entry after r has come: case 1, or one of the others
abbrev pub entry_after : Option Entry → Entry → Entry
entry_after None r = r
entry_after (Some s) r = merge s r

-- the table after r has come for the destination d; all other destinations keep their entries
unfoldable pub update : Table → ℕ → Entry → Table
update rt d r = maps.insert rt d (entry_after (maps.get rt d) r)

-- ---- invalidation, and precursors

-- the map with the same keys, and the values that f gives
unfoldable pub map_values : {V W : Type 0} → (ℕ → V → W) → FinMap nat_cmp V → FinMap nat_cmp W
map_values f m = maps.from_entries (map (λ e. (e.0, f e.0 e.1)) (maps.entries m))

-- the entry with the number that is stated for it, and invalid; or as it is, if none is stated
abbrev pub invalidated : Entry → Option ℕ → Entry
invalidated e None = e
invalidated e (Some n) = record e { dsn = n; flag = Inv }

-- each entry whose destination is in the map has the number stated there, and is invalid; all else
-- stays
unfoldable pub invalidate : Table → Dests → Table
invalidate rt dests = map_values (λ d e. invalidated e (maps.get dests d)) rt

-- the entry e of k, once the nodes have joined the precursors of d
abbrev pub add_pre_at : ℕ → NodeIds → ℕ → Entry → Entry
add_pre_at d nodes k e = if k == d then record e { pre = sets.union e.pre nodes } else e

-- the nodes join the precursors of d's entry
unfoldable pub add_pre : Table → ℕ → NodeIds → Table
add_pre rt d nodes = map_values (add_pre_at d nodes) rt

-- ---- the destinations that a break or a route error names (RFC 3561, section 6.11)

-- the entry is valid, and its next hop is y
abbrev pub goes_by : Option Entry → ℕ → Bool
goes_by None y = false
goes_by (Some e) y = is_val e.flag && (e.next == y)

-- when the link to y breaks: each destination of a valid entry with next hop y, with the next
-- number (0, which is unknown, stays 0)
unfoldable pub unreachable_by : Table → ℕ → Dests
unreachable_by rt y =
    map_values (λ d e. inc e.dsn) (maps.retain_keys rt (λ d. goes_by (maps.get rt d) y))

-- the pairs of a route error from y whose destination has a valid entry with next hop y and a
-- smaller number
unfoldable pub accepted_unreachable : Table → ℕ → Dests → Dests
accepted_unreachable rt y dests =
    maps.retain_keys dests
    (λ d. goes_by (maps.get rt d) y && nat_lt (sqn rt d) (unwrap_or (maps.get dests d) 0))
