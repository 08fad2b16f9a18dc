-- What a call leaves in the caller's own memory.
use Rattle.std.specs.Prelude.{◌≡◌, ℕ, ◌-◌, ◌++◌, Bool, true, false, Option, Some, None, Result, Ok, Err, is_some, unwrap_or, List, length, replicate}
use Rattle.mesh_base.specs.declared.limits.TheConstants.{LONGEST_DATUM, LONGEST_PACKET, MOST_NODES}
use Rattle.aodv_model.specs.declared.entry.Flag.{Flag}
use Rattle.aodv_model.specs.declared.entry.Flag.TheVariants as flags
use Rattle.aodv_model.specs.declared.entry.Known.{Known}
use Rattle.aodv_model.specs.declared.entry.Known.TheVariants as knowns
use Rattle.aodv_router.specs.declared.outcome.Outcome as told
use Rattle.aodv_router.specs.declared.outcome.Row as rows
use Rattle.aodv_router.specs.declared.answers.Stranger.{Stranger}
use Rattle.aodv_c.specs.declared.outcome.Outcome.{Outcome}
use Rattle.aodv_c.specs.declared.outcome.Row.{Row}
use Rattle.aodv_c.specs.declared.outcome.Addrs.{Addrs}
use Rattle.aodv_c.specs.Codes.{took_code, from_of, dest_of, cast_code}

-- an array of this size: the elements, and after them zeros
abbrev pub padded : ℕ → List ℕ → List ℕ
padded size xs = xs ++ replicate (size - length xs) 0

-- the outcome of the router, field by field. As many of an array's first elements count as the
-- field before it says, and the others are 0
pub record LaysOut (o : told.Outcome) (out : Outcome) : Type 0 where
  pub took : out.took ≡ took_code o.took
  pub from : out.from ≡ from_of o.took
  pub dest : out.dest ≡ dest_of o.took
  pub delivered : out.delivered ≡ o.delivered
  pub lost : out.lost ≡ o.lost
  pub broken : out.broken ≡ is_some o.broken
  pub broke : out.broke ≡ unwrap_or o.broken 0
  pub cast : out.cast ≡ cast_code o.cast
  pub to_len : out.to_len ≡ length (o.to).items
  pub to : out.to ≡ padded MOST_NODES (o.to).items
  pub packet_len : out.packet_len ≡ length (o.packet).items
  pub packet : out.packet ≡ padded LONGEST_PACKET (o.packet).items
  pub body_len : out.body_len ≡ length (o.body).items
  pub body : out.body ≡ padded LONGEST_DATUM (o.body).items

-- if the router has an outcome, it is laid out; otherwise the caller's is as it was
abbrev pub IsLaid : {E : Type 0} → Result told.Outcome E → Outcome → Outcome → Type 0
IsLaid (Ok o) old new = LaysOut o new
IsLaid (Err e) old new = new ≡ old

-- the list has these addresses
pub record LaysAddrs (rising : List ℕ) (list : Addrs) : Type 0 where
  pub len : list.len ≡ length rising
  pub addrs : list.addrs ≡ padded MOST_NODES rising

abbrev pub is_known : Known → Bool
is_known knowns.Kno = true
is_known knowns.Unk = false

abbrev pub is_valid : Flag → Bool
is_valid flags.Val = true
is_valid flags.Inv = false

-- an entry of the table
pub record LaysRow (r : rows.Row) (row : Row) : Type 0 where
  pub dsn : row.dsn ≡ r.dsn
  pub known : row.known ≡ is_known r.dsk
  pub valid : row.valid ≡ is_valid r.flag
  pub hops : row.hops ≡ r.hops
  pub next : row.next ≡ r.next
  pub pre_len : row.pre_len ≡ length (r.pre).items
  pub pre : row.pre ≡ padded MOST_NODES (r.pre).items

-- if there is an entry, it is laid out; otherwise the caller's row is as it was
abbrev pub IsRowLaid : Result (Option rows.Row) Stranger → Row → Row → Type 0
IsRowLaid (Ok (Some r)) old new = LaysRow r new
IsRowLaid (Ok None) old new = new ≡ old
IsRowLaid (Err e) old new = new ≡ old

-- if there is a value, it is written; otherwise the caller's is as it was
abbrev pub IsWritten : {A : Type 0} → Result A Stranger → A → A → Type 0
IsWritten (Ok x) old new = new ≡ x
IsWritten (Err e) old new = new ≡ old
