-- What holds of the definitions, whatever the code.
use Rattle.std.specs.Prelude.{◌≡◌, ◌≢◌, ℕ, List, ◌∷◌, ◌++◌, Some, None, Contains, AllPairs, IsTrue}
use Rattle.mesh_base.specs.declared.addr.Addr.{Addr}
use Rattle.aodv_wire.specs.declared.message.Message.{Message}
use Rattle.aodv_wire.specs.Layout.{is_whole}
use Rattle.aodv_wire.specs.RouteRequest as rreq
use Rattle.aodv_wire.specs.RouteReply as rrep
use Rattle.aodv_wire.specs.RouteError as rerr
use Rattle.aodv_wire.specs.DataPacket as data_packet
use Rattle.aodv_wire.specs.Encodes.{Encodes}

-- each bit of a packet belongs to one field of its table
pub record EachBitOnce : Type 0 where
  pub request : IsTrue (is_whole rreq.table rreq.fields 0 192)
  pub reply : IsTrue (is_whole rrep.table rrep.fields 0 160)
  pub error : IsTrue (is_whole rerr.table rerr.fields 0 32)
  pub pair : IsTrue (is_whole rerr.pair_table rerr.pair_fields 0 64)
  pub datum : IsTrue (is_whole data_packet.table data_packet.fields 0 96)

-- a list of bytes encodes at most one message
abbrev pub EncodesOne : Type 0
EncodesOne = (b : List ℕ) (m n : Message) → Encodes b m → Encodes b n → m ≡ n

-- no two of these addresses are the same
abbrev pub AreDistinct : List Addr → Type 0
AreDistinct xs = AllPairs (λ s t. s ≢ t) xs

-- a is in the list and also among the addresses before it there, and those are distinct
pub record IsFirstRepeated (xs : List Addr) (a : Addr) : Type 0 where
  pub before : List Addr
  pub after : List Addr
  pub whole : xs ≡ before ++ a ∷ after
  pub earlier : Contains before a
  pub distinct : AreDistinct before

-- the address that a refusal names is the first that repeats an earlier one
abbrev pub RepeatedIsFirst : Type 0
RepeatedIsFirst =
    (ps : List (Addr × ℕ)) (a : Addr) → rerr.repeated_address ps ≡ Some a
    → IsFirstRepeated (rerr.addresses ps) a

-- if none is named, no two are the same
abbrev pub OthersAreDistinct : Type 0
OthersAreDistinct =
    (ps : List (Addr × ℕ)) → rerr.repeated_address ps ≡ None → AreDistinct (rerr.addresses ps)
