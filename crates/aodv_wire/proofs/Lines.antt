-- Lines of a packet, the octets and flags of the first one, and what a packet's type decides.
use Rattle.std.proofs.Common.{◌≡◌, ℕ, zero, suc, ◌+◌, ◌*◌, ◌<◌, List, length, slice_index, get_or, drop, refl, ap, ◌∙◌, add-suc, Fits, w8, arith}
use Rattle.std.proofs.Math.Facts.{Fits-lt-pow}
use Rattle.std.proofs.lemmas.List.{get_or-drop}
use Rattle.std.proofs.lemmas.Bool.{ne_eqb}
use Rattle.byteorder.specs.Endian.{big_from}
use Rattle.aodv_wire.specs.declared.message.Message.TheVariants.{Rreq, Rrep, Rerr, Parcel}
use Rattle.aodv_wire.specs.RouteRequest as rreq
use Rattle.aodv_wire.specs.RouteReply as rrep
use Rattle.aodv_wire.specs.RouteError as rerr
use Rattle.aodv_wire.specs.DataPacket as data_packet
use Rattle.aodv_wire.specs.Encodes.{kind, refusal, message_in_fields}

abbrev pub AreBytes : List ℕ → Type 0
AreBytes b = (k : ℕ) → slice_index b k < 256

pub are_bytes : (b : List ℕ) → ((k : ℕ) → Fits w8 (get_or b k 0)) → AreBytes b
are_bytes b fit k = Fits-lt-pow (fit k)

-- the number of a line by its four octets
pub octets : (b : List ℕ) → big_from 0 4 b ≡ slice_index b 0 * 16777216 + slice_index b 1 * 65536 + slice_index b 2 * 256 + slice_index b 3
octets b = omega arith

-- bytes that are dropped before a number is read
pub big_from-drop : (i j n : ℕ) (b : List ℕ) → big_from j n (drop i b) ≡ big_from (i + j) n b
big_from-drop i j zero b = refl
big_from-drop i j (suc n) b =
    let rest : big_from (suc j) n (drop i b) ≡ big_from (suc (i + j)) n b = big_from-drop i (suc j) n b ∙ ap (λ (k : ℕ). big_from k n b) (add-suc i j) in
    rw (get_or-drop i b j 0, rest) refl

-- ---- the type decides

pub refusal_rreq : (b : List ℕ) → 0 < length b → kind b ≡ 1 → refusal b ≡ rreq.refusal b
unfolding refusal
refusal_rreq b some is = rw (ne_eqb (length b) 0 (λ e. omega arith), is) refl

pub refusal_rrep : (b : List ℕ) → 0 < length b → kind b ≡ 2 → refusal b ≡ rrep.refusal b
unfolding refusal
refusal_rrep b some is = rw (ne_eqb (length b) 0 (λ e. omega arith), is) refl

pub refusal_rerr : (b : List ℕ) → 0 < length b → kind b ≡ 3 → refusal b ≡ rerr.refusal b
unfolding refusal
refusal_rerr b some is = rw (ne_eqb (length b) 0 (λ e. omega arith), is) refl

pub refusal_data : (b : List ℕ) → 0 < length b → kind b ≡ 16 → refusal b ≡ data_packet.refusal b
unfolding refusal
refusal_data b some is = rw (ne_eqb (length b) 0 (λ e. omega arith), is) refl

pub said_rreq : (b : List ℕ) → kind b ≡ 1 → message_in_fields b ≡ Rreq (rreq.request b)
unfolding message_in_fields
said_rreq b is = rw is refl

pub said_rrep : (b : List ℕ) → kind b ≡ 2 → message_in_fields b ≡ Rrep (rrep.reply b)
unfolding message_in_fields
said_rrep b is = rw is refl

pub said_rerr : (b : List ℕ) → kind b ≡ 3 → message_in_fields b ≡ Rerr (rerr.destinations b)
unfolding message_in_fields
said_rerr b is = rw is refl

pub said_data : (b : List ℕ) → kind b ≡ 16 → message_in_fields b ≡ Parcel (data_packet.datum b)
unfolding message_in_fields
said_data b is = rw is refl
