-- What is written, line by line, and that it encodes its message.
use Rattle.std.proofs.Common.{◌≡◌, ℕ, suc, ◌+◌, ◌*◌, ◌/◌, ◌%◌, ◌^◌, ◌<◌, ◌≤◌, Bool, true, false, cond, eqb, List, [], ◌∷◌, ◌++◌, length, get_or, None, refl, ap, ◌∙◌, eq-eqb, arith}
use Rattle.std.proofs.lemmas.Bool.{ne_eqb, le-ltb}
use Rattle.std.proofs.lemmas.List.{length-append}
use Rattle.std.specs.List.{flat_map, AllByRecursion}
use Rattle.byteorder.specs.Endian.{big_from, big_bytes}
use Rattle.byteorder.specs.Numbers.{big_number-reads_back}
use Rattle.mesh_base.specs.declared.addr.Addr.{Addr}
use Rattle.aodv_wire.specs.declared.route_request.Rreq as code_rreq
use Rattle.aodv_wire.specs.declared.route_reply.Rrep as code_rrep
use Rattle.aodv_wire.specs.declared.message.Message.TheVariants.{Rreq, Rrep, Rerr, Parcel}
use Rattle.aodv_wire.specs.Layout.{number_at, field_at, line_of}
use Rattle.aodv_wire.specs.RouteRequest as rreq
use Rattle.aodv_wire.specs.RouteReply as rrep
use Rattle.aodv_wire.specs.RouteError as rerr
use Rattle.aodv_wire.specs.DataPacket as data_packet
use Rattle.aodv_wire.specs.Encodes.{Encodes, kind, encoding}
use Rattle.aodv_wire.proofs.Repeats.{AllBelow, AllBelow-push, not_seen}
use Rattle.aodv_wire.proofs.Lines.{refusal_rreq, refusal_rrep, refusal_rerr, refusal_data, said_rreq, said_rrep, said_rerr, said_data}

-- a line of four octets
pub line_octets : (n x0 x1 x2 x3 : ℕ) → x0 < 256 → x1 < 256 → x2 < 256 → x3 < 256 → n ≡ x0 * 16777216 + x1 * 65536 + x2 * 256 + x3 → big_bytes 4 n ≡ x0 ∷ x1 ∷ x2 ∷ x3 ∷ []
line_octets n x0 x1 x2 x3 h0 h1 h2 h3 is =
    let a : n / 16777216 % 256 ≡ x0 = omega arith in
    let b : n / 65536 % 256 ≡ x1 = omega arith in
    let c : n / 256 % 256 ≡ x2 = omega arith in
    let d : n % 256 ≡ x3 = omega arith in
    rw (a, b, c, d) refl

both : (a b c d : List ℕ) → a ≡ b → c ≡ d → a ++ c ≡ b ++ d
both a b c d e f = cc

-- a line whose number is known, and what follows it
line_then : (n m : ℕ) (c d : List ℕ) → n ≡ m → c ≡ d → big_bytes 4 n ++ c ≡ big_bytes 4 m ++ d
line_then n m c d e f = both (big_bytes 4 n) (big_bytes 4 m) c d (ap (big_bytes 4) e) f

line_last : (n m : ℕ) → n ≡ m → big_bytes 4 n ++ [] ≡ big_bytes 4 m ++ []
line_last n m e = ap (λ (x : ℕ). big_bytes 4 x ++ []) e

-- ---- a request

abbrev pub rreq_cells : code_rreq.Rreq → List ℕ
rreq_cells m = (1 ∷ cond m.known 0 8 ∷ 0 ∷ m.hops ∷ []) ++ big_bytes 4 m.id ++ big_bytes 4 m.dip.0 ++ big_bytes 4 m.dsn ++ big_bytes 4 m.oip.0 ++ big_bytes 4 m.osn

rreq_first : (known : Bool) (hops n : ℕ) → hops < 256 → n ≡ 16777216 + cond known 0 1 * 524288 + hops → big_bytes 4 n ≡ 1 ∷ cond known 0 8 ∷ 0 ∷ hops ∷ []
rreq_first true hops n h is = line_octets n 1 0 0 hops (omega arith) (omega arith) (omega arith) h (omega arith)
rreq_first false hops n h is = line_octets n 1 8 0 hops (omega arith) (omega arith) (omega arith) h (omega arith)

pub rreq_written : (m : code_rreq.Rreq) → m.hops < 256 → encoding (Rreq m) ≡ rreq_cells m
unfolding encoding
rreq_written m h =
    let l0 : line_of rreq.table (rreq.value m) 0 rreq.fields ≡ 16777216 + cond m.known 0 1 * 524288 + m.hops = omega arith in
    let l1 : line_of rreq.table (rreq.value m) 1 rreq.fields ≡ m.id = omega arith in
    let l2 : line_of rreq.table (rreq.value m) 2 rreq.fields ≡ m.dip.0 = omega arith in
    let l3 : line_of rreq.table (rreq.value m) 3 rreq.fields ≡ m.dsn = omega arith in
    let l4 : line_of rreq.table (rreq.value m) 4 rreq.fields ≡ m.oip.0 = omega arith in
    let l5 : line_of rreq.table (rreq.value m) 5 rreq.fields ≡ m.osn = omega arith in
    both _ _ _ _ (rreq_first m.known m.hops _ h l0) (line_then _ _ _ _ l1 (line_then _ _ _ _ l2 (line_then _ _ _ _ l3 (line_then _ _ _ _ l4 (line_last _ _ l5)))))

-- ---- a reply

abbrev pub rrep_cells : code_rrep.Rrep → List ℕ
rrep_cells m = (2 ∷ 0 ∷ 0 ∷ m.hops ∷ []) ++ big_bytes 4 m.dip.0 ++ big_bytes 4 m.dsn ++ big_bytes 4 m.oip.0 ++ big_bytes 4 4294967295

pub rrep_written : (m : code_rrep.Rrep) → m.hops < 256 → encoding (Rrep m) ≡ rrep_cells m
unfolding encoding
rrep_written m h =
    let l0 : big_bytes 4 (line_of rrep.table (rrep.value m) 0 rrep.fields) ≡ 2 ∷ 0 ∷ 0 ∷ m.hops ∷ [] = line_octets _ 2 0 0 m.hops (omega arith) (omega arith) (omega arith) h (omega arith) in
    let l1 : line_of rrep.table (rrep.value m) 1 rrep.fields ≡ m.dip.0 = omega arith in
    let l2 : line_of rrep.table (rrep.value m) 2 rrep.fields ≡ m.dsn = omega arith in
    let l3 : line_of rrep.table (rrep.value m) 3 rrep.fields ≡ m.oip.0 = omega arith in
    let l4 : line_of rrep.table (rrep.value m) 4 rrep.fields ≡ 4294967295 = omega arith in
    both _ _ _ _ l0 (line_then _ _ _ _ l1 (line_then _ _ _ _ l2 (line_then _ _ _ _ l3 (line_last _ _ l4))))

-- ---- a datum

abbrev pub data_cells : data_packet.Datum → List ℕ
data_cells m = (16 ∷ 0 ∷ 0 ∷ 0 ∷ []) ++ big_bytes 4 m.dip.0 ++ big_bytes 4 m.oip.0 ++ m.body

pub data_written : (m : data_packet.Datum) → encoding (Parcel m) ≡ data_cells m
unfolding encoding
data_written m =
    let l1 : line_of data_packet.table (data_packet.value m.dip m.oip) 1 data_packet.fields ≡ m.dip.0 = omega arith in
    let l2 : line_of data_packet.table (data_packet.value m.dip m.oip) 2 data_packet.fields ≡ m.oip.0 = omega arith in
    rw (l1, l2) refl

-- ---- they encode

-- the first line of what is written of a request
record RreqFirst (known : Bool) (hops line : ℕ) : Type 0 where
  kind : line / 16777216 % 256 ≡ 1
  j : line / 8388608 % 2 ≡ 0
  r : line / 4194304 % 2 ≡ 0
  g : line / 2097152 % 2 ≡ 0
  d : line / 1048576 % 2 ≡ 0
  u : eqb (line / 524288 % 2) 0 ≡ known
  last : line / 1 % 256 ≡ hops

rreq_line : (known : Bool) (hops line : ℕ) → hops < 256 → line ≡ 1 * 16777216 + (cond known 0 8 * 65536 + (0 * 256 + (hops * 1 + 0))) → RreqFirst known hops line
rreq_line true hops line h is = record { kind = omega arith; j = omega arith; r = omega arith; g = omega arith; d = omega arith; u = eq-eqb _ 0 (omega arith); last = omega arith }
rreq_line false hops line h is = record { kind = omega arith; j = omega arith; r = omega arith; g = omega arith; d = omega arith; u = ne_eqb _ 0 (λ e. omega arith); last = omega arith }

pub rreq_encodes : (m : code_rreq.Rreq) → m.hops < 256 → m.id < 2 ^ 32 → m.dip.0 < 2 ^ 32 → m.dsn < 2 ^ 32 → m.oip.0 < 2 ^ 32 → m.osn < 2 ^ 32 → 1 ≤ m.osn → Encodes (rreq_cells m) (Rreq m)
rreq_encodes m hh hid hdip hdsn hoip hosn some =
    let b = rreq_cells m in
    let first = rreq_line m.known m.hops (big_from 0 4 b) hh refl in
    let l1 : number_at b (field_at 1 0 32) ≡ m.id = ap (λ (n : ℕ). n / 1 % 2 ^ 32) (big_number-reads_back 4 m.id [] hid) ∙ omega arith in
    let l2 : number_at b (field_at 2 0 32) ≡ m.dip.0 = ap (λ (n : ℕ). n / 1 % 2 ^ 32) (big_number-reads_back 4 m.dip.0 [] hdip) ∙ omega arith in
    let l3 : number_at b (field_at 3 0 32) ≡ m.dsn = ap (λ (n : ℕ). n / 1 % 2 ^ 32) (big_number-reads_back 4 m.dsn [] hdsn) ∙ omega arith in
    let l4 : number_at b (field_at 4 0 32) ≡ m.oip.0 = ap (λ (n : ℕ). n / 1 % 2 ^ 32) (big_number-reads_back 4 m.oip.0 [] hoip) ∙ omega arith in
    let l5 : number_at b (field_at 5 0 32) ≡ m.osn = ap (λ (n : ℕ). n / 1 % 2 ^ 32) (big_number-reads_back 4 m.osn [] hosn) ∙ omega arith in
    record {
      allowed = refusal_rreq b (omega arith) first.kind ∙ rw (first.j, first.r, first.g, first.d, l5, ne_eqb m.osn 0 (λ e. omega arith)) refl;
      stands = said_rreq b first.kind ∙ rw (first.last, first.u, l1, l2, l3, l4, l5) refl;
    }

pub rrep_encodes : (m : code_rrep.Rrep) → m.hops < 256 → m.dip.0 < 2 ^ 32 → m.dsn < 2 ^ 32 → m.oip.0 < 2 ^ 32 → 1 ≤ m.dsn → Encodes (rrep_cells m) (Rrep m)
rrep_encodes m hh hdip hdsn hoip some =
    let b = rrep_cells m in
    let k : kind b ≡ 2 = omega arith in
    let r : number_at b (field_at 0 8 1) ≡ 0 = omega arith in
    let a : number_at b (field_at 0 9 1) ≡ 0 = omega arith in
    let p : number_at b (field_at 0 19 5) ≡ 0 = omega arith in
    let last : number_at b (field_at 0 24 8) ≡ m.hops = omega arith in
    let l1 : number_at b (field_at 1 0 32) ≡ m.dip.0 = ap (λ (n : ℕ). n / 1 % 2 ^ 32) (big_number-reads_back 4 m.dip.0 [] hdip) ∙ omega arith in
    let l2 : number_at b (field_at 2 0 32) ≡ m.dsn = ap (λ (n : ℕ). n / 1 % 2 ^ 32) (big_number-reads_back 4 m.dsn [] hdsn) ∙ omega arith in
    let l3 : number_at b (field_at 3 0 32) ≡ m.oip.0 = ap (λ (n : ℕ). n / 1 % 2 ^ 32) (big_number-reads_back 4 m.oip.0 [] hoip) ∙ omega arith in
    record {
      allowed = refusal_rrep b (omega arith) k ∙ rw (r, a, p, l2, ne_eqb m.dsn 0 (λ e. omega arith)) refl;
      stands = said_rrep b k ∙ rw (last, l1, l2, l3) refl;
    }

pub data_encodes : (m : data_packet.Datum) → m.dip.0 < 2 ^ 32 → m.oip.0 < 2 ^ 32 → 1 ≤ length m.body → length m.body ≤ 512 → Encodes (data_cells m) (Parcel m)
data_encodes m hdip hoip some few =
    let b = data_cells m in
    let long : length b ≡ 12 + length m.body = omega arith in
    let k : kind b ≡ 16 = refl in
    let l1 : number_at b (field_at 1 0 32) ≡ m.dip.0 = ap (λ (n : ℕ). n / 1 % 2 ^ 32) (big_number-reads_back 4 m.dip.0 [] hdip) ∙ omega arith in
    let l2 : number_at b (field_at 2 0 32) ≡ m.oip.0 = ap (λ (n : ℕ). n / 1 % 2 ^ 32) (big_number-reads_back 4 m.oip.0 [] hoip) ∙ omega arith in
    record {
      allowed = refusal_data b (omega arith) k ∙ rw (le-ltb (length b) 13 (omega arith), le-ltb 524 (length b) (omega arith)) refl;
      stands = said_data b k ∙ rw (l1, l2) refl;
    }

-- ---- a route error

abbrev pub pair_cells : Addr × ℕ → List ℕ
pair_cells p = big_bytes 4 p.0.0 ++ big_bytes 4 p.1

abbrev pub rerr_cells : List (Addr × ℕ) → List ℕ
rerr_cells ps = (3 ∷ 0 ∷ 0 ∷ length ps ∷ []) ++ flat_map pair_cells ps

pair_is : (p : Addr × ℕ) → rerr.pair_bytes p ≡ pair_cells p
pair_is p =
    let l0 : line_of rerr.pair_table (rerr.pair_value p) 0 rerr.pair_fields ≡ p.0.0 = omega arith in
    let l1 : line_of rerr.pair_table (rerr.pair_value p) 1 rerr.pair_fields ≡ p.1 = omega arith in
    line_then _ _ _ _ l0 (line_last _ _ l1)

pairs_are : (ps : List (Addr × ℕ)) → flat_map rerr.pair_bytes ps ≡ flat_map pair_cells ps
pairs_are [] = refl
pairs_are (p ∷ ps) = both _ _ _ _ (pair_is p) (pairs_are ps)

pub rerr_written : (ps : List (Addr × ℕ)) → length ps < 256 → encoding (Rerr ps) ≡ rerr_cells ps
unfolding encoding
rerr_written ps few =
    let first : big_bytes 4 (line_of rerr.table (rerr.value (length ps)) 0 rerr.fields) ≡ 3 ∷ 0 ∷ 0 ∷ length ps ∷ [] = line_octets _ 3 0 0 (length ps) (omega arith) (omega arith) (omega arith) few (omega arith) in
    both _ _ _ _ (both _ _ [] [] first refl) (pairs_are ps)

abbrev pub PairFits : Addr × ℕ → Type 0
PairFits p = (p.0.0 < 2 ^ 32) × (p.1 < 2 ^ 32)

-- what fits at each index fits
pub each_fits : (ps : List (Addr × ℕ)) → ((k : ℕ) (d : Addr × ℕ) → k < length ps → PairFits (get_or ps k d)) → AllByRecursion PairFits ps
each_fits [] each = tt
each_fits (p ∷ ps) each = (each 0 p (omega arith), each_fits ps (λ k d h. each (suc k) d (omega arith)))

none_repeated : (seen : List Addr) (p : Addr × ℕ) (ps : List (Addr × ℕ)) → AllBelow seen p.0.0 → rerr.IsRising (p ∷ ps) → rerr.first_repeated seen (rerr.addresses (p ∷ ps)) ≡ None
none_repeated seen p [] all rising = rw (not_seen seen p.0.0 p.0.0 (omega arith) all) refl
none_repeated seen p (q ∷ ps) all rising =
    rw (not_seen seen p.0.0 p.0.0 (omega arith) all) (none_repeated (seen ++ p.0 ∷ []) q ps (AllBelow-push seen p.0 p.0.0 q.0.0 (omega (arith, rising.0)) rising.0 all) rising.1)

-- rising addresses are named once each
pub rising_is_distinct : (ps : List (Addr × ℕ)) → rerr.IsRising ps → rerr.repeated_address ps ≡ None
rising_is_distinct [] rising = refl
rising_is_distinct (p ∷ ps) rising = none_repeated [] p ps tt rising

length-pair_cells : (ps : List (Addr × ℕ)) → length (flat_map pair_cells ps) ≡ 8 * length ps
length-pair_cells [] = refl
length-pair_cells (p ∷ ps) = let ih = length-pair_cells ps in omega (arith, ih, length-append (pair_cells p) (flat_map pair_cells ps))

pairs_again : (ps : List (Addr × ℕ)) → AllByRecursion PairFits ps → rerr.pairs (length ps) (flat_map pair_cells ps) ≡ ps
pairs_again [] fits = refl
pairs_again (p ∷ ps) fits =
    let all = pair_cells p ++ flat_map pair_cells ps in
    let first : number_at all (field_at 0 0 32) ≡ p.0.0 = ap (λ (n : ℕ). n / 1 % 2 ^ 32) (big_number-reads_back 4 p.0.0 [] fits.0.0) ∙ omega (arith, fits.0.0) in
    let second : number_at all (field_at 1 0 32) ≡ p.1 = ap (λ (n : ℕ). n / 1 % 2 ^ 32) (big_number-reads_back 4 p.1 [] fits.0.1) ∙ omega (arith, fits.0.1) in
    rw (first, second, pairs_again ps fits.1) refl

pub rerr_encodes : (ps : List (Addr × ℕ)) → rerr.AreDestinations ps → AllByRecursion PairFits ps → Encodes (rerr_cells ps) (Rerr ps)
rerr_encodes ps dests fits =
    let b = rerr_cells ps in
    let few = dests.few in
    let some = dests.some in
    let k : kind b ≡ 3 = omega arith in
    let n : number_at b (field_at 0 8 1) ≡ 0 = omega arith in
    let count : number_at b (field_at 0 24 8) ≡ length ps = omega arith in
    let long : length b ≡ 4 + 8 * length ps = omega (arith, length-pair_cells ps) in
    let named : rerr.destinations b ≡ ps = rw count (pairs_again ps fits) in
    record {
      allowed = refusal_rerr b (omega arith) k ∙ rw (n, count, le-ltb (length b) 4 (omega arith), eq-eqb (length b) (4 + 8 * length ps) long, ne_eqb (length ps) 0 (λ e. omega arith), pairs_again ps fits, rising_is_distinct ps dests.rising) refl;
      stands = said_rerr b k ∙ ap Rerr named;
    }
