-- What a capture holds of a copy that was heard or lost: its packet as a UDP datagram (RFC 768)
-- from its sender to its receiver, in an IPv4 packet (RFC 791). All numbers are big-endian.
use Rattle.std.specs.Prelude.{ℕ, zero, suc, ◌+◌, ◌-◌, ◌*◌, ◌/◌, ◌%◌, Bool, if◌then◌else◌, List, [], ◌∷◌, ◌++◌, length}
use Rattle.byteorder.specs.Endian.{big_bytes}
use Rattle.aodv_wire.specs.Encodes.{is_data}
use Rattle.mesh_capture.specs.declared.frame.Frame.{Frame}
use Rattle.mesh_capture.specs.declared.frame.TheConstants.{AODV_PORT, DATA_PORT, LINK_TYPE}

-- the sum of the 16-bit words of some bytes; a last byte without a partner is the high byte of its
-- word
unfoldable pub words_sum : List ℕ → ℕ
words_sum [] = 0
words_sum (high ∷ []) = 256 * high
words_sum (high ∷ low ∷ bytes) = 256 * high + low + words_sum bytes

-- a sum in ones' complement: what goes past 16 bits is added again
abbrev pub carry : ℕ → ℕ
carry zero = 0
carry (suc n) = suc (n % 65535)

-- the Internet checksum (RFC 1071)
abbrev pub checksum : List ℕ → ℕ
checksum bytes = 65535 - carry (words_sum bytes)

-- ---- the datagram

-- the source and destination port of a packet: data packets have a port of their own
abbrev pub port_of : List ℕ → ℕ
port_of packet = if is_data packet then DATA_PORT else AODV_PORT

abbrev pub datagram_size : Frame → ℕ
datagram_size f = 8 + length f.packet

-- the datagram with this checksum
abbrev pub datagram_with : ℕ → Frame → List ℕ
datagram_with sum f =
    big_bytes 2 (port_of f.packet) ++ big_bytes 2 (port_of f.packet)
    ++ big_bytes 2 (datagram_size f) ++ big_bytes 2 sum ++ f.packet

-- the addresses, the protocol and the size, which the datagram's checksum covers too
abbrev pub pseudo_header : Frame → List ℕ
pseudo_header f =
    big_bytes 4 f.from ++ big_bytes 4 f.to ++ 0 ∷ 17 ∷ big_bytes 2 (datagram_size f)

-- a checksum of 0 is sent as 65535, since 0 says that there is none
abbrev pub sent_checksum : ℕ → ℕ
sent_checksum zero = 65535
sent_checksum (suc n) = suc n

abbrev pub datagram_checksum : Frame → ℕ
datagram_checksum f = sent_checksum (checksum (pseudo_header f ++ datagram_with 0 f))

unfoldable pub datagram : Frame → List ℕ
datagram f = datagram_with (datagram_checksum f) f

-- ---- the packet

abbrev pub packet_size : Frame → ℕ
packet_size f = 20 + datagram_size f

-- the identification of the packet: 1 for a copy that was lost
abbrev pub mark_of : Bool → ℕ
mark_of lost = if lost then 1 else 0

-- the header with this checksum: version 4, five words, service 0, size, identification, no
-- fragment, 64 hops, UDP, the checksum and the addresses
abbrev pub header_with : ℕ → Frame → List ℕ
header_with sum f =
    69 ∷ 0 ∷ big_bytes 2 (packet_size f) ++ big_bytes 2 (mark_of f.lost) ++ 0 ∷ 0 ∷ 64 ∷ 17
    ∷ big_bytes 2 sum ++ big_bytes 4 f.from ++ big_bytes 4 f.to

unfoldable pub header : Frame → List ℕ
header f = header_with (checksum (header_with 0 f)) f

-- ---- the file

-- the header of the file, in the classic pcap format: its magic number, version 2.4, no time zone,
-- no accuracy, the longest packet, and raw IPv4 as the link type
unfoldable pub file_header : List ℕ
file_header =
    big_bytes 4 2712847316 ++ big_bytes 2 2 ++ big_bytes 2 4 ++ big_bytes 4 0 ++ big_bytes 4 0
    ++ big_bytes 4 65535 ++ big_bytes 4 LINK_TYPE

-- what comes before a packet in the file: the seconds and microseconds of its time, which is the
-- event's number in milliseconds; and the packet's size, in the file and as it was sent
abbrev pub record_header : Frame → List ℕ
record_header f =
    big_bytes 4 (f.event / 1000) ++ big_bytes 4 (1000 * (f.event % 1000))
    ++ big_bytes 4 (packet_size f) ++ big_bytes 4 (packet_size f)

-- a packet in the file
unfoldable pub record_of : Frame → List ℕ
record_of f = record_header f ++ header f ++ datagram f
