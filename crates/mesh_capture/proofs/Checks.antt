-- What a receiver of a packet checks.
use Rattle.std.proofs.Common.{◌≡◌, ℕ, ◌+◌, ◌*◌, ◌<◌, ◌≤◌, List, [], ◌∷◌, ◌++◌, length, refl, ap, ◌∙◌, arith}
use Rattle.std.specs.Int.{byte_at}
use Rattle.std.specs.Prelude.{zero, suc}
use Rattle.std.proofs.lemmas.List.{length-append}
use Rattle.byteorder.specs.Endian.{big_bytes}
use Rattle.mesh_capture.specs.declared.frame.Frame.{Frame}
use Rattle.mesh_capture.specs.Frames.{carry, words_sum, checksum, sent_checksum, port_of, datagram_size, datagram_with, pseudo_header, datagram_checksum, datagram, packet_size, mark_of, header_with, header, record_header, record_of}
use Rattle.mesh_capture.proofs.Sums.{checked, checked_sent}

two_bytes : (s : ℕ) → s < 65536 → 256 * byte_at 1 s + byte_at 0 s ≡ s
two_bytes s h = omega arith

-- a word in the place of 0
replaced : (n : ℕ) (front : List ℕ) (x y : ℕ) (rest : List ℕ) → length front ≡ 2 * n → words_sum (front ++ x ∷ y ∷ rest) ≡ words_sum (front ++ 0 ∷ 0 ∷ rest) + (256 * x + y)
unfolding words_sum
replaced n [] x y rest h = let e : 256 * x + y + words_sum rest ≡ (256 * 0 + 0 + words_sum rest) + (256 * x + y) = omega arith in e
replaced n (a ∷ []) x y rest h = absurd (let one : 1 ≡ 2 * n = h in omega arith)
replaced zero (a ∷ b ∷ front) x y rest h = absurd (omega arith)
replaced (suc n) (a ∷ b ∷ front) x y rest h =
    let fewer : length front ≡ 2 * n = omega (arith, h) in
    let ih = replaced n front x y rest fewer in
    let e : 256 * a + b + words_sum (front ++ x ∷ y ∷ rest) ≡ (256 * a + b + words_sum (front ++ 0 ∷ 0 ∷ rest)) + (256 * x + y) = omega (arith, ih) in e

-- ---- the header

before_sum : Frame → List ℕ
before_sum f = 69 ∷ 0 ∷ big_bytes 2 (packet_size f) ++ big_bytes 2 (mark_of f.lost) ++ 0 ∷ 0 ∷ 64 ∷ 17 ∷ []

header_with_sum : (s : ℕ) (f : Frame) → s < 65536 → words_sum (header_with s f) ≡ words_sum (header_with 0 f) + s
unfolding before_sum
header_with_sum s f h =
    replaced 5 (before_sum f) (byte_at 1 s) (byte_at 0 s) (big_bytes 4 f.from ++ big_bytes 4 f.to) refl
    ∙ ap (λ k. words_sum (header_with 0 f) + k) (two_bytes s h)

header_has_sum : (f : Frame) → 1 ≤ words_sum (header_with 0 f)
unfolding words_sum
header_has_sum f = let e : 1 ≤ 256 * 69 + 0 + words_sum (big_bytes 2 (packet_size f) ++ big_bytes 2 (mark_of f.lost) ++ 0 ∷ 0 ∷ 64 ∷ 17 ∷ 0 ∷ 0 ∷ big_bytes 4 f.from ++ big_bytes 4 f.to) = omega arith in e

pub header_sums : (f : Frame) → carry (words_sum (header f)) ≡ 65535
unfolding header
header_sums f =
    ap carry (header_with_sum (checksum (header_with 0 f)) f (omega arith)) ∙ checked (words_sum (header_with 0 f)) (header_has_sum f)

-- ---- the datagram

before_datagram_sum : Frame → List ℕ
before_datagram_sum f = pseudo_header f ++ big_bytes 2 (port_of f.packet) ++ big_bytes 2 (port_of f.packet) ++ big_bytes 2 (datagram_size f)

datagram_with_sum : (s : ℕ) (f : Frame) → s < 65536 → words_sum (pseudo_header f ++ datagram_with s f) ≡ words_sum (pseudo_header f ++ datagram_with 0 f) + s
unfolding before_datagram_sum
datagram_with_sum s f h =
    replaced 9 (before_datagram_sum f) (byte_at 1 s) (byte_at 0 s) f.packet refl
    ∙ ap (λ k. words_sum (pseudo_header f ++ datagram_with 0 f) + k) (two_bytes s h)

datagram_has_sum : (f : Frame) → 1 ≤ words_sum (pseudo_header f ++ datagram_with 0 f)
unfolding words_sum
datagram_has_sum f =
    let rest : ℕ = words_sum (big_bytes 2 (datagram_size f) ++ datagram_with 0 f) in
    let e : 1 ≤ 256 * byte_at 3 f.from + byte_at 2 f.from + (256 * byte_at 1 f.from + byte_at 0 f.from + (256 * byte_at 3 f.to + byte_at 2 f.to + (256 * byte_at 1 f.to + byte_at 0 f.to + (256 * 0 + 17 + rest)))) = omega arith in e

sent_fits : (s : ℕ) → s < 65536 → sent_checksum s < 65536
sent_fits zero h = omega arith
sent_fits (suc s) h = h

pub datagram_sums : (f : Frame) → carry (words_sum (pseudo_header f ++ datagram f)) ≡ 65535
unfolding datagram
datagram_sums f =
    ap carry (datagram_with_sum (datagram_checksum f) f (sent_fits _ (omega arith)))
    ∙ checked_sent (words_sum (pseudo_header f ++ datagram_with 0 f)) (datagram_has_sum f)

-- ---- the size

pub packet_length : (f : Frame) → length (record_of f) ≡ 16 + packet_size f
unfolding record_of header datagram
packet_length f =
    let sum : ℕ = datagram_checksum f in
    let head : List ℕ = big_bytes 2 (port_of f.packet) ++ big_bytes 2 (port_of f.packet) ++ big_bytes 2 (datagram_size f) ++ big_bytes 2 sum in
    let all = length-append (record_header f ++ header_with (checksum (header_with 0 f)) f ++ head) f.packet in
    let front : length (record_header f ++ header_with (checksum (header_with 0 f)) f ++ head) ≡ 44 = refl in
    let e : length (record_of f) ≡ length (record_header f ++ header_with (checksum (header_with 0 f)) f ++ head) + length f.packet = all in
    omega (arith, e, front)
