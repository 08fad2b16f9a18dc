use Rattle.std.proofs.Common.{eqb, Some, sym, subst, arith, w8, w64}
use Rattle.std.specs.Int.{trailing_zeros}
use Rattle.std.specs.Simd.Lanes.{chunk}
use Rattle.std.proofs.lemmas.Nat.Bits.{bit_at-trailing_zeros}
use Rattle.std.proofs.lemmas.Simd.{bitmask_splat, length-chunk}
use Rattle.memchr.specs.Find.{IsFirstByte, is_byte}
use Rattle.mesh_io.proofs.Near.{marks_of, marks_fit, first_mark}
use Rattle.mesh_io.proofs.decision.near_end.Goals as goal

pub returns : goal.returns
returns c =
    let bytes = c.args.bytes.now in
    let long = c.if-bytes-lt16.false in
    let is = bitmask_splat w8 eqb (chunk 0 16 bytes) 16 10 (length-chunk 0 16 bytes (omega arith)) (omega arith) in
    let some = c.if-marks-eq0.false in
    let bits = bit_at-trailing_zeros w64 (marks_of bytes) (omega (arith, some, is)) (marks_fit bytes long) in
    subst (λ m. IsFirstByte (is_byte 10) bytes (Some (trailing_zeros w64 m))) (sym is)
    (first_mark bytes (trailing_zeros w64 (marks_of bytes)) long bits.1 bits.2)
