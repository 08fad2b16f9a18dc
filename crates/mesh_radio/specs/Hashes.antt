-- What the hasher of numbers computes. No public contract cites this file.
use Rattle.std.specs.Prelude.{ℕ, ◌*◌, ◌%◌, ◌^◌, List, length, nat_eq, if◌then◌else◌}
use Rattle.std.specs.Int.{w64, from_le_bytes}
use Rattle.mesh_radio.specs.declared.hashes.NumberHasher.{NumberHasher}

-- 2^64 divided by the golden ratio
abbrev pub golden : ℕ
golden = 0x9e37_79b9_7f4a_7c15

-- eight bytes are a number, the lowest first, which is multiplied; any other count of bytes changes
-- nothing
abbrev pub written : NumberHasher → List ℕ → NumberHasher
written h bytes =
    if nat_eq (length bytes) 8 then record { product = (from_le_bytes w64 bytes * golden) % 2 ^ 64 }
    else h
