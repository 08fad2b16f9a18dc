-- How much a buffer gathers.
use Rattle.std.specs.Prelude.{ℕ}

-- the most bytes that are gathered
abbrev pub buffer_size : ℕ
buffer_size = 65536
