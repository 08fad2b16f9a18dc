-- Bounds that no run reaches. They keep what is counted within the 64 bits that hold it.
use Rattle.std.specs.Prelude.{ℕ, ◌^◌}

-- more bytes than any slice has
abbrev pub slice_end : ℕ
slice_end = 2 ^ 63

-- a step may be taken after fewer steps than this, a line done after fewer than half as many, and a
-- run begun after fewer than a quarter
abbrev pub most_steps : ℕ
most_steps = 2 ^ 48

abbrev pub most_steps_before_line : ℕ
most_steps_before_line = 2 ^ 47

abbrev pub most_steps_before_run : ℕ
most_steps_before_run = 2 ^ 46

-- a line may be counted after fewer lines than this, and a run begun after fewer than half as many
abbrev pub most_lines : ℕ
most_lines = 2 ^ 62

abbrev pub most_lines_before_run : ℕ
most_lines_before_run = 2 ^ 61
