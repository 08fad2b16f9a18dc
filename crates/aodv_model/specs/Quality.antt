-- Part of what the headline says.
-- Sequence numbers and the quality of entries.
use Rattle.std.specs.Prelude.{ℕ, ◌+◌, ◌-◌, ◌==◌, Bool, true, false, ◌&&◌, ◌||◌, nat_lt, if◌then◌else◌}
use Rattle.aodv_model.specs.declared.entry.Known.{Known}
use Rattle.aodv_model.specs.declared.entry.Known.TheVariants.{Kno, Unk}
use Rattle.aodv_model.specs.declared.entry.Flag.{Flag}
use Rattle.aodv_model.specs.declared.entry.Flag.TheVariants.{Val, Inv}
use Rattle.aodv_model.specs.declared.entry.Entry.{Entry}

abbrev pub is_kno : Known → Bool
is_kno Kno = true
is_kno Unk = false

abbrev pub is_val : Flag → Bool
is_val Val = true
is_val Inv = false

-- the next sequence number (RFC 3561, section 6.1). Number 0 is unknown, and stays so
abbrev pub inc : ℕ → ℕ
inc n = if n == 0 then 0 else n + 1

-- the net number of an entry: one less if the route broke, since the break raised it (0 stays 0)
abbrev pub nsqn : Entry → ℕ
nsqn e = if is_val e.flag || (e.dsn == 0) then e.dsn else e.dsn - 1

-- a is better than b: it has a greater net number, or the same one with fewer hops
abbrev pub is_better : Entry → Entry → Bool
is_better a b = nat_lt (nsqn b) (nsqn a) || ((nsqn a == nsqn b) && nat_lt a.hops b.hops)
