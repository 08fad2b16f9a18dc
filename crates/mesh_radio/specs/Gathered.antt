-- How a copy joins the last cast. No public contract cites this file.
use Rattle.std.specs.Prelude.{◌≡◌, ℕ, ◌+◌, ◌≤◌, length, None}
use Rattle.std.specs.FinSet.{insert}
use Rattle.mesh_base.specs.Members.{IsLeastFrom}
use Rattle.mesh_base.specs.declared.events.Flying.{Flying}
use Rattle.mesh_radio.specs.declared.casts.Cast.{Cast}
use Rattle.mesh_radio.specs.Casts.{Entry, size}

-- the cast could have made this copy after its others: it has the next id, the same sender and
-- packet, which is short, and a receiver after theirs
pub record IsNextOf (e : Entry) (f : Flying) : Type 0 where
  pub id : f.id ≡ e.0 + size e.1
  pub from : f.from ≡ (e.1).from
  pub bytes : f.bytes ≡ (e.1).bytes
  pub short : length f.bytes ≤ 32
  pub after : IsLeastFrom (e.1).to f.to None

-- the cast with a copy to that receiver too, which flies
abbrev pub with_receiver : Cast → ℕ → Cast
with_receiver c to = record c { to = insert c.to to; left = insert c.left to }
