-- What a channel decides of a copy, by random words.
use Rattle.std.specs.Prelude.{ℕ, ◌+◌, ◌%◌, nat_lt, Bool, if◌then◌else◌, Some, None}
use Rattle.rand_pcg.specs.Lcg.{Lcg}
use Rattle.mesh_make.specs.Words.{word, after}
use Rattle.mesh_fates.specs.declared.rates.Rates.{Rates}
use Rattle.mesh_fates.specs.declared.fate.Lot.{Lot}
use Rattle.mesh_fates.specs.declared.fate.Fate.{Fate}
use Rattle.mesh_fates.specs.Rates.{loss_of}

-- whether something with this rate, in thousandths, happens by this word
abbrev pub happens_at : ℕ → ℕ → Bool
happens_at rate w = nat_lt (w % 1000) rate

-- a delay from 0 to the greatest
abbrev pub delay_by : Rates → ℕ → ℕ
delay_by rates w = w % (rates.late + 1)

-- a lot, by two words: the first for the loss, the second for the delay
abbrev pub lot_by : Rates → Bool → ℕ → ℕ → Lot
lot_by rates unicast w v = record {
  lost = happens_at (loss_of rates unicast) w;
  delay = delay_by rates v;
}

-- the lot by the next two words of a generator
abbrev pub next_lot : Rates → Bool → Lcg → Lot
next_lot rates unicast rng = lot_by rates unicast (word rng) (word (after rng))

-- a fate and the generator after the words that it took
pub record Draw : Type 0 where
  pub fate : Fate
  pub rng : Lcg

-- the fate of a copy with this lot; a third word has said whether it is doubled. If so, two more
-- words give the lot of the double
abbrev pub draw_by : Rates → Bool → Lot → (doubled : Bool) → Lcg → Draw
draw_by rates unicast lot doubled rng =
    if doubled
    then record {
      fate = record { lot = lot; double = Some (next_lot rates unicast rng) };
      rng = after (after rng);
    }
    else record { fate = record { lot = lot; double = None }; rng = rng }

-- the fate of a copy by three words, or by five if it is doubled
unfoldable pub draw : Rates → Bool → Lcg → Draw
draw rates unicast rng =
    let third = after (after rng) in
    draw_by rates unicast (next_lot rates unicast rng) (happens_at rates.double (word third))
    (after third)
