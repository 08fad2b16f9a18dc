-- How a channel treats copies.
use Rattle.std.specs.Prelude.{ℕ, Bool, if◌then◌else◌}
use Rattle.mesh_fates.specs.declared.rates.Rates.{Rates}

-- the rate of loss, in thousandths, of the copies of a cast: unicasts have a rate of their own
abbrev pub loss_of : Rates → Bool → ℕ
loss_of rates unicast = if unicast then rates.loss_unicast else rates.loss
