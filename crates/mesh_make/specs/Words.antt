-- Part of what the headline says.
-- The words of a seed: the outputs of 32 bits, one after the other, of the PCG32 generator that the
-- seed makes.
use Rattle.std.specs.Prelude.{ℕ}
use Rattle.rand_core.specs.Pcg32Seed.{pcg32_seed}
use Rattle.rand_pcg.specs.Lcg.{Lcg}
use Rattle.rand_pcg.specs.Pcg.{pcg32, pcg32_of_seed}

-- the generator that a seed makes, through 16 bytes that are made from the seed
unfoldable pub of_seed : ℕ → Lcg
of_seed seed = pcg32_of_seed (pcg32_seed 16 seed)

-- the next word of a generator
unfoldable pub word : Lcg → ℕ
word rng = (pcg32 rng).0

-- the generator after that word is drawn
unfoldable pub after : Lcg → Lcg
after rng = (pcg32 rng).1
