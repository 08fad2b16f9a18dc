-- What is proved of a channel.
use Rattle.std.specs.Prelude.{ℕ, zero, suc, ◌+◌, ◌*◌, ◌≡◌, ◌⊎◌, ⊤, Bool, true, if◌then◌else◌, is_some, List, [], ◌∷◌}
use Rattle.std.specs.List.{AllByRecursion, Contains}
use Rattle.rand_pcg.specs.Lcg.{Lcg}
use Rattle.mesh_make.specs.Words.{after}
use Rattle.mesh_model.specs.Worlds.{Event, Double}
use Rattle.mesh_fates.specs.declared.rates.Rates.{Rates}
use Rattle.mesh_fates.specs.declared.due.Due.{Due}
use Rattle.mesh_fates.specs.declared.fate.Fate.{Fate}
use Rattle.mesh_fates.specs.Fates.{draw}
use Rattle.mesh_fates.specs.Plans.{Plan, is_before}
use Rattle.mesh_fates.specs.Channels.{Channel, decided, with_double}

-- ---- rates of 0

-- if the rates of loss and doubling are 0, no copy is lost or doubled: what is left to do is
-- unchanged
abbrev pub LosslessLeavesNothing : Type 0
LosslessLeavesNothing =
    (rates : Rates) (unicast : Bool) (count id new : ℕ) (c : Channel) → rates.loss ≡ 0
    → rates.loss_unicast ≡ 0 → rates.double ≡ 0
    → (decided rates unicast count id new c).left ≡ c.left

-- the copy was planned before, or is due in the next tick
abbrev pub IsOldOrNext : Channel → Due → Type 0
IsOldOrNext c d = Contains c.plan d ⊎ (d.tick ≡ c.tick + 1)

-- if no copy is late, each that is planned is due in the next tick
abbrev pub PromptIsDueNext : Type 0
PromptIsDueNext =
    (rates : Rates) (unicast : Bool) (count id new : ℕ) (c : Channel) → rates.late ≡ 0
    → AllByRecursion (IsOldOrNext c) (decided rates unicast count id new c).plan

-- ---- the plan

-- each copy is before all that come after it in the list
abbrev pub IsOrdered : Plan → Type 0
IsOrdered [] = ⊤
IsOrdered (d ∷ plan) = AllByRecursion (λ e. is_before d e ≡ true) plan × IsOrdered plan

-- a plan stays ordered by tick, and then by number
abbrev pub DecidingKeepsOrder : Type 0
DecidingKeepsOrder =
    (rates : Rates) (unicast : Bool) (count id new : ℕ) (c : Channel) → IsOrdered c.plan
    → IsOrdered (decided rates unicast count id new c).plan

-- it also stays so when the input makes a double
abbrev pub DoublingKeepsOrder : Type 0
DoublingKeepsOrder =
    (rates : Rates) (id : ℕ) (c : Channel) → IsOrdered c.plan
    → IsOrdered (with_double rates id c).plan

-- ---- the words

-- a generator after this many words
abbrev pub after_words : ℕ → Lcg → Lcg
after_words zero rng = rng
after_words (suc n) rng = after_words n (after rng)

-- how many words a fate takes
abbrev pub words_of : Fate → ℕ
words_of fate = if is_some fate.double then 5 else 3

-- a fate takes three words, or five if the copy is doubled
abbrev pub FatesTakeWords : Type 0
FatesTakeWords =
    (rates : Rates) (unicast : Bool) (rng : Lcg)
    → (draw rates unicast rng).rng ≡ after_words (words_of (draw rates unicast rng).fate) rng

-- how many doublings are among the events
abbrev pub doublings_in : List Event → ℕ
doublings_in [] = 0
doublings_in (Double id ∷ events) = suc (doublings_in events)
doublings_in (others ∷ events) = doublings_in events

-- the copies of a cast take three words each, and two more for each of them that is doubled
abbrev pub CastsTakeWords : Type 0
CastsTakeWords =
    (rates : Rates) (unicast : Bool) (count id new : ℕ) (c : Channel) → (doubled : ℕ)
    × (doublings_in (decided rates unicast count id new c).left ≡ doublings_in c.left + doubled)
    × ((decided rates unicast count id new c).rng ≡ after_words (3 * count + 2 * doubled) c.rng)
