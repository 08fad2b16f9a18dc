-- Calls that are counted from 1, some of which fail by plan.
use Rattle.std.specs.Prelude.{ℕ, ◌+◌, ◌-◌, ◌^◌, min, Bool, nat_eq, List}
use Rattle.std.specs.List.{list_any}

-- the numbers of the calls that are to fail, how many were made, and how many failed
pub record CallsSeen : Type 0 where
  pub planned : List ℕ
  pub made : ℕ
  pub failed : ℕ

-- before the first call
abbrev pub no_calls : List ℕ → CallsSeen
no_calls planned = record { planned = planned; made = 0; failed = 0 }

-- the next value of a count, which stays at the last value of its type
abbrev pub one_more : ℕ → ℕ
one_more count = min (count + 1) (2 ^ 64 - 1)

-- the next call is one that is to fail
abbrev pub fails_next : CallsSeen → Bool
fails_next calls = list_any (λ number. nat_eq number (calls.made + 1)) calls.planned

-- one more call was made
abbrev pub with_call : CallsSeen → CallsSeen
with_call calls = record calls { made = one_more calls.made }

-- one more call has failed
abbrev pub with_fault : CallsSeen → CallsSeen
with_fault calls = record calls { failed = one_more calls.failed }
