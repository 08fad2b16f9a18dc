-- Datagrams that have arrived or were sent, each with a port, if a link's datagrams are known.
use Rattle.std.specs.Prelude.{ℕ, ◌≡◌, ◌++◌, min, List, [], ◌∷◌, length, take, Option, Some, None, Result, Ok, Err, option_map, IfSome, OnOk, OnErr}
use Rattle.mesh_io.specs.declared.source.Failed.{Failed}

-- a datagram from the port, or to it
pub record Datagram : Type 0 where
  pub port : ℕ
  pub bytes : List ℕ

abbrev pub datagram : ℕ → List ℕ → Datagram
datagram port bytes = record { port = port; bytes = bytes }

-- the first of these was taken, which came from this port, and its first n bytes, as many as fit,
-- are at the start of the buffer
abbrev pub TakesFirst : List Datagram → Option (List Datagram) → ℕ → ℕ → List ℕ → Type 0
TakesFirst [] now port n buf = ⊥
TakesFirst (d ∷ ds) now port n buf =
    (now ≡ Some ds) × (d.port ≡ port) × (n ≡ min (length d.bytes) (length buf))
    × (take n buf ≡ take n d.bytes)

-- the first datagram was taken, if the datagrams are known
abbrev pub TakesKnown : Option (List Datagram) → Option (List Datagram) → ℕ → ℕ → List ℕ → Type 0
TakesKnown None now port n buf = now ≡ None
TakesKnown (Some ds) now port n buf = TakesFirst ds now port n buf

-- a call that receives: the first datagram was taken; or nothing is there, so that no datagram is
-- left if they are known; or the call failed
abbrev pub Receives : Option (List Datagram) → Option (List Datagram)
    → Result (Option (ℕ × ℕ)) Failed → List ℕ → Type 0
Receives before now (Ok (Some p)) buf = TakesKnown before now p.0 p.1 buf
Receives before now (Ok None) buf = (now ≡ before) × IfSome before (λ ds. ds ≡ [])
Receives before now (Err e) buf = now ≡ before

-- one more datagram was sent, if the datagrams are known
abbrev pub with_datagram : Option (List Datagram) → ℕ → List ℕ → Option (List Datagram)
with_datagram known port bytes =
    option_map (λ ds. ds ++ datagram port bytes ∷ []) known

-- a call that sends
abbrev pub Sends : Option (List Datagram) → Option (List Datagram) → ℕ → List ℕ
    → Result (Unit {0}) Failed → Type 0
Sends before now port bytes result =
    OnOk result (now ≡ with_datagram before port bytes) × OnErr result (now ≡ before)
