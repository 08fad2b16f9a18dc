-- What calls that receive have found, one after another.
use Rattle.std.proofs.Common.{◌≡◌, ℕ, zero, suc, ◌≤◌, List, [], ◌∷◌, Option, Some, None, Ok, length, take, refl, sym, ap, ◌∙◌, subst, arith, inl, inr}
use Rattle.std.proofs.lemmas.Bool.{cases_lt}
use Rattle.std.specs.Prelude.{min, IfSome}
use Rattle.mesh_link.specs.Datagrams.{Datagram, datagram, TakesFirst, Receives}
use Rattle.mesh_router.specs.declared.limits.TheConstants.{MOST_RECEIVED}
use Rattle.mesh_router.specs.Finds.{Find, AreNext, arrivals, AreOf, AreFound}
use Rattle.mesh_router.specs.Polls.{received_bytes}

-- ---- one after another

-- what was found is what is found next
pub next-self : (xs : List Find) → AreNext xs xs
next-self [] = tt
next-self (x ∷ xs) = (refl, next-self xs)

-- where they are told, those that have arrived are what is found
pub told-next : (ds : List Datagram) (b : Option (List Datagram)) (xs : List Find) → AreFound (Some ds) b xs → AreNext (arrivals ds) xs
told-next ds b xs p = p.next

-- ---- one call

-- a datagram that was received
pub record Received (arrived left : Option (List Datagram)) (port : ℕ) (bytes : List ℕ) : Type 0 where
  pub datagram : Datagram
  pub port_is : datagram.port ≡ port
  pub bytes_are : received_bytes datagram.bytes ≡ bytes
  pub taken : AreFound arrived left (Some datagram ∷ [])

take-all : (n : ℕ) (xs : List ℕ) → length xs ≤ n → take n xs ≡ xs
take-all zero [] le = refl
take-all zero (x ∷ xs) le = absurd (omega arith)
take-all (suc n) [] le = refl
take-all (suc n) (x ∷ xs) le = ap (λ l. x ∷ l) (take-all n xs (omega arith))

take-min : (n : ℕ) (xs : List ℕ) → take (min (length xs) n) xs ≡ take n xs
take-min n xs = elim (cases_lt (length xs) n) [
  | inl few ↦ ap (λ (k : ℕ). take k xs) (let e : min (length xs) n ≡ length xs = omega arith in e) ∙ take-all (length xs) xs (omega arith) ∙ sym (take-all n xs (omega arith))
  | inr many ↦ ap (λ (k : ℕ). take k xs) (let e : min (length xs) n ≡ n = omega arith in e)
]

length-take-le : (n : ℕ) (xs : List ℕ) → length (take n xs) ≤ n
length-take-le zero [] = omega arith
length-take-le zero (x ∷ xs) = omega arith
length-take-le (suc n) [] = omega arith
length-take-le (suc n) (x ∷ xs) = let up = length-take-le n xs in omega arith

first_received : (d : Datagram) (ds : List Datagram) (now : Option (List Datagram)) (port n : ℕ) (buf : List ℕ) → length buf ≡ MOST_RECEIVED → TakesFirst (d ∷ ds) now port n buf → Received (Some (d ∷ ds)) now port (take n buf)
first_received d ds now port n buf size t = record {
  datagram = d;
  port_is = t.1;
  bytes_are = sym (take-min MOST_RECEIVED d.bytes) ∙ ap (λ (k : ℕ). take k d.bytes) (sym (t.2 ∙ ap (min (length d.bytes)) size)) ∙ sym t.3;
  taken = record { left = ds; now_is = t.0; next = (refl, tt); others = refl };
}

pub one_received : (before now : Option (List Datagram)) (port n : ℕ) (buf : List ℕ) → length buf ≡ MOST_RECEIVED → n ≤ length buf → Receives before now (Ok (Some (port, n))) buf → Received before now port (take n buf)
one_received None now port n buf size le t = record {
  datagram = datagram port (take n buf);
  port_is = refl;
  bytes_are = take-all MOST_RECEIVED (take n buf) (let few = length-take-le n buf in omega arith);
  taken = t;
}
one_received (Some []) now port n buf size le t = absurd t
one_received (Some (d ∷ ds)) now port n buf size le t = first_received d ds now port n buf size t

none_of : (ds : List Datagram) (now : Option (List Datagram)) → ds ≡ [] → now ≡ Some ds → AreOf ds now (None ∷ [])
none_of [] now e is = record { left = []; now_is = is; next = (refl, tt); others = refl }
none_of (d ∷ ds) now e is = absurd cc

pub none_received : (before now : Option (List Datagram)) (buf : List ℕ) → Receives before now (Ok None) buf → AreFound before now (None ∷ [])
none_received None now buf t = t.0
none_received (Some ds) now buf t = none_of ds now t.1 t.0

-- the same of what a call has answered
pub received_of : (before now : Option (List Datagram)) (o : Option (ℕ × ℕ)) (port size : ℕ) (buf : List ℕ) → o ≡ Some (port, size) → length buf ≡ MOST_RECEIVED → IfSome o (λ p. p.1 ≤ length buf) → Receives before now (Ok o) buf → Received before now port (take size buf)
received_of before now o port size buf is long bound t =
    one_received before now port size buf long (subst (λ (q : Option (ℕ × ℕ)). IfSome q (λ p. p.1 ≤ length buf)) is bound)
    (subst (λ (q : Option (ℕ × ℕ)). Receives before now (Ok q) buf) is t)
