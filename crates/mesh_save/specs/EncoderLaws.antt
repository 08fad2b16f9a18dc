-- What an encoder has taken in two parts it has taken as a whole.
use Rattle.std.proofs.Common.{◌≡◌, ℕ, Bool, true, false, List, [], ◌++◌, Option, refl, sym, ap, subst, ◌∙◌, append_assoc, append-nil, length-append, arith}
use Rattle.std.proofs.lemmas.Bool.{true≢false}
use Rattle.mesh_io.specs.Puts.{AppendsPrefix}
use Rattle.mesh_io.proofs.Writing.{Appends-none, Appends-join, AppendsPrefix-join, AppendsPrefix-more}
use Rattle.mesh_save.specs.Encoders.{HasMeasured, HasFailed, HasWritten, HasKept}

pub measured_nothing : (n : ℕ) → HasMeasured n [] n
measured_nothing n = omega arith

pub measured_both : (l m n : ℕ) (a b : List ℕ) → HasMeasured l a m → HasMeasured m b n
    → HasMeasured l (a ++ b) n
measured_both l m n a b one two = omega (arith, length-append a b, one, two)

pub written_nothing : (f : Bool) (x : Option (List ℕ)) (m : ℕ) (g : List ℕ)
    → HasWritten f f x x m m g g []
written_nothing true x m g = (refl, refl, refl)
written_nothing false x m g =
    (record { handed = []; whole = append-nil g; grown = Appends-none x }, refl)

seam : (p a b d q : List ℕ) → p ++ a ≡ d ++ q → p ++ (a ++ b) ≡ d ++ (q ++ b)
seam p a b d q same =
    sym (append_assoc p a b) ∙ ap (λ (t : List ℕ). t ++ b) same ∙ append_assoc d q b

pub written_both : (f g h : Bool) (x y z : Option (List ℕ)) (l m n : ℕ) (p q r a b : List ℕ)
    → HasWritten f g x y l m p q a → HasWritten g h y z m n q r b
    → HasWritten f h x z l n p r (a ++ b)
written_both true true h x y z l m n p q r a b one two =
    (two.0, two.1 ∙ one.1, two.2 ∙ one.2)
written_both true false h x y z l m n p q r a b one two = absurd (true≢false (sym one.0))
written_both false true true x y z l m n p q r a b one two =
    let same : p ++ (a ++ b) ≡ (p ++ a) ++ b = sym (append_assoc p a b) in
    let grown = subst (λ (w : Option (List ℕ)). AppendsPrefix x w (p ++ a)) (sym two.1) one.0 in
    let failed = subst (λ (k : ℕ). HasFailed l k) (sym two.2) one.1 in
    (AppendsPrefix-more x z (p ++ a) b (p ++ (a ++ b)) same grown, failed)
written_both false true false x y z l m n p q r a b one two = absurd (true≢false (sym two.0))
written_both false false true x y z l m n p q r a b one two =
    let front = one.0 in
    let same = seam p a b front.handed q front.whole in
    let failed = subst (λ (k : ℕ). HasFailed k n) one.1 two.1 in (
      AppendsPrefix-join x y z front.handed (q ++ b) (p ++ (a ++ b)) same front.grown two.0,
      failed,
    )
written_both false false false x y z l m n p q r a b one two =
    let front = one.0 in
    let back = two.0 in
    let all = front.handed ++ back.handed in
    let next = ap (λ (t : List ℕ). front.handed ++ t) back.whole in (
      record {
        handed = all;
        whole = seam p a b front.handed q front.whole ∙ next
            ∙ sym (append_assoc front.handed back.handed r);
        grown = Appends-join x y z front.handed back.handed all refl front.grown back.grown;
      },
      two.1 ∙ one.1,
    )

pub kept_nothing : (f : Bool) (p : List ℕ) → HasKept f f p p []
kept_nothing f p going = (going, sym (append-nil p))

pub kept_both : (f g h : Bool) (p q r a b : List ℕ)
    → HasKept f g p q a → HasKept g h q r b → HasKept f h p r (a ++ b)
kept_both f g h p q r a b one two going =
    let back = two going in
    let front = one back.0 in
    (front.0, back.1 ∙ ap (λ (t : List ℕ). t ++ b) front.1 ∙ append_assoc p a b)
