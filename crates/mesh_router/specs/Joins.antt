-- What was written and sent, and what was found, one after another.
use Rattle.std.proofs.Common.{◌≡◌, ℕ, List, [], ◌∷◌, ◌++◌, Option, Some, None, refl, sym, ap, ◌∙◌, subst, append_assoc, append-nil}
use Rattle.std.specs.Prelude.{option_map}
use Rattle.std.specs.Io.KnownBytes.{Appends}
use Rattle.mesh_io.proofs.Writing.{Appends-join, Appends-none}
use Rattle.mesh_link.specs.Datagrams.{Datagram}
use Rattle.mesh_router.specs.Logs.{Log, Byte, Sent, nothing, followed_by, text_of, sent_of}
use Rattle.mesh_router.specs.Finds.{Find, later_finds, AreNext, left_after, arrivals, AreOf, AreFound}
use Rattle.mesh_router.specs.Outputs.{Outputs, SendsAll, Adds}

-- ---- texts and datagrams

text-none : text_of nothing ≡ []
unfolding text_of
text-none = refl

sent-none : sent_of nothing ≡ []
unfolding sent_of
sent-none = refl

text-join : (a b : Log) → text_of (followed_by a b) ≡ text_of a ++ text_of b
unfolding text_of
text-join [] b = refl
text-join (Byte c ∷ more) b = ap (λ (l : List ℕ). c ∷ l) (text-join more b)
text-join (Sent d ∷ more) b = text-join more b

sent-join : (a b : Log) → sent_of (followed_by a b) ≡ sent_of a ++ sent_of b
unfolding sent_of
sent-join [] b = refl
sent-join (Byte c ∷ more) b = sent-join more b
sent-join (Sent d ∷ more) b = ap (λ (l : List Datagram). d ∷ l) (sent-join more b)

pub sends-none : (a : Option (List Datagram)) → SendsAll a a []
sends-none None = refl
sends-none (Some xs) = ap Some (sym (append-nil xs))

sends-join : (a b c : Option (List Datagram)) (xs ys : List Datagram)
    → SendsAll a b xs → SendsAll b c ys → SendsAll a c (xs ++ ys)
sends-join None b c xs ys p q = q ∙ ap (option_map (λ l. l ++ ys)) p
sends-join (Some old) b c xs ys p q =
    q ∙ ap (option_map (λ l. l ++ ys)) p ∙ ap Some (append_assoc old xs ys)

pub adds-none : (a : Outputs) → Adds a a nothing
adds-none a = record {
  text = subst (λ (l : List ℕ). Appends a.0 a.0 l) (sym text-none) (Appends-none a.0);
  sent = subst (λ (l : List Datagram). SendsAll a.1 a.1 l) (sym sent-none) (sends-none a.1);
}

pub adds-join : (a b c : Outputs) (x y : Log) → Adds a b x → Adds b c y
    → Adds a c (followed_by x y)
adds-join a b c x y p q = record {
  text = Appends-join a.0 b.0 c.0 (text_of x) (text_of y) (text_of (followed_by x y))
      (text-join x y) p.text q.text;
  sent = subst (λ (l : List Datagram). SendsAll a.1 c.1 l) (sym (sent-join x y))
      (sends-join a.1 b.1 c.1 (sent_of x) (sent_of y) p.sent q.sent);
}

-- ---- finds

next-join : (all xs ys : List Find) → AreNext all xs → AreNext (left_after all xs) ys
    → AreNext all (xs ++ ys)
next-join all [] ys p q = q
next-join all (x ∷ xs) ys p q = (p.0, next-join (later_finds all) xs ys p.1 q)

pub next-front : (all xs ys : List Find) → AreNext all (xs ++ ys) → AreNext all xs
next-front all [] ys p = tt
next-front all (x ∷ xs) ys p = (p.0, next-front (later_finds all) xs ys p.1)

pub next-rest : (all xs ys : List Find) → AreNext all (xs ++ ys)
    → AreNext (left_after all xs) ys
next-rest all [] ys p = p
next-rest all (x ∷ xs) ys p = next-rest (later_finds all) xs ys p.1

pub left-join : (all xs ys : List Find)
    → left_after all (xs ++ ys) ≡ left_after (left_after all xs) ys
left-join all [] ys = refl
left-join all (x ∷ xs) ys = left-join (later_finds all) xs ys

pub found-none : (a : Option (List Datagram)) → AreFound a a []
found-none None = refl
found-none (Some ds) = record { left = ds; now_is = refl; next = tt; others = refl }

found-more : (ds left : List Datagram) (c : Option (List Datagram)) (xs ys : List Find)
    → AreNext (arrivals ds) xs → left_after (arrivals ds) xs ≡ arrivals left → AreOf left c ys
    → AreOf ds c (xs ++ ys)
found-more ds left c xs ys next others q = record {
  left = q.left;
  now_is = q.now_is;
  next = next-join (arrivals ds) xs ys next
      (subst (λ (l : List Find). AreNext l ys) (sym others) q.next);
  others = left-join (arrivals ds) xs ys ∙ ap (λ (l : List Find). left_after l ys) others
      ∙ q.others;
}

pub found-join : (a b c : Option (List Datagram)) (xs ys : List Find) → AreFound a b xs
    → AreFound b c ys → AreFound a c (xs ++ ys)
found-join None b c xs ys p q =
    (let h : AreFound None c ys = subst (λ (k : Option (List Datagram)). AreFound k c ys) p q in
    h)
found-join (Some ds) b c xs ys p q =
    found-more ds p.left c xs ys p.next p.others
    (subst (λ (k : Option (List Datagram)). AreFound k c ys) p.now_is q)
