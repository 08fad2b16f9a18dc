-- Writing a text in pieces, and through a buffer.
use Rattle.std.proofs.Common.{◌≡◌, ℕ, ◌≤◌, ◌+◌, ◌-◌, List, [], ◌∷◌, ◌++◌, Option, Some, None, Result, Ok, Err, refl, sym, ap, ◌∙◌, append_assoc, append-nil, take, drop, take-append-drop, length, subst, arith, length-append, OnOk, true, false, is_err}
use Rattle.std.proofs.lemmas.List.{take_rest, drop-append-le}
use Rattle.std.proofs.Math.Seq.{take-add, drop-append_seam}
use Rattle.std.specs.Result.{IsErr}
use Rattle.std.specs.Io.KnownBytes.{Appends, Keeps, append_known}
use Rattle.mesh_io.specs.Growth.{known_front}
use Rattle.mesh_io.specs.Puts.{AppendsPrefix, Puts}

-- a part and then the rest is the whole
pub Appends-join : (a b c : Option (List ℕ)) (xs ys zs : List ℕ) → zs ≡ xs ++ ys → Appends a b xs → Appends b c ys → Appends a c zs
Appends-join None b c xs ys zs e p q = tt
Appends-join (Some x) None c xs ys zs e p q = absurd p
Appends-join (Some x) (Some y) None xs ys zs e p q = absurd q
Appends-join (Some x) (Some y) (Some z) xs ys zs e p q = q ∙ ap (λ l. l ++ ys) p ∙ append_assoc x xs ys ∙ ap (λ l. x ++ l) (sym e)

-- no byte was written
pub Appends-kept : (a b : Option (List ℕ)) → Keeps a b → Appends a b []
Appends-kept None b h = tt
Appends-kept (Some x) None h = h
Appends-kept (Some x) (Some y) h = h ∙ sym (append-nil x)

-- no byte was written
pub Appends-none : (a : Option (List ℕ)) → Appends a a []
Appends-none None = tt
Appends-none (Some x) = sym (append-nil x)

-- nothing of it was written
pub AppendsPrefix-none : (a : Option (List ℕ)) (text : List ℕ) → AppendsPrefix a a text
AppendsPrefix-none a text = record { prefix = []; rest = text; whole = refl; grown = Appends-none a }

-- nor where what is held stays
pub AppendsPrefix-kept : (a b : Option (List ℕ)) (text : List ℕ) → Keeps a b → AppendsPrefix a b text
AppendsPrefix-kept a b text h = record { prefix = []; rest = text; whole = refl; grown = Appends-kept a b h }

-- a prefix of the second part
pub AppendsPrefix-join : (a b c : Option (List ℕ)) (xs ys zs : List ℕ) → zs ≡ xs ++ ys → Appends a b xs → AppendsPrefix b c ys → AppendsPrefix a c zs
AppendsPrefix-join a b c xs ys zs e p q = record {
  prefix = xs ++ q.prefix;
  rest = q.rest;
  whole = e ∙ ap (λ l. xs ++ l) q.whole ∙ sym (append_assoc xs q.prefix q.rest);
  grown = Appends-join a b c xs q.prefix (xs ++ q.prefix) refl p q.grown;
}

-- a part and then the rest
pub Puts-join : {T E : Type 0} (a b c : Option (List ℕ)) (xs ys zs : List ℕ) (r : Result T E) → zs ≡ xs ++ ys → Appends a b xs → Puts b c ys r → Puts a c zs r
Puts-join a b c xs ys zs (Ok x) e p q = Appends-join a b c xs ys zs e p q
Puts-join a b c xs ys zs (Err x) e p q = AppendsPrefix-join a b c xs ys zs e p q

-- the end of a piece
pub Puts-end : {T : Type 0} (E : Type 0) (a : Option (List ℕ)) (xs : List ℕ) (x : T) → length xs ≡ 0 → Puts {T = T} {E = E} a a xs (Ok x)
Puts-end E a [] x h = Appends-none a
Puts-end E a (y ∷ ys) x h = absurd (omega Rattle.std.proofs.Common.arith)

-- a prefix goes on with a prefix of the rest
pub take_on : (i n : ℕ) (xs : List ℕ) → take (i + n) xs ≡ take i xs ++ take n (take (length xs - i) (drop i xs))
take_on i n xs = rw take_rest (take-add i n xs)

-- what is held stays after the text
pub Appends-keeps : (a b c : Option (List ℕ)) (xs : List ℕ) → Appends a b xs → Keeps b c → Appends a c xs
Appends-keeps None b c xs p h = tt
Appends-keeps (Some x) None c xs p h = absurd p
Appends-keeps (Some x) (Some y) None xs p h = absurd h
Appends-keeps (Some x) (Some y) (Some z) xs p h = h ∙ p

-- what is held stays after a prefix of the text
pub AppendsPrefix-keeps : (a b c : Option (List ℕ)) (text : List ℕ) → AppendsPrefix a b text → Keeps b c → AppendsPrefix a c text
AppendsPrefix-keeps a b c text p h = record { prefix = p.prefix; rest = p.rest; whole = p.whole; grown = Appends-keeps a b c p.prefix p.grown h }

-- what is held stays after what was put
pub Puts-keeps : {T E : Type 0} (a b c : Option (List ℕ)) (text : List ℕ) (r : Result T E) → Puts a b text r → Keeps b c → Puts a c text r
Puts-keeps a b c text (Ok x) p h = Appends-keeps a b c text p h
Puts-keeps a b c text (Err x) p h = AppendsPrefix-keeps a b c text p h

-- a buffer that gathers nothing holds what its sink holds
pub append_known-nil : (known : Option (List ℕ)) (gathered : List ℕ) → gathered ≡ [] → append_known known gathered ≡ known
append_known-nil None gathered e = refl
append_known-nil (Some xs) gathered e = ap (λ l. Some (xs ++ l)) e ∙ ap (λ l. Some l) (append-nil xs)

-- a text went whole into a buffer, which then handed on all that it gathered
pub Appends-handed : (before now : Option (List ℕ)) (gathered text : List ℕ)
    → gathered ≡ [] → Appends before (append_known now gathered) text → Appends before now text
Appends-handed before now gathered text e p =
    let P : Option (List ℕ) → Type 0 = λ known. Appends before known text in subst P (append_known-nil now gathered e) p

-- a prefix of a text went into a buffer, which has handed on a part of it
pub AppendsPrefix-handed : (before now : Option (List ℕ)) (gathered text : List ℕ)
    → known_front before now ≡ before → AppendsPrefix before (append_known now gathered) text → AppendsPrefix before now text
AppendsPrefix-handed None now gathered text e p = record { prefix = []; rest = text; whole = refl; grown = tt }
AppendsPrefix-handed (Some xs) None gathered text e p = absurd p.grown
AppendsPrefix-handed (Some xs) (Some ys) gathered text e p = record
    { prefix = zs; rest = gathered ++ p.rest; whole = p.whole ∙ ap (λ l. l ++ p.rest) split ∙ append_assoc zs gathered p.rest; grown = on }
  where
    zs : List ℕ
    zs = drop (length xs) ys

    on : ys ≡ xs ++ drop (length xs) ys
    on =
        let kept : take (length xs) ys ≡ xs = cc in
        sym (take-append-drop (length xs) ys) ∙ ap (λ l. l ++ drop (length xs) ys) kept

    split : p.prefix ≡ drop (length xs) ys ++ gathered
    split =
        let long = ap length on in
        let both = length-append xs (drop (length xs) ys) in
        sym (drop-append_seam xs p.prefix) ∙ ap (drop (length xs)) (sym p.grown) ∙ drop-append-le (length xs) ys gathered (omega arith)

-- a prefix of a text that was put through a buffer was put to its sink
pub AppendsPrefix-through : (before start opened closed now : Option (List ℕ)) (text : List ℕ) → before ≡ start → opened ≡ before
    → (AppendsPrefix start closed text → AppendsPrefix start now text) → AppendsPrefix opened closed text → AppendsPrefix before now text
AppendsPrefix-through before start opened closed now text s e prefix p =
    let P : Option (List ℕ) → Type 0 = λ known. AppendsPrefix known closed text in
    let Q : Option (List ℕ) → Type 0 = λ known. AppendsPrefix known now text in
    subst Q (sym s) (prefix (subst P (e ∙ s) p))

-- a text that was put whole through a buffer, which handed on all, was put to its sink
pub Appends-through : (before opened closed now : Option (List ℕ)) (text : List ℕ) → opened ≡ before → now ≡ closed
    → Appends opened closed text → Appends before now text
Appends-through before opened closed now text e whole p =
    let P : Option (List ℕ) → Type 0 = λ known. Appends known closed text in
    let Q : Option (List ℕ) → Type 0 = λ known. Appends before known text in
    subst Q (sym whole) (subst P e p)

-- what was put through a buffer was put to its sink, once the buffer has given it back
pub Puts-through : {T E : Type 0} (before start opened closed now : Option (List ℕ)) (gathered text : List ℕ) (r : Result T E)
    → before ≡ start → opened ≡ before → OnOk r (gathered ≡ []) → (gathered ≡ [] → now ≡ closed)
    → (AppendsPrefix start closed text → AppendsPrefix start now text) → Puts opened closed text r → Puts before now text r
Puts-through before start opened closed now gathered text (Ok x) s e all whole prefix p =
    Appends-through before opened closed now text e (whole all) p
Puts-through before start opened closed now gathered text (Err x) s e all whole prefix p =
    AppendsPrefix-through before start opened closed now text s e prefix p

-- a prefix of a text is one of a longer text
pub AppendsPrefix-more : (a b : Option (List ℕ)) (xs ys zs : List ℕ) → zs ≡ xs ++ ys → AppendsPrefix a b xs → AppendsPrefix a b zs
AppendsPrefix-more a b xs ys zs e p = record
    { prefix = p.prefix; rest = p.rest ++ ys; whole = e ∙ ap (λ l. l ++ ys) p.whole ∙ append_assoc p.prefix p.rest ys; grown = p.grown }

-- what was written of a text, whether whole or not, is a prefix of it
pub Puts-front : {T E : Type 0} (a b : Option (List ℕ)) (xs ys zs : List ℕ) (r : Result T E) → zs ≡ xs ++ ys → Puts a b xs r → AppendsPrefix a b zs
Puts-front a b xs ys zs (Ok x) e p = record { prefix = xs; rest = ys; whole = e; grown = p }
Puts-front a b xs ys zs (Err x) e p = AppendsPrefix-more a b xs ys zs e p

-- where nothing failed the text was written whole
pub Puts-whole : {T E : Type 0} (a b : Option (List ℕ)) (xs : List ℕ) (r : Result T E) → is_err r ≡ false → Puts a b xs r → Appends a b xs
Puts-whole a b xs (Ok x) e p = p
Puts-whole a b xs (Err x) e p = absurd cc

-- a failed call ends the whole text, of which a prefix was written
pub Puts-fault : {T E : Type 0} (a b : Option (List ℕ)) (text : List ℕ) (r : Result T E) → IsErr r → AppendsPrefix a b text → Puts a b text r
Puts-fault a b text (Ok x) is p = absurd cc
Puts-fault a b text (Err e) is p = p

-- what is held keeps itself
pub Keeps-same : (a : Option (List ℕ)) → Keeps a a
Keeps-same None = tt
Keeps-same (Some x) = refl
