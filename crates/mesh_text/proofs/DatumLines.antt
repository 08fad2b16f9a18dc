-- A line that names a datum names no other.
use Rattle.std.proofs.Common.{◌≡◌, ℕ, ◌+◌, ◌/◌, ◌%◌, ◌<◌, ◌^◌, Bool, true, false, eqb, leb, not, cond, ◌&&◌, ◌==◌, Decides, List, [], ◌∷◌, ◌++◌, codes, length, Option, Some, refl, sym, ap, ap₂, subst, ◌∙◌, arith, append_assoc}
use Rattle.std.specs.Prelude.{nat_lt}
use Rattle.std.specs.List.{flat_map}
use Rattle.std.specs.Str.{bytes_eq}
use Rattle.std.proofs.lemmas.Bool.{and_parts, false_from_ne_true, ltb-true, ltb-false}
use Rattle.std.proofs.lemmas.Bool.Decides.{same_from_decides, Decides-and, Decides-eqb}
use Rattle.std.proofs.lemmas.List.{append_cancel_left, append_cancel_right}
use Rattle.std.proofs.lemmas.Option.{same_Some}
use Rattle.std.proofs.lemmas.Slice.Eq.{bytes_eq-Decides}
use Rattle.aodv_model.specs.Cores.{Body}
use Rattle.aodv_model.proofs.Entries.{if_case}
use Rattle.mesh_base.specs.Addresses.{address_of, dotted_decimal}
use Rattle.mesh_base.specs.Meshes.{Nodes, IsMesh, addr_at, index_of}
use Rattle.mesh_base.specs.Parts.{parts}
use Rattle.mesh_base.proofs.WrittenForms.{parts_at, address_of-dotted, dotted_lacks, index_of-at}
use Rattle.mesh_grammar.specs.Written.{line}
use Rattle.mesh_text.specs.Accounts.{begins}
use Rattle.mesh_text.specs.Effects.{shown_byte, datum_text}
use Rattle.mesh_text.specs.Lines.{name_of, hex_digit, hex_byte}
use Rattle.mesh_text.specs.NamedData.{only_datum}
use Rattle.mesh_text.proofs.DataInMesh.{Agree}
use Rattle.mesh_text.proofs.Tellings.{Naming, datum_words, deliveries_in, drops_in}

cons_parts : {A : Type 0} {a b : A} {xs ys : List A} → a ∷ xs ≡ b ∷ ys → (a ≡ b) × (xs ≡ ys)
cons_parts e = (cc, cc)

-- ---- bytes of a datum

hex_apart : (a b : ℕ) → hex_digit a ≡ hex_digit b → a ≡ b
hex_apart a b =
    if_case (λ l. l ≡ hex_digit b → a ≡ b) (nat_lt a 10) (48 + a) (87 + a)
    (λ low. let la = ltb-true a 10 low in
    if_case (λ l. 48 + a ≡ l → a ≡ b) (nat_lt b 10) (48 + b) (87 + b) (λ _ e. omega (arith, e)) (λ high e. let hb = ltb-false b 10 high in absurd (omega (arith, e, la, hb))))
    (λ high. let ha = ltb-false a 10 high in
    if_case (λ l. 87 + a ≡ l → a ≡ b) (nat_lt b 10) (48 + b) (87 + b) (λ low e. let lb = ltb-true b 10 low in absurd (omega (arith, e, ha, lb))) (λ _ e. omega (arith, e)))

-- a byte that stands for itself is no backslash
no_backslash : (b : ℕ) → (leb 32 b && leb b 126 && not (eqb b 92)) ≡ true → b ≡ 92 → ⊥
no_backslash b is e =
    let other : not (eqb b 92) ≡ true = (and_parts (leb 32 b && leb b 126) (not (eqb b 92)) is).1 in
    let here : not (eqb b 92) ≡ false = ap (λ c. not (eqb c 92)) e in
    cc

byte_apart : (x y : ℕ) (s t : List ℕ) → shown_byte x ++ s ≡ shown_byte y ++ t → (x ≡ y) × (s ≡ t)
byte_apart x y s t =
    if_case (λ l. l ++ s ≡ shown_byte y ++ t → (x ≡ y) × (s ≡ t)) (leb 32 x && leb x 126 && not (eqb x 92)) (x ∷ []) (codes "\\x" ++ hex_byte x)
    (λ one. if_case (λ l. x ∷ s ≡ l ++ t → (x ≡ y) × (s ≡ t)) (leb 32 y && leb y 126 && not (eqb y 92)) (y ∷ []) (codes "\\x" ++ hex_byte y)
    (λ _ e. cons_parts e)
    (λ _ e. absurd (no_backslash x one (cons_parts e).0)))
    (λ _. if_case (λ l. (codes "\\x" ++ hex_byte x) ++ s ≡ l ++ t → (x ≡ y) × (s ≡ t)) (leb 32 y && leb y 126 && not (eqb y 92)) (y ∷ []) (codes "\\x" ++ hex_byte y)
    (λ one e. absurd (no_backslash y one (sym (cons_parts e).0)))
    (λ _ e. escaped e))
  where
    escaped : 92 ∷ 120 ∷ hex_digit (x / 16) ∷ hex_digit (x % 16) ∷ s ≡ 92 ∷ 120 ∷ hex_digit (y / 16) ∷ hex_digit (y % 16) ∷ t → (x ≡ y) × (s ≡ t)
    escaped e =
        let digits = cons_parts (cons_parts (cons_parts e).1).1 in
        let low = cons_parts digits.1 in
        let a : x / 16 ≡ y / 16 = hex_apart (x / 16) (y / 16) digits.0 in
        let b : x % 16 ≡ y % 16 = hex_apart (x % 16) (y % 16) low.0 in
        (omega (arith, a, b), low.1)

some_shown : (b : ℕ) (s : List ℕ) → [] ≡ shown_byte b ++ s → ⊥
some_shown b s =
    if_case (λ l. [] ≡ l ++ s → ⊥) (leb 32 b && leb b 126 && not (eqb b 92)) (b ∷ []) (codes "\\x" ++ hex_byte b) (λ _ e. nothing e) (λ _ e. nothing e)
  where
    nothing : {a : ℕ} {xs : List ℕ} → [] ≡ a ∷ xs → ⊥
    nothing e = cc

shown_apart : (xs ys : List ℕ) → flat_map shown_byte xs ≡ flat_map shown_byte ys → xs ≡ ys
shown_apart [] [] e = refl
shown_apart [] (y ∷ ys) e = absurd (some_shown y (flat_map shown_byte ys) e)
shown_apart (x ∷ xs) [] e = absurd (some_shown x (flat_map shown_byte xs) (sym e))
shown_apart (x ∷ xs) (y ∷ ys) e =
    let both = byte_apart x y (flat_map shown_byte xs) (flat_map shown_byte ys) e in
    ap₂ (λ b bs. b ∷ bs) both.0 (shown_apart xs ys both.1)

-- ---- nodes by name

name_apart : (mesh : Nodes) (p o : ℕ) → IsMesh mesh → p < length mesh → o < length mesh → name_of mesh p ≡ name_of mesh o → p ≡ o
name_apart mesh p o is lp lo e =
    let a : addr_at mesh p ≡ addr_at mesh o =
    same_Some _ _ (sym (address_of-dotted (addr_at mesh p) (is.addresses p lp)) ∙ ap address_of e ∙ address_of-dotted (addr_at mesh o) (is.addresses o lo)) in
    same_Some _ _ (sym (index_of-at mesh p is lp) ∙ ap (index_of mesh) a ∙ index_of-at mesh o is lo)

-- what stands after the label
abbrev words_after : Nodes → ℕ → ℕ → Body → List ℕ
words_after mesh o d body = name_of mesh o ++ 32 ∷ name_of mesh d ++ 32 ∷ flat_map shown_byte body

words_parts : (mesh : Nodes) (o d : ℕ) (body : Body) → IsMesh mesh → o < length mesh → d < length mesh
    → parts 32 (words_after mesh o d body) ≡ name_of mesh o ∷ name_of mesh d ∷ parts 32 (flat_map shown_byte body)
words_parts mesh o d body is lo ld =
    ap (parts 32) (append_assoc (name_of mesh o) (32 ∷ name_of mesh d) (32 ∷ flat_map shown_byte body))
    ∙ parts_at 32 (name_of mesh o) (name_of mesh d ++ 32 ∷ flat_map shown_byte body) (dotted_lacks 32 (addr_at mesh o) (omega arith) (is.addresses o lo))
    ∙ ap (λ l. name_of mesh o ∷ l) (parts_at 32 (name_of mesh d) (flat_map shown_byte body) (dotted_lacks 32 (addr_at mesh d) (omega arith) (is.addresses d ld)))

words_apart : (mesh : Nodes) (p q o d : ℕ) (other body : Body) → IsMesh mesh → p < length mesh → q < length mesh → o < length mesh → d < length mesh
    → words_after mesh p q other ≡ words_after mesh o d body → ((p ≡ o) × (q ≡ d)) × (other ≡ body)
words_apart mesh p q o d other body is lp lq lo ld e =
    let split = cons_parts (sym (words_parts mesh p q other is lp lq) ∙ ap (parts 32) e ∙ words_parts mesh o d body is lo ld) in
    let names : name_of mesh p ≡ name_of mesh o = split.0 in
    let dests : name_of mesh q ≡ name_of mesh d = (cons_parts split.1).0 in
    let fronts : name_of mesh p ++ 32 ∷ name_of mesh q ≡ name_of mesh o ++ 32 ∷ name_of mesh d = ap₂ (λ (a b : List ℕ). a ++ 32 ∷ b) names dests in
    let rest : 32 ∷ flat_map shown_byte other ≡ 32 ∷ flat_map shown_byte body =
    append_cancel_left (name_of mesh o ++ 32 ∷ name_of mesh d) _ _ (ap (λ (a : List ℕ). a ++ 32 ∷ flat_map shown_byte other) (sym fronts) ∙ e) in
    ((name_apart mesh p o is lp lo names, name_apart mesh q d is lq ld dests), shown_apart other body (cons_parts rest).1)

-- ---- lines

-- a line that is another has its label
pub labelled : (label l words : List ℕ) → begins label words ≡ true → begins label l ≡ false → bytes_eq (line l) (line words) ≡ false
labelled label l words is other =
    false_from_ne_true (bytes_eq (line l) (line words))
    (λ same. let e : l ≡ words = append_cancel_right l words (10 ∷ []) ((bytes_eq-Decides (line l) (line words)).0 same) in
    let begun : begins label l ≡ true = ap (begins label) e ∙ is in
    let clash : true ≡ false = sym begun ∙ other in
    let P : ⊥ = cc in P)

-- the lines that name this datum
abbrev pub datum_named : Nodes → ℕ → ℕ → Body → Naming
datum_named mesh o d body = record {
  delivery = λ l. bytes_eq (line l) (datum_text (codes "  delivered ") mesh o d body);
  drop = λ l. bytes_eq (line l) (datum_text (codes "  dropped ") mesh o d body);
  other_delivery = λ l other. labelled (codes "  delivered ") l (datum_words (codes "  delivered ") mesh o d body) refl other;
  other_drop = λ l other. labelled (codes "  dropped ") l (datum_words (codes "  dropped ") mesh o d body) refl other;
}

-- lines that are equal, where they are so only of equal data
same_test : (p q o d : ℕ) (other body : Body) (xs ys : List ℕ) → (xs ≡ ys → ((p ≡ o) × (q ≡ d)) × (other ≡ body)) → (((p ≡ o) × (q ≡ d)) × (other ≡ body) → xs ≡ ys)
    → bytes_eq xs ys ≡ only_datum o d body p q other
same_test p q o d other body xs ys apart back =
    let dec = bytes_eq-Decides xs ys in
    let P : Type 0 = ((p ≡ o) × (q ≡ d)) × (other ≡ body) in
    let lines : Decides (bytes_eq xs ys) P = (λ t. apart (dec.0 t), λ is. dec.1 (back is)) in
    let data_are : Decides (only_datum o d body p q other) P =
    Decides-and ((p == o) && (q == d)) (bytes_eq other body) (Decides-and (p == o) (q == d) (Decides-eqb p o) (Decides-eqb q d)) (bytes_eq-Decides other body) in
    same_from_decides (bytes_eq xs ys) (only_datum o d body p q other) lines data_are

same_words : (label : List ℕ) (mesh : Nodes) (p q o d : ℕ) (other body : Body) → ((p ≡ o) × (q ≡ d)) × (other ≡ body) → line (datum_words label mesh p q other) ≡ line (datum_words label mesh o d body)
same_words label mesh p q o d other body is =
    ap (λ n. line (datum_words label mesh n q other)) is.0.0 ∙ ap (λ n. line (datum_words label mesh o n other)) is.0.1 ∙ ap (λ b. line (datum_words label mesh o d b)) is.1

pub deliveries_agree : (mesh : Nodes) (o d : ℕ) (body : Body) → IsMesh mesh → o < length mesh → d < length mesh → Agree (length mesh) (deliveries_in (datum_named mesh o d body) mesh) (only_datum o d body)
deliveries_agree mesh o d body is lo ld = record {
  same = λ p q other lp lq. same_test p q o d other body _ _
      (λ e. words_apart mesh p q o d other body is lp lq lo ld (append_cancel_left (codes "  delivered ") _ _ (append_cancel_right _ _ (10 ∷ []) e)))
      (same_words (codes "  delivered ") mesh p q o d other body);
}

pub drops_agree : (mesh : Nodes) (o d : ℕ) (body : Body) → IsMesh mesh → o < length mesh → d < length mesh → Agree (length mesh) (drops_in (datum_named mesh o d body) mesh) (only_datum o d body)
drops_agree mesh o d body is lo ld = record {
  same = λ p q other lp lq. same_test p q o d other body _ _
      (λ e. words_apart mesh p q o d other body is lp lq lo ld (append_cancel_left (codes "  dropped ") _ _ (append_cancel_right _ _ (10 ∷ []) e)))
      (same_words (codes "  dropped ") mesh p q o d other body);
}
