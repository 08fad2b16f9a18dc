-- Texts of numbers that rise by one, one after another.
use Rattle.std.proofs.Common.{◌≡◌, ℕ, zero, suc, ◌+◌, ◌-◌, ◌<◌, ◌≤◌, List, [], ◌++◌, Option, Result, append_assoc, refl, sym, ap, subst, ◌∙◌, arith}
use Rattle.std.specs.Prelude.{codes}
use Rattle.std.proofs.lemmas.List.{append-nil}
use Rattle.std.specs.Io.KnownBytes.{Appends}
use Rattle.mesh_base.specs.Meshes.{Nodes}
use Rattle.mesh_io.specs.Puts.{AppendsPrefix, Puts}
use Rattle.mesh_io.proofs.Writing.{Appends-none, Appends-join, AppendsPrefix-join, AppendsPrefix-more, Puts-join}
use Rattle.aodv_model.specs.Cores.{SeenRequests, Store, Core}
use Rattle.mesh_text.specs.Tables.{number_line, asked_text, routes_text, store_text, node_text}

-- the texts of so many numbers from i on, one after another
abbrev pub each_from : ℕ → ℕ → (ℕ → List ℕ) → List ℕ
each_from zero i f = []
each_from (suc k) i f = f i ++ each_from k (i + 1) f

-- ---- the texts together

-- what grows by the text of each number has grown by all of them
each_added : (so_far f : ℕ → List ℕ) → ((d : ℕ) → so_far (d + 1) ≡ so_far d ++ f d) → (k d : ℕ) → so_far d ++ each_from k d f ≡ so_far (d + k)
each_added so_far f more zero d = let none : d ≡ d + 0 = omega arith in append-nil (so_far d) ∙ ap so_far none
each_added so_far f more (suc k) d =
    let next : d + 1 + k ≡ d + suc k = omega arith in
    sym (append_assoc (so_far d) (f d) (each_from k (d + 1) f)) ∙ ap (λ l. l ++ each_from k (d + 1) f) (sym (more d)) ∙ each_added so_far f more k (d + 1) ∙ ap so_far next

pub each_whole : (so_far f : ℕ → List ℕ) → ((d : ℕ) → so_far (d + 1) ≡ so_far d ++ f d) → so_far 0 ≡ [] → (n : ℕ) → each_from n 0 f ≡ so_far n
each_whole so_far f more none n =
    let last : 0 + n ≡ n = omega arith in
    ap (λ l. l ++ each_from n 0 f) (sym none) ∙ each_added so_far f more n 0 ∙ ap so_far last

-- ---- of so many numbers

one_less : (n d : ℕ) → d < n → n - d ≡ suc (n - (d + 1))
one_less n d h = omega arith

pub each_from-step : (n d : ℕ) (f : ℕ → List ℕ) → d < n → each_from (n - d) d f ≡ f d ++ each_from (n - (d + 1)) (d + 1) f
each_from-step n d f h = ap (λ k. each_from k d f) (one_less n d h)

pub each_from-end : (n d : ℕ) (f : ℕ → List ℕ) → n ≤ d → each_from (n - d) d f ≡ []
each_from-end n d f h = ap (λ k. each_from k d f) (let z : n - d ≡ 0 = omega arith in z)

-- the text of d is put, and then the others'
pub each-goes : {T E : Type 0} (n d : ℕ) (f : ℕ → List ℕ) (a b c : Option (List ℕ)) (r : Result T E) → d < n → Appends a b (f d)
    → Puts b c (each_from (n - (d + 1)) (d + 1) f) r → Puts a c (each_from (n - d) d f) r
each-goes n d f a b c r h p q = Puts-join a b c (f d) (each_from (n - (d + 1)) (d + 1) f) (each_from (n - d) d f) r (each_from-step n d f h) p q

-- the text of d isn't put whole
pub each-front : (n d : ℕ) (f : ℕ → List ℕ) (a b : Option (List ℕ)) → d < n → AppendsPrefix a b (f d) → AppendsPrefix a b (each_from (n - d) d f)
each-front n d f a b h p = AppendsPrefix-more a b (f d) (each_from (n - (d + 1)) (d + 1) f) (each_from (n - d) d f) (each_from-step n d f h) p

-- none is left
pub each-ends : (n d : ℕ) (f : ℕ → List ℕ) (a : Option (List ℕ)) → n ≤ d → Appends a a (each_from (n - d) d f)
each-ends n d f a h = let P : List ℕ → Type 0 = λ l. Appends a a l in subst P (sym (each_from-end n d f h)) (Appends-none a)

-- ---- five texts in turn

pub five-1 : (x y : Option (List ℕ)) (a b c d e : List ℕ) → AppendsPrefix x y a → AppendsPrefix x y (a ++ b ++ c ++ d ++ e)
five-1 x y a b c d e p =
    AppendsPrefix-more x y (a ++ b ++ c ++ d) e _ refl (AppendsPrefix-more x y (a ++ b ++ c) d _ refl (AppendsPrefix-more x y (a ++ b) c _ refl (AppendsPrefix-more x y a b _ refl p)))

pub five-2 : (x y z : Option (List ℕ)) (a b c d e : List ℕ) → Appends x y a → AppendsPrefix y z b → AppendsPrefix x z (a ++ b ++ c ++ d ++ e)
five-2 x y z a b c d e p q =
    AppendsPrefix-more x z (a ++ b ++ c ++ d) e _ refl (AppendsPrefix-more x z (a ++ b ++ c) d _ refl (AppendsPrefix-more x z (a ++ b) c _ refl (AppendsPrefix-join x y z a b _ refl p q)))

pub five-3 : (w x y z : Option (List ℕ)) (a b c d e : List ℕ) → Appends w x a → Appends x y b → AppendsPrefix y z c → AppendsPrefix w z (a ++ b ++ c ++ d ++ e)
five-3 w x y z a b c d e p q r =
    AppendsPrefix-more w z (a ++ b ++ c ++ d) e _ refl (AppendsPrefix-more w z (a ++ b ++ c) d _ refl (AppendsPrefix-join w y z (a ++ b) c _ refl (Appends-join w x y a b _ refl p q) r))

pub five-4 : (v w x y z : Option (List ℕ)) (a b c d e : List ℕ) → Appends v w a → Appends w x b → Appends x y c → AppendsPrefix y z d → AppendsPrefix v z (a ++ b ++ c ++ d ++ e)
five-4 v w x y z a b c d e p q r s =
    AppendsPrefix-more v z (a ++ b ++ c ++ d) e _ refl (AppendsPrefix-join v y z (a ++ b ++ c) d _ refl (Appends-join v x y (a ++ b) c _ refl (Appends-join v w x a b _ refl p q) r) s)

pub five-5 : {T E : Type 0} (u v w x y z : Option (List ℕ)) (a b c d e : List ℕ) (t : Result T E) → Appends u v a → Appends v w b → Appends w x c → Appends x y d → Puts y z e t
    → Puts u z (a ++ b ++ c ++ d ++ e) t
five-5 u v w x y z a b c d e t p q r s l =
    Puts-join u y z (a ++ b ++ c ++ d) e _ t refl (Appends-join u x y (a ++ b ++ c) d _ refl (Appends-join u w x (a ++ b) c _ refl (Appends-join u v w a b _ refl p q) r) s) l

-- the text of a node, by its parts as they are read
pub node_is : (mesh : Nodes) (core : Core) (queue sn count : ℕ) (seen : SeenRequests) (store : Store) → sn ≡ core.sn → seen ≡ core.seen → store ≡ core.store → count ≡ queue
    → number_line (codes "sn") sn ++ asked_text mesh seen ++ routes_text mesh core.rt ++ store_text mesh store ++ number_line (codes "inbox") count ≡ node_text mesh core queue
unfolding node_text
node_is mesh core queue sn count seen store es ed et ec =
    let t : ℕ → SeenRequests → Store → ℕ → List ℕ = λ a b c d. number_line (codes "sn") a ++ asked_text mesh b ++ routes_text mesh core.rt ++ store_text mesh c ++ number_line (codes "inbox") d in
    ap (λ x. t x seen store count) es ∙ ap (λ x. t core.sn x store count) ed ∙ ap (λ x. t core.sn core.seen x count) et ∙ ap (λ x. t core.sn core.seen core.store x) ec
