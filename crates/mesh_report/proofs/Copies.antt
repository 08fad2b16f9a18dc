-- The lines of copies, one after another.
use Rattle.std.proofs.Common.{◌≡◌, ◌<◌, ◌≤◌, ℕ, suc, ◌+◌, true, false, List, [], ◌∷◌, ◌++◌, length, refl, sym, ap, ◌∙◌, append_assoc, append-nil, arith}
use Rattle.std.specs.FinSet.{contains}
use Rattle.mesh_base.specs.Members.{NodeIds}
use Rattle.mesh_base.specs.Meshes.{Nodes}
use Rattle.mesh_model.specs.Worlds.{members_below}
use Rattle.mesh_base.proofs.Ranks.{members-none, members-next}
use Rattle.mesh_report.specs.Packets.{copy_line, copy_lines}
use Rattle.mesh_report.proofs.Members.{Rest, members-front}

-- the lines for some receivers, and then those for others
copies-append : (mesh : Nodes) (xs ys : List ℕ) (id : ℕ) → copy_lines mesh id (xs ++ ys) ≡ copy_lines mesh id xs ++ copy_lines mesh (id + length xs) ys
copies-append mesh [] ys id = let same : id ≡ id + 0 = omega arith in ap (λ (n : ℕ). copy_lines mesh n ys) same
copies-append mesh (x ∷ xs) ys id =
    let same : id + 1 + length xs ≡ id + suc (length xs) = omega arith in
    ap (λ (l : List ℕ). copy_line mesh id x ++ l) (copies-append mesh xs ys (id + 1))
    ∙ sym (append_assoc (copy_line mesh id x) (copy_lines mesh (id + 1) xs) (copy_lines mesh (id + 1 + length xs) ys))
    ∙ ap (λ (n : ℕ). (copy_line mesh id x ++ copy_lines mesh (id + 1) xs) ++ copy_lines mesh n ys) same

-- the line for the next receiver
pub next_copy : (mesh : Nodes) (s : NodeIds) (first to i id : ℕ) → i ≤ to → contains s to ≡ true → ((q : ℕ) → i ≤ q → q < to → contains s q ≡ false) → id ≡ first + length (members_below i s)
    → copy_lines mesh first (members_below (to + 1) s) ≡ copy_lines mesh first (members_below i s) ++ copy_line mesh id to
next_copy mesh s first to i id le is none e =
    let before : List ℕ = members_below i s in
    ap (copy_lines mesh first) (members-next to i s le is none) ∙ copies-append mesh before (to ∷ []) first
    ∙ ap (λ (l : List ℕ). copy_lines mesh first before ++ l) (append-nil (copy_line mesh (first + length before) to))
    ∙ ap (λ (n : ℕ). copy_lines mesh first before ++ copy_line mesh n to) (sym e)

-- the lines so far, and those for the other receivers
pub front_copies : (mesh : Nodes) (s : NodeIds) (first i : ℕ) → i ≤ length mesh
    → (rest : List ℕ) × (copy_lines mesh first (members_below (length mesh) s) ≡ copy_lines mesh first (members_below i s) ++ rest)
front_copies mesh s first i le =
    let split : Rest (length mesh) (members_below i s) s = members-front (length mesh) i s le in
    (copy_lines mesh (first + length (members_below i s)) split.0, ap (copy_lines mesh first) split.1 ∙ copies-append mesh (members_below i s) split.0 first)

-- there is no further receiver
pub all_copies : (mesh : Nodes) (s : NodeIds) (first i : ℕ) → i ≤ length mesh → ((q : ℕ) → i ≤ q → contains s q ≡ false)
    → copy_lines mesh first (members_below (length mesh) s) ≡ copy_lines mesh first (members_below i s)
all_copies mesh s first i le none = ap (copy_lines mesh first) (members-none (length mesh) i s le (λ q up lt. none q up))

-- there is none yet
pub none_yet : (mesh : Nodes) (s : NodeIds) (first : ℕ) → copy_lines mesh first (members_below 0 s) ≡ []
unfolding members_below
none_yet mesh s first = refl
