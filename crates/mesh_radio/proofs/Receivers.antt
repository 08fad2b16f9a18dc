-- The member of a set that is found by its rank.
use Rattle.std.proofs.Common.{◌≡◌, ℕ, ◌+◌, ◌<◌, true, false, Some, [], ◌∷◌, ◌++◌, length, length-append, add-one, sym, ap, ◌∙◌}
use Rattle.std.specs.Prelude.{slice_get, if◌then◌else◌}
use Rattle.std.specs.FinSet.{contains}
use Rattle.mesh_base.specs.Members.{NodeIds, member_list, members_below, rank}
use Rattle.mesh_base.proofs.Ranks.{member-rank}

pub member_of_rank : (s : NodeIds) (m k : ℕ) → m < 256 → contains s m ≡ true → rank s m ≡ k → Some m ≡ slice_get (member_list s) k
member_of_rank s m k lt is at = sym (member-rank m s lt is) ∙ ap (slice_get (member_list s)) at

pub rank_after_member : (s : NodeIds) (i : ℕ) → contains s i ≡ true → rank s (i + 1) ≡ rank s i + 1
unfolding members_below
rank_after_member s i is =
    ap (rank s) (add-one i) ∙ (ap (λ b. length (if b then members_below i s ++ i ∷ [] else members_below i s)) is ∙ length-append (members_below i s) (i ∷ []))

pub rank_after_other : (s : NodeIds) (i : ℕ) → contains s i ≡ false → rank s (i + 1) ≡ rank s i
unfolding members_below
rank_after_other s i is = ap (rank s) (add-one i) ∙ ap (λ b. length (if b then members_below i s ++ i ∷ [] else members_below i s)) is
