-- The destinations for which a node may send, and for which it may ask.
use Rattle.std.proofs.Common.{◌≡◌, ◌≢◌, ℕ, Bool, true, not, ◌&&◌, List, [], ◌∷◌, Option, Some, None, refl, sym, ap, ◌∙◌}
use Rattle.std.proofs.lemmas.Cmp.{nat_cmp_total}
use Rattle.std.specs.FinMap as maps
use Rattle.std.specs.FinSet as sets
use Rattle.mesh_base.specs.Members.{NodeIds}
use Rattle.aodv_model.specs.Tables.{is_valid_in}
use Rattle.aodv_model.specs.Cores.{Core, Body, Waiting, bodies_in, needs_in, in_qD, has_data}
use Rattle.aodv_model.specs.Handlers.{may_send, may_ask}
use Rattle.aodv_model.specs.Soundness.{IsStoreInMesh}
use Rattle.aodv_table.specs.Calls.{valid_dests}
use Rattle.aodv_table.proofs.Lookups.{contains-valid_dests}

pub sends_are : (c : Core) (stored valid both : NodeIds) → ((d : ℕ) → sets.contains stored d ≡ in_qD c.store d) → valid ≡ valid_dests c.rt → both ≡ sets.intersection stored valid
    → (d : ℕ) → sets.contains both d ≡ may_send c d
sends_are c stored valid both stored_are valid_are is d =
    ap (λ (s : NodeIds). sets.contains s d) is
    ∙ sets.contains-intersection nat_cmp_total stored valid d
    ∙ ap (λ (b : Bool). b && sets.contains valid d) (stored_are d)
    ∙ ap (λ (b : Bool). in_qD c.store d && b) (ap (λ (s : NodeIds). sets.contains s d) valid_are ∙ contains-valid_dests c.rt d)

-- what needs a request has data
pub has_some : (bs : List Body) → bs ≢ [] → has_data bs ≡ true
has_some [] l = absurd (l refl)
has_some (b ∷ bs) l = refl

needing_has : (o : Option Waiting) (b : Bool) → ((s : Waiting) → o ≡ Some s → s.bodies ≢ []) → (needs_in o && b) ≡ (has_data (bodies_in o) && (needs_in o && b))
needing_has None b has = refl
needing_has (Some s) b has = ap (λ (h : Bool). h && (s.needs_request && b)) (sym (has_some s.bodies (has s refl)))

pub asks_are : (c : Core) (size : ℕ) (needing valid rest : NodeIds) → IsStoreInMesh size c.store → ((d : ℕ) → sets.contains needing d ≡ needs_in (maps.get c.store d)) → valid ≡ valid_dests c.rt → rest ≡ sets.difference needing valid
    → (d : ℕ) → sets.contains rest d ≡ may_ask c d
asks_are c size needing valid rest store_in_mesh needing_are valid_are is d =
    ap (λ (s : NodeIds). sets.contains s d) is
    ∙ sets.contains-difference nat_cmp_total needing valid d
    ∙ ap (λ (b : Bool). b && not (sets.contains valid d)) (needing_are d)
    ∙ ap (λ (b : Bool). needs_in (maps.get c.store d) && not b) (ap (λ (s : NodeIds). sets.contains s d) valid_are ∙ contains-valid_dests c.rt d)
    ∙ needing_has (maps.get c.store d) (not (is_valid_in (maps.get c.rt d))) (λ s e. (store_in_mesh d s e).some)
