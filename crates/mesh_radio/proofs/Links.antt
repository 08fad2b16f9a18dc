-- The links of a mesh, as they come to stand and fall.
use Rattle.std.proofs.Common.{◌≡◌, ◌≢◌, ◌<◌, ◌≤◌, ℕ, true, false, refl, sym, subst, ◌∙◌}
use Rattle.std.specs.List.{AllByRecursion}
use Rattle.std.specs.FinSet as sets
use Rattle.mesh_base.specs.declared.limits.TheConstants.{MOST_NODES}
use Rattle.aodv_model.specs.Pairs.{Pairs, pair_cmp}
use Rattle.mesh_model.specs.Worlds.{pair}
use Rattle.mesh_model.proofs.MeshSteps.{linked_more, has_fewer, both_more}
use Rattle.mesh_radio.specs.Copies.{IsBetween, IsPacketLong}
use Rattle.mesh_radio.specs.Radios.{AreLinksOf}
use Rattle.mesh_radio.specs.Kept.{Graph, Flights, IsRadio}

none : (p : ℕ × ℕ) → sets.contains {R = pair_cmp} sets.empty p ≡ true → ⊥
none p is = wrong (sym (sets.contains-empty pair_cmp p) ∙ is)
  where
    wrong : false ≡ true → ⊥
    wrong e = cc

pub links_none : (size : ℕ) → AreLinksOf size sets.empty sets.empty
links_none size = record {
  standing = λ p is. absurd (none p is);
  earlier = λ p is. absurd (none p is);
  stood = λ p is. is;
}

pub links_more : (size : ℕ) (links ever : Pairs) (a b : ℕ) → a < size → b < size → a ≢ b
    → AreLinksOf size links ever
    → AreLinksOf size (sets.insert links (pair a b)) (sets.insert ever (pair a b))
links_more size links ever a b first second differ are = record {
  standing = linked_more size links a b first second differ are.standing;
  earlier = linked_more size ever a b first second differ are.earlier;
  stood = λ p is. both_more links ever (pair a b) p (are.stood p) is;
}

pub links_fewer : (size : ℕ) (links ever : Pairs) (a b : ℕ) → AreLinksOf size links ever
    → AreLinksOf size (sets.remove links (pair a b)) ever
links_fewer size links ever a b are = record {
  standing = λ p is. are.standing p (has_fewer links (pair a b) p is);
  earlier = are.earlier;
  stood = λ p is. are.stood p (has_fewer links (pair a b) p is);
}

-- ---- a radio of such links

pub radio_none : (n : ℕ) (links ever : Graph) (a : Flights) → links ≡ record { size = n; pairs = sets.empty } → ever ≡ record { size = n; pairs = sets.empty }
    → n ≤ MOST_NODES → AllByRecursion (IsBetween n) a.flying → AllByRecursion IsPacketLong a.flying → IsRadio links ever a
radio_none n links ever a is is' few between long =
    let none : Graph = record { size = n; pairs = sets.empty } in
    subst (λ (g : Graph). IsRadio g ever a) (sym is) (subst (λ (g : Graph). IsRadio none g a) (sym is')
    (record { few = few; same = refl; linked = links_none n; between = between; long = long }))

pub radio_linked : (links ever links' ever' : Graph) (a : Flights) (x y : ℕ) → links' ≡ record links { pairs = sets.insert links.pairs (pair x y) } → ever' ≡ record ever { pairs = sets.insert ever.pairs (pair x y) }
    → x < links.size → y < links.size → x ≢ y → IsRadio links ever a → IsRadio links' ever' a
radio_linked links ever links' ever' a x y is is' first second differ kept =
    let more : Graph = record links { pairs = sets.insert links.pairs (pair x y) } in
    subst (λ (g : Graph). IsRadio g ever' a) (sym is) (subst (λ (g : Graph). IsRadio more g a) (sym is')
    (record { few = kept.few; same = kept.same; linked = links_more links.size links.pairs ever.pairs x y first second differ kept.linked; between = kept.between; long = kept.long }))

pub radio_parted : (links ever links' : Graph) (a : Flights) (x y : ℕ) → links' ≡ record links { pairs = sets.remove links.pairs (pair x y) }
    → IsRadio links ever a → IsRadio links' ever a
radio_parted links ever links' a x y is kept =
    subst (λ (g : Graph). IsRadio g ever a) (sym is)
    (record { few = kept.few; same = kept.same; linked = links_fewer links.size links.pairs ever.pairs x y kept.linked; between = kept.between; long = kept.long })
