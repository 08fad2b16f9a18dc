-- The choice of the next event, from the least node or copy of each kind.
use Rattle.std.proofs.Common.{◌≡◌, ℕ, ◌≤◌, List, [], ◌∷◌, Option, Some, None, map, refl, sym, ap, subst, ◌∙◌}
use Rattle.std.specs.Option.{option_map, IfSome}
use Rattle.std.specs.List.{slice_get}
use Rattle.mesh_base.specs.Meshes.{Nodes}
use Rattle.mesh_base.specs.declared.events.Flying.{Flying}
use Rattle.mesh_model.specs.Worlds.{World, Event, Turn, Send, Ask, Deliver}
use Rattle.mesh_model.specs.Choices.{first_turn, first_copy, first_send, first_ask, first_of, pick}
use Rattle.mesh_meaning.specs.Packets.{copy_in}
use Rattle.mesh_radio.specs.Copies.{AreNumbered}

-- the least copy of the definitions is that of the radio
pub first_copy_is : (w : World) (mesh : Nodes) (fs : List Flying) (r : Option ℕ) → map (copy_in mesh) fs ≡ w.flying → r ≡ option_map (λ f. f.id) (slice_get fs 0) → r ≡ first_copy w
unfolding first_copy
first_copy_is w mesh fs r e is = is ∙ of_list fs ∙ ap (λ l. option_map (λ c. c.id) (slice_get l 0)) e
  where
    of_list : (fs : List Flying) → option_map (λ f. f.id) (slice_get fs 0) ≡ option_map (λ c. c.id) (slice_get (map (copy_in mesh) fs) 0)
    of_list [] = refl
    of_list (f ∷ fs) = refl

pub first_id_some : (fs : List Flying) (next : ℕ) (r : Option ℕ) → AreNumbered 1 fs next → r ≡ option_map (λ f. f.id) (slice_get fs 0) → IfSome r (λ id. 1 ≤ id)
first_id_some [] next r all is = let P : Option ℕ → Type 0 = λ o. IfSome o (λ id. 1 ≤ id) in subst P (sym is) tt
first_id_some (f ∷ fs) next r all is = let P : Option ℕ → Type 0 = λ o. IfSome o (λ id. 1 ≤ id) in subst P (sym is) all.0

chosen : Option ℕ → Option ℕ → Option (ℕ × ℕ) → Option (ℕ × ℕ) → Option Event
chosen a b c d = first_of (option_map Turn a ∷ option_map Deliver b ∷ option_map (λ p. Send p.0 p.1) c ∷ option_map (λ p. Ask p.0 p.1) d ∷ [])

pick_is : (w : World) → pick w ≡ chosen (first_turn w) (first_copy w) (first_send w) (first_ask w)
unfolding pick chosen
pick_is w = refl

pick_by : (w : World) (a b : Option ℕ) (c d : Option (ℕ × ℕ)) → a ≡ first_turn w → b ≡ first_copy w → c ≡ first_send w → d ≡ first_ask w → chosen a b c d ≡ pick w
pick_by w a b c d ea eb ec ed =
    ap (λ x. chosen x b c d) ea ∙ ap (λ x. chosen (first_turn w) x c d) eb ∙ ap (λ x. chosen (first_turn w) (first_copy w) x d) ec
    ∙ ap (λ x. chosen (first_turn w) (first_copy w) (first_send w) x) ed ∙ sym (pick_is w)

pub picks_turn : (w : World) (x : ℕ) → Some x ≡ first_turn w → Some (Turn x) ≡ pick w
unfolding chosen
picks_turn w x h = pick_by w (Some x) (first_copy w) (first_send w) (first_ask w) h refl refl refl

pub picks_copy : (w : World) (id : ℕ) → None ≡ first_turn w → Some id ≡ first_copy w → Some (Deliver id) ≡ pick w
unfolding chosen
picks_copy w id a h = pick_by w None (Some id) (first_send w) (first_ask w) a h refl refl

pub picks_send : (w : World) (x d : ℕ) → None ≡ first_turn w → None ≡ first_copy w → Some (x, d) ≡ first_send w → Some (Send x d) ≡ pick w
unfolding chosen
picks_send w x d a b h = pick_by w None None (Some (x, d)) (first_ask w) a b h refl

pub picks_ask : (w : World) (x d : ℕ) → None ≡ first_turn w → None ≡ first_copy w → None ≡ first_send w → Some (x, d) ≡ first_ask w → Some (Ask x d) ≡ pick w
unfolding chosen
picks_ask w x d a b c h = pick_by w None None None (Some (x, d)) a b c h

pub picks_none : (w : World) → None ≡ first_turn w → None ≡ first_copy w → None ≡ first_send w → None ≡ first_ask w → None ≡ pick w
unfolding chosen
picks_none w a b c d = pick_by w None None None None a b c d

-- where a delivery is chosen, no node may take a turn
pub no_turn : (w : World) (id : ℕ) → pick w ≡ Some (Deliver id) → first_turn w ≡ None
no_turn w id is = by (first_turn w) refl
  where
    differ : (x : ℕ) → Some (Turn x) ≡ Some (Deliver id) → ⊥
    differ x e = cc

    by : (o : Option ℕ) → first_turn w ≡ o → first_turn w ≡ None
    by None e = e
    by (Some x) e = absurd (differ x (picks_turn w x (sym e) ∙ is))
