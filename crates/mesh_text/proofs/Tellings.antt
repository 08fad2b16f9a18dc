-- How many lines of a text name data as delivered and as dropped, by its parts.
use Rattle.std.proofs.Common.{◌≡◌, ℕ, ◌+◌, Bool, true, false, cond, List, [], ◌∷◌, ◌++◌, codes, Option, Some, None, refl, ap, ◌∙◌, arith, append_assoc}
use Rattle.std.specs.List.{flat_map, count_by}
use Rattle.std.specs.Prelude.{if◌then◌else◌}
use Rattle.std.specs.Fmt.{decimal}
use Rattle.std.proofs.lemmas.List.Sums.{sum_by-cons}
use Rattle.mesh_base.specs.Meshes.{Nodes}
use Rattle.mesh_base.specs.Parts.{parts}
use Rattle.mesh_base.proofs.WrittenForms.{parts_at}
use Rattle.aodv_model.specs.Cores.{Body, Message, Pkt, Rreq, Rrep, Rerr}
use Rattle.aodv_model.specs.Handlers.{Cast, Nothing, One, Many, All, Effect, Took, Own, Stored, FromNeighbour}
use Rattle.mesh_model.specs.Worlds.{Copy, WorldEffect, Changed, Taken, Sent, CopyHeard, CopyLost, CopyDoubled}
use Rattle.mesh_model.specs.Accounts.{Test, counts, in_message, in_taken, in_dropped, delivered_in, dropped_in}
use Rattle.mesh_meaning.specs.Packets.{packet_of}
use Rattle.mesh_grammar.specs.Written.{line, label_number}
use Rattle.mesh_text.specs.Lines.{name_of, hex}
use Rattle.mesh_text.specs.Effects.{shown_byte, datum_text, datum_in, took_text, delivery_text, drop_text, set_text, broken_text, cast_text, copies_text, sent_text, datum_fate, world_effect_text}
use Rattle.mesh_text.specs.Accounts.{begins}
use Rattle.mesh_text.proofs.Clean.{is_clean, lacks_lf, clean_append, decimal_clean, name_clean, name_then, hex_clean, shown_clean, set_clean}

-- ---- which lines are counted

-- how many lines of a text pass a test
abbrev pub lines_by : (List ℕ → Bool) → List ℕ → ℕ
lines_by p text = count_by p (parts 10 text)

-- the lines that are counted as naming a delivery, and those as naming a drop: each begins so
pub record Naming : Type 0 where
  pub delivery : List ℕ → Bool
  pub drop : List ℕ → Bool
  pub other_delivery : (l : List ℕ) → begins (codes "  delivered ") l ≡ false → delivery l ≡ false
  pub other_drop : (l : List ℕ) → begins (codes "  dropped ") l ≡ false → drop l ≡ false

-- all of them
abbrev pub all_named : Naming
all_named = record {
  delivery = begins (codes "  delivered ");
  drop = begins (codes "  dropped ");
  other_delivery = λ l other. other;
  other_drop = λ l other. other;
}

-- the line that names a datum, without its LF
abbrev pub datum_words : List ℕ → Nodes → ℕ → ℕ → Body → List ℕ
datum_words label mesh o d body = label ++ name_of mesh o ++ 32 ∷ name_of mesh d ++ 32 ∷ flat_map shown_byte body

-- the data whose delivery is counted, and those whose drop is
abbrev pub deliveries_in : Naming → Nodes → Test
deliveries_in k mesh = λ o d body. k.delivery (datum_words (codes "  delivered ") mesh o d body)

abbrev pub drops_in : Naming → Nodes → Test
drops_in k mesh = λ o d body. k.drop (datum_words (codes "  dropped ") mesh o d body)

-- ---- texts

-- the text has so many lines of each kind, whatever follows it
pub record Tells (k : Naming) (d x : ℕ) (text : List ℕ) : Type 0 where
  pub delivered : (rest : List ℕ) → lines_by k.delivery (text ++ rest) ≡ d + lines_by k.delivery rest
  pub dropped : (rest : List ℕ) → lines_by k.drop (text ++ rest) ≡ x + lines_by k.drop rest

pub tells_none : {k : Naming} → Tells k 0 0 []
tells_none = record { delivered = λ rest. omega arith; dropped = λ rest. omega arith }

pub tells_append : {k : Naming} → (d x e y : ℕ) (s t : List ℕ) → Tells k d x s → Tells k e y t → Tells k (d + e) (x + y) (s ++ t)
tells_append {k = k} d x e y s t first second = record {
  delivered = λ rest. let split = ap (lines_by k.delivery) (append_assoc s t rest) in let a = first.delivered (t ++ rest) in let b = second.delivered rest in omega arith;
  dropped = λ rest. let split = ap (lines_by k.drop) (append_assoc s t rest) in let a = first.dropped (t ++ rest) in let b = second.dropped rest in omega arith;
}

-- texts that name none
pub silent_append : {k : Naming} → (s t : List ℕ) → Tells k 0 0 s → Tells k 0 0 t → Tells k 0 0 (s ++ t)
silent_append s t first second = tells_append 0 0 0 0 s t first second

pub silent_before : {k : Naming} → (d x : ℕ) (s t : List ℕ) → Tells k 0 0 s → Tells k d x t → Tells k d x (s ++ t)
silent_before d x s t first second = record {
  delivered = λ rest. let a = (tells_append 0 0 d x s t first second).delivered rest in omega arith;
  dropped = λ rest. let a = (tells_append 0 0 d x s t first second).dropped rest in omega arith;
}

pub silent_after : {k : Naming} → (d x : ℕ) (s t : List ℕ) → Tells k d x s → Tells k 0 0 t → Tells k d x (s ++ t)
silent_after d x s t first second = record {
  delivered = λ rest. let a = (tells_append d x 0 0 s t first second).delivered rest in omega arith;
  dropped = λ rest. let a = (tells_append d x 0 0 s t first second).dropped rest in omega arith;
}

-- ---- one line

line_count : (p : List ℕ → Bool) (t rest : List ℕ) → is_clean t ≡ true → lines_by p (line t ++ rest) ≡ cond (p t) 1 0 + lines_by p rest
line_count p t rest clean =
    ap (lines_by p) (append_assoc t (10 ∷ []) rest) ∙ ap (count_by p) (parts_at 10 t rest (lacks_lf t clean))
    ∙ sum_by-cons (λ l. cond (p l) 1 0) t (parts 10 rest)

tells_line : {k : Naming} → (d x : ℕ) (t : List ℕ) → is_clean t ≡ true → cond (k.delivery t) 1 0 ≡ d → cond (k.drop t) 1 0 ≡ x → Tells k d x (line t)
tells_line {k = k} d x t clean is_d is_x = record {
  delivered = λ rest. let a = line_count k.delivery t rest clean in omega arith;
  dropped = λ rest. let a = line_count k.drop t rest clean in omega arith;
}

pub silent_line : {k : Naming} → (t : List ℕ) → is_clean t ≡ true → begins (codes "  delivered ") t ≡ false → begins (codes "  dropped ") t ≡ false → Tells k 0 0 (line t)
silent_line {k = k} t clean d x = tells_line 0 0 t clean (ap (λ b. cond b 1 0) (k.other_delivery t d)) (ap (λ b. cond b 1 0) (k.other_drop t x))

-- ---- data

-- what stands after the label of a datum
rest_clean : (mesh : Nodes) (o d : ℕ) (body : Body) → is_clean (name_of mesh o ++ 32 ∷ name_of mesh d ++ 32 ∷ flat_map shown_byte body) ≡ true
rest_clean mesh o d body =
    clean_append (name_of mesh o ++ 32 ∷ name_of mesh d) (32 ∷ flat_map shown_byte body)
    (clean_append (name_of mesh o) (32 ∷ name_of mesh d) (name_clean mesh o) (name_clean mesh d)) (shown_clean body)

delivered_datum : {k : Naming} → (mesh : Nodes) (o d : ℕ) (body : Body) → Tells k (counts (deliveries_in k mesh) o d body) 0 (datum_text (codes "  delivered ") mesh o d body)
delivered_datum {k = k} mesh o d body =
    let words : List ℕ = datum_words (codes "  delivered ") mesh o d body in
    tells_line (counts (deliveries_in k mesh) o d body) 0 words (rest_clean mesh o d body) refl (ap (λ b. cond b 1 0) (k.other_drop words refl))

dropped_datum : {k : Naming} → (mesh : Nodes) (o d : ℕ) (body : Body) → Tells k 0 (counts (drops_in k mesh) o d body) (datum_text (codes "  dropped ") mesh o d body)
dropped_datum {k = k} mesh o d body =
    let words : List ℕ = datum_words (codes "  dropped ") mesh o d body in
    tells_line 0 (counts (drops_in k mesh) o d body) words (rest_clean mesh o d body) (ap (λ b. cond b 1 0) (k.other_delivery words refl)) refl

delivered_message : {k : Naming} → (mesh : Nodes) (m : Message) → Tells k (in_message (deliveries_in k mesh) m) 0 (datum_in (codes "  delivered ") mesh m)
delivered_message mesh (Pkt body d o) = delivered_datum mesh o d body
delivered_message mesh (Rreq m) = tells_none
delivered_message mesh (Rrep m) = tells_none
delivered_message mesh (Rerr dests) = tells_none

dropped_message : {k : Naming} → (mesh : Nodes) (m : Message) → Tells k 0 (in_message (drops_in k mesh) m) (datum_in (codes "  dropped ") mesh m)
dropped_message mesh (Pkt body d o) = dropped_datum mesh o d body
dropped_message mesh (Rreq m) = tells_none
dropped_message mesh (Rrep m) = tells_none
dropped_message mesh (Rerr dests) = tells_none

-- ---- what happened

took_silent : {k : Naming} → (mesh : Nodes) (x : ℕ) (took : Took) → Tells k 0 0 (took_text mesh x took)
took_silent mesh x (Own body) = silent_line (codes "  took new " ++ name_of mesh x) (name_clean mesh x) refl refl
took_silent mesh x (Stored dest) = silent_line (codes "  took new " ++ name_of mesh dest) (name_clean mesh dest) refl refl
took_silent mesh x (FromNeighbour from (Pkt body d o)) = silent_line (codes "  took " ++ codes "data " ++ name_of mesh from) (name_clean mesh from) refl refl
took_silent mesh x (FromNeighbour from (Rreq m)) = silent_line (codes "  took " ++ codes "rreq " ++ name_of mesh from) (name_clean mesh from) refl refl
took_silent mesh x (FromNeighbour from (Rrep m)) = silent_line (codes "  took " ++ codes "rrep " ++ name_of mesh from) (name_clean mesh from) refl refl
took_silent mesh x (FromNeighbour from (Rerr dests)) = silent_line (codes "  took " ++ codes "rerr " ++ name_of mesh from) (name_clean mesh from) refl refl

delivery_told : {k : Naming} → (mesh : Nodes) (x : ℕ) (took : Took) → Tells k (in_taken (deliveries_in k mesh) x took) 0 (delivery_text mesh x took)
delivery_told mesh x (Own body) = delivered_datum mesh x x body
delivery_told mesh x (Stored dest) = tells_none
delivery_told mesh x (FromNeighbour from m) = delivered_message mesh m

drop_told : {k : Naming} → (mesh : Nodes) (took : Took) → Tells k 0 (in_dropped (drops_in k mesh) took) (drop_text mesh took)
drop_told mesh (Own body) = tells_none
drop_told mesh (Stored dest) = tells_none
drop_told mesh (FromNeighbour from m) = dropped_message mesh m

if_delivered : {k : Naming} → (b : Bool) (n : ℕ) (t : List ℕ) → Tells k n 0 t → Tells k (if b then n else 0) 0 (if b then t else [])
if_delivered true n t is = is
if_delivered false n t is = tells_none

if_dropped : {k : Naming} → (b : Bool) (n : ℕ) (t : List ℕ) → Tells k 0 n t → Tells k 0 (if b then n else 0) (if b then t else [])
if_dropped true n t is = is
if_dropped false n t is = tells_none

both_told : {k : Naming} → (d x : ℕ) (s t : List ℕ) → Tells k d 0 s → Tells k 0 x t → Tells k d x (s ++ t)
both_told d x s t first second = record {
  delivered = λ rest. let a = (tells_append d 0 0 x s t first second).delivered rest in omega arith;
  dropped = λ rest. let a = (tells_append d 0 0 x s t first second).dropped rest in omega arith;
}

fate_told : {k : Naming} → (mesh : Nodes) (x : ℕ) (took : Took) (e : Effect)
    → Tells k (if e.deliver then in_taken (deliveries_in k mesh) x took else 0) (if e.lost then in_dropped (drops_in k mesh) took else 0) (datum_fate mesh x took e)
fate_told {k = k} mesh x took e =
    both_told _ _ (if e.deliver then delivery_text mesh x took else []) (if e.lost then drop_text mesh took else [])
    (if_delivered e.deliver (in_taken (deliveries_in k mesh) x took) (delivery_text mesh x took) (delivery_told mesh x took))
    (if_dropped e.lost (in_dropped (drops_in k mesh) took) (drop_text mesh took) (drop_told mesh took))

broken_silent : {k : Naming} → (mesh : Nodes) (o : Option ℕ) → Tells k 0 0 (broken_text mesh o)
broken_silent mesh None = tells_none
broken_silent mesh (Some y) = silent_line (codes "  broken " ++ name_of mesh y) (name_clean mesh y) refl refl

cast_silent : {k : Naming} → (mesh : Nodes) (c : Cast) → Tells k 0 0 (cast_text mesh c)
cast_silent mesh Nothing = tells_none
cast_silent mesh (One y m) =
    silent_line (codes "  sent one " ++ name_of mesh y ++ 32 ∷ hex (packet_of mesh m)) (name_then mesh y (32 ∷ hex (packet_of mesh m)) (hex_clean (packet_of mesh m))) refl refl
cast_silent mesh (Many s m) =
    silent_line (codes "  sent many " ++ set_text mesh s ++ 32 ∷ hex (packet_of mesh m))
    (clean_append (set_text mesh s) (32 ∷ hex (packet_of mesh m)) (set_clean mesh s) (hex_clean (packet_of mesh m))) refl refl
cast_silent mesh (All m) = silent_line (codes "  sent all " ++ hex (packet_of mesh m)) (hex_clean (packet_of mesh m)) refl refl

copy_clean : (mesh : Nodes) (id to : ℕ) → is_clean (decimal id ++ 32 ∷ name_of mesh to) ≡ true
copy_clean mesh id to = clean_append (decimal id) (32 ∷ name_of mesh to) (decimal_clean id) (name_clean mesh to)

copies_silent : {k : Naming} → (mesh : Nodes) (cs : List Copy) → Tells k 0 0 (copies_text mesh cs)
copies_silent mesh [] = tells_none
copies_silent mesh (c ∷ cs) =
    silent_append (line (label_number (codes "  copy ") c.id ++ 32 ∷ name_of mesh c.to)) (copies_text mesh cs)
    (silent_line (label_number (codes "  copy ") c.id ++ 32 ∷ name_of mesh c.to) (copy_clean mesh c.id c.to) refl refl) (copies_silent mesh cs)

sent_silent : {k : Naming} → (mesh : Nodes) (e : Effect) (cs : List Copy) → Tells k 0 0 (sent_text mesh e cs)
sent_silent mesh e cs =
    silent_append (broken_text mesh e.broken ++ cast_text mesh e.cast) (copies_text mesh cs)
    (silent_append (broken_text mesh e.broken) (cast_text mesh e.cast) (broken_silent mesh e.broken) (cast_silent mesh e.cast)) (copies_silent mesh cs)

two_clean : (mesh : Nodes) (from to : ℕ) → is_clean (name_of mesh from ++ 32 ∷ name_of mesh to) ≡ true
two_clean mesh from to = name_then mesh from (32 ∷ name_of mesh to) (name_clean mesh to)

-- what happened at node x tells what it delivered and what was dropped
pub world_effect_told : {k : Naming} → (mesh : Nodes) (x : ℕ) (h : WorldEffect) → Tells k (delivered_in (deliveries_in k mesh) x h) (dropped_in (drops_in k mesh) h) (world_effect_text mesh x h)
unfolding world_effect_text
world_effect_told mesh x Changed = tells_none
world_effect_told mesh x (Taken took e cs) =
    silent_after _ _ (took_text mesh x took ++ datum_fate mesh x took e) (sent_text mesh e cs)
    (silent_before _ _ (took_text mesh x took) (datum_fate mesh x took e) (took_silent mesh x took) (fate_told mesh x took e)) (sent_silent mesh e cs)
world_effect_told mesh x (Sent e cs) = sent_silent mesh e cs
world_effect_told mesh x (CopyHeard from to) = silent_line (codes "  heard " ++ name_of mesh from ++ 32 ∷ name_of mesh to) (two_clean mesh from to) refl refl
world_effect_told mesh x (CopyLost c) =
    silent_before 0 _ (line (codes "  lost " ++ name_of mesh c.from ++ 32 ∷ name_of mesh c.to)) (datum_in (codes "  dropped ") mesh c.message)
    (silent_line (codes "  lost " ++ name_of mesh c.from ++ 32 ∷ name_of mesh c.to) (two_clean mesh c.from c.to) refl refl) (dropped_message mesh c.message)
world_effect_told mesh x (CopyDoubled id to parcel) = silent_line (label_number (codes "  copy ") id ++ 32 ∷ name_of mesh to) (copy_clean mesh id to) refl refl
