-- The whole table: each part is a format, so the body is.
use Rattle.std.proofs.Common.{◌≡◌, ℕ, zero, suc, ◌+◌, ◌^◌, ◌≤◌, ◌<◌, Bool, true, false, List, [], length, refl, sym, ap, ◌∙◌, arith, ◌⊎◌, inl, inr}
use Rattle.std.specs.Prelude.{nat_le, nat_lt, ◌==◌}
use Rattle.std.specs.Int.{w16, w32, w64}
use Rattle.std.proofs.lemmas.List.{append-nil}
use Rattle.std.proofs.lemmas.Bool.{ltb-true, and_parts}
use Rattle.mesh_base.specs.declared.limits.TheConstants.{MOST_NODES}
use Rattle.mesh_base.specs.declared.events.Variant.{Variant}
use Rattle.mesh_base.specs.declared.events.Variant.TheVariants.{Base, Number, Reply, Error}
use Rattle.mesh_base.specs.declared.events.Item.{Item}
use Rattle.mesh_base.specs.declared.events.Item.TheVariants.{New, Heard}
use Rattle.mesh_checkpoint.specs.Formats.{is_from, one_if, truth}
use Rattle.mesh_checkpoint.specs.Checkpoint.{variant_number, variant_of, variant, index, any16, any32, positive32, datum, sum, head, mesh, route, request, waits, item_of, parts_of, item, node, link, copy, world, has_nodes, body}
use Rattle.mesh_checkpoint.specs.Laws.{WrittenIsRead, ReadIsWritten}
use Rattle.mesh_checkpoint.proofs.Formats.{IsFormat, byte_is, wide16, wide32, wide64, number_is, seq_is, times_is, as_is, counted_is, counted_rising_is, text_is, maybe_is, either_is}

pub below : (low end n : ℕ) → is_from low end n ≡ true → n < end
below low end n e = let t = and_parts (nat_le low n) (nat_lt n end) e in ltb-true n end t.1

-- ---- values in another form

truth_of : (b : Bool) → (one_if b == 1) ≡ b
truth_of true = refl
truth_of false = refl

truth_back : (n : ℕ) → is_from 0 2 n ≡ true → one_if (n == 1) ≡ n
truth_back zero fits = refl
truth_back (suc zero) fits = refl
truth_back (suc (suc n)) fits = let lt = below 0 2 (suc (suc n)) fits in absurd (omega (arith, lt))

pub truth_is : IsFormat truth
truth_is = as_is _ _ _ (byte_is 0 2) truth_of truth_back

variant_there : (v : Variant) → variant_of (variant_number v) ≡ v
variant_there Base = refl
variant_there Number = refl
variant_there Reply = refl
variant_there Error = refl

variant_back : (n : ℕ) → is_from 0 4 n ≡ true → variant_number (variant_of n) ≡ n
variant_back zero fits = refl
variant_back (suc zero) fits = refl
variant_back (suc (suc zero)) fits = refl
variant_back (suc (suc (suc zero))) fits = refl
variant_back (suc (suc (suc (suc n)))) fits =
    let lt = below 0 4 (suc (suc (suc (suc n)))) fits in absurd (omega (arith, lt))

variant_is : IsFormat variant
variant_is = as_is _ _ _ (byte_is 0 4) variant_there variant_back

pub item_there : (i : Item) → item_of (parts_of i) ≡ i
item_there (New dest b) = refl
item_there (Heard from bytes) = refl

item_back : (p : (ℕ × List ℕ) ⊎ (ℕ × List ℕ)) → parts_of (item_of p) ≡ p
item_back (inl p) = refl
item_back (inr p) = refl

-- ---- numbers

index_is : (nodes : ℕ) → nodes ≤ 2 ^ 16 → IsFormat (index nodes)
index_is nodes few = number_is w16 (2 ^ 16) wide16 0 nodes few

sum_is : IsFormat sum
sum_is = number_is w64 (2 ^ 64) wide64 0 _ (omega arith)

any16_is : IsFormat any16
any16_is = number_is w16 (2 ^ 16) wide16 0 (2 ^ 16) (omega arith)

any32_is : IsFormat any32
any32_is = number_is w32 (2 ^ 32) wide32 0 (2 ^ 32) (omega arith)

positive32_is : IsFormat positive32
positive32_is = number_is w32 (2 ^ 32) wide32 1 (2 ^ 32) (omega arith)

datum_is : IsFormat datum
datum_is = text_is w16 (2 ^ 16) wide16 1 _ (omega arith)

-- ---- parts

route_is : (nodes : ℕ) → nodes ≤ 2 ^ 16 → IsFormat (route nodes)
route_is nodes few =
    as_is _ _ _
    (seq_is _ _ (index_is nodes few) λ _ _. seq_is _ _ any32_is λ _ _. seq_is _ _ truth_is λ _ _. seq_is _ _ truth_is λ _ _. seq_is _ _ (byte_is 1 256) λ _ _. seq_is _ _ (index_is nodes few) λ _ _.
    counted_rising_is _ _ _ any16_is (index_is nodes few))
    (λ r. refl) (λ p fits. refl)

request_is : (nodes : ℕ) → nodes ≤ 2 ^ 16 → IsFormat (request nodes)
request_is nodes few = seq_is _ _ (index_is nodes few) λ _ _. any32_is

waits_is : (nodes : ℕ) → nodes ≤ 2 ^ 16 → IsFormat (waits nodes)
waits_is nodes few =
    as_is _ _ _ (seq_is _ _ (index_is nodes few) λ _ _. seq_is _ _ truth_is λ _ _. counted_is _ _ positive32_is datum_is) (λ w. refl) (λ p fits. refl)

item_is : (nodes : ℕ) → nodes ≤ 2 ^ 16 → IsFormat (item nodes)
item_is nodes few =
    as_is _ _ _
    (either_is _ _ (seq_is _ _ (index_is nodes few) λ _ _. datum_is) (seq_is _ _ (index_is nodes few) λ _ _. text_is w16 (2 ^ 16) wide16 0 _ (omega arith)))
    item_there (λ p fits. item_back p)

node_is : (nodes : ℕ) → nodes ≤ 2 ^ 16 → IsFormat (node nodes)
node_is nodes few =
    as_is _ _ _
    (seq_is _ _ positive32_is λ _ _.
    seq_is _ _ (counted_rising_is _ _ _ any16_is (route_is nodes few)) λ _ _.
    seq_is _ _ (counted_rising_is _ _ _ any32_is (request_is nodes few)) λ _ _.
    seq_is _ _ (counted_rising_is _ _ _ any16_is (waits_is nodes few)) λ _ _.
    counted_is _ _ any32_is (item_is nodes few))
    (λ n. refl) (λ p fits. refl)

link_is : (nodes : ℕ) → nodes ≤ 2 ^ 16 → IsFormat (link nodes)
link_is nodes few =
    as_is _ _ _ (seq_is _ _ (index_is nodes few) λ a _. seq_is _ _ (number_is w16 (2 ^ 16) wide16 (a + 1) nodes few) λ _ _. truth_is) (λ l. refl) (λ p fits. refl)

copy_is : (nodes next : ℕ) → nodes ≤ 2 ^ 16 → next ≤ 2 ^ 64 → IsFormat (copy nodes next)
copy_is nodes next few small =
    as_is _ _ _ (seq_is _ _ (number_is w64 (2 ^ 64) wide64 1 next small) λ _ _. seq_is _ _ (index_is nodes few) λ _ _. seq_is _ _ (index_is nodes few) λ _ _. text_is w16 (2 ^ 16) wide16 0 _ (omega arith))
    (λ c. refl) (λ p fits. refl)

world_is : (nodes : ℕ) → nodes ≤ 2 ^ 16 → IsFormat (world nodes)
world_is nodes few =
    as_is _ _ _
    (seq_is _ _ (number_is w64 (2 ^ 64) wide64 0 _ (omega arith)) λ _ _.
    seq_is _ _ (times_is _ (node_is nodes few) nodes) λ _ _.
    seq_is _ _ (counted_rising_is _ _ _ any16_is (link_is nodes few)) λ _ _.
    seq_is _ _ (number_is w64 (2 ^ 64) wide64 1 _ (omega arith)) λ next fits.
    counted_rising_is _ _ _ any32_is (copy_is nodes next few (let b = below 1 _ next fits in omega (arith, b))))
    (λ w. refl) (λ p fits. refl)

head_is : IsFormat head
head_is =
    as_is _ _ _ (seq_is _ _ variant_is λ _ _. seq_is _ _ sum_is λ _ _. seq_is _ _ sum_is λ _ _. seq_is _ _ sum_is λ _ _. seq_is _ _ sum_is λ _ _. seq_is _ _ sum_is λ _ _. seq_is _ _ sum_is λ _ _. sum_is)
    (λ h. refl) (λ p fits. refl)

mesh_is : IsFormat mesh
mesh_is = counted_rising_is _ _ _ (number_is w16 (2 ^ 16) wide16 0 _ (omega arith)) (seq_is _ _ any32_is λ _ _. positive32_is)

few_nodes : (nodes : List (ℕ × ℕ)) → mesh.fits nodes ≡ true → length nodes ≤ 2 ^ 16
few_nodes nodes fits =
    let f = and_parts (is_from 0 (MOST_NODES + 1) (length nodes)) _ fits in
    let b = below 0 (MOST_NODES + 1) (length nodes) f.0 in omega (arith, b)

pub body_is : IsFormat body
body_is =
    as_is _ _ _ (seq_is _ _ head_is λ _ _. seq_is _ _ mesh_is λ nodes fits. maybe_is (has_nodes nodes) _ (world_is (length nodes) (few_nodes nodes fits)))
    (λ b. refl) (λ p fits. refl)

pub read_is_written : ReadIsWritten
read_is_written b x are e = let t = body_is.takes b x [] are e in (t.fits, t.parts ∙ append-nil (body.put x))

pub written_is_read : WrittenIsRead
written_is_read x fits = ap body.get (sym (append-nil (body.put x))) ∙ body_is.again x [] fits
