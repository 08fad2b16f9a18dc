-- The words of the lines that a run writes, and what each of them is read as.
use Rattle.std.proofs.Common.{◌≡◌, ℕ, ◌^◌, ◌<◌, ◌≤◌, inl, inr, true, false, eqb, not, List, [], ◌∷◌, Some, length, ap, ◌∙◌, arith}
use Rattle.std.specs.Prelude.{is_some}
use Rattle.std.specs.List.{AllByRecursion, list_all, join_with_byte}
use Rattle.std.specs.Fmt.{decimal}
use Rattle.std.proofs.lemmas.Bool.{cases_lt, and_parts, not-true}
use Rattle.std.proofs.lemmas.List.{get_or_past}
use Rattle.std.proofs.lemmas.List.Elements.{All-from_recursion}
use Rattle.mesh_base.specs.Addresses.{address_of}
use Rattle.mesh_base.specs.Meshes.{Nodes, IsMesh, addr_at}
use Rattle.mesh_base.specs.Parts.{parts}
use Rattle.mesh_base.proofs.WrittenForms.{Lacks, parts_at, parts_none, dotted_lacks, decimal_lacks, address_of-dotted, positive-decimal}
use Rattle.mesh_grammar.specs.Commands.{greatest_id}
use Rattle.mesh_text.specs.Lines.{name_of}
use Rattle.mesh_lines.specs.Belows.{number_of}
use Rattle.mesh_lines.specs.Forms.{is_address}

-- ---- texts that lack a byte

each_other : (sep : ℕ) (text : List ℕ) → list_all (λ b. not (eqb b sep)) text ≡ true → AllByRecursion (λ b. eqb b sep ≡ false) text
each_other sep [] all = tt
each_other sep (b ∷ bs) all =
    let both = and_parts (not (eqb b sep)) (list_all (λ c. not (eqb c sep)) bs) all in (not-true (eqb b sep) both.0, each_other sep bs both.1)

pub word_lacks : (sep : ℕ) (text : List ℕ) → list_all (λ b. not (eqb b sep)) text ≡ true → Lacks sep text
word_lacks sep text all = All-from_recursion (λ b. eqb b sep ≡ false) text (each_other sep text all)

-- words with a space between each two
pub words_apart : (w : List ℕ) (ws : List (List ℕ)) → AllByRecursion (Lacks 32) (w ∷ ws) → parts 32 (join_with_byte 32 (w ∷ ws)) ≡ w ∷ ws
words_apart w [] lack = parts_none 32 w lack.0
words_apart w (v ∷ ws) lack = parts_at 32 w (join_with_byte 32 (v ∷ ws)) lack.0 ∙ ap (λ ps. w ∷ ps) (words_apart v ws lack.1)

-- ---- addresses and numbers

-- an address has 32 bits; past the mesh it is 0
pub address_fits : (mesh : Nodes) (x : ℕ) → IsMesh mesh → addr_at mesh x < 2 ^ 32
address_fits mesh x is = elim (cases_lt x (length mesh)) [
  | inl lt ↦ is.addresses x lt
  | inr le ↦ let none : addr_at mesh x ≡ 0 = ap (λ (p : ℕ × ℕ). p.0) (get_or_past mesh x (0, 0) le) in omega (arith, none)
]

pub name_lacks : (sep : ℕ) (mesh : Nodes) (x : ℕ) → sep < 46 → IsMesh mesh → Lacks sep (name_of mesh x)
name_lacks sep mesh x low is = dotted_lacks sep (addr_at mesh x) low (address_fits mesh x is)

pub name_read : (mesh : Nodes) (x : ℕ) → IsMesh mesh → address_of (name_of mesh x) ≡ Some (addr_at mesh x)
name_read mesh x is = address_of-dotted (addr_at mesh x) (address_fits mesh x is)

pub is_name : (mesh : Nodes) (x : ℕ) → IsMesh mesh → is_address (name_of mesh x) ≡ true
is_name mesh x is = ap is_some (name_read mesh x is)

pub number_lacks : (sep n : ℕ) → sep < 48 → n ≤ greatest_id → Lacks sep (decimal n)
number_lacks sep n low le = decimal_lacks sep n low (omega arith)

pub number_read : (n : ℕ) → 1 ≤ n → n ≤ greatest_id → number_of (decimal n) ≡ Some n
number_read n some le = positive-decimal greatest_id n some le (omega arith)
