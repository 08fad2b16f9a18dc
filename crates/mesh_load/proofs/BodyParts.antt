-- The parts of a body, one after another.
use Rattle.std.proofs.Common.{◌≡◌, ◌≢◌, ℕ, zero, suc, ◌≤◌, true, false, List, [], ◌∷◌, length, Option, Some, None, refl, sym, ap, subst, ◌∙◌, arith}
use Rattle.std.specs.Prelude.{IfSome}
use Rattle.std.proofs.lemmas.Option.{same_Some}
use Rattle.mesh_base.specs.Meshes.{Nodes}
use Rattle.mesh_base.specs.declared.events.Variant.{Variant}
use Rattle.mesh_world.specs.Seen.{WorldSeen}
use Rattle.mesh_checkpoint.specs.declared.body.Head.{Head}
use Rattle.mesh_checkpoint.specs.Formats.{◌>>=◌, byte_at, maybe}
use Rattle.mesh_checkpoint.specs.Checkpoint as model
use Rattle.mesh_checkpoint.specs.Checkpoint.{World, Body, has_nodes}
use Rattle.mesh_load.specs.declared.error.StateError.{StateError}
use Rattle.mesh_load.specs.declared.error.StateError.TheVariants as errors
use Rattle.mesh_load.specs.Loading.{IsUnsoundWorld}
use Rattle.mesh_load.specs.Parts.{IsMade, IsRefusalOf, IsFitting, IsWorldFrom, IsMaybeWorldFrom, IsUnsoundIfWorld}
use Rattle.mesh_checkpoint.proofs.Behind.{maybe_first, maybe_second}
use Rattle.mesh_checkpoint.proofs.Formats.{bind_some}

-- ---- a world, or none, behind the byte that says so

has_none : (nodes : Nodes) → nodes ≡ [] → has_nodes nodes ≡ false
has_none nodes none = ap has_nodes none

has_some : (nodes : Nodes) → nodes ≢ [] → has_nodes nodes ≡ true
has_some [] some = absurd (some refl)
has_some (p ∷ ps) some = refl

pub some_nodes : (nodes : Nodes) → nodes ≢ [] → 1 ≤ length nodes
some_nodes [] some = absurd (some refl)
some_nodes (p ∷ ps) some = omega arith

-- what is read of a world, or none
abbrev pub read_maybe : Nodes → List ℕ → Option (Option World × List ℕ)
read_maybe nodes bytes = (maybe (has_nodes nodes) (model.world (length nodes))).get bytes

abbrev some_world : World × List ℕ → Option (Option World × List ℕ)
some_world x = Some (Some x.0, x.1)

pub world_of_none : (nodes : Nodes) (bytes : List ℕ) (k : ℕ) (rest : List ℕ) → byte_at 0 2 bytes ≡ Some (k, rest) → k ≢ 0 → nodes ≡ [] → read_maybe nodes bytes ≡ None
world_of_none nodes bytes k rest e some none =
    maybe_second (has_nodes nodes) (model.world (length nodes)).get bytes k rest e some ∙ rw (has_none nodes none) refl

there_is : (nodes : Nodes) (bytes : List ℕ) (k : ℕ) (rest : List ℕ) → byte_at 0 2 bytes ≡ Some (k, rest) → k ≢ 0 → nodes ≢ [] → read_maybe nodes bytes ≡ ((model.world (length nodes)).get rest >>= some_world)
there_is nodes bytes k rest e some nodes_some =
    maybe_second (has_nodes nodes) (model.world (length nodes)).get bytes k rest e some ∙ rw (has_some nodes nodes_some) refl

-- the world that is there is as it should be
of_some : (size : ℕ) (o : Option (World × List ℕ)) → IfSome (o >>= some_world) (λ x. IfSome x.0 (IsFitting size)) → IfSome o (λ x. IsFitting size x.0)
of_some size None fit = tt
of_some size (Some x) fit = fit

pub fitting_there : (nodes : Nodes) (bytes : List ℕ) (k : ℕ) (rest : List ℕ) → byte_at 0 2 bytes ≡ Some (k, rest) → k ≢ 0 → nodes ≢ [] → IfSome (read_maybe nodes bytes) (λ x. IfSome x.0 (IsFitting (length nodes)))
    → IfSome ((model.world (length nodes)).get rest) (λ x. IsFitting (length nodes) x.0)
fitting_there nodes bytes k rest e some nodes_some fit =
    of_some (length nodes) ((model.world (length nodes)).get rest) (subst (λ (o : Option (Option World × List ℕ)). IfSome o (λ x. IfSome x.0 (IsFitting (length nodes)))) (there_is nodes bytes k rest e some nodes_some) fit)

pub world_refused : (nodes : Nodes) (variant : Variant) (bytes : List ℕ) (k : ℕ) (rest : List ℕ) (e : StateError) → byte_at 0 2 bytes ≡ Some (k, rest) → k ≢ 0 → nodes ≢ [] → IsRefusalOf (IsUnsoundWorld nodes variant) ((model.world (length nodes)).get rest) e
    → IsRefusalOf (IsUnsoundIfWorld nodes variant) (read_maybe nodes bytes) e
world_refused nodes variant bytes k rest errors.NotState is some nodes_some refused = refused
world_refused nodes variant bytes k rest errors.Length is some nodes_some refused = refused
world_refused nodes variant bytes k rest errors.Spelling is some nodes_some refused = there_is nodes bytes k rest is some nodes_some ∙ rw refused refl
world_refused nodes variant bytes k rest errors.Sums is some nodes_some refused = refused
world_refused nodes variant bytes k rest (errors.Unsound part) is some nodes_some refused = λ w end whole.
    let x = bind_some ((model.world (length nodes)).get rest) some_world (w, end) (sym (there_is nodes bytes k rest is some nodes_some) ∙ whole) in
    let same : Some x.0.0 ≡ w = ap (λ (p : Option World × List ℕ). p.0) (same_Some (Some x.0.0, x.0.1) (w, end) x.2) in
    subst (λ (o : Option World). IsUnsoundIfWorld nodes variant o part) same (refused x.0.0 x.0.1 x.1)
world_refused nodes variant bytes k rest errors.NoMemory is some nodes_some refused = tt

pub world_made : (nodes : Nodes) (variant : Variant) (bytes : List ℕ) (k : ℕ) (rest : List ℕ) (seen : WorldSeen) → byte_at 0 2 bytes ≡ Some (k, rest) → k ≢ 0 → nodes ≢ [] → IsMade (IsWorldFrom nodes variant) ((model.world (length nodes)).get rest) seen
    → IsMade (IsMaybeWorldFrom nodes variant) (read_maybe nodes bytes) (Some seen)
world_made nodes variant bytes k rest seen is some nodes_some m = record {
  found = Some m.found;
  rest = m.rest;
  read_is = there_is nodes bytes k rest is some nodes_some ∙ rw m.read_is refl;
  made = m.made;
}

pub none_made : (nodes : Nodes) (variant : Variant) (bytes : List ℕ) (k : ℕ) (rest : List ℕ) → byte_at 0 2 bytes ≡ Some (k, rest) → k ≡ 0 → IsMade (IsMaybeWorldFrom nodes variant) (read_maybe nodes bytes) None
none_made nodes variant bytes k rest is zeroth = record {
  found = None;
  rest = rest;
  read_is = maybe_first (has_nodes nodes) (model.world (length nodes)).get bytes k rest is zeroth;
  made = tt;
}

-- ---- a body

abbrev with_mesh : Nodes → Option World × List ℕ → Option ((Nodes × Option World) × List ℕ)
with_mesh nodes y = Some ((nodes, y.0), y.1)

abbrev with_head : Head → (Nodes × Option World) × List ℕ → Option ((Head × (Nodes × Option World)) × List ℕ)
with_head head y = Some ((head, y.0), y.1)

abbrev to_body : (Head × (Nodes × Option World)) × List ℕ → Option (Body × List ℕ)
to_body x = Some (record { head = x.0.0; mesh = x.0.1.0; world = x.0.1.1 }, x.1)

abbrev pub as_body : Head → Nodes → Option World × List ℕ → Option (Body × List ℕ)
as_body head nodes y = Some (record { head = head; mesh = nodes; world = y.0 }, y.1)

collapse : (head : Head) (nodes : Nodes) (o : Option (Option World × List ℕ)) → (((o >>= with_mesh nodes) >>= with_head head) >>= to_body) ≡ (o >>= as_body head nodes)
collapse head nodes None = refl
collapse head nodes (Some y) = refl

pub body_at : (bytes r s : List ℕ) (head : Head) (nodes : Nodes) → model.head.get bytes ≡ Some (head, r) → model.mesh.get r ≡ Some (nodes, s) → model.body.get bytes ≡ (read_maybe nodes s >>= as_body head nodes)
body_at bytes r s head nodes one two = rw (one, two) (collapse head nodes (read_maybe nodes s))

pub no_head : (bytes : List ℕ) → model.head.get bytes ≡ None → model.body.get bytes ≡ None
no_head bytes none = rw none refl

pub no_mesh : (bytes r : List ℕ) (head : Head) → model.head.get bytes ≡ Some (head, r) → model.mesh.get r ≡ None → model.body.get bytes ≡ None
no_mesh bytes r head one none = rw (one, none) refl
