use Rattle.std.proofs.Common.{◌≡◌, ◌<◌, length, false, true, refl, sym, ◌∙◌, arith}
use Rattle.std.proofs.lemmas.Option.{slice_get_read}
use Rattle.mesh_sound.proofs.Backed.{size_of}
use Rattle.mesh_sound.proofs.Tables.{at_least, of_entry, no_entry, least_in, in_least}
use Rattle.mesh_sound.proofs.honest.has_at_least.Goals as goal

different : false ≡ true → ⊥
different e = cc

pub entry-requires : goal.entry-requires
entry-requires c =
    let here = slice_get_read c.args.nodes.now _ c.args.x c.index-nodes-x.result refl c.requires.node c.index-nodes-x.is in
    let size = size_of c.args.nodes.now c.args.x c.index-nodes-x.result c.requires.sizes here in
    let dest : c.args.d < length c.args.nodes.now = c.requires.dest in
    omega arith

pub returns-in-Some : goal.returns-in-Some
returns-in-Some c =
    let nodes = c.args.nodes.now in
    let rt = c.index-nodes-x.result.core.rt in
    let here = slice_get_read nodes _ c.args.x c.index-nodes-x.result refl c.requires.node c.index-nodes-x.is in
    let there = sym c.entry.ensures ∙ c.in-Some.is in (
      λ t. least_in nodes c.args.x c.args.d c.args.d c.args.n c.args.h c.index-nodes-x.result here refl (at_least rt c.args.d c.args.n c.args.h c.in-Some.entry there (c.is_at_least.ensures.0 t)),
      λ least. c.is_at_least.ensures.1 (of_entry rt c.args.d c.args.n c.args.h c.in-Some.entry there (in_least nodes c.args.x c.args.d c.args.d c.args.n c.args.h c.index-nodes-x.result here refl least)),
    )

pub returns-in-None : goal.returns-in-None
returns-in-None c =
    let nodes = c.args.nodes.now in
    let rt = c.index-nodes-x.result.core.rt in
    let here = slice_get_read nodes _ c.args.x c.index-nodes-x.result refl c.requires.node c.index-nodes-x.is in (
      λ t. absurd (different t),
      λ least. absurd (no_entry rt c.args.d c.args.n c.args.h (sym c.entry.ensures ∙ c.in-None.is) (in_least nodes c.args.x c.args.d c.args.d c.args.n c.args.h c.index-nodes-x.result here refl least)),
    )
