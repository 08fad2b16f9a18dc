-- No part of a world that was read and made is refused.
use Rattle.std.proofs.Common.{◌≡◌, ℕ, ◌+◌, ◌≤◌, List, length, Option, Some, None, sym, ap, subst, ◌∙◌, arith}
use Rattle.std.specs.Prelude.{slice_get, option_map}
use Rattle.std.proofs.lemmas.List.{length-map}
use Rattle.std.proofs.lemmas.Option.{same_Some, slice_get-map, slice_get_within}
use Rattle.mesh_base.specs.Meshes.{Nodes}
use Rattle.mesh_base.specs.declared.events.Flying.{Flying}
use Rattle.mesh_base.specs.declared.events.Variant.{Variant}
use Rattle.aodv_node.specs.Seen.{NodeSeen}
use Rattle.mesh_world.specs.Seen.{WorldSeen}
use Rattle.mesh_world.specs.Restored.{AreSoundParts, IsFirstPart}
use Rattle.mesh_world.specs.declared.restored.Part.{Part}
use Rattle.mesh_world.specs.declared.restored.Part.TheVariants as parts
use Rattle.mesh_checkpoint.specs.Checkpoint.{Node, World}
use Rattle.mesh_checkpoint.specs.Seen.{listed_node}
use Rattle.mesh_load.specs.Nodes.{IsSoundNodeAt, AreListed, IsUnsoundAt}
use Rattle.mesh_load.specs.Loading.{AreInPlace, IsUnsoundWorld}
use Rattle.mesh_load.specs.Parts.{IsWorldFrom, IsMaybeWorldFrom, IsUnsoundIfWorld}
use Rattle.mesh_load.proofs.NodeLists.{at_index}
use Rattle.mesh_load.proofs.Alike.{AreAlike, one_nodes, sound_again, items_alike, written_alike, first_part_alike}

-- a node that is listed is one of these
none_unsound_at : (variant : Variant) (size x : ℕ) (lists : List Node) (nodes : List NodeSeen) → size ≤ 256 → AreListed variant size lists nodes → ¬ (IsUnsoundAt variant size lists x)
none_unsound_at variant size x lists nodes few l unsound =
    let n : NodeSeen = unsound.0 in
    let within = slice_get_within lists x (listed_node n) (unsound.1).listed_is in
    let long : length lists ≡ length nodes = ap (λ (ls : List Node). length ls) l.lists_are ∙ length-map nodes listed_node in
    let at = at_index (IsSoundNodeAt variant size) 0 nodes x l.each (omega (arith, within, long)) in
    let first : 0 + x ≡ x = omega arith in
    let is : IsSoundNodeAt variant size x at.0 = subst (λ (k : ℕ). IsSoundNodeAt variant size k at.0) first at.2 in
    let there : slice_get lists x ≡ Some (listed_node at.0) = ap (λ (ls : List Node). slice_get ls x) l.lists_are ∙ slice_get-map listed_node nodes x ∙ ap (option_map listed_node) at.1 in
    let same : listed_node at.0 ≡ listed_node n = same_Some (listed_node at.0) (listed_node n) (sym there ∙ (unsound.1).listed_is) in
    unsound.2 (sound_again variant size x at.0 n few is (unsound.1).mine (unsound.1).below same)

no_first_part : (mesh : Nodes) (nodes : List NodeSeen) (flying : List Flying) (part : Part) → AreSoundParts mesh nodes flying → ¬ (IsFirstPart mesh nodes flying part)
no_first_part mesh nodes flying (parts.Node x) sound first = first
no_first_part mesh nodes flying parts.Item sound first = first sound.written
no_first_part mesh nodes flying parts.Request sound first = first.1 sound.requests
no_first_part mesh nodes flying parts.Reply sound first = first.2 sound.replies
no_first_part mesh nodes flying (parts.Edge x d) sound first = first.3.fails (sound.backed x d)

alike_lists : (variant : Variant) (size : ℕ) (lists : List Node) (ns ms : List NodeSeen) → size ≤ 256 → AreListed variant size lists ns → AreListed variant size lists ms → AreAlike ns ms
alike_lists variant size lists ns ms few l k = one_nodes variant size 0 ns ms few l.each k.each (sym l.lists_are ∙ k.lists_are)

in_place_alike : (mesh : Nodes) (ns ms : List NodeSeen) (flying : List Flying) → AreAlike ns ms → AreInPlace mesh ns flying → AreInPlace mesh ms flying
in_place_alike mesh ns ms flying alike all = record {
  items = items_alike ns ms alike all.items;
  between = all.between;
  written = written_alike mesh ns ms flying alike all.written;
}

no_part : (mesh : Nodes) (variant : Variant) (lists : List Node) (nodes ns : List NodeSeen) (flying copies : List Flying) (part : Part) → length mesh ≤ 256 → AreListed variant (length mesh) lists nodes → AreSoundParts mesh nodes flying → copies ≡ flying → AreListed variant (length mesh) lists ns → ¬ (IsFirstPart mesh ns copies part)
no_part mesh variant lists nodes ns flying copies part few l sound same k first =
    let alike = alike_lists variant (length mesh) lists ns nodes few k l in
    no_first_part mesh nodes flying part sound (first_part_alike mesh ns nodes flying part alike (subst (λ (cs : List Flying). IsFirstPart mesh ns cs part) same first))

pub none_unsound : (mesh : Nodes) (variant : Variant) (w : World) (seen : WorldSeen) (part : Part) → length mesh ≤ 256 → IsWorldFrom mesh variant w seen → ¬ (IsUnsoundWorld mesh variant w part)
none_unsound mesh variant w seen (parts.Node x) few is unsound = none_unsound_at variant (length mesh) x w.nodes is.nodes few is.listed_are unsound.0
none_unsound mesh variant w seen parts.Item few is unsound =
    let alike = alike_lists variant (length mesh) w.nodes is.nodes unsound.0 few is.listed_are unsound.1 in
    unsound.2 (subst (λ (cs : List Flying). AreInPlace mesh unsound.0 cs) (sym is.copies_are) (in_place_alike mesh is.nodes unsound.0 (is.radio).flying alike is.in_place))
none_unsound mesh variant w seen parts.Request few is unsound = no_part mesh variant w.nodes is.nodes unsound.0 (is.radio).flying w.copies parts.Request few is.listed_are is.sound is.copies_are unsound.1 unsound.3
none_unsound mesh variant w seen parts.Reply few is unsound = no_part mesh variant w.nodes is.nodes unsound.0 (is.radio).flying w.copies parts.Reply few is.listed_are is.sound is.copies_are unsound.1 unsound.3
none_unsound mesh variant w seen (parts.Edge x d) few is unsound = no_part mesh variant w.nodes is.nodes unsound.0 (is.radio).flying w.copies (parts.Edge x d) few is.listed_are is.sound is.copies_are unsound.1 unsound.3

pub none_unsound_if : (mesh : Nodes) (variant : Variant) (w : Option World) (seen : Option WorldSeen) (part : Part) → length mesh ≤ 256 → IsMaybeWorldFrom mesh variant w seen → ¬ (IsUnsoundIfWorld mesh variant w part)
none_unsound_if mesh variant None seen part few is unsound = unsound
none_unsound_if mesh variant (Some w) None part few is unsound = is
none_unsound_if mesh variant (Some w) (Some seen) part few is unsound = none_unsound mesh variant w seen part few is unsound
