-- The lines whose text is read back: the nodes that they name are in the mesh, and their numbers
-- and texts are those that a line may have.
use Rattle.std.specs.Prelude.{◌≡◌, ℕ, ◌^◌, ◌<◌, ◌≤◌, ◌⊎◌, Bool, true, false, List, length, None, codes, ⊤}
use Rattle.mesh_base.specs.declared.limits.TheConstants.{MOST_NODES, MOST_EVENTS}
use Rattle.mesh_base.specs.Meshes.{Nodes, index_of}
use Rattle.mesh_model.specs.Worlds.{Event}
use Rattle.mesh_model.specs.InMesh.{IsEvent}
use Rattle.mesh_grammar.specs.Words.{is_blank}
use Rattle.mesh_grammar.specs.Forms.{Arguments, OneAddress, OneNumber, AddressesAndText, greatest_first, IsText}
use Rattle.mesh_grammar.specs.Commands.{greatest_id}
use Rattle.mesh_grammar.specs.Written.{command_text}
use Rattle.mesh_text.specs.Schedule.{AcceptedLine, Nothing, NewNode, Does, Chooses, ShowsNode, ShowsRoute, ShowsFlight}
use Rattle.mesh_text.specs.Lines.{event_command, words_of}

-- arguments that the line of an event may have: a copy's id of at least 1; and a datum's text
abbrev pub AreArgumentsInRange : Arguments ℕ → Type 0
AreArgumentsInRange (OneNumber id) = (1 ≤ id) × (id ≤ greatest_id)
AreArgumentsInRange (AddressesAndText a b text) = IsText text
AreArgumentsInRange others = ⊤

-- an event that a line may be, in this mesh, which has a node
abbrev pub IsEventLine : Nodes → Event → Type 0
IsEventLine mesh e =
    (1 ≤ length mesh) × IsEvent (length mesh) e
    × AreArgumentsInRange (event_command mesh e).arguments

-- a new node, which isn't in the mesh yet
pub record IsNewNode (mesh : Nodes) (address first : ℕ) : Type 0 where
  pub fits : address < 2 ^ 32
  pub absent : index_of mesh address ≡ None
  pub few : length mesh < MOST_NODES
  pub positive : 1 ≤ first
  pub most : first ≤ greatest_first

-- an allowed line of this mesh
abbrev pub IsInRange : Nodes → AcceptedLine → Type 0
IsInRange mesh Nothing = ⊤
IsInRange mesh (NewNode address first) = IsNewNode mesh address first
IsInRange mesh (Does e) = IsEventLine mesh e
IsInRange mesh (Chooses count) = (1 ≤ length mesh) × (1 ≤ count) × (count ≤ MOST_EVENTS)
IsInRange mesh (ShowsNode x) = x < length mesh
IsInRange mesh (ShowsRoute x d) = (x < length mesh) × (d < length mesh)
IsInRange mesh ShowsFlight = 1 ≤ length mesh

-- a new node comes only before a run has started
abbrev pub IsInTime : Bool → AcceptedLine → Type 0
IsInTime started (NewNode address first) = started ≡ false
IsInTime started others = ⊤

-- the line that was read is the text in which it is written back, except that it may give a new
-- node without its number, which is 1 then; a blank line is any blank text
abbrev pub IsEcho : Nodes → List ℕ → AcceptedLine → Type 0
IsEcho mesh line Nothing = is_blank line ≡ true
IsEcho mesh line (NewNode address first) =
    (line ≡ words_of mesh (NewNode address first))
    ⊎ ((first ≡ 1) × (line ≡ command_text (codes "node") (OneAddress address)))
IsEcho mesh line other = line ≡ words_of mesh other
