-- The code's peers, and the log of a node's step in terms of the code.
use Rattle.std.specs.Prelude.{◌≡◌, ◌≢◌, ◌<◌, ℕ, List, [], ◌++◌, length, true, Option, Some, None}
use Rattle.std.specs.FinSet as sets
use Rattle.mesh_base.specs.Members.{NodeIds}
use Rattle.mesh_base.specs.Meshes.{Nodes}
use Rattle.mesh_base.specs.declared.events.Cast.{Cast}
use Rattle.mesh_base.specs.declared.events.Effect.{Effect}
use Rattle.mesh_base.specs.declared.events.Took.{Took}
use Rattle.mesh_meaning.specs.Answers.{cast_in, effect_in, took_in}
use Rattle.mesh_model.specs.Worlds.{members_below, receivers}
use Rattle.mesh_grammar.specs.Written.{line}
use Rattle.mesh_script.specs.NodeLines.{AcceptedLine, words_of}
use Rattle.mesh_script.specs.Peers.{PeersSeen}
use Rattle.mesh_text.specs.Effects.{took_text, datum_fate, broken_text, cast_text}
use Rattle.mesh_router.specs.Logs.{Log, text_log, followed_by}
use Rattle.mesh_router.specs.Casts.{sent_to_each}

-- another node of the mesh
abbrev pub IsPeer : PeersSeen → ℕ → Type 0
IsPeer p x = (x < length p.mesh) × (p.me ≢ Some x)

abbrev pub ArePeers : PeersSeen → NodeIds → Type 0
ArePeers p s = (x : ℕ) → sets.contains s x ≡ true → IsPeer p x

-- the nodes in range to which a cast of this packet goes
abbrev pub receivers_of : PeersSeen → NodeIds → Cast → List ℕ → List ℕ
receivers_of p range cast packet =
    members_below (length p.mesh) (receivers range (cast_in p.mesh cast packet))

-- the text of what node x took, if it did a turn, and what became of that
abbrev pub taken_by : Nodes → ℕ → Option Took → Effect → List ℕ
taken_by mesh x None e = []
taken_by mesh x (Some t) e =
    took_text mesh x (took_in mesh t) ++ datum_fate mesh x (took_in mesh t) (effect_in mesh e [])

-- that text, and then a failed unicast and what was cast
abbrev pub code_text : Nodes → ℕ → Option Took → Effect → List ℕ → List ℕ
code_text mesh x t e packet =
    taken_by mesh x t e
    ++ (broken_text mesh e.broken ++ cast_text mesh (cast_in mesh e.cast packet))

-- the log of what node x did
abbrev pub code_log : PeersSeen → NodeIds → ℕ → Option Took → Effect → List ℕ → Log
code_log p range x t e packet =
    followed_by (text_log (code_text p.mesh x t e packet))
    (sent_to_each p packet (receivers_of p range e.cast packet))

-- the log of what node x did of its own accord, below its line
abbrev pub act_log : PeersSeen → NodeIds → ℕ → AcceptedLine → Effect → List ℕ → Log
act_log p range x l effect packet =
    followed_by (text_log (line (words_of p.mesh l))) (code_log p range x None effect packet)
