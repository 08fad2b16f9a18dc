-- What a router writes and sends, in order.
use Rattle.std.specs.Prelude.{ℕ, List, [], ◌∷◌, ◌++◌, map}
use Rattle.mesh_link.specs.Datagrams.{Datagram}

-- a byte of text that is written, or a datagram that is sent to its port
pub data LogItem : Type 0 where
  Byte : ℕ → LogItem
  Sent : Datagram → LogItem

-- what a router has written and sent, in order
abbrev pub Log : Type 0
Log = List LogItem

abbrev pub nothing : Log
nothing = []

-- the log that writes this text
unfoldable pub text_log : List ℕ → Log
text_log text = map Byte text

abbrev pub followed_by : Log → Log → Log
followed_by a b = a ++ b

-- the text of a log, and its datagrams
unfoldable pub text_of : Log → List ℕ
text_of [] = []
text_of (Byte b ∷ more) = b ∷ text_of more
text_of (Sent d ∷ more) = text_of more

unfoldable pub sent_of : Log → List Datagram
sent_of [] = []
sent_of (Byte b ∷ more) = sent_of more
sent_of (Sent d ∷ more) = d ∷ sent_of more
