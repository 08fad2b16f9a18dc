-- The statements that this crate proves of its definitions.
use Rattle.std.specs.Prelude.{◌≡◌, ◌+◌, ◌++◌, ℕ, List, length}
use Rattle.mesh_base.specs.declared.events.Variant.{Variant}
use Rattle.mesh_io.specs.NextLines.{text_limits}
use Rattle.mesh_shell.specs.Laws.{AreWhole}
use Rattle.mesh_shell.specs.Pieces.{pieces_within}
use Rattle.mesh_shell.specs.Fold.{whole}
use Rattle.mesh_text.specs.Text.{text_of_input}
use Rattle.mesh_blocks.specs.declared.below.Below.TheVariants.{Blocks}
use Rattle.mesh_blocks.specs.Text.{watched_of_input}
use Rattle.mesh_grid.specs.Text as places
use Rattle.mesh_capture.specs.Captures.{capture_of}
use Rattle.mesh_capture.specs.Runs.{frames_of_input, frames_of_placed_input, file_of}
use Rattle.mesh_capture.specs.declared.status.CaptureVerdict.TheVariants.{Done}
use Rattle.mesh_capture.specs.declared.frame.Frame.{Frame}
use Rattle.mesh_capture.specs.Frames.{words_sum, carry, header, datagram, pseudo_header, record_of, packet_size}

-- ---- what a receiver of a packet checks

-- the 16-bit words of the header sum to all ones
abbrev pub HeadersSumToAllOnes : Type 0
HeadersSumToAllOnes = (f : Frame) → carry (words_sum (header f)) ≡ 65535

-- so do those of the datagram, with the addresses, the protocol and the size
abbrev pub DatagramsSumToAllOnes : Type 0
DatagramsSumToAllOnes =
    (f : Frame) → carry (words_sum (pseudo_header f ++ datagram f)) ≡ 65535

-- a packet has as many bytes as it says, after the 16 that hold its time and its sizes
abbrev pub PacketsAreAsLongAsTheySay : Type 0
PacketsAreAsLongAsTheySay = (f : Frame) → length (record_of f) ≡ 16 + packet_size f

-- ---- the text of a run

-- if neither a line of a run's text nor the whole text goes past its limit, the text's capture has
-- the packets of the copies that the run's events deliver and lose, and no line of the text is
-- refused
abbrev pub RunIsCaptured : Type 0
RunIsCaptured = (variant : Variant) (input : List ℕ) →
    let text = whole (text_of_input variant input) in
    AreWhole (pieces_within text_limits text)
    → (whole (capture_of text) ≡ file_of (frames_of_input variant input))
    × ((capture_of text).verdict ≡ Done)

-- the same for the text of a watched run with blocks: these say nothing about copies, and none of
-- their lines is refused
abbrev pub WatchedRunIsCaptured : Type 0
WatchedRunIsCaptured = (variant : Variant) (input : List ℕ) →
    let text = whole (watched_of_input Blocks variant input) in
    AreWhole (pieces_within text_limits text)
    → (whole (capture_of text) ≡ file_of (frames_of_input variant input))
    × ((capture_of text).verdict ≡ Done)

-- the same for the text of a run with places, whatever the reach: each link that is made or cut as
-- a node comes to its place is an event too
abbrev pub RunWithPlacesIsCaptured : Type 0
RunWithPlacesIsCaptured = (reach : ℕ) (variant : Variant) (input : List ℕ) →
    let text = whole (places.text_of_input reach variant input) in
    AreWhole (pieces_within text_limits text)
    → (whole (capture_of text) ≡ file_of (frames_of_placed_input reach variant input))
    × ((capture_of text).verdict ≡ Done)
