-- The packets of a run: one for each copy that was heard or lost, with the number of the event that
-- ended it.
use Rattle.std.specs.Prelude.{ℕ, ◌+◌, Bool, true, false, List, [], ◌∷◌, ◌++◌, Option, Some, None}
use Rattle.std.specs.List.{flat_map}
use Rattle.mesh_base.specs.Meshes.{Nodes, addr_at}
use Rattle.mesh_base.specs.declared.events.Variant.{Variant}
use Rattle.mesh_model.specs.Worlds.{World, Copy, Event, Deliver, Lose, find_copy, step, after, start, first_numbers}
use Rattle.mesh_meaning.specs.Packets.{packet_of}
use Rattle.mesh_text.specs.Runs.{events_of_input, mesh_of_input}
use Rattle.mesh_grid.specs.Runs as places
use Rattle.mesh_capture.specs.declared.frame.Frame.{Frame}
use Rattle.mesh_capture.specs.Frames.{record_of, file_header}

-- the packet of a copy, with the addresses of its nodes and the number of the event
abbrev pub copy_frame : Nodes → ℕ → Bool → Copy → Frame
copy_frame mesh n lost c =
    record {
      event = n;
      from = addr_at mesh c.from;
      to = addr_at mesh c.to;
      lost = lost;
      packet = packet_of mesh c.message;
    }

-- the packet of a copy, if there is one
abbrev pub frame_if : Nodes → ℕ → Bool → Option Copy → List Frame
frame_if mesh n lost None = []
frame_if mesh n lost (Some c) = copy_frame mesh n lost c ∷ []

-- the packet of the n-th event of a run, in the world before it: that of the copy which the event
-- delivers or loses, if it does
abbrev pub frames_of_event : Nodes → ℕ → World → Event → List Frame
frames_of_event mesh n w (Deliver id) = frame_if mesh n false (find_copy w.flying id)
frames_of_event mesh n w (Lose id) = frame_if mesh n true (find_copy w.flying id)
frames_of_event mesh n w others = []

-- the packets of these events, from this world on; the first is the n-th event
unfoldable pub frames_from : Nodes → ℕ → World → List Event → List Frame
frames_from mesh n w [] = []
frames_from mesh n w (e ∷ es) =
    frames_of_event mesh n w e ++ frames_from mesh (n + 1) (after w (step w e)) es

-- the packets of all events of an input, from the opening world of its mesh on
abbrev pub frames_of_input : Variant → List ℕ → List Frame
frames_of_input variant input =
    let mesh = mesh_of_input variant input in
    frames_from mesh 1 (start variant (first_numbers mesh)) (events_of_input variant input)

-- the packets of all events of an input with places: the links that are made and cut as nodes come
-- to their places are events as well
abbrev pub frames_of_placed_input : ℕ → Variant → List ℕ → List Frame
frames_of_placed_input reach variant input =
    let mesh = places.mesh_of_input reach variant input in
    frames_from mesh 1 (start variant (first_numbers mesh))
    (places.events_of_input reach variant input)

-- the file that holds these packets
abbrev pub file_of : List Frame → List ℕ
file_of frames = file_header ++ flat_map record_of frames
