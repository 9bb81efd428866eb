-- When a request can be put after others.
use Rattle.std.specs.Prelude.{◌≡◌, ℕ, List, length, None}
use Rattle.cam_types.specs.Topology.{Topology, IsConfig}
use Rattle.recording_file.specs.Places.{places_of, AreWithin, Places}
use Rattle.recording_file.specs.Caps.{Cap}
use Rattle.recording_file.specs.Recorded.{Request, crowd_cause, plain_cause}
use Rattle.recording_file.specs.Room.{IsRoom}

-- there is no cause against it, and these are its places in the table
pub record IsReady (rounds : ℕ) (c : Topology) (caps : List Cap) (before : List Request) (q : Request) (p : Places) (cells : List ℕ) : Type 0 where
  pub config : IsConfig c
  pub places : p ≡ places_of rounds c q.device q.sent
  pub room : IsRoom rounds c caps before cells
  pub within : AreWithin (length cells) p
  pub plain : plain_cause rounds c q ≡ None
  pub crowd : crowd_cause c caps before q ≡ None
