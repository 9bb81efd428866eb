-- a recording whose requests are started in other rounds
use Rattle.std.specs.Prelude.{ℕ, ◌+◌, ◌-◌, min, List, [], length, map, slice_index}
use Rattle.std.specs.Option.{option_map}
use Rattle.cam_types.specs.Lists.{prefixed}
use Rattle.recording_file.specs.Recorded.{Recorded}
use Rattle.recording_file.specs.declared.request.Request.{Request}

-- a request that is started in another round: its completion is as long after the start as it was, up to the latest that there may be
abbrev pub moved_to : Request → ℕ → Request
moved_to q round = record q { sent = round; done = option_map (λ done. min (round + (done - q.sent)) 4294967295) q.done }

-- requests that are started in the rounds of their numbers
abbrev pub moved : List ℕ → List Request → List Request
moved rounds requests = map (λ (m : List Request × Request). moved_to m.1 (slice_index rounds (length m.0))) (prefixed requests)

-- the recording by these rounds
abbrev pub rescheduled : Recorded → List ℕ → Recorded
rescheduled r rounds = record r { requests = moved rounds r.requests }

-- a recording without names, caps and requests
abbrev pub begun : Recorded → Recorded
begun r = record r { names = []; caps = []; requests = [] }
