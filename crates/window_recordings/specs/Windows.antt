-- a recording that is cut in two after a round: the window of the rounds up to it, and the window of those after it
use Rattle.std.specs.Prelude.{ℕ, ◌+◌, ◌-◌, ◌*◌, min, max, ◌<◌, ◌≤◌, nat_le, nat_lt, if◌then◌else◌, List, [], ◌∷◌, filter, map, sum_by, Some, None, option_map, option_and_then}
use Rattle.cam_types.specs.Questions.{weight}
use Rattle.recording_file.specs.Recorded.{Recorded}
use Rattle.recording_file.specs.declared.cap.Cap.{Cap}
use Rattle.recording_file.specs.declared.request.Request.{Request}

-- ---- the window up to round c: what was started in it

-- a request could be started until the window's end, and a completion after it isn't known
abbrev pub first_request : ℕ → Request → Request
first_request c q = record q {
  last = option_map (min c) q.last;
  done = option_and_then (λ done. if nat_le done c then Some done else None) q.done;
}

-- a cap holds until its end
abbrev pub first_cap : ℕ → Cap → Cap
first_cap c cap = record cap { last = min c cap.last }

abbrev pub first_caps : ℕ → List Cap → List Cap
first_caps c caps = map (first_cap c) (filter (λ (cap : Cap). nat_le cap.first c) caps)

abbrev pub first_requests : ℕ → List Request → List Request
first_requests c requests = map (first_request c) (filter (λ (q : Request). nat_le q.sent c) requests)

abbrev pub first_window : ℕ → Recorded → Recorded
first_window c r = record r { rounds = c; caps = first_caps c r.caps; requests = first_requests c r.requests }

-- ---- the window after round c: what was started in it, and its rounds are numbered from 1

-- a request that arrived before the window arrives in its first round
abbrev pub second_request : ℕ → Request → Request
second_request c q = record q {
  arrival = max (q.arrival - c) 1;
  last = option_map (λ last. last - c) q.last;
  sent = q.sent - c;
  done = option_map (λ done. done - c) q.done;
}

-- a cap holds from its begin
abbrev pub second_cap : ℕ → Cap → Cap
second_cap c cap = record cap { first = max (cap.first - c) 1; last = cap.last - c }

abbrev pub second_caps : ℕ → List Cap → List Cap
second_caps c caps = map (second_cap c) (filter (λ (cap : Cap). nat_lt c cap.last) caps)

abbrev pub second_requests : ℕ → List Request → List Request
second_requests c requests = map (second_request c) (filter (λ (q : Request). nat_lt c q.sent) requests)

abbrev pub second_window : ℕ → Recorded → Recorded
second_window c r = record r { rounds = r.rounds - c; caps = second_caps c r.caps; requests = second_requests c r.requests }

-- ---- what is in neither

-- what the requests of the second window waited before it, each round by its weight
abbrev pub carried : ℕ → Recorded → ℕ
carried c r = sum_by (λ (q : Request). weight r.config q.priority * (c + 1 - q.arrival)) (filter (λ (q : Request). nat_lt c q.sent) r.requests)

-- ---- many windows

-- those of a recording that is cut after each of these rounds, the last one first: what is after it, and the windows of what is before
abbrev pub windows : List ℕ → Recorded → List Recorded
windows [] r = r ∷ []
windows (c ∷ cuts) r = second_window c r ∷ windows cuts (first_window c r)

-- what their requests waited before them
abbrev pub carried_in_all : List ℕ → Recorded → ℕ
carried_in_all [] r = 0
carried_in_all (c ∷ cuts) r = carried c r + carried_in_all cuts (first_window c r)

-- a recording of so many rounds can be cut after these: each is below the one before it
abbrev pub AreCuts : ℕ → List ℕ → Type 0
AreCuts rounds [] = Unit {0}
AreCuts rounds (c ∷ cuts) = (1 ≤ c) × (c < rounds) × AreCuts c cuts
