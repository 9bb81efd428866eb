-- the waits of devices, in their rounds
use Rattle.std.proofs.Common.{ℕ, ◌≤◌, ◌==◌, List, [], ◌∷◌, filter, arith, All}
use Rattle.std.specs.List.Sorted.{IsNonDecreasingBy}
use Rattle.std.proofs.lemmas.List.Elements.{All-nil, All-filter, All-map}
use Rattle.slots.specs.declared.flight.Wait.{Wait}
use Rattle.capture.specs.Timed.{TimedRequest, arrival_of, start_of}
use Rattle.capture.specs.Rounds.{round_at, first_arrival, rounds_of}
use Rattle.capture.specs.Rooms.{wait_of, waits_of}
use Rattle.capture.proofs.RoundLemmas.{starts_within}

-- of requests by arrival the first arrives first
first_least : (qs : List TimedRequest) → IsNonDecreasingBy arrival_of qs → All (λ (q : TimedRequest). first_arrival qs ≤ q.arrival) qs
first_least [] up = All-nil (λ (q : TimedRequest). 0 ≤ q.arrival)
first_least (q ∷ qs) up = λ k d lt. up 0 k d (omega arith) lt

-- each wait begins no earlier than the first request arrives
pub waits_begin : (qs : List TimedRequest) (device : ℕ) → IsNonDecreasingBy arrival_of qs → All (λ (w : Wait). first_arrival qs ≤ w.arrival) (waits_of qs device)
waits_begin qs device up =
    let own : List TimedRequest = filter (λ (q : TimedRequest). q.device == device) qs in
    All-map (λ (w : Wait). first_arrival qs ≤ w.arrival) wait_of own (All-filter (λ (q : TimedRequest). q.device == device) (λ (q : TimedRequest). first_arrival qs ≤ q.arrival) qs (first_least qs up))

-- and ends in a round that there is
pub waits_end : (span : ℕ) (qs : List TimedRequest) (device : ℕ) → 1 ≤ span → All (λ (w : Wait). round_at span (first_arrival qs) w.start ≤ rounds_of span qs) (waits_of qs device)
waits_end span qs device some =
    let own : List TimedRequest = filter (λ (q : TimedRequest). q.device == device) qs in
    All-map (λ (w : Wait). round_at span (first_arrival qs) w.start ≤ rounds_of span qs) wait_of own (All-filter (λ (q : TimedRequest). q.device == device) (λ (q : TimedRequest). round_at span (first_arrival qs) (start_of q) ≤ rounds_of span qs) qs (starts_within span qs some))
