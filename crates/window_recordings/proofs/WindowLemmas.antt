-- the nets of a recording's windows are the parts of its net
use Rattle.std.proofs.Common.{◌≡◌, ℕ, zero, suc, ◌+◌, ◌-◌, ◌*◌, ◌<◌, ◌≤◌, ◌==◌, Bool, true, false, cond, min, max, nat_le, nat_lt, List, [], ◌∷◌, ◌++◌, length, map, filter, get_or, slice_get, sum_by, Some, None, refl, sym, ap, ◌∙◌, arith}
use Rattle.std.proofs.lemmas.List.{length-map}
use Rattle.std.proofs.Math.ListN.{get_or-map}
use Rattle.std.specs.List.{list_any}
use Rattle.std.proofs.lemmas.List.Sums.{sum_by-cons}
use Rattle.cam_types.specs.Lists.{prefixed_after}
use Rattle.cam_types.specs.Topology.{Topology}
use Rattle.cam_types.specs.Questions.{weight}
use Rattle.cam_types.specs.declared.adapter.Adapter.{Adapter}
use Rattle.cam_types.specs.declared.device.Device.{Device}
use Rattle.recording_file.specs.declared.request.Request.{Request}
use Rattle.recording_file.specs.Recorded.{Recorded, last_of}
use Rattle.round_net.specs.Sums.{sum_below, count_below}
use Rattle.round_net.specs.Instance.{rows, uses, path_of}
use Rattle.round_net.specs.Rows.{NetRows, instance_of_rows}
use Rattle.round_net.specs.Caps.{resource_count}
use Rattle.round_net.specs.RecordedNets.{request_row, part_of_resource, recorded_cap, net_of_recording, instance_of_recording, live_of_recording}
use Rattle.round_net.proofs.RowLemmas.{device-row, arrival-row, last-row, weight-row, live-row}
use Rattle.round_net.proofs.TableLemmas.{cell-table}
use Rattle.round_net.proofs.RecordedLemmas.{recorded_counts}
use Rattle.round_net.proofs.SumLemmas.{sum_below-shift, sum_below-same}
use Rattle.window_recordings.specs.Windows.{first_request, first_window, second_request, second_window, carried}
use Rattle.window_recordings.proofs.CapLemmas.{cap_in-first, cap_in-second}
use Rattle.window_recordings.proofs.RequestLemmas.{last-first, last-second}
use Rattle.window_recordings.proofs.PartLemmas.{picked_within, is_by, is_after, IsPart, IsFirst, IsSecond, carried_by}

-- ---- elements that pass a test, by their numbers

-- a test of the element at each number
abbrev pub at_number : {X : Type 0} → (X → Bool) → List X → X → ℕ → Bool
at_number test xs d i = test (get_or xs i d)

picked_place : {X : Type 0} (test : X → Bool) (xs : List X) (s : ℕ) (d : X) → s < length xs → test (get_or xs s d) ≡ true → get_or (filter test xs) (count_below s (at_number test xs d)) d ≡ get_or xs s d
picked_place test [] s d lt passes = absurd (omega (arith, lt))
picked_place test (x ∷ xs) zero d lt passes = rw passes refl
picked_place test (x ∷ xs) (suc s) d lt passes =
    let rest = picked_place test xs s d (omega (arith, lt)) passes in
    let shift = sum_below-shift s (λ i. cond {A = ℕ} (at_number test (x ∷ xs) d i) 1 0) in
    elim (test x) as (λ b. count_below (suc s) (at_number test (x ∷ xs) d) ≡ cond b 1 0 + count_below s (at_number test xs d) → get_or (cond b (x ∷ filter test xs) (filter test xs)) (count_below (suc s) (at_number test (x ∷ xs) d)) d ≡ get_or xs s d) [
      | true ↦ λ e. let k : count_below (suc s) (at_number test (x ∷ xs) d) ≡ suc (count_below s (at_number test xs d)) = omega (arith, e) in rw k rest
      | false ↦ λ e. let k : count_below (suc s) (at_number test (x ∷ xs) d) ≡ count_below s (at_number test xs d) = omega (arith, e) in rw k rest
    ] shift

picked_sum : {X : Type 0} (test : X → Bool) (worth : X → ℕ) (xs : List X) (d : X) → sum_by worth (filter test xs) ≡ sum_below (length xs) (λ i. cond (at_number test xs d i) (worth (get_or xs i d)) 0)
picked_sum test worth [] d = refl
picked_sum test worth (x ∷ xs) d =
    let rest = picked_sum test worth xs d in
    let shift = sum_below-shift (length xs) (λ i. cond (at_number test (x ∷ xs) d i) (worth (get_or (x ∷ xs) i d)) 0) in
    elim (test x) as (λ b. sum_below (suc (length xs)) (λ i. cond (at_number test (x ∷ xs) d i) (worth (get_or (x ∷ xs) i d)) 0) ≡ cond b (worth x) 0 + sum_below (length xs) (λ i. cond (at_number test xs d i) (worth (get_or xs i d)) 0)
    → sum_by worth (cond b (x ∷ filter test xs) (filter test xs)) ≡ sum_below (suc (length xs)) (λ i. cond (at_number test (x ∷ xs) d i) (worth (get_or (x ∷ xs) i d)) 0)) [
      | true ↦ λ e. let one = sum_by-cons worth x (filter test xs) in omega (arith, e, one, rest)
      | false ↦ λ e. omega (arith, e, rest)
    ] shift

picked_count : {X : Type 0} (test : X → Bool) (xs : List X) (d : X) → length (filter test xs) ≡ count_below (length xs) (at_number test xs d)
picked_count test [] d = refl
picked_count test (x ∷ xs) d =
    let rest = picked_count test xs d in
    let shift = sum_below-shift (length xs) (λ i. cond {A = ℕ} (at_number test (x ∷ xs) d i) 1 0) in
    elim (test x) as (λ b. count_below (suc (length xs)) (at_number test (x ∷ xs) d) ≡ cond b 1 0 + count_below (length xs) (at_number test xs d) → length (cond b (x ∷ filter test xs) (filter test xs)) ≡ count_below (suc (length xs)) (at_number test (x ∷ xs) d)) [
      | true ↦ λ e. omega (arith, e, rest)
      | false ↦ λ e. omega (arith, e, rest)
    ] shift

same_count : (n : ℕ) (p q : ℕ → Bool) → ((i : ℕ) → i < n → p i ≡ q i) → count_below n p ≡ count_below n q
same_count n p q same = sum_below-same n _ _ (λ i lt. ap (λ (b : Bool). cond {A = ℕ} b 1 0) (same i lt))

-- ---- the stays of a recording

row_there : (c : Topology) (rounds : ℕ) (before xs : List Request) (s : ℕ) (d : Request) → s < length xs
    → (m : List Request) × (slice_get (map (request_row c rounds) (prefixed_after before xs)) s ≡ Some (request_row c rounds (m, get_or xs s d)))
row_there c rounds before [] s d lt = absurd (omega (arith, lt))
row_there c rounds before (x ∷ xs) zero d lt = (before, refl)
row_there c rounds before (x ∷ xs) (suc s) d lt = row_there c rounds (before ++ x ∷ []) xs s d (omega (arith, lt))

-- a stay of its net is this request
record IsStay (r : Recorded) (s : ℕ) (q : Request) : Type 0 where
  device : (instance_of_recording r).device s ≡ q.device
  arrival : (instance_of_recording r).arrival s ≡ q.arrival
  last : (instance_of_recording r).last s ≡ last_of r.rounds q
  weight : (instance_of_recording r).weight s ≡ weight r.config q.priority
  sent : live_of_recording r s ≡ q.sent

stay_at : (r : Recorded) (s : ℕ) (d : Request) → s < length r.requests → IsStay r s (get_or r.requests s d)
unfolding net_of_recording request_row
stay_at r s d lt =
    let q : Request = get_or r.requests s d in
    let there = row_there r.config r.rounds [] r.requests s d lt in
    let row = request_row r.config r.rounds (there.0, q) in
    let net : NetRows = net_of_recording r in
    record { device = device-row net s row there.1; arrival = arrival-row net s row there.1; last = last-row net s row there.1; weight = weight-row net s row there.1; sent = live-row net s row there.1 }

-- ---- its rows

rows_of : (r : Recorded) → rows (instance_of_recording r) ≡ resource_count r.config
unfolding net_of_recording instance_of_rows
rows_of r = rw (length-map r.config.devices (λ (device : Device). device.bus), length-map r.config.adapters (λ (adapter : Adapter). adapter.link)) refl

rounds_of : (r : Recorded) → (instance_of_recording r).rounds ≡ r.rounds
unfolding net_of_recording instance_of_rows
rounds_of r = refl

cap_of : (r : Recorded) (row round : ℕ) → row < rows (instance_of_recording r) → 1 ≤ round → round ≤ r.rounds → (instance_of_recording r).cap row round ≡ recorded_cap r row round
unfolding net_of_recording instance_of_rows
cap_of r row round within first last = cell-table (resource_count r.config) r.rounds (recorded_cap r) row round (omega (arith, rows_of r, within)) first last

-- the rows that a device's requests take of, by the configuration alone
abbrev takes : Topology → ℕ → ℕ → Bool
takes t row device = list_any (λ own. own == row) (path_of (instance_of_recording (record { unit = None; rounds = 0; config = t; names = []; caps = []; requests = []; completions = false })) device)

uses-takes : (r : Recorded) (row s : ℕ) → uses (instance_of_recording r) row s ≡ takes r.config row ((instance_of_recording r).device s)
unfolding net_of_recording instance_of_rows
uses-takes r row s = refl

-- ---- the windows

-- where a stay of the whole stands in a window that has what passes a test, moved, if a test of numbers says the same
window_place : (r own : Recorded) (test : Request → Bool) (pick : ℕ → Bool) (move : Request → Request) (d : Request) → own.requests ≡ map move (filter test r.requests)
    → ((i : ℕ) → i < length r.requests → pick i ≡ test (get_or r.requests i d)) → (s : ℕ) → s < length r.requests → pick s ≡ true
    → (get_or own.requests (count_below s pick) (move d) ≡ move (get_or r.requests s d)) × IsStay own (count_below s pick) (get_or own.requests (count_below s pick) (move d))
window_place r own test pick move d requests picks s lt passes =
    let k = count_below s pick in
    let same : k ≡ count_below s (at_number test r.requests d) = same_count s pick (at_number test r.requests d) (λ i less. picks i (omega (arith, less, lt))) in
    let there : get_or (filter test r.requests) k d ≡ get_or r.requests s d = ap (λ n. get_or (filter test r.requests) n d) same ∙ picked_place test r.requests s d lt (sym (picks s lt) ∙ passes) in
    let many : length own.requests ≡ count_below (length r.requests) pick = ap (λ (qs : List Request). length qs) requests ∙ length-map (filter test r.requests) move ∙ picked_count test r.requests d ∙ sym (same_count (length r.requests) pick (at_number test r.requests d) picks) in (
      ap (λ (qs : List Request). get_or qs k (move d)) requests ∙ get_or-map move (filter test r.requests) k d ∙ ap move there,
      stay_at own k (move d) (omega (arith, many, picked_within (length r.requests) s pick lt passes)),
    )

-- the window has what passes a test, moved, and a test of numbers says the same
part_of_window : (r own : Recorded) (test : Request → Bool) (pick : ℕ → Bool) (move : Request → Request) (d : Request) → own.config ≡ r.config → own.requests ≡ map move (filter test r.requests) → ((q : Request) → (move q).device ≡ q.device) → ((q : Request) → (move q).priority ≡ q.priority)
    → ((i : ℕ) → i < length r.requests → pick i ≡ test (get_or r.requests i d)) → IsPart pick (instance_of_recording r) (instance_of_recording own)
part_of_window r own test pick move d config requests devices priorities picks = record {
  stays = stays_of;
  same_rows = rows_of own ∙ ap resource_count config ∙ sym (rows_of r);
  used = λ s lt passes row.
      let k = count_below s pick in
      let here = place s lt passes in
      let device : (instance_of_recording own).device k ≡ (instance_of_recording r).device s = here.1.device ∙ ap (λ (q : Request). q.device) here.0 ∙ devices (get_or r.requests s d) ∙ sym (stay_at r s d (within s lt)).device in
      uses-takes own row k ∙ ap (λ t. takes t row ((instance_of_recording own).device k)) config ∙ ap (takes r.config row) device ∙ sym (uses-takes r row s);
  weight = λ s lt passes.
      let k = count_below s pick in
      let here = place s lt passes in
      here.1.weight ∙ ap (λ t. weight t (get_or own.requests k (move d)).priority) config ∙ ap (weight r.config) (ap (λ (q : Request). q.priority) here.0 ∙ priorities (get_or r.requests s d)) ∙ sym (stay_at r s d (within s lt)).weight;
}
  where
    many : (instance_of_recording r).stays ≡ length r.requests
    many = (recorded_counts r).1

    within : (s : ℕ) → s < (instance_of_recording r).stays → s < length r.requests
    within s lt = omega (arith, (recorded_counts r).1)

    stays_of : (instance_of_recording own).stays ≡ count_below (instance_of_recording r).stays pick
    stays_of = (recorded_counts own).1 ∙ ap (λ (qs : List Request). length qs) requests ∙ length-map (filter test r.requests) move ∙ picked_count test r.requests d ∙ sym (same_count (length r.requests) pick (at_number test r.requests d) picks) ∙ ap (λ n. count_below n pick) (sym (recorded_counts r).1)

    place : (s : ℕ) → s < (instance_of_recording r).stays → pick s ≡ true → (get_or own.requests (count_below s pick) (move d) ≡ move (get_or r.requests s d)) × IsStay own (count_below s pick) (get_or own.requests (count_below s pick) (move d))
    place s lt passes = window_place r own test pick move d requests picks s (omega (arith, (recorded_counts r).1)) passes

-- a request that is there where none is
none_there : Request
none_there = record { driver = 0; device = 0; priority = 0; arrival = 0; last = None; sent = 0; done = None }

recorded_cap-first : (c : ℕ) (r : Recorded) (row round : ℕ) → round ≤ c → recorded_cap (first_window c r) row round ≡ recorded_cap r row round
unfolding recorded_cap
recorded_cap-first c r row round within = cap_in-first r.config c r.caps (part_of_resource r.config row) round within

recorded_cap-second : (c : ℕ) (r : Recorded) (row round : ℕ) → c < round → recorded_cap (second_window c r) row (round - c) ≡ recorded_cap r row round
unfolding recorded_cap
recorded_cap-second c r row round past = cap_in-second r.config c r.caps (part_of_resource r.config row) round past

pub first_part : (c : ℕ) (r : Recorded) → c ≤ r.rounds → IsFirst (instance_of_recording r) (live_of_recording r) c (instance_of_recording (first_window c r)) (live_of_recording (first_window c r))
first_part c r within = record {
  part = part_of_window r own test pick (first_request c) d refl refl (λ q. refl) (λ q. refl) picks;
  rounds = rounds_of own;
  arrival = λ s lt passes. let here = place s lt passes in here.1.arrival ∙ ap (λ (q : Request). q.arrival) here.0 ∙ sym (stay s lt).arrival;
  last = λ s lt passes. let here = place s lt passes in here.1.last ∙ ap (last_of c) here.0 ∙ last-first r.rounds c (get_or r.requests s d) within ∙ ap (λ n. min n c) (sym (stay s lt).last);
  cap = λ row round there some last.
      cap_of own row round (omega (arith, rows_of own, rows_of r)) some last ∙ recorded_cap-first c r row round last ∙ sym (cap_of r row round there some (omega arith));
  there = λ s lt passes. let here = place s lt passes in here.1.sent ∙ ap (λ (q : Request). q.sent) here.0 ∙ sym (stay s lt).sent;
}
  where
    own : Recorded
    own = first_window c r

    d : Request
    d = none_there

    test : Request → Bool
    test q = nat_le q.sent c

    pick : ℕ → Bool
    pick = is_by (live_of_recording r) c

    picks : (i : ℕ) → i < length r.requests → pick i ≡ test (get_or r.requests i d)
    picks i lt = ap (λ n. nat_le n c) (stay_at r i d lt).sent

    stay : (s : ℕ) → s < (instance_of_recording r).stays → IsStay r s (get_or r.requests s d)
    stay s lt = stay_at r s d (omega (arith, (recorded_counts r).1))

    place : (s : ℕ) → s < (instance_of_recording r).stays → pick s ≡ true → (get_or own.requests (count_below s pick) (first_request c d) ≡ first_request c (get_or r.requests s d)) × IsStay own (count_below s pick) (get_or own.requests (count_below s pick) (first_request c d))
    place s lt passes = window_place r own test pick (first_request c) d refl picks s (omega (arith, (recorded_counts r).1)) passes

pub second_part : (c : ℕ) (r : Recorded) → IsSecond (instance_of_recording r) (live_of_recording r) c (instance_of_recording (second_window c r)) (live_of_recording (second_window c r))
second_part c r = record {
  part = part_of_window r own test pick (second_request c) d refl refl (λ q. refl) (λ q. refl) picks;
  rounds = rounds_of own ∙ ap (λ n. n - c) (sym (rounds_of r));
  arrival = λ s lt passes. let here = place s lt passes in here.1.arrival ∙ ap (λ (q : Request). q.arrival) here.0 ∙ ap (λ n. max (n - c) 1) (sym (stay s lt).arrival);
  last = λ s lt passes. let here = place s lt passes in here.1.last ∙ ap (last_of (r.rounds - c)) here.0 ∙ last-second r.rounds c (get_or r.requests s d) ∙ ap (λ n. n - c) (sym (stay s lt).last);
  cap = λ row round there past last.
      let within : round ≤ r.rounds = omega (arith, rounds_of r) in
      cap_of own row (round - c) (omega (arith, rows_of own, rows_of r)) (omega arith) (omega arith) ∙ recorded_cap-second c r row round past ∙ sym (cap_of r row round there (omega arith) within);
  there = λ s lt passes. let here = place s lt passes in here.1.sent ∙ ap (λ (q : Request). q.sent) here.0 ∙ ap (λ n. n - c) (sym (stay s lt).sent);
}
  where
    own : Recorded
    own = second_window c r

    d : Request
    d = none_there

    test : Request → Bool
    test q = nat_lt c q.sent

    pick : ℕ → Bool
    pick = is_after (live_of_recording r) c

    picks : (i : ℕ) → i < length r.requests → pick i ≡ test (get_or r.requests i d)
    picks i lt = ap (λ n. nat_lt c n) (stay_at r i d lt).sent

    stay : (s : ℕ) → s < (instance_of_recording r).stays → IsStay r s (get_or r.requests s d)
    stay s lt = stay_at r s d (omega (arith, (recorded_counts r).1))

    place : (s : ℕ) → s < (instance_of_recording r).stays → pick s ≡ true → (get_or own.requests (count_below s pick) (second_request c d) ≡ second_request c (get_or r.requests s d)) × IsStay own (count_below s pick) (get_or own.requests (count_below s pick) (second_request c d))
    place s lt passes = window_place r own test pick (second_request c) d refl picks s (omega (arith, (recorded_counts r).1)) passes

-- what is carried is the same by the stays
pub carried_is : (c : ℕ) (r : Recorded) → carried c r ≡ carried_by (instance_of_recording r) (live_of_recording r) c
carried_is c r =
    picked_sum (λ (q : Request). nat_lt c q.sent) (λ (q : Request). weight r.config q.priority * (c + 1 - q.arrival)) r.requests none_there
    ∙ sum_below-same (length r.requests) _ _ (λ s lt. let is = stay_at r s none_there lt in rw (is.sent, is.weight, is.arrival) refl)
    ∙ ap (λ n. sum_below n (λ s. cond (is_after (live_of_recording r) c s) ((instance_of_recording r).weight s * (c + 1 - (instance_of_recording r).arrival s)) 0)) (sym (recorded_counts r).1)
