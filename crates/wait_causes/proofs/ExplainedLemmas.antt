-- what is explained is within its net, and has its rounds
use Rattle.std.proofs.Common.{◌≡◌, ℕ, zero, suc, ◌+◌, ◌-◌, ◌*◌, ◌<◌, ◌≤◌, List, [], ◌∷◌, map, length, get_or, refl, sym, ap, subst, ◌∙◌, arith, zip, All, Some, slice_get, sum_by, true}
use Rattle.std.proofs.lemmas.List.{length-map}
use Rattle.std.proofs.lemmas.List.Elements.{All-cons}
use Rattle.std.proofs.lemmas.List.Sums.{sum_by-cons}
use Rattle.std.proofs.lemmas.Slice.Zip.{length-zip}
use Rattle.cam_types.specs.Lists.{prefixed}
use Rattle.cam_types.specs.declared.limits.TheConstants.{MAX_WEIGHT}
use Rattle.event_rules.specs.Past.{Past}
use Rattle.recording_file.specs.Recorded.{Recorded}
use Rattle.recording_file.specs.declared.request.Request.{Request}
use Rattle.round_net.specs.Instance.{Instance}
use Rattle.round_net.specs.RecordedNets.{request_row, net_of_recording}
use Rattle.round_net.specs.Rows.{of_stay}
use Rattle.round_net.specs.declared.stay_row.StayRow.{StayRow}
use Rattle.round_net.specs.Schedules.{cost}
use Rattle.round_net.specs.Sums.{sum_below}
use Rattle.round_net.proofs.FoundLemmas.{live_cases}
use Rattle.round_net.proofs.RowLemmas.{device-row, arrival-row, weight-row, live-row}
use Rattle.round_net.proofs.SumLemmas.{sum_below-shift}
use Rattle.event_rules.proofs.LimitLemmas.{stays_most}
use Rattle.wait_causes.specs.Freezes.{freezes_found, freezes_in}
use Rattle.wait_causes.proofs.FrozenLemmas.{all_found}
use Rattle.wait_causes.specs.Words.{history_rules, is_legal, MAX_STAYS, Topology, weight, stays_begun, is_unsent, Event, Passage, record_of, records, stay_row, net_of, NetRows, instance_of_rows, live_of_rows, IsSound, MAX_NET_STAYS}
use Rattle.wait_causes.specs.Counting.{IsWithin, AreWithin}
use Rattle.wait_causes.specs.Origins.{Origin, Known, instance_in, live_in}
use Rattle.wait_causes.specs.Parts.{measure, Live, AreLight}
use Rattle.wait_causes.specs.Stays.{counted, paces, explained, explained_stays, explained_request, explained_requests, row_by, request_by, ExplainedStay}
use Rattle.wait_causes.specs.declared.origin.Origin.TheVariants as origin
use Rattle.wait_causes.specs.Origins.{IsLiveCost}
use Rattle.wait_causes.specs.Parts.{part_of}
use Rattle.wait_causes.specs.Sound.{IsExplained}
use Rattle.round_net.proofs.RecordedLemmas.{recorded_counts}
use Rattle.wait_causes.proofs.NetLemmas.{all_stays}
use Rattle.wait_causes.proofs.PartLemmas.{part_is_live}
use Rattle.wait_causes.proofs.RequestLemmas.{prefixed_length}
use Rattle.wait_causes.proofs.StayLemmas.{stays_counted, best_kept, pace_kept}

-- a row of a net is within it
pub record IsResourceWithin (net : Instance) (row : StayRow) : Type 0 where
  pub device : row.device < net.devices
  pub weight : row.weight ≤ MAX_WEIGHT
  pub first : 1 ≤ row.arrival
  pub last : row.live ≤ net.rounds

row_there : (rows : List StayRow) (k : ℕ) (d : StayRow) → k < length rows → slice_get rows k ≡ Some (get_or rows k d)
row_there [] k d lt = absurd (omega arith)
row_there (x ∷ xs) zero d lt = refl
row_there (x ∷ xs) (suc k) d lt = row_there xs k d (omega arith)

stays_count : (n : NetRows) → (instance_of_rows n).stays ≡ length n.stays
unfolding instance_of_rows
stays_count n = refl

pub rows_within : (n : NetRows) → IsSound (instance_of_rows n) (live_of_rows n) → All (IsResourceWithin (instance_of_rows n)) n.stays
rows_within n sound k d lt =
    let at = row_there n.stays k d lt in
    let row : StayRow = get_or n.stays k d in
    let inside : k < (instance_of_rows n).stays = omega (arith, stays_count n, lt) in
    let late = sound.live_admissible.not_late k inside in
    let end = sound.to_last k inside in
    let live = live-row n k row at in
    record {
      device = omega (arith, device-row n k row at, sound.on_device k inside);
      weight = omega (arith, weight-row n k row at, sound.small_weight k inside);
      first = omega (arith, arrival-row n k row at, sound.from_first k inside);
      last = omega (arith, live, late, end);
    }

-- the stays of a history, uncounted
trace_rows : (c : Topology) (es : List Event) (net : Instance) (ps : List Passage) (best : List ℕ) → All (IsResourceWithin net) (map (stay_row c es) ps) → All (IsWithin net) (map (row_by c es) (zip (map (record_of es) ps) best))
unfolding row_by stay_row
trace_rows c es net [] best all = λ k d lt. absurd (omega arith)
trace_rows c es net (p ∷ ps) [] all = λ k d lt. absurd (omega arith)
trace_rows c es net (p ∷ ps) (b ∷ bs) all =
    let h : IsResourceWithin net (stay_row c es p) = all 0 (stay_row c es p) (omega arith) in
    All-cons (IsWithin net) (row_by c es (record_of es p, b)) (map (row_by c es) (zip (map (record_of es) ps) bs))
    (record { device = h.device; weight = h.weight; first = h.first; last = rw (live_cases es p (is_unsent es p) refl) h.last })
    (trace_rows c es net ps bs (λ k d lt. all (suc k) d (omega arith)))

pub trace_within : (past : Past) (best : List ℕ) → IsSound (instance_in (origin.Trace past)) (live_in (origin.Trace past)) → AreWithin (instance_in (origin.Trace past)) (map (row_by past.config past.events) (zip (records past.events) best))
unfolding records net_of
trace_within past best sound = trace_rows past.config past.events (instance_in (origin.Trace past)) (stays_begun past.events) best (rows_within (net_of past.config past.events) sound)

-- the requests of a recording, uncounted
recording_rows : (c : Topology) (rounds : ℕ) (net : Instance) (ms : List (List Request × Request)) (others : List (ℕ × ℕ)) → All (IsResourceWithin net) (map (request_row c rounds) ms) → All (IsWithin net) (map (request_by c) (zip ms others))
unfolding request_row request_by
recording_rows c rounds net [] others all = λ k d lt. absurd (omega arith)
recording_rows c rounds net (m ∷ ms) [] all = λ k d lt. absurd (omega arith)
recording_rows c rounds net (m ∷ ms) (b ∷ bs) all =
    let h : IsResourceWithin net (request_row c rounds m) = all 0 (request_row c rounds m) (omega arith) in
    All-cons (IsWithin net) (request_by c (m, b)) (map (request_by c) (zip ms bs))
    (record { device = h.device; weight = h.weight; first = h.first; last = h.last })
    (recording_rows c rounds net ms bs (λ k d lt. all (suc k) d (omega arith)))

pub recording_within : (r : Recorded) (others : List (ℕ × ℕ)) → IsSound (instance_in (origin.Recording r)) (live_in (origin.Recording r)) → AreWithin (instance_in (origin.Recording r)) (map (request_by r.config) (zip (prefixed r.requests) others))
unfolding net_of_recording
recording_within r others sound = recording_rows r.config r.rounds (instance_in (origin.Recording r)) (prefixed r.requests) others (rows_within (net_of_recording r) sound)

-- a request, counted, is the recording's
requests_counted : (r : Recorded) (ms : List (List Request × Request)) (others : List (ℕ × ℕ)) →
    map (counted (origin.Recording r)) (map (request_by r.config) (zip ms others)) ≡ map (λ (m : (List Request × Request) × (ℕ × ℕ)). explained_request r m.0 m.1) (zip ms others)
unfolding request_by explained_request
requests_counted r [] others = refl
requests_counted r (m ∷ ms) [] = refl
requests_counted r (m ∷ ms) (b ∷ bs) = rw (requests_counted r ms bs) refl

all_counted : (o : Origin) (net : Instance) (xs : List ExplainedStay) → All (IsWithin net) xs → All (IsWithin net) (map (counted o) xs)
all_counted o net [] all = λ k d lt. absurd (omega arith)
all_counted o net (x ∷ xs) all =
    let h : IsWithin net x = all 0 x (omega arith) in
    All-cons (IsWithin net) (counted o x) (map (counted o) xs) (record { device = h.device; weight = h.weight; first = h.first; last = h.last })
    (all_counted o net xs (λ k d lt. all (suc k) d (omega arith)))

-- each stay that is explained is within the net
pub explained_within : (o : Origin) (pace best : List ℕ) → IsSound (instance_in o) (live_in o) → AreWithin (instance_in o) (explained o pace best)
unfolding explained_requests
explained_within (origin.Trace past) pace best sound =
    subst (All (IsWithin (instance_in (origin.Trace past)))) (stays_counted past.config past.events best)
    (all_counted (origin.Trace past) (instance_in (origin.Trace past)) _ (trace_within past best sound))
explained_within (origin.Recording r) pace best sound =
    subst (All (IsWithin (instance_in (origin.Recording r)))) (requests_counted r (prefixed r.requests) (zip pace best))
    (all_counted (origin.Recording r) (instance_in (origin.Recording r)) _ (recording_within r (zip pace best) sound))

light_each : (net : Instance) (xs : List ExplainedStay) → All (IsWithin net) xs → AreLight xs
light_each net xs all = λ k d lt. (all k d lt).weight

pub explained_light : (o : Origin) (pace best : List ℕ) → IsSound (instance_in o) (live_in o) → AreLight (explained o pace best)
explained_light o pace best sound = light_each (instance_in o) (explained o pace best) (explained_within o pace best sound)

-- ---- what is found explains it

pub record IsFoundOf (o : Origin) (pace best : List ℕ) (stays : List ExplainedStay) : Type 0 where
  pub are : stays ≡ explained o pace best
  pub pace_is : paces stays ≡ pace
  pub best_is : map (λ (s : ExplainedStay). s.best) stays ≡ best

pub trace_found : (past : Past) (best : List ℕ) (listed stays : List ExplainedStay) → listed ≡ map (row_by past.config past.events) (zip (records past.events) best) → stays ≡ map (counted (origin.Trace past)) listed → length best ≡ length (stays_begun past.events) →
    IsFoundOf (origin.Trace past) [] best stays
trace_found past best listed stays is count all =
    let are : stays ≡ explained_stays past.config past.events best = count ∙ ap (map (counted (origin.Trace past))) is ∙ stays_counted past.config past.events best in
    record { are = are; pace_is = ap paces are ∙ pace_kept past.config past.events best; best_is = ap (map (λ (s : ExplainedStay). s.best)) are ∙ best_kept past.config past.events best all }

request_bests : (r : Recorded) (ms : List (List Request × Request)) (pace best : List ℕ) → length pace ≡ length ms → length best ≡ length ms →
    map (λ (s : ExplainedStay). s.best) (map (λ (m : (List Request × Request) × (ℕ × ℕ)). explained_request r m.0 m.1) (zip ms (zip pace best))) ≡ best
unfolding explained_request
request_bests r [] pace [] same same' = refl
request_bests r [] pace (b ∷ bs) same same' = absurd (omega arith)
request_bests r (m ∷ ms) [] best same same' = absurd (omega arith)
request_bests r (m ∷ ms) (p ∷ ps) [] same same' = absurd (omega arith)
request_bests r (m ∷ ms) (p ∷ ps) (b ∷ bs) same same' = ap (λ ns. b ∷ ns) (request_bests r ms ps bs (omega arith) (omega arith))

request_paces : (r : Recorded) (ms : List (List Request × Request)) (pace best : List ℕ) → length pace ≡ length ms → length best ≡ length ms →
    paces (map (λ (m : (List Request × Request) × (ℕ × ℕ)). explained_request r m.0 m.1) (zip ms (zip pace best))) ≡ pace
unfolding explained_request
request_paces r [] [] best same same' = refl
request_paces r [] (p ∷ ps) best same same' = absurd (omega arith)
request_paces r (m ∷ ms) [] best same same' = absurd (omega arith)
request_paces r (m ∷ ms) (p ∷ ps) [] same same' = absurd (omega arith)
request_paces r (m ∷ ms) (p ∷ ps) (b ∷ bs) same same' = ap (λ ns. p ∷ ns) (request_paces r ms ps bs (omega arith) (omega arith))

pub recording_found : (r : Recorded) (pace best : List ℕ) (listed stays : List ExplainedStay) → listed ≡ map (request_by r.config) (zip (prefixed r.requests) (zip pace best)) → stays ≡ map (counted (origin.Recording r)) listed → length pace ≡ length r.requests → length best ≡ length r.requests →
    IsFoundOf (origin.Recording r) pace best stays
unfolding explained_requests
recording_found r pace best listed stays is count all all' =
    let are : stays ≡ explained_requests r pace best = count ∙ ap (map (counted (origin.Recording r))) is ∙ requests_counted r (prefixed r.requests) (zip pace best) in
    let paced : length pace ≡ length (prefixed r.requests) = omega (arith, all, prefixed_length [] r.requests) in
    let planned : length best ≡ length (prefixed r.requests) = omega (arith, all', prefixed_length [] r.requests) in
    record {
      are = are;
      pace_is = ap paces are ∙ request_paces r (prefixed r.requests) pace best paced planned;
      best_is = ap (map (λ (s : ExplainedStay). s.best)) are ∙ request_bests r (prefixed r.requests) pace best paced planned;
    }

-- there are as many as in the net
pub stays_length : (o : Origin) (stays : List ExplainedStay) → IsExplained o (paces stays) (map (λ (s : ExplainedStay). s.best) stays) stays → length stays ≡ (instance_in o).stays
stays_length o stays x = sym (length-map stays (λ (s : ExplainedStay). s.best)) ∙ x.all

pub few_explained : (o : Origin) (stays : List ExplainedStay) → IsExplained o (paces stays) (map (λ (s : ExplainedStay). s.best) stays) stays → length stays ≤ MAX_NET_STAYS
few_explained o stays x = let few = x.sound.few_stays in omega (arith, few, stays_length o stays x)

pub light_explained : (o : Origin) (stays : List ExplainedStay) → IsExplained o (paces stays) (map (λ (s : ExplainedStay). s.best) stays) stays → AreLight stays
light_explained o stays x = subst AreLight (sym x.rows) (explained_light o (paces stays) (map (λ (s : ExplainedStay). s.best) stays) x.sound)

pub within_explained : (o : Origin) (stays : List ExplainedStay) → IsExplained o (paces stays) (map (λ (s : ExplainedStay). s.best) stays) stays → AreWithin (instance_in o) stays
within_explained o stays x = subst (AreWithin (instance_in o)) (sym x.rows) (explained_within o (paces stays) (map (λ (s : ExplainedStay). s.best) stays) x.sound)

-- ---- what the requests of a recording cost

requests_cost : (r : Recorded) (ms : List (List Request × Request)) (others : List (ℕ × ℕ)) → length others ≡ length ms →
    sum_by (measure Live) (map (λ (m : (List Request × Request) × (ℕ × ℕ)). explained_request r m.0 m.1) (zip ms others))
    ≡ sum_below (length ms) (λ s. of_stay (λ (row : StayRow). row.weight) (map (request_row r.config r.rounds) ms) s
    * (of_stay (λ (row : StayRow). row.live) (map (request_row r.config r.rounds) ms) s - of_stay (λ (row : StayRow). row.arrival) (map (request_row r.config r.rounds) ms) s))
unfolding explained_request request_row
requests_cost r [] others same = refl
requests_cost r (m ∷ ms) [] same = absurd (omega arith)
requests_cost r (m ∷ ms) (b ∷ bs) same =
    sum_by-cons (measure Live) (explained_request r m b) (map (λ (m : (List Request × Request) × (ℕ × ℕ)). explained_request r m.0 m.1) (zip ms bs))
    ∙ ap (λ n. weight r.config m.1.priority * (m.1.sent - m.1.arrival) + n) (requests_cost r ms bs (omega arith))
    ∙ sym (sum_below-shift (length ms) (λ s. of_stay (λ (row : StayRow). row.weight) (map (request_row r.config r.rounds) (m ∷ ms)) s
    * (of_stay (λ (row : StayRow). row.live) (map (request_row r.config r.rounds) (m ∷ ms)) s - of_stay (λ (row : StayRow). row.arrival) (map (request_row r.config r.rounds) (m ∷ ms)) s)))

pub recording_cost : (r : Recorded) (pace best : List ℕ) → length (zip pace best) ≡ length r.requests → sum_by (measure Live) (explained_requests r pace best) ≡ cost (instance_in (origin.Recording r)) (live_in (origin.Recording r))
unfolding explained_requests net_of_recording instance_of_rows live_of_rows
recording_cost r pace best all =
    requests_cost r (prefixed r.requests) (zip pace best) (omega (arith, all, prefixed_length [] r.requests))
    ∙ ap (λ n. sum_below n (λ s. of_stay (λ (row : StayRow). row.weight) (map (request_row r.config r.rounds) (prefixed r.requests)) s
    * (of_stay (λ (row : StayRow). row.live) (map (request_row r.config r.rounds) (prefixed r.requests)) s - of_stay (λ (row : StayRow). row.arrival) (map (request_row r.config r.rounds) (prefixed r.requests)) s)))
    (sym (length-map (prefixed r.requests) (request_row r.config r.rounds)))

-- how many stays there are
pub trace_stays : (past : Past) → (instance_in (origin.Trace past)).stays ≡ length (stays_begun past.events)
trace_stays past = all_stays past.config past.events

pub recording_stays : (r : Recorded) → (instance_in (origin.Recording r)).stays ≡ length r.requests
recording_stays r = (recorded_counts r).1

-- where each request is explained, it has both rounds
both_rounds : (r : Recorded) (pace best : List ℕ) → length best ≡ length r.requests → length (explained_requests r pace best) ≡ length r.requests → length (zip pace best) ≡ length r.requests
unfolding explained_requests
both_rounds r pace best planned all =
    omega (
      arith,
      all,
      planned,
      length-map (zip (prefixed r.requests) (zip pace best)) (λ (m : (List Request × Request) × (ℕ × ℕ)). explained_request r m.0 m.1),
      length-zip (prefixed r.requests) (zip pace best),
      length-zip pace best,
      prefixed_length [] r.requests,
    )

-- what all stays cost is the cost of the live schedule
pub whole_live : (o : Origin) (known : Known) (pace best : List ℕ) → length best ≡ (instance_in o).stays → length (explained o pace best) ≡ (instance_in o).stays → IsLiveCost o (part_of known (explained o pace best)).live
unfolding part_of
whole_live (origin.Trace past) known pace best all long = part_is_live past.config past.events known best (all ∙ trace_stays past)
whole_live (origin.Recording r) known pace best all long = recording_cost r pace best (both_rounds r pace best (all ∙ recording_stays r) (long ∙ recording_stays r))

-- what was found of a history or of a recording explains it
pub trace_explained : (past : Past) (best : List ℕ) (listed stays : List ExplainedStay) → is_legal history_rules past.config past.events ≡ true → IsSound (instance_in (origin.Trace past)) (live_in (origin.Trace past)) →
    listed ≡ map (row_by past.config past.events) (zip (records past.events) best) → stays ≡ map (counted (origin.Trace past)) listed → length best ≡ (instance_in (origin.Trace past)).stays →
    IsExplained (origin.Trace past) (paces stays) (map (λ (s : ExplainedStay). s.best) stays) stays
trace_explained past best listed stays legal sound is count all =
    let found = trace_found past best listed stays is count (all ∙ trace_stays past) in
    rw (found.pace_is, found.best_is) (record { legal = legal; sound = sound; all = all; rows = found.are })

pub recording_explained : (r : Recorded) (pace best : List ℕ) (listed stays : List ExplainedStay) → IsSound (instance_in (origin.Recording r)) (live_in (origin.Recording r)) →
    listed ≡ map (request_by r.config) (zip (prefixed r.requests) (zip pace best)) → stays ≡ map (counted (origin.Recording r)) listed → length pace ≡ (instance_in (origin.Recording r)).stays → length best ≡ (instance_in (origin.Recording r)).stays →
    IsExplained (origin.Recording r) (paces stays) (map (λ (s : ExplainedStay). s.best) stays) stays
recording_explained r pace best listed stays sound is count all all' =
    let found = recording_found r pace best listed stays is count (all ∙ recording_stays r) (all' ∙ recording_stays r) in
    rw (found.pace_is, found.best_is) (record { legal = tt; sound = sound; all = all'; rows = found.are })

-- there are no more stays than a history may have
pub few_in_history : (o : Origin) (past : Past) (stays : List ExplainedStay) → o ≡ origin.Trace past → IsExplained o (paces stays) (map (λ (s : ExplainedStay). s.best) stays) stays → length stays ≤ MAX_STAYS
few_in_history o past stays is x =
    let y : IsExplained (origin.Trace past) (paces stays) (map (λ (s : ExplainedStay). s.best) stays) stays = subst (λ (q : Origin). IsExplained q (paces stays) (map (λ (s : ExplainedStay). s.best) stays) stays) is x in
    omega (arith, stays_length (origin.Trace past) stays y, trace_stays past, stays_most past.config past.events y.legal)

-- the freezes that are found are its freezes
pub found_freezes : (o : Origin) (past : Past) (stays : List ExplainedStay) → o ≡ origin.Trace past → IsExplained o (paces stays) (map (λ (s : ExplainedStay). s.best) stays) stays →
    freezes_found past.config past.events stays ≡ freezes_in o (explained o (paces stays) (map (λ (s : ExplainedStay). s.best) stays))
found_freezes o past stays is x =
    let best : List ℕ = map (λ (s : ExplainedStay). s.best) stays in
    let y : IsExplained (origin.Trace past) (paces stays) best stays = subst (λ (q : Origin). IsExplained q (paces stays) best stays) is x in
    ap (freezes_found past.config past.events) y.rows
    ∙ all_found past.config past.events best y.legal
    ∙ sym (ap (λ (q : Origin). freezes_in q (explained q (paces stays) best)) is)
