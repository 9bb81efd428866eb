-- which fault comes first
use Rattle.std.proofs.Common.{◌≡◌, ℕ, suc, ◌+◌, ◌<◌, ◌≤◌, Bool, true, false, List, [], ◌∷◌, ◌++◌, length, get_or, take, drop, refl, sym, ap, ◌∙◌, arith, Some, None, not, find}
use Rattle.std.specs.List.{range_with_len}
use Rattle.std.specs.Option.{option_map}
use Rattle.std.proofs.lemmas.Bool.{lt-ltb, le-ltb, ltb-false, not-false}
use Rattle.std.proofs.lemmas.List.{take_more, take_all, length-take-le}
use Rattle.cam_types.specs.Lists.{prefixed, first_answer}
use Rattle.cam_types.specs.Topology.{Topology}
use Rattle.cam_types.specs.Questions.{names_device}
use Rattle.cam_types.specs.declared.limits.TheConstants.{MAX_PRIORITY}
use Rattle.cam_types.proofs.ListLemmas.{first_answer-push}
use Rattle.recording_file.specs.Counts.{counts_of}
use Rattle.recording_file.specs.Names.{NameValue, is_name}
use Rattle.recording_file.specs.declared.request.Request.{Request}
use Rattle.recording_file.proofs.ListLemmas.{none_passes, each_of_range}
use Rattle.capture.specs.Timed.{TimedRequest}
use Rattle.capture.specs.Rounds.{Span}
use Rattle.capture.specs.Faults.{CaptureFault, is_early, is_ended_early, request_fault, starts_in, is_crowded, crowd_fault, device_fault, name_fault, BadPriority, StartedEarly, EndedEarly, TooManyInRound, NoDevice, BadName}
use Rattle.capture.specs.declared.capture_fault.TheConstants.{MAX_IN_ROUND}
use Rattle.capture.proofs.FoundLemmas.{none_so_far, found_so_far, found_in_range, none_in_range, answer_here, parts_at}

-- ---- requests in time

fault_here : (qs : List TimedRequest) (n : ℕ) (d : TimedRequest) (e : CaptureFault) → n < length qs → first_answer request_fault (prefixed (take n qs)) ≡ None → request_fault (take n qs, get_or qs n d) ≡ Some e → first_answer request_fault (prefixed qs) ≡ Some e
fault_here qs n d e lt none here = ap (λ xs. first_answer request_fault (prefixed xs)) (parts_at qs n d lt) ∙ answer_here request_fault (take n qs) (get_or qs n d) (drop (suc n) qs) e none here

pub priority_fault : (qs : List TimedRequest) (n : ℕ) (d : TimedRequest) → n < length qs → first_answer request_fault (prefixed (take n qs)) ≡ None → MAX_PRIORITY < (get_or qs n d).priority → first_answer request_fault (prefixed qs) ≡ Some (BadPriority n)
unfolding request_fault
priority_fault qs n d lt none high =
    let many = length-take-le n qs (omega arith) in
    fault_here qs n d (BadPriority n) lt none (rw (lt-ltb MAX_PRIORITY (get_or qs n d).priority high, many) refl)

pub early_fault : (qs : List TimedRequest) (n : ℕ) (d : TimedRequest) → n < length qs → first_answer request_fault (prefixed (take n qs)) ≡ None → (get_or qs n d).priority ≤ MAX_PRIORITY → is_early (get_or qs n d) ≡ true → first_answer request_fault (prefixed qs) ≡ Some (StartedEarly n)
unfolding request_fault
early_fault qs n d lt none low early =
    let many = length-take-le n qs (omega arith) in
    fault_here qs n d (StartedEarly n) lt none (rw (le-ltb MAX_PRIORITY (get_or qs n d).priority low, early, many) refl)

pub ended_fault : (qs : List TimedRequest) (n : ℕ) (d : TimedRequest) → n < length qs → first_answer request_fault (prefixed (take n qs)) ≡ None → (get_or qs n d).priority ≤ MAX_PRIORITY → is_early (get_or qs n d) ≡ false → is_ended_early (get_or qs n d) ≡ true → first_answer request_fault (prefixed qs) ≡ Some (EndedEarly n)
unfolding request_fault
ended_fault qs n d lt none low early ended =
    let many = length-take-le n qs (omega arith) in
    fault_here qs n d (EndedEarly n) lt none (rw (le-ltb MAX_PRIORITY (get_or qs n d).priority low, early, ended, many) refl)

pub no_fault_more : (qs : List TimedRequest) (n : ℕ) (d : TimedRequest) → n < length qs → first_answer request_fault (prefixed (take n qs)) ≡ None → (get_or qs n d).priority ≤ MAX_PRIORITY → is_early (get_or qs n d) ≡ false → is_ended_early (get_or qs n d) ≡ false → first_answer request_fault (prefixed (take (n + 1) qs)) ≡ None
unfolding request_fault
no_fault_more qs n d lt none low early ended = ap (λ xs. first_answer request_fault (prefixed xs)) (take_more qs n d lt) ∙ first_answer-push request_fault (take n qs) (get_or qs n d) none (rw (le-ltb MAX_PRIORITY (get_or qs n d).priority low, early, ended) refl)

-- ---- devices

abbrev is_missing : Topology → Request → Bool
is_missing c q = not (names_device c q.device)

pub device_missing : (c : Topology) (qs : List Request) (n : ℕ) (d : Request) → n < length qs → find (is_missing c) (take n qs) ≡ None → names_device c (get_or qs n d).device ≡ false → device_fault c qs ≡ Some (NoDevice (get_or qs n d).device)
unfolding device_fault
device_missing c qs n d lt none missing =
    let found = found_so_far (is_missing c) qs n d lt none (rw missing refl) in
    rw found refl

pub device_more : (c : Topology) (qs : List Request) (n : ℕ) (d : Request) → n < length qs → find (is_missing c) (take n qs) ≡ None → names_device c (get_or qs n d).device ≡ true → find (is_missing c) (take (n + 1) qs) ≡ None
device_more c qs n d lt none there = none_so_far (is_missing c) qs n d lt none (rw there refl)

pub devices_there : (c : Topology) (qs : List Request) (n : ℕ) → length qs ≤ n → find (is_missing c) (take n qs) ≡ None → device_fault c qs ≡ None
unfolding device_fault
devices_there c qs n le none =
    let all : find (is_missing c) qs ≡ None = ap (find (is_missing c)) (sym (take_all n qs le)) ∙ none in
    rw all refl

-- ---- rounds with too many starts

pub crowd_found : (unit : Span) (qs : List Request) (n last k : ℕ) → n < last → find (is_crowded qs) (range_with_len 1 n) ≡ None → k ≡ starts_in qs (n + 1) → MAX_IN_ROUND < k → crowd_fault (record { unit = unit; rounds = last; requests = qs }) ≡ Some (TooManyInRound (n + 1) k)
unfolding crowd_fault
crowd_found unit qs n last k lt none is many =
    let at : 1 + n ≡ n + 1 = omega arith in
    let here : is_crowded qs (1 + n) ≡ true = rw (at, ← is) (lt-ltb MAX_IN_ROUND k many) in
    let found = found_in_range (is_crowded qs) 1 n last lt none here in
    rw (found, at, is) refl

pub crowd_more : (qs : List Request) (n k : ℕ) → find (is_crowded qs) (range_with_len 1 n) ≡ None → k ≡ starts_in qs (n + 1) → k ≤ MAX_IN_ROUND → find (is_crowded qs) (range_with_len 1 (n + 1)) ≡ None
crowd_more qs n k none is few =
    let at : 1 + n ≡ n + 1 = omega arith in
    none_in_range (is_crowded qs) 1 n none (rw (at, ← is) (le-ltb MAX_IN_ROUND k few))

pub crowd_none : (unit : Span) (qs : List Request) (n last : ℕ) → n ≡ last → find (is_crowded qs) (range_with_len 1 n) ≡ None → crowd_fault (record { unit = unit; rounds = last; requests = qs }) ≡ None
unfolding crowd_fault
crowd_none unit qs n last same none = rw (← same, none) refl

pub none_crowded : (qs : List Request) (n last : ℕ) → n ≡ last → find (is_crowded qs) (range_with_len 1 n) ≡ None → (round : ℕ) → 1 ≤ round → round ≤ last → starts_in qs round ≤ MAX_IN_ROUND
none_crowded qs n last same none round low high =
    ltb-false _ _ (each_of_range (λ r. is_crowded qs r ≡ false) 1 n (none_passes (is_crowded qs) (range_with_len 1 n) none) round low (omega arith))

-- ---- names

name_found_at : (c : Topology) (before : List NameValue) (x : NameValue) (rest : List NameValue) → first_answer (name_fault c) (prefixed before) ≡ None → is_name (counts_of c) (before, x) ≡ false → first_answer (name_fault c) (prefixed (before ++ x ∷ rest)) ≡ Some (BadName (length before))
unfolding name_fault
name_found_at c before x rest none bad = answer_here (name_fault c) before x rest (BadName (length before)) none (rw bad refl)

pub name_more : (c : Topology) (before : List NameValue) (x : NameValue) → first_answer (name_fault c) (prefixed before) ≡ None → is_name (counts_of c) (before, x) ≡ true → first_answer (name_fault c) (prefixed (before ++ x ∷ [])) ≡ None
unfolding name_fault
name_more c before x none good = first_answer-push (name_fault c) before x none (rw good refl)

-- the first of the names that are left may not come next
pub name_found : (c d : Topology) (before left all : List NameValue) (x : NameValue) (rest : List NameValue) (n : ℕ) → c ≡ d → before ++ left ≡ all → left ≡ x ∷ rest → n ≡ length before → first_answer (name_fault c) (prefixed before) ≡ None → is_name (counts_of c) (before, x) ≡ false → first_answer (name_fault d) (prefixed all) ≡ Some (BadName n)
name_found c d before left all x rest n same parts split number none bad =
    rw (← same, ← parts, split, number) (name_found_at c before x rest none bad)

-- where no device is missing, each is there
pub each_there : (c : Topology) (qs : List Request) → device_fault c qs ≡ None → (n : ℕ) (d : Request) → n < length qs → names_device c (get_or qs n d).device ≡ true
unfolding device_fault
each_there c qs none n d lt =
    let found : find (is_missing c) qs ≡ None = elim (find (is_missing c) qs) as (λ o. option_map (λ (q : Request). NoDevice q.device) o ≡ None → o ≡ None) [
      | None ↦ λ e. refl
      | Some q ↦ λ e. absurd cc
    ] none in
    not-false _ (none_passes (is_missing c) qs found n d lt)
