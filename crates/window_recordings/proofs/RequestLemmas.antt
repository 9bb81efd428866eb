-- the requests of windows
use Rattle.std.proofs.Common.{◌≡◌, ℕ, zero, suc, ◌+◌, ◌-◌, ◌<◌, ◌≤◌, ◌==◌, ◌&&◌, Bool, true, false, cond, min, nat_le, nat_lt, List, [], ◌∷◌, ◌++◌, length, map, filter, take, get_or, find, count_by, Option, Some, None, refl, sym, ap, ◌∙◌, arith, inl, inr, append_assoc, append-nil}
use Rattle.std.specs.List.{AllByRecursion}
use Rattle.std.specs.Option.{option_map, option_map_or, option_or}
use Rattle.std.proofs.lemmas.Bool.{and_parts, and_from, and_right, cases_eq, leb-true, leb-false, ltb-true, ltb-false, lt-ltb, le-leb, lt-leb, le-ltb, ne_eqb, eq-eqb}
use Rattle.std.proofs.lemmas.List.{length-map, length-take}
use Rattle.std.proofs.lemmas.List.Sums.{sum_by-cons, length-filter}
use Rattle.cam_types.specs.Lists.{prefixed_after, first_answer}
use Rattle.cam_types.specs.Topology.{Topology}
use Rattle.cam_types.specs.declared.limits.TheConstants.{MAX_PRIORITY}
use Rattle.recording_file.specs.declared.cap.Cap.{Cap}
use Rattle.recording_file.specs.declared.part.Part.{Part}
use Rattle.recording_file.specs.declared.request.Request.{Request}
use Rattle.recording_file.specs.Recorded.{Recorded, IsKept, load, takes_of, is_full, full_cause, parts_of, last_of, plain_cause, window_cause, crowd_cause, request_cause, is_done_right}
use Rattle.recording_file.proofs.PlacingLemmas.{IsPlain, plain_none}
use Rattle.window_recordings.specs.Windows.{first_request, first_requests, first_caps, second_request, second_requests, second_caps}
use Rattle.window_recordings.proofs.CapLemmas.{cap_in-first, cap_in-second, picked_yes, picked_no}

-- ---- what is sent in a round

-- if a function keeps what a test says of the picked ones, and the test fails at the others, as many pass it
counted : (f : Request → Request) (pick old new : Request → Bool) → ((q : Request) → pick q ≡ true → new (f q) ≡ old q) → ((q : Request) → pick q ≡ false → old q ≡ false)
    → (qs : List Request) → count_by new (map f (filter pick qs)) ≡ count_by old qs
counted f pick old new kept none [] = refl
counted f pick old new kept none (q ∷ qs) =
    let rest = counted f pick old new kept none qs in
    let one = sum_by-cons (λ x. cond {A = ℕ} (old x) 1 0) q qs in
    elim (pick q) as (λ b. pick q ≡ b → count_by new (map f (cond b (q ∷ filter pick qs) (filter pick qs))) ≡ count_by old (q ∷ qs)) [
      | true ↦ λ passes.
          let two = sum_by-cons (λ x. cond {A = ℕ} (new x) 1 0) (f q) (map f (filter pick qs)) in
          let same : ◌≡◌ {A = ℕ} (cond (new (f q)) 1 0) (cond (old q) 1 0) = ap (λ (b : Bool). cond {A = ℕ} b 1 0) (kept q passes) in
          omega (arith, rest, one, two, same)
      | false ↦ λ fails.
          let same : ◌≡◌ {A = ℕ} (cond (old q) 1 0) 0 = ap (λ (b : Bool). cond {A = ℕ} b 1 0) (none q fails) in
          omega (arith, rest, one, same)
    ] refl

pub load-first : (t : Topology) (c : ℕ) (qs : List Request) (p : Part) (r : ℕ) → r ≤ c → load t (first_requests c qs) p r ≡ load t qs p r
load-first t c qs p r within = counted (first_request c) (λ (q : Request). nat_le q.sent c) (λ (q : Request). takes_of t p q.device && (q.sent == r)) (λ (q : Request). takes_of t p q.device && (q.sent == r))
    (λ q passes. refl)
    (λ q fails. and_right (takes_of t p q.device) _ (let late = leb-false q.sent c fails in ne_eqb q.sent r (λ e. omega arith))) qs

same_round : (c x r : ℕ) → c < x → c < r → (x - c == r - c) ≡ (x == r)
same_round c x r past after = elim (cases_eq x r) [
  | inl same ↦ eq-eqb (x - c) (r - c) (omega arith) ∙ sym (eq-eqb x r same)
  | inr other ↦ ne_eqb (x - c) (r - c) (λ e. other (omega arith)) ∙ sym (ne_eqb x r other)
]

pub load-second : (t : Topology) (c : ℕ) (qs : List Request) (p : Part) (r : ℕ) → c < r → load t (second_requests c qs) p (r - c) ≡ load t qs p r
load-second t c qs p r past = counted (second_request c) (λ (q : Request). nat_lt c q.sent) (λ (q : Request). takes_of t p q.device && (q.sent == r)) (λ (q : Request). takes_of t p q.device && (q.sent == r - c))
    (λ q passes. ap (λ b. takes_of t p q.device && b) (same_round c q.sent r (ltb-true c q.sent passes) past))
    (λ q fails. and_right (takes_of t p q.device) _ (let early = ltb-false c q.sent fails in ne_eqb q.sent r (λ e. omega arith))) qs

-- ---- causes

find-same : {X : Type 0} (p q : X → Bool) (xs : List X) → ((x : X) → p x ≡ q x) → find p xs ≡ find q xs
find-same p q [] e = refl
find-same p q (x ∷ xs) e = rw (e x, find-same p q xs e) refl

crowd-first : (t : Topology) (c : ℕ) (caps : List Cap) (before : List Request) (q : Request) → q.sent ≤ c → crowd_cause t (first_caps c caps) (first_requests c before) (first_request c q) ≡ crowd_cause t caps before q
unfolding crowd_cause
crowd-first t c caps before q within = ap (λ o. option_map (λ (p : Part). full_cause p.kind) o) (find-same (is_full t (first_caps c caps) (first_requests c before) q.sent) (is_full t caps before q.sent) (parts_of t q.device)
    (λ p. rw (cap_in-first t c caps p q.sent within, load-first t c before p q.sent within) refl))

crowd-second : (t : Topology) (c : ℕ) (caps : List Cap) (before : List Request) (q : Request) → c < q.sent → crowd_cause t (second_caps c caps) (second_requests c before) (second_request c q) ≡ crowd_cause t caps before q
unfolding crowd_cause
crowd-second t c caps before q past = ap (λ o. option_map (λ (p : Part). full_cause p.kind) o) (find-same (is_full t (second_caps c caps) (second_requests c before) (q.sent - c)) (is_full t caps before q.sent) (parts_of t q.device)
    (λ p. rw (cap_in-second t c caps p q.sent past, load-second t c before p q.sent past) refl))

pub last-first : (rounds c : ℕ) (q : Request) → c ≤ rounds → last_of c (first_request c q) ≡ min (last_of rounds q) c
last-first rounds c q within = go q.last
  where
    go : (o : Option ℕ) → option_map_or (λ (n : ℕ). n) (option_map (min c) o) c ≡ min (option_map_or (λ (n : ℕ). n) o rounds) c
    go None = omega arith
    go (Some n) = omega arith

pub last-second : (rounds c : ℕ) (q : Request) → last_of (rounds - c) (second_request c q) ≡ last_of rounds q - c
last-second rounds c q = go q.last
  where
    go : (o : Option ℕ) → option_map_or (λ (n : ℕ). n) (option_map (λ (last : ℕ). last - c) o) (rounds - c) ≡ option_map_or (λ (n : ℕ). n) o rounds - c
    go None = refl
    go (Some n) = refl

plain_from : (rounds : ℕ) (t : Topology) (q : Request) → IsPlain rounds t q → plain_cause rounds t q ≡ None
unfolding plain_cause window_cause
plain_from rounds t q is =
    rw (is.there, le-ltb MAX_PRIORITY q.priority is.listed, le-leb 1 q.arrival is.arrival, le-leb q.arrival (last_of rounds q) (let a = is.arrived in let w = is.within in omega arith), le-leb (last_of rounds q) rounds is.end, le-ltb q.sent q.arrival is.arrived, le-ltb (last_of rounds q) q.sent is.within) refl

either_none : {X : Type 0} (a b : Option X) → option_or a b ≡ None → (a ≡ None) × (b ≡ None)
either_none None b e = (refl, e)
either_none (Some x) b e = absurd cc

first_answer-prefixed_after : {X F : Type 0} (f : List X × X → Option F) (before xs : List X) (n : ℕ) (d : X) → first_answer f (prefixed_after before xs) ≡ None → n < length xs → f (before ++ take n xs, get_or xs n d) ≡ None
first_answer-prefixed_after f before [] n d none less = absurd (omega arith)
first_answer-prefixed_after f before (x ∷ xs) zero d none less = rw (append-nil before) (either_none (f (before, x)) _ none).0
first_answer-prefixed_after f before (x ∷ xs) (suc n) d none less = rw append_assoc at (first_answer-prefixed_after f (before ++ x ∷ []) xs n d (either_none (f (before, x)) _ none).1 (omega arith))

-- what no cause speaks against, beside those before it
pub record IsTaken (r : Recorded) (n : ℕ) (q : Request) : Type 0 where
  pub plain : IsPlain r.rounds r.config q
  pub alone : crowd_cause r.config r.caps (take n r.requests) q ≡ None

pub taken : (r : Recorded) (n : ℕ) (d : Request) → IsKept r → n < length r.requests → IsTaken r n (get_or r.requests n d)
unfolding request_cause
taken r n d kept lt =
    let none = first_answer-prefixed_after (request_cause r.rounds r.config r.caps) [] r.requests n d kept.requests lt in
    let parts = either_none (plain_cause r.rounds r.config (get_or r.requests n d)) _ none in
    record { plain = plain_none r.rounds r.config (get_or r.requests n d) parts.0; alone = parts.1 }

pub first_legal : (r : Recorded) (c n : ℕ) (d : Request) → IsKept r → c ≤ r.rounds → n < length r.requests → (get_or r.requests n d).sent ≤ c → request_cause c r.config (first_caps c r.caps) (first_requests c (take n r.requests), first_request c (get_or r.requests n d)) ≡ None
unfolding request_cause
first_legal r c n d kept within lt by =
    let q : Request = get_or r.requests n d in
    let is = taken r n d kept lt in
    let end = last-first r.rounds c q within in
    let plain = plain_from c r.config (first_request c q) (record {
      there = is.plain.there;
      listed = is.plain.listed;
      some = is.plain.some;
      last = by;
      arrival = is.plain.arrival;
      arrived = is.plain.arrived;
      within = omega (arith, end, is.plain.within);
      end = omega (arith, end);
    }) in
    rw (plain, crowd-first r.config c r.caps (take n r.requests) q by) is.alone

pub second_legal : (r : Recorded) (c n : ℕ) (d : Request) → IsKept r → n < length r.requests → c < (get_or r.requests n d).sent → request_cause (r.rounds - c) r.config (second_caps c r.caps) (second_requests c (take n r.requests), second_request c (get_or r.requests n d)) ≡ None
unfolding request_cause
second_legal r c n d kept lt past =
    let q : Request = get_or r.requests n d in
    let is = taken r n d kept lt in
    let end = last-second r.rounds c q in
    let plain = plain_from (r.rounds - c) r.config (second_request c q) (record {
      there = is.plain.there;
      listed = is.plain.listed;
      some = omega (arith, past);
      last = omega (arith, is.plain.last);
      arrival = omega arith;
      arrived = omega (arith, is.plain.arrived);
      within = omega (arith, end, is.plain.within);
      end = omega (arith, end, is.plain.end);
    }) in
    rw (plain, crowd-second r.config c r.caps (take n r.requests) q past) is.alone

-- ---- completions

done_at : (P : Request → Type 0) (qs : List Request) (n : ℕ) (d : Request) → AllByRecursion P qs → n < length qs → P (get_or qs n d)
done_at P [] n d all less = absurd (omega arith)
done_at P (q ∷ qs) zero d all less = all.0
done_at P (q ∷ qs) (suc n) d all less = done_at P qs n d all.1 (omega arith)

done-first : (completions : Bool) (c : ℕ) (q : Request) → is_done_right completions q ≡ true → is_done_right completions (first_request c q) ≡ true
done-first completions c q right = go q.done right
  where
    go : (o : Option ℕ) → is_done_right completions (record q { done = o }) ≡ true → is_done_right completions (first_request c (record q { done = o })) ≡ true
    go None h = refl
    go (Some done) h = elim (nat_le done c) as (λ b. option_map_or (λ (n : ℕ). completions && nat_le q.sent n) (cond b (Some done) None) true ≡ true) [ true ↦ h | false ↦ refl ]

done-second : (completions : Bool) (c : ℕ) (q : Request) → is_done_right completions q ≡ true → is_done_right completions (second_request c q) ≡ true
done-second completions c q right = go q.done right
  where
    go : (o : Option ℕ) → is_done_right completions (record q { done = o }) ≡ true → is_done_right completions (second_request c (record q { done = o })) ≡ true
    go None h = refl
    go (Some done) h =
        let parts = and_parts completions (nat_le q.sent done) h in
        and_from completions (nat_le (q.sent - c) (done - c)) parts.0 (le-leb (q.sent - c) (done - c) (let e = leb-true q.sent done parts.1 in omega arith))

pub first_done : (r : Recorded) (c n : ℕ) (d : Request) → IsKept r → n < length r.requests → is_done_right r.completions (first_request c (get_or r.requests n d)) ≡ true
first_done r c n d kept lt = done-first r.completions c (get_or r.requests n d) (done_at (λ (x : Request). is_done_right r.completions x ≡ true) r.requests n d kept.done lt)

pub second_done : (r : Recorded) (c n : ℕ) (d : Request) → IsKept r → n < length r.requests → is_done_right r.completions (second_request c (get_or r.requests n d)) ≡ true
second_done r c n d kept lt = done-second r.completions c (get_or r.requests n d) (done_at (λ (x : Request). is_done_right r.completions x ≡ true) r.requests n d kept.done lt)

-- ---- one request more

pub first_requests_more : (c : ℕ) (qs : List Request) (n : ℕ) (d : Request) → n < length qs → (get_or qs n d).sent ≤ c → first_requests c (take n qs) ++ first_request c (get_or qs n d) ∷ [] ≡ first_requests c (take (n + 1) qs)
first_requests_more c qs n d lt within = sym (picked_yes (first_request c) (λ (q : Request). nat_le q.sent c) qs n d lt (le-leb _ _ within))

pub first_requests_same : (c : ℕ) (qs : List Request) (n : ℕ) (d : Request) → n < length qs → c < (get_or qs n d).sent → first_requests c (take n qs) ≡ first_requests c (take (n + 1) qs)
first_requests_same c qs n d lt past = sym (picked_no (first_request c) (λ (q : Request). nat_le q.sent c) qs n d lt (lt-leb _ _ past))

pub second_requests_more : (c : ℕ) (qs : List Request) (n : ℕ) (d : Request) → n < length qs → c < (get_or qs n d).sent → second_requests c (take n qs) ++ second_request c (get_or qs n d) ∷ [] ≡ second_requests c (take (n + 1) qs)
second_requests_more c qs n d lt past = sym (picked_yes (second_request c) (λ (q : Request). nat_lt c q.sent) qs n d lt (lt-ltb _ _ past))

pub second_requests_same : (c : ℕ) (qs : List Request) (n : ℕ) (d : Request) → n < length qs → (get_or qs n d).sent ≤ c → second_requests c (take n qs) ≡ second_requests c (take (n + 1) qs)
second_requests_same c qs n d lt within = sym (picked_no (second_request c) (λ (q : Request). nat_lt c q.sent) qs n d lt (le-ltb _ _ within))

-- a part of the first of so many requests is no more than these
pub picked_few : (f : Request → Request) (test : Request → Bool) (qs : List Request) (n : ℕ) → length (map f (filter test (take n qs))) ≤ n
picked_few f test qs n =
    let many = length-map (filter test (take n qs)) f in
    let pick = length-filter test (take n qs) in
    let few = at_most (take n qs) in
    let long = length-take n qs in
    omega arith
  where
    at_most : (xs : List Request) → count_by test xs ≤ length xs
    at_most [] = omega arith
    at_most (x ∷ xs) =
        let rest = at_most xs in
        let one = sum_by-cons (λ y. cond {A = ℕ} (test y) 1 0) x xs in
        let here : ◌≤◌ (cond (test x) 1 0) 1 = elim (test x) as (λ b. ◌≤◌ (cond b 1 0) 1) [ true ↦ omega arith | false ↦ omega arith ] in
        omega arith
