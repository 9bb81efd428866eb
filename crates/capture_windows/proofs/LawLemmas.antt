-- what two windows, one after the other, have to do with each other
use Rattle.std.proofs.Common.{◌≡◌, ℕ, ◌+◌, ◌<◌, ◌≤◌, ◌==◌, ◌&&◌, ◌||◌, not, nat_le, nat_lt, Bool, true, false, cond, List, [], ◌∷◌, map, filter, refl, sym, ap, ◌∙◌, arith, inl, inr, Option, None, Some}
use Rattle.std.specs.List.{All, count_by}
use Rattle.std.proofs.lemmas.List.Elements.{All-filter, All-map, All-weaker, filter_passes}
use Rattle.std.proofs.lemmas.Bool.{cases_lt, leb-true, lt-ltb, le-ltb, le-leb, lt-leb, and_parts}
use Rattle.slots.specs.Windowed.{flying}
use Rattle.capture.specs.declared.timed_request.TimedRequest.{TimedRequest}
use Rattle.capture.specs.Timed.{start_of}
use Rattle.capture_windows.specs.Attempts.{Attempt, TimeSpan, goes_on, is_before, is_over, is_request, is_waiting, is_within, request_of, started_in, starts_before, starts_in}
use Rattle.capture_windows.specs.Devices.{attempts_of, earlier_flights, flights_at, going_on, numbered_in, numbered_until}
use Rattle.capture_windows.specs.Laws.{flies_past, flight_after, whole_span}
use Rattle.capture_windows.proofs.ListLemmas.{count_kept, filter_three, filter_through, filter_wider, map_agree, map_both, map_leaves}

-- ---- a number is all that changes in an attempt that goes on

numbered_keeps : {Y : Type 0} (f : Attempt → Y) → ((a : Attempt) (n : ℕ) → f (record a { number = n }) ≡ f a) → (span : TimeSpan) (attempts : List Attempt) (a : Attempt) → f (numbered_in span attempts a) ≡ f a
numbered_keeps f same span attempts a = elim (starts_in span a) as (λ b. f (cond b (record a { number = flying (flights_at span attempts a.request.device) (start_of a.request) }) a) ≡ f a) [
  | true ↦ same a (flying (flights_at span attempts a.request.device) (start_of a.request))
  | false ↦ refl
]

-- ---- starts before a cut and after it

pub within_before : (from until : ℕ) (o : Option ℕ) → is_within from until o ≡ true → is_before until o ≡ true
within_before from until None is = is
within_before from until (Some s) is = (and_parts (nat_le from s) (nat_lt s until) is).1

within_later : (from until : ℕ) (o : Option ℕ) → is_within from until o ≡ true → is_before from o ≡ false
within_later from until None is = refl
within_later from until (Some s) is =
    let begun : from ≤ s = leb-true from s (and_parts (nat_le from s) (nat_lt s until) is).0 in
    le-ltb s from begun

-- what is started after a window goes on from it
starts_later : (first second : TimeSpan) → first.until ≡ second.from → (a : Attempt) → is_request second a ≡ true → goes_on first a ≡ true
starts_later first second next a is =
    let later = within_later second.from second.until a.request.started (and_parts a.is_taken (starts_in second a) is).1 in
    let unstarted : starts_before first.until a ≡ false = ap (λ t. is_before t a.request.started) next ∙ later in
    ap (λ b. not b || (starts_in first a && not (is_over first.until a))) unstarted

-- what a later window takes of what goes on is what it would take of all
pub started_later : (first second : TimeSpan) → first.until ≡ second.from → (attempts : List Attempt) → started_in second (going_on first attempts) ≡ started_in second attempts
started_later first second next attempts =
    ap (map request_of) (filter_through (is_request second) (numbered_in first attempts) (numbered_keeps (is_request second) (λ a n. refl) first attempts) (filter (goes_on first) attempts))
    ∙ map_both request_of (numbered_in first attempts) (filter (is_request second) (filter (goes_on first) attempts))
    ∙ map_agree (is_request second) (λ a. request_of (numbered_in first attempts a)) request_of (λ a _. numbered_keeps request_of (λ b n. refl) first attempts a) (filter (goes_on first) attempts)
    ∙ ap (map request_of) (filter_wider (is_request second) (goes_on first) (starts_later first second next) attempts)

-- a start in one of two windows is in the whole, and in one of them alone
one_of_two : (a b c : ℕ) (taken kind : Bool) (o : Option ℕ) → a ≤ b → b ≤ c → cond ((taken && is_within a b o) && kind) 1 0 + cond ((taken && is_within b c o) && kind) 1 0 ≡ cond ((taken && is_within a c o) && kind) 1 0
one_of_two a b c false kind o low high = refl
one_of_two a b c true kind None low high = refl
one_of_two a b c true kind (Some s) low high = elim (cases_lt s b) [
  | inl early ↦
      let in_first : nat_lt s b ≡ true = lt-ltb s b early in
      let in_whole : nat_lt s c ≡ true = lt-ltb s c (omega arith) in
      let not_second : nat_le b s ≡ false = lt-leb b s early in
      rw (in_first, in_whole, not_second) (omega arith)
  | inr late ↦
      let not_first : nat_lt s b ≡ false = le-ltb s b late in
      let in_whole : nat_le a s ≡ true = le-leb a s (omega arith) in
      let in_second : nat_le b s ≡ true = le-leb b s late in
      rw (not_first, in_whole, in_second) (omega arith)
]

pub counted_once : (first second : TimeSpan) → first.until ≡ second.from → first.from ≤ first.until → second.from ≤ second.until → (kind : TimedRequest → Bool) (attempts : List Attempt) → count_by kind (started_in first attempts) + count_by kind (started_in second attempts) ≡ count_by kind (started_in (whole_span first second) attempts)
counted_once first second next low high kind [] = refl
counted_once first second next low high kind (a ∷ attempts) =
    let rest = counted_once first second next low high kind attempts in
    let one = count_kept kind request_of (is_request first) a attempts in
    let two = count_kept kind request_of (is_request second) a attempts in
    let all = count_kept kind request_of (is_request (whole_span first second)) a attempts in
    let cut = one_of_two first.from second.from second.until a.is_taken (kind a.request) a.request.started (omega arith) high in
    let same : cond {A = ℕ} ((a.is_taken && is_within first.from first.until a.request.started) && kind a.request) 1 0 ≡ cond {A = ℕ} ((a.is_taken && is_within first.from second.from a.request.started) && kind a.request) 1 0 =
    ap (λ t. cond {A = ℕ} ((a.is_taken && is_within first.from t a.request.started) && kind a.request) 1 0) next in
    omega (arith, rest, one, two, all, cut, same)

pub in_one_window : (first second : TimeSpan) → first.until ≡ second.from → first.from ≤ first.until → second.from ≤ second.until → (kind : TimedRequest → Bool) (attempts : List Attempt) → count_by kind (started_in first attempts) + count_by kind (started_in second (going_on first attempts)) ≡ count_by kind (started_in (whole_span first second) attempts)
in_one_window first second next low high kind attempts =
    let later = ap (count_by kind) (started_later first second next attempts) in
    omega (arith, later, counted_once first second next low high kind attempts)

-- ---- who waits goes on as it is

waits_unstarted : (t : ℕ) (a : Attempt) → is_waiting t a ≡ true → starts_before t a ≡ false
waits_unstarted t a is = unstarted (starts_before t a) ((and_parts (nat_lt a.request.arrival t) (not (starts_before t a)) (and_parts a.is_taken (nat_lt a.request.arrival t && not (starts_before t a)) is).1).1)
  where
    unstarted : (b : Bool) → not b ≡ true → b ≡ false
    unstarted true is = sym is
    unstarted false is = refl

waits_later : (window : TimeSpan) (a : Attempt) → is_waiting window.until a ≡ true → goes_on window a ≡ true
waits_later window a is = ap (λ b. not b || (starts_in window a && not (is_over window.until a))) (waits_unstarted window.until a is)

waits_as_is : (window : TimeSpan) (attempts : List Attempt) (a : Attempt) → is_waiting window.until a ≡ true → numbered_in window attempts a ≡ a
waits_as_is window attempts a is = ap (λ b. cond b (record a { number = flying (flights_at window attempts a.request.device) (start_of a.request) }) a) (outside (starts_in window a) (within_before window.from window.until a.request.started) (waits_unstarted window.until a is))
  where
    outside : (b : Bool) → (b ≡ true → starts_before window.until a ≡ true) → starts_before window.until a ≡ false → b ≡ false
    outside false before after = refl
    outside true before after = sym (before refl) ∙ after

pub waits_stay : (window : TimeSpan) (attempts : List Attempt) → filter (is_waiting window.until) (going_on window attempts) ≡ filter (is_waiting window.until) attempts
waits_stay window attempts =
    filter_through (is_waiting window.until) (numbered_in window attempts) (numbered_keeps (is_waiting window.until) (λ a n. refl) window attempts) (filter (goes_on window) attempts)
    ∙ ap (map (numbered_in window attempts)) (filter_wider (is_waiting window.until) (goes_on window) (waits_later window) attempts)
    ∙ map_leaves (is_waiting window.until) (numbered_in window attempts) (waits_as_is window attempts) attempts

-- ---- flights go on with their slots

-- an attempt with a slot that was started before a cut and goes on is one that was started in the window and is in flight at its end
past_cut : (slot before within over : Bool) → (within ≡ true → before ≡ true) → ((not before || (within && not over)) && (slot && before)) ≡ (slot && (within && not over))
past_cut false true true true so = refl
past_cut false true true false so = refl
past_cut false true false over so = refl
past_cut false false true over so = refl
past_cut false false false over so = refl
past_cut true true true true so = refl
past_cut true true true false so = refl
past_cut true true false over so = refl
past_cut true false true over so = let no : false ≡ true = so refl in cc
past_cut true false false over so = refl

flies_on : (first second : TimeSpan) → first.until ≡ second.from → (a : Attempt) → (goes_on first a && (a.has_slot && starts_before second.from a)) ≡ flies_past first a
flies_on first second next a =
    ap (λ t. goes_on first a && (a.has_slot && starts_before t a)) (sym next)
    ∙ past_cut a.has_slot (starts_before first.until a) (starts_in first a) (is_over first.until a) (within_before first.from first.until a.request.started)

flight_same : (first second : TimeSpan) (attempts : List Attempt) (a : Attempt) → flies_past first a ≡ true → numbered_until second.until (numbered_in first attempts a) ≡ flight_after first second attempts a
flight_same first second attempts a is =
    let inside : starts_in first a ≡ true = (and_parts (starts_in first a) (not (is_over first.until a)) (and_parts a.has_slot (starts_in first a && not (is_over first.until a)) is).1).0 in
    ap (λ b. numbered_until second.until (cond b (record a { number = flying (flights_at first attempts a.request.device) (start_of a.request) }) a)) inside

pub slots_stay : (first second : TimeSpan) → first.until ≡ second.from → (attempts : List Attempt) (device : ℕ) → earlier_flights second (attempts_of device (going_on first attempts)) ≡ map (flight_after first second attempts) (filter (flies_past first) (attempts_of device attempts))
slots_stay first second next attempts device =
    let own : Attempt → Bool = λ a. a.request.device == device in
    let begun : Attempt → Bool = λ a. a.has_slot && starts_before second.from a in
    let n = numbered_in first attempts in
    ap (λ bs. earlier_flights second bs) (filter_through own n (numbered_keeps own (λ a k. refl) first attempts) (filter (goes_on first) attempts))
    ∙ ap (map (numbered_until second.until)) (filter_through begun n (numbered_keeps begun (λ a k. refl) first attempts) (filter own (filter (goes_on first) attempts)))
    ∙ ap (λ bs. map (numbered_until second.until) (map n bs)) (filter_three (goes_on first) own begun (flies_past first) (flies_on first second next) attempts)
    ∙ map_both (numbered_until second.until) n (filter (flies_past first) (filter own attempts))
    ∙ map_agree (flies_past first) (λ a. numbered_until second.until (n a)) (flight_after first second attempts) (flight_same first second attempts) (filter own attempts)

-- ---- what is kept

unstarted_or_own : (window : TimeSpan) → window.from ≤ window.until → (a : Attempt) → goes_on window a ≡ true → starts_before window.from a ≡ false
unstarted_or_own window order a is = by_start a.request.started (is_over window.until a) is
  where
    by_start : (o : Option ℕ) (over : Bool) → (not (is_before window.until o) || (is_within window.from window.until o && not over)) ≡ true → is_before window.from o ≡ false
    by_start None over is = refl
    by_start (Some s) over is = elim (cases_lt s window.from) [
      | inl early ↦
          let before : nat_lt s window.until ≡ true = lt-ltb s window.until (omega arith) in
          let outside : nat_le window.from s ≡ false = lt-leb window.from s early in
          let no : false ≡ true = rw (before, outside) at is in
          cc
      | inr late ↦ le-ltb s window.from late
    ]

pub kept_new : (window : TimeSpan) → window.from ≤ window.until → (attempts : List Attempt) → All (λ (a : Attempt). starts_before window.from a ≡ false) (going_on window attempts)
kept_new window order attempts =
    All-map (λ (a : Attempt). starts_before window.from a ≡ false) (numbered_in window attempts) (filter (goes_on window) attempts)
    (All-weaker (λ (a : Attempt). goes_on window a ≡ true) (λ (a : Attempt). starts_before window.from (numbered_in window attempts a) ≡ false)
    (λ a passes. numbered_keeps (starts_before window.from) (λ b n. refl) window attempts a ∙ unstarted_or_own window order a passes)
    (filter (goes_on window) attempts) (filter_passes (goes_on window) attempts))

-- the devices of what goes on
pub devices_kept : (window : TimeSpan) (attempts : List Attempt) (n : ℕ) → All (λ (a : Attempt). a.request.device < n) attempts → All (λ (a : Attempt). a.request.device < n) (going_on window attempts)
devices_kept window attempts n within =
    All-map (λ (a : Attempt). a.request.device < n) (numbered_in window attempts) (filter (goes_on window) attempts)
    (All-weaker (λ (a : Attempt). a.request.device < n) (λ (a : Attempt). (numbered_in window attempts a).request.device < n)
    (λ a lt. let same = numbered_keeps (λ (b : Attempt). b.request.device) (λ b k. refl) window attempts a in omega arith)
    (filter (goes_on window) attempts) (All-filter (goes_on window) (λ (a : Attempt). a.request.device < n) attempts within))
