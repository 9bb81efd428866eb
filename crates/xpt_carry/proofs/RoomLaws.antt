-- limits with room for what is carried over refuse nothing
use Rattle.std.proofs.Common.{◌≡◌, ℕ, ◌+◌, ◌-◌, ◌*◌, ◌<◌, ◌≤◌, Bool, true, false, cond, List, [], ◌∷◌, ◌++◌, length, map, refl, sym, ap, ◌∙◌, arith, zero-add, Option, Some, None, ◌&&◌, not, ◌==◌, nat_lt, nat_le, filter_map, sum_by, count_by, option_map, length-append, fold, filter}
use Rattle.std.specs.List.{list_all, list_any, range_with_len, cons_option}
use Rattle.std.specs.Option.{option_map_or}
use Rattle.std.proofs.lemmas.Bool.{and_parts, and_from, lt-ltb, le-leb, leb-true, eq-eqb}
use Rattle.std.proofs.lemmas.Bool.Decides.{nat_tests}
use Rattle.std.proofs.lemmas.List.{length-map}
use Rattle.std.proofs.lemmas.List.Folds.{list_all-append}
use Rattle.std.proofs.lemmas.List.FromFn.{length-range_with_len}
use Rattle.std.proofs.lemmas.List.Sums.{sum_by-append}
use Rattle.cam_types.specs.Bounds.{Bounds}
use Rattle.cam_types.specs.Lists.{is_less}
use Rattle.cam_types.specs.Questions.{device_openings, devices, names_device, names_adapter}
use Rattle.cam_types.specs.Topology.{Topology, are_openings}
use Rattle.cam_types.specs.declared.limits.TheConstants.{MAX_PRIORITY, MAX_RETRIES, MAX_FREEZES}
use Rattle.event_rules.specs.Counts.{round, submission, submissions, sendings, has_in_flight, is_in_flight, counted_requeues, caller_count, adapter_freezes, freezes_by_send, last}
use Rattle.event_rules.specs.Event.{is_some_and, is_tick, is_adjust_of, adjusts_to, freezes}
use Rattle.event_rules.specs.Event as tests
use Rattle.event_rules.specs.Laws.{is_in_range, is_stay_of, is_stay_in_range}
use Rattle.event_rules.specs.Legal.{Rules, is_allowed, is_legal}
use Rattle.event_rules.specs.Sorted.{insert_by}
use Rattle.event_rules.specs.Stays.{waiting, stays_begun, is_unsent, queue_key}
use Rattle.event_rules.specs.declared.event.Event.{Event}
use Rattle.event_rules.specs.declared.event.Event.TheVariants.{FreezeDev, FreezeSim, Adjust, Tick}
use Rattle.event_rules.specs.declared.passage.Passage.{Passage}
use Rattle.event_rules.specs.declared.submission.Submission.{Submission}
use Rattle.event_rules.proofs.ListFacts.{length-filter_map}
use Rattle.event_rules.proofs.RangeLemmas.{stays_in_range}
use Rattle.event_rules.proofs.TestLemmas.{list_all-filtered}
use Rattle.xpt_core.specs.Device.{next_openings}
use Rattle.xpt_core.specs.Known.{adapters}
use Rattle.xpt_core.proofs.EntryLemmas.{all-sorted}
use Rattle.xpt_carry.specs.Carry.{left_of, submit, adjust_of, device_freeze, adapter_freeze, carried, carrying, first_refusal}
use Rattle.xpt_carry.specs.Laws.{HasRoom}
use Rattle.xpt_carry.proofs.IdleLemmas.{is_idle, is_plain, all_made, of_adjust, of_device, adjusts, device_freezes, sim_freezes, front, plain_front, no_submissions, no_stays, no_sendings}
use Rattle.xpt_carry.proofs.AnewLemmas.{lefts, some-lefts, all_own}
use Rattle.xpt_carry.proofs.CcbLemmas.{fresh_is, front_commands}
use Rattle.xpt_carry.proofs.FreezeLaws.{sum_zero, sum_before}
use Rattle.xpt_carry.proofs.BoundLemmas.{none_legal, callers_most, adapters_most, last_openings}
use Rattle.xpt_carry.proofs.LegalLemmas.{rules, legal_more, legal_numbered, legal_submits, legal_unrefused}

-- a made event is legal: what its number asks
positive : (n : ℕ) → (n == 0) ≡ false → nat_lt 0 n ≡ true
positive n h = grind (arith, nat_tests)

openings_cases : (o : Option Event) (n : ℕ) → option_map_or (λ e. are_openings (adjusts_to e)) o true ≡ true → (option_map_or adjusts_to o n == n) ≡ false → are_openings (option_map_or adjusts_to o n) ≡ true
openings_cases None n h differs = let same = eq-eqb n n refl in absurd (cc)
openings_cases (Some e) n h differs = h

module _ (old : Rules) (limits : Bounds) (c : Topology) (es : List Event) (legal : is_legal old c es ≡ true) where
  adjust_allowed : (before : List Event) (d : ℕ) (e : Event) → names_device c d ≡ true → adjust_of c es d ≡ Some e → is_allowed (rules limits c) c before e ≡ true
  unfolding adjust_of
  adjust_allowed before d e named is = cases (next_openings c es d == device_openings c d) refl is
    where
      cases : (b : Bool) → (next_openings c es d == device_openings c d) ≡ b → cond b None (Some (Adjust d (next_openings c es d))) ≡ Some e → is_allowed (rules limits c) c before e ≡ true
      cases true test made = absurd (cc)
      cases false test made =
          let same : Adjust d (next_openings c es d) ≡ e = cc in
          ap (is_allowed (rules limits c) c before) (sym same) ∙ and_from _ _ named (openings_cases (last (is_adjust_of d) es) (device_openings c d) (last_openings old c es d legal) test)

  device_allowed : (before : List Event) (d : ℕ) (e : Event) → names_device c d ≡ true → caller_count before d ≡ 0 → device_freeze es d ≡ Some e → is_allowed (rules limits c) c before e ≡ true
  unfolding device_freeze
  device_allowed before d e named none is = cases (caller_count es d == 0) refl is
    where
      most : caller_count es d ≤ MAX_FREEZES
      most = callers_most old c es d legal

      cases : (b : Bool) → (caller_count es d == 0) ≡ b → cond b None (Some (FreezeDev d (caller_count es d))) ≡ Some e → is_allowed (rules limits c) c before e ≡ true
      cases true test made = absurd (cc)
      cases false test made =
          let same : FreezeDev d (caller_count es d) ≡ e = cc in
          let count = and_from (nat_lt 0 (caller_count es d)) (nat_le (caller_count es d) MAX_FREEZES) (positive (caller_count es d) test) (le-leb (caller_count es d) MAX_FREEZES most) in
          let room : caller_count before d + caller_count es d ≤ MAX_FREEZES = omega (arith, none, most) in
          ap (is_allowed (rules limits c) c before) (sym same) ∙ and_from _ _ (and_from _ _ named count) (le-leb (caller_count before d + caller_count es d) MAX_FREEZES room)

  adapter_allowed : (before : List Event) (a : ℕ) (e : Event) → names_adapter c a ≡ true → adapter_freezes before a ≡ 0 → adapter_freeze es a ≡ Some e → is_allowed (rules limits c) c before e ≡ true
  unfolding adapter_freeze
  adapter_allowed before a e named none is = cases (adapter_freezes es a == 0) refl is
    where
      most : adapter_freezes es a ≤ MAX_FREEZES
      most = adapters_most old c es a legal

      cases : (b : Bool) → (adapter_freezes es a == 0) ≡ b → cond b None (Some (FreezeSim a (adapter_freezes es a))) ≡ Some e → is_allowed (rules limits c) c before e ≡ true
      cases true test made = absurd (cc)
      cases false test made =
          let same : FreezeSim a (adapter_freezes es a) ≡ e = cc in
          let count = and_from (nat_lt 0 (adapter_freezes es a)) (nat_le (adapter_freezes es a) MAX_FREEZES) (positive (adapter_freezes es a) test) (le-leb (adapter_freezes es a) MAX_FREEZES most) in
          let room : adapter_freezes before a + adapter_freezes es a ≤ MAX_FREEZES = omega (arith, none, most) in
          ap (is_allowed (rules limits c) c before) (sym same) ∙ and_from _ _ (and_from _ _ named count) (le-leb (adapter_freezes before a + adapter_freezes es a) MAX_FREEZES room)

-- nothing is in flight before the tick, and the round is the first
no_flight : (xs : List Event) → list_all is_plain xs ≡ true → has_in_flight xs ≡ false
unfolding has_in_flight submissions
no_flight xs h = ap (λ ss. list_any (is_in_flight xs) (range_with_len 0 (length ss))) (no_submissions xs h)

first_round : (xs : List Event) → list_all (λ e. cond {A = ℕ} (is_tick e) 1 0 == 0) xs ≡ true → round xs ≡ 1
unfolding round
first_round xs h = omega (arith, sum_zero (λ e. cond {A = ℕ} (is_tick e) 1 0) xs h)

-- no freeze of a number before its own
no_callers : (xs : List Event) (d : ℕ) → list_all is_idle xs ≡ true → sum_by (freezes d) xs ≡ 0 → caller_count xs d ≡ 0
unfolding caller_count
no_callers xs d idle none =
    let sent : count_by (freezes_by_send d) (sendings xs) ≡ 0 = ap (count_by (freezes_by_send d)) (no_sendings xs idle) in
    omega arith

no_sims : (xs : List Event) (a : ℕ) → sum_by (tests.sim_freezes a) xs ≡ 0 → adapter_freezes xs a ≡ 0
unfolding adapter_freezes
no_sims xs a none = omega arith

module _ (c : Topology) (es : List Event) where
  joined : (test : Event → Bool) (xs ys : List Event) → list_all test xs ≡ true → list_all test ys ≡ true → list_all test (xs ++ ys) ≡ true
  joined test xs ys h k = list_all-append test xs ys ∙ and_from _ _ h k

  abbrev opened : List Event
  opened = adjusts c es ++ Tick ∷ []

  all_opened : (test : Event → Bool) → ((d n : ℕ) → test (Adjust d n) ≡ true) → test Tick ≡ true → list_all test opened ≡ true
  all_opened test one tick = joined test (adjusts c es) (Tick ∷ []) (all_made test (adjust_of c es) (of_adjust c es test one) (devices c)) (and_from _ _ tick refl)

  -- before a device's freeze
  unfrozen : (d : ℕ) → caller_count (opened ++ filter_map (device_freeze es) (range_with_len 0 d)) d ≡ 0
  unfolding device_freeze
  unfrozen d =
      let made = filter_map (device_freeze es) (range_with_len 0 d) in
      let idle : list_all is_idle (opened ++ made) ≡ true =
      joined is_idle opened made (all_opened is_idle (λ n k. refl) refl) (all_made is_idle (device_freeze es) (of_device c es is_idle (λ n k. refl)) (range_with_len 0 d)) in
      let one : sum_by (freezes d) opened ≡ 0 = sum_zero (freezes d) opened (all_opened (λ e. freezes d e == 0) (λ n k. refl) refl) in
      let two : sum_by (freezes d) made ≡ 0 = sum_before (freezes d) FreezeDev (caller_count es) d (λ n k. refl) in
      no_callers (opened ++ made) d idle (omega (arith, sum_by-append (freezes d) opened made, one, two))

  -- before an adapter's
  abbrev frozen : List Event
  frozen = opened ++ device_freezes c es

  unfrozen_sim : (a : ℕ) → adapter_freezes (frozen ++ filter_map (adapter_freeze es) (range_with_len 0 a)) a ≡ 0
  unfolding adapter_freeze
  unfrozen_sim a =
      let f = tests.sim_freezes a in
      let made = filter_map (adapter_freeze es) (range_with_len 0 a) in
      let one : sum_by f opened ≡ 0 = sum_zero f opened (all_opened (λ e. f e == 0) (λ n k. refl) refl) in
      let two : sum_by f (device_freezes c es) ≡ 0 = sum_zero f (device_freezes c es) (all_made (λ e. f e == 0) (device_freeze es) (of_device c es (λ e. f e == 0) (λ n k. refl)) (devices c)) in
      let three : sum_by f made ≡ 0 = sum_before f FreezeSim (adapter_freezes es) a (λ n k. refl) in
      no_sims (frozen ++ made) a (omega (arith, sum_by-append f frozen made, sum_by-append f opened (device_freezes c es), one, two, three))

  front_stays : stays_begun (front c es) ≡ []
  unfolding stays_begun
  front_stays = no_stays [] (front c es) (plain_front c es)

-- there are as many as wait
insert_cases : (b : Bool) (x y : Passage) (ys zs : List Passage) → length zs ≡ length ys + 1 → length (cond b (x ∷ y ∷ ys) (y ∷ zs)) ≡ length (y ∷ ys) + 1
insert_cases true x y ys zs h = omega arith
insert_cases false x y ys zs h = omega arith

length-insert_by : (ys : List Passage) (x : Passage) → length (insert_by queue_key ys x) ≡ length ys + 1
length-insert_by [] x = refl
length-insert_by (y ∷ ys) x = insert_cases (is_less (queue_key x) (queue_key y)) x y ys (insert_by queue_key ys x) (length-insert_by ys x)

length-fold : (xs ys : List Passage) → length (fold (insert_by queue_key) ys xs) ≡ length ys + length xs
length-fold [] ys = omega arith
length-fold (x ∷ xs) ys = omega (arith, length-fold xs (insert_by queue_key ys x), length-insert_by ys x)

length-carried : (es : List Event) → length (carried es) ≡ length (waiting es)
unfolding carried
length-carried es = length-fold (waiting es) [] ∙ zero-add (length (waiting es))

length-lefts : (es : List Event) → length (lefts es (carried es)) ≡ length (waiting es)
length-lefts es =
    let one : length (map Some (lefts es (carried es))) ≡ length (map (λ (p : Passage). left_of es p.ccb) (carried es)) = ap length (some-lefts es (carried es) (all_own es)) in
    sym (length-map (lefts es (carried es)) Some) ∙ one ∙ length-map (carried es) (λ (p : Passage). left_of es p.ccb) ∙ length-carried es

-- what is left is in range
less_retries : (c : Topology) (s : Submission) (n : ℕ) → is_in_range c s ≡ true → is_in_range c (record s { retries = s.retries - n }) ≡ true
less_retries c s n h =
    let parts = and_parts (names_device c s.device && nat_le s.priority MAX_PRIORITY) (nat_le s.retries MAX_RETRIES) h in
    let most : s.retries ≤ MAX_RETRIES = leb-true s.retries MAX_RETRIES parts.1 in
    and_from _ _ parts.0 (le-leb (s.retries - n) MAX_RETRIES (omega arith))

left_cases : (c : Topology) (p : Passage) (n : ℕ) (o : Option Submission) → is_some_and (λ (s : Submission). is_in_range c s && is_stay_of p s) o ≡ true →
    option_map_or (is_in_range c) (option_map (λ (s : Submission). record s { retries = s.retries - n }) o) true ≡ true
left_cases c p n None h = refl
left_cases c p n (Some s) h = less_retries c s n (and_parts (is_in_range c s) (is_stay_of p s) h).0

left_range : (c : Topology) (es : List Event) (p : Passage) → is_stay_in_range c es p ≡ true → option_map_or (is_in_range c) (left_of es p.ccb) true ≡ true
unfolding left_of
left_range c es p h = left_cases c p (counted_requeues es p.ccb) (submission es p.ccb) h

kept_cases : (c : Topology) (o : Option Submission) (ss : List Submission) → option_map_or (is_in_range c) o true ≡ true → list_all (is_in_range c) ss ≡ true → list_all (is_in_range c) (cons_option o ss) ≡ true
kept_cases c None ss h rest = rest
kept_cases c (Some s) ss h rest = and_from _ _ h rest

lefts_range : (c : Topology) (es : List Event) (ps : List Passage) → list_all (is_stay_in_range c es) ps ≡ true → list_all (is_in_range c) (lefts es ps) ≡ true
lefts_range c es [] h = refl
lefts_range c es (p ∷ ps) h =
    let parts = and_parts (is_stay_in_range c es p) (list_all (is_stay_in_range c es) ps) h in
    kept_cases c (left_of es p.ccb) (lefts es ps) (left_range c es p parts.0) (lefts_range c es ps parts.1)

carried_range : (old : Rules) (c : Topology) (es : List Event) → is_legal old c es ≡ true → list_all (is_stay_in_range c es) (carried es) ≡ true
unfolding carried waiting
carried_range old c es legal =
    all-sorted (is_stay_in_range c es) (filter (is_unsent es) (stays_begun es)) (list_all-filtered (is_unsent es) (is_stay_in_range c es) (stays_begun es) (stays_in_range old c es legal))

module _ (old : Rules) (limits : Bounds) (c : Topology) (es : List Event) (legal : is_legal old c es ≡ true) (room : HasRoom limits c es) where
  abbrev all : List Submission
  all = lefts es (carried es)

  long : length (front c es) + length (waiting es) ≤ limits.events
  long = omega (arith, room.few_events, ap length (fresh_is c es), length-append (front c es) (map submit all), length-map all submit, length-lefts es)

  front_long : length (front c es) ≤ limits.events
  front_long = omega (arith, long)

  frozen_long : length (frozen c es) ≤ limits.events
  frozen_long = omega (arith, front_long, length-append (frozen c es) (sim_freezes c es))

  opened_long : length (opened c es) ≤ limits.events
  opened_long = omega (arith, frozen_long, length-append (opened c es) (device_freezes c es))

  adjusts_long : length (adjusts c es) ≤ limits.events
  adjusts_long = omega (arith, opened_long, length-append (adjusts c es) (Tick ∷ []))

  adjusts_legal : is_legal (rules limits c) c (adjusts c es) ≡ true
  adjusts_legal =
      legal_numbered limits c (adjust_of c es) [] (length c.devices) (none_legal (rules limits c) c) adjusts_long
      (λ d e lt is. adjust_allowed old limits c es legal (filter_map (adjust_of c es) (range_with_len 0 d)) d e (lt-ltb d (length c.devices) lt) is)

  tick_allowed : is_allowed (rules limits c) c (adjusts c es) Tick ≡ true
  tick_allowed =
      let still : list_all (λ e. cond {A = ℕ} (is_tick e) 1 0 == 0) (adjusts c es) ≡ true =
      all_made (λ e. cond {A = ℕ} (is_tick e) 1 0 == 0) (adjust_of c es) (of_adjust c es (λ e. cond {A = ℕ} (is_tick e) 1 0 == 0) (λ d n. refl)) (devices c) in
      let plain : list_all is_plain (adjusts c es) ≡ true = all_made is_plain (adjust_of c es) (of_adjust c es is_plain (λ d n. refl)) (devices c) in
      let first : round (adjusts c es) ≡ 1 = first_round (adjusts c es) still in
      let lt : round (adjusts c es) < limits.rounds = omega (arith, first, room.two_rounds) in
      and_from _ _ (ap not (no_flight (adjusts c es) plain)) (lt-ltb (round (adjusts c es)) limits.rounds lt)

  opened_legal : is_legal (rules limits c) c (opened c es) ≡ true
  opened_legal = legal_more limits c (adjusts c es) Tick adjusts_legal opened_long tick_allowed

  frozen_legal : is_legal (rules limits c) c (frozen c es) ≡ true
  frozen_legal =
      legal_numbered limits c (device_freeze es) (opened c es) (length c.devices) opened_legal frozen_long
      (λ d e lt is. device_allowed old limits c es legal (opened c es ++ filter_map (device_freeze es) (range_with_len 0 d)) d e (lt-ltb d (length c.devices) lt) (unfrozen c es d) is)

  front_legal : is_legal (rules limits c) c (front c es) ≡ true
  front_legal =
      legal_numbered limits c (adapter_freeze es) (frozen c es) (length c.adapters) frozen_legal front_long
      (λ a e lt is. adapter_allowed old limits c es legal (frozen c es ++ filter_map (adapter_freeze es) (range_with_len 0 a)) a e (lt-ltb a (length c.adapters) lt) (unfrozen_sim c es a) is)

  pub carrying_legal : is_legal (rules limits c) c (carrying c es) ≡ true
  carrying_legal =
      let many = length-lefts es in
      ap (is_legal (rules limits c) c) (fresh_is c es)
      ∙ legal_submits limits c all (front c es) front_legal (lefts_range c es (carried es) (carried_range old c es legal))
      (omega (arith, front_commands c es, many, room.few_ccbs)) (omega (arith, ap length (front_stays c es), many, room.few_stays)) (omega (arith, long, many))

pub room_enough : (old : Rules) (limits : Bounds) (c : Topology) (es : List Event) → is_legal old c es ≡ true → HasRoom limits c es → first_refusal (rules limits c) c (carrying c es) ≡ None
room_enough old limits c es legal room = legal_unrefused (rules limits c) c (carrying c es) (carrying_legal old limits c es legal room)

-- at most an event is carried for each number
pub few_carried : (c : Topology) (es : List Event) → length (carrying c es) ≤ 2 * length c.devices + length c.adapters + 1 + length (waiting es)
few_carried c es =
    let all = lefts es (carried es) in
    omega (
      arith,
      ap length (fresh_is c es),
      length-append (front c es) (map submit all),
      length-map all submit,
      length-lefts es,
      length-append (frozen c es) (sim_freezes c es),
      length-append (opened c es) (device_freezes c es),
      length-append (adjusts c es) (Tick ∷ []),
      length-filter_map (adjust_of c es) (devices c),
      length-filter_map (device_freeze es) (devices c),
      length-filter_map (adapter_freeze es) (adapters c),
      length-range_with_len 0 (length c.devices),
      length-range_with_len 0 (length c.adapters),
    )
