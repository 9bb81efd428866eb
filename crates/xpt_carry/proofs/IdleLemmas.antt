-- events that concern no CCB, and those among them that submit none
use Rattle.std.proofs.Common.{◌≡◌, ℕ, Bool, true, false, cond, List, [], ◌∷◌, ◌++◌, refl, ap, ◌∙◌, arith, Option, Some, None, is_none, ◌==◌, ◌&&◌, filter_map, count_by, if◌then◌else◌, option_map}
use Rattle.std.specs.List.{list_all, cons_option}
use Rattle.std.specs.Option.{option_map_or}
use Rattle.std.proofs.lemmas.Bool.{and_parts, and_from}
use Rattle.std.proofs.lemmas.List.Folds.{list_all-append}
use Rattle.std.proofs.lemmas.List.Sums.{sum_by-cons}
use Rattle.cam_types.specs.Lists.{prefixed_after}
use Rattle.cam_types.specs.Questions.{device_openings, devices}
use Rattle.cam_types.specs.Topology.{Topology}
use Rattle.event_rules.specs.Counts.{caller_count, adapter_freezes, sending_of, is_counted_requeue, counted_requeues, sendings}
use Rattle.event_rules.specs.Event.{submission_of, ccb_of}
use Rattle.event_rules.specs.Stays.{stay_begun, waiting, stays_begun}
use Rattle.event_rules.proofs.ConcernLaws.{concerns-none, apart}
use Rattle.xpt_core.specs.Device.{next_openings}
use Rattle.xpt_core.specs.Known.{adapters}
use Rattle.xpt_carry.specs.Carry.{adjust_of, device_freeze, adapter_freeze, submit, submit_of, left_of, carried, carrying}
use Rattle.event_rules.specs.declared.submission.Submission.{Submission}
use Rattle.event_rules.specs.declared.event.Event.{Event}
use Rattle.event_rules.specs.declared.passage.Passage.{Passage}
use Rattle.event_rules.specs.declared.event.Event.TheVariants.{Submit, Send, Requeue, FreezeDev, FreezeSim, Adjust, Tick}

-- it concerns no CCB; it doesn't submit one either
abbrev pub is_idle : Event → Bool
is_idle e = is_none (ccb_of e)

abbrev pub is_plain : Event → Bool
is_plain e = is_none (submission_of e) && is_none (ccb_of e)

pub none_is : {X : Type 0} (o : Option X) → is_none o ≡ true → o ≡ None
none_is None h = refl
none_is (Some x) h = absurd (cc)

-- what holds of each event that is found holds of all
module _ {X Y : Type 0} (test : Y → Bool) (f : X → Option Y) where
  made_cases : (o : Option Y) (ys : List Y) → option_map_or test o true ≡ true → list_all test ys ≡ true → list_all test (cons_option o ys) ≡ true
  made_cases None ys h rest = rest
  made_cases (Some y) ys h rest = and_from _ _ h rest

  pub all_made : ((x : X) → option_map_or test (f x) true ≡ true) → (xs : List X) → list_all test (filter_map f xs) ≡ true
  all_made h [] = refl
  all_made h (x ∷ xs) = made_cases (f x) (filter_map f xs) (h x) (all_made h xs)

module _ (c : Topology) (es : List Event) where
  -- each kind of event that is carried
  pub of_adjust : (test : Event → Bool) → ((d n : ℕ) → test (Adjust d n) ≡ true) → (d : ℕ) → option_map_or test (adjust_of c es d) true ≡ true
  unfolding adjust_of
  of_adjust test h d = elim (next_openings c es d == device_openings c d) as (λ b. option_map_or test (if b then None else Some (Adjust d (next_openings c es d))) true ≡ true) [
    | true ↦ refl
    | false ↦ h d (next_openings c es d)
  ]

  pub of_device : (test : Event → Bool) → ((d n : ℕ) → test (FreezeDev d n) ≡ true) → (d : ℕ) → option_map_or test (device_freeze es d) true ≡ true
  unfolding device_freeze
  of_device test h d = elim (caller_count es d == 0) as (λ b. option_map_or test (if b then None else Some (FreezeDev d (caller_count es d))) true ≡ true) [
    | true ↦ refl
    | false ↦ h d (caller_count es d)
  ]

  pub of_adapter : (test : Event → Bool) → ((a n : ℕ) → test (FreezeSim a n) ≡ true) → (a : ℕ) → option_map_or test (adapter_freeze es a) true ≡ true
  unfolding adapter_freeze
  of_adapter test h a = elim (adapter_freezes es a == 0) as (λ b. option_map_or test (if b then None else Some (FreezeSim a (adapter_freezes es a))) true ≡ true) [
    | true ↦ refl
    | false ↦ h a (adapter_freezes es a)
  ]

  submit_cases : (test : Event → Bool) → ((s : Submission) → test (submit s) ≡ true) → (o : Option Submission) → option_map_or test (option_map submit o) true ≡ true
  submit_cases test h None = refl
  submit_cases test h (Some s) = h s

  pub of_submit : (test : Event → Bool) → ((s : Submission) → test (submit s) ≡ true) → (p : Passage) → option_map_or test (submit_of es p) true ≡ true
  unfolding submit_of
  of_submit test h p = submit_cases test h (left_of es p.ccb)

  -- the events by their kinds
  abbrev pub adjusts : List Event
  adjusts = filter_map (adjust_of c es) (devices c)

  abbrev pub device_freezes : List Event
  device_freezes = filter_map (device_freeze es) (devices c)

  abbrev pub sim_freezes : List Event
  sim_freezes = filter_map (adapter_freeze es) (adapters c)

  abbrev pub submits : List Event
  submits = filter_map (submit_of es) (carried es)

  -- those before the submits
  abbrev pub front : List Event
  front = adjusts ++ Tick ∷ [] ++ device_freezes ++ sim_freezes

  pub carrying_is : carrying c es ≡ front ++ submits
  unfolding carrying
  carrying_is = refl

  -- what each kind passes they all pass
  pub all_front : (test : Event → Bool) → ((d n : ℕ) → test (Adjust d n) ≡ true) → test Tick ≡ true → ((d n : ℕ) → test (FreezeDev d n) ≡ true) → ((a n : ℕ) → test (FreezeSim a n) ≡ true) →
      list_all test front ≡ true
  all_front test one tick two three =
      let a = all_made test (adjust_of c es) (of_adjust test one) (devices c) in
      let t : list_all test (Tick ∷ []) ≡ true = and_from _ _ tick refl in
      let d = all_made test (device_freeze es) (of_device test two) (devices c) in
      let s = all_made test (adapter_freeze es) (of_adapter test three) (adapters c) in
      joined (adjusts ++ Tick ∷ [] ++ device_freezes) sim_freezes (joined (adjusts ++ Tick ∷ []) device_freezes (joined adjusts (Tick ∷ []) a t) d) s
    where
      joined : (xs ys : List Event) → list_all test xs ≡ true → list_all test ys ≡ true → list_all test (xs ++ ys) ≡ true
      joined xs ys h k = list_all-append test xs ys ∙ and_from _ _ h k

  pub all_carrying : (test : Event → Bool) → list_all test front ≡ true → ((s : Submission) → test (submit s) ≡ true) → list_all test (carrying c es) ≡ true
  all_carrying test before each =
      ap (list_all test) carrying_is ∙ list_all-append test front submits ∙ and_from _ _ before (all_made test (submit_of es) (of_submit test each) (carried es))

  pub plain_front : list_all is_plain front ≡ true
  plain_front = all_front is_plain (λ d n. refl) refl (λ d n. refl) (λ a n. refl)

  pub idle_carrying : list_all is_idle (carrying c es) ≡ true
  idle_carrying = all_carrying is_idle (all_front is_idle (λ d n. refl) refl (λ d n. refl) (λ a n. refl)) (λ s. refl)

-- plain events submit nothing and begin no stay
pub no_submissions : (xs : List Event) → list_all is_plain xs ≡ true → filter_map submission_of xs ≡ []
no_submissions [] h = refl
no_submissions (x ∷ xs) h =
    let parts = and_parts (is_plain x) (list_all is_plain xs) h in
    let none = none_is (submission_of x) (and_parts (is_none (submission_of x)) (is_none (ccb_of x)) parts.0).0 in
    rw none (no_submissions xs parts.1)

begins_none : (before : List Event) (e : Event) → is_plain e ≡ true → stay_begun (before, e) ≡ None
begins_none before (Submit driver device priority retries flags) h = absurd (cc)
begins_none before (Requeue ccb) h = absurd (cc)
begins_none before _ h = refl

pub no_stays : (before xs : List Event) → list_all is_plain xs ≡ true → filter_map stay_begun (prefixed_after before xs) ≡ []
no_stays before [] h = refl
no_stays before (x ∷ xs) h =
    let parts = and_parts (is_plain x) (list_all is_plain xs) h in
    rw (begins_none before x parts.0) (no_stays (before ++ x ∷ []) xs parts.1)

pub none_wait : (xs : List Event) → list_all is_plain xs ≡ true → waiting xs ≡ []
unfolding waiting stays_begun
none_wait xs h = rw (no_stays [] xs h) refl

-- idle events send nothing and requeue nothing, and nothing recovers
sends_none : (before : List Event) (e : Event) → is_idle e ≡ true → sending_of (before, e) ≡ None
sends_none before (Send lane ccb) h = absurd (cc)
sends_none before _ h = refl

no_sends_after : (before xs : List Event) → list_all is_idle xs ≡ true → filter_map sending_of (prefixed_after before xs) ≡ []
no_sends_after before [] h = refl
no_sends_after before (x ∷ xs) h =
    let parts = and_parts (is_idle x) (list_all is_idle xs) h in
    rw (sends_none before x parts.0) (no_sends_after (before ++ x ∷ []) xs parts.1)

pub no_sendings : (xs : List Event) → list_all is_idle xs ≡ true → sendings xs ≡ []
unfolding sendings
no_sendings xs h = no_sends_after [] xs h

no_requeues : (k : ℕ) (before xs : List Event) → list_all is_idle xs ≡ true → count_by (is_counted_requeue k) (prefixed_after before xs) ≡ 0
no_requeues k before [] h = refl
no_requeues k before (x ∷ xs) h =
    let parts = and_parts (is_idle x) (list_all is_idle xs) h in
    let off = (apart k x (concerns-none x k (none_is (ccb_of x) parts.0))).requeue in
    let here : is_counted_requeue k (before, x) ≡ false = rw off refl in
    omega (
      arith,
      sum_by-cons (λ m. cond {A = ℕ} (is_counted_requeue k m) 1 0) (before, x) (prefixed_after (before ++ x ∷ []) xs),
      no_requeues k (before ++ x ∷ []) xs parts.1,
      ap (λ b. cond {A = ℕ} b 1 0) here,
    )

pub none_counted : (xs : List Event) (k : ℕ) → list_all is_idle xs ≡ true → counted_requeues xs k ≡ 0
unfolding counted_requeues
none_counted xs k h = no_requeues k [] xs h
