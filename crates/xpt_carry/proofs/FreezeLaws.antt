-- the freezes of a transport that goes on
use Rattle.std.proofs.Common.{◌≡◌, ℕ, zero, suc, ◌+◌, ◌≤◌, Bool, true, false, cond, List, [], ◌∷◌, ◌++◌, refl, sym, ap, ◌∙◌, arith, zero-add, Option, Some, None, inl, inr, ◌==◌, nat_lt, filter_map, sum_by, count_by, option_to_list, if◌then◌else◌}
use Rattle.std.specs.List.{list_all, list_any, range_with_len}
use Rattle.std.proofs.lemmas.Bool.{and_parts, or_parts, cases_eq, cases_lt, eq-eqb, ne_eqb, eqb-true, le-ltb, lt-ltb}
use Rattle.std.proofs.lemmas.List.Folds.{list_all-append}
use Rattle.std.proofs.lemmas.List.Sums.{sum_by-append, sum_by-cons}
use Rattle.cam_types.specs.Questions.{names_device, names_adapter}
use Rattle.cam_types.specs.Topology.{Topology}
use Rattle.event_rules.specs.Counts.{caller_count, adapter_freezes, error_count, freeze_count, freezes_by_error, freezes_by_send, sendings, ccbs, is_recovering}
use Rattle.event_rules.specs.Event.{is_erring, freezes, releases, is_sim_release_of, ccb_of}
use Rattle.event_rules.specs.Event as tests
use Rattle.event_rules.proofs.ConcernLaws.{concerns-none}
use Rattle.event_rules.proofs.ListFacts.{filter_map-push, range_with_len-push}
use Rattle.event_rules.proofs.StateLaws.{is_recovering-push}
use Rattle.event_rules.proofs.CcbLaws.{event-induction}
use Rattle.xpt_carry.specs.Carry.{device_freeze, adapter_freeze, submit, carrying, has_case}
use Rattle.xpt_carry.proofs.IdleLemmas.{is_idle, none_is, all_made, of_adjust, of_device, of_adapter, of_submit, all_front, all_carrying, idle_carrying, no_sendings, carrying_is, adjusts, device_freezes, sim_freezes, submits, front}
use Rattle.event_rules.specs.declared.submission.Submission.{Submission}
use Rattle.event_rules.specs.declared.event.Event.{Event}
use Rattle.event_rules.specs.declared.event.Event.TheVariants.{FreezeDev, FreezeSim, Adjust, Tick}

pub sum_zero : (f : Event → ℕ) (xs : List Event) → list_all (λ e. f e == 0) xs ≡ true → sum_by f xs ≡ 0
sum_zero f [] h = refl
sum_zero f (x ∷ xs) h =
    let parts = and_parts (f x == 0) (list_all (λ e. f e == 0) xs) h in
    omega (arith, sum_by-cons f x xs, eqb-true (f x) 0 parts.0, sum_zero f xs parts.1)

-- of freezes made by number, those of one number
module _ (add : Event → ℕ) (make : ℕ → ℕ → Event) (count : ℕ → ℕ) (d : ℕ) (adds : (n k : ℕ) → add (make n k) ≡ cond (n == d) k 0) where
  abbrev made : ℕ → Option Event
  made n = if count n == 0 then None else Some (make n (count n))

  one_cases : (n : ℕ) (t : Bool) → (count n == 0) ≡ t → sum_by add (option_to_list (if t then None else Some (make n (count n)))) ≡ cond (n == d) (count n) 0
  one_cases n true is = sym (nothing (n == d) (count n) (eqb-true (count n) 0 is))
    where
      nothing : (b : Bool) (k : ℕ) → k ≡ 0 → ◌≡◌ {A = ℕ} (cond b k 0) 0
      nothing true k none = none
      nothing false k none = refl
  one_cases n false is = zero-add (add (make n (count n))) ∙ adds n (count n)

  so_far : ℕ → ℕ
  so_far n = sum_by add (filter_map made (range_with_len 0 n))

  so_far_more : (n : ℕ) → so_far (n + 1) ≡ so_far n + cond (n == d) (count n) 0
  unfolding so_far
  so_far_more n =
      ap (λ ks. sum_by add (filter_map made ks)) (range_with_len-push 0 n) ∙ ap (sum_by add) (filter_map-push made (range_with_len 0 n) (0 + n))
      ∙ ap (λ k. sum_by add (filter_map made (range_with_len 0 n) ++ option_to_list (made k))) (zero-add n)
      ∙ sum_by-append add (filter_map made (range_with_len 0 n)) (option_to_list (made n))
      ∙ ap (λ k. sum_by add (filter_map made (range_with_len 0 n)) + k) (one_cases n (count n == 0) refl)

  numbered : (n : ℕ) → so_far n ≡ cond (nat_lt d n) (count d) 0
  unfolding so_far
  numbered zero = rw (le-ltb d 0 (omega arith)) refl
  numbered (suc n) =
      let one : suc n ≡ n + 1 = omega arith in
      let ih = numbered n in
      elim (cases_eq n d) [
        | inl same ↦
            let past : nat_lt d n ≡ false = le-ltb d n (omega arith) in
            let none : so_far n ≡ 0 = ih ∙ ap (λ b. cond b (count d) 0) past in
            let own : ◌≡◌ {A = ℕ} (cond (n == d) (count n) 0) (count d) = ap (λ b. cond b (count n) 0) (eq-eqb n d same) ∙ ap count same in
            let now : nat_lt d (suc n) ≡ true = lt-ltb d (suc n) (omega arith) in
            ap so_far one ∙ so_far_more n ∙ ap (λ k. so_far n + k) own ∙ ap (λ k. k + count d) none ∙ zero-add (count d) ∙ sym (ap (λ b. cond b (count d) 0) now)
        | inr ne ↦
            let own : ◌≡◌ {A = ℕ} (cond (n == d) (count n) 0) 0 = ap (λ b. cond b (count n) 0) (ne_eqb n d ne) in
            let more : so_far (n + 1) ≡ so_far n = omega (arith, so_far_more n, own) in
            ap so_far one ∙ more ∙ ih ∙ ap (λ b. cond b (count d) 0) (next_lt d n (λ e. ne (sym e)))
      ]
    where
      next_lt : (k m : ℕ) → (k ≡ m → ⊥) → nat_lt k m ≡ nat_lt k (suc m)
      next_lt k m ne = elim (cases_lt k m) [
        | inl lt ↦ lt-ltb k m lt ∙ sym (lt-ltb k (suc m) (omega arith))
        | inr le ↦ le-ltb k m le ∙ sym (le-ltb k (suc m) (further le ne))
      ]
        where
          further : m ≤ k → (k ≡ m → ⊥) → suc m ≤ k
          further le ne = omega arith

  -- those of numbers before it are none of it
  pub sum_before : sum_by add (filter_map made (range_with_len 0 d)) ≡ 0
  unfolding so_far
  sum_before = numbered d ∙ ap (λ b. cond b (count d) 0) (le-ltb d d (omega arith))

  pub sum_made : (n : ℕ) → nat_lt d n ≡ true → sum_by add (filter_map made (range_with_len 0 n)) ≡ count d
  unfolding so_far
  sum_made n lt = numbered n ∙ ap (λ b. cond b (count d) 0) lt

-- where events concern no CCB, none recovers
recovers_step : (k : ℕ) (es : List Event) (e : Event) → (list_all is_idle es ≡ true → is_recovering es k ≡ false) → list_all is_idle (es ++ e ∷ []) ≡ true → is_recovering (es ++ e ∷ []) k ≡ false
recovers_step k es e ih h =
    let parts = and_parts (list_all is_idle es) (list_all is_idle (e ∷ [])) (sym (list_all-append is_idle es (e ∷ [])) ∙ h) in
    let one = and_parts (is_idle e) true parts.1 in
    is_recovering-push es e k ∙ ap (λ b. cond b (is_erring e) (is_recovering es k)) (concerns-none e k (none_is (ccb_of e) one.0)) ∙ ih parts.0

recovers_start : (k : ℕ) → is_recovering [] k ≡ false
unfolding is_recovering
recovers_start k = refl

none_recovers : (k : ℕ) (es : List Event) → list_all is_idle es ≡ true → is_recovering es k ≡ false
none_recovers k es = event-induction (λ xs. list_all is_idle xs ≡ true → is_recovering xs k ≡ false) (λ h. recovers_start k) (λ xs e ih. recovers_step k xs e ih) es

module _ (c : Topology) (es : List Event) where
  -- a sum to which only one kind of freezes adds
  sum_parts : (f : Event → ℕ) → sum_by f (carrying c es) ≡ sum_by f (adjusts c es) + f Tick + sum_by f (device_freezes c es) + sum_by f (sim_freezes c es) + sum_by f (submits c es)
  sum_parts f =
      let a = adjusts c es in
      let d = device_freezes c es in
      let s = sim_freezes c es in
      let one : sum_by f (Tick ∷ []) ≡ f Tick = zero-add (f Tick) in
      omega (
        arith,
        ap (sum_by f) (carrying_is c es),
        sum_by-append f (front c es) (submits c es),
        sum_by-append f (a ++ Tick ∷ [] ++ d) s,
        sum_by-append f (a ++ Tick ∷ []) d,
        sum_by-append f a (Tick ∷ []),
        one,
      )

  no_adjusts : (f : Event → ℕ) → ((d n : ℕ) → (f (Adjust d n) == 0) ≡ true) → sum_by f (adjusts c es) ≡ 0
  no_adjusts f h = sum_zero f (adjusts c es) (all_made (λ e. f e == 0) _ (of_adjust c es (λ e. f e == 0) h) _)

  no_devices : (f : Event → ℕ) → ((d n : ℕ) → (f (FreezeDev d n) == 0) ≡ true) → sum_by f (device_freezes c es) ≡ 0
  no_devices f h = sum_zero f (device_freezes c es) (all_made (λ e. f e == 0) _ (of_device c es (λ e. f e == 0) h) _)

  no_adapters : (f : Event → ℕ) → ((a n : ℕ) → (f (FreezeSim a n) == 0) ≡ true) → sum_by f (sim_freezes c es) ≡ 0
  no_adapters f h = sum_zero f (sim_freezes c es) (all_made (λ e. f e == 0) _ (of_adapter c es (λ e. f e == 0) h) _)

  no_submits : (f : Event → ℕ) → ((s : Submission) → (f (submit s) == 0) ≡ true) → sum_by f (submits c es) ≡ 0
  no_submits f h = sum_zero f (submits c es) (all_made (λ e. f e == 0) _ (of_submit c es (λ e. f e == 0) h) _)

  none_of : (f : Event → ℕ) → ((d n : ℕ) → (f (Adjust d n) == 0) ≡ true) → (f Tick == 0) ≡ true → ((d n : ℕ) → (f (FreezeDev d n) == 0) ≡ true) → ((a n : ℕ) → (f (FreezeSim a n) == 0) ≡ true) →
      ((s : Submission) → (f (submit s) == 0) ≡ true) → sum_by f (carrying c es) ≡ 0
  none_of f one tick two three four = sum_zero f (carrying c es) (all_carrying c es (λ e. f e == 0) (all_front c es (λ e. f e == 0) one tick two three) four)

  -- the freezes of a device by callers
  device_sum : (d : ℕ) → names_device c d ≡ true → sum_by (freezes d) (device_freezes c es) ≡ caller_count es d
  unfolding device_freeze
  device_sum d named = sum_made (freezes d) FreezeDev (caller_count es) d (λ n k. refl) _ named

  count_by_callers : (d k : ℕ) → sum_by (freezes d) (carrying c es) ≡ k → count_by (freezes_by_send d) (sendings (carrying c es)) ≡ 0 → sum_by (releases d) (carrying c es) ≡ 0 → caller_count (carrying c es) d ≡ k
  unfolding caller_count
  count_by_callers d k added sent taken = omega arith

  pub callers_kept : (d : ℕ) → names_device c d ≡ true → caller_count (carrying c es) d ≡ caller_count es d
  callers_kept d named =
      let added : sum_by (freezes d) (carrying c es) ≡ caller_count es d =
      omega (
        arith,
        sum_parts (freezes d),
        no_adjusts (freezes d) (λ a n. refl),
        device_sum d named,
        no_adapters (freezes d) (λ a n. refl),
        no_submits (freezes d) (λ s. refl),
      ) in
      let taken : sum_by (releases d) (carrying c es) ≡ 0 = none_of (releases d) (λ a n. refl) refl (λ a n. refl) (λ a n. refl) (λ s. refl) in
      let sent : count_by (freezes_by_send d) (sendings (carrying c es)) ≡ 0 = ap (count_by (freezes_by_send d)) (no_sendings (carrying c es) (idle_carrying c es)) in
      count_by_callers d (caller_count es d) added sent taken

  -- the freezes of an adapter
  adapter_sum : (a : ℕ) → names_adapter c a ≡ true → sum_by (tests.sim_freezes a) (sim_freezes c es) ≡ adapter_freezes es a
  unfolding adapter_freeze
  adapter_sum a named = sum_made (tests.sim_freezes a) FreezeSim (adapter_freezes es) a (λ n k. refl) _ named

  count_of_adapter : (a k : ℕ) → sum_by (tests.sim_freezes a) (carrying c es) ≡ k → count_by (is_sim_release_of a) (carrying c es) ≡ 0 → adapter_freezes (carrying c es) a ≡ k
  unfolding adapter_freezes
  count_of_adapter a k added taken = omega arith

  pub adapters_kept : (a : ℕ) → names_adapter c a ≡ true → adapter_freezes (carrying c es) a ≡ adapter_freezes es a
  adapters_kept a named =
      let added : sum_by (tests.sim_freezes a) (carrying c es) ≡ adapter_freezes es a =
      omega (
        arith,
        sum_parts (tests.sim_freezes a),
        no_adjusts (tests.sim_freezes a) (λ d n. refl),
        no_devices (tests.sim_freezes a) (λ d n. refl),
        adapter_sum a named,
        no_submits (tests.sim_freezes a) (λ s. refl),
      ) in
      let taken : count_by (is_sim_release_of a) (carrying c es) ≡ 0 = none_of (λ e. cond (is_sim_release_of a e) 1 0) (λ d n. refl) refl (λ d n. refl) (λ d n. refl) (λ s. refl) in
      count_of_adapter a (adapter_freezes es a) added taken

  -- no CCB recovers
  pub no_errors : (d : ℕ) → error_count (carrying c es) d ≡ 0
  unfolding error_count
  no_errors d = none_err (ccbs (carrying c es))
    where
      none_err : (ks : List ℕ) → count_by (freezes_by_error (carrying c es) d) ks ≡ 0
      none_err [] = refl
      none_err (k ∷ ks) =
          let here : freezes_by_error (carrying c es) d k ≡ false = rw (none_recovers k (carrying c es) (idle_carrying c es)) refl in
          omega (arith, sum_by-cons (λ n. cond {A = ℕ} (freezes_by_error (carrying c es) d n) 1 0) k ks, none_err ks, ap (λ b. cond {A = ℕ} b 1 0) here)

-- where no CCB waits for a decision, none freezes its device
no_error_cases : (es : List Event) (d : ℕ) (ks : List ℕ) → list_any (is_recovering es) ks ≡ false → count_by (freezes_by_error es d) ks ≡ 0
no_error_cases es d [] h = refl
no_error_cases es d (k ∷ ks) h =
    let parts = or_parts (is_recovering es k) (list_any (is_recovering es) ks) h in
    let here : freezes_by_error es d k ≡ false = rw parts.0 refl in
    omega (arith, sum_by-cons (λ n. cond {A = ℕ} (freezes_by_error es d n) 1 0) k ks, no_error_cases es d ks parts.1, ap (λ b. cond {A = ℕ} b 1 0) here)

no_case_errors : (es : List Event) (d : ℕ) → has_case es ≡ false → error_count es d ≡ 0
unfolding error_count has_case
no_case_errors es d h = no_error_cases es d (ccbs es) h

pub freezes_kept : (c : Topology) (es : List Event) (d : ℕ) → names_device c d ≡ true → has_case es ≡ false → freeze_count (carrying c es) d ≡ freeze_count es d
freezes_kept c es d named none = omega (arith, callers_kept c es d named, no_errors c es d, no_case_errors es d none)
