-- what a recording gives a script
use Rattle.std.proofs.Common.{◌≡◌, ℕ, zero, suc, Vec, Global, replicate, sum_by, ◌+◌, ◌≤◌, Bool, true, false, cond, List, [], ◌∷◌, ◌++◌, length, map, fold, refl, sym, ap, ◌∙◌, arith, Option, Some, None, not, ◌&&◌, nat_le, nat_lt}
use Rattle.std.specs.List.{list_all}
use Rattle.std.proofs.lemmas.Bool.{and_parts, and_from, le-leb, ltb-false}
use Rattle.std.proofs.lemmas.List.{length-map, length-replicate}
use Rattle.std.proofs.lemmas.List.Folds.{sum_by-replicate}
use Rattle.std.proofs.lemmas.List.FromFn.{length-range_with_len}
use Rattle.cam_types.specs.Lists.{first_answer, is_less, prefixed, prefixed_after}
use Rattle.cam_types.specs.Questions.{names_device}
use Rattle.cam_types.specs.declared.limits.TheConstants.{MAX_PRIORITY, MAX_ROUNDS}
use Rattle.cam_types.specs.declared.outcome.Outcome.{Outcome}
use Rattle.cam_types.proofs.ListLemmas.{or_left, or_right}
use Rattle.event_rules.specs.Laws.{is_in_range}
use Rattle.event_rules.specs.Sorted.{insert_by}
use Rattle.recording_file.specs.Recorded.{Recorded, plain_cause, request_cause, window_cause}
use Rattle.recording_file.specs.declared.cause.RequestFault.{RequestFault}
use Rattle.recording_file.specs.declared.cause.RequestFault.TheVariants.{NoDevice, BadPriority}
use Rattle.recording_file.specs.declared.request.Request.{Request}
use Rattle.conversions.specs.Arrivals.{Arrival, arrival_by, requested, round_key}
use Rattle.conversions.specs.Faults.{ScriptFault}
use Rattle.conversions.specs.RecordingScript.{config_of, device_at, size_fault}
use Rattle.conversions.specs.declared.fault.ScriptFault.TheVariants.{Rounds, Requests}
use Rattle.trace_file.specs.Scenarios.{is_answer}
use Rattle.trace_file.specs.declared.script_parser.TheConstants.{MAX_ROWS}
use Rattle.trace_file.proofs.ScriptRules.{all_items, few_items}
use Rattle.conversions.proofs.GreatestLemmas.{as_many}
use Rattle.conversions.proofs.HistoryLemmas.{lists}

-- what each element passes, those in order pass
module _ {X : Type 0} (key : X → List ℕ) (p : X → Bool) where
  all_inserted : (ys : List X) (x : X) → p x ≡ true → list_all p ys ≡ true → list_all p (insert_by key ys x) ≡ true
  all_inserted [] x one all = and_from _ _ one refl
  all_inserted (y ∷ ys) x one all =
      let parts = and_parts (p y) (list_all p ys) all in
      elim (is_less (key x) (key y)) as (λ b. list_all p (cond b (x ∷ y ∷ ys) (y ∷ insert_by key ys x)) ≡ true) [
        | true ↦ and_from _ _ one all
        | false ↦ and_from _ _ parts.0 (all_inserted ys x one parts.1)
      ]

  pub all_folded : (ys xs : List X) → list_all p ys ≡ true → list_all p xs ≡ true → list_all p (fold (insert_by key) ys xs) ≡ true
  all_folded ys [] done all = done
  all_folded ys (x ∷ xs) done all = let parts = and_parts (p x) (list_all p xs) all in all_folded (insert_by key ys x) xs (all_inserted ys x parts.0 done) parts.1

  one_longer : (ys : List X) (x : X) → length (insert_by key ys x) ≡ length ys + 1
  one_longer [] x = refl
  one_longer (y ∷ ys) x = elim (is_less (key x) (key y)) as (λ b. length (cond b (x ∷ y ∷ ys) (y ∷ insert_by key ys x)) ≡ length (y ∷ ys) + 1) [
    | true ↦ omega arith
    | false ↦ omega (arith, one_longer ys x)
  ]

  pub as_long : (ys xs : List X) → length (fold (insert_by key) ys xs) ≡ length ys + length xs
  as_long ys [] = omega arith
  as_long ys (x ∷ xs) = omega (arith, as_long (insert_by key ys x) xs, one_longer ys x)

pub requested_many : (qs : List Request) → length (requested qs) ≡ length qs
unfolding requested
requested_many qs = omega (arith, as_long round_key (λ a. true) [] (map arrival_by qs), length-map qs arrival_by)

-- a request of a recording is in range
one_ranged : (r : Recorded) (q : Request) → plain_cause r.rounds r.config q ≡ None → is_in_range (config_of r) (arrival_by q).submission ≡ true
unfolding plain_cause config_of
one_ranged r q h =
    let many = as_many r (device_at r) r.config.devices in
    rw many (elim (names_device r.config q.device) as (λ b. ◌≡◌ {A = Option RequestFault} (cond (not b) (Some NoDevice) (cond (nat_lt MAX_PRIORITY q.priority) (Some BadPriority) (window_cause r.rounds q))) None → (b && nat_le q.priority MAX_PRIORITY && true) ≡ true) [
      | false ↦ λ e. absurd (cc)
      | true ↦ λ e. elim (nat_lt MAX_PRIORITY q.priority) as (λ b. nat_lt MAX_PRIORITY q.priority ≡ b → ◌≡◌ {A = Option RequestFault} (cond b (Some BadPriority) (window_cause r.rounds q)) None → (nat_le q.priority MAX_PRIORITY && true) ≡ true) [
        | true ↦ λ is f. absurd (cc)
        | false ↦ λ is f. rw (le-leb q.priority MAX_PRIORITY (ltb-false MAX_PRIORITY q.priority is)) refl
      ] refl e
    ] h)

all_ranged : (r : Recorded) (before qs : List Request) → first_answer (request_cause r.rounds r.config r.caps) (prefixed_after before qs) ≡ None → list_all (λ (a : Arrival). is_in_range (config_of r) a.submission) (map arrival_by qs) ≡ true
unfolding request_cause
all_ranged r before [] h = refl
all_ranged r before (q ∷ qs) h =
    and_from _ _ (one_ranged r q (or_left (plain_cause r.rounds r.config q) _ (or_left _ (first_answer (request_cause r.rounds r.config r.caps) (prefixed_after (before ++ q ∷ []) qs)) h)))
    (all_ranged r (before ++ q ∷ []) qs (or_right _ (first_answer (request_cause r.rounds r.config r.caps) (prefixed_after (before ++ q ∷ []) qs)) h))

pub requested_ranged : (r : Recorded) → first_answer (request_cause r.rounds r.config r.caps) (prefixed r.requests) ≡ None → list_all (λ (a : Arrival). is_in_range (config_of r) a.submission) (requested r.requests) ≡ true
unfolding requested
requested_ranged r h = all_folded round_key (λ (a : Arrival). is_in_range (config_of r) a.submission) [] (map arrival_by r.requests) refl (all_ranged r [] r.requests h)

-- ---- sizes

pub size_none : (r : Recorded) → size_fault r ≡ None → (r.rounds ≤ MAX_ROUNDS) × (length r.requests ≤ MAX_ROWS)
unfolding size_fault
size_none r h = elim (nat_lt MAX_ROUNDS r.rounds) as (λ b. nat_lt MAX_ROUNDS r.rounds ≡ b → ◌≡◌ {A = Option ScriptFault} (cond b (Some (Rounds r.rounds)) (cond (nat_lt MAX_ROWS (length r.requests)) (Some (Requests (length r.requests))) None)) None → (r.rounds ≤ MAX_ROUNDS) × (length r.requests ≤ MAX_ROWS)) [
  | true ↦ λ is e. absurd (cc)
  | false ↦ λ is e. (
    ltb-false MAX_ROUNDS r.rounds is,
    elim (nat_lt MAX_ROWS (length r.requests)) as (λ b. nat_lt MAX_ROWS (length r.requests) ≡ b → ◌≡◌ {A = Option ScriptFault} (cond b (Some (Requests (length r.requests))) None) None → length r.requests ≤ MAX_ROWS) [
      | true ↦ λ many f. absurd (cc)
      | false ↦ λ few f. ltb-false MAX_ROWS (length r.requests) few
    ] refl e,
  )
] refl h

-- ---- lanes without answers

pub lanes_of : (r : Recorded) → length (config_of r).lanes ≡ length r.config.adapters
unfolding config_of
lanes_of r = length-range_with_len 0 (length r.config.adapters)

pub none_many : (n : ℕ) (vs : List (Vec Outcome Global)) → lists vs ≡ replicate n [] → length vs ≡ n
none_many n vs same = sym (length-map vs (λ (v : Vec Outcome Global). v.items)) ∙ ap length same ∙ length-replicate n []

none_pass : (n : ℕ) → list_all (list_all is_answer) (replicate n []) ≡ true
none_pass zero = refl
none_pass (suc n) = none_pass n

pub none_answer : (n : ℕ) (vs : List (Vec Outcome Global)) → lists vs ≡ replicate n [] → list_all (λ v. list_all is_answer v.items) vs ≡ true
none_answer n vs same = all_items is_answer vs ∙ ap (list_all (list_all is_answer)) same ∙ none_pass n

pub none_few : (n : ℕ) (vs : List (Vec Outcome Global)) → lists vs ≡ replicate n [] → sum_by (λ v. length v.items) vs ≤ MAX_ROWS
none_few n vs same = omega (arith, few_items vs ∙ ap (sum_by length) same ∙ sum_by-replicate length n [])
