-- a run of the script isn't called another
use Rattle.std.proofs.Common.{◌≡◌, ℕ, zero, suc, ◌+◌, ◌<◌, ◌≤◌, Bool, true, List, [], ◌∷◌, ◌++◌, length, refl, sym, ap, ◌∙◌, subst, arith, Some, inl, inr, append-nil, append_assoc, take, drop, slice_get}
use Rattle.std.specs.List.{list_all}
use Rattle.std.proofs.lemmas.Bool.{and_parts}
use Rattle.std.proofs.lemmas.List.Folds.{list_all-append}
use Rattle.cam_types.proofs.ListLemmas.{prefixed-push}
use Rattle.event_rules.proofs.LimitLemmas.{legal-front}
use Rattle.sim_worker.specs.Words.{Event, Held, Past, Receipt, Scenario, Step, Tick, is_legal, prefixed, round, rules_of}
use Rattle.sim_worker.specs.Endings.{Ending, Drained, RoundsFull, HistoryFull}
use Rattle.sim_worker.specs.Faults.{IsFailing, IsNoRun, LiveFault, Mismatch, NoThread, OutOfMemory, Unnamed}
use Rattle.sim_worker.specs.LiveRuns.{EachLog, IsLiveEnding, IsLiveRun, IsLog, is_full, rows}
use Rattle.sim_worker.specs.Logs.{IsDriverLog, Rests, StandsAt, made_before}
use Rattle.sim_worker.specs.Ports.{Served}
use Rattle.sim_worker.specs.Runs.{are_ticks_in_time, is_in_time}
use Rattle.sim_worker.specs.Walks.{IsFollowedTo}
use Rattle.sim_worker.proofs.ListFacts.{take_and_drop}

-- ---- what went by the script went so from the first event on

-- the first of the first elements
take_less : {X : Type 0} → (xs : List X) (k n : ℕ) → k ≤ n → take k (take n xs) ≡ take k xs
take_less [] zero zero le = refl
take_less [] zero (suc n) le = refl
take_less [] (suc k) zero le = absurd (omega arith)
take_less [] (suc k) (suc n) le = refl
take_less (x ∷ xs) zero zero le = refl
take_less (x ∷ xs) zero (suc n) le = refl
take_less (x ∷ xs) (suc k) zero le = absurd (omega arith)
take_less (x ∷ xs) (suc k) (suc n) le = ap (λ zs. x ∷ zs) (take_less xs k n (omega arith))

taken_at : {X : Type 0} → (xs : List X) (n k : ℕ) (x : X) → slice_get (take n xs) k ≡ Some x → (k < n) × (k < length xs) × (slice_get xs k ≡ Some x)
taken_at [] zero k x at = absurd (cc)
taken_at [] (suc n) k x at = absurd (cc)
taken_at (y ∷ ys) zero k x at = absurd (cc)
taken_at (y ∷ ys) (suc n) zero x at = (omega arith, omega arith, at)
taken_at (y ∷ ys) (suc n) (suc k) x at = let rest = taken_at ys n k x at in (omega (arith, rest.0), omega (arith, rest.1), rest.2)

few_taken : {X : Type 0} → (xs : List X) (n k : ℕ) → k < length (take n xs) → (k < n) × (k < length xs)
few_taken [] zero k lt = absurd (omega arith)
few_taken [] (suc n) k lt = absurd (omega arith)
few_taken (y ∷ ys) zero k lt = absurd (omega arith)
few_taken (y ∷ ys) (suc n) zero lt = (omega arith, omega arith)
few_taken (y ∷ ys) (suc n) (suc k) lt = let rest = few_taken ys n k (omega arith) in (omega (arith, rest.0), omega (arith, rest.1))

front_in_time : (p : List Event × Event → Bool) (front back : List Event) → list_all p (prefixed (front ++ back)) ≡ true → list_all p (prefixed front) ≡ true
front_in_time p front [] h = ap (λ es. list_all p (prefixed es)) (sym (append-nil front)) ∙ h
front_in_time p front (e ∷ back) h =
    let more = front_in_time p (front ++ e ∷ []) back (ap (λ es. list_all p (prefixed es)) (append_assoc front (e ∷ []) back) ∙ h) in
    (and_parts (list_all p (prefixed front)) (list_all p ((front, e) ∷ [])) (sym (ap (list_all p) (prefixed-push front e) ∙ list_all-append p (prefixed front) ((front, e) ∷ [])) ∙ more)).0

front_log : (s : Scenario) (steps : List Step) (log : List Receipt) (events : List Event) (n : ℕ) → IsDriverLog s steps log events → IsDriverLog s steps log (take n events)
front_log s steps log events n h = record {
  follows = λ j r at lt.
      let few = few_taken events n r.at lt in
      let known = h.follows j r at few.1 in
      (known.0, subst (λ es. StandsAt steps (made_before r.at log) (round es) known.0) (sym (take_less events r.at n (omega (arith, few.0)))) known.1, known.2);
  rests = λ k at.
      let there = taken_at events n k Tick at in
      subst (Rests s steps log) (sym (take_less events k n (omega (arith, there.0)))) (h.rests k there.2);
}

front_followed : (s : Scenario) (events : List Event) (logs : List Held) (n : ℕ) → IsFollowedTo s events logs → IsFollowedTo s (take n events) logs
front_followed s events logs n h = record {
  drivers = λ i log at d name. front_log s (rows s d) log.receipts events n (h.drivers i log at d name);
  legal = legal-front (rules_of s.limits) s.config (take n events) (drop n events) (ap (is_legal (rules_of s.limits) s.config) (take_and_drop events n) ∙ h.legal);
  ticks = front_in_time (is_in_time s.config s.limits) (take n events) (drop n events) (ap (are_ticks_in_time s.config s.limits) (take_and_drop events n) ∙ h.ticks);
}

-- ---- one ending fits

one_ending : (s : Scenario) (events : List Event) (logs : List Held) (a b : Ending) → IsLiveEnding s events logs a → IsLiveEnding s events logs b → a ≡ b
one_ending s events logs Drained Drained h k = refl
one_ending s events logs Drained RoundsFull h k = absurd (k.0 h)
one_ending s events logs Drained HistoryFull h k = absurd (k.0 h)
one_ending s events logs RoundsFull Drained h k = absurd (h.0 k)
one_ending s events logs RoundsFull RoundsFull h k = refl
one_ending s events logs RoundsFull HistoryFull h k = absurd (let room = h.1.2 in let full = k.1 in omega arith)
one_ending s events logs HistoryFull Drained h k = absurd (h.0 k)
one_ending s events logs HistoryFull RoundsFull h k = absurd (let room = k.1.2 in let full = h.1 in omega arith)
one_ending s events logs HistoryFull HistoryFull h k = refl

-- ---- a run

whole : (s : Scenario) (h : Past) (logs : List Held) (served : List (List Served)) (stated : Ending) → IsLiveRun s h logs served stated → IsFollowedTo s h.events logs
whole s h logs served stated run = record {
  drivers = λ i log at d name. subst (λ n. IsLog s h.events served (is_full stated) n log) name (run.each i log at);
  legal = run.legal;
  ticks = run.ticks;
}

not_failing : (s : Scenario) (h : Past) (logs : List Held) (served : List (List Served)) (place : ℕ) (stated : Ending) → IsFailing s h logs served place → IsLiveRun s h logs served stated → ⊥
not_failing s h logs served place stated fails run = elim fails [
  | inl (inl unfit) ↦ unfit.not_here (front_followed s h.events logs (place + 1) (whole s h logs served stated run))
  | inl (inr last) ↦ last.1.not_over stated run.over
  | inr (last, inl other) ↦ other (run.config, run.names)
  | inr (last, inr apart) ↦
      let same : stated ≡ apart.stated = one_ending s h.events logs stated apart.stated run.over apart.followed.over in
      apart.not_served (subst (λ it. EachLog (λ log. IsLog s h.events served (is_full it) log.name log) logs) same run.each)
]

-- a run has no fault but that there is no memory
pub run_is_right : (s : Scenario) (h : Past) (logs : List Held) (served : List (List Served)) (fault : LiveFault) → IsNoRun s h logs served fault → (stated : Ending) → IsLiveRun s h logs served stated → fault ≡ OutOfMemory
run_is_right s h logs served OutOfMemory why stated run = refl
run_is_right s h logs served NoThread why stated run = absurd why
run_is_right s h logs served (Mismatch r) why stated run = absurd (not_failing s h logs served r.at stated why.1 run)
run_is_right s h logs served (Unnamed first) why stated run = absurd (not_failing s h logs served 0 stated why.2 run)
