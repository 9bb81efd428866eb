-- how far the drivers are, after one event more or one row more
use Rattle.std.proofs.Common.{◌≡◌, ◌≢◌, ℕ, ◌+◌, ◌<◌, ◌≤◌, Bool, true, false, List, [], ◌∷◌, ◌++◌, set, refl, sym, ap, ◌∙◌, subst, arith, Some, inl, inr, append-nil, ◌==◌, ◌&&◌, filter, take, slice_get, option_to_list}
use Rattle.std.specs.List.{list_all}
use Rattle.std.proofs.lemmas.Bool.{and_from, ne_eqb, eqb-true}
use Rattle.std.proofs.lemmas.List.Elements.{filter-append}
use Rattle.std.proofs.lemmas.List.Folds.{list_all-append}
use Rattle.sim_worker.specs.Words.{round, Event, Submit, Topology, Scenario, is_ruled, Step}
use Rattle.event_rules.proofs.ListFacts.{filter_map-push}
use Rattle.event_rules.proofs.QueueLaws.{le_test, test_le}
use Rattle.event_rules.proofs.TurnLaws.{round-more}
use Rattle.event_rules.proofs.TestLemmas.{list_all-weaker}
use Rattle.trace_file.specs.declared.step.Step.TheVariants as step
use Rattle.sim_worker.specs.Runs.{is_submit_by, submits, submit_asked, submits_asked, is_over}
use Rattle.sim_worker.specs.Work.{HasDone, AreDriversAt, steps_of, Driver}
use Rattle.sim_worker.proofs.RunListFacts.{get_in_set, take_one}

-- a pause that is over stays so
over_later : (now later : ℕ) → now ≤ later → (one : Step) → is_over now one ≡ true → is_over later one ≡ true
over_later now later le (step.Pause n) h = le_test n later (let reached = test_le n now h in omega arith)
over_later now later le (step.Act e) h = refl

submits-push : (d : ℕ) (es : List Event) (e : Event) → submits d (es ++ e ∷ []) ≡ submits d es ++ filter (is_submit_by d) (e ∷ [])
submits-push d es e = filter-append (is_submit_by d) es (e ∷ [])

-- an event that is no submit of the driver leaves it where it is
pub has_done-other : (steps : List Step) (d : ℕ) (es : List Event) (e : Event) (n : ℕ) → is_submit_by d e ≡ false → HasDone steps d es n → HasDone steps d (es ++ e ∷ []) n
has_done-other steps d es e n none h = record {
  within = h.within;
  submits = submits-push d es e ∙ rw none (append-nil (submits d es)) ∙ h.submits;
  pauses = list_all-weaker (is_over (round es)) (is_over (round (es ++ e ∷ []))) (take n steps) (over_later (round es) (round (es ++ e ∷ [])) (round-more es (e ∷ []))) h.pauses;
}

-- a pause that is over is passed
pub has_done-pause : (steps : List Step) (d : ℕ) (es : List Event) (n r : ℕ) → slice_get steps n ≡ Some (step.Pause r) → r ≤ round es → HasDone steps d es n → HasDone steps d es (n + 1)
has_done-pause steps d es n r there over h =
    let more = take_one steps n (step.Pause r) there in
    record {
      within = omega (arith, more.0);
      submits = h.submits ∙ sym (ap submits_asked more.1 ∙ filter_map-push submit_asked (take n steps) (step.Pause r) ∙ append-nil (submits_asked (take n steps)));
      pauses = ap (list_all (is_over (round es))) more.1 ∙ list_all-append (is_over (round es)) (take n steps) (step.Pause r ∷ []) ∙ and_from _ _ h.pauses (and_from _ _ (le_test r (round es) over) refl);
    }

first_of_four : (a b c d : Bool) → (a && b && c && d) ≡ true → a ≡ true
first_of_four true b c d h = refl
first_of_four false b c d h = absurd (cc)

-- what a driver may ask for is a submit of its own or no submit
asked : (c : Topology) (d : ℕ) (e : Event) → is_ruled c d (step.Act e) ≡ true → filter (is_submit_by d) (e ∷ []) ≡ option_to_list (submit_asked (step.Act e))
asked c d (Submit by device priority retries flags) ruled = rw (first_of_four (by == d) _ _ _ ruled) refl
asked c d _ ruled = refl

-- a call of the driver's next row is one row more that it has done
pub has_done-call : (c : Topology) (steps : List Step) (d : ℕ) (es : List Event) (e : Event) (n : ℕ) → is_ruled c d (step.Act e) ≡ true → slice_get steps n ≡ Some (step.Act e) → HasDone steps d es n → HasDone steps d (es ++ e ∷ []) (n + 1)
has_done-call c steps d es e n ruled there h =
    let more = take_one steps n (step.Act e) there in
    let later = list_all-weaker (is_over (round es)) (is_over (round (es ++ e ∷ []))) (take n steps) (over_later (round es) (round (es ++ e ∷ [])) (round-more es (e ∷ []))) h.pauses in
    record {
      within = omega (arith, more.0);
      submits = submits-push d es e ∙ ap (λ back. submits d es ++ back) (asked c d e ruled) ∙ ap (λ front. front ++ option_to_list (submit_asked (step.Act e))) h.submits ∙ sym (ap submits_asked more.1 ∙ filter_map-push submit_asked (take n steps) (step.Act e));
      pauses = ap (list_all (is_over (round (es ++ e ∷ [])))) more.1 ∙ list_all-append (is_over (round (es ++ e ∷ []))) (take n steps) (step.Act e ∷ []) ∙ and_from _ _ later refl;
    }

-- what a driver may ask for is no submit of another
pub not_by_another : (c : Topology) (d k : ℕ) (e : Event) → is_ruled c d (step.Act e) ≡ true → k ≢ d → is_submit_by k e ≡ false
not_by_another c d k (Submit by device priority retries flags) ruled ne =
    let own = eqb-true by d (first_of_four (by == d) _ _ _ ruled) in
    ne_eqb by k (λ e. ne (sym e ∙ own))
not_by_another c d k _ ruled ne = refl

-- the drivers where one has done a row more, and where none has
pub drivers-call : (s : Scenario) (es : List Event) (e : Event) (ws : List Driver) (d : ℕ) (w new : Driver) → is_ruled s.config d (step.Act e) ≡ true → slice_get ws d ≡ Some w → slice_get (steps_of s d) w.done ≡ Some (step.Act e) → new.done ≡ w.done + 1 →
    AreDriversAt s es ws → AreDriversAt s (es ++ e ∷ []) (set ws d new)
drivers-call s es e ws d w new ruled here there one h = λ k x at. elim (get_in_set ws d k new x at) [
  | inl same ↦ subst (λ n. HasDone (steps_of s n) n (es ++ e ∷ []) x.done) (sym same.0)
      (subst (λ n. HasDone (steps_of s d) d (es ++ e ∷ []) n) (sym (ap (λ (v : Driver). v.done) same.1 ∙ one)) (has_done-call s.config (steps_of s d) d es e w.done ruled there (h d w here)))
  | inr other ↦ has_done-other (steps_of s k) k es e x.done (not_by_another s.config d k e ruled other.0) (h k x other.1)
]

pub drivers-other : (s : Scenario) (es : List Event) (e : Event) (ws : List Driver) → ((d : ℕ) → is_submit_by d e ≡ false) → AreDriversAt s es ws → AreDriversAt s (es ++ e ∷ []) ws
drivers-other s es e ws none h = λ d w there. has_done-other (steps_of s d) d es e w.done (none d) (h d w there)

-- the drivers where one is put further, or marked
pub drivers-set : (s : Scenario) (es : List Event) (ws : List Driver) (d : ℕ) (new : Driver) → HasDone (steps_of s d) d es new.done → AreDriversAt s es ws → AreDriversAt s es (set ws d new)
drivers-set s es ws d new done h = λ k x at. elim (get_in_set ws d k new x at) [
  | inl same ↦ subst (λ n. HasDone (steps_of s n) n es x.done) (sym same.0) (subst (λ n. HasDone (steps_of s d) d es n) (sym (ap (λ (v : Driver). v.done) same.1)) done)
  | inr other ↦ h k x other.1
]

-- there are no other drivers
pub strangers-other : (es : List Event) (e : Event) → ((d : ℕ) → is_submit_by d e ≡ false) → ((d : ℕ) → 8 ≤ d → submits d es ≡ []) → (d : ℕ) → 8 ≤ d → submits d (es ++ e ∷ []) ≡ []
strangers-other es e none h d eight = submits-push d es e ∙ rw (none d) (append-nil (submits d es)) ∙ h d eight

pub strangers-call : (s : Scenario) (es : List Event) (e : Event) (k : ℕ) → is_ruled s.config k (step.Act e) ≡ true → k < 8 → ((d : ℕ) → 8 ≤ d → submits d es ≡ []) → (d : ℕ) → 8 ≤ d → submits d (es ++ e ∷ []) ≡ []
strangers-call s es e k ruled lt h d eight = submits-push d es e ∙ rw (not_by_another s.config k d e ruled (λ same. omega arith)) (append-nil (submits d es)) ∙ h d eight
