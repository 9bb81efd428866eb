-- what a legal list submits is within the ranges, and so are its stays
use Rattle.std.proofs.Common.{zero, suc, ◌≡◌, ℕ, Bool, true, List, [], ◌∷◌, ◌++◌, refl, append-nil, Some, None, slice_get, ◌&&◌, nat_le}
use Rattle.std.specs.List.{list_all}
use Rattle.std.proofs.lemmas.Bool.{and_parts, and_from}
use Rattle.std.proofs.lemmas.List.Folds.{list_all-append}
use Rattle.cam_types.specs.Topology.{Topology}
use Rattle.cam_types.specs.declared.flags.Flags.{Flags}
use Rattle.cam_types.specs.declared.limits.TheConstants.{MAX_PRIORITY, MAX_RETRIES}
use Rattle.event_rules.specs.Event.{is_some_and, Event, Submit}
use Rattle.event_rules.specs.Counts.{submissions, submission, Submission}
use Rattle.event_rules.specs.Stays.{stays_begun, Passage}
use Rattle.event_rules.proofs.PushLaws.{submissions-push}
use Rattle.cam_types.specs.Questions.{names_device}
use Rattle.event_rules.specs.Legal.{Rules, has_ccb, has_stay, is_legal_event, is_legal}
use Rattle.event_rules.specs.Laws.{is_in_range, is_stay_of, is_stay_in_range}
use Rattle.event_rules.proofs.TestLemmas.{list_all-weaker}
use Rattle.event_rules.proofs.LawLemmas.{allowed-legal_event}
use Rattle.event_rules.proofs.LimitLemmas.{legal-induction}
use Rattle.event_rules.proofs.StayLemmas.{is_of_its_ccb, of_its_ccb-stays_begun}

pub range_submit : (rules : Rules) (c : Topology) (before : List Event) (driver device priority retries : ℕ) (flags : Flags) → is_legal_event rules c (before, Submit driver device priority retries flags) ≡ true → (names_device c device && nat_le priority MAX_PRIORITY && nat_le retries MAX_RETRIES) ≡ true
range_submit rules c before driver device priority retries flags legal =
    let asked = (allowed-legal_event rules c before (Submit driver device priority retries flags) legal).1 in
    let named = names_device c device && nat_le priority MAX_PRIORITY && nat_le retries MAX_RETRIES in
    (and_parts named (has_ccb rules before) (and_parts (named && has_ccb rules before) (has_stay rules before) asked).0).0

-- one more in range keeps all in range
in_range_push : (c : Topology) (xs : List Submission) (s : Submission) → list_all (is_in_range c) xs ≡ true → is_in_range c s ≡ true → list_all (is_in_range c) (xs ++ s ∷ []) ≡ true
in_range_push c xs s all one = rw list_all-append (and_from _ _ all (and_from _ _ one refl))

range_step : (rules : Rules) (c : Topology) (before : List Event) (event : Event) → is_legal_event rules c (before, event) ≡ true → list_all (is_in_range c) (submissions before) ≡ true → list_all (is_in_range c) (submissions (before ++ event ∷ [])) ≡ true
range_step rules c before (Submit driver device priority retries flags) legal h =
    rw submissions-push (in_range_push c (submissions before) (record { driver = driver; device = device; priority = priority; retries = retries; flags = flags }) h (range_submit rules c before driver device priority retries flags legal))
range_step rules c before _ legal h = rw submissions-push (rw (append-nil (submissions before)) h)

pub submissions_in_range : (rules : Rules) (c : Topology) (events : List Event) → is_legal rules c events ≡ true → list_all (is_in_range c) (submissions events) ≡ true
unfolding is_legal submissions
submissions_in_range rules c events legal = legal-induction rules c (λ es. list_all (is_in_range c) (submissions es) ≡ true) (range_step rules c) [] events legal refl

-- what each element passes, one that is got does
pub passes-slice_get : {X : Type 0} → (p : X → Bool) (xs : List X) (i : ℕ) (x : X) → list_all p xs ≡ true → slice_get xs i ≡ Some x → p x ≡ true
passes-slice_get p [] i x all e = absurd cc
passes-slice_get p (y ∷ ys) zero x all e =
    let same : y ≡ x = cc in
    rw (← same) (and_parts (p y) (list_all p ys) all).0
passes-slice_get p (y ∷ ys) (suc i) x all e = passes-slice_get p ys i x (and_parts (p y) (list_all p ys) all).1 e

stay_range : (c : Topology) (events : List Event) → list_all (is_in_range c) (submissions events) ≡ true → (p : Passage) → is_of_its_ccb events p ≡ true → is_stay_in_range c events p ≡ true
stay_range c events all p own = elim (submission events p.ccb) as (λ o. submission events p.ccb ≡ o → is_some_and (is_stay_of p) o ≡ true → is_some_and (λ (s : Submission). is_in_range c s && is_stay_of p s) o ≡ true) [
  | None ↦ λ e g. g
  | Some s ↦ λ e g. and_from _ _ (passes-slice_get (is_in_range c) (submissions events) p.ccb s all e) g
] refl own

pub stays_in_range : (rules : Rules) (c : Topology) (events : List Event) → is_legal rules c events ≡ true → list_all (is_stay_in_range c events) (stays_begun events) ≡ true
stays_in_range rules c events legal =
    list_all-weaker (is_of_its_ccb events) (is_stay_in_range c events) (stays_begun events) (stay_range c events (submissions_in_range rules c events legal)) (of_its_ccb-stays_begun events)
