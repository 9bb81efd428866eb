-- stays that wait are of CCBs that are alive, and what is known of these says what is left of them
use Rattle.std.proofs.Common.{◌≡◌, ℕ, ◌≤◌, Bool, true, false, cond, List, [], ◌∷◌, refl, ap, arith, Option, Some, None, not, ◌==◌, ◌-◌, nat_lt, count_by, All, IsTrue, option_map}
use Rattle.std.specs.List.{list_all, list_any}
use Rattle.std.proofs.lemmas.Bool.{and_parts, and_from, eq-eqb}
use Rattle.std.proofs.lemmas.List.Sums.{sum_by-cons, AllPass-from_list_all}
use Rattle.cam_types.specs.Topology.{Topology}
use Rattle.event_rules.specs.Counts.{commands, submission, counted_requeues}
use Rattle.event_rules.specs.Event.{ends}
use Rattle.event_rules.specs.Legal.{Rules, is_legal}
use Rattle.event_rules.specs.Stays.{waiting}
use Rattle.event_rules.proofs.StandLemmas.{IsPlaced, is_held, states-legal}
use Rattle.event_rules.proofs.TotalLaws.{unsent_count}
use Rattle.xpt_core.specs.Ccbs.{is_alive, ccb_by, alive_ccb}
use Rattle.xpt_core.proofs.EntryLemmas.{all-sorted}
use Rattle.xpt_carry.specs.Carry.{left_of, submit, submit_of, carried}
use Rattle.xpt_carry.specs.Submits.{submit_by}
use Rattle.event_rules.specs.declared.submission.Submission.{Submission}
use Rattle.event_rules.specs.declared.event.Event.{Event}
use Rattle.event_rules.specs.declared.passage.Passage.{Passage}
use Rattle.xpt_core.specs.declared.ccbs.ccb.Ccb.{Ccb}

-- what holds of each number of which there is a stay holds of all stays
each_number : (test : ℕ → Bool) (ps : List Passage) → ((n : ℕ) → 1 ≤ count_by (λ (p : Passage). p.ccb == n) ps → test n ≡ true) → list_all (λ (p : Passage). test p.ccb) ps ≡ true
each_number test [] h = refl
each_number test (p ∷ ps) h =
    let me : ◌≡◌ {A = ℕ} (cond (p.ccb == p.ccb) 1 0) 1 = ap (λ b. cond {A = ℕ} b 1 0) (eq-eqb p.ccb p.ccb refl) in
    and_from _ _ (h p.ccb (omega (arith, me, sum_by-cons (λ (q : Passage). cond {A = ℕ} (q.ccb == p.ccb) 1 0) p ps)))
    (each_number test ps (λ n le. h n (omega (arith, le, sum_by-cons (λ (q : Passage). cond {A = ℕ} (q.ccb == n) 1 0) p ps))))

one_is : (b : Bool) → 1 ≤ cond {A = ℕ} b 1 0 → b ≡ true
one_is true le = refl
one_is false le = absurd (omega arith)

unsent_alive : (es : List Event) (n : ℕ) → IsPlaced es n → 1 ≤ unsent_count es n → is_alive es n ≡ true
unsent_alive es n h some =
    let place = h.place in
    (and_parts (nat_lt n (commands es)) (not (list_any (ends n) es)) (one_is (is_held es n) (omega arith))).1

pub carried_alive : (rules : Rules) (c : Topology) (es : List Event) → is_legal rules c es ≡ true → All (λ (p : Passage). IsTrue (is_alive es p.ccb)) (carried es)
unfolding carried
carried_alive rules c es legal =
    let states = states-legal rules c es legal in
    AllPass-from_list_all (λ (p : Passage). is_alive es p.ccb) _
    (all-sorted (λ (p : Passage). is_alive es p.ccb) (waiting es) (each_number (is_alive es) (waiting es) (λ n le. unsent_alive es n (states.placed n) le)))

-- the submit of what is left of a CCB, by its row
some_cases : (es : List Event) (n : ℕ) (a : Bool) (o : Option Submission) (row : Ccb) → submission es n ≡ o → cond a (option_map (ccb_by es n) o) None ≡ Some row →
    option_map submit (option_map (λ (s : Submission). record s { retries = s.retries - counted_requeues es n }) (submission es n)) ≡ Some (submit_by row)
some_cases es n true (Some s) row is h = let same : ccb_by es n s ≡ row = cc in rw is (ap (λ (r : Ccb). Some (submit_by r)) same)
some_cases es n true None row is h = absurd (cc)
some_cases es n false o row is h = absurd (cc)

pub submit_some : (es : List Event) (p : Passage) (row : Ccb) → alive_ccb es p.ccb ≡ Some row → submit_of es p ≡ Some (submit_by row)
unfolding alive_ccb submit_of left_of
submit_some es p row h = some_cases es p.ccb (is_alive es p.ccb) (submission es p.ccb) row refl h

none_cases : (es : List Event) (n : ℕ) (a : Bool) (o : Option Submission) → a ≡ true → submission es n ≡ o → ◌≡◌ {A = Option Ccb} (cond a (option_map (ccb_by es n) o) None) None →
    ◌≡◌ {A = Option Event} (option_map submit (option_map (λ (s : Submission). record s { retries = s.retries - counted_requeues es n }) (submission es n))) None
none_cases es n true None lives is h = rw is refl
none_cases es n true (Some s) lives is h = absurd (cc)
none_cases es n false o lives is h = absurd (cc)

pub submit_none : (es : List Event) (p : Passage) → is_alive es p.ccb ≡ true → alive_ccb es p.ccb ≡ None → submit_of es p ≡ None
unfolding alive_ccb submit_of left_of
submit_none es p lives h = none_cases es p.ccb (is_alive es p.ccb) (submission es p.ccb) lives refl h
