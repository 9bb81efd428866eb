-- the spare starts of a device
use Rattle.std.proofs.Common.{◌≡◌, ℕ, zero, suc, ◌+◌, ◌<◌, ◌≤◌, ◌&&◌, true, false, cond, min, List, [], ◌∷◌, map, refl, ap, subst, ◌∙◌, arith, inl, inr, nat_lt, nat_le, ◌⊎◌}
use Rattle.std.proofs.Math.Path.{fun_ext}
use Rattle.std.specs.List.{All, Contains, flat_map, range_with_len}
use Rattle.std.proofs.lemmas.Bool.{cases_lt, le-leb, lt-leb, lt-ltb, le-ltb}
use Rattle.slots.specs.Spans.{Span, covers}
use Rattle.slots.specs.Flights.{Flight, in_flight}
use Rattle.slots.specs.Gaps.{Wait, span_waited, waiting, last_start, has_gap, spare_of, spare_starts, round_at}
use Rattle.slots.specs.Changes.{Change, lowest_idle, level_at, AreChanges, IsOver, spare_by, AreInRounds}
use Rattle.slots.specs.Tallies.{Clock, IsTally}
use Rattle.std.proofs.lemmas.List.Elements.{All-contains}
use Rattle.std.proofs.lemmas.List.Sums.{sum_by-cons}
use Rattle.slots.proofs.ListLemmas.{each_within}
use Rattle.slots.proofs.FoundLemmas.{covers_at}
use Rattle.slots.proofs.ChangeLemmas.{lowest-ended}
use Rattle.slots.proofs.TallyLemmas.{round-later}
use Rattle.slots.proofs.SpanLemmas.{gap_of}

-- nobody waits from the last start on
pub waits_over : (ws : List Wait) (t : ℕ) → last_start ws ≤ t → All (λ (w : Wait). w.start ≤ t) ws
waits_over ws t late = λ k d lt. let each = each_within (λ (w : Wait). w.start) ws k d lt in omega arith

pub changes_over : (fs : List Flight) (ws : List Wait) (slots : ℕ) (changes : List Change) → AreChanges fs ws slots changes → IsOver (level_at changes slots) slots (last_start ws)
changes_over fs ws slots changes h = λ t late.
    let is = h.each t ∙ lowest-ended fs ws slots t (waits_over ws t late) in
    omega arith

-- a level has a gap if the lowest with one is no higher
gap_same : (flying waits slots k : ℕ) → k ≤ slots → nat_le (lowest_idle flying waits slots) k ≡ (nat_lt flying k && nat_lt 0 waits)
gap_same flying waits slots k within = elim (cases_lt 0 waits) [
  | inl some ↦ elim (cases_lt flying k) [
    | inl idle ↦
        let low : lowest_idle flying waits slots ≡ min (slots + 1) (flying + 1) = rw (lt-ltb 0 waits some) refl in
        rw (lt-ltb flying k idle, lt-ltb 0 waits some) (le-leb (min (slots + 1) (flying + 1)) k (omega arith))
    | inr busy ↦ rw (le-ltb flying k busy, lt-ltb 0 waits some) (lt-leb (min (slots + 1) (flying + 1)) k (omega arith))
  ]
  | inr none ↦ rw (le-ltb 0 waits none) (lt-leb (slots + 1) k (omega arith) ∙ elim (nat_lt flying k) as (λ b. false ≡ (b && false)) [ true ↦ refl | false ↦ refl ])
]

-- what is made of a range by functions that agree on it
flat_same : {X : Type 0} (f g : ℕ → List X) (a n : ℕ) → ((k : ℕ) → a ≤ k → k < a + n → f k ≡ g k) → flat_map f (range_with_len a n) ≡ flat_map g (range_with_len a n)
flat_same f g a zero h = refl
flat_same f g a (suc n) h = rw (h a (omega arith) (omega arith), flat_same f g (a + 1) n (λ k low high. h k (omega arith) (omega arith))) refl

pub spare_by-is : (fs : List Flight) (ws : List Wait) (slots service : ℕ) (changes : List Change) → AreChanges fs ws slots changes → spare_by (level_at changes slots) slots service (last_start ws) ≡ spare_starts fs ws slots service
unfolding spare_starts
spare_by-is fs ws slots service changes h =
    flat_same (λ k. spare_of service (gap_of (level_at changes slots) k) (last_start ws)) (λ k. spare_of service (has_gap fs ws k) (last_start ws)) 1 slots (λ k some less.
    let gaps : gap_of (level_at changes slots) k ≡ has_gap fs ws k = fun_ext (λ t. ap (λ l. nat_le l k) (h.each t) ∙ gap_same (in_flight fs t) (waiting ws t) slots k (omega arith)) in
    ap (λ gap. spare_of service gap (last_start ws)) gaps)

-- ---- the rounds of gaps

-- a request waits at a time, or none does
some_wait : (ws : List Wait) (t : ℕ) → ((w : Wait) × Contains ws w × (covers t (span_waited w) ≡ true)) ⊎ (waiting ws t ≡ 0)
some_wait [] t = inr refl
some_wait (w ∷ ws) t = elim (covers t (span_waited w)) as (λ b. covers t (span_waited w) ≡ b → ((v : Wait) × Contains (w ∷ ws) v × (covers t (span_waited v) ≡ true)) ⊎ (waiting (w ∷ ws) t ≡ 0)) [
  | true ↦ λ is. inl (w, (0, omega arith, refl), is)
  | false ↦ λ not_here. elim (some_wait ws t) [
    | inl later ↦ inl (later.0, (suc (later.1).0, let lt = (later.1).1 in omega arith, (later.1).2), later.2)
    | inr none ↦ inr (let one : cond (covers t (span_waited w)) 1 0 ≡ 0 = ap (λ b. cond {A = ℕ} b 1 0) not_here in omega (arith, sum_by-cons (λ (s : Span). cond (covers t s) 1 0) (span_waited w) (map span_waited ws), one, none))
  ]
] refl

pub changes_in_rounds : (fs : List Flight) (ws : List Wait) (slots : ℕ) (changes : List Change) (clock : Clock) (rounds : ℕ) → AreChanges fs ws slots changes → 1 ≤ clock.span → All (λ (w : Wait). clock.begin ≤ w.arrival) ws → All (λ (w : Wait). round_at clock.span clock.begin w.start ≤ rounds) ws → AreInRounds (level_at changes slots) slots clock rounds
changes_in_rounds fs ws slots changes clock rounds h some begin within = record {
  begun = λ t low. elim (some_wait ws t) [
    | inl wait ↦
        let at = covers_at t (span_waited wait.0) wait.2 in
        let first = All-contains (λ (w : Wait). clock.begin ≤ w.arrival) ws wait.0 begin wait.1 in
        let arrived = at.0 in
        omega arith
    | inr none ↦ absurd (idle t low none)
  ];
  ended = λ t low. elim (some_wait ws t) [
    | inl wait ↦
        let at = covers_at t (span_waited wait.0) wait.2 in
        let last = All-contains (λ (w : Wait). round_at clock.span clock.begin w.start ≤ rounds) ws wait.0 within wait.1 in
        let lasts = at.1 in
        let later = round-later clock.span clock.begin (t + 1) (wait.0).start some (omega arith) in
        omega arith
    | inr none ↦ absurd (idle t low none)
  ];
}
  where
    idle : (t : ℕ) → level_at changes slots t ≤ slots → waiting ws t ≡ 0 → ⊥
    idle t low none = let is = h.each t ∙ ap (λ n. lowest_idle (in_flight fs t) n slots) none in omega arith

-- the tally of the levels is that of the spare starts
pub spare_tally : (fs : List Flight) (ws : List Wait) (slots : ℕ) (changes : List Change) (clock : Clock) (row : List ℕ) (total : ℕ) → AreChanges fs ws slots changes → ((last : ℕ) → IsOver (level_at changes slots) slots last → IsTally clock (spare_by (level_at changes slots) slots clock.service last) row total) → IsTally clock (spare_starts fs ws slots clock.service) row total
spare_tally fs ws slots changes clock row total h tally =
    subst (λ times. IsTally clock times row total) (spare_by-is fs ws slots clock.service changes h) (tally (last_start ws) (changes_over fs ws slots changes h))
