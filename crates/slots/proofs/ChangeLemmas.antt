-- changes of the lowest level with a gap
use Rattle.std.proofs.Common.{◌≡◌, ℕ, suc, ◌+◌, ◌-◌, ◌<◌, ◌≤◌, ◌^◌, true, false, cond, min, List, [], ◌∷◌, ◌++◌, length, map, get_or, refl, sym, ap, ◌∙◌, arith, inl, inr, nat_lt}
use Rattle.std.specs.List.{All, Contains, count_by}
use Rattle.std.specs.List.Sorted.{IsPermutation, IsNonDecreasing}
use Rattle.std.proofs.lemmas.Bool.{cases_lt, le-leb, lt-leb}
use Rattle.std.proofs.lemmas.List.{get_or-map, length-map}
use Rattle.std.proofs.lemmas.List.Elements.{All-nil, All-cons, All-contains, All-map, Contains-get_or, Contains-append_left, Contains-append_right}
use Rattle.std.proofs.lemmas.List.Sorted.{Contains-permutation, length_permutation}
use Rattle.slots.specs.Spans.{Span, covers, covering}
use Rattle.slots.specs.Bounds.{AreBounds, up_to}
use Rattle.slots.specs.Flights.{Flight, span_held, usual_time, spans_held, in_flight}
use Rattle.slots.specs.Gaps.{Wait, span_waited, waiting}
use Rattle.slots.specs.Changes.{Change, Changes, lowest_idle, lowest_at, open_at, lowest_from, change_by, changes_in, lowest_by, AreChanges}
use Rattle.slots.specs.declared.bounds.Passed.{Passed}
use Rattle.slots.proofs.ListLemmas.{count_le}
use Rattle.slots.proofs.FoundLemmas.{covers_at, count_none}
use Rattle.slots.proofs.BoundLemmas.{up_to-later, up_to-same, up_to-le}

-- no more are counted than are up to a time from a place on
pub record AreBehind (begins ends times : List ℕ) (place : ℕ) (passed : Passed) : Type 0 where
  pub begun : (k : ℕ) → place ≤ k → k < length times → passed.begins ≤ up_to begins (get_or times k 0)
  pub ended : (k : ℕ) → place ≤ k → k < length times → passed.ends ≤ up_to ends (get_or times k 0)

pub AreBehind-none : (begins ends times : List ℕ) (passed : Passed) → passed.begins ≡ 0 → passed.ends ≡ 0 → AreBehind begins ends times 0 passed
AreBehind-none begins ends times passed b e = record { begun = λ k _ _. omega arith; ended = λ k _ _. omega arith }

pub AreBehind-more : (begins ends times : List ℕ) (place : ℕ) (passed : Passed) → IsNonDecreasing times → passed ≡ record { begins = up_to begins (get_or times place 0); ends = up_to ends (get_or times place 0) } → AreBehind begins ends times (place + 1) passed
AreBehind-more begins ends times place passed up is = record {
  begun = λ k low lt. omega (arith, ap (λ (p : Passed). p.begins) is, up_to-later begins _ _ (up place k 0 (omega arith) lt));
  ended = λ k low lt. omega (arith, ap (λ (p : Passed). p.ends) is, up_to-later ends _ _ (up place k 0 (omega arith) lt));
}

-- ---- changes as a function of time

-- the level of one of the times is that of a later one, if no other lies between
record Stays (level : ℕ → ℕ) (ts : List ℕ) (t : ℕ) : Type 0 where
  from : (s : ℕ) → Contains ts s → s ≤ t → All (λ x. s < x → t < x) ts → level s ≡ level t

Stays-tail : (level : ℕ → ℕ) (x : ℕ) (ts : List ℕ) (t : ℕ) → IsNonDecreasing (x ∷ ts) → Stays level (x ∷ ts) t → Stays level ts t
Stays-tail level x ts t up h = record {
  from = λ s there le none.
      let first : x ≤ s = let place = up 0 (suc there.0) s (omega arith) (let lt = there.1 in omega arith) in omega (arith, place, there.2) in
      h.from s (suc there.0, (let lt = there.1 in omega arith), there.2) le (All-cons (λ y. s < y → t < y) x ts (λ lt. absurd (omega arith)) none);
}

All-later : (x t : ℕ) (ts : List ℕ) → IsNonDecreasing (x ∷ ts) → t < x → All (λ y. t < y) (x ∷ ts)
All-later x t ts up lt = λ k d less. let first = up 0 k d (omega arith) less in omega arith

by_times : (level : ℕ → ℕ) (make : ℕ → Change) → ((s : ℕ) → (make s).at ≡ s) → ((s : ℕ) → (make s).lowest ≡ level s) → (ts : List ℕ) (v t : ℕ) → IsNonDecreasing ts → (All (λ y. t < y) ts → v ≡ level t) → Stays level ts t → lowest_by (map make ts) v t ≡ level t
by_times level make at lowest [] v t up first h = first (All-nil (λ y. t < y))
by_times level make at lowest (x ∷ ts) v t up first h =
    rw (at x) (elim (cases_lt t x) [
      | inl later ↦ rw (lt-leb x t later) (first (All-later x t ts up later))
      | inr passed ↦
          let tail : IsNonDecreasing ts = λ i j d le lt. up (suc i) (suc j) d (omega arith) (omega arith) in
          rw (le-leb x t passed) (by_times level make at lowest ts (make x).lowest t tail (λ none. lowest x ∙ h.from x (0, omega arith, refl) passed (All-cons (λ y. x < y → t < y) x ts (λ lt. absurd (omega arith)) (λ k d lt _. none k d lt))) (Stays-tail level x ts t up h))
    ])

-- what is open stays the same while nothing begins or ends
open_same : (begins ends : List ℕ) (s t : ℕ) → s ≤ t → All (λ x. s < x → t < x) begins → All (λ x. s < x → t < x) ends → open_at begins ends s ≡ open_at begins ends t
open_same begins ends s t le a b =
    let x = up_to-same begins s t le a in
    let y = up_to-same ends s t le b in
    omega arith

-- nothing is open before the first beginning
open_none : (begins ends : List ℕ) (t : ℕ) → All (λ x. t < x) begins → open_at begins ends t ≡ 0
open_none begins ends t none = let few = up_to-le begins 0 t (λ k _ lt. none k 0 lt) in omega arith

-- what holds of all of some times holds of those that are among them
of_some : (P : ℕ → Type 0) (xs ys : List ℕ) → All P ys → ((x : ℕ) → Contains xs x → Contains ys x) → All P xs
of_some P xs ys all among = λ k d lt. All-contains P ys (get_or xs k d) all (among (get_or xs k d) (Contains-get_or xs k d lt))

lowest_same : (starts ends arrivals leaves times : List ℕ) (slots t : ℕ) → IsPermutation (((starts ++ ends) ++ arrivals) ++ leaves) times → Stays (lowest_from starts ends arrivals leaves slots) times t
unfolding lowest_from
lowest_same starts ends arrivals leaves times slots t moved = record {
  from = λ s there le none.
      let among : (x : ℕ) → Contains (((starts ++ ends) ++ arrivals) ++ leaves) x → Contains times x = λ x h. Contains-permutation _ times x moved h in
      let P : ℕ → Type 0 = λ x. s < x → t < x in
      let a = of_some P starts times none (λ x h. among x (Contains-append_left ((starts ++ ends) ++ arrivals) leaves x (Contains-append_left (starts ++ ends) arrivals x (Contains-append_left starts ends x h)))) in
      let b = of_some P ends times none (λ x h. among x (Contains-append_left ((starts ++ ends) ++ arrivals) leaves x (Contains-append_left (starts ++ ends) arrivals x (Contains-append_right starts ends x h)))) in
      let c = of_some P arrivals times none (λ x h. among x (Contains-append_left ((starts ++ ends) ++ arrivals) leaves x (Contains-append_right (starts ++ ends) arrivals x h))) in
      let d = of_some P leaves times none (λ x h. among x (Contains-append_right ((starts ++ ends) ++ arrivals) leaves x h)) in
      ap (λ n. lowest_idle n (open_at arrivals leaves s) slots) (open_same starts ends s t le a b) ∙ ap (λ n. lowest_idle (open_at starts ends t) n slots) (open_same arrivals leaves s t le c d);
}

lowest_first : (starts ends arrivals leaves times : List ℕ) (slots t : ℕ) → IsPermutation (((starts ++ ends) ++ arrivals) ++ leaves) times → All (λ x. t < x) times → slots + 1 ≡ lowest_from starts ends arrivals leaves slots t
unfolding lowest_from
lowest_first starts ends arrivals leaves times slots t moved none =
    let c = of_some (λ x. t < x) arrivals times none (λ x h. Contains-permutation _ times x moved (Contains-append_left ((starts ++ ends) ++ arrivals) leaves x (Contains-append_right (starts ++ ends) arrivals x h))) in
    rw (open_none arrivals leaves t c) refl

-- by the spans
lowest_spans : (fs : List Flight) (ws : List Wait) (slots : ℕ) (starts ends arrivals leaves : List ℕ) (t : ℕ) → AreBounds (spans_held fs) starts ends → AreBounds (map span_waited ws) arrivals leaves → t < 2 ^ 64 → lowest_from starts ends arrivals leaves slots t ≡ lowest_at fs ws slots t
unfolding lowest_from
lowest_spans fs ws slots starts ends arrivals leaves t held waited small =
    let a = held.cover t small in
    let b = waited.cover t small in
    let flying : open_at starts ends t ≡ in_flight fs t = omega arith in
    let waits : open_at arrivals leaves t ≡ waiting ws t = omega arith in
    ap (λ n. lowest_idle n (open_at arrivals leaves t) slots) flying ∙ ap (λ n. lowest_idle (in_flight fs t) n slots) waits

-- ---- all times, also past the last that a number of 64 bits has

-- no span covers a time if all have ended by then
pub covering-ended : (spans : List Span) (t : ℕ) → All (λ (s : Span). s.until ≤ t) spans → covering spans t ≡ 0
covering-ended spans t ended =
    let few : covering spans t ≤ count_by (λ _. false) spans = count_le (covers t) (λ _. false) spans (λ k d lt covered.
    let at = covers_at t (get_or spans k d) covered in
    let lasts = at.1 in
    let over = ended k d lt in
    absurd (omega arith)) in
    omega (arith, few, count_none spans)

-- nobody waits once all have been started
pub waiting-ended : (ws : List Wait) (t : ℕ) → All (λ (w : Wait). w.start ≤ t) ws → waiting ws t ≡ 0
waiting-ended ws t ended = covering-ended (map span_waited ws) t (All-map (λ (s : Span). s.until ≤ t) span_waited ws ended)

-- then no level has a gap
pub lowest-ended : (fs : List Flight) (ws : List Wait) (slots t : ℕ) → All (λ (w : Wait). w.start ≤ t) ws → lowest_at fs ws slots t ≡ slots + 1
lowest-ended fs ws slots t ended = ap (λ n. lowest_idle (in_flight fs t) n slots) (waiting-ended ws t ended)

lowest_late : (starts ends arrivals leaves times : List ℕ) (slots s t : ℕ) → IsPermutation (((starts ++ ends) ++ arrivals) ++ leaves) times → All (λ x. x ≤ s) times → s ≤ t → lowest_from starts ends arrivals leaves slots s ≡ lowest_from starts ends arrivals leaves slots t
unfolding lowest_from
lowest_late starts ends arrivals leaves times slots s t moved early le =
    let among : (x : ℕ) → Contains (((starts ++ ends) ++ arrivals) ++ leaves) x → Contains times x = λ x h. Contains-permutation _ times x moved h in
    let P : ℕ → Type 0 = λ x. s < x → t < x in
    let none : All P times = λ k d lt after. let e = early k d lt in absurd (omega arith) in
    let a = of_some P starts times none (λ x h. among x (Contains-append_left ((starts ++ ends) ++ arrivals) leaves x (Contains-append_left (starts ++ ends) arrivals x (Contains-append_left starts ends x h)))) in
    let b = of_some P ends times none (λ x h. among x (Contains-append_left ((starts ++ ends) ++ arrivals) leaves x (Contains-append_left (starts ++ ends) arrivals x (Contains-append_right starts ends x h)))) in
    let c = of_some P arrivals times none (λ x h. among x (Contains-append_left ((starts ++ ends) ++ arrivals) leaves x (Contains-append_right (starts ++ ends) arrivals x h))) in
    let d = of_some P leaves times none (λ x h. among x (Contains-append_right ((starts ++ ends) ++ arrivals) leaves x h)) in
    ap (λ n. lowest_idle n (open_at arrivals leaves s) slots) (open_same starts ends s t le a b) ∙ ap (λ n. lowest_idle (open_at starts ends t) n slots) (open_same arrivals leaves s t le c d)

lowest_bounds : (starts ends arrivals leaves : List ℕ) (slots t : ℕ) → (1 ≤ lowest_from starts ends arrivals leaves slots t) × (lowest_from starts ends arrivals leaves slots t ≤ slots + 1)
unfolding lowest_from
lowest_bounds starts ends arrivals leaves slots t = elim (nat_lt 0 (open_at arrivals leaves t)) as (λ b. (1 ≤ cond b (min (slots + 1) (open_at starts ends t + 1)) (slots + 1)) × (cond b (min (slots + 1) (open_at starts ends t + 1)) (slots + 1) ≤ slots + 1)) [
  | true ↦ (omega arith, omega arith)
  | false ↦ (omega arith, omega arith)
]

pub AreChanges-made : (fs : List Flight) (ws : List Wait) (slots : ℕ) (starts ends arrivals leaves times : List ℕ) → AreBounds (spans_held fs) starts ends → AreBounds (map span_waited ws) arrivals leaves → All (λ (w : Wait). w.start < 2 ^ 64) ws → IsPermutation (((starts ++ ends) ++ arrivals) ++ leaves) times → IsNonDecreasing times → All (λ t. t < 2 ^ 64) times → AreChanges fs ws slots (map (change_by starts ends arrivals leaves slots) times)
AreChanges-made fs ws slots starts ends arrivals leaves times held waited fits moved up small =
    let level = lowest_from starts ends arrivals leaves slots in
    let make = change_by starts ends arrivals leaves slots in
    let by : (t : ℕ) → lowest_by (map make times) (slots + 1) t ≡ level t = λ t.
    by_times level make (λ _. refl) (λ _. refl) times (slots + 1) t up (lowest_first starts ends arrivals leaves times slots t moved) (lowest_same starts ends arrivals leaves times slots t moved) in
    let bounds = lowest_bounds starts ends arrivals leaves slots in
    let last : ℕ = 18446744073709551615 in
    record {
      levels = record {
        order = λ i j d le lt.
            let less : j < length times = omega (arith, length-map times make) in
            let first = ap (λ (c : Change). c.at) (get_or-map make times i 0 d (omega arith)) in
            let second = ap (λ (c : Change). c.at) (get_or-map make times j 0 d less) in
            omega (arith, up i j 0 le less, first, second);
        own = All-map (λ (c : Change). c.lowest ≡ lowest_by (map make times) (slots + 1) c.at) make times (λ k d lt. sym (by (get_or times k d)));
        lowest = All-map (λ (c : Change). 1 ≤ c.lowest) make times (λ k d lt. (bounds (get_or times k d)).0);
        highest = All-map (λ (c : Change). c.lowest ≤ slots + 1) make times (λ k d lt. (bounds (get_or times k d)).1);
      };
      each = λ t. elim (cases_lt t 18446744073709551616) [
        | inl early ↦ by t ∙ lowest_spans fs ws slots starts ends arrivals leaves t held waited early
        | inr late ↦
            let before : All (λ x. x ≤ last) times = λ k d lt. let s = small k d lt in omega arith in
            let over : All (λ (w : Wait). w.start ≤ last) ws = λ k d lt. let f = fits k d lt in omega arith in
            let over_late : All (λ (w : Wait). w.start ≤ t) ws = λ k d lt. let f = fits k d lt in omega arith in
            by t ∙ sym (lowest_late starts ends arrivals leaves times slots last t moved before (omega arith)) ∙ lowest_spans fs ws slots starts ends arrivals leaves last held waited (omega arith) ∙ lowest-ended fs ws slots last over ∙ sym (lowest-ended fs ws slots t over_late)
      ];
    }

-- what is counted at a time
pub counted : (begins ends : List ℕ) (t : ℕ) (passed : Passed) → passed ≡ record { begins = up_to begins t; ends = up_to ends t } → (passed.begins ≡ up_to begins t) × (passed.ends ≡ up_to ends t)
counted begins ends t passed is = (ap (λ (p : Passed). p.begins) is, ap (λ (p : Passed). p.ends) is)

-- the change at a time, by what is counted
change_is : (starts ends arrivals leaves : List ℕ) (slots t : ℕ) (f w : Passed) → f ≡ record { begins = up_to starts t; ends = up_to ends t } → w ≡ record { begins = up_to arrivals t; ends = up_to leaves t } → record { at = t; lowest = lowest_idle (f.begins - f.ends) (w.begins - w.ends) slots } ≡ change_by starts ends arrivals leaves slots t
unfolding lowest_from
change_is starts ends arrivals leaves slots t f w flying waits =
    let a = ap (λ (p : Passed). p.begins - p.ends) flying in
    let b = ap (λ (p : Passed). p.begins - p.ends) waits in
    ap (λ l. record { at = t; lowest = l }) (ap (λ k. lowest_idle k (w.begins - w.ends) slots) a ∙ ap (λ k. lowest_idle (open_at starts ends t) k slots) b)

abbrev pub no_change : Change
no_change = record { at = 0; lowest = 0 }

-- it is that of its place
pub change_in : (c : Changes) (slots place : ℕ) (lent : List ℕ) (f w : Passed) (change : Change) → lent ≡ c.times.items → place < length lent → f ≡ record { begins = up_to c.held.begins.items (get_or lent place 0); ends = up_to c.held.ends.items (get_or lent place 0) } → w ≡ record { begins = up_to c.waited.begins.items (get_or lent place 0); ends = up_to c.waited.ends.items (get_or lent place 0) } → change ≡ record { at = get_or lent place 0; lowest = lowest_idle (f.begins - f.ends) (w.begins - w.ends) slots } → change ≡ get_or (changes_in c slots) place no_change
change_in c slots place lent f w change same less flying waits is =
    let make = change_by c.held.begins.items c.held.ends.items c.waited.begins.items c.waited.ends.items slots in
    is ∙ change_is c.held.begins.items c.held.ends.items c.waited.begins.items c.waited.ends.items slots (get_or lent place 0) f w flying waits ∙ ap (λ ts. make (get_or ts place 0)) same ∙ sym (get_or-map make c.times.items place 0 no_change (omega (arith, less, ap length same)))

-- there are as many as times
pub changes_count : (c : Changes) (slots : ℕ) → length (changes_in c slots) ≡ length c.times.items
changes_count c slots = length-map c.times.items (change_by c.held.begins.items c.held.ends.items c.waited.begins.items c.waited.ends.items slots)

pub place_in : (c : Changes) (slots place : ℕ) (lent : List ℕ) → lent ≡ c.times.items → place < length lent → place < length (changes_in c slots)
place_in c slots place lent same less = omega (arith, less, ap length same, changes_count c slots)

pub starts_few : (fs : List Flight) (starts ends : List ℕ) → AreBounds (spans_held fs) starts ends → length starts ≡ length fs
starts_few fs starts ends held = length_permutation _ starts held.begins_all ∙ length-map (spans_held fs) (λ (s : Span). s.from) ∙ length-map fs (span_held (usual_time fs))
