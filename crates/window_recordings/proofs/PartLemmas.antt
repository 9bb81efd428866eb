-- the parts of a net that is cut in two: their costs and their schedules
use Rattle.std.proofs.Common.{◌≡◌, ◌≢◌, ℕ, zero, suc, ◌+◌, ◌-◌, ◌*◌, ◌<◌, ◌≤◌, ◌==◌, Bool, true, false, cond, refl, sym, ap, ◌∙◌, arith, inl, inr, ◌&&◌, max, min, nat_le, nat_lt}
use Rattle.std.proofs.lemmas.Bool.{cases_lt, cases_eq, lt-ltb, le-ltb, le-leb, lt-leb, ne_eqb, eq-eqb, ltb-true}
use Rattle.round_net.specs.Sums.{sum_below, count_below}
use Rattle.round_net.specs.Instance.{Instance, rows, uses}
use Rattle.round_net.specs.Schedules.{IsAdmissible, load, cost}
use Rattle.round_net.proofs.SumLemmas.{sum_below-same, sum_below-le, sum_below-add, sum_below-more}

-- ---- numbers that pass a test, numbered anew

-- a sum over them is one over all numbers
pub sum_below-picked : (n : ℕ) (test : ℕ → Bool) (g : ℕ → ℕ) → sum_below (count_below n test) g ≡ sum_below n (λ s. cond (test s) (g (count_below s test)) 0)
sum_below-picked zero test g = refl
sum_below-picked (suc n) test g =
    let rest = sum_below-picked n test g in
    let more = sum_below-more (count_below n test) g in
    let none : count_below n test + 0 ≡ count_below n test = omega arith in
    elim (test n) as (λ b. sum_below (count_below n test + cond b 1 0) g ≡ sum_below n (λ s. cond (test s) (g (count_below s test)) 0) + cond b (g (count_below n test)) 0) [
      | true ↦ omega arith
      | false ↦ rw none (omega arith)
    ]

-- and each of them is below how many there are
pub picked_within : (n s : ℕ) (test : ℕ → Bool) → s < n → test s ≡ true → count_below s test < count_below n test
picked_within zero s test lt passes = absurd (omega (arith, lt))
picked_within (suc n) s test lt passes = elim (cases_eq s n) [
  | inl same ↦
      let one : ◌≡◌ {A = ℕ} (cond (test n) 1 0) 1 = ap (λ (b : Bool). cond {A = ℕ} b 1 0) (ap test (sym same) ∙ passes) in
      let here : count_below s test ≡ count_below n test = ap (λ k. count_below k test) same in
      omega arith
  | inr other ↦
      let rest = picked_within n s test (omega arith) passes in
      omega arith
]

-- ---- parts

-- a stay is sent in the rounds up to one, or after it
abbrev pub is_by : (ℕ → ℕ) → ℕ → ℕ → Bool
is_by live c s = nat_le (live s) c

abbrev pub is_after : (ℕ → ℕ) → ℕ → ℕ → Bool
is_after live c s = nat_lt c (live s)

-- the part of a net that has the stays that pass a test
pub record IsPart (test : ℕ → Bool) (net own : Instance) : Type 0 where
  pub stays : own.stays ≡ count_below net.stays test
  pub same_rows : rows own ≡ rows net
  pub used : (s : ℕ) → s < net.stays → test s ≡ true → (row : ℕ) → uses own row (count_below s test) ≡ uses net row s
  pub weight : (s : ℕ) → s < net.stays → test s ≡ true → own.weight (count_below s test) ≡ net.weight s

-- that of the rounds up to one, and where its stays were sent
pub record IsFirst (net : Instance) (live : ℕ → ℕ) (c : ℕ) (own : Instance) (sent : ℕ → ℕ) : Type 0 where
  pub part : IsPart (is_by live c) net own
  pub rounds : own.rounds ≡ c
  pub arrival : (s : ℕ) → s < net.stays → is_by live c s ≡ true → own.arrival (count_below s (is_by live c)) ≡ net.arrival s
  pub last : (s : ℕ) → s < net.stays → is_by live c s ≡ true → own.last (count_below s (is_by live c)) ≡ min (net.last s) c
  pub cap : (row r : ℕ) → row < rows net → 1 ≤ r → r ≤ c → own.cap row r ≡ net.cap row r
  pub there : (s : ℕ) → s < net.stays → is_by live c s ≡ true → sent (count_below s (is_by live c)) ≡ live s

-- that of the rounds after it
pub record IsSecond (net : Instance) (live : ℕ → ℕ) (c : ℕ) (own : Instance) (sent : ℕ → ℕ) : Type 0 where
  pub part : IsPart (is_after live c) net own
  pub rounds : own.rounds ≡ net.rounds - c
  pub arrival : (s : ℕ) → s < net.stays → is_after live c s ≡ true → own.arrival (count_below s (is_after live c)) ≡ max (net.arrival s - c) 1
  pub last : (s : ℕ) → s < net.stays → is_after live c s ≡ true → own.last (count_below s (is_after live c)) ≡ net.last s - c
  pub cap : (row r : ℕ) → row < rows net → c < r → r ≤ net.rounds → own.cap row (r - c) ≡ net.cap row r
  pub there : (s : ℕ) → s < net.stays → is_after live c s ≡ true → sent (count_below s (is_after live c)) ≡ live s - c

-- a schedule of the whole that is two of the parts, one after the other
pub record Joins (net : Instance) (live : ℕ → ℕ) (c : ℕ) (f g whole : ℕ → ℕ) : Type 0 where
  pub first : (s : ℕ) → s < net.stays → is_by live c s ≡ true → whole s ≡ f (count_below s (is_by live c))
  pub second : (s : ℕ) → s < net.stays → is_after live c s ≡ true → whole s ≡ c + g (count_below s (is_after live c))
  pub some : (s : ℕ) → s < net.stays → is_after live c s ≡ true → 1 ≤ g (count_below s (is_after live c))

-- what the stays of the second part waited before it
abbrev pub carried_by : Instance → (ℕ → ℕ) → ℕ → ℕ
carried_by net live c = sum_below net.stays (λ s. cond (is_after live c s) (net.weight s * (c + 1 - net.arrival s)) 0)

-- ---- costs

three : (n : ℕ) (all a b d : ℕ → ℕ) → ((s : ℕ) → s < n → all s ≡ a s + b s + d s) → sum_below n all ≡ sum_below n a + sum_below n b + sum_below n d
three n all a b d each =
    let same = sum_below-same n all (λ s. a s + b s + d s) each in
    let one = sum_below-add n (λ s. a s + b s) d in
    let two = sum_below-add n a b in
    omega arith

-- a part's cost over the stays of the whole
cost-part : (test : ℕ → Bool) (net own : Instance) (f : ℕ → ℕ) → IsPart test net own → cost own f ≡ sum_below net.stays (λ s. cond (test s) (own.weight (count_below s test) * (f (count_below s test) - own.arrival (count_below s test))) 0)
cost-part test net own f is = ap (λ n. sum_below n (λ s. own.weight s * (f s - own.arrival s))) is.stays ∙ sum_below-picked net.stays test (λ s. own.weight s * (f s - own.arrival s))

pub cost-joined : (net first second : Instance) (live sent sent' f g whole : ℕ → ℕ) (c : ℕ) → IsFirst net live c first sent → IsSecond net live c second sent' → Joins net live c f g whole → cost net whole ≡ cost first f + cost second g + carried_by net live c
cost-joined net first second live sent sent' f g whole c is is' joins =
    let one = cost-part (is_by live c) net first f is.part in
    let two = cost-part (is_after live c) net second g is'.part in
    let all = three net.stays (λ s. net.weight s * (whole s - net.arrival s)) _ _ (λ s. cond (is_after live c s) (net.weight s * (c + 1 - net.arrival s)) 0) each in
    omega arith
  where
    each : (s : ℕ) → s < net.stays → net.weight s * (whole s - net.arrival s)
        ≡ cond (is_by live c s) (first.weight (count_below s (is_by live c)) * (f (count_below s (is_by live c)) - first.arrival (count_below s (is_by live c)))) 0
        + cond (is_after live c s) (second.weight (count_below s (is_after live c)) * (g (count_below s (is_after live c)) - second.arrival (count_below s (is_after live c)))) 0
        + cond (is_after live c s) (net.weight s * (c + 1 - net.arrival s)) 0
    each s lt = elim (cases_lt c (live s)) [
      | inl after ↦
          let k = count_below s (is_after live c) in
          let yes : is_after live c s ≡ true = lt-ltb c (live s) after in
          let no : is_by live c s ≡ false = lt-leb (live s) c after in
          let w = is'.part.weight s lt yes in
          let a = is'.arrival s lt yes in
          let j = joins.second s lt yes in
          let some = joins.some s lt yes in
          let waits : whole s - net.arrival s ≡ (g k - second.arrival k) + (c + 1 - net.arrival s) = omega arith in
          rw (yes, no, w, waits) (omega arith)
      | inr by ↦
          let yes : is_by live c s ≡ true = le-leb (live s) c by in
          let no : is_after live c s ≡ false = le-ltb c (live s) by in
          let w = is.part.weight s lt yes in
          let a = is.arrival s lt yes in
          let j = joins.first s lt yes in
          rw (yes, no, w, a, j) (omega arith)
    ]

-- the recorded schedule is those of the parts
pub joins_live : (net first second : Instance) (live sent sent' : ℕ → ℕ) (c : ℕ) → IsFirst net live c first sent → IsSecond net live c second sent' → Joins net live c sent sent' live
joins_live net first second live sent sent' c is is' = record {
  first = λ s lt yes. sym (is.there s lt yes);
  second = λ s lt yes. let after : c < live s = ltb-true c (live s) yes in let h = is'.there s lt yes in omega arith;
  some = λ s lt yes. let after : c < live s = ltb-true c (live s) yes in let h = is'.there s lt yes in omega arith;
}

-- ---- loads

-- a part's load over the stays of the whole
load-part : (test : ℕ → Bool) (net own : Instance) (f : ℕ → ℕ) (row r : ℕ) → IsPart test net own → load own f row r ≡ sum_below net.stays (λ s. cond (test s) (cond (uses own row (count_below s test) && (f (count_below s test) == r)) 1 0) 0)
load-part test net own f row r is = ap (λ n. count_below n (λ s. uses own row s && (f s == r))) is.stays ∙ sum_below-picked net.stays test (λ s. cond (uses own row s && (f s == r)) 1 0)

-- a stay that isn't sent in a round
apart : (b : Bool) (x r : ℕ) → x ≢ r → ◌≡◌ {A = ℕ} (cond (b && (x == r)) 1 0) 0
apart true x r other = ap (λ (t : Bool). cond {A = ℕ} t 1 0) (ne_eqb x r other)
apart false x r other = refl

-- a row's load in a round up to the cut is at most that of the first part
load_first : (net first second : Instance) (live sent sent' f g whole : ℕ → ℕ) (c row r : ℕ) → IsFirst net live c first sent → IsSecond net live c second sent' → Joins net live c f g whole → r ≤ c → load net whole row r ≤ load first f row r
load_first net first second live sent sent' f g whole c row r is is' joins within =
    let own = load-part (is_by live c) net first f row r is.part in
    let all = sum_below-le net.stays (λ s. cond (uses net row s && (whole s == r)) 1 0) (λ s. cond (is_by live c s) (cond (uses first row (count_below s (is_by live c)) && (f (count_below s (is_by live c)) == r)) 1 0) 0) each in
    omega arith
  where
    each : (s : ℕ) → s < net.stays → ◌≤◌ (cond (uses net row s && (whole s == r)) 1 0) (cond (is_by live c s) (cond (uses first row (count_below s (is_by live c)) && (f (count_below s (is_by live c)) == r)) 1 0) 0)
    each s lt = elim (cases_lt c (live s)) [
      | inl after ↦
          let yes : is_after live c s ≡ true = lt-ltb c (live s) after in
          let j = joins.second s lt yes in
          let some = joins.some s lt yes in
          let none = apart (uses net row s) (whole s) r (omega arith) in
          omega arith
      | inr by ↦
          let yes : is_by live c s ≡ true = le-leb (live s) c by in
          rw (yes, is.part.used s lt yes row, joins.first s lt yes) (omega arith)
    ]

-- and in a later one at most that of the second part
load_second : (net first second : Instance) (live sent sent' f g whole : ℕ → ℕ) (c row r : ℕ) → IsFirst net live c first sent → IsSecond net live c second sent' → Joins net live c f g whole
    → ((s : ℕ) → s < net.stays → is_by live c s ≡ true → f (count_below s (is_by live c)) ≤ c) → c < r → load net whole row r ≤ load second g row (r - c)
load_second net first second live sent sent' f g whole c row r is is' joins within past =
    let own = load-part (is_after live c) net second g row (r - c) is'.part in
    let all = sum_below-le net.stays (λ s. cond (uses net row s && (whole s == r)) 1 0) (λ s. cond (is_after live c s) (cond (uses second row (count_below s (is_after live c)) && (g (count_below s (is_after live c)) == r - c)) 1 0) 0) each in
    omega arith
  where
    same_round : (x : ℕ) → (c + x == r) ≡ (x == r - c)
    same_round x = elim (cases_eq x (r - c)) [
      | inl same ↦ eq-eqb (c + x) r (omega arith) ∙ sym (eq-eqb x (r - c) same)
      | inr other ↦ ne_eqb (c + x) r (omega arith) ∙ sym (ne_eqb x (r - c) other)
    ]

    each : (s : ℕ) → s < net.stays → ◌≤◌ (cond (uses net row s && (whole s == r)) 1 0) (cond (is_after live c s) (cond (uses second row (count_below s (is_after live c)) && (g (count_below s (is_after live c)) == r - c)) 1 0) 0)
    each s lt = elim (cases_lt c (live s)) [
      | inl after ↦
          let yes : is_after live c s ≡ true = lt-ltb c (live s) after in
          rw (yes, is'.part.used s lt yes row, joins.second s lt yes, same_round (g (count_below s (is_after live c)))) (omega arith)
      | inr by ↦
          let yes : is_by live c s ≡ true = le-leb (live s) c by in
          let j = joins.first s lt yes in
          let early = within s lt yes in
          let none = apart (uses net row s) (whole s) r (omega arith) in
          omega arith
    ]

-- ---- schedules

-- admissible schedules of the parts, one after the other, are one of the whole
pub admissible-joined : (net first second : Instance) (live sent sent' f g whole : ℕ → ℕ) (c : ℕ) → IsFirst net live c first sent → IsSecond net live c second sent' → IsAdmissible first f → IsAdmissible second g → Joins net live c f g whole → IsAdmissible net whole
admissible-joined net first second live sent sent' f g whole c is is' one two joins = record {
  not_early = λ s lt. elim (cases_lt c (live s)) [
    | inl after ↦
        let yes : is_after live c s ≡ true = lt-ltb c (live s) after in
        omega (arith, joins.second s lt yes, is'.arrival s lt yes, two.not_early (count_below s (is_after live c)) (second_place s lt yes))
    | inr by ↦
        let yes : is_by live c s ≡ true = le-leb (live s) c by in
        omega (arith, joins.first s lt yes, is.arrival s lt yes, one.not_early (count_below s (is_by live c)) (first_place s lt yes))
  ];
  not_late = λ s lt. elim (cases_lt c (live s)) [
    | inl after ↦
        let yes : is_after live c s ≡ true = lt-ltb c (live s) after in
        omega (arith, joins.second s lt yes, joins.some s lt yes, is'.last s lt yes, two.not_late (count_below s (is_after live c)) (second_place s lt yes))
    | inr by ↦
        let yes : is_by live c s ≡ true = le-leb (live s) c by in
        omega (arith, joins.first s lt yes, is.last s lt yes, one.not_late (count_below s (is_by live c)) (first_place s lt yes))
  ];
  rows_hold = λ row r within some last. elim (cases_lt c r) [
    | inl past ↦
        let load = load_second net first second live sent sent' f g whole c row r is is' joins first_within past in
        let hold = two.rows_hold row (r - c) (omega (arith, is'.part.same_rows)) (omega arith) (omega (arith, is'.rounds)) in
        omega (arith, load, hold, is'.cap row r within past last)
    | inr by ↦
        let load = load_first net first second live sent sent' f g whole c row r is is' joins by in
        let hold = one.rows_hold row r (omega (arith, is.part.same_rows)) some (omega (arith, is.rounds)) in
        omega (arith, load, hold, is.cap row r within some by)
  ];
}
  where
    first_place : (s : ℕ) → s < net.stays → is_by live c s ≡ true → count_below s (is_by live c) < first.stays
    first_place s lt is_so = omega (arith, is.part.stays, picked_within net.stays s (is_by live c) lt is_so)

    second_place : (s : ℕ) → s < net.stays → is_after live c s ≡ true → count_below s (is_after live c) < second.stays
    second_place s lt is_so = omega (arith, is'.part.stays, picked_within net.stays s (is_after live c) lt is_so)

    first_within : (s : ℕ) → s < net.stays → is_by live c s ≡ true → f (count_below s (is_by live c)) ≤ c
    first_within s lt is_so = omega (arith, one.not_late (count_below s (is_by live c)) (omega (arith, is.part.stays, picked_within net.stays s (is_by live c) lt is_so)), is.last s lt is_so)
