-- the first waits of a stay, found by the runs of its device
use Rattle.std.proofs.Common.{◌≡◌, ℕ, zero, suc, ◌+◌, ◌-◌, ◌<◌, ◌≤◌, true, false, List, [], ◌∷◌, ◌++◌, length, map, refl, sym, ap, subst, ◌∙◌, arith, count_by, cond, not, ◌==◌, ◌≢◌, get_or, length-set, length-append}
use Rattle.std.specs.List.{range_with_len}
use Rattle.std.proofs.lemmas.Bool.{le-leb, not-true, not_from_true, not_from_false, or_left, or_right, eqb-true, eqb-false, eq-eqb}
use Rattle.std.proofs.lemmas.Bool.Decides.{nat_tests}
use Rattle.std.proofs.lemmas.List.{map-append, get_or_push, get_or_append_left, get_or-set_same, get_or-set_other}
use Rattle.std.proofs.lemmas.List.Sums.{count_by-le-length}
use Rattle.std.proofs.lemmas.List.FromFn.{length-range_with_len}
use Rattle.round_net.proofs.CountLemmas.{count_by-cons, count_by-append}
use Rattle.event_rules.proofs.ListFacts.{range_with_len-push, count_by-push}
use Rattle.std.proofs.Math.ListN.{set}
use Rattle.wait_causes.specs.Words.{is_cause, WaitCause}
use Rattle.wait_causes.specs.Origins.{Origin, cause_of}
use Rattle.wait_causes.specs.Waits.{beside, rounds_of, are_apart, AreWaits, Wait}
use Rattle.wait_causes.specs.FirstWaits.{has_changed, begins_in, waits_from, one_if, IsLast, AreRuns, DeviceRuns}
use Rattle.wait_causes.proofs.WaitLemmas.{written-push, some-push, apart-push}

-- ---- runs, from the last round on

pub last_here : (f : ℕ → WaitCause) (rounds r : ℕ) → r ≤ rounds → (r < rounds → has_changed f (r + 1) ≡ true) → IsLast f rounds r r
last_here f rounds r within ends = record {
  from = omega arith;
  within = within;
  same = λ k ge le. ap f (equal k ge le);
  ends = ends;
}
  where
    equal : (k : ℕ) → r ≤ k → k ≤ r → k ≡ r
    equal k ge le = omega (arith, ge, le)

pub last_more : (f : ℕ → WaitCause) (rounds r last : ℕ) → f r ≡ f (r + 1) → IsLast f rounds (r + 1) last → IsLast f rounds r last
last_more f rounds r last one is = record {
  from = omega (arith, is.from);
  within = is.within;
  same = λ k ge le. elim (r == k) as (λ b. (r == k) ≡ b → f k ≡ f r) [
    | true ↦ λ e. ap f (sym (same_number k e))
    | false ↦ λ e. is.same k (later k ge e) le ∙ sym one
  ] refl;
  ends = is.ends;
}
  where
    same_number : (k : ℕ) → (r == k) ≡ true → r ≡ k
    same_number k e = eqb-true r k e

    later : (k : ℕ) → r ≤ k → (r == k) ≡ false → r + 1 ≤ k
    later k ge e = grind (arith, nat_tests)

-- what is known of a round by its place in the list
pub lasts_at : (f : ℕ → WaitCause) (rounds : ℕ) (runs : DeviceRuns) (r : ℕ) → AreRuns f rounds runs → 1 ≤ r → r ≤ rounds → IsLast f rounds r (get_or runs.lasts.items (r - 1) 0)
lasts_at f rounds runs r are some within =
    let at : r - 1 + 1 ≡ r = omega (arith, some) in
    subst (λ k. IsLast f rounds k (get_or runs.lasts.items (r - 1) 0)) at (are.lasts (r - 1) (omega (arith, some, within)))

-- ---- ranges

pub range_append : (a n m : ℕ) → range_with_len a (n + m) ≡ range_with_len a n ++ range_with_len (a + n) m
range_append a zero m =
    let none : a + 0 ≡ a = omega arith in
    let all : 0 + m ≡ m = omega arith in
    ap (range_with_len a) all ∙ ap (λ k. range_with_len k m) (sym none)
range_append a (suc n) m =
    let one : suc n + m ≡ suc (n + m) = omega arith in
    let next : a + 1 + n ≡ a + suc n = omega arith in
    ap (range_with_len a) one ∙ ap (λ ks. a ∷ ks) (range_append (a + 1) n m ∙ ap (λ k. range_with_len (a + 1) n ++ range_with_len k m) next)

-- ---- a whole wait more

same_rounds : (f : ℕ → WaitCause) (c : WaitCause) (a n : ℕ) → ((k : ℕ) → a ≤ k → k < a + n → f k ≡ c) → map (beside (λ r. c)) (range_with_len a n) ≡ map (beside f) (range_with_len a n)
same_rounds f c a zero same = refl
same_rounds f c a (suc n) same =
    let here : f a ≡ c = same a (omega arith) (omega arith) in
    ap (λ x. (a, x) ∷ map (beside (λ r. c)) (range_with_len (a + 1) n)) (sym here)
    ∙ ap (λ xs. (a, f a) ∷ xs) (same_rounds f c (a + 1) n (λ k ge lt. same k (omega (arith, ge)) (omega (arith, lt))))

-- what the waits so far are, if another one may begin in the next round
pub record AreFirst (f : ℕ → WaitCause) (arrival live next : ℕ) (waits : List Wait) : Type 0 where
  pub are : AreWaits f (range_with_len arrival (next - arrival)) waits
  pub from : arrival ≤ next
  pub apart : next < live → are_apart (map (λ (w : Wait). w.cause) waits ++ f next ∷ []) ≡ true
  pub begins : next < live → begins_in f arrival next ≡ true

pub none_first : (f : ℕ → WaitCause) (arrival live : ℕ) → AreFirst f arrival live arrival []
none_first f arrival live = record {
  are = record {
    written_out = sym (ap (λ n. map (beside f) (range_with_len arrival n)) none);
    each_some = refl;
    apart = refl;
  };
  from = omega arith;
  apart = λ lt. refl;
  begins = λ lt. begins_first;
}
  where
    none : arrival - arrival ≡ 0
    none = omega arith

    begins_first : begins_in f arrival arrival ≡ true
    begins_first = or_left (arrival == arrival) (has_changed f arrival) (eq-eqb arrival arrival refl)

changed_then : (f : ℕ → WaitCause) (a b : ℕ) → a + 1 ≡ b → has_changed f b ≡ true → is_cause (f a) (f b) ≡ false
changed_then f a b next changed =
    let before : b - 1 ≡ a = omega (arith, next) in
    not-true (is_cause (f a) (f b)) (subst (λ k. not (is_cause (f k) (f b)) ≡ true) before changed)

pub one_first : (f : ℕ → WaitCause) (rounds arrival live next last end : ℕ) (waits : List Wait) → IsLast f rounds next last → next ≤ end → end ≤ last → end < live → live ≤ rounds → (end + 1 < live → end ≡ last)
    → AreFirst f arrival live next waits → AreFirst f arrival live (end + 1) (waits ++ record { cause = f next; first = next; last = end } ∷ [])
one_first f rounds arrival live next last end waits is some short within few whole first =
    let wait : Wait = record { cause = f next; first = next; last = end } in
    let now : next < live = omega (arith, some, within) in
    let at : arrival + (next - arrival) ≡ next = omega (arith, first.from) in
    let all : end + 1 - arrival ≡ next - arrival + (end + 1 - next) = omega (arith, first.from, some) in
    let each : (k : ℕ) → next ≤ k → k < next + (end + 1 - next) → f k ≡ f next = λ k ge lt. is.same k ge (before_end k lt) in
    let changes : end + 1 < live → has_changed f (end + 1) ≡ true = λ more. subst (λ k. has_changed f (k + 1) ≡ true) (sym (whole more)) (is.ends (not_last more (whole more))) in
    let differs : end + 1 < live → is_cause (f next) (f (end + 1)) ≡ false = λ more. subst (λ c. is_cause c (f (end + 1)) ≡ false) (is.same end some short) (changed_then f end (end + 1) refl (changes more)) in
    record {
      are = record {
        written_out =
            written-push waits wait
            ∙ ap (λ xs. xs ++ rounds_of wait) first.are.written_out
            ∙ ap (λ xs. map (beside f) (range_with_len arrival (next - arrival)) ++ xs) (same_rounds f (f next) next (end + 1 - next) each)
            ∙ sym (map-append (beside f) (range_with_len arrival (next - arrival)) (range_with_len next (end + 1 - next)))
            ∙ ap (map (beside f)) (ap (λ k. range_with_len arrival (next - arrival) ++ range_with_len k (end + 1 - next)) (sym at) ∙ sym (range_append arrival (next - arrival) (end + 1 - next)) ∙ ap (range_with_len arrival) (sym all));
        each_some = some-push waits wait first.are.each_some (le-leb next end some);
        apart = ap are_apart (map-append (λ (x : Wait). x.cause) waits (wait ∷ [])) ∙ first.apart now;
      };
      from = omega (arith, first.from, some);
      apart = λ more. ap are_apart (ap (λ xs. xs ++ f (end + 1) ∷ []) (map-append (λ (x : Wait). x.cause) waits (wait ∷ []))) ∙ apart-push (map (λ (x : Wait). x.cause) waits) (f next) (f (end + 1)) (first.apart now) (differs more);
      begins = λ more. or_right (end + 1 == arrival) (has_changed f (end + 1)) (changes more);
    }
  where
    before_end : (k : ℕ) → k < next + (end + 1 - next) → k ≤ last
    before_end k lt = omega (arith, lt, some, short)

    not_last : end + 1 < live → end ≡ last → last < rounds
    not_last more at_last = omega (arith, more, few, at_last)

-- ---- how many waits there are

later_only : (f : ℕ → WaitCause) (first a n : ℕ) → first < a → count_by (begins_in f first) (range_with_len a n) ≡ count_by (has_changed f) (range_with_len a n)
later_only f first a zero lt = refl
later_only f first a (suc n) lt =
    let other : (a == first) ≡ false = grind (arith, nat_tests) in
    let here : begins_in f first a ≡ has_changed f a = rw other refl in
    let one : cond {A = ℕ} (begins_in f first a) 1 0 ≡ cond (has_changed f a) 1 0 = ap (λ b. cond {A = ℕ} b 1 0) here in
    omega (arith, count_by-cons (begins_in f first) a (range_with_len (a + 1) n), count_by-cons (has_changed f) a (range_with_len (a + 1) n), one, later_only f first (a + 1) n (omega (arith, lt)))

more_waits : (f : ℕ → WaitCause) (first n : ℕ) → waits_from f first (suc n) ≡ 1 + count_by (has_changed f) (range_with_len (first + 1) n)
more_waits f first n =
    let here : begins_in f first first ≡ true = or_left (first == first) (has_changed f first) (eq-eqb first first refl) in
    let one : cond {A = ℕ} (begins_in f first first) 1 0 ≡ 1 = ap (λ b. cond {A = ℕ} b 1 0) here in
    omega (arith, count_by-cons (begins_in f first) first (range_with_len (first + 1) n), one, later_only f first (first + 1) n (omega arith))

-- the changes up to the last round, less those up to the first one
pub waits_counted : (f : ℕ → WaitCause) (first live : ℕ) → 1 ≤ first → first < live →
    count_by (has_changed f) (range_with_len 2 (live - 2)) - count_by (has_changed f) (range_with_len 2 (first - 1)) + 1 ≡ waits_from f first (live - first)
waits_counted f first live some lt =
    let n : ℕ = live - 1 - first in
    let both : live - 2 ≡ first - 1 + n = omega (arith, some, lt) in
    let at : 2 + (first - 1) ≡ first + 1 = omega (arith, some) in
    let all : live - first ≡ suc n = omega (arith, lt) in
    let parts : count_by (has_changed f) (range_with_len 2 (live - 2)) ≡ count_by (has_changed f) (range_with_len 2 (first - 1)) + count_by (has_changed f) (range_with_len (first + 1) n) =
    ap (λ k. count_by (has_changed f) (range_with_len 2 k)) both
    ∙ ap (count_by (has_changed f)) (range_append 2 (first - 1) n)
    ∙ count_by-append (has_changed f) (range_with_len 2 (first - 1)) (range_with_len (2 + (first - 1)) n)
    ∙ ap (λ k. count_by (has_changed f) (range_with_len 2 (first - 1)) + count_by (has_changed f) (range_with_len k n)) at in
    let sum : waits_from f first (live - first) ≡ 1 + count_by (has_changed f) (range_with_len (first + 1) n) = ap (waits_from f first) all ∙ more_waits f first n in
    omega (arith, parts, sum)

pub none_counted : (f : ℕ → WaitCause) (first live : ℕ) → live ≤ first → 0 ≡ waits_from f first (live - first)
none_counted f first live le =
    let none : live - first ≡ 0 = omega (arith, le) in
    sym (ap (waits_from f first) none)

pub few_changes : (f : ℕ → WaitCause) (n : ℕ) → count_by (has_changed f) (range_with_len 2 n) ≤ n
few_changes f n = omega (arith, count_by-le-length (has_changed f) (range_with_len 2 n), length-range_with_len 2 n)

-- a round more in which the cause may have changed
pub changes_more : (f : ℕ → WaitCause) (n : ℕ) → count_by (has_changed f) (range_with_len 2 (n + 1)) ≡ count_by (has_changed f) (range_with_len 2 n) + cond (has_changed f (2 + n)) 1 0
changes_more f n = ap (count_by (has_changed f)) (range_with_len-push 2 n) ∙ count_by-push (has_changed f) (range_with_len 2 n) (2 + n)

-- ---- the lists, round by round

pub unchanged : (f : ℕ → WaitCause) (r : ℕ) → is_cause (f r) (f (r + 1)) ≡ true → has_changed f (r + 1) ≡ false
unchanged f r one =
    let before : r + 1 - 1 ≡ r = omega arith in
    subst (λ k. not (is_cause (f k) (f (r + 1))) ≡ false) (sym before) (not_from_true (is_cause (f r) (f (r + 1))) one)

pub changed : (f : ℕ → WaitCause) (r : ℕ) → is_cause (f r) (f (r + 1)) ≡ false → has_changed f (r + 1) ≡ true
changed f r other =
    let before : r + 1 - 1 ≡ r = omega arith in
    subst (λ k. not (is_cause (f k) (f (r + 1))) ≡ true) (sym before) (not_from_false (is_cause (f r) (f (r + 1))) other)

pub lasts_step : (f : ℕ → WaitCause) (rounds after : ℕ) (lasts : List ℕ) (x : ℕ) → 1 ≤ after → after < rounds → length lasts ≡ rounds
    → ((k : ℕ) → k < rounds → rounds ≤ k + after → IsLast f rounds (k + 1) (get_or lasts k 0)) → IsLast f rounds (rounds - after) x
    → (length (set lasts (rounds - after - 1) x) ≡ rounds) × ((k : ℕ) → k < rounds → rounds ≤ k + (after + 1) → IsLast f rounds (k + 1) (get_or (set lasts (rounds - after - 1) x) k 0))
lasts_step f rounds after lasts x some lt all each here = (
  length-set lasts (rounds - after - 1) x ∙ all,
  λ k within from. elim (k == (rounds - after - 1)) as (λ b. (k == (rounds - after - 1)) ≡ b → IsLast f rounds (k + 1) (get_or (set lasts (rounds - after - 1) x) k 0)) [
    | true ↦ λ is.
        let at : k ≡ rounds - after - 1 = eqb-true k (rounds - after - 1) is in
        let round : rounds - after ≡ k + 1 = omega (arith, at, lt) in
        let place : rounds - after - 1 < length lasts = omega (arith, lt, all) in
        let read : x ≡ get_or (set lasts (rounds - after - 1) x) k 0 = sym (ap (λ j. get_or (set lasts (rounds - after - 1) x) j 0) at ∙ get_or-set_same lasts (rounds - after - 1) x 0 place) in
        subst (λ v. IsLast f rounds (k + 1) v) read (subst (λ r. IsLast f rounds r x) round here)
    | false ↦ λ not.
        let other : k ≢ rounds - after - 1 = eqb-false k (rounds - after - 1) not in
        let later : rounds ≤ k + after = further k from not in
        subst (λ v. IsLast f rounds (k + 1) v) (sym (get_or-set_other lasts (rounds - after - 1) k x 0 other)) (each k within later)
  ] refl,
)
  where
    further : (k : ℕ) → rounds ≤ k + (after + 1) → (k == (rounds - after - 1)) ≡ false → rounds ≤ k + after
    further k from apart = grind (arith, nat_tests)

pub changes_step : (f : ℕ → WaitCause) (changes : List ℕ) (round count next : ℕ) → 1 ≤ round → length changes ≡ round → count ≡ count_by (has_changed f) (range_with_len 2 (round - 1))
    → ((k : ℕ) → k < round → get_or changes k 0 ≡ count_by (has_changed f) (range_with_len 2 k)) → next ≡ count + one_if (has_changed f (round + 1))
    → (length (changes ++ next ∷ []) ≡ round + 1) × (next ≡ count_by (has_changed f) (range_with_len 2 (round + 1 - 1))) × ((k : ℕ) → k < round + 1 → get_or (changes ++ next ∷ []) k 0 ≡ count_by (has_changed f) (range_with_len 2 k))
changes_step f changes round count next some all is each more =
    let before : round - 1 + 1 ≡ round = omega (arith, some) in
    let at : 2 + (round - 1) ≡ round + 1 = omega (arith, some) in
    let end : round + 1 - 1 ≡ round = omega arith in
    let grown : next ≡ count_by (has_changed f) (range_with_len 2 round) =
    more ∙ ap (λ c. c + one_if (has_changed f (round + 1))) is
    ∙ ap (λ r. count_by (has_changed f) (range_with_len 2 (round - 1)) + one_if (has_changed f r)) (sym at)
    ∙ sym (changes_more f (round - 1))
    ∙ ap (λ k. count_by (has_changed f) (range_with_len 2 k)) before in (
      length-append changes (next ∷ []) ∙ ap (λ k. k + 1) all,
      grown ∙ ap (λ k. count_by (has_changed f) (range_with_len 2 k)) (sym end),
      λ k lt. elim (k == round) as (λ b. (k == round) ≡ b → get_or (changes ++ next ∷ []) k 0 ≡ count_by (has_changed f) (range_with_len 2 k)) [
        | true ↦ λ here.
            let same : k ≡ round = eqb-true k round here in
            get_or_push changes next 0 k (all ∙ sym same) ∙ grown ∙ ap (λ r. count_by (has_changed f) (range_with_len 2 r)) (sym same)
        | false ↦ λ there.
            let below : k < round = under k lt there in
            get_or_append_left changes (next ∷ []) 0 k (omega (arith, below, all)) ∙ each k below
      ] refl,
    )
  where
    under : (k : ℕ) → k < round + 1 → (k == round) ≡ false → k < round
    under k lt apart = grind (arith, nat_tests)

pub runs_step : (o : Origin) (rounds d : ℕ) (runs : List DeviceRuns) (new : DeviceRuns) → length runs ≡ d → ((e : ℕ) (x : DeviceRuns) → e < d → AreRuns (cause_of o e) rounds (get_or runs e x)) → AreRuns (cause_of o d) rounds new
    → (length (runs ++ new ∷ []) ≡ d + 1) × ((e : ℕ) (x : DeviceRuns) → e < d + 1 → AreRuns (cause_of o e) rounds (get_or (runs ++ new ∷ []) e x))
runs_step o rounds d runs new all each here = (
  length-append runs (new ∷ []) ∙ ap (λ k. k + 1) all,
  λ e x lt. elim (e == d) as (λ b. (e == d) ≡ b → AreRuns (cause_of o e) rounds (get_or (runs ++ new ∷ []) e x)) [
    | true ↦ λ is.
        let same : d ≡ e = sym (eqb-true e d is) in
        subst (λ (y : DeviceRuns). AreRuns (cause_of o e) rounds y) (sym (get_or_push runs new x e (all ∙ same))) (subst (λ k. AreRuns (cause_of o k) rounds new) same here)
    | false ↦ λ not.
        let below : e < d = under e lt not in
        subst (λ (y : DeviceRuns). AreRuns (cause_of o e) rounds y) (sym (get_or_append_left runs (new ∷ []) x e (omega (arith, below, all)))) (each e x below)
  ] refl,
)
  where
    under : (k : ℕ) → k < d + 1 → (k == d) ≡ false → k < d
    under k lt apart = grind (arith, nat_tests)
