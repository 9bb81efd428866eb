-- who is in the way, stay by stay
use Rattle.std.proofs.Common.{append-nil, drop, set, length-set, get_or-set_same, get_or-set_other, ext_get_or, eq-eqb, eqb-true, ◌≡◌, ◌≢◌, ℕ, zero, suc, ◌+◌, ◌-◌, ◌<◌, ◌≤◌, Bool, true, false, cond, List, [], ◌∷◌, ◌++◌, length, map, filter, get_or, refl, sym, ap, ◌∙◌, arith, Option, Some, None, ◌==◌, ◌&&◌, ◌||◌, nat_lt, nat_le, replicate, take}
use Rattle.std.specs.List.{range_with_len}
use Rattle.std.proofs.lemmas.Bool.Decides.{nat_tests}
use Rattle.std.proofs.lemmas.List.{length-replicate, take_all, drop_all}
use Rattle.std.proofs.lemmas.List.Elements.{filter-append}
use Rattle.std.proofs.lemmas.List.FromFn.{get_or-map-range_with_len, length-map-range_with_len}
use Rattle.std.proofs.lemmas.List.Sums.{fold-append}
use Rattle.cam_types.specs.Questions.{is_on}
use Rattle.cam_types.specs.Topology.{Topology}
use Rattle.round_net.specs.declared.cause.WaitCause.{WaitCause}
use Rattle.round_net.specs.declared.cause.WaitCause.TheVariants.{Error, Caller, AdapterFrozen, DeviceStopped, AdapterStopped, LinkStopped, DeviceFull, AdapterFull, LinkFull, NotAsked}
use Rattle.wait_causes.specs.Origins.{cause_of, config_in, instance_in, known_of}
use Rattle.wait_causes.specs.declared.origin.Origin.{Origin}
use Rattle.wait_causes.specs.Tables.{stays_of}
use Rattle.wait_causes.specs.declared.explained_stay.ExplainedStay.{ExplainedStay}
use Rattle.wait_causes.specs.declared.table.Grouping.TheVariants.{Device}
use Rattle.wait_causes.specs.InTheWay.{shares_link, is_there, served_to, is_served, is_then, is_candidate, rather, first_of, in_way, last_for, with_candidate, is_above, NeverAbove, HasCandidates, ArePut}

first-append : (xs : List ExplainedStay) (s : ExplainedStay) → first_of (xs ++ s ∷ []) ≡ Some (rather (first_of xs) s)
first-append xs s = fold-append (λ t s. Some (rather t s)) None xs (s ∷ [])

put_cases : (p : ExplainedStay → Bool) (xs : List ExplainedStay) (s : ExplainedStay) (b : Bool) → p s ≡ b → cond b (Some (rather (first_of (filter p xs)) s)) (first_of (filter p xs)) ≡ first_of (filter p (xs ++ s ∷ []))
put_cases p xs s true e = sym (ap first_of (filter-append p xs (s ∷ []) ∙ ap (λ ys. filter p xs ++ ys) (rw e refl)) ∙ first-append (filter p xs) s)
put_cases p xs s false e = sym (ap first_of (filter-append p xs (s ∷ []) ∙ ap (λ ys. filter p xs ++ ys) (rw e refl)) ∙ ap first_of (append-nil (filter p xs)))

-- one stay more
pub put_more : (o : Origin) (d r : ℕ) (xs : List ExplainedStay) (s : ExplainedStay) → with_candidate o d r s (first_of (filter (is_candidate o d r) xs)) ≡ first_of (filter (is_candidate o d r) (xs ++ s ∷ []))
put_more o d r xs s = put_cases (is_candidate o d r) xs s (is_candidate o d r s) refl

-- a stay that is at none of what the device's stays wait for is no candidate
pub far_there : (c : Topology) (d : ℕ) (cause : WaitCause) (s : ExplainedStay) → ((s.device == d) || (is_on c s.adapter d || shares_link c s.adapter d)) ≡ false → is_there c d cause s ≡ false
far_there c d cause s far =
    let one = or_parts (s.device == d) (is_on c s.adapter d || shares_link c s.adapter d) far in
    let two = or_parts (is_on c s.adapter d) (shares_link c s.adapter d) one.1 in
    by cause one.0 two.0 two.1
  where
    or_parts : (a b : Bool) → (a || b) ≡ false → (a ≡ false) × (b ≡ false)
    or_parts false false e = (refl, refl)
    or_parts false true e = (refl, e)
    or_parts true b e = absurd (cc)

    by : (cause : WaitCause) → (s.device == d) ≡ false → is_on c s.adapter d ≡ false → shares_link c s.adapter d ≡ false → is_there c d cause s ≡ false
    by Error e f g = refl
    by Caller e f g = refl
    by AdapterFrozen e f g = refl
    by DeviceStopped e f g = e
    by AdapterStopped e f g = f
    by LinkStopped e f g = g
    by DeviceFull e f g = e
    by AdapterFull e f g = f
    by LinkFull e f g = g
    by NotAsked e f g = refl

-- nor is one in a round before its send, or after its last
then_none : (known : Bool) (rounds : ℕ) (cause : WaitCause) (r : ℕ) (s : ExplainedStay) → (s.live == r) ≡ false → (known && is_served rounds r s) ≡ false → is_then known rounds cause r s ≡ false
then_none known rounds Error r s e f = refl
then_none known rounds Caller r s e f = refl
then_none known rounds AdapterFrozen r s e f = refl
then_none known rounds DeviceStopped r s e f = f
then_none known rounds AdapterStopped r s e f = f
then_none known rounds LinkStopped r s e f = f
then_none known rounds DeviceFull r s e f = e
then_none known rounds AdapterFull r s e f = e
then_none known rounds LinkFull r s e f = e
then_none known rounds NotAsked r s e f = refl

and_none : (a b : Bool) → b ≡ false → (a && b) ≡ false
and_none true b e = e
and_none false b e = refl

and_first : (a b : Bool) → a ≡ false → (a && b) ≡ false
and_first true b e = absurd (cc)
and_first false b e = refl

before_send : (known : Bool) (rounds : ℕ) (cause : WaitCause) (r : ℕ) (s : ExplainedStay) → r < s.live → is_then known rounds cause r s ≡ false
before_send known rounds cause r s lt =
    let apart : (s.live == r) ≡ false = grind (arith, nat_tests) in
    let early : nat_lt s.live r ≡ false = grind (arith, nat_tests) in
    then_none known rounds cause r s apart (and_none known (is_served rounds r s) (and_first (nat_lt s.live r) (nat_le r (served_to rounds s)) early))

after_last : (known : Bool) (rounds : ℕ) (cause : WaitCause) (r : ℕ) (s : ExplainedStay) → last_for known rounds s < r → r ≤ rounds → is_then known rounds cause r s ≡ false
after_last true rounds cause r s lt le =
    let apart : (s.live == r) ≡ false = grind (arith, nat_tests) in
    let late : nat_le r (served_to rounds s) ≡ false = grind (arith, nat_tests) in
    then_none true rounds cause r s apart (and_none (nat_lt s.live r) (nat_le r (served_to rounds s)) late)
after_last false rounds cause r s lt le =
    let apart : (s.live == r) ≡ false = grind (arith, nat_tests) in
    then_none false rounds cause r s apart refl

-- what stands in a round that isn't one of a stay's stays as it was
stays_as : (b : Bool) (x y : Option ExplainedStay) → b ≡ false → cond b x y ≡ y
stays_as true x y e = absurd (cc)
stays_as false x y e = refl

unput : (o : Origin) (d r : ℕ) (s : ExplainedStay) (w : Option ExplainedStay) → is_candidate o d r s ≡ false → with_candidate o d r s w ≡ w
unput o d r s w e = stays_as (is_candidate o d r s) (Some (rather w s)) w e

pub unput_far : (o : Origin) (d : ℕ) (s : ExplainedStay) (ws : List (Option ExplainedStay)) → ((s.device == d) || (is_on (config_in o) s.adapter d || shares_link (config_in o) s.adapter d)) ≡ false → ArePut o d s ws ws
unput_far o d s ws far = record {
  all = refl;
  each = λ k x lt. sym (unput o d (k + 1) s (get_or ws k x) (and_first _ _ (far_there (config_in o) d (cause_of o d (k + 1)) s far)));
}

-- nor is one of another device, where the device's stays never wait for what is above it
local_there : (c : Topology) (d : ℕ) (cause : WaitCause) (s : ExplainedStay) → (s.device == d) ≡ false → is_above cause ≡ false → is_there c d cause s ≡ false
local_there c d Error s e f = refl
local_there c d Caller s e f = refl
local_there c d AdapterFrozen s e f = refl
local_there c d DeviceStopped s e f = e
local_there c d AdapterStopped s e f = absurd (cc)
local_there c d LinkStopped s e f = absurd (cc)
local_there c d DeviceFull s e f = e
local_there c d AdapterFull s e f = absurd (cc)
local_there c d LinkFull s e f = absurd (cc)
local_there c d NotAsked s e f = refl

not_local : (o : Origin) (d r : ℕ) (s : ExplainedStay) → NeverAbove o d (instance_in o).rounds → 1 ≤ r → r ≤ (instance_in o).rounds → (s.device == d) ≡ false → is_candidate o d r s ≡ false
not_local o d r s never first last apart = and_first _ _ (local_there (config_in o) d (cause_of o d r) s apart (never r first last))

kept_among : {X : Type 0} (p q : X → Bool) (xs : List X) → ((x : X) → q x ≡ false → p x ≡ false) → filter p (filter q xs) ≡ filter p xs
kept_among p q [] h = refl
kept_among {X} p q (x ∷ xs) h = elim (q x) as (λ b. q x ≡ b → filter p (cond b (x ∷ filter q xs) (filter q xs)) ≡ cond (p x) (x ∷ filter p xs) (filter p xs)) [
  | true ↦ λ e. ap (λ (ys : List X). cond (p x) (x ∷ ys) ys) (kept_among p q xs h)
  | false ↦ λ e. kept_among p q xs h ∙ sym (rw (h x e) refl)
] refl

pub all_are_near : (o : Origin) (d : ℕ) (stays list : List ExplainedStay) → list ≡ stays → HasCandidates o d stays list
all_are_near o d stays list is r first last = ap (filter (is_candidate o d r)) is

pub own_are_near : (o : Origin) (d : ℕ) (stays list : List ExplainedStay) → NeverAbove o d (instance_in o).rounds → list ≡ stays_of Device stays d → HasCandidates o d stays list
own_are_near o d stays list never is r first last = ap (filter (is_candidate o d r)) is ∙ kept_among (is_candidate o d r) (λ (s : ExplainedStay). s.device == d) stays (λ s apart. not_local o d r s never first last apart)

-- one round more in which a device's stays don't wait for what is above it
pub never_more : (o : Origin) (d n : ℕ) → NeverAbove o d n → is_above (cause_of o d (n + 1)) ≡ false → NeverAbove o d (n + 1)
never_more o d n never last r first le = elim (nat_le r n) as (λ b. nat_le r n ≡ b → is_above (cause_of o d r) ≡ false) [
  | true ↦ λ e. never r first (grind (arith, nat_tests))
  | false ↦ λ e.
      let late : n < r = grind (arith, nat_tests) in
      let at : r ≡ n + 1 = omega (arith, late, le) in
      ap (λ j. is_above (cause_of o d j)) at ∙ last
] refl

-- so many rounds are done
pub record ArePutBelow (o : Origin) (d : ℕ) (s : ExplainedStay) (n : ℕ) (old new : List (Option ExplainedStay)) : Type 0 where
  pub all : length new ≡ length old
  pub done : (k : ℕ) (x : Option ExplainedStay) → k < length old → k < n → get_or new k x ≡ with_candidate o d (k + 1) s (get_or old k x)
  pub due : (k : ℕ) (x : Option ExplainedStay) → k < length old → n ≤ k → get_or new k x ≡ get_or old k x

pub below_none : (o : Origin) (d : ℕ) (s : ExplainedStay) (n : ℕ) (ws : List (Option ExplainedStay)) → n ≤ s.live - 1 → ArePutBelow o d s n ws ws
below_none o d s n ws le = record {
  all = refl;
  done = λ k x lt less. sym (unput o d (k + 1) s (get_or ws k x) (and_none _ _ (before_send (known_of o).completions (instance_in o).rounds (cause_of o d (k + 1)) (k + 1) s (omega (arith, le, less)))));
  due = λ k x lt ge. refl;
}

pub below_all : (o : Origin) (d : ℕ) (s : ExplainedStay) (n : ℕ) (old new : List (Option ExplainedStay)) → length old ≡ (instance_in o).rounds → last_for (known_of o).completions (instance_in o).rounds s ≤ n → ArePutBelow o d s n old new → ArePut o d s old new
below_all o d s n old new size le put = record {
  all = put.all;
  each = λ k x lt. elim (nat_lt k n) as (λ b. nat_lt k n ≡ b → get_or new k x ≡ with_candidate o d (k + 1) s (get_or old k x)) [
    | true ↦ λ e. put.done k x lt (grind (arith, nat_tests))
    | false ↦ λ e.
        let ge : n ≤ k = grind (arith, nat_tests) in
        put.due k x lt ge ∙ sym (unput o d (k + 1) s (get_or old k x) (and_none _ _ (after_last (known_of o).completions (instance_in o).rounds (cause_of o d (k + 1)) (k + 1) s (omega (arith, le, ge)) (omega (arith, lt, size)))))
  ] refl;
}

-- one round more: one in which the stay may have been in the way, and one in which it can't
pub below_put : (o : Origin) (d : ℕ) (s : ExplainedStay) (n : ℕ) (old now new : List (Option ExplainedStay)) (w x : Option ExplainedStay) → ArePutBelow o d s n old now → n < length old → is_candidate o d (n + 1) s ≡ true → w ≡ get_or now n x → new ≡ set now n (Some (rather w s)) →
    ArePutBelow o d s (n + 1) old new
below_put o d s n old now new w x put lt passes read is = record {
  all = ap (λ (ws : List (Option ExplainedStay)). length ws) is ∙ length-set now n (Some (rather w s)) ∙ put.all;
  done = λ k y inside less. elim (k == n) as (λ b. (k == n) ≡ b → get_or new k y ≡ with_candidate o d (k + 1) s (get_or old k y)) [
    | true ↦ λ e.
        let at : k ≡ n = eqb-true k n e in
        let here : w ≡ get_or old n y = read ∙ get_or-default now n x y (omega (arith, lt, put.all)) ∙ put.due n y lt (omega arith) in
        let wanted : with_candidate o d (n + 1) s (get_or old n y) ≡ Some (rather (get_or old n y) s) = put_yes (is_candidate o d (n + 1) s) (Some (rather (get_or old n y) s)) (get_or old n y) passes in
        ap (λ j. get_or new j y) at ∙ ap (λ (ws : List (Option ExplainedStay)). get_or ws n y) is ∙ get_or-set_same now n (Some (rather w s)) y (omega (arith, lt, put.all))
        ∙ ap (λ (v : Option ExplainedStay). Some (rather v s)) here ∙ sym wanted ∙ ap (λ j. with_candidate o d (j + 1) s (get_or old j y)) (sym at)
    | false ↦ λ e.
        let apart : k ≢ n = (λ at. let yes : (k == n) ≡ true = eq-eqb k n at in cc) in
        ap (λ (ws : List (Option ExplainedStay)). get_or ws k y) is ∙ get_or-set_other now n k (Some (rather w s)) y apart ∙ put.done k y inside (before k apart less)
  ] refl;
  due = λ k y inside le.
      let apart : k ≢ n = (λ at. omega (arith, at, le)) in
      ap (λ (ws : List (Option ExplainedStay)). get_or ws k y) is ∙ get_or-set_other now n k (Some (rather w s)) y apart ∙ put.due k y inside (omega (arith, le));
}
  where
    put_yes : (b : Bool) (u v : Option ExplainedStay) → b ≡ true → cond b u v ≡ u
    put_yes true u v e = refl
    put_yes false u v e = absurd (cc)

    before : (k : ℕ) → k ≢ n → k < n + 1 → k < n
    before k apart less = elim (nat_lt k n) as (λ b. nat_lt k n ≡ b → k < n) [
      | true ↦ λ e. grind (arith, nat_tests)
      | false ↦ λ e. absurd (apart (let ge : n ≤ k = grind (arith, nat_tests) in omega (arith, ge, less)))
    ] refl

    get_or-default : (ws : List (Option ExplainedStay)) (k : ℕ) (u v : Option ExplainedStay) → k < length ws → get_or ws k u ≡ get_or ws k v
    get_or-default [] k u v lt = absurd (omega arith)
    get_or-default (w ∷ ws) zero u v lt = refl
    get_or-default (w ∷ ws) (suc k) u v lt = get_or-default ws k u v (omega arith)

pub below_kept : (o : Origin) (d : ℕ) (s : ExplainedStay) (n : ℕ) (old now : List (Option ExplainedStay)) → ArePutBelow o d s n old now → is_candidate o d (n + 1) s ≡ false → ArePutBelow o d s (n + 1) old now
below_kept o d s n old now put fails = record {
  all = put.all;
  done = λ k y inside less. elim (k == n) as (λ b. (k == n) ≡ b → get_or now k y ≡ with_candidate o d (k + 1) s (get_or old k y)) [
    | true ↦ λ e.
        let at : k ≡ n = eqb-true k n e in
        put.due k y inside (omega (arith, at)) ∙ sym (unput o d (k + 1) s (get_or old k y) (ap (λ j. is_candidate o d (j + 1) s) at ∙ fails))
    | false ↦ λ e. put.done k y inside (let apart : k ≢ n = (λ at. let yes : (k == n) ≡ true = eq-eqb k n at in cc) in before k apart less)
  ] refl;
  due = λ k y inside le. put.due k y inside (omega (arith, le));
}
  where
    before : (k : ℕ) → k ≢ n → k < n + 1 → k < n
    before k apart less = elim (nat_lt k n) as (λ b. nat_lt k n ≡ b → k < n) [
      | true ↦ λ e. grind (arith, nat_tests)
      | false ↦ λ e. absurd (apart (let ge : n ≤ k = grind (arith, nat_tests) in omega (arith, ge, less)))
    ] refl

-- all stays, one after another
pub record AreWays (o : Origin) (d : ℕ) (xs : List ExplainedStay) (ways : List (Option ExplainedStay)) : Type 0 where
  pub all : length ways ≡ (instance_in o).rounds
  pub each : (k : ℕ) (x : Option ExplainedStay) → k < (instance_in o).rounds → get_or ways k x ≡ first_of (filter (is_candidate o d (k + 1)) xs)

pub ways_none : (o : Origin) (d n : ℕ) (ways : List (Option ExplainedStay)) → n ≡ (instance_in o).rounds → ways ≡ replicate n None → AreWays o d [] ways
ways_none o d n ways size is = record {
  all = ap (λ (ws : List (Option ExplainedStay)). length ws) is ∙ length-replicate n None ∙ size;
  each = λ k x lt. ap (λ (ws : List (Option ExplainedStay)). get_or ws k x) is ∙ none_at n k x (omega (arith, lt, size));
}
  where
    none_at : (n k : ℕ) (x : Option ExplainedStay) → k < n → ◌≡◌ {A = Option ExplainedStay} (get_or (replicate n None) k x) None
    none_at zero k x lt = absurd (omega arith)
    none_at (suc n) zero x lt = refl
    none_at (suc n) (suc k) x lt = none_at n k x (omega arith)

pub ways_more : (o : Origin) (d : ℕ) (xs : List ExplainedStay) (s : ExplainedStay) (old new : List (Option ExplainedStay)) → AreWays o d xs old → ArePut o d s old new → AreWays o d (xs ++ s ∷ []) new
ways_more o d xs s old new are put = record {
  all = put.all ∙ are.all;
  each = λ k x lt. put.each k x (omega (arith, lt, are.all)) ∙ ap (with_candidate o d (k + 1) s) (are.each k x lt) ∙ put_more o d (k + 1) xs s;
}

pub ways_all : (o : Origin) (d : ℕ) (xs list : List ExplainedStay) (ways : List (Option ExplainedStay)) → HasCandidates o d xs list → AreWays o d list ways → ways ≡ map (in_way o xs d) (range_with_len 1 (instance_in o).rounds)
unfolding in_way
ways_all o d xs list ways has are =
    ext_get_or None ways (map (λ r. first_of (filter (is_candidate o d r) xs)) (range_with_len 1 (instance_in o).rounds))
    (are.all ∙ sym (length-map-range_with_len (λ r. first_of (filter (is_candidate o d r) xs)) 1 (instance_in o).rounds))
    (λ k lt.
    let inside : k < (instance_in o).rounds = omega (arith, lt, are.all) in
    are.each k None inside ∙ ap first_of (has (k + 1) (omega arith) (omega (arith, inside))) ∙ sym (get_or-map-range_with_len (λ r. first_of (filter (is_candidate o d r) xs)) 1 (instance_in o).rounds k (k + 1) None inside (omega arith)))

-- a slice of a vector's length is written back whole
pub written_back : {X : Type 0} (new items : List X) (len : ℕ) → length new ≡ len → length items ≡ len → take len (new ++ drop (length new) items) ≡ new
written_back new items len size same =
    let rest = drop_all (length new) items (omega (arith, size, same)) in
    ap (λ ys. take len (new ++ ys)) rest ∙ ap (take len) (append-nil new) ∙ take_all len new (omega (arith, size))
