-- steps that keep the rules of a script
use Rattle.std.proofs.Common.{◌≡◌, ℕ, ◌*◌, ◌<◌, ◌≤◌, true, false, cond, List, [], ◌∷◌, ◌++◌, length, map, filter, get_or, refl, sym, ap, ◌∙◌, arith, length-append, zero-add, Option, Some, None, nat_lt, nat_le, All, Vec, Global, sum_by}
use Rattle.std.specs.List.{list_all, flat_map}
use Rattle.std.proofs.lemmas.Bool.{and_parts, and_from, ltb-false, le-leb}
use Rattle.std.proofs.lemmas.List.{get_or-map, length-map}
use Rattle.std.proofs.lemmas.List.Concat.{flat_map-cons}
use Rattle.std.proofs.lemmas.List.FromFn.{get_or-map-range_with_len}
use Rattle.std.proofs.lemmas.List.Folds.{list_all-append}
use Rattle.std.proofs.lemmas.List.Sums.{length-filter, count_by-le-length}
use Rattle.cam_types.specs.Lists.{prefixed_after}
use Rattle.cam_types.specs.Topology.{Topology}
use Rattle.event_rules.specs.Laws.{is_in_range}
use Rattle.event_rules.proofs.TestLemmas.{list_all-filter, list_all-filtered}
use Rattle.trace_file.specs.Scenarios.{is_ruled}
use Rattle.trace_file.specs.declared.step.Step.{Step}
use Rattle.trace_file.specs.declared.step.Step.TheVariants.{Act, Pause}
use Rattle.trace_file.specs.declared.script_parser.TheConstants.{MAX_ROWS}
use Rattle.trace_file.proofs.ScriptRules.{few_items}
use Rattle.conversions.specs.Arrivals.{Arrival}
use Rattle.conversions.specs.Faults.{ScriptFault, IsFault, driver_fault, steps_fault, too_many_steps, arrivals_fault}
use Rattle.conversions.specs.declared.fault.ScriptFault.TheVariants.{OutOfMemory, Steps}
use Rattle.conversions.specs.Steps.{submit, is_by, last_round, steps_from, steps_at, steps_for, steps_of, drivers_of}

-- a submit in range is one that its driver may ask for
one_ruled : (c : Topology) (d now : ℕ) (a : Arrival) → is_by d a ≡ true → is_in_range c a.submission ≡ true → list_all (is_ruled c d) (steps_from now a) ≡ true
one_ruled c d now a own ranged = elim (nat_lt now a.round) as (λ b. list_all (is_ruled c d) (cond b (Pause a.round ∷ []) [] ++ Act (submit a.submission) ∷ []) ≡ true) [
  | true ↦ rw own (and_from _ _ ranged refl)
  | false ↦ rw own (and_from _ _ ranged refl)
]

all_ruled : (c : Topology) (d : ℕ) (before own : List Arrival) → list_all (is_by d) own ≡ true → list_all (λ (a : Arrival). is_in_range c a.submission) own ≡ true → list_all (is_ruled c d) (flat_map steps_at (prefixed_after before own)) ≡ true
all_ruled c d before [] mine ranged = refl
all_ruled c d before (a ∷ own) mine ranged =
    let m = and_parts (is_by d a) (list_all (is_by d) own) mine in
    let r = and_parts (is_in_range c a.submission) (list_all (λ (x : Arrival). is_in_range c x.submission) own) ranged in
    rw (flat_map-cons steps_at (before, a) (prefixed_after (before ++ a ∷ []) own), list_all-append) (and_from _ _ (one_ruled c d (last_round before) a m.0 r.0) (all_ruled c d (before ++ a ∷ []) own m.1 r.1))

pub steps_ruled : (c : Topology) (d : ℕ) (all : List Arrival) → list_all (λ (a : Arrival). is_in_range c a.submission) all ≡ true → list_all (is_ruled c d) (steps_of all d) ≡ true
unfolding steps_of steps_for
steps_ruled c d all ranged = all_ruled c d [] (filter (is_by d) all) (list_all-filter (is_by d) all) (list_all-filtered (is_by d) (λ (a : Arrival). is_in_range c a.submission) all ranged)

-- at most two steps an arrival
one_few : (now : ℕ) (a : Arrival) → length (steps_from now a) ≤ 2
one_few now a = elim (nat_lt now a.round) as (λ b. length (cond b (Pause a.round ∷ []) [] ++ Act (submit a.submission) ∷ []) ≤ 2) [ true ↦ omega arith | false ↦ omega arith ]

all_few : (before own : List Arrival) → length (flat_map steps_at (prefixed_after before own)) ≤ 2 * length own
all_few before [] = omega arith
all_few before (a ∷ own) =
    let rest = flat_map steps_at (prefixed_after (before ++ a ∷ []) own) in
    omega (arith, ap length (flat_map-cons steps_at (before, a) (prefixed_after (before ++ a ∷ []) own)), length-append (steps_from (last_round before) a) rest, one_few (last_round before) a, all_few (before ++ a ∷ []) own)

steps_few : (all : List Arrival) (d : ℕ) → length (steps_of all d) ≤ 2 * length all
unfolding steps_of steps_for
steps_few all d = omega (arith, all_few [] (filter (is_by d) all), length-filter (is_by d) all, count_by-le-length (is_by d) all)

-- the lists of 8 drivers
driver_at : (all : List Arrival) (d : ℕ) → d < 8 → get_or (drivers_of all) d [] ≡ steps_of all d
unfolding drivers_of
driver_at all d lt = get_or-map-range_with_len (steps_of all) 0 8 d d [] lt (zero-add d)

eight : (all : List Arrival) → length (drivers_of all) ≡ 8
unfolding drivers_of
eight all = refl

pub eight_vectors : (all : List Arrival) (vs : List (Vec Step Global)) → map (λ v. v.items) vs ≡ drivers_of all → length vs ≡ 8
eight_vectors all vs same = sym (length-map vs (λ (v : Vec Step Global). v.items)) ∙ ap length same ∙ eight all

pub each_few : (all : List Arrival) (most : ℕ) (vs : List (Vec Step Global)) → length all ≤ most → length vs ≡ 8 → map (λ v. v.items) vs ≡ drivers_of all → All (λ v. length v.items ≤ 2 * most) vs
each_few all most vs few len same = λ k d within.
    let here : (get_or vs k d).items ≡ steps_of all k = sym (get_or-map (λ (v : Vec Step Global). v.items) vs k d [] within) ∙ ap (λ ls. get_or ls k []) same ∙ driver_at all k (omega arith) in
    omega (arith, ap length here, steps_few all k, few)

pub drivers_ruled : (c : Topology) (all : List Arrival) (lists : List (List Step)) → lists ≡ drivers_of all → list_all (λ (a : Arrival). is_in_range c a.submission) all ≡ true → (driver : ℕ) → driver < 8 → list_all (is_ruled c driver) (get_or lists driver []) ≡ true
drivers_ruled c all lists same ranged d lt = rw (same, driver_at all d lt) (steps_ruled c d all ranged)

-- faults
pub is_fault : (known : Option ScriptFault) (fault : ScriptFault) → known ≡ Some fault → IsFault known fault
is_fault known OutOfMemory h = tt
is_fault known _ h = h

pub count_is : (all : List Arrival) (vs : List (Vec Step Global)) (n : ℕ) → n ≡ sum_by (λ v. length v.items) vs → map (λ v. v.items) vs ≡ drivers_of all → too_many_steps n ≡ steps_fault all
unfolding steps_fault
count_is all vs n is same = ap too_many_steps (is ∙ few_items vs ∙ ap (sum_by length) same)

pub too_many_is : (all : List Arrival) (fault : ScriptFault) → driver_fault all ≡ None → steps_fault all ≡ Some fault → IsFault (arrivals_fault all) fault
too_many_is all fault none some = is_fault (arrivals_fault all) fault (rw none some)

pub none_is : (all : List Arrival) → driver_fault all ≡ None → steps_fault all ≡ None → arrivals_fault all ≡ None
none_is all none few = rw (none, few) refl

pub not_too_many : (n : ℕ) → too_many_steps n ≡ None → nat_le n MAX_ROWS ≡ true
not_too_many n h = elim (nat_lt MAX_ROWS n) as (λ b. nat_lt MAX_ROWS n ≡ b → ◌≡◌ {A = Option ScriptFault} (cond b (Some (Steps n)) None) None → nat_le n MAX_ROWS ≡ true) [
  | true ↦ λ is g. absurd (cc)
  | false ↦ λ is g. le-leb n MAX_ROWS (ltb-false MAX_ROWS n is)
] refl h
