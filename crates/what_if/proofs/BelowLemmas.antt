-- which rows are right below which, and what they take together
use Rattle.std.proofs.Common.{◌≡◌, ℕ, zero, suc, ◌+◌, ◌-◌, ◌<◌, ◌≤◌, Bool, true, false, cond, List, [], ◌∷◌, ◌++◌, get_or, refl, sym, ap, inl, inr, ◌∙◌, arith, zero-add, append-nil, Option, Some, None, ◌==◌, min, sum_by, filter, All, nat_lt, lt-ltb, eqb-true}
use Rattle.std.specs.List.{list_all, range_with_len}
use Rattle.std.specs.Option.{option_map, option_map_or}
use Rattle.std.proofs.lemmas.Bool.{cases_lt}
use Rattle.std.proofs.lemmas.Bool.Decides.{nat_tests}
use Rattle.std.proofs.lemmas.List.Elements.{filter-append, filter_passes, All-nil, All-head, All-tail, All-filter, All-weaker}
use Rattle.std.proofs.lemmas.List.Folds.{list_all-append, list_all_at}
use Rattle.std.proofs.lemmas.List.FromFn.{get_or-range_with_len, length-range_with_len}
use Rattle.std.proofs.lemmas.List.Sums.{sum_by-cons}
use Rattle.event_rules.proofs.ListFacts.{range_with_len-push}
use Rattle.round_net.specs.Instance.{Instance, rows, adapter_resource, link_resource}
use Rattle.round_net.specs.declared.limits.TheConstants.{MAX_CAP}
use Rattle.what_if.specs.Below.{is_below, rows_below, never_limits, carried, together}

-- a filtered range with one number more, which is kept or left out
filter-range : (p : ℕ → Bool) (n : ℕ) → filter p (range_with_len 0 (n + 1)) ≡ filter p (range_with_len 0 n) ++ cond (p n) (n ∷ []) []
filter-range p n = ap (filter p) (range_with_len-push 0 n ∙ ap (λ m. range_with_len 0 n ++ m ∷ []) (zero-add n)) ∙ filter-append p (range_with_len 0 n) (n ∷ [])

pub filter-range_kept : (p : ℕ → Bool) (n : ℕ) (so_far next : List ℕ) → so_far ≡ filter p (range_with_len 0 n) → p n ≡ true → next ≡ so_far ++ n ∷ [] → next ≡ filter p (range_with_len 0 (n + 1))
filter-range_kept p n so_far next is passes more = more ∙ sym (filter-range p n ∙ rw (passes, ← is) refl)

pub filter-range_left : (p : ℕ → Bool) (n : ℕ) (so_far : List ℕ) → so_far ≡ filter p (range_with_len 0 n) → p n ≡ false → so_far ≡ filter p (range_with_len 0 (n + 1))
filter-range_left p n so_far is fails = sym (filter-range p n ∙ rw (fails, ← is) (append-nil so_far))

-- a device's row is right below that of its adapter, an adapter's right below that of its link
pub data IsBelow (net : Instance) (row part : ℕ) : Type 0 where
  device : part < net.devices → row ≡ adapter_resource net (net.adapter_of part) → IsBelow net row part
  adapter : (l : ℕ) → net.devices ≤ part → part < net.devices + net.adapters → row ≡ link_resource net l → IsBelow net row part

on_link : (net : Instance) (row part : ℕ) (link : Option ℕ) → net.devices ≤ part → part < net.devices + net.adapters → option_map_or (λ above. above == row) (option_map (link_resource net) link) false ≡ true → IsBelow net row part
on_link net row part None from within is = absurd (cc)
on_link net row part (Some l) from within is = adapter l from within (sym (eqb-true (link_resource net l) row is))

below : (net : Instance) (row part : ℕ) → part < net.devices + net.adapters → is_below net row part ≡ true → IsBelow net row part
unfolding is_below
below net row part within is = elim (cases_lt part net.devices) [
  | inl lt ↦ device lt (sym (eqb-true (adapter_resource net (net.adapter_of part)) row (rw (lt-ltb part net.devices lt) at is)))
  | inr le ↦ let past : nat_lt part net.devices ≡ false = grind (arith, nat_tests) in on_link net row part (net.link_of (part - net.devices)) le within (rw past at is)
]

each_below : (net : Instance) (row : ℕ) → All (IsBelow net row) (rows_below net row)
each_below net row = λ k d lt.
    let numbers = All-filter (is_below net row) (λ part. part < net.devices + net.adapters) (range_with_len 0 (net.devices + net.adapters))
    (λ i e inside. let few = length-range_with_len 0 (net.devices + net.adapters) in omega (arith, get_or-range_with_len 0 (net.devices + net.adapters) i e (omega arith))) in
    below net row (get_or (rows_below net row) k d) (numbers k d lt) (filter_passes (is_below net row) (range_with_len 0 (net.devices + net.adapters)) k d lt)

-- so it stands before the other one
pub before_above : (net : Instance) (row part : ℕ) → IsBelow net row part → part < row
before_above net row part (device lt is) = omega arith
before_above net row part (adapter l from within is) = omega arith

-- what holds of the rows below holds of those that are carried
pub each_carried : (net : Instance) (row : ℕ) → All (IsBelow net row) (carried net row)
unfolding carried
each_carried net row = elim (never_limits net row) as (λ b. All (IsBelow net row) (cond b (rows_below net row) [])) [ true ↦ each_below net row | false ↦ All-nil (IsBelow net row) ]

-- nothing is below a device
pub carried-device : (net : Instance) (row : ℕ) → row < net.devices → carried net row ≡ []
carried-device net row within = none (carried net row) (each_carried net row)
  where
    past : (part : ℕ) → IsBelow net row part → ⊥
    past part (device lt is) = omega arith
    past part (adapter l from inside is) = omega arith

    none : (parts : List ℕ) → All (IsBelow net row) parts → parts ≡ []
    none [] h = refl
    none (part ∷ parts) h = absurd (past part (All-head (IsBelow net row) part parts h))

-- rows that take the same take the same together
sum_by-same : (f g : ℕ → ℕ) (parts : List ℕ) → All (λ part. f part ≡ g part) parts → sum_by f parts ≡ sum_by g parts
sum_by-same f g [] h = refl
sum_by-same f g (part ∷ parts) h =
    let here : f part ≡ g part = All-head (λ x. f x ≡ g x) part parts h in
    omega (arith, sum_by-cons f part parts, sum_by-cons g part parts, sum_by-same f g parts (All-tail (λ x. f x ≡ g x) part parts h))

pub together-same : (f g : ℕ → ℕ) (parts : List ℕ) → All (λ part. f part ≡ g part) parts → together f parts ≡ together g parts
together-same f g parts h = ap (λ n. min n MAX_CAP) (sum_by-same f g parts h)

-- each is a row of the net
pub rows_below-within : (net : Instance) (row : ℕ) → row < rows net → All (λ part. part < rows net) (rows_below net row)
rows_below-within net row within = All-weaker (IsBelow net row) (λ part. part < rows net) (λ part is. let lt = before_above net row part is in omega arith) (rows_below net row) (each_below net row)

-- the rounds so far in which a row takes enough, with one more; and that it doesn't in one settles it
pub each_more : (p : ℕ → Bool) (n : ℕ) → list_all p (range_with_len 1 n) ≡ true → p (n + 1) ≡ true → list_all p (range_with_len 1 (n + 1)) ≡ true
each_more p n all here =
    let next : 1 + n ≡ n + 1 = omega arith in
    let one : p (1 + n) ≡ true = ap p next ∙ here in
    ap (list_all p) (range_with_len-push 1 n) ∙ list_all-append p (range_with_len 1 n) ((1 + n) ∷ []) ∙ rw (all, one) refl

pub not_each : (p : ℕ → Bool) (n r : ℕ) → r < n → p (r + 1) ≡ false → list_all p (range_with_len 1 n) ≡ false
not_each p n r lt here =
    let next : 1 + r ≡ r + 1 = omega arith in
    let there : get_or (range_with_len 1 n) r 0 ≡ r + 1 = get_or-range_with_len 1 n r 0 lt ∙ next in
    list_all_at p (range_with_len 1 n) r 0 (omega (arith, length-range_with_len 1 n)) (ap p there ∙ here)

-- what holds of each round
pub all_rounds : (p : ℕ → Bool) (from n : ℕ) → ((r : ℕ) → from ≤ r → r < from + n → p r ≡ true) → list_all p (range_with_len from n) ≡ true
all_rounds p from zero each = refl
all_rounds p from (suc n) each = rw (each from (omega arith) (omega arith)) (all_rounds p (from + 1) n (λ r after before. each r (omega arith) (omega arith)))

-- a row that never limits those right below it carries them
pub carried-below : (net : Instance) (row : ℕ) → never_limits net row ≡ true → carried net row ≡ rows_below net row
unfolding carried
carried-below net row never = rw never refl
