-- spans of gaps, and the spare starts in them
use Rattle.std.proofs.Common.{◌≡◌, ℕ, ◌+◌, ◌-◌, ◌/◌, ◌<◌, ◌≤◌, ◌==◌, ◌&&◌, ◌||◌, not, Bool, true, false, cond, [], ◌∷◌, refl, sym, ap, ◌∙◌, arith, inl, inr, nat_le}
use Rattle.std.specs.List.{count_by, sum_by}
use Rattle.std.specs.Option.{option_map_or}
use Rattle.std.proofs.lemmas.Bool.{cases_lt, cases_eq, eq-eqb, ne_eqb}
use Rattle.std.proofs.Math.Nat.{mul-le-mul_left}
use Rattle.std.proofs.lemmas.Nat.{div_below}
use Rattle.std.proofs.lemmas.List.Sums.{sum_by-append}
use Rattle.slots.specs.Gaps.{begins, beginnings, span_end, spare_within}
use Rattle.slots.proofs.RangeLemmas.{find-first, filter-same, filter-one}

-- how many spare starts of the span that begins at a time pass a test
abbrev pub weight : (ℕ → Bool) → ℕ → (ℕ → Bool) → ℕ → ℕ → ℕ
weight p service gap last from = count_by p (spare_within service from (span_end gap last from))

-- those of all spans that begin before a time
abbrev pub begun_sum : (ℕ → Bool) → ℕ → (ℕ → Bool) → ℕ → ℕ → ℕ
begun_sum p service gap last n = sum_by (weight p service gap last) (beginnings gap n)

-- a level has a gap if the lowest with one is no higher
abbrev pub gap_of : (ℕ → ℕ) → ℕ → ℕ → Bool
gap_of level k t = nat_le (level t) k

-- a span ends at the first time without a gap
pub span_end-is : (gap : ℕ → Bool) (last from t : ℕ) → from < t → ((s : ℕ) → from ≤ s → s < t → gap s ≡ true) → gap t ≡ false → ((s : ℕ) → last ≤ s → gap s ≡ false) → span_end gap last from ≡ t
span_end-is gap last from t later all here over =
    let within' : t ≤ last = elim (cases_lt last t) [
      | inr le ↦ le
      | inl past ↦ elim (cases_lt last from) [
        | inl before ↦ absurd (both (gap from) (all from (omega arith) later) (over from (omega arith)))
        | inr le ↦ absurd (both (gap last) (all last le past) (over last (omega arith)))
      ]
    ] in
    ap (λ o. option_map_or (λ s. s) o last) (find-first (λ s. not (gap s)) (from + 1) (last - from) t (omega arith) (omega arith) (λ s low high. ap not (all s (omega arith) high)) (ap not here))
  where
    both : (b : Bool) → b ≡ true → b ≡ false → ⊥
    both b yes' no' = let e = sym yes' ∙ no' in cc

-- where a span begins
pub begins-is : (gap : ℕ → Bool) (t : ℕ) → gap t ≡ true → (0 < t → gap (t - 1) ≡ false) → begins gap t ≡ true
begins-is gap t here before = rw here (elim (cases_eq t 0) [
  | inl first ↦ rw (eq-eqb t 0 first) refl
  | inr later ↦ let off = before (let some = later in omega arith) in rw off (elim (t == 0) as (λ b. b || true ≡ true) [ true ↦ refl | false ↦ refl ])
])

pub begins-goes_on : (gap : ℕ → Bool) (t : ℕ) → 0 < t → gap (t - 1) ≡ true → begins gap t ≡ false
begins-goes_on gap t later before = rw (ne_eqb t 0 (λ e. absurd (omega arith)), before) (elim (gap t) as (λ b. b && false ≡ false) [ true ↦ refl | false ↦ refl ])

pub begins-none : (gap : ℕ → Bool) (t : ℕ) → gap t ≡ false → begins gap t ≡ false
begins-none gap t none = rw none refl

-- what begins up to before a time, and at it
pub begun_sum-same : (p : ℕ → Bool) (service : ℕ) (gap : ℕ → Bool) (last m n : ℕ) → m ≤ n → ((t : ℕ) → m ≤ t → t < n → begins gap t ≡ false) → begun_sum p service gap last n ≡ begun_sum p service gap last m
begun_sum-same p service gap last m n le none = ap (sum_by (weight p service gap last)) (filter-same (begins gap) m n le none)

pub begun_sum-one : (p : ℕ → Bool) (service : ℕ) (gap : ℕ → Bool) (last n : ℕ) → begun_sum p service gap last (n + 1) ≡ begun_sum p service gap last n + cond (begins gap n) (weight p service gap last n) 0
begun_sum-one p service gap last n =
    ap (sum_by (weight p service gap last)) (filter-one (begins gap) n) ∙ sum_by-append (weight p service gap last) (beginnings gap n) (cond (begins gap n) (n ∷ []) []) ∙ ap (λ m. begun_sum p service gap last n + m) (one (begins gap n))
  where
    one : (b : Bool) → sum_by (weight p service gap last) (cond b (n ∷ []) []) ≡ cond b (weight p service gap last n) 0
    one true = omega arith
    one false = refl

-- a quotient is no more than what is divided
pub div-le : (n k : ℕ) → 1 ≤ k → n / k ≤ n
div-le n k some = let below : n / k < n + 1 = div_below n k (n + 1) some (omega (arith, mul-le-mul_left (n + 1) some)) in omega arith
