-- amounts, stay by stay
use mathlib.Core.Path.{Path}
use Rattle.std.proofs.Common.{◌≡◌, ◌≢◌, ℕ, zero, suc, ◌+◌, ◌*◌, ◌<◌, ◌≤◌, Bool, true, false, cond, List, [], ◌∷◌, ◌++◌, length, map, set, get_or, sum_by, refl, sym, ap, subst, ◌∙◌, arith, Option, ◌==◌, zero-add, eq-eqb, length-set, get_or-set_same, get_or-set_other, ext_get_or, append-nil, replicate}
use Rattle.std.specs.List.{range_with_len}
use Rattle.std.proofs.lemmas.Bool.{eqb-true}
use Rattle.std.proofs.lemmas.List.Elements.{filter-append}
use Rattle.std.proofs.lemmas.List.FromFn.{get_or-map-range_with_len, length-map-range_with_len}
use Rattle.std.proofs.lemmas.List.Sums.{sum_by-append, sum_by-cons}
use Rattle.wait_causes.specs.Tables.{number, stays_of}
use Rattle.wait_causes.specs.declared.table.Grouping.{Grouping}
use Rattle.wait_causes.specs.declared.explained_stay.ExplainedStay.{ExplainedStay}
use Rattle.wait_causes.specs.BlameAmounts.{waited_for, avoidable_for, cost_for, amounts_of, with_stay, IsSmall, Amounts}

-- the amounts of no stay
abbrev pub none : Amounts
none = record { waited = 0; avoidable = 0; cost = 0 }

pub same_amounts : (a b c a' b' c' : ℕ) → a ≡ a' → b ≡ b' → c ≡ c' → Path Amounts (record { waited = a; avoidable = b; cost = c }) (record { waited = a'; avoidable = b'; cost = c' })
same_amounts a b c a' b' c' ea eb ec = rw (ea, eb, ec) refl

sum_push : {X : Type 0} (f : X → ℕ) (xs : List X) (x : X) → sum_by f xs + f x ≡ sum_by f (xs ++ x ∷ [])
sum_push f xs x = omega (arith, sum_by-append f xs (x ∷ []), sum_by-cons f x [])

with_last : (who : ℕ → ℕ → Option ℕ) (m : Option ℕ) (xs : List ExplainedStay) (s : ExplainedStay) → with_stay who m (amounts_of who m xs) s ≡ amounts_of who m (xs ++ s ∷ [])
with_last who m xs s = same_amounts _ _ _ _ _ _ (sum_push (waited_for who m) xs s) (sum_push (avoidable_for who m) xs s) (sum_push (cost_for who m) xs s)

joined : (by : Grouping) (xs : List ExplainedStay) (s : ExplainedStay) (n : ℕ) (b : Bool) → (number by s == n) ≡ b → stays_of by (xs ++ s ∷ []) n ≡ stays_of by xs n ++ cond b (s ∷ []) []
joined by xs s n true is = filter-append (λ x. number by x == n) xs (s ∷ []) ∙ ap (λ ys. stays_of by xs n ++ ys) (rw is refl)
joined by xs s n false is = filter-append (λ x. number by x == n) xs (s ∷ []) ∙ ap (λ ys. stays_of by xs n ++ ys) (rw is refl)

-- those of each number
abbrev pub amounts_at : (ℕ → ℕ → Option ℕ) → Option ℕ → Grouping → List ExplainedStay → ℕ → Amounts
amounts_at who m by xs n = amounts_of who m (stays_of by xs n)

pub amounts_none : (who : ℕ → ℕ → Option ℕ) (m : Option ℕ) (by : Grouping) (count : ℕ) → replicate count none ≡ map (amounts_at who m by []) (range_with_len 0 count)
amounts_none who m by count = from count 0
  where
    from : (n a : ℕ) → replicate n none ≡ map (amounts_at who m by []) (range_with_len a n)
    from zero a = refl
    from (suc n) a = ap (λ (xs : List Amounts). none ∷ xs) (from n (a + 1))

pub amounts_more : (who : ℕ → ℕ → Option ℕ) (m : Option ℕ) (by : Grouping) (count : ℕ) (xs : List ExplainedStay) (s : ExplainedStay) (old : List Amounts) (was now d : Amounts) (n : ℕ) →
    old ≡ map (amounts_at who m by xs) (range_with_len 0 count) → n ≡ number by s → n < count → was ≡ get_or old n d → now ≡ with_stay who m was s → set old n now ≡ map (amounts_at who m by (xs ++ s ∷ [])) (range_with_len 0 count)
amounts_more who m by count xs s old was now d n are is lt read found =
    let size : length old ≡ count = ap (λ (ys : List Amounts). length ys) are ∙ length-map-range_with_len (amounts_at who m by xs) 0 count in
    let here : was ≡ amounts_at who m by xs n = read ∙ ap (λ (ys : List Amounts). get_or ys n d) are ∙ get_or-map-range_with_len (amounts_at who m by xs) 0 count n n d lt (zero-add n) in
    ext_get_or d (set old n now) (map (amounts_at who m by (xs ++ s ∷ [])) (range_with_len 0 count))
    (length-set old n now ∙ size ∙ sym (length-map-range_with_len (amounts_at who m by (xs ++ s ∷ [])) 0 count))
    (λ k inside.
    let within : k < count = omega (arith, inside, length-set old n now, size) in
    let due : get_or (map (amounts_at who m by (xs ++ s ∷ [])) (range_with_len 0 count)) k d ≡ amounts_at who m by (xs ++ s ∷ []) k = get_or-map-range_with_len (amounts_at who m by (xs ++ s ∷ [])) 0 count k k d within (zero-add k) in
    elim (number by s == k) as (λ b. (number by s == k) ≡ b → get_or (set old n now) k d ≡ get_or (map (amounts_at who m by (xs ++ s ∷ [])) (range_with_len 0 count)) k d) [
      | true ↦ λ e.
          let at : k ≡ n = sym (eqb-true (number by s) k e) ∙ sym is in
          ap (λ j. get_or (set old n now) j d) at
          ∙ get_or-set_same old n now d (omega (arith, lt, size))
          ∙ found ∙ ap (λ (a : Amounts). with_stay who m a s) here ∙ with_last who m (stays_of by xs n) s
          ∙ sym (due ∙ ap (amounts_of who m) (joined by xs s k true e) ∙ ap (λ j. amounts_of who m (stays_of by xs j ++ s ∷ [])) at)
      | false ↦ λ e.
          let apart : k ≢ n = (λ at. let yes : (number by s == k) ≡ true = eq-eqb (number by s) k (sym is ∙ sym at) in cc) in
          get_or-set_other old n k now d apart
          ∙ ap (λ (ys : List Amounts). get_or ys k d) are
          ∙ get_or-map-range_with_len (amounts_at who m by xs) 0 count k k d within (zero-add k)
          ∙ sym (due ∙ ap (amounts_of who m) (joined by xs s k false e ∙ append-nil (stays_of by xs k)))
    ] refl)

pub small_none : (count k : ℕ) (d : Amounts) → k < count → IsSmall 0 (get_or (replicate count none) k d)
small_none zero k d lt = absurd (omega arith)
small_none (suc n) zero d lt = record { waited = omega arith; avoidable = omega arith; cost = omega arith }
small_none (suc n) (suc k) d lt = small_none n k d (omega arith)

pub weaker : (most more : ℕ) (a : Amounts) → most ≤ more → IsSmall most a → IsSmall more a
weaker most more a le small = (let w = small.waited in let v = small.avoidable in let c = small.cost in record { waited = omega (arith, w, le); avoidable = omega (arith, v, le); cost = omega (arith, c, le) })

-- one of them is a bit larger
pub small_more : (i count n : ℕ) (old : List Amounts) (now d : Amounts) → length old ≡ count → n < count → ((k : ℕ) (d : Amounts) → k < count → IsSmall (i * 4398046511104) (get_or old k d)) → IsSmall (i * 4398046511104 + 4398046511104) now →
    (k : ℕ) (e : Amounts) → k < count → IsSmall ((i + 1) * 4398046511104) (get_or (set old n now) k e)
small_more i count n old now d size lt small here k e inside = elim (k == n) as (λ b. (k == n) ≡ b → IsSmall ((i + 1) * 4398046511104) (get_or (set old n now) k e)) [
  | true ↦ λ is.
      let at : k ≡ n = eqb-true k n is in
      let same : get_or (set old n now) k e ≡ now = ap (λ j. get_or (set old n now) j e) at ∙ get_or-set_same old n now e (omega (arith, lt, size)) in
      subst (IsSmall ((i + 1) * 4398046511104)) (sym same) (weaker (i * 4398046511104 + 4398046511104) ((i + 1) * 4398046511104) now (omega arith) here)
  | false ↦ λ is.
      let apart : k ≢ n = (λ at. let yes : (k == n) ≡ true = eq-eqb k n at in cc) in
      let same : get_or (set old n now) k e ≡ get_or old k e = get_or-set_other old n k now e apart in
      subst (IsSmall ((i + 1) * 4398046511104)) (sym same) (weaker (i * 4398046511104) ((i + 1) * 4398046511104) (get_or old k e) (omega arith) (small k e inside))
] refl
