-- the rows of a table
use Rattle.std.proofs.Common.{◌≡◌, ◌≢◌, ℕ, zero, suc, ◌+◌, ◌<◌, ◌≤◌, Bool, true, false, cond, List, [], ◌∷◌, ◌++◌, length, map, set, get_or, refl, sym, ap, ◌∙◌, arith, ◌==◌, flat_map, append-nil, Vec, zero-add, eq-eqb, length-set, get_or-set_same, get_or-set_other, ext_get_or}
use Rattle.std.specs.Global.{Global}
use Rattle.std.specs.List.{range_with_len}
use Rattle.std.proofs.lemmas.Bool.{eqb-true}
use Rattle.std.proofs.lemmas.List.Elements.{filter-append}
use Rattle.std.proofs.lemmas.List.FromFn.{get_or-map-range_with_len, length-map-range_with_len}
use Rattle.wait_causes.proofs.CountingLemmas.{list_at, lists_length}
use Rattle.wait_causes.specs.Origins.{Known}
use Rattle.wait_causes.specs.Parts.{part_of, Part}
use Rattle.wait_causes.specs.Tables.{number, stays_of, row_for, row_of, greatest, table_of, AreGroups, Grouping}
use Rattle.wait_causes.proofs.PartLemmas.{no_longer}
use Rattle.wait_causes.specs.Stays.{ExplainedStay}
use Rattle.wait_causes.specs.declared.table.Row as table

-- no stays have no row
pub row_none : (known : Known) (part : List ExplainedStay) (n : ℕ) (rows : List table.Row) → (length part == 0) ≡ true → rows ≡ rows ++ row_for known n part
unfolding row_for
row_none known part n rows none = rw none (sym (append-nil rows))

-- some have one
pub row_some : (known : Known) (part : List ExplainedStay) (n : ℕ) (rows new : List table.Row) (p : Part) → p ≡ part_of known part → (length part == 0) ≡ false → new ≡ rows ++ record { number = n; part = p } ∷ [] → new ≡ rows ++ row_for known n part
unfolding row_for
row_some known part n rows new p is some push = push ∙ rw (some, is) refl

pub few_of : (by : Grouping) (stays : List ExplainedStay) (n most : ℕ) → length stays ≤ most → length (stays_of by stays n) ≤ most
few_of by stays n most few = omega (arith, no_longer (λ s. number by s == n) stays)

pub table_end : (known : Known) (by : Grouping) (stays : List ExplainedStay) (rows : List table.Row) (n : ℕ) → rows ≡ flat_map (row_of known by stays) (range_with_len 0 n) → n ≡ greatest by stays + 1 → rows ≡ table_of known by stays
unfolding table_of
table_end known by stays rows n is at = is ∙ ap (λ k. flat_map (row_of known by stays) (range_with_len 0 k)) at

-- ---- the groups so far, and one stay more

items_set : (xs : List (Vec ExplainedStay Global)) (k : ℕ) (v : Vec ExplainedStay Global) → map (λ (v : Vec ExplainedStay Global). v.items) (set xs k v) ≡ set (map (λ (v : Vec ExplainedStay Global). v.items) xs) k v.items
items_set [] k v = refl
items_set (x ∷ xs) zero v = refl
items_set (x ∷ xs) (suc k) v = ap (λ ys. x.items ∷ ys) (items_set xs k v)

joined : (by : Grouping) (xs : List ExplainedStay) (s : ExplainedStay) (n : ℕ) (b : Bool) → (number by s == n) ≡ b → stays_of by (xs ++ s ∷ []) n ≡ stays_of by xs n ++ cond b (s ∷ []) []
joined by xs s n true is = filter-append (λ x. number by x == n) xs (s ∷ []) ∙ ap (λ ys. stays_of by xs n ++ ys) (rw is refl)
joined by xs s n false is = filter-append (λ x. number by x == n) xs (s ∷ []) ∙ ap (λ ys. stays_of by xs n ++ ys) (rw is refl)

pub group_more : (by : Grouping) (count : ℕ) (xs : List ExplainedStay) (s : ExplainedStay) (groups : List (Vec ExplainedStay Global)) (v was : Vec ExplainedStay Global) (n : ℕ) →
    AreGroups by count xs groups → n ≡ number by s → n < count → was ≡ get_or groups n was → v.items ≡ was.items ++ s ∷ [] → AreGroups by count (xs ++ s ∷ []) (set groups n v)
group_more by count xs s groups v was n are is lt read more =
    let long = lists_length (stays_of by xs) count groups are in
    let old : was.items ≡ stays_of by xs n = ap (λ (w : Vec ExplainedStay Global). w.items) read ∙ list_at (stays_of by xs) count n groups was are lt in
    let lists = map (λ (w : Vec ExplainedStay Global). w.items) groups in
    let size : length lists ≡ count = ap (λ ys. length ys) are ∙ length-map-range_with_len (stays_of by xs) 0 count in
    items_set groups n v
    ∙ ext_get_or [] (set lists n v.items) (map (stays_of by (xs ++ s ∷ [])) (range_with_len 0 count))
    (length-set lists n v.items ∙ size ∙ sym (length-map-range_with_len (stays_of by (xs ++ s ∷ [])) 0 count))
    (λ k inside.
    let within : k < count = omega (arith, inside, length-set lists n v.items, size) in
    let due : get_or (map (stays_of by (xs ++ s ∷ [])) (range_with_len 0 count)) k [] ≡ stays_of by (xs ++ s ∷ []) k = get_or-map-range_with_len (stays_of by (xs ++ s ∷ [])) 0 count k k [] within (zero-add k) in
    elim (number by s == k) as (λ b. (number by s == k) ≡ b → get_or (set lists n v.items) k [] ≡ get_or (map (stays_of by (xs ++ s ∷ [])) (range_with_len 0 count)) k []) [
      | true ↦ λ e.
          let at : k ≡ n = sym (eqb-true (number by s) k e) ∙ sym is in
          ap (λ j. get_or (set lists n v.items) j []) at
          ∙ get_or-set_same lists n v.items [] (omega (arith, lt, size))
          ∙ more ∙ ap (λ ys. ys ++ s ∷ []) old
          ∙ sym (due ∙ joined by xs s k true e ∙ ap (λ j. stays_of by xs j ++ s ∷ []) at)
      | false ↦ λ e.
          let apart : k ≢ n = (λ at. let yes : (number by s == k) ≡ true = eq-eqb (number by s) k (sym is ∙ sym at) in cc) in
          get_or-set_other lists n k v.items [] apart
          ∙ ap (λ ys. get_or ys k []) are
          ∙ get_or-map-range_with_len (stays_of by xs) 0 count k k [] within (zero-add k)
          ∙ sym (due ∙ joined by xs s k false e ∙ append-nil (stays_of by xs k))
    ] refl)
