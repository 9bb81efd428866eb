-- the rows of two tables side by side have together what the tables have
use Rattle.std.proofs.Common.{◌≡◌, ℕ, ◌+◌, Bool, true, false, cond, List, [], ◌∷◌, ◌++◌, refl, sym, ap, ◌∙◌, arith, sum_by, flat_map, append_assoc, None, Some}
use Rattle.std.specs.Prelude.{max, Option, find}
use Rattle.std.specs.List.{range_with_len, list_any}
use Rattle.std.proofs.lemmas.List.Sums.{sum_by-cons, sum_by-append}
use Rattle.wait_causes.specs.Tables.{table_of}
use Rattle.wait_causes.specs.declared.explained_stay.ExplainedStay.{ExplainedStay}
use Rattle.wait_causes.specs.declared.table.Grouping.{Grouping}
use Rattle.wait_causes.specs.declared.table.Row as table
use Rattle.wait_causes.proofs.CostLemmas.{sum_flat}
use Rattle.wait_causes.specs.Keys.{is_pair}
use Rattle.wait_causes.specs.Origins.{Known}
use Rattle.wait_causes.specs.Pairs.{numbers, row_at, pair_of, alone, pairs_at, paired, PairedRow}
use Rattle.wait_causes.specs.PairLaws.{amount_in, passes, PairsAddUp, RowsPairOnce}
use Rattle.wait_causes.proofs.KeyLemmas.{IsMatching, matching}
use Rattle.wait_causes.proofs.RowSumLemmas.{sum_eq, sum_both, sum_swap}
use Rattle.wait_causes.proofs.RowNumberLemmas.{all_amounts, IsAbove, IsAscending, ascending}

-- the amount of a row if it passes, and 0 else
abbrev taken : Bool → ℕ → ℕ
taken b n = cond b n 0

abbrev partner : (ℕ → ℕ → Bool) → List table.Row → ℕ → Option table.Row
partner same after n = find (λ (s : table.Row). same n s.number) after

abbrev has_owner : (ℕ → ℕ → Bool) → List table.Row → ℕ → Bool
has_owner same before m = list_any (λ (r : table.Row). same r.number m) before

-- ---- a row before has one partner at most, and a row after is that of one row at most

no_other : (same : ℕ → ℕ → Bool) → IsMatching same → (g : table.Row → ℕ) (n m : ℕ) (rows : List table.Row) → same n m ≡ true → IsAbove m rows →
    sum_by (λ (s : table.Row). taken (same n s.number) (g s)) rows ≡ 0
no_other same one g n m [] is above = refl
no_other same one g n m (s ∷ rows) is above = elim (same n s.number) as (λ b. same n s.number ≡ b → sum_by (λ (t : table.Row). taken (same n t.number) (g t)) (s ∷ rows) ≡ 0) [
  | true ↦ λ too. absurd (omega (arith, one.one_after n m s.number is too, above.0))
  | false ↦ λ not.
      let none : taken (same n s.number) (g s) ≡ 0 = rw not refl in
      omega (arith, sum_by-cons (λ (t : table.Row). taken (same n t.number) (g t)) s rows, none, no_other same one g n m rows is above.1)
] refl

of_partner : (same : ℕ → ℕ → Bool) → IsMatching same → (g : table.Row → ℕ) (n : ℕ) (rows : List table.Row) → IsAscending rows →
    amount_in g (partner same rows n) ≡ sum_by (λ (s : table.Row). taken (same n s.number) (g s)) rows
of_partner same one g n [] up = refl
of_partner same one g n (s ∷ rows) up = elim (same n s.number) as (λ b. same n s.number ≡ b → amount_in g (partner same (s ∷ rows) n) ≡ sum_by (λ (t : table.Row). taken (same n t.number) (g t)) (s ∷ rows)) [
  | true ↦ λ is.
      let found : amount_in g (partner same (s ∷ rows) n) ≡ g s = rw is refl in
      let own : taken (same n s.number) (g s) ≡ g s = rw is refl in
      omega (arith, found, own, sum_by-cons (λ (t : table.Row). taken (same n t.number) (g t)) s rows, no_other same one g n s.number rows is up.0)
  | false ↦ λ not.
      let later : amount_in g (partner same (s ∷ rows) n) ≡ amount_in g (partner same rows n) = rw not refl in
      let none : taken (same n s.number) (g s) ≡ 0 = rw not refl in
      omega (arith, later, none, sum_by-cons (λ (t : table.Row). taken (same n t.number) (g t)) s rows, of_partner same one g n rows up.1)
] refl

no_owner : (same : ℕ → ℕ → Bool) → IsMatching same → (x n m : ℕ) (rows : List table.Row) → same n m ≡ true → IsAbove n rows →
    sum_by (λ (r : table.Row). taken (same r.number m) x) rows ≡ 0
no_owner same one x n m [] is above = refl
no_owner same one x n m (r ∷ rows) is above = elim (same r.number m) as (λ b. same r.number m ≡ b → sum_by (λ (t : table.Row). taken (same t.number m) x) (r ∷ rows) ≡ 0) [
  | true ↦ λ too. absurd (omega (arith, one.one_before n r.number m is too, above.0))
  | false ↦ λ not.
      let none : taken (same r.number m) x ≡ 0 = rw not refl in
      omega (arith, sum_by-cons (λ (t : table.Row). taken (same t.number m) x) r rows, none, no_owner same one x n m rows is above.1)
] refl

of_owners : (same : ℕ → ℕ → Bool) → IsMatching same → (x m : ℕ) (rows : List table.Row) → IsAscending rows →
    sum_by (λ (r : table.Row). taken (same r.number m) x) rows ≡ taken (has_owner same rows m) x
of_owners same one x m [] up = refl
of_owners same one x m (r ∷ rows) up = elim (same r.number m) as (λ b. same r.number m ≡ b → sum_by (λ (t : table.Row). taken (same t.number m) x) (r ∷ rows) ≡ taken (has_owner same (r ∷ rows) m) x) [
  | true ↦ λ is.
      let here : taken (same r.number m) x ≡ x = rw is refl in
      let owned : taken (has_owner same (r ∷ rows) m) x ≡ x = rw is refl in
      omega (arith, here, owned, sum_by-cons (λ (t : table.Row). taken (same t.number m) x) r rows, no_owner same one x r.number m rows is up.0)
  | false ↦ λ not.
      let none : taken (same r.number m) x ≡ 0 = rw not refl in
      let later : taken (has_owner same (r ∷ rows) m) x ≡ taken (has_owner same rows m) x = rw not refl in
      omega (arith, none, later, sum_by-cons (λ (t : table.Row). taken (same t.number m) x) r rows, of_owners same one x m rows up.1)
] refl

-- what partners have together is what the rows with an owner have
partners : (same : ℕ → ℕ → Bool) → IsMatching same → (g : table.Row → ℕ) (before after : List table.Row) → IsAscending before → IsAscending after →
    sum_by (λ (r : table.Row). amount_in g (partner same after r.number)) before ≡ sum_by (λ (s : table.Row). taken (has_owner same before s.number) (g s)) after
partners same one g before after up upper =
    sum_eq (λ (r : table.Row). amount_in g (partner same after r.number)) (λ (r : table.Row). sum_by (λ (s : table.Row). taken (same r.number s.number) (g s)) after) before
    (λ r. of_partner same one g r.number after upper)
    ∙ sum_swap (λ (r s : table.Row). taken (same r.number s.number) (g s)) before after
    ∙ sum_eq (λ (s : table.Row). sum_by (λ (r : table.Row). taken (same r.number s.number) (g s)) before) (λ (s : table.Row). taken (has_owner same before s.number) (g s)) after
    (λ s. of_owners same one (g s) s.number before up)

-- ---- what stands at a number

single : (g : PairedRow → ℕ) (r : PairedRow) → sum_by g (r ∷ []) ≡ g r
single g r =
    let none : g r + 0 ≡ g r = omega arith in
    sum_by-cons g r [] ∙ none

before_pair : (same : ℕ → ℕ → Bool) (g : table.Row → ℕ) (after : List table.Row) (x : Option table.Row) →
    sum_by (λ (p : PairedRow). amount_in g p.before) (pair_of same after x) ≡ amount_in g x
before_pair same g after None = refl
before_pair same g after (Some r) = single (λ (p : PairedRow). amount_in g p.before) (record { before = Some r; after = partner same after r.number })

before_alone : (same : ℕ → ℕ → Bool) (g : table.Row → ℕ) (before : List table.Row) (x : Option table.Row) →
    sum_by (λ (p : PairedRow). amount_in g p.before) (alone same before x) ≡ 0
before_alone same g before None = refl
before_alone same g before (Some s) = elim (has_owner same before s.number) as (λ b. sum_by (λ (p : PairedRow). amount_in g p.before) (cond b [] (record { before = None; after = Some s } ∷ [])) ≡ 0) [
  | true ↦ refl
  | false ↦ single (λ (p : PairedRow). amount_in g p.before) (record { before = None; after = Some s })
]

after_pair : (same : ℕ → ℕ → Bool) (g : table.Row → ℕ) (after : List table.Row) (x : Option table.Row) →
    sum_by (λ (p : PairedRow). amount_in g p.after) (pair_of same after x) ≡ amount_in (λ (r : table.Row). amount_in g (partner same after r.number)) x
after_pair same g after None = refl
after_pair same g after (Some r) = single (λ (p : PairedRow). amount_in g p.after) (record { before = Some r; after = partner same after r.number })

after_alone : (same : ℕ → ℕ → Bool) (g : table.Row → ℕ) (before : List table.Row) (x : Option table.Row) →
    sum_by (λ (p : PairedRow). amount_in g p.after) (alone same before x) ≡ amount_in (λ (s : table.Row). cond (has_owner same before s.number) 0 (g s)) x
after_alone same g before None = refl
after_alone same g before (Some s) = elim (has_owner same before s.number) as (λ b. sum_by (λ (p : PairedRow). amount_in g p.after) (cond b [] (record { before = None; after = Some s } ∷ [])) ≡ cond b 0 (g s)) [
  | true ↦ refl
  | false ↦ single (λ (p : PairedRow). amount_in g p.after) (record { before = None; after = Some s })
]

before_at : (same : ℕ → ℕ → Bool) (g : table.Row → ℕ) (before after : List table.Row) (n : ℕ) →
    sum_by (λ (p : PairedRow). amount_in g p.before) (pairs_at same before after n) ≡ amount_in g (row_at before n)
unfolding pairs_at
before_at same g before after n =
    omega (
      arith,
      sum_by-append (λ (p : PairedRow). amount_in g p.before) (pair_of same after (row_at before n)) (alone same before (row_at after n)),
      before_pair same g after (row_at before n),
      before_alone same g before (row_at after n),
    )

after_at : (same : ℕ → ℕ → Bool) (g : table.Row → ℕ) (before after : List table.Row) (n : ℕ) →
    sum_by (λ (p : PairedRow). amount_in g p.after) (pairs_at same before after n)
    ≡ amount_in (λ (r : table.Row). amount_in g (partner same after r.number)) (row_at before n) + amount_in (λ (s : table.Row). cond (has_owner same before s.number) 0 (g s)) (row_at after n)
unfolding pairs_at
after_at same g before after n =
    omega (
      arith,
      sum_by-append (λ (p : PairedRow). amount_in g p.after) (pair_of same after (row_at before n)) (alone same before (row_at after n)),
      after_pair same g after (row_at before n),
      after_alone same g before (row_at after n),
    )

-- ---- all numbers

split : (b : Bool) (n : ℕ) → taken b n + cond b 0 n ≡ n
split true n = omega arith
split false n = omega arith

all_before : (same : ℕ → ℕ → Bool) (known known_after : Known) (by : Grouping) (was now : List ExplainedStay) (g : table.Row → ℕ) →
    sum_by (λ (p : PairedRow). amount_in g p.before) (paired same (table_of known by was) (table_of known_after by now)) ≡ sum_by g (table_of known by was)
unfolding paired
all_before same known known_after by was now g =
    let before = table_of known by was in
    let after = table_of known_after by now in
    let most = max (numbers before) (numbers after) in
    sum_flat (λ (p : PairedRow). amount_in g p.before) (pairs_at same before after) (range_with_len 0 most)
    ∙ sum_eq (λ n. sum_by (λ (p : PairedRow). amount_in g p.before) (pairs_at same before after n)) (λ n. amount_in g (row_at before n)) (range_with_len 0 most) (λ n. before_at same g before after n)
    ∙ all_amounts known by was g most (omega arith)

all_after : (same : ℕ → ℕ → Bool) → IsMatching same → (known known_after : Known) (by : Grouping) (was now : List ExplainedStay) (g : table.Row → ℕ) →
    sum_by (λ (p : PairedRow). amount_in g p.after) (paired same (table_of known by was) (table_of known_after by now)) ≡ sum_by g (table_of known_after by now)
unfolding paired
all_after same one known known_after by was now g =
    let before = table_of known by was in
    let after = table_of known_after by now in
    let most = max (numbers before) (numbers after) in
    let owned = λ (r : table.Row). amount_in g (partner same after r.number) in
    let free = λ (s : table.Row). cond (has_owner same before s.number) 0 (g s) in
    let kept = λ (s : table.Row). taken (has_owner same before s.number) (g s) in
    sum_flat (λ (p : PairedRow). amount_in g p.after) (pairs_at same before after) (range_with_len 0 most)
    ∙ sum_eq (λ n. sum_by (λ (p : PairedRow). amount_in g p.after) (pairs_at same before after n)) (λ n. amount_in owned (row_at before n) + amount_in free (row_at after n)) (range_with_len 0 most) (λ n. after_at same g before after n)
    ∙ sum_both (λ n. amount_in owned (row_at before n)) (λ n. amount_in free (row_at after n)) (range_with_len 0 most)
    ∙ ap (λ k. k + sum_by (λ n. amount_in free (row_at after n)) (range_with_len 0 most)) (all_amounts known by was owned most (omega arith) ∙ partners same one g before after (ascending known by was) (ascending known_after by now))
    ∙ ap (λ k. sum_by kept after + k) (all_amounts known_after by now free most (omega arith))
    ∙ sym (sum_both kept free after)
    ∙ sum_eq (λ (s : table.Row). kept s + free s) g after (λ s. split (has_owner same before s.number) (g s))

pub all_pairs : PairsAddUp
all_pairs kind was now by known known_after before after amount = (all_before _ known known_after by before after amount, all_after _ (matching kind was now) known known_after by before after amount)

-- ---- each row once

counts : (test : table.Row → Bool) (x : Option table.Row) → cond (passes test x) 1 0 ≡ amount_in (λ (r : table.Row). cond (test r) 1 0) x
counts test None = refl
counts test (Some r) = refl

pub pair_once : RowsPairOnce
pair_once kind was now by known known_after before after test =
    let one = λ (r : table.Row). cond (test r) 1 0 in
    let pairs = paired (is_pair kind was now) (table_of known by before) (table_of known_after by after) in (
      sum_eq (λ (p : PairedRow). cond (passes test p.before) 1 0) (λ (p : PairedRow). amount_in one p.before) pairs (λ p. counts test p.before) ∙ (all_pairs kind was now by known known_after before after one).0,
      sum_eq (λ (p : PairedRow). cond (passes test p.after) 1 0) (λ (p : PairedRow). amount_in one p.after) pairs (λ p. counts test p.after) ∙ (all_pairs kind was now by known known_after before after one).1,
    )

-- ---- row by row

-- what was put at a number joins what stood at those before it
pub joined : (same : ℕ → ℕ → Bool) (was now : List table.Row) (old mid new : List PairedRow) (n : ℕ) → mid ≡ old ++ pair_of same now (row_at was n) → new ≡ mid ++ alone same was (row_at now n) → new ≡ old ++ pairs_at same was now n
unfolding pairs_at
joined same was now old mid new n first second = second ∙ ap (λ (rs : List PairedRow). rs ++ alone same was (row_at now n)) first ∙ append_assoc old (pair_of same now (row_at was n)) (alone same was (row_at now n))

-- all numbers have had their turn
pub paired_end : (same : ℕ → ℕ → Bool) (was now : List table.Row) (rows : List PairedRow) (n : ℕ) → rows ≡ flat_map (pairs_at same was now) (range_with_len 0 n) → n ≡ max (numbers was) (numbers now) → rows ≡ paired same was now
unfolding paired
paired_end same was now rows n is at = is ∙ ap (λ k. flat_map (pairs_at same was now) (range_with_len 0 k)) at
