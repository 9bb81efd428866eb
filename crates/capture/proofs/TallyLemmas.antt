-- how often rounds occur
use Rattle.std.proofs.Common.{◌≡◌, ℕ, ◌+◌, ◌<◌, ◌≤◌, ◌==◌, List, length, get_or, set, take, sym, ap, ◌∙◌, arith, inl, inr, slice_index, filter, map, count_by, ◌&&◌, Bool}
use Rattle.std.proofs.lemmas.Bool.{cases_eq, eq-eqb, ne_eqb}
use Rattle.std.proofs.lemmas.List.{length-set, get_or-set_same, get_or-set_other}
use Rattle.std.proofs.lemmas.List.Sums.{count_by_more_yes, count_by_more_no}
use Rattle.capture.specs.Loads.{IsRow}
use Rattle.capture.proofs.CountLemmas.{count-map, count-filter}

-- the number of one round more
pub tally_more : (last : ℕ) (xs : List ℕ) (n v : ℕ) (row : List ℕ) → n < length xs → get_or xs n 0 ≤ last → v ≡ slice_index row (get_or xs n 0) → IsRow (λ r. count_by (λ k. k == r) (take n xs)) last row → IsRow (λ r. count_by (λ k. k == r) (take (n + 1) xs)) last (set row (get_or xs n 0) (v + 1))
tally_more last xs n v row lt le is h =
    let x : ℕ = get_or xs n 0 in
    let size = h.size in
    record {
      size = omega (arith, length-set row x (v + 1), size);
      each = λ r few. elim (cases_eq x r) [
        | inl same ↦
            let read = get_or-set_same row x (v + 1) 0 (omega (arith, size)) in
            let counted = count_by_more_yes (λ k. k == r) xs n 0 lt (eq-eqb x r same) in
            let before = h.each r few in
            let at : slice_index row x ≡ slice_index row r = ap (slice_index row) same in
            let made : slice_index (set row x (v + 1)) x ≡ count_by (λ k. k == r) (take (n + 1) xs) = omega (arith, read, counted, before, is, at) in
            ap (slice_index (set row x (v + 1))) (sym same) ∙ made
        | inr other ↦
            let read = get_or-set_other row x r (v + 1) 0 (λ e. other (sym e)) in
            let counted = count_by_more_no (λ k. k == r) xs n 0 lt (ne_eqb x r other) in
            read ∙ h.each r few ∙ sym counted
      ];
    }

-- a row of the rounds of some requests
pub row_of_kept : {X : Type 0} (last : ℕ) (s : X → Bool) (f : X → ℕ) (qs : List X) (rounds row : List ℕ) → rounds ≡ map f (filter s qs) → IsRow (λ r. count_by (λ k. k == r) rounds) last row → IsRow (λ r. count_by (λ q. s q && (f q == r)) qs) last row
row_of_kept last s f qs rounds row are h = record {
  size = h.size;
  each = λ r few. h.each r few ∙ ap (count_by (λ k. k == r)) are ∙ count-map (λ k. k == r) f (filter s qs) ∙ count-filter (λ q. f q == r) s qs;
}
