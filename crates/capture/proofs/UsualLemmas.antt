-- what a device usually starts
use Rattle.std.proofs.Common.{◌≡◌, ℕ, ◌+◌, ◌-◌, ◌<◌, ◌≤◌, Bool, true, false, List, [], ◌∷◌, ◌++◌, length, map, filter, find, refl, sym, ap, ◌∙◌, arith, None, nat_lt, slice_index}
use Rattle.std.specs.List.{range_with_len}
use Rattle.std.proofs.lemmas.List.{map-append, append-nil}
use Rattle.std.proofs.lemmas.List.Elements.{filter-append}
use Rattle.cam_types.specs.declared.limits.TheConstants.{MAX_OPENINGS}
use Rattle.recording_file.proofs.ListLemmas.{range_more}
use Rattle.std.proofs.lemmas.List.FromFn.{length-range_with_len}
use Rattle.capture.specs.Rounds.{Rounded}
use Rattle.capture.specs.Loads.{IsRow, sends_in, waiting, is_pressed}
use Rattle.capture.specs.Usual.{reaches_half, middle, pressed_sends}
use Rattle.capture.proofs.RangeLemmas.{filter_alike, map_alike}
use Rattle.capture.proofs.RequestLemmas.{few_kept}
use Rattle.capture.proofs.FoundLemmas.{none_in_range, found_in_range}

pub middle_found : (xs : List ℕ) (m : ℕ) → 1 ≤ m → m < MAX_OPENINGS → find (reaches_half xs) (range_with_len 1 (m - 1)) ≡ None → reaches_half xs m ≡ true → m ≡ middle xs
unfolding middle
middle_found xs m some few none here =
    let at : 1 + (m - 1) ≡ m = omega arith in
    let found = found_in_range (reaches_half xs) 1 (m - 1) MAX_OPENINGS (omega arith) none (rw at here) in
    rw (found, at) refl

pub middle_more : (xs : List ℕ) (m : ℕ) → 1 ≤ m → find (reaches_half xs) (range_with_len 1 (m - 1)) ≡ None → reaches_half xs m ≡ false → find (reaches_half xs) (range_with_len 1 (m + 1 - 1)) ≡ None
middle_more xs m some none fails =
    let at : 1 + (m - 1) ≡ m = omega arith in
    let next : m - 1 + 1 ≡ m + 1 - 1 = omega arith in
    rw (← next) (none_in_range (reaches_half xs) 1 (m - 1) none (rw at fails))

pub middle_last : (xs : List ℕ) (m : ℕ) → m ≡ MAX_OPENINGS → find (reaches_half xs) (range_with_len 1 (m - 1)) ≡ None → MAX_OPENINGS ≡ middle xs
unfolding middle
middle_last xs m last none = elim (reaches_half xs m) as (λ b. reaches_half xs m ≡ b → MAX_OPENINGS ≡ middle xs) [
  | true ↦ λ here.
      let at : 1 + (m - 1) ≡ m = omega arith in
      let found = found_in_range (reaches_half xs) 1 (m - 1) MAX_OPENINGS (omega arith) none (rw at here) in
      rw (found, at, last) refl
  | false ↦ λ fails.
      let at : 1 + (m - 1) ≡ m = omega arith in
      let next : m - 1 + 1 ≡ MAX_OPENINGS = omega arith in
      let all = none_in_range (reaches_half xs) 1 (m - 1) none (rw at fails) in
      let whole : find (reaches_half xs) (range_with_len 1 MAX_OPENINGS) ≡ None = rw next at all in
      rw whole refl
] refl

-- the numbers of one round more, where it passes and where it fails
pub numbers_more : (row : List ℕ) (t : ℕ → Bool) (n : ℕ) (xs new : List ℕ) → 1 ≤ n → t n ≡ true → xs ≡ map (slice_index row) (filter t (range_with_len 1 (n - 1))) → new ≡ xs ++ slice_index row n ∷ [] → new ≡ map (slice_index row) (filter t (range_with_len 1 (n + 1 - 1)))
numbers_more row t n xs new some passes so_far more =
    let at : 1 + (n - 1) ≡ n = omega arith in
    let next : n + 1 - 1 ≡ n - 1 + 1 = omega arith in
    let before : List ℕ = filter t (range_with_len 1 (n - 1)) in
    let range : range_with_len 1 (n + 1 - 1) ≡ range_with_len 1 (n - 1) ++ n ∷ [] = ap (range_with_len 1) next ∙ range_more 1 (n - 1) ∙ ap (λ k. range_with_len 1 (n - 1) ++ k ∷ []) at in
    let kept : filter t (range_with_len 1 (n + 1 - 1)) ≡ before ++ n ∷ [] = ap (filter t) range ∙ filter-append t (range_with_len 1 (n - 1)) (n ∷ []) ∙ rw passes refl in
    more ∙ ap (λ ys. ys ++ slice_index row n ∷ []) so_far ∙ sym (ap (map (slice_index row)) kept ∙ map-append (slice_index row) before (n ∷ []))

pub numbers_same : (row : List ℕ) (t : ℕ → Bool) (n : ℕ) (xs : List ℕ) → 1 ≤ n → t n ≡ false → xs ≡ map (slice_index row) (filter t (range_with_len 1 (n - 1))) → xs ≡ map (slice_index row) (filter t (range_with_len 1 (n + 1 - 1)))
numbers_same row t n xs some fails so_far =
    let at : 1 + (n - 1) ≡ n = omega arith in
    let next : n + 1 - 1 ≡ n - 1 + 1 = omega arith in
    let range : range_with_len 1 (n + 1 - 1) ≡ range_with_len 1 (n - 1) ++ n ∷ [] = ap (range_with_len 1) next ∙ range_more 1 (n - 1) ∙ ap (λ k. range_with_len 1 (n - 1) ++ k ∷ []) at in
    let kept : filter t (range_with_len 1 (n + 1 - 1)) ≡ filter t (range_with_len 1 (n - 1)) = ap (filter t) range ∙ filter-append t (range_with_len 1 (n - 1)) (n ∷ []) ∙ rw fails (append-nil (filter t (range_with_len 1 (n - 1)))) in
    so_far ∙ ap (map (slice_index row)) (sym kept)

-- those of all rounds
pub numbers_all : (row : List ℕ) (t : ℕ → Bool) (n : ℕ) (xs : List ℕ) → length row ≤ n → n ≤ length row → xs ≡ map (slice_index row) (filter t (range_with_len 1 (n - 1))) → xs ≡ map (slice_index row) (filter t (range_with_len 1 (length row - 1)))
numbers_all row t n xs all end so_far =
    let same : n - 1 ≡ length row - 1 = omega arith in
    so_far ∙ ap (λ k. map (slice_index row) (filter t (range_with_len 1 k))) same

-- what a device started in its pressed rounds, by the rows of its starts and of those that wait
pub pressed_numbers : (r : Rounded) (device : ℕ) (sends waits numbers sends' waits' : List ℕ) → IsRow (sends_in r.requests device) r.rounds sends → IsRow (waiting r.requests device) r.rounds waits → sends' ≡ sends → waits' ≡ waits → numbers ≡ map (slice_index sends') (filter (λ round. nat_lt 0 (slice_index waits' round)) (range_with_len 1 (length sends' - 1))) → numbers ≡ pressed_sends r device
pressed_numbers r device sends waits numbers sends' waits' started wait same also are =
    let size = started.size in
    let rounds : length sends - 1 ≡ r.rounds = omega arith in
    are ∙ rw (same, also, rounds) (ap (map (slice_index sends)) (filter_alike (λ round. nat_lt 0 (slice_index waits round)) (is_pressed r.requests device) 1 r.rounds (λ q low high. rw (wait.each q (omega arith)) refl))
    ∙ map_alike (slice_index sends) (sends_in r.requests device) (is_pressed r.requests device) 1 r.rounds (λ q low high. started.each q (omega arith)))

-- there are no more of them than rounds
pub few_numbers : (f : ℕ → ℕ) (t : ℕ → Bool) (a n : ℕ) → length (map f (filter t (range_with_len a n))) ≤ n
few_numbers f t a n = omega (arith, few_kept t f (range_with_len a n), length-range_with_len a n)
