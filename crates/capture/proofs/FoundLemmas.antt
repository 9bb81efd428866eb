-- what is found in a list of which a part has been read
use Rattle.std.proofs.Common.{◌≡◌, ℕ, zero, suc, ◌+◌, ◌<◌, Bool, true, false, cond, List, [], ◌∷◌, ◌++◌, length, get_or, take, drop, refl, ap, ◌∙◌, arith, append_assoc, Option, Some, None, find, All, slice_get}
use Rattle.std.specs.List.{range_with_len, remove}
use Rattle.std.proofs.lemmas.List.{take_more, append-nil}
use Rattle.std.proofs.lemmas.Option.{get_or_from_slice_get, slice_get_within}
use Rattle.std.proofs.lemmas.List.Folds.{find-append}
use Rattle.cam_types.specs.Lists.{prefixed, prefixed_after, first_answer}
use Rattle.cam_types.proofs.ListLemmas.{first_answer-append}
use Rattle.recording_file.proofs.ListLemmas.{range_more, found_longer}

-- one element more that fails
pub none_so_far : {X : Type 0} (t : X → Bool) (xs : List X) (n : ℕ) (d : X) → n < length xs → find t (take n xs) ≡ None → t (get_or xs n d) ≡ false → find t (take (n + 1) xs) ≡ None
none_so_far t xs n d lt none fails = ap (find t) (take_more xs n d lt) ∙ find-append t (take n xs) (get_or xs n d ∷ []) ∙ rw (none, fails) refl

-- and one that passes
pub found_so_far : {X : Type 0} (t : X → Bool) (xs : List X) (n : ℕ) (d : X) → n < length xs → find t (take n xs) ≡ None → t (get_or xs n d) ≡ true → find t xs ≡ Some (get_or xs n d)
found_so_far t [] n d lt none passes = absurd (omega arith)
found_so_far t (x ∷ xs) zero d lt none passes = rw passes refl
found_so_far t (x ∷ xs) (suc n) d lt none passes = elim (t x) as (λ b. cond b (Some x) (find t (take n xs)) ≡ None → cond b (Some x) (find t xs) ≡ Some (get_or xs n d)) [
  | true ↦ λ g. absurd cc
  | false ↦ λ g. found_so_far t xs n d (omega arith) g passes
] none

-- the same in a range
pub none_in_range : (t : ℕ → Bool) (a n : ℕ) → find t (range_with_len a n) ≡ None → t (a + n) ≡ false → find t (range_with_len a (n + 1)) ≡ None
none_in_range t a n none fails = ap (find t) (range_more a n) ∙ find-append t (range_with_len a n) ((a + n) ∷ []) ∙ rw (none, fails) refl

pub found_in_range : (t : ℕ → Bool) (a n m : ℕ) → n < m → find t (range_with_len a n) ≡ None → t (a + n) ≡ true → find t (range_with_len a m) ≡ Some (a + n)
found_in_range t a n m lt none passes = found_longer t a (n + 1) m (a + n) (omega arith) (ap (find t) (range_more a n) ∙ find-append t (range_with_len a n) ((a + n) ∷ []) ∙ rw (none, passes) refl)

-- the elements of two lists with what stands before them
prefixed-append : {X : Type 0} (before xs ys : List X) → prefixed_after before (xs ++ ys) ≡ prefixed_after before xs ++ prefixed_after (before ++ xs) ys
prefixed-append before [] ys = ap (λ b. prefixed_after b ys) (rw append-nil refl)
prefixed-append before (x ∷ xs) ys = ap (λ ms. (before, x) ∷ ms) (prefixed-append (before ++ x ∷ []) xs ys ∙ rw append_assoc refl)

-- the first answer is that of an element where none before it has one
pub answer_here : {X F : Type 0} (f : List X × X → Option F) (before : List X) (x : X) (rest : List X) (e : F) → first_answer f (prefixed before) ≡ None → f (before, x) ≡ Some e → first_answer f (prefixed (before ++ x ∷ rest)) ≡ Some e
answer_here f before x rest e none here = ap (first_answer f) (prefixed-append [] before (x ∷ rest)) ∙ first_answer-append f (prefixed before) (prefixed_after before (x ∷ rest)) ∙ rw (none, here) refl

-- a list in front of one of its elements, that element, and the rest
pub parts_at : {X : Type 0} (xs : List X) (n : ℕ) (d : X) → n < length xs → xs ≡ take n xs ++ get_or xs n d ∷ drop (suc n) xs
parts_at [] n d lt = absurd (omega arith)
parts_at (x ∷ xs) zero d lt = refl
parts_at (x ∷ xs) (suc n) d lt = ap (λ ys. x ∷ ys) (parts_at xs n d (omega arith))

-- a list whose first element is taken out
pub first_removed : {X : Type 0} (xs ys : List X) (x : X) → 0 < length xs → x ≡ get_or xs 0 x → ys ≡ remove xs 0 → xs ≡ x ∷ ys
first_removed [] ys x some is rest = absurd (omega arith)
first_removed (z ∷ zs) ys x some is rest = rw (is, rest) refl

-- what holds of all elements holds of one that is read
pub at_element : {X : Type 0} (P : X → Type 0) (xs : List X) (i : ℕ) (x : X) → All P xs → slice_get xs i ≡ Some x → P x
at_element P xs i x h e =
    let same : get_or xs i x ≡ x = get_or_from_slice_get xs i x x e in
    rw same at (h i x (slice_get_within xs i x e))
