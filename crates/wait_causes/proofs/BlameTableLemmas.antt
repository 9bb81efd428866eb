-- the rows of a table of blame, number by number
use Rattle.std.proofs.Common.{◌≡◌, ℕ, ◌+◌, List, [], ◌∷◌, ◌++◌, flat_map, sym, ap, ◌∙◌, append-nil, append_assoc, zero-add, Option, Some, None}
use Rattle.std.specs.List.{range_with_len}
use Rattle.std.proofs.lemmas.Grind.{flat_map-append}
use Rattle.std.proofs.lemmas.List.FromFn.{map-range_with_len_more}
use Rattle.event_rules.proofs.ListFacts.{range_with_len-push}
use Rattle.wait_causes.specs.BlameRows.{everybody}

-- rows after others, and those of one number more
pub rows_more : {X : Type 0} (f : ℕ → List X) (before old new : List X) (n : ℕ) → old ≡ before ++ flat_map f (range_with_len 0 n) → new ≡ old ++ f n → new ≡ before ++ flat_map f (range_with_len 0 (n + 1))
rows_more f before old new n was is =
    is ∙ ap (λ xs. xs ++ f n) was ∙ append_assoc before (flat_map f (range_with_len 0 n)) (f n)
    ∙ ap (λ xs. before ++ xs) (sym (ap (flat_map f) (range_with_len-push 0 n) ∙ flat_map-append f (range_with_len 0 n) ((0 + n) ∷ []) ∙ ap (λ xs. flat_map f (range_with_len 0 n) ++ xs) (append-nil (f (0 + n))) ∙ ap (λ k. flat_map f (range_with_len 0 n) ++ f k) (zero-add n)))

-- those of nobody, and of one number more
pub everybody_none : {X : Type 0} (f : Option ℕ → List X) (new : List X) → new ≡ [] ++ f None → new ≡ flat_map f (everybody 0)
everybody_none f new is = is ∙ sym (append-nil (f None))

pub everybody_more : {X : Type 0} (f : Option ℕ → List X) (old new : List X) (n : ℕ) → old ≡ flat_map f (everybody n) → new ≡ old ++ f (Some n) → new ≡ flat_map f (everybody (n + 1))
everybody_more f old new n was is =
    is ∙ ap (λ xs. xs ++ f (Some n)) was
    ∙ sym (ap (λ xs. flat_map f (None ∷ xs)) (map-range_with_len_more (λ k. Some k) 0 n n (zero-add n)) ∙ flat_map-append f (everybody n) (Some n ∷ []) ∙ ap (λ xs. flat_map f (everybody n) ++ xs) (append-nil (f (Some n))))
