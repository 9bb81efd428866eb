-- a list that isn't empty has a least element
use Rattle.std.proofs.Common.{◌≡◌, ℕ, Bool, true, false, cond, List, [], ◌∷◌, ◌++◌, refl, ◌∙◌, Option, Some, None, append_assoc, ◌&&◌, filter, is_some}
use Rattle.std.specs.List.{list_any}
use Rattle.std.proofs.Math.Bool.{and-true}
use Rattle.cam_types.specs.Lists.{is_less, least_by, better}
use Rattle.cam_types.proofs.LeastLemmas.{least_by-push}
use Rattle.event_rules.proofs.TestLemmas.{list_any-filter, list_any-same}

-- of an element and a least so far there is a lesser
is_some-better : {X : Type 0} → (key : X → List ℕ) (least : Option X) (x : X) → is_some (better key least x) ≡ true
is_some-better key None x = refl
is_some-better key (Some b) x = elim (is_less (key x) (key b)) as (λ t. is_some (cond t (Some x) (Some b)) ≡ true) [ true ↦ refl | false ↦ refl ]

is_some-least_by_after : {X : Type 0} → (key : X → List ℕ) (before : List X) (x : X) (after : List X) → is_some (least_by key (before ++ x ∷ after)) ≡ true
is_some-least_by_after key before x [] = rw least_by-push (is_some-better key (least_by key before) x)
is_some-least_by_after key before x (y ∷ after) = rw (← append_assoc before (x ∷ []) (y ∷ after)) (is_some-least_by_after key (before ++ x ∷ []) y after)

pub is_some-least_by : {X : Type 0} → (key : X → List ℕ) (xs : List X) → is_some (least_by key xs) ≡ list_any (λ _. true) xs
is_some-least_by key [] = refl
is_some-least_by key (x ∷ xs) = is_some-least_by_after key [] x xs

-- of those that pass a test there is a least one where some element passes it
pub is_some-least_by-filter : {X : Type 0} → (key : X → List ℕ) (p : X → Bool) (xs : List X) → is_some (least_by key (filter p xs)) ≡ list_any p xs
is_some-least_by-filter key p xs =
    is_some-least_by key (filter p xs) ∙ (list_any-filter p (λ _. true) xs ∙ list_any-same (λ x. p x && true) p xs (λ x. and-true (p x)))
