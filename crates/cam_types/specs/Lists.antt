use Rattle.std.specs.Prelude.{ℕ, Bool, true, false, ◌==◌, nat_lt, not, ◌&&◌, ◌||◌, List, [], ◌∷◌, ◌++◌, Option, Some, None, find, if◌then◌else◌}
use Rattle.std.specs.List.{list_all}
use Rattle.std.specs.Option.{option_or}

-- each element beside the elements before it, which follow those given
abbrev pub prefixed_after : {X : Type 0} → List X → List X → List (List X × X)
prefixed_after earlier [] = []
prefixed_after earlier (x ∷ xs) = (earlier, x) ∷ prefixed_after (earlier ++ x ∷ []) xs

-- each element beside the elements before it
abbrev pub prefixed : {X : Type 0} → List X → List (List X × X)
prefixed xs = prefixed_after [] xs

-- the first answer that f gives
abbrev pub first_answer : {X F : Type 0} → (X → Option F) → List X → Option F
first_answer f [] = None
first_answer f (x ∷ xs) = option_or (f x) (first_answer f xs)

-- the first number that differs decides
abbrev pub is_less : List ℕ → List ℕ → Bool
is_less (a ∷ as') (b ∷ bs) = nat_lt a b || ((a == b) && is_less as' bs)
is_less [] (b ∷ bs) = true
is_less as' [] = false

-- the one that no other is less than, by these keys
abbrev pub least_by : {X : Type 0} → (X → List ℕ) → List X → Option X
least_by key xs = find (λ x. list_all (λ y. not (is_less (key y) (key x))) xs) xs

-- the lesser of the least so far and one more, which stands after it
abbrev pub better : {X : Type 0} → (X → List ℕ) → Option X → X → Option X
better key None x = Some x
better key (Some b) x = if is_less (key x) (key b) then Some x else Some b
