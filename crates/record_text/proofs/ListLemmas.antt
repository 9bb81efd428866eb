-- What each item of a list keeps, by itself and beside those before it.
use Rattle.std.proofs.Common.{◌≡◌, ◌<◌, ◌≤◌, ◌+◌, ℕ, List, [], ◌∷◌, ◌++◌, length, Bool, true, arith, length-append}
use Rattle.std.specs.Prelude.{Option, None, ⊤}
use Rattle.std.specs.List.{AllByRecursion, list_all}
use Rattle.std.proofs.lemmas.Bool.{and_parts}
use Rattle.cam_types.specs.Lists.{first_answer, prefixed_after}
use Rattle.cam_types.proofs.ListLemmas.{or_left, or_right}

pub all_push : {X : Type 0} (P : X → Type 0) (xs : List X) (x : X) → AllByRecursion P xs → P x → AllByRecursion P (xs ++ x ∷ [])
all_push P [] x h p = (p, tt)
all_push P (y ∷ ys) x h p = (h.0, all_push P ys x h.1 p)

-- a fact of each item beside those before it
abbrev pub Along : {X : Type 0} → (List X → X → Type 0) → List X → List X → Type 0
Along P before [] = ⊤
Along P before (x ∷ xs) = P before x × Along P (before ++ x ∷ []) xs

-- what each element keeps beside those before it, and what it keeps by itself
pub along_both : {X : Type 0} (P : List X → X → Type 0) (Q : X → Type 0) (before xs : List X) → Along P before xs → AllByRecursion Q xs → Along (λ b x. P b x × Q x) before xs
along_both P Q before [] p q = tt
along_both P Q before (x ∷ xs) p q = ((p.0, q.0), along_both P Q (before ++ x ∷ []) xs p.1 q.1)

pub all_true : {X : Type 0} (p : X → Bool) (xs : List X) → list_all p xs ≡ true → AllByRecursion (λ x. p x ≡ true) xs
all_true p [] e = tt
all_true p (x ∷ xs) e = let n = and_parts _ _ e in (n.0, all_true p xs n.1)

pub none_along : {X F : Type 0} (f : List X × X → Option F) (before xs : List X) → first_answer f (prefixed_after before xs) ≡ None → Along (λ b x. f (b, x) ≡ None) before xs
none_along f before [] e = tt
none_along f before (x ∷ xs) e = (or_left (f (before, x)) _ e, none_along f (before ++ x ∷ []) xs (or_right (f (before, x)) _ e))

pub true_along : {X : Type 0} (p : List X × X → Bool) (before xs : List X) → list_all p (prefixed_after before xs) ≡ true → Along (λ b x. p (b, x) ≡ true) before xs
true_along p before [] e = tt
true_along p before (x ∷ xs) e = let n = and_parts _ _ e in (n.0, true_along p (before ++ x ∷ []) xs n.1)

-- each has at most so many before it
pub along_few : {X : Type 0} (most : ℕ) (before xs : List X) → length before + length xs ≤ most → Along (λ b x. length b < most) before xs
along_few most before [] h = tt
along_few most before (x ∷ xs) h =
    let more = length-append before (x ∷ []) in
    (omega arith, along_few most (before ++ x ∷ []) xs (omega arith))

pub along_with : {X : Type 0} (P Q : List X → X → Type 0) (before xs : List X) → Along P before xs → Along Q before xs → Along (λ b x. P b x × Q b x) before xs
along_with P Q before [] h k = tt
along_with P Q before (x ∷ xs) h k = ((h.0, k.0), along_with P Q (before ++ x ∷ []) xs h.1 k.1)

pub along_to : {X : Type 0} (P Q : List X → X → Type 0) → ((b : List X) (x : X) → P b x → Q b x) → (before xs : List X) → Along P before xs → Along Q before xs
along_to P Q f before [] h = tt
along_to P Q f before (x ∷ xs) h = (f before x h.0, along_to P Q f (before ++ x ∷ []) xs h.1)
