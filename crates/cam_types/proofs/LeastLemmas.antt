-- the least of a list with one element more
use Rattle.std.proofs.Common.{◌≡◌, ℕ, Bool, true, false, cond, List, [], ◌∷◌, ◌++◌, refl, sym, ap, ◌∙◌, arith, Option, Some, None, append_assoc, append-nil, inl, inr, ◌⊎◌, not, ◌&&◌, ◌||◌, find, nat_lt, ◌==◌}
use Rattle.std.specs.List.{list_all}
use Rattle.std.specs.Option.{option_or}
use Rattle.std.proofs.lemmas.Bool.Decides.{nat_tests}
use Rattle.std.proofs.lemmas.List.Folds.{find-append, list_all-append}
use Rattle.cam_types.specs.Lists.{is_less, least_by, better}

asym_step : (a b : ℕ) (r s : Bool) → (r ≡ true → s ≡ false) → (nat_lt a b || ((a == b) && r)) ≡ true → (nat_lt b a || ((b == a) && s)) ≡ false
asym_step a b true s h e = let f : s ≡ false = h refl in rw f (grind (arith, nat_tests))
asym_step a b false s h e = grind (arith, nat_tests)

pub is_less-asym : (xs ys : List ℕ) → is_less xs ys ≡ true → is_less ys xs ≡ false
is_less-asym (x ∷ xs) [] e = absurd (cc)
is_less-asym (x ∷ xs) (y ∷ ys) e = asym_step x y (is_less xs ys) (is_less ys xs) (is_less-asym xs ys) e
is_less-asym [] _ e = refl

-- x < y, and not z < y, so x < z
below_step : (a b c : ℕ) (r s t : Bool) → (r ≡ true → s ≡ false → t ≡ true) → (nat_lt a b || ((a == b) && r)) ≡ true → (nat_lt c b || ((c == b) && s)) ≡ false → (nat_lt a c || ((a == c) && t)) ≡ true
below_step a b c true false t h e n = let f : t ≡ true = h refl refl in rw f (grind (arith, nat_tests))
below_step a b c _ _ t h e n = grind (arith, nat_tests)

pub is_less-below : (xs ys zs : List ℕ) → is_less xs ys ≡ true → is_less zs ys ≡ false → is_less xs zs ≡ true
is_less-below [] (y ∷ ys) (z ∷ zs) e n = refl
is_less-below (x ∷ xs) (y ∷ ys) (z ∷ zs) e n = below_step x y z (is_less xs ys) (is_less zs ys) (is_less xs zs) (is_less-below xs ys zs) e n
is_less-below _ _ _ e n = absurd (cc)

-- the first that passes both tests is the first that passes the one, where that passes the other
both_found : {X : Type 0} → (p q : Bool) (x b : X) (f g : Option X) → cond p (Some x) f ≡ Some b → (x ≡ b → q ≡ true) → (f ≡ Some b → g ≡ Some b) → cond (p && q) (Some x) g ≡ Some b
both_found true q x b f g e t r = let same : x ≡ b = cc in rw (t same) e
both_found false q x b f g e t r = r e

find_both : {X : Type 0} → (p q : X → Bool) (xs : List X) (b : X) → find p xs ≡ Some b → q b ≡ true → find (λ x. p x && q x) xs ≡ Some b
find_both p q [] b e t = absurd (cc)
find_both p q (x ∷ xs) b e t =
    both_found (p x) (q x) x b (find p xs) (find (λ y. p y && q y) xs) e (λ same. ap q same ∙ t) (λ r. find_both p q xs b r t)

-- what is found passes the test
found_cases : {X : Type 0} → (p : X → Bool) (t : Bool) (x b : X) (f : Option X) → p x ≡ t → cond t (Some x) f ≡ Some b → (f ≡ Some b → p b ≡ true) → p b ≡ true
found_cases p true x b f is e r = let same : x ≡ b = cc in ap p (sym same) ∙ is
found_cases p false x b f is e r = r e

pub find_passes : {X : Type 0} → (p : X → Bool) (xs : List X) (b : X) → find p xs ≡ Some b → p b ≡ true
find_passes p [] b e = absurd (cc)
find_passes p (x ∷ xs) b e = found_cases p (p x) x b (find p xs) refl e (λ r. find_passes p xs b r)

find_agree : {X : Type 0} → (p q : X → Bool) → ((x : X) → p x ≡ q x) → (xs : List X) → find p xs ≡ find q xs
find_agree p q h [] = refl
find_agree p q h (x ∷ xs) = rw (h x, find_agree p q h xs) refl

-- x is less than b, than which no element is less
module _ {X : Type 0} (key : X → List ℕ) (x b : X) (less : is_less (key x) (key b) ≡ true) where
  above_cases : (y : X) (t : Bool) → is_less (key y) (key b) ≡ t → not t ≡ true → is_less (key x) (key y) ≡ true
  above_cases y true e n = absurd (cc)
  above_cases y false e n = is_less-below (key x) (key b) (key y) less e

  and_left : (p q : Bool) → (p && q) ≡ true → p ≡ true
  and_left true q e = refl
  and_left false q e = e

  and_right : (p q : Bool) → (p && q) ≡ true → q ≡ true
  and_right true q e = e
  and_right false q e = absurd (cc)

  above : (y : X) → not (is_less (key y) (key b)) ≡ true → is_less (key x) (key y) ≡ true
  above y n = above_cases y (is_less (key y) (key b)) refl n

  none_found : (p : Bool) → (p && false) ≡ false
  none_found true = refl
  none_found false = refl

  none_less : (p : X → Bool) (xs : List X) → list_all (λ y. not (is_less (key y) (key b))) xs ≡ true → find (λ y. p y && not (is_less (key x) (key y))) xs ≡ None
  none_less p [] h = refl
  none_less p (y ∷ ys) h =
      let here : is_less (key x) (key y) ≡ true = above y (and_left _ _ h) in
      let rest : find (λ z. p z && not (is_less (key x) (key z))) ys ≡ None = none_less p ys (and_right _ _ h) in
      rw (here, none_found (p y), rest) refl

  all_above : (xs : List X) → list_all (λ y. not (is_less (key y) (key b))) xs ≡ true → list_all (λ y. not (is_less (key y) (key x))) xs ≡ true
  all_above [] h = refl
  all_above (y ∷ ys) h =
      let here : is_less (key y) (key x) ≡ false = is_less-asym (key x) (key y) (above y (and_left _ _ h)) in
      let rest : list_all (λ z. not (is_less (key z) (key x))) ys ≡ true = all_above ys (and_right _ _ h) in
      rw (here, rest) refl

-- what the least of one element more is, where the list is empty or has a least
irrefl_cases : (xs : List ℕ) (t : Bool) → is_less xs xs ≡ t → is_less xs xs ≡ false
irrefl_cases xs true e = is_less-asym xs xs e
irrefl_cases xs false e = e

pub is_less-irrefl : (xs : List ℕ) → is_less xs xs ≡ false
is_less-irrefl xs = irrefl_cases xs (is_less xs xs) refl

and_true : (t : Bool) → (t && true) ≡ t
and_true true = refl
and_true false = refl

module _ {X : Type 0} (key : X → List ℕ) where
  abbrev is_least : List X → X → Bool
  is_least xs b = list_all (λ y. not (is_less (key y) (key b))) xs

  -- the least of a list and one element more, by a test of each element beside those before
  is_least-push : (xs : List X) (x b : X) → is_least (xs ++ x ∷ []) b ≡ (is_least xs b && not (is_less (key x) (key b)))
  is_least-push xs x b = list_all-append (λ y. not (is_less (key y) (key b))) xs (x ∷ []) ∙ ap (λ t. is_least xs b && t) (and_true (not (is_less (key x) (key b))))

  two_parts : (xs : List X) (x : X) → least_by key (xs ++ x ∷ []) ≡
      option_or (find (λ b. is_least xs b && not (is_less (key x) (key b))) xs) (cond (is_least xs x && not (is_less (key x) (key x))) (Some x) None)
  two_parts xs x =
      find_agree (is_least (xs ++ x ∷ [])) (λ b. is_least xs b && not (is_less (key x) (key b))) (is_least-push xs x) (xs ++ x ∷ [])
      ∙ find-append (λ b. is_least xs b && not (is_less (key x) (key b))) xs (x ∷ [])

  push_cases : (xs : List X) (x b : X) (t : Bool) → is_less (key x) (key b) ≡ t → least_by key xs ≡ Some b → least_by key (xs ++ x ∷ []) ≡ cond t (Some x) (Some b)
  push_cases xs x b true less found =
      let least : is_least xs b ≡ true = find_passes (is_least xs) xs b found in
      two_parts xs x ∙ rw (none_less key x b less (is_least xs) xs least, all_above key x b less xs least, is_less-irrefl (key x)) refl
  push_cases xs x b false less found =
      two_parts xs x ∙ rw (find_both (is_least xs) (λ y. not (is_less (key x) (key y))) xs b found (ap not less)) refl

  unfold_push : (xs : List X) (x : X) → (xs ≡ []) ⊎ ((b : X) × (least_by key xs ≡ Some b)) → least_by key (xs ++ x ∷ []) ≡ better key (least_by key xs) x
  unfold_push xs x (inl none) = rw none (rw (is_less-irrefl (key x)) refl)
  unfold_push xs x (inr (b, found)) = push_cases xs x b (is_less (key x) (key b)) refl found ∙ sym (rw found refl)

  better_some : (o : Option X) (x : X) → (b : X) × (better key o x ≡ Some b)
  better_some None x = (x, refl)
  better_some (Some b) x = elim (is_less (key x) (key b)) as (λ t. (c : X) × (cond t (Some x) (Some b) ≡ Some c)) [ true ↦ (x, refl) | false ↦ (b, refl) ]

  has_least : (before xs : List X) → (before ≡ []) ⊎ ((b : X) × (least_by key before ≡ Some b)) → (before ++ xs ≡ []) ⊎ ((b : X) × (least_by key (before ++ xs) ≡ Some b))
  has_least before [] h = rw (append-nil before) h
  has_least before (x ∷ xs) h =
      let some : (b : X) × (better key (least_by key before) x ≡ Some b) = better_some (least_by key before) x in
      let next : (before ++ x ∷ [] ≡ []) ⊎ ((b : X) × (least_by key (before ++ x ∷ []) ≡ Some b)) = inr (some.0, unfold_push before x h ∙ some.1) in
      rw (← append_assoc before (x ∷ []) xs) (has_least (before ++ x ∷ []) xs next)

  pub least_by-push : (xs : List X) (x : X) → least_by key (xs ++ x ∷ []) ≡ better key (least_by key xs) x
  least_by-push xs x = unfold_push xs x (has_least [] xs (inl refl))
