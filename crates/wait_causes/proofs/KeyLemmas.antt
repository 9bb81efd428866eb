-- a key is that of one number alone
use Rattle.std.proofs.Common.{◌≡◌, ℕ, ◌<◌, ◌≤◌, ◌⊎◌, Bool, true, false, cond, List, [], ◌∷◌, refl, sym, ap, subst, ◌∙◌, arith, ◌==◌, ◌&&◌, nat_lt, None, Some, count_by, inl, inr, eqb-true}
use Rattle.std.specs.Prelude.{Option, bytes_eq}
use Rattle.std.specs.Option.{option_eq}
use Rattle.std.proofs.lemmas.Bool.{and_parts, cases_order, lt-ltb, le-ltb}
use Rattle.std.proofs.lemmas.Bool.Decides.{nat_tests}
use Rattle.std.proofs.lemmas.List.Sums.{sum_by-cons, sum_by-le-sum_by}
use Rattle.std.proofs.lemmas.Slice.Eq.{bytes_eq-Decides}
use Rattle.recording_file.specs.Names.{NameValue}
use Rattle.recording_file.specs.declared.name.NameKind.{NameKind}
use Rattle.wait_causes.specs.Keys.{is_kind, is_name_of, name_of, is_namesake, Key, key_called, key_of, is_same_key, is_pair}

-- a number is a pair with one number at most
pub record IsMatching (same : ℕ → ℕ → Bool) : Type 0 where
  pub one_after : (n m k : ℕ) → same n m ≡ true → same n k ≡ true → m ≡ k
  pub one_before : (n m k : ℕ) → same n k ≡ true → same m k ≡ true → n ≡ m

-- ---- of two numbers with one name the greater has more namesakes before it

-- 1 of a namesake, and 0 of another
abbrev one_of : NameKind → ℕ → List ℕ → NameValue → ℕ
one_of k n text l = cond (is_namesake k n text l) 1 0

below_more : (e : Bool) (n m number : ℕ) → n < m → cond (nat_lt number n && e) 1 0 ≤ cond (nat_lt number m && e) 1 0
below_more e n m number lt = elim (nat_lt number n) as (λ b. nat_lt number n ≡ b → cond (b && e) 1 0 ≤ cond (nat_lt number m && e) 1 0) [
  | true ↦ λ is.
      let less : number < n = grind (arith, nat_tests) in
      let below : nat_lt number m ≡ true = lt-ltb number m (omega (arith, less, lt)) in
      rw below (omega arith)
  | false ↦ λ is. omega arith
] refl

one_more : (k : NameKind) (n m : ℕ) (text : List ℕ) (l : NameValue) → n < m → one_of k n text l ≤ one_of k m text l
one_more k n m text l lt = elim (is_kind l.kind k) as (λ b. cond (b && (nat_lt l.number n && bytes_eq l.text text)) 1 0 ≤ cond (b && (nat_lt l.number m && bytes_eq l.text text)) 1 0) [
  | true ↦ below_more (bytes_eq l.text text) n m l.number lt
  | false ↦ omega arith
]

never_less : (names : List NameValue) (k : NameKind) (n m : ℕ) (text : List ℕ) → n < m → count_by (is_namesake k n text) names ≤ count_by (is_namesake k m text) names
never_less names k n m text lt = sum_by-le-sum_by (one_of k n text) (one_of k m text) names (λ l. one_more k n m text l lt)

not_itself : (k : NameKind) (n : ℕ) (text : List ℕ) (l : NameValue) → l.number ≡ n → one_of k n text l ≡ 0
not_itself k n text l is =
    let no : nat_lt l.number n ≡ false = le-ltb l.number n (omega (arith, is)) in
    elim (is_kind l.kind k) as (λ b. cond {A = ℕ} (b && (nat_lt l.number n && bytes_eq l.text text)) 1 0 ≡ 0) [
      | true ↦ rw no refl
      | false ↦ refl
    ]

one_before_it : (k : NameKind) (m : ℕ) (text : List ℕ) (l : NameValue) → is_kind l.kind k ≡ true → l.number < m → l.text ≡ text → one_of k m text l ≡ 1
one_before_it k m text l kind lt same =
    let less : nat_lt l.number m ≡ true = lt-ltb l.number m lt in
    let called : bytes_eq l.text text ≡ true = (bytes_eq-Decides l.text text).1 same in
    rw (kind, less, called) refl

more_before : (names : List NameValue) (k : NameKind) (n m : ℕ) (text : List ℕ) → n < m → name_of names k n ≡ Some text → count_by (is_namesake k n text) names < count_by (is_namesake k m text) names
more_before [] k n m text lt called = absurd (no_name text called)
  where
    no_name : (t : List ℕ) → None ≡ Some t → ⊥
    no_name t e = cc
more_before (l ∷ ls) k n m text lt called = elim (is_name_of k n l) as (λ b. is_name_of k n l ≡ b → count_by (is_namesake k n text) (l ∷ ls) < count_by (is_namesake k m text) (l ∷ ls)) [
  | true ↦ λ is.
      let parts = and_parts (is_kind l.kind k) (l.number == n) is in
      let number : l.number ≡ n = eqb-true l.number n parts.1 in
      let found : name_of (l ∷ ls) k n ≡ Some l.text = rw is refl in
      let same : l.text ≡ text = named_so l.text text (sym found ∙ called) in
      omega (arith, sum_by-cons (one_of k n text) l ls, sum_by-cons (one_of k m text) l ls, not_itself k n text l number, one_before_it k m text l parts.0 (omega (arith, number, lt)) same, never_less ls k n m text lt)
  | false ↦ λ is.
      let rest : name_of (l ∷ ls) k n ≡ name_of ls k n = rw is refl in
      omega (arith, sum_by-cons (one_of k n text) l ls, sum_by-cons (one_of k m text) l ls, one_more k n m text l lt, more_before ls k n m text lt (sym rest ∙ called))
] refl
  where
    named_so : (t u : List ℕ) → Some t ≡ Some u → t ≡ u
    named_so t u e = cc

-- ---- a key has one number

in_order : (names : List NameValue) (k : NameKind) (n m : ℕ) (t : List ℕ) → name_of names k n ≡ Some t → name_of names k m ≡ Some t
    → count_by (is_namesake k n t) names ≡ count_by (is_namesake k m t) names → (n ≡ m) ⊎ ((n < m) ⊎ (m < n)) → n ≡ m
in_order names k n m t x y places (inl is) = is
in_order names k n m t x y places (inr (inl lt)) = absurd (omega (arith, places, more_before names k n m t lt x))
in_order names k n m t x y places (inr (inr lt)) = absurd (omega (arith, places, more_before names k m n t lt y))

place_of : (a b : Key) → a ≡ b → a.place ≡ b.place
place_of a b e = ap (λ (k : Key). k.place) e

name_in : (a b : Key) → a ≡ b → a.name ≡ b.name
name_in a b e = ap (λ (k : Key). k.name) e

apart : (t : List ℕ) → None ≡ Some t → ⊥
apart t e = cc

one_name : (t u : List ℕ) → Some t ≡ Some u → t ≡ u
one_name t u e = cc

named_number : (names : List NameValue) (k : NameKind) (n m : ℕ) (x y : Option (List ℕ)) → name_of names k n ≡ x → name_of names k m ≡ y
    → key_called names k n x ≡ key_called names k m y → n ≡ m
named_number names k n m None None p q e = place_of _ _ e
named_number names k n m None (Some t) p q e = absurd (apart t (name_in _ _ e))
named_number names k n m (Some t) None p q e = absurd (apart t (sym (name_in _ _ e)))
named_number names k n m (Some t) (Some u) p q e =
    let same : u ≡ t = sym (one_name t u (name_in _ _ e)) in
    let places : count_by (is_namesake k n t) names ≡ count_by (is_namesake k m t) names = subst (λ v. count_by (is_namesake k n t) names ≡ count_by (is_namesake k m v) names) same (place_of _ _ e) in
    in_order names k n m t p (q ∙ ap Some same) places (cases_order n m)

one_number : (by : Option NameKind) (names : List NameValue) (n m : ℕ) → key_of by names n ≡ key_of by names m → n ≡ m
one_number None names n m e = place_of _ _ e
one_number (Some k) names n m e = named_number names k n m (name_of names k n) (name_of names k m) refl refl e

key_from : (a b : Key) → a.name ≡ b.name → a.place ≡ b.place → a ≡ b
key_from a b e f = ap (λ (x : Option (List ℕ)). let r : Key = record { name = x; place = a.place } in r) e ∙ ap (λ (x : ℕ). let r : Key = record { name = b.name; place = x } in r) f

same_name : (x y : Option (List ℕ)) → option_eq bytes_eq x y ≡ true → x ≡ y
same_name None None h = refl
same_name None (Some y) h = absurd (differ h)
  where
    differ : false ≡ true → ⊥
    differ e = cc
same_name (Some x) None h = absurd (differ h)
  where
    differ : false ≡ true → ⊥
    differ e = cc
same_name (Some x) (Some y) h = ap Some ((bytes_eq-Decides x y).0 h)

same_key : (a b : Key) → is_same_key a b ≡ true → a ≡ b
same_key a b h =
    let parts = and_parts (option_eq bytes_eq a.name b.name) (a.place == b.place) h in
    key_from a b (same_name a.name b.name parts.0) (eqb-true a.place b.place parts.1)

pub matching : (by : Option NameKind) (was now : List NameValue) → IsMatching (is_pair by was now)
matching by was now = record {
  one_after = λ n m k h i. one_number by now m k (sym (same_key (key_of by was n) (key_of by now m) h) ∙ same_key (key_of by was n) (key_of by now k) i);
  one_before = λ n m k h i. one_number by was n m (same_key (key_of by was n) (key_of by now k) h ∙ sym (same_key (key_of by was m) (key_of by now k) i));
}
