-- attempts in a map whose keys are their ids
use Rattle.std.proofs.Common.{◌≡◌, ℕ, ◌<◌, ◌==◌, Bool, true, false, List, [], ◌∷◌, ◌++◌, refl, sym, ap, ◌∙◌, arith}
use Rattle.std.specs.List.{AllByRecursion}
use Rattle.std.specs.List.Sorted.{IsStrictlySortedBy}
use Rattle.std.specs.Ordering.{nat_cmp, is_eq}
use Rattle.std.specs.declared.cmp.Ordering.TheVariants.{Less, Greater}
use Rattle.std.specs.Map.{lookup, keys_of, values_of, set_value, remove_entry}
use Rattle.std.specs.BTreeMap.{is_at, insert_entry}
use Rattle.std.proofs.lemmas.Bool.Decides.{nat_tests}
use Rattle.capture_file.specs.Attempts.{Attempt, ids, IsRising, with_id, put, without}
use Rattle.capture_file.specs.Keys.{AreIds}

pub cases : {G : Type 0} (b : Bool) → (b ≡ true → G) → (b ≡ false → G) → G
cases true t f = t refl
cases false t f = f refl

is_at-id : (id k : ℕ) → is_eq (nat_cmp id k) ≡ (k == id)
is_at-id id k = grind (arith, nat_tests)

below : (k n : ℕ) → nat_cmp k n ≡ Less → k < n
below k n h = grind (arith, nat_tests)

same-id : (m n : ℕ) → (m == n) ≡ true → m ≡ n
same-id m n h = grind (arith, nat_tests)

pub apart-id : (m n : ℕ) → m < n → (n == m) ≡ false
apart-id m n h = grind (arith, nat_tests)

all_below : (a : Attempt) (es : List (ℕ × Attempt)) → AreIds es → AllByRecursion (λ n. nat_cmp a.id n ≡ Less) (keys_of es) → AllByRecursion (λ (b : Attempt). a.id < b.id) (values_of es)
all_below a [] ids less = tt
all_below a (e ∷ es) ids less = (omega (arith, below a.id e.0 less.0, ids.0), all_below a es ids.1 less.1)

pub IsRising-values : (es : List (ℕ × Attempt)) → AreIds es → IsStrictlySortedBy nat_cmp (keys_of es) → IsRising (values_of es)
unfolding IsStrictlySortedBy
IsRising-values [] ids ordered = tt
IsRising-values (e ∷ es) ids ordered = (all_below e.1 es ids.1 (rw ids.0 ordered.0), IsRising-values es ids.1 ordered.1)

pub lookup-with_id : (id : ℕ) (es : List (ℕ × Attempt)) → AreIds es → lookup (is_at (nat_cmp id)) es ≡ with_id id (values_of es)
lookup-with_id id [] ids = refl
lookup-with_id id (e ∷ es) ids =
    let test : is_eq (nat_cmp id e.0) ≡ (e.1.id == id) = rw ids.0 (is_at-id id e.0) in
    let rest = lookup-with_id id es ids.1 in
    cc

-- ---- one put in the place of another

put-apart : (a : Attempt) (bs : List Attempt) → AllByRecursion (λ (b : Attempt). a.id < b.id) bs → put a bs ≡ bs
put-apart a [] h = refl
put-apart a (b ∷ bs) h = rw (apart-id a.id b.id h.0) (ap (λ cs. b ∷ cs) (put-apart a bs h.1))

pub values-set_value : (a : Attempt) (es : List (ℕ × Attempt)) → AreIds es → IsRising (values_of es) → values_of (set_value (is_at (nat_cmp a.id)) es a) ≡ put a (values_of es)
values-set_value a [] ids rising = refl
values-set_value a (e ∷ es) ids rising =
    let test : is_eq (nat_cmp a.id e.0) ≡ (e.1.id == a.id) = rw ids.0 (is_at-id a.id e.0) in
    let rest = values-set_value a es ids.1 rising.1 in
    cases (e.1.id == a.id)
    (λ h. let k : e.1.id ≡ a.id = same-id e.1.id a.id h in rw (test, h) (ap (λ cs. a ∷ cs) (sym (put-apart a (values_of es) (rw (← k) rising.0)))))
    (λ h. rw (test, h) (ap (λ cs. e.1 ∷ cs) rest))

pub AreIds-set_value : (a : Attempt) (es : List (ℕ × Attempt)) → AreIds es → AreIds (set_value (is_at (nat_cmp a.id)) es a)
AreIds-set_value a [] ids = tt
AreIds-set_value a (e ∷ es) ids =
    cases (is_eq (nat_cmp a.id e.0))
    (λ h. let k : (e.0 == a.id) ≡ true = sym (is_at-id a.id e.0) ∙ h in rw h (sym (same-id e.0 a.id k), ids.1))
    (λ h. rw h (ids.0, AreIds-set_value a es ids.1))

-- ---- without one

without-apart : (id : ℕ) (bs : List Attempt) → AllByRecursion (λ (b : Attempt). id < b.id) bs → without id bs ≡ bs
without-apart id [] h = refl
without-apart id (b ∷ bs) h = rw (apart-id id b.id h.0) (ap (λ cs. b ∷ cs) (without-apart id bs h.1))

pub values-remove_entry : (id : ℕ) (es : List (ℕ × Attempt)) → AreIds es → IsRising (values_of es) → values_of (remove_entry (is_at (nat_cmp id)) es) ≡ without id (values_of es)
values-remove_entry id [] ids rising = refl
values-remove_entry id (e ∷ es) ids rising =
    let test : is_eq (nat_cmp id e.0) ≡ (e.1.id == id) = rw ids.0 (is_at-id id e.0) in
    let rest = values-remove_entry id es ids.1 rising.1 in
    cases (e.1.id == id)
    (λ h. let k : e.1.id ≡ id = same-id e.1.id id h in rw (test, h) (sym (without-apart id (values_of es) (rw (← k) rising.0))))
    (λ h. rw (test, h) (ap (λ cs. e.1 ∷ cs) rest))

pub AreIds-remove_entry : (id : ℕ) (es : List (ℕ × Attempt)) → AreIds es → AreIds (remove_entry (is_at (nat_cmp id)) es)
AreIds-remove_entry id [] ids = tt
AreIds-remove_entry id (e ∷ es) ids =
    cases (is_eq (nat_cmp id e.0))
    (λ h. rw h ids.1)
    (λ h. rw h (ids.0, AreIds-remove_entry id es ids.1))

-- ---- one more, with a higher id

above : (k n : ℕ) → n < k → nat_cmp k n ≡ Greater
above k n h = grind (arith, nat_tests)

pub entries-push : (a : Attempt) (es : List (ℕ × Attempt)) → AreIds es → AllByRecursion (λ (b : Attempt). b.id < a.id) (values_of es) → insert_entry nat_cmp es a.id a ≡ es ++ (a.id, a) ∷ []
entries-push a [] ids low = refl
entries-push a (e ∷ es) ids low =
    let lt : e.0 < a.id = omega (arith, low.0, ids.0) in
    rw (above a.id e.0 lt) (ap (λ fs. e ∷ fs) (entries-push a es ids.1 low.1))

pub values-push : (a : Attempt) (es : List (ℕ × Attempt)) → AreIds es → AllByRecursion (λ (b : Attempt). b.id < a.id) (values_of es) → values_of (insert_entry nat_cmp es a.id a) ≡ values_of es ++ a ∷ []
values-push a [] ids low = refl
values-push a (e ∷ es) ids low =
    let lt : e.0 < a.id = omega (arith, low.0, ids.0) in
    rw (above a.id e.0 lt) (ap (λ bs. e.1 ∷ bs) (values-push a es ids.1 low.1))

pub AreIds-push : (a : Attempt) (es : List (ℕ × Attempt)) → AreIds es → AllByRecursion (λ (b : Attempt). b.id < a.id) (values_of es) → AreIds (insert_entry nat_cmp es a.id a)
AreIds-push a [] ids low = (refl, tt)
AreIds-push a (e ∷ es) ids low =
    let lt : e.0 < a.id = omega (arith, low.0, ids.0) in
    rw (above a.id e.0 lt) (ids.0, AreIds-push a es ids.1 low.1)

pub keys-ids : (es : List (ℕ × Attempt)) → AreIds es → keys_of es ≡ ids (values_of es)
keys-ids [] entries = refl
keys-ids (e ∷ es) entries = rw (entries.0, keys-ids es entries.1) refl
