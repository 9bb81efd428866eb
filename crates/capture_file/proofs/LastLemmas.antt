-- the last of some attempts
use Rattle.std.proofs.Common.{◌≡◌, ◌<◌, ◌≤◌, Bool, true, false, ◌||◌, List, [], ◌∷◌, Some, None, Option, refl, sym, ap, ◌∙◌, subst, arith, nat_lt}
use Rattle.std.specs.List.{AllByRecursion, filter}
use Rattle.std.proofs.lemmas.Bool.Decides.{nat_tests}
use Rattle.capture_file.specs.Attempts.{Attempt, IsRising, with_id, later, last_started}
use Rattle.capture_file.specs.Spots.{later_of, comes_first}
use Rattle.capture_file.specs.States.{start_of}
use Rattle.capture_file.proofs.KeyLemmas.{cases}
use Rattle.capture_file.proofs.FirstLemmas.{all_at, skip, here, both_all, UpTo, trans, itself, no_both, passes_first, passes_second, fails_first, fails_both, or_first, or_else, before, not_before}

-- none of those that pass a test, or the last of them
abbrev pub IsLast : (Attempt → Bool) → List Attempt → Option Attempt → Type 0
IsLast p all None = AllByRecursion (λ b. p b ≡ false) all
IsLast p all (Some a) = (with_id a.id all ≡ Some a) × (p a ≡ true) × AllByRecursion (λ b. p b ≡ true → UpTo b a) all

skipped : (p : Attempt → Bool) (a : Attempt) (rest : List Attempt) (r : Option Attempt) → IsRising (a ∷ rest) → p a ≡ false → IsLast p rest r → IsLast p (a ∷ rest) r
skipped p a rest None rising f h = (f, h)
skipped p a rest (Some b) rising f h =
    (skip a rest b.id (all_at (λ (c : Attempt). a.id < c.id) rest b.id b h.0 rising.0) ∙ h.0, h.1, (λ t. no_both (p a) t f, h.2))

added : (p : Attempt → Bool) (a : Attempt) (rest : List Attempt) (r : Option Attempt) → IsRising (a ∷ rest) → p a ≡ true → IsLast p rest r → IsLast p (a ∷ rest) (Some (later a r))
added p a rest None rising t h =
    (here a rest, t, (λ _. itself a, both_all rest (λ b f _ t'. no_both (p b) t' f) h h))
added p a rest (Some b) rising t h =
    cases (nat_lt (start_of b.state) (start_of a.state))
    (λ lt. let k : start_of b.state < start_of a.state = grind (arith, nat_tests) in
    let e : later a (Some b) ≡ a = rw lt refl in
    subst (λ x. IsLast p (a ∷ rest) (Some x)) (sym e)
    (here a rest, t, (λ _. itself a, both_all rest (λ c up _ t'. record { start = omega (arith, k, (up t').start); id = λ e'. omega (arith, k, (up t').start, e') }) h.2 h.2)))
    (λ ge. let k : start_of a.state ≤ start_of b.state = grind (arith, nat_tests) in
    let lt : a.id < b.id = all_at (λ (c : Attempt). a.id < c.id) rest b.id b h.0 rising.0 in
    let last : UpTo a b = record { start = omega (arith, k); id = λ e'. omega (arith, lt) } in
    let e : later a (Some b) ≡ b = rw ge refl in
    subst (λ x. IsLast p (a ∷ rest) (Some x)) (sym e)
    (skip a rest b.id lt ∙ h.0, h.1, (λ _. last, h.2)))

-- the last one is the last one
pub last_is : (p : Attempt → Bool) (all : List Attempt) → IsRising all → IsLast p all (last_started (filter p all))
last_is p [] rising = tt
last_is p (a ∷ rest) rising =
    let more = last_is p rest rising.1 in
    cases (p a)
    (λ t. let e : filter p (a ∷ rest) ≡ a ∷ filter p rest = rw t refl in subst (λ xs. IsLast p (a ∷ rest) (last_started xs)) (sym e) (added p a rest (last_started (filter p rest)) rising t more))
    (λ f. let e : filter p (a ∷ rest) ≡ filter p rest = rw f refl in subst (λ xs. IsLast p (a ∷ rest) (last_started xs)) (sym e) (skipped p a rest (last_started (filter p rest)) rising f more))

-- there is one last
pub one_last : (p : Attempt → Bool) (all : List Attempt) (r s : Option Attempt) → IsLast p all r → IsLast p all s → r ≡ s
one_last p all None None h k = refl
one_last p all None (Some b) h k = no_both (p b) k.1 (all_at (λ c. p c ≡ false) all b.id b k.0 h)
one_last p all (Some a) None h k = no_both (p a) h.1 (all_at (λ c. p c ≡ false) all a.id a h.0 k)
one_last p all (Some a) (Some b) h k =
    let one : UpTo b a = all_at (λ c. p c ≡ true → UpTo c a) all b.id b k.0 h.2 k.1 in
    let other : UpTo a b = all_at (λ c. p c ≡ true → UpTo c b) all a.id a h.0 k.2 h.1 in
    let same : a.id ≡ b.id = omega (arith, one.start, other.start, one.id, other.id) in
    sym h.0 ∙ ap (λ id. with_id id all) same ∙ k.0

-- the last of all that pass either test
pub last_of_both : (p q : Attempt → Bool) (all : List Attempt) (r s : Option Attempt) → IsLast p all r → IsLast q all s → IsLast (λ a. p a || q a) all (later_of r s)
last_of_both p q all None None h k = both_all all (λ a f g. fails_both (p a) (q a) f g) h k
last_of_both p q all None (Some b) h k =
    (k.0, passes_second (p b) (q b) k.1, both_all all (λ a f up t. up (fails_first (p a) (q a) f t)) h k.2)
last_of_both p q all (Some a) None h k =
    (h.0, passes_first (p a) (q a) h.1, both_all all (λ b up g t. up (or_first (p b) (q b) g t)) h.2 k)
last_of_both p q all (Some a) (Some b) h k =
    cases (comes_first a b)
    (λ t. let first : UpTo a b = before a b t in
    let e : later_of (Some a) (Some b) ≡ Some b = rw t refl in
    subst (IsLast (λ c. p c || q c) all) (sym e)
    (k.0, passes_second (p b) (q b) k.1, both_all all (λ c up up' t'. or_else (p c) (q c) t' (λ x. trans c a b (up x) first) up') h.2 k.2))
    (λ f. let first : UpTo b a = not_before a b f in
    let e : later_of (Some a) (Some b) ≡ Some a = rw f refl in
    subst (IsLast (λ c. p c || q c) all) (sym e)
    (h.0, passes_first (p a) (q a) h.1, both_all all (λ c up up' t'. or_else (p c) (q c) t' up (λ x. trans c b a (up' x) first)) h.2 k.2))
