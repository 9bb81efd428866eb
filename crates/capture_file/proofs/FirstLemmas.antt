-- the first of some attempts
use Rattle.std.proofs.Common.{◌≡◌, ℕ, ◌<◌, ◌≤◌, ◌==◌, Bool, true, false, ◌||◌, List, [], ◌∷◌, Some, None, Option, refl, sym, ap, ◌∙◌, subst, arith, nat_lt}
use Rattle.std.specs.List.{AllByRecursion, filter, find}
use Rattle.std.proofs.lemmas.Bool.Decides.{nat_tests}
use Rattle.capture_file.specs.Attempts.{Attempt, IsRising, with_id, earlier, first_started}
use Rattle.capture_file.specs.Spots.{comes_first}
use Rattle.capture_file.specs.States.{start_of}
use Rattle.capture_file.proofs.KeyLemmas.{cases}

-- ---- each attempt, and those that have an id

pub all_at : (P : Attempt → Type 0) (all : List Attempt) (id : ℕ) (a : Attempt) → with_id id all ≡ Some a → AllByRecursion P all → P a
all_at P [] id a h each = absurd (let h' : None ≡ Some a = h in cc)
all_at P (b ∷ rest) id a h each =
    cases (b.id == id)
    (λ t. let h' : Some b ≡ Some a = sym (rw t refl) ∙ h in let e : b ≡ a = cc in subst P e each.0)
    (λ t. all_at P rest id a (sym (rw t refl) ∙ h) each.1)

pub id_at : (all : List Attempt) (id : ℕ) (a : Attempt) → with_id id all ≡ Some a → a.id ≡ id
id_at [] id a h = absurd (let h' : None ≡ Some a = h in cc)
id_at (b ∷ rest) id a h =
    cases (b.id == id)
    (λ t. let h' : Some b ≡ Some a = sym (rw t refl) ∙ h in let e : b ≡ a = cc in let k : b.id ≡ id = grind (arith, nat_tests) in ap (λ (x : Attempt). x.id) (sym e) ∙ k)
    (λ t. id_at rest id a (sym (rw t refl) ∙ h))

pub skip : (a : Attempt) (rest : List Attempt) (id : ℕ) → a.id < id → with_id id (a ∷ rest) ≡ with_id id rest
skip a rest id lt = let t : (a.id == id) ≡ false = grind (arith, nat_tests) in rw t refl

pub here : (a : Attempt) (rest : List Attempt) → with_id a.id (a ∷ rest) ≡ Some a
here a rest = let t : (a.id == a.id) ≡ true = grind (arith, nat_tests) in rw t refl

-- what holds of each one that an id finds holds of each
pub all_from_ids : {P : Attempt → Type 0} (all : List Attempt) → IsRising all → ((a : Attempt) → with_id a.id all ≡ Some a → P a) → AllByRecursion P all
all_from_ids [] rising h = tt
all_from_ids (a ∷ rest) rising h =
    (h a (here a rest), all_from_ids rest rising.1 (λ b e. h b (skip a rest b.id (all_at (λ (c : Attempt). a.id < c.id) rest b.id b e rising.0) ∙ e)))

pub both_all : {P Q R : Attempt → Type 0} (all : List Attempt) → ((a : Attempt) → P a → Q a → R a) → AllByRecursion P all → AllByRecursion Q all → AllByRecursion R all
both_all [] f ps qs = tt
both_all (a ∷ rest) f ps qs = (f a ps.0 qs.0, both_all rest f ps.1 qs.1)

-- ---- which comes first

pub record UpTo (a b : Attempt) : Type 0 where
  pub start : start_of a.state ≤ start_of b.state
  pub id : start_of a.state ≡ start_of b.state → a.id ≤ b.id

pub trans : (a b c : Attempt) → UpTo a b → UpTo b c → UpTo a c
trans a b c h k = record {
  start = omega (arith, h.start, k.start);
  id = λ e. omega (arith, h.start, k.start, h.id, k.id);
}

pub itself : (a : Attempt) → UpTo a a
itself a = record { start = omega arith; id = λ e. omega arith }

-- none of those that pass a test, or the first of them
abbrev pub IsFirst : (Attempt → Bool) → List Attempt → Option Attempt → Type 0
IsFirst p all None = AllByRecursion (λ b. p b ≡ false) all
IsFirst p all (Some a) = (with_id a.id all ≡ Some a) × (p a ≡ true) × AllByRecursion (λ b. p b ≡ true → UpTo a b) all

pub no_both : {G : Type 0} (b : Bool) → b ≡ true → b ≡ false → G
no_both b t f = absurd (let e : true ≡ false = sym t ∙ f in cc)

skipped : (p : Attempt → Bool) (a : Attempt) (rest : List Attempt) (r : Option Attempt) → IsRising (a ∷ rest) → p a ≡ false → IsFirst p rest r → IsFirst p (a ∷ rest) r
skipped p a rest None rising f h = (f, h)
skipped p a rest (Some b) rising f h =
    (skip a rest b.id (all_at (λ (c : Attempt). a.id < c.id) rest b.id b h.0 rising.0) ∙ h.0, h.1, (λ t. no_both (p a) t f, h.2))

added : (p : Attempt → Bool) (a : Attempt) (rest : List Attempt) (r : Option Attempt) → IsRising (a ∷ rest) → p a ≡ true → IsFirst p rest r → IsFirst p (a ∷ rest) (Some (earlier a r))
added p a rest None rising t h =
    (here a rest, t, (λ _. itself a, both_all rest (λ b f _ t'. no_both (p b) t' f) h h))
added p a rest (Some b) rising t h =
    cases (nat_lt (start_of b.state) (start_of a.state))
    (λ lt. let k : start_of b.state < start_of a.state = grind (arith, nat_tests) in
    let first : UpTo b a = record { start = omega arith; id = λ e. omega (arith, e) } in
    let e : earlier a (Some b) ≡ b = rw lt refl in
    subst (λ x. IsFirst p (a ∷ rest) (Some x)) (sym e)
    (skip a rest b.id (all_at (λ (c : Attempt). a.id < c.id) rest b.id b h.0 rising.0) ∙ h.0, h.1, (λ _. first, h.2)))
    (λ ge. let k : start_of a.state ≤ start_of b.state = grind (arith, nat_tests) in
    let e : earlier a (Some b) ≡ a = rw ge refl in
    subst (λ x. IsFirst p (a ∷ rest) (Some x)) (sym e)
    (here a rest, t, (λ _. itself a, both_all rest (λ c lt up t'. record { start = omega (arith, k, (up t').start); id = λ e. omega (arith, lt) }) rising.0 h.2)))

-- the first one is the first one
pub first_is : (p : Attempt → Bool) (all : List Attempt) → IsRising all → IsFirst p all (first_started (filter p all))
first_is p [] rising = tt
first_is p (a ∷ rest) rising =
    let more = first_is p rest rising.1 in
    cases (p a)
    (λ t. let e : filter p (a ∷ rest) ≡ a ∷ filter p rest = rw t refl in subst (λ xs. IsFirst p (a ∷ rest) (first_started xs)) (sym e) (added p a rest (first_started (filter p rest)) rising t more))
    (λ f. let e : filter p (a ∷ rest) ≡ filter p rest = rw f refl in subst (λ xs. IsFirst p (a ∷ rest) (first_started xs)) (sym e) (skipped p a rest (first_started (filter p rest)) rising f more))

-- there is one first
pub one_first : (p : Attempt → Bool) (all : List Attempt) (r s : Option Attempt) → IsFirst p all r → IsFirst p all s → r ≡ s
one_first p all None None h k = refl
one_first p all None (Some b) h k = no_both (p b) k.1 (all_at (λ c. p c ≡ false) all b.id b k.0 h)
one_first p all (Some a) None h k = no_both (p a) h.1 (all_at (λ c. p c ≡ false) all a.id a h.0 k)
one_first p all (Some a) (Some b) h k =
    let one : UpTo a b = all_at (λ c. p c ≡ true → UpTo a c) all b.id b k.0 h.2 k.1 in
    let other : UpTo b a = all_at (λ c. p c ≡ true → UpTo b c) all a.id a h.0 k.2 h.1 in
    let same : a.id ≡ b.id = omega (arith, one.start, other.start, one.id, other.id) in
    sym h.0 ∙ ap (λ id. with_id id all) same ∙ k.0

pub passes_first : (b c : Bool) → b ≡ true → (b || c) ≡ true
passes_first true c t = refl
passes_first false c t = no_both false t refl

pub passes_second : (b c : Bool) → c ≡ true → (b || c) ≡ true
passes_second true c t = refl
passes_second false c t = t

pub fails_first : (b c : Bool) → b ≡ false → (b || c) ≡ true → c ≡ true
fails_first true c f t = no_both true refl f
fails_first false c f t = t

pub fails_both : (b c : Bool) → b ≡ false → c ≡ false → (b || c) ≡ false
fails_both true c f g = f
fails_both false c f g = g

pub or_first : (b c : Bool) → c ≡ false → (b || c) ≡ true → b ≡ true
or_first true c f t = refl
or_first false c f t = no_both c t f

pub or_else : {G : Type 0} (b c : Bool) → (b || c) ≡ true → (b ≡ true → G) → (c ≡ true → G) → G
or_else true c t f g = f refl
or_else false c t f g = g t

pub before : (a b : Attempt) → comes_first a b ≡ true → UpTo a b
before a b t = record { start = grind (arith, nat_tests); id = λ e. grind (arith, nat_tests) }

pub not_before : (a b : Attempt) → comes_first a b ≡ false → UpTo b a
not_before a b f = record { start = grind (arith, nat_tests); id = λ e. grind (arith, nat_tests) }

at_0 : (a : Attempt) (r : Option Attempt) → start_of a.state ≡ 0 → earlier a r ≡ a
at_0 a None e = refl
at_0 a (Some b) e = let f : nat_lt (start_of b.state) (start_of a.state) ≡ false = grind (arith, nat_tests) in rw f refl

-- the first one in the list is the first, if none of them was started
pub find-first : (p q : Attempt → Bool) (all : List Attempt) → ((a : Attempt) → p a ≡ q a) → ((a : Attempt) → q a ≡ true → start_of a.state ≡ 0) → find p all ≡ first_started (filter q all)
find-first p q [] same zero = refl
find-first p q (a ∷ rest) same zero =
    cases (q a)
    (λ t. rw (same a, t) (sym (ap Some (at_0 a (first_started (filter q rest)) (zero a t)))))
    (λ f. rw (same a, f) (find-first p q rest same zero))

pub filter-same : (p q : Attempt → Bool) (all : List Attempt) → ((a : Attempt) → p a ≡ q a) → filter p all ≡ filter q all
filter-same p q [] same = refl
filter-same p q (a ∷ rest) same = rw (same a, filter-same p q rest same) refl
