-- what is known of requests
use Rattle.std.proofs.Common.{◌≡◌, ℕ, ◌+◌, ◌<◌, ◌==◌, true, false, cond, List, [], ◌∷◌, ◌++◌, Some, None, Option, is_some, refl, sym, ap, ◌∙◌, subst, arith}
use Rattle.std.proofs.lemmas.Bool.Decides.{nat_tests}
use Rattle.capture_file.specs.declared.attempt.Arrival.{Arrival}
use Rattle.capture_file.specs.declared.attempt.Place.{Place}
use Rattle.capture_file.specs.Attempts.{Attempt, with_id, put, without}
use Rattle.capture_file.specs.declared.attempt.Tag.{Tag}
use Rattle.capture_file.specs.Events.{Known, AreBelow, with_next, with_tag, retagged}
use Rattle.capture_file.proofs.KeyLemmas.{cases}
use Rattle.capture_file.proofs.FirstLemmas.{all_at}

number_is : (m n : ℕ) → (m == n) ≡ true → m ≡ n
number_is m n h = grind (arith, nat_tests)

pub below_put : (n : ℕ) (all : List Attempt) (a : Attempt) → AreBelow n all → AreBelow n (put a all)
below_put n [] a low = tt
below_put n (b ∷ rest) a low = cases (b.id == a.id)
    (λ t. rw t (subst (λ m. m < n) (number_is b.id a.id t) low.0, below_put n rest a low.1))
    (λ f. rw f (low.0, below_put n rest a low.1))

pub below_retag : (n : ℕ) (all : List Attempt) (tag : Tag) (o : Option Attempt) → AreBelow n all → AreBelow n (retagged tag all o)
below_retag n all tag None low = low
below_retag n all tag (Some a) low = below_put n all (with_tag tag a) low

pub below_without : (n : ℕ) (all : List Attempt) (id : ℕ) → AreBelow n all → AreBelow n (without id all)
below_without n [] id low = tt
below_without n (b ∷ rest) id low = cases (b.id == id)
    (λ t. rw t (below_without n rest id low.1))
    (λ f. rw f (low.0, below_without n rest id low.1))

pub found_push : (all : List Attempt) (a b : Attempt) (id : ℕ) → with_id id all ≡ Some a → with_id id (all ++ b ∷ []) ≡ Some a
found_push [] a b id h = absurd (let e : None ≡ Some a = h in cc)
found_push (c ∷ rest) a b id h = cases (c.id == id)
    (λ t. rw t (sym (rw t refl) ∙ h))
    (λ f. rw f (found_push rest a b id (sym (rw f refl) ∙ h)))

put_push : (all : List Attempt) (a b : Attempt) → (b.id == a.id) ≡ false → put a (all ++ b ∷ []) ≡ put a all ++ b ∷ []
put_push [] a b f = rw f refl
put_push (c ∷ rest) a b f = ap (λ bs. cond (c.id == a.id) a c ∷ bs) (put_push rest a b f)

pub next_found : (k : Known) (a : Attempt) (place : Place) (time : ℕ) (arrival : Option Arrival) → with_id a.id k.attempts ≡ Some a → with_id a.id (with_next place time arrival k).attempts ≡ Some a
next_found k a place time None h = h
next_found k a place time (Some before) h = cases (is_some place.sector)
    (λ t. rw t (found_push k.attempts a _ a.id h))
    (λ f. rw f h)

pub next_put : (k : Known) (a b : Attempt) (place : Place) (time : ℕ) (arrival : Option Arrival) → AreBelow k.next k.attempts → with_id b.id k.attempts ≡ Some b → a.id ≡ b.id
    → record (with_next place time arrival k) { attempts = put a (with_next place time arrival k).attempts } ≡ with_next place time arrival (record k { attempts = put a k.attempts })
next_put k a b place time None below at same = refl
next_put k a b place time (Some before) below at same =
    let low : b.id < k.next = all_at (λ (c : Attempt). c.id < k.next) k.attempts b.id b at below in
    let f : (k.next == a.id) ≡ false = grind (arith, nat_tests) in
    cases (is_some place.sector)
    (λ t. rw t (ap (λ (bs : List Attempt). record k { next = k.next + 1; attempts = bs }) (put_push k.attempts a _ f)))
    (λ g. rw g refl)
