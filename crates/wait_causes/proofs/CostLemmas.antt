-- the costs of the freezes of a kind add up
use mathlib.Core.Path.{fun_ext}
use Rattle.std.proofs.Common.{◌≡◌, ℕ, zero, suc, ◌+◌, ◌-◌, ◌*◌, ◌<◌, ◌≤◌, Bool, true, false, cond, not, List, [], ◌∷◌, ◌++◌, map, refl, sym, ap, ◌∙◌, arith, filter, flat_map, count_by, sum_by, ◌==◌, ◌&&◌, ◌||◌, nat_le, nat_lt, All, mul-add, le-leb, lt-ltb, eqb-true}
use Rattle.std.specs.List.{range_with_len}
use Rattle.std.proofs.lemmas.Bool.Decides.{nat_tests}
use Rattle.std.proofs.lemmas.List.Sums.{sum_by-cons, sum_by-append}
use Rattle.round_net.proofs.CountLemmas.{count_by-cons, count_by-append, count_by-filter}
use Rattle.wait_causes.specs.Freezes.{begins, behind, rounds_between, cause_of, waits_for, stay_cost, cost_in, freeze_from, Freeze}
use Rattle.wait_causes.specs.Words.{WaitCause, FreezeKind}
use Rattle.wait_causes.specs.Stays.{ExplainedStay}
use Rattle.wait_causes.proofs.FreezeLemmas.{between-cons, between-none}

-- no rounds cost nothing, and rounds after others cost more
cost-none : (causes : ℕ → ℕ → WaitCause) (cause : WaitCause) (stays : List ExplainedStay) → cost_in causes cause [] stays ≡ 0
unfolding cost_in
cost-none causes cause [] = refl
cost-none causes cause (s ∷ ss) =
    let none : s.weight * 0 ≡ 0 = omega arith in
    omega (arith, sum_by-cons (stay_cost causes cause []) s ss, cost-none causes cause ss, none)

cost-append : (causes : ℕ → ℕ → WaitCause) (cause : WaitCause) (xs ys : List ℕ) (stays : List ExplainedStay) → cost_in causes cause (xs ++ ys) stays ≡ cost_in causes cause xs stays + cost_in causes cause ys stays
unfolding cost_in
cost-append causes cause xs ys [] = refl
cost-append causes cause xs ys (s ∷ ss) =
    let both : s.weight * count_by (waits_for causes cause s) (xs ++ ys) ≡ s.weight * count_by (waits_for causes cause s) xs + s.weight * count_by (waits_for causes cause s) ys =
    ap (λ n. s.weight * n) (count_by-append (waits_for causes cause s) xs ys) ∙ mul-add s.weight (count_by (waits_for causes cause s) xs) (count_by (waits_for causes cause s) ys) in
    omega (arith, both, cost-append causes cause xs ys ss, sum_by-cons (stay_cost causes cause (xs ++ ys)) s ss, sum_by-cons (stay_cost causes cause xs) s ss, sum_by-cons (stay_cost causes cause ys) s ss)

-- the rounds of the freeze that begins in a round
abbrev pub run : (ℕ → Bool) → ℕ → ℕ → List ℕ
run frozen last r = rounds_between r (behind frozen last r)

-- the freezes cost what their rounds do
pub runs_cost : (kind : FreezeKind) (n : ℕ) (frozen : ℕ → Bool) (last : ℕ) (causes : ℕ → ℕ → WaitCause) (there : List ExplainedStay) (starts : List ℕ) →
    sum_by (λ (f : Freeze). f.cost) (map (freeze_from kind n frozen last causes there) starts) ≡ cost_in causes (cause_of kind) (flat_map (run frozen last) starts) there
unfolding freeze_from
runs_cost kind n frozen last causes there [] = sym (cost-none causes (cause_of kind) there)
runs_cost kind n frozen last causes there (r ∷ rs) =
    sum_by-cons (λ (f : Freeze). f.cost) (freeze_from kind n frozen last causes there r) (map (freeze_from kind n frozen last causes there) rs)
    ∙ ap (λ k. cost_in causes (cause_of kind) (run frozen last r) there + k) (runs_cost kind n frozen last causes there rs)
    ∙ sym (cost-append causes (cause_of kind) (run frozen last r) (flat_map (run frozen last) rs) there)

-- the round after a freeze
behind-free : (frozen : ℕ → Bool) (last r : ℕ) → r < last → frozen r ≡ false → behind frozen last r ≡ r
unfolding behind
behind-free frozen last r lt free = rw (between-cons r last lt) (rw free refl)

behind-held : (frozen : ℕ → Bool) (last r : ℕ) → r < last → frozen r ≡ true → behind frozen last r ≡ behind frozen last (r + 1)
unfolding behind
behind-held frozen last r lt held = rw (between-cons r last lt) (rw held refl)

behind-end : (frozen : ℕ → Bool) (last r : ℕ) → last ≤ r → behind frozen last r ≡ last
unfolding behind
behind-end frozen last r le = rw (between-none r last le) refl

behind-later : (frozen : ℕ → Bool) (last r n : ℕ) → r + n ≡ last → r ≤ behind frozen last r
behind-later frozen last r zero e = omega (arith, behind-end frozen last r (omega (arith, e)))
behind-later frozen last r (suc n) e = elim (frozen r) as (λ b. frozen r ≡ b → r ≤ behind frozen last r) [
  | true ↦ λ held. omega (arith, behind-held frozen last r (omega (arith, e)) held, behind-later frozen last (r + 1) n (omega (arith, e)))
  | false ↦ λ free. omega (arith, behind-free frozen last r (omega (arith, e)) free)
] refl

run-free : (frozen : ℕ → Bool) (last r : ℕ) → r < last → frozen r ≡ false → run frozen last r ≡ []
run-free frozen last r lt free = rw (behind-free frozen last r lt free) (between-none r r (omega arith))

run-held : (frozen : ℕ → Bool) (last r n : ℕ) → r + suc n ≡ last → frozen r ≡ true → run frozen last r ≡ r ∷ run frozen last (r + 1)
run-held frozen last r n e held =
    let later = behind-later frozen last (r + 1) n (omega (arith, e)) in
    rw (behind-held frozen last r (omega (arith, e)) held) (between-cons r (behind frozen last (r + 1)) (omega (arith, later)))

run-end : (frozen : ℕ → Bool) (last r : ℕ) → last ≤ r → run frozen last r ≡ []
run-end frozen last r le = between-none r (behind frozen last r) (omega (arith, le, behind-end frozen last r le))

-- no freeze goes on in a round
abbrev fresh : (ℕ → Bool) → ℕ → Bool
fresh frozen r = nat_le r 1 || not (frozen (r - 1))

-- a round at whose end it was frozen goes on with a freeze or begins one, and no other does
goes_on : (frozen : ℕ → Bool) (last a n : ℕ) → a + suc n ≡ last → frozen a ≡ true → (b : Bool) → fresh frozen a ≡ b →
    run frozen last (a + 1) ++ flat_map (run frozen last) (filter (begins frozen) (range_with_len (a + 1) n)) ≡ filter frozen (range_with_len (a + 1) n) →
    cond b [] (run frozen last a) ++ flat_map (run frozen last) (filter (begins frozen) (range_with_len a (suc n))) ≡ filter frozen (range_with_len a (suc n))
goes_on frozen last a n e held true is next =
    rw (held, is) (ap (λ xs. xs ++ flat_map (run frozen last) (filter (begins frozen) (range_with_len (a + 1) n))) (run-held frozen last a n e held) ∙ ap (λ xs. a ∷ xs) next)
goes_on frozen last a n e held false is next =
    rw (held, is) (ap (λ xs. xs ++ flat_map (run frozen last) (filter (begins frozen) (range_with_len (a + 1) n))) (run-held frozen last a n e held) ∙ ap (λ xs. a ∷ xs) next)

is_free : (frozen : ℕ → Bool) (last a n : ℕ) → a + suc n ≡ last → frozen a ≡ false → (b : Bool) →
    flat_map (run frozen last) (filter (begins frozen) (range_with_len (a + 1) n)) ≡ filter frozen (range_with_len (a + 1) n) →
    cond b [] (run frozen last a) ++ flat_map (run frozen last) (filter (begins frozen) (range_with_len a (suc n))) ≡ filter frozen (range_with_len a (suc n))
is_free frozen last a n e free true next = rw free next
is_free frozen last a n e free false next =
    rw free (ap (λ xs. xs ++ flat_map (run frozen last) (filter (begins frozen) (range_with_len (a + 1) n))) (run-free frozen last a (omega (arith, e)) free) ∙ next)

fresh-next : (frozen : ℕ → Bool) (a : ℕ) (h : Bool) → 1 ≤ a → frozen a ≡ h → fresh frozen (a + 1) ≡ not h
fresh-next frozen a h some is =
    let here : a + 1 - 1 ≡ a = omega arith in
    let later : nat_le (a + 1) 1 ≡ false = grind (arith, nat_tests) in
    rw (later, here, is) refl

-- from a round on: the rest of the freeze that goes on there, and the rounds of all that begin, are the rounds at whose ends it was frozen
written_from : (frozen : ℕ → Bool) (last a n : ℕ) → 1 ≤ a → a + n ≡ last → (b : Bool) → fresh frozen a ≡ b → cond b [] (run frozen last a) ++ flat_map (run frozen last) (filter (begins frozen) (range_with_len a n)) ≡ filter frozen (range_with_len a n)
written_from frozen last a zero some e true is = refl
written_from frozen last a zero some e false is = ap (λ xs. xs ++ []) (run-end frozen last a (omega (arith, e)))
written_from frozen last a (suc n) some e b is = elim (frozen a) as (λ h. frozen a ≡ h → cond b [] (run frozen last a) ++ flat_map (run frozen last) (filter (begins frozen) (range_with_len a (suc n))) ≡ filter frozen (range_with_len a (suc n))) [
  | true ↦ λ held. goes_on frozen last a n e held b is (written_from frozen last (a + 1) n (omega arith) (omega (arith, e)) false (fresh-next frozen a true some held))
  | false ↦ λ free. is_free frozen last a n e free b (written_from frozen last (a + 1) n (omega arith) (omega (arith, e)) true (fresh-next frozen a false some free))
] refl

-- Written out round by round, the freezes are the rounds at whose ends it was frozen.
pub written_out : (frozen : ℕ → Bool) (last : ℕ) → 1 ≤ last → flat_map (run frozen last) (filter (begins frozen) (rounds_between 1 last)) ≡ filter frozen (rounds_between 1 last)
written_out frozen last some = written_from frozen last 1 (last - 1) (omega arith) (omega (arith, some)) true refl

both_pass : (a b : Bool) → (b ≡ true → a ≡ true) → (a && b) ≡ b
both_pass true b h = refl
both_pass false true h = absurd (let e = h refl in cc)
both_pass false false h = refl

-- a count over the rounds that pass is one over all, where no other counts
pub count_passed : (p frozen : ℕ → Bool) (xs : List ℕ) → ((r : ℕ) → p r ≡ true → frozen r ≡ true) → count_by p (filter frozen xs) ≡ count_by p xs
count_passed p frozen xs h = count_by-filter frozen p xs ∙ ap (λ (q : ℕ → Bool). count_by q xs) (fun_ext (λ r. both_pass (frozen r) (p r) (h r)))

-- the rounds of a stay among others
waits_here : (q : ℕ → Bool) (a l r : ℕ) → a ≤ r → r < l → (nat_le a r && (nat_lt r l && q r)) ≡ q r
waits_here q a l r le lt = rw (le-leb a r le, lt-ltb r l lt) refl

no_wait_before : (q : ℕ → Bool) (a l r : ℕ) → r < a → (nat_le a r && (nat_lt r l && q r)) ≡ false
no_wait_before q a l r lt =
    let no : nat_le a r ≡ false = grind (arith, nat_tests) in
    rw no refl

no_wait_behind : (q : ℕ → Bool) (a l r : ℕ) → a ≤ r → l ≤ r → (nat_le a r && (nat_lt r l && q r)) ≡ false
no_wait_behind q a l r le ge =
    let no : nat_lt r l ≡ false = grind (arith, nat_tests) in
    rw (le-leb a r le, no) refl

count-yes : (p q : ℕ → Bool) (r : ℕ) (rs : List ℕ) (l : ℕ) → r < l → p r ≡ q r → count_by p rs ≡ count_by q (range_with_len (r + 1) (l - (r + 1))) → count_by p (r ∷ rs) ≡ count_by q (range_with_len r (l - r))
count-yes p q r rs l lt same rest =
    count_by-cons p r rs ∙ ap (λ b. cond b 1 0 + count_by p rs) same ∙ ap (λ n. cond (q r) 1 0 + n) rest
    ∙ sym (count_by-cons q r (range_with_len (r + 1) (l - (r + 1)))) ∙ ap (count_by q) (sym (between-cons r l lt))

count-no : (p : ℕ → Bool) (r : ℕ) (rs : List ℕ) → p r ≡ false → count_by p (r ∷ rs) ≡ count_by p rs
count-no p r rs fails =
    let none : ◌≡◌ {A = ℕ} (cond (p r) 1 0) 0 = rw fails refl in
    omega (arith, none, count_by-cons p r rs)

from_arrival : (q : ℕ → Bool) (a l b n : ℕ) → a ≤ b → l ≤ b + n → count_by (λ r. nat_le a r && (nat_lt r l && q r)) (range_with_len b n) ≡ count_by q (range_with_len b (l - b))
from_arrival q a l b zero le most = ap (count_by q) (sym (between-none b l (omega (arith, most))))
from_arrival q a l b (suc n) le most = elim (nat_lt b l) as (λ h. nat_lt b l ≡ h → count_by (λ r. nat_le a r && (nat_lt r l && q r)) (range_with_len b (suc n)) ≡ count_by q (range_with_len b (l - b))) [
  | true ↦ λ e.
      let lt : b < l = grind (arith, nat_tests) in
      count-yes (λ r. nat_le a r && (nat_lt r l && q r)) q b (range_with_len (b + 1) n) l lt (waits_here q a l b le lt) (from_arrival q a l (b + 1) n (omega (arith, le)) (omega (arith, most)))
  | false ↦ λ e.
      let ge : l ≤ b = grind (arith, nat_tests) in
      count-no (λ r. nat_le a r && (nat_lt r l && q r)) b (range_with_len (b + 1) n) (no_wait_behind q a l b le ge)
      ∙ from_arrival q a l (b + 1) n (omega (arith, le)) (omega (arith, most))
      ∙ ap (count_by q) (between-none (b + 1) l (omega (arith, ge)) ∙ sym (between-none b l ge))
] refl

pub count_waits : (q : ℕ → Bool) (a l b n : ℕ) → b ≤ a → l ≤ b + n → count_by (λ r. nat_le a r && (nat_lt r l && q r)) (range_with_len b n) ≡ count_by q (range_with_len a (l - a))
count_waits q a l b zero le most = ap (count_by q) (sym (between-none a l (omega (arith, le, most))))
count_waits q a l b (suc n) le most = elim (nat_lt b a) as (λ h. nat_lt b a ≡ h → count_by (λ r. nat_le a r && (nat_lt r l && q r)) (range_with_len b (suc n)) ≡ count_by q (range_with_len a (l - a))) [
  | true ↦ λ e.
      let lt : b < a = grind (arith, nat_tests) in
      count-no (λ r. nat_le a r && (nat_lt r l && q r)) b (range_with_len (b + 1) n) (no_wait_before q a l b lt)
      ∙ count_waits q a l (b + 1) n (omega (arith, lt)) (omega (arith, most))
  | false ↦ λ e.
      let ge : a ≤ b = grind (arith, nat_tests) in
      let at : b ≡ a = omega (arith, ge, le) in
      from_arrival q a l b (suc n) ge most ∙ ap (λ k. count_by q (range_with_len k (l - k))) at
] refl

-- sums by number
pub sum_flat : {X Y : Type 0} (g : Y → ℕ) (f : X → List Y) (xs : List X) → sum_by g (flat_map f xs) ≡ sum_by (λ x. sum_by g (f x)) xs
sum_flat g f [] = refl
sum_flat g f (x ∷ xs) = sum_by-append g (f x) (flat_map f xs) ∙ ap (λ n. sum_by g (f x) + n) (sum_flat g f xs) ∙ sym (sum_by-cons (λ x. sum_by g (f x)) x xs)

sum_plus : {X : Type 0} (f g h : X → ℕ) (xs : List X) → ((x : X) → h x ≡ f x + g x) → sum_by h xs ≡ sum_by f xs + sum_by g xs
sum_plus f g h [] each = refl
sum_plus f g h (x ∷ xs) each = omega (arith, each x, sum_plus f g h xs each, sum_by-cons h x xs, sum_by-cons f x xs, sum_by-cons g x xs)

pub sum_same : (f g : ℕ → ℕ) (a n : ℕ) → ((k : ℕ) → k < a + n → f k ≡ g k) → sum_by f (range_with_len a n) ≡ sum_by g (range_with_len a n)
sum_same f g a zero same = refl
sum_same f g a (suc n) same = omega (arith, same a (omega arith), sum_same f g (a + 1) n (λ k lt. same k (omega (arith, lt))), sum_by-cons f a (range_with_len (a + 1) n), sum_by-cons g a (range_with_len (a + 1) n))

-- one number of those from some on is this one
none_is : (m v a n : ℕ) → m < a → sum_by (λ k. cond (m == k) v 0) (range_with_len a n) ≡ 0
none_is m v a zero lt = refl
none_is m v a (suc n) lt =
    let no : (m == a) ≡ false = grind (arith, nat_tests) in
    let here : ◌≡◌ {A = ℕ} (cond (m == a) v 0) 0 = rw no refl in
    omega (arith, here, none_is m v (a + 1) n (omega (arith, lt)), sum_by-cons (λ k. cond (m == k) v 0) a (range_with_len (a + 1) n))

one_is : (m v a n : ℕ) → a ≤ m → m < a + n → sum_by (λ k. cond (m == k) v 0) (range_with_len a n) ≡ v
one_is m v a zero le lt = absurd (omega (arith, le, lt))
one_is m v a (suc n) le lt = elim (m == a) as (λ b. (m == a) ≡ b → sum_by (λ k. cond (m == k) v 0) (range_with_len a (suc n)) ≡ v) [
  | true ↦ λ e.
      let same : m ≡ a = eqb-true m a e in
      let here : ◌≡◌ {A = ℕ} (cond (m == a) v 0) v = rw e refl in
      omega (arith, here, none_is m v (a + 1) n (omega (arith, same)), sum_by-cons (λ k. cond (m == k) v 0) a (range_with_len (a + 1) n))
  | false ↦ λ e.
      let more : a < m = grind (arith, nat_tests) in
      let here : ◌≡◌ {A = ℕ} (cond (m == a) v 0) 0 = rw e refl in
      omega (arith, here, one_is m v (a + 1) n (omega (arith, more)) (omega (arith, lt)), sum_by-cons (λ k. cond (m == k) v 0) a (range_with_len (a + 1) n))
] refl

filter_sum : {X : Type 0} (g : X → ℕ) (b : Bool) (x : X) (xs : List X) → sum_by g (cond b (x ∷ xs) xs) ≡ cond b (g x) 0 + sum_by g xs
filter_sum g true x xs = sum_by-cons g x xs
filter_sum g false x xs = omega arith

sum_zero : (xs : List ℕ) → sum_by (λ k. 0) xs ≡ 0
sum_zero [] = refl
sum_zero (x ∷ xs) = omega (arith, sum_zero xs, sum_by-cons (λ k. 0) x xs)

-- the sums over the elements of each number add up to the sum over all
pub sum_numbers : {X : Type 0} (number g : X → ℕ) (count : ℕ) (xs : List X) → All (λ x. number x < count) xs → sum_by (λ k. sum_by g (filter (λ x. number x == k) xs)) (range_with_len 0 count) ≡ sum_by g xs
sum_numbers number g count [] all = sum_zero (range_with_len 0 count)
sum_numbers number g count (x ∷ xs) all =
    let parts = sum_plus (λ k. cond (number x == k) (g x) 0) (λ k. sum_by g (filter (λ x. number x == k) xs)) (λ k. sum_by g (filter (λ x. number x == k) (x ∷ xs))) (range_with_len 0 count) (λ k. filter_sum g (number x == k) x (filter (λ x. number x == k) xs)) in
    let here = one_is (number x) (g x) 0 count (omega arith) (omega (arith, all 0 x (omega arith))) in
    let rest = sum_numbers number g count xs (λ k d lt. all (suc k) d (omega arith)) in
    omega (arith, parts, here, rest, sum_by-cons g x xs)
