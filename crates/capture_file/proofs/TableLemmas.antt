-- attempts, and the places of those that haven't ended
use Rattle.std.proofs.Common.{◌≡◌, ℕ, ◌<◌, ◌≤◌, ◌==◌, Bool, true, false, not, ◌&&◌, ◌||◌, cond, List, [], ◌∷◌, ◌++◌, Some, None, Option, is_some, refl, sym, ap, ◌∙◌, subst, arith, nat_le}
use Rattle.std.specs.List.{AllByRecursion}
use Rattle.std.specs.Ordering.{is_eq, is_gt, is_lt, ordering_reverse}
use Rattle.std.specs.declared.cmp.Ordering.TheVariants.{Less, Equal, Greater}
use Rattle.std.specs.declared.cmp.Ordering.{Ordering}
use Rattle.std.proofs.lemmas.Bool.Decides.{nat_tests}
use Rattle.std.proofs.lemmas.Cmp.{tied_itself}
use Rattle.capture_file.specs.declared.attempt.Arrival.{Arrival}
use Rattle.capture_file.specs.declared.attempt.Place.{Place}
use Rattle.capture_file.specs.declared.attempt.Sent.{Sent}
use Rattle.capture_file.specs.declared.attempt.State.TheVariants.{Waiting, InFlight, Completed, PutBack}
use Rattle.capture_file.specs.declared.attempt.Tag.{Tag}
use Rattle.capture_file.specs.declared.spot.Queue.{Queue}
use Rattle.capture_file.specs.declared.spot.Spot.{Spot}
use Rattle.capture_file.specs.States.{State, start_of, is_waiting, is_in_flight}
use Rattle.capture_file.specs.Attempts.{Attempt, IsRising, with_id, put, without, is_same_place, is_early_at}
use Rattle.capture_file.specs.Events.{tagged, with_tag, in_flight_since, seen}
use Rattle.capture_file.specs.Spots.{queue_cmp, spot_cmp, queue_of, spot_in, spot_of, is_at_spot, AreApart, is_spot_in, first_at, last_at}
use Rattle.capture_file.specs.Tables.{is_of, IsTied}
use Rattle.capture_file.proofs.KeyLemmas.{cases}
use Rattle.capture_file.proofs.OrderLemmas.{is_eq-Equal, queues_total, spots_total, exact_queue, exact_spot, spots_le, low, next_queue, low_le, before_next, within, between, low_start}
use Rattle.capture_file.proofs.FirstLemmas.{id_at, here, all_from_ids, UpTo, no_both, first_is, one_first}
use Rattle.capture_file.proofs.LastLemmas.{last_is, one_last}

-- ---- where an attempt is

abbrev spot_start : ℕ → Option Spot → ℕ
spot_start n None = n
spot_start n (Some s) = s.start

abbrev spot_id : ℕ → Option Spot → ℕ
spot_id n None = n
spot_id n (Some s) = s.id

start_in : (start id : ℕ) (queue : Option Queue) → spot_start start (spot_in start id queue) ≡ start
start_in start id None = refl
start_in start id (Some queue) = refl

id_in : (start id : ℕ) (queue : Option Queue) → spot_id id (spot_in start id queue) ≡ id
id_in start id None = refl
id_in start id (Some queue) = refl

start_at : (a : Attempt) (s : Spot) → spot_of a ≡ Some s → s.start ≡ start_of a.state
start_at a s h = sym (ap (spot_start (start_of a.state)) h) ∙ start_in (start_of a.state) a.id (queue_of a.place a.sent a.arrival a.state)

number_at : (a : Attempt) (s : Spot) → spot_of a ≡ Some s → s.id ≡ a.id
number_at a s h = sym (ap (spot_id a.id) h) ∙ id_in (start_of a.state) a.id (queue_of a.place a.sent a.arrival a.state)

at_spot : (o : Option Spot) (s : Spot) → is_at_spot o s ≡ true → o ≡ Some s
at_spot None s h = no_both false h refl
at_spot (Some t) s h = ap Some (exact_spot t s (is_eq-Equal (spot_cmp t s) h))

is_at_itself : (s : Spot) → is_at_spot (Some s) s ≡ true
is_at_itself s = ap is_eq (tied_itself spots_total s)

same_number : (n : ℕ) → (n == n) ≡ true
same_number n = grind (arith, nat_tests)

both_true : (b c : Bool) → (b && c) ≡ true → (b ≡ true) × (c ≡ true)
both_true true c h = (refl, h)
both_true false c h = no_both false h refl

le_from : (m n : ℕ) → nat_le m n ≡ true → m ≤ n
le_from m n h = grind (arith, nat_tests)

le_test : (m n : ℕ) → m ≤ n → nat_le m n ≡ true
le_test m n h = grind (arith, nat_tests)

-- an attempt isn't at a spot of another id
elsewhere : (a : Attempt) (q : Spot) → (a.id == q.id) ≡ false → is_at_spot (spot_of a) q ≡ false
elsewhere a q f =
    cases (is_at_spot (spot_of a) q)
    (λ t. let e = number_at a q (at_spot (spot_of a) q t) in no_both (a.id == q.id) (rw e (same_number a.id)) f)
    (λ f'. f')

-- ---- what is listed

present : (all : List Attempt) (f : Spot → Bool) → IsTied all f → (b : Attempt) (s : Spot) → with_id b.id all ≡ Some b → spot_of b ≡ Some s → f s ≡ true
present all f tied b s at spot =
    let id = number_at b s spot in
    let found : with_id s.id all ≡ Some b = ap (λ n. with_id n all) id ∙ at in
    tied.each s ∙ ap (λ r. is_of r s) found ∙ ap (λ o. is_at_spot o s) spot ∙ is_at_itself s

of_found : (r : Option Attempt) (s : Spot) → is_of r s ≡ true → (b : Attempt) × (r ≡ Some b) × (spot_of b ≡ Some s)
of_found None s h = no_both false h refl
of_found (Some b) s h = (b, refl, at_spot (spot_of b) s h)

listed : (all : List Attempt) (f : Spot → Bool) → IsTied all f → (s : Spot) → f s ≡ true → (b : Attempt) × (with_id s.id all ≡ Some b) × (spot_of b ≡ Some s)
listed all f tied s h = of_found (with_id s.id all) s (sym (tied.each s) ∙ h)

-- ---- the first of a queue

starts_up_to : (b c : Attempt) (s t : Spot) → spot_of b ≡ Some s → spot_of c ≡ Some t → (s.start ≤ t.start) × (s.start ≡ t.start → s.id ≤ t.id) → UpTo b c
starts_up_to b c s t h k le =
    let sb = start_at b s h in
    let sc = start_at c t k in
    let ib = number_at b s h in
    let ic = number_at c t k in
    record { start = omega (arith, sb, sc, le.0); id = λ e. omega (arith, sb, sc, ib, ic, le.1) }

in_queue : (queue : Queue) (from : ℕ) (o : Option Spot) → is_spot_in queue from o ≡ true → (s : Spot) × (o ≡ Some s) × (s.queue ≡ queue) × (from ≤ s.start)
in_queue queue from None h = no_both false h refl
in_queue queue from (Some s) h =
    let parts = both_true (is_eq (queue_cmp s.queue queue)) (nat_le from s.start) h in
    (s, refl, exact_queue s.queue queue (is_eq-Equal (queue_cmp s.queue queue) parts.0), le_from from s.start parts.1)

is_in_queue : (queue : Queue) (from : ℕ) (s : Spot) → s.queue ≡ queue → from ≤ s.start → is_spot_in queue from (Some s) ≡ true
is_in_queue queue from s e h =
    let same : is_eq (queue_cmp s.queue queue) ≡ true = rw e (ap is_eq (tied_itself queues_total queue)) in
    rw (same, le_test from s.start h) refl

abbrev is_in : Queue → ℕ → Attempt → Bool
is_in queue from a = is_spot_in queue from (spot_of a)

pub none_first : (all : List Attempt) (f : Spot → Bool) (queue : Queue) (from : ℕ) → IsRising all → IsTied all f
    → ((q : Spot) → is_gt (spot_cmp (low queue from) q) ≡ false → f q ≡ false) → first_at queue from all ≡ None
none_first all f queue from rising tied none =
    one_first (is_in queue from) all (first_at queue from all) None (first_is (is_in queue from) all rising)
    (all_from_ids all rising (λ b at. cases (is_in queue from b)
    (λ t. let there = in_queue queue from (spot_of b) t in
    no_both (f there.0) (present all f tied b there.0 at there.1) (none there.0 (low_le queue from there.0 there.2 there.3)))
    (λ f. f)))

pub other_first : (all : List Attempt) (f : Spot → Bool) (queue : Queue) (from : ℕ) → IsRising all → IsTied all f
    → (s : Spot) → is_gt (spot_cmp (low queue from) s) ≡ false → ((q : Spot) → is_gt (spot_cmp (low queue from) q) ≡ false → f q ≡ true → is_gt (spot_cmp s q) ≡ false)
    → (s.queue ≡ queue → ⊥) → first_at queue from all ≡ None
other_first all f queue from rising tied s ge least other =
    one_first (is_in queue from) all (first_at queue from all) None (first_is (is_in queue from) all rising)
    (all_from_ids all rising (λ b at. cases (is_in queue from b)
    (λ t. let there = in_queue queue from (spot_of b) t in
    let le = least there.0 (low_le queue from there.0 there.2 there.3) (present all f tied b there.0 at there.1) in
    absurd (other (between queue from s there.0 there.2 ge le)))
    (λ f. f)))

pub found_first : (all : List Attempt) (f : Spot → Bool) (queue : Queue) (from : ℕ) → IsRising all → IsTied all f
    → (s : Spot) → is_gt (spot_cmp (low queue from) s) ≡ false → ((q : Spot) → is_gt (spot_cmp (low queue from) q) ≡ false → f q ≡ true → is_gt (spot_cmp s q) ≡ false)
    → f s ≡ true → s.queue ≡ queue → first_at queue from all ≡ with_id s.id all
found_first all f queue from rising tied s ge least is same =
    let there = listed all f tied s is in
    let b = there.0 in
    let at : with_id b.id all ≡ Some b = ap (λ n. with_id n all) (id_at all s.id b there.1) ∙ there.1 in
    let passes : is_in queue from b ≡ true = ap (is_spot_in queue from) there.2 ∙ is_in_queue queue from s same (low_start queue from s same ge) in
    let first : (c : Attempt) → with_id c.id all ≡ Some c → is_in queue from c ≡ true → UpTo b c =
    λ c at' t. (
    let sc = in_queue queue from (spot_of c) t in
    let le = spots_le s sc.0 (same ∙ sym sc.2) (least sc.0 (low_le queue from sc.0 sc.2 sc.3) (present all f tied c sc.0 at' sc.1)) in
    starts_up_to b c s sc.0 there.2 sc.1 le) in
    one_first (is_in queue from) all (first_at queue from all) (Some b) (first_is (is_in queue from) all rising) (at, passes, all_from_ids all rising first)
    ∙ sym there.1

-- ---- the last of a queue

le_of_not_lt : (o p : Ordering) → o ≡ ordering_reverse p → is_lt o ≡ false → is_gt p ≡ false
le_of_not_lt Less p e h = absurd (let h' : true ≡ false = h in cc)
le_of_not_lt Equal Equal e h = refl
le_of_not_lt Equal Less e h = absurd (let e' : Equal ≡ Greater = e in cc)
le_of_not_lt Equal Greater e h = absurd (let e' : Equal ≡ Less = e in cc)
le_of_not_lt Greater Less e h = refl
le_of_not_lt Greater Equal e h = absurd (let e' : Greater ≡ Equal = e in cc)
le_of_not_lt Greater Greater e h = absurd (let e' : Greater ≡ Less = e in cc)

-- between the low end of a queue and that of the next
abbrev pub InQueue : Queue → Spot → Type 0
InQueue queue q = (is_gt (spot_cmp (low queue 0) q) ≡ false) × (spot_cmp q (low (next_queue queue) 0) ≡ Less)

in_queue_range : (queue : Queue) (q : Spot) → q.queue ≡ queue → 0 ≤ q.start → InQueue queue q
in_queue_range queue q e h = (low_le queue 0 q e h, before_next queue q e)

pub none_last : (all : List Attempt) (f : Spot → Bool) (queue : Queue) → IsRising all → IsTied all f
    → ((q : Spot) → InQueue queue q → f q ≡ false) → last_at queue all ≡ None
none_last all f queue rising tied none =
    one_last (is_in queue 0) all (last_at queue all) None (last_is (is_in queue 0) all rising)
    (all_from_ids all rising (λ b at. cases (is_in queue 0 b)
    (λ t. let there = in_queue queue 0 (spot_of b) t in
    no_both (f there.0) (present all f tied b there.0 at there.1) (none there.0 (in_queue_range queue there.0 there.2 there.3)))
    (λ f. f)))

pub found_last : (all : List Attempt) (f : Spot → Bool) (queue : Queue) → IsRising all → IsTied all f
    → (s : Spot) → InQueue queue s → ((q : Spot) → InQueue queue q → f q ≡ true → is_lt (spot_cmp s q) ≡ false)
    → f s ≡ true → last_at queue all ≡ with_id s.id all
found_last all f queue rising tied s range greatest is =
    let there = listed all f tied s is in
    let b = there.0 in
    let same = within queue s range.0 range.1 in
    let at : with_id b.id all ≡ Some b = ap (λ n. with_id n all) (id_at all s.id b there.1) ∙ there.1 in
    let passes : is_in queue 0 b ≡ true = ap (is_spot_in queue 0) there.2 ∙ is_in_queue queue 0 s same (low_start queue 0 s same range.0) in
    let last : (c : Attempt) → with_id c.id all ≡ Some c → is_in queue 0 c ≡ true → UpTo c b =
    λ c at' t. (
    let sc = in_queue queue 0 (spot_of c) t in
    let lt = greatest sc.0 (in_queue_range queue sc.0 sc.2 sc.3) (present all f tied c sc.0 at' sc.1) in
    let le = spots_le sc.0 s (sc.2 ∙ sym same) (le_of_not_lt (spot_cmp s sc.0) (spot_cmp sc.0 s) (spots_total.antisymm s sc.0) lt) in
    starts_up_to c b sc.0 s sc.1 there.2 le) in
    one_last (is_in queue 0) all (last_at queue all) (Some b) (last_is (is_in queue 0) all rising) (at, passes, all_from_ids all rising last)
    ∙ sym there.1

-- ---- one more

numbers_same : (m n : ℕ) → (m == n) ≡ true → m ≡ n
numbers_same m n h = grind (arith, nat_tests)

none_with : (all : List Attempt) (id : ℕ) → AllByRecursion (λ (b : Attempt). b.id < id) all → with_id id all ≡ None
none_with [] id low = refl
none_with (b ∷ rest) id low = let f : (b.id == id) ≡ false = grind (arith, nat_tests) in rw f (none_with rest id low.1)

pushed_here : (all : List Attempt) (a : Attempt) → AllByRecursion (λ (b : Attempt). b.id < a.id) all → with_id a.id (all ++ a ∷ []) ≡ Some a
pushed_here [] a low = here a []
pushed_here (b ∷ rest) a low = let f : (b.id == a.id) ≡ false = grind (arith, nat_tests) in rw f (pushed_here rest a low.1)

pushed_other : (all : List Attempt) (a : Attempt) (id : ℕ) → (a.id == id) ≡ false → with_id id (all ++ a ∷ []) ≡ with_id id all
pushed_other [] a id f = rw f refl
pushed_other (b ∷ rest) a id f = ap (cond (b.id == id) (Some b)) (pushed_other rest a id f)

or_false : (b : Bool) → (b || false) ≡ b
or_false true = refl
or_false false = refl

pub IsTied-push : (all : List Attempt) (f g : Spot → Bool) (a : Attempt) → AllByRecursion (λ (b : Attempt). b.id < a.id) all → IsTied all f
    → ((q : Spot) → g q ≡ (is_at_spot (spot_of a) q || f q)) → IsTied (all ++ a ∷ []) g
IsTied-push all f g a low tied h = record {
  each = λ q. cases (a.id == q.id)
      (λ t. let e = numbers_same a.id q.id t in
      let none : f q ≡ false = tied.each q ∙ ap (λ r. is_of r q) (subst (λ n. with_id n all ≡ None) e (none_with all a.id low)) in
      let found : with_id q.id (all ++ a ∷ []) ≡ Some a = subst (λ n. with_id n (all ++ a ∷ []) ≡ Some a) e (pushed_here all a low) in
      h q ∙ ap (λ b. is_at_spot (spot_of a) q || b) none ∙ or_false (is_at_spot (spot_of a) q) ∙ sym (ap (λ r. is_of r q) found))
      (λ n. h q ∙ ap (λ b. b || f q) (elsewhere a q n) ∙ tied.each q ∙ sym (ap (λ r. is_of r q) (pushed_other all a q.id n)));
}

pub all_push : (P : Attempt → Type 0) (all : List Attempt) (a : Attempt) → AllByRecursion P all → P a → AllByRecursion P (all ++ a ∷ [])
all_push P [] a each h = (h, tt)
all_push P (b ∷ rest) a each h = (each.0, all_push P rest a each.1 h)

pub IsRising-push : (all : List Attempt) (a : Attempt) → AllByRecursion (λ (b : Attempt). b.id < a.id) all → IsRising all → IsRising (all ++ a ∷ [])
IsRising-push [] a low rising = (tt, tt)
IsRising-push (b ∷ rest) a low rising = (all_push (λ (c : Attempt). b.id < c.id) rest a rising.0 low.0, IsRising-push rest a low.1 rising.1)

pub without-push : (all : List Attempt) (a : Attempt) → AllByRecursion (λ (b : Attempt). b.id < a.id) all → without a.id (all ++ a ∷ []) ≡ all
without-push [] a low = rw (same_number a.id) refl
without-push (b ∷ rest) a low = let f : (b.id == a.id) ≡ false = grind (arith, nat_tests) in rw f (ap (λ bs. b ∷ bs) (without-push rest a low.1))

pub IsTied-same : (all : List Attempt) (f g : Spot → Bool) → IsTied all f → ((q : Spot) → g q ≡ f q) → IsTied all g
IsTied-same all f g tied h = record { each = λ q. h q ∙ tied.each q }

-- ---- one in the place of another

pub put_here : (all : List Attempt) (a b : Attempt) → with_id a.id all ≡ Some b → with_id a.id (put a all) ≡ Some a
put_here [] a b h = absurd (let e : None ≡ Some b = h in cc)
put_here (c ∷ rest) a b h = cases (c.id == a.id)
    (λ t. rw (t, same_number a.id) refl)
    (λ f. rw (f, f) (put_here rest a b (sym (rw f refl) ∙ h)))

pub put_other : (all : List Attempt) (a : Attempt) (id : ℕ) → (a.id == id) ≡ false → with_id id (put a all) ≡ with_id id all
put_other [] a id f = refl
put_other (c ∷ rest) a id f = cases (c.id == a.id)
    (λ t. let e = numbers_same c.id a.id t in let f' : (c.id == id) ≡ false = rw e f in rw (t, f, f') (put_other rest a id f))
    (λ n. rw n (ap (cond (c.id == id) (Some c)) (put_other rest a id f)))

put_one : (n o f : Bool) → (o ≡ true → n ≡ false) → f ≡ o → (not o && (n || f)) ≡ n
put_one n true f apart e = sym (apart refl)
put_one n false f apart e = rw e (or_false n)

pub IsTied-put : (all : List Attempt) (f g : Spot → Bool) (a b : Attempt) → with_id a.id all ≡ Some b → AreApart b a → IsTied all f
    → ((q : Spot) → g q ≡ (not (is_at_spot (spot_of b) q) && (is_at_spot (spot_of a) q || f q))) → IsTied (put a all) g
IsTied-put all f g a b was apart tied h = record {
  each = λ q. cases (a.id == q.id)
      (λ t. let e = numbers_same a.id q.id t in
      let before : f q ≡ is_at_spot (spot_of b) q = tied.each q ∙ ap (λ r. is_of r q) (subst (λ n. with_id n all ≡ Some b) e was) in
      let found : with_id q.id (put a all) ≡ Some a = subst (λ n. with_id n (put a all) ≡ Some a) e (put_here all a b was) in
      h q ∙ put_one (is_at_spot (spot_of a) q) (is_at_spot (spot_of b) q) (f q) (apart q) before ∙ sym (ap (λ r. is_of r q) found))
      (λ n. let other : (b.id == q.id) ≡ false = rw (id_at all a.id b was) n in
      h q ∙ rw (elsewhere a q n, elsewhere b q other) (tied.each q ∙ sym (ap (λ r. is_of r q) (put_other all a q.id n))));
}

-- another tag changes no spot
queue_retag : (place : Place) (sent : Sent) (tag : Tag) (arrival : Option Arrival) (state : State) → queue_of place sent (tagged tag arrival) state ≡ queue_of place sent arrival state
queue_retag place sent tag None state = refl
queue_retag place sent tag (Some arrival) Waiting = refl
queue_retag place sent tag (Some arrival) (InFlight start) = refl
queue_retag place sent tag (Some arrival) (Completed start end) = refl
queue_retag place sent tag (Some arrival) (PutBack start end) = refl

pub IsTied-retag : (all : List Attempt) (f : Spot → Bool) (tag : Tag) (b : Attempt) → with_id b.id all ≡ Some b → IsTied all f → IsTied (put (with_tag tag b) all) f
IsTied-retag all f tag b was tied =
    let a = with_tag tag b in
    let same : spot_of a ≡ spot_of b = ap (spot_in (start_of b.state) b.id) (queue_retag b.place b.sent tag b.arrival b.state) in
    record {
      each = λ q. cases (a.id == q.id)
          (λ t. let e = numbers_same a.id q.id t in
          let before : f q ≡ is_at_spot (spot_of b) q = tied.each q ∙ ap (λ r. is_of r q) (subst (λ n. with_id n all ≡ Some b) e was) in
          let found : with_id q.id (put a all) ≡ Some a = subst (λ n. with_id n (put a all) ≡ Some a) e (put_here all a b was) in
          before ∙ ap (λ o. is_at_spot o q) (sym same) ∙ sym (ap (λ r. is_of r q) found))
          (λ n. tied.each q ∙ sym (ap (λ r. is_of r q) (put_other all a q.id n)));
    }

pub AreApart-none : (b a : Attempt) → spot_of a ≡ None → AreApart b a
AreApart-none b a e q t = ap (λ o. is_at_spot o q) e

put_low : (n : ℕ) (all : List Attempt) (a : Attempt) → AllByRecursion (λ (b : Attempt). n < b.id) all → AllByRecursion (λ (b : Attempt). n < b.id) (put a all)
put_low n [] a low = tt
put_low n (b ∷ rest) a low = cases (b.id == a.id)
    (λ t. rw t (subst (λ m. n < m) (numbers_same b.id a.id t) low.0, put_low n rest a low.1))
    (λ f. rw f (low.0, put_low n rest a low.1))

pub IsRising-put : (all : List Attempt) (a : Attempt) → IsRising all → IsRising (put a all)
IsRising-put [] a rising = tt
IsRising-put (b ∷ rest) a rising = cases (b.id == a.id)
    (λ t. rw t (subst (λ n. AllByRecursion (λ (c : Attempt). n < c.id) (put a rest)) (numbers_same b.id a.id t) (put_low b.id rest a rising.0), IsRising-put rest a rising.1))
    (λ f. rw f (put_low b.id rest a rising.0, IsRising-put rest a rising.1))

-- ---- without one

pub without_here : (all : List Attempt) (id : ℕ) → with_id id (without id all) ≡ None
without_here [] id = refl
without_here (c ∷ rest) id = cases (c.id == id)
    (λ t. rw t (without_here rest id))
    (λ f. rw (f, f) (without_here rest id))

pub without_other : (all : List Attempt) (id n : ℕ) → (id == n) ≡ false → with_id n (without id all) ≡ with_id n all
without_other [] id n f = refl
without_other (c ∷ rest) id n f = cases (c.id == id)
    (λ t. let e = numbers_same c.id id t in let f' : (c.id == n) ≡ false = rw e f in rw (t, f') (without_other rest id n f))
    (λ g. rw g (ap (cond (c.id == n) (Some c)) (without_other rest id n f)))

not_self : (b : Bool) → (not b && b) ≡ false
not_self true = refl
not_self false = refl

pub IsTied-without : (all : List Attempt) (f g : Spot → Bool) (id : ℕ) (b : Attempt) → with_id id all ≡ Some b → IsTied all f
    → ((q : Spot) → g q ≡ (not (is_at_spot (spot_of b) q) && f q)) → IsTied (without id all) g
IsTied-without all f g id b was tied h = record {
  each = λ q. cases (id == q.id)
      (λ t. let e = numbers_same id q.id t in
      let before : f q ≡ is_at_spot (spot_of b) q = tied.each q ∙ ap (λ r. is_of r q) (subst (λ n. with_id n all ≡ Some b) e was) in
      let none : with_id q.id (without id all) ≡ None = subst (λ n. with_id n (without id all) ≡ None) e (without_here all id) in
      h q ∙ rw before (not_self (is_at_spot (spot_of b) q)) ∙ sym (ap (λ r. is_of r q) none))
      (λ n. let other : (b.id == q.id) ≡ false = rw (id_at all id b was) n in
      h q ∙ rw (elsewhere b q other) (tied.each q ∙ sym (ap (λ r. is_of r q) (without_other all id q.id n))));
}

pub without-none : (all : List Attempt) (id : ℕ) → with_id id all ≡ None → without id all ≡ all
without-none [] id h = refl
without-none (c ∷ rest) id h = cases (c.id == id)
    (λ t. absurd (let e : Some c ≡ None = sym (rw t refl) ∙ h in cc))
    (λ f. rw f (ap (λ bs. c ∷ bs) (without-none rest id (sym (rw f refl) ∙ h))))

without_low : (n : ℕ) (all : List Attempt) (id : ℕ) → AllByRecursion (λ (b : Attempt). n < b.id) all → AllByRecursion (λ (b : Attempt). n < b.id) (without id all)
without_low n [] id low = tt
without_low n (b ∷ rest) id low = cases (b.id == id)
    (λ t. rw t (without_low n rest id low.1))
    (λ f. rw f (low.0, without_low n rest id low.1))

pub IsRising-without : (all : List Attempt) (id : ℕ) → IsRising all → IsRising (without id all)
IsRising-without [] id rising = tt
IsRising-without (b ∷ rest) id rising = cases (b.id == id)
    (λ t. rw t (IsRising-without rest id rising.1))
    (λ f. rw f (without_low b.id rest id rising.0, IsRising-without rest id rising.1))

-- ---- what `insert` and `remove` say

pub added_as_or : (b c : Bool) → cond b true c ≡ (b || c)
added_as_or true c = refl
added_as_or false c = refl

pub removed_as_and : (b c : Bool) → cond b false c ≡ (not b && c)
removed_as_and true c = refl
removed_as_and false c = refl

-- ---- which aren't where others are

apart_by : (f : Option Spot → Bool) (a b : Attempt) → (f (spot_of a) ≡ f (spot_of b) → ⊥) → AreApart a b
apart_by f a b other q h =
    cases (is_at_spot (spot_of b) q)
    (λ k. absurd (other (ap f (at_spot (spot_of a) q h) ∙ sym (ap f (at_spot (spot_of b) q k)))))
    (λ k. k)

abbrev flies : Option Spot → Bool
flies None = false
flies (Some s) = s.queue.lane.in_flight

abbrev is_early : Option Spot → Bool
is_early None = false
is_early (Some s) = s.queue.lane.early

differ : (b c : Bool) → b ≡ true → c ≡ false → b ≡ c → ⊥
differ b c t f e = no_both b t (e ∙ f)

waiting_flies_not : (place : Place) (sent : Sent) (arrival : Option Arrival) (state : State) (id : ℕ) → is_waiting state ≡ true → flies (spot_in (start_of state) id (queue_of place sent arrival state)) ≡ false
waiting_flies_not place sent arrival Waiting id t = refl
waiting_flies_not place sent arrival (InFlight start) id t = no_both false t refl
waiting_flies_not place sent arrival (Completed start end) id t = no_both false t refl
waiting_flies_not place sent arrival (PutBack start end) id t = no_both false t refl

started_flies : (place : Place) (sent : Sent) (arrival : Option Arrival) (start id : ℕ) → flies (spot_in start id (queue_of place sent arrival (InFlight start))) ≡ true
started_flies place sent None start id = refl
started_flies place sent (Some arrival) start id = refl

-- what is started was elsewhere
pub apart_started : (sent : Sent) (time : ℕ) (a : Attempt) → is_waiting a.state ≡ true → AreApart a (in_flight_since sent time a)
apart_started sent time a t =
    let before = waiting_flies_not a.place a.sent a.arrival a.state a.id t in
    let after = started_flies a.place sent a.arrival time a.id in
    apart_by flies a (in_flight_since sent time a) (λ e. differ (flies (spot_of (in_flight_since sent time a))) (flies (spot_of a)) after before (sym e))

early_before : (place : Place) (sent : Sent) (arrival : Option Arrival) (state : State) (id : ℕ) (x l : Bool) → (is_in_flight state && x && not (is_some arrival) && l) ≡ true
    → is_early (spot_in (start_of state) id (queue_of place sent arrival state)) ≡ true
early_before place sent arrival Waiting id x l t = no_both false t refl
early_before place sent None (InFlight start) id x l t = refl
early_before place sent (Some arrival) (InFlight start) id true l t = no_both false t refl
early_before place sent (Some arrival) (InFlight start) id false l t = no_both false t refl
early_before place sent arrival (Completed start end) id x l t = no_both false t refl
early_before place sent arrival (PutBack start end) id x l t = no_both false t refl

seen_after : (place : Place) (sent : Sent) (arrival : Arrival) (state : State) (id : ℕ) → is_early (spot_in (start_of state) id (queue_of place sent (Some arrival) state)) ≡ false
seen_after place sent arrival Waiting id = refl
seen_after place sent arrival (InFlight start) id = refl
seen_after place sent arrival (Completed start end) id = refl
seen_after place sent arrival (PutBack start end) id = refl

-- one whose arrival is seen late was elsewhere
pub apart_seen : (place : Place) (from : ℕ) (tag : Tag) (a : Attempt) → is_early_at place from a ≡ true → AreApart a (seen tag a)
apart_seen place from tag a t =
    let before = early_before a.place a.sent a.arrival a.state a.id (is_same_place a.place place) (nat_le from (start_of a.state)) t in
    let after = seen_after a.place a.sent (record { time = start_of a.state; tag = tag }) a.state a.id in
    apart_by is_early a (seen tag a) (differ (is_early (spot_of a)) (is_early (spot_of (seen tag a))) before after)
