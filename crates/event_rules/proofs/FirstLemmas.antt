-- what a send changes of the stays that wait at a device
use Rattle.std.proofs.Common.{◌≡◌, ◌≢◌, ℕ, ◌+◌, ◌≤◌, Bool, true, false, cond, List, [], ◌∷◌, ◌++◌, refl, sym, ap, ◌∙◌, arith, Some, None, append-nil, zero-add, drop, not, ◌==◌, ◌&&◌, nat_lt, nat_le, filter, fold, slice_get, count_by, option_and_then}
use Rattle.std.proofs.lemmas.Bool.{and_parts, eqb-true}
use Rattle.std.proofs.lemmas.Bool.Decides.{nat_tests}
use Rattle.std.proofs.lemmas.List.Sums.{sum_by-cons}
use Rattle.cam_types.specs.Lists.{is_less}
use Rattle.cam_types.specs.Topology.{Topology}
use Rattle.event_rules.specs.Event.{is_some_and, Event, Send}
use Rattle.event_rules.specs.Counts.{round}
use Rattle.event_rules.specs.Stays.{waiting, is_at, queue, queue_key, first, Passage}
use Rattle.event_rules.specs.Head.{is_ready, head, next}
use Rattle.event_rules.specs.Sorted.{insert_by, sorted_by}
use Rattle.event_rules.proofs.QueueLaws.{in_order, is_later, later, in_order-send, first-in_order, later-push}
use Rattle.event_rules.proofs.TotalLaws.{is_of, not_of, unsent_count}
use Rattle.event_rules.specs.Legal.{is_next}
use Rattle.event_rules.specs.Refusals.{device_of}
use Rattle.event_rules.proofs.NextLemmas.{head_stands, queued-first, device-of_its_ccb}
use Rattle.event_rules.proofs.StandLemmas.{AreStates, IsWaiting, waiting-states}

-- the CCB that a legal send sends is the first of its device, which is ready
pub record IsFirst (c : Topology) (es : List Event) (ccb : ℕ) (p : Passage) : Type 0 where
  pub first : first es (device_of es ccb) ≡ Some p
  pub same : p.ccb ≡ ccb
  pub ready : is_ready c es (device_of es ccb) ≡ true

first_next : (c : Topology) (es : List Event) (a ccb : ℕ) (p : Passage) → next c es a ≡ Some p → (p.ccb == ccb) ≡ true → IsFirst c es ccb p
unfolding next
first_next c es a ccb p e same =
    elim (head c es a) as (λ o. head c es a ≡ o → option_and_then (first es) o ≡ Some p → IsFirst c es ccb p) [
      | None ↦ λ h g. absurd (cc)
      | Some d ↦ λ h g.
          let q = queued-first es d p g in
          let at : device_of es ccb ≡ d = ap (device_of es) (sym (eqb-true p.ccb ccb same)) ∙ device-of_its_ccb es p q.of_its_ccb ∙ q.at in
          record {
            first = ap (first es) at ∙ g;
            same = eqb-true p.ccb ccb same;
            ready = ap (is_ready c es) at ∙ (head_stands c es a d h).ready;
          }
    ] refl e

pub first-legal : (c : Topology) (es : List Event) (lane ccb : ℕ) → is_next c es lane ccb ≡ true → (p : Passage) × IsFirst c es ccb p
unfolding is_next
first-legal c es lane ccb h = elim (slice_get c.lanes lane) as (λ o. is_some_and (λ a. is_some_and (λ (p : Passage). p.ccb == ccb) (next c es a)) o ≡ true → (p : Passage) × IsFirst c es ccb p) [
  | None ↦ λ g. absurd (cc)
  | Some a ↦ λ g. elim (next c es a) as (λ o. next c es a ≡ o → is_some_and (λ (p : Passage). p.ccb == ccb) o ≡ true → (p : Passage) × IsFirst c es ccb p) [
    | None ↦ λ e k. absurd (cc)
    | Some p ↦ λ e k. (p, first_next c es a ccb p e k)
  ] refl g
] h

and_false : (a b : Bool) → b ≡ false → (a && b) ≡ false
and_false true b e = e
and_false false b e = refl

-- no more of a part pass a test than of the whole
count_cases : (p q : Passage → Bool) (x : Passage) (xs : List Passage) (b : Bool) → q x ≡ b →
    count_by p (cond b (x ∷ filter q xs) (filter q xs)) ≡ cond b (cond (p x) 1 0) 0 + count_by p (filter q xs)
count_cases p q x xs true e = sum_by-cons (λ y. cond (p y) 1 0) x (filter q xs)
count_cases p q x xs false e = omega arith

count_part : (b : Bool) (n : ℕ) → cond b n 0 ≤ n
count_part true n = omega arith
count_part false n = omega arith

count-filter : (t p : Passage → Bool) (xs : List Passage) → count_by t (filter p xs) ≤ count_by t xs
count-filter t p [] = omega arith
count-filter t p (x ∷ xs) =
    omega (arith, count_cases t p x xs (p x) refl, count_part (p x) (cond (t x) 1 0), count-filter t p xs, sum_by-cons (λ (y : Passage). cond (t y) 1 0) x xs)

-- of two parts that have no stay in common, no more pass a test than of the whole
module _ (t p q : Passage → Bool) (apart : (x : Passage) → p x ≡ true → q x ≡ false) where
  part_cases : (x : Passage) (xs : List Passage) (b : Bool) → p x ≡ b → ◌≤◌ (cond b (cond (t x) 1 0) 0 + cond (q x) (cond (t x) 1 0) 0) (cond (t x) 1 0)
  part_cases x xs true e = let none : q x ≡ false = apart x e in omega (arith, ap (λ b. cond {A = ℕ} b (cond (t x) 1 0) 0) none)
  part_cases x xs false e = elim (q x) as (λ b. 0 + cond {A = ℕ} b (cond (t x) 1 0) 0 ≤ cond (t x) 1 0) [ true ↦ omega arith | false ↦ omega arith ]

  pub count-apart : (xs : List Passage) → count_by t (filter p xs) + count_by t (filter q xs) ≤ count_by t xs
  count-apart [] = omega arith
  count-apart (x ∷ xs) =
      omega (arith, count_cases t p x xs (p x) refl, count_cases t q x xs (q x) refl, part_cases x xs (p x) refl, count-apart xs, sum_by-cons (λ (y : Passage). cond (t y) 1 0) x xs)

-- sorting changes no count
module _ (t : Passage → Bool) where
  insert_cases : (y x : Passage) (ys rest : List Passage) (b : Bool) → count_by t rest ≡ count_by t ys + cond (t x) 1 0 →
      count_by t (cond b (x ∷ y ∷ ys) (y ∷ rest)) ≡ count_by t (y ∷ ys) + cond (t x) 1 0
  insert_cases y x ys rest true e = omega (arith, sum_by-cons (λ (z : Passage). cond (t z) 1 0) x (y ∷ ys))
  insert_cases y x ys rest false e = omega (arith, e, sum_by-cons (λ (z : Passage). cond (t z) 1 0) y rest, sum_by-cons (λ (z : Passage). cond (t z) 1 0) y ys)

  count-insert : (ys : List Passage) (x : Passage) → count_by t (insert_by queue_key ys x) ≡ count_by t ys + cond (t x) 1 0
  count-insert [] x = refl
  count-insert (y ∷ ys) x = insert_cases y x ys (insert_by queue_key ys x) (is_less (queue_key x) (queue_key y)) (count-insert ys x)

  count-fold : (ys xs : List Passage) → count_by t (fold (insert_by queue_key) ys xs) ≡ count_by t ys + count_by t xs
  count-fold ys [] = omega arith
  count-fold ys (x ∷ xs) = omega (arith, count-fold (insert_by queue_key ys x) xs, count-insert ys x, sum_by-cons (λ (z : Passage). cond (t z) 1 0) x xs)

  pub count-sorted : (xs : List Passage) → count_by t (sorted_by queue_key xs) ≡ count_by t xs
  count-sorted xs = count-fold [] xs ∙ zero-add (count_by t xs)

-- where no stay is the CCB's, none is dropped
kept_one : (ccb n : ℕ) (b : Bool) → (n == ccb) ≡ b → cond {A = ℕ} b 1 0 ≡ 0 → not (ccb == n) ≡ true
kept_one ccb n true e g = absurd (omega arith)
kept_one ccb n false e g = grind (arith, nat_tests)

pub none-dropped : (ccb : ℕ) (ps : List Passage) → count_by (is_of ccb) ps ≡ 0 → filter (not_of ccb) ps ≡ ps
none-dropped ccb [] h = refl
none-dropped ccb (p ∷ ps) h =
    let more = sum_by-cons (λ (x : Passage). cond (is_of ccb x) 1 0) p ps in
    let here : not_of ccb p ≡ true = kept_one ccb p.ccb (is_of ccb p) refl (omega (arith, h, more)) in
    rw here (ap (λ qs. p ∷ qs) (none-dropped ccb ps (omega (arith, h, more))))

-- where the first is the CCB's, and no other, the others are left
pub first-dropped : (ccb : ℕ) (p : Passage) (ps : List Passage) → slice_get ps 0 ≡ Some p → p.ccb ≡ ccb → count_by (is_of ccb) ps ≤ 1 → filter (not_of ccb) ps ≡ drop 1 ps
first-dropped ccb p [] e same le = absurd (cc)
first-dropped ccb p (q ∷ qs) e same le =
    let is : q ≡ p = cc in
    let own : q.ccb ≡ ccb = ap (λ (x : Passage). x.ccb) is ∙ same in
    let yes' : is_of ccb q ≡ true = grind (arith, nat_tests) in
    let gone : not_of ccb q ≡ false = grind (arith, nat_tests) in
    let more = sum_by-cons (λ (x : Passage). cond (is_of ccb x) 1 0) q qs in
    rw gone (none-dropped ccb qs (omega (arith, le, more, ap (λ b. cond {A = ℕ} b 1 0) yes')))

pub some-first : (ccb : ℕ) (p : Passage) (ps : List Passage) → slice_get ps 0 ≡ Some p → p.ccb ≡ ccb → 1 ≤ count_by (is_of ccb) ps
some-first ccb p [] e same = absurd (cc)
some-first ccb p (q ∷ qs) e same =
    let is : q ≡ p = cc in
    let own : q.ccb ≡ ccb = ap (λ (x : Passage). x.ccb) is ∙ same in
    let yes' : is_of ccb q ≡ true = grind (arith, nat_tests) in
    omega (arith, sum_by-cons (λ (x : Passage). cond (is_of ccb x) 1 0) q qs, ap (λ b. cond {A = ℕ} b 1 0) yes')

-- what a send of the first of its device finds
module _ (c : Topology) (es : List Event) (ccb : ℕ) (p : Passage) (states : AreStates es) (turn : IsFirst c es ccb p) where
  queued : ℕ → List Passage
  queued d = filter (is_at d (round es)) (waiting es)

  in_order-queued : (d : ℕ) → in_order es d ≡ sorted_by queue_key (queued d)
  unfolding queue queued
  in_order-queued d = refl

  count-in_order : (d : ℕ) → count_by (is_of ccb) (in_order es d) ≡ count_by (is_of ccb) (queued d)
  count-in_order d = ap (count_by (is_of ccb)) (in_order-queued d) ∙ count-sorted (is_of ccb) (queued d)

  first_stay : slice_get (in_order es (device_of es ccb)) 0 ≡ Some p
  first_stay = first-in_order es (device_of es ccb) ∙ turn.first

  some_queued : 1 ≤ count_by (is_of ccb) (in_order es (device_of es ccb))
  some_queued = some-first ccb p (in_order es (device_of es ccb)) first_stay turn.same

  -- it is the CCB's only one that waits
  some_waits : 1 ≤ unsent_count es ccb
  unfolding queued
  some_waits = omega (arith, some_queued, count-in_order (device_of es ccb), count-filter (is_of ccb) (is_at (device_of es ccb) (round es)) (waiting es))

  pub stands : IsWaiting es ccb
  stands = waiting-states es ccb states some_waits

  not_at : (d d' r : ℕ) → d ≢ d' → (x : Passage) → is_at d' r x ≡ true → is_at d r x ≡ false
  not_at d d' r ne x e =
      let at : x.device ≡ d' = eqb-true x.device d' (and_parts (x.device == d') (nat_le x.arrival r) e).0 in
      let other : (x.device == d) ≡ false = grind (arith, nat_tests) in
      rw other refl

  not_later : (d d' r : ℕ) (x : Passage) → is_at d' r x ≡ true → is_later d r x ≡ false
  not_later d d' r x e =
      let le : nat_le x.arrival r ≡ true = (and_parts (x.device == d') (nat_le x.arrival r) e).1 in
      let past : nat_lt r x.arrival ≡ false = grind (arith, nat_tests) in
      and_false _ _ past

  none_elsewhere : (d : ℕ) → d ≢ device_of es ccb → count_by (is_of ccb) (in_order es d) ≡ 0
  unfolding queued
  none_elsewhere d ne =
      let apart = count-apart (is_of ccb) (is_at (device_of es ccb) (round es)) (is_at d (round es)) (not_at d (device_of es ccb) (round es) ne) (waiting es) in
      omega (arith, apart, some_queued, count-in_order d, count-in_order (device_of es ccb), stands.unsent)

  none_later : (d : ℕ) → count_by (is_of ccb) (later es d) ≡ 0
  unfolding queued
  none_later d =
      let apart = count-apart (is_of ccb) (is_at (device_of es ccb) (round es)) (is_later d (round es)) (not_later d (device_of es ccb) (round es)) (waiting es) in
      omega (arith, apart, some_queued, count-in_order (device_of es ccb), stands.unsent)

  only_one : count_by (is_of ccb) (in_order es (device_of es ccb)) ≤ 1
  unfolding queued
  only_one = omega (arith, stands.unsent, count-in_order (device_of es ccb), count-filter (is_of ccb) (is_at (device_of es ccb) (round es)) (waiting es))

  -- the first leaves the queue of its device, and no other queue changes
  pub in_order-first : (lane : ℕ) → in_order (es ++ Send lane ccb ∷ []) (device_of es ccb) ≡ drop 1 (in_order es (device_of es ccb))
  in_order-first lane =
      in_order-send es lane ccb (device_of es ccb) ∙ first-dropped ccb p (in_order es (device_of es ccb)) first_stay turn.same only_one

  pub in_order-elsewhere : (lane d : ℕ) → d ≢ device_of es ccb → in_order (es ++ Send lane ccb ∷ []) d ≡ in_order es d
  in_order-elsewhere lane d ne = in_order-send es lane ccb d ∙ none-dropped ccb (in_order es d) (none_elsewhere d ne)

  pub later-send : (lane d : ℕ) → later (es ++ Send lane ccb ∷ []) d ≡ later es d
  later-send lane d = later-push es (Send lane ccb) d refl ∙ append-nil (filter (not_of ccb) (later es d)) ∙ none-dropped ccb (later es d) (none_later d)
