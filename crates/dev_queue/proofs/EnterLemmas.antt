-- What an insert into the heap is to the queue of a device.
use Rattle.std.proofs.Common.{◌≡◌, ℕ, ◌+◌, ◌^◌, ◌<◌, ◌≤◌, ◌==◌, nat_le, false, List, [], ◌∷◌, length, get_or, take, option_map, inl, inr, ap, sym, subst, refl, ◌∙◌, arith, slice_get}
use Rattle.std.proofs.lemmas.Bool.{cases_eq, cases_lt, or_from, ne_eqb, lt-leb, le-leb, cond-true, cond-false}
use Rattle.std.proofs.lemmas.List.{length-map, get_or-map}
use Rattle.std.specs.List.Sorted.{IsNonDecreasingBy}
use Rattle.std.proofs.lemmas.List.Elements.{All-cons, All-head, All-tail, All-weaker}
use Rattle.camq_heap.specs.declared.entry.Entry.{Entry}
use Rattle.camq_heap.specs.Order.{place, IsRising}
use Rattle.camq_heap.specs.Queue.{Queue, key, has_generation}
use Rattle.camq_heap.proofs.OrderLemmas.{place-after, place-before}
use Rattle.dev_queue.specs.Device.{enter, enter_all, Waiting}
use Rattle.dev_queue.specs.Order.{waiting_of, AllBefore}

-- the CCB of an entry
abbrev pub waiting_from : Entry ℕ → Waiting
waiting_from e = record { ccb = e.item; priority = e.priority }

-- what came before a generation hasn't it
pub has_generation-before : (generation : ℕ) (xs : List (Entry ℕ)) → AllBefore generation xs → has_generation generation xs ≡ false
has_generation-before generation [] before = refl
has_generation-before generation (x ∷ xs) before =
    let first = All-head (λ e. e.generation < generation) x xs before in
    or_from (x.generation == generation) (has_generation generation xs)
    (ne_eqb x.generation generation (λ e. absurd (omega arith)))
    (has_generation-before generation xs (All-tail (λ e. e.generation < generation) x xs before))

-- the newest entry goes after those that are as urgent
pub waiting_of-place : (e : Entry ℕ) (xs : List (Entry ℕ)) → e.generation < 2 ^ 64 → AllBefore e.generation xs → waiting_of (place key e xs) ≡ enter (waiting_of xs) (record { ccb = e.item; priority = e.priority })
waiting_of-place e [] fits before = refl
waiting_of-place e (x ∷ xs) fits before =
    let w : Waiting = record { ccb = e.item; priority = e.priority } in
    let v : Waiting = record { ccb = x.item; priority = x.priority } in
    let first = All-head (λ y. y.generation < e.generation) x xs before in
    elim (cases_lt e.priority x.priority) [
      | inl less ↦
          ap waiting_of (place-before key e x xs (omega arith))
          ∙ sym (cond-false (nat_le x.priority e.priority) (v ∷ enter (waiting_of xs) w) (w ∷ v ∷ waiting_of xs) (lt-leb x.priority e.priority less))
      | inr le ↦
          ap waiting_of (place-after key e x xs (omega arith))
          ∙ ap (λ ys. v ∷ ys) (waiting_of-place e xs fits (All-tail (λ y. y.generation < e.generation) x xs before))
          ∙ sym (cond-true (nat_le x.priority e.priority) (v ∷ enter (waiting_of xs) w) (w ∷ v ∷ waiting_of xs) (le-leb x.priority e.priority le))
    ]

AllBefore-placed : (n : ℕ) (e : Entry ℕ) (xs : List (Entry ℕ)) → e.generation < n → AllBefore n xs → AllBefore n (place key e xs)
AllBefore-placed n e [] first before = All-cons (λ y. y.generation < n) e [] first before
AllBefore-placed n e (x ∷ xs) first before =
    let P : Entry ℕ → Type 0 = λ y. y.generation < n in
    elim (cases_lt (key x) (key e)) [
      | inl less ↦ subst (AllBefore n) (sym (place-after key e x xs less))
          (All-cons P x (place key e xs) (All-head P x xs before) (AllBefore-placed n e xs first (All-tail P x xs before)))
      | inr le ↦ subst (AllBefore n) (sym (place-before key e x xs le)) (All-cons P e (x ∷ xs) first before)
    ]

-- all came before the next generation
pub AllBefore-place : (e : Entry ℕ) (xs : List (Entry ℕ)) → AllBefore e.generation xs → AllBefore (e.generation + 1) (place key e xs)
AllBefore-place e xs before =
    AllBefore-placed (e.generation + 1) e xs (omega arith) (All-weaker (λ y. y.generation < e.generation) (λ y. y.generation < e.generation + 1) (λ y h. omega arith) xs before)

-- that many of the CCBs have entered
pub record IsEntering (old new : Queue ℕ) (entries : List Waiting) (generation next done : ℕ) : Type 0 where
  pub entered : waiting_of new.entries ≡ enter_all (waiting_of old.entries) (take done entries)
  pub before : AllBefore next new.entries
  pub counted : next ≡ generation + done
  pub len : length new.entries ≡ length old.entries + done
  pub capacity : new.capacity ≡ old.capacity

-- in a rising queue none is more urgent than one before
pub waiting_of-sorted : (xs : List (Entry ℕ)) (n : ℕ) → n ≤ 2 ^ 64 → AllBefore n xs → IsRising key xs → IsNonDecreasingBy (λ w. w.priority) (waiting_of xs)
waiting_of-sorted xs n few before rising = λ i j w le inside.
    let e : Entry ℕ = record { priority = w.priority; generation = 0; item = w.ccb } in
    let f : Entry ℕ → Waiting = λ x. record { ccb = x.item; priority = x.priority } in
    let longer : length (waiting_of xs) ≡ length xs = length-map xs f in
    let j_in : j < length xs = omega arith in
    let i_in : i < length xs = omega arith in
    elim (cases_eq i j) [
      | inl same ↦ omega (arith, ap (λ k. (get_or (waiting_of xs) k w).priority) same)
      | inr apart ↦
          let less : key (get_or xs i e) < key (get_or xs j e) = rising i j e (omega arith) j_in in
          let small : (get_or xs j e).generation < n = before j e j_in in
          omega (arith, ap (λ v. v.priority) (get_or-map f xs i e w i_in), ap (λ v. v.priority) (get_or-map f xs j e w j_in))
    ]

-- the first of the queue is that of the heap
pub slice_get-waiting_of : (xs : List (Entry ℕ)) → option_map waiting_from (slice_get xs 0) ≡ slice_get (waiting_of xs) 0
slice_get-waiting_of [] = refl
slice_get-waiting_of (x ∷ xs) = refl
