-- What the changes of the array are to the queue.
use Rattle.std.proofs.Common.{◌≡◌, ◌≢◌, ℕ, zero, suc, ◌^◌, ◌<◌, ◌≤◌, ◌==◌, ◌||◌, Bool, true, false, List, [], ◌∷◌, length, get_or, drop, inl, inr, ap, sym, subst, refl, ◌∙◌, arith, All, slice_get, remove, IsPermutation}
use Rattle.std.proofs.lemmas.Bool.{cases_lt, or_parts, eqb-false}
use Rattle.std.proofs.lemmas.List.Elements.{All-contains, All-cons, All-tail}
use Rattle.std.proofs.lemmas.List.Sorted.{All-permutation, length_permutation, IsPermutation-remove}
use Rattle.camq_heap.specs.Queue.{Queue, key, has_generation, change_priority, IsSound, Entry}
use Rattle.camq_heap.specs.Order.{place, in_order, rank, AllApart}
use Rattle.camq_heap.specs.Heap.{IsHeap}
use Rattle.camq_heap.proofs.ListChangeLemmas.{IsHeap-short}
use Rattle.camq_heap.proofs.OrderLemmas.{place-after, place-before, IsAmong, Contains-from_among, AllApart-head, AllApart-tail, AllApart-cons, AllApart-permutation, in_order-has, in_order-permutation}
use Rattle.camq_heap.proofs.RankLemmas.{HasAt, HasAt-from, slice_get-heap, rank-root}

module _ {T : Type 0} where
  -- entries whose generations are apart and fit have keys apart
  AllApart-key : (xs : List (Entry T)) → AllApart (λ e. e.generation) xs → ((e : Entry T) → IsAmong e xs → e.generation < 2 ^ 64) → AllApart key xs
  AllApart-key [] apart fits = λ n. omega arith
  AllApart-key (x ∷ xs) apart fits =
      AllApart-cons key x xs
      (λ y a same.
      let mine = fits x (inl refl) in
      let others = fits y (inr a) in
      AllApart-head (λ e. e.generation) x xs apart y a (omega arith))
      (AllApart-key xs (AllApart-tail (λ e. e.generation) x xs apart) (λ e a. fits e (inr a)))

  pub keys_apart : (xs : List (Entry T)) → AllApart (λ e. e.generation) xs → All (λ e. e.generation < 2 ^ 64) xs → AllApart key xs
  keys_apart xs apart fits = AllApart-key xs apart (λ e a. All-contains (λ x. x.generation < 2 ^ 64) xs e fits (Contains-from_among xs e a))

  other_generation : (generation : ℕ) (xs : List (Entry T)) → has_generation generation xs ≡ false → (e : Entry T) → IsAmong e xs → e.generation ≢ generation
  other_generation generation [] absent e a = absurd a
  other_generation generation (x ∷ xs) absent e (inl same) =
      λ is. eqb-false x.generation generation (or_parts (x.generation == generation) (has_generation generation xs) absent).0 (ap (λ z. z.generation) (sym same) ∙ is)
  other_generation generation (x ∷ xs) absent e (inr a) =
      other_generation generation xs (or_parts (x.generation == generation) (has_generation generation xs) absent).1 e a

  -- an empty array
  pub IsSound-none : (xs : List (Entry T)) (capacity memory : ℕ) → xs ≡ [] → capacity ≤ memory → IsSound xs capacity memory
  IsSound-none xs capacity memory none enough =
      subst (λ l. IsSound l capacity memory) (sym none)
      (record { heap = IsHeap-short key [] (omega arith); apart = λ n. omega arith; fits = λ k d inside. absurd (omega arith); room = omega arith; memory_for = enough })

  -- an entry of a new generation more
  module _ (xs ys : List (Entry T)) (e : Entry T) (capacity memory : ℕ) where
    all_apart : has_generation e.generation (in_order key xs) ≡ false → IsSound xs capacity memory → AllApart (λ x. x.generation) (e ∷ xs)
    all_apart absent s = AllApart-cons (λ x. x.generation) e xs
        (λ y a. other_generation e.generation (in_order key xs) absent y (in_order-has key y xs a)) s.apart

    pub IsSound-push : has_generation e.generation (in_order key xs) ≡ false → e.generation < 2 ^ 64 → IsHeap key ys → IsPermutation (e ∷ xs) ys → length xs < capacity
        → IsSound xs capacity memory → IsSound ys capacity memory
    IsSound-push absent fits heap p room s = record {
      heap = heap;
      apart = AllApart-permutation (λ x. x.generation) (e ∷ xs) ys p (all_apart absent s);
      fits = All-permutation (λ x. x.generation < 2 ^ 64) (e ∷ xs) ys p (All-cons (λ x. x.generation < 2 ^ 64) e xs fits s.fits);
      room = omega (arith, length_permutation (e ∷ xs) ys p);
      memory_for = s.memory_for;
    }

    pub in_order-push : has_generation e.generation (in_order key xs) ≡ false → e.generation < 2 ^ 64 → IsPermutation (e ∷ xs) ys → IsSound xs capacity memory
        → in_order key ys ≡ place key e (in_order key xs)
    in_order-push absent fits p s =
        in_order-permutation key (e ∷ xs) ys p
        (keys_apart (e ∷ xs) (all_apart absent s) (All-cons (λ x. x.generation < 2 ^ 64) e xs fits s.fits))

  -- an entry less
  module _ (xs ys : List (Entry T)) (e : Entry T) (capacity memory : ℕ) where
    pub IsSound-take : IsHeap key ys → IsPermutation xs (e ∷ ys) → IsSound xs capacity memory → IsSound ys capacity memory
    IsSound-take heap p s = record {
      heap = heap;
      apart = AllApart-tail (λ x. x.generation) e ys (AllApart-permutation (λ x. x.generation) xs (e ∷ ys) p s.apart);
      fits = All-tail (λ x. x.generation < 2 ^ 64) e ys (All-permutation (λ x. x.generation < 2 ^ 64) xs (e ∷ ys) p s.fits);
      room = omega (arith, length_permutation xs (e ∷ ys) p, s.room);
      memory_for = s.memory_for;
    }

    pub HasAt-take : IsPermutation xs (e ∷ ys) → IsSound xs capacity memory → HasAt key xs e (rank key (key e) xs) ys
    HasAt-take p s = HasAt-from key xs ys e (keys_apart xs s.apart s.fits) p

    pub HasAt-pop : IsPermutation xs (e ∷ ys) → IsSound xs capacity memory → 0 < length xs → e ≡ get_or xs 0 e → HasAt key xs e 0 ys
    HasAt-pop p s some is =
        subst (λ i. HasAt key xs e i ys) (rank-root key xs e s.heap (keys_apart xs s.apart s.fits) some is) (HasAt-take p s)

  -- the first of the array is the first in order
  pub slice_get-first : (xs : List (Entry T)) (capacity memory : ℕ) → IsSound xs capacity memory → slice_get (in_order key xs) 0 ≡ slice_get xs 0
  slice_get-first xs capacity memory s = slice_get-heap key xs s.heap (keys_apart xs s.apart s.fits)

  -- an entry of another priority
  module _ (xs ys : List (Entry T)) (at priority capacity memory : ℕ) (e : Entry T) where
    changed_apart : at < length xs → e ≡ get_or xs at e → IsSound xs capacity memory → AllApart (λ x. x.generation) (record e { priority = priority } ∷ remove xs at)
    changed_apart inside is s = AllApart-permutation (λ x. x.generation) xs (e ∷ remove xs at) (IsPermutation-remove xs at e inside is) s.apart

    changed_fits : at < length xs → e ≡ get_or xs at e → IsSound xs capacity memory → All (λ x. x.generation < 2 ^ 64) (record e { priority = priority } ∷ remove xs at)
    changed_fits inside is s =
        let all = All-permutation (λ x. x.generation < 2 ^ 64) xs (e ∷ remove xs at) (IsPermutation-remove xs at e inside is) s.fits in
        All-cons (λ x. x.generation < 2 ^ 64) (record e { priority = priority }) (remove xs at) (all 0 e (omega arith)) (All-tail (λ x. x.generation < 2 ^ 64) e (remove xs at) all)

    pub IsSound-change : at < length xs → e ≡ get_or xs at e → IsHeap key ys → IsPermutation (record e { priority = priority } ∷ remove xs at) ys → IsSound xs capacity memory → IsSound ys capacity memory
    IsSound-change inside is heap p s = record {
      heap = heap;
      apart = AllApart-permutation (λ x. x.generation) (record e { priority = priority } ∷ remove xs at) ys p (changed_apart inside is s);
      fits = All-permutation (λ x. x.generation < 2 ^ 64) (record e { priority = priority } ∷ remove xs at) ys p (changed_fits inside is s);
      room = omega (arith, length_permutation (record e { priority = priority } ∷ remove xs at) ys p, length_permutation xs (e ∷ remove xs at) (IsPermutation-remove xs at e inside is), s.room);
      memory_for = s.memory_for;
    }

    pub in_order-change : at < length xs → e ≡ get_or xs at e → IsPermutation (record e { priority = priority } ∷ remove xs at) ys → IsSound xs capacity memory
        → in_order key ys ≡ change_priority (in_order key xs) (rank key (key e) xs) priority
    in_order-change inside is p s =
        let h = HasAt-from key xs (remove xs at) e (keys_apart xs s.apart s.fits) (IsPermutation-remove xs at e inside is) in
        let changed = in_order-permutation key (record e { priority = priority } ∷ remove xs at) ys p (keys_apart (record e { priority = priority } ∷ remove xs at) (changed_apart inside is s) (changed_fits inside is s)) in
        rw (h.found, h.rest) changed

  -- a queue of this array
  abbrev pub queue_of : List (Entry T) → ℕ → ℕ → Queue T
  queue_of xs capacity moved = record { entries = in_order key xs; capacity = capacity; moved = moved }

  -- what a change of the array does to the queue
  module _ (q : Queue T) (xs ys : List (Entry T)) (capacity old : ℕ) (f : List (Entry T) → List (Entry T)) where
    pub queue_changed : queue_of xs capacity old ≡ q → in_order key ys ≡ f (in_order key xs) → queue_of ys capacity old ≡ record q { entries = f q.entries }
    queue_changed view e =
        subst (λ p. queue_of ys capacity old ≡ record p { entries = f p.entries }) view
        (ap (λ es. let r : Queue T = record { entries = es; capacity = capacity; moved = old } in r) e)

    pub queue_moved : (moved : ℕ) → queue_of xs capacity old ≡ q → in_order key ys ≡ f (in_order key xs) → queue_of ys capacity moved ≡ record q { entries = f q.entries; moved = moved }
    queue_moved moved view e =
        subst (λ p. queue_of ys capacity moved ≡ record p { entries = f p.entries; moved = moved }) view
        (ap (λ es. let r : Queue T = record { entries = es; capacity = capacity; moved = moved } in r) e)

  -- the first, and what is left without it
  pub in_order-pop : (xs ys : List (Entry T)) (e : Entry T) → HasAt key xs e 0 ys → in_order key ys ≡ drop 1 (in_order key xs)
  in_order-pop xs ys e h = sym h.rest ∙ remove_first (in_order key xs)
    where
      remove_first : (zs : List (Entry T)) → remove zs 0 ≡ drop 1 zs
      remove_first [] = refl
      remove_first (z ∷ zs) = refl

  -- the array with the same entries as another heap
  pub record Ordered (xs ys : List (Entry T)) (capacity memory : ℕ) : Type 0 where
    pub sound : IsSound ys capacity memory
    pub order : in_order key ys ≡ in_order key xs

  pub Ordered-from : (xs ys : List (Entry T)) (capacity memory : ℕ) → IsHeap key ys → IsPermutation xs ys → IsSound xs capacity memory → Ordered xs ys capacity memory
  Ordered-from xs ys capacity memory heap p s = record {
    sound = record {
      heap = heap;
      apart = AllApart-permutation (λ x. x.generation) xs ys p s.apart;
      fits = All-permutation (λ x. x.generation < 2 ^ 64) xs ys p s.fits;
      room = omega (arith, length_permutation xs ys p, s.room);
      memory_for = s.memory_for;
    };
    order = in_order-permutation key xs ys p (keys_apart xs s.apart s.fits);
  }

  -- what is left if an entry of this rank is removed
  pub HasAt-place : (xs ys : List (Entry T)) (i capacity memory : ℕ) (e : Entry T) → rank key (key e) xs ≡ i → IsPermutation xs (e ∷ ys) → IsSound xs capacity memory → HasAt key xs e i ys
  HasAt-place xs ys i capacity memory e place p s = subst (λ j. HasAt key xs e j ys) place (HasAt-take xs ys e capacity memory p s)

  -- what another priority of an entry at its rank leaves
  pub record Changes (xs ys : List (Entry T)) (i priority capacity memory : ℕ) : Type 0 where
    pub sound : IsSound ys capacity memory
    pub order : in_order key ys ≡ change_priority (in_order key xs) i priority

  pub Changes-place : (xs ys : List (Entry T)) (i priority capacity memory : ℕ) → i < length xs → ((d : Entry T) → rank key (key (get_or xs i d)) xs ≡ i)
      → ((e : Entry T) → e ≡ get_or xs i e → IsPermutation (record e { priority = priority } ∷ remove xs i) ys) → IsHeap key ys → IsSound xs capacity memory
      → Changes xs ys i priority capacity memory
  Changes-place [] ys i priority capacity memory inside place p heap s = absurd (omega arith)
  Changes-place (x ∷ xs) ys i priority capacity memory inside place p heap s =
      let all : List (Entry T) = x ∷ xs in
      let e = get_or all i x in
      let is : e ≡ get_or all i e = get_or-any all i x e inside in
      record {
        sound = IsSound-change all ys i priority capacity memory e inside is heap (p e is) s;
        order = subst (λ j. in_order key ys ≡ change_priority (in_order key all) j priority) (place x)
            (in_order-change all ys i priority capacity memory e inside is (p e is) s);
      }
    where
      get_or-any : (xs : List (Entry T)) (k : ℕ) (d e : Entry T) → k < length xs → get_or xs k d ≡ get_or xs k e
      get_or-any [] k d e inside = absurd (omega arith)
      get_or-any (x ∷ xs) zero d e inside = refl
      get_or-any (x ∷ xs) (suc k) d e inside = get_or-any xs k d e (omega arith)

  has_generation-place : (generation : ℕ) (e : Entry T) (xs : List (Entry T)) → has_generation generation (place key e xs) ≡ has_generation generation (e ∷ xs)
  has_generation-place generation e [] = refl
  has_generation-place generation e (x ∷ xs) =
      elim (cases_lt (key x) (key e)) [
        | inl less ↦ rw (place-after key e x xs less)
            (ap (λ b. (x.generation == generation) || b) (has_generation-place generation e xs)
            ∙ or_swap (x.generation == generation) (e.generation == generation) (has_generation generation xs))
        | inr le ↦ rw (place-before key e x xs le) refl
      ]
    where
      or_swap : (a b c : Bool) → (a || (b || c)) ≡ (b || (a || c))
      or_swap true true c = refl
      or_swap true false c = refl
      or_swap false true c = refl
      or_swap false false c = refl

  -- the order has the generations of the array
  pub has_generation-in_order : (generation : ℕ) (xs : List (Entry T)) → has_generation generation (in_order key xs) ≡ has_generation generation xs
  has_generation-in_order generation [] = refl
  has_generation-in_order generation (x ∷ xs) =
      has_generation-place generation x (in_order key xs) ∙ ap (λ b. (x.generation == generation) || b) (has_generation-in_order generation xs)
