-- What a write to one row does to the order of the ready devices.
use Rattle.std.proofs.Common.{◌≡◌, ℕ, zero, suc, ◌^◌, ◌<◌, ◌≤◌, true, false, List, [], ◌∷◌, length, get_or, drop, Some, None, option_map, unwrap_or, count_by, inl, inr, ap, sym, subst, refl, ◌∙◌, arith, set, map, filter, slice_get, remove, IsPermutation}
use Rattle.std.proofs.lemmas.Bool.{cases_lt}
use Rattle.std.proofs.lemmas.List.{get_or_read, get_or-set_same, length-set, length-map}
use Rattle.std.proofs.lemmas.List.Elements.{All-set}
use Rattle.std.proofs.lemmas.List.Sums.{count_by-le-length, length-filter}
use Rattle.std.proofs.lemmas.List.Sorted.{length_permutation, IsPermutation-refl, IsPermutation-sym, IsPermutation-remove}
use Rattle.std.proofs.lemmas.Option.{slice_get_within}
use Rattle.camq_heap.specs.declared.entry.Entry.{Entry}
use Rattle.camq_heap.specs.Order.{place, in_order, AllApart}
use Rattle.camq_heap.specs.Queue.{Queue, key, has_generation, placed_at, change_priority}
use Rattle.camq_heap.proofs.OrderLemmas.{IsAmong, AllRising, AllRising-in_order, IsAmong-get_or, IsAmong-permutation, place-after, place-before, AllApart-head, AllApart-tail, AllApart-cons, AllApart-permutation, in_order-permutation, length-in_order}
use Rattle.camq_heap.proofs.RankLemmas.{HasAt, HasAt-from}
use Rattle.camq_heap.proofs.ListChangeLemmas.{IsPermutation-changed}
use Rattle.sim_queue.specs.Adapter.{new_row, Row}
use Rattle.sim_queue.specs.Turns.{is_ready, goes_before, generation, entry_of, ready_entries, AreRows, IsInTurn}
use Rattle.sim_queue.proofs.HeadLemmas.{first-head, same_row}
use Rattle.sim_queue.proofs.EntryLemmas.{Fits, AllFit, AllFit-from, entries-ready, entries-unready, entries-apart, entries-at, absent, counted}

pub length-entries : (rows : List Row) → length (ready_entries rows) ≤ length rows
length-entries rows = omega (arith, length-map (filter is_ready rows) entry_of, length-filter is_ready rows, count_by-le-length is_ready rows)

remove-set : (xs : List Row) (i : ℕ) (y : Row) → i < length xs → remove (set xs i y) i ≡ remove xs i
remove-set [] i y inside = absurd (omega arith)
remove-set (z ∷ zs) zero y inside = refl
remove-set (z ∷ zs) (suc i) y inside = ap (λ l. z ∷ l) (remove-set zs i y (omega arith))

-- what is read at a place is an element
among_got : (es : List (Entry ℕ)) (n : ℕ) (x : Entry ℕ) → slice_get es n ≡ Some x → IsAmong x es
among_got [] n x got = absurd (cc)
among_got (e ∷ es) zero x got = inl (cc)
among_got (e ∷ es) (suc n) x got = inr (among_got es n x got)

-- where x is first after it was placed, the others follow
place-first : (x : Entry ℕ) (ys : List (Entry ℕ)) → slice_get (place key x ys) 0 ≡ Some x → drop 1 (place key x ys) ≡ ys
place-first x [] h = refl
place-first x (y ∷ ys) h = elim (cases_lt (key y) (key x)) [
  | inl less ↦
      let e : Some y ≡ Some x = ap (λ l. slice_get l 0) (sym (place-after key x y ys less)) ∙ h in
      let same : y ≡ x = cc in
      absurd (omega (arith, ap key same))
  | inr le ↦ ap (drop 1) (place-before key x y ys le)
]

-- one row of an adapter's, and the others
module _ (rows : List Row) (at : ℕ) (r : Row) (inside : at < length rows) (is : r ≡ get_or rows at r) (sound : AreRows rows) where
  abbrev others : List Row
  others = remove rows at

  fit : AllFit rows
  fit = AllFit-from rows sound

  front : IsPermutation rows (r ∷ others)
  front = IsPermutation-remove rows at r inside is

  split_apart : AllApart (λ s. s.device) (r ∷ others)
  split_apart = AllApart-permutation (λ s. s.device) rows (r ∷ others) front sound.apart

  pub fits : Fits r
  fits = fit r (subst (λ s. IsAmong s rows) (sym is) (IsAmong-get_or rows at r inside))

  others_fit : AllFit others
  others_fit s a = fit s (IsAmong-permutation (r ∷ others) rows s (IsPermutation-sym rows (r ∷ others) front) (inr a))

  -- no entry of the others has a generation of this device
  pub new_generation : (s : Row) → s.device ≡ r.device → Fits s → has_generation (entry_of s).generation (in_order key (ready_entries others)) ≡ false
  new_generation s same f = absent s others f others_fit (λ o a e. AllApart-head (λ z. z.device) r others split_apart o a (e ∙ same))

  -- the order of the others is that of all but a ready row
  pub split : is_ready r ≡ true → HasAt key (ready_entries rows) (entry_of r) (count_by (λ s. goes_before s r) rows) (ready_entries others)
  split ready =
      subst (λ i. HasAt key (ready_entries rows) (entry_of r) i (ready_entries others)) (sym (counted r ready fits rows fit))
      (HasAt-from key (ready_entries rows) (ready_entries others) (entry_of r) (entries-apart rows sound.apart fit)
      (subst (IsPermutation (ready_entries rows)) (entries-ready r others ready) (entries-at rows at r inside is)))

  order : in_order key (ready_entries (r ∷ others)) ≡ in_order key (ready_entries rows)
  order = in_order-permutation key (ready_entries rows) (ready_entries (r ∷ others)) (entries-at rows at r inside is) (entries-apart rows sound.apart fit)

  pub order-ready : is_ready r ≡ true → in_order key (ready_entries rows) ≡ place key (entry_of r) (in_order key (ready_entries others))
  order-ready ready = sym order ∙ ap (in_order key) (entries-ready r others ready)

  pub order-unready : is_ready r ≡ false → in_order key (ready_entries rows) ≡ in_order key (ready_entries others)
  order-unready unready = sym order ∙ ap (in_order key) (entries-unready r others unready)

  -- where it is first, the others follow
  pub order-first : is_ready r ≡ true → slice_get (in_order key (ready_entries rows)) 0 ≡ Some (entry_of r) → drop 1 (in_order key (ready_entries rows)) ≡ in_order key (ready_entries others)
  order-first ready first =
      ap (drop 1) (order-ready ready) ∙ place-first (entry_of r) (in_order key (ready_entries others)) (ap (λ l. slice_get l 0) (sym (order-ready ready)) ∙ first)

  -- the row written by one of the same device
  module _ (s : Row) (same : s.device ≡ r.device) (low : s.turn ≤ 65535) where
    abbrev written : List Row
    written = set rows at s

    pub AreRows-written : AreRows written
    AreRows-written = record {
      apart = AllApart-permutation (λ z. z.device) (s ∷ others) written (IsPermutation-changed rows written written at r r (λ _. s) inside is is refl (IsPermutation-refl written))
          (AllApart-cons (λ z. z.device) s others (λ o a e. AllApart-head (λ z. z.device) r others split_apart o a (e ∙ same)) (AllApart-tail (λ z. z.device) r others split_apart));
      numbers = All-set (λ z. z.device < 2 ^ 32) rows at s (let n = fits.number in omega arith) sound.numbers;
      turns = All-set (λ z. z.turn ≤ 65535) rows at s low sound.turns;
    }

-- a queue holds the ready devices of these rows, of which this one is at the place
pub record IsRowAt (rows : List Row) (queue : Queue ℕ) (at : ℕ) (r : Row) : Type 0 where
  pub inside : at < length rows
  pub is : r ≡ get_or rows at r
  pub in_turn : IsInTurn rows queue

module _ {rows : List Row} {queue : Queue ℕ} {at : ℕ} {r : Row} (h : IsRowAt rows queue at r) where
  -- the queue of the other rows
  abbrev pub rest : List (Entry ℕ)
  rest = in_order key (ready_entries (remove rows at))

  sound : AreRows rows
  sound = h.in_turn.sound

  pub row-fits : Fits r
  row-fits = fits rows at r h.inside h.is sound

  pub rest-unready : is_ready r ≡ false → queue.entries ≡ rest
  rest-unready unready = h.in_turn.entries ∙ order-unready rows at r h.inside h.is sound unready

  pub rest-first : is_ready r ≡ true → slice_get queue.entries 0 ≡ Some (entry_of r) → drop 1 queue.entries ≡ rest
  rest-first ready first =
      ap (drop 1) h.in_turn.entries ∙ order-first rows at r h.inside h.is sound ready (ap (λ l. slice_get l 0) (sym h.in_turn.entries) ∙ first)

  pub rest-room : length rest < queue.capacity
  rest-room =
      omega (
        arith,
        length-in_order key (ready_entries (remove rows at)),
        length-entries (remove rows at),
        length_permutation rows (r ∷ remove rows at) (IsPermutation-remove rows at r h.inside h.is),
        h.in_turn.room,
      )

  -- no entry of the others has a generation of this device
  pub rest-new : (s : Row) (number : ℕ) → s.device ≡ r.device → s.turn ≤ 65535 → number ≡ generation s → has_generation number rest ≡ false
  rest-new s number same low is =
      ap (λ n. has_generation n rest) is ∙ new_generation rows at r h.inside h.is sound s same (record { number = (let f = row-fits in omega arith); turn = low })

  -- what the count of the ready rows before a ready one finds
  module _ (place_of : ℕ) (is_place : place_of ≡ count_by (λ s. goes_before s r) rows) (ready : is_ready r ≡ true) where
    found : HasAt key (ready_entries rows) (entry_of r) place_of (ready_entries (remove rows at))
    found = subst (λ i. HasAt key (ready_entries rows) (entry_of r) i (ready_entries (remove rows at))) (sym is_place) (split rows at r h.inside h.is sound ready)

    found-entry : slice_get queue.entries place_of ≡ Some (entry_of r)
    found-entry = ap (λ l. slice_get l place_of) h.in_turn.entries ∙ found.found

    pub found-within : place_of < length queue.entries
    found-within = slice_get_within queue.entries place_of (entry_of r) found-entry

    pub rest-removed : remove queue.entries place_of ≡ rest
    rest-removed = ap (λ l. remove l place_of) h.in_turn.entries ∙ found.rest

    pub rest-changed : (priority : ℕ) → change_priority queue.entries place_of priority ≡ place key (record (entry_of r) { priority = priority }) rest
    rest-changed priority =
        ap (λ o. placed_at priority o (remove queue.entries place_of)) found-entry ∙ ap (place key (record (entry_of r) { priority = priority })) rest-removed

  -- none goes before the device of the first entry
  pub first-place : is_ready r ≡ true → option_map (λ e. e.item) (slice_get queue.entries 0) ≡ Some r.device → 0 ≡ count_by (λ s. goes_before s r) rows
  first-place ready first = cases queue.entries refl (count_by (λ s. goes_before s r) rows) refl
    where
      cases : (es : List (Entry ℕ)) → es ≡ queue.entries → (n : ℕ) → n ≡ count_by (λ s. goes_before s r) rows → 0 ≡ n
      cases es same zero is_place = refl
      cases [] same (suc n) is_place = let none : None ≡ Some r.device = ap (λ l. option_map (λ e. e.item) (slice_get l 0)) same ∙ first in absurd (cc)
      cases (e ∷ es) same (suc n) is_place =
          let is_order : e ∷ es ≡ in_order key (ready_entries rows) = same ∙ h.in_turn.entries in
          let rising : AllRising key (e ∷ es) = subst (AllRising key) (sym is_order) (AllRising-in_order key (ready_entries rows) (entries-apart rows sound.apart (AllFit-from rows sound))) in
          let w = first-head rows e es sound is_order in
          let item : Some e.item ≡ Some r.device = ap (λ l. option_map (λ z. z.item) (slice_get l 0)) same ∙ first in
          let device : e.item ≡ r.device = cc in
          let own = same_row rows w.row r sound.apart w.among (subst (λ z. IsAmong z rows) (sym h.is) (IsAmong-get_or rows at r h.inside)) (ap (λ z. z.item) (sym w.is) ∙ device) in
          let later = among_got es n (entry_of r) (ap (λ l. slice_get l (suc n)) same ∙ found-entry (suc n) is_place ready) in
          absurd (omega (arith, rising.0 (entry_of r) later, ap key w.is, ap (λ z. key (entry_of z)) own))

  -- the row changed by f
  module _ (f : Row → Row) (new : Queue ℕ) (same : (f r).device ≡ r.device) (low : (f r).turn ≤ 65535) (size : new.capacity ≡ queue.capacity) where
    abbrev changed : List Row
    changed = set rows at (f r)

    changed_sound : AreRows changed
    changed_sound = AreRows-written rows at r h.inside h.is sound (f r) same low

    there : f r ≡ get_or changed at (f r)
    there = sym (get_or-set_same rows at (f r) (f r) h.inside)

    left : in_order key (ready_entries (remove changed at)) ≡ rest
    left = ap (λ l. in_order key (ready_entries l)) (remove-set rows at (f r) h.inside)

    low_at : at < length changed
    low_at = omega (arith, length-set rows at (f r), h.inside)

    -- as clauses have it, the row there, whatever stands past the end
    abbrev IsWritten : Type 0
    IsWritten = IsInTurn (set rows at (f (get_or rows at (new_row 0)))) new

    IsWritten-from : new.entries ≡ in_order key (ready_entries changed) → IsWritten
    IsWritten-from e =
        subst (λ z. IsInTurn (set rows at (f z)) new) (get_or_read rows at r h.inside h.is (new_row 0))
        (let t : IsInTurn changed new = record { sound = changed_sound; entries = e; room = omega (arith, length-set rows at (f r), h.in_turn.room) } in t)

    -- it is ready then
    pub IsWritten-placed : (entry : Entry ℕ) → is_ready (f r) ≡ true → entry ≡ entry_of (f r) → new.entries ≡ place key entry rest → IsWritten
    IsWritten-placed entry ready is e =
        IsWritten-from (e ∙ ap (λ x. place key x rest) is ∙ ap (place key (entry_of (f r))) (sym left) ∙ sym (order-ready changed at (f r) low_at there changed_sound ready))

    -- it isn't ready then
    pub IsWritten-left : is_ready (f r) ≡ false → new.entries ≡ rest → IsWritten
    IsWritten-left unready e = IsWritten-from (e ∙ sym left ∙ sym (order-unready changed at (f r) low_at there changed_sound unready))

-- the entry of a row of these parts
pub entry_made : (r : Row) (priority number : ℕ) → priority ≡ unwrap_or r.priority 0 → number ≡ generation r → record { priority = priority; generation = number; item = r.device } ≡ entry_of r
entry_made r priority number own is = rw (own, is) refl

-- the row that is read is ready and first, as clauses have it
pub record IsFirst (queue : Queue ℕ) (r : Row) : Type 0 where
  pub ready : is_ready r ≡ true
  pub is : slice_get queue.entries 0 ≡ Some (entry_of r)

pub first_read : {rows : List Row} {queue : Queue ℕ} {at : ℕ} {r : Row} → IsRowAt rows queue at r → is_ready (get_or rows at (new_row 0)) ≡ true → slice_get queue.entries 0 ≡ Some (entry_of (get_or rows at (new_row 0))) → IsFirst queue r
first_read {rows} {queue} {at} {r} h ready first =
    let own : r ≡ get_or rows at (new_row 0) = get_or_read rows at r h.inside h.is (new_row 0) in
    record { ready = ap is_ready own ∙ ready; is = first ∙ ap (λ z. Some (entry_of z)) (sym own) }

-- an empty queue holds the ready ones of new rows
pub IsInTurn-new : (rows : List Row) (queue : Queue ℕ) (devices : List ℕ) (moved : ℕ) → AreRows rows → rows ≡ map new_row devices → queue ≡ record { entries = []; capacity = length devices; moved = moved } → IsInTurn rows queue
IsInTurn-new rows queue devices moved sound new empty = record {
  sound = sound;
  entries = ap (λ q. q.entries) empty ∙ ap (in_order key) (sym (ap ready_entries new ∙ none devices));
  room = omega (arith, ap length new, length-map devices new_row, ap (λ q. q.capacity) empty);
}
  where
    none : (ds : List ℕ) → ready_entries (map new_row ds) ≡ []
    none [] = refl
    none (d ∷ ds) = none ds
