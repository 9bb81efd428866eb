-- The first entry is that of the device whose turn it is.
use Rattle.std.proofs.Common.{◌≡◌, ℕ, ◌<◌, ◌≤◌, ◌==◌, ◌||◌, nat_lt, not, Bool, true, false, cond, List, [], ◌∷◌, length, get_or, Option, Some, None, option_map, filter, find, inl, inr, ap, sym, subst, refl, ◌∙◌, arith}
use Rattle.std.proofs.lemmas.Bool.{cases_Bool, not-true, eq-eqb, le-ltb, ltb-false, cond-true, cond-false, false≢true}
use Rattle.std.proofs.lemmas.List.{nil_from_length, length-map}
use Rattle.std.proofs.lemmas.List.Elements.{All-nil, All-cons, All-head, All-tail}
use Rattle.std.proofs.lemmas.List.Sums.{AllPass-from_list_all, list_all-from_AllPass}
use Rattle.std.specs.List.{All, list_all, slice_get}
use Rattle.cam_types.specs.Lists.{is_less, least_by}
use Rattle.camq_heap.specs.declared.entry.Entry.{Entry}
use Rattle.camq_heap.specs.Order.{in_order, AllApart}
use Rattle.camq_heap.specs.Queue.{Queue, key}
use Rattle.camq_heap.proofs.OrderLemmas.{IsAmong, IsAmong-get_or, AllRising, AllApart-head, AllApart-tail, AllRising-in_order, IsAmong-in_order, in_order-has, length-in_order}
use Rattle.sim_queue.specs.Adapter.{Adapter, new_row, is_named, turn_key, head, can_send, best_ready, Row}
use Rattle.sim_queue.specs.Turns.{is_ready, entry_of, ready_entries, AreRows, IsInTurn}
use Rattle.sim_queue.proofs.EntryLemmas.{AllFit, AllFit-from, key_less, same_device, IsEntryOf-among, entry-among, entries-apart}

module _ {X : Type 0} where
  -- what passes is found, up to what all that pass have in common
  find_says : (p : X → Bool) (f : X → ℕ) (d : ℕ) (xs : List X) → All (λ x. p x ≡ true → f x ≡ d) xs → (All (λ x. p x ≡ false) xs → ⊥) → option_map f (find p xs) ≡ Some d
  find_says p f d [] says some = absurd (some (All-nil (λ x. p x ≡ false)))
  find_says p f d (x ∷ xs) says some =
      elim (cases_Bool (p x)) [
        | inl passes ↦ ap (option_map f) (cond-true (p x) (Some x) (find p xs) passes) ∙ ap Some (All-head (λ y. p y ≡ true → f y ≡ d) x xs says passes)
        | inr fails ↦
            ap (option_map f) (cond-false (p x) (Some x) (find p xs) fails)
            ∙ find_says p f d xs (All-tail (λ y. p y ≡ true → f y ≡ d) x xs says) (λ none. some (All-cons (λ y. p y ≡ false) x xs fails none))
      ]

  -- what holds of all holds of each
  All-among : (P : X → Type 0) (xs : List X) (x : X) → All P xs → IsAmong x xs → P x
  All-among P [] x h a = absurd a
  All-among P (y ∷ ys) x h (inl e) = subst P (sym e) (All-head P y ys h)
  All-among P (y ∷ ys) x h (inr a) = All-among P ys x (All-tail P y ys h) a

  All-from_among : (P : X → Type 0) (xs : List X) → ((x : X) → IsAmong x xs → P x) → All P xs
  All-from_among P xs h = λ k d low. h (get_or xs k d) (IsAmong-get_or xs k d low)

  -- those that pass a filter
  IsAmong-filter : (p : X → Bool) (xs : List X) (x : X) → IsAmong x (filter p xs) → IsAmong x xs × (p x ≡ true)
  IsAmong-filter p [] x a = absurd a
  IsAmong-filter p (y ∷ ys) x a =
      elim (cases_Bool (p y)) [
        | inl passes ↦ elim (subst (IsAmong x) (cond-true (p y) (y ∷ filter p ys) (filter p ys) passes) a) [
          | inl e ↦ (inl e, ap p e ∙ passes)
          | inr b ↦ let w = IsAmong-filter p ys x b in (inr w.0, w.1)
        ]
        | inr fails ↦ let w = IsAmong-filter p ys x (subst (IsAmong x) (cond-false (p y) (y ∷ filter p ys) (filter p ys) fails) a) in (inr w.0, w.1)
      ]

  filter-has : (p : X → Bool) (xs : List X) (x : X) → IsAmong x xs → p x ≡ true → IsAmong x (filter p xs)
  filter-has p [] x a passes = absurd a
  filter-has p (y ∷ ys) x (inl e) passes =
      subst (IsAmong x) (sym (cond-true (p y) (y ∷ filter p ys) (filter p ys) (ap p (sym e) ∙ passes))) (inl e)
  filter-has p (y ∷ ys) x (inr a) passes =
      elim (cases_Bool (p y)) [
        | inl here ↦ subst (IsAmong x) (sym (cond-true (p y) (y ∷ filter p ys) (filter p ys) here)) (inr (filter-has p ys x a passes))
        | inr fails ↦ subst (IsAmong x) (sym (cond-false (p y) (y ∷ filter p ys) (filter p ys) fails)) (filter-has p ys x a passes)
      ]

-- a ready row whose entry's key is no greater than those of the others is that of the head
module _ (rows : List Row) (sound : AreRows rows) (r : Row) (among : IsAmong r rows) (ready : is_ready r ≡ true)
    (least : (s : Row) → IsAmong s rows → is_ready s ≡ true → key (entry_of r) ≤ key (entry_of s)) where
  abbrev ready_rows : List Row
  ready_rows = filter is_ready rows

  fit : AllFit rows
  fit = AllFit-from rows sound

  not_before : (s : Row) → IsAmong s ready_rows → is_less (turn_key s) (turn_key r) ≡ false
  not_before s a =
      let w = IsAmong-filter is_ready rows s a in
      sym (key_less s r (fit s w.0) (fit r among)) ∙ le-ltb (key (entry_of s)) (key (entry_of r)) (least s w.0 w.1)

  abbrev is_first : Row → Bool
  is_first s = list_all (λ z. not (is_less (turn_key z) (turn_key s))) ready_rows

  -- no other row is first
  only : (s : Row) → IsAmong s ready_rows → is_first s ≡ true → s.device ≡ r.device
  only s a first =
      let w = IsAmong-filter is_ready rows s a in
      let later : not (is_less (turn_key r) (turn_key s)) ≡ true =
      All-among (λ z. not (is_less (turn_key z) (turn_key s)) ≡ true) ready_rows r (AllPass-from_list_all (λ z. not (is_less (turn_key z) (turn_key s))) ready_rows first)
      (filter-has is_ready rows r among ready) in
      let behind : nat_lt (key (entry_of r)) (key (entry_of s)) ≡ false = key_less r s (fit r among) (fit s w.0) ∙ not-true _ later in
      let le = least s w.0 w.1 in
      same_device s r (fit s w.0) (fit r among) (omega (arith, ltb-false (key (entry_of r)) (key (entry_of s)) behind))

  pub head-least : head rows ≡ Some r.device
  head-least =
      find_says is_first (λ s. s.device) r.device ready_rows (All-from_among (λ s. is_first s ≡ true → s.device ≡ r.device) ready_rows only)
      (λ none.
      false≢true (sym (All-among (λ s. is_first s ≡ false) ready_rows r none (filter-has is_ready rows r among ready))
      ∙ list_all-from_AllPass (λ z. not (is_less (turn_key z) (turn_key r))) ready_rows
      (All-from_among (λ z. not (is_less (turn_key z) (turn_key r)) ≡ true) ready_rows (λ s a. ap not (not_before s a)))))

-- what the first entry says of the rows
pub record IsHead (rows : List Row) (e : Entry ℕ) : Type 0 where
  pub row : Row
  pub among : IsAmong row rows
  pub ready : is_ready row ≡ true
  pub is : e ≡ entry_of row
  pub head_is : head rows ≡ Some row.device

pub first-head : (rows : List Row) (e : Entry ℕ) (es : List (Entry ℕ)) → AreRows rows → e ∷ es ≡ in_order key (ready_entries rows) → IsHead rows e
first-head rows e es sound is =
    let rising : AllRising key (e ∷ es) = subst (AllRising key) (sym is) (AllRising-in_order key (ready_entries rows) (entries-apart rows sound.apart (AllFit-from rows sound))) in
    let w = IsEntryOf-among e rows (IsAmong-in_order key e (ready_entries rows) (subst (IsAmong e) is (inl refl))) in
    let least = λ (s : Row) (a : IsAmong s rows) (ready : is_ready s ≡ true).
    (let at : IsAmong (entry_of s) (e ∷ es) = subst (IsAmong (entry_of s)) (sym is) (in_order-has key (entry_of s) (ready_entries rows) (entry-among s rows a ready)) in
    let le : key (entry_of w.row) ≤ key (entry_of s) = elim at [ inl same ↦ omega (arith, ap key same, ap key w.is) | inr later ↦ omega (arith, rising.0 (entry_of s) later, ap key w.is) ] in
    le) in
    record { row = w.row; among = w.among; ready = w.ready; is = w.is; head_is = head-least rows sound w.row w.among w.ready least }

-- with no entry no row is ready
none-head : (rows : List Row) → [] ≡ in_order key (ready_entries rows) → head rows ≡ None
none-head rows is = ap (λ l. option_map (λ r. r.device) (least_by turn_key l)) (nil_from_length (filter is_ready rows) none)
  where
    none : length (filter is_ready rows) ≡ 0
    none = omega (arith, length-in_order key (ready_entries rows), length-map (filter is_ready rows) entry_of, ap length is)

-- the device of the first entry is the head
pub head-first : (rows : List Row) (es : List (Entry ℕ)) → AreRows rows → es ≡ in_order key (ready_entries rows) → head rows ≡ option_map (λ e. e.item) (slice_get es 0)
head-first rows [] sound is = none-head rows is
head-first rows (e ∷ es) sound is = let w = first-head rows e es sound is in w.head_is ∙ ap (λ z. Some z.item) (sym w.is)

-- the device whose turn it is has a row, whose entry is the first
pub record HasTurn (rows : List Row) (queue : Queue ℕ) (device : ℕ) : Type 0 where
  pub row : Row
  pub among : IsAmong row rows
  pub ready : is_ready row ≡ true
  pub first : slice_get queue.entries 0 ≡ Some (entry_of row)
  pub named : row.device ≡ device

pub HasTurn-head : (rows : List Row) (queue : Queue ℕ) (device : ℕ) → IsInTurn rows queue → head rows ≡ Some device → HasTurn rows queue device
HasTurn-head rows queue device t is = cases queue.entries refl
  where
    cases : (es : List (Entry ℕ)) → es ≡ queue.entries → HasTurn rows queue device
    cases [] same = let none : None ≡ Some device = sym (none-head rows (same ∙ t.entries)) ∙ is in absurd (cc)
    cases (e ∷ es) same =
        let w = first-head rows e es t.sound (same ∙ t.entries) in
        let both : Some w.row.device ≡ Some device = sym w.head_is ∙ is in
        let named : w.row.device ≡ device = cc in
        record { row = w.row; among = w.among; ready = w.ready; first = ap (λ l. slice_get l 0) (sym same) ∙ ap Some w.is; named = named }

pub HasTurn-best : (a : Adapter) (queue : Queue ℕ) (device : ℕ) → IsInTurn a.rows queue → best_ready a ≡ Some device → HasTurn a.rows queue device
HasTurn-best a queue device t is = HasTurn-head a.rows queue device t (of_some (can_send a) (head a.rows) is)
  where
    of_some : (s : Bool) (o : Option ℕ) → cond s o None ≡ Some device → o ≡ Some device
    of_some true o e = e
    of_some false o e = absurd (cc)

-- rows of one device are one
pub same_row : (rows : List Row) (r s : Row) → AllApart (λ z. z.device) rows → IsAmong r rows → IsAmong s rows → r.device ≡ s.device → r ≡ s
same_row [] r s apart a b same = absurd a
same_row (x ∷ xs) r s apart (inl e) (inl f) same = e ∙ sym f
same_row (x ∷ xs) r s apart (inl e) (inr b) same = absurd (AllApart-head (λ z. z.device) x xs apart s b (sym same ∙ ap (λ z. z.device) e))
same_row (x ∷ xs) r s apart (inr a) (inl f) same = absurd (AllApart-head (λ z. z.device) x xs apart r a (same ∙ ap (λ z. z.device) f))
same_row (x ∷ xs) r s apart (inr a) (inr b) same = same_row xs r s (AllApart-tail (λ z. z.device) x xs apart) a b same

-- it is named among the rows
pub named-turn : (rows : List Row) (queue : Queue ℕ) (device : ℕ) → HasTurn rows queue device → is_named device rows ≡ true
named-turn rows queue device w = go rows w.among
  where
    or_true : (b : Bool) → (b || true) ≡ true
    or_true true = refl
    or_true false = refl

    go : (xs : List Row) → IsAmong w.row xs → is_named device xs ≡ true
    go [] a = absurd a
    go (x ∷ xs) (inl e) = ap (λ b. b || is_named device xs) (eq-eqb x.device device (ap (λ z. z.device) (sym e) ∙ w.named))
    go (x ∷ xs) (inr a) = ap (λ b. (x.device == device) || b) (go xs a) ∙ or_true (x.device == device)

-- it stands where a call that saw the rows found the device
pub turn_row : (rows seen : List Row) (queue : Queue ℕ) (device at : ℕ) → AreRows rows → seen ≡ rows → at < length seen → ((d : Row) → (get_or seen at d).device ≡ device) → (w : HasTurn rows queue device)
    → w.row ≡ get_or rows at (new_row 0)
turn_row rows seen queue device at sound same inside named w =
    same_row rows w.row (get_or rows at (new_row 0)) sound.apart w.among (IsAmong-get_or rows at (new_row 0) (omega (arith, ap length same)))
    (w.named ∙ sym (subst (λ l. (get_or l at (new_row 0)).device ≡ device) same (named (new_row 0))))

-- where the adapter can send, the first entry says which device is best
pub best-first : (a : Adapter) (rows : List Row) (queue : Queue ℕ) → a.rows ≡ rows → IsInTurn rows queue → true ≡ can_send a → best_ready a ≡ option_map (λ e. e.item) (slice_get queue.entries 0)
best-first a rows queue same t can =
    ap (λ b. cond b (head a.rows) None) (sym can) ∙ ap head same ∙ head-first rows queue.entries t.sound t.entries
