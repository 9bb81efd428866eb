-- Rows as entries: their keys, which of them are ready, and one row taken to the front.
use Rattle.std.proofs.Common.{◌≡◌, ◌≢◌, ℕ, zero, suc, ◌+◌, ◌^◌, ◌<◌, ◌≤◌, ◌==◌, ◌&&◌, ◌||◌, nat_lt, cond, Bool, true, false, List, [], ◌∷◌, length, get_or, count_by, inl, inr, ap, sym, subst, refl, ◌∙◌, arith, remove, IsPermutation}
use Rattle.std.proofs.lemmas.Bool.{cases_Bool, cases_order, lt-ltb, le-ltb, ne_eqb}
use Rattle.std.proofs.lemmas.Bool.Decides.{nat_tests}
use Rattle.std.proofs.lemmas.List.Elements.{All-contains}
use Rattle.std.proofs.lemmas.List.Sums.{sum_by-cons}
use Rattle.std.proofs.lemmas.List.Sorted.{IsPermutation-refl, IsPermutation-trans, IsPermutation-cons, IsPermutation-middle}
use Rattle.cam_types.specs.Lists.{is_less}
use Rattle.camq_heap.specs.declared.entry.Entry.{Entry}
use Rattle.camq_heap.specs.Order.{in_order, rank, AllApart}
use Rattle.camq_heap.specs.Queue.{key, has_generation}
use Rattle.camq_heap.proofs.OrderLemmas.{IsAmong, Contains-from_among, AllApart-head, AllApart-tail, AllApart-cons}
use Rattle.camq_heap.proofs.QueueLemmas.{has_generation-in_order}
use Rattle.sim_queue.specs.Adapter.{turn_key, Row}
use Rattle.sim_queue.specs.Turns.{is_ready, goes_before, entry_of, ready_entries, AreRows}

module _ (a b : ℕ) (rest : Bool) where
  first_less : a < b → (nat_lt a b || ((a == b) && rest)) ≡ true
  first_less h = grind (arith, nat_tests)

  first_same : a ≡ b → (nat_lt a b || ((a == b) && rest)) ≡ rest
  first_same h = grind (arith, nat_tests)

  first_more : b < a → (nat_lt a b || ((a == b) && rest)) ≡ false
  first_more h = grind (arith, nat_tests)

-- a device's number has 32 bits, and its turn 16, so that no part of its key runs into the next
pub record Fits (r : Row) : Type 0 where
  pub number : r.device < 2 ^ 32
  pub turn : r.turn ≤ 65535

-- entries of turns and numbers of 32 bits go by priority, turn and number
pub key_below : (r s : Row) → r.turn < 2 ^ 32 → r.device < 2 ^ 32 → s.turn < 2 ^ 32 → s.device < 2 ^ 32 → nat_lt (key (entry_of r)) (key (entry_of s)) ≡ is_less (turn_key r) (turn_key s)
key_below r s r_turn r_device s_turn s_device =
    let e = entry_of r in
    let o = entry_of s in
    elim (cases_order e.priority o.priority) [
      | inl same ↦ elim (cases_order r.turn s.turn) [
        | inl turns ↦ elim (cases_order r.device s.device) [
          | inl devices ↦ le-ltb (key e) (key o) (omega arith)
              ∙ sym (first_same e.priority o.priority _ same ∙ first_same r.turn s.turn _ turns ∙ first_same r.device s.device false devices)
          | inr differ ↦ elim differ [
            | inl less ↦ lt-ltb (key e) (key o) (omega arith)
                ∙ sym (first_same e.priority o.priority _ same ∙ first_same r.turn s.turn _ turns ∙ first_less r.device s.device false less)
            | inr more ↦ le-ltb (key e) (key o) (omega arith)
                ∙ sym (first_same e.priority o.priority _ same ∙ first_same r.turn s.turn _ turns ∙ first_more r.device s.device false more)
          ]
        ]
        | inr differ ↦ elim differ [
          | inl less ↦ lt-ltb (key e) (key o) (omega arith) ∙ sym (first_same e.priority o.priority _ same ∙ first_less r.turn s.turn _ less)
          | inr more ↦ le-ltb (key e) (key o) (omega arith) ∙ sym (first_same e.priority o.priority _ same ∙ first_more r.turn s.turn _ more)
        ]
      ]
      | inr differ ↦ elim differ [
        | inl less ↦ lt-ltb (key e) (key o) (omega arith) ∙ sym (first_less e.priority o.priority _ less)
        | inr more ↦ le-ltb (key e) (key o) (omega arith) ∙ sym (first_more e.priority o.priority _ more)
      ]
    ]

pub key_less : (r s : Row) → Fits r → Fits s → nat_lt (key (entry_of r)) (key (entry_of s)) ≡ is_less (turn_key r) (turn_key s)
key_less r s f g = key_below r s (omega arith) f.number (omega arith) g.number

-- of ready devices the one of the lesser key goes before
pub goes_before-key : (r s : Row) (mine theirs : ℕ) → is_ready r ≡ true → is_ready s ≡ true → mine ≡ key (entry_of r) → theirs ≡ key (entry_of s)
    → r.turn < 2 ^ 32 → r.device < 2 ^ 32 → s.turn < 2 ^ 32 → s.device < 2 ^ 32 → nat_lt mine theirs ≡ goes_before r s
goes_before-key r s mine theirs r_ready s_ready mine_is theirs_is r_turn r_device s_turn s_device =
    rw (mine_is, theirs_is, r_ready, s_ready) (key_below r s r_turn r_device s_turn s_device)

pub same_device : (r s : Row) → Fits r → Fits s → key (entry_of r) ≡ key (entry_of s) → r.device ≡ s.device
same_device r s f g e = omega arith

pub entries-ready : (x : Row) (xs : List Row) → is_ready x ≡ true → ready_entries (x ∷ xs) ≡ entry_of x ∷ ready_entries xs
entries-ready x xs passes = rw passes refl

pub entries-unready : (x : Row) (xs : List Row) → is_ready x ≡ false → ready_entries (x ∷ xs) ≡ ready_entries xs
entries-unready x xs fails = rw fails refl

-- an entry is that of a ready row
pub record IsEntryOf (e : Entry ℕ) (rows : List Row) : Type 0 where
  pub row : Row
  pub among : IsAmong row rows
  pub ready : is_ready row ≡ true
  pub is : e ≡ entry_of row

pub IsEntryOf-among : (e : Entry ℕ) (rows : List Row) → IsAmong e (ready_entries rows) → IsEntryOf e rows
IsEntryOf-among e [] a = absurd a
IsEntryOf-among e (x ∷ xs) a =
    let later = λ (b : IsAmong e (ready_entries xs)). (let w = IsEntryOf-among e xs b in let v : IsEntryOf e (x ∷ xs) = record { row = w.row; among = inr w.among; ready = w.ready; is = w.is } in v) in
    elim (cases_Bool (is_ready x)) [
      | inl passes ↦ elim (subst (IsAmong e) (entries-ready x xs passes) a) [ inl same ↦ record { row = x; among = inl refl; ready = passes; is = same } | inr b ↦ later b ]
      | inr fails ↦ later (subst (IsAmong e) (entries-unready x xs fails) a)
    ]

pub entry-among : (r : Row) (rows : List Row) → IsAmong r rows → is_ready r ≡ true → IsAmong (entry_of r) (ready_entries rows)
entry-among r [] a passes = absurd a
entry-among r (x ∷ xs) (inl same) passes =
    subst (IsAmong (entry_of r)) (sym (entries-ready x xs (ap is_ready (sym same) ∙ passes))) (inl (ap entry_of same))
entry-among r (x ∷ xs) (inr a) passes =
    let later = entry-among r xs a passes in
    elim (cases_Bool (is_ready x)) [
      | inl ready ↦ subst (IsAmong (entry_of r)) (sym (entries-ready x xs ready)) (inr later)
      | inr fails ↦ subst (IsAmong (entry_of r)) (sym (entries-unready x xs fails)) later
    ]

-- each row of a list fits
abbrev pub AllFit : List Row → Type 0
AllFit rows = (r : Row) → IsAmong r rows → Fits r

pub AllFit-from : (rows : List Row) → AreRows rows → AllFit rows
AllFit-from rows h r a = record {
  number = All-contains (λ s. s.device < 2 ^ 32) rows r h.numbers (Contains-from_among rows r a);
  turn = All-contains (λ s. s.turn ≤ 65535) rows r h.turns (Contains-from_among rows r a);
}

-- the entries of different devices have different keys
pub entries-apart : (rows : List Row) → AllApart (λ r. r.device) rows → AllFit rows → AllApart key (ready_entries rows)
entries-apart [] apart fit = λ n. omega arith
entries-apart (x ∷ xs) apart fit =
    let rest = entries-apart xs (AllApart-tail (λ r. r.device) x xs apart) (λ s a. fit s (inr a)) in
    elim (cases_Bool (is_ready x)) [
      | inl passes ↦ subst (AllApart key) (sym (entries-ready x xs passes)) (AllApart-cons key (entry_of x) (ready_entries xs)
          (λ y a same.
          let w = IsEntryOf-among y xs a in
          AllApart-head (λ r. r.device) x xs apart w.row w.among
          (same_device w.row x (fit w.row (inr w.among)) (fit x (inl refl)) (ap key (sym w.is) ∙ same)))
          rest)
      | inr fails ↦ subst (AllApart key) (sym (entries-unready x xs fails)) rest
    ]

-- a generation of a device is that of no other device's entry
pub absent : (r : Row) (rows : List Row) → Fits r → AllFit rows → ((s : Row) → IsAmong s rows → s.device ≢ r.device) → has_generation (entry_of r).generation (in_order key (ready_entries rows)) ≡ false
absent r rows f fit others =
    has_generation-in_order (entry_of r).generation (ready_entries rows)
    ∙ none (ready_entries rows)
    (λ e a same.
    let w = IsEntryOf-among e rows a in
    let g = fit w.row w.among in
    let is : (entry_of w.row).generation ≡ (entry_of r).generation = ap (λ z. z.generation) (sym w.is) ∙ same in
    others w.row w.among (omega arith))
  where
    none : (es : List (Entry ℕ)) → ((e : Entry ℕ) → IsAmong e es → e.generation ≢ (entry_of r).generation) → has_generation (entry_of r).generation es ≡ false
    none [] h = refl
    none (e ∷ es) h =
        ap (λ b. b || has_generation (entry_of r).generation es) (ne_eqb e.generation (entry_of r).generation (h e (inl refl))) ∙ none es (λ o a. h o (inr a))

-- one more row, ready or not, before lists of the same entries
entries-cons : (x : Row) (xs ys : List Row) → IsPermutation (ready_entries xs) (ready_entries ys) → IsPermutation (ready_entries (x ∷ xs)) (ready_entries (x ∷ ys))
entries-cons x xs ys p = elim (cases_Bool (is_ready x)) [
  | inl passes ↦ rw passes (IsPermutation-cons (entry_of x) (ready_entries xs) (ready_entries ys) p)
  | inr fails ↦ rw fails p
]

entries-swap : (x r : Row) (xs : List Row) → IsPermutation (ready_entries (x ∷ r ∷ xs)) (ready_entries (r ∷ x ∷ xs))
entries-swap x r xs = elim (cases_Bool (is_ready x)) [
  | inl passes ↦ elim (cases_Bool (is_ready r)) [
    | inl both ↦ rw (passes, both) (IsPermutation-middle (entry_of x ∷ []) (entry_of r) (ready_entries xs))
    | inr fails ↦ rw (passes, fails) (IsPermutation-refl (entry_of x ∷ ready_entries xs))
  ]
  | inr fails ↦ rw fails (IsPermutation-refl (ready_entries (r ∷ xs)))
]

-- the entries with one row taken to the front
pub entries-at : (rows : List Row) (at : ℕ) (r : Row) → at < length rows → r ≡ get_or rows at r → IsPermutation (ready_entries rows) (ready_entries (r ∷ remove rows at))
entries-at [] at r inside is = absurd (omega arith)
entries-at (x ∷ xs) zero r inside is = subst (λ y. IsPermutation (ready_entries (x ∷ xs)) (ready_entries (y ∷ xs))) (sym is) (IsPermutation-refl (ready_entries (x ∷ xs)))
entries-at (x ∷ xs) (suc k) r inside is =
    IsPermutation-trans (ready_entries (x ∷ xs)) (ready_entries (x ∷ r ∷ remove xs k)) (ready_entries (r ∷ x ∷ remove xs k))
    (entries-cons x xs (r ∷ remove xs k) (entries-at xs k r (omega arith) is))
    (entries-swap x r (remove xs k))

-- the rows that go before a ready one are as many as the entries of a lesser key
pub counted : (r : Row) → is_ready r ≡ true → Fits r → (rows : List Row) → AllFit rows → count_by (λ s. goes_before s r) rows ≡ rank key (key (entry_of r)) (ready_entries rows)
counted r ready f [] fit = refl
counted r ready f (x ∷ xs) fit =
    let n = key (entry_of r) in
    let rest = counted r ready f xs (λ s a. fit s (inr a)) in
    let first = sum_by-cons (λ s. cond {A = ℕ} (goes_before s r) 1 0) x xs in
    elim (cases_Bool (is_ready x)) [
      | inl passes ↦
          let same : goes_before x r ≡ nat_lt (key (entry_of x)) n =
          ap (λ b. b && (is_ready r && is_less (turn_key x) (turn_key r))) passes ∙ ap (λ b. b && is_less (turn_key x) (turn_key r)) ready ∙ sym (key_less x r (fit x (inl refl)) f) in
          first ∙ ap (λ b. cond {A = ℕ} b 1 0 + count_by (λ s. goes_before s r) xs) same ∙ ap (λ m. cond {A = ℕ} (nat_lt (key (entry_of x)) n) 1 0 + m) rest
          ∙ sym (ap (rank key n) (entries-ready x xs passes) ∙ sum_by-cons (λ e. cond {A = ℕ} (nat_lt (key e) n) 1 0) (entry_of x) (ready_entries xs))
      | inr fails ↦
          let none : goes_before x r ≡ false = ap (λ b. b && (is_ready r && is_less (turn_key x) (turn_key r))) fails in
          first ∙ ap (λ b. cond {A = ℕ} b 1 0 + count_by (λ s. goes_before s r) xs) none ∙ omega arith ∙ rest ∙ sym (ap (rank key n) (entries-unready x xs fails))
    ]
