-- Rows of different devices, of which one is changed.
use Rattle.std.proofs.Common.{◌≡◌, ◌≢◌, ℕ, zero, suc, ◌+◌, ◌^◌, ◌<◌, ◌≤◌, ◌==◌, cond, Bool, true, List, [], ◌∷◌, length, get_or, map, inl, inr, ap, sym, subst, refl, ◌∙◌, arith, set, filter}
use Rattle.std.proofs.lemmas.Bool.{eq-eqb, ne_eqb, eqb-true, cond-true, cond-false}
use Rattle.std.proofs.lemmas.List.Elements.{All-map}
use Rattle.std.proofs.lemmas.List.Folds.{Any-from_list_any}
use Rattle.std.proofs.lemmas.List.FromFn.{get_or-range_with_len, length-range_with_len}
use Rattle.std.proofs.lemmas.List.Kept.{AllPairs-from_increasing, IsStrictlyIncreasing-filter}
use Rattle.std.specs.List.{All, AllPairs, range_with_len}
use Rattle.std.specs.List.Sorted.{IsStrictlyIncreasing}
use Rattle.camq_heap.specs.Order.{AllApart}
use Rattle.camq_heap.proofs.OrderLemmas.{IsAmong, IsAmong-get_or, AllApart-head, AllApart-tail, AllApart-cons}
use Rattle.sim_queue.specs.Adapter.{new_row, is_named, Row}
use Rattle.sim_queue.specs.Turns.{AreRows}

-- numbers in a range rise, and so do those of them that pass a test
pub rising-filter : (test : ℕ → Bool) (n : ℕ) → IsStrictlyIncreasing (filter test (range_with_len 0 n))
rising-filter test n =
    IsStrictlyIncreasing-filter test (range_with_len 0 n)
    (λ k low. let inside : k + 1 < n = omega (arith, length-range_with_len 0 n) in omega (arith, get_or-range_with_len 0 n k 0 (omega arith), get_or-range_with_len 0 n (k + 1) 0 inside))

-- numbers that rise differ
pub different-rising : (xs : List ℕ) → IsStrictlyIncreasing xs → AllPairs (λ x y. x ≢ y) xs
different-rising xs rising = λ i j d before inside same. absurd (omega (arith, AllPairs-from_increasing xs rising i j d before inside))

-- new rows of devices that differ
AllApart-new : (devices : List ℕ) → AllPairs (λ x y. x ≢ y) devices → AllApart (λ r. r.device) (map new_row devices)
AllApart-new [] different = λ n. omega arith
AllApart-new (d ∷ ds) different =
    AllApart-cons (λ r. r.device) (new_row d) (map new_row ds) (others ds (λ k e low. different 0 (suc k) e (omega arith) (omega arith)))
    (AllApart-new ds (λ i j e before inside. different (suc i) (suc j) e (omega arith) (omega arith)))
  where
    others : (es : List ℕ) → All (λ e. d ≢ e) es → (r : Row) → IsAmong r (map new_row es) → r.device ≢ d
    others [] h r a same = absurd a
    others (e ∷ es) h r (inl is) same = h 0 d (omega arith) (sym same ∙ ap (λ z. z.device) is)
    others (e ∷ es) h r (inr a) same = others es (λ k f low. h (suc k) f (omega arith)) r a same

turns-new : (devices : List ℕ) → All (λ r. r.turn ≤ 65535) (map new_row devices)
turns-new devices = All-map (λ r. r.turn ≤ 65535) new_row devices (λ k d low. omega arith)

pub AreRows-new : (rows : List Row) (devices : List ℕ) → rows ≡ map new_row devices → All (λ r. r.device < 2 ^ 32) rows → AllPairs (λ x y. x ≢ y) devices → AreRows rows
AreRows-new rows devices is numbers different = record {
  apart = subst (AllApart (λ r. r.device)) (sym is) (AllApart-new devices different);
  numbers = numbers;
  turns = subst (All (λ r. r.turn ≤ 65535)) (sym is) (turns-new devices);
}

-- a device that is named has a row
pub not_absent : (rows : List Row) (device : ℕ) → is_named device rows ≡ true → ((k : ℕ) (d : Row) → k < length rows → (get_or rows k d).device ≢ device) → ⊥
not_absent rows device named none =
    let found = Any-from_list_any (λ r. r.device == device) rows named in
    none found.0 found.1 found.2 (ap (λ s. s.device) found.3 ∙ eqb-true found.1.device device found.4)

-- a change of one device's row leaves rows of others
unchanged : (f : Row → Row) (device : ℕ) (rows : List Row) → ((r : Row) → IsAmong r rows → r.device ≢ device) → map (λ r. cond (r.device == device) (f r) r) rows ≡ rows
unchanged f device [] others = refl
unchanged f device (x ∷ xs) others =
    let here : cond (x.device == device) (f x) x ≡ x = cond-false (x.device == device) (f x) x (ne_eqb x.device device (others x (inl refl))) in
    let rest = unchanged f device xs (λ r a. others r (inr a)) in
    cc

-- a write to the row of a device changes it alone
pub set-changed : (f : Row → Row) (device : ℕ) (rows : List Row) (at : ℕ) (x : Row) → AllApart (λ r. r.device) rows → at < length rows → x ≡ get_or rows at x → x.device ≡ device
    → set rows at (f x) ≡ map (λ r. cond (r.device == device) (f r) r) rows
set-changed f device [] at x apart inside is named = absurd (omega arith)
set-changed f device (y ∷ ys) zero x apart inside is named =
    let here : cond (y.device == device) (f y) y ≡ f y = cond-true (y.device == device) (f y) y (eq-eqb y.device device (ap (λ z. z.device) (sym is) ∙ named)) in
    let rest : map (λ r. cond (r.device == device) (f r) r) ys ≡ ys =
    unchanged f device ys (λ r a same. AllApart-head (λ z. z.device) y ys apart r a (same ∙ sym named ∙ ap (λ z. z.device) is)) in
    let first : f x ≡ f y = ap f is in
    cc
set-changed f device (y ∷ ys) (suc at) x apart inside is named =
    let among : IsAmong x ys = subst (λ z. IsAmong z ys) (sym is) (IsAmong-get_or ys at x (omega arith)) in
    let here : cond (y.device == device) (f y) y ≡ y =
    cond-false (y.device == device) (f y) y (ne_eqb y.device device (λ e. AllApart-head (λ z. z.device) y ys apart x among (named ∙ sym e))) in
    let rest = set-changed f device ys at x (AllApart-tail (λ z. z.device) y ys apart) (omega arith) is named in
    cc

-- as a call has it, which saw the rows and found the device at this place
pub rows_changed : (f : Row → Row) (rows seen : List Row) (device at : ℕ) (x : Row) → AreRows rows → seen ≡ rows → at < length seen → ((d : Row) → (get_or seen at d).device ≡ device) → x ≡ get_or rows at x
    → set rows at (f x) ≡ map (λ r. cond (r.device == device) (f r) r) rows
rows_changed f rows seen device at x sound same inside named is =
    set-changed f device rows at x sound.apart (omega (arith, ap length same)) is (ap (λ z. z.device) is ∙ subst (λ l. (get_or l at x).device ≡ device) same (named x))
