-- attempts by their devices
use Rattle.std.proofs.Common.{◌≡◌, ◌≢◌, ℕ, zero, suc, ◌+◌, ◌<◌, Bool, true, false, cond, List, [], ◌∷◌, ◌++◌, length, map, set, get_or, refl, sym, ap, ◌∙◌, arith, ◌==◌, append-nil, Vec, None, zero-add, eq-eqb, length-set, get_or-set_same, get_or-set_other, ext_get_or}
use Rattle.std.specs.Global.{Global}
use Rattle.std.specs.List.{range_with_len}
use Rattle.std.proofs.lemmas.Bool.{eqb-true}
use Rattle.std.proofs.lemmas.List.{length-map, map-append}
use Rattle.std.proofs.lemmas.List.Elements.{filter-append}
use Rattle.std.proofs.lemmas.List.FromFn.{get_or-map-range_with_len, length-map-range_with_len, map-range_with_len_more}
use Rattle.capture_windows.specs.Attempts.{Attempt}
use Rattle.capture_windows.specs.Counted.{AreByDevice}
use Rattle.capture_windows.specs.Devices.{attempts_of}

abbrev pub no_attempt : Attempt
no_attempt = record { request = record { arrival = 0; started = None; retried = None; completed = None; driver = 0; device = 0; priority = 0 }; is_taken = false; has_slot = false; number = 0 }

-- ---- lists that are a function of their place

pub lists_more : {X : Type 0} (f : ℕ → List X) (n : ℕ) (old new : List (Vec X Global)) (v : Vec X Global) → map (λ (v : Vec X Global). v.items) old ≡ map f (range_with_len 0 n) → new ≡ old ++ v ∷ [] → v.items ≡ f n → map (λ (v : Vec X Global). v.items) new ≡ map f (range_with_len 0 (n + 1))
lists_more {X} f n old new v was is here =
    ap (map (λ (v : Vec X Global). v.items)) is ∙ map-append (λ (v : Vec X Global). v.items) old (v ∷ []) ∙ rw (was, here) (sym (map-range_with_len_more f 0 n n (zero-add n)))

pub lists_length : {X : Type 0} (f : ℕ → List X) (n : ℕ) (lists : List (Vec X Global)) → map (λ (v : Vec X Global). v.items) lists ≡ map f (range_with_len 0 n) → length lists ≡ n
lists_length {X} f n lists are = sym (length-map lists (λ (v : Vec X Global). v.items)) ∙ ap (λ xs. length xs) are ∙ length-map-range_with_len f 0 n

items_at : {X : Type 0} (lists : List (Vec X Global)) (k : ℕ) (d : Vec X Global) → get_or (map (λ (v : Vec X Global). v.items) lists) k d.items ≡ (get_or lists k d).items
items_at [] k d = refl
items_at (x ∷ xs) zero d = refl
items_at (x ∷ xs) (suc k) d = items_at xs k d

pub list_at : {X : Type 0} (f : ℕ → List X) (n k : ℕ) (lists : List (Vec X Global)) (d : Vec X Global) → map (λ (v : Vec X Global). v.items) lists ≡ map f (range_with_len 0 n) → k < n → (get_or lists k d).items ≡ f k
list_at f n k lists d are lt =
    sym (items_at lists k d) ∙ ap (λ xs. get_or xs k d.items) are ∙ get_or-map-range_with_len f 0 n k k d.items lt (zero-add k)

items_set : {X : Type 0} (xs : List (Vec X Global)) (k : ℕ) (v : Vec X Global) → map (λ (v : Vec X Global). v.items) (set xs k v) ≡ set (map (λ (v : Vec X Global). v.items) xs) k v.items
items_set [] k v = refl
items_set (x ∷ xs) zero v = refl
items_set (x ∷ xs) (suc k) v = ap (λ ys. x.items ∷ ys) (items_set xs k v)

-- ---- one attempt more

joined : (xs : List Attempt) (a : Attempt) (n : ℕ) (b : Bool) → (a.request.device == n) ≡ b → attempts_of n (xs ++ a ∷ []) ≡ attempts_of n xs ++ cond b (a ∷ []) []
joined xs a n true is = filter-append (λ (x : Attempt). x.request.device == n) xs (a ∷ []) ∙ ap (λ ys. attempts_of n xs ++ ys) (rw is refl)
joined xs a n false is = filter-append (λ (x : Attempt). x.request.device == n) xs (a ∷ []) ∙ ap (λ ys. attempts_of n xs ++ ys) (rw is refl)

pub by_device_more : (count : ℕ) (xs : List Attempt) (a : Attempt) (lists : List (Vec Attempt Global)) (v was : Vec Attempt Global) → AreByDevice count xs lists → a.request.device < count → was ≡ get_or lists a.request.device was → v.items ≡ was.items ++ a ∷ [] → AreByDevice count (xs ++ a ∷ []) (set lists a.request.device v)
by_device_more count xs a lists v was are lt read more =
    let n : ℕ = a.request.device in
    let f : ℕ → List Attempt = λ d. attempts_of d xs in
    let g : ℕ → List Attempt = λ d. attempts_of d (xs ++ a ∷ []) in
    let old : was.items ≡ f n = ap (λ (w : Vec Attempt Global). w.items) read ∙ list_at f count n lists was are lt in
    let plain = map (λ (w : Vec Attempt Global). w.items) lists in
    let size : length plain ≡ count = ap (λ ys. length ys) are ∙ length-map-range_with_len f 0 count in
    items_set lists n v
    ∙ ext_get_or [] (set plain n v.items) (map g (range_with_len 0 count))
    (length-set plain n v.items ∙ size ∙ sym (length-map-range_with_len g 0 count))
    (λ k inside.
    let within : k < count = omega (arith, inside, length-set plain n v.items, size) in
    let due : get_or (map g (range_with_len 0 count)) k [] ≡ g k = get_or-map-range_with_len g 0 count k k [] within (zero-add k) in
    elim (n == k) as (λ b. (n == k) ≡ b → get_or (set plain n v.items) k [] ≡ get_or (map g (range_with_len 0 count)) k []) [
      | true ↦ λ e.
          let at : k ≡ n = sym (eqb-true n k e) in
          ap (λ j. get_or (set plain n v.items) j []) at
          ∙ get_or-set_same plain n v.items [] (omega (arith, lt, size))
          ∙ more ∙ ap (λ ys. ys ++ a ∷ []) old
          ∙ sym (due ∙ joined xs a k true e ∙ ap (λ j. attempts_of j xs ++ a ∷ []) at)
      | false ↦ λ e.
          let apart : k ≢ n = (λ at. let yes : (n == k) ≡ true = eq-eqb n k (sym at) in cc) in
          get_or-set_other plain n k v.items [] apart
          ∙ ap (λ ys. get_or ys k []) are
          ∙ get_or-map-range_with_len f 0 count k k [] within (zero-add k)
          ∙ sym (due ∙ joined xs a k false e ∙ append-nil (attempts_of k xs))
    ] refl)
