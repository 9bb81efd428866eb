-- what one event more makes of each CCB's state
use Rattle.std.proofs.Common.{◌≡◌, ◌≢◌, ℕ, zero, suc, ◌+◌, ◌<◌, ◌≤◌, Bool, true, false, cond, List, [], ◌∷◌, ◌++◌, set, map, refl, sym, ap, ◌∙◌, arith, Option, Some, None, slice_get}
use Rattle.std.specs.List.{range_with_len}
use Rattle.std.proofs.lemmas.List.{reverse-append}
use Rattle.event_rules.specs.Event.{is_some_and, is_send_of, is_send_or_done_of, concerns, is_erring, Event}
use Rattle.event_rules.specs.Counts.{last, is_in_flight, is_recovering}

pub last-push : (test : Event → Bool) (es : List Event) (e : Event) → last test (es ++ e ∷ []) ≡ cond (test e) (Some e) (last test es)
last-push test es e = rw (reverse-append es (e ∷ [])) refl

test_cases : (q : Event → Bool) (e : Event) (t : Bool) (o : Option Event) → is_some_and q (cond t (Some e) o) ≡ cond t (q e) (is_some_and q o)
test_cases q e true o = refl
test_cases q e false o = refl

pub is_in_flight-push : (es : List Event) (e : Event) (c : ℕ) → is_in_flight (es ++ e ∷ []) c ≡ cond (is_send_or_done_of c e) (is_send_of c e) (is_in_flight es c)
unfolding is_in_flight
is_in_flight-push es e c = ap (is_some_and (is_send_of c)) (last-push (is_send_or_done_of c) es e) ∙ test_cases (is_send_of c) e (is_send_or_done_of c e) (last (is_send_or_done_of c) es)

pub is_recovering-push : (es : List Event) (e : Event) (c : ℕ) → is_recovering (es ++ e ∷ []) c ≡ cond (concerns c e) (is_erring e) (is_recovering es c)
unfolding is_recovering
is_recovering-push es e c = ap (is_some_and is_erring) (last-push (concerns c) es e) ∙ test_cases is_erring e (concerns c e) (last (concerns c) es)

-- functions over a range that agree on it, or but at one place
pub map-range_same : {X : Type 0} → (f g : ℕ → X) (a n : ℕ) → ((k : ℕ) → a ≤ k → k < a + n → g k ≡ f k) → map g (range_with_len a n) ≡ map f (range_with_len a n)
map-range_same f g a zero h = refl
map-range_same f g a (suc n) h =
    rw (h a (omega arith) (omega arith), map-range_same f g (a + 1) n (λ k le lt. h k (omega arith) (omega arith))) refl

pub map-range_but : {X : Type 0} → (f g : ℕ → X) (a n c : ℕ) → ((k : ℕ) → k ≢ a + c → g k ≡ f k) → map g (range_with_len a n) ≡ set (map f (range_with_len a n)) c (g (a + c))
map-range_but f g a zero c h = refl
map-range_but f g a (suc n) zero h =
    let here : a + 0 ≡ a = omega arith in
    rw (here, map-range_same f g (a + 1) n (λ k le lt. h k (λ e. omega arith))) refl
map-range_but f g a (suc n) (suc c) h =
    let there : (a + 1) + c ≡ a + suc c = omega arith in
    let rest : map g (range_with_len (a + 1) n) ≡ set (map f (range_with_len (a + 1) n)) c (g ((a + 1) + c)) = map-range_but f g (a + 1) n c (λ k ne. h k (λ e. ne (e ∙ sym there))) in
    rw (h a (λ e. omega arith), rest, there) refl

-- the element of a function's values over a range
pub slice_get-range : {X : Type 0} → (f : ℕ → X) (a n c : ℕ) → c < n → slice_get (map f (range_with_len a n)) c ≡ Some (f (a + c))
slice_get-range f a zero c lt = absurd (omega arith)
slice_get-range f a (suc n) zero lt = let here : a + 0 ≡ a = omega arith in rw here refl
slice_get-range f a (suc n) (suc c) lt =
    let there : (a + 1) + c ≡ a + suc c = omega arith in
    let rest : slice_get (map f (range_with_len (a + 1) n)) c ≡ Some (f ((a + 1) + c)) = slice_get-range f (a + 1) n c (omega arith) in
    rest ∙ ap (λ k. Some (f k)) there

pub slice_get-range_past : {X : Type 0} → (f : ℕ → X) (a n c : ℕ) → n ≤ c → slice_get (map f (range_with_len a n)) c ≡ None
slice_get-range_past f a zero c le = refl
slice_get-range_past f a (suc n) zero le = absurd (omega arith)
slice_get-range_past f a (suc n) (suc c) le = slice_get-range_past f (a + 1) n c (omega arith)
