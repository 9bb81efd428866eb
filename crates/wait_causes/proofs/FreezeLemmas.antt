-- the freezes so far, and of one round or number more
use Rattle.std.proofs.Common.{◌≡◌, ℕ, suc, ◌+◌, ◌-◌, ◌<◌, ◌≤◌, Bool, true, false, cond, List, [], ◌∷◌, ◌++◌, map, refl, sym, ap, ◌∙◌, arith, append_assoc, append-nil, Some, filter, find, flat_map, count_by, unwrap_or, not}
use Rattle.std.specs.List.{range_with_len}
use Rattle.std.proofs.lemmas.Grind.{flat_map-append}
use Rattle.round_net.proofs.CountLemmas.{count_by-cons}
use Rattle.event_rules.proofs.ListFacts.{range_with_len-push}
use Rattle.wait_causes.specs.Freezes.{behind}

-- the rounds from one on, where there is one more
pub between-cons : (r n : ℕ) → r < n → range_with_len r (n - r) ≡ r ∷ range_with_len (r + 1) (n - (r + 1))
between-cons r n lt =
    let here : n - r ≡ suc (n - (r + 1)) = omega arith in
    let next : r + 1 ≡ suc r = omega arith in
    rw (here, next) refl

pub between-none : (r n : ℕ) → n ≤ r → range_with_len r (n - r) ≡ []
between-none r n le =
    let none : n - r ≡ 0 = omega arith in
    rw none refl

-- the round after a freeze: it is here, or after this round, or none is left
pub behind_here : (frozen : ℕ → Bool) (first last r : ℕ) → r < last → frozen r ≡ false →
    find (λ k. not (frozen k)) (range_with_len r (last - r)) ≡ find (λ k. not (frozen k)) (range_with_len first (last - first)) → r ≡ behind frozen last first
unfolding behind
behind_here frozen first last r lt free left =
    let found : find (λ k. not (frozen k)) (range_with_len r (last - r)) ≡ Some r = rw (between-cons r last lt) (rw free refl) in
    ap (λ o. unwrap_or o last) (sym found ∙ left)

pub behind_next : (frozen : ℕ → Bool) (first last r : ℕ) → r < last → frozen r ≡ true →
    find (λ k. not (frozen k)) (range_with_len r (last - r)) ≡ find (λ k. not (frozen k)) (range_with_len first (last - first)) →
    find (λ k. not (frozen k)) (range_with_len (r + 1) (last - (r + 1))) ≡ find (λ k. not (frozen k)) (range_with_len first (last - first))
behind_next frozen first last r lt held left =
    let found : find (λ k. not (frozen k)) (range_with_len r (last - r)) ≡ find (λ k. not (frozen k)) (range_with_len (r + 1) (last - (r + 1))) = rw (between-cons r last lt) (rw held refl) in
    sym found ∙ left

pub behind_none : (frozen : ℕ → Bool) (first last r : ℕ) → last ≤ r →
    find (λ k. not (frozen k)) (range_with_len r (last - r)) ≡ find (λ k. not (frozen k)) (range_with_len first (last - first)) → last ≡ behind frozen last first
unfolding behind
behind_none frozen first last r le left =
    ap (λ o. unwrap_or o last) (sym (ap (find (λ k. not (frozen k))) (between-none r last le)) ∙ left)

-- how many of the rounds pass a test: those so far and those left
pub count_here : (p : ℕ → Bool) (r end n all : ℕ) → r < end → p r ≡ true → n + count_by p (range_with_len r (end - r)) ≡ all → n + 1 + count_by p (range_with_len (r + 1) (end - (r + 1))) ≡ all
count_here p r end n all lt passes left =
    let cons : count_by p (range_with_len r (end - r)) ≡ cond (p r) 1 0 + count_by p (range_with_len (r + 1) (end - (r + 1))) = ap (count_by p) (between-cons r end lt) ∙ count_by-cons p r (range_with_len (r + 1) (end - (r + 1))) in
    let one : ◌≡◌ {A = ℕ} (cond (p r) 1 0) 1 = rw passes refl in
    omega (arith, cons, one, left)

pub count_next : (p : ℕ → Bool) (r end n all : ℕ) → r < end → p r ≡ false → n + count_by p (range_with_len r (end - r)) ≡ all → n + count_by p (range_with_len (r + 1) (end - (r + 1))) ≡ all
count_next p r end n all lt fails left =
    let cons : count_by p (range_with_len r (end - r)) ≡ cond (p r) 1 0 + count_by p (range_with_len (r + 1) (end - (r + 1))) = ap (count_by p) (between-cons r end lt) ∙ count_by-cons p r (range_with_len (r + 1) (end - (r + 1))) in
    let none : ◌≡◌ {A = ℕ} (cond (p r) 1 0) 0 = rw fails refl in
    omega (arith, cons, none, left)

pub count_none : (p : ℕ → Bool) (r end n all : ℕ) → end ≤ r → n + count_by p (range_with_len r (end - r)) ≡ all → n ≡ all
count_none p r end n all le left =
    let none : count_by p (range_with_len r (end - r)) ≡ 0 = ap (count_by p) (between-none r end le) in
    omega (arith, none, left)

-- the rows of the rounds that pass: those so far and those left
pub rows_here : {X : Type 0} (f : ℕ → X) (p : ℕ → Bool) (r last : ℕ) (xs new all : List X) (x : X) → r < last → p r ≡ true → x ≡ f r → new ≡ xs ++ x ∷ [] →
    xs ++ map f (filter p (range_with_len r (last - r))) ≡ all → new ++ map f (filter p (range_with_len (r + 1) (last - (r + 1)))) ≡ all
rows_here f p r last xs new all x lt passes here is left =
    let cons : map f (filter p (range_with_len r (last - r))) ≡ f r ∷ map f (filter p (range_with_len (r + 1) (last - (r + 1)))) = rw (between-cons r last lt) (rw passes refl) in
    ap (λ ys. ys ++ map f (filter p (range_with_len (r + 1) (last - (r + 1))))) (is ∙ ap (λ y. xs ++ y ∷ []) here)
    ∙ append_assoc xs (f r ∷ []) (map f (filter p (range_with_len (r + 1) (last - (r + 1)))))
    ∙ ap (λ ys. xs ++ ys) (sym cons) ∙ left

pub rows_next : {X : Type 0} (f : ℕ → X) (p : ℕ → Bool) (r last : ℕ) (xs all : List X) → r < last → p r ≡ false →
    xs ++ map f (filter p (range_with_len r (last - r))) ≡ all → xs ++ map f (filter p (range_with_len (r + 1) (last - (r + 1)))) ≡ all
rows_next f p r last xs all lt fails left =
    let rest : map f (filter p (range_with_len r (last - r))) ≡ map f (filter p (range_with_len (r + 1) (last - (r + 1)))) = rw (between-cons r last lt) (rw fails refl) in
    ap (λ ys. xs ++ ys) (sym rest) ∙ left

pub rows_none : {X : Type 0} (f : ℕ → X) (p : ℕ → Bool) (r last : ℕ) (xs all : List X) → last ≤ r → xs ++ map f (filter p (range_with_len r (last - r))) ≡ all → xs ≡ all
rows_none f p r last xs all le left =
    sym (append-nil xs) ∙ ap (λ rs. xs ++ map f (filter p rs)) (sym (between-none r last le)) ∙ left

-- the rows of the numbers so far, and of one more
pub numbers_step : {X : Type 0} (f : ℕ → List X) (old xs new : List X) (n : ℕ) → xs ≡ old ++ flat_map f (range_with_len 0 n) → new ≡ xs ++ f n → new ≡ old ++ flat_map f (range_with_len 0 (n + 1))
numbers_step f old xs new n was is =
    let plain : 0 + n ≡ n = omega arith in
    is ∙ ap (λ ys. ys ++ f n) was ∙ append_assoc old (flat_map f (range_with_len 0 n)) (f n)
    ∙ ap (λ ys. old ++ ys) (sym (ap (flat_map f) (range_with_len-push 0 n) ∙ flat_map-append f (range_with_len 0 n) ((0 + n) ∷ [])
    ∙ ap (λ xs. flat_map f (range_with_len 0 n) ++ xs) (append-nil (f (0 + n)))
    ∙ ap (λ k. flat_map f (range_with_len 0 n) ++ f k) plain))
