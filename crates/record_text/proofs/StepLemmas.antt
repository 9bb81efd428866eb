-- Steps that may fail, one after the other.
use Rattle.std.proofs.Common.{◌≡◌, ◌+◌, ℕ, List, [], ◌∷◌, ◌++◌, length, map, Bool, true, false, cond, refl, sym, ap, ◌∙◌, append_assoc, append-nil, arith, subst}
use Rattle.std.specs.Prelude.{Option, Some, None, Result, Ok, Err, ok_or}
use Rattle.record_text.specs.Steps.{◌>>=◌, taken}
use Rattle.record_text.specs.Text.{Row}
use Rattle.record_text.proofs.ListLemmas.{Along}

-- the value of a step that didn't fail
pub on_ok : {A B E Q : Type 0} (r : Result A E) (f : A → Result B E) (y : B) → (r >>= f) ≡ Ok y → ((x : A) → r ≡ Ok x → f x ≡ Ok y → Q) → Q
on_ok (Ok x) f y e k = k x refl e
on_ok (Err d) f y e k = absurd cc

pub ok_is : {A E : Type 0} (x y : A) → ◌≡◌ {A = Result A E} (Ok x) (Ok y) → x ≡ y
ok_is x y e = cc

pub ok_or_ok : {X E : Type 0} (o : Option X) (d : E) (x : X) → ok_or o d ≡ Ok x → o ≡ Some x
ok_or_ok None d x e = absurd cc
ok_or_ok (Some y) d x e = cc

-- the value where a test passes
pub if_ok : {A E : Type 0} (b : Bool) (r : Result A E) (y : A) (d : E) → cond b r (Err d) ≡ Ok y → (b ≡ true) × (r ≡ Ok y)
if_ok true r y d e = (refl, e)
if_ok false r y d e = absurd cc

-- ---- records one after the other

pub taken_on : {S E : Type 0} (next : ℕ → S → Row → Result S E) (n : ℕ) (s t : S) (xs ys : List Row) → taken next n s xs ≡ Ok t → taken next n s (xs ++ ys) ≡ taken next (n + length xs) t ys
taken_on next n s t [] ys e =
    let same : s ≡ t = ok_is s t e in
    let none : n ≡ n + 0 = omega arith in
    ap (λ (u : _). taken next n u ys) same ∙ ap (λ (m : ℕ). taken next m t ys) none
taken_on next n s t (x ∷ xs) ys e =
    let same : n + 1 + length xs ≡ n + length (x ∷ xs) = omega arith in
    on_ok (next n s x) _ t e (λ v ev r. rw ev (taken_on next (n + 1) v t xs ys r ∙ ap (λ (m : ℕ). taken next m t ys) same))

pub then_taken : {S E : Type 0} (next : ℕ → S → Row → Result S E) (n : ℕ) (s t u : S) (xs ys : List Row) → taken next n s xs ≡ Ok t → ((m : ℕ) → taken next m t ys ≡ Ok u) → taken next n s (xs ++ ys) ≡ Ok u
then_taken next n s t u xs ys e k = taken_on next n s t xs ys e ∙ k (n + length xs)

-- the rows of some items, where each leads from the state of those before it to its own
pub run : {S E X : Type 0} (next : ℕ → S → Row → Result S E) (row : X → Row) (at : List X → S) (P : List X → X → Type 0)
    → ((n : ℕ) (before : List X) (x : X) → P before x → next n (at before) (row x) ≡ Ok (at (before ++ x ∷ [])))
    → (before xs : List X) (n : ℕ) → Along P before xs → taken next n (at before) (map row xs) ≡ Ok (at (before ++ xs))
run next row at P one before [] n h = ap (λ (l : List _). Ok (at l)) (sym (append-nil before))
run next row at P one before (x ∷ xs) n h =
    rw (one n before x h.0) (run next row at P one (before ++ x ∷ []) xs (n + 1) h.1 ∙ ap (λ (l : List _). Ok (at l)) (append_assoc before (x ∷ []) xs))

-- what each record keeps, all keep
pub taken_keeps : {S E : Type 0} (next : ℕ → S → Row → Result S E) (P : S → List Row → Type 0)
    → ((n : ℕ) (s t : S) (row : Row) (rows : List Row) → P s rows → next n s row ≡ Ok t → P t (rows ++ row ∷ []))
    → (n : ℕ) (s t : S) (rows more : List Row) → P s rows → taken next n s more ≡ Ok t → P t (rows ++ more)
taken_keeps next P each n s t rows [] h e = rw (append-nil rows, ← ok_is s t e) h
taken_keeps next P each n s t rows (row ∷ more) h e =
    on_ok (next n s row) _ t e (λ u eu r.
    subst (P t) (append_assoc rows (row ∷ []) more) (taken_keeps next P each (n + 1) u t (rows ++ row ∷ []) more (each n s u row rows h eu) r))
