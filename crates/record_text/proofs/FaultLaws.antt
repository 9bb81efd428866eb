-- The first record that fails, and what a reader answers.
use Rattle.std.proofs.Common.{◌≡◌, ◌≢◌, ◌+◌, ℕ, List, [], ◌∷◌, ◌++◌, length, Bool, true, false, cond, refl, sym, ap, ◌∙◌, subst, arith, add-zero, append-nil}
use Rattle.std.specs.Prelude.{Option, Some, None, Result, Ok, Err, ok_or, ⊤, IfSome, IfOk}
use Rattle.std.specs.Io.KnownBytes.{Consumes, IsAtEnd}
use Rattle.record_text.specs.Faults.{FailsAt, IsFirstFault}
use Rattle.record_text.specs.Steps.{◌>>=◌, taken}
use Rattle.record_text.specs.Text.{Row}

-- a result that fails does so by a fault of this kind
abbrev pub FailsBy : {X E : Type 0} → (E → Type 0) → Result X E → Type 0
FailsBy P (Ok x) = ⊤
FailsBy P (Err e) = P e

pub bound : {A B E : Type 0} (P : E → Type 0) (r : Result A E) (f : A → Result B E) → FailsBy P r → ((x : A) → FailsBy P (f x)) → FailsBy P (r >>= f)
bound P (Ok x) f h k = k x
bound P (Err e) f h k = h

pub by_word : {X E : Type 0} (P : E → Type 0) (o : Option X) (e : E) → P e → FailsBy P (ok_or o e)
by_word P None e h = h
by_word P (Some w) e h = tt

pub by_test : {X E : Type 0} (P : E → Type 0) (b : Bool) (r s : Result X E) → FailsBy P r → FailsBy P s → FailsBy P (cond b r s)
by_test P true r s h k = h
by_test P false r s h k = k

pub taken_fails : {S E : Type 0} (P : E → Type 0) (next : ℕ → S → Row → Result S E) → ((n : ℕ) (s : S) (row : Row) → FailsBy P (next n s row)) → (n : ℕ) (s : S) (rows : List Row) → FailsBy P (taken next n s rows)
taken_fails P next each n s [] = tt
taken_fails P next each n s (row ∷ rows) = bound P (next n s row) _ (each n s row) (λ t. taken_fails P next each (n + 1) t rows)

pub by_kind : {X E : Type 0} (P : E → Type 0) (r : Result X E) (e : E) → FailsBy P r → r ≡ Err e → P e
by_kind P r e h is = rw is at h

-- ---- the first record that fails

record Splits {S V E : Type 0} (next : ℕ → S → Row → Result S E) (end : S → Result V E) (n : ℕ) (s : S) (rows : List Row) (e : E) : Type 0 where
  before : List Row
  rest : List Row
  reached : S
  parts : rows ≡ before ++ rest
  good : taken next n s before ≡ Ok reached
  fails : FailsAt next end (n + length before) reached rest e

splits : {S V E : Type 0} (next : ℕ → S → Row → Result S E) (end : S → Result V E) (n : ℕ) (s : S) (rows : List Row) (e : E) → (taken next n s rows >>= end) ≡ Err e → Splits next end n s rows e
splits next end n s [] e h = record { before = []; rest = []; reached = s; parts = refl; good = refl; fails = h }
splits {S = S} {E = E} next end n s (row ∷ rows) e h = by (next n s row) refl h (λ t k. splits next end (n + 1) t rows e k)
  where
    by : (r : Result S E) → next n s row ≡ r → ((next n s row >>= λ t. taken next (n + 1) t rows) >>= end) ≡ Err e
        → ((t : S) → (taken next (n + 1) t rows >>= end) ≡ Err e → Splits next end (n + 1) t rows e) → Splits next end n s (row ∷ rows) e
    by (Ok t) q k more =
        let m = more t (rw q at k) in
        let same : n + 1 + length m.before ≡ n + length (row ∷ m.before) = omega arith in
        record {
          before = row ∷ m.before;
          rest = m.rest;
          reached = m.reached;
          parts = ap (λ (l : List Row). row ∷ l) m.parts;
          good = rw q m.good;
          fails = subst (λ (i : ℕ). FailsAt next end i m.reached m.rest e) same m.fails;
        }
    by (Err d) q k more =
        let same : d ≡ e = (let w = rw q at k in cc) in
        record { before = []; rest = row ∷ rows; reached = s; parts = refl; good = refl; fails = rw add-zero (q ∙ ap (λ (x : E). Err x) same) }

pub first_fault : {S V E : Type 0} (next : ℕ → S → Row → Result S E) (end : S → Result V E) (first : S) (rows : List Row) (e : E)
    → (taken next 1 first rows >>= end) ≡ Err e → IsFirstFault next end first rows e
first_fault next end first rows e h =
    let k = splits next end 1 first rows e h in
    record { exact = h; before = k.before; rest = k.rest; reached = k.reached; parts = k.parts; good = k.good; fails = k.fails }

-- ---- what a reader answers, from what parsing the whole text gives

abbrev pub Gives : {V E : Type 0} → E → Result V E → Result V E → Type 0
Gives memory r whole = r ≢ Err memory → r ≡ whole

pub found_law : {V E : Type 0} (memory : E) (Was : V → Type 0) (r read : Result V E) → Gives memory r read → ((v : V) → read ≡ Ok v → Was v) → IfOk r Was
found_law memory Was (Ok v) read h was = was v (sym (h (λ k. cc)))
found_law memory Was (Err e) read h was = tt

pub only_law : {V E : Type 0} (memory calm : E) (Is : List ℕ → Type 0) (before after : Option (List ℕ)) (text : List ℕ) (r read : Result V E) (v : V) → Consumes before after text → IsAtEnd after → Gives memory r read → (Is text → read ≡ Ok v)
    → IfSome before (λ all. Is all → r ≢ Err memory → r ≢ Err calm → r ≡ Ok v)
only_law memory calm Is None after text r read v came ended h k = tt
only_law memory calm Is (Some all) None text r read v came ended h k = absurd came
only_law memory calm Is (Some all) (Some left) text r read v came ended h k = λ is other _.
    let same : all ≡ text = came ∙ ap (λ (l : List ℕ). text ++ l) ended ∙ append-nil text in
    h other ∙ k (subst Is same is)
