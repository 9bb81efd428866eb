-- Steps that may fail, and a list of them.
use Rattle.std.specs.Prelude.{ℕ, ◌+◌, List, [], ◌∷◌, Result, Ok, Err}

infixl 10 ◌>>=◌
-- what the next step gives, where this one doesn't fail
abbrev pub ◌>>=◌ : {A B E : Type 0} → Result A E → (A → Result B E) → Result B E
(Ok x) >>= f = f x
(Err e) >>= f = Err e

-- Takes records one after the other, of which the first has this number: the parser after the last, or the first fault.
abbrev pub taken : {S R E : Type 0} → (ℕ → S → R → Result S E) → ℕ → S → List R → Result S E
taken step n s [] = Ok s
taken step n s (r ∷ rs) = step n s r >>= λ t. taken step (n + 1) t rs
