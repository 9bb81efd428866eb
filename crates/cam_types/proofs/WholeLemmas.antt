-- A text that is written piece by piece.
use Rattle.std.proofs.Common.{◌≡◌, ◌+◌, ◌-◌, ◌<◌, ◌++◌, ◌==◌, ◌&&◌, ◌||◌, ℕ, List, Bool, take, drop, length, false, arith, refl, subst, Option, ne_eqb}
use Rattle.std.specs.Io.KnownBytes.{Appends}
use Rattle.std.proofs.KnownBytes.{Appends-trans}
use Rattle.std.proofs.lemmas.List.{take-append-drop, take-take, drop-take, take_all, length-drop}

-- a front, and then some more
take_on : (i n : ℕ) (text : List ℕ) → take i text ++ take n (drop i text) ≡ take (i + n) text
take_on i n text =
    let front : take i (take (i + n) text) ≡ take i text = take-take i (i + n) text (omega arith) in
    rw (← front, ← drop-take i n text) (take-append-drop i (take (i + n) text))

-- one more piece is written
pub write_step : (a b c : Option (List ℕ)) (text : List ℕ) (i n : ℕ) → i < length text
    → Appends a b (take i text) → Appends b c (take n (take (length text - i) (drop i text))) → Appends a c (take (i + n) text)
write_step a b c text i n lt p q =
    let size = length-drop i text in
    let all : take (length text - i) (drop i text) ≡ drop i text = take_all (length text - i) (drop i text) (omega arith) in
    let more = rw all at q in
    subst (Appends a c) (take_on i n text) (Appends-trans a b c _ _ p more)

-- a write that took some bytes is no failure
pub took_some : (before after : Bool) (taken : ℕ) (rest : Bool) → after ≡ (before || false || ((taken == 0) && rest)) → before ≡ false → (taken ≡ 0 → ⊥) → after ≡ false
took_some before after taken rest e calm some = rw (e, calm, ne_eqb taken 0 some) refl
