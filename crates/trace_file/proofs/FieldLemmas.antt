-- Fields of a record, and the bytes that a field spells.
use Rattle.std.proofs.Common.{◌≡◌, ◌≢◌, ◌<◌, ◌≤◌, ◌+◌, ◌*◌, ◌%◌, ℕ, List, [], ◌∷◌, ◌++◌, length, take, drop, get_or, set, refl, sym, ap, ◌∙◌, arith, append_assoc, Option, Some, None, option_map, option_and_then, drop-cons}
use Rattle.std.proofs.lemmas.List.{append-nil, drop_all, take_more_set}
use Rattle.std.proofs.lemmas.Grind.{common_steps}
use Rattle.trace_file.specs.Fields.{hex_byte, bytes_of}

-- an odd number of digits spells no bytes
pub bytes_of-odd : (text : List ℕ) → length text % 2 ≢ 0 → bytes_of text ≡ None
unfolding bytes_of
bytes_of-odd [] h = absurd (h refl)
bytes_of-odd (c ∷ []) h = refl
bytes_of-odd (c ∷ d ∷ rest) h = rw (bytes_of-odd rest (λ e. h (omega arith))) (none (hex_byte c d))
  where
    none : (o : Option ℕ) → ◌≡◌ {A = Option (List ℕ)} (option_and_then (λ b. None) o) None
    none None = refl
    none (Some b) = refl

-- these bytes before the ones that are still to be read
abbrev pub with_front : List ℕ → Option (List ℕ) → Option (List ℕ)
with_front front rest = option_map (λ bs. front ++ bs) rest

two_more : (text : List ℕ) (i : ℕ) → 2 * i + 1 < length text → drop (2 * i) text ≡ get_or text (2 * i) 0 ∷ get_or text (2 * i + 1) 0 ∷ drop (2 * (i + 1)) text
two_more text i h =
    let a = drop-cons text (2 * i) 0 (omega arith) in
    let b = drop-cons text (2 * i + 1) 0 h in
    grind (arith, common_steps, a, b)

regroup : (front : List ℕ) (b : ℕ) (rest : Option (List ℕ)) → with_front front (option_map (λ bs. b ∷ bs) rest) ≡ with_front (front ++ b ∷ []) rest
regroup front b None = refl
regroup front b (Some bs) = ap (λ (l : List ℕ). Some l) (sym (append_assoc front (b ∷ []) bs))

-- one more byte
pub bytes_step : (text bytes : List ℕ) (i b : ℕ) → 2 * i + 1 < length text → i < length bytes → hex_byte (get_or text (2 * i) 0) (get_or text (2 * i + 1) 0) ≡ Some b
    → with_front (take i bytes) (bytes_of (drop (2 * i) text)) ≡ with_front (take (i + 1) (set bytes i b)) (bytes_of (drop (2 * (i + 1)) text))
unfolding bytes_of
bytes_step text bytes i b h k e =
    let rest = bytes_of (drop (2 * (i + 1)) text) in
    ap (λ (t : List ℕ). with_front (take i bytes) (bytes_of t)) (two_more text i h)
    ∙ rw e (regroup (take i bytes) b rest)
    ∙ ap (λ (front : List ℕ). with_front front rest) (sym (take_more_set bytes i b k))

pub bytes_stop : (text bytes : List ℕ) (i : ℕ) → 2 * i + 1 < length text → hex_byte (get_or text (2 * i) 0) (get_or text (2 * i + 1) 0) ≡ None
    → with_front (take i bytes) (bytes_of (drop (2 * i) text)) ≡ None
unfolding bytes_of
bytes_stop text bytes i h e =
    ap (λ (t : List ℕ). with_front (take i bytes) (bytes_of t)) (two_more text i h) ∙ rw e refl

-- no byte is left
pub bytes_end : (text bytes : List ℕ) (i : ℕ) → length text ≤ 2 * i → with_front (take i bytes) (bytes_of (drop (2 * i) text)) ≡ Some (take i bytes)
unfolding bytes_of
bytes_end text bytes i h =
    ap (λ (t : List ℕ). with_front (take i bytes) (bytes_of t)) (drop_all (2 * i) text h) ∙ ap (λ (l : List ℕ). Some l) (append-nil (take i bytes))
