-- The test for UTF-8 agrees with `IsUtf8`.
use Rattle.std.proofs.Common.{◌≡◌, ℕ, Bool, true, false, List, refl, IsUtf8, chars}
use Rattle.std.proofs.lemmas.Bool.{and_parts}
use Rattle.std.proofs.lemmas.Str.{encodes-chars, scalars-chars}
use Rattle.std.proofs.lemmas.Slice.Eq.{bytes_eq-Decides}
use Rattle.recording_file.specs.Names.{is_utf8}

pub utf8_true : (text : List ℕ) → IsUtf8 text → is_utf8 text ≡ true
unfolding is_utf8
utf8_true text h = rw (scalars-chars text h) ((bytes_eq-Decides _ _).1 (encodes-chars text h))

from_test : (text : List ℕ) → is_utf8 text ≡ true → IsUtf8 text
unfolding is_utf8
from_test text h = let p = and_parts _ _ h in (chars text, (p.0, (bytes_eq-Decides _ _).0 p.1))

pub utf8_false : (text : List ℕ) → ¬ (IsUtf8 text) → is_utf8 text ≡ false
utf8_false text h = by (is_utf8 text) (λ e. h (from_test text e))
  where
    by : (b : Bool) → (b ≡ true → ⊥) → b ≡ false
    by true k = absurd (k refl)
    by false k = refl
