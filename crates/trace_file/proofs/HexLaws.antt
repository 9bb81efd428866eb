-- Bytes that are read are spelled so, and what is spelled so is read.
use Rattle.std.proofs.Common.{◌≡◌, ◌<◌, ◌≤◌, ◌+◌, ◌*◌, ◌/◌, ◌%◌, ℕ, List, [], ◌∷◌, length, Bool, true, false, cond, refl, ap, ◌∙◌, arith, Option, Some, None, option_map, option_and_then, Ok, ok_or, nat_le, leb-true, le-leb}
use Rattle.std.specs.Char.{digit_char}
use Rattle.std.specs.List.{AllByRecursion}
use Rattle.std.proofs.lemmas.Option.{same_Some}
use Rattle.std.proofs.lemmas.Bool.Decides.{nat_tests}
use Rattle.trace_file.specs.Records.{hex}
use Rattle.trace_file.specs.Fields.{byte_at, sense_at, byte_of, bytes_of, sense_of, hex_byte, hex_value}
use Rattle.record_text.specs.Text.{Row}
use Rattle.record_text.specs.Fields.{field_of}
use Rattle.record_text.proofs.StepLemmas.{ok_or_ok}

-- a digit's value spells the digit
abbrev SpellsDigit : ℕ → ℕ → Type 0
SpellsDigit digit v = (digit ≡ digit_char v) × (v < 16)

digit_takes : (digit v : ℕ) → hex_value digit ≡ Some v → SpellsDigit digit v
unfolding hex_value
digit_takes digit v e = (grind (arith, nat_tests), grind (arith, nat_tests))

digit_again : (v : ℕ) → v < 16 → hex_value (digit_char v) ≡ Some v
unfolding hex_value
digit_again v h = grind (arith, nat_tests)

-- ---- a byte

pub on_some : {A B Q : Type 0} (o : Option A) (f : A → Option B) (y : B) → option_and_then f o ≡ Some y → ((x : A) → o ≡ Some x → f x ≡ Some y → Q) → Q
on_some None f y e k = absurd cc
on_some (Some x) f y e k = k x refl e

abbrev SpellsByte : ℕ → ℕ → ℕ → Type 0
SpellsByte high low b = (high ≡ digit_char (b / 16)) × (low ≡ digit_char (b % 16)) × (b < 256)

spells_byte : (high low h l b : ℕ) → SpellsDigit high h → SpellsDigit low l → 16 * h + l ≡ b → SpellsByte high low b
spells_byte high low h l b p q e =
    let x : b / 16 ≡ h = omega arith in
    let y : b % 16 ≡ l = omega arith in
    (rw x p.0, rw y q.0, omega arith)

byte_takes : (high low b : ℕ) → hex_byte high low ≡ Some b → SpellsByte high low b
unfolding hex_byte
byte_takes high low b e =
    on_some (hex_value high) (λ h. option_map (λ l. 16 * h + l) (hex_value low)) b e (λ h eh r.
    on_some (hex_value low) (λ l. Some (16 * h + l)) b r (λ l el s. spells_byte high low h l b (digit_takes high h eh) (digit_takes low l el) (same_Some _ _ s)))

byte_again : (b : ℕ) → b < 256 → hex_byte (digit_char (b / 16)) (digit_char (b % 16)) ≡ Some b
unfolding hex_byte
byte_again b h =
    let whole : 16 * (b / 16) + b % 16 ≡ b = omega arith in
    rw (digit_again (b / 16) (omega arith), digit_again (b % 16) (omega arith)) (ap (λ (n : ℕ). Some n) whole)

-- ---- bytes

abbrev pub AreBytes : List ℕ → Type 0
AreBytes bs = AllByRecursion (λ b. b < 256) bs

abbrev SpellsBytes : List ℕ → List ℕ → Type 0
SpellsBytes text bs = (text ≡ hex bs) × AreBytes bs × (length text ≡ 2 * length bs)

join : (c d b : ℕ) (rest l bs : List ℕ) → SpellsByte c d b → SpellsBytes rest l → b ∷ l ≡ bs → SpellsBytes (c ∷ d ∷ rest) bs
join c d b rest l bs p q e =
    let size = q.2 in
    rw (← e) (rw (p.0, p.1, q.0) refl, (p.2, q.1), omega arith)

pub bytes_take : (text bs : List ℕ) → bytes_of text ≡ Some bs → SpellsBytes text bs
unfolding bytes_of
bytes_take [] bs e = rw (← same_Some _ _ e) (refl, tt, refl)
bytes_take (c ∷ []) bs e = absurd cc
bytes_take (c ∷ d ∷ rest) bs e =
    on_some (hex_byte c d) (λ b. option_map (λ l. b ∷ l) (bytes_of rest)) bs e (λ b eb r.
    on_some (bytes_of rest) (λ l. Some (b ∷ l)) bs r (λ l el k. join c d b rest l bs (byte_takes c d b eb) (bytes_take rest l el) (same_Some _ _ k)))

pub bytes_again : (bs : List ℕ) → AreBytes bs → bytes_of (hex bs) ≡ Some bs
unfolding bytes_of
bytes_again [] h = refl
bytes_again (b ∷ bs) h = rw (byte_again b h.0, bytes_again bs h.1) refl

pub length-hex : (bs : List ℕ) → length (hex bs) ≡ 2 * length bs
length-hex [] = refl
length-hex (b ∷ bs) = let e = length-hex bs in omega arith

-- ---- fields

one_byte : (field : List ℕ) (b : ℕ) → byte_of field ≡ Some b → (field ≡ hex (b ∷ [])) × (b < 256)
unfolding byte_of
one_byte (c ∷ d ∷ []) b e = let p = byte_takes c d b e in (rw (p.0, p.1) refl, p.2)
one_byte _ b e = absurd cc

pub byte_at_takes : (row : Row) (at b : ℕ) → byte_at row at ≡ Ok b → (field_of row at ≡ hex (b ∷ [])) × (b < 256)
unfolding byte_at
byte_at_takes row at b e = one_byte (field_of row at) b (ok_or_ok _ _ b e)

pub byte_at_again : (row : Row) (at b : ℕ) → b < 256 → field_of row at ≡ hex (b ∷ []) → byte_at row at ≡ Ok b
unfolding byte_at byte_of
byte_at_again row at b h e =
    ap (λ (f : List ℕ). ok_or (byte_of f) (at + 1)) e ∙ ap (λ (o : Option ℕ). ok_or o (at + 1)) (byte_again b h)

pub guard_some : {X : Type 0} (b : Bool) (o : Option X) (x : X) → cond b o None ≡ Some x → (b ≡ true) × (o ≡ Some x)
guard_some true o x e = (refl, e)
guard_some false o x e = absurd cc

sense_takes : (field bs : List ℕ) → sense_of field ≡ Some bs → (field ≡ hex bs) × AreBytes bs × (length bs ≤ 18)
unfolding sense_of
sense_takes field bs e =
    let g = guard_some (nat_le (length field) 36) (bytes_of field) bs e in
    let short = leb-true _ _ g.0 in
    let p = bytes_take field bs g.1 in
    (p.0, p.1, omega (arith, p.2))

sense_again : (bs : List ℕ) → AreBytes bs → length bs ≤ 18 → sense_of (hex bs) ≡ Some bs
unfolding sense_of
sense_again bs h few =
    let size = length-hex bs in
    rw (le-leb (length (hex bs)) 36 (omega arith)) (bytes_again bs h)

pub sense_at_takes : (row : Row) (at : ℕ) (bs : List ℕ) → sense_at row at ≡ Ok bs → (field_of row at ≡ hex bs) × AreBytes bs × (length bs ≤ 18)
unfolding sense_at
sense_at_takes row at bs e = sense_takes (field_of row at) bs (ok_or_ok (sense_of (field_of row at)) (at + 1) bs e)

pub sense_at_again : (row : Row) (at : ℕ) (bs : List ℕ) → AreBytes bs → length bs ≤ 18 → field_of row at ≡ hex bs → sense_at row at ≡ Ok bs
unfolding sense_at
sense_at_again row at bs h few e =
    ap (λ (f : List ℕ). ok_or (sense_of f) (at + 1)) e ∙ ap (λ (o : Option (List ℕ)). ok_or o (at + 1)) (sense_again bs h few)
