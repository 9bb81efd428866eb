-- cells whose lines begin alike are one
use Rattle.std.proofs.Common.{◌≡◌, ◌<◌, ◌≤◌, ◌+◌, ◌-◌, ◌*◌, ◌/◌, ◌%◌, ◌^◌, ℕ, List, [], ◌∷◌, ◌++◌, length, get_or, Bool, true, false, cond, refl, sym, ap, ◌∙◌, arith, append_assoc, inl, inr, nat_lt, Option, Some, None, decimal, codes, slice_get, ltb-false, length-append}
use Rattle.std.specs.Option.{option_map_or}
use Rattle.std.proofs.lemmas.List.{append_cancel_left}
use Rattle.std.proofs.lemmas.Fmt.{decimal_injective}
use Rattle.std.proofs.lemmas.Option.{slice_get_cases}
use Rattle.std.proofs.Math.Nat.{div-add-mod, div-lt_iff_lt-mul, mod-lt}
use Rattle.report_text.specs.Words.{Device, MAX_NET_ROUNDS, spelled, address_of, rows, NetRows, instance_of_rows, live_of_rows, IsSound}
use Rattle.report_text.specs.Report.{number_text, shared_text, row_text}
use Rattle.report_text.specs.Reading.{price_front, cell_front, cells}
use Rattle.report_text.proofs.ApartLaws.{IsWord, same_word, word_decimal, word_spelled, spelled_injective, AreNamed}

-- whose a row is, by what stands at its number among the devices
abbrev whose_of : List Device → ℕ → ℕ → Option Device → List ℕ
whose_of devices adapters row o = option_map_or (λ (device : Device). codes "price dev " ++ spelled (address_of device)) o (shared_text adapters (row - length devices))

abbrev shared_of : ℕ → ℕ → Bool → List ℕ
shared_of adapters n is_adapter = cond is_adapter (codes "price sim" ++ number_text n) (codes "price link" ++ number_text (n - adapters))

at_byte : (k : ℕ) (xs ys : List ℕ) → xs ≡ ys → get_or xs k 0 ≡ get_or ys k 0
at_byte k xs ys e = ap (λ (l : List ℕ). get_or l k 0) e

row_text-first : (devices : List Device) (adapters row : ℕ) → (get_or (row_text devices adapters row) 0 0 ≡ 112) × (0 < length (row_text devices adapters row))
unfolding row_text
row_text-first devices adapters row = by (slice_get devices row)
  where
    shared : (b : Bool) (n : ℕ) → (get_or (shared_of adapters n b) 0 0 ≡ 112) × (0 < length (shared_of adapters n b))
    shared true n = (refl, omega arith)
    shared false n = (refl, omega arith)

    by : (o : Option Device) → (get_or (whose_of devices adapters row o) 0 0 ≡ 112) × (0 < length (whose_of devices adapters row o))
    by (Some device) = (refl, omega arith)
    by None = shared (nat_lt (row - length devices) adapters) (row - length devices)

regrouped : (p a s r x : List ℕ) → ((p ++ a) ++ ((s ++ r) ++ s)) ++ x ≡ p ++ (a ++ (s ++ (r ++ (s ++ x))))
regrouped p a s r x = simp append_assoc

same_words : (p a b r r' x y : List ℕ) → IsWord a → IsWord b → IsWord r → IsWord r' → ((p ++ a) ++ ((codes " " ++ r) ++ codes " ")) ++ x ≡ ((p ++ b) ++ ((codes " " ++ r') ++ codes " ")) ++ y → (a ≡ b) × (r ≡ r')
same_words p a b r r' x y wa wb wr wr' e =
    let whole : p ++ (a ++ (codes " " ++ (r ++ (codes " " ++ x)))) ≡ p ++ (b ++ (codes " " ++ (r' ++ (codes " " ++ y)))) = sym (regrouped p a (codes " ") r x) ∙ e ∙ regrouped p b (codes " ") r' y in
    let one = same_word a b (r ++ (codes " " ++ x)) (r' ++ (codes " " ++ y)) wa wb (append_cancel_left p _ _ whole) in
    let other = same_word r r' x y wr wr' one.1 in
    (one.0, other.0)

past_devices : (devices : List Device) (row : ℕ) → slice_get devices row ≡ None → length devices ≤ row
past_devices devices row none = elim (slice_get_cases devices row).1 [
  | inl here ↦ let some = here.2 in absurd cc
  | inr past ↦ omega (arith, past.0)
]

-- after all devices: adapters differ from links, and each differs from the others of its kind
same_shared : (adapters a b r r' : ℕ) (x y : List ℕ) → a < 2 ^ 64 → b < 2 ^ 64 → r < 2 ^ 64 → r' < 2 ^ 64 → price_front (shared_text adapters a) r ++ x ≡ price_front (shared_text adapters b) r' ++ y → (a ≡ b) × (r ≡ r')
same_shared adapters a b r r' x y fits fits' few few' e = by (nat_lt a adapters) (nat_lt b adapters) refl refl e
  where
    numbers : (p : List ℕ) (m n : ℕ) → m < 2 ^ 64 → n < 2 ^ 64 → ((p ++ decimal m) ++ ((codes " " ++ decimal r) ++ codes " ")) ++ x ≡ ((p ++ decimal n) ++ ((codes " " ++ decimal r') ++ codes " ")) ++ y → (m ≡ n) × (r ≡ r')
    numbers p m n small small' e' =
        let words = same_words p (decimal m) (decimal n) (decimal r) (decimal r') x y (word_decimal m small) (word_decimal n small') (word_decimal r few) (word_decimal r' few') e' in
        (decimal_injective m n small small' words.0, decimal_injective r r' few few' words.1)

    by : (b1 b2 : Bool) → nat_lt a adapters ≡ b1 → nat_lt b adapters ≡ b2 → price_front (shared_of adapters a b1) r ++ x ≡ price_front (shared_of adapters b b2) r' ++ y → (a ≡ b) × (r ≡ r')
    by true true is is' e' = numbers (codes "price sim ") a b fits fits' e'
    by true false is is' e' = let wrong : ◌≡◌ {A = ℕ} 115 108 = at_byte 6 _ _ e' in absurd (omega arith)
    by false true is is' e' = let wrong : ◌≡◌ {A = ℕ} 108 115 = at_byte 6 _ _ e' in absurd (omega arith)
    by false false is is' e' =
        let past = ltb-false a adapters is in
        let past' = ltb-false b adapters is' in
        let same = numbers (codes "price link ") (a - adapters) (b - adapters) (omega arith) (omega arith) e' in
        let equal = same.0 in
        (omega arith, same.1)

device_or_shared : (adapters n r r' : ℕ) (device : Device) (x y : List ℕ) → price_front (codes "price dev " ++ spelled (address_of device)) r ++ x ≡ price_front (shared_text adapters n) r' ++ y → ⊥
device_or_shared adapters n r r' device x y e = by (nat_lt n adapters) e
  where
    by : (b : Bool) → price_front (codes "price dev " ++ spelled (address_of device)) r ++ x ≡ price_front (shared_of adapters n b) r' ++ y → ⊥
    by true e' = let wrong : ◌≡◌ {A = ℕ} 100 115 = at_byte 6 _ _ e' in absurd (omega arith)
    by false e' = let wrong : ◌≡◌ {A = ℕ} 100 108 = at_byte 6 _ _ e' in absurd (omega arith)

same_row : (devices : List Device) (adapters row row' r r' : ℕ) (x y : List ℕ) → AreNamed devices → row < 2 ^ 64 → row' < 2 ^ 64 → r < 2 ^ 64 → r' < 2 ^ 64
    → price_front (row_text devices adapters row) r ++ x ≡ price_front (row_text devices adapters row') r' ++ y → (row ≡ row') × (r ≡ r')
unfolding row_text
same_row devices adapters row row' r r' x y named fits fits' few few' e = by (slice_get devices row) (slice_get devices row') refl refl e
  where
    by : (o o' : Option Device) → slice_get devices row ≡ o → slice_get devices row' ≡ o' → price_front (whose_of devices adapters row o) r ++ x ≡ price_front (whose_of devices adapters row' o') r' ++ y → (row ≡ row') × (r ≡ r')
    by (Some one) (Some other) is is' e =
        let fits = named.fits row one is in
        let fits' = named.fits row' other is' in
        let words = same_words (codes "price dev ") (spelled (address_of one)) (spelled (address_of other)) (decimal r) (decimal r') x y
        (word_spelled (address_of one) fits) (word_spelled (address_of other) fits') (word_decimal r few) (word_decimal r' few') e in
        (named.apart row row' one other is is' (spelled_injective (address_of one) (address_of other) fits fits' words.0), decimal_injective r r' few few' words.1)
    by (Some one) None is is' e = absurd (device_or_shared adapters (row' - length devices) r r' one x y e)
    by None (Some other) is is' e = absurd (device_or_shared adapters (row - length devices) r' r other y x (sym e))
    by None None is is' e =
        let a = row - length devices in
        let b = row' - length devices in
        let fits : a < 2 ^ 64 = omega arith in
        let fits' : b < 2 ^ 64 = omega arith in
        let past = past_devices devices row is in
        let past' = past_devices devices row' is' in
        let both = same_shared adapters a b r r' x y fits fits' few few' e in
        let same : a ≡ b = both.0 in
        (omega arith, both.1)

same_cell : (rounds j k : ℕ) → j / rounds ≡ k / rounds → j % rounds + 1 ≡ k % rounds + 1 → j ≡ k
same_cell rounds j k row round =
    let one = div-add-mod j rounds in
    let other = div-add-mod k rounds in
    let product : rounds * (j / rounds) ≡ rounds * (k / rounds) = ap (λ (q : ℕ). rounds * q) row in
    omega arith

few_round : (rounds k : ℕ) → 1 ≤ rounds → rounds ≤ MAX_NET_ROUNDS → k % rounds + 1 < 2 ^ 64
few_round rounds k some few = let lt : k % rounds < rounds = mod-lt k some in omega arith

pub cells_apart : (net : NetRows) (j k : ℕ) (x y : List ℕ) → AreNamed net.config.devices → IsSound (instance_of_rows net) (live_of_rows net) → j < cells net → k < cells net → cell_front net j ++ x ≡ cell_front net k ++ y → j ≡ k
unfolding cell_front
cells_apart net j k x y named sound jlt klt e =
    let n = instance_of_rows net in
    let some = sound.some_rounds in
    let few = sound.few_rounds in
    let few_devices = sound.few_devices in
    let few_adapters = sound.few_adapters in
    let few_links = sound.few_links in
    let row : j / n.rounds < rows n = (div-lt_iff_lt-mul some).1 jlt in
    let row' : k / n.rounds < rows n = (div-lt_iff_lt-mul some).1 klt in
    let same = same_row net.config.devices n.adapters (j / n.rounds) (k / n.rounds) (j % n.rounds + 1) (k % n.rounds + 1) x y named (omega arith) (omega arith) (few_round n.rounds j some few) (few_round n.rounds k some few) e in
    same_cell n.rounds j k same.0 same.1

-- the last line is none of a cell's
pub not_last : (net : NetRows) (j : ℕ) (x : List ℕ) → cell_front net j ++ x ≡ codes "end" → ⊥
unfolding cell_front
not_last net j x e =
    let n = instance_of_rows net in
    let first = row_text-first net.config.devices n.adapters (j / n.rounds) in
    by (row_text net.config.devices n.adapters (j / n.rounds)) first.0 first.1 e
  where
    by : (whose : List ℕ) → get_or whose 0 0 ≡ 112 → 0 < length whose → price_front whose (j % (instance_of_rows net).rounds + 1) ++ x ≡ codes "end" → ⊥
    by [] first some e = absurd (omega arith)
    by (c ∷ cs) first some e = let wrong : ◌≡◌ {A = ℕ} c 101 = at_byte 0 _ _ e in absurd (omega (arith, first))

-- the front of a cell's line isn't empty
pub some_front : (net : NetRows) (j : ℕ) (x : List ℕ) → 0 < length (cell_front net j ++ x)
unfolding cell_front
some_front net j x =
    let n = instance_of_rows net in
    let first = row_text-first net.config.devices n.adapters (j / n.rounds) in
    let one = length-append (row_text net.config.devices n.adapters (j / n.rounds)) (number_text (j % n.rounds + 1) ++ codes " ") in
    let all = length-append (price_front (row_text net.config.devices n.adapters (j / n.rounds)) (j % n.rounds + 1)) x in
    let some = first.1 in
    omega arith
