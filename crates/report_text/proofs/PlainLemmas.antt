-- the lines of a report have no line feeds
use Rattle.std.proofs.Common.{◌≡◌, ◌+◌, ◌-◌, ◌/◌, ◌%◌, ℕ, zero, suc, List, [], ◌∷◌, ◌++◌, length, Bool, true, false, cond, refl, arith}
use Rattle.std.specs.Prelude.{◌==◌, nat_lt, Option, Some, None, decimal, codes, slice_get}
use Rattle.std.specs.Fmt.{digits, digits_onto, digit_glyph}
use Rattle.std.specs.Option.{option_map_or}
use Rattle.report_text.specs.Words.{Device, spelled, address_of, Stay, NetRows, instance_of_rows, live_of_rows, names_of_rows}
use Rattle.report_text.specs.Report.{number_text, name_text, stay_start, shared_text, row_text}
use Rattle.report_text.specs.Reading.{known_word, known_number, top_text, stay_text, cell_front, cells, form, lines_of}
use Rattle.report_text.proofs.TextLemmas.{HasNoFeed, AreLines, plain_append, plain_of, lines_append}

plain_glyph : (n : ℕ) → digit_glyph false n ≡ 10 → ⊥
plain_glyph n e = by (nat_lt n 10) e
  where
    by : (b : Bool) → cond b (48 + n) (87 + n) ≡ 10 → ⊥
    by true h = absurd (omega arith)
    by false h = absurd (omega arith)

plain_onto : (k n : ℕ) (acc : List ℕ) → HasNoFeed acc → HasNoFeed (digits_onto k 10 false n acc)
plain_onto zero n acc h = h
plain_onto (suc k) n acc h = by (n / 10 == 0) (plain_onto k (n / 10) (digit_glyph false (n % 10) ∷ acc) (plain_glyph (n % 10), h))
  where
    by : (b : Bool) → HasNoFeed (digits_onto k 10 false (n / 10) (digit_glyph false (n % 10) ∷ acc))
        → HasNoFeed (cond b (digit_glyph false (n % 10) ∷ acc) (digits_onto k 10 false (n / 10) (digit_glyph false (n % 10) ∷ acc)))
    by true rest = (plain_glyph (n % 10), h)
    by false rest = rest

-- numbers have no line feeds
plain_decimal : (n : ℕ) → HasNoFeed (decimal n)
unfolding digits
plain_decimal n = plain_onto 64 n [] tt

plain_number : (n : ℕ) → HasNoFeed (number_text n)
plain_number n = (λ is. omega arith, plain_decimal n)

plain_name : (net : NetRows) (s : ℕ) → HasNoFeed (name_text net s)
unfolding name_text
plain_name net s = by (slice_get (names_of_rows net) s)
  where
    by : (o : Option Stay) → HasNoFeed (option_map_or (λ (stay : Stay). number_text stay.ccb ++ number_text stay.attempt) o [])
    by (Some stay) = plain_append (number_text stay.ccb) (number_text stay.attempt) (plain_number stay.ccb) (plain_number stay.attempt)
    by None = tt

plain_shared : (adapters n : ℕ) → HasNoFeed (shared_text adapters n)
plain_shared adapters n = by (nat_lt n adapters)
  where
    by : (b : Bool) → HasNoFeed (cond b (codes "price sim" ++ number_text n) (codes "price link" ++ number_text (n - adapters)))
    by true = plain_append (codes "price sim") (number_text n) (plain_of (codes "price sim") refl) (plain_number n)
    by false = plain_append (codes "price link") (number_text (n - adapters)) (plain_of (codes "price link") refl) (plain_number (n - adapters))

plain_row : (devices : List Device) (adapters row : ℕ) → HasNoFeed (row_text devices adapters row)
unfolding row_text spelled
plain_row devices adapters row = by (slice_get devices row)
  where
    colon : HasNoFeed (codes ":")
    colon = plain_of (codes ":") refl

    path : (device : Device) → HasNoFeed (decimal device.bus ++ (codes ":" ++ (decimal device.target ++ (codes ":" ++ decimal device.lun))))
    path device = plain_append (decimal device.bus) _ (plain_decimal device.bus) (plain_append (codes ":") _ colon (plain_append (decimal device.target) _ (plain_decimal device.target) (plain_append (codes ":") (decimal device.lun) colon (plain_decimal device.lun))))

    by : (o : Option Device) → HasNoFeed (option_map_or (λ (device : Device). codes "price dev " ++ spelled (address_of device)) o (shared_text adapters (row - length devices)))
    by (Some device) = plain_append (codes "price dev ") _ (plain_of (codes "price dev ") refl) (path device)
    by None = plain_shared adapters (row - length devices)

plain_word : (k : ℕ) → HasNoFeed (known_word k)
plain_word zero = plain_of (codes "camaudit ") refl
plain_word (suc zero) = plain_of (codes "commands ") refl
plain_word (suc (suc zero)) = plain_of (codes "stays ") refl
plain_word (suc (suc (suc zero))) = plain_of (codes "rounds ") refl
plain_word (suc (suc (suc (suc k)))) = plain_of (codes "live ") refl

plain_top : (net : NetRows) (k v : ℕ) → HasNoFeed (top_text net k v)
unfolding top_text
plain_top net k v = by (nat_lt k 5) (k == 5)
  where
    by : (a b : Bool) → HasNoFeed (cond a (known_word k ++ decimal (known_number net k)) (cond b (codes "best ") (codes "excess ") ++ decimal v))
    by true b = plain_append (known_word k) _ (plain_word k) (plain_decimal (known_number net k))
    by false true = plain_append (codes "best ") (decimal v) (plain_of (codes "best ") refl) (plain_decimal v)
    by false false = plain_append (codes "excess ") (decimal v) (plain_of (codes "excess ") refl) (plain_decimal v)

plain_stay : (net : NetRows) (s v : ℕ) → HasNoFeed (stay_text net s v)
unfolding stay_text
plain_stay net s v =
    let name = name_text net s in
    let arrival = number_text ((instance_of_rows net).arrival s) in
    let live = number_text (live_of_rows net s) in
    let weight = number_text ((instance_of_rows net).weight s) in
    let space = plain_of (codes " ") refl in
    plain_append (stay_start net s ++ codes " ") (decimal v ++ weight)
    (plain_append (stay_start net s) (codes " ") (plain_append (codes "stay") (name ++ (arrival ++ live)) (plain_of (codes "stay") refl)
    (plain_append name (arrival ++ live) (plain_name net s) (plain_append arrival live (plain_number _) (plain_number _)))) space)
    (plain_append (decimal v) weight (plain_decimal v) (plain_number _))

plain_cell : (net : NetRows) (c v : ℕ) → HasNoFeed (cell_front net c ++ decimal v)
unfolding cell_front
plain_cell net c v =
    let n = instance_of_rows net in
    let whose = row_text net.config.devices n.adapters (c / n.rounds) in
    let r = number_text (c % n.rounds + 1) in
    plain_append (whose ++ (r ++ codes " ")) (decimal v) (plain_append whose (r ++ codes " ") (plain_row net.config.devices n.adapters (c / n.rounds)) (plain_append r (codes " ") (plain_number _) (plain_of (codes " ") refl))) (plain_decimal v)

plain_form : (net : NetRows) (k v : ℕ) → AreLines (form net k v)
unfolding form
plain_form net k v = top (nat_lt k 7)
  where
    last : (b : Bool) → AreLines (cond b (cond (v == 0) [] ((cell_front net (k - (7 + (instance_of_rows net).stays)) ++ decimal v) ∷ [])) (codes "end" ∷ []))
    last true = cell (v == 0)
      where
        cell : (b : Bool) → AreLines (cond b [] ((cell_front net (k - (7 + (instance_of_rows net).stays)) ++ decimal v) ∷ []))
        cell true = tt
        cell false = (plain_cell net _ v, tt)
    last false = (plain_of (codes "end") refl, tt)

    stays : (b : Bool) → AreLines (cond b (stay_text net (k - 7) v ∷ []) (cond (nat_lt k (7 + (instance_of_rows net).stays + cells net)) (cond (v == 0) [] ((cell_front net (k - (7 + (instance_of_rows net).stays)) ++ decimal v) ∷ [])) (codes "end" ∷ [])))
    stays true = (plain_stay net (k - 7) v, tt)
    stays false = last (nat_lt k (7 + (instance_of_rows net).stays + cells net))

    top : (b : Bool) → AreLines (cond b (top_text net k v ∷ []) (cond (nat_lt k (7 + (instance_of_rows net).stays)) (stay_text net (k - 7) v ∷ []) (cond (nat_lt k (7 + (instance_of_rows net).stays + cells net)) (cond (v == 0) [] ((cell_front net (k - (7 + (instance_of_rows net).stays)) ++ decimal v) ∷ [])) (codes "end" ∷ []))))
    top true = (plain_top net k v, tt)
    top false = stays (nat_lt k (7 + (instance_of_rows net).stays))

pub plain_lines : (net : NetRows) (k : ℕ) (vs : List ℕ) → AreLines (lines_of net k vs)
unfolding lines_of
plain_lines net k [] = tt
plain_lines net k (v ∷ vs) = lines_append (form net k v) (lines_of net (suc k) vs) (plain_form net k v) (plain_lines net (suc k) vs)
