-- Rows that are parsed as they were written, and are short.
use Rattle.std.proofs.Common.{◌≡◌, ◌≤◌, ◌+◌, ◌*◌, ℕ, List, [], ◌∷◌, ◌++◌, length, map, refl, ap, ◌∙◌, arith, length-append, Option, Some, None, IfSome, decimal, codes, add-mul}
use Rattle.std.specs.List.{AllByRecursion, flat_map}
use Rattle.std.proofs.lemmas.List.Concat.{flat_map-append}
use Rattle.csv.specs.Machine.{next_record}
use Rattle.csv.specs.Reading.{default_config, records}
use Rattle.csv.specs.Writing.{default_writer, escaped, read_back, row_text}
use Rattle.csv.specs.declared.parser.State.TheVariants as st
use Rattle.csv.proofs.RoundTrip.{read-write}
use Rattle.cam_types.specs.Topology.{adapter_fault, device_fault, link_fault}
use Rattle.cam_types.specs.Weights.{weight_fault}
use Rattle.cam_types.specs.declared.adapter.Adapter.{Adapter}
use Rattle.cam_types.specs.declared.device.Device.{Device}
use Rattle.cam_types.specs.declared.weight_row.WeightRow.{WeightRow}
use Rattle.cam_types.specs.declared.limits.TheConstants.{MAX_ADAPTERS, MAX_LINKS}
use Rattle.record_text.specs.ConfigRows.{adapter_row, device_row, link_row, optional_text, weight_row}
use Rattle.record_text.specs.Fields.{max_number}
use Rattle.record_text.specs.Header.{header_row}
use Rattle.record_text.specs.Text.{Row}
use Rattle.record_text.specs.Writing.{text_of}
use Rattle.record_text.proofs.ConfigLemmas.{adapter_link, adapter_small, device_small, link_number, link_small, weight_numbers}
use Rattle.record_text.proofs.ListLemmas.{Along}
use Rattle.record_text.proofs.RecordLemmas.{first_left, none_left}
use Rattle.record_text.proofs.RowSizes.{FitsIn, IsShort, eight, nothing_in, ten}

pub records_again : (rows : List Row) → AllByRecursion (λ (row : Row). read_back row ≡ row) rows → records default_config (text_of rows) ≡ rows
unfolding text_of next_record
records_again [] h = none_left st.StartRecord [] refl
records_again (row ∷ rows) h =
    let text = row_text default_writer row ++ text_of rows in
    first_left st.StartRecord text (read_back row, st.StartRecord, text_of rows) refl (read-write row (text_of rows))
    ∙ ap (λ (r : Row). r ∷ records default_config (text_of rows)) h.0
    ∙ ap (λ (rs : List Row). row ∷ rs) (records_again rows h.1)

-- a record that is written whole, in so many bytes
abbrev pub IsGood : ℕ → Row → Type 0
IsGood most row = (read_back row ≡ row) × IsShort most row

pub record AreGood (most : ℕ) (rows : List Row) : Type 0 where
  pub whole : AllByRecursion (λ (row : Row). read_back row ≡ row) rows
  pub short : length (text_of rows) ≤ most

pub none_good : AreGood 0 []
unfolding text_of
none_good = record { whole = tt; short = omega arith }

-- there may be more bytes
pub weaker : (m n : ℕ) (rows : List Row) → m ≤ n → AreGood m rows → AreGood n rows
weaker m n rows le h = let s = h.short in record { whole = h.whole; short = omega arith }

pub and_more : (m n : ℕ) (row : Row) (rows : List Row) → IsGood m row → AreGood n rows → AreGood (m + n) (row ∷ rows)
unfolding text_of
and_more m n row rows one more =
    let both = length-append (row_text default_writer row) (flat_map (row_text default_writer) rows) in
    let a = one.1 in
    let b = more.short in
    record { whole = (one.0, more.whole); short = omega arith }

all_whole : (xs ys : List Row) → AllByRecursion (λ (row : Row). read_back row ≡ row) xs → AllByRecursion (λ (row : Row). read_back row ≡ row) ys → AllByRecursion (λ (row : Row). read_back row ≡ row) (xs ++ ys)
all_whole [] ys p q = q
all_whole (x ∷ xs) ys p q = (p.0, all_whole xs ys p.1 q)

pub both_good : (m n : ℕ) (xs ys : List Row) → AreGood m xs → AreGood n ys → AreGood (m + n) (xs ++ ys)
unfolding text_of
both_good m n xs ys one other =
    let joined = ap (length {A = ℕ}) (flat_map-append (row_text default_writer) xs ys) in
    let both = length-append (text_of xs) (text_of ys) in
    let a = one.short in
    let b = other.short in
    record { whole = all_whole xs ys one.whole other.whole; short = omega arith }

-- a record for each of some items
pub each_good : {X : Type 0} (P : List X → X → Type 0) (row : X → Row) (most : ℕ) (before xs : List X) → ((b : List X) (x : X) → P b x → IsGood most (row x)) → Along P before xs → AreGood (length xs * most) (map row xs)
each_good P row most before [] f h = weaker 0 _ [] (omega arith) none_good
each_good P row most before (x ∷ xs) f h =
    let more = each_good P row most (before ++ x ∷ []) xs f h.1 in
    let all = and_more most (length xs * most) (row x) (map row xs) (f before x h.0) more in
    let s = all.short in
    let e = add-mul (length xs) 1 most in
    record { whole = all.whole; short = omega arith }

-- ---- the rows of a configuration, and others of one or two numbers

pub optional_in : (o : Option ℕ) → IfSome o (λ n. n ≤ max_number) → FitsIn 10 (optional_text o)
optional_in None h = let none = nothing_in in omega arith
optional_in (Some n) h = ten n h

pub good_header_of : (name : List ℕ) → FitsIn 10 name → read_back (header_row name) ≡ header_row name → IsGood 43 (header_row name)
unfolding header_row escaped
good_header_of name fits whole =
    (whole, eight name (codes "a") (codes "b") (codes "c") (codes "d") (codes "e") (codes "f") (codes "g") 10 1 1 1 1 1 1 1 fits (omega arith) (omega arith) (omega arith) (omega arith) (omega arith) (omega arith) (omega arith))

pub one_good : (word : List ℕ) (n : ℕ) → FitsIn 8 word → n ≤ max_number → IsShort 44 (word ∷ decimal n ∷ [] ∷ [] ∷ [] ∷ [] ∷ [] ∷ [] ∷ [])
one_good word n w h =
    let z = nothing_in in
    eight word (decimal n) [] [] [] [] [] [] 8 10 0 0 0 0 0 0 w (ten n h) z z z z z z

pub two_good : (word : List ℕ) (n : ℕ) (field : List ℕ) → FitsIn 8 word → n ≤ max_number → FitsIn 10 field → IsShort 54 (word ∷ decimal n ∷ field ∷ [] ∷ [] ∷ [] ∷ [] ∷ [] ∷ [])
two_good word n field w h k =
    let z = nothing_in in
    eight word (decimal n) field [] [] [] [] [] 8 10 10 0 0 0 0 0 w (ten n h) k z z z z z

pub good_weight : (before : List WeightRow) (w : WeightRow) → weight_fault (before, w) ≡ None → IsGood 54 (weight_row w)
unfolding escaped
good_weight before w e = let s = weight_numbers before w e in (refl, two_good (codes "weight") w.last (decimal w.weight) (omega arith) (omega arith) (ten w.weight (omega arith)))

pub good_link : (before : List ℕ) (k : ℕ) → link_fault (before, k) ≡ None → IsGood 44 (link_row k)
unfolding escaped
good_link before k e = let s = link_small before k e in (refl, one_good (codes "link") k (omega arith) (omega arith))

pub good_adapter : (links : ℕ) → links ≤ MAX_LINKS → (before : List Adapter) (a : Adapter) → adapter_fault links (before, a) ≡ None → IsGood 54 (adapter_row a)
unfolding escaped
good_adapter links few before a e =
    let s = adapter_small links before a e in
    (refl, two_good (codes "sim") a.openings (optional_text a.link) (omega arith) (omega arith) (optional_in a.link (link_number links a.link few (adapter_link links before a e))))

abbrev pub GoodDevice : List Adapter → List Device → Device → Type 0
GoodDevice as' before d = (device_fault (length as') (before, d) ≡ None) × (d.target ≤ 65535)

pub good_device : (adapters : List Adapter) → length adapters ≤ MAX_ADAPTERS → (before : List Device) (d : Device) → GoodDevice adapters before d → IsGood 74 (device_row d)
unfolding escaped
good_device adapters few before d h =
    let s = device_small (length adapters) before d h.0 in
    let z = nothing_in in
    (refl, eight (codes "dev") (decimal d.bus) (decimal d.target) (decimal d.lun) (decimal d.openings) [] [] [] 8 10 10 10 10 0 0 0 (omega arith) (ten d.bus (omega arith)) (ten d.target (omega (arith, h.1))) (ten d.lun (omega arith)) (ten d.openings (omega arith)) z z z)
