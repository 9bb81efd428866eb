-- A row that is parsed is spelled so, and what is spelled so is parsed.
use Rattle.std.proofs.Common.{◌≡◌, ◌<◌, ◌≤◌, ◌+◌, ℕ, subst, List, [], ◌∷◌, length, drop, replicate, true, refl, ap, ◌∙◌, arith, eqb-true, rules, tests}
use Rattle.std.specs.Prelude.{IfSome, Result, Ok, decimal, codes, ◌==◌, ⊤}
use Rattle.std.proofs.lemmas.Bool.Decides.{nat_tests}
use Rattle.std.proofs.lemmas.List.{length-drop, nil_from_length}
use Rattle.std.proofs.lemmas.Slice.Eq.{bytes_eq-Decides}
use Rattle.csv.specs.Records.{field_at}
use Rattle.cam_types.specs.declared.adapter.Adapter.{Adapter}
use Rattle.cam_types.specs.declared.weight_row.WeightRow.{WeightRow}
use Rattle.cam_types.specs.Weights.{row_to}
use Rattle.record_text.specs.ConfigRows.{adapter_at, adapter_row, device_at, device_of, device_row, one_number, optional_text, padded, two_numbers, weight_at, weight_row, DeviceRow}
use Rattle.record_text.specs.Fields.{field_of, max_number, number_at, optional_at, unused, unused_from}
use Rattle.record_text.specs.Header.{has_letters, header_row, is_header}
use Rattle.record_text.specs.Steps.{◌>>=◌}
use Rattle.record_text.specs.Text.{Row}
use Rattle.record_text.proofs.FieldLaws.{number_again, number_takes, optional_again, optional_takes}
use Rattle.record_text.proofs.FieldLemmas.{drop_field}
use Rattle.record_text.proofs.StepLemmas.{if_ok, ok_is, on_ok}

-- the fields from a place on, by the field there
pub peel : (row : Row) (at : ℕ) (f : List ℕ) (rest : Row) → length row ≡ 8 → at < 8 → field_of row at ≡ f → drop (at + 1) row ≡ rest → drop at row ≡ f ∷ rest
peel row at f rest eight h e r = drop_field row at (omega arith) ∙ rw (e, r) refl

-- ---- fields that aren't used

unused_all : (k : ℕ) (fs : Row) (u : ⊤) → unused k fs ≡ Ok u → fs ≡ replicate (length fs) []
unused_all k [] u e = refl
unused_all k (f ∷ fs) u e =
    let g = if_ok (length f == 0) _ u k e in
    let none = nil_from_length f (eqb-true _ _ g.0) in
    rw none (ap (λ (l : Row). [] ∷ l) (unused_all (k + 1) fs u g.1))

pub unused_rest : (row : Row) (at n : ℕ) (u : ⊤) → length row ≡ 8 → at + n ≡ 8 → unused_from row at ≡ Ok u → drop at row ≡ replicate n []
unfolding unused_from
unused_rest row at n u eight e h =
    let size : length (drop at row) ≡ n = omega (arith, length-drop at row) in
    unused_all (at + 1) (drop at row) u h ∙ ap (λ (k : ℕ). replicate k []) size

-- ---- what is read is spelled so

-- the next field that is read: its value, what is known of that, and how the fields from it on are spelled
pub next_field : {X B Q : Type 0} (row : Row) (at : ℕ) (r : Result X ℕ) (f : X → Result B ℕ) (y : B) (spell : X → List ℕ) (F : X → Type 0) → length row ≡ 8 → at < 8
    → ((x : X) → r ≡ Ok x → (field_of row at ≡ spell x) × F x) → (r >>= f) ≡ Ok y
    → ((x : X) → F x → ((rest : Row) → drop (at + 1) row ≡ rest → drop at row ≡ spell x ∷ rest) → f x ≡ Ok y → Q) → Q
next_field row at r f y spell F eight h takes e k =
    on_ok r f y e (λ x ex s. let t = takes x ex in k x t.1 (λ rest more. peel row at (spell x) rest eight h t.0 more) s)

pub next_number : {B Q : Type 0} (row : Row) (at most : ℕ) (f : ℕ → Result B ℕ) (y : B) → length row ≡ 8 → at < 8 → most ≤ max_number → (number_at row at most >>= f) ≡ Ok y
    → ((n : ℕ) → n ≤ most → ((rest : Row) → drop (at + 1) row ≡ rest → drop at row ≡ decimal n ∷ rest) → f n ≡ Ok y → Q) → Q
next_number row at most f y eight h le e k = next_field row at (number_at row at most) f y decimal (λ n. n ≤ most) eight h (λ n. number_takes row at most n le) e k

-- no field more
pub no_more : {B : Type 0} (row : Row) (at n : ℕ) (x y : B) (P : B → Type 0) → length row ≡ 8 → at + n ≡ 8 → (unused_from row at >>= λ _. Ok x) ≡ Ok y → (drop at row ≡ replicate n [] → P x) → P y
no_more row at n x y P eight size e made = on_ok (unused_from row at) _ y e (λ u eu s. subst P (ok_is x y s) (made (unused_rest row at n u eight size eu)))

-- a row is its first field and those after it
pub with_word : (row : Row) (word : List ℕ) → length row ≡ 8 → field_of row 0 ≡ word → row ≡ word ∷ drop 1 row
with_word row word eight e = peel row 0 word (drop 1 row) eight (omega arith) e refl

-- ---- rows of numbers

pub one_takes : (row : Row) (word : List ℕ) (n : ℕ) → length row ≡ 8 → one_number row ≡ Ok n → (word ∷ drop 1 row ≡ padded (word ∷ decimal n ∷ [])) × (n ≤ max_number)
unfolding one_number
one_takes row word n eight e =
    next_number row 1 max_number _ n eight (omega arith) (omega arith) e (λ m few t r.
    no_more row 2 6 m n (λ k. (word ∷ drop 1 row ≡ padded (word ∷ decimal k ∷ [])) × (k ≤ max_number)) eight refl r (λ rest. (ap (λ (l : Row). word ∷ l) (t _ rest), few)))

pub one_again : (word : List ℕ) (n : ℕ) → n ≤ max_number → one_number (padded (word ∷ decimal n ∷ [])) ≡ Ok n
unfolding one_number unused_from field_at
one_again word n h = rw (number_again (padded (word ∷ decimal n ∷ [])) 1 max_number n (omega arith) h refl) refl

pub two_take : (row : Row) (word : List ℕ) (p : ℕ × ℕ) → length row ≡ 8 → two_numbers row ≡ Ok p
    → (word ∷ drop 1 row ≡ padded (word ∷ decimal p.0 ∷ decimal p.1 ∷ [])) × (p.0 ≤ max_number) × (p.1 ≤ max_number)
unfolding two_numbers
two_take row word p eight e =
    next_number row 1 max_number _ p eight (omega arith) (omega arith) e (λ m a t1 r1.
    next_number row 2 max_number _ p eight (omega arith) (omega arith) r1 (λ n b t2 r2.
    no_more row 3 5 (m, n) p (λ q. (word ∷ drop 1 row ≡ padded (word ∷ decimal q.0 ∷ decimal q.1 ∷ [])) × (q.0 ≤ max_number) × (q.1 ≤ max_number)) eight refl r2 (λ rest.
    (ap (λ (l : Row). word ∷ l) (t1 _ (t2 _ rest)), a, b))))

pub two_again : (word : List ℕ) (m n : ℕ) → m ≤ max_number → n ≤ max_number → two_numbers (padded (word ∷ decimal m ∷ decimal n ∷ [])) ≡ Ok (m, n)
unfolding two_numbers unused_from field_at
two_again word m n h k =
    let row = padded (word ∷ decimal m ∷ decimal n ∷ []) in
    rw (number_again row 1 max_number m (omega arith) h refl, number_again row 2 max_number n (omega arith) k refl) refl

-- ---- rows of a configuration

-- the numbers of these rows fit their fields
abbrev pub FitsWeight : WeightRow → Type 0
FitsWeight w = (w.last ≤ max_number) × (w.weight ≤ max_number)

abbrev pub FitsAdapter : Adapter → Type 0
FitsAdapter a = (a.openings ≤ max_number) × IfSome a.link (λ n. n ≤ max_number)

abbrev pub FitsDevice : DeviceRow → Type 0
FitsDevice d = (d.bus ≤ max_number) × (d.target ≤ 65535) × (d.lun ≤ 16383) × (d.openings ≤ max_number)

pub weight_takes : (row : Row) (w : WeightRow) → length row ≡ 8 → weight_at row ≡ Ok w → (codes "weight" ∷ drop 1 row ≡ weight_row w) × FitsWeight w
unfolding weight_at
weight_takes row w eight e =
    on_ok (two_numbers row) (λ p. Ok (row_to p.0 p.1)) w e (λ p ep s.
    let t = two_take row (codes "weight") p eight ep in
    subst (λ (x : WeightRow). (codes "weight" ∷ drop 1 row ≡ weight_row x) × FitsWeight x) (ok_is (row_to p.0 p.1) w s) (t.0, (t.1, t.2)))

pub weight_again : (w : WeightRow) → w.last ≤ max_number → w.weight ≤ max_number → weight_at (weight_row w) ≡ Ok w
unfolding weight_at
weight_again w a b = rw (two_again (codes "weight") w.last w.weight a b) refl

pub adapter_takes : (row : Row) (x : Adapter) → length row ≡ 8 → adapter_at row ≡ Ok x → (codes "sim" ∷ drop 1 row ≡ adapter_row x) × FitsAdapter x
unfolding adapter_at
adapter_takes row x eight e =
    next_number row 1 max_number _ x eight (omega arith) (omega arith) e (λ openings a t1 r1.
    next_field row 2 (optional_at row 2 max_number) _ x optional_text (λ l. IfSome l (λ n. n ≤ max_number)) eight (omega arith) (λ l el. optional_takes row 2 max_number l (omega arith) el) r1 (λ link b t2 r2.
    no_more row 3 5 _ x (λ v. (codes "sim" ∷ drop 1 row ≡ adapter_row v) × FitsAdapter v) eight refl r2 (λ rest.
    (ap (λ (l : Row). codes "sim" ∷ l) (t1 _ (t2 _ rest)), (a, b)))))

pub adapter_again : (a : Adapter) → a.openings ≤ max_number → IfSome a.link (λ l. l ≤ max_number) → adapter_at (adapter_row a) ≡ Ok a
unfolding adapter_at unused_from field_at
adapter_again a o l = rw (number_again (adapter_row a) 1 max_number a.openings (omega arith) o refl, optional_again (adapter_row a) 2 max_number a.link (omega arith) l refl) refl

pub device_takes : (row : Row) (d : DeviceRow) → length row ≡ 8 → device_at row ≡ Ok d → (codes "dev" ∷ drop 1 row ≡ device_row (device_of d)) × FitsDevice d
unfolding device_at
device_takes row d eight e =
    next_number row 1 max_number _ d eight (omega arith) (omega arith) e (λ bus a t1 r1.
    next_number row 2 65535 _ d eight (omega arith) (omega arith) r1 (λ target b t2 r2.
    next_number row 3 16383 _ d eight (omega arith) (omega arith) r2 (λ lun c t3 r3.
    next_number row 4 max_number _ d eight (omega arith) (omega arith) r3 (λ openings o t4 r4.
    no_more row 5 3 _ d (λ v. (codes "dev" ∷ drop 1 row ≡ device_row (device_of v)) × FitsDevice v) eight refl r4 (λ rest.
    (ap (λ (l : Row). codes "dev" ∷ l) (t1 _ (t2 _ (t3 _ (t4 _ rest)))), (a, b, c, o)))))))

pub device_again : (d : DeviceRow) → FitsDevice d → device_at (device_row (device_of d)) ≡ Ok d
unfolding device_at unused_from field_at
device_again d h =
    let row = device_row (device_of d) in
    rw (
      number_again row 1 max_number d.bus (omega arith) h.0 refl,
      number_again row 2 65535 d.target (omega arith) h.1 refl,
      number_again row 3 16383 d.lun (omega arith) h.2 refl,
      number_again row 4 max_number d.openings (omega arith) h.3 refl,
    ) refl

-- ---- the header

-- a row of eight fields is these
pub eight : (row : Row) (a b c d e f g h : List ℕ) → length row ≡ 8 → field_of row 0 ≡ a → field_of row 1 ≡ b → field_of row 2 ≡ c → field_of row 3 ≡ d
    → field_of row 4 ≡ e → field_of row 5 ≡ f → field_of row 6 ≡ g → field_of row 7 ≡ h → row ≡ a ∷ b ∷ c ∷ d ∷ e ∷ f ∷ g ∷ h ∷ []
eight row a b c d e f g h n e0 e1 e2 e3 e4 e5 e6 e7 =
    let none : drop 8 row ≡ [] = nil_from_length (drop 8 row) (omega (arith, length-drop 8 row)) in
    peel row 0 a _ n (omega arith) e0 (peel row 1 b _ n (omega arith) e1 (peel row 2 c _ n (omega arith) e2 (peel row 3 d _ n (omega arith) e3
    (peel row 4 e _ n (omega arith) e4 (peel row 5 f _ n (omega arith) e5 (peel row 6 g _ n (omega arith) e6 (peel row 7 h [] n (omega arith) e7 none)))))))

-- the header of this name
pub named_header : (name : List ℕ) (row : Row) → is_header name row ≡ true
    → row ≡ header_row name
unfolding is_header has_letters header_row
named_header name row t =
    eight row name (codes "a") (codes "b") (codes "c") (codes "d") (codes "e") (codes "f") (codes "g") (grind (arith, nat_tests))
    (search (rules, tests, bytes_eq-Decides)) (search (rules, tests, bytes_eq-Decides)) (search (rules, tests, bytes_eq-Decides)) (search (rules, tests, bytes_eq-Decides))
    (search (rules, tests, bytes_eq-Decides)) (search (rules, tests, bytes_eq-Decides)) (search (rules, tests, bytes_eq-Decides)) (search (rules, tests, bytes_eq-Decides))
