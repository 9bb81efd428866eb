-- lists of totals, by device and by weight
use Rattle.std.proofs.Common.{◌≡◌, ◌≢◌, ℕ, zero, suc, ◌+◌, ◌<◌, ◌≤◌, List, [], ◌∷◌, ◌++◌, map, length, replicate, get_or, set, refl, sym, ap, ◌∙◌, arith, ◌⊎◌, inl, inr, length-set, get_or-set_same, get_or-set_other, Vec, zero-add, take, None}
use Rattle.std.specs.Global.{Global}
use Rattle.std.specs.List.{range_with_len}
use Rattle.std.proofs.lemmas.List.{length-map, length-replicate, map-append, replicate_more, take_more}
use Rattle.std.proofs.lemmas.List.FromFn.{map-range_with_len_more, get_or-map-range_with_len, length-map-range_with_len}
use Rattle.round_net.specs.Rows.{cell}
use Rattle.round_net.proofs.CellLemmas.{cell-injective, cell_within}
use Rattle.wait_causes.specs.Behind.{behind_in, behind_by, no_behind, FullBehind}
use Rattle.wait_causes.specs.Counting.{MAX_WEIGHT, causes_before, behind_before, key_of, list_of, AreBehindTotals, IsFilled}
use Rattle.wait_causes.specs.Origins.{Origin, instance_in, live_in, cause_of}
use Rattle.wait_causes.specs.Stays.{rounds_by, no_rounds, ExplainedStay}
use Rattle.wait_causes.specs.declared.explained_stay.CauseRounds.{CauseRounds}
use Rattle.wait_causes.proofs.TotalsLemmas.{totals_length}

-- one list more
pub lists_more : {X : Type 0} (f : ℕ → List X) (n : ℕ) (old new : List (Vec X Global)) (v : Vec X Global) → map (λ (v : Vec X Global). v.items) old ≡ map f (range_with_len 0 n) → new ≡ old ++ v ∷ [] → v.items ≡ f n → map (λ (v : Vec X Global). v.items) new ≡ map f (range_with_len 0 (n + 1))
lists_more {X} f n old new v was is here =
    ap (map (λ (v : Vec X Global). v.items)) is ∙ map-append (λ (v : Vec X Global). v.items) old (v ∷ []) ∙ rw (was, here) (sym (map-range_with_len_more f 0 n n (zero-add n)))

pub items_at : {X : Type 0} (lists : List (Vec X Global)) (k : ℕ) (d : Vec X Global) → get_or (map (λ (v : Vec X Global). v.items) lists) k d.items ≡ (get_or lists k d).items
items_at [] k d = refl
items_at (x ∷ xs) zero d = refl
items_at (x ∷ xs) (suc k) d = items_at xs k d

pub list_at : {X : Type 0} (f : ℕ → List X) (n k : ℕ) (lists : List (Vec X Global)) (d : Vec X Global) → map (λ (v : Vec X Global). v.items) lists ≡ map f (range_with_len 0 n) → k < n → (get_or lists k d).items ≡ f k
list_at f n k lists d are lt =
    sym (items_at lists k d) ∙ ap (λ xs. get_or xs k d.items) are ∙ get_or-map-range_with_len f 0 n k k d.items lt (zero-add k)

-- a key within the keys
pub key_in : (devices d w : ℕ) → d < devices → w ≤ MAX_WEIGHT → key_of d w < key_of devices 0
key_in devices d w lt light =
    let h = cell_within (MAX_WEIGHT + 1) devices d (w + 1) lt (omega arith) (omega arith) in
    let same : cell (MAX_WEIGHT + 1) d (w + 1) ≡ key_of d w = omega arith in
    omega (arith, h, same)

-- a list within, whatever stands for one that isn't there
inside : {X : Type 0} (lists : List (Vec X Global)) (k : ℕ) (d : Vec X Global) → k < length lists → get_or (map (λ (v : Vec X Global). v.items) lists) k [] ≡ (get_or lists k d).items
inside [] k d lt = absurd (omega arith)
inside (x ∷ xs) zero d lt = refl
inside (x ∷ xs) (suc k) d lt = inside xs k d (omega arith)

-- the list that is read at a key
pub filled_at : (o : Origin) (d w key : ℕ) (totals : List (Vec FullBehind Global)) (v : Vec FullBehind Global) → AreBehindTotals o totals → d < (instance_in o).devices → w ≤ MAX_WEIGHT → key ≡ key_of d w → IsFilled o d w totals → v ≡ get_or totals key v → v.items ≡ behind_before o d w
filled_at o d w key totals v are lt light at filled read =
    let within : key_of d w < length totals = omega (arith, are.all, key_in (instance_in o).devices d w lt light) in
    ap (λ (x : Vec FullBehind Global). x.items) (read ∙ ap (λ k. get_or totals k v) at) ∙ sym (inside totals (key_of d w) v within) ∙ filled

pub lists_length : {X : Type 0} (f : ℕ → List X) (n : ℕ) (lists : List (Vec X Global)) → map (λ (v : Vec X Global). v.items) lists ≡ map f (range_with_len 0 n) → length lists ≡ n
lists_length {X} f n lists are = sym (length-map lists (λ (v : Vec X Global). v.items)) ∙ ap (λ xs. length xs) are ∙ length-map-range_with_len f 0 n

-- empty lists
none_at : {X : Type 0} (n k : ℕ) → ◌≡◌ {A = List X} (get_or (replicate n []) k []) []
none_at zero k = refl
none_at (suc n) zero = refl
none_at (suc n) (suc k) = none_at n k

pub empty_more : (n : ℕ) (old new : List (Vec FullBehind Global)) (v : Vec FullBehind Global) → map (λ (v : Vec FullBehind Global). v.items) old ≡ replicate n [] → new ≡ old ++ v ∷ [] → v.items ≡ [] → map (λ (v : Vec FullBehind Global). v.items) new ≡ replicate (n + 1) []
empty_more n old new v was is none =
    ap (map (λ (v : Vec FullBehind Global). v.items)) is ∙ map-append (λ (v : Vec FullBehind Global). v.items) old (v ∷ []) ∙ rw (was, none) (replicate_more n [])

pub empty_totals : (o : Origin) (totals : List (Vec FullBehind Global)) (n devices : ℕ) → n ≡ key_of devices 0 → devices ≡ (instance_in o).devices → map (λ (v : Vec FullBehind Global). v.items) totals ≡ replicate n [] → AreBehindTotals o totals
empty_totals o totals n devices size same are = record {
  all = sym (length-map totals (λ (v : Vec FullBehind Global). v.items)) ∙ ap (λ xs. length xs) are ∙ length-replicate n [] ∙ size ∙ ap (λ k. key_of k 0) same;
  each = λ d w light. inl (ap (λ xs. get_or xs (key_of d w) []) are ∙ none_at n (key_of d w));
}

-- two keys are one where device and weight are
key-injective : (d w e v : ℕ) → w ≤ MAX_WEIGHT → v ≤ MAX_WEIGHT → key_of d w ≡ key_of e v → (d ≡ e) × (w ≡ v)
key-injective d w e v light light' same =
    let a : cell (MAX_WEIGHT + 1) d (w + 1) ≡ key_of d w = omega arith in
    let b : cell (MAX_WEIGHT + 1) e (v + 1) ≡ key_of e v = omega arith in
    let both = cell-injective (MAX_WEIGHT + 1) d (w + 1) e (v + 1) (omega arith) (omega arith) (omega arith) (omega arith) (a ∙ same ∙ sym b) in
    (both.0, omega (arith, both.1))

items_set : (xs : List (Vec FullBehind Global)) (k : ℕ) (v : Vec FullBehind Global) → map (λ (v : Vec FullBehind Global). v.items) (set xs k v) ≡ set (map (λ (v : Vec FullBehind Global). v.items) xs) k v.items
items_set [] k v = refl
items_set (x ∷ xs) zero v = refl
items_set (x ∷ xs) (suc k) v = ap (λ ys. x.items ∷ ys) (items_set xs k v)

pub set_here : (o : Origin) (totals : List (Vec FullBehind Global)) (d w : ℕ) (v : Vec FullBehind Global) → AreBehindTotals o totals → d < (instance_in o).devices → w ≤ MAX_WEIGHT → v.items ≡ behind_before o d w →
    IsFilled o d w (set totals (key_of d w) v)
set_here o totals d w v are lt light is =
    let within : key_of d w < length (map (λ (v : Vec FullBehind Global). v.items) totals) = omega (arith, length-map totals (λ (v : Vec FullBehind Global). v.items), are.all, key_in (instance_in o).devices d w lt light) in
    ap (λ xs. get_or xs (key_of d w) []) (items_set totals (key_of d w) v)
    ∙ get_or-set_same (map (λ (v : Vec FullBehind Global). v.items) totals) (key_of d w) v.items [] within ∙ is

pub set_kept : (o : Origin) (totals : List (Vec FullBehind Global)) (d w : ℕ) (v : Vec FullBehind Global) → AreBehindTotals o totals → d < (instance_in o).devices → w ≤ MAX_WEIGHT → v.items ≡ behind_before o d w →
    AreBehindTotals o (set totals (key_of d w) v)
set_kept o totals d w v are lt light is = record {
  all = length-set totals (key_of d w) v ∙ are.all;
  each = λ e u light'. elim (equal_or_not (key_of e u) (key_of d w)) [
    | inl same ↦
        let both = key-injective e u d w light' light same in
        inr (ap (λ k. list_of (set totals (key_of d w) v) k) same ∙ set_here o totals d w v are lt light is ∙ sym (ap (λ k. behind_before o k u) both.0 ∙ ap (behind_before o d) both.1))
    | inr apart ↦ moved e u (other e u apart) (are.each e u light')
  ];
}
  where
    equal_or_not : (a b : ℕ) → (a ≡ b) ⊎ (a ≢ b)
    equal_or_not zero zero = inl refl
    equal_or_not zero (suc b) = inr (λ e. omega (arith, e))
    equal_or_not (suc a) zero = inr (λ e. omega (arith, e))
    equal_or_not (suc a) (suc b) = elim (equal_or_not a b) [
      | inl e ↦ inl (ap (λ n. suc n) e)
      | inr ne ↦ inr (λ e. ne (omega (arith, e)))
    ]

    other : (e u : ℕ) → key_of e u ≢ key_of d w → list_of (set totals (key_of d w) v) (key_of e u) ≡ list_of totals (key_of e u)
    other e u apart =
        ap (λ xs. get_or xs (key_of e u) []) (items_set totals (key_of d w) v)
        ∙ get_or-set_other (map (λ (v : Vec FullBehind Global). v.items) totals) (key_of d w) (key_of e u) v.items [] apart

    moved : (e u : ℕ) → list_of (set totals (key_of d w) v) (key_of e u) ≡ list_of totals (key_of e u) → (list_of totals (key_of e u) ≡ []) ⊎ (list_of totals (key_of e u) ≡ behind_before o e u) →
        (list_of (set totals (key_of d w) v) (key_of e u) ≡ []) ⊎ (list_of (set totals (key_of d w) v) (key_of e u) ≡ behind_before o e u)
    moved e u same (inl none) = inl (same ∙ none)
    moved e u same (inr is') = inr (same ∙ is')

-- the lists of a stay are as long as there are rounds
pub causes_length : (o : Origin) (d : ℕ) (xs : List CauseRounds) → xs ≡ causes_before o d → length xs ≡ (instance_in o).rounds
causes_length o d xs is = ap (λ ys. length ys) is ∙ totals_length rounds_by (cause_of o d) (instance_in o).rounds

pub behind_length : (o : Origin) (d w : ℕ) (xs : List FullBehind) → xs ≡ behind_before o d w → length xs ≡ (instance_in o).rounds
behind_length o d w xs is = ap (λ ys. length ys) is ∙ totals_length behind_by (behind_in (instance_in o) (live_in o) (cause_of o) d w) (instance_in o).rounds

-- the rows so far, and one more
pub rows_more : {X Y : Type 0} (f : X → Y) (xs : List X) (i : ℕ) (old new : List Y) (y : Y) (d : X) → old ≡ map f (take i xs) → new ≡ old ++ y ∷ [] → y ≡ f (get_or xs i d) → i < length xs → new ≡ map f (take (i + 1) xs)
rows_more f xs i old new y d was is here lt =
    is ∙ rw (was, here) (sym (ap (map f) (take_more xs i d lt) ∙ map-append f (take i xs) (get_or xs i d ∷ [])))

-- any stay, as a default
abbrev pub blank : ExplainedStay
blank = record { ccb = 0; attempt = 0; driver = 0; device = 0; adapter = 0; priority = 0; level = 0; weight = 0; arrival = 0; live = 0; pace = None; best = 0; last = None; done = None; rounds = no_rounds; behind = no_behind }
