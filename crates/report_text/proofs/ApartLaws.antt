-- lines of different prices don't begin alike
use Rattle.std.proofs.Common.{◌≡◌, ◌<◌, ◌≤◌, ◌^◌, ℕ, zero, suc, List, [], ◌∷◌, ◌++◌, length, take, Bool, true, false, cond, refl, sym, ap, subst, arith, rules, append_assoc, append-nil, inl, inr}
use Rattle.std.specs.Prelude.{nat_le, nat_lt, not, Option, Some, None, decimal, slice_get, ⊤}
use Rattle.std.specs.Char.{is_ascii_digit}
use Rattle.std.specs.List.{list_all, list_any, AllByRecursion}
use Rattle.std.specs.Option.{option_or}
use Rattle.std.specs.Str.Parse.{digits_value}
use Rattle.std.proofs.lemmas.Bool.{and_parts, leb-true, leb-false, ltb-false, eq-eqb, cases_lt, or_parts}
use Rattle.std.proofs.lemmas.Fmt.{digits_decimal}
use Rattle.std.proofs.lemmas.Str.Parse.{IsNumeralModel, numerals_by_value}
use Rattle.report_text.specs.Words.{prefixed_after, first_answer, Topology, IsConfig, device_fault, address_fault, config_fault, is_same_address, are_openings, Device, MAX_DEVICES, CamPath, Fits, spelled, address_of}
use Rattle.cam_types.proofs.ConfigLemmas.{device_items, few_adapters}
use Rattle.cam_path.proofs.PathLaws.{reading_again}

-- ---- words end at the first space

abbrev pub IsWord : List ℕ → Type 0
IsWord [] = ⊤
IsWord (c ∷ cs) = (c ≡ 32 → ⊥) × IsWord cs

pub same_word : (a b x y : List ℕ) → IsWord a → IsWord b → a ++ (32 ∷ x) ≡ b ++ (32 ∷ y) → (a ≡ b) × (x ≡ y)
same_word [] [] x y h k e = (refl, cc)
same_word [] (d ∷ b) x y h k e = absurd (k.0 cc)
same_word (c ∷ a) [] x y h k e = absurd (h.0 cc)
same_word (c ∷ a) (d ∷ b) x y h k e =
    let head : c ≡ d = cc in
    let tail : a ++ (32 ∷ x) ≡ b ++ (32 ∷ y) = cc in
    let rest = same_word a b x y h.1 k.1 tail in
    (rw (head, rest.0) refl, rest.1)

pub word-append : (a b : List ℕ) → IsWord a → IsWord b → IsWord (a ++ b)
word-append [] b h k = k
word-append (c ∷ a) b h k = (h.0, word-append a b h.1 k)

word_of_digits : (a : List ℕ) → list_all is_ascii_digit a ≡ true → IsWord a
word_of_digits [] e = tt
word_of_digits (c ∷ a) e =
    let parts = and_parts (is_ascii_digit c) (list_all is_ascii_digit a) e in
    let digit : 48 ≤ c = leb-true 48 c (and_parts (nat_le 48 c) (nat_le c 57) parts.0).0 in
    (λ is. omega arith, word_of_digits a parts.1)

own : IsNumeralModel (λ ds. list_all is_ascii_digit ds ≡ true) (digits_value 10)
own = numerals_by_value _ (search rules)

pub word_decimal : (n : ℕ) → n < 2 ^ 64 → IsWord (decimal n)
word_decimal n h = word_of_digits (decimal n) (digits_decimal own n h)

pub word_spelled : (p : CamPath) → Fits p → IsWord (spelled p)
unfolding spelled
word_spelled p fits =
    let bus = fits.bus in
    let target = fits.target in
    let lun = fits.lun in
    word-append (decimal p.bus) _ (word_decimal p.bus (omega arith))
    (λ is. omega arith, word-append (decimal p.target) _ (word_decimal p.target (omega arith)) (λ is. omega arith, word_decimal p.lun (omega arith)))

pub spelled_injective : (p q : CamPath) → Fits p → Fits q → spelled p ≡ spelled q → p ≡ q
spelled_injective p q fits fits' e =
    let one = reading_again (spelled q) p fits (sym e) in
    let other = reading_again (spelled q) q fits' refl in
    cc

-- ---- each device has an address of its own

-- each device's address fits, and no two devices have one address
pub record AreNamed (devices : List Device) : Type 0 where
  pub fits : (d : ℕ) (device : Device) → slice_get devices d ≡ Some device → Fits (address_of device)
  pub apart : (i j : ℕ) (one other : Device) → slice_get devices i ≡ Some one → slice_get devices j ≡ Some other → address_of one ≡ address_of other → i ≡ j

none_first : {F : Type 0} (o p : Option F) → option_or o p ≡ None → (o ≡ None) × (p ≡ None)
none_first None p e = (refl, e)
none_first (Some x) p e = absurd cc

at_prefix : {X F : Type 0} (f : List X × X → Option F) (before xs : List X) → first_answer f (prefixed_after before xs) ≡ None
    → (j : ℕ) (x : X) → slice_get xs j ≡ Some x → f (before ++ take j xs, x) ≡ None
at_prefix f before [] e j x is = absurd cc
at_prefix f before (y ∷ ys) e zero x is =
    let parts = none_first (f (before, y)) (first_answer f (prefixed_after (before ++ y ∷ []) ys)) e in
    let same : y ≡ x = cc in
    rw (append-nil before, ← same) parts.0
at_prefix f before (y ∷ ys) e (suc j) x is =
    let parts = none_first (f (before, y)) (first_answer f (prefixed_after (before ++ y ∷ []) ys)) e in
    let rest : f ((before ++ y ∷ []) ++ take j ys, x) ≡ None = at_prefix f (before ++ y ∷ []) ys parts.1 j x is in
    rw append_assoc at rest

not_any : {X : Type 0} (p : X → Bool) (xs : List X) (i j : ℕ) (x : X) → i < j → list_any p (take j xs) ≡ false → slice_get xs i ≡ Some x → p x ≡ false
not_any p [] i j x lt e is = absurd cc
not_any p (y ∷ ys) i zero x lt e is = absurd (omega arith)
not_any p (y ∷ ys) zero (suc j) x lt e is = let same : y ≡ x = cc in rw (← same) (or_parts (p y) (list_any p (take j ys)) e).0
not_any p (y ∷ ys) (suc i) (suc j) x lt e is = not_any p ys i j x (omega arith) (or_parts (p y) (list_any p (take j ys)) e).1 is

cond_none : {X : Type 0} (b : Bool) (x : X) (rest : Option X) → cond b (Some x) rest ≡ None → (b ≡ false) × (rest ≡ None)
cond_none true x rest e = absurd cc
cond_none false x rest e = (refl, e)

pub device_rules : (n : ℕ) (before : List Device) (d : Device) → device_fault n (before, d) ≡ None → (d.bus < n) × (d.lun ≤ 16383) × (list_any (is_same_address d) before ≡ false)
unfolding device_fault address_fault
device_rules n before d e =
    let a = (cond_none (nat_le MAX_DEVICES (length before)) _ _ e).1 in
    let b = (cond_none (not (are_openings d.openings)) _ _ a).1 in
    let c = cond_none (nat_le n d.bus) _ _ b in
    let l = cond_none (nat_lt 16383 d.lun) _ _ c.1 in
    let s = cond_none (list_any (is_same_address d) before) _ _ l.1 in
    (leb-false _ _ c.0, ltb-false _ _ l.0, s.0)

-- a configuration within its rules, whose targets fit, names its devices
pub named_devices : (t : Topology) → config_fault t ≡ None → AllByRecursion (λ (d : Device). d.target ≤ 65535) t.devices → AreNamed t.devices
named_devices t kept targets =
    let adapters = length t.adapters in
    let is : IsConfig t = record { kept = kept } in
    let devices = device_items t is in
    let few = few_adapters t is in
    let rules : (j : ℕ) (d : Device) → slice_get t.devices j ≡ Some d → (d.bus < adapters) × (d.lun ≤ 16383) × (list_any (is_same_address d) (take j t.devices) ≡ false) =
    λ j d is. device_rules adapters (take j t.devices) d (at_prefix (device_fault adapters) [] t.devices devices j d is) in
    let before : (i j : ℕ) (one other : Device) → slice_get t.devices i ≡ Some one → slice_get t.devices j ≡ Some other → address_of one ≡ address_of other → i < j → ⊥ =
    λ i j one other is is' same lt.
    let no : is_same_address other one ≡ false = not_any (is_same_address other) t.devices i j one lt (rules j other is').2 is in
    let yes : is_same_address other one ≡ true = same_address one other same in
    cc in
    record {
      fits = λ d device is. let r = rules d device is in record { bus = omega arith; target = target_of t.devices d device targets is; lun = omega arith };
      apart = λ i j one other is is' same. neither_less i j (before i j one other is is' same) (before j i other one is' is (sym same));
    }
  where
    target_of : (ds : List Device) (j : ℕ) (d : Device) → AllByRecursion (λ (x : Device). x.target ≤ 65535) ds → slice_get ds j ≡ Some d → d.target ≤ 65535
    target_of [] j d h is = absurd cc
    target_of (x ∷ xs) zero d h is = let same : x ≡ d = cc in subst (λ (y : Device). y.target ≤ 65535) same h.0
    target_of (x ∷ xs) (suc j) d h is = target_of xs j d h.1 is

    same_address : (one other : Device) → address_of one ≡ address_of other → is_same_address other one ≡ true
    same_address one other e =
        let bus : other.bus ≡ one.bus = ap (λ (p : CamPath). p.bus) (sym e) in
        let target : other.target ≡ one.target = ap (λ (p : CamPath). p.target) (sym e) in
        let lun : other.lun ≡ one.lun = ap (λ (p : CamPath). p.lun) (sym e) in
        rw (eq-eqb other.bus one.bus bus, eq-eqb other.target one.target target, eq-eqb other.lun one.lun lun) refl

    neither_less : (i j : ℕ) → (i < j → ⊥) → (j < i → ⊥) → i ≡ j
    neither_less i j h k = elim (cases_lt i j) [
      | inl lt ↦ absurd (h lt)
      | inr le ↦ elim (cases_lt j i) [
        | inl lt ↦ absurd (k lt)
        | inr le' ↦ omega arith
      ]
    ]
