-- what lanes answer
use Rattle.std.proofs.Common.{◌≡◌, ℕ, zero, suc, ◌+◌, ◌-◌, ◌≤◌, Bool, true, false, cond, List, [], ◌∷◌, ◌++◌, length, take, get_or, reverse, refl, sym, ap, ◌∙◌, arith, append_assoc, length-append, Option, Some, None, not, ◌==◌, ◌&&◌, count_by, nat_lt}
use Rattle.std.specs.List.{list_all, position_or_len}
use Rattle.std.proofs.lemmas.Bool.{and_parts, and_from, eqb-true, ltb-false}
use Rattle.std.proofs.lemmas.List.{reverse-append, take-append-le, take_all, append-nil, length-take}
use Rattle.cam_types.specs.declared.outcome.Outcome.{Outcome}
use Rattle.event_rules.proofs.ListFacts.{count_by-push}
use Rattle.conversions.specs.Answers.{is_plain, is_other, plain, up_to_other}

-- what holds of no element and of each list with one more holds of all
by_more : {X : Type 0} (P : List X → Type 0) → ((xs : List X) (x : X) → P xs → P (xs ++ x ∷ [])) → (front back : List X) → P front → P (front ++ back)
by_more P step front [] h = rw (append-nil front) h
by_more P step front (x ∷ back) h = rw (← append_assoc front (x ∷ []) back) (by_more P step (front ++ x ∷ []) back (step front x h))

pub by_end : {X : Type 0} (P : List X → Type 0) → P [] → ((xs : List X) (x : X) → P xs → P (xs ++ x ∷ [])) → (xs : List X) → P xs
by_end P none step xs = by_more P step [] xs none

-- a plain outcome is the one
no_bytes : (xs : List ℕ) → (length xs == 0) ≡ true → xs ≡ []
no_bytes [] h = refl
no_bytes (x ∷ xs) h = let none = eqb-true (length (x ∷ xs)) 0 h in absurd (omega arith)

pub is_the_plain : (o : Outcome) → is_plain o ≡ true → o ≡ plain
is_the_plain o h =
    let parts = and_parts (o.status == 1) ((o.scsi == 0) && (length o.sense == 0)) h in
    let rest = and_parts (o.scsi == 0) (length o.sense == 0) parts.1 in
    let status : o.status ≡ 1 = eqb-true o.status 1 parts.0 in
    let scsi : o.scsi ≡ 0 = eqb-true o.scsi 0 rest.0 in
    let sense : o.sense ≡ [] = no_bytes o.sense rest.1 in
    λ i. record { status = status i; scsi = scsi i; sense = sense i }

-- one outcome more
pub up_to-push : (os : List Outcome) (o : Outcome) → up_to_other (os ++ o ∷ []) ≡ cond (is_plain o) (up_to_other os) (os ++ o ∷ [])
unfolding up_to_other
up_to-push os o =
    let turned : reverse (os ++ o ∷ []) ≡ o ∷ reverse os = reverse-append os (o ∷ []) in
    let len : length (os ++ o ∷ []) ≡ length os + 1 = length-append os (o ∷ []) in
    rw (turned, len) (elim (is_plain o) as (λ b. take (length os + 1 - cond (not (not b)) (1 + position_or_len is_other (reverse os)) 0) (os ++ o ∷ []) ≡ cond b (take (length os - position_or_len is_other (reverse os)) os) (os ++ o ∷ [])) [
      | true ↦
          let n = position_or_len is_other (reverse os) in
          let same : length os + 1 - (1 + n) ≡ length os - n = omega arith in
          rw same (take-append-le (length os - n) os (o ∷ []) (omega arith))
      | false ↦ take_all (length os + 1 - 0) (os ++ o ∷ []) (omega (arith, len))
    ])

-- a plain outcome at the end changes no answer
more_plain : (os : List Outcome) (k : ℕ) → get_or (os ++ plain ∷ []) k plain ≡ get_or os k plain
more_plain [] zero = refl
more_plain [] (suc k) = refl
more_plain (o ∷ os) zero = refl
more_plain (o ∷ os) (suc k) = more_plain os k

same_step : (k : ℕ) (os : List Outcome) (o : Outcome) → get_or (up_to_other os) k plain ≡ get_or os k plain → get_or (up_to_other (os ++ o ∷ [])) k plain ≡ get_or (os ++ o ∷ []) k plain
same_step k os o h = rw (up_to-push os o) (elim (is_plain o) as (λ b. is_plain o ≡ b → get_or (cond b (up_to_other os) (os ++ o ∷ [])) k plain ≡ get_or (os ++ o ∷ []) k plain) [
  | true ↦ λ is. h ∙ sym (ap (λ x. get_or (os ++ x ∷ []) k plain) (is_the_plain o is) ∙ more_plain os k)
  | false ↦ λ is. refl
] refl)

pub same_answers : (os : List Outcome) (k : ℕ) → get_or (up_to_other os) k plain ≡ get_or os k plain
unfolding up_to_other
same_answers os k = by_end (λ xs. get_or (up_to_other xs) k plain ≡ get_or xs k plain) refl (same_step k) os

-- without another outcome there is no answer
none_step : (os : List Outcome) (o : Outcome) → (count_by is_other (up_to_other os) ≡ 0 → up_to_other os ≡ []) → count_by is_other (up_to_other (os ++ o ∷ [])) ≡ 0 → up_to_other (os ++ o ∷ []) ≡ []
none_step os o h = rw (up_to-push os o) (elim (is_plain o) as (λ b. is_plain o ≡ b → count_by is_other (cond b (up_to_other os) (os ++ o ∷ [])) ≡ 0 → cond b (up_to_other os) (os ++ o ∷ []) ≡ []) [
  | true ↦ λ is. h
  | false ↦ λ is none.
      let one : ◌≡◌ {A = ℕ} (cond (is_other o) 1 0) 1 = rw is refl in
      absurd (omega (arith, count_by-push is_other os o, one, none))
] refl)

pub none_left : (os : List Outcome) → count_by is_other (up_to_other os) ≡ 0 → up_to_other os ≡ []
unfolding up_to_other
none_left os = by_end (λ xs. count_by is_other (up_to_other xs) ≡ 0 → up_to_other xs ≡ []) (λ h. refl) none_step os

-- they are no more than the outcomes, and pass what these pass
pub up_to_within : (os : List Outcome) → length (up_to_other os) ≤ length os
unfolding up_to_other
up_to_within os = omega (arith, length-take (length os - position_or_len is_other (reverse os)) os)

all_taken : {X : Type 0} (p : X → Bool) (n : ℕ) (xs : List X) → list_all p xs ≡ true → list_all p (take n xs) ≡ true
all_taken p zero xs h = refl
all_taken p (suc n) [] h = refl
all_taken p (suc n) (x ∷ xs) h = let parts = and_parts (p x) (list_all p xs) h in and_from _ _ parts.0 (all_taken p n xs parts.1)

pub up_to_passes : (p : Outcome → Bool) (os : List Outcome) → list_all p os ≡ true → list_all p (up_to_other os) ≡ true
unfolding up_to_other
up_to_passes p os h = all_taken p (length os - position_or_len is_other (reverse os)) os h

-- the length, where no place is found
none_found : (n len : ℕ) (b : Bool) → nat_lt n len ≡ b → n ≤ len → ◌≡◌ {A = Option ℕ} (cond b (Some n) None) None → len ≡ n
none_found n len true is le h = absurd (cc)
none_found n len false is le h = let past : len ≤ n = ltb-false n len is in omega arith

pub place_none : (n len : ℕ) → n ≤ len → ◌≡◌ {A = Option ℕ} (cond (nat_lt n len) (Some n) None) None → len ≡ n
place_none n len le h = none_found n len (nat_lt n len) refl le h
