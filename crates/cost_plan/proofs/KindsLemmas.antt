-- Stays of one device and weight after another take their turns.
use Rattle.std.proofs.Common.{◌≡◌, ℕ, suc, ◌+◌, ◌-◌, ◌<◌, ◌≤◌, Bool, true, cond, List, [], ◌∷◌, length, take, drop, get_or, count_by, refl, sym, ap, ◌∙◌, subst, inl, inr, arith, length-take, length-drop, take-append-drop}
use Rattle.std.proofs.lemmas.Bool.{cases_lt, eq-eqb, and_from}
use Rattle.std.specs.List.{range_with_len}
use Rattle.std.proofs.lemmas.List.{get_or-take, get_or-drop}
use Rattle.std.proofs.lemmas.List.Sums.{sum_by-append, sum_by-cons}
use Rattle.std.proofs.lemmas.List.Sorted.{sum_by-IsPermutation}
use Rattle.cost_plan.specs.Words.{Instance}
use Rattle.cost_plan.specs.InTurn.{AreAlike, ComesBefore, CouldChange, is_of, AreSpared, TakesTurns}
use Rattle.cost_plan.specs.TurnOrder.{turn_of, IsUpTo, IsTurnOrder, IsKind, IsKindSpared, IsKindTurned, AreTurned}
use Rattle.cost_plan.proofs.OrderLemmas.{order_long, order_within, order_once, order_place}

-- a part of a list
abbrev part : List ℕ → ℕ → ℕ → List ℕ
part xs from to = take (to - from) (drop from xs)

part_long : (xs : List ℕ) (from to : ℕ) → to ≤ length xs → length (part xs from to) ≡ to - from
part_long xs from to within = omega (arith, length-take (to - from) (drop from xs), length-drop from xs)

part_at : (xs : List ℕ) (from to k : ℕ) → k < to - from → get_or (part xs from to) k 0 ≡ get_or xs (from + k) 0
part_at xs from to k less = get_or-take (to - from) (drop from xs) k 0 less ∙ get_or-drop from xs k 0

pub IsKind-part : (net : Instance) (live : ℕ → ℕ) (order : List ℕ) (from to : ℕ) → IsTurnOrder net live order → to ≤ length order → ((k : ℕ) → from ≤ k → k < to → AreAlike net (get_or order from 0) (get_or order k 0)) → IsKind net (part order from to)
IsKind-part net live order from to turns within alike =
    let size = part_long order from to within in
    record {
      within = λ k less. omega (arith, part_at order from to k (omega arith), order_within net live order turns (from + k) (omega arith));
      once = λ i j left right same.
          let e : from + i ≡ from + j = order_once net live order turns (from + i) (from + j) (omega arith) (omega arith) (sym (part_at order from to i (omega arith)) ∙ same ∙ part_at order from to j (omega arith)) in
          omega arith;
      alike = λ i j left right.
          let first = part_at order from to i (omega arith) in
          let second = part_at order from to j (omega arith) in
          let a = alike (from + i) (omega arith) (omega arith) in
          let b = alike (from + j) (omega arith) (omega arith) in
          (ap net.device first ∙ sym a.0 ∙ b.0 ∙ ap net.device (sym second), ap net.weight first ∙ sym a.1 ∙ b.1 ∙ ap net.weight (sym second));
    }

-- how many elements of a part pass a test
count_all : (p : ℕ → Bool) (xs : List ℕ) → ((k : ℕ) → k < length xs → p (get_or xs k 0) ≡ true) → count_by p xs ≡ length xs
count_all p [] all = refl
count_all p (x ∷ xs) all =
    let rest = count_all p xs (λ k less. all (suc k) (omega arith)) in
    let here : cond {A = ℕ} (p x) 1 0 ≡ 1 = ap (λ (b : Bool). cond {A = ℕ} b 1 0) (all 0 (omega arith)) in
    let front : count_by p (x ∷ xs) ≡ cond {A = ℕ} (p x) 1 0 + count_by p xs = sum_by-cons (λ y. cond (p y) 1 0) x xs in
    omega arith

count_part : (p : ℕ → Bool) (xs : List ℕ) (from to : ℕ) → count_by p (part xs from to) ≤ count_by p xs
count_part p xs from to =
    let f : ℕ → ℕ = λ x. cond (p x) 1 0 in
    let outer : count_by p xs ≡ count_by p (take from xs) + count_by p (drop from xs) = sym (ap (count_by p) (take-append-drop from xs)) ∙ sum_by-append f (take from xs) (drop from xs) in
    let inner : count_by p (drop from xs) ≡ count_by p (part xs from to) + count_by p (drop (to - from) (drop from xs)) = sym (ap (count_by p) (take-append-drop (to - from) (drop from xs))) ∙ sum_by-append f (take (to - from) (drop from xs)) (drop (to - from) (drop from xs)) in
    omega arith

AreSpared-kind : (net : Instance) (live : ℕ → ℕ) (order : List ℕ) (from to : ℕ) → IsTurnOrder net live order → to ≤ length order → ((k : ℕ) → from ≤ k → k < to → AreAlike net (get_or order from 0) (get_or order k 0)) → IsKindSpared net (part order from to) → AreSpared net (net.device (get_or order from 0)) (net.weight (get_or order from 0))
AreSpared-kind net live order from to turns within alike spared =
    let members = part order from to in
    let first = get_or order from 0 in
    let test : ℕ → Bool = is_of net (net.device first) (net.weight first) in
    let size = part_long order from to within in
    let kind = IsKind-part net live order from to turns within alike in
    let same : (k : ℕ) → k < length members → AreAlike net (get_or members k 0) first = λ k less.
    let at = part_at order from to k (omega arith) in
    let a = alike (from + k) (omega arith) (omega arith) in
    (ap net.device at ∙ sym a.0, ap net.weight at ∙ sym a.1) in
    let all = count_all test members (λ k less. and_from _ _ (eq-eqb _ _ (same k less).0) (eq-eqb _ _ (same k less).1)) in
    let counted : count_by test order ≡ count_by test (range_with_len 0 net.stays) = sum_by-IsPermutation (λ s. cond (test s) 1 0) (range_with_len 0 net.stays) order turns.all in
    let k = spared.1.0 in
    record {
      many = omega (arith, spared.0, all, counted, count_part test order from to);
      stay = get_or members k 0;
      within = kind.within k spared.1.1;
      of_device = (same k spared.1.1).0;
      of_weight = (same k spared.1.1).1;
      ends = spared.1.2;
    }

-- the same of a device and a weight under other names
AreSpared-named : (net : Instance) (d w e v : ℕ) → d ≡ e → w ≡ v → AreSpared net d w → AreSpared net e v
AreSpared-named net d w e v device weight spared = subst (λ x. AreSpared net e x) weight (subst (λ x. AreSpared net x w) device spared)

-- the same of stays under other names
in_turn_named : (net : Instance) (new : List ℕ) (a b s t : ℕ) → a ≡ s → b ≡ t → (CouldChange net (λ k. get_or new k 0) a b → get_or new a 0 ≤ get_or new b 0) → CouldChange net (λ k. get_or new k 0) s t → get_or new s 0 ≤ get_or new t 0
in_turn_named net new a b s t first second =
    let P : ℕ → Type 0 = λ x. CouldChange net (λ k. get_or new k 0) x b → get_or new x 0 ≤ get_or new b 0 in
    let Q : ℕ → Type 0 = λ x. CouldChange net (λ k. get_or new k 0) s x → get_or new s 0 ≤ get_or new x 0 in
    λ h. subst Q second (subst P first h)

pub AreTurned-more : (net : Instance) (live : ℕ → ℕ) (order old mid new : List ℕ) (from to : ℕ) → IsTurnOrder net live order → from < to → to ≤ length order → ((k : ℕ) → from ≤ k → k < to → AreAlike net (get_or order from 0) (get_or order k 0)) → (to < length order → ¬ AreAlike net (get_or order from 0) (get_or order to 0)) → AreTurned net order old mid from → IsKindTurned net (part order from to) mid new → AreTurned net order old new to
AreTurned-more net live order old mid new from to turns later within alike ends so_far turned =
    let size = part_long order from to within in
    let long = order_long net live order turns in
    let same : (i : ℕ) → i < from → get_or new (get_or order i 0) 0 ≡ get_or mid (get_or order i 0) 0 = λ i early. turned.others (get_or order i 0) (λ k less e.
    let equal : from + k ≡ i = order_once net live order turns (from + k) i (omega arith) (omega arith) (sym (part_at order from to k (omega arith)) ∙ e) in
    absurd (omega arith)) in
    record {
      long = turned.long ∙ so_far.long;
      admissible = turned.admissible;
      same_cost = turned.same_cost ∙ so_far.same_cost;
      apart = λ i j low high less. elim (cases_lt i from) [
        | inl early ↦ so_far.apart i j early (omega arith) less
        | inr own ↦ λ like.
            let here = alike i own low in
            let up = turns.up from to (omega arith) (omega arith) in
            let on = turns.up to j high less in
            let device : net.device (get_or order from 0) ≡ net.device (get_or order j 0) = here.0 ∙ like.0 in
            let weight : net.weight (get_or order from 0) ≡ net.weight (get_or order j 0) = here.1 ∙ like.1 in
            let same_device : net.device (get_or order from 0) ≡ net.device (get_or order to 0) = omega (arith, up.0, on.0) in
            let same_weight : net.weight (get_or order from 0) ≡ net.weight (get_or order to 0) = omega (arith, (up.1 same_device).0, (on.1 (sym same_device ∙ device)).0) in
            ends (omega arith) (same_device, same_weight)
      ];
      in_turn = λ i j up less like allowed could. elim (cases_lt j from) [
        | inl early ↦
            let first = same i (omega arith) in
            let second = same j early in
            omega (arith, first, second, so_far.in_turn i j up early like allowed (omega (arith, could.0), omega (arith, could.1), omega (arith, could.2), omega (arith, could.3)))
        | inr own ↦ elim (cases_lt i from) [
          | inl before ↦ absurd (so_far.apart i j before own (omega arith) like)
          | inr both ↦
              let here = alike i both (omega arith) in
              let first : get_or (part order from to) (i - from) 0 ≡ get_or order i 0 = part_at order from to (i - from) (omega arith) ∙ ap (λ (n : ℕ). get_or order n 0) (omega arith) in
              let second : get_or (part order from to) (j - from) 0 ≡ get_or order j 0 = part_at order from to (j - from) (omega arith) ∙ ap (λ (n : ℕ). get_or order n 0) (omega arith) in
              let spared : ¬ IsKindSpared net (part order from to) = λ many. allowed (AreSpared-named net _ _ _ _ here.0 here.1 (AreSpared-kind net live order from to turns within alike many)) in
              in_turn_named net new _ _ _ _ first second (turned.in_turn spared (i - from) (j - from) (omega arith) (omega arith)) could
        ]
      ];
    }

IsUpTo-at : (net : Instance) (live : ℕ → ℕ) (a b s t : ℕ) → a ≡ s → b ≡ t → IsUpTo (turn_of net live a) (turn_of net live b) → IsUpTo (turn_of net live s) (turn_of net live t)
IsUpTo-at net live a b s t first second h = subst (λ x. IsUpTo (turn_of net live s) (turn_of net live x)) second (subst (λ x. IsUpTo (turn_of net live x) (turn_of net live b)) first h)

-- what comes before another doesn't come after it
not_before : (net : Instance) (live : ℕ → ℕ) (s t : ℕ) → AreAlike net s t → ComesBefore live s t → IsUpTo (turn_of net live t) (turn_of net live s) → ⊥
not_before net live s t like before up =
    let tied = (up.1 (sym like.0)).1 (sym like.1) in
    elim before [
      | inl less ↦ absurd (omega (arith, tied.0))
      | inr same ↦ absurd (omega (arith, same.1, tied.1 (sym same.0)))
    ]

-- a schedule by its list
turns_named : (net : Instance) (f : ℕ → ℕ) (new : List ℕ) (a b s t : ℕ) → ((k : ℕ) → f k ≡ get_or new k 0) → a ≡ s → b ≡ t → (AreAlike net a b → ¬ AreSpared net (net.device a) (net.weight a) → CouldChange net (λ k. get_or new k 0) a b → get_or new a 0 ≤ get_or new b 0) → AreAlike net s t → ¬ AreSpared net (net.device s) (net.weight s) → CouldChange net f s t → f s ≤ f t
turns_named net f new a b s t is first second h like allowed could =
    let P : ℕ → Type 0 = λ x. AreAlike net x b → ¬ AreSpared net (net.device x) (net.weight x) → CouldChange net (λ k. get_or new k 0) x b → get_or new x 0 ≤ get_or new b 0 in
    let Q : ℕ → Type 0 = λ x. AreAlike net s x → ¬ AreSpared net (net.device s) (net.weight s) → CouldChange net (λ k. get_or new k 0) s x → get_or new s 0 ≤ get_or new x 0 in
    let at = subst Q second (subst P first h) in
    omega (arith, is s, is t, at like allowed (omega (arith, could.0, is t), omega (arith, could.1, is t), omega (arith, could.2, is s), omega (arith, could.3, is s)))

-- in the order, so in all
pub TakesTurns-made : (net : Instance) (live f : ℕ → ℕ) (order old new : List ℕ) → IsTurnOrder net live order → AreTurned net order old new net.stays → ((s : ℕ) → f s ≡ get_or new s 0) → TakesTurns net live f
TakesTurns-made net live f order old new turns turned is = λ s t first second like allowed before could.
    let long = order_long net live order turns in
    let a = order_place net live order turns s first in
    let b = order_place net live order turns t second in
    let i = a.0 in
    let j = b.0 in
    let up : i < j = elim (cases_lt i j) [
      | inl less ↦ less
      | inr back ↦
          let compared = IsUpTo-at net live _ _ _ _ b.2 a.2 (turns.up j i back (omega (arith, a.1))) in
          absurd (not_before net live s t like before compared)
    ] in
    turns_named net f new _ _ s t is a.2 b.2 (turned.in_turn i j up (omega (arith, b.1))) like allowed could

pub AreTurned-ended : (net : Instance) (live : ℕ → ℕ) (order old new : List ℕ) (from : ℕ) → IsTurnOrder net live order → length order ≤ from → from ≤ length order → AreTurned net order old new from → AreTurned net order old new net.stays
AreTurned-ended net live order old new from turns past within turned =
    let long = order_long net live order turns in
    let whole : from ≡ net.stays = omega arith in
    subst (AreTurned net order old new) whole turned
