-- what is counted of the rounds before each one
use mathlib.Core.Path.{Path}
use Rattle.std.proofs.Common.{◌≡◌, ℕ, zero, suc, ◌+◌, ◌-◌, ◌<◌, ◌≤◌, Bool, List, [], ◌∷◌, ◌++◌, map, length, get_or, refl, sym, ap, ◌∙◌, arith, count_by, zero-add, Option, Some, None}
use Rattle.std.specs.List.{range_with_len}
use Rattle.std.proofs.lemmas.List.{map-append}
use Rattle.std.proofs.lemmas.List.FromFn.{map-range_with_len_more, get_or-map-range_with_len, length-map-range_with_len}
use Rattle.round_net.proofs.CountLemmas.{count_by-append}
use Rattle.event_rules.proofs.ListFacts.{count_by-push, range_with_len-push}
use Rattle.wait_causes.specs.Words.{is_cause, WaitCause, Error, Caller, AdapterFrozen, DeviceStopped, AdapterStopped, LinkStopped, DeviceFull, AdapterFull, LinkFull, NotAsked}
use Rattle.wait_causes.specs.Behind.{is_behind, behind_by, behind_since, with_behind, all_behind, Behind, LessUrgent, Equal, MoreUrgent, FullBehind}
use Rattle.wait_causes.specs.Stays.{rounds_by, rounds_since}
use Rattle.wait_causes.specs.Totals.{totals_by}
use Rattle.wait_causes.specs.declared.explained_stay.CauseRounds.{CauseRounds}
use Rattle.wait_causes.proofs.StayLemmas.{same_rounds}

-- the totals so far, and one more
pub totals_none : {X T : Type 0} (count : List X → T) (of : ℕ → X) → [] ≡ totals_by count of 0
unfolding totals_by
totals_none count of = refl

pub totals_more : {X T : Type 0} (count : List X → T) (of : ℕ → X) (n : ℕ) (old new : List T) (t : T) → old ≡ totals_by count of n → new ≡ old ++ t ∷ [] → t ≡ count (map of (range_with_len 1 n)) → new ≡ totals_by count of (n + 1)
unfolding totals_by
totals_more count of n old new t was is here =
    is ∙ rw (was, here) (sym (map-range_with_len_more (λ before. count (map of (range_with_len 1 before))) 0 n n (zero-add n)))

pub total_at : {X T : Type 0} (count : List X → T) (of : ℕ → X) (rounds before : ℕ) (d : T) → before < rounds → get_or (totals_by count of rounds) before d ≡ count (map of (range_with_len 1 before))
unfolding totals_by
total_at count of rounds before d lt = get_or-map-range_with_len (λ before. count (map of (range_with_len 1 before))) 0 rounds before before d lt (zero-add before)

pub totals_length : {X T : Type 0} (count : List X → T) (of : ℕ → X) (rounds : ℕ) → length (totals_by count of rounds) ≡ rounds
unfolding totals_by
totals_length count of rounds = length-map-range_with_len (λ before. count (map of (range_with_len 1 before))) 0 rounds

-- rounds in a row, cut in two
range-cut : (a m n : ℕ) → range_with_len a (m + n) ≡ range_with_len a m ++ range_with_len (a + m) n
range-cut a zero n =
    let plain : 0 + n ≡ n = omega arith in
    let same : a + 0 ≡ a = omega arith in
    rw (plain, same) refl
range-cut a (suc m) n =
    let more : suc m + n ≡ suc (m + n) = omega arith in
    let next : a + suc m ≡ a + 1 + m = omega arith in
    rw (more, next) (ap (λ xs. a ∷ xs) (range-cut (a + 1) m n))

-- what is counted from an arrival on: what is counted in all, less what is counted before it
pub count_between : {X : Type 0} (p : X → Bool) (f : ℕ → X) (a l : ℕ) → 1 ≤ a → a < l →
    count_by p (map f (range_with_len 1 (l - 1))) - count_by p (map f (range_with_len 1 (a - 1))) ≡ count_by p (map f (range_with_len a (l - a)))
count_between p f a l some lt =
    let long : l - 1 ≡ a - 1 + (l - a) = omega arith in
    let from : 1 + (a - 1) ≡ a = omega arith in
    let cut : map f (range_with_len 1 (l - 1)) ≡ map f (range_with_len 1 (a - 1)) ++ map f (range_with_len a (l - a)) =
    ap (λ n. map f (range_with_len 1 n)) long ∙ ap (map f) (range-cut 1 (a - 1) (l - a)) ∙ map-append f (range_with_len 1 (a - 1)) (range_with_len (1 + (a - 1)) (l - a))
    ∙ ap (λ b. map f (range_with_len 1 (a - 1)) ++ map f (range_with_len b (l - a))) from in
    let both = ap (count_by p) cut ∙ count_by-append p (map f (range_with_len 1 (a - 1))) (map f (range_with_len a (l - a))) in
    omega (arith, both)

rounds_between : (f : ℕ → WaitCause) (a l : ℕ) → 1 ≤ a → a < l →
    rounds_since (rounds_by (map f (range_with_len 1 (l - 1)))) (rounds_by (map f (range_with_len 1 (a - 1)))) ≡ rounds_by (map f (range_with_len a (l - a)))
rounds_between f a l some lt =
    same_rounds _ _ _ _ _ _ _ _ _ _ _ _ _ _ _ _ _ _ _ _
    (count_between (is_cause Error) f a l some lt) (count_between (is_cause Caller) f a l some lt) (count_between (is_cause AdapterFrozen) f a l some lt)
    (count_between (is_cause DeviceStopped) f a l some lt) (count_between (is_cause AdapterStopped) f a l some lt) (count_between (is_cause LinkStopped) f a l some lt)
    (count_between (is_cause DeviceFull) f a l some lt) (count_between (is_cause AdapterFull) f a l some lt) (count_between (is_cause LinkFull) f a l some lt)
    (count_between (is_cause NotAsked) f a l some lt)

same_behind : (a b c a' b' c' : ℕ) → a ≡ a' → b ≡ b' → c ≡ c' → Path FullBehind (record { less_urgent = a; equal = b; more_urgent = c }) (record { less_urgent = a'; equal = b'; more_urgent = c' })
same_behind a b c a' b' c' ea eb ec = rw (ea, eb, ec) refl

behind_between : (f : ℕ → Option Behind) (a l : ℕ) → 1 ≤ a → a < l →
    behind_since (behind_by (map f (range_with_len 1 (l - 1)))) (behind_by (map f (range_with_len 1 (a - 1)))) ≡ behind_by (map f (range_with_len a (l - a)))
behind_between f a l some lt =
    same_behind _ _ _ _ _ _ (count_between (is_behind LessUrgent) f a l some lt) (count_between (is_behind Equal) f a l some lt) (count_between (is_behind MoreUrgent) f a l some lt)

-- by two totals
pub rounds_found : (f : ℕ → WaitCause) (totals : List CauseRounds) (a l : ℕ) (d e : CauseRounds) → 1 ≤ a → a < l → l ≤ length totals → totals ≡ totals_by rounds_by f (length totals) →
    rounds_since (get_or totals (l - 1) d) (get_or totals (a - 1) e) ≡ rounds_by (map f (range_with_len a (l - a)))
rounds_found f totals a l d e some lt last are =
    let end : get_or totals (l - 1) d ≡ rounds_by (map f (range_with_len 1 (l - 1))) = ap (λ (xs : List CauseRounds). get_or xs (l - 1) d) are ∙ total_at rounds_by f (length totals) (l - 1) d (omega arith) in
    let start : get_or totals (a - 1) e ≡ rounds_by (map f (range_with_len 1 (a - 1))) = ap (λ (xs : List CauseRounds). get_or xs (a - 1) e) are ∙ total_at rounds_by f (length totals) (a - 1) e (omega arith) in
    ap (λ (x : CauseRounds). rounds_since x (get_or totals (a - 1) e)) end ∙ ap (λ (x : CauseRounds). rounds_since (rounds_by (map f (range_with_len 1 (l - 1)))) x) start ∙ rounds_between f a l some lt

pub behind_found : (f : ℕ → Option Behind) (totals : List FullBehind) (a l : ℕ) (d e : FullBehind) → 1 ≤ a → a < l → l ≤ length totals → totals ≡ totals_by behind_by f (length totals) →
    behind_since (get_or totals (l - 1) d) (get_or totals (a - 1) e) ≡ behind_by (map f (range_with_len a (l - a)))
behind_found f totals a l d e some lt last are =
    let end : get_or totals (l - 1) d ≡ behind_by (map f (range_with_len 1 (l - 1))) = ap (λ (xs : List FullBehind). get_or xs (l - 1) d) are ∙ total_at behind_by f (length totals) (l - 1) d (omega arith) in
    let start : get_or totals (a - 1) e ≡ behind_by (map f (range_with_len 1 (a - 1))) = ap (λ (xs : List FullBehind). get_or xs (a - 1) e) are ∙ total_at behind_by f (length totals) (a - 1) e (omega arith) in
    ap (λ (x : FullBehind). behind_since x (get_or totals (a - 1) e)) end ∙ ap (λ (x : FullBehind). behind_since (behind_by (map f (range_with_len 1 (l - 1)))) x) start ∙ behind_between f a l some lt

-- no rounds from an arrival on
pub none_between : {X T : Type 0} (count : List X → T) (f : ℕ → X) (a l : ℕ) → l ≤ a → count [] ≡ count (map f (range_with_len a (l - a)))
none_between count f a l le =
    let none : l - a ≡ 0 = omega arith in
    rw none refl

-- what is behind others, one round more
behind_by-push : (xs : List (Option Behind)) (x : Option Behind) → behind_by (xs ++ x ∷ []) ≡ with_behind (behind_by xs) x
behind_by-push xs None = simp (count_by-push) (same_behind _ _ _ _ _ _ (omega arith) (omega arith) (omega arith))
behind_by-push xs (Some LessUrgent) = simp (count_by-push) (same_behind _ _ _ _ _ _ (omega arith) (omega arith) (omega arith))
behind_by-push xs (Some Equal) = simp (count_by-push) (same_behind _ _ _ _ _ _ (omega arith) (omega arith) (omega arith))
behind_by-push xs (Some MoreUrgent) = simp (count_by-push) (same_behind _ _ _ _ _ _ (omega arith) (omega arith) (omega arith))

pub behind_step : (f : ℕ → Option Behind) (a n : ℕ) (old new : FullBehind) (x : Option Behind) → old ≡ behind_by (map f (range_with_len a n)) → new ≡ with_behind old x → x ≡ f (a + n) → new ≡ behind_by (map f (range_with_len a (n + 1)))
behind_step f a n old new x was is here =
    is ∙ rw (was, here) (sym (behind_by-push (map f (range_with_len a n)) (f (a + n))))
    ∙ ap behind_by (sym (ap (map f) (range_with_len-push a n) ∙ map-append f (range_with_len a n) ((a + n) ∷ [])))

more_behind : (n : FullBehind) (x : Option Behind) → all_behind (with_behind n x) ≤ all_behind n + 1
more_behind n None = omega arith
more_behind n (Some LessUrgent) = omega arith
more_behind n (Some Equal) = omega arith
more_behind n (Some MoreUrgent) = omega arith

-- there are no more of them than rounds
pub few_behind : (f : ℕ → Option Behind) (a n : ℕ) → all_behind (behind_by (map f (range_with_len a n))) ≤ n
few_behind f a zero = omega arith
few_behind f a (suc n) =
    let more : suc n ≡ n + 1 = omega arith in
    let one = behind_step f a n (behind_by (map f (range_with_len a n))) (with_behind (behind_by (map f (range_with_len a n))) (f (a + n))) (f (a + n)) refl refl refl in
    let few = more_behind (behind_by (map f (range_with_len a n))) (f (a + n)) in
    let same : all_behind (behind_by (map f (range_with_len a (suc n)))) ≡ all_behind (with_behind (behind_by (map f (range_with_len a n))) (f (a + n))) = ap (λ k. all_behind (behind_by (map f (range_with_len a k)))) more ∙ ap all_behind (sym one) in
    omega (arith, few_behind f a n, few, same)
