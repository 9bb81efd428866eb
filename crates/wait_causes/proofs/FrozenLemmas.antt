-- the freezes by what was found of a history are its freezes
use mathlib.Core.Path.{fun_ext}
use Rattle.std.proofs.Common.{◌≡◌, ℕ, zero, suc, ◌+◌, ◌-◌, ◌*◌, ◌<◌, Bool, true, List, [], ◌∷◌, ◌++◌, map, length, refl, sym, ap, ◌∙◌, arith, zip, filter, flat_map, count_by, sum_by, ◌==◌, ◌&&◌, nat_le, nat_lt, All}
use Rattle.std.specs.List.{range_with_len}
use Rattle.std.proofs.lemmas.List.Sums.{sum_by-cons}
use Rattle.std.proofs.lemmas.List.Elements.{All-cons, All-filter, All-weaker}
use Rattle.wait_causes.specs.Words.{Topology, round, history_rules, is_legal, stays_begun, Event, Passage, cause_in, flag_in, numbers, is_cause, WaitCause, FreezeKind}
use Rattle.wait_causes.specs.Causes.{round_cause}
use Rattle.wait_causes.specs.Freezes.{is_frozen_in, begins, behind, rounds_between, cause_of, grouping_of, stay_cost, cost_in, freeze_from, freezes_at, freezes_by, freezes_of, found_of, freezes_found, freezes}
use Rattle.wait_causes.specs.Stays.{explained_stay, explained_stays, ExplainedStay}
use Rattle.wait_causes.specs.Tables.{number, stays_of}
use Rattle.round_net.specs.declared.freeze_kind.FreezeKind.TheVariants.{Error, Caller, Adapter}
use Rattle.wait_causes.proofs.CauseLemmas.{cause_in-table, flag_in-table}
use Rattle.wait_causes.proofs.StayLemmas.{devices_in_range}
use Rattle.round_net.proofs.FoundLemmas.{map-same}

-- the causes of a stay's device are the same
abbrev Agree : (ℕ → ℕ → WaitCause) → (ℕ → ℕ → WaitCause) → ExplainedStay → Type 0
Agree f g s = f s.device ≡ g s.device

cost_same : (f g : ℕ → ℕ → WaitCause) (cause : WaitCause) (rounds : List ℕ) (stays : List ExplainedStay) → All (Agree f g) stays → cost_in f cause rounds stays ≡ cost_in g cause rounds stays
unfolding cost_in
cost_same f g cause rounds [] all = refl
cost_same f g cause rounds (s ∷ ss) all =
    sum_by-cons (stay_cost f cause rounds) s ss
    ∙ ap (λ n. n + sum_by (stay_cost f cause rounds) ss) (ap (λ (h : ℕ → WaitCause). s.weight * count_by (λ r. nat_le s.arrival r && (nat_lt r s.live && is_cause cause (h r))) rounds) (all 0 s (omega arith)))
    ∙ ap (λ n. stay_cost g cause rounds s + n) (cost_same f g cause rounds ss (λ k d lt. all (suc k) d (omega arith)))
    ∙ sym (sum_by-cons (stay_cost g cause rounds) s ss)

at_same : (kind : FreezeKind) (n : ℕ) (frozen : ℕ → Bool) (last : ℕ) (f g : ℕ → ℕ → WaitCause) (there : List ExplainedStay) → All (Agree f g) there → freezes_at kind n frozen last f there ≡ freezes_at kind n frozen last g there
unfolding freezes_at freeze_from
at_same kind n frozen last f g there all =
    map-same (freeze_from kind n frozen last f there) (freeze_from kind n frozen last g there)
    (λ r. ap (λ k. record { kind = kind; number = n; first = r; last = behind frozen last r - 1; cost = k }) (cost_same f g (cause_of kind) (rounds_between r (behind frozen last r)) there all))
    (filter (begins frozen) (rounds_between 1 last))

flat_same : {X : Type 0} (f g : ℕ → List X) (a n : ℕ) → ((k : ℕ) → k < a + n → f k ≡ g k) → flat_map f (range_with_len a n) ≡ flat_map g (range_with_len a n)
flat_same f g a zero same = refl
flat_same f g a (suc n) same =
    ap (λ xs. xs ++ flat_map f (range_with_len (a + 1) n)) (same a (omega arith))
    ∙ ap (λ xs. g a ++ xs) (flat_same f g (a + 1) n (λ k lt. same k (omega arith)))

by_same : (kind : FreezeKind) (frozen other : ℕ → ℕ → Bool) (count last : ℕ) (f g : ℕ → ℕ → WaitCause) (stays : List ExplainedStay) → ((n : ℕ) → n < count → frozen n ≡ other n) → All (Agree f g) stays →
    freezes_by kind frozen count last f stays ≡ freezes_by kind other count last g stays
unfolding freezes_by
by_same kind frozen other count last f g stays same all =
    flat_same (λ n. freezes_at kind n (frozen n) last f (stays_of (grouping_of kind) stays n)) (λ n. freezes_at kind n (other n) last g (stays_of (grouping_of kind) stays n)) 0 count
    (λ n lt. ap (λ (h : ℕ → Bool). freezes_at kind n h last f (stays_of (grouping_of kind) stays n)) (same n (omega arith))
    ∙ at_same kind n (other n) last f g (stays_of (grouping_of kind) stays n) (All-filter (λ s. number (grouping_of kind) s == n) (Agree f g) stays all))

-- each stay is of a device of the configuration
pub kept_devices : (c : Topology) (es : List Event) (most : ℕ) (ps : List Passage) (best : List ℕ) → All (λ (p : Passage). p.device < most) ps → All (λ (s : ExplainedStay). s.device < most) (map (λ (m : Passage × ℕ). explained_stay c es m.0 m.1) (zip ps best))
unfolding explained_stay
kept_devices c es most [] best all = λ k d lt. absurd (omega arith)
kept_devices c es most (p ∷ ps) [] all = λ k d lt. absurd (omega arith)
kept_devices c es most (p ∷ ps) (b ∷ bs) all =
    All-cons (λ (s : ExplainedStay). s.device < most) (explained_stay c es p b) (map (λ (m : Passage × ℕ). explained_stay c es m.0 m.1) (zip ps bs)) (all 0 p (omega arith))
    (kept_devices c es most ps bs (λ k d lt. all (suc k) d (omega arith)))

kind_found : (c : Topology) (es : List Event) (best : List ℕ) → is_legal history_rules c es ≡ true → (kind : FreezeKind) →
    found_of kind c es (explained_stays c es best) ≡ freezes_of kind c es (explained_stays c es best)
unfolding explained_stays
kind_found c es best legal kind =
    by_same kind (flag_in kind c es) (is_frozen_in kind es) (numbers kind c) (round es) (cause_in c es) (round_cause c es) (explained_stays c es best)
    (λ n lt. fun_ext (λ r. flag_in-table kind c es n r lt))
    (All-weaker (λ (s : ExplainedStay). s.device < length c.devices) (Agree (cause_in c es) (round_cause c es))
    (λ s lt. fun_ext (λ r. cause_in-table c es s.device r lt)) (explained_stays c es best)
    (kept_devices c es (length c.devices) (stays_begun es) best (devices_in_range history_rules c es legal)))

-- one kind after the other they are all
pub all_found : (c : Topology) (es : List Event) (best : List ℕ) → is_legal history_rules c es ≡ true → freezes_found c es (explained_stays c es best) ≡ freezes c es (explained_stays c es best)
unfolding freezes
all_found c es best legal = rw (kind_found c es best legal Error, kind_found c es best legal Caller, kind_found c es best legal Adapter) refl
