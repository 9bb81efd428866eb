-- how much there may be to come: less after each turn
use Rattle.std.proofs.Common.{◌≡◌, ℕ, zero, suc, ◌+◌, ◌<◌, ◌≤◌, Bool, true, false, List, [], ◌∷◌, length, set, sym, ap, ◌∙◌, subst, arith, Some, length-append, slice_get}
use Rattle.std.proofs.lemmas.List.Sums.{sum_by-cons}
use Rattle.sim_worker.specs.Words.{Event, Scenario, Transport, IsTaken}
use Rattle.sim_worker.specs.Work.{Work, fresh, fresh_drivers, left, Lane, Driver}

fresh_most : (b : Bool) → fresh b ≤ 1
fresh_most true = omega arith
fresh_most false = omega arith

pub few_fresh : (ws : List Driver) → fresh_drivers ws ≤ length ws
few_fresh [] = omega arith
few_fresh (w ∷ ws) = omega (arith, sum_by-cons (λ (x : Driver). fresh x.refused) w ws, fresh_most w.refused, few_fresh ws)

-- a driver that is marked as refused
pub fewer_fresh : (ws : List Driver) (d : ℕ) (w new : Driver) → slice_get ws d ≡ Some w → w.refused ≡ false → new.refused ≡ true → fresh_drivers (set ws d new) < fresh_drivers ws
fewer_fresh [] d w new h before after = absurd (cc)
fewer_fresh (x ∷ ws) zero w new h before after =
    let same : x ≡ w = cc in
    let one : fresh x.refused ≡ 1 = ap (λ (v : Driver). fresh v.refused) same ∙ ap fresh before in
    let none : fresh new.refused ≡ 0 = ap fresh after in
    omega (arith, sum_by-cons (λ (v : Driver). fresh v.refused) x ws, sum_by-cons (λ (v : Driver). fresh v.refused) new ws, one, none)
fewer_fresh (x ∷ ws) (suc d) w new h before after =
    omega (arith, sum_by-cons (λ (v : Driver). fresh v.refused) x ws, sum_by-cons (λ (v : Driver). fresh v.refused) x (set ws d new), fewer_fresh ws d w new h before after)

pub same_fresh : (ws : List Driver) (d : ℕ) (w new : Driver) → slice_get ws d ≡ Some w → new.refused ≡ w.refused → fresh_drivers (set ws d new) ≡ fresh_drivers ws
same_fresh [] d w new h same = absurd (cc)
same_fresh (x ∷ ws) zero w new h same =
    let as' : x ≡ w = cc in
    let one : fresh new.refused ≡ fresh x.refused = ap fresh same ∙ sym (ap (λ (v : Driver). fresh v.refused) as') in
    omega (arith, sum_by-cons (λ (v : Driver). fresh v.refused) x ws, sum_by-cons (λ (v : Driver). fresh v.refused) new ws, one)
same_fresh (x ∷ ws) (suc d) w new h same =
    omega (arith, sum_by-cons (λ (v : Driver). fresh v.refused) x ws, sum_by-cons (λ (v : Driver). fresh v.refused) x (set ws d new), same_fresh ws d w new h same)

abbrev pub work : Scenario → Transport → List Driver → List Lane → Bool → Work
work s t ds ls r = record { script = s; transport = t; drivers = ds; lanes = ls; refused = r }

-- one event more
pub left-event : (s : Scenario) (t new : Transport) (ds after : List Driver) (ls lanes : List Lane) (r refused : Bool) (e : Event) (old : Work) → work s t ds ls r ≡ old →
    IsTaken t e new → length t.events < t.rules.events → length after ≡ 8 → left (work s new after lanes refused) < left old
unfolding left
left-event s t new ds after ls lanes r refused e old is made room eight =
    let more : length new.events ≡ length t.events + 1 = ap (λ (v : Transport). length v.events) made.1 ∙ length-append t.events (e ∷ []) in
    let most : new.rules.events ≡ t.rules.events = ap (λ (v : Transport). v.rules.events) made.1 in
    subst (λ (w : Work). left (work s new after lanes refused) < left w) is (omega (arith, more, most, room, eight, few_fresh after, fresh_most refused))

-- nothing but fewer that weren't refused
pub left-driver : (s : Scenario) (t new : Transport) (ds after : List Driver) (ls : List Lane) (r : Bool) (old : Work) → work s t ds ls r ≡ old → new ≡ t → fresh_drivers after < fresh_drivers ds → left (work s new after ls r) < left old
unfolding left
left-driver s t new ds after ls r old is same fewer =
    subst (λ (w : Work). left (work s new after ls r) < left w) is (subst (λ (v : Transport). left (work s v after ls r) < left (work s t ds ls r)) (sym same) (omega (arith, fewer)))

pub left-recovery : (s : Scenario) (t new : Transport) (ds : List Driver) (ls : List Lane) (r : Bool) (old : Work) → work s t ds ls r ≡ old → new ≡ t → r ≡ false → left (work s new ds ls true) < left old
unfolding left
left-recovery s t new ds ls r old is same before =
    subst (λ (w : Work). left (work s new ds ls true) < left w) is (subst (λ (v : Transport). left (work s v ds ls true) < left (work s t ds ls r)) (sym same) (omega (arith, ap fresh before)))

pub left-same : (s : Scenario) (t : Transport) (ds after : List Driver) (ls lanes : List Lane) (r : Bool) (old : Work) → work s t ds ls r ≡ old → fresh_drivers after ≡ fresh_drivers ds → left (work s t after lanes r) ≡ left old
unfolding left
left-same s t ds after ls lanes r old is same =
    subst (λ (w : Work). left (work s t after lanes r) ≡ left w) is (omega (arith, same))
