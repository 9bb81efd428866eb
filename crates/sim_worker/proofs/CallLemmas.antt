-- how many calls the drivers made, by the rows that they have done
use Rattle.std.proofs.Common.{◌≡◌, ℕ, zero, suc, ◌+◌, ◌<◌, ◌≤◌, true, false, cond, List, [], ◌∷◌, ◌++◌, length, get_or, replicate, refl, ap, ◌∙◌, arith, Some, map, set, take, drop, slice_get, length-append, count_by}
use Rattle.std.proofs.lemmas.List.Elements.{filter_map-append}
use Rattle.std.proofs.lemmas.List.Sums.{sum_by-cons}
use Rattle.event_rules.proofs.ListFacts.{count_by-push, filter_map-push}
use Rattle.sim_worker.specs.Words.{Event, Adjust, Done, Finish, FreezeDev, FreezeSim, ReleaseDev, ReleaseSim, Requeue, Send, Submit, Tick, Topology, is_ruled, Step}
use Rattle.trace_file.specs.declared.step.Step.TheVariants as step
use Rattle.sim_worker.specs.Endings.{calls_asked, is_call}
use Rattle.sim_worker.specs.Logs.{act, acts}
use Rattle.sim_worker.specs.Work.{calls_done, calls_of, Driver}
use Rattle.sim_worker.proofs.ListFacts.{take_and_drop}
use Rattle.sim_worker.proofs.RunListFacts.{some_is, take_one, take_whole}

calls_of-none : (n : ℕ) → calls_of [] n ≡ 0
calls_of-none zero = refl
calls_of-none (suc n) = refl

-- a row that calls is one call more, and a pause none
pub calls_of-act : (steps : List Step) (n : ℕ) (e : Event) → slice_get steps n ≡ Some (step.Act e) → calls_of steps (n + 1) ≡ calls_of steps n + 1
calls_of-act steps n e there =
    ap (λ l. length (acts l)) (take_one steps n (step.Act e) there).1
    ∙ ap (λ (l : List Event). length l) (filter_map-push act (take n steps) (step.Act e)) ∙ length-append (acts (take n steps)) (e ∷ [])

pub calls_of-pause : (steps : List Step) (n r : ℕ) → slice_get steps n ≡ Some (step.Pause r) → calls_of steps (n + 1) ≡ calls_of steps n
calls_of-pause steps n r there =
    let more = length-append (acts (take n steps)) [] in
    ap (λ l. length (acts l)) (take_one steps n (step.Pause r) there).1
    ∙ ap (λ (l : List Event). length l) (filter_map-push act (take n steps) (step.Pause r)) ∙ omega (arith, more)

-- the first rows call no more than all
few_calls : (steps : List Step) (n : ℕ) → calls_of steps n ≤ length (acts steps)
few_calls steps n =
    let parts = ap (λ l. length (acts l)) (take_and_drop steps n) in
    let apart = ap (λ (l : List Event). length l) (filter_map-append act (take n steps) (drop n steps)) in
    omega (arith, parts, apart, length-append (acts (take n steps)) (acts (drop n steps)))

more_to_call : (steps : List Step) (n : ℕ) (e : Event) → slice_get steps n ≡ Some (step.Act e) → calls_of steps n < length (acts steps)
more_to_call steps n e there = omega (arith, calls_of-act steps n e there, few_calls steps (n + 1))

-- where one driver has done other rows
pub calls_done-set : (ws : List Driver) (ls : List (List Step)) (d : ℕ) (w y : Driver) → slice_get ws d ≡ Some w →
    calls_done (set ws d y) ls + calls_of (get_or ls d []) w.done ≡ calls_done ws ls + calls_of (get_or ls d []) y.done
calls_done-set [] ls d w y h = absurd (cc)
calls_done-set (v ∷ ws) [] zero w y h = omega (arith, calls_of-none w.done, calls_of-none y.done)
calls_done-set (v ∷ ws) [] (suc d) w y h = omega (arith, calls_of-none w.done, calls_of-none y.done)
calls_done-set (v ∷ ws) (l ∷ ls) zero w y h = let same = ap (λ (x : Driver). calls_of l x.done) (some_is v w h) in omega (arith, same)
calls_done-set (v ∷ ws) (l ∷ ls) (suc d) w y h = omega (arith, calls_done-set ws ls d w y h)

-- drivers that have done the same rows
pub calls_done-same : (ws vs : List Driver) (ls : List (List Step)) → map (λ (w : Driver). w.done) ws ≡ map (λ (w : Driver). w.done) vs → calls_done ws ls ≡ calls_done vs ls
calls_done-same [] [] ls h = refl
calls_done-same [] (v ∷ vs) ls h = absurd (cc)
calls_done-same (w ∷ ws) [] ls h = absurd (cc)
calls_done-same (w ∷ ws) (v ∷ vs) [] h = refl
calls_done-same (w ∷ ws) (v ∷ vs) (l ∷ ls) h =
    let one : w.done ≡ v.done = ap (λ ns. get_or ns 0 0) h in
    omega (arith, ap (calls_of l) one, calls_done-same ws vs ls (ap (drop 1) h))

-- before any row
pub none_done : (n : ℕ) (ls : List (List Step)) → calls_done (replicate n (record { done = 0; refused = false })) ls ≡ 0
none_done zero ls = refl
none_done (suc n) [] = refl
none_done (suc n) (l ∷ ls) = omega (arith, none_done n ls)

-- no more calls were made than are asked for, and fewer where a driver stands at a call
few_done : (ws : List Driver) (ls : List (List Step)) → calls_done ws ls ≤ calls_asked ls
few_done [] ls = omega arith
few_done (w ∷ ws) [] = omega arith
few_done (w ∷ ws) (l ∷ ls) = omega (arith, sum_by-cons (λ (x : List Step). length (acts x)) l ls, few_calls l w.done, few_done ws ls)

pub fewer_done : (ws : List Driver) (ls : List (List Step)) (d : ℕ) (w : Driver) (e : Event) → slice_get ws d ≡ Some w → slice_get (get_or ls d []) w.done ≡ Some (step.Act e) → calls_done ws ls < calls_asked ls
fewer_done [] ls d w e h there = absurd (cc)
fewer_done (v ∷ ws) [] zero w e h there = absurd (cc)
fewer_done (v ∷ ws) [] (suc d) w e h there = absurd (cc)
fewer_done (v ∷ ws) (l ∷ ls) zero w e h there =
    let same = ap (λ (x : Driver). calls_of l x.done) (some_is v w h) in
    omega (arith, sum_by-cons (λ (x : List Step). length (acts x)) l ls, same, more_to_call l w.done e there, few_done ws ls)
fewer_done (v ∷ ws) (l ∷ ls) (suc d) w e h there =
    omega (arith, sum_by-cons (λ (x : List Step). length (acts x)) l ls, few_calls l v.done, fewer_done ws ls d w e h there)

-- all that are asked for, where each driver has done its rows
pub all_done : (ws : List Driver) (ls : List (List Step)) → length ws ≡ length ls → ((d : ℕ) (w : Driver) → slice_get ws d ≡ Some w → length (get_or ls d []) ≤ w.done) → calls_done ws ls ≡ calls_asked ls
all_done [] [] same h = refl
all_done [] (l ∷ ls) same h = absurd (omega arith)
all_done (w ∷ ws) [] same h = absurd (omega arith)
all_done (w ∷ ws) (l ∷ ls) same h =
    let whole = ap (λ x. length (acts x)) (take_whole l w.done (h 0 w refl)) in
    omega (arith, sum_by-cons (λ (x : List Step). length (acts x)) l ls, whole, all_done ws ls (omega (arith, same)) (λ d x at. h (suc d) x at))

-- what a driver may ask for is a call
pub ruled_call : (c : Topology) (d : ℕ) (e : Event) → is_ruled c d (step.Act e) ≡ true → is_call e ≡ true
ruled_call c d (Send lane ccb) ruled = absurd (cc)
ruled_call c d (Done ccb outcome) ruled = absurd (cc)
ruled_call c d (Requeue ccb) ruled = absurd (cc)
ruled_call c d (Finish ccb) ruled = absurd (cc)
ruled_call c d Tick ruled = absurd (cc)
ruled_call c d (Submit driver device priority retries flags) ruled = refl
ruled_call c d (FreezeDev device count) ruled = refl
ruled_call c d (ReleaseDev device count) ruled = refl
ruled_call c d (FreezeSim sim count) ruled = refl
ruled_call c d (ReleaseSim sim) ruled = refl
ruled_call c d (Adjust device openings) ruled = refl

-- the calls among the events, where there is one event more
pub one_call : (es : List Event) (e : Event) → is_call e ≡ true → count_by is_call (es ++ e ∷ []) ≡ count_by is_call es + 1
one_call es e h = count_by-push is_call es e ∙ ap (λ b. count_by is_call es + cond {A = ℕ} b 1 0) h

pub no_call : (es : List Event) (e : Event) → is_call e ≡ false → count_by is_call (es ++ e ∷ []) ≡ count_by is_call es
no_call es e h = count_by-push is_call es e ∙ ap (λ b. count_by is_call es + cond {A = ℕ} b 1 0) h ∙ omega arith
