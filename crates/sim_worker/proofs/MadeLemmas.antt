-- who made each call, after one event more or one row more
use Rattle.std.proofs.Common.{◌≡◌, ℕ, zero, suc, ◌+◌, ◌<◌, ◌≤◌, true, false, cond, List, [], ◌∷◌, ◌++◌, length, map, set, refl, sym, ap, ◌∙◌, arith, Some, inl, inr, append-nil, ◌==◌, take, drop, nat_lt, slice_get, length-append}
use Rattle.std.specs.List.{list_all}
use Rattle.std.proofs.lemmas.Bool.{and_from, and_parts, eq-eqb, ne_eqb, lt-ltb, ltb-false, ltb-true}
use Rattle.std.proofs.lemmas.List.Elements.{filter-append, filter_map-append}
use Rattle.std.proofs.lemmas.List.Folds.{list_all-append}
use Rattle.event_rules.proofs.ListFacts.{filter_map-push}
use Rattle.sim_worker.specs.Words.{Event, Scenario, Step}
use Rattle.trace_file.specs.declared.step.Step.TheVariants as step
use Rattle.sim_worker.specs.Endings.{is_call}
use Rattle.sim_worker.specs.Logs.{act, acts}
use Rattle.sim_worker.specs.Runs.{IsPrefix}
use Rattle.sim_worker.specs.SimRuns.{AreByRows, calls, calls_by}
use Rattle.sim_worker.specs.Work.{AreMade, steps_of, Driver}
use Rattle.sim_worker.proofs.ListFacts.{map_at, none_there, take_and_drop}
use Rattle.sim_worker.proofs.RunListFacts.{get_in_set, get_there, take_one}

calls-push : (es : List Event) (e : Event) → is_call e ≡ true → calls (es ++ e ∷ []) ≡ calls es ++ e ∷ []
calls-push es e h = filter-append is_call es (e ∷ []) ∙ ap (λ b. calls es ++ cond {A = List Event} b (e ∷ []) []) h

calls-other : (es : List Event) (e : Event) → is_call e ≡ false → calls (es ++ e ∷ []) ≡ calls es
calls-other es e h = filter-append is_call es (e ∷ []) ∙ ap (λ b. calls es ++ cond {A = List Event} b (e ∷ []) []) h ∙ append-nil (calls es)

calls_by-push : (d maker : ℕ) (makers : List ℕ) (es : List Event) (e : Event) → length makers ≡ length es → calls_by d (makers ++ maker ∷ []) (es ++ e ∷ []) ≡ calls_by d makers es ++ cond {A = List Event} (maker == d) (e ∷ []) []
calls_by-push d maker [] [] e len = refl
calls_by-push d maker [] (x ∷ es) e len = absurd (omega arith)
calls_by-push d maker (m ∷ makers) [] e len = absurd (omega arith)
calls_by-push d maker (m ∷ makers) (x ∷ es) e len =
    let more = calls_by-push d maker makers es e (omega arith) in
    elim (m == d) as (λ b. cond {A = List Event} b (x ∷ calls_by d (makers ++ maker ∷ []) (es ++ e ∷ [])) (calls_by d (makers ++ maker ∷ []) (es ++ e ∷ [])) ≡ cond {A = List Event} b (x ∷ calls_by d makers es) (calls_by d makers es) ++ cond {A = List Event} (maker == d) (e ∷ []) []) [
      | true ↦ ap (λ xs. x ∷ xs) more
      | false ↦ more
    ]

-- rows that ask for as many calls ask for the same
same_acts : (steps : List Step) (a b : ℕ) → length (acts (take a steps)) ≡ length (acts (take b steps)) → acts (take a steps) ≡ acts (take b steps)
same_acts [] zero zero h = refl
same_acts [] zero (suc b) h = refl
same_acts [] (suc a) zero h = refl
same_acts [] (suc a) (suc b) h = refl
same_acts (x ∷ xs) zero zero h = refl
same_acts (x ∷ xs) zero (suc b) h = sym (none_there (acts (take (suc b) (x ∷ xs))) (sym h))
same_acts (x ∷ xs) (suc a) zero h = none_there (acts (take (suc a) (x ∷ xs))) h
same_acts (step.Act e ∷ xs) (suc a) (suc b) h = ap (λ es. e ∷ es) (same_acts xs a b (omega arith))
same_acts (step.Pause n ∷ xs) (suc a) (suc b) h = same_acts xs a b h

-- the driver's call
pub made-call : (s : Scenario) (es : List Event) (e : Event) (ws : List Driver) (d : ℕ) (w new : Driver) → is_call e ≡ true → d < 8 → slice_get ws d ≡ Some w → slice_get (steps_of s d) w.done ≡ Some (step.Act e) → new.done ≡ w.done + 1 → AreMade s es ws → AreMade s (es ++ e ∷ []) (set ws d new)
made-call s es e ws d w new call lt here there one h = record {
  makers = h.makers ++ d ∷ [];
  each = omega (arith, length-append h.makers (d ∷ []), ap (λ (xs : List Event). length xs) (calls-push es e call), length-append (calls es) (e ∷ []), h.each);
  known = list_all-append (λ k. nat_lt k 8) h.makers (d ∷ []) ∙ and_from _ _ h.known (and_from _ _ (lt-ltb d 8 lt) refl);
  rows = λ k x at.
      let more : calls_by k (h.makers ++ d ∷ []) (calls (es ++ e ∷ [])) ≡ calls_by k h.makers (calls es) ++ cond {A = List Event} (d == k) (e ∷ []) [] =
      ap (calls_by k (h.makers ++ d ∷ [])) (calls-push es e call) ∙ calls_by-push k d h.makers (calls es) e h.each in
      elim (get_in_set ws d k new x at) [
        | inl same ↦
            let steps = steps_of s d in
            let done : x.done ≡ w.done + 1 = ap (λ (v : Driver). v.done) same.1 ∙ one in
            let own : calls_by d h.makers (calls es) ++ e ∷ [] ≡ acts (take x.done steps) =
            ap (λ front. front ++ e ∷ []) (h.rows d w here) ∙ sym (ap acts (take_one steps w.done (step.Act e) there).1 ∙ filter_map-push act (take w.done steps) (step.Act e)) ∙ ap (λ n. acts (take n steps)) (sym done) in
            more ∙ ap (λ b. calls_by k h.makers (calls es) ++ cond {A = List Event} b (e ∷ []) []) (eq-eqb d k (sym same.0)) ∙ ap (λ n. calls_by n h.makers (calls es) ++ e ∷ []) same.0 ∙ own ∙ ap (λ n. acts (take x.done (steps_of s n))) (sym same.0)
        | inr other ↦ more ∙ ap (λ b. calls_by k h.makers (calls es) ++ cond {A = List Event} b (e ∷ []) []) (ne_eqb d k (λ same. other.0 (sym same))) ∙ append-nil (calls_by k h.makers (calls es)) ∙ h.rows k x other.1
      ];
}

-- an event of no driver
pub made-other : (s : Scenario) (es : List Event) (e : Event) (ws : List Driver) → is_call e ≡ false → AreMade s es ws → AreMade s (es ++ e ∷ []) ws
made-other s es e ws uncalled h = record {
  makers = h.makers;
  each = h.each ∙ ap (λ (xs : List Event). length xs) (sym (calls-other es e uncalled));
  known = h.known;
  rows = λ d w at. ap (calls_by d h.makers) (calls-other es e uncalled) ∙ h.rows d w at;
}

-- a driver that is marked, or put after pauses
pub made-set : (s : Scenario) (es : List Event) (ws : List Driver) (d : ℕ) (w new : Driver) → slice_get ws d ≡ Some w → length (acts (take new.done (steps_of s d))) ≡ length (acts (take w.done (steps_of s d))) → AreMade s es ws → AreMade s es (set ws d new)
made-set s es ws d w new here same h = record {
  makers = h.makers;
  each = h.each;
  known = h.known;
  rows = λ k x at. elim (get_in_set ws d k new x at) [
    | inl its ↦ ap (λ n. calls_by n h.makers (calls es)) its.0 ∙ h.rows d w here ∙ same_acts (steps_of s d) w.done new.done (sym same) ∙ ap (λ (v : Driver). acts (take v.done (steps_of s d))) (sym its.1) ∙ ap (λ n. acts (take x.done (steps_of s n))) (sym its.0)
    | inr other ↦ h.rows k x other.1
  ];
}

-- drivers that have done the same rows
pub made-same : (s : Scenario) (es : List Event) (ws after : List Driver) → map (λ (w : Driver). w.done) after ≡ map (λ (w : Driver). w.done) ws → AreMade s es ws → AreMade s es after
made-same s es ws after done h = record {
  makers = h.makers;
  each = h.each;
  known = h.known;
  rows = λ d w at.
      let old = map_at (λ (x : Driver). x.done) after ws d w done at in
      h.rows d old.0 old.1 ∙ ap (λ n. acts (take n (steps_of s d))) (sym old.2);
}

-- of a maker that is none, there are no calls
none_by : (d : ℕ) (makers : List ℕ) (es : List Event) → list_all (λ k. nat_lt k 8) makers ≡ true → 8 ≤ d → calls_by d makers es ≡ []
none_by d [] es known le = refl
none_by d (m ∷ makers) [] known le = refl
none_by d (m ∷ makers) (e ∷ es) known le =
    let parts = and_parts (nat_lt m 8) (list_all (λ k. nat_lt k 8) makers) known in
    let other : (m == d) ≡ false = ne_eqb m d (λ same. let lt = ltb-true m 8 parts.0 in omega arith) in
    ap (λ b. cond {A = List Event} b (e ∷ calls_by d makers es) (calls_by d makers es)) other ∙ none_by d makers es parts.1 le

pub by_rows : (s : Scenario) (es : List Event) (ws : List Driver) → length ws ≡ 8 → AreMade s es ws → AreByRows s es
by_rows s es ws eight h = record {
  makers = h.makers;
  each = h.each;
  rows = λ d. elim (nat_lt d 8) as (λ b. nat_lt d 8 ≡ b → IsPrefix (calls_by d h.makers (calls es)) (acts (steps_of s d))) [
    | true ↦ λ is.
        let lt = ltb-true d 8 is in
        let x = get_there ws d (omega (arith, lt, eight)) in
        let steps = steps_of s d in
        (acts (drop x.0.done steps), ap (λ front. front ++ acts (drop x.0.done steps)) (h.rows d x.0 x.1) ∙ sym (filter_map-append act (take x.0.done steps) (drop x.0.done steps)) ∙ ap acts (take_and_drop steps x.0.done))
    | false ↦ λ is. (acts (steps_of s d), ap (λ front. front ++ acts (steps_of s d)) (none_by d h.makers (calls es) h.known (ltb-false d 8 is)))
  ] refl;
}
