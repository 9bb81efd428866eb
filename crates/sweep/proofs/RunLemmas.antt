-- the runs in a row, and the rows of settings
use Rattle.std.proofs.Common.{◌≡◌, ℕ, suc, ◌+◌, ◌-◌, ◌*◌, ◌/◌, ◌%◌, ◌<◌, ◌≤◌, true, List, [], ◌∷◌, ◌++◌, map, length, get_or, take, drop, refl, sym, ap, subst, ◌∙◌, arith, rules, Result, Ok, Err, IfOk, Some, Option, Bool, zero}
use Rattle.std.specs.List.{list_all}
use Rattle.std.specs.Option.{IfSome}
use Rattle.std.proofs.lemmas.Nat.{div-mul-add, mod-mul-add, row_fits}
use Rattle.std.proofs.lemmas.Bool.{and_parts}
use Rattle.std.proofs.lemmas.List.{get_or-map, get_or-take, get_or-drop, length-map, places}
use Rattle.trace_file.specs.Scenarios.{Scenario}
use Rattle.sweep.specs.Settings.{Change, Setting, changes_of}
use Rattle.sweep.specs.Changes.{changed_script}
use Rattle.sweep.specs.Choices.{are_open}
use Rattle.sweep.specs.Runs.{Tally}
use Rattle.sweep.specs.Rows.{Row, IsRowOf, IsRowFor, AreRowsOf, IsRunAt, AreRunsOf, part}

-- each element passes a test that all pass
pub passes : {X : Type 0} (p : X → Bool) (xs : List X) (k : ℕ) (d : X) → k < length xs → list_all p xs ≡ true → p (get_or xs k d) ≡ true
passes p [] k d lt all = absurd (omega (arith, lt))
passes p (x ∷ xs) zero d lt all = (and_parts (p x) (list_all p xs) all).0
passes p (x ∷ xs) (suc k) d lt all = passes p xs k d (omega (arith, lt)) (and_parts (p x) (list_all p xs) all).1

-- the openings of a setting are such as there may be, if those of all are
pub setting_open : (made : List Setting) (k : ℕ) (d : Setting) → k < length made → list_all are_open (changes_of made) ≡ true → are_open (get_or made k d).changes.items ≡ true
setting_open made k d lt all =
    ap are_open (sym (get_or-map (λ (s : Setting). s.changes.items) made k d [] lt))
    ∙ passes are_open (changes_of made) k [] (rw (length-map made (λ (s : Setting). s.changes.items)) lt) all

-- the j-th run of the k-th setting
place_fits : (k j n seeds : ℕ) → k < n → j < seeds → k * seeds + j < n * seeds
place_fits k j n seeds lt within = omega (arith, within, row_fits k seeds n seeds lt (omega arith))

part_at : (tallies : List Tally) (seeds k j : ℕ) (d : Tally) → j < seeds → get_or (part tallies seeds k) j d ≡ get_or tallies (k * seeds + j) d
part_at tallies seeds k j d lt = get_or-take seeds (drop (k * seeds) tallies) j d lt ∙ get_or-drop (k * seeds) tallies j d

length_part : (tallies : List Tally) (seeds k : ℕ) → k * seeds + seeds ≤ length tallies → length (part tallies seeds k) ≡ seeds
length_part tallies seeds k fits = search (rules, places)

-- a row of the runs of a setting, of all runs in a row
pub row_for : (comes : Scenario → ℕ → Tally → Type 0) (s : Scenario) (seeds : ℕ) (settings : List (List Change)) (tallies : List Tally) (r : Row) (k : ℕ) →
    AreRunsOf comes s seeds settings tallies → k < length settings → IsRowOf (part tallies seeds k) r → IsRowFor (comes (changed_script s (get_or settings k []))) seeds r
row_for comes s seeds settings tallies r k runs lt is = record {
  tallies = part tallies seeds k;
  long = length_part tallies seeds k (rw runs.long (row_fits k seeds (length settings) seeds lt (omega arith)));
  each = λ j d within.
      let ran = runs.each (k * seeds + j) d (place_fits k j (length settings) seeds lt within) in
      let setting : (k * seeds + j) / seeds ≡ k = div-mul-add k seeds j within in
      let seed : (k * seeds + j) % seeds ≡ j = mod-mul-add k seeds j within in
      subst (comes (changed_script s (get_or settings k [])) (j + 1)) (sym (part_at tallies seeds k j d within))
      (rw (setting, seed) at ran);
  row = is;
}

pub rows_for : (comes : Scenario → ℕ → Tally → Type 0) (s : Scenario) (seeds : ℕ) (settings : List (List Change)) (tallies : List Tally) (rows : List Row) →
    AreRunsOf comes s seeds settings tallies → length rows ≡ length settings → ((k : ℕ) (d : Row) → k < length settings → IsRowOf (part tallies seeds k) (get_or rows k d)) →
    AreRowsOf comes s seeds settings rows
rows_for comes s seeds settings tallies rows runs long each = record {
  long = long;
  each = λ k d lt. row_for comes s seeds settings tallies (get_or rows k d) k runs lt (each k d lt);
}

-- what was made for each place, without what might have been missing
pub made_runs : (comes : Scenario → ℕ → Tally → Type 0) (s : Scenario) (seeds : ℕ) (settings : List (List Change)) (made : List (Option Tally)) (all : List Tally) →
    map Some all ≡ made → length made ≡ length settings * seeds →
    ((i : ℕ) (d : Option Tally) → i < length settings * seeds → IfSome (get_or made i d) (IsRunAt comes s seeds settings i)) →
    AreRunsOf comes s seeds settings all
made_runs comes s seeds settings made all is long each =
    let whole : length all ≡ length settings * seeds = sym (length-map all Some) ∙ ap length is ∙ long in
    record {
      long = whole;
      each = λ i d lt.
          let within : i < length all = subst (λ n. i < n) (sym whole) lt in
          let here : get_or made i (Some d) ≡ Some (get_or all i d) = ap (λ os. get_or os i (Some d)) (sym is) ∙ get_or-map Some all i d (Some d) within in
          subst (λ (o : Option Tally). IfSome o (IsRunAt comes s seeds settings i)) here (each i (Some d) lt);
    }

pub half_below : (n : ℕ) → 0 < n → (n + 1) / 2 - 1 < n
half_below n some = omega (arith, some)

pub last_below : (n : ℕ) → 0 < n → n - 1 < n
last_below n some = omega (arith, some)

pub ok_both : {A E : Type 0} {P Q R : A → Type 0} (r : Result A E) → IfOk r P → IfOk r Q → ((x : A) → P x → Q x → R x) → IfOk r R
ok_both (Ok x) p q f = f x p q
ok_both (Err e) p q f = tt

pub ok_from : {A E : Type 0} {P Q : A → Type 0} (r : Result A E) → IfOk r P → ((x : A) → P x → Q x) → IfOk r Q
ok_from (Ok x) p f = f x p
ok_from (Err e) p f = tt

-- the runs that were made of some settings
pub made_of : (comes : Scenario → ℕ → Tally → Type 0) (s : Scenario) (seeds : ℕ) (settings : List Setting) (made : List (Option Tally)) (all : List Tally) →
    map Some all ≡ made → length made ≡ length settings * seeds →
    ((i : ℕ) (d : Option Tally) → i < length settings * seeds → IfSome (get_or made i d) (IsRunAt comes s seeds (changes_of settings) i)) →
    AreRunsOf comes s seeds (changes_of settings) all
made_of comes s seeds settings made all is long each =
    let alike : length (changes_of settings) * seeds ≡ length settings * seeds = ap (λ n. n * seeds) (length-map settings (λ (t : Setting). t.changes.items)) in
    made_runs comes s seeds (changes_of settings) made all is (long ∙ sym alike) (λ i d lt. each i d (subst (λ n. i < n) alike lt))

-- the rows of what was made of a plan
pub swept_rows : (comes : Scenario → ℕ → Tally → Type 0) (s : Scenario) (seeds : ℕ) (made : List Setting) (settings : List (List Change)) (tallies : List Tally) (rows : List Row) →
    changes_of made ≡ settings → AreRunsOf comes s seeds (changes_of made) tallies → length rows ≡ length made → ((k : ℕ) (d : Row) → k < length made → IsRowOf (part tallies seeds k) (get_or rows k d)) →
    AreRowsOf comes s seeds settings rows
swept_rows comes s seeds made settings tallies rows is runs long each =
    let alike : length (changes_of made) ≡ length made = length-map made (λ (t : Setting). t.changes.items) in
    subst (λ x. AreRowsOf comes s seeds x rows) is
    (rows_for comes s seeds (changes_of made) tallies rows runs (long ∙ sym alike) (λ k d lt. each k d (subst (λ n. k < n) alike lt)))
