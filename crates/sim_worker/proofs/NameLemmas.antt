-- the names of actors, one more at a time
use Rattle.std.proofs.Common.{◌≡◌, ℕ, ◌+◌, Bool, true, false, cond, List, [], ◌∷◌, ◌++◌, map, refl, sym, ap, ◌∙◌, append-nil, append_assoc, arith, filter}
use Rattle.std.specs.List.{range_with_len}
use Rattle.std.proofs.lemmas.List.{map-append}
use Rattle.std.proofs.lemmas.List.Elements.{filter-append}
use Rattle.event_rules.proofs.ListFacts.{range_with_len-push}
use Rattle.sim_worker.specs.Words.{Scenario, SeatName, Driver, Lane}
use Rattle.sim_worker.specs.LiveRuns.{drivers, is_some_row, lanes, rows}

ranges : (n : ℕ) → range_with_len 0 (n + 1) ≡ range_with_len 0 n ++ n ∷ []
ranges n = let same : 0 + n ≡ n = omega arith in range_with_len-push 0 n ∙ ap (λ k. range_with_len 0 n ++ k ∷ []) same

one_filtered : (s : Scenario) (n : ℕ) (b : Bool) → is_some_row (rows s n) ≡ b → map (λ d. Driver d) (filter (λ d. is_some_row (rows s d)) (n ∷ [])) ≡ cond b (Driver n ∷ []) []
one_filtered s n true is = rw is refl
one_filtered s n false is = rw is refl

drivers-push : (s : Scenario) (n : ℕ) (b : Bool) → is_some_row (rows s n) ≡ b → drivers s (n + 1) ≡ drivers s n ++ cond b (Driver n ∷ []) []
drivers-push s n b is =
    ap (λ ks. map (λ d. Driver d) (filter (λ d. is_some_row (rows s d)) ks)) (ranges n)
    ∙ ap (map (λ d. Driver d)) (filter-append (λ d. is_some_row (rows s d)) (range_with_len 0 n) (n ∷ []))
    ∙ map-append (λ d. Driver d) (filter (λ d. is_some_row (rows s d)) (range_with_len 0 n)) (filter (λ d. is_some_row (rows s d)) (n ∷ []))
    ∙ ap (λ back. drivers s n ++ back) (one_filtered s n b is)

pub one_driver_more : (s : Scenario) (n : ℕ) (names now : List SeatName) → names ≡ drivers s n → is_some_row (rows s n) ≡ true → now ≡ names ++ Driver n ∷ [] → now ≡ drivers s (n + 1)
one_driver_more s n names now was some is = is ∙ ap (λ front. front ++ Driver n ∷ []) was ∙ sym (drivers-push s n true some)

pub no_driver_more : (s : Scenario) (n : ℕ) (names : List SeatName) → names ≡ drivers s n → is_some_row (rows s n) ≡ false → names ≡ drivers s (n + 1)
no_driver_more s n names was none = was ∙ sym (append-nil (drivers s n)) ∙ sym (drivers-push s n false none)

pub one_lane_more : (front : List SeatName) (n : ℕ) (names now : List SeatName) → names ≡ front ++ lanes n → now ≡ names ++ Lane n ∷ [] → now ≡ front ++ lanes (n + 1)
one_lane_more front n names now was is =
    let more : lanes (n + 1) ≡ lanes n ++ Lane n ∷ [] = ap (map (λ lane. Lane lane)) (ranges n) ∙ map-append (λ lane. Lane lane) (range_with_len 0 n) (n ∷ []) in
    is ∙ ap (λ xs. xs ++ Lane n ∷ []) was ∙ append_assoc front (lanes n) (Lane n ∷ []) ∙ ap (λ back. front ++ back) (sym more)
