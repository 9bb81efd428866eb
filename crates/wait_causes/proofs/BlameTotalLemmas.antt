-- in how many rounds of a device which number was in the way
use Rattle.std.proofs.Common.{◌≡◌, ℕ, ◌+◌, ◌-◌, ◌<◌, ◌≤◌, Bool, true, false, cond, List, [], ◌∷◌, ◌++◌, length, map, count_by, get_or, refl, sym, ap, ◌∙◌, arith, Option, Vec}
use Rattle.std.specs.Global.{Global}
use Rattle.std.specs.List.{range_with_len}
use Rattle.std.specs.Option.{option_map}
use Rattle.std.proofs.lemmas.List.FromFn.{map-range_with_len_more, get_or-map-range_with_len, length-map-range_with_len}
use Rattle.std.proofs.lemmas.List.Sums.{count_by-le-length}
use Rattle.event_rules.proofs.ListFacts.{count_by-push}
use Rattle.wait_causes.specs.Explained.{Explained}
use Rattle.wait_causes.specs.Origins.{instance_in}
use Rattle.wait_causes.specs.Tables.{number}
use Rattle.wait_causes.specs.declared.table.Grouping.{Grouping}
use Rattle.wait_causes.specs.Totals.{totals_by}
use Rattle.wait_causes.specs.declared.explained_stay.ExplainedStay.{ExplainedStay}
use Rattle.wait_causes.proofs.CountingLemmas.{list_at, lists_length}
use Rattle.wait_causes.proofs.TotalsLemmas.{total_at, totals_more, totals_none, count_between, none_between}
use Rattle.wait_causes.specs.BlameAmounts.{who, is_who, rounds_for}
use Rattle.wait_causes.specs.InTheWay.{in_way}
use Rattle.wait_causes.specs.BlameLists.{stays_in, who_in, who_at, totals_at, AreWho}

map_twice : {X Y Z : Type 0} (g : Y → Z) (f : X → Y) (xs : List X) → map g (map f xs) ≡ map (λ x. g (f x)) xs
map_twice g f [] = refl
map_twice g f (x ∷ xs) = ap (λ zs. g (f x) ∷ zs) (map_twice g f xs)

-- the numbers of who was in the way of a device's stays
pub who_found : (e : Explained) (by : Grouping) (d : ℕ) (ways : List (Option ExplainedStay)) (ns : List (Option ℕ)) → ways ≡ map (in_way e.origin (stays_in e) d) (range_with_len 1 (instance_in e.origin).rounds) → ns ≡ map (option_map (number by)) ways → ns ≡ who_at e by d
who_found e by d ways ns are is = is ∙ ap (map (option_map (number by))) are ∙ map_twice (option_map (number by)) (in_way e.origin (stays_in e) d) (range_with_len 1 (instance_in e.origin).rounds)

-- counts so far, and one more
pub record AreCounts (m : Option ℕ) (list : List (Option ℕ)) (n : ℕ) (kept : List ℕ) (so_far : ℕ) : Type 0 where
  pub before : (f : ℕ → Option ℕ) → list ≡ map f (range_with_len 1 (length list)) → kept ≡ totals_by (count_by (is_who m)) f n
  pub here : (f : ℕ → Option ℕ) → list ≡ map f (range_with_len 1 (length list)) → so_far ≡ count_by (is_who m) (map f (range_with_len 1 n))
  pub few : so_far ≤ n

pub counts_none : (m : Option ℕ) (list : List (Option ℕ)) (counts : List ℕ) → counts ≡ [] → AreCounts m list 0 counts 0
counts_none m list counts none = record {
  before = λ f is. none ∙ totals_none (count_by (is_who m)) f;
  here = λ f is. refl;
  few = omega arith;
}

one_more : (m : Option ℕ) (f : ℕ → Option ℕ) (n : ℕ) (w : Option ℕ) → w ≡ f (1 + n) → count_by (is_who m) (map f (range_with_len 1 (n + 1))) ≡ count_by (is_who m) (map f (range_with_len 1 n)) + cond (is_who m w) 1 0
one_more m f n w is = ap (count_by (is_who m)) (map-range_with_len_more f 1 n (1 + n) refl) ∙ count_by-push (is_who m) (map f (range_with_len 1 n)) (f (1 + n)) ∙ ap (λ v. count_by (is_who m) (map f (range_with_len 1 n)) + cond (is_who m v) 1 0) (sym is)

pub counts_more : (m : Option ℕ) (list : List (Option ℕ)) (n : ℕ) (old new : List ℕ) (so_far next : ℕ) (w d : Option ℕ) → AreCounts m list n old so_far → new ≡ old ++ so_far ∷ [] → n < length list → w ≡ get_or list n d → next ≡ so_far + cond (is_who m w) 1 0 → AreCounts m list (n + 1) new next
counts_more m list n old new so_far next w d are push lt at is = record {
  before = λ f all. totals_more (count_by (is_who m)) f n old new so_far (are.before f all) push (are.here f all);
  here = λ f all.
      let here : w ≡ f (1 + n) = at ∙ ap (λ xs. get_or xs n d) all ∙ get_or-map-range_with_len f 1 (length list) n (1 + n) d lt refl in
      is ∙ ap (λ k. k + cond (is_who m w) 1 0) (are.here f all) ∙ sym (one_more m f n w here);
  few = at_most (is_who m w) is;
}
  where
    at_most : (b : Bool) → next ≡ so_far + cond b 1 0 → next ≤ n + 1
    at_most true e = (let few = are.few in omega (arith, e, few))
    at_most false e = (let few = are.few in omega (arith, e, few))

-- the totals of a device
pub totals_found : (e : Explained) (by : Grouping) (m : Option ℕ) (d : ℕ) (lists : List (Vec (Option ℕ) Global)) (v : Vec (Option ℕ) Global) (counts : List ℕ) → AreWho e by lists → d < length lists → v ≡ get_or lists d v →
    ((f : ℕ → Option ℕ) → v.items ≡ map f (range_with_len 1 (length v.items)) → counts ≡ totals_by (count_by (is_who m)) f (length v.items)) → counts ≡ totals_at e by m d
totals_found e by m d lists v counts are lt read found =
    let within : d < (instance_in e.origin).devices = omega (arith, lt, lists_length (who_at e by) (instance_in e.origin).devices lists are) in
    let items : v.items ≡ who_at e by d = ap (λ (x : Vec (Option ℕ) Global). x.items) read ∙ list_at (who_at e by) (instance_in e.origin).devices d lists v are within in
    let long : length v.items ≡ (instance_in e.origin).rounds = ap length items ∙ length-map-range_with_len (who_in e by d) 1 (instance_in e.origin).rounds in
    found (who_in e by d) (items ∙ ap (λ n. map (who_in e by d) (range_with_len 1 n)) (sym long)) ∙ ap (totals_by (count_by (is_who m)) (who_in e by d)) long

-- what is between two rounds
pub between_none : (who : ℕ → ℕ → Option ℕ) (m : Option ℕ) (d from to : ℕ) → to ≤ from → 0 ≡ rounds_for who m d from to
between_none who m d from to le = none_between (count_by (is_who m)) (who d) from to le

pub between_found : (who : ℕ → ℕ → Option ℕ) (m : Option ℕ) (d : ℕ) (totals : List ℕ) (from to : ℕ) (x y : ℕ) → 1 ≤ from → from < to → to ≤ length totals → totals ≡ totals_by (count_by (is_who m)) (who d) (length totals) →
    get_or totals (to - 1) x - get_or totals (from - 1) y ≡ rounds_for who m d from to
between_found who m d totals from to x y some lt last are =
    let end : get_or totals (to - 1) x ≡ count_by (is_who m) (map (who d) (range_with_len 1 (to - 1))) = ap (λ (xs : List ℕ). get_or xs (to - 1) x) are ∙ total_at (count_by (is_who m)) (who d) (length totals) (to - 1) x (omega arith) in
    let start : get_or totals (from - 1) y ≡ count_by (is_who m) (map (who d) (range_with_len 1 (from - 1))) = ap (λ (xs : List ℕ). get_or xs (from - 1) y) are ∙ total_at (count_by (is_who m)) (who d) (length totals) (from - 1) y (omega arith) in
    ap (λ n. n - get_or totals (from - 1) y) end ∙ ap (λ n. count_by (is_who m) (map (who d) (range_with_len 1 (to - 1))) - n) start ∙ count_between (is_who m) (who d) from to some lt

-- there are no more than there are rounds
pub few_for : (who : ℕ → ℕ → Option ℕ) (m : Option ℕ) (d from to : ℕ) → rounds_for who m d from to ≤ to
few_for who m d from to =
    omega (arith, count_by-le-length (is_who m) (map (who d) (range_with_len from (to - from))), length-map-range_with_len (who d) from (to - from))
