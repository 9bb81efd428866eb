-- a sum over stays of what the rows of each are worth is a sum over rows and rounds of load times worth
use Rattle.std.proofs.Common.{◌≡◌, ℕ, zero, suc, ◌+◌, ◌-◌, ◌*◌, ◌<◌, ◌≤◌, Bool, true, false, cond, List, [], ◌∷◌, refl, sym, ap, ◌∙◌, arith, ◌==◌, ◌&&◌, ◌||◌, sum_by, All, eq-eqb, ne_eqb, eqb-true}
use Rattle.std.specs.List.{list_any}
use Rattle.std.proofs.lemmas.List.Sums.{sum_by-cons}
use Rattle.std.proofs.lemmas.List.Elements.{All-head, All-tail}
use Rattle.round_net.specs.Sums.{sum_below, sum_to, count_below}
use Rattle.round_net.proofs.SumLemmas.{sum_below-same, sum_below-add, sum_below-zero, sum_below-one}

-- a number is in a list
abbrev pub is_among : List ℕ → ℕ → Bool
is_among xs n = list_any (λ own. own == n) xs

-- no number of a list stands in it twice
abbrev pub AreDistinct : List ℕ → Type 0
AreDistinct [] = Unit
AreDistinct (x ∷ xs) = (is_among xs x ≡ false) × AreDistinct xs

-- how many of the first n are in a row's round
abbrev pub load_below : ℕ → (ℕ → List ℕ) → (ℕ → ℕ) → ℕ → ℕ → ℕ
load_below n path f row r = count_below n (λ s. is_among (path s) row && (f s == r))

-- the worth of all rows' rounds, by what they hold
abbrev pub worth : ℕ → ℕ → (ℕ → ℕ → ℕ) → (ℕ → ℕ → ℕ) → ℕ
worth rows rounds load price = sum_below rows (λ row. sum_to rounds (λ r. load row r * price row r))

-- the first number of a list, or one after it
first_or_rest : (x row : ℕ) (xs : List ℕ) (g : ℕ → ℕ) → is_among xs x ≡ false → cond ((x == row) || is_among xs row) (g row) 0 ≡ cond (x == row) (g row) 0 + cond (is_among xs row) (g row) 0
first_or_rest x row xs g apart = elim (x == row) as (λ b. (x == row) ≡ b → cond (b || is_among xs row) (g row) 0 ≡ cond b (g row) 0 + cond (is_among xs row) (g row) 0) [
  | true ↦ λ same.
      let none : is_among xs row ≡ false = ap (is_among xs) (sym (eqb-true x row same)) ∙ apart in
      let no : ◌≡◌ {A = ℕ} (cond (is_among xs row) (g row) 0) 0 = rw none refl in
      omega arith
  | false ↦ λ other. omega arith
] refl

-- a sum over distinct numbers below a bound is one over all numbers below it, of those in the list
pub sum_by-below : (n : ℕ) (g : ℕ → ℕ) (xs : List ℕ) → All (λ x. x < n) xs → AreDistinct xs → sum_by g xs ≡ sum_below n (λ row. cond (is_among xs row) (g row) 0)
sum_by-below n g [] inside distinct = sym (sum_below-zero n (λ row. 0) (λ row lt. refl))
sum_by-below n g (x ∷ xs) inside distinct =
    let lt : x < n = All-head (λ y. y < n) x xs inside in
    let rest : sum_by g xs ≡ sum_below n (λ row. cond (is_among xs row) (g row) 0) = sum_by-below n g xs (All-tail (λ y. y < n) x xs inside) distinct.1 in
    let alone : sum_below n (λ row. cond (x == row) (g row) 0) ≡ cond (x == x) (g x) 0 =
    sum_below-one n x (λ row. cond (x == row) (g row) 0) lt (λ row less other. ap (λ b. cond b (g row) 0) (ne_eqb x row (λ e. other (sym e)))) in
    let here : cond (x == x) (g x) 0 ≡ g x = ap (λ b. cond b (g x) 0) (eq-eqb x x refl) in
    let both : sum_below n (λ row. cond ((x == row) || is_among xs row) (g row) 0) ≡ sum_below n (λ row. cond (x == row) (g row) 0) + sum_below n (λ row. cond (is_among xs row) (g row) 0) =
    sum_below-same n _ _ (λ row less. first_or_rest x row xs g distinct.0) ∙ sum_below-add n (λ row. cond (x == row) (g row) 0) (λ row. cond (is_among xs row) (g row) 0) in
    let head : sum_by g (x ∷ xs) ≡ g x + sum_by g xs = sum_by-cons g x xs in
    omega arith

-- one round of a row
worth-row : (rounds r : ℕ) (b : Bool) (price : ℕ → ℕ) → 1 ≤ r → r ≤ rounds → sum_to rounds (λ q. cond (b && (r == q)) 1 0 * price q) ≡ cond b (price r) 0
worth-row rounds r false price first last = sum_below-zero rounds (λ q. 0 * price (q + 1)) (λ q lt. omega arith)
worth-row rounds r true price first last =
    let back : r - 1 + 1 ≡ r = omega arith in
    let alone : sum_to rounds (λ q. cond (r == q) 1 0 * price q) ≡ cond (r == r - 1 + 1) 1 0 * price (r - 1 + 1) =
    sum_below-one rounds (r - 1) (λ q. cond (r == q + 1) 1 0 * price (q + 1)) (omega arith) (λ q lt apart.
    let no : cond {A = ℕ} (r == q + 1) 1 0 ≡ 0 = ap (λ (b : Bool). cond {A = ℕ} b 1 0) (ne_eqb r (q + 1) (λ e. apart (omega arith))) in
    ap (λ (n : ℕ). n * price (q + 1)) no ∙ omega arith) in
    let yes : cond {A = ℕ} (r == r - 1 + 1) 1 0 ≡ 1 = ap (λ (b : Bool). cond {A = ℕ} b 1 0) (eq-eqb r (r - 1 + 1) (sym back)) in
    alone ∙ ap (λ (n : ℕ). n * price (r - 1 + 1)) yes ∙ (let e : 1 * price (r - 1 + 1) ≡ price (r - 1 + 1) = omega arith in e) ∙ ap price back

-- the rows of one stay alone
worth-one : (rows rounds r : ℕ) (own : List ℕ) (price : ℕ → ℕ → ℕ) → All (λ row. row < rows) own → AreDistinct own → 1 ≤ r → r ≤ rounds → worth rows rounds (λ row q. cond (is_among own row && (r == q)) 1 0) price ≡ sum_by (λ row. price row r) own
worth-one rows rounds r own price inside distinct first last =
    sum_below-same rows _ _ (λ row less. worth-row rounds r (is_among own row) (price row) first last) ∙ sym (sum_by-below rows (λ row. price row r) own inside distinct)

-- two loads together
worth-add : (rows rounds : ℕ) (load more price : ℕ → ℕ → ℕ) → worth rows rounds (λ k r. load k r + more k r) price ≡ worth rows rounds load price + worth rows rounds more price
worth-add rows rounds load more price =
    sum_below-same rows _ _ (λ k less.
    sum_below-same rounds _ _ (λ q lt. let e : (load k (q + 1) + more k (q + 1)) * price k (q + 1) ≡ load k (q + 1) * price k (q + 1) + more k (q + 1) * price k (q + 1) = omega arith in e)
    ∙ sum_below-add rounds (λ q. load k (q + 1) * price k (q + 1)) (λ q. more k (q + 1) * price k (q + 1)))
    ∙ sum_below-add rows (λ k. sum_to rounds (λ r. load k r * price k r)) (λ k. sum_to rounds (λ r. more k r * price k r))

worth-none : (rows rounds : ℕ) (price : ℕ → ℕ → ℕ) → worth rows rounds (λ k r. 0) price ≡ 0
worth-none rows rounds price = sum_below-zero rows _ (λ k less. sum_below-zero rounds _ (λ q lt. omega arith))

pub exchange : (n rows rounds : ℕ) (path : ℕ → List ℕ) (f : ℕ → ℕ) (price : ℕ → ℕ → ℕ) → ((s : ℕ) → s < n → All (λ row. row < rows) (path s) × AreDistinct (path s) × (1 ≤ f s) × (f s ≤ rounds)) →
    sum_below n (λ s. sum_by (λ row. price row (f s)) (path s)) ≡ worth rows rounds (load_below n path f) price
exchange zero rows rounds path f price inside = sym (worth-none rows rounds price)
exchange (suc n) rows rounds path f price inside =
    let rest = exchange n rows rounds path f price (λ s less. inside s (omega arith)) in
    let last = inside n (omega arith) in
    let one = worth-one rows rounds (f n) (path n) price last.0 last.1 last.2 last.3 in
    let both = worth-add rows rounds (load_below n path f) (λ row r. cond (is_among (path n) row && (f n == r)) 1 0) price in
    omega (arith, rest, one, both)
