-- Parts by name, and a part that is put into a plan stay by stay.
use Rattle.std.proofs.Common.{◌≡◌, ◌≢◌, ℕ, zero, suc, ◌+◌, ◌-◌, ◌*◌, ◌<◌, ◌≤◌, ◌==◌, Bool, true, false, cond, nat_lt, List, [], ◌∷◌, ◌++◌, Option, Some, None, refl, sym, ap, ◌∙◌, inl, inr, arith, filter, map, Result, Ok, unwrap_or, append-nil, length, take, drop, get_or, set, All, Contains, subst, drop-drop, length-drop}
use Rattle.std.specs.List.{find, range_with_len}
use Rattle.std.specs.List.Sorted.{IsStrictlyIncreasing}
use Rattle.std.specs.Option.{option_map_or}
use Rattle.std.proofs.lemmas.Bool.{cases_eq, eq-eqb, ne_eqb, lt-ltb, cond-true, cond-false}
use Rattle.std.proofs.lemmas.Bool.{ltb-true}
use Rattle.std.proofs.lemmas.List.{get_or-drop, get_or-set_same, get_or-set_other}
use Rattle.std.proofs.lemmas.List.Elements.{filter-append, filter_passes, All-weaker, Contains-push, Contains-append_left}
use Rattle.std.proofs.lemmas.List.FromFn.{length-range_with_len, get_or-range_with_len}
use Rattle.std.proofs.lemmas.List.Kept.{IsStrictlyIncreasing-filter}
use Rattle.round_net.specs.Instance.{Instance}
use Rattle.round_net.proofs.SumLemmas.{sum_below-more, term-le-sum_below}
use Rattle.std.specs.declared.alloc.AllocError.{AllocError}
use Rattle.cost_plan.specs.Words.{rows, adapter, IsSound}
use Rattle.cost_plan.specs.Cells.{cell, root}
use Rattle.cost_plan.specs.declared.part.Part.{Part}
use Rattle.cost_plan.specs.Parts.{is_on, least_on, part_of, part_of_stay, part_of_resource, before, resources_before, potential_place, busy_parts, HasStay, ResourceHasPotentials, HasPotentials, IsPutIn, IsPut, ArePut, AreAllPut}
use Rattle.cost_plan.proofs.BalanceLemmas.{at_most_one}
use Rattle.cost_plan.proofs.CellLemmas.{cell-apart}
use Rattle.cost_plan.proofs.NodeLemmas.{cell-in}

-- the first number of a range that passes a test, and none where none does
find-first : (test : ℕ → Bool) (a n k : ℕ) → a ≤ k → k < a + n → ((b : ℕ) → a ≤ b → b < k → test b ≡ false) → test k ≡ true → find test (range_with_len a n) ≡ Some k
find-first test a zero k low high before here = absurd (omega arith)
find-first test a (suc n) k low high before here = elim (cases_eq a k) [
  | inl same ↦ cond-true _ _ _ (ap test same ∙ here) ∙ ap (λ (i : ℕ). Some i) same
  | inr other ↦ cond-false _ _ _ (before a (omega arith) (omega arith)) ∙ find-first test (a + 1) n k (omega arith) (omega arith) (λ b from to. before b (omega arith) to) here
]

find-none : (test : ℕ → Bool) (a n : ℕ) → ((b : ℕ) → a ≤ b → b < a + n → test b ≡ false) → find test (range_with_len a n) ≡ None
find-none test a zero before = refl
find-none test a (suc n) before = cond-false _ _ _ (before a (omega arith) (omega arith)) ∙ find-none test (a + 1) n (λ b from to. before b (omega arith) (omega arith))

-- the least adapter on a link
pub least_on-first : (net : Instance) (link a : ℕ) → a < net.adapters → ((b : ℕ) → b < a → is_on net link b ≡ false) → is_on net link a ≡ true → a ≡ least_on net link
least_on-first net link a inside before here = sym (ap (λ o. unwrap_or o net.adapters) (find-first (is_on net link) 0 net.adapters a (omega arith) (omega arith) (λ b from to. before b to) here))

pub least_on-none : (net : Instance) (link : ℕ) → ((b : ℕ) → b < net.adapters → is_on net link b ≡ false) → net.adapters ≡ least_on net link
least_on-none net link before = sym (ap (λ o. unwrap_or o net.adapters) (find-none (is_on net link) 0 net.adapters (λ b from to. before b (omega arith))))

-- how many stays of a part there are so far
pub before-le : (net : Instance) (a n : ℕ) → before net a n ≤ n
before-le net a zero = omega arith
before-le net a (suc n) =
    let rest : before net a n ≤ n = before-le net a n in
    omega (arith, rest, at_most_one (part_of_stay net n == a))

pub before-some : (net : Instance) (a n s : ℕ) → s < n → part_of_stay net s ≡ a → nat_lt 0 (before net a n) ≡ true
before-some net a n s within is =
    let one : cond {A = ℕ} (part_of_stay net s == a) 1 0 ≡ 1 = ap (λ (b : Bool). cond {A = ℕ} b 1 0) (eq-eqb (part_of_stay net s) a is) in
    lt-ltb 0 (before net a n) (omega (arith, one, term-le-sum_below n s (λ t. cond (part_of_stay net t == a) 1 0) within))

-- one number more of a range
range-more : (a n : ℕ) → range_with_len a (suc n) ≡ range_with_len a n ++ (a + n) ∷ []
range-more a zero = ap (λ (k : ℕ). k ∷ []) (let e : a ≡ a + 0 = omega arith in e)
range-more a (suc n) = ap (λ (xs : List ℕ). a ∷ xs) (range-more (a + 1) n ∙ ap (λ (k : ℕ). range_with_len (a + 1) n ++ k ∷ []) (let e : a + 1 + n ≡ a + suc n = omega arith in e))

filter-range_more : (test : ℕ → Bool) (n : ℕ) → filter test (range_with_len 0 (n + 1)) ≡ filter test (range_with_len 0 n) ++ cond (test n) (n ∷ []) []
filter-range_more test n =
    ap (λ (k : ℕ). filter test (range_with_len 0 k)) (let e : n + 1 ≡ suc n = omega arith in e)
    ∙ ap (filter test) (range-more 0 n)
    ∙ ap (λ (k : ℕ). filter test (range_with_len 0 n ++ k ∷ [])) (let e : 0 + n ≡ n = omega arith in e)
    ∙ filter-append test (range_with_len 0 n) (n ∷ [])

pub filter-range_yes : (test : ℕ → Bool) (n : ℕ) (xs : List ℕ) → xs ≡ filter test (range_with_len 0 n) → test n ≡ true → xs ++ n ∷ [] ≡ filter test (range_with_len 0 (n + 1))
filter-range_yes test n xs is passes = ap (λ (ys : List ℕ). ys ++ n ∷ []) is ∙ sym (filter-range_more test n ∙ ap (λ (b : Bool). filter test (range_with_len 0 n) ++ cond b (n ∷ []) []) passes)

pub filter-range_no : (test : ℕ → Bool) (n : ℕ) (xs : List ℕ) → xs ≡ filter test (range_with_len 0 n) → test n ≡ false → xs ≡ filter test (range_with_len 0 (n + 1))
filter-range_no test n xs is fails = is ∙ sym (filter-range_more test n ∙ ap (λ (b : Bool). filter test (range_with_len 0 n) ++ cond b (n ∷ []) []) fails ∙ append-nil (filter test (range_with_len 0 n)))

-- ---- the parts that have a stay

before-has : (net : Instance) (a n : ℕ) → n ≤ net.stays → 0 < before net a n → HasStay net a
before-has net a zero le some = absurd (omega arith)
before-has net a (suc n) le some = elim (cases_eq (part_of_stay net n) a) [
  | inl same ↦ record { stay = n; within = omega arith; is = same }
  | inr other ↦
      let out : cond {A = ℕ} (part_of_stay net n == a) 1 0 ≡ 0 = ap (λ (b : Bool). cond {A = ℕ} b 1 0) (ne_eqb (part_of_stay net n) a other) in
      before-has net a n (omega arith) (omega (arith, out, some))
]

pub busy-some : (net : Instance) → All (HasStay net) (busy_parts net)
busy-some net = All-weaker (λ a. nat_lt 0 (before net a net.stays) ≡ true) (HasStay net) (λ a passes. before-has net a net.stays (omega arith) (ltb-true 0 (before net a net.stays) passes)) (busy_parts net) (filter_passes (λ a. nat_lt 0 (before net a net.stays)) (range_with_len 0 net.adapters))

pub busy-rising : (net : Instance) → IsStrictlyIncreasing (busy_parts net)
busy-rising net = IsStrictlyIncreasing-filter (λ a. nat_lt 0 (before net a net.stays)) (range_with_len 0 net.adapters) (rising net.adapters)
  where
    rising : (n : ℕ) → IsStrictlyIncreasing (range_with_len 0 n)
    rising n k lt =
        let size = length-range_with_len 0 n in
        omega (arith, get_or-range_with_len 0 n k 0 (omega arith), get_or-range_with_len 0 n (k + 1) 0 (omega arith))

found-lt : (test : ℕ → Bool) (a n k d : ℕ) → a ≤ k → k < a + n → test k ≡ true → unwrap_or (find test (range_with_len a n)) d < a + n
found-lt test a zero k d low high here = absurd (omega arith)
found-lt test a (suc n) k d low high here = by (test a) refl (λ other. found-lt test (a + 1) n k d (omega arith) (omega arith) here)
  where
    by : (b : Bool) → test a ≡ b → (a ≢ k → unwrap_or (find test (range_with_len (a + 1) n)) d < a + 1 + n) → unwrap_or (cond b (Some a) (find test (range_with_len (a + 1) n))) d < a + suc n
    by true e later = omega arith
    by false e later = elim (cases_eq a k) [
      | inl same ↦ let wrong : true ≡ false = sym here ∙ ap test (sym same) ∙ e in absurd cc
      | inr other ↦ let rest = later other in omega arith
    ]

part_of-lt : (net : Instance) (a : ℕ) → a < net.adapters → part_of net a < net.adapters
part_of-lt net a within = by (net.link_of a) refl
  where
    by : (o : Option ℕ) → net.link_of a ≡ o → option_map_or (least_on net) o a < net.adapters
    by None e = within
    by (Some l) e =
        let on : is_on net l a ≡ true = ap (λ (o : Option ℕ). option_map_or (λ k. k == l) o false) e ∙ eq-eqb l l refl in
        let found : unwrap_or (find (is_on net l) (range_with_len 0 net.adapters)) net.adapters < 0 + net.adapters = found-lt (is_on net l) 0 net.adapters a net.adapters (omega arith) (omega arith) on in
        omega arith

range-contains : (test : ℕ → Bool) (n x : ℕ) → x < n → test x ≡ true → Contains (filter test (range_with_len 0 n)) x
range-contains test zero x lt passes = absurd (omega arith)
range-contains test (suc n) x lt passes =
    let step : n + 1 ≡ suc n = omega arith in
    let more = ap (λ (k : ℕ). filter test (range_with_len 0 k)) (sym step) ∙ filter-range_more test n in
    elim (cases_eq x n) [
      | inl same ↦
          let last : cond (test n) (n ∷ []) [] ≡ n ∷ [] = ap (λ (b : Bool). cond b (n ∷ []) []) (ap test (sym same) ∙ passes) in
          subst (λ (xs : List ℕ). Contains xs x) (sym (more ∙ ap (λ (ys : List ℕ). filter test (range_with_len 0 n) ++ ys) last))
          (subst (λ (k : ℕ). Contains (filter test (range_with_len 0 n) ++ n ∷ []) k) (sym same) (Contains-push (filter test (range_with_len 0 n)) n))
      | inr other ↦
          subst (λ (xs : List ℕ). Contains xs x) (sym more)
          (Contains-append_left (filter test (range_with_len 0 n)) (cond (test n) (n ∷ []) []) x (range-contains test n x (omega arith) passes))
    ]

pub busy-all : (net : Instance) (live : ℕ → ℕ) (s : ℕ) → IsSound net live → s < net.stays → Contains (busy_parts net) (part_of_stay net s)
busy-all net live s sound within =
    range-contains (λ a. nat_lt 0 (before net a net.stays)) net.adapters (part_of_stay net s) (part_of-lt net (adapter net s) (sound.on_adapter (net.device s) (sound.on_device s within)))
    (before-some net (part_of_stay net s) net.stays s within refl)

-- ---- potentials that are put in

pub ResourceHasPotentials-set : (net : Instance) (resource n potential place : ℕ) (potentials old mid : List ℕ) → n ≤ net.rounds → n < length potentials → place ≡ cell net resource n → place < length mid → potential ≡ get_or potentials n 0
    → ResourceHasPotentials net resource n potentials old mid → ResourceHasPotentials net resource (n + 1) potentials old (set mid place potential)
ResourceHasPotentials-set net resource n potential place potentials old mid last some is inside here h = record {
  own = λ round low known. elim (cases_eq round n) [
    | inl same ↦
        let at : cell net resource round ≡ place = ap (cell net resource) same ∙ sym is in
        ap (λ (k : ℕ). get_or (set mid place potential) k 0) at ∙ get_or-set_same mid place potential 0 inside ∙ here ∙ ap (λ (k : ℕ). get_or potentials k 0) (sym same)
    | inr other ↦
        get_or-set_other mid place (cell net resource round) potential 0 (λ e. other ((cell-apart net resource round resource n (omega arith) last (e ∙ is)).1))
        ∙ h.own round (omega arith) known
  ];
  others = λ node apart. get_or-set_other mid place node potential 0 (λ e. apart n (omega arith) some (e ∙ is)) ∙ h.others node (λ round low. apart round (omega arith));
}

pub ResourceHasPotentials-past : (net : Instance) (resource n : ℕ) (potentials old new : List ℕ) → length potentials ≤ n → ResourceHasPotentials net resource n potentials old new → ResourceHasPotentials net resource (n + 1) potentials old new
ResourceHasPotentials-past net resource n potentials old new past h = record {
  own = λ round low known. h.own round (omega arith) known;
  others = λ node apart. h.others node (λ round low. apart round (omega arith));
}

-- a resource of the part gets its potentials
pub HasPotentials-own : (net : Instance) (a n : ℕ) (potentials from old mid new : List ℕ) → n < rows net → part_of_resource net n ≡ a → from ≡ drop (resources_before net a n * (net.rounds + 1)) potentials
    → ResourceHasPotentials net n (net.rounds + 1) from mid new → HasPotentials net a n potentials old mid → HasPotentials net a (n + 1) potentials old new
HasPotentials-own net a n potentials from old mid new inside is rest resource h = record {
  own = λ r round low last own some. elim (cases_eq r n) [
    | inl same ↦
        let here : place r round ≡ skipped + round = ap (λ (k : ℕ). place k round) same in
        ap (λ (k : ℕ). get_or new (cell net k round) 0) same
        ∙ resource.own round (omega arith) (omega (arith, size, here, some))
        ∙ ap (λ (ls : List ℕ). get_or ls round 0) rest
        ∙ get_or-drop skipped potentials round 0
        ∙ ap (λ (k : ℕ). get_or potentials k 0) (sym here)
    | inr other ↦ resource.others (cell net r round) (λ q low' some' e. other ((cell-apart net r round n q last (omega arith) e).0)) ∙ h.own r round (omega arith) last own some
  ];
  others = λ r round inside' last apart. elim (cases_eq r n) [
    | inl same ↦
        let here : place r round ≡ skipped + round = ap (λ (k : ℕ). place k round) same in
        let past = apart (ap (part_of_resource net) same ∙ is) in
        resource.others (cell net r round) (λ q low some' e. let equal = (cell-apart net r round n q last (omega arith) e).1 in absurd (omega (arith, size, here, past, equal, some')))
        ∙ h.others r round inside' last apart
    | inr other ↦ resource.others (cell net r round) (λ q low' some' e. other ((cell-apart net r round n q last (omega arith) e).0)) ∙ h.others r round inside' last apart
  ];
  root = resource.others (root net) (λ q low some e. let lt = cell-in net n q inside (omega arith) in absurd (omega (arith, lt, e))) ∙ h.root;
}
  where
    place : ℕ → ℕ → ℕ
    place = potential_place net a

    skipped : ℕ
    skipped = resources_before net a n * (net.rounds + 1)

    size : length from ≡ length potentials - skipped
    size = ap (length {A = ℕ}) rest ∙ length-drop skipped potentials

-- a resource of another part is left
pub HasPotentials-other : (net : Instance) (a n : ℕ) (potentials old new : List ℕ) → part_of_resource net n ≢ a → HasPotentials net a n potentials old new → HasPotentials net a (n + 1) potentials old new
HasPotentials-other net a n potentials old new apart h = record {
  own = λ resource round low last own some. elim (cases_eq resource n) [
    | inl same ↦ absurd (apart (ap (part_of_resource net) (sym same) ∙ own))
    | inr other ↦ h.own resource round (omega arith) last own some
  ];
  others = h.others;
  root = h.root;
}

-- how many resources of a part there are so far
pub resources_before-own : (net : Instance) (a n : ℕ) → part_of_resource net n ≡ a → resources_before net a (n + 1) ≡ resources_before net a n + 1
resources_before-own net a n is =
    let one : cond {A = ℕ} (part_of_resource net n == a) 1 0 ≡ 1 = ap (λ (b : Bool). cond {A = ℕ} b 1 0) (eq-eqb (part_of_resource net n) a is) in
    omega (arith, sum_below-more n (λ resource. cond (part_of_resource net resource == a) 1 0), one)

pub resources_before-other : (net : Instance) (a n : ℕ) → part_of_resource net n ≢ a → resources_before net a (n + 1) ≡ resources_before net a n
resources_before-other net a n apart =
    let none : cond {A = ℕ} (part_of_resource net n == a) 1 0 ≡ 0 = ap (λ (b : Bool). cond {A = ℕ} b 1 0) (ne_eqb (part_of_resource net n) a apart) in
    omega (arith, sum_below-more n (λ resource. cond (part_of_resource net resource == a) 1 0), none)

-- the potentials of the resources after one
pub potentials_behind : (net : Instance) (a n : ℕ) (potentials from : List ℕ) → part_of_resource net n ≡ a → from ≡ drop (resources_before net a n * (net.rounds + 1)) potentials → drop (net.rounds + 1) from ≡ drop (resources_before net a (n + 1) * (net.rounds + 1)) potentials
potentials_behind net a n potentials from is rest =
    let more = resources_before-own net a n is in
    let place : resources_before net a n * (net.rounds + 1) + (net.rounds + 1) ≡ resources_before net a (n + 1) * (net.rounds + 1) = omega (arith, ap (λ (k : ℕ). k * (net.rounds + 1)) more) in
    ap (drop (net.rounds + 1)) rest ∙ drop-drop (net.rounds + 1) (resources_before net a n * (net.rounds + 1)) potentials ∙ ap (λ (k : ℕ). drop k potentials) place

-- ---- parts that are put in one after the other

-- a list of no length is empty
pub none_left : {X : Type 0} (xs : List X) → length xs ≡ 0 → xs ≡ []
none_left [] e = refl
none_left (x ∷ xs) e = absurd cc

-- what a slice of a whole vector writes back
take-all : (xs zs : List ℕ) → take (length xs) (xs ++ zs) ≡ xs
take-all [] zs = refl
take-all (x ∷ xs) zs = ap (λ ys. x ∷ ys) (take-all xs zs)

pub written_back : (n : ℕ) (xs ys zs : List ℕ) → n ≡ length ys → length xs ≡ length ys → take n (xs ++ zs) ≡ xs
written_back n xs ys zs e same = ap (λ k. take k (xs ++ zs)) (e ∙ sym same) ∙ take-all xs zs

put_after : (net : Instance) (founds : List (Option Part)) (found : Option Part) (r l r1 l1 r2 l2 : List ℕ) → ArePut net founds r l r1 l1 → IsPut net found r1 l1 r2 l2 → ArePut net (founds ++ found ∷ []) r l r2 l2
put_after net [] found r l r1 l1 r2 l2 so_far here =
    (r2, l2, subst (λ (xs : List ℕ). IsPut net found xs l r2 l2) so_far.0 (subst (λ (ys : List ℕ). IsPut net found r1 ys r2 l2) so_far.1 here), (refl, refl))
put_after net (x ∷ xs) found r l r1 l1 r2 l2 so_far here = (so_far.0, so_far.1, so_far.2, put_after net xs found so_far.0 so_far.1 r1 l1 r2 l2 so_far.3 here)

pub all_put_none : (net : Instance) (rounds potentials : List ℕ) → AreAllPut net [] rounds potentials rounds potentials
all_put_none net rounds potentials = record { founds = []; made = refl; put = (refl, refl) }

map-push : {X Y : Type 0} (f : X → Y) (xs : List X) (x : X) → map f xs ++ f x ∷ [] ≡ map f (xs ++ x ∷ [])
map-push f [] x = refl
map-push f (y ∷ ys) x = ap (λ zs. f y ∷ zs) (map-push f ys x)

pub all_put_more : (net : Instance) (parts : List (Result (Option Part) AllocError)) (part : Result (Option Part) AllocError) (found : Option Part) (r l r1 l1 r2 l2 : List ℕ) → AreAllPut net parts r l r1 l1 → part ≡ Ok found → IsPut net found r1 l1 r2 l2 → AreAllPut net (parts ++ part ∷ []) r l r2 l2
all_put_more net parts part found r l r1 l1 r2 l2 so_far is here = record {
  founds = so_far.founds ++ found ∷ [];
  made = ap (λ (xs : List (Result (Option Part) AllocError)). xs ++ part ∷ []) so_far.made ∙ ap (λ (x : Result (Option Part) AllocError). map Ok so_far.founds ++ x ∷ []) is ∙ map-push {X = Option Part} {Y = Result (Option Part) AllocError} Ok so_far.founds found;
  put = put_after net so_far.founds found r l r1 l1 r2 l2 so_far.put here;
}

pub put_some : (net : Instance) (found : Option Part) (p : Part) (n m : ℕ) (r l r1 l1 rz lz : List ℕ) → found ≡ Some p → n ≡ length r → length r1 ≡ length r → m ≡ length l → length l1 ≡ length l
    → IsPutIn net p.adapter net.stays p.guess.rounds.items r r1 → HasPotentials net p.adapter (rows net) p.guess.potentials.items l l1 → IsPut net found r l (take n (r1 ++ rz)) (take m (l1 ++ lz))
put_some net found p n m r l r1 l1 rz lz e rn rs ln ls rounds potentials =
    subst (λ (f : Option Part). IsPut net f r l (take n (r1 ++ rz)) (take m (l1 ++ lz))) (sym e)
    (subst (λ (xs : List ℕ). IsPut net (Some p) r l xs (take m (l1 ++ lz))) (sym (written_back n r1 r rz rn rs))
    (subst (λ (ys : List ℕ). IsPut net (Some p) r l r1 ys) (sym (written_back m l1 l lz ln ls))
    (record { own_rounds = rounds; own_potentials = potentials; same_rounds = tt; same_potentials = tt })))

pub put_none : (net : Instance) (found : Option Part) (r l : List ℕ) → found ≡ None → IsPut net found r l r l
put_none net found r l e = subst (λ (f : Option Part). IsPut net f r l r l) (sym e) (record { own_rounds = tt; own_potentials = tt; same_rounds = refl; same_potentials = refl })
