-- what the rules of choices say of their settings
use Rattle.std.proofs.Common.{◌≡◌, ℕ, suc, ◌+◌, ◌*◌, ◌<◌, ◌≤◌, Bool, true, false, cond, not, ◌&&◌, ◌==◌, List, [], ◌∷◌, ◌++◌, map, length, take, get_or, zero, refl, sym, ap, subst, ◌∙◌, arith, Option, Some, None, length-append}
use Rattle.std.specs.List.{list_all, list_any, flat_map}
use Rattle.std.specs.Option.{option_or}
use Rattle.std.specs.Option.{IfNone}
use Rattle.std.proofs.Math.Nat.{suc-mul, mul_assoc}
use Rattle.std.proofs.lemmas.Nat.{mul-le}
use Rattle.std.proofs.lemmas.Bool.{and_parts}
use Rattle.std.proofs.lemmas.Bool.Decides.{nat_tests}
use Rattle.std.proofs.lemmas.List.{length-map, append_assoc, append-nil, take_more}
use Rattle.std.proofs.lemmas.List.Folds.{list_all-append}
use Rattle.cam_types.specs.Lists.{prefixed_after, first_answer}
use Rattle.cam_types.specs.Topology.{Topology, are_openings}
use Rattle.cam_types.proofs.ListLemmas.{or_left, or_right, first_answer-push}
use Rattle.sweep.specs.Settings.{Place, Change, Choice, settings, with_first}
use Rattle.sweep.specs.Plans.{MAX_RUNS}
use Rattle.sweep.specs.Choices.{ChoiceFault, NoPlace, Twice, NoOpenings, BadOpenings, names_place, is_same_place, choice_fault, choices_fault, HaveSome, are_open}

-- the numbers of each choice are openings such as there may be
abbrev pub are_choices_open : List Choice → Bool
are_choices_open choices = list_all (λ (choice : Choice). list_all are_openings choice.openings.items) choices

-- a choice without a fault has some numbers, which are such
by_tests : (a b c d : Bool) → cond (not a) (Some NoPlace) (cond b (Some Twice) (cond c (Some NoOpenings) (cond (not d) (Some BadOpenings) None))) ≡ None → (c ≡ false) × (d ≡ true)
by_tests false b c d e = absurd cc
by_tests true true c d e = absurd cc
by_tests true false true d e = absurd cc
by_tests true false false true e = (refl, refl)
by_tests true false false false e = absurd cc

choice_good : (c : Topology) (before : List Choice) (x : Choice) → choice_fault c (before, x) ≡ None → ((length x.openings.items == 0) ≡ false) × (list_all are_openings x.openings.items ≡ true)
choice_good c before x e = by_tests (names_place c x.place) (list_any (λ (other : Choice). is_same_place other.place x.place) before) (length x.openings.items == 0) (list_all are_openings x.openings.items) e

positive : (n : ℕ) → (n == 0) ≡ false → 1 ≤ n
positive n e = grind (arith, nat_tests)

both : (a b : Bool) → a ≡ true → b ≡ true → (a && b) ≡ true
both a b e f = rw (e, f) refl

all_some : (c : Topology) (before xs : List Choice) → first_answer (choice_fault c) (prefixed_after before xs) ≡ None → HaveSome xs
all_some c before [] e = tt
all_some c before (x ∷ xs) e = (
  positive (length x.openings.items) (choice_good c before x (or_left (choice_fault c (before, x)) _ e)).0,
  all_some c (before ++ x ∷ []) xs (or_right (choice_fault c (before, x)) _ e),
)

all_open : (c : Topology) (before xs : List Choice) → first_answer (choice_fault c) (prefixed_after before xs) ≡ None → are_choices_open xs ≡ true
all_open c before [] e = refl
all_open c before (x ∷ xs) e =
    both (list_all are_openings x.openings.items) (are_choices_open xs)
    (choice_good c before x (or_left (choice_fault c (before, x)) _ e)).1
    (all_open c (before ++ x ∷ []) xs (or_right (choice_fault c (before, x)) _ e))

pub have_some : (c : Topology) (choices : List Choice) → choices_fault c choices ≡ None → HaveSome choices
have_some c choices e = all_some c [] choices e

-- ---- their settings

abbrev pub one_each : Place → List (List Change) → ℕ → List (List Change)
one_each place others n = map (λ changes. record { place = place; openings = n } ∷ changes) others

each_open : (place : Place) (others : List (List Change)) (n : ℕ) → are_openings n ≡ true → list_all are_open others ≡ true → list_all are_open (one_each place others n) ≡ true
each_open place [] n is all = refl
each_open place (x ∷ xs) n is all =
    let parts = and_parts (are_open x) (list_all are_open xs) all in
    both (are_openings n && are_open x) (list_all are_open (one_each place xs n)) (both (are_openings n) (are_open x) is parts.0) (each_open place xs n is parts.1)

with_first_open : (place : Place) (ns : List ℕ) (others : List (List Change)) → list_all are_openings ns ≡ true → list_all are_open others ≡ true → list_all are_open (flat_map (one_each place others) ns) ≡ true
with_first_open place [] others is all = refl
with_first_open place (n ∷ ns) others is all =
    let parts = and_parts (are_openings n) (list_all are_openings ns) is in
    list_all-append are_open (one_each place others n) (flat_map (one_each place others) ns)
    ∙ both (list_all are_open (one_each place others n)) (list_all are_open (flat_map (one_each place others) ns))
    (each_open place others n parts.0 all) (with_first_open place ns others parts.1 all)

open_settings : (choices : List Choice) → are_choices_open choices ≡ true → list_all are_open (settings choices) ≡ true
open_settings [] is = refl
open_settings (x ∷ xs) is =
    let parts = and_parts (list_all are_openings x.openings.items) (are_choices_open xs) is in
    with_first_open x.place x.openings.items (settings xs) parts.0 (open_settings xs parts.1)

pub settings_open : (c : Topology) (choices : List Choice) → choices_fault c choices ≡ None → list_all are_open (settings choices) ≡ true
settings_open c choices e = open_settings choices (all_open c [] choices e)

length_each : (place : Place) (others : List (List Change)) (ns : List ℕ) → length (flat_map (one_each place others) ns) ≡ length ns * length others
length_each place others [] = sym (omega arith)
length_each place others (n ∷ ns) =
    length-append (one_each place others n) (flat_map (one_each place others) ns)
    ∙ omega (arith, length-map others (λ changes. record { place = place; openings = n } ∷ changes), length_each place others ns, suc-mul (length ns) (length others))

-- as many settings as the first choice has numbers, for each of those of the others
pub length_settings : (x : Choice) (xs : List Choice) → length (settings (x ∷ xs)) ≡ length x.openings.items * length (settings xs)
length_settings x xs = length_each x.place (settings xs) x.openings.items

-- ---- how many runs there are

-- with each number of one choice more
pub count_is : (x : Choice) (xs choices : List Choice) (seeds : ℕ) → choices ≡ x ∷ xs → length x.openings.items * (length (settings xs) * seeds) ≡ length (settings choices) * seeds
count_is x xs choices seeds is =
    sym (mul_assoc (length x.openings.items) (length (settings xs)) seeds)
    ∙ ap (λ n. n * seeds) (sym (length_settings x xs))
    ∙ ap (λ cs. length (settings cs) * seeds) (sym is)

pub count_many : (x : Choice) (xs choices : List Choice) (seeds : ℕ) → choices ≡ x ∷ xs → HaveSome choices → MAX_RUNS < length (settings xs) * seeds → MAX_RUNS < length (settings choices) * seeds
count_many x xs choices seeds is some many =
    let one : 1 ≤ length x.openings.items = (subst HaveSome is some).0 in
    omega (arith, many, count_is x xs choices seeds is, mul-le 1 (length (settings xs) * seeds) (length x.openings.items) (length (settings xs) * seeds) one (omega arith))

pub if_none : {X P : Type 0} (o : Option X) → P → IfNone o P
if_none None p = p
if_none (Some x) p = tt

-- ---- the first choice that is refused

-- where none before it has a fault, that of one is the first
first_at : {X F : Type 0} (f : List X × X → Option F) (before xs : List X) (i : ℕ) (d : X) (why : F) → i < length xs → first_answer f (prefixed_after before (take i xs)) ≡ None →
    f (before ++ take i xs, get_or xs i d) ≡ Some why → first_answer f (prefixed_after before xs) ≡ Some why
first_at f before [] i d why lt none here = absurd (omega (arith, lt))
first_at f before (x ∷ xs) zero d why lt none here =
    let now : f (before, x) ≡ Some why = ap (λ front. f (front, x)) (sym (append-nil before)) ∙ here in
    rw now refl
first_at f before (x ∷ xs) (suc i) d why lt none here =
    let not_now = or_left (f (before, x)) (first_answer f (prefixed_after (before ++ x ∷ []) (take i xs))) none in
    let later = or_right (f (before, x)) (first_answer f (prefixed_after (before ++ x ∷ []) (take i xs))) none in
    rw not_now (first_at f (before ++ x ∷ []) xs i d why (omega (arith, lt)) later (ap (λ front. f (front, get_or xs i d)) (append_assoc before (x ∷ []) (take i xs)) ∙ here))

pub refused_at : (c : Topology) (choices : List Choice) (i : ℕ) (d : Choice) (why : ChoiceFault) → i < length choices → choices_fault c (take i choices) ≡ None →
    choice_fault c (take i choices, get_or choices i d) ≡ Some why → choices_fault c choices ≡ Some why
refused_at c choices i d why lt none here = first_at (choice_fault c) [] choices i d why lt none here

pub none_more : (c : Topology) (choices : List Choice) (i : ℕ) (d : Choice) → i < length choices → choices_fault c (take i choices) ≡ None →
    choice_fault c (take i choices, get_or choices i d) ≡ None → choices_fault c (take (i + 1) choices) ≡ None
none_more c choices i d lt none here = rw (take_more choices i d lt) (first_answer-push (choice_fault c) (take i choices) (get_or choices i d) none here)
