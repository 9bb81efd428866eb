-- what one event more makes of the cases
use Rattle.std.proofs.Common.{◌≡◌, ℕ, zero, suc, ◌+◌, ◌<◌, ◌≤◌, Bool, true, false, cond, List, [], ◌∷◌, ◌++◌, length, drop, map, get_or, refl, sym, ap, ◌∙◌, arith, Option, Some, None, append-nil, length-append, ◌==◌, ◌&&◌, ◌||◌, not, filter, count_by, option_to_list, All, option_map, eq-eqb}
use Rattle.std.specs.List.{list_any}
use Rattle.std.proofs.lemmas.Bool.Decides.{nat_tests}
use Rattle.std.proofs.lemmas.List.{drop-append-le, drop_all, map-append}
use Rattle.std.proofs.lemmas.List.Elements.{filter-append, filter_agree, All-weaker}
use Rattle.std.proofs.lemmas.List.Folds.{list_any-append}
use Rattle.std.proofs.lemmas.List.Sums.{sum_by-append, sum_by-cons}
use Rattle.xpt_core.specs.Words.{prefixed, concerns, ccb_of, is_erring, is_recovering, Event, Send, Done, Requeue, Finish, Topology, Outcome, Rules, is_legal_event, is_legal}
use Rattle.cam_types.proofs.ListLemmas.{prefixed-push}
use Rattle.event_rules.proofs.PushLaws.{not_both}
use Rattle.event_rules.proofs.ListFacts.{count_by-kept, count_by-dropped, filter_map-push, filter-same, filter-both, filter-all, All-filter_map-prefixed}
use Rattle.event_rules.proofs.StateLaws.{is_recovering-push}
use Rattle.event_rules.proofs.CcbLaws.{event-induction}
use Rattle.event_rules.proofs.StandLemmas.{AreStates, states-legal, asks-send, asks-done, flying-states}
use Rattle.event_rules.proofs.FirstLemmas.{first-legal, stands}
use Rattle.xpt_core.proofs.CaseLists.{lacks-times, kept-all}
use Rattle.xpt_core.specs.Cases.{Failure, failure_of, failures, is_undecided, failed_ccb, cases, times, other_cases, decided}
use Rattle.xpt_core.proofs.ListFacts.{filter-map, map-option_to_list}
use Rattle.event_rules.proofs.ConcernLaws.{concerns-none}

pub failures-push : (es : List Event) (e : Event) → failures (es ++ e ∷ []) ≡ failures es ++ option_to_list (failure_of (es, e))
unfolding failures
failures-push es e = rw prefixed-push (filter_map-push failure_of (prefixed es) (es, e))

-- a failure stands at its place
placed : (b : Bool) (f g : Failure) (n : ℕ) → f.place ≡ n → cond b (Some f) None ≡ Some g → g.place ≡ n
placed true f g n is e = let same : f ≡ g = cc in ap (λ (h : Failure). h.place) (sym same) ∙ is
placed false f g n is e = absurd (cc)

pub place-failure_of : (m : List Event × Event) (f : Failure) → failure_of m ≡ Some f → f.place ≡ length m.0
place-failure_of (before, Done ccb outcome) f e = placed (is_erring (Done ccb outcome)) _ f (length before) refl e
place-failure_of (before, _) f e = absurd (cc)

places-failures : (es : List Event) → All (λ (f : Failure). f.place < length es) (failures es)
unfolding failures
places-failures es = All-filter_map-prefixed (λ (f : Failure). f.place < length es) failure_of (length es)
    (λ before x f lt e. let at : f.place ≡ length before = place-failure_of (before, x) f e in omega arith) [] es (omega arith)

is_undecided-push : (es : List Event) (e : Event) (f : Failure) → f.place < length es → is_undecided (es ++ e ∷ []) f ≡ (is_undecided es f && not (concerns f.ccb e))
is_undecided-push es e f lt =
    let le : f.place + 1 ≤ length es = omega arith in
    rw (drop-append-le (f.place + 1) es (e ∷ []) le) (rw (list_any-append (concerns f.ccb) (drop (f.place + 1) es) (e ∷ []))
    (not_both (list_any (concerns f.ccb) (drop (f.place + 1) es)) (concerns f.ccb e)))

new_undecided : (es : List Event) (e : Event) (o : Option Failure) → ((f : Failure) → o ≡ Some f → f.place ≡ length es) → filter (is_undecided (es ++ e ∷ [])) (option_to_list o) ≡ option_to_list o
new_undecided es e None h = refl
new_undecided es e (Some f) h =
    let at : f.place ≡ length es = h f refl in
    let past : length (es ++ e ∷ []) ≤ f.place + 1 = omega (arith, length-append es (e ∷ [])) in
    rw (drop_all (f.place + 1) (es ++ e ∷ []) past) refl

open-push : (es : List Event) (e : Event) → filter (is_undecided (es ++ e ∷ [])) (failures (es ++ e ∷ [])) ≡ filter (λ (f : Failure). not (concerns f.ccb e)) (filter (is_undecided es) (failures es)) ++ option_to_list (failure_of (es, e))
open-push es e =
    rw failures-push (rw (filter-append (is_undecided (es ++ e ∷ [])) (failures es) (option_to_list (failure_of (es, e))))
    (rw (filter-same (is_undecided (es ++ e ∷ [])) (λ (f : Failure). is_undecided es f && not (concerns f.ccb e)) (failures es)
    (All-weaker _ _ (λ (f : Failure) lt. is_undecided-push es e f lt) (failures es) (places-failures es)))
    (rw (filter-both (is_undecided es) (λ (f : Failure). not (concerns f.ccb e)) (failures es))
    (ap (λ fs. filter (λ (f : Failure). not (concerns f.ccb e)) (filter (is_undecided es) (failures es)) ++ fs)
    (new_undecided es e (failure_of (es, e)) (λ f is. place-failure_of (es, e) f is))))))

-- the case that an event makes
abbrev pub new_case : List Event → Event → List ℕ
new_case es e = option_to_list (option_map failed_ccb (failure_of (es, e)))

pub cases-push : (es : List Event) (e : Event) → cases (es ++ e ∷ []) ≡ filter (λ k. not (concerns k e)) (cases es) ++ new_case es e
unfolding cases
cases-push es e =
    let kept : List Failure = filter (is_undecided es) (failures es) in
    rw (open-push es e) (map-append failed_ccb (filter (λ (f : Failure). not (concerns f.ccb e)) kept) (option_to_list (failure_of (es, e)))
    ∙ ap (λ ks. ks ++ map failed_ccb (option_to_list (failure_of (es, e)))) (sym (filter-map (λ k. not (concerns k e)) failed_ccb kept))
    ∙ ap (λ ks. filter (λ k. not (concerns k e)) (map failed_ccb kept) ++ ks) (map-option_to_list failed_ccb (failure_of (es, e))))

-- an event concerns the CCB that it names, and errs for it
or_none : (b : Bool) → (b || false) ≡ b
or_none true = refl
or_none false = refl

pub concerns-same : (e : Event) (c : ℕ) → ccb_of e ≡ Some c → (k : ℕ) → concerns k e ≡ (c == k)
concerns-same (Send lane ccb) c is k = let same : ccb ≡ c = cc in rw (or_none (ccb == k), or_none (ccb == k), or_none (ccb == k)) (ap (λ n. n == k) same)
concerns-same (Done ccb outcome) c is k = let same : ccb ≡ c = cc in rw (or_none (ccb == k), or_none (ccb == k)) (ap (λ n. n == k) same)
concerns-same (Requeue ccb) c is k = let same : ccb ≡ c = cc in rw (or_none (ccb == k)) (ap (λ n. n == k) same)
concerns-same (Finish ccb) c is k = let same : ccb ≡ c = cc in ap (λ n. n == k) same
concerns-same _ c is k = absurd (cc)

erring_case : (b : Bool) (ccb c n : ℕ) → ccb ≡ c → option_to_list (option_map failed_ccb (cond b (Some (let f : Failure = record { ccb = ccb; place = n } in f)) None)) ≡ cond b (c ∷ []) []
erring_case true ccb c n e = ap (λ k. k ∷ []) e
erring_case false ccb c n e = refl

pub new_case-same : (es : List Event) (e : Event) (c : ℕ) → ccb_of e ≡ Some c → new_case es e ≡ cond (is_erring e) (c ∷ []) []
new_case-same es (Done ccb outcome) c is = let same : ccb ≡ c = cc in erring_case (is_erring (Done ccb outcome)) ccb c (length es) same
new_case-same es (Send lane ccb) c is = refl
new_case-same es (Requeue ccb) c is = refl
new_case-same es (Finish ccb) c is = refl
new_case-same es _ c is = absurd (cc)

pub new_case-none : (es : List Event) (e : Event) → ccb_of e ≡ None → new_case es e ≡ []
new_case-none es (Done ccb outcome) is = absurd (cc)
new_case-none es (Send lane ccb) is = absurd (cc)
new_case-none es (Requeue ccb) is = absurd (cc)
new_case-none es (Finish ccb) is = absurd (cc)
new_case-none es _ is = refl

cases-updated : (es : List Event) (e : Event) (c : ℕ) → ccb_of e ≡ Some c → cases (es ++ e ∷ []) ≡ other_cases c (cases es) ++ cond (is_erring e) (c ∷ []) []
cases-updated es e c is =
    cases-push es e ∙ ap (λ ks. ks ++ new_case es e) (filter_agree (λ k. not (concerns k e)) (λ k. not (c == k)) (λ k. ap not (concerns-same e c is k)) (cases es))
    ∙ ap (λ ks. other_cases c (cases es) ++ ks) (new_case-same es e c is)

cases-same : (es : List Event) (e : Event) → ccb_of e ≡ None → cases (es ++ e ∷ []) ≡ cases es
cases-same es e is =
    cases-push es e ∙ ap (λ ks. filter (λ k. not (concerns k e)) (cases es) ++ ks) (new_case-none es e is)
    ∙ append-nil (filter (λ k. not (concerns k e)) (cases es)) ∙ filter-all (λ k. not (concerns k e)) (λ k. ap not (concerns-none e k is)) (cases es)

-- each recovering CCB is a case, once, and no other is one
same_number : (a b : ℕ) → (a == b) ≡ true → a ≡ b
same_number a b e = grind (arith, nat_tests)

one_case : (b : Bool) (c k : ℕ) → times k (cond b (c ∷ []) []) ≡ cond (c == k) (cond b 1 0) 0
one_case true c k = omega (arith, sum_by-cons (λ x. cond {A = ℕ} (x == k) 1 0) c [])
one_case false c k = elim (c == k) as (λ t. 0 ≡ cond {A = ℕ} t 0 0) [ true ↦ refl | false ↦ refl ]

new_count : (es : List Event) (e : Event) (k : ℕ) (o : Option ℕ) → ccb_of e ≡ o → times k (new_case es e) ≡ cond (concerns k e) (cond (is_erring e) 1 0) 0
new_count es e k None is = rw (new_case-none es e is, concerns-none e k is) refl
new_count es e k (Some c) is = rw (new_case-same es e c is, concerns-same e c is k) (one_case (is_erring e) c k)

count_step_cases : (es : List Event) (e : Event) (k : ℕ) (t r : Bool) → concerns k e ≡ t → times k (cases es) ≡ cond r 1 0 →
    times k (filter (λ n. not (concerns n e)) (cases es)) + cond t (cond (is_erring e) 1 0) 0 ≡ cond (cond t (is_erring e) r) 1 0
count_step_cases es e k true r is h =
    let none : times k (filter (λ n. not (concerns n e)) (cases es)) ≡ 0 =
    count_by-dropped (λ x. x == k) (λ n. not (concerns n e)) (cases es) (λ x kept. differs x kept (x == k) refl) in
    omega (arith, none)
  where
    differs : (x : ℕ) → not (concerns x e) ≡ true → (b : Bool) → (x == k) ≡ b → (x == k) ≡ false
    differs x kept false same = same
    differs x kept true same = let n : x ≡ k = same_number x k same in let off : not (concerns k e) ≡ true = rw n at kept in let on : not true ≡ true = rw is at off in absurd (cc)
count_step_cases es e k false r is h =
    let all : times k (filter (λ n. not (concerns n e)) (cases es)) ≡ times k (cases es) =
    count_by-kept (λ x. x == k) (λ n. not (concerns n e)) (cases es) (λ x same. let n : x ≡ k = same_number x k same in rw n (ap not is)) in
    omega (arith, all, h)

count_step : (k : ℕ) (es : List Event) (e : Event) → times k (cases es) ≡ cond (is_recovering es k) 1 0 → times k (cases (es ++ e ∷ [])) ≡ cond (is_recovering (es ++ e ∷ []) k) 1 0
count_step k es e h =
    ap (λ ks. times k ks) (cases-push es e)
    ∙ sum_by-append (λ x. cond {A = ℕ} (x == k) 1 0) (filter (λ n. not (concerns n e)) (cases es)) (new_case es e)
    ∙ ap (λ n. times k (filter (λ m. not (concerns m e)) (cases es)) + n) (new_count es e k (ccb_of e) refl)
    ∙ count_step_cases es e k (concerns k e) (is_recovering es k) refl h
    ∙ ap (λ b. cond {A = ℕ} b 1 0) (sym (is_recovering-push es e k))

count_none : (k : ℕ) → times k (cases []) ≡ cond (is_recovering [] k) 1 0
unfolding cases failures is_recovering
count_none k = refl

pub count_cases : (es : List Event) (k : ℕ) → times k (cases es) ≡ cond (is_recovering es k) 1 0
count_cases es k = event-induction (λ xs. times k (cases xs) ≡ cond (is_recovering xs k) 1 0) (count_none k) (count_step k) es

-- a number at a place of a list is counted
counted_at : (xs : List ℕ) (i d : ℕ) → i < length xs → 1 ≤ count_by (λ x. x == get_or xs i d) xs
counted_at [] i d lt = absurd (omega arith)
counted_at (x ∷ xs) zero d lt = omega (arith, sum_by-cons (λ y. cond {A = ℕ} (y == x) 1 0) x xs, ap (λ b. cond {A = ℕ} b 1 0) (eq-eqb x x refl))
counted_at (x ∷ xs) (suc i) d lt = omega (arith, sum_by-cons (λ y. cond {A = ℕ} (y == get_or xs i d) 1 0) x xs, counted_at xs i d (omega arith))

counted_recovering : (b : Bool) → 1 ≤ cond {A = ℕ} b 1 0 → b ≡ true
counted_recovering true le = refl
counted_recovering false le = absurd (omega arith)

pub case_recovers : (es : List Event) (i d : ℕ) → i < length (cases es) → is_recovering es (get_or (cases es) i d) ≡ true
case_recovers es i d lt =
    let k = get_or (cases es) i d in
    counted_recovering (is_recovering es k) (omega (arith, counted_at (cases es) i d lt, count_cases es k))

-- the cases after a legal event, which finds its CCB where it is to be
module _ (rules : Rules) (c : Topology) (es : List Event) (legal : is_legal rules c es ≡ true) where
  states : AreStates es
  states = states-legal rules c es legal

  times-cases : (k : ℕ) (b : Bool) → is_recovering es k ≡ b → times k (cases es) ≡ cond b 1 0
  times-cases k b is = count_cases es k ∙ ap (λ t. cond {A = ℕ} t 1 0) is

  unsent : (lane ccb : ℕ) → is_legal_event rules c (es, Send lane ccb) ≡ true → is_recovering es ccb ≡ false
  unsent lane ccb allowed =
      let turn = first-legal c es lane ccb (asks-send rules c es lane ccb allowed).1 in
      (stands c es ccb turn.0 states turn.1).recovering

  flies : (ccb : ℕ) (o : Outcome) → is_legal_event rules c (es, Done ccb o) ≡ true → is_recovering es ccb ≡ false
  flies ccb o allowed = (flying-states es ccb states (asks-done rules c es ccb o allowed).1).recovering

  others-all : (k : ℕ) → is_recovering es k ≡ false → other_cases k (cases es) ≡ cases es
  others-all k is = kept-all k (cases es) (lacks-times k (cases es) (times-cases k false is))

  pub cases-decided : (e : Event) → is_legal_event rules c (es, e) ≡ true → cases (es ++ e ∷ []) ≡ decided e (cases es)
  cases-decided (Send lane ccb) allowed = cases-updated es (Send lane ccb) ccb refl ∙ append-nil (other_cases ccb (cases es)) ∙ others-all ccb (unsent lane ccb allowed)
  cases-decided (Done ccb o) allowed =
      cases-updated es (Done ccb o) ccb refl ∙ ap (λ ks. ks ++ cond (is_erring (Done ccb o)) (ccb ∷ []) []) (others-all ccb (flies ccb o allowed)) ∙ one_more (is_erring (Done ccb o)) ccb (cases es)
    where
      one_more : (b : Bool) (k : ℕ) (ks : List ℕ) → ks ++ cond b (k ∷ []) [] ≡ cond b (ks ++ k ∷ []) ks
      one_more true k ks = refl
      one_more false k ks = append-nil ks
  cases-decided (Requeue ccb) allowed = cases-updated es (Requeue ccb) ccb refl ∙ append-nil (other_cases ccb (cases es))
  cases-decided (Finish ccb) allowed = cases-updated es (Finish ccb) ccb refl ∙ append-nil (other_cases ccb (cases es))
  cases-decided e allowed = cases-same es e refl
