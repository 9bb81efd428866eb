-- the caps of windows
use Rattle.std.proofs.Common.{◌≡◌, ℕ, zero, suc, ◌+◌, ◌-◌, ◌<◌, ◌≤◌, ◌==◌, ◌&&◌, Bool, true, false, cond, min, max, nat_le, nat_lt, List, [], ◌∷◌, ◌++◌, length, map, filter, take, get_or, find, slice_get, Some, None, refl, sym, ap, ◌∙◌, arith, inl, inr, All, ◌⊎◌, append_assoc, length-append, add-one}
use Rattle.std.specs.List.{list_all}
use Rattle.std.specs.Option.{option_map_or}
use Rattle.std.proofs.lemmas.Bool.{and_parts, and_from, and_right, or_cases, or_left, or_right, cases_lt, leb-true, ltb-true, eqb-true, eq-eqb, lt-ltb, le-ltb, le-leb, lt-leb, leb-false, ltb-false}
use Rattle.std.proofs.lemmas.List.{take_more, map-append, append-nil}
use Rattle.std.proofs.lemmas.List.Elements.{filter_more, All-nil, All-map, All-filter, All-weaker, All-push}
use Rattle.std.proofs.lemmas.Option.{get_or_from_slice_get, slice_get_within}
use Rattle.recording_file.proofs.ListLemmas.{all_of_filter}
use Rattle.cam_types.specs.Lists.{prefixed, prefixed_after}
use Rattle.cam_types.specs.Topology.{Topology}
use Rattle.recording_file.specs.declared.cap.Cap.{Cap}
use Rattle.recording_file.specs.declared.part.Part.{Part}
use Rattle.recording_file.specs.Caps.{covers, cap_in, openings, is_cap, is_over, is_next_cap, is_same_part, is_part_before, part_rank, part_count}
use Rattle.recording_file.specs.Counts.{counts_of}
use Rattle.window_recordings.specs.Windows.{first_cap, first_caps, second_cap, second_caps}

-- two orders that say the same
same_le : (a b x y : ℕ) → (a ≤ b → x ≤ y) → (x ≤ y → a ≤ b) → nat_le a b ≡ nat_le x y
same_le a b x y to from = elim (cases_lt b a) [
  | inl past ↦ lt-leb a b past ∙ sym (elim (cases_lt y x) [ inl beyond ↦ lt-leb x y beyond | inr within ↦ absurd (omega (arith, from within)) ])
  | inr by ↦ le-leb a b by ∙ sym (le-leb x y (to by))
]

-- one element more of what a test picks and a function makes
pub picked_more : {X Y : Type 0} (f : X → Y) (test : X → Bool) (xs : List X) (n : ℕ) (d : X) → n < length xs → map f (filter test (take (n + 1) xs)) ≡ map f (filter test (take n xs)) ++ map f (cond (test (get_or xs n d)) (get_or xs n d ∷ []) [])
picked_more f test xs n d lt = ap (map f) (filter_more test xs n d lt) ∙ map-append f (filter test (take n xs)) (cond (test (get_or xs n d)) (get_or xs n d ∷ []) [])

pub picked_yes : {X Y : Type 0} (f : X → Y) (test : X → Bool) (xs : List X) (n : ℕ) (d : X) → n < length xs → test (get_or xs n d) ≡ true → map f (filter test (take (n + 1) xs)) ≡ map f (filter test (take n xs)) ++ f (get_or xs n d) ∷ []
picked_yes f test xs n d lt passes = picked_more f test xs n d lt ∙ rw passes refl

pub picked_no : {X Y : Type 0} (f : X → Y) (test : X → Bool) (xs : List X) (n : ℕ) (d : X) → n < length xs → test (get_or xs n d) ≡ false → map f (filter test (take (n + 1) xs)) ≡ map f (filter test (take n xs))
picked_no f test xs n d lt fails = picked_more f test xs n d lt ∙ rw fails (simp append-nil)

-- ---- what a part takes in a round

-- if a function keeps what the picked ones say of a round, and the others say nothing of it, so do they all
said : (f : Cap → Cap) (pick : Cap → Bool) (p : Part) (old new : ℕ) → ((cap : Cap) → pick cap ≡ true → covers p new (f cap) ≡ covers p old cap) → ((cap : Cap) → pick cap ≡ false → covers p old cap ≡ false) → ((cap : Cap) → (f cap).most ≡ cap.most)
    → (caps : List Cap) (d : ℕ) → option_map_or (λ (cap : Cap). cap.most) (find (covers p new) (map f (filter pick caps))) d ≡ option_map_or (λ (cap : Cap). cap.most) (find (covers p old) caps) d
said f pick p old new kept none most [] d = refl
said f pick p old new kept none most (cap ∷ caps) d =
    let rest = said f pick p old new kept none most caps d in
    elim (pick cap) as (λ b. pick cap ≡ b → option_map_or (λ (cap : Cap). cap.most) (find (covers p new) (map f (cond b (cap ∷ filter pick caps) (filter pick caps)))) d ≡ option_map_or (λ (cap : Cap). cap.most) (cond (covers p old cap) (Some cap) (find (covers p old) caps)) d) [
      | true ↦ λ yes.
          let same = kept cap yes in
          rw same (elim (covers p old cap) as (λ b. option_map_or (λ (cap : Cap). cap.most) (cond b (Some (f cap)) (find (covers p new) (map f (filter pick caps)))) d ≡ option_map_or (λ (cap : Cap). cap.most) (cond b (Some cap) (find (covers p old) caps)) d) [ true ↦ most cap | false ↦ rest ])
      | false ↦ λ other. rw (none cap other) rest
    ] refl

pub cap_in-first : (t : Topology) (c : ℕ) (caps : List Cap) (p : Part) (r : ℕ) → r ≤ c → cap_in t (first_caps c caps) p r ≡ cap_in t caps p r
cap_in-first t c caps p r within = said (first_cap c) (λ (cap : Cap). nat_le cap.first c) p r r
    (λ cap yes. ap (λ b. is_same_part cap.part p && (nat_le cap.first r && b)) (same_le r (min c cap.last) r cap.last (λ h. omega arith) (λ h. omega arith)))
    (λ cap other. and_right (is_same_part cap.part p) _ (let late = leb-false cap.first c other in ap (λ b. b && nat_le r cap.last) (lt-leb cap.first r (omega arith))))
    (λ cap. refl) caps (openings t p)

pub cap_in-second : (t : Topology) (c : ℕ) (caps : List Cap) (p : Part) (r : ℕ) → c < r → cap_in t (second_caps c caps) p (r - c) ≡ cap_in t caps p r
cap_in-second t c caps p r past = said (second_cap c) (λ (cap : Cap). nat_lt c cap.last) p r (r - c)
    (λ cap yes. let after = ltb-true c cap.last yes in
    ap (λ b. is_same_part cap.part p && (b && nat_le (r - c) (cap.last - c))) (same_le (max (cap.first - c) 1) (r - c) cap.first r (λ h. omega arith) (λ h. omega arith))
    ∙ ap (λ b. is_same_part cap.part p && (nat_le cap.first r && b)) (same_le (r - c) (cap.last - c) r cap.last (λ h. omega arith) (λ h. omega arith)))
    (λ cap other. and_right (is_same_part cap.part p) _ (let early = ltb-false c cap.last other in and_right (nat_le cap.first r) _ (lt-leb r cap.last (omega arith))))
    (λ cap. refl) caps (openings t p)

-- ---- caps stand in order

-- what is_cap says
pub record IsCapOf (rounds : ℕ) (t : Topology) (before : List Cap) (cap : Cap) : Type 0 where
  pub there : nat_lt cap.part.number (part_count (counts_of t) cap.part.kind) ≡ true
  pub next : is_next_cap before cap.part cap.first ≡ true
  pub some : 1 ≤ cap.first
  pub order : cap.first ≤ cap.last
  pub last : cap.last ≤ rounds
  pub few : nat_le cap.most 65535 ≡ true

cap_of : (rounds : ℕ) (t : Topology) (before : List Cap) (cap : Cap) → is_cap rounds (counts_of t) (before, cap) ≡ true → IsCapOf rounds t before cap
unfolding is_cap
cap_of rounds t before cap e =
    let one = and_parts _ _ e in
    let two = and_parts (is_next_cap before cap.part cap.first) _ one.1 in
    let three = and_parts (nat_le 1 cap.first) _ two.1 in
    let four = and_parts (nat_le cap.first cap.last) _ three.1 in
    let five = and_parts (nat_le cap.last rounds) _ four.1 in
    record { there = one.0; next = two.0; some = leb-true _ _ three.0; order = leb-true _ _ four.0; last = leb-true _ _ five.0; few = five.1 }

is_cap_from : (rounds : ℕ) (t : Topology) (before : List Cap) (cap : Cap) → IsCapOf rounds t before cap → is_cap rounds (counts_of t) (before, cap) ≡ true
unfolding is_cap
is_cap_from rounds t before cap is = and_from _ _ is.there (and_from _ _ is.next (and_from _ _ (le-leb _ _ is.some) (and_from _ _ (le-leb _ _ is.order) (and_from _ _ (le-leb _ _ is.last) is.few))))

-- a cap is over before a part's round
abbrev pub IsOver : Part → ℕ → Cap → Type 0
IsOver p r cap = is_over cap p r ≡ true

-- where it stands among the parts, by numbers
abbrev Before : Part → Part → Type 0
Before a b = (part_rank a.kind < part_rank b.kind) ⊎ ((part_rank a.kind ≡ part_rank b.kind) × (a.number < b.number))

before_of : (a b : Part) → is_part_before a b ≡ true → Before a b
before_of a b e = elim (or_cases _ _ e) [
  | inl lt ↦ inl (ltb-true _ _ lt)
  | inr same ↦ let parts = and_parts (part_rank a.kind == part_rank b.kind) _ same in inr (eqb-true _ _ parts.0, ltb-true _ _ parts.1)
]

before_from : (a b : Part) → Before a b → is_part_before a b ≡ true
before_from a b (inl lt) = or_left _ _ (lt-ltb _ _ lt)
before_from a b (inr same) = or_right _ _ (and_from _ _ (eq-eqb _ _ same.0) (lt-ltb _ _ same.1))

abbrev Over : Part → ℕ → Cap → Type 0
Over p r cap = Before cap.part p ⊎ ((part_rank cap.part.kind ≡ part_rank p.kind) × (cap.part.number ≡ p.number) × (cap.last < r))

over_of : (p : Part) (r : ℕ) (cap : Cap) → IsOver p r cap → Over p r cap
over_of p r cap e = elim (or_cases _ _ e) [
  | inl before ↦ inl (before_of cap.part p before)
  | inr same ↦
      let parts = and_parts (is_same_part cap.part p) _ same in
      let part = and_parts (part_rank cap.part.kind == part_rank p.kind) _ parts.0 in
      inr (eqb-true _ _ part.0, eqb-true _ _ part.1, ltb-true _ _ parts.1)
]

over_from : (p : Part) (r : ℕ) (cap : Cap) → Over p r cap → IsOver p r cap
over_from p r cap (inl before) = or_left _ _ (before_from cap.part p before)
over_from p r cap (inr same) = or_right _ _ (and_from _ _ (and_from _ _ (eq-eqb _ _ same.0) (eq-eqb _ _ same.1)) (lt-ltb _ _ same.2))

-- what is over before a cap is over before what this one is over before
over_through : (p : Part) (r : ℕ) (mid cap : Cap) → mid.first ≤ mid.last → IsOver mid.part mid.first cap → IsOver p r mid → IsOver p r cap
over_through p r mid cap order one two = over_from p r cap (go (over_of mid.part mid.first cap one) (over_of p r mid two))
  where
    go : Over mid.part mid.first cap → Over p r mid → Over p r cap
    go (inl (inl a)) (inl (inl b)) = inl (inl (omega arith))
    go (inl (inl a)) (inl (inr b)) = inl (inl (omega (arith, b.0)))
    go (inl (inl a)) (inr b) = inl (inl (omega (arith, b.0)))
    go (inl (inr a)) (inl (inl b)) = inl (inl (omega (arith, a.0)))
    go (inl (inr a)) (inl (inr b)) = inl (inr (omega (arith, a.0, b.0), omega (arith, a.1, b.1)))
    go (inl (inr a)) (inr b) = inl (inr (omega (arith, a.0, b.0), omega (arith, a.1, b.1)))
    go (inr a) (inl (inl b)) = inl (inl (omega (arith, a.0)))
    go (inr a) (inl (inr b)) = inl (inr (omega (arith, a.0, b.0), omega (arith, a.1, b.1)))
    go (inr a) (inr b) = inr (omega (arith, a.0, b.0), omega (arith, a.1, b.1), omega (arith, a.2, b.2))

at_element : {X : Type 0} (P : X → Type 0) (xs : List X) (i : ℕ) (x : X) → All P xs → slice_get xs i ≡ Some x → P x
at_element P xs i x h e =
    let same : get_or xs i x ≡ x = get_or_from_slice_get xs i x x e in
    rw same at (h i x (slice_get_within xs i x e))

next_where_over : (p : Part) (r : ℕ) (caps : List Cap) → All (IsOver p r) caps → is_next_cap caps p r ≡ true
next_where_over p r caps h = elim (slice_get caps (length caps - 1)) as (λ o. slice_get caps (length caps - 1) ≡ o → option_map_or (λ (cap : Cap). is_over cap p r) o true ≡ true) [
  | None ↦ λ e. refl
  | Some cap ↦ λ e. at_element (IsOver p r) caps (length caps - 1) cap h e
] refl

over_where_next : (p : Part) (r : ℕ) (caps : List Cap) (cap : Cap) → is_next_cap (caps ++ cap ∷ []) p r ≡ true → IsOver p r cap
over_where_next p r caps cap next =
    let last : slice_get (caps ++ cap ∷ []) (length (caps ++ cap ∷ []) - 1) ≡ Some cap = ap (slice_get (caps ++ cap ∷ [])) (let e = length-append caps (cap ∷ []) in omega arith) ∙ end caps in
    rw last at next
  where
    end : (xs : List Cap) → slice_get (xs ++ cap ∷ []) (length xs) ≡ Some cap
    end [] = refl
    end (x ∷ xs) = end xs

-- what holds of each element beside those before it holds of the one at a place
list_all-prefixed_after : {X : Type 0} (test : List X × X → Bool) (before xs : List X) (n : ℕ) (d : X) → list_all test (prefixed_after before xs) ≡ true → n < length xs → test (before ++ take n xs, get_or xs n d) ≡ true
list_all-prefixed_after test before [] n d all less = absurd (omega arith)
list_all-prefixed_after test before (x ∷ xs) zero d all less = rw (append-nil before) (and_parts (test (before, x)) _ all).0
list_all-prefixed_after test before (x ∷ xs) (suc n) d all less = rw append_assoc at (list_all-prefixed_after test (before ++ x ∷ []) xs n d (and_parts (test (before, x)) _ all).1 (omega arith))

pub list_all-prefixed : {X : Type 0} (test : List X × X → Bool) (xs : List X) (n : ℕ) (d : X) → list_all test (prefixed xs) ≡ true → n < length xs → test (take n xs, get_or xs n d) ≡ true
list_all-prefixed test xs n d all less = list_all-prefixed_after test [] xs n d all less

-- all caps before one are over before its first round
earlier_over : (rounds : ℕ) (t : Topology) (caps : List Cap) (n : ℕ) (d : Cap) → list_all (is_cap rounds (counts_of t)) (prefixed caps) ≡ true → n < length caps → All (IsOver (get_or caps n d).part (get_or caps n d).first) (take n caps)
earlier_over rounds t caps zero d are lt = All-nil (IsOver (get_or caps 0 d).part (get_or caps 0 d).first)
earlier_over rounds t caps (suc n) d are lt =
    let mid : Cap = get_or caps n d in
    let cap : Cap = get_or caps (suc n) d in
    let less : n < length caps = omega arith in
    let more : take (suc n) caps ≡ take n caps ++ mid ∷ [] = rw add-one at (take_more caps n d less) in
    let is = cap_of rounds t (take n caps) mid (list_all-prefixed (is_cap rounds (counts_of t)) caps n d are less) in
    let next = (cap_of rounds t (take (suc n) caps) cap (list_all-prefixed (is_cap rounds (counts_of t)) caps (suc n) d are lt)).next in
    let here : IsOver cap.part cap.first mid = over_where_next cap.part cap.first (take n caps) mid (rw more at next) in
    rw more (All-push (IsOver cap.part cap.first) (take n caps) mid (All-weaker (IsOver mid.part mid.first) (IsOver cap.part cap.first) (λ x one. over_through cap.part cap.first mid x is.order one here) (take n caps) (earlier_over rounds t caps n d are less)) here)

-- ---- the caps of a window

pub first_cap_next : (rounds c : ℕ) (t : Topology) (caps : List Cap) (n : ℕ) (d : Cap) → list_all (is_cap rounds (counts_of t)) (prefixed caps) ≡ true → 1 ≤ c → n < length caps → (get_or caps n d).first ≤ c
    → is_cap c (counts_of t) (first_caps c (take n caps), first_cap c (get_or caps n d)) ≡ true
first_cap_next rounds c t caps n d are some lt within =
    let cap : Cap = get_or caps n d in
    let is = cap_of rounds t (take n caps) cap (list_all-prefixed (is_cap rounds (counts_of t)) caps n d are lt) in
    let over = earlier_over rounds t caps n d are lt in
    is_cap_from c t (first_caps c (take n caps)) (first_cap c cap) (record {
      there = is.there;
      next = next_where_over cap.part cap.first (first_caps c (take n caps)) (All-map (IsOver cap.part cap.first) (first_cap c) (filter (λ (x : Cap). nat_le x.first c) (take n caps)) (All-filter (λ (x : Cap). nat_le x.first c) (λ x. IsOver cap.part cap.first (first_cap c x)) (take n caps)
          (All-weaker (IsOver cap.part cap.first) (λ x. IsOver cap.part cap.first (first_cap c x)) (λ x h. shorter x (over_of cap.part cap.first x h)) (take n caps) over)));
      some = is.some;
      order = let h = is.order in omega arith;
      last = omega arith;
      few = is.few;
    })
  where
    shorter : (x : Cap) → Over (get_or caps n d).part (get_or caps n d).first x → IsOver (get_or caps n d).part (get_or caps n d).first (first_cap c x)
    shorter x (inl before) = over_from _ _ (first_cap c x) (inl before)
    shorter x (inr same) = over_from _ _ (first_cap c x) (inr (same.0, same.1, omega (arith, same.2)))

pub second_cap_next : (rounds c : ℕ) (t : Topology) (caps : List Cap) (n : ℕ) (d : Cap) → list_all (is_cap rounds (counts_of t)) (prefixed caps) ≡ true → c < rounds → n < length caps → c < (get_or caps n d).last
    → is_cap (rounds - c) (counts_of t) (second_caps c (take n caps), second_cap c (get_or caps n d)) ≡ true
second_cap_next rounds c t caps n d are some lt within =
    let cap : Cap = get_or caps n d in
    let is = cap_of rounds t (take n caps) cap (list_all-prefixed (is_cap rounds (counts_of t)) caps n d are lt) in
    let over = earlier_over rounds t caps n d are lt in
    is_cap_from (rounds - c) t (second_caps c (take n caps)) (second_cap c cap) (record {
      there = is.there;
      next = next_where_over cap.part (max (cap.first - c) 1) (second_caps c (take n caps)) (All-map (IsOver cap.part (max (cap.first - c) 1)) (second_cap c) (filter (λ (x : Cap). nat_lt c x.last) (take n caps))
          (all_of_filter (λ (x : Cap). nat_lt c x.last) (λ x. IsOver cap.part (max (cap.first - c) 1) (second_cap c x)) (take n caps)
          (All-weaker (IsOver cap.part cap.first) (λ (x : Cap). nat_lt c x.last ≡ true → IsOver cap.part (max (cap.first - c) 1) (second_cap c x)) (λ x h picked. shorter x (over_of cap.part cap.first x h) (ltb-true _ _ picked)) (take n caps) over)));
      some = omega arith;
      order = let h = is.order in omega arith;
      last = let h = is.last in omega arith;
      few = is.few;
    })
  where
    shorter : (x : Cap) → Over (get_or caps n d).part (get_or caps n d).first x → c < x.last → IsOver (get_or caps n d).part (max ((get_or caps n d).first - c) 1) (second_cap c x)
    shorter x (inl before) after = over_from _ _ (second_cap c x) (inl before)
    shorter x (inr same) after = over_from _ _ (second_cap c x) (inr (same.0, same.1, omega (arith, same.2)))

-- ---- one cap more

pub first_caps_more : (c : ℕ) (caps : List Cap) (n : ℕ) (d : Cap) → n < length caps → (get_or caps n d).first ≤ c → first_caps c (take n caps) ++ first_cap c (get_or caps n d) ∷ [] ≡ first_caps c (take (n + 1) caps)
first_caps_more c caps n d lt within = sym (picked_yes (first_cap c) (λ (cap : Cap). nat_le cap.first c) caps n d lt (le-leb _ _ within))

pub first_caps_same : (c : ℕ) (caps : List Cap) (n : ℕ) (d : Cap) → n < length caps → c < (get_or caps n d).first → first_caps c (take n caps) ≡ first_caps c (take (n + 1) caps)
first_caps_same c caps n d lt past = sym (picked_no (first_cap c) (λ (cap : Cap). nat_le cap.first c) caps n d lt (lt-leb _ _ past))

pub second_caps_more : (c : ℕ) (caps : List Cap) (n : ℕ) (d : Cap) → n < length caps → c < (get_or caps n d).last → second_caps c (take n caps) ++ second_cap c (get_or caps n d) ∷ [] ≡ second_caps c (take (n + 1) caps)
second_caps_more c caps n d lt past = sym (picked_yes (second_cap c) (λ (cap : Cap). nat_lt c cap.last) caps n d lt (lt-ltb _ _ past))

pub second_caps_same : (c : ℕ) (caps : List Cap) (n : ℕ) (d : Cap) → n < length caps → (get_or caps n d).last ≤ c → second_caps c (take n caps) ≡ second_caps c (take (n + 1) caps)
second_caps_same c caps n d lt within = sym (picked_no (second_cap c) (λ (cap : Cap). nat_lt c cap.last) caps n d lt (le-ltb _ _ within))
