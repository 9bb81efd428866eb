-- Stays that take the free rounds of a span.
use Rattle.std.proofs.Common.{◌≡◌, ◌≢◌, ℕ, ◌+◌, ◌<◌, ◌≤◌, ◌⊎◌, List, length, get_or, set, slice_index, Option, Some, None, refl, sym, ap, ◌∙◌, inl, inr, arith, get_or-set_same, get_or-set_other}
use Rattle.std.proofs.lemmas.Bool.{cases_eq, cases_lt}
use Rattle.std.proofs.Math.ListN.{length-set}
use Rattle.orders.specs.FirstWaiting.{IsTaken, Skips, Takes}

-- so far: up to a round
pub record IsTaking (old now : List (Option ℕ)) (next : List ℕ) (from here to stay : ℕ) : Type 0 where
  pub long : length now ≡ length old
  pub skips : Skips now next
  pub low : from ≤ here
  pub fresh : (r : ℕ) → from ≤ r → r < here → r < to → get_or old r None ≡ None → get_or now r None ≡ Some stay
  pub kept : (r : ℕ) → IsTaken old r → get_or now r None ≡ get_or old r None
  pub outside : (r : ℕ) → (r < from) ⊎ ((here ≤ r) ⊎ (to ≤ r)) → get_or now r None ≡ get_or old r None

pub IsTaking-begun : (old : List (Option ℕ)) (next : List ℕ) (from to stay : ℕ) → Skips old next → IsTaking old old next from from to stay
IsTaking-begun old next from to stay skips = record {
  long = refl;
  skips = skips;
  low = omega arith;
  fresh = λ r low high. absurd (omega arith);
  kept = λ r taken. refl;
  outside = λ r out. refl;
}

some_taken : (firsts : List (Option ℕ)) (r stay : ℕ) → get_or firsts r None ≡ Some stay → IsTaken firsts r
some_taken firsts r stay is none = let e : Some stay ≡ None = sym is ∙ none in cc

-- the next round after a taken one is the one after the next
pub IsTaking-jump : (old now : List (Option ℕ)) (next new : List ℕ) (from here to stay after : ℕ) → to < length old → here < to → IsTaking old now next from here to stay → after ≡ slice_index next here → here < after → new ≡ set next here (slice_index next after) → IsTaking old now new from after to stay
IsTaking-jump old now next new from here to stay after within less so_far is past set_is =
    let skips = so_far.skips in
    let inside : here < length now = omega (arith, so_far.long) in
    let landed : after < length now = omega (arith, is, skips.within here inside) in
    let known : here < length next = omega (arith, skips.long) in
    let at_here : slice_index new here ≡ slice_index next after = ap (λ (xs : List ℕ). slice_index xs here) set_is ∙ get_or-set_same next here (slice_index next after) 0 known in
    let elsewhere : (r : ℕ) → r ≢ here → slice_index new r ≡ slice_index next r = λ r other. ap (λ (xs : List ℕ). slice_index xs r) set_is ∙ get_or-set_other next here r (slice_index next after) 0 other in
    record {
      long = so_far.long;
      skips = record {
        long = ap length set_is ∙ length-set next here (slice_index next after) ∙ skips.long;
        within = λ r low. elim (cases_eq r here) [
          | inl same ↦ omega (arith, ap (slice_index new) same, at_here, skips.within after landed)
          | inr other ↦ omega (arith, elsewhere r other, skips.within r low)
        ];
        ahead = λ r low. elim (cases_eq r here) [
          | inl same ↦ omega (arith, ap (slice_index new) same, at_here, skips.ahead after landed)
          | inr other ↦ omega (arith, elsewhere r other, skips.ahead r low)
        ];
        taken = λ r q low from_r to_next. elim (cases_eq r here) [
          | inl same ↦ elim (cases_lt q after) [
            | inl before ↦ skips.taken here q inside (omega arith) (omega (arith, is))
            | inr beyond ↦ skips.taken after q landed beyond (omega (arith, ap (slice_index new) same, at_here))
          ]
          | inr other ↦ skips.taken r q low from_r (omega (arith, elsewhere r other))
        ];
        free = λ r low none. elim (cases_eq r here) [
          | inl same ↦ absurd (omega (arith, ap (slice_index new) same, at_here, skips.ahead after landed))
          | inr other ↦ skips.free r low (omega (arith, elsewhere r other))
        ];
      };
      low = omega (arith, so_far.low);
      fresh = λ r low high before none. elim (cases_lt r here) [
        | inl done ↦ so_far.fresh r low done before none
        | inr rest ↦ absurd (skips.taken here r inside rest (omega (arith, is)) (so_far.outside r (inr (inl rest)) ∙ none))
      ];
      kept = so_far.kept;
      outside = λ r out. so_far.outside r (elim out [ inl before ↦ inl before | inr rest ↦ inr (elim rest [ inl beyond ↦ inl (omega arith) | inr past ↦ inr past ]) ]);
    }

-- a free round is taken
pub IsTaking-take : (old now taken : List (Option ℕ)) (next new : List ℕ) (from here to stay after : ℕ) → to < length old → here < to → IsTaking old now next from here to stay → after ≡ slice_index next here → after ≤ here → taken ≡ set now here (Some stay) → new ≡ set next here (here + 1) → IsTaking old taken new from (here + 1) to stay
IsTaking-take old now taken next new from here to stay after within less so_far is near taken_is new_is =
    let skips = so_far.skips in
    let inside : here < length now = omega (arith, so_far.long) in
    let known : here < length next = omega (arith, skips.long) in
    let free : get_or now here None ≡ None = skips.free here inside (omega (arith, is)) in
    let was : get_or old here None ≡ None = sym (so_far.outside here (inr (inl (omega arith)))) ∙ free in
    let long : length taken ≡ length now = ap length taken_is ∙ length-set now here (Some stay) in
    let here_has : get_or taken here None ≡ Some stay = ap (λ (xs : List (Option ℕ)). get_or xs here None) taken_is ∙ get_or-set_same now here (Some stay) None inside in
    let others : (r : ℕ) → r ≢ here → get_or taken r None ≡ get_or now r None = λ r other. ap (λ (xs : List (Option ℕ)). get_or xs r None) taken_is ∙ get_or-set_other now here r (Some stay) None other in
    let at_here : slice_index new here ≡ here + 1 = ap (λ (xs : List ℕ). slice_index xs here) new_is ∙ get_or-set_same next here (here + 1) 0 known in
    let elsewhere : (r : ℕ) → r ≢ here → slice_index new r ≡ slice_index next r = λ r other. ap (λ (xs : List ℕ). slice_index xs r) new_is ∙ get_or-set_other next here r (here + 1) 0 other in
    let still : (q : ℕ) → IsTaken now q → IsTaken taken q = λ q was_taken none. elim (cases_eq q here) [
      | inl same ↦ was_taken (ap (λ (x : ℕ). get_or now x None) same ∙ free)
      | inr other ↦ was_taken (sym (others q other) ∙ none)
    ] in
    record {
      long = long ∙ so_far.long;
      skips = record {
        long = ap length new_is ∙ length-set next here (here + 1) ∙ skips.long ∙ sym long;
        within = λ r low. elim (cases_eq r here) [
          | inl same ↦ omega (arith, ap (slice_index new) same, at_here, long, so_far.long)
          | inr other ↦ omega (arith, elsewhere r other, skips.within r (omega (arith, long)), long)
        ];
        ahead = λ r low. elim (cases_eq r here) [
          | inl same ↦ omega (arith, ap (slice_index new) same, at_here)
          | inr other ↦ omega (arith, elsewhere r other, skips.ahead r (omega (arith, long)))
        ];
        taken = λ r q low from_r to_next. elim (cases_eq r here) [
          | inl same ↦ some_taken taken q stay (ap (λ (x : ℕ). get_or taken x None) (let e : q ≡ here = omega (arith, ap (slice_index new) same, at_here) in e) ∙ here_has)
          | inr other ↦ still q (skips.taken r q (omega (arith, long)) from_r (omega (arith, elsewhere r other)))
        ];
        free = λ r low none. elim (cases_eq r here) [
          | inl same ↦ absurd (omega (arith, ap (slice_index new) same, at_here))
          | inr other ↦ others r other ∙ skips.free r (omega (arith, long)) (omega (arith, elsewhere r other))
        ];
      };
      low = omega (arith, so_far.low);
      fresh = λ r low high before none. elim (cases_eq r here) [
        | inl same ↦ ap (λ (x : ℕ). get_or taken x None) same ∙ here_has
        | inr other ↦ others r other ∙ so_far.fresh r low (omega arith) before none
      ];
      kept = λ r was_taken. elim (cases_eq r here) [
        | inl same ↦ absurd (was_taken (ap (λ (x : ℕ). get_or old x None) same ∙ was))
        | inr other ↦ others r other ∙ so_far.kept r was_taken
      ];
      outside = λ r out. elim (cases_eq r here) [
        | inl same ↦ absurd (elim out [ inl before ↦ omega (arith, so_far.low) | inr rest ↦ elim rest [ inl beyond ↦ omega arith | inr past ↦ omega arith ] ])
        | inr other ↦ others r other ∙ so_far.outside r (elim out [ inl before ↦ inl before | inr rest ↦ inr (elim rest [ inl beyond ↦ inl (omega arith) | inr past ↦ inr past ]) ])
      ];
    }

pub Takes-done : (old now : List (Option ℕ)) (next : List ℕ) (from here to stay : ℕ) → IsTaking old now next from here to stay → to ≤ here → Takes old now from to stay
Takes-done old now next from here to stay so_far done = record {
  long = so_far.long;
  fresh = λ r low high none. so_far.fresh r low (omega arith) high none;
  kept = so_far.kept;
  outside = λ r out. so_far.outside r (elim out [ inl before ↦ inl before | inr past ↦ inr (inr past) ]);
}
