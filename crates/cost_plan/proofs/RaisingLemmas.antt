-- What raising potentials by arcs, one after another, does.
use Rattle.std.proofs.Common.{◌≡◌, ℕ, ◌+◌, ◌*◌, ◌/◌, ◌<◌, ◌≤◌, nat_le, true, false, cond, List, length, get_or, set, Option, Some, None, refl, sym, ap, ◌∙◌, subst, inl, inr, arith}
use Rattle.std.specs.Option.{option_or}
use Rattle.std.proofs.lemmas.Bool.{cases_eq, cases_lt, leb-true, leb-false, cond-true, cond-false}
use Rattle.std.proofs.lemmas.Nat.{mul-le}
use Rattle.std.proofs.lemmas.List.{length-set, get_or-set_same, get_or-set_other, set_past}
use Rattle.cost_plan.specs.Words.{Arc, came_by, PotentialTable, settles, needed, relaxed, raised, IsSettled, Instance}
use Rattle.cost_plan.specs.Cells.{cell}
use Rattle.cost_plan.specs.Residual.{IsResidual, move_arc}
use Rattle.cost_plan.specs.Raising.{Raises, IsRaising}

-- nothing is raised
pub Raises-none : (net : Instance) (f : ℕ → ℕ) (l : PotentialTable) → Raises net f l l None
Raises-none net f l = record {
  size = refl;
  most = refl;
  rises = λ node. omega arith;
  quiet = λ none. refl;
  inside = λ node is. cc;
  rose = λ node is. cc;
  came = λ node arc by. inl by;
}

-- one after another
some-or : (a b : Option ℕ) → option_or a b ≡ None → (a ≡ None) × (b ≡ None)
some-or None b e = (refl, e)
some-or (Some x) b e = cc

pub Raises-then : (net : Instance) (f : ℕ → ℕ) (a b c : PotentialTable) (first second : Option ℕ) → Raises net f a b first → Raises net f b c second → Raises net f a c (option_or second first)
Raises-then net f a b c first None r s = record {
  size = s.size ∙ r.size;
  most = s.most ∙ r.most;
  rises = λ node. omega (arith, r.rises node, s.rises node);
  quiet = λ none. s.quiet refl ∙ r.quiet none;
  inside = r.inside;
  rose = λ node is.
      let more = s.rises node in
      elim (r.rose node is) [ inl up ↦ inl (omega arith) | inr past ↦ inr (omega arith) ];
  came = λ node arc by. elim (s.came node arc by) [ inl before ↦ r.came node arc before | inr new ↦ inr new ];
}
Raises-then net f a b c first (Some x) r s = record {
  size = s.size ∙ r.size;
  most = s.most ∙ r.most;
  rises = λ node. omega (arith, r.rises node, s.rises node);
  quiet = λ none. cc;
  inside = λ node is. omega (arith, s.inside node is, r.size);
  rose = λ node is.
      let before = r.rises node in
      let sizes = r.size in
      elim (s.rose node is) [ inl up ↦ inl (omega arith) | inr past ↦ inr (omega arith) ];
  came = λ node arc by. elim (s.came node arc by) [ inl before ↦ r.came node arc before | inr new ↦ inr new ];
}

-- an arc that raises nothing is settled
pub IsSettled-from_raised : (l : PotentialTable) (arc : Arc) → raised l arc ≡ None → IsSettled l arc
unfolding raised
IsSettled-from_raised l arc none =
    let go = elim (settles l arc) as (λ b. settles l arc ≡ b → cond b None (cond (nat_le (needed l arc) l.most) (Some arc.head) (Some arc.tail)) ≡ None → IsSettled l arc) [
      | true ↦ λ e n. leb-true _ _ e
      | false ↦ λ e n.
          let never = elim (nat_le (needed l arc) l.most) as (λ b. cond b (Some arc.head) (Some arc.tail) ≡ None → ⊥) [ true ↦ λ k. cc | false ↦ λ k. cc ] in
          absurd (never n)
    ] in
    go refl none

-- one arc of what can be changed
relaxed-same : (l : PotentialTable) (arc : Arc) → settles l arc ≡ true → (relaxed l arc ≡ l) × (raised l arc ≡ None)
unfolding relaxed raised
relaxed-same l arc e = (cond-true _ _ _ e, cond-true _ _ _ e)

relaxed-past : (l : PotentialTable) (arc : Arc) → settles l arc ≡ false → nat_le (needed l arc) l.most ≡ false → (relaxed l arc ≡ l) × (raised l arc ≡ Some arc.tail)
unfolding relaxed raised
relaxed-past l arc e past = (cond-false _ _ _ e ∙ cond-false _ _ _ past, cond-false _ _ _ e ∙ cond-false _ _ _ past)

relaxed-up : (l : PotentialTable) (arc : Arc) → settles l arc ≡ false → nat_le (needed l arc) l.most ≡ true → (relaxed l arc ≡ record { most = l.most; potentials = set l.potentials arc.head (needed l arc); preds = set l.preds arc.head (Some arc) }) × (raised l arc ≡ Some arc.head)
unfolding relaxed raised
relaxed-up l arc e low = (cond-false _ _ _ e ∙ cond-true _ _ _ low, cond-false _ _ _ e ∙ cond-true _ _ _ low)

Raises-up : (net : Instance) (f : ℕ → ℕ) (l : PotentialTable) (arc : Arc) → arc.head < length l.potentials → settles l arc ≡ false → IsResidual net f arc → Raises net f l (record { most = l.most; potentials = set l.potentials arc.head (needed l arc); preds = set l.preds arc.head (Some arc) }) (Some arc.head)
Raises-up net f l arc heads unsettled residual =
    let over = leb-false _ _ unsettled in
    let here : get_or (set l.potentials arc.head (needed l arc)) arc.head 0 ≡ needed l arc = get_or-set_same l.potentials arc.head (needed l arc) 0 heads in
    record {
      size = length-set l.potentials arc.head (needed l arc);
      most = refl;
      rises = λ node. elim (cases_eq node arc.head) [
        | inl same ↦ omega (arith, over, here, ap (λ (v : ℕ). get_or (set l.potentials arc.head (needed l arc)) v 0) same, ap (λ (v : ℕ). get_or l.potentials v 0) same)
        | inr other ↦ omega (arith, get_or-set_other l.potentials arc.head node (needed l arc) 0 other)
      ];
      quiet = λ none. cc;
      inside = λ node is. let same : arc.head ≡ node = cc in omega arith;
      rose = λ node is.
          let same : arc.head ≡ node = cc in
          let there : get_or (set l.potentials arc.head (needed l arc)) node 0 ≡ needed l arc = ap (λ (v : ℕ). get_or (set l.potentials arc.head (needed l arc)) v 0) (sym same) ∙ here in
          inl (omega (arith, over, there, ap (λ (v : ℕ). get_or l.potentials v 0) same));
      came = λ node by came. elim (cases_eq node arc.head) [
        | inr other ↦ inl (sym (get_or-set_other l.preds arc.head node (Some arc) None other) ∙ came)
        | inl same ↦ elim (cases_lt arc.head (length l.preds)) [
          | inl known ↦
              let is_arc : Some arc ≡ Some by = sym (get_or-set_same l.preds arc.head (Some arc) None known) ∙ ap (came_by (set l.preds arc.head (Some arc))) (sym same) ∙ came in
              let which : arc ≡ by = cc in
              inr (subst (IsResidual net f) which residual)
          | inr past ↦ inl (ap (λ (ps : List (Option Arc)). came_by ps node) (sym (set_past l.preds arc.head (Some arc) past)) ∙ came)
        ]
      ];
    }

Raises-past : (net : Instance) (f : ℕ → ℕ) (l : PotentialTable) (arc : Arc) → arc.tail < length l.potentials → arc.up * length l.potentials ≤ l.most / 4 → nat_le (needed l arc) l.most ≡ false → Raises net f l l (Some arc.tail)
Raises-past net f l arc tails steep past =
    let one : arc.up * 1 ≤ arc.up * length l.potentials = mul-le arc.up 1 arc.up (length l.potentials) (omega arith) (omega arith) in
    let over = leb-false _ _ past in
    record {
      size = refl;
      most = refl;
      rises = λ node. omega arith;
      quiet = λ none. refl;
      inside = λ node is. let same : arc.tail ≡ node = cc in omega arith;
      rose = λ node is. let same : arc.tail ≡ node = cc in inr (omega (arith, over, one, steep, ap (λ (v : ℕ). get_or l.potentials v 0) same));
      came = λ node by came. inl came;
    }

pub Raises-relaxed : (net : Instance) (f : ℕ → ℕ) (l : PotentialTable) (arc : Arc) → arc.tail < length l.potentials → arc.head < length l.potentials → arc.up * length l.potentials ≤ l.most / 4 → IsResidual net f arc → Raises net f l (relaxed l arc) (raised l arc)
Raises-relaxed net f l arc tails heads steep residual =
    let P : PotentialTable → Option ℕ → Type 0 = λ m o. Raises net f l m o in
    let go = elim (settles l arc) as (λ b. settles l arc ≡ b → Raises net f l (relaxed l arc) (raised l arc)) [
      | true ↦ λ e. let is = relaxed-same l arc e in
          subst (λ (m : PotentialTable). P m (raised l arc)) (sym is.0) (subst (λ (o : Option ℕ). P l o) (sym is.1) (Raises-none net f l))
      | false ↦ λ e.
          let on = elim (nat_le (needed l arc) l.most) as (λ b. nat_le (needed l arc) l.most ≡ b → Raises net f l (relaxed l arc) (raised l arc)) [
            | true ↦ λ low. let is = relaxed-up l arc e low in
                subst (λ (m : PotentialTable). P m (raised l arc)) (sym is.0) (subst (λ (o : Option ℕ). P (record { most = l.most; potentials = set l.potentials arc.head (needed l arc); preds = set l.preds arc.head (Some arc) }) o) (sym is.1) (Raises-up net f l arc heads e residual))
            | false ↦ λ past. let is = relaxed-past l arc e past in
                subst (λ (m : PotentialTable). P m (raised l arc)) (sym is.0) (subst (λ (o : Option ℕ). P l o) (sym is.1) (Raises-past net f l arc tails steep past))
          ] in
          on refl
    ] in
    go refl

-- the same of what `relax` answers
pub Raises-by : (net : Instance) (f : ℕ → ℕ) (l new : PotentialTable) (found : Option ℕ) (arc : Arc) (n most : ℕ) → new ≡ relaxed l arc → found ≡ raised l arc → length l.potentials ≡ n → l.most ≡ most → arc.tail < n → arc.head < n → arc.up * n ≤ most / 4 → IsResidual net f arc → Raises net f l new found
Raises-by net f l new found arc n most is node size same tails heads steep residual =
    subst (λ (m : PotentialTable). Raises net f l m found) (sym is)
    (subst (λ (o : Option ℕ). Raises net f l (relaxed l arc) o) (sym node)
    (Raises-relaxed net f l arc (omega arith) (omega arith) (rw (size, same) steep) residual))

pub IsSettled-by : (l : PotentialTable) (found : Option ℕ) (arc that : Arc) → found ≡ raised l arc → arc ≡ that → found ≡ None → IsSettled l that
IsSettled-by l found arc that node same none = subst (IsSettled l) same (IsSettled-from_raised l arc (sym node ∙ none))

pub IsRaising-more : (net : Instance) (f : ℕ → ℕ) (Settles : PotentialTable → ℕ → Type 0) (low : ℕ) (initial now next : PotentialTable) (found more both : Option ℕ) (here : ℕ) → both ≡ option_or more found → IsRaising net f Settles low initial now found here → Raises net f now next more → (more ≡ None → Settles now here) → IsRaising net f Settles low initial next both (here + 1)
IsRaising-more net f Settles low initial now next found more both here is before step settles = record {
  raises = subst (λ (o : Option ℕ). Raises net f initial next o) (sym is) (Raises-then net f initial now next found more before.raises step);
  settled = λ none k from to.
      let neither = some-or more found (sym is ∙ none) in
      elim (cases_eq k here) [
        | inl same ↦ subst (λ (i : ℕ). Settles initial i) (sym same) (subst (λ (l : PotentialTable). Settles l here) (before.raises.quiet neither.1) (settles neither.0))
        | inr other ↦ before.settled neither.1 k from (omega arith)
      ];
}

-- a move on to a round, from the resource's beginning
pub move_arc-on : (net : Instance) (f : ℕ → ℕ) (stay round weight : ℕ) (start : Arc) → start ≡ move_arc net f stay 0 → weight ≡ net.weight stay → ◌≡◌ {A = Arc} (record { tail = start.tail; head = start.head + round; up = start.up; down = weight * round; mark = start.mark }) (move_arc net f stay round)
move_arc-on net f stay round weight start is same =
    let on : cell net (net.device stay) 0 + round ≡ cell net (net.device stay) round = omega arith in
    let by : (a : Arc) (w : ℕ) → Arc = λ a w. record { tail = a.tail; head = a.head + round; up = a.up; down = w * round; mark = a.mark } in
    ap (λ (a : Arc). by a weight) is ∙ ap (by (move_arc net f stay 0)) same
    ∙ ap (λ (h : ℕ). let arc : Arc = record { tail = cell net (net.device stay) (f stay); head = h; up = net.weight stay * f stay; down = net.weight stay * round; mark = Some stay } in arc) on
