-- A closed walk along the arcs by which potentials rose gains; a walk that ends bounds the potential that it began at.
use Rattle.std.proofs.Common.{◌≡◌, ℕ, suc, ◌+◌, ◌*◌, ◌/◌, ◌<◌, ◌≤◌, ◌⊎◌, List, [], ◌∷◌, length, get_or, drop, Option, Some, None, Result, Ok, IfOk, ap, inl, inr, arith, IfSome, IfNone, All, sum_by}
use Rattle.std.proofs.Math.Nat.{div-mul-le_self, mul-suc}
use Rattle.std.proofs.lemmas.Nat.{le-div, mul-le}
use Rattle.std.proofs.lemmas.List.Sums.{sum_by-cons}
use Rattle.std.proofs.lemmas.List.Elements.{All-head, All-tail}
use Rattle.negative_cycle.specs.PotentialTable.{IsRisenBy, IsForest, highest_root}
use Rattle.negative_cycle.specs.Walks.{LeadsBack, AllCameBy, IsLoop, IsGainingCycle, EndsAtRoot, Arc}

-- what nodes have, summed over the tails and over the heads of a walk
pub telescope : (h : ℕ → ℕ) (from : ℕ) (arcs : List Arc) (to : ℕ) → LeadsBack from arcs to → h from + sum_by (λ a. h a.tail) arcs ≡ sum_by (λ a. h a.head) arcs + h to
telescope h from [] to leads = let e : h from ≡ h to = ap h leads in omega arith
telescope h from (arc ∷ arcs) to leads =
    let rest = telescope h arc.tail arcs to leads.1 in
    let heads = ap h leads.0 in
    omega (arith, sum_by-cons (λ (a : Arc). h a.tail) arc arcs, sum_by-cons (λ (a : Arc). h a.head) arc arcs, rest, heads)

-- along arcs by which potentials rose more is gained than lost, or each rank is above the one before
gain_or_rank : (most : ℕ) (potentials : List ℕ) (rank : ℕ → ℕ) (arcs : List Arc) → All (λ arc. IsRisenBy most potentials rank arc.head arc) arcs → (sum_by (λ a. get_or potentials a.head 0) arcs + sum_by (λ a. a.down) arcs < sum_by (λ a. get_or potentials a.tail 0) arcs + sum_by (λ a. a.up) arcs) ⊎ ((sum_by (λ a. get_or potentials a.head 0) arcs + sum_by (λ a. a.down) arcs ≤ sum_by (λ a. get_or potentials a.tail 0) arcs + sum_by (λ a. a.up) arcs) × (sum_by (λ a. rank a.tail) arcs + length arcs ≤ sum_by (λ a. rank a.head) arcs))
gain_or_rank most potentials rank [] risen = inr (omega arith, omega arith)
gain_or_rank most potentials rank (arc ∷ arcs) risen =
    let P : Arc → Type 0 = λ a. IsRisenBy most potentials rank a.head a in
    let first : IsRisenBy most potentials rank arc.head arc = All-head P arc arcs risen in
    let rest = gain_or_rank most potentials rank arcs (All-tail P arc arcs risen) in
    let y_heads = sum_by-cons (λ (a : Arc). get_or potentials a.head 0) arc arcs in
    let y_tails = sum_by-cons (λ (a : Arc). get_or potentials a.tail 0) arc arcs in
    let downs = sum_by-cons (λ (a : Arc). a.down) arc arcs in
    let ups = sum_by-cons (λ (a : Arc). a.up) arc arcs in
    let r_heads = sum_by-cons (λ (a : Arc). rank a.head) arc arcs in
    let r_tails = sum_by-cons (λ (a : Arc). rank a.tail) arc arcs in
    elim rest [
      | inl more ↦ inl (omega (arith, first.slack, more, y_heads, y_tails, downs, ups))
      | inr (no_less, ranked) ↦ elim first.later [
        | inl more ↦ inl (omega (arith, more, no_less, y_heads, y_tails, downs, ups))
        | inr lower ↦ inr (omega (arith, first.slack, no_less, y_heads, y_tails, downs, ups), omega (arith, lower, ranked, r_heads, r_tails))
      ]
    ]

-- each arc by which a potential rose, as the forest has it
risen_all : (most : ℕ) (potentials : List ℕ) (preds : List (Option Arc)) (arcs : List Arc) (f : IsForest most potentials preds) → AllCameBy preds arcs → All (λ arc. IsRisenBy most potentials f.rank arc.head arc) arcs
risen_all most potentials preds arcs f came = λ k d h. f.risen (get_or arcs k d).head (get_or arcs k d) (came k d h)

-- a closed walk gains
pub IsGainingCycle-from_loop : (most : ℕ) (potentials : List ℕ) (preds : List (Option Arc)) (arcs : List Arc) → IsForest most potentials preds → IsLoop preds arcs → IsGainingCycle arcs
IsGainingCycle-from_loop most potentials preds arcs f loop = record {
  at = loop.at;
  closed = loop.closed;
  once = loop.once;
  gains =
      let levels = telescope (λ v. get_or potentials v 0) loop.at arcs loop.at loop.closed in
      let ranks = telescope f.rank loop.at arcs loop.at loop.closed in
      elim (gain_or_rank most potentials f.rank arcs (risen_all most potentials preds arcs f loop.came)) [
        | inl more ↦ omega (arith, more, levels)
        | inr (no_less, ranked) ↦ absurd (omega (arith, ranked, ranks, loop.some))
      ];
}

-- each arc of a walk back lowers the potential by no more than it gains
climb : (most : ℕ) (potentials : List ℕ) (rank : ℕ → ℕ) (from : ℕ) (arcs : List Arc) (to : ℕ) → LeadsBack from arcs to → All (λ arc. IsRisenBy most potentials rank arc.head arc) arcs → get_or potentials from 0 ≤ get_or potentials to 0 + most / 4 / length potentials * length arcs
climb most potentials rank from [] to leads risen = let e = ap (λ (v : ℕ). get_or potentials v 0) leads in omega arith
climb most potentials rank from (arc ∷ arcs) to leads risen =
    let P : Arc → Type 0 = λ a. IsRisenBy most potentials rank a.head a in
    let first : IsRisenBy most potentials rank arc.head arc = All-head P arc arcs risen in
    let rest = climb most potentials rank arc.tail arcs to leads.1 (All-tail P arc arcs risen) in
    let e = ap (λ (v : ℕ). get_or potentials v 0) leads.0 in
    let steep = le-div arc.up (most / 4) (length potentials) (omega (arith, first.tails)) first.steep in
    let one : most / 4 / length potentials * suc (length arcs) ≡ most / 4 / length potentials * length arcs + most / 4 / length potentials = mul-suc (most / 4 / length potentials) (length arcs) in
    omega (arith, first.slack, steep, rest, e, one)

-- a walk that ends
pub potential-le-limit : (most : ℕ) (potentials : List ℕ) (preds : List (Option Arc)) (start : ℕ) (arcs : List Arc) → IsForest most potentials preds → EndsAtRoot preds start arcs → get_or potentials start 0 ≤ highest_root most + most / 4
potential-le-limit most potentials preds start arcs f ends =
    let up = climb most potentials f.rank start arcs ends.root ends.leads (risen_all most potentials preds arcs f ends.came) in
    let all : most / 4 / length potentials * length arcs ≤ most / 4 / length potentials * length potentials = mul-le (most / 4 / length potentials) (length arcs) (most / 4 / length potentials) (length potentials) (omega arith) (omega (arith, ends.short, f.lengths)) in
    let whole : most / 4 / length potentials * length potentials ≤ most / 4 = div-mul-le_self (most / 4) (length potentials) in
    omega (arith, up, f.roots ends.root ends.risen, all, whole)

-- the same for what a walk back answers
pub gains-from_found : (most : ℕ) (potentials : List ℕ) (preds : List (Option Arc)) {E : Type 0} (r : Result (Option ℕ) E) (path : List Arc) → IsForest most potentials preds → IfOk r (λ found. IfSome found (λ k. IsLoop preds (drop k path))) → IfOk r (λ found. IfSome found (λ k. IsGainingCycle (drop k path)))
gains-from_found most potentials preds (Ok (Some k)) path f found = IsGainingCycle-from_loop most potentials preds (drop k path) f found
gains-from_found most potentials preds _ path f found = found

pub ends-from_found : (most : ℕ) (potentials : List ℕ) (preds : List (Option Arc)) (start : ℕ) {E : Type 0} (r : Result (Option ℕ) E) (path : List Arc) → IsForest most potentials preds → IfOk r (λ found. IfNone found (EndsAtRoot preds start path)) → IfOk r (λ found. IfNone found (get_or potentials start 0 ≤ highest_root most + most / 4))
ends-from_found most potentials preds start (Ok None) path f found = potential-le-limit most potentials preds start path f found
ends-from_found most potentials preds start _ path f found = found
