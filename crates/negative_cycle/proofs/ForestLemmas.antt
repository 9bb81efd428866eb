-- How potentials that rise by arcs lie.
use Rattle.negative_cycle.specs.PotentialTable.{IsRisenBy, IsForest, begun, highest_root, MAX_POTENTIAL}
use Rattle.std.proofs.Common.{◌≡◌, ◌≢◌, ℕ, zero, suc, ◌+◌, ◌*◌, ◌/◌, ◌<◌, ◌≤◌, ◌==◌, false, cond, ltb, leb, List, [], ◌∷◌, length, get_or, set, map, replicate, Option, Some, None, refl, sym, ap, ◌∙◌, subst, inl, inr, arith}
use Rattle.std.proofs.lemmas.Bool.{cases_eq, cases_lt, eq-eqb, ne_eqb, cond-true, cond-false, le-leb, lt-leb, ltb-false, or_parts}
use Rattle.std.specs.List.{list_any}
use Rattle.std.proofs.lemmas.List.{length-map, length-set, length-replicate, get_or-set_same, get_or-set_other, get_or-replicate, get_or_past}
use Rattle.negative_cycle.specs.Walks.{came_by, Arc}

-- no potential has risen
pub came_by-none : (n node : ℕ) → came_by (replicate n None) node ≡ None
came_by-none n node = elim (cases_lt node n) [
  | inl inside ↦ get_or-replicate n node None None inside
  | inr past ↦ get_or_past (replicate n None) node None (omega (arith, length-replicate n (let o : Option Arc = None in o)))
]

pub IsForest-unrisen : (most : ℕ) (potentials : List ℕ) (n : ℕ) → n ≡ length potentials → most ≤ MAX_POTENTIAL → ((node : ℕ) → get_or potentials node 0 ≤ highest_root most) → IsForest most potentials (replicate n None)
IsForest-unrisen most potentials n same few low = record {
  rank = λ node. 0;
  lengths = length-replicate n None ∙ same;
  fits = few;
  risen = λ node arc by. let e = came_by-none n node in cc;
  roots = λ node none. low node;
  below = λ node. let l = low node in omega arith;
}

-- the rank of a node once an arc has raised its head
abbrev rank_after : (ℕ → ℕ) → Arc → ℕ → ℕ
rank_after rank arc node = cond (node == arc.head) (rank arc.tail + 1) (rank node)

-- the head has risen by the arc
head_risen : (most : ℕ) (potentials : List ℕ) (rank : ℕ → ℕ) (arc : Arc) (potential : ℕ) → arc.tail < length potentials → arc.head < length potentials → arc.up * length potentials ≤ most / 4 → get_or potentials arc.head 0 + arc.down < get_or potentials arc.tail 0 + arc.up → potential + arc.down ≡ get_or potentials arc.tail 0 + arc.up → IsRisenBy most (set potentials arc.head potential) (rank_after rank arc) arc.head arc
head_risen most potentials rank arc potential tails heads steep unsettled rises =
    let longer = length-set potentials arc.head potential in
    let here : get_or (set potentials arc.head potential) arc.head 0 ≡ potential = get_or-set_same potentials arc.head potential 0 heads in
    let ranked : rank_after rank arc arc.head ≡ rank arc.tail + 1 = cond-true _ _ _ (eq-eqb arc.head arc.head refl) in
    elim (cases_eq arc.tail arc.head) [
      | inl same ↦
          let there : get_or (set potentials arc.head potential) arc.tail 0 ≡ potential = ap (λ (v : ℕ). get_or (set potentials arc.head potential) v 0) same ∙ here in
          let was : get_or potentials arc.tail 0 ≡ get_or potentials arc.head 0 = ap (λ (v : ℕ). get_or potentials v 0) same in
          record {
            heads = refl;
            tails = omega (arith, longer);
            steep = subst (λ (n : ℕ). arc.up * n ≤ most / 4) (sym longer) steep;
            slack = omega (arith, here, there, was);
            later = inl (omega (arith, here, there, was));
          }
      | inr other ↦
          let there : get_or (set potentials arc.head potential) arc.tail 0 ≡ get_or potentials arc.tail 0 = get_or-set_other potentials arc.head arc.tail potential 0 other in
          let tail_ranked : rank_after rank arc arc.tail ≡ rank arc.tail = cond-false _ _ _ (ne_eqb arc.tail arc.head other) in
          record {
            heads = refl;
            tails = omega (arith, longer);
            steep = subst (λ (n : ℕ). arc.up * n ≤ most / 4) (sym longer) steep;
            slack = omega (arith, here, there);
            later = inr (omega (arith, ranked, tail_ranked));
          }
    ]

-- each other node has risen by its arc as before
other_risen : (most : ℕ) (potentials : List ℕ) (rank : ℕ → ℕ) (arc : Arc) (potential node : ℕ) (by : Arc) → arc.head < length potentials → node ≢ arc.head → get_or potentials arc.head 0 < potential → IsRisenBy most potentials rank node by → IsRisenBy most (set potentials arc.head potential) (rank_after rank arc) node by
other_risen most potentials rank arc potential node by heads apart rises r =
    let longer = length-set potentials arc.head potential in
    let here : get_or (set potentials arc.head potential) node 0 ≡ get_or potentials node 0 = get_or-set_other potentials arc.head node potential 0 apart in
    let ranked : rank_after rank arc node ≡ rank node = cond-false _ _ _ (ne_eqb node arc.head apart) in
    elim (cases_eq by.tail arc.head) [
      | inl same ↦
          let there : get_or (set potentials arc.head potential) by.tail 0 ≡ potential = ap (λ (v : ℕ). get_or (set potentials arc.head potential) v 0) same ∙ get_or-set_same potentials arc.head potential 0 heads in
          let was : get_or potentials by.tail 0 ≡ get_or potentials arc.head 0 = ap (λ (v : ℕ). get_or potentials v 0) same in
          record {
            heads = r.heads;
            tails = omega (arith, longer, r.tails);
            steep = subst (λ (n : ℕ). by.up * n ≤ most / 4) (sym longer) r.steep;
            slack = omega (arith, here, there, was, r.slack);
            later = inl (omega (arith, here, there, was, r.slack));
          }
      | inr other ↦
          let there : get_or (set potentials arc.head potential) by.tail 0 ≡ get_or potentials by.tail 0 = get_or-set_other potentials arc.head by.tail potential 0 other in
          let tail_ranked : rank_after rank arc by.tail ≡ rank by.tail = cond-false _ _ _ (ne_eqb by.tail arc.head other) in
          record {
            heads = r.heads;
            tails = omega (arith, longer, r.tails);
            steep = subst (λ (n : ℕ). by.up * n ≤ most / 4) (sym longer) r.steep;
            slack = omega (arith, here, there, r.slack);
            later = elim r.later [ inl more ↦ inl (omega (arith, here, there)) | inr lower ↦ inr (omega (arith, ranked, tail_ranked)) ];
          }
    ]

-- an arc raises its head
pub IsForest-raised : (most : ℕ) (potentials : List ℕ) (preds : List (Option Arc)) (arc : Arc) (potential : ℕ) → arc.tail < length potentials → arc.head < length potentials → arc.up * length potentials ≤ most / 4 → get_or potentials arc.head 0 + arc.down < get_or potentials arc.tail 0 + arc.up → potential + arc.down ≡ get_or potentials arc.tail 0 + arc.up → potential ≤ most → IsForest most potentials preds → IsForest most (set potentials arc.head potential) (set preds arc.head (Some arc))
IsForest-raised most potentials preds arc potential tails heads steep unsettled rises le f =
    let longer = length-set potentials arc.head potential in
    let preds_inside : arc.head < length preds = omega (arith, f.lengths) in
    let came_same : came_by (set preds arc.head (Some arc)) arc.head ≡ Some arc = get_or-set_same preds arc.head (Some arc) None preds_inside in
    record {
      rank = rank_after f.rank arc;
      lengths = length-set preds arc.head (Some arc) ∙ f.lengths ∙ sym longer;
      fits = f.fits;
      risen = λ node by came. elim (cases_eq node arc.head) [
        | inl same ↦
            let is_arc : Some arc ≡ Some by = sym came_same ∙ ap (came_by (set preds arc.head (Some arc))) (sym same) ∙ came in
            let which : arc ≡ by = cc in
            subst (λ (v : ℕ). IsRisenBy most (set potentials arc.head potential) (rank_after f.rank arc) v by) (sym same)
            (subst (λ (a : Arc). IsRisenBy most (set potentials arc.head potential) (rank_after f.rank arc) arc.head a) which
            (head_risen most potentials f.rank arc potential tails heads steep unsettled rises))
        | inr apart ↦
            other_risen most potentials f.rank arc potential node by heads apart (omega arith)
            (f.risen node by (sym (get_or-set_other preds arc.head node (Some arc) None apart) ∙ came))
      ];
      roots = λ node none. elim (cases_eq node arc.head) [
        | inl same ↦
            let never : Some arc ≡ None = sym came_same ∙ ap (came_by (set preds arc.head (Some arc))) (sym same) ∙ none in
            cc
        | inr apart ↦
            let root = f.roots node (sym (get_or-set_other preds arc.head node (Some arc) None apart) ∙ none) in
            omega (arith, get_or-set_other potentials arc.head node potential 0 apart)
      ];
      below = λ node. elim (cases_eq node arc.head) [
        | inl same ↦ omega (arith, ap (λ (v : ℕ). get_or (set potentials arc.head potential) v 0) same, get_or-set_same potentials arc.head potential 0 heads)
        | inr apart ↦ omega (arith, f.below node, get_or-set_other potentials arc.head node potential 0 apart)
      ];
    }

-- potentials 0
zero-low : (most n node : ℕ) → get_or (replicate n 0) node 0 ≤ highest_root most
zero-low most n node = elim (cases_lt node n) [
  | inl inside ↦ omega (arith, get_or-replicate {A = ℕ} n node 0 0 inside)
  | inr past ↦ omega (arith, get_or_past {X = ℕ} (replicate n 0) node 0 (omega (arith, length-replicate {A = ℕ} n 0)))
]

pub IsForest-begun : (most : ℕ) (potentials : List ℕ) (preds : List (Option Arc)) (n : ℕ) → most ≤ MAX_POTENTIAL → potentials ≡ replicate n 0 → preds ≡ replicate n None → IsForest most potentials preds
IsForest-begun most potentials preds n few zeros nones =
    subst (λ (ps : List (Option Arc)). IsForest most potentials ps) (sym nones)
    (subst (λ (ls : List ℕ). IsForest most ls (replicate n None)) (sym zeros)
    (IsForest-unrisen most (replicate n 0) n (sym (length-replicate {A = ℕ} n 0)) few (zero-low most n)))

-- potentials of which none is high
pub low-from_list_any : (most : ℕ) (potentials : List ℕ) (node : ℕ) → list_any (λ y. ltb (highest_root most) y) potentials ≡ false → get_or potentials node 0 ≤ highest_root most
low-from_list_any most [] node none = omega arith
low-from_list_any most (y ∷ potentials) zero none = ltb-false (highest_root most) y (or_parts (ltb (highest_root most) y) (list_any (λ y. ltb (highest_root most) y) potentials) none).0
low-from_list_any most (y ∷ potentials) (suc node) none = low-from_list_any most potentials node (or_parts (ltb (highest_root most) y) (list_any (λ y. ltb (highest_root most) y) potentials) none).1

pub IsForest-low : (most : ℕ) (potentials : List ℕ) (preds : List (Option Arc)) (n : ℕ) → n ≡ length potentials → most ≤ MAX_POTENTIAL → list_any (λ y. ltb (highest_root most) y) potentials ≡ false → preds ≡ replicate n None → IsForest most potentials preds
IsForest-low most potentials preds n same few none nones =
    subst (λ (ps : List (Option Arc)). IsForest most potentials ps) (sym nones)
    (IsForest-unrisen most potentials n same few (λ node. low-from_list_any most potentials node none))

-- potentials as they begin to rise
begun-le : (most potential : ℕ) → begun most potential ≤ highest_root most
begun-le most potential = elim (cases_lt (highest_root most) potential) [
  | inl high ↦ omega (arith, cond-false (leb potential (highest_root most)) potential (highest_root most) (lt-leb potential (highest_root most) high))
  | inr low ↦ omega (arith, cond-true (leb potential (highest_root most)) potential (highest_root most) (le-leb potential (highest_root most) low))
]

begun-low : (most : ℕ) (potentials : List ℕ) (node : ℕ) → get_or (map (begun most) potentials) node 0 ≤ highest_root most
begun-low most [] node = omega arith
begun-low most (y ∷ potentials) zero = begun-le most y
begun-low most (y ∷ potentials) (suc node) = begun-low most potentials node

pub IsForest-given : (most : ℕ) (given potentials : List ℕ) (preds : List (Option Arc)) → most ≤ MAX_POTENTIAL → potentials ≡ map (begun most) given → preds ≡ replicate (length given) None → IsForest most potentials preds
IsForest-given most given potentials preds few begins nones =
    subst (λ (ps : List (Option Arc)). IsForest most potentials ps) (sym nones)
    (subst (λ (ls : List ℕ). IsForest most ls (replicate (length given) None)) (sym begins)
    (IsForest-unrisen most (map (begun most) given) (length given) (sym (length-map given (begun most))) few (begun-low most given)))
