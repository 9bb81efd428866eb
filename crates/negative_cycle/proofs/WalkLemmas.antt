-- The walk back along the arcs by which potentials rose.
use Rattle.std.proofs.Common.{◌≡◌, ◌≢◌, ℕ, zero, suc, ◌+◌, ◌-◌, ◌<◌, ◌≤◌, ◌==◌, cond, List, [], ◌∷◌, ◌++◌, length, get_or, set, drop, Option, Some, None, refl, sym, ap, ◌∙◌, subst, inl, inr, arith, count_by}
use Rattle.std.proofs.lemmas.Bool.{cases_eq}
use Rattle.std.proofs.lemmas.Bool.Decides.{nat_tests}
use Rattle.std.proofs.lemmas.List.{length-set, length_push, get_or-set_same, get_or-set_other, get_or_append_left, get_or_push, length-drop}
use Rattle.std.proofs.lemmas.List.Sums.{sum_by_push, sum_by-set, sum_by-take-drop}
use Rattle.std.proofs.lemmas.List.Elements.{All-push, All-drop}
use Rattle.negative_cycle.specs.Walks.{LeadsBack, came_by, AllCameBy, IsLoop, EndsAtRoot, Arc}

-- one arc more at the end of a walk
pub LeadsBack-push : (from : ℕ) (arcs : List Arc) (arc : Arc) → LeadsBack from arcs arc.head → LeadsBack from (arcs ++ arc ∷ []) arc.tail
LeadsBack-push from [] arc leads = (sym leads, refl)
LeadsBack-push from (a ∷ arcs) arc leads = (leads.0, LeadsBack-push a.tail arcs arc leads.1)

-- a walk from one of its nodes on
pub LeadsBack-drop : (from : ℕ) (arcs : List Arc) (k to : ℕ) (d : Arc) → k < length arcs → LeadsBack from arcs to → LeadsBack (get_or arcs k d).head (drop k arcs) to
LeadsBack-drop from [] k to d h leads = absurd (omega arith)
LeadsBack-drop from (a ∷ arcs) zero to d h leads = (refl, leads.1)
LeadsBack-drop from (a ∷ arcs) (suc k) to d h leads = LeadsBack-drop a.tail arcs k to d (omega arith) leads.1

-- how far the walk has come: `places` has for each node the count of arcs up to the one with that head, or 0
pub record IsWalked (preds : List (Option Arc)) (places : List ℕ) (start : ℕ) (path : List Arc) (node : ℕ) : Type 0 where
  pub within : node < length preds
  pub lengths : length places ≡ length preds
  pub leads : LeadsBack start path node
  pub came : AllCameBy preds path
  pub left : count_by (λ p. p == 0) places + length path ≡ length preds
  pub met : (v : ℕ) → count_by (λ arc. arc.head == v) path ≡ cond (get_or places v 0 == 0) 0 1
  pub placed : (v : ℕ) → get_or places v 0 ≢ 0 → (get_or places v 0 ≤ length path) × ((d : Arc) → (get_or path (get_or places v 0 - 1) d).head ≡ v)

-- the count of arcs with a head, after one arc more
met-step : (places : List ℕ) (path : List Arc) (node : ℕ) (arc : Arc) → get_or places node 0 ≡ 0 → arc.head ≡ node → node < length places → (v : ℕ) → count_by (λ a. a.head == v) path ≡ cond (get_or places v 0 == 0) 0 1 → count_by (λ a. a.head == v) (path ++ arc ∷ []) ≡ cond (get_or (set places node (length path + 1)) v 0 == 0) 0 1
met-step places path node arc new heads within v met =
    let F : Arc → ℕ = λ a. cond (a.head == v) 1 0 in
    let pushed = sum_by_push F path arc in
    elim (cases_eq v node) [
      | inl same ↦
          let here : get_or (set places node (length path + 1)) v 0 ≡ length path + 1 = ap (λ (i : ℕ). get_or (set places node (length path + 1)) i 0) same ∙ get_or-set_same places node (length path + 1) 0 within in
          let before : get_or places v 0 ≡ 0 = ap (λ (i : ℕ). get_or places i 0) same ∙ new in
          let one : F arc ≡ 1 = grind (arith, nat_tests) in
          grind (arith, nat_tests)
      | inr other ↦
          let there : get_or (set places node (length path + 1)) v 0 ≡ get_or places v 0 = get_or-set_other places node v (length path + 1) 0 other in
          let none : F arc ≡ 0 = grind (arith, nat_tests) in
          grind (arith, nat_tests)
    ]

-- the place of a node in the walk, after one arc more
placed-step : (places : List ℕ) (path : List Arc) (node : ℕ) (arc : Arc) → arc.head ≡ node → node < length places → (v : ℕ) → (get_or places v 0 ≢ 0 → (get_or places v 0 ≤ length path) × ((d : Arc) → (get_or path (get_or places v 0 - 1) d).head ≡ v)) → get_or (set places node (length path + 1)) v 0 ≢ 0 → (get_or (set places node (length path + 1)) v 0 ≤ length (path ++ arc ∷ [])) × ((d : Arc) → (get_or (path ++ arc ∷ []) (get_or (set places node (length path + 1)) v 0 - 1) d).head ≡ v)
placed-step places path node arc heads within v placed known =
    let longer = length_push path arc in
    elim (cases_eq v node) [
      | inl same ↦
          let here : get_or (set places node (length path + 1)) v 0 ≡ length path + 1 = ap (λ (i : ℕ). get_or (set places node (length path + 1)) i 0) same ∙ get_or-set_same places node (length path + 1) 0 within in
          (omega arith, λ d. ap (λ (a : Arc). a.head) (get_or_push path arc d _ (omega arith)) ∙ heads ∙ sym same)
      | inr other ↦
          let there : get_or (set places node (length path + 1)) v 0 ≡ get_or places v 0 = get_or-set_other places node v (length path + 1) 0 other in
          let known_place : get_or places v 0 ≢ 0 = λ e. known (there ∙ e) in
          let was = placed known_place in
          let inside : get_or places v 0 - 1 < length path = omega (arith, was.0) in
          (omega (arith, was.0), λ d. ap (λ (i : ℕ). (get_or (path ++ arc ∷ []) (i - 1) d).head) there ∙ ap (λ (a : Arc). a.head) (get_or_append_left path (arc ∷ []) d _ inside) ∙ was.1 d)
    ]

-- a step back to a node that was not met
pub IsWalked-step : (preds : List (Option Arc)) (places : List ℕ) (start : ℕ) (path : List Arc) (node : ℕ) (arc : Arc) → get_or places node 0 ≡ 0 → came_by preds node ≡ Some arc → (arc.head ≡ node) → (arc.tail < length preds) → IsWalked preds places start path node → IsWalked preds (set places node (length path + 1)) start (path ++ arc ∷ []) arc.tail
IsWalked-step preds places start path node arc new by heads tail w = record {
  within = tail;
  lengths = length-set places node (length path + 1) ∙ w.lengths;
  leads = LeadsBack-push start path arc (subst (LeadsBack start path) (sym heads) w.leads);
  came = All-push (λ a. came_by preds a.head ≡ Some a) path arc w.came (ap (came_by preds) heads ∙ by);
  left =
      let F : ℕ → ℕ = λ p. cond (p == 0) 1 0 in
      let h : node < length places = omega (arith, w.lengths, w.within) in
      let old : F (get_or places node 0) ≡ 1 = ap F new in
      let now : F (length path + 1) ≡ 0 = grind (arith, nat_tests) in
      omega (arith, sum_by-set F places node (length path + 1) 0 h, length_push path arc, w.left);
  met = λ v. met-step places path node arc new heads (omega (arith, w.lengths, w.within)) v (w.met v);
  placed = λ v. placed-step places path node arc heads (omega (arith, w.lengths, w.within)) v (w.placed v);
}

-- a node that was met closes the walk
pub IsLoop-from_walk : (preds : List (Option Arc)) (places : List ℕ) (start : ℕ) (path : List Arc) (node : ℕ) → get_or places node 0 ≢ 0 → IsWalked preds places start path node → IsLoop preds (drop (get_or places node 0 - 1) path)
IsLoop-from_walk preds places start path node known w =
    let k : ℕ = get_or places node 0 - 1 in
    let d : Arc = record { tail = 0; head = 0; up = 0; down = 0; mark = None } in
    let at = w.placed node known in
    let inside : k < length path = omega (arith, at.0) in
    record {
      at = node;
      some = omega (arith, length-drop k path);
      closed = subst (λ (v : ℕ). LeadsBack v (drop k path) node) (at.1 d) (LeadsBack-drop start path k node d inside w.leads);
      once = λ v.
          let F : Arc → ℕ = λ arc. cond (arc.head == v) 1 0 in
          let most : cond (get_or places v 0 == 0) 0 1 ≤ 1 = grind (arith, nat_tests) in
          omega (arith, sum_by-take-drop F path k, w.met v);
      came = All-drop (λ a. came_by preds a.head ≡ Some a) k path w.came;
    }

-- the same, where the walk and its count were pushed and read
pub IsWalked-pushed : (preds : List (Option Arc)) (places : List ℕ) (start : ℕ) (path after : List Arc) (node count : ℕ) (arc : Arc) → get_or places node 0 ≡ 0 → came_by preds node ≡ Some arc → (arc.head ≡ node) × (arc.tail < length preds) → after ≡ path ++ arc ∷ [] → count ≡ length path + 1 → IsWalked preds places start path node → IsWalked preds (set places node count) start after arc.tail
IsWalked-pushed preds places start path after node count arc new by leads pushed counted w =
    subst (λ (n : ℕ). IsWalked preds (set places node n) start after arc.tail) (sym counted)
    (subst (λ (p : List Arc). IsWalked preds (set places node (length path + 1)) start p arc.tail) (sym pushed)
    (IsWalked-step preds places start path node arc new by leads.0 leads.1 w))
