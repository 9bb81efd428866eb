-- the lines of a claim's report by its numbers
use Rattle.std.proofs.Common.{◌≡◌, ◌<◌, ◌+◌, ◌-◌, ◌*◌, ◌/◌, ◌%◌, ℕ, zero, suc, List, [], ◌∷◌, ◌++◌, length, get_or, Bool, true, false, cond, refl, sym, ap, ◌∙◌, subst, arith, append_assoc, append-nil, inl, inr}
use Rattle.std.specs.Prelude.{◌==◌, ◌⊎◌, decimal, codes, slice_index}
use Rattle.std.proofs.lemmas.Bool.{lt-ltb, le-ltb}
use Rattle.std.proofs.lemmas.List.{append_cancel_right}
use Rattle.std.proofs.lemmas.Nat.{div-mul-add, mod-mul-add}
use Rattle.std.proofs.Math.Nat.{div-add-mod}
use Rattle.report_text.specs.Words.{PriceRows, IsPricingFor, pricing_of_rows, cell, rows, NetRows, instance_of_rows}
use Rattle.report_text.specs.Lines.{line}
use Rattle.report_text.specs.Report.{live_cost_of, number_text, texts_below, stay_start, stay_line, price_line, row_text, row_line, price_lines, summary_text, plan_text}
use Rattle.report_text.specs.TextLines.{lines}
use Rattle.report_text.specs.Claims.{Claim, IsClaim, report_text}
use Rattle.report_text.specs.Reading.{top_text, stay_text, cell_front, cells, form, lines_of, top_of, values_of}
use Rattle.report_text.proofs.TextLemmas.{unlines, unlines-append, unlines-lines, lines-unlines, lines-last, plain_of}
use Rattle.report_text.proofs.PlainLemmas.{plain_lines}

-- ---- the line of each number

pub form_stay : (net : NetRows) (s v : ℕ) → s < (instance_of_rows net).stays → form net (7 + s) v ≡ stay_text net s v ∷ []
unfolding form
form_stay net s v lt =
    let place : 7 + s - 7 ≡ s = omega arith in
    rw (le-ltb (7 + s) 7 (omega arith), lt-ltb (7 + s) (7 + (instance_of_rows net).stays) (omega arith), place) refl

pub form_cell : (net : NetRows) (c v : ℕ) → c < cells net → form net (7 + (instance_of_rows net).stays + c) v ≡ cond (v == 0) [] ((cell_front net c ++ decimal v) ∷ [])
unfolding form
form_cell net c v lt =
    let s = (instance_of_rows net).stays in
    let place : 7 + s + c - (7 + s) ≡ c = omega arith in
    rw (le-ltb (7 + s + c) 7 (omega arith), le-ltb (7 + s + c) (7 + s) (omega arith), lt-ltb (7 + s + c) (7 + s + cells net) (omega arith), place) refl

pub form_last : (net : NetRows) (v : ℕ) → form net (7 + (instance_of_rows net).stays + cells net) v ≡ codes "end" ∷ []
unfolding form
form_last net v =
    let s = (instance_of_rows net).stays in
    let n = cells net in
    rw (le-ltb (7 + s + n) 7 (omega arith), le-ltb (7 + s + n) (7 + s) (omega arith), le-ltb (7 + s + n) (7 + s + n) (omega arith)) refl

pub lines_of-append : (net : NetRows) (k : ℕ) (us vs : List ℕ) → lines_of net k (us ++ vs) ≡ lines_of net k us ++ lines_of net (k + length us) vs
unfolding lines_of
lines_of-append net k [] vs = let same : k + 0 ≡ k = omega arith in rw same refl
lines_of-append net k (u ∷ us) vs =
    let same : k + suc (length us) ≡ suc k + length us = omega arith in
    rw same (ap (λ (ls : List (List ℕ)). form net k u ++ ls) (lines_of-append net (suc k) us vs) ∙ sym (append_assoc (form net k u) (lines_of net (suc k) us) (lines_of net (suc k + length us) vs)))

pub lines_of-one : (net : NetRows) (k v : ℕ) → lines_of net k (v ∷ []) ≡ form net k v
unfolding lines_of
lines_of-one net k v = append-nil (form net k v)

-- ---- texts of places one after another

texts_below-same : (n : ℕ) (f g : ℕ → List ℕ) → ((i : ℕ) → i < n → f i ≡ g i) → texts_below n f ≡ texts_below n g
texts_below-same zero f g h = refl
texts_below-same (suc n) f g h =
    let rest : texts_below n f ≡ texts_below n g = texts_below-same n f g (λ i lt. h i (omega arith)) in
    rw (rest, h n (omega arith)) refl

texts_below-first : (n : ℕ) (f : ℕ → List ℕ) → texts_below (suc n) f ≡ f 0 ++ texts_below n (λ i. f (suc i))
texts_below-first zero f = sym (append-nil (f 0))
texts_below-first (suc n) f = ap (λ (l : List ℕ). l ++ f (suc n)) (texts_below-first n f) ∙ append_assoc (f 0) (texts_below n (λ i. f (suc i))) (f (suc n))

texts_below-add : (a b : ℕ) (f : ℕ → List ℕ) → texts_below (a + b) f ≡ texts_below a f ++ texts_below b (λ i. f (a + i))
texts_below-add a zero f = let same : a + 0 ≡ a = omega arith in rw same (sym (append-nil (texts_below a f)))
texts_below-add a (suc b) f =
    let step : a + suc b ≡ suc (a + b) = omega arith in
    let rest : texts_below (a + b) f ≡ texts_below a f ++ texts_below b (λ i. f (a + i)) = texts_below-add a b f in
    rw step (rw rest (append_assoc (texts_below a f) (texts_below b (λ i. f (a + i))) (f (a + b))))

-- the texts of all places, row by row, are those of the rows
texts_by_row : (rows width : ℕ) (f : ℕ → ℕ → List ℕ) → texts_below (rows * width) (λ k. f (k / width) (k % width)) ≡ texts_below rows (λ d. texts_below width (λ r. f d r))
texts_by_row zero width f = let none : 0 * width ≡ 0 = omega arith in rw none refl
texts_by_row (suc rows) width f =
    let step : suc rows * width ≡ rows * width + width = omega arith in
    let rest : texts_below (rows * width) (λ k. f (k / width) (k % width)) ≡ texts_below rows (λ d. texts_below width (λ r. f d r)) = texts_by_row rows width f in
    let row : texts_below width (λ i. f ((rows * width + i) / width) ((rows * width + i) % width)) ≡ texts_below width (λ r. f rows r) =
    texts_below-same width _ _ (λ i lt. rw (div-mul-add rows width i lt, mod-mul-add rows width i lt) refl) in
    rw step (texts_below-add (rows * width) width (λ k. f (k / width) (k % width)) ∙ rw (rest, row) refl)

-- the lines of numbers from one place on, with their feeds, are these texts, if each is
section : (net : NetRows) (k : ℕ) (vs : List ℕ) (f : ℕ → List ℕ) → ((i : ℕ) → i < length vs → unlines (form net (k + i) (get_or vs i 0)) ≡ f i) → unlines (lines_of net k vs) ≡ texts_below (length vs) f
unfolding lines_of
section net k [] f h = refl
section net k (v ∷ vs) f h =
    let first : unlines (form net k v) ≡ f 0 = subst (λ (i : ℕ). unlines (form net i v) ≡ f 0) (let same : k + 0 ≡ k = omega arith in same) (h 0 (omega arith)) in
    let rest = section net (suc k) vs (λ i. f (suc i)) (λ i lt. subst (λ (j : ℕ). unlines (form net j (get_or vs i 0)) ≡ f (suc i)) (let same : k + suc i ≡ suc k + i = omega arith in same) (h (suc i) (omega arith))) in
    unlines-append (form net k v) (lines_of net (suc k) vs) ∙ ap (λ (l : List ℕ). l ++ unlines (lines_of net (suc k) vs)) first ∙ ap (λ (l : List ℕ). f 0 ++ l) rest ∙ sym (texts_below-first (length vs) f)

-- ---- a report is the lines of its claim's numbers

stay_fed : (a d w f : List ℕ) → (a ++ codes " ") ++ (d ++ w) ++ f ≡ a ++ ((codes " " ++ d) ++ (w ++ f))
stay_fed a d w f = simp append_assoc

stay_section : (net : NetRows) (vs : List ℕ) → length vs ≡ (instance_of_rows net).stays → unlines (lines_of net 7 vs) ≡ texts_below (instance_of_rows net).stays (stay_line net (slice_index vs))
unfolding stay_line stay_text
stay_section net vs size =
    rw (← size) (section net 7 vs (stay_line net (slice_index vs)) (λ i lt.
    let v = get_or vs i 0 in
    ap unlines (form_stay net i v (omega (arith, size))) ∙ stay_fed (stay_start net i) (decimal v) (number_text ((instance_of_rows net).weight i)) (10 ∷ [])))

price_fed : (w r d f : List ℕ) → (w ++ (r ++ codes " ")) ++ d ++ f ≡ w ++ (r ++ ((codes " " ++ d) ++ f))
price_fed w r d f = simp append_assoc

at_place : (rounds k : ℕ) (vs : List ℕ) → get_or vs k 0 ≡ slice_index vs (cell rounds (k / rounds) (k % rounds + 1))
at_place rounds k vs =
    let h = div-add-mod k rounds in
    let place : k ≡ cell rounds (k / rounds) (k % rounds + 1) = omega arith in
    ap (slice_index vs) place

cell_fed : (net : NetRows) (c v : ℕ) → unlines (cond (v == 0) [] ((cell_front net c ++ decimal v) ∷ []))
    ≡ price_line (row_text net.config.devices (instance_of_rows net).adapters (c / (instance_of_rows net).rounds)) (c % (instance_of_rows net).rounds + 1) v
unfolding cell_front
cell_fed net c v = by (v == 0)
  where
    whose : List ℕ
    whose = row_text net.config.devices (instance_of_rows net).adapters (c / (instance_of_rows net).rounds)

    r : List ℕ
    r = number_text (c % (instance_of_rows net).rounds + 1)

    by : (b : Bool) → unlines (cond b [] (((whose ++ (r ++ codes " ")) ++ decimal v) ∷ [])) ≡ cond b [] (whose ++ (r ++ (number_text v ++ codes "\n")))
    by true = refl
    by false = price_fed whose r (decimal v) (10 ∷ [])

cell_section : (net : NetRows) (p : PriceRows) → IsPricingFor (instance_of_rows net) p → length p.prices ≡ cells net
    → unlines (lines_of net (7 + (instance_of_rows net).stays) p.prices) ≡ price_lines net (pricing_of_rows p)
unfolding price_lines row_line pricing_of_rows
cell_section net p h size =
    let n = instance_of_rows net in
    let rounds = n.rounds in
    let line_at : ℕ → ℕ → List ℕ = λ row r. price_line (row_text net.config.devices n.adapters row) (r + 1) (slice_index p.prices (cell rounds row (r + 1))) in
    section net (7 + n.stays) p.prices (λ c. line_at (c / rounds) (c % rounds)) (λ i lt.
    ap unlines (form_cell net i (get_or p.prices i 0) (omega (arith, size))) ∙ cell_fed net i (get_or p.prices i 0)
    ∙ ap (price_line (row_text net.config.devices n.adapters (i / rounds)) (i % rounds + 1)) (at_place rounds i p.prices))
    ∙ ap (λ (k : ℕ). texts_below k (λ c. line_at (c / rounds) (c % rounds))) size ∙ texts_by_row (rows n) rounds line_at
    ∙ rw h.rounds refl

seven_fed : (a b c d e f g : List ℕ) → a ++ (10 ∷ (b ++ (10 ∷ (c ++ (10 ∷ (d ++ (10 ∷ (e ++ (10 ∷ (f ++ (10 ∷ (g ++ (10 ∷ [])))))))))))))
    ≡ (a ++ (10 ∷ [])) ++ (b ++ (10 ∷ [])) ++ (c ++ (10 ∷ [])) ++ (d ++ (10 ∷ [])) ++ (e ++ (10 ∷ [])) ++ (f ++ (10 ∷ [])) ++ (g ++ (10 ∷ []))
seven_fed a b c d e f g = simp append_assoc

top_section : (net : NetRows) (best excess : ℕ) → unlines (lines_of net 0 (top_of best excess)) ≡ summary_text net (live_cost_of net) best excess
unfolding lines_of form top_text summary_text line
top_section net best excess =
    seven_fed (codes "camaudit " ++ decimal 1) (codes "commands " ++ decimal net.commands) (codes "stays " ++ decimal (instance_of_rows net).stays) (codes "rounds " ++ decimal (instance_of_rows net).rounds)
    (codes "live " ++ decimal (live_cost_of net)) (codes "best " ++ decimal best) (codes "excess " ++ decimal excess)

sections : (net : NetRows) (best excess : ℕ) (ss ps : List ℕ) → length ss ≡ (instance_of_rows net).stays → length ps ≡ cells net
    → lines_of net 0 (top_of best excess ++ (ss ++ (ps ++ 0 ∷ []))) ≡ lines_of net 0 (top_of best excess) ++ (lines_of net 7 ss ++ (lines_of net (7 + (instance_of_rows net).stays) ps ++ codes "end" ∷ []))
sections net best excess ss ps few many =
    let last : lines_of net (7 + (instance_of_rows net).stays + length ps) (0 ∷ []) ≡ codes "end" ∷ [] = rw many (lines_of-one net _ 0 ∙ form_last net 0) in
    let prices = lines_of-append net (7 + (instance_of_rows net).stays) ps (0 ∷ []) ∙ ap (λ (ls : List (List ℕ)). lines_of net (7 + (instance_of_rows net).stays) ps ++ ls) last in
    let stays = lines_of-append net 7 ss (ps ++ 0 ∷ []) in
    lines_of-append net 0 (top_of best excess) (ss ++ (ps ++ 0 ∷ []))
    ∙ ap (λ (ls : List (List ℕ)). lines_of net 0 (top_of best excess) ++ ls) (stays ∙ rw few (ap (λ (ls : List (List ℕ)). lines_of net 7 ss ++ ls) prices))

pub price_count : (net : NetRows) (claim : Claim) → IsClaim (instance_of_rows net) claim → length claim.prices.prices ≡ cells net
price_count net claim h = h.priced.cells ∙ rw (h.pricing.rounds, h.pricing.devices, h.pricing.adapters, h.pricing.links) refl

report_unlines : (net : NetRows) (claim : Claim) → IsClaim (instance_of_rows net) claim → unlines (lines_of net 0 (values_of claim)) ≡ report_text net claim
unfolding report_text plan_text
report_unlines net claim h =
    let top = lines_of net 0 (top_of claim.best claim.excess) in
    let stays = lines_of net 7 claim.schedule in
    let prices = lines_of net (7 + (instance_of_rows net).stays) claim.prices.prices in
    let size = price_count net claim h in
    ap unlines (sections net claim.best claim.excess claim.schedule claim.prices.prices h.stays size)
    ∙ unlines-append top (stays ++ (prices ++ codes "end" ∷ []))
    ∙ ap (λ (l : List ℕ). l ++ unlines (stays ++ (prices ++ codes "end" ∷ []))) (top_section net claim.best claim.excess)
    ∙ ap (λ (l : List ℕ). summary_text net (live_cost_of net) claim.best claim.excess ++ l)
    (unlines-append stays (prices ++ codes "end" ∷ []) ∙ rw (stay_section net claim.schedule h.stays)
    (ap (λ (l : List ℕ). texts_below (instance_of_rows net).stays (stay_line net (slice_index claim.schedule)) ++ l)
    (unlines-append prices (codes "end" ∷ []) ∙ rw (cell_section net claim.prices h.pricing size) refl)))

pub report_lines : (net : NetRows) (claim : Claim) → IsClaim (instance_of_rows net) claim → lines (report_text net claim) ≡ lines_of net 0 (values_of claim)
unfolding lines
report_lines net claim h =
    ap lines (sym (report_unlines net claim h) ∙ sym (append-nil (unlines (lines_of net 0 (values_of claim)))))
    ∙ lines-unlines (lines_of net 0 (values_of claim)) [] (plain_lines net 0 (values_of claim)) ∙ append-nil (lines_of net 0 (values_of claim))

-- all numbers but the last, and the last line
pub full_lines : (net : NetRows) (best excess : ℕ) (ss ps : List ℕ) → length ss ≡ (instance_of_rows net).stays → length ps ≡ cells net
    → lines_of net 0 (top_of best excess ++ (ss ++ (ps ++ 0 ∷ []))) ≡ lines_of net 0 (top_of best excess ++ (ss ++ ps)) ++ codes "end" ∷ []
full_lines net best excess ss ps few many =
    let top = lines_of net 0 (top_of best excess) in
    let stays = lines_of net 7 ss in
    let prices = lines_of net (7 + (instance_of_rows net).stays) ps in
    let front : lines_of net 0 (top_of best excess ++ (ss ++ ps)) ≡ top ++ (stays ++ prices) =
    lines_of-append net 0 (top_of best excess) (ss ++ ps) ∙ ap (λ (ls : List (List ℕ)). top ++ ls) (lines_of-append net 7 ss ps ∙ rw few refl) in
    sections net best excess ss ps few many ∙ regroup top stays prices (codes "end" ∷ []) ∙ ap (λ (ls : List (List ℕ)). ls ++ codes "end" ∷ []) (sym front)
  where
    regroup : (a b c d : List (List ℕ)) → a ++ (b ++ (c ++ d)) ≡ (a ++ (b ++ c)) ++ d
    regroup a b c d = simp append_assoc

-- ---- a text with the lines of a report is the report, or that without its last line feed

pub of_lines : (net : NetRows) (text : List ℕ) (claim : Claim) → IsClaim (instance_of_rows net) claim → lines text ≡ lines (report_text net claim) → (text ≡ report_text net claim) ⊎ (text ++ codes "\n" ≡ report_text net claim)
of_lines net text claim h e =
    let whole : unlines (lines text) ≡ report_text net claim = ap unlines (e ∙ report_lines net claim h) ∙ report_unlines net claim h in
    elim (unlines-lines text) [
      | inl is ↦ inl (sym is ∙ whole)
      | inr is ↦ inr (sym is ∙ whole)
    ]

pub to_lines : (net : NetRows) (text : List ℕ) (claim : Claim) → IsClaim (instance_of_rows net) claim → (text ≡ report_text net claim) ⊎ (text ++ codes "\n" ≡ report_text net claim) → lines text ≡ lines (report_text net claim)
to_lines net text claim h (inl e) = ap lines e
to_lines net text claim h (inr e) =
    let vs = top_of claim.best claim.excess ++ (claim.schedule ++ claim.prices.prices) in
    let front = lines_of net 0 vs in
    let all : lines_of net 0 (values_of claim) ≡ front ++ codes "end" ∷ [] = full_lines net claim.best claim.excess claim.schedule claim.prices.prices h.stays (price_count net claim h) in
    let cut : text ≡ unlines front ++ codes "end" = append_cancel_right text (unlines front ++ codes "end") (codes "\n") (e ∙ sym (report_unlines net claim h) ∙ ap unlines all ∙ unlines-append front (codes "end" ∷ []) ∙ sym (append_assoc (unlines front) (codes "end") (codes "\n"))) in
    ap lines cut ∙ lines-unlines front (codes "end") (plain_lines net 0 vs) ∙ ap (λ (ls : List (List ℕ)). front ++ ls) (lines-last (codes "end") (plain_of (codes "end") refl) (omega arith)) ∙ sym all ∙ sym (report_lines net claim h)
