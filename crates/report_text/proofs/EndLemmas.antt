-- what was read to the end is a report, and what a reader answers
use Rattle.std.proofs.Common.{◌≡◌, ◌≢◌, ◌<◌, ◌≤◌, ◌+◌, ◌-◌, ℕ, suc, List, [], ◌∷◌, ◌++◌, length, take, drop, get_or, Bool, refl, sym, ap, ◌∙◌, subst, arith, append_assoc, append-nil, length-append, length-take, inl, inr, take_all}
use Rattle.std.specs.Prelude.{◌⊎◌, Option, Some, None, Result, Ok, Err, codes, IfOk, IfErr, IfSome}
use Rattle.std.proofs.lemmas.List.{take_at, drop_at}
use Rattle.report_text.specs.Words.{IsWholeWithin, NetRows, instance_of_rows, live_of_rows, IsSound}
use Rattle.report_text.specs.Limits.{max_bytes}
use Rattle.report_text.specs.TextLines.{lines}
use Rattle.report_text.specs.Claims.{Claim, ReportFault, IsClaim, report_text, IsReport, WasReport, Begins, HasSmallTargets, IsFirstFaulty, WasFaulty, fault_line, Explains}
use Rattle.report_text.specs.declared.report_fault.ReportFault.TheVariants as fault
use Rattle.report_text.specs.Reading.{cells, lines_of, top_of, values_of, HasReadTo, IsEndFault, IsReadAs}
use Rattle.report_text.proofs.FormLemmas.{form_last, price_count, report_lines, full_lines, of_lines, to_lines}
use Rattle.report_text.proofs.ReadLemmas.{made, is_claim, cell_size, filled_prices, fails}

-- ---- the end

-- all numbers but the last were read
module _ (net : NetRows) (text : List ℕ) (best excess : ℕ) (rounds prices : List ℕ) (at : ℕ) (sound : IsSound (instance_of_rows net) (live_of_rows net)) (h : HasReadTo net text best excess rounds prices at)
    (few : length rounds ≡ (instance_of_rows net).stays) (many : length prices ≡ cells net) where
  abbrev pub us : List ℕ
  us = top_of best excess ++ (rounds ++ prices)

  abbrev pub claim : Claim
  claim = made net best excess rounds prices

  claims : IsClaim (instance_of_rows net) claim
  claims = is_claim net best excess rounds prices sound h.small_best h.small_excess few h.small_rounds many h.small_prices

  report : lines (report_text net claim) ≡ lines_of net 0 us ++ codes "end" ∷ []
  report = report_lines net claim claims ∙ full_lines net best excess rounds prices few many

  -- another claim with these numbers has the same report
  same_report : (other : Claim) → IsClaim (instance_of_rows net) other → (more : List ℕ) → values_of other ≡ us ++ more → other ≡ claim
  same_report other is more e =
      let size = is.stays in
      let count = price_count net other is in
      let best' : other.best ≡ best = cc in
      let excess' : other.excess ≡ excess = cc in
      let tail : other.schedule ++ (other.prices.prices ++ 0 ∷ []) ≡ (rounds ++ prices) ++ more = cc in
      let tail' : other.schedule ++ (other.prices.prices ++ 0 ∷ []) ≡ rounds ++ (prices ++ more) = tail ∙ append_assoc rounds prices more in
      let one : other.schedule ≡ rounds = sym (take_at other.schedule _ _ size) ∙ ap (take (instance_of_rows net).stays) tail' ∙ take_at rounds _ _ few in
      let rest : other.prices.prices ++ 0 ∷ [] ≡ prices ++ more = sym (drop_at other.schedule _ _ size) ∙ ap (drop (instance_of_rows net).stays) tail' ∙ drop_at rounds _ _ few in
      let two : other.prices.prices ≡ prices = sym (take_at other.prices.prices _ _ count) ∙ ap (take (cells net)) rest ∙ take_at prices _ _ many in
      of_parts other best' excess' one two is
    where
      of_parts : (c : Claim) → c.best ≡ best → c.excess ≡ excess → c.schedule ≡ rounds → c.prices.prices ≡ prices → IsClaim (instance_of_rows net) c → c ≡ claim
      of_parts c b x s p k = rw (← b, ← x, ← s, ← p, ← k.pricing.rounds, ← k.pricing.devices, ← k.pricing.adapters, ← k.pricing.links, ← k.pricing.max_price) refl

  pub read_as : lines (drop at text) ≡ codes "end" ∷ [] → IsReadAs net text claim
  read_as rest =
      let same : lines text ≡ lines (report_text net claim) = h.so_far.read ∙ ap (λ (ls : List (List ℕ)). lines_of net 0 us ++ ls) rest ∙ sym report in
      record {
        claims = claims;
        same = same;
        only = λ targets other is e.
            let n = length (lines_of net 0 us) + 1 in
            let begins : Begins net text n other = record { claims = is; same = ap (take n) e } in
            let next = h.so_far.only targets n other (omega arith) begins in
            same_report other is next.0 next.1;
      }

  pub end_fails : (n : ℕ) → IsEndFault (lines text) (lines (drop at text)) n → IsFirstFaulty net text n
  end_fails n (inl wrong) =
      fails net text us (7 + (instance_of_rows net).stays + cells net) n (lines (drop at text)) (cell_size best excess rounds prices _ _ few many) (omega arith) h.so_far
      (filled_prices net text best excess rounds prices at sound h few (omega arith)) wrong.1
      (λ targets other w ws next. wrong.0 (next.head ∙ ap (λ (ls : List (List ℕ)). get_or (ls ++ lines_of net (suc (7 + (instance_of_rows net).stays + cells net)) ws) 0 []) (form_last net w)))
  end_fails n (inr wrong) =
      let rest = lines (drop at text) in
      let more = drop 1 rest in
      let whole : lines text ≡ lines (report_text net claim) ++ more = h.so_far.read ∙ ap (λ (ls : List (List ℕ)). lines_of net 0 us ++ ls) (cut rest wrong.0 wrong.1) ∙ sym (append_assoc (lines_of net 0 us) (codes "end" ∷ []) more) ∙ ap (λ (ls : List (List ℕ)). ls ++ more) (sym report) in
      let all = ap (λ (ls : List (List ℕ)). length ls) whole ∙ length-append (lines (report_text net claim)) more in
      let size = ap (λ (ls : List (List ℕ)). length ls) report ∙ length-append (lines_of net 0 us) (codes "end" ∷ []) in
      let line = wrong.2 in
      let some = wrong.1 in
      record {
        counted = omega arith;
        claim = claim;
        before = record {
          claims = claims;
          same = ap (take (n - 1)) whole ∙ take_at (lines (report_text net claim)) more (n - 1) (omega arith) ∙ sym (take_all (n - 1) (lines (report_text net claim)) (omega arith));
        };
        none = λ targets other b.
            let next = h.so_far.only targets n other (omega arith) b in
            let is : other ≡ claim = same_report other b.claims next.0 next.1 in
            let equal : length (take n (lines text)) ≡ length (take n (lines (report_text net claim))) = ap (λ (ls : List (List ℕ)). length ls) (b.same ∙ ap (λ (c : Claim). take n (lines (report_text net c))) is) in
            let one = length-take n (lines text) in
            let two = length-take n (lines (report_text net claim)) in
            absurd (omega arith);
      }
    where
      cut : (rest : List (List ℕ)) → get_or rest 0 [] ≡ codes "end" → 0 < length (drop 1 rest) → rest ≡ (codes "end" ∷ []) ++ drop 1 rest
      cut [] e some = absurd (omega arith)
      cut (x ∷ xs) e some = ap (λ (y : List ℕ). y ∷ xs) e

-- ---- the clauses of a reader of reports, from what reading the whole text gives

-- what reading the text gives
pub record Gives (net : NetRows) (text : List ℕ) (r : Result Claim ReportFault) : Type 0 where
  pub ok : IfOk r (IsReadAs net text)
  pub err : IfErr r (λ e. e ≢ fault.OutOfMemory → IsFirstFaulty net text (fault_line e))

pub found_law : (net : NetRows) (before after : Option (List ℕ)) (text : List ℕ) (r : Result Claim ReportFault) → IsWholeWithin (max_bytes (instance_of_rows net)) before after text → Gives net text r → IfOk r (λ claim. WasReport net before after claim)
found_law net before after text (Ok claim) whole g = record {
  text = text;
  whole = whole;
  report = record { bounded = whole.bounded; spelled = of_lines net text claim g.ok.claims g.ok.same };
  claims = g.ok.claims;
}
found_law net before after text (Err e) whole g = tt

read_again : (net : NetRows) (text : List ℕ) (r : Result Claim ReportFault) (claim : Claim) → HasSmallTargets net → IsClaim (instance_of_rows net) claim → Gives net text r → IsReport net text claim → r ≢ Err fault.OutOfMemory → r ≡ Ok claim
read_again net text (Ok other) claim targets claims g report memory =
    ap (λ (c : Claim). Ok c) (sym (g.ok.only targets claim claims (to_lines net text claim claims report.spelled)))
read_again net text (Err e) claim targets claims g report memory =
    let first = g.err (λ is. memory (ap (λ (d : ReportFault). Err d) is)) in
    absurd (first.none targets claim (record { claims = claims; same = ap (take (fault_line e)) (to_lines net text claim claims report.spelled) }))

pub only_law : (net : NetRows) (before after : Option (List ℕ)) (text : List ℕ) (r : Result Claim ReportFault) (claim : Claim) → IsWholeWithin (max_bytes (instance_of_rows net)) before after text → Gives net text r
    → IsClaim (instance_of_rows net) claim → HasSmallTargets net → IfSome before (λ all. IsReport net all claim → r ≢ Err fault.OutOfMemory → r ≢ Err fault.ReadFailed → r ≡ Ok claim)
only_law net None after text r claim whole g claims targets = tt
only_law net (Some all) None text r claim whole g claims targets = absurd whole.read
only_law net (Some all) (Some left) text r claim whole g claims targets = λ report memory read.
    let same : all ≡ text = whole.read ∙ ap (λ (l : List ℕ). text ++ l) whole.ended ∙ append-nil text in
    read_again net text r claim targets claims g (subst (λ (l : List ℕ). IsReport net l claim) same report) memory

explained : (net : NetRows) (before after : Option (List ℕ)) (failed : Bool) (e : ReportFault) → 1 ≤ fault_line e → WasFaulty net before after (fault_line e) → Explains net before after failed e
explained net before after failed (fault.BadLine n) some h = h
explained net before after failed (fault.PriceRange n) some h = h
explained net before after failed (fault.WrongStays n) some h = h
explained net before after failed fault.TooLong some h = absurd (omega arith)
explained net before after failed fault.ReadFailed some h = absurd (omega arith)
explained net before after failed fault.OutOfMemory some h = absurd (omega arith)

is_memory : (e : ReportFault) → (e ≡ fault.OutOfMemory) ⊎ (e ≢ fault.OutOfMemory)
is_memory (fault.BadLine n) = inr (λ e. cc)
is_memory (fault.PriceRange n) = inr (λ e. cc)
is_memory (fault.WrongStays n) = inr (λ e. cc)
is_memory fault.TooLong = inr (λ e. cc)
is_memory fault.ReadFailed = inr (λ e. cc)
is_memory fault.OutOfMemory = inl refl

pub faults_law : (net : NetRows) (before after : Option (List ℕ)) (failed : Bool) (text : List ℕ) (r : Result Claim ReportFault) → IsWholeWithin (max_bytes (instance_of_rows net)) before after text → Gives net text r → IfErr r (Explains net before after failed)
faults_law net before after failed text (Ok claim) whole g = tt
faults_law net before after failed text (Err e) whole g = by (is_memory e)
  where
    by : (e ≡ fault.OutOfMemory) ⊎ (e ≢ fault.OutOfMemory) → Explains net before after failed e
    by (inl is) = rw is tt
    by (inr other) = let first = g.err other in explained net before after failed e first.counted (record { text = text; whole = whole; first = first })
