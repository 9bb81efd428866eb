-- one line after another is read, or is the first faulty one
use Rattle.std.proofs.Common.{◌≡◌, ◌≢◌, ◌<◌, ◌≤◌, ◌+◌, ◌-◌, ◌*◌, ◌^◌, ℕ, zero, suc, List, [], ◌∷◌, ◌++◌, length, take, drop, get_or, Bool, true, false, cond, refl, sym, ap, ◌∙◌, subst, arith, append_assoc, append-nil, length-append, inl, inr, All, eqb-true}
use Rattle.std.specs.Prelude.{◌==◌, ◌⊎◌, decimal, codes, replicate, nat_le, nat_lt}
use Rattle.std.proofs.lemmas.List.{append_cancel_left, append_cancel_right, get_or_append_left, get_or-append-add, get_or_at, length-replicate, take_at}
use Rattle.std.proofs.lemmas.Bool.{lt-ltb}
use Rattle.std.proofs.lemmas.List.Elements.{All-append, All-replicate, All-get_or, All-push}
use Rattle.std.proofs.lemmas.Fmt.{decimal_injective}
use Rattle.std.proofs.lemmas.Nat.{div-mul-add, mod-mul-add, mul-add-lt}
use Rattle.report_text.specs.Words.{MAX_PRICE, IsConfig, NetRows, Instance, instance_of_rows, live_of_rows, rows, IsSound, MAX_NET_PRICE}
use Rattle.report_text.specs.Limits.{max_stated, max_number}
use Rattle.report_text.specs.Report.{number_text, stay_start, row_text}
use Rattle.report_text.specs.TextLines.{lines}
use Rattle.report_text.specs.Claims.{Claim, IsClaim, report_text, Begins, HasSmallTargets, IsFirstFaulty}
use Rattle.report_text.specs.Reading.{known_word, known_number, top_text, stay_text, price_front, cell_front, cells, form, lines_of, top_of, values_of, HasRead, HasReadTo}
use Rattle.report_text.proofs.ApartLaws.{named_devices}
use Rattle.report_text.proofs.CellLemmas.{cells_apart, not_last, some_front}
use Rattle.report_text.proofs.FormLemmas.{form_stay, form_cell, form_last, lines_of-append, lines_of-one, price_count, report_lines}

-- ---- the next line of a claim's report

same_head : {X : Type 0} (xs a b : List X) (n : ℕ) (d : X) → length xs < n → take n (xs ++ a) ≡ take n (xs ++ b) → get_or a 0 d ≡ get_or b 0 d
same_head xs a b zero d lt e = absurd (omega arith)
same_head [] [] [] (suc n) d lt e = refl
same_head [] [] (y ∷ ys) (suc n) d lt e = absurd cc
same_head [] (x ∷ xs) [] (suc n) d lt e = absurd cc
same_head [] (x ∷ xs) (y ∷ ys) (suc n) d lt e = cc
same_head (z ∷ zs) a b (suc n) d lt e = same_head zs a b n d (omega arith) cc

-- how many numbers a report has
abbrev pub count : NetRows → ℕ
count net = 8 + (instance_of_rows net).stays + cells net

values_count : (net : NetRows) (claim : Claim) → IsClaim (instance_of_rows net) claim → length (values_of claim) ≡ count net
values_count net claim h =
    let size = price_count net claim h in
    let stays = h.stays in
    let one = length-append claim.schedule (claim.prices.prices ++ 0 ∷ []) in
    let two = length-append claim.prices.prices (0 ∷ []) in
    let all = length-append (top_of claim.best claim.excess) (claim.schedule ++ (claim.prices.prices ++ 0 ∷ [])) in
    omega arith

-- a claim's report has these numbers, then this one and the others, and its next line is the one at hand
pub record IsNext (net : NetRows) (us : List ℕ) (k : ℕ) (rest : List (List ℕ)) (claim : Claim) (w : ℕ) (ws : List ℕ) : Type 0 where
  pub claims : IsClaim (instance_of_rows net) claim
  pub values : values_of claim ≡ us ++ (w ∷ ws)
  pub head : get_or rest 0 [] ≡ get_or (form net k w ++ lines_of net (suc k) ws) 0 []

next_of : (net : NetRows) (text us : List ℕ) (k : ℕ) (rest : List (List ℕ)) → length us ≡ k → k < count net → HasRead net text us rest → HasSmallTargets net → (n : ℕ) (claim : Claim) → length (lines_of net 0 us) < n → Begins net text n claim
    → (w : ℕ) × (ws : List ℕ) × IsNext net us k rest claim w ws
unfolding lines_of
next_of net text us k rest size lt h targets n claim few b = by (h.only targets n claim few b).0 (h.only targets n claim few b).1
  where
    by : (more : List ℕ) → values_of claim ≡ us ++ more → (w : ℕ) × (ws : List ℕ) × IsNext net us k rest claim w ws
    by [] e = let all = values_count net claim b.claims in let same = ap (length {A = ℕ}) e in let sum = length-append {A = ℕ} us [] in absurd (omega arith)
    by (w ∷ ws) e =
        let report : lines (report_text net claim) ≡ lines_of net 0 us ++ (form net k w ++ lines_of net (suc k) ws) =
        report_lines net claim b.claims ∙ ap (lines_of net 0) e ∙ lines_of-append net 0 us (w ∷ ws) ∙ ap (λ (i : ℕ). lines_of net 0 us ++ lines_of net i (w ∷ ws)) (let same : 0 + length us ≡ k = omega arith in same) in
        let same : take n (lines_of net 0 us ++ rest) ≡ take n (lines_of net 0 us ++ (form net k w ++ lines_of net (suc k) ws)) = ap (take n) (sym h.read) ∙ b.same ∙ ap (take n) report in
        (w, ws, record { claims = b.claims; values = e; head = same_head (lines_of net 0 us) rest (form net k w ++ lines_of net (suc k) ws) n [] few same })

-- what holds of each claim whose next line is the one at hand
abbrev pub OfNext : NetRows → List ℕ → ℕ → List (List ℕ) → (ℕ → Type 0) → Type 0
OfNext net us k rest P = HasSmallTargets net → (claim : Claim) (w : ℕ) (ws : List ℕ) → IsNext net us k rest claim w ws → P w

pub step : (net : NetRows) (text us : List ℕ) (v k : ℕ) (rest rest' : List (List ℕ)) → length us ≡ k → k < count net → rest ≡ form net k v ++ rest' → HasRead net text us rest
    → OfNext net us k rest (λ w. w ≡ v) → HasRead net text (us ++ v ∷ []) rest'
step net text us v k rest rest' size lt here h next = record {
  read = h.read ∙ ap (λ (ls : List (List ℕ)). lines_of net 0 us ++ ls) here ∙ sym (append_assoc (lines_of net 0 us) (form net k v) rest') ∙ ap (λ (ls : List (List ℕ)). ls ++ rest') (sym whole);
  only = λ targets n claim few b.
      let sum = ap (λ (ls : List (List ℕ)). length ls) whole ∙ length-append (lines_of net 0 us) (form net k v) in
      let n' = next_of net text us k rest size lt h targets n claim (omega arith) b in
      let same : n'.0 ≡ v = next targets claim n'.0 n'.1 n'.2 in
      (n'.1, n'.2.values ∙ ap (λ (w : ℕ). us ++ (w ∷ n'.1)) same ∙ sym (append_assoc us (v ∷ []) n'.1));
}
  where
    whole : lines_of net 0 (us ++ v ∷ []) ≡ lines_of net 0 us ++ form net k v
    whole = lines_of-append net 0 us (v ∷ []) ∙ ap (λ (i : ℕ). lines_of net 0 us ++ lines_of net i (v ∷ [])) (let same : 0 + length us ≡ k = omega arith in same) ∙ ap (λ (ls : List (List ℕ)). lines_of net 0 us ++ ls) (lines_of-one net k v)

-- the claim whose report begins with the lines before a faulty one
pub record Filled (net : NetRows) (us : List ℕ) : Type 0 where
  pub claim : Claim
  pub claims : IsClaim (instance_of_rows net) claim
  pub more : List ℕ
  pub values : values_of claim ≡ us ++ more

-- line n is the one behind these lines
abbrev pub IsBehind : List ℕ → List (List ℕ) → ℕ → Type 0
IsBehind text rest n = n + length rest ≡ length (lines text) + 1

front_of : (net : NetRows) (text us : List ℕ) (rest : List (List ℕ)) (n : ℕ) → HasRead net text us rest → IsBehind text rest n → n ≡ length (lines_of net 0 us) + 1
front_of net text us rest n h behind =
    let sum = ap (λ (ls : List (List ℕ)). length ls) h.read ∙ length-append (lines_of net 0 us) rest in
    omega arith

begins : (net : NetRows) (text us : List ℕ) (rest : List (List ℕ)) (n : ℕ) → HasRead net text us rest → (f : Filled net us) → n ≡ length (lines_of net 0 us) + 1 → Begins net text (n - 1) f.claim
begins net text us rest n h f is = record {
  claims = f.claims;
  same = ap (take (n - 1)) h.read ∙ take_at (lines_of net 0 us) rest (n - 1) (omega arith) ∙ sym (ap (take (n - 1)) (report_lines net f.claim f.claims ∙ ap (lines_of net 0) f.values ∙ lines_of-append net 0 us f.more) ∙ take_at (lines_of net 0 us) _ (n - 1) (omega arith));
}

pub fails : (net : NetRows) (text us : List ℕ) (k n : ℕ) (rest : List (List ℕ)) → length us ≡ k → k < count net → HasRead net text us rest → Filled net us → IsBehind text rest n → OfNext net us k rest (λ w. ⊥) → IsFirstFaulty net text n
fails net text us k n rest size lt h f behind next =
    let is = front_of net text us rest n h behind in
    record {
      counted = omega arith;
      claim = f.claim;
      before = begins net text us rest n h f is;
      none = λ targets claim b. let n' = next_of net text us k rest size lt h targets n claim (omega arith) b in next targets claim n'.0 n'.1 n'.2;
    }

-- ---- claims of what was read so far, with zeros after it

abbrev pub made : NetRows → ℕ → ℕ → List ℕ → List ℕ → Claim
made net best excess rounds prices = record {
  schedule = rounds;
  prices = record { rounds = (instance_of_rows net).rounds; devices = (instance_of_rows net).devices; adapters = (instance_of_rows net).adapters; links = (instance_of_rows net).links; max_price = (instance_of_rows net).max_price; prices = prices };
  best = best;
  excess = excess;
}

pub is_claim : (net : NetRows) (best excess : ℕ) (rounds prices : List ℕ) → IsSound (instance_of_rows net) (live_of_rows net) → best ≤ max_stated → excess ≤ max_stated
    → length rounds ≡ (instance_of_rows net).stays → All (λ r. r ≤ max_number (instance_of_rows net)) rounds → length prices ≡ cells net → All (λ p. p ≤ (instance_of_rows net).max_price) prices
    → IsClaim (instance_of_rows net) (made net best excess rounds prices)
is_claim net best excess rounds prices sound small small' few low many low' = record {
  stays = few;
  rounds = low;
  pricing = record { rounds = refl; devices = refl; adapters = refl; links = refl; max_price = refl };
  priced = record { cells = many; small = low'; small_price = sound.small_price; few_rounds = sound.few_rounds; few_devices = sound.few_devices; few_adapters = sound.few_adapters; few_links = sound.few_links };
  best = small;
  excess = small';
}

abbrev padded : ℕ → List ℕ → List ℕ
padded n vs = vs ++ replicate (n - length vs) 0

padded_size : (n : ℕ) (vs : List ℕ) → length vs ≤ n → length (padded n vs) ≡ n
padded_size n vs le =
    let both = length-append vs (replicate (n - length vs) 0) in
    let zeros : length {A = ℕ} (replicate (n - length vs) 0) ≡ n - length vs = length-replicate (n - length vs) 0 in
    omega arith

padded_small : (n most : ℕ) (vs : List ℕ) → All (λ v. v ≤ most) vs → All (λ v. v ≤ most) (padded n vs)
padded_small n most vs h = All-append (λ v. v ≤ most) vs (replicate (n - length vs) 0) h (All-replicate (λ v. v ≤ most) (n - length vs) 0 (let le : 0 ≤ most = omega arith in le))

filled_with : (net : NetRows) (best excess : ℕ) (rounds prices : List ℕ) → IsSound (instance_of_rows net) (live_of_rows net) → best ≤ max_stated → excess ≤ max_stated
    → length rounds ≤ (instance_of_rows net).stays → All (λ r. r ≤ max_number (instance_of_rows net)) rounds → length prices ≤ cells net → All (λ p. p ≤ (instance_of_rows net).max_price) prices
    → IsClaim (instance_of_rows net) (made net best excess (padded (instance_of_rows net).stays rounds) (padded (cells net) prices))
filled_with net best excess rounds prices sound small small' few low many low' =
    is_claim net best excess (padded (instance_of_rows net).stays rounds) (padded (cells net) prices) sound small small' (padded_size (instance_of_rows net).stays rounds few) (padded_small (instance_of_rows net).stays _ rounds low)
    (padded_size (cells net) prices many) (padded_small (cells net) _ prices low')

pub none_small : (most : ℕ) → All (λ v. v ≤ most) []
none_small most = All-replicate (λ v. v ≤ most) 0 0 (let le : 0 ≤ most = omega arith in le)

-- the first seven numbers, or the first ones of them
pub filled_top : (net : NetRows) (best excess : ℕ) (us more : List ℕ) → IsSound (instance_of_rows net) (live_of_rows net) → best ≤ max_stated → excess ≤ max_stated → top_of best excess ≡ us ++ more → Filled net us
filled_top net best excess us more sound small small' e =
    let ss = padded (instance_of_rows net).stays [] in
    let ps = padded (cells net) [] in
    record {
      claim = made net best excess ss ps;
      claims = filled_with net best excess [] [] sound small small' (omega arith) (none_small _) (omega arith) (none_small _);
      more = more ++ (ss ++ (ps ++ 0 ∷ []));
      values = ap (λ (l : List ℕ). l ++ (ss ++ (ps ++ 0 ∷ []))) e ∙ append_assoc us more (ss ++ (ps ++ 0 ∷ []));
    }

pub filled_rounds : (net : NetRows) (text : List ℕ) (best excess : ℕ) (rounds : List ℕ) (at : ℕ) → IsSound (instance_of_rows net) (live_of_rows net) → HasReadTo net text best excess rounds [] at → length rounds ≤ (instance_of_rows net).stays
    → Filled net (top_of best excess ++ (rounds ++ []))
filled_rounds net text best excess rounds at sound h few =
    let zs = replicate ((instance_of_rows net).stays - length rounds) 0 in
    let ps = padded (cells net) [] in
    record {
      claim = made net best excess (rounds ++ zs) ps;
      claims = filled_with net best excess rounds [] sound h.small_best h.small_excess few h.small_rounds (omega arith) (none_small _);
      more = zs ++ (ps ++ 0 ∷ []);
      values = regroup (top_of best excess) rounds zs (ps ++ 0 ∷ []);
    }
  where
    regroup : (t r z p : List ℕ) → t ++ ((r ++ z) ++ p) ≡ (t ++ (r ++ [])) ++ (z ++ p)
    regroup t r z p = simp (append_assoc, append-nil)

pub filled_prices : (net : NetRows) (text : List ℕ) (best excess : ℕ) (rounds prices : List ℕ) (at : ℕ) → IsSound (instance_of_rows net) (live_of_rows net) → HasReadTo net text best excess rounds prices at
    → length rounds ≡ (instance_of_rows net).stays → length prices ≤ cells net → Filled net (top_of best excess ++ (rounds ++ prices))
filled_prices net text best excess rounds prices at sound h few many =
    let zs = replicate (cells net - length prices) 0 in
    record {
      claim = made net best excess rounds (prices ++ zs);
      claims = is_claim net best excess rounds (prices ++ zs) sound h.small_best h.small_excess few h.small_rounds (padded_size (cells net) prices many) (padded_small (cells net) _ prices h.small_prices);
      more = zs ++ 0 ∷ [];
      values = regroup (top_of best excess) rounds prices zs (0 ∷ []);
    }
  where
    regroup : (t r p z e : List ℕ) → t ++ (r ++ ((p ++ z) ++ e)) ≡ (t ++ (r ++ p)) ++ (z ++ e)
    regroup t r p z e = simp append_assoc

-- zeros for the first lines
pub filled_known : (net : NetRows) (k : ℕ) → IsSound (instance_of_rows net) (live_of_rows net) → k < 5 → Filled net (replicate k 0)
filled_known net zero sound lt = filled_top net 0 0 [] (top_of 0 0) sound (omega arith) (omega arith) refl
filled_known net (suc zero) sound lt = filled_top net 0 0 (0 ∷ []) (0 ∷ 0 ∷ 0 ∷ 0 ∷ 0 ∷ 0 ∷ []) sound (omega arith) (omega arith) refl
filled_known net (suc (suc zero)) sound lt = filled_top net 0 0 (0 ∷ 0 ∷ []) (0 ∷ 0 ∷ 0 ∷ 0 ∷ 0 ∷ []) sound (omega arith) (omega arith) refl
filled_known net (suc (suc (suc zero))) sound lt = filled_top net 0 0 (0 ∷ 0 ∷ 0 ∷ []) (0 ∷ 0 ∷ 0 ∷ 0 ∷ []) sound (omega arith) (omega arith) refl
filled_known net (suc (suc (suc (suc zero)))) sound lt = filled_top net 0 0 (0 ∷ 0 ∷ 0 ∷ 0 ∷ []) (0 ∷ 0 ∷ 0 ∷ []) sound (omega arith) (omega arith) refl
filled_known net (suc (suc (suc (suc (suc k))))) sound lt = absurd (omega arith)

-- ---- lines of the top

pub none_read : (net : NetRows) (text : List ℕ) → HasRead net text [] (lines text)
unfolding lines_of
none_read net text = record { read = refl; only = λ targets n claim few b. (values_of claim, refl) }

pub head_some : (rest : List (List ℕ)) (l : List ℕ) → get_or rest 0 [] ≡ l → 0 < length l → rest ≡ l ∷ drop 1 rest
head_some [] l e some = let none : length {A = ℕ} [] ≡ length l = ap (length {A = ℕ}) e in absurd (omega arith)
head_some (x ∷ xs) l e some = ap (λ (y : List ℕ). y ∷ xs) e

value_at : (claim : Claim) (us : List ℕ) (w : ℕ) (ws : List ℕ) (k : ℕ) → values_of claim ≡ us ++ (w ∷ ws) → length us ≡ k → w ≡ get_or (values_of claim) k 0
value_at claim us w ws k e size = sym (ap (λ (l : List ℕ). get_or l k 0) e ∙ get_or_at us w ws 0 k size)

top_none : (claim : Claim) (k : ℕ) → k < 5 → get_or (values_of claim) k 0 ≡ 0
top_none claim zero lt = refl
top_none claim (suc zero) lt = refl
top_none claim (suc (suc zero)) lt = refl
top_none claim (suc (suc (suc zero))) lt = refl
top_none claim (suc (suc (suc (suc zero)))) lt = refl
top_none claim (suc (suc (suc (suc (suc k))))) lt = absurd (omega arith)

top_form : (net : NetRows) (k v : ℕ) → k < 7 → form net k v ≡ top_text net k v ∷ []
unfolding form
top_form net k v lt = rw (lt-ltb k 7 lt) refl

top_some : (net : NetRows) (k v : ℕ) → 0 < length (top_text net k v)
unfolding top_text
top_some net k v = by (nat_lt k 5) (k == 5)
  where
    known : (k : ℕ) (l : List ℕ) → 0 < length (known_word k ++ l)
    known zero l = omega arith
    known (suc zero) l = omega arith
    known (suc (suc zero)) l = omega arith
    known (suc (suc (suc zero))) l = omega arith
    known (suc (suc (suc (suc k)))) l = omega arith

    by : (a b : Bool) → 0 < length (cond a (known_word k ++ decimal (known_number net k)) (cond b (codes "best ") (codes "excess ") ++ decimal v))
    by true b = known k _
    by false true = omega arith
    by false false = omega arith

pub top_known : (net : NetRows) (k v : ℕ) → k < 5 → top_text net k v ≡ known_word k ++ decimal (known_number net k)
unfolding top_text
top_known net k v lt = rw (lt-ltb k 5 lt) refl

-- a line of the top that is read
pub top_step : (net : NetRows) (text us : List ℕ) (k v : ℕ) (rest : List (List ℕ)) → length us ≡ k → k < 7 → get_or rest 0 [] ≡ top_text net k v → HasRead net text us rest
    → ((claim : Claim) (w : ℕ) → IsClaim (instance_of_rows net) claim → w ≡ get_or (values_of claim) k 0 → top_text net k v ≡ top_text net k w → w ≡ v) → HasRead net text (us ++ v ∷ []) (drop 1 rest)
top_step net text us k v rest size lt here h same =
    step net text us v k rest (drop 1 rest) size (omega arith) (head_some rest (top_text net k v) here (top_some net k v) ∙ ap (λ (ls : List (List ℕ)). ls ++ drop 1 rest) (sym (top_form net k v lt))) h
    (λ targets claim w ws next. same claim w next.claims (value_at claim us w ws k next.values size)
    (sym here ∙ next.head ∙ ap (λ (ls : List (List ℕ)). get_or (ls ++ lines_of net (suc k) ws) 0 []) (top_form net k w lt)))

pub known_step : (net : NetRows) (text us : List ℕ) (k : ℕ) (rest : List (List ℕ)) → length us ≡ k → k < 5 → get_or rest 0 [] ≡ known_word k ++ decimal (known_number net k) → HasRead net text us rest
    → HasRead net text (us ++ 0 ∷ []) (drop 1 rest)
known_step net text us k rest size lt here h = top_step net text us k 0 rest size (omega arith) (here ∙ sym (top_known net k 0 lt)) h (λ claim w claims is same. is ∙ top_none claim k lt)

-- and one that isn't
pub top_fails : (net : NetRows) (text us : List ℕ) (k n : ℕ) (rest : List (List ℕ)) → length us ≡ k → k < 7 → HasRead net text us rest → Filled net us → IsBehind text rest n
    → ((claim : Claim) (w : ℕ) → IsClaim (instance_of_rows net) claim → w ≡ get_or (values_of claim) k 0 → get_or rest 0 [] ≡ top_text net k w → ⊥) → IsFirstFaulty net text n
top_fails net text us k n rest size lt h f behind wrong =
    fails net text us k n rest size (omega arith) h f behind
    (λ targets claim w ws next. wrong claim w next.claims (value_at claim us w ws k next.values size)
    (next.head ∙ ap (λ (ls : List (List ℕ)). get_or (ls ++ lines_of net (suc k) ws) 0 []) (top_form net k w lt)))

pub known_fails : (net : NetRows) (text us : List ℕ) (k n : ℕ) (rest : List (List ℕ)) → length us ≡ k → k < 5 → HasRead net text us rest → Filled net us → IsBehind text rest n
    → get_or rest 0 [] ≢ known_word k ++ decimal (known_number net k) → IsFirstFaulty net text n
known_fails net text us k n rest size lt h f behind wrong = top_fails net text us k n rest size (omega arith) h f behind (λ claim w claims is same. wrong (same ∙ top_known net k w lt))

pub same_number : (front : List ℕ) (v w : ℕ) → v ≤ max_stated → w ≤ max_stated → front ++ decimal v ≡ front ++ decimal w → w ≡ v
same_number front v w small small' e = sym (decimal_injective v w (omega arith) (omega arith) (append_cancel_left front (decimal v) (decimal w) e))

-- the lines of the best cost and of the excess
pub best_step : (net : NetRows) (text us : List ℕ) (v : ℕ) (rest : List (List ℕ)) → length us ≡ 5 → v ≤ max_stated → get_or rest 0 [] ≡ codes "best " ++ decimal v → HasRead net text us rest → HasRead net text (us ++ v ∷ []) (drop 1 rest)
unfolding top_text
best_step net text us v rest size small here h = top_step net text us 5 v rest size (omega arith) here h (λ claim w claims is same. same_number (codes "best ") v w small (subst (λ (x : ℕ). x ≤ max_stated) (sym is) claims.best) same)

pub best_fails : (net : NetRows) (text us : List ℕ) (n : ℕ) (rest : List (List ℕ)) → length us ≡ 5 → HasRead net text us rest → Filled net us → IsBehind text rest n → ((v : ℕ) → v ≤ max_stated → get_or rest 0 [] ≢ codes "best " ++ decimal v) → IsFirstFaulty net text n
unfolding top_text
best_fails net text us n rest size h f behind wrong = top_fails net text us 5 n rest size (omega arith) h f behind (λ claim w claims is same. wrong w (subst (λ (x : ℕ). x ≤ max_stated) (sym is) claims.best) same)

pub excess_step : (net : NetRows) (text us : List ℕ) (v : ℕ) (rest : List (List ℕ)) → length us ≡ 6 → v ≤ max_stated → get_or rest 0 [] ≡ codes "excess " ++ decimal v → HasRead net text us rest → HasRead net text (us ++ v ∷ []) (drop 1 rest)
unfolding top_text
excess_step net text us v rest size small here h = top_step net text us 6 v rest size (omega arith) here h (λ claim w claims is same. same_number (codes "excess ") v w small (subst (λ (x : ℕ). x ≤ max_stated) (sym is) claims.excess) same)

pub excess_fails : (net : NetRows) (text us : List ℕ) (n : ℕ) (rest : List (List ℕ)) → length us ≡ 6 → HasRead net text us rest → Filled net us → IsBehind text rest n → ((v : ℕ) → v ≤ max_stated → get_or rest 0 [] ≢ codes "excess " ++ decimal v) → IsFirstFaulty net text n
unfolding top_text
excess_fails net text us n rest size h f behind wrong = top_fails net text us 6 n rest size (omega arith) h f behind (λ claim w claims is same. wrong w (subst (λ (x : ℕ). x ≤ max_stated) (sym is) claims.excess) same)

-- ---- lines of stays

number_fits : (net : Instance) → max_number net < 2 ^ 64
number_fits net = elim (nat_le net.max_price MAX_PRICE) as (λ b. cond {A = ℕ} b 65535 1048576 < 2 ^ 64) [ true ↦ omega arith | false ↦ omega arith ]

value_round : (claim : Claim) (us : List ℕ) (w : ℕ) (ws : List ℕ) (s : ℕ) → values_of claim ≡ us ++ (w ∷ ws) → length us ≡ 7 + s → s < length claim.schedule → w ≡ get_or claim.schedule s 0
value_round claim us w ws s e size lt =
    value_at claim us w ws (7 + s) e size ∙ get_or-append-add (top_of claim.best claim.excess) (claim.schedule ++ (claim.prices.prices ++ 0 ∷ [])) s 0
    ∙ get_or_append_left claim.schedule (claim.prices.prices ++ 0 ∷ []) 0 s lt

stay_some : (net : NetRows) (s v : ℕ) → 0 < length (stay_text net s v)
unfolding stay_text
stay_some net s v = omega arith

same_round : (net : NetRows) (s v w : ℕ) → v ≤ max_number (instance_of_rows net) → w ≤ max_number (instance_of_rows net) → stay_text net s v ≡ stay_text net s w → w ≡ v
unfolding stay_text
same_round net s v w small small' e =
    let back = number_text ((instance_of_rows net).weight s) in
    let fits = number_fits (instance_of_rows net) in
    sym (decimal_injective v w (omega arith) (omega arith) (append_cancel_right (decimal v) (decimal w) back (append_cancel_left (stay_start net s ++ codes " ") (decimal v ++ back) (decimal w ++ back) e)))

round_of : (net : NetRows) (us : List ℕ) (s : ℕ) (rest : List (List ℕ)) (claim : Claim) (w : ℕ) (ws : List ℕ) → s < (instance_of_rows net).stays → length us ≡ 7 + s → IsNext net us (7 + s) rest claim w ws
    → (w ≤ max_number (instance_of_rows net)) × (get_or rest 0 [] ≡ stay_text net s w)
round_of net us s rest claim w ws lt size next =
    let stays = next.claims.stays in
    let is = value_round claim us w ws s next.values size (omega arith) in (
      subst (λ (v : ℕ). v ≤ max_number (instance_of_rows net)) (sym is) (All-get_or (λ r. r ≤ max_number (instance_of_rows net)) claim.schedule s 0 (omega arith) next.claims.rounds),
      next.head ∙ ap (λ (ls : List (List ℕ)). get_or (ls ++ lines_of net (suc (7 + s)) ws) 0 []) (form_stay net s w lt),
    )

stay_size : (best excess : ℕ) (rounds : List ℕ) (s : ℕ) → length rounds ≡ s → length (top_of best excess ++ (rounds ++ [])) ≡ 7 + s
stay_size best excess rounds s size = let nil = ap (length {A = ℕ}) (append-nil rounds) in let sum = length-append (top_of best excess) (rounds ++ []) in omega arith

pub stay_step : (net : NetRows) (text : List ℕ) (best excess : ℕ) (rounds more : List ℕ) (s v at next : ℕ) → length rounds ≡ s → s < (instance_of_rows net).stays → HasReadTo net text best excess rounds [] at
    → v ≤ max_number (instance_of_rows net) → get_or (lines (drop at text)) 0 [] ≡ stay_text net s v → lines (drop next text) ≡ drop 1 (lines (drop at text)) → next ≤ length text → more ≡ rounds ++ v ∷ []
    → HasReadTo net text best excess more [] next
stay_step net text best excess rounds more s v at next size lt h small here then within is = record {
  small_best = h.small_best;
  small_excess = h.small_excess;
  small_rounds = rw is (All-push (λ r. r ≤ max_number (instance_of_rows net)) rounds v h.small_rounds small);
  small_prices = h.small_prices;
  so_far = rw (then, is) (subst (λ (l : List ℕ). HasRead net text l (drop 1 (lines (drop at text)))) (regroup (top_of best excess) rounds v) read);
  within = within;
}
  where
    regroup : (t r : List ℕ) (v : ℕ) → (t ++ (r ++ [])) ++ v ∷ [] ≡ t ++ ((r ++ v ∷ []) ++ [])
    regroup t r v = simp (append_assoc, append-nil)

    us : List ℕ
    us = top_of best excess ++ (rounds ++ [])

    long : length us ≡ 7 + s
    long = stay_size best excess rounds s size

    read : HasRead net text (us ++ v ∷ []) (drop 1 (lines (drop at text)))
    read =
        let rest = lines (drop at text) in
        step net text us v (7 + s) rest (drop 1 rest) long (omega arith) (head_some rest (stay_text net s v) here (stay_some net s v) ∙ ap (λ (ls : List (List ℕ)). ls ++ drop 1 rest) (sym (form_stay net s v lt))) h.so_far
        (λ targets claim w ws next'. let r = round_of net us s rest claim w ws lt long next' in same_round net s v w small r.0 (sym here ∙ r.1))

pub stay_fails : (net : NetRows) (text : List ℕ) (best excess : ℕ) (rounds : List ℕ) (s at n : ℕ) → IsSound (instance_of_rows net) (live_of_rows net) → length rounds ≡ s → s < (instance_of_rows net).stays → HasReadTo net text best excess rounds [] at
    → ((v : ℕ) → v ≤ max_number (instance_of_rows net) → get_or (lines (drop at text)) 0 [] ≢ stay_text net s v) → IsBehind text (lines (drop at text)) n → IsFirstFaulty net text n
stay_fails net text best excess rounds s at n sound size lt h wrong behind =
    let us = top_of best excess ++ (rounds ++ []) in
    let long = stay_size best excess rounds s size in
    fails net text us (7 + s) n (lines (drop at text)) long (omega arith) h.so_far (filled_rounds net text best excess rounds at sound h (omega arith)) behind
    (λ targets claim w ws next. let r = round_of net us s (lines (drop at text)) claim w ws lt long next in wrong w r.0 r.1)

-- ---- lines of prices

pub cell_size : (best excess : ℕ) (rounds prices : List ℕ) (s c : ℕ) → length rounds ≡ s → length prices ≡ c → length (top_of best excess ++ (rounds ++ prices)) ≡ 7 + s + c
cell_size best excess rounds prices s c size size' = let both = length-append rounds prices in let sum = length-append (top_of best excess) (rounds ++ prices) in omega arith

-- the first of the lines from a cell on is one of a cell from it on, or the last line
first_of : (net : NetRows) (c : ℕ) (ws : List ℕ) → c + length ws ≡ cells net + 1 → 0 < length ws
    → ((j : ℕ) × (x : ℕ) × (c ≤ j) × (j < cells net) × (get_or (lines_of net (7 + (instance_of_rows net).stays + c) ws) 0 [] ≡ cell_front net j ++ decimal x)) ⊎ (get_or (lines_of net (7 + (instance_of_rows net).stays + c) ws) 0 [] ≡ codes "end")
unfolding lines_of
first_of net c [] size some = absurd (omega arith)
first_of net c (w ∷ []) size some =
    let same : c ≡ cells net = omega arith in
    inr (rw same (ap (λ (ls : List (List ℕ)). get_or (ls ++ []) 0 []) (form_last net w)))
first_of net c (w ∷ (w' ∷ ws)) size some = by (w == 0) (form_cell net c w (omega arith)) (first_of net (suc c) (w' ∷ ws) (omega arith) (omega arith))
  where
    k : ℕ
    k = 7 + (instance_of_rows net).stays + c

    next : 7 + (instance_of_rows net).stays + suc c ≡ suc k
    next = omega arith

    by : (b : Bool) → form net k w ≡ cond b [] ((cell_front net c ++ decimal w) ∷ [])
        → ((j : ℕ) × (x : ℕ) × (suc c ≤ j) × (j < cells net) × (get_or (lines_of net (7 + (instance_of_rows net).stays + suc c) (w' ∷ ws)) 0 [] ≡ cell_front net j ++ decimal x)) ⊎ (get_or (lines_of net (7 + (instance_of_rows net).stays + suc c) (w' ∷ ws)) 0 [] ≡ codes "end")
        → ((j : ℕ) × (x : ℕ) × (c ≤ j) × (j < cells net) × (get_or (form net k w ++ lines_of net (suc k) (w' ∷ ws)) 0 [] ≡ cell_front net j ++ decimal x)) ⊎ (get_or (form net k w ++ lines_of net (suc k) (w' ∷ ws)) 0 [] ≡ codes "end")
    by true e (inl r) = let le = r.2 in inl (r.0, r.1, omega arith, r.3, rw e (subst (λ (i : ℕ). get_or (lines_of net i (w' ∷ ws)) 0 [] ≡ cell_front net r.0 ++ decimal r.1) next r.4))
    by true e (inr r) = inr (rw e (subst (λ (i : ℕ). get_or (lines_of net i (w' ∷ ws)) 0 [] ≡ codes "end") next r))
    by false e r = inl (c, w, omega arith, omega arith, rw e refl)

-- what a reader of a cell's line gives: a price by the line, or 0, where it isn't one of the cell's
abbrev pub IsPriceOn : ℕ → List ℕ → List ℕ → ℕ → Type 0
IsPriceOn most front line v = (v ≡ 0 → (price : ℕ) → 1 ≤ price → price ≤ most → line ≡ front ++ decimal price → ⊥) × (0 < v → (v ≤ most) × (line ≡ front ++ decimal v))

value_price : (net : NetRows) (claim : Claim) (us : List ℕ) (w : ℕ) (ws : List ℕ) (c : ℕ) → IsClaim (instance_of_rows net) claim → values_of claim ≡ us ++ (w ∷ ws) → length us ≡ 7 + (instance_of_rows net).stays + c → c < cells net
    → w ≤ (instance_of_rows net).max_price
value_price net claim us w ws c h e size lt =
    let s = (instance_of_rows net).stays in
    let few = h.stays in
    let many = price_count net claim h in
    let place : 7 + s + c ≡ 7 + (length claim.schedule + c) = omega arith in
    let is : w ≡ get_or claim.prices.prices c 0 =
    value_at claim us w ws (7 + s + c) e size ∙ ap (λ (i : ℕ). get_or (values_of claim) i 0) place
    ∙ get_or-append-add (top_of claim.best claim.excess) (claim.schedule ++ (claim.prices.prices ++ 0 ∷ [])) (length claim.schedule + c) 0
    ∙ get_or-append-add claim.schedule (claim.prices.prices ++ 0 ∷ []) c 0 ∙ get_or_append_left claim.prices.prices (0 ∷ []) 0 c (omega arith) in
    let small = All-get_or (λ p. p ≤ claim.prices.max_price) claim.prices.prices c 0 (omega arith) h.priced.small in
    subst (λ (v : ℕ). v ≤ (instance_of_rows net).max_price) (sym is) (subst (λ (m : ℕ). get_or claim.prices.prices c 0 ≤ m) h.pricing.max_price small)

some_price : (v : ℕ) → (v == 0) ≡ false → 0 < v
some_price zero e = absurd cc
some_price (suc n) e = omega arith

price_of : (net : NetRows) (us : List ℕ) (c v : ℕ) (rest : List (List ℕ)) → IsConfig net.config → IsSound (instance_of_rows net) (live_of_rows net) → c < cells net → length us ≡ 7 + (instance_of_rows net).stays + c
    → IsPriceOn (instance_of_rows net).max_price (cell_front net c) (get_or rest 0 []) v → OfNext net us (7 + (instance_of_rows net).stays + c) rest (λ w. w ≡ v)
price_of net us c v rest config sound lt size read targets claim w ws next = by (w == 0) refl (v == 0) refl
  where
    k : ℕ
    k = 7 + (instance_of_rows net).stays + c

    low : w ≤ (instance_of_rows net).max_price
    low = value_price net claim us w ws c next.claims next.values size lt

    fits : (instance_of_rows net).max_price ≤ MAX_NET_PRICE
    fits = sound.small_price

    here : (b : Bool) → (w == 0) ≡ b → get_or rest 0 [] ≡ get_or (cond b [] ((cell_front net c ++ decimal w) ∷ []) ++ lines_of net (suc k) ws) 0 []
    here b is = next.head ∙ ap (λ (ls : List (List ℕ)). get_or (ls ++ lines_of net (suc k) ws) 0 []) (form_cell net c w lt ∙ ap (λ (t : Bool). cond t [] ((cell_front net c ++ decimal w) ∷ [])) is)

    -- a line of this cell is no line of a later one, and not the last
    later : 0 < v → get_or rest 0 [] ≡ get_or (lines_of net (suc k) ws) 0 [] → ⊥
    later some e =
        let line = (read.1 some).1 in
        let all = ap (length {A = ℕ}) next.values ∙ length-append us (w ∷ ws) in
        let sum = values_count net claim next.claims in
        let place : suc k ≡ 7 + (instance_of_rows net).stays + suc c = omega arith in
        elim (first_of net (suc c) ws (omega arith) (omega arith)) [
          | inl r ↦
              let same : c ≡ r.0 = cells_apart net c r.0 (decimal v) (decimal r.1) (named_devices net.config config.kept targets) sound lt r.3 (sym line ∙ e ∙ ap (λ (i : ℕ). get_or (lines_of net i ws) 0 []) place ∙ r.4) in
              let le = r.2 in
              omega arith
          | inr r ↦ not_last net c (decimal v) (sym line ∙ e ∙ ap (λ (i : ℕ). get_or (lines_of net i ws) 0 []) place ∙ r)
        ]

    by : (a : Bool) → (w == 0) ≡ a → (b : Bool) → (v == 0) ≡ b → w ≡ v
    by true is true is' = eqb-true w 0 is ∙ sym (eqb-true v 0 is')
    by true is false is' = absurd (later (some_price v is') (here true is))
    by false is true is' = absurd (read.0 (eqb-true v 0 is') w (some_price w is) low (here false is))
    by false is false is' =
        let r = read.1 (some_price v is') in
        let small = r.0 in
        let low' = low in
        let fits' = fits in
        sym (decimal_injective v w (omega arith) (omega arith) (append_cancel_left (cell_front net c) (decimal v) (decimal w) (sym r.1 ∙ here false is)))

-- the lines from the next cell on
abbrev pub behind_price : ℕ → List (List ℕ) → List (List ℕ)
behind_price v rest = cond (v == 0) rest (drop 1 rest)

price_line_is : (net : NetRows) (c v : ℕ) (rest : List (List ℕ)) → c < cells net → IsPriceOn (instance_of_rows net).max_price (cell_front net c) (get_or rest 0 []) v
    → rest ≡ form net (7 + (instance_of_rows net).stays + c) v ++ behind_price v rest
price_line_is net c v rest lt read = ap (λ (ls : List (List ℕ)). ls) (by (v == 0) refl) ∙ ap (λ (ls : List (List ℕ)). ls ++ behind_price v rest) (sym (form_cell net c v lt))
  where
    by : (b : Bool) → (v == 0) ≡ b → rest ≡ cond (v == 0) [] ((cell_front net c ++ decimal v) ∷ []) ++ behind_price v rest
    by true is = rw is refl
    by false is = rw is (head_some rest (cell_front net c ++ decimal v) (read.1 (some_price v is)).1 (some_front net c (decimal v)))

pub price_step : (net : NetRows) (text : List ℕ) (best excess : ℕ) (rounds prices more : List ℕ) (c v at next : ℕ) → IsConfig net.config → IsSound (instance_of_rows net) (live_of_rows net)
    → length rounds ≡ (instance_of_rows net).stays → length prices ≡ c → c < cells net → HasReadTo net text best excess rounds prices at
    → IsPriceOn (instance_of_rows net).max_price (cell_front net c) (get_or (lines (drop at text)) 0 []) v → lines (drop next text) ≡ behind_price v (lines (drop at text)) → next ≤ length text → more ≡ prices ++ v ∷ []
    → HasReadTo net text best excess rounds more next
price_step net text best excess rounds prices more c v at next config sound few size lt h read then within is = record {
  small_best = h.small_best;
  small_excess = h.small_excess;
  small_rounds = h.small_rounds;
  small_prices = rw is (All-push (λ p. p ≤ (instance_of_rows net).max_price) prices v h.small_prices (small (v == 0) refl));
  so_far = rw (then, is) (subst (λ (l : List ℕ). HasRead net text l (behind_price v rest)) (regroup (top_of best excess) rounds prices v) reads);
  within = within;
}
  where
    rest : List (List ℕ)
    rest = lines (drop at text)

    small : (b : Bool) → (v == 0) ≡ b → v ≤ (instance_of_rows net).max_price
    small true e = let none = eqb-true v 0 e in omega arith
    small false e = (read.1 (some_price v e)).0

    regroup : (t r p : List ℕ) (v : ℕ) → (t ++ (r ++ p)) ++ v ∷ [] ≡ t ++ (r ++ (p ++ v ∷ []))
    regroup t r p v = simp append_assoc

    long : length (top_of best excess ++ (rounds ++ prices)) ≡ 7 + (instance_of_rows net).stays + c
    long = cell_size best excess rounds prices _ c few size

    reads : HasRead net text ((top_of best excess ++ (rounds ++ prices)) ++ v ∷ []) (behind_price v rest)
    reads =
        step net text (top_of best excess ++ (rounds ++ prices)) v (7 + (instance_of_rows net).stays + c) rest (behind_price v rest) long (omega arith) (price_line_is net c v rest lt read) h.so_far
        (price_of net (top_of best excess ++ (rounds ++ prices)) c v rest config sound lt long read)

row_front : (net : NetRows) (row passed : ℕ) → passed < (instance_of_rows net).rounds → cell_front net (row * (instance_of_rows net).rounds + passed) ≡ price_front (row_text net.config.devices (instance_of_rows net).adapters row) (passed + 1)
unfolding cell_front
row_front net row passed lt = rw (div-mul-add row (instance_of_rows net).rounds passed lt, mod-mul-add row (instance_of_rows net).rounds passed lt) refl

within_cells : (row w col h : ℕ) → row < h → col < w → row * w + col < h * w
within_cells row w col h p q = let lt = mul-add-lt row w col h p q in omega arith

pub row_step : (net : NetRows) (text : List ℕ) (best excess : ℕ) (rounds prices more : List ℕ) (row passed v at next : ℕ) → IsConfig net.config → IsSound (instance_of_rows net) (live_of_rows net)
    → length rounds ≡ (instance_of_rows net).stays → length prices ≡ row * (instance_of_rows net).rounds + passed → row < rows (instance_of_rows net) → passed < (instance_of_rows net).rounds → HasReadTo net text best excess rounds prices at
    → IsPriceOn (instance_of_rows net).max_price (price_front (row_text net.config.devices (instance_of_rows net).adapters row) (passed + 1)) (get_or (lines (drop at text)) 0 []) v
    → lines (drop next text) ≡ behind_price v (lines (drop at text)) → next ≤ length text → more ≡ prices ++ v ∷ []
    → (length more ≡ row * (instance_of_rows net).rounds + (passed + 1)) × HasReadTo net text best excess rounds more next
row_step net text best excess rounds prices more row passed v at next config sound few size lt lt' h read then within is =
    let longer = ap (length {A = ℕ}) is ∙ length-append prices (v ∷ []) in
    let read' : IsPriceOn (instance_of_rows net).max_price (cell_front net (row * (instance_of_rows net).rounds + passed)) (get_or (lines (drop at text)) 0 []) v =
    subst (λ (front : List ℕ). IsPriceOn (instance_of_rows net).max_price front (get_or (lines (drop at text)) 0 []) v) (sym (row_front net row passed lt')) read in
    (omega arith, price_step net text best excess rounds prices more (row * (instance_of_rows net).rounds + passed) v at next config sound few size (within_cells row (instance_of_rows net).rounds passed (rows (instance_of_rows net)) lt lt') h read' then within is)
