-- counts of the CCBs in a state, if one more event changes the state of one of them
use Rattle.std.proofs.Common.{◌≡◌, ◌≢◌, ℕ, zero, suc, ◌+◌, ◌-◌, ◌<◌, ◌≤◌, Bool, true, false, cond, List, [], ◌∷◌, ◌++◌, length, refl, sym, ap, ◌∙◌, arith, Some, None, append-nil, add-zero, zero-add, length-append, not, ◌==◌, ◌&&◌, ◌||◌, count_by, option_to_list, slice_get}
use Rattle.std.specs.List.{range_with_len}
use Rattle.std.proofs.lemmas.Bool.Decides.{nat_tests}
use Rattle.std.proofs.lemmas.List.Sums.{sum_by-cons}
use Rattle.cam_types.specs.declared.outcome.Outcome.{Outcome}
use Rattle.event_rules.specs.Event.{is_some_and, ccb_of, submission_of, Event, Send, Done}
use Rattle.event_rules.specs.Counts.{commands, ccbs, submission, submissions, is_in_flight, is_recovering, error_count, Submission}
use Rattle.event_rules.proofs.PushLaws.{submissions-push}
use Rattle.event_rules.proofs.ListFacts.{range_with_len-push, count_by-push}
use Rattle.event_rules.proofs.ConcernLaws.{apart as apart_from, concerns-other}
use Rattle.event_rules.proofs.StateLaws.{is_in_flight-push, is_recovering-push}

-- counts of the CCBs that stand so and whose submission passes a test
abbrev pub share : (List Event → ℕ → Bool) → (Submission → Bool) → List Event → ℕ
share stands q es = count_by (λ ccb. stands es ccb && is_some_and q (submission es ccb)) (ccbs es)

pub error_count-share : (es : List Event) (d : ℕ) → error_count es d ≡ share is_recovering (λ (s : Submission). (s.device == d) && not s.flags.qfrzdis) es
unfolding error_count
error_count-share es d = refl

-- a test that changes at one number of a range changes the count there alone
pub count-range_same : (p q : ℕ → Bool) (a n : ℕ) → ((k : ℕ) → a ≤ k → k < a + n → q k ≡ p k) → count_by q (range_with_len a n) ≡ count_by p (range_with_len a n)
count-range_same p q a zero h = refl
count-range_same p q a (suc n) h =
    let here : ◌≡◌ {A = ℕ} (cond (q a) 1 0) (cond (p a) 1 0) = ap (λ b. cond {A = ℕ} b 1 0) (h a (omega arith) (omega arith)) in
    let rest = count-range_same p q (a + 1) n (λ k le lt. h k (omega arith) (omega arith)) in
    omega (arith, here, rest, sum_by-cons (λ k. cond (q k) 1 0) a (range_with_len (a + 1) n), sum_by-cons (λ k. cond (p k) 1 0) a (range_with_len (a + 1) n))

pub count-range_but : (p q : ℕ → Bool) (a n c : ℕ) → c < n → ((k : ℕ) → k ≢ a + c → q k ≡ p k) →
    count_by q (range_with_len a n) + cond (p (a + c)) 1 0 ≡ count_by p (range_with_len a n) + cond (q (a + c)) 1 0
count-range_but p q a zero c lt h = absurd (omega arith)
count-range_but p q a (suc n) zero lt h =
    let at : a + 0 ≡ a = omega arith in
    let rest = count-range_same p q (a + 1) n (λ k le less. h k (λ e. omega arith)) in
    rw at (omega (arith, rest, sum_by-cons (λ k. cond (q k) 1 0) a (range_with_len (a + 1) n), sum_by-cons (λ k. cond (p k) 1 0) a (range_with_len (a + 1) n)))
count-range_but p q a (suc n) (suc c) lt h =
    let there : (a + 1) + c ≡ a + suc c = omega arith in
    let here : ◌≡◌ {A = ℕ} (cond (q a) 1 0) (cond (p a) 1 0) = ap (λ b. cond {A = ℕ} b 1 0) (h a (λ e. omega arith)) in
    let rest = count-range_but p q (a + 1) n c (omega arith) (λ k ne. h k (λ e. ne (e ∙ sym there))) in
    let rest' : count_by q (range_with_len (a + 1) n) + cond (p (a + suc c)) 1 0 ≡ count_by p (range_with_len (a + 1) n) + cond (q (a + suc c)) 1 0 = rw (← there) rest in
    omega (arith, here, rest', sum_by-cons (λ k. cond (q k) 1 0) a (range_with_len (a + 1) n), sum_by-cons (λ k. cond (p k) 1 0) a (range_with_len (a + 1) n))

slice_get-front : {X : Type 0} (xs ys : List X) (i : ℕ) → i < length xs → slice_get (xs ++ ys) i ≡ slice_get xs i
slice_get-front [] ys i lt = absurd (omega arith)
slice_get-front (x ∷ xs) ys zero lt = refl
slice_get-front (x ∷ xs) ys (suc i) lt = slice_get-front xs ys i (omega arith)

module _ (stands : List Event → ℕ → Bool) (q : Submission → Bool) (es : List Event) (e : Event) where
  submissions-same : submission_of e ≡ None → submissions (es ++ e ∷ []) ≡ submissions es
  submissions-same none = submissions-push es e ∙ ap (λ o. submissions es ++ option_to_list o) none ∙ append-nil (submissions es)

  -- the share by the submissions before the event
  share-before : submission_of e ≡ None → share stands q (es ++ e ∷ []) ≡ count_by (λ ccb. stands (es ++ e ∷ []) ccb && is_some_and q (submission es ccb)) (ccbs es)
  share-before none =
      ap (λ ss. count_by (λ ccb. stands (es ++ e ∷ []) ccb && is_some_and q (slice_get ss ccb)) (range_with_len 0 (length ss))) (submissions-same none)

  pub share-same : submission_of e ≡ None → ((k : ℕ) → stands (es ++ e ∷ []) k ≡ stands es k) → share stands q (es ++ e ∷ []) ≡ share stands q es
  share-same none h =
      share-before none ∙ count-range_same (λ ccb. stands es ccb && is_some_and q (submission es ccb)) (λ ccb. stands (es ++ e ∷ []) ccb && is_some_and q (submission es ccb)) 0 (commands es)
      (λ k le lt. ap (λ b. b && is_some_and q (submission es k)) (h k))

  pub share-at : submission_of e ≡ None → (c : ℕ) → c < commands es → ((k : ℕ) → k ≢ c → stands (es ++ e ∷ []) k ≡ stands es k) →
      share stands q (es ++ e ∷ []) + cond (stands es c && is_some_and q (submission es c)) 1 0 ≡ share stands q es + cond (stands (es ++ e ∷ []) c && is_some_and q (submission es c)) 1 0
  share-at none c lt h =
      let at : 0 + c ≡ c = zero-add c in
      let but = count-range_but (λ ccb. stands es ccb && is_some_and q (submission es ccb)) (λ ccb. stands (es ++ e ∷ []) ccb && is_some_and q (submission es ccb)) 0 (commands es) c lt
      (λ k ne. ap (λ b. b && is_some_and q (submission es k)) (h k (λ i. ne (i ∙ sym at)))) in
      ap (λ n. n + cond (stands es c && is_some_and q (submission es c)) 1 0) (share-before none) ∙ rw at at but

  pub share-submit : (s : Submission) → submission_of e ≡ Some s → ((k : ℕ) → stands (es ++ e ∷ []) k ≡ stands es k) → stands es (commands es) ≡ false →
      share stands q (es ++ e ∷ []) ≡ share stands q es
  share-submit s is h new =
      let more : submissions (es ++ e ∷ []) ≡ submissions es ++ s ∷ [] = submissions-push es e ∙ ap (λ o. submissions es ++ option_to_list o) is in
      let long : length (submissions es ++ s ∷ []) ≡ commands es + 1 = length-append (submissions es) (s ∷ []) in
      let p = λ (ccb : ℕ). stands es ccb && is_some_and q (submission es ccb) in
      let p' = λ (ccb : ℕ). stands (es ++ e ∷ []) ccb && is_some_and q (slice_get (submissions es ++ s ∷ []) ccb) in
      let last : p' (commands es) ≡ false = ap (λ b. b && is_some_and q (slice_get (submissions es ++ s ∷ []) (commands es))) (h (commands es) ∙ new) in
      let range : count_by p' (range_with_len 0 (commands es + 1)) ≡ count_by p' (ccbs es) + cond (p' (0 + commands es)) 1 0 =
      ap (count_by p') (range_with_len-push 0 (commands es)) ∙ count_by-push p' (ccbs es) (0 + commands es) in
      let none : ◌≡◌ {A = ℕ} (cond (p' (0 + commands es)) 1 0) 0 = ap (λ k. cond {A = ℕ} (p' k) 1 0) (zero-add (commands es)) ∙ ap (λ b. cond {A = ℕ} b 1 0) last in
      let same : count_by p' (ccbs es) ≡ count_by p (ccbs es) = count-range_same p p' 0 (commands es)
      (λ k le lt. ap (λ b. b && is_some_and q (slice_get (submissions es ++ s ∷ []) k)) (h k) ∙ ap (λ o. stands es k && is_some_and q o) (slice_get-front (submissions es) (s ∷ []) k (omega arith))) in
      ap (λ ss. count_by (λ ccb. stands (es ++ e ∷ []) ccb && is_some_and q (slice_get ss ccb)) (range_with_len 0 (length ss))) more
      ∙ ap (λ n. count_by p' (range_with_len 0 n)) long ∙ range ∙ ap (λ n. count_by p' (ccbs es) + n) none ∙ add-zero (count_by p' (ccbs es)) ∙ same

-- shares where one CCB changes
module _ (stands : List Event → ℕ → Bool) (q : Submission → Bool) (es : List Event) (e : Event) (none : submission_of e ≡ None) (c : ℕ) (lt : c < commands es)
    (apart : (k : ℕ) → k ≢ c → stands (es ++ e ∷ []) k ≡ stands es k) where
  share-change : (x y hit : Bool) → stands es c ≡ x → stands (es ++ e ∷ []) c ≡ y → is_some_and q (submission es c) ≡ hit →
      share stands q (es ++ e ∷ []) + cond (x && hit) 1 0 ≡ share stands q es + cond (y && hit) 1 0
  share-change x y hit ex ey eh = rw (← ex, ← ey, ← eh) (share-at stands q es e none c lt apart)

  pub share-gain : (y hit : Bool) → stands es c ≡ false → stands (es ++ e ∷ []) c ≡ y → is_some_and q (submission es c) ≡ hit → share stands q (es ++ e ∷ []) ≡ share stands q es + cond (y && hit) 1 0
  share-gain y hit ex ey eh = sym (add-zero (share stands q (es ++ e ∷ []))) ∙ share-change false y hit ex ey eh

  pub share-lose : (hit : Bool) → stands es c ≡ true → stands (es ++ e ∷ []) c ≡ false → is_some_and q (submission es c) ≡ hit → share stands q (es ++ e ∷ []) ≡ share stands q es - cond hit 1 0
  share-lose hit ex ey eh = let change = share-change true false hit ex ey eh in omega (arith, change)

-- a CCB that an event doesn't concern stands as it did
pub flying-other : (es : List Event) (e : Event) (c k : ℕ) → ccb_of e ≡ Some c → k ≢ c → is_in_flight (es ++ e ∷ []) k ≡ is_in_flight es k
flying-other es e c k is ne = is_in_flight-push es e k ∙ rw ((apart_from k e (concerns-other e c k is ne)).send_or_done) refl

pub recovering-other : (es : List Event) (e : Event) (c k : ℕ) → ccb_of e ≡ Some c → k ≢ c → is_recovering (es ++ e ∷ []) k ≡ is_recovering es k
recovering-other es e c k is ne = is_recovering-push es e k ∙ rw (concerns-other e c k is ne) refl

-- the CCB of a send is in flight after it, and that of a completion isn't
pub same_number : (k : ℕ) → (k == k) ≡ true
same_number k = grind (arith, nat_tests)

send_flies : (b x : Bool) → b ≡ true → cond (b || false) b x ≡ true
send_flies true x e = refl
send_flies false x e = absurd (cc)

done_lands : (b x : Bool) → b ≡ true → cond (false || b) false x ≡ false
done_lands true x e = refl
done_lands false x e = absurd (cc)

pub flies-send : (es : List Event) (lane ccb : ℕ) → is_in_flight (es ++ Send lane ccb ∷ []) ccb ≡ true
flies-send es lane ccb = is_in_flight-push es (Send lane ccb) ccb ∙ send_flies (ccb == ccb) (is_in_flight es ccb) (same_number ccb)

pub lands-done : (es : List Event) (ccb : ℕ) (o : Outcome) → is_in_flight (es ++ Done ccb o ∷ []) ccb ≡ false
lands-done es ccb o = is_in_flight-push es (Done ccb o) ccb ∙ done_lands (ccb == ccb) (is_in_flight es ccb) (same_number ccb)

-- some CCB counts
pub some-range : (p : ℕ → Bool) (a n c : ℕ) → c < n → p (a + c) ≡ true → 1 ≤ count_by p (range_with_len a n)
some-range p a zero c lt h = absurd (omega arith)
some-range p a (suc n) zero lt h =
    let at : a + 0 ≡ a = omega arith in
    let here : p a ≡ true = ap p (sym at) ∙ h in
    omega (arith, sum_by-cons (λ k. cond (p k) 1 0) a (range_with_len (a + 1) n), ap (λ b. cond {A = ℕ} b 1 0) here)
some-range p a (suc n) (suc c) lt h =
    let there : a + suc c ≡ (a + 1) + c = omega arith in
    omega (arith, sum_by-cons (λ k. cond (p k) 1 0) a (range_with_len (a + 1) n), some-range p (a + 1) n c (omega arith) (ap p (sym there) ∙ h))

pub some-share : (stands : List Event → ℕ → Bool) (q : Submission → Bool) (es : List Event) (c : ℕ) → c < commands es → (stands es c && is_some_and q (submission es c)) ≡ true → 1 ≤ share stands q es
some-share stands q es c lt h = some-range (λ ccb. stands es ccb && is_some_and q (submission es ccb)) 0 (commands es) c lt (ap (λ k. stands es k && is_some_and q (submission es k)) (zero-add c) ∙ h)
