-- the waits so far, and of one round more
use Rattle.std.proofs.Common.{◌≡◌, ℕ, ◌+◌, ◌-◌, ◌≤◌, true, false, List, [], ◌∷◌, ◌++◌, map, refl, sym, ap, ◌∙◌, arith, append-nil, append_assoc, flat_map, not, ◌&&◌, nat_le}
use Rattle.std.specs.List.{range_with_len, list_all}
use Rattle.std.proofs.lemmas.Bool.{and_parts, leb-true, le-leb}
use Rattle.std.proofs.lemmas.Grind.{flat_map-append}
use Rattle.std.proofs.lemmas.List.{map-append}
use Rattle.std.proofs.lemmas.List.Folds.{list_all-append}
use Rattle.event_rules.proofs.ListFacts.{range_with_len-push}
use Rattle.wait_causes.specs.Words.{is_cause, WaitCause, Error, Caller, AdapterFrozen, DeviceStopped, AdapterStopped, LinkStopped, DeviceFull, AdapterFull, LinkFull, NotAsked}
use Rattle.wait_causes.specs.Waits.{beside, rounds_of, are_apart, AreBegun, Wait}

pub same_cause : (a b : WaitCause) → is_cause a b ≡ true → a ≡ b
same_cause Error Error e = refl
same_cause Caller Caller e = refl
same_cause AdapterFrozen AdapterFrozen e = refl
same_cause DeviceStopped DeviceStopped e = refl
same_cause AdapterStopped AdapterStopped e = refl
same_cause LinkStopped LinkStopped e = refl
same_cause DeviceFull DeviceFull e = refl
same_cause AdapterFull AdapterFull e = refl
same_cause LinkFull LinkFull e = refl
same_cause NotAsked NotAsked e = refl
same_cause _ _ e = absurd (cc)

-- the rounds from the first on with their causes, and one more
rounds-push : (f : ℕ → WaitCause) (first n : ℕ) → map (beside f) (range_with_len first (n + 1)) ≡ map (beside f) (range_with_len first n) ++ (first + n, f (first + n)) ∷ []
rounds-push f first n = ap (map (beside f)) (range_with_len-push first n) ∙ map-append (beside f) (range_with_len first n) ((first + n) ∷ [])

pub written-push : (ws : List Wait) (w : Wait) → flat_map rounds_of (ws ++ w ∷ []) ≡ flat_map rounds_of ws ++ rounds_of w
written-push ws w = flat_map-append rounds_of ws (w ∷ []) ∙ ap (λ xs. flat_map rounds_of ws ++ xs) (append-nil (rounds_of w))

longer : (w : Wait) (round k : ℕ) → w.first + k ≡ round → round + 1 - w.first ≡ k + 1 → w.last + 1 - w.first ≡ k → rounds_of (record w { last = round }) ≡ rounds_of w ++ (round, w.cause) ∷ []
longer w round k at long was =
    ap (λ n. map (beside (λ r. w.cause)) (range_with_len w.first n)) long
    ∙ rounds-push (λ r. w.cause) w.first k
    ∙ rw (at, was) refl

apart-same : (ws : List Wait) (w v : Wait) → w.cause ≡ v.cause → map (λ (x : Wait). x.cause) (ws ++ w ∷ []) ≡ map (λ (x : Wait). x.cause) (ws ++ v ∷ [])
apart-same ws w v e =
    map-append (λ (x : Wait). x.cause) ws (w ∷ []) ∙ ap (λ x. map (λ (x : Wait). x.cause) ws ++ x ∷ []) e
    ∙ sym (map-append (λ (x : Wait). x.cause) ws (v ∷ []))

pub apart-push : (xs : List WaitCause) (x y : WaitCause) → are_apart (xs ++ x ∷ []) ≡ true → is_cause x y ≡ false → are_apart ((xs ++ x ∷ []) ++ y ∷ []) ≡ true
apart-push [] x y apart ne = rw ne refl
apart-push (a ∷ []) x y apart ne =
    let parts = and_parts (not (is_cause a x)) true apart in
    rw (parts.0, ne) refl
apart-push (a ∷ b ∷ xs) x y apart ne =
    let parts = and_parts (not (is_cause a b)) (are_apart (b ∷ xs ++ x ∷ [])) apart in
    rw (parts.0, apart-push (b ∷ xs) x y parts.1 ne) refl

some-parts : (ws : List Wait) (w : Wait) → list_all (λ (x : Wait). nat_le x.first x.last) (ws ++ w ∷ []) ≡ true → (list_all (λ (x : Wait). nat_le x.first x.last) ws ≡ true) × (nat_le w.first w.last ≡ true)
some-parts ws w all =
    let both : (list_all (λ (x : Wait). nat_le x.first x.last) ws && (nat_le w.first w.last && true)) ≡ true = sym (list_all-append (λ (x : Wait). nat_le x.first x.last) ws (w ∷ [])) ∙ all in
    let parts = and_parts (list_all (λ (x : Wait). nat_le x.first x.last) ws) (nat_le w.first w.last && true) both in
    (parts.0, (and_parts (nat_le w.first w.last) true parts.1).0)

pub some-push : (ws : List Wait) (w : Wait) → list_all (λ (x : Wait). nat_le x.first x.last) ws ≡ true → nat_le w.first w.last ≡ true → list_all (λ (x : Wait). nat_le x.first x.last) (ws ++ w ∷ []) ≡ true
some-push ws w all here = list_all-append (λ (x : Wait). nat_le x.first x.last) ws (w ∷ []) ∙ rw (all, here) refl

-- the first round
pub begun_first : (f : ℕ → WaitCause) (first : ℕ) (w : Wait) → w ≡ record { cause = f first; first = first; last = first } → AreBegun f first 1 [] w
begun_first f first w e = rw e (record {
  are = record {
    written_out = append-nil (rounds_of (record { cause = f first; first = first; last = first })) ∙ ap (λ n. map (beside (λ r. f first)) (range_with_len first n)) one;
    each_some = rw (le-leb first first (omega arith)) refl;
    apart = refl;
  };
  ends = refl;
})
  where
    one : first + 1 - first ≡ 1
    one = omega arith

-- one round more joins the last wait
pub begun_joined : (f : ℕ → WaitCause) (first n : ℕ) (ws : List Wait) (w : Wait) (cause : WaitCause) (round : ℕ) → cause ≡ f round → round ≡ first + n → is_cause w.cause cause ≡ true → AreBegun f first n ws w → AreBegun f first (n + 1) ws (record w { last = round })
begun_joined f first n ws w cause round is at same b =
    let some : w.first ≤ w.last = leb-true w.first w.last (some-parts ws w b.are.each_some).1 in
    let k : ℕ = w.last + 1 - w.first in
    let here : w.first + k ≡ round = omega (arith, b.ends) in
    let long : round + 1 - w.first ≡ k + 1 = omega (arith, b.ends) in
    let cause_is : w.cause ≡ f (first + n) = same_cause w.cause cause same ∙ is ∙ ap f at in
    record {
      are = record {
        written_out =
            written-push ws (record w { last = round })
            ∙ ap (λ xs. flat_map rounds_of ws ++ xs) (longer w round k here long refl)
            ∙ sym (append_assoc (flat_map rounds_of ws) (rounds_of w) ((round, w.cause) ∷ []))
            ∙ ap (λ xs. xs ++ (round, w.cause) ∷ []) (sym (written-push ws w) ∙ b.are.written_out)
            ∙ rw (at, cause_is) (sym (rounds-push f first n));
        each_some = some-push ws (record w { last = round }) (some-parts ws w b.are.each_some).0 (le-leb w.first round (omega (arith, b.ends)));
        apart = ap are_apart (apart-same ws (record w { last = round }) w refl) ∙ b.are.apart;
      };
      ends = omega arith;
    }

-- or begins one
pub begun_next : (f : ℕ → WaitCause) (first n : ℕ) (ws : List Wait) (w next : Wait) (cause : WaitCause) (round : ℕ) → next ≡ record { cause = cause; first = round; last = round } → cause ≡ f round → round ≡ first + n → is_cause w.cause cause ≡ false → AreBegun f first n ws w →
    AreBegun f first (n + 1) (ws ++ w ∷ []) next
begun_next f first n ws w next cause round e is at ne b = rw e (record {
  are = record {
    written_out =
        written-push (ws ++ w ∷ []) (record { cause = cause; first = round; last = round })
        ∙ ap (λ k. flat_map rounds_of (ws ++ w ∷ []) ++ map (beside (λ r. cause)) (range_with_len round k)) one
        ∙ ap (λ xs. xs ++ (round, cause) ∷ []) b.are.written_out
        ∙ rw (is, at) (sym (rounds-push f first n));
    each_some = some-push (ws ++ w ∷ []) (record { cause = cause; first = round; last = round }) b.are.each_some (le-leb round round (omega arith));
    apart = ap are_apart (map-append (λ (x : Wait). x.cause) (ws ++ w ∷ []) _ ∙ ap (λ xs. xs ++ cause ∷ []) (map-append (λ (x : Wait). x.cause) ws (w ∷ [])))
        ∙ apart-push (map (λ (x : Wait). x.cause) ws) w.cause cause (ap are_apart (sym (map-append (λ (x : Wait). x.cause) ws (w ∷ []))) ∙ b.are.apart) ne;
  };
  ends = omega arith;
})
  where
    one : round + 1 - round ≡ 1
    one = omega arith
