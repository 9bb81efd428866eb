-- how the newest place of an id is found
use Rattle.std.proofs.Common.{◌≡◌, ℕ, ◌+◌, ◌-◌, ◌%◌, ◌≤◌, ◌<◌, List, [], ◌∷◌, ◌++◌, length, get_or, set, sym, ap, subst, ◌∙◌, arith, inl, inr, length-append}
use Rattle.std.proofs.Math.Nat.{mod-lt}
use Rattle.std.proofs.Math.Seq.{get_or-append_seam}
use Rattle.std.proofs.lemmas.Bool.{cases_lt, cases_eq}
use Rattle.std.proofs.lemmas.List.{get_or_append_left, get_or-set_other, get_or-set_same, length-set}
use Rattle.recorder.specs.Ids.{IsIndex, IsUpTo}

-- the remainder of the id at a place, with one more at the end
same_left : (size : ℕ) (ids : List ℕ) (id j : ℕ) → j < length ids → get_or (ids ++ id ∷ []) j 0 % size ≡ get_or ids j 0 % size
same_left size ids id j lt = ap (λ x. x % size) (get_or_append_left ids (id ∷ []) 0 j lt)

same_last : (size : ℕ) (ids : List ℕ) (id j : ℕ) → j ≡ length ids → get_or (ids ++ id ∷ []) j 0 % size ≡ id % size
same_last size ids id j e = rw e (ap (λ x. x % size) (get_or-append_seam ids id [] 0))

up_kept : (size r : ℕ) (ids : List ℕ) (id n p : ℕ) → n ≤ length ids → IsUpTo size r ids n p → IsUpTo size r (ids ++ id ∷ []) n p
up_kept size r ids id n p le h = record {
  most = h.most;
  newest = λ j from below e. h.newest j from below (sym (same_left size ids id j (omega arith)) ∙ e);
  is = λ some. let m = h.most in same_left size ids id (p - 1) (omega arith) ∙ h.is some;
}

up_other : (size r : ℕ) (ids : List ℕ) (id p : ℕ) → (r ≡ id % size → ⊥) → IsUpTo size r ids (length ids) p → IsUpTo size r (ids ++ id ∷ []) (length ids + 1) p
up_other size r ids id p other h =
    let old = up_kept size r ids id (length ids) p (omega arith) h in
    record {
      most = let m = h.most in omega arith;
      newest = λ j from below e. elim (cases_lt j (length ids)) [
        | inl lt ↦ old.newest j from lt e
        | inr le ↦ other (sym e ∙ same_last size ids id j (omega arith))
      ];
      is = old.is;
    }

up_last : (size : ℕ) (ids : List ℕ) (id : ℕ) → IsUpTo size (id % size) (ids ++ id ∷ []) (length ids + 1) (length ids + 1)
up_last size ids id = record {
  most = omega arith;
  newest = λ j from below e. absurd (omega arith);
  is = λ some. same_last size ids id (length ids + 1 - 1) (omega arith);
}

-- one more id
pub linked : (ids heads earlier : List ℕ) (id count : ℕ) → count ≡ length earlier + 1 → IsIndex ids heads earlier → IsIndex (ids ++ id ∷ []) (set heads (id % length heads) count) (earlier ++ get_or heads (id % length heads) 0 ∷ [])
linked ids heads earlier id count is h =
    let size = length heads in
    let r = id % size in
    let within : r < size = mod-lt id h.some in
    let long : length (set heads r count) ≡ size = length-set heads r count in
    let more : length (ids ++ id ∷ []) ≡ length ids + 1 = length-append ids (id ∷ []) in
    let same = h.size in
    record {
      some = subst (λ n. 0 < n) (sym long) h.some;
      size = omega (arith, length-append earlier (get_or heads r 0 ∷ []), more, same);
      by_remainder = λ q lt. rw (long, more) (elim (cases_eq q r) [
        | inl e ↦ rw (e, get_or-set_same heads r count 0 within, is, same) (up_last size ids id)
        | inr other ↦ rw (get_or-set_other heads r q count 0 other) (up_other size q ids id (get_or heads q 0) other (h.by_remainder q (subst (λ n. q < n) long lt)))
      ]);
      before = λ i lt. rw long (elim (cases_lt i (length ids)) [
        | inl old ↦ rw (same_left size ids id i old, get_or_append_left earlier (get_or heads r 0 ∷ []) 0 i (subst (λ n. i < n) (sym same) old))
            (up_kept size (get_or ids i 0 % size) ids id i (get_or earlier i 0) (omega arith) (h.before i old))
        | inr le ↦
            let e : i ≡ length ids = omega (arith, lt, more) in
            let e' : i ≡ length earlier = omega (arith, same) in
            let here : get_or (earlier ++ get_or heads r 0 ∷ []) i 0 ≡ get_or heads r 0 = rw e' (get_or-append_seam earlier (get_or heads r 0) [] 0) in
            rw (same_last size ids id i e, here, e) (up_kept size r ids id (length ids) (get_or heads r 0) (omega arith) (h.by_remainder r within))
      ]);
    }
