-- Requests that are started in other rounds.
use Rattle.std.proofs.Common.{◌≡◌, ℕ, zero, suc, ◌+◌, ◌-◌, ◌<◌, ◌≤◌, Bool, true, min, nat_le, List, [], ◌∷◌, ◌++◌, length, take, get_or, slice_index, map, Option, Some, None, refl, ap, ◌∙◌, arith, append_assoc}
use Rattle.std.specs.List.{AllByRecursion, list_all}
use Rattle.std.proofs.lemmas.Bool.{and_from, and_parts, le-leb}
use Rattle.std.proofs.lemmas.List.{append-nil, map-append, length-map, length-take, take_more}
use Rattle.cam_types.specs.Lists.{prefixed_after, prefixed}
use Rattle.cam_types.proofs.ListLemmas.{prefixed-push}
use Rattle.recording_file.specs.Recorded.{is_done_right}
use Rattle.recording_file.specs.declared.request.Request.{Request}
use Rattle.conversions.specs.Rescheduled.{moved_to, moved}

-- what holds of each element beside those before it holds of the one at a place
list_all-prefixed_after : {X : Type 0} (p : List X × X → Bool) (before xs : List X) (n : ℕ) (d : X) → list_all p (prefixed_after before xs) ≡ true → n < length xs → p (before ++ take n xs, get_or xs n d) ≡ true
list_all-prefixed_after p before [] n d all less = absurd (omega arith)
list_all-prefixed_after p before (x ∷ xs) zero d all less = rw (append-nil before) (and_parts (p (before, x)) _ all).0
list_all-prefixed_after p before (x ∷ xs) (suc n) d all less = rw append_assoc at (list_all-prefixed_after p (before ++ x ∷ []) xs n d (and_parts (p (before, x)) _ all).1 (omega arith))

pub list_all-prefixed : {X : Type 0} (p : List X × X → Bool) (xs : List X) (n : ℕ) (d : X) → list_all p (prefixed xs) ≡ true → n < length xs → p (take n xs, get_or xs n d) ≡ true
list_all-prefixed p xs n d all less = list_all-prefixed_after p [] xs n d all less

pub moved-long : (rounds : List ℕ) (qs : List Request) (n : ℕ) → length (moved rounds (take n qs)) ≤ length (take n qs)
moved-long rounds qs n = omega (arith, length-map (prefixed (take n qs)) (λ (m : List Request × Request). moved_to m.1 (slice_index rounds (length m.0))), length-prefixed [] (take n qs))
  where
    length-prefixed : {X : Type 0} (before xs : List X) → length (prefixed_after before xs) ≡ length xs
    length-prefixed before [] = refl
    length-prefixed before (x ∷ xs) = ap suc (length-prefixed (before ++ x ∷ []) xs)

-- what holds of each element holds of the one at a place
pub AllByRecursion-at : {X : Type 0} (P : X → Type 0) (xs : List X) (n : ℕ) (d : X) → AllByRecursion P xs → n < length xs → P (get_or xs n d)
AllByRecursion-at P [] n d all less = absurd (omega arith)
AllByRecursion-at P (x ∷ xs) zero d all less = all.0
AllByRecursion-at P (x ∷ xs) (suc n) d all less = AllByRecursion-at P xs n d all.1 (omega arith)

-- one request more
pub moved-more : (rounds : List ℕ) (qs : List Request) (n : ℕ) (d : Request) → n < length qs → moved rounds (take (n + 1) qs) ≡ moved rounds (take n qs) ++ moved_to (get_or qs n d) (slice_index rounds n) ∷ []
moved-more rounds qs n d less =
    let go : List Request × Request → Request = λ m. moved_to m.1 (slice_index rounds (length m.0)) in
    let q : Request = get_or qs n d in
    let many : length (take n qs) ≡ n = omega (arith, length-take n qs) in
    ap (moved rounds) (take_more qs n d less) ∙ ap (map go) (prefixed-push (take n qs) q) ∙ map-append go (prefixed (take n qs)) ((take n qs, q) ∷ []) ∙ ap (λ (k : ℕ). moved rounds (take n qs) ++ moved_to q (slice_index rounds k) ∷ []) many

-- a completion that was right is right after another start
pub moved-right : (completions : Bool) (q : Request) (round : ℕ) → round ≤ 4294967295 → is_done_right completions q ≡ true → is_done_right completions (moved_to q round) ≡ true
moved-right completions q round fits right = go q.done right
  where
    go : (o : Option ℕ) → is_done_right completions (record q { done = o }) ≡ true → is_done_right completions (moved_to (record q { done = o }) round) ≡ true
    go None h = refl
    go (Some done) h =
        let parts = and_parts completions (nat_le q.sent done) h in
        and_from completions (nat_le round (min (round + (done - q.sent)) 4294967295)) parts.0 (le-leb round (min (round + (done - q.sent)) 4294967295) (omega arith))
