-- the CCBs of a transport that goes on
use Rattle.std.proofs.Common.{◌≡◌, ℕ, ◌+◌, ◌-◌, List, [], ◌∷◌, ◌++◌, length, map, refl, sym, ap, ◌∙◌, arith, append_assoc, length-append, Option, Some, None, slice_get, filter_map, option_map}
use Rattle.std.specs.List.{range_with_len}
use Rattle.std.proofs.lemmas.List.{length-map}
use Rattle.std.proofs.lemmas.List.Elements.{filter_map-append}
use Rattle.cam_types.specs.Topology.{Topology}
use Rattle.event_rules.specs.Counts.{ccbs, commands, submission, submissions, counted_requeues}
use Rattle.event_rules.specs.Event.{submission_of}
use Rattle.xpt_carry.specs.Carry.{left_of, submit, carried, carrying}
use Rattle.xpt_carry.specs.Laws.{left_of_stays}
use Rattle.xpt_carry.proofs.IdleLemmas.{front, carrying_is, plain_front, idle_carrying, no_submissions, none_counted}
use Rattle.xpt_carry.proofs.AnewLemmas.{lefts, submits-lefts, submissions-submits, some-lefts, all_own}
use Rattle.event_rules.specs.declared.submission.Submission.{Submission}
use Rattle.event_rules.specs.declared.event.Event.{Event}
use Rattle.event_rules.specs.declared.passage.Passage.{Passage}

-- the elements of a list by their numbers
seam : {X : Type 0} (ys : List X) (x : X) (xs : List X) → slice_get (ys ++ x ∷ xs) (length ys) ≡ Some x
seam [] x xs = refl
seam (y ∷ ys) x xs = seam ys x xs

each_from : {X : Type 0} (xs ys : List X) → map (λ k. slice_get (ys ++ xs) k) (range_with_len (length ys) (length xs)) ≡ map Some xs
each_from [] ys = refl
each_from (x ∷ xs) ys =
    let long : length (ys ++ x ∷ []) ≡ length ys + 1 = omega (arith, length-append ys (x ∷ [])) in
    let rest : map (λ k. slice_get (ys ++ x ∷ xs) k) (range_with_len (length ys + 1) (length xs)) ≡ map Some xs =
    ap (λ n. map (λ k. slice_get (ys ++ x ∷ xs) k) (range_with_len n (length xs))) (sym long)
    ∙ ap (λ zs. map (λ k. slice_get zs k) (range_with_len (length (ys ++ x ∷ [])) (length xs))) (sym (append_assoc ys (x ∷ []) xs))
    ∙ each_from xs (ys ++ x ∷ []) in
    ap (λ o. o ∷ map (λ k. slice_get (ys ++ x ∷ xs) k) (range_with_len (length ys + 1) (length xs))) (seam ys x xs) ∙ ap (λ os. Some x ∷ os) rest

map_agree : {X Y : Type 0} (f g : X → Y) → ((x : X) → f x ≡ g x) → (xs : List X) → map f xs ≡ map g xs
map_agree f g h [] = refl
map_agree f g h (x ∷ xs) = ap (λ y. y ∷ map f xs) (h x) ∙ ap (λ ys. g x ∷ ys) (map_agree f g h xs)

same_left : (o : Option Submission) (n : ℕ) → n ≡ 0 → option_map (λ (s : Submission). record s { retries = s.retries - n }) o ≡ o
same_left None n none = refl
same_left (Some s) n none = let all : s.retries - n ≡ s.retries = omega arith in rw all refl

module _ (c : Topology) (es : List Event) where
  pub fresh_is : carrying c es ≡ front c es ++ map submit (lefts es (carried es))
  fresh_is = carrying_is c es ∙ ap (λ xs. front c es ++ xs) (submits-lefts es (carried es))

  pub fresh_submissions : submissions (carrying c es) ≡ lefts es (carried es)
  unfolding submissions
  fresh_submissions =
      ap (filter_map submission_of) fresh_is ∙ filter_map-append submission_of (front c es) (map submit (lefts es (carried es)))
      ∙ ap (λ xs. xs ++ filter_map submission_of (map submit (lefts es (carried es)))) (no_submissions (front c es) (plain_front c es))
      ∙ submissions-submits (lefts es (carried es))

  pub front_commands : commands (front c es) ≡ 0
  unfolding submissions
  front_commands = ap length (no_submissions (front c es) (plain_front c es))

  -- what is left of each is what was submitted
  fresh_left : (k : ℕ) → left_of (carrying c es) k ≡ slice_get (lefts es (carried es)) k
  unfolding left_of
  fresh_left k =
      same_left (submission (carrying c es) k) (counted_requeues (carrying c es) k) (none_counted (carrying c es) k (idle_carrying c es))
      ∙ ap (λ xs. slice_get xs k) fresh_submissions

  pub ccbs_kept : map (left_of (carrying c es)) (ccbs (carrying c es)) ≡ left_of_stays es (carried es)
  ccbs_kept =
      map_agree (left_of (carrying c es)) (λ k. slice_get (lefts es (carried es)) k) fresh_left (ccbs (carrying c es))
      ∙ ap (λ xs. map (λ k. slice_get (lefts es (carried es)) k) (range_with_len 0 (length xs))) fresh_submissions
      ∙ each_from (lefts es (carried es)) [] ∙ some-lefts es (carried es) (all_own es)

  -- there are as many as stays
  as_many : commands (carrying c es) ≡ length (carried es)
  as_many =
      let one : length (map Some (lefts es (carried es))) ≡ length (map (λ (p : Passage). left_of es p.ccb) (carried es)) = ap length (some-lefts es (carried es) (all_own es)) in
      ap length fresh_submissions ∙ sym (length-map (lefts es (carried es)) Some) ∙ one ∙ length-map (carried es) (λ (p : Passage). left_of es p.ccb)

  pub lefts_kept : map (left_of (carrying c es)) (range_with_len 0 (length (carried es))) ≡ left_of_stays es (carried es)
  lefts_kept = ap (λ n. map (left_of (carrying c es)) (range_with_len 0 n)) (sym as_many) ∙ ccbs_kept
