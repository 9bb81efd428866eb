-- the requests of a recording, one after the other
use Rattle.std.proofs.Common.{◌≡◌, ℕ, zero, suc, ◌<◌, List, [], ◌∷◌, ◌++◌, length, take, get_or, refl, sym, ap, ◌∙◌, arith, append_assoc, append-nil, None}
use Rattle.recording_file.specs.declared.request.Request.{Request}
use Rattle.cam_types.specs.Lists.{prefixed, prefixed_after}

pub prefixed_length : {X : Type 0} (before xs : List X) → length (prefixed_after before xs) ≡ length xs
prefixed_length before [] = refl
prefixed_length before (x ∷ xs) = omega (arith, prefixed_length (before ++ x ∷ []) xs)

prefixed_at : {X : Type 0} (before xs : List X) (n : ℕ) (d : X) (e : List X × X) → n < length xs → get_or (prefixed_after before xs) n e ≡ (before ++ take n xs, get_or xs n d)
prefixed_at before [] n d e lt = absurd (omega (arith, lt))
prefixed_at before (x ∷ xs) zero d e lt = ap (λ ys. (ys, x)) (sym (append-nil before))
prefixed_at before (x ∷ xs) (suc n) d e lt = prefixed_at (before ++ x ∷ []) xs n d e (omega (arith, lt)) ∙ ap (λ ys. (ys, get_or xs n d)) (append_assoc before (x ∷ []) (take n xs))

-- each request beside those before it
pub prefix_at : {X : Type 0} (xs : List X) (n : ℕ) (d : X) (e : List X × X) → n < length xs → get_or (prefixed xs) n e ≡ (take n xs, get_or xs n d)
prefix_at xs n d e lt = prefixed_at [] xs n d e lt

-- any request, as a default
abbrev pub no_request : Request
no_request = record { driver = 0; device = 0; priority = 0; arrival = 0; last = None; sent = 0; done = None }
