-- what requests waited before their window
use Rattle.std.proofs.Common.{◌≡◌, ℕ, ◌+◌, ◌-◌, ◌*◌, ◌<◌, ◌≤◌, Bool, true, false, cond, List, [], ◌∷◌, length, filter, take, get_or, sum_by, refl, sym, ap, ◌∙◌, arith, nat_lt}
use Rattle.std.proofs.lemmas.Bool.{lt-ltb, le-ltb}
use Rattle.std.proofs.lemmas.List.Elements.{filter_more}
use Rattle.std.proofs.lemmas.List.Sums.{sum_by-append}
use Rattle.cam_types.specs.Topology.{Topology}
use Rattle.cam_types.specs.Questions.{weight}
use Rattle.recording_file.specs.declared.request.Request.{Request}

-- that of so many requests
abbrev pub carried_by_requests : ℕ → Topology → List Request → ℕ
carried_by_requests c t qs = sum_by (λ (q : Request). weight t q.priority * (c + 1 - q.arrival)) (filter (λ (q : Request). nat_lt c q.sent) qs)

-- one request more
pub carried_more : (c : ℕ) (t : Topology) (qs : List Request) (n : ℕ) (d : Request) → n < length qs
    → carried_by_requests c t (take (n + 1) qs) ≡ carried_by_requests c t (take n qs) + cond (nat_lt c (get_or qs n d).sent) (weight t (get_or qs n d).priority * (c + 1 - (get_or qs n d).arrival)) 0
carried_more c t qs n d lt =
    let worth : Request → ℕ = λ q. weight t q.priority * (c + 1 - q.arrival) in
    let late : Request → Bool = λ q. nat_lt c q.sent in
    let q : Request = get_or qs n d in
    ap (sum_by worth) (filter_more late qs n d lt) ∙ sum_by-append worth (filter late (take n qs)) (cond (late q) (q ∷ []) [])
    ∙ ap (λ k. carried_by_requests c t (take n qs) + k) (elim (late q) as (λ b. sum_by worth (cond b (q ∷ []) []) ≡ cond b (worth q) 0) [ true ↦ omega arith | false ↦ refl ])

pub carried_yes : (c : ℕ) (t : Topology) (qs : List Request) (n : ℕ) (d : Request) → n < length qs → c < (get_or qs n d).sent
    → carried_by_requests c t (take n qs) + weight t (get_or qs n d).priority * (c + 1 - (get_or qs n d).arrival) ≡ carried_by_requests c t (take (n + 1) qs)
carried_yes c t qs n d lt late = let more = carried_more c t qs n d lt in sym (rw (lt-ltb _ _ late) at more)

pub carried_no : (c : ℕ) (t : Topology) (qs : List Request) (n : ℕ) (d : Request) → n < length qs → (get_or qs n d).sent ≤ c → carried_by_requests c t (take n qs) ≡ carried_by_requests c t (take (n + 1) qs)
carried_no c t qs n d lt soon = let more = rw (le-ltb _ _ soon) at (carried_more c t qs n d lt) in omega arith
