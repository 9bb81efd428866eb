-- Recordings in the making, and what is wrong with them first.
use Rattle.std.proofs.Common.{◌≡◌, ℕ, zero, suc, ◌+◌, ◌<◌, ◌≤◌, Bool, true, false, List, [], ◌∷◌, ◌++◌, map, length, get_or, take, drop, refl, sym, ap, ◌∙◌, arith, append_assoc, Option, Some, None}
use Rattle.std.proofs.lemmas.List.{take_more, take_all, length-take-le, length-map, append-nil, map-append}
use Rattle.cam_types.specs.Lists.{prefixed, prefixed_after, first_answer}
use Rattle.cam_types.specs.Topology.{Topology}
use Rattle.cam_types.proofs.ListLemmas.{first_answer-append, first_answer-push}
use Rattle.recording_file.specs.declared.cap.Cap.{Cap}
use Rattle.recording_file.specs.Recorded.{Recorded}
use Rattle.camxpt_c.specs.RecordShapes.{cap_of, request_of}
use Rattle.camxpt_c.specs.Recordings.{RecordFault, Item, is_next, cap_fault, fault_at, request_fault}
use Rattle.camxpt_c.specs.declared.codes.TheConstants.{E_CAP}
use Rattle.camxpt_c.specs.declared.record_shapes.CamxptCap.{CamxptCap}
use Rattle.camxpt_c.specs.declared.record_shapes.CamxptRequest.{CamxptRequest}

-- ---- one more of a list

map_more : {X Y : Type 0} (f : X → Y) (xs : List X) (n : ℕ) (d : X) → n < length xs → map f (take (n + 1) xs) ≡ map f (take n xs) ++ f (get_or xs n d) ∷ []
map_more f xs n d lt = ap (map f) (take_more xs n d lt) ∙ map-append f (take n xs) (get_or xs n d ∷ [])

pub caps_more : (first now new : Recorded) (xs : List CamxptCap) (n : ℕ) (d : CamxptCap) → n < length xs → now ≡ record first { caps = map cap_of (take n xs) } → new ≡ record now { caps = now.caps ++ cap_of (get_or xs n d) ∷ [] } → new ≡ record first { caps = map cap_of (take (n + 1) xs) }
caps_more first now new xs n d lt so_far more =
    more ∙ ap (λ (r : Recorded). record r { caps = r.caps ++ cap_of (get_or xs n d) ∷ [] }) so_far ∙ ap (λ cs. record first { caps = cs }) (sym (map_more cap_of xs n d lt))

pub caps_all : (first now : Recorded) (xs : List CamxptCap) (n : ℕ) → length xs ≤ n → now ≡ record first { caps = map cap_of (take n xs) } → now ≡ record first { caps = map cap_of xs }
caps_all first now xs n le so_far = so_far ∙ ap (λ ys. record first { caps = map cap_of ys }) (take_all n xs le)

pub requests_more : (first now new : Recorded) (xs : List CamxptRequest) (n : ℕ) (d : CamxptRequest) → n < length xs → now ≡ record first { requests = map request_of (take n xs) } → new ≡ record now { requests = now.requests ++ request_of (get_or xs n d) ∷ [] } → new ≡ record first { requests = map request_of (take (n + 1) xs) }
requests_more first now new xs n d lt so_far more =
    more ∙ ap (λ (r : Recorded). record r { requests = r.requests ++ request_of (get_or xs n d) ∷ [] }) so_far ∙ ap (λ qs. record first { requests = qs }) (sym (map_more request_of xs n d lt))

pub requests_all : (first now : Recorded) (xs : List CamxptRequest) (n : ℕ) → length xs ≤ n → now ≡ record first { requests = map request_of (take n xs) } → now ≡ record first { requests = map request_of xs }
requests_all first now xs n le so_far = so_far ∙ ap (λ ys. record first { requests = map request_of ys }) (take_all n xs le)

-- ---- the first answer

prefixed-append : {X : Type 0} (before xs ys : List X) → prefixed_after before (xs ++ ys) ≡ prefixed_after before xs ++ prefixed_after (before ++ xs) ys
prefixed-append before [] ys = ap (λ b. prefixed_after b ys) (sym (append-nil before))
prefixed-append before (x ∷ xs) ys = ap (λ ms. (before, x) ∷ ms) (prefixed-append (before ++ x ∷ []) xs ys ∙ rw append_assoc refl)

-- the first answer is that of an element where none before it has one
answer_here : {X F : Type 0} (f : List X × X → Option F) (before : List X) (x : X) (rest : List X) (e : F) → first_answer f (prefixed before) ≡ None → f (before, x) ≡ Some e → first_answer f (prefixed (before ++ x ∷ rest)) ≡ Some e
answer_here f before x rest e none here = ap (first_answer f) (prefixed-append [] before (x ∷ rest)) ∙ first_answer-append f (prefixed before) (prefixed_after before (x ∷ rest)) ∙ rw (none, here) refl

-- a list in front of one of its elements, that element, and the rest
parts_at : {X : Type 0} (xs : List X) (n : ℕ) (d : X) → n < length xs → xs ≡ take n xs ++ get_or xs n d ∷ drop (suc n) xs
parts_at [] n d lt = absurd (omega arith)
parts_at (x ∷ xs) zero d lt = refl
parts_at (x ∷ xs) (suc n) d lt = ap (λ ys. x ∷ ys) (parts_at xs n d (omega arith))

fault_here : {X F : Type 0} (f : List X × X → Option F) (xs : List X) (n : ℕ) (d : X) (e : F) → n < length xs → first_answer f (prefixed (take n xs)) ≡ None → f (take n xs, get_or xs n d) ≡ Some e → first_answer f (prefixed xs) ≡ Some e
fault_here f xs n d e lt none here = ap (λ ys. first_answer f (prefixed ys)) (parts_at xs n d lt) ∙ answer_here f (take n xs) (get_or xs n d) (drop (suc n) xs) e none here

no_fault_more : {X F : Type 0} (f : List X × X → Option F) (xs : List X) (n : ℕ) (d : X) → n < length xs → first_answer f (prefixed (take n xs)) ≡ None → f (take n xs, get_or xs n d) ≡ None → first_answer f (prefixed (take (n + 1) xs)) ≡ None
no_fault_more f xs n d lt none here = ap (λ ys. first_answer f (prefixed ys)) (take_more xs n d lt) ∙ first_answer-push f (take n xs) (get_or xs n d) none here

pub no_fault_all : {X F : Type 0} (f : List X × X → Option F) (xs : List X) (n : ℕ) → length xs ≤ n → first_answer f (prefixed (take n xs)) ≡ None → first_answer f (prefixed xs) ≡ None
no_fault_all f xs n le none = ap (λ ys. first_answer f (prefixed ys)) (sym (take_all n xs le)) ∙ none

-- ---- caps

wrong_cap : (rounds : ℕ) (c : Topology) (xs : List CamxptCap) (n : ℕ) (x : CamxptCap) → n < length xs → is_next rounds c (map cap_of (take n xs)) x ≡ false → cap_fault rounds c (take n xs, x) ≡ Some (Item E_CAP n)
unfolding cap_fault
wrong_cap rounds c xs n x lt bad = let many = length-take-le n xs (omega arith) in rw (bad, many) refl

right_cap : (rounds : ℕ) (c : Topology) (before : List CamxptCap) (x : CamxptCap) → is_next rounds c (map cap_of before) x ≡ true → cap_fault rounds c (before, x) ≡ None
unfolding cap_fault
right_cap rounds c before x good = rw good refl

pub cap_wrong : (first now : Recorded) (xs : List CamxptCap) (n : ℕ) (d : CamxptCap) (e : RecordFault) → n < length xs → now ≡ record first { caps = map cap_of (take n xs) } → first_answer (cap_fault first.rounds first.config) (prefixed (take n xs)) ≡ None → is_next now.rounds now.config now.caps (get_or xs n d) ≡ false → e ≡ Item E_CAP n
    → first_answer (cap_fault first.rounds first.config) (prefixed xs) ≡ Some e
cap_wrong first now xs n d e lt so_far none bad is =
    fault_here (cap_fault first.rounds first.config) xs n d e lt none (wrong_cap first.rounds first.config xs n (get_or xs n d) lt (rw so_far at bad) ∙ ap Some (sym is))

pub cap_right : (first now : Recorded) (xs : List CamxptCap) (n : ℕ) (d : CamxptCap) → n < length xs → now ≡ record first { caps = map cap_of (take n xs) } → first_answer (cap_fault first.rounds first.config) (prefixed (take n xs)) ≡ None → is_next now.rounds now.config now.caps (get_or xs n d) ≡ true
    → first_answer (cap_fault first.rounds first.config) (prefixed (take (n + 1) xs)) ≡ None
cap_right first now xs n d lt so_far none good =
    no_fault_more (cap_fault first.rounds first.config) xs n d lt none (right_cap first.rounds first.config (take n xs) (get_or xs n d) (rw so_far at good))

-- ---- requests

answer_at : (completions : Bool) (rounds : ℕ) (c : Topology) (caps : List Cap) (xs : List CamxptRequest) (n : ℕ) (x : CamxptRequest) (answer : Option RecordFault) → n < length xs → fault_at n completions rounds c caps (map request_of (take n xs), request_of x) ≡ answer → request_fault completions rounds c caps (take n xs, x) ≡ answer
unfolding request_fault
answer_at completions rounds c caps xs n x answer lt why = let many = length-take-le n xs (omega arith) in rw many why

pub request_wrong : (first now : Recorded) (xs : List CamxptRequest) (n : ℕ) (d : CamxptRequest) (e : RecordFault) → n < length xs → now ≡ record first { requests = map request_of (take n xs) } → first_answer (request_fault first.completions first.rounds first.config first.caps) (prefixed (take n xs)) ≡ None
    → fault_at n now.completions now.rounds now.config now.caps (now.requests, request_of (get_or xs n d)) ≡ Some e → first_answer (request_fault first.completions first.rounds first.config first.caps) (prefixed xs) ≡ Some e
request_wrong first now xs n d e lt so_far none bad =
    fault_here (request_fault first.completions first.rounds first.config first.caps) xs n d e lt none (answer_at first.completions first.rounds first.config first.caps xs n (get_or xs n d) (Some e) lt (rw so_far at bad))

pub request_right : (first now : Recorded) (xs : List CamxptRequest) (n : ℕ) (d : CamxptRequest) → n < length xs → now ≡ record first { requests = map request_of (take n xs) } → first_answer (request_fault first.completions first.rounds first.config first.caps) (prefixed (take n xs)) ≡ None
    → fault_at n now.completions now.rounds now.config now.caps (now.requests, request_of (get_or xs n d)) ≡ None → first_answer (request_fault first.completions first.rounds first.config first.caps) (prefixed (take (n + 1) xs)) ≡ None
request_right first now xs n d lt so_far none good =
    no_fault_more (request_fault first.completions first.rounds first.config first.caps) xs n d lt none (answer_at first.completions first.rounds first.config first.caps xs n (get_or xs n d) None lt (rw so_far at good))

-- there is room for one request more
pub request_few : (first now : Recorded) (xs : List CamxptRequest) (n most : ℕ) → n < length xs → length xs ≤ most → now ≡ record first { requests = map request_of (take n xs) } → length now.requests < most
request_few first now xs n most lt few so_far =
    let many : length (map request_of (take n xs)) ≡ n = length-map (take n xs) request_of ∙ length-take-le n xs (omega arith) in
    rw so_far (omega arith)
