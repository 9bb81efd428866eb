-- events added one by one
use Rattle.std.proofs.Common.{◌≡◌, ℕ, ◌+◌, ◌<◌, ◌≤◌, List, [], ◌∷◌, ◌++◌, length, take, sym, ap, ◌∙◌, append_assoc, zero-add, Option, slice_index_or, option_to_list, filter_map}
use Rattle.std.specs.List.{range_with_len}
use Rattle.std.proofs.lemmas.List.{take_more, take_all}
use Rattle.cam_types.specs.Questions.{devices}
use Rattle.cam_types.specs.Topology.{Topology}
use Rattle.event_rules.specs.declared.event.Event.{Event}
use Rattle.event_rules.specs.declared.event.Event.TheVariants.{Tick}
use Rattle.event_rules.specs.declared.passage.Passage.{Passage}
use Rattle.event_rules.proofs.ListFacts.{filter_map-push, range_with_len-push}
use Rattle.xpt_core.specs.Known.{adapters}
use Rattle.xpt_carry.specs.Carry.{adjust_of, device_freeze, adapter_freeze, submit_of, carried, carrying}

-- what is found in one number more
pub range_more : {Y : Type 0} (f : ℕ → Option Y) (start items next : List Y) (n : ℕ) (o : Option Y) → items ≡ start ++ filter_map f (range_with_len 0 n) → o ≡ f n → next ≡ items ++ option_to_list o →
    next ≡ start ++ filter_map f (range_with_len 0 (n + 1))
range_more f start items next n o so_far here is =
    let all : filter_map f (range_with_len 0 (n + 1)) ≡ filter_map f (range_with_len 0 n) ++ option_to_list (f n) =
    ap (filter_map f) (range_with_len-push 0 n) ∙ filter_map-push f (range_with_len 0 n) (0 + n)
    ∙ ap (λ k. filter_map f (range_with_len 0 n) ++ option_to_list (f k)) (zero-add n) in
    is ∙ ap (λ ys. ys ++ option_to_list o) so_far ∙ ap (λ x. (start ++ filter_map f (range_with_len 0 n)) ++ option_to_list x) here
    ∙ append_assoc start (filter_map f (range_with_len 0 n)) (option_to_list (f n)) ∙ ap (λ ys. start ++ ys) (sym all)

-- the same in one element more of a list
pub list_more : {X Y : Type 0} (f : X → Option Y) (start items next : List Y) (xs : List X) (i : ℕ) (x : X) (o : Option Y) → items ≡ start ++ filter_map f (take i xs) → i < length xs → x ≡ slice_index_or xs i x →
    o ≡ f x → next ≡ items ++ option_to_list o → next ≡ start ++ filter_map f (take (i + 1) xs)
list_more f start items next xs i x o so_far lt item here is =
    let more : take i xs ++ x ∷ [] ≡ take (i + 1) xs = ap (λ y. take i xs ++ y ∷ []) item ∙ sym (take_more xs i x lt) in
    let all : filter_map f (take (i + 1) xs) ≡ filter_map f (take i xs) ++ option_to_list (f x) = ap (filter_map f) (sym more) ∙ filter_map-push f (take i xs) x in
    is ∙ ap (λ ys. ys ++ option_to_list o) so_far ∙ ap (λ y. (start ++ filter_map f (take i xs)) ++ option_to_list y) here
    ∙ append_assoc start (filter_map f (take i xs)) (option_to_list (f x)) ∙ ap (λ ys. start ++ ys) (sym all)

pub list_all_done : {X Y : Type 0} (f : X → Option Y) (start items : List Y) (xs : List X) (i : ℕ) → items ≡ start ++ filter_map f (take i xs) → length xs ≤ i → items ≡ start ++ filter_map f xs
list_all_done f start items xs i so_far end = so_far ∙ ap (λ ys. start ++ filter_map f ys) (take_all i xs end)

-- all kinds of events one after another
pub all_parts : (c : Topology) (es start b d s all : List Event) (ps : List Passage) → start ≡ [] → b ≡ start ++ filter_map (adjust_of c es) (devices c) ++ Tick ∷ [] →
    d ≡ b ++ filter_map (device_freeze es) (devices c) → s ≡ d ++ filter_map (adapter_freeze es) (adapters c) → all ≡ s ++ filter_map (submit_of es) ps → ps ≡ carried es → all ≡ carrying c es
unfolding carrying
all_parts c es start b d s all ps none two three four five same =
    five ∙ ap (λ xs. s ++ filter_map (submit_of es) xs) same
    ∙ ap (λ xs. xs ++ filter_map (submit_of es) (carried es)) (
    four ∙ ap (λ xs. xs ++ filter_map (adapter_freeze es) (adapters c)) (
    three ∙ ap (λ xs. xs ++ filter_map (device_freeze es) (devices c)) (
    two ∙ ap (λ xs. xs ++ filter_map (adjust_of c es) (devices c) ++ Tick ∷ []) none)))
