-- devices, adapters and links in their order
use Rattle.std.proofs.Common.{◌≡◌, ℕ, zero, suc, ◌+◌, ◌<◌, ◌==◌, true, List, [], ◌∷◌, ◌++◌, length, map, take, get_or, refl, ap, sym, ◌∙◌, append_assoc, arith, All, nat_lt}
use Rattle.std.specs.List.{range_with_len}
use Rattle.std.proofs.lemmas.Bool.{and_parts, and_from, or_right, eq-eqb, eqb-true, lt-ltb}
use Rattle.std.proofs.lemmas.List.{map-append}
use Rattle.std.proofs.lemmas.List.Elements.{All-nil, All-cons, All-head, All-tail, All-append, All-map}
use Rattle.cam_types.specs.Topology.{Topology}
use Rattle.cam_types.specs.declared.adapter.Adapter.{Adapter}
use Rattle.cam_types.specs.declared.device.Device.{Device}
use Rattle.recording_file.specs.Caps.{part_of, part_rank, part_count, is_same_part, is_part_before}
use Rattle.recording_file.specs.Counts.{counts_of}
use Rattle.recording_file.specs.declared.part.PartKind.TheVariants as kind
use Rattle.recording_file.specs.declared.part.Part.{Part}
use Rattle.recording_file.specs.declared.part.PartKind.{PartKind}
use Rattle.recording_file.proofs.ListLemmas.{each_of_map, each_of_range, all_of_range, range_more}
use Rattle.capture.specs.Parts.{parts_of_kind, all_parts}

-- one of a kind more
pub kind_more : (k : PartKind) (n : ℕ) (before now new : List Part) → now ≡ before ++ parts_of_kind k n → new ≡ now ++ part_of k n ∷ [] → new ≡ before ++ parts_of_kind k (n + 1)
kind_more k n before now new so_far more =
    let next : parts_of_kind k (n + 1) ≡ parts_of_kind k n ++ part_of k n ∷ [] = ap (map (part_of k)) (range_more 0 n) ∙ map-append (part_of k) (range_with_len 0 n) ((0 + n) ∷ []) ∙ ap (λ i. parts_of_kind k n ++ part_of k i ∷ []) (omega arith) in
    more ∙ ap (λ ps. ps ++ part_of k n ∷ []) so_far ∙ append_assoc before (parts_of_kind k n) (part_of k n ∷ []) ∙ ap (λ ps. before ++ ps) (sym next)

-- all devices, then all adapters, then all links
pub parts_joined : (c : Topology) (devices : List Device) (adapters : List Adapter) (links : List ℕ) (none first second third : List Part) → devices ≡ c.devices → adapters ≡ c.adapters → links ≡ c.links → none ≡ [] → first ≡ none ++ parts_of_kind kind.Device (length devices) → second ≡ first ++ parts_of_kind kind.Adapter (length adapters) → third ≡ second ++ parts_of_kind kind.Link (length links) → third ≡ all_parts c
unfolding all_parts
parts_joined c devices adapters links none first second third ds as' ls empty one two three =
    three ∙ rw (two, one, empty, ds, as', ls) (append_assoc (parts_of_kind kind.Device (length c.devices)) (parts_of_kind kind.Adapter (length c.adapters)) (parts_of_kind kind.Link (length c.links)))

-- ---- what holds of all parts

all_of_kind : (P : Part → Type 0) (k : PartKind) (n : ℕ) → ((i : ℕ) → i < n → P (part_of k i)) → All P (parts_of_kind k n)
all_of_kind P k n h = All-map P (part_of k) (range_with_len 0 n) (all_of_range (λ i. P (part_of k i)) 0 n (λ i low high. h i (omega arith)))

each_of_kind : (P : Part → Type 0) (k : PartKind) (n : ℕ) → All P (parts_of_kind k n) → (i : ℕ) → i < n → P (part_of k i)
each_of_kind P k n h i lt = each_of_range (λ j. P (part_of k j)) 0 n (each_of_map P (part_of k) (range_with_len 0 n) h) i (omega arith) (omega arith)

split_all : {X : Type 0} (P : X → Type 0) (xs ys : List X) → All P (xs ++ ys) → All P xs × All P ys
split_all P [] ys h = (All-nil P, h)
split_all P (x ∷ xs) ys h =
    let rest = split_all P xs ys (All-tail P x (xs ++ ys) h) in
    (All-cons P x xs (All-head P x (xs ++ ys) h) rest.0, rest.1)

-- there is such a device, adapter or link
abbrev pub IsThere : Topology → Part → Type 0
IsThere c p = p.number < part_count (counts_of c) p.kind

pub parts_there : (c : Topology) → All (IsThere c) (all_parts c)
unfolding all_parts
parts_there c =
    All-append (IsThere c) (parts_of_kind kind.Device (length c.devices)) (parts_of_kind kind.Adapter (length c.adapters) ++ parts_of_kind kind.Link (length c.links)) (all_of_kind (IsThere c) kind.Device (length c.devices) (λ i lt. lt))
    (All-append (IsThere c) (parts_of_kind kind.Adapter (length c.adapters)) (parts_of_kind kind.Link (length c.links)) (all_of_kind (IsThere c) kind.Adapter (length c.adapters) (λ i lt. lt)) (all_of_kind (IsThere c) kind.Link (length c.links) (λ i lt. lt)))

pub at_part : (c : Topology) (P : Part → Type 0) → All P (all_parts c) → (k : PartKind) (n : ℕ) → IsThere c (part_of k n) → P (part_of k n)
unfolding all_parts
at_part c P h k n there =
    let first = split_all P (parts_of_kind kind.Device (length c.devices)) (parts_of_kind kind.Adapter (length c.adapters) ++ parts_of_kind kind.Link (length c.links)) h in
    let second = split_all P (parts_of_kind kind.Adapter (length c.adapters)) (parts_of_kind kind.Link (length c.links)) first.1 in
    by k first.0 second.0 second.1 there
  where
    by : (k : PartKind) → All P (parts_of_kind kind.Device (length c.devices)) → All P (parts_of_kind kind.Adapter (length c.adapters)) → All P (parts_of_kind kind.Link (length c.links)) → IsThere c (part_of k n) → P (part_of k n)
    by kind.Device d a l lt = each_of_kind P kind.Device (length c.devices) d n lt
    by kind.Adapter d a l lt = each_of_kind P kind.Adapter (length c.adapters) a n lt
    by kind.Link d a l lt = each_of_kind P kind.Link (length c.links) l n lt

-- ---- their order

abbrev pub IsEarlier : Part → Part → Type 0
IsEarlier p a = is_part_before a p ≡ true

-- each part comes before those behind it
data IsRising : List Part → Type 0 where
  NoPart : IsRising []
  PartThen : (p : Part) (ps : List Part) → All (λ q. IsEarlier q p) ps → IsRising ps → IsRising (p ∷ ps)

rising_append : (ps qs : List Part) → IsRising ps → IsRising qs → All (λ p. All (λ q. IsEarlier q p) qs) ps → IsRising (ps ++ qs)
rising_append [] qs up more h = more
rising_append (p ∷ ps) qs (PartThen _ _ first rest) more h =
    PartThen p (ps ++ qs) (All-append (λ q. IsEarlier q p) ps qs first (All-head (λ a. All (λ q. IsEarlier q a) qs) p ps h)) (rising_append ps qs rest more (All-tail (λ a. All (λ q. IsEarlier q a) qs) p ps h))

rising_range : (k : PartKind) (a n : ℕ) → IsRising (map (part_of k) (range_with_len a n))
rising_range k a zero = NoPart
rising_range k a (suc n) =
    PartThen (part_of k a) (map (part_of k) (range_with_len (a + 1) n))
    (All-map (λ q. IsEarlier q (part_of k a)) (part_of k) (range_with_len (a + 1) n) (all_of_range (λ i. IsEarlier (part_of k i) (part_of k a)) (a + 1) n (λ i low high. or_right (nat_lt (part_rank k) (part_rank k)) _ (and_from _ _ (eq-eqb (part_rank k) (part_rank k) refl) (lt-ltb a i (omega arith))))))
    (rising_range k (a + 1) n)

rising : (c : Topology) → IsRising (all_parts c)
unfolding all_parts
rising c =
    let d : ℕ = length c.devices in
    let a : ℕ = length c.adapters in
    let l : ℕ = length c.links in
    let adapters : List Part = parts_of_kind kind.Adapter a in
    let links : List Part = parts_of_kind kind.Link l in
    rising_append (parts_of_kind kind.Device d) (adapters ++ links) (rising_range kind.Device 0 d)
    (rising_append adapters links (rising_range kind.Adapter 0 a) (rising_range kind.Link 0 l) (all_of_kind (λ p. All (λ q. IsEarlier q p) links) kind.Adapter a (λ i lt. all_of_kind (λ q. IsEarlier q (part_of kind.Adapter i)) kind.Link l (λ j lt'. refl))))
    (all_of_kind (λ p. All (λ q. IsEarlier q p) (adapters ++ links)) kind.Device d (λ i lt. All-append (λ q. IsEarlier q (part_of kind.Device i)) adapters links (all_of_kind (λ q. IsEarlier q (part_of kind.Device i)) kind.Adapter a (λ j lt'. refl)) (all_of_kind (λ q. IsEarlier q (part_of kind.Device i)) kind.Link l (λ j lt'. refl))))

rising_at : (ps : List Part) (n : ℕ) (d : Part) → IsRising ps → n < length ps → All (IsEarlier (get_or ps n d)) (take n ps)
rising_at [] n d up lt = absurd (omega arith)
rising_at (p ∷ ps) zero d up lt = All-nil (IsEarlier p)
rising_at (p ∷ ps) (suc n) d (PartThen _ _ first rest) lt = All-cons (IsEarlier (get_or ps n d)) p (take n ps) (first n d (omega arith)) (rising_at ps n d rest (omega arith))

pub earlier_parts : (c : Topology) (n : ℕ) (d : Part) → n < length (all_parts c) → All (IsEarlier (get_or (all_parts c) n d)) (take n (all_parts c))
earlier_parts c n d lt = rising_at (all_parts c) n d (rising c) lt

-- ---- one part

kinds_same : (j k : PartKind) → (part_rank j == part_rank k) ≡ true → j ≡ k
kinds_same kind.Device kind.Device e = refl
kinds_same kind.Device kind.Adapter e = absurd cc
kinds_same kind.Device kind.Link e = absurd cc
kinds_same kind.Adapter kind.Device e = absurd cc
kinds_same kind.Adapter kind.Adapter e = refl
kinds_same kind.Adapter kind.Link e = absurd cc
kinds_same kind.Link kind.Device e = absurd cc
kinds_same kind.Link kind.Adapter e = absurd cc
kinds_same kind.Link kind.Link e = refl

pub same_part_is : (a p : Part) → is_same_part a p ≡ true → a ≡ p
same_part_is a p e =
    let parts = and_parts (part_rank a.kind == part_rank p.kind) (a.number == p.number) e in
    ap (λ k. part_of k a.number) (kinds_same a.kind p.kind parts.0) ∙ ap (part_of p.kind) (eqb-true a.number p.number parts.1)
