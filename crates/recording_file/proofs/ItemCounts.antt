-- How many names and caps a recording has at most.
use Rattle.std.proofs.Common.{◌≡◌, ◌<◌, ◌≤◌, ◌+◌, ◌-◌, ◌*◌, ℕ, List, [], ◌∷◌, ◌++◌, length, Bool, true, false, refl, ap, ◌∙◌, arith, length-append, Option, Some, None, IfSome, ◌==◌, ◌&&◌, ◌||◌, nat_lt, slice_get}
use Rattle.std.specs.Option.{option_map_or}
use Rattle.std.proofs.lemmas.Bool.{and_parts, ltb-true}
use Rattle.std.proofs.lemmas.Bool.Decides.{nat_tests}
use Rattle.recording_file.specs.Names.{NameValue, is_name, is_named_before, is_next_name, latest, name_rank, named_count, NameKind}
use Rattle.recording_file.specs.declared.name.NameKind.TheVariants as named
use Rattle.recording_file.specs.Caps.{Cap, is_cap, is_next_cap, is_over, is_part_before, is_same_part, part_count, part_rank, PartKind}
use Rattle.recording_file.specs.declared.part.PartKind.TheVariants as part
use Rattle.recording_file.specs.Counts.{Counts, counts_of}
use Rattle.recording_file.specs.Recorded.{Recorded, IsHead}
use Rattle.recording_file.specs.Room.{IsLaid, cell_of, row_by, row_of, rows_by}
use Rattle.record_text.proofs.ListLemmas.{Along, along_both, along_to, true_along}
use Rattle.recording_file.proofs.BookLaws.{counted_so}
use Rattle.recording_file.proofs.PlacingLemmas.{caps_laid, head_config}
use Rattle.recording_file.proofs.RoomLemmas.{apart, row_few}
use Rattle.recording_file.proofs.ParsedAgain.{IsCounted}

-- ---- items whose places rise

last_is : {X : Type 0} (xs : List X) (x : X) → slice_get (xs ++ x ∷ []) (length xs) ≡ Some x
last_is [] x = refl
last_is (y ∷ xs) x = last_is xs x

latest_push : {X : Type 0} (xs : List X) (x : X) → latest (xs ++ x ∷ []) ≡ Some x
latest_push xs x =
    let size = length-append xs (x ∷ []) in
    let at : length (xs ++ x ∷ []) - 1 ≡ length xs = omega arith in
    ap (slice_get (xs ++ x ∷ [])) at ∙ last_is xs x

-- the first place after the latest item's
abbrev next_place : {X : Type 0} → (X → ℕ) → Option X → ℕ
next_place at o = option_map_or (λ a. at a + 1) o 0

-- the item has what is asked of each, and then its place is below the top and after that of the latest before it
pub record Rises {X : Type 0} (Good : X → Type 0) (at : X → ℕ) (before : List X) (x : X) : Type 0 where
  pub good : Good x
  pub after : IfSome (latest before) (λ a. Good a → at a < at x)

reached : {X : Type 0} (Good : X → Type 0) (at : X → ℕ) (o : Option X) (x : X) → IfSome o Good → IfSome o (λ a. Good a → at a < at x) → next_place at o ≤ at x
reached Good at None x g h = omega arith
reached Good at (Some a) x g h = let less = h g in omega arith

-- so there are no more items than places
rising_few : {X : Type 0} (Good : X → Type 0) (at : X → ℕ) (top : ℕ) → ((x : X) → Good x → at x < top) → (before xs : List X) → IfSome (latest before) Good → next_place at (latest before) ≤ top
    → Along (Rises Good at) before xs → next_place at (latest before) + length xs ≤ top
rising_few Good at top below before [] good low h = omega arith
rising_few Good at top below before (x ∷ xs) good low h =
    let step = reached Good at (latest before) x good h.0.after in
    let is = latest_push before x in
    let less = below x h.0.good in
    let next : next_place at (latest (before ++ x ∷ [])) ≡ at x + 1 = ap (next_place at) is in
    let more = rising_few Good at top below (before ++ x ∷ []) xs (rw is h.0.good) (omega arith) h.1 in
    omega arith

-- ---- caps

rank_rows : (k l : PartKind) (n m : ℕ) → n < rows_by k → m < rows_by l → (nat_lt (part_rank k) (part_rank l) || ((part_rank k == part_rank l) && nat_lt n m)) ≡ true → row_by k n < row_by l m
rank_rows part.Device part.Device n m a b e = grind (arith, nat_tests)
rank_rows part.Device part.Adapter n m a b e = omega arith
rank_rows part.Device part.Link n m a b e = omega arith
rank_rows part.Adapter part.Device n m a b e = absurd cc
rank_rows part.Adapter part.Adapter n m a b e = grind (arith, nat_tests)
rank_rows part.Adapter part.Link n m a b e = omega arith
rank_rows part.Link part.Device n m a b e = absurd cc
rank_rows part.Link part.Adapter n m a b e = absurd cc
rank_rows part.Link part.Link n m a b e = grind (arith, nat_tests)

same_rows : (k l : PartKind) (n m : ℕ) → ((part_rank k == part_rank l) && (n == m)) ≡ true → row_by k n ≡ row_by l m
same_rows part.Device part.Device n m e = grind (arith, nat_tests)
same_rows part.Adapter part.Adapter n m e = grind (arith, nat_tests)
same_rows part.Link part.Link n m e = grind (arith, nat_tests)
same_rows part.Device part.Adapter n m e = absurd cc
same_rows part.Device part.Link n m e = absurd cc
same_rows part.Adapter part.Device n m e = absurd cc
same_rows part.Adapter part.Link n m e = absurd cc
same_rows part.Link part.Device n m e = absurd cc
same_rows part.Link part.Adapter n m e = absurd cc

-- a cap's place is that of its last round
abbrev cap_place : ℕ → Cap → ℕ
cap_place rounds cap = cell_of rounds cap.part cap.last

over_before : (rounds : ℕ) (a c : Cap) → IsLaid rounds a → IsLaid rounds c → is_over a c.part c.first ≡ true → cap_place rounds a < cap_place rounds c
over_before rounds a c h k e = by (is_part_before a.part c.part) refl
  where
    some : 1 ≤ a.last
    some = let s = h.some in let o = h.order in omega arith

    by : (b : Bool) → is_part_before a.part c.part ≡ b → cap_place rounds a < cap_place rounds c
    by true is =
        let rows = rank_rows a.part.kind c.part.kind a.part.number c.part.number h.part k.part is in
        let far = apart (row_of a.part) (row_of c.part) rounds rows in
        let l = h.last in
        let s = some in
        omega arith
    by false is =
        let both = and_parts (is_same_part a.part c.part) (nat_lt a.last c.first) (rw is at e) in
        let rows = same_rows a.part.kind c.part.kind a.part.number c.part.number both.0 in
        let less = ltb-true _ _ both.1 in
        let o = k.order in
        let s = some in
        let same : row_of a.part * rounds ≡ row_of c.part * rounds = ap (λ (x : ℕ). x * rounds) rows in
        omega arith

cap_below : (rounds : ℕ) (c : Cap) → IsLaid rounds c → cap_place rounds c < 44 * rounds
cap_below rounds c h =
    let far = apart (row_of c.part) 44 rounds (row_few c.part.kind c.part.number h.part) in
    let l = h.last in
    let s = h.some in
    let o = h.order in
    omega arith

after_cap : (rounds : ℕ) (o : Option Cap) (c : Cap) → IsLaid rounds c → option_map_or (λ (a : Cap). is_over a c.part c.first) o true ≡ true → IfSome o (λ (a : Cap). IsLaid rounds a → cap_place rounds a < cap_place rounds c)
after_cap rounds None c h e = tt
after_cap rounds (Some a) c h e = λ k. over_before rounds a c k h e

cap_rises : (rounds : ℕ) (counts : Counts) (before : List Cap) (c : Cap) → is_cap rounds counts (before, c) ≡ true → IsLaid rounds c → Rises (IsLaid rounds) (cap_place rounds) before c
unfolding is_cap
cap_rises rounds counts before c e laid =
    let there = and_parts (nat_lt c.part.number (part_count counts c.part.kind)) _ e in
    let next = and_parts (is_next_cap before c.part c.first) _ there.1 in
    record { good = laid; after = after_cap rounds (latest before) c laid next.0 }

-- a part has no more caps than rounds
pub few_caps : (r : Recorded) → IsHead r → length r.caps ≤ 44 * r.rounds
few_caps r h =
    let counts = counts_of r.config in
    let caps = along_both (λ b c. is_cap r.rounds counts (b, c) ≡ true) (IsLaid r.rounds) [] r.caps (true_along (is_cap r.rounds counts) [] r.caps h.caps) (caps_laid r h) in
    let rises = along_to (λ b c. (is_cap r.rounds counts (b, c) ≡ true) × IsLaid r.rounds c) (Rises (IsLaid r.rounds) (cap_place r.rounds)) (λ b c p. cap_rises r.rounds counts b c p.0 p.1) [] r.caps caps in
    let few = rising_few (IsLaid r.rounds) (cap_place r.rounds) (44 * r.rounds) (cap_below r.rounds) [] r.caps tt (omega arith) rises in
    omega arith

-- ---- names

abbrev named_most : NameKind → ℕ
named_most named.Driver = 256
named_most named.Device = 32
named_most named.Adapter = 8
named_most named.Link = 4

abbrev place_by : NameKind → ℕ → ℕ
place_by named.Driver n = n
place_by named.Device n = 256 + n
place_by named.Adapter n = 288 + n
place_by named.Link n = 296 + n

abbrev name_place : NameValue → ℕ
name_place x = place_by x.kind x.number

abbrev IsNumbered : NameValue → Type 0
IsNumbered x = x.number < named_most x.kind

name_below : (x : NameValue) → IsNumbered x → name_place x < 300
name_below x h = by x.kind x.number h
  where
    by : (k : NameKind) (n : ℕ) → n < named_most k → place_by k n < 300
    by named.Driver n l = omega arith
    by named.Device n l = omega arith
    by named.Adapter n l = omega arith
    by named.Link n l = omega arith

few_named : (c : Counts) (k : NameKind) → IsCounted c → named_count c k ≤ named_most k
few_named c named.Driver h = omega arith
few_named c named.Device h = h.devices
few_named c named.Adapter h = h.adapters
few_named c named.Link h = h.links

named_before : (k l : NameKind) (n m : ℕ) → n < named_most k → m < named_most l → (nat_lt (name_rank k) (name_rank l) || ((name_rank k == name_rank l) && nat_lt n m)) ≡ true → place_by k n < place_by l m
named_before named.Driver named.Driver n m a b e = grind (arith, nat_tests)
named_before named.Device named.Device n m a b e = grind (arith, nat_tests)
named_before named.Adapter named.Adapter n m a b e = grind (arith, nat_tests)
named_before named.Link named.Link n m a b e = grind (arith, nat_tests)
named_before named.Driver named.Device n m a b e = omega arith
named_before named.Driver named.Adapter n m a b e = omega arith
named_before named.Driver named.Link n m a b e = omega arith
named_before named.Device named.Adapter n m a b e = omega arith
named_before named.Device named.Link n m a b e = omega arith
named_before named.Adapter named.Link n m a b e = omega arith
named_before named.Device named.Driver n m a b e = absurd cc
named_before named.Adapter named.Driver n m a b e = absurd cc
named_before named.Adapter named.Device n m a b e = absurd cc
named_before named.Link named.Driver n m a b e = absurd cc
named_before named.Link named.Device n m a b e = absurd cc
named_before named.Link named.Adapter n m a b e = absurd cc

after_name : (o : Option NameValue) (x : NameValue) → IsNumbered x → option_map_or (λ (a : NameValue). is_named_before a x.kind x.number) o true ≡ true → IfSome o (λ (a : NameValue). IsNumbered a → name_place a < name_place x)
after_name None x h e = tt
after_name (Some a) x h e = λ k. named_before a.kind x.kind a.number x.number k h e

name_rises : (counts : Counts) → IsCounted counts → (before : List NameValue) (x : NameValue) → is_name counts (before, x) ≡ true → Rises IsNumbered name_place before x
unfolding is_name
name_rises counts small before x e =
    let there = and_parts (nat_lt x.number (named_count counts x.kind)) _ e in
    let next = and_parts (is_next_name before x.kind x.number) _ there.1 in
    let few = few_named counts x.kind small in
    let less = ltb-true _ _ there.0 in
    let good : IsNumbered x = omega arith in
    record { good = good; after = after_name (latest before) x good next.0 }

pub few_names : (r : Recorded) → IsHead r → length r.names ≤ 300
few_names r h =
    let counts = counts_of r.config in
    let names = true_along (is_name counts) [] r.names h.names in
    let rises = along_to (λ b x. is_name counts (b, x) ≡ true) (Rises IsNumbered name_place) (name_rises counts (counted_so r.config (head_config r h))) [] r.names names in
    let few = rising_few IsNumbered name_place 300 name_below [] r.names tt (omega arith) rises in
    omega arith
