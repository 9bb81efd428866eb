-- Places in the table of room.
use Rattle.std.proofs.Common.{◌≡◌, ◌≢◌, ◌<◌, ◌≤◌, ◌+◌, ◌-◌, ◌*◌, ℕ, List, [], ◌∷◌, ◌++◌, length, get_or, drop, drop-cons, add-one, append_assoc, append-nil, take, zero, suc, replicate, Bool, true, false, cond, refl, sym, ap, ◌∙◌, subst, arith, length-append, Some, find, ◌==◌, ◌&&◌, nat_le, nat_lt, if◌then◌else◌, add-mul}
use Rattle.std.specs.List.{AllByRecursion}
use Rattle.std.specs.Option.{option_map_or}
use Rattle.std.proofs.lemmas.Bool.{and_parts, eq-eqb, eqb-true, leb-true, ltb-true, le-leb, lt-ltb}
use Rattle.std.proofs.lemmas.Bool.Decides.{nat_tests}
use Rattle.std.proofs.lemmas.List.{get_or_append_left, get_or-append-add, get_or-replicate, length-replicate, drop_all, take_all, replicate-append-replicate}
use Rattle.cam_types.specs.Topology.{Topology}
use Rattle.recording_file.specs.Caps.{Part, Cap, part_of, part_rank, is_same_part, covers, openings, cap_in, PartKind}
use Rattle.recording_file.specs.declared.part.PartKind.TheVariants as kind
use Rattle.recording_file.specs.Room.{row_of, row_by, rows_by, part_in, cell_of, IsCell, IsRoom, Holds}

-- ---- places by row and column

-- a later row is a whole width away
pub apart : (a b w : ℕ) → a < b → a * w + w ≤ b * w
apart a b w h =
    let k = b - (a + 1) in
    let e : b ≡ (a + 1) + k = omega arith in
    let more = add-mul (a + 1) k w in
    let one = add-mul a 1 w in
    let unit : 1 * w ≡ w = omega arith in
    let all : b * w ≡ (a + 1) * w + k * w = ap (λ (x : ℕ). x * w) e ∙ more in
    omega arith

-- a place has one row
pub same_row : (a b x y w : ℕ) → x < w → y < w → a * w + x ≡ b * w + y → a ≡ b
same_row a b x y w h k e = grind (arith, apart a b w, apart b a w)

-- a place between two of a row is in that row
row_between : (a b x f l w : ℕ) → x < w → l < w → b * w + f ≤ a * w + x → a * w + x ≤ b * w + l → a ≡ b
row_between a b x f l w h k lower upper = grind (arith, apart a b w, apart b a w)

-- ---- rows of parts

pub row_few : (k : PartKind) (n : ℕ) → n < rows_by k → row_by k n < 44
row_few kind.Device n h = omega arith
row_few _ n h = omega arith

pub part_there : (k : PartKind) (n : ℕ) → n < rows_by k → part_in (row_by k n) ≡ part_of k n
part_there kind.Device n h = grind (arith, nat_tests)
part_there _ n h = grind (arith, nat_tests)

-- two parts in one row are the same
pub one_part : (k l : PartKind) (n m : ℕ) → n < rows_by k → m < rows_by l → row_by k n ≡ row_by l m → (part_rank k ≡ part_rank l) × (n ≡ m)
one_part kind.Device kind.Device n m a b e = (refl, e)
one_part kind.Device kind.Adapter n m a b e = absurd (omega arith)
one_part kind.Device kind.Link n m a b e = absurd (omega arith)
one_part kind.Adapter kind.Device n m a b e = absurd (omega arith)
one_part kind.Adapter kind.Adapter n m a b e = (refl, omega arith)
one_part kind.Adapter kind.Link n m a b e = absurd (omega arith)
one_part kind.Link kind.Device n m a b e = absurd (omega arith)
one_part kind.Link kind.Adapter n m a b e = absurd (omega arith)
one_part kind.Link kind.Link n m a b e = (refl, omega arith)

pub one_kind : (k l : PartKind) → part_rank k ≡ part_rank l → k ≡ l
one_kind kind.Device kind.Device e = refl
one_kind kind.Device kind.Adapter e = absurd (omega arith)
one_kind kind.Device kind.Link e = absurd (omega arith)
one_kind kind.Adapter kind.Device e = absurd (omega arith)
one_kind kind.Adapter kind.Adapter e = refl
one_kind kind.Adapter kind.Link e = absurd (omega arith)
one_kind kind.Link kind.Device e = absurd (omega arith)
one_kind kind.Link kind.Adapter e = absurd (omega arith)
one_kind kind.Link kind.Link e = refl

-- ---- a table of rows

-- the first rows of a table hold what is due by row
pub record HasRows (width : ℕ) (f : ℕ → ℕ) (rows : ℕ) (cells : List ℕ) : Type 0 where
  pub size : length cells ≡ rows * width
  pub each : (a x : ℕ) → a < rows → x < width → get_or cells (a * width + x) 0 ≡ f a

pub row_more : (width : ℕ) (f : ℕ → ℕ) (rows : ℕ) (cells : List ℕ) (n : ℕ) → HasRows width f rows cells → n ≡ f rows → HasRows width f (rows + 1) (cells ++ replicate width n)
row_more width f rows cells n h e =
    let long = length-append cells (replicate width n) in
    let wide = length-replicate width n in
    let one = add-mul rows 1 width in
    let size = h.size in
    record {
      size = omega arith;
      each = λ a x less inside. by a x less inside (a == rows) refl;
    }
  where
    by : (a x : ℕ) → a < rows + 1 → x < width → (b : Bool) → (a == rows) ≡ b → get_or (cells ++ replicate width n) (a * width + x) 0 ≡ f a
    by a x less inside true is =
        let same : a ≡ rows = eqb-true a rows is in
        let size = h.size in
        let place : a * width + x ≡ length cells + x = rw (same, size) refl in
        rw place (get_or-append-add cells (replicate width n) x 0 ∙ get_or-replicate width x n 0 inside ∙ e ∙ ap f (sym same))
    by a x less inside false is =
        let other : a ≢ rows = (λ same. let wrong = sym is ∙ eq-eqb a rows same in cc) in
        let before : a < rows = omega arith in
        let far = apart a rows width before in
        let size = h.size in
        get_or_append_left cells (replicate width n) 0 (a * width + x) (omega arith) ∙ h.each a x before inside

pub rows_hold : (rounds : ℕ) (c : Topology) (cells : List ℕ) → HasRows rounds (λ row. openings c (part_in row)) 44 cells → Holds rounds (λ p round. openings c p) cells
rows_hold rounds c cells h =
    record {
      size = h.size;
      each = λ p round cell.
          let some = cell.some in
          let most = cell.most in
          h.each (row_of p) (round - 1) (row_few p.kind p.number cell.part) (omega arith) ∙ ap (openings c) (part_there p.kind p.number cell.part);
    }

-- ---- a cap over a table

-- cells from one place on were written up to another
pub record IsLaidTo (start at n : ℕ) (before cells : List ℕ) : Type 0 where
  pub size : length cells ≡ length before
  pub each : (i : ℕ) → get_or cells i 0 ≡ cond (nat_le start i && nat_lt i at) n (get_or before i 0)

-- a place lies between a cap's first and last exactly if the cap covers it
covered : (rounds : ℕ) (p : Part) (round : ℕ) (cap : Cap) → IsCell rounds p round → cap.part.number < rows_by cap.part.kind → 1 ≤ cap.first → cap.first ≤ cap.last → cap.last ≤ rounds
    → (nat_le (cell_of rounds cap.part cap.first) (cell_of rounds p round) && nat_lt (cell_of rounds p round) (cell_of rounds cap.part cap.last + 1)) ≡ covers p round cap
covered rounds p round cap cell part some order last = both _ _ forth back
  where
    both : (a b : Bool) → (a ≡ true → b ≡ true) → (b ≡ true → a ≡ true) → a ≡ b
    both true b f g = sym (f refl)
    both false true f g = g refl
    both false false f g = refl

    forth : (nat_le (cell_of rounds cap.part cap.first) (cell_of rounds p round) && nat_lt (cell_of rounds p round) (cell_of rounds cap.part cap.last + 1)) ≡ true → covers p round cap ≡ true
    forth e =
        let g = and_parts _ _ e in
        let lower = leb-true _ _ g.0 in
        let upper = ltb-true _ _ g.1 in
        let a = cell.some in
        let b = cell.most in
        let rows = row_between (row_of p) (row_of cap.part) (round - 1) (cap.first - 1) (cap.last - 1) rounds (omega arith) (omega arith) lower (omega arith) in
        let one = one_part p.kind cap.part.kind p.number cap.part.number cell.part part rows in
        let low : cap.first ≤ round = (let l = rw rows at lower in omega arith) in
        let high : round ≤ cap.last = (let u = rw rows at upper in omega arith) in
        rw (eq-eqb _ _ (sym one.0), eq-eqb _ _ (sym one.1), le-leb _ _ low, le-leb _ _ high) refl

    back : covers p round cap ≡ true → (nat_le (cell_of rounds cap.part cap.first) (cell_of rounds p round) && nat_lt (cell_of rounds p round) (cell_of rounds cap.part cap.last + 1)) ≡ true
    back e =
        let g = and_parts (is_same_part cap.part p) _ e in
        let k = and_parts (part_rank cap.part.kind == part_rank p.kind) _ g.0 in
        let m = and_parts (nat_le cap.first round) (nat_le round cap.last) g.1 in
        let kinds = one_kind cap.part.kind p.kind (eqb-true _ _ k.0) in
        let numbers = eqb-true cap.part.number p.number k.1 in
        let rows : row_of cap.part ≡ row_of p = ap (λ (x : PartKind). row_by x cap.part.number) kinds ∙ ap (row_by p.kind) numbers in
        let low = leb-true _ _ m.0 in
        let high = leb-true _ _ m.1 in
        let lower : row_of p * rounds + (cap.first - 1) ≤ row_of p * rounds + (round - 1) = omega arith in
        let upper : row_of p * rounds + (round - 1) < row_of p * rounds + (cap.last - 1) + 1 = omega arith in
        rw rows (rw (le-leb _ _ lower, lt-ltb _ _ upper) refl)

pub cap_laid : (rounds : ℕ) (cap : Cap) (before cells : List ℕ) (f : Part → ℕ → ℕ) → cap.part.number < rows_by cap.part.kind → 1 ≤ cap.first → cap.first ≤ cap.last → cap.last ≤ rounds
    → IsLaidTo (cell_of rounds cap.part cap.first) (cell_of rounds cap.part cap.last + 1) cap.most before cells → Holds rounds f before → Holds rounds (λ p round. if covers p round cap then cap.most else f p round) cells
cap_laid rounds cap before cells f part some order last laid h =
    record {
      size = laid.size ∙ h.size;
      each = λ p round cell.
          laid.each (cell_of rounds p round)
          ∙ ap (λ (b : Bool). cond b cap.most (get_or before (cell_of rounds p round) 0)) (covered rounds p round cap cell part some order last)
          ∙ ap (λ (n : ℕ). cond (covers p round cap) cap.most n) (h.each p round cell);
    }

-- ---- all caps over a table

pub hold_same : (rounds : ℕ) (f g : Part → ℕ → ℕ) (cells : List ℕ) → Holds rounds f cells → ((p : Part) (round : ℕ) → f p round ≡ g p round) → Holds rounds g cells
hold_same rounds f g cells h e = record { size = h.size; each = λ p round cell. h.each p round cell ∙ e p round }

first_cap : (c : Topology) (cap : Cap) (rest : List Cap) (p : Part) (round : ℕ) → cond (covers p round cap) cap.most (cap_in c rest p round) ≡ cap_in c (cap ∷ rest) p round
first_cap c cap rest p round = by (covers p round cap)
  where
    by : (b : Bool) → cond b cap.most (cap_in c rest p round) ≡ option_map_or (λ (x : Cap). x.most) (cond b (Some cap) (find (covers p round) rest)) (openings c p)
    by true = refl
    by false = refl

-- the caps from a place on are laid over the openings
abbrev pub AreLaid : ℕ → List Cap → List ℕ → List ℕ → Type 0
AreLaid rounds caps before cells = (c : Topology) → Holds rounds (λ p round. openings c p) before → Holds rounds (cap_in c caps) cells

pub caps_more : (rounds left : ℕ) (caps : List Cap) (d : Cap) (before cells after : List ℕ) → left < length caps → AreLaid rounds (drop (left + 1) caps) before cells
    → ((f : Part → ℕ → ℕ) → Holds rounds f cells → Holds rounds (λ p round. if covers p round (get_or caps left d) then (get_or caps left d).most else f p round) after)
    → AreLaid rounds (drop left caps) before after
caps_more rounds left caps d before cells after h laid step = λ c whole.
    let cap = get_or caps left d in
    let rest = drop (left + 1) caps in
    let same : cap ∷ rest ≡ drop left caps = sym (drop-cons caps left d h ∙ rw (add-one left) refl) in
    let made = hold_same rounds _ (cap_in c (cap ∷ rest)) after (step (cap_in c rest) (laid c whole)) (first_cap c cap rest) in
    subst (λ (l : List Cap). Holds rounds (cap_in c l) after) same made

pub room_of : (rounds : ℕ) (c : Topology) (caps : List Cap) (cells : List ℕ) → Holds rounds (cap_in c caps) cells → IsRoom rounds c caps [] cells
room_of rounds c caps cells h = record { size = h.size; room = λ p round cell. rw (h.each p round cell) (omega arith) }

-- before any request the table holds the caps
pub caps_of : (rounds : ℕ) (c : Topology) (caps : List Cap) (cells : List ℕ) → IsRoom rounds c caps [] cells → Holds rounds (cap_in c caps) cells
caps_of rounds c caps cells h = record { size = h.size; each = λ p round cell. let room = h.room p round cell in omega arith }

pub one_more : (cells before : List ℕ) (n i : ℕ) → cells ≡ before ++ replicate i n → cells ++ n ∷ [] ≡ before ++ replicate (i + 1) n
one_more cells before n i e =
    rw e (append_assoc before (replicate i n) (n ∷ []) ∙ ap (λ (l : List ℕ). before ++ l) (replicate-append-replicate i 1 n))

pub all_at : {X : Type 0} (P : X → Type 0) (xs : List X) (i : ℕ) (d : X) → AllByRecursion P xs → i < length xs → P (get_or xs i d)
all_at P [] i d h k = absurd (omega arith)
all_at P (x ∷ xs) zero d h k = h.0
all_at P (x ∷ xs) (suc i) d h k = all_at P xs i d h.1 (omega arith)

-- a slice that was written stands whole in its list
pub written_back : (n : ℕ) (cells before : List ℕ) → length cells ≡ length before → n ≡ length before → take n (cells ++ drop (length cells) before) ≡ cells
written_back n cells before e k =
    let none : drop (length cells) before ≡ [] = drop_all (length cells) before (omega arith) in
    rw (none, append-nil cells) (take_all n cells (omega arith))
