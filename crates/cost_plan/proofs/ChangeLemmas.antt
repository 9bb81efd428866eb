-- What changes along arcs do to sums over the stays.
use Rattle.std.proofs.Common.{◌≡◌, ◌≢◌, ℕ, ◌+◌, ◌%◌, ◌<◌, ◌≤◌, List, [], ◌∷◌, length, Option, Some, None, refl, ap, ◌∙◌, arith, All, sum_by, length-set, get_or-set_other}
use Rattle.std.proofs.lemmas.List.Sums.{sum_by-cons}
use Rattle.std.proofs.lemmas.List.Elements.{All-head, All-tail}
use Rattle.cost_plan.specs.Words.{Arc, sum_below, Instance}
use Rattle.cost_plan.specs.Cells.{rounds_of}
use Rattle.cost_plan.specs.Residual.{put_in, changed, changed_all, MarksWithin}
use Rattle.round_net.proofs.SumLemmas.{sum_below-set}

-- what the marked stay has where it is, and where it is taken
abbrev pub left_by : (ℕ → ℕ → ℕ) → (ℕ → ℕ) → Option ℕ → ℕ
left_by g f (Some stay) = g stay (f stay)
left_by g f None = 0

abbrev pub reached_by : (ℕ → ℕ → ℕ) → ℕ → Option ℕ → ℕ
reached_by g round (Some stay) = g stay round
reached_by g round None = 0

abbrev pub left : (ℕ → ℕ → ℕ) → (ℕ → ℕ) → Arc → ℕ
left g f arc = left_by g f arc.mark

abbrev pub reached : Instance → (ℕ → ℕ → ℕ) → Arc → ℕ
reached net g arc = reached_by g (arc.head % (net.rounds + 1)) arc.mark

-- no stay is taken along twice
abbrev pub MarksApart : List Arc → Type 0
MarksApart [] = Unit {0}
MarksApart (arc ∷ arcs) = All (λ b. (stay : ℕ) → arc.mark ≡ Some stay → b.mark ≢ Some stay) arcs × MarksApart arcs

length-put_in : (rounds : List ℕ) (round : ℕ) (mark : Option ℕ) → length (put_in rounds round mark) ≡ length rounds
length-put_in rounds round (Some stay) = length-set rounds stay round
length-put_in rounds round None = refl

pub length-changed_all : (net : Instance) (rounds : List ℕ) (arcs : List Arc) → length (changed_all net rounds arcs) ≡ length rounds
length-changed_all net rounds [] = refl
length-changed_all net rounds (arc ∷ arcs) = length-changed_all net (changed net rounds arc) arcs ∙ length-put_in rounds (arc.head % (net.rounds + 1)) arc.mark

-- one change
sum-put_in : (n : ℕ) (g : ℕ → ℕ → ℕ) (rounds : List ℕ) (round : ℕ) (mark : Option ℕ) → n ≤ length rounds → ((stay : ℕ) → mark ≡ Some stay → stay < n) → sum_below n (λ s. g s (rounds_of (put_in rounds round mark) s)) + left_by g (rounds_of rounds) mark ≡ sum_below n (λ s. g s (rounds_of rounds s)) + reached_by g round mark
sum-put_in n g rounds round (Some stay) long within = let inside = within stay refl in sum_below-set n stay round g rounds inside (omega arith)
sum-put_in n g rounds round None long within = refl

-- a change leaves what other stays have
left-put_in : (g : ℕ → ℕ → ℕ) (rounds : List ℕ) (round : ℕ) (mark other : Option ℕ) → ((stay : ℕ) → mark ≡ Some stay → other ≢ Some stay) → left_by g (rounds_of (put_in rounds round mark)) other ≡ left_by g (rounds_of rounds) other
left-put_in g rounds round (Some stay) (Some t) apart = let differ : t ≢ stay = λ e. apart stay refl (ap (λ (s : ℕ). Some s) e) in ap (g t) (get_or-set_other rounds stay t round 0 differ)
left-put_in g rounds round (Some stay) None apart = refl
left-put_in g rounds round None other apart = refl

left-changed : (net : Instance) (g : ℕ → ℕ → ℕ) (rounds : List ℕ) (arc : Arc) (arcs : List Arc) → All (λ b. (stay : ℕ) → arc.mark ≡ Some stay → b.mark ≢ Some stay) arcs → sum_by (left g (rounds_of (changed net rounds arc))) arcs ≡ sum_by (left g (rounds_of rounds)) arcs
left-changed net g rounds arc [] apart = refl
left-changed net g rounds arc (b ∷ arcs) apart =
    let P : Arc → Type 0 = λ b. (stay : ℕ) → arc.mark ≡ Some stay → b.mark ≢ Some stay in
    let here = left-put_in g rounds (arc.head % (net.rounds + 1)) arc.mark b.mark (All-head P b arcs apart) in
    let rest = left-changed net g rounds arc arcs (All-tail P b arcs apart) in
    omega (arith, sum_by-cons (left g (rounds_of (changed net rounds arc))) b arcs, sum_by-cons (left g (rounds_of rounds)) b arcs, here, rest)

-- all changes: what a sum over the stays loses and gains along the arcs
pub sum-changed_all : (net : Instance) (n : ℕ) (g : ℕ → ℕ → ℕ) (rounds : List ℕ) (arcs : List Arc) → n ≤ length rounds → MarksWithin n arcs → MarksApart arcs → sum_below n (λ s. g s (rounds_of (changed_all net rounds arcs) s)) + sum_by (left g (rounds_of rounds)) arcs ≡ sum_below n (λ s. g s (rounds_of rounds s)) + sum_by (reached net g) arcs
sum-changed_all net n g rounds [] long within apart = refl
sum-changed_all net n g rounds (arc ∷ arcs) long within apart =
    let P : Arc → Type 0 = λ b. (stay : ℕ) → b.mark ≡ Some stay → stay < n in
    let here = sum-put_in n g rounds (arc.head % (net.rounds + 1)) arc.mark long (All-head P arc arcs within) in
    let longer : n ≤ length (changed net rounds arc) = omega (arith, length-put_in rounds (arc.head % (net.rounds + 1)) arc.mark) in
    let rest = sum-changed_all net n g (changed net rounds arc) arcs longer (All-tail P arc arcs within) apart.1 in
    let later = left-changed net g rounds arc arcs apart.0 in
    omega (arith, sum_by-cons (left g (rounds_of rounds)) arc arcs, sum_by-cons (reached net g) arc arcs, here, rest, later)
