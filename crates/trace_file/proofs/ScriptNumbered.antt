-- The rows of lists that are numbered.
use Rattle.std.proofs.Common.{◌≡◌, ◌<◌, ◌+◌, ◌==◌, ℕ, zero, suc, List, [], ◌∷◌, ◌++◌, length, take, map, get_or, Bool, true, false, cond, refl, sym, ap, ◌∙◌, arith, subst, append-nil, append_assoc, flat_map, ne_eqb, count_by, sum_by}
use Rattle.std.specs.List.{AllByRecursion}
use Rattle.std.proofs.lemmas.Bool.{eq-eqb}
use Rattle.std.proofs.lemmas.List.Concat.{flat_map-append}
use Rattle.std.proofs.lemmas.List.Sums.{sum_by-append, sum_by-cons}
use Rattle.trace_file.specs.ScriptWriting.{numbered}

-- the rows of one list more
numbered_suc : {X Y : Type 0} (f : ℕ → X → Y) (n : ℕ) (lists : List (List X)) (i : ℕ) → i < length lists → numbered f n (take (suc i) lists) ≡ numbered f n (take i lists) ++ map (f (n + i)) (get_or lists i [])
numbered_suc f n [] i h = absurd (omega arith)
numbered_suc {Y = Y} f n (xs ∷ rest) zero h =
    let same : n ≡ n + 0 = omega arith in
    append-nil (map (f n) xs) ∙ ap (λ (k : ℕ). map (f k) xs) same
numbered_suc {Y = Y} f n (xs ∷ rest) (suc i) h =
    let same : n + 1 + i ≡ n + suc i = omega arith in
    let more = numbered_suc f (n + 1) rest i (omega arith) in
    ap (λ (l : List Y). map (f n) xs ++ l) (more ∙ ap (λ (k : ℕ). numbered f (n + 1) (take i rest) ++ map (f k) (get_or rest i [])) same)
    ∙ sym (append_assoc (map (f n) xs) (numbered f (n + 1) (take i rest)) (map (f (n + suc i)) (get_or rest i [])))

pub numbered_more : {X Y : Type 0} (f : ℕ → X → Y) (n : ℕ) (lists : List (List X)) (i : ℕ) → i < length lists → numbered f n (take (i + 1) lists) ≡ numbered f n (take i lists) ++ map (f (n + i)) (get_or lists i [])
numbered_more f n lists i h =
    let same : i + 1 ≡ suc i = omega arith in
    ap (λ (k : ℕ). numbered f n (take k lists)) same ∙ numbered_suc f n lists i h

-- what the rows of each list keep, all keep
pub all_both : {X : Type 0} (P : X → Type 0) (xs ys : List X) → AllByRecursion P xs → AllByRecursion P ys → AllByRecursion P (xs ++ ys)
all_both P [] ys h k = k
all_both P (x ∷ xs) ys h k = (h.0, all_both P xs ys h.1 k)

pub all_mapped : {X Y : Type 0} (P : Y → Type 0) (Q : X → Type 0) (f : X → Y) (xs : List X) → ((x : X) → Q x → P (f x)) → AllByRecursion Q xs → AllByRecursion P (map f xs)
all_mapped P Q f [] each h = tt
all_mapped P Q f (x ∷ xs) each h = (each x h.0, all_mapped P Q f xs each h.1)

pub all_numbered : {X Y : Type 0} (P : Y → Type 0) (f : ℕ → X → Y) (n : ℕ) (lists : List (List X)) → ((i : ℕ) → i < length lists → AllByRecursion P (map (f (n + i)) (get_or lists i []))) → AllByRecursion P (numbered f n lists)
all_numbered P f n [] each = tt
all_numbered {X = X} P f n (xs ∷ rest) each =
    let first : n + 0 ≡ n = omega arith in
    all_both P (map (f n) xs) (numbered f (n + 1) rest) (subst (λ (k : ℕ). AllByRecursion P (map (f k) xs)) first (each 0 (omega arith))) (all_numbered P f (n + 1) rest (λ i h.
    let next : n + suc i ≡ n + 1 + i = omega arith in
    subst (λ (k : ℕ). AllByRecursion P (map (f k) (get_or rest i []))) next (each (suc i) (omega arith))))

-- ---- what rows say, where those of each list say nothing

pub none_parsed : {X Y Z : Type 0} (f : ℕ → X → Y) (parsed : Y → List Z) (n : ℕ) (lists : List (List X)) → ((i : ℕ) → i < length lists → flat_map parsed (map (f (n + i)) (get_or lists i [])) ≡ []) → flat_map parsed (numbered f n lists) ≡ []
none_parsed f parsed n [] each = refl
none_parsed f parsed n (xs ∷ rest) each =
    let here : n + 0 ≡ n = omega arith in
    let first = ap (λ (k : ℕ). flat_map parsed (map (f k) xs)) (sym here) ∙ each 0 (omega arith) in
    let more = none_parsed f parsed (n + 1) rest (λ i h.
    let next : n + 1 + i ≡ n + suc i = omega arith in
    ap (λ (k : ℕ). flat_map parsed (map (f k) (get_or rest i []))) next ∙ each (suc i) (omega arith)) in
    flat_map-append parsed (map (f n) xs) (numbered f (n + 1) rest) ∙ rw (first, more) refl

-- what rows say to one number, where those of its list say their items to it, and those of others nothing
abbrev pub Says : {X Y : Type 0} → (ℕ → X → Y) → (Y → List X) → ℕ → ℕ → List (List X) → Type 0
Says f parsed d n lists = (i : ℕ) → i < length lists → flat_map parsed (map (f (n + i)) (get_or lists i [])) ≡ cond ((n + i) == d) (get_or lists i []) []

pub says_next : {X Y : Type 0} (f : ℕ → X → Y) (parsed : Y → List X) (d n : ℕ) (xs : List X) (rest : List (List X)) → Says f parsed d n (xs ∷ rest) → Says f parsed d (n + 1) rest
says_next {X = X} f parsed d n xs rest each = λ i h.
    let next : n + suc i ≡ n + 1 + i = omega arith in
    subst (λ (k : ℕ). flat_map parsed (map (f k) (get_or rest i [])) ≡ cond (k == d) (get_or rest i []) []) next (each (suc i) (omega arith))

says_first : {X Y : Type 0} (f : ℕ → X → Y) (parsed : Y → List X) (d n : ℕ) (xs : List X) (rest : List (List X)) → Says f parsed d n (xs ∷ rest) → flat_map parsed (map (f n) xs) ≡ cond (n == d) xs []
says_first f parsed d n xs rest each =
    let here : n + 0 ≡ n = omega arith in
    subst (λ (k : ℕ). flat_map parsed (map (f k) xs) ≡ cond (k == d) xs []) here (each 0 (omega arith))

parsed_before : {X Y : Type 0} (f : ℕ → X → Y) (parsed : Y → List X) (d n : ℕ) (lists : List (List X)) → d < n → Says f parsed d n lists → flat_map parsed (numbered f n lists) ≡ []
parsed_before f parsed d n lists less each =
    none_parsed f parsed n lists (λ i h. let other : ((n + i) == d) ≡ false = ne_eqb _ _ (λ e. omega arith) in each i h ∙ rw other refl)

pub parsed_at : {X Y : Type 0} (f : ℕ → X → Y) (parsed : Y → List X) (d n j : ℕ) (lists : List (List X)) → n + j ≡ d → Says f parsed d n lists → flat_map parsed (numbered f n lists) ≡ get_or lists j []
parsed_at f parsed d n j [] is each = refl
parsed_at f parsed d n zero (xs ∷ rest) is each =
    let here : (n == d) ≡ true = eq-eqb n d (omega arith) in
    let first : flat_map parsed (map (f n) xs) ≡ xs = says_first f parsed d n xs rest each ∙ ap (λ (b : Bool). cond b xs []) here in
    let none = parsed_before f parsed d (n + 1) rest (omega arith) (says_next f parsed d n xs rest each) in
    flat_map-append parsed (map (f n) xs) (numbered f (n + 1) rest) ∙ rw (first, none) (append-nil xs)
parsed_at f parsed d n (suc j) (xs ∷ rest) is each =
    let other : (n == d) ≡ false = ne_eqb _ _ (λ e. omega arith) in
    let first : flat_map parsed (map (f n) xs) ≡ [] = says_first f parsed d n xs rest each ∙ ap (λ (b : Bool). cond b xs []) other in
    let more = parsed_at f parsed d (n + 1) j rest (omega arith) (says_next f parsed d n xs rest each) in
    flat_map-append parsed (map (f n) xs) (numbered f (n + 1) rest) ∙ rw (first, more) refl

-- ---- the same where the first list has the number 0

from_none : (i : ℕ) → i ≡ 0 + i
from_none i = omega arith

pub all_parsed : {X Y : Type 0} (f : ℕ → X → Y) (parsed : Y → List X) (d : ℕ) (lists : List (List X)) → ((i : ℕ) → i < length lists → flat_map parsed (map (f i) (get_or lists i [])) ≡ cond (i == d) (get_or lists i []) [])
    → flat_map parsed (numbered f 0 lists) ≡ get_or lists d []
all_parsed {X = X} f parsed d lists each =
    parsed_at f parsed d 0 d lists (sym (from_none d)) (λ i h. subst (λ (k : ℕ). flat_map parsed (map (f k) (get_or lists i [])) ≡ cond {A = List X} (k == d) (get_or lists i []) []) (from_none i) (each i h))

pub silent_all : {X Y Z : Type 0} (f : ℕ → X → Y) (parsed : Y → List Z) (lists : List (List X)) → ((i : ℕ) → i < length lists → flat_map parsed (map (f i) (get_or lists i [])) ≡ []) → flat_map parsed (numbered f 0 lists) ≡ []
silent_all f parsed lists each = none_parsed f parsed 0 lists (λ i h. subst (λ (k : ℕ). flat_map parsed (map (f k) (get_or lists i [])) ≡ []) (from_none i) (each i h))

pub keep_all : {X Y : Type 0} (P : Y → Type 0) (f : ℕ → X → Y) (lists : List (List X)) → ((i : ℕ) → i < length lists → AllByRecursion P (map (f i) (get_or lists i []))) → AllByRecursion P (numbered f 0 lists)
keep_all P f lists each = all_numbered P f 0 lists (λ i h. subst (λ (k : ℕ). AllByRecursion P (map (f k) (get_or lists i []))) (from_none i) (each i h))

-- ---- how many rows there are of a kind that each of them is, or none

count_mapped : {X Y : Type 0} (p : Y → Bool) (b : Bool) (f : X → Y) (xs : List X) → ((x : X) → p (f x) ≡ b) → count_by p (map f xs) ≡ cond b (length xs) 0
count_mapped p true f [] is = refl
count_mapped p false f [] is = refl
count_mapped p true f (x ∷ xs) is =
    let more = count_mapped p true f xs is in
    let one : cond {A = ℕ} (p (f x)) 1 0 ≡ 1 = ap (λ (b : Bool). cond {A = ℕ} b 1 0) (is x) in
    let both = sum_by-cons (λ y. cond {A = ℕ} (p y) 1 0) (f x) (map f xs) in
    omega arith
count_mapped p false f (x ∷ xs) is =
    let more = count_mapped p false f xs is in
    let one : cond {A = ℕ} (p (f x)) 1 0 ≡ 0 = ap (λ (b : Bool). cond {A = ℕ} b 1 0) (is x) in
    let both = sum_by-cons (λ y. cond {A = ℕ} (p y) 1 0) (f x) (map f xs) in
    omega arith

pub count_numbered : {X Y : Type 0} (p : Y → Bool) (b : Bool) (f : ℕ → X → Y) (n : ℕ) (lists : List (List X)) → ((k : ℕ) (x : X) → p (f k x) ≡ b) → count_by p (numbered f n lists) ≡ cond b (sum_by length lists) 0
count_numbered p true f n [] is = refl
count_numbered p false f n [] is = refl
count_numbered p true f n (xs ∷ rest) is =
    let one = count_mapped p true (f n) xs (is n) in
    let more = count_numbered p true f (n + 1) rest is in
    let both = sum_by-append (λ y. cond (p y) 1 0) (map (f n) xs) (numbered f (n + 1) rest) in
    let all = sum_by-cons length xs rest in
    omega arith
count_numbered p false f n (xs ∷ rest) is =
    let one = count_mapped p false (f n) xs (is n) in
    let more = count_numbered p false f (n + 1) rest is in
    let both = sum_by-append (λ y. cond (p y) 1 0) (map (f n) xs) (numbered f (n + 1) rest) in
    omega arith
