-- texts and their lines
use Rattle.std.proofs.Common.{◌≡◌, ◌≤◌, ◌<◌, ◌+◌, ℕ, zero, suc, List, [], ◌∷◌, ◌++◌, length, take, drop, get_or, Bool, true, false, cond, refl, sym, ap, ◌∙◌, arith, append_assoc, eqb-true, inl, inr}
use Rattle.std.specs.Prelude.{◌==◌, ◌⊎◌, ⊤, not}
use Rattle.std.specs.List.{list_all, prefix_len}
use Rattle.std.proofs.lemmas.Bool.{and_parts, eq-eqb, ne_eqb}
use Rattle.report_text.specs.TextLines.{lines, with_byte}

-- ---- the first line and the others

with_first : (c : ℕ) (ls : List (List ℕ)) → get_or (with_byte c ls) 0 [] ≡ c ∷ get_or ls 0 []
with_first c [] = refl
with_first c (l ∷ ls) = refl

with_others : (c : ℕ) (ls : List (List ℕ)) → drop 1 (with_byte c ls) ≡ drop 1 ls
with_others c [] = refl
with_others c (l ∷ ls) = refl

with_count : (c : ℕ) (ls : List (List ℕ)) → length ls ≤ length (with_byte c ls)
with_count c [] = omega arith
with_count c (l ∷ ls) = omega arith

abbrev pub line_len : List ℕ → ℕ
line_len text = prefix_len (λ c. not (c == 10)) text

pub first_line : (text : List ℕ) → get_or (lines text) 0 [] ≡ take (line_len text) text
unfolding lines
first_line [] = refl
first_line (c ∷ cs) = by (c == 10) (first_line cs)
  where
    by : (b : Bool) → get_or (lines cs) 0 [] ≡ take (line_len cs) cs
        → get_or (cond b ([] ∷ lines cs) (with_byte c (lines cs))) 0 [] ≡ take (cond (not b) (1 + line_len cs) 0) (c ∷ cs)
    by true rest = refl
    by false rest = let one : 1 + line_len cs ≡ suc (line_len cs) = omega arith in rw one (with_first c (lines cs) ∙ ap (λ (l : List ℕ). c ∷ l) rest)

pub other_lines : (text : List ℕ) → lines (drop (line_len text + 1) text) ≡ drop 1 (lines text)
unfolding lines
other_lines [] = refl
other_lines (c ∷ cs) = by (c == 10) (other_lines cs)
  where
    by : (b : Bool) → lines (drop (line_len cs + 1) cs) ≡ drop 1 (lines cs)
        → lines (drop (cond (not b) (1 + line_len cs) 0 + 1) (c ∷ cs)) ≡ drop 1 (cond b ([] ∷ lines cs) (with_byte c (lines cs)))
    by true rest = refl
    by false rest = let one : 1 + line_len cs + 1 ≡ suc (line_len cs + 1) = omega arith in rw one (rest ∙ sym (with_others c (lines cs)))

pub fewer_lines : (n : ℕ) (text : List ℕ) → length (lines (drop n text)) ≤ length (lines text)
unfolding lines
fewer_lines zero text = omega arith
fewer_lines (suc n) [] = omega arith
fewer_lines (suc n) (c ∷ cs) = by (c == 10) (fewer_lines n cs)
  where
    by : (b : Bool) → length (lines (drop n cs)) ≤ length (lines cs) → length (lines (drop n cs)) ≤ length (cond b ([] ∷ lines cs) (with_byte c (lines cs)))
    by true rest = omega arith
    by false rest = let more = with_count c (lines cs) in omega arith

-- ---- lines with their feeds

abbrev pub unlines : List (List ℕ) → List ℕ
unlines [] = []
unlines (l ∷ ls) = l ++ (10 ∷ unlines ls)

pub unlines-append : (a b : List (List ℕ)) → unlines (a ++ b) ≡ unlines a ++ unlines b
unlines-append [] b = refl
unlines-append (l ∷ ls) b = ap (λ (t : List ℕ). l ++ (10 ∷ t)) (unlines-append ls b) ∙ sym (append_assoc l (10 ∷ unlines ls) (unlines b))

unlines-with : (c : ℕ) (cs : List ℕ) (ls : List (List ℕ)) → (unlines ls ≡ cs) ⊎ (unlines ls ≡ cs ++ (10 ∷ [])) → (unlines (with_byte c ls) ≡ c ∷ cs) ⊎ (unlines (with_byte c ls) ≡ c ∷ (cs ++ (10 ∷ [])))
unlines-with c [] [] h = inr refl
unlines-with c (d ∷ ds) [] (inl e) = absurd cc
unlines-with c (d ∷ ds) [] (inr e) = absurd cc
unlines-with c cs (l ∷ ls) (inl e) = inl (ap (λ (t : List ℕ). c ∷ t) e)
unlines-with c cs (l ∷ ls) (inr e) = inr (ap (λ (t : List ℕ). c ∷ t) e)

-- a text has its lines with their feeds, but maybe the last feed
pub unlines-lines : (text : List ℕ) → (unlines (lines text) ≡ text) ⊎ (unlines (lines text) ≡ text ++ (10 ∷ []))
unfolding lines
unlines-lines [] = inl refl
unlines-lines (c ∷ cs) = by (c == 10) refl (unlines-lines cs)
  where
    by : (b : Bool) → (c == 10) ≡ b → (unlines (lines cs) ≡ cs) ⊎ (unlines (lines cs) ≡ cs ++ (10 ∷ []))
        → (unlines (cond b ([] ∷ lines cs) (with_byte c (lines cs))) ≡ c ∷ cs) ⊎ (unlines (cond b ([] ∷ lines cs) (with_byte c (lines cs))) ≡ c ∷ (cs ++ (10 ∷ [])))
    by true is (inl e) = inl (rw (eqb-true c 10 is, e) refl)
    by true is (inr e) = inr (rw (eqb-true c 10 is, e) refl)
    by false is h = unlines-with c cs (lines cs) h

-- ---- texts without line feeds

abbrev pub HasNoFeed : List ℕ → Type 0
HasNoFeed [] = ⊤
HasNoFeed (c ∷ cs) = (c ≡ 10 → ⊥) × HasNoFeed cs

abbrev pub AreLines : List (List ℕ) → Type 0
AreLines [] = ⊤
AreLines (l ∷ ls) = HasNoFeed l × AreLines ls

pub plain_append : (a b : List ℕ) → HasNoFeed a → HasNoFeed b → HasNoFeed (a ++ b)
plain_append [] b h k = k
plain_append (c ∷ cs) b h k = (h.0, plain_append cs b h.1 k)

pub lines_append : (a b : List (List ℕ)) → AreLines a → AreLines b → AreLines (a ++ b)
lines_append [] b h k = k
lines_append (l ∷ ls) b h k = (h.0, lines_append ls b h.1 k)

pub plain_of : (a : List ℕ) → list_all (λ c. not (c == 10)) a ≡ true → HasNoFeed a
plain_of [] h = tt
plain_of (c ∷ cs) h =
    let parts = and_parts (not (c == 10)) (list_all (λ c. not (c == 10)) cs) h in
    (λ is. let e = eq-eqb c 10 is in let wrong : false ≡ true = ap not (sym e) ∙ parts.0 in absurd cc, plain_of cs parts.1)

lines-line : (l rest : List ℕ) → HasNoFeed l → lines (l ++ (10 ∷ rest)) ≡ l ∷ lines rest
unfolding lines
lines-line [] rest h = refl
lines-line (c ∷ cs) rest h = rw (ne_eqb c 10 h.0, lines-line cs rest h.1) refl

pub lines-unlines : (ls : List (List ℕ)) (rest : List ℕ) → AreLines ls → lines (unlines ls ++ rest) ≡ ls ++ lines rest
lines-unlines [] rest h = refl
lines-unlines (l ∷ ls) rest h = rw (append_assoc l (10 ∷ unlines ls) rest) (lines-line l (unlines ls ++ rest) h.0 ∙ ap (λ (ms : List (List ℕ)). l ∷ ms) (lines-unlines ls rest h.1))

pub lines-last : (l : List ℕ) → HasNoFeed l → 0 < length l → lines l ≡ l ∷ []
unfolding lines
lines-last [] h some = absurd (omega arith)
lines-last (c ∷ []) h some = rw (ne_eqb c 10 h.0) refl
lines-last (c ∷ (d ∷ ds)) h some = rw (ne_eqb c 10 h.0) (ap (with_byte c) (lines-last (d ∷ ds) h.1 (omega arith)))

pub some_lines : (text : List ℕ) → 0 < length text → 0 < length (lines text)
unfolding lines
some_lines [] h = absurd (omega arith)
some_lines (c ∷ cs) h = by (c == 10) (lines cs)
  where
    by : (b : Bool) (ls : List (List ℕ)) → 0 < length (cond b ([] ∷ ls) (with_byte c ls))
    by true ls = omega arith
    by false [] = omega arith
    by false (l ∷ ls) = omega arith
