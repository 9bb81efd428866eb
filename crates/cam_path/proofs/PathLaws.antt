-- A path that is read is spelled so, and what is spelled so is read.
use Rattle.std.proofs.Common.{◌≡◌, ◌<◌, ◌≤◌, ◌+◌, ◌^◌, ℕ, List, [], ◌∷◌, ◌++◌, length, take, drop, get_or, suc, subst, append-nil, Bool, true, false, cond, refl, sym, ap, ◌∙◌, arith, rules}
use Rattle.std.specs.Prelude.{Option, Some, None, IfSome, option_map, Result, Ok, Err, ok_or, decimal, nat_lt, nat_le, ◌==◌, ◌&&◌, ⊤}
use Rattle.std.specs.Char.{is_ascii_digit}
use Rattle.std.specs.List.{list_all, prefix_len}
use Rattle.std.proofs.lemmas.Bool.{and_parts, eqb-true, leb-true, le-leb, lt-ltb, ltb-true}
use Rattle.std.proofs.lemmas.Fmt.{digits_decimal}
use Rattle.std.proofs.lemmas.List.{drop-drop, drop_all, length-drop, take-append-drop}
use Rattle.std.proofs.Math.Seq.{drop-append_seam, drop-cons, take-append_seam}
use Rattle.std.specs.Str.Parse.{digits_value}
use Rattle.std.proofs.lemmas.Str.Parse.{IsNumeralModel, numerals_by_value}
use Rattle.cam_types.specs.Number.{number_of}
use Rattle.cam_types.proofs.NumberLemmas.{number_of-decimal, number_of-spelled, number_of-within}
use Rattle.cam_path.specs.Paths.{Fits, colon_at, digits_at, end_at, number_at, reading, spelled, ◌>>=◌, CamPath}

-- the value of a step that didn't fail
on_ok : {A B E Q : Type 0} (r : Result A E) (f : A → Result B E) (y : B) → (r >>= f) ≡ Ok y → ((x : A) → r ≡ Ok x → f x ≡ Ok y → Q) → Q
on_ok (Ok x) f y e k = k x refl e
on_ok (Err d) f y e k = absurd cc

-- ---- what is read is spelled so

ok_is : {A E : Type 0} (x y : A) → ◌≡◌ {A = Result A E} (Ok x) (Ok y) → x ≡ y
ok_is x y e = cc

formed : {A B : Type 0} (o : Option A) (f : A → B) (k : ℕ) (y : B) → ok_or (option_map f o) k ≡ Ok y → (x : A) × (o ≡ Some x) × (f x ≡ y)
formed None f k y e = absurd cc
formed (Some x) f k y e = (x, refl, cc)

some_at : (r : Option ℕ) (n : ℕ) (P : ℕ → Type 0) → r ≡ Some n → IfSome r P → P n
some_at r n P e h = rw e at h

pub number_takes : (most : ℕ) (text : List ℕ) (at : ℕ) (r : ℕ × ℕ) → most < 2 ^ 64 → number_at most text at ≡ Ok r → (drop at text ≡ decimal r.0 ++ drop r.1 text) × (r.0 ≤ most)
unfolding number_at
number_takes most text at r fits e =
    let k = digits_at text at in
    let field = take k (drop at text) in
    let f = formed (number_of most field) (λ m. (m, at + k)) at r e in
    let same : field ≡ decimal f.0 = some_at (number_of most field) f.0 (λ m. field ≡ decimal m) f.1 (number_of-spelled most field _ fits refl) in
    let whole : drop at text ≡ decimal f.0 ++ drop (at + k) text =
    sym (take-append-drop k (drop at text)) ∙ ap (λ (l : List ℕ). l ++ drop k (drop at text)) same ∙ ap (λ (l : List ℕ). decimal f.0 ++ l) (drop-drop k at text) in
    let small : f.0 ≤ most = number_of-within most f.0 field f.1 in
    subst (λ (q : ℕ × ℕ). (drop at text ≡ decimal q.0 ++ drop q.1 text) × (q.0 ≤ most)) f.2 (whole, small)

guarded : {X : Type 0} (b : Bool) (x y : X) (at : ℕ) → cond b (Ok x) (Err at) ≡ Ok y → (b ≡ true) × (x ≡ y)
guarded true x y at e = (refl, cc)
guarded false x y at e = absurd cc

drop_here : (text : List ℕ) (at : ℕ) → at < length text → drop at text ≡ get_or text at 0 ∷ drop (at + 1) text
drop_here text at h =
    let e : suc at ≡ at + 1 = omega arith in
    drop-cons text at 0 h ∙ ap (λ (k : ℕ). get_or text at 0 ∷ drop k text) e

pub colon_takes : (text : List ℕ) (at b : ℕ) → colon_at text at ≡ Ok b → drop at text ≡ 58 ∷ drop b text
unfolding colon_at
colon_takes text at b e =
    let g = guarded (nat_lt at (length text) && (get_or text at 0 == 58)) (at + 1) b at e in
    let p = and_parts _ _ g.0 in
    drop_here text at (ltb-true _ _ p.0) ∙ rw (eqb-true _ _ p.1, g.1) refl

pub end_takes : (text : List ℕ) (at : ℕ) (u : ⊤) → end_at text at ≡ Ok u → drop at text ≡ []
unfolding end_at
end_takes text at u e =
    let g = guarded (nat_le (length text) at) tt u at e in
    drop_all at text (leb-true _ _ g.0)

pub reading_takes : (text : List ℕ) (p : CamPath) → reading text ≡ Ok p → text ≡ spelled p
unfolding reading spelled
reading_takes text p e =
    on_ok (number_at 255 text 0) _ p e (λ bus e1 r1.
    on_ok (colon_at text bus.1) _ p r1 (λ colon e2 r2.
    on_ok (number_at 65535 text colon) _ p r2 (λ target e3 r3.
    on_ok (colon_at text target.1) _ p r3 (λ second e4 r4.
    on_ok (number_at 65535 text second) _ p r4 (λ lun e5 r5.
    on_ok (end_at text lun.1) _ p r5 (λ u e6 r6.
    let a = number_takes 255 text 0 bus (omega arith) e1 in
    let b = number_takes 65535 text colon target (omega arith) e3 in
    let c = number_takes 65535 text second lun (omega arith) e5 in
    let last : drop second text ≡ decimal lun.0 = c.0 ∙ rw (end_takes text lun.1 u e6) (append-nil _) in
    let middle : drop colon text ≡ decimal target.0 ++ (58 ∷ decimal lun.0) = b.0 ∙ rw (colon_takes text target.1 second e4, last) refl in
    let whole : text ≡ decimal bus.0 ++ (58 ∷ (decimal target.0 ++ (58 ∷ decimal lun.0))) = a.0 ∙ rw (colon_takes text bus.1 colon e2, middle) refl in
    let made : CamPath = record { bus = bus.0; target = target.0; lun = lun.0 } in
    subst (λ (q : CamPath). text ≡ spelled q) (ok_is made p r6) whole))))))

-- the numbers of a path that is read fit
pub reading_fits : (text : List ℕ) (p : CamPath) → reading text ≡ Ok p → Fits p
unfolding reading
reading_fits text p e =
    on_ok (number_at 255 text 0) _ p e (λ bus e1 r1.
    on_ok (colon_at text bus.1) _ p r1 (λ colon e2 r2.
    on_ok (number_at 65535 text colon) _ p r2 (λ target e3 r3.
    on_ok (colon_at text target.1) _ p r3 (λ second e4 r4.
    on_ok (number_at 65535 text second) _ p r4 (λ lun e5 r5.
    on_ok (end_at text lun.1) _ p r5 (λ u e6 r6.
    let a = number_takes 255 text 0 bus (omega arith) e1 in
    let b = number_takes 65535 text colon target (omega arith) e3 in
    let c = number_takes 65535 text second lun (omega arith) e5 in
    let made : CamPath = record { bus = bus.0; target = target.0; lun = lun.0 } in
    let fits : Fits made = record { bus = a.1; target = b.1; lun = c.1 } in
    subst Fits (ok_is made p r6) fits))))))

-- ---- what is spelled so is read

all_before : (p : ℕ → Bool) (xs rest : List ℕ) → list_all p xs ≡ true → prefix_len p rest ≡ 0 → prefix_len p (xs ++ rest) ≡ length xs
all_before p [] rest all stop = stop
all_before p (x ∷ xs) rest all stop =
    let a = and_parts (p x) (list_all p xs) all in
    let more = all_before p xs rest a.1 stop in
    rw (a.0, more) (omega arith)

own : IsNumeralModel (λ ds. list_all is_ascii_digit ds ≡ true) (digits_value 10)
own = numerals_by_value _ (search rules)

pub number_again : (most : ℕ) (text rest : List ℕ) (at n : ℕ) → most < 2 ^ 64 → n ≤ most → prefix_len is_ascii_digit rest ≡ 0 → drop at text ≡ decimal n ++ rest
    → (number_at most text at ≡ Ok (n, at + length (decimal n))) × (drop (at + length (decimal n)) text ≡ rest)
unfolding number_at
number_again most text rest at n fits small stop e =
    let count : digits_at text at ≡ length (decimal n) = ap (prefix_len is_ascii_digit) e ∙ all_before is_ascii_digit (decimal n) rest (digits_decimal own n (omega arith)) stop in
    let field : take (length (decimal n)) (drop at text) ≡ decimal n = ap (take (length (decimal n))) e ∙ take-append_seam (decimal n) rest in
    let behind : drop (at + length (decimal n)) text ≡ rest = sym (drop-drop (length (decimal n)) at text) ∙ ap (drop (length (decimal n))) e ∙ drop-append_seam (decimal n) rest in
    (rw (count, field, number_of-decimal most n fits small) refl, behind)

inside : (text : List ℕ) (at c : ℕ) (rest : List ℕ) → drop at text ≡ c ∷ rest → at < length text
inside text at c rest e = let size = length-drop at text in let same = ap (length {A = ℕ}) e in omega arith

pub colon_again : (text rest : List ℕ) (at : ℕ) → drop at text ≡ 58 ∷ rest → (colon_at text at ≡ Ok (at + 1)) × (drop (at + 1) text ≡ rest)
unfolding colon_at
colon_again text rest at e =
    let h = inside text at 58 rest e in
    let d = sym (drop_here text at h) ∙ e in
    let c : get_or text at 0 ≡ 58 = cc in
    let r : drop (at + 1) text ≡ rest = cc in
    (rw (lt-ltb _ _ h, c) refl, r)

pub end_again : (text : List ℕ) (at : ℕ) → drop at text ≡ [] → end_at text at ≡ Ok tt
unfolding end_at
end_again text at e =
    let size = length-drop at text in
    let none = ap (length {A = ℕ}) e in
    rw (le-leb (length text) at (omega arith)) refl

stops : (rest : List ℕ) → prefix_len is_ascii_digit (58 ∷ rest) ≡ 0
stops rest = refl

pub reading_again : (text : List ℕ) (p : CamPath) → Fits p → text ≡ spelled p → reading text ≡ Ok p
unfolding reading spelled
reading_again text p fits e =
    let from_target = decimal p.target ++ (58 ∷ decimal p.lun) in
    let colon = 0 + length (decimal p.bus) in
    let target = colon + 1 in
    let second = target + length (decimal p.target) in
    let lun = second + 1 in
    let end = lun + length (decimal p.lun) in
    let a = number_again 255 text (58 ∷ from_target) 0 p.bus (omega arith) fits.bus (stops from_target) e in
    let b = colon_again text from_target colon a.1 in
    let c = number_again 65535 text (58 ∷ decimal p.lun) target p.target (omega arith) fits.target (stops (decimal p.lun)) b.1 in
    let d = colon_again text (decimal p.lun) second c.1 in
    let f = number_again 65535 text [] lun p.lun (omega arith) fits.lun refl (d.1 ∙ sym (append-nil (decimal p.lun))) in
    let g = end_again text end f.1 in
    rw (a.0, b.0, c.0, d.0, f.0, g) refl

-- ---- the answer of a reader of paths

pub read_spelled : (text : List ℕ) (r : Result CamPath ℕ) (p : CamPath) → r ≡ reading text → r ≡ Ok p → text ≡ spelled p
read_spelled text r p h e = reading_takes text p (sym h ∙ e)

pub read_again : (text : List ℕ) (r : Result CamPath ℕ) (p : CamPath) → r ≡ reading text → Fits p → text ≡ spelled p → r ≡ Ok p
read_again text r p h fits e = h ∙ reading_again text p fits e
