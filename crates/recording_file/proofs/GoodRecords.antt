-- Each record of a recording is read as it was written, and is short.
use Rattle.std.proofs.Common.{◌≡◌, ◌≤◌, ℕ, List, [], length, Bool, true, false, refl, arith, Option, Some, None, IfSome, decimal, codes, nat_le, nat_lt}
use Rattle.std.proofs.lemmas.Bool.{and_parts, leb-true, ltb-true}
use Rattle.csv.specs.Writing.{escaped}
use Rattle.recording_file.specs.Names.{NameValue, is_name, is_name_text, is_next_name, named_count, NameKind}
use Rattle.recording_file.specs.declared.name.NameKind.TheVariants as named
use Rattle.recording_file.specs.Caps.{Cap, is_cap, is_next_cap, part_count, PartKind}
use Rattle.recording_file.specs.declared.part.PartKind.TheVariants as part
use Rattle.recording_file.specs.Words.{named_text, part_text, spelled, time_text, TimeUnit, RecordingWord, name_text}
use Rattle.recording_file.specs.declared.span.TimeUnit.TheVariants as time
use Rattle.recording_file.specs.declared.word.RecordingWord.TheVariants as word
use Rattle.recording_file.specs.Recorded.{Request, Span, MAX_RECORDED_ROUNDS}
use Rattle.recording_file.specs.Counts.{Counts}
use Rattle.record_text.specs.Fields.{max_number}
use Rattle.recording_file.specs.Records.{cap_row, header, name_row, request_row, rounds_row, unit_row, unit_rows, FitsRequest}
use Rattle.record_text.specs.ConfigRows.{optional_text}
use Rattle.record_text.proofs.GoodRows.{AreGood, IsGood, and_more, good_header_of, none_good, one_good, optional_in, two_good, weaker}
use Rattle.record_text.proofs.RowSizes.{FitsIn, eight, escaped-le, five, nothing_in, ten}
use Rattle.recording_file.proofs.ParsedAgain.{IsCounted, named_small}
use Rattle.record_text.specs.Header.{header_row}

-- ---- the records of a recording

word_in : (w : RecordingWord) → FitsIn 7 (spelled w)
unfolding escaped
word_in word.Unit = omega arith
word_in _ = omega arith

time_in : (u : TimeUnit) → FitsIn 2 (time_text u)
unfolding escaped
time_in time.Nanosecond = omega arith
time_in _ = omega arith

named_in : (k : NameKind) → FitsIn 6 (named_text k)
unfolding escaped
named_in named.Driver = omega arith
named_in _ = omega arith

part_in : (k : PartKind) → FitsIn 4 (part_text k)
unfolding escaped
part_in part.Device = omega arith
part_in _ = omega arith

pub good_header : (v : Bool) → IsGood 43 (header v)
unfolding header_row escaped
good_header true = good_header_of (name_text true) (omega arith) refl
good_header false = good_header_of (name_text false) (omega arith) refl

pub good_rounds : (n : ℕ) → n ≤ max_number → IsGood 44 (rounds_row n)
unfolding escaped
good_rounds n h = (refl, one_good (codes "rounds") n (omega arith) h)

pub good_unit : (o : Option Span) → IfSome o (λ (u : Span). u.count ≤ 4294967295) → AreGood 54 (unit_rows o)
unfolding escaped
good_unit None h = weaker 0 54 [] (omega arith) none_good
good_unit (Some u) h =
    let unit = time_in u.unit in
    and_more 54 0 (unit_row u) [] (refl, two_good (codes "unit") u.count (time_text u.unit) (omega arith) h (omega arith)) none_good

pub good_name : (counts : Counts) → IsCounted counts → (before : List NameValue) (x : NameValue) → is_name counts (before, x) ≡ true → IsGood 177 (name_row x)
unfolding is_name is_name_text
good_name counts small before x e =
    let there = and_parts (nat_lt x.number (named_count counts x.kind)) _ e in
    let text = and_parts (is_next_name before x.kind x.number) _ there.1 in
    let some = and_parts (nat_le 1 (length x.text)) _ text.1 in
    let few = and_parts (nat_le (length x.text) 64) _ some.1 in
    let most = leb-true _ _ few.0 in
    let long = escaped-le x.text in
    let less = ltb-true _ _ there.0 in
    let number = named_small counts x.kind small in
    let z = nothing_in in
    (refl, eight (codes "name") (named_text x.kind) (decimal x.number) x.text [] [] [] [] 7 6 10 128 0 0 0 0 (word_in word.Name) (named_in x.kind) (ten x.number (omega arith)) (omega arith) z z z z)

few_parts : (c : Counts) (k : PartKind) → IsCounted c → part_count c k ≤ 32
few_parts c part.Device h = h.devices
few_parts c part.Adapter h = let few = h.adapters in omega arith
few_parts c part.Link h = let few = h.links in omega arith

pub good_cap : (rounds : ℕ) (counts : Counts) → IsCounted counts → rounds ≤ MAX_RECORDED_ROUNDS → (before : List Cap) (c : Cap) → is_cap rounds counts (before, c) ≡ true → IsGood 57 (cap_row c)
unfolding is_cap
good_cap rounds counts small few before c e =
    let there = and_parts (nat_lt c.part.number (part_count counts c.part.kind)) _ e in
    let next = and_parts (is_next_cap before c.part c.first) _ there.1 in
    let some = and_parts (nat_le 1 c.first) _ next.1 in
    let order = and_parts (nat_le c.first c.last) _ some.1 in
    let end = and_parts (nat_le c.last rounds) _ order.1 in
    let first = leb-true _ _ order.0 in
    let last = leb-true _ _ end.0 in
    let most = leb-true _ _ end.1 in
    let less = ltb-true _ _ there.0 in
    let number = few_parts counts c.part.kind small in
    let z = nothing_in in
    (refl, eight (codes "cap") (part_text c.part.kind) (decimal c.part.number) (decimal c.first) (decimal c.last) (decimal c.most) [] [] 7 4 5 5 5 5 0 0 (word_in word.Cap) (part_in c.part.kind) (five c.part.number (omega arith)) (five c.first (omega arith)) (five c.last (omega arith)) (five c.most most) z z)

pub good_request : (q : Request) → FitsRequest q → IsGood 98 (request_row q)
good_request q h =
    let driver = h.driver in
    (refl, eight (codes "request") (decimal q.driver) (decimal q.device) (decimal q.priority) (decimal q.arrival) (optional_text q.last) (decimal q.sent) (optional_text q.done) 7 5 10 10 10 10 10 10 (word_in word.Request) (five q.driver (omega arith)) (ten q.device h.device) (ten q.priority h.priority) (ten q.arrival h.arrival) (optional_in q.last h.last) (ten q.sent h.sent) (optional_in q.done h.done))
