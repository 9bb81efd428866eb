use Rattle.std.proofs.Common.{◌≡◌, ◌∙◌, ◌++◌, ◌∷◌, List, [], ap, append_assoc, map, refl, true}
use Rattle.record_text.specs.Text.{Row}
use Rattle.recording_file.specs.Recorded.{Recorded, IsRecording}
use Rattle.recording_file.specs.Records.{cap_row, header, name_row, records_of, request_row}
use Rattle.recording_file.specs.Writing.{head_rows, recording_text}
use Rattle.recording_file.proofs.TextLaws.{is_text}
use Rattle.record_text.proofs.WritingLemmas.{wrote_both}
use Rattle.recording_file.proofs.recording_text.recording_bytes.Goals as goal
use Rattle.record_text.specs.Header.{header_row}

-- the head's rows come before those of names, caps and requests
head_first : (r : Recorded) → header r.completions ∷ (head_rows r ++ (map name_row r.names ++ (map cap_row r.caps ++ map request_row r.requests))) ≡ records_of true r
unfolding records_of
head_first r = ap (λ (l : List Row). header r.completions ∷ l) (simp append_assoc refl)

pub returns-in-Ok-clause-text : goal.returns-in-Ok-clause-text
unfolding recording_text header_row
returns-in-Ok-clause-text c =
    let r = c.args.recording.now in
    let names = rw c.names.ensures.same at c.in_ok-write_names.ensures in
    let caps = rw c.caps.ensures.same at c.in_ok-write_caps.ensures in
    let requests = rw c.requests.ensures.same at c.in_ok-write_requests.ensures.rows in
    let items = wrote_both _ _ _ (map name_row r.names) _ names (wrote_both _ _ _ (map cap_row r.caps) (map request_row r.requests) caps requests) in
    let first = rw (c.name_text.ensures, c.completions.ensures.same) at c.in_ok-write_row.ensures in
    let all = wrote_both _ _ _ (header r.completions ∷ []) _ first (wrote_both _ _ _ (head_rows r) _ c.in_ok-write_head.ensures.rows items) in
    let whole = rw (head_first r) at all.text in
    let from = c.from_writer-writer.ensures in
    c.in-Ok.ensures.ok ∙ (rw (from.wtr, c.new-2.ensures.items, from.empty) at whole)

pub returns-in-Ok-clause-recording : goal.returns-in-Ok-clause-recording
returns-in-Ok-clause-recording c = record {
  kept = c.names.ensures.kept;
  unit = c.in_ok-write_head.ensures.unit;
  targets = c.in_ok-write_head.ensures.fits;
  fields = rw c.requests.ensures.same at c.in_ok-write_requests.ensures.fits;
}

pub returns-in-Ok-clause-read : goal.returns-in-Ok-clause-read
returns-in-Ok-clause-read c =
    let h : IsRecording c.args.recording.now = record {
      kept = c.names.ensures.kept;
      unit = c.in_ok-write_head.ensures.unit;
      targets = c.in_ok-write_head.ensures.fits;
      fields = rw c.requests.ensures.same at c.in_ok-write_requests.ensures.fits;
    } in
    is_text c.args.recording.now h
