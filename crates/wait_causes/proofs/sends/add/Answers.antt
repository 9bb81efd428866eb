use Rattle.std.proofs.Common.{◌∙◌, [], ◌∷◌, List, ℕ, refl, sym}
use Rattle.round_net.specs.Instance.{adapter, adapter_resource, link_resource}
use Rattle.round_net.specs.Rows.{instance_of_rows, live_of_rows}
use Rattle.wait_causes.specs.Sends.{AreNoted, IsNew}
use Rattle.wait_causes.proofs.SendsLemmas.{noted_none, noted_all, adapter_new, link_new, sound_placed, path_with, path_without}
use Rattle.wait_causes.proofs.sends.add.Goals as goal

pub note-requires-clause-apart : goal.note-requires-clause-apart
note-requires-clause-apart c = ([], noted_none (instance_of_rows c.args.net.now) (live_of_rows c.args.net.now) c.args.stay c.args.sends.now c.requires.before, refl)

pub note-requires-2-clause-apart : goal.note-requires-2-clause-apart
note-requires-2-clause-apart c =
    let net = instance_of_rows c.args.net.now in
    let live = live_of_rows c.args.net.now in
    let s = c.args.stay in
    let first : AreNoted net live s (net.device s ∷ []) c.note.new.sends = rw c.device.ensures.same at (c.note.ensures.noted [] refl (noted_none net live s c.args.sends.now c.requires.before)) in
    let fresh : IsNew (net.device s ∷ []) c.adapter_resource.result = rw (c.adapter_resource.ensures.same, c.adapter.ensures.same) (adapter_new net live s (sound_placed net live s c.note.ensures.sound c.requires.stay)) in
    (net.device s ∷ [], first, fresh)

pub note-requires-in-Some-clause-apart : goal.note-requires-in-Some-clause-apart
note-requires-in-Some-clause-apart c =
    let net = instance_of_rows c.args.net.now in
    let live = live_of_rows c.args.net.now in
    let s = c.args.stay in
    let placed = sound_placed net live s c.note.ensures.sound c.requires.stay in
    let first : AreNoted net live s (net.device s ∷ []) c.note.new.sends = rw c.device.ensures.same at (c.note.ensures.noted [] refl (noted_none net live s c.args.sends.now c.requires.before)) in
    let fresh : IsNew (net.device s ∷ []) c.adapter_resource.result = rw (c.adapter_resource.ensures.same, c.adapter.ensures.same) (adapter_new net live s placed) in
    let second : AreNoted net live s (net.device s ∷ adapter_resource net (adapter net s) ∷ []) c.note-2.new.sends = rw (c.adapter_resource.ensures.same, c.adapter.ensures.same) at (c.note-2.ensures.noted (net.device s ∷ []) fresh first) in
    (net.device s ∷ adapter_resource net (adapter net s) ∷ [], second, rw c.link_resource.ensures.same (link_new net live s c.in-Some.link placed))

pub returns-in-Some : goal.returns-in-Some
returns-in-Some c =
    let net = instance_of_rows c.args.net.now in
    let live = live_of_rows c.args.net.now in
    let s = c.args.stay in
    let placed = sound_placed net live s c.note.ensures.sound c.requires.stay in
    let first : AreNoted net live s (net.device s ∷ []) c.note.new.sends = rw c.device.ensures.same at (c.note.ensures.noted [] refl (noted_none net live s c.args.sends.now c.requires.before)) in
    let fresh : IsNew (net.device s ∷ []) c.adapter_resource.result = rw (c.adapter_resource.ensures.same, c.adapter.ensures.same) (adapter_new net live s placed) in
    let second : AreNoted net live s (net.device s ∷ adapter_resource net (adapter net s) ∷ []) c.note-2.new.sends = rw (c.adapter_resource.ensures.same, c.adapter.ensures.same) at (c.note-2.ensures.noted (net.device s ∷ []) fresh first) in
    let own : List ℕ = net.device s ∷ adapter_resource net (adapter net s) ∷ [] in
    let third : AreNoted net live s (net.device s ∷ adapter_resource net (adapter net s) ∷ link_resource net c.in-Some.link ∷ []) c.note-in-Some.new.sends = rw c.link_resource.ensures.same at (c.note-in-Some.ensures.noted own (rw c.link_resource.ensures.same (link_new net live s c.in-Some.link placed)) second) in
    noted_all net live s (net.device s ∷ adapter_resource net (adapter net s) ∷ link_resource net c.in-Some.link ∷ []) c.note-in-Some.new.sends (path_with net s c.in-Some.link (sym c.link.ensures.same ∙ c.in-Some.is)) third

pub returns-in-None : goal.returns-in-None
returns-in-None c =
    let net = instance_of_rows c.args.net.now in
    let live = live_of_rows c.args.net.now in
    let s = c.args.stay in
    let placed = sound_placed net live s c.note.ensures.sound c.requires.stay in
    let first : AreNoted net live s (net.device s ∷ []) c.note.new.sends = rw c.device.ensures.same at (c.note.ensures.noted [] refl (noted_none net live s c.args.sends.now c.requires.before)) in
    let fresh : IsNew (net.device s ∷ []) c.adapter_resource.result = rw (c.adapter_resource.ensures.same, c.adapter.ensures.same) (adapter_new net live s placed) in
    let second : AreNoted net live s (net.device s ∷ adapter_resource net (adapter net s) ∷ []) c.note-2.new.sends = rw (c.adapter_resource.ensures.same, c.adapter.ensures.same) at (c.note-2.ensures.noted (net.device s ∷ []) fresh first) in
    noted_all net live s (net.device s ∷ adapter_resource net (adapter net s) ∷ []) c.note-2.new.sends (path_without net s (sym c.link.ensures.same ∙ c.in-None.is)) second
