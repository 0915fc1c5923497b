use Rattle.std.proofs.Common.{rules, ◌<◌, ◌≤◌, List, [], length, sym, subst₂}
use Rattle.std.proofs.lemmas.List.{take_more}
use Rattle.parallel_scripts.specs.declared.part.Part.{Part}
use Rattle.shared.specs.Scripts.{Text}
use Rattle.parallel_scripts.specs.Cut.{texts_in}
use Rattle.parallel_scripts.proofs.Cutting.{HasCut, begins, goes_with, ends_with, finishes_with, take_all}
use Rattle.parallel_scripts.proofs.cut.cut.Goals.{in-Some+in_ok-put, in_default}
use Rattle.parallel_scripts.proofs.cut.cut.Goals as goal

pub loop-byte-init : goal.loop-byte-init
loop-byte-init c =
    subst₂ (λ (t : List Text) (p : List Part). HasCut [] c.in_ok-cutter.cutter (texts_in t) p) (sym c.new-2.ensures.items) (sym c.new-3.ensures.items)
    (begins c.in_ok-cutter.cutter c.in_ok-cutter.ensures)

pub loop-byte-preserved : goal.loop-byte-preserved
loop-byte-preserved c =
    let i = c.loop-byte.byte-index in
    let less : i < length c.args.bytes.now = search rules in
    let taken = take_more c.args.bytes.now i 0 less in
    elim c.match-take.branch [
      | in-Some+in_ok-put w ↦ rw (w.cutter-is, w.script-is)
          (ends_with _ _ _ _ c.loop-byte.cutter c.take.new.self w.clear.new.self _ _ _ _ _ taken c.loop-byte.invariant w.in-Some.ensures.ends w.clear.ensures w.text.ensures w.in_ok-put.ensures.texts w.in_ok-put.ensures.parts)
      | in_default w ↦ rw (w.cutter-is, w.script-is) (goes_with _ _ _ c.loop-byte.cutter c.take.new.self _ _ taken c.loop-byte.invariant w.in_default.ensures.goes_on)
    ]

pub returns : goal.returns
returns c =
    let past : length c.args.bytes.now ≤ c.loop-byte.byte-index = search rules in
    let all = take_all c.loop-byte.byte-index c.args.bytes.now past in
    finishes_with _ _ _ c.loop-byte.cutter c.finish-last.new.self _ _ _ _ _ (sym all) c.loop-byte.invariant c.finish-last.ensures c.text-2.ensures c.in_ok-put-2.ensures.texts c.in_ok-put-2.ensures.parts
