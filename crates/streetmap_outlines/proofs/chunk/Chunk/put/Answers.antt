use Rattle.std.proofs.lemmas.List.Elements.{All-same, All-set}
use Rattle.streetmap_ledger.specs.declared.outline.FeatureOutline.{FeatureOutline}
use Rattle.streetmap_outlines.proofs.Each.{each_inserted}
use Rattle.streetmap_outlines.proofs.Listed.{Listed}
use Rattle.streetmap_outlines.proofs.Places.{put_in_place, put_in_gap}
use Rattle.streetmap_outlines.proofs.chunk.Chunk.put.Goals as goal

pub returns-in-Ok-clause-outlines : goal.returns-in-Ok-clause-outlines
returns-in-Ok-clause-outlines c = λ features f known one.
    let found = c.in-Ok.ensures in
    rw c.bound.ensures.same (put_in_place c.args.self.now.outlines.items c.as_str.result.now c.in-Ok.place features known f c.args.outline
    c.as_str.ensures.value one found.place found.bound)

pub returns-in_ok-insert-in-Err-clause-outlines : goal.returns-in_ok-insert-in-Err-clause-outlines
returns-in_ok-insert-in-Err-clause-outlines c = λ features f known one.
    let found = c.in-Err.ensures in
    rw (c.bound-in-Err.ensures.same, c.in_ok-insert-in-Err.ensures.items) (put_in_gap c.args.self.now.outlines.items c.as_str.result.now c.in-Err.place features
    known f c.args.outline c.as_str.ensures.value one found.place found.bound)

pub returns-in-Ok-clause-listed : goal.returns-in-Ok-clause-listed
returns-in-Ok-clause-listed c = λ cells listed one.
    let old = c.args.self.now in
    rw (c.bound.ensures.number, c.bound.ensures.same) (All-set (Listed cells old.number) old.outlines.items c.in-Ok.place c.args.outline one listed)

pub returns-in_ok-insert-in-Err-clause-listed : goal.returns-in_ok-insert-in-Err-clause-listed
returns-in_ok-insert-in-Err-clause-listed c = λ cells listed one.
    let old = c.args.self.now in
    let In : FeatureOutline → Type 0 = Listed cells old.number in
    rw (c.bound-in-Err.ensures.number, c.bound-in-Err.ensures.same) (All-same In _ _ c.in_ok-insert-in-Err.ensures.items
    (each_inserted In old.outlines.items c.in-Err.place c.args.outline one listed))
