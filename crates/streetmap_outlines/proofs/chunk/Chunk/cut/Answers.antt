use Rattle.streetmap_outlines.proofs.Each.{each_removed}
use Rattle.streetmap_outlines.proofs.Listed.{Listed}
use Rattle.streetmap_outlines.proofs.Places.{cut_in_place, none_to_cut}
use Rattle.streetmap_outlines.proofs.chunk.Chunk.cut.Goals as goal

pub returns-in-Ok-clause-outlines : goal.returns-in-Ok-clause-outlines
returns-in-Ok-clause-outlines c = λ features known.
    let found = c.in-Ok.ensures in
    rw (c.bound.ensures.same, c.remove.ensures.items) (cut_in_place c.args.self.now.outlines.items c.args.id.now c.in-Ok.place features known found.place
    found.bound)

pub returns-in_default-clause-outlines : goal.returns-in_default-clause-outlines
returns-in_default-clause-outlines c = λ features known. none_to_cut c.args.self.now.outlines.items c.args.id.now c.in_default.field-0 features known
    c.in_default.ensures.place

pub returns-in-Ok-clause-listed : goal.returns-in-Ok-clause-listed
returns-in-Ok-clause-listed c = λ cells listed.
    let old = c.args.self.now in
    rw (c.bound.ensures.number, c.bound.ensures.same, c.remove.ensures.items) (each_removed (Listed cells old.number) old.outlines.items c.in-Ok.place listed)
