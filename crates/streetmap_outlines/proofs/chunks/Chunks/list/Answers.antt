use Rattle.std.proofs.Common.{Option, sym, subst, ◌∙◌}
use Rattle.std.specs.Result.{OnOk}
use Rattle.std.proofs.lemmas.List.{get_or_default}
use Rattle.streetmap_grid.specs.declared.grid_box.GridBox.{GridBox}
use Rattle.streetmap_outlines.specs.Outlines.{IsListedIf, IsListedChunk, AreListed}
use Rattle.streetmap_outlines.specs.declared.chunk.Chunk.{Chunk}
use Rattle.streetmap_outlines.proofs.Results.{on_ok_from}
use Rattle.streetmap_outlines.proofs.Listed.{still_listed}
use Rattle.streetmap_outlines.proofs.chunks.Chunks.list.Goals as goal

pub returns-then-has-clause-listed : goal.returns-then-has-clause-listed
returns-then-has-clause-listed c = λ d listed.
    let cs = c.args.self.now.chunks.items in
    let cells = c.args.self.now.cells in
    let place = c.args.place in
    let chunk = c.index.result.now in
    let here = subst (IsListedChunk cells) (sym c.index.ensures) (listed place chunk c.requires) in
    subst (λ (x : Chunk). IsListedIf cells x.number c.args.outline.now.extent) (c.index.ensures ∙ get_or_default cs place chunk d c.requires)
    (subst (IsListedIf cells chunk.number) c.extent.ensures (c.has.ensures c.if-has.true cells here))

pub returns-clause-kept : goal.returns-clause-kept
returns-clause-kept c = λ listed.
    let cs = c.args.self.now.chunks.items in
    let old = c.args.self.now.cells in
    let renewed = c.renew.new.cells in
    let same = c.as_slice.ensures.value in
    let all = subst (AreListed renewed) same (c.in_ok-renew.ensures (subst (AreListed old) (sym same) listed)) in
    on_ok_from c.list_extent.result (still_listed renewed c.list_extent.new.cells c.list_extent.ensures.kept cs all)

pub returns-clause-listed : goal.returns-clause-listed
returns-clause-listed c = λ d listed.
    let cs = c.args.self.now.chunks.items in
    let place = c.args.place in
    let chunk = c.index-2.result.now in
    subst (λ (x : Chunk). OnOk c.list_extent.result (IsListedIf c.list_extent.new.cells x.number c.args.outline.now.extent))
    (c.index-2.ensures ∙ get_or_default cs place chunk d c.requires)
    (subst (λ (e : Option GridBox). OnOk c.list_extent.result (IsListedIf c.list_extent.new.cells chunk.number e)) c.extent-2.ensures
    c.list_extent.ensures.listed)
