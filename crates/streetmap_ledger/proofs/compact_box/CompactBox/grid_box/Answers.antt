use Rattle.std.proofs.Common.{ap}
use Rattle.streetmap_grid.specs.declared.grid_box.GridBox.{GridBox}
use Rattle.streetmap_ledger.proofs.SameBox.{same_box, same_bound}
use Rattle.streetmap_ledger.proofs.compact_box.CompactBox.grid_box.Goals as goal

pub returns : goal.returns
returns c =
    let b = c.self.inside in
    let is = c.self.view_is in
    same_box _ _
    (same_bound _ b.x0 _ c.from.ensures b.west (ap (λ (g : GridBox). g.x0) is))
    (same_bound _ b.y0 _ c.from-2.ensures b.south (ap (λ (g : GridBox). g.y0) is))
    (same_bound _ b.x1 _ c.from-3.ensures b.east (ap (λ (g : GridBox). g.x1) is))
    (same_bound _ b.y1 _ c.from-4.ensures b.north (ap (λ (g : GridBox). g.y1) is))
