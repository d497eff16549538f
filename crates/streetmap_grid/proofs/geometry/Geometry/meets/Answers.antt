use Rattle.std.proofs.lemmas.Bool.Decides.{same_from_decides}
use Rattle.streetmap_grid.specs.Views.{geometry_value, box_value}
use Rattle.streetmap_grid.specs.Meeting as meeting
use Rattle.streetmap_grid.specs.Extent.{extent_of, Overlaps}
use Rattle.streetmap_grid.proofs.Facts.{geometry_facts}
use Rattle.streetmap_grid.proofs.Growing.{extent_is, ordered_extent}
use Rattle.streetmap_grid.proofs.Deciding.{geometry_decides}
use Rattle.streetmap_grid.proofs.Overlapping.{geometry_overlaps}
use Rattle.streetmap_grid.proofs.Within.{within_decides, geometry_within}
use Rattle.streetmap_grid.proofs.Booleans.{on_true}
use Rattle.streetmap_grid.proofs.geometry.Geometry.meets.Goals as goal

pub returns-clause-test : goal.returns-clause-test
returns-clause-test c =
    let g = c.args.area.now in
    same_from_decides c.geometry_meets.result (meeting.geometry_meets (geometry_value c.args.self.now) (box_value g)) c.geometry_meets.ensures (geometry_decides (geometry_value c.args.self.now) (box_value g) g.wide g.tall)

pub returns-clause-overlaps : goal.returns-clause-overlaps
returns-clause-overlaps c =
    let v = geometry_value c.args.self.now in
    let g = c.args.area.now in
    let facts = geometry_facts c.args.self.now in
    on_true c.geometry_meets.result (Overlaps (extent_of v) (box_value g))
    (λ t. geometry_overlaps (extent_of v) (box_value g) (g.wide, g.tall) v facts (extent_is v facts).holds (c.geometry_meets.ensures.0 t))

pub returns-clause-within : goal.returns-clause-within
returns-clause-within c =
    let v = geometry_value c.args.self.now in
    let g = c.args.area.now in
    let facts = geometry_facts c.args.self.now in
    λ t. c.geometry_meets.ensures.1 (geometry_within (extent_of v) (box_value g) v facts (extent_is v facts).holds ((within_decides (extent_of v) (box_value g) (ordered_extent v facts)).0 t))
