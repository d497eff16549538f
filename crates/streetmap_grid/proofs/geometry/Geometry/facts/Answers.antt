use Rattle.streetmap_grid.proofs.Facts.{geometry_facts}
use Rattle.streetmap_grid.proofs.geometry.Geometry.facts.Goals as goal

pub returns : goal.returns
returns c = geometry_facts c.args.self.now
