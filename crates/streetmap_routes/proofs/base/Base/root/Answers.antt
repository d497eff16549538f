use Rattle.streetmap_routes.specs.BaseView.{root_of}
use Rattle.streetmap_routes.proofs.Roots.{front}
use Rattle.streetmap_routes.proofs.base.Base.root.Goals as goal

pub returns-clause-value : goal.returns-clause-value
unfolding root_of
returns-clause-value c = front _ _ c.without_slash.ensures
