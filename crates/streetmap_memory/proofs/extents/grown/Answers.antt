use Rattle.std.proofs.Common.{option_map, ap, sym, subst, ◌∙◌}
use Rattle.streetmap_grid.specs.Bounds.{AreBounds}
use Rattle.streetmap_grid.specs.Views.{box_value}
use Rattle.streetmap_memory.proofs.ExtentLemmas.{grown_first, grown_next}
use Rattle.streetmap_memory.proofs.extents.grown.Goals as goal

pub returns-in-None-default : goal.returns-in-None-default
returns-in-None-default c = λ ps none. grown_first ps c.extent.result c.args.feature.now.geometry c.facts.ensures.made c.extent.ensures
    (subst (AreBounds ps) c.in-None-default.is-0 none)

pub returns-in-Some-Some : goal.returns-in-Some-Some
returns-in-Some-Some c = λ ps bounds. grown_next ps c.in-Some-Some.extent c.union.result c.args.feature.now.geometry c.facts.ensures.made
    (ap (option_map box_value) (sym c.in-Some-Some.is-1) ∙ c.extent.ensures) (λ qs there.
    c.union.ensures.extent ps qs (subst (AreBounds ps) c.in-Some-Some.is-0 bounds) there)
