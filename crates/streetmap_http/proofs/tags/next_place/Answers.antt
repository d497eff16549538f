use Rattle.std.proofs.Common.{◌+◌, ◌∙◌, get_or, ap, sym}
use Rattle.streetmap_http.specs.Tags.{step}
use Rattle.streetmap_http.specs.TagPlaces.{place_value}
use Rattle.streetmap_http.proofs.tags.next_place.Goals as goal

pub returns-in-After-clause-value : goal.returns-in-After-clause-value
returns-in-After-clause-value c =
    let list = c.args.list.now in
    c.from_after.ensures.value list (c.args.at + 1) ∙ ap (λ p. step (place_value list c.args.at p) (get_or list c.args.at 0)) (sym c.in-After.is)

pub returns-in-After-clause-begun : goal.returns-in-After-clause-begun
returns-in-After-clause-begun c = c.from_after.ensures.begun (c.args.at + 1)
