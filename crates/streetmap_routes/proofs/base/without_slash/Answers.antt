use Rattle.std.proofs.Common.{◌++◌, ap, ◌∙◌, codes}
use Rattle.streetmap_routes.proofs.Roots.{root_and_slash}
use Rattle.streetmap_routes.proofs.base.without_slash.Goals as goal

pub returns : goal.returns
returns c = ap (λ l. l ++ codes "/") c.slice.ensures.value ∙ root_and_slash c.args.url.now c.requires
