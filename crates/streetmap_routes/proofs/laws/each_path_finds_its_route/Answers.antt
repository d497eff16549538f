use Rattle.streetmap_routes.proofs.Finding.{each_finds_its_route}
use Rattle.streetmap_routes.proofs.laws.each_path_finds_its_route.Goals as goal

pub returns : goal.returns
returns c = each_finds_its_route
