-- A service without options.
use Rattle.std.proofs.Common.{refl}
use Rattle.streetmap_routes.specs.Operations.{operation_of, operation_with}
use Rattle.streetmap_web.specs.Guards.{guarded}
use Rattle.streetmap_guarantee.specs.WithoutOptions.{AllArePlain}
use Rattle.streetmap_web.proofs.Untagged.{untagged, unnumbered}

pub all_are_plain : AllArePlain
unfolding operation_with guarded
all_are_plain root h body s = record {
  wants = refl;
  answered = refl;
  untagged = untagged root s (operation_of h.method h.target body);
  unnumbered = unnumbered root s (operation_of h.method h.target body);
  leads = refl;
}
