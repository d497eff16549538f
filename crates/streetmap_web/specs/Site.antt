-- A service, as a value.
use Rattle.std.specs.Prelude.{Bool, string_bytes}
use Rattle.streetmap_batch.specs.Text.{Text}
use Rattle.streetmap_routes.specs.BaseView.{root_of}
use Rattle.streetmap_routes.specs.declared.offers.Offers.{Offers}
use Rattle.streetmap_web.specs.Guards.{GuardValue, free, fenced, follower}
use Rattle.streetmap_web.specs.declared.guard.Guard.{Guard}
use Rattle.streetmap_web.specs.declared.guard.Guard.TheVariants as guards
use Rattle.streetmap_web.specs.declared.site.Site.{Site}

-- a guard as a value
abbrev pub guard_value : Guard → GuardValue
guard_value guards.Free = free
guard_value guards.Fenced = fenced
guard_value (guards.Follower its) = follower (string_bytes its)

-- the base of its links without its last slash, whether its answers have tags, what it offers
-- beside the eight paths, and which batches it refuses
pub record SiteValue : Type 0 where
  pub root : Text
  pub tags : Bool
  pub offers : Offers
  pub guard : GuardValue

-- that of a site
abbrev pub site_value : Site → SiteValue
site_value site = record {
  root = root_of site.base;
  tags = site.tags;
  offers = site.offers;
  guard = guard_value site.guard;
}
