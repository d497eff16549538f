-- The site of a service of clients.
use Rattle.streetmap_command.specs.declared.command.Connections.{Connections}
use Rattle.streetmap_routes.specs.BaseView.{root_of}
use Rattle.streetmap_routes.specs.declared.base.Base.{Base}
use Rattle.streetmap_web.specs.Site.{SiteValue, guard_value}
use Rattle.streetmap_web.specs.declared.guard.Guard.{Guard}

-- its base and its guard, with the tags and the further paths that its options give
abbrev pub site_of : Base → Guard → Connections → SiteValue
site_of base guard connections = record {
  root = root_of base;
  tags = connections.conditional;
  offers = record { changes = connections.changes; status = connections.status };
  guard = guard_value guard;
}
