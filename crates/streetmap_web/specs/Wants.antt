-- What a request wants, as a value.
use Rattle.std.specs.Option.{option_map}
use Rattle.streetmap_http.specs.PreconditionsView.{preconditions_value}
use Rattle.streetmap_routes.specs.OperationView.{operation_value}
use Rattle.streetmap_web.specs.Response as spec
use Rattle.streetmap_web.specs.declared.wanted.Wanted.{Wanted}

-- the operation, its conditions if there are any, and whether its answer shows the serial
abbrev pub wanted_value : Wanted → spec.Wanted
wanted_value wanted = record {
  operation = operation_value wanted.operation;
  conditions = option_map preconditions_value wanted.conditions;
  numbered = wanted.numbered;
}
