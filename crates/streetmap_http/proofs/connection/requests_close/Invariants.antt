use Rattle.std.proofs.Common.{◌≡◌, drop}
use Rattle.std.specs.List.{list_any}
use Rattle.streetmap_http.specs.Fields.{pairs}
use Rattle.streetmap_http.specs.Connections.{closes}
use Rattle.streetmap_http.proofs.connection.requests_close.Given as goal

abbrev pub invariant-loop-header : goal.invariant-loop-header
invariant-loop-header l = list_any closes (pairs l.head (drop l.header-index l.headers)) ≡ list_any closes (pairs l.head l.headers)
