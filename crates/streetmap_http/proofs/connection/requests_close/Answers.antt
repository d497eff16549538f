use Rattle.std.proofs.Common.{rules}
use Rattle.streetmap_http.specs.Connections.{requests_close}
use Rattle.streetmap_http.proofs.connection.requests_close.Goals as goal

pub returns-then-minor-eq0 : goal.returns-then-minor-eq0
unfolding requests_close
returns-then-minor-eq0 c = search rules
