use Rattle.std.proofs.Common.{◌≡◌}
use Rattle.streetmap_http.specs.Arrivals.{HasScanned}
use Rattle.streetmap_http.proofs.arrival.HeadScan.find_head.Given as goal

abbrev pub invariant-loop-at : goal.invariant-loop-at
invariant-loop-at l = (l.self.scanned ≡ l.at) × HasScanned l.self l.bytes
