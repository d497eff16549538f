use Rattle.std.proofs.Common.{◌≡◌, drop}
use Rattle.std.specs.List.{list_all}
use Rattle.streetmap_http.specs.Fields.{pairs}
use Rattle.streetmap_http.specs.Lengths.{is_same_length}
use Rattle.streetmap_http.proofs.length.are_same_lengths.Given as goal

abbrev pub invariant-loop-header : goal.invariant-loop-header
invariant-loop-header l = list_all (is_same_length l.other) (pairs l.head (drop l.header-index l.headers)) ≡ list_all (is_same_length l.other) (pairs l.head l.headers)
