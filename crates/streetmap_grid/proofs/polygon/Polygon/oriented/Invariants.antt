use Rattle.std.proofs.Common.{◌≡◌, ℕ, ◌<◌, ◌≤◌, vec_len, slice_index_or, nat_lt}
use Rattle.streetmap_grid.specs.declared.ring.Ring.{Ring}
use Rattle.streetmap_grid.specs.Views.{ring_value}
use Rattle.streetmap_grid.specs.Ring.{turned}
use Rattle.streetmap_grid.proofs.polygon.Polygon.oriented.Given as goal

abbrev pub invariant-loop-i : goal.invariant-loop-i
invariant-loop-i l = record {
  len : vec_len l.rings ≡ vec_len l.fn.self.rings;
  done : (k : ℕ) (d : Ring) → k < l.i → ring_value (slice_index_or l.rings.items k d) ≡ turned (nat_lt 0 k) (ring_value (slice_index_or l.fn.self.rings.items k d));
  rest : (k : ℕ) (d : Ring) → l.i ≤ k → slice_index_or l.rings.items k d ≡ slice_index_or l.fn.self.rings.items k d;
}
