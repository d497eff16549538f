-- A query as a plain value.
use Rattle.std.specs.Prelude.{ℕ, List, Option}
use Rattle.streetmap_grid.specs.Values.{BoxValue}
use Rattle.streetmap_moment.specs.IntervalValue.{IntervalValue}

-- the value of `datetime`: its decoded text, and the interval that the text means
pub record DatetimeValue : Type 0 where
  pub text : List ℕ
  pub interval : IntervalValue

-- OGC 17-069, 7.15: `bbox`, `datetime` and `limit`; and the id after which the page starts
pub record QueryValue : Type 0 where
  pub bbox : Option BoxValue
  pub datetime : Option DatetimeValue
  pub limit : ℕ
  pub after : Option (List ℕ)
