use Rattle.std.proofs.Common.{List, ◌∷◌, length}
use denote.Text.{Utf8}
use denote.Shadow.{shadow}
use Rattle.streetmap_grid.specs.Values.{PositionValue}
use Rattle.streetmap_feature_text.specs.Written.{position_data}
use Rattle.streetmap_compact_reader.specs.Fronts.{IsKeptOf}
use Rattle.streetmap_compact_reader.proofs.Listed.{Listed}
use Rattle.streetmap_compact_reader.proofs.positions.take_positions.Given as goal

-- the positions so far are those of the array, and what is kept is theirs
abbrev pub invariant-loop-apart : goal.invariant-loop-apart
invariant-loop-apart l = record {
  utf8 : shadow (Utf8 l.after);
  first : PositionValue;
  others : List PositionValue;
  text : Listed position_data l.fn.rest l.after (first ∷ others);
  are : IsKeptOf first others l.kept;
}

abbrev pub decreases-loop-apart : goal.decreases-loop-apart
decreases-loop-apart l = length l.after
