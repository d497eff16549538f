use Rattle.std.proofs.Common.{List, ◌∷◌, length}
use denote.Text.{Utf8}
use denote.Shadow.{shadow}
use Rattle.streetmap_grid.specs.Values.{PositionValue}
use Rattle.streetmap_grid.specs.Views.{box_value}
use Rattle.streetmap_feature_text.specs.Written.{line_data}
use Rattle.streetmap_compact_reader.specs.Fronts.{AreRings}
use Rattle.streetmap_compact_reader.proofs.Listed.{Listed}
use Rattle.streetmap_compact_reader.proofs.rings.take_rings.Given as goal

-- the rings so far are those of the array, and what is kept is theirs
abbrev pub invariant-loop-apart : goal.invariant-loop-apart
invariant-loop-apart l = record {
  utf8 : shadow (Utf8 l.after);
  first : PositionValue;
  others : List PositionValue;
  holes : List (List PositionValue);
  text : Listed line_data l.fn.rest l.after ((first ∷ others) ∷ holes);
  are : AreRings (first ∷ others) holes l.count (box_value l.extent);
}

abbrev pub decreases-loop-apart : goal.decreases-loop-apart
decreases-loop-apart l = length l.after
