use Rattle.std.proofs.Common.{◌≡◌, ℕ, ◌≤◌, length}
use Rattle.streetmap_json.specs.Values.{members_at}
use Rattle.streetmap_feature_reader.specs.Places.{members_after}
use Rattle.streetmap_feature_reader.specs.StatedGeometry.{geometry_values}
use Rattle.streetmap_feature_reader.proofs.stated_geometry.read_object.Given as goal

-- after the members found, the rest is read as the rest of the object
abbrev pub invariant-members : goal.invariant-members
invariant-members l =
    (n : ℕ) × (length l.reader ≤ n)
    × (members_at l.depth l.initial.reader ≡ members_after (geometry_values l.found) l.depth n l.reader)
    × (length l.reader ≤ length l.initial.reader)

abbrev pub decreases-members : goal.decreases-members
decreases-members l = length l.reader
