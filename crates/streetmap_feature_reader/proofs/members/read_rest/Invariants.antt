use Rattle.std.proofs.Common.{◌≡◌, ℕ, ◌≤◌, length}
use Rattle.serde_json.specs.View.{members_view}
use Rattle.streetmap_feature_reader.specs.Places.{members_after}
use Rattle.streetmap_feature_reader.proofs.members.read_rest.Given as goal

-- after the members found, the rest is read as the rest of the object
abbrev pub invariant-rest : goal.invariant-rest
invariant-rest l =
    ((all : ℕ) → length l.initial.reader ≤ all → (n : ℕ) × (length l.reader ≤ n)
    × (members_after (members_view l.initial.members.entries) l.depth all l.initial.reader ≡ members_after (members_view l.members.entries) l.depth n l.reader))
    × (length l.reader ≤ length l.initial.reader)

abbrev pub decreases-rest : goal.decreases-rest
decreases-rest l = length l.reader
