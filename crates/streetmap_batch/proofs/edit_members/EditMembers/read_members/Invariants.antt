use Rattle.std.proofs.Common.{◌≡◌, ℕ, ◌≤◌, length}
use Rattle.json.specs.Json.{value, members}
use Rattle.serde_json.specs.Read.{of_members, converted}
use Rattle.streetmap_json.specs.Values.{members_at}
use Rattle.streetmap_batch.specs.EditMembers.{stated_members}
use Rattle.streetmap_batch.proofs.edit_members.EditMembers.read_members.Given as goal

-- after the members read, the rest is read as the rest of the object
abbrev pub invariant-names : goal.invariant-names
invariant-names l =
    (n : ℕ) × (length l.reader ≤ n)
    × (members_at l.depth l.initial.reader ≡ converted (λ rest. of_members rest (stated_members l.members)) (members (value l.depth) n l.reader))
    × (length l.reader ≤ length l.initial.reader)

abbrev pub decreases-names : goal.decreases-names
decreases-names l = length l.reader
