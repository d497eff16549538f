use Rattle.std.proofs.Common.{◌≡◌, ℕ, ◌≤◌, length}
use Rattle.json.specs.Json.{value, members}
use Rattle.serde_json.specs.Data.{Members}
use Rattle.serde_json.specs.Read.{of_members, converted}
use Rattle.streetmap_json.specs.Values.{members_at}
use Rattle.streetmap_batch.specs.BatchTokens.{AreRead}
use Rattle.streetmap_batch.proofs.batch_parser.read_members.Given as goal

-- after the members read, the rest is read as the rest of the object
abbrev pub invariant-members : goal.invariant-members
invariant-members l =
    (ms : Members) × (n : ℕ) × (length l.reader ≤ n)
    × (members_at 126 l.initial.reader ≡ converted (λ rest. of_members rest ms) (members (value 126) n l.reader))
    × AreRead ms l.parts

abbrev pub decreases-members : goal.decreases-members
decreases-members l = length l.reader
