use Rattle.std.proofs.Common.{All, IsTrue, take}
use Rattle.std.specs.Prelude.{string_bytes}
use Rattle.streetmap_ledger.specs.declared.summary.Summary.{Summary}
use Rattle.streetmap_replay.specs.Alike.{is_named}
use Rattle.streetmap_replay.proofs.collections.find_other.Given as goal

-- the first of them are among the others
abbrev pub invariant-loop-place : goal.invariant-loop-place
invariant-loop-place l =
    All (λ (other : Summary). IsTrue (is_named (string_bytes other.id) l.ours))
    (take l.place l.theirs)
