use Rattle.streetmap_journal.proofs.FrontLemmas.{zeros_kept, zeros_more, zeros_end, zeros_other}
use Rattle.streetmap_journal.proofs.front.left_of.Goals.{in-None, in-Some-Zeros}
use Rattle.streetmap_journal.proofs.front.left_of.Goals as goal

pub loop-turn-preserved : goal.loop-turn-preserved
loop-turn-preserved g c =
    let inv = c.loop-turn.invariant in
    let seen = c.in_ok-take_zeros.ensures in
    elim c.match-branch-2.branch [
      | in-None w ↦
          let kept = rw w.in-None.is at seen in
          rw w.left-is (zeros_kept c.loop-turn.left _ _ _ inv kept)
      | in-Some-Zeros w ↦
          let took = rw (w.in-Some-Zeros.is, w.in-Some-Zeros.field-0-is) at seen in
          rw w.left-is (zeros_more c.loop-turn.left _ _ _ took.0 inv took.1 took.2 took.3)
    ]

pub returns-in-Some-Nothing : goal.returns-in-Some-Nothing
returns-in-Some-Nothing g c =
    let end = rw (c.in-Some-Nothing.is, c.in-Some-Nothing.field-0-is) at c.in_ok-take_zeros.ensures in
    zeros_end c.loop-turn.left _ _ c.loop-turn.invariant end

pub returns-in-Some-Other : goal.returns-in-Some-Other
returns-in-Some-Other g c =
    let other = rw (c.in-Some-Other.is, c.in-Some-Other.field-0-is) at c.in_ok-take_zeros.ensures in
    zeros_other c.loop-turn.left _ _ c.loop-turn.invariant other
