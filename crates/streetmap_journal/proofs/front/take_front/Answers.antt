use Rattle.std.proofs.Common.{ℕ, List, take, length-drop, subst, arith}
use Rattle.std.proofs.lemmas.List.{take_rest}
use Rattle.streetmap_journal.specs.Front.{SeesFront}
use Rattle.streetmap_journal.proofs.FrontLemmas.{front_more, otherwise_later}
use Rattle.std.proofs.KnownBytes.{Consumes-kept}
use Rattle.streetmap_journal.proofs.front.take_front.Goals.{in-Same, in-Interrupted}
use Rattle.streetmap_journal.proofs.front.take_front.Goals as goal

pub loop-turn-preserved : goal.loop-turn-preserved
loop-turn-preserved g c =
    let inv = c.loop-turn.invariant in
    let expected = c.args.expected.now in
    let count = c.loop-turn.count in
    let now = g.R.Read.remaining c.loop-turn.reader in
    let later = g.R.Read.remaining c.take_shown.new.reader in
    let took = subst (λ (l : List ℕ). SeesFront now later l c.in_ok-more.field-0)
    (take_rest expected count) c.in_ok-more.ensures in
    elim c.match-branch-2.branch [
      | in-Same w ↦
          let same = rw w.in-Same.is at took in
          rw w.count-is (record {
            within = omega (arith, same.1, length-drop count expected, inv.within);
            taken = front_more _ now later expected count w.in-Same.more inv.taken same.2;
          })
      | in-Interrupted w ↦
          let kept = rw w.in-Interrupted.is at took in
          rw w.count-is (record {
            within = inv.within;
            taken = Consumes-kept _ now later (take count expected) inv.taken kept;
          })
    ]

pub returns-in-Other : goal.returns-in-Other
returns-in-Other g c =
    let inv = c.loop-turn.invariant in
    let expected = c.args.expected.now in
    let count = c.loop-turn.count in
    let now = g.R.Read.remaining c.loop-turn.reader in
    let later = g.R.Read.remaining c.take_shown.new.reader in
    let took = subst (λ (l : List ℕ). SeesFront now later l c.in_ok-more.field-0)
    (take_rest expected count) c.in_ok-more.ensures in
    let other = rw c.in-Other.is at took in (
      omega (arith, other.0, length-drop count expected, inv.within),
      front_more _ now later expected count c.in-Other.more inv.taken other.1,
      λ _. otherwise_later _ now expected count c.in-Other.more inv.within inv.taken other.2,
    )
