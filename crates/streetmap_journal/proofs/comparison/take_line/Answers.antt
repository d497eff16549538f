use Rattle.std.proofs.Common.{◌<◌, length, IfSome, subst, sym, arith}
use Rattle.streetmap_journal.specs.Comparison.{EndsWithin, IsOwn}
use Rattle.streetmap_journal.specs.declared.comparison.MatchEnd.{MatchEnd}
use Rattle.streetmap_journal.proofs.CutLines.{line_ends, unread_within, unread_own, left_own}
use Rattle.streetmap_journal.proofs.comparison.take_line.Goals as goal

pub returns-in-Err-clause-ends : goal.returns-in-Err-clause-ends
returns-in-Err-clause-ends g c =
    unread_within c.args.line.now _ c.not_read.result c.not_read.ensures

pub returns-in-Err-clause-own : goal.returns-in-Err-clause-own
returns-in-Err-clause-own g c = unread_own c.not_read.result c.not_read.ensures

pub returns-in-Ok-left_of-clause-ends : goal.returns-in-Ok-left_of-clause-ends
returns-in-Ok-left_of-clause-ends g c =
    let line = c.args.line.now in
    let input = g.R.Read.remaining c.args.reader.now in
    let took = c.in-Ok.ensures in
    let few : c.in-Ok.count < length line = omega (arith, took.0, c.if-count-line.false) in
    subst (λ (end : MatchEnd). IfSome input (λ rest. EndsWithin line rest end))
    (sym c.end_by.ensures)
    (line_ends line input _ c.in-Ok.count c.in-Ok-left_of.left took few c.in-Ok-left_of.ensures)

pub returns-in-Ok-left_of-clause-own : goal.returns-in-Ok-left_of-clause-own
returns-in-Ok-left_of-clause-own g c =
    subst IsOwn (sym c.end_by.ensures) (left_own c.in-Ok-left_of.left c.in-Ok.count)

pub returns-in-Err-left_of-clause-ends : goal.returns-in-Err-left_of-clause-ends
returns-in-Err-left_of-clause-ends g c =
    unread_within c.args.line.now _ c.not_read-in-Err-left_of.result
    c.not_read-in-Err-left_of.ensures

pub returns-in-Err-left_of-clause-own : goal.returns-in-Err-left_of-clause-own
returns-in-Err-left_of-clause-own g c =
    unread_own c.not_read-in-Err-left_of.result c.not_read-in-Err-left_of.ensures
