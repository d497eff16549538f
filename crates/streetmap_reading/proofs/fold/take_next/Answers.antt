use Rattle.std.proofs.Common.{sym, ◌∙◌, ap}
use Rattle.std.specs.Option.{option_copied}
use Rattle.streetmap_rows.proofs.ResultCases.{handed_on}
use Rattle.streetmap_reading.proofs.Stopping.{at_end, at_row, at_fault, stops_at}
use Rattle.streetmap_reading.proofs.fold.take_next.Goals as goal

pub returns-in-Err-clause-takes : goal.returns-in-Err-clause-takes
returns-in-Err-clause-takes g c clean = λ sql params start done simple given held.
    let old = c.args.rows.now.conn.now in
    let new = c.advance.new.self.conn.now in
    let fails = c.in-Err.ensures.err clean in
    at_fault sql params g.S.Store old new simple done given c.in-Err.error fails

pub returns-in_default-clause-takes : goal.returns-in_default-clause-takes
returns-in_default-clause-takes g c clean = λ sql params start done simple given held.
    let old = c.args.rows.now.conn.now in
    let new = c.advance.new.self.conn.now in
    let same = c.in-Ok.ensures.same clean in
    let none = sym c.get.ensures ∙ ap option_copied c.in_default.is in
    let moved = c.in-Ok.ensures.ok clean in
    ((at_end sql params g.S.Store old new simple done given _ none same moved, held), same)

pub returns-in_err-take-clause-takes : goal.returns-in_err-take-clause-takes
returns-in_err-take-clause-takes g c clean = λ sql params start done simple given held.
    let old = c.args.rows.now.conn.now in
    let new = c.advance.new.self.conn.now in
    let same = c.in-Ok.ensures.same clean in
    let row = sym c.get.ensures ∙ ap option_copied c.in-Some.is in
    let moved = c.in-Ok.ensures.ok clean in
    let next = c.in-Some.row.now in
    let more = at_row sql params g.S.Store old new simple done given _ next row moved in
    let wrong = c.in_err-take.ensures start done held in
    handed_on _ _ _ _ c.from_residual.ensures.1
    (stops_at g.F.RowFold.holds g.F.RowFold.is_good sql params g.S.Store old new start _ simple same
    more _ wrong)

pub returns-clause-takes : goal.returns-clause-takes
returns-clause-takes g c clean = λ sql params start done simple given held.
    let old = c.args.rows.now.conn.now in
    let new = c.advance.new.self.conn.now in
    let same = c.in-Ok.ensures.same clean in
    let row = sym c.get.ensures ∙ ap option_copied c.in-Some.is in
    let moved = c.in-Ok.ensures.ok clean in
    let next = c.in-Some.row.now in
    let more = at_row sql params g.S.Store old new simple done given _ next row moved in
    ((next, more, c.in_ok-take.ensures start done held), same)
