use Rattle.std.proofs.Common.{◌++◌, ◌∷◌, [], map, sym, subst, ◌∙◌, ap}
use Rattle.std.specs.Option.{option_copied}
use Rattle.sqlite.specs.Given.{HasGiven}
use Rattle.sqlite.specs.Held.{state}
use Rattle.streetmap_rows.proofs.ResultCases.{handed_on}
use Rattle.streetmap_rows.specs.TableReads.{Stopped}
use Rattle.streetmap_reading.proofs.NextRow.{at_end, at_row, at_fault}
use Rattle.streetmap_reading.proofs.RowsInTurn.{none_mapped}
use Rattle.streetmap_reading.specs.Scans.{HaveKeys}
use Rattle.streetmap_reading.specs.Serials.{row_of}
use Rattle.streetmap_reading.proofs.ScannedBatches.{mapped_first}
use Rattle.streetmap_reading.proofs.scans.next_batch.Goals as goal

pub returns-in-Err-clause-takes : goal.returns-in-Err-clause-takes
returns-in-Err-clause-takes g c clean = λ sql params done rest limit shows keys given.
    at_fault g.S.Store c.args.rows.now.conn.now c.advance.new.self.conn.now sql params
    (map row_of done) (map row_of rest) shows given c.in-Err.error limit
    (c.in-Err.ensures.err clean)

pub returns-in_default-clause-takes : goal.returns-in_default-clause-takes
returns-in_default-clause-takes g c clean = λ sql params done rest limit shows keys given.
    let none = at_end g.S.Store c.args.rows.now.conn.now c.advance.new.self.conn.now sql params
    (map row_of done) (map row_of rest) shows given _
    (sym c.get.ensures ∙ ap option_copied c.in_default.is) (c.in-Ok.ensures.ok clean) in
    (none_mapped row_of rest (sym none), c.in-Ok.ensures.same clean)

pub returns-in_err-batch-clause-takes : goal.returns-in_err-batch-clause-takes
returns-in_err-batch-clause-takes g c clean = λ sql params done rest limit shows keys given.
    let old = c.args.rows.now.conn.now in
    let new = c.advance.new.self.conn.now in
    let same = c.in-Ok.ensures.same clean in
    let met = at_row g.S.Store old new sql params (map row_of done) (map row_of rest) shows given _
    c.in-Some.row.now (sym c.get.ensures ∙ ap option_copied c.in-Some.is) same
    (c.in-Ok.ensures.ok clean) in
    let b = mapped_first rest c.in-Some.row.now met.0 met.1 in
    let key = (subst HaveKeys b.2 keys).0 in
    let why = c.in_err-batch.ensures b.0.0 b.0.1 b.3 key in
    handed_on _ _ _ _ c.from_residual.ensures.1
    (subst (Stopped (state g.S.Store old) (state g.S.Store new)) (sym why) same)

pub returns-clause-takes : goal.returns-clause-takes
returns-clause-takes g c clean = λ sql params done rest limit shows keys given.
    let old = c.args.rows.now.conn.now in
    let new = c.advance.new.self.conn.now in
    let same = c.in-Ok.ensures.same clean in
    let met = at_row g.S.Store old new sql params (map row_of done) (map row_of rest) shows given _
    c.in-Some.row.now (sym c.get.ensures ∙ ap option_copied c.in-Some.is) same
    (c.in-Ok.ensures.ok clean) in
    let b = mapped_first rest c.in-Some.row.now met.0 met.1 in
    let key = (subst HaveKeys b.2 keys).0 in
    let batch = c.in_ok-batch.ensures b.0.0 b.0.1 b.3 key in
    let row = b.3 ∙ ap row_of (sym batch) in (
      (
        b.1,
        b.2 ∙ ap (λ x. x ∷ b.1) (sym batch),
        subst (HasGiven g.S.Store sql params new) (ap (λ r. map row_of done ++ r ∷ []) row) met.2,
      ),
      same,
    )
