use Rattle.std.proofs.Common.{[]}
use Rattle.sqlite.specs.Held.{state}
use Rattle.streetmap_rows.specs.Statements.{select_format}
use Rattle.streetmap_rows.proofs.QueriesInside.{query_inside}
use Rattle.streetmap_rows.proofs.ResultCases.{by_result}
use Rattle.streetmap_tables.proofs.FormatAndSerials.{format_shown, format_reported}
use Rattle.streetmap_tables.proofs.ShownByReads.{format_bare, was_read}
use Rattle.streetmap_tables.proofs.adoption.read_format.Goals as goal

pub returns : goal.returns
returns g c =
    let old = state g.S.Store c.args.tx.now.conn.now in
    let new = state g.S.Store c.query_all.new.self.conn.now in
    let run = c.query_all.ensures in
    query_inside select_format [] run.same_reference run.ok run.err run.survives (λ clean. record {
      finds = λ s limit keeps. by_result c.query_all.result _ _ _ _ (run.ok clean) (run.err clean) (λ rows shown. format_shown old new s keeps rows.items shown)
          (λ e failed. format_reported old new s keeps limit e failed);
      reports = was_read select_format format_bare old new c.query_all.result (run.ok clean) (run.err clean);
    })
