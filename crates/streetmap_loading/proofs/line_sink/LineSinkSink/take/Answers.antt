use Rattle.std.proofs.Common.{Err, sym, ap, subst, ◌∙◌}
use Rattle.std.specs.Prelude.{IfErr}
use Rattle.std.proofs.lemmas.Result.{err_from_is_err_and}
use Rattle.streetmap_loading.specs.Ends.{IsOfBatch}
use Rattle.streetmap_loading.proofs.PrintLemmas.{write_of_batch}
use Rattle.streetmap_loading.proofs.line_sink.LineSinkSink.take.Goals as goal

pub returns-in_err-write_line-clause-of_batch : goal.returns-in_err-write_line-clause-of_batch
returns-in_err-write_line-clause-of_batch g c =
    let p = err_from_is_err_and c.from_residual.result c.from_residual.ensures.1 in
    subst (λ r. IfErr r IsOfBatch) (sym (p.1 ∙ ap (λ x. Err x) p.2))
    (write_of_batch c.in_err-write_line.field-0.0 c.in_err-write_line.ensures.fault)
