use Rattle.std.proofs.Common.{sym, refl, ◌∙◌}
use Rattle.std.proofs.lemmas.Option.{slice_get_read}
use Rattle.std.proofs.lemmas.Result.{IfOk-weaker}
use Rattle.streetmap_index.proofs.run.has_id.Goals as goal

pub returns-in-Some : goal.returns-in-Some
returns-in-Some c = IfOk-weaker c.is_named.result _ _ (λ has says same. (
  c.in-Some.outline.now,
  slice_get_read c.args.outlines.now _ c.args.place c.in-Some.outline.now refl c.in-Some.ensures.lookup.3.0
      c.in-Some.ensures.lookup.1,
  sym c.as_str.ensures.value ∙ says.0 same,
)) c.is_named.ensures
