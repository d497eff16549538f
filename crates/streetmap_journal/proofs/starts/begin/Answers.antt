use Rattle.std.proofs.Common.{refl, sym, ap, ◌∙◌}
use Rattle.streetmap_journal.specs.Written.{Position}
use Rattle.streetmap_journal.proofs.starts.begin.Goals as goal

pub returns-in-Ok-clause-reported : goal.returns-in-Ok-clause-reported
returns-in-Ok-clause-reported g c = λ was. (
  c.report_missing.ensures.reported (λ whole. c.in-Ok.ensures.whole was whole),
  λ is. g.met.W.JournalWriter.fails_still _ _ _ (c.in-Ok.ensures.failed refl (sym (ap (λ (p : Position). p.behind) c.report_missing.ensures.position) ∙ is))
      c.report_missing.ensures.goes,
)
