use Rattle.std.proofs.Common.{◌≤◌, ◌∙◌, ap, length, subst, sym, refl}
use Rattle.http.specs.StatusCode.{reason_phrase}
use Rattle.streetmap_http.specs.HeadLines.{phrase_of}
use Rattle.streetmap_http.proofs.Phrases.{phrases_are_short, stated, stated_short}
use Rattle.streetmap_http.proofs.answer_head.phrase.Goals as goal

pub returns-clause-value : goal.returns-clause-value
unfolding phrase_of
returns-clause-value c = ap (λ r. r.now) c.unwrap_or.ensures ∙ stated (λ r. r.now) c.canonical_reason.result _ (reason_phrase c.args.status) c.canonical_reason.ensures.value refl

pub returns-clause-short : goal.returns-clause-short
unfolding phrase_of
returns-clause-short c =
    subst (λ p. length p ≤ 40) (sym (returns-clause-value c)) (stated_short (reason_phrase c.args.status) (phrases_are_short c.args.status))
