use Rattle.std.specs.Option.{option_copied}
use Rattle.streetmap_feature_text.specs.Written.{feature_data}
use Rattle.streetmap_feature_reader.proofs.TextsRead.{text_found, text_read}
use Rattle.streetmap_rows.proofs.TextAgain.{body_reads, body_is_json}
use Rattle.streetmap_rows.proofs.bodies.read_body.Goals as goal

pub returns-clause-reads : goal.returns-clause-reads
returns-clause-reads c = text_found (λ p. p) c.read_any.result _ c.args.body.now c.read_any.ensures

pub returns-clause-again : goal.returns-clause-again
returns-clause-again c = λ f is h.
    let property = option_copied c.args.property in
    text_read (λ p. p) c.read_any.result _ c.args.body.now c.read_any.ensures
    (feature_data f) f (body_is_json f c.args.body.now property h is) (body_reads property f h)
