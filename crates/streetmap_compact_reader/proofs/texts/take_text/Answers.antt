use Rattle.std.proofs.Common.{◌∙◌}
use Rattle.streetmap_compact_reader.proofs.QuotedFronts.{quoted_front}
use Rattle.streetmap_compact_reader.proofs.texts.take_text.Goals as goal

pub returns-clause-text : goal.returns-clause-text
returns-clause-text c =
    c.in_ok-after_byte.ensures ∙ quoted_front _ _ _ c.in_ok-text.ensures.plain c.in_ok-text.ensures.text
