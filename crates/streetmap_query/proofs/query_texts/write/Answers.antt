use Rattle.std.proofs.Common.{option_copied}
use Rattle.streetmap_query.proofs.QueryFacts.{reads_again}
use Rattle.streetmap_query.proofs.query_texts.write.Goals as goal

pub returns-clause-again : goal.returns-clause-again
returns-clause-again c =
    reads_again c.args.query.now (option_copied c.args.after) c.spell.result c.requires c.spell.ensures.spelled c.spell.ensures.after_text c.spell.ensures.datetime_text
