use Rattle.streetmap_json.proofs.NumberTextGrammar.{with_whole_numbers-number, with_whole_numbers-string, with_whole_numbers-open, with_whole_numbers-escaping, with_whole_numbers-other, with_whole_numbers-nil}
use Rattle.streetmap_json.proofs.laws.text_is_changed_by_token.Goals as goal

pub returns-clause-number : goal.returns-clause-number
returns-clause-number c = with_whole_numbers-number

pub returns-clause-string : goal.returns-clause-string
returns-clause-string c = with_whole_numbers-string

pub returns-clause-unended : goal.returns-clause-unended
returns-clause-unended c = with_whole_numbers-open

pub returns-clause-escaping : goal.returns-clause-escaping
returns-clause-escaping c = with_whole_numbers-escaping

pub returns-clause-other : goal.returns-clause-other
returns-clause-other c = with_whole_numbers-other

pub returns-clause-none : goal.returns-clause-none
returns-clause-none c = with_whole_numbers-nil
