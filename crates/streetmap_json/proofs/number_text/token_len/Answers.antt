use Rattle.std.proofs.Common.{get_or, sym}
use Rattle.std.proofs.lemmas.Bool.{ne_eqb}
use Rattle.std.proofs.lemmas.List.Sums.{prefix_len-le-length}
use Rattle.streetmap_json.specs.NumberText.{is_in_number}
use Rattle.streetmap_json.proofs.NumberTextTokens.{string_first, number_first, number_some, other_first}
use Rattle.streetmap_json.proofs.NumberTextCopies.{rest_is}
use Rattle.streetmap_json.proofs.number_text.token_len.Goals as goal

pub returns-then-first-eq34-clause-first : goal.returns-then-first-eq34-clause-first
returns-then-first-eq34-clause-first c =
    let rest = rw (rest_is c.args.text.now 1) at c.string_rest.ensures.first in
    string_first c.args.text.now c.string_rest.result c.requires c.if-first-eq34.true rest

pub returns-then-is_in_number-clause-within : goal.returns-then-is_in_number-clause-within
returns-then-is_in_number-clause-within c = rw c.number_len.ensures (prefix_len-le-length is_in_number c.args.text.now)

pub returns-then-is_in_number-clause-some : goal.returns-then-is_in_number-clause-some
returns-then-is_in_number-clause-some c = rw c.number_len.ensures (number_some c.args.text.now c.requires (sym c.if-is_in_number.ensures))

pub returns-then-is_in_number-clause-first : goal.returns-then-is_in_number-clause-first
returns-then-is_in_number-clause-first c = rw c.number_len.ensures (number_first c.args.text.now c.requires (sym c.if-is_in_number.ensures))

pub returns-else-is_in_number-clause-first : goal.returns-else-is_in_number-clause-first
returns-else-is_in_number-clause-first c = other_first c.args.text.now c.requires (ne_eqb (get_or c.args.text.now 0 0) 34 c.if-first-eq34.false) (sym c.if-is_in_number.ensures)
