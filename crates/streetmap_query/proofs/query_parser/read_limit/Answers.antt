use Rattle.std.proofs.Common.{◌≡◌, sym, ◌∙◌, true}
use Rattle.std.proofs.Common.{get_or}
use Rattle.std.specs.Char.{is_ascii_digit}
use Rattle.streetmap_query.proofs.LimitFacts.{digits_take, number_take, no_limit}
use Rattle.streetmap_query.proofs.query_parser.read_limit.Goals as goal

pub returns-then-not-is_ascii_digit-clause-value : goal.returns-then-not-is_ascii_digit-clause-value
returns-then-not-is_ascii_digit-clause-value c =
    let l = c.loop-byte in
    sym (no_limit c.args.text.now l.byte-index c.loop-byte-test.true l.invariant.digits (sym c.is_ascii_digit.ensures.value ∙ c.if-not-is_ascii_digit.true))

pub loop-byte-preserved : goal.loop-byte-preserved
loop-byte-preserved c =
    let l = c.loop-byte in
    let one : is_ascii_digit (get_or c.args.text.now l.byte-index 0) ≡ true = sym c.is_ascii_digit.ensures.value ∙ c.if-not-is_ascii_digit.false in
    record {
      digits = digits_take c.args.text.now l.byte-index c.loop-byte-test.true l.invariant.digits one;
      number = c.min-number.ensures ∙ number_take c.args.text.now l.byte-index l.number c.loop-byte-test.true one l.invariant.number;
    }
