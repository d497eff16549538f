use Rattle.std.proofs.Common.{◌≡◌, decimal, sym, ap, subst, ◌∙◌, Ok, Err}
use Rattle.std.specs.Prelude.{IsUtf8}
use Rattle.std.proofs.lemmas.Fmt.{parse-decimal, IsAscii-decimal}
use Rattle.std.proofs.lemmas.Str.{IsUtf8-from_ascii}
use Rattle.streetmap_replay.proofs.line_bytes.read_serial.Goals as goal

pub returns-in_default-clause-none : goal.returns-in_default-clause-none
returns-in_default-clause-none c = λ none n small is.
    c.in_default.ensures.cases.0
    (subst IsUtf8 is (IsUtf8-from_ascii (decimal n) (IsAscii-decimal n small)))

pub returns-in_default-parse-clause-none : goal.returns-in_default-parse-clause-none
returns-in_default-parse-clause-none c = λ none n small is.
    let same = c.in-Ok.ensures.cases.0 ∙ sym is in
    let parsed = parse-decimal 64 n c.in-Ok.text.now (Err c.in_default-parse.field-0) small small
    same c.in_default-parse.ensures.value.0 in
    cc

pub returns-else-is_written-clause-none : goal.returns-else-is_written-clause-none
returns-else-is_written-clause-none c = λ none n small is.
    let text = c.in-Ok.ensures.cases.0 ∙ sym is in
    let parsed = parse-decimal 64 n c.in-Ok.text.now c.parse.result small small text
    c.parse.ensures.value.0 in
    let both : Ok c.in-Ok-parse.serial ≡ Ok n = sym c.in-Ok-parse.is ∙ parsed in
    let same : c.in-Ok-parse.serial ≡ n = cc in
    c.is_written.ensures.other c.if-is_written.false (ap decimal same ∙ is)
