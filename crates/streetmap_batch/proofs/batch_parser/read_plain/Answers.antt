use Rattle.std.proofs.Common.{◌≡◌, true}
use Rattle.std.proofs.lemmas.Str.{is_utf8-from_IsUtf8, IsUtf8-from_is_utf8}
use Rattle.std.specs.Str.{is_utf8}
use Rattle.streetmap_batch.proofs.Parts.{not_utf8}
use Rattle.streetmap_batch.proofs.batch_parser.read_plain.Goals as goal

pub returns-in-Ok : goal.returns-in-Ok
returns-in-Ok c =
    let text : is_utf8 c.args.bytes.now ≡ true = is_utf8-from_IsUtf8 c.args.bytes.now c.in-Ok.ensures.cases.1 in
    rw (text, ← c.in-Ok.ensures.cases.0) c.read_text.ensures

pub returns-in-Err : goal.returns-in-Err
returns-in-Err c = not_utf8 c.args.bytes.now (λ e. c.in-Err.ensures.cases.0 (IsUtf8-from_is_utf8 c.args.bytes.now e))
