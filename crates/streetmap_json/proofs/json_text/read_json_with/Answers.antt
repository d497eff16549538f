use Rattle.std.proofs.Common.{sym, ◌∙◌}
use Rattle.streetmap_json.proofs.WrittenTextAgain.{reads_again}
use Rattle.streetmap_json.proofs.json_text.read_json_with.Goals as goal

pub returns-in-Some-clause-again : goal.returns-in-Some-clause-again
returns-in-Some-clause-again c =
    let changed = rw c.in-Some.is at c.in_ok-plain.ensures in
    reads_again c.read_plain.result c.args.bytes.now c.deref.result.now c.read_plain.ensures (c.deref.ensures.value ∙ changed)

pub returns-in-None-clause-again : goal.returns-in-None-clause-again
returns-in-None-clause-again c =
    let same = rw c.in-None.is at c.in_ok-plain.ensures in
    reads_again c.read_plain-in-None.result c.args.bytes.now c.args.bytes.now c.read_plain-in-None.ensures (sym same)
