use Rattle.streetmap_loading.specs.Options.{load_value, load_items}
use Rattle.streetmap_loading.proofs.KeeperLemmas.{is_read}
use Rattle.streetmap_loading.proofs.PrintLemmas.{of_text}
use Rattle.streetmap_loading.proofs.check.check_text.Goals as goal

pub returns-clause-checks : goal.returns-clause-checks
returns-clause-checks g c =
    let l = load_value c.args.load in
    let items = load_items l (g.R.Read.remaining c.args.reader) in
    let it = c.send_text.ensures.sends.1 in
    record {
      read = it.read;
      counted = it.counted;
      is = is_read items c.send_text.ensures.sends.0 it.read c.send_text.result.fault it.are;
      of_text = of_text l.each l.key _ _ items c.send_text.ensures.sends.0 c.send_text.result it;
    }
