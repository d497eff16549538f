use Rattle.streetmap_loading.specs.Options.{load_value, load_items}
use Rattle.streetmap_loading.specs.declared.line_sink.LineSink.{LineSink}
use Rattle.streetmap_loading.proofs.KeeperLemmas.{is_read}
use Rattle.streetmap_loading.proofs.PrintLemmas.{prints_by}
use Rattle.streetmap_loading.proofs.prints.print_text.Goals as goal

pub returns-clause-prints : goal.returns-clause-prints
returns-clause-prints g c =
    let l = load_value c.args.load in
    let items = load_items l (g.R.Read.remaining c.args.reader) in
    let it = c.send_text.ensures.sends.1 in
    record {
      read = it.read;
      counted = it.counted;
      is = is_read items c.send_text.ensures.sends.0 it.read c.send_text.result.fault it.are;
      sent = it.ends.sent;
      batches = it.ends.counted;
      prints = prints_by (λ (x : LineSink _). g.W.Write.contents x.writer) l.each l.key
          c.args.sink.now c.send_text.new.sink items c.send_text.ensures.sends.0 c.send_text.result it;
    }
