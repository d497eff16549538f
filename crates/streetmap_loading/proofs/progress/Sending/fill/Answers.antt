use Rattle.std.proofs.Common.{◌≡◌, [], Err, refl, rules}
use Rattle.streetmap_loading.specs.declared.load_fault.LoadFault.TheVariants.{Memory}
use Rattle.streetmap_loading.specs.declared.progress.Sending.{Sending}
use Rattle.streetmap_loading.proofs.SendLemmas.{fill_memory, fill_some}
use Rattle.streetmap_loading.proofs.progress.Sending.fill.Goals as goal

pub returns-in_err-fill-clause-fills : goal.returns-in_err-fill-clause-fills
returns-in_err-fill-clause-fills g c = λ each key first read it.
    let l = c.args.self.now in
    let m : Sending = record {
      packer = c.fill.new.self;
      places = l.places;
      batches = l.batches;
      taken = l.taken;
      serial
          = l.serial;
    } in
    let e : c.from_residual.result ≡ Err Memory = search rules in
    fill_memory g.S.Sink.takes each key first read l c.args.sink.now it c.from_residual.result m e
    refl refl refl

pub returns-in-Some-clause-fills : goal.returns-in-Some-clause-fills
returns-in-Some-clause-fills g c = λ each key first read it.
    let l = c.args.self.now in
    let m : Sending = record {
      packer = c.fill.new.self;
      places = c.replace-places.new.dest;
      batches = l.batches;
      taken =
          l.taken;
      serial = l.serial;
    } in
    let own : m.places.items ≡ [] = search rules in
    let before : c.deref.result.now ≡ l.places.items = search rules in
    fill_some g.S.Sink.takes each key first read l c.args.sink.now it c.in-Some.batch m
    c.send.new.self c.send.result c.send.new.sink c.deref.result.now
    (rw c.in-Some.is at c.in_ok-fill.ensures) own refl refl refl before c.send.ensures.sends
