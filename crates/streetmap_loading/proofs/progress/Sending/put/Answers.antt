use Rattle.std.proofs.Common.{◌≡◌, ◌∷◌, [], Err, refl, rules}
use Rattle.streetmap_loading.specs.Sources.{placed_value}
use Rattle.streetmap_loading.specs.declared.load_fault.LoadFault.TheVariants.{Memory}
use Rattle.streetmap_loading.specs.declared.progress.Sending.{Sending}
use Rattle.streetmap_loading.proofs.SendLemmas.{put_memory, put_none, put_some}
use Rattle.streetmap_loading.proofs.progress.Sending.put.Goals as goal

pub returns-in_err-add-clause-puts : goal.returns-in_err-add-clause-puts
returns-in_err-add-clause-puts g c = λ each key first read it.
    let l = c.args.self.now in
    let m : Sending = record {
      packer = c.add.new.self;
      places = l.places;
      batches = l.batches;
      taken = l.taken;
      serial =
          l.serial;
    } in
    let e : c.from_residual.result ≡ Err Memory = search rules in
    put_memory g.S.Sink.takes each key first read l c.args.sink.now it
    (placed_value c.args.placed)
    c.from_residual.result m e refl refl refl

pub returns-in_err-push-in-None-clause-puts : goal.returns-in_err-push-in-None-clause-puts
returns-in_err-push-in-None-clause-puts g c = λ each key first read it.
    let l = c.args.self.now in
    let m : Sending = record {
      packer = c.add.new.self;
      places = c.push.new.self;
      batches = l.batches;
      taken = l.taken;
      serial = l.serial;
    } in
    let e : c.from_residual-in_err-push-in-None.result ≡ Err Memory = search rules in
    put_memory g.S.Sink.takes each key first read l c.args.sink.now it
    (placed_value c.args.placed)
    c.from_residual-in_err-push-in-None.result m e refl refl refl

pub returns-in_err-next-in-Some-clause-puts : goal.returns-in_err-next-in-Some-clause-puts
returns-in_err-next-in-Some-clause-puts g c = λ each key first read it.
    let l = c.args.self.now in
    let m : Sending = record {
      packer = c.add.new.self;
      places = l.places;
      batches = l.batches;
      taken = l.taken;
      serial =
          l.serial;
    } in
    let e : c.from_residual-in_err-next-in-Some.result ≡ Err Memory = search rules in
    put_memory g.S.Sink.takes each key first read l c.args.sink.now it
    (placed_value c.args.placed)
    c.from_residual-in_err-next-in-Some.result m e refl refl refl

pub returns-in_ok-push-in-None-clause-puts : goal.returns-in_ok-push-in-None-clause-puts
returns-in_ok-push-in-None-clause-puts g c = λ each key first read it.
    let l = c.args.self.now in
    let m : Sending = record {
      packer = c.add.new.self;
      places = c.push.new.self;
      batches = l.batches;
      taken = l.taken;
      serial = l.serial;
    } in
    put_none g.S.Sink.takes each key first read l c.args.sink.now it (placed_value c.args.placed)
    m
    (rw c.in-None.is at c.in_ok-add.ensures) c.in_ok-push-in-None.ensures.items refl refl refl

pub returns-in_ok-next-in-Some-clause-puts : goal.returns-in_ok-next-in-Some-clause-puts
returns-in_ok-next-in-Some-clause-puts g c = λ each key first read it.
    let l = c.args.self.now in
    let m : Sending = record {
      packer = c.add.new.self;
      places = c.replace-places.new.dest;
      batches = l.batches;
      taken =
          l.taken;
      serial = l.serial;
    } in
    let own : m.places.items ≡ c.args.placed.place ∷ [] = search rules in
    let before : c.deref.result.now ≡ l.places.items = search rules in
    put_some g.S.Sink.takes each key first read l c.args.sink.now it (placed_value c.args.placed)
    c.in-Some.batch m c.send.new.self c.send.result c.send.new.sink c.deref.result.now
    (rw c.in-Some.is at c.in_ok-add.ensures) own refl refl refl before c.send.ensures.sends
