use Rattle.streetmap_loading.specs.Options.{load_value, load_items}
use Rattle.streetmap_loading.proofs.KeeperLemmas as keepers
use Rattle.streetmap_loading.proofs.KeeperLemmas.{keeper_of}
use Rattle.streetmap_loading.proofs.text_load.load_text.Goals as goal

pub returns-clause-calls : goal.returns-clause-calls
returns-clause-calls g c =
    let l = load_value c.args.load in
    let items = load_items l (g.R.Read.remaining c.args.reader) in
    keepers.are_calls keeper_of g.K.Keeper.model l.each l.key c.args.sink.now c.send_text.new.sink items c.send_text.ensures.sends.0 c.send_text.result
    c.send_text.ensures.sends.1

pub returns-clause-loads : goal.returns-clause-loads
returns-clause-loads g c = λ clean s h.
    let l = load_value c.args.load in
    let items = load_items l (g.R.Read.remaining c.args.reader) in
    keepers.loads_to keeper_of g.K.Keeper.model l.each l.key c.args.sink.now c.send_text.new.sink items c.send_text.ensures.sends.0 c.send_text.result
    c.send_text.ensures.sends.1 s clean h
