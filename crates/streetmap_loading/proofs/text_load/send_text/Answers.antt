use Rattle.std.proofs.Common.{◌≡◌, List, Option, None, Some, option_map, refl, subst, ◌++◌}
use Rattle.streetmap_loading.specs.Sources.{Item, placed_value}
use Rattle.streetmap_loading.specs.TextLoads.{SendsItems}
use Rattle.streetmap_loading.specs.TextView.{and_left}
use Rattle.streetmap_loading.specs.Texts.{items_left}
use Rattle.streetmap_loading.specs.Options.{opening_items, load_value}
use Rattle.streetmap_loading.specs.declared.source.PlacedEdit.{PlacedEdit}
use Rattle.streetmap_loading.proofs.SkipLemmas.{from_begin}
use Rattle.streetmap_loading.proofs.text_load.send_text.Goals as goal

opened : (o : Option PlacedEdit) (items : Option (List Item)) →
    and_left o items ≡ option_map (λ is. opening_items (option_map placed_value o) ++ is) items
opened None items = refl
opened (Some p) items = refl

pub returns-clause-sends : goal.returns-clause-sends
returns-clause-sends g c =
    let l = load_value c.args.load in
    subst (λ (items : Option (List Item)). SendsItems g.S.Sink.takes l.each l.key c.args.sink.now
    c.send_source.new.sink items c.send_source.result)
    (opened c.args.load.opening (items_left l.rules 0 (g.R.Read.remaining c.args.reader)))
    c.send_source.ensures.sends

pub returns-clause-skips : goal.returns-clause-skips
returns-clause-skips g c = from_begin (load_value c.args.load).rules (g.R.Read.remaining c.args.reader) c.send_source.result c.send_source.ensures.skips
