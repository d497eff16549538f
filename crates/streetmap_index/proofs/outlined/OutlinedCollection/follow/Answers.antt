use Rattle.std.proofs.Common.{ap, subst}
use Rattle.std.specs.FinMap.{remove}
use Rattle.streetmap_batch.specs.BatchView.{edit_value}
use Rattle.streetmap_outlines.specs.Outlines.{AreListedChunksOf}
use Rattle.streetmap_index.proofs.Following.{follows_insert, follows_replace, follows_delete}
use Rattle.streetmap_index.proofs.outlined.OutlinedCollection.follow.Goals as goal

pub returns-in-Insert : goal.returns-in-Insert
returns-in-Insert c = λ s t. follows_insert c.args.self.now c.put.new.self s t c.in-Insert.collection (edit_value c.args.edit.now) c.in-Insert.feature
    c.put.result (ap edit_value c.in-Insert.is) c.put.ensures

pub returns-in-Replace : goal.returns-in-Replace
returns-in-Replace c = λ s t. follows_replace c.args.self.now c.put-in-Replace.new.self s t c.in-Replace.collection (edit_value c.args.edit.now)
    c.in-Replace.feature c.put-in-Replace.result (ap edit_value c.in-Replace.is) c.put-in-Replace.ensures

pub returns-in-Delete : goal.returns-in-Delete
returns-in-Delete c = λ s t.
    let old = c.args.self.now in
    let new = record old { outlines = c.cut.new.self } in
    follows_delete old new s t c.in-Delete.collection (edit_value c.args.edit.now) c.in-Delete.id (ap edit_value c.in-Delete.is)
    (λ d known. record {
      title = known.title;
      time = known.time;
      outlines = subst (λ k. AreListedChunksOf c.cut.new.self (remove d.features k))
          c.as_str.ensures.value (c.cut.ensures d.features known.outlines);
    })
