use Rattle.std.proofs.Common.{arith, rules, ◌≡◌, sym, ap, ◌∙◌, option_map}
use Rattle.std.proofs.lemmas.Grind.{common_steps}
use Rattle.std.specs.FinMap.{get, insert}
use Rattle.streetmap_ledger.specs.State.{timed, with_feature, with_features}
use Rattle.streetmap_grid.specs.Views.{box_value}
use Rattle.std.proofs.Common.{subst₂}
use Rattle.std.specs.Option.{option_copied}
use Rattle.streetmap_tables.specs.StoredFeatures.{IsTimed}
use Rattle.sqlite.specs.Held.{state}
use Rattle.streetmap_rows.specs.Calls.{IsWritten, PutsFeature, RanInsert}
use Rattle.streetmap_rows.proofs.ResultCases.{handed_on}
use Rattle.streetmap_tables.proofs.TimedFeature.{extent_is}
use Rattle.streetmap_rows.proofs.CallsInside.{stays_ok, stays_err}
use Rattle.streetmap_tables.proofs.stored_features.put_feature.Goals as goal

pub returns : goal.returns
returns g c =
    stays_ok c.in_ok-insert_feature.ensures (λ clean. record {
      puts = λ limit inside s d represented there property absent.
          let f = c.args.feature.now in
          let it : IsTimed (option_copied c.args.property) f c.in-Ok-reported.seconds = rw c.in-Ok-reported.is at c.in-Ok.ensures.reported in
          let id_is = c.id-id.ensures in
          let same : c.id-id.result.now ≡ it.kept.id = id_is ∙ sym it.named in
          let written : IsWritten it.kept c.text_of-text.result.now (option_map box_value c.extent-extent.result) c.in-Ok-reported.seconds =
          record {
            text_is = c.text_of-text.ensures ∙ it.text_is;
            extent_is = c.extent-extent.ensures ∙ extent_is f ∙ it.extent_is;
            seconds_are =
                it.seconds_are;
          } in
          let leads : PutsFeature (c.args.collection.now, c.id-id.result.now) it.kept s (with_feature s c.args.collection.now d it.kept) =
          record {
            collection = d;
            there = there;
            absent = ap (get d.features) id_is ∙ absent;
            fine = it.fine;
            is =
                ap (λ id. with_features s c.args.collection.now d (insert d.features id it.kept)) (sym same);
          } in
          let wrote = (c.in_ok-insert_feature.ensures.does clean).writes inside it.kept written limit s (with_feature s c.args.collection.now d it.kept)
          represented leads in (
            (it.kept, ap (λ p. timed p f) property ∙ it.is, wrote.0),
            c.in_ok-insert_feature.ensures.inside clean inside,
            (c.in_ok-insert_feature.ensures.kept clean inside, wrote.1),
          );
      ran = λ inside.
          let old = state g.S.Store c.args.tx.now.conn.now in
          let new = state g.S.Store c.insert_feature.new.tx.conn.now in
          let text = c.text_of-text.ensures in
          let id_is = c.id-id.ensures in
          λ none. subst₂ (λ id text. RanInsert (c.args.collection.now, id) text old new) id_is text ((c.in_ok-insert_feature.ensures.does clean).ran inside);
    })

pub returns-in_err-insert_feature : goal.returns-in_err-insert_feature
returns-in_err-insert_feature g c =
    stays_err c.in_err-insert_feature.ensures c.from_residual.ensures.1 (λ clean. record {
      puts = λ limit inside s d represented there property absent.
          let f = c.args.feature.now in
          let it : IsTimed (option_copied c.args.property) f c.in-Ok-reported.seconds = rw c.in-Ok-reported.is at c.in-Ok.ensures.reported in
          let id_is = c.id-id.ensures in
          let same : c.id-id.result.now ≡ it.kept.id = id_is ∙ sym it.named in
          let written : IsWritten it.kept c.text_of-text.result.now (option_map box_value c.extent-extent.result) c.in-Ok-reported.seconds =
          record {
            text_is = c.text_of-text.ensures ∙ it.text_is;
            extent_is = c.extent-extent.ensures ∙ extent_is f ∙ it.extent_is;
            seconds_are =
                it.seconds_are;
          } in
          let leads : PutsFeature (c.args.collection.now, c.id-id.result.now) it.kept s (with_feature s c.args.collection.now d it.kept) =
          record {
            collection = d;
            there = there;
            absent = ap (get d.features) id_is ∙ absent;
            fine = it.fine;
            is =
                ap (λ id. with_features s c.args.collection.now d (insert d.features id it.kept)) (sym same);
          } in
          handed_on _ _ _ _ c.from_residual.ensures.1 (
            (c.in_err-insert_feature.ensures.does clean).writes inside it.kept written limit s
                (with_feature s c.args.collection.now d it.kept) represented leads,
            c.in_err-insert_feature.ensures.kept clean inside,
          );
      ran = first_of (search rules, grind (arith, common_steps));
    })
