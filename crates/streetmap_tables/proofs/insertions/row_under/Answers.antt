use Rattle.std.proofs.Common.{◌∙◌}
use Rattle.std.specs.Option.{option_copied}
use Rattle.streetmap_tables.specs.StoredFeatures.{IsTimed}
use Rattle.streetmap_tables.proofs.TimedFeature.{extent_is}
use Rattle.streetmap_tables.proofs.insertions.row_under.Goals as goal

pub returns-in-Ok : goal.returns-in-Ok
returns-in-Ok c =
    let f = c.args.feature.now in
    let it : IsTimed (option_copied c.args.property) f c.in-Ok.seconds = rw c.in-Ok.is at c.in_ok-seconds.ensures.reported in
    record {
      kept = it.kept;
      is = it.is;
      named = it.named;
      row_is = record {
        named = c.id.ensures;
        written = record {
          text_is = c.text_of.ensures ∙ it.text_is;
          extent_is = c.extent.ensures ∙ extent_is f ∙ it.extent_is;
          seconds_are = it.seconds_are;
        };
        fine = it.fine;
      };
    }
