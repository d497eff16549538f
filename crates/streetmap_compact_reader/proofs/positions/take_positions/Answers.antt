use Rattle.std.proofs.Common.{◌∷◌, ◌++◌, [], rules}
use Rattle.streetmap_grid.specs.Views.{position_value}
use Rattle.streetmap_feature_text.specs.Written.{position_data}
use Rattle.streetmap_compact_reader.proofs.Listed.{listed_more, listed_all}
use Rattle.streetmap_compact_reader.proofs.positions.take_positions.Goals as goal

pub loop-apart-preserved : goal.loop-apart-preserved
loop-apart-preserved c =
    let kept = c.loop-apart.invariant in
    record {
      utf8 = search rules;
      first = kept.first;
      others = kept.others ++ position_value c.in_ok-next.next ∷ [];
      text = listed_more position_data _ _ _ _ (kept.first ∷ kept.others) (position_value c.in_ok-next.next) kept.text c.in-Some.ensures c.in_ok-next.ensures;
      are = c.in_ok-kept.ensures kept.first kept.others kept.are;
    }

pub returns : goal.returns
returns c =
    let kept = c.loop-apart.invariant in
    record {
      first = kept.first;
      others = kept.others;
      text = listed_all position_data _ _ _ (kept.first ∷ kept.others) kept.text c.in_ok-after_byte-2.ensures;
      are = kept.are;
    }
