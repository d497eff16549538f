use Rattle.std.proofs.Common.{◌∷◌, ◌++◌, [], rules, arith}
use Rattle.streetmap_feature_text.specs.Written.{line_data}
use Rattle.streetmap_compact_reader.proofs.Listed.{listed_first, listed_more, listed_all}
use Rattle.streetmap_compact_reader.proofs.RingFronts.{first_ring, next_ring}
use Rattle.streetmap_compact_reader.proofs.rings.take_rings.Goals as goal

pub loop-apart-init : goal.loop-apart-init
loop-apart-init c =
    let h = c.in_ok-exterior.ensures in
    record {
      utf8 = search rules;
      first = h.first;
      others = h.others;
      holes = [];
      text = listed_first line_data _ _ _ (h.first ∷ h.others) c.in_ok-after_byte.ensures h.text;
      are = first_ring _ _ _ h;
    }

pub loop-apart-preserved : goal.loop-apart-preserved
loop-apart-preserved c =
    let kept = c.loop-apart.invariant in
    let h = c.in_ok-hole.ensures in
    record {
      utf8 = search rules;
      first = kept.first;
      others = kept.others;
      holes = kept.holes ++ (h.first ∷ h.others) ∷ [];
      text = listed_more line_data _ _ _ _ ((kept.first ∷ kept.others) ∷ kept.holes) (h.first ∷ h.others) kept.text c.in-Some.ensures h.text;
      are = next_ring kept.first kept.others kept.holes _ _ _ _ _ _ _ kept.are h (omega (arith, c.in_ok-count.ensures)) (omega arith)
          c.union-extent.ensures.value;
    }

pub returns : goal.returns
returns c =
    let kept = c.loop-apart.invariant in
    record {
      rings = (kept.first ∷ kept.others) ∷ kept.holes;
      text = listed_all line_data _ _ _ ((kept.first ∷ kept.others) ∷ kept.holes) kept.text c.in_ok-after_byte-2.ensures;
      made = kept.are.rings;
      right = kept.are.right;
      few = omega (arith, kept.are.counted, kept.are.few);
      reaches = kept.are.reaches;
    }
