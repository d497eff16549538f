use Rattle.std.proofs.Common.{◌≡◌, None, []}
use Rattle.streetmap_loading.specs.Sources.{TakesOff, StaysKnown}
use Rattle.streetmap_loading.specs.Texts.{items_left, skips_left}
use Rattle.streetmap_loading.specs.TextView.{rules_value}
use Rattle.streetmap_loading.proofs.text_edits.TextEditsEdits.next_edit.Given as goal

-- no item was taken, and a number of skips that is known stays
abbrev pub invariant-loop-turn : goal.invariant-loop-turn
invariant-loop-turn g l =
    let r = rules_value l.fn.self.rules in
    record {
      began : l.fn.self.opening ≡ None;
      none : l.self.opening ≡ None;
      rules : l.self.rules ≡ l.fn.self.rules;
      past :
          TakesOff (items_left r l.fn.self.features (g.R.Read.remaining l.fn.self.reader))
          (items_left r l.self.features (g.R.Read.remaining l.self.reader)) [];
      skips :
          StaysKnown
          (skips_left r l.fn.self.skipped l.fn.self.features (g.R.Read.remaining l.fn.self.reader))
          (skips_left r l.self.skipped l.self.features (g.R.Read.remaining l.self.reader));
    }
