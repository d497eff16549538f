use Rattle.std.proofs.Common.{[], ◌∷◌, Ok, subst, ◌∙◌}
use Rattle.streetmap_loading.specs.Sources.{TakesOff, placed_value}
use Rattle.streetmap_loading.specs.Texts.{items_left}
use Rattle.streetmap_loading.specs.TextView.{rules_value, Steps}
use Rattle.streetmap_loading.specs.declared.rules.FeatureRules.{FeatureRules}
use Rattle.streetmap_loading.specs.declared.text_edits.Step.{Step}
use Rattle.streetmap_loading.proofs.TextLemmas.{next_off}
use Rattle.streetmap_loading.proofs.text_edits.TextEditsEdits.next_edit.Goals as goal

pub returns-in-Edit-clause-gives : goal.returns-in-Edit-clause-gives
returns-in-Edit-clause-gives g c =
    let old = c.args.self.now in
    let at = c.loop-turn.self in
    let new = c.step.new.self in
    let is = c.loop-turn.invariant in
    let placed = Ok (placed_value c.in-Edit.placed) ∷ [] in
    let left = g.R.Read.remaining at.reader in
    let stepped : TakesOff (items_left (rules_value at.rules) at.features left) (items_left (rules_value at.rules) new.features (g.R.Read.remaining new.reader))
    placed =
    subst (λ (s : Step). Steps (items_left (rules_value at.rules) at.features left) (items_left (rules_value at.rules) new.features
    (g.R.Read.remaining new.reader)) (Ok s)) c.in-Edit.is c.in_ok-step.ensures.steps in
    let took : TakesOff (items_left (rules_value old.rules) at.features left) (items_left (rules_value old.rules) new.features (g.R.Read.remaining new.reader))
    placed =
    subst (λ (r : FeatureRules). TakesOff (items_left (rules_value r) at.features left) (items_left (rules_value r) new.features
    (g.R.Read.remaining new.reader)) placed) is.rules stepped in
    next_off old.rules new.rules old.features new.features (g.R.Read.remaining old.reader) (g.R.Read.remaining new.reader) old.opening new.opening
    (items_left (rules_value old.rules) at.features left)
    is.began (c.step.ensures.rules ∙ is.rules) is.past placed (c.step.ensures.opening ∙ is.none) took
