use Rattle.std.proofs.Common.{[], ◌∷◌, ◌++◌, subst, sym, ◌∙◌}
use Rattle.std.proofs.lemmas.Result.{on_ok_weaker}
use Rattle.streetmap_geojson.specs.FeatureValue.{FeatureValue}
use Rattle.streetmap_ledger.specs.Folds.{IsFoldOf, HoldsCandidates}
use Rattle.streetmap_ledger.specs.Pages.{candidates}
use Rattle.streetmap_ledger.specs.declared.fold.PageFold.{PageFold}
use Rattle.streetmap_ledger.proofs.Examining.{left_out_of, passed_on}
use Rattle.streetmap_ledger.proofs.fold.PageFold.examine.Goals as goal
use Rattle.streetmap_ledger.proofs.fold.PageFold.examine.Goals.{then-not-is_candidate-via-then-not-is_candidate}
use Rattle.streetmap_ledger.proofs.fold.PageFold.examine.Goals.{then-not-is_candidate-via-else-not-is_candidate+then-pass_candidate}

pub returns-then-not-is_candidate : goal.returns-then-not-is_candidate
returns-then-not-is_candidate c = λ q fs held.
    let f = c.args.feature.now in
    elim c.then-not-is_candidate.branch [
      | then-not-is_candidate-via-then-not-is_candidate w ↦
          subst (λ (fold : PageFold). HoldsCandidates q fold (fs ++ f ∷ [])) (sym w.self-is)
          (left_out_of c.args.self.now q fs f c.facts.ensures (sym c.is_candidate.ensures ∙ w.if-not-is_candidate.true) held)
      | then-not-is_candidate-via-else-not-is_candidate+then-pass_candidate w ↦
          subst (λ (fold : PageFold). HoldsCandidates q fold (fs ++ f ∷ [])) (sym w.self-is)
          (passed_on c.args.self.now w.pass_candidate.new.self q fs f (sym c.is_candidate.ensures ∙ w.if-not-is_candidate.false)
          (w.pass_candidate.ensures.passed w.if-pass_candidate.true q (candidates q fs)) held)
    ]

pub returns : goal.returns
returns c = λ q fs held.
    let f = c.args.feature.now in
    let candidate = sym c.is_candidate.ensures ∙ c.if-not-is_candidate.false in
    let same : IsFoldOf q c.pass_candidate.new.self (candidates q fs) =
    subst (λ (fold : PageFold). IsFoldOf q fold (candidates q fs)) (sym (c.pass_candidate.ensures.unchanged c.if-pass_candidate.false)) held.holds in
    on_ok_weaker c.take.result (λ holds. passed_on c.args.self.now c.take.new.self q fs f candidate
    (λ _. subst (λ (g : FeatureValue). IsFoldOf q c.take.new.self (candidates q fs ++ g ∷ [])) c.in_ok-copy.ensures holds) held)
    (c.take.ensures.ok q (candidates q fs) same)
