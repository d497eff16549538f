use Rattle.std.proofs.Common.{take, subst, arith}
use Rattle.std.proofs.lemmas.List.{take_all}
use Rattle.std.proofs.lemmas.List.Elements.{All-more, All-weaker}
use Rattle.streetmap_ledger.specs.declared.outline.FeatureOutline.{FeatureOutline}
use Rattle.streetmap_outlines.specs.Outlines.{IsTimedBy, AllTimedBy}
use Rattle.streetmap_outlines.proofs.bounds.bounds_of_seconds.Goals as goal

pub loop-outline-init : goal.loop-outline-init
loop-outline-init c = λ k d within. absurd (omega (arith, within))

pub loop-outline-preserved : goal.loop-outline-preserved
loop-outline-preserved c =
    let os = c.args.outlines.now in
    let i = c.loop-outline.outline-index in
    let o = c.outline-item.result in
    let old = c.loop-outline.bounds in
    let new = c.bounds_of_seconds_too-bounds.result in
    let says = c.bounds_of_seconds_too-bounds.ensures in
    let Old : FeatureOutline → Type 0 = λ o. IsTimedBy o.seconds old in
    let New : FeatureOutline → Type 0 = λ o. IsTimedBy o.seconds new in
    All-more New os i o (omega arith) (All-weaker Old New (λ o held. says.bounds o.seconds held) (take i os) c.loop-outline.invariant)
    (subst New c.outline-item.is says.seconds)

pub returns : goal.returns
returns c =
    let os = c.args.outlines.now in
    subst (λ xs. AllTimedBy xs c.loop-outline.bounds) (take_all c.loop-outline.outline-index os (omega arith)) c.loop-outline.invariant
