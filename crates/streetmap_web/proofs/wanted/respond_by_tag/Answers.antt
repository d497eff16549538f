use Rattle.std.proofs.Common.{subst, Ok}
use Rattle.streetmap_web.specs.declared.verdict.Verdict.{Verdict}
use Rattle.streetmap_web.specs.Responds.{IsResponse}
use Rattle.streetmap_web.specs.Judging.{RespondsBy}
use Rattle.streetmap_web.specs.Wants.{wanted_value}
use Rattle.streetmap_web.proofs.ByTag.{shown_wanted, failed_after}
use Rattle.streetmap_web.proofs.wanted.respond_by_tag.Goals as goal

pub returns-in-Ok-judge : goal.returns-in-Ok-judge
returns-in-Ok-judge g c =
    let root = c.args.root.now in
    let wanted = wanted_value c.args.wanted.now in
    let response = c.in-Ok-judge.response in
    shown_wanted c.in-Ok.ensures root wanted c.requires.reads c.requires.needed response c.shown.result c.shown.ensures
    (subst (λ (v : Verdict). RespondsBy g.K.Keeper.model root wanted.operation v c.in-Ok.tag IsResponse c.tag.new.self c.judge.new.keeper (Ok response))
    c.verdict_under-verdict.ensures c.in-Ok-judge.ensures)

pub returns-in-Err-judge : goal.returns-in-Err-judge
returns-in-Err-judge g c =
    failed_after c.in-Ok.ensures c.args.root.now (wanted_value c.args.wanted.now) c.requires.reads c.requires.needed c.verdict_under-verdict.result c.in-Err-judge.fault
    c.verdict_under-verdict.ensures c.in-Err-judge.ensures
