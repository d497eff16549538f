use Rattle.std.proofs.Common.{◌≡◌, ◌≢◌, ◌∙◌, ◌<◌, ◌+◌, sym, subst, arith, rules, length, take}
use Rattle.streetmap_http.specs.declared.head.HeadProgress.TheVariants.{Done}
use Rattle.streetmap_http.specs.declared.limits.TheConstants.{HEAD_LIMIT}
use Rattle.streetmap_http.specs.Head.{HasNoHead}
use Rattle.streetmap_http.specs.Progress.{HasReached}
use Rattle.streetmap_http.proofs.Heads.{take_scanned}
use Rattle.streetmap_http.proofs.OneHead.{reached_take, head_take, not_ended}
use Rattle.streetmap_http.proofs.arrival.HeadScan.find_head.Goals as goal

pub returns-then-eq-clause-found : goal.returns-then-eq-clause-found
returns-then-eq-clause-found c =
    let i = c.loop-at.invariant.1 in
    let more : c.loop-at.at < length c.args.bytes.now = omega arith in
    let here : HasReached c.loop-at.self.progress (take c.loop-at.at c.args.bytes.now) = subst (λ n. HasReached c.loop-at.self.progress (take n c.args.bytes.now)) c.loop-at.invariant.0 i.progress in
    let ends : c.next_progress-progress.result ≡ Done = search rules in
    (omega arith, head_take c.args.bytes.now c.loop-at.at c.loop-at.self.progress more (omega arith) here i.unfinished (sym c.next_progress-progress.ensures ∙ ends))

pub loop-at-preserved : goal.loop-at-preserved
loop-at-preserved c =
    let i = c.loop-at.invariant.1 in
    let more : c.loop-at.at < length c.args.bytes.now = omega arith in
    let here : HasReached c.loop-at.self.progress (take c.loop-at.at c.args.bytes.now) = subst (λ n. HasReached c.loop-at.self.progress (take n c.args.bytes.now)) c.loop-at.invariant.0 i.progress in
    let not_yet : c.next_progress-progress.result ≢ Done = search rules in (
      search rules,
      record {
        within = omega arith;
        short = omega arith;
        progress = subst (λ p. HasReached p (take (c.loop-at.at + 1) c.args.bytes.now)) (sym c.next_progress-progress.ensures) (reached_take c.args.bytes.now c.loop-at.at c.loop-at.self.progress more here);
        unfinished = not_yet;
      },
    )

pub returns-clause-none : goal.returns-clause-none
returns-clause-none c =
    let i = c.loop-at.invariant.1 in
    let all : take HEAD_LIMIT c.args.bytes.now ≡ take c.loop-at.self.scanned c.args.bytes.now = take_scanned c.args.bytes.now c.loop-at.self.scanned i.within i.short (omega arith) in
    subst HasNoHead (sym all) (not_ended c.loop-at.self.progress (take c.loop-at.self.scanned c.args.bytes.now) i.progress i.unfinished)
