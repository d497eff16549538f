use Rattle.std.proofs.Common.{◌≡◌, ℕ, List, Some, Ok, Err, ap, subst, arith}
use Rattle.streetmap_replay.specs.FollowedLines.{follower}
use Rattle.streetmap_replay.specs.Ends.{FollowsLines}
use Rattle.streetmap_replay.specs.ParsedLines.{FollowsLine}
use Rattle.streetmap_replay.specs.declared.follow_fault.FollowFault.TheVariants as ends
use Rattle.streetmap_text_lines.specs.declared.fault.LineFault.TheVariants.{ReadFailed}
use Rattle.streetmap_replay.proofs.Beginning.{follower_by}
use Rattle.streetmap_replay.proofs.CallsInTurn.{no_calls, no_fault, calls_then}
use Rattle.streetmap_replay.proofs.FollowingEnds.{is_reported, ends_by, further, not_reported, stopped, all, cut, unread}
use Rattle.streetmap_replay.proofs.FollowedSoFar.{begins}
use Rattle.streetmap_replay.proofs.follower.follow_lines.Goals.{in-Ok-Line, in-Ok+else-is_ok, in-Err-follow_line, in-Ok-Cut, in-Ok-End, in-Err}
use Rattle.streetmap_replay.proofs.follower.follow_lines.Goals as goal

pub loop-turn-init : goal.loop-turn-init
loop-turn-init g c = record {
  calls = no_calls c.args.keeper.now;
  underway = λ h s e. begins g.K.Keeper.model c.args.keeper.now s _ _ _ e;
}

pub loop-turn-preserved : goal.loop-turn-preserved
loop-turn-preserved g c =
    let inv = c.loop-turn.invariant in
    let model = g.K.Keeper.model in
    let says = c.in-Ok.ensures in
    let took = rw c.in-Ok-Line.field-0-is at c.in-Ok-Line.ensures.taken in
    record {
      calls = calls_then inv.calls (no_fault says.followed.calls);
      underway = λ h s e.
          let it = inv.underway (says.followed.calls.began_clean h) s e in
          let reported = is_reported c.report.result _ c.if-is_ok.ensures.value c.report.ensures in
          let line = subst (λ (bytes : List ℕ). FollowsLine model c.loop-turn.keeper c.follow_line.new.keeper bytes (Ok c.in-Ok.it)) c.as_slice.ensures.value
          says in
          further model c.loop-turn.keeper c.loop-turn.keeper c.follow_line.new.keeper s _ (g.R.Read.remaining c.loop-turn.reader)
          (g.R.Read.remaining c.next_whole_line.new.reader) g.T.Replies.reports _ _ c.report.new.self c.loop-turn.turn it
          c.in-Ok-Line.line.items c.in-Ok.it line h took.1 took.2 took.0 reported;
    }

pub returns-in-loop-turn-clause-calls : goal.returns-in-loop-turn-clause-calls
returns-in-loop-turn-clause-calls g c =
    let inv = c.loop-turn.invariant in
    elim c.match-next_whole_line.branch [
      | in-Ok-Line w ↦
          elim w.match-follow_line.branch [
            | in-Ok+else-is_ok v ↦ rw (w.keeper-is, w.fault-is, v.fault-is) (calls_then inv.calls (no_fault v.in-Ok.ensures.followed.calls))
            | in-Err-follow_line v ↦
                rw (w.keeper-is, w.fault-is, v.fault-is)
                (calls_then inv.calls (ends_by v.in-Err-follow_line.fault v.in-Err-follow_line.ensures.followed.of_line
                v.in-Err-follow_line.ensures.followed.calls))
          ]
      | in-Ok-Cut w ↦ rw (w.keeper-is, w.fault-is) inv.calls
      | in-Ok-End w ↦ rw (w.keeper-is, w.fault-is) inv.calls
      | in-Err w ↦ rw (w.keeper-is, w.fault-is) inv.calls
    ]

pub returns-in-loop-turn-clause-follows : goal.returns-in-loop-turn-clause-follows
returns-in-loop-turn-clause-follows g c = λ h s e.
    let inv = c.loop-turn.invariant in
    let model = g.K.Keeper.model in
    let first = c.args.keeper.now in
    let k = c.loop-turn.keeper in
    let now = g.R.Read.remaining c.loop-turn.reader in
    let later = g.R.Read.remaining c.next_whole_line.new.reader in
    let turn = c.loop-turn.turn in
    let reported = c.loop-turn.replies in
    elim c.match-next_whole_line.branch [
      | in-Ok-Line w ↦
          let took = rw w.in-Ok-Line.field-0-is at w.in-Ok-Line.ensures.taken in
          let clean = rw w.keeper-is at h in
          let after = w.follow_line.new.keeper in
          let it = inv.underway (w.follow_line.ensures.followed.calls.began_clean clean) s e in
          elim w.match-follow_line.branch [
            | in-Ok+else-is_ok v ↦
                let line = subst (λ (bytes : List ℕ). FollowsLine model k after bytes (Ok v.in-Ok.it)) w.as_slice.ensures.value v.in-Ok.ensures in
                rw (w.keeper-is, w.replies-is, w.fault-is, v.replies-is, v.fault-is)
                (not_reported model first k after s _ now later g.T.Replies.reports _ reported v.report.new.self turn it w.in-Ok-Line.line.items v.in-Ok.it line
                clean took.1 took.2 took.0)
            | in-Err-follow_line v ↦
                let fault = v.in-Err-follow_line.fault in
                let line = subst (λ (bytes : List ℕ). FollowsLine model k after bytes (Err fault)) w.as_slice.ensures.value v.in-Err-follow_line.ensures in
                rw (w.keeper-is, w.replies-is, w.fault-is, v.replies-is, v.fault-is)
                (stopped model first k after s _ now later g.T.Replies.reports _ reported reported turn it w.in-Ok-Line.line.items fault inv.calls line clean
                took.1 took.2 took.0)
          ]
      | in-Ok-Cut w ↦
          let it = inv.underway (rw w.keeper-is at h) s e in
          let took = rw w.in-Ok-Cut.field-0-is at w.in-Ok-Cut.ensures.taken in
          rw (w.keeper-is, w.replies-is, w.fault-is)
          (cut model first k k s _ now later g.T.Replies.reports _ reported reported turn it took)
      | in-Ok-End w ↦
          let it = inv.underway (rw w.keeper-is at h) s e in
          let took = rw w.in-Ok-End.field-0-is at w.in-Ok-End.ensures.taken in
          rw (w.keeper-is, w.replies-is, w.fault-is)
          (all model first k k s _ now later g.T.Replies.reports _ reported reported turn it took)
      | in-Err w ↦
          let it = inv.underway (rw w.keeper-is at h) s e in
          rw (w.keeper-is, w.replies-is, w.fault-is)
          (unread model first k k s _ now later g.T.Replies.reports _ reported reported turn it
          w.in-Err.fault (λ long. w.in-Err.ensures.too_long (ap (λ f. Err f) long)))
    ]

pub returns-clause-follows : goal.returns-clause-follows
returns-clause-follows g c = λ h s e.
    let model = g.K.Keeper.model in
    let k = c.loop-turn.keeper in
    let it = c.loop-turn.invariant.underway h s e in
    let now = g.R.Read.remaining c.loop-turn.reader in
    let last : c.loop-turn.turn ≡ 18446744073709551615 =
    omega (arith, c.loop-turn-test.false, c.loop-turn.auto.turn-end) in
    subst (λ (n : ℕ). FollowsLines model c.args.keeper.now k s (g.R.Read.remaining c.args.reader.now) now g.T.Replies.reports
    c.args.replies.now c.loop-turn.replies (record { count = n; fault = Some (ends.NotRead ReadFailed) })) last
    (unread model c.args.keeper.now k k s _ now now g.T.Replies.reports _ c.loop-turn.replies c.loop-turn.replies c.loop-turn.turn it ReadFailed
    (λ no. absurd cc))

pub returns-in-loop-turn-clause-beginnings : goal.returns-in-loop-turn-clause-beginnings
returns-in-loop-turn-clause-beginnings g c = λ h bs k lines sound represents of.
    follower_by g.K.Keeper.model c.args.keeper.now _ bs sound k lines _ _ _ _ _ _ of
    (returns-in-loop-turn-clause-follows g c h (follower bs k) represents)

pub returns-clause-beginnings : goal.returns-clause-beginnings
returns-clause-beginnings g c = λ h bs k lines sound represents of.
    follower_by g.K.Keeper.model c.args.keeper.now _ bs sound k lines _ _ _ _ _ _ of
    (returns-clause-follows g c h (follower bs k) represents)
