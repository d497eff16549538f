use Rattle.std.proofs.Common.{◌≡◌, ◌≢◌, rules, arith, refl}
use Rattle.streetmap_web.specs.Site.{site_value}
use Rattle.streetmap_web.specs.declared.turns.Turn.TheVariants.{Open, ReadFailed}
use Rattle.streetmap_web.proofs.CallsInARow.{no_calls, calls_then}
use Rattle.streetmap_web.proofs.OneTurn.{unread_turn}
use Rattle.streetmap_web.proofs.TurnsInARow.{gone_none, gone_more, gone_ends}
use Rattle.streetmap_web.proofs.Flushes.{none_flushed, open_flushed, same_flushed, stream_flushed}
use Rattle.streetmap_web.proofs.turns.serve.Goals as goal

pub loop-answers-preserved : goal.loop-answers-preserved
loop-answers-preserved g c =
    let model = g.K.Keeper.model in
    let before = c.loop-answers.invariant in
    let says = c.take_turn-turn.ensures in
    record {
      room = search rules;
      calls = calls_then model _ _ _ before.calls says.calls;
      gone = λ clean x h. gone_more model (site_value c.args.site.now) x c.loop-answers.answers c.take_turn-turn.result
          (g.R.Read.remaining c.args.reader.now) (g.R.Read.remaining c.loop-answers.reader) (g.R.Read.remaining c.take_turn-turn.new.reader)
          (g.W.Write.contents c.args.writer.now) (g.W.Write.contents c.loop-answers.writer) (g.W.Write.contents c.take_turn-turn.new.writer)
          c.args.keeper.now c.loop-answers.keeper c.take_turn-turn.new.keeper (before.gone (says.calls.began_clean clean) x h) (says.says clean) c.in-Open.is;
      flushed = λ some. open_flushed c.take_turn-turn.result _ _ c.in-Open.is says.flushed;
    }

pub loop-answers-init : goal.loop-answers-init
loop-answers-init g c =
    let model = g.K.Keeper.model in
    record {
      room = refl;
      calls = no_calls model _;
      gone = λ clean x h. gone_none model (site_value c.args.site.now) x _ _ c.args.keeper.now h;
      flushed = none_flushed (g.W.Flush.is_flushed c.args.writer.now);
    }

pub returns-in_default : goal.returns-in_default
returns-in_default g c =
    let model = g.K.Keeper.model in
    let before = c.loop-answers.invariant in
    let says = c.take_turn-turn.ensures in
    let closed : c.take_turn-turn.result ≢ Open = search rules in
    record {
      calls = calls_then model _ _ _ before.calls says.calls;
      flushed = stream_flushed c.take_turn-turn.result c.loop-answers.answers c.count_after.result c.end_of.result _ _ _
          closed c.end_of.ensures c.count_after.ensures before.flushed says.flushed;
      serves = λ clean x h. gone_ends model (site_value c.args.site.now) x c.loop-answers.answers c.take_turn-turn.result
          (g.R.Read.remaining c.args.reader.now) (g.R.Read.remaining c.loop-answers.reader) (g.R.Read.remaining c.take_turn-turn.new.reader)
          (g.W.Write.contents c.args.writer.now) (g.W.Write.contents c.loop-answers.writer) (g.W.Write.contents c.take_turn-turn.new.writer)
          c.args.keeper.now c.loop-answers.keeper c.take_turn-turn.new.keeper (before.gone (says.calls.began_clean clean) x h) (says.says clean)
          c.count_after.result c.end_of.result closed c.end_of.ensures c.count_after.ensures;
    }

pub returns-clause-serves : goal.returns-clause-serves
returns-clause-serves g c = λ clean x h.
    let model = g.K.Keeper.model in
    let site = site_value c.args.site.now in
    let rest = g.R.Read.remaining c.loop-answers.reader in
    let held = g.W.Write.contents c.loop-answers.writer in
    let last : c.loop-answers.answers ≡ 18446744073709551615 = omega arith in
    gone_ends model site x 18446744073709551615 ReadFailed (g.R.Read.remaining c.args.reader.now) rest rest (g.W.Write.contents c.args.writer.now) held held
    c.args.keeper.now c.loop-answers.keeper c.loop-answers.keeper (rw last at (c.loop-answers.invariant.gone clean x h))
    (λ y in_condition. unread_turn model site y rest rest c.loop-answers.keeper in_condition held)
    18446744073709551615 _ (λ e. cc) refl refl

pub returns-clause-flushed : goal.returns-clause-flushed
returns-clause-flushed g c =
    let last : c.loop-answers.answers ≡ 18446744073709551615 = omega arith in
    same_flushed c.loop-answers.answers 18446744073709551615 _ _ last c.loop-answers.invariant.flushed
