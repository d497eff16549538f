use Rattle.std.proofs.Common.{◌≡◌, ◌<◌, ◌⊎◌, length}
use Rattle.streetmap_http.specs.declared.limits.TheConstants.{HEAD_LIMIT}
use Rattle.streetmap_web.specs.Site.{site_value}
use Rattle.streetmap_web.specs.Conditions.{Condition, IsInCondition, ByCalls}
use Rattle.streetmap_web.proofs.TurnsInARow.{Gone}
use Rattle.streetmap_web.proofs.turns.serve.Given as goal

abbrev pub invariant-loop-answers : goal.invariant-loop-answers
invariant-loop-answers g l =
    let model = g.K.Keeper.model in
    record {
      room : length l.buf ≡ HEAD_LIMIT;
      calls : ByCalls model l.initial.keeper l.keeper;
      gone : model.is_clean l.keeper → (x : Condition) → IsInCondition model l.initial.keeper x →
          Gone model (site_value l.site) x l.answers
          (g.R.Read.remaining l.initial.reader) (g.R.Read.remaining l.reader) (g.W.Write.contents l.initial.writer) (g.W.Write.contents l.writer) l.initial.keeper l.keeper;
      flushed : (0 < l.answers) ⊎ g.W.Flush.is_flushed l.initial.writer → g.W.Flush.is_flushed l.writer;
    }
