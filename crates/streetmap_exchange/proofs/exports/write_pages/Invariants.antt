use Rattle.std.proofs.Common.{◌≡◌, None, Some, Ok}
use Rattle.streetmap_ledger.specs.Pages.{page_in}
use Rattle.streetmap_ledger.specs.PageView.{page_value}
use Rattle.streetmap_ledger.specs.State.{State}
use Rattle.streetmap_replay.specs.Calls.{AreReads}
use Rattle.streetmap_exchange.specs.Exports.{part_query}
use Rattle.streetmap_exchange.proofs.ExportLemmas.{Underway}
use Rattle.streetmap_exchange.proofs.exports.write_pages.Given as goal

-- the pages before this one are written, and the state stays
abbrev pub invariant-loop-turn : goal.invariant-loop-turn
invariant-loop-turn g l =
    let model = g.K.Keeper.model in
    record {
      reads : AreReads model l.fn.keeper l.keeper (Some (Ok tt));
      underway : model.is_clean l.keeper → (s : State) → model.represents l.fn.keeper s → page_in s l.collection (part_query None)
          ≡ Some (page_value l.fn.first)
          → Underway s l.collection (g.W.Write.contents l.fn.writer) (g.W.Write.contents l.writer) l.later (page_value l.page);
    }
