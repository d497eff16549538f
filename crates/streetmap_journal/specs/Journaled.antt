-- The model of a keeper with a journal.
use Rattle.std.specs.Prelude.{ℕ, List, Option}
use Rattle.streetmap_ledger.specs.Model.{Model}
use Rattle.streetmap_journal.specs.Reports.{IsForIf, ReachesUnless}
use Rattle.streetmap_journal.specs.Written.{OfReply}
use Rattle.streetmap_journal.specs.declared.keeper.JournaledKeeper.{JournaledKeeper}

-- It represents what the keeper below represents, and its journal, if any, is for that.
-- Of a batch that was answered: lines that were missing were read first, and if one is missing
-- after the reply, a write or a synchronising of the journal failed in this call.
abbrev pub journaled : {K W : Type 0} → Model K → (contents : W → Option (List ℕ)) →
    (reported : W → Option ℕ) → (kept : W → Type 0) → (fails : W → W → Type 0) →
    Model (JournaledKeeper K W)
journaled {K} model contents reported kept fails = record {
  represents = λ k s. model.represents k.keeper s × IsForIf contents reported kept k.journal s;
  may_leave = λ k. model.may_leave k.keeper;
  cause = λ k. model.cause k.keeper;
  is_clean = λ k. model.is_clean k.keeper;
  applies = λ k b result after. (was_read : K) × model.preserves k.keeper was_read
      × OfReply (λ r. model.applies was_read b r after.keeper
      × ReachesUnless fails k.journal after.journal) result;
  preserves = λ k l. model.preserves k.keeper l.keeper;
  fails = λ k l. model.fails k.keeper l.keeper;
  one_state = λ k s t p q. model.one_state k.keeper s t p.0 q.0;
  shut_has_none = λ k s shut is. model.shut_has_none k.keeper s shut is.0;
  may_leave_it = λ k s is. model.may_leave_it k.keeper s is.0;
  leaves_it = λ k s is o left. model.leaves_it k.keeper s is.0 o left;
  well_formed = λ k s is. model.well_formed k.keeper s is.0;
  preserves_itself = λ k. model.preserves_itself k.keeper;
  preserves_then = λ k l m first next. model.preserves_then k.keeper l.keeper m.keeper first next;
  fails_later = λ k l m first next failed.
      model.fails_later k.keeper l.keeper m.keeper first next failed;
  fails_still = λ k l m failed shut next.
      model.fails_still k.keeper l.keeper m.keeper failed shut next;
}
