-- The model of a keeper with an index.
use Rattle.streetmap_ledger.specs.Model.{Model}
use Rattle.streetmap_index.specs.Index.{IsIndexOf}
use Rattle.streetmap_index.specs.declared.keeper.IndexedKeeper.{IndexedKeeper}

-- it represents what the keeper below represents, and its index is of that
abbrev pub indexed : {K : Type 0} → Model K → Model (IndexedKeeper K)
indexed model = record {
  represents = λ k s. model.represents k.keeper s × IsIndexOf k.index s;
  may_leave = λ k. model.may_leave k.keeper;
  cause = λ k. model.cause k.keeper;
  is_clean = λ k. model.is_clean k.keeper;
  applies = λ k b result after. model.applies k.keeper b result after.keeper;
  preserves = λ k l. model.preserves k.keeper l.keeper;
  fails = λ k l. model.fails k.keeper l.keeper;
  one_state = λ k s t p q. model.one_state k.keeper s t p.0 q.0;
  shut_has_none = λ k s shut is. model.shut_has_none k.keeper s shut is.0;
  may_leave_it = λ k s is. model.may_leave_it k.keeper s is.0;
  leaves_it = λ k s is o left. model.leaves_it k.keeper s is.0 o left;
  well_formed = λ k s is. model.well_formed k.keeper s is.0;
  preserves_itself = λ k. model.preserves_itself k.keeper;
  preserves_then = λ k l m first next. model.preserves_then k.keeper l.keeper m.keeper first next;
  fails_later = λ k l m first next failed.
      model.fails_later k.keeper l.keeper m.keeper first next failed;
  fails_still = λ k l m failed shut next.
      model.fails_still k.keeper l.keeper m.keeper failed shut next;
}
