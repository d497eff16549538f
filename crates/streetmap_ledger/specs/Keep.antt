-- What a call of a keeper does.
use Rattle.std.specs.Prelude.{◌≡◌, ◌⊎◌, ℕ, ◌+◌, List, Vec, Option, None, Some, Result, Ok, Err}
use Rattle.std.specs.Prelude.{IsSome, IsErrOf, take}
use Rattle.std.specs.Option.{option_map}
use Rattle.std.specs.declared.alloc.Global.{Global}
use Rattle.streetmap_geojson.specs.FeatureValue.{FeatureValue}
use Rattle.streetmap_query.specs.Views.{query_value}
use Rattle.streetmap_query.specs.declared.queries.Query.{Query}
use Rattle.streetmap_batch.specs.Text.{Text}
use Rattle.streetmap_batch.specs.BatchValue.{BatchValue}
use Rattle.streetmap_ledger.specs.State.{State}
use Rattle.streetmap_ledger.specs.Model.{Model}
use Rattle.streetmap_ledger.specs.Batches.{act, after_all}
use Rattle.streetmap_ledger.specs.Pages.{page_in, feature_in, run_in}
use Rattle.streetmap_ledger.specs.PageView.{page_value}
use Rattle.streetmap_ledger.specs.Summaries.{summary_in, summaries_in}
use Rattle.streetmap_ledger.specs.SummaryView.{summary_value, summary_values}
use Rattle.streetmap_ledger.specs.Outlines.{outlines_in}
use Rattle.streetmap_ledger.specs.OutlineView.{feature_outline_values}
use Rattle.streetmap_ledger.specs.declared.outline.FeatureOutline.{FeatureOutline}
use Rattle.streetmap_ledger.specs.declared.summary.Summary.{Summary}
use Rattle.streetmap_ledger.specs.Kept.{batch_count, batch_in, AreNext}
use Rattle.streetmap_ledger.specs.KeptView.{keyed_batch, keyed_batches}
use Rattle.streetmap_ledger.specs.declared.kept_batch.KeptBatch.{KeptBatch}
use Rattle.streetmap_ledger.specs.declared.page.Page.{Page}
use Rattle.streetmap_ledger.specs.declared.reply.Reply.{Reply}
use Rattle.streetmap_ledger.specs.declared.reply.Cause.{Cause}
use Rattle.streetmap_ledger.specs.declared.reply.Cause.TheVariants as causes
use Rattle.streetmap_ledger.specs.declared.reply.Fault.{Fault}
use Rattle.streetmap_ledger.specs.declared.reply.Fault.TheVariants.{Memory, Device, Damaged, Reopen}

-- a shut keeper answers `Reopen` and no other does; `Device` and `Damaged` shut it
abbrev pub ShutsBy : {T : Type 0} → Result T Fault → Option Cause → Option Cause → Type 0
ShutsBy (Ok _) old new = (old ≡ None) × (new ≡ None)
ShutsBy (Err Memory) old new = (old ≡ None) × (new ≡ None)
ShutsBy (Err Device) old new = (old ≡ None) × (new ≡ Some causes.Device)
ShutsBy (Err Damaged) old new = (old ≡ None) × (new ≡ Some causes.Damaged)
ShutsBy (Err Reopen) old new = IsSome old × (new ≡ old)

-- a crash may leave this and nothing else
abbrev pub LeavesOnly : (Option State → Type 0) → Option State → Type 0
LeavesOnly left s = (o : Option State) → left o → o ≡ s

-- a crash may leave one of these two and nothing else
abbrev pub LeavesEither : (Option State → Type 0) → Option State → Option State → Type 0
LeavesEither left s t = (o : Option State) → left o → (o ≡ s) ⊎ (o ≡ t)

-- a crash may leave the same after as before
abbrev pub LeavesSame : (before after : Option State → Type 0) → Type 0
LeavesSame before after = (o : Option State) → (after o → before o) × (before o → after o)

-- a read, if the keeper represented this state: what was read holds in the state, which stays; or
-- memory ran out, and the state stays; or the store failed, and a crash leaves the state
abbrev pub Reads : {K T : Type 0} → Model K → (old new : K) → State → (T → Type 0)
    → Result T Fault → Type 0
Reads model old new s Is (Ok found) = Is found × model.represents new s
Reads model old new s Is (Err Memory) = model.represents new s
Reads model old new s Is (Err Device) =
    model.fails old new × LeavesOnly (model.may_leave new) (Some s)
Reads model old new s Is (Err Damaged) = ⊥
Reads model old new s Is (Err Reopen) = ⊥

-- a batch, if the keeper represented this state: the reply is the batch's, and the keeper
-- represents the state after it; or memory ran out, and the state stays; or the store failed, and a
-- crash leaves the state before the batch or the one after it
abbrev pub Writes : {K : Type 0} → Model K → (old new : K) → State → BatchValue
    → Result Reply Fault → Type 0
Writes model old new s b (Ok reply) =
    (reply ≡ (act s b).reply) × model.represents new (act s b).state
Writes model old new s b (Err Memory) = model.represents new s
Writes model old new s b (Err Device) =
    model.fails old new × LeavesEither (model.may_leave new) (Some s) (Some (act s b).state)
Writes model old new s b (Err Damaged) = ⊥
Writes model old new s b (Err Reopen) = ⊥

-- a page
abbrev pub IsPageOf : Text → Query → State → Option Page → Type 0
IsPageOf name q s page = option_map page_value page ≡ page_in s name (query_value q)

-- a feature
abbrev pub IsFeatureOf : Text → Text → State → Option FeatureValue → Type 0
IsFeatureOf name id s found = found ≡ feature_in s name id

-- the features of a collection whose ids lie between two
abbrev pub IsRunOf : Text → Text → Text → State → Option (Vec FeatureValue Global) → Type 0
IsRunOf name first last s found =
    option_map (λ (fs : Vec FeatureValue Global). fs.items) found ≡ run_in s name first last

-- the summary of a collection
abbrev pub IsSummaryOf : Text → State → Option Summary → Type 0
IsSummaryOf id s summary = option_map summary_value summary ≡ summary_in s id

-- the summaries of all collections
abbrev pub AreSummaries : State → Vec Summary Global → Type 0
AreSummaries s summaries = summary_values summaries.items ≡ summaries_in s

-- what is known of a collection's features without reading them
abbrev pub AreOutlinesOf : Text → State → Option (Vec FeatureOutline Global) → Type 0
AreOutlinesOf name s found =
    option_map (λ (os : Vec FeatureOutline Global). feature_outline_values os.items) found
    ≡ outlines_in s name

-- how many batches are kept
abbrev pub IsBatchCount : State → ℕ → Type 0
IsBatchCount s count = count ≡ batch_count s

-- the batch that is kept with a serial
abbrev pub IsBatchOf : ℕ → State → Option KeptBatch → Type 0
IsBatchOf serial s batch = option_map keyed_batch batch ≡ batch_in s serial

-- the batches after a serial
abbrev pub AreNextOf : ℕ → ℕ → State → Vec KeptBatch Global → Type 0
AreNextOf after room s found = AreNext s after room (keyed_batches found.items)

-- any call: it keeps what else the store has; a store that is clean after it was clean before it;
-- its fault says what shut the keeper; and after `Reopen` a crash leaves what it left before
pub record IsCall {K T : Type 0} (model : Model K) (old new : K) (result : Result T Fault)
    : Type 0 where
  pub preserved : model.preserves old new
  pub began_clean : model.is_clean new → model.is_clean old
  pub faults : ShutsBy result (model.cause old) (model.cause new)
  pub reopen : IsErrOf result Reopen → LeavesSame (model.may_leave old) (model.may_leave new)

-- a call that reads: if the store is clean as it ends, what was found holds
pub record IsRead {K T : Type 0} (model : Model K) (old new : K) (result : Result T Fault)
    (Is : State → T → Type 0) : Type 0 where
  pub call : IsCall model old new result
  pub reads : model.is_clean new → (s : State) → model.represents old s
      → Reads model old new s (Is s) result

-- a call that acts on a batch: if the store is clean as it ends, the batch acts whole or not at all
pub record IsWrite {K : Type 0} (model : Model K) (old new : K) (b : BatchValue)
    (result : Result Reply Fault) : Type 0 where
  pub applied : model.applies old b result new
  pub call : IsCall model old new result
  pub writes : model.is_clean new → (s : State) → model.represents old s
      → Writes model old new s b result

-- a run of batches, if the keeper represented this state: k of them were answered, and the keeper
-- represents the state after these; or the store failed, and a crash leaves that state or the one
-- after one batch more
abbrev pub RunEnds : {K : Type 0} → Model K → (old new : K) → State → List BatchValue → ℕ
    → Option Fault → Type 0
RunEnds model old new s bs k None = model.represents new (after_all s (take k bs))
RunEnds model old new s bs k (Some Memory) = model.represents new (after_all s (take k bs))
RunEnds model old new s bs k (Some Device) = model.fails old new
    × LeavesEither (model.may_leave new) (Some (after_all s (take k bs)))
    (Some (after_all s (take (k + 1) bs)))
RunEnds model old new s bs k (Some Damaged) = ⊥
RunEnds model old new s bs k (Some Reopen) = ⊥

-- what shut the keeper of a run
abbrev pub RunShuts : Option Fault → Option Cause → Option Cause → Type 0
RunShuts None old new = new ≡ old
RunShuts (Some Memory) old new = new ≡ old
RunShuts (Some Device) old new = (old ≡ None) × (new ≡ Some causes.Device)
RunShuts (Some Damaged) old new = (old ≡ None) × (new ≡ Some causes.Damaged)
RunShuts (Some Reopen) old new = IsSome old × (new ≡ old)

-- calls in a row, of which this fault of the keeper ended the last, if one did: what holds of each
-- call holds of them together
pub record AreCalls {K : Type 0} (model : Model K) (old new : K) (fault : Option Fault) : Type 0
  where
    pub preserved : model.preserves old new
    pub began_clean : model.is_clean new → model.is_clean old
    pub faults : RunShuts fault (model.cause old) (model.cause new)
    pub reopen : fault ≡ Some Reopen → LeavesSame (model.may_leave old) (model.may_leave new)
