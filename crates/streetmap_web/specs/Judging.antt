-- Answers to a request under conditions, once the state's tag is known.
use Rattle.std.specs.Prelude.{◌≡◌, ◌≢◌, ◌⊎◌, ℕ, true, Option, None, Some, unwrap_or}
use Rattle.std.specs.Prelude.{Result, Ok, Err}
use Rattle.streetmap_http.specs.Preconditions.{PreconditionsValue}
use Rattle.streetmap_batch.specs.Text.{Text}
use Rattle.streetmap_batch.specs.BatchValue.{BatchValue}
use Rattle.streetmap_ledger.specs.State.{State}
use Rattle.streetmap_ledger.specs.Kept.{batch_count}
use Rattle.streetmap_ledger.specs.Model.{Model}
use Rattle.streetmap_ledger.specs.Keep.{LeavesSame}
use Rattle.streetmap_ledger.specs.declared.reply.Cause.{Cause}
use Rattle.streetmap_ledger.specs.declared.reply.Fault.{Fault}
use Rattle.streetmap_ledger.specs.declared.reply.Reply.{Reply}
use Rattle.streetmap_ledger.specs.declared.reply.Reply.TheVariants.{Accepted, Repeated, Refused}
use Rattle.streetmap_routes.specs.Operations.{OperationValue, page, one_collection, changes, batch}
use Rattle.streetmap_web.specs.Response.{ResponseValue, Wanted, judged, state_by, not_modified}
use Rattle.streetmap_web.specs.Response.{changed, replied, tagged, verdict_on, with_serial}
use Rattle.streetmap_web.specs.Conditions.{ByCalls}
use Rattle.streetmap_web.specs.Responds.{RespondsIn, RespondsShut, RespondsAny, AppliesBy}
use Rattle.streetmap_web.specs.Responds.{IsSerialOf}
use Rattle.streetmap_web.specs.declared.verdict.Verdict.{Verdict}
use Rattle.streetmap_web.specs.declared.verdict.Verdict.TheVariants.{Holds, NotModified, Changed}

-- the tag after a batch, from the one before: the serial, if it was accepted
abbrev pub tag_after : ℕ → Reply → ℕ
tag_after n (Accepted counts serial) = serial
tag_after n (Repeated counts serial) = n
tag_after n (Refused refusal place) = n

-- what is answered in place of status 200 if the conditions do not hold
abbrev pub in_place_by : ℕ → Verdict → ResponseValue
in_place_by n Holds = changed
in_place_by n NotModified = not_modified n
in_place_by n Changed = changed

-- a read that has the same status, and takes less: for a page its collection, and no change for
-- changes
abbrev pub probe : OperationValue → OperationValue
probe (page name q) = one_collection name
probe (changes after limit) = changes after 0
probe operation = operation

-- a batch by what the keeper returned: its reply is the response, with a tag, and its fault is to
-- be answered; `uncalled` says that `apply` was not called, and then there is a fault, or the
-- verdict does not let the batch act
abbrev pub RespondsByReply : {A : Type 0} → Text → Verdict → (A → ResponseValue → Type 0)
    → Result A Fault → (applies : Result Reply Fault → Type 0) → (uncalled : Type 0) → Type 0
RespondsByReply key verdict Is (Ok r) applies uncalled =
    ((reply : Reply) × (n : ℕ) × applies (Ok reply) × IsSerialOf reply n
    × Is r (tagged n (replied key reply)))
    ⊎ ((verdict ≢ Holds) × uncalled × Is r changed)
RespondsByReply key verdict Is (Err fault) applies uncalled = applies (Err fault) ⊎ uncalled

-- A request was responded to between two keepers, by a verdict on the state's tag: if the first
-- represented a state with this tag, the result is that of the verdict. Otherwise it is what it is
-- without conditions.
pub record RespondsBy {K A : Type 0} (model : Model K) (root : Text) (operation : OperationValue)
    (verdict : Verdict) (n : ℕ) (Is : A → ResponseValue → Type 0) (old new : K)
    (result : Result A Fault) : Type 0 where
  pub calls : ByCalls model old new
  pub in_state : model.is_clean new → (s : State) → model.represents old s → n ≡ batch_count s
      → RespondsIn model s operation (judged root s operation verdict)
      (state_by s operation verdict) Is old new result
  pub shut : (why : Cause) → model.cause old ≡ Some why
      → RespondsShut root operation Is result
      × (model.cause new ≡ Some why) × LeavesSame (model.may_leave old) (model.may_leave new)
  pub any : RespondsAny root operation Is result (model.cause new)
  pub to_batch : (b : BatchValue) → operation ≡ batch b
      → RespondsByReply b.key verdict Is result (λ r. AppliesBy model true old b r new)
      (ByCalls model old new)

-- ---- with the serial

-- the verdict on a state of this tag; without conditions it is that they hold
abbrev pub verdict_under : ℕ → OperationValue → Option PreconditionsValue → Verdict
verdict_under n operation None = Holds
verdict_under n operation (Some p) = verdict_on n p operation

-- a tag, if there are conditions
abbrev pub tag_under : Option PreconditionsValue → Option ℕ → Option ℕ
tag_under None tag = None
tag_under (Some p) tag = tag

-- A response as it is shown, if the state before had this tag: the serial of the state afterwards
-- is the number of its tag, and if it has none the state is as before. It keeps the tag if there
-- are conditions.
abbrev pub shown : Wanted → (before : ℕ) → ResponseValue → ResponseValue
shown wanted before p = with_serial wanted.numbered (unwrap_or p.tag before)
    (record p { tag = tag_under wanted.conditions p.tag })
