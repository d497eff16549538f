-- What is returned of a batch, and of a line.
use Rattle.std.proofs.Common.{◌≡◌, ℕ, Bool, true, false, cond, List, Option, None, Some, Result, Ok, Err, refl, sym, ap, subst, inl, ◌∙◌}
use Rattle.streetmap_batch.specs.BatchFaults.{Fails}
use Rattle.streetmap_batch.specs.BatchValue.{BatchValue}
use Rattle.streetmap_batch.specs.BatchView.{batch_value}
use Rattle.streetmap_batch.specs.declared.batch.Batch.{Batch}
use Rattle.streetmap_batch.specs.declared.batch_fault.BatchFault.{BatchFault}
use Rattle.streetmap_batch.specs.declared.batch_fault.BatchFault.TheVariants.{BadBatch, BadKey, TooManyEdits, BadFeature}
use Rattle.streetmap_batch.specs.declared.batch_fault.BatchFault.TheVariants as batches
use Rattle.streetmap_batch.specs.ParsedBatches.{batch_of}
use Rattle.streetmap_batch.specs.Text.{Text}
use Rattle.streetmap_ledger.specs.Batches.{Outcome, act}
use Rattle.streetmap_ledger.specs.Model.{Model}
use Rattle.streetmap_ledger.specs.Keep.{Reads, Writes, LeavesEither, IsRead, IsWrite}
use Rattle.streetmap_ledger.specs.State.{State}
use Rattle.streetmap_ledger.specs.declared.reply.Fault.{Fault}
use Rattle.streetmap_ledger.specs.declared.reply.Fault.TheVariants.{Memory, Device, Damaged, Reopen}
use Rattle.streetmap_ledger.specs.declared.reply.Reply.{Reply}
use Rattle.streetmap_ledger.specs.declared.reply.Reply.TheVariants.{Accepted, Repeated, Refused}
use Rattle.streetmap_ledger.proofs.Acceptance.{refused_changes_nothing}
use Rattle.streetmap_replay.specs.FollowedLines.{LineFault, unread, not_next, unless_refused, acted, acted_next, is_next, line_outcome}
use Rattle.streetmap_replay.specs.Lines.{IsJournalLine}
use Rattle.streetmap_replay.specs.View.{line_with, line_value}
use Rattle.streetmap_replay.specs.LineEffects.{acted_with, state_after, Follows, IsFollowed}
use Rattle.streetmap_replay.specs.ParsedLines.{line_text, FollowsLine}
use Rattle.streetmap_replay.specs.declared.follow_fault.FollowFault.{FollowFault}
use Rattle.streetmap_replay.specs.declared.follow_fault.FollowFault.TheVariants.{Unread, Stopped}
use Rattle.streetmap_replay.specs.declared.follow_fault.FollowFault.TheVariants as stops
use Rattle.streetmap_replay.specs.declared.line_bytes.Line.{Line}
use Rattle.streetmap_replay.proofs.CallsInTurn.{answered, call_of, failed, no_calls, calls_then}

-- ---- a batch

-- the reply to it, as the result of its line
abbrev pub line_reply : Reply → Result Reply FollowFault
line_reply (Accepted counts serial) = Ok (Accepted counts serial)
line_reply (Repeated counts serial) = Ok (Repeated counts serial)
line_reply (Refused why place) = Err (stops.Refused why place)

after_is : (s : State) (b : BatchValue) (r : Reply) → (act s b).reply ≡ r → (act s b).state ≡ state_after s (unless_refused (act s b).state r)
after_is s b (Accepted counts serial) e = refl
after_is s b (Repeated counts serial) e = refl
after_is s b (Refused why place) e = (refused_changes_nothing s b why place e).0

module _ {K : Type 0} (model : Model K) where
  -- calls were made before
  pub follows_from : (a b c : K) (s : State) (outcome : Result Outcome LineFault) (r : Result Reply FollowFault) → (model.fails b c → model.fails a c) →
      Follows model b c s outcome r
      → Follows model a c s outcome r
  follows_from a b c s outcome (Ok reply) before h = h
  follows_from a b c s outcome (Err (Unread (BadBatch place))) before h = h
  follows_from a b c s outcome (Err (Unread BadKey)) before h = h
  follows_from a b c s outcome (Err (Unread TooManyEdits)) before h = h
  follows_from a b c s outcome (Err (Unread (BadFeature place cause))) before h = h
  follows_from a b c s outcome (Err (Unread batches.Memory)) before h = h
  follows_from a b c s outcome (Err stops.NotNext) before h = h
  follows_from a b c s outcome (Err (stops.Refused why place)) before h = h
  follows_from a b c s outcome (Err (Stopped Memory)) before h = h
  follows_from a b c s outcome (Err (Stopped Device)) before h = (before h.0, h.1)
  follows_from a b c s outcome (Err (Stopped Damaged)) before h = h
  follows_from a b c s outcome (Err (Stopped Reopen)) before h = h
  follows_from a b c s outcome (Err stops.CutLine) before h = h
  follows_from a b c s outcome (Err (stops.NotRead fault)) before h = h
  follows_from a b c s outcome (Err stops.NotReported) before h = h

  -- the keeper failed during the write
  stops_at : (a b : K) (s : State) (batch : BatchValue) (fault : Fault) → Writes model a b s batch (Err fault) →
      Follows model a b s (acted s (Ok batch)) (Err (Stopped fault))
  stops_at a b s batch Memory h = h
  stops_at a b s batch Device h = (
    h.0,
    subst (λ (t : State). LeavesEither (model.may_leave b) (Some s) (Some t)) (after_is s batch (act s batch).reply refl)
        h.1,
  )
  stops_at a b s batch Damaged h = h
  stops_at a b s batch Reopen h = h

  -- or during the read
  fails_at : (T : Type 0) (a b : K) (s : State) (outcome : Result Outcome LineFault) (Is : T → Type 0) (fault : Fault) → Reads model a b s Is (Err fault)
      → Follows model a b s outcome (Err (Stopped fault))
  fails_at T a b s outcome Is Memory h = h
  fails_at T a b s outcome Is Device h = (h.0, λ o may. inl (h.1 o may))
  fails_at T a b s outcome Is Damaged h = h
  fails_at T a b s outcome Is Reopen h = h

module _ {K : Type 0} {model : Model K} where
  -- the batch was answered
  pub written : {a b : K} (batch : BatchValue) (reported : Reply) → IsWrite model a b batch (Ok reported) →
      IsFollowed model a b (λ s. acted s (Ok batch)) (line_reply reported)
  written batch (Accepted counts serial) write = record {
    of_line = tt;
    calls = answered write.call;
    follows = λ h s e.
        let it = write.writes h s e in
        let t = (act s batch).state in
        (record { reply = Accepted counts serial; state = t }, ap (unless_refused t) (sym it.0), refl, it.1);
  }
  written batch (Repeated counts serial) write = record {
    of_line = tt;
    calls = answered write.call;
    follows = λ h s e.
        let it = write.writes h s e in
        let t = (act s batch).state in
        (record { reply = Repeated counts serial; state = t }, ap (unless_refused t) (sym it.0), refl, it.1);
  }
  written {a} {b} batch (Refused why place) write = record {
    of_line = tt;
    calls = answered write.call;
    follows = λ h s e.
        let it = write.writes h s e in (
          ap (unless_refused (act s batch).state) (sym it.0),
          subst (model.represents b) (refused_changes_nothing s batch why place (sym it.0)).0 it.1,
        );
  }

  -- the batch was not answered, since the keeper failed
  pub failed_write : {a b : K} (batch : BatchValue) (fault : Fault) → IsWrite model a b batch (Err fault) →
      IsFollowed model a b (λ s. acted s (Ok batch)) (Err (Stopped fault))
  failed_write {a} {b} batch fault write = record {
    of_line = tt;
    calls = failed write.call;
    follows = λ h s e. stops_at model a b s batch fault (write.writes h s e);
  }

  -- ---- a batch with its serial

  -- whose serial is the next one
  pub next_followed : {a b c : K} {r : Result Reply FollowFault} {next : Bool} (serial : ℕ) (batch : BatchValue) →
      IsRead model a b (Ok next) (λ s n. n ≡ is_next s serial batch) → next ≡ true
      → IsFollowed model b c (λ s. acted s (Ok batch)) r → IsFollowed model a c (λ s. acted_next s serial (Ok batch)) r
  next_followed {a} {b} {c} {r} {next} serial batch read is then = record {
    of_line = then.of_line;
    calls = calls_then (call_of read.call) then.calls;
    follows = λ h s e.
        let found = read.reads (then.calls.began_clean h) s e in
        let outcome = acted s (Ok batch) in
        subst (λ (t : Bool). Follows model a c s (cond t outcome (Err not_next)) r) (sym is ∙ found.0)
        (follows_from model a b c s outcome r (model.fails_later a b c read.call.preserved then.calls.preserved) (then.follows h s found.1));
  }

  -- whose serial is not the next one
  pub next_not : {a b : K} {next : Bool} (serial : ℕ) (batch : BatchValue) → IsRead model a b (Ok next) (λ s n. n ≡ is_next s serial batch) → next ≡ false
      → IsFollowed model a b (λ s. acted_next s serial (Ok batch)) (Err stops.NotNext)
  next_not {a} {b} {next} serial batch read is = record {
    of_line = tt;
    calls = answered read.call;
    follows = λ h s e.
        let found = read.reads h s e in
        (ap (λ (t : Bool). cond t (acted s (Ok batch)) (Err not_next)) (sym found.0 ∙ is), found.1);
  }

  -- of which this is not known, since the keeper failed
  pub next_failed : {T : Type 0} {a b : K} {fault : Fault} {Is : State → T → Type 0} (outcome : State → Result Outcome LineFault) →
      IsRead model a b (Err fault) Is
      → IsFollowed model a b outcome (Err (Stopped fault))
  next_failed {T} {a} {b} {fault} {Is} outcome read = record {
    of_line = tt;
    calls = failed read.call;
    follows = λ h s e. fails_at model T a b s (outcome s) (Is s) fault (read.reads h s e);
  }

-- ---- a line

-- the outcome of a line is that of its batch, with its serial
pub outcome_is : (s : State) (serial : Option ℕ) (text : Text) →
    line_outcome s (line_with serial text) ≡ acted_with s serial (batch_of text)
outcome_is s None text = refl
outcome_is s (Some serial) text = refl

text_of : (serial : Option ℕ) (text : Text) → line_text (line_with serial text) ≡ text
text_of None text = refl
text_of (Some serial) text = refl

unread_by : (s : State) (serial : Option ℕ) (read : Result BatchValue BatchFault)
    (fault : BatchFault) → read ≡ Err fault → acted_with s serial read ≡ Err (unread fault)
unread_by s None read fault e = ap (acted s) e
unread_by s (Some serial) read fault e = ap (acted_next s serial) e

module _ {K : Type 0} (model : Model K) where
  unread_follows : (k : K) (s : State) (outcome : Result Outcome LineFault) (read : Result BatchValue BatchFault) (fault : BatchFault)
      → ((why : BatchFault) → read ≡ Err why → outcome ≡ Err (unread why)) → Fails fault read → model.represents k s →
      Follows model k k s outcome (Err (Unread fault))
  unread_follows k s outcome read (BadBatch place) is fails h = (is (BadBatch place) fails, h)
  unread_follows k s outcome read BadKey is fails h = (is BadKey fails, h)
  unread_follows k s outcome read TooManyEdits is fails h = (is TooManyEdits fails, h)
  unread_follows k s outcome read (BadFeature place cause) is fails h = (is (BadFeature place cause) fails, h)
  unread_follows k s outcome read batches.Memory is fails h = h

  module _ (bytes : List ℕ) (line : Line) (is : IsJournalLine bytes (line_value line)) where
    -- a line that is no batch
    pub not_read : (k : K) (fault : BatchFault) → Fails fault (batch_of line.text.now) → FollowsLine model k k bytes (Err (Unread fault))
    not_read k fault fails = record {
      line = line_value line;
      is = is;
      batch = tt;
      followed = record {
        of_line = tt;
        calls = no_calls k;
        follows = λ h s e. unread_follows k s (line_outcome s (line_value line)) (batch_of line.text.now) fault
            (λ why said. outcome_is s line.serial line.text.now ∙ unread_by s line.serial (batch_of line.text.now) why said) fails e;
      };
    }

    -- a line whose batch was given to the keeper
    followed_as : {a b : K} (batch : BatchValue) (r : Result Reply FollowFault) → batch_of line.text.now ≡ Ok batch →
        IsFollowed model a b (λ s. acted_with s line.serial (Ok batch)) r
        → IsFollowed model a b (λ s. line_outcome s (line_value line)) r
    followed_as {a} {b} batch r e followed = record {
      of_line = followed.of_line;
      calls = followed.calls;
      follows = λ h s there.
          let same = sym (outcome_is s line.serial line.text.now ∙ ap (acted_with s line.serial) e) in
          subst (λ (o : Result Outcome LineFault). Follows model a b s o r) same (followed.follows h s there);
    }

    pub read_on : {a b : K} (batch : Batch) (reply : Reply) → batch_of line.text.now ≡ Ok (batch_value batch)
        → IsFollowed model a b (λ s. acted_with s line.serial (Ok (batch_value batch))) (Ok reply)
        → FollowsLine model a b bytes (Ok (record { batch = batch; reply = reply }))
    read_on batch reply e followed = record {
      line = line_value line;
      is = is;
      batch = ap batch_of (text_of line.serial line.text.now) ∙ e;
      followed = followed_as (batch_value batch) (Ok reply) e followed;
    }

    pub read_stopped : {a b : K} (batch : BatchValue) (fault : FollowFault) → batch_of line.text.now ≡ Ok batch
        → IsFollowed model a b (λ s. acted_with s line.serial (Ok batch)) (Err fault) → FollowsLine model a b bytes (Err fault)
    read_stopped batch fault e followed = record {
      line = line_value line;
      is = is;
      batch = tt;
      followed = followed_as batch (Err fault) e followed;
    }
