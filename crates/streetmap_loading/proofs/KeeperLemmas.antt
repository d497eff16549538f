-- Batches that were applied to a keeper, one after the other.
use Rattle.std.proofs.Common.{◌≡◌, ℕ, List, [], ◌∷◌, ◌++◌, Option, None, Some, Result, Ok, Err}
use Rattle.std.proofs.Common.{IsSome, IsErrOf, length, take, refl, sym, ap, subst, ◌∙◌}
use Rattle.std.proofs.Common.{append_assoc}
use Rattle.std.proofs.lemmas.List.{append-nil}
use Rattle.streetmap_batch.specs.Text.{Text}
use Rattle.streetmap_batch.specs.BatchValue.{BatchValue}
use Rattle.streetmap_ledger.specs.State.{State}
use Rattle.streetmap_ledger.specs.Batches.{act, after_all}
use Rattle.streetmap_ledger.proofs.Acceptance.{refused_changes_nothing}
use Rattle.streetmap_ledger.specs.Model.{Model}
use Rattle.streetmap_ledger.specs.Keep.{ShutsBy, Writes, LeavesSame, RunShuts, AreCalls}
use Rattle.streetmap_ledger.specs.Laws.{IsAcknowledged}
use Rattle.streetmap_ledger.specs.declared.reply.Cause.{Cause}
use Rattle.streetmap_ledger.specs.declared.reply.Refusal.{Refusal}
use Rattle.streetmap_ledger.specs.declared.reply.Fault.{Fault}
use Rattle.streetmap_ledger.specs.declared.reply.Fault.TheVariants as faults
use Rattle.streetmap_ledger.specs.declared.reply.Reply.{Reply}
use Rattle.streetmap_ledger.specs.declared.reply.Reply.TheVariants as replies
use Rattle.streetmap_loading.specs.Places.{PlacedValue, places_of, text_place}
use Rattle.streetmap_loading.specs.Sources.{Item, TakesOff, HasNoItem}
use Rattle.streetmap_loading.specs.Sinks.{SinkTakesAll}
use Rattle.streetmap_loading.specs.Ends.{EndsAt, EndsWithinBatch, ByEnd, placed_fault}
use Rattle.streetmap_loading.specs.Loads.{Loads, AreTakenOff, ItemsBeginWith, items_of}
use Rattle.streetmap_loading.specs.AppliedBatches.{Applies, taken_of}
use Rattle.streetmap_loading.specs.KeeperLoads.{keeper_fault, AreRead, AreAcknowledged, serial_of}
use Rattle.streetmap_loading.specs.KeeperLoads.{last_serial, StopsAt, EndsAtBatch}
use Rattle.streetmap_loading.specs.KeeperLoads.{LeavesUnsent, EndsIn, LoadsTo}
use Rattle.streetmap_loading.specs.declared.keeper_sink.KeeperSink.{KeeperSink}
use Rattle.streetmap_loading.specs.declared.loaded.Loaded.{Loaded}
use Rattle.streetmap_loading.specs.declared.load_fault.LoadFault.{LoadFault}
use Rattle.streetmap_loading.specs.declared.load_fault.LoadFault.TheVariants.{BadKey, BadCount, BadBatch, AtFault, ReadFailed, Memory, Refused, Stopped}
use Rattle.streetmap_loading.specs.declared.load_fault.LoadFault.TheVariants.{WriteFailed}

off_known : (items : List Item) (new : Option (List Item)) (xs : List Item) →
    TakesOff (Some items) new xs → (rest : List Item) × (items ≡ xs ++ rest)
off_known items None xs off = absurd off
off_known items (Some rest) xs off = (rest, off)

all_known : (items : List Item) (new : Option (List Item)) (xs : List Item) →
    TakesOff (Some items) new xs → HasNoItem (Some items) new → items ≡ xs
all_known items None xs off none = absurd off
all_known items (Some rest) xs off none = off ∙ (ap (λ t. xs ++ t) none ∙ append-nil xs)

fault_known : (items : List Item) (xs : List Item) (e : Item) →
    ItemsBeginWith (Some items) (xs ++ e ∷ []) → (rest : List Item) × (items ≡ xs ++ e ∷ rest)
fault_known items xs e h = (h.0, h.1 ∙ append_assoc xs (e ∷ []) h.0)

pub is_read : (old new : Option (List Item)) (read : List PlacedValue) (why : Option LoadFault) →
    AreTakenOff old new read why → AreRead old read why
is_read None new read why are = tt
is_read (Some items) new read None are = all_known items new (items_of read) are.0 are.1
is_read (Some items) new read (Some (AtFault fault)) are = fault_known items (items_of read) (Err fault)
    are
is_read (Some items) new read (Some ReadFailed) are = are
is_read (Some items) new read (Some Memory) are = are
is_read (Some items) new read (Some (Refused why place)) are = off_known items new (items_of read) are
is_read (Some items) new read (Some (Stopped fault)) are = off_known items new (items_of read) are
is_read (Some items) new read (Some WriteFailed) are = off_known items new (items_of read) are
is_read (Some items) new read (Some BadKey) are = off_known items new (items_of read) are
is_read (Some items) new read (Some BadCount) are = off_known items new (items_of read) are
is_read (Some items) new read (Some BadBatch) are = off_known items new (items_of read) are

module _ {S K : Type 0} (keeper : S → K) (model : Model K) where
  abbrev pub takes : S → BatchValue → Result (Option ℕ) LoadFault → S → Type 0
  takes old b result new = Applies model (keeper old) b result (keeper new)

  -- ---- one batch

  took_of :
      {P : Type 0} (serial : Option ℕ) (reply : Result Reply Fault) →
      Ok serial ≡ taken_of reply →
      ((r : Reply) → reply ≡ Ok r → IsAcknowledged r → serial ≡ serial_of r → P) → P
  took_of serial (Ok (replies.Accepted counts n)) is go =
      let e : serial ≡ Some n = cc in go (replies.Accepted counts n) refl tt e
  took_of serial (Ok (replies.Repeated counts n)) is go =
      let e : serial ≡ Some n = cc in go (replies.Repeated counts n) refl tt e
  took_of serial (Ok (replies.Refused why place)) is go = cc
  took_of serial (Err fault) is go = cc

  pub record Took (s : State) (b : BatchValue) (new : S) (serial : Option ℕ) : Type 0 where
    pub acknowledged : IsAcknowledged (act s b).reply
    pub serial_is : serial ≡ serial_of (act s b).reply
    pub represents : model.represents (keeper new) (act s b).state

  took : (s : State) (b : BatchValue) (old new : S) (serial : Option ℕ) →
      takes old b (Ok serial) new → model.is_clean (keeper new) → model.represents (keeper old) s
      → Took s b new serial
  took s b old new serial one clean h = took_of serial one.reply one.is (λ r is ack serial_is.
      let writes = subst (λ (x : Result Reply Fault). Writes model (keeper old) (keeper new) s b x) is (one.write.writes clean s h) in
      record {
        acknowledged = subst (λ (x : Reply). IsAcknowledged x) writes.0 ack;
        serial_is = serial_is ∙ ap serial_of writes.0;
        represents = writes.1;
      })

  -- ---- all batches

  pub clean_all :
      (first : S) (before : Option ℕ) (bs : List BatchValue) (last : S) (serial : Option ℕ) →
      SinkTakesAll takes first before bs last serial → model.is_clean (keeper last) →
      model.is_clean (keeper first)
  clean_all first before [] last serial all clean = subst (λ (x : S). model.is_clean (keeper x)) all.0 clean
  clean_all first before (b ∷ bs) last serial all clean =
      all.2.write.call.began_clean (clean_all all.0 all.1 bs last serial all.3 clean)

  pub record TookAll (s : State) (last : S) (before : Option ℕ) (bs : List BatchValue)
      (serial : Option ℕ) : Type 0 where
    pub acknowledged : AreAcknowledged s bs
    pub serial_is : serial ≡ last_serial before s bs
    pub represents : model.represents (keeper last) (after_all s bs)

  pub took_all :
      (s : State) (first : S) (before : Option ℕ) (bs : List BatchValue) (last : S)
      (serial : Option ℕ) →
      SinkTakesAll takes first before bs last serial → model.is_clean (keeper last) →
      model.represents (keeper first) s → TookAll s last before bs serial
  took_all s first before [] last serial all clean h = record {
    acknowledged = tt;
    serial_is = all.1;
    represents = subst (λ (x : S). model.represents (keeper x) s) (sym all.0) h;
  }
  took_all s first before (b ∷ bs) last serial all clean h =
      let one = took s b first all.0 all.1 all.2 (clean_all all.0 all.1 bs last serial all.3 clean) h in
      let more = took_all (act s b).state all.0 all.1 bs last serial all.3 clean one.represents in
      record {
        acknowledged = (one.acknowledged, more.acknowledged);
        serial_is = more.serial_is ∙ ap (λ x. last_serial x (act s b).state bs) one.serial_is;
        represents = more.represents;
      }

  -- ---- what shut the keeper

  open_one : (b : BatchValue) (old new : S) (serial : Option ℕ) → takes old b (Ok serial) new →
      (model.cause (keeper old) ≡ None) × (model.cause (keeper new) ≡ None)
  open_one b old new serial one = took_of serial one.reply one.is (λ r is ack serial_is.
      subst (λ (x : Result Reply Fault). ShutsBy x (model.cause (keeper old)) (model.cause (keeper new))) is one.write.call.faults)

  cause_kept :
      (first : S) (before : Option ℕ) (bs : List BatchValue) (last : S) (serial : Option ℕ) →
      SinkTakesAll takes first before bs last serial →
      model.cause (keeper last) ≡ model.cause (keeper first)
  cause_kept first before [] last serial all = ap (λ (x : S). model.cause (keeper x)) all.0
  cause_kept first before (b ∷ bs) last serial all =
      let one = open_one b first all.0 all.1 all.2 in
      cause_kept all.0 all.1 bs last serial all.3 ∙ (one.1 ∙ sym one.0)

  fault_shuts : (f : Fault) (old new : Option Cause) → ShutsBy {T = Reply} (Err f) old new →
      RunShuts (Some f) old new
  fault_shuts faults.Memory old new shuts = shuts.1 ∙ sym shuts.0
  fault_shuts faults.Device old new shuts = shuts
  fault_shuts faults.Damaged old new shuts = shuts
  fault_shuts faults.Reopen old new shuts = shuts

  stop_shuts :
      (placed : List (Option ℕ)) (stop : LoadFault) (reply : Result Reply Fault)
      (old new : Option Cause) →
      Err stop ≡ taken_of reply → ShutsBy reply old new →
      RunShuts (keeper_fault (Some (placed_fault placed stop))) old new
  stop_shuts placed stop (Ok (replies.Accepted counts n)) old new is shuts = cc
  stop_shuts placed stop (Ok (replies.Repeated counts n)) old new is shuts = cc
  stop_shuts placed stop (Ok (replies.Refused why place)) old new is shuts =
      let e : stop ≡ Refused why place = cc in
      subst (λ (x : LoadFault). RunShuts (keeper_fault (Some (placed_fault placed x))) old new) (sym e)
      (shuts.1 ∙ sym shuts.0)
  stop_shuts placed stop (Err fault) old new is shuts =
      let e : stop ≡ Stopped fault = cc in
      subst (λ (x : LoadFault). RunShuts (keeper_fault (Some (placed_fault placed x))) old new) (sym e)
      (fault_shuts fault old new shuts)

  same_fault : (f g : Fault) → Stopped f ≡ Stopped g → g ≡ f
  same_fault f g e = cc

  reply_is :
      (placed : List (Option ℕ)) (stop : LoadFault) (reply : Result Reply Fault) (fault : Fault) →
      Stopped fault ≡ placed_fault placed stop → Err stop ≡ taken_of reply → reply ≡ Err fault
  reply_is placed stop (Ok (replies.Accepted counts n)) fault e is = cc
  reply_is placed stop (Ok (replies.Repeated counts n)) fault e is = cc
  reply_is placed stop (Ok (replies.Refused why place)) fault e is =
      let same : stop ≡ Refused why place = cc in
      let other : Stopped fault ≡ Refused why (text_place placed place) =
      e ∙ ap (placed_fault placed) same in
      cc
  reply_is placed stop (Err g) fault e is =
      let same : stop ≡ Stopped g = cc in
      ap Err (same_fault fault g (e ∙ ap (placed_fault placed) same))

  none_some : {P : Type 0} (c : Option Cause) → c ≡ None → IsSome c → P
  none_some None none some = cc
  none_some (Some x) none some = cc

  -- ---- the rest of its store is kept

  preserves_all :
      (from : S) (before : Option ℕ) (bs : List BatchValue) (to : S) (serial : Option ℕ) →
      SinkTakesAll takes from before bs to serial → model.preserves (keeper from) (keeper to)
  preserves_all from before [] to serial all =
      subst (λ (x : S). model.preserves (keeper from) (keeper x)) (sym all.0) (model.preserves_itself (keeper from))
  preserves_all from before (b ∷ bs) to serial all =
      model.preserves_then (keeper from) (keeper all.0) (keeper to) all.2.write.call.preserved (preserves_all all.0 all.1 bs to serial all.3)

  -- ---- the keeper at the end of a load

  module _ (each : ℕ) (key : Text) (first last : S) (old new : Option (List Item))
      (loaded : Loaded) (it : Loads takes each key first last old new loaded) where
    preserves_mid : model.preserves (keeper first) (keeper it.ends.mid)
    preserves_mid = preserves_all first None it.ends.sent it.ends.mid loaded.serial it.ends.all

    preserves_still : last ≡ it.ends.mid → model.preserves (keeper first) (keeper last)
    preserves_still still = subst (λ (x : S). model.preserves (keeper first) (keeper x)) (sym still) preserves_mid

    -- ---- the keeper after the batches that were taken was clean

    clean_mid : model.is_clean (keeper last) → (why : Option LoadFault) →
        ByEnd takes each key it.read it.ends.sent it.ends.mid last why →
        model.is_clean (keeper it.ends.mid)
    clean_mid clean None e = subst (λ (x : S). model.is_clean (keeper x)) e.1 clean
    clean_mid clean (Some (AtFault fault)) e = subst (λ (x : S). model.is_clean (keeper x)) e.0.still clean
    clean_mid clean (Some ReadFailed) e = subst (λ (x : S). model.is_clean (keeper x)) e.still clean
    clean_mid clean (Some Memory) e = subst (λ (x : S). model.is_clean (keeper x)) e.still clean
    clean_mid clean (Some (Refused why place)) e = e.refused.write.call.began_clean clean
    clean_mid clean (Some (Stopped fault)) e = e.refused.write.call.began_clean clean
    clean_mid clean (Some WriteFailed) e = e.refused.write.call.began_clean clean
    clean_mid clean (Some BadKey) e = absurd e
    clean_mid clean (Some BadCount) e = absurd e
    clean_mid clean (Some BadBatch) e = absurd e

    -- ---- a keeper that represented a state

    module _ (s : State) (clean : model.is_clean (keeper last))
        (h : model.represents (keeper first) s) where
      abbrev t : State
      t = after_all s it.ends.sent

      all : TookAll s it.ends.mid None it.ends.sent loaded.serial
      all = took_all s first None it.ends.sent it.ends.mid loaded.serial it.ends.all (clean_mid clean loaded.fault it.ends.ends) h

      still_represents : last ≡ it.ends.mid → model.represents (keeper last) t
      still_represents still = subst (λ (x : S). model.represents (keeper x) t) (sym still) all.represents

      by_fault : (placed : List PlacedValue) (b : BatchValue) (f : Fault) →
          model.preserves (keeper it.ends.mid) (keeper last) →
          Writes model (keeper it.ends.mid) (keeper last) t b (Err f) →
          StopsAt model (keeper first) (keeper last) t placed b (Stopped f)
      by_fault placed b faults.Memory preserved w = w
      by_fault placed b faults.Device preserved w =
          (model.fails_later (keeper first) (keeper it.ends.mid) (keeper last) preserves_mid preserved w.0, w.1)
      by_fault placed b faults.Damaged preserved w = w
      by_fault placed b faults.Reopen preserved w = w

      -- a batch was refused or not answered
      stops_by :
          (placed : List PlacedValue) (b : BatchValue) (stop : LoadFault) (reply : Result Reply Fault)
          → Err stop ≡ taken_of reply → model.preserves (keeper it.ends.mid) (keeper last) →
          Writes model (keeper it.ends.mid) (keeper last) t b reply →
          ((why : Refusal) (place : Option ℕ) → reply ≡ Ok (replies.Refused why place) →
          (act t b).state ≡ t) →
          StopsAt model (keeper first) (keeper last) t placed b
          (placed_fault (take (length b.edits) (places_of placed)) stop)
      stops_by placed b stop (Ok (replies.Accepted counts n)) is preserved w same = cc
      stops_by placed b stop (Ok (replies.Repeated counts n)) is preserved w same = cc
      stops_by placed b stop (Ok (replies.Refused why place)) is preserved w same =
          let e : stop ≡ Refused why place = cc in
          subst (λ (x : LoadFault). StopsAt model (keeper first) (keeper last) t placed b
          (placed_fault (take (length b.edits) (places_of placed)) x)) (sym e)
          (place, sym w.0, refl, subst (λ (x : State). model.represents (keeper last) x) (same why place refl) w.1)
      stops_by placed b stop (Err found) is preserved w same =
          let e : stop ≡ Stopped found = cc in
          subst (λ (x : LoadFault). StopsAt model (keeper first) (keeper last) t placed b
          (placed_fault (take (length b.edits) (places_of placed)) x)) (sym e)
          (by_fault placed b found preserved w)

      ends_at : (fault : LoadFault) → EndsAt takes each key it.read it.ends.sent it.ends.mid last fault →
          EndsAtBatch model (keeper first) (keeper last) each key it.read it.ends.sent t fault
      ends_at fault e =
          let w = e.refused.write.writes clean t all.represents in
          record {
            rest = e.left;
            are_left = e.are_left;
            batch = e.batch;
            next = e.next;
            stops = subst
                (λ (x : LoadFault). StopsAt model (keeper first) (keeper last) t e.left e.batch x) (sym e.reported)
                (stops_by e.left e.batch e.stop e.refused.reply e.refused.is e.refused.write.call.preserved w
                (λ why place is.
                (refused_changes_nothing t e.batch why place
                (sym (subst (λ (x : Result Reply Fault). Writes model (keeper it.ends.mid) (keeper last) t e.batch x) is w).0)).0));
          }

      abbrev within : EndsWithinBatch takes each key it.read it.ends.sent it.ends.mid last →
          LeavesUnsent model (keeper first) (keeper last) each key it.read it.ends.sent t
      within e = record { rest = e.left; are_left = e.are_left; represents = still_represents e.still }

      ends_in : (why : Option LoadFault) → ByEnd takes each key it.read it.ends.sent it.ends.mid last why →
          EndsIn model (keeper first) (keeper last) each key it.read it.ends.sent t why
      ends_in None e = (e.0, still_represents e.1)
      ends_in (Some (AtFault fault)) e = (within e.0, e.1)
      ends_in (Some ReadFailed) e = within e
      ends_in (Some Memory) e = within e
      ends_in (Some (Refused why place)) e = ends_at (Refused why place) e
      ends_in (Some (Stopped fault)) e = ends_at (Stopped fault) e
      ends_in (Some WriteFailed) e = (ends_at WriteFailed e).stops
      ends_in (Some BadKey) e = e
      ends_in (Some BadCount) e = e
      ends_in (Some BadBatch) e = e

      pub loads_to : LoadsTo model (keeper first) (keeper last) s each key old loaded
      loads_to = record {
        read = it.read;
        counted = it.counted;
        is = is_read old new it.read loaded.fault it.are;
        sent = it.ends.sent;
        batches = it.ends.counted;
        taken = it.ends.held;
        acknowledged = all.acknowledged;
        serial = all.serial_is;
        ends = ends_in loaded.fault it.ends.ends;
      }

    -- ---- any keeper

    kept : model.cause (keeper it.ends.mid) ≡ model.cause (keeper first)
    kept = cause_kept first None it.ends.sent it.ends.mid loaded.serial it.ends.all

    still_shuts : last ≡ it.ends.mid → model.cause (keeper last) ≡ model.cause (keeper first)
    still_shuts still = ap (λ (x : S). model.cause (keeper x)) still ∙ kept

    at_shuts : (fault : LoadFault) → EndsAt takes each key it.read it.ends.sent it.ends.mid last fault →
        RunShuts (keeper_fault (Some fault)) (model.cause (keeper first)) (model.cause (keeper last))
    at_shuts fault e =
        subst (λ (x : Option Cause). RunShuts (keeper_fault (Some fault)) x (model.cause (keeper last))) kept
        (subst (λ (x : LoadFault). RunShuts (keeper_fault (Some x)) (model.cause (keeper it.ends.mid)) (model.cause (keeper last))) (sym e.reported)
        (stop_shuts (take (length e.batch.edits) (places_of e.left)) e.stop e.refused.reply
        (model.cause (keeper it.ends.mid)) (model.cause (keeper last)) e.refused.is e.refused.write.call.faults))

    shuts_by : (why : Option LoadFault) → ByEnd takes each key it.read it.ends.sent it.ends.mid last why →
        RunShuts (keeper_fault why) (model.cause (keeper first)) (model.cause (keeper last))
    shuts_by None e = still_shuts e.1
    shuts_by (Some (AtFault fault)) e = still_shuts e.0.still
    shuts_by (Some ReadFailed) e = still_shuts e.still
    shuts_by (Some Memory) e = still_shuts e.still
    shuts_by (Some (Refused why place)) e = at_shuts (Refused why place) e
    shuts_by (Some (Stopped fault)) e = at_shuts (Stopped fault) e
    shuts_by (Some WriteFailed) e = at_shuts WriteFailed e
    shuts_by (Some BadKey) e = absurd e
    shuts_by (Some BadCount) e = absurd e
    shuts_by (Some BadBatch) e = absurd e

    preserves_by : (why : Option LoadFault) → ByEnd takes each key it.read it.ends.sent it.ends.mid last why →
        model.preserves (keeper first) (keeper last)
    preserves_by None e = preserves_still e.1
    preserves_by (Some (AtFault fault)) e = preserves_still e.0.still
    preserves_by (Some ReadFailed) e = preserves_still e.still
    preserves_by (Some Memory) e = preserves_still e.still
    preserves_by (Some (Refused why place)) e = model.preserves_then (keeper first) (keeper it.ends.mid) (keeper last) preserves_mid
        e.refused.write.call.preserved
    preserves_by (Some (Stopped fault)) e = model.preserves_then (keeper first) (keeper it.ends.mid) (keeper last) preserves_mid e.refused.write.call.preserved
    preserves_by (Some WriteFailed) e = model.preserves_then (keeper first) (keeper it.ends.mid) (keeper last) preserves_mid e.refused.write.call.preserved
    preserves_by (Some BadKey) e = absurd e
    preserves_by (Some BadCount) e = absurd e
    preserves_by (Some BadBatch) e = absurd e

    -- a keeper that was shut before took no batch
    reopened : (sent : List BatchValue) (mid : S) (serial : Option ℕ) →
        SinkTakesAll takes first None sent mid serial → IsSome (model.cause (keeper mid)) →
        LeavesSame (model.may_leave (keeper mid)) (model.may_leave (keeper last)) →
        LeavesSame (model.may_leave (keeper first)) (model.may_leave (keeper last))
    reopened [] mid serial all some same =
        subst (λ (x : S). LeavesSame (model.may_leave (keeper x)) (model.may_leave (keeper last))) all.0 same
    reopened (b ∷ bs) mid serial all some same =
        let one = open_one b first all.0 all.1 all.2 in
        none_some (model.cause (keeper mid)) (cause_kept all.0 all.1 bs mid serial all.3 ∙ one.1) some

    reopen_at : (fault : LoadFault) → fault ≡ Stopped faults.Reopen →
        EndsAt takes each key it.read it.ends.sent it.ends.mid last fault →
        LeavesSame (model.may_leave (keeper first)) (model.may_leave (keeper last))
    reopen_at fault is e =
        let reply = reply_is (take (length e.batch.edits) (places_of e.left)) e.stop e.refused.reply faults.Reopen (sym is ∙ e.reported) e.refused.is in
        let shut = subst (λ (x : Result Reply Fault). ShutsBy x (model.cause (keeper it.ends.mid)) (model.cause (keeper last))) reply
        e.refused.write.call.faults in
        reopened it.ends.sent it.ends.mid loaded.serial it.ends.all shut.0
        (e.refused.write.call.reopen
        (subst (λ (x : Result Reply Fault). IsErrOf x faults.Reopen) (sym reply) refl))

    end_is : (why : Option LoadFault) (fault : Fault) → keeper_fault why ≡ Some fault → why ≡ Some (Stopped fault)
    end_is (Some (Stopped f)) fault is = let same : f ≡ fault = cc in ap (λ x. Some (Stopped x)) same
    end_is None fault is = cc
    end_is (Some (AtFault f)) fault is = cc
    end_is (Some ReadFailed) fault is = cc
    end_is (Some Memory) fault is = cc
    end_is (Some (Refused why place)) fault is = cc
    end_is (Some WriteFailed) fault is = cc
    end_is (Some BadKey) fault is = cc
    end_is (Some BadCount) fault is = cc
    end_is (Some BadBatch) fault is = cc

    pub are_calls : AreCalls model (keeper first) (keeper last) (keeper_fault loaded.fault)
    are_calls = record {
      preserved = preserves_by loaded.fault it.ends.ends;
      began_clean = λ clean. clean_all first None it.ends.sent it.ends.mid loaded.serial it.ends.all (clean_mid clean loaded.fault it.ends.ends);
      faults = shuts_by loaded.fault it.ends.ends;
      reopen = λ is. reopen_at (Stopped faults.Reopen) refl
          (subst (λ (x : Option LoadFault). ByEnd takes each key it.read it.ends.sent it.ends.mid last x) (end_is loaded.fault faults.Reopen is) it.ends.ends);
    }

-- the keeper of a sink
abbrev pub keeper_of : {K : Type 0} → KeeperSink K → K
keeper_of sink = sink.keeper
