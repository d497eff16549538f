-- What a command leaves in FILE, by the contracts of its calls of the keeper.
use Rattle.std.proofs.Common.{◌≡◌, ◌⊎◌, inl, inr, ℕ, ◌+◌, List, [], ◌∷◌, ◌++◌, length, Option, None, Some, Result, Ok, Err, String, Bool, true, false, refl}
use Rattle.std.proofs.Common.{sym, ap, subst, ◌∙◌}
use Rattle.std.specs.Prelude.{IsOk, IfSome, IfErr, ◌||◌}
use Rattle.std.specs.declared.alloc.Global.{Global}
use Rattle.std.proofs.lemmas.List.{append-nil}
use Rattle.std.proofs.lemmas.List.Elements.{All-nil}
use Rattle.streetmap_batch.specs.Text.{Text}
use Rattle.streetmap_batch.specs.BatchValue.{BatchValue}
use Rattle.streetmap_ledger.specs.State.{State}
use Rattle.streetmap_ledger.specs.Batches.{Outcome, act, after_all}
use Rattle.streetmap_ledger.specs.Laws.{IsAcknowledged}
use Rattle.streetmap_ledger.specs.Model.{Model}
use Rattle.streetmap_ledger.specs.Keep.{LeavesOnly, LeavesEither, Writes}
use Rattle.streetmap_ledger.proofs.Acceptance.{refused_changes_nothing}
use Rattle.streetmap_ledger.specs.declared.reply.Fault.{Fault}
use Rattle.streetmap_ledger.specs.declared.reply.Fault.TheVariants as keeper
use Rattle.streetmap_ledger.specs.declared.reply.Reply.{Reply}
use Rattle.streetmap_ledger.specs.declared.reply.Reply.TheVariants as replies
use Rattle.streetmap_exchange.specs.declared.fault.ImportFault.{ImportFault}
use Rattle.streetmap_exchange.specs.declared.fault.ImportFault.TheVariants as imports
use Rattle.streetmap_exchange.specs.KeeperImports.{Imports, ImportsBatch, IsReported}
use Rattle.streetmap_text_lines.specs.LineReads.{WhereKnown}
use Rattle.streetmap_text_lines.specs.declared.fault.LineFault.TheVariants as lines
use Rattle.streetmap_batch.specs.declared.batch_fault.BatchFault.TheVariants as batches
use Rattle.streetmap_replay.specs.Calls.{LastAnswer, Stays}
use Rattle.streetmap_replay.specs.Lines.{Line}
use Rattle.streetmap_replay.specs.JournalText.{text_of_lines}
use Rattle.streetmap_replay.specs.FollowedLines.{LineFault, follow, line_outcome}
use Rattle.streetmap_replay.specs.LineEffects.{Follows}
use Rattle.streetmap_replay.specs.Ends.{IsInputLine, FollowsLines, FollowingEndsBy}
use Rattle.streetmap_replay.specs.declared.follow_fault.FollowFault.{FollowFault}
use Rattle.streetmap_replay.specs.declared.follow_fault.FollowFault.TheVariants as ends
use Rattle.streetmap_replay.specs.declared.follower.Followed.{Followed}
use Rattle.streetmap_loading.specs.Places.{PlacedValue, edits_of}
use Rattle.streetmap_loading.specs.Sources.{Item}
use Rattle.streetmap_loading.specs.Loads.{items_of, Skips, SkippedAt}
use Rattle.streetmap_loading.specs.Ends.{AreLeft, IsNext}
use Rattle.streetmap_loading.specs.KeeperLoads.{AreRead, LoadsTo, EndsIn, LeavesUnanswered}
use Rattle.streetmap_loading.specs.declared.loaded.Loaded.{Loaded as LoadResult}
use Rattle.streetmap_loading.specs.declared.load_fault.LoadFault.{LoadFault}
use Rattle.streetmap_loading.specs.declared.load_fault.LoadFault.TheVariants as loads
use Rattle.streetmap_faults.specs.declared.fault.ProgramFault.{ProgramFault}
use Rattle.streetmap_faults.specs.declared.fault.ProgramFault.TheVariants.{Import, WriteFailed}
use Rattle.streetmap.specs.Faults.{end_of_lines}
use Rattle.streetmap.specs.Changes.{HoldOneOf, Done, Imported, Applied, Loaded, LoadedUnless, SkipsNone, AreFirst, AreAll, ArePacked, IsAfterNext}

same_state : (s t : State) → Some s ≡ Some t → s ≡ t
same_state s t e = cc

-- ---- images

-- the law of a keeper whose store can be opened again
abbrev pub ImagesHoldStates : {K Image : Type 0} → Model K → (Image → State → Type 0) → (K → Image → Type 0) → Type 0
ImagesHoldStates {K} {Image} model holds leaves = (first last : K) (s : State) (image : Image) → model.represents first s → model.preserves first last →
    model.is_clean last
    → leaves last image → (t : State) × holds image t × model.may_leave last (Some t)

module _ {K Image : Type 0} (model : Model K) {holds : Image → State → Type 0} {leaves : K → Image → Type 0} (images : ImagesHoldStates model holds leaves)
  where
    -- each image that a crash may leave holds a state with a property of all states that may be left
    pub hold_one_of : (first last : K) (s : State) (Is : State → Type 0) → model.represents first s → model.preserves first last → model.is_clean last
        → ((t : State) → model.may_leave last (Some t) → Is t) → HoldOneOf holds (leaves last) Is
    hold_one_of first last s Is is preserved clean so image left = let it = images first last s image is preserved clean left in (it.0, it.1, so it.0 it.2)

    -- no call was made
    pub hold_still : (k : K) (s : State) (Is : State → Type 0) → model.represents k s → model.is_clean k → Is s → HoldOneOf holds (leaves k) Is
    hold_still k s Is is clean so = hold_one_of k k s Is is (model.preserves_itself k) clean
        (λ t left. subst Is (sym (same_state t s (model.leaves_it k s is (Some t) left))) so)

-- a property that implies another one
pub hold_more : {Image : Type 0} {holds : Image → State → Type 0} {leaves : Image → Type 0} {Is As : State → Type 0} → ((t : State) → Is t → As t)
    → HoldOneOf holds leaves Is → HoldOneOf holds leaves As
hold_more so hold image left = let it = hold image left in (it.0, it.1, so it.0 it.2)

-- a reply that was to be printed
pub printed_of : (done : Done) → IfErr done (λ fault. fault ≡ WriteFailed) → (done ≡ Ok tt) ⊎ (done ≡ Err WriteFailed)
printed_of (Ok done) says = inl refl
printed_of (Err fault) says = inr (ap Err says)

module _ {K : Type 0} (model : Model K) where
  -- a keeper that represents a state leaves that state
  pub leaves_one : (k : K) (s t : State) → model.represents k s → model.may_leave k (Some t) → t ≡ s
  leaves_one k s t is left = same_state t s (model.leaves_it k s is (Some t) left)

  pub leaves_only : (k : K) (s t : State) → LeavesOnly (model.may_leave k) (Some s) → model.may_leave k (Some t) → t ≡ s
  leaves_only k s t only left = same_state t s (only (Some t) left)

  pub leaves_either : (k : K) (s u t : State) → LeavesEither (model.may_leave k) (Some s) (Some u) → model.may_leave k (Some t) → (t ≡ s) ⊎ (t ≡ u)
  leaves_either k s u t either left = elim (either (Some t) left) [
    | inl e ↦ inl (same_state t s e)
    | inr e ↦ inr (same_state t u e)
  ]

  -- ---- reads

  pub stays_so : (old new : K) (s t : State) (last : LastAnswer) → Stays model old new s last → model.may_leave new (Some t) → t ≡ s
  stays_so old new s t None stays left = leaves_one new s t stays left
  stays_so old new s t (Some (Ok done)) stays left = leaves_one new s t stays left
  stays_so old new s t (Some (Err keeper.Memory)) stays left = leaves_one new s t stays left
  stays_so old new s t (Some (Err keeper.Device)) stays left = leaves_only new s t stays.1 left
  stays_so old new s t (Some (Err keeper.Damaged)) stays left = absurd stays
  stays_so old new s t (Some (Err keeper.Reopen)) stays left = absurd stays

  -- ---- an import

  acknowledged_if : (key : Text) (r : Reply) (body : String Global) → IsReported key r (Ok body) → IsAcknowledged r
  acknowledged_if key (replies.Accepted counts serial) body reported = tt
  acknowledged_if key (replies.Repeated counts serial) body reported = tt
  acknowledged_if key (replies.Refused why place) body reported = absurd cc

  -- how the command ends, if the reply was to be printed
  abbrev pub IsPrinted : Done → Type 0
  IsPrinted done = (done ≡ Ok tt) ⊎ (done ≡ Err WriteFailed)

  pub imported : (old new : K) (s t : State) (b : BatchValue) (body : String Global) (done : Done) → Imports model old new s (Ok b) (Ok body) → IsPrinted done
      → model.may_leave new (Some t) → Imported s b done t
  imported old new s t b body done it printed left =
      let same : b ≡ it.0 = (let e : ◌≡◌ {A = Result BatchValue _} (Ok b) (Ok it.0) = it.1 in cc) in
      let batch = subst (λ (x : BatchValue). ImportsBatch model old new s x (Ok body)) (sym same) it.2 in
      let acted : IsAcknowledged (act s b).reply × (t ≡ (act s b).state) = (
        acknowledged_if b.key (act s b).reply body batch.0,
        leaves_one new (act s b).state t batch.1 left,
      ) in
      elim printed [
        | inl e ↦ subst (λ (d : Done). Imported s b d t) (sym e) acted
        | inr e ↦ subst (λ (d : Done). Imported s b d t) (sym e) acted
      ]

  by_fault : (old new : K) (s t : State) (b : BatchValue) (fault : Fault) → Writes model old new s b (Err fault) → model.may_leave new (Some t)
      → Imported s b (Err (Import (imports.Stopped fault))) t
  by_fault old new s t b keeper.Memory w left = leaves_one new s t w left
  by_fault old new s t b keeper.Device w left = leaves_either new s (act s b).state t w.1 left
  by_fault old new s t b keeper.Damaged w left = absurd w
  by_fault old new s t b keeper.Reopen w left = absurd w

  -- the refusal that was returned is the reply
  is_refusal : (key : Text) (r : Reply) (why : _) (place : _) → IsReported key r (Err (imports.Refused why place)) → r ≡ replies.Refused why place
  is_refusal key (replies.Accepted counts serial) why place reported = absurd reported
  is_refusal key (replies.Repeated counts serial) why place reported = absurd reported
  is_refusal key (replies.Refused reason inner) why place reported = cc

  pub by_stop : (old new : K) (s t : State) (b : BatchValue) (fault : ImportFault) → Imports model old new s (Ok b) (Err fault) → model.may_leave new (Some t)
      → Imported s b (Err (Import fault)) t
  by_stop old new s t b imports.BadKey it left = leaves_one new s t it.1 left
  by_stop old new s t b imports.BadBatch it left = leaves_one new s t it.1 left
  by_stop old new s t b imports.TextTooLarge it left = leaves_one new s t it.1 left
  by_stop old new s t b imports.NotJson it left = leaves_one new s t it.1 left
  by_stop old new s t b imports.WrongType it left = leaves_one new s t it.1 left
  by_stop old new s t b (imports.BadFeature place cause) it left = leaves_one new s t it.1 left
  by_stop old new s t b imports.TooManyEdits it left = leaves_one new s t it.1 left
  by_stop old new s t b imports.Memory it left = leaves_one new s t it.1 left
  by_stop old new s t b (imports.Refused why place) it left =
      let same : b ≡ it.0 = (let e : ◌≡◌ {A = Result BatchValue _} (Ok b) (Ok it.0) = it.1 in cc) in
      let batch = subst (λ (x : BatchValue). ImportsBatch model old new s x (Err (imports.Refused why place))) (sym same) it.2 in
      let refused = is_refusal b.key (act s b).reply why place batch.0 in
      (refused, leaves_one new (act s b).state t batch.1 left ∙ (refused_changes_nothing s b why place refused).0)
  by_stop old new s t b (imports.Stopped fault) it left =
      let same : b ≡ it.0 = (let e : ◌≡◌ {A = Result BatchValue _} (Ok b) (Ok it.0) = it.1 in cc) in
      by_fault old new s t b fault (subst (λ (x : BatchValue). ImportsBatch model old new s x (Err (imports.Stopped fault))) (sym same) it.2) left

  -- ---- lines of batches

  pub nothing_read : (s : State) (text : Option Text) (why : ProgramFault) → Applied s text (Err why) s
  nothing_read s text why = record {
    read = [];
    lines = All-nil IsInputLine;
    first = first_of text;
    followed = refl;
    state = inl refl;
    all = λ ok. absurd cc;
  }
    where
      first_of : (text : Option Text) → IfSome text (λ bytes. (left : Text) × (bytes ≡ text_of_lines [] ++ left))
      first_of None = tt
      first_of (Some bytes) = (bytes, refl)

  -- the state of a follower after this many of the lines, or after one line more
  abbrev AfterLines : State → List Line → State → Type 0
  AfterLines s read t = (t ≡ (follow s read).state) ⊎ ((line : Line) × (o : Outcome)
      × (line_outcome (follow s read).state line ≡ Ok o) × (t ≡ o.state))

  after_stopped : (old new : K) (t u : State) (line : Line) (outcome : Result Outcome LineFault) → line_outcome u line ≡ outcome → (fault : Fault)
      → Follows model old new u outcome (Err (ends.Stopped fault)) → model.may_leave new (Some t)
      → (t ≡ u) ⊎ ((o : Outcome) × (line_outcome u line ≡ Ok o) × (t ≡ o.state))
  after_stopped old new t u line outcome is keeper.Memory follows left = inl (leaves_one new u t follows left)
  after_stopped old new t u line (Ok o) is keeper.Device follows left = elim (leaves_either new u o.state t follows.1 left) [
    | inl e ↦ inl e
    | inr e ↦ inr (o, is, e)
  ]
  after_stopped old new t u line (Err why) is keeper.Device follows left = elim (leaves_either new u u t follows.1 left) [
    | inl e ↦ inl e
    | inr e ↦ inl e
  ]
  after_stopped old new t u line outcome is keeper.Damaged follows left = absurd follows
  after_stopped old new t u line outcome is keeper.Reopen follows left = absurd follows

  module _ (old new : K) (s t : State) (input rest : Option Text) (left : model.may_leave new (Some t)) where
    after_end : (read : List Line) (why : Option FollowFault) → FollowingEndsBy model old new (follow s read).state read input rest why → AfterLines s read t
    after_end read None it = inl (leaves_one new (follow s read).state t it.1 left)
    after_end read (Some (ends.Unread batches.Memory)) it = inl (leaves_one new (follow s read).state t it.3 left)
    after_end read (Some (ends.Unread (batches.BadBatch place))) it = inl (leaves_one new (follow s read).state t it.3.1 left)
    after_end read (Some (ends.Unread batches.BadKey)) it = inl (leaves_one new (follow s read).state t it.3.1 left)
    after_end read (Some (ends.Unread batches.TooManyEdits)) it = inl (leaves_one new (follow s read).state t it.3.1 left)
    after_end read (Some (ends.Unread (batches.BadFeature place cause))) it = inl (leaves_one new (follow s read).state t it.3.1 left)
    after_end read (Some ends.NotNext) it = inl (leaves_one new (follow s read).state t it.3.1 left)
    after_end read (Some (ends.Refused why place)) it = inl (leaves_one new (follow s read).state t it.3.1 left)
    after_end read (Some (ends.Stopped fault)) it = elim (after_stopped old new t (follow s read).state it.0 (line_outcome (follow s read).state it.0) refl
        fault it.3 left) [
          | inl e ↦ inl e
          | inr more ↦ inr (it.0, more.0, more.1, more.2)
        ]
    after_end read (Some ends.CutLine) it = inl (leaves_one new (follow s read).state t it.1 left)
    after_end read (Some (ends.NotRead lines.LineTooLong)) it = inl (leaves_one new (follow s read).state t it.1 left)
    after_end read (Some (ends.NotRead lines.ReadFailed)) it = inl (leaves_one new (follow s read).state t it left)
    after_end read (Some (ends.NotRead lines.Memory)) it = inl (leaves_one new (follow s read).state t it left)
    after_end read (Some ends.NotReported) it = inr (it.0, it.3.0, it.3.1, leaves_one new it.3.0.state t it.3.2 left)

    -- all lines were read
    all_known : (read : List Line) (text rest : Option Text) → WhereKnown text rest (λ bytes remaining. (bytes ≡ text_of_lines read) × (remaining ≡ [])) →
        IfSome text (λ bytes. bytes ≡ text_of_lines read)
    all_known read None rest known = tt
    all_known read (Some bytes) None known = absurd known
    all_known read (Some bytes) (Some remaining) known = known.0

    all_lines : (count : ℕ) (read : List Line) (why : Option FollowFault) → FollowingEndsBy model old new (follow s read).state read input rest why →
        IsOk (end_of_lines count why)
        → (t ≡ (follow s read).state) × IfSome input (λ bytes. bytes ≡ text_of_lines read)
    all_lines count read None by ok = (leaves_one new (follow s read).state t by.1 left, all_known read input rest by.0)
    all_lines count read (Some fault) by ok = absurd cc

    pub applied : {T : Type 0} {reports : T → Text → Reply → T → Type 0} {first last : T} (it : Followed) →
        FollowsLines model old new s input rest reports first last it
        → Applied s input (end_of_lines it.count it.fault) t
    applied it by = record {
      read = by.read;
      lines = by.lines;
      first = by.front;
      followed = by.followed;
      state = after_end by.read it.fault by.ends;
      all = all_lines it.count by.read it.fault by.ends;
    }

  -- less holds if the text is not known
  pub applied_some : (s t : State) (text : Option Text) (done : Done) → Applied s text done t → Applied s None done t
  applied_some s t text done it = record {
    read = it.read;
    lines = it.lines;
    first = tt;
    followed = it.followed;
    state = it.state;
    all = λ ok. ((it.all ok).0, tt);
  }

  -- ---- loads

  pub nothing_loaded : (s : State) (each : ℕ) (key : Text) (text : Option (List Item)) (why : ProgramFault) → Loaded s each key text (Err why) s
  nothing_loaded s each key text why = record {
    read = [];
    first = first_of text;
    sent = [];
    packed = inr ([], record { done = []; split = refl; packed = ([], refl, refl) });
    acknowledged = tt;
    state = inl refl;
    all = λ ok. absurd cc;
  }
    where
      first_of : (text : Option (List Item)) → AreFirst text []
      first_of None = tt
      first_of (Some items) = (items, refl)

  first_read : (text : Option (List Item)) (read : List PlacedValue) (why : Option LoadFault) → AreRead text read why → AreFirst text read
  first_read None read why is = tt
  first_read (Some items) read None is = ([], is ∙ sym (append-nil (items_of read)))
  first_read (Some items) read (Some (loads.AtFault fault)) is = (Err fault ∷ is.0, is.1)
  first_read (Some items) read (Some loads.ReadFailed) is = is
  first_read (Some items) read (Some loads.Memory) is = is
  first_read (Some items) read (Some (loads.Refused why place)) is = is
  first_read (Some items) read (Some (loads.Stopped fault)) is = is
  first_read (Some items) read (Some loads.WriteFailed) is = is
  first_read (Some items) read (Some loads.BadKey) is = is
  first_read (Some items) read (Some loads.BadCount) is = is
  first_read (Some items) read (Some loads.BadBatch) is = is

  all_read : (text : Option (List Item)) (read : List PlacedValue) → AreRead text read None → AreAll text read
  all_read None read is = tt
  all_read (Some items) read is = is

  module _ (old new : K) (s t : State) (each : ℕ) (key : Text) (text : Option (List Item)) where
    -- the load reached its end, and then nothing else was changed
    pub loaded_all : (it : LoadResult) (done : Done) → it.fault ≡ None → LoadsTo model old new s each key text it →
        ((u : State) → model.represents new u → t ≡ u) → Loaded s each key text done t
    loaded_all it done is load same =
        let ends = subst (EndsIn model old new each key load.read load.sent (after_all s load.sent)) is load.ends in
        let all = subst (AreRead text load.read) is load.is in
        let here = same (after_all s load.sent) ends.1 in
        record {
          read = load.read;
          first = first_read text load.read None all;
          sent = load.sent;
          packed = inl ends.0;
          acknowledged = load.acknowledged;
          state = inl here;
          all = λ ok. (here, ends.0, all_read text load.read all);
        }

    stopped_at : (read rest : List PlacedValue) (sent : List BatchValue) (b : BatchValue) (fault : Fault) → AreLeft each key read sent rest →
        IsNext key (1 + length sent) (edits_of rest) b
        → LeavesUnanswered model old new (after_all s sent) b fault → model.may_leave new (Some t) → (t ≡ after_all s sent) ⊎ IsAfterNext s each key read sent t
    stopped_at read rest sent b keeper.Memory are next by left = inl (leaves_one new (after_all s sent) t by left)
    stopped_at read rest sent b keeper.Device are next by left = elim (leaves_either new (after_all s sent) (act (after_all s sent) b).state t by.1 left) [
      | inl e ↦ inl e
      | inr e ↦ inr (rest, are, (b, next, e))
    ]
    stopped_at read rest sent b keeper.Damaged are next by left = absurd by
    stopped_at read rest sent b keeper.Reopen are next by left = absurd by

    state_of : (read : List PlacedValue) (sent : List BatchValue) (why : Option LoadFault) → EndsIn model old new each key read sent (after_all s sent) why →
        model.may_leave new (Some t)
        → (t ≡ after_all s sent) ⊎ IsAfterNext s each key read sent t
    state_of read sent None by left = inl (leaves_one new (after_all s sent) t by.1 left)
    state_of read sent (Some (loads.AtFault fault)) by left = inl (leaves_one new (after_all s sent) t by.0.represents left)
    state_of read sent (Some loads.ReadFailed) by left = inl (leaves_one new (after_all s sent) t by.represents left)
    state_of read sent (Some loads.Memory) by left = inl (leaves_one new (after_all s sent) t by.represents left)
    state_of read sent (Some (loads.Refused why place)) by left = inl (leaves_one new (after_all s sent) t by.stops.3 left)
    state_of read sent (Some (loads.Stopped fault)) by left = stopped_at read by.rest sent by.batch fault by.are_left by.next by.stops left
    state_of read sent (Some loads.WriteFailed) by left = absurd by
    state_of read sent (Some loads.BadKey) by left = absurd by
    state_of read sent (Some loads.BadCount) by left = absurd by
    state_of read sent (Some loads.BadBatch) by left = absurd by

    packed_of : (read : List PlacedValue) (sent : List BatchValue) (why : Option LoadFault) → EndsIn model old new each key read sent (after_all s sent) why →
        ArePacked each key read sent
    packed_of read sent None by = inl by.0
    packed_of read sent (Some (loads.AtFault fault)) by = inr (by.0.rest, by.0.are_left)
    packed_of read sent (Some loads.ReadFailed) by = inr (by.rest, by.are_left)
    packed_of read sent (Some loads.Memory) by = inr (by.rest, by.are_left)
    packed_of read sent (Some (loads.Refused why place)) by = inr (by.rest, by.are_left)
    packed_of read sent (Some (loads.Stopped fault)) by = inr (by.rest, by.are_left)
    packed_of read sent (Some loads.WriteFailed) by = absurd by
    packed_of read sent (Some loads.BadKey) by = absurd by
    packed_of read sent (Some loads.BadCount) by = absurd by
    packed_of read sent (Some loads.BadBatch) by = absurd by

    -- and the keeper was not called after it
    pub loaded_as : (it : LoadResult) (done : Done) → (IsOk done → it.fault ≡ None) → LoadsTo model old new s each key text it → model.may_leave new (Some t) →
        Loaded s each key text done t
    loaded_as it done whole load left = record {
      read = load.read;
      first = first_read text load.read it.fault load.is;
      sent = load.sent;
      packed = packed_of load.read load.sent it.fault load.ends;
      acknowledged = load.acknowledged;
      state = state_of load.read load.sent it.fault load.ends left;
      all = λ ok.
          let ends = subst (EndsIn model old new each key load.read load.sent (after_all s load.sent)) (whole ok) load.ends in (
            leaves_one new (after_all s load.sent) t ends.1 left,
            ends.0,
            all_read text load.read (subst (AreRead text load.read) (whole ok) load.is),
          );
    }

  -- less holds if the text is not known
  pub loaded_some : (s t : State) (each : ℕ) (key : Text) (text : Option (List Item)) (done : Done) → Loaded s each key text done t →
      Loaded s each key None done t
  loaded_some s t each key text done it = record {
    read = it.read;
    first = tt;
    sent = it.sent;
    packed = it.packed;
    acknowledged = it.acknowledged;
    state = it.state;
    all = λ ok. ((it.all ok).0, (it.all ok).1, tt);
  }

  -- ---- what is only read

  pub unless_read : (reads : Bool) (s : State) (each : ℕ) (key : Text) (text : Option (List Item)) (done : Done) → reads ≡ true →
      LoadedUnless reads s each key text done s
  unless_read true s each key text done is = refl
  unless_read false s each key text done is = absurd cc

  pub unless_loaded : (reads : Bool) (s t : State) (each : ℕ) (key : Text) (text : Option (List Item)) (done : Done) → reads ≡ false →
      Loaded s each key text done t → LoadedUnless reads s each key text done t
  unless_loaded true s t each key text done is it = absurd cc
  unless_loaded false s t each key text done is it = it

  -- nothing was loaded
  pub unless_failed : (reads : Bool) (s : State) (each : ℕ) (key : Text) (text : Option (List Item)) (why : ProgramFault) →
      LoadedUnless reads s each key text (Err why) s
  unless_failed true s each key text why = refl
  unless_failed false s each key text why = nothing_loaded s each key text why

  -- less holds if the text is not known
  pub unless_some : (reads : Bool) (s t : State) (each : ℕ) (key : Text) (text : Option (List Item)) (done : Done) → LoadedUnless reads s each key text done t →
      LoadedUnless reads s each key None done t
  unless_some true s t each key text done it = it
  unless_some false s t each key text done it = loaded_some s t each key text done it

-- ---- features at fault

-- none was skipped
pub skips_none : (all : Option ℕ) (loaded : LoadResult) → loaded.fault ≡ None → loaded.skipped ≡ 0 → Skips all loaded → SkipsNone all
skips_none None loaded is none skips = tt
skips_none (Some n) loaded is none skips = sym (subst (SkippedAt n loaded.skipped) is skips) ∙ none

pub or_right : (a b : Bool) → b ≡ true → (a || b) ≡ true
or_right true b is = refl
or_right false b is = is

pub or_left : (a b : Bool) → a ≡ true → (a || b) ≡ true
or_left true b is = refl
or_left false b is = absurd cc

pub or_neither : (a b : Bool) → a ≡ false → b ≡ false → (a || b) ≡ false
or_neither true b is other = absurd cc
or_neither false b is other = other
