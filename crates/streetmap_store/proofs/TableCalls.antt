-- Calls of a keeper over tables.
use Rattle.std.proofs.Common.{◌≡◌, ◌⊎◌, inl, inr, ℕ, Option, None, Some, Result, Ok, Err, MatchResult, IfErr, IsSome, IsTrue, option_map}
use Rattle.std.proofs.Common.{refl, sym, ap, subst, ◌∙◌}
use Rattle.std.specs.Prelude.{IsErrOf}
use Rattle.std.specs.FinMap.{len}
use Rattle.sqlite_disk.specs.Disk.{MoreFaults}
use Rattle.sqlite_trees.specs.Tree.{Trees}
use Rattle.sqlite.specs.declared.error.Error.{Error}
use Rattle.sqlite.specs.State.{State as Seen, HasCleanDisk, IsUnchanged, KeepsCommit, Survives}
use Rattle.sqlite.proofs.Callers.{unchanged_then}
use Rattle.streetmap_batch.specs.BatchValue.{BatchValue}
use Rattle.streetmap_ledger.specs.State.{State}
use Rattle.streetmap_ledger.specs.Batches.{act}
use Rattle.streetmap_ledger.specs.Keep.{Reads, Writes, IsRead, IsWrite, ShutsBy, LeavesOnly, LeavesEither}
use Rattle.streetmap_ledger.specs.declared.reply.Cause.{Cause}
use Rattle.streetmap_ledger.specs.declared.reply.Reply.{Reply}
use Rattle.streetmap_ledger.specs.declared.reply.Fault.{Fault}
use Rattle.streetmap_ledger.specs.declared.reply.Fault.TheVariants as fault
use Rattle.streetmap_rows.specs.declared.failures.Stop.{Stop}
use Rattle.streetmap_rows.specs.declared.failures.Stop.TheVariants as stop
use Rattle.streetmap_rows.specs.declared.failures.Shut.{Shut}
use Rattle.streetmap_rows.specs.declared.failures.Shut.TheVariants as shut
use Rattle.streetmap_rows.specs.declared.fault.ReadFault.{ReadFault}
use Rattle.streetmap_rows.specs.declared.fault.ReadFault.TheVariants as read
use Rattle.streetmap_rows.specs.Failures.{HasReason}
use Rattle.streetmap_rows.specs.CallEnds.{Settles, StopsFor}
use Rattle.streetmap_rows.specs.KeptStates.{Rests, MayLeave, MayBecome, AreTreesOf}
use Rattle.streetmap_rows.proofs.CrashLeaves.{leaves_only, leaves_either}
use Rattle.streetmap_rows.proofs.OneState.{trees_of_one}
use Rattle.streetmap_rows.proofs.ErrorReasons.{counts_then, more_before, more_later, stops_settled}
use Rattle.streetmap_rows.specs.TableReads.{Stopped, ReadsState, Stays}
use Rattle.streetmap_tables.specs.BatchEffects.{Applied, IsByStoreError, LeavesOtherTables}
use Rattle.streetmap_tables.proofs.BeforeCleanEnd.{clean_back}
use Rattle.streetmap_tables.proofs.CallsInTransaction.{same_all}
use Rattle.streetmap_tables.proofs.RestsAfterRead.{rests_still, rests_if_open}
use Rattle.streetmap_store.specs.CallResults.{KeepsState, LeavesLast, HasShut, Acts, Answers, Returns, EndsRead}
use Rattle.streetmap_store.specs.CallResults.{cause_in, is_named, fault_by, shut_by, count_after}
use Rattle.streetmap_store.specs.TableModel.{View, Represents, Spares, Fails, LeavesStates, table_model, leaves_states}
use Rattle.streetmap_store.proofs.BatchesCounted.{count_is}

-- of an open connection a crash leaves what was committed last, by what its store owes
pub leaves_last : (seen : Seen) → (IsTrue seen.is_open → seen.may_leave seen.committed.trees)
    → ((trees : Trees) → IsTrue seen.is_open → seen.may_leave trees → trees ≡ seen.committed.trees)
    → IsTrue seen.is_open → LeavesLast seen
leaves_last seen stays settled live = record { left = stays live; only = λ trees may. settled trees live may }

-- an open connection that rests at a state is that of a keeper which represents it
pub keeps_state : (shut : Option Shut) (seen : Seen) (count : ℕ) (s : State) → shut ≡ None → Rests seen s
    → len s.keys ≡ count → (IsTrue seen.is_open → LeavesLast seen) → KeepsState shut seen count s
keeps_state shut seen count s unshut rests counted last = record {
  unshut = unshut;
  rests = rests;
  only = trees_of_one s seen.now.schema seen.now.trees rests.kept;
  counted = counted;
  last = last rests.live;
}

-- ---- what shuts it

-- no cause shuts a keeper that is not shut
unshut_of : (o : Option Shut) → option_map cause_in o ≡ None → o ≡ None
unshut_of None is = refl
unshut_of (Some why) is = absurd cc

shut_of_none : {A : Type 0} (o : Option Shut) → o ≡ None → IsSome o → A
shut_of_none None is some = absurd cc
shut_of_none (Some why) is some = absurd cc

-- what is returned says what shut it
shuts : (T : Type 0) (was now : Option Shut) (it : Stop) → was ≡ None → now ≡ shut_by it was
    → ShutsBy {T = T} (Err (fault_by it)) (option_map cause_in was) (option_map cause_in now)
shuts T was now stop.Memory free is = (ap (option_map cause_in) free, ap (option_map cause_in) (is ∙ free))
shuts T was now (stop.Closed (shut.Device e)) free is = (ap (option_map cause_in) free, ap (option_map cause_in) is)
shuts T was now (stop.Closed shut.Damaged) free is = (ap (option_map cause_in) free, ap (option_map cause_in) is)

-- no open keeper answers `Reopen`
never_reopen : {T A : Type 0} (r : Result T Fault) (old new : Option Cause) → ShutsBy r old new → old ≡ None → IsErrOf r fault.Reopen → A
never_reopen r old new says free err =
    let some = (subst (λ q. ShutsBy q old new) err says).0 in
    let P : Option Cause → Type 0 = λ o. IsSome o in
    let none : P None = subst P free some in
    absurd cc

-- what shut it is named by an error of the store
pub named_after : (it : Stop) (was now : Option Shut) → now ≡ shut_by it was → IsByStoreError it → IsTrue (is_named was) → IsTrue (is_named now)
named_after stop.Memory was now same reported before = ap is_named same ∙ before
named_after (stop.Closed (shut.Device e)) was now same reported before = ap is_named same ∙ reported
named_after (stop.Closed shut.Damaged) was now same reported before = ap is_named same

-- and arose for a reason
shut_for_reason : (old new : Seen) (it : Stop) (was now : Option Shut) → was ≡ None → now ≡ shut_by it was → StopsFor old new it
    → HasShut old new now
shut_for_reason old new stop.Memory was now free is ends = subst (HasShut old new) (sym (is ∙ free)) tt
shut_for_reason old new (stop.Closed (shut.Device e)) was now free is ends = subst (HasShut old new) (sym is) ends
shut_for_reason old new (stop.Closed shut.Damaged) was now free is ends = subst (HasShut old new) (sym is) tt

-- ---- a read

-- how a read leaves a keeper that represented a state
record Kept (count : ℕ) (old : Seen) (now : Option Shut) (new : Seen) (s : State) : Type 0 where
  pub others : LeavesOtherTables old new
  pub stays : now ≡ None → KeepsState now new count s
  pub reason : HasShut old new now

-- and what is returned
abbrev Says : {T : Type 0} → (T → Type 0) → Option Shut → Result T Fault → Type 0
Says Is now (Ok x) = Is x × (now ≡ None)
Says Is now (Err fault.Memory) = now ≡ None
Says Is now (Err fault.Device) = Unit {0}
Says Is now (Err fault.Damaged) = ⊥
Says Is now (Err fault.Reopen) = ⊥

module _ (was now : Option Shut) (count : ℕ) (old mid new : Seen) (s : State) (keeps : KeepsState was old count s)
    (first : Survives old mid (λ _. Unit {0})) (second : Survives mid new (λ _. ⊥)) (clean : HasCleanDisk new)
    (last : IsTrue new.is_open → LeavesLast new) where
  unchanged : IsUnchanged old mid → IsUnchanged mid new → now ≡ was → Kept count old now new s
  unchanged one two same =
      let both = unchanged_then old mid new one two in
      let rests = rests_still old new s both (second.limit ∙ first.limit) keeps.rests in record {
        others = λ live. same_all old.now new.now both.0.now_is;
        stays = λ none. keeps_state now new count s none rests keeps.counted last;
        reason = subst (HasShut old new) (sym (same ∙ keeps.unshut)) tt;
      }

  -- nothing was committed
  commit_kept : KeepsCommit old mid → KeepsCommit mid new → KeepsCommit old new
  commit_kept kept still = record {
    was_open = λ live. kept.was_open (still.was_open live);
    committed = λ live. still.committed live ∙ kept.committed (still.was_open live);
  }

  settled : (e : Error) (it : Stop) → HasReason old mid e → KeepsCommit old mid → Settles e mid new it → KeepsCommit mid new
      → (IsTrue new.is_open → new.now ≡ new.committed) → now ≡ shut_by it was → Kept count old now new s
  settled e it reason kept ends still idle is =
      let both = commit_kept kept still in record {
        others = λ live. same_all old.now new.now (idle live ∙ both.committed live ∙ sym keeps.rests.settled);
        stays = λ none. at it ends is none;
        reason = shut_for_reason old new it was now keeps.unshut is (stops_settled old mid new e it _ _ first second clean reason ends);
      }
    where
      at : (it : Stop) → Settles e mid new it → now ≡ shut_by it was → now ≡ None → KeepsState now new count s
      at stop.Memory ends is none =
          let rests = rests_if_open old new s (commit_kept kept still) idle (second.limit ∙ first.limit) keeps.rests ends.1.0.is_open in
          keeps_state now new count s none rests keeps.counted last
      at (stop.Closed why) ends is none = absurd (let never = sym is ∙ none in cc)

  says : {T : Type 0} (Is : T → Type 0) (it : Stop) → now ≡ shut_by it was → (it ≡ stop.Closed shut.Damaged → ⊥) → Says Is now (Err (fault_by it))
  says Is stop.Memory is not = is ∙ keeps.unshut
  says Is (stop.Closed (shut.Device e)) is not = tt
  says Is (stop.Closed shut.Damaged) is not = not refl

  gave_up : {T : Type 0} (Is : T → Type 0) (f : ReadFault) (it : Stop) → Stopped old mid f → now ≡ shut_by it was → EndsRead f mid new it
      → Kept count old now new s × Says Is now (Err (fault_by it))
  gave_up Is read.Memory it stopped is ends = (
    unchanged stopped (ends.1 stopped.0.is_open) (is ∙ ap (λ i. shut_by i was) ends.0),
    says Is it is (λ damaged. let never = sym ends.0 ∙ damaged in absurd cc),
  )
  gave_up Is (read.Store e) it stopped is ends = (
    settled e it stopped.1 stopped.2 ends.0 ends.1 ends.2 is,
    says Is it is (λ damaged. subst (Settles e mid new) damaged ends.0 stopped.0),
  )
  gave_up Is read.Unread it stopped is ends = absurd stopped

  ended : {T : Type 0} (Is : T → Type 0) (found : Result T ReadFault) (result : Result T Fault)
      → MatchResult found (λ a. Is a × IsUnchanged old mid) (Stopped old mid) → Returns found was mid now new result
      → Kept count old now new s × Says Is now result
  ended Is (Ok x) result reads_state gives =
      (unchanged reads_state.1 (gives.2 reads_state.1.0.is_open) gives.1, subst (Says Is now) (sym gives.0) (reads_state.0, gives.1 ∙ keeps.unshut))
  ended Is (Err f) result reads_state gives =
      let it = gave_up Is f gives.0 reads_state gives.2 (gives.3 clean) in
      (it.0, subst (Says Is now) (sym gives.1) it.1)

-- a call that commits nothing leaves no more than before
fewer : (old new : Seen) → Survives old new (λ _. ⊥) → HasCleanDisk new → (trees : Trees) → new.may_leave trees → old.may_leave trees
fewer old new survives clean trees may = elim (survives.crash clean trees may) [ inl was ↦ was | inr none ↦ absurd none ]

-- two calls of the store, one after the other: only a fault closes the connection
closes_on : (old mid new : Seen) (Commits After : Trees → Type 0) → Survives old mid Commits → Survives mid new After → HasCleanDisk new
    → IsTrue old.is_open → IsTrue new.is_open ⊎ MoreFaults old.faults new.faults
closes_on old mid new Commits After first second clean live =
    elim (first.closes (clean_back mid new After second clean) live) [
      | inl still ↦ elim (second.closes clean still) [
        | inl on ↦ inl on
        | inr more ↦ inr (more_later old.faults mid.faults new.faults first.counts more)
      ]
      | inr more ↦ inr (more_before old.faults mid.faults new.faults more second.counts)
    ]

module _ {K T : Type 0} (view : View K) (k l : K) (mid : Seen) (found : Result T ReadFault) (result : Result T Fault) (Is : State → T → Type 0)
    (free : view.shut k ≡ None) (same : view.count l ≡ view.count k) (reads_state : HasCleanDisk mid → ReadsState Is (view.seen k) mid found)
    (stays : Stays (view.seen k) mid) (first : Survives (view.seen k) mid (λ _. Unit {0}))
    (answers : Answers found (view.shut k) mid (view.shut l) (view.seen l) result) where
  abbrev old : Seen
  old = view.seen k

  abbrev new : Seen
  new = view.seen l

  abbrev causes : Result T Fault → Type 0
  causes r = ShutsBy r (option_map cause_in (view.shut k)) (option_map cause_in (view.shut l))

  early : HasCleanDisk new → HasCleanDisk mid
  early clean = clean_back mid new (λ _. ⊥) answers.survives clean

  kept : HasCleanDisk new → (s : State) → Represents view k s → Kept (view.count l) old (view.shut l) new s × Says (Is s) (view.shut l) result
  kept clean s is =
      let keeps = subst (λ n. KeepsState (view.shut k) old n s) (sym same) is in
      ended (view.shut k) (view.shut l) (view.count l) old mid new s keeps first answers.survives clean answers.last (Is s) found result
      (reads_state (early clean) s is.rests.unlimited is.rests.kept) answers.returns

  no_more : HasCleanDisk new → (s : State) → Represents view k s → (trees : Trees) → new.may_leave trees → old.may_leave trees
  no_more clean s is trees may =
      stays (early clean) s is.rests.unlimited is.rests.kept trees (fewer mid new answers.survives clean trees may)

  leaves : HasCleanDisk new → (s : State) → Represents view k s → LeavesOnly (MayLeave new) (Some s)
  leaves clean s is o left =
      leaves_only old s is.rests is.last.only o (left.0, no_more clean s is left.0 left.1, left.2)

  read_preserves : Spares view k l
  read_preserves = record {
    still = λ some. shut_of_none (view.shut k) free some;
    clean = λ clean. clean_back old mid (λ _. Unit {0}) first (early clean);
    counts = counts_then old.faults mid.faults new.faults first.counts answers.survives.counts;
    closes = closes_on old mid new (λ _. Unit {0}) (λ _. ⊥) first answers.survives;
    others = λ clean s is. (kept clean s is).0.others;
    stays = λ clean s is none. (s, (kept clean s is).0.stays none);
    states = λ clean s is trees may. (s, leaves_states (view.shut k) old (view.count k) s is trees (no_more clean s is trees may));
  }

  returned : (found : Result T ReadFault) → Returns found (view.shut k) mid (view.shut l) new result → causes result
  returned (Ok x) gives = subst causes (sym gives.0) (ap (option_map cause_in) free, ap (option_map cause_in) (gives.1 ∙ free))
  returned (Err f) gives = subst causes (sym gives.1) (shuts T (view.shut k) (view.shut l) gives.0 free gives.2)

  read_says : (s : State) → LeavesOnly (MayLeave new) (Some s) → (r : Result T Fault)
      → Kept (view.count l) old (view.shut l) new s × Says (Is s) (view.shut l) r → Reads (table_model view) k l s (Is s) r
  read_says s only (Ok x) it = (it.1.0, it.0.stays it.1.1)
  read_says s only (Err fault.Memory) it = it.0.stays it.1
  read_says s only (Err fault.Device) it = (record { reason = λ clean. it.0.reason }, only)
  read_says s only (Err fault.Damaged) it = it.1
  read_says s only (Err fault.Reopen) it = it.1

  read_is : IsRead (table_model view) k l result Is
  read_is =
      let says = returned found answers.returns in record {
        call = record {
          preserved = read_preserves;
          began_clean = read_preserves.clean;
          faults = says;
          reopen = λ err. never_reopen result _ _ says (ap (option_map cause_in) free) err;
        };
        reads = λ clean s is. read_says s (leaves clean s is) result (kept clean s is);
      }

-- a read over the connection of a keeper that is open, and its answer
pub read_over : {K T : Type 0} {view : View K} {k l : K} {mid : Seen} {found : Result T ReadFault} {result : Result T Fault} {Is : State → T → Type 0}
    → option_map cause_in (view.shut k) ≡ None → view.count l ≡ view.count k
    → (HasCleanDisk mid → ReadsState Is (view.seen k) mid found) → Stays (view.seen k) mid → Survives (view.seen k) mid (λ _. Unit {0})
    → Answers found (view.shut k) mid (view.shut l) (view.seen l) result → IsRead (table_model view) k l result Is
read_over {K} {T} {view} {k} {l} {mid} {found} {result} {Is} free same reads_state stays first answers =
    read_is view k l mid found result Is (unshut_of (view.shut k) free) same reads_state stays first answers

-- ---- a batch

-- what is returned for a batch, what shuts the keeper, and how many batches it counts
abbrev Gives : Result Reply Stop → Result Reply Fault → Option Shut → Option Shut → ℕ → ℕ → Type 0
Gives (Ok reply) result was now count later = (result ≡ Ok reply) × (now ≡ was) × (later ≡ count_after reply count)
Gives (Err it) result was now count later = (result ≡ Err (fault_by it)) × (now ≡ shut_by it was) × (later ≡ count)

module _ (was now : Option Shut) (count later : ℕ) (old new : Seen) (s : State) (b : BatchValue) (keeps : KeepsState was old count s)
    (last : IsTrue new.is_open → LeavesLast new) where
  stopped_acts : (it : Stop) → Applied s b new (Err it) → now ≡ shut_by it was → later ≡ count → Acts s b (Err (fault_by it)) (KeepsState now new later)
  stopped_acts stop.Memory applied is counted = keeps_state now new later s (is ∙ keeps.unshut) applied (keeps.counted ∙ sym counted) last
  stopped_acts (stop.Closed (shut.Device e)) applied is counted = tt
  stopped_acts (stop.Closed shut.Damaged) applied is counted = absurd applied

  stopped_stays : (it : Stop) → Applied s b new (Err it) → now ≡ shut_by it was → later ≡ count → now ≡ None
      → (t : State) × KeepsState now new later t
  stopped_stays stop.Memory applied is counted none = (s, stopped_acts stop.Memory applied is counted)
  stopped_stays (stop.Closed why) applied is counted none = absurd (let never = sym is ∙ none in cc)

  answered : (reply : Reply) → Applied s b new (Ok reply) → now ≡ was → later ≡ count_after reply count
      → KeepsState now new later (act s b).state
  answered reply applied is counted =
      let counts = count_is s b ∙ ap (λ r. count_after r (len s.keys)) (sym applied.0) ∙ ap (count_after reply) keeps.counted ∙ sym counted in
      keeps_state now new later (act s b).state (is ∙ keeps.unshut) applied.1 counts last

  acts : (r : Result Reply Stop) (result : Result Reply Fault) → Applied s b new r → Gives r result was now count later
      → Acts s b result (KeepsState now new later)
  acts (Ok reply) result applied gives =
      subst (λ q. Acts s b q (KeepsState now new later)) (sym gives.0) (applied.0, answered reply applied gives.1 gives.2)
  acts (Err it) result applied gives =
      subst (λ q. Acts s b q (KeepsState now new later)) (sym gives.0) (stopped_acts it applied gives.1 gives.2)

  acts_stay : (r : Result Reply Stop) (result : Result Reply Fault) → Applied s b new r → Gives r result was now count later
      → now ≡ None → (t : State) × KeepsState now new later t
  acts_stay (Ok reply) result applied gives none = ((act s b).state, answered reply applied gives.1 gives.2)
  acts_stay (Err it) result applied gives none = stopped_stays it applied gives.1 gives.2 none

  -- each database that a crash may leave is of the state before or of the state after
  leaves_become : MayBecome s b old new → LeavesStates new
  leaves_become becomes trees may = elim (becomes trees may) [
    | inl before ↦ (s, leaves_states was old count s keeps trees before)
    | inr it ↦ ((act s b).state, subst (λ (x : Trees). AreTreesOf x (Some (act s b).state)) (sym it.2) (it.0.schema, it.1))
  ]

module _ {K : Type 0} (view : View K) (k l : K) (b : BatchValue) (r : Result Reply Stop) (result : Result Reply Fault) (free : view.shut k ≡ None)
    (last : IsTrue (view.seen l).is_open → LeavesLast (view.seen l)) (survives : Survives (view.seen k) (view.seen l) (λ _. Unit {0}))
    (applied : HasCleanDisk (view.seen l) → (s : State) → Rests (view.seen k) s → len s.keys ≡ view.count k → Applied s b (view.seen l) r)
    (others : HasCleanDisk (view.seen l) → (s : State) → Rests (view.seen k) s → len s.keys ≡ view.count k
    → LeavesOtherTables (view.seen k) (view.seen l))
    (crash : HasCleanDisk (view.seen l) → (s : State) → Rests (view.seen k) s → len s.keys ≡ view.count k
    → MayBecome s b (view.seen k) (view.seen l))
    (reason : HasCleanDisk (view.seen l) → IfErr r (StopsFor (view.seen k) (view.seen l)))
    (gives : Gives r result (view.shut k) (view.shut l) (view.count k) (view.count l)) where
  abbrev before : Seen
  before = view.seen k

  abbrev after : Seen
  after = view.seen l

  abbrev given : Result Reply Stop → Type 0
  given r = Gives r result (view.shut k) (view.shut l) (view.count k) (view.count l)

  abbrev its_causes : Result Reply Fault → Type 0
  its_causes q = ShutsBy q (option_map cause_in (view.shut k)) (option_map cause_in (view.shut l))

  write_acts : HasCleanDisk after → (s : State) → Represents view k s → Acts s b result (Represents view l)
  write_acts clean s is =
      acts (view.shut k) (view.shut l) (view.count k) (view.count l) before after s b is last r result (applied clean s is.rests is.counted) gives

  write_preserves : Spares view k l
  write_preserves = record {
    still = λ some. shut_of_none (view.shut k) free some;
    clean = λ clean. clean_back before after (λ _. Unit {0}) survives clean;
    counts = survives.counts;
    closes = survives.closes;
    others = λ clean s is. others clean s is.rests is.counted;
    stays = λ clean s is none.
        let done = applied clean s is.rests is.counted in
        acts_stay (view.shut k) (view.shut l) (view.count k) (view.count l) before after s b is last r result done gives none;
    states = λ clean s is.
        let becomes = crash clean s is.rests is.counted in
        leaves_become (view.shut k) (view.shut l) (view.count k) (view.count l) before after s b is last becomes;
  }

  write_shuts : (r : Result Reply Stop) → given r → its_causes result
  write_shuts (Ok reply) gives =
      subst its_causes (sym gives.0) (ap (option_map cause_in) free, ap (option_map cause_in) (gives.1 ∙ free))
  write_shuts (Err it) gives = subst its_causes (sym gives.0) (shuts Reply (view.shut k) (view.shut l) it free gives.1)

  write_fails : (r : Result Reply Stop) → given r → IfErr r (StopsFor before after) → HasShut before after (view.shut l)
  write_fails (Ok reply) gives stops = subst (HasShut before after) (sym (gives.1 ∙ free)) tt
  write_fails (Err it) gives stops = shut_for_reason before after it (view.shut k) (view.shut l) free gives.1 stops

  write_says : (s : State) → Fails view k l → LeavesEither (MayLeave after) (Some s) (Some (act s b).state) → (q : Result Reply Fault)
      → Acts s b q (Represents view l) → Writes (table_model view) k l s b q
  write_says s failed either (Ok reply) it = it
  write_says s failed either (Err fault.Memory) it = it
  write_says s failed either (Err fault.Device) it = (failed, either)
  write_says s failed either (Err fault.Damaged) it = it
  write_says s failed either (Err fault.Reopen) it = it

  write_is : IsWrite (table_model view) k l b result
  write_is =
      let says = write_shuts r gives in record {
        applied = λ clean s is. (others clean s is.rests is.counted, write_acts clean s is);
        call = record {
          preserved = write_preserves;
          began_clean = write_preserves.clean;
          faults = says;
          reopen = λ err. never_reopen result _ _ says (ap (option_map cause_in) free) err;
        };
        writes = λ clean s is.
            let only = leaves_only before s is.rests is.last.only in
            write_says s (record { reason = λ _. write_fails r gives (reason clean) })
            (leaves_either s b before after only (crash clean s is.rests is.counted)) result (write_acts clean s is);
      }

-- a batch on the connection of a keeper that is open, and its answer
pub write_over : {K : Type 0} {view : View K} {k l : K} {b : BatchValue} {result : Result Reply Fault} (r : Result Reply Stop)
    → option_map cause_in (view.shut k) ≡ None → (IsTrue (view.seen l).is_open → LeavesLast (view.seen l))
    → Survives (view.seen k) (view.seen l) (λ _. Unit {0})
    → (HasCleanDisk (view.seen l) → (s : State) → Rests (view.seen k) s → len s.keys ≡ view.count k → Applied s b (view.seen l) r)
    → (HasCleanDisk (view.seen l) → (s : State) → Rests (view.seen k) s → len s.keys ≡ view.count k
    → LeavesOtherTables (view.seen k) (view.seen l))
    → (HasCleanDisk (view.seen l) → (s : State) → Rests (view.seen k) s → len s.keys ≡ view.count k
    → MayBecome s b (view.seen k) (view.seen l))
    → (HasCleanDisk (view.seen l) → IfErr r (StopsFor (view.seen k) (view.seen l)))
    → Gives r result (view.shut k) (view.shut l) (view.count k) (view.count l) → IsWrite (table_model view) k l b result
write_over {K} {view} {k} {l} {b} {result} r free last survives applied others crash reason gives =
    write_is view k l b r result (unshut_of (view.shut k) free) last survives applied others crash reason gives

-- a batch on a keeper that is shut
pub shut_write : {K : Type 0} {view : View K} (k : K) {b : BatchValue} → IsSome (option_map cause_in (view.shut k))
    → IsWrite (table_model view) k k b (Err fault.Reopen)
shut_write {K} {view} k {b} some =
    let m = table_model view in record {
      applied = λ clean s is. absurd (m.shut_has_none k s some is);
      call = record {
        preserved = m.preserves_itself k;
        began_clean = λ clean. clean;
        faults = (some, refl);
        reopen = λ err o. (λ left. left, λ left. left);
      };
      writes = λ clean s is. m.shut_has_none k s some is;
    }
