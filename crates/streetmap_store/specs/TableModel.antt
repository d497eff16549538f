-- The model of a keeper over tables.
use Rattle.std.specs.Prelude.{◌≡◌, ◌⊎◌, ℕ, ◌≤◌, Option, None, Some, IsSome, IsTrue, T, not}
use Rattle.std.specs.Option.{option_map}
use Rattle.std.proofs.Common.{inl, inr, refl, sym, ap, subst, ◌∙◌, le_refl}
use Rattle.sqlite_disk.specs.Disk.{MoreFaults}
use Rattle.sqlite.specs.Effect.{Database}
use Rattle.sqlite_trees.specs.Tree.{Trees}
use Rattle.sqlite.specs.State.{State as Seen, HasCleanDisk}
use Rattle.streetmap_ledger.specs.State.{State}
use Rattle.streetmap_ledger.specs.Model.{Model}
use Rattle.streetmap_rows.specs.declared.failures.Shut.{Shut}
use Rattle.streetmap_rows.specs.declared.failures.Shut.TheVariants.{Device, Damaged}
use Rattle.streetmap_rows.specs.KeptStates.{MayLeave, AreTreesOf}
use Rattle.streetmap_rows.proofs.ErrorReasons.{counts_then, more_before, more_later, reason_on}
use Rattle.streetmap_tables.specs.BatchEffects.{LeavesOtherTables}
use Rattle.streetmap_tables.proofs.BeforeCleanEnd.{may_leave_it}
use Rattle.streetmap_tables.proofs.CallsInTransaction.{same_all, elsewhere_then}
use Rattle.streetmap_store.specs.CallResults.{KeepsState, HasShut, Acts, cause_in, never_shut}

-- what is seen of a keeper over tables: what shut it, how many batches were accepted, and its
-- connection
pub record View (K : Type 0) : Type 1 where
  pub shut : K → Option Shut
  pub count : K → ℕ
  pub seen : K → Seen

-- each database that a crash may leave is a state's
abbrev pub LeavesStates : Seen → Type 0
LeavesStates seen = (trees : Trees) → seen.may_leave trees → (t : State) × AreTreesOf trees (Some t)

-- it represents this state
abbrev pub Represents : {K : Type 0} → View K → K → State → Type 0
Represents view k s = KeepsState (view.shut k) (view.seen k) (view.count k) s

-- From one keeper to a later one. No fault of the store is forgotten, and only a fault closes the
-- connection; a shut keeper stays the same. If the first represents a state, every other table is
-- as it was, the later one represents a state unless it is shut, and each database that a crash may
-- leave is a state's.
pub record Spares {K : Type 0} (view : View K) (first last : K) : Type 0 where
  pub still : IsSome (view.shut first) → last ≡ first
  pub clean : HasCleanDisk (view.seen last) → HasCleanDisk (view.seen first)
  pub counts : (view.seen first).faults ≤ (view.seen last).faults
  pub closes : HasCleanDisk (view.seen last) → IsTrue (view.seen first).is_open →
      IsTrue (view.seen last).is_open ⊎ MoreFaults (view.seen first).faults (view.seen last).faults
  pub others : HasCleanDisk (view.seen last) → (s : State) → Represents view first s →
      LeavesOtherTables (view.seen first) (view.seen last)
  pub stays : HasCleanDisk (view.seen last) → (s : State) → Represents view first s →
      view.shut last ≡ None → (t : State) × Represents view last t
  pub states : HasCleanDisk (view.seen last) → (s : State) → Represents view first s →
      LeavesStates (view.seen last)

-- the store failed between the two, if an error of the store shut the later one
pub record Fails {K : Type 0} (view : View K) (first last : K) : Type 0 where
  pub reason : HasCleanDisk (view.seen last) →
      HasShut (view.seen first) (view.seen last) (view.shut last)

-- ---- the laws

-- a keeper with a cause is shut
pub is_shut : (shut : Option Shut) → IsSome (option_map cause_in shut) → IsSome shut
is_shut None is = absurd (subst (λ b. T (not b)) is tt)
is_shut (Some why) is = refl

-- what a crash leaves of a keeper that represents a state is the state's
pub leaves_states : (shut : Option Shut) (seen : Seen) (count : ℕ) (s : State)
    → KeepsState shut seen count s → (trees : Trees) → seen.may_leave trees
    → AreTreesOf trees (Some s)
leaves_states shut seen count s is trees may =
    let same : seen.now.trees ≡ trees =
    ap (λ (d : Database). d.trees) is.rests.settled ∙ sym (is.last.only trees may) in
    subst (λ (x : Trees). AreTreesOf x (Some s)) same (seen.now.schema, is.rests.kept)

-- it is one state
pub one_state : (shut : Option Shut) (seen : Seen) (count : ℕ) (s t : State)
    → KeepsState shut seen count s → KeepsState shut seen count t → s ≡ t
one_state shut seen count s t p q =
    let same : Some s ≡ Some t = q.only (Some s) (seen.now.schema, p.rests.kept) in
    cc

-- and a crash leaves no other
pub leaves_it : (shut : Option Shut) (seen : Seen) (count : ℕ) (s : State)
    → KeepsState shut seen count s → (o : Option State) → MayLeave seen o → o ≡ Some s
leaves_it shut seen count s is o left =
    let same : left.0 ≡ seen.now.trees =
    is.last.only left.0 left.1 ∙ ap (λ (d : Database). d.trees) (sym is.rests.settled) in
    is.only o (subst (λ trees. AreTreesOf trees o) same left.2)

module _ {K : Type 0} (view : View K) where
  pub preserves_itself : (k : K) → Spares view k k
  preserves_itself k = record {
    still = λ shut. refl;
    clean = λ clean. clean;
    counts = le_refl (view.seen k).faults;
    closes = λ clean live. inl live;
    others = λ clean s is live. same_all (view.seen k).now (view.seen k).now refl;
    stays = λ clean s is none. (s, is);
    states = λ clean s is trees may. (
      s,
      leaves_states (view.shut k) (view.seen k) (view.count k) s is trees may,
    );
  }

  -- if the store failed before and shut the keeper, it failed up to the last
  pub fails_still : (first mid last : K) → Fails view first mid → IsSome (view.shut mid)
      → Spares view mid last → Fails view first last
  fails_still first mid last fails shut preserves = record {
    reason = λ clean.
        subst (λ k. HasShut (view.seen first) (view.seen k) (view.shut k))
        (sym (preserves.still shut)) (fails.reason (preserves.clean clean));
  }

module _ {K : Type 0} (view : View K) (first mid last : K) (one : Spares view first mid)
    (two : Spares view mid last) where
  -- the keeper between is open, or is the last one
  between : {P : Type 0} → (view.shut mid ≡ None → P) → (last ≡ mid → P) → P
  between {P} open_still shut = by (view.shut mid) refl
    where
      by : (o : Option Shut) → view.shut mid ≡ o → P
      by None none = open_still none
      by (Some why) some = shut (two.still (subst (λ o. IsSome o) (sym some) refl))

  -- only a fault closes the connection
  closes_then : HasCleanDisk (view.seen last) → IsTrue (view.seen first).is_open →
      IsTrue (view.seen last).is_open ⊎ MoreFaults (view.seen first).faults (view.seen last).faults
  closes_then clean live = by (one.closes (two.clean clean) live)
    where
      a : ℕ
      a = (view.seen first).faults

      b : ℕ
      b = (view.seen mid).faults

      c : ℕ
      c = (view.seen last).faults

      on : IsTrue (view.seen last).is_open ⊎ MoreFaults b c →
          IsTrue (view.seen last).is_open ⊎ MoreFaults a c
      on (inl still) = inl still
      on (inr more) = inr (more_later a b c one.counts more)

      by : IsTrue (view.seen mid).is_open ⊎ MoreFaults a b →
          IsTrue (view.seen last).is_open ⊎ MoreFaults a c
      by (inl still) = on (two.closes clean still)
      by (inr more) = inr (more_before a b c more two.counts)

  -- the state that the keeper between represents, if it is open
  its_state : HasCleanDisk (view.seen last) → (s : State) → Represents view first s
      → view.shut mid ≡ None → (t : State) × Represents view mid t
  its_state clean s is none = one.stays (two.clean clean) s is none

  pub preserves_then : Spares view first last
  preserves_then = record {
    still = λ shut.
        let same = one.still shut in
        two.still (subst (λ k. IsSome (view.shut k)) (sym same) shut) ∙ same;
    clean = λ clean. one.clean (two.clean clean);
    counts = counts_then (view.seen first).faults (view.seen mid).faults (view.seen last).faults
        one.counts two.counts;
    closes = closes_then;
    others = λ clean s is.
        let here = one.others (two.clean clean) s is in
        between {P = LeavesOtherTables (view.seen first) (view.seen last)} (λ none live.
        let at = its_state clean s is none in
        elsewhere_then (view.seen first).now (view.seen mid).now (view.seen last).now
        (here at.1.rests.live) (two.others clean at.0 at.1 live)) (λ same.
        subst (λ k. LeavesOtherTables (view.seen first) (view.seen k)) (sym same) here);
    stays = λ clean s is none.
        between {P = (t : State) × Represents view last t} (λ free.
        let at = its_state clean s is free in
        two.stays clean at.0 at.1 none) (λ same.
        let at = its_state clean s is (ap view.shut (sym same) ∙ none) in
        (at.0, subst (λ k. Represents view k at.0) (sym same) at.1));
    states = λ clean s is.
        between {P = LeavesStates (view.seen last)} (λ none.
        let at = its_state clean s is none in
        two.states clean at.0 at.1) (λ same.
        subst (λ k. LeavesStates (view.seen k)) (sym same) (one.states (two.clean clean) s is));
  }

  -- if the store failed later, it failed since the first
  pub fails_later : Fails view mid last → Fails view first last
  fails_later fails = record { reason = λ clean. by clean (view.shut last) (fails.reason clean) }
    where
      by : HasCleanDisk (view.seen last) → (shut : Option Shut)
          → HasShut (view.seen mid) (view.seen last) shut
          → HasShut (view.seen first) (view.seen last) shut
      by clean None come = tt
      by clean (Some (Device e)) come =
          reason_on (view.seen first) (view.seen mid) (view.seen last) e one.counts
          (one.closes (two.clean clean)) two.counts come
      by clean (Some Damaged) come = tt

-- The model. What a call of `apply` returned is what the state gives, and every other table stays.
abbrev pub table_model : {K : Type 0} → View K → Model K
table_model view = record {
  represents = Represents view;
  may_leave = λ k. MayLeave (view.seen k);
  cause = λ k. option_map cause_in (view.shut k);
  is_clean = λ k. HasCleanDisk (view.seen k);
  applies = λ k b result after. HasCleanDisk (view.seen after) → (s : State) →
      Represents view k s → LeavesOtherTables (view.seen k) (view.seen after)
      × Acts s b result (Represents view after);
  preserves = Spares view;
  fails = Fails view;
  one_state = λ k s t p q. one_state (view.shut k) (view.seen k) (view.count k) s t p q;
  shut_has_none = λ k s shut is. never_shut (view.shut k) is.unshut shut;
  may_leave_it = λ k s is. may_leave_it (view.seen k) s is.rests is.last.left;
  leaves_it = λ k s is. leaves_it (view.shut k) (view.seen k) (view.count k) s is;
  well_formed = λ k s is. is.rests.kept.well;
  preserves_itself = preserves_itself view;
  preserves_then = preserves_then view;
  fails_later = fails_later view;
  fails_still = λ first mid last failed shut preserved.
      fails_still view first mid last failed (is_shut (view.shut mid) shut) preserved;
}
