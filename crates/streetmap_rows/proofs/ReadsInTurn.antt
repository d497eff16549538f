-- Reads of the tables, one after the other.
use Rattle.std.proofs.Common.{◌≡◌, ◌≤◌, inl, inr, ℕ, List, Result, Ok, Err, MatchResult, IsErrAnd, false, None}
use Rattle.std.proofs.Common.{sym, subst, ◌∙◌, arith}
use Rattle.sqlite.specs.Listing.{understood}
use Rattle.sqlite.specs.Order.{Row}
use Rattle.sqlite.specs.Held.{Held, state}
use Rattle.sqlite.specs.State.{State as Seen, HasCleanDisk, IsUnchanged, Survives, CommitsShowing}
use Rattle.sqlite.specs.Store.{Ghosts}
use Rattle.sqlite.proofs.Callers.{IsPlain, never_commits, unchanged_then}
use Rattle.sqlite.proofs.InsideLemmas.{unchanged_keeps, keeps_then}
use Rattle.sqlite.proofs.StateLemmas.{survives_weaker, survives_then}
use Rattle.sqlite_trees.specs.Tree.{Trees}
use Rattle.streetmap_ledger.specs.State.{State}
use Rattle.streetmap_rows.proofs.ResultCases.{handed_on}
use Rattle.streetmap_rows.specs.KeptStates.{Keeps}
use Rattle.streetmap_rows.specs.TableReads.{Stopped, ReadsState, Stays, Queries, ReadsTables}
use Rattle.streetmap_rows.specs.declared.fault.ReadFault.{ReadFault}
use Rattle.streetmap_rows.specs.declared.fault.ReadFault.TheVariants.{Memory, Store, Unread}

pub keeps_still : (s : State) (a b : Seen) → IsUnchanged a b → Keeps s a.now → Keeps s b.now
keeps_still s a b same keeps = subst (Keeps s) (sym same.0.now_is) keeps

pub stopped_on : (a b c : Seen) (fault : ReadFault) → IsUnchanged a b → a.faults ≤ b.faults
    → Stopped b c fault → Stopped a c fault
stopped_on a b c Memory same counts h = unchanged_then a b c same h
stopped_on a b c (Store e) same counts h = (
  h.0,
  (λ live reports. omega (arith, counts, h.1 same.0.is_open reports)),
  keeps_then a b c (unchanged_keeps a b (inl same)) h.2,
)
stopped_on a b c Unread same counts h = h

-- what was found after a read that changed nothing
pub found_on : {A : Type 0} (P : A → Type 0) (a b c : Seen) (r : Result A ReadFault)
    → IsUnchanged a b → a.faults ≤ b.faults → MatchResult r (λ x. P x × IsUnchanged b c) (Stopped b c)
    → MatchResult r (λ x. P x × IsUnchanged a c) (Stopped a c)
found_on P a b c (Ok x) same counts h = (h.0, unchanged_then a b c same h.1)
found_on P a b c (Err fault) same counts h = stopped_on a b c fault same counts h

-- what was found means more
pub found_so : {A : Type 0} (P Q : A → Type 0) (a b : Seen) (r : Result A ReadFault)
    → ((x : A) → P x → Q x) → MatchResult r (λ x. P x × IsUnchanged a b) (Stopped a b)
    → MatchResult r (λ x. Q x × IsUnchanged a b) (Stopped a b)
found_so P Q a b (Ok x) so h = (so x h.0, h.1)
found_so P Q a b (Err fault) so h = h

pub clean_before : (a b : Seen) (P : Trees → Type 0) → Survives a b P → HasCleanDisk b
    → HasCleanDisk a
clean_before a b P it clean = omega (arith, clean, it.clean)

pub survives_both : (a b c : Seen) → Survives a b (λ _. Unit {0}) → Survives b c (λ _. Unit {0})
    → Survives a c (λ _. Unit {0})
survives_both a b c p q = survives_then a b c (λ _. Unit {0}) (λ _. Unit {0}) (λ _. Unit {0}) (λ clean db h. h) (λ clean db h. h) p q

-- ---- one query

-- a query of the database of a state commits nothing
pub stays_by : (sql : List ℕ) (params : Row) (old new : Seen)
    → Survives old new (CommitsShowing sql params old)
    → ((s : State) → Keeps s old.now → IsPlain (understood old.now.schema sql)) → Stays old new
stays_by sql params old new kept plain clean s limit keeps trees left =
    elim (kept.crash clean trees left) [
      | inl was ↦ was
      | inr commits ↦ absurd (never_commits sql params old trees (plain s keeps) commits)
    ]

module _ {S : Type 0} {g : Ghosts S} {old new : Held S} (sql : List ℕ) (params : Row) where
  -- a query whose result means this on a state
  pub read_by : {B : Type 0} {N : Seen → Seen → B → Type 0} {r : B}
      → (old.in_transaction ≡ false → new.in_transaction ≡ false)
      → Survives (state g old) (state g new) (CommitsShowing sql params (state g old))
      → ((s : State) → Keeps s (state g old).now → IsPlain (understood old.schema sql))
      → (HasCleanDisk (state g new) → N (state g old) (state g new) r) → ReadsTables g N old new r
  read_by mode survives plain means = record {
    shows = means;
    mode = mode;
    survives = survives_weaker (state g old) (state g new) (CommitsShowing sql params (state g old)) (λ _. Unit {0}) (λ clean db h. tt) survives;
    stays = stays_by sql params (state g old) (state g new) survives plain;
  }

  -- or whose meaning says so
  pub reads_by : {A B : Type 0} {M : Seen → Seen → A → Type 0} {N : Seen → Seen → B → Type 0}
      {q : A} {r : B} → Queries g M (CommitsShowing sql params) old new q
      → ((s : State) → Keeps s (state g old).now → IsPlain (understood old.schema sql))
      → (HasCleanDisk (state g new) → M (state g old) (state g new) q → N (state g old) (state g new) r)
      → ReadsTables g N old new r
  reads_by query plain means = read_by query.mode query.survives plain (λ clean. means clean (query.shows clean))

-- ---- one read

module _ {S : Type 0} {g : Ghosts S} {old new : Held S} where
  pub reads_on : {A B : Type 0} {M : Seen → Seen → A → Type 0} {N : Seen → Seen → B → Type 0}
      {q : A} {r : B} → ReadsTables g M old new q
      → (HasCleanDisk (state g new) → M (state g old) (state g new) q → N (state g old) (state g new) r)
      → ReadsTables g N old new r
  reads_on read means = record {
    shows = λ clean. means clean (read.shows clean);
    mode = read.mode;
    survives = read.survives;
    stays = read.stays;
  }

  -- a fault that is passed on
  pub reads_failed : {A B : Type 0} {Is : State → A → Type 0} {Js : State → B → Type 0}
      {fault : ReadFault} {r : Result B ReadFault} → ReadsTables g (ReadsState Is) old new (Err fault)
      → IsErrAnd r (λ x. x ≡ fault) → ReadsTables g (ReadsState Js) old new r
  reads_failed read is = reads_on read (λ clean shows s limit keeps. handed_on _ _ _ _ is (shows s limit keeps))

-- ---- two reads

-- the first was answered, and the second began where it ended
pub reads_then : {S A B C : Type 0} {g : Ghosts S} {Is : State → A → Type 0}
    {M : Seen → Seen → B → Type 0} {Js : State → C → Type 0} {old mid new : Held S} {a : A} {q : B}
    {r : Result C ReadFault} → ReadsTables g (ReadsState Is) old mid (Ok a) → ReadsTables g M mid new q
    → ((s : State) → mid.step_limit ≡ None → Keeps s (state g mid).now
    → IsUnchanged (state g old) (state g mid) → Is s a → M (state g mid) (state g new) q
    → MatchResult r (λ x. Js s x × IsUnchanged (state g mid) (state g new)) (Stopped (state g mid) (state g new)))
    → ReadsTables g (ReadsState Js) old new r
reads_then {g = g} {Js = Js} {old = old} {mid = mid} {new = new} {r = r} one two means = record {
  shows = λ clean s limit keeps.
      let first = one.shows (clean_before (state g mid) (state g new) _ two.survives clean) s limit keeps in
      found_on (Js s) (state g old) (state g mid) (state g new) r first.1 one.survives.counts
      (means s (one.survives.limit ∙ limit) (keeps_still s (state g old) (state g mid) first.1 keeps) first.1 first.0 (two.shows clean));
  mode = λ idle. two.mode (one.mode idle);
  survives = survives_both (state g old) (state g mid) (state g new) one.survives two.survives;
  stays = λ clean s limit keeps trees left.
      let early = clean_before (state g mid) (state g new) _ two.survives clean in
      let first = one.shows early s limit keeps in
      one.stays early s limit keeps trees (two.stays clean s (one.survives.limit ∙ limit) (keeps_still s (state g old) (state g mid) first.1 keeps) trees left);
}

-- and that is what the second found
pub reads_both : {S A B : Type 0} {g : Ghosts S} {Is : State → A → Type 0} {Js : State → B → Type 0}
    {old mid new : Held S} {a : A} {r : Result B ReadFault} → ReadsTables g (ReadsState Is) old mid (Ok a)
    → ReadsTables g (ReadsState Js) mid new r → ReadsTables g (ReadsState Js) old new r
reads_both one two = reads_then one two (λ s limit keeps same is shows. shows s limit keeps)
