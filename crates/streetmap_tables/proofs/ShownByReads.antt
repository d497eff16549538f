-- What the two reads show of any tables.
use Rattle.std.proofs.Common.{◌∙◌, ◌≡◌, ◌⊎◌, inl, inr, ℕ, ℤ, List, [], Ok, Err, Option, Some}
use Rattle.std.proofs.Common.{Result, Vec, IsTrue, IfOk, OnOk, IfErr, MatchResult, pos, refl}
use Rattle.std.proofs.Common.{sym, subst}
use Rattle.std.specs.declared.alloc.Global.{Global}
use Rattle.sqlite.specs.Order.{Row}
use Rattle.sqlite.specs.State.{State as Seen, IsUnchanged, Shown, FailsToQuery, IsTooLate}
use Rattle.sqlite.specs.declared.error.Error.{Error}
use Rattle.streetmap_rows.specs.Failures.{IsOfStore, HasReason}
use Rattle.streetmap_rows.proofs.Compiles.{selects_format, select_format_is}
use Rattle.streetmap_rows.specs.Statements.{select_format}
use Rattle.streetmap_tables.specs.Adoption.{serials_text}
use Rattle.streetmap_tables.specs.Part.{old_rows_text, HasCarried}
use Rattle.sqlite.specs.Store.{Ghosts}
use Rattle.sqlite.specs.Held.{Held, state}
use Rattle.streetmap_tables.specs.QueryResults.{Sees, IsUnseen, ShowsRows, ShowsFormat, ShowsKeys}
use Rattle.streetmap_tables.specs.QueryResults.{ShowsNothing, IsFoundIn}
use Rattle.streetmap_tables.specs.declared.openings.OpenFault.{OpenFault}
use Rattle.streetmap_tables.specs.declared.adoption.Found.{Found}
use Rattle.streetmap_tables.specs.declared.adoption.Found.TheVariants.{Keys, Unread, Other}
use Rattle.streetmap_rows.proofs.SameDatabase.{IsBare, select_bare, was_unchanged, shown_there}
use Rattle.streetmap_rows.proofs.SameDatabase.{fails_there, not_too_late}
use Rattle.streetmap_tables.proofs.SelectOld.{selects_rows, select_rows_is}
use Rattle.streetmap_tables.proofs.Serials.{selects_serials, select_serials_is}

pub format_bare : IsBare select_format
format_bare = select_bare selects_format select_format_is

pub serials_bare : IsBare serials_text
serials_bare = select_bare selects_serials select_serials_is

pub rows_bare : IsBare old_rows_text
rows_bare = select_bare selects_rows select_rows_is

-- ---- one read

module _ (text : List ℕ) (bare : IsBare text) (old new : Seen) where
  pub seen : (rows : List Row) → Shown text [] old new rows → Sees text old rows × IsUnchanged old new
  seen rows h = let same = was_unchanged text bare old new old refl rows h in (shown_there text bare old new old refl rows h same.0.was_open, same)

  pub unseen : (e : Error) → FailsToQuery text [] old new e ⊎ IsTooLate text [] old new e → (IsOfStore e → ⊥) → IsUnseen text old
  unseen e (inl failed) other = (e, other, fails_there text bare old new old refl refl e other failed (λ live. live))
  unseen e (inr late) other = absurd (not_too_late text bare old new old refl refl e other late)

  pub was_read : (r : Result (Vec Row Global) Error) → IfOk r (λ rows. Shown text [] old new rows.items) →
      IfErr r (λ e. FailsToQuery text [] old new e ⊎ IsTooLate text [] old new e) → ShowsRows text old new r
  was_read (Ok rows) shown failed = seen rows.items shown
  was_read (Err e) shown failed = λ other. unseen e failed other

-- ---- of one connection as of another with the same database

module _ (mid old : Seen) (same : mid.now ≡ old.now) (limit : mid.step_limit ≡ old.step_limit) (live : IsTrue mid.is_open → IsTrue old.is_open) where
  pub sees_there : (text : List ℕ) → IsBare text → (rows : List Row) → Sees text mid rows
      → Sees text old rows
  sees_there text bare rows h = shown_there text bare mid mid old same rows h (live (was_unchanged text bare mid mid old same rows h).0.was_open)

  unseen_there : (text : List ℕ) → IsBare text → IsUnseen text mid → IsUnseen text old
  unseen_there text bare h = (h.0, h.1, fails_there text bare mid mid old same limit h.0 h.1 h.2 live)

  pub format_there : (format : Option ℤ) → ShowsFormat mid format → ShowsFormat old format
  format_there format h = (h.0, sees_there select_format format_bare h.0 h.1, h.2)

  nothing_there : ShowsNothing mid → ShowsNothing old
  nothing_there h = unseen_there select_format format_bare h

  pub serials_there : (rows : List Row) → Sees serials_text mid rows → Sees serials_text old rows
  serials_there = sees_there serials_text serials_bare

  pub unseen_serials_there : IsUnseen serials_text mid → IsUnseen serials_text old
  unseen_serials_there = unseen_there serials_text serials_bare

  pub found_there : (r : Result Found Error) → IsFoundIn mid r → IsFoundIn old r
  found_there (Ok (Keys count)) h = (format_there (Some (pos 2)) h.0, (h.1.0, sees_there serials_text serials_bare h.1.0 h.1.1, h.1.2))
  found_there (Ok Unread) h = (format_there (Some (pos 2)) h.0, unseen_there serials_text serials_bare h.1)
  found_there (Ok (Other format)) h = (format_there format h.0, h.1)
  found_there (Err e) h = λ other. nothing_there (h other)

-- what was migrated from a connection, and is kept by a last one
pub carried_there : {S : Type 0} (g : Ghosts S) (start old mid new : Held S)
    → (state g start).now ≡ (state g old).now
    → (state g start).step_limit ≡ (state g old).step_limit
    → (IsTrue (state g start).is_open → IsTrue (state g old).is_open)
    → (state g new).now ≡ (state g mid).now
    → HasCarried g start mid → HasCarried g old new
carried_there g start old mid new same limit live ends it = (
  it.0,
  sees_there (state g start) (state g old) same limit live old_rows_text rows_bare it.0 it.1,
  it.2,
  it.3 ∙ same,
  it.4,
  it.5,
  it.6,
  it.7,
  ends ∙ it.8,
)

-- a connection whose format a read shows is open
pub reported_open : (old : Seen) (format : Option ℤ) → ShowsFormat old format → IsTrue old.is_open
reported_open old format h = (was_unchanged select_format format_bare old old old refl h.0 h.1).0.was_open

pub if_carried : {S : Type 0} (g : Ghosts S) (mid old new : Held S) (r : Result ℕ OpenFault)
    → (state g mid).now ≡ (state g old).now → (state g mid).step_limit ≡ (state g old).step_limit
    → IsTrue (state g old).is_open
    → OnOk r (HasCarried g mid new) → IfOk r (λ count. ShowsKeys (state g old) count ⊎ HasCarried g old new)
if_carried g mid old new (Ok count) same limit live it = inr (carried_there g mid old new new same limit (λ _. live) refl it)
if_carried g mid old new (Err fault) same limit live it = tt

-- ---- what is answered

-- an error of the read of the batches
abbrev pub IsUnreadBy : Error → Result Found Error → Type 0
IsUnreadBy error r =
    MatchResult r (λ found. (found ≡ Unread) × ¬ (IsOfStore error)) (λ e. (e ≡ error) × IsOfStore error)

pub unread_found : (seen : Seen) (r : Result Found Error) (error : Error) → IsUnreadBy error r
    → ShowsFormat seen (Some (pos 2)) → ((¬ (IsOfStore error)) → IsUnseen serials_text seen)
    → IsFoundIn seen r
unread_found seen (Ok found) error by format lost =
    subst (λ f. IsFoundIn seen (Ok f)) (sym by.0) (format, lost by.1)
unread_found seen (Err e) error by format lost = λ other. absurd (other (subst IsOfStore (sym by.0) by.1))

-- on tables of a state the read met an error of the store
pub unread_never : (n : ℕ) (r : Result Found Error) (error : Error) → IsUnreadBy error r
    → IsOfStore error → MatchResult r (λ found. found ≡ Keys n) IsOfStore
unread_never n (Ok found) error by of = absurd (by.1 of)
unread_never n (Err e) error by of = subst IsOfStore (sym by.0) of

pub unread_reason : (old new : Seen) (r : Result Found Error) (error : Error) → IsUnreadBy error r
    → HasReason old new error → IfErr r (HasReason old new)
unread_reason old new (Ok found) error by come = tt
unread_reason old new (Err e) error by come = subst (HasReason old new) (sym by.0) come
