-- Why a query that no rule refuses may fail.
use Rattle.std.proofs.Common.{◌≡◌, inl, inr, ℕ, List, None, sym, ap, subst, ◌∙◌, append-nil, IsSome}
use Rattle.sqlite.specs.declared.error.Error.{Error}
use Rattle.sqlite.specs.Order.{Row}
use Rattle.sqlite.specs.Command.TheVariants.{Select}
use Rattle.sqlite.specs.Listing.{IsSourceOf}
use Rattle.sqlite.specs.Effect.{RefusesQuery, RefusesToRead}
use Rattle.sqlite.specs.Clock.{timed}
use Rattle.sqlite.specs.State.{State as Seen, IsNotRun, FailsToQuery, FailsToShow, IsTooLate, KeepsCommit}
use Rattle.sqlite.proofs.Callers.{IsPlain, command_of}
use Rattle.streetmap_rows.specs.Failures.{IsOfStore, HasReason}
use Rattle.streetmap_rows.proofs.ErrorReasons.{queried}
use Rattle.streetmap_rows.proofs.StoreErrors.{failure_is}
use Rattle.streetmap_reading.specs.Candidates.{IsOneStatement, ShowsSuch}

module _ (sql : List ℕ) (params : Row) (old new : Seen) (Are : List Row → Type 0) (shows : ShowsSuch sql params old.now Are) (limit : old.step_limit ≡ None)
  where
    by : (e : Error) → FailsToQuery sql params old new e → IsOfStore e × KeepsCommit old new
    unfolding FailsToQuery IsNotRun
    by e (inl (inl ((inl missing), same))) = absurd (subst IsPlain missing.1 shows.plain)
    by e (inl (inl ((inr other), same))) =
        let bare = subst IsPlain other.1 shows.plain in
        let fits = subst (IsOneStatement sql params) other.1 shows.whole in
        absurd (elim other.2 [ inl cut ↦ cut.0 fits.0 | inr more ↦ elim more [ inl few ↦ few.0 fits.1 | inr timeless ↦ timeless.0 bare.1 ] ])
    by e (inl (inr failed)) = (failure_is e failed.0 failed.1, record { was_open = failed.3.was_open; committed = λ o. (failed.3.undone o).1 })
    by e (inr h) =
        let at = h.1.is in
        let bare = subst IsPlain at shows.plain in
        let it = subst (FailsToShow old new sql h.0 (timed params h.0.formats h.1.now) e) bare.0 h.2 in
        let db : it.0 ≡ old.now = subst (λ b. IsSourceOf b old.now it.0) shows.unlisted it.1 in
        let same : h.0.command ≡ Select shows.program shows.names = sym (ap command_of at) ∙ shows.is in
        let full : timed params h.0.formats h.1.now ≡ params = rw (bare.1, append-nil params) in
        let one : RefusesQuery old.step_limit it.0 shows.program (timed params h.0.formats h.1.now) e =
        subst (λ k. RefusesToRead old.step_limit k it.0 (timed params h.0.formats h.1.now) e) same it.2 in
        let two = subst (λ d. RefusesQuery old.step_limit d shows.program (timed params h.0.formats h.1.now) e) db one in
        let three = subst (λ q. RefusesQuery old.step_limit old.now shows.program q e) full two in
        absurd (shows.never e (subst (λ l. RefusesQuery l old.now shows.program params e) limit three))

    pub reported : (e : Error) → FailsToQuery sql params old new e
        → IsOfStore e × HasReason old new e × KeepsCommit old new
    reported e h = let it = by e h in (it.0, queried old new sql params e h, it.1)

    pub not_late : (e : Error) → IsTooLate sql params old new e → ⊥
    not_late e h = let bare = subst IsPlain h.1.is shows.plain in absurd (let some = subst IsSome bare.0 h.2 in cc)
