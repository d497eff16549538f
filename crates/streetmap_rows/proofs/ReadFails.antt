-- Why a read may fail.
use Rattle.std.proofs.Common.{◌≡◌, inl, inr, ℕ, List, length, false, None, Ok, sym, ap, subst, ◌∙◌, IsSome, append-nil}
use Rattle.sqlite.specs.declared.error.Error.{Error}
use Rattle.sqlite.specs.Order.{Row}
use Rattle.sqlite.specs.Schema.{Schema}
use Rattle.sqlite_schema.specs.declared.program.Program.{Program}
use Rattle.sqlite_resolve.specs.declared.compiled.Compiled.{Compiled}
use Rattle.sqlite.specs.Command.TheVariants.{Select}
use Rattle.sqlite.specs.Listing.{understood, reads_listing, IsSourceOf}
use Rattle.sqlite.specs.Effect.{RefusesQuery, RefusesToRead}
use Rattle.sqlite.specs.Clock.{timed}
use Rattle.sqlite.specs.State.{State as Seen, IsNotRun, FailsToQuery, FailsToShow, IsTooLate, KeepsCommit}
use Rattle.sqlite.proofs.Callers.{IsPlain, command_of}
use Rattle.streetmap_rows.specs.Failures.{IsOfStore}
use Rattle.streetmap_rows.proofs.StoreErrors.{failure_is}
use Rattle.streetmap_rows.proofs.Resolving.{IsWhole}

module _ (sql : List ℕ) (params : Row) (old new : Seen) (schema : Schema) (has : old.now.schema ≡ schema) (p : Program) (names : List (List ℕ))
    (is : command_of (understood schema sql) ≡ Select p names)
    (plain : IsPlain (understood schema sql)) (whole : IsWhole sql (length params) (understood schema sql)) (listed : reads_listing schema sql ≡ false)
    (limit : old.step_limit ≡ None)
    (never : (e : Error) → RefusesQuery None (record { schema = schema; trees = old.now.trees }) p params e → ⊥) where
  known : (c : Compiled) → understood old.now.schema sql ≡ Ok c → understood schema sql ≡ Ok c
  known c at = sym (ap (λ s. understood s sql) has) ∙ at

  pub reported : (e : Error) → FailsToQuery sql params old new e → IsOfStore e × KeepsCommit old new
  unfolding FailsToQuery IsNotRun
  reported e (inl (inl ((inl missing), same))) = absurd (subst IsPlain (sym (ap (λ s. understood s sql) has) ∙ missing.1) plain)
  reported e (inl (inl ((inr other), same))) =
      let at = known other.0 other.1 in
      let bare = subst IsPlain at plain in
      let fits = subst (IsWhole sql (length params)) at whole in
      absurd (elim other.2 [ inl cut ↦ cut.0 fits.0 | inr more ↦ elim more [ inl few ↦ few.0 fits.1 | inr timeless ↦ timeless.0 bare.1 ] ])
  reported e (inl (inr failed)) = (failure_is e failed.0 failed.1, record { was_open = failed.3.was_open; committed = λ o. (failed.3.undone o).1 })
  reported e (inr h) =
      let at = known h.0 h.1.is in
      let bare = subst IsPlain at plain in
      let it = subst (FailsToShow old new sql h.0 (timed params h.0.formats h.1.now) e) bare.0 h.2 in
      let db : it.0 ≡ old.now = subst (λ b. IsSourceOf b old.now it.0) (ap (λ s. reads_listing s sql) has ∙ listed) it.1 in
      let same : h.0.command ≡ Select p names = sym (ap command_of at) ∙ is in
      let base : it.0 ≡ record { schema = schema; trees = old.now.trees } = db ∙ ap (λ x. record { schema = x; trees = old.now.trees }) has in
      let full : timed params h.0.formats h.1.now ≡ params = rw (bare.1, append-nil params) in
      let one : RefusesQuery old.step_limit it.0 p (timed params h.0.formats h.1.now) e =
      subst (λ k. RefusesToRead old.step_limit k it.0 (timed params h.0.formats h.1.now) e) same it.2 in
      let two = subst (λ d. RefusesQuery old.step_limit d p (timed params h.0.formats h.1.now) e) base one in
      let three = subst (λ q. RefusesQuery old.step_limit (record { schema = schema; trees = old.now.trees }) p q e) full two in
      absurd (never e (subst (λ l. RefusesQuery l (record { schema = schema; trees = old.now.trees }) p params e) limit three))

  pub not_late : (e : Error) → IsTooLate sql params old new e → ⊥
  not_late e h = let bare = subst IsPlain (known h.0 h.1.is) plain in absurd (let some = subst IsSome bare.0 h.2 in cc)
