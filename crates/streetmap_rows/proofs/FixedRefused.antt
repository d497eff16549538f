-- Why a fixed statement may be refused.
use Rattle.std.proofs.Common.{◌≡◌, ◌⊎◌, inl, inr, ℕ, zero, suc, List, [], ◌∷◌, length, Option, None, Some, Ok, Err, sym, ap, subst, subst₂, ◌∙◌, append-nil}
use Rattle.std.proofs.Common.{length-append, arith}
use Rattle.sqlite.specs.Order.{Row}
use Rattle.sqlite.specs.Schema.{Schema}
use Rattle.sqlite.specs.Command.{Command}
use Rattle.sqlite.specs.declared.error.Error.{Error}
use Rattle.sqlite.specs.Listing.{understood}
use Rattle.sqlite.specs.Clock.{timed}
use Rattle.sqlite.specs.Does.{Does}
use Rattle.sqlite.specs.State.{State as Seen, mode_of, Executes, ExecutesIn, IsNotRun, IsMisplaced, RunsCommand, IsUnchanged, Fails, text_of}
use Rattle.sqlite.proofs.Callers.{IsPlain, command_of, statement_of}
use Rattle.sqlite_schema.specs.declared.schema.Keys.{Keys}
use Rattle.sqlite.specs.Tree.{Trees}
use Rattle.sqlite.specs.Edit.{Edit, taken_by, IsRefused}
use Rattle.sqlite_rules.specs.declared.error.Refusal.{Refusal}
use Rattle.sqlite_rules.specs.Action.{works, Leads, Writes}
use Rattle.sqlite.specs.Rows.{Part, Then}
use Rattle.streetmap_rows.proofs.Resolving.{IsFit}

module _ (sql : List ℕ) (params : Row) (old new : Seen) (schema : Schema) (has : old.now.schema ≡ schema) (command : Command)
    (is : command_of (understood schema sql) ≡ command)
    (plain : IsPlain (understood schema sql)) (fit : IsFit sql (length params) (understood schema sql)) where
  abbrev pub IsRefusedAs : Error → Type 0
  IsRefusedAs e = (IsMisplaced old command e ⊎ Does old.step_limit (mode_of old) params old.now (statement_of sql (understood schema sql)) None command
      (Err (Some e))) × IsUnchanged old new

  pub refused_as : (e : Error) → Executes sql params old new (Err e) → IsRefusedAs e ⊎ ((too_big : Type 0) × Fails old new too_big e)
  unfolding ExecutesIn IsNotRun
  refused_as e (inl (inl ((inl missing), same))) = absurd (subst IsPlain (sym (ap (λ s. understood s sql) has) ∙ missing.1) plain)
  refused_as e (inl (inl ((inr other), same))) =
      let known = sym (ap (λ s. understood s sql) has) ∙ other.1 in
      let bare = subst IsPlain known plain in
      let fits = subst (IsFit sql (length params)) known fit in
      absurd (elim other.2 [ inl cut ↦ cut.0 fits.0 | inr more ↦ elim more [ inl few ↦ few.0 fits.1 | inr timeless ↦ timeless.0 bare.1 ] ])
  refused_as e (inl (inr failed)) = inr (⊥, failed)
  refused_as e (inr ran) =
      let known = sym (ap (λ s. understood s sql) has) ∙ ran.1.is in
      let bare = subst IsPlain known plain in
      let fits = subst (IsFit sql (length params)) known fit in
      let went : RunsCommand old new sql ran.0 (timed params ran.0.formats ran.1.now) (Err e) = rw fits.2 at ran.2 in
      let same : ran.0.command ≡ command = sym (ap command_of known) ∙ is in
      let text : text_of sql ran.0 ≡ statement_of sql (understood schema sql) = sym (ap (statement_of sql) known) in
      elim went [
        | inl refused ↦ inl (
          elim refused.0 [
            | inl misplaced ↦ inl (subst (λ k. IsMisplaced old k e) same misplaced)
            | inr done ↦ inr (subst₂ (λ k t. Does old.step_limit (mode_of old) params old.now t None k (Err (Some e))) same text
                (rw (bare.0, bare.1, append-nil params) at done.1))
          ],
          refused.1,
        )
        | inr failed ↦ inr (_, failed)
      ]

-- a part that stopped did so in its first step or in a later one
pub stopped : {A B : Type 0} (First : Part A) (Next : A → Part B) (s : Option Error) → Then First Next (Err s) →
    First (Err s) ⊎ ((a : A) × First (Ok a) × Next a (Err s))
stopped First Next s (inl early) = inl (subst (λ x. First (Err x)) (let e = early.2 in cc) early.1)
stopped First Next s (inr late) = inr late

-- if nothing follows, an edit is refused for its own rules or is too big
pub refused_step : (schema : Schema) (keys : Keys) (db : Trees) (edit : Edit) (why : Option Refusal) →
    works schema keys 0 edit.table.tree (taken_by db edit) edit.news ≡ []
    → Writes schema keys db edit (Err why) → ((r : Refusal) × IsRefused schema keys db edit r × (why ≡ Some r)) ⊎ (why ≡ None)
refused_step schema keys db edit why none (inl refused) = inl (refused.0, refused.1, let e = refused.2 in cc)
refused_step schema keys db edit why none (inr (inl big)) = inr (let e = big.3 in cc)
refused_step schema keys db edit why none (inr (inr went)) = absurd (never went.2.0 (rw none at went.2.1))
  where
    never : (n : ℕ) → Leads schema keys n went.0 [] (Err why) → ⊥
    never zero h = let e = h.1 in cc
    never (suc n) h = absurd (omega (arith, ap length h.2, length-append h.0 (h.1 ∷ [])))
