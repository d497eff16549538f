-- What a query that leaves a connection as it is shows of another with the same database.
use Rattle.std.proofs.Common.{◌≡◌, inl, inr, ℕ, ◌+◌, List, [], Bool, true, false, if◌then◌else◌, Ok, Err, Option, None, Result, IsTrue, IsSome, refl, sym, ap}
use Rattle.std.proofs.Common.{subst, ◌∙◌}
use Rattle.std.proofs.lemmas.Bool.{cases_Bool}
use Rattle.sqlite.specs.Schema.{Schema}
use Rattle.sqlite.specs.Command.{Command}
use Rattle.sqlite.specs.Order.{Row}
use Rattle.sqlite.specs.Effect.{Database, RefusesToRead}
use Rattle.sqlite.specs.Clock.{timed as timed_with}
use Rattle.sqlite.specs.State.{State as Seen, IsUnchanged, IsStatement, ShowsRows, Shown, IsNotRun, FailsToShow, FailsToQuery, IsTooLate}
use Rattle.sqlite.specs.Listing.{understood, reads_listing, if_select, is_select, listing_schema, IsSourceOf}
use Rattle.sqlite.specs.declared.error.Error.{Error}
use Rattle.sqlite_schema.specs.declared.command.Returning.{Returning}
use Rattle.sqlite_syntax.specs.declared.statement.Parsed.{Parsed}
use Rattle.sqlite_resolve.specs.Compile.{first, meaning, planned, compiled, command, timed, returning, small, with_command}
use Rattle.sqlite_resolve.specs.Lowering.{Checked, and_then}
use Rattle.sqlite_resolve.specs.declared.compiled.Compiled.{Compiled}
use Rattle.sqlite_resolve.specs.declared.error.CompileError.{CompileError}
use Rattle.sqlite_resolve.specs.declared.error.CompileError.TheVariants.{NoSuchTable}
use Rattle.streetmap_rows.specs.Failures.{IsOfStore}
use Rattle.streetmap_rows.proofs.Meaning.{Selection, IsSelect, reads_select}
use Rattle.streetmap_rows.proofs.StoreErrors.{failure_is}

-- a text that is read as one statement without RETURNING, which does not read the time
pub record IsBare (text : List ℕ) : Type 0 where
  pub parsed : Parsed
  pub is : first text ≡ Ok parsed
  pub none : (schema : Schema) (base : ℕ) → returning schema base parsed.statement ≡ Ok None
  pub untimed : (schema : Schema) → timed schema parsed.formats parsed.statement ≡ []

-- a SELECT from one table is such a text
pub select_bare : (s : Selection) → IsSelect s → IsBare s.text
unfolding returning timed
select_bare s it =
    let read = reads_select s it in
    record {
      parsed = read.parsed;
      is = read.is;
      none = λ schema base. rw read.statement_is refl;
      untimed = λ schema. rw (read.statement_is, read.plain) refl;
    }

abbrev Planned : Type 0
Planned = List (List ℕ) × (Command × Option Returning)

module _ (text : List ℕ) (it : IsBare text) where
  abbrev Plain : Compiled → Type 0
  Plain c = (c.returning ≡ None) × (c.formats ≡ [])

  planned_plain : (schema : Schema) (plan : Planned) → planned schema it.parsed ≡ Ok plan → (plan.1.1 ≡ None) × (plan.0 ≡ [])
  unfolding planned meaning
  planned_plain schema plan h =
      let base = small it.parsed.names + small [] in
      go (command schema it.parsed.formats base it.parsed.statement) (rw (it.untimed schema, it.none schema base) at h)
    where
      go : (r : Checked Command) → and_then (and_then r (λ c. Ok (c, None))) (λ found. Ok ([], found)) ≡ Ok plan → (plan.1.1 ≡ None) × (plan.0 ≡ [])
      go (Ok c) e = let same : ([], (c, None)) ≡ plan = cc in (ap (λ (p : Planned). p.1.1) (sym same), ap (λ (p : Planned). p.0) (sym same))
      go (Err why) e = absurd (cc)

  compiled_plain : (schema : Schema) (c : Compiled) → compiled schema text ≡ Ok c → Plain c
  unfolding compiled
  compiled_plain schema c h = go (planned schema it.parsed) refl (rw it.is at h)
    where
      go : (r : Checked Planned) → planned schema it.parsed ≡ r → and_then r (λ plan. Ok (with_command it.parsed plan)) ≡ Ok c → Plain c
      go (Ok plan) at e =
          let same : with_command it.parsed plan ≡ c = cc in
          let p = planned_plain schema plan at in
          (ap (λ (x : Compiled). x.returning) (sym same) ∙ p.0, ap (λ (x : Compiled). x.formats) (sym same) ∙ p.1)
      go (Err why) at e = absurd (cc)

  pub query_plain : (schema : Schema) (c : Compiled) → understood schema text ≡ Ok c → Plain c
  unfolding understood
  query_plain schema c h = elim (cases_Bool (reads_listing schema text)) [
    | inl listed ↦ lists (compiled listing_schema text) refl (rw listed at h)
    | inr other ↦ compiled_plain schema c (rw other at h)
  ]
    where
      picked : (b : Bool) (k : Compiled) → ◌≡◌ {A = Result Compiled CompileError} (if b then Ok k else Err NoSuchTable) (Ok c) → k ≡ c
      picked true k e = cc
      picked false k e = absurd (cc)

      lists : (r : Result Compiled CompileError) → compiled listing_schema text ≡ r → if_select r ≡ Ok c → Plain c
      lists (Ok k) at e = subst Plain (picked (is_select k.command) k e) (compiled_plain listing_schema k at)
      lists (Err why) at e = absurd (cc)

  -- a query leaves a connection as it was
  pub leaves_unchanged : (params : Row) (old new : Seen) (rows : List Row)
      → Shown text params old new rows → IsUnchanged old new
  unfolding Shown
  leaves_unchanged params old new rows h = (subst (ShowsRows old new text h.0 _ rows) (query_plain old.now.schema h.0 h.1.is).0 h.2).3

  -- ---- of one connection as of another with the same database

  module _ (mid end old : Seen) (same : mid.now ≡ old.now) where
    still : IsTrue old.is_open → IsUnchanged old old
    still live = (
      record { was_open = live; is_open = live; now_is = refl; committed_is = refl; mode = refl },
      record { changes = refl; last_rowid = refl },
      refl,
    )

    here : (c : Compiled) → IsStatement mid text [] c → IsStatement old text [] c
    here c h = record { is = subst (λ (d : Database). understood d.schema text ≡ Ok c) same h.is; whole = h.whole; given = h.given; now = h.now }

    source : (db : Database) → IsSourceOf (reads_listing mid.now.schema text) mid.now db → IsSourceOf (reads_listing old.now.schema text) old.now db
    source db h = subst (λ (d : Database). IsSourceOf (reads_listing d.schema text) d db) same h

    pub was_unchanged : (rows : List Row) → Shown text [] mid end rows → IsUnchanged mid end
    unfolding Shown
    was_unchanged rows h = (subst (ShowsRows mid end text h.0 _ rows) (query_plain mid.now.schema h.0 h.1.is).0 h.2).3

    pub shown_there : (rows : List Row) → Shown text [] mid end rows → IsTrue old.is_open → Shown text [] old old rows
    unfolding Shown here
    shown_there rows h live =
        let none = (query_plain mid.now.schema h.0 h.1.is).0 in
        let full = timed_with [] h.0.formats h.1.now in
        let was = subst (ShowsRows mid end text h.0 full rows) none h.2 in
        (h.0, here h.0 h.1, subst (ShowsRows old old text h.0 full rows) (sym none) (was.0, source was.0 was.1, was.2, still live))

    module _ (limit : mid.step_limit ≡ old.step_limit) (e : Error) (other : IsOfStore e → ⊥) where
      pub fails_there : FailsToQuery text [] mid end e → (IsTrue mid.is_open → IsTrue old.is_open) → FailsToQuery text [] old old e
      unfolding FailsToQuery IsNotRun here
      fails_there (inl (inl none)) live = inl (inl (rw same at none.0, still (live none.1.0.was_open)))
      fails_there (inl (inr failed)) live = absurd (other (failure_is e failed.0 failed.1))
      fails_there (inr h) live =
          let none = (query_plain mid.now.schema h.0 h.1.is).0 in
          let full = timed_with [] h.0.formats h.1.now in
          let was = subst (FailsToShow mid end text h.0 full e) none h.2 in
          inr (
            h.0,
            here h.0 h.1,
            subst (FailsToShow old old text h.0 full e) (sym none)
                (was.0, source was.0 was.1, subst (λ l. RefusesToRead l h.0.command was.0 full e) limit was.2, still (live was.3.0.was_open)),
          )

      pub not_too_late : IsTooLate text [] mid end e → ⊥
      not_too_late h = absurd (let some = subst IsSome (query_plain mid.now.schema h.0 h.1.is).0 h.2 in cc)
