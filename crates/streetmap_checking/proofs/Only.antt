-- What a query that no rule refuses shows of a database, if all that it may show is good.
use Rattle.std.proofs.Common.{◌≡◌, inl, inr, ℕ, List, [], ◌++◌, length, false, None, refl, sym, ap, subst, ◌∙◌, append-nil}
use Rattle.sqlite.specs.declared.error.Error.{Error}
use Rattle.sqlite.specs.declared.types.Value.TheVariants.{Null}
use Rattle.sqlite.specs.Order.{Row}
use Rattle.sqlite.specs.Query.{Query, IsAnswerAs}
use Rattle.sqlite.specs.Program.{overlay}
use Rattle.sqlite.specs.Command.TheVariants.{Select}
use Rattle.sqlite.specs.Clock.{timed}
use Rattle.sqlite.specs.Given.{IsPlain}
use Rattle.sqlite.specs.Listing.{understood, reads_listing, IsSourceOf}
use Rattle.sqlite.specs.Effect.{Database, ReadsFirst, Reads, RefusesQuery, RefusesToRead}
use Rattle.sqlite.specs.State.{State as Seen, IsNotRun, FailsToQuery, FailsToShow}
use Rattle.sqlite.proofs.Callers.{command_of, reads_as, begins_as}
use Rattle.sqlite_schema.specs.declared.program.Program.{Program}
use Rattle.streetmap_rows.specs.Failures.{IsOfStore}
use Rattle.streetmap_rows.specs.Queries.{program}
use Rattle.streetmap_rows.proofs.StoreErrors.{failure_is}
use Rattle.streetmap_rows.proofs.Resolving.{Means, command_is, is_plain, is_whole, unlisted}
use Rattle.streetmap_reading.specs.Candidates.{IsOneStatement, ShowsOf}
use Rattle.streetmap_reading.specs.ShownQueries.{QueryShows}
use Rattle.streetmap_checking.specs.QueryResults.{IsNotShown, is_refused, begins_badly, not_good}

-- the text is a query of this database that no rule refuses, and what it may show is good
pub record OnlyShows (sql : List ℕ) (params : Row) (db : Database) (Good : List Row → Type 0) : Type 0 where
  pub plain : IsPlain (understood db.schema sql)
  pub unlisted : reads_listing db.schema sql ≡ false
  pub program : Program
  pub names : List (List ℕ)
  pub is : command_of (understood db.schema sql) ≡ Select program names
  pub whole : IsOneStatement sql params (understood db.schema sql)
  pub starts : (given : List Row) → ReadsFirst (Select program names) db params given → (tail : List Row) × Good (given ++ tail)
  pub answers : (given : List Row) → Reads (Select program names) db params given → Good given
  pub never : (e : Error) → RefusesQuery None db program params e → ⊥

pub only_of : (sql : List ℕ) (params : Row) (db : Database) (rows : List Row) → ShowsOf sql params db rows → OnlyShows sql params db (λ given. given ≡ rows)
only_of sql params db rows h = record {
  plain = h.plain;
  unlisted = h.unlisted;
  program = h.program;
  names = h.names;
  is = h.is;
  whole = h.whole;
  starts =
      h.starts;
  answers = h.answers;
  never = h.never;
}

pub only_by : (sql : List ℕ) (params : Row) (db : Database) (q : Query) (names : List (List ℕ)) (Good : List Row → Type 0) →
    Means db.schema sql (length params) (Select (program q) names)
    → ((e : Error) → RefusesQuery None db (program q) params e → ⊥) → ((given : List Row) → IsAnswerAs Null q (overlay db.trees []) params given → Good given) →
    OnlyShows sql params db Good
only_by sql params db q names Good it never only = record {
  plain = is_plain db.schema sql (length params) _ it;
  unlisted = unlisted db.schema sql (length params) _ it;
  program = program q;
  names = names;
  is = command_is db.schema sql (length params) _ it;
  whole = is_whole db.schema sql (length params) _ it;
  starts = λ given h. (h.1.0, only (given ++ h.1.0) (h.1.1 Null));
  answers = λ given h. only given (h.answer Null);
  never = never;
}

module _ (sql : List ℕ) (params : Row) (old : Seen) (Good : List Row → Type 0) (shows : OnlyShows sql params old.now Good) (limit : old.step_limit ≡ None) where
  of_store : (e : Error) → FailsToQuery sql params old old e → IsOfStore e
  unfolding FailsToQuery IsNotRun
  of_store e (inl (inl ((inl missing), same))) = absurd (subst IsPlain missing.1 shows.plain)
  of_store e (inl (inl ((inr other), same))) =
      let bare = subst IsPlain other.1 shows.plain in
      let fits = subst (IsOneStatement sql params) other.1 shows.whole in
      absurd (elim other.2 [ inl cut ↦ cut.0 fits.0 | inr more ↦ elim more [ inl few ↦ few.0 fits.1 | inr timeless ↦ timeless.0 bare.1 ] ])
  of_store e (inl (inr failed)) = failure_is e failed.0 failed.1
  of_store e (inr h) =
      let at = h.1.is in
      let bare = subst IsPlain at shows.plain in
      let it = subst (FailsToShow old old sql h.0 (timed params h.0.formats h.1.now) e) bare.0 h.2 in
      let db : it.0 ≡ old.now = subst (λ b. IsSourceOf b old.now it.0) shows.unlisted it.1 in
      let same : h.0.command ≡ Select shows.program shows.names = sym (ap command_of at) ∙ shows.is in
      let full : timed params h.0.formats h.1.now ≡ params = rw (bare.1, append-nil params) in
      let one : RefusesQuery old.step_limit it.0 shows.program (timed params h.0.formats h.1.now) e =
      subst (λ k. RefusesToRead old.step_limit k it.0 (timed params h.0.formats h.1.now) e) same it.2 in
      let two = subst (λ d. RefusesQuery old.step_limit d shows.program (timed params h.0.formats h.1.now) e) db one in
      let three = subst (λ q. RefusesQuery old.step_limit old.now shows.program q e) full two in
      absurd (shows.never e (subst (λ l. RefusesQuery l old.now shows.program params e) limit three))

  pub sees_good : (rows : List Row) → QueryShows sql params old rows → Good rows
  sees_good rows h = shows.answers rows (reads_as sql params old old old.now.schema refl (Select shows.program shows.names) shows.is shows.plain shows.unlisted
      rows h)

  -- so it shows good rows
  pub not_none : IsNotShown sql params Good old → ⊥
  not_none (is_refused h) = h.1 (of_store h.0 h.2)
  not_none (begins_badly rows given none) =
      let first = begins_as sql params old old old.now.schema refl (Select shows.program shows.names) shows.is shows.plain shows.unlisted rows given in
      let tail = shows.starts rows first in
      none tail.0 tail.1
  not_none (not_good rows shown bad) = bad (sees_good rows shown)

-- what is so of better rows
pub only_so : (sql : List ℕ) (params : Row) (db : Database) (Good Fair : List Row → Type 0) → ((rows : List Row) → Good rows → Fair rows) →
    OnlyShows sql params db Good → OnlyShows sql params db Fair
only_so sql params db Good Fair so h = record {
  plain = h.plain;
  unlisted = h.unlisted;
  program = h.program;
  names = h.names;
  is = h.is;
  whole = h.whole;
  starts = λ given first. let t = h.starts given first in (t.0, so (given ++ t.0) t.1);
  answers = λ given read. so given (h.answers given read);
  never = h.never;
}
