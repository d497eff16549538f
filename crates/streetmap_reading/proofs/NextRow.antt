-- What the next row of a query is, and its end.
use Rattle.std.proofs.Common.{◌≡◌, List, ℕ, [], ◌∷◌, ◌++◌, Option, None, Some, refl, sym, ap, subst, ◌∙◌, append-nil, append_assoc}
use Rattle.sqlite.specs.declared.error.Error.{Error}
use Rattle.sqlite.specs.Order.{Row}
use Rattle.sqlite.specs.Store.{Ghosts}
use Rattle.sqlite.specs.Command.TheVariants.{Select}
use Rattle.sqlite.specs.Effect.{Database, ReadsFirst}
use Rattle.sqlite.specs.Given.{HasGiven, Advances, FailsToAdvance}
use Rattle.sqlite.specs.Held.{Held, state}
use Rattle.sqlite.specs.State.{State as Seen, IsUnchanged, KeepsCommit}
use Rattle.sqlite.proofs.Callers.{reads_as, begins_as, given_begin}
use Rattle.streetmap_rows.specs.Failures.{IsOfStore, HasReason}
use Rattle.streetmap_reading.specs.Candidates.{ShowsOf}
use Rattle.streetmap_reading.proofs.QueryFails.{reported}

cancel : {A : Type 0} (xs ys zs : List A) → xs ++ ys ≡ xs ++ zs → ys ≡ zs
cancel [] ys zs e = e
cancel (x ∷ xs) ys zs e = cancel xs ys zs (let f : xs ++ ys ≡ xs ++ zs = cc in f)

module _ {S : Type 0} (g : Ghosts S) (old new : Held S) (sql : List ℕ) (params : Row) (done rest : List Row)
    (shows : ShowsOf sql params (state g old).now (done ++ rest)) (given : HasGiven g sql params old done) where
  pub at_end : (row : Option Row) → row ≡ None → Advances g old new row → rest ≡ []
  at_end row none moved =
      let shown = (subst (Advances g old new) none moved) sql params done given in
      let read = reads_as sql params (state g old) (state g new) old.schema refl (Select shows.program shows.names) shows.is shows.plain shows.unlisted done
      shown in
      cancel done rest [] (sym (append-nil done ∙ shows.answers done read))

  pub at_row : (row : Option Row) (r : Row) → row ≡ Some r → IsUnchanged (state g old) (state g new) → Advances g old new row → (later : List Row)
      × (rest ≡ r ∷ later) × HasGiven g sql params new (done ++ r ∷ [])
  at_row row r is same moved =
      let more : HasGiven g sql params new (done ++ r ∷ []) = (subst (Advances g old new) is moved) sql params done given in
      let begun = given_begin g sql params new (done ++ r ∷ []) more in
      let at : (state g new).now ≡ (state g old).now = same.0.now_is in
      let first : ReadsFirst (Select shows.program shows.names) (state g new).now params (done ++ r ∷ []) =
      begins_as sql params (state g new) (state g new) (state g old).now.schema (ap (λ (d : Database). d.schema) at) (Select shows.program shows.names) shows.is
      shows.plain shows.unlisted (done ++ r ∷ []) begun in
      let tail = shows.starts (done ++ r ∷ []) (subst (λ d. ReadsFirst (Select shows.program shows.names) d params (done ++ r ∷ [])) at first) in
      (tail.0, sym (cancel done (r ∷ tail.0) rest (sym (append_assoc done (r ∷ []) tail.0) ∙ tail.1)), more)

  pub at_fault : (e : Error) → (state g old).step_limit ≡ None → FailsToAdvance g old new e
      → IsOfStore e × HasReason (state g old) (state g new) e × KeepsCommit (state g old) (state g new)
  at_fault e limit fails = reported sql params (state g old) (state g new) _ shows limit e (fails sql params done given)

-- the rows that a query shows of a database that is unchanged
pub shows_still : (a b : Seen) (sql : List ℕ) (params : Row) (rows others : List Row) → IsUnchanged a b → rows ≡ others → ShowsOf sql params a.now rows →
    ShowsOf sql params b.now others
shows_still a b sql params rows others same is shows = subst (λ rs. ShowsOf sql params b.now rs) is
    (subst (λ d. ShowsOf sql params d rows) (sym same.0.now_is) shows)
