-- The statements of a check have no RETURNING and do not read the time.
use Rattle.std.proofs.Common.{◌≡◌, ℕ, List, IsSome, subst}
use Rattle.sqlite.specs.Order.{Row}
use Rattle.sqlite.specs.Schema.{Schema}
use Rattle.sqlite.specs.Held.{Held, state}
use Rattle.sqlite.specs.Store.{Ghosts}
use Rattle.sqlite.specs.State.{State as Seen, HasCleanDisk, Survives, CommitsShowing}
use Rattle.sqlite.proofs.StateLemmas.{survives_weaker}
use Rattle.sqlite_trees.specs.Tree.{Trees}
use Rattle.streetmap_rows.proofs.Meaning.{Selection, IsSelect}
use Rattle.streetmap_rows.proofs.Compiles.{selects_collections, select_collections_is}
use Rattle.streetmap_rows.specs.Statements.{select_collections}
use Rattle.streetmap_rows.specs.TableReads.{Queries}
use Rattle.streetmap_rows.proofs.SameDatabase.{select_bare, query_plain}
use Rattle.streetmap_reading.specs.ShownQueries.{IsSimpleIn}
use Rattle.streetmap_checking.proofs.Compiles.{selects_formats, select_formats_is}
use Rattle.streetmap_checking.proofs.Compiles.{selects_features, select_features_is}
use Rattle.streetmap_checking.proofs.Compiles.{selects_owners, select_owners_is}
use Rattle.streetmap_checking.proofs.Compiles.{selects_batches, select_batches_is}
use Rattle.streetmap_checking.specs.Statements as text

-- whatever the tables are
abbrev pub IsSimpleQuery : List ℕ → Type 0
IsSimpleQuery sql = (schema : Schema) → IsSimpleIn schema sql

-- such a query commits nothing
module _ (sql : List ℕ) (params : Row) (simple : IsSimpleQuery sql) where
  no_commit : (s : Seen) (db : Trees) → CommitsShowing sql params s db → ⊥
  unfolding CommitsShowing
  no_commit s db h =
      absurd (let some = subst IsSome (simple s.now.schema h.0 h.1.is).0 h.2 in cc)

  commits_nothing : (old new : Seen) → Survives old new (CommitsShowing sql params old)
      → Survives old new (λ _. ⊥)
  commits_nothing old new survives =
      survives_weaker old new (CommitsShowing sql params old) (λ _. ⊥)
      (λ clean db h. no_commit old db h) survives

  -- what it means is read of it
  pub query_so : {S A B : Type 0} {g : Ghosts S} {M : Seen → Seen → A → Type 0}
      {N : Seen → Seen → B → Type 0} {old new : Held S} {q : A} {r : B}
      → Queries g M (CommitsShowing sql params) old new q
      → (HasCleanDisk (state g new) → N (state g old) (state g new) r)
      → Queries g N (λ _ _. ⊥) old new r
  query_so {g = g} {old = old} {new = new} query means = record {
    shows = means;
    mode = query.mode;
    survives = commits_nothing (state g old) (state g new) query.survives;
  }

simple : (s : Selection) → IsSelect s → IsSimpleQuery s.text
simple s it = query_plain s.text (select_bare s it)

pub formats_simple : IsSimpleQuery text.select_formats
formats_simple = simple selects_formats select_formats_is

pub features_simple : IsSimpleQuery text.select_features
features_simple = simple selects_features select_features_is

pub owners_simple : IsSimpleQuery text.select_owners
owners_simple = simple selects_owners select_owners_is

pub batches_simple : IsSimpleQuery text.select_batches
batches_simple = simple selects_batches select_batches_is

pub collections_simple : IsSimpleQuery select_collections
collections_simple = simple selects_collections select_collections_is
