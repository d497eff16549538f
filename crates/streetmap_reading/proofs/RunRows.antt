-- What the statement of a run shows of the database of a state, and what is taken of it.
use Rattle.std.proofs.Common.{◌≡◌, List, [], ◌∷◌, ◌++◌, map, codes, Option, Some, None, Result, Ok, Err, MatchResult, refl, sym, subst, ◌∙◌}
use Rattle.std.specs.FinMap.{get, values}
use Rattle.std.specs.List.{AllByRecursion}
use Rattle.std.specs.Option.{option_and_then, option_copied}
use Rattle.sqlite.specs.Order.{Row}
use Rattle.sqlite.specs.Effect.{Database}
use Rattle.sqlite.specs.Listing.{understood}
use Rattle.sqlite.specs.State.{State as Seen, IsUnchanged}
use Rattle.sqlite.proofs.Callers.{IsPlain}
use Rattle.sqlite_rules.proofs.ListLemmas.{all_from, has_filtered}
use Rattle.streetmap_geojson.specs.FeatureValue.{FeatureValue}
use Rattle.streetmap_batch.specs.Text.{Text}
use Rattle.streetmap_ledger.specs.State.{State, Collection}
use Rattle.streetmap_ledger.specs.Pages.{is_between, run_of}
use Rattle.streetmap_rows.specs.Holds.{KeyPair}
use Rattle.streetmap_rows.specs.Rows.{feature_at}
use Rattle.streetmap_rows.specs.KeptStates.{Keeps}
use Rattle.streetmap_rows.specs.Stored.{IsStored}
use Rattle.streetmap_rows.specs.Tables.{features, features_name}
use Rattle.streetmap_rows.specs.declared.fault.ReadFault.{ReadFault}
use Rattle.streetmap_rows.proofs.NamedTables.{IsFound}
use Rattle.streetmap_rows.proofs.Resolving.{is_plain}
use Rattle.streetmap_rows.proofs.TablesInSchema as placing
use Rattle.streetmap_reading.specs.declared.run.FeatureRows.{FeatureRows}
use Rattle.streetmap_reading.specs.Candidates.{candidate_row, ShowsOf}
use Rattle.streetmap_reading.specs.FoldEffects.{TakesAll}
use Rattle.streetmap_reading.specs.Held.{HoldsRun, IsCandidate}
use Rattle.streetmap_reading.specs.Statements.{select_run}
use Rattle.streetmap_rows.specs.TableReads.{Stopped}
use Rattle.streetmap_reading.proofs.ChosenInOrder.{page_query, lists_chosen}
use Rattle.streetmap_reading.proofs.Compiles.{select_run_means, select_run_never}
use Rattle.streetmap_reading.proofs.Folded.{folded}
use Rattle.streetmap_reading.proofs.OneRowMore.{candidates_fine}
use Rattle.streetmap_reading.proofs.PageRowsShown.{shows_by, stored_one}
use Rattle.streetmap_reading.proofs.RowsInTurn.{ends_with, all_before, none_mapped}
use Rattle.streetmap_reading.proofs.TermsChoose.{run_terms, run_params, run_chooses}

module _ (db : Database) (s : State) (keeps : Keeps s db) where
  in_features : IsFound db.schema features_name (features keeps.rows.roots.features)
  in_features = placing.features_found keeps.rows.roots db keeps.rows.ours keeps.rows.sound

  -- a feature of a state is under its own id
  placed : (p : KeyPair) (f : FeatureValue) → feature_at s p ≡ Some f → f.id ≡ p.1
  placed p f is = go (get s.collections p.0) refl is
    where
      go : (o : Option Collection) → get s.collections p.0 ≡ o → option_and_then (λ (c : Collection). get c.features p.1) o ≡ Some f → f.id ≡ p.1
      go None at found = absurd (cc)
      go (Some c) at found = ((keeps.well.made p.0 c at).holds p.1 f found).named

  pub run_plain : IsPlain (understood db.schema select_run)
  run_plain = is_plain db.schema select_run 3 _ (select_run_means db.schema keeps.rows.roots.features in_features)

  module _ (name : Text) (c : Collection) (collected : get s.collections name ≡ Some c) (first last : Text) where
    pub run_at : ShowsOf select_run (run_params name first last) db (map candidate_row (run_of first last c))
    run_at = shows_by select_run (run_params name first last) db (page_query keeps.rows.roots.features run_terms) (codes "body" ∷ []) _
        (select_run_means db.schema keeps.rows.roots.features in_features) (select_run_never db.schema keeps.rows.roots.features in_features db.trees name first
        last)
        (λ given a. lists_chosen s keeps.rows.roots db.trees keeps.rows.of name c.features (λ q. sym (rw collected refl)) run_terms (run_params name first last)
        (is_between first last) (run_chooses s placed name first last) in_features.low given a)

    pub run_stored : AllByRecursion (IsStored c.time) (run_of first last c)
    run_stored = all_from _ (run_of first last c) (λ f h. stored_one s db keeps name c collected f
        (has_filtered (is_between first last) (values c.features) f h).0)

-- ---- the rows of a run, one after the other

-- what reads under the time property of the run as it was begun reads so under that of the run
pub run_reads : (start now : FeatureRows) (rows : List Row) → HoldsRun start now rows → (f : FeatureValue) → IsStored (option_copied start.property) f →
    IsStored (option_copied now.property) f
run_reads start now rows held f fine = subst (λ p. IsStored (option_copied p) f) (sym held.property) fine

-- a run as it was begun
pub run_begun : (run : FeatureRows) → HoldsRun run run []
run_begun run = record { property = refl; features = λ fs none is fine. none ∙ sym (none_mapped candidate_row fs is) }

-- a run with one more feature
pub run_more : (start before after : FeatureRows) (feature : FeatureValue) (rows : List Row) (row : Row) → HoldsRun start before rows → after.property
    ≡ before.property → after.features.items ≡ before.features.items ++ feature ∷ []
    → ((f : FeatureValue) → row ≡ candidate_row f → IsStored (option_copied before.property) f → feature ≡ f)
    → HoldsRun start after (rows ++ row ∷ [])
run_more start before after feature rows row held same more reads = record {
  property = same ∙ held.property;
  features = λ fs none is fine.
      let end = ends_with candidate_row rows row fs is in
      let all = all_before (IsStored (option_copied start.property)) end.before end.last
      (subst (AllByRecursion (IsStored (option_copied start.property))) end.is fine) in
      let front : before.features.items ≡ end.before = held.features end.before none end.rest all.0 in
      let last : feature ≡ end.last = reads end.last end.same (run_reads start before rows held end.last all.1) in
      more ∙ (λ i. front i ++ last i ∷ []) ∙ sym end.is;
}

-- ---- all rows of a run

-- the rows of the features with ids between two are taken
pub runs_by : (name first last : Text) (old new : Seen) (before after : FeatureRows) (r : Result (Unit {0}) ReadFault)
    → TakesAll HoldsRun (λ start. AllByRecursion (IsCandidate (option_copied start.property))) select_run (run_params name first last) before after old new r →
    before.features.items ≡ []
    → (s : State) (c : Collection) → old.step_limit ≡ None → Keeps s old.now → get s.collections name ≡ Some c → c.time ≡ option_copied before.property
    → MatchResult r (λ _. (after.features.items ≡ run_of first last c) × IsUnchanged old new) (Stopped old new)
runs_by name first last old new before after r all none s c limit keeps there property =
    go r (folded HoldsRun (λ start. AllByRecursion (IsCandidate (option_copied start.property))) select_run (run_params name first last) old new before after
    (map candidate_row fs) (run_at old.now s keeps name c there first last) limit (candidates_fine (option_copied before.property) fs stored) r all
    (run_begun before))
  where
    fs : List FeatureValue
    fs = run_of first last c

    stored : AllByRecursion (IsStored (option_copied before.property)) fs
    stored = subst (λ p. AllByRecursion (IsStored p) fs) property (run_stored old.now s keeps name c there first last)

    go : (r : Result (Unit {0}) ReadFault) → MatchResult r (λ _. HoldsRun before after (map candidate_row fs) × IsUnchanged old new) (Stopped old new)
        → MatchResult r (λ _. (after.features.items ≡ fs) × IsUnchanged old new) (Stopped old new)
    go (Ok u) h = (h.0.features fs none refl stored, h.1)
    go (Err fault) h = h
