-- What the statement of one feature shows of the database of a state.
use Rattle.std.proofs.Common.{◌≡◌, inl, inr, Result, MatchResult, Ok, Err, List, [], ◌∷◌, codes}
use Rattle.std.proofs.Common.{find, filter, Option, IfSome, Bool, true, false, ◌&&◌, cond}
use Rattle.std.proofs.Common.{Some, None, option_map, refl, sym, ap, ◌∙◌, ℤ, ◌<◌, length, arith}
use Rattle.std.proofs.Common.{subst}
use Rattle.std.specs.FinMap.{get}
use Rattle.std.specs.List.{list_all}
use Rattle.std.specs.Option.{option_and_then, option_to_list}
use Rattle.std.proofs.lemmas.Bool.{cases_Bool}
use Rattle.sqlite.specs.declared.types.Value.TheVariants.{Null, Int, Text as Words}
use Rattle.sqlite.specs.Order.{Row, column}
use Rattle.sqlite.specs.Values.{or_null}
use Rattle.sqlite.specs.Term.{Term, col, holds}
use Rattle.sqlite_sql.specs.Term.{eval_all}
use Rattle.sqlite_rules.specs.Lists.{Has}
use Rattle.sqlite.specs.Effect.{Database}
use Rattle.sqlite.specs.State.{State as Seen, IsUnchanged}
use Rattle.streetmap_geojson.specs.FeatureValue.{FeatureValue}
use Rattle.streetmap_moment.specs.IntervalValue.{IntervalValue}
use Rattle.streetmap_moment.specs.Meeting.{seconds_of}
use Rattle.streetmap_batch.specs.Text.{Text}
use Rattle.streetmap_ledger.specs.State.{State, Collection}
use Rattle.streetmap_ledger.specs.Pages.{feature_in}
use Rattle.streetmap_rows.specs.Holds.{KeyPair, pair_key, has_pair}
use Rattle.streetmap_rows.specs.Queries.{over}
use Rattle.streetmap_rows.proofs.NamedTables.{IsFound}
use Rattle.streetmap_rows.proofs.Drafts.{equal_terms}
use Rattle.streetmap_rows.proofs.OneRowChosen.{chosen, shown_as, staged}
use Rattle.streetmap_rows.proofs.OrderedRows.{if_passes}
use Rattle.streetmap_rows.proofs.HeldKeys.{filter_one}
use Rattle.streetmap_rows.proofs.TextKeys.{pair_is, pair_self, column_later}
use Rattle.streetmap_rows.specs.KeptStates.{Keeps}
use Rattle.streetmap_rows.specs.Rows.{AreOf, feature_cells, feature_text, seconds_in}
use Rattle.streetmap_reading.specs.Statements.{select_text, select_text_at}
use Rattle.streetmap_rows.specs.Tables.{Roots, features, features_name}
use Rattle.streetmap_rows.proofs.Compiles.{both}
use Rattle.streetmap_reading.proofs.Compiles.{select_text_means, select_text_never}
use Rattle.streetmap_reading.proofs.Compiles.{select_text_at_means, select_text_at_never}
use Rattle.streetmap_rows.proofs.Deleting.{both_is, keys_of}
use Rattle.streetmap_rows.proofs.TablesInSchema as placing
use Rattle.streetmap_rows.specs.declared.fault.ReadFault.{ReadFault}
use Rattle.streetmap_rows.specs.declared.fault.ReadFault.TheVariants.{Memory}
use Rattle.streetmap_reading.specs.Candidates.{dated_row, ShowsOf}
use Rattle.streetmap_reading.specs.ReadResults.{IsTextRowIfFound}
use Rattle.streetmap_rows.specs.Stored.{IsStored}
use Rattle.streetmap_rows.specs.TableReads.{Stopped}
use Rattle.streetmap_reading.proofs.PageRowsShown.{shows_by}

-- ---- a row that passes two tests, of which one alone is passed by one row at most

filter_both : (p q : Row → Bool) (rows : List Row) → filter (λ r. p r && q r) rows ≡ filter p (filter q rows)
filter_both p q [] = refl
filter_both p q (r ∷ rows) = elim (cases_Bool (q r)) [
  | inl on ↦ elim (cases_Bool (p r)) [
    | inl also ↦ rw (on, also, filter_both p q rows)
    | inr off ↦ rw (on, off, filter_both p q rows)
  ]
  | inr off ↦ rw (off, filter_both p q rows) (last (p r))
]
  where
    last : (b : Bool) → cond (b && false) (r ∷ filter p (filter q rows)) (filter p (filter q rows)) ≡ filter p (filter q rows)
    last true = refl
    last false = refl

filter_option : (p : Row → Bool) (o : Option Row) → filter p (option_to_list o) ≡ option_to_list (if_passes p o)
filter_option p None = refl
filter_option p (Some r) = elim (p r) as (λ b. cond b (r ∷ []) [] ≡ option_to_list (cond b (Some r) None)) [
  | true ↦ refl
  | false ↦ refl
]

-- what is shown of a row that passes is what is shown of the row
shown_if : (p : Row → Bool) (view : Row → Row) (o x : Option Row) → option_map view o ≡ x → IfSome (option_map view (if_passes p o)) (λ row. Some row ≡ x)
shown_if p view None x is = tt
shown_if p view (Some r) x is = elim (p r) as (λ b. IfSome (option_map view (cond b (Some r) None)) (λ row. Some row ≡ x)) [
  | true ↦ is
  | false ↦ tt
]

module _ (db : Database) (s : State) (keeps : Keeps s db) (name id : Text) where
  abbrev roots : Roots
  roots = keeps.rows.roots

  abbrev of : AreOf s roots db.trees
  of = keeps.rows.of

  abbrev key : KeyPair
  key = (name, id)

  in_features : IsFound db.schema features_name (features roots.features)
  in_features = placing.features_found roots db keeps.rows.ours keeps.rows.sound

  abbrev all_rows : List Row
  all_rows = db.trees roots.features

  abbrev found : Option Row
  found = find (has_pair key) all_rows

  one_found : filter (has_pair key) all_rows ≡ option_to_list found
  one_found = filter_one pair_key has_pair pair_is pair_self _ all_rows of.features key

  abbrev text_terms : List Term
  text_terms = col 1 3 ∷ col 1 8 ∷ []

  abbrev shown : Row → Row → Row
  shown params r = eval_all text_terms (params ∷ r ∷ [])

  shown_is : (params : Row) → option_map (shown params) found ≡ option_map dated_row (feature_in s name id)
  shown_is params = shown_as (feature_cells key) dated_row (shown params) found (feature_in s name id) (of.features.found key) (λ r f same.
      let text = column_later r 2 ∙ ap (λ x. column x 2) same in
      let start = column_later r 7 ∙ ap (λ x. column x 7) same in
      λ i. text i ∷ start i ∷ [])

  -- the row of a feature
  pub text_at : ShowsOf select_text (keys_of key) db (option_to_list (option_map dated_row (feature_in s name id)))
  text_at = shows_by select_text (keys_of key) db (over roots.features both text_terms) (codes "body" ∷ codes "s0" ∷ []) _
      (select_text_means db.schema roots.features in_features) (select_text_never db.schema roots.features in_features db.trees name id)
      (λ rows a. chosen db.trees roots.features both text_terms (keys_of key) (staged db.trees roots.features both (keys_of key) in_features.low) (has_pair key)
      (both_is s roots db.trees of key) found one_found rows a
      ∙ ap option_to_list (shown_is (keys_of key)))

  -- ---- the row of a feature, if it has this rowid

  module _ (rowid : ℤ) where
    abbrev pub params : Row
    params = Words name ∷ Words id ∷ Int rowid ∷ []

    abbrev tests : List Term
    tests = equal_terms (col 1 0) (col 0 2) ∷ both

    abbrev has_rowid : Row → Bool
    has_rowid r = holds (params ∷ r ∷ []) (equal_terms (col 1 0) (col 0 2))

    passes : (r : Row) → Has all_rows r → list_all (holds (params ∷ r ∷ [])) tests ≡ (has_rowid r && has_pair key r)
    passes r h = ap (λ b. has_rowid r && b) (both_is s roots db.trees of key r h)

    pub row_at : Option Row
    row_at = option_map (shown params) (if_passes has_rowid found)

    pub text_at_rowid : ShowsOf select_text_at params db (option_to_list row_at)
    unfolding row_at
    text_at_rowid = shows_by select_text_at params db (over roots.features tests text_terms) (codes "body" ∷ codes "s0" ∷ []) _
        (select_text_at_means db.schema roots.features in_features) (select_text_at_never db.schema roots.features in_features db.trees name id rowid)
        (λ rows a. chosen db.trees roots.features tests text_terms params (staged db.trees roots.features tests params in_features.low)
        (λ r. has_rowid r && has_pair key r) passes (if_passes has_rowid found)
        (filter_both has_rowid (has_pair key) all_rows ∙ ap (filter has_rowid) one_found ∙ filter_option has_rowid found) rows a)

    -- a row that is shown is that of the feature
    pub row_at_is : IsTextRowIfFound name id s row_at
    unfolding row_at
    row_at_is = shown_if has_rowid (shown params) found _ (shown_is params)

  -- a feature of a state has the time that its collection's property gives
  pub stored_at : (c : Collection) → get s.collections name ≡ Some c → (f : FeatureValue) → feature_in s name id ≡ Some f → IsStored c.time f
  stored_at c there f is =
      let under : get c.features id ≡ Some f = sym (ap (option_and_then (λ (d : Collection). get d.features id)) there) ∙ is in
      record { kept = keeps.rows.readable.features key f is; timed = ((keeps.well.made name c there).holds id f under).timed }

-- ---- reads, one after the other

pub text_is : (o : Option FeatureValue) (row : Row) → Some row ≡ option_map dated_row o → (f : FeatureValue) × (o ≡ Some f) × (row ≡ dated_row f)
text_is None row e = absurd (cc)
text_is (Some f) row e = (f, refl, let same : row ≡ dated_row f = cc in same)

pub no_text : (o : Option FeatureValue) → None ≡ option_map dated_row o → o ≡ None
no_text None e = refl
no_text (Some f) e = absurd (cc)

pub if_found : (name id : Text) (s : State) (a b : Seen) (o : Option Row) (r : Result (Option Row) ReadFault) → IsTextRowIfFound name id s o →
    MatchResult r (λ row. (row ≡ o) × IsUnchanged a b) (Stopped a b) → MatchResult r (λ row. IsTextRowIfFound name id s row × IsUnchanged a b) (Stopped a b)
if_found name id s a b o (Ok row) is h = (subst (IsTextRowIfFound name id s) (sym h.0) is, h.1)
if_found name id s a b o (Err e) is h = h

-- ---- the row of a feature

pub some_cell : (f : FeatureValue) (row : Row) → row ≡ dated_row f → 0 < length row
some_cell f row is = subst (λ r. 0 < length r) (sym is) (omega arith)

pub text_first : (f : FeatureValue) (row : Row) → row ≡ dated_row f → column row 0 ≡ Words (feature_text f)
text_first f row is = ap (λ r. column r 0) is

no_second : (t : Option IntervalValue) → or_null Int (option_map (λ (p : ℤ × ℤ). p.0) (option_map seconds_of t)) ≡ Null → t ≡ None
no_second None e = refl
no_second (Some i) e = absurd (cc)

-- a feature has a time if it has a first second
pub null_is : (f : FeatureValue) (row : Row) → row ≡ dated_row f → column row 1 ≡ Null → f.time ≡ None
unfolding seconds_in
null_is f row is null = no_second f.time (sym (ap (λ r. column r 1) is) ∙ null)

-- a feature without a time is the same under any time property
pub timeless : (property : Option Text) (f : FeatureValue) → IsStored property f → f.time ≡ None → IsStored None f
timeless property f h none = record { kept = h.kept; timed = ap Ok (sym none) }

pub read_on : (a b : Seen) (f : FeatureValue) (r : Result FeatureValue ReadFault) → IsUnchanged a b
    → MatchResult r (λ g. g ≡ f) (λ fault. fault ≡ Memory)
    → MatchResult r (λ g. (g ≡ f) × IsUnchanged a b) (Stopped a b)
read_on a b f (Ok g) same h = (h, same)
read_on a b f (Err e) same h = subst (Stopped a b) (sym h) same

-- the collection of an existing feature
pub holder : (o : Option Collection) (id : Text) (f : FeatureValue) → option_and_then (λ (d : Collection). get d.features id) o ≡ Some f → (d : Collection)
    × (o ≡ Some d)
holder None id f e = absurd (cc)
holder (Some d) id f e = (d, refl)
