-- Reads, one after the other.
use Rattle.std.proofs.Common.{◌≡◌, ◌≤◌, inl, ℕ, List, [], ◌∷◌, ◌++◌, Ok, Err, Result}
use Rattle.std.proofs.Common.{MatchResult, sym, subst}
use Rattle.sqlite.specs.Order.{Row}
use Rattle.sqlite.specs.State.{State as Seen, IsUnchanged}
use Rattle.sqlite.proofs.Callers.{unchanged_then}
use Rattle.streetmap_rows.specs.declared.fault.ReadFault.{ReadFault}
use Rattle.streetmap_rows.specs.declared.fault.ReadFault.TheVariants.{Memory, Store, Unread}
use Rattle.streetmap_reading.specs.ShownQueries.{QueryShows}
use Rattle.streetmap_reading.specs.FoldEffects.{Refuses, StopsQuery}
use Rattle.streetmap_checking.specs.QueryResults.{IsNotShown, is_refused, begins_badly, not_good, ShowsWhy, ShowsOrWhyNot, Known, SeesFeatures, SeesAllFeatures}
use Rattle.streetmap_checking.specs.QueryResults.{SeesCollections, SeesOwners, SeesBatches, NoFeatures, NoFeaturesOfAll}
use Rattle.streetmap_checking.specs.Good.{AreFeatureRows}
use Rattle.streetmap_checking.specs.Statements.{select_features, select_owners, select_batches}
use Rattle.streetmap_rows.specs.Statements.{select_collections}
use Rattle.streetmap_rows.proofs.ErrorReasons.{reason_on}
use Rattle.streetmap_checking.proofs.Simple.{IsSimpleQuery, features_simple, collections_simple}
use Rattle.streetmap_checking.proofs.Simple.{owners_simple, batches_simple}
use Rattle.sqlite.specs.declared.types.Value.TheVariants.{Text as Words}
use Rattle.streetmap_reading.proofs.ShownQueries.{begins_there}
use Rattle.streetmap_reading.proofs.Stopping.{sees_on, unseen_on}
use Rattle.streetmap_checking.proofs.Undone.{undone_was, was_then}

-- why a fold stopped
pub stopped : {F : Type 0} (Holds : F → F → List Row → Type 0) (IsGood : F → List Row → Type 0) (sql : List ℕ) (params : Row) (start : F)
    (Good : List Row → Type 0) → ((rows : List Row) → Good rows → IsGood start rows)
    → (old new : Seen) (fault : ReadFault) → StopsQuery Holds IsGood sql params start old new fault → ShowsWhy (IsNotShown sql params Good old) old new fault
stopped Holds IsGood sql params start Good good old new Memory h = h
stopped Holds IsGood sql params start Good good old new Unread h = (begins_badly h.0.0 h.0.1 (λ later g. h.0.2 later (good (h.0.0 ++ later) g)), h.1)
stopped Holds IsGood sql params start Good good old new (Store e) h =
    ((λ other. is_refused (h.0 other)), undone_was old new h.1, h.2)

module _ (sql : List ℕ) (params : Row) (simple : IsSimpleQuery sql) (Good : List Row → Type 0) (a b : Seen) (same : IsUnchanged a b)
    (limit : b.step_limit ≡ a.step_limit) where
  -- of a connection that was left as it was
  pub none_on : IsNotShown sql params Good b → IsNotShown sql params Good a
  none_on (is_refused h) = is_refused (unseen_on sql params a b (simple a.now.schema) same limit h)
  none_on (begins_badly rows first none) =
      let begins = begins_there sql params b b a (simple a.now.schema) same.0.now_is rows first in
      begins_badly rows begins none
  none_on (not_good rows shown bad) =
      not_good rows (sees_on sql params a b (simple a.now.schema) same rows shown) bad

-- a fault of a read after another
pub fault_on : (why first : Type 0) (a b c : Seen) (fault : ReadFault) → IsUnchanged a b
    → a.faults ≤ b.faults → b.faults ≤ c.faults → (first → why) → ShowsWhy first b c fault
    → ShowsWhy why a c fault
fault_on why first a b c Memory same before following turn h = unchanged_then a b c same h
fault_on why first a b c Unread same before following turn h = (turn h.0, unchanged_then a b c same h.1)
fault_on why first a b c (Store e) same before following turn h = (
  λ of. turn (h.0 of),
  was_then a b c same h.1,
  reason_on a b c e before (λ live. inl same.0.is_open) following h.2,
)

-- a fault for another reason
pub why_for : (why first : Type 0) (a b : Seen) (fault : ReadFault) → (first → why) → ShowsWhy first a b fault → ShowsWhy why a b fault
why_for why first a b Memory turn h = h
why_for why first a b Unread turn h = (turn h.0, h.1)
why_for why first a b (Store e) turn h = ((λ other. turn (h.0 other)), h.1, h.2)

-- a fault that is passed on
pub handed : {A : Type 0} (Is : A → Type 0) (why : Type 0) (a c : Seen) (r : Result A ReadFault) (fault : ReadFault) → r ≡ Err fault → ShowsWhy why a c fault →
    ShowsOrWhyNot Is why a c r
handed Is why a c r fault is h = subst (ShowsOrWhyNot Is why a c) (sym is) h

-- a fold that is the whole read
pub was_read : {F : Type 0} (Holds : F → F → List Row → Type 0) (IsGood : F → List Row → Type 0) (sql : List ℕ) (params : Row) (start after : F)
    (Good : List Row → Type 0) (Is : Type 0) (old new : Seen) (r : Result (Unit {0}) ReadFault)
    → ((rows : List Row) → Good rows → IsGood start rows) → ((rows : List Row) → QueryShows sql params old rows → Holds start after rows → Is)
    → MatchResult r (λ _. ((rows : List Row) × QueryShows sql params old rows × Holds start after rows) × IsUnchanged old new)
    (StopsQuery Holds IsGood sql params start old new) → ShowsOrWhyNot (λ _. Is) (IsNotShown sql params Good old) old new r
was_read Holds IsGood sql params start after Good Is old new (Ok u) good is h = (is h.0.0 h.0.1 h.0.2, h.1)
was_read Holds IsGood sql params start after Good Is old new (Err fault) good is h = stopped Holds IsGood sql params start Good good old new fault h

-- ---- what was shown of a connection that was left as it was

pub features_on : (head : Known) (count : ℕ) (a b : Seen) → IsUnchanged a b → SeesFeatures head count b → SeesFeatures head count a
features_on head count a b same h =
    let params = Words head.0 ∷ [] in
    let sees = sees_on select_features params a b (features_simple a.now.schema) same h.0 h.1 in
    (h.0, sees, h.2, h.3)

pub no_features_on : (head : Known) (a b : Seen) → IsUnchanged a b → b.step_limit ≡ a.step_limit → NoFeatures head b → NoFeatures head a
no_features_on head a b same limit h = none_on select_features (Words head.0 ∷ []) features_simple (AreFeatureRows head.1) a b same limit h

pub all_features_on : (heads : List Known) (count : ℕ) (a b : Seen) → IsUnchanged a b → SeesAllFeatures heads count b → SeesAllFeatures heads count a
all_features_on [] count a b same h = h
all_features_on (head ∷ heads) count a b same h = (h.0, h.1, features_on head h.0 a b same h.2, all_features_on heads h.1 a b same h.3, h.4)

-- it gave up, and nothing changed
pub stopped_then : (why : Type 0) (old new : Seen) (fault : ReadFault) → IsUnchanged old new → Refuses ⊥ fault → ShowsWhy why old new fault
stopped_then why old new Memory same h = same
stopped_then why old new Unread same h = absurd h
stopped_then why old new (Store e) same h = absurd h

pub no_features_all_on : (heads : List Known) (a b : Seen) → IsUnchanged a b → b.step_limit ≡ a.step_limit → NoFeaturesOfAll heads b → NoFeaturesOfAll heads a
no_features_all_on heads a b same limit h = (h.0, h.1, no_features_on h.0 a b same limit h.2)

pub heads_on : (heads : List Known) (a b : Seen) → IsUnchanged a b → SeesCollections heads b → SeesCollections heads a
heads_on heads a b same h =
    let sees = sees_on select_collections [] a b (collections_simple a.now.schema) same h.0 h.1 in
    (h.0, sees, h.2, h.3)

pub owners_on : (heads : List Known) (a b : Seen) → IsUnchanged a b → SeesOwners heads b → SeesOwners heads a
owners_on heads a b same h =
    (h.0, sees_on select_owners [] a b (owners_simple a.now.schema) same h.0 h.1, h.2)

pub batches_on : (count : ℕ) (a b : Seen) → IsUnchanged a b → SeesBatches count b → SeesBatches count a
batches_on count a b same h =
    (h.0, sees_on select_batches [] a b (batches_simple a.now.schema) same h.0 h.1, h.2, h.3)
