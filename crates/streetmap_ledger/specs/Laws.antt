-- Laws of batches.
use Rattle.std.specs.Prelude.{◌≡◌, ℕ, Bool, true, false, List, [], ◌∷◌, ◌++◌, Option, None, Some}
use Rattle.std.specs.Prelude.{if◌then◌else◌, All}
use Rattle.std.specs.FinMap.{get}
use Rattle.streetmap_geojson.specs.FeatureValue.{FeatureValue}
use Rattle.streetmap_geojson.specs.FeatureInvariant.{IsFeature}
use Rattle.streetmap_query.specs.Views.{query_value}
use Rattle.streetmap_query.specs.declared.queries.Query.{Query}
use Rattle.streetmap_batch.specs.BatchValue.{BatchValue}
use Rattle.streetmap_ledger.specs.State.{State}
use Rattle.streetmap_ledger.specs.Batches.{act, after_all}
use Rattle.streetmap_ledger.specs.Pages.{selects, is_candidate, candidates, page_of}
use Rattle.streetmap_ledger.specs.declared.reply.Refusal.{Refusal}
use Rattle.streetmap_ledger.specs.declared.reply.Reply.{Reply}
use Rattle.streetmap_ledger.specs.declared.reply.Reply.TheVariants.{Accepted, Repeated, Refused}

-- accepted, now or before
abbrev pub IsAcknowledged : Reply → Type 0
IsAcknowledged (Accepted counts serial) = Unit {0}
IsAcknowledged (Repeated counts serial) = Unit {0}
IsAcknowledged (Refused why place) = ⊥

-- a batch that is sent again, anywhere after it was acknowledged, changes nothing
abbrev pub RepeatActsOnce : Type 0
RepeatActsOnce =
    (s : State) (before between later : List BatchValue) (b : BatchValue) →
    IsAcknowledged (act (after_all s before) b).reply →
    after_all s (before ++ b ∷ (between ++ b ∷ later))
    ≡ after_all s (before ++ b ∷ (between ++ later))

-- accepted now
abbrev pub is_accepted : Reply → Bool
is_accepted (Accepted counts serial) = true
is_accepted (Repeated counts serial) = false
is_accepted (Refused why place) = false

-- the batches of a list that are accepted, without those that are refused or repeated
abbrev pub accepted_of : State → List BatchValue → List BatchValue
accepted_of s [] = []
accepted_of s (b ∷ bs) =
    let later = accepted_of (act s b).state bs in
    if is_accepted (act s b).reply then b ∷ later else later

-- the state after a list of batches is that after only its accepted ones, and given again these are
-- all accepted
abbrev pub AcceptedAreEnough : Type 0
AcceptedAreEnough =
    ((s : State) (bs : List BatchValue) → after_all s bs ≡ after_all s (accepted_of s bs))
    × ((s : State) (bs : List BatchValue) → accepted_of s (accepted_of s bs) ≡ accepted_of s bs)

-- a refused batch changes nothing; and if one of its edits was at fault its key is not kept, so
-- that it may be used again
abbrev pub RefusedChangesNothing : Type 0
RefusedChangesNothing =
    (s : State) (b : BatchValue) (why : Refusal) (place : Option ℕ) →
    (act s b).reply ≡ Refused why place →
    ((act s b).state ≡ s) × ((n : ℕ) → place ≡ Some n → get (act s b).state.keys b.key ≡ None)

-- what a query selects is among its candidates, so the page of the candidates is the page of all
abbrev pub SelectedAreCandidates : Type 0
SelectedAreCandidates =
    ((q : Query) (f : FeatureValue) → IsFeature f → selects (query_value q) f ≡ true
    → is_candidate (query_value q) f ≡ true)
    × ((q : Query) (n : ℕ) (fs : List FeatureValue) → All IsFeature fs
    → page_of (query_value q) n (candidates (query_value q) fs) ≡ page_of (query_value q) n fs)
