-- Collections that are the same in two states.
use Rattle.std.specs.Prelude.{◌≡◌, ℕ, Bool, List, All, IfSome, take, slice_get, bytes_eq}
use Rattle.std.specs.Prelude.{Option, None, Some, Result, Ok, Err, string_bytes}
use Rattle.std.specs.FinMap.{get, entries}
use Rattle.std.specs.List.{list_any}
use Rattle.serde_json.specs.Written.{compact_text}
use Rattle.streetmap_batch.specs.Text.{Text}
use Rattle.streetmap_feature_text.specs.Written.{collection_data}
use Rattle.streetmap_ledger.specs.Pages.{PageValue}
use Rattle.streetmap_ledger.specs.State.{State, Collection}
use Rattle.streetmap_ledger.specs.Summaries.{SummaryValue}
use Rattle.streetmap_ledger.specs.declared.summary.Summary.{Summary}
use Rattle.streetmap_query.specs.QueryValue.{QueryValue}
use Rattle.streetmap_replay.specs.declared.fault.ReplayFault.{ReplayFault}
use Rattle.streetmap_replay.specs.declared.fault.ReplayFault.TheVariants.{Kept, Fresh, Memory}
use Rattle.streetmap_replay.specs.declared.fault.ReplayFault.TheVariants.{Batch}
use Rattle.streetmap_replay.specs.declared.fault.ReplayFault.TheVariants.{Collection as Other}
use Rattle.streetmap_replay.specs.declared.features.PageEnd.{PageEnd}
use Rattle.streetmap_replay.specs.declared.features.PageEnd.TheVariants.{Unlike, Last, Next}

-- ---- pages

-- a page of a thousand features after an id
abbrev pub part_query : Option Text → QueryValue
part_query after = record { bbox = None; datetime = None; limit = 1000; after = after }

-- the features of two pages have the same text
abbrev pub SameText : PageValue → PageValue → Type 0
SameText p q =
    compact_text (collection_data p.features) ≡ compact_text (collection_data q.features)

-- two pages differ; or their features have the same text, and the same id follows them
abbrev pub PagesEndAs : PageValue → PageValue → PageEnd → Type 0
PagesEndAs p q Unlike = p ≡ q → ⊥
PagesEndAs p q Last = SameText p q × (p.next ≡ None) × (q.next ≡ None)
PagesEndAs p q (Next id) = SameText p q × (p.next ≡ Some id) × (q.next ≡ Some id)

-- ---- collections

-- two collections have the same title and the same time property
abbrev pub AreAlike : SummaryValue → SummaryValue → Type 0
AreAlike a b = (a.title ≡ b.title) × (a.time ≡ b.time)

-- the collection of this name is the same in both states, or is in neither
abbrev pub IsSame : State → State → Text → Type 0
IsSame s t name = get s.collections name ≡ get t.collections name

abbrev pub AreSame : State → State → List (Text × Collection) → Type 0
AreSame s t named = All (λ (e : Text × Collection). IsSame s t e.0) named

-- a collection of the first state differs in the second, and those before it are the same; or all
-- of the first are the same, and only the second has it
pub record Differs (s t : State) (name : Text) : Type 0 where
  pub other : IsSame s t name → ⊥
  pub place : ℕ
  pub before : AreSame s t (take place (entries s.collections))
  pub here : IfSome (slice_get (entries s.collections) place) (λ e. e.0 ≡ name)

-- one of these has this id
abbrev pub is_named : Text → List Summary → Bool
is_named name summaries = list_any (λ (a : Summary). bytes_eq (string_bytes a.id) name) summaries

-- the fault that the collection of this name differs, or that memory ran out
abbrev pub IsUnlike : Text → ReplayFault → Type 0
IsUnlike name (Kept fault) = ⊥
IsUnlike name (Fresh fault) = ⊥
IsUnlike name Memory = Unit {0}
IsUnlike name (Batch serial) = ⊥
IsUnlike name (Other text) = string_bytes text ≡ name

-- ---- comparisons

-- a comparison of the collections of two states: all are the same, or which collection differs
abbrev pub Compares : {T : Type 0} → State → State → Type 0 → Result T ReplayFault → Type 0
Compares s t Same (Ok done) = Same
Compares s t Same (Err (Kept fault)) = Unit {0}
Compares s t Same (Err (Fresh fault)) = Unit {0}
Compares s t Same (Err Memory) = Unit {0}
Compares s t Same (Err (Batch serial)) = ⊥
Compares s t Same (Err (Other name)) = Differs s t (string_bytes name)
