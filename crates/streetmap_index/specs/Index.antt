-- What an index knows of collections without reading their features.
use Rattle.std.specs.Prelude.{◌≡◌, List, []}
use Rattle.std.specs.Prelude.{Option, None, Some, IsSome, IsTrue, String, string_bytes}
use Rattle.std.specs.Option.{option_map}
use Rattle.std.specs.Ordering.{is_eq}
use Rattle.std.specs.Map.{lookup}
use Rattle.std.specs.FinMap.{get}
use Rattle.std.specs.declared.alloc.Global.{Global}
use Rattle.streetmap_batch.specs.Text.{Text, text_cmp}
use Rattle.streetmap_batch.specs.BatchValue as edit
use Rattle.streetmap_batch.specs.BatchValue.{EditValue}
use Rattle.streetmap_ledger.specs.State.{State, Collection}
use Rattle.streetmap_ledger.specs.declared.reply.Fault.{Fault}
use Rattle.streetmap_ledger.specs.declared.reply.Fault.TheVariants.{Memory, Device, Damaged, Reopen}
use Rattle.streetmap_outlines.specs.Outlines.{AreListedChunksOf}
use Rattle.streetmap_index.specs.declared.outlined.OutlinedCollection.{OutlinedCollection}
use Rattle.streetmap_index.specs.declared.index.Index.{Index}

-- what is known of a collection is true
pub record IsOutlined (o : OutlinedCollection) (c : Collection) : Type 0 where
  pub title : string_bytes o.title ≡ c.title
  pub time : option_map string_bytes o.time ≡ c.time
  pub outlines : AreListedChunksOf o.outlines c.features

-- and the collection exists
abbrev pub IsOutlinedIf : OutlinedCollection → Option Collection → Type 0
IsOutlinedIf o None = ⊥
IsOutlinedIf o (Some c) = IsOutlined o c

-- this is found in a state that has the collection as it is known
abbrev pub IfOutlined : {T : Type 0} → OutlinedCollection → Text → (State → T → Type 0) → State → T
    → Type 0
IfOutlined o name Is s found = IsOutlinedIf o (get s.collections name) → Is s found

-- what an index knows under a name
abbrev pub known_under : Text → List (String Global × OutlinedCollection)
    → Option OutlinedCollection
known_under name known = lookup (λ key. is_eq (text_cmp name (string_bytes key))) known

-- each collection that is known exists, and is as it is known
abbrev pub AreKnown : List (String Global × OutlinedCollection) → State → Type 0
AreKnown known s = (name : Text) (o : OutlinedCollection) → known_under name known ≡ Some o
    → IsOutlinedIf o (get s.collections name)

-- each collection that exists is known
abbrev pub KnowsAll : List (String Global × OutlinedCollection) → State → Type 0
KnowsAll known s = (name : Text) (c : Collection) → get s.collections name ≡ Some c
    → IsSome (known_under name known)

-- what an index knows is true, and it knows all collections if it says so
abbrev pub IsIndexOf : Index → State → Type 0
IsIndexOf index s = AreKnown index.known.entries s
    × (IsTrue index.is_whole → KnowsAll index.known.entries s)

-- what was learnt of a collection, if anything, is true
abbrev pub Learns : Text → State → Option OutlinedCollection → Type 0
Learns name s None = Unit {0}
Learns name s (Some o) = IsOutlinedIf o (get s.collections name)

-- if it has this title, and the times of its features are read from this property
abbrev pub LearnsUnder : Text → String Global → Option (String Global) → State
    → Option OutlinedCollection → Type 0
LearnsUnder name title property s o =
    (c : Collection) → get s.collections name ≡ Some c → string_bytes title ≡ c.title
    → option_map string_bytes property ≡ c.time → Learns name s o

-- the collection that an edit is of
abbrev pub collection_of : EditValue → Text
collection_of (edit.«open» name title time) = name
collection_of (edit.insert name f) = name
collection_of (edit.replace name f) = name
collection_of (edit.delete name id) = name

-- if memory ran out the index stays, and a fault that shuts the keeper leaves nothing known
abbrev pub IsNoted : Fault → Index → Index → Type 0
IsNoted Memory old new = new ≡ old
IsNoted Device old new = new.known.entries ≡ []
IsNoted Damaged old new = new.known.entries ≡ []
IsNoted Reopen old new = new.known.entries ≡ []
