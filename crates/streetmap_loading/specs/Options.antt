-- The options of a load: the lines of `load_of` are in the order of refusals.
use Rattle.std.specs.Prelude.{◌≡◌, ℕ, Bool, true, ◌&&◌, nat_le, List, [], ◌∷◌, ◌++◌, length, ok_or}
use Rattle.std.specs.Prelude.{Option, None, Some, option_map, Result, Ok, Err, string_bytes}
use Rattle.std.specs.Prelude.{if◌then◌else◌}
use Rattle.streetmap_batch.specs.Text.{Text}
use Rattle.streetmap_batch.specs.BatchValue as edit
use Rattle.streetmap_batch.specs.BatchValue.{EditValue}
use Rattle.streetmap_batch.specs.Names.{is_key, is_collection_id, is_title, is_time_property}
use Rattle.streetmap_batch.specs.Names.{passing}
use Rattle.streetmap_loading.specs.Places.{PlacedValue}
use Rattle.streetmap_loading.specs.Sources.{Item, placed_value}
use Rattle.streetmap_loading.specs.Texts.{Rules, items_left, count_skipped, all_in}
use Rattle.streetmap_loading.specs.TextView.{rules_value}
use Rattle.streetmap_loading.specs.declared.load.Opening.{Opening}
use Rattle.streetmap_loading.specs.declared.load.LoadOptions.{LoadOptions}
use Rattle.streetmap_loading.specs.declared.load.Load.{Load}
use Rattle.streetmap_loading.specs.declared.load_fault.LoadFault.{LoadFault}
use Rattle.streetmap_loading.specs.declared.load_fault.LoadFault.TheVariants.{BadKey, BadCount}
use Rattle.streetmap_loading.specs.declared.load_fault.LoadFault.TheVariants.{BadBatch, Memory}

-- one step after another: the first fault is the result
infixl 10 ◌>>=◌
abbrev pub ◌>>=◌ : {A B : Type 0} → Result A LoadFault → (A → Result B LoadFault) →
    Result B LoadFault
(Ok x) >>= f = f x
(Err e) >>= f = Err e

-- passes, or is that fault
abbrev pub unless : Bool → LoadFault → Result Bool LoadFault
unless b fault = if b then Ok true else Err fault

-- a name that passes the test
abbrev pub named : (Text → Bool) → Text → Result Text LoadFault
named test text = ok_or (passing test text) BadBatch

-- the title is the collection's id if none is given
abbrev pub title_of : Text → Option Text → Result Text LoadFault
title_of collection None = Ok collection
title_of collection (Some title) = named is_title title

abbrev pub time_of : Option Text → Result (Option Text) LoadFault
time_of None = Ok None
time_of (Some name) = named is_time_property name >>= λ n. Ok (Some n)

-- the opening of a collection
abbrev pub opening_of : Text → Option Text → Option Text → Result EditValue LoadFault
opening_of collection title time =
    named is_collection_id collection >>= λ c.
    (title_of c title >>= λ t. (time_of time >>= λ p. Ok (edit.«open» c t p)))

-- the opening, if the options include one; it has no place in the text
abbrev pub opening_if : Text → Option Opening → Result (Option PlacedValue) LoadFault
opening_if collection None = Ok None
opening_if collection (Some o) =
    opening_of collection (option_map (λ t. t.now) o.title) (option_map (λ t. t.now) o.time) >>=
    λ e. Ok (Some (record { place = None; edit = e }))

-- a load as a plain value
pub record LoadValue : Type 0 where
  pub key : Text
  pub each : ℕ
  pub rules : Rules
  pub opening : Option PlacedValue

abbrev pub load_value : Load → LoadValue
load_value l =
    record {
      key = string_bytes l.key;
      each = l.each;
      rules = rules_value l.rules;
      opening =
          option_map placed_value l.opening;
    }

-- a key of at most 44 bytes
abbrev pub is_load_key : Text → Bool
is_load_key key = is_key key && nat_le (length key) 44

abbrev pub is_count : ℕ → Bool
is_count each = nat_le 1 each && nat_le each 10000

-- the load with these options, which skips nothing; or its first fault
abbrev pub load_of : LoadOptions → Result LoadValue LoadFault
load_of o = do
  keyed ← unless (is_load_key o.key.now) BadKey
  counted ← unless (is_count o.each) BadCount
  placed ← unless (is_collection_id o.collection.now) BadBatch
  opening ← opening_if o.collection.now o.opening
  Ok (record {
    key = o.key.now;
    each = o.each;
    rules = record
        { collection = o.collection.now; replace = o.replace; numbers = o.numbers; skip = None };
    opening = opening;
  })

-- the same load, which skips features at fault, and requires that times can be read from the
-- property of that name
abbrev pub skipping : LoadValue → Option Text → LoadValue
skipping l property = record l { rules = record l.rules { skip = Some property } }

-- a fault other than memory is that of the options
abbrev pub FaultAsRequested : {Y : Type 0} → LoadFault → Result Y LoadFault → Type 0
FaultAsRequested Memory requested = Unit {0}
FaultAsRequested e requested = requested ≡ Err e

-- the result, seen by view, is that of the options, unless memory ran out
abbrev pub AsRequested : {X Y : Type 0} → (X → Y) → Result X LoadFault → Result Y LoadFault → Type 0
AsRequested view (Ok x) requested = requested ≡ Ok (view x)
AsRequested view (Err e) requested = FaultAsRequested e requested

-- ---- its edits

abbrev pub IsOpening : EditValue → Type 0
IsOpening (edit.«open» collection title time) = Unit {0}
IsOpening _ = ⊥

-- the opening, if any
abbrev pub opening_items : Option PlacedValue → List Item
opening_items None = []
opening_items (Some p) = Ok p ∷ []

-- what is loaded of a text: the opening, and the items of its features
abbrev pub load_items : LoadValue → Option Text → Option (List Item)
load_items l text = option_map (λ items. opening_items l.opening ++ items)
    (items_left l.rules 0 text)

-- how many of its features are skipped
abbrev pub load_skips : LoadValue → Option Text → Option ℕ
load_skips l text = option_map (λ t. count_skipped l.rules (all_in l.rules 0 t)) text
