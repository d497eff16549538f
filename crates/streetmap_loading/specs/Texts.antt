-- The edits of a text, one feature per line: a GeoJSON text sequence (RFC 8142), or lines alone.
use Rattle.std.specs.Prelude.{ℕ, ◌+◌, ◌-◌, Bool, true, false, ◌&&◌, ◌==◌, nat_le, List, []}
use Rattle.std.specs.Prelude.{◌∷◌, length, take, drop, nat_eq, codes, decimal, is_some, Option}
use Rattle.std.specs.Prelude.{None, Some, option_map, Result, Ok, Err, if◌then◌else◌}
use Rattle.std.specs.Cmp.Lexicographic.{pointwise}
use Rattle.std.specs.Str.Lines.{lines}
use Rattle.serde_json.specs.Data.{Data, string, object, put}
use Rattle.serde_json.specs.Find.{get}
use Rattle.serde_json.specs.Written.{compact_text}
use Rattle.streetmap_geojson.specs.FeatureValue.{FeatureValue}
use Rattle.streetmap_geojson.specs.Fault.{◌>>=◌}
use Rattle.streetmap_geojson.specs.ParsedFeatures.{feature}
use Rattle.streetmap_geojson.specs.Collection.{is_collection}
use Rattle.streetmap_geojson.specs.Times.{time_of, as_fault}
use Rattle.streetmap_geojson.specs.declared.fault.Fault.{Fault}
use Rattle.streetmap_geojson.specs.declared.fault.Fault.TheVariants as features
use Rattle.streetmap_placing.specs.Value.{value_of}
use Rattle.streetmap_placing.specs.declared.fault.PlacingFault.{PlacingFault}
use Rattle.streetmap_placing.specs.declared.fault.PlacingFault.TheVariants as placings
use Rattle.streetmap_placing.specs.declared.numbers.Numbers.{Numbers}
use Rattle.streetmap_batch.specs.Text.{Text}
use Rattle.streetmap_batch.specs.BatchText.{edit_data}
use Rattle.streetmap_batch.specs.BatchValue as edit
use Rattle.streetmap_batch.specs.BatchValue.{EditValue}
use Rattle.streetmap_text_lines.specs.Lines.{first_too_long}
use Rattle.streetmap_loading.specs.Sources.{Item}
use Rattle.streetmap_loading.specs.declared.text_fault.TextFault.{TextFault}
use Rattle.streetmap_loading.specs.declared.text_fault.TextFault.TheVariants.{NotASequence}
use Rattle.streetmap_loading.specs.declared.text_fault.TextFault.TheVariants.{LineTooLong}
use Rattle.streetmap_loading.specs.declared.text_fault.TextFault.TheVariants.{TooManyDigits}
use Rattle.streetmap_loading.specs.declared.text_fault.TextFault.TheVariants.{BadFeature, TooLarge}

-- where features go, how their numbers are read, and whether those at fault are skipped: then times
-- must be readable from the property of that name
pub record Rules : Type 0 where
  pub collection : Text
  pub replace : Bool
  pub numbers : Numbers
  pub skip : Option (Option Text)

-- ---- a feature

-- an object has the text of its place as its id
abbrev pub put_id : ℕ → Data → Data
put_id place (object ms) = object (put (codes "id") (string (decimal place)) ms)
put_id place d = d

-- if it has none
abbrev pub with_place : ℕ → Data → Data
with_place place d = if is_some (get (codes "id") d) then d else put_id place d

-- the feature, if its time can be read
abbrev pub timely : {A : Type 0} → FeatureValue → Result A Fault → Result FeatureValue Fault
timely f (Ok time) = Ok f
timely f (Err fault) = Err fault

-- by the property of that name, if features at fault are skipped
abbrev pub held : Option (Option Text) → FeatureValue → Result FeatureValue Fault
held None f = Ok f
held (Some property) f = timely f (as_fault (time_of property f.properties))

-- the feature of a value at a place in the text
abbrev pub feature_of : Rules → ℕ → Data → Result FeatureValue Fault
feature_of r place d = feature None (with_place place d) >>= λ f. held r.skip f

-- ---- its edit

-- the edit that puts a feature into the collection: an insert, or a replace
abbrev pub edit_of : Rules → FeatureValue → EditValue
edit_of r f = if r.replace then edit.replace r.collection f else edit.insert r.collection f

-- the most bytes of the text of an edit
abbrev pub most_bytes : ℕ
most_bytes = 8388480

-- an edit, if its text is not too long
abbrev pub item_of_edit : ℕ → EditValue → Item
item_of_edit place e =
    if nat_le (length (compact_text (edit_data e))) most_bytes then Ok
    (record { place = Some place; edit = e }) else Err (TooLarge place)

abbrev pub item_of_feature : Rules → ℕ → Result FeatureValue Fault → Item
item_of_feature r place (Ok f) = item_of_edit place (edit_of r f)
item_of_feature r place (Err fault) = Err (BadFeature place fault)

-- the first value must not be a FeatureCollection
abbrev pub item_of_value : Rules → ℕ → Data → Item
item_of_value r place d = if (place == 1) && is_collection d then Err NotASequence else
    item_of_feature r place (feature_of r place d)

-- what is wrong with a feature whose text has no value; running out of memory is not a fault of a
-- text. The first text must be a whole JSON text
abbrev pub unread : ℕ → PlacingFault → TextFault
unread place placings.NotJson = if place == 1 then NotASequence
    else BadFeature place features.NotJson
unread place placings.TooManyDigits = TooManyDigits place
unread place placings.OutOfGrid = BadFeature place features.OutOfGrid
unread place placings.Fraction = BadFeature place features.Fraction
unread place placings.Memory = BadFeature place features.NotJson

abbrev pub item_of_read : Rules → ℕ → Result Data PlacingFault → Item
item_of_read r place (Ok d) = item_of_value r place d
item_of_read r place (Err fault) = Err (unread place fault)

-- the item for the feature of a text at a place
abbrev pub item_of_text : Rules → ℕ → Text → Item
item_of_text r place text = item_of_read r place (value_of r.numbers text)

-- ---- lines

-- before the first feature a byte order mark is skipped (U+FEFF in UTF-8)
abbrev pub mark : Text
mark = 239 ∷ 187 ∷ 191 ∷ []

abbrev pub without_mark : Text → Text
without_mark line = if pointwise nat_eq (take (length mark) line) mark then drop (length mark)
    line
    else line

-- and before each a record separator (RFC 8142, section 2)
abbrev pub without_separator : Text → Text
without_separator [] = []
without_separator (b ∷ bs) = if b == 30 then bs else b ∷ bs

-- a last line without its line feed may be only a carriage return
abbrev pub without_return : Text → Text
without_return [] = []
without_return (b ∷ []) = if b == 13 then [] else b ∷ []
without_return (b ∷ c ∷ bs) = b ∷ c ∷ bs

-- the text of the feature on a line
abbrev pub text_on : ℕ → Text → Text
text_on place line =
    without_return (without_separator (if place == 1 then without_mark line else line))

-- features at fault are skipped, and no other fault is
abbrev pub of_feature : TextFault → Bool
of_feature NotASequence = false
of_feature (LineTooLong place) = false
of_feature (TooManyDigits place) = true
of_feature (BadFeature place fault) = true
of_feature (TooLarge place) = true

abbrev pub is_skipped : Rules → TextFault → Bool
is_skipped r fault = is_some r.skip && of_feature fault

abbrev pub and_more : Rules → Item → List Item → List Item
and_more r (Ok p) more = Ok p ∷ more
and_more r (Err fault) more = if is_skipped r fault then more else Err fault ∷ more

-- the items without those that are skipped
abbrev pub not_skipped : Rules → List Item → List Item
not_skipped r [] = []
not_skipped r (item ∷ items) = and_more r item (not_skipped r items)

-- how many are skipped before the first fault that is not
abbrev pub and_count : Rules → Item → ℕ → ℕ
and_count r (Ok p) count = count
and_count r (Err fault) count = if is_skipped r fault then count + 1 else 0

abbrev pub count_skipped : Rules → List Item → ℕ
count_skipped r [] = 0
count_skipped r (item ∷ items) = and_count r item (count_skipped r items)

-- a line without a text is not counted: then the place stays
abbrev pub on_text : Rules → ℕ → Text → (same next : List Item) → List Item
on_text r place [] same next = same
on_text r place (b ∷ bs) same next = item_of_text r place (b ∷ bs) ∷ next

-- the next line is the one that is too long
abbrev pub is_here : Option ℕ → Bool
is_here None = false
is_here (Some n) = n == 0

abbrev pub one_less : Option ℕ → Option ℕ
one_less None = None
one_less (Some n) = Some (n - 1)

-- the items of the features on lines, the next one at this place, including skipped features;
-- the line after `long` lines, if that is given, is too long
abbrev pub all_on : Rules → ℕ → Option ℕ → List Text → List Item
all_on r place long [] = if is_here long then Err (LineTooLong place) ∷ [] else []
all_on r place long (line ∷ lines) =
    if is_here long then Err (LineTooLong place) ∷ []
    else on_text r place (text_on place line) (all_on r place (one_less long) lines)
    (all_on r (place + 1) (one_less long) lines)

-- the most bytes of a line
abbrev pub most_of_line : ℕ
most_of_line = 8388608

-- those of a text after this number of features
abbrev pub all_in : Rules → ℕ → Text → List Item
all_in r features text = all_on r (features + 1) (first_too_long most_of_line text) (lines text)

-- without those that are skipped
abbrev pub items_in : Rules → ℕ → Text → List Item
items_in r features text = not_skipped r (all_in r features text)

-- if the text is known
abbrev pub items_left : Rules → ℕ → Option Text → Option (List Item)
items_left r features text = option_map (λ t. items_in r features t) text

-- how many features are skipped in all, if the text is known, after this number of features, of
-- which some were
abbrev pub skips_left : Rules → (skipped features : ℕ) → Option Text → Option ℕ
skips_left r skipped features text =
    option_map (λ t. skipped + count_skipped r (all_in r features t)) text
