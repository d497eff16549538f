-- What is read of a batch while its tokens are read, for the reader's own clauses.
use Rattle.std.specs.Prelude.{◌≡◌, List, length, codes, Option, None, Some, MatchOption}
use Rattle.std.specs.Prelude.{option_map, ok_or, Result, Ok, Err, nat_le, Vec}
use Rattle.std.specs.declared.alloc.Global.{Global}
use Rattle.json.specs.Token.{Token}
use Rattle.serde_json.specs.Data.{Data, object, Items, Members}
use Rattle.serde_json.specs.Find.{as_array, get_member}
use Rattle.serde_json.specs.View.{view}
use Rattle.streetmap_json.specs.Reads.{Fails}
use Rattle.streetmap_json.specs.declared.fault.ParseFault.{ParseFault}
use Rattle.streetmap_json.specs.declared.fault.ParseFault.TheVariants.{Memory, NotJson}
use Rattle.streetmap_geojson.specs.declared.fault.Fault.TheVariants as faults
use Rattle.streetmap_batch.specs.BatchFaults.{Gives}
use Rattle.streetmap_batch.specs.ParsedBatches.{◌>>=◌, unless, most_edits, may_have, names_pass}
use Rattle.streetmap_batch.specs.ParsedBatches.{list_of, array_at, edits_after, as_whole, batch}
use Rattle.streetmap_batch.specs.BatchValue.{EditValue, BatchValue}
use Rattle.streetmap_batch.specs.BatchView.{edit_values}
use Rattle.streetmap_batch.specs.declared.batch_fault.BatchFault.{BatchFault}
use Rattle.streetmap_batch.specs.declared.batch_fault.BatchFault.TheVariants.{TooManyEdits}
use Rattle.streetmap_batch.specs.declared.batch_fault.BatchFault.TheVariants.{BadBatch}
use Rattle.streetmap_batch.specs.declared.batch_parser.Parts.{Parts}
use Rattle.streetmap_batch.specs.declared.edit.Edit.{Edit}
use Rattle.streetmap_batch.specs.declared.format.Format.TheVariants as formats

-- the result represents what is at the front, and these tokens are left, unless memory ran out
abbrev pub Takes : {X Y : Type 0} → (Y → X → Type 0) → Result X ParseFault → List Token
    → Option (Y × List Token) → Type 0
Takes {X} {Y} R (Ok x) left front = (y : Y) × (front ≡ Some (y, left)) × R y x
Takes R (Err fault) left front = Fails fault front

-- the edits of an array, if they are no more than a batch may have
abbrev pub few_edits : List Data → Result (List EditValue) BatchFault
few_edits ds = unless (nat_le (length ds) most_edits) TooManyEdits >>= λ few. edits_after 0 ds

abbrev pub edits_view : Vec Edit Global → List EditValue
edits_view edits = edit_values edits.items

-- the edits of these elements
abbrev pub AreItemsRead : Items → Result (Vec Edit Global) BatchFault → Type 0
AreItemsRead ds edits = Gives edits_view edits (few_edits (list_of ds))

-- the edits of an array; none of a value that is not an array
abbrev pub IsArrayRead : Data → Option (Result (Vec Edit Global) BatchFault) → Type 0
IsArrayRead d stated = MatchOption stated (as_array d ≡ None) (λ edits. (ds : Items)
    × (as_array d ≡ Some ds) × AreItemsRead ds edits)

-- what is kept of these members
pub record AreRead (ms : Members) (parts : Parts) : Type 0 where
  pub only : parts.only ≡ names_pass (may_have formats.Batch) ms
  pub key : option_map view parts.key ≡ get_member (codes "key") ms
  pub edits : MatchOption parts.edits (array_at (codes "edits") (object ms) ≡ None) (λ edits.
      (ds : List Data) × (array_at (codes "edits") (object ms) ≡ Some ds)
      × Gives edits_view edits (few_edits ds))

-- the batch of a text's value, if it has one
abbrev pub batch_in : Option Data → Result BatchValue BatchFault
batch_in value = as_whole (ok_or value faults.NotJson) >>= batch

-- the members of the text's value are those read; otherwise it is not a batch
abbrev pub IsWholeRead : Option Data → Result Parts ParseFault → Type 0
IsWholeRead value (Ok parts) = (ms : Members) × (value ≡ Some (object ms)) × AreRead ms parts
IsWholeRead value (Err NotJson) = batch_in value ≡ Err (BadBatch None)
IsWholeRead value (Err Memory) = Unit {0}
