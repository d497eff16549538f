-- What is said of the faults of the crates below. Names, exit statuses and sentences are read from
-- the table (`src/table.rt`).
use Rattle.std.specs.Prelude.{ℕ, ◌+◌, Option, None, Some, option_map, nat_lt, if◌then◌else◌}
use Rattle.streetmap_batch.specs.Text.{Text}
use Rattle.streetmap_batch.specs.declared.batch_fault.BatchFault.{BatchFault}
use Rattle.streetmap_batch.specs.declared.batch_fault.BatchFault.TheVariants as batch
use Rattle.streetmap_exchange.specs.declared.fault.ExportFault.{ExportFault}
use Rattle.streetmap_exchange.specs.declared.fault.ExportFault.TheVariants as exporting
use Rattle.streetmap_exchange.specs.declared.fault.ImportFault.{ImportFault}
use Rattle.streetmap_exchange.specs.declared.fault.ImportFault.TheVariants as importing
use Rattle.streetmap_geojson.specs.FaultCodes.{fault_code as feature_code}
use Rattle.streetmap_geojson.specs.declared.fault.Fault.{Fault as FeatureFault}
use Rattle.streetmap_geojson.specs.declared.fault.Fault.TheVariants as feature
use Rattle.streetmap_ledger.specs.Refusals.{code_of as refusal_code}
use Rattle.streetmap_ledger.specs.declared.reply.Fault.{Fault as KeeperFault}
use Rattle.streetmap_ledger.specs.declared.reply.Fault.TheVariants as keeper
use Rattle.streetmap_ledger.specs.declared.reply.Refusal.{Refusal}
use Rattle.streetmap_ledger.specs.declared.reply.Refusal.TheVariants as refusals
use Rattle.streetmap_loading.specs.declared.load_fault.LoadFault.{LoadFault}
use Rattle.streetmap_loading.specs.declared.load_fault.LoadFault.TheVariants as loading
use Rattle.streetmap_loading.specs.declared.text_fault.TextFault.{TextFault}
use Rattle.streetmap_loading.specs.declared.text_fault.TextFault.TheVariants as texts
use Rattle.streetmap_replay.specs.declared.follow_fault.FollowFault.{FollowFault}
use Rattle.streetmap_replay.specs.declared.follow_fault.FollowFault.TheVariants as following
use Rattle.streetmap_text_lines.specs.declared.fault.LineFault.TheVariants as lines
use Rattle.streetmap_faults.specs.declared.report.Report.{Report}
use Rattle.streetmap_faults.specs.declared.table.TheConstants as table

-- what is said of a fault
pub record ReportValue : Type 0 where
  pub name : Text
  pub status : ℕ
  pub sentence : Text
  pub line : Option ℕ
  pub place : Option ℕ
  pub cause : Option Text
  pub port : Option ℕ

abbrev pub report_value : Report → ReportValue
report_value r = record {
  name = r.name.now;
  status = r.status;
  sentence = r.sentence.now;
  line = r.line;
  place = r.place;
  cause = option_map (λ t. t.now) r.cause;
  port = r.port;
}

-- a row of the table
abbrev pub Row : Type 0
Row = record { now : Text } × ℕ × record { now : Text }

abbrev pub plain : (name : Text) (status : ℕ) (sentence : Text) → ReportValue
plain name status sentence = record {
  name = name;
  status = status;
  sentence = sentence;
  line = None;
  place = None;
  cause = None;
  port = None;
}

abbrev pub of_row : Row → ReportValue
of_row row = plain row.0.now row.1 row.2.now

-- the same of the feature or the edit at a place, of the line or the batch with a number, or of a
-- port
abbrev pub at_place : ReportValue → Option ℕ → ReportValue
at_place r place = record r { place = place }

abbrev pub on_line : ReportValue → Option ℕ → ReportValue
on_line r line = record r { line = line }

abbrev pub at_port : ReportValue → ℕ → ReportValue
at_port r port = record r { port = Some port }

-- ---- refusals, features and keepers

unfoldable pub refusal_sentence : Refusal → Text
refusal_sentence refusals.NoCollection = table.NO_COLLECTION.now
refusal_sentence refusals.CollectionExists = table.COLLECTION_EXISTS.now
refusal_sentence refusals.FeatureExists = table.FEATURE_EXISTS.now
refusal_sentence refusals.NoFeature = table.NO_FEATURE.now
refusal_sentence refusals.BadTime = table.BAD_TIME.now
refusal_sentence refusals.KeyUsed = table.KEY_USED.now
refusal_sentence refusals.Full = table.FULL.now

abbrev pub refused : Refusal → Option ℕ → ReportValue
refused why place = record {
  name = refusal_code why;
  status = 1;
  sentence = refusal_sentence why;
  line = None;
  place = place;
  cause = None;
  port = None;
}

unfoldable pub feature_sentence : FeatureFault → Text
feature_sentence feature.NotJson = table.FEATURE_NOT_JSON.now
feature_sentence feature.WrongType = table.FEATURE_WRONG_TYPE.now
feature_sentence feature.BadId = table.BAD_ID.now
feature_sentence feature.BadGeometry = table.BAD_GEOMETRY.now
feature_sentence feature.BadPosition = table.BAD_POSITION.now
feature_sentence feature.Fraction = table.FRACTION.now
feature_sentence feature.NestedCollection = table.NESTED_COLLECTION.now
feature_sentence feature.BadProperties = table.BAD_PROPERTIES.now
feature_sentence feature.TooDeep = table.TOO_DEEP.now
feature_sentence feature.TooManyPositions = table.TOO_MANY_POSITIONS.now
feature_sentence feature.OutOfGrid = table.OUT_OF_GRID.now
feature_sentence feature.ShortLine = table.SHORT_LINE.now
feature_sentence feature.ShortRing = table.SHORT_RING.now
feature_sentence feature.OpenRing = table.OPEN_RING.now
feature_sentence feature.BadTime = table.BAD_TIME.now
feature_sentence feature.EmptyInterval = table.EMPTY_INTERVAL.now

abbrev pub bad_feature : (place : ℕ) (cause sentence : Text) → ReportValue
bad_feature place cause sentence = record {
  name = table.BAD_FEATURE.now;
  status = 1;
  sentence = sentence;
  line = None;
  place = Some place;
  cause = Some cause;
  port = None;
}

abbrev pub feature_at : ℕ → FeatureFault → ReportValue
feature_at place cause = bad_feature place (feature_code cause) (feature_sentence cause)

unfoldable pub of_keeper : KeeperFault → ReportValue
of_keeper keeper.Memory = of_row table.MEMORY
of_keeper keeper.Device = of_row table.DEVICE
of_keeper keeper.Damaged = of_row table.DAMAGED
of_keeper keeper.Reopen = of_row table.REOPEN

-- ---- imports and exports

unfoldable pub of_import : ImportFault → ReportValue
of_import importing.BadKey = of_row table.BAD_KEY
of_import importing.BadBatch = of_row table.BAD_COLLECTION
of_import importing.TextTooLarge = of_row table.TEXT_TOO_LARGE
of_import importing.NotJson = of_row table.NOT_JSON
of_import importing.WrongType = of_row table.WRONG_TYPE
of_import (importing.BadFeature place cause) = feature_at place cause
of_import importing.TooManyEdits = of_row table.TOO_MANY_FEATURES
of_import (importing.Refused why place) = refused why place
of_import (importing.Stopped fault) = of_keeper fault
of_import importing.Memory = of_row table.MEMORY

unfoldable pub of_export : ExportFault → ReportValue
of_export exporting.NoCollection = of_row table.EXPORT_OF_NONE
of_export (exporting.Stopped fault) = of_keeper fault
of_export exporting.WriteFailed = of_row table.WRITE_FAILED
of_export exporting.FlushFailed = of_row table.WRITE_FAILED

-- ---- loads

unfoldable pub of_text : TextFault → ReportValue
of_text texts.NotASequence = of_row table.NOT_A_SEQUENCE
of_text (texts.LineTooLong place) = at_place (of_row table.LINE_TOO_LONG) (Some place)
of_text (texts.TooManyDigits place) =
    bad_feature place table.TOO_MANY_DIGITS.0.now table.TOO_MANY_DIGITS.1.now
of_text (texts.BadFeature place cause) = feature_at place cause
of_text (texts.TooLarge place) = at_place (of_row table.TOO_LARGE) (Some place)

unfoldable pub of_load : LoadFault → ReportValue
of_load loading.BadKey = of_row table.BAD_LOAD_KEY
of_load loading.BadCount = of_row table.BAD_COUNT
of_load loading.BadBatch = of_row table.BAD_OPENING
of_load (loading.AtFault fault) = of_text fault
of_load loading.ReadFailed = of_row table.READ_FAILED
of_load loading.Memory = of_row table.MEMORY
of_load (loading.Refused why place) = refused why place
of_load (loading.Stopped fault) = of_keeper fault
of_load loading.WriteFailed = of_row table.WRITE_FAILED

-- ---- lines of batches

unfoldable pub of_batch : BatchFault → ReportValue
of_batch (batch.BadBatch place) = at_place (of_row table.BAD_BATCH) place
of_batch batch.BadKey = of_row table.BAD_KEY
of_batch batch.TooManyEdits = of_row table.TOO_MANY_EDITS
of_batch (batch.BadFeature place cause) = feature_at place cause
of_batch batch.Memory = of_row table.MEMORY

-- of the line with this number, if it is at fault, and not a file or a stream
unfoldable pub of_line : Option ℕ → FollowFault → ReportValue
of_line line (following.Unread fault) = on_line (of_batch fault) line
of_line line following.NotNext = on_line (of_row table.NOT_THE_NEXT) line
of_line line (following.Refused why place) = on_line (refused why place) line
of_line line (following.Stopped fault) = on_line (of_keeper fault) line
of_line line following.CutLine = on_line (of_row table.CUT_LINE) line
of_line line (following.NotRead lines.LineTooLong) = on_line (of_row table.LONG_BATCH_LINE) line
of_line line (following.NotRead lines.ReadFailed) = of_row table.READ_FAILED
of_line line (following.NotRead lines.Memory) = of_row table.MEMORY
of_line line following.NotReported = of_row table.WRITE_FAILED

-- after this number of lines
abbrev pub of_follow : ℕ → FollowFault → ReportValue
of_follow count fault =
    of_line (if nat_lt count 18446744073709551615 then Some (count + 1) else None) fault
