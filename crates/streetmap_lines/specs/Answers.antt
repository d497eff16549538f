-- The answer to a line in a state, and the state after it.
use Rattle.std.specs.Prelude.{Option, None, Some, Result, Ok, Err, codes}
use Rattle.serde_json.specs.Data.{Data}
use Rattle.streetmap_geojson.specs.FeatureValue.{FeatureValue}
use Rattle.streetmap_feature_text.specs.Written.{feature_data}
use Rattle.streetmap_query.specs.QueryValue.{QueryValue}
use Rattle.streetmap_query.specs.Query.{query_of}
use Rattle.streetmap_query.specs.declared.fault.QueryFault.{QueryFault}
use Rattle.streetmap_batch.specs.BatchValue.{BatchValue}
use Rattle.streetmap_batch.specs.ParsedBatches.{batch_of}
use Rattle.streetmap_batch.specs.declared.batch_fault.BatchFault.{BatchFault}
use Rattle.streetmap_ledger.specs.Batches.{act}
use Rattle.streetmap_ledger.specs.Pages.{PageValue, page_in, feature_in}
use Rattle.streetmap_ledger.specs.State.{State}
use Rattle.streetmap_bodies.specs.Bodies.{line_page_data}
use Rattle.streetmap_bodies.specs.Errors.{error_data}
use Rattle.streetmap_bodies.specs.Replies.{reply_body}
use Rattle.streetmap_bodies.specs.RequestFaults.{fault_body}
use Rattle.streetmap_bodies.specs.declared.request_fault.RequestFault.TheVariants.{NotFound, Query}
use Rattle.streetmap_bodies.specs.declared.request_fault.RequestFault.TheVariants.{Batch}
use Rattle.streetmap_batch.specs.Text.{Text}
use Rattle.streetmap_lines.specs.Request.{LineRequest, batch, page, feature}

-- the JSON value of the answer, and the state after it
pub record Answer : Type 0 where
  pub body : Data
  pub state : State

-- the answer to a line that is not a request
abbrev pub unknown_command : Data
unknown_command = error_data (codes "bad_command") (codes "The command is not known.") None None

-- no such resource exists
abbrev pub not_found : Data
not_found = fault_body NotFound

-- ---- batches

-- a readable batch acts; another changes nothing
abbrev pub batch_answer : State → Result BatchValue BatchFault → Answer
batch_answer s (Ok b) = record { body = reply_body b.key (act s b).reply; state = (act s b).state }
batch_answer s (Err fault) = record { body = fault_body (Batch fault); state = s }

-- ---- pages and features

-- a page, if its collection exists
abbrev pub found_page : Option PageValue → Data
found_page None = not_found
found_page (Some p) = line_page_data p

-- the query is read before the collection is looked up
abbrev pub page_body : State → Text → Result QueryValue QueryFault → Data
page_body s collection (Err fault) = fault_body (Query fault)
page_body s collection (Ok q) = found_page (page_in s collection q)

-- a feature, if it exists
abbrev pub found_feature : Option FeatureValue → Data
found_feature None = not_found
found_feature (Some f) = feature_data f

-- ---- lines

-- the answer to a request, in this state; if it is none, the command is not known
unfoldable pub answer_to : State → Option LineRequest → Answer
answer_to s None = record { body = unknown_command; state = s }
answer_to s (Some (batch text)) = batch_answer s (batch_of text)
answer_to s (Some (page collection text)) = record
    { body = page_body s collection (query_of text); state = s }
answer_to s (Some (feature collection id)) = record
    { body = found_feature (feature_in s collection id); state = s }
