-- Answers without a tag.
use Rattle.std.proofs.Common.{◌≡◌, ◌∙◌, ℕ, Bool, true, false, Option, None, Some, refl, sym}
use Rattle.streetmap_geojson.specs.FeatureValue.{FeatureValue}
use Rattle.streetmap_query.specs.QueryValue.{QueryValue}
use Rattle.streetmap_batch.specs.Text.{Text}
use Rattle.streetmap_ledger.specs.State.{State}
use Rattle.streetmap_ledger.specs.Pages.{PageValue, page_in, feature_in}
use Rattle.streetmap_ledger.specs.Summaries.{SummaryValue, summary_in}
use Rattle.streetmap_ledger.specs.declared.reply.Fault.TheVariants.{Reopen}
use Rattle.streetmap_routes.specs.Operations.{OperationValue, faulty, landing_page, api_text, conformance_classes, all_collections, one_collection, page, feature, changes, service_status, batch}
use Rattle.streetmap_bodies.specs.declared.request_fault.RequestFault.{RequestFault}
use Rattle.streetmap_bodies.specs.declared.request_fault.RequestFault.TheVariants.{Keeper, NotFound}
use Rattle.streetmap_web.specs.Response.{ResponseValue, fault_response, found_page, found_feature, found_collection, response_in, response_shut, with_serial}

untagged_page : (root name : Text) (q : QueryValue) (o : Option PageValue) → (found_page root name q o).tag ≡ None
unfolding fault_response
untagged_page root name q None = refl
untagged_page root name q (Some p) = refl

untagged_feature : (root name : Text) (o : Option FeatureValue) → (found_feature root name o).tag ≡ None
unfolding fault_response
untagged_feature root name None = refl
untagged_feature root name (Some f) = refl

untagged_collection : (root : Text) (o : Option SummaryValue) → (found_collection root o).tag ≡ None
unfolding fault_response
untagged_collection root None = refl
untagged_collection root (Some s) = refl

pub untagged_fault : (fault : RequestFault) → (fault_response fault).tag ≡ None
unfolding fault_response
untagged_fault fault = refl

-- of a state
pub untagged : (root : Text) (s : State) (operation : OperationValue) → (response_in root s operation).tag ≡ None
untagged root s (faulty fault) = untagged_fault fault
untagged root s landing_page = refl
untagged root s api_text = refl
untagged root s conformance_classes = refl
untagged root s all_collections = refl
untagged root s (one_collection name) = untagged_collection root (summary_in s name)
untagged root s (page name q) = untagged_page root name q (page_in s name q)
untagged root s (feature name id) = untagged_feature root name (feature_in s name id)
untagged root s (changes after limit) = refl
untagged root s service_status = refl
untagged root s (batch b) = refl

-- of a shut keeper
pub untagged_shut : (root : Text) (operation : OperationValue) → (response_shut root operation).tag ≡ None
untagged_shut root (faulty fault) = untagged_fault fault
untagged_shut root landing_page = refl
untagged_shut root api_text = refl
untagged_shut root conformance_classes = refl
untagged_shut root all_collections = untagged_fault (Keeper Reopen)
untagged_shut root (one_collection name) = untagged_fault (Keeper Reopen)
untagged_shut root (page name q) = untagged_fault (Keeper Reopen)
untagged_shut root (feature name id) = untagged_fault (Keeper Reopen)
untagged_shut root (changes after limit) = untagged_fault (Keeper Reopen)
untagged_shut root service_status = untagged_fault (Keeper Reopen)
untagged_shut root (batch b) = untagged_fault (Keeper Reopen)

-- a serial changes no tag
pub serial_tag : (numbered : Bool) (n : ℕ) (p : ResponseValue) → (with_serial numbered n p).tag ≡ p.tag
serial_tag true n p = refl
serial_tag false n p = refl

pub no_tag : {A : Type 0} (o : Option ℕ) (n : ℕ) → o ≡ None → o ≡ Some n → A
no_tag o n none some = absurd (let bad : ◌≡◌ {A = Option ℕ} None (Some n) = sym none ∙ some in cc)

-- ---- answers without a serial

unnumbered_fault : (fault : RequestFault) → (fault_response fault).serial ≡ None
unfolding fault_response
unnumbered_fault fault = refl

unnumbered_page : (root name : Text) (q : QueryValue) (o : Option PageValue) → (found_page root name q o).serial ≡ None
unnumbered_page root name q None = unnumbered_fault NotFound
unnumbered_page root name q (Some p) = refl

unnumbered_feature : (root name : Text) (o : Option FeatureValue) → (found_feature root name o).serial ≡ None
unnumbered_feature root name None = unnumbered_fault NotFound
unnumbered_feature root name (Some f) = refl

unnumbered_collection : (root : Text) (o : Option SummaryValue) → (found_collection root o).serial ≡ None
unnumbered_collection root None = unnumbered_fault NotFound
unnumbered_collection root (Some s) = refl

-- of a state
pub unnumbered : (root : Text) (s : State) (operation : OperationValue) → (response_in root s operation).serial ≡ None
unnumbered root s (faulty fault) = unnumbered_fault fault
unnumbered root s landing_page = refl
unnumbered root s api_text = refl
unnumbered root s conformance_classes = refl
unnumbered root s all_collections = refl
unnumbered root s (one_collection name) = unnumbered_collection root (summary_in s name)
unnumbered root s (page name q) = unnumbered_page root name q (page_in s name q)
unnumbered root s (feature name id) = unnumbered_feature root name (feature_in s name id)
unnumbered root s (changes after limit) = refl
unnumbered root s service_status = refl
unnumbered root s (batch b) = refl
