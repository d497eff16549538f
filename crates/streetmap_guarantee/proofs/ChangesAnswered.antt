-- Requests for changes have a limit from 1.
use Rattle.std.proofs.Common.{◌≡◌, ℕ, ◌<◌, ◌≤◌, min, Bool, true, false, List, [], ◌∷◌, length, Option, Some, None, Result, Ok, Err, refl, ap, subst, arith, codes}
use Rattle.std.specs.Prelude.{◌&&◌, not, nat_lt, if◌then◌else◌, unwrap_or, is_some, bytes_eq}
use Rattle.std.specs.Str.{all_ascii_digits}
use Rattle.std.specs.Str.Parse.{digits_value}
use Rattle.std.proofs.lemmas.Bool.Decides.{nat_tests}
use Rattle.streetmap_http.specs.Framing.{HeadValue}
use Rattle.streetmap_http.specs.Preconditions.{PreconditionsValue, are_readable}
use Rattle.streetmap_batch.specs.Text.{Text}
use Rattle.streetmap_batch.specs.BatchValue.{BatchValue}
use Rattle.streetmap_batch.specs.ParsedBatches.{batch_of}
use Rattle.streetmap_batch.specs.declared.batch_fault.BatchFault.{BatchFault}
use Rattle.streetmap_query.specs.Limit.{limit_of}
use Rattle.streetmap_query.specs.Query.{query_of, has_pair}
use Rattle.streetmap_query.specs.QueryValue.{QueryValue}
use Rattle.streetmap_query.specs.declared.fault.QueryFault.{QueryFault}
use Rattle.streetmap_query.specs.declared.fault.QueryFault.TheVariants.{RepeatedParameter, UnknownParameter, BadLimit}
use Rattle.streetmap_bodies.specs.declared.request_fault.RequestFault.{RequestFault}
use Rattle.streetmap_bodies.specs.declared.request_fault.RequestFault.TheVariants.{Query, BadSerial, BadTarget, MethodNotAllowed, BadCondition}
use Rattle.streetmap_http.specs.declared.answer_head.Methods.TheVariants.{Reads}
use Rattle.streetmap_tags.specs.Changes.{changes_in}
use Rattle.streetmap_tags.proofs.NoneLeftOut.{changes_go_on}
use Rattle.streetmap_routes.specs.ChangesQuery.{ChangesValue, no_parameters, serial_of, serial_read, limit_read, set_after, set_limit, with_pair, with_pairs, changes_of, default_limit}
use Rattle.streetmap_routes.specs.Operations.{ResourceValue, landing, api, conformance, collections, collection, items, item, batches, OperationValue, changes, faulty, batch_operation, page_operation, unqueried, without_query, queried, placed, allows, methods_of, resource_at, path_part, query_part, begins_with_slash, operation_of, changes_operation, changes_wanted, changes_path, service_status, status_wanted, status_path, status_or_other, operation_with}
use Rattle.streetmap_routes.specs.declared.offers.Offers.{Offers}
use Rattle.streetmap_web.specs.Guards.{GuardValue, is_of_batch, refusal_by, refused_for, guarded}
use Rattle.streetmap_web.specs.Site.{SiteValue}
use Rattle.streetmap_web.specs.Response.{plainly, needs_state, wanted_of, request_of, response_in}
use Rattle.streetmap_guarantee.specs.Changes.{ChangesAreAnswered}

-- ---- the limit of a query

-- a limit that was given is from 1
abbrev IsLimited : ChangesValue → Type 0
IsLimited q = (n : ℕ) → q.limit ≡ Some n → 1 ≤ n

limited : (text : Text) (n : ℕ) → limit_of text ≡ Some n → 1 ≤ n
limited text n h = by (nat_lt 0 (length text)) (all_ascii_digits text) (nat_lt 0 (digits_value 10 text)) (digits_value 10 text) refl h where
  by : (a b c : Bool) (v : ℕ) → nat_lt 0 v ≡ c → (if a && b && c then Some (min v 1000) else None) ≡ Some n → 1 ≤ n
  by true true true v e is =
      let low : 0 < v = grind (arith, nat_tests) in
      let same : min v 1000 ≡ n = cc in
      omega arith
  by true true false v e is = absurd (let bad : ◌≡◌ {A = Option ℕ} None (Some n) = is in cc)
  by true false c v e is = absurd (let bad : ◌≡◌ {A = Option ℕ} None (Some n) = is in cc)
  by false b c v e is = absurd (let bad : ◌≡◌ {A = Option ℕ} None (Some n) = is in cc)

abbrev Gives : Result ChangesValue RequestFault → Type 0
Gives r = (q : ChangesValue) → r ≡ Ok q → IsLimited q

fails : (fault : RequestFault) → Gives (Err fault)
fails fault q e = absurd (let bad : ◌≡◌ {A = Result ChangesValue RequestFault} (Err fault) (Ok q) = e in cc)

given : (q : ChangesValue) → IsLimited q → Gives (Ok q)
given q h r e = subst IsLimited (let same : q ≡ r = cc in same) h

module _ (q : ChangesValue) (h : IsLimited q) where
  after_gives : (value : Text) → Gives (set_after q value)
  unfolding set_after
  after_gives value = by (is_some q.after) (serial_of value) where
    by : (t : Bool) (o : Option ℕ) → Gives (if t then Err (Query RepeatedParameter) else serial_read o q)
    by true o = fails (Query RepeatedParameter)
    by false None = fails BadSerial
    by false (Some n) = given (record q { after = Some n }) h

  limit_gives : (value : Text) → Gives (set_limit q value)
  unfolding set_limit
  limit_gives value = by (is_some q.limit) (limit_of value) refl where
    one : (n : ℕ) → limit_of value ≡ Some n → IsLimited (record q { limit = Some n })
    one n e m is = let same : n ≡ m = cc in subst (λ (k : ℕ). 1 ≤ k) same (limited value n e)

    by : (t : Bool) (o : Option ℕ) → limit_of value ≡ o → Gives (if t then Err (Query RepeatedParameter) else limit_read o q)
    by true o e = fails (Query RepeatedParameter)
    by false None e = fails (Query BadLimit)
    by false (Some n) e = given (record q { limit = Some n }) (one n e)

  pair_gives : (name value : Text) → Gives (with_pair q name value)
  unfolding with_pair
  pair_gives name value = by (bytes_eq name (codes "after")) (bytes_eq name (codes "limit")) where
    by : (a b : Bool) → Gives (if a then set_after q value else (if b then set_limit q value else Err (Query UnknownParameter)))
    by true b = after_gives value
    by false true = limit_gives value
    by false false = fails (Query UnknownParameter)

pairs_give : (pairs : List (Text × Text)) (r : Result ChangesValue RequestFault) → Gives r → Gives (with_pairs r pairs)
pairs_give [] (Ok q) h = h
pairs_give [] (Err fault) h = fails fault
pairs_give (p ∷ ps) (Err fault) h = fails fault
pairs_give (p ∷ ps) (Ok q) h = pairs_give ps (with_pair q p.0 p.1) (pair_gives q (h q refl) p.0 p.1)

none_given : Gives (Ok no_parameters)
none_given = given no_parameters none where
  none : IsLimited no_parameters
  none n e = absurd (let bad : ◌≡◌ {A = Option ℕ} None (Some n) = e in cc)

query_gives : (query : Option Text) → Gives (changes_of query)
query_gives None = none_given
query_gives (Some text) = pairs_give _ (Ok no_parameters) none_given

-- ---- the limit of a request

-- if changes are wanted, the limit is from 1
abbrev FromOne : OperationValue → Type 0
FromOne o = (after limit : ℕ) → o ≡ changes after limit → 1 ≤ limit

wanted_from_one : (r : Result ChangesValue RequestFault) → Gives r → FromOne (changes_operation r)
wanted_from_one (Err fault) h after limit e = absurd (let bad : faulty fault ≡ changes after limit = e in cc)
wanted_from_one (Ok q) h after limit e = by q.limit refl same where
  same : unwrap_or q.limit default_limit ≡ limit
  same = cc

  by : (o : Option ℕ) → q.limit ≡ o → unwrap_or o default_limit ≡ limit → 1 ≤ limit
  by None is so = omega (arith, so)
  by (Some n) is so = subst (λ (k : ℕ). 1 ≤ k) so (h q refl n is)

no_change : (o : OperationValue) → ((after limit : ℕ) → o ≡ changes after limit → ⊥) → FromOne o
no_change o none after limit e = absurd (none after limit e)

page_is_none : (name : Text) (r : Result QueryValue QueryFault) (after limit : ℕ) → page_operation name r ≡ changes after limit → ⊥
page_is_none name (Ok q) after limit e = cc
page_is_none name (Err fault) after limit e = cc

batch_is_none : (r : Result BatchValue BatchFault) (after limit : ℕ) → batch_operation r ≡ changes after limit → ⊥
batch_is_none (Ok b) after limit e = cc
batch_is_none (Err fault) after limit e = cc

plain_is_none : (r : ResourceValue) (body : Text) (after limit : ℕ) → unqueried r body ≡ changes after limit → ⊥
plain_is_none landing body after limit e = cc
plain_is_none api body after limit e = cc
plain_is_none conformance body after limit e = cc
plain_is_none collections body after limit e = cc
plain_is_none (collection name) body after limit e = cc
plain_is_none (items name) body after limit e = page_is_none name (query_of None) after limit e
plain_is_none (item name id) body after limit e = cc
plain_is_none batches body after limit e = batch_is_none (batch_of body) after limit e

without_is_none : (r : ResourceValue) (query : Option Text) (body : Text) (after limit : ℕ) → without_query r query body ≡ changes after limit → ⊥
without_is_none r query body after limit = by (has_pair query) where
  by : (t : Bool) → (if t then faulty (Query UnknownParameter) else unqueried r body) ≡ changes after limit → ⊥
  by true e = cc
  by false e = plain_is_none r body after limit e

queried_is_none : (r : ResourceValue) (query : Option Text) (body : Text) (after limit : ℕ) → queried r query body ≡ changes after limit → ⊥
queried_is_none landing query body after limit e = without_is_none landing query body after limit e
queried_is_none api query body after limit e = without_is_none api query body after limit e
queried_is_none conformance query body after limit e = without_is_none conformance query body after limit e
queried_is_none collections query body after limit e = without_is_none collections query body after limit e
queried_is_none (collection name) query body after limit e = without_is_none (collection name) query body after limit e
queried_is_none (items name) query body after limit e = page_is_none name (query_of query) after limit e
queried_is_none (item name id) query body after limit e = without_is_none (item name id) query body after limit e
queried_is_none batches query body after limit e = without_is_none batches query body after limit e

placed_is_none : (o : Option ResourceValue) (method : Text) (query : Option Text) (body : Text) (after limit : ℕ) → placed o method query body ≡ changes after limit → ⊥
placed_is_none None method query body after limit e = cc
placed_is_none (Some r) method query body after limit e = by (allows (methods_of r) method) e where
  by : (t : Bool) → (if t then queried r query body else faulty (MethodNotAllowed (methods_of r))) ≡ changes after limit → ⊥
  by true e = queried_is_none r query body after limit e
  by false e = cc

operation_is_none : (method target body : Text) (after limit : ℕ) → operation_of method target body ≡ changes after limit → ⊥
unfolding operation_of
operation_is_none method target body after limit = by (begins_with_slash target) where
  by : (t : Bool) → (if t then placed (resource_at (path_part target)) method (query_part target) body else faulty BadTarget) ≡ changes after limit → ⊥
  by true e = placed_is_none (resource_at (path_part target)) method (query_part target) body after limit e
  by false e = cc

status_is_none : (offered : Bool) (method target body : Text) (after limit : ℕ) → status_or_other offered method target body ≡ changes after limit → ⊥
status_is_none offered method target body after limit = by (offered && bytes_eq (path_part target) status_path) where
  read : (t : Bool) → (if t then faulty (Query UnknownParameter) else service_status) ≡ changes after limit → ⊥
  read true e = cc
  read false e = cc

  allowed : (t : Bool) → (if t then (if has_pair (query_part target) then faulty (Query UnknownParameter) else service_status)
      else faulty (MethodNotAllowed Reads)) ≡ changes after limit → ⊥
  allowed true e = read (has_pair (query_part target)) e
  allowed false e = cc

  by : (t : Bool) → (if t then status_wanted method (query_part target) else operation_of method target body) ≡ changes after limit → ⊥
  by true e = allowed (allows Reads method) e
  by false e = operation_is_none method target body after limit e

with_from_one : (offers : Offers) (method target body : Text) → FromOne (operation_with offers method target body)
unfolding operation_with
with_from_one offers method target body = by (offers.changes && bytes_eq (path_part target) changes_path) where
  allowed : (t : Bool) → FromOne (if t then changes_operation (changes_of (query_part target)) else faulty (MethodNotAllowed Reads))
  allowed true = wanted_from_one (changes_of (query_part target)) (query_gives (query_part target))
  allowed false = no_change (faulty (MethodNotAllowed Reads)) (λ after limit e. cc)

  by : (t : Bool) → FromOne (if t then changes_wanted method (query_part target) else status_or_other offers.status method target body)
  by true = allowed (allows Reads method)
  by false = no_change (status_or_other offers.status method target body) (status_is_none offers.status method target body)

wanted_is : (tags numbered : Bool) (p : PreconditionsValue) (o : OperationValue) → FromOne o → FromOne (wanted_of tags numbered p o).operation
wanted_is false numbered p o h = h
wanted_is true numbered p o h = by (needs_state o && not (are_readable p)) where
  by : (t : Bool) → FromOne (if t then plainly (faulty BadCondition) else record { operation = o; conditions = Some p; numbered = numbered }).operation
  by true = no_change (faulty BadCondition) (λ after limit e. cc)
  by false = h

guarded_is : (guard : GuardValue) (token : Option Text) (o : OperationValue) → FromOne o → FromOne (guarded guard token o)
unfolding guarded
guarded_is guard token o h = by (refusal_by guard token) where
  held : (fault : RequestFault) (t : Bool) → FromOne (if t then faulty fault else o)
  held fault true = no_change (faulty fault) (λ after limit e. cc)
  held fault false = h

  by : (r : Option RequestFault) → FromOne (refused_for r o)
  by None = h
  by (Some fault) = held fault (is_of_batch o)

request_from_one : (site : SiteValue) (h : HeadValue) (body : Text) → FromOne (request_of site h body).wanted.operation
request_from_one site h body =
    wanted_is site.tags site.offers.status h.preconditions (guarded site.guard h.token (operation_with site.offers h.method h.target body))
    (guarded_is site.guard h.token (operation_with site.offers h.method h.target body) (with_from_one site.offers h.method h.target body))

pub changes_are_answered : ChangesAreAnswered
changes_are_answered site h body s after limit sound is = record {
  batches = changes_in s after limit;
  go_on = changes_go_on s after limit sound (request_from_one site h body after limit is);
  lines = ap (response_in site.root s) is;
}
