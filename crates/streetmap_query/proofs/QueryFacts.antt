-- What a query keeps makes its text read again.
use Rattle.std.proofs.Common.{◌≡◌, ℕ, List, Option, Some, None, Result, Ok, Err, subst}
use Rattle.std.specs.Prelude.{IfOk, IsTrue, String, string_bytes, option_map}
use Rattle.std.specs.Option.{ForSome}
use Rattle.std.proofs.lemmas.Option.{none-some, same_Some}
use Rattle.streetmap_grid.specs.declared.grid_box.GridBox.{GridBox}
use Rattle.streetmap_grid.specs.Views.{box_value}
use Rattle.streetmap_grid.specs.WellFormed.{IsBox}
use Rattle.streetmap_moment.specs.Intervals.{interval_of}
use Rattle.streetmap_geojson.specs.Id.{is_id}
use Rattle.streetmap_query.specs.declared.datetimes.Datetime.{Datetime}
use Rattle.streetmap_query.specs.declared.queries.Query.{Query}
use Rattle.streetmap_query.specs.Query.{IsQuery, query_text, query_of}
use Rattle.streetmap_query.specs.QueryValue.{DatetimeValue}
use Rattle.streetmap_query.specs.Text.{IsText}
use Rattle.streetmap_query.specs.Views.{datetime_value, query_value}
use Rattle.streetmap_query.proofs.TextFacts.{query_again}

is_box : (b : GridBox) → IsBox (box_value b)
is_box b = (b.west, b.south, b.east, b.north, b.wide, b.tall)

box_kept : (b : Option GridBox) → ForSome (option_map box_value b) IsBox
box_kept None = λ x e. absurd (none-some x e)
box_kept (Some b) = λ x e. subst IsBox (same_Some (box_value b) x e) (is_box b)

datetime_kept : (t : Option Datetime) → ForSome (option_map datetime_value t) (λ x. interval_of x.text ≡ Ok x.interval)
datetime_kept None = λ x e. absurd (none-some x e)
datetime_kept (Some t) = λ x e. subst (λ (x : DatetimeValue). interval_of x.text ≡ Ok x.interval) (same_Some (datetime_value t) x e) t.reads

is_query : (q : Query) (a : Option (List ℕ)) → ForSome a (λ id. IsTrue (is_id id)) → IsQuery (record (query_value q) { after = a })
is_query q a is = record { bbox = box_kept q.bbox; datetime = datetime_kept q.datetime; limit = q.limited; after = is }

-- what an answer of a call that wrote such a text says
pub reads_again : {A E : Type 0} (q : Query) (a : Option (List ℕ)) (r : Result (String A) E) → ForSome a (λ id. IsTrue (is_id id))
    → IfOk r (λ text. string_bytes text ≡ query_text (record (query_value q) { after = a }))
    → IfOk r (λ _. ForSome a IsText) → IfOk r (λ _. ForSome (query_value q).datetime (λ x. IsText x.text))
    → IfOk r (λ text. query_of (Some (string_bytes text)) ≡ Ok (record (query_value q) { after = a }))
reads_again q a (Ok text) is e following dt = query_again (record (query_value q) { after = a }) (string_bytes text) (is_query q a is) following dt e
reads_again q a (Err _) is e following dt = tt
