-- The query that a text means, or the first fault in it; and the text that is written for a query.
use Rattle.std.specs.Prelude.{◌≡◌, ℕ, Bool, false, List, [], ◌∷◌, map, Option, Some, None, length}
use Rattle.std.specs.Prelude.{nat_lt, option_map, Result, Ok, codes, decimal, IsTrue}
use Rattle.std.specs.Option.{ForSome}
use Rattle.std.specs.Str.Lossy.{utf8_lossy}
use Rattle.form_urlencoded.specs.Form.{raw_pairs, decode, extend_pairs}
use Rattle.streetmap_moment.specs.Intervals.{interval_of}
use Rattle.streetmap_geojson.specs.Id.{is_id}
use Rattle.streetmap_query.specs.declared.fault.QueryFault.{QueryFault}
use Rattle.streetmap_query.specs.Limit.{IsLimit}
use Rattle.streetmap_grid.specs.WellFormed.{IsBox}
use Rattle.streetmap_query.specs.Box.{box_text}
use Rattle.streetmap_query.specs.QueryValue.{QueryValue}
use Rattle.streetmap_query.specs.Parameters.{ParametersValue, no_parameters, query_by, with_pairs}
use Rattle.streetmap_query.specs.Parameters.{◌>>=◌}

-- the text that an encoded name or value represents; bytes that are not UTF-8 are read as U+FFFD
abbrev pub text_of : List ℕ → List ℕ
text_of bytes = utf8_lossy (decode bytes)

-- the pairs as texts
abbrev pub decoded : List (List ℕ × List ℕ) → List (List ℕ × List ℕ)
decoded pairs = map (λ pair. (text_of pair.0, text_of pair.1)) pairs

-- the parameters of a query text; URL Standard, 5.1: the pairs of a form
abbrev pub parameters_of : List ℕ → Result ParametersValue QueryFault
parameters_of text = with_pairs no_parameters (decoded (raw_pairs text))

-- the query of a query text, or of no text
abbrev pub query_of : Option (List ℕ) → Result QueryValue QueryFault
query_of None = Ok (query_by no_parameters)
query_of (Some text) = parameters_of text >>= λ p. Ok (query_by p)

-- some pair occurs in the query text; if no parameter is known each pair is a fault
abbrev pub has_pair : Option (List ℕ) → Bool
has_pair None = false
has_pair (Some text) = nat_lt 0 (length (raw_pairs text))

-- ---- writing

-- a pair of this name, if a value is given, and others after it
abbrev pub pair_if : List ℕ → Option (List ℕ) → List (List ℕ × List ℕ) → List (List ℕ × List ℕ)
pair_if name None others = others
pair_if name (Some value) others = (name, value) ∷ others

-- the pairs of a query in the order of their names; `limit` is always present
abbrev pub pairs_of : QueryValue → List (List ℕ × List ℕ)
pairs_of q =
    pair_if (codes "after") q.after
    (pair_if (codes "bbox") (option_map box_text q.bbox)
    (pair_if (codes "datetime") (option_map (λ t. t.text) q.datetime)
    ((codes "limit", decimal q.limit) ∷ [])))

-- the text of a query; URL Standard, 5.2
abbrev pub query_text : QueryValue → List ℕ
query_text q = extend_pairs [] (pairs_of q)

-- what holds of every query, whatever text it was read from
pub record IsQuery (q : QueryValue) : Type 0 where
  pub bbox : ForSome q.bbox IsBox
  pub datetime : ForSome q.datetime (λ t. interval_of t.text ≡ Ok t.interval)
  pub limit : IsLimit q.limit
  pub after : ForSome q.after (λ id. IsTrue (is_id id))
