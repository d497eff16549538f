-- What tokens begin with.
use Rattle.std.proofs.Common.{◌≡◌, ℕ, List, [], ◌∷◌, Option, None, Some, IfSome, Result, Ok, Err, IfOk, ap, ◌∙◌, arith}
use Rattle.json.specs.Json.{value, parse_map}
use Rattle.json.specs.Token.{Token}
use Rattle.json.proofs.Grammar.{value_is}
use Rattle.serde_json.specs.Data.{null, string, object, Members}
use Rattle.serde_json.specs.Read.{of_json, converted, max_depth}
use Rattle.streetmap_json.specs.Values.{value_at, members_at, whole}
use Rattle.streetmap_json.proofs.Fronts.{object_opens, whole_value}

-- a text
pub string_front : (depth : ℕ) (s : List ℕ) (ts : List Token) → value_at depth (Token.string s ∷ ts) ≡ Some (string s, ts)
string_front depth s ts = ap (converted of_json) (value_is depth (Token.string s ∷ ts))

-- null
pub null_front : (depth : ℕ) (ts : List Token) → value_at depth (Token.null ∷ ts) ≡ Some (null, ts)
null_front depth ts = ap (converted of_json) (value_is depth (Token.null ∷ ts))

-- a fact about a value, if any, implies another about it
pub where_some : {A : Type 0} {P Q : A → Type 0} (o : Option A) → ((a : A) → P a → Q a) → IfSome o P → IfSome o Q
where_some None f h = tt
where_some (Some a) f h = f a h

pub where_found : {A E : Type 0} {P Q : A → Type 0} (r : Result (Option A) E) → ((a : A) → P a → Q a) → IfOk r (λ o. IfSome o P) → IfOk r (λ o. IfSome o Q)
where_found (Ok o) f h = where_some o f h
where_found (Err e) f h = tt

-- an object that is all of the tokens is the value
pub whole_object : (ts : List Token) (ms : Members) → members_at 126 ts ≡ Some (ms, []) → whole (value max_depth (Token.begin_object ∷ ts)) ≡ Some (object ms)
whole_object ts ms e = whole_value (value max_depth (Token.begin_object ∷ ts)) (object ms) (object_opens max_depth ts (omega arith) ∙ ap (parse_map object) e)
