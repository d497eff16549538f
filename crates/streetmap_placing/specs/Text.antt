-- What the text of a feature is read as.
use Rattle.std.specs.Prelude.{◌≡◌, ℕ, List, Option, None, Some, option_and_then, if◌then◌else◌}
use Rattle.std.specs.Prelude.{Bool, true, false, Result, Ok, Err}
use Rattle.std.specs.Str.{is_utf8}
use Rattle.json.specs.Json.{Json, value, if_last}
use Rattle.json.specs.Lex.{tokens}
use Rattle.json.specs.Token.{Token}
use Rattle.serde_json.specs.Data.{Data}
use Rattle.serde_json.specs.Read.{max_depth}
use Rattle.streetmap_decimal.specs.declared.placement.Placement.{Placement}
use Rattle.streetmap_json.specs.JsonText.{json_value}
use Rattle.streetmap_placing.specs.Placed.{Becomes, value_or_fault}
use Rattle.streetmap_placing.specs.declared.fault.PlacingFault.{PlacingFault}
use Rattle.streetmap_placing.specs.declared.fault.PlacingFault.TheVariants.{Memory, NotJson}
use Rattle.streetmap_placing.specs.declared.fault.PlacingFault.TheVariants.{TooManyDigits}
use Rattle.streetmap_placing.specs.declared.fault.PlacingFault.TheVariants.{OutOfGrid, Fraction}
use Rattle.streetmap_placing.specs.declared.numbers.Numbers.{Numbers}
use Rattle.streetmap_placing.specs.declared.numbers.Fractions.{Fractions}
use Rattle.streetmap_placing.specs.declared.numbers.Fractions.TheVariants.{Number, Text}
use Rattle.streetmap_placing.specs.declared.role.Role.TheVariants.{Feature}

-- the value of tokens, its numbers as they are written
abbrev pub tree_of : List Token → Option Json
tree_of ts = option_and_then (λ p. if_last p.0 p.1) (value max_depth ts)

abbrev pub text_tree : List ℕ → Option Json
text_tree text = tree_of (tokens text)

-- the value of a text in UTF-8 (RFC 8259), its numbers as they are written
abbrev pub utf8_tree : List ℕ → Option Json
utf8_tree bytes = if is_utf8 bytes then text_tree bytes else None

-- what was parsed is the value of the tokens, unless memory ran out
abbrev pub ParsesAs : {X : Type 0} → (X → Json) → Result X PlacingFault → List Token → Type 0
ParsesAs view (Ok x) ts = tree_of ts ≡ Some (view x)
ParsesAs view (Err Memory) ts = Unit {0}
ParsesAs view (Err NotJson) ts = tree_of ts ≡ None
ParsesAs view (Err TooManyDigits) ts = ⊥
ParsesAs view (Err OutOfGrid) ts = ⊥
ParsesAs view (Err Fraction) ts = ⊥

-- what the value of a feature becomes, or `NotJson` if the text has none
abbrev pub TextBecomes : Numbers → Option Json → Result Data PlacingFault → Type 0
TextBecomes n None r = r ≡ Err NotJson
TextBecomes n (Some j) r = Becomes n Feature j r

-- whether the options change anything
abbrev pub is_requested : Option Placement → Fractions → Bool
is_requested None Number = false
is_requested None Text = true
is_requested (Some p) f = true

-- what the value of the feature becomes, if the options change anything, and otherwise the value
-- of the JSON text
abbrev pub ReadsBy : Bool → Numbers → List ℕ → Result Data PlacingFault → Type 0
ReadsBy true n text r = TextBecomes n (utf8_tree text) r
ReadsBy false n text r = r ≡ value_or_fault (json_value text)

abbrev pub IsReadAs : Numbers → List ℕ → Result Data PlacingFault → Type 0
IsReadAs n = ReadsBy (is_requested n.placement n.fractions) n
