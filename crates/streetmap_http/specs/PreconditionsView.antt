-- The conditions of a request, as a value.
use Rattle.std.specs.Prelude.{List}
use Rattle.streetmap_http.specs.Fields.{FieldValue, pairs}
use Rattle.streetmap_http.specs.Preconditions.{PreconditionsValue, preconditions_in}
use Rattle.streetmap_http.specs.declared.preconditions.Preconditions.{Preconditions}

-- the fields of the head
abbrev pub fields_of : Preconditions → List FieldValue
fields_of p = pairs p.head.now p.fields.now

-- what they list
abbrev pub preconditions_value : Preconditions → PreconditionsValue
preconditions_value p = preconditions_in (fields_of p)
