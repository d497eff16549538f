-- What is known of a collection.
use Rattle.std.specs.Prelude.{option_map, string_bytes}
use Rattle.streetmap_checking.specs.QueryResults.{Known}
use Rattle.streetmap_checking.specs.declared.collections.Head.{Head}

-- its id and its time property
abbrev pub known_of : Head → Known
known_of h = (string_bytes h.id, option_map string_bytes h.time)
