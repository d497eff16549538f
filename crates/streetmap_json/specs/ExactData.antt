-- Data that its JSON text keeps exactly.
use Rattle.std.specs.Prelude.{ℕ, ◌^◌, pos, negsuc, List, Bool, true, false, ◌&&◌, nat_lt}
use Rattle.std.specs.Ordering.{nat_cmp, is_lt}
use Rattle.std.specs.Cmp.Lexicographic.{slice_cmp}
use Rattle.std.specs.Str.{is_utf8}
use Rattle.serde_json.specs.Data.{Num, unsigned, negative, float, Data, null, boolean, number}
use Rattle.serde_json.specs.Data.{string, array, object, Items, no_items, item, Members}
use Rattle.serde_json.specs.Data.{no_members, member}

-- a whole number from -(2 ^ 63) to 2 ^ 64 - 1
abbrev pub is_whole : Num → Bool
is_whole (unsigned n) = nat_lt n (2 ^ 64)
is_whole (negative (pos n)) = false
is_whole (negative (negsuc n)) = nat_lt n (2 ^ 63)
is_whole (float x) = false

-- the name comes before those of all these members, in the order of bytes
abbrev pub is_before : List ℕ → Members → Bool
is_before name no_members = true
is_before name (member other d ms) = is_lt (slice_cmp nat_cmp name other) && is_before name ms

-- every number is whole, every text is UTF-8, and the members of each object are in the order of
-- their names
abbrev mutual
  pub is_exact : Data → Bool
  is_exact null = true
  is_exact (boolean b) = true
  is_exact (number n) = is_whole n
  is_exact (string s) = is_utf8 s
  is_exact (array ds) = are_exact ds
  is_exact (object ms) = are_exact_members ms

  pub are_exact : Items → Bool
  are_exact no_items = true
  are_exact (item d ds) = is_exact d && are_exact ds

  pub are_exact_members : Members → Bool
  are_exact_members no_members = true
  are_exact_members (member name d ms) = is_utf8 name
      && (is_before name ms && (is_exact d && are_exact_members ms))
