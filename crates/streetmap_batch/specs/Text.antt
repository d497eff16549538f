-- Texts as their bytes, and their order.
use Rattle.std.specs.Prelude.{ℕ, List}
use Rattle.std.specs.Ordering.{nat_cmp}
use Rattle.std.specs.Cmp.Lexicographic.{slice_cmp}
use Rattle.std.specs.declared.cmp.Ordering.{Ordering}

-- the bytes of a text in UTF-8
abbrev pub Text : Type 0
Text = List ℕ

-- texts are ordered by their bytes
abbrev pub text_cmp : Text → Text → Ordering
text_cmp = slice_cmp nat_cmp
