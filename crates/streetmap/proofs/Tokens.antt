-- A token is ASCII.
use Rattle.std.proofs.Common.{◌≡◌, ℕ, zero, suc, ◌<◌, List, [], ◌∷◌, Bool, true, refl, arith}
use Rattle.std.specs.Prelude.{IsUtf8, ◌&&◌, nat_le, length}
use Rattle.std.specs.List.{list_all}
use Rattle.std.specs.Str.{IsAscii}
use Rattle.std.proofs.lemmas.Bool.{and_parts}
use Rattle.std.proofs.lemmas.Bool.Decides.{nat_tests}
use Rattle.std.proofs.lemmas.Str.{IsUtf8-from_ascii}
use Rattle.streetmap.specs.Tokens.{is_visible, is_token}

visible_below : (b : ℕ) → is_visible b ≡ true → b < 128
visible_below b h = let high : nat_le b 126 ≡ true = (and_parts (nat_le 33 b) (nat_le b 126) h).1 in grind (arith, nat_tests)

all_ascii : (text : List ℕ) → list_all is_visible text ≡ true → IsAscii text
all_ascii [] h i = omega arith
all_ascii (b ∷ text) h zero = visible_below b (and_parts (is_visible b) (list_all is_visible text) h).0
all_ascii (b ∷ text) h (suc i) = all_ascii text (and_parts (is_visible b) (list_all is_visible text) h).1 i

pub token_is_utf8 : (text : List ℕ) → is_token text ≡ true → IsUtf8 text
token_is_utf8 text h =
    IsUtf8-from_ascii text (all_ascii text (and_parts (nat_le 16 (length text) && nat_le (length text) 128) (list_all is_visible text) h).1)
