-- The id of a collection may be a title.
use Rattle.std.proofs.Common.{◌≡◌, ℕ, zero, suc, ◌<◌, ◌≤◌, Bool, true, false, not, ◌&&◌, leb, IsTrue, List, [], ◌∷◌, length, refl, arith}
use Rattle.std.specs.Char.{is_control}
use Rattle.std.specs.List.{list_all}
use Rattle.std.specs.Str.{IsAscii}
use Rattle.std.proofs.lemmas.Bool.{leb-true, le-leb}
use Rattle.std.proofs.lemmas.Bool.Decides.{nat_tests}
use Rattle.std.proofs.lemmas.Grind.{common_steps}
use Rattle.std.proofs.lemmas.Str.{chars-IsAscii}
use Rattle.streetmap_batch.specs.Text.{Text}
use Rattle.streetmap_batch.specs.Names.{is_id_byte, is_collection_id, is_title}

pub both_true : (a b : Bool) → (a && b) ≡ true → (a ≡ true) × (b ≡ true)
both_true true b h = (refl, h)
both_true false b h = cc

-- a byte of an id is a printing character of ASCII
printing_byte : (b : ℕ) → is_id_byte b ≡ true → (32 ≤ b) × (b < 127)
printing_byte b h = (grind (arith, common_steps), grind (arith, common_steps))

no_control : (b : ℕ) → 32 ≤ b → b < 127 → not (is_control b) ≡ true
no_control b low high = grind (arith, nat_tests)

bytes_printing : (s : List ℕ) → list_all is_id_byte s ≡ true → list_all (λ c. not (is_control c)) s ≡ true
bytes_printing [] h = refl
bytes_printing (b ∷ s) h =
    let both = both_true (is_id_byte b) (list_all is_id_byte s) h in
    let low = printing_byte b both.0 in
    rw (no_control b low.0 low.1, bytes_printing s both.1) refl

bytes_ascii : (s : List ℕ) → list_all is_id_byte s ≡ true → IsAscii s
bytes_ascii [] h i = omega arith
bytes_ascii (b ∷ s) h zero =
    let both = both_true (is_id_byte b) (list_all is_id_byte s) h in
    let low = printing_byte b both.0 in
    omega (arith, low.1)
bytes_ascii (b ∷ s) h (suc i) =
    let both = both_true (is_id_byte b) (list_all is_id_byte s) h in
    bytes_ascii s both.1 i

pub id_is_title : (id : Text) → IsTrue (is_collection_id id) → IsTrue (is_title id)
unfolding is_collection_id is_title
id_is_title id h =
    let long = both_true _ _ h in
    let most = (both_true _ _ long.0).1 in
    let bytes = (both_true _ _ long.1).1 in
    let short : length id ≤ 64 = leb-true (length id) 64 most in
    let fits : leb (length id) 256 ≡ true = le-leb (length id) 256 (omega arith) in
    rw (fits, chars-IsAscii id (bytes_ascii id bytes)) (bytes_printing id bytes)
