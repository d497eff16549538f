-- Lines of the log.
use Rattle.std.proofs.Common.{◌≡◌, ◌<◌, ℕ, zero, suc, List, [], ◌∷◌, Bool, true, false, ◌&&◌, cond, refl, sym, arith}
use Rattle.std.specs.List.{list_all}
use Rattle.std.specs.Str.{IsAscii, IsUtf8}
use Rattle.std.proofs.lemmas.Str.{IsUtf8-from_ascii}
use Rattle.std.proofs.lemmas.Bool.{false≢true}
use Rattle.std.proofs.lemmas.Bool.Decides.{nat_tests}
use Rattle.streetmap_web.specs.Log.{is_logged_byte, is_plain_text}

both : (a b : Bool) → a && b ≡ true → (a ≡ true) × (b ≡ true)
both true b e = (refl, e)
both false b e = absurd (false≢true e)

logged_is_ascii : (byte : ℕ) → is_logged_byte byte ≡ true → byte < 128
logged_is_ascii byte logged = grind (arith, nat_tests)

logged_are_ascii : (line : List ℕ) → list_all is_logged_byte line ≡ true → IsAscii line
logged_are_ascii [] logged i = omega arith
logged_are_ascii (byte ∷ line) logged zero = logged_is_ascii byte (both (is_logged_byte byte) (list_all is_logged_byte line) logged).0
logged_are_ascii (byte ∷ line) logged (suc i) = logged_are_ascii line (both (is_logged_byte byte) (list_all is_logged_byte line) logged).1 i

plain_by : (line : List ℕ) (fits logged : Bool) → ¬ (IsUtf8 line) → (logged ≡ true → IsUtf8 line) → fits && logged ≡ false
plain_by line false logged none text = refl
plain_by line true false none text = refl
plain_by line true true none text = absurd (none (text refl))

pub not_plain : (line : List ℕ) → ¬ (IsUtf8 line) → is_plain_text line ≡ false
not_plain line none = plain_by line _ (list_all is_logged_byte line) none (λ logged. IsUtf8-from_ascii line (logged_are_ascii line logged))

pub shown_as_it_is_not : (line other : List ℕ) (plain : Bool) → plain ≡ false → other ≡ cond plain line other
shown_as_it_is_not line other false e = refl
shown_as_it_is_not line other true e = absurd (false≢true (sym e))

-- the test of all bytes, if the line fits
pub all_within : (r fits logged : Bool) → r ≡ logged → fits ≡ true → r ≡ (fits && logged)
all_within r true logged e f = e
all_within r false logged e f = absurd (false≢true f)
