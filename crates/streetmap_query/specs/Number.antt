-- Reading numbers at the front of a text: what was read, and the bytes after it.
use Rattle.std.specs.Prelude.{ℕ, ◌+◌, ◌-◌, ◌*◌, ◌==◌, nat_le, List, [], ◌∷◌, Option, Some, None}
use Rattle.std.specs.Prelude.{option_map, option_and_then, if◌then◌else◌, ℤ, pos, neg_ℤ}
use Rattle.std.specs.Borrow.{Bor}
use Rattle.std.specs.Char.{is_ascii_digit}

-- the farthest bound of a box from 0, in millimetres
abbrev pub reach : ℕ
reach = 2_000_000_000

-- continues with a value, if any
infixl 10 ◌>>=◌
abbrev pub ◌>>=◌ : {A B : Type 0} → Option A → (A → Option B) → Option B
o >>= f = option_and_then f o

-- the result of a reader in the code, with the bytes after it as a list
abbrev pub read_view : {A : Type 0} → Option (A × Bor (List ℕ)) → Option (A × List ℕ)
read_view r = option_map (λ x. (x.0, x.1.now)) r

-- one digit
unfoldable pub digit_at : List ℕ → Option (ℕ × List ℕ)
digit_at [] = None
digit_at (b ∷ rest) = if is_ascii_digit b then Some (b - 48, rest) else None

-- the number with the run of digits after those of `n`; none if they are more than `room`
unfoldable pub digits_at : (room n : ℕ) → List ℕ → Option (ℕ × List ℕ)
digits_at room n [] = Some (n, [])
digits_at room n (b ∷ rest) =
    if is_ascii_digit b then (if room == 0 then None
    else digits_at (room - 1) (10 * n + (b - 48)) rest)
    else Some (n, b ∷ rest)

-- 1 to 19 digits
unfoldable pub whole_at : List ℕ → Option (ℕ × List ℕ)
whole_at text = do
  first ← digit_at text
  digits_at 18 first.0 first.1

-- what follows the zeros at the front
unfoldable pub zeros_from : List ℕ → List ℕ
zeros_from [] = []
zeros_from (b ∷ rest) = if b == 48 then zeros_from rest else b ∷ rest

-- one or more zeros
abbrev pub some_zeros : List ℕ → Option (List ℕ)
some_zeros [] = None
some_zeros (b ∷ rest) = if b == 48 then Some (zeros_from rest) else None

-- a point and one or more zeros, or nothing
unfoldable pub fraction_at : List ℕ → Option (List ℕ)
fraction_at [] = Some []
fraction_at (b ∷ rest) = if b == 46 then some_zeros rest else Some (b ∷ rest)

-- a number without a sign, up to the farthest bound
unfoldable pub unsigned_at : List ℕ → Option (ℤ × List ℕ)
unsigned_at text = do
  number ← whole_at text
  rest ← fraction_at number.1
  if nat_le number.0 reach then Some (pos number.0, rest) else None

-- a bound of a box, with a minus or without
unfoldable pub bound_at : List ℕ → Option (ℤ × List ℕ)
bound_at [] = None
bound_at (b ∷ rest) =
    if b == 45 then option_map (λ x. (neg_ℤ x.0, x.1)) (unsigned_at rest)
    else unsigned_at (b ∷ rest)

-- a comma
unfoldable pub comma_at : List ℕ → Option (List ℕ)
comma_at [] = None
comma_at (b ∷ rest) = if b == 44 then Some rest else None
