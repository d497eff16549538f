-- Each text is placed.
use Rattle.std.proofs.Common.{◌≡◌, ◌≢◌, ℕ, suc, ◌+◌, ◌*◌, ◌/◌, ◌%◌, ◌^◌, ◌<◌, ◌≤◌, ◌==◌, Bool, true, false, inl, List, length, Option, Some, None, Result, Ok, Err, ℤ, pos, negsuc, ◌+ℤ◌, refl, sym, subst, ◌∙◌, arith}
use Rattle.std.specs.Prelude.{unsigned_abs, int_lt, nat_lt, nat_le, if◌then◌else◌}
use Rattle.std.specs.Option.{ok_or, option_eq}
use Rattle.std.specs.Ordering.{int_eq}
use Rattle.std.proofs.lemmas.Bool.{false≢true}
use Rattle.std.proofs.lemmas.Bool.Decides.{nat_tests}
use Rattle.std.proofs.lemmas.Option.{none-some}
use Rattle.streetmap_decimal.specs.declared.fault.DecimalFault.{DecimalFault}
use Rattle.streetmap_decimal.specs.declared.fault.DecimalFault.TheVariants.{TooManyDigits, OutOfGrid, Fraction}
use Rattle.streetmap_decimal.specs.declared.rounding.Rounding.{Rounding}
use Rattle.streetmap_decimal.specs.declared.rounding.Rounding.TheVariants.{Exact, Nearest}
use Rattle.streetmap_decimal.specs.NumberText.{NumberComponents}
use Rattle.streetmap_decimal.specs.NumberParts.{components_of}
use Rattle.streetmap_decimal.specs.Decimal.{Then, ReadsDecimal, Shifts, Counts, Sides, Encloses, with_sign_of}
use Rattle.streetmap_decimal.specs.Grid.{IsWholeNumber, RoundsTo, IsExactCoordinate, Agrees, Places, PlacesText, placed}
use Rattle.streetmap_decimal.specs.Placements.{◌>>=◌, decimal_of, read_decimal, limited, shifted, count_of, ceiling, sides_of, counts_around, nearest_of, coordinate_at, whole_coordinate, agreed, placed_decimal, placed_text}
use Rattle.streetmap_decimal.proofs.Grammar.{components_take, components_again}
use Rattle.streetmap_decimal.proofs.Powers.{pow_some, whole_quotient, multiple_mod, floor_of, whole_ceiling, rest_ceiling}
use Rattle.streetmap_decimal.proofs.Signs.{sign_of}
use Rattle.streetmap_decimal.proofs.Shifting.{counts_ok, counts_err}
use Rattle.streetmap_decimal.proofs.NearestFacts.{nearest_is, in_grid, out_of_grid, whole_rest, whole_is}
use Rattle.streetmap_decimal.proofs.Rounded.{nearest_once, agrees_ok, agrees_err, equal_options, same_options}
use Rattle.streetmap_decimal.proofs.Steps.{then_next}

-- two steps, if each satisfies its own relation
then_is : {A B : Type 0} (First : Result A DecimalFault → Type 0)
    (Next : A → Result B DecimalFault → Type 0) (r : Result A DecimalFault)
    (next : A → Result B DecimalFault) → First r → ((a : A) → Next a (next a))
    → Then First Next (r >>= next)
then_is First Next (Ok a) next h k = then_next First Next a (next a) h (k a)
then_is First Next (Err f) next h k = inl h

-- ---- a text

decimal_reads : (text : List ℕ) (o : Option NumberComponents) → components_of text ≡ o
    → length text ≤ 38 → ReadsDecimal text (decimal_of o)
decimal_reads text None e short = (
  short,
  λ m x h. none-some _ (sym e ∙ components_again text h.components h.is_text),
)
decimal_reads text (Some n) e short = (
  short,
  record {
    components = n;
    is_text = components_take text n e;
    mantissa_is = refl;
    exponent_is = refl;
  },
)

reads_by : (text : List ℕ) (b : Bool) → nat_lt 38 (length text) ≡ b
    → ReadsDecimal text (if b then Err TooManyDigits else decimal_of (components_of text))
reads_by text true e = grind (arith, nat_tests)
reads_by text false e =
    let short : length text ≤ 38 = grind (arith, nat_tests) in
    decimal_reads text (components_of text) refl short

reads_is : (text : List ℕ) → ReadsDecimal text (read_decimal text)
reads_is text = reads_by text (nat_lt 38 (length text)) refl

-- ---- a count

limited_by : (P : Result ℕ DecimalFault → Type 0) (u : ℕ) (b : Bool) → nat_lt u (10 ^ 37) ≡ b
    → (u < 10 ^ 37 → P (Ok u)) → (10 ^ 37 ≤ u → P (Err OutOfGrid))
    → P (if b then Ok u else Err OutOfGrid)
limited_by P u true e fits over = let small : u < 10 ^ 37 = grind (arith, nat_tests) in fits small
limited_by P u false e fits over = let large : 10 ^ 37 ≤ u = grind (arith, nat_tests) in over large

limited_is : (P : Result ℕ DecimalFault → Type 0) (u : ℕ) → (u < 10 ^ 37 → P (Ok u))
    → (10 ^ 37 ≤ u → P (Err OutOfGrid)) → P (limited u)
limited_is P u fits over = limited_by P u (nat_lt u (10 ^ 37)) refl fits over

shifts_by : (n k : ℕ) (b : Bool) → ((n % 10 ^ suc k) == 0) ≡ b
    → Shifts n (negsuc k) (if b then limited (n / 10 ^ suc k) else Err TooManyDigits)
shifts_by n k true e =
    let p = 10 ^ suc k in
    let rest : n % p ≡ 0 = grind (arith, nat_tests) in
    let whole = whole_quotient n p rest in
    limited_is (Shifts n (negsuc k)) (n / p) (λ small. (whole, small))
    (λ large. (n / p, (whole, large)))
shifts_by n k false e = λ u h.
    let rest : n % 10 ^ suc k ≡ 0 = multiple_mod n (10 ^ suc k) u h in grind (arith, nat_tests)

shifts_is : (n : ℕ) (k : ℤ) → Shifts n k (shifted n k)
shifts_is n (pos k) =
    limited_is (Shifts n (pos k)) (n * 10 ^ k) (λ small. (refl, small))
    (λ large. (n * 10 ^ k, (refl, large)))
shifts_is n (negsuc k) = shifts_by n k ((n % 10 ^ suc k) == 0) refl

counts_by : (places : ℕ) (m e : ℤ) (r : Result ℕ DecimalFault)
    → Shifts (unsigned_abs m) (e +ℤ pos places) r
    → Counts places m e (r >>= λ u. Ok (with_sign_of m u))
counts_by places m e (Ok u) h = counts_ok places (int_lt m (pos 0)) m e u (sign_of m) h
counts_by places m e (Err f) h = counts_err places (int_lt m (pos 0)) m e f (sign_of m) h

counts_is : (places : ℕ) (m e : ℤ) → Counts places m e (count_of places m e)
counts_is places m e =
    let k = e +ℤ pos places in
    counts_by places m e (shifted (unsigned_abs m) k) (shifts_is (unsigned_abs m) k)

-- ---- the counts on both sides

ceiling_by : (n p : ℕ) (b : Bool) → 1 ≤ p → ((n % p) == 0) ≡ b
    → (n ≤ (if b then n / p else n / p + 1) * p)
    × ((if b then n / p else n / p + 1) * p < n + p)
ceiling_by n p true some e =
    let rest : n % p ≡ 0 = grind (arith, nat_tests) in whole_ceiling n p some rest
ceiling_by n p false some e =
    let rest : n % p ≢ 0 = grind (arith, nat_tests) in rest_ceiling n p some rest

sides_is : (n : ℕ) (k : ℤ) → Sides n k (sides_of n k)
sides_is n (pos k) =
    limited_is (λ r. Sides n (pos k) (r >>= λ u. Ok (u, u))) (n * 10 ^ k)
    (λ small. (refl, refl, small)) (λ large. (n * 10 ^ k, (refl, large)))
sides_is n (negsuc k) =
    let p = 10 ^ suc k in
    let low = floor_of n p (pow_some (suc k)) in
    let high = ceiling_by n p ((n % p) == 0) (pow_some (suc k)) refl in
    limited_is (λ r. Sides n (negsuc k) (r >>= λ u. Ok (u, ceiling n p))) (n / p)
    (λ small. (low, high, small)) (λ large. (n / p, (low, large)))

encloses_by : (places : ℕ) (m e : ℤ) (r : Result (ℕ × ℕ) DecimalFault)
    → Sides (unsigned_abs m) (e +ℤ pos places) r
    → Encloses places m e (r >>= λ s. Ok (with_sign_of m s.0, with_sign_of m s.1))
encloses_by places m e (Ok s) h = (s, (h, (refl, refl)))
encloses_by places m e (Err f) h = h

encloses_is : (places : ℕ) (m e : ℤ) → Encloses places m e (counts_around places m e)
encloses_is places m e =
    let k = e +ℤ pos places in
    encloses_by places m e (sides_of (unsigned_abs m) k) (sides_is (unsigned_abs m) k)

-- ---- the grid

rounds_by : (z : ℤ) (b : Bool) → nat_le (nearest_of (unsigned_abs z)) 1_000_000_000 ≡ b
    → RoundsTo z (if b then Some (with_sign_of z (nearest_of (unsigned_abs z))) else None)
rounds_by z true e =
    let n = nearest_of (unsigned_abs z) in
    let within : n ≤ 1_000_000_000 = grind (arith, nat_tests) in
    (nearest_is z, in_grid (int_lt z (pos 0)) n within)
rounds_by z false e =
    let n = nearest_of (unsigned_abs z) in
    let past : 1_000_000_000 < n = grind (arith, nat_tests) in
    (with_sign_of z n, (nearest_is z, out_of_grid (int_lt z (pos 0)) n past))

rounds_is : (z : ℤ) → RoundsTo z (coordinate_at z)
rounds_is z = rounds_by z (nat_le (nearest_of (unsigned_abs z)) 1_000_000_000) refl

coordinate_by : (z g : ℤ) (b : Bool) → RoundsTo z (Some g) → ((unsigned_abs z % 10 ^ 27) == 0) ≡ b
    → IsExactCoordinate z (if b then Ok g else Err Fraction)
coordinate_by z g true h e =
    let rest : unsigned_abs z % 10 ^ 27 ≡ 0 = grind (arith, nat_tests) in
    let same = nearest_once z (with_sign_of z (nearest_of (unsigned_abs z))) g (nearest_is z) h.0 in
    (h, subst (IsWholeNumber z) same (whole_is z rest))
coordinate_by z g false h e = (
  g,
  (
    h,
    λ whole.
        let rest : unsigned_abs z % 10 ^ 27 ≡ 0 = whole_rest z g whole in grind (arith, nat_tests),
  ),
)

coordinate_of : (z : ℤ) (o : Option ℤ) → RoundsTo z o
    → IsExactCoordinate z (whole_coordinate (unsigned_abs z % 10 ^ 27) o)
coordinate_of z None h = h
coordinate_of z (Some g) h = coordinate_by z g ((unsigned_abs z % 10 ^ 27) == 0) h refl

coordinate_is : (z : ℤ) → IsExactCoordinate z (whole_coordinate (unsigned_abs z % 10 ^ 27) (coordinate_at z))
coordinate_is z = coordinate_of z (coordinate_at z) (rounds_is z)

agrees_by : (y z : ℤ) (near far : Option ℤ) (b : Bool) → RoundsTo y near → RoundsTo z far
    → option_eq int_eq far near ≡ b
    → Agrees y z (if b then ok_or near OutOfGrid else Err TooManyDigits)
agrees_by y z near far true h i e =
    agrees_ok y z near h (subst (RoundsTo z) (equal_options far near e) i)
agrees_by y z near far false h i e =
    agrees_err y z near far h i (λ same.
    false≢true (sym e ∙ subst (λ o. option_eq int_eq o near ≡ true) (sym same)
    (same_options near)))

agrees_is : (y z : ℤ) → Agrees y z (agreed (coordinate_at y) (coordinate_at z))
agrees_is y z =
    agrees_by y z (coordinate_at y) (coordinate_at z)
    (option_eq int_eq (coordinate_at z) (coordinate_at y)) (rounds_is y) (rounds_is z) refl

-- ---- all of it

places_is : (shift scale : ℤ) (rounding : Rounding) (m e : ℤ)
    → Places shift scale rounding m e (placed_decimal shift scale rounding m e)
places_is shift scale Exact m e =
    then_is (Counts 18 m e) (λ u. IsExactCoordinate (placed shift scale u)) (count_of 18 m e)
    (λ u. whole_coordinate (unsigned_abs (placed shift scale u) % 10 ^ 27)
    (coordinate_at (placed shift scale u))) (counts_is 18 m e)
    (λ u. coordinate_is (placed shift scale u))
places_is shift scale Nearest m e =
    then_is (Encloses 18 m e) (λ s. Agrees (placed shift scale s.0) (placed shift scale s.1))
    (counts_around 18 m e)
    (λ s. agreed (coordinate_at (placed shift scale s.0)) (coordinate_at (placed shift scale s.1)))
    (encloses_is 18 m e)
    (λ s. agrees_is (placed shift scale s.0) (placed shift scale s.1))

pub placed_is : (shift scale : ℤ) (rounding : Rounding) (text : List ℕ)
    → PlacesText shift scale rounding text (placed_text shift scale rounding text)
placed_is shift scale rounding text =
    then_is (ReadsDecimal text) (λ d. Places shift scale rounding d.0 d.1) (read_decimal text)
    (λ d. placed_decimal shift scale rounding d.0 d.1) (reads_is text)
    (λ d. places_is shift scale rounding d.0 d.1)
