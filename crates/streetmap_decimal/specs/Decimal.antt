-- The number that a text is read as, and a decimal counted in a small unit.
use Rattle.std.specs.Prelude.{◌≡◌, ◌⊎◌, ℕ, ◌+◌, ◌<◌, ◌≤◌, ◌*◌, ◌^◌, suc, List, length, ℤ, pos}
use Rattle.std.specs.Prelude.{negsuc, ◌+ℤ◌, ◌*ℤ◌, unsigned_abs, int_lt, Result, Ok, Err}
use Rattle.streetmap_decimal.specs.declared.fault.DecimalFault.{DecimalFault}
use Rattle.streetmap_decimal.specs.declared.fault.DecimalFault.TheVariants.{NotANumber}
use Rattle.streetmap_decimal.specs.declared.fault.DecimalFault.TheVariants.{TooManyDigits}
use Rattle.streetmap_decimal.specs.declared.fault.DecimalFault.TheVariants.{OutOfGrid, Fraction}
use Rattle.streetmap_decimal.specs.NumberText.{Means, signed}

-- a step and the next, which continues with the result of the first; the first fault ends both
abbrev pub Then : {A B : Type 0} → (Result A DecimalFault → Type 0)
    → (A → Result B DecimalFault → Type 0) → Result B DecimalFault → Type 0
Then {A} First Next (Ok b) = (a : A) × (First (Ok a) × Next a (Ok b))
Then {A} First Next (Err f) = First (Err f) ⊎ ((a : A) × (First (Ok a) × Next a (Err f)))

-- ---- a text

-- the longest text that is read
abbrev pub max_len : ℕ
max_len = 38

-- not a number text
abbrev pub IsNoNumber : List ℕ → Type 0
IsNoNumber text = (m e : ℤ) → Means text m e → ⊥

-- a text is read as m * 10 ^ e, or refused
abbrev pub ReadsDecimal : List ℕ → Result (ℤ × ℤ) DecimalFault → Type 0
ReadsDecimal text (Ok d) = (length text ≤ max_len) × Means text d.0 d.1
ReadsDecimal text (Err TooManyDigits) = max_len < length text
ReadsDecimal text (Err NotANumber) = (length text ≤ max_len) × IsNoNumber text
ReadsDecimal text (Err OutOfGrid) = ⊥
ReadsDecimal text (Err Fraction) = ⊥

-- ---- a count: m * 10 ^ e, in units of 10 ^ -places

-- coordinates and the shift are counted in 10 ^ -18, the scale in 10 ^ -9
abbrev pub coordinate_places : ℕ
coordinate_places = 18

abbrev pub scale_places : ℕ
scale_places = 9

-- counts are smaller than this; a coordinate whose count is not smaller lies outside of the grid,
-- whatever the shift and the scale
abbrev pub count_limit : ℕ
count_limit = 10 ^ 37

-- u is m * 10 ^ k
abbrev pub IsShifted : (m k u : ℤ) → Type 0
IsShifted m (pos k) u = u ≡ m *ℤ pos (10 ^ k)
IsShifted m (negsuc k) u = m ≡ u *ℤ pos (10 ^ suc k)

-- m * 10 ^ e is u times 10 ^ -places
abbrev pub IsCount : (places : ℕ) → (m e u : ℤ) → Type 0
IsCount places m e u = IsShifted m (e +ℤ pos places) u

-- m * 10 ^ e is counted, or refused: if the count is not a whole number, and if it is too large
abbrev pub Counts : (places : ℕ) → (m e : ℤ) → Result ℤ DecimalFault → Type 0
Counts places m e (Ok u) = IsCount places m e u × (unsigned_abs u < count_limit)
Counts places m e (Err TooManyDigits) = (u : ℤ) → IsCount places m e u → ⊥
Counts places m e (Err OutOfGrid) =
    (u : ℤ) × (IsCount places m e u × (count_limit ≤ unsigned_abs u))
Counts places m e (Err NotANumber) = ⊥
Counts places m e (Err Fraction) = ⊥

-- the same of numbers from zero
abbrev pub IsShiftedNatural : (n : ℕ) → (k : ℤ) → (u : ℕ) → Type 0
IsShiftedNatural n (pos k) u = u ≡ n * 10 ^ k
IsShiftedNatural n (negsuc k) u = n ≡ u * 10 ^ suc k

abbrev pub Shifts : (n : ℕ) → (k : ℤ) → Result ℕ DecimalFault → Type 0
Shifts n k (Ok u) = IsShiftedNatural n k u × (u < count_limit)
Shifts n k (Err TooManyDigits) = (u : ℕ) → IsShiftedNatural n k u → ⊥
Shifts n k (Err OutOfGrid) = (u : ℕ) × (IsShiftedNatural n k u × (count_limit ≤ u))
Shifts n k (Err NotANumber) = ⊥
Shifts n k (Err Fraction) = ⊥

-- the count of a text's number
abbrev pub ReadsCount : (places : ℕ) → List ℕ → Result ℤ DecimalFault → Type 0
ReadsCount places text = Then (ReadsDecimal text) (λ d. Counts places d.0 d.1)

-- ---- the counts on both sides of a number

-- the greatest whole number that is no greater than n * 10 ^ k
abbrev pub IsFloor : (n : ℕ) → (k : ℤ) → (u : ℕ) → Type 0
IsFloor n (pos k) u = u ≡ n * 10 ^ k
IsFloor n (negsuc k) u = (u * 10 ^ suc k ≤ n) × (n < (u + 1) * 10 ^ suc k)

-- the smallest whole number that is no smaller than n * 10 ^ k
abbrev pub IsCeiling : (n : ℕ) → (k : ℤ) → (v : ℕ) → Type 0
IsCeiling n (pos k) v = v ≡ n * 10 ^ k
IsCeiling n (negsuc k) v = (n ≤ v * 10 ^ suc k) × (v * 10 ^ suc k < n + 10 ^ suc k)

-- both, or refused, if the number is too large
abbrev pub Sides : (n : ℕ) → (k : ℤ) → Result (ℕ × ℕ) DecimalFault → Type 0
Sides n k (Ok s) = IsFloor n k s.0 × IsCeiling n k s.1 × (s.0 < count_limit)
Sides n k (Err OutOfGrid) = (u : ℕ) × (IsFloor n k u × (count_limit ≤ u))
Sides n k (Err TooManyDigits) = ⊥
Sides n k (Err NotANumber) = ⊥
Sides n k (Err Fraction) = ⊥

-- u, or -u if m is below zero
abbrev pub with_sign_of : ℤ → ℕ → ℤ
with_sign_of m u = signed (int_lt m (pos 0)) u

-- the whole counts on both sides of m * 10 ^ e, of which the first is nearer to zero: both are the
-- count, if that is a whole number
abbrev pub Encloses : (places : ℕ) → (m e : ℤ) → Result (ℤ × ℤ) DecimalFault → Type 0
Encloses places m e (Ok z) =
    (s : ℕ × ℕ) × (Sides (unsigned_abs m) (e +ℤ pos places) (Ok s)
    × ((z.0 ≡ with_sign_of m s.0) × (z.1 ≡ with_sign_of m s.1)))
Encloses places m e (Err f) = Sides (unsigned_abs m) (e +ℤ pos places) (Err f)
