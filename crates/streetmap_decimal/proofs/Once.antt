-- At most one result.
use Rattle.std.proofs.Common.{◌≡◌, ℕ, suc, ◌^◌, ◌≤◌, List, ℤ, pos, negsuc, ◌+ℤ◌, ◌*ℤ◌, ◌≤ℤ◌, Result, Ok, Err, refl, sym, ap, subst, ◌∙◌, arith}
use Rattle.std.specs.Prelude.{int_lt, unsigned_abs, ◌+◌, ◌-◌, ◌*◌, ◌<◌, Some, None}
use Rattle.std.proofs.lemmas.Int.{ints}
use Rattle.std.proofs.lemmas.Option.{same_Some}
use Rattle.streetmap_grid.specs.Range.{IsCoordinate}
use Rattle.streetmap_decimal.specs.declared.fault.DecimalFault.{DecimalFault}
use Rattle.streetmap_decimal.specs.declared.fault.DecimalFault.TheVariants.{NotANumber, TooManyDigits, OutOfGrid, Fraction}
use Rattle.streetmap_decimal.specs.declared.rounding.Rounding.{Rounding}
use Rattle.streetmap_decimal.specs.declared.rounding.Rounding.TheVariants.{Exact, Nearest}
use Rattle.streetmap_decimal.specs.NumberText.{Means, mantissa, exponent}
use Rattle.streetmap_decimal.specs.Decimal.{ReadsDecimal, ReadsCount, IsShifted, Counts, IsFloor, IsCeiling, Sides, Encloses, with_sign_of}
use Rattle.streetmap_decimal.specs.Grid.{IsNearest, IsWholeNumber, RoundsTo, IsExactCoordinate, Agrees, Places, PlacesText, placed}
use Rattle.streetmap_decimal.proofs.Grammar.{components_again}
use Rattle.streetmap_decimal.proofs.Powers.{pow_some, between_multiples}
use Rattle.streetmap_decimal.proofs.Signs.{sign_of, signed-mul}
use Rattle.streetmap_decimal.proofs.Steps.{then_once, same_ok, not_both, same_err}
use Rattle.streetmap_decimal.proofs.Rounded.{nearest_once, not_beyond}
use Rattle.streetmap_grid.proofs.Whole.{mul_cancel}
use lib.IntN.{*ℤ_comm}

pub means_once : (text : List ℕ) (m e n f : ℤ) → Means text m e → Means text n f → (m ≡ n) × (e ≡ f)
means_once text m e n f h k =
    let same : h.components ≡ k.components = same_Some _ _
    (sym (components_again text h.components h.is_text)
    ∙ components_again text k.components k.is_text) in (
      h.mantissa_is ∙ ap mantissa same ∙ sym k.mantissa_is,
      h.exponent_is ∙ ap exponent same
          ∙ sym k.exponent_is,
    )

reads_once : (text : List ℕ) (r s : Result (ℤ × ℤ) DecimalFault) → ReadsDecimal text r → ReadsDecimal text s
    → r ≡ s
reads_once text (Ok a) (Ok b) h k =
    let same = means_once text a.0 a.1 b.0 b.1 h.1 k.1 in
    ap (λ (x : ℤ). Ok (x, a.1)) same.0 ∙ ap (λ (y : ℤ). Ok (b.0, y)) same.1
reads_once text (Ok a) (Err TooManyDigits) h k = absurd (omega (arith, h.0))
reads_once text (Ok a) (Err NotANumber) h k = absurd (k.1 a.0 a.1 h.1)
reads_once text (Ok a) (Err OutOfGrid) h k = absurd k
reads_once text (Ok a) (Err Fraction) h k = absurd k
reads_once text (Err TooManyDigits) (Ok b) h k = absurd (omega (arith, k.0))
reads_once text (Err TooManyDigits) (Err TooManyDigits) h k = refl
reads_once text (Err TooManyDigits) (Err NotANumber) h k = absurd (omega (arith, k.0))
reads_once text (Err TooManyDigits) (Err OutOfGrid) h k = absurd k
reads_once text (Err TooManyDigits) (Err Fraction) h k = absurd k
reads_once text (Err NotANumber) (Ok b) h k = absurd (h.1 b.0 b.1 k.1)
reads_once text (Err NotANumber) (Err TooManyDigits) h k = absurd (omega (arith, h.0))
reads_once text (Err NotANumber) (Err NotANumber) h k = refl
reads_once text (Err NotANumber) (Err OutOfGrid) h k = absurd k
reads_once text (Err NotANumber) (Err Fraction) h k = absurd k
reads_once text (Err OutOfGrid) s h k = absurd h
reads_once text (Err Fraction) s h k = absurd h

cancelled : (u v : ℤ) (p : ℕ) → 1 ≤ p → u *ℤ pos p ≡ v *ℤ pos p → u ≡ v
cancelled u v p some e =
    let swap : pos p *ℤ u ≡ pos p *ℤ v = *ℤ_comm (pos p) u ∙ e ∙ *ℤ_comm v (pos p) in
    let below : u ≤ℤ v = mul_cancel (pos p) u v (omega (arith, ints)) (omega (arith, ints, swap)) in
    let above : v ≤ℤ u = mul_cancel (pos p) v u (omega (arith, ints)) (omega (arith, ints, swap)) in
    omega (arith, ints, below, above)

pub shifted_once : (m k u v : ℤ) → IsShifted m k u → IsShifted m k v → u ≡ v
shifted_once m (pos k) u v h i = h ∙ sym i
shifted_once m (negsuc k) u v h i = cancelled u v (10 ^ suc k) (pow_some (suc k)) (sym h ∙ i)

counts_once : (places : ℕ) (m e : ℤ) (r s : Result ℤ DecimalFault) → Counts places m e r
    → Counts places m e s → r ≡ s
counts_once places m e (Ok u) (Ok v) h k = ap Ok (shifted_once m (e +ℤ pos places) u v h.0 k.0)
counts_once places m e (Ok u) (Err TooManyDigits) h k = absurd (k u h.0)
counts_once places m e (Ok u) (Err OutOfGrid) h k =
    absurd (omega
    (arith, h.1, k.1.1, ap unsigned_abs (shifted_once m (e +ℤ pos places) u k.0 h.0 k.1.0)))
counts_once places m e (Ok u) (Err NotANumber) h k = absurd k
counts_once places m e (Ok u) (Err Fraction) h k = absurd k
counts_once places m e (Err TooManyDigits) (Ok v) h k = absurd (h v k.0)
counts_once places m e (Err TooManyDigits) (Err TooManyDigits) h k = refl
counts_once places m e (Err TooManyDigits) (Err OutOfGrid) h k = absurd (h k.0 k.1.0)
counts_once places m e (Err TooManyDigits) (Err NotANumber) h k = absurd k
counts_once places m e (Err TooManyDigits) (Err Fraction) h k = absurd k
counts_once places m e (Err OutOfGrid) (Ok v) h k =
    absurd (omega
    (arith, k.1, h.1.1, ap unsigned_abs (shifted_once m (e +ℤ pos places) v h.0 k.0 h.1.0)))
counts_once places m e (Err OutOfGrid) (Err TooManyDigits) h k = absurd (k h.0 h.1.0)
counts_once places m e (Err OutOfGrid) (Err OutOfGrid) h k = refl
counts_once places m e (Err OutOfGrid) (Err NotANumber) h k = absurd k
counts_once places m e (Err OutOfGrid) (Err Fraction) h k = absurd k
counts_once places m e (Err NotANumber) s h k = absurd h
counts_once places m e (Err Fraction) s h k = absurd h

coordinate_once : (z : ℤ) (r s : Result ℤ DecimalFault) → IsExactCoordinate z r → IsExactCoordinate z s → r ≡ s
coordinate_once z (Ok g) (Ok h) i j = ap Ok (nearest_once z g h i.0.0 j.0.0)
coordinate_once z (Ok g) (Err OutOfGrid) i j = absurd (not_beyond z g i.0 j)
coordinate_once z (Ok g) (Err Fraction) i j =
    absurd (j.1.1 (subst (IsWholeNumber z) (nearest_once z g j.0 i.0.0 j.1.0.0) i.1))
coordinate_once z (Ok g) (Err NotANumber) i j = absurd j
coordinate_once z (Ok g) (Err TooManyDigits) i j = absurd j
coordinate_once z (Err OutOfGrid) (Ok h) i j = absurd (not_beyond z h j.0 i)
coordinate_once z (Err OutOfGrid) (Err OutOfGrid) i j = refl
coordinate_once z (Err OutOfGrid) (Err Fraction) i j = absurd (not_beyond z j.0 j.1.0 i)
coordinate_once z (Err OutOfGrid) (Err NotANumber) i j = absurd j
coordinate_once z (Err OutOfGrid) (Err TooManyDigits) i j = absurd j
coordinate_once z (Err Fraction) (Ok h) i j =
    absurd (i.1.1 (subst (IsWholeNumber z) (nearest_once z h i.0 j.0.0 i.1.0.0) j.1))
coordinate_once z (Err Fraction) (Err OutOfGrid) i j = absurd (not_beyond z i.0 i.1.0 j)
coordinate_once z (Err Fraction) (Err Fraction) i j = refl
coordinate_once z (Err Fraction) (Err NotANumber) i j = absurd j
coordinate_once z (Err Fraction) (Err TooManyDigits) i j = absurd j
coordinate_once z (Err NotANumber) s i j = absurd i
coordinate_once z (Err TooManyDigits) s i j = absurd i

agrees_once : (y z : ℤ) (r s : Result ℤ DecimalFault) → Agrees y z r → Agrees y z s → r ≡ s
agrees_once y z (Ok g) (Ok h) i j = ap Ok (nearest_once y g h i.0.0 j.0.0)
agrees_once y z (Ok g) (Err OutOfGrid) i j = absurd (not_beyond y g i.0 j.0)
agrees_once y z (Ok g) (Err TooManyDigits) i j = absurd (j (Some g) i.0 i.1)
agrees_once y z (Ok g) (Err NotANumber) i j = absurd j
agrees_once y z (Ok g) (Err Fraction) i j = absurd j
agrees_once y z (Err OutOfGrid) (Ok h) i j = absurd (not_beyond y h j.0 i.0)
agrees_once y z (Err OutOfGrid) (Err OutOfGrid) i j = refl
agrees_once y z (Err OutOfGrid) (Err TooManyDigits) i j = absurd (j None i.0 i.1)
agrees_once y z (Err OutOfGrid) (Err NotANumber) i j = absurd j
agrees_once y z (Err OutOfGrid) (Err Fraction) i j = absurd j
agrees_once y z (Err TooManyDigits) (Ok h) i j = absurd (i (Some h) j.0 j.1)
agrees_once y z (Err TooManyDigits) (Err OutOfGrid) i j = absurd (i None j.0 j.1)
agrees_once y z (Err TooManyDigits) (Err TooManyDigits) i j = refl
agrees_once y z (Err TooManyDigits) (Err NotANumber) i j = absurd j
agrees_once y z (Err TooManyDigits) (Err Fraction) i j = absurd j
agrees_once y z (Err NotANumber) s i j = absurd i
agrees_once y z (Err Fraction) s i j = absurd i

-- one count of a text
pub count_once : (places : ℕ) (text : List ℕ) (r s : Result ℤ DecimalFault)
    → ReadsCount places text r → ReadsCount places text s → r ≡ s
count_once places text =
    then_once (ReadsDecimal text) (λ d. Counts places d.0 d.1) (reads_once text)
    (λ d. counts_once places d.0 d.1)

pub counts_same : (places : ℕ) (text : List ℕ) (u v : ℤ) → ReadsCount places text (Ok u)
    → ReadsCount places text (Ok v) → u ≡ v
counts_same places text u v h i = same_ok u v (count_once places text (Ok u) (Ok v) h i)

pub counts_not : (places : ℕ) (text : List ℕ) (u : ℤ) (f : DecimalFault)
    → ReadsCount places text (Ok u) → ReadsCount places text (Err f) → ⊥
counts_not places text u f h i = not_both u f (count_once places text (Ok u) (Err f) h i)

-- ---- the counts on both sides

floor_once : (n : ℕ) (k : ℤ) (u v : ℕ) → IsFloor n k u → IsFloor n k v → u ≡ v
floor_once n (pos k) u v h i = h ∙ sym i
floor_once n (negsuc k) u v h i =
    omega (
      arith,
      between_multiples u v n (10 ^ suc k) h.0 i.1,
      between_multiples v u n (10 ^ suc k) i.0 h.1,
    )

ceiling_once : (n : ℕ) (k : ℤ) (u v : ℕ) → IsCeiling n k u → IsCeiling n k v → u ≡ v
ceiling_once n (pos k) u v h i = h ∙ sym i
ceiling_once n (negsuc k) u v h i =
    let p = 10 ^ suc k in
    let low : u * p ≤ n + (p - 1) = omega (arith, h.1, pow_some (suc k)) in
    let low' : v * p ≤ n + (p - 1) = omega (arith, i.1, pow_some (suc k)) in
    let high : n + (p - 1) < (u + 1) * p = omega (arith, h.0, pow_some (suc k)) in
    let high' : n + (p - 1) < (v + 1) * p = omega (arith, i.0, pow_some (suc k)) in
    omega (
      arith,
      between_multiples u v (n + (p - 1)) p low high',
      between_multiples v u (n + (p - 1)) p low' high,
    )

sides_once : (n : ℕ) (k : ℤ) (r s : Result (ℕ × ℕ) DecimalFault) → Sides n k r → Sides n k s → r ≡ s
sides_once n k (Ok a) (Ok b) h i =
    ap (λ (x : ℕ). Ok (x, a.1)) (floor_once n k a.0 b.0 h.0 i.0)
    ∙ ap (λ (y : ℕ). Ok (b.0, y)) (ceiling_once n k a.1 b.1 h.1 i.1)
sides_once n k (Ok a) (Err OutOfGrid) h i =
    absurd (omega (arith, h.2, i.1.1, floor_once n k a.0 i.0 h.0 i.1.0))
sides_once n k (Ok a) (Err TooManyDigits) h i = absurd i
sides_once n k (Ok a) (Err NotANumber) h i = absurd i
sides_once n k (Ok a) (Err Fraction) h i = absurd i
sides_once n k (Err OutOfGrid) (Ok b) h i =
    absurd (omega (arith, i.2, h.1.1, floor_once n k b.0 h.0 i.0 h.1.0))
sides_once n k (Err OutOfGrid) (Err OutOfGrid) h i = refl
sides_once n k (Err OutOfGrid) (Err TooManyDigits) h i = absurd i
sides_once n k (Err OutOfGrid) (Err NotANumber) h i = absurd i
sides_once n k (Err OutOfGrid) (Err Fraction) h i = absurd i
sides_once n k (Err TooManyDigits) s h i = absurd h
sides_once n k (Err NotANumber) s h i = absurd h
sides_once n k (Err Fraction) s h i = absurd h

same_pair : (m : ℤ) (a b : ℤ × ℤ) (s t : ℕ × ℕ) → s ≡ t → a.0 ≡ with_sign_of m s.0
    → a.1 ≡ with_sign_of m s.1 → b.0 ≡ with_sign_of m t.0 → b.1 ≡ with_sign_of m t.1 → a ≡ b
same_pair m a b s t e f g h i =
    let first : a.0 ≡ b.0 = f ∙ ap (λ (x : ℕ × ℕ). with_sign_of m x.0) e ∙ sym h in
    let second : a.1 ≡ b.1 = g ∙ ap (λ (x : ℕ × ℕ). with_sign_of m x.1) e ∙ sym i in
    ap (λ (x : ℤ). (x, a.1)) first ∙ ap (λ (y : ℤ). (b.0, y)) second

encloses_once : (places : ℕ) (m e : ℤ) (r s : Result (ℤ × ℤ) DecimalFault) → Encloses places m e r
    → Encloses places m e s → r ≡ s
encloses_once places m e (Ok a) (Ok b) h i =
    let same = same_ok h.0 i.0
    (sides_once (unsigned_abs m) (e +ℤ pos places) (Ok h.0) (Ok i.0) h.1.0 i.1.0) in
    ap Ok (same_pair m a b h.0 i.0 same h.1.1.0 h.1.1.1 i.1.1.0 i.1.1.1)
encloses_once places m e (Ok a) (Err f) h i =
    absurd (not_both h.0 f (sides_once (unsigned_abs m) (e +ℤ pos places) (Ok h.0) (Err f) h.1.0 i))
encloses_once places m e (Err f) (Ok b) h i =
    absurd (not_both i.0 f (sides_once (unsigned_abs m) (e +ℤ pos places) (Ok i.0) (Err f) i.1.0 h))
encloses_once places m e (Err f) (Err g) h i =
    ap Err (same_err f g (sides_once (unsigned_abs m) (e +ℤ pos places) (Err f) (Err g) h i))

-- ---- all of it

places_once : (shift scale : ℤ) (rounding : Rounding) (m e : ℤ) (r s : Result ℤ DecimalFault)
    → Places shift scale rounding m e r → Places shift scale rounding m e s → r ≡ s
places_once shift scale Exact m e =
    then_once (Counts 18 m e) (λ u. IsExactCoordinate (placed shift scale u)) (counts_once 18 m e)
    (λ u. coordinate_once (placed shift scale u))
places_once shift scale Nearest m e =
    then_once (Encloses 18 m e) (λ s. Agrees (placed shift scale s.0) (placed shift scale s.1))
    (encloses_once 18 m e)
    (λ s. agrees_once (placed shift scale s.0) (placed shift scale s.1))

pub placed_once : (shift scale : ℤ) (rounding : Rounding) (text : List ℕ)
    (r s : Result ℤ DecimalFault) → PlacesText shift scale rounding text r
    → PlacesText shift scale rounding text s → r ≡ s
placed_once shift scale rounding text =
    then_once (ReadsDecimal text) (λ d. Places shift scale rounding d.0 d.1) (reads_once text)
    (λ d. places_once shift scale rounding d.0 d.1)

-- a whole number, counted
whole_count : (g : ℤ) → IsCoordinate g → Counts 18 g (pos 0) (Ok (g *ℤ pos (10 ^ 18)))
whole_count g h = (refl, omega (arith, ints, h.0, h.1))

whole_placed : (g : ℤ) → placed (pos 0) (pos (10 ^ 9)) (g *ℤ pos (10 ^ 18)) ≡ g *ℤ pos (10 ^ 27)
whole_placed g = omega (arith, ints)

whole_nearest : (z g : ℤ) → z ≡ g *ℤ pos (10 ^ 27) → IsNearest z g
whole_nearest z g e = (omega (arith, ints, e), λ h. absurd (omega (arith, ints, e, h)))

whole_sides : (g : ℤ) → IsCoordinate g → Encloses 18 g (pos 0)
    (Ok (g *ℤ pos (10 ^ 18), g *ℤ pos (10 ^ 18)))
whole_sides g h =
    let s = unsigned_abs g * 10 ^ 18 in
    let e : g *ℤ pos (10 ^ 18) ≡ with_sign_of g s =
    ap (λ z. z *ℤ pos (10 ^ 18)) (sign_of g)
    ∙ signed-mul (int_lt g (pos 0)) (unsigned_abs g) (10 ^ 18) in
    ((s, s), ((refl, refl, omega (arith, ints, h.0, h.1)), (e, e)))

pub whole_stays : (rounding : Rounding) (g : ℤ) → IsCoordinate g
    → Places (pos 0) (pos (10 ^ 9)) rounding g (pos 0) (Ok g)
whole_stays Exact g h =
    let u = g *ℤ pos (10 ^ 18) in (
      u,
      (
        whole_count g h,
        ((whole_nearest (placed (pos 0) (pos (10 ^ 9)) u) g (whole_placed g), h), whole_placed g),
      ),
    )
whole_stays Nearest g h =
    let u = g *ℤ pos (10 ^ 18) in
    let near : RoundsTo (placed (pos 0) (pos (10 ^ 9)) u) (Some g) =
    (whole_nearest (placed (pos 0) (pos (10 ^ 9)) u) g (whole_placed g), h) in
    ((u, u), (whole_sides g h, (near, near)))
