-- Bytes taken off the front of an input.
use Rattle.std.proofs.Common.{◌≡◌, ◌≤◌, ◌<◌, ◌+◌, ℕ, zero, suc, List, [], ◌∷◌, ◌++◌, length}
use Rattle.std.proofs.Common.{take, drop, Option, None, Some, true, false, refl, sym, ap, subst, ◌∙◌}
use Rattle.std.proofs.Common.{arith, append-nil, length-append, IfSome, ◌&&◌, Bool}
use Rattle.std.proofs.Math.Seq.{take-add}
use Rattle.std.proofs.lemmas.List.{length-take, take-append-drop}
use Rattle.std.proofs.lemmas.List.Folds.{list_all-append}
use Rattle.std.proofs.KnownBytes.{Consumes-trans, Consumes-kept}
use Rattle.std.specs.Io.{StartsWith}
use Rattle.std.specs.Io.KnownBytes.{Consumes, Keeps, IsAtEnd}
use Rattle.std.specs.Prelude.{slice_get}
use Rattle.streetmap_journal.specs.Front.{GoesOnOtherwise, are_zeros, IsLeft}
use Rattle.streetmap_journal.specs.declared.front.Left.{Left}
use Rattle.streetmap_journal.specs.declared.front.Left.TheVariants.{Nothing, Zeros, Other}

-- ---- bytes by their places

pub get_take : {A : Type 0} (n m : ℕ) (xs : List A) → m < n → slice_get (take n xs) m ≡ slice_get xs m
get_take zero m xs low = absurd (omega (arith, low))
get_take (suc n) m [] low = refl
get_take (suc n) zero (x ∷ xs) low = refl
get_take (suc n) (suc m) (x ∷ xs) low = get_take n m xs (omega (arith, low))

pub get_after : {A : Type 0} (xs ys : List A) (m : ℕ) →
    slice_get (xs ++ ys) (length xs + m) ≡ slice_get ys m
get_after [] ys m = let same : 0 + m ≡ m = omega arith in ap (slice_get ys) same
get_after (x ∷ xs) ys m =
    let next : length (x ∷ xs) + m ≡ suc (length xs + m) = omega arith in
    ap (slice_get (x ∷ (xs ++ ys))) next ∙ get_after xs ys m

get_dropped : {A : Type 0} (n : ℕ) (xs : List A) (m : ℕ) →
    slice_get (drop n xs) m ≡ slice_get xs (n + m)
get_dropped zero xs m = let same : m ≡ 0 + m = omega arith in ap (slice_get xs) same
get_dropped (suc n) [] m = refl
get_dropped (suc n) (x ∷ xs) m =
    let next : suc (n + m) ≡ suc n + m = omega arith in
    get_dropped n xs m ∙ ap (slice_get (x ∷ xs)) next

-- ---- one more piece of the expected bytes

pub front_more : (a b c : Option (List ℕ)) (expected : List ℕ) (n m : ℕ) →
    Consumes a b (take n expected) → Consumes b c (take m (drop n expected)) →
    Consumes a c (take (n + m) expected)
front_more a b c expected n m first second =
    subst (Consumes a c) (sym (take-add n m expected)) (Consumes-trans a b c _ _ first second)

pub otherwise_later : (a b : Option (List ℕ)) (expected : List ℕ) (n m : ℕ) →
    n ≤ length expected → Consumes a b (take n expected) →
    GoesOnOtherwise b (drop n expected) m → GoesOnOtherwise a expected (n + m)
otherwise_later None b expected n m low took other = tt
otherwise_later (Some xs) None expected n m low took other = absurd took
otherwise_later (Some xs) (Some ys) expected n m low took other = λ same.
    let size = length-take n expected in
    let long : n + m ≡ length (take n expected) + m = omega (arith, size, low) in
    other (sym (get_after (take n expected) ys m)
    ∙ (ap (slice_get (take n expected ++ ys)) (sym long)
    ∙ (ap (λ (l : List ℕ). slice_get l (n + m)) (sym took)
    ∙ (same ∙ sym (get_dropped n expected m)))))

-- ---- zeros

-- so far nothing was taken off, or zeros alone
abbrev pub ZerosSoFar : (old now : Option (List ℕ)) → Left → Type 0
ZerosSoFar old now Nothing = Consumes old now []
ZerosSoFar old now Zeros =
    (zeros : List ℕ) × Consumes old now zeros × (0 < length zeros) × (are_zeros zeros ≡ true)
ZerosSoFar old now Other = ⊥

both_zeros : (xs ys : List ℕ) → are_zeros xs ≡ true → are_zeros ys ≡ true →
    are_zeros (xs ++ ys) ≡ true
both_zeros xs ys p q =
    list_all-append _ xs ys ∙ (ap (λ (b : Bool). b && are_zeros ys) p ∙ q)

pub zeros_kept : (left : Left) (a b c : Option (List ℕ)) → ZerosSoFar a b left → Keeps b c →
    ZerosSoFar a c left
zeros_kept Nothing a b c h k = Consumes-kept a b c [] h k
zeros_kept Zeros a b c h k = (h.0, Consumes-kept a b c h.0 h.1 k, h.2, h.3)
zeros_kept Other a b c h k = absurd h

pub zeros_more : (left : Left) (a b c : Option (List ℕ)) (zeros : List ℕ) → ZerosSoFar a b left →
    Consumes b c zeros → 0 < length zeros → are_zeros zeros ≡ true → ZerosSoFar a c Zeros
zeros_more Nothing a b c zeros h took some are =
    (zeros, Consumes-trans a b c [] zeros h took, some, are)
zeros_more Zeros a b c zeros h took some are =
    let size = length-append h.0 zeros in (
      h.0 ++ zeros,
      Consumes-trans a b c h.0 zeros h.1 took,
      omega (arith, size, some),
      both_zeros h.0 zeros h.3 are,
    )
zeros_more Other a b c zeros h took some are = absurd h

pub zeros_end : (left : Left) (a b : Option (List ℕ)) → ZerosSoFar a b left → IsAtEnd b →
    IfSome a (IsLeft left)
zeros_end left None b h end = tt
zeros_end Nothing (Some xs) None h end = absurd h
zeros_end Nothing (Some xs) (Some ys) h end = h ∙ end
zeros_end Zeros (Some xs) None h end = absurd h.1
zeros_end Zeros (Some xs) (Some ys) h end =
    let all : h.0 ≡ xs =
    sym (h.1 ∙ (ap (λ (l : List ℕ). h.0 ++ l) end ∙ append-nil h.0)) in
    subst (IsLeft Zeros) all (h.2, h.3)
zeros_end Other (Some xs) b h end = absurd h

after_zeros : (xs ys : List ℕ) → are_zeros xs ≡ true → are_zeros ys ≡ false →
    are_zeros (xs ++ ys) ≡ false
after_zeros xs ys p q =
    list_all-append _ xs ys ∙ (ap (λ (b : Bool). b && are_zeros ys) p ∙ q)

pub zeros_other : (left : Left) (a b : Option (List ℕ)) → ZerosSoFar a b left →
    IfSome b (IsLeft Other) → IfSome a (IsLeft Other)
zeros_other left None b h other = tt
zeros_other Nothing (Some xs) None h other = absurd h
zeros_other Nothing (Some xs) (Some ys) h other =
    ap are_zeros h ∙ other
zeros_other Zeros (Some xs) None h other = absurd h.1
zeros_other Zeros (Some xs) (Some ys) h other =
    ap are_zeros h.1 ∙ after_zeros h.0 ys h.3 other
zeros_other Other (Some xs) b h other = absurd h

pub shown_other : (a : Option (List ℕ)) (shown : List ℕ) → IfSome a (λ xs. StartsWith xs shown) →
    are_zeros shown ≡ false → IfSome a (IsLeft Other)
shown_other None shown starts other = tt
shown_other (Some xs) shown starts other =
    let split : xs ≡ shown ++ drop (length shown) xs =
    sym (take-append-drop (length shown) xs)
    ∙ ap (λ (l : List ℕ). l ++ drop (length shown) xs) starts in
    ap are_zeros split
    ∙ (list_all-append _ shown (drop (length shown) xs)
    ∙ ap (λ (b : Bool). b && are_zeros (drop (length shown) xs)) other)
