-- Steps, one after the other.
use Rattle.std.proofs.Common.{◌≡◌, inl, inr, Result, Ok, Err, ap, subst}
use Rattle.streetmap_decimal.specs.declared.fault.DecimalFault.{DecimalFault}
use Rattle.streetmap_decimal.specs.Decimal.{Then}

-- the first step gave a, and the next gives this
pub then_next : {A B : Type 0} (First : Result A DecimalFault → Type 0)
    (Next : A → Result B DecimalFault → Type 0) (a : A) (r : Result B DecimalFault) → First (Ok a)
    → Next a r → Then First Next r
then_next First Next a (Ok b) h k = (a, (h, k))
then_next First Next a (Err f) h k = inr (a, (h, k))

-- a relation that gives one answer
abbrev pub Once : {A : Type 0} → (Result A DecimalFault → Type 0) → Type 0
Once {A} R = (r s : Result A DecimalFault) → R r → R s → r ≡ s

pub same_ok : {A : Type 0} (a b : A) → ◌≡◌ {A = Result A DecimalFault} (Ok a) (Ok b) → a ≡ b
same_ok a b e = cc

pub not_both : {A : Type 0} (a : A) (f : DecimalFault)
    → ◌≡◌ {A = Result A DecimalFault} (Ok a) (Err f) → ⊥
not_both a f e = cc

pub same_err : {A : Type 0} (f g : DecimalFault) → ◌≡◌ {A = Result A DecimalFault} (Err f) (Err g)
    → f ≡ g
same_err f g e = cc

pub then_once : {A B : Type 0} (First : Result A DecimalFault → Type 0)
    (Next : A → Result B DecimalFault → Type 0) → Once First → ((a : A) → Once (Next a))
    → Once (Then First Next)
then_once First Next first next (Ok b) (Ok c) h k =
    let same = same_ok h.0 k.0 (first (Ok h.0) (Ok k.0) h.1.0 k.1.0) in
    next k.0 (Ok b) (Ok c) (subst (λ a. Next a (Ok b)) same h.1.1) k.1.1
then_once First Next first next (Ok b) (Err f) h (inl k) =
    absurd (not_both h.0 f (first (Ok h.0) (Err f) h.1.0 k))
then_once First Next first next (Ok b) (Err f) h (inr k) =
    let same = same_ok h.0 k.0 (first (Ok h.0) (Ok k.0) h.1.0 k.1.0) in
    next k.0 (Ok b) (Err f) (subst (λ a. Next a (Ok b)) same h.1.1) k.1.1
then_once First Next first next (Err f) (Ok c) (inl h) k =
    absurd (not_both k.0 f (first (Ok k.0) (Err f) k.1.0 h))
then_once First Next first next (Err f) (Ok c) (inr h) k =
    let same = same_ok h.0 k.0 (first (Ok h.0) (Ok k.0) h.1.0 k.1.0) in
    next k.0 (Err f) (Ok c) (subst (λ a. Next a (Err f)) same h.1.1) k.1.1
then_once First Next first next (Err f) (Err g) (inl h) (inl k) =
    ap Err (same_err f g (first (Err f) (Err g) h k))
then_once First Next first next (Err f) (Err g) (inl h) (inr k) =
    absurd (not_both k.0 f (first (Ok k.0) (Err f) k.1.0 h))
then_once First Next first next (Err f) (Err g) (inr h) (inl k) =
    absurd (not_both h.0 g (first (Ok h.0) (Err g) h.1.0 k))
then_once First Next first next (Err f) (Err g) (inr h) (inr k) =
    let same = same_ok h.0 k.0 (first (Ok h.0) (Ok k.0) h.1.0 k.1.0) in
    next k.0 (Err f) (Err g) (subst (λ a. Next a (Err f)) same h.1.1) k.1.1
