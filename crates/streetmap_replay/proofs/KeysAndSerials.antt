-- Batches by their serials and by their keys.
use Rattle.std.proofs.Common.{◌≡◌, ℕ, Bool, true, false, ◌==◌, Option, None, Some}
use Rattle.std.proofs.Common.{refl, sym, ap, subst, ◌∙◌, arith}
use Rattle.std.specs.Prelude.{bytes_eq}
use Rattle.std.specs.FinMap.{get}
use Rattle.std.specs.Cmp.Lexicographic.{nat_list_eq_equiv}
use Rattle.std.proofs.lemmas.Bool.Decides.{nat_tests}
use Rattle.std.proofs.lemmas.Slice.Eq.{bytes_eq-Decides}
use Rattle.streetmap_batch.specs.Text.{Text}
use Rattle.streetmap_ledger.specs.State.{State, AcceptedBatch}
use Rattle.streetmap_ledger.specs.WellFormed.{IsState}
use Rattle.streetmap_ledger.specs.Kept.{KeyedBatch, batch_in}
use Rattle.streetmap_ledger.proofs.Serials.{found_of, found_under as found_with}
use Rattle.streetmap_replay.specs.FollowedLines.{is_under}

same_number : (a b : ℕ) → a ≡ b → (a == b) ≡ true
same_number a b e = grind (arith, nat_tests)

number_is : (a b : ℕ) → (a == b) ≡ true → a ≡ b
number_is a b e = grind (arith, nat_tests)

-- what is kept with a serial is under its key
here_under : (s : State) (n : ℕ) (key : Text) (k : AcceptedBatch) →
    batch_in s n ≡ Some (key, k) → is_under n (get s.keys key) ≡ true
here_under s n key k e =
    let it = found_with s n (key, k) e in
    ap (is_under n) it.0 ∙ same_number k.serial n it.1

-- what is kept under a key with a serial is kept with that serial
found_under : (s : State) (n : ℕ) (key : Text) (o : Option AcceptedBatch) → IsState s →
    get s.keys key ≡ o → is_under n o ≡ true →
    (k : AcceptedBatch) × (batch_in s n ≡ Some (key, k))
found_under s n key None sound e h = absurd cc
found_under s n key (Some k) sound e h =
    (k, ap (batch_in s) (sym (number_is k.serial n h)) ∙ found_of s key k sound e)

other_by : (s : State) (n : ℕ) (key : Text) → IsState s →
    ((k : AcceptedBatch) → batch_in s n ≡ Some (key, k) → ⊥) → (t : Bool) →
    is_under n (get s.keys key) ≡ t → t ≡ false
other_by s n key sound other false e = refl
other_by s n key sound other true e =
    let it = found_under s n key (get s.keys key) sound refl e in absurd (other it.0 it.1)

-- and if none or another is kept with the serial, none is kept under the key with it
other_under : (s : State) (n : ℕ) (key : Text) → IsState s →
    ((k : AcceptedBatch) → batch_in s n ≡ Some (key, k) → ⊥) → is_under n (get s.keys key) ≡ false
other_under s n key sound other = other_by s n key sound other (is_under n (get s.keys key)) refl

pub none_under : (s : State) (n : ℕ) (key : Text) → IsState s → None ≡ batch_in s n →
    false ≡ is_under n (get s.keys key)
none_under s n key sound none =
    sym (other_under s n key sound (λ k e. let both : None ≡ Some (key, k) = none ∙ e in cc))

under_by : (s : State) (n : ℕ) (b : KeyedBatch) (key : Text) → IsState s →
    Some b ≡ batch_in s n → (t : Bool) → bytes_eq b.0 key ≡ t → t ≡ is_under n (get s.keys key)
under_by s n b key sound is true e =
    let same : b.0 ≡ key = (bytes_eq-Decides b.0 key).0 e in
    subst (λ (k : Text). true ≡ is_under n (get s.keys k)) same
    (sym (here_under s n b.0 b.1 (sym is)))
under_by s n b key sound is false e =
    sym (other_under s n key sound (λ k f.
    let both : Some b ≡ Some (key, k) = is ∙ f in
    let other : b ≡ (key, k) = cc in
    let keys : b.0 ≡ key = ap (λ (x : KeyedBatch). x.0) other in
    let equal : bytes_eq b.0 key ≡ true =
    ap (λ (x : Text). bytes_eq x key) keys ∙ nat_list_eq_equiv.refl key in
    let no : false ≡ true = sym e ∙ equal in cc))

-- whether the one that is kept with a serial has this key
pub key_under : (s : State) (n : ℕ) (b : KeyedBatch) (key : Text) (r : Bool) → IsState s →
    Some b ≡ batch_in s n → r ≡ bytes_eq b.0 key → r ≡ is_under n (get s.keys key)
key_under s n b key r sound is e = e ∙ under_by s n b key sound is (bytes_eq b.0 key) refl
