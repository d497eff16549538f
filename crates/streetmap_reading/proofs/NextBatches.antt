-- The first of the batches after a serial are the next ones.
use Rattle.std.proofs.Common.{◌≡◌, inl, inr, ◌⊎◌, ℕ, ℤ, zero, suc, pos, ◌+◌, ◌-◌, ◌<◌, ◌≤◌, ◌^◌}
use Rattle.std.proofs.Common.{min, List, [], ◌∷◌, ◌++◌, length}
use Rattle.std.proofs.Common.{Option, None, Some, Result, Ok, Err, MatchResult, FitsSigned, w64}
use Rattle.std.proofs.Common.{to_z, of_z, to_z-of_z}
use Rattle.std.proofs.Common.{refl, sym, ap, ◌∙◌, arith, length-append}
use Rattle.std.specs.Option.{option_to_list}
use Rattle.std.proofs.lemmas.Bool.{cases_lt}
use Rattle.std.proofs.lemmas.Int.{ints}
use Rattle.sqlite.specs.State.{State as Seen, IsUnchanged}
use Rattle.sqlite.proofs.Callers.{unchanged_then}
use Rattle.sqlite_rules.specs.Lists.{Has}
use Rattle.sqlite_rules.proofs.ListLemmas.{all_from}
use Rattle.streetmap_ledger.specs.State.{State}
use Rattle.streetmap_ledger.specs.WellFormed.{IsState}
use Rattle.streetmap_rows.specs.TableReads.{Stopped}
use Rattle.streetmap_rows.specs.declared.fault.ReadFault.{ReadFault}
use Rattle.streetmap_rows.proofs.ReadsInTurn.{stopped_on}
use Rattle.streetmap_ledger.specs.Kept.{KeyedBatch, batch_in, batch_count, batches_next}
use Rattle.streetmap_ledger.specs.Kept.{batches_after, AreNext}
use Rattle.streetmap_ledger.proofs.AllThere.{as_many}
use Rattle.streetmap_ledger.proofs.Nexts.{nexts_split}
use Rattle.streetmap_reading.specs.Scans.{HaveKeys, AreFirst}
use Rattle.streetmap_reading.specs.Serials.{most_serial}
use Rattle.streetmap_reading.proofs.SerialStatement.{key_read}

-- ---- keys

has_append : {A : Type 0} (xs ys : List A) (x : A) → Has (xs ++ ys) x → Has xs x ⊎ Has ys x
has_append [] ys x h = inr h
has_append (y ∷ xs) ys x (inl same) = inl (inl same)
has_append (y ∷ xs) ys x (inr later) = elim (has_append xs ys x later) [
  | inl front ↦ inl (inr front)
  | inr back ↦ inr back
]

has_one : {A : Type 0} (o : Option A) (x : A) → Has (option_to_list o) x → o ≡ Some x
has_one None x h = absurd h
has_one (Some y) x (inl same) = ap Some (sym same)
has_one (Some y) x (inr later) = absurd later

next_has : (s : State) (n k : ℕ) (b : KeyedBatch) → Has (batches_next s n k) b
    → (m : ℕ) × (batch_in s m ≡ Some b)
next_has s n zero b h = absurd h
next_has s n (suc k) b h =
    elim (has_append (batches_next s n k) (option_to_list (batch_in s (n + suc k))) b h) [
      | inl front ↦ next_has s n k b front
      | inr back ↦ (n + suc k, has_one (batch_in s (n + suc k)) b back)
    ]

pub keys_after : (s : State) (n : ℕ) → IsState s → HaveKeys (batches_after s n)
keys_after s n sound = all_from _ (batches_after s n) (λ b h.
    let at = next_has s n (batch_count s - n) b h in key_read s at.0 b sound at.1)

-- ---- the first of them

same_front : {A : Type 0} (xs zs ys ws : List A) → xs ++ zs ≡ ys ++ ws → length xs ≡ length ys
    → xs ≡ ys
same_front [] zs [] ws e h = refl
same_front [] zs (y ∷ ys) ws e h = absurd (omega (arith, h))
same_front (x ∷ xs) zs [] ws e h = absurd (omega (arith, h))
same_front (x ∷ xs) zs (y ∷ ys) ws e h =
    let head : x ≡ y = cc in
    let tail : xs ++ zs ≡ ys ++ ws = cc in
    let rest = same_front xs zs ys ws tail (omega (arith, h)) in
    λ i. head i ∷ rest i

no_more : {A : Type 0} (xs : List A) → length xs ≤ 0 → xs ≡ []
no_more [] h = refl
no_more (x ∷ xs) h = absurd (omega (arith, h))

module _ (s : State) (after room : ℕ) (found : List KeyedBatch) (sound : IsState s)
    (first : AreFirst room (batches_after s (most_serial after)) found) where
  abbrev m : ℕ
  m = min after (2 ^ 63 - 1)

  most : batch_count s ≤ 2 ^ 63 - 1
  most = sound.not_too_many

  within : m < batch_count s → AreNext s after room found
  within less =
      let high = most in
      let same : m ≡ after = omega (arith, less, high) in
      let k = batch_count s - m in
      let j = length found in
      let whole : length (batches_next s m k) ≡ k = as_many s sound m k (omega (arith, less)) in
      let long = ap length first.are ∙ whole in
      let parts = length-append found first.rest in
      let cut : k ≡ j + (k - j) = omega (arith, long, parts) in
      let all : found ++ first.rest ≡ batches_next s m j ++ batches_next s (m + j) (k - j) =
      first.are ∙ (ap (batches_next s m) cut ∙ nexts_split s m j (k - j)) in
      let many : length (batches_next s m j) ≡ j =
      as_many s sound m j (omega (arith, long, parts, less)) in
      record {
        are = same_front found first.rest (batches_next s m j) _ all (sym many)
            ∙ ap (λ n. batches_next s n j) same;
        some = λ empty.
            let none = ap length (first.some empty) in
            absurd (omega (arith, none, whole, less));
        few = first.few;
      }

  beyond : batch_count s ≤ m → AreNext s after room found
  beyond over =
      let none : batch_count s - m ≡ 0 = omega (arith, over) in
      let all : found ++ first.rest ≡ [] = first.are ∙ ap (batches_next s m) none in
      let long = ap length all in
      let parts = length-append found first.rest in
      let empty : found ≡ [] = no_more found (omega (arith, long, parts)) in
      record {
        are = empty ∙ ap (λ (l : List KeyedBatch). batches_next s after (length l)) (sym empty);
        some = λ is. omega (arith, over);
        few = first.few;
      }

  pub first_next : AreNext s after room found
  first_next = elim (cases_lt m (batch_count s)) [ inl less ↦ within less | inr over ↦ beyond over ]

-- ---- a serial as a column has it

fits : (n : ℕ) → FitsSigned w64 (pos (most_serial n))
fits n = omega (arith, ints)

pub most_passed : (z : ℤ) (n : ℕ) → z ≡ pos (most_serial n)
    → to_z w64 (of_z w64 z) ≡ pos (most_serial n)
most_passed z n e = ap (λ (y : ℤ). to_z w64 (of_z w64 y)) e ∙ to_z-of_z (fits n)

-- ---- a query whose rows were taken, after it had begun

pub taken_on : {T : Type 0} (a b c : Seen) (P : T → Type 0) (r : Result T ReadFault)
    → IsUnchanged a b
    → a.faults ≤ b.faults → MatchResult r (λ x. P x × IsUnchanged b c) (Stopped b c)
    → MatchResult r (λ x. P x × IsUnchanged a c) (Stopped a c)
taken_on a b c P (Ok x) same counts h = (h.0, unchanged_then a b c same h.1)
taken_on a b c P (Err fault) same counts h = stopped_on a b c fault same counts h

-- what was taken is what is next
pub next_of : {T : Type 0} (s : State) (after room : ℕ) (keyed : T → List KeyedBatch) (same : T
    → Type 0)
    (stopped : ReadFault → Type 0) (r : Result T ReadFault) → IsState s
    → MatchResult r (λ x. AreFirst room (batches_after s (most_serial after)) (keyed x)
    × same x) stopped
    → MatchResult r (λ x. AreNext s after room (keyed x) × same x) stopped
next_of s after room keyed same stopped (Ok x) sound h =
    (first_next s after room (keyed x) sound h.0, h.1)
next_of s after room keyed same stopped (Err fault) sound h = h
