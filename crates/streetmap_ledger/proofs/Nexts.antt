-- The batches after a serial.
use Rattle.std.proofs.Common.{◌≡◌, ℕ, zero, suc, ◌+◌, ◌-◌, ◌<◌, ◌≤◌, ◌^◌, min, List, [], ◌∷◌, ◌++◌}
use Rattle.std.proofs.Common.{length, Option, None, Some, inl, inr, refl, sym, ap, ◌∙◌, arith}
use Rattle.std.proofs.Common.{append-nil, append_assoc, length-append}
use Rattle.std.specs.Prelude.{slice_get}
use Rattle.std.specs.Option.{option_map, option_to_list}
use Rattle.std.proofs.lemmas.Bool.{cases_lt}
use Rattle.streetmap_ledger.specs.State.{State}
use Rattle.streetmap_ledger.specs.WellFormed.{IsState}
use Rattle.streetmap_ledger.specs.Kept.{KeyedBatch, batch_in, batch_count, batches_next, AreNext}
use Rattle.streetmap_ledger.specs.KeptView.{keyed_batch, keyed_batches}
use Rattle.streetmap_ledger.specs.declared.kept_batch.KeptBatch.{KeptBatch}
use Rattle.streetmap_ledger.proofs.Serials.{found_under}
use Rattle.streetmap_ledger.proofs.AllThere.{kept_there}

-- the batch with the next serial, if any; that serial is limited to 2 ^ 64 - 1
pub next_found : (s : State) → IsState s → (after next room : ℕ)
    → next ≡ min (after + 1) (2 ^ 64 - 1)
    → (o : Option KeyedBatch) → batch_in s next ≡ o → AreNext s after room (option_to_list o)
next_found s sound after next room is (Some b) e =
    let u = found_under s next b e in
    let low = sound.to_count b.0 b.1 u.0 in
    let most = sound.not_too_many in
    let same : after + 1 ≡ next = omega (arith, is, u.1, low, most) in
    record {
      are = sym (ap (λ (n : ℕ). option_to_list (batch_in s n)) same ∙ ap option_to_list e);
      some = λ none. absurd (cc);
      few = omega arith;
    }
next_found s sound after next room is None e =
    let most = sound.not_too_many in
    record {
      are = refl;
      some = λ none. elim (cases_lt after (batch_count s)) [
        | inl less ↦ absurd (
            let low : 1 ≤ next = omega (arith, is) in
            let high : next ≤ batch_count s = omega (arith, is, less) in
            let clash = sym e ∙ (kept_there s sound next low high).1 in
            cc)
        | inr more ↦ more
      ];
      few = omega arith;
    }

-- ---- a list of one, or of none

pub one_pushed : (before items : List KeptBatch) (o : Option KeptBatch) (b : KeptBatch)
    → o ≡ Some b → before ≡ [] → items ≡ before ++ b ∷ []
    → option_to_list (option_map keyed_batch o) ≡ keyed_batches items
one_pushed before items o b is empty pushed =
    ap (λ x. option_to_list (option_map keyed_batch x)) is
    ∙ sym (ap keyed_batches (pushed ∙ ap (λ l. l ++ b ∷ []) empty))

pub none_pushed : (items : List KeptBatch) (o : Option KeptBatch) → o ≡ None → items ≡ []
    → option_to_list (option_map keyed_batch o) ≡ keyed_batches items
none_pushed items o is empty =
    ap (λ x. option_to_list (option_map keyed_batch x)) is ∙ sym (ap keyed_batches empty)

-- ---- next batches, one part after the other

pub nexts_split : (s : State) (n j k : ℕ)
    → batches_next s n (j + k) ≡ batches_next s n j ++ batches_next s (n + j) k
nexts_split s n j zero =
    let none : j + 0 ≡ j = omega arith in
    ap (batches_next s n) none ∙ sym (append-nil (batches_next s n j))
nexts_split s n j (suc k) =
    let more : j + suc k ≡ suc (j + k) = omega arith in
    let same : n + suc (j + k) ≡ (n + j) + suc k = omega arith in
    let last = option_to_list (batch_in s ((n + j) + suc k)) in
    ap (batches_next s n) more
    ∙ (ap (λ m. batches_next s n (j + k) ++ option_to_list (batch_in s m)) same
    ∙ (ap (λ bs. bs ++ last) (nexts_split s n j k)
    ∙ append_assoc (batches_next s n j) (batches_next s (n + j) k) last))

pub at_most : {A : Type 0} (o : Option A) → length (option_to_list o) ≤ 1
at_most None = omega arith
at_most (Some x) = omega arith

-- no more batches than requested
pub nexts_short : (s : State) (n k : ℕ) → length (batches_next s n k) ≤ k
nexts_short s n zero = omega arith
nexts_short s n (suc k) =
    let rest = nexts_short s n k in
    let one = at_most (batch_in s (n + suc k)) in
    let long = length-append (batches_next s n k) (option_to_list (batch_in s (n + suc k))) in
    omega (arith, rest, one, long)

pub get_last : {A : Type 0} (xs : List A) (x : A) (n : ℕ)
    → length xs ≡ n → slice_get (xs ++ x ∷ []) n ≡ Some x
get_last [] x zero h = refl
get_last [] x (suc n) h = absurd (omega (arith, h))
get_last (y ∷ xs) x zero h = absurd (omega (arith, h))
get_last (y ∷ xs) x (suc n) h = get_last xs x n (omega (arith, h))

-- the last of the requested batches, if all were found
pub last_next : (s : State) (n j : ℕ) (b : KeyedBatch)
    → length (batches_next s n (suc j)) ≡ suc j
    → slice_get (batches_next s n (suc j)) j ≡ Some b → batch_in s (n + suc j) ≡ Some b
last_next s n j b full at = by (batch_in s (n + suc j)) refl where
  before : List KeyedBatch
  before = batches_next s n j

  by : (o : Option KeyedBatch) → batch_in s (n + suc j) ≡ o → o ≡ Some b
  by None e =
      let more : batches_next s n (suc j) ≡ before ++ [] =
      ap (λ x. before ++ option_to_list x) e in
      let short = nexts_short s n j in
      let long = ap length more ∙ length-append before [] in
      absurd (omega (arith, full, short, long))
  by (Some c) e =
      let more : batches_next s n (suc j) ≡ before ++ c ∷ [] =
      ap (λ x. before ++ option_to_list x) e in
      let long = ap length more ∙ length-append before (c ∷ []) in
      let here : slice_get (before ++ c ∷ []) j ≡ Some c =
      get_last before c j (omega (arith, full, long)) in
      sym here ∙ (ap (λ bs. slice_get bs j) (sym more) ∙ at)
