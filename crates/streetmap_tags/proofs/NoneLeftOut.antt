-- No change is left out.
use Rattle.std.proofs.Common.{◌≡◌, ℕ, suc, ◌+◌, ◌-◌, ◌<◌, ◌≤◌, Bool, true, false, List, [], ◌∷◌, ◌++◌, length, take, drop}
use Rattle.std.proofs.Common.{inl, inr, ◌⊎◌, refl, sym, ap, subst, ◌∙◌, arith, append_assoc, length-append, take-append-drop}
use Rattle.std.specs.Prelude.{nat_le, if◌then◌else◌}
use Rattle.std.proofs.Math.Seq.{take-append_seam}
use Rattle.std.proofs.lemmas.Bool.{cases_lt}
use Rattle.std.proofs.lemmas.Bool.Decides.{nat_tests}
use Rattle.std.proofs.lemmas.List.{length-take}
use Rattle.streetmap_ledger.specs.State.{State}
use Rattle.streetmap_ledger.specs.WellFormed.{IsState}
use Rattle.streetmap_ledger.specs.Kept.{KeyedBatch, batch_count, batches_next, batches_after, text_bytes}
use Rattle.streetmap_ledger.proofs.AllThere.{kept_there, as_many}
use Rattle.streetmap_ledger.proofs.Nexts.{nexts_split}
use Rattle.streetmap_tags.specs.Changes.{within, most_bytes, changes_in, ChangesGoOn}
use Rattle.streetmap_tags.proofs.NextChange.{after_next}

-- ---- those that fit

-- the others are after them
abbrev Rest : ℕ → List KeyedBatch → Type 0
Rest room bs = (rest : List KeyedBatch) × (bs ≡ within room bs ++ rest)

others : (room : ℕ) (bs : List KeyedBatch) → Rest room bs
others room [] = ([], refl)
others room (b ∷ bs) = by (nat_le (length b.1.text) room) (others (room - length b.1.text) bs) where
  by : (t : Bool) → Rest (room - length b.1.text) bs
      → (rest : List KeyedBatch) × (b ∷ bs ≡ (b ∷ (if t then within (room - length b.1.text) bs else [])) ++ rest)
  by true more = (more.0, ap (λ l. b ∷ l) more.1)
  by false more = (bs, refl)

-- without the last of them they fit
fit : (room : ℕ) (bs : List KeyedBatch) → text_bytes (take (length (within room bs) - 1) (within room bs)) ≤ room
fit room [] = omega arith
fit room (b ∷ bs) = by (nat_le (length b.1.text) room) refl (fit (room - length b.1.text) bs) where
  more : (room size : ℕ) (c : KeyedBatch) (cs : List KeyedBatch) → size ≡ length c.1.text → size ≤ room
      → text_bytes (take (length cs - 1) cs) ≤ room - size → text_bytes (take (length (c ∷ cs) - 1) (c ∷ cs)) ≤ room
  more room size c [] is low rest = omega arith
  more room size c (d ∷ ds) is low rest =
      let last : length (c ∷ d ∷ ds) - 1 ≡ suc (length (d ∷ ds) - 1) = omega arith in
      subst (λ (k : ℕ). text_bytes (take k (c ∷ d ∷ ds)) ≤ room) (sym last) (omega (arith, is, low, rest))

  by : (t : Bool) → nat_le (length b.1.text) room ≡ t
      → text_bytes (take (length (within (room - length b.1.text) bs) - 1) (within (room - length b.1.text) bs)) ≤ room - length b.1.text
      → text_bytes (take (length (b ∷ (if t then within (room - length b.1.text) bs else [])) - 1)
      (b ∷ (if t then within (room - length b.1.text) bs else []))) ≤ room
  by true is rest =
      let low : length b.1.text ≤ room = grind (arith, nat_tests) in
      more room (length b.1.text) b (within (room - length b.1.text) bs) refl low rest
  by false is rest = omega arith

short : (room : ℕ) (bs : List KeyedBatch) → length (within room bs) ≤ length bs
short room bs =
    let rest = others room bs in
    let size = ap length rest.1 ∙ length-append (within room bs) rest.0 in
    omega (arith, size)

-- ---- the next batches

-- a prefix of the batches after a serial is the batches with the next serials
same_front : {A : Type 0} (xs zs ys ws : List A) → xs ++ zs ≡ ys ++ ws → length xs ≡ length ys → xs ≡ ys
same_front xs zs ys ws e same =
    sym (take-append_seam xs zs) ∙ (ap (take (length xs)) e ∙ (ap (λ (k : ℕ). take k (ys ++ ws)) same ∙ take-append_seam ys ws))

module _ (s : State) (sound : IsState s) (after : ℕ) (found rest : List KeyedBatch) (all : batches_after s after ≡ found ++ rest) where
  many : length (batches_after s after) ≡ batch_count s - after
  many = by (cases_lt (batch_count s) after) where
    by : (batch_count s < after) ⊎ (after ≤ batch_count s) → length (batches_after s after) ≡ batch_count s - after
    by (inl less) =
        let none : batch_count s - after ≡ 0 = omega arith in
        ap (λ (k : ℕ). length (batches_next s after k)) none ∙ sym none
    by (inr low) = as_many s sound after (batch_count s - after) (omega arith)

  few : length found ≤ batch_count s - after
  few =
      let size = ap length all ∙ length-append found rest in
      omega (arith, size, many)

  split : batches_after s after ≡ batches_next s after (length found) ++ batches_next s (after + length found) (batch_count s - after - length found)
  split =
      let more : batch_count s - after ≡ length found + (batch_count s - after - length found) = omega (arith, few) in
      ap (batches_next s after) more ∙ nexts_split s after (length found) (batch_count s - after - length found)

  as_long : length (batches_next s after (length found)) ≡ length found
  as_long = by (cases_lt (batch_count s) after) where
    by : (batch_count s < after) ⊎ (after ≤ batch_count s) → length (batches_next s after (length found)) ≡ length found
    by (inl less) =
        let none : length found ≡ 0 = omega (arith, few) in
        ap (λ (k : ℕ). length (batches_next s after k)) none ∙ sym none
    by (inr low) = as_many s sound after (length found) (omega (arith, few))

  pub prefix_next : found ≡ batches_next s after (length found)
  prefix_next = same_front found rest (batches_next s after (length found)) _ (sym all ∙ split) (sym as_long)

  pub prefix_rest : batches_after s after ≡ found ++ batches_after s (after + length found)
  prefix_rest =
      let left : batch_count s - after - length found ≡ batch_count s - (after + length found) = omega arith in
      split ∙ (ap (λ l. l ++ batches_next s (after + length found) (batch_count s - after - length found)) (sym prefix_next)
      ∙ ap (λ (k : ℕ). found ++ batches_next s (after + length found) k) left)

-- ---- the changes

module _ (s : State) (after limit : ℕ) where
  pub changes_front : (rest : List KeyedBatch) × (batches_after s after ≡ changes_in s after limit ++ rest)
  unfolding changes_in
  changes_front =
      let bs = batches_after s after in
      let it = others most_bytes (take limit bs) in (
        it.0 ++ drop limit bs,
        sym (take-append-drop limit bs) ∙ (ap (λ l. l ++ drop limit bs) it.1 ∙ append_assoc (within most_bytes (take limit bs)) it.0 (drop limit bs)),
      )

  changes_fit : text_bytes (take (length (changes_in s after limit) - 1) (changes_in s after limit)) ≤ most_bytes
  unfolding changes_in
  changes_fit = fit most_bytes (take limit (batches_after s after))

  changes_few : length (changes_in s after limit) ≤ limit
  unfolding changes_in
  changes_few =
      let bs = batches_after s after in
      let all = short most_bytes (take limit bs) in
      let size = length-take limit bs in
      omega (arith, all, size)

  changes_some : (b : KeyedBatch) (bs : List KeyedBatch) → 1 ≤ limit → batches_after s after ≡ b ∷ bs → changes_in s after limit ≡ [] → ⊥
  unfolding changes_in
  changes_some b bs some is none =
      let more : limit ≡ suc (limit - 1) = omega (arith, some) in
      let one = ap (λ (k : ℕ). within most_bytes (take k (batches_after s after))) more ∙ ap (λ l. within most_bytes (take (suc (limit - 1)) l)) is in
      let clash = ap length (sym none ∙ one) in
      omega (arith, clash)

pub changes_go_on : ChangesGoOn
changes_go_on s after limit sound some =
    let found = changes_in s after limit in
    let front = changes_front s after limit in
    record {
      next = record {
        are = prefix_next s sound after found front.0 front.1;
        some = λ none. elim (cases_lt after (batch_count s)) [
          | inl less ↦ absurd (
              let b = kept_there s sound (after + 1) (omega arith) (omega (arith, less)) in
              changes_some s after limit b.0 (batches_after s (after + 1)) some (after_next s after b.0 less b.1) none)
          | inr more ↦ more
        ];
        few = changes_fit s after limit;
      };
      few = changes_few s after limit;
      rest = prefix_rest s sound after found front.0 front.1;
    }
