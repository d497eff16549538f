-- Changes, read one after the other.
use Rattle.std.proofs.Common.{◌≡◌, ℕ, suc, ◌+◌, ◌-◌, ◌<◌, ◌≤◌, Bool, true, false, List, [], ◌∷◌, ◌++◌}
use Rattle.std.proofs.Common.{length, take, Some, inl, inr, ◌⊎◌, sym, ap, subst, ◌∙◌, arith}
use Rattle.std.proofs.Common.{append-nil, append_assoc}
use Rattle.std.specs.Prelude.{nat_le, if◌then◌else◌}
use Rattle.std.specs.Option.{option_to_list}
use Rattle.std.proofs.Math.Seq.{take-nil}
use Rattle.std.proofs.lemmas.Bool.Decides.{nat_tests}
use Rattle.std.proofs.lemmas.List.{map-append}
use Rattle.streetmap_ledger.specs.State.{State}
use Rattle.streetmap_ledger.specs.Kept.{KeyedBatch, batch_in, batch_count, batches_next, batches_after}
use Rattle.streetmap_ledger.specs.KeptView.{keyed_batch, keyed_batches}
use Rattle.streetmap_ledger.specs.declared.kept_batch.KeptBatch.{KeptBatch}
use Rattle.streetmap_ledger.proofs.Nexts.{nexts_split}
use Rattle.streetmap_tags.specs.Changes.{within, most_bytes, changes_in}

-- ---- the batches after a serial

-- the first of them
pub after_next : (s : State) (n : ℕ) (b : KeyedBatch) → n < batch_count s → batch_in s (n + 1) ≡ Some b
    → batches_after s n ≡ b ∷ batches_after s (n + 1)
after_next s n b low there =
    let k = batch_count s - (n + 1) in
    let more : batch_count s - n ≡ 1 + k = omega arith in
    let one : batches_next s n 1 ≡ b ∷ [] = ap option_to_list there in
    ap (batches_next s n) more ∙ (nexts_split s n 1 k ∙ ap (λ bs. bs ++ batches_next s (n + 1) k) one)

-- none is after the last
pub after_last : (s : State) (n : ℕ) → batch_count s ≤ n → batches_after s n ≡ []
after_last s n high =
    let none : batch_count s - n ≡ 0 = omega arith in
    ap (batches_next s n) none

-- ---- the first of them that fit

within_none : (room m : ℕ) (bs : List KeyedBatch) → bs ≡ [] → within room (take m bs) ≡ []
within_none room m bs e = ap (λ l. within room (take m l)) e ∙ ap (within room) (take-nil m)

within_all : (room m : ℕ) (bs : List KeyedBatch) → m ≡ 0 → within room (take m bs) ≡ []
within_all room m bs e = ap (λ k. within room (take k bs)) e

within_more : (room m k : ℕ) (b : KeyedBatch) (bs all : List KeyedBatch) → m ≡ suc k → all ≡ b ∷ bs
    → within room (take m all)
    ≡ b ∷ (if nat_le (length b.1.text) room then within (room - length b.1.text) (take k bs) else [])
within_more room m k b bs all e f = ap (λ n. within room (take n all)) e ∙ ap (λ l. within room (take (suc k) l)) f

fits : (a b : ℕ) → a ≤ b → nat_le a b ≡ true
fits a b h = grind (arith, nat_tests)

exceeds : (a b : ℕ) → b < a → nat_le a b ≡ false
exceeds a b h = grind (arith, nat_tests)

-- ---- so far

-- the changes are those that were found, and, of the batches after the last of them, the first that fit
pub record SoFar (s : State) (after limit count before room : ℕ) (found : List KeyedBatch) : Type 0 where
  pub counted : count ≡ batch_count s
  pub changes : changes_in s after limit ≡ found ++ within room (take (after + limit - before) (batches_after s before))

pub begins : (s : State) (after limit count : ℕ) → count ≡ batch_count s → SoFar s after limit count after most_bytes []
unfolding changes_in
begins s after limit count is =
    let all : limit ≡ after + limit - after = omega arith in
    record { counted = is; changes = ap (λ n. within most_bytes (take n (batches_after s after))) all }

-- the same list of batches, with one more
pub one_more : (found next : List KeptBatch) (kept : KeptBatch) → next ≡ found ++ kept ∷ []
    → keyed_batches found ++ keyed_batch kept ∷ [] ≡ keyed_batches next
one_more found next kept pushed = sym (ap keyed_batches pushed ∙ map-append keyed_batch found (kept ∷ []))

module _ (s : State) (after limit count before room : ℕ) (found : List KeyedBatch) (so_far : SoFar s after limit count before room found) where
  -- all batches were found, or as many as were requested
  pub ends : (count ≤ before) ⊎ (after + limit ≤ before) → found ≡ changes_in s after limit
  ends (inl high) =
      let none = after_last s before (subst (λ n. n ≤ before) so_far.counted high) in
      sym (so_far.changes
      ∙ (ap (λ l. found ++ l) (within_none room (after + limit - before) (batches_after s before) none) ∙ append-nil found))
  ends (inr high) =
      let none : after + limit - before ≡ 0 = omega arith in
      sym (so_far.changes
      ∙ (ap (λ l. found ++ l) (within_all room (after + limit - before) (batches_after s before) none) ∙ append-nil found))

  -- one more was found
  module _ (b : KeyedBatch) (low : before < count) (short : before < after + limit) (there : batch_in s (before + 1) ≡ Some b) where
    changes_more : changes_in s after limit ≡ found ++ b ∷ (if nat_le (length b.1.text) room
        then within (room - length b.1.text) (take (after + limit - (before + 1)) (batches_after s (before + 1))) else [])
    changes_more =
        let less : before < batch_count s = omega (arith, so_far.counted) in
        let more : after + limit - before ≡ suc (after + limit - (before + 1)) = omega arith in
        so_far.changes ∙ ap (λ l. found ++ l) (within_more room (after + limit - before) (after + limit - (before + 1)) b
        (batches_after s (before + 1)) (batches_after s before) more (after_next s before b less there))

    -- and none fits after it
    pub full : room < length b.1.text → found ++ b ∷ [] ≡ changes_in s after limit
    full high = sym (changes_more ∙ ap (λ (t : Bool). found ++ b ∷ (if t
        then within (room - length b.1.text) (take (after + limit - (before + 1)) (batches_after s (before + 1))) else []))
        (exceeds (length b.1.text) room high))

    pub goes_further : length b.1.text ≤ room → SoFar s after limit count (before + 1) (room - length b.1.text) (found ++ b ∷ [])
    goes_further high =
        let rest = within (room - length b.1.text) (take (after + limit - (before + 1)) (batches_after s (before + 1))) in
        record {
          counted = so_far.counted;
          changes = changes_more ∙ (ap (λ (t : Bool). found ++ b ∷ (if t then rest else [])) (fits (length b.1.text) room high)
              ∙ sym (append_assoc found (b ∷ []) rest));
        }

-- ---- a batch that was read

module _ (s : State) (after limit count before room : ℕ) (found next : List KeptBatch) (kept : KeptBatch) (bytes : ℕ)
    (so_far : SoFar s after limit count before room (keyed_batches found)) (pushed : next ≡ found ++ kept ∷ [])
    (is : bytes ≡ length (keyed_batch kept).1.text)
    (low : before < count) (short : before < after + limit) (there : batch_in s (before + 1) ≡ Some (keyed_batch kept)) where
  pub read_full : room < bytes → keyed_batches next ≡ changes_in s after limit
  read_full high = sym (one_more found next kept pushed)
      ∙ full s after limit count before room (keyed_batches found) so_far (keyed_batch kept) low short there (omega (arith, is, high))

  pub read_further : bytes ≤ room → SoFar s after limit count (before + 1) (room - bytes) (keyed_batches next)
  read_further high =
      let further = goes_further s after limit count before room (keyed_batches found) so_far (keyed_batch kept) low short there (omega (arith, is, high)) in
      let found_so = subst (λ (l : List KeyedBatch). SoFar s after limit count (before + 1) (room - length (keyed_batch kept).1.text) l)
      (one_more found next kept pushed) further in
      subst (λ (n : ℕ). SoFar s after limit count (before + 1) (room - n) (keyed_batches next)) (sym is) found_so
