-- The lines of batches are those of the journal.
use Rattle.std.proofs.Common.{◌≡◌, ℕ, zero, suc, ◌+◌, ◌-◌, ◌≤◌, List, [], ◌∷◌, ◌++◌, length, map}
use Rattle.std.proofs.Common.{drop}
use Rattle.std.proofs.Common.{Option, inl, inr, refl, sym, ap, ◌∙◌, arith}
use Rattle.std.specs.Option.{option_to_list}
use Rattle.std.proofs.lemmas.Bool.{cases_lt}
use Rattle.std.proofs.Math.ListN.{drop_of_length-le}
use Rattle.streetmap_ledger.specs.State.{State}
use Rattle.streetmap_ledger.specs.WellFormed.{IsState}
use Rattle.streetmap_batch.specs.Text.{Text}
use Rattle.streetmap_ledger.specs.Kept.{KeyedBatch, batch_count, batches_next}
use Rattle.streetmap_ledger.specs.Kept.{batches_after}
use Rattle.streetmap_ledger.proofs.Serials.{found_under}
use Rattle.streetmap_ledger.proofs.AllThere.{as_many, kept_there}
use Rattle.streetmap_ledger.proofs.Nexts.{nexts_split}
use Rattle.streetmap_replay.specs.Journal.{kept_text}
use Rattle.streetmap_replay.specs.JournalText.{numbered_after, journal_lines}
use Rattle.streetmap_replay.specs.Lines.{numbered}
use Rattle.streetmap_exchange.specs.LineLaws.{LinesAreOfTheJournal}
use Rattle.streetmap_exchange.specs.Printed.{line_of}

map_append : {A B : Type 0} (f : A → B) (xs ys : List A) → map f (xs ++ ys) ≡ map f xs ++ map f ys
map_append f [] ys = refl
map_append f (x ∷ xs) ys = ap (λ l. f x ∷ l) (map_append f xs ys)

drop_all : {A : Type 0} (xs ys : List A) (n : ℕ) → length xs ≡ n → drop n (xs ++ ys) ≡ ys
drop_all [] ys zero h = refl
drop_all [] ys (suc n) h = absurd (omega (arith, h))
drop_all (x ∷ xs) ys zero h = absurd (omega (arith, h))
drop_all (x ∷ xs) ys (suc n) h = drop_all xs ys n (omega (arith, h))

long_map : {A B : Type 0} (f : A → B) (xs : List A) → length (map f xs) ≡ length xs
long_map f [] = refl
long_map f (x ∷ xs) = ap suc (long_map f xs)

-- one more line
numbered_last : (n : ℕ) (ts : List Text) (t : Text)
    → numbered_after n (ts ++ t ∷ []) ≡ numbered_after n ts ++ numbered (n + suc (length ts)) t ∷ []
numbered_last n [] t = refl
numbered_last n (x ∷ ts) t =
    let same : (n + 1) + suc (length ts) ≡ n + suc (suc (length ts)) = omega arith in
    ap (λ l. numbered (n + 1) x ∷ l) (numbered_last (n + 1) ts t
    ∙ ap (λ m. numbered_after (n + 1) ts ++ numbered m t ∷ []) same)

module _ (s : State) (sound : IsState s) where
  -- the lines of next batches are numbered by their serials
  lines_next : (n k : ℕ) → n + k ≤ batch_count s
      → map line_of (batches_next s n k) ≡ numbered_after n (map kept_text (batches_next s n k))
  lines_next n zero high = refl
  lines_next n (suc k) high =
      let b = kept_there s sound (n + suc k) (omega arith) high in
      let serial : b.0.1.serial ≡ n + suc k = (found_under s (n + suc k) b.0 b.1).1 in
      let before = batches_next s n k in
      let more : batches_next s n (suc k) ≡ before ++ b.0 ∷ [] =
      ap (λ (o : Option KeyedBatch). before ++ option_to_list o) b.1 in
      let many = as_many s sound n k (omega (arith, high)) in
      let long : length (map kept_text before) ≡ k = long_map kept_text before ∙ many in
      let lines = ap (map line_of) more ∙ map_append line_of before (b.0 ∷ []) in
      let texts = ap (map kept_text) more ∙ map_append kept_text before (b.0 ∷ []) in
      let last : numbered (n + suc (length (map kept_text before))) b.0.1.text ≡ line_of b.0 =
      ap (λ m. numbered (n + suc m) b.0.1.text) long
      ∙ ap (λ m. numbered m b.0.1.text) (sym serial) in
      lines
      ∙ (ap (λ l. l ++ line_of b.0 ∷ []) (lines_next n k (omega (arith, high)))
      ∙ sym (ap (numbered_after n) texts
      ∙ (numbered_last n (map kept_text before) b.0.1.text
      ∙ ap (λ x. numbered_after n (map kept_text before) ++ x ∷ []) last)))

  all_lines : journal_lines s ≡ map line_of (batches_next s 0 (batch_count s))
  all_lines =
      let none : batch_count s - 0 ≡ batch_count s = omega arith in
      ap (λ k. numbered_after 0 (map kept_text (batches_next s 0 k))) none
      ∙ sym (lines_next 0 (batch_count s) (omega arith))

  low : (after : ℕ) → after ≤ batch_count s
      → map line_of (batches_after s after) ≡ drop after (journal_lines s)
  low after high =
      let rest = batch_count s - after in
      let all : batch_count s ≡ after + rest = omega (arith, high) in
      let none : 0 + after ≡ after = omega arith in
      let front = batches_next s 0 after in
      let cut : batches_next s 0 (batch_count s) ≡ front ++ batches_next s after rest =
      ap (batches_next s 0) all ∙ (nexts_split s 0 after rest
      ∙ ap (λ n. front ++ batches_next s n rest) none) in
      let many : length (map line_of front) ≡ after =
      long_map line_of front ∙ as_many s sound 0 after (omega (arith, high)) in
      let lines = all_lines ∙ (ap (map line_of) cut
      ∙ map_append line_of front (batches_next s after rest)) in
      sym (ap (drop after) lines ∙ drop_all (map line_of front) _ after many)

  high : (after : ℕ) → batch_count s ≤ after
      → map line_of (batches_after s after) ≡ drop after (journal_lines s)
  high after over =
      let none : batch_count s - after ≡ 0 = omega (arith, over) in
      let all = batches_next s 0 (batch_count s) in
      let many : length (map line_of all) ≡ batch_count s =
      long_map line_of all ∙ as_many s sound 0 (batch_count s) (omega arith) in
      ap (λ k. map line_of (batches_next s after k)) none
      ∙ sym (ap (drop after) all_lines ∙ drop_of_length-le (map line_of all)
      (omega (arith, many, over)))

pub lines_are_of_the_journal : LinesAreOfTheJournal
lines_are_of_the_journal s after sound = elim (cases_lt after (batch_count s)) [
  | inl less ↦ low s sound after (omega (arith, less))
  | inr more ↦ high s sound after more
]
