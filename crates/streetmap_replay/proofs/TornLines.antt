-- What is found of lines of which a prefix was written.
use Rattle.std.proofs.Common.{◌≡◌, ℕ, suc, ◌+◌, ◌-◌, ◌<◌, ◌≤◌, ◌⊎◌, inl, inr, ◌==◌, false, All}
use Rattle.std.proofs.Common.{List, [], ◌∷◌, ◌++◌, length, take, drop, map, refl, sym, ap, subst}
use Rattle.std.proofs.Common.{◌∙◌}
use Rattle.std.proofs.Common.{arith, append_assoc, length-append}
use Rattle.std.specs.Io.{StartsWith}
use Rattle.std.proofs.lemmas.Bool.{cases_lt}
use Rattle.std.proofs.lemmas.List.{take-append-le}
use Rattle.std.proofs.lemmas.List.Elements.{All-nil, All-head, All-tail, All-take, All-same}
use Rattle.std.proofs.Math.Seq.{take-append-add}
use Rattle.std.proofs.Transfers.{starts_with_length}
use Rattle.streetmap_batch.specs.BatchFacts.{IsSoundBatch}
use Rattle.streetmap_batch.specs.BatchText.{batch_text}
use Rattle.streetmap_batch.specs.BatchValue.{BatchValue}
use Rattle.streetmap_ledger.specs.State.{State, opening_state}
use Rattle.streetmap_ledger.specs.Batches.{after_all}
use Rattle.streetmap_ledger.specs.Laws.{accepted_of}
use Rattle.streetmap_ledger.specs.WellFormed.{IsState}
use Rattle.streetmap_replay.specs.Journal.{journal}
use Rattle.streetmap_replay.specs.Lines.{Line, line_bytes}
use Rattle.streetmap_replay.specs.JournalText.{numbered_after, journal_lines, text_of_lines}
use Rattle.streetmap_replay.specs.JournalText.{journal_text, IsTorn, BeginningsAreTorn}
use Rattle.streetmap_replay.proofs.JournalGrows.{all_grow}
use Rattle.streetmap_replay.proofs.LineBytes.{IsOneLine, no_feed, all_one_line}
use Rattle.streetmap_replay.proofs.ItemsByPlace.{numbered-append}

pub lines-append : (ls ms : List Line) →
    text_of_lines (ls ++ ms) ≡ text_of_lines ls ++ text_of_lines ms
lines-append [] ms = refl
lines-append (l ∷ ls) ms =
    ap (λ (bs : List ℕ). line_bytes l ++ 10 ∷ bs) (lines-append ls ms)
    ∙ sym (append_assoc (line_bytes l) (10 ∷ text_of_lines ls) (text_of_lines ms))

-- a prefix of a line and of what comes after it: within the line, or the line and a prefix of the
-- rest
data Cut (line rest bytes : List ℕ) : Type 0 where
  within : bytes ≡ take (length bytes) line → Cut line rest bytes
  remaining : (more : List ℕ) → bytes ≡ line ++ 10 ∷ more → StartsWith rest more → Cut line rest bytes

cut_at : (line rest bytes : List ℕ) → StartsWith (line ++ 10 ∷ rest) bytes → Cut line rest bytes
cut_at line rest bytes h = by (cases_lt (length line) (length bytes)) where
  by : (length line < length bytes) ⊎ (length bytes ≤ length line) → Cut line rest bytes
  by (inr short) = within (sym h ∙ take-append-le (length bytes) line (10 ∷ rest) short)
  by (inl long) =
      let n = length bytes - (length line + 1) in
      let size : length bytes ≡ length line + suc n = omega (arith, long) in
      let is : bytes ≡ line ++ 10 ∷ take n rest =
      sym h ∙ (ap (λ (m : ℕ). take m (line ++ 10 ∷ rest)) size
      ∙ take-append-add line (10 ∷ rest) (suc n)) in
      let few : length (take n rest) ≡ n =
      let all = length-append line (10 ∷ take n rest) in
      let same = ap length is in omega (arith, all, same, size) in
      remaining (take n rest) is (ap (λ (m : ℕ). take m rest) few)

torn_by : (l : Line) (ls : List Line) (bytes : List ℕ) → IsOneLine l →
    ((more : List ℕ) → StartsWith (text_of_lines ls) more → IsTorn ls more) →
    Cut (line_bytes l) (text_of_lines ls) bytes → IsTorn (l ∷ ls) bytes
torn_by l ls bytes one rest (within is) = record {
  count = 0;
  within = omega arith;
  torn = bytes;
  is = refl;
  unended = All-same (λ b. (b == 10) ≡ false) bytes (take (length bytes) (line_bytes l)) is
      (All-take (λ b. (b == 10) ≡ false) (length bytes) (line_bytes l)
      (no_feed (line_bytes l) one));
  completed = refl;
}
torn_by l ls bytes one rest (remaining more is begins) =
    let it = rest more begins in
    let front = text_of_lines (take it.count ls) in
    let line = λ (bs : List ℕ). line_bytes l ++ 10 ∷ bs in
    record {
      count = suc it.count;
      within = omega (arith, it.within);
      torn = it.torn;
      is = is ∙ (ap line it.is ∙ sym (append_assoc (line_bytes l) (10 ∷ front) it.torn));
      unended = it.unended;
      completed = append_assoc (line_bytes l) (10 ∷ front) (text_of_lines (drop it.count ls))
          ∙ ap line it.completed;
    }

no_bytes : (bytes : List ℕ) → StartsWith [] bytes → bytes ≡ []
no_bytes [] h = refl
no_bytes (b ∷ bytes) h = sym h

pub is_torn : (ls : List Line) → All IsOneLine ls → (bytes : List ℕ) →
    StartsWith (text_of_lines ls) bytes → IsTorn ls bytes
is_torn [] one bytes h = record {
  count = 0;
  within = omega arith;
  torn = [];
  is = no_bytes bytes h;
  unended = All-nil (λ b. (b == 10) ≡ false);
  completed = refl;
}
is_torn (l ∷ ls) one bytes h =
    torn_by l ls bytes (All-head IsOneLine l ls one)
    (λ more begins. is_torn ls (All-tail IsOneLine l ls one) more begins)
    (cut_at (line_bytes l) (text_of_lines ls) bytes h)

longer : (xs ys bytes : List ℕ) → StartsWith xs bytes → StartsWith (xs ++ ys) bytes
longer xs ys bytes h = take-append-le (length bytes) xs ys (starts_with_length xs bytes h) ∙ h

-- the journal of a later state is the journal and further lines
pub later_text : (s : State) (bs : List BatchValue) → IsState s → All IsSoundBatch bs →
    (more : List ℕ) × (journal_text (after_all s bs) ≡ journal_text s ++ more)
later_text s bs sound all =
    let texts = map batch_text (accepted_of s bs) in
    let lines = numbered_after (0 + length (journal s)) texts in (
      text_of_lines lines,
      ap (λ ts. text_of_lines (numbered_after 0 ts)) (all_grow s bs sound all)
          ∙ (ap text_of_lines (numbered-append 0 (journal s) texts)
          ∙ lines-append (journal_lines s) lines),
    )

pub beginnings_are_torn : BeginningsAreTorn
beginnings_are_torn = (
  λ bs bytes w h. is_torn (journal_lines (after_all opening_state bs)) (all_one_line bs w) bytes h,
  λ s bs bytes sound all h. (let more = later_text s bs sound all in
      subst (λ (whole : List ℕ). StartsWith whole bytes) (sym more.1)
      (longer (journal_text s) more.0 bytes h)),
)
