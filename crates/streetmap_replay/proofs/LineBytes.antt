-- Lines as bytes: each is one line, and is read as itself.
use Rattle.std.proofs.Common.{◌≡◌, ℕ, ◌+◌, ◌-◌, ◌^◌, ◌<◌, ◌≤◌, ◌%◌, Bool, true, false, ◌==◌}
use Rattle.std.proofs.Common.{cond, IsTrue, All, List, [], ◌∷◌, ◌++◌, length, map, refl, sym, ap}
use Rattle.std.proofs.Common.{ap₂}
use Rattle.std.proofs.Common.{◌∙◌, arith, decimal}
use Rattle.std.specs.Prelude.{slice_index}
use Rattle.std.specs.List.{slice_split}
use Rattle.std.specs.Str.Lines.{lines, lines_of_parts, strip_carriage_return}
use Rattle.std.proofs.lemmas.Bool.Decides.{nat_tests}
use Rattle.std.proofs.lemmas.Fmt.{decimal_by_steps, decimal_injective}
use Rattle.std.proofs.lemmas.List.Elements.{All-nil, All-cons, All-head, All-tail, All-weaker}
use Rattle.std.proofs.lemmas.List.Elements.{All-map, All-same, All-append}
use Rattle.std.proofs.lemmas.List.Splits.{slice_split_at, length-slice_split}
use Rattle.streetmap_batch.specs.Text.{Text}
use Rattle.streetmap_batch.specs.BatchFacts.{IsSoundBatch}
use Rattle.streetmap_batch.specs.BatchText.{batch_data, batch_text}
use Rattle.streetmap_batch.specs.BatchValue.{BatchValue}
use Rattle.streetmap_ledger.specs.State.{opening_state}
use Rattle.streetmap_ledger.specs.Batches.{after_all}
use Rattle.streetmap_ledger.specs.Laws.{accepted_of}
use Rattle.streetmap_ledger.specs.WellFormed.{IsState}
use Rattle.streetmap_ledger.proofs.StatesStay.{opening_sound}
use Rattle.streetmap_replay.specs.Journal.{journal}
use Rattle.streetmap_replay.specs.Lines.{Line, bare, numbered, line_bytes, IsJournalLine, LinesAreOne}
use Rattle.streetmap_replay.specs.JournalText.{numbered_after, journal_lines, text_of_lines}
use Rattle.streetmap_replay.specs.JournalText.{JournalReadsInLines}
use Rattle.streetmap_replay.proofs.Accepted.{all_sound}
use Rattle.streetmap_replay.proofs.AllThere.{journal_is_whole}
use Rattle.streetmap_replay.proofs.JournalGrows.{from_opening}
use Rattle.streetmap_replay.proofs.NoControls.{is_printed, each_printed, decimal_printed, text_printed}
use Rattle.streetmap_replay.proofs.RepeatedBatches.{all_accepted}

-- ---- bytes of one line

-- neither a line feed nor a carriage return
pub record IsWithin (b : ℕ) : Type 0 where
  pub feed : (b == 10) ≡ false
  pub carriage : (b == 13) ≡ false

high_within : (b : ℕ) → 32 ≤ b → IsWithin b
high_within b low =
    record { feed = grind (arith, nat_tests); carriage = grind (arith, nat_tests) }

tab_within : IsWithin 9
tab_within = record { feed = refl; carriage = refl }

printed_within : (bs : List ℕ) → IsTrue (is_printed bs) → All IsWithin bs
printed_within bs h = All-weaker (λ b. 32 ≤ b) IsWithin high_within bs (each_printed bs h)

line_within : (n : ℕ) (t : Text) → n < 2 ^ 64 → IsTrue (is_printed t) →
    All IsWithin (line_bytes (numbered n t))
line_within n t small h =
    All-append IsWithin (decimal n) (9 ∷ t) (printed_within (decimal n) (decimal_printed n small))
    (All-cons IsWithin 9 t tab_within (printed_within t h))

pub no_feed : (bs : List ℕ) → All IsWithin bs → All (λ b. (b == 10) ≡ false) bs
no_feed bs h = All-weaker IsWithin (λ b. (b == 10) ≡ false) (λ b is. is.feed) bs h

kept_by : (b : Bool) (xs ys : List ℕ) → b ≡ false → cond b xs ys ≡ ys
kept_by true xs ys e = absurd cc
kept_by false xs ys e = refl

not_stripped : (bs : List ℕ) → All IsWithin bs → strip_carriage_return bs ≡ bs
not_stripped [] h = refl
not_stripped (b ∷ bs) h =
    let last : IsWithin (slice_index (b ∷ bs) (length (b ∷ bs) - 1)) =
    h (length (b ∷ bs) - 1) 0 (omega arith) in
    kept_by (slice_index (b ∷ bs) (length (b ∷ bs) - 1) == 13) _ _ last.carriage

first_part : (line : List ℕ) (parts : List (List ℕ)) → 0 < length parts →
    lines_of_parts (line ∷ parts) ≡ strip_carriage_return line ∷ lines_of_parts parts
first_part line [] h = absurd (omega (arith, h))
first_part line (x ∷ parts) h = refl

first_line : (line rest : List ℕ) → All IsWithin line →
    lines (line ++ 10 ∷ rest) ≡ line ∷ lines rest
first_line line rest h =
    let parts = slice_split (λ b. b == 10) rest in
    let some : 0 < length parts = omega (arith, length-slice_split (λ b. b == 10) rest) in
    ap lines_of_parts (slice_split_at (λ b. b == 10) line 10 rest (no_feed line h) refl)
    ∙ (first_part line parts some
    ∙ ap (λ (l : List ℕ). l ∷ lines_of_parts parts) (not_stripped line h))

-- a line whose bytes are one line
abbrev pub IsOneLine : Line → Type 0
IsOneLine line = All IsWithin (line_bytes line)

lines_again : (ls : List Line) → All IsOneLine ls →
    lines (text_of_lines ls) ≡ map line_bytes ls
lines_again [] h = refl
lines_again (l ∷ ls) h =
    first_line (line_bytes l) (text_of_lines ls) (All-head IsOneLine l ls h)
    ∙ ap (λ (rest : List (List ℕ)). line_bytes l ∷ rest)
    (lines_again ls (All-tail IsOneLine l ls h))

-- ---- texts with serials

all_numbered : (P : Line → Type 0) (most m : ℕ) (ts : List Text) →
    ((n : ℕ) (t : Text) → n ≤ most → IsTrue (is_printed t) → P (numbered n t)) →
    All (λ t. IsTrue (is_printed t)) ts → m + length ts ≤ most → All P (numbered_after m ts)
all_numbered P most m [] each h few = All-nil P
all_numbered P most m (t ∷ ts) each h few =
    All-cons P (numbered (m + 1) t) (numbered_after (m + 1) ts)
    (each (m + 1) t (omega (arith, few)) (All-head (λ t. IsTrue (is_printed t)) t ts h))
    (all_numbered P most (m + 1) ts each (All-tail (λ t. IsTrue (is_printed t)) t ts h)
    (omega (arith, few)))

module _ (bs : List BatchValue) (w : All IsSoundBatch bs) where
  pub all_printed : All (λ t. IsTrue (is_printed t)) (journal (after_all opening_state bs))
  all_printed =
      let accepted = accepted_of opening_state bs in
      All-same (λ t. IsTrue (is_printed t)) (journal (after_all opening_state bs))
      (map batch_text accepted) (from_opening bs w)
      (All-map (λ t. IsTrue (is_printed t)) batch_text accepted
      (All-weaker IsSoundBatch (λ b. IsTrue (is_printed (batch_text b))) text_printed accepted
      (all_accepted IsSoundBatch opening_state bs w)))

  few : length (journal (after_all opening_state bs)) < 2 ^ 63
  few =
      let made : IsState (after_all opening_state bs) =
      all_sound opening_state bs opening_sound w in
      let count = (journal_is_whole (after_all opening_state bs) made).0 in
      let most = made.not_too_many in
      omega (arith, count, most)

  all_lines : (P : Line → Type 0) →
      ((n : ℕ) (t : Text) → n < 2 ^ 64 → IsTrue (is_printed t) → P (numbered n t)) →
      All P (journal_lines (after_all opening_state bs))
  all_lines P each =
      all_numbered P (2 ^ 63) 0 (journal (after_all opening_state bs))
      (λ n t low h. each n t (omega (arith, low)) h) all_printed
      (let most = few in omega (arith, most))

  pub all_one_line : All IsOneLine (journal_lines (after_all opening_state bs))
  all_one_line = all_lines IsOneLine line_within

pub journal_reads_in_lines : JournalReadsInLines
journal_reads_in_lines bs w = (
  lines_again (journal_lines (after_all opening_state bs)) (all_one_line bs w),
  all_lines bs w (λ line. IsJournalLine (line_bytes line) line) (λ n t small h. (refl, small)),
)

-- ---- bytes are one line

other_tab : (b : ℕ) → 32 ≤ b → (b == 9) ≡ false
other_tab b low = grind (arith, nat_tests)

pub no_tab : (bs : List ℕ) → IsTrue (is_printed bs) → All (λ b. (b == 9) ≡ false) bs
no_tab bs h = All-weaker (λ b. 32 ≤ b) (λ b. (b == 9) ≡ false) other_tab bs (each_printed bs h)

not_tab : {A : Type 0} (b : ℕ) → (b == 9) ≡ false → b ≡ 9 → A
not_tab b e f = absurd (grind (arith, nat_tests))

at_tab : (xs ys t u : List ℕ) → All (λ b. (b == 9) ≡ false) xs → All (λ b. (b == 9) ≡ false) ys →
    xs ++ 9 ∷ t ≡ ys ++ 9 ∷ u → (xs ≡ ys) × (t ≡ u)
at_tab [] [] t u h k e = let rest : t ≡ u = cc in (refl, rest)
at_tab [] (y ∷ ys) t u h k e =
    let same : y ≡ 9 = cc in not_tab y (All-head (λ b. (b == 9) ≡ false) y ys k) same
at_tab (x ∷ xs) [] t u h k e =
    let same : x ≡ 9 = cc in not_tab x (All-head (λ b. (b == 9) ≡ false) x xs h) same
at_tab (x ∷ xs) (y ∷ ys) t u h k e =
    let same : x ≡ y = cc in
    let more : xs ++ 9 ∷ t ≡ ys ++ 9 ∷ u = cc in
    let rest = at_tab xs ys t u (All-tail (λ b. (b == 9) ≡ false) x xs h)
    (All-tail (λ b. (b == 9) ≡ false) y ys k) more in
    (ap₂ (λ z zs. z ∷ zs) same rest.0, rest.1)

pub one_numbered : (n m : ℕ) (t u : Text) → n < 2 ^ 64 → m < 2 ^ 64 →
    line_bytes (numbered n t) ≡ line_bytes (numbered m u) → (n ≡ m) × (t ≡ u)
one_numbered n m t u small low e =
    let cut = at_tab (decimal n) (decimal m) t u (no_tab (decimal n) (decimal_printed n small))
    (no_tab (decimal m) (decimal_printed m low)) e in
    (decimal_injective n m small low cut.0, cut.1)

lines_are_one : (bytes : List ℕ) (x y : Line) → IsJournalLine bytes x → IsJournalLine bytes y → x ≡ y
lines_are_one bytes (bare t) (bare u) h k = ap bare (h.0 ∙ sym k.0)
lines_are_one bytes (bare t) (numbered m u) h k = absurd (h.1 m u k.1 k.0)
lines_are_one bytes (numbered n t) (bare u) h k = absurd (k.1 n t h.1 h.0)
lines_are_one bytes (numbered n t) (numbered m u) h k =
    let same = one_numbered n m t u h.1 k.1 (h.0 ∙ sym k.0) in
    ap₂ (λ l r. numbered l r) same.0 same.1

decimal_low : (n : ℕ) → n < 2 ^ 64 → All (λ b. b < 58) (decimal n)
decimal_low n small =
    decimal_by_steps (λ m ds. All (λ b. b < 58) ds)
    (λ m h. All-cons (λ b. b < 58) (48 + m) [] (omega (arith, h)) (All-nil (λ b. b < 58)))
    (λ m ds h more. All-append (λ b. b < 58) ds ((48 + m % 10) ∷ []) more
    (All-cons (λ b. b < 58) (48 + m % 10) [] (omega arith) (All-nil (λ b. b < 58)))) n small

other_first : (ds t rest : List ℕ) → All (λ b. b < 58) ds → ds ++ 9 ∷ t ≡ 123 ∷ rest → ⊥
other_first [] t rest low e = let same : ◌≡◌ {A = ℕ} 9 123 = cc in omega (arith, same)
other_first (d ∷ ds) t rest low e =
    let same : d ≡ 123 = cc in
    let less : d < 58 = All-head (λ b. b < 58) d ds low in
    omega (arith, same, less)

-- the text of a batch begins with a left brace
braced : (b : BatchValue) → (rest : List ℕ) × (batch_text b ≡ 123 ∷ rest)
unfolding batch_text batch_data
braced b = (_, refl)

pub lines_are_one_each : LinesAreOne
lines_are_one_each = (
  lines_are_one,
  λ b w. (
    refl,
    λ n t small e. (let text = braced b in
        other_first (decimal n) t text.0 (decimal_low n small) (e ∙ text.1)),
  ),
)
