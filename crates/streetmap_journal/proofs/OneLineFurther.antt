-- What is written of a journal, one line further.
use Rattle.std.proofs.Math.ListN.{drop_of_length-le}
use Rattle.std.proofs.Common.{◌≡◌, ◌≤◌, ◌<◌, ◌+◌, ◌-◌, ℕ, zero, suc, List, [], ◌∷◌, ◌++◌}
use Rattle.std.proofs.Common.{length, take, drop, None, Some, option_map}
use Rattle.std.proofs.Common.{refl, sym, ap, ◌∙◌, arith, append_assoc}
use Rattle.std.proofs.Common.{append-nil, length-append}
use Rattle.std.proofs.lemmas.List.{take-append-drop, take-append-le, drop-append-le, length-take}
use Rattle.std.specs.Prelude.{slice_get}
use Rattle.streetmap_batch.specs.Text.{Text}
use Rattle.streetmap_ledger.specs.State.{State}
use Rattle.streetmap_ledger.specs.WellFormed.{IsState}
use Rattle.streetmap_ledger.specs.Kept.{KeyedBatch, batch_in}
use Rattle.streetmap_replay.specs.Journal.{journal, kept_text}
use Rattle.streetmap_replay.specs.JournalText.{numbered_after, journal_lines, text_of_lines}
use Rattle.streetmap_replay.specs.Lines.{Line, numbered, line_bytes}
use Rattle.streetmap_replay.proofs.AllThere.{journal_is_whole}
use Rattle.streetmap_replay.proofs.ItemsByPlace.{get_drop, get_low, length-numbered}
use Rattle.streetmap_replay.proofs.TornLines.{lines-append}
use Rattle.streetmap_journal.specs.Completion.{IsKeptLine}
use Rattle.streetmap_journal.specs.Written.{Position, Reaches, lines_between, line_at}

-- ---- items of lists

pub get_numbered : (m : ℕ) (ts : List Text) (n : ℕ) (t : Text) → slice_get ts n ≡ Some t →
    slice_get (numbered_after m ts) n ≡ Some (numbered (m + n + 1) t)
get_numbered m [] n t h = absurd cc
get_numbered m (u ∷ ts) zero t h =
    let same : u ≡ t = cc in
    let serial : m + 1 ≡ m + 0 + 1 = omega arith in
    ap (λ (x : Text). Some (numbered (m + 1) x)) same
    ∙ ap (λ (k : ℕ). Some (numbered k t)) serial
get_numbered m (u ∷ ts) (suc n) t h =
    let serial : m + 1 + n + 1 ≡ m + suc n + 1 = omega arith in
    get_numbered (m + 1) ts n t h ∙ ap (λ (k : ℕ). Some (numbered k t)) serial

pub take_one : {A : Type 0} (n : ℕ) (xs : List A) (x : A) → slice_get xs n ≡ Some x →
    take (n + 1) xs ≡ take n xs ++ x ∷ []
take_one n [] x h = absurd cc
take_one zero (y ∷ xs) x h = let same : y ≡ x = cc in ap (λ z. z ∷ []) same
take_one (suc n) (y ∷ xs) x h =
    let next : suc n + 1 ≡ suc (n + 1) = omega arith in
    ap (λ (m : ℕ). take m (y ∷ xs)) next ∙ ap (λ zs. y ∷ zs) (take_one n xs x h)

pub get_last : {A : Type 0} (xs : List A) (x : A) → slice_get (xs ++ x ∷ []) (length xs) ≡ Some x
get_last [] x = refl
get_last (y ∷ xs) x = get_last xs x

take_first : {A : Type 0} (p q : ℕ) (xs : List A) → p ≤ q → take p (take q xs) ≡ take p xs
take_first zero q xs low = refl
take_first (suc p) zero xs low = absurd (omega (arith, low))
take_first (suc p) (suc q) [] low = refl
take_first (suc p) (suc q) (x ∷ xs) low = ap (λ zs. x ∷ zs) (take_first p q xs (omega (arith, low)))

get_none : {A : Type 0} (xs : List A) (n : ℕ) → slice_get xs n ≡ None → length xs ≤ n
get_none [] n h = omega arith
get_none (x ∷ xs) zero h = absurd cc
get_none (x ∷ xs) (suc n) h = let low = get_none xs n h in omega (arith, low)

-- ---- the lines of a state

-- the line of a batch that is kept
pub line_there : (s : State) → IsState s → (n : ℕ) (text : Text) →
    option_map kept_text (batch_in s (n + 1)) ≡ Some text →
    slice_get (journal_lines s) n ≡ Some (numbered (n + 1) text)
line_there s sound n text h =
    let there : slice_get (journal s) n ≡ Some text =
    sym ((journal_is_whole s sound).1 n) ∙ h in
    let same : 0 + n + 1 ≡ n + 1 = omega arith in
    get_numbered 0 (journal s) n text there ∙ ap (λ (k : ℕ). Some (numbered k text)) same

-- no line comes after that of the last batch
pub no_line_there : (s : State) → IsState s → (n : ℕ) → batch_in s (n + 1) ≡ None →
    length (journal_lines s) ≤ n
no_line_there s sound n h =
    let none : slice_get (journal s) n ≡ None =
    sym ((journal_is_whole s sound).1 n) ∙ ap (option_map kept_text) h in
    let few = get_none (journal s) n none in
    let many = length-numbered 0 (journal s) in
    omega (arith, few, many)

pub line_is : (s : State) (n : ℕ) (x : Line) → slice_get (journal_lines s) n ≡ Some x →
    text_of_lines (take 1 (drop n (journal_lines s))) ≡ line_bytes x ++ 10 ∷ []
line_is s n x h =
    let first : slice_get (drop n (journal_lines s)) 0 ≡ Some x =
    (let same : n + 0 ≡ n = omega arith in
    get_drop n (journal_lines s) 0 ∙ (ap (slice_get (journal_lines s)) same ∙ h)) in
    ap text_of_lines (take_one 0 (drop n (journal_lines s)) x first)

pub no_line_at : (s : State) (n : ℕ) → length (journal_lines s) < n → line_at s n ≡ []
no_line_at s n low =
    ap (λ (ls : List Line). text_of_lines (take 1 ls))
    (drop_of_length-le (journal_lines s) {i = n - 1} (omega (arith, low)))

-- ---- a line of the state, appended to what is written

module _ (s : State) (p q : Position) (bytes later line : List ℕ) (x : Line)
    (h : Reaches p bytes s) (there : slice_get (journal_lines s) (p.next - 1) ≡ Some x)
    (made : line ≡ line_bytes x ++ 10 ∷ []) (same : q.after ≡ p.after) where
  abbrev before : List ℕ
  before = text_of_lines (lines_between s p.after p.next)

  next_line : line_at s p.next ≡ line
  next_line = line_is s (p.next - 1) x there ∙ sym made

  low : p.next ≤ length (journal_lines s)
  low = (let few = get_low (journal_lines s) (p.next - 1) x there in
      let first = h.behind_first in omega (arith, few, first))

  is_so_far : bytes ≡ before ++ take p.part line
  is_so_far = h.is ∙ ap (λ (bs : List ℕ). before ++ take p.part bs) next_line

  one_line_more : text_of_lines (lines_between s p.after (p.next + 1)) ≡ before ++ line
  one_line_more =
      let first = h.behind_first in
      let few = low in
      let count : p.next + 1 - 1 ≡ p.next - 1 + 1 = omega (arith, first) in
      let ls = journal_lines s in
      let long = length-take (p.next - 1) ls in
      ap (λ (n : ℕ). text_of_lines (drop p.after (take n ls))) count
      ∙ (ap (λ (l : List Line). text_of_lines (drop p.after l)) (take_one (p.next - 1) ls x there)
      ∙ (ap text_of_lines
      (drop-append-le p.after (take (p.next - 1) ls) (x ∷ []) (omega (arith, first, few, long)))
      ∙ (lines-append (lines_between s p.after p.next) (x ∷ [])
      ∙ ap (λ (bs : List ℕ). before ++ bs) (sym made))))

  pub put_whole : q.next ≡ p.next + 1 → q.part ≡ 0 → later ≡ bytes ++ drop p.part line →
      Reaches q later s
  put_whole next part more =
      let few = low in
      let first = h.behind_first in
      let lines : text_of_lines (lines_between s q.after q.next) ≡ before ++ line =
      ap (λ (n : ℕ). text_of_lines (lines_between s n q.next)) same
      ∙ (ap (λ (n : ℕ). text_of_lines (lines_between s p.after n)) next ∙ one_line_more) in
      let none : take q.part (line_at s q.next) ≡ [] =
      ap (λ (n : ℕ). take n (line_at s q.next)) part in
      record {
        behind_first = omega (arith, first, same, next);
        within = omega (arith, few, next);
        is = more ∙ (ap (λ (bs : List ℕ). bs ++ drop p.part line) is_so_far
            ∙ (append_assoc before (take p.part line) (drop p.part line)
            ∙ (ap (λ (bs : List ℕ). before ++ bs) (take-append-drop p.part line)
            ∙ (sym lines
            ∙ (sym (append-nil (text_of_lines (lines_between s q.after q.next)))
            ∙ ap (λ (bs : List ℕ). text_of_lines (lines_between s q.after q.next) ++ bs)
            (sym none))))));
        part = omega (arith, part);
      }

  pub put_some : q.next ≡ p.next → p.part ≤ q.part → q.part ≤ length line →
      later ≡ bytes ++ drop p.part (take q.part line) → Reaches q later s
  put_some next low_part high more =
      let few = h.within in
      let first = h.behind_first in
      let lines : text_of_lines (lines_between s q.after q.next) ≡ before =
      ap (λ (n : ℕ). text_of_lines (lines_between s n q.next)) same
      ∙ ap (λ (n : ℕ). text_of_lines (lines_between s p.after n)) next in
      let torn : line_at s q.next ≡ line = ap (line_at s) next ∙ next_line in
      let both : take p.part line ++ drop p.part (take q.part line) ≡ take q.part line =
      ap (λ (bs : List ℕ). bs ++ drop p.part (take q.part line))
      (sym (take_first p.part q.part line low_part))
      ∙ take-append-drop p.part (take q.part line) in
      let long = ap length torn in
      record {
        behind_first = omega (arith, first, same, next);
        within = omega (arith, few, next);
        is = more ∙ (ap (λ (bs : List ℕ). bs ++ drop p.part (take q.part line)) is_so_far
            ∙ (append_assoc before (take p.part line) (drop p.part (take q.part line))
            ∙ (ap (λ (bs : List ℕ). before ++ bs) both
            ∙ (ap (λ (bs : List ℕ). bs ++ take q.part line) (sym lines)
            ∙ ap (λ (bs : List ℕ). text_of_lines (lines_between s q.after q.next)
            ++ take q.part bs) (sym torn)))));
        part = omega (arith, high, long);
      }

-- ---- a state with one more line

torn_longer : (ls : List Line) (x : Line) (part : ℕ) → part ≤ length (text_of_lines (take 1 ls)) →
    (take part (text_of_lines (take 1 (ls ++ x ∷ []))) ≡ take part (text_of_lines (take 1 ls)))
    × (part ≤ length (text_of_lines (take 1 (ls ++ x ∷ []))))
torn_longer [] x zero low = (refl, omega arith)
torn_longer [] x (suc n) low = absurd (omega (arith, low))
torn_longer (y ∷ ls) x part low = (refl, low)

pub grown_reached : (s t : State) (x : Line) → journal_lines t ≡ journal_lines s ++ x ∷ [] →
    (p : Position) (bytes : List ℕ) → Reaches p bytes s → Reaches p bytes t
grown_reached s t x grown p bytes h =
    let ls = journal_lines s in
    let within = h.within in
    let long = length-append ls (x ∷ []) in
    let size : length (journal_lines t) ≡ length ls + 1 = ap length grown ∙ omega (arith, long) in
    let low : p.next - 1 ≤ length ls = omega (arith, within) in
    let lines : lines_between t p.after p.next ≡ lines_between s p.after p.next =
    ap (λ (l : List Line). drop p.after (take (p.next - 1) l)) grown
    ∙ ap (drop p.after) (take-append-le (p.next - 1) ls (x ∷ []) low) in
    let rest : line_at t p.next ≡ text_of_lines (take 1 (drop (p.next - 1) ls ++ x ∷ [])) =
    ap (λ (l : List Line). text_of_lines (take 1 (drop (p.next - 1) l))) grown
    ∙ ap (λ (l : List Line). text_of_lines (take 1 l))
    (drop-append-le (p.next - 1) ls (x ∷ []) low) in
    let torn = torn_longer (drop (p.next - 1) ls) x p.part h.part in
    let wide = ap length rest in
    record {
      behind_first = h.behind_first;
      within = omega (arith, within, size);
      is = h.is ∙ (ap (λ (l : List Line). text_of_lines l ++ take p.part (line_at s p.next))
          (sym lines)
          ∙ ap (λ (bs : List ℕ). text_of_lines (lines_between t p.after p.next) ++ bs)
          (sym (ap (take p.part) rest ∙ torn.0)));
      part = omega (arith, torn.1, wide);
    }

-- ---- the line of a batch that is kept

pub kept_line_is : (s : State) (serial : ℕ) (batch : KeyedBatch) (text line : List ℕ) → Some batch ≡ batch_in s serial → text ≡ kept_text batch → line
    ≡ line_bytes (numbered serial text) ++ 10 ∷ []
    → IsKeptLine s serial (Some line)
kept_line_is s serial batch text line there same made =
    (kept_text batch, ap (option_map kept_text) (sym there), made ∙ ap (λ (t : Text). line_bytes (numbered serial t) ++ 10 ∷ []) same)
