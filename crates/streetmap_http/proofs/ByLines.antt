-- How far a head has come, by the lines of its bytes.
use Rattle.std.proofs.Common.{◌≡◌, ◌≢◌, ◌<◌, ◌∙◌, ◌++◌, ◌∷◌, [], ℕ, List, false, length, sym, ap, subst, refl, arith, append_assoc, append-nil, inl, inr, ◌⊎◌}
use Rattle.std.proofs.lemmas.Bool.{cases_order}
use Rattle.std.proofs.lemmas.Grind.{common_steps}
use Rattle.std.proofs.lemmas.List.{length_push}
use Rattle.std.proofs.lemmas.List.Elements.{All-nil, All-cons, All-head, All-tail, All-push}
use Rattle.std.specs.Prelude.{All, ⊤, ◌==◌}
use Rattle.streetmap_http.specs.declared.head.HeadProgress.{HeadProgress}
use Rattle.streetmap_http.specs.declared.head.HeadProgress.TheVariants.{Blank, BlankCr, Text, Start, StartCr, Done}
use Rattle.streetmap_http.specs.Head.{HasNoLineFeed, IsEmptyText, nothing, carriage_return, IsLineText, lines_of, AreEmptyLines, IsLinesOfHead}
use Rattle.streetmap_http.specs.Progress.{BeginsHead, BreaksOffInLine, HasReached, step}
use Rattle.streetmap_http.proofs.Heads.{progress_after, progress_after_more, progress_append, done_stays}

-- a byte is a line feed, a carriage return, or another
on_byte : (P : ℕ → Type 0) → P 10 → P 13 → ((b : ℕ) → b ≢ 10 → b ≢ 13 → P b) → (b : ℕ) → P b
on_byte P feed return other b = elim (cases_order b 10) [
  | inl same ↦ subst P (sym same) feed
  | inr apart ↦ elim (cases_order b 13) [
    | inl same ↦ subst P (sym same) return
    | inr different ↦ other b (λ e. elim apart [ inl h ↦ omega (arith, e) | inr h ↦ omega (arith, e) ]) (λ e. elim different [ inl h ↦ omega (arith, e) | inr h ↦ omega (arith, e) ])
  ]
]

pub other_than : (b n : ℕ) → b ≢ n → (b == n) ≡ false
other_than b n h = grind (arith, common_steps)

-- ---- from the lines to how far the head has come

in_line : (text : List ℕ) → HasNoLineFeed text → progress_after Text text ≡ Text
in_line [] h = refl
in_line (b ∷ bs) h = rw (other_than b 10 (All-head (λ x. x ≢ 10) b bs h)) (in_line bs (All-tail (λ x. x ≢ 10) b bs h))

abbrev AtStart : HeadProgress → Type 0
AtStart Blank = ⊤
AtStart Start = ⊤
AtStart BlankCr = ⊥
AtStart Text = ⊥
AtStart StartCr = ⊥
AtStart Done = ⊥

-- after a carriage return at the start of a line
begins_with_return : (p : HeadProgress) (b : ℕ) → AtStart p → b ≢ 10 → step (step p 13) b ≡ Text
begins_with_return Blank b at h = rw (other_than b 10 h) refl
begins_with_return Start b at h = rw (other_than b 10 h) refl
begins_with_return BlankCr b at h = absurd at
begins_with_return Text b at h = absurd at
begins_with_return StartCr b at h = absurd at
begins_with_return Done b at h = absurd at

begins : (p : HeadProgress) (b : ℕ) → AtStart p → b ≢ 10 → b ≢ 13 → step p b ≡ Text
begins Blank b at h k = rw (other_than b 10 h, other_than b 13 k) refl
begins Start b at h k = rw (other_than b 10 h, other_than b 13 k) refl
begins BlankCr b at h k = absurd at
begins Text b at h k = absurd at
begins StartCr b at h k = absurd at
begins Done b at h k = absurd at

-- a line that is not empty leads into its text
into_line : (p : HeadProgress) (text : List ℕ) → AtStart p → IsLineText text → progress_after p text ≡ Text
into_line p [] at line = absurd (line.not_empty (nothing refl))
into_line p (b ∷ []) at line =
    begins p b at (All-head (λ x. x ≢ 10) b [] line.one_line) (λ e. line.not_empty (carriage_return (ap (λ c. c ∷ []) e)))
into_line p (b ∷ (c ∷ cs)) at line =
    let first : b ≢ 10 = All-head (λ x. x ≢ 10) b (c ∷ cs) line.one_line in
    let others : HasNoLineFeed (c ∷ cs) = All-tail (λ x. x ≢ 10) b (c ∷ cs) line.one_line in
    let second : c ≢ 10 = All-head (λ x. x ≢ 10) c cs others in
    let rest : HasNoLineFeed cs = All-tail (λ x. x ≢ 10) c cs others in
    elim (cases_order b 13) [
      | inl same ↦ ap (λ x. progress_after (step (step p x) c) cs) same ∙ ap (λ q. progress_after q cs) (begins_with_return p c at second) ∙ in_line cs rest
      | inr apart ↦ ap (λ q. progress_after q (c ∷ cs)) (begins p b at first (λ e. elim apart [ inl h ↦ omega (arith, e) | inr h ↦ omega (arith, e) ])) ∙ in_line (c ∷ cs) others
    ]

-- and after its end a new line starts
past_line : (p : HeadProgress) (text rest : List ℕ) → AtStart p → IsLineText text → progress_after p ((text ++ 10 ∷ []) ++ rest) ≡ progress_after Start rest
past_line p text rest at line =
    ap (progress_after p) (append_assoc text (10 ∷ []) rest) ∙ progress_append p text (10 ∷ rest) ∙ ap (λ q. progress_after q (10 ∷ rest)) (into_line p text at line)

past_lines : (lines : List (List ℕ)) (rest : List ℕ) → All IsLineText lines → progress_after Start (lines_of lines ++ rest) ≡ progress_after Start rest
past_lines [] rest h = refl
past_lines (l ∷ ls) rest h =
    ap (progress_after Start) (append_assoc (l ++ 10 ∷ []) (lines_of ls) rest)
    ∙ past_line Start l (lines_of ls ++ rest) tt (All-head IsLineText l ls h)
    ∙ past_lines ls rest (All-tail IsLineText l ls h)

pub past_all : (lines : List (List ℕ)) (rest : List ℕ) → 0 < length lines → All IsLineText lines → progress_after Blank (lines_of lines ++ rest) ≡ progress_after Start rest
past_all [] rest some h = absurd (omega arith)
past_all (l ∷ ls) rest some h =
    ap (progress_after Blank) (append_assoc (l ++ 10 ∷ []) (lines_of ls) rest)
    ∙ past_line Blank l (lines_of ls ++ rest) tt (All-head IsLineText l ls h)
    ∙ past_lines ls rest (All-tail IsLineText l ls h)

past_empty : (text rest : List ℕ) → IsEmptyText text → progress_after Blank ((text ++ 10 ∷ []) ++ rest) ≡ progress_after Blank rest
past_empty text rest (nothing e) = ap (λ t. progress_after Blank ((t ++ 10 ∷ []) ++ rest)) e
past_empty text rest (carriage_return e) = ap (λ t. progress_after Blank ((t ++ 10 ∷ []) ++ rest)) e

pub past_blank : (blank : List (List ℕ)) (rest : List ℕ) → All IsEmptyText blank → progress_after Blank (lines_of blank ++ rest) ≡ progress_after Blank rest
past_blank [] rest h = refl
past_blank (l ∷ ls) rest h =
    ap (progress_after Blank) (append_assoc (l ++ 10 ∷ []) (lines_of ls) rest)
    ∙ past_empty l (lines_of ls ++ rest) (All-head IsEmptyText l ls h)
    ∙ past_blank ls rest (All-tail IsEmptyText l ls h)

-- ---- the bytes of a head determine how far it has come

into_text : (lines : List (List ℕ)) (text : List ℕ) → All IsLineText lines → IsLineText text → progress_after Blank (lines_of lines ++ text) ≡ Text
into_text [] text h line = into_line Blank text tt line
into_text (l ∷ ls) text h line = past_all (l ∷ ls) text (omega arith) h ∙ into_line Start text tt line

alone : (p : HeadProgress) (xs : List ℕ) → progress_after p xs ≡ progress_after p (xs ++ [])
alone p xs = ap (progress_after p) (sym (append-nil xs))

blank_is : (xs : List ℕ) → AreEmptyLines xs → progress_after Blank xs ≡ Blank
blank_is xs s = ap (progress_after Blank) s.joined ∙ alone Blank (lines_of s.lines) ∙ past_blank s.lines [] s.empty

start_is : (xs : List ℕ) → BeginsHead xs → progress_after Blank xs ≡ Start
start_is xs s = ap (progress_after Blank) s.joined ∙ past_blank s.blank (lines_of s.lines) s.skipped ∙ alone Blank (lines_of s.lines) ∙ past_all s.lines [] s.some s.full

-- one byte after bytes that lead to this point
one_more : (xs front : List ℕ) (b : ℕ) (p : HeadProgress) → xs ≡ front ++ b ∷ [] → progress_after Blank front ≡ p → progress_after Blank xs ≡ step p b
one_more xs front b p e leads = ap (progress_after Blank) e ∙ progress_after_more Blank front b ∙ ap (λ q. step q b) leads

ended_is : (text : List ℕ) → IsEmptyText text → progress_after Start (text ++ 10 ∷ []) ≡ Done
ended_is text (nothing e) = ap (λ t. progress_after Start (t ++ 10 ∷ [])) e
ended_is text (carriage_return e) = ap (λ t. progress_after Start (t ++ 10 ∷ [])) e

pub head_is : (head : List ℕ) (lines : List (List ℕ)) → IsLinesOfHead head lines → progress_after Blank head ≡ Done
head_is head lines h =
    ap (progress_after Blank) h.joined ∙ past_blank h.blank (lines_of lines ++ (h.last ++ 10 ∷ [])) h.skipped
    ∙ past_all lines (h.last ++ 10 ∷ []) h.some h.full ∙ ended_is h.last h.ends

pub reached_is : (p : HeadProgress) (xs : List ℕ) → HasReached p xs → progress_after Blank xs ≡ p
reached_is Blank xs s = blank_is xs s
reached_is BlankCr xs (front, s, e) = one_more xs front 13 Blank e (blank_is front s)
reached_is Text xs s = ap (progress_after Blank) s.joined ∙ past_blank s.blank (lines_of s.lines ++ s.text) s.skipped ∙ into_text s.lines s.text s.full s.line
reached_is Start xs s = start_is xs s
reached_is StartCr xs (front, s, e) = one_more xs front 13 Start e (start_is front s)
reached_is Done xs (head, rest, lines, h, e) =
    ap (progress_after Blank) e ∙ progress_append Blank head rest ∙ ap (λ q. progress_after q rest) (head_is head lines h) ∙ done_stays rest

-- ---- one more byte

lines_more : (lines : List (List ℕ)) (text : List ℕ) → lines_of (lines ++ text ∷ []) ≡ lines_of lines ++ (text ++ 10 ∷ [])
lines_more [] text = append-nil (text ++ 10 ∷ [])
lines_more (l ∷ ls) text = ap (λ r. (l ++ 10 ∷ []) ++ r) (lines_more ls text) ∙ sym (append_assoc (l ++ 10 ∷ []) (lines_of ls) (text ++ 10 ∷ []))

same_head : (b c : ℕ) (xs ys : List ℕ) → b ∷ xs ≡ c ∷ ys → b ≡ c
same_head b c xs ys e = cc

not_empty : (b : ℕ) (text : List ℕ) → b ≢ 13 → IsEmptyText (b ∷ text) → ⊥
not_empty b text k (nothing e) = cc
not_empty b text k (carriage_return e) = k (same_head b 13 text [] e)

-- a line whose text begins with a byte other than a carriage return, or has two bytes
pub full_by_first : (b : ℕ) (text : List ℕ) → b ≢ 10 → b ≢ 13 → HasNoLineFeed text → IsLineText (b ∷ text)
full_by_first b text h k one_line = record { one_line = All-cons (λ x. x ≢ 10) b text h one_line; not_empty = not_empty b text k }

not_empty_two : (b : ℕ) (text : List ℕ) → IsEmptyText (13 ∷ (b ∷ text)) → ⊥
not_empty_two b text (nothing e) = cc
not_empty_two b text (carriage_return e) = cc

full_by_two : (b : ℕ) (text : List ℕ) → b ≢ 10 → HasNoLineFeed text → IsLineText (13 ∷ (b ∷ text))
full_by_two b text h one_line = record {
  one_line = All-cons (λ x. x ≢ 10) 13 (b ∷ text) (λ e. omega (arith, e)) (All-cons (λ x. x ≢ 10) b text h one_line);
  not_empty = not_empty_two b text;
}

longer_not_empty : (text : List ℕ) (b : ℕ) → (IsEmptyText text → ⊥) → IsEmptyText (text ++ b ∷ []) → ⊥
longer_not_empty [] b h e = h (nothing refl)
longer_not_empty (x ∷ xs) b h (nothing e) = cc
longer_not_empty (x ∷ xs) b h (carriage_return e) = absurd (omega (arith, length_push xs b, ap length e))

no_feed : HasNoLineFeed []
no_feed = All-nil (λ b. b ≢ 10)

no_lines : All IsLineText []
no_lines = All-nil IsLineText

-- one more empty line
empty_line : (xs front text : List ℕ) → xs ≡ front ++ (text ++ 10 ∷ []) → AreEmptyLines front → IsEmptyText text → AreEmptyLines xs
empty_line xs front text e s empty = record {
  lines = s.lines ++ text ∷ [];
  empty = All-push IsEmptyText s.lines text s.empty empty;
  joined = e ∙ ap (λ l. l ++ (text ++ 10 ∷ [])) s.joined ∙ sym (lines_more s.lines text);
}

-- a line that is not empty begins after empty lines
first_text : (xs front text : List ℕ) → xs ≡ front ++ text → AreEmptyLines front → IsLineText text → BreaksOffInLine xs
first_text xs front text e s line = record {
  blank = s.lines;
  lines = [];
  text = text;
  skipped = s.empty;
  full = no_lines;
  line = line;
  joined = e ∙ ap (λ l. l ++ text) s.joined;
}

-- or after other lines
next_text : (xs front text : List ℕ) → xs ≡ front ++ text → BeginsHead front → IsLineText text → BreaksOffInLine xs
next_text xs front text e s line = record {
  blank = s.blank;
  lines = s.lines;
  text = text;
  skipped = s.skipped;
  full = s.full;
  line = line;
  joined = e ∙ ap (λ l. l ++ text) s.joined ∙ append_assoc (lines_of s.blank) (lines_of s.lines) text;
}

-- the line goes on, or ends
after_text : (a b text more : List ℕ) → (a ++ (b ++ text)) ++ more ≡ a ++ (b ++ (text ++ more))
after_text a b text more = append_assoc a (b ++ text) more ∙ ap (λ l. a ++ l) (append_assoc b text more)

text_goes_on : (xs : List ℕ) (b : ℕ) → b ≢ 10 → BreaksOffInLine xs → BreaksOffInLine (xs ++ b ∷ [])
text_goes_on xs b other s = record {
  blank = s.blank;
  lines = s.lines;
  text = s.text ++ b ∷ [];
  skipped = s.skipped;
  full = s.full;
  line = record { one_line = All-push (λ x. x ≢ 10) s.text b s.line.one_line other; not_empty = longer_not_empty s.text b s.line.not_empty };
  joined = ap (λ l. l ++ b ∷ []) s.joined ∙ after_text (lines_of s.blank) (lines_of s.lines) s.text (b ∷ []);
}

text_ends : (xs : List ℕ) → BreaksOffInLine xs → BeginsHead (xs ++ 10 ∷ [])
text_ends xs s = record {
  blank = s.blank;
  lines = s.lines ++ s.text ∷ [];
  skipped = s.skipped;
  some = omega (arith, length_push s.lines s.text);
  full = All-push IsLineText s.lines s.text s.full s.line;
  joined = ap (λ l. l ++ 10 ∷ []) s.joined ∙ after_text (lines_of s.blank) (lines_of s.lines) s.text (10 ∷ []) ∙ ap (λ l. lines_of s.blank ++ l) (sym (lines_more s.lines s.text));
}

-- the empty line after the field lines ends the head
empty_line_ends : (xs front text : List ℕ) → xs ≡ front ++ (text ++ 10 ∷ []) → IsEmptyText text → (s : BeginsHead front) → IsLinesOfHead xs s.lines
empty_line_ends xs front text e empty s = record {
  blank = s.blank;
  last = text;
  skipped = s.skipped;
  some = s.some;
  full = s.full;
  ends = empty;
  joined = e ∙ ap (λ l. l ++ (text ++ 10 ∷ [])) s.joined ∙ append_assoc (lines_of s.blank) (lines_of s.lines) (text ++ 10 ∷ []);
}

-- a carriage return and one more byte
return_more : (xs front : List ℕ) (b : ℕ) → xs ≡ front ++ 13 ∷ [] → xs ++ b ∷ [] ≡ front ++ 13 ∷ (b ∷ [])
return_more xs front b e = ap (λ l. l ++ b ∷ []) e ∙ append_assoc front (13 ∷ []) (b ∷ [])

-- at the start of a line after the field lines, or after a carriage return there
abbrev pub AtLast : HeadProgress → Type 0
AtLast Blank = ⊥
AtLast BlankCr = ⊥
AtLast Text = ⊥
AtLast Start = ⊤
AtLast StartCr = ⊤
AtLast Done = ⊥

-- a line feed at the start of a line after the field lines, or after a carriage return there
pub lines_end : (p : HeadProgress) (xs : List ℕ) → AtLast p → HasReached p xs → (lines : List (List ℕ)) × IsLinesOfHead (xs ++ 10 ∷ []) lines
lines_end Blank xs at s = absurd at
lines_end BlankCr xs at s = absurd at
lines_end Text xs at s = absurd at
lines_end Start xs at s = (s.lines, empty_line_ends (xs ++ 10 ∷ []) xs [] refl (nothing refl) s)
lines_end StartCr xs at (front, s, e) = (s.lines, empty_line_ends (xs ++ 10 ∷ []) front (13 ∷ []) (return_more xs front 10 e) (carriage_return refl) s)
lines_end Done xs at s = absurd at

after_none : (xs : List ℕ) → ((lines : List (List ℕ)) × IsLinesOfHead xs lines) → HasReached Done xs
after_none xs (lines, h) = (xs, [], lines, h, sym (append-nil xs))

apart_of : (b n : ℕ) → (b < n) ⊎ (n < b) → b ≢ n
apart_of b n (inl h) = λ e. omega (arith, e)
apart_of b n (inr h) = λ e. omega (arith, e)

by_feed : (P : ℕ → Type 0) → P 10 → ((b : ℕ) → b ≢ 10 → P b) → (b : ℕ) → P b
by_feed P feed other b = elim (cases_order b 10) [ inl same ↦ subst P (sym same) feed | inr apart ↦ other b (apart_of b 10 apart) ]

within : (b : ℕ) → b ≢ 10 → step Text b ≡ Text
within b h = rw (other_than b 10 h) refl

-- one more byte takes the head one step further
pub step_reached : (p : HeadProgress) (xs : List ℕ) (b : ℕ) → HasReached p xs → HasReached (step p b) (xs ++ b ∷ [])
step_reached Blank xs b s = on_byte (λ c. HasReached (step Blank c) (xs ++ c ∷ []))
    (empty_line (xs ++ 10 ∷ []) xs [] refl s (nothing refl))
    (xs, s, refl)
    (λ c feed return. subst (λ q. HasReached q (xs ++ c ∷ [])) (sym (begins Blank c tt feed return)) (first_text (xs ++ c ∷ []) xs (c ∷ []) refl s (full_by_first c [] feed return no_feed)))
    b
step_reached BlankCr xs b (front, s, e) = by_feed (λ c. HasReached (step BlankCr c) (xs ++ c ∷ []))
    (empty_line (xs ++ 10 ∷ []) front (13 ∷ []) (return_more xs front 10 e) s (carriage_return refl))
    (λ c feed. subst (λ q. HasReached q (xs ++ c ∷ [])) (sym (begins_with_return Blank c tt feed)) (first_text (xs ++ c ∷ []) front (13 ∷ (c ∷ [])) (return_more xs front c e) s (full_by_two c [] feed no_feed)))
    b
step_reached Text xs b s = by_feed (λ c. HasReached (step Text c) (xs ++ c ∷ []))
    (text_ends xs s)
    (λ c feed. subst (λ q. HasReached q (xs ++ c ∷ [])) (sym (within c feed)) (text_goes_on xs c feed s))
    b
step_reached Start xs b s = on_byte (λ c. HasReached (step Start c) (xs ++ c ∷ []))
    (after_none (xs ++ 10 ∷ []) (lines_end Start xs tt s))
    (xs, s, refl)
    (λ c feed return. subst (λ q. HasReached q (xs ++ c ∷ [])) (sym (begins Start c tt feed return)) (next_text (xs ++ c ∷ []) xs (c ∷ []) refl s (full_by_first c [] feed return no_feed)))
    b
step_reached StartCr xs b (front, s, e) = by_feed (λ c. HasReached (step StartCr c) (xs ++ c ∷ []))
    (after_none (xs ++ 10 ∷ []) (lines_end StartCr xs tt (front, s, e)))
    (λ c feed. subst (λ q. HasReached q (xs ++ c ∷ [])) (sym (begins_with_return Start c tt feed)) (next_text (xs ++ c ∷ []) front (13 ∷ (c ∷ [])) (return_more xs front c e) s (full_by_two c [] feed no_feed)))
    b
step_reached Done xs b (head, rest, lines, h, e) = (head, rest ++ b ∷ [], lines, h, ap (λ l. l ++ b ∷ []) e ∙ append_assoc head rest (b ∷ []))

pub reached_first : HasReached Blank []
reached_first = record { lines = []; empty = All-nil IsEmptyText; joined = refl }

reached_after : (p : HeadProgress) (front bytes : List ℕ) → HasReached p front → HasReached (progress_after p bytes) (front ++ bytes)
reached_after p front [] s = subst (HasReached p) (sym (append-nil front)) s
reached_after p front (b ∷ bs) s = subst (HasReached (progress_after (step p b) bs)) (append_assoc front (b ∷ []) bs) (reached_after (step p b) (front ++ b ∷ []) bs (step_reached p front b s))

-- any bytes are those of a head that has come this far
pub reached : (bytes : List ℕ) → HasReached (progress_after Blank bytes) bytes
reached bytes = reached_after Blank [] bytes reached_first

-- a head ends with a line feed at the start of a line, or after a carriage return there
abbrev pub EndsThere : HeadProgress → ℕ → Type 0
EndsThere p b = AtLast p × (b ≡ 10)

pub ends_there : (p : HeadProgress) (b : ℕ) → p ≢ Done → step p b ≡ Done → EndsThere p b
ends_there Blank b h e = on_byte (λ c. step Blank c ≡ Done → EndsThere Blank c) (λ e. cc) (λ e. cc) (λ c f r e. let wrong : Text ≡ Done = sym (begins Blank c tt f r) ∙ e in cc) b e
ends_there BlankCr b h e = on_byte (λ c. step BlankCr c ≡ Done → EndsThere BlankCr c) (λ e. cc) (λ e. cc) (λ c f r e. let wrong : Text ≡ Done = sym (begins_with_return Blank c tt f) ∙ e in cc) b e
ends_there Text b h e = on_byte (λ c. step Text c ≡ Done → EndsThere Text c) (λ e. cc) (λ e. cc) (λ c f r e. let wrong : Text ≡ Done = sym (within c f) ∙ e in cc) b e
ends_there Start b h e = on_byte (λ c. step Start c ≡ Done → EndsThere Start c) (λ e. (tt, refl)) (λ e. cc) (λ c f r e. let wrong : Text ≡ Done = sym (begins Start c tt f r) ∙ e in cc) b e
ends_there StartCr b h e = on_byte (λ c. step StartCr c ≡ Done → EndsThere StartCr c) (λ e. (tt, refl)) (λ e. cc) (λ c f r e. let wrong : Text ≡ Done = sym (begins_with_return Start c tt f) ∙ e in cc) b e
ends_there Done b h e = absurd (h refl)
