-- The first line of an input, and what comes after it.
use Rattle.std.proofs.Common.{◌≡◌, ℕ, suc, ◌+◌, ◌<◌, ◌≤◌, Bool, true, false, cond, not, List, []}
use Rattle.std.proofs.Common.{◌∷◌, ◌++◌, length, take, drop, refl, sym, ap, subst, ◌∙◌, arith}
use Rattle.std.proofs.Common.{append_assoc, append-nil, length-append, take-append-drop, take_all}
use Rattle.std.proofs.Common.{Option, Some, None, option_map, ◌==◌, MatchOption, IfSome, nat_lt}
use Rattle.std.proofs.lemmas.Bool.Decides.{nat_tests}
use Rattle.std.proofs.lemmas.List.Elements.{All-append, All-nil, All-cons}
use Rattle.std.proofs.lemmas.List.Splits.{slice_split_at, slice_split_none, length-slice_split}
use Rattle.std.proofs.lemmas.List.{length-take-le}
use Rattle.std.proofs.lemmas.Bool.{false_from_ne_true}
use Rattle.std.proofs.lemmas.List.Sums.{prefix_len-le-length, position_or_len_is}
use Rattle.std.specs.Io.{StartsWith}
use Rattle.std.specs.List.{position, position_or_len}
use Rattle.std.proofs.KnownBytes.{Keeps-trans, prepend_known-nil, Keeps-refl}
use Rattle.std.specs.Io.KnownBytes.{Keeps, Consumes, IsAtEnd, prepend_known}
use Rattle.std.specs.Str.Lines.{lines_of_parts, strip_carriage_return}
use Rattle.memchr.specs.Find.{IsFirstByte, is_byte}
use Rattle.streetmap_text_lines.specs.Lines.{raw_lines, is_too_long, first_too_long}
use Rattle.streetmap_text_lines.specs.LineReads.{HasNoLineFeed, IsFirstLine, WhereKnown}

-- ---- the first line feed

abbrev is_feed : ℕ → Bool
is_feed b = b == 10

abbrev pub line_length : List ℕ → ℕ
line_length bs = position_or_len is_feed bs

before-step : (v : Bool) (b n : ℕ) (bs : List ℕ) → is_feed b ≡ v → HasNoLineFeed (take n bs) →
    HasNoLineFeed (take (cond (not v) (1 + n) 0) (b ∷ bs))
before-step true b n bs d h = All-nil (λ c. (c == 10) ≡ false)
before-step false b n bs d h =
    let next : suc n ≡ 1 + n = omega arith in
    subst (λ m. HasNoLineFeed (take m (b ∷ bs))) next
    (All-cons (λ c. (c == 10) ≡ false) b (take n bs) d h)

-- no line feed comes before the first one
pub before_line_feed : (bs : List ℕ) → HasNoLineFeed (take (line_length bs) bs)
before_line_feed [] = All-nil (λ c. (c == 10) ≡ false)
before_line_feed (b ∷ bs) = before-step (is_feed b) b (line_length bs) bs refl (before_line_feed bs)

through-step : (v : Bool) (b n : ℕ) (bs : List ℕ) → is_feed b ≡ v →
    (n < length bs → take (n + 1) bs ≡ take n bs ++ 10 ∷ [])
    → cond (not v) (1 + n) 0 < length (b ∷ bs) → take (cond (not v) (1 + n) 0 + 1) (b ∷ bs) ≡ take
    (cond (not v) (1 + n) 0) (b ∷ bs) ++ 10 ∷ []
through-step true b n bs d h l =
    let ten : b ≡ 10 = grind (arith, nat_tests) in
    ap (λ c. c ∷ []) ten
through-step false b n bs d h l =
    let more : suc (n + 1) ≡ 1 + n + 1 = omega arith in
    let next : 1 + n ≡ suc n = omega arith in
    let within : n < length bs = omega arith in
    ap (λ m. take m (b ∷ bs)) (sym more) ∙ ap (λ r. b ∷ r) (h within) ∙ ap
    (λ m. take m (b ∷ bs) ++ 10 ∷ []) (sym next)

-- up to the first line feed
pub through_line_feed : (bs : List ℕ) → line_length bs < length bs →
    take (line_length bs + 1) bs ≡ take (line_length bs) bs ++ 10 ∷ []
through_line_feed [] l = absurd (omega arith)
through_line_feed (b ∷ bs) l = through-step (is_feed b) b (line_length bs) bs refl
    (through_line_feed bs) l

-- bytes with a line feed, cut there
cut_line_feed : (bs : List ℕ) → line_length bs < length bs →
    bs ≡ take (line_length bs) bs ++ 10 ∷ drop (line_length bs + 1) bs
cut_line_feed bs l =
    let n = line_length bs in
    sym (take-append-drop (n + 1) bs) ∙ ap (λ r. r ++ drop (n + 1) bs) (through_line_feed bs l) ∙
    append_assoc (take n bs) (10 ∷ []) (drop (n + 1) bs)

-- a search for the first line feed finds how long the line is
pub found_length : (bs : List ℕ) (o : Option ℕ) → IsFirstByte (is_byte 10) bs o →
    MatchOption o (length bs ≡ line_length bs) (λ n. n ≡ line_length bs)
found_length bs None h = sym (position_or_len_is is_feed bs (length bs) 0 (omega arith)
    (λ k l. false_from_ne_true _ (h k (omega arith) l)) (λ l. absurd (omega arith)))
found_length bs (Some n) h =
    let within : n < length bs = h.0.high in
    sym (position_or_len_is is_feed bs n 0 (omega arith)
    (λ k l. false_from_ne_true _ (h.0.before k (omega arith) l)) (λ l. h.1))

-- the line goes on within itself
pub longer_line : (line shown longer : List ℕ) (n : ℕ) → HasNoLineFeed line →
    n ≡ line_length shown → longer ≡ line ++ take n shown → HasNoLineFeed longer
longer_line line shown longer n h e is =
    let none = subst (λ m. HasNoLineFeed (take m shown)) (sym e) (before_line_feed shown) in
    subst HasNoLineFeed (sym is) (All-append (λ c. (c == 10) ≡ false) line (take n shown) h none)

-- a line that is read in part: the line so far and what the reader has left are the input
pub record IsPartRead (most : ℕ) (a b : Option (List ℕ)) (line : List ℕ) : Type 0 where
  pub whole : Keeps a (prepend_known line b)
  pub one_line : HasNoLineFeed line
  pub short : length line ≤ most

module _ (most : ℕ) where
  -- ---- the first line that is too long

  no-first : (m n : ℕ) →
      cond (nat_lt (1 + m) (suc n)) (Some (1 + m)) None ≡ option_map (λ k. 1 + k)
      (cond (nat_lt m n) (Some m) None)
  no-first m n = grind (arith, nat_tests)

  yes-first : (n : ℕ) → cond {A = Option ℕ} (nat_lt 0 (suc n)) (Some 0) None ≡ Some 0
  yes-first n = grind (arith, nat_tests)

  abbrev place : Bool → ℕ → ℕ → Option ℕ
  place v m n = cond (nat_lt (cond (not v) (1 + m) 0) (suc n)) (Some (cond (not v) (1 + m) 0)) None

  position-yes : {X : Type 0} (p : X → Bool) (x : X) (xs : List X) → p x ≡ true →
      position p (x ∷ xs) ≡ Some 0
  position-yes p x xs e = ap (λ v. place v (position_or_len p xs) (length xs)) e ∙ yes-first
      (length xs)

  position-no : {X : Type 0} (p : X → Bool) (x : X) (xs : List X) → p x ≡ false →
      position p (x ∷ xs) ≡ option_map (λ n. 1 + n) (position p xs)
  position-no p x xs e = ap (λ v. place v (position_or_len p xs) (length xs)) e ∙ no-first
      (position_or_len p xs) (length xs)

  at_line_feed : (line rest : List ℕ) → HasNoLineFeed line →
      raw_lines (line ++ 10 ∷ rest) ≡ line ∷ raw_lines rest
  at_line_feed line rest h = slice_split_at is_feed line 10 rest h refl

  one_line : (line : List ℕ) → HasNoLineFeed line → raw_lines line ≡ line ∷ []
  one_line line h = slice_split_none is_feed line h

  is_short : (line : List ℕ) → length line ≤ most → is_too_long most line ≡ false
  is_short line h = grind (arith, nat_tests)

  is_long : (line : List ℕ) → most < length line → is_too_long most line ≡ true
  is_long line h = grind (arith, nat_tests)

  -- a prefix of the first line is too long already, whatever follows
  long-step : (v : Bool) (line rest : List ℕ) → nat_lt (line_length rest) (length rest) ≡ v →
      HasNoLineFeed line → most < length line
      → first_too_long most (line ++ rest) ≡ Some 0
  long-step false line rest d h long =
      let past : length rest ≤ line_length rest = grind (arith, nat_tests) in
      let none = subst HasNoLineFeed (take_all (line_length rest) rest past) (before_line_feed rest)
      in
      let all = All-append (λ c. (c == 10) ≡ false) line rest h none in
      let big : most < length (line ++ rest) = omega (arith, length-append line rest) in
      ap (position (is_too_long most)) (one_line (line ++ rest) all) ∙ position-yes
      (is_too_long most) (line ++ rest) [] (is_long (line ++ rest) big)
  long-step true line rest d h long =
      let within : line_length rest < length rest = grind (arith, nat_tests) in
      let front = take (line_length rest) rest in
      let later = drop (line_length rest + 1) rest in
      let all = All-append (λ c. (c == 10) ≡ false) line front h (before_line_feed rest) in
      let big : most < length (line ++ front) = omega (arith, length-append line front) in
      ap (λ l. first_too_long most (line ++ l)) (cut_line_feed rest within)
      ∙ ap (first_too_long most) (sym (append_assoc line front (10 ∷ later)))
      ∙ ap (position (is_too_long most)) (at_line_feed (line ++ front) later all)
      ∙ position-yes (is_too_long most) (line ++ front) (raw_lines later)
      (is_long (line ++ front) big)

  pub long_line : (line rest : List ℕ) → HasNoLineFeed line → most < length line →
      first_too_long most (line ++ rest) ≡ Some 0
  long_line line rest h long = long-step (nat_lt (line_length rest) (length rest)) line rest refl h
      long

  -- a line goes past the limit by the first n of the bytes that a reader shows
  long_shown : (line rest shown : List ℕ) (n : ℕ) → HasNoLineFeed line →
      HasNoLineFeed (take n shown) → StartsWith rest shown → n ≤ length shown
      → most < length line + n → first_too_long most (line ++ rest) ≡ Some 0
  long_shown line rest shown n h none front within long =
      let tail = drop (length shown) rest in
      let whole : rest ≡ take n shown ++ (drop n shown ++ tail) =
      sym (take-append-drop (length shown) rest) ∙ ap (λ l. l ++ tail) front ∙ ap (λ l. l ++ tail)
      (sym (take-append-drop n shown)) ∙ append_assoc (take n shown) (drop n shown) tail in
      let all = All-append (λ c. (c == 10) ≡ false) line (take n shown) h none in
      let big : most < length (line ++ take n shown) = omega
      (arith, length-append line (take n shown), length-take-le n shown within) in
      ap (λ l. first_too_long most (line ++ l)) whole
      ∙ ap (first_too_long most) (sym (append_assoc line (take n shown) (drop n shown ++ tail)))
      ∙ long_line (line ++ take n shown) (drop n shown ++ tail) all big

  pub long_known : (a : Option (List ℕ)) (line shown : List ℕ) (n : ℕ) → HasNoLineFeed line →
      n ≡ line_length shown → IfSome a (λ rest. StartsWith rest shown)
      → most < length line + n → IfSome a (λ rest. first_too_long most (line ++ rest) ≡ Some 0)
  long_known None line shown n h e front long = tt
  long_known (Some rest) line shown n h e front long =
      let none = subst (λ m. HasNoLineFeed (take m shown)) (sym e) (before_line_feed shown) in
      let bound = prefix_len-le-length (λ x. not (is_feed x)) shown in
      let within : n ≤ length shown = omega (arith, bound) in
      long_shown line rest shown n h none front within long

  -- ---- the first line

  parts-lines : (line : List ℕ) (parts : List (List ℕ)) → 0 < length parts →
      lines_of_parts (line ∷ parts) ≡ strip_carriage_return line ∷ lines_of_parts parts
  parts-lines line [] h = absurd (omega arith)
  parts-lines line (x ∷ more) h = refl

  some-part : (rest : List ℕ) → 0 < length (raw_lines rest)
  some-part rest = omega (arith, length-slice_split is_feed rest)

  alone : (v : Bool) (line : List ℕ) → (length line == 0) ≡ v → 0 < length line →
      cond v [] (line ∷ []) ≡ line ∷ []
  alone true line d some = absurd (grind (arith, nat_tests))
  alone false line d some = refl

  -- bytes before a line feed are the first line
  pub ended_line : (line rest : List ℕ) → HasNoLineFeed line → length line ≤ most →
      IsFirstLine most (line ++ 10 ∷ rest) (strip_carriage_return line) rest
  ended_line line rest h short = record {
    first = ap lines_of_parts (at_line_feed line rest h) ∙ parts-lines line (raw_lines rest)
        (some-part rest);
    short = ap (position (is_too_long most)) (at_line_feed line rest h) ∙ position-no
        (is_too_long most) line (raw_lines rest) (is_short line short);
  }

  none_of_nothing : first_too_long most [] ≡ None
  none_of_nothing = position-no (is_too_long most) [] [] (is_short [] (omega arith))

  -- the last line may lack its line feed
  pub last_line : (line : List ℕ) → HasNoLineFeed line → length line ≤ most → 0 < length line →
      IsFirstLine most line line []
  last_line line h short some = record {
    first = ap lines_of_parts (one_line line h) ∙ alone (length line == 0) line refl some;
    short = ap (position (is_too_long most)) (one_line line h) ∙ position-no (is_too_long most) line
        [] (is_short line short) ∙ ap (option_map (λ n. 1 + n)) (sym none_of_nothing);
  }

  -- ---- bytes that are known

  -- what was read was appended to the line
  pub taken_over : (a c : Option (List ℕ)) (line more longer : List ℕ) → Consumes a c more →
      longer ≡ line ++ more → Keeps (prepend_known line a) (prepend_known longer c)
  taken_over None c line more longer h e = tt
  taken_over (Some xs) None line more longer h e = absurd h
  taken_over (Some xs) (Some ys) line more longer h e = ap (λ l. l ++ ys) e ∙ append_assoc line more
      ys ∙ ap (λ l. line ++ l) (sym h)

  pub part_none : (a : Option (List ℕ)) (line : List ℕ) → line ≡ [] → IsPartRead most a a line
  part_none a line e =
      subst (IsPartRead most a a) (sym e)
      (record {
        whole = subst (Keeps a) (sym (prepend_known-nil a)) (Keeps-refl a);
        one_line =
            All-nil (λ c. (c == 10) ≡ false);
        short = omega arith;
      })

  pub part_more : (a b c : Option (List ℕ)) (line longer : List ℕ) → IsPartRead most a b line →
      Keeps (prepend_known line b) (prepend_known longer c)
      → HasNoLineFeed longer → length longer ≤ most → IsPartRead most a c longer
  part_more a b c line longer p more h short = record
      { whole = Keeps-trans _ _ _ p.whole more; one_line = h; short = short }

  pub part_ended : (a b c : Option (List ℕ)) (line longer text : List ℕ) →
      IsPartRead most a b line →
      Keeps (prepend_known line b) (prepend_known (longer ++ 10 ∷ []) c)
      → HasNoLineFeed longer → length longer ≤ most → text ≡ strip_carriage_return longer
      → WhereKnown a c (λ input rest. IsFirstLine most input text rest)
  part_ended a b c line longer text p more h short is = at a c (Keeps-trans _ _ _ p.whole more)
    where
      at : (a c : Option (List ℕ)) → Keeps a (prepend_known (longer ++ 10 ∷ []) c) →
          WhereKnown a c (λ input rest. IsFirstLine most input text rest)
      at None c k = tt
      at (Some input) None k = absurd k
      at (Some input) (Some rest) k =
          subst (λ i. IsFirstLine most i text rest)
          (sym (append_assoc longer (10 ∷ []) rest) ∙ k)
          (subst (λ l. IsFirstLine most (longer ++ 10 ∷ rest) l rest) (sym is)
          (ended_line longer rest h short))

  pub part_last : (a b c : Option (List ℕ)) (line longer : List ℕ) → IsPartRead most a b line →
      (longer ≡ line) × Keeps b c × IsAtEnd b → 0 < length longer
      → WhereKnown a c (λ input rest. IsFirstLine most input longer rest)
  part_last None b c line longer p end some = tt
  part_last (Some input) None c line longer p end some = absurd p.whole
  part_last (Some input) (Some rest) None line longer p end some = absurd end.1
  part_last (Some input) (Some rest) (Some later) line longer p end some =
      let none : [] ≡ later = sym end.2 ∙ sym end.1 in
      let all : longer ≡ input = end.0 ∙ sym (append-nil line) ∙ ap (λ r. line ++ r) (sym end.2) ∙
      p.whole in
      let h = subst HasNoLineFeed (sym end.0) p.one_line in
      let short : length longer ≤ most = subst (λ l. length l ≤ most) (sym end.0) p.short in
      subst (λ i. IsFirstLine most i longer later) all
      (subst (IsFirstLine most longer longer) none (last_line longer h short some))

  pub part_end : (a b c : Option (List ℕ)) (line longer : List ℕ) → IsPartRead most a b line →
      (longer ≡ line) × Keeps b c × IsAtEnd b → longer ≡ []
      → Keeps a c × IsAtEnd a
  part_end None b c line longer p end none = (tt, tt)
  part_end (Some input) None c line longer p end none = absurd p.whole
  part_end (Some input) (Some rest) None line longer p end none = absurd end.1
  part_end (Some input) (Some rest) (Some later) line longer p end none =
      let left : rest ≡ input = ap (λ l. l ++ rest) (sym none ∙ end.0) ∙ p.whole in
      (end.1 ∙ left, sym left ∙ end.2)

  pub part_too_long : (a b : Option (List ℕ)) (line : List ℕ) → IsPartRead most a b line →
      IfSome b (λ rest. first_too_long most (line ++ rest) ≡ Some 0)
      → IfSome a (λ input. first_too_long most input ≡ Some 0)
  part_too_long None b line p h = tt
  part_too_long (Some input) None line p h = absurd p.whole
  part_too_long (Some input) (Some rest) line p h = subst (λ i. first_too_long most i ≡ Some 0)
      p.whole h

  pub no_bytes : (bs : List ℕ) → length bs ≡ 0 → bs ≡ []
  no_bytes [] e = refl
  no_bytes (b ∷ bs) e = absurd (omega (arith, e))
