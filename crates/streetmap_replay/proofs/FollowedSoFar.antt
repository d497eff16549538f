-- Lines that were followed so far.
use Rattle.std.proofs.Common.{◌≡◌, ℕ, ◌+◌, ◌≤◌, List, [], ◌∷◌, ◌++◌, length, All, Option}
use Rattle.std.proofs.Common.{None, Some, Result, Ok, Err, refl, sym, ap, subst, ◌∙◌, arith}
use Rattle.std.proofs.Common.{length-append}
use Rattle.std.specs.Io.KnownBytes.{Consumes}
use Rattle.std.proofs.KnownBytes.{Consumes-nil, Consumes-trans}
use Rattle.std.proofs.lemmas.List.Elements.{All-nil, All-cons, All-append}
use Rattle.streetmap_batch.specs.ParsedBatches.{batch_of}
use Rattle.streetmap_batch.specs.Text.{Text}
use Rattle.streetmap_ledger.specs.Batches.{Outcome}
use Rattle.streetmap_ledger.specs.Model.{Model}
use Rattle.streetmap_ledger.specs.State.{State}
use Rattle.streetmap_ledger.specs.declared.reply.Reply.{Reply}
use Rattle.streetmap_replay.specs.FollowedLines.{LineFault, Followed as ReportsOutcome, line_outcome, goes_on}
use Rattle.streetmap_replay.specs.FollowedLines.{follow}
use Rattle.streetmap_replay.specs.JournalText.{text_of_lines}
use Rattle.streetmap_replay.specs.Lines.{Line, bare, numbered, line_bytes, IsJournalLine}
use Rattle.streetmap_replay.proofs.TornLines.{lines-append}
use Rattle.streetmap_text_lines.specs.LineReads.{HasNoLineFeed}
use Rattle.streetmap_replay.specs.Ends.{most_bytes, IsInputLine, key_in, answers, ReportsAll}
use Rattle.streetmap_replay.specs.ParsedLines.{line_text}

-- ---- one more line

abbrev with_reply : Reply → ReportsOutcome → ReportsOutcome
with_reply r f = record { replies = r ∷ f.replies; state = f.state; fault = f.fault }

abbrev then_one : ReportsOutcome → Outcome → ReportsOutcome
then_one f o = record { replies = f.replies ++ o.reply ∷ []; state = o.state; fault = None }

no_fault : {A : Type 0} (why : LineFault) → Some why ≡ None → A
no_fault why e = absurd cc

more_by : (s : State) (xs : List Line) (line : Line) (o : Outcome) →
    ((v : State) → (follow v xs).fault ≡ None → line_outcome (follow v xs).state line ≡ Ok o →
    follow v (xs ++ line ∷ []) ≡ then_one (follow v xs) o) →
    (r : Result Outcome LineFault) → (goes_on s r (λ v. follow v xs)).fault ≡ None →
    line_outcome (goes_on s r (λ v. follow v xs)).state line ≡ Ok o →
    goes_on s r (λ v. follow v (xs ++ line ∷ [])) ≡ then_one (goes_on s r (λ v. follow v xs)) o
more_by s xs line o rest (Ok p) h k = ap (with_reply p.reply) (rest p.state h k)
more_by s xs line o rest (Err why) h k = no_fault why h

pub one_more : (s : State) (xs : List Line) (line : Line) (o : Outcome) →
    (follow s xs).fault ≡ None →
    line_outcome (follow s xs).state line ≡ Ok o →
    follow s (xs ++ line ∷ []) ≡ then_one (follow s xs) o
one_more s [] line o h k =
    ap (λ (r : Result Outcome LineFault). goes_on s r (λ v. follow v [])) k
one_more s (x ∷ xs) line o h k =
    more_by s xs line o (λ v. one_more v xs line o) (line_outcome s x) h k

-- ---- what was reported

reported_then : {T : Type 0} (reports : T → Text → Reply → T → Type 0) (first mid last : T)
    (rs : List (Text × Reply)) (key : Text) (reply : Reply) → ReportsAll reports first rs mid →
    reports mid key reply last → ReportsAll reports first (rs ++ (key, reply) ∷ []) last
reported_then reports first mid last [] key reply h k =
    (last, subst (λ x. reports x key reply last) (sym h) k, refl)
reported_then reports first mid last (r ∷ rs) key reply h k =
    (h.0, h.1, reported_then reports h.0 mid last rs key reply h.2 k)

answers-append : (ls : List Line) (rs : List Reply) (line : Line) (reply : Reply) →
    length rs ≡ length ls →
    answers (ls ++ line ∷ []) (rs ++ reply ∷ [])
    ≡ answers ls rs ++ (key_in (batch_of (line_text line)), reply) ∷ []
answers-append [] [] line reply e = refl
answers-append [] (r ∷ rs) line reply e = absurd (omega (arith, e))
answers-append (l ∷ ls) [] line reply e = absurd (omega (arith, e))
answers-append (l ∷ ls) (r ∷ rs) line reply e =
    ap (λ (more : List (Text × Reply)). (key_in (batch_of (line_text l)), r) ∷ more)
    (answers-append ls rs line reply (omega (arith, e)))

-- ---- bytes

bytes_are : (bytes : List ℕ) (line : Line) → IsJournalLine bytes line → line_bytes line ≡ bytes
bytes_are bytes (bare text) h = h.0
bytes_are bytes (numbered serial text) h = h.0

pub is_input : (bytes : List ℕ) (line : Line) → IsJournalLine bytes line → HasNoLineFeed bytes →
    length bytes ≤ most_bytes → IsInputLine line
is_input bytes line is one short =
    let same = bytes_are bytes line is in
    record {
      is = subst (λ (b : List ℕ). IsJournalLine b line) (sym same) is;
      one = subst HasNoLineFeed (sym same) one;
      short = subst (λ (b : List ℕ). length b ≤ most_bytes) (sym same) short;
    }

text_of_one : (line : Line) (bytes : List ℕ) → line_bytes line ≡ bytes →
    text_of_lines (line ∷ []) ≡ bytes ++ 10 ∷ []
text_of_one line bytes e = ap (λ (b : List ℕ). b ++ 10 ∷ []) e

-- the line was taken off after the others
pub taken_more : (old now later : Option (List ℕ)) (read : List Line) (line : Line)
    (bytes : List ℕ) →
    IsJournalLine bytes line → Consumes old now (text_of_lines read) →
    Consumes now later (bytes ++ 10 ∷ []) →
    Consumes old later (text_of_lines (read ++ line ∷ []))
taken_more old now later read line bytes is h k =
    let whole = lines-append read (line ∷ []) in
    let last = text_of_one line bytes (bytes_are bytes line is) in
    subst (Consumes old later)
    (sym (whole ∙ ap (λ (b : List ℕ). text_of_lines read ++ b) last))
    (Consumes-trans old now later (text_of_lines read) (bytes ++ 10 ∷ []) h k)

-- ---- on the way

pub record Underway {K T : Type 0} (model : Model K) (now : K) (s : State) (input rest : Option (List ℕ)) (reports : T → Text → Reply → T → Type 0)
    (first last : T) (count : ℕ) : Type 0 where
  pub read : List Line
  pub counted : length read ≡ count
  pub lines : All IsInputLine read
  pub taken : Consumes input rest (text_of_lines read)
  pub followed : (follow s read).fault ≡ None
  pub as_many : length (follow s read).replies ≡ length read
  pub reported : ReportsAll reports first (answers read (follow s read).replies) last
  pub there : model.represents now (follow s read).state

pub begins : {K T : Type 0} (model : Model K) (k : K) (s : State) (input : Option (List ℕ)) (reports : T → Text → Reply → T → Type 0) (first : T) →
    model.represents k s
    → Underway model k s input input reports first first 0
begins model k s input reports first h = record {
  read = [];
  counted = refl;
  lines = All-nil IsInputLine;
  taken = Consumes-nil input;
  followed = refl;
  as_many = refl;
  reported = refl;
  there = h;
}

pub goes_further : {K T : Type 0} (model : Model K) (l m : K) (s : State) (input now later : Option (List ℕ)) (reports : T → Text → Reply → T → Type 0)
    (first mid last : T) (count : ℕ)
    (it : Underway model l s input now reports first mid count) (bytes : List ℕ) (line : Line) (o : Outcome) → IsJournalLine bytes line → HasNoLineFeed bytes →
    length bytes ≤ most_bytes → Consumes now later (bytes ++ 10 ∷ []) →
    line_outcome (follow s it.read).state line ≡ Ok o → model.represents m o.state →
    reports mid (key_in (batch_of (line_text line))) o.reply last →
    Underway model m s input later reports first last (count + 1)
goes_further model l m s input now later reports first mid last count it bytes line o is one short took outcome there reported =
    let more = one_more s it.read line o it.followed outcome in
    let long = length-append it.read (line ∷ []) in
    let same = it.counted in
    let many = it.as_many in
    let wide = length-append (follow s it.read).replies (o.reply ∷ []) in
    let replies = ap (λ (f : ReportsOutcome). f.replies) more in
    let state : o.state ≡ (follow s (it.read ++ line ∷ [])).state =
    sym (ap (λ (f : ReportsOutcome). f.state) more) in
    let key = key_in (batch_of (line_text line)) in
    record {
      read = it.read ++ line ∷ [];
      counted = omega (arith, long, same);
      lines = All-append IsInputLine it.read (line ∷ []) it.lines
          (All-cons IsInputLine line [] (is_input bytes line is one short) (All-nil IsInputLine));
      taken = taken_more input now later it.read line bytes is it.taken took;
      followed = ap (λ (f : ReportsOutcome). f.fault) more;
      as_many = ap length replies ∙ omega (arith, long, many, wide);
      reported = subst (λ (said : List (Text × Reply)). ReportsAll reports first said last)
          (sym (ap (answers (it.read ++ line ∷ [])) replies
          ∙ answers-append it.read (follow s it.read).replies line o.reply it.as_many))
          (reported_then reports first mid last (answers it.read (follow s it.read).replies) key o.reply
          it.reported reported);
      there = subst (model.represents m) state there;
    }
