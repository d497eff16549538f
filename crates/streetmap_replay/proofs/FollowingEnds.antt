-- How following lines continues, and how it ends.
use Rattle.std.proofs.Common.{◌≡◌, ◌≤◌, ◌<◌, ◌+◌, ℕ, List, [], ◌∷◌, ◌++◌, length, true}
use Rattle.std.proofs.Common.{Option, None, Some, Result, Ok, Err, IfSome, refl, sym, ap, subst}
use Rattle.std.proofs.Common.{◌∙◌}
use Rattle.std.proofs.Common.{append-nil}
use Rattle.std.specs.Prelude.{OnOk, is_ok}
use Rattle.std.specs.Io.KnownBytes.{Consumes, Keeps, IsAtEnd}
use Rattle.streetmap_batch.specs.ParsedBatches.{batch_of}
use Rattle.streetmap_batch.specs.BatchView.{batch_value}
use Rattle.streetmap_batch.specs.Text.{Text}
use Rattle.streetmap_ledger.specs.Model.{Model}
use Rattle.streetmap_ledger.specs.State.{State}
use Rattle.streetmap_ledger.specs.declared.reply.Reply.{Reply}
use Rattle.streetmap_replay.specs.FollowedLines.{follow, line_outcome}
use Rattle.streetmap_replay.specs.Calls.{AreCalls}
use Rattle.streetmap_replay.specs.JournalText.{text_of_lines}
use Rattle.streetmap_text_lines.specs.Lines.{first_too_long}
use Rattle.streetmap_text_lines.specs.LineReads.{HasNoLineFeed, WhereKnown}
use Rattle.streetmap_text_lines.specs.Whole.{EndsWithin}
use Rattle.streetmap_text_lines.specs.declared.fault.LineFault.{LineFault}
use Rattle.streetmap_text_lines.specs.declared.fault.LineFault.TheVariants.{LineTooLong, ReadFailed}
use Rattle.streetmap_text_lines.specs.declared.fault.LineFault.TheVariants.{Memory}
use Rattle.streetmap_replay.specs.LineEffects.{IsOfLine, Follows, answer_of}
use Rattle.streetmap_replay.specs.Lines.{Line}
use Rattle.streetmap_replay.specs.Ends.{most_bytes, key_in, IsInputLine, ReportsAll, ReportsBy}
use Rattle.streetmap_replay.specs.Ends.{FollowingEndsBy, FollowsLines, end_answer}
use Rattle.streetmap_replay.specs.ParsedLines.{line_text, FollowsLine}
use Rattle.streetmap_replay.specs.declared.actions.Acknowledged.{Acknowledged}
use Rattle.streetmap_replay.specs.declared.follow_fault.FollowFault.{FollowFault}
use Rattle.streetmap_replay.specs.declared.follow_fault.FollowFault.TheVariants as ends
use Rattle.streetmap_replay.proofs.CallsInTurn.{no_fault}
use Rattle.streetmap_replay.proofs.ReportedBatches.{follows_from}
use Rattle.streetmap_replay.proofs.FollowedSoFar.{Underway, is_input, taken_more, goes_further}

pub is_reported : {X E : Type 0} (r : Result X E) (P : Type 0) → true ≡ is_ok r → OnOk r P → P
is_reported (Ok x) P e h = h
is_reported (Err x) P e h = absurd cc

-- ---- bytes

all_taken : (old now later : Option (List ℕ)) (bytes : List ℕ) → Consumes old now bytes →
    Keeps now later × IsAtEnd now →
    WhereKnown old later (λ input rest. (input ≡ bytes) × (rest ≡ []))
all_taken None now later bytes h end = tt
all_taken (Some xs) None later bytes h end = absurd h
all_taken (Some xs) (Some ys) None bytes h end = absurd end.0
all_taken (Some xs) (Some ys) (Some zs) bytes h end =
    (h ∙ (ap (λ (l : List ℕ). bytes ++ l) end.1 ∙ append-nil bytes), end.0 ∙ end.1)

front_of : (old now : Option (List ℕ)) (bytes : List ℕ) → Consumes old now bytes →
    IfSome old (λ input. (rest : List ℕ) × (input ≡ bytes ++ rest))
front_of None now bytes h = tt
front_of (Some xs) None bytes h = absurd h
front_of (Some xs) (Some ys) bytes h = (ys, h)

cut_taken : (old now later : Option (List ℕ)) (bytes : List ℕ) → Consumes old now bytes →
    WhereKnown now later EndsWithin →
    WhereKnown old later (λ input rest. (part : List ℕ) × (input ≡ bytes ++ part)
    × HasNoLineFeed part × (0 < length part))
cut_taken None now later bytes h end = tt
cut_taken (Some xs) None later bytes h end = absurd h
cut_taken (Some xs) (Some ys) None bytes h end = absurd end
cut_taken (Some xs) (Some ys) (Some zs) bytes h end = (ys, h, end.unended, end.some)

long_after : (old now : Option (List ℕ)) (bytes : List ℕ) → Consumes old now bytes →
    IfSome now (λ rest. first_too_long most_bytes rest ≡ Some 0) →
    IfSome old (λ input. (rest : List ℕ) × (input ≡ bytes ++ rest)
    × (first_too_long most_bytes rest ≡ Some 0))
long_after None now bytes h long = tt
long_after (Some xs) None bytes h long = absurd h
long_after (Some xs) (Some ys) bytes h long = (ys, h, long)

-- ---- continuing, and ending

-- the keeper's answer to the line that ended it
pub ends_by : {K : Type 0} {model : Model K} {a b : K} (fault : FollowFault) → IsOfLine fault → AreCalls model a b (answer_of {T = Reply} (Err fault)) →
    AreCalls model a b (end_answer (Some fault))
ends_by (ends.Unread fault) of_line calls = calls
ends_by ends.NotNext of_line calls = no_fault calls
ends_by (ends.Refused why place) of_line calls = no_fault calls
ends_by (ends.Stopped fault) of_line calls = calls
ends_by ends.CutLine of_line calls = absurd of_line
ends_by (ends.NotRead fault) of_line calls = absurd of_line
ends_by ends.NotReported of_line calls = absurd of_line

-- the next line is read and not followed
reported_at : {T : Type 0} (reports : T → Text → Reply → T → Type 0) (first last : T) (replies : List (Text × Reply)) (fault : FollowFault) → IsOfLine fault →
    ReportsAll reports first replies last → ReportsBy reports first last replies (Some fault)
reported_at reports first last replies (ends.Unread fault) of_line all = all
reported_at reports first last replies ends.NotNext of_line all = all
reported_at reports first last replies (ends.Refused why place) of_line all = all
reported_at reports first last replies (ends.Stopped fault) of_line all = all
reported_at reports first last replies ends.CutLine of_line all = absurd of_line
reported_at reports first last replies (ends.NotRead fault) of_line all = absurd of_line
reported_at reports first last replies ends.NotReported of_line all = absurd of_line

ends_at : {K : Type 0} (model : Model K) (k m : K) (t : State) (read : List Line) (input later : Option (List ℕ)) (fault : FollowFault) → IsOfLine fault →
    (line : Line) × IsInputLine line × Consumes input later (text_of_lines (read ++ line ∷ [])) × Follows model k m t (line_outcome t line) (Err fault) →
    FollowingEndsBy model k m t read input later (Some fault)
ends_at model k m t read input later (ends.Unread fault) of_line h = h
ends_at model k m t read input later ends.NotNext of_line h = h
ends_at model k m t read input later (ends.Refused why place) of_line h = h
ends_at model k m t read input later (ends.Stopped fault) of_line h = h
ends_at model k m t read input later ends.CutLine of_line h = absurd of_line
ends_at model k m t read input later (ends.NotRead fault) of_line h = absurd of_line
ends_at model k m t read input later ends.NotReported of_line h = absurd of_line

module _ {K T : Type 0} (model : Model K) (k l m : K) (s : State) (input now later : Option (List ℕ)) (reports : T → Text → Reply → T → Type 0)
    (first mid last : T) (count : ℕ)
    (it : Underway model l s input now reports first mid count) where
  pub further : (bytes : List ℕ) (a : Acknowledged) → FollowsLine model l m bytes (Ok a) → model.is_clean m → HasNoLineFeed bytes →
      length bytes ≤ most_bytes → Consumes now later (bytes ++ 10 ∷ []) →
      reports mid (batch_value a.batch).key a.reply last →
      Underway model m s input later reports first last (count + 1)
  further bytes a says clean one short took reported =
      let found = says.followed.follows clean (follow s it.read).state it.there in
      let o = found.0 in
      let key : (batch_value a.batch).key ≡ key_in (batch_of (line_text says.line)) =
      sym (ap key_in says.batch) in
      goes_further model l m s input now later reports first mid last count it bytes says.line o says.is one short took found.1 found.3
      (subst (λ (q : Text). reports mid q o.reply last) key
      (subst (λ (r : Reply). reports mid (batch_value a.batch).key r last) found.2 reported))

  pub not_reported : (bytes : List ℕ) (a : Acknowledged) → FollowsLine model l m bytes (Ok a) → model.is_clean m → HasNoLineFeed bytes →
      length bytes ≤ most_bytes → Consumes now later (bytes ++ 10 ∷ []) →
      FollowsLines model k m s input later reports first last (record { count = count; fault = Some ends.NotReported })
  not_reported bytes a says clean one short took =
      let found = says.followed.follows clean (follow s it.read).state it.there in
      record {
        read = it.read;
        counted = it.counted;
        lines = it.lines;
        front = front_of input now (text_of_lines it.read) it.taken;
        followed = it.followed;
        reported = (mid, it.reported);
        ends = (
          says.line,
          is_input bytes says.line says.is one short,
          taken_more input now later it.read says.line bytes says.is it.taken took,
          (found.0, found.1, found.3),
        );
      }

  pub stopped : (bytes : List ℕ) (fault : FollowFault) → AreCalls model k l None → FollowsLine model l m bytes (Err fault) → model.is_clean m →
      HasNoLineFeed bytes →
      length bytes ≤ most_bytes → Consumes now later (bytes ++ 10 ∷ []) →
      FollowsLines model k m s input later reports first mid (record { count = count; fault = Some fault })
  stopped bytes fault before says clean one short took =
      let t = (follow s it.read).state in
      record {
        read = it.read;
        counted = it.counted;
        lines = it.lines;
        front = front_of input now (text_of_lines it.read) it.taken;
        followed = it.followed;
        reported = reported_at reports first mid _ fault says.followed.of_line it.reported;
        ends = ends_at model k m t it.read input later fault says.followed.of_line (
          says.line,
          is_input bytes says.line says.is one short,
          taken_more input now later it.read says.line bytes says.is it.taken took,
          follows_from model k l m t (line_outcome t says.line) (Err fault) (model.fails_later k l m before.preserved says.followed.calls.preserved)
              (says.followed.follows clean t it.there),
        );
      }

  pub all : Keeps now later × IsAtEnd now → FollowsLines model k l s input later reports first mid (record { count = count; fault = None })
  all end = record {
    read = it.read;
    counted = it.counted;
    lines = it.lines;
    front = front_of input now (text_of_lines it.read) it.taken;
    followed = it.followed;
    reported = it.reported;
    ends = (all_taken input now later (text_of_lines it.read) it.taken end, it.there);
  }

  pub cut : WhereKnown now later EndsWithin → FollowsLines model k l s input later reports first mid (record { count = count; fault = Some ends.CutLine })
  cut end = record {
    read = it.read;
    counted = it.counted;
    lines = it.lines;
    front = front_of input now (text_of_lines it.read) it.taken;
    followed = it.followed;
    reported = it.reported;
    ends = (cut_taken input now later (text_of_lines it.read) it.taken end, it.there);
  }

  pub unread : (fault : LineFault) → (fault ≡ LineTooLong → IfSome now (λ rest. first_too_long most_bytes rest ≡ Some 0)) →
      FollowsLines model k l s input later reports first mid (record { count = count; fault = Some (ends.NotRead fault) })
  unread LineTooLong long = record {
    read = it.read;
    counted = it.counted;
    lines = it.lines;
    front = front_of input now (text_of_lines it.read) it.taken;
    followed = it.followed;
    reported = it.reported;
    ends = (long_after input now (text_of_lines it.read) it.taken (long refl), it.there);
  }
  unread ReadFailed long = record {
    read = it.read;
    counted = it.counted;
    lines = it.lines;
    front = front_of input now (text_of_lines it.read) it.taken;
    followed = it.followed;
    reported = it.reported;
    ends = it.there;
  }
  unread Memory long = record {
    read = it.read;
    counted = it.counted;
    lines = it.lines;
    front = front_of input now (text_of_lines it.read) it.taken;
    followed = it.followed;
    reported = it.reported;
    ends = it.there;
  }
