-- An existing journal, which goes on.
use Rattle.std.proofs.Common.{◌≡◌, ◌≤◌, ◌<◌, ◌+◌, ◌-◌, ◌^◌, ℕ, List, [], ◌∷◌, ◌++◌, length, take}
use Rattle.std.proofs.Common.{drop, Option, None, Some, true, false, sym, ap, ◌∙◌, arith, append_assoc}
use Rattle.std.proofs.Common.{append-nil, length-append, length-drop, IfSome}
use Rattle.std.proofs.Math.Seq.{take-append-add, take-append_seam}
use Rattle.std.proofs.lemmas.Fmt.{length-decimal-le}
use Rattle.std.proofs.lemmas.List.{drop-take, take-append-drop}
use Rattle.std.specs.Io.{StartsWith}
use Rattle.std.specs.Prelude.{decimal}
use Rattle.streetmap_ledger.specs.Kept.{batch_count}
use Rattle.streetmap_ledger.specs.State.{State}
use Rattle.streetmap_ledger.specs.WellFormed.{IsState}
use Rattle.streetmap_replay.proofs.AllThere.{journal_is_whole}
use Rattle.streetmap_replay.proofs.ItemsByPlace.{length-numbered}
use Rattle.streetmap_replay.specs.Journal.{journal}
use Rattle.streetmap_replay.specs.JournalText.{journal_lines, text_of_lines}
use Rattle.streetmap_replay.specs.Lines.{Line, numbered, line_bytes, IsJournalLine}
use Rattle.streetmap_replay.specs.View.{line_with}
use Rattle.std.proofs.Common.{◌⊎◌, inl, inr, subst, Ok, Err}
use Rattle.std.specs.Io.KnownBytes.{Keeps}
use Rattle.streetmap_ledger.specs.Model.{Model}
use Rattle.streetmap_replay.specs.Calls.{AreReads}
use Rattle.streetmap_replay.proofs.CallsInTurn.{no_fault_read, reads_then, not_shut}
use Rattle.streetmap_journal.proofs.LinesSoFar.{matches_kept}
use Rattle.streetmap_journal.specs.Comparison.{Matches, line_head, lines_from, serial_following}
use Rattle.streetmap_journal.specs.Comparison.{end_answer}
use Rattle.streetmap_journal.specs.declared.comparison.MatchEnd.{MatchEnd}
use Rattle.streetmap_journal.specs.declared.comparison.MatchEnd.TheVariants as ends
use Rattle.streetmap_journal.specs.Place.{HasFirst}
use Rattle.streetmap_journal.specs.Starts.{HasFirstSerial, BeginsAfter, Finds, ChecksEnd, start_answer}
use Rattle.streetmap_journal.specs.declared.starts.StartFault.{StartFault}
use Rattle.streetmap_journal.specs.declared.starts.StartFault.TheVariants.{Ahead, Other, NotOpened, NotRead, Stopped}
use Rattle.streetmap_journal.specs.Written.{Position, HoldsJournal, lines_between, line_at}
use Rattle.streetmap_journal.specs.declared.comparison.Matched.{Matched}

-- ---- the first serial

-- a line is its serial and tab, and then its text
head_first : (serial : ℕ) (text : List ℕ) →
    line_bytes (numbered serial text) ≡ line_head serial ++ text
head_first serial text = sym (append_assoc (decimal serial) (9 ∷ []) text)

head_short : (serial : ℕ) → serial < 2 ^ 64 → length (line_head serial) ≤ 21
head_short serial small =
    let digits = length-decimal-le 20 serial (omega arith) (omega (arith, small)) small in
    let size = length-append (decimal serial) (9 ∷ []) in
    omega (arith, digits, size)

pub serial_there : (bytes head text : List ℕ) (serial : ℕ) → head ≡ take 21 bytes →
    line_bytes (numbered serial text) ≡ head → StartsWith bytes (line_head serial)
serial_there bytes head text serial first is =
    let h = line_head serial in
    let whole : bytes ≡ h ++ (text ++ drop 21 bytes) =
    sym (take-append-drop 21 bytes)
    ∙ (ap (λ (l : List ℕ). l ++ drop 21 bytes) (sym first ∙ (sym is ∙ head_first serial text))
    ∙ append_assoc h text (drop 21 bytes)) in
    ap (take (length h)) whole ∙ take-append_seam h (text ++ drop 21 bytes)

pub serial_missing : (bytes head : List ℕ) → head ≡ take 21 bytes →
    ((serial : ℕ) (rest : List ℕ) → serial < 2 ^ 64 →
    line_bytes (numbered serial rest) ≡ head → ⊥) → HasFirstSerial bytes None
serial_missing bytes head first none = λ serial small starts.
    let h = line_head serial in
    let short = head_short serial small in
    let rest = take (21 - length h) (drop (length h) bytes) in
    let whole : bytes ≡ h ++ drop (length h) bytes =
    sym (take-append-drop (length h) bytes)
    ∙ ap (λ (l : List ℕ). l ++ drop (length h) bytes) starts in
    let count : 21 ≡ length h + (21 - length h) = omega (arith, short) in
    none serial rest small
    (head_first serial rest
    ∙ sym (first
    ∙ (ap (take 21) whole
    ∙ (ap (λ (n : ℕ). take n (h ++ drop (length h) bytes)) count
    ∙ take-append-add h (drop (length h) bytes) (21 - length h)))))

pub first_found : (input : Option (List ℕ)) (head : List ℕ) (serial : Option ℕ) (text : List ℕ) →
    IfSome input (λ bytes. head ≡ take 21 bytes) → IsJournalLine head (line_with serial text) →
    IfSome input (λ bytes. HasFirstSerial bytes serial)
first_found None head serial text first is = tt
first_found (Some bytes) head None text first is = serial_missing bytes head first is.1
first_found (Some bytes) head (Some serial) text first is =
    (serial_there bytes head text serial first is.0, is.1)

-- ---- what exists when it goes on

module _ (s : State) (sound : IsState s) (after : ℕ) (found : Matched) (bytes : List ℕ)
    (matches : Matches s after (Some bytes) found)
    (few : after ≤ batch_count s) where
  abbrev front : List ℕ
  front = text_of_lines (lines_from s after found.count)

  count_is : length (journal_lines s) ≡ batch_count s
  count_is =
      let many = length-numbered 0 (journal s) in
      let count = (journal_is_whole s sound).0 in omega (arith, many, count)

  next_is : serial_following after found.count ≡ after + found.count + 1
  next_is =
      let most = sound.not_too_many in
      let within = matches.within in
      let size = length-drop after (journal_lines s) in
      omega (arith, most, within, size, count_is, few)

  first_bytes : take found.bytes bytes ≡ front
  first_bytes =
      ap (λ (n : ℕ). take n bytes) matches.size
      ∙ (ap (take (length front)) matches.front.1
      ∙ take-append_seam front matches.front.0)

  pub resumed_holds : (p : Position) → p.after ≡ after → p.next ≡ serial_following after found.count →
      p.part ≡ 0 → p.behind ≡ true → HoldsJournal p (Some (take found.bytes bytes)) s
  resumed_holds p at next part behind =
      let here : p.next ≡ after + found.count + 1 = next ∙ next_is in
      let place : p.next - 1 ≡ after + found.count = omega (arith, here) in
      let within = matches.within in
      let size = length-drop after (journal_lines s) in
      let lines : lines_between s p.after p.next ≡ lines_from s after found.count =
      ap (λ (n : ℕ). lines_between s n p.next) at
      ∙ (ap (λ (n : ℕ). drop after (take n (journal_lines s))) place
      ∙ drop-take after found.count (journal_lines s)) in
      let torn : take p.part (line_at s p.next) ≡ [] =
      ap (λ (n : ℕ). take n (line_at s p.next)) part in
      record {
        reaches = record {
          behind_first = omega (arith, here, at);
          within = omega (arith, here, within, size, count_is, few);
          is = first_bytes
              ∙ (sym (append-nil front)
              ∙ (ap (λ (ls : List Line). text_of_lines ls ++ []) (sym lines)
              ∙ ap (λ (bs : List ℕ). text_of_lines (lines_between s p.after p.next) ++ bs)
              (sym torn)));
          part = omega (arith, part);
        };
        whole = λ no. (let wrong : true ≡ false = sym behind ∙ no in absurd cc);
      }

-- ---- how its lines ended

pub found_by : (s : State) (requested after : ℕ) (a b : Option (List ℕ)) (found : Matched) → IfSome a (λ bytes. BeginsAfter bytes requested after) → Keeps a b →
    Matches s after b found
    → Finds s requested after a found
found_by s requested after a b found first kept h = record {
  begins = first;
  matches = matches_kept s after a b found kept h;
}

module _ {K : Type 0} {model : Model K} {a b : K} where
  -- a call that was answered, and then calls that were no fault
  pub answered_then : {c : K} → AreReads model a b (Some (Ok tt)) → AreReads model b c None → AreReads model a c (Some (Ok tt))
  answered_then {c} one two = record {
    calls = record {
      preserved = model.preserves_then a b c one.calls.preserved two.calls.preserved;
      began_clean = λ h. one.calls.began_clean (two.calls.began_clean h);
      faults = (one.calls.faults.0, two.calls.faults ∙ one.calls.faults.1);
      shut = λ shut. not_shut (model.cause a) one.calls.faults.0 shut;
    };
    stays = λ h s e. two.stays h s (one.stays (two.calls.began_clean h) s e);
  }

  -- the end is no reason not to begin
  pub whole_reads : (end : MatchEnd) → (end ≡ ends.All) ⊎ (end ≡ ends.Cut) → AreReads model a b (end_answer end) → AreReads model a b None
  whole_reads end (inl is) h = subst (λ (e : MatchEnd). AreReads model a b (end_answer e)) is h
  whole_reads end (inr is) h = subst (λ (e : MatchEnd). AreReads model a b (end_answer e)) is h

  -- the end is a reason not to begin, after a call that was answered
  pub ended_reads : {c : K} (W : Type 0) (after : ℕ) (found : Matched) (fault : StartFault) → ChecksEnd after found (Err fault) →
      AreReads model a b (Some (Ok tt)) → AreReads model b c (end_answer found.end)
      → AreReads model a c (start_answer {W = W} (Err fault))
  ended_reads {c} W after found (Other serial) is one h = answered_then one (subst (λ (e : MatchEnd). AreReads model b c (end_answer e)) is.0 h)
  ended_reads {c} W after found Ahead is one h = answered_then one (subst (λ (e : MatchEnd). AreReads model b c (end_answer e)) is h)
  ended_reads {c} W after found NotRead is one h = answered_then one (subst (λ (e : MatchEnd). AreReads model b c (end_answer e)) is h)
  ended_reads {c} W after found (Stopped fault) is one h = reads_then (no_fault_read one) (subst (λ (e : MatchEnd). AreReads model b c (end_answer e)) is h)
  ended_reads W after found (NotOpened error) is one h = absurd is

-- what is written after the lines that existed
pub resumed_of : (s : State) → IsState s → (requested after : ℕ) (found : Matched)
    (a b c w : Option (List ℕ)) → Finds s requested after a found → after ≤ batch_count s →
    Keeps a b → Keeps b c → HasFirst c w found.bytes → (p : Position) → p.after ≡ after →
    p.next ≡ serial_following after found.count → p.part ≡ 0 → p.behind ≡ true →
    IfSome a (λ _. HoldsJournal p w s)
resumed_of s sound requested after found None b c w it few one two cut p at next part behind = tt
resumed_of s sound requested after found (Some x) None c w it few one two cut p at next part behind =
    absurd one
resumed_of s sound requested after found (Some x) (Some y) None w it few one two cut p at next part
    behind = absurd two
resumed_of s sound requested after found (Some x) (Some y) (Some z) w it few one two cut p at next part
    behind =
    let same : w ≡ Some (take found.bytes x) =
    cut ∙ ap (λ (bytes : List ℕ). Some (take found.bytes bytes)) (two ∙ one) in
    subst (λ (o : Option (List ℕ)). HoldsJournal p o s) (sym same)
    (resumed_holds s sound after found x it.matches few p at next part behind)

-- it is the same writer
pub cut_by : (old w v : Option (List ℕ)) (count : ℕ) → HasFirst old w count → v ≡ w →
    HasFirst old v count
cut_by None w v count cut same = tt
cut_by (Some bytes) w v count cut same = same ∙ cut

pub holds_on : (a : Option (List ℕ)) (P Q : Type 0) → IfSome a (λ _. P) → (P → Q) →
    IfSome a (λ _. Q)
holds_on None P Q h then = tt
holds_on (Some bytes) P Q h then = then h
