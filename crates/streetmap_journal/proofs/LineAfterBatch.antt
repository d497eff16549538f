-- A line that is written after an accepted batch.
use Rattle.std.proofs.Common.{◌≡◌, ◌≤◌, ◌<◌, ◌+◌, ◌-◌, ◌^◌, ℕ, Bool, true, false, List, []}
use Rattle.std.proofs.Common.{◌∷◌, ◌++◌}
use Rattle.std.proofs.Common.{length, Option, None, Some, option_map}
use Rattle.std.proofs.Common.{refl, sym, ap, subst, ◌∙◌, arith, length-append}
use Rattle.std.specs.Io.KnownBytes.{Keeps}
use Rattle.std.specs.Prelude.{slice_get}
use Rattle.streetmap_batch.specs.BatchText.{batch_text}
use Rattle.streetmap_batch.specs.BatchValue.{BatchValue}
use Rattle.streetmap_ledger.specs.Batches.{act}
use Rattle.streetmap_ledger.specs.Laws.{is_accepted}
use Rattle.streetmap_ledger.specs.State.{State}
use Rattle.streetmap_ledger.specs.WellFormed.{IsState}
use Rattle.streetmap_ledger.specs.declared.reply.Counts.{Counts}
use Rattle.streetmap_ledger.specs.declared.reply.Refusal.{Refusal}
use Rattle.streetmap_ledger.specs.declared.reply.Reply.TheVariants.{Repeated, Refused}
use Rattle.streetmap_ledger.specs.Kept.{batch_in}
use Rattle.streetmap_replay.specs.Journal.{journal, kept_text, text_if}
use Rattle.streetmap_replay.specs.JournalText.{numbered_after, journal_lines}
use Rattle.streetmap_replay.specs.Lines.{Line, numbered, line_bytes}
use Rattle.streetmap_replay.proofs.AllThere.{journal_is_whole}
use Rattle.streetmap_replay.proofs.JournalGrows.{act_grows}
use Rattle.streetmap_replay.proofs.ItemsByPlace.{numbered-append, length-numbered, get_low}
use Rattle.streetmap_replay.proofs.RepeatedBatches.{act_stays}
use Rattle.streetmap_journal.specs.Written.{Position, Reaches, IsJournalOf, HoldsJournal}
use Rattle.streetmap_journal.specs.Written.{PutsBy, PutsLine, NotesBy, NotesLine}
use Rattle.streetmap_journal.specs.Completion.{IsKeptLine}
use Rattle.streetmap_journal.proofs.OneLineFurther.{get_last, line_there, no_line_there, line_is}
use Rattle.streetmap_journal.proofs.OneLineFurther.{no_line_at, put_whole, put_some, grown_reached}

few_lines : (s : State) → IsState s → length (journal_lines s) < 2 ^ 63
few_lines s sound =
    let many = length-numbered 0 (journal s) in
    let count = (journal_is_whole s sound).0 in
    let most = sound.not_too_many in
    omega (arith, many, count, most)

-- ---- a line of a state, appended to what is written

module _ (s : State) (sound : IsState s) (p q : Position) (line : List ℕ) (x : Line)
    (there : slice_get (journal_lines s) (p.next - 1) ≡ Some x)
    (made : line ≡ line_bytes x ++ 10 ∷ []) where
  put_reached : (whole : Bool) (bytes later : List ℕ) → Reaches p bytes s →
      PutsBy whole p q (Some bytes) (Some later) line → Reaches q later s
  put_reached true bytes later h puts =
      let low = get_low (journal_lines s) (p.next - 1) x there in
      let few = few_lines s sound in
      put_whole s p q bytes later line x h there made puts.0
      (omega (arith, puts.1, low, few)) puts.2 puts.3
  put_reached false bytes later h puts =
      put_some s p q bytes later line x h there made puts.0 puts.1 puts.2 puts.3 puts.4

not_known : {A : Type 0} (whole : Bool) (p q : Position) (bytes line : List ℕ) →
    PutsBy whole p q (Some bytes) None line → A
not_known true p q bytes line puts = absurd puts.3
not_known false p q bytes line puts = absurd puts.4

-- ---- a line that was missing

-- the line of a batch that is kept, of a journal that is behind
pub completed_holds : (s : State) → IsState s → (whole : Bool) (p q : Position)
    (old new : Option (List ℕ)) (line : List ℕ) → p.behind ≡ true →
    IsKeptLine s p.next (Some line) → PutsLine whole p q old new line → HoldsJournal p old s →
    HoldsJournal q new s
completed_holds s sound whole p q None new line behind kept puts h = absurd h
completed_holds s sound whole p q (Some bytes) new line behind kept puts h =
    by_new new puts where
      first : p.next - 1 + 1 ≡ p.next
      first = let low = h.reaches.behind_first in omega (arith, low)

      there : slice_get (journal_lines s) (p.next - 1) ≡ Some (numbered (p.next - 1 + 1) kept.0)
      there =
          line_there s sound (p.next - 1) kept.0
          (subst (λ (n : ℕ). option_map kept_text (batch_in s n) ≡ Some kept.0) (sym first) kept.1)

      made : line ≡ line_bytes (numbered (p.next - 1 + 1) kept.0) ++ 10 ∷ []
      made = kept.2 ∙ ap (λ (n : ℕ). line_bytes (numbered n kept.0) ++ 10 ∷ []) (sym first)

      part : p.part ≤ length line
      part =
          let long = ap length (line_is s (p.next - 1) (numbered (p.next - 1 + 1) kept.0) there
          ∙ sym made) in
          let low = h.reaches.part in
          omega (arith, long, low)

      by_new : (new : Option (List ℕ)) → PutsLine whole p q (Some bytes) new line → HoldsJournal q new s
      by_new None puts = not_known whole p q bytes line (puts part).0
      by_new (Some later) puts = record {
        reaches = put_reached s sound p q line (numbered (p.next - 1 + 1) kept.0) there made whole
            bytes later h.reaches (puts part).0;
        whole = λ no. (let wrong : true ≡ false = sym behind ∙ (sym (puts part).1 ∙ no) in absurd cc);
      }

-- no line is missing any more
pub settled_holds : (s : State) → IsState s → (p q : Position) (old new : Option (List ℕ)) →
    batch_in s p.next ≡ None → q.after ≡ p.after → q.next ≡ p.next → q.part ≡ p.part →
    Keeps old new → HoldsJournal p old s → HoldsJournal q new s
settled_holds s sound p q None new none after next part keeps h = absurd h
settled_holds s sound p q (Some bytes) None none after next part keeps h = absurd keeps
settled_holds s sound p q (Some bytes) (Some later) none after next part keeps h =
    let r = h.reaches in
    let low = r.behind_first in
    let within = r.within in
    let first : p.next - 1 + 1 ≡ p.next = omega (arith, low) in
    let few = no_line_there s sound (p.next - 1)
    (subst (λ (n : ℕ). batch_in s n ≡ None) (sym first) none) in
    record {
      reaches = record {
        behind_first = omega (arith, low, after, next);
        within = omega (arith, within, next);
        is = keeps ∙ rw (after, next, part) r.is;
        part = rw (next, part) r.part;
      };
      whole = λ _. omega (arith, within, low, few, next);
    }

-- ---- the line of a batch that is accepted

-- the lines of the journal of the state after it
lines_grow : (s : State) (b : BatchValue) → IsState s → is_accepted (act s b).reply ≡ true →
    journal_lines (act s b).state
    ≡ journal_lines s ++ numbered (length (journal_lines s) + 1) (batch_text b) ∷ []
lines_grow s b sound accepted =
    let size : 0 + length (journal s) ≡ length (journal_lines s) =
    let many = length-numbered 0 (journal s) in omega (arith, many) in
    ap (numbered_after 0)
    (act_grows s b sound ∙ ap (λ (t : Bool). journal s ++ text_if t b) accepted)
    ∙ (numbered-append 0 (journal s) (batch_text b ∷ [])
    ∙ ap (λ (n : ℕ). journal_lines s ++ numbered (n + 1) (batch_text b) ∷ []) size)

module _ (s : State) (b : BatchValue) (sound : IsState s) (later_sound : IsState (act s b).state)
    (accepted : is_accepted (act s b).reply ≡ true) where
  abbrev last : Line
  last = numbered (length (journal_lines s) + 1) (batch_text b)

  abbrev t : State
  t = (act s b).state

  size : length (journal_lines t) ≡ length (journal_lines s) + 1
  size =
      let long = length-append (journal_lines s) (last ∷ []) in
      ap length (lines_grow s b sound accepted) ∙ omega (arith, long)

  module _ (p q : Position) (bytes later line : List ℕ) (h : IsJournalOf p bytes s) where
    behind_noted : p.behind ≡ true → (q ≡ p) → Some later ≡ Some bytes → IsJournalOf q later t
    behind_noted was same kept =
        let there : later ≡ bytes = cc in
        subst (λ (r : Position). IsJournalOf r later t) (sym same)
        (subst (λ (bs : List ℕ). IsJournalOf p bs t) (sym there) (record {
          reaches = grown_reached s t last (lines_grow s b sound accepted) p bytes h.reaches;
          whole = λ no. (let wrong : true ≡ false = sym was ∙ no in absurd cc);
        }))

    module _ (was : p.behind ≡ false)
        (made : line ≡ line_bytes (numbered p.next (batch_text b)) ++ 10 ∷ []) where
      next_is : p.next ≡ length (journal_lines s) + 1
      next_is = h.whole was

      part_is : p.part ≤ length line
      part_is =
          let next = next_is in
          let none = ap length (no_line_at s p.next (omega (arith, next))) in
          let low = h.reaches.part in
          omega (arith, none, low)

      line_noted : (whole : Bool) → PutsBy whole p q (Some bytes) (Some later) line →
          (q.behind ≡ false → whole ≡ true) → IsJournalOf q later t
      line_noted whole puts kept =
          let next = next_is in
          let place : p.next - 1 ≡ length (journal_lines s) = omega (arith, next) in
          let there : slice_get (journal_lines t) (p.next - 1) ≡ Some last =
          ap (λ (ls : List Line). slice_get ls (p.next - 1)) (lines_grow s b sound accepted)
          ∙ (ap (slice_get (journal_lines s ++ last ∷ [])) place
          ∙ get_last (journal_lines s) last) in
          let line_made : line ≡ line_bytes last ++ 10 ∷ [] =
          made ∙ ap (λ (n : ℕ). line_bytes (numbered n (batch_text b)) ++ 10 ∷ []) next in
          record {
            reaches = put_reached t later_sound p q line last there line_made whole bytes later
                (grown_reached s t last (lines_grow s b sound accepted) p bytes h.reaches) puts;
            whole = λ no. whole_noted whole puts (kept no);
          }
        where
          whole_noted : (whole : Bool) → PutsBy whole p q (Some bytes) (Some later) line →
              whole ≡ true → q.next ≡ length (journal_lines t) + 1
          whole_noted true puts is =
              let few = few_lines s sound in
              let next = next_is in
              let long = size in
              omega (arith, puts.1, few, next, long)
          whole_noted false puts is = absurd cc

  noted_by : (behind : Bool) (p q : Position) (bytes later line : List ℕ) → p.behind ≡ behind →
      line ≡ line_bytes (numbered p.next (batch_text b)) ++ 10 ∷ [] →
      NotesBy behind p q (Some bytes) (Some later) line → IsJournalOf p bytes s →
      IsJournalOf q later t
  noted_by true p q bytes later line was made noted h =
      behind_noted p q bytes later line h was noted.0 noted.1
  noted_by false p q bytes later line was made noted h =
      let it = noted (part_is p q bytes later line h was made) in
      line_noted p q bytes later line h was made it.0 it.1 it.2

  unknown : {A : Type 0} (behind : Bool) (p q : Position) (bytes line : List ℕ) →
      p.behind ≡ behind → line ≡ line_bytes (numbered p.next (batch_text b)) ++ 10 ∷ [] →
      NotesBy behind p q (Some bytes) None line → IsJournalOf p bytes s → A
  unknown true p q bytes line was made noted h = (let both = noted.1 in absurd cc)
  unknown false p q bytes line was made noted h =
      let it = noted (part_is p q bytes bytes line h was made) in
      not_known it.0 p q bytes line it.1

  pub accepted_holds : (p q : Position) (old new : Option (List ℕ)) (line : List ℕ) →
      line ≡ line_bytes (numbered p.next (batch_text b)) ++ 10 ∷ [] →
      NotesLine p q old new line → HoldsJournal p old s → HoldsJournal q new t
  accepted_holds p q None new line made noted h = absurd h
  accepted_holds p q (Some bytes) None line made noted h =
      unknown p.behind p q bytes line refl made noted h
  accepted_holds p q (Some bytes) (Some later) line made noted h =
      noted_by p.behind p q bytes later line refl made noted h

-- what is not accepted leaves the state
pub repeated_stays : (s : State) (b : BatchValue) (counts : Counts) (serial : ℕ) →
    (act s b).reply ≡ Repeated counts serial → (act s b).state ≡ s
repeated_stays s b counts serial e = act_stays s b (ap is_accepted e)

pub refused_stays : (s : State) (b : BatchValue) (why : Refusal) (place : Option ℕ) →
    (act s b).reply ≡ Refused why place → (act s b).state ≡ s
refused_stays s b why place e = act_stays s b (ap is_accepted e)
