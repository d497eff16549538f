-- The lines so far are those of a journal.
use Rattle.std.proofs.Common.{◌≡◌, ◌≤◌, ◌<◌, ◌+◌, ◌^◌, ℕ, List, [], ◌∷◌, ◌++◌}
use Rattle.std.proofs.Common.{length, drop, Option, None, Some, IfSome, option_map}
use Rattle.std.proofs.Common.{refl, sym, ap, subst, ◌∙◌, arith, length-append}
use Rattle.std.specs.Prelude.{slice_get}
use Rattle.std.specs.Io.KnownBytes.{Consumes, Keeps}
use Rattle.std.proofs.KnownBytes.{Consumes-nil, Consumes-trans}
use Rattle.streetmap_batch.specs.Text.{Text}
use Rattle.streetmap_ledger.specs.State.{State}
use Rattle.streetmap_ledger.specs.WellFormed.{IsState}
use Rattle.streetmap_ledger.specs.Kept.{KeyedBatch, batch_in}
use Rattle.streetmap_ledger.specs.declared.reply.Fault.{Fault}
use Rattle.streetmap_ledger.proofs.Serials.{found_under}
use Rattle.streetmap_replay.specs.Journal.{journal, kept_text}
use Rattle.streetmap_replay.specs.JournalText.{journal_lines, text_of_lines}
use Rattle.streetmap_replay.specs.Lines.{numbered, line_bytes}
use Rattle.streetmap_replay.proofs.AllThere.{journal_is_whole}
use Rattle.streetmap_replay.proofs.ItemsByPlace.{get_drop, get_low}
use Rattle.streetmap_replay.proofs.TornLines.{lines-append}
use Rattle.streetmap_journal.proofs.OneLineFurther.{get_numbered, take_one}
use Rattle.streetmap_journal.specs.Comparison.{line_of, lines_from, serial_following, EndsBy, RestIs}
use Rattle.streetmap_journal.specs.Comparison.{InputBeginsWith, Matches}
use Rattle.streetmap_journal.specs.declared.comparison.Matched.{Matched}
use Rattle.streetmap_journal.specs.declared.comparison.MatchEnd.{MatchEnd}
use Rattle.streetmap_journal.specs.declared.comparison.MatchEnd.TheVariants.{Ahead}
use Rattle.streetmap_journal.specs.declared.comparison.MatchEnd.TheVariants.{NotRead, Stopped}

-- ---- one line

-- they are the line of the batch that is kept with this serial, without its line feed
abbrev IsLineWith : State → ℕ → List ℕ → Type 0
IsLineWith s serial bytes =
    (text : Text) × (option_map kept_text (batch_in s serial) ≡ Some text)
    × (line_bytes (numbered serial text) ≡ bytes)

-- a line that is due, without its line feed
due_is : (s : State) (serial : ℕ) (line : List ℕ) (o : Option KeyedBatch) → batch_in s serial ≡ o →
    option_map (λ (b : KeyedBatch). line_bytes (numbered serial (kept_text b)) ++ 10 ∷ []) o
    ≡ Some line →
    (body : List ℕ) × IsLineWith s serial body × (line ≡ body ++ 10 ∷ [])
due_is s serial line None there h = absurd (let no : None ≡ Some line = h in cc)
due_is s serial line (Some b) there h =
    let body = line_bytes (numbered serial (kept_text b)) in
    let same : body ++ 10 ∷ [] ≡ line = cc in (
      body,
      (kept_text b, ap (option_map kept_text) there, refl),
      sym same,
    )

-- ---- the journal's lines

-- the serial of a kept batch is small
few : (s : State) → IsState s → (serial : ℕ) (text : Text) →
    option_map kept_text (batch_in s (serial + 1)) ≡ Some text →
    slice_get (journal s) serial ≡ Some text
few s sound serial text h = sym ((journal_is_whole s sound).1 serial) ∙ h

serial_small : (s : State) → IsState s → (n : ℕ) (text : Text) (o : Option KeyedBatch) →
    batch_in s n ≡ o → option_map kept_text o ≡ Some text → n < 2 ^ 63
serial_small s sound n text None e h = absurd cc
serial_small s sound n text (Some b) e h =
    let it = found_under s n b e in
    let low = sound.to_count b.0 b.1 it.0 in
    let most = sound.not_too_many in
    let serial = it.1 in
    omega (arith, low, most, serial)

module _ (s : State) (sound : IsState s) (after count : ℕ) (line : List ℕ)
    (is : IsLineWith s (serial_following after count) line) where
  serial_is : serial_following after count ≡ after + count + 1
  serial_is =
      let n = serial_following after count in
      let small = serial_small s sound n is.0 (batch_in s n) refl is.1 in
      omega (arith, small)

  there : slice_get (drop after (journal_lines s)) count ≡ Some (numbered (after + count + 1) is.0)
  there =
      let text = few s sound (after + count) is.0
      (ap (λ (n : ℕ). option_map kept_text (batch_in s n)) (sym serial_is) ∙ is.1) in
      let zero_more : 0 + (after + count) + 1 ≡ after + count + 1 = omega arith in
      get_drop after (journal_lines s) count
      ∙ (get_numbered 0 (journal s) (after + count) is.0 text
      ∙ ap (λ (k : ℕ). Some (numbered k is.0)) zero_more)

  pub one_further : text_of_lines (lines_from s after (count + 1))
      ≡ text_of_lines (lines_from s after count) ++ (line ++ 10 ∷ [])
  one_further =
      let x = numbered (after + count + 1) is.0 in
      let bytes : line_bytes x ≡ line =
      ap (λ (n : ℕ). line_bytes (numbered n is.0)) (sym serial_is) ∙ is.2 in
      ap text_of_lines (take_one count (drop after (journal_lines s)) x there)
      ∙ (lines-append (lines_from s after count) (x ∷ [])
      ∙ ap (λ (b : List ℕ). text_of_lines (lines_from s after count) ++ (b ++ 10 ∷ [])) bytes)

  pub within_further : count + 1 ≤ length (drop after (journal_lines s))
  within_further =
      let low = get_low (drop after (journal_lines s)) count
      (numbered (after + count + 1) is.0) there in omega (arith, low)

-- ---- so far

-- `count` lines were read, which are those of the journal
pub record SoFar (s : State) (after : ℕ) (old now : Option (List ℕ)) (count bytes : ℕ) : Type 0 where
  pub within : count ≤ length (drop after (journal_lines s))
  pub taken : Consumes old now (text_of_lines (lines_from s after count))
  pub size : bytes ≡ length (text_of_lines (lines_from s after count))

pub begins : (s : State) (after : ℕ) (old : Option (List ℕ)) → SoFar s after old old 0 0
begins s after old = record {
  within = omega arith;
  taken = Consumes-nil old;
  size = refl;
}

front_of : (old now : Option (List ℕ)) (bytes : List ℕ) → Consumes old now bytes →
    InputBeginsWith old bytes
front_of None now bytes h = tt
front_of (Some xs) None bytes h = absurd h
front_of (Some xs) (Some ys) bytes h = (ys, h)

-- what follows what was taken
rest_is : (old now : Option (List ℕ)) (front : List ℕ) (P : List ℕ → Type 0) →
    Consumes old now front → IfSome now P → RestIs old front P
rest_is None now front P h p = tt
rest_is (Some xs) None front P h p = absurd h
rest_is (Some xs) (Some ys) front P h p = (ys, h, p)

module _ (s : State) (sound : IsState s) (after : ℕ) (old now later : Option (List ℕ))
    (count bytes : ℕ) (it : SoFar s after old now count bytes) where
  abbrev front : List ℕ
  front = text_of_lines (lines_from s after count)

  abbrev serial : ℕ
  serial = serial_following after count

  with_body : (body line : List ℕ) (more : ℕ) → IsLineWith s serial body → line ≡ body ++ 10 ∷ [] →
      Consumes now later line → more ≡ bytes + length line → SoFar s after old later (count + 1) more
  with_body body line more is whole took size =
      let grown : text_of_lines (lines_from s after (count + 1)) ≡ front ++ line =
      one_further s sound after count body is ∙ ap (λ (l : List ℕ). front ++ l) (sym whole) in
      let long = length-append front line in
      let all = ap length grown in
      let was = it.size in
      record {
        within = within_further s sound after count body is;
        taken = subst (Consumes old later) (sym grown)
            (Consumes-trans old now later front line it.taken took);
        size = omega (arith, size, was, long, all);
      }

  pub further : (line : List ℕ) (more : ℕ) → line_of s serial ≡ Some line → Consumes now later line →
      more ≡ bytes + length line → SoFar s after old later (count + 1) more
  further line more due took size =
      let is = due_is s serial line (batch_in s serial) refl due in
      with_body is.0 line more is.1 is.2 took size

  pub ended : (end : MatchEnd) → IfSome now (λ rest. EndsBy (line_of s serial) serial rest end)
      × (end ≡ Ahead → batch_in s serial ≡ None) →
      Matches s after old (record { count = count; bytes = bytes; end = end })
  ended end ends = record {
    within = it.within;
    front = front_of old now front it.taken;
    size = it.size;
    ends = rest_is old now front (λ rest. EndsBy (line_of s serial) serial rest end) it.taken ends.0;
    ahead = ends.1;
  }

-- an end that says nothing about the rest
rest_unread : (due : Option (List ℕ)) (serial : ℕ) (now : Option (List ℕ)) →
    IfSome now (λ rest. EndsBy due serial rest NotRead)
rest_unread due _ None = tt
rest_unread None _ (Some rest) = tt
rest_unread (Some line) _ (Some rest) = tt

pub unread : (s : State) (serial : ℕ) (now : Option (List ℕ)) →
    IfSome now (λ rest. EndsBy (line_of s serial) serial rest NotRead)
    × (NotRead ≡ Ahead → batch_in s serial ≡ None)
unread s serial now = (
  rest_unread (line_of s serial) serial now,
  λ same. absurd (let no : NotRead ≡ Ahead = same in cc),
)

rest_stopped : (due : Option (List ℕ)) (serial : ℕ) (fault : Fault) (now : Option (List ℕ)) →
    IfSome now (λ rest. EndsBy due serial rest (Stopped fault))
rest_stopped due _ fault None = tt
rest_stopped None _ fault (Some rest) = tt
rest_stopped (Some line) _ fault (Some rest) = tt

pub stopped : (s : State) (serial : ℕ) (fault : Fault) (now : Option (List ℕ)) →
    IfSome now (λ rest. EndsBy (line_of s serial) serial rest (Stopped fault))
    × (Stopped fault ≡ Ahead → batch_in s serial ≡ None)
stopped s serial fault now = (
  rest_stopped (line_of s serial) serial fault now,
  λ same. absurd (let no : Stopped fault ≡ Ahead = same in cc),
)

-- ---- of the same bytes, and of none

pub matches_kept : (s : State) (after : ℕ) (a b : Option (List ℕ)) (found : Matched) → Keeps a b → Matches s after b found → Matches s after a found
matches_kept s after None b found same h = record {
  within = h.within;
  front = tt;
  size = h.size;
  ends = tt;
  ahead = h.ahead;
}
matches_kept s after (Some xs) None found same h = absurd same
matches_kept s after (Some xs) (Some ys) found same h =
    subst (λ (bytes : List ℕ). Matches s after (Some bytes) found) same h
