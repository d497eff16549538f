-- A follower that follows lines of the journal.
use Rattle.std.proofs.Common.{◌≡◌, ℕ, suc, ◌+◌, max, List, [], ◌∷◌, ◌++◌, length, take, All}
use Rattle.std.proofs.Common.{false, ◌==◌, Option, None, Some, Result, Ok, Err, refl}
use Rattle.std.proofs.Common.{sym, ap, ap₂, subst, ◌∙◌, arith, append_assoc, length-append}
use Rattle.std.proofs.lemmas.Bool.Decides.{nat_tests}
use Rattle.std.proofs.lemmas.List.{take_all}
use Rattle.std.proofs.lemmas.List.Elements.{All-head, All-tail, All-take, All-weaker}
use Rattle.std.proofs.lemmas.List.Elements.{All-append, All-cons, All-nil}
use Rattle.streetmap_batch.specs.BatchValue.{BatchValue}
use Rattle.streetmap_batch.specs.Text.{Text}
use Rattle.streetmap_batch.specs.declared.batch_fault.BatchFault.TheVariants as batches
use Rattle.streetmap_ledger.specs.Batches.{Outcome, after_all}
use Rattle.streetmap_ledger.specs.Model.{Model}
use Rattle.streetmap_ledger.specs.declared.reply.Fault.TheVariants as faults
use Rattle.streetmap_ledger.specs.State.{State, opening_state}
use Rattle.streetmap_ledger.specs.declared.reply.Reply.{Reply}
use Rattle.streetmap_batch.specs.BatchFacts.{IsSoundBatch}
use Rattle.streetmap_replay.specs.FollowedLines.{LineFault, Followed as ReportsOutcome, line_outcome, goes_on}
use Rattle.streetmap_replay.specs.FollowedLines.{follow, follower}
use Rattle.streetmap_replay.specs.JournalText.{text_of_lines, journal_lines}
use Rattle.streetmap_replay.specs.Lines.{Line, line_bytes, IsJournalLine}
use Rattle.streetmap_replay.specs.Sittings.{IsLineOf, highest}
use Rattle.streetmap_replay.proofs.LineBytes.{IsOneLine, no_feed, all_one_line, lines_are_one_each}
use Rattle.streetmap_replay.proofs.LineBytes.{journal_reads_in_lines}
use Rattle.streetmap_replay.proofs.ItemsByPlace.{All-at}
use Rattle.streetmap_replay.proofs.Sitting.{reaches}
use Rattle.streetmap_text_lines.specs.LineReads.{HasNoLineFeed}
use Rattle.streetmap_text_lines.specs.declared.fault.LineFault.TheVariants.{LineTooLong, ReadFailed}
use Rattle.streetmap_text_lines.specs.declared.fault.LineFault.TheVariants.{Memory}
use Rattle.streetmap_replay.specs.Beginnings.{IsOfJournal, FollowerBy}
use Rattle.streetmap_replay.specs.Ends.{IsInputLine, FollowingEndsBy, FollowsLines}
use Rattle.streetmap_replay.specs.declared.follow_fault.FollowFault.{FollowFault}
use Rattle.streetmap_replay.specs.declared.follow_fault.FollowFault.TheVariants as ends
use Rattle.streetmap_replay.specs.declared.follower.Followed.{Followed}
use Rattle.streetmap_replay.proofs.FollowedSoFar.{one_more}

-- ---- lines of one text

abbrev IsUnended : ℕ → Type 0
IsUnended b = (b == 10) ≡ false

not_feed : {A : Type 0} (b : ℕ) → IsUnended b → b ≡ 10 → A
not_feed b e f = absurd (grind (arith, nat_tests))

at_feed : (xs ys t u : List ℕ) → All IsUnended xs → All IsUnended ys →
    xs ++ 10 ∷ t ≡ ys ++ 10 ∷ u → (xs ≡ ys) × (t ≡ u)
at_feed [] [] t u h k e = let rest : t ≡ u = cc in (refl, rest)
at_feed [] (y ∷ ys) t u h k e =
    let same : y ≡ 10 = cc in not_feed y (All-head IsUnended y ys k) same
at_feed (x ∷ xs) [] t u h k e =
    let same : x ≡ 10 = cc in not_feed x (All-head IsUnended x xs h) same
at_feed (x ∷ xs) (y ∷ ys) t u h k e =
    let same : x ≡ y = cc in
    let more : xs ++ 10 ∷ t ≡ ys ++ 10 ∷ u = cc in
    let rest = at_feed xs ys t u (All-tail IsUnended x xs h) (All-tail IsUnended y ys k) more in
    (ap₂ (λ z zs. z ∷ zs) same rest.0, rest.1)

no_line : {A : Type 0} (xs t part : List ℕ) → HasNoLineFeed part → xs ++ 10 ∷ t ≡ part → A
no_line [] t [] h e = absurd cc
no_line [] t (p ∷ part) h e =
    let same : p ≡ 10 = cc in not_feed p (All-head IsUnended p part h) same
no_line (x ∷ xs) t [] h e = absurd cc
no_line (x ∷ xs) t (p ∷ part) h e =
    let more : xs ++ 10 ∷ t ≡ part = cc in no_line xs t part (All-tail IsUnended p part h) more

-- the bytes of a line are one line, and are read as it
record IsInputBytes (line : Line) : Type 0 where
  is : IsJournalLine (line_bytes line) line
  one : HasNoLineFeed (line_bytes line)

-- the lines that were read off a text are its first
first_lines : (read ls : List Line) (rest part : List ℕ) → All IsInputLine read →
    All IsInputBytes ls → HasNoLineFeed part →
    text_of_lines read ++ rest ≡ text_of_lines ls ++ part → read ≡ take (length read) ls
first_lines [] ls rest part h k none e = refl
first_lines (r ∷ read) [] rest part h k none e =
    no_line (line_bytes r) (text_of_lines read ++ rest) part none
    (sym (append_assoc (line_bytes r) (10 ∷ text_of_lines read) rest) ∙ e)
first_lines (r ∷ read) (l ∷ ls) rest part h k none e =
    let here = All-head IsInputLine r read h in
    let there = All-head IsInputBytes l ls k in
    let cut = at_feed (line_bytes r) (line_bytes l) (text_of_lines read ++ rest)
    (text_of_lines ls ++ part) here.one there.one
    (sym (append_assoc (line_bytes r) (10 ∷ text_of_lines read) rest)
    ∙ (e ∙ append_assoc (line_bytes l) (10 ∷ text_of_lines ls) part)) in
    let same : r ≡ l = lines_are_one_each.0 (line_bytes l) r l
    (subst (λ (b : List ℕ). IsJournalLine b r) cut.0 here.is) there.is in
    ap₂ (λ z zs. z ∷ zs) same (first_lines read ls rest part (All-tail IsInputLine r read h)
    (All-tail IsInputBytes l ls k) none cut.1)

-- ---- states

more_replies : (s : State) (xs : List Line) →
    ((v : State) → (follow v xs).fault ≡ None → length (follow v xs).replies ≡ length xs) →
    (r : Result Outcome LineFault) → (goes_on s r (λ v. follow v xs)).fault ≡ None →
    length (goes_on s r (λ v. follow v xs)).replies ≡ suc (length xs)
more_replies s xs rest (Ok o) h = ap suc (rest o.state h)
more_replies s xs rest (Err why) h = let no : Some why ≡ None = h in absurd cc

as_many : (s : State) (xs : List Line) → (follow s xs).fault ≡ None →
    length (follow s xs).replies ≡ length xs
as_many s [] h = refl
as_many s (x ∷ xs) h = more_replies s xs (λ v. as_many v xs) (line_outcome s x) h

module _ (bs : List BatchValue) (w : All IsSoundBatch bs) where
  journal_bytes : (line : Line) → IsLineOf bs line → IsInputBytes line
  journal_bytes line h = record {
    is = All-at (λ l. IsJournalLine (line_bytes l) l) (journal_lines (after_all opening_state bs)) h.0 line
        (journal_reads_in_lines bs w).1 h.1;
    one = no_feed (line_bytes line) (All-at IsOneLine (journal_lines (after_all opening_state bs))
        h.0 line (all_one_line bs w) h.1);
  }

  state_is : (k : ℕ) (read : List Line) → All (IsLineOf bs) read →
      (follow (follower bs k) read).fault ≡ None →
      (follow (follower bs k) read).state ≡ follower bs (max k (highest read))
  state_is k read all whole =
      let f = follow (follower bs k) read in
      let many = as_many (follower bs k) read whole in
      let those : take (length f.replies) read ≡ read =
      take_all (length f.replies) read (omega (arith, many)) in
      reaches bs w read all k ∙ ap (λ (ls : List Line). follower bs (max k (highest ls))) those

  module _ (k : ℕ) (lines : List Line) (input : List ℕ) (of : IsOfJournal bs lines (Some input))
    where
      -- lines that were read off the input are its first lines
      those : (read : List Line) (rest : List ℕ) → All IsInputLine read →
          input ≡ text_of_lines read ++ rest → read ≡ take (length read) lines
      those read rest all front =
          first_lines read lines rest of.1.0 all
          (All-weaker (IsLineOf bs) IsInputBytes journal_bytes lines of.0) of.1.2
          (sym front ∙ of.1.1)

      -- and the follower of all of them is the follower up to the highest serial
      remaining : (read : List Line) (rest : List ℕ) (n : ℕ) → length read ≡ n → All IsInputLine read →
          input ≡ text_of_lines read ++ rest → (follow (follower bs k) read).fault ≡ None →
          (follow (follower bs k) read).state ≡ follower bs (max k (highest (take n lines)))
      remaining read rest n counted all front whole =
          let first : read ≡ take n lines =
          those read rest all front ∙ ap (λ (m : ℕ). take m lines) counted in
          let ours : All (IsLineOf bs) read =
          subst (All (IsLineOf bs)) (sym first) (All-take (IsLineOf bs) n lines of.0) in
          state_is k read ours whole
          ∙ ap (λ (ls : List Line). follower bs (max k (highest ls))) first

      module _ {K : Type 0} (model : Model K) (a b : K) where
        module _ (count : ℕ) (t : State) (is : t ≡ follower bs (max k (highest (take count lines)))) where
          end_by : (read : List Line) (new : Option (List ℕ)) (why : Option FollowFault) →
              (FollowingEndsBy model a b t read (Some input) new (Some ends.NotReported) →
              FollowerBy bs k lines count (Some ends.NotReported) (model.represents b)) →
              FollowingEndsBy model a b t read (Some input) new why → FollowerBy bs k lines count why (model.represents b)
          end_by read new None untold h = subst (model.represents b) is h.1
          end_by read new (Some (ends.Unread batches.Memory)) untold h = subst (model.represents b) is h.3
          end_by read new (Some (ends.Unread (batches.BadBatch place))) untold h = subst (model.represents b) is h.3.1
          end_by read new (Some (ends.Unread batches.BadKey)) untold h = subst (model.represents b) is h.3.1
          end_by read new (Some (ends.Unread batches.TooManyEdits)) untold h = subst (model.represents b) is h.3.1
          end_by read new (Some (ends.Unread (batches.BadFeature place cause))) untold h = subst (model.represents b) is h.3.1
          end_by read new (Some ends.NotNext) untold h = subst (model.represents b) is h.3.1
          end_by read new (Some (ends.Refused why place)) untold h = subst (model.represents b) is h.3.1
          end_by read new (Some (ends.Stopped faults.Memory)) untold h = subst (model.represents b) is h.3
          end_by read new (Some (ends.Stopped faults.Device)) untold h = tt
          end_by read new (Some (ends.Stopped faults.Damaged)) untold h = h.3
          end_by read new (Some (ends.Stopped faults.Reopen)) untold h = h.3
          end_by read new (Some ends.CutLine) untold h = subst (model.represents b) is h.1
          end_by read new (Some (ends.NotRead LineTooLong)) untold h = subst (model.represents b) is h.1
          end_by read new (Some (ends.NotRead ReadFailed)) untold h = subst (model.represents b) is h
          end_by read new (Some (ends.NotRead Memory)) untold h = subst (model.represents b) is h
          end_by read new (Some ends.NotReported) untold h = untold h

        -- the last line was followed, and its reply was not reported
        one_after : (read : List Line) (count : ℕ) → length read ≡ count → All IsInputLine read → (follow (follower bs k) read).fault ≡ None →
            (new : Option (List ℕ)) →
            FollowingEndsBy model a b (follow (follower bs k) read).state read (Some input) new (Some ends.NotReported) →
            FollowerBy bs k lines count (Some ends.NotReported) (model.represents b)
        one_after read count counted all whole None h = absurd h.2
        one_after read count counted all whole (Some rest) h =
            let line = h.0 in
            let o = h.3.0 in
            let more = one_more (follower bs k) read line o whole h.3.1 in
            let both = All-append IsInputLine read (line ∷ []) all
            (All-cons IsInputLine line [] h.1 (All-nil IsInputLine)) in
            let long = length-append read (line ∷ []) in
            let last = remaining (read ++ line ∷ []) rest (count + 1) (omega (arith, long, counted)) both
            h.2 (ap (λ (f : ReportsOutcome). f.fault) more) in
            subst (model.represents b) (sym (ap (λ (f : ReportsOutcome). f.state) more) ∙ last) h.3.2

pub follower_by : {K T : Type 0} (model : Model K) (a b : K) (bs : List BatchValue) → All IsSoundBatch bs →
    (k : ℕ) (lines : List Line) (old new : Option (List ℕ)) (reports : T → Text → Reply → T → Type 0)
    (first last : T) (result : Followed) → IsOfJournal bs lines old → FollowsLines model a b (follower bs k) old new reports first last result →
    FollowerBy bs k lines result.count result.fault (model.represents b)
follower_by model a b bs w k lines None new reports first last result of h = absurd of
follower_by model a b bs w k lines (Some input) new reports first last result of h =
    let t = (follow (follower bs k) h.read).state in
    let is = remaining bs w k lines input of h.read h.front.0 result.count h.counted h.lines h.front.1
    h.followed in
    end_by bs w k lines input of model a b result.count t is h.read new result.fault
    (one_after bs w k lines input of model a b h.read result.count h.counted h.lines h.followed new) h.ends
