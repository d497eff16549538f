-- Lines of a journal, followed in several sittings.
use Rattle.std.proofs.Common.{◌≡◌, ℕ, ◌+◌, ◌<◌, ◌≤◌, max, List, [], ◌∷◌, ◌++◌, length, take, All}
use Rattle.std.proofs.Common.{Result, Ok, sym, ap, subst, ◌∙◌, ◌⊎◌, inl, inr, arith}
use Rattle.std.proofs.Common.{Some}
use Rattle.std.specs.Prelude.{slice_get}
use Rattle.std.proofs.lemmas.Bool.{cases_lt}
use Rattle.std.proofs.lemmas.List.Elements.{All-head, All-tail}
use Rattle.streetmap_batch.specs.BatchText.{batch_text}
use Rattle.streetmap_batch.specs.BatchValue.{BatchValue}
use Rattle.streetmap_ledger.specs.Batches.{Outcome}
use Rattle.streetmap_ledger.specs.State.{State, opening_state}
use Rattle.streetmap_ledger.specs.Laws.{accepted_of}
use Rattle.streetmap_batch.specs.BatchFacts.{IsSoundBatch}
use Rattle.streetmap_replay.specs.Lines.{Line, bare, numbered}
use Rattle.streetmap_replay.specs.FollowedLines.{LineFault, Followed, goes_on, follow, follower}
use Rattle.streetmap_replay.specs.Sittings.{after_sittings, followed_of, followed_in, highest}
use Rattle.streetmap_replay.specs.Sittings.{IsLineOf, SittingsAddUp}
use Rattle.streetmap_replay.proofs.Followers.{advances, waits, line_at}

highest-append : (xs ys : List Line) → highest (xs ++ ys) ≡ max (highest xs) (highest ys)
highest-append [] ys = omega arith
highest-append (bare t ∷ xs) ys = highest-append xs ys
highest-append (numbered n t ∷ xs) ys =
    ap (max n) (highest-append xs ys) ∙ omega arith

-- the result of following lines
abbrev Reaches : List BatchValue → ℕ → List Line → Followed → Type 0
Reaches bs k lines f =
    f.state ≡ follower bs (max k (highest (take (length f.replies) lines)))

module _ (bs : List BatchValue) (w : All IsSoundBatch bs) where
  none_more : (k : ℕ) → follower bs k ≡ follower bs (max k 0)
  none_more k = let most : k ≡ max k 0 = omega arith in ap (follower bs) most

  one_more : (k n : ℕ) (b : BatchValue) (lines : List Line) (o : Outcome) →
      o.state ≡ follower bs (max k (n + 1)) →
      ((m : ℕ) → Reaches bs m lines (follow (follower bs m) lines)) →
      Reaches bs k (numbered (n + 1) (batch_text b) ∷ lines)
      (goes_on (follower bs k) (Ok o) (λ t. follow t lines))
  one_more k n b lines o there rest =
      let m = max k (n + 1) in
      let later : Reaches bs m lines (follow o.state lines) =
      subst (λ (t : State). Reaches bs m lines (follow t lines)) (sym there) (rest m) in
      let top = highest (take (length (follow o.state lines).replies) lines) in
      let most : max m top ≡ max k (max (n + 1) top) = omega arith in
      later ∙ ap (follower bs) most

  numbered_reaches : (k n : ℕ) (b : BatchValue) (lines : List Line) →
      slice_get (accepted_of opening_state bs) n ≡ Some b →
      ((m : ℕ) → Reaches bs m lines (follow (follower bs m) lines)) →
      Reaches bs k (numbered (n + 1) (batch_text b) ∷ lines)
      (follow (follower bs k) (numbered (n + 1) (batch_text b) ∷ lines))
  numbered_reaches k n b lines at rest = by (cases_lt k n) where
    by : (k < n) ⊎ (n ≤ k) → Reaches bs k (numbered (n + 1) (batch_text b) ∷ lines)
        (follow (follower bs k) (numbered (n + 1) (batch_text b) ∷ lines))
    by (inl high) =
        subst (λ (r : Result Outcome LineFault).
        Reaches bs k (numbered (n + 1) (batch_text b) ∷ lines)
        (goes_on (follower bs k) r (λ t. follow t lines)))
        (sym (waits bs w k n b at high)) (none_more k)
    by (inr low) =
        let one = advances bs w k n b at low in
        subst (λ (r : Result Outcome LineFault).
        Reaches bs k (numbered (n + 1) (batch_text b) ∷ lines)
        (goes_on (follower bs k) r (λ t. follow t lines)))
        (sym one.is) (one_more k n b lines one.outcome one.there rest)

  pub reaches : (lines : List Line) → All (IsLineOf bs) lines → (k : ℕ) →
      Reaches bs k lines (follow (follower bs k) lines)
  reaches [] all k = none_more k
  reaches (line ∷ lines) all k =
      let here = All-head (IsLineOf bs) line lines all in
      let it = line_at bs w here.0 line here.1 in
      subst (λ (l : Line). Reaches bs k (l ∷ lines) (follow (follower bs k) (l ∷ lines)))
      (sym it.2) (numbered_reaches k here.0 it.0 lines it.1
      (λ m. reaches lines (All-tail (IsLineOf bs) line lines all) m))

  pub sat : (sittings : List (List Line)) → All (All (IsLineOf bs)) sittings → (k : ℕ) →
      after_sittings (follower bs k) sittings
      ≡ follower bs (max k (highest (followed_in (follower bs k) sittings)))
  sat [] all k = none_more k
  sat (lines ∷ later) all k =
      let first = followed_of (follower bs k) lines in
      let m = max k (highest first) in
      let came = reaches lines (All-head (All (IsLineOf bs)) lines later all) k in
      let rest = sat later (All-tail (All (IsLineOf bs)) lines later all) m in
      let top = highest (followed_in (follow (follower bs k) lines).state later) in
      let more : max m top ≡ max k (max (highest first) top) = omega arith in
      ap (λ (t : State). after_sittings t later) came
      ∙ (rest
      ∙ (ap (λ (t : State). follower bs (max m (highest (followed_in t later)))) (sym came)
      ∙ ap (follower bs) (more ∙ ap (max k)
      (sym (highest-append first (followed_in (follow (follower bs k) lines).state later))))))

pub sittings_add_up : SittingsAddUp
sittings_add_up bs sittings w all =
    let top = highest (followed_in opening_state sittings) in
    let most : max 0 top ≡ top = omega arith in
    sat bs w sittings all 0 ∙ ap (follower bs) most
