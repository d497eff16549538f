-- The journal of a state: the texts of its accepted batches, in order of their serials.
use Rattle.std.specs.Prelude.{◌≡◌, ◌≤◌, ◌+◌, ℕ, List, [], ◌∷◌, ◌++◌, Bool, true, false, All, length}
use Rattle.std.specs.Prelude.{option_map, map, take, slice_get}
use Rattle.streetmap_batch.specs.Text.{Text}
use Rattle.streetmap_batch.specs.BatchFacts.{IsSoundBatch}
use Rattle.streetmap_batch.specs.BatchText.{batch_text}
use Rattle.streetmap_batch.specs.BatchValue.{BatchValue}
use Rattle.streetmap_ledger.specs.State.{State, opening_state}
use Rattle.streetmap_ledger.specs.Batches.{act, after_all}
use Rattle.streetmap_ledger.specs.Laws.{is_accepted, accepted_of}
use Rattle.streetmap_ledger.specs.WellFormed.{IsState}
use Rattle.streetmap_ledger.specs.Kept.{KeyedBatch, batch_count, batch_in}
use Rattle.streetmap_ledger.specs.Kept.{batches_next, batches_after}

-- the text of a kept batch
abbrev pub kept_text : KeyedBatch → Text
kept_text b = b.1.text

abbrev pub journal : State → List Text
journal s = map kept_text (batches_after s 0)

-- the text of a batch that was accepted
abbrev pub text_if : Bool → BatchValue → List Text
text_if true b = batch_text b ∷ []
text_if false b = []

-- an accepted batch adds its text as the last, and no other batch changes the journal; so the
-- journal is the texts of the accepted batches, in order
abbrev pub JournalGrows : Type 0
JournalGrows =
    ((s : State) (b : BatchValue) → IsState s →
    journal (act s b).state ≡ journal s ++ text_if (is_accepted (act s b).reply) b)
    × ((s : State) (bs : List BatchValue) → IsState s → All IsSoundBatch bs →
    journal (after_all s bs) ≡ journal s ++ map batch_text (accepted_of s bs))
    × ((bs : List BatchValue) → All IsSoundBatch bs →
    journal (after_all opening_state bs) ≡ map batch_text (accepted_of opening_state bs))

-- it has a text for each batch that is kept, under its serial
abbrev pub JournalIsWhole : Type 0
JournalIsWhole =
    (s : State) → IsState s →
    (length (journal s) ≡ batch_count s)
    × ((n : ℕ) → option_map kept_text (batch_in s (n + 1)) ≡ slice_get (journal s) n)
    × ((n : ℕ) → n ≤ batch_count s →
    map kept_text (batches_next s 0 n) ≡ take n (journal s))
