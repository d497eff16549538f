-- The effect of edits, inside a transaction on a connection whose database is that of a state.
use Rattle.std.specs.Prelude.{◌≡◌, ℕ, List, Option, None, Some, Ok, Err, Result, MatchResult}
use Rattle.std.specs.Prelude.{IsTrue}
use Rattle.sqlite.specs.State.{State as Seen, KeepsCommit}
use Rattle.sqlite.specs.declared.error.Error.{Error}
use Rattle.streetmap_batch.specs.BatchValue.{EditValue}
use Rattle.streetmap_ledger.specs.State.{State, step}
use Rattle.streetmap_ledger.specs.Batches.{edited}
use Rattle.streetmap_ledger.specs.declared.reply.Refusal.{Refusal}
use Rattle.streetmap_rows.specs.Failures.{IsOfStore}
use Rattle.streetmap_rows.specs.Representations.{StandsFor}
use Rattle.streetmap_rows.specs.Elsewhere.{IsSameElsewhere}

-- nothing was committed, and every other table is as it was
abbrev pub KeepsRest : Seen → Seen → Type 0
KeepsRest old new = KeepsCommit old new × IsSameElsewhere old.now new.now

-- what an edit leaves, or why it is refused
abbrev pub Answered : State → EditValue → Seen → Option Refusal → Type 0
Answered s e new None = (t : State) × (step s e ≡ Ok t) × StandsFor t new.now
Answered s e new (Some why) = step s e ≡ Err why

-- an edit inside a transaction
abbrev pub Edits : EditValue → Seen → Seen → Result (Option Refusal) Error → Type 0
Edits e old new r =
    old.step_limit ≡ None → IsTrue old.in_transaction → (s : State) → StandsFor s old.now
    → MatchResult r (λ o. Answered s e new o × IsTrue new.in_transaction
    × KeepsRest old new) (λ e. IsOfStore e × KeepsCommit old new)

-- what edits leave, or the place and the cause of the first that is refused
abbrev pub AnsweredAll : State → List EditValue → Seen → Option (ℕ × Refusal) → Type 0
AnsweredAll s es new None = (t : State) × (edited 1 s es ≡ Ok t) × StandsFor t new.now
    × IsTrue new.in_transaction
AnsweredAll s es new (Some stopped) = edited 1 s es ≡ Err (stopped.0, stopped.1)

-- edits inside a transaction, up to the first that is refused
abbrev pub EditsAll : List EditValue → Seen → Seen → Result (Option (ℕ × Refusal)) Error → Type 0
EditsAll es old new r =
    old.step_limit ≡ None → IsTrue old.in_transaction → (s : State) → StandsFor s old.now
    → MatchResult r (λ o. AnsweredAll s es new o × KeepsRest old new) (λ e. IsOfStore e
    × KeepsCommit old new)
