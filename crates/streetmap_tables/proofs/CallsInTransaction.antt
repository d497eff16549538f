-- Calls inside a transaction, one after the other.
use Rattle.std.proofs.Common.{◌∙◌, Option, Result, Ok, Err, MatchResult, IsTrue}
use Rattle.sqlite.specs.declared.error.Error.{Error}
use Rattle.streetmap_ledger.specs.declared.reply.Refusal.{Refusal}
use Rattle.streetmap_rows.specs.Failures.{IsOfStore}
use Rattle.sqlite.specs.State.{State as Seen, KeepsCommit, IsUnchanged}
use Rattle.streetmap_ledger.specs.State.{State}
use Rattle.streetmap_rows.specs.Representations.{StandsFor}
use Rattle.streetmap_rows.specs.Elsewhere.{IsSameElsewhere}
use Rattle.streetmap_tables.specs.EditEffects.{KeepsRest}
use Rattle.std.proofs.Common.{◌≡◌, refl, sym, subst}
use Rattle.sqlite.specs.Effect.{Database}

pub keeps : (a b : Seen) → IsUnchanged a b → KeepsCommit a b
keeps a b u = record { was_open = λ _. u.0.was_open; committed = λ _. u.0.committed_is }

pub keeps_then : (a b c : Seen) → KeepsCommit a b → KeepsCommit b c → KeepsCommit a c
keeps_then a b c p q = record { was_open = λ o. p.was_open (q.was_open o); committed = λ o. q.committed o ∙ p.committed (q.was_open o) }

-- ---- every other table is as it was

pub same_all : (a b : Database) → b ≡ a → IsSameElsewhere a b
same_all a b same = subst (IsSameElsewhere a) (sym same) (record { schema = refl; tables = λ t had other. refl; others = λ tree none no_index. refl })

pub elsewhere_then : (a b c : Database) → IsSameElsewhere a b → IsSameElsewhere b c → IsSameElsewhere a c
elsewhere_then a b c p q =
    let on = subst (λ s. IsSameElsewhere (record { schema = s; trees = b.trees }) c) p.schema q in
    record {
      schema = on.schema;
      tables = λ t had other. on.tables t had other ∙ p.tables t had other;
      others = λ tree none no_index.
          on.others tree none no_index ∙ p.others tree none no_index;
    }

pub keeps_rest : (a b : Seen) → IsUnchanged a b → KeepsRest a b
keeps_rest a b u = (keeps a b u, same_all a.now b.now u.0.now_is)

pub rest_then : (a b c : Seen) → KeepsRest a b → KeepsRest b c → KeepsRest a c
rest_then a b c p q = (keeps_then a b c p.0 q.0, elsewhere_then a.now b.now c.now p.1 q.1)

-- ---- the state

pub still_represented : (a b : Seen) (s : State) → IsUnchanged a b → StandsFor s a.now → StandsFor s b.now
still_represented a b s u h = subst (StandsFor s) (sym u.0.now_is) h

-- what a call inside answers, after others that kept the commit
pub answered_on : (old mid new : Seen) (P Q : Option Refusal → Type 0) (r : Result (Option Refusal) Error) → ((o : Option Refusal) → P o → Q o) →
    KeepsRest old mid
    → MatchResult r (λ o. P o × IsTrue new.in_transaction × KeepsRest mid new) (λ e. IsOfStore e × KeepsCommit mid new)
    → MatchResult r (λ o. Q o × IsTrue new.in_transaction × KeepsRest old new) (λ e. IsOfStore e × KeepsCommit old new)
answered_on old mid new P Q (Ok o) turn kept h = (turn o h.0, h.1, rest_then old mid new kept h.2)
answered_on old mid new P Q (Err e) turn kept h = (h.0, keeps_then old mid new kept.0 h.1)
