-- A connection at rest, after tables were read.
use Rattle.std.proofs.Common.{◌≡◌, ℕ, IsTrue, sym, ap, subst, ◌∙◌}
use Rattle.sqlite.specs.State.{State as Seen, IsUnchanged, KeepsCommit}
use Rattle.streetmap_ledger.specs.State.{State}
use Rattle.streetmap_rows.specs.KeptStates.{Keeps, Rests}
use Rattle.streetmap_tables.specs.Creation.{HasSame}
use Rattle.streetmap_tables.specs.Adoption.{IsAsItWas}
use Rattle.streetmap_tables.specs.declared.adoption.Found.{Found}
use Rattle.streetmap_tables.specs.declared.adoption.Found.TheVariants.{Keys, Unread, Other}

-- it rests if it has the database that it had
pub rests_same : (old new : Seen) (s : State) → Rests old s → HasSame old new → new.step_limit ≡ old.step_limit → IsTrue new.is_open → Rests new s
rests_same old new s rests same limit live = record {
  kept = subst (Keeps s) (sym same.0) rests.kept;
  settled = same.0 ∙ rests.settled ∙ sym same.1;
  live = live;
  unlimited = limit ∙ rests.unlimited;
}

-- as it was, and then unchanged
pub same_unchanged : (old mid new : Seen) → IsAsItWas old mid → IsUnchanged mid new → IsAsItWas old new
same_unchanged old mid new was same settled live =
    let before = was settled same.0.was_open in (same.0.now_is ∙ before.0, same.0.committed_is ∙ before.1)

-- as it was, and then with the last commit that it had
pub same_settled : (old mid new : Seen) → IsAsItWas old mid → KeepsCommit mid new → (IsTrue new.is_open → new.now ≡ new.committed) → IsAsItWas old new
same_settled old mid new was kept after settled live =
    let before = was settled (kept.was_open live) in
    let last = kept.committed live ∙ before.1 in
    (after live ∙ last ∙ sym settled, last)

counted : Found → ℕ
counted (Keys n) = n
counted Unread = 0
counted (Other format) = 0

pub one_count : (found : Found) (a b : ℕ) → found ≡ Keys a → found ≡ Keys b → a ≡ b
unfolding counted
one_count found a b p q = ap counted (sym p ∙ q)
