-- A connection at rest, after a read of it.
use Rattle.std.proofs.Common.{◌≡◌, List, Option, None, Some, IsTrue, option_map, slice_get, sym, subst, ◌∙◌, refl}
use Rattle.std.specs.Option.{option_to_list}
use Rattle.sqlite.specs.Order.{Row}
use Rattle.sqlite.specs.State.{State as Seen, IsUnchanged, KeepsCommit}
use Rattle.streetmap_ledger.specs.State.{State}
use Rattle.streetmap_rows.specs.KeptStates.{Keeps, Rests}

-- it rests if nothing changed
pub rests_still : (old new : Seen) (s : State) → IsUnchanged old new → new.step_limit ≡ old.step_limit → Rests old s → Rests new s
rests_still old new s same limit rests = record {
  kept = subst (Keeps s) (sym same.0.now_is) rests.kept;
  settled = same.0.now_is ∙ rests.settled ∙ sym same.0.committed_is;
  live = same.0.is_open;
  unlimited = limit ∙ rests.unlimited;
}

-- and if nothing was committed, while it is open and between two transactions
pub rests_if_open : (old new : Seen) (s : State) → KeepsCommit old new → (IsTrue new.is_open → new.now ≡ new.committed) → new.step_limit ≡ old.step_limit →
    Rests old s → IsTrue new.is_open → Rests new s
rests_if_open old new s keeps settled limit rests live = record {
  kept = subst (Keeps s) (rests.settled ∙ sym (settled live ∙ keeps.committed live)) rests.kept;
  settled = settled live;
  live = live;
  unlimited = limit ∙ rests.unlimited;
}

-- the first of one row or none
pub the_row : {A : Type 0} (view : A → Row) (o : Option A) (rows : List Row) (row : Row) → rows ≡ option_to_list (option_map view o) → Some row
    ≡ slice_get rows 0 → (a : A) × (o ≡ Some a) × (row ≡ view a)
the_row view None rows row is first = absurd (let e = first ∙ (λ i. slice_get (is i) 0) in cc)
the_row view (Some a) rows row is first = let e = first ∙ (λ i. slice_get (is i) 0) in let same : row ≡ view a = cc in (a, refl, same)

pub no_row : {A : Type 0} (view : A → Row) (o : Option A) (rows : List Row) → rows ≡ option_to_list (option_map view o) → None ≡ slice_get rows 0 → o ≡ None
no_row view None rows is first = refl
no_row view (Some a) rows is first = absurd (let e = first ∙ (λ i. slice_get (is i) 0) in cc)
