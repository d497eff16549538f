-- Trees of a state that are opened again.
use Rattle.std.proofs.Common.{◌≡◌, ◌⊎◌, inl, inr, ℕ, Option, None, Some, true, refl, sym, ap, subst, ◌∙◌, find, not}
use Rattle.std.specs.List.{AllByRecursion, list_any, list_all}
use Rattle.sqlite.specs.Schema.{Schema}
use Rattle.sqlite.specs.Does.{lacks_sequence}
use Rattle.sqlite.specs.State.{State as Seen}
use Rattle.sqlite_schema.specs.Names.{same_name}
use Rattle.sqlite_rules.specs.Lists.{Has}
use Rattle.sqlite_trees.specs.Tree.{Trees, IsAscending}
use Rattle.sqlite_catalog.specs.Listing.{IsSound}
use Rattle.streetmap_ledger.specs.State.{State}
use Rattle.streetmap_ledger.specs.Keep.{LeavesOnly, LeavesEither}
use Rattle.streetmap_rows.proofs.Schemas.{one_schema}
use Rattle.streetmap_rows.specs.Tables.{meta_name, features_name}
use Rattle.streetmap_rows.specs.KeptStates.{Keeps, MayLeave, Rests, AreTreesOf}
use Rattle.streetmap_rows.specs.declared.failures.Shut.{Shut}
use Rattle.streetmap_tables.specs.Old.{KeepsOld}
use Rattle.streetmap_store.specs.IndexesListed.{one_indexes, keeps_too}
use Rattle.streetmap_store.specs.Reopenings.{IsJustOpened, OpensWithin}
use Rattle.streetmap_store.specs.CallResults.{KeepsState}
use Rattle.streetmap_store.specs.TableModel.{LeavesStates, leaves_states}

-- trees that are a state's in format 1 under one schema are so under each that they list
pub old_too : (s : State) (a b : Schema) (trees : Trees) → IsSound b trees → KeepsOld s (record { schema = a; trees = trees })
    → KeepsOld s (record { schema = b; trees = trees })
old_too s a b trees sound it =
    let tables = one_schema a b trees it.sound sound in
    let indexes = one_indexes a b trees it.sound sound in
    record {
      well = it.well;
      roots = it.roots;
      ours = record {
        meta_is = ap (find _) (sym tables) ∙ it.ours.meta_is;
        collections_is = ap (find _) (sym tables) ∙ it.ours.collections_is;
        batches_is = ap (find _) (sym tables) ∙ it.ours.batches_is;
        features_is = ap (find _) (sym tables) ∙ it.ours.features_is;
        room = record {
          apart = subst (IsAscending (λ s t. s.tree ≡ t.tree → ⊥)) tables it.ours.room.apart;
          alone = subst (AllByRecursion (λ t. list_all (λ ref. not (same_name features_name ref.parent)) t.references ≡ true)) tables it.ours.room.alone;
          counted = ap (λ ts. lacks_sequence (record a { tables = ts })) (sym tables) ∙ it.ours.room.counted;
        };
        guarded = ap (list_any _) (sym indexes) ∙ it.ours.guarded;
        on_collections = λ i has. it.ours.on_collections i (subst (λ is. Has is i) (sym indexes) has);
        on_batches = λ i has. it.ours.on_batches i (subst (λ is. Has is i) (sym indexes) has);
        free = subst (AllByRecursion (λ t. list_all (λ ref. not (same_name meta_name ref.parent)) t.references ≡ true)) tables it.ours.free;
      };
      of = it.of;
      readable = it.readable;
      sound = sound;
    }

-- trees that a crash leaves, opened again, rest at a state that the crash may leave
pub opens_only : (old new : Seen) (P : State → Type 0) → ((o : Option State) → MayLeave old o → (s : State) × (o ≡ Some s) × P s)
    → old.may_leave new.now.trees → IsJustOpened new → OpensWithin P new
opens_only old new P bound left fresh = record {
  only = λ t rests.
      let it = bound (Some t) (new.now.trees, left, (new.now.schema, rests.kept)) in
      let same : t ≡ it.0 = let e : Some t ≡ Some it.0 = it.1 in cc in
      subst P (sym same) it.2;
  some = λ none.
      let at = λ (t : State) (schema : Schema) (kept : Keeps t (record { schema = schema; trees = new.now.trees })). none t (record {
        kept = keeps_too t schema new.now.schema new.now.trees fresh.sound kept;
        settled = fresh.settled;
        live = fresh.live;
        unlimited = fresh.unlimited;
      }) in
      let it = bound None (new.now.trees, left, at) in
      absurd (let e : ◌≡◌ {A = Option State} None (Some it.0) = it.1 in cc);
}

pub within_one : (seen : Seen) (s : State) → LeavesOnly (MayLeave seen) (Some s) → (o : Option State) → MayLeave seen o
    → (t : State) × (o ≡ Some t) × (t ≡ s)
within_one seen s only o left = (s, only o left, refl)

pub within_two : (seen : Seen) (s t : State) → LeavesEither (MayLeave seen) (Some s) (Some t) → (o : Option State)
    → MayLeave seen o → (u : State) × (o ≡ Some u) × ((u ≡ s) ⊎ (u ≡ t))
within_two seen s t only o left = elim (only o left) [ inl is ↦ (s, is, inl refl) | inr is ↦ (t, is, inr refl) ]

-- trees of a state that are opened again
rests_again : (new : Seen) (s : State) → AreTreesOf new.now.trees (Some s) → IsJustOpened new → Rests new s
rests_again new s reports fresh = record {
  kept = keeps_too s reports.0 new.now.schema new.now.trees fresh.sound reports.1;
  settled = fresh.settled;
  live = fresh.live;
  unlimited = fresh.unlimited;
}

-- a state that a keeper represents
pub opens_state : (shut : Option Shut) (old new : Seen) (count : ℕ) (s : State) → KeepsState shut old count s
    → old.may_leave new.now.trees → IsJustOpened new → Rests new s
opens_state shut old new count s is left fresh = rests_again new s (leaves_states shut old count s is new.now.trees left) fresh

-- if each database that a crash may leave is a state's, what is opened rests at one of these states
pub opens_some : (old new : Seen) → LeavesStates old → old.may_leave new.now.trees → IsJustOpened new
    → (t : State) × Rests new t × MayLeave old (Some t)
opens_some old new states left fresh =
    let it = states new.now.trees left in
    (it.0, rests_again new it.0 it.1 fresh, (new.now.trees, left, it.1))
