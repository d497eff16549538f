-- The row with a serial.
use Rattle.std.proofs.Common.{◌≡◌, ◌≢◌, inl, inr, ℕ, suc, pos, List, [], ◌∷◌, Bool, true, false}
use Rattle.std.proofs.Common.{◌&&◌, cond, find, filter, drop, Option, Some, None, option_map}
use Rattle.std.proofs.Common.{nat_eq, refl, sym, ap, subst, ◌∙◌, arith, true≢false, int_cmp, is_eq}
use Rattle.std.specs.List.{AllByRecursion, list_all}
use Rattle.std.specs.Option.{option_to_list}
use Rattle.std.specs.FinMap.{get}
use Rattle.std.proofs.lemmas.Bool.{cases_Bool, false_from_ne_true}
use Rattle.std.proofs.lemmas.Bool.Decides.{nat_tests}
use Rattle.std.proofs.lemmas.Int.{ints}
use Rattle.sqlite.specs.declared.types.Value.{Value}
use Rattle.sqlite.specs.declared.types.Value.TheVariants.{Int}
use Rattle.sqlite.specs.Order.{Row, column}
use Rattle.sqlite.specs.Term.{holds}
use Rattle.sqlite_sql.specs.Ops.{binary}
use Rattle.sqlite_sql.specs.Term.{eval_all}
use Rattle.sqlite_value.specs.Order.{value_cmp}
use Rattle.sqlite_value.specs.declared.keys.Collation.TheVariants.{Binary}
use Rattle.sqlite_value.proofs.OrderLemmas.{value_cmp-Int}
use Rattle.sqlite_schema.specs.Rules.{equal}
use Rattle.sqlite_trees.specs.Tree.{IsAscending, Trees}
use Rattle.sqlite_rules.specs.Lists.{Has}
use Rattle.sqlite_rules.proofs.ListLemmas.{has_found}
use Rattle.streetmap_batch.specs.Text.{Text}
use Rattle.streetmap_ledger.specs.State.{State, AcceptedBatch}
use Rattle.streetmap_ledger.specs.WellFormed.{IsState}
use Rattle.streetmap_rows.specs.Holds.{first_key, is_first}
use Rattle.streetmap_rows.specs.Rows.{AreOf, batch_cells}
use Rattle.streetmap_rows.specs.Tables.{Roots}
use Rattle.streetmap_rows.proofs.HeldKeys.{cells_of, there}
use Rattle.streetmap_rows.proofs.TextKeys.{first_is, first_self, column_later, truth_is}
use Rattle.streetmap_ledger.specs.Kept.{KeyedBatch, batch_in}
use Rattle.streetmap_ledger.proofs.Serials.{is_serial, same_serial, found_of, found_under}
use Rattle.streetmap_reading.specs.Serials.{row_of}
use Rattle.streetmap_reading.proofs.BatchCompiles.{by_serial, columns}

-- ---- the test of the statement

abbrev pub serial_is : ℕ → Value → Bool
serial_is n (Int (pos m)) = nat_eq m n
serial_is n _ = false

abbrev pub row_has : ℕ → Row → Bool
row_has n r = serial_is n (column r 7)

equal_numbers : (m n : ℕ) → equal Binary (Int (pos m)) (Int (pos n)) ≡ nat_eq m n
unfolding binary
equal_numbers m n =
    truth_is (is_eq (value_cmp (Int (pos m)) (Int (pos n))))
    ∙ (ap is_eq (value_cmp-Int (pos m) (pos n)) ∙ tie m n)
  where
    tie : (m n : ℕ) → is_eq (int_cmp (pos m) (pos n)) ≡ nat_eq m n
    tie m n = grind (arith, nat_tests, ints)

-- a row whose serial is a number passes the test as it does in SQL
pub serial_passes : (n m : ℕ) (r : Row) → column r 7 ≡ Int (pos m)
    → list_all (holds ((Int (pos n) ∷ []) ∷ r ∷ [])) by_serial ≡ row_has n r
serial_passes n m r is = rw (is, equal_numbers m n) (last (nat_eq m n))
  where
    last : (a : Bool) → (a && true) ≡ a
    last true = refl
    last false = refl

-- ---- at most one row

module _ {K : Type 0} (key : Row → K) (p : Row → Bool) where
  none_passes : (x : Row) (rows : List Row) → AllByRecursion (λ y. key x ≢ key y) rows
      → ((y : Row) → Has rows y → p y ≡ true → key x ≡ key y) → filter p rows ≡ []
  none_passes x [] apart one = refl
  none_passes x (y ∷ rows) apart one =
      let off = false_from_ne_true (p y) (λ on. apart.0 (one y (inl refl) on)) in
      rw (off, none_passes x rows apart.1 (λ z h. one z (inr h)))

  pub passes_one : (rows : List Row) → IsAscending (λ a b. key a ≢ key b) rows
      → ((x y : Row) → Has rows x → Has rows y → p x ≡ true → p y ≡ true → key x ≡ key y)
      → filter p rows ≡ option_to_list (find p rows)
  passes_one [] apart one = refl
  passes_one (x ∷ rows) apart one = elim (cases_Bool (p x)) [
    | inl on ↦ rw (on, none_passes x rows apart.0 (λ y h pass. one x y (inl refl) (inr h) on pass))
    | inr off ↦ rw (off, passes_one rows apart.1 (λ a b h k. one a b (inr h) (inr k)))
  ]

rest_not : (p : Row → Bool) (x : Row) (o : Option Row) (b : Bool) → p x ≡ b
    → cond b (Some x) o ≡ None → (p x ≡ false) × (o ≡ None)
rest_not p x o true on none = absurd cc
rest_not p x o false off none = (off, none)

found_not : (p : Row → Bool) (rows : List Row) (r : Row)
    → find p rows ≡ None → Has rows r → p r ≡ false
found_not p [] r none h = absurd h
found_not p (x ∷ rows) r none (inl same) =
    let off = (rest_not p x (find p rows) (p x) refl none).0 in
    subst (λ (y : Row). p y ≡ false) (sym same) off
found_not p (x ∷ rows) r none (inr later) =
    found_not p rows r (rest_not p x (find p rows) (p x) refl none).1 later

-- ---- the rows of a state

module _ (s : State) (roots : Roots) (db : Trees) (sound : IsState s) (of : AreOf s roots db) where
  -- the batch of a row
  pub record IsOf (r : Row) : Type 0 where
    pub kept : AcceptedBatch
    pub at : get s.keys (first_key r) ≡ Some kept
    pub cells : batch_cells (first_key r) kept ≡ drop 1 r

  of_key : (key : Text) (o : Option AcceptedBatch) (r : Row)
      → option_map (batch_cells key) o ≡ Some (drop 1 r)
      → (k : AcceptedBatch) × (o ≡ Some k) × (batch_cells key k ≡ drop 1 r)
  of_key key None r h = absurd (cc)
  of_key key (Some k) r h = let cells : batch_cells key k ≡ drop 1 r = cc in (k, refl, cells)

  pub of_row : (r : Row) → Has (db roots.batches) r → IsOf r
  of_row r h =
      let cells = cells_of first_key is_first first_is first_self _
      (db roots.batches) of.batches r h in
      let k = of_key (first_key r) (get s.keys (first_key r)) r cells in
      record { kept = k.0; at = k.1; cells = k.2 }

  cell_at : (r : Row) (it : IsOf r) (n : ℕ)
      → column r (suc n) ≡ column (batch_cells (first_key r) it.kept) n
  cell_at r it n = column_later r n ∙ ap (λ (x : Row). column x n) (sym it.cells)

  pub serial_cell : (r : Row) (it : IsOf r) → column r 7 ≡ Int (pos it.kept.serial)
  serial_cell r it = cell_at r it 6

  -- what is shown of a row
  pub shown_of : (params r : Row) (it : IsOf r)
      → eval_all columns (params ∷ r ∷ []) ≡ row_of (first_key r, it.kept)
  shown_of params r it =
      λ i. cell_at r it 0 i ∷ cell_at r it 1 i ∷ cell_at r it 2 i ∷ cell_at r it 3 i
      ∷ cell_at r it 4 i ∷ cell_at r it 5 i ∷ cell_at r it 6 i ∷ []

  serial_of : (n : ℕ) (r : Row) (it : IsOf r) → row_has n r ≡ true → it.kept.serial ≡ n
  serial_of n r it on = is_serial it.kept.serial n (sym (ap (serial_is n) (serial_cell r it)) ∙ on)

  pub one_serial : (n : ℕ) (x y : Row) → Has (db roots.batches) x → Has (db roots.batches) y
      → row_has n x ≡ true → row_has n y ≡ true → first_key x ≡ first_key y
  one_serial n x y h k on too =
      let a = of_row x h in
      let b = of_row y k in
      let same = serial_of n x a on ∙ sym (serial_of n y b too) in
      sound.one_each (first_key x) (first_key y) a.kept b.kept a.at b.at same

  -- the row of a batch that is kept exists
  pub row_there : (b : KeyedBatch) → get s.keys b.0 ≡ Some b.1
      → (r : Row) × Has (db roots.batches) r × (column r 7 ≡ Int (pos b.1.serial))
  row_there b at =
      let cells : option_map (batch_cells b.0) (get s.keys b.0) ≡ Some (row_of b) =
      ap (option_map (batch_cells b.0)) at in
      let row = there first_key is_first first_is first_self _ (db roots.batches) of.batches b.0
      (row_of b) cells in
      (row.0, row.1, column_later row.0 6 ∙ ap (λ (x : Row). column x 6) row.4)

  -- what is found is what is kept
  pub found_is : (params : Row) (n : ℕ) (o : Option Row)
      → find (row_has n) (db roots.batches) ≡ o
      → option_map (λ (r : Row). eval_all columns (params ∷ r ∷ [])) o
      ≡ option_map row_of (batch_in s n)
  found_is params n (Some r) is =
      let had = has_found (row_has n) (db roots.batches) r is in
      let it = of_row r had.0 in
      let kept : batch_in s n ≡ Some (first_key r, it.kept) =
      subst (λ (m : ℕ). batch_in s m ≡ Some (first_key r, it.kept)) (serial_of n r it had.1)
      (found_of s (first_key r) it.kept sound it.at) in
      ap (λ (x : Row). Some x) (shown_of params r it)
      ∙ sym (ap (λ (o : Option KeyedBatch). option_map row_of o) kept)
  found_is params n None is = none (batch_in s n) refl
    where
      none : (o : Option KeyedBatch) → batch_in s n ≡ o → None ≡ option_map row_of o
      none None same = refl
      none (Some b) same =
          let u = found_under s n b same in
          let row = row_there b u.0 in
          let serial : row_has n row.0 ≡ nat_eq b.1.serial n = ap (serial_is n) row.2 in
          let on : row_has n row.0 ≡ true =
          serial ∙ (ap (λ (m : ℕ). nat_eq m n) u.1 ∙ same_serial n) in
          absurd (true≢false (sym on ∙ found_not (row_has n) (db roots.batches) row.0 is row.1))
