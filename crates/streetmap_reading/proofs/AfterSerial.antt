-- What the statement by the serials after one shows of the database of a state.
use Rattle.std.proofs.Common.{◌≡◌, ◌≢◌, inl, inr, ℕ, pos, ◌-◌, ◌<◌, List}
use Rattle.std.proofs.Common.{[], ◌∷◌, map, filter}
use Rattle.std.proofs.Common.{Bool, true, false, ◌&&◌, Some, refl, sym, ap, ◌∙◌, arith, int_cmp}
use Rattle.std.specs.Prelude.{nat_lt}
use Rattle.std.specs.Ordering.{is_gt}
use Rattle.std.proofs.lemmas.Bool.{ltb-true}
use Rattle.std.proofs.lemmas.Bool.Decides.{nat_tests}
use Rattle.std.proofs.lemmas.Int.{ints}
use Rattle.sqlite.specs.declared.types.Value.TheVariants.{Int}
use Rattle.sqlite.specs.Effect.{Database}
use Rattle.sqlite.specs.Order.{Row, column}
use Rattle.sqlite_catalog.proofs.LayoutLemmas.{ascending_filter}
use Rattle.sqlite_rules.specs.Lists.{Has}
use Rattle.sqlite_rules.proofs.ListLemmas.{all_has, all_from, has_filtered, has_kept}
use Rattle.sqlite_sql.specs.Ops.{binary, is_true}
use Rattle.sqlite_sql.specs.Term.{eval_all}
use Rattle.sqlite_sql.specs.declared.ops.BinaryOp.TheVariants.{Compare}
use Rattle.sqlite_sql.specs.declared.ops.CompareOp.TheVariants.{Gt}
use Rattle.sqlite_trees.specs.Tree.{IsAscending}
use Rattle.sqlite_value.specs.Order.{value_cmp}
use Rattle.sqlite_value.specs.declared.keys.Collation.TheVariants.{Binary}
use Rattle.sqlite_value.proofs.OrderLemmas.{value_cmp-Int}
use Rattle.streetmap_ledger.specs.State.{State}
use Rattle.streetmap_rows.specs.Holds.{first_key}
use Rattle.streetmap_rows.specs.KeptStates.{Keeps}
use Rattle.streetmap_rows.specs.Tables.{Roots, batches, batches_name}
use Rattle.streetmap_rows.proofs.NamedTables.{IsFound}
use Rattle.streetmap_rows.proofs.TextKeys.{truth_is}
use Rattle.streetmap_rows.proofs.OrderedRows.{keeps as passes_terms, ordered_query}
use Rattle.streetmap_rows.proofs.TablesInSchema as placing
use Rattle.streetmap_reading.specs.Candidates.{ShowsOf}
use Rattle.streetmap_reading.proofs.PageRowsShown.{shows_by}
use Rattle.streetmap_ledger.specs.Kept.{KeyedBatch, batch_in, batch_count, batches_after}
use Rattle.streetmap_ledger.proofs.Serials.{found_of, found_under}
use Rattle.streetmap_reading.specs.Serials.{row_of}
use Rattle.streetmap_reading.specs.BatchStatements.{select_after}
use Rattle.streetmap_reading.proofs.BatchCompiles.{after_serial, columns, column_names}
use Rattle.streetmap_reading.proofs.BatchCompiles.{select_after_means, select_after_never}
use Rattle.streetmap_reading.proofs.RowBySerial.{IsOf, of_row, serial_cell, shown_of, row_there}
use Rattle.streetmap_reading.proofs.BySerials.{number_in, shows_next}
use Rattle.streetmap_rows.proofs.OneState.{nat_in as number}

greater : (m n : ℕ) → is_true (binary (Compare Gt Binary) (Int (pos m)) (Int (pos n))) ≡ nat_lt n m
unfolding binary
greater m n =
    truth_is (is_gt (value_cmp (Int (pos m)) (Int (pos n))))
    ∙ (ap is_gt (value_cmp-Int (pos m) (pos n)) ∙ tie m n)
  where
    tie : (m n : ℕ) → is_gt (int_cmp (pos m) (pos n)) ≡ nat_lt n m
    tie m n = grind (arith, nat_tests, ints)

and_true : (b : Bool) → (b && true) ≡ b
and_true true = refl
and_true false = refl

-- a row whose serial is a number passes as it does in SQL
after_passes : (n m : ℕ) (r : Row) → column r 7 ≡ Int (pos m)
    → passes_terms after_serial (Int (pos n) ∷ []) r ≡ nat_lt n m
after_passes n m r is =
    ap (λ v. is_true (binary (Compare Gt Binary) v (Int (pos n))) && true) is
    ∙ (and_true (is_true (binary (Compare Gt Binary) (Int (pos m)) (Int (pos n)))) ∙ greater m n)

module _ (db : Database) (s : State) (keeps : Keeps s db) where
  abbrev roots : Roots
  roots = keeps.rows.roots

  in_batches : IsFound db.schema batches_name (batches roots.batches)
  in_batches = placing.batches_found roots db keeps.rows.ours keeps.rows.sound

  abbrev all_rows : List Row
  all_rows = db.trees roots.batches

  abbrev Of : Row → Type 0
  Of r = IsOf s roots db.trees keeps.well keeps.rows.of r

  of : (r : Row) → Has all_rows r → Of r
  of r h = of_row s roots db.trees keeps.well keeps.rows.of r h

  number_is : (r : Row) (it : Of r) → number_in r ≡ it.kept.serial
  number_is r it = ap number (serial_cell s roots db.trees keeps.well keeps.rows.of r it)

  found : (r : Row) (it : Of r) → batch_in s (number_in r) ≡ Some (first_key r, it.kept)
  found r it =
      ap (batch_in s) (number_is r it) ∙ found_of s (first_key r) it.kept keeps.well it.at

  module _ (n : ℕ) where
    abbrev following : List Row
    following = filter (passes_terms after_serial (Int (pos n) ∷ [])) all_rows

    had : (r : Row) → Has following r
        → Has all_rows r × (passes_terms after_serial (Int (pos n) ∷ []) r ≡ true)
    had r h = has_filtered (passes_terms after_serial (Int (pos n) ∷ [])) all_rows r h

    named : (r : Row) → Has following r → column r 7 ≡ Int (pos (number_in r))
    named r h =
        let it = of r (had r h).0 in
        serial_cell s roots db.trees keeps.well keeps.rows.of r it
        ∙ ap (λ m. Int (pos m)) (sym (number_is r it))

    above : (r : Row) → Has following r → n < number_in r
    above r h =
        let pass = sym (after_passes n (number_in r) r (named r h)) ∙ (had r h).1 in
        ltb-true n (number_in r) pass

    each : (r : Row) → Has following r → (b : KeyedBatch) × (batch_in s (number_in r) ≡ Some b)
        × (eval_all columns ((Int (pos n) ∷ []) ∷ r ∷ []) ≡ row_of b)
    each r h =
        let it = of r (had r h).0 in (
          (first_key r, it.kept),
          found r it,
          shown_of s roots db.trees keeps.well keeps.rows.of (Int (pos n) ∷ []) r it,
        )

    there : (m : ℕ) (b : KeyedBatch) → n < m → batch_in s m ≡ Some b
        → (r : Row) × Has following r × (number_in r ≡ m)
    there m b over is =
        let u = found_under s m b is in
        let row = row_there s roots db.trees keeps.well keeps.rows.of b u.0 in
        let at : number_in row.0 ≡ m = ap number row.2 ∙ u.1 in
        let pass = after_passes n b.1.serial row.0 row.2
        ∙ less n b.1.serial (omega (arith, over, u.1)) in (
          row.0,
          has_kept (passes_terms after_serial
              (Int (pos n) ∷ [])) all_rows row.0 row.1 pass,
          at,
        )
      where
        less : (a b : ℕ) → a < b → nat_lt a b ≡ true
        less a b h = grind (arith, nat_tests)

    one_key : (a b : Row) → Has all_rows a → Has all_rows b → number_in a ≡ number_in b
        → first_key a ≡ first_key b
    one_key a b h k same =
        let x = of a h in
        let y = of b k in
        let serial = sym (number_is a x) ∙ (same ∙ number_is b y) in
        keeps.well.one_each (first_key a) (first_key b) x.kept y.kept x.at y.at serial

    numbers_apart : (rs : List Row) → ((r : Row) → Has rs r → Has all_rows r)
        → IsAscending (λ a b. first_key a ≢ first_key b) rs
        → IsAscending (λ a b. number_in a ≢ number_in b) rs
    numbers_apart [] within up = tt
    numbers_apart (r ∷ rs) within up = (
      all_from _ rs (λ x h same.
          all_has _ rs x up.0 h (one_key r x (within r (inl refl)) (within x (inr h)) same)),
      numbers_apart rs (λ x h. within x (inr h)) up.1,
    )

    apart : IsAscending (λ a b. number_in a ≢ number_in b) following
    apart =
        numbers_apart following (λ r h. (had r h).0)
        (ascending_filter (λ a b. first_key a ≢ first_key b)
        (passes_terms after_serial (Int (pos n) ∷ [])) all_rows keeps.rows.of.batches.apart)

    pub after_at : ShowsOf select_after (Int (pos n) ∷ []) db (map row_of (batches_after s n))
    after_at =
        let means = select_after_means db.schema roots.batches in_batches in
        let never = select_after_never db.schema roots.batches in_batches db.trees (pos n) in
        shows_by select_after (Int (pos n) ∷ []) db
        (ordered_query roots.batches after_serial columns 7) column_names _ means never
        (λ rows a. shows_next roots.batches after_serial columns (Int (pos n) ∷ []) s keeps.well n
        (batch_count s - n) refl db.trees in_batches.low apart named above each there
        rows a)
