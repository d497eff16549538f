-- What the statement by a serial shows of the database of a state.
use Rattle.std.proofs.Common.{◌≡◌, ℕ, pos, ◌<◌, ◌≤◌, ◌^◌, List, [], ◌∷◌, find, Option, Some}
use Rattle.std.proofs.Common.{None, option_map, Bool, true, false, cond, ℤ, FitsSigned, w64}
use Rattle.std.proofs.Common.{to_z, of_z, to_z-of_z, refl, sym, ap, ◌∙◌, arith, IsTrue, IsUtf8}
use Rattle.std.specs.Prelude.{nat_lt, All}
use Rattle.std.specs.List.{list_all}
use Rattle.std.specs.Option.{option_to_list}
use Rattle.std.proofs.lemmas.Bool.{ltb-true, and_parts}
use Rattle.std.proofs.lemmas.Bool.Decides.{nat_tests}
use Rattle.std.proofs.lemmas.Int.{ints}
use Rattle.std.proofs.lemmas.Grind.{common_steps}
use Rattle.std.proofs.lemmas.List.Elements.{All-nil, All-cons}
use Rattle.std.proofs.lemmas.Str.{IsUtf8-from_ascii}
use Rattle.std.proofs.lemmas.Str.Ascii.{IsAscii-from_all}
use Rattle.sqlite.specs.declared.types.Value.TheVariants.{Int}
use Rattle.sqlite.specs.Order.{Row}
use Rattle.sqlite.specs.Term.{holds}
use Rattle.sqlite.specs.Effect.{Database}
use Rattle.streetmap_batch.specs.Names.{is_key_byte, is_key}
use Rattle.streetmap_batch.specs.Text.{Text}
use Rattle.streetmap_ledger.specs.State.{State}
use Rattle.streetmap_ledger.specs.WellFormed.{IsState}
use Rattle.streetmap_rows.specs.Holds.{first_key}
use Rattle.streetmap_rows.specs.KeptStates.{Keeps}
use Rattle.streetmap_rows.specs.Queries.{over}
use Rattle.streetmap_rows.specs.Tables.{Roots, batches, batches_name}
use Rattle.streetmap_rows.proofs.OneRowChosen.{chosen, staged}
use Rattle.sqlite_rules.specs.Lists.{Has}
use Rattle.streetmap_rows.proofs.NamedTables.{IsFound}
use Rattle.streetmap_rows.proofs.TablesInSchema as placing
use Rattle.streetmap_reading.specs.Candidates.{ShowsOf}
use Rattle.streetmap_reading.proofs.PageRowsShown.{shows_by}
use Rattle.streetmap_ledger.specs.Kept.{KeyedBatch, batch_in}
use Rattle.streetmap_ledger.proofs.Serials.{found_under}
use Rattle.streetmap_reading.specs.Serials.{row_of, column_serial}
use Rattle.streetmap_reading.specs.BatchStatements.{select_serial}
use Rattle.streetmap_reading.proofs.BatchCompiles.{by_serial, columns, column_names, select_serial_means}
use Rattle.streetmap_reading.proofs.BatchCompiles.{select_serial_never}
use Rattle.streetmap_reading.proofs.RowBySerial.{row_has, serial_passes, passes_one, of_row}
use Rattle.streetmap_reading.proofs.RowBySerial.{serial_cell, one_serial, found_is}

module _ (db : Database) (s : State) (keeps : Keeps s db) where
  abbrev roots : Roots
  roots = keeps.rows.roots

  in_batches : IsFound db.schema batches_name (batches roots.batches)
  in_batches = placing.batches_found roots db keeps.rows.ours keeps.rows.sound

  abbrev all_rows : List Row
  all_rows = db.trees roots.batches

  -- in SQL a row passes as it has the serial
  passes : (n : ℕ) (r : Row) → Has all_rows r
      → list_all (holds ((Int (pos n) ∷ []) ∷ r ∷ [])) by_serial ≡ row_has n r
  passes n r h =
      let it = of_row s roots db.trees keeps.well keeps.rows.of r h in
      serial_passes n it.kept.serial r
      (serial_cell s roots db.trees keeps.well keeps.rows.of r it)

  pub serial_at : (n : ℕ)
      → ShowsOf select_serial (Int (pos n) ∷ []) db
      (option_to_list (option_map row_of (batch_in s n)))
  serial_at n =
      let found = find (row_has n) all_rows in
      let one = passes_one first_key (row_has n) all_rows keeps.rows.of.batches.apart
      (one_serial s roots db.trees keeps.well keeps.rows.of n) in
      let means = select_serial_means db.schema roots.batches in_batches in
      let never = select_serial_never db.schema roots.batches in_batches db.trees (pos n) in
      let stage = staged db.trees roots.batches by_serial (Int (pos n) ∷ []) in_batches.low in
      shows_by select_serial (Int (pos n) ∷ []) db
      (over roots.batches by_serial columns) column_names
      _ means never
      (λ rows a. chosen db.trees roots.batches by_serial columns (Int (pos n) ∷ []) stage
      (row_has n) (passes n) found one rows a
      ∙ ap option_to_list
      (found_is s roots db.trees keeps.well keeps.rows.of (Int (pos n) ∷ []) n found refl))

-- ---- serials as a column has them

-- no batch has a serial that no column has
none_high : (s : State) (n : ℕ) → IsState s → 2 ^ 63 ≤ n → batch_in s n ≡ None
none_high s n sound high = by (batch_in s n) refl where
  by : (o : Option KeyedBatch) → batch_in s n ≡ o → o ≡ None
  by None e = refl
  by (Some b) e =
      let u = found_under s n b e in
      let low = sound.to_count b.0 b.1 u.0 in
      let most = sound.not_too_many in
      absurd (omega (arith, low, most, high, u.1))

none_zero : (s : State) → IsState s → batch_in s 0 ≡ None
none_zero s sound = by (batch_in s 0) refl where
  by : (o : Option KeyedBatch) → batch_in s 0 ≡ o → o ≡ None
  by None e = refl
  by (Some b) e =
      let u = found_under s 0 b e in
      let low = sound.from_one b.0 b.1 u.0 in
      absurd (omega (arith, low, u.1))

-- what is kept with a serial is kept with it as a column has it
pub column_is : (s : State) (n : ℕ) → IsState s → batch_in s (column_serial n) ≡ batch_in s n
column_is s n sound = by (nat_lt n (2 ^ 63)) refl where
  at_least : (n : ℕ) → nat_lt n (2 ^ 63) ≡ false → 2 ^ 63 ≤ n
  at_least n e = grind (arith, nat_tests)

  by : (b : Bool) → nat_lt n (2 ^ 63) ≡ b → batch_in s (cond b n 0) ≡ batch_in s n
  by true e = refl
  by false e = none_zero s sound ∙ sym (none_high s n sound (at_least n e))

fits : (n : ℕ) → FitsSigned w64 (pos (column_serial n))
fits n = by (nat_lt n (2 ^ 63)) refl where
  by : (b : Bool) → nat_lt n (2 ^ 63) ≡ b → FitsSigned w64 (pos (cond b n 0))
  by true e = let low : n < 2 ^ 63 = ltb-true n (2 ^ 63) e in omega (arith, ints, low)
  by false e = omega (arith, ints)

-- a number that was passed as it is in a column
pub passed : (z : ℤ) (n : ℕ) → z ≡ pos (column_serial n)
    → to_z w64 (of_z w64 z) ≡ pos (column_serial n)
passed z n e = ap (λ (y : ℤ). to_z w64 (of_z w64 y)) e ∙ to_z-of_z (fits n)

-- ---- the row of a batch

pub row_is : (o : Option KeyedBatch) (row : Row) → Some row ≡ option_map row_of o
    → (b : KeyedBatch) × (o ≡ Some b) × (row ≡ row_of b)
row_is None row e = absurd (cc)
row_is (Some b) row e = (b, refl, let same : row ≡ row_of b = cc in same)

pub no_row : (o : Option KeyedBatch) → None ≡ option_map row_of o → o ≡ None
no_row None e = refl
no_row (Some b) e = absurd (cc)

-- ---- a key is a text

small_key : (b : ℕ) → is_key_byte b ≡ true → b < 128
small_key b h = grind (arith, common_steps)

all_small : (bs : List ℕ) → list_all is_key_byte bs ≡ true → All (λ b. b < 128) bs
all_small [] h = All-nil (λ b. b < 128)
all_small (b ∷ bs) h =
    let p = and_parts (is_key_byte b) (list_all is_key_byte bs) h in
    All-cons (λ b. b < 128) b bs (small_key b p.0) (all_small bs p.1)

key_text : (key : Text) → IsTrue (is_key key) → IsUtf8 key
unfolding is_key
key_text key h = IsUtf8-from_ascii key (IsAscii-from_all key (all_small key (and_parts _ _ h).1))

-- the key of a batch that is kept with a serial
pub key_read : (s : State) (n : ℕ) (b : KeyedBatch) → IsState s → batch_in s n ≡ Some b → IsUtf8 b.0
key_read s n b sound e = key_text b.0 (sound.keyed b.0 b.1 (found_under s n b e).0)
