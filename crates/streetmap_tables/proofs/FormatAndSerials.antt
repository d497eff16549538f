-- What the format row and the serials of a state's tables show, and what a query in a transaction keeps.
use Rattle.std.proofs.Common.{◌≡◌, ◌⊎◌, ℕ, suc, List, [], ◌∷◌, map, filter, length, codes, Bool, true, false, ◌&&◌, drop, find, Option, Some, None, option_map}
use Rattle.std.proofs.Common.{pos, ℤ, if◌then◌else◌, refl, sym, ap, ◌∙◌, nat_le, ◌^◌}
use Rattle.std.specs.List.{list_all}
use Rattle.std.specs.Option.{option_to_list}
use Rattle.std.specs.Cmp.{eq_by_cmp_equiv}
use Rattle.std.specs.Cmp.Lexicographic.{nat_list_cmp_total}
use Rattle.std.proofs.lemmas.List.Sorted.{length_permutation}
use Rattle.sqlite.specs.declared.types.Value.TheVariants.{Null, Int, Text as Words}
use Rattle.sqlite.specs.declared.error.Error.{Error}
use Rattle.sqlite.specs.Order.{Row, column, bytes}
use Rattle.sqlite.specs.Term.{Term, col, lit, holds}
use Rattle.sqlite_sql.specs.Term.{eval_all}
use Rattle.sqlite.specs.Query.{IsAnswerAs, Output, output}
use Rattle.sqlite.specs.Program.{overlay}
use Rattle.sqlite.specs.Command.TheVariants.{Select}
use Rattle.sqlite.specs.State.{State as Seen, IsUnchanged, IsRolledBack, KeepsCommit, Shown, FailsToQuery, IsTooLate}
use Rattle.sqlite_trees.specs.Tree.{Trees}
use Rattle.sqlite_rules.specs.Lists.{Has}
use Rattle.streetmap_batch.specs.Text.{Text}
use Rattle.streetmap_ledger.specs.State.{State}
use Rattle.std.specs.FinMap.{len}
use Rattle.streetmap_rows.specs.Failures.{IsOfStore}
use Rattle.streetmap_rows.specs.Holds.{HoldsByKey, first_key, is_first, same_text}
use Rattle.streetmap_rows.specs.Queries.{over, program}
use Rattle.streetmap_rows.proofs.OneRowChosen.{chosen, staged, picked}
use Rattle.streetmap_rows.proofs.NamedTables.{IsFound}
use Rattle.streetmap_rows.proofs.HeldKeys.{cells_of, filter_one}
use Rattle.streetmap_rows.proofs.TextKeys.{first_is, first_self, column_later, equal_texts, text_is}
use Rattle.streetmap_rows.proofs.Resolving.{Means}
use Rattle.streetmap_rows.specs.Rows.{AreOf}
use Rattle.streetmap_rows.specs.Statements.{select_format}
use Rattle.streetmap_rows.specs.Tables.{Roots, meta, meta_name, batches, batches_name}
use Rattle.streetmap_rows.specs.KeptStates.{Keeps}
use Rattle.streetmap_rows.proofs.Drafts.{equal_terms}
use Rattle.streetmap_rows.proofs.Compiles.{select_format_means, select_format_never}
use Rattle.streetmap_rows.proofs.KeyReads.{answered, fails_inside}
use Rattle.streetmap_rows.proofs.TablesInSchema as placing
use Rattle.streetmap_tables.specs.Adoption.{serials_text, IsAsItWas}
use Rattle.streetmap_tables.proofs.BatchesCounted.{rows_counted}
use Rattle.streetmap_tables.proofs.Serials.{select_serials_means, select_serials_never}

abbrev name : Text
name = codes "format"

abbrev tests : List Term
tests = equal_terms (col 1 1) (lit (Words name)) ∷ []

-- the row of a format, and no other
abbrev pub cells_for : ℤ → Text → Option Row
cells_for n key = if same_text key name then Some (Words name ∷ Int n ∷ []) else None

cell_one : (n : ℤ) (key : Text) (r : Row) (b : Bool) → same_text key name ≡ b → cells_for n key ≡ Some (drop 1 r) → column r 1 ≡ Words key
cell_one n key r true same h = let cells : Words name ∷ Int n ∷ [] ≡ drop 1 r = (let e : Some (Words name ∷ Int n ∷ []) ≡ Some (drop 1 r) = sym (rw same refl)
    ∙ h in cc) in column_later r 0 ∙ ap (λ x. column x 0) (sym cells) ∙ ap Words (sym (text_is key name same))
cell_one n key r false same h = absurd (let e : None ≡ Some (drop 1 r) = sym (rw same refl) ∙ h in cc)

-- the one row that is found shows the format
shows : (n : ℤ) (o : Option Row) → option_map (drop 1) o ≡ cells_for n name → option_to_list (option_map (λ r. eval_all (col 1 2 ∷ []) ([] ∷ r ∷ [])) o)
    ≡ (Int n ∷ []) ∷ []
shows n None h = absurd (cc)
shows n (Some r) h = let cells : drop 1 r ≡ Words name ∷ Int n ∷ [] = cc in ap (λ v. (v ∷ []) ∷ []) (column_later r 1 ∙ ap (λ x. column x 1) cells)

pub filter_all : (p : Row → Bool) (rows : List Row) → ((r : Row) → p r ≡ true) → filter p rows ≡ rows
filter_all p [] all = refl
filter_all p (r ∷ rows) all = rw (all r) (ap (λ l. r ∷ l) (filter_all p rows all))

pub map_length : {A B : Type 0} (f : A → B) (xs : List A) → length (map f xs) ≡ length xs
map_length f [] = refl
map_length f (x ∷ xs) = ap suc (map_length f xs)

-- all rows of a table are shown
all_shown : (db : Trees) (tree : ℕ) (project : List Term) (rows : List Row) → nat_le (2 ^ 31) tree ≡ false →
    IsAnswerAs Null (over tree [] project) (overlay db []) [] rows → length rows ≡ length (db tree)
all_shown db tree project rows low a =
    let stage = a.grouped ∙ staged db tree [] [] low ∙ picked (λ r. list_all (holds ([] ∷ r ∷ [])) []) (λ r. [] ∷ r ∷ []) (db tree)
    ∙ ap (map (λ r. [] ∷ r ∷ [])) (filter_all (λ r. list_all (holds ([] ∷ r ∷ [])) []) (db tree) (λ r. refl)) in
    let kept = a.distinct ∙ ap (map (output (over tree [] project))) stage in
    let one = ap length a.shown ∙ map_length (λ (o : Output). o.1) a.ordered in
    let two = length_permutation _ a.ordered a.same in
    let three = ap length kept ∙ map_length (output (over tree [] project)) (map (λ r. [] ∷ r ∷ []) (db tree)) ∙ map_length (λ r. [] ∷ r ∷ []) (db tree) in
    one ∙ two ∙ three

-- ---- a table of the format, whatever format it has

module _ (old new : Seen) (tree : ℕ) (in_meta : IsFound old.now.schema meta_name (meta tree)) where
  format_means : Means old.now.schema select_format 0 (Select (program (over tree tests (col 1 2 ∷ []))) (codes "value" ∷ []))
  format_means = select_format_means old.now.schema tree in_meta

  module _ (n : ℤ) (has : HoldsByKey first_key is_first (cells_for n) (old.now.trees tree)) where
    named_is : (r : Row) → Has (old.now.trees tree) r → list_all (holds ([] ∷ r ∷ [])) tests ≡ is_first name r
    named_is r h =
        let one = cell_one n (first_key r) r (same_text (first_key r) name) refl (cells_of first_key is_first first_is first_self _ (old.now.trees tree) has r
        h) in
        rw (one, equal_texts (bytes (column r 1)) name) (last (same_text (bytes (column r 1)) name)
        ∙ (eq_by_cmp_equiv nat_list_cmp_total).symm (bytes (column r 1)) name)
      where
        last : (a : Bool) → (a && true) ≡ a
        last true = refl
        last false = refl

    pub format_seen : (rows : List Row) → Shown select_format [] old new rows → (rows ≡ (Int n ∷ []) ∷ []) × IsUnchanged old new
    format_seen rows h =
        let read = answered select_format [] old new _ _ format_means rows h in
        let found = find (is_first name) (old.now.trees tree) in (
          chosen old.now.trees tree tests (col 1 2 ∷ []) [] (staged old.now.trees tree tests [] in_meta.low) (is_first name) named_is found
              (filter_one first_key is_first first_is first_self _ (old.now.trees tree) has name) rows (read.0.answer Null)
              ∙ shows n found (has.found name),
          read.1,
        )

  pub format_unrefused : old.step_limit ≡ None → (e : Error) → FailsToQuery select_format [] old new e ⊎ IsTooLate select_format [] old new e → IsOfStore e
  format_unrefused limit e h = (fails_inside select_format [] old new _ _ format_means limit (select_format_never old.now.schema tree in_meta old.now.trees) e
      h).0

-- ---- a table of the batches

module _ (old new : Seen) (tree : ℕ) (in_batches : IsFound old.now.schema batches_name (batches tree)) where
  serials_means : Means old.now.schema serials_text 0 (Select (program (over tree [] (col 1 7 ∷ []))) (codes "serial" ∷ []))
  serials_means = select_serials_means old.now.schema tree in_batches

  pub serials_unrefused : old.step_limit ≡ None → (e : Error) → FailsToQuery serials_text [] old new e ⊎ IsTooLate serials_text [] old new e → IsOfStore e
  serials_unrefused limit e h = (fails_inside serials_text [] old new _ _ serials_means limit
      (select_serials_never old.now.schema tree in_batches old.now.trees) e h).0

-- ---- the tables of a state

module _ (old new : Seen) (s : State) (keeps : Keeps s old.now) where
  abbrev db : Trees
  db = old.now.trees

  abbrev roots : Roots
  roots = keeps.rows.roots

  abbrev of : AreOf s roots db
  of = keeps.rows.of

  in_meta : IsFound old.now.schema meta_name (meta roots.meta)
  in_meta = placing.meta_found roots old.now keeps.rows.ours keeps.rows.sound

  in_batches : IsFound old.now.schema batches_name (batches roots.batches)
  in_batches = placing.batches_found roots old.now keeps.rows.ours keeps.rows.sound

  pub format_shown : (rows : List Row) → Shown select_format [] old new rows → (rows ≡ (Int (pos 2) ∷ []) ∷ []) × IsUnchanged old new
  format_shown = format_seen old new roots.meta in_meta (pos 2) of.format

  pub serials_shown : (rows : List Row) → Shown serials_text [] old new rows → length rows ≡ len s.keys
  serials_shown rows h =
      let read = answered serials_text [] old new _ _ (serials_means old new roots.batches in_batches) rows h in
      all_shown db roots.batches (col 1 7 ∷ []) rows in_batches.low (read.0.answer Null) ∙ rows_counted s (db roots.batches) of.batches

  module _ (limit : old.step_limit ≡ None) where
    pub format_reported : (e : Error) → FailsToQuery select_format [] old new e ⊎ IsTooLate select_format [] old new e → IsOfStore e
    format_reported = format_unrefused old new roots.meta in_meta limit

    pub serials_reported : (e : Error) → FailsToQuery serials_text [] old new e ⊎ IsTooLate serials_text [] old new e → IsOfStore e
    serials_reported = serials_unrefused old new roots.batches in_batches limit

-- a transaction that is undone leaves what was there when it began
pub back : (start begun last end : Seen) → begun.committed ≡ start.committed → KeepsCommit begun last → IsRolledBack last end → IsAsItWas start end
back start begun last end same kept rolled settled live =
    let was = kept.committed (rolled.was_open live) ∙ same in
    ((rolled.undone live).0 ∙ was ∙ sym settled, (rolled.undone live).1 ∙ was)
