-- The table of the batches has a row for each key of its state.
use Rattle.std.proofs.Common.{◌≡◌, ◌≢◌, ◌+◌, List, [], ◌∷◌, length, true, false, cond, drop, find, Option, Some, None, option_map, is_some, refl, sym, ap, ◌∙◌}
use Rattle.std.proofs.Common.{arith}
use Rattle.std.specs.List.{AllByRecursion}
use Rattle.std.specs.FinMap.{FinMap, empty, get, insert, len, get-empty, get-insert, len-empty, len-insert, same_map}
use Rattle.std.specs.Cmp.Lexicographic.{nat_list_cmp_total}
use Rattle.std.proofs.lemmas.Bool.{false_from_ne_true}
use Rattle.sqlite.specs.Order.{Row}
use Rattle.sqlite_trees.specs.Tree.{IsAscending}
use Rattle.sqlite_rules.proofs.ListLemmas.{has_found}
use Rattle.streetmap_batch.specs.Text.{Text, text_cmp}
use Rattle.streetmap_ledger.specs.State.{State, AcceptedBatch}
use Rattle.streetmap_rows.specs.Holds.{HoldsByKey, first_key, is_first, same_text}
use Rattle.streetmap_rows.proofs.TextKeys.{first_is, one_text}
use Rattle.streetmap_rows.specs.Rows.{batch_cells}

module _ {V : Type 0} (f : Row → V) where
  -- the first row at each key
  gathered : List Row → FinMap text_cmp V
  gathered [] = empty
  gathered (r ∷ rows) = insert (gathered rows) (first_key r) (f r)

  gathered_has : (k : Text) (rows : List Row) → get (gathered rows) k ≡ option_map f (find (is_first k) rows)
  unfolding gathered
  gathered_has k [] = get-empty text_cmp k
  gathered_has k (r ∷ rows) =
      get-insert nat_list_cmp_total (gathered rows) (first_key r) (f r) k
      ∙ elim (same_text k (first_key r)) as (λ b. cond b (Some (f r)) (get (gathered rows) k) ≡ option_map f (cond b (Some r) (find (is_first k) rows))) [
        | true ↦ refl
        | false ↦ gathered_has k rows
      ]

  none_there : (r : Row) (rows : List Row) → AllByRecursion (λ x. first_key r ≢ first_key x) rows → find (is_first (first_key r)) rows ≡ None
  none_there r [] apart = refl
  none_there r (x ∷ rows) apart = rw (false_from_ne_true (is_first (first_key r) x) (λ same. apart.0 (sym (first_is (first_key r) x same))))
      (none_there r rows apart.1)

  gathered_len : (rows : List Row) → IsAscending (λ a b. first_key a ≢ first_key b) rows → len (gathered rows) ≡ length rows
  unfolding gathered
  gathered_len [] apart = len-empty text_cmp V
  gathered_len (r ∷ rows) apart =
      let one = len-insert nat_list_cmp_total (gathered rows) (first_key r) (f r) ∙ ap (λ (o : Option V).
      cond (is_some o) (len (gathered rows)) (len (gathered rows) + 1)) (gathered_has (first_key r) rows ∙ ap (option_map f) (none_there r rows apart.0)) in
      omega (arith, one, gathered_len rows apart.1)

abbrev or_this : AcceptedBatch → Option AcceptedBatch → AcceptedBatch
or_this k None = k
or_this k (Some x) = x

module _ (s : State) (rows : List Row) (holds : HoldsByKey first_key is_first (λ key. option_map (batch_cells key) (get s.keys key)) rows)
    (some : AcceptedBatch) where
  abbrev kept_of : Row → AcceptedBatch
  kept_of r = or_this some (get s.keys (first_key r))

  same_at : (k : Text) (o : Option Row) (x : Option AcceptedBatch) → find (is_first k) rows ≡ o → get s.keys k ≡ x → option_map (drop 1) o
      ≡ option_map (batch_cells k) x → option_map kept_of o ≡ x
  same_at k None None at is h = refl
  same_at k None (Some x) at is h = absurd (cc)
  same_at k (Some r) None at is h = absurd (cc)
  same_at k (Some r) (Some x) at is h =
      let key = first_is k r (has_found (is_first k) rows r at).1 in
      ap (λ q. Some (or_this some (get s.keys q))) key ∙ ap (λ o. Some (or_this some o)) is

  counted_by : length rows ≡ len s.keys
  counted_by =
      sym (gathered_len kept_of rows holds.apart)
      ∙ ap len (same_map nat_list_cmp_total one_text (gathered kept_of rows) s.keys (λ k. gathered_has kept_of k rows
      ∙ same_at k (find (is_first k) rows) (get s.keys k) refl refl (holds.found k)))

pub rows_counted : (s : State) (rows : List Row) → HoldsByKey first_key is_first (λ key. option_map (batch_cells key) (get s.keys key)) rows → length rows
    ≡ len s.keys
rows_counted s rows holds = counted_by s rows holds (record { text = []; counts = record { opened = 0; inserted = 0; replaced = 0; deleted = 0 }; serial = 0 })
