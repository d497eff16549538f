-- What a query over one table shows of its rows, if it names no order.
use Rattle.std.proofs.Common.{nat_le, ◌^◌, ◌≡◌, ℕ, List, [], ◌∷◌, map, filter, false}
use Rattle.std.proofs.Common.{Option, Some, refl, sym, ap, ap₂, subst, ◌∙◌, inl, inr}
use Rattle.std.specs.List.{IsDistinct, swap}
use Rattle.std.specs.List.Sorted.{IsPermutation, SwapsInRange, apply_swaps}
use Rattle.std.proofs.Math.ListN.{get_or, set, get_or-map}
use Rattle.std.proofs.lemmas.List.{map-set, length-map}
use Rattle.std.proofs.lemmas.List.Sorted.{IsPermutation-map, IsPermutation-sym}
use Rattle.std.proofs.lemmas.Map.Keys.{IsDistinct-IsPermutation}
use Rattle.sqlite.specs.declared.types.Value.TheVariants.{Null}
use Rattle.sqlite.specs.Order.{Row}
use Rattle.sqlite.specs.Term.{Term}
use Rattle.sqlite.specs.Query.{IsAnswerAs, Output, output}
use Rattle.sqlite.specs.Program.{overlay}
use Rattle.sqlite_trees.specs.Tree.{Trees}
use Rattle.sqlite_rules.specs.Lists.{Has}
use Rattle.streetmap_batch.specs.Text.{Text}
use Rattle.streetmap_rows.specs.Holds.{same_text}
use Rattle.streetmap_rows.specs.Queries.{over}
use Rattle.streetmap_rows.proofs.OneRowChosen.{picked, staged}
use Rattle.streetmap_rows.proofs.OrderedRows.{AreRowsOf, Says, keeps, shows, text_in, text_flips}
use Rattle.streetmap_rows.proofs.OrderedRows.{apart_texts, has_mapped, moved}

-- ---- lists in another order

swap_map : {A B : Type 0} (f : A → B) (xs : List A) (i j : ℕ)
    → swap (map f xs) i j ≡ map f (swap xs i j)
swap_map f [] i j = refl
swap_map f (d ∷ ys) i j =
    let l = d ∷ ys in
    (λ k. set (set (map f l) i (get_or-map f l j d k)) j (get_or-map f l i d k))
    ∙ ap (λ x. set x j (f (get_or l i d))) (sym (map-set f l i (get_or l j d)))
    ∙ sym (map-set f (set l i (get_or l j d)) j (get_or l i d))

swaps_map : {A B : Type 0} (f : A → B) (xs : List A) (moves : List (ℕ × ℕ))
    → apply_swaps (map f xs) moves ≡ map f (apply_swaps xs moves)
swaps_map f xs [] = refl
swaps_map f xs (m ∷ moves) =
    ap (λ l. swap l m.0 m.1) (swaps_map f xs moves) ∙ swap_map f (apply_swaps xs moves) m.0 m.1

-- what is shown of a list, in another order, is what is shown of the list in another order
record InOrder {A B : Type 0} (f : A → B) (xs : List A) (ys : List B) : Type 0 where
  pub turned : List A
  pub same : IsPermutation xs turned
  pub is : ys ≡ map f turned

in_order_of : {A B : Type 0} (f : A → B) (xs : List A) (ys : List B)
    → IsPermutation (map f xs) ys → InOrder f xs ys
in_order_of f xs ys h = record {
  turned = apply_swaps xs h.moves;
  same = record {
    moves = h.moves;
    below = subst (λ n. SwapsInRange n h.moves) (length-map xs f) h.below;
    is = refl;
  };
  is = h.is ∙ swaps_map f xs h.moves;
}

-- ---- what is shown

-- the entries whose values these are, each once, in any order
pub record AreEachOnce {V : Type 0} (value_of : Text → Option V) (view : Text → V → Row)
    (shown : List Row) : Type 0 where
  pub es : List (Text × V)
  pub is : shown ≡ map (λ e. view e.0 e.1) es
  pub apart : IsDistinct same_text (map (λ e. e.0) es)
  pub each : (e : Text × V) → Has es e → value_of e.0 ≡ Some e.1
  pub all : (q : Text) (v : V) → value_of q ≡ Some v → Has (map (λ e. e.0) es) q

module _ {V : Type 0} (value_of : Text → Option V) (view : Text → V → Row) (at : ℕ)
    (show : Row → Row) where
  -- the entries of rows
  record IsReported (rows : List Row) : Type 0 where
    pub es : List (Text × V)
    pub names : map (λ e. e.0) es ≡ map (text_in at) rows
    pub is : map show rows ≡ map (λ e. view e.0 e.1) es
    pub each : (e : Text × V) → Has es e → value_of e.0 ≡ Some e.1

  reported : (rows : List Row) → ((r : Row) → Has rows r → Says value_of view at show r) → IsReported rows
  reported [] says = record { es = []; names = refl; is = refl; each = λ e h. absurd h }
  reported (r ∷ rows) says =
      let it = says r (inl refl) in
      let more = reported rows (λ x h. says x (inr h)) in
      record {
        es = (text_in at r, it.value) ∷ more.es;
        names = ap (λ l. text_in at r ∷ l) more.names;
        is = ap₂ (λ x l. x ∷ l) it.shown more.is;
        each = λ e h. is_said r it more e h;
      }
    where
      is_said : (r : Row) (it : Says value_of view at show r) (more : IsReported rows) (e : Text × V)
          → Has ((text_in at r, it.value) ∷ more.es) e → value_of e.0 ≡ Some e.1
      is_said r it more e (inl same) =
          subst (λ (x : Text × V). value_of x.0 ≡ Some x.1) (sym same) it.is
      is_said r it more e (inr later) = more.each e later

module _ (tree : ℕ) (tests project : List Term) (at : ℕ) (params : Row) {V : Type 0}
    (value_of : Text → Option V) (view : Text → V → Row) (db : Trees)
    (low : nat_le (2 ^ 31) tree ≡ false) where
  abbrev rows : List Row
  rows = filter (keeps tests params) (db tree)

  abbrev show : Row → Row
  show = shows tree tests project at params

  abbrev output_of : Row → Output
  output_of r = ([], show r)

  mapped : (rs : List Row)
      → map (output (over tree tests project)) (map (λ r. params ∷ r ∷ []) rs) ≡ map output_of rs
  mapped [] = refl
  mapped (r ∷ rs) = ap (λ l. output_of r ∷ l) (mapped rs)

  shown_again : (rs : List Row) → map (λ (o : Output). o.1) (map output_of rs) ≡ map show rs
  shown_again [] = refl
  shown_again (r ∷ rs) = ap (λ l. show r ∷ l) (shown_again rs)

  module _ (of : AreRowsOf value_of view at show rows) (shown : List Row)
      (answer : IsAnswerAs Null (over tree tests project) (overlay db []) params shown) where
    turned : InOrder output_of rows answer.ordered
    turned =
        let found = answer.grouped ∙ staged db tree tests params low
        ∙ picked (keeps tests params) (λ r. params ∷ r ∷ []) (db tree) in
        in_order_of output_of rows answer.ordered
        (subst (λ k. IsPermutation k answer.ordered)
        (answer.distinct ∙ ap (map (output (over tree tests project))) found ∙ mapped rows)
        answer.same)

    back : (r : Row) → Has turned.turned r → Has rows r
    back r h = moved turned.turned rows r (IsPermutation-sym _ _ turned.same) h

    of_each : IsReported value_of view at show turned.turned
    of_each = reported value_of view at show turned.turned (λ r h. of.each r (back r h))

    -- the query shows each row of the table that passes once
    pub shows_each : AreEachOnce value_of view shown
    shows_each = record {
      es = of_each.es;
      is = answer.shown ∙ ap (map (λ (o : Output). o.1)) turned.is ∙ shown_again turned.turned
          ∙ of_each.is;
      apart = subst (IsDistinct same_text) (sym of_each.names)
          (IsDistinct-IsPermutation same_text text_flips _ _
          (IsPermutation-map (text_in at) rows turned.turned turned.same)
          (apart_texts at rows of.apart));
      each = of_each.each;
      all = λ q v is.
          let r = of.all q v is in
          subst (λ l. Has l q) (sym of_each.names)
          (subst (Has (map (text_in at) turned.turned)) r.2
          (has_mapped (text_in at) turned.turned r.0
          (moved rows turned.turned r.0 turned.same r.1)));
    }
