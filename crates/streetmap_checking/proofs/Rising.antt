-- Rows of entries in byte order of their keys, one after the other.
use Rattle.std.proofs.Common.{◌≡◌, T, Bool, true, false, Ordering, ◌&&◌, List, [], ◌∷◌, ◌++◌, map, Option, Some, Less, Equal, Greater, refl, sym, ap, subst}
use Rattle.std.proofs.Common.{◌∙◌, append_assoc}
use Rattle.std.specs.List.{AllByRecursion}
use Rattle.std.specs.Ordering.{is_lt}
use Rattle.std.specs.FinMap.{is_sorted}
use Rattle.std.specs.FinMap.Entries.{below_all}
use Rattle.std.specs.Cmp.Lexicographic.{nat_list_cmp_total}
use Rattle.sqlite.specs.Order.{Row}
use Rattle.streetmap_batch.specs.Text.{Text, text_cmp}
use Rattle.streetmap_reading.proofs.BetweenRows.{map_append}
use Rattle.streetmap_checking.specs.Good.{AreEntryRows}
use Rattle.streetmap_checking.specs.Held.{last_key, ComesAfterLast}
use Rattle.streetmap_ledger.proofs.TextMaps.{first, second}

both : (a b : Bool) → T a → T b → T (a && b)
both true b p q = q
both false b p q = absurd p

less_is : (o : Ordering) → T (is_lt o) → o ≡ Less
less_is o h = elim o as (λ x. T (is_lt x) → x ≡ Less) [ Less ↦ λ t. refl | Equal ↦ λ t. absurd t | Greater ↦ λ t. absurd t ] h

is_less : (o : Ordering) → o ≡ Less → T (is_lt o)
is_less o e = subst (λ r. T (is_lt r)) (sym e) tt

pub all_end : {A : Type 0} (P : A → Type 0) (xs : List A) (x : A) → AllByRecursion P xs → P x → AllByRecursion P (xs ++ x ∷ [])
all_end P [] x all h = (h, tt)
all_end P (y ∷ xs) x all h = (all.0, all_end P xs x all.1 h)

pub all_at : {A : Type 0} (P : A → Type 0) (xs : List A) (x : A) (ys : List A) → AllByRecursion P (xs ++ x ∷ ys) → P x
all_at P [] x ys all = all.0
all_at P (y ∷ xs) x ys all = all_at P xs x ys all.1

module _ {V : Type 0} where
  less_below : (a b : Text) (es : List (Text × V)) → text_cmp a b ≡ Less → T (below_all text_cmp b es) → T (below_all text_cmp a es)
  less_below a b [] less h = tt
  less_below a b (e ∷ es) less h =
      both (is_lt (text_cmp a e.0)) (below_all text_cmp a es) (is_less _ (nat_list_cmp_total.trans a b e.0 less
      (less_is _ (first (is_lt (text_cmp b e.0)) (below_all text_cmp b es) h))))
      (less_below a b es less (second (is_lt (text_cmp b e.0)) (below_all text_cmp b es) h))

  -- a key after the last is put at the end
  pub rising_end : (es : List (Text × V)) (e : Text × V) → T (is_sorted text_cmp es) → ComesAfterLast (last_key es) e.0 → T (is_sorted text_cmp (es ++ e ∷ []))
  rising_end [] e up less = tt
  rising_end (d ∷ []) e up less = both (below_all text_cmp d.0 (e ∷ [])) true (both (is_lt (text_cmp d.0 e.0)) true (is_less _ less) tt) tt
  rising_end (d ∷ f ∷ es) e up less =
      let later : T (is_sorted text_cmp (f ∷ es ++ e ∷ [])) = rising_end (f ∷ es) e (second (below_all text_cmp d.0 (f ∷ es)) (is_sorted text_cmp (f ∷ es)) up)
      less in
      let low : T (is_lt (text_cmp d.0 f.0)) = first _ _ (first (below_all text_cmp d.0 (f ∷ es)) (is_sorted text_cmp (f ∷ es)) up) in
      both (below_all text_cmp d.0 (f ∷ es ++ e ∷ [])) (is_sorted text_cmp (f ∷ es ++ e ∷ []))
      (both (is_lt (text_cmp d.0 f.0)) (below_all text_cmp d.0 (es ++ e ∷ [])) low (less_below d.0 f.0 (es ++ e ∷ []) (less_is _ low)
      (first (below_all text_cmp f.0 (es ++ e ∷ [])) (is_sorted text_cmp (es ++ e ∷ [])) later))) later

  -- a key comes after the last before it
  pub rising_at : (es : List (Text × V)) (e : Text × V) (fs : List (Text × V)) → T (is_sorted text_cmp (es ++ e ∷ fs)) → ComesAfterLast (last_key es) e.0
  rising_at [] e fs up = tt
  rising_at (d ∷ []) e fs up = less_is _ (first (is_lt (text_cmp d.0 e.0)) (below_all text_cmp d.0 fs)
      (first (below_all text_cmp d.0 (e ∷ fs)) (is_sorted text_cmp (e ∷ fs)) up))
  rising_at (d ∷ f ∷ es) e fs up = rising_at (f ∷ es) e fs (second (below_all text_cmp d.0 (f ∷ es ++ e ∷ fs)) (is_sorted text_cmp (f ∷ es ++ e ∷ fs)) up)

  pub last_end : (es : List (Text × V)) (e : Text × V) → last_key (es ++ e ∷ []) ≡ Some e.0
  last_end [] e = refl
  last_end (d ∷ []) e = refl
  last_end (d ∷ f ∷ es) e = last_end (f ∷ es) e

-- what is at a place of a list of rows
pub record IsAtRow {A : Type 0} (f : A → Row) (rows : List Row) (row : Row) (later : List Row) (xs : List A) : Type 0 where
  pub before : List A
  pub at : A
  pub following : List A
  pub is : xs ≡ before ++ at ∷ following
  pub front : rows ≡ map f before
  pub same : row ≡ f at

pub is_at_row : {A : Type 0} (f : A → Row) (rows : List Row) (row : Row) (later : List Row) (xs : List A) → rows ++ row ∷ later ≡ map f xs →
    IsAtRow f rows row later xs
is_at_row f [] row later [] e = absurd cc
is_at_row f [] row later (x ∷ xs) e = record { before = []; at = x; following = xs; is = refl; front = refl; same = let s : row ≡ f x = cc in s }
is_at_row f (r ∷ rows) row later [] e = absurd cc
is_at_row f (r ∷ rows) row later (x ∷ xs) e =
    let tail : rows ++ row ∷ later ≡ map f xs = cc in
    let it = is_at_row f rows row later xs tail in
    record {
      before = x ∷ it.before;
      at = it.at;
      following = it.following;
      is = ap (λ l. x ∷ l) it.is;
      front =
          (let first : r ≡ f x = cc in λ i. first i ∷ it.front i);
      same = it.same;
    }

module _ {V : Type 0} (cells : Text → V → Row) (Fine : Text → V → Type 0) where
  pub no_rows : AreEntryRows cells Fine []
  no_rows = record { entries = []; are = refl; rising = tt; fine = tt }

  -- one more row
  unfoldable pub grows : (rows : List Row) (row : Row) (are : AreEntryRows cells Fine rows) (key : Text) (value : V) → row ≡ cells key value → Fine key value →
      ComesAfterLast (last_key are.entries) key → AreEntryRows cells Fine (rows ++ row ∷ [])
  grows rows row are key value is fine less = record {
    entries = are.entries ++ (key, value) ∷ [];
    are = (λ i. are.are i ++ is i ∷ []) ∙ sym (map_append (λ (e : Text × V). cells e.0 e.1) are.entries ((key, value) ∷ []));
    rising = rising_end are.entries (key, value) are.rising less;
    fine = all_end (λ (e : Text × V). Fine e.0 e.1) are.entries (key, value) are.fine fine;
  }

  module _ (one : (p q : Text) (v w : V) → cells p v ≡ cells q w → p ≡ q) where
    same_last : (es fs : List (Text × V)) → map (λ e. cells e.0 e.1) es ≡ map (λ e. cells e.0 e.1) fs → last_key es ≡ last_key fs
    same_last [] [] e = refl
    same_last [] (f ∷ fs) e = absurd cc
    same_last (d ∷ es) [] e = absurd cc
    same_last (d ∷ []) (f ∷ []) e = let same : cells d.0 d.1 ≡ cells f.0 f.1 = cc in ap Some (one d.0 f.0 d.1 f.1 same)
    same_last (d ∷ []) (f ∷ g ∷ fs) e = absurd cc
    same_last (d ∷ c ∷ es) (f ∷ []) e = absurd cc
    same_last (d ∷ c ∷ es) (f ∷ g ∷ fs) e = same_last (c ∷ es) (g ∷ fs) (let tail : cells c.0 c.1 ∷ map (λ e. cells e.0 e.1) es ≡ cells g.0 g.1
        ∷ map (λ e. cells e.0 e.1) fs = cc in tail)

    -- the row that comes next after rows
    pub record IsNext (last : Option Text) (row : Row) : Type 0 where
      pub key : Text
      pub value : V
      pub is : row ≡ cells key value
      pub fine : Fine key value
      pub less : ComesAfterLast last key

    pub next_of : (rows : List Row) (row : Row) (later : List Row) (are : AreEntryRows cells Fine rows) → AreEntryRows cells Fine ((rows ++ row ∷ []) ++ later)
        → IsNext (last_key are.entries) row
    next_of rows row later are more =
        let it = is_at_row (λ (e : Text × V). cells e.0 e.1) rows row later more.entries (sym (append_assoc rows (row ∷ []) later) ∙ more.are) in
        let last = same_last it.before are.entries (sym it.front ∙ are.are) in
        record {
          key = it.at.0;
          value = it.at.1;
          is = it.same;
          fine = all_at (λ (e : Text × V). Fine e.0 e.1) it.before it.at it.following (subst (AllByRecursion (λ (e : Text × V). Fine e.0 e.1)) it.is more.fine);
          less = subst (λ l. ComesAfterLast l it.at.0) last (rising_at it.before it.at it.following (subst (λ l. T (is_sorted text_cmp l)) it.is more.rising));
        }
