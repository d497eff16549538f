-- Batches that were taken off the rows of a query.
use Rattle.std.proofs.Common.{◌≡◌, ℕ, zero, suc, ◌+◌, ◌-◌, ◌<◌, ◌≤◌, ◌^◌, min, List, [], ◌∷◌, ◌++◌}
use Rattle.std.proofs.Common.{length, take, map}
use Rattle.std.proofs.Common.{None, Some, refl, sym, ap, subst, ◌∙◌, arith, append-nil}
use Rattle.std.proofs.Common.{append_assoc, length-append, false}
use Rattle.sqlite.specs.Given.{HasGiven}
use Rattle.sqlite.specs.Held.{Held, state}
use Rattle.sqlite.specs.Order.{Row}
use Rattle.sqlite.specs.State.{HasCleanDisk, IsUnchanged, Survives}
use Rattle.sqlite.specs.Store.{Ghosts}
use Rattle.sqlite.proofs.Callers.{unchanged_then}
use Rattle.streetmap_reading.specs.Candidates.{ShowsOf}
use Rattle.streetmap_reading.proofs.BetweenRows.{map_append, given_open, survives_still}
use Rattle.streetmap_ledger.specs.Kept.{KeyedBatch, text_bytes}
use Rattle.streetmap_ledger.specs.KeptView.{keyed_batch, keyed_batches}
use Rattle.streetmap_ledger.specs.declared.kept_batch.KeptBatch.{KeptBatch}
use Rattle.streetmap_reading.specs.Scans.{HaveKeys, AreFirst, TookBatch}
use Rattle.streetmap_reading.specs.Serials.{row_of}

pub mapped_first : (rest : List KeyedBatch) (r : Row) (later : List Row) → map row_of rest
    ≡ r ∷ later
    → (b : KeyedBatch) × (bs : List KeyedBatch) × (rest ≡ b ∷ bs) × (r ≡ row_of b)
mapped_first [] r later e = absurd (cc)
mapped_first (b ∷ bs) r later e = (b, bs, refl, let same : row_of b ≡ r = cc in sym same)

keyed_append : (xs ys : List KeptBatch)
    → keyed_batches (xs ++ ys) ≡ keyed_batches xs ++ keyed_batches ys
keyed_append xs ys = map_append keyed_batch xs ys

bytes_append : (xs : List KeyedBatch) (x : KeyedBatch)
    → text_bytes (xs ++ x ∷ []) ≡ text_bytes xs + length x.1.text
bytes_append [] x = omega arith
bytes_append (y ∷ xs) x = let rest = bytes_append xs x in omega (arith, rest)

bytes_take : (n : ℕ) (xs : List KeyedBatch) → text_bytes (take n xs) ≤ text_bytes xs
bytes_take zero xs = omega arith
bytes_take (suc n) [] = omega arith
bytes_take (suc n) (x ∷ xs) = let rest = bytes_take n xs in omega (arith, rest)

front_is : {A : Type 0} (xs : List A) (x : A) → take (length (xs ++ x ∷ []) - 1) (xs ++ x ∷ []) ≡ xs
front_is xs x =
    let long = length-append xs (x ∷ []) in
    let many : length (xs ++ x ∷ []) - 1 ≡ length xs = omega (arith, long) in
    ap (λ n. take n (xs ++ x ∷ [])) many ∙ front xs x
  where
    front : {A : Type 0} (xs : List A) (x : A) → take (length xs) (xs ++ x ∷ []) ≡ xs
    front [] x = refl
    front (y ∷ xs) x = ap (λ l. y ∷ l) (front xs x)

module _ {S : Type 0} (g : Ghosts S) where
  -- some of the batches were taken
  pub record Took (old now : Held S) (found : List KeyedBatch) (sql : List ℕ) (params : Row)
      (all : List KeyedBatch) : Type 0 where
    pub rest : List KeyedBatch
    pub are : found ++ rest ≡ all
    pub given : HasGiven g sql params now (map row_of found)
    pub keys : HaveKeys rest
    pub same : IsUnchanged (state g old) (state g now)

  abbrev pub TookOf : Held S → Held S → List KeyedBatch → Type 0
  TookOf old now found =
      HasCleanDisk (state g now) → (sql : List ℕ) (params : Row) (all : List KeyedBatch)
      → (state g old).step_limit ≡ None → ShowsOf sql params (state g old).now (map row_of all)
      → HaveKeys all → HasGiven g sql params old [] → Took old now found sql params all

  pub record SoFar (room : ℕ) (old now : Held S) (found : List KeyedBatch)
      (bytes : ℕ) : Type 0 where
    pub mode : old.in_transaction ≡ false → now.in_transaction ≡ false
    pub survives : Survives (state g old) (state g now) (λ _. ⊥)
    pub counted : text_bytes found ≡ bytes
    pub left : bytes ≤ room
    pub took : TookOf old now found

  pub begins : (room : ℕ) (old : Held S) (items : List KeptBatch) → items ≡ []
      → SoFar room old old (keyed_batches items) 0
  begins room old items empty =
      subst (λ l. SoFar room old old (keyed_batches l) 0) (sym empty) (record {
        mode = λ h. h;
        survives = survives_still (state g old) (λ _. ⊥);
        counted = refl;
        left = omega arith;
        took = λ clean sql params all limit shows keys given. record {
          rest = all;
          are = refl;
          given = given;
          keys = keys;
          same = given_open g sql params old [] given;
        };
      })

  -- what a query shows of what is left
  pub shows_rest : (old now : Held S) (found : List KeyedBatch) (sql : List ℕ) (params : Row)
      (all : List KeyedBatch) → (t : Took old now found sql params all)
      → ShowsOf sql params (state g old).now (map row_of all)
      → ShowsOf sql params (state g now).now (map row_of found ++ map row_of t.rest)
  shows_rest old now found sql params all t shows =
      let rows : map row_of all ≡ map row_of found ++ map row_of t.rest =
      ap (map row_of) (sym t.are) ∙ map_append row_of found t.rest in
      subst (λ rs. ShowsOf sql params (state g now).now rs) rows
      (subst (λ d. ShowsOf sql params d (map row_of all)) (sym t.same.0.now_is) shows)

  -- one more
  pub took_more : (old now new : Held S) (items next : List KeptBatch) (batch : KeptBatch)
      (sql : List ℕ) (params : Row) (all : List KeyedBatch) → next ≡ items ++ batch ∷ []
      → (t : Took old now (keyed_batches items) sql params all)
      → TookBatch g sql params (keyed_batches items) t.rest new (Some batch)
      → IsUnchanged (state g now) (state g new)
      → Took old new (keyed_batches next) sql params all
  took_more old now new items next batch sql params all pushed t m same =
      let found = keyed_batches items in
      let b = keyed_batch batch in
      let more : keyed_batches next ≡ found ++ b ∷ [] =
      ap keyed_batches pushed ∙ keyed_append items (batch ∷ []) in
      let keys = (subst HaveKeys m.1 t.keys).1 in
      record {
        rest = m.0;
        are = ap (λ l. l ++ m.0) more ∙ (append_assoc found (b ∷ []) m.0
            ∙ (ap (λ l. found ++ l) (sym m.1) ∙ t.are));
        given = subst (HasGiven g sql params new)
            (sym (ap (map row_of) more ∙ map_append row_of found (b ∷ []))) m.2;
        keys = keys;
        same = unchanged_then (state g old) (state g now) (state g new) t.same same;
      }

-- ---- where it ends

-- how many bytes with one more text, up to the largest number
pub bytes_more : (items next : List KeptBatch) (batch : KeptBatch) (bytes total room len : ℕ)
    → next ≡ items ++ batch ∷ [] → text_bytes (keyed_batches items) ≡ bytes
    → len ≡ length batch.text.items → total ≡ min (bytes + len) (2 ^ 64 - 1)
    → total < room → room < 2 ^ 64 → text_bytes (keyed_batches next) ≡ total
bytes_more items next batch bytes total room len pushed counted is sum small big =
    let more = ap text_bytes (ap keyed_batches pushed ∙ keyed_append items (batch ∷ [])) in
    let last = bytes_append (keyed_batches items) (keyed_batch batch) in
    omega (arith, more, last, counted, is, sum, small, big)

pub all_taken : (room : ℕ) (all found rest : List KeyedBatch) (bytes : ℕ) → found ++ rest ≡ all
    → rest ≡ [] → text_bytes found ≡ bytes → bytes ≤ room → AreFirst room all found
all_taken room all found rest bytes are none counted left =
    let whole : found ≡ all = sym (append-nil found) ∙ (ap (λ l. found ++ l) (sym none) ∙ are) in
    let fewer = bytes_take (length found - 1) found in
    record {
      rest = rest;
      are = are;
      some = λ empty. sym whole ∙ empty;
      few = omega (arith, fewer, counted, left);
    }

pub some_taken : (room : ℕ) (all rest : List KeyedBatch) (items next : List KeptBatch)
    (batch : KeptBatch) (bytes : ℕ) → next ≡ items ++ batch ∷ []
    → keyed_batches next ++ rest ≡ all → text_bytes (keyed_batches items) ≡ bytes → bytes ≤ room
    → AreFirst room all (keyed_batches next)
some_taken room all rest items next batch bytes pushed are counted left =
    let found = keyed_batches items in
    let b = keyed_batch batch in
    let more : keyed_batches next ≡ found ++ b ∷ [] =
    ap keyed_batches pushed ∙ keyed_append items (batch ∷ []) in
    let long = length-append found (b ∷ []) in
    let front : text_bytes (take (length (keyed_batches next) - 1) (keyed_batches next)) ≡ bytes =
    ap (λ l. text_bytes (take (length l - 1) l)) more
    ∙ (ap text_bytes (front_is found b) ∙ counted) in
    record {
      rest = rest;
      are = are;
      some = λ empty. let none = ap length (sym more ∙ empty) in absurd (omega (arith, none, long));
      few = omega (arith, front, left);
    }
