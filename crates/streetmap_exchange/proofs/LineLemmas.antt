-- Lines that are written one after the other.
use Rattle.std.proofs.Common.{◌≡◌, ℕ, zero, suc, List, [], ◌∷◌, ◌++◌, map, Option, None, Some}
use Rattle.std.proofs.Common.{Result, Ok, Err}
use Rattle.std.proofs.Common.{OnOk, OnErr, refl, sym, ap, subst, ◌∙◌, append_assoc}
use Rattle.std.proofs.Common.{◌+◌, ◌-◌, ◌<◌, length, take, drop, get_or, arith}
use Rattle.std.specs.Prelude.{slice_get, decimal}
use Rattle.std.specs.Io.KnownBytes.{Appends}
use Rattle.std.proofs.KnownBytes.{Appends-trans}
use Rattle.streetmap_text_lines.specs.Written.{AppendsBeginning}
use Rattle.streetmap_text_lines.proofs.WriteLemmas.{beginning_longer, beginning_after}
use Rattle.streetmap_ledger.specs.Kept.{KeyedBatch}
use Rattle.streetmap_ledger.specs.KeptView.{keyed_batch, keyed_batches}
use Rattle.streetmap_ledger.specs.declared.kept_batch.KeptBatch.{KeptBatch}
use Rattle.streetmap_replay.specs.Lines.{line_bytes}
use Rattle.streetmap_exchange.specs.Printed.{line_of, line_text, lines_text}

pub lines_append : (xs ys : List KeyedBatch) → lines_text (xs ++ ys)
    ≡ lines_text xs ++ lines_text ys
lines_append [] ys = refl
lines_append (x ∷ xs) ys =
    let line = line_bytes (line_of x) in
    ap (λ (rest : List ℕ). line ++ 10 ∷ rest) (lines_append xs ys)
    ∙ sym (append_assoc line (10 ∷ lines_text xs) (lines_text ys))

pub lines_more : (x : KeyedBatch) (xs : List KeyedBatch)
    → lines_text (x ∷ xs) ≡ line_text x ++ lines_text xs
lines_more x xs = sym (append_assoc (line_bytes (line_of x)) (10 ∷ []) (lines_text xs))

pub on_err_more : {T E : Type 0} (r : Result T E) (P Q : Type 0) → (P → Q) → OnErr r P → OnErr r Q
on_err_more (Ok x) P Q f h = tt
on_err_more (Err e) P Q f h = f h

pub on_ok_more : {T E : Type 0} (r : Result T E) (P Q : Type 0) → (P → Q) → OnOk r P → OnOk r Q
on_ok_more (Ok x) P Q f h = f h
on_ok_more (Err e) P Q f h = tt

pub get_mapped : {A B : Type 0} (f : A → B) (xs : List A) (n : ℕ) (x : A)
    → slice_get xs n ≡ Some x → slice_get (map f xs) n ≡ Some (f x)
get_mapped f [] n x h = absurd (cc)
get_mapped f (y ∷ xs) zero x h = let same : y ≡ x = cc in ap (λ z. Some (f z)) same
get_mapped f (y ∷ xs) (suc n) x h = get_mapped f xs n x h

-- ---- one line

-- the parts of a line, in their order
line_is : (n : ℕ) (text : List ℕ)
    → (decimal n ++ 9 ∷ text) ++ 10 ∷ [] ≡ decimal n ++ ((9 ∷ []) ++ (text ++ 10 ∷ []))
line_is n text = append_assoc (decimal n) (9 ∷ text) (10 ∷ [])

module _ (n : ℕ) (text : List ℕ) (a b : Option (List ℕ)) (serial : Appends a b (decimal n)) where
  abbrev line : List ℕ
  line = (decimal n ++ 9 ∷ text) ++ 10 ∷ []

  pub tab_breaks : (c : Option (List ℕ)) → AppendsBeginning b c (9 ∷ []) → AppendsBeginning a c line
  tab_breaks c h =
      let rest = text ++ 10 ∷ [] in
      subst (AppendsBeginning a c) (sym (line_is n text))
      (beginning_after a b c _ _ serial (beginning_longer b c (9 ∷ []) rest h))

  module _ (c : Option (List ℕ)) (tab : Appends b c (9 ∷ [])) where
    pub text_breaks : (d : Option (List ℕ)) → AppendsBeginning c d text → AppendsBeginning a d line
    text_breaks d h =
        subst (AppendsBeginning a d) (sym (line_is n text))
        (beginning_after a b d _ _ serial
        (beginning_after b c d _ _ tab (beginning_longer c d text (10 ∷ []) h)))

    module _ (d : Option (List ℕ)) (reported : Appends c d text) where
      pub feed_breaks : (e : Option (List ℕ)) → AppendsBeginning d e (10 ∷ [])
          → AppendsBeginning a e line
      feed_breaks e h =
          subst (AppendsBeginning a e) (sym (line_is n text))
          (beginning_after a b e _ _ serial
          (beginning_after b c e _ _ tab (beginning_after c d e _ _ reported h)))

      pub line_written : (e : Option (List ℕ)) → Appends d e (10 ∷ []) → Appends a e line
      line_written e h =
          subst (Appends a e) (sym (line_is n text))
          (Appends-trans a b e _ _ serial
          (Appends-trans b c e _ _ tab (Appends-trans c d e _ _ reported h)))

-- ---- batches of a list

pub cut_item : {A : Type 0} (xs : List A) (i : ℕ) (x : A) → i < length xs → x ≡ get_or xs i x
    → xs ≡ take i xs ++ x ∷ drop (suc i) xs
cut_item [] i x h is = absurd (omega (arith, h))
cut_item (y ∷ xs) zero x h is = ap (λ z. z ∷ xs) (sym is)
cut_item (y ∷ xs) (suc i) x h is = ap (λ l. y ∷ l) (cut_item xs i x (omega (arith, h)) is)

take_item : {A : Type 0} (xs : List A) (i : ℕ) (x : A) → i < length xs → x ≡ get_or xs i x
    → take (suc i) xs ≡ take i xs ++ x ∷ []
take_item [] i x h is = absurd (omega (arith, h))
take_item (y ∷ xs) zero x h is = ap (λ z. z ∷ []) (sym is)
take_item (y ∷ xs) (suc i) x h is = ap (λ l. y ∷ l) (take_item xs i x (omega (arith, h)) is)

keyed_append : (xs ys : List KeptBatch)
    → keyed_batches (xs ++ ys) ≡ keyed_batches xs ++ keyed_batches ys
keyed_append [] ys = refl
keyed_append (x ∷ xs) ys = ap (λ l. keyed_batch x ∷ l) (keyed_append xs ys)

module _ (xs : List KeptBatch) (i : ℕ) (x : KeptBatch) (h : i < length xs) (is : x ≡ get_or xs i x)
    (a b c : Option (List ℕ)) (before : Appends a b (lines_text (keyed_batches (take i xs)))) where
  pub lines_break : AppendsBeginning b c (line_text (keyed_batch x))
      → AppendsBeginning a c (lines_text (keyed_batches xs))
  lines_break wrote =
      let first = keyed_batches (take i xs) in
      let rest = keyed_batches (drop (suc i) xs) in
      let cut = ap keyed_batches (cut_item xs i x h is)
      ∙ keyed_append (take i xs) (x ∷ drop (suc i) xs) in
      let lines = ap lines_text cut ∙ (lines_append first (keyed_batch x ∷ rest)
      ∙ ap (λ l. lines_text first ++ l) (lines_more (keyed_batch x) rest)) in
      subst (AppendsBeginning a c) (sym lines)
      (beginning_after a b c _ _ before (beginning_longer b c (line_text (keyed_batch x))
      (lines_text rest) wrote))

  pub lines_grow : Appends b c (line_text (keyed_batch x))
      → Appends a c (lines_text (keyed_batches (take (i + 1) xs)))
  lines_grow wrote =
      let first = keyed_batches (take i xs) in
      let next : i + 1 ≡ suc i = omega arith in
      let more = ap (λ n. keyed_batches (take n xs)) next
      ∙ (ap keyed_batches (take_item xs i x h is) ∙ keyed_append (take i xs) (x ∷ [])) in
      let lines = ap lines_text more ∙ lines_append first (keyed_batch x ∷ []) in
      subst (Appends a c) (sym lines) (Appends-trans a b c _ _ before wrote)

-- ---- the last of a list

pub last_none : {A : Type 0} (xs : List A) → slice_get xs (length xs - 1) ≡ None → xs ≡ []
last_none [] h = refl
last_none (x ∷ xs) h = absurd (no_last (length xs) x xs refl h) where
  no_last : {A : Type 0} (n : ℕ) (x : A) (xs : List A) → length xs ≡ n
      → slice_get (x ∷ xs) (suc n - 1) ≡ None → ⊥
  no_last n x xs long h =
      let at : suc n - 1 ≡ n = omega arith in
      there n x xs long (ap (slice_get (x ∷ xs)) (sym at) ∙ h) where
        there : {A : Type 0} (n : ℕ) (x : A) (xs : List A) → length xs ≡ n
            → slice_get (x ∷ xs) n ≡ None → ⊥
        there zero x xs long h = absurd (cc)
        there (suc n) x [] long h = absurd (omega (arith, long))
        there (suc n) x (y ∷ xs) long h = there n y xs (omega (arith, long)) h

pub last_some : (xs : List KeptBatch) (x : KeptBatch) → slice_get xs (length xs - 1) ≡ Some x
    → (length (keyed_batches xs) ≡ suc (length xs - 1))
    × (slice_get (keyed_batches xs) (length xs - 1) ≡ Some (keyed_batch x))
last_some [] x h = absurd (cc)
last_some (y ∷ xs) x h =
    let long = long_keyed (y ∷ xs) in
    (omega (arith, long), get_mapped keyed_batch (y ∷ xs) (length (y ∷ xs) - 1) x h)
  where
    long_keyed : (xs : List KeptBatch) → length (keyed_batches xs) ≡ length xs
    long_keyed [] = refl
    long_keyed (x ∷ xs) = ap suc (long_keyed xs)
