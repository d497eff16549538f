-- Packs: the limits of a batch, and runs as batches.
use Rattle.std.proofs.Common.{◌≡◌, ℕ, ◌+◌, ◌<◌, ◌≤◌, Bool, true, false, ◌&&◌, leb, eqb, List, []}
use Rattle.std.proofs.Common.{◌∷◌, ◌++◌, flat_map, length, codes, refl, sym, ap, ◌∙◌, arith}
use Rattle.std.proofs.Common.{length-append}
use Rattle.std.proofs.lemmas.Bool.{leb-true, le-leb}
use Rattle.serde_json.specs.Data.{string}
use Rattle.serde_json.specs.Written.{compact_text}
use Rattle.streetmap_batch.specs.Text.{Text}
use Rattle.streetmap_batch.specs.BatchValue.{EditValue, BatchValue}
use Rattle.streetmap_batch.specs.BatchText.{batch_text, edit_data}
use Rattle.streetmap_batch.specs.BatchView.{edit_values}
use Rattle.streetmap_batch.specs.declared.edit.Edit.{Edit}
use Rattle.streetmap_batch.proofs.TextFacts.{batch_text_is}
use Rattle.streetmap_packing.specs.Runs.{AreRuns}
use Rattle.streetmap_packing.specs.Packs.{numbered, numbered_all, passes}
use Rattle.streetmap_packing.specs.Laws.{OneWay, GoesOn}
use Rattle.streetmap_packing.specs.PackingState.{comma_after}
use Rattle.streetmap_packing.proofs.RunLemmas.{one_way, begins_so}
use Rattle.streetmap_packing.proofs.TextLengths.{text_of, one_longer, front_shorter}
use Rattle.streetmap_batch.proofs.NameFacts.{both_true}

pub and_true : (a b : Bool) → a ≡ true → b ≡ true → (a && b) ≡ true
and_true a b p q = rw (p, q) refl

-- what follows the edits
abbrev pub following : Text → List ℕ
following key = codes ",\"key\":" ++ (compact_text (string key) ++ codes "}")

pub text_long : (b : BatchValue) →
    length (batch_text b) ≡ length (codes "{\"edits\":[") +
    (length (text_of EditValue edit_data false b.edits) + length (following b.key))
text_long b =
    sym (ap length (batch_text_is b))
    ∙ (length-append (codes "{\"edits\":[")
    (text_of EditValue edit_data false b.edits ++ following b.key)
    ∙ ap (λ n. length (codes "{\"edits\":[") + n)
    (length-append (text_of EditValue edit_data false b.edits) (following b.key)))

-- a batch text with one more edit
pub batch_longer : (key : Text) (n : ℕ) (es : List EditValue) (e : EditValue) →
    length (batch_text (numbered key n (es ++ e ∷ []))) ≡ length (batch_text (numbered key n es)) +
    (length (comma_after es) + length (compact_text (edit_data e)))
batch_longer key n es e =
    let more = text_long (numbered key n (es ++ e ∷ [])) in
    let less = text_long (numbered key n es) in
    let one = one_longer EditValue edit_data es e in
    omega (arith, more, less, one)

-- a prefix of a batch within the limits is within them
pub shorter : (each : ℕ) (key : Text) (n : ℕ) (xs ys : List EditValue) →
    passes each key n (xs ++ ys) ≡ true → passes each key n xs ≡ true
shorter each key n xs ys h =
    let both = both_true _ _ h in
    let few = leb-true (length (xs ++ ys)) each both.0 in
    let short = leb-true (length (batch_text (numbered key n (xs ++ ys)))) 8388608 both.1 in
    let more = text_long (numbered key n (xs ++ ys)) in
    let less = text_long (numbered key n xs) in
    let front = front_shorter EditValue edit_data false xs ys in
    let long = length-append xs ys in
    and_true _ _ (le-leb (length xs) each (omega (arith, few, long)))
    (le-leb (length (batch_text (numbered key n xs))) 8388608
    (omega (arith, short, more, less, front)))

pub numbered_append : (key : Text) (n : ℕ) (xs ys : List (List EditValue)) →
    numbered_all key n (xs ++ ys) ≡ numbered_all key n xs ++ numbered_all key (n + length xs) ys
numbered_append key n [] ys = let e : n ≡ n + length {A = List EditValue} [] = omega arith in ap
    (λ k. numbered_all key k ys) e
numbered_append key n (x ∷ xs) ys =
    let e : n + 1 + length xs ≡ n + length (x ∷ xs) = omega arith in
    ap (λ t. numbered key n x ∷ t)
    (numbered_append key (n + 1) xs ys ∙ ap
    (λ k. numbered_all key (n + 1) xs ++ numbered_all key k ys) e)

-- the batches have the edits
has_all : (each : ℕ) (key : Text) (n : ℕ) (es : List EditValue) (runs : List (List EditValue)) →
    AreRuns (passes each key) n es runs →
    flat_map (λ (b : BatchValue). b.edits) (numbered_all key n runs) ≡ es
has_all each key n es [] r = sym r
has_all each key n es (run ∷ runs) r = ap (λ t. run ++ t) (has_all each key (n + 1) r.0 runs r.2) ∙
    sym r.1.whole

pub one_way_only : OneWay
one_way_only = (
  λ each key es bs cs p q. p.2 ∙
      (ap (numbered_all key 1)
      (one_way EditValue (passes each key) (shorter each key) 1 es p.0 q.0 p.1 q.1) ∙ sym q.2),
  λ each key es bs p. ap (flat_map (λ (b : BatchValue). b.edits)) p.2 ∙ has_all each key 1 es p.0
      p.1,
)

pub goes_on : GoesOn
goes_on each key es more left bs all first whole =
    let later = begins_so EditValue (passes each key) (shorter each key) 1 es more first.0 left
    whole.0 first.1 whole.1 in (
      numbered_all key (1 + length first.0) later.0,
      whole.2 ∙
          (ap (numbered_all key 1) later.1 ∙
          (numbered_append key 1 first.0 later.0 ∙ ap
          (λ t. t ++ numbered_all key (1 + length first.0) later.0) (sym first.2))),
    )

-- ---- the packer

-- the current batch takes an edit if its text has room for it
pub takes_if :
    (each : ℕ) (key : Text) (n : ℕ) (es : List EditValue) (e : EditValue) (bytes comma size : ℕ) →
    length es < each → bytes ≡ length (batch_text (numbered key n es)) →
    comma ≡ length (comma_after es) → length (compact_text (edit_data e)) ≡ size →
    leb (bytes + (comma + size)) 8388608 ≡ passes each key n (es ++ e ∷ [])
takes_if each key n es e bytes comma size few measured comma_is sized =
    let long = length-append es (e ∷ []) in
    let more = batch_longer key n es e in
    let counts : leb (length (es ++ e ∷ [])) each ≡ true = le-leb (length (es ++ e ∷ [])) each
    (omega (arith, long, few)) in
    let same : bytes + (comma + size) ≡ length (batch_text (numbered key n (es ++ e ∷ []))) = omega
    (arith, more, measured, comma_is, sized) in
    ap (λ k. leb k 8388608) same ∙ sym
    (ap (λ b. b && leb (length (batch_text (numbered key n (es ++ e ∷ [])))) 8388608) counts)

-- the size of the text with an edit that it takes
pub takes_bytes :
    (each : ℕ) (key : Text) (n : ℕ) (es : List EditValue) (e : EditValue) (bytes comma size : ℕ) →
    passes each key n (es ++ e ∷ []) ≡ true → bytes ≡ length (batch_text (numbered key n es)) →
    comma ≡ length (comma_after es) → length (compact_text (edit_data e)) ≡ size →
    (bytes + (comma + size) ≡ length (batch_text (numbered key n (es ++ e ∷ [])))) ×
    (bytes + (comma + size) ≤ 8388608) × (length es + 1 ≤ each)
takes_bytes each key n es e bytes comma size h measured comma_is sized =
    let both = both_true _ _ h in
    let few = leb-true (length (es ++ e ∷ [])) each both.0 in
    let short = leb-true (length (batch_text (numbered key n (es ++ e ∷ [])))) 8388608 both.1 in
    let long = length-append es (e ∷ []) in
    let more = batch_longer key n es e in (
      omega (arith, more, measured, comma_is, sized),
      omega
          (arith, short, more, measured, comma_is, sized),
      omega (arith, few, long),
    )

pub not_none : (edits : List Edit) (n : ℕ) (t : Bool) → n ≡ length edits → t ≡ eqb n 0 → t ≡ false →
    edit_values edits ≡ [] → ⊥
not_none [] n t counted is off e =
    let zero : eqb n 0 ≡ true = ap (λ k. eqb k 0) counted in
    let h : true ≡ false = sym zero ∙ (sym is ∙ off) in
    cc
not_none (x ∷ xs) n t counted is off e = cc
