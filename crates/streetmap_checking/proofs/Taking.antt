-- A row that is taken after others, and one that is not.
use Rattle.std.proofs.Common.{◌≡◌, ◌<◌, ℕ, List, [], ◌∷◌, ◌++◌, length, Option, option_map, string_bytes, IsUtf8, IfSome, IsTrue, pos, refl, sym, ap, subst}
use Rattle.std.proofs.Common.{◌∙◌, arith}
use Rattle.std.proofs.lemmas.Str.{IsUtf8-from_is_utf8}
use Rattle.sqlite.specs.Order.{Row, column}
use Rattle.sqlite.specs.Values.{or_null}
use Rattle.sqlite.specs.declared.types.Value.TheVariants.{Text as Words, Int}
use Rattle.streetmap_geojson.specs.FeatureValue.{FeatureValue}
use Rattle.streetmap_batch.specs.Text.{Text}
use Rattle.streetmap_ledger.specs.State.{AcceptedBatch}
use Rattle.streetmap_ledger.specs.WellFormed.{IsPlaced}
use Rattle.streetmap_reading.proofs.RowReadings.{within}
use Rattle.streetmap_rows.specs.Stored.{IsStored}
use Rattle.streetmap_reading.proofs.BetweenRows.{map_append}
use Rattle.streetmap_rows.specs.declared.fault.ReadFault.{ReadFault}
use Rattle.streetmap_rows.specs.Rows.{feature_text, batch_cells}
use Rattle.streetmap_reading.specs.FoldEffects.{Refuses}
use Rattle.streetmap_batch.specs.Names.{is_key}
use Rattle.streetmap_checking.specs.Good.{AreEntryRows, feature_view, head_cells, IsCollectionHead, HasBatch, IsAccepted, AreBatchRows, serials_of}
use Rattle.streetmap_checking.specs.Held.{last_key, ComesAfterLast}
use Rattle.streetmap_checking.specs.declared.collections.Head.{Head}
use Rattle.streetmap_checking.proofs.Refusing.{refuses_for, id_text, key_text, property_text}
use Rattle.streetmap_checking.proofs.Rising.{next_of}
use Rattle.streetmap_checking.proofs.RowCells.{row_body, seven_cells, key_of_cells}
use Rattle.streetmap_checking.proofs.Placed.{stored_under}

module _ {V : Type 0} (cells : Text → V → Row) (Fine : Text → V → Type 0) where
  -- the row is that of no entry
  abbrev pub IsNoRow : Row → Type 0
  IsNoRow row = (key : Text) (value : V) → row ≡ cells key value → Fine key value → ⊥

  module _ (one : (p q : Text) (v w : V) → cells p v ≡ cells q w → p ≡ q) (rows : List Row) (row : Row) (are : AreEntryRows cells Fine rows) where
    -- no rows of entries begin with these and it
    abbrev pub AreNone : Type 0
    AreNone = (later : List Row) → AreEntryRows cells Fine ((rows ++ row ∷ []) ++ later) → ⊥

    pub not_taken : (fault : ReadFault) → Refuses (IsNoRow row) fault → Refuses AreNone fault
    not_taken fault h = refuses_for (IsNoRow row) AreNone fault none h
      where
        none : IsNoRow row → AreNone
        none unlike later good = let n = next_of cells Fine one rows row later are good in unlike n.key n.value n.is n.fine

    pub not_after : (key : Text) (value : V) → row ≡ cells key value → (ComesAfterLast (last_key are.entries) key → ⊥) → AreNone
    not_after key value is other later good =
        let n = next_of cells Fine one rows row later are good in
        other (subst (ComesAfterLast (last_key are.entries)) (one n.key key n.value value (sym n.is ∙ is)) n.less)

-- ---- collections

abbrev NoHead : Row → Type 0
NoHead = IsNoRow head_cells IsCollectionHead

pub no_id : (row : Row) (fault : ReadFault) → Refuses (0 < length row → (t : Text) → column row 0 ≡ Words t → IsUtf8 t → ⊥) fault → Refuses (NoHead row) fault
no_id row fault h = refuses_for (0 < length row → (t : Text) → column row 0 ≡ Words t → IsUtf8 t → ⊥) (NoHead row) fault
    (λ none name h is fine. none (within row _ 0 is (omega arith)) name (ap (λ (r : Row). column r 0) is) (id_text name fine.named)) h

pub no_title : (row : Row) (fault : ReadFault) → Refuses (1 < length row → (t : Text) → column row 1 ≡ Words t → IsUtf8 t → ⊥) fault →
    Refuses (NoHead row) fault
no_title row fault h = refuses_for (1 < length row → (t : Text) → column row 1 ≡ Words t → IsUtf8 t → ⊥) (NoHead row) fault
    (λ none name h is fine. none (within row _ 1 is (omega arith)) h.title (ap (λ (r : Row). column r 1) is) (IsUtf8-from_is_utf8 h.title fine.titled.1)) h

pub no_time : (row : Row) (fault : ReadFault) → Refuses (2 < length row → (t : Option Text) → column row 2 ≡ or_null Words t → IfSome t IsUtf8 → ⊥) fault →
    Refuses (NoHead row) fault
no_time row fault h = refuses_for (2 < length row → (t : Option Text) → column row 2 ≡ or_null Words t → IfSome t IsUtf8 → ⊥) (NoHead row) fault
    (λ none name h is fine. none (within row _ 2 is (omega arith)) h.time (ap (λ (r : Row). column r 2) is) (property_text h.time fine.timed)) h

-- ---- features

abbrev NoFeature : Option Text → Row → Type 0
NoFeature property = IsNoRow feature_view (IsPlaced property)

pub no_feature : (p property : Option Text) (row : Row) (body : Text) (fault : ReadFault) → p ≡ property → column row 1 ≡ Words body →
    Refuses ((f : FeatureValue) → body ≡ feature_text f → IsStored p f → ⊥) fault → Refuses (NoFeature property row) fault
no_feature p property row body fault same at h =
    refuses_for ((f : FeatureValue) → body ≡ feature_text f → IsStored p f → ⊥) (NoFeature property row) fault
    (λ none id f is placed. none f (row_body id f row body is at) (stored_under p property id f same placed)) h

-- the same collection
pub no_feature_of : (g h : Head) (row : Row) (fault : ReadFault) → g ≡ h → Refuses (NoFeature (option_map string_bytes g.time) row) fault →
    Refuses (NoFeature (option_map string_bytes h.time) row) fault
no_feature_of g h row fault same it = subst (λ (x : Head). Refuses (NoFeature (option_map string_bytes x.time) row) fault) same it

-- ---- batches

abbrev NoBatch : Row → Type 0
NoBatch = IsNoRow batch_cells IsAccepted

pub no_key : (row : Row) (fault : ReadFault) → Refuses (0 < length row → (t : Text) → column row 0 ≡ Words t → IsUtf8 t → ⊥) fault → Refuses (NoBatch row) fault
no_key row fault h = refuses_for (0 < length row → (t : Text) → column row 0 ≡ Words t → IsUtf8 t → ⊥) (NoBatch row) fault
    (λ none key k is fine. none (within row _ 0 is (omega arith)) key (ap (λ (r : Row). column r 0) is) (key_text key fine.keyed)) h

pub feature_of : (g h : Head) (row : Row) (f : FeatureValue) → g ≡ h → (row ≡ feature_view f.id f) × IsPlaced (option_map string_bytes g.time) f.id f →
    (row ≡ feature_view f.id f) × IsPlaced (option_map string_bytes h.time) f.id f
feature_of g h row f same it = subst (λ (x : Head). (row ≡ feature_view f.id f) × IsPlaced (option_map string_bytes x.time) f.id f) same it

pub never : (P : Type 0) (fault : ReadFault) → Refuses ⊥ fault → Refuses P fault
never P fault h = refuses_for ⊥ P fault (λ x. absurd x) h

pub has_batch : (row : Row) (key : Text) (k : AcceptedBatch) → row ≡ batch_cells key k → IsAccepted key k → HasBatch row
has_batch row key k is fine =
    let at : (n : ℕ) → column row n ≡ column (batch_cells key k) n = λ n. ap (λ (r : Row). column r n) is in (
      (k.text, at 1),
      (k.counts.opened, at 2, fine.counted.opened),
      (k.counts.inserted, at 3, fine.counted.inserted),
      (k.counts.replaced, at 4, fine.counted.replaced),
      (k.counts.deleted, at 5, fine.counted.deleted),
    )

pub batch_of : (row : Row) (key : Text) (serial : ℕ) → length row ≡ 7 → column row 0 ≡ Words key → HasBatch row → column row 6 ≡ Int (pos serial) →
    IsTrue (is_key key)
    → (k : AcceptedBatch) × (row ≡ batch_cells key k) × (serial ≡ k.serial) × IsAccepted key k
batch_of row key serial seven first has last keyed = (
  record { text = has.0.0; counts = record { opened = has.1.0; inserted = has.2.0; replaced = has.3.0; deleted = has.4.0 }; serial = serial },
  seven_cells row seven ∙ (λ i. first i ∷ has.0.1 i ∷ has.1.1 i ∷ has.2.1 i ∷ has.3.1 i ∷ has.4.1 i ∷ last i ∷ []),
  refl,
  record { keyed = keyed; counted = record { opened = has.1.2; inserted = has.2.2; replaced = has.3.2; deleted = has.4.2 } },
)

-- no rows of batches begin with these
abbrev NoBatches : List Row → Row → Type 0
NoBatches rows row = (later : List Row) → AreBatchRows ((rows ++ row ∷ []) ++ later) → ⊥

pub no_batches : (rows : List Row) (row : Row) → AreEntryRows batch_cells IsAccepted rows → (fault : ReadFault) → Refuses (NoBatch row) fault →
    Refuses (NoBatches rows row) fault
no_batches rows row are fault h = refuses_for (AreNone batch_cells IsAccepted key_of_cells rows row are) (NoBatches rows row) fault
    (λ none later good. none later good.0) (not_taken batch_cells IsAccepted key_of_cells rows row are fault h)

pub batch_not_after : (rows : List Row) (row : Row) (are : AreEntryRows batch_cells IsAccepted rows) (key : Text) (k : AcceptedBatch) → row ≡ batch_cells key k
    → (ComesAfterLast (last_key are.entries) key → ⊥) → NoBatches rows row
batch_not_after rows row are key k is other later good = not_after batch_cells IsAccepted key_of_cells rows row are key k is other later good.0

pub serials_more : (es : List (Text × AcceptedBatch)) (old new : List ℕ) (key : Text) (k : AcceptedBatch) (serial : ℕ) → new ≡ old ++ serial ∷ [] → old
    ≡ serials_of es → serial ≡ k.serial → new ≡ serials_of (es ++ (key, k) ∷ [])
serials_more es old new key k serial is was same = is ∙ (λ i. was i ++ same i ∷ []) ∙ sym
    (map_append (λ (e : Text × AcceptedBatch). e.1.serial) es ((key, k) ∷ []))
