-- What folds hold at their end.
use Rattle.std.proofs.Common.{◌≡◌, ◌+◌, inl, inr, ℕ, suc, List, [], ◌∷◌, ◌++◌, map, length, take, Option, string_bytes, refl, sym, ap, subst, ◌∙◌, arith, ◌<◌}
use Rattle.std.proofs.Common.{get_or, zero}
use Rattle.sqlite.specs.Order.{Row}
use Rattle.sqlite.specs.State.{State as Seen}
use Rattle.sqlite_rules.specs.Lists.{Has}
use Rattle.streetmap_batch.specs.Text.{Text}
use Rattle.streetmap_ledger.specs.State.{AcceptedBatch}
use Rattle.streetmap_rows.specs.Rows.{batch_cells}
use Rattle.streetmap_checking.specs.Good.{AreEntryRows, AreFormatRows, AreFeatureRows, AreOwnerRows, IsAccepted, AreSerials, AreBatchRows, serials_of}
use Rattle.streetmap_checking.specs.Held.{HoldsFormatRows, known}
use Rattle.streetmap_checking.specs.QueryResults.{Known, SeesFeatures, SeesAllFeatures, NoFeatures, NoFeaturesOfAll}
use Rattle.streetmap_checking.specs.KnownCollections.{known_of}
use Rattle.streetmap_checking.specs.declared.collections.Head.{Head}
use Rattle.streetmap_checking.specs.declared.formats.FormatRows.{FormatRows}
use Rattle.streetmap_checking.proofs.RowCells.{serial_of_cells}
use Rattle.streetmap_reading.proofs.BetweenRows.{map_append}
use Rattle.std.proofs.lemmas.List.{take_more}
use Rattle.streetmap_tables.proofs.FormatAndSerials.{map_length}

pub format_found : (start now : FormatRows) (rows : List Row) → HoldsFormatRows start now rows → (now.found ≡ 0 → ⊥) → AreFormatRows rows
format_found start now rows (inl h) some = absurd (some h.1)
format_found start now rows (inr h) some = h.0

pub format_lost : (start now : FormatRows) (rows : List Row) → HoldsFormatRows start now rows → now.found ≡ 0 → AreFormatRows rows → ⊥
format_lost start now rows (inl h) none good = absurd (let e = sym h.0 ∙ good in cc)
format_lost start now rows (inr h) none good = absurd (omega (arith, h.1, none))

pub features_of : (p q : Option Text) (rows : List Row) (n : ℕ) → p ≡ q → (are : AreFeatureRows p rows) × (n ≡ length are.entries) →
    (are : AreFeatureRows q rows) × (n ≡ length are.entries)
features_of p q rows n same h = subst (λ o. (are : AreFeatureRows o rows) × (n ≡ length are.entries)) same h

names_known : (heads : List Head) → map (λ (h : Head). string_bytes h.id) heads ≡ map (λ (k : Known). k.0) (known heads)
names_known [] = refl
names_known (h ∷ heads) = ap (λ l. string_bytes h.id ∷ l) (names_known heads)

pub owners_of : (heads : List Head) (rows : List Row) → AreOwnerRows (map (λ (h : Head). string_bytes h.id) heads) rows →
    AreOwnerRows (map (λ (k : Known). k.0) (known heads)) rows
owners_of heads rows h = subst (λ l. AreOwnerRows l rows) (names_known heads) h

pub of_owners : (heads : List Head) (rows : List Row) → AreOwnerRows (map (λ (k : Known). k.0) (known heads)) rows →
    AreOwnerRows (map (λ (h : Head). string_bytes h.id) heads) rows
of_owners heads rows h = subst (λ l. AreOwnerRows l rows) (sym (names_known heads)) h

-- ---- batches

same_serials : (es fs : List (Text × AcceptedBatch)) → map (λ e. batch_cells e.0 e.1) es ≡ map (λ e. batch_cells e.0 e.1) fs → serials_of es ≡ serials_of fs
same_serials [] [] e = refl
same_serials [] (f ∷ fs) e = absurd cc
same_serials (d ∷ es) [] e = absurd cc
same_serials (d ∷ es) (f ∷ fs) e =
    let one : batch_cells d.0 d.1 ≡ batch_cells f.0 f.1 = cc in
    let tail : map (λ e. batch_cells e.0 e.1) es ≡ map (λ e. batch_cells e.0 e.1) fs = cc in
    let first = serial_of_cells d.0 f.0 d.1 f.1 one in
    let later = same_serials es fs tail in
    λ i. first i ∷ later i

pub no_serials : (rows : List Row) (are : AreEntryRows batch_cells IsAccepted rows) (serials : List ℕ) → serials ≡ serials_of are.entries →
    (AreSerials serials → ⊥) → AreBatchRows rows → ⊥
no_serials rows are serials is other good = other (subst AreSerials (same_serials good.0.entries are.entries (sym good.0.are ∙ are.are) ∙ sym is) good.1)

pub as_many : (es : List (Text × AcceptedBatch)) (serials : List ℕ) → serials ≡ serials_of es → length serials ≡ length es
as_many es serials is = ap length is ∙ map_length (λ (e : Text × AcceptedBatch). e.1.serial) es

-- ---- all features

pub more_features : (heads : List Known) (head : Known) (n m : ℕ) (seen : Seen) → SeesAllFeatures heads n seen → SeesFeatures head m seen →
    SeesAllFeatures (heads ++ head ∷ []) (n + m) seen
more_features [] head n m seen all one = (m, 0, one, refl, omega (arith, all))
more_features (h ∷ heads) head n m seen all one = (all.0, all.1 + m, all.2, more_features heads head all.1 m seen all.3 one, omega (arith, all.4))

take_end : (heads : List Head) (i : ℕ) (h : Head) → i < length heads → h ≡ get_or heads i h → take (i + 1) heads ≡ take i heads ++ h ∷ []
take_end heads i h low is = take_more heads i h low ∙ ap (λ x. take i heads ++ x ∷ []) (sym is)

pub known_more : (heads : List Head) (i : ℕ) (h : Head) → i < length heads → h ≡ get_or heads i h → known (take (i + 1) heads) ≡ known (take i heads)
    ++ known_of h ∷ []
known_more heads i h low is = ap known (take_end heads i h low is) ∙ map_append known_of (take i heads) (h ∷ [])

has_known : (heads : List Head) (i : ℕ) (h : Head) → i < length heads → h ≡ get_or heads i h → Has (known heads) (known_of h)
has_known [] i h low is = absurd (omega (arith, low))
has_known (a ∷ heads) zero h low is = inl (ap known_of is)
has_known (a ∷ heads) (suc i) h low is = inr (has_known heads i h (omega (arith, low)) is)

pub none_of_all : (heads : List Head) (i : ℕ) (h : Head) (seen : Seen) → i < length heads → h ≡ get_or heads i h → NoFeatures (known_of h) seen →
    NoFeaturesOfAll (known heads) seen
none_of_all heads i h seen low is none = (known_of h, has_known heads i h low is, none)

pub as_many_known : (heads : List Head) → length (known heads) ≡ length heads
as_many_known heads = map_length known_of heads
