-- Collections by their ids.
use Rattle.std.proofs.Common.{◌≡◌, ◌-◌, inl, inr, ℕ, suc, List, [], ◌∷◌, ◌++◌, map, length, Option, Some, option_map, string_bytes, refl, sym, ap, subst, ◌∙◌}
use Rattle.std.proofs.Common.{slice_get, get_or, ◌<◌, zero, arith}
use Rattle.sqlite.specs.declared.types.Value.TheVariants.{Text as Words}
use Rattle.sqlite.specs.Order.{Row, column}
use Rattle.sqlite_rules.specs.Lists.{Has}
use Rattle.streetmap_batch.specs.Text.{Text}
use Rattle.streetmap_reading.proofs.BetweenRows.{map_append}
use Rattle.streetmap_checking.specs.Good.{CollectionHead}
use Rattle.streetmap_checking.proofs.RowCells.{one_cell}
use Rattle.streetmap_checking.specs.Held.{last_key, known}
use Rattle.streetmap_checking.specs.declared.collections.Head.{Head}

-- the id of the last of heads is the last key
last_of : (heads : List Head) (h : Head) → slice_get heads (length heads - 1) ≡ Some h → last_key (known heads) ≡ Some (string_bytes h.id)
last_of [] h e = absurd (cc)
last_of (a ∷ []) h e = let same : a ≡ h = cc in ap (λ (x : Head). Some (string_bytes x.id)) same
last_of (a ∷ b ∷ heads) h e =
    let n : length (a ∷ b ∷ heads) - 1 ≡ suc (length (b ∷ heads) - 1) = omega arith in
    last_of (b ∷ heads) h (sym (ap (slice_get (a ∷ b ∷ heads)) n) ∙ e)

pub last_known : (heads : List Head) (h : Head) (text : Text) → slice_get heads (length heads - 1) ≡ Some h → text ≡ string_bytes h.id → Some text
    ≡ last_key (known heads)
last_known heads h text at is = ap Some is ∙ sym (last_of heads h at)

-- the name of a row is none of these
pub none_of : (row : Row) (names : List Text) (name : Text) → names ≡ [] → Has names name → ⊥
none_of row names name is h = subst (λ l. Has l name) is h

pub later_name : (names : List Text) (first : Text) (rest : List Text) (row : Row) → names ≡ first ∷ rest → (row ≡ Words first ∷ [] → ⊥) → (name : Text) → row
    ≡ Words name ∷ [] → Has names name → Has rest name
later_name names first rest row is other name same h = go (subst (λ l. Has l name) is h)
  where
    go : Has (first ∷ rest) name → Has rest name
    go (inl at) = absurd (other (same ∙ ap (λ t. Words t ∷ []) at))
    go (inr later) = later

same_known : (es : List (Text × CollectionHead)) → last_key (map (λ e. (e.0, e.1.time)) es) ≡ last_key es
same_known [] = refl
same_known (e ∷ []) = refl
same_known (e ∷ f ∷ es) = same_known (f ∷ es)

-- the last of what is known is the last of the entries
pub last_is : (heads : List Head) (es : List (Text × CollectionHead)) (last : Option Text) → known heads ≡ map (λ e. (e.0, e.1.time)) es → last
    ≡ last_key (known heads) → last ≡ last_key es
last_is heads es last are is = is ∙ ap last_key are ∙ same_known es

pub one_head_more : (heads new : List Head) (h : Head) (es : List (Text × CollectionHead)) (title : Text) → new ≡ heads ++ h ∷ [] → known heads
    ≡ map (λ e. (e.0, e.1.time)) es
    → known new ≡ map (λ e. (e.0, e.1.time)) (es ++ (string_bytes h.id, record { title = title; time = option_map string_bytes h.time }) ∷ [])
one_head_more heads new h es title is are =
    ap known is ∙ map_append (λ (x : Head). (string_bytes x.id, option_map string_bytes x.time)) heads (h ∷ [])
    ∙ ap (λ l. l ++ (string_bytes h.id, option_map string_bytes h.time) ∷ []) are
    ∙ sym (map_append (λ (e : Text × CollectionHead). (e.0, e.1.time)) es ((string_bytes h.id, record { title = title; time = option_map string_bytes h.time })
    ∷ []))

pub first_name : (row : Row) (text name : Text) → length row ≡ 1 → text ≡ name → row ≡ Words name ∷ [] → (0 < length row) × (column row 0 ≡ Words text)
first_name row text name one same is = (omega (arith, one), ap (λ (r : Row). column r 0) is ∙ ap Words (sym same))

has_at : (heads : List Head) (i : ℕ) (h : Head) → i < length heads → h ≡ get_or heads i h →
    Has (map (λ (x : Head). string_bytes x.id) heads) (string_bytes h.id)
has_at [] i h low is = absurd (omega (arith, low))
has_at (a ∷ heads) zero h low is = inl (ap (λ (x : Head). string_bytes x.id) is)
has_at (a ∷ heads) (suc i) h low is = inr (has_at heads i h (omega (arith, low)) is)

-- a row names one of these
pub name_there : (heads : List Head) (i : ℕ) (h : Head) (row : Row) (text : Text) → i < length heads → h ≡ get_or heads i h → text ≡ string_bytes h.id →
    length row ≡ 1 → column row 0 ≡ Words text
    → (name : Text) × Has (map (λ (x : Head). string_bytes x.id) heads) name × (row ≡ Words name ∷ [])
name_there heads i h row text low is same one at = (string_bytes h.id, has_at heads i h low is, one_cell row one ∙ ap (λ v. v ∷ []) (at ∙ ap Words same))
