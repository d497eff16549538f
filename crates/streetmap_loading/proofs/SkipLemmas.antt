-- Features that are skipped, counted.
use Rattle.std.proofs.Common.{◌≡◌, ◌≢◌, ◌≤◌, ℕ, ◌+◌, true, false, [], Option, None, Some}
use Rattle.std.proofs.Common.{Ok, Err, IfSome, option_map, refl, sym, ap, subst, ◌∙◌, arith}
use Rattle.std.specs.Str.Lines.{lines}
use Rattle.streetmap_batch.specs.Text.{Text}
use Rattle.streetmap_text_lines.specs.Lines.{first_too_long}
use Rattle.streetmap_text_lines.specs.LineReads.{WhereKnown, IsFirstLine}
use Rattle.streetmap_loading.specs.Places.{PlacedValue}
use Rattle.streetmap_loading.specs.Sources.{StaysKnown, AreAll, AreWithin}
use Rattle.streetmap_loading.specs.LoadProgress.{EndsAtEdit}
use Rattle.streetmap_loading.specs.Loads.{Skips, SkippedAt}
use Rattle.streetmap_loading.specs.declared.loaded.Loaded.{Loaded}
use Rattle.streetmap_loading.specs.declared.load_fault.LoadFault.{LoadFault}
use Rattle.streetmap_loading.specs.declared.load_fault.LoadFault.TheVariants.{BadKey, BadCount, BadBatch, AtFault, ReadFailed, Memory, Refused, Stopped}
use Rattle.streetmap_loading.specs.declared.load_fault.LoadFault.TheVariants.{WriteFailed}
use Rattle.streetmap_loading.specs.Texts.{Rules, text_on, item_of_text, is_skipped, and_count}
use Rattle.streetmap_loading.specs.Texts.{count_skipped, all_in, skips_left}
use Rattle.streetmap_loading.specs.declared.text_fault.TextFault.{TextFault}
use Rattle.streetmap_loading.specs.declared.text_fault.TextFault.TheVariants.{LineTooLong}
use Rattle.streetmap_loading.proofs.TextLemmas.{some_first, here, never_skipped}

-- ---- a number that is known

pub stays : (all : Option ℕ) → StaysKnown all all
stays None = tt
stays (Some n) = refl

pub stays_then : (a b c : Option ℕ) → StaysKnown a b → StaysKnown b c → StaysKnown a c
stays_then None b c p q = tt
stays_then (Some n) b c p q = subst (λ x. StaysKnown x c) p q

-- what holds for the number that stayed holds for the number before
within_before : (a b : Option ℕ) (n : ℕ) → StaysKnown a b → AreWithin b n → AreWithin a n
within_before None b n p q = tt
within_before (Some m) b n p q = subst (λ x. AreWithin x n) p q

-- ---- one line

counted : (r : Rules) (fault : TextFault) (count : ℕ) → is_skipped r fault ≡ true →
    and_count r (Err fault) count ≡ count + 1
counted r fault count skipped = rw skipped refl

ends_count : (r : Rules) (fault : TextFault) (count : ℕ) → is_skipped r fault ≡ false →
    and_count r (Err fault) count ≡ 0
ends_count r fault count not = rw not refl

-- the number skipped in all stays
same_count : (s a b : ℕ) → a ≡ b → StaysKnown (Some (s + a)) (Some (s + b))
same_count s a b e = ap (λ n. Some (s + n)) (sym e)

-- a feature
pub edit_skips : (r : Rules) (s features : ℕ) (a b : Option Text) (line : Text) (p : PlacedValue) →
    WhereKnown a b (λ input rest. IsFirstLine 8388608 input line rest) →
    text_on (features + 1) line ≢ [] →
    item_of_text r (features + 1) (text_on (features + 1) line) ≡ Ok p →
    StaysKnown (skips_left r s features a) (skips_left r s (features + 1) b)
edit_skips r s features None b line p first some is = tt
edit_skips r s features (Some input) None line p first some is = absurd first
edit_skips r s features (Some input) (Some rest) line p first some is =
    same_count s _ _
    (ap (count_skipped r) (some_first r features input line rest (Ok p) first some is))

one_more : (s a n : ℕ) → a ≡ n + 1 → StaysKnown (Some (s + a)) (Some (s + 1 + n))
one_more s a n e = ap (λ k. Some k) (omega (arith, e))

-- a feature at fault that is skipped
pub skipped_skips : (r : Rules) (s features : ℕ) (a b : Option Text) (line : Text)
    (fault : TextFault) → WhereKnown a b (λ input rest. IsFirstLine 8388608 input line rest) →
    text_on (features + 1) line ≢ [] →
    item_of_text r (features + 1) (text_on (features + 1) line) ≡ Err fault →
    is_skipped r fault ≡ true →
    StaysKnown (skips_left r s features a) (skips_left r (s + 1) (features + 1) b)
skipped_skips r s features None b line fault first some is skipped = tt
skipped_skips r s features (Some input) None line fault first some is skipped = absurd first
skipped_skips r s features (Some input) (Some rest) line fault first some is skipped =
    one_more s _ _
    (ap (count_skipped r) (some_first r features input line rest (Err fault) first some is)
    ∙ counted r fault (count_skipped r (all_in r (features + 1) rest)) skipped)

no_more : (s a : ℕ) → a ≡ 0 → s ≡ s + a
no_more s a e = omega (arith, e)

-- a feature at fault that is not skipped
pub fault_skips : (r : Rules) (s features : ℕ) (a b : Option Text) (line : Text)
    (fault : TextFault) → WhereKnown a b (λ input rest. IsFirstLine 8388608 input line rest) →
    text_on (features + 1) line ≢ [] →
    item_of_text r (features + 1) (text_on (features + 1) line) ≡ Err fault →
    is_skipped r fault ≡ false → AreAll (skips_left r s features a) s
fault_skips r s features None b line fault first some is not = tt
fault_skips r s features (Some input) None line fault first some is not = absurd first
fault_skips r s features (Some input) (Some rest) line fault first some is not =
    no_more s _
    (ap (count_skipped r) (some_first r features input line rest (Err fault) first some is)
    ∙ ends_count r fault (count_skipped r (all_in r (features + 1) rest)) not)

-- a line that is too long
pub long_skips : (r : Rules) (s features : ℕ) (a : Option Text) →
    IfSome a (λ input. first_too_long 8388608 input ≡ Some 0) →
    AreAll (skips_left r s features a) s
long_skips r s features None h = tt
long_skips r s features (Some input) h =
    no_more s _
    (ap (count_skipped r) (here r (features + 1) (first_too_long 8388608 input) (lines input) h)
    ∙ ends_count r (LineTooLong (features + 1)) 0 (never_skipped r (features + 1)))

-- ---- how a load ended

within_at : (n skipped : ℕ) (fault : LoadFault) → EndsAtEdit fault → skipped ≤ n → SkippedAt n skipped (Some fault)
within_at n skipped (AtFault fault) at within = absurd at
within_at n skipped ReadFailed at within = within
within_at n skipped Memory at within = within
within_at n skipped (Refused why place) at within = within
within_at n skipped (Stopped fault) at within = within
within_at n skipped WriteFailed at within = within
within_at n skipped BadKey at within = within
within_at n skipped BadCount at within = within
within_at n skipped BadBatch at within = within

-- at an edit
at_edit : (all : Option ℕ) (loaded : Loaded) (fault : LoadFault) → loaded.fault ≡ Some fault → EndsAtEdit fault →
    AreWithin all loaded.skipped → Skips all loaded
at_edit None loaded fault is at within = tt
at_edit (Some n) loaded fault is at within =
    subst (λ (why : Option LoadFault). SkippedAt n loaded.skipped why) (sym is) (within_at n loaded.skipped fault at within)

pub skips_within : (all now : Option ℕ) (loaded ended : Loaded) (fault : LoadFault) → loaded ≡ ended →
    ended.fault ≡ Some fault → EndsAtEdit fault → StaysKnown all now → AreWithin now ended.skipped → Skips all loaded
skips_within all now loaded ended fault is why at stays within =
    subst (λ (x : Loaded). Skips all x) (sym is)
    (at_edit all ended fault why at (within_before all now ended.skipped stays within))

-- the skips of a source that has begun are those of its text
pub from_begin : (r : Rules) (text : Option Text) (loaded : Loaded) →
    Skips (skips_left r 0 0 text) loaded →
    Skips (option_map (λ t. count_skipped r (all_in r 0 t)) text) loaded
from_begin r None loaded h = tt
from_begin r (Some t) loaded h =
    subst (λ n. SkippedAt n loaded.skipped loaded.fault) (none_before _) h where
      none_before : (n : ℕ) → 0 + n ≡ n
      none_before n = omega arith
