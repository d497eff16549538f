-- Lines of a text, and the features on them.
use Rattle.std.proofs.Common.{◌≡◌, ◌≢◌, ℕ, ◌+◌, ◌-◌, Bool, true, false, List, [], ◌∷◌, Option}
use Rattle.std.proofs.Common.{None, Some, option_map, Ok, Err, IfSome, refl, sym, ap, subst, ◌∙◌}
use Rattle.std.proofs.Common.{arith, eqb, length}
use Rattle.std.specs.Prelude.{◌&&◌, is_some}
use Rattle.std.proofs.lemmas.Bool.Decides.{nat_tests}
use Rattle.std.specs.Io.KnownBytes.{Keeps, IsAtEnd}
use Rattle.std.specs.Str.Lines.{lines}
use Rattle.streetmap_batch.specs.Text.{Text}
use Rattle.streetmap_text_lines.specs.Lines.{first_too_long}
use Rattle.streetmap_text_lines.specs.LineReads.{WhereKnown, IsFirstLine}
use Rattle.streetmap_loading.specs.Places.{PlacedValue}
use Rattle.streetmap_loading.specs.Sources.{Item, TakesOff, HasNoItem, FirstIs}
use Rattle.streetmap_loading.specs.TextView.{rules_value, and_left}
use Rattle.streetmap_loading.specs.declared.rules.FeatureRules.{FeatureRules}
use Rattle.streetmap_loading.specs.declared.source.PlacedEdit.{PlacedEdit}
use Rattle.streetmap_loading.proofs.Taking.{takes_then}
use Rattle.streetmap_loading.specs.Texts.{Rules, text_on, item_of_text, on_text, and_more}
use Rattle.streetmap_loading.specs.Texts.{is_skipped, is_here, one_less, not_skipped, items_in}
use Rattle.streetmap_loading.specs.Texts.{items_left, all_on, all_in}
use Rattle.streetmap_loading.specs.declared.text_fault.TextFault.{TextFault}
use Rattle.streetmap_loading.specs.declared.text_fault.TextFault.TheVariants.{LineTooLong}

not_here : (o : Option ℕ) → is_here (option_map (λ n. 1 + n) o) ≡ false
not_here None = refl
not_here (Some n) = grind (arith, nat_tests)

one_more_less : (o : Option ℕ) → one_less (option_map (λ n. 1 + n) o) ≡ o
one_more_less None = refl
one_more_less (Some n) = let e : 1 + n - 1 ≡ n = omega arith in ap Some e

-- the items of the first line, and of the lines after it
on_line : (r : Rules) (place : ℕ) (o : Option ℕ) (line : Text) (rest : List Text) →
    all_on r place (option_map (λ n. 1 + n) o) (line ∷ rest) ≡ on_text r place
    (text_on place line) (all_on r place o rest) (all_on r (place + 1) o rest)
on_line r place o line rest = rw (not_here o, one_more_less o) refl

on_first : (r : Rules) (features : ℕ) (input line rest : Text) →
    IsFirstLine 8388608 input line rest →
    all_in r features input ≡ on_text r (features + 1) (text_on (features + 1) line)
    (all_in r features rest) (all_in r (features + 1) rest)
on_first r features input line rest first =
    ap (λ o. all_on r (features + 1) o (lines input)) first.short ∙
    (ap (λ ls. all_on r (features + 1) (option_map (λ n. 1 + n) (first_too_long 8388608 rest))
    ls) first.first
    ∙ on_line r (features + 1) (first_too_long 8388608 rest) line (lines rest))

on_none : (r : Rules) (place : ℕ) (text : Text) (same next : List Item) → text ≡ [] →
    on_text r place text same next ≡ same
on_none r place text same next none = ap (λ t. on_text r place t same next) none

on_some : (r : Rules) (place : ℕ) (text : Text) (same next : List Item) → text ≢ [] →
    on_text r place text same next ≡ item_of_text r place text ∷ next
on_some r place [] same next some = absurd (some refl)
on_some r place (b ∷ bs) same next some = refl

-- ---- one line

-- for all features, including those that are skipped
pub none_first : (r : Rules) (features : ℕ) (input line rest : Text) →
    IsFirstLine 8388608 input line rest → text_on (features + 1) line ≡ [] →
    all_in r features input ≡ all_in r features rest
none_first r features input line rest first none =
    on_first r features input line rest first ∙ on_none r (features + 1)
    (text_on (features + 1) line) (all_in r features rest) (all_in r (features + 1) rest) none

pub some_first : (r : Rules) (features : ℕ) (input line rest : Text) (item : Item) →
    IsFirstLine 8388608 input line rest → text_on (features + 1) line ≢ [] →
    item_of_text r (features + 1) (text_on (features + 1) line) ≡ item →
    all_in r features input ≡ item ∷ all_in r (features + 1) rest
some_first r features input line rest item first some is =
    on_first r features input line rest first
    ∙ (on_some r (features + 1) (text_on (features + 1) line) (all_in r features rest)
    (all_in r (features + 1) rest) some
    ∙ ap (λ x. x ∷ all_in r (features + 1) rest) is)

-- a line without a text
pub past_line : (r : Rules) (features : ℕ) (a b : Option Text) (line : Text) →
    WhereKnown a b (λ input rest. IsFirstLine 8388608 input line rest) →
    text_on (features + 1) line ≡ [] → TakesOff (items_left r features a)
    (items_left r features b)
    []
past_line r features None b line first none = tt
past_line r features (Some input) None line first none = absurd first
past_line r features (Some input) (Some rest) line first none =
    ap (not_skipped r) (none_first r features input line rest first none)

-- a feature
pub one_edit : (r : Rules) (features : ℕ) (a b : Option Text) (line : Text) (p : PlacedValue) →
    WhereKnown a b (λ input rest. IsFirstLine 8388608 input line rest) →
    text_on (features + 1) line ≢ [] → item_of_text r (features + 1) (text_on (features + 1) line)
    ≡
    Ok p →
    TakesOff (items_left r features a) (items_left r (features + 1) b) (Ok p ∷ [])
one_edit r features None b line p first some is = tt
one_edit r features (Some input) None line p first some is = absurd first
one_edit r features (Some input) (Some rest) line p first some is =
    ap (not_skipped r) (some_first r features input line rest (Ok p) first some is)

skipped_more : (r : Rules) (fault : TextFault) (more : List Item) → is_skipped r fault ≡ true →
    and_more r (Err fault) more ≡ more
skipped_more r fault more skipped = rw skipped refl

faulty_more : (r : Rules) (fault : TextFault) (more : List Item) → is_skipped r fault ≡ false →
    and_more r (Err fault) more ≡ Err fault ∷ more
faulty_more r fault more not = rw not refl

-- a feature at fault that is skipped
pub one_skipped : (r : Rules) (features : ℕ) (a b : Option Text) (line : Text) (fault : TextFault)
    →
    WhereKnown a b (λ input rest. IsFirstLine 8388608 input line rest) →
    text_on (features + 1) line ≢ [] → item_of_text r (features + 1) (text_on (features + 1) line)
    ≡
    Err fault → is_skipped r fault ≡ true →
    TakesOff (items_left r features a) (items_left r (features + 1) b) []
one_skipped r features None b line fault first some is skipped = tt
one_skipped r features (Some input) None line fault first some is skipped = absurd first
one_skipped r features (Some input) (Some rest) line fault first some is skipped =
    ap (not_skipped r) (some_first r features input line rest (Err fault) first some is)
    ∙ skipped_more r fault (items_in r (features + 1) rest) skipped

-- a feature at fault that is not skipped
pub one_fault : (r : Rules) (features : ℕ) (a b : Option Text) (line : Text) (fault : TextFault) →
    WhereKnown a b (λ input rest. IsFirstLine 8388608 input line rest) →
    text_on (features + 1) line ≢ [] → item_of_text r (features + 1) (text_on (features + 1) line)
    ≡
    Err fault → is_skipped r fault ≡ false →
    FirstIs (items_left r features a) fault
one_fault r features None b line fault first some is not = tt
one_fault r features (Some input) None line fault first some is not = absurd first
one_fault r features (Some input) (Some rest) line fault first some is not = (
  items_in r (features + 1) rest,
  ap (not_skipped r) (some_first r features input line rest (Err fault) first some is)
      ∙ faulty_more r fault (items_in r (features + 1) rest) not,
)

-- no line is left
pub no_items : (r : Rules) (features : ℕ) (input : Text) → input ≡ [] → all_in r features input ≡ []
no_items r features input none = ap (λ t. all_in r features t) none

pub at_end : (r : Rules) (features : ℕ) (a b : Option Text) → Keeps a b × IsAtEnd a →
    TakesOff (items_left r features a) (items_left r features b) [] × HasNoItem
    (items_left r features a) (items_left r features b)
at_end r features None b end = (tt, tt)
at_end r features (Some input) None end = absurd end.0
at_end r features (Some input) (Some rest) end = (
  ap (λ t. items_in r features t) (sym end.0),
  ap (not_skipped r) (no_items r features rest (end.0 ∙ end.1)),
)

pub here : (r : Rules) (place : ℕ) (o : Option ℕ) (ls : List Text) → o ≡ Some 0 →
    all_on r place o ls ≡ Err (LineTooLong place) ∷ []
here r place o [] e = ap (λ x. all_on r place x []) e
here r place o (l ∷ ls) e = ap (λ x. all_on r place x (l ∷ ls)) e

-- such a line is not skipped
pub never_skipped : (r : Rules) (place : ℕ) → is_skipped r (LineTooLong place) ≡ false
never_skipped r place = never (is_some r.skip) where
  never : (b : Bool) → (b && false) ≡ false
  never true = refl
  never false = refl

-- a line that is too long
pub too_long : (r : Rules) (features : ℕ) (a : Option Text) →
    IfSome a (λ input. first_too_long 8388608 input ≡ Some 0) →
    FirstIs (items_left r features a) (LineTooLong (features + 1))
too_long r features None h = tt
too_long r features (Some input) h = (
  [],
  ap (not_skipped r) (here r (features + 1) (first_too_long 8388608 input) (lines input) h)
      ∙ faulty_more r (LineTooLong (features + 1)) [] (never_skipped r (features + 1)),
)

pub no_text : (text : Text) (b : Bool) → b ≡ eqb (length text) 0 → b ≡ true → text ≡ []
no_text [] b is on = refl
no_text (x ∷ xs) b is on = let h : false ≡ true = sym (grind (arith, nat_tests)) ∙ (sym is ∙ on)
    in
    cc

pub some_text : (text : Text) (b : Bool) → b ≡ eqb (length text) 0 → b ≡ false → text ≢ []
some_text [] b is off none = let h : true ≡ false = sym is ∙ off in cc
some_text (x ∷ xs) b is off none = cc

-- ---- after an opening

lift_off : (a b : Option (List Item)) (xs : List Item) → TakesOff a b xs →
    TakesOff (and_left None a) (and_left None b) xs
lift_off None b xs off = tt
lift_off (Some items) None xs off = absurd off
lift_off (Some items) (Some rest) xs off = off

module _ (old new : FeatureRules) (f n : ℕ) (a b : Option Text) (p q : Option PlacedEdit)
    (mid : Option (List Item)) (before : p ≡ None) (same : new ≡ old)
    (off : TakesOff (items_left (rules_value old) f a) mid []) where
  pub next_off : (xs : List Item) → q ≡ None → TakesOff mid (items_left (rules_value old) n b) xs
      →
      TakesOff (and_left p (items_left (rules_value old) f a))
      (and_left q (items_left (rules_value new) n b)) xs
  next_off xs after took =
      subst (λ (x : Option PlacedEdit). TakesOff (and_left x (items_left (rules_value old) f a))
      (and_left q (items_left (rules_value new) n b)) xs) (sym before)
      (subst (λ (x : Option PlacedEdit). TakesOff
      (and_left None (items_left (rules_value old) f a))
      (and_left x (items_left (rules_value new) n b)) xs) (sym after)
      (subst (λ (x : FeatureRules). TakesOff (and_left None (items_left (rules_value old) f a))
      (and_left None (items_left (rules_value x) n b)) xs) (sym same)
      (lift_off (items_left (rules_value old) f a) (items_left (rules_value old) n b) xs
      (takes_then (items_left (rules_value old) f a) mid
      (items_left (rules_value old) n b) [] xs off took))))
