-- The batch with a serial, and the key that it is kept under.
use Rattle.std.proofs.Common.{◌≡◌, ℕ, Bool, true, false, cond, T, List, [], ◌∷◌, find, None, Some}
use Rattle.std.proofs.Common.{refl, sym, ap, subst, ◌∙◌, nat_eq, arith}
use Rattle.std.specs.Ordering.{is_lt, is_eq}
use Rattle.std.specs.declared.cmp.Ordering.{Ordering}
use Rattle.std.specs.declared.cmp.Ordering.TheVariants.{Less, Equal, Greater}
use Rattle.std.specs.Cmp.Lexicographic.{nat_list_cmp_total}
use Rattle.std.specs.FinMap.{entries, get, find as find_key, is_sorted, get-entries, entries_sorted}
use Rattle.std.specs.FinMap.Entries.{below_all}
use Rattle.std.proofs.lemmas.Cmp.{tied_itself}
use Rattle.std.proofs.lemmas.Bool.Decides.{nat_tests}
use Rattle.streetmap_batch.specs.Text.{Text, text_cmp}
use Rattle.streetmap_ledger.specs.State.{State, AcceptedBatch}
use Rattle.streetmap_ledger.specs.WellFormed.{IsState}
use Rattle.streetmap_ledger.proofs.TextMaps.{one_text, first, second}
use Rattle.streetmap_ledger.specs.Kept.{KeyedBatch, has_serial, batch_in}

pub none_some : {A : Type 0} {B : Type 0} (x : A) → None ≡ Some x → B
none_some x e = cc

pub is_serial : (a b : ℕ) → nat_eq a b ≡ true → a ≡ b
is_serial a b e = grind (arith, nat_tests)

pub same_serial : (a : ℕ) → nat_eq a a ≡ true
same_serial a = grind (arith, nat_tests)

-- ---- entries in order of their keys

pub not_equal : (r : Ordering) → T (is_lt r) → is_eq r ≡ false
not_equal Less h = refl
not_equal Equal h = absurd h
not_equal Greater h = absurd h

pub none_below : (k : Text) (es : List KeyedBatch)
    → T (below_all text_cmp k es) → find_key text_cmp k es ≡ None
none_below k [] h = refl
none_below k (e ∷ es) h =
    ap (λ b. cond b (Some e.1) (find_key text_cmp k es)) (not_equal _ (first _ _ h))
    ∙ none_below k es (second _ _ h)

-- a key of the rest is not that of the first
pub apart : (e : KeyedBatch) (es : List KeyedBatch) (v : AcceptedBatch) (key : Text)
    → T (below_all text_cmp e.0 es) → find_key text_cmp key es ≡ Some v
    → (r : Ordering) → text_cmp key e.0 ≡ r
    → cond (is_eq r) (Some e.1) (find_key text_cmp key es) ≡ Some v
apart e es v key below found Less tie = found
apart e es v key below found Greater tie = found
apart e es v key below found Equal tie =
    let moved = ap (λ (k : Text). find_key text_cmp k es) (sym (one_text key e.0 tie)) in
    none_some v (sym (none_below e.0 es below) ∙ (moved ∙ found))

-- a batch is there under its key, and has the serial
abbrev pub IsUnder : ℕ → List KeyedBatch → KeyedBatch → Type 0
IsUnder n es b = (find_key text_cmp b.0 es ≡ Some b.1) × (has_serial n b ≡ true)

-- the first of these is under its key
pub here_is : (e : KeyedBatch) (es : List KeyedBatch) → find_key text_cmp e.0 (e ∷ es) ≡ Some e.1
here_is e es =
    let tied = tied_itself nat_list_cmp_total e.0 in
    ap (λ q. cond (is_eq q) (Some e.1) (find_key text_cmp e.0 es)) tied

under_by : (n : ℕ) (e : KeyedBatch) (es : List KeyedBatch) (b : KeyedBatch)
    → T (below_all text_cmp e.0 es)
    → (find (has_serial n) es ≡ Some b → IsUnder n es b)
    → (passes : Bool) → has_serial n e ≡ passes
    → cond passes (Some e) (find (has_serial n) es) ≡ Some b → IsUnder n (e ∷ es) b
under_by n e es b below rest true is h =
    let same : e ≡ b = cc in
    subst (λ (x : KeyedBatch). IsUnder n (e ∷ es) x) same (here_is e es, is)
under_by n e es b below rest false is h =
    let more = rest h in (apart e es b.1 b.0 below more.0 (text_cmp b.0 e.0) refl, more.1)

pub under : (n : ℕ) (es : List KeyedBatch) (b : KeyedBatch)
    → T (is_sorted text_cmp es) → find (has_serial n) es ≡ Some b → IsUnder n es b
under n [] b sorted h = none_some b h
under n (e ∷ es) b sorted h =
    let rest = under n es b (second _ _ sorted) in
    under_by n e es b (first _ _ sorted) rest (has_serial n e) refl h

-- a batch is found with the serial
abbrev FindsIn : ℕ → List KeyedBatch → Type 0
FindsIn n es = (b : KeyedBatch) × (find (has_serial n) es ≡ Some b)

-- if a batch is kept under a key, one is found with its serial
found_by : (key : Text) (k : AcceptedBatch) (e : KeyedBatch) (es : List KeyedBatch)
    → (find_key text_cmp key es ≡ Some k → FindsIn k.serial es)
    → (same : Bool) → cond same (Some e.1) (find_key text_cmp key es) ≡ Some k
    → (passes : Bool) → has_serial k.serial e ≡ passes
    → (b : KeyedBatch) × (cond passes (Some e) (find (has_serial k.serial) es) ≡ Some b)
found_by key k e es rest same h true is = (e, refl)
found_by key k e es rest false h false is = rest h
found_by key k e es rest true h false is =
    let one : e.1 ≡ k = cc in
    let moved = ap (λ (x : AcceptedBatch). nat_eq x.serial k.serial) (sym one) in
    let on : true ≡ false = sym (same_serial k.serial) ∙ (moved ∙ is) in
    absurd cc

found_with : (key : Text) (k : AcceptedBatch) (es : List KeyedBatch)
    → find_key text_cmp key es ≡ Some k → FindsIn k.serial es
found_with key k [] h = none_some k h
found_with key k (e ∷ es) h =
    let passes = has_serial k.serial e in
    found_by key k e es (found_with key k es) (is_eq (text_cmp key e.0)) h passes refl

-- ---- states

-- what is found with a serial is kept under its key, and has the serial
pub found_under : (s : State) (n : ℕ) (b : KeyedBatch)
    → batch_in s n ≡ Some b → (get s.keys b.0 ≡ Some b.1) × (b.1.serial ≡ n)
found_under s n b h =
    let u = under n (entries s.keys) b (entries_sorted s.keys) h in
    (get-entries s.keys b.0 ∙ u.0, is_serial b.1.serial n u.1)

-- what is kept under a key is found with its serial
pub found_of : (s : State) (key : Text) (k : AcceptedBatch)
    → IsState s → get s.keys key ≡ Some k → batch_in s k.serial ≡ Some (key, k)
found_of s key k sound h =
    let b = found_with key k (entries s.keys) (sym (get-entries s.keys key) ∙ h) in
    let u = found_under s k.serial b.0 b.1 in
    let named : b.0.0 ≡ key = sound.one_each b.0.0 key b.0.1 k u.0 h u.1 in
    let both : Some b.0.1 ≡ Some k =
    sym u.0 ∙ (ap (λ (q : Text). get s.keys q) named ∙ h) in
    let kept : b.0.1 ≡ k = cc in
    b.1 ∙ (λ i. Some (named i, kept i))
