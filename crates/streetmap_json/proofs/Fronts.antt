-- The front of a list of tokens, a step at a time.
use Rattle.std.proofs.Common.{◌≡◌, ℕ, zero, suc, ◌-◌, ◌<◌, ◌≤◌, List, [], ◌∷◌, ◌++◌, length, map, Option, Some, None, option_map, option_and_then, refl, sym, ap, ◌∙◌, arith}
use Rattle.json.specs.Token.{Token}
use Rattle.json.specs.Json as json
use Rattle.json.specs.Json.{Parse, parse_map, after_end_array, read_key, items_step, items, members, value_with}
use Rattle.json.proofs.Grammar.{value-begin_array, value-begin_object, items_end, items_more, members_end, members_no_key, members_more}
use Rattle.serde_json.specs.Data.{Num, Data, null, boolean, number, string, array, object, Items, no_items, item, Members, no_members, put}
use Rattle.serde_json.specs.Find.{as_array, as_object}
use Rattle.serde_json.specs.Read.{number_of, of_json, of_items, of_members, converted}
use Rattle.serde_json.specs.View.{view, items_view}
use Rattle.serde_json.specs.declared.value.Value.{Value}
use Rattle.streetmap_json.specs.Values.{value_at, items_at, members_at, whole}
use Rattle.streetmap_json.specs.Reads.{Fails}
use Rattle.streetmap_json.specs.declared.fault.ParseFault.{ParseFault}
use Rattle.streetmap_json.specs.declared.fault.ParseFault.TheVariants.{Memory, NotJson}

-- ---- under a conversion

abbrev pick : {A : Type 0} → A → Option A → A
pick a None = a
pick a (Some b) = b

-- a converted front comes from a front whose value converts
pub of_something : {A B : Type 0} (f : A → Option B) (o : Option (A × List Token)) (b : B) (left : List Token) → converted f o ≡ Some (b, left) → (a : A) × (o ≡ Some (a, left)) × (f a ≡ Some b)
of_something f None b left e = absurd cc
of_something {A} {B} f (Some (a, rest)) b left e = by (f a) refl e where
  by : (x : Option B) → f a ≡ x → option_map {U = B × List Token} (λ y. (y, rest)) x ≡ Some (b, left) → (c : A) × ((let o : Option (A × List Token) = Some (a, rest) in o) ≡ Some (c, left)) × (f c ≡ Some b)
  by None is h = absurd cc
  by (Some y) is h = let same = ap (pick (y, rest)) h in (a, ap (λ q. Some (a, q.1)) same, is ∙ ap (λ q. Some q.0) same)

-- a front that converts to nothing has a value that converts to nothing
of_nothing : {A B : Type 0} (f : A → Option B) (a : A) (rest : List Token) → converted f (Some (a, rest)) ≡ None → f a ≡ None
of_nothing {A} {B} f a rest e = by (f a) refl e where
  by : (x : Option B) → f a ≡ x → option_map {U = B × List Token} (λ y. (y, rest)) x ≡ None → f a ≡ None
  by None is h = is
  by (Some y) is h = absurd cc

made : {A B : Type 0} (g : A → B) (rest : List Token) (x : Option A) → option_map (λ b. (b, rest)) (option_map g x) ≡ parse_map g (option_map (λ a. (a, rest)) x)
made g rest None = refl
made g rest (Some a) = refl

-- the front of an array, and of an object
array_front : (o : Option (json.Items × List Token)) → converted of_json (parse_map json.array o) ≡ parse_map array (converted of_items o)
array_front None = refl
array_front (Some p) = made array p.1 (of_items p.0)

object_front : (o : Option (json.Members × List Token)) → converted of_json (parse_map json.object o) ≡ parse_map object (converted (λ ms. of_members ms no_members) o)
object_front None = refl
object_front (Some p) = made object p.1 (of_members p.0 no_members)

-- an opening bracket, and an opening brace
pub array_opens : (depth : ℕ) (ts : List Token) → 0 < depth → value_at depth (Token.begin_array ∷ ts) ≡ parse_map array (items_at (depth - 1) ts)
array_opens depth ts deep = ap (converted of_json) (value-begin_array depth ts deep) ∙ array_front (items (json.value (depth - 1)) (length ts) ts)

pub object_opens : (depth : ℕ) (ts : List Token) → 0 < depth → value_at depth (Token.begin_object ∷ ts) ≡ parse_map object (members_at (depth - 1) ts)
object_opens depth ts deep = ap (converted of_json) (value-begin_object depth ts deep) ∙ object_front (members (json.value (depth - 1)) (length ts) ts)

-- ---- elements

element : (j : json.Json) (d : Data) → of_json j ≡ Some d → (o : Option (json.Items × List Token)) → converted of_items (parse_map (json.item j) o) ≡ parse_map (item d) (converted of_items o)
element j d e None = refl
element j d e (Some p) = rw e (made (item d) p.1 (of_items p.0))

no_element : (more : Parse json.Items) (o : Option (json.Json × List Token)) → converted of_json o ≡ None → converted of_items (option_and_then (λ q. parse_map (json.item q.0) (more q.1)) o) ≡ None
no_element more None e = refl
no_element more (Some q) e = by (more q.1) where
  by : (o : Option (json.Items × List Token)) → converted of_items (parse_map (json.item q.0) o) ≡ None
  by None = refl
  by (Some p) = rw (of_nothing of_json q.0 q.1 e)

module _ (p : Parse json.Json) where
  -- an element comes before the bracket: it is the first, and the others follow it
  pub next_item : (n : ℕ) (ts rest : List Token) (d : Data) → 0 < n → after_end_array ts ≡ None → converted of_json (p ts) ≡ Some (d, rest)
      → converted of_items (items p n ts) ≡ parse_map (item d) (converted of_items (items p (n - 1) rest))
  next_item n ts rest d some going e =
      let j = of_something of_json (p ts) d rest e in
      ap (converted of_items) (items_more p n ts rest j.0 some going j.1) ∙ element j.0 d j.2 (items p (n - 1) rest)

  -- neither the bracket nor an element
  pub no_item : (n : ℕ) (ts : List Token) → after_end_array ts ≡ None → converted of_json (p ts) ≡ None → converted of_items (items p n ts) ≡ None
  unfolding items
  no_item zero ts going e = refl
  no_item (suc n) ts going e = ap (λ o. converted of_items (items_step p (items p n) ts o)) going ∙ no_element (items p n) (p ts) e

  -- the bracket
  pub items_done : (n : ℕ) (ts rest : List Token) → length ts ≤ n → after_end_array ts ≡ Some rest → converted of_items (items p n ts) ≡ Some (no_items, rest)
  items_done n ts rest enough e = ap (converted of_items) (items_end p n ts rest enough e)

-- ---- members, after those found before

reported : (name : List ℕ) (j : json.Json) (d : Data) (found : Members) → of_json j ≡ Some d → (o : Option (json.Members × List Token))
    → converted (λ ms. of_members ms found) (parse_map (json.member name j) o) ≡ converted (λ ms. of_members ms (put name d found)) o
reported name j d found e None = refl
reported name j d found e (Some p) = rw e

not_reported : (name : List ℕ) (found : Members) (more : Parse json.Members) (o : Option (json.Json × List Token)) → converted of_json o ≡ None
    → converted (λ ms. of_members ms found) (option_and_then (λ q. parse_map (json.member name q.0) (more q.1)) o) ≡ None
not_reported name found more None e = refl
not_reported name found more (Some q) e = by (more q.1) where
  by : (o : Option (json.Members × List Token)) → converted (λ ms. of_members ms found) (parse_map (json.member name q.0) o) ≡ None
  by None = refl
  by (Some p) = rw (of_nothing of_json q.0 q.1 e)

module _ (p : Parse json.Json) (found : Members) where
  -- a name and its value: it is put among those found
  pub next_member : (n : ℕ) (name : List ℕ) (ts following rest : List Token) (d : Data) → 0 < n → read_key ts ≡ Some (Some name, following) → converted of_json (p following) ≡ Some (d, rest)
      → converted (λ ms. of_members ms found) (members p n ts) ≡ converted (λ ms. of_members ms (put name d found)) (members p (n - 1) rest)
  next_member n name ts following rest d some key e =
      let j = of_something of_json (p following) d rest e in
      ap (converted (λ ms. of_members ms found)) (members_more p n name ts following rest j.0 some key j.1) ∙ reported name j.0 d found j.2 (members p (n - 1) rest)

  -- a name without a value
  pub no_member : (n : ℕ) (name : List ℕ) (ts following : List Token) → read_key ts ≡ Some (Some name, following) → converted of_json (p following) ≡ None → converted (λ ms. of_members ms found) (members p n ts) ≡ None
  unfolding members
  no_member zero name ts following key e = refl
  no_member (suc n) name ts following key e = rw key (not_reported name found (members p n) (p following) e)

  -- neither a name nor the brace
  pub no_name : (n : ℕ) (ts : List Token) → read_key ts ≡ None → converted (λ ms. of_members ms found) (members p n ts) ≡ None
  no_name n ts e = ap (converted (λ ms. of_members ms found)) (members_no_key p n ts e)

  -- the brace
  pub members_done : (n : ℕ) (ts rest : List Token) → length ts ≤ n → read_key ts ≡ Some (None, rest) → converted (λ ms. of_members ms found) (members p n ts) ≡ Some (found, rest)
  members_done n ts rest enough e = ap (converted (λ ms. of_members ms found)) (members_end p n ts rest enough e)

-- ---- a list of elements that grows at its end

abbrev pub before : List Data → Items → Items
before [] rest = rest
before (d ∷ ds) rest = item d (before ds rest)

pub one_more : (ds : List Data) (d : Data) (rest : Items) → before ds (item d rest) ≡ before (ds ++ d ∷ []) rest
one_more [] d rest = refl
one_more (e ∷ ds) d rest = ap (item e) (one_more ds d rest)

pub one_more_front : (ds : List Data) (d : Data) (o : Option (Items × List Token)) → parse_map (before ds) (parse_map (item d) o) ≡ parse_map (before (ds ++ d ∷ [])) o
one_more_front ds d None = refl
one_more_front ds d (Some p) = ap (λ rest. Some (rest, p.1)) (one_more ds d p.0)

pub before_none : (vs : List Value) → before (map view vs) no_items ≡ items_view vs
before_none [] = refl
before_none (v ∷ vs) = ap (item (view v)) (before_none vs)

pub none_before : (o : Option (Items × List Token)) → o ≡ parse_map (λ rest. rest) o
none_before None = refl
none_before (Some p) = refl

-- ---- what was returned

-- a fault is passed on to a second front that is none whenever the first is none
pub handed_on : {Y W : Type 0} (fault : ParseFault) (front : Option (Y × List Token)) (of : Option (W × List Token)) → (front ≡ None → of ≡ None) → Fails fault front → Fails fault of
handed_on Memory front of none h = tt
handed_on NotJson front of none h = none h

-- ---- the whole text

pub whole_value : (o : Option (json.Json × List Token)) (d : Data) → converted of_json o ≡ Some (d, []) → whole o ≡ Some d
whole_value o d e = let j = of_something of_json o d [] e in ap whole j.1 ∙ j.2

-- tokens after the value
pub more_than_a_value : (o : Option (json.Json × List Token)) (d : Data) (t : Token) (rest : List Token) → converted of_json o ≡ Some (d, t ∷ rest) → whole o ≡ None
more_than_a_value o d t rest e = ap whole (of_something of_json o d (t ∷ rest) e).1

pub no_value : (o : Option (json.Json × List Token)) → converted of_json o ≡ None → whole o ≡ None
no_value None e = refl
no_value (Some (j, [])) e = of_nothing of_json j [] e
no_value (Some (j, t ∷ rest)) e = refl

-- ---- what begins with a bracket, and what with a brace

front_is : {A : Type 0} (a : A) (ts left : List Token) (b : A) → (let o : Option (A × List Token) = Some (a, ts) in o) ≡ Some (b, left) → a ≡ b
front_is a ts left b e = ap (λ q. q.0) (ap (pick (a, ts)) e)

made_by : {A : Type 0} (g : A → Data) (o : Option (A × List Token)) (d : Data) (left : List Token) → parse_map g o ≡ Some (d, left) → (a : A) × (d ≡ g a)
made_by g None d left e = absurd cc
made_by g (Some p) d left e = (p.0, sym (front_is (g p.0) p.1 left d e))

number_made : (x : Option Num) (ts left : List Token) (d : Data) → option_map {U = Data × List Token} (λ y. (y, ts)) (option_map number x) ≡ Some (d, left) → (n : Num) × (d ≡ number n)
number_made None ts left d e = absurd cc
number_made (Some n) ts left d e = (n, sym (front_is (number n) ts left d e))

nothing : {B : Type 0} {b : B} → None ≡ Some b → ⊥
nothing h = absurd cc

too_deep_object : (ts : List Token) → value_at 0 (Token.begin_object ∷ ts) ≡ None
unfolding json.value
too_deep_object ts = refl

too_deep_array : (ts : List Token) → value_at 0 (Token.begin_array ∷ ts) ≡ None
unfolding json.value
too_deep_array ts = refl

abbrev nested_items : ℕ → Parse json.Items
nested_items zero ts = None
nested_items (suc depth) ts = items (json.value depth) (length ts) ts

abbrev nested_members : ℕ → Parse json.Members
nested_members zero ts = None
nested_members (suc depth) ts = members (json.value depth) (length ts) ts

pub empty_front : (depth : ℕ) → value_at depth [] ≡ None
unfolding json.value
empty_front zero = refl
empty_front (suc depth) = refl

-- at a token that opens nothing the depth does not matter
plain_front : (depth : ℕ) (t : Token) (ts : List Token) → value_at depth (t ∷ ts) ≡ converted of_json (value_with (nested_items depth) (nested_members depth) (t ∷ ts))
unfolding json.value
plain_front zero t ts = refl
plain_front (suc depth) t ts = refl

-- what does not begin with a bracket is no array
pub no_array : (depth : ℕ) (t : Token) (ts left : List Token) (d : Data) → value_at depth (t ∷ ts) ≡ Some (d, left) → (t ≡ Token.begin_array → ⊥) → as_array d ≡ None
no_array zero Token.begin_object ts left d e other = absurd (nothing (sym (too_deep_object ts) ∙ e))
no_array (suc n) Token.begin_object ts left d e other = rw (made_by object (members_at (suc n - 1) ts) d left (sym (object_opens (suc n) ts (omega arith)) ∙ e)).1
no_array depth Token.begin_array ts left d e other = absurd (other refl)
no_array depth Token.end_object ts left d e other = absurd (nothing (sym (plain_front depth Token.end_object ts) ∙ e))
no_array depth Token.end_array ts left d e other = absurd (nothing (sym (plain_front depth Token.end_array ts) ∙ e))
no_array depth (Token.key s) ts left d e other = absurd (nothing (sym (plain_front depth (Token.key s) ts) ∙ e))
no_array depth Token.bad ts left d e other = absurd (nothing (sym (plain_front depth Token.bad ts) ∙ e))
no_array depth (Token.string s) ts left d e other = rw (← front_is (string s) ts left d (sym (plain_front depth (Token.string s) ts) ∙ e))
no_array depth (Token.boolean b) ts left d e other = rw (← front_is (boolean b) ts left d (sym (plain_front depth (Token.boolean b) ts) ∙ e))
no_array depth Token.null ts left d e other = rw (← front_is (null) ts left d (sym (plain_front depth Token.null ts) ∙ e))
no_array depth (Token.number s) ts left d e other = rw (number_made (number_of s) ts left d (sym (plain_front depth (Token.number s) ts) ∙ e)).1

-- what does not begin with a brace is no object
pub no_object : (depth : ℕ) (t : Token) (ts left : List Token) (d : Data) → value_at depth (t ∷ ts) ≡ Some (d, left) → (t ≡ Token.begin_object → ⊥) → as_object d ≡ None
no_object zero Token.begin_array ts left d e other = absurd (nothing (sym (too_deep_array ts) ∙ e))
no_object (suc n) Token.begin_array ts left d e other = rw (made_by array (items_at (suc n - 1) ts) d left (sym (array_opens (suc n) ts (omega arith)) ∙ e)).1
no_object depth Token.begin_object ts left d e other = absurd (other refl)
no_object depth Token.end_object ts left d e other = absurd (nothing (sym (plain_front depth Token.end_object ts) ∙ e))
no_object depth Token.end_array ts left d e other = absurd (nothing (sym (plain_front depth Token.end_array ts) ∙ e))
no_object depth (Token.key s) ts left d e other = absurd (nothing (sym (plain_front depth (Token.key s) ts) ∙ e))
no_object depth Token.bad ts left d e other = absurd (nothing (sym (plain_front depth Token.bad ts) ∙ e))
no_object depth (Token.string s) ts left d e other = rw (← front_is (string s) ts left d (sym (plain_front depth (Token.string s) ts) ∙ e))
no_object depth (Token.boolean b) ts left d e other = rw (← front_is (boolean b) ts left d (sym (plain_front depth (Token.boolean b) ts) ∙ e))
no_object depth Token.null ts left d e other = rw (← front_is (null) ts left d (sym (plain_front depth Token.null ts) ∙ e))
no_object depth (Token.number s) ts left d e other = rw (number_made (number_of s) ts left d (sym (plain_front depth (Token.number s) ts) ∙ e)).1
