-- A text is read as tags exactly if it is a list of them.
use Rattle.std.proofs.Common.{◌≡◌, ◌⊎◌, inl, inr, ℕ, ◌∙◌, List, [], ◌∷◌, ◌++◌, Bool, true, false, refl, sym, ap, subst, append_assoc, append-nil}
use Rattle.std.proofs.lemmas.Bool.{eqb-true}
use Rattle.std.specs.Prelude.{Option, None, Some, option_map, option_and_then, ◌||◌, ◌&&◌, ◌==◌, if◌then◌else◌, ◌↔◌}
use Rattle.std.specs.List.{list_all}
use Rattle.streetmap_http.specs.Tags.{TagValue, Place, between, after_letter, after_slash, within, after, tags_from, tags_of, with_tag, step, ended, is_tag_byte, is_space}
use Rattle.streetmap_http.specs.TagGrammar.{is_white, mark_text, tag_text, IsElement, blank, written, IsTagList, last, more}

-- ---- tests and options

both_true : (a b : Bool) → a ≡ true → b ≡ true → (a && b) ≡ true
both_true true true one two = refl
both_true true false one two = two
both_true false b one two = one

parts_true : (a b : Bool) → (a && b) ≡ true → (a ≡ true) × (b ≡ true)
parts_true true b h = (refl, h)
parts_true false b h = cc

map_none : (o : Option (List TagValue)) → option_map (with_tag None) o ≡ o
map_none None = refl
map_none (Some ts) = refl

map_some : (t : TagValue) (o : Option (List TagValue)) (ts : List TagValue) → option_map (with_tag (Some t)) o ≡ Some ts
    → (us : List TagValue) × (o ≡ Some us) × (ts ≡ t ∷ us)
map_some t None ts e = cc
map_some t (Some us) ts e = (us, refl, cc)

-- a tag of a kind with this text
abbrev tag_with : Bool → List ℕ → TagValue
tag_with weak opaque = record { weak = weak; opaque = opaque }

-- ---- what the rest of a list is at a place

-- white space up to the end or the next comma
abbrev IsAfter : List ℕ → List TagValue → Type 0
IsAfter text ts = (white : List ℕ) × (is_white white ≡ true)
    × (((text ≡ white) × (ts ≡ [])) ⊎ ((rest : List ℕ) × (text ≡ white ++ 44 ∷ rest) × IsTagList rest ts))

-- the bytes of a tag up to its quote, and what follows it
abbrev IsWithin : Bool → List ℕ → List ℕ → List TagValue → Type 0
IsWithin weak opaque text ts = (bytes tail : List ℕ) × (us : List TagValue) × (text ≡ bytes ++ 34 ∷ tail) × (list_all is_tag_byte bytes ≡ true)
    × IsAfter tail us × (ts ≡ tag_with weak (opaque ++ bytes) ∷ us)

abbrev Rest : Place → List ℕ → List TagValue → Type 0
Rest between text ts = IsTagList text ts
Rest after_letter text ts = (tail : List ℕ) × (text ≡ 47 ∷ 34 ∷ tail) × IsWithin true [] tail ts
Rest after_slash text ts = (tail : List ℕ) × (text ≡ 34 ∷ tail) × IsWithin true [] tail ts
Rest (within weak opaque) text ts = IsWithin weak opaque text ts
Rest after text ts = IsAfter text ts

-- ---- lists from their parts

space_element : (b : ℕ) (text : List ℕ) (ts : List TagValue) → is_space b ≡ true → IsElement text ts → IsElement (b ∷ text) ts
space_element b text ts space (blank white none) = blank (both_true (is_space b) (is_white text) space white) none
space_element b text ts space (written w v tag before later opaque is are) =
    written (b ∷ w) v tag (both_true (is_space b) (is_white w) space before) later opaque (ap (λ l. b ∷ l) is) are

space_list : (b : ℕ) (text : List ℕ) (ts : List TagValue) → is_space b ≡ true → IsTagList text ts → IsTagList (b ∷ text) ts
space_list b text ts space (last _ _ it) = last (b ∷ text) ts (space_element b text ts space it)
space_list b text ts space (more _ element rest _ one others it list is are) =
    more (b ∷ text) (b ∷ element) rest ts one others (space_element b element one space it) list (ap (λ l. b ∷ l) is) are

-- a tag, and what follows it
tag_list : (weak : Bool) (bytes tail : List ℕ) (us : List TagValue) → list_all is_tag_byte bytes ≡ true → IsAfter tail us
    → IsTagList (tag_text (tag_with weak bytes) ++ tail) (tag_with weak bytes ∷ us)
tag_list weak bytes tail us fine (white, is_so, inl (is, none)) =
    let t = tag_with weak bytes in
    last _ _ (written [] white t refl is_so fine (ap (λ l. tag_text t ++ l) is) (ap (λ l. t ∷ l) none))
tag_list weak bytes tail us fine (white, is_so, inr (rest, is, list)) =
    let t = tag_with weak bytes in
    more _ (tag_text t ++ white) rest _ (t ∷ []) us (written [] white t refl is_so fine refl refl) list
    (ap (λ l. tag_text t ++ l) is ∙ sym (append_assoc (tag_text t) white (44 ∷ rest))) refl

within_text : (weak : Bool) (bytes tail : List ℕ) → mark_text weak ++ (34 ∷ (bytes ++ 34 ∷ tail)) ≡ tag_text (tag_with weak bytes) ++ tail
within_text weak bytes tail =
    ap (λ l. mark_text weak ++ (34 ∷ l)) (sym (append_assoc bytes (34 ∷ []) tail))
    ∙ sym (append_assoc (mark_text weak) (34 ∷ (bytes ++ 34 ∷ [])) tail)

within_list : (weak : Bool) (text : List ℕ) (ts : List TagValue) → IsWithin weak [] text ts → IsTagList (mark_text weak ++ (34 ∷ text)) ts
within_list weak text ts (bytes, tail, us, is, fine, later, are) =
    let list = tag_list weak bytes tail us fine later in
    let same : mark_text weak ++ (34 ∷ text) ≡ tag_text (tag_with weak bytes) ++ tail = ap (λ l. mark_text weak ++ (34 ∷ l)) is ∙ within_text weak bytes tail in
    subst (λ l. IsTagList l ts) (sym same) (subst (λ l. IsTagList (tag_text (tag_with weak bytes) ++ tail) l) (sym are) list)

-- ---- what was read is a list

module _ (b : ℕ) (rest : List ℕ) (ts : List TagValue) (later : (p : Place) (us : List TagValue) → tags_from p rest ≡ Some us → Rest p rest us) where
  -- the next place, with no tag that ends
  abbrev goes : Option Place → Option (List TagValue)
  goes o = option_and_then (λ (next : Place). option_map (with_tag None) (tags_from next rest)) o

  here : (p : Place) → goes (Some p) ≡ Some ts → Rest p rest ts
  here p e = later p ts (sym (map_none (tags_from p rest)) ∙ e)

  -- at the byte
  at_byte : (n : ℕ) (P : List ℕ → Type 0) → (b == n) ≡ true → P (n ∷ rest) → P (b ∷ rest)
  at_byte n P is h = subst (λ c. P (c ∷ rest)) (sym (eqb-true b n is)) h

  between_by : (s c q w : Bool) → is_space b ≡ s → (b == 44) ≡ c → (b == 34) ≡ q → (b == 87) ≡ w
      → goes (if s || c then Some between else (if q then Some (within false []) else (if w then Some after_letter else None))) ≡ Some ts
      → IsTagList (b ∷ rest) ts
  between_by true c q w hs hc hq hw e = space_list b rest ts hs (here between e)
  between_by false true q w hs hc hq hw e =
      at_byte 44 (λ l. IsTagList l ts) hc (more (44 ∷ rest) [] rest ts [] ts (blank refl refl) (here between e) refl refl)
  between_by false false true w hs hc hq hw e = at_byte 34 (λ l. IsTagList l ts) hq (within_list false rest ts (here (within false []) e))
  between_by false false false true hs hc hq hw e =
      let it = here after_letter e in
      at_byte 87 (λ l. IsTagList l ts) hw
      (subst (λ l. IsTagList (87 ∷ l) ts) (sym it.1) (within_list true it.0 ts it.2))
  between_by false false false false hs hc hq hw e = cc

  letter_by : (q : Bool) → (b == 47) ≡ q → goes (if q then Some after_slash else None) ≡ Some ts → Rest after_letter (b ∷ rest) ts
  letter_by true is e = let it = here after_slash e in (it.0, at_byte 47 (λ l. l ≡ 47 ∷ 34 ∷ it.0) is (ap (λ l. 47 ∷ l) it.1), it.2)
  letter_by false is e = cc

  slash_by : (q : Bool) → (b == 34) ≡ q → goes (if q then Some (within true []) else None) ≡ Some ts → Rest after_slash (b ∷ rest) ts
  slash_by true is e = (rest, at_byte 34 (λ l. l ≡ 34 ∷ rest) is refl, here (within true []) e)
  slash_by false is e = cc

  space_after : is_space b ≡ true → IsAfter rest ts → IsAfter (b ∷ rest) ts
  space_after space (white, is_so, inl (is, none)) = (b ∷ white, both_true (is_space b) (is_white white) space is_so, inl (ap (λ l. b ∷ l) is, none))
  space_after space (white, is_so, inr (tail, is, list)) =
      (b ∷ white, both_true (is_space b) (is_white white) space is_so, inr (tail, ap (λ l. b ∷ l) is, list))

  after_by : (c s : Bool) → (b == 44) ≡ c → is_space b ≡ s → goes (if c then Some between else (if s then Some after else None)) ≡ Some ts
      → IsAfter (b ∷ rest) ts
  after_by true s hc hs e = ([], refl, inr (rest, at_byte 44 (λ l. l ≡ 44 ∷ rest) hc refl, here between e))
  after_by false true hc hs e = space_after hs (here after e)
  after_by false false hc hs e = cc

  within_by : (weak : Bool) (opaque : List ℕ) (q t : Bool) → (b == 34) ≡ q → is_tag_byte b ≡ t
      → option_and_then (λ (next : Place). option_map (with_tag (if q then Some (tag_with weak opaque) else None)) (tags_from next rest))
      (if q then Some after else (if t then Some (within weak (opaque ++ b ∷ [])) else None)) ≡ Some ts
      → IsWithin weak opaque (b ∷ rest) ts
  within_by weak opaque true t hq ht e =
      let it = map_some (tag_with weak opaque) (tags_from after rest) ts e in (
        [],
        rest,
        it.0,
        at_byte 34 (λ l. l ≡ 34 ∷ rest) hq refl,
        refl,
        later after it.0 it.1,
        it.2 ∙ ap (λ l. tag_with weak l ∷ it.0) (sym (append-nil opaque)),
      )
  within_by weak opaque false true hq ht e =
      let it = here (within weak (opaque ++ b ∷ [])) e in (
        b ∷ it.0,
        it.1,
        it.2,
        ap (λ l. b ∷ l) it.3,
        both_true (is_tag_byte b) (list_all is_tag_byte it.0) ht it.4,
        it.5,
        it.6 ∙ ap (λ l. tag_with weak l ∷ it.2) (append_assoc opaque (b ∷ []) it.0),
      )
  within_by weak opaque false false hq ht e = cc

  read_byte : (p : Place) → tags_from p (b ∷ rest) ≡ Some ts → Rest p (b ∷ rest) ts
  unfolding tags_from
  read_byte between e = between_by (is_space b) (b == 44) (b == 34) (b == 87) refl refl refl refl e
  read_byte after_letter e = letter_by (b == 47) refl e
  read_byte after_slash e = slash_by (b == 34) refl e
  read_byte (within weak opaque) e = within_by weak opaque (b == 34) (is_tag_byte b) refl refl e
  read_byte after e = after_by (b == 44) (is_space b) refl refl e

read_end : (p : Place) (ts : List TagValue) → tags_from p [] ≡ Some ts → Rest p [] ts
unfolding tags_from
read_end between ts e = last [] ts (blank refl cc)
read_end after_letter ts e = cc
read_end after_slash ts e = cc
read_end (within weak opaque) ts e = cc
read_end after ts e = ([], refl, inl (refl, cc))

pub read_so : (text : List ℕ) (p : Place) (ts : List TagValue) → tags_from p text ≡ Some ts → Rest p text ts
read_so [] p ts e = read_end p ts e
read_so (b ∷ rest) p ts e = read_byte b rest ts (λ q us is. read_so rest q us is) p e

-- ---- a list is read so

-- a byte that leads to a place, with no tag that ends
step_to : (p q : Place) (b : ℕ) (rest : List ℕ) → step p b ≡ Some q → ended p b ≡ None → tags_from p (b ∷ rest) ≡ tags_from q rest
unfolding tags_from
step_to p q b rest goes none =
    ap (λ (o : Option Place). option_and_then (λ (next : Place). option_map (with_tag (ended p b)) (tags_from next rest)) o) goes
    ∙ ap (λ (o : Option TagValue). option_map (with_tag o) (tags_from q rest)) none ∙ map_none (tags_from q rest)

space_between : (b : ℕ) (s : Bool) → s ≡ true → (if s || (b == 44) then Some between else (if b == 34 then Some (within false []) else (if b == 87 then Some after_letter else None))) ≡ Some between
space_between b true is = refl
space_between b false is = cc

white_between : (white rest : List ℕ) → is_white white ≡ true → tags_from between (white ++ rest) ≡ tags_from between rest
white_between [] rest is = refl
white_between (b ∷ white) rest is =
    let it = parts_true (is_space b) (is_white white) is in
    step_to between between b (white ++ rest) (space_between b (is_space b) it.0) refl ∙ white_between white rest it.1

space_goes : (b : ℕ) (c s : Bool) → (b == 44) ≡ c → is_space b ≡ s → s ≡ true → (if c then Some between else (if s then Some after else None)) ≡ Some after
space_goes b false true hc hs is = refl
space_goes b false false hc hs is = cc
space_goes b true s hc hs is =
    let at : is_space 44 ≡ true = subst (λ n. is_space n ≡ true) (eqb-true b 44 hc) (hs ∙ is) in
    let bad : false ≡ true = at in
    cc

white_after : (white rest : List ℕ) → is_white white ≡ true → tags_from after (white ++ rest) ≡ tags_from after rest
white_after [] rest is = refl
white_after (b ∷ white) rest is =
    let it = parts_true (is_space b) (is_white white) is in
    step_to after after b (white ++ rest) (space_goes b (b == 44) (is_space b) refl refl it.0) refl ∙ white_after white rest it.1

-- the bytes of a tag
not_quote : (b : ℕ) (q : Bool) → (b == 34) ≡ q → is_tag_byte b ≡ true → q ≡ false
not_quote b false is fine = refl
not_quote b true is fine =
    let at : is_tag_byte 34 ≡ true = subst (λ n. is_tag_byte n ≡ true) (eqb-true b 34 is) fine in
    let bad : false ≡ true = at in
    cc

byte_goes : (weak : Bool) (opaque : List ℕ) (b : ℕ) (q t : Bool) → q ≡ false → t ≡ true
    → ◌≡◌ {A = Option Place} (if q then Some after else (if t then Some (within weak (opaque ++ b ∷ [])) else None)) (Some (within weak (opaque ++ b ∷ [])))
byte_goes weak opaque b false true hq ht = refl
byte_goes weak opaque b false false hq ht = cc
byte_goes weak opaque b true t hq ht = cc

none_ends : (tag : TagValue) (q : Bool) → q ≡ false → ◌≡◌ {A = Option TagValue} (if q then Some tag else None) None
none_ends tag false is = refl
none_ends tag true is = cc

bytes_within : (weak : Bool) (opaque bytes rest : List ℕ) → list_all is_tag_byte bytes ≡ true
    → tags_from (within weak opaque) (bytes ++ 34 ∷ rest) ≡ option_map (with_tag (Some (tag_with weak (opaque ++ bytes)))) (tags_from after rest)
unfolding tags_from
bytes_within weak opaque [] rest fine = ap (λ l. option_map (with_tag (Some (tag_with weak l))) (tags_from after rest)) (sym (append-nil opaque))
bytes_within weak opaque (b ∷ bytes) rest fine =
    let it = parts_true (is_tag_byte b) (list_all is_tag_byte bytes) fine in
    let no : (b == 34) ≡ false = not_quote b (b == 34) refl it.0 in
    step_to (within weak opaque) (within weak (opaque ++ b ∷ [])) b (bytes ++ 34 ∷ rest) (byte_goes weak opaque b (b == 34) (is_tag_byte b) no it.0)
    (none_ends (tag_with weak opaque) (b == 34) no)
    ∙ bytes_within weak (opaque ++ b ∷ []) bytes rest it.1
    ∙ ap (λ l. option_map (with_tag (Some (tag_with weak l))) (tags_from after rest)) (append_assoc opaque (b ∷ []) bytes)

mark_read : (weak : Bool) (rest : List ℕ) → tags_from between (mark_text weak ++ (34 ∷ rest)) ≡ tags_from (within weak []) rest
mark_read true rest =
    step_to between after_letter 87 (47 ∷ 34 ∷ rest) refl refl ∙ step_to after_letter after_slash 47 (34 ∷ rest) refl refl
    ∙ step_to after_slash (within true []) 34 rest refl refl
mark_read false rest = step_to between (within false []) 34 rest refl refl

tag_read : (tag : TagValue) (rest : List ℕ) → list_all is_tag_byte tag.opaque ≡ true
    → tags_from between (tag_text tag ++ rest) ≡ option_map (with_tag (Some tag)) (tags_from after rest)
tag_read tag rest fine =
    ap (tags_from between) (sym (within_text tag.weak tag.opaque rest)) ∙ mark_read tag.weak (tag.opaque ++ 34 ∷ rest)
    ∙ bytes_within tag.weak [] tag.opaque rest fine

-- an element at the end, and one before a comma
element_last : (text : List ℕ) (ts : List TagValue) → IsElement text ts → tags_from between text ≡ Some ts
unfolding tags_from
element_last text ts (blank white none) =
    ap (tags_from between) (sym (append-nil text)) ∙ white_between text [] white ∙ ap (λ l. Some l) (sym none)
element_last text ts (written w v tag before later fine is are) =
    ap (tags_from between) is ∙ white_between w (tag_text tag ++ v) before ∙ tag_read tag v fine
    ∙ ap (option_map (with_tag (Some tag))) (ap (tags_from after) (sym (append-nil v)) ∙ white_after v [] later) ∙ ap (λ l. Some l) (sym are)

comma_between : (rest : List ℕ) → tags_from between (44 ∷ rest) ≡ tags_from between rest
comma_between rest = step_to between between 44 rest refl refl

comma_after : (rest : List ℕ) → tags_from after (44 ∷ rest) ≡ tags_from between rest
comma_after rest = step_to after between 44 rest refl refl

element_more : (element rest : List ℕ) (one others : List TagValue) → IsElement element one → tags_from between rest ≡ Some others
    → tags_from between (element ++ 44 ∷ rest) ≡ Some (one ++ others)
element_more element rest one others (blank white none) e =
    white_between element (44 ∷ rest) white ∙ comma_between rest ∙ e ∙ ap (λ l. Some (l ++ others)) (sym none)
element_more element rest one others (written w v tag before later fine is are) e =
    ap (λ l. tags_from between (l ++ 44 ∷ rest)) is
    ∙ ap (tags_from between) (append_assoc w (tag_text tag ++ v) (44 ∷ rest) ∙ ap (λ l. w ++ l) (append_assoc (tag_text tag) v (44 ∷ rest)))
    ∙ white_between w (tag_text tag ++ (v ++ 44 ∷ rest)) before ∙ tag_read tag (v ++ 44 ∷ rest) fine
    ∙ ap (option_map (with_tag (Some tag))) (white_after v (44 ∷ rest) later ∙ comma_after rest ∙ e)
    ∙ ap (λ l. Some (l ++ others)) (sym are)

pub list_read : (text : List ℕ) (ts : List TagValue) → IsTagList text ts → tags_from between text ≡ Some ts
list_read text ts (last _ _ it) = element_last text ts it
list_read text ts (more _ element rest _ one others it list is are) =
    ap (tags_from between) is ∙ element_more element rest one others it (list_read rest others list) ∙ ap (λ l. Some l) (sym are)

pub tags_listed : (text : List ℕ) (ts : List TagValue) → (tags_of text ≡ Some ts) ↔ IsTagList text ts
tags_listed text ts = (read_so text between ts, list_read text ts)
