-- The grammar of lists of entity tags. RFC 9110, sections 5.6.1 and 8.8.3.
use Rattle.std.specs.Prelude.{◌≡◌, ◌↔◌, ℕ, List, [], ◌∷◌, ◌++◌, Bool, true, false, Some}
use Rattle.std.specs.List.{list_all}
use Rattle.streetmap_http.specs.Tags.{TagValue, is_tag_byte, is_space, tags_of}

-- optional white space alone; section 5.6.3
abbrev pub is_white : List ℕ → Bool
is_white text = list_all is_space text

-- the mark of a weak tag: `W/`
abbrev pub mark_text : (weak : Bool) → List ℕ
mark_text true = 87 ∷ 47 ∷ []
mark_text false = []

-- a tag as it is written: between quotes, after its mark
abbrev pub tag_text : TagValue → List ℕ
tag_text tag = mark_text tag.weak ++ (34 ∷ (tag.opaque ++ 34 ∷ []))

-- an element: white space alone, since a recipient passes over empty elements, or a tag with white
-- space around it
pub data IsElement (text : List ℕ) (tags : List TagValue) : Type 0 where
  blank : is_white text ≡ true → tags ≡ [] → IsElement text tags
  written : (before after : List ℕ) (tag : TagValue) → is_white before ≡ true
      → is_white after ≡ true → list_all is_tag_byte tag.opaque ≡ true
      → text ≡ before ++ (tag_text tag ++ after) → tags ≡ tag ∷ [] → IsElement text tags

-- elements with a comma between each two
pub data IsTagList : List ℕ → List TagValue → Type 0 where
  last : (text : List ℕ) (tags : List TagValue) → IsElement text tags → IsTagList text tags
  more : (text element rest : List ℕ) (tags one others : List TagValue) → IsElement element one
      → IsTagList rest others → text ≡ element ++ 44 ∷ rest → tags ≡ one ++ others
      → IsTagList text tags

-- a text is read as these tags exactly if it is a list of them
abbrev pub TagsAreListed : Type 0
TagsAreListed = (text : List ℕ) (tags : List TagValue)
    → (tags_of text ≡ Some tags) ↔ IsTagList text tags
