-- What is appended part by part is the text of the whole.
use Rattle.std.proofs.Common.{◌≡◌, ℕ, List, [], ◌∷◌, ◌++◌, true, ap, sym, refl, ◌∙◌, append_assoc, codes, Some, None}
use Rattle.std.specs.Prelude.{Option, decimal}
use Rattle.std.specs.Option.{ForSome}
use Rattle.json.specs.Print.{escape_byte, quoted}
use Rattle.serde_json.specs.Data.{number, unsigned, string, member, no_members}
use Rattle.serde_json.specs.Written.{compact_text, members_text}
use Rattle.streetmap_ledger.specs.declared.reply.Counts.{Counts}
use Rattle.streetmap_bodies.specs.Errors.{error_data, cause_text, place_text, place_members}
use Rattle.streetmap_bodies.specs.Replies.{reply_data}
use Rattle.streetmap_bodies.specs.Plain.{IsPlain, IsEscapeFree}

-- a text in quotes, and what follows
quoted_then : (s others : List ℕ) → IsEscapeFree s → quoted s ++ others ≡ 34 ∷ (s ++ 34 ∷ others)
quoted_then s others e = ap (λ l. (34 ∷ (l ++ 34 ∷ [])) ++ others) e ∙ ap (λ l. 34 ∷ l) (append_assoc s (34 ∷ []) others)

-- one more text, after the others
pub before : (s t u m r : List ℕ) → m ≡ s ++ t → r ≡ m ++ u → r ≡ s ++ (t ++ u)
before s t u m r p q = q ∙ ap (λ l. l ++ u) p ∙ append_assoc s t u

-- from the quote after the description on
abbrev error_end : Option ℕ → List ℕ
error_end place = codes "\"" ++ (place_text place ++ codes "}")

error_end_is : (place : Option ℕ) → error_end place ≡ 34 ∷ members_text true (place_members place)
unfolding escape_byte
error_end_is None = refl
error_end_is (Some n) = refl

abbrev error_middle : (code description : List ℕ) → Option ℕ → List ℕ
error_middle code description place = codes "\"code\":\"" ++ (code ++ (codes "\",\"description\":\"" ++ (description ++ error_end place)))

error_middle_is : (code description : List ℕ) (place : Option ℕ) → IsEscapeFree code → IsEscapeFree description
    → error_middle code description place ≡ quoted (codes "code") ++ 58 ∷ (quoted code ++ members_text true (member (codes "description") (string description) (place_members place)))
unfolding escape_byte
error_middle_is code description place plain_code plain_description =
    ap (λ l. codes "\"code\":\"" ++ (code ++ (codes "\",\"description\":\"" ++ (description ++ l)))) (error_end_is place)
    ∙ ap (λ l. codes "\"code\":\"" ++ (code ++ (codes "\",\"description\":" ++ l))) (sym (quoted_then description (members_text true (place_members place)) plain_description))
    ∙ ap (λ l. codes "\"code\":" ++ l) (sym (quoted_then code (members_text true (member (codes "description") (string description) (place_members place))) plain_code))

pub error_text : (code description : List ℕ) (place : Option ℕ) (cause : Option (List ℕ))
    → IsPlain code → IsPlain description → ForSome cause IsPlain
    → codes "{" ++ (cause_text cause ++ error_middle code description place) ≡ compact_text (error_data code description place cause)
unfolding escape_byte
error_text code description place None c d n = ap (λ l. 123 ∷ l) (error_middle_is code description place c.0 d.0)
error_text code description place (Some name) c d n =
    let rest : List ℕ = members_text true (member (codes "code") (string code) (member (codes "description") (string description) (place_members place))) in
    ap (λ l. codes "{\"cause\":\"" ++ ((name ++ codes "\",") ++ l)) (error_middle_is code description place c.0 d.0)
    ∙ ap (λ l. codes "{\"cause\":\"" ++ l) (append_assoc name (codes "\",") _)
    ∙ ap (λ l. codes "{\"cause\":" ++ l) (sym (quoted_then name rest (n name refl).0))

pub reply_text : (key : List ℕ) (n : Counts) (serial : ℕ) → IsEscapeFree key
    → (codes "{\"deleted\":" ++ decimal n.deleted) ++ ((codes ",\"inserted\":" ++ decimal n.inserted) ++ (codes ",\"key\":\"" ++ (key ++ ((codes "\",\"opened\":" ++ decimal n.opened) ++ ((codes ",\"replaced\":" ++ decimal n.replaced) ++ ((codes ",\"serial\":" ++ decimal serial) ++ codes "}"))))))
    ≡ compact_text (reply_data key n serial)
unfolding escape_byte
reply_text key n serial e =
    let others = members_text true (member (codes "opened") (number (unsigned n.opened)) (member (codes "replaced") (number (unsigned n.replaced)) (member (codes "serial") (number (unsigned serial)) no_members))) in
    ap (λ l. codes "{\"deleted\":" ++ (decimal n.deleted ++ (codes ",\"inserted\":" ++ (decimal n.inserted ++ (codes ",\"key\":" ++ l))))) (sym (quoted_then key others e))

-- a text that begins with a part
pub begun : (s p x r text : List ℕ) → s ≡ p → r ≡ s ++ x → p ++ x ≡ text → r ≡ text
begun s p x r text start others whole = others ∙ ap (λ l. l ++ x) start ∙ whole
