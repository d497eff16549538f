use Rattle.std.proofs.Common.{◌≡◌, ◌∙◌, List, [], ◌∷◌, ℕ, Bool, true, false, cond, refl, sym, ap, rules, tests, Bor}
use Rattle.std.specs.Prelude.{Option, Some, option_map, find}
use Rattle.std.proofs.lemmas.Iterator.{YieldsList-from_slice}
use Rattle.std.proofs.lemmas.Iterator.Search.{find_from_yields_List}
use Rattle.httparse.specs.declared.spans.HeaderSpan.{HeaderSpan}
use Rattle.httparse.specs.Spans.{header_bytes}
use Rattle.streetmap_http.specs.Fields.{FieldValue, is_named, first_value, pairs}
use Rattle.streetmap_http.proofs.fields.first_value.Goals as goal

-- the value of a field, given its spans
abbrev value_at : List ℕ → Option HeaderSpan → Option (List ℕ)
value_at head o = option_map (λ (h : HeaderSpan). (header_bytes head h).1) o

abbrev has_name : List ℕ → List ℕ → HeaderSpan → Bool
has_name head name h = is_named name (header_bytes head h)

one_more : (head : List ℕ) (h : HeaderSpan) (o : Option FieldValue) (p : Option HeaderSpan) → option_map (λ (f : FieldValue). f.1) o ≡ value_at head p
    → (b : Bool) → option_map (λ (f : FieldValue). f.1) (cond b (Some (header_bytes head h)) o) ≡ value_at head (cond b (Some h) p)
one_more head h o p e true = refl
one_more head h o p e false = e

-- the first field with the name is the field of the first spans with the name
first_spans : (head name : List ℕ) (hs : List HeaderSpan) → first_value name (pairs head hs) ≡ value_at head (find (has_name head name) hs)
first_spans head name [] = refl
first_spans head name (h ∷ hs) = one_more head h _ _ (first_spans head name hs) (has_name head name h)

pub returns-in_err-header : goal.returns-in_err-header
returns-in_err-header c =
    let head = c.args.head.now in
    let name = c.args.name.now in
    let found = find_from_yields_List (has_name head name) _ _ c.find.result c.find.ensures.ran (YieldsList-from_slice c.args.headers.now cc) (λ x b q k. search (rules, tests)) in
    let none = sym found ∙ ap (option_map (λ (h : Bor HeaderSpan). h.now)) c.in_err-header.was in
    ap (option_map (λ (v : Bor (List ℕ)). v.now)) c.from_residual.ensures ∙ sym (first_spans head name c.args.headers.now ∙ ap (value_at head) none)

pub returns : goal.returns
returns c =
    let head = c.args.head.now in
    let name = c.args.name.now in
    let found = find_from_yields_List (has_name head name) _ _ c.find.result c.find.ensures.ran (YieldsList-from_slice c.args.headers.now cc) (λ x b q k. search (rules, tests)) in
    let some = sym found ∙ ap (option_map (λ (h : Bor HeaderSpan). h.now)) c.in_ok-header.was in
    ap (λ v. Some v) c.of.ensures ∙ sym (first_spans head name c.args.headers.now ∙ ap (value_at head) some)
