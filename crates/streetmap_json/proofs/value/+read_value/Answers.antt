use Rattle.std.proofs.Common.{◌≡◌, ◌-◌, ◌<◌, [], ◌∷◌, ◌++◌, length, map, Some, None, Err, Vec, BTreeMap, Global, string_bytes, sym, ap, ap₂, ◌∙◌, arith, rules, subst}
use Rattle.std.proofs.Common.{String as StdString}
use Rattle.std.proofs.lemmas.List.{map-append}
use Rattle.json.specs.Json.{parse_map, after_end_array, read_key, items, members, value}
use Rattle.json.specs.Reads.{token_of}
use Rattle.json.proofs.Grammar.{value_is, read_key-shorter}
use Rattle.serde_json.specs.Data.{null, boolean, number, string, array, object, put}
use Rattle.serde_json.specs.Read.{of_json, of_items, of_members, converted}
use Rattle.serde_json.specs.View.{view, items_view, number_view, members_view}
use Rattle.serde_json.specs.declared.value.Value.{Value, String, Number, Bool, Null, the_lemmas}
use Rattle.serde_json.proofs.Views.{view-Array, view-Object, members_view-insert_entry}
use Rattle.streetmap_json.specs.Values.{value_at, items_at, members_at, Takes}
use Rattle.streetmap_json.proofs.Fronts.{array_opens, object_opens, next_item, no_item, items_done, next_member, no_member, no_name, members_done, before, one_more_front, before_none, handed_on}
use Rattle.streetmap_json.specs.declared.fault.ParseFault.TheVariants.{NotJson}
use Rattle.streetmap_json.proofs.value.+read_value.Goals as goal

pub read_value-returns-in-None-clause-takes : goal.read_value-returns-in-None-clause-takes
read_value-returns-in-None-clause-takes t c =
    let empty : c.args.reader.now ≡ [] = grind arith in
    ap (λ ts. value_at c.args.depth ts) empty ∙ ap (converted of_json) (value_is c.args.depth [])

pub read_token-returns-then-depth-eq0-clause-takes : goal.read_token-returns-then-depth-eq0-clause-takes
unfolding value
read_token-returns-then-depth-eq0-clause-takes t c =
    let none : c.args.depth ≡ 0 = omega arith in
    ap₂ (λ n k. value_at n (token_of k ∷ c.args.reader.now)) none c.in-BeginArray.is

pub read_token-returns-then-depth-eq0-2-clause-takes : goal.read_token-returns-then-depth-eq0-2-clause-takes
unfolding value
read_token-returns-then-depth-eq0-2-clause-takes t c =
    let none : c.args.depth ≡ 0 = omega arith in
    ap₂ (λ n k. value_at n (token_of k ∷ c.args.reader.now)) none c.in-BeginObject.is

pub read_token-returns-in_err-read_items-in-BeginArray-clause-takes : goal.read_token-returns-in_err-read_items-in-BeginArray-clause-takes
read_token-returns-in_err-read_items-in-BeginArray-clause-takes t c =
    let ts = c.args.reader.now in
    let opened = ap (λ k. value_at c.args.depth (token_of k ∷ ts)) c.in-BeginArray.is ∙ array_opens c.args.depth ts (omega arith) in
    let fault = c.in_err-read_items-in-BeginArray.field-0.0 in
    let same : c.from_residual-in_err-read_items-in-BeginArray.result ≡ Err fault = grind arith in
    subst (λ r. Takes view r c.read_items.new.reader (value_at c.args.depth (token_of c.args.token ∷ ts))) (sym same)
    (handed_on fault _ _ (λ none. opened ∙ ap (parse_map array) none) c.in_err-read_items-in-BeginArray.ensures.takes)

pub read_token-returns-in_err-read_members-in-BeginObject-clause-takes : goal.read_token-returns-in_err-read_members-in-BeginObject-clause-takes
read_token-returns-in_err-read_members-in-BeginObject-clause-takes t c =
    let ts = c.args.reader.now in
    let opened = ap (λ k. value_at c.args.depth (token_of k ∷ ts)) c.in-BeginObject.is ∙ object_opens c.args.depth ts (omega arith) in
    let fault = c.in_err-read_members-in-BeginObject.field-0.0 in
    let same : c.from_residual-in_err-read_members-in-BeginObject.result ≡ Err fault = grind arith in
    subst (λ r. Takes view r c.read_members.new.reader (value_at c.args.depth (token_of c.args.token ∷ ts))) (sym same)
    (handed_on fault _ _ (λ none. opened ∙ ap (parse_map object) none) c.in_err-read_members-in-BeginObject.ensures.takes)

pub read_token-returns-in_ok-from_str-in-String-clause-takes : goal.read_token-returns-in_ok-from_str-in-String-clause-takes
read_token-returns-in_ok-from_str-in-String-clause-takes t c =
    let ts = c.args.reader.now in
    let seen : view (String c.in_ok-from_str-in-String.field-0) ≡ string c.in-String.text.now = search (rules, the_lemmas) in
    ap (λ k. value_at c.args.depth (token_of k ∷ ts)) c.in-String.is ∙ ap (converted of_json) (value_is c.args.depth _) ∙ ap (λ d. Some (d, ts)) (sym seen)

pub read_token-returns-in-Some-clause-takes : goal.read_token-returns-in-Some-clause-takes
read_token-returns-in-Some-clause-takes t c =
    let ts = c.args.reader.now in
    let seen : view (Number c.in-Some.number) ≡ number (number_view c.in-Some.number) = search (rules, the_lemmas) in
    ap (λ k. value_at c.args.depth (token_of k ∷ ts)) c.in-Number.is ∙ ap (converted of_json) (value_is c.args.depth _) ∙ rw (← c.in-Some.ensures, seen)

pub read_token-returns-in-None-clause-takes : goal.read_token-returns-in-None-clause-takes
read_token-returns-in-None-clause-takes t c =
    let ts = c.args.reader.now in
    ap (λ k. value_at c.args.depth (token_of k ∷ ts)) c.in-Number.is ∙ ap (converted of_json) (value_is c.args.depth _) ∙ rw (← c.in-None.ensures)

pub read_token-returns-in-Bool-clause-takes : goal.read_token-returns-in-Bool-clause-takes
read_token-returns-in-Bool-clause-takes t c =
    let ts = c.args.reader.now in
    let seen : view (Bool c.in-Bool.truth) ≡ boolean c.in-Bool.truth = search (rules, the_lemmas) in
    ap (λ k. value_at c.args.depth (token_of k ∷ ts)) c.in-Bool.is ∙ ap (converted of_json) (value_is c.args.depth _) ∙ ap (λ d. Some (d, ts)) (sym seen)

pub read_token-returns-in-Null-clause-takes : goal.read_token-returns-in-Null-clause-takes
read_token-returns-in-Null-clause-takes t c =
    let ts = c.args.reader.now in
    let seen : view (Null) ≡ null = search (rules, the_lemmas) in
    ap (λ k. value_at c.args.depth (token_of k ∷ ts)) c.in-Null.is ∙ ap (converted of_json) (value_is c.args.depth _) ∙ ap (λ d. Some (d, ts)) (sym seen)

pub read_token-returns-in_ok-read_items-in-BeginArray-clause-takes : goal.read_token-returns-in_ok-read_items-in-BeginArray-clause-takes
read_token-returns-in_ok-read_items-in-BeginArray-clause-takes t c =
    let ts = c.args.reader.now in
    let found = c.in_ok-read_items-in-BeginArray in
    ap (λ k. value_at c.args.depth (token_of k ∷ ts)) c.in-BeginArray.is ∙ array_opens c.args.depth ts (omega arith)
    ∙ ap (parse_map array) found.ensures.takes ∙ ap (λ d. Some (d, c.read_items.new.reader)) (sym (view-Array found.field-0))

pub read_token-returns-in_ok-read_members-in-BeginObject-clause-takes : goal.read_token-returns-in_ok-read_members-in-BeginObject-clause-takes
read_token-returns-in_ok-read_members-in-BeginObject-clause-takes t c =
    let ts = c.args.reader.now in
    let found = c.in_ok-read_members-in-BeginObject in
    ap (λ k. value_at c.args.depth (token_of k ∷ ts)) c.in-BeginObject.is ∙ object_opens c.args.depth ts (omega arith)
    ∙ ap (parse_map object) found.ensures.takes ∙ ap (λ d. Some (d, c.read_members.new.reader)) (sym (view-Object found.field-0))

pub read_token-returns-in-EndObject-clause-takes : goal.read_token-returns-in-EndObject-clause-takes
read_token-returns-in-EndObject-clause-takes t c =
    let ts = c.args.reader.now in
    let none : value c.args.depth (token_of c.args.token ∷ ts) ≡ None = rw (value_is c.args.depth (token_of c.args.token ∷ ts)) (grind arith) in
    ap (converted of_json) none

pub read_items-returns-in_err-item-clause-takes : goal.read_items-returns-in_err-item-clause-takes
read_items-returns-in_err-item-clause-takes t c =
    let p = value c.args.depth in
    let l = c.items in
    let n = l.invariant.0 in
    let going : (after_end_array l.reader ≡ None) × (c.take_end_array.new.self ≡ l.reader) = grind arith in
    let fault = c.in_err-item.field-0.0 in
    let same : c.from_residual.result ≡ Err fault = grind arith in
    subst (λ r. Takes (λ (v : Vec Value Global). items_view v.items) r c.read_value.new.reader (items_at c.args.depth c.args.reader.now)) (sym same)
    (handed_on fault _ _ (λ none. l.invariant.2 ∙ ap (parse_map (before (map view l.items.items))) (no_item p n l.reader going.0 (rw (← going.1) none))) c.in_err-item.ensures.takes)

pub read_items-items-preserved : goal.read_items-items-preserved
read_items-items-preserved t c =
    let p = value c.args.depth in
    let l = c.items in
    let n = l.invariant.0 in
    let going : (after_end_array l.reader ≡ None) × (c.take_end_array.new.self ≡ l.reader) = grind arith in
    let done = c.in_ok-item.ensures in
    let v = c.in_ok-item.item in
    let r = c.read_value.new.reader in
    let less : length r < length l.reader = rw (← going.1) done.shorter in
    let turn = next_item p n l.reader r (view v) (omega (arith, l.invariant.1)) going.0 (rw (← going.1) done.takes) in
    let pushed : map view c.push.new.self.items ≡ map view l.items.items ++ view v ∷ [] = ap (map view) c.in_ok-push.ensures.items ∙ map-append view l.items.items (v ∷ []) in (
      n - 1,
      omega (arith, l.invariant.1),
      l.invariant.2 ∙ ap (parse_map (before (map view l.items.items))) turn ∙ one_more_front (map view l.items.items) (view v) _
          ∙ ap (λ ds. parse_map (before ds) (converted of_items (items p (n - 1) r))) (sym pushed),
      omega (arith, l.invariant.3),
    )

pub read_items-returns-clause-takes : goal.read_items-returns-clause-takes
read_items-returns-clause-takes t c =
    let p = value c.args.depth in
    let l = c.items in
    let n = l.invariant.0 in
    let r = c.take_end_array.new.self in
    l.invariant.2 ∙ ap (parse_map (before (map view l.items.items))) (items_done p n l.reader r l.invariant.1 (grind arith)) ∙ ap (λ ds. Some (ds, r)) (before_none l.items.items)

pub read_members-returns-in_err-name-clause-takes : goal.read_members-returns-in_err-name-clause-takes
read_members-returns-in_err-name-clause-takes t c =
    let p = value c.args.depth in
    let l = c.members in
    let n = l.invariant.0 in
    let found = members_view l.members.entries in
    let same : c.from_residual.result ≡ Err NotJson = grind arith in
    subst (λ r. Takes (λ (m : BTreeMap (StdString Global) Value). members_view m.entries) r c.next_key.new.self (members_at c.args.depth c.args.reader.now)) (sym same)
    (l.invariant.2 ∙ no_name p found n l.reader c.in_err-name.ensures.value)

pub read_members-returns-in_err-member-clause-takes : goal.read_members-returns-in_err-member-clause-takes
read_members-returns-in_err-member-clause-takes t c =
    let p = value c.args.depth in
    let l = c.members in
    let n = l.invariant.0 in
    let found = members_view l.members.entries in
    let k = c.in-Some.name.now in
    let s = c.next_key.new.self in
    let named : read_key l.reader ≡ Some (Some k, s) = grind arith in
    let fault = c.in_err-member.field-0.0 in
    let same : c.from_residual-in_err-member.result ≡ Err fault = grind arith in
    subst (λ r. Takes (λ (m : BTreeMap (StdString Global) Value). members_view m.entries) r c.read_value.new.reader (members_at c.args.depth c.args.reader.now)) (sym same)
    (handed_on fault _ _ (λ none. l.invariant.2 ∙ no_member p found n k l.reader s named none) c.in_err-member.ensures.takes)

pub read_members-members-preserved : goal.read_members-members-preserved
read_members-members-preserved t c =
    let p = value c.args.depth in
    let l = c.members in
    let n = l.invariant.0 in
    let found = members_view l.members.entries in
    let k = c.in-Some.name.now in
    let s = c.next_key.new.self in
    let named : read_key l.reader ≡ Some (Some k, s) = grind arith in
    let done = c.in_ok-member.ensures in
    let v = c.in_ok-member.member in
    let r = c.read_value.new.reader in
    let less = read_key-shorter l.reader (Some k) s named in
    let lesser = done.shorter in
    let copied : string_bytes c.in_ok-name-2.name ≡ k = search rules in
    let inserted : members_view c.insert.new.self.entries ≡ put k (view v) found =
    ap members_view c.in_ok-insert.ensures.entries ∙ members_view-insert_entry l.members.entries c.in_ok-name-2.name v ∙ ap (λ name. put name (view v) found) copied in (
      n - 1,
      omega (arith, l.invariant.1),
      l.invariant.2 ∙ next_member p found n k l.reader s r (view v) (omega (arith, l.invariant.1)) named done.takes
          ∙ ap (λ kept. converted (λ ms. of_members ms kept) (members p (n - 1) r)) (sym inserted),
      omega (arith, l.invariant.3),
    )

pub read_members-returns-clause-takes : goal.read_members-returns-clause-takes
read_members-returns-clause-takes t c =
    let p = value c.args.depth in
    let l = c.members in
    let n = l.invariant.0 in
    let found = members_view l.members.entries in
    l.invariant.2 ∙ members_done p found n l.reader c.next_key.new.self l.invariant.1 (grind arith)
