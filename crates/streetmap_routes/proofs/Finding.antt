-- Which route a path finds, whatever names it contains.
use Rattle.std.proofs.Common.{◌≡◌, ◌≢◌, ℕ, suc, zero, ◌<◌, ◌-◌, ◌++◌, List, [], ◌∷◌, Bool, true, false, cond, length, drop, Some, None, refl, sym, subst, ap, ◌∙◌, arith, codes, inl, inr, ◌⊎◌, length-append, append-nil}
use Rattle.std.proofs.Math.Seq.{drop-append_seam}
use Rattle.std.proofs.lemmas.Bool.{ne_eqb, lt-ltb}
use Rattle.std.specs.Prelude.{Option, option_map, ◌&&◌, ltb, nat_eq}
use Rattle.std.specs.Cmp.Lexicographic.{pointwise}
use Rattle.std.specs.List.{ends_with}
use Rattle.matchit.specs.Rows.{RowsOf}
use Rattle.matchit.specs.Route.{scan}
use Rattle.matchit.specs.Router.{RouteOf}
use Rattle.matchit.specs.Seek.{segment, has_slash, cuts, better, own, step, or_else, longest_from, longest_suffix, with_suffix, param_step, seek}
use Rattle.streetmap_routes.specs.Routes.{put, the_rows}
use Rattle.streetmap_routes.specs.Operations.{route_of}
use Rattle.streetmap_routes.specs.Paths.{HasNoSlash, IsSegment, EachFindsItsRoute}
use Rattle.streetmap_routes.specs.declared.routes.Route.{Route}
use Rattle.streetmap_routes.specs.declared.routes.Route.TheVariants.{Collection, Items, Item}

-- ---- names in a path

-- a name is its own segment
whole_segment : (name : List ℕ) → HasNoSlash name → segment name ≡ name
whole_segment [] plain = refl
whole_segment (b ∷ bs) plain = ap (λ v. cond v (b ∷ []) (b ∷ segment bs)) (ne_eqb b 47 plain.1) ∙ ap (λ l. b ∷ l) (whole_segment bs plain.2)

no_slash : (name : List ℕ) → HasNoSlash name → has_slash name ≡ false
no_slash [] plain = refl
no_slash (b ∷ bs) plain = ap (λ v. cond v true (has_slash bs)) (ne_eqb b 47 plain.1) ∙ no_slash bs plain.2

-- and if a slash follows, its segment includes the slash
segment_before : (name rest : List ℕ) → HasNoSlash name → segment (name ++ 47 ∷ rest) ≡ name ++ 47 ∷ []
segment_before [] rest plain = refl
segment_before (b ∷ bs) rest plain =
    ap (λ v. cond v (b ∷ []) (b ∷ segment (bs ++ 47 ∷ rest))) (ne_eqb b 47 plain.1) ∙ ap (λ l. b ∷ l) (segment_before bs rest plain.2)

slash_apart : (b : ℕ) → b ≢ 47 → pointwise nat_eq (47 ∷ []) (b ∷ []) ≡ false
slash_apart b other = ap (λ v. v && true) (ne_eqb 47 b (λ e. other (sym e)))

no_slash_last : (b : ℕ) (bs : List ℕ) → HasNoSlash (b ∷ bs) → pointwise nat_eq (47 ∷ []) (drop (length bs) (b ∷ bs)) ≡ false
no_slash_last b [] plain = slash_apart b plain.1
no_slash_last b (c ∷ cs) plain = no_slash_last c cs plain.2

and_false : (v w : Bool) → w ≡ false → (v && w) ≡ false
and_false true w e = e
and_false false w e = refl

-- no name ends with a slash
no_cut : (name : List ℕ) → IsSegment name → cuts name (47 ∷ []) ≡ false
no_cut [] is = absurd (let none : 0 < 0 = is.some in omega arith)
no_cut (b ∷ bs) is =
    let n : length (b ∷ bs) - 1 ≡ length bs = omega arith in
    and_false (ltb 1 (length (b ∷ bs))) _ (ap (λ k. pointwise nat_eq (47 ∷ []) (drop k (b ∷ bs))) n ∙ no_slash_last b bs is.plain)

-- but a name followed by a slash does
cut_before : (name : List ℕ) → IsSegment name → cuts (name ++ 47 ∷ []) (47 ∷ []) ≡ true
cut_before name is =
    let seg = name ++ 47 ∷ [] in
    let n : length seg - 1 ≡ length name = omega (arith, length-append name (47 ∷ [])) in
    let long : ltb 1 (length seg) ≡ true = lt-ltb 1 (length seg) (let some = is.some in omega (arith, some, length-append name (47 ∷ []))) in
    ap (λ v. v && ends_with nat_eq seg (47 ∷ [])) long ∙ ap (λ k. pointwise nat_eq (47 ∷ []) (drop k seg)) n ∙ ap (pointwise nat_eq (47 ∷ [])) (drop-append_seam name (47 ∷ []))

-- ---- rows

module _ {K : Type 0} where
  -- each row begins with a parameter
  abbrev BeginWithParam : RowsOf K → Type 0
  BeginWithParam [] = Unit {0}
  BeginWithParam (([], key) ∷ rest) = ⊥
  BeginWithParam ((x ∷ t, key) ∷ rest) = (x ≡ 256) × BeginWithParam rest

  -- no row continues with a byte
  no_step : (b : ℕ) (rows : RowsOf K) → b < 256 → BeginWithParam rows → step b rows ≡ []
  no_step b [] small all = refl
  no_step b (([], key) ∷ rest) small all = absurd all
  no_step b ((x ∷ t, key) ∷ rest) small all =
      let other : x ≡ b → ⊥ = (λ e. let is = all.0 in let bad : ⊥ = omega (arith, e, is, small) in bad) in
      ap (λ v. cond v ((t, key) ∷ step b rest) (step b rest)) (ne_eqb x b other) ∙ no_step b rest small all.1

  -- each row ends here, or goes on with a slash
  abbrev EndOrSlash : RowsOf K → Type 0
  EndOrSlash [] = Unit {0}
  EndOrSlash ((t, key) ∷ rest) = ((segment t ≡ []) ⊎ (segment t ≡ 47 ∷ [])) × EndOrSlash rest

  no_suffix : (seg : List ℕ) (rows : RowsOf K) → cuts seg (47 ∷ []) ≡ false → EndOrSlash rows → longest_from seg [] rows ≡ []
  no_suffix seg [] none all = refl
  no_suffix seg ((t, key) ∷ rest) none (inl is, all) = ap (λ s. longest_from seg (better seg [] s) rest) is ∙ no_suffix seg rest none all
  no_suffix seg ((t, key) ∷ rest) none (inr is, all) =
      ap (λ s. longest_from seg (better seg [] s) rest) is ∙ ap (λ v. longest_from seg (cond v (47 ∷ []) []) rest) none ∙ no_suffix seg rest none all

  slash_stays : (seg : List ℕ) (rows : RowsOf K) → EndOrSlash rows → longest_from seg (47 ∷ []) rows ≡ 47 ∷ []
  slash_stays seg [] all = refl
  slash_stays seg ((t, key) ∷ rest) (inl is, all) = ap (λ s. longest_from seg (better seg (47 ∷ []) s) rest) is ∙ slash_stays seg rest all
  slash_stays seg ((t, key) ∷ rest) (inr is, all) = ap (λ s. longest_from seg (better seg (47 ∷ []) s) rest) is ∙ slash_stays seg rest all

  -- the first row goes on with a slash
  abbrev BeginWithSlash : RowsOf K → Type 0
  BeginWithSlash [] = ⊥
  BeginWithSlash ((t, key) ∷ rest) = (segment t ≡ 47 ∷ []) × EndOrSlash rest

  slash_suffix : (seg : List ℕ) (rows : RowsOf K) → cuts seg (47 ∷ []) ≡ true → BeginWithSlash rows → longest_suffix seg rows ≡ 47 ∷ []
  slash_suffix seg [] some begin = absurd begin
  slash_suffix seg ((t, key) ∷ rest) some begin =
      ap (λ s. longest_from seg (better seg [] s) rest) begin.0 ∙ ap (λ v. longest_from seg (cond v (47 ∷ []) []) rest) some ∙ slash_stays seg rest begin.1

  -- ---- a parameter

  taken : List ℕ → List ℕ → RowsOf K → List ℕ → ℕ × RowsOf K
  taken path seg rows suffix = cond (ltb 0 (length suffix)) (length seg - length suffix, with_suffix suffix rows) (cond (has_slash path) (0, []) (length path, rows))

  -- a name at the end of a path
  name_last : (name : List ℕ) (rows : RowsOf K) → IsSegment name → EndOrSlash rows → param_step rows name ≡ (length name, rows)
  unfolding param_step taken
  name_last name rows is all =
      let seg : segment name ≡ name = whole_segment name is.plain in
      let none : longest_suffix (segment name) rows ≡ [] = ap (λ s. longest_suffix s rows) seg ∙ no_suffix name rows (no_cut name is) all in
      ap (taken name (segment name) rows) none ∙ ap (λ v. cond v (0, []) (length name, rows)) (no_slash name is.plain)

  -- a name before a slash
  name_before : (name rest : List ℕ) (rows : RowsOf K) → IsSegment name → BeginWithSlash rows → param_step rows (name ++ 47 ∷ rest) ≡ (length name, with_suffix (47 ∷ []) rows)
  unfolding param_step taken
  name_before name rest rows is begin =
      let path = name ++ 47 ∷ rest in
      let seg : segment path ≡ name ++ 47 ∷ [] = segment_before name rest is.plain in
      let some : longest_suffix (segment path) rows ≡ 47 ∷ [] = ap (λ s. longest_suffix s rows) seg ∙ slash_suffix (name ++ 47 ∷ []) rows (cut_before name is) begin in
      let n : length (segment path) - 1 ≡ length name = omega (arith, ap length seg, length-append name (47 ∷ [])) in
      ap (taken path (segment path) rows) some ∙ ap (λ k. (k, with_suffix (47 ∷ []) rows)) n

  -- ---- a walk

  none_from : (path : List ℕ) (skip : ℕ) → seek {K = K} skip [] path ≡ None
  unfolding seek param_step
  none_from [] skip = refl
  none_from (b ∷ path) (suc skip) = none_from path skip
  none_from (b ∷ path) zero =
      let rows : (param_step {K = K} [] (b ∷ path)).1 ≡ [] =
      elim (has_slash (b ∷ path)) as (λ v. (cond {A = ℕ × RowsOf K} v (0, []) (length (b ∷ path), [])).1 ≡ []) [ true ↦ refl | false ↦ refl ] in
      ap (λ o. or_else o (or_else (seek ((param_step {K = K} [] (b ∷ path)).0 - 1) (param_step {K = K} [] (b ∷ path)).1 path) None)) (none_from path 0)
      ∙ ap (λ o. or_else o None) (ap (λ rs. seek ((param_step {K = K} [] (b ∷ path)).0 - 1) rs path) rows ∙ none_from path ((param_step {K = K} [] (b ∷ path)).0 - 1))

  skipped : (front : List ℕ) (rows : RowsOf K) (path : List ℕ) → seek (length front) rows (front ++ path) ≡ seek 0 rows path
  unfolding seek
  skipped [] rows path = refl
  skipped (b ∷ bs) rows path = skipped bs rows path

  -- the rows that continue with these bytes
  steps : List ℕ → RowsOf K → RowsOf K
  steps [] rows = rows
  steps (b ∷ bs) rows = steps bs (step b rows)

  module _ {V : Type 0} (value : K → V) (v : V) where
    abbrev Finds : Option K → Type 0
    Finds found = option_map value found ≡ Some v

    first_found : (a b : Option K) → Finds a → Finds (or_else a b)
    first_found None b found = cc
    first_found (Some key) b found = found

    -- past bytes that the rows contain
    walked : (front : List ℕ) (rows : RowsOf K) (path : List ℕ) → Finds (seek 0 (steps front rows) path) → Finds (seek 0 rows (front ++ path))
    unfolding seek steps
    walked [] rows path found = found
    walked (b ∷ bs) rows path found = first_found (seek 0 (step b rows) (bs ++ path)) _ (walked bs (step b rows) path found)

    -- past a name
    named : (b : ℕ) (bs path : List ℕ) (rows next : RowsOf K) → b < 256 → BeginWithParam rows → param_step (step 256 rows) (b ∷ (bs ++ path)) ≡ (length (b ∷ bs), next)
        → Finds (seek 0 next path) → Finds (seek 0 rows (b ∷ (bs ++ path)))
    unfolding seek
    named b bs path rows next small all steps found =
        let rest = bs ++ path in
        let n : length (b ∷ bs) - 1 ≡ length bs = omega arith in
        let none : seek 0 (step b rows) rest ≡ None = ap (λ rs. seek 0 rs rest) (no_step b rows small all) ∙ none_from rest 0 in
        let goes : seek ((param_step (step 256 rows) (b ∷ rest)).0 - 1) (param_step (step 256 rows) (b ∷ rest)).1 rest ≡ seek 0 next path =
        ap (λ (p : ℕ × RowsOf K). seek (p.0 - 1) p.1 rest) steps ∙ ap (λ k. seek k next rest) n ∙ skipped bs next path in
        let by_name = first_found (seek ((param_step (step 256 rows) (b ∷ rest)).0 - 1) (param_step (step 256 rows) (b ∷ rest)).1 rest) (own (step 257 rows))
        (subst Finds (sym goes) found) in
        subst Finds (sym (ap (λ o. or_else o (or_else (seek ((param_step (step 256 rows) (b ∷ rest)).0 - 1) (param_step (step 256 rows) (b ∷ rest)).1 rest) (own (step 257 rows)))) none)) by_name

    name_ends : (name : List ℕ) (rows : RowsOf K) → IsSegment name → BeginWithParam rows → EndOrSlash (step 256 rows) → Finds (own (step 256 rows)) → Finds (seek 0 rows name)
    unfolding seek
    name_ends [] rows is all ends found = absurd (let none : 0 < 0 = is.some in omega arith)
    name_ends (b ∷ bs) rows is all ends found =
        let no_more : bs ++ [] ≡ bs = append-nil bs in
        subst (λ path. Finds (seek 0 rows (b ∷ path))) no_more
        (named b bs [] rows (step 256 rows) is.plain.0 all (ap (λ path. param_step (step 256 rows) (b ∷ path)) no_more ∙ name_last (b ∷ bs) (step 256 rows) is ends) found)

    name_goes : (name rest : List ℕ) (rows : RowsOf K) → IsSegment name → BeginWithParam rows → BeginWithSlash (step 256 rows)
        → Finds (seek 0 (with_suffix (47 ∷ []) (step 256 rows)) (47 ∷ rest)) → Finds (seek 0 rows (name ++ 47 ∷ rest))
    name_goes [] rest rows is all begin found = absurd (let none : 0 < 0 = is.some in omega arith)
    name_goes (b ∷ bs) rest rows is all begin found =
        named b bs (47 ∷ rest) rows (with_suffix (47 ∷ []) (step 256 rows)) is.plain.0 all (name_before (b ∷ bs) rest (step 256 rows) is begin) found

-- ---- the eight paths

-- after `/collections/`, a name, and `/items/`
at_collections : RowsOf (RouteOf Route)
at_collections = steps (codes "/collections/") the_rows

after_name : RowsOf (RouteOf Route)
after_name = with_suffix (47 ∷ []) (step 256 at_collections)

at_items : RowsOf (RouteOf Route)
at_items = steps (codes "/items/") after_name

value_of : RouteOf Route → Route
value_of row = row.value

pub each_finds_its_route : EachFindsItsRoute
unfolding route_of the_rows put scan seek param_step steps at_collections after_name at_items value_of
each_finds_its_route = record {
  landing = refl;
  api = refl;
  conformance = refl;
  collections = refl;
  collection = λ name is. walked value_of Collection (codes "/collections/") the_rows name
      (name_ends value_of Collection name at_collections is (refl, (refl, (refl, tt))) (inr refl, (inr refl, (inl refl, tt))) refl);
  items = λ name is. walked value_of Items (codes "/collections/") the_rows (name ++ codes "/items")
      (name_goes value_of Items name (codes "items") at_collections is (refl, (refl, (refl, tt))) (refl, (inr refl, (inl refl, tt))) refl);
  item = λ name id is named. walked value_of Item (codes "/collections/") the_rows (name ++ (codes "/items/" ++ id))
      (name_goes value_of Item name (codes "items/" ++ id) at_collections is (refl, (refl, (refl, tt))) (refl, (inr refl, (inl refl, tt)))
      (walked value_of Item (codes "/items/") after_name id (name_ends value_of Item id at_items named (refl, tt) (inl refl, tt) refl)));
  batches = refl;
}
