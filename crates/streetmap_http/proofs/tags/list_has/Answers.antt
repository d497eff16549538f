use Rattle.std.proofs.Common.{◌≡◌, ◌+◌, ◌∙◌, ◌<◌, ◌≤◌, get_or, length, drop, ap, sym, arith}
use Rattle.std.specs.Prelude.{None, Some, option_map, if◌then◌else◌, ◌||◌}
use Rattle.streetmap_http.specs.Tags.{step, tags_from, tags_of}
use Rattle.streetmap_http.specs.TagPlaces.{place_value}
use Rattle.streetmap_http.proofs.TagLists.{so, none_found, read_on, not_read, read_to_end}
use Rattle.streetmap_http.proofs.tags.list_has.Goals as goal

pub loop-at-init : goal.loop-at-init
loop-at-init c = record { begun = tt; so_far = none_found c.args.weakly c.args.tag.now (tags_of c.args.list.now) }

pub loop-at-preserved : goal.loop-at-preserved
loop-at-preserved c =
    let l = c.loop-at in
    let list = c.args.list.now in
    let here = place_value list l.at l.place in
    let next = place_value list (l.at + 1) c.in_ok-next.next in
    let inside : l.at < length list = omega arith in
    let goes : step here (get_or list l.at 0) ≡ Some next = sym c.in_ok-next.ensures.value in
    record {
      begun = c.in_ok-next.ensures.begun;
      so_far
          = ap (λ b. option_map (so (l.found || b) c.args.weakly c.args.tag.now) (tags_from next (drop (l.at + 1) list))) c.ends_with-ends.ensures
          ∙ sym (read_on l.found c.args.weakly c.args.tag.now list l.at here next inside goes)
          ∙ l.invariant.so_far;
    }

pub returns-in_err-next : goal.returns-in_err-next
returns-in_err-next c =
    let l = c.loop-at in
    let list = c.args.list.now in
    let here = place_value list l.at l.place in
    let inside : l.at < length list = omega arith in
    let stops : step here (get_or list l.at 0) ≡ None = sym c.in_err-next.ensures.value in
    c.from_residual.ensures ∙ sym (not_read l.found c.args.weakly c.args.tag.now list l.at here inside stops) ∙ l.invariant.so_far

pub returns-then-is_end : goal.returns-then-is_end
returns-then-is_end c =
    let l = c.loop-at in
    let list = c.args.list.now in
    let here = place_value list l.at l.place in
    let past : length list ≤ l.at = omega arith in
    ap (λ b. if b then Some l.found else None) (sym c.if-is_end.true ∙ c.is_end.ensures list l.at)
    ∙ sym (read_to_end l.found c.args.weakly c.args.tag.now list l.at here past) ∙ l.invariant.so_far

pub returns-else-is_end : goal.returns-else-is_end
returns-else-is_end c =
    let l = c.loop-at in
    let list = c.args.list.now in
    let here = place_value list l.at l.place in
    let past : length list ≤ l.at = omega arith in
    ap (λ b. if b then Some l.found else None) (sym c.if-is_end.false ∙ c.is_end.ensures list l.at)
    ∙ sym (read_to_end l.found c.args.weakly c.args.tag.now list l.at here past) ∙ l.invariant.so_far
