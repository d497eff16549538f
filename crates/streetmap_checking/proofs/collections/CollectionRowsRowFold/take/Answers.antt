use Rattle.std.proofs.Common.{◌≡◌, true, false, string_bytes, rules, subst, sym, ◌∙◌}
use Rattle.streetmap_rows.proofs.ResultCases.{handed_on}
use Rattle.streetmap_checking.specs.Good.{head_cells, IsCollectionHead}
use Rattle.std.specs.Option.{option_copied}
use Rattle.streetmap_checking.specs.Held.{ComesAfterLast, last_key, known}
use Rattle.streetmap_checking.proofs.RowCells.{name_of_cells}
use Rattle.streetmap_checking.proofs.Rising.{grows}
use Rattle.streetmap_checking.proofs.Taking.{not_taken, not_after}
use Rattle.streetmap_checking.proofs.Owning.{last_is, one_head_more}
use Rattle.streetmap_checking.proofs.collections.CollectionRowsRowFold.take.Goals as goal

pub returns-in_err-head : goal.returns-in_err-head
returns-in_err-head c = λ start rows held. handed_on _ _ _ _ c.from_residual.ensures.1 (not_taken head_cells IsCollectionHead name_of_cells rows c.args.row.now
    held.0 _ c.in_err-head.ensures)

pub returns-then-not-follows : goal.returns-then-not-follows
returns-then-not-follows c = λ start rows held.
    let off : c.follows.result ≡ false = search rules in
    let head = c.in_ok-head.ensures in
    let id : c.as_str.result.now ≡ string_bytes c.in_ok-head.head.id = search rules in
    let known_last : option_copied c.last_id.result ≡ last_key (known c.args.self.now.heads.items) = search rules in
    let last = last_is _ _ _ held.1 known_last in
    not_after head_cells IsCollectionHead name_of_cells rows c.args.row.now held.0 _ _ head.1
    (λ less. absurd (let on = sym off ∙ c.follows.ensures.1 (subst (λ l. ComesAfterLast l c.as_str.result.now) (sym last)
    (subst (ComesAfterLast (last_key held.0.entries)) (sym id) less)) in cc))

pub returns : goal.returns
unfolding grows
returns c = λ start rows held.
    let head = c.in_ok-head.ensures in
    let id : c.as_str.result.now ≡ string_bytes c.in_ok-head.head.id = search rules in
    let known_last : option_copied c.last_id.result ≡ last_key (known c.args.self.now.heads.items) = search rules in
    let last = last_is _ _ _ held.1 known_last in
    let on : c.follows.result ≡ true = search rules in
    let less = subst (ComesAfterLast (last_key held.0.entries)) id (subst (λ l. ComesAfterLast l c.as_str.result.now) last (c.follows.ensures.0 on)) in (
      grows head_cells IsCollectionHead rows c.args.row.now held.0 _ _ head.1 head.2 less,
      one_head_more _ _ c.in_ok-head.head held.0.entries head.0 c.in_ok-push.ensures.items held.1,
    )
