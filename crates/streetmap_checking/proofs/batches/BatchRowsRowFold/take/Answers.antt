use Rattle.std.proofs.Common.{◌≡◌, true, false, option_map, string_bytes, rules, subst, sym, ◌∙◌}
use Rattle.std.specs.Option.{option_copied}
use Rattle.streetmap_rows.proofs.ResultCases.{handed_on}
use Rattle.streetmap_rows.specs.Rows.{batch_cells}
use Rattle.streetmap_checking.specs.Good.{IsAccepted}
use Rattle.streetmap_checking.specs.Held.{ComesAfterLast, last_key}
use Rattle.streetmap_checking.proofs.Rising.{grows, last_end}
use Rattle.streetmap_checking.proofs.Taking.{no_batches, batch_not_after, serials_more}
use Rattle.streetmap_checking.proofs.batches.BatchRowsRowFold.take.Goals as goal

pub returns-in_err-batch : goal.returns-in_err-batch
returns-in_err-batch c = λ start rows held. handed_on _ _ _ _ c.from_residual.ensures.1 (no_batches rows c.args.row.now held.are _ c.in_err-batch.ensures)

pub returns-then-not-follows : goal.returns-then-not-follows
returns-then-not-follows c = λ start rows held.
    let off : c.follows.result ≡ false = search rules in
    let it = c.in_ok-batch.ensures in
    let key : c.as_str.result.now ≡ string_bytes c.in_ok-batch.batch.key = search rules in
    let last : option_copied c.as_deref.result ≡ option_map string_bytes c.args.self.now.last = search rules in
    batch_not_after rows c.args.row.now held.are (string_bytes c.in_ok-batch.batch.key) it.0 it.1
    (λ less. absurd (let on = sym off ∙ c.follows.ensures.1 (subst (λ l. ComesAfterLast l c.as_str.result.now) (sym (last ∙ held.last))
    (subst (ComesAfterLast (last_key held.are.entries)) (sym key) less)) in cc))

pub returns : goal.returns
unfolding grows
returns c = λ start rows held.
    let on : c.follows.result ≡ true = search rules in
    let it = c.in_ok-batch.ensures in
    let key : c.as_str.result.now ≡ string_bytes c.in_ok-batch.batch.key = search rules in
    let last : option_copied c.as_deref.result ≡ option_map string_bytes c.args.self.now.last = search rules in
    let less = subst (ComesAfterLast (last_key held.are.entries)) key (subst (λ l. ComesAfterLast l c.as_str.result.now) (last ∙ held.last)
    (c.follows.ensures.0 on)) in
    record {
      are = grows batch_cells IsAccepted rows c.args.row.now held.are (string_bytes c.in_ok-batch.batch.key) it.0 it.1 it.3 less;
      last = sym (last_end held.are.entries (string_bytes c.in_ok-batch.batch.key, it.0));
      serials = serials_more held.are.entries c.args.self.now.serials.items _ (string_bytes c.in_ok-batch.batch.key) it.0 c.in_ok-batch.batch.serial
          c.in_ok-push.ensures.items held.serials it.2;
    }
