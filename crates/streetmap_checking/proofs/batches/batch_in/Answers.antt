use Rattle.std.proofs.Common.{◌≡◌, false, rules, length, IsTrue, string_bytes, pos, sym, ◌∙◌}
use Rattle.sqlite.specs.Order.{column}
use Rattle.sqlite.specs.declared.types.Value.TheVariants.{Int}
use Rattle.streetmap_batch.specs.Names.{is_key}
use Rattle.streetmap_rows.proofs.ResultCases.{handed_on}
use Rattle.streetmap_checking.specs.Good.{HasBatch}
use Rattle.streetmap_checking.proofs.Taking.{no_key, has_batch, batch_of}
use Rattle.streetmap_checking.proofs.batches.batch_in.Goals as goal

pub returns-in_err-key : goal.returns-in_err-key
returns-in_err-key c = handed_on _ _ _ _ c.from_residual.ensures.1 (no_key c.args.row.now _ c.in_err-key.ensures.exact)

pub returns-then-not-has_batch : goal.returns-then-not-has_batch
returns-then-not-has_batch c = λ key k is fine.
    let seven : length c.args.row.now ≡ 7 = search rules in
    let off : c.has_batch.result ≡ false = search rules in
    absurd (let on = sym off ∙ (c.has_batch.ensures seven).1 (has_batch _ key k is fine) in cc)

pub returns-in-Some : goal.returns-in-Some
returns-in-Some c =
    let seven : length c.args.row.now ≡ 7 = search rules in
    let has : HasBatch c.args.row.now = (c.has_batch.ensures seven).0 (search rules) in
    let keyed : IsTrue (is_key (string_bytes c.in_ok-key.key)) = search rules in
    let last : column c.args.row.now 6 ≡ Int (pos c.in-Some.serial) = search rules in
    batch_of c.args.row.now _ c.in-Some.serial seven c.in_ok-key.ensures.exact.1 has last keyed
