use Rattle.std.proofs.Common.{◌≡◌, rules, length, IsTrue, IsUtf8, string_bytes}
use Rattle.std.proofs.lemmas.Str.{is_utf8-from_IsUtf8}
use Rattle.streetmap_batch.specs.Names.{is_collection_id, is_title}
use Rattle.streetmap_rows.proofs.ResultCases.{handed_on}
use Rattle.streetmap_checking.proofs.RowCells.{head_row}
use Rattle.streetmap_checking.proofs.Taking.{no_id, no_title, no_time}
use Rattle.streetmap_checking.proofs.collections.head_in.Goals as goal

pub returns-in_err-id : goal.returns-in_err-id
returns-in_err-id c = handed_on _ _ _ _ c.from_residual.ensures.1 (no_id c.args.row.now _ c.in_err-id.ensures.exact)

pub returns-in_err-title : goal.returns-in_err-title
returns-in_err-title c = handed_on _ _ _ _ c.from_residual-in_err-title.ensures.1 (no_title c.args.row.now _ c.in_err-title.ensures.exact)

pub returns-in_err-time : goal.returns-in_err-time
returns-in_err-time c = handed_on _ _ _ _ c.from_residual-in_err-time.ensures.1 (no_time c.args.row.now _ c.in_err-time.ensures.exact)

pub returns-then-is_property : goal.returns-then-is_property
returns-then-is_property c =
    let three : length c.args.row.now ≡ 3 = search rules in
    let named : IsTrue (is_collection_id (string_bytes c.in_ok-id.id)) = search rules in
    let titled : IsTrue (is_title (string_bytes c.in_ok-title.title)) = search rules in
    let text : IsUtf8 (string_bytes c.in_ok-title.title) = search rules in (
      string_bytes c.in_ok-title.title,
      head_row _ _ _ _ three c.in_ok-id.ensures.exact.1 c.in_ok-title.ensures.exact.1 c.in_ok-time.ensures.exact.1,
      record { named = named; titled = (titled, is_utf8-from_IsUtf8 _ text); timed = c.is_property.ensures.0 (search rules) },
    )
