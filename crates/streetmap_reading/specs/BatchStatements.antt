-- The texts of the statements.
use Rattle.std.specs.Prelude.{ℕ, List, codes}

-- all columns of the batch with a serial
abbrev pub select_serial : List ℕ
select_serial =
    codes "SELECT key, body, opened, inserted, replaced, deleted, serial FROM streetmap_batches WHERE serial = ?1"

-- all columns of the batches after a serial, in order of their serials
abbrev pub select_after : List ℕ
select_after =
    codes "SELECT key, body, opened, inserted, replaced, deleted, serial FROM streetmap_batches WHERE serial > ?1 ORDER BY serial"
