-- What a contract sees of a base.
use Rattle.std.specs.Prelude.{ℕ, ◌-◌, List, take, length}
use Rattle.url.specs.Parts.{Parts, serialize}
use Rattle.streetmap_routes.specs.declared.base.Base.{Base}

-- its URL
abbrev pub url_of : Base → Parts
url_of base = base.url

-- a text without its last byte
abbrev pub without_last : List ℕ → List ℕ
without_last text = take (length text - 1) text

-- its text without the last slash, which links begin with
unfoldable pub root_of : Base → List ℕ
root_of base = without_last (serialize base.url)
