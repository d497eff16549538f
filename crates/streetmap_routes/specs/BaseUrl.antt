-- Which URLs are the base of links.
use Rattle.std.specs.Prelude.{◌≡◌, ℕ, List, [], None, Ok, codes, Bool, ◌||◌, IsTrue}
use Rattle.std.specs.Str.{bytes_eq}
use Rattle.url.specs.Parts.{Parts}
use Rattle.url.specs.Parser.{parse_url}

-- the schemes of the web
abbrev pub is_web : List ℕ → Bool
is_web scheme = bytes_eq scheme (codes "http") || bytes_eq scheme (codes "https")

-- a web URL with the path `/` and no user name, password, query or fragment
pub record IsBase (url : Parts) : Type 0 where
  pub scheme : IsTrue (is_web url.scheme)
  pub username : url.username ≡ []
  pub password : url.password ≡ []
  pub path : url.path ≡ codes "/"
  pub query : url.query ≡ None
  pub fragment : url.fragment ≡ None

-- the text is that of a base; URL Standard, section 4.4
abbrev pub ReadsBase : List ℕ → Parts → Type 0
ReadsBase text url = (parse_url None text ≡ Ok url) × IsBase url
