-- The text of a base without its last slash.
use Rattle.std.proofs.Common.{◌≡◌, ◌++◌, ◌-◌, ℕ, List, [], ◌∷◌, take, length, length-append, sym, ap, ◌∙◌, arith, codes, append_assoc, Option, None}
use Rattle.std.specs.Prelude.{is_some, unwrap_or, option_map, decimal, not, if◌then◌else◌}
use Rattle.std.proofs.Math.Seq.{take-append_seam}
use Rattle.std.specs.List.{concat}
use Rattle.url.specs.Input.{when, is_empty}
use Rattle.url.specs.Host.{host_text}
use Rattle.url.specs.Parts.{Parts, serialize, text_between, has_authority, has_credentials, host_or_empty, needs_guard}
use Rattle.url.specs.declared.slicing.Position.TheVariants.{BeforeScheme, BeforePath}
use Rattle.streetmap_routes.specs.BaseUrl.{IsBase}

-- ten pieces and what follows them
ten_pieces : (a b c d e f g h i j x : List ℕ)
    → concat (a ∷ b ∷ c ∷ d ∷ e ∷ f ∷ g ∷ h ∷ i ∷ j ∷ []) ++ x ≡ a ++ (b ++ (c ++ (d ++ (e ++ (f ++ (g ++ (h ++ (i ++ (j ++ x)))))))))
ten_pieces a b c d e f g h i j x = simp append_assoc

pieces_then : (a b c d e f g h i j x y : List ℕ) → x ≡ y
    → concat (a ∷ b ∷ c ∷ d ∷ e ∷ f ∷ g ∷ h ∷ i ∷ j ∷ []) ++ x ≡ a ++ (b ++ (c ++ (d ++ (e ++ (f ++ (g ++ (h ++ (i ++ (j ++ y)))))))))
pieces_then a b c d e f g h i j x y same =
    ten_pieces a b c d e f g h i j x ∙ ap (λ l. a ++ (b ++ (c ++ (d ++ (e ++ (f ++ (g ++ (h ++ (i ++ (j ++ l)))))))))) same

-- from the path on
abbrev from_path : List ℕ → Option (List ℕ) → Option (List ℕ) → List ℕ
from_path path query fragment =
    path ++ (when (is_some query) (codes "?") ++ (unwrap_or query [] ++ (when (is_some fragment) (codes "#") ++ (unwrap_or fragment [] ++ []))))

from_path_is : (path : List ℕ) (query fragment : Option (List ℕ)) → path ≡ codes "/" → query ≡ None → fragment ≡ None → from_path path query fragment ≡ codes "/"
from_path_is path query fragment p q f =
    ap (λ l. from_path l query fragment) p ∙ ap (λ o. from_path (codes "/") o fragment) q ∙ ap (λ o. from_path (codes "/") None o) f

-- the part of a base before its path, and the slash
pub root_and_slash : (url : Parts) → IsBase url → text_between url BeforeScheme BeforePath ++ codes "/" ≡ serialize url
root_and_slash url is =
    pieces_then url.scheme (if has_authority url then codes "://" else codes ":") url.username (when (not (is_empty url.password)) (codes ":")) url.password
    (when (has_credentials url) (codes "@")) (host_text (host_or_empty url)) (when (is_some url.port) (codes ":")) (unwrap_or (option_map decimal url.port) [])
    (when (needs_guard url) (codes "/.")) (codes "/") (from_path url.path url.query url.fragment) (sym (from_path_is url.path url.query url.fragment is.path is.query is.fragment))

-- the front of a text that ends with a slash
pub front : (root text : List ℕ) → root ++ codes "/" ≡ text → root ≡ take (length text - 1) text
front root text e =
    let long : length text - 1 ≡ length root = omega (arith, length-append root (codes "/"), ap length e) in
    sym (ap (λ n. take n text) long ∙ ap (take (length root)) (sym e) ∙ take-append_seam root (codes "/"))
