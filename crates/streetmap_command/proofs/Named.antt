-- The subcommand that was found, by its name and its arguments.
use Rattle.std.proofs.Common.{◌≡◌, List, Option, None, Some, option_map}
use Rattle.clap.specs.Words.{Row, Text}

both : {A : Type 0} (f : A → Text) (g : A → List Row) (b : A) (name : Text) (rows : List Row) → Some name ≡ Some (f b) → Some rows ≡ Some (g b)
    → ◌≡◌ {A = Option (Text × List Row)} (Some (f b, g b)) (Some (name, rows))
both f g b name rows h k = cc

pub named : {A : Type 0} (f : A → Text) (g : A → List Row) (o : Option A) (name : Text) (rows : List Row)
    → Some name ≡ option_map f o → Some rows ≡ option_map (λ (p : Text × List Row). p.1) (option_map (λ b. (f b, g b)) o)
    → ◌≡◌ {A = Option (Text × List Row)} (option_map (λ b. (f b, g b)) o) (Some (name, rows))
named f g None name rows h k = absurd (let no : Some name ≡ None = h in cc)
named f g (Some b) name rows h k = both f g b name rows h k
