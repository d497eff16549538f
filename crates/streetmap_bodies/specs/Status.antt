-- The status of a service.
use Rattle.std.specs.Prelude.{ℕ, Option, None, Some, true, codes}
use Rattle.serde_json.specs.Data.{Data, null, boolean, number, unsigned, string, object}
use Rattle.serde_json.specs.Data.{member, no_members}
use Rattle.streetmap_batch.specs.Text.{Text}
use Rattle.streetmap_bodies.specs.declared.status_body.TheConstants.{VERSION}

-- a key, or `null` if there is none
abbrev pub key_data : Option Text → Data
key_data None = null
key_data (Some key) = string key

-- how many batches were accepted, how many collections there are, the key of the last batch, if
-- any, that the store is open, and the version of the product
unfoldable pub status_data : (batches collections : ℕ) → (key : Option Text) → Data
status_data batches collections key =
    object (member (codes "batches") (number (unsigned batches))
    (member (codes "collections") (number (unsigned collections))
    (member (codes "key") (key_data key)
    (member (codes "open") (boolean true)
    (member (codes "version") (string VERSION.now) no_members)))))
