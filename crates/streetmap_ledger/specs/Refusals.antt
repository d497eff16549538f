-- The names and sentences of refusals and faults.
use Rattle.std.specs.Prelude.{codes}
use Rattle.streetmap_batch.specs.Text.{Text}
use Rattle.streetmap_ledger.specs.declared.reply.Refusal.{Refusal}
use Rattle.streetmap_ledger.specs.declared.reply.Refusal.TheVariants.{NoCollection}
use Rattle.streetmap_ledger.specs.declared.reply.Refusal.TheVariants.{CollectionExists}
use Rattle.streetmap_ledger.specs.declared.reply.Refusal.TheVariants.{FeatureExists, NoFeature}
use Rattle.streetmap_ledger.specs.declared.reply.Refusal.TheVariants.{BadTime, KeyUsed, Full}
use Rattle.streetmap_ledger.specs.declared.reply.Fault.{Fault}
use Rattle.streetmap_ledger.specs.declared.reply.Fault.TheVariants.{Memory, Device, Damaged, Reopen}

-- the name of a refusal
unfoldable pub code_of : Refusal → Text
code_of NoCollection = codes "no_collection"
code_of CollectionExists = codes "collection_exists"
code_of FeatureExists = codes "feature_exists"
code_of NoFeature = codes "no_feature"
code_of BadTime = codes "bad_time"
code_of KeyUsed = codes "key_used"
code_of Full = codes "full"

-- the sentence of a refusal
unfoldable pub description_of : Refusal → Text
description_of NoCollection = codes "The collection is not there."
description_of CollectionExists = codes "The collection is there already."
description_of FeatureExists = codes "The feature is there already."
description_of NoFeature = codes "The feature is not there."
description_of BadTime = codes "The time property of the feature cannot be read."
description_of KeyUsed = codes "The key was used for another batch."
description_of Full = codes "No further batch can be taken."

-- the name of a fault
unfoldable pub fault_code : Fault → Text
fault_code Memory = codes "memory"
fault_code Device = codes "device"
fault_code Damaged = codes "damaged"
fault_code Reopen = codes "reopen"

-- the sentence of a fault
unfoldable pub fault_description : Fault → Text
fault_description Memory = codes "Memory was refused; the call may be made again."
fault_description Device = codes "The store failed and must be opened again."
fault_description Damaged = codes "The store holds a row that cannot be read."
fault_description Reopen = codes "The store is shut and must be opened again."
