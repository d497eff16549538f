-- The names of faults in answers.
use Rattle.std.specs.Prelude.{ℕ, List, codes}
use Rattle.streetmap_geojson.specs.declared.fault.Fault.{Fault}
use Rattle.streetmap_geojson.specs.declared.fault.Fault.TheVariants as fault

abbrev pub fault_code : Fault → List ℕ
fault_code fault.NotJson = codes "not_json"
fault_code fault.WrongType = codes "wrong_type"
fault_code fault.BadId = codes "bad_id"
fault_code fault.BadGeometry = codes "bad_geometry"
fault_code fault.BadPosition = codes "bad_position"
fault_code fault.Fraction = codes "fraction"
fault_code fault.NestedCollection = codes "nested_collection"
fault_code fault.BadProperties = codes "bad_properties"
fault_code fault.TooDeep = codes "too_deep"
fault_code fault.TooManyPositions = codes "too_many_positions"
fault_code fault.OutOfGrid = codes "out_of_grid"
fault_code fault.ShortLine = codes "short_line"
fault_code fault.ShortRing = codes "short_ring"
fault_code fault.OpenRing = codes "open_ring"
fault_code fault.BadTime = codes "bad_time"
fault_code fault.EmptyInterval = codes "empty_interval"
